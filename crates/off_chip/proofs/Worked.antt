-- One trace that has every case, and what each definition says of it. The answers were worked out by hand from the rules.
use Rattle.std.proofs.Common.{◌≡◌, ℕ, ◌-◌, ◌/◌, ◌≤◌, zero, suc, Bool, true, false, List, [], ◌∷◌, ◌++◌, length, take, drop, replicate, eqb, Option, Some, None, refl, lit≤, arith, rules}
use Rattle.std.specs.Prelude.{if◌then◌else◌}
use Rattle.std.specs.List.{filter, filter_map}
use Rattle.aegis_num.specs.declared.storage.Block.{Block}
use Rattle.aegis_num.specs.declared.storage.Place.{Place}
use Rattle.aegis_num.specs.declared.storage.Place.TheVariants.{Tree, Log}
use Rattle.regions.specs.declared.layout.Layout.{Layout}
use Rattle.regions.specs.Tree.{height_of}
use Rattle.execution.specs.Traffic as traffic
use Rattle.off_chip.specs.declared.event.Event.{Event}
use Rattle.off_chip.specs.declared.event.Event.TheVariants.{BlockRead, BlockWrite, WordRead, WordWrite, Note}
use Rattle.off_chip.specs.declared.event.Mark.TheVariants.{Enter, Retire, Drop, CheckStart, CheckPassed, Sent, Suspend, Resume}
use Rattle.off_chip.specs.declared.event.Who.TheVariants.{Secure, Untrusted}
use Rattle.off_chip.specs.Histories.{History, no_event, ◌◂◌, history, in_order, AtEach}
use Rattle.off_chip.specs.Boundaries.{is_boundary, is_step, retired, suspensions, steps, since_step, enter_events}
use Rattle.off_chip.specs.WriteBacks.{block_writes, read_at, last_write, StampsFit}
use Rattle.off_chip.specs.FaithfulReads.{AllFaithful, TreeFaithful, LogFaithful, is_faithful, faithful_part}
use Rattle.off_chip.specs.BlockPlaces.{static_at}
use Rattle.off_chip.specs.Residency.{in_check, is_resident}
use Rattle.off_chip.specs.ExpectedDigests.{Digests, expected_digest}
use Rattle.off_chip.specs.Epochs.{LogEntry, EpochFaithful, EndedFaithful, epochs, reads_of, writes_of, open_reads, open_writes, NoReadAbove, AllSentInQuiet}
use Rattle.off_chip.specs.ExchangedWords.{words_read, words_written, pieces_sent, bytes_sent}

abbrev block : ℕ → ℕ → Block
block byte stamp = record { payload = byte ∷ []; stamp = stamp }

-- entering takes six events here: 3 is the one static block, 0 its parent, and the log has two blocks
abbrev entering : List Event
entering =
    Note Enter
    ∷ BlockRead (Tree 3) (block 7 9)
    ∷ BlockWrite (Tree 3) (block 7 1)
    ∷ BlockWrite (Tree 0) (block 30 2)
    ∷ BlockWrite (Log 0) (block 0 3)
    ∷ BlockWrite (Log 1) (block 0 4)
    ∷ []

-- events 6 to 10
abbrev first_step : List Event
first_step =
    BlockRead (Tree 0) (block 30 2)
    ∷ BlockRead (Tree 3) (block 7 1)
    ∷ BlockRead (Log 0) (block 0 3)
    ∷ WordRead Secure 0x8000 5
    ∷ Note (Retire Secure)
    ∷ []

-- events 11 to 19
abbrev second_step : List Event
second_step =
    Note (Drop (Tree 3))
    ∷ BlockWrite (Tree 0) (block 31 5)
    ∷ BlockWrite (Tree 1) (block 11 6)
    ∷ WordWrite Secure 0x8004 6
    ∷ Note Suspend
    ∷ WordRead Untrusted 0x2000 8
    ∷ Note (Retire Untrusted)
    ∷ Note Resume
    ∷ Note (Retire Secure)
    ∷ []

-- events 20 to 32: a check that passes, two pieces, and a read of the tree with an old stamp
abbrev third_step : List Event
third_step =
    Note CheckStart
    ∷ BlockWrite (Log 0) (block 9 7)
    ∷ BlockRead (Log 0) (block 9 7)
    ∷ BlockRead (Log 1) (block 0 4)
    ∷ Note CheckPassed
    ∷ Note (Sent 3)
    ∷ Note (Sent 1)
    ∷ BlockRead (Log 1) (block 0 4)
    ∷ WordRead Secure 0x8008 7
    ∷ BlockWrite (Log 1) (block 2 8)
    ∷ BlockRead (Tree 0) (block 31 4)
    ∷ WordWrite Secure 0x800c 1
    ∷ Note (Retire Secure)
    ∷ []

-- event 33, of untrusted code
abbrev late : List Event
late = WordWrite Untrusted 0x8010 9 ∷ []

abbrev trace : List Event
trace = entering ++ first_step ++ second_step ++ third_step ++ late

-- the history before event k
abbrev at : ℕ → History
at k = history (take k trace)

-- the numbers below n, and the points of the trace at which a test passes
abbrev below : ℕ → List ℕ
below zero = []
below (suc n) = below n ++ n ∷ []

abbrev points : (History → Bool) → List ℕ
points test = filter (λ k. test (at k)) (below 34)

-- the one static block has the payload 7
abbrev image : Place → Option (List ℕ)
image (Tree n) = if eqb n 3 then Some (7 ∷ []) else None
image (Log n) = None

-- digests and slots that tell what they were made of
abbrev tree : Digests
tree = record { digest = λ n block. n ∷ block.stamp ∷ block.payload; parent = λ n. (n - 1) / 3; slot = λ n payload. n ∷ payload }

abbrev entry : ℕ → ℕ → ℕ → LogEntry
entry n byte stamp = record { number = n; payload = byte ∷ []; stamp = stamp }

abbrev word_at : ℕ → ℕ → traffic.Entry ℕ
word_at at word = record { place = at; word = word }

events : length trace ≡ 34
events = refl

boundaries : points (is_boundary 6) ≡ 0 ∷ 6 ∷ 11 ∷ 20 ∷ 33 ∷ []
boundaries = refl

step-boundaries : points (is_step 6) ≡ 6 ∷ 11 ∷ 20 ∷ 33 ∷ []
step-boundaries = refl

retired-counts : (retired (take 6 trace) ≡ 0) × (retired (take 10 trace) ≡ 0) × (retired (take 11 trace) ≡ 1) × (retired (take 20 trace) ≡ 2) × (retired trace ≡ 3)
retired-counts = (refl, refl, refl, refl, refl)

suspensions-counts : (suspensions (take 15 trace) ≡ 0) × (suspensions (take 16 trace) ≡ 1) × (suspensions trace ≡ 1)
suspensions-counts = (refl, refl, refl)

-- ten data blocks have a tree of height 3, which has 40 blocks; seven of them are static, and the log has five
abbrev layout : Layout
layout = record { verified = 1; private = 2; constants = 3; code = 4; log = 5; shared = 12; data_fits = lit≤ tt; log_fits = lit≤ tt; shared_fits = lit≤ tt }

enter_events-counts : enter_events layout ≡ 53
unfolding height_of
enter_events-counts = refl

last_writes : (last_write (Tree 0) (at 12) ≡ Some (block 30 2)) × (last_write (Tree 0) (at 13) ≡ Some (block 31 5)) × (last_write (Tree 2) (at 33) ≡ None)
last_writes = (refl, refl, refl)

-- a place of the tree and one of the log with the same number are two places
last_writes-log : (last_write (Log 0) (at 21) ≡ Some (block 0 3)) × (last_write (Log 1) (at 33) ≡ Some (block 2 8)) × (last_write (Tree 1) (at 33) ≡ Some (block 11 6))
last_writes-log = (refl, refl, refl)

blocks_read : (filter_map (read_at (Tree 0)) trace ≡ block 30 2 ∷ block 31 4 ∷ []) × (filter_map (read_at (Log 1)) trace ≡ block 0 4 ∷ block 0 4 ∷ [])
blocks_read = (refl, refl)

writes-counts : (block_writes (take 2 trace) ≡ 0) × (block_writes (take 3 trace) ≡ 1) × (block_writes trace ≡ 8)
writes-counts = (refl, refl, refl)

stamps : StampsFit 8 (at 33)
stamps = record { each = search arith; count = refl }

-- the first read of a static block is faithful whatever its stamp; the first unfaithful read has an old stamp
faithful : faithful_part image trace ≡ take 30 trace
faithful = refl

faithful-first : (is_faithful image (BlockRead (Tree 3) (block 8 1)) no_event ≡ false)
    × (is_faithful image (BlockRead (Tree 2) (block 7 1)) no_event ≡ false)
    × (is_faithful image (BlockRead (Tree 3) (block 7 1)) no_event ≡ true)
faithful-first = (refl, refl, refl)

-- after a write the image does not matter
faithful-written : (is_faithful image (BlockRead (Tree 3) (block 7 9)) (at 3) ≡ false)
    × (is_faithful image (BlockRead (Log 0) (block 9 3)) (at 21) ≡ false)
    × (is_faithful image (BlockRead (Log 0) (block 0 7)) (at 22) ≡ false)
    × (is_faithful image (BlockRead (Log 0) (block 9 7)) (at 22) ≡ true)
faithful-written = (refl, refl, refl, refl)

checks : points in_check ≡ 21 ∷ 22 ∷ 23 ∷ 24 ∷ []
checks = refl

resident-0 : points (is_resident (Tree 0)) ≡ 7 ∷ 8 ∷ 9 ∷ 10 ∷ 11 ∷ 12 ∷ 31 ∷ 32 ∷ 33 ∷ []
resident-0 = refl

-- it is read twice, written, and dropped
resident-3 : points (is_resident (Tree 3)) ≡ 2 ∷ 8 ∷ 9 ∷ 10 ∷ 11 ∷ []
resident-3 = refl

resident-1 : points (is_resident (Tree 1)) ≡ []
resident-1 = refl

-- the reads of the check do not count
resident-log_0 : points (is_resident (Log 0)) ≡ 9 ∷ 10 ∷ 11 ∷ 12 ∷ 13 ∷ 14 ∷ 15 ∷ 16 ∷ 17 ∷ 18 ∷ 19 ∷ 20 ∷ 21 ∷ []
resident-log_0 = refl

resident-log_1 : points (is_resident (Log 1)) ≡ 28 ∷ 29 ∷ []
resident-log_1 = refl

-- only reads of the log can be inside a check, and a check that passed is over
resident-in_check : (is_resident (Tree 1) (BlockRead (Tree 1) (block 0 0) ◂ Note CheckStart ◂ no_event) ≡ true)
    × (is_resident (Log 1) (BlockRead (Log 1) (block 0 0) ◂ Note CheckStart ◂ Note CheckPassed ◂ no_event) ≡ false)
resident-in_check = (refl, refl)

-- block 0: its last write, whatever was read
expected-0 : (expected_digest tree 0 (at 3) ≡ None) × (expected_digest tree 0 (at 12) ≡ Some (0 ∷ 2 ∷ 30 ∷ [])) × (expected_digest tree 0 (at 33) ≡ Some (0 ∷ 5 ∷ 31 ∷ []))
expected-0 = (refl, refl, refl)

-- its parent is read after its write, and again
expected-3 : (expected_digest tree 3 (at 2) ≡ None)
    × (expected_digest tree 3 (at 6) ≡ Some (3 ∷ 1 ∷ 7 ∷ []))
    × (expected_digest tree 3 (at 7) ≡ Some (3 ∷ 30 ∷ []))
    × (expected_digest tree 3 (at 30) ≡ Some (3 ∷ 30 ∷ []))
    × (expected_digest tree 3 (at 31) ≡ Some (3 ∷ 31 ∷ []))
expected-3 = (refl, refl, refl, refl, refl)

-- it is written after a read of its parent
expected-1 : (expected_digest tree 1 (at 6) ≡ None)
    × (expected_digest tree 1 (at 13) ≡ Some (1 ∷ 30 ∷ []))
    × (expected_digest tree 1 (at 14) ≡ Some (1 ∷ 6 ∷ 11 ∷ []))
    × (expected_digest tree 1 (at 31) ≡ Some (1 ∷ 31 ∷ []))
expected-1 = (refl, refl, refl, refl)

-- two epochs, the second of which is open
epochs-two : epochs trace ≡ take 24 trace ∷ drop 25 trace ∷ []
epochs-two = refl

-- the first epoch at the end of its check
first_epoch : (open_reads (at 24) ≡ entry 0 0 3 ∷ entry 0 9 7 ∷ entry 1 0 4 ∷ [])
    × (open_writes (at 24) ≡ entry 0 0 3 ∷ entry 1 0 4 ∷ entry 0 9 7 ∷ [])
first_epoch = (refl, refl)

-- the open epoch: as written counts what the check of the first one read, its other reads do not
open_epoch : (open_reads (at 33) ≡ entry 1 0 4 ∷ [])
    × (open_writes (at 25) ≡ entry 0 9 7 ∷ entry 1 0 4 ∷ [])
    × (open_writes (at 33) ≡ entry 0 9 7 ∷ entry 1 0 4 ∷ entry 1 2 8 ∷ [])
open_epoch = (refl, refl, refl)

-- the epochs in order
epochs-in_order : (reads_of (take 24 trace) ≡ open_reads (at 24))
    × (writes_of [] (take 24 trace) ≡ open_writes (at 24))
    × (writes_of (take 24 trace) (drop 25 trace) ≡ open_writes (at 33))
epochs-in_order = (refl, refl, refl)

quiet : points (λ older. eqb (length (open_reads older)) 0) ≡ 0 ∷ 1 ∷ 2 ∷ 3 ∷ 4 ∷ 5 ∷ 6 ∷ 7 ∷ 8 ∷ 25 ∷ 26 ∷ 27 ∷ []
quiet = refl

sent_in_quiet : AllSentInQuiet (at 33)
sent_in_quiet = record { each = search rules }

sent_too_early : AllSentInQuiet (Note (Sent 1) ◂ at 24) → ⊥
sent_too_early all = let e : open_reads (at 24) ≡ [] = all.each.1.nothing in cc

not_above : NoReadAbove (at 33)
not_above = record { each = search rules }

-- eight blocks were written
above : NoReadAbove (BlockRead (Log 1) (block 2 9) ◂ at 33) → ⊥
above all = let le : 9 ≤ 8 = all.each.1 in omega arith

-- one too low, and one too high
stamps_wrong : (StampsFit 9 (BlockWrite (Log 1) (block 2 8) ◂ at 33) → ⊥) × (StampsFit 9 (BlockWrite (Log 1) (block 2 10) ◂ at 33) → ⊥)
stamps_wrong = (λ fit. let e : 8 ≡ 9 = fit.each.1 in omega arith, λ fit. let e : 10 ≡ 9 = fit.each.1 in omega arith)

words : (words_read (take 33 trace) ≡ word_at 0x8000 5 ∷ word_at 0x8008 7 ∷ []) × (words_written trace ≡ word_at 0x8004 6 ∷ word_at 0x800c 1 ∷ [])
words = (refl, refl)

pieces : (pieces_sent (take 33 trace) ≡ 3 ∷ 1 ∷ []) × (bytes_sent (take 33 trace) ≡ 4) × (bytes_sent (take 26 trace) ≡ 3)
pieces = (refl, refl, refl)

-- the steps without the marks that end them; the last one is under way
steps-four : steps 6 trace ≡ take 4 (drop 6 trace) ∷ take 8 (drop 11 trace) ∷ take 12 (drop 20 trace) ∷ late ∷ []
steps-four = refl

since-steps : (since_step 6 (at 6) ≡ []) × (since_step 6 (at 9) ≡ take 3 (drop 6 trace)) × (since_step 6 (at 11) ≡ []) × (since_step 6 (at 22) ≡ take 2 (drop 20 trace))
since-steps = (refl, refl, refl, refl)

-- with ten data blocks the seven static ones are those from number 16 to number 22 of the tree
abbrev statics : List ℕ
statics = replicate 64 5 ++ replicate 64 6

static-ends : (static_at layout statics (Tree 15) ≡ None) × (static_at layout statics (Tree 23) ≡ None) × (static_at layout statics (Log 16) ≡ None)
unfolding height_of
static-ends = (refl, refl, refl)

static-blocks : (static_at layout statics (Tree 16) ≡ Some (replicate 64 5)) × (static_at layout statics (Tree 17) ≡ Some (replicate 64 6)) × (static_at layout statics (Tree 22) ≡ Some [])
unfolding height_of
static-blocks = (refl, refl, refl)

-- all is faithful up to event 30, which is a read of the tree: the epoch is faithful all the same
all_faithful : AllFaithful image (at 30)
all_faithful = record { each = search rules }

some_unfaithful : AllFaithful image (at 31) → ⊥
some_unfaithful all = let e : false ≡ true = all.each.1 in cc

epoch_faithful : EpochFaithful image (at 33) × EndedFaithful image (at 33) × LogFaithful image (at 33)
epoch_faithful = (record { each = search rules }, record { ended = record { each = search rules } }, record { each = search rules })

-- a read with an old stamp, and its epoch once it has ended
epoch_unfaithful : (EpochFaithful image (BlockRead (Log 1) (block 0 4) ◂ at 33) → ⊥) × (LogFaithful image (BlockRead (Log 1) (block 0 4) ◂ at 33) → ⊥)
epoch_unfaithful = (λ epoch. let e : false ≡ true = epoch.each.1 in cc, λ all. let e : false ≡ true = all.each.1 in cc)

epoch_ended : EpochFaithful image (Note CheckPassed ◂ BlockRead (Log 1) (block 0 4) ◂ at 33)
    × (EndedFaithful image (Note CheckPassed ◂ BlockRead (Log 1) (block 0 4) ◂ at 33) → ⊥)
epoch_ended = (record { each = tt }, λ ended. let e : false ≡ true = ended.ended.each.1 in cc)

-- log block 1 is resident at events 28 and 29 only, and these are no boundaries; three instructions were done at the last boundary alone
at_boundaries : AtEach (is_boundary 6) (λ older. is_resident (Log 1) older ≡ false) (at 33) × (AtEach (is_boundary 6) (λ older. retired (in_order older) ≤ 2) (at 33) → ⊥)
at_boundaries = (search rules, λ each. let le : 3 ≤ 2 = each.1 in omega arith)

tree_unfaithful : TreeFaithful image (at 30) × (TreeFaithful image (at 31) → ⊥) × (TreeFaithful image (BlockRead (Log 1) (block 0 9) ◂ at 30))
tree_unfaithful = (record { each = search rules }, λ all. let e : false ≡ true = all.each.1 in cc, record { each = search rules })
