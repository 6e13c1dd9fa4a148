-- Worked histories, for where each definition holds and where not. The numbers were counted by hand.
use Rattle.std.proofs.Common.{◌≡◌, ℕ, zero, suc, ◌+◌, ◌≤◌, Bool, true, false, cond, List, [], ◌∷◌, ◌++◌, length, Option, Some, None, refl, arith, lit≤}
use Rattle.std.specs.Prelude.{unwrap_or}
use Rattle.aegis_num.specs.declared.Block.{Block}
use Rattle.aegis_num.specs.declared.Place.{Place}
use Rattle.aegis_num.specs.declared.Place.TheVariants.{Tree, Log}
use Rattle.regions.specs.declared.Layout.{Layout}
use Rattle.regions.specs.Modes.{SecureInstruction, Enter, Exit, IndexTrap, DivideTrap, Suspend, Resume, PrivateOn, PrivateOff, Release, Input, Check}
use Rattle.regions.specs.Tree.{height_of}
use Rattle.off_chip.specs.declared.Event.{Event}
use Rattle.off_chip.specs.declared.Event.TheVariants.{BlockRead, BlockWrite, WordRead, WordWrite, Note}
use Rattle.off_chip.specs.declared.Mark.TheVariants as marks
use Rattle.off_chip.specs.declared.Who.TheVariants.{Secure, Untrusted}
use Rattle.off_chip.specs.Histories.{History, no_event, ◌◂◌, first_told, followed, history, in_order}
use Rattle.off_chip.specs.WriteBacks.{same_place}
use Rattle.paced_trace.specs.EventKinds.{Kind, after_entering, among, check_mark, check_read, entering, exchange, in_step, load, removal, retirement, suspended}
use Rattle.paced_trace.specs.HeldLines.{HoldsLines}
use Rattle.paced_trace.specs.PacedSteps.{FitsStep, IsPaced, LeavesNoMore, OnlyResidentLeave, asked_among, may_check, pace_of, suspends}
use Rattle.paced_trace.proofs.CountLemmas.{length-more, step-more}

-- one verified block, one of constants, one of code and two of the log: the tree is one level high, and has four blocks
abbrev pub layout : Layout
layout = record { verified = 1; private = 0; constants = 1; code = 1; log = 2; shared = 4; data_fits = lit≤ tt; log_fits = lit≤ tt; shared_fits = lit≤ tt }

abbrev block : Block
block = record { payload = []; stamp = 0 }

abbrev pub read : Place → Event
read place = BlockRead place block

abbrev pub write : Place → Event
write place = BlockWrite place block

abbrev pub drop : Place → Event
drop place = Note (marks.Drop place)

abbrev pub done : Event
done = Note (marks.Retire Secure)

abbrev pub out : Event
out = Note (marks.Retire Untrusted)

-- entering takes nine events: its mark, two reads of static blocks, four writes of the tree and two of the log
abbrev pub entered : History
entered =
    history (Note marks.Enter ∷ read (Tree 2) ∷ read (Tree 3) ∷ write (Tree 2) ∷ write (Tree 3) ∷ write (Tree 1) ∷ write (Tree 0) ∷ write (Log 0) ∷ write (Log 1) ∷ [])

-- four steps: a load from the log, a check that sends bytes, a suspension, and a store of an open byte
abbrev pub first : List Event
first = read (Tree 0) ∷ read (Tree 3) ∷ read (Log 1) ∷ []

abbrev pub second : List Event
second = Note marks.CheckStart ∷ write (Log 1) ∷ read (Log 0) ∷ read (Log 1) ∷ Note marks.CheckPassed ∷ Note (marks.Sent 5) ∷ []

abbrev pub third : List Event
third = Note marks.Suspend ∷ WordRead Untrusted 0 7 ∷ out ∷ WordWrite Untrusted 4 7 ∷ Note marks.Resume ∷ []

abbrev pub fourth : List Event
fourth = drop (Tree 3) ∷ WordRead Secure 8 7 ∷ WordWrite Secure 8 9 ∷ []

abbrev four_steps : History
four_steps = followed entered (first ++ done ∷ (second ++ done ∷ (third ++ done ∷ (fourth ++ done ∷ []))))

-- ---- kinds

-- 30 events, 9 of them of entering: 3 loads, 2 removals, 2 open words, 2 reads and 3 marks of checks, 5 events of the suspension, and 4 ends of steps
counts : (length (in_order four_steps) ≡ 30) × (after_entering load 9 four_steps ≡ 3) × (after_entering removal 9 four_steps ≡ 2) × (after_entering exchange 9 four_steps ≡ 2)
    × (after_entering check_read 9 four_steps ≡ 2) × (after_entering check_mark 9 four_steps ≡ 3) × (after_entering suspended 9 four_steps ≡ 5)
    × (after_entering retirement 9 four_steps ≡ 4) × (after_entering entering 9 four_steps ≡ 0)
counts = (refl, refl, refl, refl, refl, refl, refl, refl, refl)

-- nothing of entering is counted where it is over; were it one event shorter, its last write would be
at_entry : (after_entering removal 9 entered ≡ 0) × (after_entering load 9 entered ≡ 0) × (after_entering removal 8 entered ≡ 1) × (after_entering entering 0 entered ≡ 1)
at_entry = (refl, refl, refl, refl)

-- the step that is under way alone, and none at a boundary
abbrev in_second : History
in_second = followed entered (first ++ done ∷ second)

of_step : (in_step load 9 (followed entered first) ≡ 3) × (in_step load 9 in_second ≡ 0) × (in_step check_read 9 in_second ≡ 2) × (in_step check_mark 9 in_second ≡ 3)
    × (in_step removal 9 in_second ≡ 1) × (in_step check_mark 9 (done ◂ in_second) ≡ 0) × (in_step load 9 entered ≡ 0) × (in_step removal 9 entered ≡ 0)
of_step = (refl, refl, refl, refl, refl, refl, refl, refl)

-- a read of the log is one of a check where it comes after the start of a check that has not passed, and a tree block is never read by a check
reads : (load (read (Log 0)) entered ≡ 1) × (check_read (read (Log 0)) entered ≡ 0) × (load (read (Log 0)) (Note marks.CheckStart ◂ entered) ≡ 0)
    × (check_read (read (Log 0)) (Note marks.CheckStart ◂ entered) ≡ 1) × (load (read (Tree 0)) (Note marks.CheckStart ◂ entered) ≡ 1)
    × (check_read (read (Tree 0)) (Note marks.CheckStart ◂ entered) ≡ 0) × (load (read (Log 0)) (Note marks.CheckPassed ◂ Note marks.CheckStart ◂ entered) ≡ 1)
reads = (refl, refl, refl, refl, refl, refl, refl)

-- ---- what leaves, where entering takes one event

abbrev enter : History
enter = Note marks.Enter ◂ no_event

-- a block leaves by a write or by its mark, and may come and leave again
come_and_go : OnlyResidentLeave 1 (write (Tree 0) ◂ read (Tree 0) ◂ drop (Tree 0) ◂ write (Log 1) ◂ read (Log 1) ◂ read (Tree 0) ◂ enter)
come_and_go = record { each = (((((((tt, tt), tt), tt), λ entered. refl), λ entered. refl), tt), λ entered. refl); none = (((((((tt, λ place. refl), tt), tt), tt), tt), tt), tt) }

-- what is written before entering is over does not count
while_entering : OnlyResidentLeave 2 (write (Tree 0) ◂ enter)
while_entering = record {
  each = ((tt, tt), λ entered. let no : 2 ≤ 1 = entered in let none : ⊥ = omega (arith, no) in absurd none);
  none = ((tt, tt), λ place. nothing (same_place place (Tree 0)));
}
  where
    nothing : (b : Bool) → unwrap_or (first_told (cond b (Some false) None) None) false ≡ false
    nothing true = refl
    nothing false = refl

-- nothing came; it left already; a check read it; another block came
leaves_unheld : (OnlyResidentLeave 1 (write (Tree 0) ◂ enter) → ⊥) × (OnlyResidentLeave 1 (drop (Tree 0) ◂ write (Tree 0) ◂ read (Tree 0) ◂ enter) → ⊥)
    × (OnlyResidentLeave 1 (write (Log 0) ◂ read (Log 0) ◂ Note marks.CheckStart ◂ enter) → ⊥) × (OnlyResidentLeave 1 (drop (Tree 1) ◂ read (Tree 0) ◂ enter) → ⊥)
leaves_unheld = (
  λ only. let no : false ≡ true = only.each.1 (lit≤ tt) in cc,
  λ only. let no : false ≡ true = only.each.1 (lit≤ tt) in cc,
  λ only. let no : false ≡ true = only.each.1 (lit≤ tt) in cc,
  λ only. let no : false ≡ true = only.each.1 (lit≤ tt) in cc,
)

-- a block is resident where entering is over
held_at_entry : OnlyResidentLeave 2 (read (Tree 0) ◂ enter) → ⊥
held_at_entry only = let no : true ≡ false = only.none.1 (Tree 0) in cc

leaves_no_more : LeavesNoMore 1 (drop (Tree 0) ◂ read (Tree 0) ◂ enter) × (LeavesNoMore 1 (drop (Tree 0) ◂ enter) → ⊥)
    × (LeavesNoMore 1 (write (Log 0) ◂ read (Log 0) ◂ Note marks.CheckStart ◂ enter) → ⊥)
leaves_no_more = (
  record { counts = lit≤ tt },
  λ more. let no : 1 ≤ 0 = more.counts in omega (arith, no),
  λ more. let no : 1 ≤ 0 = more.counts in omega (arith, no),
)

-- a block that came is held, and one that left is not; with two lines too many are told
held_lines : HoldsLines 1 1 (read (Tree 0) ◂ enter) × HoldsLines 1 1 (drop (Tree 0) ◂ read (Log 0) ◂ read (Tree 0) ◂ enter) × HoldsLines 1 0 enter
    × (HoldsLines 1 2 (read (Tree 0) ◂ enter) → ⊥) × (HoldsLines 1 0 (drop (Tree 0) ◂ enter) → ⊥)
held_lines = (
  record { counts = lit≤ tt },
  record { counts = lit≤ tt },
  record { counts = lit≤ tt },
  λ holds. let no : 2 ≤ 1 = holds.counts in omega (arith, no),
  λ holds. let no : 1 ≤ 0 = holds.counts in omega (arith, no),
)

-- of further events: one of them removes a block, and both reads are those of the check
further : (among removal entered second ≡ 1) × (among load entered second ≡ 0) × (among check_read entered second ≡ 2) × (among load entered first ≡ 3)
    × (among removal entered [] ≡ 0)
further = (refl, refl, refl, refl, refl)

-- ---- what fits a step

abbrev fits : Option SecureInstruction → List Event → Type 0
fits asked events = FitsStep layout asked (followed entered events)

abbrev pub reads_of_path : List Event
reads_of_path = read (Tree 0) ∷ read (Tree 3) ∷ []

abbrev pub word : Event
word = WordRead Secure 0 7

-- two paths of two blocks; one, with as many removals as there are; one, and a block of the log; one, and two open words
fitting : fits None (reads_of_path ++ (read (Tree 1) ∷ read (Tree 2) ∷ [])) × fits None (drop (Tree 1) ∷ write (Tree 2) ∷ drop (Log 1) ∷ reads_of_path)
    × fits None first × fits None (reads_of_path ++ (word ∷ word ∷ [])) × fits (Some Check) second × fits (Some Exit) second × fits (Some Release) (Note (marks.Sent 1) ∷ [])
    × fits (Some Suspend) third × fits None []
unfolding height_of
fitting = (
  record { accesses = lit≤ tt; marks = lit≤ tt; reads = lit≤ tt; suspension = lit≤ tt; entered = refl },
  record { accesses = lit≤ tt; marks = lit≤ tt; reads = lit≤ tt; suspension = lit≤ tt; entered = refl },
  record { accesses = lit≤ tt; marks = lit≤ tt; reads = lit≤ tt; suspension = lit≤ tt; entered = refl },
  record { accesses = lit≤ tt; marks = lit≤ tt; reads = lit≤ tt; suspension = lit≤ tt; entered = refl },
  record { accesses = lit≤ tt; marks = lit≤ tt; reads = lit≤ tt; suspension = lit≤ tt; entered = refl },
  record { accesses = lit≤ tt; marks = lit≤ tt; reads = lit≤ tt; suspension = lit≤ tt; entered = refl },
  record { accesses = lit≤ tt; marks = lit≤ tt; reads = lit≤ tt; suspension = lit≤ tt; entered = refl },
  record { accesses = lit≤ tt; marks = lit≤ tt; reads = lit≤ tt; suspension = lit≤ tt; entered = refl },
  record { accesses = lit≤ tt; marks = lit≤ tt; reads = lit≤ tt; suspension = lit≤ tt; entered = refl },
)

-- a fifth block, or after three blocks a third word
too_many_accesses : (fits None (reads_of_path ++ (read (Tree 1) ∷ read (Tree 2) ∷ read (Log 0) ∷ [])) → ⊥) × (fits None (first ++ (word ∷ word ∷ word ∷ [])) → ⊥)
unfolding height_of
too_many_accesses = (λ step. let no : 10 ≤ 8 = step.accesses in omega (arith, no), λ step. let no : 9 ≤ 8 = step.accesses in omega (arith, no))

-- a fourth mark, a third read of a log of two blocks, and marks and reads of a check in steps that have none
too_much_of_checks : (fits (Some Check) (second ++ Note (marks.Sent 5) ∷ []) → ⊥) × (fits (Some Check) (Note marks.CheckStart ∷ read (Log 0) ∷ read (Log 1) ∷ read (Log 0) ∷ []) → ⊥)
    × (fits None (Note (marks.Sent 1) ∷ []) → ⊥) × (fits (Some Suspend) (Note marks.CheckStart ∷ read (Log 0) ∷ []) → ⊥) × (fits (Some Input) (Note marks.CheckPassed ∷ []) → ⊥)
unfolding height_of
too_much_of_checks = (
  λ step. let no : 4 ≤ 3 = step.marks in omega (arith, no),
  λ step. let no : 3 ≤ 2 = step.reads in omega (arith, no),
  λ step. let no : 1 ≤ 0 = step.marks in omega (arith, no),
  λ step. let no : 1 ≤ 0 = step.reads in omega (arith, no),
  λ step. let no : 1 ≤ 0 = step.marks in omega (arith, no),
)

-- untrusted code in a step that is no suspension, and a program that is entered once more
too_much_else : (fits None third → ⊥) × (fits (Some Check) (out ∷ []) → ⊥) × (fits None (Note marks.Enter ∷ []) → ⊥)
unfolding height_of
too_much_else = (
  λ step. let no : 5 ≤ 0 = step.suspension in omega (arith, no),
  λ step. let no : 1 ≤ 0 = step.suspension in omega (arith, no),
  λ step. let no : 1 ≡ 0 = step.entered in omega (arith, no),
)

-- so many events of untrusted code
abbrev under_way : ℕ → History
under_way zero = Note marks.Suspend ◂ entered
under_way (suc n) = out ◂ under_way n

long : (n : ℕ) → length (in_order (under_way n)) ≡ n + 10
long zero = refl
long (suc n) = let e : length (in_order (under_way n)) ≡ n + 10 = long n in omega (arith, e, length-more out (under_way n))

all_suspended : (n : ℕ) → in_step suspended 9 (under_way n) ≡ n + 1
all_suspended zero = refl
all_suspended (suc n) =
    let e : in_step suspended 9 (under_way n) ≡ n + 1 = all_suspended n in
    let more : in_step suspended 9 (out ◂ under_way n) ≡ in_step suspended 9 (under_way n) + 1 = step-more suspended 9 out (under_way n) (omega (arith, long n)) refl in
    omega (arith, e, more)

none_of : (kind : Kind) → kind (Note marks.Suspend) entered ≡ 0 → ((older : History) → kind out older ≡ 0) → (n : ℕ) → in_step kind 9 (under_way n) ≡ 0
none_of kind first none zero = let e : in_step kind 9 (under_way 0) ≡ 0 + kind (Note marks.Suspend) entered = refl in omega (arith, e, first)
none_of kind first none (suc n) =
    let e : in_step kind 9 (under_way n) ≡ 0 = none_of kind first none n in
    omega (arith, e, none (under_way n), step-more kind 9 out (under_way n) (omega (arith, long n)) refl)

-- at most 16,384 events between the two marks fit, and more do not
abbrev whole : ℕ → History
whole n = Note marks.Resume ◂ under_way n

resumed : (kind : Kind) (n : ℕ) → in_step kind 9 (whole n) ≡ in_step kind 9 (under_way n) + kind (Note marks.Resume) (under_way n)
resumed kind n = step-more kind 9 (Note marks.Resume) (under_way n) (omega (arith, long n)) refl

longest : (n : ℕ) → n ≤ 16384 → FitsStep layout (Some Suspend) (whole n)
unfolding height_of
longest n few = record {
  accesses = omega (arith, resumed load n, resumed exchange n, none_of load refl (λ older. refl) n, none_of exchange refl (λ older. refl) n);
  marks = omega (arith, resumed check_mark n, none_of check_mark refl (λ older. refl) n);
  reads = omega (arith, resumed check_read n, none_of check_read refl (λ older. refl) n);
  suspension = omega (arith, few, resumed suspended n, all_suspended n);
  entered = omega (arith, resumed entering n, none_of entering refl (λ older. refl) n);
}

too_long : (n : ℕ) → 16385 ≤ n → FitsStep layout (Some Suspend) (whole n) → ⊥
unfolding height_of
too_long n many step = let most : in_step suspended 9 (whole n) ≤ 16386 = step.suspension in omega (arith, many, most, resumed suspended n, all_suspended n)

-- ---- the pace

abbrev asked : ℕ → Option SecureInstruction
asked zero = None
asked (suc zero) = Some Check
asked (suc (suc zero)) = Some Suspend
asked (suc (suc (suc n))) = None

-- of the four steps the second may have a check, and the third is a suspension
asked_so : (asked_among may_check asked 0 ≡ 0) × (asked_among may_check asked 1 ≡ 0) × (asked_among may_check asked 2 ≡ 1) × (asked_among may_check asked 4 ≡ 1)
    × (asked_among suspends asked 2 ≡ 0) × (asked_among suspends asked 3 ≡ 1) × (asked_among may_check (λ k. Some Release) 5 ≡ 5)
asked_so = (refl, refl, refl, refl, refl, refl, refl)

which : (may_check (Some Release) ≡ true) × (may_check (Some Check) ≡ true) × (may_check (Some Exit) ≡ true) × (may_check (Some IndexTrap) ≡ true)
    × (may_check (Some DivideTrap) ≡ true) × (may_check (Some Suspend) ≡ false) × (may_check (Some Resume) ≡ false) × (may_check (Some Enter) ≡ false)
    × (may_check (Some PrivateOn) ≡ false) × (may_check (Some PrivateOff) ≡ false) × (may_check (Some Input) ≡ false) × (may_check None ≡ false)
which = (refl, refl, refl, refl, refl, refl, refl, refl, refl, refl, refl, refl)

which_suspend : (suspends (Some Suspend) ≡ true) × (suspends (Some Resume) ≡ false) × (suspends (Some Check) ≡ false) × (suspends None ≡ false)
which_suspend = (refl, refl, refl, refl)

-- 9 events of entering, 9 for each step, 42 for a check, and 16,386 for a suspension
paces : (pace_of layout asked 0 ≡ 9) × (pace_of layout asked 1 ≡ 18) × (pace_of layout asked 2 ≡ 69) × (pace_of layout asked 4 ≡ 16473)
unfolding height_of
paces = (refl, refl, refl, refl)

abbrev full_step : List Event
full_step = reads_of_path ++ (read (Tree 1) ∷ read (Tree 2) ∷ drop (Tree 2) ∷ drop (Tree 1) ∷ drop (Tree 3) ∷ drop (Tree 0) ∷ [])

-- a step with as many events as can be, and one event more
paced : IsPaced layout asked four_steps × IsPaced layout asked (done ◂ followed entered full_step) × IsPaced layout asked entered
    × (IsPaced layout asked (done ◂ Note marks.CheckStart ◂ followed entered full_step) → ⊥)
unfolding height_of
paced = (record { bound = lit≤ tt }, record { bound = lit≤ tt }, record { bound = lit≤ tt }, λ paced. let no : 19 ≤ 18 = paced.bound in omega (arith, no))
