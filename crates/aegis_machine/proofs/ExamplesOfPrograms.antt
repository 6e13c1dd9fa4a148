-- Worked examples of the program that is read at entering. The digests were computed by Python's hashlib.
use Rattle.std.proofs.Common.{◌≡◌, ℕ, List, [], ◌∷◌, ◌++◌, replicate, Option, Some, None, refl, sym, ap, ◌∙◌, lit≤, arith}
use Rattle.std.specs.Prelude.{IsTrue, true, false}
use Rattle.sha1.specs.Sha1.{sha1, first_words, schedule, rounds, compress, hash_after, digest_bytes}
use Rattle.aegis_num.specs.declared.Block.{Block}
use Rattle.aegis_num.specs.declared.Place.{Place}
use Rattle.aegis_num.specs.declared.Place.TheVariants.{Tree, Log}
use Rattle.regions.specs.declared.Layout.{Layout}
use Rattle.regions.specs.Tree.{height_of}
use Rattle.off_chip.specs.declared.Event.{Event}
use Rattle.off_chip.specs.declared.Event.TheVariants.{BlockRead, BlockWrite, Note}
use Rattle.off_chip.specs.declared.Mark.TheVariants as marks
use Rattle.off_chip.specs.declared.Who.TheVariants.{Secure}
use Rattle.off_chip.specs.BlockPlaces.{static_at}
use Rattle.off_chip.specs.Boundaries.{payloads_entered}
use Rattle.off_chip.specs.FaithfulReads.{IsFaithfulRead, SomeReadUnfaithful, is_faithful}
use Rattle.off_chip.specs.Histories.{history}
use Rattle.off_chip.proofs.FaithfulLemmas.{AllFaithful-in_order, is_faithful-Decides}
use Rattle.block_hash.specs.BlockStrings.{program_string, program_digest}
use Rattle.bus_machine.specs.BusMachine.{LoadedProgram}
use Rattle.aegis_machine.specs.declared.ends.End.TheVariants as ends
use Rattle.aegis_machine.specs.Boundaries.{IsOtherProgram, blocks_in, entered_digest, loaded_digest}
use Rattle.aegis_machine.specs.FuelTests.{HasFuel}
use Rattle.aegis_machine.specs.ProgramsRead.{EndsAtEntering, ReadsLoaded, ReadsSo, SomeStaticUnfaithful}

-- a verified block, a private one, a code block and a log block: the tree blocks 1, 2 and 3 under the root, and one of the log
abbrev layout : Layout
layout = record {
  verified = 1;
  private = 1;
  constants = 0;
  code = 1;
  log = 1;
  shared = 4;
  data_fits = lit≤ tt;
  log_fits = lit≤ tt;
  shared_fits = lit≤ tt;
}

-- its one static block is tree block 3. Payloads are short, so that their digests are soon computed
abbrev loaded : LoadedProgram
loaded = record { layout = layout; statics = 1 ∷ 2 ∷ []; entry = 0; input = [] }

abbrev block : ℕ → List ℕ → Block
block stamp payload = record { payload = payload; stamp = stamp }

-- entering takes seven events
abbrev entering : List ℕ → List Event
entering payload =
    Note marks.Enter
    ∷ BlockWrite (Tree 1) (block 1 (7 ∷ []))
    ∷ BlockWrite (Tree 2) (block 2 (7 ∷ []))
    ∷ BlockRead (Tree 3) (block 9 payload)
    ∷ BlockWrite (Tree 3) (block 3 (7 ∷ []))
    ∷ BlockWrite (Tree 0) (block 4 (7 ∷ []))
    ∷ BlockWrite (Log 0) (block 5 (7 ∷ []))
    ∷ []

-- the digests of the programs with the one payload 1, 2 and with the one payload 1, 3
abbrev of_two : List ℕ
of_two = 21 ∷ 92 ∷ 95 ∷ 63 ∷ 82 ∷ 189 ∷ 247 ∷ 2 ∷ 249 ∷ 164 ∷ 144 ∷ 61 ∷ 104 ∷ 15 ∷ 57 ∷ 233 ∷ 77 ∷ 208 ∷ 29 ∷ 188 ∷ []

abbrev of_three : List ℕ
of_three = 248 ∷ 224 ∷ 202 ∷ 32 ∷ 208 ∷ 116 ∷ 220 ∷ 138 ∷ 192 ∷ 110 ∷ 6 ∷ 219 ∷ 17 ∷ 2 ∷ 206 ∷ 128 ∷ 221 ∷ 151 ∷ 19 ∷ 90 ∷ []

-- ---- blocks of bytes

-- where the bytes run out, blocks are short; bytes after the last block are in none
short : (blocks_in 3 (replicate 64 1 ++ 5 ∷ []) ≡ replicate 64 1 ∷ (5 ∷ []) ∷ [] ∷ []) × (blocks_in 1 (replicate 64 1 ++ 5 ∷ []) ≡ replicate 64 1 ∷ [])
short = (refl, refl)

-- ---- digests

loaded-two : loaded_digest loaded ≡ of_two
unfolding first_words schedule rounds compress hash_after digest_bytes sha1 program_string
loaded-two = refl

-- constant blocks count too, and come first
abbrev with_constant : LoadedProgram
with_constant = record loaded { layout = record layout { private = 0; constants = 1; data_fits = lit≤ tt }; statics = replicate 64 1 ++ 2 ∷ [] }

loaded-blocks : loaded_digest with_constant ≡ program_digest (replicate 64 1 ∷ (2 ∷ []) ∷ [])
loaded-blocks = refl

-- it is what was read that counts, not what was written
entered-three : entered_digest layout (entering (1 ∷ 3 ∷ [])) ≡ of_three
unfolding first_words schedule rounds compress hash_after digest_bytes sha1 program_string height_of
entered-three = refl

-- and only what was read at entering, in its order
later : payloads_entered layout (entering (1 ∷ 2 ∷ []) ++ BlockRead (Tree 3) (block 3 (1 ∷ 3 ∷ [])) ∷ []) ≡ (1 ∷ 2 ∷ []) ∷ []
unfolding height_of
later = refl

entered-order : payloads_entered layout (BlockRead (Tree 2) (block 1 (4 ∷ [])) ∷ BlockRead (Tree 3) (block 1 (5 ∷ [])) ∷ []) ≡ (4 ∷ []) ∷ (5 ∷ []) ∷ []
unfolding height_of
entered-order = refl

reads-loaded : ReadsLoaded loaded (entering (1 ∷ 2 ∷ []))
unfolding height_of
reads-loaded = refl

not-loaded : ReadsLoaded loaded (entering (1 ∷ 3 ∷ [])) → ⊥
unfolding first_words schedule rounds compress hash_after digest_bytes sha1 program_string height_of
not-loaded same = let e : of_three ≡ of_two = same in cc

-- ---- another program

other : IsOtherProgram loaded of_three of_two (entering (1 ∷ 3 ∷ []))
unfolding first_words schedule rounds compress hash_after digest_bytes sha1 program_string height_of
other = record { over = refl; read_is = refl; expected_is = refl; differ = λ same. let e : of_three ≡ of_two = same in cc }

-- the digests may not change places
exchanged : IsOtherProgram loaded of_two of_three (entering (1 ∷ 3 ∷ [])) → ⊥
exchanged is = let e : of_three ≡ of_two = is.expected_is ∙ loaded-two in cc

-- the trace ends with entering
further : IsOtherProgram loaded of_three of_two (entering (1 ∷ 3 ∷ []) ++ Note (marks.Retire Secure) ∷ []) → ⊥
unfolding height_of
further is = let e : 8 ≡ 7 = is.over in cc

-- and another program was read
own : (read expected : List ℕ) → IsOtherProgram loaded read expected (entering (1 ∷ 2 ∷ [])) → ⊥
unfolding height_of
own read expected is = is.differ (is.read_is ∙ sym is.expected_is)

-- what is read is what it names
unread : IsOtherProgram loaded [] of_two (entering (1 ∷ 3 ∷ [])) → ⊥
unread is = let e : [] ≡ of_three = is.read_is ∙ entered-three in cc

-- ---- unfaithful reads of static blocks

unfaithful : SomeStaticUnfaithful layout (1 ∷ 2 ∷ []) (entering (1 ∷ 3 ∷ []))
unfolding height_of
unfaithful = record {
  read = record {
    before = Note marks.Enter ∷ BlockWrite (Tree 1) (block 1 (7 ∷ [])) ∷ BlockWrite (Tree 2) (block 2 (7 ∷ [])) ∷ [];
    place = Tree 3;
    block = block 9 (1 ∷ 3 ∷ []);
    rest = BlockWrite (Tree 3) (block 3 (7 ∷ [])) ∷ BlockWrite (Tree 0) (block 4 (7 ∷ [])) ∷ BlockWrite (Log 0) (block 5 (7 ∷ [])) ∷ [];
    parts = refl;
    unfaithful = λ faithful.
        let e : false ≡ true =
        (is_faithful-Decides (λ place. static_at layout (1 ∷ 2 ∷ []) place) (Note marks.Enter ∷ BlockWrite (Tree 1) (block 1 (7 ∷ [])) ∷ BlockWrite (Tree 2) (block 2 (7 ∷ [])) ∷ []) (Tree 3)
        (block 9 (1 ∷ 3 ∷ []))).1 faithful in
        cc;
  };
  payload = 1 ∷ 2 ∷ [];
  static = refl;
}

-- what the image has was read
faithful : SomeStaticUnfaithful layout (1 ∷ 2 ∷ []) (entering (1 ∷ 2 ∷ [])) → ⊥
unfolding height_of
faithful some =
    let all = (AllFaithful-in_order (λ place. static_at layout (1 ∷ 2 ∷ []) place) (entering (1 ∷ 2 ∷ []))).0
    (record { each = (((((((tt, refl), refl), refl), refl), refl), refl), refl) }) in
    some.read.unfaithful (all.each some.read.before some.read.place some.read.block some.read.rest some.read.parts)

-- a read of the log is none of a static block
log-read : SomeStaticUnfaithful layout (1 ∷ 2 ∷ []) (BlockRead (Log 0) (block 1 (9 ∷ [])) ∷ []) → ⊥
log-read some = by some.read.before some.read.place some.read.block some.read.rest some.read.parts some.payload some.static
  where
    by : (before : List Event) (place : Place) (read : Block) (rest : List Event) → BlockRead (Log 0) (block 1 (9 ∷ [])) ∷ [] ≡ before ++ BlockRead place read ∷ rest → (payload : List ℕ)
        → static_at layout (1 ∷ 2 ∷ []) place ≡ Some payload → ⊥
    by [] place read rest parts payload static =
        let same : Log 0 ≡ place = cc in
        let e : None ≡ Some payload = ap (λ (p : Place). static_at layout (1 ∷ 2 ∷ []) p) same ∙ static in cc
    by (event ∷ []) place read rest parts payload static = cc
    by (event ∷ next ∷ before) place read rest parts payload static = cc

-- ---- a run that ends at entering

ends-entering : EndsAtEntering loaded 16642 [] (entering (1 ∷ 3 ∷ []))
ends-entering = record { fuelled = record { enough = lit≤ tt }; nothing = refl; unsent = refl; unfaithful = unfaithful }

without-fuel : EndsAtEntering loaded 16641 [] (entering (1 ∷ 3 ∷ [])) → ⊥
without-fuel ends = omega (arith, ends.fuelled.enough)

handed : EndsAtEntering loaded 16642 (5 ∷ []) (entering (1 ∷ 3 ∷ [])) → ⊥
handed ends = let e : 5 ∷ [] ≡ [] = ends.nothing in cc

sent : EndsAtEntering loaded 16642 [] (entering (1 ∷ 3 ∷ []) ++ Note (marks.Sent 1) ∷ []) → ⊥
sent ends = let e : 1 ≡ 0 = ends.unsent in cc

all-faithful : EndsAtEntering loaded 16642 [] (entering (1 ∷ 2 ∷ [])) → ⊥
all-faithful ends = faithful ends.unfaithful

-- with this end alone the run ended at entering; with each other one its own program was read, or there was no fuel for entering
reads-so : ReadsSo loaded 16642 [] (ends.AbortProgram of_three of_two) (entering (1 ∷ 3 ∷ [])) × ReadsSo loaded 16642 [] ends.Ended (entering (1 ∷ 2 ∷ []))
    × ReadsSo loaded 16641 [] (ends.FuelOut 0) []
unfolding height_of
reads-so = (ends-entering, λ has. refl, λ has. absurd (let no : ⊥ = omega (arith, has.enough) in no))

own-aborts : ReadsSo loaded 16642 [] (ends.AbortProgram of_three of_two) (entering (1 ∷ 2 ∷ [])) → ⊥
own-aborts ends = faithful ends.unfaithful

other-goes_on : ReadsSo loaded 16642 [] ends.Ended (entering (1 ∷ 3 ∷ [])) → ⊥
other-goes_on reads = not-loaded (reads (record { enough = lit≤ tt }))

other-runs_out : ReadsSo loaded 16642 [] (ends.FuelOut 0) (entering (1 ∷ 3 ∷ [])) → ⊥
other-runs_out reads = not-loaded (reads (record { enough = lit≤ tt }))
