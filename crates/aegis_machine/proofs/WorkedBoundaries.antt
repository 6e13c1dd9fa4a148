-- Worked traces: what is said of each at its boundaries, and traces of which one part is wrong. The numbers were worked out by hand.
use Rattle.std.proofs.Common.{◌≡◌, ℕ, ◌-◌, ◌/◌, ◌≤◌, true, false, List, [], ◌∷◌, ◌++◌, replicate, take, Some, refl, lit≤, arith, inl, inr}
use Rattle.execution.specs.Run.{run, state_of}
use Rattle.aegis_num.specs.declared.Block.{Block}
use Rattle.aegis_num.specs.declared.Place.TheVariants.{Tree, Log}
use Rattle.orbis_word.specs.Reading.{instruction_in, signed}
use Rattle.regions.specs.declared.Layout.{Layout}
use Rattle.regions.specs.Addresses.{class_at}
use Rattle.regions.specs.Tree.{height_of}
use Rattle.off_chip.specs.declared.Event.{Event}
use Rattle.off_chip.specs.declared.Event.TheVariants.{BlockRead, BlockWrite, WordRead, WordWrite, Note}
use Rattle.off_chip.specs.declared.Mark.TheVariants as marks
use Rattle.off_chip.specs.declared.Who.TheVariants.{Secure, Untrusted}
use Rattle.off_chip.specs.ExpectedDigests.{Digests}
use Rattle.off_chip.specs.Histories.{History, history}
use Rattle.untrusted_run.specs.declared.UntrustedEnd.TheVariants as ends
use Rattle.untrusted_run.specs.Phases.{phase_start, phase_step}
use Rattle.orbis_core.specs.ByteOrder.{bytes_of}
use Rattle.bus_machine.specs.BusMachine.{LoadedProgram, Veil}
use Rattle.aegis_machine.specs.Boundaries.{HasWholePhases, IsFuelled, IsOnPathInStep, IsOutOfFuel, IsReachedInStep, IsReadInStep, IsUnexpectedRead, IsWholePhase, accessed, blocks_in, checked, is_suspended, is_untrusted}

-- a verified block, a private one, a code block and a log block: the tree blocks 1, 2 and 3 under the root, and one of the log
abbrev pub layout : Layout
layout = record {
  verified = 1;
  private = 1;
  constants = 0;
  code = 1;
  log = 1;
  shared = 4;
  data_fits = lit≤ tt;
  log_fits = lit≤ tt;
  shared_fits = lit≤ tt;
}

-- words of code, filled up with instructions that do nothing
abbrev pub program : List ℕ → LoadedProgram
program words = record { layout = layout; statics = bytes_of (words ++ replicate 12 0x15000000); entry = 0; input = [] }

abbrev pub veil : Veil
veil n stamp payload = payload

abbrev pub block : ℕ → List ℕ → Block
block stamp payload = record { payload = payload; stamp = stamp }

-- entering takes seven events
abbrev pub entering : List Event
entering =
    Note marks.Enter
    ∷ BlockWrite (Tree 1) (block 1 [])
    ∷ BlockWrite (Tree 2) (block 2 [])
    ∷ BlockRead (Tree 3) (block 9 (replicate 64 0))
    ∷ BlockWrite (Tree 3) (block 3 [])
    ∷ BlockWrite (Tree 0) (block 4 [])
    ∷ BlockWrite (Log 0) (block 5 [])
    ∷ []

abbrev pub done : Event
done = Note (marks.Retire Secure)

abbrev pub after : List Event → History
after events = history (entering ++ events)

-- ---- fuel: here there has to be 16,642 after the events so far, and entering makes seven

fuelled : IsFuelled layout 16650 (after (done ∷ done ∷ [])) × IsFuelled layout 16649 (after (done ∷ []))
unfolding height_of
fuelled = (
  record { each = (((((((((tt, record { enough = lit≤ tt }), tt), tt), tt), tt), tt), tt), record { enough = lit≤ tt }), record { enough = lit≤ tt }) },
  record { each = ((((((((tt, record { enough = lit≤ tt }), tt), tt), tt), tt), tt), tt), record { enough = lit≤ tt }) },
)

-- an instruction begins without it, entering does, and an instruction after one that made a further event
fuelled_not : (IsFuelled layout 16649 (after (done ∷ done ∷ [])) → ⊥) × (IsFuelled layout 16641 (history (Note marks.Enter ∷ [])) → ⊥)
    × (IsFuelled layout 16648 (after (done ∷ [])) → ⊥) × (IsFuelled layout 16650 (after (BlockRead (Tree 0) (block 4 []) ∷ done ∷ done ∷ [])) → ⊥)
unfolding height_of
fuelled_not = (
  λ run. let e : 16650 ≤ 16649 = run.each.1.enough in omega (arith, e),
  λ run. let e : 16642 ≤ 16641 = run.each.1.enough in omega (arith, e),
  λ run. let e : 16649 ≤ 16648 = run.each.1.enough in omega (arith, e),
  λ run. let e : 16651 ≤ 16650 = run.each.1.enough in omega (arith, e),
)

-- at the start, where entering is over, and after an instruction
out_of_fuel : IsOutOfFuel layout 16641 (history []) × IsOutOfFuel layout 16648 (after []) × IsOutOfFuel layout 16649 (after (done ∷ []))
unfolding height_of
out_of_fuel = (
  record { boundary = refl; short = λ has. let e : 16642 ≤ 16641 = has.enough in omega (arith, e) },
  record { boundary = refl; short = λ has. let e : 16649 ≤ 16648 = has.enough in omega (arith, e) },
  record { boundary = refl; short = λ has. let e : 16650 ≤ 16649 = has.enough in omega (arith, e) },
)

-- there is enough; and a step is under way
out_of_fuel_not : (IsOutOfFuel layout 16650 (after (done ∷ [])) → ⊥) × (IsOutOfFuel layout 16000 (after (done ∷ Note (marks.Sent 1) ∷ [])) → ⊥)
unfolding height_of
out_of_fuel_not = (
  λ out. out.short (record { enough = lit≤ tt }),
  λ out. let e : false ≡ true = out.boundary in cc,
)

-- ---- untrusted code

untrusted : (is_untrusted (WordRead Untrusted 0x8000 1) ≡ true) × (is_untrusted (WordWrite Untrusted 0x8000 1) ≡ true) × (is_untrusted (Note (marks.Retire Untrusted)) ≡ true)
    × (is_untrusted (WordRead Secure 0x8000 1) ≡ false) × (is_untrusted (WordWrite Secure 0x8000 1) ≡ false) × (is_untrusted done ≡ false)
    × (is_untrusted (BlockRead (Tree 0) (block 4 [])) ≡ false) × (is_untrusted (Note marks.Suspend) ≡ false) × (is_untrusted (Note marks.Resume) ≡ false)
untrusted = (refl, refl, refl, refl, refl, refl, refl, refl, refl)

suspended : (is_suspended (after []) ≡ false) × (is_suspended (after (Note marks.Suspend ∷ [])) ≡ true) × (is_suspended (after (Note marks.Suspend ∷ done ∷ [])) ≡ true)
    × (is_suspended (after (Note marks.Suspend ∷ Note marks.Resume ∷ [])) ≡ false) × (is_suspended (after (Note marks.Suspend ∷ Note marks.Resume ∷ Note marks.Suspend ∷ [])) ≡ true)
suspended = (refl, refl, refl, refl, refl)

-- resume alone
abbrev resuming : List Event
resuming = WordRead Untrusted 0x2000 0x70000003 ∷ Note (marks.Retire Untrusted) ∷ []

whole_phase : IsWholePhase resuming
unfolding instruction_in signed
whole_phase = record {
  end = ends.Resumed;
  phase = record { at = state_of (run phase_step 4096 (phase_start (0x70000003 ∷ []))); ends = refl; events_are = refl; all_read = refl };
}

phases : HasWholePhases (history (done ∷ Note marks.Suspend ∷ resuming ++ Note marks.Resume ∷ done ∷ []))
phases = record {
  each = ((((((tt, λ is. let e : false ≡ true = is in cc), refl), λ is. refl), λ is. refl), (refl, whole_phase)), λ is. let e : false ≡ true = is in cc);
  over = refl;
}

-- an event of untrusted code in no suspension; one after its end; a suspension in another one; one that is under way; and an end of none
phases_not : (HasWholePhases (history (Note (marks.Retire Untrusted) ∷ [])) → ⊥)
    × (HasWholePhases (history (Note marks.Suspend ∷ Note marks.Resume ∷ WordRead Untrusted 0x2000 0 ∷ [])) → ⊥)
    × (HasWholePhases (history (Note marks.Suspend ∷ Note marks.Suspend ∷ Note marks.Resume ∷ [])) → ⊥)
    × (HasWholePhases (history (Note marks.Suspend ∷ resuming)) → ⊥)
    × (HasWholePhases (history (Note marks.Resume ∷ [])) → ⊥)
phases_not = (
  λ whole. let e : false ≡ true = whole.each.1 refl in cc,
  λ whole. let e : false ≡ true = whole.each.1 refl in cc,
  λ whole. let e : true ≡ false = whole.each.0.1 in cc,
  λ whole. let e : true ≡ false = whole.over in cc,
  λ whole. let e : false ≡ true = whole.each.1.0 in cc,
)

-- ---- aborts

-- digests that are the payloads, and slots that are the first byte
abbrev pub plain : Digests
plain = record { digest = λ n block. block.payload; parent = λ n. (n - 1) / 3; slot = λ n payload. take 1 payload }

-- after its write a block is expected to have the payload that was written
unexpected : IsUnexpectedRead plain 1 1 0 (BlockWrite (Tree 0) (block 1 (5 ∷ [])) ∷ BlockRead (Tree 0) (block 1 (6 ∷ [])) ∷ [])
unexpected = record {
  before = BlockWrite (Tree 0) (block 1 (5 ∷ [])) ∷ [];
  block = block 1 (6 ∷ []);
  last = refl;
  number = refl;
  entered = lit≤ tt;
  unexpected = λ same. let e : Some (5 ∷ []) ≡ Some (6 ∷ []) = same in cc;
}

-- the instruction is fetched from the third data block, so the root and block 3 are on its path, and block 1 is not
on_path : IsReachedInStep veil (program []) 0x10000080 (after []) × IsOnPathInStep veil (program []) 3 (after []) × IsOnPathInStep veil (program []) 0 (after [])
unfolding height_of
on_path = (
  record { state = _; goes = refl; reaches = inl refl },
  record { at = 0x10000080; reached = record { state = _; goes = refl; reaches = inl refl }; below = lit≤ tt; on_path = (1, lit≤ tt, refl) },
  record { at = 0x10000080; reached = record { state = _; goes = refl; reaches = inl refl }; below = lit≤ tt; on_path = (0, lit≤ tt, refl) },
)

-- l.movhi r4,0x2000; l.lwz r3,0(r4): the second instruction accesses the log block
abbrev pub logged_load : List ℕ
logged_load = 0x18802000 ∷ 0x84640000 ∷ 0x15000000 ∷ 0x15000000 ∷ []

read_in_step : IsReadInStep veil (program logged_load) 0 (after (done ∷ [])) × IsReadInStep veil (program (0x70000008 ∷ [])) 0 (after (Note marks.CheckStart ∷ []))
unfolding instruction_in signed class_at height_of
read_in_step = (
  accessed 0x20000000 (record { state = _; goes = refl; reaches = inr refl }) (lit≤ tt) refl,
  checked refl refl,
)

blocks : (blocks_in 0 (1 ∷ []) ≡ []) × (blocks_in 2 (replicate 64 1 ++ replicate 64 2) ≡ replicate 64 1 ∷ replicate 64 2 ∷ [])
blocks = (refl, refl)
