-- Worked runs: what the bus machine says of them, and runs of which one part is wrong.
use Rattle.std.proofs.Common.{◌≡◌, ℕ, ◌≤◌, true, false, List, [], ◌∷◌, ◌++◌, get_or, replicate, Some, None, refl, ap, lit≤, arith}
use Rattle.execution.specs.Run.{Goes, Stops, state_of}
use Rattle.aegis_num.specs.declared.Place.TheVariants.{Log, Tree}
use Rattle.orbis_word.specs.Reading.{instruction_in, signed}
use Rattle.regions.specs.Addresses.{class_at}
use Rattle.regions.specs.Tree.{height_of}
use Rattle.regions.specs.Modes.{Check, DivideTrap, Exit, IndexTrap, Input, Release, Suspend}
use Rattle.off_chip.specs.declared.Event.{Event}
use Rattle.off_chip.specs.declared.Event.TheVariants.{BlockRead, Note}
use Rattle.off_chip.specs.declared.Mark.TheVariants as marks
use Rattle.off_chip.specs.declared.Who.TheVariants.{Untrusted}
use Rattle.off_chip.specs.Histories.{History, history}
use Rattle.orbis_core.specs.ByteOrder.{bytes_of}
use Rattle.orbis_core.specs.Ideal.{Ended, Index, Starved}
use Rattle.bus_machine.specs.BusData.{ChecksOnce, EndsSo, GoesOn, SendsSo, StartsDue, asks_check, before_step, check_due, most_held, sent_before_step}
use Rattle.bus_machine.specs.BusMachine.{LoadedProgram, bus_machine}
use Rattle.bus_machine.proofs.Worked.{block, done, entering, hello, program, veil}

-- a history of the program that says hello
abbrev after : List Event → History
after events = history (entering ++ events)

abbrev greeting : LoadedProgram
greeting = program hello []

-- a log read, after which the epoch is not quiet
abbrev logged : Event
logged = BlockRead (Log 0) (block 5 (replicate 64 0))

abbrev sent : ℕ → Event
sent n = Note (marks.Sent n)

-- ---- bytes

abbrev Sends : List ℕ → List Event → Type 0
Sends handed_out events = SendsSo veil greeting handed_out (after events)

-- nothing was released, also where a byte is to be sent later; a byte was released and sent; and one is held, since a log read was made
sends : Sends [] (done ∷ []) × Sends (72 ∷ []) (done ∷ []) × Sends (72 ∷ []) (done ∷ sent 1 ∷ done ∷ []) × Sends [] (logged ∷ done ∷ done ∷ [])
unfolding instruction_in signed class_at height_of
sends = (
  record { held = []; counted = lit≤ tt; released = refl; few = lit≤ tt; quiet = λ quiet. refl },
  record { held = []; counted = lit≤ tt; released = refl; few = lit≤ tt; quiet = λ quiet. refl },
  record { held = []; counted = lit≤ tt; released = refl; few = lit≤ tt; quiet = λ quiet. refl },
  record { held = 72 ∷ []; counted = lit≤ tt; released = refl; few = lit≤ tt; quiet = λ quiet. absurd (let e : _ = quiet.nothing in cc) },
)

another : (held : List ℕ) → 72 ∷ [] ≡ 73 ∷ held → ⊥
another held same = let e : 72 ≡ 73 = ap (λ (xs : List ℕ). get_or xs 0 0) same in omega (arith, e)

some : (held : List ℕ) → 72 ∷ [] ≡ held → held ≡ [] → ⊥
some held same none = cc

none : (held : List ℕ) → [] ≡ 72 ∷ held → ⊥
none held same = cc

above : 1 ≤ 0 → ⊥
above counted = omega (arith, counted)

-- another byte was sent; a byte was handed out for which there is no mark, while it is held; a quiet epoch lets none be held; and more was counted than was handed out
sends_not : (Sends (73 ∷ []) (done ∷ sent 1 ∷ done ∷ []) → ⊥) × (Sends [] (done ∷ done ∷ []) → ⊥) × (Sends [] (done ∷ sent 1 ∷ done ∷ []) → ⊥)
    × (Sends (72 ∷ []) (done ∷ sent 1 ∷ []) → ⊥)
unfolding instruction_in signed class_at height_of
sends_not = (
  λ so. another so.held so.released,
  λ so. some so.held so.released (so.quiet (record { nothing = refl })),
  λ so. above so.counted,
  λ so. none so.held so.released,
)

most : most_held ≡ 256
most = refl

-- ---- ends

goes : GoesOn veil greeting (after (done ∷ done ∷ []))
unfolding instruction_in signed class_at height_of
goes = record { state = _; goes = refl }

-- it has ended, or is starved
goes_not : (GoesOn veil greeting (after (done ∷ done ∷ done ∷ [])) → ⊥) × (GoesOn veil (program (0x84600000 ∷ 0x70000001 ∷ 0x15000000 ∷ 0x15000000 ∷ []) []) (after (done ∷ [])) → ⊥)
unfolding instruction_in signed class_at height_of
goes_not = (
  λ on. let e : Stops Ended (state_of (bus_machine veil greeting (after (done ∷ done ∷ done ∷ [])))) ≡ Goes on.state = on.goes in cc,
  λ on. let e : Stops Starved _ ≡ Goes on.state = on.goes in cc,
)

-- ---- checks

-- the instructions that ask for a check; and a release with which 256 bytes are held
asks : (asks_check (Some Check) 3 0 ≡ true) × (asks_check (Some Exit) 3 0 ≡ true) × (asks_check (Some IndexTrap) 3 0 ≡ true) × (asks_check (Some DivideTrap) 3 0 ≡ true)
    × (asks_check (Some Release) 255 0 ≡ true) × (asks_check (Some Release) 300 45 ≡ true) × (asks_check (Some Release) 254 0 ≡ false) × (asks_check (Some Release) 256 0 ≡ false)
    × (asks_check (Some Suspend) 255 0 ≡ false) × (asks_check (Some Input) 255 0 ≡ false) × (asks_check None 255 0 ≡ false)
asks = (refl, refl, refl, refl, refl, refl, refl, refl, refl, refl, refl)

-- the exit asks for one, the release before it does not, and after the end nothing does; nor does a private word in TE, which is refused
due : (check_due veil greeting (after (done ∷ done ∷ [])) ≡ true) × (check_due veil greeting (after (done ∷ [])) ≡ false) × (check_due veil greeting (after (done ∷ done ∷ done ∷ [])) ≡ false)
unfolding instruction_in signed class_at height_of
due = (refl, refl, refl)

-- the history at the latest boundary
before : (before_step 7 (after (done ∷ sent 1 ∷ Note (marks.Retire Untrusted) ∷ [])) ≡ after (done ∷ [])) × (before_step 7 (after (sent 1 ∷ [])) ≡ after []) × (before_step 7 (after (done ∷ [])) ≡ after (done ∷ []))
before = (refl, refl, refl)

-- what was sent in the step that is under way is not counted
before_sent : (sent_before_step greeting (after (sent 3 ∷ done ∷ sent 1 ∷ [])) ≡ 3) × (sent_before_step greeting (after (sent 3 ∷ [])) ≡ 0)
unfolding height_of
before_sent = (refl, refl)

-- a jump to the verified block, where a check instruction was read: it is not fetched
not_fetched : check_due veil (program (0x03ffffe0 ∷ 0x15000000 ∷ 0x15000000 ∷ 0x15000000 ∷ []) []) (after (BlockRead (Tree 1) (block 5 (bytes_of (replicate 16 0x70000008))) ∷ done ∷ [])) ≡ false
unfolding instruction_in signed class_at height_of
not_fetched = refl

-- in the code it is
fetched : check_due veil (program (0x70000008 ∷ 0x15000000 ∷ 0x15000000 ∷ 0x15000000 ∷ []) []) (after []) ≡ true
unfolding instruction_in signed class_at height_of
fetched = refl

abbrev Checks : List Event → Type 0
Checks events = ChecksOnce veil greeting done (after events)

-- a check passes in the step of the exit, and none in that of a release
checks : Checks (done ∷ done ∷ Note marks.CheckStart ∷ Note marks.CheckPassed ∷ []) × Checks (done ∷ [])
unfolding instruction_in signed class_at height_of
checks = (λ retires entered. refl, λ retires entered. refl)

checks_not : (Checks (done ∷ done ∷ []) → ⊥) × (Checks (done ∷ Note marks.CheckPassed ∷ []) → ⊥) × (Checks (done ∷ done ∷ Note marks.CheckPassed ∷ Note marks.CheckPassed ∷ []) → ⊥)
unfolding instruction_in signed class_at height_of
checks_not = (
  λ once. let e : 0 ≡ 1 = once refl (lit≤ tt) in cc,
  λ once. let e : 1 ≡ 0 = once refl (lit≤ tt) in cc,
  λ once. let e : 2 ≡ 1 = once refl (lit≤ tt) in cc,
)

-- a check starts in the step of the exit, and not in that of a release
starts : StartsDue veil greeting (Note marks.CheckStart) (after (done ∷ done ∷ [])) × (StartsDue veil greeting (Note marks.CheckStart) (after (done ∷ [])) → ⊥)
unfolding instruction_in signed class_at height_of
starts = (refl, λ is. let e : false ≡ true = is in cc)

-- ---- whole runs

-- the run of hello: it ended at the exit, and no other way; and one whose private load is refused in TE
abbrev whole : History
whole = after (done ∷ sent 1 ∷ done ∷ Note marks.CheckStart ∷ Note marks.CheckPassed ∷ done ∷ [])

ended : EndsSo veil greeting (Some Ended) whole
unfolding instruction_in signed class_at height_of
ended = record {
  event = done;
  before = after (done ∷ sent 1 ∷ done ∷ Note marks.CheckStart ∷ Note marks.CheckPassed ∷ []);
  last = refl;
  retires = refl;
  going = record { each = ((((((((((((tt, tt), tt), tt), tt), tt), tt), record { state = _; goes = refl }), record { state = _; goes = refl }), tt), record { state = _; goes = refl }), tt), tt) };
  at = _;
  ended = refl;
}

ended_not : (EndsSo veil greeting (Some (Index 0)) whole → ⊥) × (EndsSo veil greeting (Some Starved) whole → ⊥)
unfolding instruction_in signed class_at height_of
ended_not = (
  λ so. let e : Stops Ended _ ≡ Stops (Index 0) so.at = so.ended in cc,
  λ so. so,
)
