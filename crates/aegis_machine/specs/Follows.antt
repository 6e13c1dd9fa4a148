-- Device: what comes after a step, for the functions that an instruction is made of.
use Rattle.std.specs.Prelude.{◌≡◌, ℕ, Bool, true, List, [], length, Result, Ok, Err}
use Rattle.regions.specs.declared.Mode.{Mode}
use Rattle.off_chip.specs.declared.Event.{Event}
use Rattle.off_chip.specs.Histories.{history}
use Rattle.orbis_core.specs.declared.StepEnd.{StepEnd}
use Rattle.stamp_log.specs.declared.LogCause.{LogCause}
use Rattle.bus_machine.specs.BusAccesses.{Makes, Sight}
use Rattle.aegis_machine.specs.declared.instructions.Done.{Done}
use Rattle.aegis_machine.specs.declared.instructions.Done.TheVariants as done
use Rattle.aegis_machine.specs.declared.instructions.Fault.{Fault}
use Rattle.aegis_machine.specs.declared.instructions.Fault.TheVariants as fault
use Rattle.aegis_machine.specs.Guards.{Leads, MissesCheck}
use Rattle.aegis_machine.specs.InstructionsDone.{ComesAfter, makes_check}
use Rattle.aegis_machine.specs.Ties.{Retires, mode_after}

-- what a fault, or none, makes of the machine
abbrev pub answer_of : Result (Unit {0}) Fault → Done
answer_of (Ok nothing) = done.Goes
answer_of (Err reason) = done.Fault reason

-- By the answer: these events came, of which this is told with the bytes that are held after them and the piece that was sent; or a check, which was
-- due, did not pass; or the sink did not take the piece.
abbrev pub Comes : {M : Type 0} → Sight M → (LogCause → M → Type 0) → Bool → (List Event → List ℕ → List ℕ → Type 0) → (Mode → Mode)
    → Result (Unit {0}) Fault → List ℕ → List ℕ → M → M → Type 0
Comes sight Caused due Tells becomes (Ok nothing) kept piece old new =
    (events : List Event) × Tells events kept piece × Leads sight events old new × (sight.mode new ≡ becomes (sight.mode old))
Comes sight Caused due Tells becomes (Err (fault.Log cause)) kept piece old new = MissesCheck sight Caused cause old new × (piece ≡ []) × (due ≡ true)
Comes sight Caused due Tells becomes (Err fault.Sink) kept piece old new =
    (events : List Event) × (left : List ℕ) × Tells events left piece × Makes sight events old new

-- what comes after a step that ended so
abbrev pub Follows : {M : Type 0} → Sight M → (LogCause → M → Type 0) → StepEnd → Result (Unit {0}) Fault → List ℕ → List ℕ → List ℕ → M → M → Type 0
Follows sight Caused ended result held kept piece old new =
    Comes sight Caused (makes_check ended (length held)) (ComesAfter ended (history (sight.trace old)) held) (mode_after ended) result kept piece old new

-- and then its mark
abbrev pub Finishes : {M : Type 0} → Sight M → (LogCause → M → Type 0) → StepEnd → Result (Unit {0}) Fault → List ℕ → List ℕ → List ℕ → M → M → Type 0
Finishes sight Caused ended (Ok nothing) held kept piece old new =
    (events : List Event) × ComesAfter ended (history (sight.trace old)) held events kept piece × Retires sight ended events old new
Finishes sight Caused ended (Err reason) held kept piece old new = Follows sight Caused ended (Err reason) held kept piece old new
