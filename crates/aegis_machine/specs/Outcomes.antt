-- Promise: how an instruction of the secure program leaves a machine, beside the bus machine of its trace.
use Rattle.std.specs.Prelude.{ℕ, ◌≤◌, Option, Some, None}
use Rattle.orbis_core.specs.declared.StepEnd.{StepEnd}
use Rattle.orbis_core.specs.declared.StepEnd.TheVariants as end
use Rattle.orbis_core.specs.declared.Stop.{Stop}
use Rattle.orbis_core.specs.declared.Stop.TheVariants as stop
use Rattle.orbis_core.specs.Ideal as ideal
use Rattle.orbis_core.specs.Rows.{Machine}
use Rattle.bus_machine.specs.BusAccesses.{Sight}
use Rattle.bus_machine.specs.BusMachine.{LoadedProgram}
use Rattle.aegis_machine.specs.declared.instructions.Done.{Done}
use Rattle.aegis_machine.specs.declared.instructions.Done.TheVariants.{Goes, Ended, Index, Divide, Refused, Tree, Log}
use Rattle.aegis_machine.specs.Ties.{EndsTied, IsTied, RefusedTied}

-- what a stop of the memory makes of a machine
abbrev pub done_stopped : Stop → Done
done_stopped (stop.Refused why) = Refused why
done_stopped (stop.Tree event) = Tree event
done_stopped (stop.Log event) = Log event

-- and what a step that ended so, with all that belongs to it
abbrev pub done_of : StepEnd → Done
done_of end.Exit = Ended
done_of (end.Index place) = Index place
done_of (end.Divide place) = Divide place
done_of (end.Stopped reason) = done_stopped reason
done_of ended = Goes

-- it goes on where the bus machine of the trace does, ends as it does, and is refused as its next step is; where a check failed or the sink did, nothing is said
abbrev pub LeavesTied : {M : Type 0} → Sight M → LoadedProgram → Done → Machine M → Type 0
LeavesTied sight program Goes machine = IsTied sight program machine
LeavesTied sight program Ended machine = EndsTied sight program ideal.Ended machine.memory
LeavesTied sight program (Index place) machine = EndsTied sight program (ideal.Index place) machine.memory
LeavesTied sight program (Divide place) machine = EndsTied sight program (ideal.Divide place) machine.memory
LeavesTied sight program (Refused why) machine = RefusedTied sight program why machine.memory
LeavesTied sight program done machine = Unit {0}

-- a sink takes so many further bytes, if it has a limit
abbrev pub TakesMore : Option ℕ → ℕ → Type 0
TakesMore None count = Unit {0}
TakesMore (Some left) count = count ≤ left
