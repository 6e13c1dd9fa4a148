-- Promise: a machine over a memory on a bus stands where the bus machine of its trace stands, and goes on with it.
use Rattle.std.specs.Prelude.{◌≡◌, ℕ, ◌<◌, ◌^◌, ◌%◌, true, false, IsTrue, is_some, List, [], ◌∷◌, ◌++◌, Option, Some, None}
use Rattle.std.specs.List.{list_any}
use Rattle.execution.specs.Run.{Stops, state_of}
use Rattle.regions.specs.declared.addresses.TheConstants.{LOG_START}
use Rattle.regions.specs.declared.Mode.{Mode}
use Rattle.regions.specs.declared.Mode.TheVariants.{Te, Ptr}
use Rattle.regions.specs.Modes.{is_secure}
use Rattle.off_chip.specs.declared.Event.{Event}
use Rattle.off_chip.specs.declared.Event.TheVariants.{Note}
use Rattle.off_chip.specs.declared.Mark.TheVariants.{Retire}
use Rattle.off_chip.specs.declared.Who.TheVariants.{Secure}
use Rattle.off_chip.specs.Histories.{history}
use Rattle.off_chip.specs.Boundaries.{enter_events, is_retire}
use Rattle.orbis_core.specs.declared.StepEnd.{StepEnd}
use Rattle.orbis_core.specs.declared.StepEnd.TheVariants as end
use Rattle.orbis_core.specs.declared.Stop.{Stop}
use Rattle.orbis_core.specs.declared.Stop.TheVariants as stop
use Rattle.orbis_core.specs.declared.Why.{Why}
use Rattle.orbis_core.specs.declared.Why.TheVariants as why
use Rattle.orbis_core.specs.Accesses.{Accesses}
use Rattle.orbis_core.specs.Ideal.{Ideal, IdealEnd, Ended, Index, Divide, Refused}
use Rattle.orbis_core.specs.OwnMemory.{HasInput, is_permitted, secure_of_end}
use Rattle.orbis_core.specs.Rows.{Machine, Steps}
use Rattle.bus_machine.specs.BusAccesses.{Sight}
use Rattle.bus_machine.specs.BusMachine.{LoadedProgram, blocks_taken, bus_machine, bus_step_after}
use Rattle.bus_machine.specs.BusTurns.{StandsAt}

-- At a boundary: the bus machine of the trace has the core and the mode of the machine, the lines of the machine agree with its memory, and the
-- port has the input that is left. The mode is one of the secure program.
pub record IsTied {M : Type 0} (sight : Sight M) (program : LoadedProgram) (machine : Machine M) : Type 0 where
  pub state : Ideal
  pub stands : StandsAt (sight.veil machine.memory) program (history (sight.trace machine.memory)) state
  pub layout : sight.layout machine.memory ≡ program.layout
  pub core : state.core ≡ machine.core
  pub mode : state.mode ≡ sight.mode machine.memory
  pub secure : IsTrue (is_secure (sight.mode machine.memory))
  pub agrees : sight.Agrees machine.memory state.memory
  pub input : HasInput machine.port state.traffic

-- the bus machine has done the step that was under way, and ended so with it
pub record EndsTied {M : Type 0} (sight : Sight M) (program : LoadedProgram) (ended : IdealEnd) (memory : M) : Type 0 where
  pub at : Ideal
  pub ends : bus_machine (sight.veil memory) program (history (sight.trace memory)) ≡ Stops ended at

-- its step that is under way is refused for this reason
pub record RefusedTied {M : Type 0} (sight : Sight M) (program : LoadedProgram) (reason : Why) (memory : M) : Type 0 where
  pub at : Ideal
  pub refused : bus_step_after (enter_events program.layout) (sight.veil memory) program (history (sight.trace memory)) ≡ Stops (Refused reason) at

-- the mode after an instruction that ended so
abbrev pub mode_after : StepEnd → Mode → Mode
mode_after (end.Private true) mode = Ptr
mode_after (end.Private false) mode = Te
mode_after ended mode = mode

-- how an instruction that ended so ends the program, if it does
abbrev pub end_of : StepEnd → Option IdealEnd
end_of end.Exit = Some Ended
end_of (end.Index place) = Some (Index place)
end_of (end.Divide place) = Some (Divide place)
end_of ended = None

-- the byte that an instruction which ended so released, if it did
abbrev pub released_by : StepEnd → List ℕ
released_by (end.Released byte) = byte % 2 ^ 8 ∷ []
released_by ended = []

-- After a step came these further events, and then its mark. They end no instruction and, where the step was that of no secure instruction, there
-- are none. They read no data block, and the lines agree with what the further reads leave.
pub record Retires {M : Type 0} (sight : Sight M) (ended : StepEnd) (more : List Event) (middle last : M) : Type 0 where
  pub trace : sight.trace last ≡ sight.trace middle ++ (more ++ Note (Retire Secure) ∷ [])
  pub layout : sight.layout last ≡ sight.layout middle
  pub veil : sight.veil last ≡ sight.veil middle
  pub mode : sight.mode last ≡ mode_after ended (sight.mode middle)
  pub others : list_any is_retire more ≡ false
  pub none : is_some (secure_of_end ended) ≡ false → more ≡ []
  pub data_stays : (memory : ℕ → ℕ) (at : ℕ) → at < LOG_START → blocks_taken (sight.layout middle) (sight.veil middle) more memory at ≡ memory at
  pub agrees : (memory : ℕ → ℕ) → sight.Agrees middle memory → sight.Agrees last (blocks_taken (sight.layout middle) (sight.veil middle) more memory)

-- the machine after its step: tied again, or ended as the bus machine does
abbrev pub StandsAfter : {M : Type 0} → Sight M → LoadedProgram → Option IdealEnd → Machine M → Type 0
StandsAfter sight program None machine = IsTied sight program machine
StandsAfter sight program (Some ended) machine = EndsTied sight program ended machine.memory

-- what follows of a step of a machine that is tied
pub record StepsTied {M : Type 0} (sight : Sight M) (accesses : Accesses M) : Type 0 where
  -- where the instruction was done that the mode permits, it is tied again, or has ended
  pub retired : (program : LoadedProgram) (old new : Machine M) (ended : StepEnd) (more : List Event) (last : M) → IsTied sight program old → Steps accesses old ended new
      → ((reason : Stop) → ended ≡ end.Stopped reason → ⊥) → is_permitted (secure_of_end ended) (sight.mode old.memory) ≡ true
      → Retires sight ended more new.memory last
      → StandsAfter sight program (end_of ended) (record new { memory = last })
  -- and then the bus machine has released the bytes that it had released before, and that of the instruction
  pub released : (program : LoadedProgram) (old new : Machine M) (ended : StepEnd) (more : List Event) (last : M) (tie : IsTied sight program old) → Steps accesses old ended new
      → ((reason : Stop) → ended ≡ end.Stopped reason → ⊥) → is_permitted (secure_of_end ended) (sight.mode old.memory) ≡ true
      → Retires sight ended more new.memory last
      → (state_of (bus_machine (sight.veil last) program (history (sight.trace last)))).traffic.bytes ≡ tie.state.traffic.bytes ++ released_by ended
  -- where the memory refused it, the bus machine is refused; and so it is where the mode forbids the instruction
  pub refused : (program : LoadedProgram) (old new : Machine M) (reason : Why) → IsTied sight program old → Steps accesses old (end.Stopped (stop.Refused reason)) new
      → RefusedTied sight program reason new.memory
  pub forbidden : (program : LoadedProgram) (old new : Machine M) (ended : StepEnd) → IsTied sight program old → Steps accesses old ended new
      → is_permitted (secure_of_end ended) (sight.mode old.memory) ≡ false → RefusedTied sight program why.Mode new.memory
