-- Promise: a step over a memory whose calls are told in that form is a step of the bus machine over the events that it appended.
use Rattle.std.specs.Prelude.{◌≡◌, ℕ, true, is_some, IsTrue, List, ◌++◌}
use Rattle.std.specs.List.{list_all}
use Rattle.execution.specs.Traffic.{Traffic}
use Rattle.regions.specs.Modes.{is_secure}
use Rattle.off_chip.specs.declared.event.Event.{Event}
use Rattle.orbis_core.specs.declared.StepEnd.{StepEnd}
use Rattle.orbis_core.specs.Accesses.{Accesses}
use Rattle.orbis_core.specs.FlatIsIdeal.{traffic_read}
use Rattle.orbis_core.specs.Ideal.{Ideal}
use Rattle.orbis_core.specs.OwnMemory.{Answers, HasInput, secure_of_end}
use Rattle.orbis_core.specs.Rows.{Machine, IsSettledEnd, Steps}
use Rattle.bus_machine.specs.BusAccesses.{Makes, Sight, is_access_event}
use Rattle.bus_machine.specs.BusMachine.{blocks_taken, bus_step}

-- but for open words that were read and written, all went in and out that did before
pub record SameButWords (old new : Traffic ℕ) : Type 0 where
  pub input : new.input ≡ old.input
  pub bytes : new.bytes ≡ old.bytes
  pub releases : new.releases ≡ old.releases
  pub checks : new.checks ≡ old.checks
  pub suspensions : new.suspensions ≡ old.suspensions

-- the bus machine with the processor and the mode of a machine, on a memory with the blocks of these events
abbrev pub bus_state : {M : Type 0} → Sight M → Machine M → List Event → (ℕ → ℕ) → Traffic ℕ → Ideal
bus_state sight machine events memory traffic = record {
  core = machine.core;
  mode = sight.mode machine.memory;
  memory = blocks_taken (sight.layout machine.memory) (sight.veil machine.memory) events memory;
  traffic = traffic;
}

-- the bus machine goes along with a step that ends so and made these events, from a memory and what is still to come in: it has the processor
-- after it, the lines agree with its memory, and it ends as the step does, or is refused by the test of the mode
pub record GoesAlong {M : Type 0} (sight : Sight M) (old new : Machine M) (ended : StepEnd) (events : List Event) (memory : ℕ → ℕ) (traffic : Traffic ℕ) : Type 0 where
  pub after : Ideal
  pub core : after.core ≡ new.core
  pub mode : after.mode ≡ sight.mode old.memory
  pub agrees : sight.Agrees new.memory after.memory
  pub exchanged : SameButWords traffic after.traffic
  pub port : HasInput new.port (traffic_read ended after.traffic)
  pub answers : Answers ended (bus_state sight old events memory traffic) after
      (bus_step (sight.layout old.memory) events (bus_state sight old events memory traffic))

-- And where it was a secure instruction, so it does with further events in the step, if they leave the word that was fetched as it is. Such an
-- instruction changes no word of the memory.
pub record GoesAlongLater {M : Type 0} (sight : Sight M) (old new : Machine M) (ended : StepEnd) (events more : List Event) (memory : ℕ → ℕ) (traffic : Traffic ℕ) : Type 0 where
  pub port : HasInput new.port (traffic_read ended traffic)
  pub agrees : sight.Agrees new.memory (blocks_taken (sight.layout old.memory) (sight.veil old.memory) events memory)
  pub answers : Answers ended (bus_state sight old (events ++ more) memory traffic) (record (bus_state sight old (events ++ more) memory traffic) { core = new.core })
      (bus_step (sight.layout old.memory) (events ++ more) (bus_state sight old (events ++ more) memory traffic))

-- the word at an address is as it was, after these further events
abbrev pub LeaveWord : {M : Type 0} → Sight M → Machine M → List Event → List Event → (ℕ → ℕ) → ℕ → Type 0
LeaveWord sight machine events more memory at =
    blocks_taken (sight.layout machine.memory) (sight.veil machine.memory) (events ++ more) memory at
    ≡ blocks_taken (sight.layout machine.memory) (sight.veil machine.memory) events memory at

-- A step made these events, all of them of accesses; and where no check of the memory failed, the bus machine goes along from each memory
-- that the lines agree with before the step.
pub record StepsOnBus {M : Type 0} (sight : Sight M) (old new : Machine M) (ended : StepEnd) : Type 0 where
  pub events : List Event
  pub makes : Makes sight events old.memory new.memory
  pub accesses : list_all is_access_event events ≡ true
  pub goes_along : IsSettledEnd ended → (memory : ℕ → ℕ) (traffic : Traffic ℕ) → sight.Agrees old.memory memory → HasInput old.port traffic
      → GoesAlong sight old new ended events memory traffic
  pub goes_later : is_some (secure_of_end ended) ≡ true → (memory : ℕ → ℕ) (traffic : Traffic ℕ) → sight.Agrees old.memory memory → HasInput old.port traffic
      → (more : List Event) → LeaveWord sight old events more memory old.core.pc → GoesAlongLater sight old new ended events more memory traffic

-- each step does, in the modes of the secure program
abbrev pub StepIsOnBus : {M : Type 0} → Sight M → Accesses M → Type 0
StepIsOnBus {M} sight accesses =
    (old new : Machine M) (ended : StepEnd) → IsTrue (is_secure (sight.mode old.memory)) → Steps accesses old ended new → StepsOnBus sight old new ended
