-- Promise: how a secure memory is seen by the machine, and that its five accesses keep to the form of a bus.
use Rattle.bus_machine.specs.BusAccesses.{MeetsBus, Sight}
use Rattle.secure_memory.specs.MemoryAccesses.{secure_accesses}
use Rattle.secure_memory.specs.MemorySights.{Agrees, Sight as SecureSight, veil_of}

-- a memory of which a secure memory is seen: its blocks are veiled by their pads
abbrev pub bus_sight : {L M : Type 0} → (M → SecureSight L) → Sight M
bus_sight seen = record {
  layout = λ memory. (seen memory).layout;
  veil = λ memory. veil_of (seen memory);
  mode = λ memory. (seen memory).mode;
  trace = λ memory. (seen memory).trace;
  Agrees = λ memory words. Agrees (seen memory) words;
}

-- the accesses of secure memories keep to the form of a bus
abbrev pub SecureMeetsBus : Type 0 → Type 0
SecureMeetsBus L = MeetsBus (bus_sight (λ (sight : SecureSight L). sight)) (secure_accesses (λ (sight : SecureSight L). sight) (λ old new. Unit {0}))
