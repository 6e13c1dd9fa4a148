-- Promise: the secure instructions: what each does to registers and port, and how its step ends. Whether the mode allows it is not asked here.
use Rattle.std.specs.Prelude.{ℕ, ◌+◌, ◌-◌, ◌%◌, ◌^◌, true, false, nat_lt, if◌then◌else◌, [], ◌∷◌, length, slice_index, slice_index_or}
use Rattle.regions.specs.Modes.{SecureInstruction, Enter, Exit, IndexTrap, DivideTrap, Suspend, Resume, PrivateOn, PrivateOff, Release, Input, Check}
use Rattle.orbis_core.specs.declared.port.Port.{Port}
use Rattle.orbis_core.specs.declared.stepping.StepEnd.{StepEnd}
use Rattle.orbis_core.specs.declared.stepping.StepEnd.TheVariants as end
use Rattle.orbis_core.specs.Processor.{Processor, register, written, advanced}

-- the secure instruction of each number from 0 to 10
abbrev pub secure_of : ℕ → SecureInstruction
secure_of f =
    slice_index_or (Enter ∷ Exit ∷ Suspend ∷ Resume ∷ PrivateOn ∷ PrivateOff ∷ Release ∷ Input ∷ Check ∷ IndexTrap ∷ DivideTrap ∷ []) f Exit

-- the word that is read from a port: the next byte, or -1 after the last one
abbrev pub port_word : Port → ℕ
port_word port = if nat_lt port.next (length port.input.now) then slice_index port.input.now port.next else 2 ^ 32 - 1

-- the port after that
abbrev pub port_read : Port → Port
port_read port = if nat_lt port.next (length port.input.now) then record port { next = port.next + 1 } else port

-- how the step of a secure instruction ends
abbrev pub secure_end : SecureInstruction → Processor → StepEnd
secure_end Enter core = end.Enter
secure_end Exit core = end.Exit
secure_end Suspend core = end.Suspend
secure_end Resume core = end.Resume
secure_end PrivateOn core = end.Private true
secure_end PrivateOff core = end.Private false
secure_end Release core = end.Released (register core 3 % 2 ^ 8)
secure_end Input core = end.Input
secure_end Check core = end.Check
secure_end IndexTrap core = end.Index (register core 3)
secure_end DivideTrap core = end.Divide (register core 3)

-- the processor after it: the input goes to register 11, and nothing else is written
abbrev pub secure_core : SecureInstruction → Port → Processor → Processor
secure_core Input port core = written core 11 (port_word port)
secure_core instruction port core = advanced core

-- the port after it
abbrev pub secure_port : SecureInstruction → Port → Port
secure_port Input port = port_read port
secure_port instruction port = port
