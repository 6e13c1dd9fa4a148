-- Promise: the table of the secure instructions: in which modes each is allowed, and which mode comes after it.
use Rattle.std.specs.Prelude.{Bool, true, false, if◌then◌else◌}
use Rattle.regions.specs.declared.rights.Mode.{Mode}
use Rattle.regions.specs.declared.rights.Mode.TheVariants.{Std, Te, Ptr, Ssp}

-- the mode, and the mode that the last suspension kept
pub record Modes : Type 0 where
  pub mode : Mode
  pub kept : Mode

-- the instructions that the table names; the two traps end the program as exit does
pub data SecureInstruction : Type 0 where
  Enter : SecureInstruction
  Exit : SecureInstruction
  IndexTrap : SecureInstruction
  DivideTrap : SecureInstruction
  Suspend : SecureInstruction
  Resume : SecureInstruction
  PrivateOn : SecureInstruction
  PrivateOff : SecureInstruction
  Release : SecureInstruction
  Input : SecureInstruction
  Check : SecureInstruction

-- the standard mode
abbrev pub is_standard : Mode → Bool
is_standard Std = true
is_standard Te = false
is_standard Ptr = false
is_standard Ssp = false

-- the tamper-evident mode
abbrev pub is_tamper_evident : Mode → Bool
is_tamper_evident Std = false
is_tamper_evident Te = true
is_tamper_evident Ptr = false
is_tamper_evident Ssp = false

-- the private tamper-resistant mode
abbrev pub is_private : Mode → Bool
is_private Std = false
is_private Te = false
is_private Ptr = true
is_private Ssp = false

-- the mode of a suspended program
abbrev pub is_suspended : Mode → Bool
is_suspended Std = false
is_suspended Te = false
is_suspended Ptr = false
is_suspended Ssp = true

-- one of the two modes of the secure program
abbrev pub is_secure : Mode → Bool
is_secure Std = false
is_secure Te = true
is_secure Ptr = true
is_secure Ssp = false

-- in which modes an instruction is allowed
abbrev pub allowed_in : SecureInstruction → Mode → Bool
allowed_in Enter = is_standard
allowed_in Exit = is_secure
allowed_in IndexTrap = is_secure
allowed_in DivideTrap = is_secure
allowed_in Suspend = is_secure
allowed_in Resume = is_suspended
allowed_in PrivateOn = is_tamper_evident
allowed_in PrivateOff = is_private
allowed_in Release = is_secure
allowed_in Input = is_secure
allowed_in Check = is_secure

-- the new modes after an instruction that is allowed
abbrev pub new_modes : SecureInstruction → Modes → Modes
new_modes Enter modes = record modes { mode = Te }
new_modes Exit modes = record modes { mode = Std }
new_modes IndexTrap modes = record modes { mode = Std }
new_modes DivideTrap modes = record modes { mode = Std }
new_modes Suspend modes = record { mode = Ssp; kept = modes.mode }
new_modes Resume modes = record modes { mode = modes.kept }
new_modes PrivateOn modes = record modes { mode = Ptr }
new_modes PrivateOff modes = record modes { mode = Te }
new_modes Release modes = modes
new_modes Input modes = modes
new_modes Check modes = modes

-- the modes after an instruction, which changes nothing where it is not allowed
abbrev pub modes_after : SecureInstruction → Modes → Modes
modes_after instruction modes =
    if allowed_in instruction modes.mode then new_modes instruction modes else modes
