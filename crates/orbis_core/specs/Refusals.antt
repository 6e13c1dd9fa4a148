-- Promise: why an access is refused.
use Rattle.std.specs.Prelude.{ℕ, ◌%◌, Bool, false, ◌==◌, if◌then◌else◌, Option, Some, None, option_map, unwrap_or, Result, Ok, Err}
use Rattle.regions.specs.declared.Layout.{Layout}
use Rattle.regions.specs.declared.Mode.{Mode}
use Rattle.regions.specs.declared.Access.{Access}
use Rattle.regions.specs.Addresses.{class_at}
use Rattle.regions.specs.Rights.{rights}
use Rattle.orbis_core.specs.declared.memory.Stop.{Stop}
use Rattle.orbis_core.specs.declared.memory.Stop.TheVariants.{Refused}
use Rattle.orbis_core.specs.declared.memory.Why.{Why}
use Rattle.orbis_core.specs.declared.memory.Why.TheVariants.{Rights, Misaligned}

-- code in a mode may make an access at an address: the address has a class, and the mode this right there
abbrev pub is_allowed : Layout → Mode → Access → ℕ → Bool
is_allowed layout mode access at = unwrap_or (option_map (λ class. rights mode class access) (class_at layout at)) false

-- why the access to a word is refused, if it is
abbrev pub word_refusal : Layout → Mode → Access → ℕ → Option Why
word_refusal layout mode access at =
    if is_allowed layout mode access at then (if at % 4 == 0 then None else Some Misaligned) else Some Rights

-- why the access to a byte is refused, if it is
abbrev pub byte_refusal : Layout → Mode → Access → ℕ → Option Why
byte_refusal layout mode access at = if is_allowed layout mode access at then None else Some Rights

-- the answer of an access: this value, where it is not refused
abbrev pub answered : {T : Type 0} → Option Why → T → Result T Stop
answered None value = Ok value
answered (Some why) value = Err (Refused why)

-- what stands after an access: the new, where it is not refused
abbrev pub unless_refused : {T : Type 0} → Option Why → T → T → T
unless_refused None old new = new
unless_refused (Some why) old new = old
