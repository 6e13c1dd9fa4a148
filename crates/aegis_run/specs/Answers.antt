-- Promise: which answers are refusals and which are failures, and which of them raise a count of faults.
use Rattle.std.specs.Prelude.{◌≡◌, ℕ}
use Rattle.aegis_edge.specs.Faults.{Rose}
use Rattle.aegis_run.specs.declared.ends.End.TheVariants as run
use Rattle.aegis_run.specs.declared.ends.TopEnd.{TopEnd}
use Rattle.aegis_run.specs.declared.ends.TopEnd.TheVariants.{Run, TooLong, Token, Syntax, Typing, Plan, Image, NotYet, NoFile, ReadFault, WriteFault, OutOfMemory}

-- a file refuses the command, by its length or by its text
abbrev pub IsRefusal : TopEnd → Type 0
IsRefusal (NoFile file) = Unit {0}
IsRefusal (TooLong file) = Unit {0}
IsRefusal (Token error) = Unit {0}
IsRefusal (Syntax error) = Unit {0}
IsRefusal (Typing error) = Unit {0}
IsRefusal (Plan error) = Unit {0}
IsRefusal (Image error) = Unit {0}
IsRefusal (NotYet file) = Unit {0}
IsRefusal end = ⊥

-- a file failed, or memory ran out
abbrev pub IsFailure : TopEnd → Type 0
IsFailure ReadFault = Unit {0}
IsFailure OutOfMemory = Unit {0}
IsFailure end = ⊥

-- a file was not read, and the folder may have counted a fault
abbrev pub IsFileFault : TopEnd → Type 0
IsFileFault (NoFile file) = Unit {0}
IsFileFault (TooLong file) = Unit {0}
IsFileFault ReadFault = Unit {0}
IsFileFault end = ⊥

-- a byte was not taken by out
abbrev pub IsWriteFault : TopEnd → Type 0
IsWriteFault (Run run.WriteFault) = Unit {0}
IsWriteFault WriteFault = Unit {0}
IsWriteFault end = ⊥

-- a count of faults rises where something holds, and only there
pub record RisesWhere (P : Type 0) (before now : ℕ) : Type 0 where
  pub rose : P → Rose before now
  pub steady : (P → ⊥) → now ≡ before
