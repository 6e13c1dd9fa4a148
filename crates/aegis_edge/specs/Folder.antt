-- Promise: what a folder of files tells, which names it was asked for, and what reading from it may answer.
use Rattle.std.specs.Prelude.{◌≡◌, ℕ, ◌<◌, List, [], ◌∷◌, ◌++◌, length, Option, None, Some, unwrap_or}
use Rattle.aegis_edge.specs.Faults.{Rose}

-- the file of each name, where there is one
abbrev pub Files : Type 0
Files = List ℕ → Option (List ℕ)

-- a name that was asked for, and how many faults there were before
pub record Asking : Type 0 where
  pub name : List ℕ
  pub faults : ℕ

-- the bytes of a file, none where there is no file
abbrev pub content_of : Files → List ℕ → List ℕ
content_of files name = unwrap_or (files name) []

-- bytes is the front of whole
abbrev pub IsFrontOf : List ℕ → List ℕ → Type 0
IsFrontOf bytes whole = (rest : List ℕ) × (whole ≡ bytes ++ rest)

-- a folder that tells its files has this one, whole
abbrev pub HoldsWhole : Option Files → List ℕ → List ℕ → Type 0
HoldsWhole None name bytes = Unit {0}
HoldsWhole (Some files) name bytes = files name ≡ Some bytes

-- what was read is the front of the file, where the folder tells its files
abbrev pub HoldsFront : Option Files → List ℕ → List ℕ → Type 0
HoldsFront None name bytes = Unit {0}
HoldsFront (Some files) name bytes = IsFrontOf bytes (content_of files name)

-- A missing file is one that is told to be missing, at no fault; a folder that tells nothing counts a fault.
abbrev pub IsMissing : Option Files → List ℕ → ℕ → ℕ → Type 0
IsMissing None name before now = Rose before now
IsMissing (Some files) name before now = (files name ≡ None) × (now ≡ before)

-- A file that is too long is told to hold more bytes, at no fault; a folder that tells nothing counts a fault.
abbrev pub IsTooLong : Option Files → List ℕ → ℕ → ℕ → ℕ → Type 0
IsTooLong None name limit before now = Rose before now
IsTooLong (Some files) name limit before now = (limit < length (content_of files name)) × (now ≡ before)

-- the names that were asked for between two moments, in order; a folder may stop telling names, and then tells none from then on
abbrev pub Asks : Option (List Asking) → Option (List Asking) → List Asking → Type 0
Asks old None askings = Unit {0}
Asks None (Some new) askings = ⊥
Asks (Some old) (Some new) askings = new ≡ old ++ askings

-- one name was asked for
abbrev pub AsksOne : Option (List Asking) → Option (List Asking) → List ℕ → ℕ → Type 0
AsksOne old new name faults = Asks old new (record { name = name; faults = faults } ∷ [])
