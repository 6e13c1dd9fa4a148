-- Promise: what a sink of bytes took, and how many it may still take.
use Rattle.std.specs.Prelude.{◌≡◌, ℕ, ◌-◌, ◌≤◌, List, ◌++◌, length, take, Option, None, Some}

-- a piece is not longer than the limit, where there is one
abbrev pub IsWithin : Option ℕ → List ℕ → Type 0
IsWithin None piece = Unit {0}
IsWithin (Some left) piece = length piece ≤ left

-- what is left of a limit after a piece of this many bytes
abbrev pub limit_after : Option ℕ → ℕ → Option ℕ
limit_after None taken = None
limit_after (Some left) taken = Some (left - taken)

-- a sink that tells its bytes has these at its end
abbrev pub Appends : Option (List ℕ) → Option (List ℕ) → List ℕ → Type 0
Appends None new piece = new ≡ None
Appends (Some old) new piece = new ≡ Some (old ++ piece)

-- a sink that tells its bytes has a front of these at its end
abbrev pub AppendsFront : Option (List ℕ) → Option (List ℕ) → List ℕ → Type 0
AppendsFront None new piece = new ≡ None
AppendsFront (Some old) new piece = (count : ℕ) × (new ≡ Some (old ++ take count piece))
