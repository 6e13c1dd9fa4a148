-- Promise: the words of a `make`. It reads no file.
use Rattle.std.specs.Prelude.{ℕ, if◌then◌else◌, List, [], ◌∷◌, codes, Option, None, Some}
use Rattle.std.specs.Str.{bytes_eq}
use Rattle.aegis_words.specs.FileSteps.{FileStep}
use Rattle.aegis_words.specs.NumberWords.{count_in}

-- how many functions the source of a `make` has
pub record MakeNames : Type 0 where
  pub number : ℕ

-- the number of a `make`, where it is there
abbrev pub make_names : Option ℕ → Option MakeNames
make_names None = None
make_names (Some number) = Some (record { number = number })

-- `make N`
abbrev pub make_row : List (List ℕ) → Option MakeNames
make_row (command ∷ number ∷ []) = if bytes_eq command (codes "make") then make_names (count_in number) else None
make_row words = None

-- the files that a `make` reads: none
abbrev pub make_steps : MakeNames → List FileStep
make_steps names = []
