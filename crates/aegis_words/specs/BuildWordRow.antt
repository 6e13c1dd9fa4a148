-- Promise: the words of a `build`, and the file that it reads.
use Rattle.std.specs.Prelude.{ℕ, if◌then◌else◌, List, [], ◌∷◌, codes, Option, None, Some}
use Rattle.std.specs.Str.{bytes_eq}
use Rattle.aegis_words.specs.declared.file.File.TheVariants.{Source}
use Rattle.aegis_words.specs.FileSteps.{FileStep}

-- the name of the source that a `build` reads
pub record BuildNames : Type 0 where
  pub source : List ℕ

-- `build SOURCE`
abbrev pub build_row : List (List ℕ) → Option BuildNames
build_row (command ∷ source ∷ []) = if bytes_eq command (codes "build") then Some (record { source = source }) else None
build_row words = None

-- the file that a `build` reads
abbrev pub build_steps : BuildNames → List FileStep
build_steps names = record { file = Source; name = names.source } ∷ []
