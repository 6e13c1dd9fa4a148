-- Promise: the words of a `list`, and the file that it reads.
use Rattle.std.specs.Prelude.{ℕ, if◌then◌else◌, List, [], ◌∷◌, codes, Option, None, Some}
use Rattle.std.specs.Str.{bytes_eq}
use Rattle.aegis_words.specs.declared.file.File.TheVariants.{Image}
use Rattle.aegis_words.specs.FileSteps.{FileStep}

-- the name of the image that a `list` reads
pub record ListNames : Type 0 where
  pub image : List ℕ

-- `list IMAGE`
abbrev pub list_row : List (List ℕ) → Option ListNames
list_row (command ∷ image ∷ []) = if bytes_eq command (codes "list") then Some (record { image = image }) else None
list_row words = None

-- the file that a `list` reads
abbrev pub list_steps : ListNames → List FileStep
list_steps names = record { file = Image; name = names.image } ∷ []
