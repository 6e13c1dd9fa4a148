-- Promise: the words of a `mean`, and the files that it reads.
use Rattle.std.specs.Prelude.{ℕ, if◌then◌else◌, List, [], ◌∷◌, codes, Option, None, Some}
use Rattle.std.specs.Str.{bytes_eq}
use Rattle.aegis_words.specs.declared.file.File.TheVariants.{Source, Input}
use Rattle.aegis_words.specs.FileSteps.{FileStep}
use Rattle.aegis_words.specs.NumberWords.{bound_in}

-- the names of the files that a `mean` reads, and the most loop turns
pub record MeanNames : Type 0 where
  pub source : List ℕ
  pub input : List ℕ
  pub turns : ℕ

-- the names of a `mean`, where its number of turns is there
abbrev pub mean_names : List ℕ → List ℕ → Option ℕ → Option MeanNames
mean_names source input None = None
mean_names source input (Some turns) = Some (record { source = source; input = input; turns = turns })

-- `mean SOURCE INPUT TURNS`
abbrev pub mean_row : List (List ℕ) → Option MeanNames
mean_row (command ∷ source ∷ input ∷ turns ∷ []) =
    if bytes_eq command (codes "mean") then mean_names source input (bound_in turns) else None
mean_row words = None

-- the files that a `mean` reads, in order
abbrev pub mean_steps : MeanNames → List FileStep
mean_steps names = record { file = Source; name = names.source } ∷ record { file = Input; name = names.input } ∷ []
