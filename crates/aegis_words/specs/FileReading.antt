-- Promise: how far a command reads its files, and what it asks the folder for.
use Rattle.std.specs.Prelude.{ℕ, ◌≤◌, List, [], ◌∷◌, ◌++◌, length, Option, None, Some}
use Rattle.aegis_edge.specs.Folder.{Files, HoldsWhole}
use Rattle.aegis_words.specs.declared.file.File.{File}
use Rattle.aegis_words.specs.FileSteps.{FileStep, NextStep, limit_for}

-- the file of a step is there with this text, where the folder tells its files, and is not too long
pub record HasText (files : Option Files) (step : FileStep) (text : List ℕ) : Type 0 where
  pub whole : HoldsWhole files step.name text
  pub within : length text ≤ limit_for step.file

-- a command passes a step: it has one, whose file has this text, which lets the command go on
abbrev pub Passes : (File → List ℕ → Type 0) → Option Files → Option FileStep → List ℕ → Type 0
Passes Serves files None text = ⊥
Passes Serves files (Some step) text = HasText files step text × Serves step.file text

-- these texts were read one after another, the latest of them first, and each lets the command go on
abbrev pub ArePassed : NextStep → (File → List ℕ → Type 0) → Option Files → List (List ℕ) → Type 0
ArePassed next Serves files [] = Unit {0}
ArePassed next Serves files (text ∷ earlier) = ArePassed next Serves files earlier × Passes Serves files (next earlier) text

-- a step that there may be, as a list
abbrev pub listed : Option FileStep → List FileStep
listed None = []
listed (Some step) = step ∷ []

-- the files of these texts, in order
abbrev pub steps_read : NextStep → List (List ℕ) → List FileStep
steps_read next [] = []
steps_read next (text ∷ earlier) = steps_read next earlier ++ listed (next earlier)

-- the files that are asked for: those of these texts, and the next one, if there is one
abbrev pub steps_asked : NextStep → List (List ℕ) → List FileStep
steps_asked next texts = steps_read next texts ++ listed (next texts)
