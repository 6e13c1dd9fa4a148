-- Promise: which files a command reads one after another, and how long each may be.
use Rattle.std.specs.Prelude.{ℕ, List, [], ◌∷◌, map, Option, None, Some}
use Rattle.aegis_num.specs.declared.limits.TheConstants.{MAX_SOURCE_BYTES, MAX_SCRIPT_BYTES, MAX_INPUT_BYTES, MAX_IMAGE_BYTES}
use Rattle.aegis_edge.specs.Folder.{Asking}
use Rattle.aegis_words.specs.declared.file.File.{File}
use Rattle.aegis_words.specs.declared.file.File.TheVariants.{Source, Script, Input, Image}

-- a file that a command asks for, by the name that its words give
pub record FileStep : Type 0 where
  pub file : File
  pub name : List ℕ

-- the most bytes that a file may hold
abbrev pub limit_for : File → ℕ
limit_for Source = MAX_SOURCE_BYTES
limit_for Script = MAX_SCRIPT_BYTES
limit_for Input = MAX_INPUT_BYTES
limit_for Image = MAX_IMAGE_BYTES

-- how a folder is asked for the files of steps, one after another, while its count of faults stands still
abbrev pub askings_for : ℕ → List FileStep → List Asking
askings_for faults steps = map (λ step. record { name = step.name; faults = faults }) steps

-- which file a command reads next, once these texts were read, the latest of them first; none where it has read them all
abbrev pub NextStep : Type 0
NextStep = List (List ℕ) → Option FileStep

-- the next of these files, where the texts have no part in the choice
abbrev pub step_in : List FileStep → NextStep
step_in [] texts = None
step_in (step ∷ later) [] = Some step
step_in (step ∷ later) (text ∷ earlier) = step_in later earlier
