-- Promise: the table of commands: which words on the command line mean what, and which files each command reads.
use Rattle.std.specs.Prelude.{ℕ, List, [], ◌∷◌, map, String, string_bytes, Option, None, Some}
use Rattle.std.specs.declared.alloc.Global.{Global}
use Rattle.std.specs.Option.{option_map}
use Rattle.aegis_words.specs.FileSteps.{NextStep, step_in}
use Rattle.aegis_words.specs.RunWordRow.{RunNames, run_row, run_steps}
use Rattle.aegis_words.specs.BuildWordRow.{BuildNames, build_row, build_steps}
use Rattle.aegis_words.specs.MeanWordRow.{MeanNames, mean_row, mean_steps}
use Rattle.aegis_words.specs.MakeWordRow.{MakeNames, make_row, make_steps}
use Rattle.aegis_words.specs.ListWordRow.{ListNames, list_row, list_steps}

-- what words ask for
pub data Command : Type 0 where
  Run : RunNames → Command
  Mean : MeanNames → Command
  Build : BuildNames → Command
  Listing : ListNames → Command
  Make : MakeNames → Command

-- a row of the table: the command that words are, if they are of this row
abbrev pub CommandRow : Type 0
CommandRow = List (List ℕ) → Option Command

-- the rows, in order
abbrev pub rows : List CommandRow
rows =
    (λ words. option_map Run (run_row words))
    ∷ (λ words. option_map Mean (mean_row words))
    ∷ (λ words. option_map Build (build_row words))
    ∷ (λ words. option_map Listing (list_row words))
    ∷ (λ words. option_map Make (make_row words))
    ∷ []

-- a command, or another where there is none
abbrev pub command_or : Option Command → Option Command → Option Command
command_or None other = other
command_or (Some command) other = Some command

-- the command of the first row that words are of
abbrev pub first_fitting : List CommandRow → List (List ℕ) → Option Command
first_fitting [] words = None
first_fitting (row ∷ later) words = command_or (row words) (first_fitting later words)

-- the command that the words are, if they are one
abbrev pub command_in : List (String Global) → Option Command
command_in words = first_fitting rows (map string_bytes words)

-- the file that a command reads next
abbrev pub step_after : Command → NextStep
step_after (Run names) = step_in (run_steps names)
step_after (Mean names) = step_in (mean_steps names)
step_after (Build names) = step_in (build_steps names)
step_after (Listing names) = step_in (list_steps names)
step_after (Make names) = step_in (make_steps names)
