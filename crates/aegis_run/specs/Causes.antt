-- Promise: why the program answers what it answers, what it asked the folder for before, and when an answer has to come.
use Rattle.std.specs.Prelude.{◌≡◌, ◌⊎◌, ℕ, List, Option, None, Some}
use Rattle.aegis_edge.specs.Faults.{Rose}
use Rattle.aegis_edge.specs.Folder.{Files, Asking, Asks, IsMissing, IsTooLong}
use Rattle.aegis_words.specs.declared.file.File.{File}
use Rattle.aegis_words.specs.CommandTable.{Command, step_after}
use Rattle.aegis_words.specs.CommandTable as asks
use Rattle.aegis_words.specs.FileReading.{HasText, ArePassed, steps_asked}
use Rattle.aegis_words.specs.FileSteps.{FileStep, askings_for, limit_for}
use Rattle.aegis_run.specs.declared.ends.TopEnd.{TopEnd}
use Rattle.aegis_run.specs.declared.ends.TopEnd.TheVariants.{Run, Mean, Done, Usage, TooLong, Token, Syntax, Typing, Plan, Image, NotYet, NoFile, ReadFault, WriteFault, OutOfMemory}
use Rattle.aegis_run.specs.Answers.{IsRefusal, IsFailure}
use Rattle.aegis_run.specs.BuildCommand.{ServesBuild, StopsBuild, IsOwnOfBuild}
use Rattle.aegis_run.specs.ListCommand.{ServesList, StopsList, IsOwnOfList}
use Rattle.aegis_run.specs.MakeCommand.{ServesMake, StopsMake, IsOwnOfMake}
use Rattle.aegis_run.specs.MeanCommand.{ServesMean, StopsMean, IsOwnOfMean}
use Rattle.aegis_run.specs.RunCommand.{ServesRun, StopsRun, IsOwnOfRun}

-- ---- a line for each command

-- the text of a file lets a command go on
abbrev pub Serves : Command → File → List ℕ → Type 0
Serves (asks.Run names) = ServesRun
Serves (asks.Mean names) = ServesMean
Serves (asks.Build names) = ServesBuild
Serves (asks.Listing names) = ServesList
Serves (asks.Make names) = ServesMake

-- why the text of a file stops a command, and which answer says so
abbrev pub Stops : Command → File → List ℕ → TopEnd → Type 0
Stops (asks.Run names) = StopsRun
Stops (asks.Mean names) = StopsMean
Stops (asks.Build names) = StopsBuild
Stops (asks.Listing names) = StopsList
Stops (asks.Make names) = StopsMake

-- the answers that a command gives once its files were read
abbrev pub IsOwn : Command → TopEnd → Type 0
IsOwn (asks.Run names) = IsOwnOfRun
IsOwn (asks.Mean names) = IsOwnOfMean
IsOwn (asks.Build names) = IsOwnOfBuild
IsOwn (asks.Listing names) = IsOwnOfList
IsOwn (asks.Make names) = IsOwnOfMake

-- ---- causes

-- the file of a step was read, and its text stops the command, as this answer says
pub record IsStoppedByText (files : Option Files) (command : Command) (step : FileStep) (end : TopEnd) : Type 0 where
  pub text : List ℕ
  pub read : HasText files step text
  pub fault : Stops command step.file text end

-- why a command answers at a file, by the folder's files, and by its count of faults before the call and now
abbrev pub CauseAtFile : Option Files → Command → FileStep → ℕ → ℕ → TopEnd → Type 0
CauseAtFile files command step before now (NoFile file) = (file ≡ step.file) × IsMissing files step.name before now
CauseAtFile files command step before now (TooLong file) =
    (file ≡ step.file) × IsTooLong files step.name (limit_for step.file) before now
CauseAtFile files command step before now (Token error) = IsStoppedByText files command step (Token error)
CauseAtFile files command step before now (Syntax error) = IsStoppedByText files command step (Syntax error)
CauseAtFile files command step before now (Typing error) = IsStoppedByText files command step (Typing error)
CauseAtFile files command step before now (NotYet file) = IsStoppedByText files command step (NotYet file)
CauseAtFile files command step before now (Plan error) = IsStoppedByText files command step (Plan error)
CauseAtFile files command step before now (Image error) = IsStoppedByText files command step (Image error)
CauseAtFile files command step before now ReadFault = Rose before now
CauseAtFile files command step before now OutOfMemory = Unit {0}
CauseAtFile files command step before now Usage = ⊥
CauseAtFile files command step before now Done = ⊥
CauseAtFile files command step before now (Run end) = ⊥
CauseAtFile files command step before now (Mean end) = ⊥
CauseAtFile files command step before now WriteFault = ⊥

-- why a command answers where it has this file to read, or has read them all
abbrev pub CauseAt : Option Files → Command → Option FileStep → ℕ → ℕ → TopEnd → Type 0
CauseAt files command (Some step) before now end = CauseAtFile files command step before now end
CauseAt files command None before now end = IsOwn command end ⊎ (end ≡ OutOfMemory)

-- a command has read files that let it go on, and has cause for an answer there
pub record HasCause (files : Option Files) (command : Command) (before now : ℕ) (end : TopEnd) : Type 0 where
  pub texts : List (List ℕ)
  pub passed : ArePassed (step_after command) (Serves command) files texts
  pub cause : CauseAt files command (step_after command texts) before now end

-- The files that it has read, and the one at which it answers, were asked for in order and once each, and no other.
pub record IsAnswered (files : Option Files) (command : Command) (before now : ℕ) (old new : Option (List Asking)) (end : TopEnd) : Type 0 where
  pub why : HasCause files command before now end
  pub asked : Asks old new (askings_for before (steps_asked (step_after command) why.texts))

-- why words are answered so: those that are no command ask for no file
abbrev pub Cause : Option Files → Option Command → ℕ → ℕ → Option (List Asking) → Option (List Asking) → TopEnd → Type 0
Cause files None before now old new end = (end ≡ Usage) × (new ≡ old)
Cause files (Some command) before now old new end = IsAnswered files command before now old new end

-- ---- what has to come

-- the folder tells its files
abbrev pub AreTold : Option Files → Type 0
AreTold None = ⊥
AreTold (Some files) = Unit {0}

-- where there is cause for a refusal, it is the answer, or memory ran out or a file failed before
abbrev pub RefusesWhere : Option Files → Command → ℕ → TopEnd → Type 0
RefusesWhere files command before end = (refusal : TopEnd) → IsRefusal refusal → HasCause files command before before refusal
    → (end ≡ refusal) ⊎ IsFailure end

-- where all files of a command were read and let it go on, the answer is one of its own, or memory ran out or a file failed before
abbrev pub Completes : Option Files → Command → TopEnd → Type 0
Completes files command end = (texts : List (List ℕ)) → ArePassed (step_after command) (Serves command) files texts
    → step_after command texts ≡ None → IsOwn command end ⊎ IsFailure end
