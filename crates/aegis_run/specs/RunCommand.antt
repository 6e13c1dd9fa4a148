-- Promise: the command `run`: what lets it go on and what stops it, which answers are its own, and what goes out.
use Rattle.std.specs.Prelude.{◌≡◌, ◌≢◌, ℕ, List, [], Option}
use Rattle.aegis_edge.specs.Folder.{Files, HoldsWhole}
use Rattle.c_grammar.specs.declared.Program.{Program}
use Rattle.c_grammar.specs.TokenPrograms.{HasProgram}
use Rattle.aegis_words.specs.declared.file.File.{File}
use Rattle.aegis_words.specs.declared.file.File.TheVariants as file
use Rattle.aegis_words.specs.RunWordRow.{RunNames}
use Rattle.flat_machine.specs.declared.ran.ImageEnd.TheVariants as ends
use Rattle.compiled_run.specs.RunMeaning.{RunsAsMeant}
use Rattle.aegis_run.specs.declared.ends.End.{End}
use Rattle.aegis_run.specs.declared.ends.End.TheVariants as run
use Rattle.aegis_run.specs.declared.ends.TopEnd.{TopEnd}
use Rattle.aegis_run.specs.declared.ends.TopEnd.TheVariants.{Run, NotYet}
use Rattle.aegis_run.specs.SourceTexts.{IsBuildable, BuildFault}

-- the text of a file lets a run go on; it reads no image
abbrev pub ServesRun : File → List ℕ → Type 0
ServesRun file.Source text = IsBuildable text
ServesRun file.Script text = text ≡ []
ServesRun file.Input text = Unit {0}
ServesRun file.Image text = ⊥

-- why the text of a file stops a run, and which answer says so
abbrev pub StopsRun : File → List ℕ → TopEnd → Type 0
StopsRun file.Source text end = BuildFault text end
StopsRun file.Script text (NotYet file.Script) = text ≢ []
StopsRun kind text end = ⊥

-- what a run of a source on an input, with this fuel, has sent before it ends so. It counts its instructions where it used its fuel up.
abbrev pub RunSends : Program → List ℕ → ℕ → End → Option (List ℕ) → Option (List ℕ) → Type 0
RunSends program input fuel run.Ended old new = RunsAsMeant program input fuel ends.Ended old new
RunSends program input fuel (run.Index at) old new = RunsAsMeant program input fuel (ends.Index at) old new
RunSends program input fuel (run.Divide at) old new = RunsAsMeant program input fuel (ends.Divide at) old new
RunSends program input fuel (run.FuelOut count) old new = (count ≡ fuel) × RunsAsMeant program input fuel ends.FuelOut old new
RunSends program input fuel run.WriteFault old new = RunsAsMeant program input fuel ends.WriteFault old new

-- a run was started: its files are a source and an input, and it has sent what the source means
pub record RunStarted (files : Option Files) (names : RunNames) (end : End) (old new : Option (List ℕ)) : Type 0 where
  pub source : List ℕ
  pub input : List ℕ
  pub has_source : HoldsWhole files names.source source
  pub has_input : HoldsWhole files names.input input
  pub program : Program
  pub is_program : HasProgram source program
  pub sends : RunSends program input names.fuel end old new

-- what goes out before an answer of a run
abbrev pub RunCommand : Option Files → RunNames → TopEnd → Option (List ℕ) → Option (List ℕ) → Type 0
RunCommand files names (Run end) old new = RunStarted files names end old new
RunCommand files names end old new = new ≡ old

-- the answers that a run gives once its files were read
abbrev pub IsOwnOfRun : TopEnd → Type 0
IsOwnOfRun (Run end) = Unit {0}
IsOwnOfRun end = ⊥
