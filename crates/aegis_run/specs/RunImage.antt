-- Promise: which image the command `run` runs, and how many instructions the run takes.
use Rattle.std.specs.Prelude.{◌≡◌, ℕ, List, Option}
use Rattle.aegis_edge.specs.Folder.{Files, HoldsWhole}
use Rattle.c_grammar.specs.declared.Program.{Program}
use Rattle.c_grammar.specs.TokenPrograms.{HasProgram}
use Rattle.aegis_words.specs.RunWordRow.{RunNames}
use Rattle.image_file.specs.declared.Image.{Image}
use Rattle.compiler.specs.CompilerTheorem.{IsCompiled}
use Rattle.flat_machine.specs.declared.ran.ImageEnd.TheVariants as ends
use Rattle.compiled_run.specs.RunSteps.{RunsInSteps}
use Rattle.aegis_run.specs.declared.ends.End.{End}
use Rattle.aegis_run.specs.declared.ends.End.TheVariants as run
use Rattle.aegis_run.specs.declared.ends.TopEnd.{TopEnd}
use Rattle.aegis_run.specs.declared.ends.TopEnd.TheVariants.{Run}

-- how many instructions of the image a run did that ends so
abbrev pub RunTakes : Image → List ℕ → ℕ → End → ℕ → Option (List ℕ) → Option (List ℕ) → Type 0
RunTakes image input fuel run.Ended retired old new = RunsInSteps image input fuel ends.Ended retired old new
RunTakes image input fuel (run.Index at) retired old new = RunsInSteps image input fuel (ends.Index at) retired old new
RunTakes image input fuel (run.Divide at) retired old new = RunsInSteps image input fuel (ends.Divide at) retired old new
RunTakes image input fuel (run.FuelOut count) retired old new = (count ≡ retired) × RunsInSteps image input fuel ends.FuelOut retired old new
RunTakes image input fuel run.WriteFault retired old new = RunsInSteps image input fuel ends.WriteFault retired old new

-- the image that was run is compiled from the source
pub record ImageRun (files : Option Files) (names : RunNames) (end : End) (retired : ℕ) (old new : Option (List ℕ)) : Type 0 where
  pub source : List ℕ
  pub input : List ℕ
  pub has_source : HoldsWhole files names.source source
  pub has_input : HoldsWhole files names.input input
  pub program : Program
  pub is_program : HasProgram source program
  pub image : Image
  pub compiled : IsCompiled program image
  pub takes : RunTakes image input names.fuel end retired old new

-- what was run before an answer, where it is that of a run
abbrev pub RunsImage : Option Files → RunNames → TopEnd → ℕ → Option (List ℕ) → Option (List ℕ) → Type 0
RunsImage files names (Run end) retired old new = ImageRun files names end retired old new
RunsImage files names end retired old new = Unit {0}
