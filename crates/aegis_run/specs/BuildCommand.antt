-- Promise: the command `build`: what lets it go on and what stops it, which answers are its own, and what goes out.
use Rattle.std.specs.Prelude.{◌≡◌, ℕ, List, Option}
use Rattle.aegis_edge.specs.Folder.{Files, HoldsWhole}
use Rattle.aegis_edge.specs.Sink.{Appends, AppendsFront}
use Rattle.c_grammar.specs.declared.Program.{Program}
use Rattle.c_grammar.specs.TokenPrograms.{HasProgram}
use Rattle.aegis_words.specs.declared.file.File.{File}
use Rattle.aegis_words.specs.declared.file.File.TheVariants as file
use Rattle.aegis_words.specs.BuildWordRow.{BuildNames}
use Rattle.image_file.specs.declared.Image.{Image}
use Rattle.image_file.specs.ImageTable.{bytes_of}
use Rattle.compiler.specs.CompilerTheorem.{IsCompiled}
use Rattle.aegis_run.specs.declared.ends.TopEnd.{TopEnd}
use Rattle.aegis_run.specs.declared.ends.TopEnd.TheVariants.{Done, WriteFault}
use Rattle.aegis_run.specs.SourceTexts.{IsBuildable, BuildFault}

-- the text of a file lets a `build` go on; it reads no other file than the source
abbrev pub ServesBuild : File → List ℕ → Type 0
ServesBuild file.Source text = IsBuildable text
ServesBuild file.Script text = ⊥
ServesBuild file.Input text = ⊥
ServesBuild file.Image text = ⊥

-- why the text of a file stops a `build`, and which answer says so
abbrev pub StopsBuild : File → List ℕ → TopEnd → Type 0
StopsBuild file.Source text end = BuildFault text end
StopsBuild file.Script text end = ⊥
StopsBuild file.Input text end = ⊥
StopsBuild file.Image text end = ⊥

-- The file of this name is a source, and the bytes are the file of an image that is compiled from it.
pub record IsFileOfSource (files : Option Files) (names : BuildNames) (bytes : List ℕ) : Type 0 where
  pub source : List ℕ
  pub has_source : HoldsWhole files names.source source
  pub program : Program
  pub is_program : HasProgram source program
  pub image : Image
  pub compiled : IsCompiled program image
  pub is_file : bytes ≡ bytes_of image

-- an image, all bytes of which went out
pub record Built (files : Option Files) (names : BuildNames) (old new : Option (List ℕ)) : Type 0 where
  pub bytes : List ℕ
  pub of_source : IsFileOfSource files names bytes
  pub sent : Appends old new bytes

-- an image of which a byte was not taken: a front of its file went out
pub record BuildCutShort (files : Option Files) (names : BuildNames) (old new : Option (List ℕ)) : Type 0 where
  pub bytes : List ℕ
  pub of_source : IsFileOfSource files names bytes
  pub sent : AppendsFront old new bytes

-- what goes out before an answer of a `build`
abbrev pub BuildCommand : Option Files → BuildNames → TopEnd → Option (List ℕ) → Option (List ℕ) → Type 0
BuildCommand files names Done old new = Built files names old new
BuildCommand files names WriteFault old new = BuildCutShort files names old new
BuildCommand files names end old new = new ≡ old

-- the answers that a `build` gives once its source was read
abbrev pub IsOwnOfBuild : TopEnd → Type 0
IsOwnOfBuild Done = Unit {0}
IsOwnOfBuild WriteFault = Unit {0}
IsOwnOfBuild end = ⊥
