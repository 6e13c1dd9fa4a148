-- Promise: the command `mean`: what lets it go on and what stops it, which answers are its own, and what goes out.
use Rattle.std.specs.Prelude.{◌≡◌, ℕ, List, Option}
use Rattle.aegis_edge.specs.Folder.{Files}
use Rattle.aegis_edge.specs.Sink.{Appends, AppendsFront}
use Rattle.c_evaluator.specs.declared.mean_end.MeanEnd.{MeanEnd}
use Rattle.c_evaluator.specs.MachineStates.{end_of}
use Rattle.c_grammar.specs.declared.item.Program.{Program}
use Rattle.c_semantics.specs.Meaning.{Meaning}
use Rattle.aegis_words.specs.declared.file.File.{File}
use Rattle.aegis_words.specs.declared.file.File.TheVariants.{Source, Script, Input, Image}
use Rattle.aegis_words.specs.MeanWordRow.{MeanNames}
use Rattle.aegis_run.specs.declared.ends.TopEnd.{TopEnd}
use Rattle.aegis_run.specs.declared.ends.TopEnd.TheVariants.{Mean, WriteFault}
use Rattle.aegis_run.specs.SourceMeaning.{SourceMeans}
use Rattle.aegis_run.specs.SourceTexts.{IsSource, SourceFault}

-- the text of a file lets a `mean` go on; it reads no script and no image
abbrev pub ServesMean : File → List ℕ → Type 0
ServesMean Source text = (program : Program) × IsSource text program
ServesMean Script text = ⊥
ServesMean Input text = Unit {0}
ServesMean Image text = ⊥

-- why the text of a file stops a `mean`, and which answer says so
abbrev pub StopsMean : File → List ℕ → TopEnd → Type 0
StopsMean Source text end = SourceFault text end
StopsMean Script text end = ⊥
StopsMean Input text end = ⊥
StopsMean Image text end = ⊥

-- what the source of a `mean` means on its input
abbrev pub MeanMeans : Option Files → MeanNames → Meaning → Type 0
MeanMeans files names meaning = SourceMeans files names.source names.input names.turns meaning

-- a meaning that was told: its end is the answer, and all bytes of it went out
pub record MeanTold (files : Option Files) (names : MeanNames) (end : MeanEnd) (old new : Option (List ℕ)) : Type 0 where
  pub meaning : Meaning
  pub means : MeanMeans files names meaning
  pub ended : end_of end ≡ meaning.end
  pub bytes : Appends old new meaning.traffic.bytes

-- a meaning of which the bytes were not taken: a front of them went out
pub record MeanCutShort (files : Option Files) (names : MeanNames) (old new : Option (List ℕ)) : Type 0 where
  pub meaning : Meaning
  pub means : MeanMeans files names meaning
  pub bytes : AppendsFront old new meaning.traffic.bytes

-- what goes out before an answer of a `mean`
abbrev pub MeanCommand : Option Files → MeanNames → TopEnd → Option (List ℕ) → Option (List ℕ) → Type 0
MeanCommand files names (Mean end) old new = MeanTold files names end old new
MeanCommand files names WriteFault old new = MeanCutShort files names old new
MeanCommand files names end old new = new ≡ old

-- the answers that a `mean` gives once its files were read
abbrev pub IsOwnOfMean : TopEnd → Type 0
IsOwnOfMean (Mean end) = Unit {0}
IsOwnOfMean WriteFault = Unit {0}
IsOwnOfMean end = ⊥
