-- Device: how far the code has read, why one file or one text is refused, and what a meaning put into a sink.
use Rattle.std.specs.Prelude.{◌≡◌, ℕ, List, [], ◌∷◌, Option, None, Some}
use Rattle.aegis_edge.specs.Faults.{Rose}
use Rattle.aegis_edge.specs.Folder.{Files, Asking, Asks, IsMissing, IsTooLong}
use Rattle.aegis_edge.specs.Sink.{Appends, AppendsFront}
use Rattle.aegis_words.specs.CommandTable.{Command, step_after}
use Rattle.aegis_words.specs.CommandTable as asks
use Rattle.aegis_words.specs.FileReading.{ArePassed, steps_read}
use Rattle.aegis_words.specs.FileSteps.{FileStep, askings_for, limit_for}
use Rattle.aegis_words.specs.BuildWordRow.{BuildNames}
use Rattle.aegis_words.specs.ListWordRow.{ListNames}
use Rattle.aegis_words.specs.MakeWordRow.{MakeNames}
use Rattle.aegis_words.specs.MeanWordRow.{MeanNames}
use Rattle.aegis_words.specs.RunWordRow.{RunNames}
use Rattle.c_evaluator.specs.MachineStates.{end_of}
use Rattle.c_grammar.specs.declared.item.Program.{Program}
use Rattle.c_reader.specs.declared.error.SyntaxError.{SyntaxError}
use Rattle.c_reader.specs.declared.error.SyntaxError.TheVariants as syntax
use Rattle.c_semantics.specs.Meaning.{Meaning}
use Rattle.image_file.specs.declared.error.ImageError.{ImageError}
use Rattle.image_file.specs.declared.error.ImageError.TheVariants as errors
use Rattle.image_file.specs.declared.image.Image.{Image}
use Rattle.image_file.specs.ImageFaults.{first_fault}
use Rattle.image_file.specs.ImageTable.{bytes_of, HoldsWords}
use Rattle.orbis_word.specs.Printing.{IsListing}
use Rattle.c_token.specs.declared.kinds.TokenError.{TokenError}
use Rattle.c_token.specs.declared.kinds.TokenError.TheVariants as token
use Rattle.c_types.specs.declared.error.TypeError.{TypeError}
use Rattle.c_types.specs.declared.error.TypeError.TheVariants as type
use Rattle.aegis_run.specs.declared.ends.TopEnd.{TopEnd}
use Rattle.aegis_run.specs.declared.ends.TopEnd.TheVariants as answer
use Rattle.aegis_run.specs.declared.ends.TopEnd.TheVariants.{Done, Run, Mean, Token, Syntax, Typing, NotYet, NoFile, TooLong, ReadFault, WriteFault, OutOfMemory}
use Rattle.aegis_run.specs.Answers.{IsFileFault}
use Rattle.aegis_run.specs.Causes.{Serves, IsAnswered}
use Rattle.compiler.specs.CompilerTheorem.{IsCompiled}
use Rattle.compiler.specs.MemoryUse.{source_fault}
use Rattle.codegen.specs.declared.EmitError.{EmitError}
use Rattle.codegen.specs.declared.EmitError.TheVariants as emit
use Rattle.flat_machine.specs.declared.ran.ImageEnd.{ImageEnd}
use Rattle.flat_machine.specs.declared.ran.ImageEnd.TheVariants as ends
use Rattle.aegis_run.specs.declared.ends.End.{End}
use Rattle.aegis_run.specs.declared.ends.End.TheVariants as run
use Rattle.aegis_run.specs.MakeCommand.{IsMadeEnd, IsMadeRun, end_word, summary_line}
use Rattle.aegis_run.specs.RunCommand.{RunSends}
use Rattle.aegis_run.specs.RunImage.{RunTakes}
use Rattle.aegis_run.specs.SourceTexts.{IsSource, SourceFault, BuildFault}

-- a fact of the names of a run, where the words are one
abbrev pub IfRun : Option Command → (RunNames → Type 0) → Type 0
IfRun (Some (asks.Run names)) P = P names
IfRun row P = Unit {0}

-- a fact of the names of a `mean`, where the words are one
abbrev pub IfMean : Option Command → (MeanNames → Type 0) → Type 0
IfMean (Some (asks.Mean names)) P = P names
IfMean row P = Unit {0}

-- a fact of the name of a `build`, where the words are one
abbrev pub IfBuild : Option Command → (BuildNames → Type 0) → Type 0
IfBuild (Some (asks.Build names)) P = P names
IfBuild row P = Unit {0}

-- a fact of the name of a `list`, where the words are one
abbrev pub IfList : Option Command → (ListNames → Type 0) → Type 0
IfList (Some (asks.Listing names)) P = P names
IfList row P = Unit {0}

-- a fact of the number of a `make`, where the words are one
abbrev pub IfMake : Option Command → (MakeNames → Type 0) → Type 0
IfMake (Some (asks.Make names)) P = P names
IfMake row P = Unit {0}

-- a command has read these texts, asked for their files alone, and met no fault
pub record HasRead (files : Option Files) (command : Command) (before now : ℕ) (old new : Option (List Asking)) (texts : List (List ℕ)) : Type 0 where
  pub passed : ArePassed (step_after command) (Serves command) files texts
  pub asked : Asks old new (askings_for before (steps_read (step_after command) texts))
  pub steady : now ≡ before

-- the answer is one that bytes may have gone out before
abbrev pub Writes : TopEnd → Type 0
Writes (Run end) = Unit {0}
Writes (Mean end) = Unit {0}
Writes WriteFault = Unit {0}
Writes Done = Unit {0}
Writes end = ⊥

-- a command answers at a file
pub record IsStopped (files : Option Files) (command : Command) (before now : ℕ) (old new : Option (List Asking)) (end : TopEnd) : Type 0 where
  pub answered : IsAnswered files command before now old new end
  pub steady : (IsFileFault end → ⊥) → now ≡ before
  pub silent : Writes end → ⊥

-- the text is a source that keeps all rules and passes no limit, and the image is compiled from it
pub record IsBuiltFrom (text : List ℕ) (image : Image) : Type 0 where
  pub program : Program
  pub is_source : IsSource text program
  pub fits : source_fault program ≡ None
  pub compiled : IsCompiled program image

-- a run has read its files: the image is compiled from its source
pub record RunReady (files : Option Files) (names : RunNames) (before now : ℕ) (old new : Option (List Asking)) (image : Image) (input : List ℕ) : Type 0 where
  pub source : List ℕ
  pub read : HasRead files (asks.Run names) before now old new (input ∷ [] ∷ source ∷ [])
  pub built : IsBuiltFrom source image

-- a `build` has read its source, from which the image is compiled
pub record BuildReady (files : Option Files) (names : BuildNames) (before now : ℕ) (old new : Option (List Asking)) (image : Image) : Type 0 where
  pub source : List ℕ
  pub read : HasRead files (asks.Build names) before now old new (source ∷ [])
  pub built : IsBuiltFrom source image

-- a `mean` has read its files: its source is this program
pub record MeanReady (files : Option Files) (names : MeanNames) (before now : ℕ) (old new : Option (List Asking)) (program : Program) (input : List ℕ) : Type 0 where
  pub source : List ℕ
  pub read : HasRead files (asks.Mean names) before now old new (input ∷ source ∷ [])
  pub is_source : IsSource source program

-- the text is the file of this image
pub record IsImageText (text : List ℕ) (image : Image) : Type 0 where
  pub words : HoldsWords image
  pub is_file : text ≡ bytes_of image
  pub faultless : first_fault text ≡ None

-- a `list` has read its file, that of this image
pub record ListReady (files : Option Files) (names : ListNames) (before now : ℕ) (old new : Option (List Asking)) (image : Image) : Type 0 where
  pub text : List ℕ
  pub read : HasRead files (asks.Listing names) before now old new (text ∷ [])
  pub is_text : IsImageText text image

-- why a file is not read, and which answer says so
abbrev pub OpenCause : Option Files → FileStep → ℕ → ℕ → TopEnd → Type 0
OpenCause files step before now (NoFile file) = (file ≡ step.file) × IsMissing files step.name before now
OpenCause files step before now (TooLong file) = (file ≡ step.file) × IsTooLong files step.name (limit_for step.file) before now
OpenCause files step before now ReadFault = Rose before now
OpenCause files step before now OutOfMemory = Unit {0}
OpenCause files step before now end = ⊥

-- why a text is no program that keeps the typing rules, and which answer says so
abbrev pub AcceptCause : List ℕ → TopEnd → Type 0
AcceptCause text OutOfMemory = Unit {0}
AcceptCause text end = SourceFault text end

-- why a text is not the file of an image, and which answer says so
abbrev pub ImageCause : List ℕ → TopEnd → Type 0
ImageCause text OutOfMemory = Unit {0}
ImageCause text (answer.Image errors.OutOfMemory) = ⊥
ImageCause text (answer.Image error) = first_fault text ≡ Some error
ImageCause text end = ⊥

-- why a text has no image, and which answer says so
abbrev pub BuildCause : List ℕ → TopEnd → Type 0
BuildCause text OutOfMemory = Unit {0}
BuildCause text end = BuildFault text end

-- why a program has no image, and which answer says so
abbrev pub CompileCause : Program → TopEnd → Type 0
CompileCause program OutOfMemory = Unit {0}
CompileCause program (answer.Plan error) = source_fault program ≡ Some error
CompileCause program end = ⊥

-- the answers that errors of a source or of an image are handed on as
abbrev pub end_of_token : TokenError → TopEnd
end_of_token token.OutOfMemory = OutOfMemory
end_of_token error = Token error

abbrev pub end_of_syntax : SyntaxError → TopEnd
end_of_syntax syntax.OutOfMemory = OutOfMemory
end_of_syntax error = Syntax error

abbrev pub end_of_type : TypeError → TopEnd
end_of_type type.OutOfMemory = OutOfMemory
end_of_type error = Typing error

abbrev pub end_of_image : ImageError → TopEnd
end_of_image errors.OutOfMemory = OutOfMemory
end_of_image error = answer.Image error

abbrev pub end_of_emit : EmitError → TopEnd
end_of_emit (emit.Plan error) = answer.Plan error
end_of_emit emit.OutOfMemory = OutOfMemory

-- the end that the run of an image is told as
abbrev pub end_of_run : ImageEnd → ℕ → End
end_of_run ends.Ended retired = run.Ended
end_of_run (ends.Index at) retired = run.Index at
end_of_run (ends.Divide at) retired = run.Divide at
end_of_run ends.FuelOut retired = run.FuelOut retired
end_of_run ends.WriteFault retired = run.WriteFault

-- what an answer after a compiled source has sent, and after how many instructions
abbrev pub SendsRun : Program → Image → List ℕ → ℕ → TopEnd → ℕ → Option (List ℕ) → Option (List ℕ) → Type 0
SendsRun program image input fuel (Run end) retired old new = RunSends program input fuel end old new × RunTakes image input fuel end retired old new
SendsRun program image input fuel OutOfMemory retired old new = new ≡ old
SendsRun program image input fuel end retired old new = ⊥

-- what an answer after bytes that are made whole put into a sink: the bytes, or a front of them
abbrev pub SendsBytes : TopEnd → Option (List ℕ) → Option (List ℕ) → List ℕ → Type 0
SendsBytes Done old new bytes = Appends old new bytes
SendsBytes WriteFault old new bytes = AppendsFront old new bytes
SendsBytes OutOfMemory old new bytes = new ≡ old
SendsBytes end old new bytes = ⊥

-- what an answer after an image put into a sink: the listing of its code, or a front of one
abbrev pub SendsListing : TopEnd → Option (List ℕ) → Option (List ℕ) → List ℕ → Type 0
SendsListing Done old new code = (lines : List ℕ) × IsListing 0 code lines × Appends old new lines
SendsListing WriteFault old new code = (lines : List ℕ) × IsListing 0 code lines × AppendsFront old new lines
SendsListing OutOfMemory old new code = new ≡ old
SendsListing end old new code = ⊥

-- what an answer after a meaning put into a sink
abbrev pub SendsMeaning : TopEnd → Option (List ℕ) → Option (List ℕ) → Meaning → Type 0
SendsMeaning (Mean end) old new meaning = (end_of end ≡ meaning.end) × Appends old new meaning.traffic.bytes
SendsMeaning WriteFault old new meaning = AppendsFront old new meaning.traffic.bytes
SendsMeaning OutOfMemory old new meaning = new ≡ old
SendsMeaning end old new meaning = ⊥

-- a made run that ended so and released these bytes
pub record IsMadeFrom (number : ℕ) (end : End) (bytes : List ℕ) : Type 0 where
  pub ran : IsMadeRun number end bytes
  pub ends : IsMadeEnd end

-- what an answer after a made run put into a sink: its line, or a front of it
abbrev pub SendsSummary : ℕ → End → List ℕ → TopEnd → Option (List ℕ) → Option (List ℕ) → Type 0
SendsSummary number end bytes (Run told) old new = (told ≡ end) × Appends old new (summary_line number bytes (end_word end))
SendsSummary number end bytes WriteFault old new = AppendsFront old new (summary_line number bytes (end_word end))
SendsSummary number end bytes OutOfMemory old new = new ≡ old
SendsSummary number end bytes told old new = ⊥
