-- What stops each command, and what its own answers put into a sink.
use Rattle.std.proofs.Common.{◌≡◌, ◌⊎◌, inl, inr, ℕ, List, [], ◌∷◌, Option, None, Some, Result, Ok, Err, refl, sym, ◌∙◌, ap, subst}
use Rattle.std.specs.Prelude.{IfErr, IfOk, OnOk, IsOkUnless}
use Rattle.aegis_edge.specs.Folder.{Files, Asking}
use Rattle.c_grammar.specs.declared.item.Program.{Program}
use Rattle.c_resolver.specs.Resolving.{plain_program}
use Rattle.c_semantics.specs.Meaning.{Meaning, mean_alone}
use Rattle.aegis_edge.specs.Folder.{AsksOne}
use Rattle.aegis_words.specs.declared.file.File.TheVariants.{Source, Input}
use Rattle.aegis_words.specs.CommandTable.{Command}
use Rattle.aegis_words.specs.CommandTable as asks
use Rattle.aegis_words.specs.FileReading.{HasText}
use Rattle.aegis_words.specs.FileSteps.{FileStep}
use Rattle.aegis_words.specs.MeanWordRow.{MeanNames}
use Rattle.image_file.specs.declared.Image.{Image as ImageType}
use Rattle.region_plan.specs.declared.PlanError.{PlanError}
use Rattle.region_plan.specs.declared.PlanError.TheVariants as plan
use Rattle.codegen.specs.declared.EmitError.{EmitError}
use Rattle.codegen.specs.declared.EmitError.TheVariants as emit
use Rattle.codegen.specs.EmitFaults.{emit_error}
use Rattle.compiler.specs.CompilerTheorem.{IsCompiled}
use Rattle.compiler.specs.MemoryUse.{source_fault}
use Rattle.aegis_run.specs.declared.ends.TopEnd.{TopEnd}
use Rattle.aegis_run.specs.declared.ends.TopEnd.TheVariants.{Run, Mean, Done, Usage, TooLong, Token, Syntax, Typing, Plan, Image, NotYet, NoFile, ReadFault, WriteFault, OutOfMemory}
use Rattle.aegis_run.specs.Causes.{Stops, CauseAt, CauseAtFile, IsAnswered}
use Rattle.aegis_run.specs.MeanCommand.{MeanMeans, MeanCommand}
use Rattle.aegis_run.specs.FilesRead.{AcceptCause, BuildCause, CompileCause, HasRead, IsBuiltFrom, MeanReady, SendsMeaning, Writes, end_of_emit}
use Rattle.aegis_run.specs.Answers.{IsWriteFault, RisesWhere}
use Rattle.aegis_run.specs.SourceTexts.{BuildFault, IsBuildable, IsSource, SourceFault}
use Rattle.aegis_run.proofs.ReadingLemmas.{answered, begun, read_on, still_read}

-- the source of a step
abbrev pub source_step : List ℕ → FileStep
source_step name = record { file = Source; name = name }

-- where the source of a command stops it by each of its faults, a text that is refused stops it
refused_text : (files : Option Files) (command : Command) (name text : List ℕ) (before now : ℕ) (end : TopEnd)
    → ((end : TopEnd) → SourceFault text end → Stops command Source text end) → HasText files (source_step name) text → AcceptCause text end
    → CauseAtFile files command (source_step name) before now end
refused_text files command name text before now (Token error) stops read cause = record { text = text; read = read; fault = stops (Token error) cause }
refused_text files command name text before now (Syntax error) stops read cause = record { text = text; read = read; fault = stops (Syntax error) cause }
refused_text files command name text before now (Typing error) stops read cause = record { text = text; read = read; fault = stops (Typing error) cause }
refused_text files command name text before now OutOfMemory stops read cause = tt
refused_text files command name text before now Usage stops read cause = absurd cause
refused_text files command name text before now Done stops read cause = absurd cause
refused_text files command name text before now (TooLong file) stops read cause = absurd cause
refused_text files command name text before now (NoFile file) stops read cause = absurd cause
refused_text files command name text before now (NotYet file) stops read cause = absurd cause
refused_text files command name text before now (Plan error) stops read cause = absurd cause
refused_text files command name text before now (Image error) stops read cause = absurd cause
refused_text files command name text before now ReadFault stops read cause = absurd cause
refused_text files command name text before now WriteFault stops read cause = absurd cause
refused_text files command name text before now (Run end) stops read cause = absurd cause
refused_text files command name text before now (Mean end) stops read cause = absurd cause

-- the faults of a source stop a `mean`
pub mean_refused : (files : Option Files) (names : MeanNames) (name text : List ℕ) (before now : ℕ) (end : TopEnd) → HasText files (source_step name) text → AcceptCause text end
    → CauseAtFile files (asks.Mean names) (source_step name) before now end
mean_refused files names name text before now end read cause = refused_text files (asks.Mean names) name text before now end (λ end fault. fault) read cause

-- and where it stops it by each reason for which it has no image, a text without one stops it
pub refused_source : (files : Option Files) (command : Command) (name text slice : List ℕ) (before now : ℕ) (end : TopEnd)
    → ((end : TopEnd) → BuildFault text end → Stops command Source text end) → HasText files (source_step name) text → slice ≡ text → BuildCause slice end
    → CauseAtFile files command (source_step name) before now end
refused_source files command name text slice before now end stops read same cause = let P : List ℕ → Type 0 = λ text. BuildCause text end in go end (subst P same cause)
  where
    go : (end : TopEnd) → BuildCause text end → CauseAtFile files command (source_step name) before now end
    go Done cause = absurd cause
    go (Run how) cause = absurd cause
    go (Mean how) cause = absurd cause
    go Usage cause = absurd cause
    go (TooLong file) cause = absurd cause
    go (NoFile file) cause = absurd cause
    go (Token error) cause = record { text = text; read = read; fault = stops (Token error) cause }
    go (Syntax error) cause = record { text = text; read = read; fault = stops (Syntax error) cause }
    go (Typing error) cause = record { text = text; read = read; fault = stops (Typing error) cause }
    go (Plan error) cause = record { text = text; read = read; fault = stops (Plan error) cause }
    go (Image error) cause = absurd cause
    go (NotYet file) cause = absurd cause
    go ReadFault cause = absurd cause
    go WriteFault cause = absurd cause
    go OutOfMemory cause = tt

-- a source that has an image lets it go on
pub built_here : (text slice : List ℕ) (image : ImageType) → slice ≡ text → IsBuiltFrom slice image → IsBuiltFrom text image
built_here text slice image same built = let P : List ℕ → Type 0 = λ text. IsBuiltFrom text image in subst P same built

pub buildable : (text : List ℕ) (image : ImageType) → IsBuiltFrom text image → IsBuildable text
buildable text image built = record { program = built.program; is_source = built.is_source; fits = built.fits }

-- a text that is no program has no image
pub accept_is_build : (text : List ℕ) (end : TopEnd) → AcceptCause text end → BuildCause text end
accept_is_build text Done cause = absurd cause
accept_is_build text (Run how) cause = absurd cause
accept_is_build text (Mean how) cause = absurd cause
accept_is_build text Usage cause = absurd cause
accept_is_build text (TooLong file) cause = absurd cause
accept_is_build text (NoFile file) cause = absurd cause
accept_is_build text (Token error) cause = cause
accept_is_build text (Syntax error) cause = cause
accept_is_build text (Typing error) cause = cause
accept_is_build text (Plan error) cause = absurd cause
accept_is_build text (Image error) cause = absurd cause
accept_is_build text (NotYet file) cause = absurd cause
accept_is_build text ReadFault cause = absurd cause
accept_is_build text WriteFault cause = absurd cause
accept_is_build text OutOfMemory cause = tt

-- nor has one whose program has none
uncompiled_end : (text : List ℕ) (program : Program) (end : TopEnd) → IsSource text program → CompileCause program end → BuildCause text end
uncompiled_end text program Done is cause = absurd cause
uncompiled_end text program (Run how) is cause = absurd cause
uncompiled_end text program (Mean how) is cause = absurd cause
uncompiled_end text program Usage is cause = absurd cause
uncompiled_end text program (TooLong file) is cause = absurd cause
uncompiled_end text program (NoFile file) is cause = absurd cause
uncompiled_end text program (Token error) is cause = absurd cause
uncompiled_end text program (Syntax error) is cause = absurd cause
uncompiled_end text program (Typing error) is cause = absurd cause
uncompiled_end text program (Plan error) is cause = record { program = program; is_source = is; passes = cause }
uncompiled_end text program (Image error) is cause = absurd cause
uncompiled_end text program (NotYet file) is cause = absurd cause
uncompiled_end text program ReadFault is cause = absurd cause
uncompiled_end text program WriteFault is cause = absurd cause
uncompiled_end text program OutOfMemory is cause = tt

pub uncompiled : (text : List ℕ) (program : Program) (found : Result ImageType TopEnd) → IsSource text program → IfErr found (CompileCause program) → IfErr found (BuildCause text)
uncompiled text program (Ok image) is cause = tt
uncompiled text program (Err end) is cause = uncompiled_end text program end is cause

-- the image of its program is built from a text
pub compiled_from : (text : List ℕ) (program : Program) (found : Result ImageType TopEnd) → IsSource text program → IfOk found (IsCompiled program)
    → OnOk found (source_fault program ≡ None) → IfOk found (IsBuiltFrom text)
compiled_from text program (Ok image) is compiled fits = record { program = program; is_source = is; fits = fits; compiled = compiled }
compiled_from text program (Err end) is compiled fits = tt

-- ---- what the compiler answers

abbrev failing : EmitError → Result ImageType EmitError
failing error = Err error

abbrev making : ImageType → Result ImageType EmitError
making image = Ok image

-- no image means that a limit is passed, or want of memory
pub compile_refused : (program : Program) (found : Result ImageType EmitError) (error : EmitError) → found ≡ Err error
    → ((fault : PlanError) → source_fault program ≡ Some fault → (found ≡ Err (emit_error fault)) ⊎ (found ≡ Err emit.OutOfMemory))
    → (source_fault program ≡ None → IsOkUnless found emit.OutOfMemory) → CompileCause program (end_of_emit error)
compile_refused program found emit.OutOfMemory same full fits = tt
compile_refused program found (emit.Plan error) same full fits = at (source_fault program) refl
  where
    told : (fault : PlanError) → source_fault program ≡ Some fault → failing (emit.Plan error) ≡ failing (emit_error fault) → source_fault program ≡ Some error
    told (plan.TreeFull blocks) is same = let one : plan.TreeFull blocks ≡ error = cc in is ∙ ap Some one
    told (plan.LogFull blocks) is same = let one : plan.LogFull blocks ≡ error = cc in is ∙ ap Some one
    told (plan.OpenFull bytes) is same = let one : plan.OpenFull bytes ≡ error = cc in is ∙ ap Some one
    told plan.OutOfMemory is same = absurd cc

    other : failing (emit.Plan error) ≡ failing emit.OutOfMemory → ⊥
    other same = absurd cc

    at : (fault : Option PlanError) → source_fault program ≡ fault → source_fault program ≡ Some error
    at None is =
        let P : Result ImageType EmitError → Type 0 = λ found. IsOkUnless found emit.OutOfMemory in
        let wrong : emit.Plan error ≡ emit.OutOfMemory = subst P same (fits is) in absurd cc
    at (Some fault) is = elim (full fault is) [
      | inl found_so ↦ told fault is (sym same ∙ found_so)
      | inr wanting ↦ absurd (other (sym same ∙ wanting))
    ]

pub compile_fits : (program : Program) (found : Result ImageType EmitError) (image : ImageType) → found ≡ Ok image
    → ((fault : PlanError) → source_fault program ≡ Some fault → (found ≡ Err (emit_error fault)) ⊎ (found ≡ Err emit.OutOfMemory))
    → source_fault program ≡ None
compile_fits program found image same full = at (source_fault program) refl
  where
    other : (error : EmitError) → making image ≡ failing error → ⊥
    other error same = absurd cc

    at : (fault : Option PlanError) → source_fault program ≡ fault → source_fault program ≡ None
    at None is = is
    at (Some fault) is = elim (full fault is) [
      | inl found_so ↦ absurd (other (emit_error fault) (sym same ∙ found_so))
      | inr wanting ↦ absurd (other emit.OutOfMemory (sym same ∙ wanting))
    ]

-- a text is refused by what the code read of it
pub carried : (text slice : List ℕ) (end : TopEnd) → slice ≡ text → AcceptCause slice end → AcceptCause text end
carried text slice end same cause = let P : List ℕ → Type 0 = λ text. AcceptCause text end in subst P same cause

pub carried_source : (text slice : List ℕ) (program : Program) → slice ≡ text → IsSource slice program → IsSource text program
carried_source text slice program same is = let P : List ℕ → Type 0 = λ text. IsSource text program in subst P same is

-- ---- the files of a command, read one after another

pub mean_source_read : (files : Option Files) (names : MeanNames) (before now : ℕ) (old new : Option (List Asking)) (text slice : List ℕ) (program : Program) → now ≡ before
    → AsksOne old new names.source before → HasText files (source_step names.source) text → slice ≡ text → IsSource slice program
    → HasRead files (asks.Mean names) before now old new (text ∷ [])
mean_source_read files names before now old new text slice program still asked has same is =
    let P : List ℕ → Type 0 = λ text. IsSource text program in
    read_on files (asks.Mean names) (source_step names.source) before before now old old new [] text (begun files (asks.Mean names) before old) refl still asked has
    (program, subst P same is)

pub mean_input_read : (files later : Option Files) (names : MeanNames) (before middle now : ℕ) (old mid new : Option (List Asking)) (source text : List ℕ)
    → HasRead files (asks.Mean names) before middle old mid (source ∷ []) → now ≡ middle → AsksOne mid new names.input middle → later ≡ files
    → HasText later (record { file = Input; name = names.input }) text → HasRead files (asks.Mean names) before now old new (text ∷ source ∷ [])
mean_input_read files later names before middle now old mid new source text read still asked same has =
    read_on files (asks.Mean names) (record { file = Input; name = names.input }) before middle now old mid new (source ∷ []) text read refl still asked
    (still_read files later (record { file = Input; name = names.input }) text same has) tt

-- an answer before which no byte goes out raises no count of out
pub unwritten : (end : TopEnd) (faults : ℕ) → (Writes end → ⊥) → RisesWhere (IsWriteFault end) faults faults
unwritten end faults silent = record { rose = λ fault. absurd (silent (go end fault)); steady = λ none. refl }
  where
    go : (end : TopEnd) → IsWriteFault end → Writes end
    go (Run how) fault = tt
    go WriteFault fault = tt
    go (Mean how) fault = tt
    go Usage fault = absurd fault
    go Done fault = absurd fault
    go OutOfMemory fault = absurd fault
    go (TooLong file) fault = absurd fault
    go (NoFile file) fault = absurd fault
    go (Token error) fault = absurd fault
    go (Syntax error) fault = absurd fault
    go (Typing error) fault = absurd fault
    go (NotYet file) fault = absurd fault
    go (Plan error) fault = absurd fault
    go (Image error) fault = absurd fault
    go ReadFault fault = absurd fault

-- ---- a meaning that is told

pub mean_answered : (files : Option Files) (names : MeanNames) (before now : ℕ) (old new : Option (List Asking)) (program : Program) (input : List ℕ) (meaning : Meaning) (written written' : Option (List ℕ)) (end : TopEnd)
    → MeanReady files names before now old new program input → SendsMeaning end written written' meaning → IsAnswered files (asks.Mean names) before now old new end
mean_answered files names before now old new program input meaning written written' end ready sends =
    answered files (asks.Mean names) before now old new (input ∷ ready.source ∷ []) end ready.read refl (go end sends)
  where
    go : (end : TopEnd) → SendsMeaning end written written' meaning → CauseAt files (asks.Mean names) None before now end
    go (Mean how) sends = inl tt
    go WriteFault sends = inl tt
    go OutOfMemory sends = inr refl
    go (Run how) sends = absurd sends
    go Usage sends = absurd sends
    go Done sends = absurd sends
    go (TooLong file) sends = absurd sends
    go (NoFile file) sends = absurd sends
    go (Token error) sends = absurd sends
    go (Syntax error) sends = absurd sends
    go (Typing error) sends = absurd sends
    go (NotYet file) sends = absurd sends
    go (Plan error) sends = absurd sends
    go (Image error) sends = absurd sends
    go ReadFault sends = absurd sends

pub mean_sent : (files : Option Files) (names : MeanNames) (before now : ℕ) (old new : Option (List Asking)) (program : Program) (input : List ℕ) (written written' : Option (List ℕ)) (end : TopEnd)
    → MeanReady files names before now old new program input → SendsMeaning end written written' (mean_alone (plain_program program) input names.turns)
    → MeanCommand files names end written written'
mean_sent files names before now old new program input written written' end ready sends = go end sends
  where
    meaning : Meaning
    meaning = mean_alone (plain_program program) input names.turns

    means : MeanMeans files names (mean_alone (plain_program program) input names.turns)
    means = record {
      source = ready.source;
      input = input;
      has_source = ready.read.passed.0.1.0.whole;
      has_input = ready.read.passed.1.0.whole;
      program = program;
      is_program = ready.is_source.is_text;
      meaning_is = refl;
    }

    go : (end : TopEnd) → SendsMeaning end written written' (mean_alone (plain_program program) input names.turns) → MeanCommand files names end written written'
    go (Mean how) sends = record { meaning = mean_alone (plain_program program) input names.turns; means = means; ended = sends.0; bytes = sends.1 }
    go WriteFault sends = record { meaning = mean_alone (plain_program program) input names.turns; means = means; bytes = sends }
    go OutOfMemory sends = sends
    go (Run how) sends = absurd sends
    go Usage sends = absurd sends
    go Done sends = absurd sends
    go (TooLong file) sends = absurd sends
    go (NoFile file) sends = absurd sends
    go (Token error) sends = absurd sends
    go (Syntax error) sends = absurd sends
    go (Typing error) sends = absurd sends
    go (NotYet file) sends = absurd sends
    go (Plan error) sends = absurd sends
    go (Image error) sends = absurd sends
    go ReadFault sends = absurd sends

pub mean_silent : (files : Option Files) (names : MeanNames) (end : TopEnd) (written : Option (List ℕ)) → (Writes end → ⊥) → MeanCommand files names end written written
mean_silent files names (Mean how) written silent = absurd (silent tt)
mean_silent files names WriteFault written silent = absurd (silent tt)
mean_silent files names (Run how) written silent = refl
mean_silent files names OutOfMemory written silent = refl
mean_silent files names Usage written silent = refl
mean_silent files names Done written silent = refl
mean_silent files names (TooLong file) written silent = refl
mean_silent files names (NoFile file) written silent = refl
mean_silent files names (Token error) written silent = refl
mean_silent files names (Syntax error) written silent = refl
mean_silent files names (Typing error) written silent = refl
mean_silent files names (NotYet file) written silent = refl
mean_silent files names (Plan error) written silent = refl
mean_silent files names (Image error) written silent = refl
mean_silent files names ReadFault written silent = refl
