-- What stops a run, and what its own answers put into a sink.
use Rattle.std.proofs.Common.{◌≡◌, ◌≢◌, inl, inr, ℕ, List, [], ◌∷◌, Option, None, refl, sym, subst}
use Rattle.aegis_edge.specs.Faults.{Rose}
use Rattle.aegis_edge.specs.Sink.{IsWithin}
use Rattle.aegis_edge.specs.Folder.{Files, Asking, AsksOne}
use Rattle.c_grammar.specs.declared.Program.{Program}
use Rattle.aegis_words.specs.declared.file.File.TheVariants.{Script, Input}
use Rattle.aegis_words.specs.CommandTable as asks
use Rattle.aegis_words.specs.FileReading.{HasText}
use Rattle.aegis_words.specs.RunWordRow.{RunNames}
use Rattle.image_file.specs.declared.Image.{Image as ImageType}
use Rattle.flat_machine.specs.declared.ran.ImageEnd.{ImageEnd}
use Rattle.flat_machine.specs.declared.ran.ImageEnd.TheVariants as ends
use Rattle.compiled_run.specs.RunMeaning.{RunsAsMeant}
use Rattle.compiled_run.specs.RunSteps.{RunsInSteps}
use Rattle.aegis_run.specs.declared.ends.End.{End}
use Rattle.aegis_run.specs.declared.ends.TopEnd.{TopEnd}
use Rattle.aegis_run.specs.declared.ends.TopEnd.TheVariants.{Run, Mean, Done, Usage, TooLong, Token, Syntax, Typing, Plan, Image, NotYet, NoFile, ReadFault, WriteFault, OutOfMemory}
use Rattle.aegis_run.specs.Answers.{IsWriteFault, RisesWhere}
use Rattle.aegis_run.specs.Causes.{CauseAt, CauseAtFile, IsAnswered}
use Rattle.aegis_run.specs.FilesRead.{HasRead, IsBuiltFrom, RunReady, SendsRun, Writes, end_of_run}
use Rattle.aegis_run.specs.RunCommand.{RunCommand}
use Rattle.aegis_run.specs.RunImage.{RunsImage}
use Rattle.aegis_run.proofs.CommandLemmas.{buildable, built_here, source_step}
use Rattle.aegis_run.proofs.ReadingLemmas.{answered, begun, read_on, still_read}

-- ---- its files, read one after another

pub run_source_read : (files : Option Files) (names : RunNames) (before now : ℕ) (old new : Option (List Asking)) (text slice : List ℕ) (image : ImageType) → now ≡ before
    → AsksOne old new names.source before → HasText files (source_step names.source) text → slice ≡ text → IsBuiltFrom slice image
    → HasRead files (asks.Run names) before now old new (text ∷ [])
run_source_read files names before now old new text slice image still asked has same built =
    read_on files (asks.Run names) (source_step names.source) before before now old old new [] text (begun files (asks.Run names) before old) refl still asked has
    (buildable text image (built_here text slice image same built))

pub run_script_read : (files later : Option Files) (names : RunNames) (before middle now : ℕ) (old mid new : Option (List Asking)) (source text : List ℕ)
    → HasRead files (asks.Run names) before middle old mid (source ∷ []) → now ≡ middle → AsksOne mid new names.script middle → later ≡ files
    → HasText later (record { file = Script; name = names.script }) text → text ≡ [] → HasRead files (asks.Run names) before now old new ([] ∷ source ∷ [])
run_script_read files later names before middle now old mid new source text read still asked same has none =
    let P : List ℕ → Type 0 = λ text. HasText files (record { file = Script; name = names.script }) text in
    read_on files (asks.Run names) (record { file = Script; name = names.script }) before middle now old mid new (source ∷ []) [] read refl still asked
    (subst P none (still_read files later (record { file = Script; name = names.script }) text same has)) refl

pub run_input_read : (files later : Option Files) (names : RunNames) (before middle now : ℕ) (old mid new : Option (List Asking)) (source text : List ℕ)
    → HasRead files (asks.Run names) before middle old mid ([] ∷ source ∷ []) → now ≡ middle → AsksOne mid new names.input middle → later ≡ files
    → HasText later (record { file = Input; name = names.input }) text → HasRead files (asks.Run names) before now old new (text ∷ [] ∷ source ∷ [])
run_input_read files later names before middle now old mid new source text read still asked same has =
    read_on files (asks.Run names) (record { file = Input; name = names.input }) before middle now old mid new ([] ∷ source ∷ []) text read refl still asked
    (still_read files later (record { file = Input; name = names.input }) text same has) tt

-- a script with a byte stops a run
pub script_stops : (files later : Option Files) (names : RunNames) (before now : ℕ) (text : List ℕ) → later ≡ files
    → HasText later (record { file = Script; name = names.script }) text → (text ≡ [] → ⊥)
    → CauseAtFile files (asks.Run names) (record { file = Script; name = names.script }) before now (NotYet Script)
script_stops files later names before now text same has some =
    record { text = text; read = still_read files later (record { file = Script; name = names.script }) text same has; fault = some }

-- ---- a run that was prepared

pub run_answered : (files : Option Files) (names : RunNames) (before now : ℕ) (old new : Option (List Asking)) (image : ImageType) (input : List ℕ) (program : Program) (retired : ℕ)
    (written written' : Option (List ℕ)) (end : TopEnd) → RunReady files names before now old new image input
    → SendsRun program image input names.fuel end retired written written' → IsAnswered files (asks.Run names) before now old new end
run_answered files names before now old new image input program retired written written' end ready sends =
    answered files (asks.Run names) before now old new (input ∷ [] ∷ ready.source ∷ []) end ready.read refl (go end sends)
  where
    go : (end : TopEnd) → SendsRun program image input names.fuel end retired written written' → CauseAt files (asks.Run names) None before now end
    go Done sends = absurd sends
    go (Run how) sends = inl tt
    go (Mean how) sends = absurd sends
    go Usage sends = absurd sends
    go (TooLong file) sends = absurd sends
    go (NoFile file) sends = absurd sends
    go (Token error) sends = absurd sends
    go (Syntax error) sends = absurd sends
    go (Typing error) sends = absurd sends
    go (Plan error) sends = absurd sends
    go (Image error) sends = absurd sends
    go (NotYet file) sends = absurd sends
    go ReadFault sends = absurd sends
    go WriteFault sends = absurd sends
    go OutOfMemory sends = inr refl

-- what it has sent, and that this image was run
pub run_sent : (files : Option Files) (names : RunNames) (before now : ℕ) (old new : Option (List Asking)) (image : ImageType) (input : List ℕ) (retired : ℕ)
    (written written' : Option (List ℕ)) (end : TopEnd) (ready : RunReady files names before now old new image input)
    → SendsRun ready.built.program image input names.fuel end retired written written' → RunCommand files names end written written' × RunsImage files names end retired written written'
run_sent files names before now old new image input retired written written' end ready sends = go end sends
  where
    go : (end : TopEnd) → SendsRun ready.built.program image input names.fuel end retired written written'
        → RunCommand files names end written written' × RunsImage files names end retired written written'
    go Done sends = absurd sends
    go (Run how) sends = (
      record {
        source = ready.source;
        input = input;
        has_source = ready.read.passed.0.0.1.0.whole;
        has_input = ready.read.passed.1.0.whole;
        program = ready.built.program;
        is_program = ready.built.is_source.is_text;
        sends = sends.0;
      },
      record {
        source = ready.source;
        input = input;
        has_source = ready.read.passed.0.0.1.0.whole;
        has_input = ready.read.passed.1.0.whole;
        program = ready.built.program;
        is_program = ready.built.is_source.is_text;
        image = image;
        compiled = ready.built.compiled;
        takes = sends.1;
      },
    )
    go (Mean how) sends = absurd sends
    go Usage sends = absurd sends
    go (TooLong file) sends = absurd sends
    go (NoFile file) sends = absurd sends
    go (Token error) sends = absurd sends
    go (Syntax error) sends = absurd sends
    go (Typing error) sends = absurd sends
    go (Plan error) sends = absurd sends
    go (Image error) sends = absurd sends
    go (NotYet file) sends = absurd sends
    go ReadFault sends = absurd sends
    go WriteFault sends = absurd sends
    go OutOfMemory sends = (sends, tt)

-- where no byte goes out, none went out
pub run_silent : (files : Option Files) (names : RunNames) (end : TopEnd) (written : Option (List ℕ)) → (Writes end → ⊥) → RunCommand files names end written written
run_silent files names Done written silent = refl
run_silent files names (Run how) written silent = absurd (silent tt)
run_silent files names (Mean how) written silent = refl
run_silent files names Usage written silent = refl
run_silent files names (TooLong file) written silent = refl
run_silent files names (NoFile file) written silent = refl
run_silent files names (Token error) written silent = refl
run_silent files names (Syntax error) written silent = refl
run_silent files names (Typing error) written silent = refl
run_silent files names (Plan error) written silent = refl
run_silent files names (Image error) written silent = refl
run_silent files names (NotYet file) written silent = refl
run_silent files names ReadFault written silent = refl
run_silent files names WriteFault written silent = refl
run_silent files names OutOfMemory written silent = refl

-- and no image was run
pub run_not_started : (files : Option Files) (names : RunNames) (end : TopEnd) (retired : ℕ) (old new : Option (List ℕ)) → (Writes end → ⊥) → RunsImage files names end retired old new
run_not_started files names Done retired old new silent = tt
run_not_started files names (Run how) retired old new silent = absurd (silent tt)
run_not_started files names (Mean how) retired old new silent = tt
run_not_started files names Usage retired old new silent = tt
run_not_started files names (TooLong file) retired old new silent = tt
run_not_started files names (NoFile file) retired old new silent = tt
run_not_started files names (Token error) retired old new silent = tt
run_not_started files names (Syntax error) retired old new silent = tt
run_not_started files names (Typing error) retired old new silent = tt
run_not_started files names (Plan error) retired old new silent = tt
run_not_started files names (Image error) retired old new silent = tt
run_not_started files names (NotYet file) retired old new silent = tt
run_not_started files names ReadFault retired old new silent = tt
run_not_started files names WriteFault retired old new silent = tt
run_not_started files names OutOfMemory retired old new silent = tt

-- ---- how the run of an image ends

sends_so : (program : Program) (image : ImageType) (input : List ℕ) (fuel : ℕ) (end : ImageEnd) (retired : ℕ) (old new : Option (List ℕ))
    → RunsAsMeant program input fuel end old new → RunsInSteps image input fuel end retired old new → SendsRun program image input fuel (Run (end_of_run end retired)) retired old new
sends_so program image input fuel ends.Ended retired old new meant steps = (meant, steps)
sends_so program image input fuel (ends.Index at) retired old new meant steps = (meant, steps)
sends_so program image input fuel (ends.Divide at) retired old new meant steps = (meant, steps)
sends_so program image input fuel ends.FuelOut retired old new meant steps = ((steps.all, meant), (refl, steps))
sends_so program image input fuel ends.WriteFault retired old new meant steps = (meant, steps)

run_rises : (end : ImageEnd) (retired before now : ℕ) → (end ≡ ends.WriteFault → Rose before now) → (end ≢ ends.WriteFault → now ≡ before)
    → RisesWhere (IsWriteFault (Run (end_of_run end retired))) before now
run_rises ends.Ended retired before now rose steady = record { rose = λ fault. absurd fault; steady = λ none. steady (λ same. cc) }
run_rises (ends.Index at) retired before now rose steady = record { rose = λ fault. absurd fault; steady = λ none. steady (λ same. cc) }
run_rises (ends.Divide at) retired before now rose steady = record { rose = λ fault. absurd fault; steady = λ none. steady (λ same. cc) }
run_rises ends.FuelOut retired before now rose steady = record { rose = λ fault. absurd fault; steady = λ none. steady (λ same. cc) }
run_rises ends.WriteFault retired before now rose steady = record { rose = λ fault. rose refl; steady = λ none. absurd (none tt) }

-- ---- what the run of an image has sent

pub ran_sends : (program : Program) (image : ImageType) (input slice : List ℕ) (fuel : ℕ) (end : ImageEnd) (told : End) (retired : ℕ) (old new : Option (List ℕ))
    → slice ≡ input → told ≡ end_of_run end retired → RunsAsMeant program slice fuel end old new → RunsInSteps image slice fuel end retired old new
    → SendsRun program image input fuel (Run told) retired old new
ran_sends program image input slice fuel end told retired old new same says meant steps =
    let P : List ℕ → Type 0 = λ input. SendsRun program image input fuel (Run told) retired old new in
    let Q : End → Type 0 = λ told. SendsRun program image slice fuel (Run told) retired old new in
    subst P same (subst Q (sym says) (sends_so program image slice fuel end retired old new meant steps))

pub ran_rises : (end : ImageEnd) (told : End) (retired before now : ℕ) → told ≡ end_of_run end retired → (end ≡ ends.WriteFault → Rose before now)
    → (end ≢ ends.WriteFault → now ≡ before) → RisesWhere (IsWriteFault (Run told)) before now
ran_rises end told retired before now says rose steady =
    let P : End → Type 0 = λ told. RisesWhere (IsWriteFault (Run told)) before now in subst P (sym says) (run_rises end retired before now rose steady)

-- a sink without a limit takes any piece
pub unlimited_within : (limit : Option ℕ) (piece : List ℕ) → limit ≡ None → IsWithin limit piece
unlimited_within limit piece none = let P : Option ℕ → Type 0 = λ limit. IsWithin limit piece in subst P (sym none) tt
