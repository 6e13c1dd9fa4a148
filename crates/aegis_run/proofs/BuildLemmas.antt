-- What a `build` reads, and what its own answers put into a sink.
use Rattle.std.proofs.Common.{◌≡◌, inl, inr, ℕ, List, [], ◌∷◌, Option, None, Result, Ok, Err, refl, subst}
use Rattle.std.specs.Prelude.{IfErr, IfOk}
use Rattle.aegis_edge.specs.Sink.{AppendsFront}
use Rattle.aegis_edge.specs.Folder.{Files, Asking, AsksOne}
use Rattle.aegis_words.specs.CommandTable as asks
use Rattle.aegis_words.specs.FileReading.{HasText}
use Rattle.aegis_words.specs.BuildWordRow.{BuildNames}
use Rattle.image_file.specs.declared.Image.{Image as ImageType}
use Rattle.image_file.specs.ImageTable.{bytes_of}
use Rattle.aegis_run.specs.declared.ends.TopEnd.{TopEnd}
use Rattle.aegis_run.specs.declared.ends.TopEnd.TheVariants.{Run, Mean, Done, Usage, TooLong, Token, Syntax, Typing, Plan, Image, NotYet, NoFile, ReadFault, WriteFault, OutOfMemory}
use Rattle.aegis_run.specs.BuildCommand.{BuildCommand, IsFileOfSource}
use Rattle.aegis_run.specs.Causes.{CauseAt, IsAnswered}
use Rattle.aegis_run.specs.FilesRead.{BuildCause, BuildReady, IsBuiltFrom, IsStopped, SendsBytes, Writes}
use Rattle.aegis_run.proofs.CommandLemmas.{buildable, built_here, refused_source, source_step}
use Rattle.aegis_run.proofs.ReadingLemmas.{answered, begun, read_on, stopped}

-- it has read its source
build_read : (files : Option Files) (names : BuildNames) (before now : ℕ) (old new : Option (List Asking)) (text slice : List ℕ) (image : ImageType) → now ≡ before
    → AsksOne old new names.source before → HasText files (source_step names.source) text → slice ≡ text → IsBuiltFrom slice image
    → BuildReady files names before now old new image
build_read files names before now old new text slice image still asked has same built =
    let here = built_here text slice image same built in
    record {
      source = text;
      read = read_on files (asks.Build names) (source_step names.source) before before now old old new [] text (begun files (asks.Build names) before old) refl still asked has (buildable text image here);
      built = here;
    }

-- and what it found there
pub build_ready : (files : Option Files) (names : BuildNames) (before now : ℕ) (old new : Option (List Asking)) (text slice : List ℕ) (found : Result ImageType TopEnd) → now ≡ before
    → AsksOne old new names.source before → HasText files (source_step names.source) text → slice ≡ text → IfOk found (IsBuiltFrom slice)
    → IfOk found (λ image. BuildReady files names before now old new image)
build_ready files names before now old new text slice (Ok image) still asked has same built = build_read files names before now old new text slice image still asked has same built
build_ready files names before now old new text slice (Err end) still asked has same built = tt

pub build_stopped : (files : Option Files) (names : BuildNames) (before now : ℕ) (old new : Option (List Asking)) (text slice : List ℕ) (found : Result ImageType TopEnd) → now ≡ before
    → AsksOne old new names.source before → HasText files (source_step names.source) text → slice ≡ text → IfErr found (BuildCause slice)
    → IfErr found (λ end. IsStopped files (asks.Build names) before now old new end)
build_stopped files names before now old new text slice (Ok image) still asked has same cause = tt
build_stopped files names before now old new text slice (Err end) still asked has same cause =
    stopped files (asks.Build names) (source_step names.source) before before now old old new [] end (begun files (asks.Build names) before old) refl asked
    (refused_source files (asks.Build names) names.source text slice before now end (λ end fault. fault) has same cause) (λ other. still)

pub build_answered : (files : Option Files) (names : BuildNames) (before now : ℕ) (old new : Option (List Asking)) (image : ImageType) (bytes : List ℕ) (written written' : Option (List ℕ)) (end : TopEnd)
    → BuildReady files names before now old new image → SendsBytes end written written' bytes → IsAnswered files (asks.Build names) before now old new end
build_answered files names before now old new image bytes written written' end ready sends =
    answered files (asks.Build names) before now old new (ready.source ∷ []) end ready.read refl (go end sends)
  where
    go : (end : TopEnd) → SendsBytes end written written' bytes → CauseAt files (asks.Build names) None before now end
    go Done sends = inl tt
    go (Run how) sends = absurd sends
    go (Mean how) sends = absurd sends
    go Usage sends = absurd sends
    go (TooLong file) sends = absurd sends
    go (NoFile file) sends = absurd sends
    go (Token error) sends = absurd sends
    go (Syntax error) sends = absurd sends
    go (Typing error) sends = absurd sends
    go (Plan error) sends = absurd sends
    go (Image error) sends = absurd sends
    go (NotYet file) sends = absurd sends
    go ReadFault sends = absurd sends
    go WriteFault sends = inl tt
    go OutOfMemory sends = inr refl

pub build_sent : (files : Option Files) (names : BuildNames) (before now : ℕ) (old new : Option (List Asking)) (image : ImageType) (written written' : Option (List ℕ)) (end : TopEnd)
    → BuildReady files names before now old new image → SendsBytes end written written' (bytes_of image) → BuildCommand files names end written written'
build_sent files names before now old new image written written' end ready sends = go end sends
  where
    of_source : IsFileOfSource files names (bytes_of image)
    of_source = record {
      source = ready.source;
      has_source = ready.read.passed.1.0.whole;
      program = ready.built.program;
      is_program = ready.built.is_source.is_text;
      image = image;
      compiled = ready.built.compiled;
      is_file = refl;
    }

    go : (end : TopEnd) → SendsBytes end written written' (bytes_of image) → BuildCommand files names end written written'
    go Done sends = record { bytes = bytes_of image; of_source = of_source; sent = sends }
    go (Run how) sends = absurd sends
    go (Mean how) sends = absurd sends
    go Usage sends = absurd sends
    go (TooLong file) sends = absurd sends
    go (NoFile file) sends = absurd sends
    go (Token error) sends = absurd sends
    go (Syntax error) sends = absurd sends
    go (Typing error) sends = absurd sends
    go (Plan error) sends = absurd sends
    go (Image error) sends = absurd sends
    go (NotYet file) sends = absurd sends
    go ReadFault sends = absurd sends
    go WriteFault sends = record { bytes = bytes_of image; of_source = of_source; sent = sends }
    go OutOfMemory sends = sends

-- where no byte goes out, none went out
pub build_silent : (files : Option Files) (names : BuildNames) (end : TopEnd) (written : Option (List ℕ)) → (Writes end → ⊥) → BuildCommand files names end written written
build_silent files names Done written silent = absurd (silent tt)
build_silent files names (Run how) written silent = refl
build_silent files names (Mean how) written silent = refl
build_silent files names Usage written silent = refl
build_silent files names (TooLong file) written silent = refl
build_silent files names (NoFile file) written silent = refl
build_silent files names (Token error) written silent = refl
build_silent files names (Syntax error) written silent = refl
build_silent files names (Typing error) written silent = refl
build_silent files names (Plan error) written silent = refl
build_silent files names (Image error) written silent = refl
build_silent files names (NotYet file) written silent = refl
build_silent files names ReadFault written silent = refl
build_silent files names WriteFault written silent = absurd (silent tt)
build_silent files names OutOfMemory written silent = refl

-- a front of some bytes is one of those that they are
pub front_same : (old new : Option (List ℕ)) (bytes other : List ℕ) → bytes ≡ other → AppendsFront old new bytes → AppendsFront old new other
front_same old new bytes other same front = let P : List ℕ → Type 0 = λ bytes. AppendsFront old new bytes in subst P same front
