-- What stops a `list`, and what its own answers put into a sink.
use Rattle.std.proofs.Common.{◌≡◌, inl, inr, ℕ, List, [], ◌∷◌, Option, None, Result, Ok, Err, refl, subst}
use Rattle.std.specs.Prelude.{IfErr, IfOk}
use Rattle.aegis_edge.specs.Folder.{Files, Asking, AsksOne}
use Rattle.aegis_words.specs.declared.file.File.TheVariants as kinds
use Rattle.aegis_words.specs.CommandTable as asks
use Rattle.aegis_words.specs.FileReading.{HasText}
use Rattle.aegis_words.specs.FileSteps.{FileStep}
use Rattle.aegis_words.specs.ListWordRow.{ListNames}
use Rattle.image_file.specs.declared.error.ImageError.TheVariants as errors
use Rattle.image_file.specs.declared.image.Image.{Image as ImageType}
use Rattle.orbis_word.specs.Printing.{IsListing}
use Rattle.aegis_run.specs.declared.ends.TopEnd.{TopEnd}
use Rattle.aegis_run.specs.declared.ends.TopEnd.TheVariants.{Run, Mean, Done, Usage, TooLong, Token, Syntax, Typing, Plan, Image, NotYet, NoFile, ReadFault, WriteFault, OutOfMemory}
use Rattle.aegis_run.specs.Causes.{CauseAt, CauseAtFile, IsAnswered}
use Rattle.aegis_run.specs.FilesRead.{ImageCause, IsImageText, IsStopped, ListReady, SendsListing, Writes}
use Rattle.aegis_run.specs.ListCommand.{IsListingOf, ListCommand}
use Rattle.aegis_run.proofs.ReadingLemmas.{answered, begun, read_on, stopped}

-- the file of a `list`
abbrev image_step : List ℕ → FileStep
image_step name = record { file = kinds.Image; name = name }

-- a text that is no file of an image stops a `list`
list_refused : (files : Option Files) (names : ListNames) (name text slice : List ℕ) (before now : ℕ) (end : TopEnd) → HasText files (image_step name) text
    → slice ≡ text → ImageCause slice end → CauseAtFile files (asks.Listing names) (image_step name) before now end
list_refused files names name text slice before now end read same cause = let P : List ℕ → Type 0 = λ text. ImageCause text end in go end (subst P same cause)
  where
    go : (end : TopEnd) → ImageCause text end → CauseAtFile files (asks.Listing names) (image_step name) before now end
    go Done cause = absurd cause
    go (Run how) cause = absurd cause
    go (Mean how) cause = absurd cause
    go Usage cause = absurd cause
    go (TooLong file) cause = absurd cause
    go (NoFile file) cause = absurd cause
    go (Token error) cause = absurd cause
    go (Syntax error) cause = absurd cause
    go (Typing error) cause = absurd cause
    go (Plan error) cause = absurd cause
    go (NotYet file) cause = absurd cause
    go ReadFault cause = absurd cause
    go WriteFault cause = absurd cause
    go OutOfMemory cause = tt
    go (Image (errors.Short at)) cause = record { text = text; read = read; fault = cause }
    go (Image errors.Magic) cause = record { text = text; read = read; fault = cause }
    go (Image (errors.Version found)) cause = record { text = text; read = read; fault = cause }
    go (Image (errors.Field at)) cause = record { text = text; read = read; fault = cause }
    go (Image (errors.Trailing at)) cause = record { text = text; read = read; fault = cause }
    go (Image errors.OutOfMemory) cause = absurd cause

-- it has read its file
list_read : (files : Option Files) (names : ListNames) (before now : ℕ) (old new : Option (List Asking)) (text slice : List ℕ) (image : ImageType) → now ≡ before
    → AsksOne old new names.image before → HasText files (image_step names.image) text → slice ≡ text → IsImageText slice image
    → ListReady files names before now old new image
list_read files names before now old new text slice image still asked has same is =
    let P : List ℕ → Type 0 = λ text. IsImageText text image in
    let here : IsImageText text image = subst P same is in
    record {
      text = text;
      read = read_on files (asks.Listing names) (image_step names.image) before before now old old new [] text (begun files (asks.Listing names) before old) refl still asked has here.faultless;
      is_text = here;
    }

-- and what it found there
pub list_ready : (files : Option Files) (names : ListNames) (before now : ℕ) (old new : Option (List Asking)) (text slice : List ℕ) (found : Result ImageType TopEnd) → now ≡ before
    → AsksOne old new names.image before → HasText files (image_step names.image) text → slice ≡ text → IfOk found (IsImageText slice)
    → IfOk found (λ image. ListReady files names before now old new image)
list_ready files names before now old new text slice (Ok image) still asked has same is = list_read files names before now old new text slice image still asked has same is
list_ready files names before now old new text slice (Err end) still asked has same is = tt

pub list_stopped : (files : Option Files) (names : ListNames) (before now : ℕ) (old new : Option (List Asking)) (text slice : List ℕ) (found : Result ImageType TopEnd) → now ≡ before
    → AsksOne old new names.image before → HasText files (image_step names.image) text → slice ≡ text → IfErr found (ImageCause slice)
    → IfErr found (λ end. IsStopped files (asks.Listing names) before now old new end)
list_stopped files names before now old new text slice (Ok image) still asked has same cause = tt
list_stopped files names before now old new text slice (Err end) still asked has same cause =
    stopped files (asks.Listing names) (image_step names.image) before before now old old new [] end (begun files (asks.Listing names) before old) refl asked
    (list_refused files names names.image text slice before now end has same cause) (λ other. still)

pub list_answered : (files : Option Files) (names : ListNames) (before now : ℕ) (old new : Option (List Asking)) (image : ImageType) (code : List ℕ) (written written' : Option (List ℕ)) (end : TopEnd)
    → ListReady files names before now old new image → SendsListing end written written' code → IsAnswered files (asks.Listing names) before now old new end
list_answered files names before now old new image code written written' end ready sends =
    answered files (asks.Listing names) before now old new (ready.text ∷ []) end ready.read refl (go end sends)
  where
    go : (end : TopEnd) → SendsListing end written written' code → CauseAt files (asks.Listing names) None before now end
    go Done sends = inl tt
    go (Run how) sends = absurd sends
    go (Mean how) sends = absurd sends
    go Usage sends = absurd sends
    go (TooLong file) sends = absurd sends
    go (NoFile file) sends = absurd sends
    go (Token error) sends = absurd sends
    go (Syntax error) sends = absurd sends
    go (Typing error) sends = absurd sends
    go (Plan error) sends = absurd sends
    go (NotYet file) sends = absurd sends
    go ReadFault sends = absurd sends
    go WriteFault sends = inl tt
    go OutOfMemory sends = inr refl
    go (Image error) sends = absurd sends

pub list_sent : (files : Option Files) (names : ListNames) (before now : ℕ) (old new : Option (List Asking)) (image : ImageType) (written written' : Option (List ℕ)) (end : TopEnd)
    → ListReady files names before now old new image → SendsListing end written written' image.code → ListCommand files names end written written'
list_sent files names before now old new image written written' end ready sends = go end sends
  where
    lists : (lines : List ℕ) → IsListing 0 image.code lines → IsListingOf files names lines
    lists lines is = record {
      text = ready.text;
      has_text = ready.read.passed.1.0.whole;
      image = image;
      words = ready.is_text.words;
      is_file = ready.is_text.is_file;
      lists = is;
    }

    go : (end : TopEnd) → SendsListing end written written' image.code → ListCommand files names end written written'
    go Done sends = record { lines = sends.0; listing = lists sends.0 sends.1; bytes = sends.2 }
    go (Run how) sends = absurd sends
    go (Mean how) sends = absurd sends
    go Usage sends = absurd sends
    go (TooLong file) sends = absurd sends
    go (NoFile file) sends = absurd sends
    go (Token error) sends = absurd sends
    go (Syntax error) sends = absurd sends
    go (Typing error) sends = absurd sends
    go (Plan error) sends = absurd sends
    go (NotYet file) sends = absurd sends
    go ReadFault sends = absurd sends
    go WriteFault sends = record { lines = sends.0; listing = lists sends.0 sends.1; bytes = sends.2 }
    go OutOfMemory sends = sends
    go (Image error) sends = absurd sends

-- where no byte goes out, none went out
pub list_silent : (files : Option Files) (names : ListNames) (end : TopEnd) (written : Option (List ℕ)) → (Writes end → ⊥) → ListCommand files names end written written
list_silent files names Done written silent = absurd (silent tt)
list_silent files names (Run how) written silent = refl
list_silent files names (Mean how) written silent = refl
list_silent files names Usage written silent = refl
list_silent files names (TooLong file) written silent = refl
list_silent files names (NoFile file) written silent = refl
list_silent files names (Token error) written silent = refl
list_silent files names (Syntax error) written silent = refl
list_silent files names (Typing error) written silent = refl
list_silent files names (Plan error) written silent = refl
list_silent files names (NotYet file) written silent = refl
list_silent files names ReadFault written silent = refl
list_silent files names WriteFault written silent = absurd (silent tt)
list_silent files names OutOfMemory written silent = refl
list_silent files names (Image error) written silent = refl
