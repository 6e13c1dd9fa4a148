-- Promise: the command `list`: what lets it go on and what stops it, which answers are its own, and what goes out.
use Rattle.std.specs.Prelude.{◌≡◌, ℕ, List, Option, None, Some}
use Rattle.aegis_edge.specs.Folder.{Files, HoldsWhole}
use Rattle.aegis_edge.specs.Sink.{Appends, AppendsFront}
use Rattle.aegis_words.specs.declared.file.File.{File}
use Rattle.aegis_words.specs.declared.file.File.TheVariants as file
use Rattle.aegis_words.specs.ListWordRow.{ListNames}
use Rattle.image_file.specs.declared.error.ImageError.TheVariants as errors
use Rattle.image_file.specs.declared.image.Image.{Image}
use Rattle.image_file.specs.ImageFaults.{first_fault}
use Rattle.image_file.specs.ImageTable.{bytes_of, HoldsWords}
use Rattle.orbis_word.specs.Printing.{IsListing}
use Rattle.aegis_run.specs.declared.ends.TopEnd.{TopEnd}
use Rattle.aegis_run.specs.declared.ends.TopEnd.TheVariants as answer

-- the text of a file lets a `list` go on: it has no fault, so it is the file of an image; a `list` reads no other file
abbrev pub ServesList : File → List ℕ → Type 0
ServesList file.Image text = first_fault text ≡ None
ServesList file.Source text = ⊥
ServesList file.Script text = ⊥
ServesList file.Input text = ⊥

-- Why the text of a file stops a `list`, and which answer says so: its first fault. Want of memory is no such reason.
abbrev pub StopsList : File → List ℕ → TopEnd → Type 0
StopsList file.Image text (answer.Image errors.OutOfMemory) = ⊥
StopsList file.Image text (answer.Image error) = first_fault text ≡ Some error
StopsList file text end = ⊥

-- The file of this name is that of an image, and the lines are the listing of its code.
pub record IsListingOf (files : Option Files) (names : ListNames) (lines : List ℕ) : Type 0 where
  pub text : List ℕ
  pub has_text : HoldsWhole files names.image text
  pub image : Image
  pub words : HoldsWords image
  pub is_file : text ≡ bytes_of image
  pub lists : IsListing 0 image.code lines

-- a listing, all lines of which went out
pub record Listed (files : Option Files) (names : ListNames) (old new : Option (List ℕ)) : Type 0 where
  pub lines : List ℕ
  pub listing : IsListingOf files names lines
  pub bytes : Appends old new lines

-- a listing of which a line was not taken: a front of it went out
pub record ListCutShort (files : Option Files) (names : ListNames) (old new : Option (List ℕ)) : Type 0 where
  pub lines : List ℕ
  pub listing : IsListingOf files names lines
  pub bytes : AppendsFront old new lines

-- what goes out before an answer of a `list`
abbrev pub ListCommand : Option Files → ListNames → TopEnd → Option (List ℕ) → Option (List ℕ) → Type 0
ListCommand files names answer.Done old new = Listed files names old new
ListCommand files names answer.WriteFault old new = ListCutShort files names old new
ListCommand files names end old new = new ≡ old

-- the answers that a `list` gives once its file was read
abbrev pub IsOwnOfList : TopEnd → Type 0
IsOwnOfList answer.Done = Unit {0}
IsOwnOfList answer.WriteFault = Unit {0}
IsOwnOfList end = ⊥
