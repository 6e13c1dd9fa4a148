-- Promise: why a file is no image: the first fault, by the table of the fields.
use Rattle.std.specs.Prelude.{◌≡◌, ℕ, ◌+◌, ◌*◌, nat_lt, if◌then◌else◌, List, [], ◌∷◌, ◌++◌, length, take, drop, map, Option, Some, None, Result, Ok, Err}
use Rattle.std.specs.Int.{w32, from_be_bytes}
use Rattle.regions.specs.declared.addresses.TheConstants.{BLOCK_BYTES}
use Rattle.image_file.specs.declared.error.ImageError.{ImageError}
use Rattle.image_file.specs.declared.error.ImageError.TheVariants as errors
use Rattle.image_file.specs.declared.image.Image.{Image}
use Rattle.image_file.specs.declared.image.TheConstants.{HEADER_BYTES}
use Rattle.image_file.specs.ImageTable.{Header, Field, fields}

-- the number of four bytes that stands at a place
abbrev pub number_at : List ℕ → ℕ → ℕ
number_at bytes at = from_be_bytes w32 (take 4 (drop at bytes))

-- the numbers that stand where a header has its fields
abbrev pub header_in : List ℕ → Header
header_in bytes = record {
  magic = number_at bytes 0;
  version = number_at bytes 4;
  verified = number_at bytes 8;
  private = number_at bytes 12;
  constants = number_at bytes 16;
  code = number_at bytes 20;
  log = number_at bytes 24;
  shared = number_at bytes 28;
  entry = number_at bytes 32;
}

-- the fault of a field: the file ends before its last byte, or its number may not stand there
abbrev pub field_fault : List ℕ → Field → Option ImageError
field_fault bytes f =
    if nat_lt (length bytes) (f.at + 4) then Some (errors.Short (length bytes)) else (if f.allowed then None else Some f.refusal)

-- how long a file with this header is: the header, and 64 bytes for each constant block and each code block
abbrev pub file_length : Header → ℕ
file_length h = HEADER_BYTES + BLOCK_BYTES * (h.constants + h.code)

-- the fault of the blocks: the file ends before the last one, or goes on after it
abbrev pub blocks_fault : List ℕ → ℕ → Option ImageError
blocks_fault bytes whole =
    if nat_lt (length bytes) whole
    then Some (errors.Short (length bytes))
    else (if nat_lt whole (length bytes) then Some (errors.Trailing whole) else None)

-- the first fault of a list of what may be one
abbrev pub first_of : List (Option ImageError) → Option ImageError
first_of [] = None
first_of (None ∷ later) = first_of later
first_of (Some fault ∷ later) = Some fault

-- the first fault of a file: those of its fields in order, and then that of its blocks
abbrev pub first_fault : List ℕ → Option ImageError
first_fault bytes = first_of (map (field_fault bytes) (fields (header_in bytes)) ++ blocks_fault bytes (file_length (header_in bytes)) ∷ [])

-- the answer is this image, or want of memory
abbrev pub FindsUnlessMemory : Image → Result Image ImageError → Type 0
FindsUnlessMemory image (Ok found) = found ≡ image
FindsUnlessMemory image (Err error) = error ≡ errors.OutOfMemory
