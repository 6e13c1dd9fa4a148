-- Promise: the file of an image: the table of its fields, and its bytes. Numbers are big-endian.
use Rattle.std.specs.Prelude.{ℕ, ◌+◌, ◌*◌, ◌%◌, ◌^◌, ◌<◌, Bool, ◌==◌, ◌&&◌, nat_le, nat_lt, List, [], ◌∷◌, ◌++◌}
use Rattle.std.specs.List.{flat_map, AllByRecursion}
use Rattle.std.specs.Int.{w32, to_be_bytes}
use Rattle.regions.specs.declared.layout.TheConstants.{MAX_DATA_BLOCKS, MAX_LOG_BLOCKS, MAX_SHARED_BYTES}
use Rattle.image_file.specs.declared.error.ImageError.{ImageError}
use Rattle.image_file.specs.declared.error.ImageError.TheVariants as errors
use Rattle.image_file.specs.declared.image.Image.{Image}
use Rattle.image_file.specs.declared.image.TheConstants.{BLOCK_WORDS, MAGIC, VERSION}

-- the numbers of a header: the magic number, the version, and what is said of the image
pub record Header : Type 0 where
  pub magic : ℕ
  pub version : ℕ
  pub verified : ℕ
  pub private : ℕ
  pub constants : ℕ
  pub code : ℕ
  pub log : ℕ
  pub shared : ℕ
  pub entry : ℕ

-- a field of the header: its place, its number, whether this number may stand there, and how it is refused if not
pub record Field : Type 0 where
  pub at : ℕ
  pub number : ℕ
  pub allowed : Bool
  pub refusal : ImageError

abbrev pub field : ℕ → ℕ → Bool → ImageError → Field
field at number allowed refusal = record { at = at; number = number; allowed = allowed; refusal = refusal }

-- the table: each field of the header, in order. No sum of data blocks passes its limit, and there is a code block
abbrev pub fields : Header → List Field
fields h =
    field 0 h.magic (h.magic == MAGIC) errors.Magic
    ∷ field 4 h.version (h.version == VERSION) (errors.Version h.version)
    ∷ field 8 h.verified (nat_le h.verified MAX_DATA_BLOCKS) (errors.Field 8)
    ∷ field 12 h.private (nat_le (h.verified + h.private) MAX_DATA_BLOCKS) (errors.Field 12)
    ∷ field 16 h.constants (nat_le (h.verified + h.private + h.constants) MAX_DATA_BLOCKS) (errors.Field 16)
    ∷ field 20 h.code (nat_le (h.verified + h.private + h.constants + h.code) MAX_DATA_BLOCKS && nat_lt 0 h.code) (errors.Field 20)
    ∷ field 24 h.log (nat_le h.log MAX_LOG_BLOCKS) (errors.Field 24)
    ∷ field 28 h.shared (nat_le h.shared MAX_SHARED_BYTES && h.shared % 4 == 0) (errors.Field 28)
    ∷ field 32 h.entry (nat_lt h.entry (BLOCK_WORDS * h.code)) (errors.Field 32)
    ∷ []

-- the header of an image
abbrev pub header_of : Image → Header
header_of image = record {
  magic = MAGIC;
  version = VERSION;
  verified = image.layout.verified;
  private = image.layout.private;
  constants = image.layout.constants;
  code = image.layout.code;
  log = image.layout.log;
  shared = image.layout.shared;
  entry = image.entry;
}

-- the bytes of a header: its numbers in order, four bytes each
abbrev pub header_bytes : Header → List ℕ
header_bytes h = flat_map (λ f. to_be_bytes w32 f.number) (fields h)

-- the bytes of the static blocks: the constant blocks, and then the code blocks
abbrev pub static_bytes : Image → List ℕ
static_bytes image = image.constants ++ flat_map (to_be_bytes w32) image.code

-- the file of an image
abbrev pub bytes_of : Image → List ℕ
bytes_of image = header_bytes (header_of image) ++ static_bytes image

-- its constants are bytes, and its code is words
pub record HoldsWords (image : Image) : Type 0 where
  pub constants : AllByRecursion (λ byte. byte < 2 ^ 8) image.constants
  pub code : AllByRecursion (λ word. word < 2 ^ 32) image.code
