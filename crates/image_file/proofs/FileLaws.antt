-- What is read is an image's file, and the file of an image has no fault and no other image.
use Rattle.std.proofs.Common.{◌≡◌, ℕ, zero, suc, ◌+◌, ◌*◌, ◌%◌, ◌^◌, ◌<◌, ◌≤◌, Bool, true, false, cond, ltb, List, [], ◌∷◌, ◌++◌, length, take, drop, map, Option, Some, None, Result, refl, sym, ap, ◌∙◌, arith}
use Rattle.std.specs.Int.{w32, to_be_bytes}
use Rattle.std.specs.List.{flat_map, AllByRecursion}
use Rattle.std.proofs.lemmas.Bool.{le-ltb, le-leb, lt-ltb, eq-eqb, and_from, ltb-true, ltb-false, leb-true, eqb-true, and_parts}
use Rattle.std.proofs.lemmas.List.{length-append, length-drop, take_at, drop_at}
use Rattle.regions.specs.declared.layout.Layout.{Layout}
use Rattle.image_file.specs.declared.error.ImageError.{ImageError}
use Rattle.image_file.specs.declared.error.ImageError.TheVariants as errors
use Rattle.image_file.specs.declared.image.Image.{Image}
use Rattle.image_file.specs.ImageTable.{Header, Field, fields, header_of, header_bytes, static_bytes, bytes_of, HoldsWords}
use Rattle.image_file.specs.ImageFaults.{number_at, header_in, field_fault, file_length, blocks_fault, first_of, first_fault, FindsUnlessMemory}
use Rattle.image_file.specs.ImageLaws.{ImagesHaveOneFile, FilesOfImagesAreFaultless, FaultlessFilesAreOfImages}
use Rattle.image_file.specs.ReadParts.{fault_among, HasNumbers, words_in}
use Rattle.image_file.proofs.Headers.{FitsFields, same-header, header-again, header-back, AreFine, first_of-fine, first_of-append, or_else}
use Rattle.image_file.proofs.Same.{numbers_of, same-image}
use Rattle.image_file.proofs.Words.{AreBytes, AreBytes-drop, TakenApart, taken_apart, length-word_bytes, one-word_bytes}

-- ---- images

image-fits : (image : Image) → FitsFields (header_of image)
image-fits image = record {
  magic = omega arith;
  version = omega arith;
  verified = omega (arith, image.layout.data_fits);
  private = omega (arith, image.layout.data_fits);
  constants = omega (arith, image.layout.data_fits);
  code = omega (arith, image.layout.data_fits);
  log = omega (arith, image.layout.log_fits);
  shared = omega (arith, image.layout.shared_fits);
  entry = omega (arith, image.entry_inside, image.layout.data_fits);
}

header_in-bytes_of : (image : Image) → header_in (bytes_of image) ≡ header_of image
header_in-bytes_of image = header-again (header_of image) (static_bytes image) (image-fits image)

length-bytes_of : (image : Image) → length (bytes_of image) ≡ 36 + 64 * (image.layout.constants + image.layout.code)
length-bytes_of image = omega (arith, length-append image.constants (flat_map (to_be_bytes w32) image.code), length-word_bytes image.code, image.constants_whole, image.code_whole)

image-fine : (image : Image) → AreFine (bytes_of image) (fields (header_of image))
image-fine image =
    let whole = length-bytes_of image in
    let code : 0 < image.layout.code = omega (arith, image.entry_inside) in (
      (omega arith, refl),
      (
        (omega arith, refl),
        (
          (omega arith, le-leb _ _ (omega (arith, image.layout.data_fits))),
          (
            (omega arith, le-leb _ _ (omega (arith, image.layout.data_fits))),
            (
              (omega arith, le-leb _ _ (omega (arith, image.layout.data_fits))),
              (
                (omega arith, and_from _ _ (le-leb _ _ image.layout.data_fits) (lt-ltb _ _ code)),
                (
                  (omega arith, le-leb _ _ image.layout.log_fits),
                  (
                    (omega arith, and_from _ _ (le-leb _ _ image.layout.shared_fits) (eq-eqb _ _ image.shared_words)),
                    (
                      (omega arith, lt-ltb _ _ image.entry_inside),
                      tt,
                    ),
                  ),
                ),
              ),
            ),
          ),
        ),
      ),
    )

-- the fault of a file, by the header that is in it
fault_by : List ℕ → Header → Option ImageError
fault_by bytes h = first_of (map (field_fault bytes) (fields h) ++ blocks_fault bytes (file_length h) ∷ [])

blocks-fine : (bytes : List ℕ) (whole : ℕ) → length bytes ≡ whole → blocks_fault bytes whole ≡ None
blocks-fine bytes whole e = rw (le-ltb (length bytes) whole (omega arith), le-ltb whole (length bytes) (omega arith)) refl

pub files_of_images_are_faultless : FilesOfImagesAreFaultless
unfolding fault_by
files_of_images_are_faultless image words =
    ap (fault_by (bytes_of image)) (header_in-bytes_of image)
    ∙ first_of-fine (bytes_of image) (fields (header_of image)) (blocks_fault (bytes_of image) (file_length (header_of image))) (image-fine image)
    (blocks-fine (bytes_of image) (file_length (header_of image)) (length-bytes_of image))

pub images_have_one_file : ImagesHaveOneFile
images_have_one_file image other words words' e =
    let headers : header_of image ≡ header_of other = sym (header_in-bytes_of image) ∙ ap header_in e ∙ header_in-bytes_of other in
    let statics : static_bytes image ≡ static_bytes other = ap (drop 36) e in
    let constants_count : image.layout.constants ≡ other.layout.constants = ap (λ (h : Header). h.constants) headers in
    let count : ℕ = 64 * image.layout.constants in
    let length_here : length image.constants ≡ count = image.constants_whole in
    let length_there : length other.constants ≡ count = other.constants_whole ∙ ap (λ (n : ℕ). 64 * n) (sym constants_count) in
    let constants : image.constants ≡ other.constants = sym (take_at image.constants (flat_map (to_be_bytes w32) image.code) count length_here) ∙ ap (take count) statics ∙ take_at other.constants (flat_map (to_be_bytes w32) other.code) count length_there in
    let codes : flat_map (to_be_bytes w32) image.code ≡ flat_map (to_be_bytes w32) other.code = sym (drop_at image.constants (flat_map (to_be_bytes w32) image.code) count length_here) ∙ ap (drop count) statics ∙ drop_at other.constants (flat_map (to_be_bytes w32) other.code) count length_there in
    same-image image other (ap (λ (h : Header). (h.verified, h.private, h.constants, h.code, h.log, h.shared)) headers) (ap (λ (h : Header). h.entry) headers) constants (one-word_bytes image.code other.code words.code words'.code codes)

-- no file of an image has a fault
pub no-fault : (image : Image) (bytes : List ℕ) (fault : ImageError) → HoldsWords image → bytes ≡ bytes_of image → first_fault bytes ≡ Some fault → ⊥
no-fault image bytes fault words e told =
    let none : first_fault bytes ≡ None = ap first_fault e ∙ files_of_images_are_faultless image words in
    let same : None ≡ Some fault = sym none ∙ told in
    cc

-- ---- files

first_of-one : (fault : Option ImageError) → first_of (fault ∷ []) ≡ fault
first_of-one None = refl
first_of-one (Some fault) = refl

first_fault-parts : (bytes : List ℕ) → first_fault bytes ≡ or_else (fault_among bytes 0 9) (blocks_fault bytes (file_length (header_in bytes)))
first_fault-parts bytes =
    first_of-append (map (field_fault bytes) (fields (header_in bytes))) (blocks_fault bytes (file_length (header_in bytes)) ∷ [])
    ∙ ap (or_else (fault_among bytes 0 9)) (first_of-one (blocks_fault bytes (file_length (header_in bytes))))

or_else-first : (first later : Option ImageError) (fault : ImageError) → first ≡ Some fault → or_else first later ≡ Some fault
or_else-first first later fault e = rw e refl

or_else-later : (first later : Option ImageError) → first ≡ None → or_else first later ≡ later
or_else-later first later e = rw e refl

pub fault-in_header : (bytes : List ℕ) (fault : ImageError) → Some fault ≡ fault_among bytes 0 9 → first_fault bytes ≡ Some fault
fault-in_header bytes fault e = first_fault-parts bytes ∙ or_else-first (fault_among bytes 0 9) (blocks_fault bytes (file_length (header_in bytes))) fault (sym e)

counted : (layout : Layout) (h : Header) → HasNumbers layout h → h.constants + h.code ≡ layout.constants + layout.code
counted layout h has = omega (arith, has.constants, has.code)

pub fault-in_blocks : (bytes : List ℕ) (layout : Layout) (told : Option ImageError) → None ≡ fault_among bytes 0 9 → told ≡ blocks_fault bytes (36 + 64 * (layout.constants + layout.code))
    → HasNumbers layout (header_in bytes) → first_fault bytes ≡ told
fault-in_blocks bytes layout told none e has =
    first_fault-parts bytes ∙ or_else-later (fault_among bytes 0 9) (blocks_fault bytes (file_length (header_in bytes))) (sym none)
    ∙ ap (λ (n : ℕ). blocks_fault bytes (36 + 64 * n)) (counted layout (header_in bytes) has) ∙ sym e

-- where a file has a fault, any answer will do for the images whose file it is, since there is none
pub only-at_fault : (bytes : List ℕ) (fault : ImageError) (result : Result Image ImageError) → first_fault bytes ≡ Some fault → (image : Image) → HoldsWords image → bytes ≡ bytes_of image → FindsUnlessMemory image result
only-at_fault bytes fault result told image words e = absurd (no-fault image bytes fault words e told)

-- the header of an image whose numbers stand in the file
header_of-in : (bytes : List ℕ) (image : Image) → number_at bytes 0 ≡ 0x41454753 → number_at bytes 4 ≡ 1 → HasNumbers image.layout (header_in bytes) → image.entry ≡ number_at bytes 32 → header_of image ≡ header_in bytes
header_of-in bytes image magic version has entry =
    same-header (header_of image) (header_in bytes) (sym magic) (sym version) has.verified has.private has.constants has.code has.log has.shared entry

pub image-read : (bytes : List ℕ) (image : Image) → AreBytes bytes → 36 ≤ length bytes → number_at bytes 0 ≡ 0x41454753 → number_at bytes 4 ≡ 1
    → HasNumbers image.layout (header_in bytes) → image.entry ≡ number_at bytes 32 → static_bytes image ≡ drop 36 bytes → bytes ≡ bytes_of image
image-read bytes image fit long magic version has entry statics =
    header-back bytes long fit ∙ ap (λ (h : Header). header_bytes h ++ drop 36 bytes) (sym (header_of-in bytes image magic version has entry)) ∙ ap (λ (l : List ℕ). header_bytes (header_of image) ++ l) (sym statics)

-- ---- files without a fault

cond-none : (short allowed : Bool) (x y : ImageError) → cond short (Some x) (cond allowed None (Some y)) ≡ None → (short ≡ false) × (allowed ≡ true)
cond-none true allowed x y e = absurd (cc)
cond-none false true x y e = (refl, refl)
cond-none false false x y e = absurd (cc)

cond-neither : (short long : Bool) (x y : ImageError) → cond short (Some x) (cond long (Some y) None) ≡ None → (short ≡ false) × (long ≡ false)
cond-neither true long x y e = absurd (cc)
cond-neither false true x y e = absurd (cc)
cond-neither false false x y e = (refl, refl)

first_of-none : (fault : Option ImageError) (later : List (Option ImageError)) → first_of (fault ∷ later) ≡ None → (fault ≡ None) × (first_of later ≡ None)
first_of-none None later e = (refl, e)
first_of-none (Some fault) later e = absurd (cc)

field-whole : (bytes : List ℕ) (f : Field) → field_fault bytes f ≡ None → (f.at + 4 ≤ length bytes) × (f.allowed ≡ true)
field-whole bytes f e =
    let tests = cond-none (ltb (length bytes) (f.at + 4)) f.allowed (errors.Short (length bytes)) f.refusal e in
    (ltb-false _ _ tests.0, tests.1)

none-fine : (bytes : List ℕ) (fs : List Field) (last : Option ImageError) → first_of (map (field_fault bytes) fs ++ last ∷ []) ≡ None → AreFine bytes fs × (last ≡ None)
none-fine bytes [] last e = (tt, (first_of-none last [] e).0)
none-fine bytes (f ∷ fs) last e =
    let parts = first_of-none (field_fault bytes f) (map (field_fault bytes) fs ++ last ∷ []) e in
    let rest = none-fine bytes fs last parts.1 in
    ((field-whole bytes f parts.0, rest.0), rest.1)

blocks-whole : (bytes : List ℕ) (whole : ℕ) → blocks_fault bytes whole ≡ None → length bytes ≡ whole
blocks-whole bytes whole e =
    let tests = cond-neither (ltb (length bytes) whole) (ltb whole (length bytes)) (errors.Short (length bytes)) (errors.Trailing whole) e in
    omega (arith, ltb-false _ _ tests.0, ltb-false _ _ tests.1)

AreBytes-each : (bytes : List ℕ) → AllByRecursion (λ byte. byte < 2 ^ 8) bytes → AreBytes bytes
AreBytes-each [] all i = omega arith
AreBytes-each (byte ∷ bytes) all zero = all.0
AreBytes-each (byte ∷ bytes) all (suc i) = AreBytes-each bytes all.1 i

-- a header whose numbers may all stand in their fields
record IsAllowed (h : Header) : Type 0 where
  magic : h.magic ≡ 0x41454753
  version : h.version ≡ 1
  data_blocks : h.verified + h.private + h.constants + h.code ≤ 6561
  log : h.log ≤ 1024
  shared : h.shared ≤ 32768
  words : h.shared % 4 ≡ 0
  entry : h.entry < 16 * h.code

fine-allowed : (bytes : List ℕ) (h : Header) → AreFine bytes (fields h) → IsAllowed h
fine-allowed bytes h fine = record {
  magic = eqb-true _ _ fine.0.1;
  version = eqb-true _ _ fine.1.0.1;
  data_blocks = leb-true _ _ (and_parts _ _ fine.1.1.1.1.1.0.1).0;
  log = leb-true _ _ fine.1.1.1.1.1.1.0.1;
  shared = leb-true _ _ (and_parts _ _ fine.1.1.1.1.1.1.1.0.1).0;
  words = eqb-true _ _ (and_parts _ _ fine.1.1.1.1.1.1.1.0.1).1;
  entry = ltb-true _ _ fine.1.1.1.1.1.1.1.1.0.1;
}

-- the image of a header and its blocks
image_with : (h : Header) (blocks : List ℕ) → IsAllowed h → TakenApart blocks (take (64 * h.constants) blocks) (words_in (drop (64 * h.constants) blocks)) h.constants h.code → Image
image_with h blocks allowed apart = record {
  layout = record {
    verified = h.verified;
    private = h.private;
    constants = h.constants;
    code = h.code;
    log = h.log;
    shared = h.shared;
    data_fits = allowed.data_blocks;
    log_fits = allowed.log;
    shared_fits = allowed.shared;
  };
  entry = h.entry;
  constants = take (64 * h.constants) blocks;
  code = words_in (drop (64 * h.constants) blocks);
  shared_words = allowed.words;
  entry_inside = allowed.entry;
  constants_whole = apart.constants_whole;
  code_whole = apart.code_whole;
}

pub faultless_files_are_of_images : FaultlessFilesAreOfImages
unfolding image_with
faultless_files_are_of_images bytes each e =
    let h : Header = header_in bytes in
    let blocks : List ℕ = drop 36 bytes in
    let parts = none-fine bytes (fields h) (blocks_fault bytes (file_length h)) e in
    let allowed : IsAllowed h = fine-allowed bytes h parts.0 in
    let whole : length bytes ≡ 36 + 64 * (h.constants + h.code) = blocks-whole bytes (file_length h) parts.1 in
    let fit : AreBytes bytes = AreBytes-each bytes each in
    let apart = taken_apart blocks h.constants h.code (omega (arith, length-drop 36 bytes)) (AreBytes-drop 36 bytes fit) in
    let image : Image = image_with h blocks allowed apart in
    record {
      image = image;
      words = record { constants = apart.constants_below; code = apart.code_below };
      file = image-read bytes image fit (omega arith) allowed.magic allowed.version (record { verified = refl; private = refl; constants = refl; code = refl; log = refl; shared = refl }) refl apart.bytes;
    }
