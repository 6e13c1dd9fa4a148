-- How long the file of an image is.
use Rattle.std.proofs.Common.{◌≡◌, ℕ, ◌+◌, ◌*◌, List, [], ◌∷◌, length, refl, arith}
use Rattle.std.specs.Int.{w32, to_be_bytes}
use Rattle.std.specs.List.{flat_map}
use Rattle.std.proofs.lemmas.List.{length-append}
use Rattle.image_file.specs.declared.Image.{Image}
use Rattle.image_file.specs.ImageTable.{bytes_of}

length-words : (words : List ℕ) → length (flat_map (to_be_bytes w32) words) ≡ 4 * length words
length-words [] = refl
length-words (word ∷ words) = omega (arith, length-words words)

-- the header, and 64 bytes for each static block
pub length-file : (image : Image) → length (bytes_of image) ≡ 36 + 64 * (image.layout.constants + image.layout.code)
length-file image = omega (arith, length-append image.constants (flat_map (to_be_bytes w32) image.code), length-words image.code, image.constants_whole, image.code_whole)
