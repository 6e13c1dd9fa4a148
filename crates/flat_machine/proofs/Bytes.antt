-- Bytes of static blocks.
use Rattle.std.proofs.Common.{◌≡◌, ℕ, suc, ◌+◌, ◌*◌, ◌^◌, ◌<◌, List, [], ◌∷◌, length, get_or, arith}
use Rattle.std.proofs.lemmas.List.{length-append}
use Rattle.std.specs.List.{AllByRecursion}
use Rattle.orbis_core.specs.ByteOrder.{bytes_of}
use Rattle.orbis_core.proofs.FlatLaws.{length-bytes_of}
use Rattle.image_file.specs.declared.Image.{Image}
use Rattle.image_file.specs.ImageTable.{static_bytes}

-- what holds of each byte by its number holds of all
pub all-bytes : (bytes : List ℕ) → ((k : ℕ) → get_or bytes k 0 < 2 ^ 8) → AllByRecursion (λ byte. byte < 2 ^ 8) bytes
all-bytes [] small = tt
all-bytes (byte ∷ bytes) small = (small 0, all-bytes bytes (λ k. small (suc k)))

-- there are 64 bytes for each block
pub length-static_bytes : (image : Image) → length (static_bytes image) ≡ 64 * (image.layout.constants + image.layout.code)
length-static_bytes image =
    let both : length (static_bytes image) ≡ length image.constants + length (bytes_of image.code) = length-append image.constants (bytes_of image.code) in
    let code : length (bytes_of image.code) ≡ 4 * length image.code = length-bytes_of image.code in
    let constants_whole = image.constants_whole in
    let code_whole = image.code_whole in omega arith
