-- Promise: the pad that hides the payload of a private block: its 64 bytes are four blocks of AES-128 in counter mode (NIST SP 800-38A, section 6.5).
-- The counter blocks are this project's own, and their numbers have the greatest byte first.
use Rattle.std.specs.Prelude.{ℕ, zero, suc, List, [], ◌++◌}
use Rattle.std.specs.Int.{w32, w64, to_be_bytes}
use Rattle.aegis_num.specs.declared.storage.Key.{Key}
use Rattle.aes_pad.specs.Cipher.{cipher}

-- counter block j: the number of the tree block in 4 bytes, its stamp in 8, and j in 4
unfoldable pub pad_input : ℕ → ℕ → ℕ → List ℕ
pad_input number stamp j = to_be_bytes w32 number ++ to_be_bytes w64 stamp ++ to_be_bytes w32 j

-- the first n blocks of a pad, from j = 0 on
unfoldable pub pad_blocks : Key → ℕ → ℕ → ℕ → List ℕ
pad_blocks key number stamp zero = []
pad_blocks key number stamp (suc j) = pad_blocks key number stamp j ++ cipher key.0 (pad_input number stamp j)

-- the pad of a block that was written with a stamp
abbrev pub pad : Key → ℕ → ℕ → List ℕ
pad key number stamp = pad_blocks key number stamp 4
