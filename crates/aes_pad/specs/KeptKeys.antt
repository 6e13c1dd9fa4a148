-- Device: words as the code keeps them, with the first byte of a column as the greatest, and the round keys in this form.
use Rattle.std.specs.Prelude.{◌≡◌, ℕ, ◌<◌, List, [], ◌++◌, slice_index}
use Rattle.std.specs.List.{slice_index_or}
use Rattle.std.specs.Int.{w32, to_be_bytes}
use Rattle.aegis_num.specs.declared.storage.Key.{Key}
use Rattle.aes_pad.specs.declared.aes.Aes.TheInside.{Inside}
use Rattle.aes_pad.specs.Cipher.{round_key}

-- four words as bytes
unfoldable pub bytes_of : List ℕ → List ℕ
bytes_of words = to_be_bytes w32 (slice_index words 0) ++ to_be_bytes w32 (slice_index words 1) ++ to_be_bytes w32 (slice_index words 2) ++ to_be_bytes w32 (slice_index words 3)

-- round key r as it is kept
abbrev pub kept_key : List (List ℕ) → ℕ → List ℕ
kept_key keys r = bytes_of (slice_index_or keys r [])

-- the key that was expanded
abbrev pub key_of : Inside → Key
key_of aes = record { 0 = kept_key aes.keys 0 }

-- the round keys of one key
abbrev pub IsExpanded : Inside → Type 0
IsExpanded aes = (r : ℕ) → r < 11 → kept_key aes.keys r ≡ round_key (kept_key aes.keys 0) r
