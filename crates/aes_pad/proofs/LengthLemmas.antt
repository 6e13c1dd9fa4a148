-- How long sums, encrypted blocks and pads are.
use Rattle.std.proofs.Common.{◌≡◌, ℕ, ◌+◌, ◌*◌, zero, suc, List, [], ◌∷◌, ◌++◌, length, refl, ◌∙◌, length-append, arith}
use Rattle.aegis_num.specs.declared.storage.Key.{Key}
use Rattle.aes_pad.specs.Cipher.{xor_bytes, next_key, round_key, last_state, state_after, shift_rows, sub_bytes, cipher}
use Rattle.aes_pad.specs.Pads.{pad_input, pad_blocks, pad}

pub sum-long : (bytes others : List ℕ) → length bytes ≡ length others → length (xor_bytes bytes others) ≡ length bytes
sum-long [] others long = refl
sum-long (b ∷ bytes) [] long = absurd (omega (arith, long))
sum-long (b ∷ bytes) (c ∷ others) long = omega (arith, sum-long bytes others (omega (arith, long)))

next-long : (key : List ℕ) (constant : ℕ) → length (next_key key constant) ≡ 16
unfolding next_key
next-long key constant = refl

last_key-long : (key : List ℕ) → length (round_key key 10) ≡ 16
unfolding round_key
last_key-long key = next-long (round_key key 9) _

shifted-long : (state : List ℕ) → length (shift_rows state) ≡ 16
shifted-long state = refl

last-long : (state key : List ℕ) → length key ≡ 16 → length (last_state state key) ≡ 16
unfolding last_state
last-long state key long = sum-long (shift_rows (sub_bytes state)) key (omega (arith, long, shifted-long (sub_bytes state))) ∙ shifted-long (sub_bytes state)

pub cipher-long : (key block : List ℕ) → length (cipher key block) ≡ 16
unfolding cipher
cipher-long key block = last-long (state_after key block 9) (round_key key 10) (last_key-long key)

blocks-long : (key : Key) (number stamp j : ℕ) → length (pad_blocks key number stamp j) ≡ 16 * j
unfolding pad_blocks
blocks-long key number stamp zero = refl
blocks-long key number stamp (suc j) =
    omega (arith, length-append (pad_blocks key number stamp j) (cipher key.0 (pad_input number stamp j)), blocks-long key number stamp j, cipher-long key.0 (pad_input number stamp j))

pub pad-long : (key : Key) (number stamp : ℕ) → length (pad key number stamp) ≡ 64
pad-long key number stamp = omega (arith, blocks-long key number stamp 4)
