-- How a pad is put together, and how it is added.
use Rattle.std.proofs.Common.{◌≡◌, ℕ, ◌+◌, ◌*◌, ◌<◌, ◌≤◌, List, [], ◌∷◌, ◌++◌, length, take, slice_index, slice_set, refl, sym, ap, subst, ◌∙◌, inl, inr, add-one, take_all, length-set, arith}
use Rattle.std.specs.Int.{w32, w64, to_be_bytes}
use Rattle.std.proofs.lemmas.Bool.{cases_lt}
use Rattle.std.proofs.lemmas.List.{get_or-set_same, get_or-set_other}
use Rattle.aegis_num.specs.declared.storage.Key.{Key}
use Rattle.aes_pad.specs.Field.{◌⊕◌}
use Rattle.aes_pad.specs.Cipher.{cipher}
use Rattle.aes_pad.specs.Pads.{pad_input, pad_blocks}

pub pad_input_from : (number stamp j : ℕ) (n s p : List ℕ) → n ≡ to_be_bytes w32 number → s ≡ to_be_bytes w64 stamp → p ≡ to_be_bytes w32 j
    → slice_index n 0 ∷ slice_index n 1 ∷ slice_index n 2 ∷ slice_index n 3 ∷ slice_index s 0 ∷ slice_index s 1 ∷ slice_index s 2 ∷ slice_index s 3
    ∷ slice_index s 4 ∷ slice_index s 5 ∷ slice_index s 6 ∷ slice_index s 7 ∷ slice_index p 0 ∷ slice_index p 1 ∷ slice_index p 2 ∷ slice_index p 3 ∷ []
    ≡ pad_input number stamp j
unfolding pad_input
pad_input_from number stamp j n s p en es ep = rw (en, es, ep) refl

pad_blocks_next : (key : Key) (number stamp j : ℕ) → pad_blocks key number stamp (j + 1) ≡ pad_blocks key number stamp j ++ cipher key.0 (pad_input number stamp j)
unfolding pad_blocks
pad_blocks_next key number stamp j = rw add-one refl

pub no_blocks : (key : Key) (number stamp : ℕ) (pad : List ℕ) → take (16 * 0) pad ≡ pad_blocks key number stamp 0
unfolding pad_blocks
no_blocks key number stamp pad = refl

pub one_block_more : (key : Key) (number stamp j : ℕ) (before after input block : List ℕ) → take (16 * j) before ≡ pad_blocks key number stamp j
    → input ≡ pad_input number stamp j → block ≡ cipher key.0 input → take (16 * j + 16) after ≡ take (16 * j) before ++ block
    → take (16 * (j + 1)) after ≡ pad_blocks key number stamp (j + 1)
one_block_more key number stamp j before after input block held given made put =
    let places : 16 * (j + 1) ≡ 16 * j + 16 = omega arith in
    ap (λ (n : ℕ). take n after) places ∙ put ∙ ap (λ (xs : List ℕ). xs ++ block) held
    ∙ ap (λ (xs : List ℕ). pad_blocks key number stamp j ++ xs) (made ∙ ap (λ (xs : List ℕ). cipher key.0 xs) given)
    ∙ sym (pad_blocks_next key number stamp j)

pub whole_pad : (key : Key) (number stamp n : ℕ) (pad : List ℕ) → n ≡ 4 → length pad ≡ 64 → take (16 * n) pad ≡ pad_blocks key number stamp n → pad ≡ pad_blocks key number stamp 4
whole_pad key number stamp n pad four long held =
    sym (take_all 64 pad (omega (arith, long))) ∙ subst (λ (k : ℕ). take (16 * k) pad ≡ pad_blocks key number stamp k) four held

-- the first i bytes are added, and the others are as they were
abbrev pub IsAdded : List ℕ → List ℕ → List ℕ → ℕ → Type 0
IsAdded before pad now i =
    (length now ≡ 64)
    × ((k : ℕ) → k < i → slice_index now k ≡ slice_index before k ⊕ slice_index pad k)
    × ((k : ℕ) → i ≤ k → slice_index now k ≡ slice_index before k)

pub one_byte_more : (before pad now : List ℕ) (i byte : ℕ) → i < 64 → IsAdded before pad now i → byte ≡ slice_index now i ⊕ slice_index pad i
    → IsAdded before pad (slice_set now i byte) (i + 1)
one_byte_more before pad now i byte below added is = (
  length-set now i byte ∙ added.0,
  λ k less. elim (cases_lt k i) [
    | inl lower ↦ get_or-set_other now i k byte 0 (omega (arith, lower)) ∙ added.1 k lower
    | inr higher ↦
        let e : i ≡ k = omega (arith, higher, less) in
        subst (λ (n : ℕ). slice_index (slice_set now i byte) n ≡ slice_index before n ⊕ slice_index pad n) e
        (get_or-set_same now i byte 0 (omega (arith, below, added.0)) ∙ is ∙ ap (λ (n : ℕ). n ⊕ slice_index pad i) (added.2 i (omega arith)))
  ],
  λ k more. get_or-set_other now i k byte 0 (omega (arith, more)) ∙ added.2 k (omega (arith, more)),
)
