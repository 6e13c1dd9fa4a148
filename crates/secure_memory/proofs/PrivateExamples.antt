-- Which writes of private blocks are padded. Ten data blocks have a tree whose blocks 14 and 15 are private. The first bytes of the pads
-- are those of OpenSSL's AES-128 on the counter blocks.
use Rattle.std.proofs.Common.{◌≡◌, ℕ, true, false, List, [], ◌∷◌, get_or, Option, Some, None, refl, ap, ◌∙◌, sym, subst, arith, lit≤}
use Rattle.std.specs.Prelude.{replicate}
use Rattle.std.proofs.lemmas.List.Elements.{All-cons, All-nil}
use Rattle.aegis_num.specs.declared.storage.Block.{Block}
use Rattle.aegis_num.specs.declared.storage.Key.{Key}
use Rattle.aegis_num.specs.declared.storage.Place.TheVariants.{Log, Tree}
use Rattle.regions.specs.declared.layout.Layout.{Layout}
use Rattle.regions.specs.Tree.{height_of}
use Rattle.off_chip.specs.declared.event.Event.{Event}
use Rattle.off_chip.specs.declared.event.Event.TheVariants.{BlockRead, BlockWrite, WordWrite}
use Rattle.off_chip.specs.declared.event.Who.TheVariants.{Secure}
use Rattle.aes_pad.specs.Field.{product_by_bits, product, inverse_below, sub_byte}
use Rattle.aes_pad.specs.Cipher.{xor_bytes, next_key, round_key, next_state, last_state, state_after, cipher}
use Rattle.aes_pad.specs.Pads.{pad_input, pad_blocks, pad}
use Rattle.secure_memory.specs.PrivatePads.{Padding, is_private_block}
use Rattle.secure_memory.specs.PrivateWrites.{PadsWrite, PadsWrites}
use Rattle.secure_memory.proofs.PrivateLemmas.{other-pads}

abbrev padding : Padding
padding = record {
  key = record { 0 = 0x00 ∷ 0x01 ∷ 0x02 ∷ 0x03 ∷ 0x04 ∷ 0x05 ∷ 0x06 ∷ 0x07 ∷ 0x08 ∷ 0x09 ∷ 0x0a ∷ 0x0b ∷ 0x0c ∷ 0x0d ∷ 0x0e ∷ 0x0f ∷ [] };
  layout = record { verified = 1; private = 2; constants = 3; code = 4; log = 5; shared = 12; data_fits = lit≤ tt; log_fits = lit≤ tt; shared_fits = lit≤ tt };
}

abbrev zeros : List ℕ
zeros = replicate 64 0

-- each block has zeros in its line
abbrev all_zeros : ℕ → Option (List ℕ)
all_zeros n = Some zeros

number-written : (n m : ℕ) (block other : Block) → BlockWrite (Tree n) block ≡ BlockWrite (Tree m) other → n ≡ m
number-written n m block other same = cc

block-written : (n m : ℕ) (block other : Block) → BlockWrite (Tree n) block ≡ BlockWrite (Tree m) other → block ≡ other
block-written n m block other same = cc

-- a payload with the pad of its number and stamp
abbrev hidden : List ℕ → ℕ → ℕ → ℕ → Block
hidden payload n other stamp = record { payload = xor_bytes payload (pad padding.key n other); stamp = stamp }

pads-own : (payload : List ℕ) (n stamp : ℕ) → PadsWrite padding (λ m. Some payload) (BlockWrite (Tree n) (hidden payload n stamp stamp))
pads-own payload n stamp = record {
  padded = λ m block same private.
      let e : n ≡ m = number-written n m (hidden payload n stamp stamp) block same in
      let f : hidden payload n stamp stamp ≡ block = block-written n m (hidden payload n stamp stamp) block same in (
        payload,
        refl,
        ap (λ (b : Block). b.payload) (sym f) ∙ ap (λ (k : ℕ). xor_bytes payload (pad padding.key k stamp)) e
            ∙ ap (λ (b : Block). xor_bytes payload (pad padding.key m b.stamp)) f,
      );
}

-- blocks that are not private are written as they are, and so are the log's, and words
pads-public : (block : Block) → PadsWrite padding all_zeros (BlockWrite (Tree 13) block)
unfolding height_of
pads-public block = record {
  padded = λ m other same private.
      let e : 13 ≡ m = number-written 13 m block other same in
      let f : false ≡ true = ap (λ (k : ℕ). is_private_block padding.layout k) e ∙ private in cc;
}

pads-constant : (block : Block) → PadsWrite padding all_zeros (BlockWrite (Tree 16) block)
unfolding height_of
pads-constant block = record {
  padded = λ m other same private.
      let e : 16 ≡ m = number-written 16 m block other same in
      let f : false ≡ true = ap (λ (k : ℕ). is_private_block padding.layout k) e ∙ private in cc;
}

pads-log : (block : Block) → PadsWrite padding all_zeros (BlockWrite (Log 14) block)
pads-log block = other-pads padding all_zeros (BlockWrite (Log 14) block) (λ m other same. cc)

pads-word : PadsWrite padding all_zeros (WordWrite Secure 4 5)
pads-word = other-pads padding all_zeros (WordWrite Secure 4 5) (λ m other same. cc)

-- ---- a first byte

first_of : (n stamp : ℕ) (payload : List ℕ) → PadsWrite padding all_zeros (BlockWrite (Tree n) (record { payload = payload; stamp = stamp }))
    → is_private_block padding.layout n ≡ true → get_or payload 0 0 ≡ get_or (xor_bytes zeros (pad padding.key n stamp)) 0 0
first_of n stamp payload pads private =
    let back = pads.padded n (record { payload = payload; stamp = stamp }) refl private in
    let e : Some zeros ≡ Some back.0 = back.1 in
    let f : zeros ≡ back.0 = cc in
    ap (λ (xs : List ℕ). get_or xs 0 0) back.2 ∙ ap (λ (xs : List ℕ). get_or (xor_bytes xs (pad padding.key n stamp)) 0 0) (sym f)

first_pad : get_or (xor_bytes zeros (pad padding.key 15 7)) 0 0 ≡ 0x60
unfolding product_by_bits product inverse_below sub_byte next_key round_key next_state last_state state_after cipher pad_input pad_blocks
first_pad = refl

older_pad : get_or (xor_bytes zeros (pad padding.key 15 6)) 0 0 ≡ 0x81
unfolding product_by_bits product inverse_below sub_byte next_key round_key next_state last_state state_after cipher pad_input pad_blocks
older_pad = refl

other_pad : get_or (xor_bytes zeros (pad padding.key 14 7)) 0 0 ≡ 0xad
unfolding product_by_bits product inverse_below sub_byte next_key round_key next_state last_state state_after cipher pad_input pad_blocks
other_pad = refl

-- a private block goes out in clear
in-clear : PadsWrite padding all_zeros (BlockWrite (Tree 15) (record { payload = zeros; stamp = 7 })) → ⊥
unfolding height_of
in-clear pads =
    let e : ◌≡◌ {A = ℕ} 0 0x60 = first_of 15 7 zeros pads refl ∙ first_pad in
    omega (arith, e)

-- with the pad of an older stamp, and of another block
older-stamp : PadsWrite padding all_zeros (BlockWrite (Tree 15) (hidden zeros 15 6 7)) → ⊥
unfolding height_of
older-stamp pads =
    let e : ◌≡◌ {A = ℕ} 0x81 0x60 = sym older_pad ∙ first_of 15 7 (xor_bytes zeros (pad padding.key 15 6)) pads refl ∙ first_pad in
    omega (arith, e)

other-number : PadsWrite padding all_zeros (BlockWrite (Tree 15) (hidden zeros 14 7 7)) → ⊥
unfolding height_of
other-number pads =
    let e : ◌≡◌ {A = ℕ} 0xad 0x60 = sym other_pad ∙ first_of 15 7 (xor_bytes zeros (pad padding.key 14 7)) pads refl ∙ first_pad in
    omega (arith, e)

-- a block that has no line
no-line : (block : Block) → PadsWrite padding (λ n. None) (BlockWrite (Tree 14) block) → ⊥
unfolding height_of
no-line block pads =
    let back = pads.padded 14 block refl refl in
    let e : None ≡ Some back.0 = back.1 in cc

-- ---- several events

pads-two : (payload : List ℕ) (block : Block) → PadsWrites padding (λ n. Some payload) [] (BlockRead (Tree 15) block ∷ BlockWrite (Tree 15) (hidden payload 15 7 7) ∷ [])
pads-two payload block = record {
  events = BlockRead (Tree 15) block ∷ BlockWrite (Tree 15) (hidden payload 15 7 7) ∷ [];
  appended = refl;
  each = All-cons (PadsWrite padding (λ n. Some payload)) (BlockRead (Tree 15) block) (BlockWrite (Tree 15) (hidden payload 15 7 7) ∷ [])
      (other-pads padding (λ n. Some payload) (BlockRead (Tree 15) block) (λ m other same. cc))
      (All-cons (PadsWrite padding (λ n. Some payload)) (BlockWrite (Tree 15) (hidden payload 15 7 7)) [] (pads-own payload 15 7)
      (All-nil (PadsWrite padding (λ n. Some payload))));
}
