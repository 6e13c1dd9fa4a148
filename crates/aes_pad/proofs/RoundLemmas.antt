-- The steps on words are the steps on bytes.
use Rattle.std.proofs.Common.{◌≡◌, ℕ, ◌+◌, ◌<◌, ◌≤◌, List, [], ◌∷◌, ◌++◌, length, slice_index, slice_set, refl, sym, ap, ap₂, subst, ◌∙◌, inl, inr, add-one, arith}
use Rattle.std.specs.Int.{w32, to_be_bytes, rotate_right}
use Rattle.std.proofs.lemmas.Bool.{cases_lt}
use Rattle.std.proofs.lemmas.List.{get_or-set_same, get_or-set_other}
use Rattle.aes_pad.specs.declared.tables.TheConstants.{SUBSTITUTES, MIXED, ROUND_CONSTANTS}
use Rattle.aes_pad.specs.Field.{◌⊕◌, sub_byte}
use Rattle.aes_pad.specs.Cipher.{xor_bytes, mixed, power_of_x, next_key, round_key, next_state, last_state, state_after, cipher}
use Rattle.aes_pad.specs.KeptKeys.{bytes_of, kept_key}
use Rattle.aes_pad.proofs.TableLemmas.{substitute, mixed_row_0, mixed_row_1, mixed_row_2, mixed_row_3, round_constant}
use Rattle.aes_pad.proofs.WordLemmas.{four_bytes, four_parts, four_sums, word-xor}

abbrev word_bytes : ℕ → List ℕ
word_bytes w = to_be_bytes w32 w

-- ---- words of four bytes

pub substituted : (a b c d n : ℕ) → a < 256 → b < 256 → c < 256 → d < 256
    → to_be_bytes w32 n ≡ slice_index SUBSTITUTES a ∷ slice_index SUBSTITUTES b ∷ slice_index SUBSTITUTES c ∷ slice_index SUBSTITUTES d ∷ []
    → to_be_bytes w32 n ≡ sub_byte a ∷ sub_byte b ∷ sub_byte c ∷ sub_byte d ∷ []
substituted a b c d n ha hb hc hd is =
    is ∙ four_bytes (slice_index SUBSTITUTES a) (slice_index SUBSTITUTES b) (slice_index SUBSTITUTES c) (slice_index SUBSTITUTES d)
    (sub_byte a) (sub_byte b) (sub_byte c) (sub_byte d) (substitute a ha) (substitute b hb) (substitute c hc) (substitute d hd)

pub mixed_from : (a b c d x y z : ℕ) → a < 256 → b < 256 → c < 256 → d < 256
    → x ≡ rotate_right w32 (slice_index MIXED b) 8 → y ≡ rotate_right w32 (slice_index MIXED c) 16 → z ≡ rotate_right w32 (slice_index MIXED d) 24
    → to_be_bytes w32 (slice_index MIXED a ⊕ x ⊕ y ⊕ z) ≡ mixed (sub_byte a) (sub_byte b) (sub_byte c) (sub_byte d)
mixed_from a b c d x y z ha hb hc hd ex ey ez =
    let w : ℕ = slice_index MIXED a in
    let parts : word_bytes (w ⊕ x ⊕ y ⊕ z) ≡ xor_bytes (xor_bytes (xor_bytes (word_bytes w) (word_bytes x)) (word_bytes y)) (word_bytes z) =
    word-xor (w ⊕ x ⊕ y) z ∙ ap (λ (s : List ℕ). xor_bytes s (word_bytes z)) (word-xor (w ⊕ x) y ∙ ap (λ (s : List ℕ). xor_bytes s (word_bytes y)) (word-xor w x)) in
    parts ∙ four_sums (word_bytes w) (word_bytes x) (word_bytes y) (word_bytes z) _ _ _ _
    (mixed_row_0 a ha) (ap word_bytes ex ∙ mixed_row_1 b hb) (ap word_bytes ey ∙ mixed_row_2 c hc) (ap word_bytes ez ∙ mixed_row_3 d hd)

-- ---- rounds

joined : (m0 m1 m2 m3 : ℕ) (p q r s : List ℕ) → word_bytes m0 ≡ p → word_bytes m1 ≡ q → word_bytes m2 ≡ r → word_bytes m3 ≡ s
    → bytes_of (m0 ∷ m1 ∷ m2 ∷ m3 ∷ []) ≡ p ++ q ++ r ++ s
unfolding bytes_of
joined m0 m1 m2 m3 p q r s h0 h1 h2 h3 = four_parts (word_bytes m0) (word_bytes m1) (word_bytes m2) (word_bytes m3) p q r s h0 h1 h2 h3

round_stepped : (state key a b c d : List ℕ) → a ≡ word_bytes (slice_index state 0) → b ≡ word_bytes (slice_index state 1) → c ≡ word_bytes (slice_index state 2) → d ≡ word_bytes (slice_index state 3)
    → xor_bytes (mixed (sub_byte (slice_index a 0)) (sub_byte (slice_index b 1)) (sub_byte (slice_index c 2)) (sub_byte (slice_index d 3))
    ++ mixed (sub_byte (slice_index b 0)) (sub_byte (slice_index c 1)) (sub_byte (slice_index d 2)) (sub_byte (slice_index a 3))
    ++ mixed (sub_byte (slice_index c 0)) (sub_byte (slice_index d 1)) (sub_byte (slice_index a 2)) (sub_byte (slice_index b 3))
    ++ mixed (sub_byte (slice_index d 0)) (sub_byte (slice_index a 1)) (sub_byte (slice_index b 2)) (sub_byte (slice_index c 3))) (bytes_of key)
    ≡ next_state (bytes_of state) (bytes_of key)
unfolding bytes_of next_state
round_stepped state key a b c d ea eb ec ed = rw (ea, eb, ec, ed) refl

pub round_from : (state key a b c d result : List ℕ) (m0 m1 m2 m3 : ℕ)
    → a ≡ to_be_bytes w32 (slice_index state 0) → b ≡ to_be_bytes w32 (slice_index state 1) → c ≡ to_be_bytes w32 (slice_index state 2) → d ≡ to_be_bytes w32 (slice_index state 3)
    → to_be_bytes w32 m0 ≡ mixed (sub_byte (slice_index a 0)) (sub_byte (slice_index b 1)) (sub_byte (slice_index c 2)) (sub_byte (slice_index d 3))
    → to_be_bytes w32 m1 ≡ mixed (sub_byte (slice_index b 0)) (sub_byte (slice_index c 1)) (sub_byte (slice_index d 2)) (sub_byte (slice_index a 3))
    → to_be_bytes w32 m2 ≡ mixed (sub_byte (slice_index c 0)) (sub_byte (slice_index d 1)) (sub_byte (slice_index a 2)) (sub_byte (slice_index b 3))
    → to_be_bytes w32 m3 ≡ mixed (sub_byte (slice_index d 0)) (sub_byte (slice_index a 1)) (sub_byte (slice_index b 2)) (sub_byte (slice_index c 3))
    → bytes_of result ≡ xor_bytes (bytes_of (m0 ∷ m1 ∷ m2 ∷ m3 ∷ [])) (bytes_of key) → bytes_of result ≡ next_state (bytes_of state) (bytes_of key)
round_from state key a b c d result m0 m1 m2 m3 ea eb ec ed h0 h1 h2 h3 sum =
    sum ∙ ap (λ (s : List ℕ). xor_bytes s (bytes_of key)) (joined m0 m1 m2 m3 _ _ _ _ h0 h1 h2 h3) ∙ round_stepped state key a b c d ea eb ec ed

last_stepped : (state key a b c d : List ℕ) → a ≡ word_bytes (slice_index state 0) → b ≡ word_bytes (slice_index state 1) → c ≡ word_bytes (slice_index state 2) → d ≡ word_bytes (slice_index state 3)
    → xor_bytes ((sub_byte (slice_index a 0) ∷ sub_byte (slice_index b 1) ∷ sub_byte (slice_index c 2) ∷ sub_byte (slice_index d 3) ∷ [])
    ++ (sub_byte (slice_index b 0) ∷ sub_byte (slice_index c 1) ∷ sub_byte (slice_index d 2) ∷ sub_byte (slice_index a 3) ∷ [])
    ++ (sub_byte (slice_index c 0) ∷ sub_byte (slice_index d 1) ∷ sub_byte (slice_index a 2) ∷ sub_byte (slice_index b 3) ∷ [])
    ++ (sub_byte (slice_index d 0) ∷ sub_byte (slice_index a 1) ∷ sub_byte (slice_index b 2) ∷ sub_byte (slice_index c 3) ∷ [])) (bytes_of key)
    ≡ last_state (bytes_of state) (bytes_of key)
unfolding bytes_of last_state
last_stepped state key a b c d ea eb ec ed = rw (ea, eb, ec, ed) refl

pub last_round_from : (state key a b c d result : List ℕ) (m0 m1 m2 m3 : ℕ)
    → a ≡ to_be_bytes w32 (slice_index state 0) → b ≡ to_be_bytes w32 (slice_index state 1) → c ≡ to_be_bytes w32 (slice_index state 2) → d ≡ to_be_bytes w32 (slice_index state 3)
    → to_be_bytes w32 m0 ≡ sub_byte (slice_index a 0) ∷ sub_byte (slice_index b 1) ∷ sub_byte (slice_index c 2) ∷ sub_byte (slice_index d 3) ∷ []
    → to_be_bytes w32 m1 ≡ sub_byte (slice_index b 0) ∷ sub_byte (slice_index c 1) ∷ sub_byte (slice_index d 2) ∷ sub_byte (slice_index a 3) ∷ []
    → to_be_bytes w32 m2 ≡ sub_byte (slice_index c 0) ∷ sub_byte (slice_index d 1) ∷ sub_byte (slice_index a 2) ∷ sub_byte (slice_index b 3) ∷ []
    → to_be_bytes w32 m3 ≡ sub_byte (slice_index d 0) ∷ sub_byte (slice_index a 1) ∷ sub_byte (slice_index b 2) ∷ sub_byte (slice_index c 3) ∷ []
    → bytes_of result ≡ xor_bytes (bytes_of (m0 ∷ m1 ∷ m2 ∷ m3 ∷ [])) (bytes_of key) → bytes_of result ≡ last_state (bytes_of state) (bytes_of key)
last_round_from state key a b c d result m0 m1 m2 m3 ea eb ec ed h0 h1 h2 h3 sum =
    sum ∙ ap (λ (s : List ℕ). xor_bytes s (bytes_of key)) (joined m0 m1 m2 m3 _ _ _ _ h0 h1 h2 h3) ∙ last_stepped state key a b c d ea eb ec ed

-- ---- the expansion of a key

pub key_from : (key last : List ℕ) (constant turned constant_word first second third fourth : ℕ) → last ≡ to_be_bytes w32 (slice_index key 3)
    → to_be_bytes w32 turned ≡ sub_byte (slice_index last 1) ∷ sub_byte (slice_index last 2) ∷ sub_byte (slice_index last 3) ∷ sub_byte (slice_index last 0) ∷ []
    → to_be_bytes w32 constant_word ≡ constant ∷ 0 ∷ 0 ∷ 0 ∷ []
    → first ≡ slice_index key 0 ⊕ (turned ⊕ constant_word) → second ≡ slice_index key 1 ⊕ first → third ≡ slice_index key 2 ⊕ second → fourth ≡ slice_index key 3 ⊕ third
    → bytes_of (first ∷ second ∷ third ∷ fourth ∷ []) ≡ next_key (bytes_of key) constant
unfolding bytes_of next_key
key_from key last constant turned constant_word first second third fourth el et constants e0 e1 e2 e3 =
    let k0 : ℕ = slice_index key 0 in
    let k1 : ℕ = slice_index key 1 in
    let k2 : ℕ = slice_index key 2 in
    let k3 : ℕ = slice_index key 3 in
    let ready : List ℕ = sub_byte (slice_index (word_bytes k3) 1) ∷ sub_byte (slice_index (word_bytes k3) 2) ∷ sub_byte (slice_index (word_bytes k3) 3) ∷ sub_byte (slice_index (word_bytes k3) 0) ∷ [] in
    let turns : word_bytes turned ≡ ready =
    et ∙ ap (λ (l : List ℕ). sub_byte (slice_index l 1) ∷ sub_byte (slice_index l 2) ∷ sub_byte (slice_index l 3) ∷ sub_byte (slice_index l 0) ∷ []) el in
    let w0 : List ℕ = xor_bytes (word_bytes k0) (xor_bytes ready (constant ∷ 0 ∷ 0 ∷ 0 ∷ [])) in
    let w1 : List ℕ = xor_bytes (word_bytes k1) w0 in
    let w2 : List ℕ = xor_bytes (word_bytes k2) w1 in
    let f0 : word_bytes first ≡ w0 =
    ap word_bytes e0 ∙ word-xor k0 (turned ⊕ constant_word) ∙ ap (λ (s : List ℕ). xor_bytes (word_bytes k0) s) (word-xor turned constant_word ∙ ap₂ xor_bytes turns constants) in
    let f1 : word_bytes second ≡ w1 = ap word_bytes e1 ∙ word-xor k1 first ∙ ap (λ (s : List ℕ). xor_bytes (word_bytes k1) s) f0 in
    let f2 : word_bytes third ≡ w2 = ap word_bytes e2 ∙ word-xor k2 second ∙ ap (λ (s : List ℕ). xor_bytes (word_bytes k2) s) f1 in
    let f3 : word_bytes fourth ≡ xor_bytes (word_bytes k3) w2 = ap word_bytes e3 ∙ word-xor k3 third ∙ ap (λ (s : List ℕ). xor_bytes (word_bytes k3) s) f2 in
    four_parts (word_bytes first) (word_bytes second) (word_bytes third) (word_bytes fourth) w0 w1 w2 (xor_bytes (word_bytes k3) w2) f0 f1 f2 f3

round_key_next : (key : List ℕ) (n : ℕ) → round_key key (n + 1) ≡ next_key (round_key key n) (power_of_x n)
unfolding round_key
round_key_next key n = rw add-one refl

round_key_first : (key : List ℕ) → round_key key 0 ≡ key
unfolding round_key
round_key_first key = refl

-- the round keys up to round n are in their places
abbrev pub AreKept : List (List ℕ) → List ℕ → ℕ → Type 0
AreKept keys key n = (r : ℕ) → r ≤ n → kept_key keys r ≡ round_key key r

pub kept_at_first : (keys : List (List ℕ)) (key : List ℕ) → kept_key keys 0 ≡ key → AreKept keys key 0
kept_at_first keys key first r within =
    let e : 0 ≡ r = omega (arith, within) in
    subst (λ (k : ℕ). kept_key keys k ≡ round_key key k) e (first ∙ sym (round_key_first key))

pub kept_next : (keys : List (List ℕ)) (key next : List ℕ) (n : ℕ) → length keys ≡ 11 → n < 10 → AreKept keys key n
    → bytes_of next ≡ next_key (kept_key keys n) (slice_index ROUND_CONSTANTS n) → AreKept (slice_set keys (n + 1) next) key (n + 1)
kept_next keys key next n long below kept made r within =
    elim (cases_lt r (n + 1)) [
      | inl less ↦ ap bytes_of (get_or-set_other keys (n + 1) r next [] (omega (arith, less))) ∙ kept r (omega (arith, less))
      | inr more ↦
          let e : n + 1 ≡ r = omega (arith, more, within) in
          subst (λ (k : ℕ). kept_key (slice_set keys (n + 1) next) k ≡ round_key key k) e
          (ap bytes_of (get_or-set_same keys (n + 1) next [] (omega (arith, long, below))) ∙ made
          ∙ ap₂ next_key (kept n (omega arith)) (round_constant n below) ∙ sym (round_key_next key n))
    ]

pub kept_first : (keys : List (List ℕ)) (key : List ℕ) (n : ℕ) → AreKept keys key n → kept_key keys 0 ≡ key
kept_first keys key n kept = kept 0 (omega arith) ∙ round_key_first key

pub kept_whole : (keys : List (List ℕ)) (key : List ℕ) (n : ℕ) → n ≡ 10 → AreKept keys key n → (r : ℕ) → r < 11 → kept_key keys r ≡ round_key (kept_key keys 0) r
kept_whole keys key n all kept r below =
    kept r (omega (arith, all, below)) ∙ ap (λ (k : List ℕ). round_key k r) (sym (kept_first keys key n kept))

-- ---- the cipher

state_after_next : (key block : List ℕ) (n : ℕ) → state_after key block (n + 1) ≡ next_state (state_after key block n) (round_key key (n + 1))
unfolding state_after
state_after_next key block n = rw add-one refl

pub state_first : (key block words result : List ℕ) → bytes_of words ≡ block → bytes_of result ≡ xor_bytes (bytes_of words) key → bytes_of result ≡ state_after key block 0
unfolding state_after round_key
state_first key block words result loaded sum = sum ∙ ap (λ (s : List ℕ). xor_bytes s key) loaded

pub state_next : (keys : List (List ℕ)) (block state result : List ℕ) (n : ℕ) → ((r : ℕ) → r < 11 → kept_key keys r ≡ round_key (kept_key keys 0) r) → n < 9
    → bytes_of state ≡ state_after (kept_key keys 0) block n → bytes_of result ≡ next_state (bytes_of state) (kept_key keys (n + 1))
    → bytes_of result ≡ state_after (kept_key keys 0) block (n + 1)
state_next keys block state result n kept below reached made =
    made ∙ ap₂ next_state reached (kept (n + 1) (omega (arith, below))) ∙ sym (state_after_next (kept_key keys 0) block n)

pub cipher_from : (keys : List (List ℕ)) (key block state last result : List ℕ) (n : ℕ) → kept_key keys 0 ≡ key
    → ((r : ℕ) → r < 11 → kept_key keys r ≡ round_key (kept_key keys 0) r) → n ≡ 9
    → bytes_of state ≡ state_after (kept_key keys 0) block n → bytes_of last ≡ last_state (bytes_of state) (kept_key keys 10)
    → result ≡ bytes_of last → result ≡ cipher key block
unfolding cipher
cipher_from keys key block state last result n same kept all reached made stored =
    let nine : bytes_of state ≡ state_after (kept_key keys 0) block 9 = reached ∙ ap (λ (k : ℕ). state_after (kept_key keys 0) block k) all in
    stored ∙ made ∙ ap₂ last_state nine (kept 10 (omega arith))
    ∙ ap (λ (k : List ℕ). last_state (state_after k block 9) (round_key k 10)) same
