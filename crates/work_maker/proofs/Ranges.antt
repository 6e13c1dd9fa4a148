-- Texts made of one piece for each number.
use Rattle.std.proofs.Common.{◌≡◌, ℕ, zero, suc, ◌+◌, List, [], ◌∷◌, ◌++◌, refl, sym, ap, ◌∙◌, append_assoc, arith}
use Rattle.std.specs.List.{flat_map, range_with_len}
use Rattle.std.proofs.lemmas.List.{append-nil}

flat_map-suc : (f : ℕ → List ℕ) (a k : ℕ) → flat_map f (range_with_len a (suc k)) ≡ flat_map f (range_with_len a k) ++ f (a + k)
flat_map-suc f a zero = append-nil (f a) ∙ ap f (omega arith)
flat_map-suc f a (suc k) =
    let here : a + 1 + k ≡ a + suc k = omega arith in
    ap (λ (rest : List ℕ). f a ++ rest) (flat_map-suc f (a + 1) k ∙ ap (λ (n : ℕ). flat_map f (range_with_len (a + 1) k) ++ f n) here)
    ∙ sym (append_assoc (f a) (flat_map f (range_with_len (a + 1) k)) (f (a + suc k)))

-- one piece more
pub one_more : (f : ℕ → List ℕ) (k : ℕ) → flat_map f (range_with_len 0 (k + 1)) ≡ flat_map f (range_with_len 0 k) ++ f k
one_more f k =
    let next : k + 1 ≡ suc k = omega arith in
    let here : 0 + k ≡ k = omega arith in
    ap (λ (n : ℕ). flat_map f (range_with_len 0 n)) next ∙ flat_map-suc f 0 k ∙ ap (λ (n : ℕ). flat_map f (range_with_len 0 k) ++ f n) here

-- the text after one piece more
pub after_piece : (f : ℕ → List ℕ) (start text new piece : List ℕ) (k : ℕ) → text ≡ start ++ flat_map f (range_with_len 0 k) → piece ≡ f k → new ≡ text ++ piece → new ≡ start ++ flat_map f (range_with_len 0 (k + 1))
after_piece f start text new piece k text-is piece-is new-is =
    new-is ∙ ap (λ (l : List ℕ). l ++ piece) text-is ∙ append_assoc start (flat_map f (range_with_len 0 k)) piece
    ∙ ap (λ (l : List ℕ). start ++ (flat_map f (range_with_len 0 k) ++ l)) piece-is ∙ ap (λ (l : List ℕ). start ++ l) (sym (one_more f k))
