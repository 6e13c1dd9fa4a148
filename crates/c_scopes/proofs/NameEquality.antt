-- Two names are one for the map just where their bytes are equal.
use Rattle.std.proofs.Common.{◌≡◌, ◌∙◌, sym, ℕ, ◌-◌, ◌==◌, ◌&&◌, Bool, true, false, List, [], ◌∷◌, ◌++◌, length, replicate, refl, subst, arith}
use Rattle.std.specs.Str.{bytes_eq}
use Rattle.std.proofs.lemmas.Slice.Eq.{bytes_eq-Decides}
use Rattle.std.proofs.lemmas.Bool.Decides.{nat_tests}
use Rattle.aegis_num.specs.declared.limits.TheConstants.{MAX_NAME_BYTES}
use Rattle.c_scopes.specs.KeptNames.{name_eq}

-- two tests that hold together are one
both_or_none : (a b : Bool) → (a ≡ true → b ≡ true) → (b ≡ true → a ≡ true) → a ≡ b
both_or_none true b f g = sym (f refl)
both_or_none false true f g = g refl
both_or_none false false f g = refl

both : (a b : Bool) → (a && b) ≡ true → (a ≡ true) × (b ≡ true)
both true b e = (refl, e)
both false b e = absurd (cc)

same-front : (a b c d : List ℕ) → length a ≡ length b → a ++ c ≡ b ++ d → a ≡ b
same-front [] [] c d long e = refl
same-front [] (y ∷ b) c d long e = absurd (cc)
same-front (x ∷ a) [] c d long e = absurd (cc)
same-front (x ∷ a) (y ∷ b) c d long e =
    let head : x ≡ y = cc in
    let rest : a ++ c ≡ b ++ d = cc in
    let lengths : length a ≡ length b = cc in
    let tail : a ≡ b = same-front a b c d lengths rest in
    cc

abbrev room : List ℕ → List ℕ
room a = a ++ replicate (MAX_NAME_BYTES - length a) 0

by_rooms : (a b : List ℕ) → name_eq a b ≡ (bytes_eq (room a) (room b) && (length a == length b))
by_rooms a b = refl

same_length : (m n : ℕ) → (m == n) ≡ true → m ≡ n
same_length m n e = grind (arith, nat_tests)

length_itself : (n : ℕ) → (n == n) ≡ true
length_itself n = grind (arith, nat_tests)

bytes_itself : (a : List ℕ) → bytes_eq a a ≡ true
bytes_itself a = (bytes_eq-Decides a a).1 refl

name_itself : (a : List ℕ) → name_eq a a ≡ true
name_itself a = by_rooms a a ∙ rw (bytes_itself (room a), length_itself (length a)) refl

pub names_compare : (a b : List ℕ) → name_eq a b ≡ bytes_eq a b
names_compare a b = both_or_none (name_eq a b) (bytes_eq a b)
    (λ same.
    let parts = both (bytes_eq (room a) (room b)) (length a == length b) (sym (by_rooms a b) ∙ same) in
    (bytes_eq-Decides a b).1 (same-front a b (replicate (MAX_NAME_BYTES - length a) 0) (replicate (MAX_NAME_BYTES - length b) 0)
    (same_length (length a) (length b) parts.1) ((bytes_eq-Decides (room a) (room b)).0 parts.0)))
    (λ same. subst (λ c. name_eq a c ≡ true) ((bytes_eq-Decides a b).0 same) (name_itself a))
