-- The cases of what a text begins with, and of a comment's end.
use Rattle.std.proofs.Common.{◌≡◌, ℕ, ◌+◌, ◌<◌, Bool, true, false, List, [], ◌∷◌, length, get_or, drop, Option, None, Some, Ok, Err, refl, sym, ap, subst, ◌∙◌, arith}
use Rattle.std.specs.Prelude.{codes, nat_eq, option_map, ◌==◌}
use Rattle.std.specs.List.{starts_with, position_or_len}
use Rattle.std.proofs.lemmas.Bool.{cond-true, cond-false}
use Rattle.std.proofs.lemmas.List.{drop_more}
use Rattle.c_token.specs.declared.kinds.TokenError.TheVariants.{OpenComment}
use Rattle.c_token.specs.TokenSpelling.{is_token}
use Rattle.c_token.specs.TextTokens.{is_blank, begins_with, longest, close_of, gap, block_comment, token_of_len, front_at}

pub begins_with-first : (passes : ℕ → Bool) (text : List ℕ) (b : ℕ) → 0 < length text → b ≡ get_or text 0 0 → begins_with passes text ≡ passes b
begins_with-first passes [] b some first = absurd (omega arith)
begins_with-first passes (x ∷ xs) b some first = ap passes (sym first)

module _ (at : ℕ) (text : List ℕ) where
  pub front_is_blank : begins_with is_blank text ≡ true → front_at at text ≡ Ok (gap 1)
  unfolding front_at
  front_is_blank blank = cond-true (begins_with is_blank text) _ _ blank

  pub front_is_block : begins_with is_blank text ≡ false → starts_with nat_eq text (codes "/*") ≡ true → front_at at text ≡ block_comment at (close_of (drop 2 text))
  unfolding front_at
  front_is_block blank block = cond-false (begins_with is_blank text) _ _ blank ∙ cond-true (starts_with nat_eq text (codes "/*")) _ _ block

  pub front_is_line : begins_with is_blank text ≡ false → starts_with nat_eq text (codes "/*") ≡ false → starts_with nat_eq text (codes "//") ≡ true
      → front_at at text ≡ Ok (gap (position_or_len (λ b. b == 10) text))
  unfolding front_at
  front_is_line blank block line =
      cond-false (begins_with is_blank text) _ _ blank
      ∙ cond-false (starts_with nat_eq text (codes "/*")) _ _ block
      ∙ cond-true (starts_with nat_eq text (codes "//")) _ _ line

  pub front_is_token : begins_with is_blank text ≡ false → starts_with nat_eq text (codes "/*") ≡ false → starts_with nat_eq text (codes "//") ≡ false
      → front_at at text ≡ token_of_len at text (longest is_token text)
  unfolding front_at
  front_is_token blank block line =
      cond-false (begins_with is_blank text) _ _ blank
      ∙ cond-false (starts_with nat_eq text (codes "/*")) _ _ block
      ∙ cond-false (starts_with nat_eq text (codes "//")) _ _ line

  pub block_is_closed : (n : ℕ) → close_of (drop 2 text) ≡ Some n → block_comment at (close_of (drop 2 text)) ≡ Ok (gap (2 + n))
  unfolding block_comment
  block_is_closed n closed = ap (block_comment at) closed

  pub block_is_open : close_of (drop 2 text) ≡ None → block_comment at (close_of (drop 2 text)) ≡ Err (OpenComment at)
  unfolding block_comment
  block_is_open none = ap (block_comment at) none

-- a byte more
option_map-more : (i : ℕ) (o : Option ℕ) → option_map (λ n. n + i) (option_map (λ n. n + 1) o) ≡ option_map (λ n. n + (i + 1)) o
option_map-more i None = refl
option_map-more i (Some n) = ap (λ (n : ℕ). Some n) (let sum : n + 1 + i ≡ n + (i + 1) = omega arith in sum)

pub close_of-more : (text : List ℕ) (i : ℕ) → i < length text → starts_with nat_eq (drop i text) (codes "*/") ≡ false
    → option_map (λ n. n + (i + 1)) (close_of (drop (i + 1) text)) ≡ option_map (λ n. n + i) (close_of (drop i text))
close_of-more text i lt open_still =
    let cell = drop_more text i 0 lt in
    let here : starts_with nat_eq (get_or text i 0 ∷ drop (i + 1) text) (codes "*/") ≡ false = subst (λ rest. starts_with nat_eq rest (codes "*/") ≡ false) cell open_still in
    sym (ap (λ rest. option_map (λ n. n + i) (close_of rest)) cell
    ∙ ap (option_map (λ n. n + i)) (cond-false (starts_with nat_eq (get_or text i 0 ∷ drop (i + 1) text) (codes "*/")) _ _ here)
    ∙ option_map-more i (close_of (drop (i + 1) text)))
