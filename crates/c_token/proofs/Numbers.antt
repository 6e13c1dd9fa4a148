-- The longest token of a text that begins with a digit.
use Rattle.std.proofs.Common.{◌≡◌, ℕ, zero, suc, ◌+◌, ◌-◌, ◌<◌, ◌≤◌, Bool, true, false, cond, ◌||◌, ◌&&◌, List, [], ◌∷◌, ◌++◌, length, take, drop, ltb, Some, is_some, refl, sym, ap, subst, ◌∙◌, ⊎_elim, arith, append_assoc}
use Rattle.std.specs.Prelude.{codes, nat_eq}
use Rattle.std.specs.List.{prefix_len, starts_with}
use Rattle.std.specs.Char.{is_ascii_digit, is_ascii_hexdigit}
use Rattle.std.specs.Str.Parse.{digits_value}
use Rattle.std.proofs.lemmas.Bool.{cases_Bool, cond-true, and_parts, and_from, and_right, or_cases, or_left, or_right, cases_lt, false_from_ne_true, false≢true, lt-ltb}
use Rattle.std.proofs.lemmas.Bool.Decides.{nat_tests, Decides-eqb}
use Rattle.std.proofs.lemmas.List.{drop-take, take-take, length-take-le, length-drop, take-append-drop, drop_all, length-take}
use Rattle.std.proofs.lemmas.List.Sums.{prefix_len-le-length}
use Rattle.std.proofs.lemmas.Slice.Eq.{starts_is}
use Rattle.c_token.specs.declared.kinds.Kind.{Kind}
use Rattle.c_token.specs.declared.kinds.Kind.TheVariants as kinds
use Rattle.c_token.specs.TokenSpelling.{is_suffix_byte, is_suffix, has_digits, is_decimal, has_hexadecimal_prefix, is_hexadecimal, number_spelled, spelled, is_token}
use Rattle.c_token.specs.TextTokens.{begins_with, longest, judged, token_of_len}
use Rattle.c_token.specs.Fronts.{begins_hexadecimal, suffix_len, number_end, number_at}
use Rattle.c_token.proofs.Longest.{longest_is, prefix_len-take_beyond}
use Rattle.c_token.proofs.Classes.{has_digits-none, spelled-decimal, spelled-hexadecimal, spelled-digit_none}

-- a suffix and no byte more
is_suffix-at : (rest : List ℕ) → is_suffix (take (suffix_len rest) rest) ≡ true
is_suffix-at [] = refl
is_suffix-at (b ∷ bs) =
    ⊎_elim (λ (yes : is_suffix_byte b ≡ true). rw yes yes) (λ (no : is_suffix_byte b ≡ false). rw no refl) (cases_Bool (is_suffix_byte b))

is_suffix-beyond : (rest : List ℕ) (k : ℕ) → suffix_len rest < k → k ≤ length rest → is_suffix (take k rest) ≡ false
is_suffix-beyond [] k lt le = absurd (omega arith)
is_suffix-beyond (b ∷ bs) zero lt le = absurd (omega arith)
is_suffix-beyond (b ∷ bs) (suc zero) lt le =
    ⊎_elim (λ (yes : is_suffix_byte b ≡ true). absurd (let one : cond true 1 0 < 1 = rw yes at lt in omega arith)) (λ (no : is_suffix_byte b ≡ false). no) (cases_Bool (is_suffix_byte b))
is_suffix-beyond (b ∷ []) (suc (suc k)) lt le = absurd (omega arith)
is_suffix-beyond (b ∷ c ∷ bs) (suc (suc k)) lt le = refl

module _ (p : ℕ → Bool) where
  has_digits-count : (bytes : List ℕ) (count : ℕ) → prefix_len p bytes ≡ count → has_digits p bytes ≡ (ltb 0 count && is_suffix (drop count bytes))
  has_digits-count bytes count e = ap (λ n. ltb 0 n && is_suffix (drop n bytes)) e

  -- the bytes of a front after its digits
  behind_digits : (xs : List ℕ) (m : ℕ) → prefix_len p xs ≤ m → has_digits p (take m xs) ≡ (ltb 0 (prefix_len p xs) && is_suffix (take (m - prefix_len p xs) (drop (prefix_len p xs) xs)))
  behind_digits xs m le =
      let d = prefix_len p xs in
      let whole : d + (m - d) ≡ m = omega arith in
      has_digits-count (take m xs) d (prefix_len-take_beyond p xs m le)
      ∙ ap (λ n. ltb 0 d && is_suffix (drop d (take n xs))) (sym whole)
      ∙ ap (λ bytes. ltb 0 d && is_suffix bytes) (drop-take d (m - d) xs)

  pub has_digits-at : (xs : List ℕ) → 0 < prefix_len p xs → has_digits p (take (number_end xs (prefix_len p xs)) xs) ≡ true
  has_digits-at xs pos =
      let d = prefix_len p xs in
      let left : number_end xs d - d ≡ suffix_len (drop d xs) = omega arith in
      behind_digits xs (number_end xs d) (omega arith)
      ∙ and_from _ _ (lt-ltb 0 d pos) (ap (λ n. is_suffix (take n (drop d xs))) left ∙ is_suffix-at (drop d xs))

  pub has_digits-beyond : (xs : List ℕ) (m : ℕ) → number_end xs (prefix_len p xs) < m → m ≤ length xs → has_digits p (take m xs) ≡ false
  has_digits-beyond xs m lt le =
      let d = prefix_len p xs in
      behind_digits xs m (omega arith)
      ∙ and_right _ _ (is_suffix-beyond (drop d xs) (m - d) (omega arith) (omega (arith, length-drop d xs)))

  -- the number that a front spells
  number_spelled-take : (base : ℕ) (xs : List ℕ) (m : ℕ) → prefix_len p xs ≤ m → m ≤ length xs → number_spelled base p (take m xs)
      ≡ kinds.Number (digits_value base (take (prefix_len p xs) xs)) (ltb (prefix_len p xs) m || ltb 2147483647 (digits_value base (take (prefix_len p xs) xs)))
  number_spelled-take base xs m above within =
      let d = prefix_len p xs in
      let f : ℕ → List ℕ → ℕ → Kind = λ d digits n. kinds.Number (digits_value base digits) (ltb d n || ltb 2147483647 (digits_value base digits)) in
      ap (λ d. f d (take d (take m xs)) (length (take m xs))) (prefix_len-take_beyond p xs m above)
      ∙ ap (λ digits. f d digits (length (take m xs))) (take-take d m xs above)
      ∙ ap (λ n. f d (take d xs) n) (length-take-le m xs within)

-- the end of a number lies in the text
pub number_end-le : (xs : List ℕ) (end : ℕ) → end ≤ length xs → number_end xs end ≤ length xs
number_end-le xs end le = inside (drop end xs) (length-drop end xs)
  where
    inside : (rest : List ℕ) → length rest ≡ length xs - end → end + suffix_len rest ≤ length xs
    inside [] e = omega arith
    inside (b ∷ bs) e =
        ⊎_elim (λ (yes : is_suffix_byte b ≡ true). rw yes (omega arith)) (λ (no : is_suffix_byte b ≡ false). rw no (omega arith)) (cases_Bool (is_suffix_byte b))

-- a prefix of a front is one of the text
starts_with-take : (p xs : List ℕ) (m : ℕ) → starts_with nat_eq (take m xs) p ≡ true → starts_with nat_eq xs p ≡ true
starts_with-take p xs m h =
    let front = (starts_is Decides-eqb (take m xs) p _ refl).0 h in
    let rest = drop (length p) (take m xs) ++ drop m xs in
    (starts_is Decides-eqb xs p _ refl).1 rest
    (sym (take-append-drop m xs) ∙ ap (λ front. front ++ drop m xs) front ∙ append_assoc p (drop (length p) (take m xs)) (drop m xs))

has_hexadecimal_prefix-take : (xs : List ℕ) (m : ℕ) → has_hexadecimal_prefix (take m xs) ≡ true → has_hexadecimal_prefix xs ≡ true
has_hexadecimal_prefix-take xs m h =
    ⊎_elim
    (λ (small : starts_with nat_eq (take m xs) (codes "0x") ≡ true). or_left _ _ (starts_with-take (codes "0x") xs m small))
    (λ (large : starts_with nat_eq (take m xs) (codes "0X") ≡ true). or_right _ _ (starts_with-take (codes "0X") xs m large))
    (or_cases _ _ h)

has_digits-begins : (p : ℕ → Bool) (xs : List ℕ) (m : ℕ) → has_digits p (take m xs) ≡ true → begins_with p xs ≡ true
has_digits-begins p xs zero h = absurd (false≢true h)
has_digits-begins p [] (suc m) h = absurd (false≢true h)
has_digits-begins p (x ∷ xs) (suc m) h =
    ⊎_elim
    (λ (yes : p x ≡ true). yes)
    (λ (no : p x ≡ false). absurd (false≢true (sym (has_digits-none p x (take m xs) no) ∙ h)))
    (cases_Bool (p x))

drop_two-take : (xs : List ℕ) (m : ℕ) → drop 2 (take m xs) ≡ take (m - 2) (drop 2 xs)
drop_two-take xs m =
    ⊎_elim
    (λ (short : m < 2). drop_all 2 (take m xs) (omega (arith, length-take-at_most m xs)) ∙ ap (λ n. take n (drop 2 xs)) (let none : 0 ≡ m - 2 = omega arith in none))
    (λ (long : 2 ≤ m). ap (λ n. drop 2 (take n xs)) (let whole : m ≡ 2 + (m - 2) = omega arith in whole) ∙ drop-take 2 (m - 2) xs)
    (cases_lt m 2)
  where
    length-take-at_most : (m : ℕ) (xs : List ℕ) → length (take m xs) ≤ m
    length-take-at_most m xs = omega (arith, length-take m xs)

-- where no hexadecimal number begins, no front is one
is_hexadecimal-take : (text : List ℕ) (m : ℕ) → begins_hexadecimal text ≡ false → is_hexadecimal (take m text) ≡ false
is_hexadecimal-take text m none =
    false_from_ne_true _ (λ (h : is_hexadecimal (take m text) ≡ true).
    let parts = and_parts _ _ h in
    let digits : has_digits is_ascii_hexdigit (take (m - 2) (drop 2 text)) ≡ true = sym (ap (has_digits is_ascii_hexdigit) (drop_two-take text m)) ∙ parts.1 in
    false≢true (sym none ∙ and_from _ _ (has_hexadecimal_prefix-take text m parts.0) (has_digits-begins is_ascii_hexdigit (drop 2 text) (m - 2) digits)))

positive : (b : ℕ) (bs : List ℕ) → is_ascii_digit b ≡ true → 0 < prefix_len is_ascii_digit (b ∷ bs)
positive b bs digit = rw (cond-true (is_ascii_digit b) (1 + prefix_len is_ascii_digit bs) 0 digit) (omega arith)

-- the front that ends after the digits and their suffix
pub spelled-decimal_front : (text : List ℕ) → begins_with is_ascii_digit text ≡ true
    → spelled (take (number_end text (prefix_len is_ascii_digit text)) text) ≡ Some (number_spelled 10 is_ascii_digit (take (number_end text (prefix_len is_ascii_digit text)) text))
spelled-decimal_front [] digit = absurd (false≢true digit)
spelled-decimal_front (b ∷ bs) digit = front b bs _ digit (positive_end b bs digit) (has_digits-at is_ascii_digit (b ∷ bs) (positive b bs digit))
  where
    positive_end : (b : ℕ) (bs : List ℕ) → is_ascii_digit b ≡ true → 0 < number_end (b ∷ bs) (prefix_len is_ascii_digit (b ∷ bs))
    positive_end b bs digit = omega (arith, positive b bs digit)

    front : (b : ℕ) (bs : List ℕ) (m : ℕ) → is_ascii_digit b ≡ true → 0 < m → has_digits is_ascii_digit (take m (b ∷ bs)) ≡ true
        → spelled (take m (b ∷ bs)) ≡ Some (number_spelled 10 is_ascii_digit (take m (b ∷ bs)))
    front b bs zero digit pos decimal = absurd (omega arith)
    front b bs (suc m) digit pos decimal = spelled-decimal b (take m bs) digit decimal

-- the longest token is the longest decimal number
pub longest-decimal : (text : List ℕ) → begins_with is_ascii_digit text ≡ true → begins_hexadecimal text ≡ false
    → longest is_token text ≡ number_end text (prefix_len is_ascii_digit text)
longest-decimal [] digit none = absurd (false≢true digit)
longest-decimal (b ∷ bs) digit none =
    longest_is is_token (b ∷ bs) (number_end (b ∷ bs) (prefix_len is_ascii_digit (b ∷ bs)))
    (number_end-le (b ∷ bs) _ (prefix_len-le-length is_ascii_digit (b ∷ bs)))
    (λ pos. ap is_some (spelled-decimal_front (b ∷ bs) digit))
    (λ m above below. longer b bs m digit none above below)
  where
    longer : (b : ℕ) (bs : List ℕ) (m : ℕ) → is_ascii_digit b ≡ true → begins_hexadecimal (b ∷ bs) ≡ false
        → number_end (b ∷ bs) (prefix_len is_ascii_digit (b ∷ bs)) < m → m ≤ suc (length bs) → is_token (take m (b ∷ bs)) ≡ false
    longer b bs zero digit none above below = absurd (omega arith)
    longer b bs (suc m) digit none above below =
        ap is_some (spelled-digit_none b (take m bs) digit (has_digits-beyond is_ascii_digit (b ∷ bs) (suc m) above below) (is_hexadecimal-take (b ∷ bs) (suc m) none))

-- where the hexadecimal digits end
abbrev pub hexadecimal_end : List ℕ → ℕ
hexadecimal_end text = 2 + prefix_len is_ascii_hexdigit (drop 2 text)

-- after `0x` or `0X`
module _ (c : ℕ) (no_digit : is_ascii_digit c ≡ false) (prefix : (ys : List ℕ) → has_hexadecimal_prefix (48 ∷ c ∷ ys) ≡ true) where
  number_end-prefixed : (ys : List ℕ) (d : ℕ) → number_end (48 ∷ c ∷ ys) (2 + d) ≡ suc (suc (number_end ys d))
  number_end-prefixed ys d =
      let two : 2 + d ≡ suc (suc d) = omega arith in
      ap (λ n. n + suffix_len (drop n (48 ∷ c ∷ ys))) two ∙ (let sum : suc (suc d) + suffix_len (drop d ys) ≡ suc (suc (d + suffix_len (drop d ys))) = omega arith in sum)

  no_decimal : (y : ℕ) (ys : List ℕ) → is_decimal (48 ∷ c ∷ y ∷ ys) ≡ false
  no_decimal y ys = has_digits-count is_ascii_digit (48 ∷ c ∷ y ∷ ys) 1 (rw no_digit refl)

  spelled-prefixed : (ys : List ℕ) (m : ℕ) → 0 < m → m ≤ length ys → has_digits is_ascii_hexdigit (take m ys) ≡ true
      → spelled (take (suc (suc m)) (48 ∷ c ∷ ys)) ≡ Some (number_spelled 16 is_ascii_hexdigit (take m ys))
  spelled-prefixed ys zero pos le digits = absurd (omega arith)
  spelled-prefixed [] (suc m) pos le digits = absurd (omega arith)
  spelled-prefixed (y ∷ ys) (suc m) pos le digits =
      spelled-hexadecimal 48 (c ∷ y ∷ take m ys) refl (no_decimal y (take m ys)) (and_from _ _ (prefix (y ∷ take m ys)) digits)

  no_token-prefixed : (ys : List ℕ) (m : ℕ) → 0 < m → m ≤ length ys → has_digits is_ascii_hexdigit (take m ys) ≡ false
      → is_token (take (suc (suc m)) (48 ∷ c ∷ ys)) ≡ false
  no_token-prefixed ys zero pos le none = absurd (omega arith)
  no_token-prefixed [] (suc m) pos le none = absurd (omega arith)
  no_token-prefixed (y ∷ ys) (suc m) pos le none =
      ap is_some (spelled-digit_none 48 (c ∷ y ∷ take m ys) refl (no_decimal y (take m ys)) (and_right _ _ none))

  longer-prefixed : (ys : List ℕ) (n m : ℕ) → 0 < n → ((k : ℕ) → n < k → k ≤ length ys → has_digits is_ascii_hexdigit (take k ys) ≡ false)
      → suc (suc n) < m → m ≤ suc (suc (length ys)) → is_token (take m (48 ∷ c ∷ ys)) ≡ false
  longer-prefixed ys n zero pos beyond above below = absurd (omega arith)
  longer-prefixed ys n (suc zero) pos beyond above below = absurd (omega arith)
  longer-prefixed ys n (suc (suc m)) pos beyond above below = no_token-prefixed ys m (omega arith) (omega arith) (beyond m (omega arith) (omega arith))

  digits-positive : (ys : List ℕ) → begins_with is_ascii_hexdigit ys ≡ true → 0 < prefix_len is_ascii_hexdigit ys
  digits-positive [] begins = absurd (false≢true begins)
  digits-positive (y ∷ ys) begins = rw (cond-true (is_ascii_hexdigit y) (1 + prefix_len is_ascii_hexdigit ys) 0 begins) (omega arith)

  pub spelled-prefixed_front : (ys : List ℕ) → begins_with is_ascii_hexdigit ys ≡ true
      → spelled (take (number_end (48 ∷ c ∷ ys) (hexadecimal_end (48 ∷ c ∷ ys))) (48 ∷ c ∷ ys))
      ≡ Some (number_spelled 16 is_ascii_hexdigit (take (number_end ys (prefix_len is_ascii_hexdigit ys)) ys))
  spelled-prefixed_front ys begins =
      let d = prefix_len is_ascii_hexdigit ys in
      let pos = digits-positive ys begins in
      ap (λ n. spelled (take n (48 ∷ c ∷ ys))) (number_end-prefixed ys d)
      ∙ spelled-prefixed ys (number_end ys d) (omega arith) (number_end-le ys d (prefix_len-le-length is_ascii_hexdigit ys)) (has_digits-at is_ascii_hexdigit ys pos)

  pub longest-prefixed : (ys : List ℕ) → begins_with is_ascii_hexdigit ys ≡ true
      → longest is_token (48 ∷ c ∷ ys) ≡ number_end (48 ∷ c ∷ ys) (hexadecimal_end (48 ∷ c ∷ ys))
  longest-prefixed ys begins =
      let d = prefix_len is_ascii_hexdigit ys in
      let pos = digits-positive ys begins in
      let within = number_end-le ys d (prefix_len-le-length is_ascii_hexdigit ys) in
      longest_is is_token (48 ∷ c ∷ ys) (suc (suc (number_end ys d))) (omega arith)
      (λ _. ap is_some (spelled-prefixed ys (number_end ys d) (omega arith) within (has_digits-at is_ascii_hexdigit ys pos)))
      (λ m above below. longer-prefixed ys (number_end ys d) m (omega arith) (has_digits-beyond is_ascii_hexdigit ys) above below)
      ∙ sym (number_end-prefixed ys d)

  pub number-prefixed : (at : ℕ) (ys : List ℕ) → begins_with is_ascii_hexdigit ys ≡ true
      → token_of_len at (48 ∷ c ∷ ys) (longest is_token (48 ∷ c ∷ ys)) ≡ number_at at (48 ∷ c ∷ ys) 16 2 (hexadecimal_end (48 ∷ c ∷ ys))
  unfolding token_of_len number_at
  number-prefixed at ys begins =
      let text = 48 ∷ c ∷ ys in
      let d = prefix_len is_ascii_hexdigit ys in
      let end = hexadecimal_end text in
      let len = number_end text end in
      let two : number_end text (2 + d) ≡ suc (suc (number_end ys d)) = number_end-prefixed ys d in
      let f : Bool → List ℕ → Kind = λ suffixed digits. kinds.Number (digits_value 16 digits) (suffixed || ltb 2147483647 (digits_value 16 digits)) in
      let counted : d ≡ 2 + d - 2 = omega arith in
      let flag : ltb d (number_end ys d) ≡ ltb end len = same_flag d (number_end ys d) len two in
      let value = number_spelled-take is_ascii_hexdigit 16 ys (number_end ys d) (omega arith) (number_end-le ys d (prefix_len-le-length is_ascii_hexdigit ys)) in
      ap (λ n. judged at (take n text) (drop n text) (spelled (take n text))) (longest-prefixed ys begins)
      ∙ ap (judged at (take len text) (drop len text))
      (spelled-prefixed_front ys begins ∙ ap (λ (kind : Kind). Some kind) (value ∙ ap (λ suffixed. f suffixed (take d ys)) flag ∙ ap (λ n. f (ltb end len) (take n ys)) counted))
    where
      same_flag : (d n len : ℕ) → len ≡ suc (suc n) → ltb d n ≡ ltb (2 + d) len
      same_flag d n len e = grind (arith, nat_tests)

-- the number that a text begins with is decimal
pub number-decimal : (at : ℕ) (text : List ℕ) → begins_with is_ascii_digit text ≡ true → begins_hexadecimal text ≡ false
    → token_of_len at text (longest is_token text) ≡ number_at at text 10 0 (prefix_len is_ascii_digit text)
unfolding token_of_len number_at
number-decimal at text digit none =
    let d = prefix_len is_ascii_digit text in
    let len = number_end text d in
    let f : List ℕ → Kind = λ digits. kinds.Number (digits_value 10 digits) (ltb d len || ltb 2147483647 (digits_value 10 digits)) in
    let counted : d ≡ d - 0 = omega arith in
    let value = number_spelled-take is_ascii_digit 10 text len (omega arith) (number_end-le text d (prefix_len-le-length is_ascii_digit text)) in
    ap (λ n. judged at (take n text) (drop n text) (spelled (take n text))) (longest-decimal text digit none)
    ∙ ap (judged at (take len text) (drop len text))
    (spelled-decimal_front text digit ∙ ap (λ (kind : Kind). Some kind) (value ∙ ap (λ n. f (take n text)) counted))

-- or hexadecimal
pub number-hexadecimal : (at : ℕ) (text : List ℕ) → begins_hexadecimal text ≡ true
    → token_of_len at text (longest is_token text) ≡ number_at at text 16 2 (hexadecimal_end text)
number-hexadecimal at text begins =
    let parts = and_parts _ _ begins in
    let P : List ℕ → Type 0 = λ text. token_of_len at text (longest is_token text) ≡ number_at at text 16 2 (hexadecimal_end text) in
    ⊎_elim
    (λ (small : starts_with nat_eq text (codes "0x") ≡ true). subst P (sym ((starts_is Decides-eqb text (codes "0x") _ refl).0 small)) (number-prefixed 120 refl (λ _. refl) at (drop 2 text) parts.1))
    (λ (large : starts_with nat_eq text (codes "0X") ≡ true). subst P (sym ((starts_is Decides-eqb text (codes "0X") _ refl).0 large)) (number-prefixed 88 refl (λ _. refl) at (drop 2 text) parts.1))
    (or_cases _ _ parts.0)
