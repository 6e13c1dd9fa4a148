use Rattle.std.proofs.Common.{◌≡◌, ℕ, ◌+◌, ◌-◌, ◌||◌, Bool, false, drop, take, ltb, true, Result, Ok, sym, ap, ◌∙◌, subst}
use Rattle.std.proofs.lemmas.List.{take_rest}
use Rattle.std.proofs.lemmas.Bool.{or_left, or_right, or_from, lt-ltb, le-ltb}
use Rattle.std.specs.Str.Parse.{digits_value}
use Rattle.c_token.specs.TokenSpelling.{is_name_byte}
use Rattle.c_token.specs.declared.kinds.TokenError.{TokenError}
use Rattle.c_token.specs.declared.kinds.Kind.TheVariants as kinds
use Rattle.c_token.specs.declared.front.Front.{Front}
use Rattle.c_token.specs.TextTokens.{begins_with, has_leading_zero, token}
use Rattle.c_token.specs.Fronts.{suffix_len, number_end}
use Rattle.c_token.proofs.NumberReads.{digits_are_text, parsed_fits, unparsed_is_big, number_is_bad, number_is_big, number_is_fine}
use Rattle.c_token.proofs.Numbers.{number_end-le}
use Rattle.c_token.proofs.Texts.{text_is_ok, text_is_same}
use Rattle.c_token.proofs.front.Front.number_in.Goals as goal
use Rattle.c_token.proofs.front.Front.number_in.Goals.{After-suffix_len, After-from_utf8, then-end-len, else-end-len, then-has_leading_zero-via-then-has_leading_zero, then-has_leading_zero-via-else-has_leading_zero+then-begins_with_name_byte}

-- where the number ends
ends : (c : After-suffix_len) → c.args.end + c.suffix_len.result ≡ number_end c.args.text.now c.args.end
ends c = ap (λ n. c.args.end + n) (c.suffix_len.ensures ∙ ap suffix_len (take_rest c.args.text.now c.args.end))

pub returns-then-has_leading_zero-clause-front : goal.returns-then-has_leading_zero-clause-front
returns-then-has_leading_zero-clause-front c =
    let text = c.args.text.now in
    let end = ends (goal.at.returns-then-has_leading_zero-clause-front c).After-suffix_len in
    sym (number_is_bad c.args.at text c.args.base c.args.start c.args.end
    (elim c.then-has_leading_zero.branch [
      | then-has_leading_zero-via-then-has_leading_zero w ↦ or_left _ _ (ap (λ n. has_leading_zero (take n text)) (sym end) ∙ sym c.has_leading_zero.ensures ∙ w.if-has_leading_zero.true)
      | then-has_leading_zero-via-else-has_leading_zero+then-begins_with_name_byte w ↦ or_right _ _
          (ap (λ n. begins_with is_name_byte (drop n text)) (sym end)
          ∙ ap (begins_with is_name_byte) (sym (take_rest text (c.args.end + c.suffix_len.result)))
          ∙ sym w.begins_with_name_byte.ensures ∙ w.if-begins_with_name_byte.true)
    ]))

pub unwrap-digits-requires : goal.unwrap-digits-requires
unwrap-digits-requires c =
    let digits = take (c.args.end - c.args.start) (drop c.args.start c.args.text.now) in
    text_is_ok c.from_utf8.result digits c.from_utf8.ensures.cases (digits_are_text c.args.base digits c.requires.base_below c.requires.numeral.1)

-- what `||` gives where its first part holds, and where it does not
either_true : (s t r : Bool) → s ≡ true → r ≡ s → r ≡ (s || t)
either_true s t r holds e = e ∙ holds ∙ sym (or_left s t holds)

either_false : (s t r : Bool) → s ≡ false → r ≡ t → r ≡ (s || t)
either_false s t r fails e = rw fails e

-- no fault of form
is_fine : (c : After-from_utf8) → c.args.end + c.suffix_len.result ≡ number_end c.args.text.now c.args.end
    → (has_leading_zero (take (number_end c.args.text.now c.args.end) c.args.text.now) || begins_with is_name_byte (drop (number_end c.args.text.now c.args.end) c.args.text.now)) ≡ false
is_fine c end =
    let text = c.args.text.now in
    let len = c.args.end + c.suffix_len.result in
    let no_zero : has_leading_zero (take len text) ≡ false = sym c.has_leading_zero.ensures ∙ c.if-has_leading_zero.false in
    let no_name : begins_with is_name_byte (drop len text) ≡ false =
    ap (begins_with is_name_byte) (sym (take_rest text len)) ∙ sym c.begins_with_name_byte.ensures ∙ c.if-begins_with_name_byte.false in
    subst (λ n. (has_leading_zero (take n text) || begins_with is_name_byte (drop n text)) ≡ false) end (or_from _ _ no_zero no_name)

pub returns-after-end-len-clause-front : goal.returns-after-end-len-clause-front
returns-after-end-len-clause-front c =
    let text = c.args.text.now in
    let digits = take (c.args.end - c.args.start) (drop c.args.start text) in
    let len = c.args.end + c.suffix_len.result in
    let path = goal.at.returns-after-end-len-clause-front c in
    let same = text_is_same c.from_utf8.result digits c.unwrap-digits.result c.from_utf8.ensures.cases c.unwrap-digits.ensures in
    let parsed = parsed_fits c.args.base digits c.unwrap-digits.result.now c.in-Ok.value c.requires.base_below c.requires.numeral.1 same c.in-Ok.ensures.value in
    let flag : c.if-end-len.result ≡ (ltb c.args.end len || ltb 2147483647 c.in-Ok.value) = elim c.if-end-len.branch [
      | then-end-len w ↦ either_true _ _ _ (lt-ltb _ _ w.if-end-len.true) w.result-is
      | else-end-len w ↦ either_false _ _ _ (le-ltb _ _ w.if-end-len.false) w.result-is
    ] in
    let f : ℕ → Bool → ℕ → Result Front TokenError = λ value unsigned len. Ok (token (kinds.Number value unsigned) len) in
    let end = ends path.After-suffix_len in
    sym (number_is_fine c.args.at text c.args.base c.args.start c.args.end (is_fine path.After-from_utf8 end) parsed.0 (number_end-le text c.args.end c.requires.within)
    ∙ ap (λ n. f (digits_value c.args.base digits) (ltb c.args.end n || ltb 2147483647 (digits_value c.args.base digits)) n) (sym end)
    ∙ ap (λ value. f value (ltb c.args.end len || ltb 2147483647 value) len) (sym parsed.1)
    ∙ ap (λ unsigned. f c.in-Ok.value unsigned len) (sym flag))

pub returns-in-Err-clause-front : goal.returns-in-Err-clause-front
returns-in-Err-clause-front c =
    let path = goal.at.returns-in-Err-clause-front c in
    let digits = take (c.args.end - c.args.start) (drop c.args.start c.args.text.now) in
    let same = text_is_same c.from_utf8.result digits c.unwrap-digits.result c.from_utf8.ensures.cases c.unwrap-digits.ensures in
    sym (number_is_big c.args.at c.args.text.now c.args.base c.args.start c.args.end (is_fine path.After-from_utf8 (ends path.After-suffix_len))
    (unparsed_is_big c.args.base digits c.unwrap-digits.result.now c.requires.base_below c.requires.numeral same c.in-Err.ensures.value))
