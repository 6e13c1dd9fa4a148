-- The longest token of a text that begins as a name.
use Rattle.std.proofs.Common.{◌≡◌, ℕ, zero, suc, ◌+◌, ◌<◌, ◌≤◌, true, false, cond, List, [], ◌∷◌, length, take, drop, ltb, None, Some, Ok, Err, IsUtf8, get_or, is_some, refl, ap, ◌∙◌, arith}
use Rattle.std.specs.List.{prefix_len}
use Rattle.std.proofs.lemmas.Bool.{cond-true, cond-false, false≢true, lt-ltb, le-ltb}
use Rattle.std.proofs.lemmas.Bool.Decides.{nat_tests}
use Rattle.std.proofs.lemmas.List.{length-take-le, get_or-take}
use Rattle.std.proofs.lemmas.List.Sums.{prefix_len-le-length, prefix_len_passes}
use Rattle.std.proofs.lemmas.Str.{IsUtf8-from_ascii}
use Rattle.std.proofs.lemmas.Str.Ascii.{IsAscii-from_reads}
use Rattle.c_token.specs.declared.words.Word.{Word}
use Rattle.c_token.specs.declared.kinds.TokenError.TheVariants.{LongName}
use Rattle.c_token.specs.declared.kinds.Kind.TheVariants as kinds
use Rattle.c_token.specs.WordSpelling.{word_spelled}
use Rattle.c_token.specs.TokenSpelling.{is_name_start, is_name_byte, word_or_name, spelled, is_token}
use Rattle.c_token.specs.TextTokens.{begins_with, longest, judged, token_of_len, token}
use Rattle.c_token.proofs.Longest.{longest_is, all_within, all_beyond}
use Rattle.c_token.proofs.Classes.{spelled-start, spelled-start_none, start_is_byte}

pub spelled-name : (text : List ℕ) (m : ℕ) → begins_with is_name_start text ≡ true → 0 < m → m ≤ prefix_len is_name_byte text
    → spelled (take m text) ≡ Some (word_or_name (word_spelled (take m text)) (take m text))
spelled-name [] m start pos le = cc
spelled-name (b ∷ bs) zero start pos le = absurd (omega arith)
spelled-name (b ∷ bs) (suc m) start pos le =
    let run : prefix_len is_name_byte (b ∷ bs) ≡ 1 + prefix_len is_name_byte bs = cond-true (is_name_byte b) _ _ (start_is_byte b start) in
    spelled-start b (take m bs) start (all_within is_name_byte bs m (omega arith))

pub longest-name : (text : List ℕ) → begins_with is_name_start text ≡ true → longest is_token text ≡ prefix_len is_name_byte text
longest-name [] start = refl
longest-name (b ∷ bs) start =
    longest_is is_token (b ∷ bs) (prefix_len is_name_byte (b ∷ bs)) (prefix_len-le-length is_name_byte (b ∷ bs))
    (λ pos. ap is_some (spelled-name (b ∷ bs) (prefix_len is_name_byte (b ∷ bs)) start pos (omega arith)))
    (λ m above below. longer b bs m start above below)
  where
    longer : (b : ℕ) (bs : List ℕ) (m : ℕ) → is_name_start b ≡ true → prefix_len is_name_byte (b ∷ bs) < m → m ≤ suc (length bs) → is_token (take m (b ∷ bs)) ≡ false
    longer b bs zero start above below = absurd (omega arith)
    longer b bs (suc m) start above below =
        let run : prefix_len is_name_byte (b ∷ bs) ≡ 1 + prefix_len is_name_byte bs = cond-true (is_name_byte b) _ _ (start_is_byte b start) in
        ap is_some (spelled-start_none b (take m bs) start (all_beyond is_name_byte bs m (omega arith) (omega arith)))

-- the bytes of a name are a text
byte_ascii : (b : ℕ) → is_name_byte b ≡ true → b < 128
byte_ascii b h = grind (arith, nat_tests)

pub name_is_text : (text : List ℕ) → IsUtf8 (take (prefix_len is_name_byte text) text)
name_is_text text =
    let n = prefix_len is_name_byte text in
    let le = prefix_len-le-length is_name_byte text in
    IsUtf8-from_ascii (take n text)
    (IsAscii-from_reads (take n text) n (omega (arith, length-take-le n text le))
    (λ k below. rw (get_or-take n text k 0 below) (byte_ascii (get_or text k 0) (prefix_len_passes is_name_byte text k 0 below))))

-- the longest token, whose bytes spell a word or a name
longest-judged : (at : ℕ) (text : List ℕ) → begins_with is_name_start text ≡ true
    → let bytes = take (prefix_len is_name_byte text) text in
    token_of_len at text (longest is_token text) ≡ judged at bytes (drop (prefix_len is_name_byte text) text) (Some (word_or_name (word_spelled bytes) bytes))
unfolding token_of_len
longest-judged at text start =
    let n = prefix_len is_name_byte text in
    ap (λ n. judged at (take n text) (drop n text) (spelled (take n text))) (longest-name text start)
    ∙ ap (judged at (take n text) (drop n text)) (spelled-name text n start (positive text start) (omega arith))
  where
    positive : (text : List ℕ) → begins_with is_name_start text ≡ true → 0 < prefix_len is_name_byte text
    positive [] start = absurd (false≢true start)
    positive (b ∷ bs) start = rw (cond-true (is_name_byte b) (1 + prefix_len is_name_byte bs) 0 (start_is_byte b start)) (omega arith)

-- a word
pub is_word_front : (at : ℕ) (text : List ℕ) (w : Word) → begins_with is_name_start text ≡ true → word_spelled (take (prefix_len is_name_byte text) text) ≡ Some w
    → token_of_len at text (longest is_token text) ≡ Ok (token (kinds.Word w) (prefix_len is_name_byte text))
unfolding judged
is_word_front at text w start found =
    let n = prefix_len is_name_byte text in
    longest-judged at text start
    ∙ ap (λ o. judged at (take n text) (drop n text) (Some (word_or_name o (take n text)))) found
    ∙ ap (λ m. Ok (token (kinds.Word w) m)) (length-take-le n text (prefix_len-le-length is_name_byte text))

-- or a name
is_name_judged : (at : ℕ) (text : List ℕ) → begins_with is_name_start text ≡ true → word_spelled (take (prefix_len is_name_byte text) text) ≡ None
    → let bytes = take (prefix_len is_name_byte text) text in
    token_of_len at text (longest is_token text) ≡ cond (ltb 31 (length bytes)) (Err (LongName at)) (Ok (token (kinds.Name bytes) (length bytes)))
unfolding judged
is_name_judged at text start found =
    let n = prefix_len is_name_byte text in
    longest-judged at text start ∙ ap (λ o. judged at (take n text) (drop n text) (Some (word_or_name o (take n text)))) found

pub is_name_front : (at : ℕ) (text : List ℕ) → begins_with is_name_start text ≡ true → word_spelled (take (prefix_len is_name_byte text) text) ≡ None
    → prefix_len is_name_byte text ≤ 31
    → token_of_len at text (longest is_token text) ≡ Ok (token (kinds.Name (take (prefix_len is_name_byte text) text)) (prefix_len is_name_byte text))
is_name_front at text start found short =
    let n = prefix_len is_name_byte text in
    let len = length-take-le n text (prefix_len-le-length is_name_byte text) in
    is_name_judged at text start found
    ∙ cond-false (ltb 31 (length (take n text))) _ _ (le-ltb 31 (length (take n text)) (rw len short))
    ∙ ap (λ m. Ok (token (kinds.Name (take n text)) m)) len

pub is_long_name : (at : ℕ) (text : List ℕ) → begins_with is_name_start text ≡ true → word_spelled (take (prefix_len is_name_byte text) text) ≡ None
    → 31 < prefix_len is_name_byte text → token_of_len at text (longest is_token text) ≡ Err (LongName at)
is_long_name at text start found above =
    let n = prefix_len is_name_byte text in
    is_name_judged at text start found
    ∙ cond-true (ltb 31 (length (take n text))) _ _ (lt-ltb _ _ (rw (length-take-le n text (prefix_len-le-length is_name_byte text)) above))
