-- A token's plain spelling, before a space or the end, is the longest token there.
use Rattle.std.proofs.Common.{◌≡◌, ℕ, ◌+◌, Bool, true, false, List, [], ◌∷◌, ◌++◌, length, take, eqb, Option, None, Some, Ok, is_some, refl, sym, ap, ◌∙◌, arith}
use Rattle.std.specs.Prelude.{nat_eq}
use Rattle.std.specs.List.{list_all, prefix_len, starts_with}
use Rattle.std.proofs.lemmas.Bool.{cond-true, cond-false, and_parts, and_from, and_left, false≢true, leb-true, not-true}
use Rattle.std.proofs.lemmas.Bool.Decides.{nat_tests}
use Rattle.std.proofs.lemmas.List.{take_at}
use Rattle.c_token.specs.declared.words.Word.{Word}
use Rattle.c_token.specs.declared.words.Word.TheVariants.{Int}
use Rattle.c_token.specs.declared.kinds.Kind.TheVariants as kinds
use Rattle.c_token.specs.WordSpelling.{word_spelling, word_spelled}
use Rattle.c_token.specs.TokenSpelling.{is_name_start, is_name_byte, is_name, is_token}
use Rattle.c_token.specs.TextTokens.{is_blank, begins_with, longest, token_of_len, token, front_at}
use Rattle.c_token.specs.PlainText.{is_in_form}
use Rattle.c_token.proofs.Cases.{front_is_token}
use Rattle.c_token.proofs.Names.{is_word_front, is_name_front}

-- the end of the text, or a space
abbrev pub is_parted : List ℕ → Bool
is_parted [] = true
is_parted (b ∷ bs) = eqb b 32

-- a test that a space fails fails there
pub parted-fails : (p : ℕ → Bool) (rest : List ℕ) → p 32 ≡ false → is_parted rest ≡ true → begins_with p rest ≡ false
parted-fails p [] fails parted = refl
parted-fails p (b ∷ bs) fails parted =
    ap p (let same : b ≡ 32 = grind (arith, nat_tests) in same) ∙ fails

-- a run of bytes before one that fails
pub prefix_len-run : (p : ℕ → Bool) (xs rest : List ℕ) → list_all p xs ≡ true → begins_with p rest ≡ false → prefix_len p (xs ++ rest) ≡ length xs
prefix_len-run p [] [] all stop = refl
prefix_len-run p [] (b ∷ bs) all stop = cond-false (p b) _ _ stop
prefix_len-run p (x ∷ xs) rest all stop =
    let parts = and_parts (p x) (list_all p xs) all in
    let more = prefix_len-run p xs rest parts.1 stop in
    cond-true (p x) (1 + prefix_len p (xs ++ rest)) 0 parts.0 ∙ omega (arith, more)

begins-append : (p : ℕ → Bool) (xs rest : List ℕ) → begins_with p xs ≡ true → begins_with p (xs ++ rest) ≡ true
begins-append p [] rest begins = absurd (false≢true begins)
begins-append p (x ∷ xs) rest begins = begins

-- what begins with neither a blank nor `/` is neither a blank nor a comment
opens_none : (second b : ℕ) (bs : List ℕ) → eqb 47 b ≡ false → starts_with nat_eq (b ∷ bs) (47 ∷ second ∷ []) ≡ false
opens_none second b bs other = and_left _ _ other

pub front-plain : (at b : ℕ) (bs : List ℕ) → is_blank b ≡ false → eqb 47 b ≡ false
    → front_at at (b ∷ bs) ≡ token_of_len at (b ∷ bs) (longest is_token (b ∷ bs))
front-plain at b bs blank slash = front_is_token at (b ∷ bs) blank (opens_none 42 b bs slash) (opens_none 47 b bs slash)

-- what a byte of a name is not
start_is_plain : (b : ℕ) → is_name_start b ≡ true → (is_blank b ≡ false) × (eqb 47 b ≡ false)
start_is_plain b start = (grind (arith, nat_tests), grind (arith, nat_tests))

front-name : (at : ℕ) (text : List ℕ) → begins_with is_name_start text ≡ true → front_at at text ≡ token_of_len at text (longest is_token text)
front-name at [] start = absurd (false≢true start)
front-name at (b ∷ bs) start = let plain = start_is_plain b start in front-plain at b bs plain.0 plain.1

-- bytes that spell a word, or a name that is no word
name_run : (bytes rest : List ℕ) → is_name bytes ≡ true → is_parted rest ≡ true
    → (begins_with is_name_start (bytes ++ rest) ≡ true) × (prefix_len is_name_byte (bytes ++ rest) ≡ length bytes) × (take (prefix_len is_name_byte (bytes ++ rest)) (bytes ++ rest) ≡ bytes)
name_run [] rest is parted = absurd (false≢true is)
name_run (b ∷ bs) rest is parted =
    let parts = and_parts _ _ is in
    let byte : is_name_byte b ≡ true = grind (arith, nat_tests, parts.0) in
    let run = prefix_len-run is_name_byte (b ∷ bs) rest (and_from _ _ byte parts.1) (parted-fails is_name_byte rest refl parted) in
    (parts.0, run, ap (λ n. take n ((b ∷ bs) ++ rest)) run ∙ take_at (b ∷ bs) rest (length (b ∷ bs)) refl)

pub word_is_name : (w : Word) → is_name (word_spelling w) ≡ true
word_is_name Int = refl
word_is_name _ = refl

word_is_own : (w : Word) → word_spelled (word_spelling w) ≡ Some w
word_is_own Int = refl
word_is_own _ = refl

pub word_front : (at : ℕ) (w : Word) (rest : List ℕ) → is_parted rest ≡ true → front_at at (word_spelling w ++ rest) ≡ Ok (token (kinds.Word w) (length (word_spelling w)))
word_front at w rest parted =
    let text = word_spelling w ++ rest in
    let run = name_run (word_spelling w) rest (word_is_name w) parted in
    front-name at text run.0 ∙ is_word_front at text w run.0 (ap word_spelled run.2 ∙ word_is_own w) ∙ ap (λ n. Ok (token (kinds.Word w) n)) run.1

pub name_front : (at : ℕ) (bytes rest : List ℕ) → is_in_form (kinds.Name bytes) ≡ true → is_parted rest ≡ true → front_at at (bytes ++ rest) ≡ Ok (token (kinds.Name bytes) (length bytes))
name_front at bytes rest form parted =
    let parts = and_parts _ _ form in
    let more = and_parts _ _ parts.1 in
    let text = bytes ++ rest in
    let run = name_run bytes rest parts.0 parted in
    front-name at text run.0
    ∙ is_name_front at text run.0 (ap word_spelled run.2 ∙ none (word_spelled bytes) (not-true _ more.0)) (rw run.1 (leb-true _ _ more.1))
    ∙ ap (λ bytes. Ok (token (kinds.Name bytes) (prefix_len is_name_byte text))) run.2
    ∙ ap (λ n. Ok (token (kinds.Name bytes) n)) run.1
  where
    none : (o : Option Word) → is_some o ≡ false → o ≡ None
    none None h = refl
    none (Some w) h = absurd (false≢true (sym h))
