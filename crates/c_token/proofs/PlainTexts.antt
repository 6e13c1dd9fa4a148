-- The tokens of a plain text, one after another.
use Rattle.std.proofs.Common.{◌≡◌, ℕ, ◌+◌, ◌<◌, true, List, [], ◌∷◌, ◌++◌, length, Some, Ok, refl, ap, ◌∙◌, arith}
use Rattle.std.specs.List.{list_all}
use Rattle.std.proofs.lemmas.Bool.{and_parts, false≢true}
use Rattle.std.proofs.lemmas.List.{drop_at, length-append}
use Rattle.c_token.specs.declared.kinds.Kind.{Kind}
use Rattle.c_token.specs.declared.kinds.Kind.TheVariants as kinds
use Rattle.c_token.specs.WordSpelling.{word_spelling}
use Rattle.c_token.specs.TokenSpelling.{is_name}
use Rattle.c_token.specs.TextTokens.{token, gap, put_before, tokens_from, tokens_of, front_at}
use Rattle.c_token.specs.PlainText.{plain_spelling, spaced_text, is_in_form, plain_tokens, kinds_of, PlainTextReadsBack}
use Rattle.c_token.proofs.Cases.{front_is_blank}
use Rattle.c_token.proofs.Scan.{front_first, put_before-none}
use Rattle.c_token.proofs.PlainFronts.{is_parted, word_is_name, word_front, name_front}
use Rattle.c_token.proofs.PlainNumbers.{number_some, number_front}
use Rattle.c_token.proofs.PlainSigns.{sign_some, sign_front}

-- each token is the front of its plain spelling
plain_front : (at : ℕ) (kind : Kind) (rest : List ℕ) → is_in_form kind ≡ true → is_parted rest ≡ true
    → front_at at (plain_spelling kind ++ rest) ≡ Ok (token kind (length (plain_spelling kind)))
plain_front at (kinds.Name bytes) rest form parted = name_front at bytes rest form parted
plain_front at (kinds.Number value unsigned) rest form parted = number_front at value unsigned rest form parted
plain_front at (kinds.Word w) rest form parted = word_front at w rest parted
plain_front at (kinds.Sign s) rest form parted = sign_front at s rest parted

spaced_is_parted : (more : List Kind) → is_parted (spaced_text more) ≡ true
spaced_is_parted [] = refl
spaced_is_parted (kind ∷ more) = refl

-- no spelling is empty
name_some : (bytes : List ℕ) → is_name bytes ≡ true → 0 < length bytes
name_some [] is = absurd (false≢true is)
name_some (b ∷ bs) is = omega arith

spelling_some : (kind : Kind) → is_in_form kind ≡ true → 0 < length (plain_spelling kind)
spelling_some (kinds.Name bytes) form = name_some bytes (and_parts _ _ form).0
spelling_some (kinds.Number value unsigned) form = number_some value unsigned form
spelling_some (kinds.Word w) form = name_some (word_spelling w) (word_is_name w)
spelling_some (kinds.Sign s) form = sign_some s

-- one token, and then the rest
first : (at : ℕ) (kind : Kind) (more : List Kind) → is_in_form kind ≡ true
    → tokens_from at 0 (plain_spelling kind ++ spaced_text more)
    ≡ put_before at (Some kind) (tokens_from (at + length (plain_spelling kind)) 0 (spaced_text more))
first at kind more form =
    let bytes = plain_spelling kind in
    let rest = spaced_text more in
    front_first at (bytes ++ rest) (token kind (length bytes)) (spelling_some kind form) (omega (arith, length-append bytes rest))
    (plain_front at kind rest form (spaced_is_parted more))
    ∙ ap (λ rest. put_before at (Some kind) (tokens_from (at + length bytes) 0 rest)) (drop_at bytes rest (length bytes) refl)

-- a space, and then the rest
space : (at : ℕ) (text : List ℕ) → tokens_from at 0 (32 ∷ text) ≡ tokens_from (at + 1) 0 text
space at text = front_first at (32 ∷ text) (gap 1) (omega arith) (omega arith) (front_is_blank at (32 ∷ text) refl) ∙ put_before-none at _

reads : (at : ℕ) (kind : Kind) (more : List Kind) → list_all is_in_form (kind ∷ more) ≡ true
    → tokens_from at 0 (plain_spelling kind ++ spaced_text more) ≡ Ok (plain_tokens at (kind ∷ more))
unfolding put_before tokens_from
reads at kind [] form = first at kind [] (and_parts _ _ form).0
reads at kind (second ∷ more) form =
    let parts = and_parts _ _ form in
    let here = at + length (plain_spelling kind) in
    first at kind (second ∷ more) parts.0
    ∙ ap (put_before at (Some kind)) (space here (plain_spelling second ++ spaced_text more) ∙ reads (here + 1) second more parts.1)

kinds-placed : (at : ℕ) (more : List Kind) → kinds_of (plain_tokens at more) ≡ more
kinds-placed at [] = refl
kinds-placed at (kind ∷ more) = ap (λ more. kind ∷ more) (kinds-placed (at + length (plain_spelling kind) + 1) more)

pub reads_back : PlainTextReadsBack
unfolding tokens_of tokens_from
reads_back [] form = (refl, refl)
reads_back (kind ∷ more) form = (reads 0 kind more form, kinds-placed 0 (kind ∷ more))
