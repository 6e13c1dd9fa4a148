-- The longest token of a text that begins as neither a name nor a number.
use Rattle.std.proofs.Common.{◌≡◌, ℕ, zero, suc, ◌<◌, ◌≤◌, false, List, [], ◌∷◌, length, take, drop, None, Some, Ok, Err, is_some, ap, ◌∙◌, arith}
use Rattle.std.specs.Prelude.{option_map}
use Rattle.std.specs.Char.{is_ascii_digit}
use Rattle.std.proofs.lemmas.List.{length-take-le}
use Rattle.c_token.specs.declared.signs.Sign.{Sign}
use Rattle.c_token.specs.declared.kinds.TokenError.TheVariants.{BadByte}
use Rattle.c_token.specs.declared.kinds.Kind.TheVariants as kinds
use Rattle.c_token.specs.SignSpelling.{sign_spelled}
use Rattle.c_token.specs.TokenSpelling.{is_name_start, spelled, is_token}
use Rattle.c_token.specs.TextTokens.{begins_with, longest, judged, token_of_len, token}
use Rattle.c_token.proofs.Longest.{longest_is}
use Rattle.c_token.proofs.Classes.{spelled-other, sign_spelled-long}

-- a text that begins as neither a name nor a number
pub record IsOther (text : List ℕ) : Type 0 where
  pub some : 0 < length text
  pub no_name : begins_with is_name_start text ≡ false
  pub no_number : begins_with is_ascii_digit text ≡ false

spelled-sign : (text : List ℕ) (m : ℕ) → IsOther text → 0 < m → spelled (take m text) ≡ option_map (λ s. kinds.Sign s) (sign_spelled (take m text))
spelled-sign [] m other pos = absurd (omega (arith, other.some))
spelled-sign (b ∷ bs) zero other pos = absurd (omega arith)
spelled-sign (b ∷ bs) (suc m) other pos = spelled-other b (take m bs) other.no_name other.no_number

no_token : (text : List ℕ) (m : ℕ) → IsOther text → 0 < m → sign_spelled (take m text) ≡ None → is_token (take m text) ≡ false
no_token text m other pos none = ap is_some (spelled-sign text m other pos ∙ ap (option_map (λ s. kinds.Sign s)) none)

is_sign : (text : List ℕ) (m : ℕ) (s : Sign) → IsOther text → 0 < m → sign_spelled (take m text) ≡ Some s → spelled (take m text) ≡ Some (kinds.Sign s)
is_sign text m s other pos found = spelled-sign text m other pos ∙ ap (option_map (λ s. kinds.Sign s)) found

long : (text : List ℕ) (m : ℕ) → IsOther text → 2 < m → m ≤ length text → is_token (take m text) ≡ false
long text m other above below = no_token text m other (omega arith) (sign_spelled-long (take m text) (omega (arith, length-take-le m text below)))

judged-sign : (at : ℕ) (text : List ℕ) (m : ℕ) (s : Sign) → m ≤ length text → spelled (take m text) ≡ Some (kinds.Sign s) → token_of_len at text m ≡ Ok (token (kinds.Sign s) m)
unfolding token_of_len judged
judged-sign at text m s le found =
    ap (judged at (take m text) (drop m text)) found ∙ ap (λ n. Ok (token (kinds.Sign s) n)) (length-take-le m text le)

-- two bytes that spell a sign
pub sign_of_two : (at : ℕ) (text : List ℕ) (s : Sign) → IsOther text → 1 < length text → sign_spelled (take 2 text) ≡ Some s
    → token_of_len at text (longest is_token text) ≡ Ok (token (kinds.Sign s) 2)
sign_of_two at text s other more found =
    let here = is_sign text 2 s other (omega arith) found in
    ap (token_of_len at text) (longest_is is_token text 2 more (λ _. ap is_some here) (λ m above below. long text m other above below))
    ∙ judged-sign at text 2 s more here

-- or one
pub sign_of_one : (at : ℕ) (text : List ℕ) (s : Sign) → IsOther text → (1 < length text → sign_spelled (take 2 text) ≡ None) → sign_spelled (take 1 text) ≡ Some s
    → token_of_len at text (longest is_token text) ≡ Ok (token (kinds.Sign s) 1)
sign_of_one at text s other no_two found =
    let here = is_sign text 1 s other (omega arith) found in
    let one : 1 ≤ length text = omega (arith, other.some) in
    ap (token_of_len at text) (longest_is is_token text 1 one (λ _. ap is_some here) (λ m above below. longer text m other no_two above below))
    ∙ judged-sign at text 1 s one here
  where
    longer : (text : List ℕ) (m : ℕ) → IsOther text → (1 < length text → sign_spelled (take 2 text) ≡ None) → 1 < m → m ≤ length text → is_token (take m text) ≡ false
    longer text zero other no_two above below = absurd (omega arith)
    longer text (suc zero) other no_two above below = absurd (omega arith)
    longer text (suc (suc zero)) other no_two above below = no_token text 2 other (omega arith) (no_two below)
    longer text (suc (suc (suc m))) other no_two above below = long text (suc (suc (suc m))) other (omega arith) below

-- or none
pub sign_of_none : (at : ℕ) (text : List ℕ) → IsOther text → (1 < length text → sign_spelled (take 2 text) ≡ None) → sign_spelled (take 1 text) ≡ None
    → token_of_len at text (longest is_token text) ≡ Err (BadByte at)
unfolding token_of_len judged
sign_of_none at text other no_two no_one =
    ap (token_of_len at text) (longest_is is_token text 0 (omega arith) (λ pos. absurd (omega arith)) (λ m above below. longer text m other no_two no_one above below))
  where
    longer : (text : List ℕ) (m : ℕ) → IsOther text → (1 < length text → sign_spelled (take 2 text) ≡ None) → sign_spelled (take 1 text) ≡ None → 0 < m → m ≤ length text → is_token (take m text) ≡ false
    longer text zero other no_two no_one above below = absurd (omega arith)
    longer text (suc zero) other no_two no_one above below = no_token text 1 other (omega arith) no_one
    longer text (suc (suc zero)) other no_two no_one above below = no_token text 2 other (omega arith) (no_two below)
    longer text (suc (suc (suc m))) other no_two no_one above below = long text (suc (suc (suc m))) other (omega arith) below
