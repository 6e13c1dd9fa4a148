-- Device: how a list of tokens is read from left to right: the answer, and what is left. Where reading stops, what is left
-- begins with the faulty token.
use Rattle.std.specs.Prelude.{is_some, ℕ, zero, suc, Bool, true, false, List, [], ◌∷◌, ◌++◌, length, Option, Some, None, if◌then◌else◌}
use Rattle.c_token.specs.declared.words.Word.{Word}
use Rattle.c_token.specs.declared.signs.Sign.{Sign}
use Rattle.c_token.specs.declared.signs.Sign.TheVariants as signs
use Rattle.c_token.specs.declared.kinds.Kind.{Kind}
use Rattle.c_token.specs.declared.kinds.Kind.TheVariants as kinds
use Rattle.c_token.specs.contracts.signs.SignPartialEq.TheImpl as sign_eq
use Rattle.c_token.specs.contracts.words.WordPartialEq.TheImpl as word_eq
use Rattle.c_descent.specs.declared.parts.Named.{Named}
use Rattle.c_descent.specs.declared.parts.Numeral.{Numeral}
use Rattle.c_grammar.specs.BoundedTokens.{Tok}

-- why reading stops: no program goes on so, a level is opened too many, or a list has more turns than were counted (which never happens)
pub data Reason : Type 0 where
  expected : Reason
  deep : Reason
  exhausted : Reason

pub data ParseOutcome (A : Type 0) : Type 0 where
  done : A → List Tok → ParseOutcome A
  stop : Reason → List Tok → ParseOutcome A

abbrev pub Parser : Type 0 → Type 0
Parser A = List Tok → ParseOutcome A

-- an outcome, and what is read after it
abbrev pub follow : {A B : Type 0} → ParseOutcome A → (A → Parser B) → ParseOutcome B
follow (done x left) f = f x left
follow (stop reason left) f = stop reason left

infixl 10 ◌>>=◌
abbrev pub ◌>>=◌ : {A B : Type 0} → Parser A → (A → Parser B) → Parser B
p >>= f = λ s. follow (p s) f

-- an answer, for which nothing is read
abbrev pub gives : {A : Type 0} → A → Parser A
gives x = λ s. done x s

-- no program goes on with what is left
abbrev pub refuses : {A : Type 0} → Parser A
refuses = λ s. stop expected s

-- what the first token is
abbrev pub first_kind : List Tok → Option Kind
first_kind [] = None
first_kind (t ∷ ts) = Some t.kind

-- whether a token is left
abbrev pub is_left : List Tok → Bool
is_left s = is_some (first_kind s)

abbrev pub is_some_sign : Sign → Option Kind → Bool
is_some_sign s (Some (kinds.Sign other)) = (sign_eq.ghosts).eq other s
is_some_sign s _ = false

abbrev pub is_some_word : Word → Option Kind → Bool
is_some_word w (Some (kinds.Word other)) = (word_eq.ghosts).eq other w
is_some_word w _ = false

-- whether the first token is this sign
unfoldable pub is_at_sign : Sign → List Tok → Bool
is_at_sign s tokens = is_some_sign s (first_kind tokens)

-- whether the first token is this word
unfoldable pub is_at_word : Word → List Tok → Bool
is_at_word w tokens = is_some_word w (first_kind tokens)

-- the first token's number, where the token passes
abbrev pub passed : Bool → Parser ℕ
passed true (t ∷ ts) = done t.place ts
passed _ s = stop expected s

-- this sign, and its number
unfoldable pub sign_token : Sign → Parser ℕ
sign_token x tokens = passed (is_at_sign x tokens) tokens

-- this word, and its number
unfoldable pub word_token : Word → Parser ℕ
word_token x tokens = passed (is_at_word x tokens) tokens

-- the name, where it is one
abbrev pub kind_name : Option Kind → Option (List ℕ)
kind_name (Some (kinds.Name x)) = Some x
kind_name _ = None

-- the name that the first token is
abbrev pub name_by : Option Kind → Parser Named
name_by (Some (kinds.Name x)) (t ∷ ts) = done (record { name = x; token = t.place }) ts
name_by _ s = stop expected s

-- a name
unfoldable pub name_token : Parser Named
name_token tokens = name_by (first_kind tokens) tokens

-- the number that the first token is
abbrev pub number_by : Option Kind → Parser Numeral
number_by (Some (kinds.Number x u)) (t ∷ ts) = done (record { value = x; unsigned = u; token = t.place }) ts
number_by _ s = stop expected s

-- a number
unfoldable pub number_token : Parser Numeral
number_token tokens = number_by (first_kind tokens) tokens

-- a list before what is read after it
abbrev pub prepend : {A : Type 0} → List A → ParseOutcome (List A) → ParseOutcome (List A)
prepend xs (done ys left) = done (xs ++ ys) left
prepend xs (stop reason left) = stop reason left

-- one after another, while more of them follow; at most this many
unfoldable pub many : {A : Type 0} → ℕ → (List Tok → Bool) → Parser A → Parser (List A)
many zero follows p = λ s. stop exhausted s
many (suc n) follows p = λ s. if follows s then follow (p s) (λ x left. prepend (x ∷ []) (many n follows p left)) else done [] s

-- one after another, while more of them follow; each takes a token
unfoldable pub all : {A : Type 0} → (List Tok → Bool) → Parser A → Parser (List A)
all follows p s = many (suc (length s)) follows p s

-- a comma, and what stands after it
unfoldable pub after_comma : {A : Type 0} → Parser A → Parser A
after_comma p = do
  _ ← sign_token signs.Comma
  p

-- one or more, with commas between them
unfoldable pub separated : {A : Type 0} → Parser A → Parser (List A)
separated p = do
  first ← p
  others ← all (is_at_sign signs.Comma) (after_comma p)
  gives (first ∷ others)

-- what is read one level deeper, where a level is left; the token that would open it is the next one
abbrev pub level : {A : Type 0} → ℕ → (ℕ → Parser A) → Parser A
level zero p = λ s. stop deep s
level (suc n) p = p n

-- the number of the first token that is left, or this number where none is
abbrev pub place_or : ℕ → List Tok → ℕ
place_or count [] = count
place_or count (t ∷ ts) = t.place
