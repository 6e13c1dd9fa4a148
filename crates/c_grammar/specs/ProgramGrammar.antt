-- Promise: the grammar of programs (ISO/IEC 9899, section 6.9): which tokens, all of them, are which program.
use Rattle.std.specs.Prelude.{ℕ, zero, Bool, true, false, List, [], ◌∷◌, ◌++◌, Option, Some, None}
use Rattle.c_token.specs.declared.signs.Sign.TheVariants.{LeftParenthesis, RightParenthesis, LeftBrace, RightBrace, LeftBracket, RightBracket, Semicolon, Comma, Assign, Minus}
use Rattle.c_token.specs.declared.words.Word.TheVariants as w
use Rattle.c_grammar.specs.declared.stmt.Stmt.{Stmt}
use Rattle.c_grammar.specs.declared.item.Storage.{Storage}
use Rattle.c_grammar.specs.declared.item.Storage.TheVariants as storage
use Rattle.c_grammar.specs.declared.item.Kind3.{Kind3}
use Rattle.c_grammar.specs.declared.item.Kind3.TheVariants as kind3
use Rattle.c_grammar.specs.declared.item.Value.{Value}
use Rattle.c_grammar.specs.declared.item.Parameter.{Parameter}
use Rattle.c_grammar.specs.declared.item.Item.{Item}
use Rattle.c_grammar.specs.declared.item.Item.TheVariants as i
use Rattle.c_grammar.specs.declared.item.Program.{Program}
use Rattle.c_grammar.specs.BoundedTokens.{Spot, Bounded, name, number, word, sign}
use Rattle.c_grammar.specs.StatementGrammar.{IsType, Body}

-- The word before an object says how it is kept. None stands for `__verified`.
pub data IsStorage : List Bounded → Storage → Type 0 where
  nothing : IsStorage [] storage.Verified
  verified : (at : Spot) → IsStorage (word at w.Verified ∷ []) storage.Verified
  «private» : (at : Spot) → IsStorage (word at w.Private ∷ []) storage.Private
  shared : (at : Spot) → IsStorage (word at w.Shared ∷ []) storage.Shared
  logged : (at : Spot) → IsStorage (word at w.Logged ∷ []) storage.Logged

-- The length of an array between its brackets, or nothing.
pub data IsLength : List Bounded → Option ℕ → Type 0 where
  nothing : IsLength [] None
  given : (length : ℕ) (unsigned : Bool) (left at right : Spot)
      → IsLength (sign left LeftBracket ∷ number at length unsigned ∷ sign right RightBracket ∷ []) (Some length)

-- A value of a constant.
pub data IsValue : List Bounded → Value → Type 0 where
  plain : (value : ℕ) (unsigned : Bool) (at : Spot)
      → IsValue (number at value unsigned ∷ []) (record { negative = false; value = value; unsigned = unsigned })
  negative : (value : ℕ) (unsigned : Bool) (minus at : Spot)
      → IsValue (sign minus Minus ∷ number at value unsigned ∷ []) (record { negative = true; value = value; unsigned = unsigned })

-- At least one value, separated by commas.
pub data AreValues : List Bounded → List Value → Type 0 where
  one : {ts : List Bounded} {x : Value} → IsValue ts x → AreValues ts (x ∷ [])
  further : {ts us : List Bounded} {x : Value} {xs : List Value} (comma : Spot) → IsValue ts x → AreValues us xs
      → AreValues (ts ++ sign comma Comma ∷ us) (x ∷ xs)

-- The values of a constant, and whether they stand between braces. Without them it is one.
pub data AreInitial : List Bounded → List Value → Bool → Type 0 where
  single : {ts : List Bounded} {x : Value} → IsValue ts x → AreInitial ts (x ∷ []) false
  braced : {ts : List Bounded} {xs : List Value} (left right : Spot) → AreValues ts xs
      → AreInitial (sign left LeftBrace ∷ ts ++ sign right RightBrace ∷ []) xs true

-- What a function answers.
pub data IsResult : List Bounded → Kind3 → Type 0 where
  int : {ts : List Bounded} (at : Spot) → IsType at ts false → IsResult ts kind3.Int
  unsigned : {ts : List Bounded} (at : Spot) → IsType at ts true → IsResult ts kind3.Unsigned
  void : (at : Spot) → IsResult (word at w.Void ∷ []) kind3.Void

-- A parameter.
pub data IsParameter : List Bounded → Parameter → Type 0 where
  typed : {ts : List Bounded} {is_unsigned : Bool} (first at : Spot) (text : List ℕ) → IsType first ts is_unsigned
      → IsParameter (ts ++ name at text ∷ []) (record { unsigned = is_unsigned; name = text; token = at.place })

-- At least one parameter, separated by commas.
pub data AreListed : List Bounded → List Parameter → Type 0 where
  one : {ts : List Bounded} {x : Parameter} → IsParameter ts x → AreListed ts (x ∷ [])
  further : {ts us : List Bounded} {x : Parameter} {xs : List Parameter} (comma : Spot) → IsParameter ts x → AreListed us xs
      → AreListed (ts ++ sign comma Comma ∷ us) (x ∷ xs)

-- The parameters of a function: nothing and the word `void` stand for none.
pub data AreParameters : List Bounded → List Parameter → Type 0 where
  nothing : AreParameters [] []
  void : (at : Spot) → AreParameters (word at w.Void ∷ []) []
  some : {ts : List Bounded} {xs : List Parameter} → AreListed ts xs → AreParameters ts xs

-- The word `__private` before a function, or nothing.
pub data IsPrivate : List Bounded → Bool → Type 0 where
  nothing : IsPrivate [] false
  given : (at : Spot) → IsPrivate (word at w.Private ∷ []) true

-- A declaration.
pub data IsItem : List Bounded → Item → Type 0 where
  object : {ts us vs : List Bounded} {class : Storage} {is_unsigned : Bool} {length : Option ℕ} (first at end : Spot)
      (text : List ℕ) → IsStorage ts class → IsType first us is_unsigned → IsLength vs length
      → IsItem (ts ++ (us ++ (name at text ∷ vs ++ sign end Semicolon ∷ []))) (i.Object class is_unsigned text length at.place)
  constant : {ts us vs : List Bounded} {is_unsigned braces : Bool} {length : Option ℕ} {values : List Value}
      (const first at equals end : Spot) (text : List ℕ)
      → IsType first ts is_unsigned → IsLength us length → AreInitial vs values braces
      → IsItem (word const w.Const ∷ ts ++ (name at text ∷ us ++ (sign equals Assign ∷ vs ++ sign end Semicolon ∷ [])))
      (i.Constant is_unsigned text length values braces at.place)
  untrusted : (first void at left inner right end : Spot) (text : List ℕ)
      → IsItem (word first w.Untrusted ∷ word void w.Void ∷ name at text ∷ sign left LeftParenthesis ∷ word inner w.Void
      ∷ sign right RightParenthesis ∷ sign end Semicolon ∷ []) (i.Untrusted text at.place)
  function : {ts us vs ws : List Bounded} {is_private : Bool} {result : Kind3} {params : List Parameter} {body : List Stmt}
      (at left right start end : Spot) (text : List ℕ)
      → IsPrivate ts is_private → IsResult us result → AreParameters vs params → Body zero ws body
      → IsItem (ts ++ (us ++ (name at text ∷ sign left LeftParenthesis ∷ vs
      ++ (sign right RightParenthesis ∷ sign start LeftBrace ∷ ws ++ sign end RightBrace ∷ []))))
      (i.Function is_private result text params body at.place)

-- Declarations in a row.
pub data AreItems : List Bounded → List Item → Type 0 where
  nothing : AreItems [] []
  further : {ts us : List Bounded} {x : Item} {xs : List Item} → IsItem ts x → AreItems us xs → AreItems (ts ++ us) (x ∷ xs)

-- These tokens are this program, with no more levels and operators than their bounds allow.
abbrev pub IsProgram : List Bounded → Program → Type 0
IsProgram tokens program = AreItems tokens program.items
