-- The program of worked texts, and why others have none.
use Rattle.std.proofs.Common.{◌≡◌, ℕ, Bool, true, false, true≢false, List, [], ◌∷◌, Result, Ok, Err, None, refl, ap, arith}
use Rattle.std.specs.Prelude.{codes}
use Rattle.c_token.specs.declared.words.Word.TheVariants as w
use Rattle.c_token.specs.declared.signs.Sign.TheVariants as s
use Rattle.c_token.specs.declared.kinds.Kind.{Kind}
use Rattle.c_token.specs.declared.kinds.Kind.TheVariants.{Name, Word, Sign}
use Rattle.c_token.specs.declared.kinds.Token.{Token}
use Rattle.c_token.specs.declared.kinds.TokenError.{TokenError}
use Rattle.c_token.specs.declared.kinds.TokenError.TheVariants.{BadByte}
use Rattle.c_token.specs.TextTokens.{tokens_of, tokens_from, front_at, front_then, put_before, token_of_len, judged}
use Rattle.c_grammar.specs.declared.item.Item.{Item}
use Rattle.c_grammar.specs.declared.item.Item.TheVariants as item
use Rattle.c_grammar.specs.declared.item.Storage.TheVariants as storage
use Rattle.c_grammar.specs.declared.item.Program.{Program}
use Rattle.c_grammar.specs.BoundedTokens.{numbered}
use Rattle.c_grammar.specs.TokenPrograms.{HasProgram, IsExpectedAt, IsShallowBefore}
use Rattle.c_grammar.proofs.PlaceLaws.{expected-one, expected-deep}
use Rattle.c_descent.proofs.ListParser.{sign_token, word_token, name_token, number_token, many, all, is_at_sign, is_at_word}
use Rattle.c_descent.proofs.StatementParser as st
use Rattle.c_descent.proofs.ProgramParser as p
use Rattle.c_descent.proofs.Answered.{reads, refused_expected}
use Rattle.c_descent.proofs.WorkedPlaces.{deep_text, deep_at_71}
use Rattle.c_reader.specs.declared.error.SyntaxError.TheVariants.{Expected, Deep}
use Rattle.c_reader.specs.SourceText.{IsRefusedAs, HasTokenFault, HasSyntaxFault}
use Rattle.c_reader.proofs.Answering.{one_of_text}

token : ℕ → Kind → Token
token at kind = record { kind = kind; at = at }

-- one object, whose name is this token
object : ℕ → Program
object at = record { items = item.Object storage.Verified false (codes "x") None at ∷ [] }

object_text : HasProgram (codes "int x;") (object 1)
unfolding object token tokens_of tokens_from front_at front_then put_before token_of_len judged p.program p.items p.item_inside p.heading_at p.typed_item p.typed_rest p.object_rest p.optional_length st.type_name st.int_type many all sign_token word_token name_token number_token is_at_sign is_at_word
object_text = record {
  tokens = token 0 (Word w.Int) ∷ token 4 (Name (codes "x")) ∷ token 5 (Sign s.Semicolon) ∷ [];
  lexed = refl;
  read = reads (Word w.Int ∷ Name (codes "x") ∷ Sign s.Semicolon ∷ []) (object 1) refl;
}

first_token : List Item → ℕ
first_token (item.Object _ _ _ _ at ∷ _) = at
first_token _ = 0

one_is_two : ◌≡◌ {A = ℕ} 1 2 → ⊥
one_is_two e = omega (arith, e)

-- tokens are counted from 0
no_object_text : HasProgram (codes "int x;") (object 2) → ⊥
unfolding object first_token
no_object_text h = one_is_two (ap (λ program. first_token program.items) (one_of_text (codes "int x;") (object 1) (object 2) object_text h))

-- a name is missing at token 1
abbrev unnamed : List Kind
unnamed = Word w.Int ∷ Sign s.Semicolon ∷ []

unnamed_at : IsExpectedAt unnamed 1 × IsShallowBefore unnamed 1
unfolding p.program p.items p.item_inside p.heading_at p.typed_item st.type_name st.int_type many all sign_token word_token name_token is_at_sign is_at_word
unnamed_at = refused_expected unnamed (numbered 1 (Sign s.Semicolon ∷ [])) refl

unnamed_text : HasSyntaxFault (codes "int ;") (Expected 1)
unfolding token tokens_of tokens_from front_at front_then put_before token_of_len judged
unnamed_text = record { tokens = token 0 (Word w.Int) ∷ token 4 (Sign s.Semicolon) ∷ []; lexed = refl; refused = unnamed_at }

not_at_2 : IsRefusedAs unnamed (Expected 2) → ⊥
not_at_2 h = one_is_two (expected-one unnamed 1 2 unnamed_at.0 h.0)

not_deep : (k : ℕ) → IsRefusedAs unnamed (Deep k) → ⊥
not_deep k h = expected-deep unnamed 1 k unnamed_at.0 unnamed_at.1 h

too_deep : (main : List ℕ) → IsRefusedAs (deep_text main) (Deep 71)
too_deep main = deep_at_71 main

not_expected : (main : List ℕ) (k : ℕ) → IsRefusedAs (deep_text main) (Expected k) → ⊥
not_expected main k h = expected-deep (deep_text main) k 71 h.0 h.1 (deep_at_71 main)

bad_byte : HasTokenFault (codes "x$") (BadByte 1)
unfolding tokens_of tokens_from front_at front_then put_before token_of_len judged
bad_byte = refl

is_ok : Result (List Token) TokenError → Bool
is_ok (Ok _) = true
is_ok (Err _) = false

no_bad_byte : HasTokenFault (codes "x") (BadByte 0) → ⊥
unfolding is_ok tokens_of tokens_from front_at front_then put_before token_of_len judged
no_bad_byte e = true≢false (ap is_ok e)
