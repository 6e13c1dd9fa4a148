-- Where worked texts stop being programs, and where they nest too deep.
use Rattle.std.proofs.Common.{ℕ, zero, suc, false, List, [], ◌∷◌, refl}
use Rattle.c_token.specs.declared.kinds.Kind.{Kind}
use Rattle.c_token.specs.declared.kinds.Kind.TheVariants.{Name, Number, Word, Sign}
use Rattle.c_token.specs.declared.words.Word.TheVariants as w
use Rattle.c_token.specs.declared.signs.Sign.TheVariants as s
use Rattle.c_grammar.specs.BoundedTokens.{numbered}
use Rattle.c_grammar.specs.TokenPrograms.{IsExpectedAt, IsDeepAt, IsShallowBefore}
use Rattle.c_descent.proofs.ListParser.{sign_token, word_token, name_token, number_token, many, all, is_at_sign, is_at_word}
use Rattle.c_descent.proofs.ExpressionParser.{operator_at, chain, chained, binary_expression, expression, paren, literal, primary, unary_in, levels_inside, unary_expression}
use Rattle.c_descent.proofs.StatementParser as st
use Rattle.c_descent.proofs.ProgramParser as p
use Rattle.c_descent.proofs.Answered.{refused_expected, refused_deep}

-- as many signs `(`
opens : ℕ → List Kind
opens zero = []
opens (suc n) = Sign s.LeftParenthesis ∷ opens n

-- `int main(void){release(72)return 0;}`: the sign `;` is missing before token 10
missing : (main : List ℕ) → List Kind
missing main = Word w.Int ∷ Name main ∷ Sign s.LeftParenthesis ∷ Word w.Void ∷ Sign s.RightParenthesis ∷ Sign s.LeftBrace
    ∷ Word w.Release ∷ Sign s.LeftParenthesis ∷ Number 72 false ∷ Sign s.RightParenthesis ∷ Word w.Return ∷ Number 0 false ∷ Sign s.Semicolon ∷ Sign s.RightBrace ∷ []

missing_at : (main : List ℕ) → IsExpectedAt (missing main) 10 × IsShallowBefore (missing main) 10
unfolding missing p.program p.items p.item_inside p.heading_at p.typed_item p.typed_rest p.function_rest p.parameters p.parameter_list p.void_list st.type_name st.int_type st.braced st.entries st.entry st.block_goes_on st.statement st.statement_inside st.start_at st.plain_at st.ended st.plain_inside st.release st.parenthesised_test many all sign_token word_token name_token number_token is_at_sign is_at_word operator_at chain chained binary_expression expression literal primary unary_in levels_inside unary_expression
missing_at main = refused_expected (missing main) (numbered 10 (Word w.Return ∷ Number 0 false ∷ Sign s.Semicolon ∷ Sign s.RightBrace ∷ [])) refl

-- 64 signs `(` after the one of `release`: the last of them opens one level too many
pub deep_text : (main : List ℕ) → List Kind
deep_text main = Word w.Int ∷ Name main ∷ Sign s.LeftParenthesis ∷ Word w.Void ∷ Sign s.RightParenthesis ∷ Sign s.LeftBrace
    ∷ Word w.Release ∷ Sign s.LeftParenthesis ∷ opens 64

pub deep_at_71 : (main : List ℕ) → IsDeepAt (deep_text main) 71
unfolding opens deep_text p.program p.items p.item_inside p.heading_at p.typed_item p.typed_rest p.function_rest p.parameters p.parameter_list p.void_list st.type_name st.int_type st.braced st.entries st.entry st.block_goes_on st.statement st.statement_inside st.start_at st.plain_at st.ended st.plain_inside st.release st.parenthesised_test many all sign_token word_token name_token number_token is_at_sign is_at_word operator_at chain chained binary_expression expression literal primary unary_in levels_inside unary_expression paren
deep_at_71 main = refused_deep (deep_text main) (numbered 71 (Sign s.LeftParenthesis ∷ [])) refl
