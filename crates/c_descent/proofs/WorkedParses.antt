-- The parser on worked lists of tokens.
use Rattle.std.proofs.Common.{◌≡◌, ℕ, false, [], ◌∷◌, Some, None, refl}
use Rattle.c_token.specs.declared.words.Word.TheVariants as w
use Rattle.c_token.specs.declared.signs.Sign.TheVariants as s
use Rattle.c_token.specs.declared.kinds.Kind.{Kind}
use Rattle.c_token.specs.declared.kinds.Kind.TheVariants.{Number, Word, Sign}
use Rattle.c_grammar.specs.declared.expr.Expr.TheVariants as e
use Rattle.c_grammar.specs.declared.stmt.Stmt.TheVariants as t
use Rattle.c_grammar.specs.BoundedTokens.{numbered}
use Rattle.c_descent.proofs.ListParser.{deep, done, stop, sign_token, word_token, number_token, is_at_sign, is_at_word}
use Rattle.c_descent.proofs.ExpressionParser.{operator_at, joined_operand, chain, chained, binary_expression, expression, paren, literal, primary, unary_in, levels_inside, unary_expression, expression_at}
use Rattle.c_descent.proofs.StatementParser.{start_at, parenthesised_test, empty, while_loop, optional_else, conditional, statement_inside, barred, statement}

abbrev n : ℕ → Kind
n x = Number x false

-- 1 - 2 - 3 groups to the left
left : expression_at 64 64 (numbered 5 (n 1 ∷ Sign s.Minus ∷ n 2 ∷ Sign s.Minus ∷ n 3 ∷ []))
    ≡ done (e.Binary s.Minus (e.Binary s.Minus (e.Number 1 false 5) (e.Number 2 false 7) 6) (e.Number 3 false 9) 8) []
unfolding unary_expression levels_inside unary_in primary literal number_token expression binary_expression chained chain joined_operand sign_token is_at_sign operator_at
left = refl

-- 1 || 2 && 3
ranks : expression_at 64 64 (numbered 0 (n 1 ∷ Sign s.LogicalOr ∷ n 2 ∷ Sign s.LogicalAnd ∷ n 3 ∷ Sign s.Comma ∷ []))
    ≡ done (e.Binary s.LogicalOr (e.Number 1 false 0) (e.Binary s.LogicalAnd (e.Number 2 false 2) (e.Number 3 false 4) 3) 1)
    (numbered 5 (Sign s.Comma ∷ []))
unfolding unary_expression levels_inside unary_in primary literal number_token expression binary_expression chained chain joined_operand sign_token is_at_sign operator_at
ranks = refl

-- one operator too many
operators : expression_at 1 64 (numbered 0 (n 1 ∷ Sign s.Plus ∷ n 2 ∷ Sign s.Star ∷ n 3 ∷ []))
    ≡ stop deep (numbered 3 (Sign s.Star ∷ n 3 ∷ []))
unfolding unary_expression levels_inside unary_in primary literal number_token expression binary_expression chained chain joined_operand sign_token is_at_sign operator_at
operators = refl

-- one level too many, at the second parenthesis
levels : expression_at 64 1 (numbered 0 (Sign s.LeftParenthesis ∷ Sign s.LeftParenthesis ∷ []))
    ≡ stop deep (numbered 1 (Sign s.LeftParenthesis ∷ []))
unfolding unary_expression levels_inside unary_in primary paren literal number_token expression binary_expression chained chain joined_operand sign_token is_at_sign operator_at
levels = refl

-- if (1) if (2) ; else ;
nearest : statement 64 3
    (numbered 0 (Word w.If ∷ Sign s.LeftParenthesis ∷ n 1 ∷ Sign s.RightParenthesis
    ∷ Word w.If ∷ Sign s.LeftParenthesis ∷ n 2 ∷ Sign s.RightParenthesis ∷ Sign s.Semicolon ∷ Word w.Else ∷ Sign s.Semicolon ∷ []))
    ≡ done (t.If (e.Number 1 false 2) (t.If (e.Number 2 false 6) (t.Empty 8) (Some (t.Empty 10)) 4) None 0) []
unfolding statement statement_inside start_at conditional parenthesised_test empty optional_else is_at_word word_token unary_expression levels_inside unary_in primary literal number_token expression binary_expression chained chain joined_operand sign_token is_at_sign operator_at
nearest = refl

-- while (1) return; where one level is left
body_deep : statement 64 1
    (numbered 0 (Word w.While ∷ Sign s.LeftParenthesis ∷ n 1 ∷ Sign s.RightParenthesis ∷ Word w.Return ∷ Sign s.Semicolon ∷ []))
    ≡ stop deep (numbered 4 (Word w.Return ∷ Sign s.Semicolon ∷ []))
unfolding statement statement_inside start_at while_loop parenthesised_test empty barred is_at_word word_token unary_expression levels_inside unary_in primary literal number_token expression binary_expression chained chain joined_operand sign_token is_at_sign operator_at
body_deep = refl
