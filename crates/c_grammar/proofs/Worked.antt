-- Worked derivations of the grammar, step by step.
use Rattle.std.proofs.Common.{◌≡◌, ◌∙◌, ap, sym, subst, ℕ, suc, true, false, List, [], ◌∷◌, None, Some, Err, refl, arith}
use Rattle.std.specs.Prelude.{map, codes}
use Rattle.std.specs.Fmt.{digits}
use Rattle.aegis_num.specs.declared.limits.TheConstants.{MAX_NESTING, MAX_BINARY_OPERATORS}
use Rattle.c_token.specs.declared.signs.Sign.{Sign as ASign}
use Rattle.c_token.specs.declared.kinds.Kind.{Kind}
use Rattle.c_token.specs.declared.kinds.TokenError.TheVariants.{BadByte}
use Rattle.c_token.specs.PlainText.{plain_text, plain_tokens}
use Rattle.c_token.specs.TextTokens.{tokens_of, tokens_from, front_at, front_then, put_before, token_of_len, judged, block_comment}
use Rattle.c_token.proofs.PlainTexts.{reads_back}
use Rattle.c_token.specs.declared.kinds.Kind.TheVariants.{Name, Number, Word, Sign}
use Rattle.c_token.specs.declared.words.Word.TheVariants as words
use Rattle.c_token.specs.declared.signs.Sign.TheVariants as signs
use Rattle.c_grammar.specs.declared.expr.Expr.TheVariants as expr
use Rattle.c_grammar.specs.declared.stmt.Stmt.TheVariants as stmt
use Rattle.c_grammar.specs.declared.item.Item.TheVariants as item
use Rattle.c_grammar.specs.declared.item.Kind3.TheVariants as kind3
use Rattle.c_grammar.specs.declared.item.Program.{Program}
use Rattle.c_grammar.specs.BoundedTokens.{Spot, numbered, bounded_all}
use Rattle.c_grammar.specs.ExpressionGrammar as e
use Rattle.c_grammar.specs.ExpressionGrammar.{Expression, Binary, Unary}
use Rattle.c_grammar.specs.StatementGrammar as s
use Rattle.c_grammar.specs.StatementGrammar.{Statement, Body}
use Rattle.c_grammar.specs.ProgramGrammar as p
use Rattle.c_grammar.specs.TokenPrograms.{AreProgram, HasProgram, limit}
use Rattle.c_grammar.specs.Precedence.{precedence, loosest, is_unary_operator}

-- the token with this number, within the limits
abbrev at : ℕ → Spot
at n = record { place = n; bound = 64 }

-- a name alone, on every level
unary : (l n : ℕ) (a : List ℕ) → Unary l (bounded_all 64 (numbered n (Name a ∷ []))) (expr.Name a n)
unary l n a = e.primary (e.variable a (at n))

tight : (l n used : ℕ) (a : List ℕ) → Binary l 1 used (bounded_all 64 (numbered n (Name a ∷ []))) (expr.Name a n) used
tight l n used a = e.tighter (e.alone (unary l n a))

number : (l n value : ℕ) → Expression l (bounded_all 64 (numbered n (Number value false ∷ []))) (expr.Number value false n)
number l n value = e.whole (e.tighter (e.tighter (e.tighter (e.tighter (e.tighter (e.tighter (e.tighter (e.tighter (e.tighter (e.tighter (e.alone {used = 0} (e.primary (e.literal value false (at n))))))))))))))

-- `a - b - c` groups to the left.
left : (a b c : List ℕ) → Expression 1 (bounded_all 64 (numbered 5 (Name a ∷ Sign signs.Minus ∷ Name b ∷ Sign signs.Minus ∷ Name c ∷ [])))
    (expr.Binary signs.Minus (expr.Binary signs.Minus (expr.Name a 5) (expr.Name b 7) 6) (expr.Name c 9) 8)
left a b c = e.whole
    (e.tighter (e.tighter (e.tighter (e.tighter (e.tighter (e.tighter (e.tighter (e.tighter (e.both signs.Minus (at 8) (e.both signs.Minus (at 6) (e.tighter (tight 1 5 0 a)) refl (omega arith) (tight 1 7 1 b)) refl (omega arith) (tight 1 9 2 c))))))))))

-- `a || b && c` has the `&&` on the right of the `||`.
looser : (a b c : List ℕ) → Expression 1 (bounded_all 64 (numbered 0 (Name a ∷ Sign signs.LogicalOr ∷ Name b ∷ Sign signs.LogicalAnd ∷ Name c ∷ [])))
    (expr.Binary signs.LogicalOr (expr.Name a 0) (expr.Binary signs.LogicalAnd (expr.Name b 2) (expr.Name c 4) 3) 1)
looser a b c = e.whole (e.both signs.LogicalOr (at 1)
    (e.tighter (e.tighter (e.tighter (e.tighter (e.tighter (e.tighter (e.tighter (e.tighter (e.tighter (tight 1 0 0 a)))))))))) refl (omega arith)
    (e.both signs.LogicalAnd (at 3) (e.tighter (e.tighter (e.tighter (e.tighter (e.tighter (e.tighter (e.tighter (e.tighter (tight 1 2 1 b))))))))) refl (omega arith)
    (e.tighter (e.tighter (e.tighter (e.tighter (e.tighter (e.tighter (e.tighter (tight 1 4 2 c))))))))))

-- `if (1) if (2) ; else ;`: the `else` is the inner one's.
nearest : Statement 0 (bounded_all 64 (numbered 0 (Word words.If ∷ Sign signs.LeftParenthesis ∷ Number 1 false ∷ Sign signs.RightParenthesis
    ∷ Word words.If ∷ Sign signs.LeftParenthesis ∷ Number 2 false ∷ Sign signs.RightParenthesis ∷ Sign signs.Semicolon ∷ Word words.Else ∷ Sign signs.Semicolon ∷ [])))
    (stmt.If (expr.Number 1 false 2) (stmt.If (expr.Number 2 false 6) (stmt.Empty 8) (Some (stmt.Empty 10)) 4) None 0) true
nearest = s.if (at 0) (at 1) (at 3) (omega arith) (number 1 2 1)
    (s.if_else (at 4) (at 5) (at 7) (at 9) (omega arith) (number 2 6 2) (s.empty (at 8) (omega arith)) (s.empty (at 10) (omega arith)))

-- `release ( value ) ;` at this number
release : (n value : ℕ) → Statement 0 (bounded_all 64 (numbered n (Word words.Release ∷ Sign signs.LeftParenthesis ∷ Number value false ∷ Sign signs.RightParenthesis ∷ Sign signs.Semicolon ∷ [])))
    (stmt.Release (expr.Number value false (suc (suc n))) n) false
release n value = s.simple (at (suc (suc (suc (suc n))))) (s.release (at n) (at (suc n)) (at (suc (suc (suc n)))) (omega arith) (number 1 (suc (suc n)) value))

-- `int main(void){release(72);release(105);return 0;}`, with this name
abbrev pub hi_kinds : List ℕ → List Kind
hi_kinds main =
    Word words.Int ∷ Name main ∷ Sign signs.LeftParenthesis ∷ Word words.Void ∷ Sign signs.RightParenthesis ∷ Sign signs.LeftBrace
    ∷ Word words.Release ∷ Sign signs.LeftParenthesis ∷ Number 72 false ∷ Sign signs.RightParenthesis ∷ Sign signs.Semicolon
    ∷ Word words.Release ∷ Sign signs.LeftParenthesis ∷ Number 105 false ∷ Sign signs.RightParenthesis ∷ Sign signs.Semicolon
    ∷ Word words.Return ∷ Number 0 false ∷ Sign signs.Semicolon ∷ Sign signs.RightBrace ∷ []

abbrev pub hi_program : List ℕ → Program
hi_program main = record {
  items = item.Function false kind3.Int main []
      (stmt.Release (expr.Number 72 false 8) 6 ∷ stmt.Release (expr.Number 105 false 13) 11 ∷ stmt.Return (Some (expr.Number 0 false 17)) 16 ∷ []) 1 ∷ [];
}

pub hi : (main : List ℕ) → AreProgram (hi_kinds main) (hi_program main)
hi main = p.AreItems.further (p.function (at 1) (at 2) (at 4) (at 5) (at 19) main p.IsPrivate.nothing (p.IsResult.int (at 0) (s.int (at 0))) (p.AreParameters.void (at 3))
    (s.Body.statement (release 6 72) (s.Body.statement (release 11 105)
    (s.Body.statement (s.return (at 16) (at 18) (omega arith) (s.given (number 1 17 0))) s.Body.nothing)))) p.AreItems.nothing

-- the operators of two operands by the sections of the standard, the tightest first, the signs that are none, and the operators of one operand
precedences : map precedence (signs.Star ∷ signs.Slash ∷ signs.Percent ∷ signs.Plus ∷ signs.Minus ∷ signs.ShiftLeft ∷ signs.ShiftRight
    ∷ signs.LessThan ∷ signs.GreaterThan ∷ signs.LessOrEqual ∷ signs.GreaterOrEqual ∷ signs.EqualTo ∷ signs.NotEqualTo
    ∷ signs.Ampersand ∷ signs.Caret ∷ signs.VerticalBar ∷ signs.LogicalAnd ∷ signs.LogicalOr ∷ [])
    ≡ 1 ∷ 1 ∷ 1 ∷ 2 ∷ 2 ∷ 3 ∷ 3 ∷ 4 ∷ 4 ∷ 4 ∷ 4 ∷ 5 ∷ 5 ∷ 6 ∷ 7 ∷ 8 ∷ 9 ∷ loosest ∷ []
precedences = refl

abbrev others : List ASign
others = signs.LeftParenthesis ∷ signs.RightParenthesis ∷ signs.LeftBrace ∷ signs.RightBrace ∷ signs.LeftBracket ∷ signs.RightBracket
    ∷ signs.Semicolon ∷ signs.Comma ∷ signs.Assign ∷ signs.Tilde ∷ signs.Exclamation ∷ []

no_precedences : map precedence others ≡ 0 ∷ 0 ∷ 0 ∷ 0 ∷ 0 ∷ 0 ∷ 0 ∷ 0 ∷ 0 ∷ 0 ∷ 0 ∷ []
no_precedences = refl

unary_operators : map is_unary_operator (signs.Plus ∷ signs.Minus ∷ signs.Star ∷ signs.Ampersand ∷ others) ≡ false ∷ true ∷ false ∷ false
    ∷ false ∷ false ∷ false ∷ false ∷ false ∷ false ∷ false ∷ false ∷ false ∷ true ∷ true ∷ []
unary_operators = refl

-- the two limits are one
limits : (limit ≡ MAX_NESTING) × (limit ≡ MAX_BINARY_OPERATORS)
limits = (refl, refl)

-- the program of a text, and a text that has none
abbrev hi_text : List ℕ
hi_text = codes "int main ( void ) { release ( 72 ) ; release ( 105 ) ; return 0 ; }"

hi_spelled : plain_text (hi_kinds (codes "main")) ≡ hi_text
unfolding digits
hi_spelled = refl

has_program : HasProgram hi_text (hi_program (codes "main"))
has_program =
    let text = reads_back (hi_kinds (codes "main")) refl in
    record {
      tokens = plain_tokens 0 (hi_kinds (codes "main"));
      lexed = ap tokens_of (sym hi_spelled) ∙ text.0;
      read = subst (λ ks. AreProgram ks (hi_program (codes "main"))) (sym text.1) (hi (codes "main"));
    }

bad_byte : tokens_of (codes "$") ≡ Err (BadByte 0)
unfolding tokens_of tokens_from front_at front_then put_before token_of_len judged block_comment
bad_byte = refl

has_none : (p : Program) → HasProgram (codes "$") p → ⊥
has_none p has = cc (bad_byte, has.lexed)
