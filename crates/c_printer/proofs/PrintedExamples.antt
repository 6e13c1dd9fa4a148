-- The printed tokens of worked trees.
use Rattle.std.proofs.Common.{◌≡◌, ℕ, true, false, List, [], ◌∷◌, ◌++◌, Some, refl, ap, ◌∙◌}
use Rattle.c_token.specs.declared.kinds.Kind.TheVariants as kinds
use Rattle.c_token.specs.declared.words.Word.TheVariants as words
use Rattle.c_token.specs.declared.signs.Sign.TheVariants as signs
use Rattle.c_grammar.specs.declared.expr.Expr.TheVariants as exprs
use Rattle.c_grammar.specs.declared.stmt.Stmt.TheVariants as stmts
use Rattle.c_grammar.specs.declared.item.Item.TheVariants as items
use Rattle.c_grammar.specs.declared.item.Kind3.TheVariants as results
use Rattle.c_grammar.specs.declared.item.Storage.TheVariants as storages
use Rattle.c_printer.specs.PrintedTokens.{stmt_kinds, item_kinds, in_code}
use Rattle.c_printer.proofs.PrintedForms as laws

-- `const int k[2]={1,-2};` in print
constant : (k : List ℕ) → item_kinds (items.Constant false k (Some 2) (record { negative = false; value = 1; unsigned = false } ∷ record { negative = true; value = 2; unsigned = true } ∷ []) true 2)
    ≡ kinds.Word words.Const ∷ kinds.Word words.Int ∷ kinds.Name k ∷ kinds.Sign signs.LeftBracket ∷ kinds.Number 2 false ∷ kinds.Sign signs.RightBracket ∷ kinds.Sign signs.Assign
    ∷ kinds.Sign signs.LeftBrace ∷ kinds.Number 1 false ∷ kinds.Sign signs.Comma ∷ kinds.Sign signs.Minus ∷ kinds.Number 2 true ∷ kinds.Sign signs.RightBrace ∷ kinds.Sign signs.Semicolon ∷ []
constant k = refl

-- `__verified unsigned int a[4294967295];`
object : (a : List ℕ) → item_kinds (items.Object storages.Verified true a (Some 4294967295) 3)
    ≡ kinds.Word words.Unsigned ∷ kinds.Name a ∷ kinds.Sign signs.LeftBracket ∷ kinds.Number 4294967295 true ∷ kinds.Sign signs.RightBracket ∷ kinds.Sign signs.Semicolon ∷ []
object a = refl

-- `void f(){}`
function : (f : List ℕ) → item_kinds (items.Function false results.Void f [] [] 1)
    ≡ kinds.Word words.Void ∷ kinds.Name f ∷ kinds.Sign signs.LeftParenthesis ∷ kinds.Word words.Void ∷ kinds.Sign signs.RightParenthesis ∷ kinds.Sign signs.LeftBrace ∷ kinds.Sign signs.RightBrace ∷ []
function f = refl

-- `release(72u);`
release : stmt_kinds (stmts.Release (exprs.Number 72 true 2) 0) in_code
    ≡ kinds.Word words.Release ∷ kinds.Sign signs.LeftParenthesis ∷ kinds.Number 72 true ∷ kinds.Sign signs.RightParenthesis ∷ kinds.Sign signs.Semicolon ∷ []
release = ap (λ f. f in_code) (laws.stmt_kinds-Release (exprs.Number 72 true 2) 0) ∙ ap (λ ks. kinds.Word words.Release ∷ kinds.Sign signs.LeftParenthesis ∷ (ks ++ kinds.Sign signs.RightParenthesis ∷ kinds.Sign signs.Semicolon ∷ [])) (laws.expr_kinds-Number 72 true 2)
