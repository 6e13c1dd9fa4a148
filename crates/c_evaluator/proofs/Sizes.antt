-- How large programs are, and that parts are smaller than what they are parts of.
use Rattle.std.proofs.Common.{◌≡◌, ℕ, zero, suc, ◌+◌, ◌<◌, List, [], ◌∷◌, length, take, slice_index_or, Option, Some, None, arith, ap, sym, subst}
use Rattle.std.specs.Prelude.{slice_get}
use Rattle.c_semantics.specs.declared.tree.Function.{Function}
use Rattle.c_semantics.specs.declared.tree.Expr.{Expr}
use Rattle.c_semantics.specs.declared.tree.Stmt.{Stmt}
use Rattle.c_semantics.specs.ResolvedViews.{expr_of, exprs_of, stmt_of, stmts_of}
use Rattle.c_semantics.specs.ResolvedTree as Tree

-- how large an expression is: a part with a function of its own counts twice
abbrev mutual
  pub expr_size : Tree.Expr → ℕ
  expr_size (Tree.Number value) = 1
  expr_size (Tree.Scalar variable) = 1
  expr_size (Tree.Indexed at array length index) = 2 + expr_size index
  expr_size (Tree.Called function arguments) = 3 + arguments_size arguments
  expr_size Tree.Input = 1
  expr_size (Tree.Unary op inner) = 2 + expr_size inner
  expr_size (Tree.Binary at op left right) = 2 + expr_size left + expr_size right
  expr_size (Tree.Both left right) = 2 + expr_size left + expr_size right
  expr_size (Tree.Either left right) = 2 + expr_size left + expr_size right

  pub arguments_size : Tree.Arguments → ℕ
  arguments_size Tree.NoArguments = 0
  arguments_size (Tree.Argument value later) = 1 + expr_size value + arguments_size later

abbrev pub part_size : Option Tree.Expr → ℕ
part_size None = 0
part_size (Some e) = 1 + expr_size e

-- how large a statement is
abbrev pub stmt_size : Tree.Stmt → ℕ
stmt_size Tree.Nothing = 1
stmt_size (Tree.Then first second) = 1 + stmt_size first + stmt_size second
stmt_size Tree.Empty = 1
stmt_size (Tree.Block body) = 2 + stmt_size body
stmt_size (Tree.Local variable value) = 2 + part_size value
stmt_size (Tree.Assign variable value) = 2 + expr_size value
stmt_size (Tree.Store at array length index value) = 2 + expr_size index + expr_size value
stmt_size (Tree.Call function arguments) = 3 + arguments_size arguments
stmt_size Tree.Suspend = 1
stmt_size (Tree.Release value) = 2 + expr_size value
stmt_size Tree.Check = 1
stmt_size (Tree.Return value) = 2 + part_size value
stmt_size Tree.Break = 1
stmt_size Tree.Continue = 1
stmt_size (Tree.If test body other) = 4 + expr_size test + stmt_size body + stmt_size other
stmt_size (Tree.While test body) = 6 + expr_size test + stmt_size body
stmt_size (Tree.For first test step body) = 5 + stmt_size first + part_size test + stmt_size step + stmt_size body

-- how large the bodies of functions are
abbrev pub functions_size : List Function → ℕ
functions_size [] = 0
functions_size (f ∷ functions) = 1 + stmt_size (stmts_of f.body) + functions_size functions

statement-smaller : (ss : List Stmt) (k : ℕ) (d : Stmt) → k < length ss → stmt_size (stmt_of (slice_index_or ss k d)) < stmt_size (stmts_of ss)
statement-smaller [] k d below = absurd (omega (arith, below))
statement-smaller (s ∷ ss) zero d below = omega arith
statement-smaller (s ∷ ss) (suc k) d below = let h : stmt_size (stmt_of (slice_index_or ss k d)) < stmt_size (stmts_of ss) = statement-smaller ss k d (omega (arith, below)) in omega (arith, h)

argument-smaller : (es : List Expr) (k : ℕ) (d : Expr) → k < length es → expr_size (expr_of (slice_index_or es k d)) < arguments_size (exprs_of es) + 1
argument-smaller [] k d below = absurd (omega (arith, below))
argument-smaller (e ∷ es) zero d below = omega arith
argument-smaller (e ∷ es) (suc k) d below = let h : expr_size (expr_of (slice_index_or es k d)) < arguments_size (exprs_of es) + 1 = argument-smaller es k d (omega (arith, below)) in omega (arith, h)

pub body-smaller : (fs : List Function) (n : ℕ) (f : Function) → slice_get fs n ≡ Some f → functions_size (take n fs) + stmt_size (stmts_of f.body) < functions_size fs
body-smaller [] n f e = absurd (grind (arith, e))
body-smaller (g ∷ fs) zero f e = let same : g ≡ f = some-inj e in
    let q : stmt_size (stmts_of g.body) ≡ stmt_size (stmts_of f.body) = ap (λ (h : Function). stmt_size (stmts_of h.body)) same in omega (arith, q)
  where
    some-or : Option Function → Function
    some-or None = f
    some-or (Some h) = h

    some-inj : Some g ≡ Some f → g ≡ f
    some-inj h = ap some-or h
body-smaller (g ∷ fs) (suc n) f e = let h : functions_size (take n fs) + stmt_size (stmts_of f.body) < functions_size fs = body-smaller fs n f e in omega (arith, h)

pub statement-at : (ss : List Stmt) (k : ℕ) (s : Stmt) → s ≡ slice_index_or ss k s → k < length ss → stmt_size (stmt_of s) < stmt_size (stmts_of ss)
statement-at ss k s e below = subst (λ r. stmt_size (stmt_of r) < stmt_size (stmts_of ss)) (sym e) (statement-smaller ss k s below)

pub argument-at : (es : List Expr) (k : ℕ) (e : Expr) → e ≡ slice_index_or es k e → k < length es → expr_size (expr_of e) < arguments_size (exprs_of es) + 1
argument-at es k e same below = subst (λ r. expr_size (expr_of r) < arguments_size (exprs_of es) + 1) (sym same) (argument-smaller es k e below)
