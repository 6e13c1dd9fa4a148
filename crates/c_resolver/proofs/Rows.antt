-- Each form of statement with its names resolved, and rows of statements one at a time.
use Rattle.std.proofs.Common.{◌≡◌, ◌∙◌, ap, sym, ℕ, zero, suc, ◌+◌, ◌<◌, ◌≤◌, List, [], ◌∷◌, ◌++◌, length, take, drop, slice_index_or, Option, Some, None, arith, refl, append_assoc, append-nil}
use Rattle.c_grammar.specs.declared.expr.Expr.{Expr}
use Rattle.c_grammar.specs.declared.stmt.Stmt.{Stmt}
use Rattle.c_grammar.specs.declared.stmt.Stmt.TheVariants as stmt
use Rattle.c_grammar.specs.declared.stmt.Stmt.TheOpen.{Stmt-F}
use Rattle.c_grammar.specs.declared.stmt.Stmt.TheFolds.{fold-roll-Stmt}
use Rattle.c_scopes.specs.declared.declaration.Declaration.{Declaration}
use Rattle.c_semantics.specs.declared.tree.Stmt as own
use Rattle.c_semantics.specs.ResolvedTree as Tree
use Rattle.c_semantics.specs.ResolvedViews.{stmt_of, stmts_of}
use Rattle.c_semantics.proofs.ViewForms.{stmt_of-Block, stmt_of-If, stmt_of-For}
use Rattle.c_resolver.specs.Resolving.{ResolvedStmt, part_in, only_resolved, resolved, resolved_step, typed_expr}
use Rattle.c_resolver.specs.ResolvingViews.{body_declared, body_in, branch_declared, branch_in, stmts_then}

pub resolved-Block : (fs : List ℕ) (body : List Stmt) (token : ℕ) (known : List Declaration) → (resolved fs (stmt.Block body token)).at known ≡ Tree.Block (body_in fs body known)
resolved-Block fs body token known =
    ap (λ s. s.at known) (ap (resolved fs) (sym (stmt.rolls-Block body token)) ∙ fold-roll-Stmt ResolvedStmt (resolved_step fs) (Stmt-F.Block body token))

pub declared-Block : (fs : List ℕ) (body : List Stmt) (token : ℕ) → (resolved fs (stmt.Block body token)).declared ≡ []
declared-Block fs body token = ap (λ s. s.declared) (ap (resolved fs) (sym (stmt.rolls-Block body token)) ∙ fold-roll-Stmt ResolvedStmt (resolved_step fs) (Stmt-F.Block body token))

resolved-If-none : (fs : List ℕ) (test : Expr) (body : Stmt) (token : ℕ) →
    resolved fs (stmt.If test body None token) ≡ only_resolved (λ known. Tree.If (typed_expr fs test known).expr ((resolved fs body).at known) (branch_in fs None known))
resolved-If-none fs test body token = ap (resolved fs) (sym (stmt.rolls-If test body None token)) ∙ fold-roll-Stmt ResolvedStmt (resolved_step fs) (Stmt-F.If test body None token)

resolved-If-some : (fs : List ℕ) (test : Expr) (body : Stmt) (other : Stmt) (token : ℕ) →
    resolved fs (stmt.If test body (Some other) token) ≡ only_resolved (λ known. Tree.If (typed_expr fs test known).expr ((resolved fs body).at known) (branch_in fs (Some other) known))
resolved-If-some fs test body other token = ap (resolved fs) (sym (stmt.rolls-If test body (Some other) token)) ∙ fold-roll-Stmt ResolvedStmt (resolved_step fs) (Stmt-F.If test body (Some other) token)

pub resolved-If : (fs : List ℕ) (test : Expr) (body : Stmt) (other : Option Stmt) (token : ℕ) →
    resolved fs (stmt.If test body other token) ≡ only_resolved (λ known. Tree.If (typed_expr fs test known).expr ((resolved fs body).at known) (branch_in fs other known))
resolved-If fs test body None token = resolved-If-none fs test body token
resolved-If fs test body (Some other) token = resolved-If-some fs test body other token

resolved-For-none-none : (fs : List ℕ) (test : Option Expr) (body : Stmt) (token : ℕ) →
    resolved fs (stmt.For None test None body token) ≡ only_resolved (λ known.
    Tree.For (branch_in fs None known) (part_in fs test (known ++ branch_declared fs None)) (branch_in fs None (known ++ branch_declared fs None)) ((resolved fs body).at (known ++ branch_declared fs None)))
resolved-For-none-none fs test body token = ap (resolved fs) (sym (stmt.rolls-For None test None body token)) ∙ fold-roll-Stmt ResolvedStmt (resolved_step fs) (Stmt-F.For None test None body token)

resolved-For-none-some : (fs : List ℕ) (test : Option Expr) (step : Stmt) (body : Stmt) (token : ℕ) →
    resolved fs (stmt.For None test (Some step) body token) ≡ only_resolved (λ known.
    Tree.For (branch_in fs None known) (part_in fs test (known ++ branch_declared fs None)) (branch_in fs (Some step) (known ++ branch_declared fs None)) ((resolved fs body).at (known ++ branch_declared fs None)))
resolved-For-none-some fs test step body token = ap (resolved fs) (sym (stmt.rolls-For None test (Some step) body token)) ∙ fold-roll-Stmt ResolvedStmt (resolved_step fs) (Stmt-F.For None test (Some step) body token)

resolved-For-some-none : (fs : List ℕ) (first : Stmt) (test : Option Expr) (body : Stmt) (token : ℕ) →
    resolved fs (stmt.For (Some first) test None body token) ≡ only_resolved (λ known.
    Tree.For (branch_in fs (Some first) known) (part_in fs test (known ++ branch_declared fs (Some first))) (branch_in fs None (known ++ branch_declared fs (Some first))) ((resolved fs body).at (known ++ branch_declared fs (Some first))))
resolved-For-some-none fs first test body token = ap (resolved fs) (sym (stmt.rolls-For (Some first) test None body token)) ∙ fold-roll-Stmt ResolvedStmt (resolved_step fs) (Stmt-F.For (Some first) test None body token)

resolved-For-some-some : (fs : List ℕ) (first : Stmt) (test : Option Expr) (step : Stmt) (body : Stmt) (token : ℕ) →
    resolved fs (stmt.For (Some first) test (Some step) body token) ≡ only_resolved (λ known.
    Tree.For (branch_in fs (Some first) known) (part_in fs test (known ++ branch_declared fs (Some first))) (branch_in fs (Some step) (known ++ branch_declared fs (Some first))) ((resolved fs body).at (known ++ branch_declared fs (Some first))))
resolved-For-some-some fs first test step body token = ap (resolved fs) (sym (stmt.rolls-For (Some first) test (Some step) body token)) ∙ fold-roll-Stmt ResolvedStmt (resolved_step fs) (Stmt-F.For (Some first) test (Some step) body token)

pub resolved-For : (fs : List ℕ) (first : Option Stmt) (test : Option Expr) (step : Option Stmt) (body : Stmt) (token : ℕ) →
    resolved fs (stmt.For first test step body token) ≡ only_resolved (λ known.
    Tree.For (branch_in fs first known) (part_in fs test (known ++ branch_declared fs first)) (branch_in fs step (known ++ branch_declared fs first)) ((resolved fs body).at (known ++ branch_declared fs first)))
resolved-For fs None test None body token = resolved-For-none-none fs test body token
resolved-For fs None test (Some step) body token = resolved-For-none-some fs test step body token
resolved-For fs (Some first) test None body token = resolved-For-some-none fs first test body token
resolved-For fs (Some first) test (Some step) body token = resolved-For-some-some fs first test step body token

-- what was known before is what is left when all after it is forgotten
pub kept : (known more : List Declaration) → take (length known) (known ++ more) ≡ known
kept [] [] = refl
kept [] (d ∷ more) = refl
kept (d ∷ known) more = ap (λ ds. d ∷ ds) (kept known more)

pub stmts-snoc : (xs : List own.Stmt) (x : own.Stmt) (later : Tree.Stmt) → stmts_then (xs ++ x ∷ []) later ≡ stmts_then xs (Tree.Then (stmt_of x) later)
stmts-snoc [] x later = refl
stmts-snoc (y ∷ xs) x later = ap (λ s. Tree.Then (stmt_of y) s) (stmts-snoc xs x later)

pub stmts-none : (xs : List own.Stmt) → stmts_then xs Tree.Nothing ≡ stmts_of xs
stmts-none [] = refl
stmts-none (x ∷ xs) = ap (λ s. Tree.Then (stmt_of x) s) (stmts-none xs)

pub body-at : (fs : List ℕ) (ss : List Stmt) (i : ℕ) (s : Stmt) (known : List Declaration) → i < length ss → s ≡ slice_index_or ss i s →
    body_in fs (drop i ss) known ≡ Tree.Then ((resolved fs s).at known) (body_in fs (drop (suc i) ss) (known ++ (resolved fs s).declared))
body-at fs [] i s known below same = absurd (omega (arith, below))
body-at fs (d ∷ ss) zero s known below same = rw same refl
body-at fs (d ∷ ss) (suc i) s known below same = body-at fs ss i s known (omega (arith, below)) same

pub declared-at : (fs : List ℕ) (ss : List Stmt) (i : ℕ) (s : Stmt) → i < length ss → s ≡ slice_index_or ss i s →
    body_declared fs (drop i ss) ≡ (resolved fs s).declared ++ body_declared fs (drop (suc i) ss)
declared-at fs [] i s below same = absurd (omega (arith, below))
declared-at fs (d ∷ ss) zero s below same = rw same refl
declared-at fs (d ∷ ss) (suc i) s below same = declared-at fs ss i s (omega (arith, below)) same

pub body-end : (fs : List ℕ) (ss : List Stmt) (n : ℕ) (known : List Declaration) → length ss ≤ n → body_in fs (drop n ss) known ≡ Tree.Nothing
body-end fs [] zero known below = refl
body-end fs [] (suc n) known below = refl
body-end fs (d ∷ ss) zero known below = absurd (omega (arith, below))
body-end fs (d ∷ ss) (suc n) known below = body-end fs ss n known (omega (arith, below))

pub declared-end : (fs : List ℕ) (ss : List Stmt) (n : ℕ) → length ss ≤ n → body_declared fs (drop n ss) ≡ []
declared-end fs [] zero below = refl
declared-end fs [] (suc n) below = refl
declared-end fs (d ∷ ss) zero below = absurd (omega (arith, below))
declared-end fs (d ∷ ss) (suc n) below = declared-end fs ss n (omega (arith, below))

pub ruleset forms = (resolved-Block, declared-Block, resolved-If, resolved-For, stmt_of-Block, stmt_of-If, stmt_of-For, kept, append-nil)

pub ruleset rows = (kept, stmts-snoc, stmts-none, body-at, declared-at, body-end, declared-end, append_assoc, append-nil)
