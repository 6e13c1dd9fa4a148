-- Lists of the code one element at a time, as what the definitions speak of.
use Rattle.std.proofs.Common.{◌≡◌, ◌∙◌, ap, ℕ, zero, suc, ◌+◌, ◌-◌, ◌<◌, ◌≤◌, Bool, false, List, [], ◌∷◌, ◌++◌, length, drop, slice_index_or, Some, None, arith, refl, append_assoc, append-nil}
use Rattle.std.specs.Prelude.{slice_get}
use Rattle.c_semantics.specs.declared.tree.Expr.{Expr}
use Rattle.c_semantics.specs.declared.tree.Stmt.{Stmt}
use Rattle.c_semantics.specs.declared.tree.Function.{Function}
use Rattle.c_semantics.specs.declared.tree.Object.{Object}
use Rattle.c_semantics.specs.declared.tree.Variable.{Variable}
use Rattle.c_semantics.specs.ResolvedTree as Tree
use Rattle.c_semantics.specs.ResolvedViews.{expr_of, exprs_of, stmt_of, stmts_of, function_of, functions_of, object_of, objects_of}

pub exprs-at : (es : List Expr) (i : ℕ) (e : Expr) → i < length es → e ≡ slice_index_or es i e → exprs_of (drop i es) ≡ Tree.Argument (expr_of e) (exprs_of (drop (suc i) es))
exprs-at [] i e below same = absurd (omega (arith, below))
exprs-at (d ∷ es) zero e below same = rw same refl
exprs-at (d ∷ es) (suc i) e below same = exprs-at es i e (omega (arith, below)) same

pub exprs-end : (es : List Expr) (n : ℕ) → length es ≤ n → exprs_of (drop n es) ≡ Tree.NoArguments
exprs-end [] zero below = refl
exprs-end [] (suc n) below = refl
exprs-end (d ∷ es) zero below = absurd (omega (arith, below))
exprs-end (d ∷ es) (suc n) below = exprs-end es n (omega (arith, below))

pub stmts-at : (ss : List Stmt) (i : ℕ) (s : Stmt) → i < length ss → s ≡ slice_index_or ss i s → stmts_of (drop i ss) ≡ Tree.Then (stmt_of s) (stmts_of (drop (suc i) ss))
stmts-at [] i s below same = absurd (omega (arith, below))
stmts-at (d ∷ ss) zero s below same = rw same refl
stmts-at (d ∷ ss) (suc i) s below same = stmts-at ss i s (omega (arith, below)) same

pub stmts-end : (ss : List Stmt) (n : ℕ) → length ss ≤ n → stmts_of (drop n ss) ≡ Tree.Nothing
stmts-end [] zero below = refl
stmts-end [] (suc n) below = refl
stmts-end (d ∷ ss) zero below = absurd (omega (arith, below))
stmts-end (d ∷ ss) (suc n) below = stmts-end ss n (omega (arith, below))

-- the element before one, where a list is gone through from its end
pub exprs-before : (es : List Expr) (i : ℕ) (e : Expr) → 0 < i → i - 1 < length es → e ≡ slice_index_or es (i - 1) e → exprs_of (drop (i - 1) es) ≡ Tree.Argument (expr_of e) (exprs_of (drop i es))
exprs-before es i e some below same = exprs-at es (i - 1) e below same ∙ ap (λ n. Tree.Argument (expr_of e) (exprs_of (drop n es))) next
  where
    next : suc (i - 1) ≡ i
    next = omega (arith, some)

pub stmts-before : (ss : List Stmt) (i : ℕ) (s : Stmt) → 0 < i → i - 1 < length ss → s ≡ slice_index_or ss (i - 1) s → stmts_of (drop (i - 1) ss) ≡ Tree.Then (stmt_of s) (stmts_of (drop i ss))
stmts-before ss i s some below same = stmts-at ss (i - 1) s below same ∙ ap (λ n. Tree.Then (stmt_of s) (stmts_of (drop n ss))) next
  where
    next : suc (i - 1) ≡ i
    next = omega (arith, some)

pub functions-at : (fs : List Function) (i : ℕ) (f : Function) → i < length fs → f ≡ slice_index_or fs i f → functions_of (drop i fs) ≡ function_of f ∷ functions_of (drop (suc i) fs)
functions-at [] i f below same = absurd (omega (arith, below))
functions-at (d ∷ fs) zero f below same = rw same refl
functions-at (d ∷ fs) (suc i) f below same = functions-at fs i f (omega (arith, below)) same

pub functions-end : (fs : List Function) (n : ℕ) → length fs ≤ n → functions_of (drop n fs) ≡ []
functions-end [] zero below = refl
functions-end [] (suc n) below = refl
functions-end (d ∷ fs) zero below = absurd (omega (arith, below))
functions-end (d ∷ fs) (suc n) below = functions-end fs n (omega (arith, below))

pub objects-at : (os : List Object) (i : ℕ) (o : Object) → i < length os → o ≡ slice_index_or os i o → objects_of (drop i os) ≡ object_of o ∷ objects_of (drop (suc i) os)
objects-at [] i o below same = absurd (omega (arith, below))
objects-at (d ∷ os) zero o below same = rw same refl
objects-at (d ∷ os) (suc i) o below same = objects-at os i o (omega (arith, below)) same

pub objects-end : (os : List Object) (n : ℕ) → length os ≤ n → objects_of (drop n os) ≡ []
objects-end [] zero below = refl
objects-end [] (suc n) below = refl
objects-end (d ∷ os) zero below = absurd (omega (arith, below))
objects-end (d ∷ os) (suc n) below = objects-end os n (omega (arith, below))

pub variables-at : (xs : List Variable) (i : ℕ) (x : Variable) → i < length xs → x ≡ slice_index_or xs i x → drop i xs ≡ x ∷ drop (suc i) xs
variables-at [] i x below same = absurd (omega (arith, below))
variables-at (y ∷ xs) zero x below same = rw same refl
variables-at (y ∷ xs) (suc i) x below same = variables-at xs i x (omega (arith, below)) same

pub variables-end : (xs : List Variable) (n : ℕ) → length xs ≤ n → drop n xs ≡ []
variables-end [] zero below = refl
variables-end [] (suc n) below = refl
variables-end (y ∷ xs) zero below = absurd (omega (arith, below))
variables-end (y ∷ xs) (suc n) below = variables-end xs n (omega (arith, below))

pub private-none : (privates : List Bool) (i : ℕ) → slice_get privates i ≡ None → slice_index_or privates i false ≡ false
private-none [] i e = refl
private-none (x ∷ xs) zero e = absurd (grind (arith, e))
private-none (x ∷ xs) (suc i) e = private-none xs i e

pub private-some : (privates : List Bool) (i : ℕ) (x : Bool) → slice_get privates i ≡ Some x → slice_index_or privates i false ≡ x
private-some [] i y e = absurd (grind (arith, e))
private-some (x ∷ xs) zero y e = grind (arith, e)
private-some (x ∷ xs) (suc i) y e = private-some xs i y e

-- code after code, where each part comes after what was there before it
pub joined : {A : Type 0} (o0 o1 o2 a b : List A) → o1 ≡ o0 ++ a → o2 ≡ o1 ++ b → o2 ≡ o0 ++ (a ++ b)
joined o0 o1 o2 a b e e2 = e2 ∙ ap (λ o. o ++ b) e ∙ append_assoc o0 a b

pub ruleset arguments = (exprs-at, exprs-end, append_assoc, append-nil)

pub ruleset blocks = (stmts-at, stmts-end, append_assoc, append-nil)

pub ruleset all_functions = (functions-at, functions-end, append_assoc, append-nil)

pub ruleset all_objects = (objects-at, objects-end, append_assoc, append-nil)

pub ruleset variables = (variables-at, variables-end, append_assoc, append-nil)

pub ruleset privates = (private-none, private-some)

pub ruleset chains = (append_assoc)
