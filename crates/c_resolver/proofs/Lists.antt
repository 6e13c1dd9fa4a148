-- Lists one element at a time, and the forms of expressions that hold lists.
use Rattle.std.proofs.Common.{◌≡◌, ◌∙◌, ap, sym, ℕ, zero, suc, ◌+◌, ◌<◌, ◌≤◌, ◌==◌, cond, List, [], ◌∷◌, ◌++◌, length, map, drop, slice_index_or, arith, refl}
use Rattle.c_grammar.specs.declared.expr.Expr.{Expr}
use Rattle.c_grammar.specs.declared.expr.Expr.TheVariants as expr
use Rattle.c_grammar.specs.declared.expr.Expr.TheOpen.{Expr-F}
use Rattle.c_grammar.specs.declared.expr.Expr.TheFolds.{fold-roll-Expr}
use Rattle.c_scopes.specs.declared.declaration.Declaration.{Declaration}
use Rattle.c_scopes.specs.Scopes.{latest}
use Rattle.c_semantics.specs.declared.tree.Expr as own
use Rattle.c_semantics.specs.ResolvedTree as Tree
use Rattle.c_semantics.specs.ResolvedViews.{expr_of, exprs_of}
use Rattle.c_semantics.proofs.ViewForms.{expr_of-Called}
use Rattle.c_resolver.specs.Resolving.{Resolved, by_binding, call_value, function_number, nothing, typed_step, typed_expr}
use Rattle.c_resolver.specs.ResolvingViews.{arguments_then, list_in}

pub number-at : (fs : List ℕ) (i t token : ℕ) → i < length fs → t ≡ slice_index_or fs i 0 → function_number (drop i fs) token ≡ cond (t == token) 0 (1 + function_number (drop (suc i) fs) token)
number-at [] i t token below e = absurd (omega (arith, below))
number-at (f ∷ fs) zero t token below e = rw e refl
number-at (f ∷ fs) (suc i) t token below e = number-at fs i t token (omega (arith, below)) e

pub number-end : (fs : List ℕ) (n token : ℕ) → length fs ≤ n → function_number (drop n fs) token ≡ 0
number-end [] zero token below = refl
number-end [] (suc n) token below = refl
number-end (f ∷ fs) zero token below = absurd (omega (arith, below))
number-end (f ∷ fs) (suc n) token below = number-end fs n token (omega (arith, below))

pub ruleset numbers = (number-at, number-end)

pub ruleset called_form = (expr_of-Called)

pub after-snoc : (xs : List own.Expr) (x : own.Expr) (later : Tree.Arguments) → arguments_then (exprs_of (xs ++ x ∷ [])) later ≡ arguments_then (exprs_of xs) (Tree.Argument (expr_of x) later)
after-snoc [] x later = refl
after-snoc (y ∷ xs) x later = ap (λ es. Tree.Argument (expr_of y) es) (after-snoc xs x later)

pub after-none : (es : Tree.Arguments) → arguments_then es Tree.NoArguments ≡ es
after-none Tree.NoArguments = refl
after-none (Tree.Argument e es) = ap (λ later. Tree.Argument e later) (after-none es)

pub list-at : (fs : List ℕ) (es : List Expr) (i : ℕ) (e : Expr) (known : List Declaration) → i < length es → e ≡ slice_index_or es i e →
    list_in fs (drop i es) known ≡ Tree.Argument (typed_expr fs e known).expr (list_in fs (drop (suc i) es) known)
list-at fs [] i e known below same = absurd (omega (arith, below))
list-at fs (d ∷ es) zero e known below same = rw same refl
list-at fs (d ∷ es) (suc i) e known below same = list-at fs es i e known (omega (arith, below)) same

pub list-end : (fs : List ℕ) (es : List Expr) (n : ℕ) (known : List Declaration) → length es ≤ n → list_in fs (drop n es) known ≡ Tree.NoArguments
list-end fs [] zero known below = refl
list-end fs [] (suc n) known below = refl
list-end fs (d ∷ es) zero known below = absurd (omega (arith, below))
list-end fs (d ∷ es) (suc n) known below = list-end fs es n known (omega (arith, below))

pub ruleset arguments = (after-snoc, after-none, list-at, list-end)

pub typed-Call : (fs : List ℕ) (name : List ℕ) (arguments : List Expr) (token : ℕ) (known : List Declaration) →
    typed_expr fs (expr.Call name arguments token) known ≡ by_binding nothing (call_value fs (list_in fs arguments known)) (latest known name)
typed-Call fs name arguments token known =
    ap (λ e. typed_expr fs e known) (sym (expr.rolls-Call name arguments token))
    ∙ ap (λ r. r known) (fold-roll-Expr Resolved (typed_step fs) (Expr-F.Call name arguments token))

pub ruleset typed_forms = (typed-Call)
