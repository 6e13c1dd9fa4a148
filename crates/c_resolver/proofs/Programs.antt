-- Items one at a time.
use Rattle.std.proofs.Common.{◌≡◌, ◌∙◌, ap, sym, ℕ, zero, suc, ◌+◌, ◌<◌, ◌≤◌, cond, List, [], ◌∷◌, ◌++◌, length, map, drop, slice_index_or, Option, Some, None, arith, refl, append_assoc, append-nil}
use Rattle.c_grammar.specs.declared.item.Item.{Item}
use Rattle.c_grammar.specs.declared.item.Item.TheVariants as item
use Rattle.c_grammar.specs.declared.item.Parameter.{Parameter}
use Rattle.c_grammar.specs.declared.item.Value.{Value}
use Rattle.c_scopes.specs.declared.declaration.Declaration.{Declaration}
use Rattle.c_scopes.specs.Declarations.{declaration_of, declarations_of, parameter, parameters_of}
use Rattle.c_semantics.specs.declared.tree.Function as own
use Rattle.c_semantics.specs.declared.tree.Object as object
use Rattle.c_semantics.specs.ResolvedViews.{function_of, functions_of, object_of, objects_of}
use Rattle.c_resolver.specs.Resolving.{function_tokens, functions_in, objects_in, variable_of, constant_word}
use Rattle.c_resolver.specs.ResolvingViews.{parameters_in}

pub tokens-at : (items : List Item) (i : ℕ) (x : Item) → i < length items → x ≡ slice_index_or items i x →
    function_tokens (drop i items) ≡ function_tokens (x ∷ []) ++ function_tokens (drop (suc i) items)
tokens-at [] i x below same = absurd (omega (arith, below))
tokens-at (item.Object storage unsigned name length' token ∷ items) zero x below same = rw same refl
tokens-at (item.Constant unsigned name length' values braces token ∷ items) zero x below same = rw same refl
tokens-at (item.Untrusted name token ∷ items) zero x below same = rw same refl
tokens-at (item.Function private result name parameters body token ∷ items) zero x below same = rw same refl
tokens-at (y ∷ items) (suc i) x below same = tokens-at items i x (omega (arith, below)) same

pub tokens-end : (items : List Item) (n : ℕ) → length items ≤ n → function_tokens (drop n items) ≡ []
tokens-end [] zero below = refl
tokens-end [] (suc n) below = refl
tokens-end (y ∷ items) zero below = absurd (omega (arith, below))
tokens-end (y ∷ items) (suc n) below = tokens-end items n (omega (arith, below))

pub words-at : (values : List Value) (i : ℕ) (x : Value) → i < length values → x ≡ slice_index_or values i x →
    map constant_word (drop i values) ≡ constant_word x ∷ map constant_word (drop (suc i) values)
words-at [] i x below same = absurd (omega (arith, below))
words-at (y ∷ values) zero x below same = rw same refl
words-at (y ∷ values) (suc i) x below same = words-at values i x (omega (arith, below)) same

pub words-end : (values : List Value) (n : ℕ) → length values ≤ n → map constant_word (drop n values) ≡ []
words-end [] zero below = refl
words-end [] (suc n) below = refl
words-end (y ∷ values) zero below = absurd (omega (arith, below))
words-end (y ∷ values) (suc n) below = words-end values n (omega (arith, below))

pub objects-snoc : (xs : List object.Object) (x : object.Object) → objects_of (xs ++ x ∷ []) ≡ objects_of xs ++ object_of x ∷ []
objects-snoc [] x = refl
objects-snoc (y ∷ xs) x = ap (λ os. object_of y ∷ os) (objects-snoc xs x)

pub objects-at : (items : List Item) (i : ℕ) (x : Item) → i < length items → x ≡ slice_index_or items i x →
    objects_in (drop i items) ≡ objects_in (x ∷ []) ++ objects_in (drop (suc i) items)
objects-at [] i x below same = absurd (omega (arith, below))
objects-at (item.Object storage unsigned name length' token ∷ items) zero x below same = rw same refl
objects-at (item.Constant unsigned name length' values braces token ∷ items) zero x below same = rw same refl
objects-at (item.Untrusted name token ∷ items) zero x below same = rw same refl
objects-at (item.Function private result name parameters body token ∷ items) zero x below same = rw same refl
objects-at (y ∷ items) (suc i) x below same = objects-at items i x (omega (arith, below)) same

pub objects-end : (items : List Item) (n : ℕ) → length items ≤ n → objects_in (drop n items) ≡ []
objects-end [] zero below = refl
objects-end [] (suc n) below = refl
objects-end (y ∷ items) zero below = absurd (omega (arith, below))
objects-end (y ∷ items) (suc n) below = objects-end items n (omega (arith, below))

pub parameters-at : (ps : List Parameter) (i : ℕ) (x : Parameter) → i < length ps → x ≡ slice_index_or ps i x →
    parameters_in (drop i ps) ≡ variable_of x.token None ∷ parameters_in (drop (suc i) ps)
parameters-at [] i x below same = absurd (omega (arith, below))
parameters-at (y ∷ ps) zero x below same = rw same refl
parameters-at (y ∷ ps) (suc i) x below same = parameters-at ps i x (omega (arith, below)) same

pub parameters-end : (ps : List Parameter) (n : ℕ) → length ps ≤ n → parameters_in (drop n ps) ≡ []
parameters-end [] zero below = refl
parameters-end [] (suc n) below = refl
parameters-end (y ∷ ps) zero below = absurd (omega (arith, below))
parameters-end (y ∷ ps) (suc n) below = parameters-end ps n (omega (arith, below))

pub parameters-declared-at : (ps : List Parameter) (i : ℕ) (x : Parameter) → i < length ps → x ≡ slice_index_or ps i x →
    parameters_of (drop i ps) ≡ parameter x ∷ parameters_of (drop (suc i) ps)
parameters-declared-at [] i x below same = absurd (omega (arith, below))
parameters-declared-at (y ∷ ps) zero x below same = rw same refl
parameters-declared-at (y ∷ ps) (suc i) x below same = parameters-declared-at ps i x (omega (arith, below)) same

pub parameters-declared-end : (ps : List Parameter) (n : ℕ) → length ps ≤ n → parameters_of (drop n ps) ≡ []
parameters-declared-end [] zero below = refl
parameters-declared-end [] (suc n) below = refl
parameters-declared-end (y ∷ ps) zero below = absurd (omega (arith, below))
parameters-declared-end (y ∷ ps) (suc n) below = parameters-declared-end ps n (omega (arith, below))

pub functions-snoc : (xs : List own.Function) (x : own.Function) → functions_of (xs ++ x ∷ []) ≡ functions_of xs ++ function_of x ∷ []
functions-snoc [] x = refl
functions-snoc (y ∷ xs) x = ap (λ fs. function_of y ∷ fs) (functions-snoc xs x)

pub functions-at : (fs : List ℕ) (items : List Item) (i : ℕ) (x : Item) (known : List Declaration) → i < length items → x ≡ slice_index_or items i x →
    functions_in fs (drop i items) known ≡ functions_in fs (x ∷ []) known ++ functions_in fs (drop (suc i) items) (known ++ declaration_of x ∷ [])
functions-at fs [] i x known below same = absurd (omega (arith, below))
functions-at fs (item.Object storage unsigned name length' token ∷ items) zero x known below same = rw same refl
functions-at fs (item.Constant unsigned name length' values braces token ∷ items) zero x known below same = rw same refl
functions-at fs (item.Untrusted name token ∷ items) zero x known below same = rw same refl
functions-at fs (item.Function private result name parameters body token ∷ items) zero x known below same = rw same refl
functions-at fs (y ∷ items) (suc i) x known below same = functions-at fs items i x known (omega (arith, below)) same

pub functions-end : (fs : List ℕ) (items : List Item) (n : ℕ) (known : List Declaration) → length items ≤ n → functions_in fs (drop n items) known ≡ []
functions-end fs [] zero known below = refl
functions-end fs [] (suc n) known below = refl
functions-end fs (y ∷ items) zero known below = absurd (omega (arith, below))
functions-end fs (y ∷ items) (suc n) known below = functions-end fs items n known (omega (arith, below))

pub declarations-at : (items : List Item) (i : ℕ) (x : Item) → i < length items → x ≡ slice_index_or items i x →
    declarations_of (drop i items) ≡ declaration_of x ∷ declarations_of (drop (suc i) items)
declarations-at [] i x below same = absurd (omega (arith, below))
declarations-at (y ∷ items) zero x below same = rw same refl
declarations-at (y ∷ items) (suc i) x below same = declarations-at items i x (omega (arith, below)) same

pub declarations-end : (items : List Item) (n : ℕ) → length items ≤ n → declarations_of (drop n items) ≡ []
declarations-end [] zero below = refl
declarations-end [] (suc n) below = refl
declarations-end (y ∷ items) zero below = absurd (omega (arith, below))
declarations-end (y ∷ items) (suc n) below = declarations-end items n (omega (arith, below))

pub ruleset alone = (append-nil)

pub ruleset tokens = (tokens-at, tokens-end, append_assoc, append-nil)

pub ruleset words = (words-at, words-end, append_assoc, append-nil)

pub ruleset objects = (objects-snoc, objects-at, objects-end, append_assoc, append-nil)

pub ruleset parameters = (parameters-at, parameters-end, parameters-declared-at, parameters-declared-end, append_assoc, append-nil)

pub ruleset functions = (functions-snoc, functions-at, functions-end, declarations-at, declarations-end, append_assoc, append-nil)
