-- The functions and objects of a resolved program are those that are listed.
use Rattle.std.proofs.Common.{◌≡◌, ◌∙◌, ap, ℕ, suc, List, [], ◌∷◌, ◌++◌, length, map, Some, refl}
use Rattle.regions.specs.declared.rights.Class.TheVariants.{Constant}
use Rattle.c_grammar.specs.declared.item.Parameter.{Parameter}
use Rattle.c_grammar.specs.declared.item.Item.{Item}
use Rattle.c_grammar.specs.declared.item.Item.TheVariants as item
use Rattle.c_grammar.specs.declared.item.Program.{Program}
use Rattle.c_scopes.specs.declared.declaration.Declaration.{Declaration}
use Rattle.c_scopes.specs.Declarations.{class_of, declaration_of}
use Rattle.c_types.specs.Checked.{listed_functions, listed_objects}
use Rattle.c_resolver.specs.Resolving.{functions_in, function_tokens, objects_in}
use Rattle.c_resolver.specs.ResolvingViews.{parameters_in}
use Rattle.c_meaning.specs.FunctionNumbers.{FunctionsListed, ObjectsListed, listed_kept, listed_shape, resolved_kept, resolved_shape, trusted}

pub parameters-length : (ps : List Parameter) → length (parameters_in ps) ≡ length ps
parameters-length [] = refl
parameters-length (p ∷ ps) = ap suc (parameters-length ps)

functions-listed : (fs : List ℕ) (items : List Item) (known : List Declaration) →
    map resolved_shape (functions_in fs items known) ≡ map listed_shape (trusted (listed_functions items))
functions-listed fs [] known = refl
functions-listed fs (item.Object storage unsigned name length' token ∷ items) known =
    functions-listed fs items (known ++ declaration_of (item.Object storage unsigned name length' token) ∷ [])
functions-listed fs (item.Constant unsigned name length' values braces token ∷ items) known =
    functions-listed fs items (known ++ declaration_of (item.Constant unsigned name length' values braces token) ∷ [])
functions-listed fs (item.Untrusted name token ∷ items) known =
    functions-listed fs items (known ++ declaration_of (item.Untrusted name token) ∷ [])
functions-listed fs (item.Function private result name parameters body token ∷ items) known =
    ap (λ n. record { private = private; parameters = n } ∷ map resolved_shape (functions_in fs items (known ++ declaration_of (item.Function private result name parameters body token) ∷ [])))
    (parameters-length parameters)
    ∙ ap (λ shapes. record { private = private; parameters = length parameters } ∷ shapes)
    (functions-listed fs items (known ++ declaration_of (item.Function private result name parameters body token) ∷ []))

pub functions_listed : (p : Program) → FunctionsListed p
functions_listed p = functions-listed (function_tokens p.items) p.items []

objects-listed : (items : List Item) → map resolved_kept (objects_in items) ≡ map listed_kept (listed_objects items)
objects-listed [] = refl
objects-listed (item.Object storage unsigned name length' token ∷ items) =
    ap (λ os. record { class = Some (class_of storage); length = length' } ∷ os) (objects-listed items)
objects-listed (item.Constant unsigned name length' values braces token ∷ items) =
    ap (λ os. record { class = Some Constant; length = length' } ∷ os) (objects-listed items)
objects-listed (item.Untrusted name token ∷ items) = objects-listed items
objects-listed (item.Function private result name parameters body token ∷ items) = objects-listed items

pub objects_listed : (p : Program) → ObjectsListed p
objects_listed p = objects-listed p.items

-- as many functions have numbers as are listed without the untrusted code
pub tokens-counted : (items : List Item) → length (function_tokens items) ≡ length (trusted (listed_functions items))
tokens-counted [] = refl
tokens-counted (item.Object storage unsigned name length' token ∷ items) = tokens-counted items
tokens-counted (item.Constant unsigned name length' values braces token ∷ items) = tokens-counted items
tokens-counted (item.Untrusted name token ∷ items) = tokens-counted items
tokens-counted (item.Function private result name parameters body token ∷ items) = ap suc (tokens-counted items)
