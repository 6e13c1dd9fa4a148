-- Promise: the numbers of functions. They count the functions of the source from 0, and untrusted code has none.
use Rattle.std.specs.Prelude.{◌≡◌, ℕ, Bool, true, cond, List, [], ◌∷◌, ◌++◌, length, map, Option, Some}
use Rattle.std.specs.List.{slice_get}
use Rattle.regions.specs.declared.rights.Class.{Class}
use Rattle.c_grammar.specs.declared.stmt.Stmt.{Stmt}
use Rattle.c_grammar.specs.declared.item.Kind3.{Kind3}
use Rattle.c_grammar.specs.declared.item.Parameter.{Parameter}
use Rattle.c_grammar.specs.declared.item.Item.{Item}
use Rattle.c_grammar.specs.declared.item.Item.TheVariants as item
use Rattle.c_grammar.specs.declared.item.Program.{Program}
use Rattle.c_scopes.specs.Declarations.{declaration_of, declarations_of, token_of}
use Rattle.c_types.specs.declared.checked.Function.{Function}
use Rattle.c_types.specs.declared.checked.Object.{Object}
use Rattle.c_types.specs.Checked.{is_main, listed_functions, listed_objects}
use Rattle.c_semantics.specs.ResolvedTree as Tree
use Rattle.c_resolver.specs.Resolving.{function_in, function_tokens, function_number, plain_program}

-- The number of a function leads to its own parameters and body, where its own name and the items before it are known.
abbrev pub NumbersLead : Program → Type 0
NumbersLead p =
    (before after : List Item) (private : Bool) (result : Kind3) (name : List ℕ) (parameters : List Parameter) (body : List Stmt) (token : ℕ) →
    p.items ≡ before ++ item.Function private result name parameters body token ∷ after →
    slice_get (plain_program p).functions (function_number (function_tokens p.items) token)
    ≡ Some (function_in (function_tokens p.items) private parameters body
    (declarations_of before ++ declaration_of (item.Function private result name parameters body token) ∷ []))

-- A run starts with the function that the typing rules take for `main`.
abbrev pub MainIsFound : Program → Type 0
MainIsFound p = (before after : List Item) (x : Item) → p.items ≡ before ++ x ∷ after → is_main x ≡ true →
    (plain_program p).main ≡ function_number (function_tokens p.items) (token_of x)

-- the functions without the untrusted code
abbrev pub trusted : List Function → List Function
trusted [] = []
trusted (f ∷ fs) = cond f.untrusted (trusted fs) (f ∷ trusted fs)

-- The number of a function is how many functions, without the untrusted code, are listed before it.
abbrev pub NumbersCount : Program → Type 0
NumbersCount p =
    (before after : List Item) (private : Bool) (result : Kind3) (name : List ℕ) (parameters : List Parameter) (body : List Stmt) (token : ℕ) →
    p.items ≡ before ++ item.Function private result name parameters body token ∷ after →
    function_number (function_tokens p.items) token ≡ length (trusted (listed_functions before))

-- what calls of a function see: whether it is private, and how many parameters it has
pub record Shape : Type 0 where
  pub private : Bool
  pub parameters : ℕ

abbrev pub listed_shape : Function → Shape
listed_shape f = record { private = f.private; parameters = f.parameters }

abbrev pub resolved_shape : Tree.Function → Shape
resolved_shape f = record { private = f.private; parameters = length f.parameters }

-- The functions of the resolved program are the listed ones without the untrusted code, in order.
abbrev pub FunctionsListed : Program → Type 0
FunctionsListed p = map resolved_shape (plain_program p).functions ≡ map listed_shape (trusted (listed_functions p.items))

-- how an object is kept, and its length, if it is an array
pub record Keeping : Type 0 where
  pub class : Option Class
  pub length : Option ℕ

abbrev pub listed_kept : Object → Keeping
listed_kept o = record { class = Some o.class; length = o.length }

abbrev pub resolved_kept : Tree.Object → Keeping
resolved_kept o = record { class = o.variable.class; length = o.length }

-- The objects of the resolved program are the listed ones, in order.
abbrev pub ObjectsListed : Program → Type 0
ObjectsListed p = map resolved_kept (plain_program p).objects ≡ map listed_kept (listed_objects p.items)
