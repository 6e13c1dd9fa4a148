-- Promise: what is known of a program that keeps the typing rules, and why one is refused.
use Rattle.std.specs.Prelude.{◌≡◌, ℕ, ◌≤◌, Bool, true, false, not, ◌&&◌, ◌==◌, List, length, codes, Option, Some, None}
use Rattle.std.specs.Str.{bytes_eq}
use Rattle.std.specs.List.{list_any, filter_map}
use Rattle.aegis_num.specs.declared.limits.TheConstants.{MAX_SOURCE_BYTES, MAX_PARAMETERS}
use Rattle.c_token.specs.declared.kinds.Kind.{Kind}
use Rattle.regions.specs.declared.rights.Class.TheVariants as class
use Rattle.c_grammar.specs.declared.item.Kind3.{Kind3}
use Rattle.c_grammar.specs.declared.item.Kind3.TheVariants.{Int, Void}
use Rattle.c_grammar.specs.declared.item.Item.{Item}
use Rattle.c_grammar.specs.declared.item.Item.TheVariants as item
use Rattle.c_grammar.specs.declared.item.Program.{Program}
use Rattle.c_grammar.specs.TokenPrograms.{AreProgram}
use Rattle.c_types.specs.declared.error.TypeError.{TypeError}
use Rattle.c_types.specs.declared.error.TypeError.TheVariants as error
use Rattle.c_types.specs.declared.site.Rule.{Rule}
use Rattle.c_types.specs.declared.site.Rule.TheVariants as rule
use Rattle.c_types.specs.declared.checked.Object.{Object}
use Rattle.c_types.specs.declared.checked.Function.{Function}
use Rattle.c_scopes.specs.Declarations.{class_of}
use Rattle.c_types.specs.TypingRules.{Violates, IsFirst}

-- the grammar gives the program to some tokens, at most as many as a source has bytes, and no level is above the limit
abbrev pub IsReadProgram : Program → Type 0
IsReadProgram p = (kinds : List Kind) × (length kinds ≤ MAX_SOURCE_BYTES) × AreProgram kinds p

-- no rule is broken
abbrev pub KeepsRules : Program → Type 0
KeepsRules p = (at : ℕ) (rule : Rule) → Violates p at rule → ⊥

abbrev pub is_int : Kind3 → Bool
is_int Int = true
is_int other = false

-- a function `main` that answers int, takes nothing and is not private
abbrev pub is_main : Item → Bool
is_main (item.Function private result name parameters body token) =
    bytes_eq name (codes "main") && is_int result && (length parameters == 0) && not private
is_main other = false

abbrev pub has_main : List Item → Bool
has_main items = list_any is_main items

-- the program keeps the typing rules, and has such a `main`
pub record IsTyped (p : Program) : Type 0 where
  pub rules : KeepsRules p
  pub main : has_main p.items ≡ true

-- an object or a constant
abbrev pub listed_object : Item → Option Object
listed_object (item.Object storage unsigned name length token) =
    Some (record { name = name; class = class_of storage; unsigned = unsigned; length = length })
listed_object (item.Constant unsigned name length values braces token) =
    Some (record { name = name; class = class.Constant; unsigned = unsigned; length = length })
listed_object other = None

-- the objects and constants of items, in order
abbrev pub listed_objects : List Item → List Object
listed_objects items = filter_map listed_object items

-- a function
abbrev pub listed_function : Item → Option Function
listed_function (item.Untrusted name token) =
    Some (record { name = name; private = false; untrusted = true; result = Void; parameters = 0 })
listed_function (item.Function private result name parameters body token) =
    Some (record { name = name; private = private; untrusted = false; result = result; parameters = length parameters })
listed_function other = None

-- the functions of items, in order
abbrev pub listed_functions : List Item → List Function
listed_functions items = filter_map listed_function items

-- a function has no more parameters than the limit
abbrev pub HasFewParameters : Item → Type 0
HasFewParameters (item.Function private result name parameters body token) = length parameters ≤ MAX_PARAMETERS
HasFewParameters other = Unit {0}

-- the error of a rule that is broken at a token
abbrev pub error_at : ℕ → Rule → TypeError
error_at at rule.Unknown = error.Unknown at
error_at at rule.Twice = error.Twice at
error_at at rule.Recursive = error.Recursive at
error_at at rule.Class = error.Class at
error_at at rule.Shape = error.Shape at
error_at at rule.Arity = error.Arity at
error_at at rule.TooLong = error.TooLong at
error_at at rule.TooMany = error.TooMany at

-- Why a program is refused: its first violation, or no `main`. Of want of memory nothing is said.
abbrev pub IsRefusedByTypes : Program → TypeError → Type 0
IsRefusedByTypes p (error.Unknown at) = IsFirst p at rule.Unknown
IsRefusedByTypes p (error.Twice at) = IsFirst p at rule.Twice
IsRefusedByTypes p (error.Recursive at) = IsFirst p at rule.Recursive
IsRefusedByTypes p (error.Class at) = IsFirst p at rule.Class
IsRefusedByTypes p (error.Shape at) = IsFirst p at rule.Shape
IsRefusedByTypes p (error.Arity at) = IsFirst p at rule.Arity
IsRefusedByTypes p (error.TooLong at) = IsFirst p at rule.TooLong
IsRefusedByTypes p (error.TooMany at) = IsFirst p at rule.TooMany
IsRefusedByTypes p error.NoMain = KeepsRules p × (has_main p.items ≡ false)
IsRefusedByTypes p error.OutOfMemory = Unit {0}
