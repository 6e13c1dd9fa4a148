-- Promise: which declaration a name stands for (ISO/IEC 9899, section 6.2.1). Declarations are listed in the order of the
-- source; of those that are known at a place, the latest of a name hides the earlier ones.
use Rattle.std.specs.Prelude.{ℕ, Bool, List, [], ◌∷◌, Option, Some, None, if◌then◌else◌, drop}
use Rattle.std.specs.List.{list_any}
use Rattle.std.specs.Str.{bytes_eq}
use Rattle.c_scopes.specs.declared.declaration.Binding.{Binding}
use Rattle.c_scopes.specs.declared.declaration.Declaration.{Declaration}

-- the first, or else the second
abbrev pub first_some : {A : Type 0} → Option A → Option A → Option A
first_some (Some x) other = Some x
first_some None other = other

-- what a name is bound to: the latest declaration of it
abbrev pub latest : List Declaration → List ℕ → Option Binding
latest [] name = None
latest (d ∷ ds) name = first_some (latest ds name) (if bytes_eq d.name name then Some d.binding else None)

-- whether a name is declared among these
abbrev pub declares : List Declaration → List ℕ → Bool
declares ds name = list_any (λ d. bytes_eq d.name name) ds

-- the declarations that are known at a place, and how many of them were known where its scope began: the others are
-- those of its scope
pub record Scope : Type 0 where
  pub known : List Declaration
  pub start : ℕ

-- the scope has declared the name already
abbrev pub is_again : Scope → List ℕ → Bool
is_again scope name = declares (drop scope.start scope.known) name
