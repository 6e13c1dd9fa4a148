-- Device: how declarations in scope are kept, so that a name is found in one look-up.
use Rattle.std.specs.Prelude.{◌≡◌, ℕ, ◌+◌, ◌-◌, Bool, List, [], ◌∷◌, ◌++◌, length, slice_get, Option, Some, None, unwrap_or, if◌then◌else◌}
use Rattle.std.specs.Str.{bytes_eq}
use Rattle.std.specs.HashMap.{HashMap, get}
use Rattle.aegis_num.specs.contracts.name.NamePartialEq.TheImpl.{eq-value}
use Rattle.c_scopes.specs.declared.declaration.Declaration.{Declaration}
use Rattle.c_scopes.specs.declared.names.Known.{Known}
use Rattle.c_scopes.specs.Scopes.{first_some}

-- the latest declaration of a name, with its number, where the first has this one
unfoldable pub found : ℕ → List Declaration → List ℕ → Option Known
found place [] name = None
found place (d ∷ ds) name =
    first_some (found (place + 1) ds name) (if bytes_eq d.name name then Some (record { binding = d.binding; place = place }) else None)

-- what each of these declarations hides, where the others stand before them
unfoldable pub hidden_after : List Declaration → List Declaration → List (Option Known)
hidden_after before [] = []
hidden_after before (d ∷ ds) = found 0 before d.name ∷ hidden_after (before ++ d ∷ []) ds

-- whether the map takes two names for one
abbrev pub name_eq : List ℕ → List ℕ → Bool
name_eq = eq-value.it

-- the map finds the latest declaration of each name, and the list has what each declaration hides
pub record IsKept {S : Type 0} (known : HashMap (List ℕ) Known S) (declared : List Declaration) (hidden : List (Option Known)) : Type 0 where
  pub finds : (name : List ℕ) → get name_eq known name ≡ found 0 declared name
  pub hides : hidden ≡ hidden_after [] declared

-- what the last declaration hides, if there is one
abbrev pub last_hidden : List (Option Known) → Option Known
last_hidden hidden = unwrap_or (slice_get hidden (length hidden - 1)) None
