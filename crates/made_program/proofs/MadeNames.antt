-- What the names in a made source stand for.
use Rattle.std.proofs.Common.{◌≡◌, ◌≢◌, ◌<◌, ◌≤◌, ◌||◌, ℕ, suc, Bool, true, false, cond, List, [], ◌∷◌, ◌++◌, Option, None, Some, refl, sym, ap, ◌∙◌, subst, ⊎_elim, arith}
use Rattle.std.specs.Prelude.{codes}
use Rattle.std.specs.Str.{bytes_eq}
use Rattle.std.specs.Str.Parse.{digits_value}
use Rattle.std.specs.Fmt.{decimal}
use Rattle.std.proofs.lemmas.Bool.{cases_Bool, cond-true, cond-false, cases_lt, or_from}
use Rattle.std.proofs.lemmas.Fmt.{decimal_is_IsNumeral}
use Rattle.std.proofs.lemmas.Slice.Eq.{bytes_eq-Decides}
use Rattle.regions.specs.declared.rights.Class.TheVariants as class
use Rattle.c_grammar.specs.declared.item.Kind3.TheVariants.{Int}
use Rattle.c_scopes.specs.declared.declaration.Binding.{Binding}
use Rattle.c_scopes.specs.declared.declaration.Declaration.{Declaration}
use Rattle.c_scopes.specs.declared.declaration.Entity.TheVariants.{Object, Function}
use Rattle.c_scopes.specs.Scopes.{first_some, latest, declares}
use Rattle.c_scopes.specs.Declarations.{declaration_of, declarations_of}
use Rattle.made_program.proofs.MadeItems.{function_item, function_name, head_items, later}

-- ---- the latest declaration

first_some-assoc : (x y z : Option Binding) → first_some (first_some x y) z ≡ first_some x (first_some y z)
first_some-assoc None y z = refl
first_some-assoc (Some b) y z = refl

abbrev hit : Declaration → List ℕ → Option Binding
hit d name = cond (bytes_eq d.name name) (Some d.binding) None

latest-snoc : (ds : List Declaration) (d : Declaration) (name : List ℕ) → latest (ds ++ d ∷ []) name ≡ first_some (hit d name) (latest ds name)
latest-snoc [] d name = last (hit d name)
  where
    last : (x : Option Binding) → first_some None x ≡ first_some x None
    last None = refl
    last (Some b) = refl
latest-snoc (e ∷ ds) d name = ap (λ x. first_some x (hit e name)) (latest-snoc ds d name) ∙ first_some-assoc (hit d name) (latest ds name) (hit e name)

-- a declaration of another name changes nothing, and one of the name is the latest
pub latest_kept : (ds : List Declaration) (d : Declaration) (name : List ℕ) → bytes_eq d.name name ≡ false → latest (ds ++ d ∷ []) name ≡ latest ds name
latest_kept ds d name other = latest-snoc ds d name ∙ ap (λ x. first_some x (latest ds name)) (cond-false (bytes_eq d.name name) (Some d.binding) None other)

pub latest_hit : (ds : List Declaration) (d : Declaration) (name : List ℕ) → bytes_eq d.name name ≡ true → latest (ds ++ d ∷ []) name ≡ Some d.binding
latest_hit ds d name same = latest-snoc ds d name ∙ ap (λ x. first_some x (latest ds name)) (cond-true (bytes_eq d.name name) (Some d.binding) None same)

pub declares_more : (ds : List Declaration) (d : Declaration) (name : List ℕ) → declares ds name ≡ false → bytes_eq d.name name ≡ false → declares (ds ++ d ∷ []) name ≡ false
declares_more [] d name none other = or_from _ _ other refl
declares_more (e ∷ ds) d name none other = go (bytes_eq e.name name) none (λ none. declares_more ds d name none other)
  where
    go : (b : Bool) → (b || declares ds name) ≡ false → (declares ds name ≡ false → declares (ds ++ d ∷ []) name ≡ false) → (b || declares (ds ++ d ∷ []) name) ≡ false
    go true none more = none
    go false none more = more none

-- ---- the names of functions

-- the numbers of functions have different texts
pub other_name : (j k : ℕ) → j < 48 → k < 48 → j ≢ k → bytes_eq (function_name j) (function_name k) ≡ false
other_name j k one two differ =
    ⊎_elim
    (λ (same : bytes_eq (function_name j) (function_name k) ≡ true).
    let names : function_name j ≡ function_name k = (bytes_eq-Decides (function_name j) (function_name k)).0 same in
    let texts : decimal j ≡ decimal k = cc in
    absurd (differ (sym (decimal_is_IsNumeral j (omega (arith, one))).1 ∙ ap (digits_value 10) texts ∙ (decimal_is_IsNumeral k (omega (arith, two))).1)))
    (λ (other : bytes_eq (function_name j) (function_name k) ≡ false). other)
    (cases_Bool (bytes_eq (function_name j) (function_name k)))

pub own_name : (k : ℕ) → bytes_eq (function_name k) (function_name k) ≡ true
own_name k = (bytes_eq-Decides (function_name k) (function_name k)).1 refl

-- ---- what is known before a function, or before `main`

abbrev pub bound_a : Binding
bound_a = record { token = 1; entity = Object class.Verified false (Some 256) }

abbrev pub bound_g : Binding
bound_g = record { token = 8; entity = Object class.Logged false (Some 64) }

-- a function that can be called: it stands before this token
pub record CanCall (known : List Declaration) (place k : ℕ) : Type 0 where
  pub binding : Binding
  pub found : latest known (function_name k) ≡ Some binding
  pub entity : binding.entity ≡ Function Int false 1
  pub before : binding.token < place

-- the arrays and the first functions, so many of them, are known before this token, and no other name
pub record Knows (known : List Declaration) (place count : ℕ) : Type 0 where
  pub a : latest known (codes "a") ≡ Some bound_a
  pub g : latest known (codes "g") ≡ Some bound_g
  pub functions : (k : ℕ) → k < count → CanCall known place k
  pub others : (k : ℕ) → count ≤ k → k < 48 → declares known (function_name k) ≡ false
  pub no_main : declares known (codes "main") ≡ false

-- the arrays alone
pub head_known : Knows (declarations_of head_items) 13 0
head_known = record {
  a = refl;
  g = refl;
  functions = λ k small. absurd (omega (arith, small));
  others = λ k above below. refl;
  no_main = refl;
}

-- one function more
pub one_known : (known : List Declaration) (place count : ℕ) → count < 48 → Knows known place count → Knows (known ++ declaration_of (function_item count place) ∷ []) (later 48 place) (suc count)
one_known known place count small knows =
    let d : Declaration = declaration_of (function_item count place) in
    record {
      a = latest_kept known d (codes "a") refl ∙ knows.a;
      g = latest_kept known d (codes "g") refl ∙ knows.g;
      functions = λ k below. ⊎_elim
          (λ (earlier : k < count).
          let can = knows.functions k earlier in
          record {
            binding = can.binding;
            found = latest_kept known d (function_name k) (other_name count k small (omega (arith, small, earlier)) (λ same. absurd (omega (arith, same, earlier)))) ∙ can.found;
            entity = can.entity;
            before = let early = can.before in omega (arith, early);
          })
          (λ (here : count ≤ k).
          let same : count ≡ k = omega (arith, here, below) in
          subst (λ k. CanCall (known ++ d ∷ []) (later 48 place) k) same (record {
            binding = d.binding;
            found = latest_hit known d (function_name count) (own_name count);
            entity = refl;
            before = omega arith;
          }))
          (cases_lt k count);
      others = λ k above below. declares_more known d (function_name k) (knows.others k (omega (arith, above)) below)
          (other_name count k small below (λ same. absurd (omega (arith, same, above))));
      no_main = declares_more known d (codes "main") knows.no_main refl;
    }
