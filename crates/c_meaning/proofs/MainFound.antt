-- Where each global name is declared once, the function `main` is found by its name.
use Rattle.std.proofs.Common.{◌≡◌, ◌∙◌, ap, subst, ℕ, ◌||◌, ◌&&◌, ◌==◌, Bool, not, true, false, cond, List, [], ◌∷◌, ◌++◌, length, codes, Some, None, refl}
use Rattle.std.specs.Str.{bytes_eq}
use Rattle.std.proofs.lemmas.Slice.Eq.{bytes_eq-Decides}
use Rattle.c_grammar.specs.declared.item.Item.{Item}
use Rattle.c_grammar.specs.declared.item.Item.TheVariants as item
use Rattle.c_grammar.specs.declared.item.Program.{Program}
use Rattle.c_scopes.specs.declared.declaration.Binding.{Binding}
use Rattle.c_scopes.specs.declared.declaration.Declaration.{Declaration}
use Rattle.c_types.specs.declared.site.Rule.{Rule}
use Rattle.c_types.specs.declared.site.Rule.TheVariants.{Twice}
use Rattle.c_types.specs.declared.site.Site.TheVariants as site
use Rattle.c_scopes.specs.Scopes.{declares, latest, first_some}
use Rattle.c_scopes.specs.Declarations.{declaration_of, declarations_of, item_name, token_of}
use Rattle.c_types.specs.Sites.{item_sites}
use Rattle.c_types.specs.TypingRules.{Breaks}
use Rattle.c_types.specs.TypingRules.Breaks.{twice_global}
use Rattle.c_types.specs.Checked.{KeepsRules, is_int, is_main}
use Rattle.c_resolver.specs.Resolving.{function_tokens, main_token, function_number}
use Rattle.c_meaning.specs.Mentions.{items_sites}
use Rattle.c_meaning.specs.FunctionNumbers.{MainIsFound}
use Rattle.c_meaning.proofs.MentionedExpressions.{Clean, clean-front, clean-back}
use Rattle.c_meaning.proofs.MentionedPrograms.{declarations-snoc, items-clean}

-- ---- each global name is declared once

abbrev Distinct : List Declaration → List Item → Type 0
Distinct known [] = Unit {0}
Distinct known (x ∷ xs) = (declares known (item_name x) ≡ false) × Distinct (known ++ declaration_of x ∷ []) xs

not-again : (number : ℕ) (again : Bool) (at : ℕ) → ((rule : Rule) → Breaks (site.Global number again at) rule → ⊥) → again ≡ false
not-again number true at fits = absurd (fits Twice (twice_global number at))
not-again number false at fits = refl

items-distinct : (before rest : List Item) → Clean (items_sites before rest) → Distinct (declarations_of before) rest
items-distinct before [] clean = tt
items-distinct before (x ∷ rest) clean = (
  not-again (length before) (declares (declarations_of before) (item_name x)) (token_of x) (clean-front (item_sites before x) (items_sites (before ++ x ∷ []) rest) clean).0,
  subst (λ ds. Distinct ds rest) (declarations-snoc before x)
      (items-distinct (before ++ x ∷ []) rest (clean-back (item_sites before x) (items_sites (before ++ x ∷ []) rest) clean)),
)

-- ---- so the name `main` is found

if_not_true : (b : Bool) → (b ≡ true → ⊥) → b ≡ false
if_not_true true fails = absurd (fails refl)
if_not_true false fails = refl

or_left : (a b : Bool) → a ≡ true → (a || b) ≡ true
or_left true b e = refl
or_left false b e = absurd (cc)

or_right : (a b : Bool) → b ≡ true → (a || b) ≡ true
or_right true b e = refl
or_right false b e = e

and_first : (a b c d : Bool) → (a && b && c && d) ≡ true → a ≡ true
and_first true b c d e = refl
and_first false b c d e = absurd (cc)

more-by_head : (a b c : Bool) → (b ≡ true → c ≡ true) → (a || b) ≡ true → (a || c) ≡ true
more-by_head true b c later e = refl
more-by_head false b c later e = later e

declares-more : (known more : List Declaration) (name : List ℕ) → declares known name ≡ true → declares (known ++ more) name ≡ true
declares-more [] more name held = absurd (cc)
declares-more (d ∷ known) more name held =
    more-by_head (bytes_eq d.name name) (declares known name) (declares (known ++ more) name) (λ e. declares-more known more name e) held

declares-last : (known : List Declaration) (d : Declaration) (name : List ℕ) → bytes_eq d.name name ≡ true → declares (known ++ d ∷ []) name ≡ true
declares-last [] d name same = or_left (bytes_eq d.name name) false same
declares-last (k ∷ known) d name same = or_right (bytes_eq k.name name) (declares (known ++ d ∷ []) name) (declares-last known d name same)

not-main : (known : List Declaration) (name : List ℕ) → declares known (codes "main") ≡ true → declares known name ≡ false → bytes_eq name (codes "main") ≡ false
not-main known name held free =
    if_not_true (bytes_eq name (codes "main")) (λ same. let e = ap (declares known) ((bytes_eq-Decides name (codes "main")).0 same) in absurd (cc))

none-later : (known : List Declaration) (rest : List Item) → declares known (codes "main") ≡ true → Distinct known rest → latest (declarations_of rest) (codes "main") ≡ None
none-later known [] held distinct = refl
none-later known (y ∷ rest) held distinct =
    ap (λ o. first_some o (cond (bytes_eq (item_name y) (codes "main")) (Some (declaration_of y).binding) None))
    (none-later (known ++ declaration_of y ∷ []) rest (declares-more known (declaration_of y ∷ []) (codes "main") held) distinct.1)
    ∙ ap (λ b. cond b (Some (declaration_of y).binding) None) (not-main known (item_name y) held distinct.0)

found : (known : List Declaration) (before after : List Item) (x : Item) → bytes_eq (item_name x) (codes "main") ≡ true → Distinct known (before ++ x ∷ after) →
    latest (declarations_of (before ++ x ∷ after)) (codes "main") ≡ Some (declaration_of x).binding
found known [] after x same distinct =
    ap (λ o. first_some o (cond (bytes_eq (item_name x) (codes "main")) (Some (declaration_of x).binding) None))
    (none-later (known ++ declaration_of x ∷ []) after (declares-last known (declaration_of x) (codes "main") same) distinct.1)
    ∙ ap (λ b. cond b (Some (declaration_of x).binding) None) same
found known (y ∷ before) after x same distinct =
    ap (λ o. first_some o (cond (bytes_eq (item_name y) (codes "main")) (Some (declaration_of y).binding) None))
    (found (known ++ declaration_of y ∷ []) before after x same distinct.1)

main_named : (x : Item) → is_main x ≡ true → bytes_eq (item_name x) (codes "main") ≡ true
main_named (item.Object storage unsigned name length' token) is = absurd (cc)
main_named (item.Constant unsigned name length' values braces token) is = absurd (cc)
main_named (item.Untrusted name token) is = absurd (cc)
main_named (item.Function private result name parameters body token) is = and_first (bytes_eq name (codes "main")) (is_int result) (length parameters == 0) (not private) is

token-found : (declared : List Declaration) (b : Binding) → latest declared (codes "main") ≡ Some b → main_token declared ≡ b.token
token-found declared b e = rw e refl

pub main_is_found : (p : Program) → KeepsRules p → MainIsFound p
main_is_found p keeps before after x all is =
    let distinct : Distinct [] (before ++ x ∷ after) = subst (Distinct []) all (items-distinct [] p.items (items-clean p keeps [] p.items refl)) in
    let e : latest (declarations_of p.items) (codes "main") ≡ Some (declaration_of x).binding =
    ap (λ items. latest (declarations_of items) (codes "main")) all ∙ found [] before after x (main_named x is) distinct in
    ap (function_number (function_tokens p.items)) (token-found (declarations_of p.items) (declaration_of x).binding e)
