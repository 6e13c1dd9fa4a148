-- One more parameter, and one more item.
use Rattle.std.proofs.Common.{◌≡◌, ◌∙◌, ap, sym, ℕ, ◌+◌, ◌<◌, suc, List, [], ◌∷◌, ◌++◌, length, drop, get_or, add-one, drop-cons, append_assoc}
use Rattle.c_grammar.specs.declared.item.Parameter.{Parameter}
use Rattle.c_grammar.specs.declared.item.Item.{Item}
use Rattle.c_scopes.specs.declared.declaration.Declaration.{Declaration}
use Rattle.c_types.specs.declared.site.Site.TheVariants as site
use Rattle.c_types.specs.declared.verdict.Verdict.{Verdict}
use Rattle.c_scopes.specs.Scopes.{is_again}
use Rattle.c_scopes.specs.Declarations.{parameter, parameters_of, declaration_of}
use Rattle.c_types.specs.Sites.{Place, place_after, parameter_sites, global_sites}
use Rattle.c_types.specs.Verdicts.{note, noted, afresh}
use Rattle.c_types.specs.Walks.{items_noted}

next : {A : Type 0} (xs : List A) (i : ℕ) (x : A) → i < length xs → x ≡ get_or xs i x → drop i xs ≡ x ∷ drop (i + 1) xs
next xs i x within is = rw add-one (drop-cons xs i x within ∙ ap (λ y. y ∷ drop (suc i) xs) (sym is))

pub parameters_step : (names : List Declaration) (ps : List Parameter) (i : ℕ) (p : Parameter) → i < length ps → p ≡ get_or ps i p →
    names ++ parameter p ∷ [] ++ parameters_of (drop (i + 1) ps) ≡ names ++ parameters_of (drop i ps)
parameters_step names ps i p within is =
    rw (next ps i p within is) (append_assoc names (parameter p ∷ []) (parameters_of (drop (i + 1) ps)))

pub parameter_step : (v : Verdict) (ps : List Parameter) (i : ℕ) (p : Parameter) (place : Place) → i < length ps → p ≡ get_or ps i p →
    noted (note v (site.Parameter i (is_again place.scope p.name) p.token)) (parameter_sites (i + 1) (drop (i + 1) ps) (place_after (parameter p ∷ []) place))
    ≡ noted v (parameter_sites i (drop i ps) place)
parameter_step v ps i p place within is = sym (ap (λ xs. noted v (parameter_sites i xs place)) (next ps i p within is))

pub global_step : (v : Verdict) (items : List Item) (i : ℕ) (item : Item) (known : List Declaration) → i < length items → item ≡ get_or items i item →
    items_noted (i + 1) (known ++ declaration_of item ∷ []) (drop (i + 1) items) (noted (afresh v) (global_sites i known item))
    ≡ items_noted i known (drop i items) v
global_step v items i item known within is = sym (ap (λ xs. items_noted i known xs v) (next items i item within is))
