-- What follows of the first violation, and of none.
use Rattle.std.proofs.Common.{◌≡◌, ◌∙◌, ap, sym, ℕ, ◌+◌, ◌<◌, ◌≤◌, ◌⊎◌, inl, inr, zero, suc, Bool, List, [], ◌∷◌, ◌++◌, length, refl, arith, All, append_assoc}
use Rattle.std.proofs.lemmas.List.Elements.{All-cons}
use Rattle.c_grammar.specs.declared.item.Kind3.{Kind3}
use Rattle.c_grammar.specs.declared.item.Parameter.{Parameter}
use Rattle.c_grammar.specs.declared.item.Item.{Item}
use Rattle.c_grammar.specs.declared.item.Item.TheVariants as item
use Rattle.c_grammar.specs.declared.item.Program.{Program}
use Rattle.c_grammar.specs.declared.stmt.Stmt.{Stmt}
use Rattle.c_types.specs.declared.site.Rule.{Rule}
use Rattle.c_types.specs.declared.site.Rule.TheVariants.{Unknown, Twice, Recursive, Class, Shape, Arity, TooLong, TooMany}
use Rattle.c_types.specs.declared.site.Site.{Site}
use Rattle.c_types.specs.declared.site.Site.TheVariants as site
use Rattle.c_scopes.specs.Scopes.{is_again, declares}
use Rattle.c_scopes.specs.Declarations.{parameter, parameters_of, declaration_of, declarations_of}
use Rattle.c_types.specs.Sites.{Place, place_after, parameter_sites, in_function, item_sites}
use Rattle.c_types.specs.Walks.{body_sites}
use Rattle.c_types.specs.TypingRules.{IsFirst}
use Rattle.c_types.specs.TypingRules.Violates.{by_site}
use Rattle.c_types.specs.TypingRules.Breaks.{parameter_too_many}
use Rattle.c_types.specs.Checked.{KeepsRules, IsRefusedByTypes, error_at, HasFewParameters}

le_or_lt : (m n : ℕ) → (m ≤ n) ⊎ (n < m)
le_or_lt m n = grind arith

pub refused_by : (p : Program) (at : ℕ) (rule : Rule) → IsFirst p at rule → IsRefusedByTypes p (error_at at rule)
refused_by p at Unknown first = first
refused_by p at Twice first = first
refused_by p at Recursive first = first
refused_by p at Class first = first
refused_by p at Shape first = first
refused_by p at Arity first = first
refused_by p at TooLong first = first
refused_by p at TooMany first = first

-- the site of a parameter that has so many before it
record HasParameter (sites : List Site) (number : ℕ) : Type 0 where
  front : List Site
  back : List Site
  again : Bool
  at : ℕ
  all : sites ≡ front ++ site.Parameter number again at ∷ back

parameter_at : (i k n : ℕ) (ps : List Parameter) (place : Place) → i < length ps → n ≡ k + i → HasParameter (parameter_sites k ps place) n
parameter_at i k n [] place long is = absurd (omega arith)
parameter_at zero k n (p ∷ ps) place long is =
    let same : n ≡ k = omega arith in
    record {
      front = [];
      back = parameter_sites (k + 1) ps (place_after (parameter p ∷ []) place);
      again = is_again place.scope p.name;
      at = p.token;
      all = rw same refl;
    }
parameter_at (suc i) k n (p ∷ ps) place long is =
    let rest = parameter_at i (k + 1) n ps (place_after (parameter p ∷ []) place) (omega arith) (omega arith) in
    record {
      front = site.Parameter k (is_again place.scope p.name) p.token ∷ rest.front;
      back = rest.back;
      again = rest.again;
      at = rest.at;
      all = ap (λ xs. site.Parameter k (is_again place.scope p.name) p.token ∷ xs) rest.all;
    }

-- a seventh parameter is a violation
seventh : (p : Program) (before after : List Item) (private : Bool) (result : Kind3) (name : List ℕ) (ps : List Parameter) (body : List Stmt) (token : ℕ) →
    p.items ≡ before ++ item.Function private result name ps body token ∷ after → 6 < length ps → KeepsRules p → ⊥
seventh p before after private result name ps body token all long keeps =
    let function = item.Function private result name ps body token in
    let known = declarations_of before ++ declaration_of function ∷ [] in
    let place = in_function known (record { private = private; result = result; token = token }) in
    let has = parameter_at 6 0 6 ps place long refl in
    let rest = body_sites body (place_after (parameters_of ps) place) in
    let global = site.Global (length before) (declares (declarations_of before) name) token in
    let sites : item_sites before function ≡ (global ∷ has.front) ++ site.Parameter 6 has.again has.at ∷ (has.back ++ rest) =
    ap (λ xs. global ∷ xs) (ap (λ xs. xs ++ rest) has.all ∙ append_assoc has.front (site.Parameter 6 has.again has.at ∷ has.back) rest) in
    keeps has.at TooMany
    (by_site before function (global ∷ has.front) (site.Parameter 6 has.again has.at) (record { after = after; all = all })
    (record { back = has.back ++ rest; all = sites }) refl (parameter_too_many 6 has.at has.again refl))

pub few : (p : Program) (before after : List Item) (x : Item) → p.items ≡ before ++ x ∷ after → KeepsRules p → HasFewParameters x
few p before after (item.Object storage unsigned name length token) all keeps = tt
few p before after (item.Constant unsigned name length values braces token) all keeps = tt
few p before after (item.Untrusted name token) all keeps = tt
few p before after (item.Function private result name ps body token) all keeps =
    elim (le_or_lt (length ps) 6) [
      | inl h ↦ h
      | inr h ↦ absurd (seventh p before after private result name ps body token all h keeps)
    ]

all_few : (p : Program) (before items : List Item) → p.items ≡ before ++ items → KeepsRules p → All HasFewParameters items
all_few p before [] all keeps = λ k d within. absurd (omega arith)
all_few p before (x ∷ items) all keeps =
    All-cons HasFewParameters x items (few p before items x all keeps)
    (all_few p (before ++ x ∷ []) items (all ∙ sym (append_assoc before (x ∷ []) items)) keeps)

pub few_parameters : (p : Program) → KeepsRules p → All HasFewParameters p.items
few_parameters p keeps = all_few p [] p.items refl keeps
