-- What a walk finds is the first violation.
use Rattle.std.proofs.Common.{◌≡◌, ◌≢◌, ◌⊎◌, inl, inr, ◌∙◌, ap, sym, subst, ℕ, ◌+◌, ◌<◌, ◌≤◌, Bool, true, false, cond, not, ◌&&◌, ◌||◌, ◌==◌, List, [], ◌∷◌, ◌++◌, length, Option, Some, None, refl, arith, min, append_assoc, append-nil, length-append}
use Rattle.std.specs.Prelude.{nat_lt, count_by, fold}
use Rattle.std.proofs.lemmas.Bool.Decides.{nat_tests}
use Rattle.c_grammar.specs.declared.item.Kind3.{Kind3}
use Rattle.c_grammar.specs.declared.item.Kind3.TheVariants.{Int, Unsigned, Void}
use Rattle.c_grammar.specs.declared.item.Item.{Item}
use Rattle.c_grammar.specs.declared.item.Program.{Program}
use Rattle.c_scopes.specs.declared.declaration.Binding.{Binding}
use Rattle.c_types.specs.declared.site.Home.{Home}
use Rattle.c_types.specs.declared.site.How.{How}
use Rattle.c_types.specs.declared.site.Rule.{Rule}
use Rattle.c_types.specs.declared.site.Rule.TheVariants.{Unknown, Twice, Recursive, Class, Shape, Arity, TooLong, TooMany}
use Rattle.c_types.specs.declared.site.Site.{Site}
use Rattle.c_types.specs.declared.site.Site.TheVariants as site
use Rattle.c_types.specs.declared.verdict.Fault.{Fault}
use Rattle.c_types.specs.declared.verdict.Verdict.{Verdict}
use Rattle.c_types.specs.TypingRules.{is_call, is_assignment, is_constant, is_private_object, is_void, fits, is_counted, Breaks, Stands, Violates, IsFirst, at_token, is_local, rule_order}
use Rattle.c_types.specs.TypingRules.Breaks.{unknown, twice_local, twice_parameter, twice_global, self_call, constant_assigned, private_outside, misused, list_for_scalar, value_for_array, values_too_many, value_returned, nothing_returned, outside_loop, miscounted, no_elements, too_long, global_too_many, parameter_too_many}
use Rattle.c_types.specs.Verdicts.{is_barred, known_rule, use_rule, name_rule, shape_rule, misgiven, misreturns, site_rule, one_more, is_sooner, sooner, with_rule, note, noted, afresh}
use Rattle.c_scopes.specs.Declarations.{declaration_of, declarations_of}
use Rattle.c_types.specs.Sites.{ItemFollows, item_sites}
use Rattle.c_types.specs.Walks.{items_noted}
use Rattle.c_types.specs.Walks.{start, first_fault_of}
use Rattle.c_types.specs.Checked.{KeepsRules}
use Rattle.c_types.specs.TypingRules.Violates.{by_site, local_too_many}
use Rattle.c_types.proofs.Noted.{noted_append}

-- ---- at one site

-- a rule that stands no later is told
abbrev Tells : Option Rule → Rule → Type 0
Tells None rule = ⊥
Tells (Some told) rule = rule_order told ≤ rule_order rule

-- the tests in turn
known_tests : (a b c d : Bool) → Option Rule
known_tests a b c d = cond a (Some Recursive) (cond b (Some Class) (cond c (Some Shape) (cond d (Some Arity) None)))

recursive_told : (a b c d : Bool) → a ≡ true → Tells (cond a (Some Recursive) (cond b (Some Class) (cond c (Some Shape) (cond d (Some Arity) None)))) Recursive
recursive_told true b c d e = omega arith
recursive_told false b c d e = absurd (cc)

class_told : (a b c d : Bool) → b ≡ true → Tells (cond a (Some Recursive) (cond b (Some Class) (cond c (Some Shape) (cond d (Some Arity) None)))) Class
class_told true b c d e = omega arith
class_told false true c d e = omega arith
class_told false false c d e = absurd (cc)

shape_told : (a b c d : Bool) → c ≡ true → Tells (cond a (Some Recursive) (cond b (Some Class) (cond c (Some Shape) (cond d (Some Arity) None)))) Shape
shape_told true b c d e = omega arith
shape_told false true c d e = omega arith
shape_told false false true d e = omega arith
shape_told false false false d e = absurd (cc)

arity_told : (a b c d : Bool) → d ≡ true → Tells (cond a (Some Recursive) (cond b (Some Class) (cond c (Some Shape) (cond d (Some Arity) None)))) Arity
arity_told true b c d e = omega arith
arity_told false true c d e = omega arith
arity_told false false true d e = omega arith
arity_told false false false true e = omega arith
arity_told false false false false e = absurd (cc)

or_true : (a b : Bool) → b ≡ true → (a || b) ≡ true
or_true true b e = refl
or_true false b e = e

and_true : (a b : Bool) → a ≡ true → b ≡ true → (a && b) ≡ true
and_true true b h e = e
and_true false b h e = absurd (cc)

is_same : (m n : ℕ) → m ≡ n → (m == n) ≡ true
is_same m n e = grind (arith, nat_tests)

barred_left : (a b c d : Bool) → a ≡ true → b ≡ true → ((a && b) || (c && d)) ≡ true
barred_left true true c d h e = refl
barred_left true false c d h e = absurd (cc)
barred_left false b c d h e = absurd (cc)

barred_right : (a b c d : Bool) → c ≡ true → d ≡ false → ((a && b) || (c && not d)) ≡ true
barred_right a b c d h e = or_true (a && b) (c && not d) (and_true c (not d) h (ap not e))

return_misfit : (result : Kind3) → is_void result ≡ false → misreturns result false ≡ true
return_misfit Int e = refl
return_misfit Unsigned e = refl
return_misfit Void e = absurd (cc)

name_told : (again many : Bool) → many ≡ true → Tells (name_rule again many) TooMany
name_told true many e = omega arith
name_told false true e = omega arith
name_told false false e = absurd (cc)

shape_is_told : (misfit : Bool) → misfit ≡ true → Tells (shape_rule misfit) Shape
shape_is_told true e = omega arith
shape_is_told false e = absurd (cc)

length_told : (a b : Bool) → (a || b) ≡ true → Tells (cond (a || b) (Some TooLong) None) TooLong
length_told true b e = omega arith
length_told false true e = omega arith
length_told false false e = absurd (cc)

given_misfit : (braces : Bool) (length values : ℕ) → length < values → (not braces || nat_lt length values) ≡ true
given_misfit true length values e = grind (arith, nat_tests)
given_misfit false length values e = refl

-- a rule that is broken at a site is told, or one that stands before it
breaks_told : (locals : ℕ) (s : Site) (rule : Rule) → Breaks s rule → Tells (site_rule locals s) rule
breaks_told locals _ _ (unknown how home at) = omega arith
breaks_told locals _ _ (twice_local at) = omega arith
breaks_told locals _ _ (twice_parameter number at) = omega arith
breaks_told locals _ _ (twice_global number at) = omega arith
breaks_told locals _ _ (self_call how d home at call same) =
    recursive_told (is_call how && (d.token == home.token)) (is_barred how d.entity home) (not (fits how d.entity)) (not (is_counted how d.entity))
    (and_true (is_call how) (d.token == home.token) call (is_same d.token home.token same))
breaks_told locals _ _ (constant_assigned how d home at assigned constant) =
    class_told (is_call how && (d.token == home.token)) (is_barred how d.entity home) (not (fits how d.entity)) (not (is_counted how d.entity))
    (barred_left (is_assignment how) (is_constant d.entity) (is_private_object d.entity) (not home.private) assigned constant)
breaks_told locals _ _ (private_outside how d home at private outside) =
    class_told (is_call how && (d.token == home.token)) (is_barred how d.entity home) (not (fits how d.entity)) (not (is_counted how d.entity))
    (barred_right (is_assignment how) (is_constant d.entity) (is_private_object d.entity) home.private private outside)
breaks_told locals _ _ (misused how d home at misfit) =
    shape_told (is_call how && (d.token == home.token)) (is_barred how d.entity home) (not (fits how d.entity)) (not (is_counted how d.entity)) (ap not misfit)
breaks_told locals _ _ (list_for_scalar values at) = omega arith
breaks_told locals _ _ (value_for_array length values at) = omega arith
breaks_told locals _ _ (values_too_many length values at braces more) =
    shape_is_told (not braces || nat_lt length values) (given_misfit braces length values more)
breaks_told locals _ _ (value_returned at) = omega arith
breaks_told locals _ _ (nothing_returned result at void) = shape_is_told (misreturns result false) (return_misfit result void)
breaks_told locals _ _ (outside_loop at) = omega arith
breaks_told locals _ _ (miscounted how d home at differ) =
    arity_told (is_call how && (d.token == home.token)) (is_barred how d.entity home) (not (fits how d.entity)) (not (is_counted how d.entity)) (ap not differ)
breaks_told locals _ _ (no_elements length at zero) = length_told (length == 0) (nat_lt 65536 length) (rw (is_same length 0 zero) refl)
breaks_told locals _ _ (too_long length at long) =
    length_told (length == 0) (nat_lt 65536 length) (or_true (length == 0) (nat_lt 65536 length) (grind (arith, nat_tests)))
breaks_told locals _ _ (global_too_many number at again many) = name_told again (number == 1024) (is_same number 1024 many)
breaks_told locals _ _ (parameter_too_many number at again many) =
    name_told again ((number == 6) || (locals == 256)) (rw (is_same number 6 many) refl)

local_told : (locals : ℕ) (s : Site) → is_local s ≡ true → locals ≡ 256 → Tells (site_rule locals s) TooMany
local_told locals (site.Use how means home at) h e = absurd (cc)
local_told locals (site.Local again at) h e = name_told again (locals == 256) (is_same locals 256 e)
local_told locals (site.Parameter number again at) h e =
    name_told again ((number == 6) || (locals == 256)) (or_true (number == 6) (locals == 256) (is_same locals 256 e))
local_told locals (site.Return result value at) h e = absurd (cc)
local_told locals (site.Jump in_loop at) h e = absurd (cc)
local_told locals (site.Global number again at) h e = absurd (cc)
local_told locals (site.Length length at) h e = absurd (cc)
local_told locals (site.Constant length values braces at) h e = absurd (cc)

-- ---- what a rule that is told breaks

-- by what stands at the site, or by its number
abbrev Broken : ℕ → Site → Rule → Type 0
Broken locals s rule = Breaks s rule ⊎ ((is_local s ≡ true) × (locals ≡ 256) × (rule ≡ TooMany))

same_is : (m n : ℕ) → (m == n) ≡ true → m ≡ n
same_is m n e = grind (arith, nat_tests)

and_left : (a b : Bool) → (a && b) ≡ true → a ≡ true
and_left true b e = refl
and_left false b e = absurd (cc)

and_right : (a b : Bool) → (a && b) ≡ true → b ≡ true
and_right true b e = e
and_right false b e = absurd (cc)

or_cases : (a b : Bool) → (a || b) ≡ true → (a ≡ true) ⊎ (b ≡ true)
or_cases true b e = inl refl
or_cases false b e = inr e

not_true : (a : Bool) → not a ≡ true → a ≡ false
not_true true e = absurd (cc)
not_true false e = refl

-- which of the tests in turn it was
known_cases : (a b c d : Bool) (rule : Rule) → cond a (Some Recursive) (cond b (Some Class) (cond c (Some Shape) (cond d (Some Arity) None))) ≡ Some rule →
    ((a ≡ true) × (rule ≡ Recursive)) ⊎ (((b ≡ true) × (rule ≡ Class)) ⊎ (((c ≡ true) × (rule ≡ Shape)) ⊎ ((d ≡ true) × (rule ≡ Arity))))
known_cases true b c d rule e = inl (refl, cc)
known_cases false true c d rule e = inr (inl (refl, cc))
known_cases false false true d rule e = inr (inr (inl (refl, cc)))
known_cases false false false true rule e = inr (inr (inr (refl, cc)))
known_cases false false false false rule e = absurd (cc)

barred_breaks : (how : How) (d : Binding) (home : Home) (at : ℕ) → is_barred how d.entity home ≡ true → Breaks (site.Use how (Some d) home at) Class
barred_breaks how d home at e =
    elim (or_cases (is_assignment how && is_constant d.entity) (is_private_object d.entity && not home.private) e) [
      | inl h ↦ constant_assigned how d home at (and_left (is_assignment how) (is_constant d.entity) h) (and_right (is_assignment how) (is_constant d.entity) h)
      | inr h ↦ private_outside how d home at (and_left (is_private_object d.entity) (not home.private) h) (not_true home.private (and_right (is_private_object d.entity) (not home.private) h))
    ]

known_breaks : (how : How) (d : Binding) (home : Home) (at : ℕ) (rule : Rule) → known_rule how d home ≡ Some rule → Breaks (site.Use how (Some d) home at) rule
known_breaks how d home at rule e =
    elim (known_cases (is_call how && (d.token == home.token)) (is_barred how d.entity home) (not (fits how d.entity)) (not (is_counted how d.entity)) rule e) [
      | inl h ↦ subst (λ r. Breaks (site.Use how (Some d) home at) r) (sym h.1)
          (self_call how d home at (and_left (is_call how) (d.token == home.token) h.0) (same_is d.token home.token (and_right (is_call how) (d.token == home.token) h.0)))
      | inr g ↦ elim g [
        | inl h ↦ subst (λ r. Breaks (site.Use how (Some d) home at) r) (sym h.1) (barred_breaks how d home at h.0)
        | inr f ↦ elim f [
          | inl h ↦ subst (λ r. Breaks (site.Use how (Some d) home at) r) (sym h.1) (misused how d home at (not_true (fits how d.entity) h.0))
          | inr h ↦ subst (λ r. Breaks (site.Use how (Some d) home at) r) (sym h.1) (miscounted how d home at (not_true (is_counted how d.entity) h.0))
        ]
      ]
    ]

use_breaks : (how : How) (means : Option Binding) (home : Home) (at : ℕ) (rule : Rule) → use_rule how means home ≡ Some rule → Breaks (site.Use how means home at) rule
use_breaks how None home at rule e = let same : Unknown ≡ rule = cc in subst (λ r. Breaks (site.Use how None home at) r) same (unknown how home at)
use_breaks how (Some d) home at rule e = known_breaks how d home at rule e

local_counts : (locals at : ℕ) (rule : Rule) (b : Bool) → b ≡ (locals == 256) → cond b (Some TooMany) None ≡ Some rule → Broken locals (site.Local false at) rule
local_counts locals at rule true is e = inr (refl, same_is locals 256 (sym is), cc)
local_counts locals at rule false is e = absurd (cc)

local_breaks : (locals : ℕ) (again : Bool) (at : ℕ) (rule : Rule) → name_rule again (locals == 256) ≡ Some rule → Broken locals (site.Local again at) rule
local_breaks locals true at rule e = let same : Twice ≡ rule = cc in inl (subst (λ r. Breaks (site.Local true at) r) same (twice_local at))
local_breaks locals false at rule e = local_counts locals at rule (locals == 256) refl e

parameter_counts : (locals number at : ℕ) (rule : Rule) (a b : Bool) → a ≡ (number == 6) → b ≡ (locals == 256) →
    cond (a || b) (Some TooMany) None ≡ Some rule → Broken locals (site.Parameter number false at) rule
parameter_counts locals number at rule true b is also e =
    let same : TooMany ≡ rule = cc in
    inl (subst (λ r. Breaks (site.Parameter number false at) r) same (parameter_too_many number at false (same_is number 6 (sym is))))
parameter_counts locals number at rule false true is also e = inr (refl, same_is locals 256 (sym also), cc)
parameter_counts locals number at rule false false is also e = absurd (cc)

parameter_breaks : (locals number : ℕ) (again : Bool) (at : ℕ) (rule : Rule) → name_rule again ((number == 6) || (locals == 256)) ≡ Some rule →
    Broken locals (site.Parameter number again at) rule
parameter_breaks locals number true at rule e =
    let same : Twice ≡ rule = cc in inl (subst (λ r. Breaks (site.Parameter number true at) r) same (twice_parameter number at))
parameter_breaks locals number false at rule e = parameter_counts locals number at rule (number == 6) (locals == 256) refl refl e

global_counts : (number at : ℕ) (rule : Rule) (b : Bool) → b ≡ (number == 1024) → cond b (Some TooMany) None ≡ Some rule → Breaks (site.Global number false at) rule
global_counts number at rule true is e =
    let same : TooMany ≡ rule = cc in
    subst (λ r. Breaks (site.Global number false at) r) same (global_too_many number at false (same_is number 1024 (sym is)))
global_counts number at rule false is e = absurd (cc)

global_breaks : (number : ℕ) (again : Bool) (at : ℕ) (rule : Rule) → name_rule again (number == 1024) ≡ Some rule → Breaks (site.Global number again at) rule
global_breaks number true at rule e =
    let same : Twice ≡ rule = cc in subst (λ r. Breaks (site.Global number true at) r) same (twice_global number at)
global_breaks number false at rule e = global_counts number at rule (number == 1024) refl e

shape_is : (b : Bool) (rule : Rule) → shape_rule b ≡ Some rule → (b ≡ true) × (Shape ≡ rule)
shape_is true rule e = (refl, cc)
shape_is false rule e = absurd (cc)

return_breaks : (result : Kind3) (value : Bool) (at : ℕ) → misreturns result value ≡ true → Breaks (site.Return result value at) Shape
return_breaks Int true at e = absurd (cc)
return_breaks Int false at e = nothing_returned Int at refl
return_breaks Unsigned true at e = absurd (cc)
return_breaks Unsigned false at e = nothing_returned Unsigned at refl
return_breaks Void true at e = value_returned at
return_breaks Void false at e = absurd (cc)

jump_breaks : (in_loop : Bool) (at : ℕ) → not in_loop ≡ true → Breaks (site.Jump in_loop at) Shape
jump_breaks true at e = absurd (cc)
jump_breaks false at e = outside_loop at

less_is : (m n : ℕ) → nat_lt m n ≡ true → m < n
less_is m n e = grind (arith, nat_tests)

given_breaks : (length : Option ℕ) (values : ℕ) (braces : Bool) (at : ℕ) → misgiven length values braces ≡ true → Breaks (site.Constant length values braces at) Shape
given_breaks None values true at e = list_for_scalar values at
given_breaks None values false at e = absurd (cc)
given_breaks (Some length) values true at e = values_too_many length values at true (less_is length values e)
given_breaks (Some length) values false at e = value_for_array length values at

length_breaks : (length at : ℕ) (rule : Rule) (a b : Bool) → a ≡ (length == 0) → b ≡ nat_lt 65536 length →
    cond (a || b) (Some TooLong) None ≡ Some rule → Breaks (site.Length length at) rule
length_breaks length at rule true b is also e =
    let same : TooLong ≡ rule = cc in subst (λ r. Breaks (site.Length length at) r) same (no_elements length at (same_is length 0 (sym is)))
length_breaks length at rule false true is also e =
    let same : TooLong ≡ rule = cc in subst (λ r. Breaks (site.Length length at) r) same (too_long length at (less_is 65536 length (sym also)))
length_breaks length at rule false false is also e = absurd (cc)

shape_broken : (s : Site) (b : Bool) (rule : Rule) → (b ≡ true → Breaks s Shape) → shape_rule b ≡ Some rule → Breaks s rule
shape_broken s b rule breaks e = let is = shape_is b rule e in subst (λ r. Breaks s r) is.1 (breaks is.0)

-- a rule that is told is broken
told_breaks : (locals : ℕ) (s : Site) (rule : Rule) → site_rule locals s ≡ Some rule → Broken locals s rule
told_breaks locals (site.Use how means home at) rule e = inl (use_breaks how means home at rule e)
told_breaks locals (site.Local again at) rule e = local_breaks locals again at rule e
told_breaks locals (site.Parameter number again at) rule e = parameter_breaks locals number again at rule e
told_breaks locals (site.Return result value at) rule e =
    inl (shape_broken (site.Return result value at) (misreturns result value) rule (return_breaks result value at) e)
told_breaks locals (site.Jump in_loop at) rule e = inl (shape_broken (site.Jump in_loop at) (not in_loop) rule (jump_breaks in_loop at) e)
told_breaks locals (site.Global number again at) rule e = inl (global_breaks number again at rule e)
told_breaks locals (site.Length length at) rule e = inl (length_breaks length at rule (length == 0) (nat_lt 65536 length) refl refl e)
told_breaks locals (site.Constant length values braces at) rule e =
    inl (shape_broken (site.Constant length values braces at) (misgiven length values braces) rule (given_breaks length values braces at) e)

-- ---- the first of several

-- something was found that does not come after this
abbrev pub Comes : Option Fault → ℕ → Rule → Type 0
Comes None at rule = ⊥
Comes (Some f) at rule = (f.at < at) ⊎ ((f.at ≡ at) × (rule_order f.rule ≤ rule_order rule))

-- a place and an order that do not come after others
abbrev NotAfter : ℕ → ℕ → ℕ → ℕ → Type 0
NotAfter a m b n = (a < b) ⊎ ((a ≡ b) × (m ≤ n))

NotAfter-trans : (a m b n c k : ℕ) → NotAfter a m b n → NotAfter b n c k → NotAfter a m c k
NotAfter-trans a m b n c k (inl x) (inl y) = inl (omega arith)
NotAfter-trans a m b n c k (inl x) (inr y) = inl (omega (arith, y.0))
NotAfter-trans a m b n c k (inr x) (inl y) = inl (omega (arith, x.0))
NotAfter-trans a m b n c k (inr x) (inr y) = inr (x.0 ∙ y.0, omega (arith, x.1, y.1))

not_less : (m n : ℕ) → nat_lt m n ≡ false → n ≤ m
not_less m n e = grind (arith, nat_tests)

apart : (m n : ℕ) → (m == n) ≡ false → m ≢ n
apart m n e = grind (arith, nat_tests)

sooner_is : (a m b n : ℕ) (p q r : Bool) → p ≡ nat_lt a b → q ≡ (a == b) → r ≡ nat_lt m n → (p || (q && r)) ≡ true → NotAfter a m b n
sooner_is a m b n true q r e f g h = inl (less_is a b (sym e))
sooner_is a m b n false true true e f g h = let less : m < n = less_is m n (sym g) in inr (same_is a b (sym f), omega arith)
sooner_is a m b n false true false e f g h = absurd (cc)
sooner_is a m b n false false r e f g h = absurd (cc)

later_is : (a m b n : ℕ) (p q r : Bool) → p ≡ nat_lt a b → q ≡ (a == b) → r ≡ nat_lt m n → (p || (q && r)) ≡ false → NotAfter b n a m
later_is a m b n true q r e f g h = absurd (cc)
later_is a m b n false true true e f g h = absurd (cc)
later_is a m b n false true false e f g h = inr (sym (same_is a b (sym f)), not_less m n (sym g))
later_is a m b n false false r e f g h =
    let le : b ≤ a = not_less a b (sym e) in
    let ne : a ≢ b = apart a b (sym f) in
    inl (omega arith)

sooner_old : (g f : Fault) (b : Bool) → b ≡ is_sooner f g → (at : ℕ) (rule : Rule) → Comes (Some g) at rule → Comes (cond b (Some f) (Some g)) at rule
sooner_old g f true is at rule h =
    NotAfter-trans f.at (rule_order f.rule) g.at (rule_order g.rule) at (rule_order rule)
    (sooner_is f.at (rule_order f.rule) g.at (rule_order g.rule) (nat_lt f.at g.at) (f.at == g.at) (nat_lt (rule_order f.rule) (rule_order g.rule)) refl refl refl (sym is)) h
sooner_old g f false is at rule h = h

sooner_new : (g f : Fault) (b : Bool) → b ≡ is_sooner f g → Comes (cond b (Some f) (Some g)) f.at f.rule
sooner_new g f true is = inr (refl, omega arith)
sooner_new g f false is =
    later_is f.at (rule_order f.rule) g.at (rule_order g.rule) (nat_lt f.at g.at) (f.at == g.at) (nat_lt (rule_order f.rule) (rule_order g.rule)) refl refl refl (sym is)

Comes-sooner_old : (first : Option Fault) (f : Fault) (at : ℕ) (rule : Rule) → Comes first at rule → Comes (sooner first f) at rule
Comes-sooner_old None f at rule h = absurd h
Comes-sooner_old (Some g) f at rule h = sooner_old g f (is_sooner f g) refl at rule h

Comes-sooner_new : (first : Option Fault) (f : Fault) → Comes (sooner first f) f.at f.rule
Comes-sooner_new None f = inr (refl, omega arith)
Comes-sooner_new (Some g) f = sooner_new g f (is_sooner f g) refl

Comes-weaken : (first : Option Fault) (at : ℕ) (told rule : Rule) → rule_order told ≤ rule_order rule → Comes first at told → Comes first at rule
Comes-weaken None at told rule le h = h
Comes-weaken (Some f) at told rule le (inl x) = inl x
Comes-weaken (Some f) at told rule le (inr x) = inr (x.0, omega (arith, x.1))

-- what was found stays, or gives way to what comes sooner
Comes-with_rule : (first : Option Fault) (place : ℕ) (told : Option Rule) (at : ℕ) (rule : Rule) → Comes first at rule → Comes (with_rule first place told) at rule
Comes-with_rule first place None at rule h = h
Comes-with_rule first place (Some told) at rule h = Comes-sooner_old first (record { at = place; rule = told }) at rule h

Comes-told : (first : Option Fault) (at : ℕ) (told : Option Rule) (rule : Rule) → Tells told rule → Comes (with_rule first at told) at rule
Comes-told first at None rule h = absurd h
Comes-told first at (Some told) rule h =
    Comes-weaken (sooner first (record { at = at; rule = told })) at told rule h (Comes-sooner_new first (record { at = at; rule = told }))

Comes-note : (v : Verdict) (s : Site) (at : ℕ) (rule : Rule) → Comes v.first at rule → Comes (note v s).first at rule
unfolding note
Comes-note v s at rule h = Comes-with_rule v.first (at_token s) (site_rule v.locals s) at rule h

Comes-noted : (v : Verdict) (ss : List Site) (at : ℕ) (rule : Rule) → Comes v.first at rule → Comes (noted v ss).first at rule
Comes-noted v [] at rule h = h
Comes-noted v (s ∷ ss) at rule h = Comes-noted (note v s) ss at rule (Comes-note v s at rule h)

Comes-at : (v : Verdict) (s : Site) (rule : Rule) → Tells (site_rule v.locals s) rule → Comes (note v s).first (at_token s) rule
unfolding note
Comes-at v s rule h = Comes-told v.first (at_token s) (site_rule v.locals s) rule h

-- a rule that is broken at one of the sites
Comes-breaks : (v : Verdict) (front back : List Site) (s : Site) (rule : Rule) → Breaks s rule → Comes (noted v (front ++ s ∷ back)).first (at_token s) rule
Comes-breaks v front back s rule breaks =
    rw (noted_append v front (s ∷ back))
    (Comes-noted (note (noted v front) s) back (at_token s) rule (Comes-at (noted v front) s rule (breaks_told (noted v front).locals s rule breaks)))

-- ---- the number of locals

one_more_is : (locals : ℕ) → locals ≤ 257 → one_more locals ≡ min (locals + 1) 257
one_more_is locals le = grind (arith, nat_tests)

note_locals : (v : Verdict) (s : Site) → (note v s).locals ≡ cond (is_local s) (one_more v.locals) v.locals
unfolding note
note_locals v s = refl

counted_step : (b : Bool) (locals n after : ℕ) → locals ≤ 257 → after ≡ cond b (one_more locals) locals →
    min (after + n) 257 ≡ min (locals + (cond b 1 0 + n)) 257
counted_step true locals n after le is = let more = one_more_is locals le in omega (arith, is, more)
counted_step false locals n after le is = omega (arith, is)

counted_limit : (b : Bool) (locals after : ℕ) → locals ≤ 257 → after ≡ cond b (one_more locals) locals → after ≤ 257
counted_limit true locals after le is = let more = one_more_is locals le in omega (arith, is, more)
counted_limit false locals after le is = omega (arith, is)

fold_from : (n : ℕ) (ss : List Site) → fold (λ a x. a + cond (is_local x) 1 0) n ss ≡ n + count_by is_local ss
fold_from n [] = omega arith
fold_from n (s ∷ ss) =
    let one = fold_from (n + cond (is_local s) 1 0) ss in
    let two = fold_from (0 + cond (is_local s) 1 0) ss in
    omega (arith, one, two)

count_step : (s : Site) (ss : List Site) → count_by is_local (s ∷ ss) ≡ cond (is_local s) 1 0 + count_by is_local ss
count_step s ss =
    let all = fold_from (0 + cond (is_local s) 1 0) ss in
    omega (arith, all)

noted_locals : (v : Verdict) (ss : List Site) → v.locals ≤ 257 → (noted v ss).locals ≡ min (v.locals + count_by is_local ss) 257
noted_locals v [] le = omega arith
noted_locals v (s ∷ ss) le =
    let after = note_locals v s in
    noted_locals (note v s) ss (counted_limit (is_local s) v.locals (note v s).locals le after)
    ∙ counted_step (is_local s) v.locals (count_by is_local ss) (note v s).locals le after
    ∙ ap (λ n. min (v.locals + n) 257) (sym (count_step s ss))

-- one local too many
Comes-local : (v : Verdict) (front back : List Site) (s : Site) → v.locals ≡ 0 → is_local s ≡ true → count_by is_local front ≡ 256 →
    Comes (noted v (front ++ s ∷ back)).first (at_token s) TooMany
Comes-local v front back s none is_one count =
    let le : v.locals ≤ 257 = omega arith in
    let full : (noted v front).locals ≡ 256 = omega (arith, noted_locals v front le, none, count) in
    rw (noted_append v front (s ∷ back))
    (Comes-noted (note (noted v front) s) back (at_token s) TooMany (Comes-at (noted v front) s TooMany (local_told (noted v front).locals s is_one full)))

-- ---- where it was found

-- a site at which this was told
record Found (v : Verdict) (ss : List Site) (f : Fault) : Type 0 where
  front : List Site
  back : List Site
  s : Site
  all : ss ≡ front ++ s ∷ back
  told : site_rule (noted v front).locals s ≡ Some f.rule
  place : at_token s ≡ f.at

sooner_from : (b : Bool) (g : Fault) (at : ℕ) (told : Rule) (f : Fault) → cond b (Some (record { at = at; rule = told })) (Some g) ≡ Some f →
    (Some g ≡ Some f) ⊎ ((Some told ≡ Some f.rule) × (at ≡ f.at))
sooner_from true g at told f e = let same : record { at = at; rule = told } ≡ f = cc in inr (ap (λ g. Some g.rule) same, ap (λ g. g.at) same)
sooner_from false g at told f e = inl e

with_rule_from : (first : Option Fault) (at : ℕ) (told : Option Rule) (f : Fault) → with_rule first at told ≡ Some f →
    (first ≡ Some f) ⊎ ((told ≡ Some f.rule) × (at ≡ f.at))
with_rule_from first at None f e = inl e
with_rule_from None at (Some told) f e = let same : record { at = at; rule = told } ≡ f = cc in inr (ap (λ g. Some g.rule) same, ap (λ g. g.at) same)
with_rule_from (Some g) at (Some told) f e = sooner_from (is_sooner (record { at = at; rule = told }) g) g at told f e

note_from : (v : Verdict) (s : Site) (f : Fault) → (note v s).first ≡ Some f → (v.first ≡ Some f) ⊎ ((site_rule v.locals s ≡ Some f.rule) × (at_token s ≡ f.at))
unfolding note
note_from v s f e = with_rule_from v.first (at_token s) (site_rule v.locals s) f e

noted_from : (v : Verdict) (ss : List Site) (f : Fault) → (noted v ss).first ≡ Some f → (v.first ≡ Some f) ⊎ Found v ss f
noted_from v [] f e = inl e
noted_from v (s ∷ ss) f e = elim (noted_from (note v s) ss f e) [
  | inl h ↦ elim (note_from v s f h) [
    | inl g ↦ inl g
    | inr g ↦ inr (record { front = []; back = ss; s = s; all = refl; told = g.0; place = g.1 })
  ]
  | inr h ↦ inr (record { front = s ∷ h.front; back = h.back; s = h.s; all = ap (λ xs. s ∷ xs) h.all; told = h.told; place = h.place })
]

-- ---- over all items

places-append : (before more : List Item) → declarations_of (before ++ more) ≡ declarations_of before ++ declarations_of more
places-append [] more = refl
places-append (item ∷ before) more = ap (λ ds. declaration_of item ∷ ds) (places-append before more)

items_step : (before : List Item) (item : Item) (items : List Item) (v : Verdict) →
    items_noted (length before) (declarations_of before) (item ∷ items) v
    ≡ items_noted (length (before ++ item ∷ [])) (declarations_of (before ++ item ∷ [])) items (noted (afresh v) (item_sites before item))
items_step before item items v =
    let more : length before + 1 ≡ length (before ++ item ∷ []) = omega (arith, length-append {A = Item}) in
    rw (more, ← places-append before (item ∷ [])) refl

-- what was found stays, or gives way to what comes sooner
Comes-items : (before items : List Item) (v : Verdict) (at : ℕ) (rule : Rule) → Comes v.first at rule →
    Comes (items_noted (length before) (declarations_of before) items v).first at rule
Comes-items before [] v at rule h = h
Comes-items before (item ∷ items) v at rule h =
    rw (items_step before item items v)
    (Comes-items (before ++ item ∷ []) items (noted (afresh v) (item_sites before item)) at rule
    (Comes-noted (afresh v) (item_sites before item) at rule h))

-- what one item shows is found, or something sooner is
Comes-from : (before more : List Item) (item : Item) (after : List Item) (v : Verdict) (at : ℕ) (rule : Rule) →
    ((w : Verdict) → Comes (noted (afresh w) (item_sites (before ++ more) item)).first at rule) →
    Comes (items_noted (length before) (declarations_of before) (more ++ item ∷ after) v).first at rule
Comes-from before [] item after v at rule shows =
    rw (items_step before item after v)
    (Comes-items (before ++ item ∷ []) after (noted (afresh v) (item_sites before item)) at rule
    (subst (λ xs. Comes (noted (afresh v) (item_sites xs item)).first at rule) (append-nil before) (shows v)))
Comes-from before (x ∷ more) item after v at rule shows =
    rw (items_step before x (more ++ item ∷ after) v)
    (Comes-from (before ++ x ∷ []) more item after (noted (afresh v) (item_sites before x)) at rule
    (λ w. subst (λ xs. Comes (noted (afresh w) (item_sites xs item)).first at rule) (sym (append_assoc before (x ∷ []) more)) (shows w)))

-- each violation is found, or something sooner is
Comes-violation : (p : Program) (at : ℕ) (rule : Rule) → Violates p at rule → Comes (first_fault_of p.items) at rule
Comes-violation p at rule (by_site before item front s follows stands place breaks) =
    rw follows.all
    (Comes-from [] before item follows.after start at rule
    (λ w. rw stands.all (subst (λ n. Comes (noted (afresh w) (front ++ s ∷ stands.back)).first n rule) place (Comes-breaks (afresh w) front stands.back s rule breaks))))
Comes-violation p at rule (local_too_many before item front s follows stands place is_one count many) =
    rw (follows.all, many)
    (Comes-from [] before item follows.after start at TooMany
    (λ w. rw stands.all (subst (λ n. Comes (noted (afresh w) (front ++ s ∷ stands.back)).first n TooMany) place (Comes-local (afresh w) front stands.back s refl is_one count))))

-- what is found is a violation
violates : (p : Program) (before : List Item) (item : Item) (v : Verdict) (f : Fault) → ItemFollows p before item → Found (afresh v) (item_sites before item) f → Violates p f.at f.rule
violates p before item v f follows found =
    let stands : Stands (item_sites before item) found.front found.s = record { back = found.back; all = found.all } in
    elim (told_breaks (noted (afresh v) found.front).locals found.s f.rule found.told) [
      | inl breaks ↦ by_site before item found.front found.s follows stands found.place breaks
      | inr full ↦
          let le : (afresh v).locals ≤ 257 = omega arith in
          let count : count_by is_local found.front ≡ 256 = omega (arith, noted_locals (afresh v) found.front le, full.1) in
          local_too_many before item found.front found.s follows stands found.place full.0 count full.2
    ]

found_violates : (p : Program) (before items : List Item) (v : Verdict) (f : Fault) → p.items ≡ before ++ items →
    (items_noted (length before) (declarations_of before) items v).first ≡ Some f → (v.first ≡ Some f) ⊎ Violates p f.at f.rule
found_violates p before [] v f all e = inl e
found_violates p before (item ∷ items) v f all e =
    let follows : ItemFollows p before item = record { after = items; all = all } in
    let again = found_violates p (before ++ item ∷ []) items (noted (afresh v) (item_sites before item)) f
    (all ∙ sym (append_assoc before (item ∷ []) items)) (ap (λ w. w.first) (sym (items_step before item items v)) ∙ e) in
    elim again [
      | inl h ↦ elim (noted_from (afresh v) (item_sites before item) f h) [
        | inl g ↦ inl g
        | inr g ↦ inr (violates p before item v f follows g)
      ]
      | inr h ↦ inr h
    ]

-- ---- the first violation

pub first_is : (p : Program) (f : Fault) → first_fault_of p.items ≡ Some f → IsFirst p f.at f.rule
first_is p f e = record {
  violates = elim (found_violates p [] p.items start f refl e) [
    | inl h ↦ absurd (cc)
    | inr h ↦ h
  ];
  least = λ at rule violates. subst (λ first. Comes first at rule) e (Comes-violation p at rule violates);
}

pub none_is : (p : Program) → first_fault_of p.items ≡ None → KeepsRules p
none_is p e = λ at rule violates. subst (λ first. Comes first at rule) e (Comes-violation p at rule violates)
