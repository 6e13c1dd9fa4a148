-- No two variables of a program are declared by one token: each item declares those of its own tokens.
use Rattle.std.proofs.Common.{◌≡◌, ◌≢◌, ◌⊎◌, inl, inr, ap, ℕ, suc, ◌+◌, ◌==◌, ◌<◌, ◌≤◌, ◌||◌, ◌&&◌, not, Bool, true, false, cond, List, [], ◌∷◌, ◌++◌, length, map, arith, refl}
use Rattle.std.proofs.lemmas.Bool.Decides.{nat_tests}
use Rattle.c_token.specs.declared.kinds.Kind.{Kind}
use Rattle.c_grammar.specs.declared.item.Parameter.{Parameter}
use Rattle.c_grammar.specs.declared.item.Item.{Item}
use Rattle.c_grammar.specs.declared.item.Item.TheVariants as item
use Rattle.c_grammar.specs.declared.item.Program.{Program}
use Rattle.c_grammar.specs.BoundedTokens.{Bounded}
use Rattle.c_grammar.specs.ProgramGrammar.{IsItem, AreItems, IsParameter, AreListed, AreParameters}
use Rattle.c_scopes.specs.declared.declaration.Declaration.{Declaration}
use Rattle.c_scopes.specs.Declarations.{declaration_of, parameters_of, token_of}
use Rattle.c_types.specs.Checked.{IsReadProgram}
use Rattle.c_semantics.specs.ProgramShape.{are_distinct, declared_tokens, is_among, locals_of, own_tokens_of_all}
use Rattle.c_resolver.specs.Resolving.{function_tokens, functions_in, objects_in, plain_program}
use Rattle.c_resolver.specs.ResolvingViews.{body_in, parameters_in}
use Rattle.c_meaning.proofs.Numbers.{From, has-within, item-has}
use Rattle.c_meaning.proofs.Places.{Row, row-front, row-back, row-length, row_of_all, Ascending, ascending-append, ascending-further, ascending-wider}
use Rattle.c_meaning.proofs.PlacedStatements.{body_placed}

-- ---- how often a token stands among others

abbrev single : ℕ → ℕ → ℕ
single token t = cond (token == t) 1 0

abbrev times : List ℕ → ℕ → ℕ
times [] t = 0
times (x ∷ xs) t = single x t + times xs t

times-append : (xs ys : List ℕ) (t : ℕ) → times (xs ++ ys) t ≡ times xs t + times ys t
times-append [] ys t = omega arith
times-append (x ∷ xs) ys t = omega (arith, times-append xs ys t)

single-same : (t : ℕ) → single t t ≡ 1
single-same t = grind (arith, nat_tests)

single-other : (x t : ℕ) → x ≢ t → single x t ≡ 0
single-other x t other = grind (arith, nat_tests)

single-most : (x t : ℕ) → single x t ≤ 1
single-most x t = by-test (x == t)
  where
    by-test : (b : Bool) → cond b 1 0 ≤ 1
    by-test true = omega arith
    by-test false = omega arith

no-single : (b c : Bool) (n : ℕ) → (n ≡ 0 → c ≡ false) → cond b 1 0 + n ≡ 0 → (b || c) ≡ false
no-single true c n later none = absurd (omega (arith, none))
no-single false c n later none = later (omega (arith, none))

none-among : (xs : List ℕ) (t : ℕ) → times xs t ≡ 0 → is_among xs t ≡ false
none-among [] t none = refl
none-among (x ∷ xs) t none = no-single (x == t) (is_among xs t) (times xs t) (none-among xs t) none

both-hold : (a b : Bool) → a ≡ false → b ≡ true → (not a && b) ≡ true
both-hold true b left right = absurd (cc)
both-hold false b left right = right

distinct-if : (xs : List ℕ) → ((t : ℕ) → times xs t ≤ 1) → are_distinct xs ≡ true
distinct-if [] most = refl
distinct-if (x ∷ xs) most =
    both-hold (is_among xs x) (are_distinct xs) (none-among xs x (omega (arith, most x, single-same x)))
    (distinct-if xs (λ t. omega (arith, most t)))

-- ---- once at most, and only in a stretch

record Once (n m : ℕ) (count : ℕ → ℕ) : Type 0 where
  most : (t : ℕ) → count t ≤ 1
  below : (t : ℕ) → t < n → count t ≡ 0
  above : (t : ℕ) → m ≤ t → count t ≡ 0

le_or_lt : (m n : ℕ) → (m ≤ n) ⊎ (n < m)
le_or_lt m n = grind arith

once-plus : (n m k : ℕ) (f g : ℕ → ℕ) → n ≤ m → m ≤ k → Once n m f → Once m k g → Once n k (λ t. f t + g t)
once-plus n m k f g first last one two = record {
  most = λ t. elim (le_or_lt m t) [
    | inl h ↦ omega (arith, one.above t h, two.most t)
    | inr h ↦ omega (arith, one.most t, two.below t h)
  ];
  below = λ t h. omega (arith, one.below t h, two.below t (omega (arith, h, first)));
  above = λ t h. omega (arith, one.above t (omega (arith, h, last)), two.above t h);
}

once-as : (n m k j : ℕ) (f g : ℕ → ℕ) → k ≤ n → m ≤ j → ((t : ℕ) → g t ≡ f t) → Once n m f → Once k j g
once-as n m k j f g first last same once = record {
  most = λ t. omega (arith, same t, once.most t);
  below = λ t h. omega (arith, same t, once.below t (omega (arith, h, first)));
  above = λ t h. omega (arith, same t, once.above t (omega (arith, h, last)));
}

none-once : (n m : ℕ) → Once n m (λ t. 0)
none-once n m = record { most = λ t. omega arith; below = λ t h. refl; above = λ t h. refl }

single-once : (x : ℕ) → Once x (suc x) (single x)
single-once x = record {
  most = single-most x;
  below = λ t h. single-other x t (λ same. omega (arith, same, h));
  above = λ t h. single-other x t (λ same. omega (arith, same, h));
}

ascending-once : (n m : ℕ) (xs : List ℕ) → Ascending n m xs → Once n m (times xs)
ascending-once n m [] up = none-once n m
ascending-once n m (x ∷ xs) up =
    once-as x m n m (λ t. single x t + times xs t) (times (x ∷ xs)) up.0 (omega arith) (λ t. refl)
    (once-plus x (suc x) m (single x) (times xs) (omega arith) (order (suc x) m xs up.1) (single-once x) (ascending-once (suc x) m xs up.1))
  where
    order : (n m : ℕ) (xs : List ℕ) → Ascending n m xs → n ≤ m
    order n m [] up = up
    order n m (x ∷ xs) up = omega (arith, up.0, order (suc x) m xs up.1)

-- ---- items

from-row : (kinds : List Kind) (n : ℕ) (ts : List Bounded) → Row kinds n ts → From n ts
from-row kinds n [] row = tt
from-row kinds n (t ∷ ts) row = (row.0, from-row kinds (suc n) ts row.3)

abbrev parameter_tokens : List Parameter → List ℕ
parameter_tokens ps = map (λ x. x.token) (parameters_in ps)

parameter-within : (kinds : List Kind) (n : ℕ) {ts : List Bounded} {x : Parameter} → IsParameter ts x → Row kinds n ts → (n ≤ x.token) × (x.token < n + length ts)
parameter-within kinds n (IsParameter.typed {ts = ts} first at text a) row =
    let back = row-back kinds n ts _ row in
    (omega (arith, back.0), omega (arith, back.0, row-length kinds n ts _ row))

listed-ascend : (kinds : List Kind) (n : ℕ) {ts : List Bounded} {ps : List Parameter} → AreListed ts ps → Row kinds n ts → Ascending n (n + length ts) (parameter_tokens ps)
listed-ascend kinds n (AreListed.one d) row =
    let within = parameter-within kinds n d row in
    (within.0, omega (arith, within.1))
listed-ascend kinds n (AreListed.further {ts = ts} {us = us} {x = x} {xs = xs} comma d ds) row =
    let within = parameter-within kinds n d (row-front kinds n ts _ row) in
    let back = row-back kinds n ts _ row in
    let after = suc (n + length ts) in (
      within.0,
      ascending-wider (suc x.token) after _ (parameter_tokens xs) (omega (arith, within.1))
          (ascending-further after (after + length us) _ (parameter_tokens xs) (omega (arith, row-length kinds n ts _ row)) (listed-ascend kinds after ds back.3)),
    )

parameters-ascend : (kinds : List Kind) (n : ℕ) {ts : List Bounded} {ps : List Parameter} → AreParameters ts ps → Row kinds n ts → Ascending n (n + length ts) (parameter_tokens ps)
parameters-ascend kinds n AreParameters.nothing row = omega arith
parameters-ascend kinds n (AreParameters.void at) row = omega arith
parameters-ascend kinds n (AreParameters.some d) row = listed-ascend kinds n d row

-- how often items declare a token
abbrev declared_times : List ℕ → List Item → List Declaration → ℕ → ℕ
declared_times fs items known t = times (map (λ o. o.variable.token) (objects_in items)) t + times (own_tokens_of_all (functions_in fs items known)) t

declared-object : (fs : List ℕ) (token n m k : ℕ) (A B f : ℕ → ℕ) → n ≤ token → token < m → m ≤ k → ((t : ℕ) → f t ≡ (single token t + A t) + B t) →
    Once m k (λ t. A t + B t) → Once n k f
declared-object fs token n m k A B f first last order same once =
    once-as n k n k (λ t. single token t + (A t + B t)) f (omega arith) (omega arith) (λ t. omega (arith, same t))
    (once-plus n m k (single token) (λ t. A t + B t) (omega (arith, first, last)) order
    (once-as token (suc token) n m (single token) (single token) first last (λ t. refl) (single-once token)) once)

-- a function declares its own tokens
declared-own : (own : List ℕ) (n m k : ℕ) (A B f : ℕ → ℕ) → n ≤ m → m ≤ k → Ascending n m own → ((t : ℕ) → f t ≡ A t + (times own t + B t)) →
    Once m k (λ t. A t + B t) → Once n k f
declared-own own n m k A B f first last up same once =
    once-as n k n k (λ t. times own t + (A t + B t)) f (omega arith) (omega arith) (λ t. omega (arith, same t))
    (once-plus n m k (times own) (λ t. A t + B t) first last (ascending-once n m own up) once)

-- an item declares what stands in its own stretch of tokens, and those after it what stands after
item-once : (fs : List ℕ) (kinds : List Kind) (n : ℕ) {ts : List Bounded} {x : Item} → IsItem ts x → Row kinds n ts → (n ≤ token_of x) × (token_of x < n + length ts) → (xs : List Item) (known : List Declaration) (k : ℕ) → n + length ts ≤ k →
    Once (n + length ts) k (declared_times fs xs (known ++ declaration_of x ∷ [])) → Once n k (declared_times fs (x ∷ xs) known)
item-once fs kinds n (IsItem.object {class = storage} {is_unsigned = unsigned} {length = length'} first at end text a b c) row within xs known k order once =
    declared-object fs at.place n _ k (times (map (λ o. o.variable.token) (objects_in xs)))
    (times (own_tokens_of_all (functions_in fs xs (known ++ declaration_of (item.Object storage unsigned text length' at.place) ∷ []))))
    (declared_times fs (item.Object storage unsigned text length' at.place ∷ xs) known) within.0 within.1 order (λ t. refl) once
item-once fs kinds n (IsItem.constant {is_unsigned = unsigned} {braces = braces} {length = length'} {values = values} const first at equals end text a b c) row within xs known k order once =
    declared-object fs at.place n _ k (times (map (λ o. o.variable.token) (objects_in xs)))
    (times (own_tokens_of_all (functions_in fs xs (known ++ declaration_of (item.Constant unsigned text length' values braces at.place) ∷ []))))
    (declared_times fs (item.Constant unsigned text length' values braces at.place ∷ xs) known) within.0 within.1 order (λ t. refl) once
item-once fs kinds n (IsItem.untrusted first void at left inner right end text) row within xs known k order once =
    once-as _ k n k (declared_times fs xs (known ++ declaration_of (item.Untrusted text at.place) ∷ [])) (declared_times fs (item.Untrusted text at.place ∷ xs) known)
    (omega arith) (omega arith) (λ t. refl) once
item-once fs kinds n (IsItem.function {ts = ts} {us = us} {vs = vs} {ws = ws} {is_private = private} {result = result} {params = ps} {body = body} at left right start end text a b c d) row within xs known k order once =
    let x = item.Function private result text ps body at.place in
    let after = known ++ declaration_of x ∷ [] in
    let one = n + length ts in
    let two = suc (suc (one + length us)) in
    let three = suc (suc (two + length vs)) in
    let row1 = row-back kinds n ts _ row in
    let row2 = (row-back kinds one us _ row1).3.3 in
    let row3 = (row-back kinds two vs _ row2).3.3 in
    let l1 = row-length kinds n ts _ row in
    let l2 = row-length kinds one us _ row1 in
    let l3 = row-length kinds two vs _ row2 in
    let l4 = row-length kinds three ws _ row3 in
    let statement = body_in fs body (after ++ parameters_of ps) in
    let own = parameter_tokens ps ++ locals_of statement in
    let up : Ascending two (three + length ws) own =
    ascending-append two three (three + length ws) (parameter_tokens ps) (locals_of statement)
    (ascending-further two (two + length vs) three (parameter_tokens ps) (omega arith) (parameters-ascend kinds two c (row-front kinds two vs _ row2)))
    (body_placed kinds three fs d (row-front kinds three ws _ row3) (after ++ parameters_of ps)).locals in
    declared-own own n _ k (times (map (λ o. o.variable.token) (objects_in xs))) (times (own_tokens_of_all (functions_in fs xs after)))
    (declared_times fs (x ∷ xs) known) (omega arith) order
    (ascending-wider n two _ own (omega arith) (ascending-further two (three + length ws) _ own (omega (arith, l1, l2, l3, l4)) up))
    (λ t. ap (λ m. times (map (λ o. o.variable.token) (objects_in xs)) t + m) (times-append own (own_tokens_of_all (functions_in fs xs after)) t)) once

items-once : (fs : List ℕ) (kinds : List Kind) (n : ℕ) {ts : List Bounded} {xs : List Item} → AreItems ts xs → Row kinds n ts → (known : List Declaration) →
    Once n (n + length ts) (declared_times fs xs known)
items-once fs kinds n AreItems.nothing row known = once-as n n n _ (λ t. 0) (declared_times fs [] known) (omega arith) (omega arith) (λ t. omega arith) (none-once n n)
items-once fs kinds n (AreItems.further {ts = ts} {us = us} {x = x} {xs = xs} d ds) row known =
    let front = row-front kinds n ts us row in
    item-once fs kinds n d front (has-within n (token_of x) ts (from-row kinds n ts front) (item-has d)) xs known (n + length (ts ++ us)) (omega (arith, row-length kinds n ts us row))
    (once-as (n + length ts) ((n + length ts) + length us) (n + length ts) (n + length (ts ++ us)) _ _ (omega arith) (omega (arith, row-length kinds n ts us row)) (λ t. refl)
    (items-once fs kinds (n + length ts) ds (row-back kinds n ts us row) (known ++ declaration_of x ∷ [])))

all-once : (p : Program) → IsReadProgram p → (t : ℕ) → declared_times (function_tokens p.items) p.items [] t ≤ 1
all-once p read = (items-once (function_tokens p.items) read.0 0 read.2 (row_of_all read.0 read.1) []).most

pub declared_once : (p : Program) → IsReadProgram p → are_distinct (declared_tokens (plain_program p)) ≡ true
declared_once p read =
    let plain = plain_program p in
    let objects = map (λ o. o.variable.token) plain.objects in
    distinct-if (declared_tokens plain) (λ t. omega (arith, times-append objects (own_tokens_of_all plain.functions) t, all-once p read t))
