-- Where there is no room, a block may be removed: pins are few and hold the parent of each of them.
use Rattle.std.proofs.Common.{◌≡◌, ℕ, zero, suc, ◌+◌, ◌<◌, ◌≤◌, Bool, true, false, not, cond, ◌||◌, ◌⊎◌, inl, inr, IsTrue, is_some, IsNone, IfSome, ◌↔◌, nat_eq, List, [], ◌∷◌, length, reverse, Option, None, Some, refl, sym, ap, subst, ◌∙◌, arith, rules}
use Rattle.std.proofs.lemmas.Bool.Decides.{nat_tests}
use Rattle.std.specs.List.{list_any, find}
use Rattle.std.proofs.lemmas.List.Sorted.{list_any-IsPermutation, IsPermutation-map, IsPermutation-reverse}
use Rattle.std.specs.Cmp.{nat_eq_equiv}
use Rattle.std.proofs.lemmas.Map.Views.{Contains-from_any, list_any-from_Contains, exact_unsigned_eq}
use Rattle.aegis_num.specs.declared.limits.TheConstants.{TREE_LINES}
use Rattle.std.proofs.lemmas.Map.Entries.{length-keys_of}
use Rattle.line_cache.specs.LineMaps.{HoldParents, MayBeRemoved, Holds, parent_block}
use Rattle.line_cache.specs.OrderLaws.{IsCache-from, contains_key-lines_of}
use Rattle.line_cache.specs.LineOrder.{OrderedLines, blocks_of, is_in, is_distinct, is_child_of, is_removable, last_removable, next_victim, is_below_limit, is_cache, lines_of}

-- without one of its elements
abbrev minus : ℕ → List ℕ → List ℕ
minus x [] = []
minus x (y ∷ ys) = cond (nat_eq x y) ys (y ∷ minus x ys)

length-minus : (x : ℕ) (ys : List ℕ) → is_in ys x ≡ true → suc (length (minus x ys)) ≡ length ys
length-minus x [] there = absurd (cc)
length-minus x (y ∷ ys) there =
    elim (nat_eq x y) as (λ t. nat_eq x y ≡ t → suc (length (cond t ys (y ∷ minus x ys))) ≡ suc (length ys)) [
      | true ↦ λ t. refl
      | false ↦ λ t. ap suc (length-minus x ys (rw t at there))
    ] refl

is_in-minus : (x q : ℕ) (ys : List ℕ) → nat_eq q x ≡ false → is_in ys q ≡ true → is_in (minus x ys) q ≡ true
is_in-minus x q [] apart there = there
is_in-minus x q (y ∷ ys) apart there =
    let rest = is_in-minus x q ys apart in
    grind (arith, nat_tests)

or_true : (a b : Bool) → b ≡ true → (a || b) ≡ true
or_true true b h = refl
or_true false b h = h

other_than : (x q : ℕ) (xs : List ℕ) → is_in xs x ≡ false → is_in xs q ≡ true → nat_eq q x ≡ false
other_than x q xs missing there =
    elim (nat_eq q x) as (λ t. nat_eq q x ≡ t → t ≡ false) [
      | true ↦ λ t. let same : q ≡ x = grind (arith, nat_tests) in let there' : is_in xs x ≡ true = let P : ℕ → Type 0 = λ k. is_in xs k ≡ true in subst P same there in absurd (cc)
      | false ↦ λ t. refl
    ] refl

-- distinct elements that are all among others are no more than these
pigeons : (xs ys : List ℕ) → is_distinct xs ≡ true → ((q : ℕ) → is_in xs q ≡ true → is_in ys q ≡ true) → length xs ≤ length ys
pigeons [] ys apart among = omega arith
pigeons (x ∷ xs) ys apart among =
    let there : is_in ys x ≡ true = among x (grind (arith, nat_tests)) in
    let rest : length xs ≤ length (minus x ys) = pigeons xs (minus x ys) (grind rules) (λ q in_rest.
    let other : nat_eq q x ≡ false = other_than x q xs (grind rules) in_rest in
    is_in-minus x q ys other (among q (or_true (nat_eq q x) (is_in xs q) in_rest))) in
    let shorter = length-minus x ys there in
    omega arith

first_in : (x : ℕ) (xs : List ℕ) → is_in (x ∷ xs) x ≡ true
first_in x xs = grind (arith, nat_tests)

one_more_in : (x q : ℕ) (xs ys : List ℕ) → is_in ys x ≡ true → (is_in xs q ≡ true → is_in ys q ≡ true) → is_in (x ∷ xs) q ≡ true → is_in ys q ≡ true
one_more_in x q xs ys own rest h =
    elim (nat_eq q x) as (λ t. nat_eq q x ≡ t → is_in ys q ≡ true) [
      | true ↦ λ t. let same : q ≡ x = grind (arith, nat_tests) in let P : ℕ → Type 0 = λ k. is_in ys k ≡ true in subst P (sym same) own
      | false ↦ λ t. rest (rw t at h)
    ] refl

-- each element is among others, or one is not
all_or_one : (xs ys : List ℕ) → ((q : ℕ) → is_in xs q ≡ true → is_in ys q ≡ true) ⊎ ((q : ℕ) × (is_in xs q ≡ true) × (is_in ys q ≡ false))
all_or_one [] ys = inl (λ q h. absurd (cc))
all_or_one (x ∷ xs) ys =
    elim (is_in ys x) as (λ t. is_in ys x ≡ t → ((q : ℕ) → is_in (x ∷ xs) q ≡ true → is_in ys q ≡ true) ⊎ ((q : ℕ) × (is_in (x ∷ xs) q ≡ true) × (is_in ys q ≡ false))) [
      | true ↦ λ t. elim (all_or_one xs ys) [
        | inl each ↦ inl (λ q h. one_more_in x q xs ys t (each q) h)
        | inr one ↦ inr (one.0, or_true (nat_eq one.0 x) (is_in xs one.0) one.1, one.2)
      ]
      | false ↦ λ t. inr (x, first_in x xs, t)
    ] refl

-- what passes a test for some element
some_passes : (test : ℕ → Bool) (xs : List ℕ) → list_any test xs ≡ true → (q : ℕ) × (is_in xs q ≡ true) × (test q ≡ true)
some_passes test [] h = absurd (cc)
some_passes test (x ∷ xs) h =
    elim (test x) as (λ t. test x ≡ t → (q : ℕ) × (is_in (x ∷ xs) q ≡ true) × (test q ≡ true)) [
      | true ↦ λ t. (x, first_in x xs, t)
      | false ↦ λ t. let rest = some_passes test xs (rw t at h) in (rest.0, or_true (nat_eq rest.0 x) (is_in xs rest.0) rest.1, rest.2)
    ] refl

none_passes : (test : ℕ → Bool) (xs : List ℕ) → list_any test xs ≡ false → (q : ℕ) → is_in xs q ≡ true → test q ≡ false
none_passes test [] h q there = absurd (cc)
none_passes test (x ∷ xs) h q there =
    elim (nat_eq q x) as (λ t. nat_eq q x ≡ t → test q ≡ false) [
      | true ↦ λ t. let same : q ≡ x = grind (arith, nat_tests) in let P : ℕ → Type 0 = λ k. test k ≡ false in subst P (sym same) (grind rules)
      | false ↦ λ t. none_passes test xs (grind rules) q (rw t at there)
    ] refl

-- a number that no element is above
bound_of : (xs : List ℕ) → (most : ℕ) × ((q : ℕ) → is_in xs q ≡ true → q ≤ most)
bound_of [] = (0, λ q h. absurd (cc))
bound_of (x ∷ xs) =
    let rest = bound_of xs in (
      x + rest.0,
      λ q h. elim (nat_eq q x) as (λ t. nat_eq q x ≡ t → q ≤ x + rest.0) [
        | true ↦ λ t. let same : q ≡ x = grind (arith, nat_tests) in omega arith
        | false ↦ λ t. let below = rest.1 q (rw t at h) in omega arith
      ] refl,
    )

child_above : (block child : ℕ) → is_child_of block child ≡ true → (0 < child) × (parent_block child ≡ block)
child_above block child h = (grind (arith, nat_tests), grind (arith, nat_tests))

-- each of these elements that is not among the pins has a child among them that is not; so they have no bound
module _ (pins blocks : List ℕ) (parents : (q : ℕ) → is_in pins q ≡ true → 0 < q → is_in pins (parent_block q) ≡ true) (stuck : (q : ℕ) → is_in blocks q ≡ true → is_removable pins blocks q ≡ false) where
  child_of_stuck : (q : ℕ) → is_in blocks q ≡ true → is_in pins q ≡ false → list_any (is_child_of q) blocks ≡ true
  child_of_stuck q there free = let h = stuck q there in grind rules

  unpinned_child : (q child : ℕ) → is_in pins q ≡ false → 0 < child → parent_block child ≡ q → is_in pins child ≡ false
  unpinned_child q child free above own =
      elim (is_in pins child) as (λ t. is_in pins child ≡ t → t ≡ false) [
        | true ↦ λ t. let up : is_in pins (parent_block child) ≡ true = parents child t above in let P : ℕ → Type 0 = λ k. is_in pins k ≡ true in let up' : is_in pins q ≡ true = subst P own up in absurd (cc)
        | false ↦ λ t. refl
      ] refl

  no_chain : (fuel most q : ℕ) → ((k : ℕ) → is_in blocks k ≡ true → k ≤ most) → is_in blocks q ≡ true → is_in pins q ≡ false → most < q + fuel → ⊥
  no_chain zero most q bound there free h = let below = bound q there in omega arith
  no_chain (suc fuel) most q bound there free h =
      let child = some_passes (is_child_of q) blocks (child_of_stuck q there free) in
      let up = child_above q child.0 child.2 in
      let above = up.0 in
      let own = up.1 in
      no_chain fuel most child.0 bound child.1 (unpinned_child q child.0 free above own) (omega arith)

find_none : (test : ℕ → Bool) (xs : List ℕ) → find test xs ≡ None → (q : ℕ) → is_in xs q ≡ true → test q ≡ false
find_none test [] e q there = absurd (cc)
find_none test (x ∷ xs) e q there =
    elim (test x) as (λ t. test x ≡ t → test q ≡ false) [
      | true ↦ λ t. let e' = rw t at e in absurd (cc)
      | false ↦ λ t. let e' = rw t at e in elim (nat_eq q x) as (λ s. nat_eq q x ≡ s → test q ≡ false) [
        | true ↦ λ s. let same : q ≡ x = grind (arith, nat_tests) in let P : ℕ → Type 0 = λ k. test k ≡ false in subst P (sym same) t
        | false ↦ λ s. find_none test xs e' q (rw s at there)
      ] refl
    ] refl

find_some : (test : ℕ → Bool) (xs : List ℕ) (v : ℕ) → find test xs ≡ Some v → (is_in xs v ≡ true) × (test v ≡ true)
find_some test [] v e = absurd (cc)
find_some test (x ∷ xs) v e =
    elim (test x) as (λ t. test x ≡ t → (is_in (x ∷ xs) v ≡ true) × (test v ≡ true)) [
      | true ↦ λ t. let e' = rw t at e in let same : x ≡ v = cc in (let P : ℕ → Type 0 = λ k. is_in (k ∷ xs) v ≡ true in subst P (sym same) (first_in v xs), let P : ℕ → Type 0 = λ k. test k ≡ true in subst P same t)
      | false ↦ λ t. let rest = find_some test xs v (rw t at e) in (or_true (nat_eq v x) (is_in xs v) rest.0, rest.1)
    ] refl

is_in-reverse : (lines : OrderedLines) (q : ℕ) → is_in (blocks_of (reverse lines)) q ≡ is_in (blocks_of lines) q
is_in-reverse lines q = sym (list_any-IsPermutation (nat_eq q) (blocks_of lines) (blocks_of (reverse lines)) (IsPermutation-map (λ line. line.0) lines (reverse lines) (IsPermutation-reverse lines)))

-- pins as a list that a test reads
pinned_parents : (pins : List ℕ) → HoldParents pins → (q : ℕ) → is_in pins q ≡ true → 0 < q → is_in pins (parent_block q) ≡ true
pinned_parents pins parents q there above =
    list_any-from_Contains nat_eq_equiv (parent_block q) pins (parents q (Contains-from_any exact_unsigned_eq q pins there) above)

-- with more lines than pins one may be removed
some_removable : (pins : List ℕ) (lines : OrderedLines) → is_distinct (blocks_of lines) ≡ true → length pins < length (blocks_of lines) → HoldParents pins → last_removable pins lines ≡ None → ⊥
some_removable pins lines apart fewer parents e =
    let blocks = blocks_of lines in
    elim (all_or_one blocks pins) [
      | inl each ↦ let most = pigeons blocks pins apart each in omega arith
      | inr one ↦
          let stuck : (q : ℕ) → is_in blocks q ≡ true → is_removable pins blocks q ≡ false = λ q there. find_none (is_removable pins blocks) (blocks_of (reverse lines)) e q (is_in-reverse lines q ∙ there) in
          let bound = bound_of blocks in
          no_chain pins blocks (pinned_parents pins parents) stuck (suc bound.0) bound.0 one.0 bound.1 one.1 one.2 (omega arith)
    ]

-- a block's line by the list, and by the map
held_in : (lines : OrderedLines) (block : ℕ) → is_cache lines ≡ true → is_in (blocks_of lines) block ≡ true → Holds (lines_of lines) block
held_in lines block holds there = let e = contains_key-lines_of lines block holds in grind rules

child_is : (block child : ℕ) → 0 < child → parent_block child ≡ block → is_child_of block child ≡ false → ⊥
child_is block child above own fails = grind (arith, nat_tests)

no_child_in : (block child : ℕ) (blocks : List ℕ) → list_any (is_child_of block) blocks ≡ false → 0 < child → parent_block child ≡ block → is_in blocks child ≡ false
no_child_in block child blocks none above own =
    elim (is_in blocks child) as (λ t. is_in blocks child ≡ t → t ≡ false) [
      | true ↦ λ t. let fails : is_child_of block child ≡ false = none_passes (is_child_of block) blocks none child t in absurd (child_is block child above own fails)
      | false ↦ λ t. refl
    ] refl

pub MayBeRemoved-find : (pins : List ℕ) (lines : OrderedLines) (block : ℕ) → is_cache lines ≡ true → last_removable pins lines ≡ Some block → MayBeRemoved (lines_of lines) pins block
MayBeRemoved-find pins lines block holds e =
    let found = find_some (is_removable pins (blocks_of lines)) (blocks_of (reverse lines)) block e in
    let there : is_in (blocks_of lines) block ≡ true = sym (is_in-reverse lines block) ∙ found.0 in
    let passes = found.1 in
    let no_child : list_any (is_child_of block) (blocks_of lines) ≡ false = grind rules in
    let free : is_in pins block ≡ false = grind rules in
    record {
      held = held_in lines block holds there;
      childless = λ child above own. contains_key-lines_of lines child holds ∙ no_child_in block child (blocks_of lines) no_child above own;
      unpinned = λ pinned. let in_pins : is_in pins block ≡ true = list_any-from_Contains nat_eq_equiv block pins pinned in absurd (cc);
    }

full_some : (pins : List ℕ) (lines : OrderedLines) (found : Option ℕ) → last_removable pins lines ≡ found → is_cache lines ≡ true → HoldParents pins → length pins < length lines → is_some found ≡ true
full_some pins lines (Some block) e holds parents fewer = refl
full_some pins lines None e holds parents fewer =
    let many = length-keys_of lines in
    absurd (some_removable pins lines (IsCache-from lines holds).apart (omega arith) parents e)

-- no victim is named exactly where there is room
victim_case : (pins : List ℕ) (lines : OrderedLines) (room : Bool) → is_below_limit lines ≡ room → is_cache lines ≡ true → HoldParents pins → length pins ≤ 18 → is_some (next_victim pins lines) ≡ not room
victim_case pins lines true e holds parents few = rw e refl
victim_case pins lines false e holds parents few =
    let full : TREE_LINES ≤ length lines = grind (arith, nat_tests) in
    rw e (full_some pins lines (last_removable pins lines) refl holds parents (omega arith))

pub is_some-next_victim : (pins : List ℕ) (lines : OrderedLines) → is_cache lines ≡ true → HoldParents pins → length pins ≤ 18 → is_some (next_victim pins lines) ≡ not (is_below_limit lines)
is_some-next_victim pins lines holds parents few = victim_case pins lines (is_below_limit lines) refl holds parents few

victim_found : (pins : List ℕ) (lines : OrderedLines) (block : ℕ) (room : Bool) → is_below_limit lines ≡ room → next_victim pins lines ≡ Some block → last_removable pins lines ≡ Some block
victim_found pins lines block true e h = let h' = rw e at h in absurd (cc)
victim_found pins lines block false e h = rw e at h

pub MayBeRemoved-next_victim : (pins : List ℕ) (lines : OrderedLines) (block : ℕ) → is_cache lines ≡ true → next_victim pins lines ≡ Some block → MayBeRemoved (lines_of lines) pins block
MayBeRemoved-next_victim pins lines block holds h = MayBeRemoved-find pins lines block holds (victim_found pins lines block (is_below_limit lines) refl h)

-- the answer, as the lines promise it
none_case : (found : Option ℕ) (room : Bool) → is_some found ≡ not room → IsNone found ↔ IsTrue room
none_case None true e = (λ _. grind rules, λ _. grind rules)
none_case None false e = absurd (cc)
none_case (Some block) true e = absurd (cc)
none_case (Some block) false e = (λ none. absurd (grind rules), λ room. absurd (grind rules))

pub victim_none : (pins : List ℕ) (lines : OrderedLines) (found : Option ℕ) → found ≡ next_victim pins lines → is_cache lines ≡ true → HoldParents pins → length pins ≤ 18 → IsNone found ↔ IsTrue (is_below_limit lines)
victim_none pins lines found e holds parents few = none_case found (is_below_limit lines) (ap is_some e ∙ is_some-next_victim pins lines holds parents few)

pub victim_some : (pins : List ℕ) (lines : OrderedLines) (found : Option ℕ) → found ≡ next_victim pins lines → is_cache lines ≡ true → IfSome found (MayBeRemoved (lines_of lines) pins)
victim_some pins lines None e holds = tt
victim_some pins lines (Some block) e holds = MayBeRemoved-next_victim pins lines block holds (sym e)
