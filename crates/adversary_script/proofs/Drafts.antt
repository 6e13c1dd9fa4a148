-- A draft with one more change.
use Rattle.std.proofs.Common.{◌≡◌, ℕ, ◌+◌, ◌<◌, ◌≤◌, Bool, true, false, cond, not, ◌&&◌, List, [], ◌∷◌, ◌++◌, length, leb, ltb, Option, Some, None, Result, Ok, Err, refl, sym, ap, ◌∙◌, arith, length-append}
use Rattle.std.specs.List.{list_all}
use borrow.Author.Tests.{ltb-true, leb-true}
use Rattle.std.proofs.lemmas.Bool.{and_parts, and_from}
use Rattle.std.proofs.lemmas.Bool.Decides.{nat_tests}
use Rattle.std.proofs.lemmas.List.Folds.{list_all-append}
use Rattle.std.proofs.lemmas.List.Sums.{sum_by_push}
use Rattle.aegis_num.specs.declared.limits.TheConstants.{MAX_CHANGES, MAX_CHANGE_BYTES}
use Rattle.adversary_script.specs.declared.change.When.{When}
use Rattle.adversary_script.specs.declared.change.When.TheVariants.{Start, At, Suspend}
use Rattle.adversary_script.specs.declared.change.Change.{Change}
use Rattle.adversary_script.specs.declared.latest.Latest.{Latest}
use Rattle.adversary_script.specs.declared.fault.Fault.{Fault}
use Rattle.adversary_script.specs.declared.fault.Fault.TheVariants.{Range, Order, TooMany}
use Rattle.adversary_script.specs.ScriptRules.{is_in_range, may_precede, bytes_written, all_bytes_written, are_in_order, KeepsScriptRules}
use Rattle.adversary_script.specs.ScriptGrammar.{is_in_order, has_room, ruled}
use Rattle.adversary_script.specs.LatestMoments.{reaches, allows, latest_with, IsDraft}

and-true : (b : Bool) → (b && true) ≡ b
and-true true = refl
and-true false = refl

and-false : (b : Bool) → (b && false) ≡ false
and-false true = refl
and-false false = refl

-- the latest number is the greatest
latest_reaches : (last : Option ℕ) (n k : ℕ) → reaches last n ≡ true → (reaches last k && leb n k) ≡ leb n k
latest_reaches None n k le = refl
latest_reaches (Some m) n k le = grind (arith, nat_tests)

-- what the moments with one more allow
allows_with : (latest : Latest) (moment when : When) → allows latest moment ≡ true → (allows latest when && may_precede moment when) ≡ allows (latest_with latest moment) when
allows_with latest Start when allowed = and-true _
allows_with latest (At n) Start allowed = and-false _
allows_with latest (At n) (At k) allowed = latest_reaches latest.at n k allowed
allows_with latest (At n) (Suspend k) allowed = and-true _
allows_with latest (Suspend j) Start allowed = and-false _ ∙ sym (and-false _)
allows_with latest (Suspend j) (At k) allowed = and-true _
allows_with latest (Suspend j) (Suspend k) allowed = latest_reaches latest.suspend j k allowed

-- changes in order, and one more after them
are_in_order-push : (changes : List Change) (change : Change) → are_in_order changes ≡ true → is_in_order changes change ≡ true → are_in_order (changes ++ change ∷ []) ≡ true
are_in_order-push [] change order last = refl
are_in_order-push (first ∷ changes) change order last =
    let orders = and_parts (list_all (λ later. may_precede first.when later.when) changes) (are_in_order changes) order in
    let lasts = and_parts (may_precede first.when change.when) (is_in_order changes change) last in
    let more : list_all (λ later. may_precede first.when later.when) (changes ++ change ∷ []) ≡ true =
    list_all-append (λ later. may_precede first.when later.when) changes (change ∷ []) ∙ and_from _ _ orders.0 (and_from _ _ lasts.0 refl) in
    and_from _ _ more (are_in_order-push changes change orders.1 lasts.1)

-- a change that keeps the rules passes each test
abbrev tested : Bool → Bool → Bool → Result (Unit {0}) Fault
tested range order room = cond (not range) (Err Range) (cond (not order) (Err Order) (cond (not room) (Err TooMany) (Ok tt)))

passes : (range order room : Bool) → tested range order room ≡ Ok tt → (range ≡ true) × (order ≡ true) × (room ≡ true)
passes false order room same = cc
passes true false room same = cc
passes true true false same = cc
passes true true true same = (refl, refl, refl)

-- the changes and one more keep the rules
pub KeepsRules-push : (changes : List Change) (change : Change) → KeepsScriptRules changes → ruled changes change ≡ Ok tt → KeepsScriptRules (changes ++ change ∷ [])
unfolding ruled
KeepsRules-push changes change rules keeps =
    let tests = passes (is_in_range change.what) (is_in_order changes change) (has_room changes change) keeps in
    let room = and_parts (ltb (length changes) MAX_CHANGES) (leb (all_bytes_written changes + bytes_written change.what) MAX_CHANGE_BYTES) tests.2 in
    let count : length changes < MAX_CHANGES = ltb-true (length changes) MAX_CHANGES room.0 in
    let total : all_bytes_written changes + bytes_written change.what ≤ MAX_CHANGE_BYTES = leb-true (all_bytes_written changes + bytes_written change.what) MAX_CHANGE_BYTES room.1 in
    let sum = sum_by_push (λ (change : Change). bytes_written change.what) changes change in
    record {
      range = list_all-append (λ change. is_in_range change.what) changes (change ∷ []) ∙ and_from _ _ rules.range (and_from _ _ tests.0 refl);
      order = are_in_order-push changes change rules.order tests.1;
      count = omega (arith, length-append changes (change ∷ []), count);
      bytes = omega (arith, sum, total);
    }

pub IsDraft-push : (changes : List Change) (change : Change) (latest : Latest) (bytes : ℕ) → IsDraft changes latest bytes → ruled changes change ≡ Ok tt
    → IsDraft (changes ++ change ∷ []) (latest_with latest change.when) (bytes + bytes_written change.what)
unfolding ruled
IsDraft-push changes change latest bytes draft keeps =
    let tests = passes (is_in_range change.what) (is_in_order changes change) (has_room changes change) keeps in
    let sum = sum_by_push (λ (change : Change). bytes_written change.what) changes change in
    let allowed : allows latest change.when ≡ true = sym (draft.order change.when) ∙ tests.1 in
    record {
      rules = KeepsRules-push changes change draft.rules keeps;
      order = λ when. list_all-append (λ earlier. may_precede earlier.when when) changes (change ∷ [])
          ∙ ap (λ (b : Bool). list_all (λ earlier. may_precede earlier.when when) changes && b) (and-true (may_precede change.when when))
          ∙ ap (λ (b : Bool). b && may_precede change.when when) (draft.order when)
          ∙ allows_with latest change.when when allowed;
      count = sum ∙ ap (λ (n : ℕ). n + bytes_written change.what) draft.count;
    }
