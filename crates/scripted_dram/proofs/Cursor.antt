-- How a cursor goes over a script.
use Rattle.std.proofs.Common.{◌≡◌, ℕ, ◌+◌, ◌<◌, Bool, true, false, not, List, [], ◌∷◌, ◌++◌, length, take, drop, get_or, if◌then◌else◌, Option, None, Some, refl, sym, ap, ◌∙◌, subst, arith, zero, suc, cond, append-nil}
use Rattle.std.specs.List.{list_all, filter}
use Rattle.std.proofs.lemmas.Bool.Decides.{nat_tests}
use Rattle.std.proofs.lemmas.Bool.{and_parts, and_from}
use Rattle.std.proofs.Math.Bool.{not-not}
use Rattle.std.proofs.lemmas.List.{drop_more, take-append-drop}
use Rattle.std.proofs.lemmas.List.Elements.{filter-append, filter_more}
use Rattle.std.proofs.lemmas.List.Folds.{list_all_more}
use Rattle.adversary_script.specs.declared.change.When.{When}
use Rattle.adversary_script.specs.declared.change.When.TheVariants.{Start, At, Suspend}
use Rattle.adversary_script.specs.declared.change.Change.{Change}
use Rattle.adversary_script.specs.ScriptRules.{may_precede, are_in_order}
use Rattle.regions.specs.declared.layout.Layout.{Layout}
use Rattle.scripted_dram.specs.declared.due.Count.{Count}
use Rattle.scripted_dram.specs.declared.due.Count.TheVariants.{Events, Suspensions}
use Rattle.scripted_dram.specs.ChangedStates.{StoredState, state_changed, states_changed}
use Rattle.scripted_dram.specs.ScriptMemory.{changes_at}
use Rattle.scripted_dram.specs.DueChanges.{awaited, is_due, is_below, is_above, is_now, goes_on, IsPassed}
use Rattle.scripted_dram.specs.StoredStates.{Store, store_changed, all_stored}

-- a change is due where its number is the count
is_due-awaited : (count : Count) (k : ℕ) (when : When) → is_due count k when ≡ is_now k (awaited count when)
is_due-awaited Events k Start = refl
is_due-awaited Events k (At n) = grind (arith, nat_tests)
is_due-awaited Events k (Suspend n) = refl
is_due-awaited Suspensions k Start = refl
is_due-awaited Suspensions k (At n) = refl
is_due-awaited Suspensions k (Suspend n) = refl

-- a number below the count is not the count
below_not_now : (k : ℕ) (number : Option ℕ) → is_below k number ≡ true → is_now k number ≡ false
below_not_now k None below = refl
below_not_now k (Some n) below = grind (arith, nat_tests)

-- a number above the count is not the count
above_not_now : (k : ℕ) (number : Option ℕ) → is_above k number ≡ true → is_now k number ≡ false
above_not_now k None above = grind arith
above_not_now k (Some n) above = grind (arith, nat_tests)

-- a number that is not above the count is below the next one
next_below : (k : ℕ) (number : Option ℕ) → is_above k number ≡ false → is_below (k + 1) number ≡ true
next_below k None above = refl
next_below k (Some n) above = grind (arith, nat_tests)

-- and so is one below the count
still_below : (k : ℕ) (number : Option ℕ) → is_below k number ≡ true → is_below (k + 1) number ≡ true
still_below k None below = refl
still_below k (Some n) below = grind (arith, nat_tests)

-- what stands after a number above the count has none below it
above_precedes : (count : Count) (k : ℕ) (first later : When) → is_above k (awaited count first) ≡ true → may_precede first later ≡ true → is_now k (awaited count later) ≡ false
above_precedes Events k Start later above order = grind arith
above_precedes Events k (At m) Start above order = refl
above_precedes Events k (At m) (At n) above order = grind (arith, nat_tests)
above_precedes Events k (At m) (Suspend n) above order = refl
above_precedes Events k (Suspend m) later above order = grind arith
above_precedes Suspensions k Start later above order = grind arith
above_precedes Suspensions k (At m) later above order = grind arith
above_precedes Suspensions k (Suspend m) Start above order = refl
above_precedes Suspensions k (Suspend m) (At n) above order = refl
above_precedes Suspensions k (Suspend m) (Suspend n) above order = grind (arith, nat_tests)

-- where each number is below the count, none is due
none_due : (count : Count) (k : ℕ) (changes : List Change) → list_all (λ change. is_below k (awaited count change.when)) changes ≡ true → changes_at (is_due count k) changes ≡ []
none_due count k [] below = refl
none_due count k (change ∷ changes) below =
    let parts = and_parts (is_below k (awaited count change.when)) (list_all (λ later. is_below k (awaited count later.when)) changes) below in
    let here : is_due count k change.when ≡ false =
    is_due-awaited count k change.when ∙ below_not_now k (awaited count change.when) parts.0 in
    rw here (none_due count k changes parts.1)

-- where a first number is above the count, none after it is due
none_due_after : (count : Count) (k : ℕ) (first : When) (changes : List Change) → is_above k (awaited count first) ≡ true → list_all (λ later. may_precede first later.when) changes ≡ true → changes_at (is_due count k) changes ≡ []
none_due_after count k first [] above order = refl
none_due_after count k first (change ∷ changes) above order =
    let parts = and_parts (may_precede first change.when) (list_all (λ later. may_precede first later.when) changes) order in
    let here : is_due count k change.when ≡ false =
    is_due-awaited count k change.when ∙ above_precedes count k first change.when above parts.0 in
    rw here (none_due_after count k first changes above parts.1)

-- where the cursor does not go on, none of the further changes is due
none_due_further : (count : Count) (k : ℕ) (changes : List Change) → goes_on count k changes ≡ false → are_in_order changes ≡ true → changes_at (is_due count k) changes ≡ []
none_due_further count k [] stops order = refl
none_due_further count k (change ∷ changes) stops order =
    let parts = and_parts (list_all (λ later. may_precede change.when later.when) changes) (are_in_order changes) order in
    let above : is_above k (awaited count change.when) ≡ true = sym (not-not (is_above k (awaited count change.when))) ∙ ap not stops in
    let here : is_due count k change.when ≡ false =
    is_due-awaited count k change.when ∙ above_not_now k (awaited count change.when) above in
    rw here (none_due_after count k change.when changes above parts.0)

-- further changes are in order too
are_in_order-drop : (i : ℕ) (changes : List Change) → are_in_order changes ≡ true → are_in_order (drop i changes) ≡ true
are_in_order-drop zero changes order = order
are_in_order-drop (suc i) [] order = order
are_in_order-drop (suc i) (change ∷ changes) order =
    are_in_order-drop i changes (and_parts (list_all (λ later. may_precede change.when later.when) changes) (are_in_order changes) order).1

-- changes that are done one after another
pub all_changed-append : (layout : Layout) (first further : List Change) (state : StoredState) → states_changed layout (first ++ further) state ≡ states_changed layout further (states_changed layout first state)
all_changed-append layout [] further state = refl
all_changed-append layout (change ∷ first) further state = all_changed-append layout first further (state_changed layout change.what state)

-- one change more, if it is due
pub one_stored : (due : Bool) (change : Change) (before : List Change) (store : Store) → (if due then store_changed change.what (all_stored before store) else all_stored before store) ≡ all_stored (before ++ cond due (change ∷ []) []) store
one_stored true change before store =
    ap (λ state. let made : Store = record { layout = store.layout; state = state } in made) (sym (all_changed-append store.layout before (change ∷ []) store.state))
one_stored false change before store = ap (λ changes. all_stored changes store) (sym (append-nil before))

-- one change more at a place of the script
pub more_stored : (test : When → Bool) (changes : List Change) (i : ℕ) (change : Change) (store before : Store) → i < length changes → change ≡ get_or changes i change → before ≡ all_stored (changes_at test (take i changes)) store →
    (if test change.when then store_changed change.what before else before) ≡ all_stored (changes_at test (take (i + 1) changes)) store
more_stored test changes i change store before below is done =
    let P : Change → Type 0 = λ here. changes_at test (take (i + 1) changes) ≡ changes_at test (take i changes) ++ cond (test here.when) (here ∷ []) [] in
    let more : P change = subst P (sym is) (filter_more (λ change. test change.when) changes i change below) in
    ap (λ store. if test change.when then store_changed change.what store else store) done
    ∙ one_stored (test change.when) change (changes_at test (take i changes)) store
    ∙ ap (λ changes. all_stored changes store) (sym more)

-- before any is done, none of those that the cursor has passed is due
pub none_passed : (count : Count) (k : ℕ) (changes : List Change) (cursor : ℕ) → IsPassed count k changes cursor → changes_at (is_due count k) (take cursor changes) ≡ []
none_passed count k changes cursor passed = none_due count k (take cursor changes) passed.before

-- numbers below the count are below the next one
all_still_below : (count : Count) (k : ℕ) (changes : List Change) → list_all (λ change. is_below k (awaited count change.when)) changes ≡ true → list_all (λ change. is_below (k + 1) (awaited count change.when)) changes ≡ true
all_still_below count k [] below = refl
all_still_below count k (change ∷ changes) below =
    let parts = and_parts (is_below k (awaited count change.when)) (list_all (λ later. is_below k (awaited count later.when)) changes) below in
    and_from _ _ (still_below k (awaited count change.when) parts.0) (all_still_below count k changes parts.1)

-- the cursor has passed the same changes at the next count
pub IsPassed-next : (count : Count) (k : ℕ) (changes : List Change) (cursor : ℕ) → IsPassed count k changes cursor → IsPassed count (k + 1) changes cursor
IsPassed-next count k changes cursor passed = record {
  within = passed.within;
  before = all_still_below count k (take cursor changes) passed.before;
}

-- and one change more that does not wait for a greater count
pub IsPassed-more : (count : Count) (k : ℕ) (changes : List Change) (cursor : ℕ) (change : Change) → IsPassed count (k + 1) changes cursor → cursor < length changes → change ≡ get_or changes cursor change → goes_on count k (drop cursor changes) ≡ true → IsPassed count (k + 1) changes (cursor + 1)
IsPassed-more count k changes cursor change passed below is goes =
    let P : Change → Type 0 = λ here. drop cursor changes ≡ here ∷ drop (cursor + 1) changes in
    let first : P change = subst P (sym is) (drop_more changes cursor change below) in
    let on : not (is_above k (awaited count change.when)) ≡ true = sym (ap (goes_on count k) first) ∙ goes in
    let above : is_above k (awaited count change.when) ≡ false = sym (not-not (is_above k (awaited count change.when))) ∙ ap not on in
    let Q : Change → Type 0 = λ here. is_below (k + 1) (awaited count here.when) ≡ true in
    let here : Q (get_or changes cursor change) = subst Q is (next_below k (awaited count change.when) above) in
    record {
      within = omega (arith, passed.within);
      before = list_all_more (λ change. is_below (k + 1) (awaited count change.when)) changes cursor change below ∙ and_from _ _ passed.before here;
    }

-- where the cursor stops, all that is due is done
pub all_done : (count : Count) (k : ℕ) (changes : List Change) (cursor : ℕ) → goes_on count k (drop cursor changes) ≡ false → are_in_order changes ≡ true → changes_at (is_due count k) (take cursor changes) ≡ changes_at (is_due count k) changes
all_done count k changes cursor stops order =
    let test : Change → Bool = λ change. is_due count k change.when in
    let further : changes_at (is_due count k) (drop cursor changes) ≡ [] =
    none_due_further count k (drop cursor changes) stops (are_in_order-drop cursor changes order) in
    sym (append-nil (changes_at (is_due count k) (take cursor changes)))
    ∙ ap (λ l. changes_at (is_due count k) (take cursor changes) ++ l) (sym further)
    ∙ sym (filter-append test (take cursor changes) (drop cursor changes))
    ∙ ap (filter test) (take-append-drop cursor changes)
