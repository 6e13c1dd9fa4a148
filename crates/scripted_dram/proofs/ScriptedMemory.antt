-- One event more in a scripted memory.
use Rattle.std.proofs.Common.{◌≡◌, ℕ, Bool, true, false, ◌+◌, ◌≤◌, List, [], ◌∷◌, ◌++◌, length, refl, sym, ap, subst, ◌∙◌, if◌then◌else◌, arith}
use Rattle.std.proofs.lemmas.List.{length_push}
use Rattle.regions.specs.declared.layout.Layout.{Layout}
use Rattle.adversary_script.specs.declared.change.Change.{Change}
use Rattle.off_chip.specs.declared.event.Event.{Event}
use Rattle.off_chip.specs.OffChipBytes.{Holds, after_event}
use Rattle.scripted_dram.specs.ChangedStates.{StoredState, states_changed}
use Rattle.scripted_dram.specs.StoredStates.{Store, all_stored, with_memory}
use Rattle.off_chip.specs.Boundaries.{is_suspend}
use Rattle.scripted_dram.specs.ScriptMemory.{Moment, is_before_event, IsScripted, after_all, beginning, moment_after, changes_at, is_at_suspension, next, readied}
use Rattle.scripted_dram.specs.DueChanges.{IsPassed, is_due}
use Rattle.scripted_dram.specs.declared.due.Count.TheVariants.{Events, Suspensions}
use Rattle.scripted_dram.specs.ScriptedInvariant.{IsScriptedMemory}

-- the moment after one event more
after_all-more : (layout : Layout) (script : List Change) (events : List Event) (event : Event) (moment : Moment) → after_all layout script (events ++ event ∷ []) moment ≡ next layout script event (after_all layout script events moment)
after_all-more layout script [] event moment = refl
after_all-more layout script (first ∷ events) event moment = after_all-more layout script events event (next layout script first moment)

-- one event more is answered where it holds what stands in memory then
IsScripted-more : (layout : Layout) (script : List Change) (events : List Event) (event : Event) (moment : Moment) → IsScripted layout script events moment → Holds layout (readied layout script (after_all layout script events moment)).memory event → IsScripted layout script (events ++ event ∷ []) moment
IsScripted-more layout script [] event moment answered holds = (holds, tt)
IsScripted-more layout script (first ∷ events) event moment answered holds =
    (answered.0, IsScripted-more layout script events event (next layout script first moment) answered.1 holds)

-- a count of suspensions rises by one at most
one_at_most : (suspends : Bool) (k : ℕ) → (if suspends then k + 1 else k) ≤ k + 1
one_at_most true k = omega arith
one_at_most false k = omega arith

-- a storage, the cursors and the events of a memory, and the storage just before the next event
module _ {statics : List ℕ} {script : List Change} {trace : List Event} {suspensions next_at next_suspend : ℕ} (storage ready : Store)
    (is : IsScriptedMemory storage.layout statics script trace storage.state suspensions next_at next_suspend)
    (changes : List Change) (events : ℕ) (changes_are : changes ≡ script) (events_are : events ≡ length trace)
    (done : ready ≡ all_stored (changes_at (is_due Events events) changes) storage) where
  abbrev here : Moment
  here = record { state = storage.state; events = length trace; suspensions = suspensions }

  same_layout : ready.layout ≡ storage.layout
  same_layout = ap (λ (store : Store). store.layout) done

  is_ready : ready.state ≡ readied storage.layout script here
  is_ready =
      ap (λ (store : Store). store.state) done
      ∙ ap (λ k. states_changed storage.layout (changes_at (is_before_event k) changes) storage.state) events_are
      ∙ ap (λ all. states_changed storage.layout (changes_at (is_before_event (length trace)) all) storage.state) changes_are

  module _ (event : Event) (holds : Holds ready.layout ready.state.memory event) where
    holds_here : Holds storage.layout (readied storage.layout script here).memory event
    holds_here =
        let P : Layout → Type 0 = λ layout. Holds layout ready.state.memory event in
        let Q : StoredState → Type 0 = λ state. Holds storage.layout state.memory event in
        subst Q is_ready (subst P same_layout holds)

    -- a read holds what stands in memory then
    pub holds_told : Holds storage.layout (readied storage.layout script (after_all storage.layout script trace (beginning storage.layout statics script))).memory event
    holds_told =
        let P : Moment → Type 0 = λ moment. Holds storage.layout (readied storage.layout script moment).memory event in
        subst P (sym is.moment) holds_here

    module _ (new : Store) (new_trace : List Event) (new_suspensions new_at new_suspend : ℕ)
        (written : new ≡ all_stored (if is_suspend event then changes_at (is_at_suspension suspensions) changes else []) (with_memory (after_event ready.layout event ready.state.memory) ready))
        (counted : new_suspensions ≡ (if is_suspend event then suspensions + 1 else suspensions))
        (more : new_trace ≡ trace ++ event ∷ []) where
      state_is : new.state ≡ (moment_after storage.layout script event ready.state here).state
      state_is =
          ap (λ (store : Store). store.state) written
          ∙ ap (λ layout. states_changed layout (if is_suspend event then changes_at (is_at_suspension suspensions) changes else [])
          (record { memory = after_event layout event ready.state.memory; slots = ready.state.slots })) same_layout
          ∙ ap (λ all. states_changed storage.layout (if is_suspend event then changes_at (is_at_suspension suspensions) all else [])
          (record { memory = after_event storage.layout event ready.state.memory; slots = ready.state.slots })) changes_are

      long : length new_trace ≡ length trace + 1
      long = ap length more ∙ length_push trace event

      made : moment_after storage.layout script event ready.state here ≡ record { state = new.state; events = length new_trace; suspensions = new_suspensions }
      made =
          let built : StoredState → ℕ → ℕ → Moment = λ state events k. record { state = state; events = events; suspensions = k } in
          ap (λ state. built state (length trace + 1) (if is_suspend event then suspensions + 1 else suspensions)) (sym state_is)
          ∙ ap (λ events. built new.state events (if is_suspend event then suspensions + 1 else suspensions)) (sym long)
          ∙ ap (built new.state (length new_trace)) (sym counted)

      pub IsScriptedMemory-more : IsPassed Events (events + 1) changes new_at → IsPassed Suspensions new_suspensions changes new_suspend →
          IsScriptedMemory new.layout statics script new_trace new.state new_suspensions new_at new_suspend
      IsScriptedMemory-more at_passed suspend_passed =
          let layout : Layout = storage.layout in
          let start : Moment = beginning layout statics script in
          let P : Layout → Type 0 = λ layout. IsScriptedMemory layout statics script new_trace new.state new_suspensions new_at new_suspend in
          let new_layout : storage.layout ≡ new.layout = sym (ap (λ (store : Store). store.layout) written ∙ same_layout) in
          let R : List Event → Type 0 = λ events. IsScripted layout script events start in
          let Q : Moment → Type 0 = λ moment. Holds layout (readied layout script moment).memory event in
          let S : ℕ → Type 0 = λ k. IsPassed Events k changes new_at in
          let T : List Change → Type 0 = λ all. IsPassed Events (length new_trace) all new_at in
          let U : List Change → Type 0 = λ all. IsPassed Suspensions new_suspensions all new_suspend in
          let number : events + 1 ≡ length new_trace = ap (λ k. k + 1) events_are ∙ sym long in
          subst P new_layout (record {
            moment = ap (λ events. after_all layout script events start) more ∙ after_all-more layout script trace event start
                ∙ ap (next layout script event) is.moment ∙ ap (λ state. moment_after layout script event state here) (sym is_ready) ∙ made;
            answered = subst R (sym more) (IsScripted-more layout script trace event start is.answered (subst Q (sym is.moment) holds_here));
            events_passed = subst T changes_are (subst S number at_passed);
            suspensions_passed = subst U changes_are suspend_passed;
            few = omega (arith, is.few, long, counted, one_at_most (is_suspend event) suspensions);
          })
