use Rattle.std.proofs.Common.{◌≡◌, ℕ, Bool, true, false, if◌then◌else◌, List, [], ◌∷◌, refl, sym, ap, subst, ◌∙◌}
use Rattle.regions.specs.declared.layout.Layout.{Layout}
use Rattle.off_chip.specs.declared.event.Event.{Event}
use Rattle.off_chip.specs.OffChipBytes.{bytes_loaded, Holds, IsAnswered, after_event}
use Rattle.scripted_dram.specs.ChangedStates.{StoredState, states_changed}
use Rattle.off_chip.specs.Boundaries.{is_suspend}
use Rattle.scripted_dram.specs.ScriptMemory.{Moment, IsScripted, beginning, next}
use Rattle.scripted_dram.proofs.laws.plain_under_empty_script.Goals as goal

-- no change is done, suspended or not
none_done : (layout : Layout) (suspends : Bool) (state : StoredState) → states_changed layout (if suspends then [] else []) state ≡ state
none_done layout true state = refl
none_done layout false state = refl

-- events put what they write, and nothing else changes memory
memory_after : (layout : Layout) (event : Event) (moment : Moment) (memory : List ℕ) → moment.state.memory ≡ memory → (next layout [] event moment).state.memory ≡ after_event layout event memory
memory_after layout event moment memory is =
    ap (λ (state : StoredState). state.memory) (none_done layout (is_suspend event) (record { memory = after_event layout event moment.state.memory; slots = moment.state.slots }))
    ∙ ap (after_event layout event) is

plainly : (layout : Layout) (events : List Event) (moment : Moment) (memory : List ℕ) → moment.state.memory ≡ memory → IsScripted layout [] events moment → IsAnswered layout events memory
plainly layout [] moment memory is answered = tt
plainly layout (event ∷ events) moment memory is answered =
    let P : List ℕ → Type 0 = λ memory. Holds layout memory event in
    (subst P is answered.0, plainly layout events (next layout [] event moment) (after_event layout event memory) (memory_after layout event moment memory is) answered.1)

scripted : (layout : Layout) (events : List Event) (moment : Moment) (memory : List ℕ) → moment.state.memory ≡ memory → IsAnswered layout events memory → IsScripted layout [] events moment
scripted layout [] moment memory is answered = tt
scripted layout (event ∷ events) moment memory is answered =
    let P : List ℕ → Type 0 = λ memory. Holds layout memory event in
    (subst P (sym is) answered.0, scripted layout events (next layout [] event moment) (after_event layout event memory) (memory_after layout event moment memory is) answered.1)

pub returns : goal.returns
returns c = record {
  law = λ layout statics trace. (
    plainly layout trace (beginning layout statics []) (bytes_loaded layout statics) refl,
    scripted layout trace (beginning layout statics []) (bytes_loaded layout statics) refl,
  );
}
