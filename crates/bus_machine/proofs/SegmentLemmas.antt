-- The bus machine over the history is the one over the steps, in order.
use Rattle.std.proofs.Common.{◌≡◌, ℕ, ◌+◌, ◌≤◌, Bool, true, false, cond, ◌&&◌, ◌||◌, eqb, leb, ltb, List, [], ◌∷◌, ◌++◌, length, take, drop, refl, sym, ap, ◌∙◌, arith, length-append}
use Rattle.std.specs.List.{slice_split, onto_first}
use Rattle.std.proofs.lemmas.Bool.{le-ltb, lt-ltb}
use Rattle.std.proofs.lemmas.List.{append-nil, append_assoc, take-append-drop, length-take-le}
use Rattle.execution.specs.Run.{Next, Goes, Stops, and_then}
use Rattle.regions.specs.declared.Layout.{Layout}
use Rattle.off_chip.specs.declared.event.Event.{Event}
use Rattle.off_chip.specs.Histories.{History, no_event, ◌◂◌, followed, history, in_order}
use Rattle.off_chip.specs.Boundaries.{is_retire, is_step, steps, since_step}
use Rattle.off_chip.proofs.HistoryLemmas.{history-append}
use Rattle.off_chip.proofs.BoundaryLemmas.{length-history}
use Rattle.off_chip.proofs.SplitLemmas.{nil-push, split-some}
use Rattle.std.proofs.lemmas.Bool.{ne_eqb, eq-eqb, le-leb}
use Rattle.orbis_core.specs.Ideal.{Ideal, IdealEnd}
use Rattle.bus_machine.specs.BusMachine.{LoadedProgram, Veil, blocks_taken, bus_after, bus_goes_on, bus_start, bus_step, bus_step_after, memory_after, with_reads}
use Rattle.bus_machine.specs.BusSegments.{BusInSteps, step_over, steps_over}

and-true : (b : Bool) → (b && true) ≡ b
and-true true = refl
and-true false = refl

-- after entering, a retirement ends a step, and nothing else does
step-entered : (entry : ℕ) (event : Event) (older : History) → entry ≤ length (in_order older) → is_step entry (event ◂ older) ≡ is_retire event
step-entered entry event older entered =
    let more : length (in_order (event ◂ older)) ≡ length (in_order older) + 1 = length-append (in_order older) (event ∷ []) in
    let e : eqb (length (in_order (event ◂ older))) entry ≡ false =
    ne_eqb (length (in_order (event ◂ older))) entry (λ same. let no_such : ⊥ = omega (arith, same, more, entered) in no_such) in
    let l : leb entry (length (in_order (event ◂ older))) ≡ true = le-leb entry (length (in_order (event ◂ older))) (omega (arith, more, entered)) in
    ap (λ (b : Bool). (b || is_retire event) && leb entry (length (in_order (event ◂ older)))) e ∙ ap (λ (b : Bool). is_retire event && b) l ∙ and-true (is_retire event)

since_step-entered : (entry : ℕ) (older : History) → length (in_order older) ≡ entry → since_step entry older ≡ []
since_step-entered entry no_event long = refl
since_step-entered entry (event ◂ older) long =
    ap (λ (b : Bool). cond ((b || is_retire event) && leb entry (length (in_order (event ◂ older)))) [] (since_step entry older ++ event ∷ []))
    (eq-eqb (length (in_order (event ◂ older))) entry long)
    ∙ ap (λ (b : Bool). cond b [] (since_step entry older ++ event ∷ [])) (le-leb entry (length (in_order (event ◂ older))) (omega (arith, long)))

-- later reads are taken after earlier ones
pub taken-append : (layout : Layout) (veil : Veil) (first more : List Event) (memory : ℕ → ℕ)
    → blocks_taken layout veil (first ++ more) memory ≡ blocks_taken layout veil more (blocks_taken layout veil first memory)
taken-append layout veil [] more memory = refl
taken-append layout veil (event ∷ first) more memory = taken-append layout veil first more (memory_after layout veil event memory)

reads-append : (layout : Layout) (veil : Veil) (first more : List Event) (now : Next Ideal IdealEnd)
    → with_reads layout veil (first ++ more) now ≡ with_reads layout veil more (with_reads layout veil first now)
reads-append layout veil first more (Goes state) =
    ap (λ (m : ℕ → ℕ). Goes (record state { memory = m })) (taken-append layout veil first more state.memory)
reads-append layout veil first more (Stops end state) = refl

pub reads-none : (layout : Layout) (veil : Veil) (now : Next Ideal IdealEnd) → with_reads layout veil [] now ≡ now
reads-none layout veil (Goes state) = refl
reads-none layout veil (Stops end state) = refl

step-reads : (layout : Layout) (veil : Veil) (events : List Event) (now : Next Ideal IdealEnd)
    → and_then (with_reads layout veil events now) (bus_step layout events) ≡ and_then now (step_over layout veil events)
step-reads layout veil events (Goes state) = refl
step-reads layout veil events (Stops end state) = refl

-- ---- before the end of entering

pub bus-start : (entry : ℕ) (veil : Veil) (program : LoadedProgram) (older : History) → length (in_order older) ≤ entry → bus_after entry veil program older ≡ bus_start program
bus-start entry veil program no_event short = refl
bus-start entry veil program (event ◂ older) short =
    let more : length (in_order (event ◂ older)) ≡ length (in_order older) + 1 = length-append (in_order older) (event ∷ []) in
    let below : ltb (length (in_order older)) entry ≡ true = lt-ltb (length (in_order older)) entry (omega (arith, more, short)) in
    ap (λ (b : Bool). cond b (bus_start program) (bus_goes_on entry program.layout veil event older (bus_after entry veil program older))) below

-- ---- after it

pub bus-goes-on : (entry : ℕ) (veil : Veil) (program : LoadedProgram) (event : Event) (older : History) → entry ≤ length (in_order older)
    → bus_after entry veil program (event ◂ older) ≡ bus_goes_on entry program.layout veil event older (bus_after entry veil program older)
bus-goes-on entry veil program event older entered =
    ap (λ (b : Bool). cond b (bus_start program) (bus_goes_on entry program.layout veil event older (bus_after entry veil program older)))
    (le-ltb (length (in_order older)) entry entered)

-- these events before the first part
abbrev onto : List Event → List (List Event) → List (List Event)
onto events [] = events ∷ []
onto events (part ∷ parts) = (events ++ part) ∷ parts

onto-none : (parts : List (List Event)) → (parts ≡ [] → ⊥) → onto [] parts ≡ parts
onto-none [] some = absurd (some refl)
onto-none (part ∷ parts) some = refl

onto-more : (events : List Event) (event : Event) (parts : List (List Event)) → (parts ≡ [] → ⊥) → onto events (onto_first event parts) ≡ onto (events ++ event ∷ []) parts
onto-more events event [] some = absurd (some refl)
onto-more events event (part ∷ parts) some = ap (λ (p : List Event). p ∷ parts) (sym (append_assoc events (event ∷ []) part))

-- all steps but the last are done, and the reads of the last are taken
abbrev now_in : Layout → Veil → List (List Event) → Next Ideal IdealEnd → Next Ideal IdealEnd
now_in layout veil [] now = now
now_in layout veil (last ∷ []) now = with_reads layout veil last now
now_in layout veil (events ∷ (more ∷ rest)) now = now_in layout veil (more ∷ rest) (and_then now (step_over layout veil events))

now-cons : (layout : Layout) (veil : Veil) (events : List Event) (parts : List (List Event)) (now : Next Ideal IdealEnd) → (parts ≡ [] → ⊥)
    → now_in layout veil (events ∷ parts) now ≡ now_in layout veil parts (and_then now (step_over layout veil events))
now-cons layout veil events [] now some = absurd (some refl)
now-cons layout veil events (part ∷ parts) now some = refl

now-last : (layout : Layout) (veil : Veil) (done : List (List Event)) (last : List Event) (now : Next Ideal IdealEnd)
    → now_in layout veil (done ++ last ∷ []) now ≡ with_reads layout veil last (steps_over layout veil done now)
now-last layout veil [] last now = refl
now-last layout veil (events ∷ done) last now =
    now-cons layout veil events (done ++ last ∷ []) now (λ none. nil-push done last (sym none)) ∙ now-last layout veil done last (and_then now (step_over layout veil events))

-- after a history that has entered, these are the events of the step under way, and the machine stood so at its boundary
pub record StandsIn (entry : ℕ) (veil : Veil) (program : LoadedProgram) (older : History) (events : List Event) (before : Next Ideal IdealEnd) : Type 0 where
  pub entered : entry ≤ length (in_order older)
  pub since : since_step entry older ≡ events
  pub now : bus_after entry veil program older ≡ with_reads program.layout veil events before

module _ (entry : ℕ) (veil : Veil) (program : LoadedProgram) where
  longer : (event : Event) (older : History) → entry ≤ length (in_order older) → entry ≤ length (in_order (event ◂ older))
  longer event older entered =
      let more : length (in_order (event ◂ older)) ≡ length (in_order older) + 1 = length-append (in_order older) (event ∷ []) in
      omega (arith, more, entered)

  pub retires : (event : Event) (older : History) (events : List Event) (before : Next Ideal IdealEnd) → is_retire event ≡ true → StandsIn entry veil program older events before
      → StandsIn entry veil program (event ◂ older) [] (and_then before (step_over program.layout veil events))
  retires event older events before done at = record {
    entered = longer event older at.entered;
    since = ap (λ (b : Bool). cond b [] (since_step entry older ++ event ∷ [])) (step-entered entry event older at.entered ∙ done);
    now = bus-goes-on entry veil program event older at.entered
        ∙ ap (λ (b : Bool). cond b (and_then (bus_after entry veil program older) (bus_step program.layout (since_step entry older)))
        (with_reads program.layout veil (event ∷ []) (bus_after entry veil program older))) done
        ∙ ap (λ (n : Next Ideal IdealEnd). and_then n (bus_step program.layout (since_step entry older))) at.now
        ∙ ap (λ (e : List Event). and_then (with_reads program.layout veil events before) (bus_step program.layout e)) at.since
        ∙ step-reads program.layout veil events before
        ∙ sym (reads-none program.layout veil (and_then before (step_over program.layout veil events)));
  }

  pub stays : (event : Event) (older : History) (events : List Event) (before : Next Ideal IdealEnd) → is_retire event ≡ false → StandsIn entry veil program older events before
      → StandsIn entry veil program (event ◂ older) (events ++ event ∷ []) before
  stays event older events before other at = record {
    entered = longer event older at.entered;
    since = ap (λ (b : Bool). cond b [] (since_step entry older ++ event ∷ [])) (step-entered entry event older at.entered ∙ other)
        ∙ ap (λ (e : List Event). e ++ event ∷ []) at.since;
    now = bus-goes-on entry veil program event older at.entered
        ∙ ap (λ (b : Bool). cond b (and_then (bus_after entry veil program older) (bus_step program.layout (since_step entry older)))
        (with_reads program.layout veil (event ∷ []) (bus_after entry veil program older))) other
        ∙ ap (λ (n : Next Ideal IdealEnd). with_reads program.layout veil (event ∷ []) n) at.now
        ∙ sym (reads-append program.layout veil events (event ∷ []) before);
  }

  some-parts : (rest : List Event) → slice_split is_retire rest ≡ [] → ⊥
  some-parts rest none = split-some is_retire rest none

  followed-now : (rest : List Event) (older : History) (events : List Event) (before : Next Ideal IdealEnd) → StandsIn entry veil program older events before
      → bus_after entry veil program (followed older rest) ≡ now_in program.layout veil (onto events (slice_split is_retire rest)) before
  followed-now [] older events before at = at.now ∙ ap (λ (e : List Event). with_reads program.layout veil e before) (sym (append-nil events))
  followed-now (event ∷ rest) older events before at = by (is_retire event) refl (followed-now rest)
    where
      by : (b : Bool) → is_retire event ≡ b
          → ((older : History) (events : List Event) (before : Next Ideal IdealEnd) → StandsIn entry veil program older events before
          → bus_after entry veil program (followed older rest) ≡ now_in program.layout veil (onto events (slice_split is_retire rest)) before)
          → bus_after entry veil program (followed (event ◂ older) rest)
          ≡ now_in program.layout veil (onto events (slice_split is_retire (event ∷ rest))) before
      by true done ih =
          ih (event ◂ older) [] (and_then before (step_over program.layout veil events)) (retires event older events before done at)
          ∙ ap (λ (parts : List (List Event)). now_in program.layout veil parts (and_then before (step_over program.layout veil events)))
          (onto-none (slice_split is_retire rest) (some-parts rest))
          ∙ sym (now-cons program.layout veil events (slice_split is_retire rest) before (some-parts rest))
          ∙ ap (λ (e : List Event). now_in program.layout veil (e ∷ slice_split is_retire rest) before) (sym (append-nil events))
          ∙ ap (λ (c : Bool). now_in program.layout veil (onto events (cond c ([] ∷ slice_split is_retire rest) (onto_first event (slice_split is_retire rest)))) before) (sym done)
      by false other ih =
          ih (event ◂ older) (events ++ event ∷ []) before (stays event older events before other at)
          ∙ ap (λ (parts : List (List Event)). now_in program.layout veil parts before) (sym (onto-more events event (slice_split is_retire rest) (some-parts rest)))
          ∙ ap (λ (c : Bool). now_in program.layout veil (onto events (cond c ([] ∷ slice_split is_retire rest) (onto_first event (slice_split is_retire rest)))) before) (sym other)

  followed-next : (rest : List Event) (older : History) (events : List Event) (before : Next Ideal IdealEnd) → StandsIn entry veil program older events before
      → bus_step_after entry veil program (followed older rest) ≡ steps_over program.layout veil (onto events (slice_split is_retire rest)) before
  followed-next [] older events before at =
      ap (λ (n : Next Ideal IdealEnd). and_then n (bus_step program.layout (since_step entry older))) at.now
      ∙ ap (λ (e : List Event). and_then (with_reads program.layout veil events before) (bus_step program.layout e)) at.since
      ∙ step-reads program.layout veil events before
      ∙ ap (λ (e : List Event). and_then before (step_over program.layout veil e)) (sym (append-nil events))
  followed-next (event ∷ rest) older events before at = by (is_retire event) refl (followed-next rest)
    where
      by : (b : Bool) → is_retire event ≡ b
          → ((older : History) (events : List Event) (before : Next Ideal IdealEnd) → StandsIn entry veil program older events before
          → bus_step_after entry veil program (followed older rest) ≡ steps_over program.layout veil (onto events (slice_split is_retire rest)) before)
          → bus_step_after entry veil program (followed (event ◂ older) rest)
          ≡ steps_over program.layout veil (onto events (slice_split is_retire (event ∷ rest))) before
      by true done ih =
          ih (event ◂ older) [] (and_then before (step_over program.layout veil events)) (retires event older events before done at)
          ∙ ap (λ (parts : List (List Event)). steps_over program.layout veil parts (and_then before (step_over program.layout veil events)))
          (onto-none (slice_split is_retire rest) (some-parts rest))
          ∙ ap (λ (e : List Event). steps_over program.layout veil (e ∷ slice_split is_retire rest) before) (sym (append-nil events))
          ∙ ap (λ (c : Bool). steps_over program.layout veil (onto events (cond c ([] ∷ slice_split is_retire rest) (onto_first event (slice_split is_retire rest)))) before) (sym done)
      by false other ih =
          ih (event ◂ older) (events ++ event ∷ []) before (stays event older events before other at)
          ∙ ap (λ (parts : List (List Event)). steps_over program.layout veil parts before) (sym (onto-more events event (slice_split is_retire rest) (some-parts rest)))
          ∙ ap (λ (c : Bool). steps_over program.layout veil (onto events (cond c ([] ∷ slice_split is_retire rest) (onto_first event (slice_split is_retire rest)))) before) (sym other)

  -- where entering is over
  pub enters : (older : History) → length (in_order older) ≡ entry → StandsIn entry veil program older [] (bus_start program)
  enters older long = record {
    entered = omega (arith, long);
    since = since_step-entered entry older long;
    now = bus-start entry veil program older (omega (arith, long)) ∙ sym (reads-none program.layout veil (bus_start program));
  }

  module _ (trace : List Event) (entered : entry ≤ length trace) where
    start-long : length (in_order (history (take entry trace))) ≡ entry
    start-long = length-history (take entry trace) ∙ length-take-le entry trace entered

    cut : history trace ≡ followed (history (take entry trace)) (drop entry trace)
    cut = history-append trace (take entry trace) (drop entry trace) (sym (take-append-drop entry trace))

    pub trace-now : bus_after entry veil program (history trace) ≡ now_in program.layout veil (steps entry trace) (bus_start program)
    trace-now =
        ap (λ (h : History). bus_after entry veil program h) cut
        ∙ followed-now (drop entry trace) (history (take entry trace)) [] (bus_start program) (enters (history (take entry trace)) start-long)
        ∙ ap (λ (parts : List (List Event)). now_in program.layout veil parts (bus_start program)) (onto-none (steps entry trace) (some-parts (drop entry trace)))

    pub trace-next : bus_step_after entry veil program (history trace) ≡ steps_over program.layout veil (steps entry trace) (bus_start program)
    trace-next =
        ap (λ (h : History). bus_step_after entry veil program h) cut
        ∙ followed-next (drop entry trace) (history (take entry trace)) [] (bus_start program) (enters (history (take entry trace)) start-long)
        ∙ ap (λ (parts : List (List Event)). steps_over program.layout veil parts (bus_start program)) (onto-none (steps entry trace) (some-parts (drop entry trace)))

pub in-steps : BusInSteps
in-steps = record {
  now = λ entry veil program trace done last entered same.
      trace-now entry veil program trace entered
      ∙ ap (λ (parts : List (List Event)). now_in program.layout veil parts (bus_start program)) same
      ∙ now-last program.layout veil done last (bus_start program);
  next = λ entry veil program trace entered. trace-next entry veil program trace entered;
}
