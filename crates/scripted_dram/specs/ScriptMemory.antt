-- Promise: off-chip memory under a script, a fold over one finished trace.
use Rattle.std.specs.Prelude.{ℕ, ◌+◌, nat_eq, nat_le, nat_lt, Bool, true, false, not, ◌&&◌, if◌then◌else◌, List, [], ◌∷◌, None, replicate}
use Rattle.std.specs.List.{filter}
use Rattle.aegis_num.specs.declared.limits.TheConstants.{SAVE_SLOTS}
use Rattle.regions.specs.declared.layout.Layout.{Layout}
use Rattle.adversary_script.specs.declared.change.When.{When}
use Rattle.adversary_script.specs.declared.change.When.TheVariants.{Start, At, Suspend}
use Rattle.adversary_script.specs.declared.change.Change.{Change}
use Rattle.off_chip.specs.declared.event.Event.{Event}
use Rattle.off_chip.specs.Boundaries.{is_suspend}
use Rattle.off_chip.specs.OffChipBytes.{bytes_loaded, Holds, after_event}
use Rattle.scripted_dram.specs.ChangedStates.{StoredState, states_changed}

-- memory and slots, how many events there were, and how many of these were the mark Suspend
pub record Moment : Type 0 where
  pub state : StoredState
  pub events : ℕ
  pub suspensions : ℕ

-- the change is a `start`
abbrev pub is_at_start : When → Bool
is_at_start Start = true
is_at_start (At n) = false
is_at_start (Suspend n) = false

-- the change is an `at N` with N at most the number of the next event, and was not done yet: before each earlier event
-- those with N at most its number were
abbrev pub is_before_event : ℕ → When → Bool
is_before_event k Start = false
is_before_event k (At n) = nat_le n k && not (nat_lt n k)
is_before_event k (Suspend n) = false

-- the change is a `suspend` of this suspension
abbrev pub is_at_suspension : ℕ → When → Bool
is_at_suspension k Start = false
is_at_suspension k (At n) = false
is_at_suspension k (Suspend n) = nat_eq n k

-- the changes that are done at such a moment, in order
abbrev pub changes_at : (When → Bool) → List Change → List Change
changes_at test script = filter (λ change. test change.when) script

-- what memory begins with: the load, with the `start` changes done
abbrev pub beginning : Layout → List ℕ → List Change → Moment
beginning layout statics script = record {
  state = states_changed layout (changes_at is_at_start script) (record { memory = bytes_loaded layout statics; slots = replicate SAVE_SLOTS None });
  events = 0;
  suspensions = 0;
}

-- memory just before the next event: the changes that are due are done
abbrev pub readied : Layout → List Change → Moment → StoredState
readied layout script moment = states_changed layout (changes_at (is_before_event moment.events) script) moment.state

-- the moment after an event, from memory just before it: a write puts its bytes, and the suspension of number K, counted
-- from 0, is followed by the `suspend K` changes
abbrev pub moment_after : Layout → List Change → Event → StoredState → Moment → Moment
moment_after layout script event ready moment = record {
  state = states_changed layout (if is_suspend event then changes_at (is_at_suspension moment.suspensions) script else [])
      (record { memory = after_event layout event ready.memory; slots = ready.slots });
  events = moment.events + 1;
  suspensions = if is_suspend event then moment.suspensions + 1 else moment.suspensions;
}

-- the moment after the next event
abbrev pub next : Layout → List Change → Event → Moment → Moment
next layout script event moment = moment_after layout script event (readied layout script moment) moment

-- the moment after events
abbrev pub after_all : Layout → List Change → List Event → Moment → Moment
after_all layout script [] moment = moment
after_all layout script (event ∷ events) moment = after_all layout script events (next layout script event moment)

-- each read of the events holds the bytes that stand at its place just before it
abbrev pub IsScripted : Layout → List Change → List Event → Moment → Type 0
IsScripted layout script [] moment = Unit {0}
IsScripted layout script (event ∷ events) moment =
    Holds layout (readied layout script moment).memory event × IsScripted layout script events (next layout script event moment)

-- a trace is answered by a script, over the load of a layout and its static blocks
abbrev pub IsAnsweredBy : Layout → List ℕ → List Change → List Event → Type 0
IsAnsweredBy layout statics script trace = IsScripted layout script trace (beginning layout statics script)
