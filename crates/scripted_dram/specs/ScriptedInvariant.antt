-- Device: what the fields of a scripted memory keep.
use Rattle.std.specs.Prelude.{ℕ, ◌≡◌, ◌≤◌, List, length}
use Rattle.regions.specs.declared.layout.Layout.{Layout}
use Rattle.adversary_script.specs.declared.change.Change.{Change}
use Rattle.off_chip.specs.declared.event.Event.{Event}
use Rattle.scripted_dram.specs.ChangedStates.{StoredState}
use Rattle.scripted_dram.specs.ScriptMemory.{IsScripted, after_all, beginning}
use Rattle.scripted_dram.specs.DueChanges.{IsPassed}
use Rattle.scripted_dram.specs.declared.due.Count.TheVariants.{Events, Suspensions}

-- the storage is what the script makes of it after these events, it answered each read, and the cursors stand where the
-- changes that were done end
pub record IsScriptedMemory (layout : Layout) (statics : List ℕ) (script : List Change) (trace : List Event)
    (state : StoredState) (suspensions next_at next_suspend : ℕ) : Type 0 where
  pub moment : after_all layout script trace (beginning layout statics script) ≡ record { state = state; events = length trace; suspensions = suspensions }
  pub answered : IsScripted layout script trace (beginning layout statics script)
  pub events_passed : IsPassed Events (length trace) script next_at
  pub suspensions_passed : IsPassed Suspensions suspensions script next_suspend
  pub few : suspensions ≤ length trace
