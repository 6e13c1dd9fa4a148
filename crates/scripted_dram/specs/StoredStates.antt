-- Device: what the storage of a scripted memory is.
use Rattle.std.specs.Prelude.{ℕ, ◌≡◌, ◌<◌, ◌^◌, List, Option, length}
use Rattle.aegis_num.specs.declared.limits.TheConstants.{SAVE_SLOTS}
use Rattle.regions.specs.declared.layout.Layout.{Layout}
use Rattle.adversary_script.specs.declared.change.What.{What}
use Rattle.adversary_script.specs.declared.change.Change.{Change}
use Rattle.regions.specs.Tree.{tree_blocks}
use Rattle.off_chip.specs.OffChipBytes.{size_of}
use Rattle.scripted_dram.specs.ChangedStates.{StoredState, state_changed, states_changed}

-- the layout, and memory and slots
pub record Store : Type 0 where
  pub layout : Layout
  pub state : StoredState

-- the store with other bytes in memory
abbrev pub with_memory : List ℕ → Store → Store
with_memory memory store = record { layout = store.layout; state = record { memory = memory; slots = store.state.slots } }

-- the store once a change was done
abbrev pub store_changed : What → Store → Store
store_changed what store = record { layout = store.layout; state = state_changed store.layout what store.state }

-- the store once changes were done, in order
abbrev pub all_stored : List Change → Store → Store
all_stored changes store = record { layout = store.layout; state = states_changed store.layout changes store.state }

-- the fields of a storage fit together
pub record IsStore (layout : Layout) (in_tree : ℕ) (memory : List ℕ) (kept : List (Option (List ℕ))) : Type 0 where
  pub counted : in_tree ≡ tree_blocks layout
  pub size : length memory ≡ size_of layout
  pub slots : length kept ≡ SAVE_SLOTS
  pub limit : length memory < 2 ^ 64
