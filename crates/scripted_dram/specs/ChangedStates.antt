-- Promise: what the changes of a script do to off-chip memory.
use Rattle.std.specs.Prelude.{ℕ, ◌+◌, nat_lt, if◌then◌else◌, List, [], ◌∷◌, Option, None, Some, option_map, get_or, set}
use Rattle.aegis_num.specs.declared.storage.Place.{Place}
use Rattle.aegis_num.specs.declared.storage.Place.TheVariants.{Tree, Log}
use Rattle.regions.specs.declared.layout.Layout.{Layout}
use Rattle.regions.specs.declared.addresses.TheConstants.{STORED_BLOCK_BYTES}
use Rattle.regions.specs.Blocks.{data_blocks}
use Rattle.regions.specs.Tree.{leaf_of, tree_blocks}
use Rattle.adversary_script.specs.declared.change.Target.{Target}
use Rattle.adversary_script.specs.declared.change.Target.TheVariants as target
use Rattle.adversary_script.specs.declared.change.What.{What}
use Rattle.adversary_script.specs.declared.change.What.TheVariants.{Open, Bytes, Save, Back, Copy}
use Rattle.adversary_script.specs.declared.change.Change.{Change}
use Rattle.off_chip.specs.OffChipBytes.{bytes_at, bytes_put, start_of_place}

-- the bytes of off-chip memory, and the block that each slot keeps, if one was saved there
pub record StoredState : Type 0 where
  pub memory : List ℕ
  pub slots : List (Option (List ℕ))

-- the place of a data block
abbrev pub data_place : Layout → ℕ → Place
data_place layout n = Tree (leaf_of layout n)

-- the place of a target, if the layout has it
abbrev pub target_place : Layout → Target → Option Place
target_place layout (target.Data n) = if nat_lt n (data_blocks layout) then Some (data_place layout n) else None
target_place layout (target.Node n) = if nat_lt n (tree_blocks layout) then Some (Tree n) else None
target_place layout (target.Text n) =
    if nat_lt n layout.code then Some (data_place layout (layout.verified + layout.private + layout.constants + n)) else None
target_place layout (target.Log n) = if nat_lt n layout.log then Some (Log n) else None

-- where the bytes of a target begin, if the layout has it
abbrev pub start_of_target : Layout → Target → Option ℕ
start_of_target layout block = option_map (start_of_place layout) (target_place layout block)

-- the memory with bytes put from a place of a block on, if there is the block
abbrev pub put_in : Option ℕ → ℕ → List ℕ → List ℕ → List ℕ
put_in None at bytes memory = memory
put_in (Some start) at bytes memory = bytes_put (start + at) bytes memory

-- the memory with all bytes of one block put over another, if there are both
abbrev pub put_over : Option ℕ → Option (List ℕ) → List ℕ → List ℕ
put_over None from memory = memory
put_over (Some start) None memory = memory
put_over (Some start) (Some block) memory = bytes_put start block memory

-- all bytes of a block, if there is the block
abbrev pub stored_in : Option ℕ → List ℕ → Option (List ℕ)
stored_in None memory = None
stored_in (Some start) memory = Some (bytes_at start STORED_BLOCK_BYTES memory)

-- the slots with one of them keeping a block, if there is the block
abbrev pub kept_in : ℕ → Option (List ℕ) → List (Option (List ℕ)) → List (Option (List ℕ))
kept_in slot None slots = slots
kept_in slot (Some block) slots = set slots slot (Some block)

-- memory and slots once a change was done
abbrev pub state_changed : Layout → What → StoredState → StoredState
state_changed layout (Open at bytes) state = record { memory = bytes_put at bytes state.memory; slots = state.slots }
state_changed layout (Bytes block at bytes) state =
    record { memory = put_in (start_of_target layout block) at bytes state.memory; slots = state.slots }
state_changed layout (Save slot block) state =
    record { memory = state.memory; slots = kept_in slot (stored_in (start_of_target layout block) state.memory) state.slots }
state_changed layout (Back slot block) state =
    record { memory = put_over (start_of_target layout block) (get_or state.slots slot None) state.memory; slots = state.slots }
state_changed layout (Copy from to) state =
    record {
      memory = put_over (start_of_target layout to) (stored_in (start_of_target layout from) state.memory) state.memory;
      slots = state.slots;
    }

-- memory and slots once changes were done, in order
abbrev pub states_changed : Layout → List Change → StoredState → StoredState
states_changed layout [] state = state
states_changed layout (change ∷ changes) state = states_changed layout changes (state_changed layout change.what state)
