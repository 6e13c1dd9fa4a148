-- Promise: what is seen of a secure memory, when it is ready for an access, and which words it has.
use Rattle.std.specs.Prelude.{◌≡◌, ℕ, ◌*◌, ◌<◌, ◌≤◌, IsTrue, List, length, Option, Some}
use Rattle.aegis_num.specs.declared.storage.Place.{Place}
use Rattle.aegis_num.specs.declared.storage.Place.TheVariants.{Tree, Log}
use Rattle.regions.specs.declared.layout.Layout.{Layout}
use Rattle.regions.specs.declared.rights.Mode.{Mode}
use Rattle.off_chip.specs.declared.event.Event.{Event}
use Rattle.off_chip.specs.BusCalls.{TellsOnly}
use Rattle.off_chip.specs.Histories.{history}
use Rattle.line_cache.specs.LineMaps.{HoldParents, LineMap, payload_at}
use Rattle.hash_tree.specs.HashTrees.{scheme_of, state_of}
use Rattle.hash_tree.specs.Schemes.{Scheme}
use Rattle.hash_tree.specs.Standing.{State, contents}
use Rattle.hash_tree.specs.TreeParts.{TreeParts}
use Rattle.stamp_log.specs.LogState.{LogState, line_of}
use Rattle.stamp_log.specs.StandsOn.{contents_of}
use Rattle.secure_memory.specs.declared.memory.SecureMemory.{SecureMemory}
use Rattle.secure_memory.specs.BlockWords.{AreWordsAt, is_memory_block, place_at, start_at}
use Rattle.secure_memory.specs.MemoryStands.{MemoryStands}
use Rattle.secure_memory.specs.PrivatePads.{Padding, hidden_payload}

-- what is seen of a memory: its layout and mode, its tree with the lines of its cache, the blocks that are pinned, its log, its last stamp,
-- and of its bus the events so far, how many further ones there is room for, and the layout, where it tells one
pub record Sight (L : Type 0) : Type 0 where
  pub layout : Layout
  pub mode : Mode
  pub tree : TreeParts L Padding
  pub lines : LineMap
  pub pinned : List ℕ
  pub log : LogState
  pub stamps : ℕ
  pub trace : List Event
  pub room : ℕ
  pub told : Option Layout

-- by what is seen of its cache and of its bus
abbrev pub sight_of : {O L : Type 0} → (L → LineMap) → (O → List Event) → (O → ℕ) → (O → Option Layout) → SecureMemory O L → Sight L
sight_of lines trace room told memory = record {
  layout = memory.layout;
  mode = memory.mode_unit.mode;
  tree = memory.tree;
  lines = lines memory.tree.lines;
  pinned = memory.pins.blocks.items;
  log = memory.log;
  stamps = memory.stamps;
  trace = trace memory.lent.now;
  room = room memory.lent.now;
  told = told memory.lent.now;
}

-- a memory is ready for an access: it stands on its trace, what it pins are at most the blocks of one path, with their parents, and the bus has
-- its layout
pub record IsReady {L : Type 0} (sight : Sight L) : Type 0 where
  pub stands : MemoryStands sight.layout sight.tree sight.lines sight.log sight.stamps sight.trace
  pub parents : HoldParents sight.pinned
  pub few : length sight.pinned ≤ 9
  pub told : TellsOnly sight.layout sight.told

-- so many accesses are left: none where it is not ready, and else the room divided by 160
abbrev pub HasLeft : {L : Type 0} → Sight L → ℕ → Type 0
HasLeft sight n = 0 < n → IsReady sight × (160 * n ≤ sight.room)

-- the veil, the tree with it, and the state of the tree
abbrev pub veil_of : {L : Type 0} → Sight L → ℕ → ℕ → List ℕ → List ℕ
veil_of sight = hidden_payload sight.tree.veil

abbrev pub tree_scheme : {L : Type 0} → Sight L → Scheme
tree_scheme sight = scheme_of sight.layout (veil_of sight)

abbrev pub tree_state : {L : Type 0} → Sight L → State
tree_state sight = state_of sight.lines sight.tree.root sight.trace

-- the payload in the line of a block, if it has one, and the contents of the block
abbrev pub line_in : {L : Type 0} → Sight L → Place → Option (List ℕ)
line_in sight (Tree n) = payload_at sight.lines n
line_in sight (Log n) = line_of sight.log.lines n

abbrev pub contents_of_place : {L : Type 0} → Sight L → Place → Option (List ℕ)
contents_of_place sight (Tree n) = contents (tree_scheme sight) (tree_state sight) n
contents_of_place sight (Log n) = contents_of sight.log (history sight.trace) n

-- a memory of plain words agrees with what the lines have
pub record Agrees {L : Type 0} (sight : Sight L) (memory : ℕ → ℕ) : Type 0 where
  pub line : (place : Place) (payload : List ℕ) → IsTrue (is_memory_block sight.layout place) → line_in sight place ≡ Some payload
      → AreWordsAt memory (start_at sight.layout place) payload

-- a block has contents, which are the words of a memory of plain words from an address on
pub record HasWordsAt (memory : ℕ → ℕ) (start : ℕ) (contents : Option (List ℕ)) : Type 0 where
  pub payload : List ℕ
  pub is : contents ≡ Some payload
  pub words : AreWordsAt memory start payload

-- and so has each block
pub record HasContents {L : Type 0} (sight : Sight L) (memory : ℕ → ℕ) : Type 0 where
  pub block : (place : Place) → IsTrue (is_memory_block sight.layout place) → HasWordsAt memory (start_at sight.layout place) (contents_of_place sight place)

-- the block of an address has a line
pub record HasLine {L : Type 0} (at : ℕ) (sight : Sight L) : Type 0 where
  pub payload : List ℕ
  pub is : line_in sight (place_at sight.layout at) ≡ Some payload
