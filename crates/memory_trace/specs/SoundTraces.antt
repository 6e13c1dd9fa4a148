-- Promise: what holds of the trace of a secure memory, whatever its bus answers.
use Rattle.std.specs.Prelude.{◌≡◌, ℕ, ◌<◌, List, Option, option_map}
use Rattle.aegis_num.specs.declared.Block.{Block}
use Rattle.aegis_num.specs.declared.Place.{Place}
use Rattle.aegis_num.specs.declared.Place.TheVariants.{Tree}
use Rattle.regions.specs.declared.Layout.{Layout}
use Rattle.regions.specs.Tree.{tree_blocks}
use Rattle.off_chip.specs.declared.Event.{Event}
use Rattle.off_chip.specs.Boundaries.{enter_events}
use Rattle.off_chip.specs.Collisions.{BlockCollision, Strings}
use Rattle.off_chip.specs.ExpectedDigests.{Digests, expected_digest}
use Rattle.off_chip.specs.Histories.{history}
use Rattle.off_chip.specs.HonestMemory.{AllWhole}
use Rattle.off_chip.specs.WriteBacks.{last_write}
use Rattle.hash_tree.specs.HashTrees.{digests_of, strings_hashed}
use Rattle.memory_trace.specs.TracedEvents.{PlacesInside, ReadsExpected, TreeFaithfulFrom}

-- no two events of a trace move tree blocks with two strings and one digest, and each block is whole, as those of a bus are
pub record IsClean (strings : Strings) (trace : List Event) : Type 0 where
  pub none : (first second : ℕ) → BlockCollision strings trace first second → ⊥
  pub whole : AllWhole trace

-- what holds of the tree where the trace is clean
pub record Honest (tree : Digests) (blocks entry : ℕ) (trace : List Event) : Type 0 where
  -- each read of a tree block after entering is faithful, whatever was loaded
  pub faithful : (image : Place → Option (List ℕ)) → TreeFaithfulFrom image entry (history trace)
  -- the digest that is expected of each block is that of its last write-back
  pub written : (n : ℕ) → n < blocks → expected_digest tree n (history trace) ≡ option_map (λ (block : Block). tree.digest n block) (last_write (Tree n) (history trace))

-- a trace of a memory in a layout
pub record IsSound (layout : Layout) (trace : List Event) : Type 0 where
  -- each read of a tree block after entering gave a block with the expected digest
  pub expected : ReadsExpected (digests_of layout) (enter_events layout) (history trace)
  -- where no two blocks of the tree collide, it was faithful
  pub honest : IsClean strings_hashed trace → Honest (digests_of layout) (tree_blocks layout) (enter_events layout) trace
  -- each block that an event names is one of the layout
  pub inside : PlacesInside layout (history trace)
