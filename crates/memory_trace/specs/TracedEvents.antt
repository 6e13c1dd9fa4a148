-- Promise: what is said of the events of a trace from a number on, and the same said of the trace in order.
use Rattle.std.specs.Prelude.{◌≡◌, ℕ, ◌≤◌, ⊤, List, ◌∷◌, ◌++◌, length, Option, Some, IfSome, IsTrue, ◌↔◌}
use Rattle.std.specs.Bool.{OnTrue}
use Rattle.aegis_num.specs.declared.Block.{Block}
use Rattle.aegis_num.specs.declared.Place.{Place}
use Rattle.aegis_num.specs.declared.Place.TheVariants.{Tree}
use Rattle.regions.specs.declared.Layout.{Layout}
use Rattle.off_chip.specs.declared.Event.{Event}
use Rattle.off_chip.specs.declared.Event.TheVariants.{BlockRead}
use Rattle.off_chip.specs.BlockPlaces.{named_place}
use Rattle.off_chip.specs.ExpectedDigests.{Digests, expected_digest, IsExpectedDigest}
use Rattle.off_chip.specs.FaithfulReads.{is_faithful, is_tree_read, IsFaithfulRead}
use Rattle.off_chip.specs.Histories.{History, history, in_order, Each}
use Rattle.off_chip.specs.OffChipBytes.{HasPlace}

-- a predicate of an event and of the history before it holds, where at least so many events stand before
abbrev pub From : ℕ → (Event → History → Type 0) → Event → History → Type 0
From entry P event older = entry ≤ length (in_order older) → P event older

-- ---- expected digests

-- a read of a tree block gave a block with the digest that was expected of it
abbrev pub HasExpectedDigest : Digests → Event → History → Type 0
HasExpectedDigest tree (BlockRead (Tree n) block) older = expected_digest tree n older ≡ Some (tree.digest n block)
HasExpectedDigest tree event older = ⊤

-- from an event number on, each did
pub record ReadsExpected (tree : Digests) (entry : ℕ) (older : History) : Type 0 where
  pub each : Each (From entry (HasExpectedDigest tree)) older

-- in order
pub record ReadsAreExpected (tree : Digests) (entry : ℕ) (trace : List Event) : Type 0 where
  pub each : (before : List Event) (n : ℕ) (block : Block) (rest : List Event) → trace ≡ before ++ BlockRead (Tree n) block ∷ rest → entry ≤ length before
      → IsExpectedDigest tree n before (tree.digest n block)

-- ---- faithful reads

-- from an event number on, each read of a tree block is faithful
pub record TreeFaithfulFrom (image : Place → Option (List ℕ)) (entry : ℕ) (older : History) : Type 0 where
  pub each : Each (From entry (λ event older. OnTrue (is_tree_read event) (IsTrue (is_faithful image event older)))) older

-- in order
pub record TreeReadsFaithfulFrom (image : Place → Option (List ℕ)) (entry : ℕ) (trace : List Event) : Type 0 where
  pub each : (before : List Event) (n : ℕ) (block : Block) (rest : List Event) → trace ≡ before ++ BlockRead (Tree n) block ∷ rest → entry ≤ length before
      → IsFaithfulRead image before (Tree n) block

-- ---- places

-- each block event and each Drop mark names a place that the layout has
pub record PlacesInside (layout : Layout) (older : History) : Type 0 where
  pub each : Each (λ event older. IfSome (named_place event) (HasPlace layout)) older

-- in order
pub record NamesInside (layout : Layout) (trace : List Event) : Type 0 where
  pub each : (before : List Event) (event : Event) (rest : List Event) (place : Place) → trace ≡ before ++ event ∷ rest → named_place event ≡ Some place → HasPlace layout place

-- traced events, of histories and in order
pub record TracedInOrder : Type 0 where
  pub expected : (tree : Digests) (entry : ℕ) (trace : List Event) → ReadsExpected tree entry (history trace) ↔ ReadsAreExpected tree entry trace
  pub faithful : (image : Place → Option (List ℕ)) (entry : ℕ) (trace : List Event) → TreeFaithfulFrom image entry (history trace) ↔ TreeReadsFaithfulFrom image entry trace
  pub inside : (layout : Layout) (trace : List Event) → PlacesInside layout (history trace) ↔ NamesInside layout trace
