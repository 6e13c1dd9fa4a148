-- Promise: what a tree is seen as.
use Rattle.std.specs.Prelude.{◌≡◌, ℕ, List}
use Rattle.regions.specs.declared.layout.Layout.{Layout}
use Rattle.off_chip.specs.declared.event.Event.{Event}
use Rattle.line_cache.specs.LineMaps.{LineMap}
use Rattle.hash_tree.specs.HashTrees.{scheme_of, state_of}
use Rattle.hash_tree.specs.Standing.{Stands}

-- its cache, its veil, the layout of the memory that it guards, and the digest of the root that is kept on the chip
pub record TreeParts (L V : Type 0) : Type 0 where
  pub lines : L
  pub veil : V
  pub layout : Layout
  pub root : List ℕ

-- the tree guards the same memory by the same veil
pub record SameTree {L V : Type 0} (old new : TreeParts L V) : Type 0 where
  pub veil : new.veil ≡ old.veil
  pub layout : new.layout ≡ old.layout

-- the tree with other lines
abbrev pub with_lines : {L V : Type 0} → TreeParts L V → (List ℕ → L) → List ℕ → TreeParts L V
with_lines tree lines left = record tree { lines = lines left }

-- the tree stands on a trace, where its cache has these lines and its veil is this one
abbrev pub StandsOn : {L V : Type 0} → TreeParts L V → LineMap → (ℕ → ℕ → List ℕ → List ℕ) → List Event → Type 0
StandsOn tree lines veiled trace = Stands (scheme_of tree.layout veiled) (state_of lines tree.root trace)
