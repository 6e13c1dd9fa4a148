-- What follows where a byte of a line is changed.
use Rattle.std.proofs.Common.{◌≡◌, ℕ, List, length, arith}
use Rattle.regions.specs.declared.layout.Layout.{Layout}
use Rattle.regions.specs.Tree.{leaf_of}
use Rattle.off_chip.specs.declared.event.Event.{Event}
use Rattle.line_cache.specs.LineMaps.{LineMap, Holds, with_payload}
use Rattle.hash_tree.specs.HashTrees.{scheme_of, state_of}
use Rattle.hash_tree.specs.Schemes.{IsLawful}
use Rattle.hash_tree.specs.Standing.{Stands}
use Rattle.hash_tree.proofs.LawProofs.{lending-law}

-- the tree stands on, whatever is left in the line
pub stands-left : (layout : Layout) (veiled : ℕ → ℕ → List ℕ → List ℕ) → IsLawful (scheme_of layout veiled) → (lines : LineMap) (root : List ℕ) (trace : List Event) (position : ℕ) (left : List ℕ)
    → Stands (scheme_of layout veiled) (state_of lines root trace) → Holds lines (leaf_of layout position) → length left ≡ 64
    → Stands (scheme_of layout veiled) (state_of (with_payload lines (leaf_of layout position) left) root trace)
unfolding scheme_of
stands-left layout veiled lawful lines root trace position left stands held long =
    (lending-law (scheme_of layout veiled) lines root trace (leaf_of layout position) left lawful stands (omega arith) held long).stands
