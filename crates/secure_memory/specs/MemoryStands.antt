-- Promise: when a secure memory stands on the trace of its bus.
use Rattle.std.specs.Prelude.{◌≡◌, ℕ, List}
use Rattle.regions.specs.declared.layout.Layout.{Layout}
use Rattle.off_chip.specs.declared.event.Event.{Event}
use Rattle.off_chip.specs.Histories.{history}
use Rattle.off_chip.specs.WriteBacks.{StampsFit}
use Rattle.line_cache.specs.LineMaps.{LineMap}
use Rattle.hash_tree.specs.TreeParts.{TreeParts, StandsOn as TreeStandsOn}
use Rattle.stamp_log.specs.LogState.{LogState}
use Rattle.stamp_log.specs.StandsOn.{StandsOn as LogStandsOn}
use Rattle.secure_memory.specs.PrivatePads.{Padding, hidden_payload}

-- the tree and its veil are of this layout, and the log has as many blocks
pub record IsOfLayout {L : Type 0} (layout : Layout) (tree : TreeParts L Padding) (log : LogState) : Type 0 where
  pub of_tree : tree.layout ≡ layout
  pub of_veil : tree.veil.layout ≡ layout
  pub of_log : log.blocks ≡ layout.log

-- the tree, whose cache has these lines, and the log stand on the trace, and the stamps fit it
pub record MemoryStands {L : Type 0} (layout : Layout) (tree : TreeParts L Padding) (lines : LineMap) (log : LogState) (stamps : ℕ) (trace : List Event) : Type 0 where
  pub parts : IsOfLayout layout tree log
  pub tree_stands : TreeStandsOn tree lines (hidden_payload tree.veil) trace
  pub log_stands : LogStandsOn log (history trace)
  pub stamps_fit : StampsFit stamps (history trace)
