use Rattle.std.proofs.Common.{◌≡◌, ◌≤◌, length}
use Rattle.regions.specs.Tree.{positions_of}
use Rattle.off_chip.specs.BusCalls.{TellsOnly}
use Rattle.off_chip.specs.Histories.{history}
use Rattle.off_chip.specs.WriteBacks.{StampsFit}
use Rattle.hash_tree.specs.HashTrees.{nodes_of}
use Rattle.hash_tree.specs.TreeParts.{StandsOn}
use Rattle.tree_list.proofs.play.play.Given as goal

-- the tree stands on the trace, and the stamps fit it
abbrev pub invariant-turns : goal.invariant-turns
invariant-turns g l = record {
  positions : 243 ≤ positions_of l.tree.layout;
  nodes : g.V.Veil.nodes l.tree.veil ≡ nodes_of l.tree.layout;
  stands : StandsOn l.tree (g.L.Lines.lines l.tree.lines) (g.V.Veil.veiled l.tree.veil) (g.O.OffChip.trace l.bus);
  fit : StampsFit l.stamps (history (g.O.OffChip.trace l.bus));
  told : TellsOnly l.tree.layout (g.O.OffChip.layout l.bus);
  expected : length l.expected ≡ 15552;
}
