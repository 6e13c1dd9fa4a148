use Rattle.std.proofs.Common.{◌≡◌, ◌+◌, [], length}
use Rattle.std.specs.FinMap.{len}
use Rattle.off_chip.specs.Histories.{history}
use Rattle.off_chip.specs.WriteBacks.{StampsFit}
use Rattle.hash_tree.specs.HashTrees.{scheme_of, state_of}
use Rattle.hash_tree.specs.TreeParts.{SameTree}
use Rattle.hash_tree.specs.TreeSteps.{Moved}
use Rattle.hash_tree.proofs.tree.Tree.make_room.Given as goal

abbrev pub invariant-loop-victim : goal.invariant-loop-victim
invariant-loop-victim g l = record {
  tree : SameTree l.initial.self l.self;
  does : Moved (scheme_of l.initial.self.layout (g.V.Veil.veiled l.initial.self.veil)) l.pins.blocks.items
      (state_of (g.L.Lines.lines l.initial.self.lines) l.initial.self.root (g.O.OffChip.trace l.initial.bus))
      (state_of (g.L.Lines.lines l.self.lines) l.self.root (g.O.OffChip.trace l.bus)) [];
  fit : StampsFit l.stamps (history (g.O.OffChip.trace l.bus));
  room : g.O.OffChip.room l.bus + len (g.L.Lines.lines l.initial.self.lines) ≡ g.O.OffChip.room l.initial.bus + len (g.L.Lines.lines l.self.lines);
  total : length (g.O.OffChip.trace l.bus) + g.O.OffChip.room l.bus ≡ length (g.O.OffChip.trace l.initial.bus) + g.O.OffChip.room l.initial.bus;
  same : g.O.OffChip.same_memory l.initial.bus l.bus;
}

abbrev pub decreases-loop-victim : goal.decreases-loop-victim
decreases-loop-victim g l = len (g.L.Lines.lines l.self.lines)
