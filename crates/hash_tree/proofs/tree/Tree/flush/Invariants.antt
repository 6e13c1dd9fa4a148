use Rattle.std.proofs.Common.{◌≡◌, ◌+◌, length}
use Rattle.off_chip.specs.Histories.{history}
use Rattle.off_chip.specs.WriteBacks.{StampsFit}
use Rattle.hash_tree.specs.HashTrees.{scheme_of, state_of}
use Rattle.hash_tree.specs.TreeParts.{SameTree}
use Rattle.hash_tree.specs.Flushes.{Flushed}
use Rattle.hash_tree.proofs.FlushLemmas.{Pending}
use Rattle.hash_tree.proofs.tree.Tree.flush.Given as goal

abbrev pub invariant-loop-below : goal.invariant-loop-below
invariant-loop-below g l = record {
  tree : SameTree l.initial.self l.self;
  does : Flushed (scheme_of l.initial.self.layout (g.V.Veil.veiled l.initial.self.veil)) l.below
      (state_of (g.L.Lines.lines l.initial.self.lines) l.initial.self.root (g.O.OffChip.trace l.initial.bus))
      (state_of (g.L.Lines.lines l.self.lines) l.self.root (g.O.OffChip.trace l.bus));
  pending : Pending (g.L.Lines.lines l.initial.self.lines) l.below (g.O.OffChip.room l.initial.bus) (g.O.OffChip.room l.bus);
  fit : StampsFit l.stamps (history (g.O.OffChip.trace l.bus));
  total : length (g.O.OffChip.trace l.bus) + g.O.OffChip.room l.bus ≡ length (g.O.OffChip.trace l.initial.bus) + g.O.OffChip.room l.initial.bus;
  same : g.O.OffChip.same_memory l.initial.bus l.bus;
}

abbrev pub decreases-loop-below : goal.decreases-loop-below
decreases-loop-below g l = l.below
