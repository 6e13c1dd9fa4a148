use Rattle.std.proofs.Common.{◌≡◌, ◌-◌, suc, refl, ◌∙◌, arith}
use Rattle.hash_tree.proofs.FlushLemmas.{flushed-begin, flushed-next, pending-all, pending-less, pending-some}
use Rattle.hash_tree.proofs.SchemeLemmas.{keeps-veil}
use Rattle.hash_tree.proofs.tree.Tree.flush.Goals as goal

pub loop-below-init : goal.loop-below-init
loop-below-init g c = record {
  tree = record { veil = refl; layout = refl };
  does = rw (← c.self.view_is) (flushed-begin _ _ _ _ c.blocks_of_tree-below.ensures.value (rw (← c.self.view_is) at c.requires.stands));
  pending = pending-all _ _ _;
  fit = c.requires.fit;
  total = refl;
  same = g.met.O.OffChip.reflexive _;
}

pub flush_line-requires-clause-has_room : goal.flush_line-requires-clause-has_room
flush_line-requires-clause-has_room g c = λ held.
    let inv = c.loop-below.invariant in
    let most = (g.met.L.Lines.sound c.args.self.now.lines).at_most in
    pending-some _ _ _ _ _ _ inv.pending (omega (arith, most, c.requires.has_room)) (omega (arith, c.loop-below-test.true)) (inv.does.held _) held

pub loop-below-preserved : goal.loop-below-preserved
loop-below-preserved g c =
    let inv = c.loop-below.invariant in
    let v = c.self.inside.veil in
    let lawful = keeps-veil c.self.inside.layout (g.V.Veil.veiled v) (g.V.Veil.nodes v) c.self.invariant.0 (g.met.V.Veil.own_inverse v) (g.met.V.Veil.keeps_length v) (g.met.V.Veil.leaves_nodes v) in
    let next : c.loop-below.below ≡ suc (c.loop-below.below - 1) = omega (arith, c.loop-below-test.true) in
    let step = rw (inv.tree.layout, inv.tree.veil) at c.flush_line.ensures.step in
    record {
      tree = record { veil = c.flush_line.ensures.tree.veil ∙ inv.tree.veil; layout = c.flush_line.ensures.tree.layout ∙ inv.tree.layout };
      does = flushed-next _ (rw (← c.self.view_is) lawful) _ _ _ _ _ next inv.does step;
      pending = pending-less _ _ _ _ _ _ _ inv.pending next (inv.does.held _) c.flush_line.ensures.room c.flush_line.ensures.absent;
      fit = c.flush_line.ensures.fit;
      total = c.flush_line.ensures.total ∙ inv.total;
      same = g.met.O.OffChip.transitive _ _ _ inv.same c.flush_line.ensures.same;
    }
