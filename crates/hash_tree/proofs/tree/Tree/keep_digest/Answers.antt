use Rattle.std.proofs.Common.{ℕ, ◌<◌, arith, refl, sym, subst}
use Rattle.line_cache.specs.LineMaps.{Holds}
use Rattle.hash_tree.proofs.SlotLemmas.{keeps-child}
use Rattle.hash_tree.proofs.tree.Tree.keep_digest.Goals as goal

pub returns-else-block-eq0-clause-kept : goal.returns-else-block-eq0-clause-kept
returns-else-block-eq0-clause-kept g c =
    let above : 0 < c.args.block = omega (arith, c.if-block-eq0.false) in
    let held = subst (λ (k : ℕ). Holds (g.L.Lines.lines c.args.self.now.lines) k) (sym c.parent_of.ensures) (c.requires.parent above) in
    let here = rw (← c.self.view_is) at held in
    let lent = g.met.L.Lines.lent_lines c.self.inside.lines c.parent_of.result c.put_digest.new.payload here in
    rw (← c.self.view_is) (keeps-child _ _ _ _ _ _ _ _ _ _ _ c.if-block-eq0.false c.parent_of.ensures c.slot_of.ensures.value c.line_mut-payload.ensures.value c.put_digest.ensures lent refl)
