use Rattle.std.proofs.Common.{sym, arith}
use Rattle.line_cache.specs.LineMaps.{Holds}
use Rattle.hash_tree.proofs.CallLemmas.{stamps-below}
use Rattle.hash_tree.proofs.EvictLemmas.{back-fits}
use Rattle.hash_tree.proofs.FlushLemmas.{flushed-back}
use Rattle.hash_tree.proofs.tree.Tree.flush_line.Goals as goal

pub returns-then-dirty-clause-step : goal.returns-then-dirty-clause-step
returns-then-dirty-clause-step g c =
    let held : Holds (g.L.Lines.lines c.args.self.now.lines) c.args.block = rw (← c.self.view_is) (sym c.if-holds.ensures.value) in
    let below = stamps-below _ _ _ c.requires.fit c.requires.limit (c.requires.has_room held) in
    flushed-back _ _ _ _ _ _ _ _ _ c.write_back.ensures.step (rw (← c.self.view_is) c.if-dirty.ensures.value) (omega (arith, below, c.write_back.ensures.stamp))

pub returns-then-dirty-clause-fit : goal.returns-then-dirty-clause-fit
returns-then-dirty-clause-fit g c = back-fits _ _ _ _ _ _ c.write_back.ensures.step c.requires.fit c.write_back.ensures.stamp
