use Rattle.std.proofs.Common.{ap, ◌∙◌}
use Rattle.std.specs.FinMap.{len}
use Rattle.line_cache.specs.LineMaps.{LineMap, parent_block}
use Rattle.hash_tree.proofs.CallLemmas.{held-below, holds-clean}
use Rattle.hash_tree.proofs.EvictLemmas.{back-holds, keeps-len, len-clean, writes-back_payload}
use Rattle.hash_tree.proofs.tree.Tree.write_back.Goals as goal

pub write-digest-requires-clause-inside : goal.write-digest-requires-clause-inside
write-digest-requires-clause-inside g c = held-below _ _ _ _ _ _ c.requires.stands c.requires.held

pub keep_digest-requires : goal.keep_digest-requires
keep_digest-requires g c = record {
  parent = λ above.
      let parent = (g.met.L.Lines.sound c.args.self.now.lines).parents c.args.block c.requires.held above in
      let lines = rw (← c.self.view_is) at (holds-clean _ c.args.block (parent_block c.args.block) c.requires.held parent) in
      rw c.clean.ensures.lines lines;
}

pub returns-clause-step : goal.returns-clause-step
returns-clause-step g c =
    let stands = rw (← c.self.view_is) at c.requires.stands in
    let back = rw (← c.self.view_is) at c.write-digest.ensures.does in
    rw (← c.self.view_is) (writes-back_payload _ _ _ _ _ _ _ _ _ _ _ _ _ c.payload.ensures.value c.clean.ensures.lines (λ m line held. stands.long m line held)
    back c.write-digest.ensures.fit c.keep_digest.ensures.kept)

pub returns-clause-count : goal.returns-clause-count
returns-clause-count g c =
    keeps-len _ _ _ _ _ _ _ c.keep_digest.ensures.kept ∙ ap (λ (l : LineMap). len l) c.clean.ensures.lines
    ∙ rw (← c.self.view_is) (len-clean _ c.args.block (rw (← c.self.view_is) at c.requires.held))

pub returns-clause-childless : goal.returns-clause-childless
returns-clause-childless g c = λ childless child above is. back-holds _ _ _ _ _ _ _ _ _ (returns-clause-step g c) child ∙ childless child above is

pub returns-clause-held : goal.returns-clause-held
returns-clause-held g c = back-holds _ _ _ _ _ _ _ _ _ (returns-clause-step g c) c.args.block ∙ c.requires.held
