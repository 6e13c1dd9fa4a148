use Rattle.std.proofs.Common.{[], List, ℕ, ◌∙◌, ap}
use Rattle.std.specs.Prelude.{slice_index_or}
use Rattle.stamp_log.specs.LogState.{LogState}
use Rattle.stamp_log.proofs.ContentLemmas.{contents-lent}
use Rattle.stamp_log.proofs.log.StampLog.payload.Goals as goal

pub returns-clause-contents : goal.returns-clause-contents
returns-clause-contents c = λ older. contents-lent c.args.self.now.lines older c.args.block c.payload.result.now c.requires.cached
    (c.payload.ensures.value ∙ ap (λ (l : LogState). slice_index_or l.lines.payloads c.args.block []) c.self.view_is)
