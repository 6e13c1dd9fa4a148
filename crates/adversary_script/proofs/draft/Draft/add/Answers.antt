use Rattle.std.proofs.Common.{sym, ap, ◌∙◌}
use Rattle.adversary_script.specs.ScriptGrammar.{ruled}
use Rattle.adversary_script.proofs.Drafts.{IsDraft-push}
use Rattle.adversary_script.proofs.draft.Draft.add.Goals as goal

pub invariant_of-self-2 : goal.invariant_of-self-2
invariant_of-self-2 c =
    let keeps = ap (λ changes. ruled changes c.args.change) c.self.view_is ∙ sym c.in_ok-rule.ensures in
    rw (c.in_ok-push.ensures.items, c.with-latest.ensures, c.bytes_written.ensures)
    (IsDraft-push c.self.inside.changes.items c.args.change c.self.inside.latest c.self.inside.bytes c.self.invariant keeps)
