use Rattle.std.proofs.Common.{is_some, sym, ap, ◌∙◌}
use Rattle.line_cache.proofs.CacheLemmas.{contains_key-lines_at}
use Rattle.line_cache.proofs.cache.LineCacheLines.holds.Goals as goal

pub returns : goal.returns
returns c = record { value = rw (← c.self.view_is) (c.is_some.ensures ∙ ap is_some c.find.ensures.value ∙ sym (contains_key-lines_at c.self.inside.payloads.items c.self.inside.marks.items c.self.inside.slots.held c.args.block c.self.invariant.sound)) }
