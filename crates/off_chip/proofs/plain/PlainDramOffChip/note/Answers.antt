use Rattle.std.proofs.Common.{rules, refl}
use Rattle.off_chip.specs.declared.event.Event.TheVariants.{Note}
use Rattle.off_chip.proofs.PlainMemory.{IsPlainMemory-more, mark-inside}
use Rattle.off_chip.proofs.plain.PlainDramOffChip.note.Goals as goal

pub invariant_of-self : goal.invariant_of-self
invariant_of-self c = IsPlainMemory-more (Note c.args.mark) _ _ c.self.invariant tt (mark-inside _ c.args.mark (search rules)) tt refl refl c.append.ensures.event.trace
