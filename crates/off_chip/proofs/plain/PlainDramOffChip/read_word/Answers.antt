use Rattle.std.proofs.Common.{ap, refl, ◌∙◌}
use Rattle.off_chip.specs.declared.event.Event.TheVariants.{WordRead}
use Rattle.off_chip.specs.OffChipBytes.{bytes_at}
use Rattle.off_chip.proofs.PlainMemory.{IsPlainMemory-more}
use Rattle.off_chip.proofs.plain.PlainDramOffChip.read_word.Goals as goal

pub invariant_of-self : goal.invariant_of-self
invariant_of-self c =
    let holds = c.word_at-word.ensures ∙ ap (bytes_at c.args.at 4) c.deref.ensures.value in
    IsPlainMemory-more (WordRead c.args.by c.args.at c.word_at-word.result) _ _ c.self.invariant holds (record { place = tt; address = c.requires.word }) tt refl refl c.append.ensures.event.trace
