use Rattle.std.proofs.Common.{length, ap, refl, ◌∙◌, arith}
use Rattle.std.specs.Int.{w32, to_be_bytes}
use Rattle.off_chip.specs.declared.event.Event.TheVariants.{WordWrite}
use Rattle.off_chip.specs.OffChipBytes.{bytes_put}
use Rattle.off_chip.proofs.PlainMemory.{IsPlainMemory-put}
use Rattle.off_chip.proofs.plain.PlainDramOffChip.write_word.Goals as goal

pub invariant_of-self : goal.invariant_of-self
invariant_of-self c =
    let at = c.args.at in
    let word = c.args.word in
    IsPlainMemory-put (WordWrite c.args.by at word) at (to_be_bytes w32 word) _ _ _ c.self.invariant tt (record { place = tt; address = c.requires.word }) tt refl
    (c.put_word.ensures ∙ ap (bytes_put at (to_be_bytes w32 word)) c.deref_mut.ensures.value)
    (omega (arith, c.put_word.auto.memory, ap length c.deref_mut.ensures.value)) (omega (arith, c.deref_mut.ensures.len, ap length c.deref_mut.ensures.value)) c.append.ensures.event.trace
