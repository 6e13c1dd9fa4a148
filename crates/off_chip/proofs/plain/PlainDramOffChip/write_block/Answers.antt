use Rattle.std.proofs.Common.{rules, ◌≡◌, length, ap, ◌∙◌, arith}
use Rattle.off_chip.specs.declared.event.Event.TheVariants.{BlockWrite}
use Rattle.off_chip.specs.OffChipBytes.{bytes_put, start_in, start_of_place, stored}
use Rattle.off_chip.proofs.PlainMemory.{IsPlainMemory-put}
use Rattle.off_chip.proofs.plain.PlainDramOffChip.write_block.Goals as goal

pub invariant_of-self : goal.invariant_of-self
invariant_of-self c =
    let at = c.args.at in
    let block = c.args.block.now in
    let start : c.start_of.result ≡ start_of_place c.self.inside.layout at =
    c.start_of.ensures.value ∙ ap (λ n. start_in n at) c.self.invariant.counted in
    let memory = c.self.inside.memory.items in
    IsPlainMemory-put (BlockWrite at block) c.start_of.result (stored block) _ _ _ c.self.invariant tt (record { place = search rules; address = tt }) c.put_block.ensures.whole
    (ap (λ n. bytes_put n (stored block) memory) start)
    (c.put_block.ensures.bytes ∙ ap (bytes_put c.start_of.result (stored block)) c.deref_mut.ensures.value)
    (omega (arith, c.put_block.auto.memory, ap length c.deref_mut.ensures.value)) (omega (arith, c.deref_mut.ensures.len, ap length c.deref_mut.ensures.value))
    c.append.ensures.event.trace
