use Rattle.std.proofs.Common.{rules, ◌≡◌, ap, refl, ◌∙◌}
use Rattle.off_chip.specs.declared.event.Event.TheVariants.{BlockRead}
use Rattle.off_chip.specs.OffChipBytes.{bytes_at, start_in, start_of_place}
use Rattle.regions.specs.declared.addresses.TheConstants.{STORED_BLOCK_BYTES}
use Rattle.off_chip.proofs.PlainMemory.{IsPlainMemory-more}
use Rattle.off_chip.proofs.plain.PlainDramOffChip.read_block.Goals as goal

pub invariant_of-self : goal.invariant_of-self
invariant_of-self c =
    let at = c.args.at in
    let start : c.start_of.result ≡ start_of_place c.self.inside.layout at =
    c.start_of.ensures.value ∙ ap (λ n. start_in n at) c.self.invariant.counted in
    let holds = c.block_at.ensures.bytes ∙ ap (λ n. bytes_at n STORED_BLOCK_BYTES c.deref.result.now) start
    ∙ ap (bytes_at (start_of_place c.self.inside.layout at) STORED_BLOCK_BYTES) c.deref.ensures.value in
    IsPlainMemory-more (BlockRead at c.block_at.result) _ _ c.self.invariant holds (record { place = search rules; address = tt }) c.block_at.ensures.whole refl refl c.append.ensures.event.trace
