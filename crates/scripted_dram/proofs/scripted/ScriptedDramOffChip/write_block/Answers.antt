use Rattle.std.proofs.Common.{refl}
use Rattle.off_chip.specs.declared.event.Event.TheVariants.{BlockWrite}
use Rattle.scripted_dram.proofs.ScriptedMemory.{IsScriptedMemory-more}
use Rattle.scripted_dram.proofs.scripted.ScriptedDramOffChip.write_block.Goals as goal

pub invariant_of-self : goal.invariant_of-self
invariant_of-self c =
    let before = c.do_before-self-inside in
    IsScriptedMemory-more c.self.inside.storage before.new.storage c.self.invariant c.self.inside.script c.events-events.result refl c.events-events.ensures.value before.ensures.done
    (BlockWrite c.args.at c.args.block.now) tt
    c.write_block.new.self _ _ _ _ c.write_block.ensures refl c.append.ensures.event.trace before.ensures.passed c.self.invariant.suspensions_passed
