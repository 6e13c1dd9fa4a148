use Rattle.std.proofs.Common.{refl}
use Rattle.off_chip.specs.declared.event.Event.TheVariants.{WordWrite}
use Rattle.scripted_dram.proofs.ScriptedMemory.{IsScriptedMemory-more}
use Rattle.scripted_dram.proofs.scripted.ScriptedDramOffChip.write_word.Goals as goal

pub invariant_of-self : goal.invariant_of-self
invariant_of-self c =
    let before = c.do_before-self-inside in
    IsScriptedMemory-more c.self.inside.storage before.new.storage c.self.invariant c.self.inside.script c.events-events.result refl c.events-events.ensures.value before.ensures.done
    (WordWrite c.args.by c.args.at c.args.word) tt
    c.write_word.new.self _ _ _ _ c.write_word.ensures refl c.append.ensures.event.trace before.ensures.passed c.self.invariant.suspensions_passed
