use Rattle.std.proofs.Common.{refl, subst}
use Rattle.off_chip.specs.declared.event.Event.TheVariants.{BlockRead}
use Rattle.off_chip.specs.OffChipBytes.{Holds}
use Rattle.scripted_dram.specs.ScriptedValues.{Scripted, scripted_contents}
use Rattle.scripted_dram.proofs.ScriptedMemory.{IsScriptedMemory-more, holds_told}
use Rattle.scripted_dram.proofs.scripted.ScriptedDramOffChip.read_block.Goals as goal

pub invariant_of-self : goal.invariant_of-self
invariant_of-self c =
    let before = c.do_before-self-inside in
    IsScriptedMemory-more c.self.inside.storage before.new.storage c.self.invariant c.self.inside.script c.events-events.result refl c.events-events.ensures.value before.ensures.done
    (BlockRead c.args.at c.read_block.result) c.read_block.ensures
    before.new.storage _ _ _ _ refl refl c.append.ensures.event.trace before.ensures.passed c.self.invariant.suspensions_passed

pub returns-clause-told : goal.returns-clause-told
returns-clause-told c =
    let before = c.do_before-self-inside in
    let event = BlockRead c.args.at c.read_block.result in
    let P : Scripted → Type 0 = λ d. Holds d.layout (scripted_contents d) event in
    subst P c.self.view_is (holds_told c.self.inside.storage before.new.storage c.self.invariant c.self.inside.script c.events-events.result refl c.events-events.ensures.value before.ensures.done
    event c.read_block.ensures)
