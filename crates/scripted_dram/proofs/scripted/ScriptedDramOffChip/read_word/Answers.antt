use Rattle.std.proofs.Common.{refl, subst}
use Rattle.off_chip.specs.declared.event.Event.TheVariants.{WordRead}
use Rattle.off_chip.specs.OffChipBytes.{Holds}
use Rattle.scripted_dram.specs.ScriptedValues.{Scripted, scripted_contents}
use Rattle.scripted_dram.proofs.ScriptedMemory.{IsScriptedMemory-more, holds_told}
use Rattle.scripted_dram.proofs.scripted.ScriptedDramOffChip.read_word.Goals as goal

pub invariant_of-self : goal.invariant_of-self
invariant_of-self c =
    let before = c.do_before-self-inside in
    IsScriptedMemory-more c.self.inside.storage before.new.storage c.self.invariant c.self.inside.script c.events-events.result refl c.events-events.ensures.value before.ensures.done
    (WordRead c.args.by c.args.at c.read_word-word.result) c.read_word-word.ensures
    before.new.storage _ _ _ _ refl refl c.append.ensures.event.trace before.ensures.passed c.self.invariant.suspensions_passed

pub returns-clause-told : goal.returns-clause-told
returns-clause-told c =
    let before = c.do_before-self-inside in
    let event = WordRead c.args.by c.args.at c.read_word-word.result in
    let P : Scripted → Type 0 = λ d. Holds d.layout (scripted_contents d) event in
    subst P c.self.view_is (holds_told c.self.inside.storage before.new.storage c.self.invariant c.self.inside.script c.events-events.result refl c.events-events.ensures.value before.ensures.done
    event c.read_word-word.ensures)
