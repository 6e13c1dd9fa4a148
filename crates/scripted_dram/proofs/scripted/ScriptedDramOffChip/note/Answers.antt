use Rattle.std.proofs.Common.{refl, subst, sym, ℕ}
use Rattle.off_chip.specs.declared.event.Event.TheVariants.{Note}
use Rattle.scripted_dram.specs.declared.due.Count.TheVariants.{Suspensions}
use Rattle.scripted_dram.specs.DueChanges.{IsPassed}
use Rattle.scripted_dram.proofs.ScriptedMemory.{IsScriptedMemory-more}
use Rattle.scripted_dram.proofs.scripted.ScriptedDramOffChip.note.Goals as goal

pub invariant_of-self : goal.invariant_of-self
invariant_of-self c =
    let before = c.do_before-self-inside in
    let later = c.do_after-self-inside in
    let P : ℕ → Type 0 = λ k. IsPassed Suspensions k c.self.inside.script later.result in
    IsScriptedMemory-more c.self.inside.storage before.new.storage c.self.invariant c.self.inside.script c.events-events.result refl c.events-events.ensures.value before.ensures.done
    (Note c.args.mark) tt
    later.new.storage _ _ _ _ later.ensures.done c.suspensions_after-self-inside.ensures c.append.ensures.event.trace before.ensures.passed
    (subst P (sym c.suspensions_after-self-inside.ensures) later.ensures.passed)
