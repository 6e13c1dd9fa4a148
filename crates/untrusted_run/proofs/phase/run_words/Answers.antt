use Rattle.std.proofs.Common.{◌≡◌, ◌+◌, ◌++◌, ◌∙◌, ap, subst, arith, append_assoc, List, Option, length, length-append}
use Rattle.off_chip.specs.declared.event.Event.{Event}
use Rattle.untrusted_run.specs.declared.phase.UntrustedEnd.{UntrustedEnd}
use Rattle.untrusted_run.specs.PhaseParts.{DoesInstruction}
use Rattle.untrusted_run.proofs.PhaseLemmas.{phase-cut, phase-ended, so-far-more}
use Rattle.untrusted_run.proofs.phase.run_words.Goals as goal

pub returns-in-Some-clause-phase : goal.returns-in-Some-clause-phase
returns-in-Some-clause-phase g c =
    let far = c.instructions.invariant.phase in
    let one = c.run_instruction.ensures.does in
    let P : Option UntrustedEnd → Type 0 = λ end. DoesInstruction c.instructions.core c.run_instruction.new.core end one.0 in (
      far.0 ++ one.0,
      one.1 ∙ ap (λ (t : List Event). t ++ one.0) far.1 ∙ append_assoc _ far.0 one.0,
      phase-ended far.0 one.0 c.instructions.core c.run_instruction.new.core c.instructions.counter c.in-Some.end far.2 c.instructions-test.true (subst P c.in-Some.is one.2),
    )

pub instructions-preserved : goal.instructions-preserved
instructions-preserved g c =
    let far = c.instructions.invariant.phase in
    let one = c.run_instruction.ensures.does in
    let P : Option UntrustedEnd → Type 0 = λ end. DoesInstruction c.instructions.core c.run_instruction.new.core end one.0 in
    let long : length (g.O.OffChip.trace c.run_instruction.new.words.bus.now) ≡ length (g.O.OffChip.trace c.instructions.words.bus.now) + length one.0 =
    ap (λ (t : List Event). length t) one.1 ∙ length-append _ one.0 in
    record {
      room = omega (arith, c.instructions.invariant.room, c.run_instruction.ensures.total, long, one.2.few);
      used = omega (arith, c.instructions.invariant.used, c.run_instruction.ensures.total, long, one.2.few);
      phase = (
        far.0 ++ one.0,
        one.1 ∙ ap (λ (t : List Event). t ++ one.0) far.1 ∙ append_assoc _ far.0 one.0,
        so-far-more far.0 one.0 c.instructions.core c.run_instruction.new.core c.instructions.counter far.2 (subst P c.in_default.is one.2),
      );
      total = c.run_instruction.ensures.total ∙ c.instructions.invariant.total;
      same = g.met.O.OffChip.transitive _ _ _ c.instructions.invariant.same c.run_instruction.ensures.same;
      same_reference = c.run_instruction.ensures.same_reference ∙ c.instructions.invariant.same_reference;
    }

pub returns-clause-phase : goal.returns-clause-phase
returns-clause-phase g c =
    let far = c.instructions.invariant.phase in
    (far.0, far.1, phase-cut far.0 c.instructions.core c.instructions.counter far.2 (omega (arith, c.instructions-test.false, c.instructions.auto.counter-end)))
