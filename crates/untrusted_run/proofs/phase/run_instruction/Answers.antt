use Rattle.std.proofs.Common.{◌≡◌, ◌∙◌}
use Rattle.untrusted_run.specs.OpenAccesses.{Sight}
use Rattle.untrusted_run.specs.Phases.{phase_step}
use Rattle.untrusted_run.specs.declared.words.OpenWords.{OpenWords}
use Rattle.untrusted_run.proofs.InstructionLemmas.{next-does, refused-does, resume-does, total, total-then}
use Rattle.untrusted_run.proofs.StepLemmas.{Part, step-kept, step-part}
use Rattle.untrusted_run.proofs.phase.run_instruction.Given as given
use Rattle.untrusted_run.proofs.phase.run_instruction.Goals as goal

-- what is seen of the bus, and what is kept from access to access
abbrev seen : (g : given.Over) → OpenWords g.row.O.Denot → Sight
seen g words = record { trace = g.O.OffChip.trace words.bus.now; room = g.O.OffChip.room words.bus.now }

abbrev Keeps : (g : given.Over) → OpenWords g.row.O.Denot → OpenWords g.row.O.Denot → Type 0
Keeps g old new = (new.bus.ghost_name ≡ old.bus.ghost_name) × g.O.OffChip.same_memory old.bus.now new.bus.now

keeps-on : (g : given.Over) (a b c : OpenWords g.row.O.Denot) → Keeps g a b → Keeps g b c → Keeps g a c
keeps-on g a b c first second = (second.0 ∙ first.0, g.met.O.OffChip.transitive _ _ _ first.1 second.1)

pub returns-in-Next-clause-does : goal.returns-in-Next-clause-does
returns-in-Next-clause-does g c =
    let part : Part phase_step c.args.core.now c.step.new.core c.step.result (seen g c.args.words.now) (seen g c.step.new.mem) 3 = step-part (seen g) (Keeps g) _ _ _ c.step.ensures.row in
    next-does c.args.core.now c.step.new.core c.step.result (seen g c.args.words.now) (seen g c.step.new.mem) part _ _ c.note.ensures.event c.in-Next.is

pub returns-in-Next-clause-total : goal.returns-in-Next-clause-total
returns-in-Next-clause-total g c =
    let part : Part phase_step c.args.core.now c.step.new.core c.step.result (seen g c.args.words.now) (seen g c.step.new.mem) 3 = step-part (seen g) (Keeps g) _ _ _ c.step.ensures.row in
    total-then _ part.events (seen g c.args.words.now) (seen g c.step.new.mem) _ _ part.made c.note.ensures.event

pub returns-in-Next-clause-same : goal.returns-in-Next-clause-same
returns-in-Next-clause-same g c =
    let kept : Keeps g c.args.words.now c.step.new.mem = step-kept (seen g) (Keeps g) _ _ (keeps-on g) _ c.step.ensures.row in
    g.met.O.OffChip.transitive _ _ _ kept.1 c.note.ensures.same

pub returns-in-Resume-clause-does : goal.returns-in-Resume-clause-does
returns-in-Resume-clause-does g c =
    let part : Part phase_step c.args.core.now c.step.new.core c.step.result (seen g c.args.words.now) (seen g c.step.new.mem) 3 = step-part (seen g) (Keeps g) _ _ _ c.step.ensures.row in
    resume-does c.args.core.now c.step.new.core c.step.result (seen g c.args.words.now) (seen g c.step.new.mem) part _ _ c.note-in-Resume.ensures.event c.in-Resume.is

pub returns-in-Resume-clause-total : goal.returns-in-Resume-clause-total
returns-in-Resume-clause-total g c =
    let part : Part phase_step c.args.core.now c.step.new.core c.step.result (seen g c.args.words.now) (seen g c.step.new.mem) 3 = step-part (seen g) (Keeps g) _ _ _ c.step.ensures.row in
    total-then _ part.events (seen g c.args.words.now) (seen g c.step.new.mem) _ _ part.made c.note-in-Resume.ensures.event

pub returns-in_default : goal.returns-in_default
returns-in_default g c =
    let part : Part phase_step c.args.core.now c.step.new.core c.step.result (seen g c.args.words.now) (seen g c.step.new.mem) 3 = step-part (seen g) (Keeps g) _ _ _ c.step.ensures.row in
    let kept : Keeps g c.args.words.now c.step.new.mem = step-kept (seen g) (Keeps g) _ _ (keeps-on g) _ c.step.ensures.row in
    record {
      does = refused-does c.args.core.now c.step.new.core c.step.result (seen g c.args.words.now) (seen g c.step.new.mem) part c.in_default.not-Next c.in_default.not-Resume;
      total = total part.events (seen g c.args.words.now) (seen g c.step.new.mem) part.made;
      same = kept.1;
      same_reference = kept.0;
    }
