use Rattle.std.proofs.Common.{◌≡◌, ◌∙◌, ap, sym, subst, [], ◌++◌, Ok}
use Rattle.c_semantics.specs.Meaning.{outcome_of}
use Rattle.c_semantics.specs.ResolvedViews.{objects_of, program_of}
use Rattle.c_evaluator.specs.Calls.{callable}
use Rattle.c_evaluator.specs.MachineStates.{bare, seen, started, Does, EndsSo}
use Rattle.c_evaluator.proofs.Ends.{told}
use Rattle.c_evaluator.proofs.run.mean_resolved.Goals as goal

pub returns-clause-bytes : goal.returns-clause-bytes
returns-clause-bytes c =
    let start : seen c.in_ok-machine.machine ≡ started (objects_of c.args.program.now.objects) c.args.input.now c.args.turns =
    c.in_ok-machine.ensures ∙ ap (λ os. started (objects_of os) c.args.input.now c.args.turns) c.as_slice.ensures in
    let does : Does (outcome_of bare (program_of c.args.program.now) c.args.input.now [] c.args.turns) c.call-value.result c.call-value.new.machine =
    subst (λ s. Does (callable c.args.program.now.functions c.args.program.now.main [] s) c.call-value.result c.call-value.new.machine) start
    (subst (λ fs. Does (callable fs c.args.program.now.main [] (seen c.in_ok-machine.machine)) c.call-value.result c.call-value.new.machine) c.as_slice-2.ensures
    c.call-value.ensures.does) in
    let ends : EndsSo c.call-value.result c.call-value.new.machine.fault (Ok c.in_ok-end.end) =
    subst (λ f. EndsSo c.call-value.result f (Ok c.in_ok-end.end)) c.fault.ensures
    (subst (λ r. EndsSo c.call-value.result c.fault.result r) c.in_ok-end.was c.ending.ensures) in
    c.in_ok-extend_from_slice.ensures.items
    ∙ ap (λ bytes. c.args.out.now.items ++ bytes) (c.released.ensures ∙ sym (told (program_of c.args.program.now) c.args.input.now c.args.turns c.call-value.result c.in_ok-end.end c.call-value.new.machine does ends).1)

pub returns-clause-end : goal.returns-clause-end
returns-clause-end c =
    let start : seen c.in_ok-machine.machine ≡ started (objects_of c.args.program.now.objects) c.args.input.now c.args.turns =
    c.in_ok-machine.ensures ∙ ap (λ os. started (objects_of os) c.args.input.now c.args.turns) c.as_slice.ensures in
    let does : Does (outcome_of bare (program_of c.args.program.now) c.args.input.now [] c.args.turns) c.call-value.result c.call-value.new.machine =
    subst (λ s. Does (callable c.args.program.now.functions c.args.program.now.main [] s) c.call-value.result c.call-value.new.machine) start
    (subst (λ fs. Does (callable fs c.args.program.now.main [] (seen c.in_ok-machine.machine)) c.call-value.result c.call-value.new.machine) c.as_slice-2.ensures
    c.call-value.ensures.does) in
    let ends : EndsSo c.call-value.result c.call-value.new.machine.fault (Ok c.in_ok-end.end) =
    subst (λ f. EndsSo c.call-value.result f (Ok c.in_ok-end.end)) c.fault.ensures
    (subst (λ r. EndsSo c.call-value.result c.fault.result r) c.in_ok-end.was c.ending.ensures) in
    (told (program_of c.args.program.now) c.args.input.now c.args.turns c.call-value.result c.in_ok-end.end c.call-value.new.machine does ends).0
