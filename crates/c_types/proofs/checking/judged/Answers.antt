use Rattle.std.proofs.Common.{◌≡◌, ◌∙◌, ap, sym, Some, None}
use Rattle.c_types.specs.Walks.{first_fault_of}
use Rattle.c_types.specs.Checked.{has_main}
use Rattle.c_types.proofs.Exact.{first_is, none_is}
use Rattle.c_types.proofs.Answered.{refused_by}
use Rattle.c_types.proofs.checking.judged.Goals as goal

pub first_fault-requires : goal.first_fault-requires
first_fault-requires c = rw c.as_slice.ensures c.requires

pub returns-then-has_main-clause-typed : goal.returns-then-has_main-clause-typed
returns-then-has_main-clause-typed c =
    let nothing : first_fault_of c.args.p.now.items ≡ None = ap first_fault_of (sym c.as_slice.ensures) ∙ sym c.in_ok-fault.ensures ∙ c.in-None.is in
    record { rules = none_is c.args.p.now nothing; main = ap has_main (sym c.as_slice-in-None.ensures) ∙ sym c.has_main.ensures ∙ c.if-has_main.true }

pub returns-in-Some-clause-refused : goal.returns-in-Some-clause-refused
returns-in-Some-clause-refused c =
    let found : first_fault_of c.args.p.now.items ≡ Some c.in-Some.fault = ap first_fault_of (sym c.as_slice.ensures) ∙ sym c.in_ok-fault.ensures ∙ c.in-Some.is in
    rw c.error_of.ensures (refused_by c.args.p.now c.in-Some.fault.at c.in-Some.fault.rule (first_is c.args.p.now c.in-Some.fault found))

pub returns-in-Some-clause-accepted : goal.returns-in-Some-clause-accepted
returns-in-Some-clause-accepted c =
    let found : first_fault_of c.args.p.now.items ≡ Some c.in-Some.fault = ap first_fault_of (sym c.as_slice.ensures) ∙ sym c.in_ok-fault.ensures ∙ c.in-Some.is in
    λ typed. absurd (typed.rules c.in-Some.fault.at c.in-Some.fault.rule (first_is c.args.p.now c.in-Some.fault found).violates)

pub returns-else-has_main-clause-refused : goal.returns-else-has_main-clause-refused
returns-else-has_main-clause-refused c =
    let nothing : first_fault_of c.args.p.now.items ≡ None = ap first_fault_of (sym c.as_slice.ensures) ∙ sym c.in_ok-fault.ensures ∙ c.in-None.is in
    (none_is c.args.p.now nothing, ap has_main (sym c.as_slice-in-None.ensures) ∙ sym c.has_main.ensures ∙ c.if-has_main.false)
