use Rattle.std.proofs.Common.{◌≡◌, ◌∙◌, ap, List, ◌++◌, length}
use Rattle.c_semantics.specs.declared.tree.Function.{Function}
use Rattle.c_semantics.specs.ResolvedViews.{functions_of, program_of}
use Rattle.ir_code.specs.declared.ops.Op.{Op}
use Rattle.lowering.specs.Lowering.{functions_code}
use Rattle.secure_split.specs.SplitViews.{functions_within, home_by, private_by}
use Rattle.secure_split.proofs.Whole.{entry-made, functions-made}
use Rattle.secure_split.proofs.lower.code_of.Goals as goal

pub returns-clause-ops : goal.returns-clause-ops
returns-clause-ops c =
    let home = home_by c.args.scope.now.homes in
    let is_private = private_by c.args.scope.now.privates in
    let fs = c.args.p.now.functions in
    let own : c.functions.new.code.ops ≡ functions_code home is_private 0 c.in_ok-first.first c.new-code.result.labels (functions_of fs) =
    c.in_ok-functions.ensures.ops
    ∙ ap (λ (o : List Op). o ++ functions_code home is_private 0 c.in_ok-first.first c.new-code.result.labels (functions_of c.as_slice.result.now)) c.new-code.ensures.ops
    ∙ ap (λ (xs : List Function). functions_code home is_private 0 c.in_ok-first.first c.new-code.result.labels (functions_of xs)) c.as_slice.ensures in
    let made : c.functions.new.code.ops ≡ functions_within home is_private (program_of c.args.p.now) =
    functions-made home is_private c.args.p.now.objects fs c.in_ok-first.first c.new-code.result.labels c.functions.new.code.ops
    (c.in_ok-first.ensures ∙ c.len-2.ensures) (c.new-code.ensures.labels ∙ c.in_ok-number.ensures ∙ c.len.ensures) own in
    entry-made c.args.scope.now.homes c.functions.new.scope.homes c.args.scope.now.privates c.functions.new.scope.privates (program_of c.args.p.now)
    c.functions.new.code.ops c.call.new.code.ops c.emit.new.self.ops c.in_ok-functions.ensures.homes c.in_ok-functions.ensures.privates made
    c.in_ok-call.ensures.ops c.in_ok-emit.ensures.ops

pub returns-clause-entry : goal.returns-clause-entry
returns-clause-entry c =
    let home = home_by c.args.scope.now.homes in
    let is_private = private_by c.args.scope.now.privates in
    let fs = c.args.p.now.functions in
    let own : c.functions.new.code.ops ≡ functions_code home is_private 0 c.in_ok-first.first c.new-code.result.labels (functions_of fs) =
    c.in_ok-functions.ensures.ops
    ∙ ap (λ (o : List Op). o ++ functions_code home is_private 0 c.in_ok-first.first c.new-code.result.labels (functions_of c.as_slice.result.now)) c.new-code.ensures.ops
    ∙ ap (λ (xs : List Function). functions_code home is_private 0 c.in_ok-first.first c.new-code.result.labels (functions_of xs)) c.as_slice.ensures in
    let made : c.functions.new.code.ops ≡ functions_within home is_private (program_of c.args.p.now) =
    functions-made home is_private c.args.p.now.objects fs c.in_ok-first.first c.new-code.result.labels c.functions.new.code.ops
    (c.in_ok-first.ensures ∙ c.len-2.ensures) (c.new-code.ensures.labels ∙ c.in_ok-number.ensures ∙ c.len.ensures) own in
    c.in_ok-entry.ensures ∙ c.len-3.ensures ∙ ap length made
