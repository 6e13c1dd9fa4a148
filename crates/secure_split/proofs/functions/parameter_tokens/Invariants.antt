use Rattle.std.proofs.Common.{◌≡◌, ◌++◌, drop, map}
use Rattle.secure_split.proofs.functions.parameter_tokens.Given as goal

abbrev pub invariant-loop-x : goal.invariant-loop-x
invariant-loop-x l = l.tokens.items ++ map (λ x. x.token) (drop l.x-index l.parameters) ≡ map (λ x. x.token) l.parameters
