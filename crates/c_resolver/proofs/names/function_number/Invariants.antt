use Rattle.std.proofs.Common.{◌≡◌, ◌+◌, drop}
use Rattle.c_resolver.specs.Resolving.{function_number}
use Rattle.c_resolver.proofs.names.function_number.Given as goal

abbrev pub invariant-loop-number : goal.invariant-loop-number
invariant-loop-number l = function_number l.functions l.token ≡ l.number + function_number (drop l.number l.functions) l.token
