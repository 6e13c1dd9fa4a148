use Rattle.std.proofs.Common.{◌≡◌, ◌++◌, drop}
use Rattle.c_resolver.specs.Resolving.{function_tokens}
use Rattle.c_resolver.proofs.items.function_tokens.Given as goal

abbrev pub invariant-loop-item : goal.invariant-loop-item
invariant-loop-item l = function_tokens l.items ≡ l.tokens.items ++ function_tokens (drop l.item-index l.items)
