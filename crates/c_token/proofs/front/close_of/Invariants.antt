use Rattle.std.proofs.Common.{◌≡◌, ◌+◌, drop}
use Rattle.std.specs.Prelude.{option_map}
use Rattle.c_token.specs.TextTokens.{close_of}
use Rattle.c_token.proofs.front.close_of.Given as goal

abbrev pub invariant-loop-start : goal.invariant-loop-start
invariant-loop-start l = option_map (λ n. n + l.start) (close_of (drop l.start l.text)) ≡ close_of l.text
