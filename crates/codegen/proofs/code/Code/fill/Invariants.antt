use Rattle.std.proofs.Common.{◌≡◌, ◌++◌, [], map, Some}
use Rattle.codegen.specs.OpInstructions.{fill}
use Rattle.codegen.proofs.code.Code.fill.Given as goal

abbrev pub invariant-loop-i : goal.invariant-loop-i
invariant-loop-i l = l.self ≡ l.fn.self ++ map Some (fill l.fn.d l.fn.part l.i [])
