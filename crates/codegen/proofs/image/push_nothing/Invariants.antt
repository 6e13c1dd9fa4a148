use Rattle.std.proofs.Common.{◌≡◌, ◌++◌, map, replicate, Some}
use Rattle.orbis_word.specs.declared.Instr.TheVariants.{Nop}
use Rattle.codegen.proofs.image.push_nothing.Given as goal

abbrev pub invariant-loop : goal.invariant-loop
invariant-loop l = l.code ≡ l.fn.code ++ map Some (replicate l.counter (Nop 0))
