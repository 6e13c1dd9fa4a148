use Rattle.std.proofs.Common.{◌≡◌, take, map, Some}
use Rattle.codegen.specs.ImageCode.{code_from, code_size}
use Rattle.codegen.specs.Numbers.{sites_in}
use Rattle.codegen.proofs.image.code_for.Given as goal

abbrev pub invariant-loop-o : goal.invariant-loop-o
invariant-loop-o l =
    (l.code ≡ map Some (code_from (sites_in l.sites.homes.now l.sites.labels.now) 0 (take l.o-index l.ops))) × (l.number ≡ code_size (take l.o-index l.ops))
