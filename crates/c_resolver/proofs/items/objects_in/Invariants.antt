use Rattle.std.proofs.Common.{◌≡◌, ◌++◌, drop}
use Rattle.c_semantics.specs.ResolvedViews.{objects_of}
use Rattle.c_resolver.specs.Resolving.{objects_in}
use Rattle.c_resolver.proofs.items.objects_in.Given as goal

abbrev pub invariant-loop-item : goal.invariant-loop-item
invariant-loop-item l = objects_in l.items ≡ objects_of l.objects ++ objects_in (drop l.item-index l.items)
