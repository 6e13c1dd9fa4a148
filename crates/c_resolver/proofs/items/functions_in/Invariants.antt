use Rattle.std.proofs.Common.{◌≡◌, ◌++◌, drop}
use Rattle.c_scopes.specs.Declarations.{declarations_of}
use Rattle.c_semantics.specs.ResolvedViews.{functions_of}
use Rattle.c_resolver.specs.Resolving.{functions_in}
use Rattle.c_resolver.proofs.items.functions_in.Given as goal

abbrev pub invariant-loop-item : goal.invariant-loop-item
invariant-loop-item l =
    (functions_in l.functions l.items l.initial.names ≡ functions_of l.done ++ functions_in l.functions (drop l.item-index l.items) l.names)
    × (l.initial.names ++ declarations_of l.items ≡ l.names ++ declarations_of (drop l.item-index l.items))
