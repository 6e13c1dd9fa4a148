use Rattle.std.proofs.Common.{◌≡◌, drop}
use Rattle.c_types.specs.Walks.{items_noted}
use Rattle.c_types.proofs.items.globals.Given as goal

abbrev pub invariant-loop-number : goal.invariant-loop-number
invariant-loop-number l =
    items_noted l.number l.names (drop l.number l.all) l.verdict ≡ items_noted 0 l.initial.names l.all l.initial.verdict
