use Rattle.std.proofs.Common.{◌≡◌, ◌++◌, drop}
use Rattle.std.specs.List.{filter_map}
use Rattle.c_types.specs.Checked.{listed_function}
use Rattle.c_types.proofs.checking.functions.Given as goal

abbrev pub invariant-loop-item : goal.invariant-loop-item
invariant-loop-item l = l.all.items ++ filter_map listed_function (drop l.item-index l.items) ≡ filter_map listed_function l.items
