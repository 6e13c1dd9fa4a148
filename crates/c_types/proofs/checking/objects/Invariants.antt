use Rattle.std.proofs.Common.{◌≡◌, ◌++◌, drop}
use Rattle.std.specs.List.{filter_map}
use Rattle.c_types.specs.Checked.{listed_object}
use Rattle.c_types.proofs.checking.objects.Given as goal

abbrev pub invariant-loop-item : goal.invariant-loop-item
invariant-loop-item l = l.all.items ++ filter_map listed_object (drop l.item-index l.items) ≡ filter_map listed_object l.items
