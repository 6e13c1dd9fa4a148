use Rattle.std.proofs.Common.{◌≡◌, ◌++◌, drop, map, Some}
use Rattle.c_semantics.specs.ResolvedViews.{objects_of}
use Rattle.lowering.specs.Cells.{object_cells}
use Rattle.secure_split.proofs.layout.Layout.add_objects.Given as goal

abbrev pub invariant-loop-o : goal.invariant-loop-o
invariant-loop-o l =
    (l.self.cells ++ object_cells (objects_of (drop l.o-index l.objects)) ≡ l.fn.self.cells ++ object_cells (objects_of l.objects))
    × (l.self.owners ++ map (λ o. Some o.variable.token) (objects_of (drop l.o-index l.objects)) ≡ l.fn.self.owners ++ map (λ o. Some o.variable.token) (objects_of l.objects))
    × (l.self.privates ≡ l.fn.self.privates)
