use Rattle.std.proofs.Common.{◌≡◌, ◌++◌, drop}
use Rattle.c_semantics.specs.ResolvedViews.{functions_of}
use Rattle.lowering.specs.Cells.{function_cells, owners_in}
use Rattle.secure_split.specs.SplitViews.{privates_in}
use Rattle.secure_split.proofs.layout.Layout.add_functions.Given as goal

abbrev pub invariant-loop-f : goal.invariant-loop-f
invariant-loop-f l =
    (l.self.cells ++ function_cells (functions_of (drop l.f-index l.fs)) ≡ l.fn.self.cells ++ function_cells (functions_of l.fs))
    × (l.self.owners ++ owners_in (functions_of (drop l.f-index l.fs)) ≡ l.fn.self.owners ++ owners_in (functions_of l.fs))
    × (l.self.privates ++ privates_in (functions_of (drop l.f-index l.fs)) ≡ l.fn.self.privates ++ privates_in (functions_of l.fs))
