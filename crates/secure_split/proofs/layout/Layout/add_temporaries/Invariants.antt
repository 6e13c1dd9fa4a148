use Rattle.std.proofs.Common.{◌≡◌, ◌++◌, ◌-◌}
use Rattle.lowering.specs.Cells.{nobody, words}
use Rattle.secure_split.proofs.layout.Layout.add_temporaries.Given as goal

abbrev pub invariant-loop-cell : goal.invariant-loop-cell
invariant-loop-cell l =
    (l.self.cells ++ words l.class (l.count - l._cell) ≡ l.fn.self.cells ++ words l.class l.count)
    × (l.self.owners ++ nobody (l.count - l._cell) ≡ l.fn.self.owners ++ nobody l.count)
    × (l.self.privates ≡ l.fn.self.privates)
