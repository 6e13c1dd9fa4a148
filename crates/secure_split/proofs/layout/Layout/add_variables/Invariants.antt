use Rattle.std.proofs.Common.{◌≡◌, ◌++◌, drop, length, map, Some}
use Rattle.lowering.specs.Cells.{words}
use Rattle.secure_split.proofs.layout.Layout.add_variables.Given as goal

abbrev pub invariant-loop-token : goal.invariant-loop-token
invariant-loop-token l =
    (l.self.cells ++ words l.class (length (drop l.token-index l.tokens)) ≡ l.fn.self.cells ++ words l.class (length l.tokens))
    × (l.self.owners ++ map Some (drop l.token-index l.tokens) ≡ l.fn.self.owners ++ map Some l.tokens)
    × (l.self.privates ≡ l.fn.self.privates)
