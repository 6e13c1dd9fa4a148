use Rattle.lowering.proofs.Listed.{cells-are-listed, private-is-guarded}
use Rattle.lowering.proofs.laws.cells_are_as_listed.Goals as goal

pub returns : goal.returns
returns c = record { cells = cells-are-listed; private = private-is-guarded }
