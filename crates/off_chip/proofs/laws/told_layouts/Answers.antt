use Rattle.off_chip.proofs.BusLemmas.{told-only, told-tree, told-log, told-both}
use Rattle.off_chip.proofs.laws.told_layouts.Goals as goal

pub returns : goal.returns
returns c = record { law = record { only = told-only; tree = told-tree; log = told-log; both = told-both } }
