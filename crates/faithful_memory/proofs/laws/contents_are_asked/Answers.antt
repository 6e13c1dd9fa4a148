use Rattle.faithful_memory.proofs.AskedLemmas.{contents-asked, data-asked}
use Rattle.faithful_memory.proofs.laws.contents_are_asked.Goals as goal

pub returns : goal.returns
returns g c = record { all = contents-asked _; data_blocks = data-asked _ }
