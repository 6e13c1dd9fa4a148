use Rattle.c_semantics.proofs.LawProofs.{only_adds}
use Rattle.c_semantics.proofs.laws.statements_only_add.Goals as goal

pub returns : goal.returns
returns c = record { adds = only_adds }
