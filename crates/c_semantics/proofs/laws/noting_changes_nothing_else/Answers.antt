use Rattle.c_semantics.proofs.LawProofs.{noting_changes_nothing_else}
use Rattle.c_semantics.proofs.laws.noting_changes_nothing_else.Goals as goal

pub returns : goal.returns
returns c = record { same = noting_changes_nothing_else }
