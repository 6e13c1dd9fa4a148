use Rattle.c_semantics.proofs.LawProofs.{more_turns}
use Rattle.c_semantics.proofs.laws.more_turns_change_nothing.Goals as goal

pub returns : goal.returns
returns c = record { same = more_turns }
