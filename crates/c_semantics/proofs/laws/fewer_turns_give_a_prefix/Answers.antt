use Rattle.c_semantics.proofs.LawProofs.{fewer_turns, fewer_turns_less_work}
use Rattle.c_semantics.proofs.laws.fewer_turns_give_a_prefix.Goals as goal

pub returns : goal.returns
returns c = record { prefix = fewer_turns; work = fewer_turns_less_work }
