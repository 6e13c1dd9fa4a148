use Rattle.c_semantics.proofs.LawProofs.{turns_are_used}
use Rattle.c_semantics.proofs.laws.turns_are_used.Goals as goal

pub returns : goal.returns
returns c = record { used = turns_are_used }
