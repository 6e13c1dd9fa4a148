use Rattle.c_types.proofs.Rooms.{read_rooms}
use Rattle.c_types.proofs.Answered.{few_parameters}
use Rattle.c_types.proofs.checking.check.Goals as goal

pub judged-requires : goal.judged-requires
judged-requires c = read_rooms c.args.p c.requires

pub functions-requires : goal.functions-requires
functions-requires c = rw c.as_slice-2.ensures (few_parameters c.args.p c.in_ok-judged.ensures.typed.rules)
