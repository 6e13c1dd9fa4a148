-- Both programs are what the parser answers.
use Rattle.c_descent.proofs.Answered.{one_program}
use Rattle.c_reader.proofs.Answering.{one_of_text}
use Rattle.c_reader.proofs.laws.one_program.Goals as goal

pub returns : goal.returns
returns c = record { one = one_program; text = one_of_text }
