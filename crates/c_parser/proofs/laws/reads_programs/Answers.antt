-- What the parser keeps of whole programs.
use Rattle.c_descent.proofs.Answered.{reads, is_read}
use Rattle.c_parser.proofs.laws.reads_programs.Goals as goal

pub returns : goal.returns
returns c = record { reads = λ kinds p. (reads kinds p, is_read kinds p) }
