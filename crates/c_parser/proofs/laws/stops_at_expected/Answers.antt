-- What the parser keeps of whole programs.
use Rattle.c_descent.proofs.Answered.{refused_expected}
use Rattle.c_parser.proofs.laws.stops_at_expected.Goals as goal

pub returns : goal.returns
returns c = record { stops = refused_expected }
