use Rattle.c_meaning.proofs.Listed.{functions_listed, objects_listed}
use Rattle.c_meaning.proofs.laws.resolved_as_listed.Goals as goal

pub returns : goal.returns
returns c = record { functions = functions_listed c.args.p.now; objects = objects_listed c.args.p.now }
