use Rattle.c_meaning.proofs.ActsKept.{acts_agree}
use Rattle.c_meaning.proofs.MentionedPrograms.{names_agree}
use Rattle.c_meaning.proofs.laws.names_are_those_of_the_scopes.Goals as goal

pub returns : goal.returns
returns c = record { names = names_agree c.args.p.now c.program.ensures.read c.program.ensures.typed.rules; acts = acts_agree c.args.p.now c.program.ensures.read }
