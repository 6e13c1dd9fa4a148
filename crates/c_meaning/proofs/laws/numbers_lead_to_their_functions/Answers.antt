use Rattle.c_meaning.proofs.MainFound.{main_is_found}
use Rattle.c_meaning.proofs.Numbers.{numbers_lead, numbers_count}
use Rattle.c_meaning.proofs.laws.numbers_lead_to_their_functions.Goals as goal

pub returns : goal.returns
returns c = record {
  numbers = numbers_lead c.args.p.now c.program.ensures.read;
  count = numbers_count c.args.p.now c.program.ensures.read;
  main = main_is_found c.args.p.now c.program.ensures.typed.rules;
}
