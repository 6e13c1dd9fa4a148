use Rattle.c_meaning.proofs.DepthKept.{operators_nest}
use Rattle.c_meaning.proofs.Shaped.{nodes_agree, program_shaped, tests_stand}
use Rattle.c_meaning.proofs.laws.resolved_is_well_shaped.Goals as goal

pub returns : goal.returns
returns c = record {
  shape = program_shaped c.args.p.now c.program.ensures.read c.program.ensures.typed;
  tests = tests_stand c.args.p.now c.program.ensures.read c.program.ensures.typed.rules;
  nodes = nodes_agree c.args.p.now c.program.ensures.read c.program.ensures.typed.rules;
  operators = operators_nest c.args.p.now c.program.ensures.read;
}
