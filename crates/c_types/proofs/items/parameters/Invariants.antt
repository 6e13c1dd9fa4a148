use Rattle.std.proofs.Common.{◌≡◌, ◌++◌, drop}
use Rattle.c_scopes.specs.Declarations.{parameters_of}
use Rattle.c_types.specs.Sites.{parameter_sites}
use Rattle.c_types.specs.Verdicts.{noted}
use Rattle.c_types.specs.Walks.{place_of}
use Rattle.c_types.proofs.items.parameters.Given as goal

abbrev pub invariant-loop-number : goal.invariant-loop-number
invariant-loop-number l = record {
  declared : l.names ++ parameters_of (drop l.number l.all) ≡ l.initial.names ++ parameters_of l.all;
  sites : noted l.verdict (parameter_sites l.number (drop l.number l.all) (place_of l.names l.context)) ≡ noted l.initial.verdict (parameter_sites 0 l.all (place_of l.initial.names l.initial.context));
}
