use Rattle.std.proofs.Common.{◌≡◌, ◌++◌, drop}
use Rattle.c_types.specs.Verdicts.{noted}
use Rattle.c_types.specs.Walks.{place_of, declared_in, body_sites}
use Rattle.c_types.proofs.statements.+statement.Given as goal

abbrev pub invariant-statements-loop-s : goal.invariant-statements-loop-s
invariant-statements-loop-s l = record {
  declared : l.names ++ declared_in (drop l.s-index l.all) ≡ l.initial.names ++ declared_in l.all;
  sites : noted l.verdict (body_sites (drop l.s-index l.all) (place_of l.names l.context)) ≡ noted l.initial.verdict (body_sites l.all (place_of l.initial.names l.initial.context));
}
