use Rattle.std.proofs.Common.{◌∙◌, ap, ◌+◌, [], ◌∷◌, ◌++◌, drop}
use Rattle.c_scopes.specs.Declarations.{parameters_of}
use Rattle.c_types.specs.Walks.{place_of}
use Rattle.c_types.proofs.Globals.{parameters_step, parameter_step}
use Rattle.c_types.proofs.items.parameters.Goals as goal

pub loop-number-preserved : goal.loop-number-preserved
loop-number-preserved c =
    let i = c.loop-number.number in
    record {
      declared =
          ap (λ names. names ++ parameters_of (drop (i + 1) c.args.all.now)) (c.in_ok-declare.ensures ∙ ap (λ d. c.loop-number.names ++ d ∷ []) c.local.ensures)
          ∙ parameters_step c.loop-number.names c.args.all.now i c.index-all-number.result c.loop-number-test.true c.index-all-number.is
          ∙ c.loop-number.invariant.declared;
      sites = rw (c.in_ok-declare.ensures, c.local.ensures, c.note.ensures, c.is_declared_from-again.ensures)
          (parameter_step c.loop-number.verdict c.args.all.now i c.index-all-number.result (place_of c.loop-number.names c.args.context) c.loop-number-test.true c.index-all-number.is
          ∙ c.loop-number.invariant.sites);
    }
