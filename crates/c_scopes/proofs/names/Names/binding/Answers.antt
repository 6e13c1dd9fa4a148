use Rattle.std.proofs.Common.{◌∙◌, ap, sym}
use Rattle.c_scopes.proofs.KeptLemmas.{binding_of, latest-found}
use Rattle.c_scopes.proofs.names.Names.binding.Goals as goal

pub returns-in-None : goal.returns-in-None
returns-in-None c = sym (latest-found 0 c.args.self.now c.args.name.now ∙ ap binding_of (sym c.in-None.ensures))

pub returns-in-Some : goal.returns-in-Some
returns-in-Some c = sym (latest-found 0 c.args.self.now c.args.name.now ∙ ap binding_of (sym c.in-Some.ensures))
