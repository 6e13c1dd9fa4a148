use Rattle.std.proofs.Common.{◌≡◌, ◌+◌, ◌∙◌, ap, sym, arith}
use Rattle.c_scopes.proofs.KeptLemmas.{reaches, declares-drop}
use Rattle.c_scopes.proofs.names.Names.is_declared_from.Goals as goal

pub returns-in-None : goal.returns-in-None
returns-in-None c =
    let same : c.args.start + 0 ≡ c.args.start = omega arith in
    sym (declares-drop c.args.start 0 c.args.self.now c.args.name.now ∙ ap (reaches (c.args.start + 0)) (sym c.in-None.ensures))

pub returns-in-Some : goal.returns-in-Some
returns-in-Some c =
    let same : c.args.start + 0 ≡ c.args.start = omega arith in
    sym (declares-drop c.args.start 0 c.args.self.now c.args.name.now ∙ ap (reaches (c.args.start + 0)) (sym c.in-Some.ensures) ∙ rw same)
