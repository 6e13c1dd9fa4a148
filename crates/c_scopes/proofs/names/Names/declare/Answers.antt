use Rattle.std.proofs.Common.{◌≡◌, length, [], ◌∷◌, ◌++◌, rules}
use Rattle.c_scopes.specs.KeptNames.{found}
use Rattle.c_scopes.proofs.KeptLemmas.{IsKept-more}
use Rattle.c_scopes.proofs.names.Names.declare.Goals as goal

pub invariant_of-self-2 : goal.invariant_of-self-2
invariant_of-self-2 c =
    let place : c.len.result ≡ length c.self.inside.declared.items = search rules in
    let kept = IsKept-more c.self.inside.known c.insert.new.self c.self.inside.declared.items c.self.inside.hidden.items c.args.declaration c.len.result c.self.invariant place c.in_ok-insert.ensures.updates in
    let pushed : c.push.new.self.items ≡ c.self.inside.declared.items ++ c.args.declaration ∷ [] = search rules in
    let hid : c.push-2.new.self.items ≡ c.self.inside.hidden.items ++ found 0 c.self.inside.declared.items c.args.declaration.name ∷ [] = search rules in
    rw (pushed, hid) kept
