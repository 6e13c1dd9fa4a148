use Rattle.std.proofs.Common.{◌≡◌, ◌-◌, length, slice_get, Some, rules, vec_len}
use Rattle.c_scopes.specs.KeptNames.{last_hidden}
use Rattle.c_scopes.proofs.KeptLemmas.{IsKept-forgotten}
use Rattle.c_scopes.proofs.names.Names.forget_latest.Goals as goal

pub invariant_of-self-2 : goal.invariant_of-self-2
invariant_of-self-2 c =
    let long : vec_len c.self.inside.declared ≡ length c.self.inside.declared.items = search rules in
    let wide : vec_len c.self.inside.hidden ≡ length c.self.inside.hidden.items = search rules in
    let last : slice_get c.self.inside.declared.items (length c.self.inside.declared.items - 1) ≡ Some c.in-Some.declaration = search rules in
    let hidden : c.last_hidden-hidden.result ≡ last_hidden c.self.inside.hidden.items = search rules in
    let kept = IsKept-forgotten c.self.inside.known c.restore.new.known c.self.inside.declared.items c.self.inside.hidden.items c.in-Some.declaration c.last_hidden-hidden.result c.self.invariant last hidden c.in_ok-restore.ensures.ok in
    rw (c.pop.ensures.rest, c.pop-2.ensures.rest, long, wide) kept
