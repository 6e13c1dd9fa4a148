use Rattle.c_scopes.proofs.KeptLemmas.{IsKept-none}
use Rattle.c_scopes.proofs.names.Names.new.Goals as goal

pub invariant_of-result : goal.invariant_of-result
invariant_of-result c = IsKept-none c.new.result c.new-2.result.items c.new-3.result.items c.new.ensures.empty c.new-2.ensures.items c.new-3.ensures.items
