use Rattle.std.proofs.Common.{arith}
use Rattle.hash_tree.proofs.tree.digest_of.Goals as goal

pub returns-clause-whole : goal.returns-clause-whole
returns-clause-whole c = record { payload = c.told-payload; stamp = omega (arith, c.ranges.stamp) }
