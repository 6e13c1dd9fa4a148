use Rattle.secure_memory.proofs.AccessLemmas.{placed-data, placed-log}
use Rattle.secure_memory.proofs.memory.SecureMemory.reach.Goals as goal

pub reach_data-requires-clause-inside : goal.reach_data-requires-clause-inside
reach_data-requires-clause-inside g c = placed-data _ _ c.requires.placed c.requires.not_open c.if-at-lt-LOG_START.true

pub reach_log-requires-clause-inside : goal.reach_log-requires-clause-inside
reach_log-requires-clause-inside g c = placed-log _ _ c.requires.placed c.requires.not_open c.if-at-lt-LOG_START.false
