use Rattle.std.proofs.Common.{arith}
use Rattle.secure_memory.proofs.AccessLemmas.{placed-data, placed-log, position-of}
use Rattle.secure_memory.proofs.memory.SecureMemory.line.Goals as goal

pub overflow_sub-at : goal.overflow_sub-at
overflow_sub-at g c = (placed-data _ _ c.requires.placed c.requires.not_open c.if-at-lt-LOG_START.true).from

pub payload-requires-clause-position : goal.payload-requires-clause-position
payload-requires-clause-position g c =
    position-of _ _ _ c.requires.parts.of_tree (placed-data _ _ c.requires.placed c.requires.not_open c.if-at-lt-LOG_START.true)

pub payload-requires-else-at-lt-LOG_START-clause-below : goal.payload-requires-else-at-lt-LOG_START-clause-below
payload-requires-else-at-lt-LOG_START-clause-below g c =
    let inside = placed-log _ _ c.requires.placed c.requires.not_open c.if-at-lt-LOG_START.false in
    omega (arith, inside.block, c.requires.parts.of_log)
