use Rattle.std.proofs.Common.{ℕ, List, arith}
use Rattle.orbis_core.specs.ByteOrder.{with_byte}
use Rattle.secure_memory.specs.BlockWords.{with_byte_at}
use Rattle.secure_memory.proofs.AccessLemmas.{data-held, placed-data, placed-log, position-of}
use Rattle.secure_memory.proofs.StoreActs.{log-puts, tree-puts}
use Rattle.secure_memory.proofs.memory.SecureMemory.put_byte_at.Goals as goal

pub overflow_sub-at : goal.overflow_sub-at
overflow_sub-at g c = (placed-data _ _ c.requires.placed c.requires.not_open c.if-at-lt-LOG_START.true).from

pub payload_mut-requires-clause-position : goal.payload_mut-requires-clause-position
payload_mut-requires-clause-position g c =
    position-of _ _ _ c.requires.parts.of_tree (placed-data _ _ c.requires.placed c.requires.not_open c.if-at-lt-LOG_START.true)

pub payload_mut-requires-else-at-lt-LOG_START-clause-below : goal.payload_mut-requires-else-at-lt-LOG_START-clause-below
payload_mut-requires-else-at-lt-LOG_START-clause-below g c =
    let inside = placed-log _ _ c.requires.placed c.requires.not_open c.if-at-lt-LOG_START.false in
    omega (arith, inside.block, c.requires.parts.of_log)

pub returns-then-at-lt-LOG_START-clause-puts : goal.returns-then-at-lt-LOG_START-clause-puts
returns-then-at-lt-LOG_START-clause-puts g c =
    tree-puts (λ before. with_byte before c.args.at c.args.byte) (λ (payload : List ℕ). with_byte_at payload c.args.at c.args.byte) _ _ _ _ _ _ c.requires.parts.of_tree c.if-at-lt-LOG_START.true c.payload_mut.ensures.value
    c.put_byte.ensures.long c.put_byte.ensures.left_long c.put_byte.ensures.payload c.put_byte.ensures.words
    (g.met.L.Lines.lent_lines _ _ _ (data-held _ _ c.requires.parts.of_tree c.if-at-lt-LOG_START.true c.requires.held))

pub returns-else-at-lt-LOG_START-clause-puts : goal.returns-else-at-lt-LOG_START-clause-puts
returns-else-at-lt-LOG_START-clause-puts g c =
    log-puts (λ before. with_byte before c.args.at c.args.byte) (λ (payload : List ℕ). with_byte_at payload c.args.at c.args.byte) _ _ _ _ c.if-at-lt-LOG_START.false
    c.payload_mut-else-at-lt-LOG_START.ensures.value c.put_byte-else-at-lt-LOG_START.ensures.long c.put_byte-else-at-lt-LOG_START.ensures.left_long
    c.put_byte-else-at-lt-LOG_START.ensures.payload c.put_byte-else-at-lt-LOG_START.ensures.words
