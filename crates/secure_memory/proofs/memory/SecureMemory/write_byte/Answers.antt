use Rattle.std.proofs.Common.{◌∙◌, ◌%◌, ℕ, List, ap, sym}
use Rattle.std.specs.Prelude.{slice_set}
use Rattle.std.specs.Int.{from_be_bytes, w32}
use Rattle.orbis_core.specs.ByteOrder.{with_byte}
use Rattle.secure_memory.specs.BlockWords.{with_byte_at}
use Rattle.secure_memory.proofs.OpenActs.{of-block, of-open, stores-open}
use Rattle.secure_memory.proofs.StoreActs.{puts-acts}
use Rattle.secure_memory.proofs.memory.SecureMemory.write_byte.Goals as goal

pub returns-then-at-lt-OPEN_END-clause-does : goal.returns-then-at-lt-OPEN_END-clause-does
returns-then-at-lt-OPEN_END-clause-does g c =
    of-open _ _ _ c.if-at-lt-OPEN_END.true (stores-open _ _ _ _ _ _ _ _ _ _ _ c.read_word.ensures.event.trace c.write_word.ensures.event.trace
    (c.from_be_bytes.ensures ∙ ap (λ (bytes : List ℕ). from_be_bytes w32 (slice_set bytes (c.args.at % 4) c.args.byte)) c.to_be_bytes-bytes.ensures)
    (sym (g.met.O.OffChip.same_layout _ _ c.read_word.ensures.same)) (sym (g.met.O.OffChip.same_layout _ _ c.write_word.ensures.same)) c.read_word.ensures.event.room
    c.write_word.ensures.event.room c.requires.ready)

pub returns-clause-does : goal.returns-clause-does
returns-clause-does g c =
    of-block _ _ _ c.if-at-lt-OPEN_END.false
    (puts-acts (λ before. with_byte before c.args.at c.args.byte) (λ (payload : List ℕ). with_byte_at payload c.args.at c.args.byte) _ _ _ _ c.in_ok-reach.ensures.does c.requires.placed
    c.if-at-lt-OPEN_END.false c.put_byte_at.ensures.puts)
