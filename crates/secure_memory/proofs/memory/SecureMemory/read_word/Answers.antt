use Rattle.std.proofs.Common.{◌∙◌, ℕ, List, ap, arith, refl, sym}
use Rattle.secure_memory.specs.BlockWords.{word_at}
use Rattle.secure_memory.proofs.OpenActs.{loads-open, of-block, of-open, same-payload}
use Rattle.secure_memory.proofs.memory.SecureMemory.read_word.Goals as goal

pub returns-then-at-lt-OPEN_END-clause-does : goal.returns-then-at-lt-OPEN_END-clause-does
returns-then-at-lt-OPEN_END-clause-does g c =
    of-open _ _ _ c.if-at-lt-OPEN_END.true (loads-open _ _ _ _ _ _ _ _ _ (omega (arith, c.requires.aligned)) c.read_word.ensures.event.trace
    (sym (g.met.O.OffChip.same_layout _ _ c.read_word.ensures.same)) c.read_word.ensures.event.room c.requires.ready refl)

pub returns-clause-does : goal.returns-clause-does
returns-clause-does g c =
    of-block _ _ _ c.if-at-lt-OPEN_END.false (record {
      reaches = c.in_ok-reach.ensures.does;
      answer = c.word_of.ensures.value ∙ ap (λ (payload : List ℕ). word_at payload c.args.at) (same-payload _ _ _ _ c.in_ok-reach.ensures.does c.line.ensures.value);
    })
