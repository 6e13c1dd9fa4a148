use Rattle.std.proofs.Common.{ℕ, List, refl, sym}
use Rattle.off_chip.specs.declared.event.Event.TheVariants.{WordWrite}
use Rattle.off_chip.specs.declared.event.Who.TheVariants.{Secure}
use Rattle.secure_memory.specs.BlockWords.{with_word_at}
use Rattle.secure_memory.proofs.OpenActs.{of-block, of-open, open-acts}
use Rattle.secure_memory.proofs.StoreActs.{puts-acts}
use Rattle.secure_memory.proofs.memory.SecureMemory.write_word.Goals as goal

pub returns-then-at-lt-OPEN_END-clause-does : goal.returns-then-at-lt-OPEN_END-clause-does
returns-then-at-lt-OPEN_END-clause-does g c =
    of-open _ _ _ c.if-at-lt-OPEN_END.true (record {
      read = 0;
      acts = open-acts (WordWrite Secure c.args.at c.args.word) _ _ _ _ refl c.write_word.ensures.event.trace (λ memory. refl)
          (sym (g.met.O.OffChip.same_layout _ _ c.write_word.ensures.same)) c.write_word.ensures.event.room c.requires.ready;
    })

pub returns-clause-does : goal.returns-clause-does
returns-clause-does g c =
    of-block _ _ _ c.if-at-lt-OPEN_END.false
    (puts-acts (λ before. c.args.word) (λ (payload : List ℕ). with_word_at payload c.args.at c.args.word) _ _ _ _ c.in_ok-reach.ensures.does c.requires.placed c.if-at-lt-OPEN_END.false
    c.put_word_at.ensures.puts)
