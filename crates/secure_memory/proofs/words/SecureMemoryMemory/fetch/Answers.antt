use Rattle.secure_memory.proofs.FetchLemmas.{fetches-word, not-refused, unless-not}
use Rattle.secure_memory.proofs.words.SecureMemoryMemory.fetch.Goals as goal

pub returns : goal.returns
returns g c = record {
  does = (
    unless-not _ _ _ _ _ (not-refused _ _ c.in_ok-test_word.ensures.value)
        (fetches-word _ _ _ _ _ _ c.no_pins-self.ensures c.in_ok-word.ensures.does c.pins_of-self.ensures.blocks c.pins_of-self.ensures.parents c.pins_of-self.ensures.few),
    (c.read_word.ensures.same_reference, c.read_word.ensures.same, c.read_word.ensures.total),
  );
}
