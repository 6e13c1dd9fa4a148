use Rattle.honest_memory.proofs.HonestProofs.{honest_means_alone, honest_words_exist}
use Rattle.honest_memory.proofs.laws.memory_is_honest.Goals as goal

pub returns : goal.returns
returns c = record { alone = honest_means_alone; exist = honest_words_exist }
