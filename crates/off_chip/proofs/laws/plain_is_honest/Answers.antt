use Rattle.off_chip.proofs.HonestLemmas.{places-apart, place-within, read-written, read-first, plain-faithful}
use Rattle.off_chip.proofs.laws.plain_is_honest.Goals as goal

pub returns : goal.returns
returns c = record {
  law = record {
    apart = places-apart;
    within = place-within;
    written = read-written;
    first = read-first;
    faithful = plain-faithful;
  };
}
