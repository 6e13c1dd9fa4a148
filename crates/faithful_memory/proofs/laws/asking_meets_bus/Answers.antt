use Rattle.faithful_memory.proofs.AskingLemmas.{after-meets, asking-meets}
use Rattle.faithful_memory.specs.AskedOnBus.{after_which}
use Rattle.faithful_memory.proofs.laws.asking_meets_bus.Goals as goal

pub returns : goal.returns
returns g c = record {
  law = λ meets kept.
      asking-meets g.C.Asks.sight (after_which g.C.Asks.Holds g.C.Asks.calls) g.C.Asks.Asked (after-meets g.C.Asks.sight g.C.Asks.calls g.C.Asks.Holds meets) kept;
}
