use Rattle.off_chip.proofs.StaticLemmas.{static_at-is}
use Rattle.off_chip.proofs.laws.statics_in_place.Goals as goal

pub returns : goal.returns
returns c = record { same = record { at = static_at-is } }
