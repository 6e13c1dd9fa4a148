use Rattle.off_chip.proofs.CollisionLemmas.{collision-two, same-sum_of, same_entry-Decides}
use Rattle.off_chip.proofs.laws.collisions_name_two.Goals as goal

pub returns : goal.returns
returns c = record { law = record { events = collision-two; sums = same-sum_of; entry = same_entry-Decides } }
