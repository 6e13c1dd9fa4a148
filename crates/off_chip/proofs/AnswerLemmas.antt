-- What follows of one event more, for proofs here and in the crates above.
use Rattle.std.proofs.Common.{◌≡◌, ℕ, List, [], ◌∷◌, ◌++◌, refl}
use Rattle.regions.specs.declared.layout.Layout.{Layout}
use Rattle.off_chip.specs.declared.event.Event.{Event}
use Rattle.off_chip.specs.OffChipBytes.{Holds, after_event, after_events, IsAnswered}

-- the memory after one event more
pub after_events-more : (layout : Layout) (events : List Event) (event : Event) (memory : List ℕ) → after_events layout (events ++ event ∷ []) memory ≡ after_event layout event (after_events layout events memory)
after_events-more layout [] event memory = refl
after_events-more layout (first ∷ events) event memory = after_events-more layout events event (after_event layout first memory)

-- one event more is answered where it holds what stands in memory then
pub IsAnswered-more : (layout : Layout) (events : List Event) (event : Event) (memory : List ℕ) → IsAnswered layout events memory → Holds layout (after_events layout events memory) event → IsAnswered layout (events ++ event ∷ []) memory
IsAnswered-more layout [] event memory answered holds = (holds, tt)
IsAnswered-more layout (first ∷ events) event memory answered holds =
    (answered.0, IsAnswered-more layout events event (after_event layout first memory) answered.1 holds)
