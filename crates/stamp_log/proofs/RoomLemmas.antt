-- The events of a bus and the room that it has left are together the same.
use Rattle.std.proofs.Common.{◌≡◌, ℕ, ◌+◌, List, [], ◌∷◌, ◌++◌, length, length-append, ap, ◌∙◌, arith}
use Rattle.off_chip.specs.declared.event.Event.{Event}
use Rattle.off_chip.specs.BusCalls.{AppendsOne}

-- one event more takes one of the room
pub one-more-total : (event : Event) (before middle : List Event) (old_room room total : ℕ) → AppendsOne event before old_room middle room
    → length before + old_room ≡ total → length middle + room ≡ total
one-more-total event before middle old_room room total one is =
    let e : length middle ≡ length before + 1 = ap (λ (t : List Event). length t) one.trace ∙ length-append before (event ∷ []) in
    let f : room + 1 ≡ old_room = one.room in omega (arith, e, f, is)
