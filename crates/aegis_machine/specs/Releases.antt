-- Promise: bytes that were released and are held until a check has passed, and how they are sent.
use Rattle.std.specs.Prelude.{ℕ, List, [], ◌∷◌, length, Option, Result, OnOk, OnErr}
use Rattle.aegis_edge.specs.Sink.{Appends, AppendsFront}
use Rattle.off_chip.specs.declared.Event.{Event}
use Rattle.off_chip.specs.declared.Event.TheVariants.{Note}
use Rattle.off_chip.specs.declared.Mark.TheVariants.{Sent}

-- the mark of a piece that is sent; where nothing is held there is none
abbrev pub mark_sent : List ℕ → List Event
mark_sent [] = []
mark_sent (byte ∷ bytes) = Note (Sent (length (byte ∷ bytes))) ∷ []

-- what a sink took: the whole piece, or a front of it where it failed
abbrev pub Takes : {E : Type 0} → Result (Unit {0}) E → Option (List ℕ) → Option (List ℕ) → List ℕ → Type 0
Takes result old new piece = OnOk result (Appends old new piece) × OnErr result (AppendsFront old new piece)
