-- Promise: no access, and so no step, is stopped by the tree or by the log where each block that was read is as it was written.
use Rattle.std.specs.Prelude.{◌≡◌, ℕ, List, [], ◌∷◌, ◌++◌}
use Rattle.off_chip.specs.declared.event.Event.{Event}
use Rattle.off_chip.specs.Histories.{history}
use Rattle.off_chip.specs.WriteBacks.{StampsFit}
use Rattle.hash_tree.specs.AsWritten.{AllAsWritten}
use Rattle.orbis_core.specs.declared.StepEnd.{StepEnd}
use Rattle.orbis_core.specs.declared.Stop.{Stop}
use Rattle.orbis_core.specs.declared.Stop.TheVariants as stop
use Rattle.orbis_core.specs.Rows.{IsSettledEnd, Machine, Steps}
use Rattle.secure_memory.specs.BlockWords.{IsPlaced}
use Rattle.secure_memory.specs.MemoryAccesses.{IsStopped}
use Rattle.secure_memory.specs.MemorySights.{HasContents, IsReady, Sight, veil_of}
use Rattle.faithful_memory.specs.AskedOnBus.{accesses_of}
use Rattle.faithful_memory.specs.KnownWords.{AllGiveWords, TreeAsWritten}

-- each block that was read is as it was written, and block writes carry their numbers as stamps
pub record IsWrittenAndStamped {L : Type 0} (sight : Sight L) : Type 0 where
  pub written : AllAsWritten (history sight.trace)
  pub last : ℕ
  pub fit : StampsFit last (history sight.trace)

-- the last event of an access that was stopped, and the reads before it, which give the words of a memory
pub record StopsAfterContents {L : Type 0} (old new : Sight L) (memory : ℕ → ℕ) : Type 0 where
  pub events : List Event
  pub last : Event
  pub appended : new.trace ≡ old.trace ++ (events ++ last ∷ [])
  pub reads : AllGiveWords old.layout (veil_of old) memory events

-- an access that was stopped
pub record StopsAreUnwritten (L : Type 0) : Type 0 where
  -- by the tree: a tree block that was read is not as it was written
  pub tree : (at event : ℕ) (old new : Sight L) → IsStopped at (stop.Tree event) old new → TreeAsWritten (history new.trace) → ⊥
  -- by the log: a block that was read is not as it was written, or a stamp is no number of its write
  pub log : (at event : ℕ) (old new : Sight L) → IsReady old → IsPlaced old.layout at → IsStopped at (stop.Log event) old new → IsWrittenAndStamped new → ⊥
  -- and where each block read before the last event is as it was written, the reads before it give what the blocks contain
  pub before : (at : ℕ) (reason : Stop) (old new : Sight L) (memory : ℕ → ℕ) → HasContents old memory → IsStopped at reason old new
      → ((earlier : List Event) (event : Event) → new.trace ≡ earlier ++ event ∷ [] → AllAsWritten (history earlier)) → StopsAfterContents old new memory

-- no step is stopped so
abbrev pub StepsSettle : Type 0 → Type 0
StepsSettle L =
    (old new : Machine (Sight L)) (ended : StepEnd) → IsReady old.memory → Steps (accesses_of L) old ended new → IsWrittenAndStamped new.memory → IsSettledEnd ended
