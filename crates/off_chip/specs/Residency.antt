-- Promise: which blocks the processor holds, by what its trace tells.
use Rattle.std.specs.Prelude.{◌≡◌, ℕ, ◌≤◌, Bool, true, false, not, ◌&&◌, List, [], ◌∷◌, ◌++◌, length, Option, Some, None, unwrap_or, if◌then◌else◌}
use Rattle.std.specs.Bool.{Decides}
use Rattle.std.specs.List.{list_any, list_all}
use Rattle.aegis_num.specs.declared.storage.Block.{Block}
use Rattle.aegis_num.specs.declared.storage.Place.{Place}
use Rattle.aegis_num.specs.declared.storage.Place.TheVariants.{Tree, Log}
use Rattle.off_chip.specs.declared.event.Event.{Event}
use Rattle.off_chip.specs.declared.event.Event.TheVariants.{BlockRead, BlockWrite, Note}
use Rattle.off_chip.specs.declared.event.Mark.TheVariants.{Drop, CheckStart, CheckPassed}
use Rattle.off_chip.specs.Histories.{History, history, newest}
use Rattle.off_chip.specs.WriteBacks.{same_place}
use Rattle.off_chip.specs.Epochs.{is_passed}

-- whether a check of the log is under way after an event, where the event tells it
abbrev pub check_told : Event → Option Bool
check_told (Note CheckStart) = Some true
check_told (Note CheckPassed) = Some false
check_told event = None

-- a check of the log is under way: a start of a check stands in the history, and no passed check is newer
abbrev pub in_check : History → Bool
in_check older = unwrap_or (newest (λ event _. check_told event) older) false

-- whether a place is one of the log
abbrev pub is_log : Place → Bool
is_log (Tree n) = false
is_log (Log n) = true

-- whether the place is resident after an event, where the event concerns it: its reads outside a check, its writes and its Drop marks.
-- Only a read of a log block can be inside a check
abbrev pub concerning : Place → Event → History → Option Bool
concerning place (BlockRead at block) older = if same_place place at && not (is_log at && in_check older) then Some true else None
concerning place (BlockWrite at block) older = if same_place place at then Some false else None
concerning place (Note (Drop at)) older = if same_place place at then Some false else None
concerning place event older = None

-- whether a place is resident: the last event that concerns it is a read
abbrev pub is_resident : Place → History → Bool
is_resident place older = unwrap_or (newest (concerning place) older) false

-- in order: a check is under way after these events
pub record InCheck (before : List Event) : Type 0 where
  pub earlier : List Event
  pub later : List Event
  pub parts : before ≡ earlier ++ Note CheckStart ∷ later
  pub not_passed : list_any is_passed later ≡ false

-- in order: an event that stands after these concerns a place
pub data Concerns (place : Place) (before : List Event) (event : Event) : Type 0 where
  tree_read : (n : ℕ) (block : Block) → place ≡ Tree n → event ≡ BlockRead place block → Concerns place before event
  log_read : (n : ℕ) (block : Block) → place ≡ Log n → event ≡ BlockRead place block → (InCheck before → ⊥) → Concerns place before event
  write : (block : Block) → event ≡ BlockWrite place block → Concerns place before event
  dropped : event ≡ Note (Drop place) → Concerns place before event

-- in order: a place is resident after these events
pub record IsResident (place : Place) (trace : List Event) : Type 0 where
  pub before : List Event
  pub block : Block
  pub rest : List Event
  pub parts : trace ≡ before ++ BlockRead place block ∷ rest
  pub concerns : Concerns place before (BlockRead place block)
  pub nothing_after : (between : List Event) (later : Event) (last : List Event) → rest ≡ between ++ later ∷ last
      → Concerns place (before ++ BlockRead place block ∷ between) later → ⊥

-- no place stands twice in a list
abbrev pub are_distinct : List Place → Bool
are_distinct [] = true
are_distinct (place ∷ places) = not (list_any (same_place place) places) && are_distinct places

-- at most so many places are resident: each list of distinct resident places is at most so long
pub record ResidentAtMost (n : ℕ) (older : History) : Type 0 where
  pub few : (places : List Place) → are_distinct places ≡ true → list_all (λ place. is_resident place older) places ≡ true → length places ≤ n

-- resident places, of histories and in order
pub record ResidencyInOrder : Type 0 where
  pub check : (trace : List Event) → Decides (in_check (history trace)) (InCheck trace)
  pub resident : (place : Place) (trace : List Event) → Decides (is_resident place (history trace)) (IsResident place trace)
