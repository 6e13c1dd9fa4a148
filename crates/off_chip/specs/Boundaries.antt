-- Promise: what entering reads, between which events an instruction of the secure program is done, and the events of a suspension.
use Rattle.std.specs.Prelude.{ℕ, ◌+◌, List, take, filter_map, Option, Some, None, ◌≡◌, ◌≤◌, ◌==◌, nat_le, Bool, true, false, ◌&&◌, ◌||◌, [], ◌∷◌, ◌++◌, length, drop, count_by, if◌then◌else◌}
use Rattle.regions.specs.declared.layout.Layout.{Layout}
use Rattle.off_chip.specs.declared.event.Event.{Event}
use Rattle.off_chip.specs.declared.event.Event.TheVariants.{BlockRead, Note}
use Rattle.regions.specs.Tree.{tree_blocks}
use Rattle.off_chip.specs.OffChipBytes.{static_blocks}
use Rattle.std.specs.Bool.{Decides}
use Rattle.std.specs.List.{slice_split, list_any}
use Rattle.off_chip.specs.declared.event.Mark.TheVariants.{Retire, Suspend, Resume}
use Rattle.off_chip.specs.declared.event.Who.TheVariants.{Secure}
use Rattle.off_chip.specs.Histories.{History, no_event, ◌◂◌, in_order, history}

-- how many events entering takes: its mark, a read of each static block, a write of each block of the tree, and one of each log block
abbrev pub enter_events : Layout → ℕ
enter_events layout = 1 + static_blocks layout + tree_blocks layout + layout.log

-- the payload that a block read gives
abbrev pub payload_read : Event → Option (List ℕ)
payload_read (BlockRead at block) = Some block.payload
payload_read event = None

-- the payloads that were read at entering, in order
abbrev pub payloads_entered : Layout → List Event → List (List ℕ)
payloads_entered layout trace = filter_map payload_read (take (enter_events layout) trace)

-- an instruction of the secure program was done
abbrev pub is_retire : Event → Bool
is_retire (Note (Retire Secure)) = true
is_retire event = false

-- how many instructions of the secure program were done
abbrev pub retired : List Event → ℕ
retired trace = count_by is_retire trace

-- the program was suspended
abbrev pub is_suspend : Event → Bool
is_suspend (Note Suspend) = true
is_suspend event = false

-- how often the program was suspended
abbrev pub suspensions : List Event → ℕ
suspensions trace = count_by is_suspend trace

-- a boundary of a trace, where entering takes so many events: its start, the end of entering, and the place after each retirement
pub data IsBoundary (entry : ℕ) (before : List Event) : Type 0 where
  start : before ≡ [] → IsBoundary entry before
  entered : length before ≡ entry → IsBoundary entry before
  retirement : (earlier : List Event) → before ≡ earlier ++ Note (Retire Secure) ∷ [] → IsBoundary entry before

-- a boundary at the end of entering or after it
pub record IsStep (entry : ℕ) (before : List Event) : Type 0 where
  pub boundary : IsBoundary entry before
  pub entered : entry ≤ length before

-- the test of a boundary
abbrev pub is_boundary : ℕ → History → Bool
is_boundary entry no_event = true
is_boundary entry (event ◂ older) = (length (in_order (event ◂ older)) == entry) || is_retire event

-- the test that it is at the end of entering or after it
abbrev pub is_step : ℕ → History → Bool
is_step entry older = is_boundary entry older && nat_le entry (length (in_order older))

-- in order: the steps of a trace after entering, of so many events, without the marks that end them. The last one is under way
abbrev pub steps : ℕ → List Event → List (List Event)
steps entry trace = slice_split is_retire (drop entry trace)

-- the events of the step that is under way, in order: those after the latest boundary
abbrev pub since_step : ℕ → History → List Event
since_step entry no_event = []
since_step entry (event ◂ older) = if is_step entry (event ◂ older) then [] else since_step entry older ++ event ∷ []

-- boundaries and steps, of histories and in order
pub record BoundariesInOrder : Type 0 where
  pub boundary : (entry : ℕ) (trace : List Event) → Decides (is_boundary entry (history trace)) (IsBoundary entry trace)
  pub step : (entry : ℕ) (trace : List Event) → Decides (is_step entry (history trace)) (IsStep entry trace)
  -- there is one step more than instructions that were done after entering, each retirement there ends one, and the last is under way
  pub count : (entry : ℕ) (trace : List Event) → length (steps entry trace) ≡ retired (drop entry trace) + 1
  pub cut : (entry : ℕ) (before rest : List Event) → entry ≤ length before
      → steps entry (before ++ Note (Retire Secure) ∷ rest) ≡ steps entry before ++ slice_split is_retire rest
  pub last : (entry : ℕ) (trace : List Event) (earlier : List (List Event)) (step : List Event) → entry ≤ length trace
      → steps entry trace ≡ earlier ++ step ∷ [] → since_step entry (history trace) ≡ step

-- the program goes on
abbrev pub is_resume : Event → Bool
is_resume (Note Resume) = true
is_resume event = false

-- the events between the Suspend mark with this number, counted from 0, and its Resume mark: the first one after it
pub record IsStretch (trace : List Event) (number : ℕ) (stretch : List Event) : Type 0 where
  pub before : List Event
  pub rest : List Event
  pub parts : trace ≡ before ++ Note Suspend ∷ (stretch ++ Note Resume ∷ rest)
  pub counted : suspensions before ≡ number
  pub not_over : list_any is_resume stretch ≡ false

-- a suspension has one stretch
pub record StretchesAreOne : Type 0 where
  pub one : (trace : List Event) (number : ℕ) (stretch other : List Event) → IsStretch trace number stretch → IsStretch trace number other → stretch ≡ other
