-- Promise: which block reads gave what had been written, and how far all did.
use Rattle.std.specs.Prelude.{◌≡◌, ℕ, ◌≤◌, ◌==◌, Bool, true, false, ◌&&◌, ◌⊎◌, List, [], ◌∷◌, ◌++◌, length, filter_map, Option, Some, None, IsTrue, ◌↔◌, if◌then◌else◌}
use Rattle.std.specs.Bool.{Decides, OnTrue}
use Rattle.std.specs.Str.{bytes_eq}
use Rattle.aegis_num.specs.declared.storage.Block.{Block}
use Rattle.aegis_num.specs.declared.storage.Place.{Place}
use Rattle.aegis_num.specs.declared.storage.Place.TheVariants.{Tree, Log}
use Rattle.off_chip.specs.declared.event.Event.{Event}
use Rattle.off_chip.specs.declared.event.Event.TheVariants.{BlockRead}
use Rattle.off_chip.specs.Histories.{History, ◌◂◌, history, Each, no_event}
use Rattle.off_chip.specs.WriteBacks.{written_at, last_write, IsLastWrite}

-- whether a payload is the one that is there, if there is one
abbrev pub is_payload : List ℕ → Option (List ℕ) → Bool
is_payload payload None = false
is_payload payload (Some bytes) = bytes_eq payload bytes

-- whether two blocks have the same payload and the same stamp
abbrev pub same_block : Block → Block → Bool
same_block block other = bytes_eq block.payload other.payload && (block.stamp == other.stamp)

-- whether a block that was read is the last write-back, or has the payload that the image has there
abbrev pub is_expected : Option (List ℕ) → Block → Option Block → Bool
is_expected loaded block None = is_payload block.payload loaded
is_expected loaded block (Some written) = same_block block written

-- whether an event is no unfaithful block read. An image has a payload at each place of a static block
abbrev pub is_faithful : (Place → Option (List ℕ)) → Event → History → Bool
is_faithful image (BlockRead place block) older = is_expected (image place) block (last_write place older)
is_faithful image event older = true

-- each block read is faithful
pub record AllFaithful (image : Place → Option (List ℕ)) (older : History) : Type 0 where
  pub each : Each (λ event older. IsTrue (is_faithful image event older)) older

-- whether an event is a read of a tree block
abbrev pub is_tree_read : Event → Bool
is_tree_read (BlockRead (Tree n) block) = true
is_tree_read event = false

-- each read of a tree block is faithful
pub record TreeFaithful (image : Place → Option (List ℕ)) (older : History) : Type 0 where
  pub each : Each (λ event older. OnTrue (is_tree_read event) (IsTrue (is_faithful image event older))) older

-- whether an event is a log read
abbrev pub is_log_read : Event → Bool
is_log_read (BlockRead (Log n) block) = true
is_log_read event = false

-- each log read is faithful
pub record LogFaithful (image : Place → Option (List ℕ)) (older : History) : Type 0 where
  pub each : Each (λ event older. OnTrue (is_log_read event) (IsTrue (is_faithful image event older))) older

-- in order: a read of this block at this place is faithful. It gives the last write-back, in payload and stamp, or, where nothing was
-- written there, the payload of the image's static block, whatever the stamp
pub data IsFaithfulRead (image : Place → Option (List ℕ)) (before : List Event) (place : Place) (block : Block) : Type 0 where
  as_written : (written : Block) → IsLastWrite place before written → block.payload ≡ written.payload → block.stamp ≡ written.stamp
      → IsFaithfulRead image before place block
  as_loaded : filter_map (written_at place) before ≡ [] → image place ≡ Some block.payload → IsFaithfulRead image before place block

-- in order: each block read is faithful, with what is before it
pub record AllReadsFaithful (image : Place → Option (List ℕ)) (trace : List Event) : Type 0 where
  pub each : (before : List Event) (place : Place) (block : Block) (rest : List Event)
      → trace ≡ before ++ BlockRead place block ∷ rest → IsFaithfulRead image before place block

-- in order: each read of a tree block is
pub record TreeReadsFaithful (image : Place → Option (List ℕ)) (trace : List Event) : Type 0 where
  pub each : (before : List Event) (n : ℕ) (block : Block) (rest : List Event)
      → trace ≡ before ++ BlockRead (Tree n) block ∷ rest → IsFaithfulRead image before (Tree n) block

-- in order: each log read is
pub record LogReadsFaithful (image : Place → Option (List ℕ)) (trace : List Event) : Type 0 where
  pub each : (before : List Event) (n : ℕ) (block : Block) (rest : List Event)
      → trace ≡ before ++ BlockRead (Log n) block ∷ rest → IsFaithfulRead image before (Log n) block

-- in order: some block read is unfaithful
pub record SomeReadUnfaithful (image : Place → Option (List ℕ)) (trace : List Event) : Type 0 where
  pub before : List Event
  pub place : Place
  pub block : Block
  pub rest : List Event
  pub parts : trace ≡ before ++ BlockRead place block ∷ rest
  pub unfaithful : IsFaithfulRead image before place block → ⊥

-- of the events that follow on a history, those before the first unfaithful block read
abbrev pub faithful_from : (Place → Option (List ℕ)) → History → List Event → List Event
faithful_from image older [] = []
faithful_from image older (event ∷ rest) = if is_faithful image event older then event ∷ faithful_from image (event ◂ older) rest else []

-- the faithful part of a trace
abbrev pub faithful_part : (Place → Option (List ℕ)) → List Event → List Event
faithful_part image trace = faithful_from image no_event trace

-- in order: the longest part from the start on in which no block read is unfaithful
pub record IsFaithfulPart (image : Place → Option (List ℕ)) (trace part : List Event) : Type 0 where
  pub rest : List Event
  pub parts : trace ≡ part ++ rest
  pub faithful : AllReadsFaithful image part
  pub longest : (other more : List Event) → trace ≡ other ++ more → AllReadsFaithful image other → length other ≤ length part

-- faithful reads, of histories and in order
pub record FaithfulInOrder : Type 0 where
  pub read : (image : Place → Option (List ℕ)) (before : List Event) (place : Place) (block : Block)
      → Decides (is_faithful image (BlockRead place block) (history before)) (IsFaithfulRead image before place block)
  pub all : (image : Place → Option (List ℕ)) (trace : List Event) → AllFaithful image (history trace) ↔ AllReadsFaithful image trace
  pub tree : (image : Place → Option (List ℕ)) (trace : List Event) → TreeFaithful image (history trace) ↔ TreeReadsFaithful image trace
  pub log : (image : Place → Option (List ℕ)) (trace : List Event) → LogFaithful image (history trace) ↔ LogReadsFaithful image trace
  -- all reads are faithful where those of the tree and those of the log are
  pub both : (image : Place → Option (List ℕ)) (trace : List Event) → AllReadsFaithful image trace ↔ (TreeReadsFaithful image trace × LogReadsFaithful image trace)
  -- either all reads are faithful, or one is not
  pub cases : (image : Place → Option (List ℕ)) (trace : List Event) → AllReadsFaithful image trace ⊎ SomeReadUnfaithful image trace
  -- the faithful part is the longest one, and a first part of the trace lies in it exactly where all in it is faithful
  pub part : (image : Place → Option (List ℕ)) (trace : List Event) → IsFaithfulPart image trace (faithful_part image trace)
  pub inside : (image : Place → Option (List ℕ)) (before rest : List Event)
      → AllReadsFaithful image before ↔ (length before ≤ length (faithful_part image (before ++ rest)))
