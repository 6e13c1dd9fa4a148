-- Promise: where two strings have one digest, and where two lists of entries have one sum. Digests, strings and entry values are given.
use Rattle.std.specs.Prelude.{◌≡◌, ◌≢◌, ℕ, ◌^◌, ◌%◌, ◌==◌, ◌&&◌, Bool, List, ◌∷◌, ◌++◌, length, slice_get, sum_by, count_by, Option, Some, None}
use Rattle.std.specs.Bool.{Decides}
use Rattle.std.specs.Str.{bytes_eq}
use Rattle.aegis_num.specs.declared.storage.Block.{Block}
use Rattle.aegis_num.specs.declared.storage.Place.TheVariants.{Tree}
use Rattle.regions.specs.declared.layout.Layout.{Layout}
use Rattle.off_chip.specs.declared.event.Event.{Event}
use Rattle.off_chip.specs.declared.event.Event.TheVariants.{BlockRead, BlockWrite, Note}
use Rattle.off_chip.specs.declared.event.Mark.TheVariants.{CheckPassed}
use Rattle.off_chip.specs.Boundaries.{payloads_entered}
use Rattle.off_chip.specs.Histories.{history}
use Rattle.off_chip.specs.Epochs.{LogEntry, open_reads, open_writes}

-- ---- digests

-- the strings whose digests the processor compares: that of a tree block with a number, and that of a program with so many payloads
pub record Strings : Type 0 where
  pub digest : List ℕ → List ℕ
  pub block : ℕ → Block → List ℕ
  pub program : List (List ℕ) → List ℕ

-- the string of the tree block that an event moves, if it moves one
abbrev pub string_moved : Strings → Event → Option (List ℕ)
string_moved strings (BlockRead (Tree n) block) = Some (strings.block n block)
string_moved strings (BlockWrite (Tree n) block) = Some (strings.block n block)
string_moved strings event = None

-- the events of these two numbers move tree blocks with two strings and one digest
pub record BlockCollision (strings : Strings) (trace : List Event) (first second : ℕ) : Type 0 where
  pub first_event : Event
  pub second_event : Event
  pub at_first : slice_get trace first ≡ Some first_event
  pub at_second : slice_get trace second ≡ Some second_event
  pub string : List ℕ
  pub other : List ℕ
  pub of_first : string_moved strings first_event ≡ Some string
  pub of_second : string_moved strings second_event ≡ Some other
  pub differ : string ≢ other
  pub same : strings.digest string ≡ strings.digest other

-- the program that was read at entering is another one than the image's, with the same digest
pub record ProgramCollision (strings : Strings) (layout : Layout) (payloads : List (List ℕ)) (trace : List Event) : Type 0 where
  pub differ : strings.program payloads ≢ strings.program (payloads_entered layout trace)
  pub same : strings.digest (strings.program payloads) ≡ strings.digest (strings.program (payloads_entered layout trace))

-- a trace of an image with these static payloads holds a digest collision
pub data HoldsDigestCollision (strings : Strings) (layout : Layout) (payloads : List (List ℕ)) (trace : List Event) : Type 0 where
  blocks : (first second : ℕ) → BlockCollision strings trace first second → HoldsDigestCollision strings layout payloads trace
  programs : ProgramCollision strings layout payloads trace → HoldsDigestCollision strings layout payloads trace

-- ---- multisets and sums

-- whether two entries are the same
abbrev pub same_entry : LogEntry → LogEntry → Bool
same_entry entry other = (entry.number == other.number) && (bytes_eq entry.payload other.payload && (entry.stamp == other.stamp))

-- two lists are the same multiset: each entry stands as often in one as in the other
pub record SameEntries (entries others : List LogEntry) : Type 0 where
  pub counts : (entry : LogEntry) → count_by (same_entry entry) entries ≡ count_by (same_entry entry) others

-- how many entries there are, and the sum of their values modulo 2^128
pub record EntrySum : Type 0 where
  pub number : ℕ
  pub total : ℕ

abbrev pub sum_of : (LogEntry → ℕ) → List LogEntry → EntrySum
sum_of value entries = record { number = length entries; total = sum_by value entries % (2 ^ 128) }

-- at this event a check passed that compared two different multisets of one sum: the writes and the reads of the epoch that ended there
pub record LogCollision (value : LogEntry → ℕ) (trace : List Event) (number : ℕ) : Type 0 where
  pub before : List Event
  pub rest : List Event
  pub parts : trace ≡ before ++ Note CheckPassed ∷ rest
  pub counted : length before ≡ number
  pub differ : SameEntries (open_writes (history before)) (open_reads (history before)) → ⊥
  pub same : sum_of value (open_writes (history before)) ≡ sum_of value (open_reads (history before))

-- what follows
pub record CollisionsNameTwo : Type 0 where
  -- a collision of blocks names two events
  pub events : (strings : Strings) (trace : List Event) (first second : ℕ) → BlockCollision strings trace first second → first ≢ second
  -- lists that are one multiset have one sum, whatever the values
  pub sums : (value : LogEntry → ℕ) (entries others : List LogEntry) → SameEntries entries others → sum_of value entries ≡ sum_of value others
  pub entry : (entry other : LogEntry) → Decides (same_entry entry other) (entry ≡ other)
