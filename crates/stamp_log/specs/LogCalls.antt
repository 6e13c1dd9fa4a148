-- Promise: what the calls of a log do to its lines and to the trace.
use Rattle.std.specs.Prelude.{◌≡◌, ◌≢◌, ℕ, ◌<◌, false, List, [], ◌∷◌, ◌++◌, length, slice_set, slice_index_or, Some, Result, IsErr, IfErr, OnOk, ◌↔◌}
use Rattle.aegis_num.specs.declared.storage.Block.{Block}
use Rattle.aegis_num.specs.declared.storage.Place.TheVariants.{Log}
use Rattle.off_chip.specs.declared.event.Event.{Event}
use Rattle.off_chip.specs.declared.event.Event.TheVariants.{BlockRead, BlockWrite}
use Rattle.off_chip.specs.WriteBacks.{block_writes}
use Rattle.stamp_log.specs.declared.causes.Changed.{Changed}
use Rattle.stamp_log.specs.LogState.{LogLines, line_of, stamped}

-- room for a line is made: a line is removed and its payload written back, or there was none to remove
pub data MakesRoom (blocks : ℕ) (before after : List Event) (old new : LogLines) : Type 0 where
  nothing : after ≡ before → new.held ≡ old.held → new.payloads ≡ old.payloads → MakesRoom blocks before after old new
  written : (n stamp : ℕ) (payload : List ℕ) → n < blocks → line_of old n ≡ Some payload
      → after ≡ before ++ BlockWrite (Log n) (stamped payload stamp) ∷ [] → new.held ≡ slice_set old.held n false → new.payloads ≡ old.payloads
      → MakesRoom blocks before after old new

-- a block without a line is loaded: room is made for its line, and then it is read, which is the last event. The answer is an error, with
-- the number of that event, exactly where the stamp that was read is above the number of block writes before it; else the block has a
-- line with the payload that was read, and each other line stays
pub record Fetches (blocks block : ℕ) (result : Result (Unit {0}) Changed) (before after : List Event) (old new : LogLines) : Type 0 where
  pub middle : List Event
  pub between : LogLines
  pub read : Block
  pub makes : MakesRoom blocks before middle old between
  pub event : after ≡ middle ++ BlockRead (Log block) read ∷ []
  pub above : IsErr result ↔ (block_writes middle < read.stamp)
  pub number : IfErr result (λ changed. changed.event ≡ length middle)
  pub here : OnOk result (line_of new block ≡ Some read.payload)
  pub apart : OnOk result ((n : ℕ) → n ≢ block → line_of new n ≡ line_of between n)

-- lines are removed and written back, one after another
pub data WritesBack (blocks : ℕ) : List Event → List Event → LogLines → LogLines → Type 0 where
  none : (trace : List Event) (lines : LogLines) → WritesBack blocks trace trace lines lines
  more : (before middle after : List Event) (old between new : LogLines) → WritesBack blocks before middle old between
      → MakesRoom blocks middle after between new → WritesBack blocks before after old new

-- no block has a line
pub record HoldsNothing (lines : LogLines) : Type 0 where
  pub nothing : (n : ℕ) → slice_index_or lines.held n false ≡ false
