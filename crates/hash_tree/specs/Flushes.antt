-- Promise: what a tree does where it writes all its dirty lines back.
use Rattle.std.specs.Prelude.{◌≡◌, ℕ, ◌<◌, ◌≤◌, ◌^◌, true, false, List, ◌++◌, Some, is_some, option_map, Contains}
use Rattle.std.specs.List.{All}
use Rattle.aegis_num.specs.declared.storage.Block.{Block}
use Rattle.aegis_num.specs.declared.storage.Place.TheVariants.{Tree}
use Rattle.off_chip.specs.declared.event.Event.{Event}
use Rattle.off_chip.specs.declared.event.Event.TheVariants.{BlockWrite}
use Rattle.line_cache.specs.declared.lines.Line.{Line}
use Rattle.hash_tree.specs.CachedLines.{Held}
use Rattle.hash_tree.specs.DueLines.{IsDue}
use Rattle.hash_tree.specs.Schemes.{Scheme}
use Rattle.hash_tree.specs.Standing.{State, Stands, SameContents}
use Rattle.hash_tree.specs.TreeSteps.{WrittenBack}

-- an event writes a block whose line has to be written
pub record WritesDue (scheme : Scheme) (lines : Held) (event : Event) : Type 0 where
  pub n : ℕ
  pub block : Block
  pub write : event ≡ BlockWrite (Tree n) block
  pub due : IsDue scheme lines n

-- the dirty lines of the blocks from a number on were written back
pub record Flushed (scheme : Scheme) (from : ℕ) (old new : State) : Type 0 where
  -- the tree stands on, with its contents
  pub stands : Stands scheme new
  pub contents : SameContents scheme old new
  -- lines that have to be written are, and nothing else is done on the bus
  pub events : List Event
  pub appended : new.trace ≡ old.trace ++ events
  pub each : All (WritesDue scheme old.lines) events
  -- each line from that number on that was dirty was written, and the others that were dirty still are
  pub written : (n : ℕ) (line : Line) → from ≤ n → old.lines n ≡ Some line → line.dirty ≡ true → (block : Block) × Contains events (BlockWrite (Tree n) block)
  pub waiting : (n : ℕ) (line : Line) → n < from → old.lines n ≡ Some line → line.dirty ≡ true → (now : Line) × (new.lines n ≡ Some now) × (now.dirty ≡ true)
  -- no line comes or leaves, and those of no nodes have the payloads that they had
  pub held : (n : ℕ) → is_some (new.lines n) ≡ is_some (old.lines n)
  pub payloads : (n : ℕ) → scheme.nodes ≤ n → option_map (λ (line : Line). line.payload) (new.lines n) ≡ option_map (λ (line : Line). line.payload) (old.lines n)
  -- the lines from that number on are clean, and others are dirty only where they have to be written
  pub clean : (n : ℕ) (line : Line) → from ≤ n → new.lines n ≡ Some line → line.dirty ≡ false
  pub due : (n : ℕ) (line : Line) → new.lines n ≡ Some line → line.dirty ≡ true → IsDue scheme old.lines n

-- the line of one block was written back where it was dirty, and else nothing was done
pub data LineFlushed (scheme : Scheme) (old new : State) (n : ℕ) : Type 0 where
  wrote : (line : Line) (block : Block) → line.dirty ≡ true → block.stamp < 2 ^ 64 → WrittenBack scheme old new n line block → LineFlushed scheme old new n
  was_clean : new ≡ old → ((line : Line) → old.lines n ≡ Some line → line.dirty ≡ false) → LineFlushed scheme old new n
