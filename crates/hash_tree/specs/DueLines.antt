-- Promise: which lines of a tree have to be written.
use Rattle.std.specs.Prelude.{◌≡◌, ℕ, ◌<◌, true, Some}
use Rattle.line_cache.specs.declared.lines.Line.{Line}
use Rattle.hash_tree.specs.CachedLines.{Held}
use Rattle.hash_tree.specs.Schemes.{Scheme}

-- the line of a block has to be written: it is dirty, or that of a child has to be
pub data IsDue (scheme : Scheme) (lines : Held) : ℕ → Type 0 where
  dirty : (n : ℕ) (line : Line) → lines n ≡ Some line → line.dirty ≡ true → IsDue scheme lines n
  above : (child : ℕ) → 0 < child → IsDue scheme lines child → IsDue scheme lines (scheme.digests.parent child)
