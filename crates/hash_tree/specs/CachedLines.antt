-- Promise: the lines of a cache, as a tree sees them.
use Rattle.std.specs.Prelude.{ℕ, Option}
use Rattle.std.specs.FinMap.{get}
use Rattle.line_cache.specs.declared.lines.Line.{Line}
use Rattle.line_cache.specs.LineMaps.{LineMap}

-- the line of each tree block, where it has one
abbrev pub Held : Type 0
Held = ℕ → Option Line

abbrev pub held_in : LineMap → Held
held_in lines n = get lines n
