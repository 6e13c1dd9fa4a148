-- Promise: a memory under an empty script is a plain one.
use Rattle.std.specs.Prelude.{ℕ, ◌↔◌, List, []}
use Rattle.regions.specs.declared.layout.Layout.{Layout}
use Rattle.off_chip.specs.declared.event.Event.{Event}
use Rattle.off_chip.specs.OffChipBytes.{bytes_loaded, IsAnswered}
use Rattle.scripted_dram.specs.ScriptMemory.{IsAnsweredBy}

-- a trace is answered by the empty script where each read holds the last write at its place, or the load
abbrev pub PlainUnderEmptyScript : Type 0
PlainUnderEmptyScript =
    (layout : Layout) (statics : List ℕ) (trace : List Event) →
    IsAnsweredBy layout statics [] trace ↔ IsAnswered layout trace (bytes_loaded layout statics)
