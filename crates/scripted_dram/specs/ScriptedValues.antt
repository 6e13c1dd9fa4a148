-- Promise: what a scripted memory is seen as, and when two are the same memory.
use Rattle.std.specs.Prelude.{ℕ, ◌≡◌, List}
use Rattle.regions.specs.declared.layout.Layout.{Layout}
use Rattle.adversary_script.specs.declared.change.Change.{Change}
use Rattle.off_chip.specs.declared.event.Event.{Event}
use Rattle.scripted_dram.specs.ScriptMemory.{after_all, beginning, readied}

-- the layout, the static blocks and the script that it began with, and its events
pub record Scripted : Type 0 where
  pub layout : Layout
  pub statics : List ℕ
  pub script : List Change
  pub trace : List Event
  pub room : ℕ

-- both have the same layout, and began with the same static blocks and the same script
pub record SameScripted (a b : Scripted) : Type 0 where
  pub layout : a.layout ≡ b.layout
  pub statics : a.statics ≡ b.statics
  pub script : a.script ≡ b.script

-- the bytes that the next read is answered by
abbrev pub scripted_contents : Scripted → List ℕ
scripted_contents d =
    (readied d.layout d.script (after_all d.layout d.script d.trace (beginning d.layout d.statics d.script))).memory
