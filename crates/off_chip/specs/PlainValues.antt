-- Promise: what a recorder keeps of events, what a plain memory is seen as, and when two are the same memory.
use Rattle.std.specs.Prelude.{ℕ, List, ◌≡◌}
use Rattle.off_chip.specs.declared.event.Event.{Event}
use Rattle.regions.specs.declared.layout.Layout.{Layout}
use Rattle.off_chip.specs.OffChipBytes.{bytes_loaded, after_events}

-- the events so far, oldest first, and how many further ones there is room for
pub record KeptEvents : Type 0 where
  pub trace : List Event
  pub room : ℕ

-- the layout, the static blocks that it began with, its events, and how many further ones there is room for
pub record Plain : Type 0 where
  pub layout : Layout
  pub statics : List ℕ
  pub trace : List Event
  pub room : ℕ

-- both have the same layout and began with the same static blocks
pub record SamePlain (a b : Plain) : Type 0 where
  pub layout : a.layout ≡ b.layout
  pub statics : a.statics ≡ b.statics

-- the bytes that the next read is answered by: what it began with, and what was written since
abbrev pub plain_contents : Plain → List ℕ
plain_contents plain = after_events plain.layout plain.trace (bytes_loaded plain.layout plain.statics)
