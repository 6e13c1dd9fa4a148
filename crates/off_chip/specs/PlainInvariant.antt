-- Device: what the fields of a plain memory keep.
use Rattle.std.specs.Prelude.{ℕ, ◌≡◌, List, length}
use Rattle.regions.specs.declared.layout.Layout.{Layout}
use Rattle.regions.specs.Tree.{tree_blocks}
use Rattle.off_chip.specs.declared.event.Event.{Event}
use Rattle.off_chip.specs.OffChipBytes.{bytes_loaded, size_of, after_events}
use Rattle.off_chip.specs.HonestMemory.{IsPlainTrace}

-- the bytes are those after the events, and the trace is one of a plain memory
pub record IsPlainMemory (layout : Layout) (statics memory : List ℕ) (trace : List Event) (in_tree : ℕ) : Type 0 where
  pub counted : in_tree ≡ tree_blocks layout
  pub size : length memory ≡ size_of layout
  pub bytes : memory ≡ after_events layout trace (bytes_loaded layout statics)
  pub plain : IsPlainTrace layout statics trace
