-- Device: the slots are kept as two lists and a table from blocks to slots.
use Rattle.std.specs.Prelude.{◌≡◌, ℕ, ◌<◌, ◌≤◌, true, length, slice_get, Some}
use Rattle.line_cache.specs.declared.slots.Slots.TheInside.{Inside}
use Rattle.line_cache.specs.declared.slots.TheConstants.{INDEXED_BLOCKS}
use Rattle.line_cache.specs.LineOrder.{blocks_of, is_in, line_of}
use Rattle.line_cache.specs.SlotLists.{SlotLists, AreApart}

abbrev pub slot_lists : Inside → SlotLists
slot_lists slots = record { held = slots.order.items; free = slots.free.items }

-- the table has the slots of the first blocks, and no block is greater than the greatest
pub record IsIndexed (slots : Inside) : Type 0 where
  pub apart : AreApart (slot_lists slots)
  pub table : (block : ℕ) → block < INDEXED_BLOCKS → slice_get slots.table.items block ≡ Some (line_of block slots.order.items)
  pub table_length : length slots.table.items ≡ INDEXED_BLOCKS
  pub bounded : (block : ℕ) → is_in (blocks_of slots.order.items) block ≡ true → block ≤ slots.greatest
