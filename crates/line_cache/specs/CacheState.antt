-- Device: the lines are kept in slots.
use Rattle.std.specs.Prelude.{◌≡◌, true, length}
use Rattle.aegis_num.specs.declared.limits.TheConstants.{TREE_LINES}
use Rattle.line_cache.specs.declared.cache.LineCache.TheInside.{Inside}
use Rattle.line_cache.specs.LineOrder.{OrderedLines, is_cache}
use Rattle.line_cache.specs.SlotLists.{AreApart, lines_at}

abbrev pub ordered_lines : Inside → OrderedLines
ordered_lines cache = lines_at cache.payloads.items cache.marks.items cache.slots.held

pub record IsKept (cache : Inside) : Type 0 where
  pub sound : is_cache (ordered_lines cache) ≡ true
  pub apart : AreApart cache.slots
  pub payload_count : length cache.payloads.items ≡ TREE_LINES
  pub mark_count : length cache.marks.items ≡ TREE_LINES
