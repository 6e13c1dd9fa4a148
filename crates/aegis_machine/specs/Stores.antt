-- Promise: what the machine keeps between its turns, and when it was made for an image and not run yet.
use Rattle.std.specs.Prelude.{◌≡◌, ℕ, List, []}
use Rattle.std.specs.FinMap.{empty}
use Rattle.aegis_num.specs.declared.Keys.{Keys}
use Rattle.regions.specs.declared.Layout.{Layout}
use Rattle.line_cache.specs.LineMaps.{LineMap}
use Rattle.hash_tree.specs.TreeParts.{TreeParts}
use Rattle.stamp_log.specs.LogState.{LogState}
use Rattle.stamp_log.specs.StandsOn.{IsNew}
use Rattle.secure_memory.specs.PrivatePads.{Padding}
use Rattle.secure_memory.specs.MemoryStands.{IsOfLayout}

-- the tree, the log, and the bytes that are held
pub record StoreParts (L : Type 0) : Type 0 where
  pub tree : TreeParts L Padding
  pub log : LogState
  pub held : List ℕ

-- a store of this layout that was not run yet: its cache has no lines, its log nothing, and no byte is held
pub record IsNewStore {L : Type 0} (lines_of : L → LineMap) (layout : Layout) (store : StoreParts L) : Type 0 where
  pub layouts : IsOfLayout layout store.tree store.log
  pub lines : lines_of store.tree.lines ≡ empty
  pub log : IsNew store.log
  pub held : store.held ≡ []

-- its pads and its log have these keys
pub record HasKeys {L : Type 0} (keys : Keys) (store : StoreParts L) : Type 0 where
  pub pads : store.tree.veil.key ≡ keys.pad
  pub log : store.log.key ≡ keys.log
