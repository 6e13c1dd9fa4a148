-- Promise: how many events a run may make.
use Rattle.std.specs.Prelude.{ℕ, ◌+◌, ◌*◌}
use Rattle.regions.specs.declared.Layout.{Layout}
use Rattle.regions.specs.Tree.{height_of, tree_blocks}
use Rattle.off_chip.specs.OffChipBytes.{static_blocks}

-- no instruction with its checks or its whole suspension, and no entering, makes more events than this
abbrev pub worst : Layout → ℕ
worst layout = 16640 + 2 * layout.log

-- at most so many events come before a boundary after which so many instructions were done, of them so many releases, checks, exits and
-- traps, and so many suspensions
abbrev pub pace : Layout → ℕ → ℕ → ℕ → ℕ
pace layout retired checks suspensions =
    1 + static_blocks layout + tree_blocks layout + layout.log
    + retired * (1 + 4 * (height_of layout + 1)) + (layout.log + 40) * checks + 16386 * suspensions

-- fuel that suffices for a run of a source with so much work, so many releases, checks and suspensions
abbrev pub enough : Layout → ℕ → ℕ → ℕ → ℕ → ℕ
enough layout work releases checks suspensions =
    worst layout + 2 * static_blocks layout + tree_blocks layout + layout.log
    + 32 * work * (1 + 4 * (height_of layout + 1)) + (layout.log + 40) * (releases + checks + 1) + 16386 * suspensions
