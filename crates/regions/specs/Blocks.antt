-- Promise: how many blocks a layout has.
use Rattle.std.specs.Prelude.{ℕ, ◌+◌}
use Rattle.regions.specs.declared.layout.Layout.{Layout}

-- how many data blocks there are
abbrev pub data_blocks : Layout → ℕ
data_blocks layout = layout.verified + layout.private + layout.constants + layout.code
