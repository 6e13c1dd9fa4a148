-- Worked numbers.
use Rattle.std.proofs.Common.{◌≡◌, ◌+◌, refl, lit≤}
use Rattle.regions.specs.declared.Layout.{Layout}
use Rattle.regions.specs.Tree.{height_of}
use Rattle.bus_machine.specs.EventBounds.{enough, pace, worst}

-- thirteen blocks of data, three of them static, and two of the log: the height is 3, and the tree has 40 blocks
abbrev layout : Layout
layout = record {
  verified = 6;
  private = 4;
  constants = 1;
  code = 2;
  log = 2;
  shared = 4;
  data_fits = lit≤ tt;
  log_fits = lit≤ tt;
  shared_fits = lit≤ tt;
}

bounds : (worst layout ≡ 16644) × (pace layout 10 2 1 ≡ 46 + 170 + 84 + 16386) × (enough layout 5 1 2 3 ≡ 16644 + 48 + 2720 + 168 + 49158)
unfolding height_of
bounds = (refl, refl, refl)
