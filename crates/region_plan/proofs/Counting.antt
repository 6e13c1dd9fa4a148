-- From counted words to the sizes of a layout.
use Rattle.std.proofs.Common.{ℕ, ◌*◌, ◌∙◌, ap, refl}
use Rattle.regions.specs.declared.layout.Layout.{Layout}
use Rattle.regions.specs.declared.rights.Class.TheVariants.{Open, Verified, Private, Constant, Logged}
use Rattle.ir_code.specs.declared.code.Ir.{Ir}
use Rattle.region_plan.specs.declared.counts.WordCounts.{WordCounts}
use Rattle.region_plan.specs.Counted.{CountsCells, HasCounts}
use Rattle.region_plan.specs.Homes.{HasSizes, blocks_for}

pub sizes-counted : (layout : Layout) (ir : Ir) (counts : WordCounts) (n : ℕ) → CountsCells counts ir.cells → HasCounts layout counts n → HasSizes layout ir n
sizes-counted layout ir counts n counted has = record {
  verified = has.verified ∙ ap blocks_for (counted Verified refl);
  private = has.private ∙ ap blocks_for (counted Private refl);
  constants = has.constants ∙ ap blocks_for (counted Constant refl);
  code = has.code;
  log = has.log ∙ ap blocks_for (counted Logged refl);
  shared = has.shared ∙ ap (λ (words : ℕ). 4 * words) (counted Open refl);
}
