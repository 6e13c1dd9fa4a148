-- What a told layout gives.
use Rattle.std.proofs.Common.{◌≡◌, ◌<◌, ℕ, Option, Some, None, sym, ap, subst}
use Rattle.aegis_num.specs.declared.storage.Place.{Place}
use Rattle.aegis_num.specs.declared.storage.Place.TheVariants.{Log}
use Rattle.regions.specs.declared.layout.Layout.{Layout}
use Rattle.off_chip.specs.OffChipBytes.{HasPlace}
use Rattle.off_chip.specs.BusCalls.{TellsOnly, TellsLog, IsInside}

pub told-only : (layout mine : Layout) → TellsOnly layout (Some mine) → mine ≡ layout
told-only layout mine only = only.mine

pub told-tree : (layout : Layout) (told : Option Layout) (place : Place) → TellsOnly layout told → HasPlace layout place → IsInside told place
told-tree layout None place only has = tt
told-tree layout (Some mine) place only has = subst (λ (l : Layout). HasPlace l place) (sym only.mine) has

pub told-log : (blocks : ℕ) (told : Option Layout) (n : ℕ) → TellsLog blocks told → n < blocks → IsInside told (Log n)
told-log blocks None n tells below = tt
told-log blocks (Some mine) n tells below = subst (λ (k : ℕ). n < k) (sym tells.mine) below

pub told-both : (layout : Layout) (told : Option Layout) → TellsOnly layout told → TellsLog layout.log told
told-both layout None only = record { mine = tt }
told-both layout (Some mine) only = record { mine = ap (λ (l : Layout). l.log) only.mine }
