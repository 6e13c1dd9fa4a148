-- What follows of reads that gave what had been written.
use Rattle.std.proofs.Common.{◌≡◌, ℕ, true, List, Option, Some, None, refl, sym, ap, ◌∙◌}
use Rattle.std.specs.Prelude.{IsTrue}
use Rattle.aegis_num.specs.declared.storage.Block.{Block}
use Rattle.aegis_num.specs.declared.storage.Place.{Place}
use Rattle.aegis_num.specs.declared.storage.Place.TheVariants.{Tree}
use Rattle.off_chip.specs.declared.event.Event.{Event}
use Rattle.off_chip.specs.declared.event.Event.TheVariants.{BlockRead}
use Rattle.off_chip.specs.Histories.{History, history}
use Rattle.off_chip.specs.WriteBacks.{last_write}
use Rattle.off_chip.specs.FaithfulReads.{is_faithful, AllFaithful, is_expected}
use Rattle.off_chip.proofs.HistoryLemmas.{Each-weaker, Each-cut}
use Rattle.off_chip.proofs.WriteLemmas.{last_write-in_order}
use Rattle.off_chip.proofs.FaithfulLemmas.{same_block-Decides}
use Rattle.hash_tree.specs.AsWritten.{is_written_block, is_as_written, AllAsWritten, UnfaithfulTreeRead}

-- one read, where the last write-back is known
pub as_written-block : (place : Place) (block written : Block) (older : History) → last_write place older ≡ Some written
    → is_as_written (BlockRead place block) older ≡ true → block ≡ written
as_written-block place block written older found true' =
    (same_block-Decides block written).0 (sym (ap (λ (o : Option Block). is_written_block block o) found) ∙ true')

pub block-as_written : (place : Place) (block : Block) (older : History) → ((written : Block) → last_write place older ≡ Some written → block ≡ written)
    → is_as_written (BlockRead place block) older ≡ true
block-as_written place block older same = by (last_write place older) refl
  where
    by : (o : Option Block) → last_write place older ≡ o → is_as_written (BlockRead place block) older ≡ true
    by None found = ap (λ (o : Option Block). is_written_block block o) found
    by (Some written) found = ap (λ (o : Option Block). is_written_block block o) found ∙ (same_block-Decides block written).1 (same written found)

pub unfaithful-as_written : (trace : List Event) → UnfaithfulTreeRead trace → AllAsWritten (history trace) → ⊥
unfaithful-as_written trace unfaithful all =
    let here = Each-cut (λ event older. IsTrue (is_as_written event older)) trace unfaithful.before (BlockRead (Tree unfaithful.n) unfaithful.block) unfaithful.rest unfaithful.parts all.each in
    unfaithful.differ (as_written-block (Tree unfaithful.n) unfaithful.block unfaithful.written (history unfaithful.before)
    ((last_write-in_order (Tree unfaithful.n) unfaithful.before unfaithful.written).1 unfaithful.last) here)

pub faithful-as_written : (image : Place → Option (List ℕ)) (older : History) → AllFaithful image older → AllAsWritten older
faithful-as_written image older faithful = record {
  each = Each-weaker (λ event older. IsTrue (is_faithful image event older)) (λ event older. IsTrue (is_as_written event older))
      (λ event older true'. one event older true') older faithful.each;
}
  where
    weaker : (place : Place) (block : Block) (o : Option Block) → is_expected (image place) block o ≡ true → is_written_block block o ≡ true
    weaker place block None true' = refl
    weaker place block (Some written) true' = true'

    one : (event : Event) (older : History) → is_faithful image event older ≡ true → is_as_written event older ≡ true
    one (BlockRead place block) older true' = weaker place block (last_write place older) true'
    one event older true' = refl
