-- What is said of events from a number on, of histories and in order.
use Rattle.std.proofs.Common.{◌≡◌, ℕ, List, ◌∷◌, ◌++◌, Option, Some, None, refl, subst}
use Rattle.std.specs.Prelude.{IfSome, IsTrue}
use Rattle.std.specs.Bool.{OnTrue}
use Rattle.aegis_num.specs.declared.Place.{Place}
use Rattle.aegis_num.specs.declared.Place.TheVariants.{Tree}
use Rattle.off_chip.specs.declared.Event.{Event}
use Rattle.off_chip.specs.declared.Event.TheVariants.{BlockRead}
use Rattle.off_chip.specs.BlockPlaces.{named_place}
use Rattle.off_chip.specs.ExpectedDigests.{Digests}
use Rattle.off_chip.specs.FaithfulReads.{is_faithful, is_tree_read}
use Rattle.off_chip.specs.Histories.{history}
use Rattle.off_chip.specs.OffChipBytes.{HasPlace}
use Rattle.off_chip.proofs.DigestLemmas.{expected_digest-in_order}
use Rattle.off_chip.proofs.FaithfulLemmas.{is_faithful-Decides}
use Rattle.off_chip.proofs.HistoryLemmas.{Each-cut, cut-Each}
use Rattle.memory_trace.specs.TracedEvents.{From, HasExpectedDigest, ReadsAreExpected, TracedInOrder, TreeReadsFaithfulFrom}
use Rattle.memory_trace.proofs.Growing.{counted, counted-back}

expected-at : (tree : Digests) (entry : ℕ) (trace before : List Event) (event : Event) (rest : List Event) → ReadsAreExpected tree entry trace → trace ≡ before ++ event ∷ rest
    → From entry (HasExpectedDigest tree) event (history before)
expected-at tree entry trace before (BlockRead (Tree n) block) rest reads same =
    λ from. (expected_digest-in_order tree n before (tree.digest n block)).1 (reads.each before n block rest same (counted-back entry before from))
expected-at tree entry trace before event rest reads same = λ from. tt

faithful-at : (image : Place → Option (List ℕ)) (entry : ℕ) (trace before : List Event) (event : Event) (rest : List Event) → TreeReadsFaithfulFrom image entry trace
    → trace ≡ before ++ event ∷ rest → From entry (λ event older. OnTrue (is_tree_read event) (IsTrue (is_faithful image event older))) event (history before)
faithful-at image entry trace before (BlockRead (Tree n) block) rest reads same =
    λ from. (is_faithful-Decides image before (Tree n) block).1 (reads.each before n block rest same (counted-back entry before from))
faithful-at image entry trace before event rest reads same = λ from. tt

named-if : (P : Place → Type 0) (o : Option Place) → ((place : Place) → o ≡ Some place → P place) → IfSome o P
named-if P None each = tt
named-if P (Some place) each = each place refl

if-named : (P : Place → Type 0) (o : Option Place) (place : Place) → o ≡ Some place → IfSome o P → P place
if-named P o place same holds = subst (λ (p : Option Place). IfSome p P) same holds

pub in-order : TracedInOrder
in-order = record {
  expected = λ tree entry trace. (
    λ reads. record {
      each = λ before n block rest same from. (expected_digest-in_order tree n before (tree.digest n block)).0
          (Each-cut (From entry (HasExpectedDigest tree)) trace before (BlockRead (Tree n) block) rest same reads.each (counted entry before from));
    },
    λ reads. record { each = cut-Each (From entry (HasExpectedDigest tree)) trace (λ before event rest same. expected-at tree entry trace before event rest reads same) },
  );
  faithful = λ image entry trace. (
    λ reads. record {
      each = λ before n block rest same from. (is_faithful-Decides image before (Tree n) block).0
          (Each-cut (From entry (λ event older. OnTrue (is_tree_read event) (IsTrue (is_faithful image event older)))) trace before (BlockRead (Tree n) block) rest same reads.each
          (counted entry before from));
    },
    λ reads. record {
      each = cut-Each (From entry (λ event older. OnTrue (is_tree_read event) (IsTrue (is_faithful image event older)))) trace
          (λ before event rest same. faithful-at image entry trace before event rest reads same);
    },
  );
  inside = λ layout trace. (
    λ names. record {
      each = λ before event rest place same named. if-named (HasPlace layout) (named_place event) place named
          (Each-cut (λ event older. IfSome (named_place event) (HasPlace layout)) trace before event rest same names.each);
    },
    λ names. record {
      each = cut-Each (λ event older. IfSome (named_place event) (HasPlace layout)) trace
          (λ before event rest same. named-if (HasPlace layout) (named_place event) (λ place named. names.each before event rest place same named));
    },
  );
}
