-- The laws of what a tree keeps on its trace.
use Rattle.std.proofs.Common.{◌≡◌, true, List, ◌∷◌, ◌++◌, Option, refl, ap}
use Rattle.std.specs.Prelude.{IsTrue}
use Rattle.aegis_num.specs.declared.storage.Place.TheVariants.{Tree}
use Rattle.off_chip.specs.declared.event.Event.{Event}
use Rattle.off_chip.specs.declared.event.Event.TheVariants.{BlockRead}
use Rattle.off_chip.specs.Histories.{history}
use Rattle.off_chip.specs.WriteBacks.{last_write}
use Rattle.off_chip.proofs.HistoryLemmas.{Each-cut, cut-Each}
use Rattle.off_chip.proofs.WriteLemmas.{last_write-in_order}
use Rattle.line_cache.specs.declared.lines.Line.{Line}
use Rattle.line_cache.specs.LineMaps.{with_payload}
use Rattle.line_cache.proofs.MapLemmas.{get-insert_same, get-insert_other}
use Rattle.hash_tree.specs.AsWritten.{AsWrittenInOrder, ReadsAsWritten, is_as_written}
use Rattle.hash_tree.specs.HashTrees.{state_of}
use Rattle.hash_tree.specs.Standing.{contents_in}
use Rattle.hash_tree.specs.TreeLaws.{EventsElsewhere, KeptIsExpected, LayoutsAreLawful, LendingChangesContents, StopsAreUnfaithful}
use Rattle.hash_tree.proofs.AsWrittenLemmas.{as_written-block, block-as_written, faithful-as_written, unfaithful-as_written}
use Rattle.hash_tree.proofs.CallLemmas.{held-line}
use Rattle.hash_tree.proofs.InsertLemmas.{kept-expected}
use Rattle.hash_tree.proofs.MoveLemmas.{stops-unfaithful}
use Rattle.hash_tree.proofs.RemoveLemmas.{Lent, stands-elsewhere, stands-lent}
use Rattle.hash_tree.proofs.SchemeLemmas.{lawful}

pub as_written-in_order : AsWrittenInOrder
as_written-in_order = record {
  all = λ trace. (
    λ all. record {
      each = λ before place block rest written parts last.
          as_written-block place block written (history before) ((last_write-in_order place before written).1 last)
          (Each-cut (λ event older. IsTrue (is_as_written event older)) trace before (BlockRead place block) rest parts all.each);
    },
    λ reads. record {
      each = cut-Each (λ event older. IsTrue (is_as_written event older)) trace (λ before event rest parts. one reads before event rest parts);
    },
  );
  image = faithful-as_written;
  unfaithful = unfaithful-as_written;
}
  where
    one : {trace : List Event} → ReadsAsWritten trace → (before : List Event) (event : Event) (rest : List Event) → trace ≡ before ++ event ∷ rest → is_as_written event (history before) ≡ true
    one reads before (BlockRead place block) rest parts =
        block-as_written place block (history before) (λ written found. reads.each before place block rest written parts ((last_write-in_order place before written).0 found))
    one reads before event rest parts = refl

pub elsewhere-law : EventsElsewhere
elsewhere-law scheme event lines root old new stands elsewhere same = stands-elsewhere scheme event (state_of lines root old) (state_of lines root new) stands elsewhere same refl refl

pub kept-law : KeptIsExpected
kept-law = kept-expected

pub stops-law : StopsAreUnfaithful
stops-law = stops-unfaithful

pub lending-law : LendingChangesContents
lending-law scheme lines root trace n left keeps stands leaf held long =
    let line = held-line lines n held in
    let old = state_of lines root trace in
    let new = state_of (with_payload lines n left) root trace in
    let step : Lent old new n left = record {
      trace = refl;
      root = refl;
      lines = record {
        here = get-insert_same lines n (record { payload = left; dirty = true });
        other = λ m apart. get-insert_other lines n m (record { payload = left; dirty = true }) apart;
      };
    } in
    record {
      stands = stands-lent scheme keeps old new n line.0 left stands leaf line.1 long step;
      here = ap (λ (o : Option Line). contents_in scheme n o (last_write (Tree n) (history trace))) step.lines.here;
      others = λ m leaf_m apart. ap (λ (o : Option Line). contents_in scheme m o (last_write (Tree m) (history trace))) (step.lines.other m apart);
    }

pub layouts-law : LayoutsAreLawful
layouts-law layout veiled inverse long bare = lawful layout veiled (record { inverse = inverse; long = long; bare = bare })
