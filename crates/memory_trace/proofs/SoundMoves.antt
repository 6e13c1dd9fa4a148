-- A load of the tree keeps a trace sound, up to a read that stops it.
use Rattle.std.proofs.Common.{◌≡◌, ℕ, ◌<◌, List, ◌∷◌, ◌++◌, Option, Some, sym, ap, ◌∙◌, subst}
use Rattle.std.specs.Prelude.{IfSome, IsTrue}
use Rattle.std.specs.Bool.{OnTrue}
use Rattle.std.proofs.lemmas.Bool.{false_from_ne_true}
use Rattle.aegis_num.specs.declared.Block.{Block}
use Rattle.aegis_num.specs.declared.Place.{Place}
use Rattle.aegis_num.specs.declared.Place.TheVariants.{Tree}
use Rattle.regions.specs.declared.Layout.{Layout}
use Rattle.off_chip.specs.declared.Event.{Event}
use Rattle.off_chip.specs.declared.Event.TheVariants.{BlockRead}
use Rattle.off_chip.specs.BlockPlaces.{named_place}
use Rattle.off_chip.specs.Boundaries.{enter_events}
use Rattle.off_chip.specs.FaithfulReads.{is_faithful, is_tree_read}
use Rattle.off_chip.specs.Histories.{history}
use Rattle.off_chip.specs.OffChipBytes.{HasPlace}
use Rattle.off_chip.proofs.FaithfulLemmas.{is_faithful-written}
use Rattle.hash_tree.specs.HashTrees.{digests_of, scheme_of, strings_hashed}
use Rattle.hash_tree.specs.Schemes.{IsLawful}
use Rattle.hash_tree.specs.Standing.{State, Stands}
use Rattle.hash_tree.specs.TreeSteps.{IsMove, read, removal, Moved, Stops}
use Rattle.hash_tree.proofs.CallLemmas.{some-line}
use Rattle.hash_tree.proofs.InsertLemmas.{kept-expected, kept-written}
use Rattle.hash_tree.proofs.MoveLemmas.{stops-unfaithful}
use Rattle.memory_trace.specs.SoundTraces.{Honest, IsClean, IsSound}
use Rattle.memory_trace.specs.TracedEvents.{From, HasExpectedDigest}
use Rattle.memory_trace.specs.KeptTraces.{StopsAtTree}
use Rattle.memory_trace.proofs.CleanLemmas.{clean-front}
use Rattle.memory_trace.proofs.Growing.{each-grown}
use Rattle.memory_trace.proofs.HonestMoves.{all-at, among-at, at-home, inside-read, of_written-moved, read-faithful}
use Rattle.memory_trace.proofs.MoveFor.{removal-named}

module _ (layout : Layout) (veiled : ℕ → ℕ → List ℕ → List ℕ) (lawful : IsLawful (scheme_of layout veiled)) (pinned reads : List ℕ) (old new : State)
    (stands : Stands (scheme_of layout veiled) old) (moved : Moved (scheme_of layout veiled) pinned old new reads) where
  expected-cut : (entry : ℕ) (between : List Event) (event : Event) (last : List Event) → moved.moves.events ≡ between ++ event ∷ last
      → From entry (HasExpectedDigest (digests_of layout)) event (history (old.trace ++ between))
  unfolding scheme_of
  expected-cut entry between (BlockRead (Tree n) block) last parts = λ from. moved.moves.checked between n block last parts
  expected-cut entry between event last parts = λ from. tt

  faithful-cut : (entry : ℕ) (image : Place → Option (List ℕ)) → IsClean strings_hashed new.trace → Honest (digests_of layout) (scheme_of layout veiled).blocks entry old.trace
      → (between : List Event) (event : Event) (last : List Event) → moved.moves.events ≡ between ++ event ∷ last
      → From entry (λ event older. OnTrue (is_tree_read event) (IsTrue (is_faithful image event older))) event (history (old.trace ++ between))
  unfolding scheme_of
  faithful-cut entry image clean before between (BlockRead (Tree n) block) last parts =
      λ from. read-faithful (scheme_of layout veiled) lawful pinned reads old new moved clean before.written between n block last parts image
  faithful-cut entry image clean before between event last parts = λ from. tt

  named-inside : (n : ℕ) (event : Event) → named_place event ≡ Some (Tree n) → n < (scheme_of layout veiled).blocks → IfSome (named_place event) (HasPlace layout)
  unfolding scheme_of
  named-inside n event named below = subst (λ (o : Option Place). IfSome o (HasPlace layout)) (sym named) below

  inside-cut : (between : List Event) (event : Event) (last : List Event) → moved.moves.events ≡ between ++ event ∷ last → IfSome (named_place event) (HasPlace layout)
  inside-cut between event last parts = by (all-at (IsMove pinned old new) moved.moves.events between event last parts moved.moves.each)
    where
      by : IsMove pinned old new event → IfSome (named_place event) (HasPlace layout)
      by (read n block same pin) =
          named-inside n event (ap (λ (e : Event). named_place e) same)
          (inside-read (scheme_of layout veiled) pinned reads old new moved n (among-at n moved.moves.events between block last (parts ∙ ap (λ (e : Event). between ++ e ∷ last) same)))
      by (removal n is free held gone) =
          let line = some-line (old.lines n) held in
          named-inside n event (removal-named n event is) (stands.inside n line.0 line.1)

  pub sound-moved : IsSound layout old.trace → IsSound layout new.trace
  unfolding scheme_of
  sound-moved sound = record {
    expected = record {
      each = each-grown (From (enter_events layout) (HasExpectedDigest (digests_of layout))) old.trace moved.moves.events new.trace moved.moves.appended sound.expected.each
          (expected-cut (enter_events layout));
    };
    honest = λ clean.
        let before = sound.honest (clean-front strings_hashed new.trace old.trace moved.moves.events moved.moves.appended clean) in
        record {
          faithful = λ image. record {
            each = each-grown (From (enter_events layout) (λ event older. OnTrue (is_tree_read event) (IsTrue (is_faithful image event older)))) old.trace moved.moves.events new.trace
                moved.moves.appended (before.faithful image).each (faithful-cut (enter_events layout) image clean before);
          };
          written = of_written-moved (scheme_of layout veiled) lawful pinned reads old new moved clean before.written;
        };
    inside = record {
      each = each-grown (λ event older. IfSome (named_place event) (HasPlace layout)) old.trace moved.moves.events new.trace moved.moves.appended sound.inside.each inside-cut;
    };
  }

-- a load that stops
pub sound-stops : (layout : Layout) (veiled : ℕ → ℕ → List ℕ → List ℕ) → IsLawful (scheme_of layout veiled) → (pinned : List ℕ) (old new : State) (event : ℕ)
    → Stands (scheme_of layout veiled) old → Stops (scheme_of layout veiled) pinned old new event → IsSound layout old.trace → StopsAtTree layout new.trace event
unfolding scheme_of
sound-stops layout veiled lawful pinned old new event stands stops sound = record {
  before = stops.middle.trace;
  n = stops.n;
  block = stops.block;
  last = stops.read;
  number = stops.number;
  sound = sound-moved layout veiled lawful pinned stops.reads old stops.middle stands stops.moved sound;
  inside = stops.inside;
  expected = stops.kept;
  is_expected = kept-expected (scheme_of layout veiled) stops.middle stops.n stops.kept stops.moved.stands stops.inside stops.is_kept;
  differs = stops.differs;
  some_unfaithful = stops-unfaithful (scheme_of layout veiled) pinned old new event stops;
  unfaithful = λ clean image.
      let home = at-home (scheme_of layout veiled) stops.middle stops.moved.stands clean in
      let written = home.written stops.n stops.inside in
      false_from_ne_true (is_faithful image (BlockRead (Tree stops.n) stops.block) (history stops.middle.trace)) (λ faithful.
      let same : stops.block ≡ written.0 =
      (is_faithful-written image (Tree stops.n) stops.block written.0 (history stops.middle.trace) written.1).0 faithful in
      stops.differs (ap (λ (b : Block). (digests_of layout).digest stops.n b) same
      ∙ sym (kept-written (scheme_of layout veiled) stops.middle stops.n stops.kept written.0 home stops.inside stops.is_kept written.1)));
}
