-- Events at no place of a block, and the contents after them.
use Rattle.std.proofs.Common.{◌≡◌, ℕ, true, None, List, [], ◌∷◌, ◌++◌, refl, ap, ◌∙◌}
use Rattle.std.specs.List.{list_all}
use Rattle.std.proofs.lemmas.Bool.{and_parts}
use Rattle.aegis_num.specs.declared.storage.Place.{Place}
use Rattle.aegis_num.specs.declared.storage.Place.TheVariants.{Log, Tree}
use Rattle.regions.specs.declared.layout.Layout.{Layout}
use Rattle.off_chip.specs.declared.event.Event.{Event}
use Rattle.off_chip.specs.declared.event.Event.TheVariants.{BlockRead, BlockWrite, WordRead, WordWrite, Note}
use Rattle.off_chip.specs.Histories.{History, ◌◂◌, followed, history}
use Rattle.off_chip.specs.WriteBacks.{last_write, written_at}
use Rattle.off_chip.proofs.HistoryLemmas.{history-append, newest-untold}
use Rattle.stamp_log.specs.LogState.{LogState}
use Rattle.stamp_log.specs.StandsOn.{contents_of}
use Rattle.stamp_log.proofs.ContentLemmas.{contents-from}
use Rattle.secure_memory.specs.MemorySights.{Sight, contents_of_place, veil_of}
use Rattle.secure_memory.specs.OutsideEvents.{is_outside}
use Rattle.bus_machine.specs.BusMachine.{Veil}
use Rattle.faithful_memory.specs.BetweenAccesses.{GrowsOutside, OutsideEventsKeepContents}
use Rattle.faithful_memory.specs.KnownWords.{GivesWords}
use Rattle.faithful_memory.proofs.TreeKept.{contents-kept, data-kept, tree-kept}
use Rattle.faithful_memory.proofs.WordsKept.{Given, given-data, given-each, given_data-each}

outside-unwritten : (place : Place) (event : Event) → is_outside event ≡ true → written_at place event ≡ None
outside-unwritten place (BlockRead at block) outside = refl
outside-unwritten place (BlockWrite at block) outside = cc
outside-unwritten place (WordRead who at word) outside = refl
outside-unwritten place (WordWrite who at word) outside = refl
outside-unwritten place (Note mark) outside = refl

outside-last : (place : Place) (older : History) (events : List Event) → list_all is_outside events ≡ true → last_write place (followed older events) ≡ last_write place older
outside-last place older [] all = refl
outside-last place older (event ∷ events) all =
    let parts = and_parts (is_outside event) (list_all is_outside events) all in
    outside-last place (event ◂ older) events parts.1 ∙ newest-untold (λ event _. written_at place event) event older (outside-unwritten place event parts.0)

pub outside-write : (place : Place) (before after events : List Event) → after ≡ before ++ events → list_all is_outside events ≡ true
    → last_write place (history after) ≡ last_write place (history before)
outside-write place before after events appended all =
    ap (λ (h : History). last_write place h) (history-append after before events appended) ∙ outside-last place (history before) events all

outside-gives : (layout : Layout) (veil : Veil) (memory : ℕ → ℕ) (event : Event) → is_outside event ≡ true → GivesWords layout veil memory event
outside-gives layout veil memory (BlockRead at block) outside = cc
outside-gives layout veil memory (BlockWrite at block) outside = tt
outside-gives layout veil memory (WordRead who at word) outside = tt
outside-gives layout veil memory (WordWrite who at word) outside = tt
outside-gives layout veil memory (Note mark) outside = tt

pub outside-given : (layout : Layout) (veil : Veil) (memory : ℕ → ℕ) (events : List Event) → list_all is_outside events ≡ true → Given layout veil memory events
outside-given layout veil memory [] all = tt
outside-given layout veil memory (event ∷ events) all =
    let parts = and_parts (is_outside event) (list_all is_outside events) all in
    (outside-gives layout veil memory event parts.0, outside-given layout veil memory events parts.1)

outside-same : {L : Type 0} (events : List Event) (old new : Sight L) → GrowsOutside events old new → (place : Place) → contents_of_place new place ≡ contents_of_place old place
outside-same {L} events old new grows = by
  where
    last : (place : Place) → last_write place (history new.trace) ≡ last_write place (history old.trace)
    last place = outside-write place old.trace new.trace events grows.appended grows.outside

    by : (place : Place) → contents_of_place new place ≡ contents_of_place old place
    by (Tree n) = tree-kept old new n grows.same (last (Tree n))
    by (Log n) =
        ap (λ (log : LogState). contents_of log (history new.trace) n) grows.log
        ∙ contents-from old.log.lines old.log.lines (history old.trace) (history new.trace) n refl (last (Log n))

pub outside-law : (L : Type 0) → OutsideEventsKeepContents L
outside-law L = record {
  all = λ events old new memory has grows. record {
    events = events;
    appended = grows.appended;
    reads = given-each old.layout (veil_of old) memory events (outside-given old.layout (veil_of old) memory events grows.outside);
    contents = contents-kept old new memory grows.same.layout (outside-same events old new grows) has;
  };
  data_blocks = λ events old new memory has grows. record {
    events = events;
    appended = grows.appended;
    reads = given_data-each old.layout (veil_of old) memory events
        (given-data old.layout (veil_of old) memory events (outside-given old.layout (veil_of old) memory events grows.outside));
    contents = data-kept old new memory grows.same.layout (λ n is. outside-same events old new grows (Tree n)) has;
  };
}
