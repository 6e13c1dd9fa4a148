-- Events at no place of the tree keep a trace sound: those of the log, those of a check, and those at no place of a block.
use Rattle.std.proofs.Common.{◌≡◌, ℕ, suc, ◌+◌, ◌<◌, ◌≤◌, true, List, [], ◌∷◌, ◌++◌, length, Option, None, Result, refl, sym, ap, subst, inr, arith, append_assoc}
use Rattle.std.specs.Prelude.{IfSome, IsTrue}
use Rattle.std.specs.Bool.{OnTrue}
use Rattle.std.proofs.lemmas.List.{append-nil}
use Rattle.aegis_num.specs.declared.Block.{Block}
use Rattle.aegis_num.specs.declared.Place.{Place}
use Rattle.aegis_num.specs.declared.Place.TheVariants.{Log, Tree}
use Rattle.regions.specs.declared.Layout.{Layout}
use Rattle.off_chip.specs.declared.Event.{Event}
use Rattle.off_chip.specs.declared.Event.TheVariants.{BlockRead, BlockWrite, Note}
use Rattle.off_chip.specs.declared.Mark.TheVariants.{CheckPassed, CheckStart, Drop}
use Rattle.off_chip.specs.BlockPlaces.{named_place}
use Rattle.off_chip.specs.Boundaries.{enter_events}
use Rattle.off_chip.specs.Epochs.{LogEntry}
use Rattle.off_chip.specs.FaithfulReads.{is_faithful, is_tree_read}
use Rattle.off_chip.specs.Histories.{History, history, Each}
use Rattle.off_chip.specs.OffChipBytes.{HasPlace}
use Rattle.off_chip.proofs.HistoryLemmas.{history-appended}
use Rattle.hash_tree.specs.HashTrees.{digests_of, strings_hashed}
use Rattle.hash_tree.specs.TreeSteps.{Appends, IsElsewhere}
use Rattle.stamp_log.specs.declared.Changed.{Changed}
use Rattle.stamp_log.specs.declared.LogCause.{LogCause}
use Rattle.stamp_log.specs.LogCalls.{Fetches as LogFetches, MakesRoom, WritesBack}
use Rattle.stamp_log.specs.LogEvents.{EndsCheck, ReadsInOrder, RunsCheck, reads_from}
use Rattle.stamp_log.specs.LogState.{LogLines, stamped}
use Rattle.secure_memory.specs.OutsideEvents.{is_outside}
use Rattle.secure_memory.proofs.EventLists.{log_read-elsewhere, log_write-elsewhere}
use Rattle.secure_memory.proofs.OutsideProofs.{outside-elsewhere}
use Rattle.memory_trace.specs.SoundTraces.{IsSound}
use Rattle.memory_trace.specs.TracedEvents.{From, HasExpectedDigest}
use Rattle.memory_trace.specs.KeptTraces.{OthersKeepSound}
use Rattle.memory_trace.proofs.CleanLemmas.{IsOfWritten, clean-front, of_written-more, tells-write}

-- ---- one event

each-more : (P : Event → History → Type 0) (event : Event) (old new : List Event) → Appends event old new → Each P (history old) → P event (history old) → Each P (history new)
each-more P event old new same each last = subst (λ (h : History). Each P h) (sym (history-appended old new event same)) (each, last)

elsewhere-expected : (layout : Layout) (event : Event) (older : History) → IsElsewhere event → HasExpectedDigest (digests_of layout) event older
elsewhere-expected layout (BlockRead (Tree n) block) older elsewhere = absurd (elsewhere n refl)
elsewhere-expected layout event older elsewhere = tt

elsewhere-faithful : (image : Place → Option (List ℕ)) (event : Event) (older : History) → IsElsewhere event → OnTrue (is_tree_read event) (IsTrue (is_faithful image event older))
elsewhere-faithful image (BlockRead (Tree n) block) older elsewhere = absurd (elsewhere n refl)
elsewhere-faithful image event older elsewhere = tt

pub sound-elsewhere : (layout : Layout) (event : Event) (old new : List Event) → Appends event old new → IsElsewhere event → IfSome (named_place event) (HasPlace layout)
    → IsSound layout old → IsSound layout new
sound-elsewhere layout event old new same elsewhere inside sound = record {
  expected = record {
    each = each-more (From (enter_events layout) (HasExpectedDigest (digests_of layout))) event old new same sound.expected.each (λ from. elsewhere-expected layout event (history old) elsewhere);
  };
  honest = λ clean.
      let before = sound.honest (clean-front strings_hashed new old (event ∷ []) same clean) in
      record {
        faithful = λ image. record {
          each = each-more (From (enter_events layout) (λ event older. OnTrue (is_tree_read event) (IsTrue (is_faithful image event older)))) event old new same (before.faithful image).each
              (λ from. elsewhere-faithful image event (history old) elsewhere);
        };
        written = λ n below. subst (λ (h : History). IsOfWritten (digests_of layout) n h) (sym (history-appended old new event same))
            (of_written-more (digests_of layout) n event (history old)
            (tells-write (digests_of layout) n event (inr (λ block is. elsewhere ((digests_of layout).parent n) (ap (λ (e : Event). named_place e) is)))) (before.written n below));
      };
  inside = record { each = each-more (λ event older. IfSome (named_place event) (HasPlace layout)) event old new same sound.inside.each inside };
}

-- an event at no place of a block
pub outside-named : (event : Event) → is_outside event ≡ true → named_place event ≡ None
outside-named (BlockRead at block) outside = cc
outside-named (BlockWrite at block) outside = cc
outside-named (Note (Drop at)) outside = cc
outside-named event outside = refl

none-inside : (layout : Layout) (event : Event) → named_place event ≡ None → IfSome (named_place event) (HasPlace layout)
none-inside layout event none = subst (λ (o : Option Place). IfSome o (HasPlace layout)) (sym none) tt

pub sound-outside : (layout : Layout) (event : Event) (old new : List Event) → is_outside event ≡ true → Appends event old new → IsSound layout old → IsSound layout new
sound-outside layout event old new outside same sound =
    sound-elsewhere layout event old new same (outside-elsewhere event outside) (none-inside layout event (outside-named event outside)) sound

-- ---- the log

sound-room : (layout : Layout) (blocks : ℕ) (before after : List Event) (old new : LogLines) → blocks ≡ layout.log → MakesRoom blocks before after old new → IsSound layout before → IsSound layout after
sound-room layout blocks before after old new size (MakesRoom.nothing same held payloads) sound = subst (λ (t : List Event). IsSound layout t) (sym same) sound
sound-room layout blocks before after old new size (MakesRoom.written n stamp payload less line same held payloads) sound =
    sound-elsewhere layout (BlockWrite (Log n) (stamped payload stamp)) before after same (log_write-elsewhere n (stamped payload stamp)) (subst (λ (k : ℕ). n < k) size less) sound

pub sound-log_load : (layout : Layout) (blocks block : ℕ) (result : Result (Unit {0}) Changed) (before after : List Event) (old new : LogLines) → blocks ≡ layout.log → block < layout.log
    → LogFetches blocks block result before after old new → IsSound layout before → IsSound layout after
sound-log_load layout blocks block result before after old new size less fetches sound =
    sound-elsewhere layout (BlockRead (Log block) fetches.read) fetches.middle after fetches.event (log_read-elsewhere block fetches.read) less
    (sound-room layout blocks before fetches.middle old fetches.between size fetches.makes sound)

-- ---- a check

sound-writes : (layout : Layout) (before after : List Event) (old new : LogLines) → WritesBack layout.log before after old new → IsSound layout before → IsSound layout after
sound-writes layout before after old new (WritesBack.none trace lines) sound = sound
sound-writes layout before after old new (WritesBack.more first middle last older between newer writes room) sound =
    sound-room layout layout.log middle after between new refl room (sound-writes layout before middle old between writes sound)

sound-reads : (layout : Layout) (n : ℕ) (read : List Block) (before : List Event) → n + length read ≤ layout.log → IsSound layout before → IsSound layout (before ++ reads_from n read)
sound-reads layout n [] before few sound = subst (λ (t : List Event). IsSound layout t) (sym (append-nil before)) sound
sound-reads layout n (block ∷ read) before few sound =
    subst (λ (t : List Event). IsSound layout t) (append_assoc before (BlockRead (Log n) block ∷ []) (reads_from (suc n) read))
    (sound-reads layout (suc n) read (before ++ BlockRead (Log n) block ∷ []) (omega (arith, few))
    (sound-elsewhere layout (BlockRead (Log n) block) before (before ++ BlockRead (Log n) block ∷ []) refl (log_read-elsewhere n block) (omega (arith, few)) sound))

sound-order : (layout : Layout) (count : ℕ) (before after : List Event) → count ≤ layout.log → ReadsInOrder count before after → IsSound layout before → IsSound layout after
sound-order layout count before after few reads sound =
    subst (λ (t : List Event). IsSound layout t) (sym reads.events) (sound-reads layout 0 reads.read before (omega (arith, few, reads.counted)) sound)

sound-mark : (layout : Layout) (before after : List Event) → Appends (Note CheckPassed) before after → IsSound layout before → IsSound layout after
sound-mark layout before after same sound = sound-elsewhere layout (Note CheckPassed) before after same (λ m is. cc) tt sound

sound-ends : (layout : Layout) (value : LogEntry → ℕ) (before after : List Event) (result : Result (Unit {0}) LogCause) → EndsCheck value layout.log before after result
    → IsSound layout before → IsSound layout after
sound-ends layout value before after result (EndsCheck.passes compared reads agree same is) sound =
    sound-mark layout compared after same (sound-order layout layout.log before compared (omega arith) reads sound)
sound-ends layout value before after result (EndsCheck.differs read written reads differ is) sound = sound-order layout layout.log before after (omega arith) reads sound
sound-ends layout value before after result (EndsCheck.stops event stopped is) sound =
    sound-elsewhere layout (BlockRead (Log stopped.n) stopped.block) stopped.middle after stopped.last (log_read-elsewhere stopped.n stopped.block) stopped.less
    (sound-order layout stopped.n before stopped.middle (omega (arith, stopped.less)) stopped.earlier sound)

pub sound-check : (layout : Layout) (value : LogEntry → ℕ) (result : Result (Unit {0}) LogCause) (before after : List Event) (old new : LogLines)
    → RunsCheck value layout.log result before after old new → IsSound layout before → IsSound layout after
sound-check layout value result before after old new runs sound =
    sound-ends layout value runs.middle after result runs.ends
    (sound-writes layout (before ++ Note CheckStart ∷ []) runs.middle old new runs.writes
    (sound-elsewhere layout (Note CheckStart) before (before ++ Note CheckStart ∷ []) refl (λ m is. cc) tt sound))

pub others-law : OthersKeepSound
others-law = record { check = sound-check; outside = sound-outside }
