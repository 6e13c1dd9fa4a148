-- How a log stands after a load.
use Rattle.std.proofs.Common.{◌≡◌, ℕ, ◌+◌, ◌<◌, ◌≤◌, ◌%◌, Bool, true, false, eqb, List, [], ◌∷◌, ◌++◌, length, refl, sym, ap, ◌∙◌, subst, inl, inr, arith}
use Rattle.std.specs.Prelude.{◌^◌, nat_lt, is_some, slice_set, ◌↔◌}
use Rattle.std.proofs.lemmas.Bool.{cases_Bool, eqb-true, eqb-false, ltb-true, ltb-false}
use Rattle.std.proofs.lemmas.List.{length-set}
use Rattle.aegis_num.specs.declared.storage.Block.{Block}
use Rattle.aegis_num.specs.declared.storage.Key.{Key}
use Rattle.aegis_num.specs.declared.storage.Place.TheVariants.{Log}
use Rattle.off_chip.specs.declared.event.Event.{Event}
use Rattle.off_chip.specs.declared.event.Event.TheVariants.{BlockRead}
use Rattle.off_chip.specs.Histories.{History, ◌◂◌, history}
use Rattle.off_chip.specs.WriteBacks.{StampsFit, block_writes}
use Rattle.off_chip.specs.Residency.{in_check}
use Rattle.off_chip.specs.Epochs.{LogEntry, log_entry, open_reads, open_writes}
use Rattle.off_chip.specs.Collisions.{sum_of}
use Rattle.off_chip.proofs.HistoryLemmas.{history-appended, in_order-history}
use Rattle.off_chip.proofs.WriteLemmas.{StampsFit-other}
use Rattle.stamp_log.specs.LogTurns.{is_out}
use Rattle.stamp_log.specs.LogStands.{TraceStands}
use Rattle.stamp_log.specs.LogState.{LogState, LogLines, line_of, value_under, entry_sum}
use Rattle.stamp_log.specs.StandsOn.{StandsOn, LinesStand}
use Rattle.stamp_log.specs.LogCalls.{MakesRoom}
use Rattle.stamp_log.proofs.Offline.{writes-read}
use Rattle.stamp_log.proofs.SumLemmas.{sum-read}
use Rattle.stamp_log.proofs.TraceLemmas.{trace-read}
use Rattle.stamp_log.proofs.LogLemmas.{RoomKeeps, room-keeps, removed-here, removed-apart, same-lines, lines-inserted}

-- a block without a line has none after room was made, and the lists are as long as before
pub record RoomMade (block : ℕ) (old new : LogLines) : Type 0 where
  pub none : is_some (line_of new block) ≡ false
  pub held : length new.held ≡ length old.held
  pub payloads : length new.payloads ≡ length old.payloads

pub room-made : (blocks block : ℕ) (before after : List Event) (old new : LogLines) → MakesRoom blocks before after old new → length old.held ≡ blocks
    → is_some (line_of old block) ≡ false → RoomMade block old new
room-made blocks block before after old new (MakesRoom.nothing same held payloads) size none = record {
  none = ap is_some (same-lines old new block held payloads) ∙ none;
  held = ap (λ (xs : List Bool). length xs) held;
  payloads = ap (λ (xs : List (List ℕ)). length xs) payloads;
}
room-made blocks block before after old new (MakesRoom.written n stamp payload less line same held payloads) size none = record {
  none = elim (cases_Bool (eqb block n)) [
    | inl equal ↦ subst (λ (k : ℕ). is_some (line_of new k) ≡ false) (sym (eqb-true block n equal)) (ap is_some (removed-here old new n (omega (arith, size, less)) held))
    | inr other ↦ ap is_some (removed-apart old new n block (λ equal. eqb-false block n other equal) held payloads) ∙ none
  ];
  held = ap (λ (xs : List Bool). length xs) held ∙ length-set old.held n false;
  payloads = ap (λ (xs : List (List ℕ)). length xs) payloads;
}

pub load-stands : (log new : LogState) (block last : ℕ) (read : Block) (before middle after : List Event) (between : LogLines)
    → StandsOn log (history before) → block < log.blocks → is_some (line_of log.lines block) ≡ false → length log.lines.payloads ≡ log.blocks
    → MakesRoom log.blocks before middle log.lines between → entry_sum new.written ≡ sum_of (value_under log.key) (open_writes (history middle))
    → StampsFit last (history middle) → read.stamp ≤ last → after ≡ middle ++ BlockRead (Log block) read ∷ []
    → new.key ≡ log.key → new.blocks ≡ log.blocks → new.lines.held ≡ slice_set between.held block true → new.lines.payloads ≡ slice_set between.payloads block read.payload
    → new.read.count ≡ log.read.count + 1 → new.read.sum ≡ (log.read.sum + value_under log.key (log_entry block read)) % (2 ^ 128)
    → StandsOn new (history after)
load-stands log new block last read before middle after between stands less none long makes written fits stamp appended key blocks held payloads count total =
    let v : LogEntry → ℕ = value_under log.key in
    let keeps : RoomKeeps v log.blocks (history before) (history middle) between = room-keeps v log.blocks before middle log.lines between makes stands.size stands.lines stands.trace in
    let made : RoomMade block log.lines between = room-made log.blocks block before middle log.lines between makes stands.size none in
    let e : history after ≡ BlockRead (Log block) read ◂ history middle = history-appended middle after (BlockRead (Log block) read) appended in
    let outside : in_check (history middle) ≡ false = keeps.check ∙ stands.no_check in
    let inside : is_out block (history middle) ≡ false = sym (keeps.lines.out block less) ∙ made.none in
    let reads : entry_sum log.read ≡ sum_of v (open_reads (history middle)) = stands.read ∙ ap (λ (xs : List LogEntry). sum_of v xs) (sym keeps.reads) in
    let lines : LinesStand log.blocks new.lines (BlockRead (Log block) read ◂ history middle) =
    lines-inserted log.blocks block read (history middle) between new.lines keeps.lines outside (omega (arith, less, made.held, stands.size)) (omega (arith, less, made.payloads, long)) held payloads in
    let trace = trace-read v log.blocks block read (history middle) keeps.trace less inside (omega (arith, stamp, fits.count)) in
    let writes : open_writes (history middle) ≡ open_writes (history after) =
    sym (writes-read block read (history middle)) ∙ ap (λ (h : History). open_writes h) (sym e) in
    let reads_after : entry_sum new.read ≡ sum_of v (open_reads (history after)) = sum-read v block read middle after log.read new.read appended reads count total in
    record {
      read = reads_after ∙ ap (λ (k : Key). sum_of (value_under k) (open_reads (history after))) (sym key);
      written = written ∙ ap (λ (xs : List LogEntry). sum_of v xs) writes ∙ ap (λ (k : Key). sum_of (value_under k) (open_writes (history after))) (sym key);
      lines = subst (λ (h : History). LinesStand new.blocks new.lines h) (sym e) (subst (λ (n : ℕ). LinesStand n new.lines (BlockRead (Log block) read ◂ history middle)) (sym blocks) lines);
      trace = stands-under (sym key) (sym blocks) (sym e) trace;
      no_check = ap (λ (h : History). in_check h) e ∙ outside;
      size = ap (λ (xs : List Bool). length xs) held ∙ length-set between.held block true ∙ made.held ∙ stands.size ∙ sym blocks;
    }
  where
    stands-under : {k l : Key} → k ≡ l → {m n : ℕ} → m ≡ n → {h i : History} → h ≡ i → TraceStands (value_under k) m h → TraceStands (value_under l) n i
    stands-under {k} {l} keys {m} {n} numbers {h} {i} histories stand =
        subst (λ (q : Key). TraceStands (value_under q) n i) keys (subst (λ (q : ℕ). TraceStands (value_under k) q i) numbers (subst (λ (q : History). TraceStands (value_under k) m q) histories stand))

-- a read changes no count of writes
pub read-fits : (last n : ℕ) (block : Block) (before after : List Event) → after ≡ before ++ BlockRead (Log n) block ∷ [] → StampsFit last (history before) → StampsFit last (history after)
read-fits last n block before after appended fits =
    subst (λ (h : History). StampsFit last h) (sym (history-appended before after (BlockRead (Log n) block) appended)) (StampsFit-other last (history before) (BlockRead (Log n) block) fits refl)

-- a stamp is above the counter exactly where it is above the number of block writes
pub above-writes : (last stamp : ℕ) (middle : List Event) → StampsFit last (history middle) → (last < stamp) ↔ (block_writes middle < stamp)
above-writes last stamp middle fits =
    let same : last ≡ block_writes middle = fits.count ∙ ap (λ (t : List Event). block_writes t) (in_order-history middle) in
    (λ above. omega (arith, above, same), λ above. omega (arith, above, same))

pub not-above : (last stamp : ℕ) → (last < stamp → ⊥) → stamp ≤ last
not-above last stamp never = elim (cases_Bool (nat_lt last stamp)) [
  | inl less ↦ absurd (never (ltb-true last stamp less))
  | inr more ↦ ltb-false last stamp more
]
