-- How the lines of a log follow its events.
use Rattle.std.proofs.Common.{◌≡◌, ◌≢◌, ℕ, ◌<◌, Bool, true, false, cond, eqb, List, [], length, Some, None, refl, sym, ap, ◌∙◌, subst, inl, inr, arith}
use Rattle.std.specs.Prelude.{is_some, slice_set, slice_index_or}
use Rattle.std.proofs.lemmas.Bool.{cases_Bool, eqb-true, eqb-false}
use Rattle.std.proofs.lemmas.List.{get_or-set_same, get_or-set_other}
use Rattle.aegis_num.specs.declared.storage.Block.{Block}
use Rattle.aegis_num.specs.declared.storage.Place.TheVariants.{Log}
use Rattle.off_chip.specs.declared.event.Event.{Event}
use Rattle.off_chip.specs.declared.event.Event.TheVariants.{BlockRead, BlockWrite}
use Rattle.off_chip.specs.Histories.{History, ◌◂◌, history}
use Rattle.off_chip.specs.Residency.{in_check, is_resident}
use Rattle.off_chip.specs.Epochs.{LogEntry, open_reads}
use Rattle.off_chip.proofs.HistoryLemmas.{history-appended}
use Rattle.off_chip.proofs.ResidencyLemmas.{is_resident-log_read, is_resident-write, is_resident-elsewhere}
use Rattle.stamp_log.specs.LogTurns.{is_out}
use Rattle.stamp_log.specs.LogStands.{TraceStands}
use Rattle.stamp_log.specs.LogState.{LogLines, line_of, stamped}
use Rattle.stamp_log.specs.StandsOn.{LinesStand}
use Rattle.stamp_log.specs.LogCalls.{MakesRoom}
use Rattle.stamp_log.proofs.Offline.{out-read, out-write, out-read-apart, out-write-apart, reads-write}
use Rattle.stamp_log.proofs.TraceLemmas.{trace-write}

-- ---- lines

pub line-none : (lines : LogLines) (n : ℕ) → slice_index_or lines.held n false ≡ false → line_of lines n ≡ None
line-none lines n none = ap (λ (b : Bool). cond b (Some (slice_index_or lines.payloads n [])) None) none

pub line-some : (lines : LogLines) (n : ℕ) → slice_index_or lines.held n false ≡ true → line_of lines n ≡ Some (slice_index_or lines.payloads n [])
line-some lines n held = ap (λ (b : Bool). cond b (Some (slice_index_or lines.payloads n [])) None) held

pub some-line : (b : Bool) (x y : List ℕ) → cond b (Some x) None ≡ Some y → b ≡ true
some-line true x y same = refl
some-line false x y same = cc

pub removed-here : (old new : LogLines) (n : ℕ) → n < length old.held → new.held ≡ slice_set old.held n false → line_of new n ≡ None
removed-here old new n less held = line-none new n (ap (λ (xs : List Bool). slice_index_or xs n false) held ∙ get_or-set_same old.held n false false less)

pub removed-apart : (old new : LogLines) (n m : ℕ) → m ≢ n → new.held ≡ slice_set old.held n false → new.payloads ≡ old.payloads → line_of new m ≡ line_of old m
removed-apart old new n m differ held payloads =
    ap (λ (b : Bool). cond b (Some (slice_index_or new.payloads m [])) None) (ap (λ (xs : List Bool). slice_index_or xs m false) held ∙ get_or-set_other old.held n m false false differ)
    ∙ ap (λ (xs : List (List ℕ)). cond (slice_index_or old.held m false) (Some (slice_index_or xs m [])) None) payloads

pub inserted-here : (old new : LogLines) (n : ℕ) (payload : List ℕ) → n < length old.held → n < length old.payloads → new.held ≡ slice_set old.held n true
    → new.payloads ≡ slice_set old.payloads n payload → line_of new n ≡ Some payload
inserted-here old new n payload less below held payloads =
    line-some new n (ap (λ (xs : List Bool). slice_index_or xs n false) held ∙ get_or-set_same old.held n true false less)
    ∙ ap (λ (p : List ℕ). Some p) (ap (λ (xs : List (List ℕ)). slice_index_or xs n []) payloads ∙ get_or-set_same old.payloads n payload [] below)

pub inserted-apart : (old new : LogLines) (n m : ℕ) (payload : List ℕ) → m ≢ n → new.held ≡ slice_set old.held n true
    → new.payloads ≡ slice_set old.payloads n payload → line_of new m ≡ line_of old m
inserted-apart old new n m payload differ held payloads =
    ap (λ (b : Bool). cond b (Some (slice_index_or new.payloads m [])) None) (ap (λ (xs : List Bool). slice_index_or xs m false) held ∙ get_or-set_other old.held n m true false differ)
    ∙ ap (λ (p : List ℕ). cond (slice_index_or old.held m false) (Some p) None) (ap (λ (xs : List (List ℕ)). slice_index_or xs m []) payloads ∙ get_or-set_other old.payloads n m payload [] differ)

pub same-lines : (old new : LogLines) (n : ℕ) → new.held ≡ old.held → new.payloads ≡ old.payloads → line_of new n ≡ line_of old n
same-lines old new n held payloads =
    ap (λ (xs : List Bool). cond (slice_index_or xs n false) (Some (slice_index_or new.payloads n [])) None) held
    ∙ ap (λ (xs : List (List ℕ)). cond (slice_index_or old.held n false) (Some (slice_index_or xs n [])) None) payloads

-- ---- where lines stand

elsewhere : (m n : ℕ) → m ≢ n → Some (Log n) ≢ Some (Log m)
elsewhere m n differ same = let e : m ≡ n = cc in differ e

pub lines-same : (blocks : ℕ) (old new : LogLines) (older : History) → new.held ≡ old.held → new.payloads ≡ old.payloads → LinesStand blocks old older → LinesStand blocks new older
lines-same blocks old new older held payloads stand = record {
  resident = λ m below. ap is_some (same-lines old new m held payloads) ∙ stand.resident m below;
  out = λ m below. ap is_some (same-lines old new m held payloads) ∙ stand.out m below;
}

pub lines-removed : (blocks n : ℕ) (block : Block) (older : History) (old new : LogLines) → LinesStand blocks old older → n < length old.held
    → new.held ≡ slice_set old.held n false → new.payloads ≡ old.payloads → LinesStand blocks new (BlockWrite (Log n) block ◂ older)
lines-removed blocks n block older old new stand less held payloads = record {
  resident = λ m below. elim (cases_Bool (eqb m n)) [
    | inl equal ↦ subst (λ (k : ℕ). is_some (line_of new k) ≡ is_resident (Log k) (BlockWrite (Log n) block ◂ older)) (sym (eqb-true m n equal))
        (ap is_some (removed-here old new n less held) ∙ sym (is_resident-write (Log n) block older))
    | inr other ↦
        let differ : m ≢ n = λ equal. eqb-false m n other equal in
        ap is_some (removed-apart old new n m differ held payloads) ∙ stand.resident m below
        ∙ sym (is_resident-elsewhere (Log m) (BlockWrite (Log n) block) older (elsewhere m n differ))
  ];
  out = λ m below. elim (cases_Bool (eqb m n)) [
    | inl equal ↦ subst (λ (k : ℕ). is_some (line_of new k) ≡ is_out k (BlockWrite (Log n) block ◂ older)) (sym (eqb-true m n equal))
        (ap is_some (removed-here old new n less held) ∙ sym (out-write n block older))
    | inr other ↦
        let differ : m ≢ n = λ equal. eqb-false m n other equal in
        ap is_some (removed-apart old new n m differ held payloads) ∙ stand.out m below ∙ sym (out-write-apart m n block older differ)
  ];
}

pub lines-inserted : (blocks n : ℕ) (block : Block) (older : History) (old new : LogLines) → LinesStand blocks old older → in_check older ≡ false
    → n < length old.held → n < length old.payloads → new.held ≡ slice_set old.held n true → new.payloads ≡ slice_set old.payloads n block.payload
    → LinesStand blocks new (BlockRead (Log n) block ◂ older)
lines-inserted blocks n block older old new stand outside less long held payloads = record {
  resident = λ m below. elim (cases_Bool (eqb m n)) [
    | inl equal ↦ subst (λ (k : ℕ). is_some (line_of new k) ≡ is_resident (Log k) (BlockRead (Log n) block ◂ older)) (sym (eqb-true m n equal))
        (ap is_some (inserted-here old new n block.payload less long held payloads) ∙ sym (is_resident-log_read n block older outside))
    | inr other ↦
        let differ : m ≢ n = λ equal. eqb-false m n other equal in
        ap is_some (inserted-apart old new n m block.payload differ held payloads) ∙ stand.resident m below
        ∙ sym (is_resident-elsewhere (Log m) (BlockRead (Log n) block) older (elsewhere m n differ))
  ];
  out = λ m below. elim (cases_Bool (eqb m n)) [
    | inl equal ↦ subst (λ (k : ℕ). is_some (line_of new k) ≡ is_out k (BlockRead (Log n) block ◂ older)) (sym (eqb-true m n equal))
        (ap is_some (inserted-here old new n block.payload less long held payloads) ∙ sym (out-read n block older))
    | inr other ↦
        let differ : m ≢ n = λ equal. eqb-false m n other equal in
        ap is_some (inserted-apart old new n m block.payload differ held payloads) ∙ stand.out m below ∙ sym (out-read-apart m n block older differ)
  ];
}

-- ---- room is made

-- what stands stays so when room is made
pub record RoomKeeps (value : LogEntry → ℕ) (blocks : ℕ) (before after : History) (new : LogLines) : Type 0 where
  pub lines : LinesStand blocks new after
  pub trace : TraceStands value blocks after
  pub check : in_check after ≡ in_check before
  pub reads : open_reads after ≡ open_reads before

pub room-keeps : (value : LogEntry → ℕ) (blocks : ℕ) (before after : List Event) (old new : LogLines) → MakesRoom blocks before after old new → length old.held ≡ blocks
    → LinesStand blocks old (history before) → TraceStands value blocks (history before) → RoomKeeps value blocks (history before) (history after) new
room-keeps value blocks before after old new (MakesRoom.nothing same held payloads) size lines trace =
    let e : history after ≡ history before = ap (λ (t : List Event). history t) same in
    subst (λ (h : History). RoomKeeps value blocks (history before) h new) (sym e)
    (record { lines = lines-same blocks old new (history before) held payloads lines; trace = trace; check = refl; reads = refl })
room-keeps value blocks before after old new (MakesRoom.written n stamp payload less line same held payloads) size lines trace =
    let e : history after ≡ BlockWrite (Log n) (stamped payload stamp) ◂ history before = history-appended before after (BlockWrite (Log n) (stamped payload stamp)) same in
    let out : is_out n (history before) ≡ true = sym (lines.out n less) ∙ ap is_some line in
    subst (λ (h : History). RoomKeeps value blocks (history before) h new) (sym e)
    (record {
      lines = lines-removed blocks n (stamped payload stamp) (history before) old new lines (omega (arith, size, less)) held payloads;
      trace = trace-write value blocks n (stamped payload stamp) (history before) trace less out;
      check = refl;
      reads = reads-write n (stamped payload stamp) (history before);
    })
