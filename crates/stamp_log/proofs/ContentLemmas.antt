-- What the events of a log keep of the contents of its blocks.
use Rattle.std.proofs.Common.{◌≡◌, ◌≢◌, ℕ, ◌<◌, Bool, true, false, cond, eqb, List, [], ◌∷◌, ◌++◌, length, Option, Some, None, refl, sym, ap, ◌∙◌, subst, inl, inr, arith}
use Rattle.std.specs.Prelude.{is_some, option_map, slice_index_or}
use Rattle.std.proofs.lemmas.Bool.{cases_Bool, eqb-true, eqb-false}
use Rattle.aegis_num.specs.declared.storage.Block.{Block}
use Rattle.aegis_num.specs.declared.storage.Place.TheVariants.{Log}
use Rattle.off_chip.specs.declared.event.Event.{Event}
use Rattle.off_chip.specs.declared.event.Event.TheVariants.{BlockRead, BlockWrite}
use Rattle.off_chip.specs.Histories.{History, ◌◂◌, history, first_told}
use Rattle.off_chip.specs.WriteBacks.{last_write}
use Rattle.off_chip.proofs.HistoryLemmas.{history-appended}
use Rattle.off_chip.proofs.WriteLemmas.{last_write-here, last_write-elsewhere}
use Rattle.off_chip.proofs.FaithfulLemmas.{is_faithful-written}
use Rattle.stamp_log.specs.LogStands.{IsWritten}
use Rattle.stamp_log.specs.LogState.{LogLines, line_of, stamped}
use Rattle.stamp_log.specs.StandsOn.{contents_in}
use Rattle.stamp_log.specs.LogContents.{KeepsContents, ReadKeepsContents}
use Rattle.stamp_log.specs.LogCalls.{MakesRoom, WritesBack}
use Rattle.stamp_log.proofs.LogLemmas.{removed-here, removed-apart, same-lines}
use Rattle.stamp_log.proofs.PassLemmas.{held-after}

pub contents-from : (old new : LogLines) (before after : History) (n : ℕ) → line_of new n ≡ line_of old n → last_write (Log n) after ≡ last_write (Log n) before
    → contents_in new after n ≡ contents_in old before n
contents-from old new before after n line last =
    ap (λ (o : Option (List ℕ)). first_told o (option_map (λ (block : Block). block.payload) (last_write (Log n) after))) line
    ∙ ap (λ (o : Option Block). first_told (line_of old n) (option_map (λ (block : Block). block.payload) o)) last

pub contents-line : (lines : LogLines) (older : History) (n : ℕ) (payload : List ℕ) → line_of lines n ≡ Some payload → contents_in lines older n ≡ Some payload
contents-line lines older n payload line =
    ap (λ (o : Option (List ℕ)). first_told o (option_map (λ (block : Block). block.payload) (last_write (Log n) older))) line

pub contents-written : (lines : LogLines) (older : History) (n : ℕ) (block : Block) → line_of lines n ≡ None → last_write (Log n) older ≡ Some block
    → contents_in lines older n ≡ Some block.payload
contents-written lines older n block line last =
    ap (λ (o : Option (List ℕ)). first_told o (option_map (λ (b : Block). b.payload) (last_write (Log n) older))) line
    ∙ ap (λ (o : Option Block). option_map (λ (b : Block). b.payload) o) last

some-value : (b : Bool) (x : List ℕ) → is_some (cond b (Some x) None) ≡ true → cond b (Some x) None ≡ Some x
some-value true x held = refl
some-value false x held = cc

-- the contents of a block that has a line
pub contents-lent : (lines : LogLines) (older : History) (n : ℕ) (payload : List ℕ) → is_some (line_of lines n) ≡ true → payload ≡ slice_index_or lines.payloads n []
    → contents_in lines older n ≡ Some payload
contents-lent lines older n payload held is =
    contents-line lines older n (slice_index_or lines.payloads n []) (some-value (slice_index_or lines.held n false) (slice_index_or lines.payloads n []) held)
    ∙ ap (λ (p : List ℕ). Some p) (sym is)

pub none-from : (o : Option (List ℕ)) → is_some o ≡ false → o ≡ None
none-from None nothing = refl
none-from (Some x) nothing = cc

log-apart : (m n : ℕ) → m ≢ n → Log m ≢ Log n
log-apart m n differ same = let e : m ≡ n = cc in differ e

-- where room is made, all contents stay
pub room-contents : (blocks : ℕ) (before after : List Event) (old new : LogLines) → MakesRoom blocks before after old new → length old.held ≡ blocks
    → (m : ℕ) → contents_in new (history after) m ≡ contents_in old (history before) m
room-contents blocks before after old new (MakesRoom.nothing same held payloads) size m =
    contents-from old new (history before) (history after) m (same-lines old new m held payloads) (ap (λ (t : List Event). last_write (Log m) (history t)) same)
room-contents blocks before after old new (MakesRoom.written n stamp payload less line same held payloads) size m =
    let block : Block = stamped payload stamp in
    let h : History = BlockWrite (Log n) block ◂ history before in
    let kept : contents_in new h m ≡ contents_in old (history before) m = elim (cases_Bool (eqb m n)) [
      | inl equal ↦ subst (λ (k : ℕ). contents_in new h k ≡ contents_in old (history before) k) (sym (eqb-true m n equal))
          (contents-written new h n block (removed-here old new n (omega (arith, size, less)) held) (last_write-here (Log n) block (history before))
          ∙ sym (contents-line old (history before) n payload line))
      | inr other ↦
          let differ : m ≢ n = λ equal. eqb-false m n other equal in
          contents-from old new (history before) h m (removed-apart old new n m differ held payloads)
          (last_write-elsewhere (Log m) (Log n) block (history before) (log-apart m n differ))
    ] in
    ap (λ (t : History). contents_in new t m) (history-appended before after (BlockWrite (Log n) block) same) ∙ kept

-- where lines are written back one after another, all contents stay
pub writes-contents : (blocks : ℕ) (before after : List Event) (old new : LogLines) → WritesBack blocks before after old new → length old.held ≡ blocks
    → (length new.held ≡ blocks) × ((m : ℕ) → contents_in new (history after) m ≡ contents_in old (history before) m)
writes-contents blocks before after old new (WritesBack.none trace lines) size = (size, λ m. refl)
writes-contents blocks before after old new (WritesBack.more first middle last one between other writes makes) size =
    let earlier = writes-contents blocks before middle old between writes size in (
      held-after blocks middle after between new makes ∙ earlier.0,
      λ m. room-contents blocks middle after between new makes earlier.0 m ∙ earlier.1 m,
    )

-- a read that follows on room for its line
pub read-contents : (blocks block : ℕ) (read : Block) (before middle after : List Event) (old between new : LogLines) → MakesRoom blocks before middle old between
    → length old.held ≡ blocks → is_some (line_of between block) ≡ false → IsWritten (history middle) block → after ≡ middle ++ BlockRead (Log block) read ∷ []
    → line_of new block ≡ Some read.payload → ((n : ℕ) → n ≢ block → line_of new n ≡ line_of between n) → ReadKeepsContents block old new before after
read-contents blocks block read before middle after old between new makes size none written appended here apart =
    let e : history after ≡ BlockRead (Log block) read ◂ history middle = history-appended middle after (BlockRead (Log block) read) appended in
    record {
      middle = middle;
      read = read;
      last = appended;
      others = λ n differ. contents-from between new (history middle) (history after) n (apart n differ) (ap (λ (h : History). last_write (Log n) h) e)
          ∙ room-contents blocks before middle old between makes size n;
      here = λ image faithful.
          let one : read ≡ written.block = (is_faithful-written image (Log block) read written.block (history middle) written.last).0 faithful in
          contents-line new (history after) block read.payload here
          ∙ ap (λ (b : Block). Some b.payload) one
          ∙ sym (contents-written between (history middle) block written.block (none-from (line_of between block) none) written.last)
          ∙ room-contents blocks before middle old between makes size block;
    }

pub same-contents : (old new : LogLines) (older : History) → new.held ≡ old.held → new.payloads ≡ old.payloads → KeepsContents old new older older
same-contents old new older held payloads = record { each = λ n. contents-from old new older older n (same-lines old new n held payloads) refl }
