-- The theorem of offline checks: one induction, the newest event first, over all blocks at once.
use Rattle.std.proofs.Common.{◌≡◌, ◌≢◌, ℕ, suc, ◌+◌, ◌<◌, ◌≤◌, Bool, true, false, cond, eqb, not, ◌&&◌, List, [], ◌∷◌, ◌++◌, length, Option, Some, None, refl, sym, ap, ◌∙◌, subst, inl, inr, arith}
use Rattle.std.specs.Prelude.{nat_lt, count_by, slice_get, option_to_list, IsTrue}
use Rattle.std.specs.Bool.{OnTrue}
use Rattle.std.proofs.lemmas.Bool.{and_parts, eqb-true, eq-eqb, eqb-false, cases_Bool, both_ways, false_from_ne_true, lt-ltb, ltb-true, OnFalse_from}
use Rattle.std.proofs.lemmas.List.{append-nil}
use Rattle.std.proofs.lemmas.List.Sums.{sum_by-cons, sum_by_push}
use Rattle.std.proofs.lemmas.Option.{slice_get_within}
use Rattle.aegis_num.specs.declared.storage.Block.{Block}
use Rattle.aegis_num.specs.declared.storage.Place.{Place}
use Rattle.aegis_num.specs.declared.storage.Place.TheVariants.{Log}
use Rattle.off_chip.specs.declared.event.Event.{Event}
use Rattle.off_chip.specs.declared.event.Event.TheVariants.{BlockRead, BlockWrite, Note}
use Rattle.off_chip.specs.declared.event.Mark.TheVariants.{CheckPassed}
use Rattle.off_chip.specs.Histories.{History, no_event, ◌◂◌, in_order, Each, EachSince, until}
use Rattle.off_chip.specs.WriteBacks.{last_write, block_writes, StampFits, StampsFit}
use Rattle.off_chip.specs.FaithfulReads.{is_faithful, is_log_read}
use Rattle.off_chip.specs.Epochs.{LogEntry, log_entry, log_read, log_written, is_passed, reads_of, check_of, open_epoch, open_reads, open_writes, ReadNotAbove, NoReadAbove, EpochFaithful}
use Rattle.off_chip.specs.Collisions.{same_entry, SameEntries}
use Rattle.off_chip.proofs.MoreLemmas.{open_reads-more, open_writes-more}
use Rattle.off_chip.proofs.CollisionLemmas.{same_entry-Decides}
use Rattle.off_chip.proofs.WriteLemmas.{block_writes-write, block_writes-other, last_write-here, last_write-elsewhere}
use Rattle.off_chip.proofs.FaithfulLemmas.{is_faithful-written}
use Rattle.stamp_log.specs.LogTurns.{is_out, out_told, TakesTurn, TurnsAreTaken}
use Rattle.stamp_log.specs.LogStands.{AreLastWrites, carried_over, some_passed}

abbrev Image : Type 0
Image = Place → Option (List ℕ)

-- ---- how often an entry stands in a list

abbrev pub count : LogEntry → List LogEntry → ℕ
count entry entries = count_by (same_entry entry) entries

abbrev pub once : LogEntry → LogEntry → ℕ
once entry other = cond (same_entry entry other) 1 0

pub count-push : (entry : LogEntry) (entries : List LogEntry) (last : LogEntry) → count entry (entries ++ last ∷ []) ≡ count entry entries + once entry last
count-push entry entries last = sum_by_push (λ (e : LogEntry). cond (same_entry entry e) 1 0) entries last

pub count-cons : (entry first : LogEntry) (entries : List LogEntry) → count entry (first ∷ entries) ≡ once entry first + count entry entries
count-cons entry first entries = sum_by-cons (λ (e : LogEntry). cond (same_entry entry e) 1 0) first entries

once-same : (entry : LogEntry) → same_entry entry entry ≡ true
once-same entry = (same_entry-Decides entry entry).1 refl

apart : (entry other : LogEntry) → entry.number ≢ other.number → same_entry entry other ≡ false
apart entry other numbers = false_from_ne_true (same_entry entry other) (λ same. numbers (ap (λ (e : LogEntry). e.number) ((same_entry-Decides entry other).0 same)))

-- ---- what events change

pub writes-write : (n : ℕ) (block : Block) (older : History) → open_writes (BlockWrite (Log n) block ◂ older) ≡ open_writes older ++ log_entry n block ∷ []
writes-write n block older = open_writes-more (BlockWrite (Log n) block) older

pub reads-write : (n : ℕ) (block : Block) (older : History) → open_reads (BlockWrite (Log n) block ◂ older) ≡ open_reads older
reads-write n block older = open_reads-more (BlockWrite (Log n) block) older ∙ append-nil (open_reads older)

pub reads-read : (n : ℕ) (block : Block) (older : History) → open_reads (BlockRead (Log n) block ◂ older) ≡ open_reads older ++ log_entry n block ∷ []
reads-read n block older = open_reads-more (BlockRead (Log n) block) older

pub writes-read : (n : ℕ) (block : Block) (older : History) → open_writes (BlockRead (Log n) block ◂ older) ≡ open_writes older
writes-read n block older = open_writes-more (BlockRead (Log n) block) older ∙ append-nil (open_writes older)

-- an event that the log has nothing to do with
pub record IsOther (event : Event) : Type 0 where
  pub passed : is_passed event ≡ false
  pub read : log_read event ≡ None
  pub written : log_written event ≡ None
  pub out : (n : ℕ) → out_told n event ≡ None
  pub at : is_log_read event ≡ false

pub writes-other : (event : Event) (older : History) → IsOther event → open_writes (event ◂ older) ≡ open_writes older
writes-other event older other =
    open_writes-more event older
    ∙ ap (λ (b : Bool). cond b (reads_of (check_of (open_epoch older))) (open_writes older ++ option_to_list (log_written event))) other.passed
    ∙ ap (λ (o : Option LogEntry). open_writes older ++ option_to_list o) other.written ∙ append-nil (open_writes older)

pub reads-other : (event : Event) (older : History) → IsOther event → open_reads (event ◂ older) ≡ open_reads older
reads-other event older other =
    open_reads-more event older
    ∙ ap (λ (b : Bool). cond b [] (open_reads older ++ option_to_list (log_read event))) other.passed
    ∙ ap (λ (o : Option LogEntry). open_reads older ++ option_to_list o) other.read ∙ append-nil (open_reads older)

-- ---- which blocks are out

pub out-read : (n : ℕ) (block : Block) (older : History) → is_out n (BlockRead (Log n) block ◂ older) ≡ true
out-read n block older = rw (eq-eqb n n refl) refl

pub out-write : (n : ℕ) (block : Block) (older : History) → is_out n (BlockWrite (Log n) block ◂ older) ≡ false
out-write n block older = rw (eq-eqb n n refl) refl

eqb-apart : (m n : ℕ) → m ≢ n → eqb m n ≡ false
eqb-apart m n differ = false_from_ne_true (eqb m n) (λ same. differ (eqb-true m n same))

pub out-read-apart : (m n : ℕ) (block : Block) (older : History) → m ≢ n → is_out m (BlockRead (Log n) block ◂ older) ≡ is_out m older
out-read-apart m n block older differ = rw (eqb-apart m n differ) refl

pub out-write-apart : (m n : ℕ) (block : Block) (older : History) → m ≢ n → is_out m (BlockWrite (Log n) block ◂ older) ≡ is_out m older
out-write-apart m n block older differ = rw (eqb-apart m n differ) refl

pub out-other : (n : ℕ) (event : Event) (older : History) → out_told n event ≡ None → is_out n (event ◂ older) ≡ is_out n older
out-other n event older untold = rw untold refl

-- ---- entries that wait to be read

-- the family has one entry for each block: this one waits, if its block is one of the log's and not out
abbrev pub waits : ℕ → (ℕ → LogEntry) → History → LogEntry → ℕ
waits blocks w older entry = cond (nat_lt entry.number blocks && (not (is_out entry.number older) && same_entry entry (w entry.number))) 1 0

-- what was written is what was read and what waits to be read
pub record Balanced (blocks : ℕ) (w : ℕ → LogEntry) (older : History) : Type 0 where
  pub each : (entry : LogEntry) → count entry (open_writes older) ≡ count entry (open_reads older) + waits blocks w older entry

cond-one : (b : Bool) → 1 ≤ cond b 1 0 → b ≡ true
cond-one true less = refl
cond-one false less = let no_such : ⊥ = omega (arith, less) in absurd no_such

abbrev one_if : Bool → ℕ
one_if b = cond b 1 0

cond-and-false : (b : Bool) → one_if (b && false) ≡ 0
cond-and-false true = refl
cond-and-false false = refl

waits-out : (blocks : ℕ) (w : ℕ → LogEntry) (older : History) (entry : LogEntry) → is_out entry.number older ≡ true → waits blocks w older entry ≡ 0
waits-out blocks w older entry out =
    ap (λ (b : Bool). cond (nat_lt entry.number blocks && (not b && same_entry entry (w entry.number))) 1 0) out ∙ cond-and-false (nat_lt entry.number blocks)

waits-in : (blocks : ℕ) (w : ℕ → LogEntry) (older : History) (entry : LogEntry) → entry.number < blocks → is_out entry.number older ≡ false
    → waits blocks w older entry ≡ once entry (w entry.number)
waits-in blocks w older entry less inside =
    ap (λ (b : Bool). cond (b && (not (is_out entry.number older) && same_entry entry (w entry.number))) 1 0) (lt-ltb entry.number blocks less)
    ∙ ap (λ (b : Bool). cond (not b && same_entry entry (w entry.number)) 1 0) inside

-- where a block goes in or out and one entry of it comes to wait, or waits no more
waits-swap : (blocks n : ℕ) (w v : ℕ → LogEntry) (near far : History) (x entry : LogEntry) → n < blocks → x.number ≡ n → v n ≡ x
    → is_out n near ≡ false → is_out n far ≡ true → ((m : ℕ) → m ≢ n → is_out m near ≡ is_out m far) → ((m : ℕ) → m ≢ n → v m ≡ w m)
    → waits blocks v near entry ≡ waits blocks w far entry + once entry x
waits-swap blocks n w v near far x entry less number here inside out same family =
    elim (cases_Bool (eqb entry.number n)) [
      | inl equal ↦
          let at : entry.number ≡ n = eqb-true entry.number n equal in
          let first : waits blocks v near entry ≡ once entry (v entry.number) =
          waits-in blocks v near entry (omega (arith, at, less)) (ap (λ (m : ℕ). is_out m near) at ∙ inside) in
          let second : waits blocks w far entry ≡ 0 = waits-out blocks w far entry (ap (λ (m : ℕ). is_out m far) at ∙ out) in
          let third : once entry (v entry.number) ≡ once entry x = ap (λ (y : LogEntry). once entry y) (ap v at ∙ here) in
          omega (arith, first, second, third)
      | inr other ↦
          let differ : entry.number ≢ n = λ equal. eqb-false entry.number n other equal in
          let first : waits blocks v near entry ≡ waits blocks w far entry =
          ap (λ (b : Bool). cond (nat_lt entry.number blocks && (not b && same_entry entry (v entry.number))) 1 0) (same entry.number differ)
          ∙ ap (λ (y : LogEntry). cond (nat_lt entry.number blocks && (not (is_out entry.number far) && same_entry entry y)) 1 0) (family entry.number differ) in
          let second : once entry x ≡ 0 = ap (λ (b : Bool). cond b 1 0) (apart entry x (λ equal. differ (equal ∙ number))) in
          omega (arith, first, second)
    ]

-- ---- no read has a stamp that comes later

grow : (event : Event) (older : History) → block_writes (in_order older) ≤ block_writes (in_order (event ◂ older))
grow (BlockWrite place block) older = omega (arith, block_writes-write (in_order older) place block)
grow event older = omega (arith, block_writes-other (in_order older) event refl)

count-cond : (b : Bool) (entry : LogEntry) (entries : List LogEntry) → count entry entries ≡ 0 → count entry (cond b [] (entries ++ [])) ≡ 0
count-cond true entry entries none = refl
count-cond false entry entries none = ap (λ (xs : List LogEntry). count entry xs) (append-nil entries) ∙ none

none-later : (older : History) → Each ReadNotAbove older → (entry : LogEntry) → block_writes (in_order older) < entry.stamp → count entry (open_reads older) ≡ 0
none-later no_event each entry later = refl
none-later (BlockRead (Log n) block ◂ older) each entry later =
    let same : block_writes (in_order (BlockRead (Log n) block ◂ older)) ≡ block_writes (in_order older) = block_writes-other (in_order older) (BlockRead (Log n) block) refl in
    let ih : count entry (open_reads older) ≡ 0 = none-later older each.0 entry (omega (arith, later, same)) in
    let differ : same_entry entry (log_entry n block) ≡ false = false_from_ne_true (same_entry entry (log_entry n block))
    (λ equal. let stamps : entry.stamp ≡ block.stamp = ap (λ (e : LogEntry). e.stamp) ((same_entry-Decides entry (log_entry n block)).0 equal) in
    omega (arith, stamps, later, same, each.1)) in
    let zero_here : once entry (log_entry n block) ≡ 0 = ap (λ (b : Bool). cond b 1 0) differ in
    let all : count entry (open_reads (BlockRead (Log n) block ◂ older)) ≡ count entry (open_reads older) + once entry (log_entry n block) =
    ap (λ (xs : List LogEntry). count entry xs) (reads-read n block older) ∙ count-push entry (open_reads older) (log_entry n block) in
    omega (arith, all, ih, zero_here)
none-later (event ◂ older) each entry later =
    let ih : count entry (open_reads older) ≡ 0 = none-later older each.0 entry (omega (arith, later, grow event older)) in
    ap (λ (xs : List LogEntry). count entry xs) (open_reads-more event older) ∙ count-cond (is_passed event) entry (open_reads older) ih

-- ---- the list that a check read

pub record StandsAt (entry : LogEntry) (entries : List LogEntry) : Type 0 where
  pub place : ℕ
  pub at : slice_get entries place ≡ Some entry

stands-at : (entry : LogEntry) (entries : List LogEntry) → 1 ≤ count entry entries → StandsAt entry entries
stands-at entry [] some = let no_such : ⊥ = omega (arith, some) in absurd no_such
stands-at entry (first ∷ entries) some =
    elim (cases_Bool (same_entry entry first)) [
      | inl same ↦ record { place = 0; at = ap (λ (e : LogEntry). Some e) (sym ((same_entry-Decides entry first).0 same)) }
      | inr other ↦
          let none : once entry first ≡ 0 = ap (λ (b : Bool). cond b 1 0) other in
          let later : StandsAt entry entries = stands-at entry entries (omega (arith, some, none, count-cons entry first entries)) in
          record { place = suc later.place; at = later.at }
    ]

-- an entry of the list that has the number n is the last write-back of block n
entry-last : (blocks : ℕ) (entries : List LogEntry) (older : History) → AreLastWrites blocks entries older → (entry : LogEntry) → 1 ≤ count entry entries
    → (n : ℕ) → entry.number ≡ n → n < blocks → (block : Block) × (last_write (Log n) older ≡ Some block) × (log_entry n block ≡ entry)
entry-last blocks entries older are entry some n number less =
    let stands : StandsAt entry entries = stands-at entry entries some in
    let within : stands.place < length entries = slice_get_within entries stands.place entry stands.at in
    let there = are.each stands.place (omega (arith, within, are.count)) in
    let equal : Some (log_entry stands.place there.block) ≡ Some entry = sym there.at ∙ stands.at in
    let one : log_entry stands.place there.block ≡ entry = cc in
    let place : stands.place ≡ n = ap (λ (e : LogEntry). e.number) one ∙ number in (
      there.block,
      ap (λ (k : ℕ). last_write (Log k) older) (sym place) ∙ there.written,
      ap (λ (k : ℕ). log_entry k there.block) (sym place) ∙ one,
    )

-- ---- the induction

abbrev Faithful : Image → Event → History → Type 0
Faithful image event older = OnTrue (is_log_read event) (IsTrue (is_faithful image event older))

-- the entry that waits for a block is its last write-back
pub record WaitsLast (w : ℕ → LogEntry) (older : History) (n : ℕ) : Type 0 where
  pub block : Block
  pub written : last_write (Log n) older ≡ Some block
  pub same : log_entry n block ≡ w n

pub record Settled (image : Image) (blocks : ℕ) (w : ℕ → LogEntry) (older : History) : Type 0 where
  pub faithful : EachSince is_passed (Faithful image) older
  pub last : (n : ℕ) → n < blocks → is_out n older ≡ false → WaitsLast w older n

abbrev BeginsWell : ℕ → History → Type 0
BeginsWell blocks older = some_passed older ≡ true → AreLastWrites blocks (carried_over older) (until is_passed older)

log-apart : (m n : ℕ) → m ≢ n → Log m ≢ Log n
log-apart m n differ same = let e : m ≡ n = cc in differ e

with_entry : (ℕ → LogEntry) → ℕ → LogEntry → ℕ → LogEntry
with_entry w n x m = cond (eqb m n) x (w m)

with_entry-here : (w : ℕ → LogEntry) (n : ℕ) (x : LogEntry) → with_entry w n x n ≡ x
unfolding with_entry
with_entry-here w n x = ap (λ (b : Bool). cond b x (w n)) (eq-eqb n n refl)

with_entry-apart : (w : ℕ → LogEntry) (n : ℕ) (x : LogEntry) (m : ℕ) → m ≢ n → with_entry w n x m ≡ w m
unfolding with_entry
with_entry-apart w n x m differ = ap (λ (b : Bool). cond b x (w m)) (eqb-apart m n differ)

with_entry-number : (w : ℕ → LogEntry) (n : ℕ) (x : LogEntry) → x.number ≡ n → ((m : ℕ) → (w m).number ≡ m) → (m : ℕ) → (with_entry w n x m).number ≡ m
with_entry-number w n x number numbers m =
    elim (cases_Bool (eqb m n)) [
      | inl equal ↦ let at : m ≡ n = eqb-true m n equal in
          ap (λ (k : ℕ). (with_entry w n x k).number) at ∙ ap (λ (e : LogEntry). e.number) (with_entry-here w n x) ∙ number ∙ sym at
      | inr other ↦ ap (λ (e : LogEntry). e.number) (with_entry-apart w n x m (λ equal. eqb-false m n other equal)) ∙ numbers m
    ]

-- a write waits: the entry of its block that is read next is its own
write-settles : (image : Image) (blocks n : ℕ) (block : Block) (older : History) → Each StampFits (BlockWrite (Log n) block ◂ older) → Each ReadNotAbove older
    → TakesTurn blocks (BlockWrite (Log n) block) older → (w : ℕ → LogEntry) → ((m : ℕ) → (w m).number ≡ m) → Balanced blocks w (BlockWrite (Log n) block ◂ older)
    → (Balanced blocks w older → Settled image blocks w older) → Settled image blocks w (BlockWrite (Log n) block ◂ older)
write-settles image blocks n block older stamps above turn w numbers balanced before =
    let x : LogEntry = log_entry n block in
    let h : History = BlockWrite (Log n) block ◂ older in
    let told : (entry : LogEntry) → count entry (open_writes older) + once entry x ≡ count entry (open_reads older) + waits blocks w h entry =
    λ entry.
    let a = count-push entry (open_writes older) x in
    let b : count entry (open_writes h) ≡ count entry (open_writes older ++ x ∷ []) = ap (λ (xs : List LogEntry). count entry xs) (writes-write n block older) in
    let c : count entry (open_reads h) ≡ count entry (open_reads older) = ap (λ (xs : List LogEntry). count entry xs) (reads-write n block older) in
    omega (arith, a, b, c, balanced.each entry) in
    let late : count x (open_reads older) ≡ 0 = none-later older above x (omega (arith, stamps.1)) in
    let itself : once x x ≡ 1 = ap (λ (b : Bool). cond b 1 0) (once-same x) in
    let some : 1 ≤ waits blocks w h x = omega (arith, told x, late, itself) in
    let parts = and_parts (nat_lt n blocks) (not (is_out n h) && same_entry x (w n)) (cond-one _ some) in
    let more = and_parts (not (is_out n h)) (same_entry x (w n)) parts.1 in
    let here : w n ≡ x = sym ((same_entry-Decides x (w n)).0 more.1) in
    let swap : (entry : LogEntry) → waits blocks w h entry ≡ waits blocks w older entry + once entry x =
    λ entry. waits-swap blocks n w w h older x entry turn.0 refl here (out-write n block older) turn.1 (λ m differ. out-write-apart m n block older differ) (λ m differ. refl) in
    let settled : Settled image blocks w older = before (record { each = λ entry. omega (arith, told entry, swap entry) }) in
    record {
      faithful = (settled.faithful, tt);
      last = λ m less inside. elim (cases_Bool (eqb m n)) [
        | inl equal ↦
            let at : m ≡ n = eqb-true m n equal in
            subst (λ (k : ℕ). WaitsLast w h k) (sym at) (record { block = block; written = last_write-here (Log n) block older; same = sym here })
        | inr other ↦
            let differ : m ≢ n = λ equal. eqb-false m n other equal in
            let there : WaitsLast w older m = settled.last m less (sym (out-write-apart m n block older differ) ∙ inside) in
            record { block = there.block; written = last_write-elsewhere (Log m) (Log n) block older (log-apart m n differ) ∙ there.written; same = there.same }
      ];
    }

-- a read is faithful, since its entry waited
read-settles : (image : Image) (blocks n : ℕ) (block : Block) (older : History) → TakesTurn blocks (BlockRead (Log n) block) older
    → (w : ℕ → LogEntry) → Balanced blocks w (BlockRead (Log n) block ◂ older)
    → (Balanced blocks (with_entry w n (log_entry n block)) older → Settled image blocks (with_entry w n (log_entry n block)) older)
    → Settled image blocks w (BlockRead (Log n) block ◂ older)
read-settles image blocks n block older turn w balanced before =
    let x : LogEntry = log_entry n block in
    let h : History = BlockRead (Log n) block ◂ older in
    let v : ℕ → LogEntry = with_entry w n x in
    let told : (entry : LogEntry) → count entry (open_writes older) ≡ count entry (open_reads older) + once entry x + waits blocks w h entry =
    λ entry.
    let a = count-push entry (open_reads older) x in
    let b : count entry (open_reads h) ≡ count entry (open_reads older ++ x ∷ []) = ap (λ (xs : List LogEntry). count entry xs) (reads-read n block older) in
    let c : count entry (open_writes h) ≡ count entry (open_writes older) = ap (λ (xs : List LogEntry). count entry xs) (writes-read n block older) in
    omega (arith, a, b, c, balanced.each entry) in
    let swap : (entry : LogEntry) → waits blocks v older entry ≡ waits blocks w h entry + once entry x =
    λ entry. waits-swap blocks n w v older h x entry turn.0 refl (with_entry-here w n x) turn.1 (out-read n block older) (λ m differ. sym (out-read-apart m n block older differ)) (λ m differ. with_entry-apart w n x m differ) in
    let settled : Settled image blocks v older = before (record { each = λ entry. omega (arith, told entry, swap entry) }) in
    let waiting : WaitsLast v older n = settled.last n turn.0 turn.1 in
    let entries : log_entry n waiting.block ≡ x = waiting.same ∙ with_entry-here w n x in
    let payloads : block.payload ≡ waiting.block.payload = sym (ap (λ (e : LogEntry). e.payload) entries) in
    let stamps : block.stamp ≡ waiting.block.stamp = sym (ap (λ (e : LogEntry). e.stamp) entries) in
    let one : block ≡ waiting.block =
    ap (λ (p : List ℕ). record { payload = p; stamp = block.stamp }) payloads ∙ ap (λ (s : ℕ). record { payload = waiting.block.payload; stamp = s }) stamps in
    record {
      faithful = (settled.faithful, (is_faithful-written image (Log n) block waiting.block older waiting.written).1 one);
      last = λ m less inside.
          let differ : m ≢ n = λ at. both_ways (is_out n h) (ap (λ (k : ℕ). is_out k h) (sym at) ∙ inside) (out-read n block older) in
          let there : WaitsLast v older m = settled.last m less (sym (out-read-apart m n block older differ) ∙ inside) in
          record { block = there.block; written = there.written; same = there.same ∙ with_entry-apart w n x m differ };
    }

-- an epoch begins with what the check before it read
passed-settles : (image : Image) (blocks : ℕ) (older : History) → BeginsWell blocks (Note CheckPassed ◂ older)
    → (w : ℕ → LogEntry) → ((m : ℕ) → (w m).number ≡ m) → Balanced blocks w (Note CheckPassed ◂ older) → Settled image blocks w (Note CheckPassed ◂ older)
passed-settles image blocks older begins w numbers balanced = record {
  faithful = tt;
  last = λ n less inside.
      let h : History = Note CheckPassed ◂ older in
      let number : (w n).number ≡ n = numbers n in
      let same : w (w n).number ≡ w n = ap w number in
      let a : waits blocks w h (w n) ≡ once (w n) (w (w n).number) = waits-in blocks w h (w n) (omega (arith, number, less)) refl in
      let b : once (w n) (w (w n).number) ≡ 1 = ap (λ (y : LogEntry). once (w n) y) same ∙ ap (λ (b : Bool). cond b 1 0) (once-same (w n)) in
      let c : count (w n) (open_writes h) ≡ count (w n) (carried_over h) = ap (λ (xs : List LogEntry). count (w n) xs) (append-nil (carried_over h)) in
      let last = entry-last blocks (carried_over h) older (begins refl) (w n) (omega (arith, a, b, c, balanced.each (w n))) n number less in
      record { block = last.0; written = last.1; same = last.2 };
}

-- any other event changes nothing
other-settles : (image : Image) (blocks : ℕ) (event : Event) (older : History) → IsOther event → ((n : ℕ) → last_write (Log n) (event ◂ older) ≡ last_write (Log n) older)
    → (w : ℕ → LogEntry) → Balanced blocks w (event ◂ older) → (Balanced blocks w older → Settled image blocks w older) → Settled image blocks w (event ◂ older)
other-settles image blocks event older other writes w balanced before =
    let settled : Settled image blocks w older = before (record {
      each = λ entry.
          let a : count entry (open_writes (event ◂ older)) ≡ count entry (open_writes older) = ap (λ (xs : List LogEntry). count entry xs) (writes-other event older other) in
          let b : count entry (open_reads (event ◂ older)) ≡ count entry (open_reads older) = ap (λ (xs : List LogEntry). count entry xs) (reads-other event older other) in
          let c : waits blocks w (event ◂ older) entry ≡ waits blocks w older entry =
          ap (λ (b : Bool). cond (nat_lt entry.number blocks && (not b && same_entry entry (w entry.number))) 1 0) (out-other entry.number event older (other.out entry.number)) in
          omega (arith, a, b, c, balanced.each entry);
    }) in
    record {
      faithful = OnFalse_from (is_passed event) _ (λ fails. (settled.faithful, subst (λ (b : Bool). OnTrue b (IsTrue (is_faithful image event older))) (sym other.at) tt));
      last = λ n less inside.
          let there : WaitsLast w older n = settled.last n less (sym (out-other n event older (other.out n)) ∙ inside) in
          record { block = there.block; written = writes n ∙ there.written; same = there.same };
    }

pub settles : (image : Image) (blocks : ℕ) (older : History) → Each StampFits older → Each ReadNotAbove older → Each (TakesTurn blocks) older → BeginsWell blocks older
    → (w : ℕ → LogEntry) → ((n : ℕ) → (w n).number ≡ n) → Balanced blocks w older → Settled image blocks w older
settles image blocks no_event stamps above turns begins w numbers balanced = record { faithful = tt; last = λ n less inside. cc }
settles image blocks (BlockRead (Log n) block ◂ older) stamps above turns begins w numbers balanced =
    read-settles image blocks n block older turns.1 w balanced
    (settles image blocks older stamps.0 above.0 turns.0 begins (with_entry w n (log_entry n block)) (with_entry-number w n (log_entry n block) refl numbers))
settles image blocks (BlockWrite (Log n) block ◂ older) stamps above turns begins w numbers balanced =
    write-settles image blocks n block older stamps above.0 turns.1 w numbers balanced (settles image blocks older stamps.0 above.0 turns.0 begins w numbers)
settles image blocks (Note CheckPassed ◂ older) stamps above turns begins w numbers balanced = passed-settles image blocks older begins w numbers balanced
settles image blocks (event ◂ older) stamps above turns begins w numbers balanced =
    other-settles image blocks event older (record { passed = refl; read = refl; written = refl; out = λ n. refl; at = refl }) (λ n. refl) w balanced
    (settles image blocks older stamps.0 above.0 turns.0 begins w numbers)

pub offline : (blocks last : ℕ) (older : History) → StampsFit last older → TurnsAreTaken blocks older → NoReadAbove older → BeginsWell blocks older
    → ((n : ℕ) → n < blocks → is_out n older ≡ true) → SameEntries (open_writes older) (open_reads older)
    → (image : Image) → EpochFaithful image older
offline blocks last older stamps turns above begins out same image =
    let w : ℕ → LogEntry = λ n. record { number = n; payload = []; stamp = 0 } in
    let none : (entry : LogEntry) → waits blocks w older entry ≡ 0 = λ entry. elim (cases_Bool (nat_lt entry.number blocks)) [
      | inl less ↦ waits-out blocks w older entry (out entry.number (ltb-true entry.number blocks less))
      | inr more ↦ ap (λ (b : Bool). one_if (b && (not (is_out entry.number older) && same_entry entry (w entry.number)))) more
    ] in
    record {
      each = (settles image blocks older stamps.each above.each turns.each begins w (λ n. refl)
          (record { each = λ entry. omega (arith, same.counts entry, none entry) })).faithful;
    }
