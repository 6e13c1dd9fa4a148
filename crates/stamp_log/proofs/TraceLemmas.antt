-- How the standing of a log on a trace is kept by one event more.
use Rattle.std.proofs.Common.{◌≡◌, ◌≢◌, ℕ, zero, suc, ◌+◌, ◌<◌, ◌≤◌, Bool, true, false, cond, eqb, ◌&&◌, ◌||◌, List, [], ◌∷◌, ◌++◌, length, Option, refl, sym, ap, ◌∙◌, subst, inl, inr, ◌⊎◌, arith}
use Rattle.std.specs.Prelude.{option_to_list, IsTrue}
use Rattle.std.specs.Bool.{OnTrue}
use Rattle.std.specs.List.{list_any, list_all}
use Rattle.std.proofs.lemmas.Bool.{and_parts, eqb-true, eqb-false, eq-eqb, cases_Bool, both_ways, OnFalse_at}
use Rattle.std.proofs.lemmas.List.{append_assoc}
use Rattle.std.proofs.lemmas.List.Sums.{sum_by-append}
use Rattle.aegis_num.specs.declared.storage.Block.{Block}
use Rattle.aegis_num.specs.declared.storage.Place.{Place}
use Rattle.aegis_num.specs.declared.storage.Place.TheVariants.{Log}
use Rattle.off_chip.specs.declared.event.Event.{Event}
use Rattle.off_chip.specs.declared.event.Event.TheVariants.{BlockRead, BlockWrite, Note}
use Rattle.off_chip.specs.declared.event.Mark.TheVariants.{CheckPassed}
use Rattle.off_chip.specs.Histories.{History, no_event, ◌◂◌, in_order, Each, EachSince, since, until}
use Rattle.off_chip.specs.WriteBacks.{last_write, block_writes, StampsFit}
use Rattle.off_chip.specs.FaithfulReads.{is_faithful, is_log_read, LogFaithful}
use Rattle.off_chip.specs.Epochs.{LogEntry, log_read, is_passed, is_check_start, reads_of, check_of, open_epoch, open_reads, open_writes, ReadNotAbove, EpochFaithful}
use Rattle.off_chip.specs.Collisions.{same_entry, SameEntries, sum_of}
use Rattle.off_chip.proofs.HistoryLemmas.{history-in_order, filter_map-push}
use Rattle.off_chip.proofs.CollisionLemmas.{same_entry-Decides}
use Rattle.off_chip.proofs.WriteLemmas.{last_write-here, last_write-elsewhere}
use Rattle.stamp_log.specs.LogTurns.{is_out, TakesTurn}
use Rattle.stamp_log.specs.LogStands.{AreLastWrites, IsWritten, EndedWell, HoldsLogCollision, TraceStands, some_passed}
use Rattle.stamp_log.specs.Checking.{check_reads, no_image, IsChecking}
use Rattle.stamp_log.proofs.Offline.{count, once, count-cons, offline}

-- ---- epochs that have ended

pub collision-more : (value : LogEntry → ℕ) (trace : List Event) (event : Event) → HoldsLogCollision value trace → HoldsLogCollision value (trace ++ event ∷ [])
collision-more value trace event holds =
    let c = holds.collides in
    record {
      number = holds.number;
      collides = record {
        before = c.before;
        rest = c.rest ++ event ∷ [];
        parts = ap (λ (t : List Event). t ++ event ∷ []) c.parts ∙ append_assoc c.before (Note CheckPassed ∷ c.rest) (event ∷ []);
        counted = c.counted;
        differ = c.differ;
        same = c.same;
      };
    }

abbrev Ended : (LogEntry → ℕ) → ℕ → History → Type 0
Ended value blocks older = EndedWell blocks older ⊎ HoldsLogCollision value (in_order older)

ended-more : (value : LogEntry → ℕ) (blocks : ℕ) (event : Event) (older : History) → is_passed event ≡ false → Ended value blocks older → Ended value blocks (event ◂ older)
ended-more value blocks event older not_passed ended =
    let same : until is_passed older ≡ until is_passed (event ◂ older) = ap (λ (b : Bool). cond b older (until is_passed older)) (sym not_passed) in
    elim ended [
      | inl well ↦ inl (record {
        faithful = λ image. record { ended = subst (λ (u : History). LogFaithful image u) same (well.faithful image).ended };
        entries = λ passed. subst (λ (u : History). AreLastWrites blocks (reads_of (check_of (since is_passed u))) u) same
            (well.entries (ap (λ (b : Bool). b || some_passed older) (sym not_passed) ∙ passed));
      })
      | inr holds ↦ inr (collision-more value (in_order older) event holds)
    ]

log-apart : (m n : ℕ) → m ≢ n → Log m ≢ Log n
log-apart m n differ same = let e : m ≡ n = cc in differ e

-- ---- a write, a read, and any other event

pub trace-write : (value : LogEntry → ℕ) (blocks n : ℕ) (block : Block) (older : History) → TraceStands value blocks older → n < blocks → is_out n older ≡ true
    → TraceStands value blocks (BlockWrite (Log n) block ◂ older)
trace-write value blocks n block older stands less out = record {
  written = λ m below. elim (cases_Bool (eqb m n)) [
    | inl equal ↦ subst (λ (k : ℕ). IsWritten (BlockWrite (Log n) block ◂ older) k) (sym (eqb-true m n equal)) (record { block = block; last = last_write-here (Log n) block older })
    | inr other ↦
        let there = stands.written m below in
        record { block = there.block; last = last_write-elsewhere (Log m) (Log n) block older (log-apart m n (λ equal. eqb-false m n other equal)) ∙ there.last }
  ];
  turns = record { each = (stands.turns.each, (less, out)) };
  not_above = record { each = (stands.not_above.each, tt) };
  ended = ended-more value blocks (BlockWrite (Log n) block) older refl stands.ended;
}

pub trace-read : (value : LogEntry → ℕ) (blocks n : ℕ) (block : Block) (older : History) → TraceStands value blocks older → n < blocks → is_out n older ≡ false
    → block.stamp ≤ block_writes (in_order older) → TraceStands value blocks (BlockRead (Log n) block ◂ older)
trace-read value blocks n block older stands less inside fits = record {
  written = λ m below. let there = stands.written m below in record { block = there.block; last = there.last };
  turns = record { each = (stands.turns.each, (less, inside)) };
  not_above = record { each = (stands.not_above.each, fits) };
  ended = ended-more value blocks (BlockRead (Log n) block) older refl stands.ended;
}

pub trace-other : (value : LogEntry → ℕ) (blocks : ℕ) (event : Event) (older : History) → is_passed event ≡ false
    → ((n : ℕ) → last_write (Log n) (event ◂ older) ≡ last_write (Log n) older) → TakesTurn blocks event older → ReadNotAbove event older
    → TraceStands value blocks older → TraceStands value blocks (event ◂ older)
trace-other value blocks event older not_passed writes turn above stands = record {
  written = λ m below. let there = stands.written m below in record { block = there.block; last = writes m ∙ there.last };
  turns = record { each = (stands.turns.each, turn) };
  not_above = record { each = (stands.not_above.each, above) };
  ended = ended-more value blocks event older not_passed stands.ended;
}

-- ---- whether two lists are one multiset

agrees : (entries others : List LogEntry) → LogEntry → Bool
agrees entries others entry = eqb (count entry entries) (count entry others)

agree-at : (entries others some : List LogEntry) → list_all (agrees entries others) some ≡ true → (entry : LogEntry) → 1 ≤ count entry some → count entry entries ≡ count entry others
unfolding agrees
agree-at entries others [] all entry stands = let no_such : ⊥ = omega (arith, stands) in absurd no_such
agree-at entries others (first ∷ some) all entry stands =
    let parts = and_parts (agrees entries others first) (list_all (agrees entries others) some) all in
    elim (cases_Bool (same_entry entry first)) [
      | inl same ↦
          let one : entry ≡ first = (same_entry-Decides entry first).0 same in
          subst (λ (e : LogEntry). count e entries ≡ count e others) (sym one) (eqb-true (count first entries) (count first others) parts.0)
      | inr other ↦
          let none : once entry first ≡ 0 = ap (λ (b : Bool). cond b 1 0) other in
          agree-at entries others some parts.1 entry (omega (arith, stands, none, count-cons entry first some))
    ]

all-agree : (entries others some : List LogEntry) → SameEntries entries others → list_all (agrees entries others) some ≡ true
unfolding agrees
all-agree entries others [] same = refl
all-agree entries others (first ∷ some) same =
    ap (λ (b : Bool). b && list_all (agrees entries others) some) (eq-eqb (count first entries) (count first others) (same.counts first)) ∙ all-agree entries others some same

pub same-or-differ : (entries others : List LogEntry) → SameEntries entries others ⊎ (SameEntries entries others → ⊥)
same-or-differ entries others =
    elim (cases_Bool (list_all (agrees entries others) (entries ++ others))) [
      | inl all ↦ inl (record {
        counts = λ entry.
            let both : count entry (entries ++ others) ≡ count entry entries + count entry others = sum_by-append (λ (e : LogEntry). cond (same_entry entry e) 1 0) entries others in
            elim (cases_Bool (eqb (count entry entries + count entry others) 0)) [
              | inl none ↦ let zero_both = eqb-true (count entry entries + count entry others) 0 none in omega (arith, zero_both)
              | inr some ↦
                  let more : 1 ≤ count entry (entries ++ others) = elim (cases_Bool (eqb (count entry (entries ++ others)) 0)) [
                    | inl none ↦ absurd (eqb-false (count entry entries + count entry others) 0 some (sym both ∙ eqb-true (count entry (entries ++ others)) 0 none))
                    | inr other ↦ positive (count entry (entries ++ others)) (λ none. eqb-false (count entry (entries ++ others)) 0 other none)
                  ] in
                  agree-at entries others (entries ++ others) all entry more
            ];
      })
      | inr not_all ↦ inr (λ same. both_ways (list_all (agrees entries others) (entries ++ others)) not_all (all-agree entries others (entries ++ others) same))
    ]
  where
    positive : (n : ℕ) → (n ≡ 0 → ⊥) → 1 ≤ n
    positive zero not_zero = absurd (not_zero refl)
    positive (suc n) not_zero = omega arith

-- ---- a check that passes

all-faithful : (image : Place → Option (List ℕ)) (older : History) → LogFaithful image (until is_passed older)
    → EachSince is_passed (λ event older. OnTrue (is_log_read event) (IsTrue (is_faithful image event older))) older
    → Each (λ event older. OnTrue (is_log_read event) (IsTrue (is_faithful image event older))) older
all-faithful image no_event before after = tt
all-faithful image (event ◂ older) before after = by (is_passed event) refl (all-faithful image older)
  where
    Faithful : Event → History → Type 0
    Faithful event older = OnTrue (is_log_read event) (IsTrue (is_faithful image event older))

    by : (b : Bool) → is_passed event ≡ b
        → (LogFaithful image (until is_passed older) → EachSince is_passed (λ event older. OnTrue (is_log_read event) (IsTrue (is_faithful image event older))) older
        → Each (λ event older. OnTrue (is_log_read event) (IsTrue (is_faithful image event older))) older)
        → Each (λ event older. OnTrue (is_log_read event) (IsTrue (is_faithful image event older))) older × OnTrue (is_log_read event) (IsTrue (is_faithful image event older))
    by true is ih =
        let now : LogFaithful image older = subst (λ (b : Bool). LogFaithful image (cond b older (until is_passed older))) is before in
        (now.each, passed-event event is)
      where
        passed-event : (e : Event) → is_passed e ≡ true → OnTrue (is_log_read e) (IsTrue (is_faithful image e older))
        passed-event (BlockRead place block) passed = cc
        passed-event e passed = tt
    by false is ih =
        let now : LogFaithful image (until is_passed older) = subst (λ (b : Bool). LogFaithful image (cond b older (until is_passed older))) is before in
        let both = OnFalse_at is after in
        (ih now both.0, both.1)

pub trace-passed : (value : LogEntry → ℕ) (blocks last : ℕ) (older : History) → TraceStands value blocks older → StampsFit last older
    → ((n : ℕ) → n < blocks → is_out n older ≡ true) → IsChecking blocks older → sum_of value (open_writes older) ≡ sum_of value (open_reads older)
    → TraceStands value blocks (Note CheckPassed ◂ older)
trace-passed value blocks last older stands fits out checking sums = record {
  written = λ m below. let there = stands.written m below in record { block = there.block; last = there.last };
  turns = record { each = (stands.turns.each, tt) };
  not_above = record { each = (stands.not_above.each, tt) };
  ended = elim stands.ended [
    | inr holds ↦ inr (collision-more value (in_order older) (Note CheckPassed) holds)
    | inl well ↦ elim (same-or-differ (open_writes older) (open_reads older)) [
      | inl same ↦
          let faithful : (image : Place → Option (List ℕ)) → EpochFaithful image older = λ image. offline blocks last older fits stands.turns stands.not_above well.entries out same image in
          inl (record {
            faithful = λ image. record { ended = record { each = all-faithful image older (well.faithful image).ended (faithful image).each } };
            entries = λ passed. record {
              count = checking.counted;
              each = λ n less. let read = checking.each n less in record { block = read.block; written = read.last (faithful no_image); at = read.at };
            };
          })
      | inr differ ↦ inr (record {
        number = length (in_order older);
        collides = record {
          before = in_order older;
          rest = [];
          parts = refl;
          counted = refl;
          differ = λ same. differ (subst (λ (h : History). SameEntries (open_writes h) (open_reads h)) (history-in_order older) same);
          same = subst (λ (h : History). sum_of value (open_writes h) ≡ sum_of value (open_reads h)) (sym (history-in_order older)) sums;
        };
      })
    ]
  ];
}

-- ---- what a check reads

pub check-push : (xs : List Event) (event : Event) → list_any is_check_start xs ≡ true → check_of (xs ++ event ∷ []) ≡ check_of xs ++ event ∷ []
check-push [] event some = cc
check-push (x ∷ xs) event some = elim (cases_Bool (is_check_start x)) [
  | inl starts ↦ rw starts refl
  | inr other ↦ rw other (check-push xs event (ap (λ (b : Bool). b || list_any is_check_start xs) (sym other) ∙ some))
]

pub reads-push : (older : History) (event : Event) → is_passed event ≡ false → list_any is_check_start (open_epoch older) ≡ true
    → check_reads (event ◂ older) ≡ check_reads older ++ option_to_list (log_read event)
reads-push older event not_passed started =
    ap (λ (b : Bool). reads_of (check_of (cond b [] (open_epoch older ++ event ∷ [])))) not_passed
    ∙ ap (λ (xs : List Event). reads_of xs) (check-push (open_epoch older) event started)
    ∙ filter_map-push log_read (check_of (open_epoch older)) event
