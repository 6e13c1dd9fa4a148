-- How lines follow the trace.
use Rattle.std.proofs.Common.{◌≡◌, ◌≢◌, ℕ, suc, ◌<◌, Bool, true, false, cond, List, [], ◌∷◌, ◌++◌, length, Some, None, Result, refl, sym, ap, ◌∙◌, subst, inl, inr, append_assoc}
use Rattle.std.specs.Prelude.{is_some, slice_index_or, slice_set}
use Rattle.std.specs.List.{All}
use Rattle.std.proofs.lemmas.Bool.{cases_Bool, cases_lt}
use Rattle.std.proofs.lemmas.List.{append-nil, get_or-set_same, get_or-set_other, get_or_past}
use Rattle.std.proofs.lemmas.List.Elements.{All-weaker}
use Rattle.aegis_num.specs.declared.Block.{Block}
use Rattle.aegis_num.specs.declared.Place.{Place}
use Rattle.aegis_num.specs.declared.Place.TheVariants.{Tree, Log}
use Rattle.regions.specs.declared.Layout.{Layout}
use Rattle.off_chip.specs.declared.Event.{Event}
use Rattle.off_chip.specs.declared.Event.TheVariants.{BlockRead, BlockWrite, Note}
use Rattle.off_chip.specs.declared.Mark.TheVariants.{CheckPassed, CheckStart}
use Rattle.off_chip.specs.BlockPlaces.{named_place}
use Rattle.off_chip.specs.Epochs.{LogEntry}
use Rattle.off_chip.specs.Histories.{History, ◌◂◌, history}
use Rattle.off_chip.specs.WriteBacks.{same_place}
use Rattle.off_chip.proofs.WriteLemmas.{same_place-Decides}
use Rattle.off_chip.specs.Residency.{in_check, is_resident}
use Rattle.off_chip.proofs.HistoryLemmas.{history-appended}
use Rattle.off_chip.proofs.MoreLemmas.{in_check-more}
use Rattle.off_chip.proofs.ResidencyLemmas.{is_resident-check_read, is_resident-elsewhere, is_resident-write}
use Rattle.line_cache.specs.LineMaps.{LineMap}
use Rattle.hash_tree.specs.Schemes.{Scheme}
use Rattle.hash_tree.specs.Standing.{State}
use Rattle.hash_tree.specs.TreeSteps.{Appends, IsMove, Moved}
use Rattle.stamp_log.specs.declared.LogCause.{LogCause}
use Rattle.stamp_log.specs.LogCalls.{MakesRoom, WritesBack}
use Rattle.stamp_log.specs.LogEvents.{EndsCheck, ReadsInOrder, RunsCheck, reads_from}
use Rattle.stamp_log.specs.LogState.{LogLines, line_of, stamped}
use Rattle.secure_memory.specs.OutsideEvents.{is_outside}
use Rattle.memory_trace.specs.ResidentLines.{LinesResident, OthersKeepLines, has_line}
use Rattle.memory_trace.proofs.HonestMoves.{history-moved}
use Rattle.memory_trace.proofs.MoveFor.{MoveFor, is_among, move-held, resident-read, resident-through}
use Rattle.memory_trace.proofs.SoundOthers.{outside-named}

-- ---- tests

pub both-ways : (a b : Bool) → (a ≡ true → b ≡ true) → (b ≡ true → a ≡ true) → a ≡ b
both-ways true true one other = refl
both-ways true false one other = sym (one refl)
both-ways false true one other = other refl
both-ways false false one other = refl

-- ---- lines of the tree after a load

pub resident-moved : (scheme : Scheme) (pinned reads : List ℕ) (old new : State) → Moved scheme pinned old new reads
    → ((n : ℕ) → is_some (old.lines n) ≡ true → is_resident (Tree n) (history old.trace) ≡ true) → (n : ℕ) → is_some (new.lines n) ≡ true → is_resident (Tree n) (history new.trace) ≡ true
resident-moved scheme pinned reads old new moved before n held =
    ap (λ (h : History). is_resident (Tree n) h) (history-moved scheme pinned reads old new moved)
    ∙ elim (moved.moves.came n held) [
      | inl was ↦ resident-through n (history old.trace) moved.moves.events moves (before n was)
      | inr came ↦ resident-read n (history old.trace) moved.moves.events moves (ap (λ (ns : List ℕ). is_among n ns) moved.moves.reads_are ∙ came.1)
    ]
  where
    moves : All (MoveFor n) moved.moves.events
    moves = All-weaker (IsMove pinned old new) (MoveFor n) (λ (event : Event) (move : IsMove pinned old new event). move-held pinned old new n event held move) moved.moves.events moved.moves.each

-- ---- events that name nothing, and events of the log

none-named : (place : Place) (event : Event) → named_place event ≡ None → named_place event ≢ Some place
none-named place event none same = let e : None ≡ Some place = sym none ∙ same in cc

pub resident-unnamed : (place : Place) (event : Event) (before after : List Event) → named_place event ≡ None → Appends event before after
    → is_resident place (history after) ≡ is_resident place (history before)
resident-unnamed place event before after none same =
    ap (λ (h : History). is_resident place h) (history-appended before after event same) ∙ is_resident-elsewhere place event (history before) (none-named place event none)

pub lines-outside : (layout : Layout) (lines : LineMap) (log : LogLines) (event : Event) (before after : List Event) → is_outside event ≡ true → Appends event before after
    → LinesResident layout lines log before → LinesResident layout lines log after
lines-outside layout lines log event before after outside same resident =
    record { each = λ place inside. resident.each place inside ∙ sym (resident-unnamed place event before after (outside-named event outside) same) }

-- ---- a check of the log

pub held-below : (held : List Bool) (n : ℕ) → slice_index_or held n false ≡ true → n < length held
held-below held n is = elim (cases_lt n (length held)) [
  | inl below ↦ below
  | inr past ↦ let e : true ≡ false = sym is ∙ get_or_past held n false past in cc
]

line-held : (lines : LogLines) (n : ℕ) (payload : List ℕ) → line_of lines n ≡ Some payload → slice_index_or lines.held n false ≡ true
line-held lines n payload line = by (slice_index_or lines.held n false) line
  where
    by : (b : Bool) → cond b (Some (slice_index_or lines.payloads n [])) None ≡ Some payload → b ≡ true
    by true line = refl
    by false line = cc

place-apart : (place : Place) (n : ℕ) → place ≢ Log n → Some (Log n) ≢ Some place
place-apart place n apart same = apart cc

-- where a line is removed and written back
abbrev AllResident : LineMap → LogLines → History → Place → Type 0
AllResident lines log older place = has_line lines log place ≡ is_resident place older

removed-line : (lines : LineMap) (old new : LogLines) (n : ℕ) (place : Place) → place ≢ Log n → new.held ≡ slice_set old.held n false → has_line lines new place ≡ has_line lines old place
removed-line lines old new n (Tree m) apart held = refl
removed-line lines old new n (Log m) apart held =
    ap (λ (xs : List Bool). slice_index_or xs m false) held ∙ get_or-set_other old.held n m false false (λ here. apart (ap (λ (k : ℕ). Log k) here))

same-line : (lines : LineMap) (old new : LogLines) (place : Place) → new.held ≡ old.held → has_line lines new place ≡ has_line lines old place
same-line lines old new (Tree m) held = refl
same-line lines old new (Log m) held = ap (λ (xs : List Bool). slice_index_or xs m false) held

room-resident : (lines : LineMap) (blocks : ℕ) (before after : List Event) (old new : LogLines) (place : Place) → MakesRoom blocks before after old new
    → AllResident lines old (history before) place → AllResident lines new (history after) place
room-resident lines blocks before after old new place (MakesRoom.nothing same held payloads) is =
    same-line lines old new place held ∙ is ∙ ap (λ (t : List Event). is_resident place (history t)) (sym same)
room-resident lines blocks before after old new place (MakesRoom.written n stamp payload less line same held payloads) is =
    elim (cases_Bool (same_place place (Log n))) [
      | inl yes' ↦
          let here : place ≡ Log n = (same_place-Decides place (Log n)).0 yes' in
          ap (λ (p : Place). has_line lines new p) here ∙ ap (λ (xs : List Bool). slice_index_or xs n false) held
          ∙ get_or-set_same old.held n false false (held-below old.held n (line-held old n payload line))
          ∙ sym (ap (λ (p : Place). is_resident p (history after)) here ∙ ap (λ (h : History). is_resident (Log n) h) grown ∙ is_resident-write (Log n) (stamped payload stamp) (history before))
      | inr no' ↦
          let apart : place ≢ Log n = λ here. let e : true ≡ false = sym ((same_place-Decides place (Log n)).1 here) ∙ no' in cc in
          removed-line lines old new n place apart held ∙ is
          ∙ sym (ap (λ (h : History). is_resident place h) grown
          ∙ is_resident-elsewhere place (BlockWrite (Log n) (stamped payload stamp)) (history before) (place-apart place n apart))
    ]
  where
    grown : history after ≡ BlockWrite (Log n) (stamped payload stamp) ◂ history before
    grown = history-appended before after (BlockWrite (Log n) (stamped payload stamp)) same

writes-resident : (lines : LineMap) (blocks : ℕ) (before after : List Event) (old new : LogLines) (place : Place) → WritesBack blocks before after old new
    → AllResident lines old (history before) place → AllResident lines new (history after) place
writes-resident lines blocks before after old new place (WritesBack.none trace held) is = is
writes-resident lines blocks before after old new place (WritesBack.more first middle last older between newer writes room) is =
    room-resident lines blocks middle after between new place room (writes-resident lines blocks before middle old between place writes is)

room-check : (blocks : ℕ) (before after : List Event) (old new : LogLines) → MakesRoom blocks before after old new → in_check (history before) ≡ true → in_check (history after) ≡ true
room-check blocks before after old new (MakesRoom.nothing same held payloads) is = ap (λ (t : List Event). in_check (history t)) same ∙ is
room-check blocks before after old new (MakesRoom.written n stamp payload less line same held payloads) is =
    ap (λ (h : History). in_check h) (history-appended before after (BlockWrite (Log n) (stamped payload stamp)) same)
    ∙ in_check-more (BlockWrite (Log n) (stamped payload stamp)) (history before) ∙ is

writes-check : (blocks : ℕ) (before after : List Event) (old new : LogLines) → WritesBack blocks before after old new → in_check (history before) ≡ true → in_check (history after) ≡ true
writes-check blocks before after old new (WritesBack.none trace held) is = is
writes-check blocks before after old new (WritesBack.more first middle last older between newer writes room) is =
    room-check blocks middle after between new room (writes-check blocks before middle old between writes is)

-- reads of a check
record InCheckAs (place : Place) (before after : List Event) : Type 0 where
  resident : is_resident place (history after) ≡ is_resident place (history before)
  check : in_check (history after) ≡ true

read-as : (place : Place) (n : ℕ) (block : Block) (before after : List Event) → after ≡ before ++ BlockRead (Log n) block ∷ [] → in_check (history before) ≡ true → InCheckAs place before after
read-as place n block before after same inside =
    let grown = history-appended before after (BlockRead (Log n) block) same in
    record {
      resident = ap (λ (h : History). is_resident place h) grown ∙ is_resident-check_read place n block (history before) inside;
      check = ap (λ (h : History). in_check h) grown ∙ in_check-more (BlockRead (Log n) block) (history before) ∙ inside;
    }

as-both : (place : Place) (before middle after : List Event) → InCheckAs place before middle → InCheckAs place middle after → InCheckAs place before after
as-both place before middle after one two = record { resident = two.resident ∙ one.resident; check = two.check }

reads-as : (place : Place) (n : ℕ) (read : List Block) (before : List Event) → in_check (history before) ≡ true → InCheckAs place before (before ++ reads_from n read)
reads-as place n [] before inside = subst (λ (t : List Event). InCheckAs place before t) (sym (append-nil before)) (record { resident = refl; check = inside })
reads-as place n (block ∷ read) before inside =
    let one = read-as place n block before (before ++ BlockRead (Log n) block ∷ []) refl inside in
    subst (λ (t : List Event). InCheckAs place before t) (append_assoc before (BlockRead (Log n) block ∷ []) (reads_from (suc n) read))
    (as-both place before (before ++ BlockRead (Log n) block ∷ []) ((before ++ BlockRead (Log n) block ∷ []) ++ reads_from (suc n) read) one
    (reads-as place (suc n) read (before ++ BlockRead (Log n) block ∷ []) one.check))

order-as : (place : Place) (count : ℕ) (before after : List Event) → ReadsInOrder count before after → in_check (history before) ≡ true → InCheckAs place before after
order-as place count before after reads inside = subst (λ (t : List Event). InCheckAs place before t) (sym reads.events) (reads-as place 0 reads.read before inside)

ends-same : (place : Place) (value : LogEntry → ℕ) (blocks : ℕ) (before after : List Event) (result : Result (Unit {0}) LogCause) → EndsCheck value blocks before after result
    → in_check (history before) ≡ true → is_resident place (history after) ≡ is_resident place (history before)
ends-same place value blocks before after result (EndsCheck.passes compared reads agree same is) inside =
    resident-unnamed place (Note CheckPassed) compared after refl same ∙ (order-as place blocks before compared reads inside).resident
ends-same place value blocks before after result (EndsCheck.differs read written reads differ is) inside = (order-as place blocks before after reads inside).resident
ends-same place value blocks before after result (EndsCheck.stops event stopped is) inside =
    let earlier = order-as place stopped.n before stopped.middle stopped.earlier inside in
    (read-as place stopped.n stopped.block stopped.middle after stopped.last earlier.check).resident ∙ earlier.resident

pub lines-check : (layout : Layout) (lines : LineMap) (value : LogEntry → ℕ) (result : Result (Unit {0}) LogCause) (before after : List Event) (old new : LogLines)
    → RunsCheck value layout.log result before after old new → LinesResident layout lines old before → LinesResident layout lines new after
lines-check layout lines value result before after old new runs resident =
    let started : List Event = before ++ Note CheckStart ∷ [] in
    let check : in_check (history started) ≡ true =
    ap (λ (h : History). in_check h) (history-appended before started (Note CheckStart) refl) ∙ in_check-more (Note CheckStart) (history before) in
    record {
      each = λ place inside.
          writes-resident lines layout.log started runs.middle old new place runs.writes (resident.each place inside ∙ sym (resident-unnamed place (Note CheckStart) before started refl refl))
          ∙ sym (ends-same place value layout.log runs.middle after result runs.ends (writes-check layout.log started runs.middle old new runs.writes check));
    }

pub others-lines : OthersKeepLines
others-lines = record { check = lines-check; outside = lines-outside }
