-- What the accesses of a secure memory tell of the reads of a step, and of the read at which one stopped.
use Rattle.std.proofs.Common.{◌≡◌, ◌≢◌, ℕ, ◌+◌, ◌*◌, ◌<◌, ◌≤◌, arith, rules, Result, Ok, Err, Bool, true, false, List, [], ◌∷◌, ◌++◌, length, length-append, Option, Some, None, refl, sym, ap, ◌∙◌, subst, inl, inr}
use Rattle.std.specs.Prelude.{◌⊎◌, ◌==◌, ◌||◌, Contains, IsTrue, filter_map, is_some, option_and_then, option_map, if◌then◌else◌}
use Rattle.std.specs.List.{list_any}
use Rattle.std.proofs.lemmas.List.{append-nil, append_assoc, append_cancel_left}
use Rattle.std.proofs.lemmas.List.Elements.{Contains-append_cases, Contains-append_left, Contains-append_right}
use Rattle.std.proofs.lemmas.List.Folds.{list_any-append}
use Rattle.aegis_num.specs.declared.Place.{Place}
use Rattle.aegis_num.specs.declared.Place.TheVariants.{Log, Tree}
use Rattle.regions.specs.declared.addresses.TheConstants.{LOG_START, OPEN_END}
use Rattle.regions.specs.declared.Layout.{Layout}
use Rattle.regions.specs.declared.Access.TheVariants.{Fetch}
use Rattle.regions.specs.Addresses.{data_block_at, log_block_at}
use Rattle.regions.specs.Modes.{is_secure}
use Rattle.off_chip.specs.declared.Event.{Event}
use Rattle.off_chip.specs.declared.Event.TheVariants.{BlockRead, BlockWrite, WordRead}
use Rattle.off_chip.specs.declared.Who.TheVariants.{Secure}
use Rattle.off_chip.specs.Boundaries.{enter_events, is_retire}
use Rattle.off_chip.specs.ExpectedDigests.{Digests, expected_digest}
use Rattle.off_chip.specs.Histories.{History, history, in_order}
use Rattle.off_chip.specs.WriteBacks.{read_at}
use Rattle.off_chip.proofs.HistoryLemmas.{filter_map-push, history-append, in_order-history}
use Rattle.hash_tree.specs.CachedLines.{Held, held_in}
use Rattle.hash_tree.specs.HashTrees.{digests_of, scheme_of}
use Rattle.hash_tree.specs.Paths.{path_of}
use Rattle.hash_tree.specs.Standing.{State}
use Rattle.hash_tree.specs.TreeSteps.{Moves, ReadsFirst, Stops, block_read, uncached}
use Rattle.hash_tree.proofs.InsertLemmas.{kept-expected}
use Rattle.stamp_log.specs.declared.Changed.{Changed}
use Rattle.stamp_log.specs.LogCalls.{MakesRoom, Fetches as LogFetches}
use Rattle.stamp_log.specs.LogState.{LogLines, stamped}
use Rattle.orbis_word.specs.declared.Instr.{Instr}
use Rattle.orbis_word.specs.Reading.{instruction_in}
use Rattle.orbis_core.specs.declared.Effect.{Effect}
use Rattle.orbis_core.specs.declared.Effect.TheVariants as effect
use Rattle.orbis_core.specs.declared.StepEnd.{StepEnd}
use Rattle.orbis_core.specs.declared.StepEnd.TheVariants as end
use Rattle.orbis_core.specs.declared.Stop.{Stop}
use Rattle.orbis_core.specs.declared.Stop.TheVariants as stop
use Rattle.orbis_core.specs.declared.Why.{Why}
use Rattle.orbis_core.specs.declared.Why.TheVariants as why
use Rattle.orbis_core.specs.Accesses.{Accesses}
use Rattle.orbis_core.specs.ByteOrder.{word_start}
use Rattle.orbis_core.specs.Effects.{effect_of}
use Rattle.orbis_core.specs.Ideal.{accessed_at, accessed_by, fetched_at}
use Rattle.orbis_core.specs.OwnMemory.{secure_of_end}
use Rattle.orbis_core.specs.Processor.{Processor}
use Rattle.orbis_core.specs.Refusals.{word_refusal}
use Rattle.orbis_core.specs.Rows.{Carries, Executes, GoesOnAfter, Machine, Steps, end_after}
use Rattle.orbis_core.specs.Secure.{secure_end, secure_of}
use Rattle.secure_memory.specs.BlockWords.{after_reads, is_memory_block, start_at, word_at}
use Rattle.secure_memory.specs.MemoryAccesses.{Fetches, FetchesWord, IsReachedBy, IsStopped, IsStoppedBy, Loads, LoadsBlock, LoadsOpen, Stores, StoresBlock, StoresOpen, Unless, pinning, secure_accesses}
use Rattle.secure_memory.specs.MemorySights.{Agrees, Sight as SecureSight, line_in, tree_scheme, tree_state, veil_of}
use Rattle.secure_memory.proofs.IdealLemmas.{either}
use Rattle.secure_memory.proofs.PlaceLemmas.{reads-none}
use Rattle.secure_memory.proofs.TreeActs.{some-payload}
use Rattle.secure_memory.proofs.TreeReach.{all-move, no-log_read, not-among}
use Rattle.bus_machine.specs.BusAccesses.{ReadsBlock, Sight, UnlessRefused}
use Rattle.bus_machine.specs.BusMachine.{LoadedProgram, Veil, blocks_taken, bus_machine}
use Rattle.bus_machine.specs.BusTurns.{reading}
use Rattle.bus_machine.proofs.SegmentLemmas.{taken-append}
use Rattle.bus_machine.proofs.TurnLemmas.{goes-over}
use Rattle.aegis_machine.specs.Boundaries.{IsReachedInStep, accessed}
use Rattle.aegis_machine.specs.Causes.{IsFutureAbort, IsTreeAbort, ReadsExpected}
use Rattle.aegis_machine.specs.SecureMeets.{moved-blocks, same-reads as same-taken, secure_meets}
use Rattle.aegis_machine.specs.SecureSights.{bus_sight}
use Rattle.aegis_machine.specs.Ties.{IsTied}
use Rattle.aegis_machine.proofs.CheckLemmas.{secure-of}
use Rattle.aegis_machine.proofs.ReadLemmas.{AreExpected, expected-append, is_tree_read, unread-along}
use Rattle.aegis_machine.proofs.AlongLemmas.{blocks-access, calm-accesses, calm-goes}
use Rattle.aegis_machine.proofs.TieLemmas.{both-go-on}

-- ---- reads of the log

-- what comes before the read of a log block: nothing, or a line that is written back
record Front (before middle : List Event) : Type 0 where
  front : List Event
  appended : middle ≡ before ++ front
  taken : (layout : Layout) (veil : Veil) (memory : ℕ → ℕ) → blocks_taken layout veil front memory ≡ memory
  goes : list_any is_retire front ≡ false
  unread : list_any is_tree_read front ≡ false

room-front : (blocks : ℕ) (before middle : List Event) (old new : LogLines) → MakesRoom blocks before middle old new → Front before middle
room-front blocks before middle old new (MakesRoom.nothing same held payloads) = record {
  front = [];
  appended = same ∙ sym (append-nil before);
  taken = λ layout veil memory. refl;
  goes = refl;
  unread = refl;
}
room-front blocks before middle old new (MakesRoom.written n stamp payload less line same held payloads) = record {
  front = BlockWrite (Log n) (stamped payload stamp) ∷ [];
  appended = same;
  taken = λ layout veil memory. refl;
  goes = refl;
  unread = refl;
}

log-keeps : (layout : Layout) (blocks block : ℕ) (result : Result (Unit {0}) Changed) (before after : List Event) (old new : LogLines) → LogFetches blocks block result before after old new
    → ReadsExpected layout (history before) → ReadsExpected layout (history after)
log-keeps layout blocks block result before after old new fetches reads =
    let room = room-front blocks before fetches.middle old fetches.between fetches.makes in
    unread-along layout fetches.middle after (BlockRead (Log block) fetches.read ∷ []) fetches.event refl
    (unread-along layout before fetches.middle room.front room.appended room.unread reads)

-- ---- reads of the tree

scheme-digests : (layout : Layout) (veiled : ℕ → ℕ → List ℕ → List ℕ) → (scheme_of layout veiled).digests ≡ digests_of layout
unfolding scheme_of
scheme-digests layout veiled = refl

moves-expected : (layout : Layout) (veiled : ℕ → ℕ → List ℕ → List ℕ) (pinned : List ℕ) (old new : State) (reads : List ℕ) → (moves : Moves (scheme_of layout veiled) pinned old new reads)
    → AreExpected layout (history old.trace) moves.events
moves-expected layout veiled pinned old new reads moves = record {
  each = λ before n block rest same.
      let P : Digests → Type 0 = λ d. expected_digest d n (history (old.trace ++ before)) ≡ Some (d.digest n block) in
      let Q : History → Type 0 = λ h. expected_digest (digests_of layout) n h ≡ Some ((digests_of layout).digest n block) in
      subst Q (history-append (old.trace ++ before) old.trace before refl) (subst P (scheme-digests layout veiled) (moves.checked before n block rest same));
}

-- an answer by a stop
abbrev fails : (T : Type 0) → Stop → Result T Stop
fails T reason = Err reason

fails-same : (T : Type 0) (one other : Stop) → one ≡ other → fails T one ≡ fails T other
fails-same T one other same = ap (λ (r : Stop). fails T r) same

never-fails : {T : Type 0} (value : T) (reason : Stop) → Ok value ≡ fails T reason → ⊥
never-fails value reason same = cc

-- no read of the tree stopped it
abbrev NotByTree : {T : Type 0} → Result T Stop → Type 0
NotByTree {T} answer = (event : ℕ) → answer ≡ fails T (stop.Tree event) → ⊥

module _ {L : Type 0} where
  -- reads of tree blocks stay expected, where the layout is this one
  abbrev KeepsReads : Layout → SecureSight L → SecureSight L → Type 0
  KeepsReads layout old new = ReadsExpected layout (history old.trace) → ReadsExpected layout (history new.trace)

  same-reads : (layout : Layout) (old new : SecureSight L) → new.trace ≡ old.trace → KeepsReads layout old new
  same-reads layout old new same reads = let P : List Event → Type 0 = λ t. ReadsExpected layout (history t) in subst P (sym same) reads

  tree-keeps : (layout : Layout) (old : SecureSight L) (pinned : List ℕ) (new : State) (reads : List ℕ) → old.layout ≡ layout → Moves (tree_scheme old) pinned (tree_state old) new reads
      → ReadsExpected layout (history old.trace) → ReadsExpected layout (history new.trace)
  tree-keeps layout old pinned new reads same moves expected =
      let A : Layout → Type 0 = λ l. AreExpected l (history old.trace) moves.events in
      expected-append layout old.trace new.trace moves.events moves.appended (subst A same (moves-expected old.layout (veil_of old) pinned (tree_state old) new reads moves)) expected

  reached-keeps : (layout : Layout) (at : ℕ) (old new : SecureSight L) → old.layout ≡ layout → IsReachedBy at old new → KeepsReads layout old new
  reached-keeps layout at old new same (IsReachedBy.by_tree below logs moved) = tree-keeps layout old _ (tree_state new) _ same moved.moves
  reached-keeps layout at old new same (IsReachedBy.by_log above trees lines fetches) = log-keeps layout _ _ _ old.trace new.trace _ _ fetches
  reached-keeps layout at old new same (IsReachedBy.cached traces lines) = same-reads layout old new traces

  stopped-keeps : (layout : Layout) (at : ℕ) (reason : Stop) (old new : SecureSight L) → ((event : ℕ) → reason ≡ stop.Tree event → ⊥) → IsStoppedBy at old new reason → KeepsReads layout old new
  stopped-keeps layout at _ old new not (IsStoppedBy.tree event below stops first) = absurd (not event refl)
  stopped-keeps layout at _ old new not (IsStoppedBy.log event above fetches) = log-keeps layout _ _ _ old.trace new.trace _ _ fetches

  loads-keep : (layout : Layout) (value : List ℕ → ℕ) (in_word : ℕ → ℕ) (at : ℕ) (answer : Result ℕ Stop) (old new : SecureSight L) → old.layout ≡ layout → NotByTree answer
      → Loads value in_word at answer old new → KeepsReads layout old new
  loads-keep layout value in_word at (Err reason) old new same not does =
      stopped-keeps layout at reason old new (λ event is. not event (fails-same _ reason (stop.Tree event) is)) does.by
  loads-keep layout value in_word at (Ok word) old new same not does =
      either (LoadsOpen in_word at word old new) (LoadsBlock value at word old new) (KeepsReads layout old new) at
      (λ (below : at < OPEN_END) (loads : LoadsOpen in_word at word old new).
      unread-along layout old.trace new.trace (WordRead Secure (word_start at) loads.read ∷ []) loads.acts.appended refl)
      (λ (above : OPEN_END ≤ at) (loads : LoadsBlock value at word old new). reached-keeps layout at old new same loads.reaches.by) does

  stores-keep : (layout : Layout) (value : ℕ → ℕ) (left : List ℕ → List ℕ) (events : ℕ → List Event) (at : ℕ) (answer : Result (Unit {0}) Stop) (old new : SecureSight L) → old.layout ≡ layout
      → NotByTree answer → ((read : ℕ) → list_any is_tree_read (events read) ≡ false) → Stores value left events at answer old new → KeepsReads layout old new
  stores-keep layout value left events at (Err reason) old new same not unread does =
      stopped-keeps layout at reason old new (λ event is. not event (fails-same _ reason (stop.Tree event) is)) does.by
  stores-keep layout value left events at (Ok done) old new same not unread does =
      either (StoresOpen events old new) (StoresBlock value left at old new) (KeepsReads layout old new) at
      (λ (below : at < OPEN_END) (stores : StoresOpen events old new). unread-along layout old.trace new.trace (events stores.read) stores.acts.appended (unread stores.read))
      (λ (above : OPEN_END ≤ at) (stores : StoresBlock value left at old new) (reads : ReadsExpected layout (history old.trace)).
      same-reads layout stores.middle new (stores.acts.appended ∙ sym stores.reaches.acts.appended) (reached-keeps layout at old stores.middle same stores.reaches.by reads)) does

  unless-keeps : {T : Type 0} (layout : Layout) (refusal : Option Why) (answer : Result T Stop) (old new : SecureSight L) (P : Type 0) → (P → KeepsReads layout old new)
      → Unless refusal answer old new P → KeepsReads layout old new
  unless-keeps layout None answer old new P keeps does = keeps does
  unless-keeps layout (Some why) answer old new P keeps does = same-reads layout old new (ap (λ (s : SecureSight L). s.trace) does.1)

  fetches-keep : (layout : Layout) (at : ℕ) (answer : Result ℕ Stop) (old new : SecureSight L) → old.layout ≡ layout → NotByTree answer → Fetches at answer old new → KeepsReads layout old new
  fetches-keep layout at answer old new same not does =
      unless-keeps layout (word_refusal old.layout old.mode Fetch at) answer old new (FetchesWord at answer old new)
      (λ fetches. loads-keep layout _ _ at answer (pinning [] old) (pinning [] new) same not fetches.loads) does

-- ---- the part of a path that a stopped load read

-- one of the blocks that have no line is one of all
from-uncached : (lines : Held) (n : ℕ) (path : List ℕ) → Contains (uncached lines path) n → Contains path n
from-uncached lines n [] inside = inside
from-uncached lines n (m ∷ path) inside = by (is_some (lines m)) (λ rest. from-uncached lines n path rest) inside
  where
    by : (b : Bool) → (Contains (uncached lines path) n → Contains path n) → Contains (if b then uncached lines path else m ∷ uncached lines path) n → Contains (m ∷ path) n
    by true rest inside = Contains-append_right (m ∷ []) path n (rest inside)
    by false rest inside =
        elim (Contains-append_cases (m ∷ []) (uncached lines path) n inside) [
          | inl same ↦ Contains-append_left (m ∷ []) path n same
          | inr more ↦ Contains-append_right (m ∷ []) path n (rest more)
        ]

-- a block that has a line is none of them
uncached-not : (lines : Held) (n : ℕ) (path : List ℕ) → is_some (lines n) ≡ true → list_any (λ m. m == n) (uncached lines path) ≡ false
uncached-not lines n [] held = refl
uncached-not lines n (m ∷ path) held = by (uncached-not lines n path held) (is_some (lines m)) refl
  where
    by : list_any (λ k. k == n) (uncached lines path) ≡ false → (b : Bool) → is_some (lines m) ≡ b
        → list_any (λ k. k == n) (if b then uncached lines path else m ∷ uncached lines path) ≡ false
    by rest true is = rest
    by rest false is =
        let apart : m ≢ n = λ same. let e : true ≡ false = sym held ∙ ap (λ (k : ℕ). is_some (lines k)) (sym same) ∙ is in cc in
        let other : (m == n) ≡ false = grind (arith, rules, apart) in
        ap (λ (b : Bool). b || list_any (λ k. k == n) (uncached lines path)) other ∙ rest

or-first : (a b : Bool) → (a || b) ≡ false → a ≡ false
or-first true b none = none
or-first false b none = refl

module _ {L : Type 0} (at event : ℕ) (first last : SecureSight L)
    (stops : Stops (tree_scheme first) (first.pinned ++ path_of first.layout (data_block_at at)) (tree_state first) (tree_state last) event)
    (reads : ReadsFirst (uncached (held_in first.lines) (path_of first.layout (data_block_at at))) first.trace last.trace) where
  abbrev path : List ℕ
  path = path_of first.layout (data_block_at at)

  abbrev moved : List Event
  moved = stops.moved.moves.events

  abbrev last_read : Event
  last_read = BlockRead (Tree stops.n) stops.block

  -- the blocks that it read, then the one at which it stopped, and then others are those of the path that had no line
  part : filter_map block_read moved ++ (stops.n ∷ reads.unread) ≡ uncached (held_in first.lines) path
  part =
      let here : last.trace ≡ first.trace ++ (moved ++ last_read ∷ []) =
      stops.read ∙ ap (λ (t : List Event). t ++ last_read ∷ []) stops.moved.moves.appended ∙ append_assoc first.trace moved (last_read ∷ []) in
      let same : moved ++ last_read ∷ [] ≡ reads.events = append_cancel_left first.trace _ _ (sym here ∙ reads.appended) in
      sym (append_assoc (filter_map block_read moved) (stops.n ∷ []) reads.unread)
      ∙ ap (λ (ns : List ℕ). ns ++ reads.unread) (sym (filter_map-push block_read moved last_read) ∙ ap (λ (es : List Event). filter_map block_read es) same)
      ∙ reads.reads

  stop-on-path : Contains path stops.n
  stop-on-path =
      from-uncached (held_in first.lines) stops.n path
      (subst (λ (ns : List ℕ). Contains ns stops.n) part (Contains-append_right (filter_map block_read moved) (stops.n ∷ reads.unread) stops.n (0, omega arith, refl)))

  part-unread : (n : ℕ) → is_some (held_in first.lines n) ≡ true → filter_map (read_at (Tree n)) moved ≡ []
  part-unread n held =
      not-among n moved
      (or-first (list_any (λ m. m == n) (filter_map block_read moved)) (list_any (λ m. m == n) (stops.n ∷ reads.unread))
      (sym (list_any-append (λ m. m == n) (filter_map block_read moved) (stops.n ∷ reads.unread)) ∙ ap (λ (ns : List ℕ). list_any (λ m. m == n) ns) part
      ∙ uncached-not (held_in first.lines) n path held))

  -- what agrees with the lines does so after the reads before it
  part-agrees : (memory : ℕ → ℕ) → Agrees first memory → Agrees first (blocks_taken first.layout (veil_of first) moved memory)
  part-agrees memory agrees = record {
    line = λ place payload is line k less.
        ap (λ (m : ℕ → ℕ). m (start_at first.layout place + 4 * k)) (sym (same-taken first.layout (veil_of first) moved memory))
        ∙ stays place payload is line k less ∙ agrees.line place payload is line k less;
  }
    where
      stays : (place : Place) (payload : List ℕ) → IsTrue (is_memory_block first.layout place) → line_in first place ≡ Some payload → (k : ℕ) → k < 16
          → after_reads first.layout (veil_of first) moved memory (start_at first.layout place + 4 * k) ≡ memory (start_at first.layout place + 4 * k)
      stays (Tree n) payload is line k less =
          reads-none first.layout (veil_of first) (Tree n) moved memory k is less (part-unread n (some-payload (held_in first.lines n) (ap (λ (o : Option (List ℕ)). is_some o) line)))
      stays (Log n) payload is line k less =
          reads-none first.layout (veil_of first) (Log n) moved memory k is less (no-log_read n (first.pinned ++ path) (tree_state first) stops.middle moved stops.moved.moves.each)

  part-goes : list_any is_retire moved ≡ false
  part-goes =
      calm-goes moved (calm-accesses moved (blocks-access moved (moved-blocks moved (all-move (first.pinned ++ path) (tree_state first) stops.middle moved stops.moved.moves.each))))

-- ---- a step

-- it was stopped at a read
abbrev IsFault : Stop → Type 0
IsFault (stop.Refused why) = ⊥
IsFault reason = Unit {0}

module _ {L M : Type 0} (seen : M → SecureSight L) (Keeps : M → M → Type 0) where
  abbrev calls : Accesses M
  calls = secure_accesses seen Keeps

  abbrev sight : Sight M
  sight = bus_sight seen

  -- a fetch that was done read the word from the block of its address
  granted-fetch : (r : Option Why) (pc word : ℕ) (old middle : M) → UnlessRefused sight r (Ok word) old middle (ReadsBlock sight (λ memory. memory pc) (Ok word) old middle)
      → ReadsBlock sight (λ memory. memory pc) (Ok word) old middle
  granted-fetch None pc word old middle row = row
  granted-fetch (Some why) pc word old middle row = absurd (never-fails word (stop.Refused why) row.0)

  fetched-word : (pc word : ℕ) (old middle : M) → IsTrue (is_secure (sight.mode old)) → calls.fetch old pc (Ok word) middle → ReadsBlock sight (λ memory. memory pc) (Ok word) old middle
  fetched-word pc word old middle secure fetched =
      granted-fetch (word_refusal (sight.layout old) (sight.mode old) Fetch pc) pc word old middle ((secure_meets seen Keeps).fetch old middle pc (Ok word) secure fetched)

  module _ (layout : Layout) (old new : Machine M) (ended : StepEnd) (same : (seen old.memory).layout ≡ layout) (secure : IsTrue (is_secure (sight.mode old.memory)))
      (not : (event : ℕ) → ended ≡ end.Stopped (stop.Tree event) → ⊥) where
    abbrev Keep : Type 0
    Keep = KeepsReads layout (seen old.memory) (seen new.memory)

    module _ (middle : M) where
      abbrev From : Type 0
      From = KeepsReads layout (seen middle) (seen new.memory)

      stays-keep : new.memory ≡ middle → From
      stays-keep is = same-reads layout (seen middle) (seen new.memory) (ap (λ (m : M). (seen m).trace) is)

      not-answer : {T : Type 0} (answer : Result T Stop) → ended ≡ end_after answer → NotByTree answer
      not-answer {T} answer ends event is = not event (ends ∙ ap (λ (a : Result T Stop). end_after a) is)

      carries-keep : (asked : Effect) → (seen middle).layout ≡ layout → Carries calls asked (record old { memory = middle }) ended new → From
      carries-keep (effect.LoadWord d at) here row =
          unless-keeps layout _ row.answer (seen middle) (seen new.memory) _ (loads-keep layout _ _ at row.answer (seen middle) (seen new.memory) here (not-answer row.answer row.ends)) row.loaded.0
      carries-keep (effect.LoadByte d at) here row =
          unless-keeps layout _ row.answer (seen middle) (seen new.memory) _ (loads-keep layout _ _ at row.answer (seen middle) (seen new.memory) here (not-answer row.answer row.ends)) row.loaded.0
      carries-keep (effect.StoreWord at value) here row =
          unless-keeps layout _ row.answer (seen middle) (seen new.memory) _
          (stores-keep layout _ _ _ at row.answer (seen middle) (seen new.memory) here (not-answer row.answer row.ends) (λ read. refl)) row.stored.0
      carries-keep (effect.StoreByte at byte) here row =
          unless-keeps layout _ row.answer (seen middle) (seen new.memory) _
          (stores-keep layout _ _ _ at row.answer (seen middle) (seen new.memory) here (not-answer row.answer row.ends) (λ read. refl)) row.stored.0
      carries-keep effect.DivideByZero here row = stays-keep row.memory
      carries-keep (effect.Secure f) here row = stays-keep row.memory
      carries-keep effect.Proceed here row = stays-keep row.memory
      carries-keep (effect.Write d value) here row = stays-keep row.memory
      carries-keep (effect.Compare flag) here row = stays-keep row.memory
      carries-keep (effect.Jump target) here row = stays-keep row.memory
      carries-keep (effect.Link target) here row = stays-keep row.memory

      executes-keep : (found : Option Instr) → (seen middle).layout ≡ layout → Executes calls found (record old { memory = middle }) ended new → From
      executes-keep None here row = stays-keep row.memory
      executes-keep (Some instruction) here row = carries-keep (effect_of instruction old.core) here row

      goes-keep : (answer : Result ℕ Stop) → calls.fetch old.memory old.core.pc answer middle → GoesOnAfter calls answer (record old { memory = middle }) ended new → Keep
      goes-keep (Err reason) fetched row reads =
          stays-keep row.memory
          (fetches-keep layout old.core.pc (Err reason) (seen old.memory) (seen middle) same (λ event is. not event (row.ends ∙ ap (λ (a : Result ℕ Stop). end_after a) is)) fetched.0 reads)
      goes-keep (Ok word) fetched row reads =
          let fetch = fetched-word old.core.pc word old.memory middle secure fetched in
          executes-keep (instruction_in word) (fetch.1.makes.layout ∙ same) row
          (fetches-keep layout old.core.pc (Ok word) (seen old.memory) (seen middle) same (λ event is. never-fails word (stop.Tree event) is) fetched.0 reads)

    pub step-keeps : Steps calls old ended new → Keep
    step-keeps step = goes-keep step.middle step.answer step.fetched step.goes_on

  -- ---- the read at which a step stopped

  -- it stopped as it fetched, or as it accessed the address that the instruction asks for
  data StopsAt (old : Machine M) (reason : Stop) (new : M) : Type 0 where
    fetching : IsStopped old.core.pc reason (pinning [] (seen old.memory)) (pinning [] (seen new)) → StopsAt old reason new
    accessing : (middle : M) (word at : ℕ) (instruction : Instr) → calls.fetch old.memory old.core.pc (Ok word) middle → instruction_in word ≡ Some instruction
        → accessed_by (effect_of instruction old.core) ≡ Some at → IsStopped at reason (seen middle) (seen new) → StopsAt old reason new

  stopped-same : (one other : Stop) → end.Stopped one ≡ end.Stopped other → other ≡ one
  stopped-same one other same = cc

  same-fault : (T : Type 0) (one other : Stop) → fails T one ≡ fails T other → one ≡ other
  same-fault T one other same = cc

  not-refused : {T : Type 0} (refusal : Option Why) (answer : Result T Stop) (reason : Stop) (old new : SecureSight L) (P : Type 0) → IsFault reason → answer ≡ fails T reason → Unless refusal answer old new P → P
  not-refused None answer reason old new P fault is does = does
  not-refused {T} (Some why) answer reason old new P fault is does =
      let F : Stop → Type 0 = λ r. IsFault r in absurd (subst F (same-fault T reason (stop.Refused why) (sym is ∙ does.0)) fault)

  load-stopped : (value : List ℕ → ℕ) (in_word : ℕ → ℕ) (at : ℕ) (answer : Result ℕ Stop) (reason : Stop) (old new : SecureSight L) → answer ≡ Err reason → Loads value in_word at answer old new
      → IsStopped at reason old new
  load-stopped value in_word at answer reason old new is does = let P : Result ℕ Stop → Type 0 = λ a. Loads value in_word at a old new in subst P is does

  store-stopped : (value : ℕ → ℕ) (left : List ℕ → List ℕ) (events : ℕ → List Event) (at : ℕ) (answer : Result (Unit {0}) Stop) (reason : Stop) (old new : SecureSight L) → answer ≡ Err reason
      → Stores value left events at answer old new → IsStopped at reason old new
  store-stopped value left events at answer reason old new is does = let P : Result (Unit {0}) Stop → Type 0 = λ a. Stores value left events at a old new in subst P is does

  after-same : {T : Type 0} (answer : Result T Stop) (reason : Stop) → end.Stopped reason ≡ end_after answer → answer ≡ fails T reason
  after-same (Ok value) reason same = let e : end.Stopped reason ≡ end.Next = same in cc
  after-same {T} (Err other) reason same = fails-same T other reason (stopped-same reason other same)

  never-secure : (s : StepEnd) (reason : Stop) (secured : secure_of_end s ≡ None → ⊥) → end.Stopped reason ≡ s → ⊥
  never-secure s reason secured same = secured (ap (λ (e : StepEnd). secure_of_end e) (sym same))

  module _ (old : Machine M) (reason : Stop) (fault : IsFault reason) (new : Machine M) where
    no-fault : (why : Why) → end.Stopped reason ≡ end.Stopped (stop.Refused why) → ⊥
    no-fault why same = let F : Stop → Type 0 = λ r. IsFault r in subst F (sym (stopped-same reason (stop.Refused why) same)) fault

    module _ (middle : M) (word : ℕ) (instruction : Instr) (fetched : calls.fetch old.memory old.core.pc (Ok word) middle) (is : instruction_in word ≡ Some instruction) where
      stops-access : (asked : Effect) → effect_of instruction old.core ≡ asked → Carries calls asked (record old { memory = middle }) (end.Stopped reason) new → StopsAt old reason new.memory
      stops-access (effect.LoadWord d at) asks row =
          let same = after-same row.answer reason row.ends in
          accessing middle word at instruction fetched is (ap (λ (e : Effect). accessed_by e) asks)
          (load-stopped _ _ at row.answer reason (seen middle) (seen new.memory) same (not-refused _ row.answer reason (seen middle) (seen new.memory) _ fault same row.loaded.0))
      stops-access (effect.LoadByte d at) asks row =
          let same = after-same row.answer reason row.ends in
          accessing middle word at instruction fetched is (ap (λ (e : Effect). accessed_by e) asks)
          (load-stopped _ _ at row.answer reason (seen middle) (seen new.memory) same (not-refused _ row.answer reason (seen middle) (seen new.memory) _ fault same row.loaded.0))
      stops-access (effect.StoreWord at value) asks row =
          let same = after-same row.answer reason row.ends in
          accessing middle word at instruction fetched is (ap (λ (e : Effect). accessed_by e) asks)
          (store-stopped _ _ _ at row.answer reason (seen middle) (seen new.memory) same (not-refused _ row.answer reason (seen middle) (seen new.memory) _ fault same row.stored.0))
      stops-access (effect.StoreByte at byte) asks row =
          let same = after-same row.answer reason row.ends in
          accessing middle word at instruction fetched is (ap (λ (e : Effect). accessed_by e) asks)
          (store-stopped _ _ _ at row.answer reason (seen middle) (seen new.memory) same (not-refused _ row.answer reason (seen middle) (seen new.memory) _ fault same row.stored.0))
      stops-access effect.DivideByZero asks row = absurd (no-fault why.Divide row.ends)
      stops-access (effect.Secure f) asks row =
          absurd (never-secure (secure_end (secure_of f) old.core) reason (λ none. let e : Some (secure_of f) ≡ None = sym (secure-of (secure_of f) old.core) ∙ none in cc) row.ends)
      stops-access effect.Proceed asks row = let e : end.Stopped reason ≡ end.Next = row.ends in cc
      stops-access (effect.Write d value) asks row = let e : end.Stopped reason ≡ end.Next = row.ends in cc
      stops-access (effect.Compare flag) asks row = let e : end.Stopped reason ≡ end.Next = row.ends in cc
      stops-access (effect.Jump target) asks row = let e : end.Stopped reason ≡ end.Next = row.ends in cc
      stops-access (effect.Link target) asks row = let e : end.Stopped reason ≡ end.Next = row.ends in cc

    stops-executed : (middle : M) (word : ℕ) → calls.fetch old.memory old.core.pc (Ok word) middle → (found : Option Instr) → instruction_in word ≡ found
        → Executes calls found (record old { memory = middle }) (end.Stopped reason) new → StopsAt old reason new.memory
    stops-executed middle word fetched None is row = absurd (no-fault why.Illegal row.ends)
    stops-executed middle word fetched (Some instruction) is row = stops-access middle word instruction fetched is (effect_of instruction old.core) refl row

    stops-fetched : (middle : M) (answer : Result ℕ Stop) → calls.fetch old.memory old.core.pc answer middle
        → GoesOnAfter calls answer (record old { memory = middle }) (end.Stopped reason) new → StopsAt old reason new.memory
    stops-fetched middle (Ok word) fetched row = stops-executed middle word fetched (instruction_in word) refl row
    stops-fetched middle (Err other) fetched row =
        let same = fails-same ℕ other reason (stopped-same reason other row.ends) in
        let fetches : FetchesWord old.core.pc (Err other) (seen old.memory) (seen middle) =
        not-refused (word_refusal (seen old.memory).layout (seen old.memory).mode Fetch old.core.pc) (Err other) reason (seen old.memory) (seen middle)
        (FetchesWord old.core.pc (Err other) (seen old.memory) (seen middle)) fault same fetched.0 in
        let P : M → Type 0 = λ m. IsStopped old.core.pc reason (pinning [] (seen old.memory)) (pinning [] (seen m)) in
        fetching (subst P (sym row.memory) (load-stopped (λ payload. word_at payload old.core.pc) (λ n. n) old.core.pc (Err other) reason (pinning [] (seen old.memory)) (pinning [] (seen middle)) same fetches.loads))

    stops-at : Steps calls old (end.Stopped reason) new → StopsAt old reason new.memory
    stops-at step = stops-fetched step.middle step.answer step.fetched step.goes_on

  -- ---- by the log

  module _ (program : LoadedProgram) (old new : Machine M) (tie : IsTied sight program old) where
    abbrev V : Veil
    V = sight.veil old.memory

    abbrev older : History
    older = history (sight.trace old.memory)

    log-read : (at event : ℕ) (first last : SecureSight L) (reason : Stop) → reason ≡ stop.Log event → IsStoppedBy at first last reason
        → (LOG_START ≤ at) × LogFetches first.log.blocks (log_block_at at) (Err (record { event = event })) first.trace last.trace first.log.lines last.log.lines
    log-read at event first last _ is (IsStoppedBy.tree other below stops first_reads) = let e : stop.Tree other ≡ stop.Log event = is in cc
    log-read at event first last _ is (IsStoppedBy.log other above fetches) =
        let number : other ≡ event = (let e : stop.Log other ≡ stop.Log event = is in cc) in
        let P : ℕ → Type 0 = λ n. LogFetches first.log.blocks (log_block_at at) (Err (record { event = n })) first.trace last.trace first.log.lines last.log.lines in
        (above, subst P number fetches)

    -- the step that is under way reaches the address, after these events
    reached : (at : ℕ) (events before : List Event) → before ≡ sight.trace old.memory ++ events → list_any is_retire events ≡ false
        → (at ≡ fetched_at (reading V program events tie.state)) ⊎ (accessed_at (reading V program events tie.state) ≡ Some at) → IsReachedInStep V program at (history before)
    reached at events before same goes reaches = record {
      state = reading V program events tie.state;
      goes = ap (λ (h : History). bus_machine V program h) (history-append before (sight.trace old.memory) events same) ∙ (goes-over V program older tie.state events tie.stands goes).taken;
      reaches = reaches;
    }

    future-read : (at event : ℕ) (first last : SecureSight L) → LOG_START ≤ at
        → (fetches : LogFetches first.log.blocks (log_block_at at) (Err (record { event = event })) first.trace last.trace first.log.lines last.log.lines)
        → IsReachedInStep V program at (history fetches.middle) → IsFutureAbort V program event last.trace
    future-read at event first last above fetches reaches = record {
      future = record {
        before = fetches.middle;
        n = log_block_at at;
        block = fetches.read;
        last = fetches.event;
        number = fetches.number;
        above = fetches.above.0 refl;
      };
      in_step = accessed at reaches above refl;
    }

    -- the word at the program counter is the one that was fetched
    asks-at : (at word : ℕ) (instruction : Instr) (events : List Event) → blocks_taken (sight.layout old.memory) V events tie.state.memory old.core.pc ≡ word
        → instruction_in word ≡ Some instruction → accessed_by (effect_of instruction old.core) ≡ Some at → accessed_at (reading V program events tie.state) ≡ Some at
    asks-at at word instruction events there is asks =
        ap (λ (l : Layout). accessed_in tie.state.core (blocks_taken l V events tie.state.memory tie.state.core.pc)) (sym tie.layout)
        ∙ ap (λ (c : Processor). accessed_in c (blocks_taken (sight.layout old.memory) V events tie.state.memory c.pc)) tie.core
        ∙ ap (λ (w : ℕ). accessed_in old.core w) there
        ∙ ap (λ (found : Option Instr). option_and_then accessed_by (option_map (λ i. effect_of i old.core) found)) is
        ∙ asks
      where
        accessed_in : Processor → ℕ → Option ℕ
        accessed_in core word = option_and_then accessed_by (option_map (λ i. effect_of i core) (instruction_in word))

    pub log-abort : (event : ℕ) → Steps calls old (end.Stopped (stop.Log event)) new → IsFutureAbort V program event (sight.trace new.memory)
    log-abort event step = by (stops-at old (stop.Log event) tt new step)
      where
        by : StopsAt old (stop.Log event) new.memory → IsFutureAbort V program event (sight.trace new.memory)
        by (fetching stopped) =
            let fetches = log-read old.core.pc event (pinning [] (seen old.memory)) (pinning [] (seen new.memory)) (stop.Log event) refl stopped.by in
            let room = room-front _ _ fetches.1.middle _ _ fetches.1.makes in
            future-read old.core.pc event (pinning [] (seen old.memory)) (pinning [] (seen new.memory)) fetches.0 fetches.1
            (reached old.core.pc room.front fetches.1.middle room.appended room.goes (inl (ap (λ (c : Processor). c.pc) (sym tie.core))))
        by (accessing middle word at instruction fetched is accesses stopped) =
            let fetch = fetched-word old.core.pc word old.memory middle tie.secure fetched in
            let fetches = log-read at event (seen middle) (seen new.memory) (stop.Log event) refl stopped.by in
            let room = room-front _ _ fetches.1.middle _ _ fetches.1.makes in
            let events : List Event = fetch.0 ++ room.front in
            let appended : fetches.1.middle ≡ sight.trace old.memory ++ events =
            room.appended ∙ ap (λ (t : List Event). t ++ room.front) fetch.1.makes.trace ∙ append_assoc (sight.trace old.memory) fetch.0 room.front in
            let there : blocks_taken (sight.layout old.memory) V events tie.state.memory old.core.pc ≡ word =
            ap (λ (m : ℕ → ℕ). m old.core.pc)
            (taken-append (sight.layout old.memory) V fetch.0 room.front tie.state.memory ∙ room.taken (sight.layout old.memory) V (blocks_taken (sight.layout old.memory) V fetch.0 tie.state.memory))
            ∙ fetch.2 (blocks_taken (sight.layout old.memory) V fetch.0 tie.state.memory) (fetch.1.agrees tie.state.memory tie.agrees) in
            let goes : list_any is_retire events ≡ false = both-go-on fetch.0 room.front (calm-goes fetch.0 (calm-accesses fetch.0 (blocks-access fetch.0 fetch.1.blocks))) room.goes in
            future-read at event (seen middle) (seen new.memory) fetches.0 fetches.1 (reached at events fetches.1.middle appended goes (inr (asks-at at word instruction events there is accesses)))

  -- ---- by the tree

  module _ (program : LoadedProgram) (old new : Machine M) (tie : IsTied sight program old) (expected : ReadsExpected program.layout (history (sight.trace old.memory))) where
    entered : enter_events program.layout ≤ length (sight.trace old.memory)
    entered =
        let e : length (in_order (history (sight.trace old.memory))) ≡ length (sight.trace old.memory) = ap (λ (t : List Event). length t) (in_order-history (sight.trace old.memory)) in
        omega (arith, e, tie.stands.entered)

    -- the step that is under way reaches the address, after these events of one that the lines of this memory agree with
    abbrev GoesIn : ℕ → SecureSight L → Type 0
    GoesIn at first = (events before : List Event) → before ≡ first.trace ++ events → list_any is_retire events ≡ false
        → ((memory : ℕ → ℕ) → Agrees first memory → Agrees first (blocks_taken first.layout (veil_of first) events memory))
        → IsReachedInStep (sight.veil old.memory) program at (history before)

    -- from a memory of this layout, with more events
    by-tree : (at event : ℕ) (first last : SecureSight L) → first.layout ≡ program.layout → length (sight.trace old.memory) ≤ length first.trace → ReadsExpected program.layout (history first.trace) → GoesIn at first
        → (reason : Stop) → reason ≡ stop.Tree event → IsStoppedBy at first last reason → IsTreeAbort (sight.veil old.memory) program event last.trace
    by-tree at event first last same long reads goes_in _ is (IsStoppedBy.log other above fetches) = let e : stop.Log other ≡ stop.Tree event = is in cc
    by-tree at event first last same long reads goes_in _ is (IsStoppedBy.tree other below stops reads_first) =
        let number : other ≡ event = (let e : stop.Tree other ≡ stop.Tree event = is in cc) in
        let moves = stops.moved.moves in
        let before : List Event = stops.middle.trace in
        let grown : length before ≡ length first.trace + length moves.events = ap (λ (t : List Event). length t) moves.appended ∙ length-append first.trace moves.events in
        let layout_is : Digests → Type 0 = λ d. expected_digest d stops.n (history before) ≡ Some (d.digest stops.n stops.block) → ⊥ in
        let kept = kept-expected (tree_scheme first) stops.middle stops.n stops.kept stops.moved.stands stops.inside stops.is_kept in
        let differs : layout_is (tree_scheme first).digests = λ same_digest. stops.differs (some-digest _ _ (sym same_digest ∙ kept)) in
        let of_layout : layout_is (digests_of first.layout) = subst layout_is (scheme-digests first.layout (veil_of first)) differs in
        record {
          n = stops.n;
          read = record {
            before = before;
            block = stops.block;
            last = stops.read;
            number = sym number ∙ stops.number;
            entered = omega (arith, entered, long, grown);
            unexpected = subst (λ (l : Layout). layout_is (digests_of l)) same of_layout;
          };
          on_path = record {
            at = at;
            reached = goes_in moves.events before moves.appended (part-goes at other first last stops reads_first) (part-agrees at other first last stops reads_first);
            below = below;
            on_path = subst (λ (l : Layout). Contains (path_of l (data_block_at at)) stops.n) same (stop-on-path at other first last stops reads_first);
          };
          expected = tree-keeps program.layout first _ stops.middle _ same moves reads;
        }
      where
        some-digest : (one other : List ℕ) → Some one ≡ Some other → one ≡ other
        some-digest one other is = cc

    pub tree-abort : (event : ℕ) → Steps calls old (end.Stopped (stop.Tree event)) new → IsTreeAbort (sight.veil old.memory) program event (sight.trace new.memory)
    tree-abort event step = by (stops-at old (stop.Tree event) tt new step)
      where
        by : StopsAt old (stop.Tree event) new.memory → IsTreeAbort (sight.veil old.memory) program event (sight.trace new.memory)
        by (fetching stopped) =
            by-tree old.core.pc event (pinning [] (seen old.memory)) (pinning [] (seen new.memory)) tie.layout (omega arith) expected
            (λ events before same goes agrees. reached program old new tie old.core.pc events before same goes (inl (ap (λ (c : Processor). c.pc) (sym tie.core))))
            (stop.Tree event) refl stopped.by
        by (accessing middle word at instruction fetched is accesses stopped) =
            let fetch = fetched-word old.core.pc word old.memory middle tie.secure fetched in
            let grown : length (sight.trace middle) ≡ length (sight.trace old.memory) + length fetch.0 =
            ap (λ (t : List Event). length t) fetch.1.makes.trace ∙ length-append (sight.trace old.memory) fetch.0 in
            by-tree at event (seen middle) (seen new.memory) (fetch.1.makes.layout ∙ tie.layout) (omega (arith, grown))
            (fetches-keep program.layout old.core.pc (Ok word) (seen old.memory) (seen middle) tie.layout (λ e is. never-fails word (stop.Tree e) is) fetched.0 expected)
            (λ events before same goes agrees.
            let all : List Event = fetch.0 ++ events in
            let appended : before ≡ sight.trace old.memory ++ all =
            same ∙ ap (λ (t : List Event). t ++ events) fetch.1.makes.trace ∙ append_assoc (sight.trace old.memory) fetch.0 events in
            let taken : ℕ → ℕ = blocks_taken (sight.layout old.memory) (sight.veil old.memory) fetch.0 tie.state.memory in
            let agreed : Agrees (seen middle) (blocks_taken (sight.layout old.memory) (sight.veil old.memory) events taken) =
            subst (λ (l : Layout). Agrees (seen middle) (blocks_taken l (sight.veil old.memory) events taken)) fetch.1.makes.layout
            (subst (λ (v : Veil). Agrees (seen middle) (blocks_taken (sight.layout middle) v events taken)) fetch.1.makes.veil
            (agrees taken (fetch.1.agrees tie.state.memory tie.agrees))) in
            let there : blocks_taken (sight.layout old.memory) (sight.veil old.memory) all tie.state.memory old.core.pc ≡ word =
            ap (λ (m : ℕ → ℕ). m old.core.pc) (taken-append (sight.layout old.memory) (sight.veil old.memory) fetch.0 events tie.state.memory)
            ∙ fetch.2 (blocks_taken (sight.layout old.memory) (sight.veil old.memory) events taken) agreed in
            reached program old new tie at all before appended (both-go-on fetch.0 events (calm-goes fetch.0 (calm-accesses fetch.0 (blocks-access fetch.0 fetch.1.blocks))) goes)
            (inr (asks-at program old new tie at word instruction all there is accesses)))
            (stop.Tree event) refl stopped.by
