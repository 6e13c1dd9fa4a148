-- Device: the accesses of a secure memory keep to the form of a bus.
use Rattle.std.proofs.Common.{◌≡◌, ℕ, ◌+◌, ◌-◌, ◌*◌, ◌/◌, ◌%◌, ◌<◌, ◌≤◌, Bool, true, false, Option, Some, None, Result, Ok, Err, List, [], ◌∷◌, ◌++◌, refl, sym, ap, ◌∙◌, subst, append-nil, arith, inl, inr}
use Rattle.std.specs.Prelude.{IsTrue, ◌&&◌, if◌then◌else◌, is_some, nat_le, nat_lt}
use Rattle.std.specs.List.{All, list_all}
use Rattle.std.proofs.lemmas.Bool.{and_from, cases_Bool}
use Rattle.std.proofs.lemmas.Bool.Decides.{nat_tests}
use Rattle.std.proofs.lemmas.List.Elements.{All-head, All-tail}
use Rattle.aegis_num.specs.declared.storage.Place.TheVariants.{Log, Tree}
use Rattle.regions.specs.declared.addresses.TheConstants.{OPEN_END}
use Rattle.regions.specs.declared.layout.Layout.{Layout}
use Rattle.regions.specs.declared.rights.Access.TheVariants.{Fetch, Read, Write}
use Rattle.regions.specs.declared.rights.Mode.{Mode}
use Rattle.regions.specs.Addresses.{block_start, offset_at}
use Rattle.regions.specs.Blocks.{data_blocks}
use Rattle.regions.specs.LooseClasses.{shared_loose}
use Rattle.regions.specs.Modes.{is_secure}
use Rattle.off_chip.specs.declared.event.Event.{Event}
use Rattle.off_chip.specs.declared.event.Event.TheVariants.{BlockRead, BlockWrite, Note, WordRead, WordWrite}
use Rattle.off_chip.specs.declared.event.Mark.TheVariants as mark
use Rattle.off_chip.specs.declared.event.Who.TheVariants.{Secure}
use Rattle.orbis_core.specs.declared.memory.Stop.{Stop}
use Rattle.orbis_core.specs.declared.memory.Stop.TheVariants as stop
use Rattle.orbis_core.specs.declared.memory.Why.{Why}
use Rattle.orbis_core.specs.declared.memory.Why.TheVariants.{Rights}
use Rattle.orbis_core.specs.Accesses.{IsSettled, LeaveOneFewer}
use Rattle.orbis_core.specs.ByteOrder.{byte_in, with_block, with_byte, word_start}
use Rattle.orbis_core.specs.Ideal.{is_among}
use Rattle.orbis_core.specs.Refusals.{byte_refusal, word_refusal}
use Rattle.hash_tree.specs.HashTrees.{nodes_of}
use Rattle.hash_tree.specs.TreeParts.{TreeParts}
use Rattle.secure_memory.specs.PrivatePads.{Padding, hidden_payload}
use Rattle.secure_memory.specs.BlockWords.{IsPlaced, after_read, after_reads, is_memory_block, place_at, start_at, word_at}
use Rattle.secure_memory.specs.AccessesLeft.{Leaves, fetches-leave, loads-leave, stores-leave}
use Rattle.secure_memory.specs.MemorySights.{Agrees, HasLeft, IsReady, Sight as SecureSight, line_in, veil_of}
use Rattle.secure_memory.specs.MemoryAccesses.{Acts, FetchesWord, IsStopped, Loads, LoadsBlock, LoadsOpen, Stores, StoresBlock, StoresOpen, Unless, changed, is_block_move, pinning, secure_accesses}
use Rattle.secure_memory.proofs.AccessLemmas.{LiesAt, lies-at}
use Rattle.secure_memory.proofs.IdealLemmas.{among-closed, among-open, byte-placed, either, refused-open, word-parts}
use Rattle.bus_machine.specs.BusAccesses.{ByClass, Exchanges, Fails, Makes, MeetsBus, Moves, PutsInBlock, ReadsBlock, ReadsOpen, UnlessRefused, is_block_event}
use Rattle.bus_machine.specs.BusMachine.{Veil, blocks_taken, is_data, memory_after}
use Rattle.aegis_machine.specs.SecureSights.{bus_sight}

-- ---- the two say the same of blocks that are read

same-data : (layout : Layout) (n : ℕ) → is_memory_block layout (Tree n) ≡ is_data layout n
same-data layout n =
    elim (cases_Bool (nat_le (nodes_of layout) n)) [
      | inr below ↦
          ap (λ (b : Bool). b && nat_lt n (nodes_of layout + data_blocks layout)) below
          ∙ sym (ap (λ (b : Bool). b && nat_lt (n - nodes_of layout) (data_blocks layout)) below)
      | inl from ↦
          let least : nodes_of layout ≤ n = grind (arith, nat_tests, from) in
          ap (λ (b : Bool). nat_le (nodes_of layout) n && b) (same-test (nodes_of layout) (data_blocks layout) n least)
    ]
  where
    same-test : (nodes blocks n : ℕ) → nodes ≤ n → nat_lt n (nodes + blocks) ≡ nat_lt (n - nodes) blocks
    same-test nodes blocks n least =
        elim (cases_Bool (nat_lt (n - nodes) blocks)) [
          | inl is ↦ let less : n - nodes < blocks = grind (arith, nat_tests, is) in
              let e : nat_lt n (nodes + blocks) ≡ true = grind (arith, nat_tests, less, least) in e ∙ sym is
          | inr not ↦ let more : blocks ≤ n - nodes = grind (arith, nat_tests, not) in
              let e : nat_lt n (nodes + blocks) ≡ false = grind (arith, nat_tests, more, least) in e ∙ sym not
        ]

same-after : (layout : Layout) (veil : Veil) (event : Event) (memory : ℕ → ℕ) → after_read layout veil event memory ≡ memory_after layout veil event memory
same-after layout veil (BlockRead (Tree n) block) memory =
    ap (λ (b : Bool). if b then with_block memory (block_start (n - nodes_of layout)) (veil n block.stamp block.payload) else memory) (same-data layout n)
same-after layout veil (BlockRead (Log n) block) memory = refl
same-after layout veil (BlockWrite at block) memory = refl
same-after layout veil (WordRead by at word) memory = refl
same-after layout veil (WordWrite by at word) memory = refl
same-after layout veil (Note mark) memory = refl

pub same-reads : (layout : Layout) (veil : Veil) (events : List Event) (memory : ℕ → ℕ) → after_reads layout veil events memory ≡ blocks_taken layout veil events memory
same-reads layout veil [] memory = refl
same-reads layout veil (event ∷ events) memory =
    same-reads layout veil events (after_read layout veil event memory) ∙ ap (λ (m : ℕ → ℕ). blocks_taken layout veil events m) (same-after layout veil event memory)

move-block : (event : Event) → IsTrue (is_block_move event) → is_block_event event ≡ true
move-block (BlockRead at block) is = refl
move-block (BlockWrite at block) is = refl
move-block (WordRead by at word) is = cc
move-block (WordWrite by at word) is = cc
move-block (Note (mark.Drop at)) is = refl
move-block (Note mark.Enter) is = cc
move-block (Note (mark.Retire by)) is = cc
move-block (Note mark.CheckStart) is = cc
move-block (Note mark.CheckPassed) is = cc
move-block (Note (mark.Sent count)) is = cc
move-block (Note mark.Suspend) is = cc
move-block (Note mark.Resume) is = cc

pub moved-blocks : (events : List Event) → All (λ event. IsTrue (is_block_move event)) events → list_all is_block_event events ≡ true
moved-blocks [] moves = refl
moved-blocks (event ∷ events) moves =
    and_from (is_block_event event) (list_all is_block_event events) (move-block event (All-head (λ event. IsTrue (is_block_move event)) event events moves))
    (moved-blocks events (All-tail (λ event. IsTrue (is_block_move event)) event events moves))

-- ---- classes

by-open : (layout : Layout) (at : ℕ) (P Q : Type 0) → at < OPEN_END → P → ByClass (is_among shared_loose layout at) P Q
by-open layout at P Q below holds = subst (λ (b : Bool). ByClass b P Q) (sym (among-open layout at below)) holds

by-closed : (layout : Layout) (at : ℕ) (P Q : Type 0) → OPEN_END ≤ at → Q → ByClass (is_among shared_loose layout at) P Q
by-closed layout at P Q above holds = subst (λ (b : Bool). ByClass b P Q) (sym (among-closed layout at above)) holds

-- ---- what an access keeps of the form

module _ {L M : Type 0} (seen : M → SecureSight L) where
  makes-of : (change : (ℕ → ℕ) → ℕ → ℕ) (events : List Event) (old new : M) → Acts change events (seen old) (seen new) → Makes (bus_sight seen) events old new
  makes-of change events old new acts = record {
    trace = acts.appended;
    layout = acts.parts.layout;
    veil = ap (λ (p : Padding). hidden_payload p) acts.parts.veil;
    mode = acts.parts.mode;
  }

  taken-agrees : (change : (ℕ → ℕ) → ℕ → ℕ) (events : List Event) (old new : M) → Acts change events (seen old) (seen new) → (memory : ℕ → ℕ) → Agrees (seen old) memory
      → Agrees (seen new) (change (blocks_taken (seen old).layout (veil_of (seen old)) events memory))
  taken-agrees change events old new acts memory agrees =
      subst (λ (m : ℕ → ℕ). Agrees (seen new) (change m)) (same-reads (seen old).layout (veil_of (seen old)) events memory) (acts.agrees memory agrees)

  taken-unheld : (change : (ℕ → ℕ) → ℕ → ℕ) (events : List Event) (old new : M) → Acts change events (seen old) (seen new) → (memory : ℕ → ℕ) → Agrees (seen old) memory
      → Agrees (seen old) (blocks_taken (seen old).layout (veil_of (seen old)) events memory)
  taken-unheld change events old new acts memory agrees = record {
    line = λ place payload is line k less.
        ap (λ (m : ℕ → ℕ). m (start_at (seen old).layout place + 4 * k)) (sym (same-reads (seen old).layout (veil_of (seen old)) events memory))
        ∙ acts.unread memory place k is (ap (λ (o : Option (List ℕ)). is_some o) line) less
        ∙ agrees.line place payload is line k less;
  }

  moves-of : (change : (ℕ → ℕ) → ℕ → ℕ) (events : List Event) (old new : M) → Acts change events (seen old) (seen new) → All (λ event. IsTrue (is_block_move event)) events
      → Moves (bus_sight seen) change old new events
  moves-of change events old new acts moves = record {
    makes = makes-of change events old new acts;
    blocks = moved-blocks events moves;
    unheld = taken-unheld change events old new acts;
    agrees = taken-agrees change events old new acts;
  }

  -- where no block is read
  exchanges-of : (events : List Event) (old new : M) → Acts (λ memory. memory) events (seen old) (seen new)
      → ((memory : ℕ → ℕ) → blocks_taken (seen old).layout (veil_of (seen old)) events memory ≡ memory) → Exchanges (bus_sight seen) events old new
  exchanges-of events old new acts none = record {
    makes = makes-of (λ memory. memory) events old new acts;
    agrees = λ memory agrees. subst (λ (m : ℕ → ℕ). Agrees (seen new) m) (none memory) (taken-agrees (λ memory. memory) events old new acts memory agrees);
  }

  refused-of : {T : Type 0} (why : Why) (answer : Result T Stop) (old new : M) → (answer ≡ Err (stop.Refused why)) × (seen new ≡ seen old)
      → (answer ≡ Err (stop.Refused why)) × Exchanges (bus_sight seen) [] old new
  refused-of why answer old new does = (
    does.0,
    record {
      makes = record {
        trace = ap (λ (s : SecureSight L). s.trace) does.1 ∙ sym (append-nil (seen old).trace);
        layout = ap (λ (s : SecureSight L). s.layout) does.1;
        veil = ap (λ (s : SecureSight L). veil_of s) does.1;
        mode = ap (λ (s : SecureSight L). s.mode) does.1;
      };
      agrees = λ memory agrees. subst (λ (s : SecureSight L). Agrees s memory) (sym does.1) agrees;
    },
  )

  -- the access was stopped
  stopped-makes : (at : ℕ) (reason : Stop) (old new : M) → (one other : SecureSight L) → IsStopped at reason one other
      → one.trace ≡ (seen old).trace → other.trace ≡ (seen new).trace → one.layout ≡ (seen old).layout → other.layout ≡ (seen new).layout
      → one.tree ≡ (seen old).tree → other.tree ≡ (seen new).tree → one.mode ≡ (seen old).mode → other.mode ≡ (seen new).mode
      → (events : List Event) × Makes (bus_sight seen) events old new × (list_all is_block_event events ≡ true)
  stopped-makes at reason old new one other stopped trace_old trace_new layout_old layout_new tree_old tree_new mode_old mode_new = (
    stopped.events,
    record {
      trace = sym trace_new ∙ stopped.appended ∙ ap (λ (t : List Event). t ++ stopped.events) trace_old;
      layout = sym layout_new ∙ stopped.parts.layout ∙ layout_old;
      veil = ap (λ (t : TreeParts L Padding). hidden_payload t.veil) (sym tree_new)
          ∙ ap (λ (p : Padding). hidden_payload p) stopped.parts.veil ∙ ap (λ (t : TreeParts L Padding). hidden_payload t.veil) tree_old;
      mode = sym mode_new ∙ stopped.parts.mode ∙ mode_old;
    },
    moved-blocks stopped.events stopped.moves,
  )

  stopped-fails : (T : Type 0) (at : ℕ) (reason : Stop) (old new : M) → IsStopped at reason (seen old) (seen new) → Fails {T = T} (bus_sight seen) (Err reason) old new
  stopped-fails T at (stop.Refused why) old new stopped = elim stopped.by [ ]
  stopped-fails T at (stop.Tree event) old new stopped = stopped-makes at (stop.Tree event) old new (seen old) (seen new) stopped refl refl refl refl refl refl refl refl
  stopped-fails T at (stop.Log event) old new stopped = stopped-makes at (stop.Log event) old new (seen old) (seen new) stopped refl refl refl refl refl refl refl refl

  -- ---- loads

  block-value : (at : ℕ) (old new : M) (payload : List ℕ) → IsPlaced (seen old).layout at → OPEN_END ≤ at → (seen new).layout ≡ (seen old).layout
      → line_in (seen new) (place_at (seen old).layout at) ≡ Some payload → (memory : ℕ → ℕ) → Agrees (seen new) memory → memory (word_start at) ≡ word_at payload at
  block-value at old new payload placed above same line memory agrees =
      let lies : LiesAt (seen old).layout at = lies-at (seen old).layout at placed above in
      let is : IsTrue (is_memory_block (seen new).layout (place_at (seen old).layout at)) =
      subst (λ (l : Layout). IsTrue (is_memory_block l (place_at (seen old).layout at))) (sym same) lies.is in
      let words = agrees.line (place_at (seen old).layout at) payload is line in
      ap (λ n. memory n) lies.word
      ∙ ap (λ (l : Layout). memory (start_at l (place_at (seen old).layout at) + 4 * (offset_at at / 4))) (sym same) ∙ words (offset_at at / 4) lies.less

  loads-block : (of : ℕ → ℕ) (at word : ℕ) (old new : M) → IsPlaced (seen old).layout at → OPEN_END ≤ at
      → LoadsBlock (λ payload. of (word_at payload at)) at word (seen old) (seen new) → ReadsBlock (bus_sight seen) (λ memory. of (memory (word_start at))) (Ok word) old new
  loads-block of at word old new placed above loads = (
    loads.reaches.events,
    moves-of (λ memory. memory) loads.reaches.events old new loads.reaches.acts loads.reaches.moves,
    λ memory agrees. ap (λ n. of n) (block-value at old new loads.reaches.payload placed above loads.reaches.acts.parts.layout loads.reaches.line memory agrees) ∙ sym loads.answer,
  )

  loads-meet : (refusal : Option Why) (of : ℕ → ℕ) (at : ℕ) (answer : Result ℕ Stop) (old new : M) → (refusal ≡ None → IsPlaced (seen old).layout at)
      → Unless refusal answer (seen old) (seen new) (Loads (λ payload. of (word_at payload at)) of at answer (seen old) (seen new))
      → UnlessRefused (bus_sight seen) refusal answer old new
      (ByClass (is_among shared_loose (seen old).layout at) (ReadsOpen (bus_sight seen) (word_start at) of answer old new)
      (ReadsBlock (bus_sight seen) (λ memory. of (memory (word_start at))) answer old new))
  loads-meet (Some why) of at answer old new placed does = refused-of why answer old new does
  loads-meet None of at (Err reason) old new placed does =
      by-closed (seen old).layout at (ReadsOpen (bus_sight seen) (word_start at) of (Err reason) old new)
      (ReadsBlock (bus_sight seen) (λ memory. of (memory (word_start at))) (Err reason) old new) does.closed (stopped-fails ℕ at reason old new does)
  loads-meet None of at (Ok word) old new placed does =
      either (LoadsOpen of at word (seen old) (seen new)) (LoadsBlock (λ payload. of (word_at payload at)) at word (seen old) (seen new))
      (ByClass (is_among shared_loose (seen old).layout at) (ReadsOpen (bus_sight seen) (word_start at) of (Ok word) old new)
      (ReadsBlock (bus_sight seen) (λ memory. of (memory (word_start at))) (Ok word) old new)) at
      (λ (below : at < OPEN_END) (loads : LoadsOpen of at word (seen old) (seen new)).
      by-open (seen old).layout at (ReadsOpen (bus_sight seen) (word_start at) of (Ok word) old new) (ReadsBlock (bus_sight seen) (λ memory. of (memory (word_start at))) (Ok word) old new) below
      (loads.read, ap (λ (n : ℕ). Ok n) loads.answer, exchanges-of (WordRead Secure (word_start at) loads.read ∷ []) old new loads.acts (λ memory. refl)))
      (λ (above : OPEN_END ≤ at) (loads : LoadsBlock (λ payload. of (word_at payload at)) at word (seen old) (seen new)).
      by-closed (seen old).layout at (ReadsOpen (bus_sight seen) (word_start at) of (Ok word) old new) (ReadsBlock (bus_sight seen) (λ memory. of (memory (word_start at))) (Ok word) old new) above
      (loads-block of at word old new (placed refl) above loads)) does

  words-meet : (refusal : Option Why) (at : ℕ) (answer : Result ℕ Stop) (old new : M) → (refusal ≡ None → IsPlaced (seen old).layout at × (at % 4 ≡ 0))
      → Unless refusal answer (seen old) (seen new) (Loads (λ payload. word_at payload at) (λ word. word) at answer (seen old) (seen new))
      → UnlessRefused (bus_sight seen) refusal answer old new
      (ByClass (is_among shared_loose (seen old).layout at) (ReadsOpen (bus_sight seen) at (λ word. word) answer old new)
      (ReadsBlock (bus_sight seen) (λ memory. memory at) answer old new))
  words-meet (Some why) at answer old new parts does = refused-of why answer old new does
  words-meet None at answer old new parts does =
      let start : word_start at ≡ at = omega (arith, (parts refl).1) in
      subst (λ n. ByClass (is_among shared_loose (seen old).layout at) (ReadsOpen (bus_sight seen) n (λ word. word) answer old new) (ReadsBlock (bus_sight seen) (λ memory. memory n) answer old new))
      start (loads-meet None (λ word. word) at answer old new (λ none. (parts none).0) does)

  -- ---- stores

  stores-meet : (refusal : Option Why) (value : ℕ → ℕ) (left : List ℕ → List ℕ) (events : ℕ → List Event) (opened : Type 0) (at : ℕ) (answer : Result (Unit {0}) Stop) (old new : M)
      → (refusal ≡ None → answer ≡ Ok tt → StoresOpen events (seen old) (seen new) → opened)
      → Unless refusal answer (seen old) (seen new) (Stores value left events at answer (seen old) (seen new))
      → UnlessRefused (bus_sight seen) refusal answer old new
      (ByClass (is_among shared_loose (seen old).layout at) opened (PutsInBlock (bus_sight seen) (changed value at) answer old new))
  stores-meet (Some why) value left events opened at answer old new opens does = refused-of why answer old new does
  stores-meet None value left events opened at (Err reason) old new opens does =
      by-closed (seen old).layout at opened (PutsInBlock (bus_sight seen) (changed value at) (Err reason) old new) does.closed (stopped-fails (Unit {0}) at reason old new does)
  stores-meet None value left events opened at (Ok done) old new opens does =
      either (StoresOpen events (seen old) (seen new)) (StoresBlock value left at (seen old) (seen new))
      (ByClass (is_among shared_loose (seen old).layout at) opened (PutsInBlock (bus_sight seen) (changed value at) (Ok done) old new)) at
      (λ (below : at < OPEN_END) (stores : StoresOpen events (seen old) (seen new)).
      by-open (seen old).layout at opened (PutsInBlock (bus_sight seen) (changed value at) (Ok done) old new) below (opens refl refl stores))
      (λ (above : OPEN_END ≤ at) (stores : StoresBlock value left at (seen old) (seen new)).
      by-closed (seen old).layout at opened (PutsInBlock (bus_sight seen) (changed value at) (Ok done) old new) above
      (stores.reaches.events, moves-of (changed value at) stores.reaches.events old new stores.acts stores.reaches.moves)) does

  -- ---- fetches

  fetched-acts : (events : List Event) (old new : M) → Acts (λ memory. memory) events (pinning [] (seen old)) (pinning [] (seen new)) → All (λ event. IsTrue (is_block_move event)) events
      → Moves (bus_sight seen) (λ memory. memory) old new events
  fetched-acts events old new acts moves = record {
    makes = record { trace = acts.appended; layout = acts.parts.layout; veil = ap (λ (p : Padding). hidden_payload p) acts.parts.veil; mode = acts.parts.mode };
    blocks = moved-blocks events moves;
    unheld = λ memory agrees. record {
      line = λ place payload is line k less.
          ap (λ (m : ℕ → ℕ). m (start_at (seen old).layout place + 4 * k)) (sym (same-reads (seen old).layout (veil_of (seen old)) events memory))
          ∙ acts.unread memory place k is (ap (λ (o : Option (List ℕ)). is_some o) line) less
          ∙ agrees.line place payload is line k less;
    };
    agrees = λ memory agrees.
        let there = acts.agrees memory (record { line = agrees.line }) in
        subst (λ (m : ℕ → ℕ). Agrees (seen new) m) (same-reads (seen old).layout (veil_of (seen old)) events memory) (record { line = there.line });
  }

  fetch-fails : (at : ℕ) (reason : Stop) (old new : M) → IsStopped at reason (pinning [] (seen old)) (pinning [] (seen new)) → Fails {T = ℕ} (bus_sight seen) (Err reason) old new
  fetch-fails at (stop.Refused why) old new stopped = elim stopped.by [ ]
  fetch-fails at (stop.Tree event) old new stopped =
      stopped-makes at (stop.Tree event) old new (pinning [] (seen old)) (pinning [] (seen new)) stopped refl refl refl refl refl refl refl refl
  fetch-fails at (stop.Log event) old new stopped =
      stopped-makes at (stop.Log event) old new (pinning [] (seen old)) (pinning [] (seen new)) stopped refl refl refl refl refl refl refl refl

  fetches-meet : (refusal : Option Why) (at : ℕ) (answer : Result ℕ Stop) (old new : M) → (refusal ≡ None → IsPlaced (seen old).layout at × (at % 4 ≡ 0) × (OPEN_END ≤ at))
      → Unless refusal answer (seen old) (seen new) (FetchesWord at answer (seen old) (seen new))
      → UnlessRefused (bus_sight seen) refusal answer old new (ReadsBlock (bus_sight seen) (λ memory. memory at) answer old new)
  fetches-meet (Some why) at answer old new parts does = refused-of why answer old new does
  fetches-meet None at (Err reason) old new parts does = fetch-fails at reason old new does.loads
  fetches-meet None at (Ok word) old new parts does =
      let known = parts refl in
      either (LoadsOpen (λ word. word) at word (pinning [] (seen old)) (pinning [] (seen new))) (LoadsBlock (λ payload. word_at payload at) at word (pinning [] (seen old)) (pinning [] (seen new)))
      (ReadsBlock (bus_sight seen) (λ memory. memory at) (Ok word) old new) at
      (λ (below : at < OPEN_END) (loads : LoadsOpen (λ word. word) at word (pinning [] (seen old)) (pinning [] (seen new))). absurd (omega (arith, below, known.2)))
      (λ (above : OPEN_END ≤ at) (loads : LoadsBlock (λ payload. word_at payload at) at word (pinning [] (seen old)) (pinning [] (seen new))).
      let start : word_start at ≡ at = omega (arith, known.1) in (
        loads.reaches.events,
        fetched-acts loads.reaches.events old new loads.reaches.acts loads.reaches.moves,
        λ memory agrees. ap (λ n. memory n) (sym start)
            ∙ block-value at old new loads.reaches.payload known.0 above loads.reaches.acts.parts.layout loads.reaches.line memory agrees ∙ sym loads.answer,
      )) does.loads

  fetch-parts : (layout : Layout) (mode : Mode) (at : ℕ) → IsTrue (is_secure mode) → word_refusal layout mode Fetch at ≡ None → IsPlaced layout at × (at % 4 ≡ 0) × (OPEN_END ≤ at)
  fetch-parts layout mode at secure none =
      let parts = word-parts layout mode Fetch at none in
      let above : OPEN_END ≤ at = elim (cases_Bool (nat_lt at OPEN_END)) [
        | inr closed ↦ grind (arith, nat_tests, closed)
        | inl open' ↦ let e : Some Rights ≡ None = sym (refused-open layout mode at secure (grind (arith, nat_tests, open'))) ∙ none in cc
      ] in (parts.0, parts.1, above)

  -- ---- the form

  pub secure_meets : (Keeps : M → M → Type 0) → MeetsBus (bus_sight seen) (secure_accesses seen Keeps)
  secure_meets Keeps = record {
    fetch = λ old new at answer secure does.
        fetches-meet (word_refusal (seen old).layout (seen old).mode Fetch at) at answer old new (fetch-parts (seen old).layout (seen old).mode at secure) does.0;
    load_word = λ old new at answer secure does.
        words-meet (word_refusal (seen old).layout (seen old).mode Read at) at answer old new (word-parts (seen old).layout (seen old).mode Read at) does.0;
    load_byte = λ old new at answer secure does.
        loads-meet (byte_refusal (seen old).layout (seen old).mode Read at) (λ word. byte_in word at) at answer old new (byte-placed (seen old).layout (seen old).mode Read at) does.0;
    store_word = λ old new at word answer secure does.
        stores-meet (word_refusal (seen old).layout (seen old).mode Write at) (λ before. word) _ _ _ at answer old new
        (λ none is stores. (is, exchanges-of (WordWrite Secure at word ∷ []) old new stores.acts (λ memory. refl))) does.0;
    store_byte = λ old new at byte answer secure does.
        stores-meet (byte_refusal (seen old).layout (seen old).mode Write at) (λ before. with_byte before at byte) _ _ _ at answer old new
        (λ none is stores. (
          stores.read,
          is,
          exchanges-of (WordRead Secure (word_start at) stores.read ∷ WordWrite Secure (word_start at) (with_byte stores.read at byte) ∷ []) old new stores.acts (λ memory. refl),
        )) does.0;
  }

-- ---- what is left after an access that is not stopped

module _ {L M : Type 0} (seen : M → SecureSight L) (Keeps : M → M → Type 0) where
  -- it is ready, and there is room for so many accesses
  abbrev HasRoom : M → ℕ → Type 0
  HasRoom memory n = IsReady (seen memory) × (160 * n ≤ (seen memory).room)

  room-left : (old new : M) (n : ℕ) → Leaves (seen old) (seen new) → HasRoom old (n + 1) → HasRoom new n
  room-left old new n leaves left = (leaves.ready, omega (arith, leaves.room, left.1))

  unless-room : {T : Type 0} (refusal : Option Why) (answer : Result T Stop) (old new : M) (P : Type 0) (n : ℕ) → (P → IsSettled answer → Leaves (seen old) (seen new))
      → Unless refusal answer (seen old) (seen new) P → IsSettled answer → HasRoom old (n + 1) → HasRoom new n
  unless-room None answer old new P n leaves does settled left = room-left old new n (leaves does settled) left
  unless-room (Some why) answer old new P n leaves does settled left =
      subst (λ (s : SecureSight L). IsReady s × (160 * n ≤ s.room)) (sym does.1) (left.0, omega (arith, left.1))

  pub secure_spends : LeaveOneFewer (secure_accesses seen Keeps) HasRoom
  secure_spends = record {
    fetch = λ old new at answer does settled n left. unless-room _ answer old new _ n (fetches-leave at answer (seen old) (seen new)) does.0 settled left;
    load_word = λ old new at answer does settled n left. unless-room _ answer old new _ n (loads-leave _ _ at answer (seen old) (seen new)) does.0 settled left;
    load_byte = λ old new at answer does settled n left. unless-room _ answer old new _ n (loads-leave _ _ at answer (seen old) (seen new)) does.0 settled left;
    store_word = λ old new at word answer does settled n left. unless-room _ answer old new _ n (stores-leave _ _ _ at answer (seen old) (seen new)) does.0 settled left;
    store_byte = λ old new at byte answer does settled n left. unless-room _ answer old new _ n (stores-leave _ _ _ at answer (seen old) (seen new)) does.0 settled left;
  }

pub secure_leaves_room : {L : Type 0} (sight : SecureSight L) (n : ℕ) → IsReady sight → 160 * n ≤ sight.room → HasLeft sight n
secure_leaves_room sight n ready room = λ some. (ready, room)
