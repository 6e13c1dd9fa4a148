-- Which blocks are resident after an access.
use Rattle.std.proofs.Common.{◌≡◌, ℕ, zero, suc, ◌<◌, ◌≤◌, Bool, true, false, cond, List, [], ◌∷◌, ◌++◌, Option, Some, Ok, Err, refl, sym, ap, ◌∙◌, subst, inl, inr, arith}
use Rattle.std.specs.Prelude.{Contains, is_some, nat_lt, slice_index_or}
use Rattle.std.specs.FinMap.{contains_key, get}
use Rattle.std.proofs.lemmas.Bool.{cases_eq}
use Rattle.std.proofs.lemmas.Bool.Decides.{nat_tests}
use Rattle.std.proofs.lemmas.List.Elements.{Contains-append_cases, Contains-append_left}
use Rattle.aegis_num.specs.declared.Place.{Place}
use Rattle.aegis_num.specs.declared.Place.TheVariants.{Tree, Log}
use Rattle.regions.specs.declared.addresses.TheConstants.{LOG_START, OPEN_END}
use Rattle.regions.specs.declared.Access.TheVariants.{Fetch, Read, Write}
use Rattle.regions.specs.declared.Layout.{Layout}
use Rattle.regions.specs.Addresses.{data_block_at, log_block_at}
use Rattle.regions.specs.Tree.{height_of, leaf_of, parent_in}
use Rattle.off_chip.specs.declared.Event.{Event}
use Rattle.off_chip.specs.declared.Event.TheVariants.{BlockRead, WordRead, WordWrite}
use Rattle.off_chip.specs.declared.Who.TheVariants.{Secure}
use Rattle.off_chip.specs.Histories.{History, history}
use Rattle.off_chip.specs.Residency.{is_resident}
use Rattle.line_cache.specs.declared.Line.{Line}
use Rattle.line_cache.specs.LineMaps.{HasParent, Holds, LineMap, with_payload}
use Rattle.line_cache.proofs.MapLemmas.{get-insert_same, get-insert_other}
use Rattle.hash_tree.specs.Paths.{path_in, path_of}
use Rattle.orbis_core.specs.declared.Stop.TheVariants as stop
use Rattle.orbis_core.specs.declared.Why.{Why}
use Rattle.orbis_core.specs.ByteOrder.{byte_in, with_byte, word_start}
use Rattle.orbis_core.specs.Refusals.{byte_refusal, word_refusal}
use Rattle.secure_memory.specs.BlockWords.{IsPlaced, byte_at, place_at, with_byte_at, with_word_at, word_at}
use Rattle.secure_memory.specs.MemorySights.{Sight, line_in, tree_scheme, tree_state}
use Rattle.secure_memory.specs.MemoryAccesses.{FetchesWord, IsPutBy, IsReachedBy, Loads, LoadsBlock, LoadsOpen, Reaches, Stores, StoresBlock, StoresOpen, pinning, pins_after}
use Rattle.secure_memory.proofs.AccessLemmas.{log-place, placed-log, tree-place}
use Rattle.secure_memory.proofs.IdealLemmas.{byte-placed}
use Rattle.secure_memory.proofs.TreeActs.{some-payload}
use Rattle.memory_trace.specs.HeldPaths.{AccessesHoldPaths, AreResident, BlocksResident, HoldsAccessed, HoldsFetched}
use Rattle.memory_trace.proofs.HonestMoves.{history-moved, moves-pinned}
use Rattle.memory_trace.proofs.LineAccesses.{TreeResident, one-word, reached-resident, resident-log, resident-room, tree-resident, two-words}
use Rattle.memory_trace.proofs.LineLemmas.{resident-unnamed}
use Rattle.memory_trace.proofs.MoveFor.{resident-through}
use Rattle.memory_trace.proofs.SoundAccesses.{by-refusal, either, not_open, word-placed}

-- ---- the lines of a path

-- the parent of each block with a line has one
abbrev ParentsHeld : LineMap → Type 0
ParentsHeld lines = (n : ℕ) → Holds lines n → HasParent lines n

parent-held : (lines : LineMap) (n : ℕ) → ParentsHeld lines → Holds lines n → Holds lines (parent_in 3 n)
parent-held lines zero parents held = held
parent-held lines (suc n) parents held = parents (suc n) held (omega arith)

one-contained : (at n : ℕ) → Contains (at ∷ []) n → at ≡ n
one-contained at n inside = by inside.0 inside.1 inside.2
  where
    by : (k : ℕ) → k < 1 → slice_index_or (at ∷ []) k n ≡ n → at ≡ n
    by zero below same = same
    by (suc k) below same = absurd (omega (arith, below))

path-held : (lines : LineMap) (depth block : ℕ) → ParentsHeld lines → Holds lines block → (n : ℕ) → Contains (path_in 3 depth block) n → Holds lines n
path-held lines zero block parents held n inside = subst (λ (k : ℕ). Holds lines k) (one-contained block n inside) held
path-held lines (suc depth) block parents held n inside =
    elim (Contains-append_cases (path_in 3 depth (parent_in 3 block)) (block ∷ []) n inside) [
      | inl higher ↦ path-held lines depth (parent_in 3 block) parents (parent-held lines block parents held) n higher
      | inr last ↦ subst (λ (k : ℕ). Holds lines k) (one-contained block n last) held
    ]

-- ---- the blocks of an address whose block has a line

blocks-resident : {L : Type 0} (at : ℕ) (old new : Sight L) → IsPlaced old.layout at → OPEN_END ≤ at → ParentsHeld new.lines → TreeResident new.lines new.trace → (reaches : Reaches at old new)
    → BlocksResident old.layout at new.trace
blocks-resident at old new placed closed parents resident reaches = record {
  path = λ _ below n inside. resident n (path-held new.lines (height_of old.layout) (leaf_of old.layout (data_block_at at)) parents (leaf below) n inside);
  in_log = λ from.
      let ready = reaches.acts.ready in
      let inside : log_block_at at < old.layout.log = (placed-log old.layout at placed closed from).block in
      let size : new.log.blocks ≡ old.layout.log = ready.stands.parts.of_log ∙ ap (λ (l : Layout). l.log) reaches.acts.parts.layout in
      sym (ready.stands.log_stands.lines.resident (log_block_at at) (subst (λ (k : ℕ). log_block_at at < k) (sym size) inside))
      ∙ ap (λ (o : Option (List ℕ)). is_some o) (ap (λ (p : Place). line_in new p) (sym (log-place old.layout at from)) ∙ reaches.line);
}
  where
    leaf : at < LOG_START → Holds new.lines (leaf_of old.layout (data_block_at at))
    leaf below = some-payload (get new.lines (leaf_of old.layout (data_block_at at)))
        (ap (λ (o : Option (List ℕ)). is_some o) (ap (λ (p : Place). line_in new p) (sym (tree-place old.layout at below)) ∙ reaches.line))

-- pinned blocks stay resident
reached-pinned : {L : Type 0} (at : ℕ) (old new : Sight L) → IsReachedBy at old new → AreResident old.pinned old.trace → AreResident old.pinned new.trace
reached-pinned at old new (IsReachedBy.by_tree below same moved) resident n pin =
    ap (λ (h : History). is_resident (Tree n) h) (history-moved (tree_scheme old) _ _ (tree_state old) (tree_state new) moved)
    ∙ resident-through n (history old.trace) moved.moves.events
    (moves-pinned (tree_scheme old) _ _ (tree_state old) (tree_state new) moved n (Contains-append_left old.pinned (path_of old.layout (data_block_at at)) n pin)) (resident n pin)
reached-pinned at old new (IsReachedBy.by_log from tree lines fetches) resident n pin =
    resident-log n (log_block_at at) (BlockRead (Log (log_block_at at)) fetches.read) fetches.middle new.trace refl fetches.event
    ∙ resident-room n old.log.blocks old.trace fetches.middle old.log.lines fetches.between fetches.makes ∙ resident n pin
reached-pinned at old new (IsReachedBy.cached same lines) resident n pin = ap (λ (t : List Event). is_resident (Tree n) (history t)) same ∙ resident n pin

-- an open address has no blocks
open-blocks : (layout : Layout) (at : ℕ) (trace : List Event) → nat_lt at OPEN_END ≡ true → BlocksResident layout at trace
open-blocks layout at trace is =
    let below : at < OPEN_END = grind (arith, nat_tests) in
    record { path = λ closed _. absurd (omega (arith, below, closed)); in_log = λ from. absurd (omega (arith, below, from)) }

-- ---- loads

record Accessed {L : Type 0} (at : ℕ) (old new : Sight L) : Type 0 where
  pinned : new.pinned ≡ old.pinned
  still : AreResident old.pinned old.trace → AreResident old.pinned new.trace
  blocks : BlocksResident old.layout at new.trace

loads-accessed : {L : Type 0} (value : List ℕ → ℕ) (in_word : ℕ → ℕ) (at word : ℕ) (old new : Sight L) → IsPlaced old.layout at → TreeResident old.lines old.trace → ParentsHeld new.lines
    → Loads value in_word at (Ok word) old new → Accessed at old new
loads-accessed value in_word at word old new placed resident parents loads =
    either (LoadsOpen in_word at word old new) (LoadsBlock value at word old new) (Accessed at old new) (nat_lt at OPEN_END)
    (λ is (opened : LoadsOpen in_word at word old new). record {
      pinned = opened.acts.parts.pinned;
      still = λ still n pin. resident-unnamed (Tree n) (WordRead Secure (word_start at) opened.read) old.trace new.trace refl opened.acts.appended ∙ still n pin;
      blocks = open-blocks old.layout at new.trace is;
    })
    (λ is (block : LoadsBlock value at word old new). record {
      pinned = block.reaches.acts.parts.pinned;
      still = reached-pinned at old new block.reaches.by;
      blocks = blocks-resident at old new placed (not_open at is) parents (reached-resident at old new block.reaches.by resident) block.reaches;
    }) loads

-- ---- stores

-- a store leaves the lines of the tree where they are
put-lines : {L : Type 0} (left : List ℕ → List ℕ) (at : ℕ) (payload : List ℕ) (old new : Sight L) → old.tree.layout ≡ old.layout → line_in old (place_at old.layout at) ≡ Some payload
    → IsPutBy left at payload old new → (n : ℕ) → contains_key new.lines n ≡ contains_key old.lines n
put-lines left at payload old new of line (IsPutBy.in_tree cache below same) n = ap (λ (s : Sight _). contains_key s.lines n) same ∙ was
  where
    here : contains_key old.lines (leaf_of old.tree.layout (data_block_at at)) ≡ true
    here = subst (λ (l : Layout). contains_key old.lines (leaf_of l (data_block_at at)) ≡ true) (sym of)
        (some-payload (get old.lines (leaf_of old.layout (data_block_at at)))
        (ap (λ (o : Option (List ℕ)). is_some o) (sym (ap (λ (p : Place). line_in old p) (tree-place old.layout at below)) ∙ line)))

    was : contains_key (with_payload old.lines (leaf_of old.tree.layout (data_block_at at)) (left payload)) n ≡ contains_key old.lines n
    was = elim (cases_eq n (leaf_of old.tree.layout (data_block_at at))) [
      | inl is ↦
          ap (λ (k : ℕ). contains_key (with_payload old.lines (leaf_of old.tree.layout (data_block_at at)) (left payload)) k) is
          ∙ ap (λ (o : Option Line). is_some o) (get-insert_same old.lines (leaf_of old.tree.layout (data_block_at at)) (record { payload = left payload; dirty = true }))
          ∙ sym (ap (λ (k : ℕ). contains_key old.lines k) is ∙ here)
      | inr apart ↦
          ap (λ (o : Option Line). is_some o) (get-insert_other old.lines (leaf_of old.tree.layout (data_block_at at)) n (record { payload = left payload; dirty = true }) apart)
    ]
put-lines left at payload old new of line (IsPutBy.in_log from same) n = ap (λ (s : Sight _). contains_key s.lines n) same

parents-same : (lines other : LineMap) → ((n : ℕ) → contains_key lines n ≡ contains_key other n) → ParentsHeld lines → ParentsHeld other
parents-same lines other same parents n held above = sym (same (parent_in 3 n)) ∙ parents n (same n ∙ held) above

stores-accessed : {L : Type 0} (value : ℕ → ℕ) (left : List ℕ → List ℕ) (events : ℕ → List Event) (at : ℕ) (old new : Sight L) → IsPlaced old.layout at
    → TreeResident old.lines old.trace → ParentsHeld new.lines
    → ((read n : ℕ) (trace : List Event) → trace ≡ old.trace ++ events read → is_resident (Tree n) (history trace) ≡ is_resident (Tree n) (history old.trace))
    → Stores value left events at (Ok tt) old new → Accessed at old new
stores-accessed value left events at old new placed resident parents opens stores =
    either (StoresOpen events old new) (StoresBlock value left at old new) (Accessed at old new) (nat_lt at OPEN_END)
    (λ is (opened : StoresOpen events old new). record {
      pinned = opened.acts.parts.pinned;
      still = λ still n pin. opens opened.read n new.trace opened.acts.appended ∙ still n pin;
      blocks = open-blocks old.layout at new.trace is;
    })
    (λ is (block : StoresBlock value left at old new).
    let trace : block.middle.trace ≡ new.trace = block.reaches.acts.appended ∙ sym block.acts.appended in
    let same : (n : ℕ) → contains_key new.lines n ≡ contains_key block.middle.lines n =
    put-lines left at block.puts.payload block.middle new block.reaches.acts.ready.stands.parts.of_tree block.puts.line block.puts.by in
    record {
      pinned = block.acts.parts.pinned;
      still = λ still. subst (λ (t : List Event). AreResident old.pinned t) trace (reached-pinned at old block.middle block.reaches.by still);
      blocks = subst (λ (t : List Event). BlocksResident old.layout at t) trace
          (blocks-resident at old block.middle placed (not_open at is) (parents-same new.lines block.middle.lines same parents)
          (reached-resident at old block.middle block.reaches.by resident) block.reaches);
    }) stores

-- ---- the five accesses

pins-resident : (layout : Layout) (at : ℕ) (trace : List Event) → BlocksResident layout at trace → AreResident (pins_after layout at) trace
pins-resident layout at trace blocks = by (nat_lt at OPEN_END) (nat_lt at LOG_START) refl refl
  where
    nothing : (n : ℕ) → Contains [] n → is_resident (Tree n) (history trace) ≡ true
    nothing n inside = let below : inside.0 < 0 = inside.1 in absurd (omega (arith, below))

    by : (b c : Bool) → nat_lt at OPEN_END ≡ b → nat_lt at LOG_START ≡ c → AreResident (cond b [] (cond c (path_of layout (data_block_at at)) [])) trace
    by true c is below = nothing
    by false false is below = nothing
    by false true is below = blocks.path (not_open at is) (grind (arith, nat_tests))

none-refused : {T : Type 0} (word : T) (why : Why) → Ok word ≡ Err (stop.Refused why) → ⊥
none-refused word why same = cc

accessed-holds : {L : Type 0} (at : ℕ) (old new : Sight L) → Accessed at old new → AreResident old.pinned old.trace → HoldsAccessed at old new
accessed-holds at old new accessed still = record {
  pinned = accessed.pinned;
  still = subst (λ (blocks : List ℕ). AreResident blocks new.trace) (sym accessed.pinned) (accessed.still still);
  blocks = accessed.blocks;
}

fetched-holds : {L : Type 0} (at word : ℕ) (old new : Sight L) → FetchesWord at (Ok word) old new → Accessed at (pinning [] old) (pinning [] new) → HoldsFetched at old new
fetched-holds at word old new fetches accessed =
    let pinned : new.pinned ≡ pins_after old.layout at = fetches.pinned word refl in
    record {
      pinned = pinned;
      still = subst (λ (blocks : List ℕ). AreResident blocks new.trace) (sym pinned) (pins-resident old.layout at new.trace accessed.blocks);
      blocks = accessed.blocks;
    }

pub paths-law : (L : Type 0) → AccessesHoldPaths L
paths-law L = record {
  fetch = λ at word old new ready before does lines.
      by-refusal (word_refusal old.layout old.mode Fetch at) (Ok word) old new (FetchesWord at (Ok word) old new) (HoldsFetched at old new)
      (λ none fetches. fetched-holds at word old new fetches
      (loads-accessed (λ payload. word_at payload at) (λ word. word) at word (pinning [] old) (pinning [] new) (word-placed old.layout old.mode Fetch at none)
      (tree-resident old ready before) lines.parents fetches.loads))
      (λ why is same. absurd (none-refused word why is)) does;
  load_word = λ at word old new ready before does lines still.
      by-refusal (word_refusal old.layout old.mode Read at) (Ok word) old new (Loads (λ payload. word_at payload at) (λ word. word) at (Ok word) old new) (HoldsAccessed at old new)
      (λ none loads. accessed-holds at old new
      (loads-accessed (λ payload. word_at payload at) (λ word. word) at word old new (word-placed old.layout old.mode Read at none) (tree-resident old ready before) lines.parents loads) still)
      (λ why is same. absurd (none-refused word why is)) does;
  load_byte = λ at byte old new ready before does lines still.
      by-refusal (byte_refusal old.layout old.mode Read at) (Ok byte) old new (Loads (λ payload. byte_at payload at) (λ word. byte_in word at) at (Ok byte) old new) (HoldsAccessed at old new)
      (λ none loads. accessed-holds at old new
      (loads-accessed (λ payload. byte_at payload at) (λ word. byte_in word at) at byte old new (byte-placed old.layout old.mode Read at none) (tree-resident old ready before)
      lines.parents loads) still)
      (λ why is same. absurd (none-refused byte why is)) does;
  store_word = λ at word old new ready before does lines still.
      by-refusal (word_refusal old.layout old.mode Write at) (Ok tt) old new
      (Stores (λ before. word) (λ payload. with_word_at payload at word) (λ read. WordWrite Secure at word ∷ []) at (Ok tt) old new) (HoldsAccessed at old new)
      (λ none stores. accessed-holds at old new
      (stores-accessed (λ before. word) (λ payload. with_word_at payload at word) (λ read. WordWrite Secure at word ∷ []) at old new (word-placed old.layout old.mode Write at none)
      (tree-resident old ready before) lines.parents (λ read n trace same. one-word at word n old.trace trace same) stores) still)
      (λ why is same. absurd (none-refused tt why is)) does;
  store_byte = λ at byte old new ready before does lines still.
      by-refusal (byte_refusal old.layout old.mode Write at) (Ok tt) old new
      (Stores (λ before. with_byte before at byte) (λ payload. with_byte_at payload at byte)
      (λ read. WordRead Secure (word_start at) read ∷ WordWrite Secure (word_start at) (with_byte read at byte) ∷ []) at (Ok tt) old new) (HoldsAccessed at old new)
      (λ none stores. accessed-holds at old new
      (stores-accessed (λ before. with_byte before at byte) (λ payload. with_byte_at payload at byte)
      (λ read. WordRead Secure (word_start at) read ∷ WordWrite Secure (word_start at) (with_byte read at byte) ∷ []) at old new (byte-placed old.layout old.mode Write at none)
      (tree-resident old ready before) lines.parents
      (λ read n trace same. two-words (word_start at) read (with_byte read at byte) n old.trace trace same) stores) still)
      (λ why is same. absurd (none-refused tt why is)) does;
}
