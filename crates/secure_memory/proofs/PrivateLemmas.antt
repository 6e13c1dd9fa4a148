-- What is written of private blocks: with their pads, in each access, where a program is entered and in a check.
use Rattle.std.proofs.Common.{◌≡◌, ℕ, zero, suc, ◌+◌, ◌<◌, ◌≤◌, Bool, true, false, List, [], ◌∷◌, ◌++◌, Option, Some, None, Result, Ok, Err, refl, sym, ap, ◌∙◌, subst, append_assoc, arith}
use Rattle.std.specs.Prelude.{if◌then◌else◌, nat_lt, option_map, replicate}
use Rattle.std.specs.List.{All}
use Rattle.std.specs.FinMap.{get}
use Rattle.std.proofs.lemmas.Bool.Decides.{nat_tests}
use Rattle.std.proofs.lemmas.List.{append-nil}
use Rattle.std.proofs.lemmas.List.Elements.{All-append, All-cons, All-nil, All-push, All-weaker}
use Rattle.aegis_num.specs.declared.storage.Block.{Block}
use Rattle.aegis_num.specs.declared.storage.Place.TheVariants.{Log, Tree}
use Rattle.regions.specs.declared.addresses.TheConstants.{OPEN_END}
use Rattle.regions.specs.declared.layout.Layout.{Layout}
use Rattle.regions.specs.declared.rights.Access.TheVariants.{Fetch, Read, Write}
use Rattle.regions.specs.Addresses.{log_block_at}
use Rattle.off_chip.specs.declared.event.Event.{Event}
use Rattle.off_chip.specs.declared.event.Event.TheVariants.{BlockRead, BlockWrite, Note, WordRead, WordWrite}
use Rattle.off_chip.specs.declared.event.Mark.TheVariants.{Drop}
use Rattle.off_chip.specs.declared.event.Who.TheVariants.{Secure}
use Rattle.off_chip.specs.BlockPlaces.{named_place}
use Rattle.line_cache.specs.declared.lines.Line.{Line}
use Rattle.line_cache.specs.LineMaps.{LineMap, payload_at}
use Rattle.hash_tree.specs.HashTrees.{nodes_of, scheme_of, state_of}
use Rattle.hash_tree.specs.Entering.{Entered, WritesZeros, is_static}
use Rattle.hash_tree.specs.Standing.{State}
use Rattle.hash_tree.specs.TreeSteps.{IsElsewhere, Moved, TellsLine, was_read, node_written, leaf_written, line_dropped}
use Rattle.stamp_log.specs.declared.causes.Changed.{Changed}
use Rattle.stamp_log.specs.LogCalls.{Fetches as LogFetches, MakesRoom}
use Rattle.stamp_log.specs.LogEvents.{zero_payload}
use Rattle.stamp_log.specs.LogState.{LogLines, stamped}
use Rattle.aes_pad.specs.Cipher.{xor_bytes}
use Rattle.aes_pad.specs.Pads.{pad}
use Rattle.orbis_core.specs.declared.memory.Stop.{Stop}
use Rattle.orbis_core.specs.declared.memory.Why.{Why}
use Rattle.orbis_core.specs.ByteOrder.{byte_in, with_byte, word_start}
use Rattle.orbis_core.specs.Refusals.{byte_refusal, word_refusal}
use Rattle.secure_memory.specs.BlockWords.{byte_at, with_byte_at, with_word_at, word_at}
use Rattle.secure_memory.specs.MemorySights.{Sight, tree_scheme, tree_state}
use Rattle.secure_memory.specs.MemoryAccesses.{FetchesWord, IsReachedBy, IsStoppedBy, Loads, LoadsBlock, LoadsOpen, OpenOrBlock, Stores, StoresBlock, StoresOpen, Unless, pinning}
use Rattle.secure_memory.specs.PrivatePads.{Padding, hidden_payload, is_private_block}
use Rattle.secure_memory.specs.PrivateWrites.{PadsPrivate, PadsWrite, PadsWrites, PrivateWritesArePadded}
use Rattle.secure_memory.proofs.EventLists.{GrowsElsewhere}

-- ---- one event

number-written : (n m : ℕ) (block other : Block) → BlockWrite (Tree n) block ≡ BlockWrite (Tree m) other → n ≡ m
number-written n m block other same = cc

block-written : (n m : ℕ) (block other : Block) → BlockWrite (Tree n) block ≡ BlockWrite (Tree m) other → block ≡ other
block-written n m block other same = cc

private-leaf : (layout : Layout) (n : ℕ) → is_private_block layout n ≡ true → nodes_of layout ≤ n
private-leaf layout n is = grind (arith, nat_tests)

-- no write of a tree block
pub other-pads : (padding : Padding) (payload_of : ℕ → Option (List ℕ)) (event : Event) → ((n : ℕ) (block : Block) → event ≡ BlockWrite (Tree n) block → ⊥)
    → PadsWrite padding payload_of event
other-pads padding payload_of event none = record { padded = λ n block same is. absurd (none n block same) }

read-pads : (padding : Padding) (payload_of : ℕ → Option (List ℕ)) (m : ℕ) (read : Block) → PadsWrite padding payload_of (BlockRead (Tree m) read)
read-pads padding payload_of m read = other-pads padding payload_of (BlockRead (Tree m) read) (λ n block same. cc)

-- what the veil puts over the payload of a private block is its pad
veil-pads : (padding : Padding) (n stamp : ℕ) (payload : List ℕ) → is_private_block padding.layout n ≡ true → hidden_payload padding n stamp payload ≡ xor_bytes payload (pad padding.key n stamp)
veil-pads padding n stamp payload is = ap (λ (b : Bool). if b then xor_bytes payload (pad padding.key n stamp) else payload) is

-- an event that tells of the lines pads what it writes
told-pads : (layout : Layout) (padding : Padding) (lines : LineMap) (root : List ℕ) (trace : List Event) (event : Event) → padding.layout ≡ layout
    → TellsLine (scheme_of layout (hidden_payload padding)) (state_of lines root trace).lines event → PadsWrite padding (payload_at lines) event
unfolding scheme_of
told-pads layout padding lines root trace event of (was_read m read same) = other-pads padding (payload_at lines) event (λ n block is. read-no_write n m block read (sym same ∙ is))
  where
    read-no_write : (n m : ℕ) (block read : Block) → BlockRead (Tree m) read ≡ BlockWrite (Tree n) block → ⊥
    read-no_write n m block read same = cc
told-pads layout padding lines root trace event of (node_written m written same node due) = record {
  padded = λ n block is private.
      let e : m ≡ n = number-written m n written block (sym same ∙ is) in
      let leaf : nodes_of layout ≤ n = subst (λ (l : Layout). nodes_of l ≤ n) of (private-leaf padding.layout n private) in
      absurd (omega (arith, e, leaf, node));
}
told-pads layout padding lines root trace event of (leaf_written m written line same leaf held due payload) = record {
  padded = λ n block is private.
      let e : m ≡ n = number-written m n written block (sym same ∙ is) in
      let f : written ≡ block = block-written m n written block (sym same ∙ is) in (
        line.payload,
        ap (λ (k : ℕ). payload_at lines k) (sym e) ∙ ap (λ (o : Option Line). option_map (λ (l : Line). l.payload) o) held,
        ap (λ (b : Block). b.payload) (sym f) ∙ payload ∙ ap (λ (k : ℕ). hidden_payload padding k written.stamp line.payload) e
            ∙ ap (λ (b : Block). hidden_payload padding n b.stamp line.payload) f ∙ veil-pads padding n block.stamp line.payload private,
      );
}
told-pads layout padding lines root trace event of (line_dropped m line same held clean) = other-pads padding (payload_at lines) event (λ n block is. drop-no_write n m block (sym same ∙ is))
  where
    drop-no_write : (n m : ℕ) (block : Block) → Note (Drop (Tree m)) ≡ BlockWrite (Tree n) block → ⊥
    drop-no_write n m block same = cc

-- ---- several events

pub pads-none : (padding : Padding) (payload_of : ℕ → Option (List ℕ)) (trace : List Event) → PadsWrites padding payload_of trace trace
pads-none padding payload_of trace = record { events = []; appended = sym (append-nil trace); each = All-nil (PadsWrite padding payload_of) }

pub pads-more : (padding : Padding) (payload_of : ℕ → Option (List ℕ)) (old middle new : List Event) (event : Event) → PadsWrites padding payload_of old middle
    → PadsWrite padding payload_of event → new ≡ middle ++ event ∷ [] → PadsWrites padding payload_of old new
pads-more padding payload_of old middle new event first pads last = record {
  events = first.events ++ event ∷ [];
  appended = last ∙ ap (λ (t : List Event). t ++ event ∷ []) first.appended ∙ append_assoc old first.events (event ∷ []);
  each = All-push (PadsWrite padding payload_of) first.events event first.each pads;
}

pub pads-joined : (padding : Padding) (payload_of : ℕ → Option (List ℕ)) (old middle new : List Event) → PadsWrites padding payload_of old middle
    → PadsWrites padding payload_of middle new → PadsWrites padding payload_of old new
pads-joined padding payload_of old middle new first second = record {
  events = first.events ++ second.events;
  appended = second.appended ∙ ap (λ (t : List Event). t ++ second.events) first.appended ∙ append_assoc old first.events second.events;
  each = All-append (PadsWrite padding payload_of) first.events second.events first.each second.each;
}

elsewhere-pads : (padding : Padding) (payload_of : ℕ → Option (List ℕ)) (event : Event) → IsElsewhere event → PadsWrite padding payload_of event
elsewhere-pads padding payload_of event elsewhere =
    other-pads padding payload_of event (λ n block same. elsewhere n (ap (λ (e : Event). named_place e) same))

-- events at no place of the tree write no private block
pub grows-pads : (padding : Padding) (payload_of : ℕ → Option (List ℕ)) (old new : List Event) → GrowsElsewhere old new → PadsWrites padding payload_of old new
grows-pads padding payload_of old new (GrowsElsewhere.no_more trace) = pads-none padding payload_of trace
grows-pads padding payload_of old new (GrowsElsewhere.one_more before middle after event grows elsewhere appended) =
    pads-more padding payload_of before middle after event (grows-pads padding payload_of before middle grows) (elsewhere-pads padding payload_of event elsewhere) appended

-- ---- entering

not-static : (layout : Layout) (n : ℕ) → is_private_block layout n ≡ true → is_static layout n ≡ false
not-static layout n is = grind (arith, nat_tests)

zeros-pad : (layout : Layout) (padding : Padding) (event : Event) → padding.layout ≡ layout → WritesZeros layout (scheme_of layout (hidden_payload padding)) event
    → PadsWrite padding (λ n. Some zero_payload) event
unfolding scheme_of
zeros-pad layout padding event of writes = record {
  padded = λ n block is private.
      let here : is_private_block layout n ≡ true = subst (λ (l : Layout). is_private_block l n ≡ true) of private in (
        zero_payload,
        refl,
        writes.zeros n block is (private-leaf layout n here) (not-static layout n here) ∙ veil-pads padding n block.stamp zero_payload private,
      );
}

pub entered-pads : (layout : Layout) (padding : Padding) (old new : State) (answer : List ℕ) → padding.layout ≡ layout
    → Entered layout (scheme_of layout (hidden_payload padding)) old new answer → PadsWrites padding (λ n. Some zero_payload) old.trace new.trace
entered-pads layout padding old new answer of entered = record {
  events = entered.events;
  appended = entered.appended;
  each = All-weaker (WritesZeros layout (scheme_of layout (hidden_payload padding))) (PadsWrite padding (λ n. Some zero_payload))
      (λ (event : Event) (writes : WritesZeros layout (scheme_of layout (hidden_payload padding)) event). zeros-pad layout padding event of writes)
      entered.events entered.zeros_written;
}

-- ---- the block of an address gets a line, or the access is stopped

log-no_tree : (n m : ℕ) (one other : Block) → BlockWrite (Log n) one ≡ BlockWrite (Tree m) other → ⊥
log-no_tree n m one other same = cc

log-no_write : (n m : ℕ) (one other : Block) → BlockRead (Log n) one ≡ BlockWrite (Tree m) other → ⊥
log-no_write n m one other same = cc

either : (P Q X : Type 0) (b : Bool) → (P → X) → (Q → X) → OpenOrBlock b P Q → X
either P Q X true one other does = one does
either P Q X false one other does = other does

room-pads : (padding : Padding) (payload_of : ℕ → Option (List ℕ)) (blocks : ℕ) (before after : List Event) (lines between : LogLines) → MakesRoom blocks before after lines between
    → PadsWrites padding payload_of before after
room-pads padding payload_of blocks before after lines between (MakesRoom.nothing same held payloads) =
    subst (λ (t : List Event). PadsWrites padding payload_of before t) (sym same) (pads-none padding payload_of before)
room-pads padding payload_of blocks before after lines between (MakesRoom.written n stamp payload less line same held payloads) =
    pads-more padding payload_of before before after (BlockWrite (Log n) (stamped payload stamp)) (pads-none padding payload_of before)
    (other-pads padding payload_of (BlockWrite (Log n) (stamped payload stamp)) (λ m block is. log-no_tree n m (stamped payload stamp) block is)) same

log-pads : (padding : Padding) (payload_of : ℕ → Option (List ℕ)) (blocks block : ℕ) (result : Result (Unit {0}) Changed) (before after : List Event) (lines newer : LogLines)
    → LogFetches blocks block result before after lines newer → PadsWrites padding payload_of before after
log-pads padding payload_of blocks block result before after lines newer fetches =
    pads-more padding payload_of before fetches.middle after (BlockRead (Log block) fetches.read)
    (room-pads padding payload_of blocks before fetches.middle lines fetches.between fetches.makes)
    (other-pads padding payload_of (BlockRead (Log block) fetches.read) (λ m other same. log-no_write block m fetches.read other same)) fetches.event

module _ {L : Type 0} (old : Sight L) (of : old.tree.veil.layout ≡ old.layout) where
  moved-pads : (pinned reads : List ℕ) (new : State) → Moved (tree_scheme old) pinned (tree_state old) new reads
      → PadsWrites old.tree.veil (payload_at old.lines) old.trace new.trace
  moved-pads pinned reads new moved = record {
    events = moved.moves.events;
    appended = moved.moves.appended;
    each = All-weaker (TellsLine (tree_scheme old) (tree_state old).lines) (PadsWrite old.tree.veil (payload_at old.lines))
        (λ (event : Event) (told : TellsLine (tree_scheme old) (tree_state old).lines event).
        told-pads old.layout old.tree.veil old.lines old.tree.root old.trace event of told)
        moved.moves.events moved.moves.told;
  }

  reached-pads : (at : ℕ) (new : Sight L) → IsReachedBy at old new → PadsPrivate old new
  reached-pads at new (IsReachedBy.by_tree below same moved) = moved-pads _ _ (tree_state new) moved
  reached-pads at new (IsReachedBy.by_log from tree lines fetches) =
      log-pads old.tree.veil (payload_at old.lines) old.log.blocks (log_block_at at) (Ok tt) old.trace new.trace old.log.lines new.log.lines fetches
  reached-pads at new (IsReachedBy.cached same lines) =
      subst (λ (t : List Event). PadsWrites old.tree.veil (payload_at old.lines) old.trace t) (sym same) (pads-none old.tree.veil (payload_at old.lines) old.trace)

  stopped-pads : (at : ℕ) (new : Sight L) (reason : Stop) → IsStoppedBy at old new reason → PadsPrivate old new
  stopped-pads at new reason (IsStoppedBy.tree event below stops reads) =
      pads-more old.tree.veil (payload_at old.lines) old.trace stops.middle.trace new.trace (BlockRead (Tree stops.n) stops.block)
      (moved-pads _ _ stops.middle stops.moved) (read-pads old.tree.veil (payload_at old.lines) stops.n stops.block) stops.read
  stopped-pads at new reason (IsStoppedBy.log event from fetches) =
      log-pads old.tree.veil (payload_at old.lines) old.log.blocks (log_block_at at) (Err (record { event = event })) old.trace new.trace old.log.lines new.log.lines fetches

  -- ---- loads and stores

  loads-pad : (value : List ℕ → ℕ) (in_word : ℕ → ℕ) (at : ℕ) (answer : Result ℕ Stop) (new : Sight L) → Loads value in_word at answer old new → PadsPrivate old new
  loads-pad value in_word at (Err reason) new stopped = stopped-pads at new reason stopped.by
  loads-pad value in_word at (Ok word) new loads =
      either (LoadsOpen in_word at word old new) (LoadsBlock value at word old new) (PadsPrivate old new) (nat_lt at OPEN_END)
      (λ (opened : LoadsOpen in_word at word old new). pads-more old.tree.veil (payload_at old.lines) old.trace old.trace new.trace (WordRead Secure (word_start at) opened.read)
      (pads-none old.tree.veil (payload_at old.lines) old.trace) (word_read-pads (word_start at) opened.read) opened.acts.appended)
      (λ (block : LoadsBlock value at word old new). reached-pads at new block.reaches.by) loads
    where
      word_read-pads : (start read : ℕ) → PadsWrite old.tree.veil (payload_at old.lines) (WordRead Secure start read)
      word_read-pads start read = elsewhere-pads old.tree.veil (payload_at old.lines) (WordRead Secure start read) (λ m same. cc)

  stores-pad : (value : ℕ → ℕ) (left : List ℕ → List ℕ) (events : ℕ → List Event) (at : ℕ) (answer : Result (Unit {0}) Stop) (new : Sight L)
      → ((read : ℕ) → All (PadsWrite old.tree.veil (payload_at old.lines)) (events read)) → Stores value left events at answer old new → PadsPrivate old new
  stores-pad value left events at (Err reason) new open_pads stopped = stopped-pads at new reason stopped.by
  stores-pad value left events at (Ok done) new open_pads stores =
      either (StoresOpen events old new) (StoresBlock value left at old new) (PadsPrivate old new) (nat_lt at OPEN_END)
      (λ (opened : StoresOpen events old new). record { events = events opened.read; appended = opened.acts.appended; each = open_pads opened.read })
      (λ (block : StoresBlock value left at old new).
      subst (λ (t : List Event). PadsWrites old.tree.veil (payload_at old.lines) old.trace t) (block.reaches.acts.appended ∙ sym block.acts.appended)
      (reached-pads at block.middle block.reaches.by)) stores

  pub word-pads : (at word : ℕ) → All (PadsWrite old.tree.veil (payload_at old.lines)) (WordWrite Secure at word ∷ [])
  word-pads at word = All-cons (PadsWrite old.tree.veil (payload_at old.lines)) (WordWrite Secure at word) []
      (elsewhere-pads old.tree.veil (payload_at old.lines) (WordWrite Secure at word) (λ m same. cc)) (All-nil (PadsWrite old.tree.veil (payload_at old.lines)))

  pub byte-pads : (at read word : ℕ) → All (PadsWrite old.tree.veil (payload_at old.lines)) (WordRead Secure at read ∷ WordWrite Secure at word ∷ [])
  byte-pads at read word = All-cons (PadsWrite old.tree.veil (payload_at old.lines)) (WordRead Secure at read) (WordWrite Secure at word ∷ [])
      (elsewhere-pads old.tree.veil (payload_at old.lines) (WordRead Secure at read) (λ m same. cc)) (word-pads at word)

-- ---- the five accesses

unless-pads : {L T : Type 0} (refusal : Option Why) (answer : Result T Stop) (old new : Sight L) (P : Type 0) → (P → PadsPrivate old new) → Unless refusal answer old new P
    → PadsPrivate old new
unless-pads None answer old new P pads does = pads does
unless-pads (Some why) answer old new P pads does =
    subst (λ (s : Sight _). PadsPrivate old s) (sym does.1) (pads-none old.tree.veil (payload_at old.lines) old.trace)

pub private-law : (L : Type 0) → PrivateWritesArePadded L
private-law L = record {
  fetch = λ at answer old new ready does. unless-pads (word_refusal old.layout old.mode Fetch at) answer old new (FetchesWord at answer old new)
      (λ (fetches : FetchesWord at answer old new).
      loads-pad (pinning [] old) ready.stands.parts.of_veil (λ payload. word_at payload at) (λ word. word) at answer (pinning [] new) fetches.loads) does;
  load_word = λ at answer old new ready does. unless-pads (word_refusal old.layout old.mode Read at) answer old new
      (Loads (λ payload. word_at payload at) (λ word. word) at answer old new)
      (loads-pad old ready.stands.parts.of_veil (λ payload. word_at payload at) (λ word. word) at answer new) does;
  load_byte = λ at answer old new ready does. unless-pads (byte_refusal old.layout old.mode Read at) answer old new
      (Loads (λ payload. byte_at payload at) (λ word. byte_in word at) at answer old new)
      (loads-pad old ready.stands.parts.of_veil (λ payload. byte_at payload at) (λ word. byte_in word at) at answer new) does;
  store_word = λ at word answer old new ready does. unless-pads (word_refusal old.layout old.mode Write at) answer old new
      (Stores (λ before. word) (λ payload. with_word_at payload at word) (λ read. WordWrite Secure at word ∷ []) at answer old new)
      (stores-pad old ready.stands.parts.of_veil (λ before. word) (λ payload. with_word_at payload at word) (λ read. WordWrite Secure at word ∷ []) at answer new
      (λ read. word-pads old ready.stands.parts.of_veil at word)) does;
  store_byte = λ at byte answer old new ready does. unless-pads (byte_refusal old.layout old.mode Write at) answer old new
      (Stores (λ before. with_byte before at byte) (λ payload. with_byte_at payload at byte)
      (λ read. WordRead Secure (word_start at) read ∷ WordWrite Secure (word_start at) (with_byte read at byte) ∷ []) at answer old new)
      (stores-pad old ready.stands.parts.of_veil (λ before. with_byte before at byte) (λ payload. with_byte_at payload at byte)
      (λ read. WordRead Secure (word_start at) read ∷ WordWrite Secure (word_start at) (with_byte read at byte) ∷ []) at answer new
      (λ read. byte-pads old ready.stands.parts.of_veil (word_start at) read (with_byte read at byte))) does;
}
