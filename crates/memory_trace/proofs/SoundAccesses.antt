-- Each access of a secure memory keeps a trace sound.
use Rattle.std.proofs.Common.{◌≡◌, ℕ, ◌<◌, ◌≤◌, Bool, true, false, cond, List, [], ◌∷◌, ◌++◌, Option, Some, None, Result, Ok, Err, refl, sym, ap, ◌∙◌, subst, arith, append_assoc}
use Rattle.std.specs.Prelude.{Contains, nat_lt}
use Rattle.std.proofs.lemmas.Bool.Decides.{nat_tests}
use Rattle.regions.specs.declared.addresses.TheConstants.{LOG_START, OPEN_END}
use Rattle.regions.specs.declared.Layout.{Layout}
use Rattle.regions.specs.declared.Access.{Access}
use Rattle.regions.specs.declared.Access.TheVariants.{Fetch, Read, Write}
use Rattle.regions.specs.declared.Mode.{Mode}
use Rattle.regions.specs.Addresses.{log_block_at}
use Rattle.off_chip.specs.declared.Event.{Event}
use Rattle.off_chip.specs.declared.Event.TheVariants.{WordRead, WordWrite}
use Rattle.off_chip.specs.declared.Who.TheVariants.{Secure}
use Rattle.hash_tree.specs.HashTrees.{nodes_of, scheme_of}
use Rattle.hash_tree.specs.Schemes.{IsLawful}
use Rattle.hash_tree.specs.Standing.{Stands}
use Rattle.hash_tree.proofs.LawProofs.{layouts-law}
use Rattle.stamp_log.specs.LogCalls.{Fetches as LogFetches}
use Rattle.stamp_log.specs.LogState.{LogLines}
use Rattle.stamp_log.specs.OfflineCheck.{FutureRead}
use Rattle.orbis_core.specs.declared.Stop.{Stop}
use Rattle.orbis_core.specs.declared.Stop.TheVariants as stop
use Rattle.orbis_core.specs.declared.Why.{Why}
use Rattle.orbis_core.specs.declared.Why.TheVariants.{Rights}
use Rattle.orbis_core.specs.ByteOrder.{byte_in, with_byte, word_start}
use Rattle.orbis_core.specs.Refusals.{byte_refusal, is_allowed, word_refusal}
use Rattle.secure_memory.specs.BlockWords.{IsPlaced, byte_at, with_byte_at, with_word_at, word_at}
use Rattle.secure_memory.specs.MemorySights.{IsReady, Sight, tree_scheme, tree_state, veil_of}
use Rattle.secure_memory.specs.MemoryAccesses.{FetchesWord, IsReachedBy, IsStoppedBy, Loads, LoadsBlock, LoadsOpen, OpenOrBlock, Stores, StoresBlock, StoresOpen, Unless, pinning}
use Rattle.secure_memory.specs.OutsideEvents.{is_outside}
use Rattle.secure_memory.specs.PadLaws.{hidden-long, hidden-node, hidden-twice}
use Rattle.secure_memory.proofs.AccessLemmas.{placed-log}
use Rattle.secure_memory.proofs.IdealLemmas.{byte-placed}
use Rattle.memory_trace.specs.SoundTraces.{IsSound}
use Rattle.memory_trace.specs.KeptTraces.{AccessesKeepSound, LeavesSound}
use Rattle.memory_trace.proofs.SoundMoves.{sound-moved, sound-stops}
use Rattle.memory_trace.proofs.SoundOthers.{sound-log_load, sound-outside}

-- ---- the tree of a memory

pub tree-lawful : {L : Type 0} (sight : Sight L) → IsReady sight → IsLawful (tree_scheme sight)
tree-lawful sight ready = layouts-law sight.layout (veil_of sight) (hidden-twice sight.tree.veil) (hidden-long sight.tree.veil)
    (subst (λ (l : Layout). (n stamp : ℕ) (payload : List ℕ) → n < nodes_of l → veil_of sight n stamp payload ≡ payload) ready.stands.parts.of_veil (hidden-node sight.tree.veil))

pub tree-stands : {L : Type 0} (sight : Sight L) → IsReady sight → Stands (tree_scheme sight) (tree_state sight)
tree-stands sight ready = subst (λ (l : Layout). Stands (scheme_of l (veil_of sight)) (tree_state sight)) ready.stands.parts.of_tree ready.stands.tree_stands

-- ---- the block of an address gets a line, or the access is stopped

log-inside : (layout : Layout) (at : ℕ) → IsPlaced layout at → OPEN_END ≤ at → LOG_START ≤ at → log_block_at at < layout.log
log-inside layout at placed closed from = (placed-log layout at placed closed from).block

pub sound-reached : {L : Type 0} (at : ℕ) (old new : Sight L) → IsReady old → IsPlaced old.layout at → OPEN_END ≤ at → IsReachedBy at old new → IsSound old.layout old.trace
    → IsSound old.layout new.trace
sound-reached at old new ready placed closed (IsReachedBy.by_tree below same moved) sound =
    sound-moved old.layout (veil_of old) (tree-lawful old ready) _ _ (tree_state old) (tree_state new) (tree-stands old ready) moved sound
sound-reached at old new ready placed closed (IsReachedBy.by_log from tree lines fetches) sound =
    sound-log_load old.layout old.log.blocks (log_block_at at) (Ok tt) old.trace new.trace old.log.lines new.log.lines ready.stands.parts.of_log
    (log-inside old.layout at placed closed from) fetches sound
sound-reached at old new ready placed closed (IsReachedBy.cached same lines) sound = subst (λ (t : List Event). IsSound old.layout t) (sym same) sound

future-read : (blocks block event : ℕ) (before after : List Event) (old new : LogLines) → LogFetches blocks block (Err (record { event = event })) before after old new → FutureRead after event
future-read blocks block event before after old new fetches =
    record { before = fetches.middle; n = block; block = fetches.read; last = fetches.event; number = fetches.number; above = fetches.above.0 refl }

sound-stopped : {L : Type 0} (T : Type 0) (at : ℕ) (old new : Sight L) (reason : Stop) → IsReady old → IsPlaced old.layout at → OPEN_END ≤ at → IsStoppedBy at old new reason
    → IsSound old.layout old.trace → LeavesSound {T = T} old.layout (Err reason) new.trace
sound-stopped T at old new reason ready placed closed (IsStoppedBy.tree event below stops reads) sound =
    sound-stops old.layout (veil_of old) (tree-lawful old ready) _ (tree_state old) (tree_state new) event (tree-stands old ready) stops sound
sound-stopped T at old new reason ready placed closed (IsStoppedBy.log event from fetches) sound = record {
  sound = sound-log_load old.layout old.log.blocks (log_block_at at) (Err (record { event = event })) old.trace new.trace old.log.lines new.log.lines ready.stands.parts.of_log
      (log-inside old.layout at placed closed from) fetches sound;
  future = future-read old.log.blocks (log_block_at at) event old.trace new.trace old.log.lines new.log.lines fetches;
}

-- ---- loads and stores

pub either : (P Q X : Type 0) (b : Bool) → (b ≡ true → P → X) → (b ≡ false → Q → X) → OpenOrBlock b P Q → X
either P Q X true one other does = one refl does
either P Q X false one other does = other refl does

pub not_open : (at : ℕ) → nat_lt at OPEN_END ≡ false → OPEN_END ≤ at
not_open at is = grind (arith, nat_tests)

sound-word : (layout : Layout) (event : Event) (old new : List Event) → is_outside event ≡ true → new ≡ old ++ event ∷ [] → IsSound layout old → IsSound layout new
sound-word layout event old new outside same sound = sound-outside layout event old new outside same sound

sound-loads : {L : Type 0} (value : List ℕ → ℕ) (in_word : ℕ → ℕ) (at : ℕ) (answer : Result ℕ Stop) (old new : Sight L) → IsReady old → IsPlaced old.layout at
    → IsSound old.layout old.trace → Loads value in_word at answer old new → LeavesSound old.layout answer new.trace
sound-loads value in_word at (Err reason) old new ready placed sound stopped = sound-stopped ℕ at old new reason ready placed stopped.closed stopped.by sound
sound-loads value in_word at (Ok word) old new ready placed sound loads =
    either (LoadsOpen in_word at word old new) (LoadsBlock value at word old new) (IsSound old.layout new.trace) (nat_lt at OPEN_END)
    (λ _ (opened : LoadsOpen in_word at word old new). sound-word old.layout (WordRead Secure (word_start at) opened.read) old.trace new.trace refl opened.acts.appended sound)
    (λ is (block : LoadsBlock value at word old new). sound-reached at old new ready placed (not_open at is) block.reaches.by sound) loads

sound-stores : {L : Type 0} (value : ℕ → ℕ) (left : List ℕ → List ℕ) (events : ℕ → List Event) (at : ℕ) (answer : Result (Unit {0}) Stop) (old new : Sight L) → IsReady old
    → IsPlaced old.layout at → ((read : ℕ) (trace : List Event) → trace ≡ old.trace ++ events read → IsSound old.layout old.trace → IsSound old.layout trace)
    → IsSound old.layout old.trace → Stores value left events at answer old new → LeavesSound old.layout answer new.trace
sound-stores value left events at (Err reason) old new ready placed opens sound stopped = sound-stopped (Unit {0}) at old new reason ready placed stopped.closed stopped.by sound
sound-stores value left events at (Ok done) old new ready placed opens sound stores =
    either (StoresOpen events old new) (StoresBlock value left at old new) (IsSound old.layout new.trace) (nat_lt at OPEN_END)
    (λ _ (opened : StoresOpen events old new). opens opened.read new.trace opened.acts.appended sound)
    (λ is (block : StoresBlock value left at old new).
    subst (λ (t : List Event). IsSound old.layout t) (block.reaches.acts.appended ∙ sym block.acts.appended)
    (sound-reached at old block.middle ready placed (not_open at is) block.reaches.by sound)) stores

-- ---- the five accesses

pub by-refusal : {L T : Type 0} (refusal : Option Why) (answer : Result T Stop) (old new : Sight L) (P X : Type 0) → (refusal ≡ None → P → X)
    → ((why : Why) → answer ≡ Err (stop.Refused why) → new ≡ old → X) → Unless refusal answer old new P → X
by-refusal None answer old new P X one other does = one refl does
by-refusal (Some why) answer old new P X one other does = other why does.0 does.1

pub word-placed : (layout : Layout) (mode : Mode) (access : Access) (at : ℕ) → word_refusal layout mode access at ≡ None → IsPlaced layout at
word-placed layout mode access at none = by (is_allowed layout mode access at) refl none
  where
    by : (b : Bool) → is_allowed layout mode access at ≡ b → word_refusal layout mode access at ≡ None → IsPlaced layout at
    by true is none = byte-placed layout mode access at (ap (λ (b : Bool). cond b None (Some Rights)) is)
    by false is none = let e : Some _ ≡ None = rw is at none in cc

refused-sound : {L T : Type 0} (answer : Result T Stop) (old new : Sight L) (why : Why) → answer ≡ Err (stop.Refused why) → new ≡ old → IsSound old.layout old.trace
    → LeavesSound old.layout answer new.trace
refused-sound answer old new why is same sound =
    subst (λ (r : Result _ Stop). LeavesSound old.layout r new.trace) (sym is) (subst (λ (s : Sight _). IsSound old.layout s.trace) (sym same) sound)

one-word : (layout : Layout) (at word : ℕ) (old new : List Event) → new ≡ old ++ WordWrite Secure at word ∷ [] → IsSound layout old → IsSound layout new
one-word layout at word old new same sound = sound-word layout (WordWrite Secure at word) old new refl same sound

two-words : (layout : Layout) (at read word : ℕ) (old new : List Event) → new ≡ old ++ WordRead Secure at read ∷ WordWrite Secure at word ∷ [] → IsSound layout old → IsSound layout new
two-words layout at read word old new same sound =
    one-word layout at word (old ++ WordRead Secure at read ∷ []) new (same ∙ sym (append_assoc old (WordRead Secure at read ∷ []) (WordWrite Secure at word ∷ [])))
    (sound-word layout (WordRead Secure at read) old (old ++ WordRead Secure at read ∷ []) refl refl sound)

pub accesses-law : (L : Type 0) → AccessesKeepSound L
accesses-law L = record {
  fetch = λ at answer old new ready sound does. by-refusal (word_refusal old.layout old.mode Fetch at) answer old new (FetchesWord at answer old new) (LeavesSound old.layout answer new.trace)
      (λ none (fetches : FetchesWord at answer old new). sound-loads (λ payload. word_at payload at) (λ word. word) at answer (pinning [] old) (pinning [] new)
      (record { stands = ready.stands; parents = λ n inside above. absurd (nothing-inside n inside); few = omega arith; told = ready.told })
      (word-placed old.layout old.mode Fetch at none) sound fetches.loads)
      (λ why is same. refused-sound answer old new why is same sound) does;
  load_word = λ at answer old new ready sound does. by-refusal (word_refusal old.layout old.mode Read at) answer old new
      (Loads (λ payload. word_at payload at) (λ word. word) at answer old new) (LeavesSound old.layout answer new.trace)
      (λ none loads. sound-loads (λ payload. word_at payload at) (λ word. word) at answer old new ready (word-placed old.layout old.mode Read at none) sound loads)
      (λ why is same. refused-sound answer old new why is same sound) does;
  load_byte = λ at answer old new ready sound does. by-refusal (byte_refusal old.layout old.mode Read at) answer old new
      (Loads (λ payload. byte_at payload at) (λ word. byte_in word at) at answer old new) (LeavesSound old.layout answer new.trace)
      (λ none loads. sound-loads (λ payload. byte_at payload at) (λ word. byte_in word at) at answer old new ready (byte-placed old.layout old.mode Read at none) sound loads)
      (λ why is same. refused-sound answer old new why is same sound) does;
  store_word = λ at word answer old new ready sound does. by-refusal (word_refusal old.layout old.mode Write at) answer old new
      (Stores (λ before. word) (λ payload. with_word_at payload at word) (λ read. WordWrite Secure at word ∷ []) at answer old new) (LeavesSound old.layout answer new.trace)
      (λ none stores. sound-stores (λ before. word) (λ payload. with_word_at payload at word) (λ read. WordWrite Secure at word ∷ []) at answer old new ready
      (word-placed old.layout old.mode Write at none) (λ read trace same. one-word old.layout at word old.trace trace same) sound stores)
      (λ why is same. refused-sound answer old new why is same sound) does;
  store_byte = λ at byte answer old new ready sound does. by-refusal (byte_refusal old.layout old.mode Write at) answer old new
      (Stores (λ before. with_byte before at byte) (λ payload. with_byte_at payload at byte)
      (λ read. WordRead Secure (word_start at) read ∷ WordWrite Secure (word_start at) (with_byte read at byte) ∷ []) at answer old new) (LeavesSound old.layout answer new.trace)
      (λ none stores. sound-stores (λ before. with_byte before at byte) (λ payload. with_byte_at payload at byte)
      (λ read. WordRead Secure (word_start at) read ∷ WordWrite Secure (word_start at) (with_byte read at byte) ∷ []) at answer old new ready
      (byte-placed old.layout old.mode Write at none)
      (λ read trace same. two-words old.layout (word_start at) read (with_byte read at byte) old.trace trace same) sound stores)
      (λ why is same. refused-sound answer old new why is same sound) does;
}
  where
    nothing-inside : (n : ℕ) → Contains [] n → ⊥
    nothing-inside n inside = let below : inside.0 < 0 = inside.1 in omega (arith, below)
