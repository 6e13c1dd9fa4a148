-- Each access of a secure memory leaves the blocks with lines resident.
use Rattle.std.proofs.Common.{◌≡◌, ◌≢◌, ℕ, ◌<◌, Bool, true, false, cond, List, [], ◌∷◌, ◌++◌, Option, Some, None, Result, Ok, Err, refl, sym, ap, ◌∙◌, subst, inl, inr, arith, append_assoc}
use Rattle.std.specs.Prelude.{is_some, nat_lt, option_map, slice_index_or}
use Rattle.std.specs.FinMap.{contains_key, get}
use Rattle.std.proofs.lemmas.Bool.{cases_eq}
use Rattle.std.proofs.lemmas.Bool.Decides.{nat_tests}
use Rattle.aegis_num.specs.declared.Place.{Place}
use Rattle.aegis_num.specs.declared.Place.TheVariants.{Tree, Log}
use Rattle.regions.specs.declared.addresses.TheConstants.{OPEN_END}
use Rattle.regions.specs.declared.Access.TheVariants.{Fetch, Read, Write}
use Rattle.regions.specs.declared.Layout.{Layout}
use Rattle.regions.specs.Addresses.{data_block_at, log_block_at}
use Rattle.regions.specs.Tree.{leaf_of}
use Rattle.off_chip.specs.declared.Event.{Event}
use Rattle.off_chip.specs.declared.Event.TheVariants.{BlockRead, BlockWrite, WordRead, WordWrite}
use Rattle.off_chip.specs.declared.Who.TheVariants.{Secure}
use Rattle.off_chip.specs.BlockPlaces.{named_place}
use Rattle.off_chip.specs.Histories.{History, history}
use Rattle.off_chip.specs.OffChipBytes.{HasPlace}
use Rattle.off_chip.specs.Residency.{is_resident}
use Rattle.off_chip.proofs.HistoryLemmas.{history-appended}
use Rattle.off_chip.proofs.ResidencyLemmas.{is_resident-elsewhere}
use Rattle.line_cache.specs.declared.Line.{Line}
use Rattle.line_cache.specs.LineMaps.{LineMap, with_payload}
use Rattle.line_cache.proofs.MapLemmas.{get-insert_other}
use Rattle.hash_tree.specs.HashTrees.{scheme_of}
use Rattle.hash_tree.proofs.CallLemmas.{held-line}
use Rattle.stamp_log.specs.LogCalls.{MakesRoom}
use Rattle.stamp_log.specs.LogState.{LogLines, line_of, stamped}
use Rattle.orbis_core.specs.declared.Stop.{Stop}
use Rattle.orbis_core.specs.declared.Why.{Why}
use Rattle.orbis_core.specs.Accesses.{IsSettled}
use Rattle.orbis_core.specs.ByteOrder.{byte_in, with_byte, word_start}
use Rattle.orbis_core.specs.Refusals.{byte_refusal, word_refusal}
use Rattle.secure_memory.specs.BlockWords.{byte_at, place_at, with_byte_at, with_word_at, word_at}
use Rattle.secure_memory.specs.MemorySights.{IsReady, Sight, line_in, tree_scheme, tree_state}
use Rattle.secure_memory.specs.MemoryAccesses.{FetchesWord, IsPutBy, IsReachedBy, IsStoppedBy, Loads, LoadsBlock, LoadsOpen, Stores, StoresBlock, StoresOpen, Unless, pinning}
use Rattle.secure_memory.specs.AccessesLeft.{fetches-leave, loads-leave, stores-leave}
use Rattle.secure_memory.proofs.AccessLemmas.{tree-place}
use Rattle.secure_memory.proofs.TreeActs.{some-payload}
use Rattle.memory_trace.specs.ResidentLines.{AccessesKeepLines, HasResidentLines, OpenKeepsLines, has_line}
use Rattle.memory_trace.proofs.LineLemmas.{both-ways, resident-moved, resident-unnamed}
use Rattle.memory_trace.proofs.SoundAccesses.{by-refusal, either, tree-stands}

-- ---- from the lines of the tree

-- the blocks of the tree that have lines are resident
abbrev pub TreeResident : LineMap → List Event → Type 0
TreeResident lines trace = (n : ℕ) → contains_key lines n ≡ true → is_resident (Tree n) (history trace) ≡ true

pub held-line_of : (log : LogLines) (n : ℕ) → slice_index_or log.held n false ≡ is_some (line_of log n)
held-line_of log n = by (slice_index_or log.held n false)
  where
    by : (b : Bool) → b ≡ is_some (cond b (Some (slice_index_or log.payloads n [])) None)
    by true = refl
    by false = refl

-- where a memory is ready, that is enough
pub all-resident : {L : Type 0} (sight : Sight L) → IsReady sight → TreeResident sight.lines sight.trace → HasResidentLines sight
all-resident sight ready resident = record { each = by }
  where
    by : (place : Place) → HasPlace sight.layout place → has_line sight.lines sight.log.lines place ≡ is_resident place (history sight.trace)
    by (Tree n) inside =
        both-ways (contains_key sight.lines n) (is_resident (Tree n) (history sight.trace)) (resident n)
        (λ is. let line = (tree-stands sight ready).held n is in ap (λ (o : Option Line). is_some o) line.1)
    by (Log n) inside =
        held-line_of sight.log.lines n ∙ ready.stands.log_stands.lines.resident n (subst (λ (k : ℕ). n < k) (sym ready.stands.parts.of_log) inside)

pub tree-resident : {L : Type 0} (sight : Sight L) → IsReady sight → HasResidentLines sight → TreeResident sight.lines sight.trace
unfolding scheme_of
tree-resident sight ready resident n held =
    let line = held-line sight.lines n held in
    sym (resident.each (Tree n) ((tree-stands sight ready).inside n line.0 line.1)) ∙ held

-- ---- the block of an address gets a line

read-apart : (n m : ℕ) → Some (Log m) ≢ Some (Tree n)
read-apart n m same = cc

pub resident-log : (n m : ℕ) (event : Event) (before after : List Event) → named_place event ≡ Some (Log m) → after ≡ before ++ event ∷ []
    → is_resident (Tree n) (history after) ≡ is_resident (Tree n) (history before)
resident-log n m event before after named same =
    ap (λ (h : History). is_resident (Tree n) h) (history-appended before after event same)
    ∙ is_resident-elsewhere (Tree n) event (history before) (λ is. read-apart n m (sym named ∙ is))

pub resident-room : (n blocks : ℕ) (before after : List Event) (old new : LogLines) → MakesRoom blocks before after old new
    → is_resident (Tree n) (history after) ≡ is_resident (Tree n) (history before)
resident-room n blocks before after old new (MakesRoom.nothing same held payloads) = ap (λ (t : List Event). is_resident (Tree n) (history t)) same
resident-room n blocks before after old new (MakesRoom.written m stamp payload less line same held payloads) =
    resident-log n m (BlockWrite (Log m) (stamped payload stamp)) before after refl same

pub reached-resident : {L : Type 0} (at : ℕ) (old new : Sight L) → IsReachedBy at old new → TreeResident old.lines old.trace → TreeResident new.lines new.trace
reached-resident at old new (IsReachedBy.by_tree below same moved) resident = resident-moved (tree_scheme old) _ _ (tree_state old) (tree_state new) moved resident
reached-resident at old new (IsReachedBy.by_log from tree lines fetches) resident = λ n held.
    resident-log n (log_block_at at) (BlockRead (Log (log_block_at at)) fetches.read) fetches.middle new.trace refl fetches.event
    ∙ resident-room n old.log.blocks old.trace fetches.middle old.log.lines fetches.between fetches.makes
    ∙ resident n (sym (ap (λ (m : LineMap). contains_key m n) lines) ∙ held)
reached-resident at old new (IsReachedBy.cached same lines) resident = λ n held.
    ap (λ (t : List Event). is_resident (Tree n) (history t)) same
    ∙ resident n (some-payload (get old.lines n) (ap (λ (o : Option (List ℕ)). is_some o) (sym (lines (Tree n))) ∙ payload-some (get new.lines n) held))
  where
    payload-some : (o : Option Line) → is_some o ≡ true → is_some (option_map (λ (line : Line). line.payload) o) ≡ true
    payload-some (Some line) is = refl
    payload-some None is = cc

-- ---- a store into a line

put-resident : {L : Type 0} (left : List ℕ → List ℕ) (at : ℕ) (payload : List ℕ) (old new : Sight L) → old.tree.layout ≡ old.layout → line_in old (place_at old.layout at) ≡ Some payload
    → IsPutBy left at payload old new → TreeResident old.lines old.trace → TreeResident new.lines new.trace
put-resident left at payload old new of line (IsPutBy.in_tree cache below same) resident =
    subst (λ (s : Sight _). TreeResident s.lines s.trace) (sym same) (λ n held. resident n (was n held))
  where
    leaf : ℕ
    leaf = leaf_of old.tree.layout (data_block_at at)

    here : contains_key old.lines (leaf_of old.tree.layout (data_block_at at)) ≡ true
    here = subst (λ (l : Layout). contains_key old.lines (leaf_of l (data_block_at at)) ≡ true) (sym of)
        (some-payload (get old.lines (leaf_of old.layout (data_block_at at)))
        (ap (λ (o : Option (List ℕ)). is_some o) (sym (ap (λ (p : Place). line_in old p) (tree-place old.layout at below)) ∙ line)))

    was : (n : ℕ) → contains_key (with_payload old.lines (leaf_of old.tree.layout (data_block_at at)) (left payload)) n ≡ true → contains_key old.lines n ≡ true
    was n held = elim (cases_eq n (leaf_of old.tree.layout (data_block_at at))) [
      | inl is ↦ ap (λ (k : ℕ). contains_key old.lines k) is ∙ here
      | inr apart ↦
          ap (λ (o : Option Line). is_some o)
          (sym (get-insert_other old.lines (leaf_of old.tree.layout (data_block_at at)) n (record { payload = left payload; dirty = true }) apart)) ∙ held
    ]
put-resident left at payload old new of line (IsPutBy.in_log from same) resident = subst (λ (s : Sight _). TreeResident s.lines s.trace) (sym same) resident

-- ---- loads and stores

not-settled : {L : Type 0} (T : Type 0) (at : ℕ) (old new : Sight L) (reason : Stop) → IsStoppedBy at old new reason → IsSettled {T = T} (Err reason) → ⊥
not-settled T at old new reason (IsStoppedBy.tree event below stops reads) settled = settled
not-settled T at old new reason (IsStoppedBy.log event from fetches) settled = settled

open-resident : {L : Type 0} (at : ℕ) (old new : Sight L) → nat_lt at OPEN_END ≡ true → OpenKeepsLines at old new
    → ((n : ℕ) → is_resident (Tree n) (history new.trace) ≡ is_resident (Tree n) (history old.trace)) → TreeResident old.lines old.trace → TreeResident new.lines new.trace
open-resident at old new is keeps same resident n held =
    let below : at < OPEN_END = grind (arith, nat_tests) in
    same n ∙ resident n (sym (keeps below (Tree n)) ∙ held)

loads-resident : {L : Type 0} (value : List ℕ → ℕ) (in_word : ℕ → ℕ) (at : ℕ) (answer : Result ℕ Stop) (old new : Sight L) → OpenKeepsLines at old new
    → Loads value in_word at answer old new → IsSettled answer → TreeResident old.lines old.trace → TreeResident new.lines new.trace
loads-resident value in_word at (Err reason) old new keeps stopped settled resident = absurd (not-settled ℕ at old new reason stopped.by settled)
loads-resident value in_word at (Ok word) old new keeps loads settled resident =
    either (LoadsOpen in_word at word old new) (LoadsBlock value at word old new) (TreeResident new.lines new.trace) (nat_lt at OPEN_END)
    (λ is (opened : LoadsOpen in_word at word old new).
    open-resident at old new is keeps (λ n. resident-unnamed (Tree n) (WordRead Secure (word_start at) opened.read) old.trace new.trace refl opened.acts.appended) resident)
    (λ is (block : LoadsBlock value at word old new). reached-resident at old new block.reaches.by resident) loads

stores-resident : {L : Type 0} (value : ℕ → ℕ) (left : List ℕ → List ℕ) (events : ℕ → List Event) (at : ℕ) (answer : Result (Unit {0}) Stop) (old new : Sight L) → IsReady old
    → OpenKeepsLines at old new
    → ((read n : ℕ) (trace : List Event) → trace ≡ old.trace ++ events read → is_resident (Tree n) (history trace) ≡ is_resident (Tree n) (history old.trace))
    → Stores value left events at answer old new → IsSettled answer → TreeResident old.lines old.trace → TreeResident new.lines new.trace
stores-resident value left events at (Err reason) old new ready keeps opens stopped settled resident = absurd (not-settled (Unit {0}) at old new reason stopped.by settled)
stores-resident value left events at (Ok done) old new ready keeps opens stores settled resident =
    either (StoresOpen events old new) (StoresBlock value left at old new) (TreeResident new.lines new.trace) (nat_lt at OPEN_END)
    (λ is (opened : StoresOpen events old new). open-resident at old new is keeps (λ n. opens opened.read n new.trace opened.acts.appended) resident)
    (λ is (block : StoresBlock value left at old new).
    put-resident left at block.puts.payload block.middle new block.reaches.acts.ready.stands.parts.of_tree block.puts.line block.puts.by
    (reached-resident at old block.middle block.reaches.by resident)) stores

pub one-word : (at word n : ℕ) (old new : List Event) → new ≡ old ++ WordWrite Secure at word ∷ [] → is_resident (Tree n) (history new) ≡ is_resident (Tree n) (history old)
one-word at word n old new same = resident-unnamed (Tree n) (WordWrite Secure at word) old new refl same

pub two-words : (at read word n : ℕ) (old new : List Event) → new ≡ old ++ WordRead Secure at read ∷ WordWrite Secure at word ∷ []
    → is_resident (Tree n) (history new) ≡ is_resident (Tree n) (history old)
two-words at read word n old new same =
    one-word at word n (old ++ WordRead Secure at read ∷ []) new (same ∙ sym (append_assoc old (WordRead Secure at read ∷ []) (WordWrite Secure at word ∷ [])))
    ∙ resident-unnamed (Tree n) (WordRead Secure at read) old (old ++ WordRead Secure at read ∷ []) refl refl

-- ---- the five accesses

settled-lines : {L T : Type 0} (refusal : Option Why) (answer : Result T Stop) (old new : Sight L) (P : Type 0) → HasResidentLines old → (P → HasResidentLines new)
    → Unless refusal answer old new P → HasResidentLines new
settled-lines refusal answer old new P before does unless =
    by-refusal refusal answer old new P (HasResidentLines new) (λ _ p. does p) (λ why is same. subst (λ (s : Sight _). HasResidentLines s) (sym same) before) unless

pub lines-law : (L : Type 0) → AccessesKeepLines L
lines-law L = record {
  fetch = λ at answer old new ready before does settled keeps. settled-lines (word_refusal old.layout old.mode Fetch at) answer old new (FetchesWord at answer old new) before
      (λ (fetches : FetchesWord at answer old new).
      all-resident new (fetches-leave at answer old new fetches settled).ready
      (loads-resident (λ payload. word_at payload at) (λ word. word) at answer (pinning [] old) (pinning [] new) keeps fetches.loads settled (tree-resident old ready before))) does;
  load_word = λ at answer old new ready before does settled keeps. settled-lines (word_refusal old.layout old.mode Read at) answer old new
      (Loads (λ payload. word_at payload at) (λ word. word) at answer old new) before
      (λ loads. all-resident new (loads-leave (λ payload. word_at payload at) (λ word. word) at answer old new loads settled).ready
      (loads-resident (λ payload. word_at payload at) (λ word. word) at answer old new keeps loads settled (tree-resident old ready before))) does;
  load_byte = λ at answer old new ready before does settled keeps. settled-lines (byte_refusal old.layout old.mode Read at) answer old new
      (Loads (λ payload. byte_at payload at) (λ word. byte_in word at) at answer old new) before
      (λ loads. all-resident new (loads-leave (λ payload. byte_at payload at) (λ word. byte_in word at) at answer old new loads settled).ready
      (loads-resident (λ payload. byte_at payload at) (λ word. byte_in word at) at answer old new keeps loads settled (tree-resident old ready before))) does;
  store_word = λ at word answer old new ready before does settled keeps. settled-lines (word_refusal old.layout old.mode Write at) answer old new
      (Stores (λ before. word) (λ payload. with_word_at payload at word) (λ read. WordWrite Secure at word ∷ []) at answer old new) before
      (λ stores. all-resident new
      (stores-leave (λ before. word) (λ payload. with_word_at payload at word) (λ read. WordWrite Secure at word ∷ []) at answer old new stores settled).ready
      (stores-resident (λ before. word) (λ payload. with_word_at payload at word) (λ read. WordWrite Secure at word ∷ []) at answer old new ready keeps
      (λ read n trace same. one-word at word n old.trace trace same) stores settled (tree-resident old ready before))) does;
  store_byte = λ at byte answer old new ready before does settled keeps. settled-lines (byte_refusal old.layout old.mode Write at) answer old new
      (Stores (λ before. with_byte before at byte) (λ payload. with_byte_at payload at byte)
      (λ read. WordRead Secure (word_start at) read ∷ WordWrite Secure (word_start at) (with_byte read at byte) ∷ []) at answer old new) before
      (λ stores. all-resident new
      (stores-leave (λ before. with_byte before at byte) (λ payload. with_byte_at payload at byte)
      (λ read. WordRead Secure (word_start at) read ∷ WordWrite Secure (word_start at) (with_byte read at byte) ∷ []) at answer old new stores settled).ready
      (stores-resident (λ before. with_byte before at byte) (λ payload. with_byte_at payload at byte)
      (λ read. WordRead Secure (word_start at) read ∷ WordWrite Secure (word_start at) (with_byte read at byte) ∷ []) at answer old new ready keeps
      (λ read n trace same. two-words (word_start at) read (with_byte read at byte) n old.trace trace same) stores settled (tree-resident old ready before))) does;
}
