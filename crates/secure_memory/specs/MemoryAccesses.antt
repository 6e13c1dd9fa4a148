-- Promise: what each access of a secure memory does, by what is seen of the memory before and after it.
use Rattle.std.specs.Prelude.{◌≡◌, ℕ, ◌+◌, ◌*◌, ◌/◌, ◌<◌, ◌≤◌, nat_lt, if◌then◌else◌, Bool, true, false, IsTrue, is_some, List, [], ◌∷◌, ◌++◌, length, slice_index, slice_set, Option, Some, None, Result, Ok, Err}
use Rattle.std.specs.List.{All}
use Rattle.aegis_num.specs.declared.storage.Place.{Place}
use Rattle.regions.specs.declared.addresses.TheConstants.{BLOCK_BYTES, LOG_START, OPEN_END}
use Rattle.regions.specs.declared.layout.Layout.{Layout}
use Rattle.regions.specs.declared.rights.Access.TheVariants.{Read, Write, Fetch}
use Rattle.regions.specs.Addresses.{data_block_at, log_block_at, offset_at}
use Rattle.regions.specs.Tree.{leaf_of}
use Rattle.off_chip.specs.declared.event.Event.{Event}
use Rattle.off_chip.specs.declared.event.Event.TheVariants.{BlockRead, BlockWrite, WordRead, WordWrite, Note}
use Rattle.off_chip.specs.declared.event.Mark.TheVariants.{Drop}
use Rattle.off_chip.specs.declared.event.Who.TheVariants.{Secure}
use Rattle.off_chip.specs.Histories.{history}
use Rattle.line_cache.specs.LineMaps.{with_payload}
use Rattle.hash_tree.specs.AsWritten.{AllAsWritten}
use Rattle.hash_tree.specs.CachedLines.{held_in}
use Rattle.hash_tree.specs.Paths.{path_of}
use Rattle.hash_tree.specs.TreeSteps.{Moved, ReadsFirst, Stops, uncached}
use Rattle.stamp_log.specs.LogCalls.{Fetches as LogFetches}
use Rattle.stamp_log.specs.LogState.{with_line}
use Rattle.orbis_core.specs.declared.memory.Stop.{Stop}
use Rattle.orbis_core.specs.declared.memory.Stop.TheVariants as stop
use Rattle.orbis_core.specs.declared.memory.Why.{Why}
use Rattle.orbis_core.specs.Accesses.{Accesses}
use Rattle.orbis_core.specs.ByteOrder.{byte_in, updated, with_byte, word_start, words_in}
use Rattle.orbis_core.specs.Refusals.{byte_refusal, word_refusal}
use Rattle.secure_memory.specs.BlockWords.{after_reads, byte_at, is_memory_block, place_at, start_at, with_byte_at, with_word_at, word_at}
use Rattle.secure_memory.specs.MemorySights.{Agrees, HasContents, IsReady, Sight, line_in, tree_scheme, tree_state, veil_of}

-- ---- events

-- whether an event reads or writes a block, or tells that the line of one was dropped
abbrev pub is_block_move : Event → Bool
is_block_move (BlockRead place block) = true
is_block_move (BlockWrite place block) = true
is_block_move (Note (Drop place)) = true
is_block_move event = false

-- ---- what an access keeps and changes

-- the layout, the mode, the veil, the pinned blocks, the key and the size of the log, and what the bus tells stay
pub record SameParts {L : Type 0} (old new : Sight L) : Type 0 where
  pub layout : new.layout ≡ old.layout
  pub mode : new.mode ≡ old.mode
  pub veil : new.tree.veil ≡ old.tree.veil
  pub pinned : new.pinned ≡ old.pinned
  pub key : new.log.key ≡ old.log.key
  pub told : new.told ≡ old.told

-- an access makes these events, and changes a memory of plain words so
pub record Acts {L : Type 0} (change : (ℕ → ℕ) → ℕ → ℕ) (events : List Event) (old new : Sight L) : Type 0 where
  pub appended : new.trace ≡ old.trace ++ events
  pub parts : SameParts old new
  pub ready : IsReady new
  pub room : old.room ≤ new.room + 160
  -- a memory that agrees with the lines agrees with the new lines, when it took the blocks that were read and was changed
  pub agrees : (memory : ℕ → ℕ) → Agrees old memory → Agrees new (change (after_reads old.layout (veil_of old) events memory))
  -- a block that had a line is not read
  pub unread : (memory : ℕ → ℕ) (place : Place) (k : ℕ) → IsTrue (is_memory_block old.layout place) → is_some (line_in old place) ≡ true → k < 16
      → after_reads old.layout (veil_of old) events memory (start_at old.layout place + 4 * k) ≡ memory (start_at old.layout place + 4 * k)
  -- where each read so far gave the last write-back, the contents are changed so, and in no other way
  pub contents : AllAsWritten (history new.trace) → (memory : ℕ → ℕ) → HasContents old memory → HasContents new (change memory)

-- ---- the block of an address gets a line

-- what the tree or the log did for it; the other of the two is as before
pub data IsReachedBy {L : Type 0} (at : ℕ) (old new : Sight L) : Type 0 where
  by_tree : at < LOG_START → new.log ≡ old.log
      → Moved (tree_scheme old) (old.pinned ++ path_of old.layout (data_block_at at)) (tree_state old) (tree_state new)
      (uncached (held_in old.lines) (path_of old.layout (data_block_at at))) → IsReachedBy at old new
  by_log : LOG_START ≤ at → new.tree ≡ old.tree → new.lines ≡ old.lines
      → LogFetches old.log.blocks (log_block_at at) (Ok tt) old.trace new.trace old.log.lines new.log.lines → IsReachedBy at old new
  cached : new.trace ≡ old.trace → ((place : Place) → line_in new place ≡ line_in old place) → IsReachedBy at old new

-- events that move blocks alone, and then the block has a line with a payload
pub record Reaches {L : Type 0} (at : ℕ) (old new : Sight L) : Type 0 where
  pub events : List Event
  pub payload : List ℕ
  pub acts : Acts (λ memory. memory) events old new
  pub moves : All (λ event. IsTrue (is_block_move event)) events
  pub by : IsReachedBy at old new
  pub line : line_in new (place_at old.layout at) ≡ Some payload

-- The tree or the log stopped the access, at the read with this number, which is the last event. The tree read of the path of the block the first ones that
-- had no line. No access to an open word is stopped
pub data IsStoppedBy {L : Type 0} (at : ℕ) (old new : Sight L) : Stop → Type 0 where
  tree : (event : ℕ) → at < LOG_START → Stops (tree_scheme old) (old.pinned ++ path_of old.layout (data_block_at at)) (tree_state old) (tree_state new) event
      → ReadsFirst (uncached (held_in old.lines) (path_of old.layout (data_block_at at))) old.trace new.trace → IsStoppedBy at old new (stop.Tree event)
  log : (event : ℕ) → LOG_START ≤ at → LogFetches old.log.blocks (log_block_at at) (Err (record { event = event })) old.trace new.trace old.log.lines new.log.lines
      → IsStoppedBy at old new (stop.Log event)

pub record IsStopped {L : Type 0} (at : ℕ) (reason : Stop) (old new : Sight L) : Type 0 where
  pub closed : OPEN_END ≤ at
  pub events : List Event
  pub appended : new.trace ≡ old.trace ++ events
  pub moves : All (λ event. IsTrue (is_block_move event)) events
  pub by : IsStoppedBy at old new reason
  pub parts : SameParts old new
  pub room : old.room ≤ new.room + 160

-- the block of an address gets a line, or the access is stopped
abbrev pub ReachesOrStops : {L : Type 0} → ℕ → Result (Unit {0}) Stop → Sight L → Sight L → Type 0
ReachesOrStops at (Ok done) old new = Reaches at old new
ReachesOrStops at (Err reason) old new = IsStopped at reason old new

-- the first holds of an open address, and the second of one in a block
abbrev pub OpenOrBlock : Bool → Type 0 → Type 0 → Type 0
OpenOrBlock true in_word in_block = in_word
OpenOrBlock false in_word in_block = in_block

-- ---- loads

-- a load from a block gives what its line has at the address
pub record LoadsBlock {L : Type 0} (value : List ℕ → ℕ) (at word : ℕ) (old new : Sight L) : Type 0 where
  pub reaches : Reaches at old new
  pub answer : word ≡ value reaches.payload

-- a load from an open word reads it from the bus
pub record LoadsOpen {L : Type 0} (value : ℕ → ℕ) (at word : ℕ) (old new : Sight L) : Type 0 where
  pub read : ℕ
  pub acts : Acts (λ memory. memory) (WordRead Secure (word_start at) read ∷ []) old new
  pub answer : word ≡ value read

abbrev pub Loads : {L : Type 0} → (List ℕ → ℕ) → (ℕ → ℕ) → ℕ → Result ℕ Stop → Sight L → Sight L → Type 0
Loads in_block in_word at (Err reason) old new = IsStopped at reason old new
Loads in_block in_word at (Ok word) old new = OpenOrBlock (nat_lt at OPEN_END) (LoadsOpen in_word at word old new) (LoadsBlock in_block at word old new)

-- ---- stores

-- a memory of plain words in which the word that an address lies in is changed by a function
abbrev pub changed : (ℕ → ℕ) → ℕ → (ℕ → ℕ) → ℕ → ℕ
changed value at memory = updated memory (word_start at) (value (memory (word_start at)))

-- the line of the block of an address is changed, and nothing else is
pub data IsPutBy {L : Type 0} (left : List ℕ → List ℕ) (at : ℕ) (payload : List ℕ) (old new : Sight L) : Type 0 where
  in_tree : (cache : L) → at < LOG_START
      → new ≡ record old { tree = record old.tree { lines = cache }; lines = with_payload old.lines (leaf_of old.tree.layout (data_block_at at)) (left payload) }
      → IsPutBy left at payload old new
  in_log : LOG_START ≤ at → new ≡ record old { log = with_line old.log (log_block_at at) (left payload) } → IsPutBy left at payload old new

-- by it one word of the block is, by a function of the word that stood there
pub record Puts {L : Type 0} (value : ℕ → ℕ) (left : List ℕ → List ℕ) (at : ℕ) (old new : Sight L) : Type 0 where
  pub payload : List ℕ
  pub line : line_in old (place_at old.layout at) ≡ Some payload
  pub long : length payload ≡ BLOCK_BYTES
  pub left_long : length (left payload) ≡ BLOCK_BYTES
  pub words : words_in (left payload) ≡ slice_set (words_in payload) (offset_at at / 4) (value (slice_index (words_in payload) (offset_at at / 4)))
  pub by : IsPutBy left at payload old new

-- a store to a block puts what is stored into its line
pub record StoresBlock {L : Type 0} (value : ℕ → ℕ) (left : List ℕ → List ℕ) (at : ℕ) (old new : Sight L) : Type 0 where
  pub middle : Sight L
  pub reaches : Reaches at old middle
  pub puts : Puts value left at middle new
  pub acts : Acts (changed value at) reaches.events old new

-- a store to an open word makes these events
pub record StoresOpen {L : Type 0} (events : ℕ → List Event) (old new : Sight L) : Type 0 where
  pub read : ℕ
  pub acts : Acts (λ memory. memory) (events read) old new

abbrev pub Stores : {L : Type 0} → (ℕ → ℕ) → (List ℕ → List ℕ) → (ℕ → List Event) → ℕ → Result (Unit {0}) Stop → Sight L → Sight L → Type 0
Stores value left events at (Err reason) old new = IsStopped at reason old new
Stores value left events at (Ok done) old new = OpenOrBlock (nat_lt at OPEN_END) (StoresOpen events old new) (StoresBlock value left at old new)

-- ---- the five calls

-- an access that is refused makes no event, and changes nothing. Else this holds
abbrev pub Unless : {L T : Type 0} → Option Why → Result T Stop → Sight L → Sight L → Type 0 → Type 0
Unless None answer old new P = P
Unless (Some why) answer old new P = (answer ≡ Err (stop.Refused why)) × (new ≡ old)

-- a memory that pins other blocks
abbrev pub pinning : {L : Type 0} → List ℕ → Sight L → Sight L
pinning blocks sight = record sight { pinned = blocks }

-- what a fetch pins: the path of the data block that it fetched from
abbrev pub pins_after : Layout → ℕ → List ℕ
pins_after layout at = if nat_lt at OPEN_END then [] else (if nat_lt at LOG_START then path_of layout (data_block_at at) else [])

-- a fetch pins nothing while it loads, and what it fetched from until the next fetch
pub record FetchesWord {L : Type 0} (at : ℕ) (answer : Result ℕ Stop) (old new : Sight L) : Type 0 where
  pub loads : Loads (λ payload. word_at payload at) (λ word. word) at answer (pinning [] old) (pinning [] new)
  pub pinned : (word : ℕ) → answer ≡ Ok word → new.pinned ≡ pins_after old.layout at
  pub ready : (word : ℕ) → answer ≡ Ok word → IsReady new

abbrev pub Fetches : {L : Type 0} → ℕ → Result ℕ Stop → Sight L → Sight L → Type 0
Fetches at answer old new = Unless (word_refusal old.layout old.mode Fetch at) answer old new (FetchesWord at answer old new)

abbrev pub LoadsWord : {L : Type 0} → ℕ → Result ℕ Stop → Sight L → Sight L → Type 0
LoadsWord at answer old new =
    Unless (word_refusal old.layout old.mode Read at) answer old new (Loads (λ payload. word_at payload at) (λ word. word) at answer old new)

abbrev pub LoadsByte : {L : Type 0} → ℕ → Result ℕ Stop → Sight L → Sight L → Type 0
LoadsByte at answer old new =
    Unless (byte_refusal old.layout old.mode Read at) answer old new (Loads (λ payload. byte_at payload at) (λ word. byte_in word at) at answer old new)

abbrev pub StoresWord : {L : Type 0} → ℕ → ℕ → Result (Unit {0}) Stop → Sight L → Sight L → Type 0
StoresWord at word answer old new =
    Unless (word_refusal old.layout old.mode Write at) answer old new
    (Stores (λ before. word) (λ payload. with_word_at payload at word) (λ read. WordWrite Secure at word ∷ []) at answer old new)

abbrev pub StoresByte : {L : Type 0} → ℕ → ℕ → Result (Unit {0}) Stop → Sight L → Sight L → Type 0
StoresByte at byte answer old new =
    Unless (byte_refusal old.layout old.mode Write at) answer old new
    (Stores (λ before. with_byte before at byte) (λ payload. with_byte_at payload at byte)
    (λ read. WordRead Secure (word_start at) read ∷ WordWrite Secure (word_start at) (with_byte read at byte) ∷ []) at answer old new)

-- what the five calls do, by what is seen of the memory; of it something else is kept
abbrev pub secure_accesses : {L M : Type 0} → (M → Sight L) → (M → M → Type 0) → Accesses M
secure_accesses seen Keeps = record {
  fetch = λ old at answer new. Fetches at answer (seen old) (seen new) × Keeps old new;
  load_word = λ old at answer new. LoadsWord at answer (seen old) (seen new) × Keeps old new;
  load_byte = λ old at answer new. LoadsByte at answer (seen old) (seen new) × Keeps old new;
  store_word = λ old at word answer new. StoresWord at word answer (seen old) (seen new) × Keeps old new;
  store_byte = λ old at byte answer new. StoresByte at byte answer (seen old) (seen new) × Keeps old new;
}
