-- Promise: the form in which the calls of a memory over a bus are told, so that a step over it is a step of the bus machine.
use Rattle.std.specs.Prelude.{◌≡◌, ℕ, Bool, true, false, IsTrue, List, [], ◌∷◌, ◌++◌, Option, Some, None, Result, Ok, Err}
use Rattle.std.specs.List.{list_all}
use Rattle.regions.specs.declared.Layout.{Layout}
use Rattle.regions.specs.declared.Mode.{Mode}
use Rattle.regions.specs.declared.Access.TheVariants.{Read, Write, Fetch}
use Rattle.regions.specs.LooseClasses.{shared_loose}
use Rattle.regions.specs.Modes.{is_secure}
use Rattle.off_chip.specs.declared.event.Event.{Event}
use Rattle.off_chip.specs.declared.event.Event.TheVariants.{BlockRead, BlockWrite, WordRead, WordWrite, Note}
use Rattle.off_chip.specs.declared.event.Mark.TheVariants.{Drop}
use Rattle.off_chip.specs.declared.event.Who.TheVariants.{Secure}
use Rattle.orbis_core.specs.declared.memory.Stop.{Stop}
use Rattle.orbis_core.specs.declared.memory.Stop.TheVariants as stop
use Rattle.orbis_core.specs.declared.memory.Why.{Why}
use Rattle.orbis_core.specs.Accesses.{Accesses}
use Rattle.orbis_core.specs.ByteOrder.{byte_in, updated, with_byte, word_start}
use Rattle.orbis_core.specs.Ideal.{is_among}
use Rattle.orbis_core.specs.Refusals.{word_refusal, byte_refusal}
use Rattle.bus_machine.specs.BusMachine.{Veil, blocks_taken}

-- how a memory over a bus is seen: its layout, how its payloads stand off chip, its mode, the events on its bus, and which memories its lines
-- agree with, that is, have the payload of each line as the block of that line
pub record Sight (M : Type 0) : Type 1 where
  pub layout : M → Layout
  pub veil : M → Veil
  pub mode : M → Mode
  pub trace : M → List Event
  pub Agrees : M → (ℕ → ℕ) → Type 0

-- an event of an access to a block: a block is read or written, or leaves without a write
abbrev pub is_block_event : Event → Bool
is_block_event (BlockRead at block) = true
is_block_event (BlockWrite at block) = true
is_block_event (Note (Drop at)) = true
is_block_event event = false

-- an event of an access: one to a block, or an open word is read or written by the secure program
abbrev pub is_access_event : Event → Bool
is_access_event (WordRead Secure at word) = true
is_access_event (WordWrite Secure at word) = true
is_access_event event = is_block_event event

-- exactly these events were made, and layout, veil and mode stay
pub record Makes {M : Type 0} (sight : Sight M) (events : List Event) (old new : M) : Type 0 where
  pub trace : sight.trace new ≡ sight.trace old ++ events
  pub layout : sight.layout new ≡ sight.layout old
  pub veil : sight.veil new ≡ sight.veil old
  pub mode : sight.mode new ≡ sight.mode old

-- blocks were moved by these events, and then this was put into one of them, or nothing
pub record Moves {M : Type 0} (sight : Sight M) (put : (ℕ → ℕ) → ℕ → ℕ) (old new : M) (events : List Event) : Type 0 where
  pub makes : Makes sight events old new
  pub blocks : list_all is_block_event events ≡ true
  -- no block was read that has a line before: what agrees with the old lines does so after these reads
  pub unheld : (memory : ℕ → ℕ) → sight.Agrees old memory → sight.Agrees old (blocks_taken (sight.layout old) (sight.veil old) events memory)
  -- the new lines agree with it, changed by these reads and by what was put
  pub agrees : (memory : ℕ → ℕ) → sight.Agrees old memory → sight.Agrees new (put (blocks_taken (sight.layout old) (sight.veil old) events memory))

-- these events were made, and no block was moved
pub record Exchanges {M : Type 0} (sight : Sight M) (events : List Event) (old new : M) : Type 0 where
  pub makes : Makes sight events old new
  pub agrees : (memory : ℕ → ℕ) → sight.Agrees old memory → sight.Agrees new memory

-- an access was stopped by a read that a check of the memory refused, after moves of blocks
abbrev pub Fails : {M T : Type 0} → Sight M → Result T Stop → M → M → Type 0
Fails sight (Err (stop.Tree event)) old new = (events : List Event) × Makes sight events old new × (list_all is_block_event events ≡ true)
Fails sight (Err (stop.Log event)) old new = (events : List Event) × Makes sight events old new × (list_all is_block_event events ≡ true)
Fails sight answer old new = ⊥

-- an access that this refuses makes no event; else it does this
abbrev pub UnlessRefused : {M T : Type 0} → Sight M → Option Why → Result T Stop → M → M → Type 0 → Type 0
UnlessRefused sight (Some why) answer old new P = (answer ≡ Err (stop.Refused why)) × Exchanges sight [] old new
UnlessRefused sight None answer old new P = P

-- at an open address it does the first, and at another one the second
abbrev pub ByClass : Bool → Type 0 → Type 0 → Type 0
ByClass true opened closed = opened
ByClass false opened closed = closed

-- a value of a block is read: each memory that agrees with the new lines has it
abbrev pub ReadsBlock : {M : Type 0} → Sight M → ((ℕ → ℕ) → ℕ) → Result ℕ Stop → M → M → Type 0
ReadsBlock sight value (Ok word) old new =
    (events : List Event) × Moves sight (λ memory. memory) old new events × ((memory : ℕ → ℕ) → sight.Agrees new memory → value memory ≡ word)
ReadsBlock sight value answer old new = Fails sight answer old new

-- this is put into a block
abbrev pub PutsInBlock : {M : Type 0} → Sight M → ((ℕ → ℕ) → ℕ → ℕ) → Result (Unit {0}) Stop → M → M → Type 0
PutsInBlock sight put (Ok done) old new = (events : List Event) × Moves sight put old new events
PutsInBlock sight put answer old new = Fails sight answer old new

-- an open word is read, and the answer is this value of it
abbrev pub ReadsOpen : {M : Type 0} → Sight M → ℕ → (ℕ → ℕ) → Result ℕ Stop → M → M → Type 0
ReadsOpen sight at value answer old new = (word : ℕ) × (answer ≡ Ok (value word)) × Exchanges sight (WordRead Secure at word ∷ []) old new

-- what the five calls do
abbrev pub FetchesOver : {M : Type 0} → Sight M → M → ℕ → Result ℕ Stop → M → Type 0
FetchesOver sight old at answer new =
    UnlessRefused sight (word_refusal (sight.layout old) (sight.mode old) Fetch at) answer old new (ReadsBlock sight (λ memory. memory at) answer old new)

abbrev pub LoadsWordOver : {M : Type 0} → Sight M → M → ℕ → Result ℕ Stop → M → Type 0
LoadsWordOver sight old at answer new =
    UnlessRefused sight (word_refusal (sight.layout old) (sight.mode old) Read at) answer old new
    (ByClass (is_among shared_loose (sight.layout old) at)
    (ReadsOpen sight at (λ word. word) answer old new)
    (ReadsBlock sight (λ memory. memory at) answer old new))

abbrev pub LoadsByteOver : {M : Type 0} → Sight M → M → ℕ → Result ℕ Stop → M → Type 0
LoadsByteOver sight old at answer new =
    UnlessRefused sight (byte_refusal (sight.layout old) (sight.mode old) Read at) answer old new
    (ByClass (is_among shared_loose (sight.layout old) at)
    (ReadsOpen sight (word_start at) (λ word. byte_in word at) answer old new)
    (ReadsBlock sight (λ memory. byte_in (memory (word_start at)) at) answer old new))

abbrev pub StoresWordOver : {M : Type 0} → Sight M → M → ℕ → ℕ → Result (Unit {0}) Stop → M → Type 0
StoresWordOver sight old at word answer new =
    UnlessRefused sight (word_refusal (sight.layout old) (sight.mode old) Write at) answer old new
    (ByClass (is_among shared_loose (sight.layout old) at)
    ((answer ≡ Ok tt) × Exchanges sight (WordWrite Secure at word ∷ []) old new)
    (PutsInBlock sight (λ memory. updated memory (word_start at) word) answer old new))

abbrev pub StoresByteOver : {M : Type 0} → Sight M → M → ℕ → ℕ → Result (Unit {0}) Stop → M → Type 0
StoresByteOver sight old at byte answer new =
    UnlessRefused sight (byte_refusal (sight.layout old) (sight.mode old) Write at) answer old new
    (ByClass (is_among shared_loose (sight.layout old) at)
    ((word : ℕ) × (answer ≡ Ok tt)
    × Exchanges sight (WordRead Secure (word_start at) word ∷ WordWrite Secure (word_start at) (with_byte word at byte) ∷ []) old new)
    (PutsInBlock sight (λ memory. updated memory (word_start at) (with_byte (memory (word_start at)) at byte)) answer old new))

-- each of the five calls does so, in the modes of the secure program
pub record MeetsBus {M : Type 0} (sight : Sight M) (accesses : Accesses M) : Type 0 where
  pub fetch : (old new : M) (at : ℕ) (answer : Result ℕ Stop) → IsTrue (is_secure (sight.mode old)) → accesses.fetch old at answer new
      → FetchesOver sight old at answer new
  pub load_word : (old new : M) (at : ℕ) (answer : Result ℕ Stop) → IsTrue (is_secure (sight.mode old)) → accesses.load_word old at answer new
      → LoadsWordOver sight old at answer new
  pub load_byte : (old new : M) (at : ℕ) (answer : Result ℕ Stop) → IsTrue (is_secure (sight.mode old)) → accesses.load_byte old at answer new
      → LoadsByteOver sight old at answer new
  pub store_word : (old new : M) (at word : ℕ) (answer : Result (Unit {0}) Stop) → IsTrue (is_secure (sight.mode old)) → accesses.store_word old at word answer new
      → StoresWordOver sight old at word answer new
  pub store_byte : (old new : M) (at byte : ℕ) (answer : Result (Unit {0}) Stop) → IsTrue (is_secure (sight.mode old)) → accesses.store_byte old at byte answer new
      → StoresByteOver sight old at byte answer new
