-- Promise: steps over a secure memory whose contents are known, in the form of a bus: more is asked of the memories which its lines agree with, and
-- it is asked of accesses after which something holds.
use Rattle.std.specs.Prelude.{◌≡◌, ℕ, List, ◌++◌, Result}
use Rattle.regions.specs.declared.Layout.{Layout}
use Rattle.off_chip.specs.declared.event.Event.{Event}
use Rattle.off_chip.specs.Histories.{history}
use Rattle.hash_tree.specs.AsWritten.{AllAsWritten}
use Rattle.orbis_core.specs.declared.StepEnd.{StepEnd}
use Rattle.orbis_core.specs.declared.Stop.{Stop}
use Rattle.orbis_core.specs.Accesses.{Accesses, IsSettled}
use Rattle.orbis_core.specs.ByteOrder.{with_byte, word_start}
use Rattle.orbis_core.specs.Rows.{Machine, Steps}
use Rattle.secure_memory.specs.MemoryAccesses.{secure_accesses}
use Rattle.secure_memory.specs.MemorySights.{HasContents, Sight as SecureSight, veil_of}
use Rattle.bus_machine.specs.BusAccesses.{MeetsBus, Sight}
use Rattle.bus_machine.specs.BusMachine.{Veil, blocks_taken}
use Rattle.faithful_memory.specs.DataContents.{LeavesTree}
use Rattle.faithful_memory.specs.KnownWords.{HasDataContents, TreeAsWritten}
use Rattle.faithful_memory.specs.ReadContents.{stored}

-- ---- accesses after which something holds

abbrev pub after_which : {M : Type 0} → (M → Type 0) → Accesses M → Accesses M
after_which Holds accesses = record {
  fetch = λ old at answer new. accesses.fetch old at answer new × Holds new;
  load_word = λ old at answer new. accesses.load_word old at answer new × Holds new;
  load_byte = λ old at answer new. accesses.load_byte old at answer new × Holds new;
  store_word = λ old at word answer new. accesses.store_word old at word answer new × Holds new;
  store_byte = λ old at byte answer new. accesses.store_byte old at byte answer new × Holds new;
}

-- it held before each access after which it holds
pub record HeldBefore {M : Type 0} (accesses : Accesses M) (Holds : M → Type 0) : Type 0 where
  pub fetch : (old new : M) (at : ℕ) (answer : Result ℕ Stop) → accesses.fetch old at answer new → Holds new → Holds old
  pub load_word : (old new : M) (at : ℕ) (answer : Result ℕ Stop) → accesses.load_word old at answer new → Holds new → Holds old
  pub load_byte : (old new : M) (at : ℕ) (answer : Result ℕ Stop) → accesses.load_byte old at answer new → Holds new → Holds old
  pub store_word : (old new : M) (at word : ℕ) (answer : Result (Unit {0}) Stop) → accesses.store_word old at word answer new → Holds new → Holds old
  pub store_byte : (old new : M) (at byte : ℕ) (answer : Result (Unit {0}) Stop) → accesses.store_byte old at byte answer new → Holds new → Holds old

-- then a step after which it holds is a step over these accesses
abbrev pub StepsHold : {M : Type 0} → Accesses M → (M → Type 0) → Type 0
StepsHold {M} accesses Holds =
    (old new : Machine M) (ended : StepEnd) → Steps accesses old ended new → Holds new.memory → Steps (after_which Holds accesses) old ended new

-- ---- what else is asked

-- a sight that asks this too of the memories that the lines agree with
abbrev pub asking : {M : Type 0} → (M → (ℕ → ℕ) → Type 0) → Sight M → Sight M
asking Asked sight = record {
  layout = sight.layout;
  veil = sight.veil;
  mode = sight.mode;
  trace = sight.trace;
  Agrees = λ memory words. sight.Agrees memory words × Asked memory words;
}

-- What is asked of a plain memory is asked of it with the blocks that were read, whatever events were made; and what is asked after them has the memory
-- that is changed so.
pub record KeepsAsked {M : Type 0} (layout : M → Layout) (veil : M → Veil) (trace : M → List Event) (Asked : M → (ℕ → ℕ) → Type 0) (change : (ℕ → ℕ) → ℕ → ℕ) (old new : M) : Type 0 where
  pub unheld : (events : List Event) (memory : ℕ → ℕ) → trace new ≡ trace old ++ events → Asked old memory → Asked old (blocks_taken (layout old) (veil old) events memory)
  pub changed : (memory : ℕ → ℕ) → Asked old memory → Asked new (change memory)

-- so does each access that is done or refused
pub record EachKeepsAsked {M : Type 0} (layout : M → Layout) (veil : M → Veil) (trace : M → List Event) (accesses : Accesses M) (Asked : M → (ℕ → ℕ) → Type 0) : Type 0 where
  pub fetch : (old new : M) (at : ℕ) (answer : Result ℕ Stop) → IsSettled answer → accesses.fetch old at answer new
      → KeepsAsked layout veil trace Asked (λ memory. memory) old new
  pub load_word : (old new : M) (at : ℕ) (answer : Result ℕ Stop) → IsSettled answer → accesses.load_word old at answer new
      → KeepsAsked layout veil trace Asked (λ memory. memory) old new
  pub load_byte : (old new : M) (at : ℕ) (answer : Result ℕ Stop) → IsSettled answer → accesses.load_byte old at answer new
      → KeepsAsked layout veil trace Asked (λ memory. memory) old new
  pub store_word : (old new : M) (at word : ℕ) (answer : Result (Unit {0}) Stop) → IsSettled answer → accesses.store_word old at word answer new
      → KeepsAsked layout veil trace Asked (λ memory. stored (layout old) answer at word memory) old new
  pub store_byte : (old new : M) (at byte : ℕ) (answer : Result (Unit {0}) Stop) → IsSettled answer → accesses.store_byte old at byte answer new
      → KeepsAsked layout veil trace Asked (λ memory. stored (layout old) answer at (with_byte (memory (word_start at)) at byte) memory) old new

-- Then accesses that keep to the form of a bus keep to it, where something holds after each, in a sight that asks this too: so all that is said of
-- steps over a memory on a bus is said of memories of which this is asked.
abbrev pub AskingMeetsBus : {M : Type 0} → Sight M → Accesses M → (M → Type 0) → (M → (ℕ → ℕ) → Type 0) → Type 0
AskingMeetsBus sight accesses Holds Asked =
    MeetsBus sight accesses → EachKeepsAsked sight.layout sight.veil sight.trace (after_which Holds accesses) Asked
    → MeetsBus (asking Asked sight) (after_which Holds accesses)

-- ---- the contents of a secure memory

-- the accesses of secure memories; and those which leave the tree as it is at an open address
abbrev pub accesses_of : (L : Type 0) → Accesses (SecureSight L)
accesses_of L = secure_accesses (λ (sight : SecureSight L). sight) (λ old new. Unit {0})

abbrev pub leaving_tree : {L M : Type 0} → (M → SecureSight L) → Accesses M → Accesses M
leaving_tree seen accesses = record {
  fetch = λ old at answer new. accesses.fetch old at answer new × LeavesTree at (seen old) (seen new);
  load_word = λ old at answer new. accesses.load_word old at answer new × LeavesTree at (seen old) (seen new);
  load_byte = λ old at answer new. accesses.load_byte old at answer new × LeavesTree at (seen old) (seen new);
  store_word = λ old at word answer new. accesses.store_word old at word answer new × LeavesTree at (seen old) (seen new);
  store_byte = λ old at byte answer new. accesses.store_byte old at byte answer new × LeavesTree at (seen old) (seen new);
}

-- each block that was read is as it was written; or each tree block is
abbrev pub ReadsAreWritten : {L : Type 0} → SecureSight L → Type 0
ReadsAreWritten sight = AllAsWritten (history sight.trace)

abbrev pub TreeReadsAreWritten : {L : Type 0} → SecureSight L → Type 0
TreeReadsAreWritten sight = TreeAsWritten (history sight.trace)

-- The contents are kept where each block that was read is as it was written, and so they can be asked for; and a step after which it is so is made
-- by accesses after which it is so.
pub record ContentsAreAsked (L : Type 0) : Type 0 where
  pub kept : EachKeepsAsked (λ (sight : SecureSight L). sight.layout) veil_of (λ sight. sight.trace) (after_which ReadsAreWritten (accesses_of L)) HasContents
  pub steps : StepsHold (accesses_of L) ReadsAreWritten

-- and those of the data blocks are, where each tree block is
pub record DataContentsAreAsked (L : Type 0) : Type 0 where
  pub kept : EachKeepsAsked (λ (sight : SecureSight L). sight.layout) veil_of (λ sight. sight.trace)
      (after_which TreeReadsAreWritten (leaving_tree (λ sight. sight) (accesses_of L))) HasDataContents
  pub steps : StepsHold (leaving_tree (λ sight. sight) (accesses_of L)) TreeReadsAreWritten
