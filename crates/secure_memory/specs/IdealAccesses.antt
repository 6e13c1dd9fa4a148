-- Promise: where each read so far gave the last write-back, a secure memory does what the memory of the ideal machine does.
use Rattle.std.specs.Prelude.{◌≡◌, ℕ, IsTrue, [], ◌∷◌, ◌++◌, Option, Some, Result}
use Rattle.execution.specs.Traffic.{Traffic}
use Rattle.regions.specs.Modes.{is_secure}
use Rattle.off_chip.specs.declared.event.Event.TheVariants.{WordRead}
use Rattle.off_chip.specs.declared.event.Who.TheVariants.{Secure}
use Rattle.off_chip.specs.Histories.{history}
use Rattle.hash_tree.specs.AsWritten.{AllAsWritten}
use Rattle.orbis_core.specs.declared.memory.Stop.{Stop}
use Rattle.orbis_core.specs.Accesses.{Accesses, IsSettled}
use Rattle.orbis_core.specs.Carrying.{CarriesOver}
use Rattle.orbis_core.specs.Ideal.{from_reads}
use Rattle.orbis_core.specs.OwnMemory.{Own, own_accesses}
use Rattle.secure_memory.specs.MemorySights.{HasContents, Sight}
use Rattle.secure_memory.specs.MemoryAccesses.{Fetches, LoadsByte, LoadsWord, StoresByte, StoresWord}

-- the access is not stopped by the tree or the log, each read so far gave the last write-back, and a shared word is read as it is known to come
pub record IsFaithful {L T : Type 0} (read : ℕ → Option ℕ) (answer : Result T Stop) (old new : Sight L) : Type 0 where
  pub settled : IsSettled answer
  pub as_written : AllAsWritten (history new.trace)
  pub words : (at word : ℕ) → new.trace ≡ old.trace ++ WordRead Secure at word ∷ [] → read at ≡ Some word

-- the accesses for which this holds
abbrev pub faithful_accesses : {L : Type 0} → (ℕ → Option ℕ) → Accesses (Sight L)
faithful_accesses read = record {
  fetch = λ old at answer new. Fetches at answer old new × IsFaithful read answer old new;
  load_word = λ old at answer new. LoadsWord at answer old new × IsFaithful read answer old new;
  load_byte = λ old at answer new. LoadsByte at answer old new × IsFaithful read answer old new;
  store_word = λ old at word answer new. StoresWord at word answer old new × IsFaithful read answer old new;
  store_byte = λ old at byte answer new. StoresByte at byte answer old new × IsFaithful read answer old new;
}

-- the memory of the ideal machine with these words, in the layout and the mode of a memory, and with shared words that are known to come
abbrev pub own_of : {L : Type 0} → (ℕ → Option ℕ) → Sight L → (ℕ → ℕ) → Traffic ℕ → Own
own_of read sight memory traffic = record { layout = sight.layout; outside = from_reads read; mode = sight.mode; memory = memory; traffic = traffic }

-- it has the contents of the blocks; and the mode is one of the secure program
pub record HasIdeal {L : Type 0} (read : ℕ → Option ℕ) (sight : Sight L) (own : Own) : Type 0 where
  pub memory : ℕ → ℕ
  pub traffic : Traffic ℕ
  pub is : own ≡ own_of read sight memory traffic
  pub secure : IsTrue (is_secure sight.mode)
  pub contents : HasContents sight memory

-- then what the accesses do carries over to it, with their answers
abbrev pub AccessesAreIdeal : Type 0 → Type 0
AccessesAreIdeal L = (read : ℕ → Option ℕ) → CarriesOver (faithful_accesses {L = L} read) own_accesses (HasIdeal read)
