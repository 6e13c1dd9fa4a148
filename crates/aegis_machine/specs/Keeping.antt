-- Promise: what each call of a memory keeps of it.
use Rattle.std.specs.Prelude.{◌≡◌, ℕ, ◌+◌, ◌<◌, ◌≤◌, List, [], length, Option, Some, None, Result, Ok, Err}
use Rattle.std.proofs.Common.{ap}
use Rattle.regions.specs.declared.addresses.TheConstants.{OPEN_END}
use Rattle.orbis_core.specs.declared.Why.{Why}
use Rattle.secure_memory.proofs.IdealLemmas.{either}
use Rattle.off_chip.specs.declared.Event.{Event}
use Rattle.orbis_core.specs.declared.Stop.{Stop}
use Rattle.orbis_core.specs.Accesses.{Accesses}
use Rattle.secure_memory.specs.MemoryAccesses.{FetchesWord, Loads, LoadsBlock, LoadsOpen, Stores, StoresBlock, StoresOpen, Unless, pinning, secure_accesses}
use Rattle.secure_memory.specs.MemorySights.{Sight}

-- each of the five accesses does
pub record KeepEach {M : Type 0} (accesses : Accesses M) (Keeps : M → M → Type 0) : Type 0 where
  pub fetch : (old new : M) (at : ℕ) (answer : Result ℕ Stop) → accesses.fetch old at answer new → Keeps old new
  pub load_word : (old new : M) (at : ℕ) (answer : Result ℕ Stop) → accesses.load_word old at answer new → Keeps old new
  pub load_byte : (old new : M) (at : ℕ) (answer : Result ℕ Stop) → accesses.load_byte old at answer new → Keeps old new
  pub store_word : (old new : M) (at word : ℕ) (answer : Result (Unit {0}) Stop) → accesses.store_word old at word answer new → Keeps old new
  pub store_byte : (old new : M) (at byte : ℕ) (answer : Result (Unit {0}) Stop) → accesses.store_byte old at byte answer new → Keeps old new

-- the events of a bus and the room that it has left are together the same
abbrev pub SameTotal : List Event → ℕ → List Event → ℕ → Type 0
SameTotal old_trace old_room new_trace new_room = length new_trace + new_room ≡ length old_trace + old_room

-- a secure memory keeps what its accesses are told to keep
pub secure_keeps : {L M : Type 0} (seen : M → Sight L) (Keeps : M → M → Type 0) → KeepEach (secure_accesses seen Keeps) Keeps
secure_keeps seen Keeps = record {
  fetch = λ old new at answer does. does.1;
  load_word = λ old new at answer does. does.1;
  load_byte = λ old new at answer does. does.1;
  store_word = λ old new at word answer does. does.1;
  store_byte = λ old new at byte answer does. does.1;
}

-- what each access keeps of two kinds, it keeps of one that follows from both
pub keep_both : {M : Type 0} (accesses : Accesses M) (One Other Both : M → M → Type 0) → ((old new : M) → One old new → Other old new → Both old new)
    → KeepEach accesses One → KeepEach accesses Other → KeepEach accesses Both
keep_both accesses One Other Both joins one other = record {
  fetch = λ old new at answer does. joins old new (one.fetch old new at answer does) (other.fetch old new at answer does);
  load_word = λ old new at answer does. joins old new (one.load_word old new at answer does) (other.load_word old new at answer does);
  load_byte = λ old new at answer does. joins old new (one.load_byte old new at answer does) (other.load_byte old new at answer does);
  store_word = λ old new at word answer does. joins old new (one.store_word old new at word answer does) (other.store_word old new at word answer does);
  store_byte = λ old new at byte answer does. joins old new (one.store_byte old new at byte answer does) (other.store_byte old new at byte answer does);
}

-- the log has the same key
abbrev SameKey : {L : Type 0} → Sight L → Sight L → Type 0
SameKey old new = new.log.key ≡ old.log.key

unless-key : {L T : Type 0} (refusal : Option Why) (answer : Result T Stop) (old new : Sight L) (P : Type 0) → (P → SameKey old new) → Unless refusal answer old new P → SameKey old new
unless-key None answer old new P keeps does = keeps does
unless-key {L} (Some why) answer old new P keeps does = ap (λ (s : Sight L). s.log.key) does.1

loads-key : {L : Type 0} (in_block : List ℕ → ℕ) (in_word : ℕ → ℕ) (at : ℕ) (answer : Result ℕ Stop) (old new : Sight L) → Loads in_block in_word at answer old new → SameKey old new
loads-key in_block in_word at (Err reason) old new does = does.parts.key
loads-key in_block in_word at (Ok word) old new does =
    either (LoadsOpen in_word at word old new) (LoadsBlock in_block at word old new) (SameKey old new) at
    (λ (below : at < OPEN_END) (loads : LoadsOpen in_word at word old new). loads.acts.parts.key)
    (λ (above : OPEN_END ≤ at) (loads : LoadsBlock in_block at word old new). loads.reaches.acts.parts.key) does

stores-key : {L : Type 0} (value : ℕ → ℕ) (left : List ℕ → List ℕ) (events : ℕ → List Event) (at : ℕ) (answer : Result (Unit {0}) Stop) (old new : Sight L)
    → Stores value left events at answer old new → SameKey old new
stores-key value left events at (Err reason) old new does = does.parts.key
stores-key value left events at (Ok done) old new does =
    either (StoresOpen events old new) (StoresBlock value left at old new) (SameKey old new) at
    (λ (below : at < OPEN_END) (stores : StoresOpen events old new). stores.acts.parts.key)
    (λ (above : OPEN_END ≤ at) (stores : StoresBlock value left at old new). stores.acts.parts.key) does

-- a secure memory keeps the key of its log
pub secure_keeps_key : {L M : Type 0} (seen : M → Sight L) (Keeps : M → M → Type 0) → KeepEach (secure_accesses seen Keeps) (λ old new. (seen new).log.key ≡ (seen old).log.key)
secure_keeps_key seen Keeps = record {
  fetch = λ old new at answer does.
      unless-key _ answer (seen old) (seen new) (FetchesWord at answer (seen old) (seen new)) (λ fetches. loads-key _ _ at answer (pinning [] (seen old)) (pinning [] (seen new)) fetches.loads) does.0;
  load_word = λ old new at answer does. unless-key _ answer (seen old) (seen new) _ (loads-key _ _ at answer (seen old) (seen new)) does.0;
  load_byte = λ old new at answer does. unless-key _ answer (seen old) (seen new) _ (loads-key _ _ at answer (seen old) (seen new)) does.0;
  store_word = λ old new at word answer does. unless-key _ answer (seen old) (seen new) _ (stores-key _ _ _ at answer (seen old) (seen new)) does.0;
  store_byte = λ old new at byte answer does. unless-key _ answer (seen old) (seen new) _ (stores-key _ _ _ at answer (seen old) (seen new)) does.0;
}
