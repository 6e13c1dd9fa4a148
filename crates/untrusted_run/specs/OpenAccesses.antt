-- Device: the open words at a bus as a memory that a step is made over: which events each access makes.
use Rattle.std.proofs.Common.{arith}
use Rattle.std.specs.Prelude.{◌≡◌, ◌≤◌, ◌*◌, ℕ, ◌+◌, ◌%◌, ◌==◌, nat_lt, if◌then◌else◌, List, [], ◌∷◌, ◌++◌, length, Result, Ok, Err}
use Rattle.regions.specs.declared.addresses.TheConstants.{OPEN_END}
use Rattle.off_chip.specs.declared.event.Event.{Event}
use Rattle.off_chip.specs.declared.event.Event.TheVariants.{WordRead, WordWrite}
use Rattle.off_chip.specs.declared.event.Who.TheVariants.{Untrusted}
use Rattle.orbis_core.specs.declared.memory.Stop.{Stop}
use Rattle.orbis_core.specs.declared.memory.Stop.TheVariants as stop
use Rattle.orbis_core.specs.declared.memory.Why.TheVariants.{Rights, Misaligned}
use Rattle.orbis_core.specs.Accesses.{Accesses, LeaveOneFewer}
use Rattle.orbis_core.specs.ByteOrder.{byte_in, with_byte, word_start}

-- why the access to a byte is refused, if it is, and to a word
abbrev pub refusal_of_byte : ℕ → Result (Unit {0}) Stop
refusal_of_byte at = if nat_lt at OPEN_END then Ok tt else Err (stop.Refused Rights)

abbrev pub refusal_of_word : ℕ → Result (Unit {0}) Stop
refusal_of_word at = if nat_lt at OPEN_END then (if at % 4 == 0 then Ok tt else Err (stop.Refused Misaligned)) else Err (stop.Refused Rights)

-- what is seen of a bus: its events, and how many further ones there is room for
pub record Sight : Type 0 where
  pub trace : List Event
  pub room : ℕ

-- exactly these events were made
pub record Made (events : List Event) (old new : Sight) : Type 0 where
  pub trace : new.trace ≡ old.trace ++ events
  pub room : new.room + length events ≡ old.room

-- an access that is refused makes no event, and else this holds
abbrev pub Unless : {T : Type 0} → Result (Unit {0}) Stop → Result T Stop → (old new : Sight) → Type 0 → Type 0
Unless (Ok done) answer old new P = P
Unless (Err why) answer old new P = (answer ≡ Err why) × Made [] old new

-- a word is read, and a function of it is the answer
abbrev pub Reads : ℕ → (ℕ → ℕ) → Result ℕ Stop → Sight → Sight → Type 0
Reads at value answer old new = (word : ℕ) × (answer ≡ Ok (value word)) × Made (WordRead Untrusted at word ∷ []) old new

-- a word is written
abbrev pub Writes : ℕ → ℕ → Result (Unit {0}) Stop → Sight → Sight → Type 0
Writes at word answer old new = (answer ≡ Ok tt) × Made (WordWrite Untrusted at word ∷ []) old new

-- a byte is written into the word that it lies in, which is read before
abbrev pub WritesByte : ℕ → ℕ → Result (Unit {0}) Stop → Sight → Sight → Type 0
WritesByte at byte answer old new = (word : ℕ) × (answer ≡ Ok tt)
    × Made (WordRead Untrusted (word_start at) word ∷ WordWrite Untrusted (word_start at) (with_byte word at byte) ∷ []) old new

-- what the five calls do, by what is seen of the memory; of it something else is kept
abbrev pub open_accesses : {M : Type 0} → (M → Sight) → (M → M → Type 0) → Accesses M
open_accesses seen Keeps = record {
  fetch = λ old at answer new. Unless (refusal_of_word at) answer (seen old) (seen new) (Reads at (λ word. word) answer (seen old) (seen new)) × Keeps old new;
  load_word = λ old at answer new. Unless (refusal_of_word at) answer (seen old) (seen new) (Reads at (λ word. word) answer (seen old) (seen new)) × Keeps old new;
  load_byte = λ old at answer new.
      Unless (refusal_of_byte at) answer (seen old) (seen new) (Reads (word_start at) (λ word. byte_in word at) answer (seen old) (seen new)) × Keeps old new;
  store_word = λ old at word answer new. Unless (refusal_of_word at) answer (seen old) (seen new) (Writes at word answer (seen old) (seen new)) × Keeps old new;
  store_byte = λ old at byte answer new. Unless (refusal_of_byte at) answer (seen old) (seen new) (WritesByte at byte answer (seen old) (seen new)) × Keeps old new;
}

-- with room for two events for each access that is left, one fewer is left after each
pub fewer_by : {T : Type 0} (allowed : Result (Unit {0}) Stop) (answer : Result T Stop) (old new : Sight) (P : Type 0) (n : ℕ)
    → (P → old.room ≤ new.room + 2) → Unless allowed answer old new P → 2 * (n + 1) ≤ old.room → 2 * n ≤ new.room
fewer_by (Ok done) answer old new P n most does left = omega (arith, most does, left)
fewer_by (Err why) answer old new P n most does left = omega (arith, does.1.room, left)

pub open_leaves : {M : Type 0} (seen : M → Sight) (Keeps : M → M → Type 0) → LeaveOneFewer (open_accesses seen Keeps) (λ (memory : M) n. 2 * n ≤ (seen memory).room)
open_leaves seen Keeps = record {
  fetch = λ old new at answer does settled n left. fewer_by (refusal_of_word at) answer (seen old) (seen new) _ n (λ read. omega (arith, read.2.room)) does.0 left;
  load_word = λ old new at answer does settled n left. fewer_by (refusal_of_word at) answer (seen old) (seen new) _ n (λ read. omega (arith, read.2.room)) does.0 left;
  load_byte = λ old new at answer does settled n left. fewer_by (refusal_of_byte at) answer (seen old) (seen new) _ n (λ read. omega (arith, read.2.room)) does.0 left;
  store_word = λ old new at word answer does settled n left. fewer_by (refusal_of_word at) answer (seen old) (seen new) _ n (λ write. omega (arith, write.1.room)) does.0 left;
  store_byte = λ old new at byte answer does settled n left. fewer_by (refusal_of_byte at) answer (seen old) (seen new) _ n (λ write. omega (arith, write.2.room)) does.0 left;
}

pub twice_fewer : (room n : ℕ) → 2 * (n + 1) ≤ room → 2 * n ≤ room
twice_fewer room n left = omega (arith, left)
