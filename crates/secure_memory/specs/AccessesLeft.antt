-- Device: after an access that was done or refused at most one access fewer is left.
use Rattle.std.proofs.Common.{arith}
use Rattle.std.specs.Prelude.{ℕ, ◌+◌, ◌≤◌, Bool, true, false, nat_lt, List, Option, Some, None, Result, Ok, Err}
use Rattle.regions.specs.declared.addresses.TheConstants.{OPEN_END}
use Rattle.off_chip.specs.declared.event.Event.{Event}
use Rattle.std.proofs.Common.{refl, sym, subst}
use Rattle.orbis_core.specs.Accesses.{IsSettled, LeaveOneFewer}
use Rattle.orbis_core.specs.declared.memory.Stop.{Stop}
use Rattle.orbis_core.specs.declared.memory.Stop.TheVariants as stop
use Rattle.orbis_core.specs.declared.memory.Why.{Why}
use Rattle.secure_memory.specs.MemorySights.{HasLeft, IsReady, Sight}
use Rattle.secure_memory.specs.MemoryAccesses.{FetchesWord, IsStoppedBy, Loads, LoadsBlock, LoadsOpen, OpenOrBlock, Stores, StoresBlock, StoresOpen, Unless, pinning, secure_accesses}

-- the memory is ready, and has room for so many events fewer
pub record Leaves {L : Type 0} (old new : Sight L) : Type 0 where
  pub ready : IsReady new
  pub room : old.room ≤ new.room + 160

left-from : {L : Type 0} (old new : Sight L) (n : ℕ) → Leaves old new → HasLeft old (n + 1) → HasLeft new n
left-from old new n leaves left = λ some. (leaves.ready, omega (arith, leaves.room, (left (omega arith)).1))

pub fewer : {L : Type 0} (sight : Sight L) (n : ℕ) → HasLeft sight (n + 1) → HasLeft sight n
fewer sight n left = λ some. let all = left (omega arith) in (all.0, omega (arith, all.1))

either : (P Q X : Type 0) (b : Bool) → (P → X) → (Q → X) → OpenOrBlock b P Q → X
either P Q X true one other does = one does
either P Q X false one other does = other does

not-refused : {L : Type 0} (at : ℕ) (why : Why) (old new : Sight L) → IsStoppedBy at old new (stop.Refused why) → ⊥
not-refused at why old new by = elim by [ ]

pub loads-leave : {L : Type 0} (in_block : List ℕ → ℕ) (in_word : ℕ → ℕ) (at : ℕ) (answer : Result ℕ Stop) (old new : Sight L) → Loads in_block in_word at answer old new → IsSettled answer
    → Leaves old new
loads-leave in_block in_word at (Ok word) old new does settled =
    either (LoadsOpen in_word at word old new) (LoadsBlock in_block at word old new) (Leaves old new) (nat_lt at OPEN_END)
    (λ (loads : LoadsOpen in_word at word old new). record { ready = loads.acts.ready; room = loads.acts.room })
    (λ (loads : LoadsBlock in_block at word old new). record { ready = loads.reaches.acts.ready; room = loads.reaches.acts.room }) does
loads-leave in_block in_word at (Err (stop.Refused why)) old new does settled = absurd (not-refused at why old new does.by)
loads-leave in_block in_word at (Err (stop.Tree event)) old new does settled = absurd settled
loads-leave in_block in_word at (Err (stop.Log event)) old new does settled = absurd settled

pub stores-leave : {L : Type 0} (value : ℕ → ℕ) (left : List ℕ → List ℕ) (events : ℕ → List Event) (at : ℕ) (answer : Result (Unit {0}) Stop) (old new : Sight L)
    → Stores value left events at answer old new → IsSettled answer → Leaves old new
stores-leave value left events at (Ok done) old new does settled =
    either (StoresOpen events old new) (StoresBlock value left at old new) (Leaves old new) (nat_lt at OPEN_END)
    (λ (stores : StoresOpen events old new). record { ready = stores.acts.ready; room = stores.acts.room })
    (λ (stores : StoresBlock value left at old new). record { ready = stores.acts.ready; room = stores.acts.room }) does
stores-leave value left events at (Err (stop.Refused why)) old new does settled = absurd (not-refused at why old new does.by)
stores-leave value left events at (Err (stop.Tree event)) old new does settled = absurd settled
stores-leave value left events at (Err (stop.Log event)) old new does settled = absurd settled

pub fetches-leave : {L : Type 0} (at : ℕ) (answer : Result ℕ Stop) (old new : Sight L) → FetchesWord at answer old new → IsSettled answer → Leaves old new
fetches-leave at (Ok word) old new does settled =
    record { ready = does.ready word refl; room = (loads-leave _ _ at (Ok word) (pinning _ old) (pinning _ new) does.loads settled).room }
fetches-leave at (Err (stop.Refused why)) old new does settled = absurd (not-refused at why (pinning _ old) (pinning _ new) does.loads.by)
fetches-leave at (Err (stop.Tree event)) old new does settled = absurd settled
fetches-leave at (Err (stop.Log event)) old new does settled = absurd settled

unless-left : {L T : Type 0} (refusal : Option Why) (answer : Result T Stop) (old new : Sight L) (P : Type 0) (n : ℕ) → (P → IsSettled answer → Leaves old new)
    → Unless refusal answer old new P → IsSettled answer → HasLeft old (n + 1) → HasLeft new n
unless-left None answer old new P n leaves does settled left = left-from old new n (leaves does settled) left
unless-left (Some why) answer old new P n leaves does settled left = subst (λ (s : Sight _). HasLeft s n) (sym does.1) (fewer old n left)

pub secure_leaves : {L M : Type 0} (seen : M → Sight L) (Keeps : M → M → Type 0) → LeaveOneFewer (secure_accesses seen Keeps) (λ (memory : M) n. HasLeft (seen memory) n)
secure_leaves seen Keeps = record {
  fetch = λ old new at answer does settled n left. unless-left _ answer (seen old) (seen new) _ n (fetches-leave at answer (seen old) (seen new)) does.0 settled left;
  load_word = λ old new at answer does settled n left. unless-left _ answer (seen old) (seen new) _ n (loads-leave _ _ at answer (seen old) (seen new)) does.0 settled left;
  load_byte = λ old new at answer does settled n left. unless-left _ answer (seen old) (seen new) _ n (loads-leave _ _ at answer (seen old) (seen new)) does.0 settled left;
  store_word = λ old new at word answer does settled n left. unless-left _ answer (seen old) (seen new) _ n (stores-leave _ _ _ at answer (seen old) (seen new)) does.0 settled left;
  store_byte = λ old new at byte answer does settled n left. unless-left _ answer (seen old) (seen new) _ n (stores-leave _ _ _ at answer (seen old) (seen new)) does.0 settled left;
}
