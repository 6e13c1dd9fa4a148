-- Promise: what the calls of a secure memory keep of it and of its trace, whatever its bus answers.
use Rattle.std.specs.Prelude.{◌≡◌, ℕ, ◌*◌, ◌<◌, ◌≤◌, List, [], Option, Some, None, Result, Ok, Err}
use Rattle.std.proofs.Common.{ap, subst, sym}
use Rattle.regions.specs.declared.addresses.TheConstants.{OPEN_END}
use Rattle.regions.specs.declared.Layout.{Layout}
use Rattle.off_chip.specs.declared.Event.{Event}
use Rattle.orbis_core.specs.declared.Stop.{Stop}
use Rattle.orbis_core.specs.declared.Stop.TheVariants as stop
use Rattle.orbis_core.specs.declared.Why.{Why}
use Rattle.orbis_core.specs.Accesses.{IsSettled, LeaveOneFewer}
use Rattle.secure_memory.proofs.IdealLemmas.{either}
use Rattle.secure_memory.specs.MemoryAccesses.{FetchesWord, Loads, LoadsBlock, LoadsOpen, Stores, StoresBlock, StoresOpen, Unless, pinning, secure_accesses}
use Rattle.secure_memory.specs.MemorySights.{IsReady, Sight}
use Rattle.memory_trace.specs.KeptTraces.{LeavesSound}
use Rattle.memory_trace.specs.SoundTraces.{IsSound}
use Rattle.memory_trace.proofs.SoundAccesses.{accesses-law}
use Rattle.aegis_machine.specs.Keeping.{KeepEach}
use Rattle.aegis_machine.specs.SecureMeets.{secure_spends}

-- a secure memory stands on its bus, and the trace of the bus is sound
pub record IsWatched {L : Type 0} (sight : Sight L) : Type 0 where
  pub ready : IsReady sight
  pub sound : IsSound sight.layout sight.trace

-- ---- the layout stays

abbrev SameLayout : {L : Type 0} → Sight L → Sight L → Type 0
SameLayout old new = new.layout ≡ old.layout

unless-layout : {L T : Type 0} (refusal : Option Why) (answer : Result T Stop) (old new : Sight L) (P : Type 0) → (P → SameLayout old new) → Unless refusal answer old new P → SameLayout old new
unless-layout None answer old new P keeps does = keeps does
unless-layout {L} (Some why) answer old new P keeps does = ap (λ (s : Sight L). s.layout) does.1

loads-layout : {L : Type 0} (in_block : List ℕ → ℕ) (in_word : ℕ → ℕ) (at : ℕ) (answer : Result ℕ Stop) (old new : Sight L) → Loads in_block in_word at answer old new → SameLayout old new
loads-layout in_block in_word at (Err reason) old new does = does.parts.layout
loads-layout in_block in_word at (Ok word) old new does =
    either (LoadsOpen in_word at word old new) (LoadsBlock in_block at word old new) (SameLayout old new) at
    (λ (below : at < OPEN_END) (loads : LoadsOpen in_word at word old new). loads.acts.parts.layout)
    (λ (above : OPEN_END ≤ at) (loads : LoadsBlock in_block at word old new). loads.reaches.acts.parts.layout) does

stores-layout : {L : Type 0} (value : ℕ → ℕ) (left : List ℕ → List ℕ) (events : ℕ → List Event) (at : ℕ) (answer : Result (Unit {0}) Stop) (old new : Sight L)
    → Stores value left events at answer old new → SameLayout old new
stores-layout value left events at (Err reason) old new does = does.parts.layout
stores-layout value left events at (Ok done) old new does =
    either (StoresOpen events old new) (StoresBlock value left at old new) (SameLayout old new) at
    (λ (below : at < OPEN_END) (stores : StoresOpen events old new). stores.acts.parts.layout)
    (λ (above : OPEN_END ≤ at) (stores : StoresBlock value left at old new). stores.acts.parts.layout) does

-- ---- what is left after an access that is not stopped

settled-sound : {T : Type 0} (layout : Layout) (answer : Result T Stop) (trace : List Event) → IsSettled answer → LeavesSound layout answer trace → IsSound layout trace
settled-sound layout (Ok value) trace settled leaves = leaves
settled-sound layout (Err (stop.Refused why)) trace settled leaves = leaves
settled-sound layout (Err (stop.Tree event)) trace settled leaves = absurd settled
settled-sound layout (Err (stop.Log event)) trace settled leaves = absurd settled

module _ {L M : Type 0} (seen : M → Sight L) (Keeps : M → M → Type 0) where
  secure_keeps_layout : KeepEach (secure_accesses seen Keeps) (λ old new. (seen new).layout ≡ (seen old).layout)
  secure_keeps_layout = record {
    fetch = λ old new at answer does.
        unless-layout _ answer (seen old) (seen new) (FetchesWord at answer (seen old) (seen new)) (λ fetches. loads-layout _ _ at answer (pinning [] (seen old)) (pinning [] (seen new)) fetches.loads) does.0;
    load_word = λ old new at answer does. unless-layout _ answer (seen old) (seen new) _ (loads-layout _ _ at answer (seen old) (seen new)) does.0;
    load_byte = λ old new at answer does. unless-layout _ answer (seen old) (seen new) _ (loads-layout _ _ at answer (seen old) (seen new)) does.0;
    store_word = λ old new at word answer does. unless-layout _ answer (seen old) (seen new) _ (stores-layout _ _ _ at answer (seen old) (seen new)) does.0;
    store_byte = λ old new at byte answer does. unless-layout _ answer (seen old) (seen new) _ (stores-layout _ _ _ at answer (seen old) (seen new)) does.0;
  }

  -- it is watched, and there is room for so many accesses
  abbrev IsWatchedFor : M → ℕ → Type 0
  IsWatchedFor memory n = IsWatched (seen memory) × (160 * n ≤ (seen memory).room)

  stays-watched : {T : Type 0} (answer : Result T Stop) (old new : M) (n : ℕ) → IsSettled answer → IsReady (seen new) × (160 * n ≤ (seen new).room) → (seen new).layout ≡ (seen old).layout
      → LeavesSound (seen old).layout answer (seen new).trace → IsWatchedFor new n
  stays-watched answer old new n settled left layout leaves = (
    record {
      ready = left.0;
      sound = subst (λ (l : Layout). IsSound l (seen new).trace) (sym layout) (settled-sound (seen old).layout answer (seen new).trace settled leaves);
    },
    left.1,
  )

  pub secure_watches : LeaveOneFewer (secure_accesses seen Keeps) IsWatchedFor
  secure_watches =
      let spends = secure_spends seen Keeps in
      let keeps = secure_keeps_layout in
      let law = accesses-law L in
      record {
        fetch = λ old new at answer does settled n left.
            stays-watched answer old new n settled (spends.fetch old new at answer does settled n (left.0.ready, left.1)) (keeps.fetch old new at answer does)
            (law.fetch at answer (seen old) (seen new) left.0.ready left.0.sound does.0);
        load_word = λ old new at answer does settled n left.
            stays-watched answer old new n settled (spends.load_word old new at answer does settled n (left.0.ready, left.1)) (keeps.load_word old new at answer does)
            (law.load_word at answer (seen old) (seen new) left.0.ready left.0.sound does.0);
        load_byte = λ old new at answer does settled n left.
            stays-watched answer old new n settled (spends.load_byte old new at answer does settled n (left.0.ready, left.1)) (keeps.load_byte old new at answer does)
            (law.load_byte at answer (seen old) (seen new) left.0.ready left.0.sound does.0);
        store_word = λ old new at word answer does settled n left.
            stays-watched answer old new n settled (spends.store_word old new at word answer does settled n (left.0.ready, left.1)) (keeps.store_word old new at word answer does)
            (law.store_word at word answer (seen old) (seen new) left.0.ready left.0.sound does.0);
        store_byte = λ old new at byte answer does settled n left.
            stays-watched answer old new n settled (spends.store_byte old new at byte answer does settled n (left.0.ready, left.1)) (keeps.store_byte old new at byte answer does)
            (law.store_byte at byte answer (seen old) (seen new) left.0.ready left.0.sound does.0);
      }
