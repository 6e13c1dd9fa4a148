-- Epochs that have ended, and accesses, which end none.
use Rattle.std.proofs.Common.{◌≡◌, ℕ, Bool, true, false, cond, List, [], ◌∷◌, Option, Result, Ok, Err, refl, sym, ap, ◌∙◌, subst, inl, inr}
use Rattle.std.specs.Prelude.{IsTrue, nat_lt}
use Rattle.std.specs.List.{All, list_any}
use Rattle.std.proofs.lemmas.Bool.{or_from, or_parts}
use Rattle.std.proofs.lemmas.List.{append-nil}
use Rattle.std.proofs.lemmas.List.Elements.{All-head, All-tail}
use Rattle.aegis_num.specs.declared.Place.{Place}
use Rattle.regions.specs.declared.addresses.TheConstants.{OPEN_END}
use Rattle.regions.specs.declared.Access.TheVariants.{Fetch, Read, Write}
use Rattle.off_chip.specs.declared.Event.{Event}
use Rattle.off_chip.specs.declared.Event.TheVariants.{Note, WordRead, WordWrite}
use Rattle.off_chip.specs.declared.Mark.TheVariants.{CheckPassed}
use Rattle.off_chip.specs.declared.Who.TheVariants.{Secure}
use Rattle.off_chip.specs.Collisions.{LogCollision}
use Rattle.off_chip.specs.Epochs.{EndedFaithful, is_passed}
use Rattle.off_chip.specs.FaithfulReads.{LogFaithful}
use Rattle.off_chip.specs.Histories.{History, ◌◂◌, followed, history, until}
use Rattle.off_chip.proofs.HistoryLemmas.{history-append, in_order-history}
use Rattle.stamp_log.specs.LogState.{value_under}
use Rattle.orbis_core.specs.declared.Stop.{Stop}
use Rattle.orbis_core.specs.declared.Why.{Why}
use Rattle.orbis_core.specs.ByteOrder.{byte_in, with_byte, word_start}
use Rattle.orbis_core.specs.Refusals.{byte_refusal, word_refusal}
use Rattle.secure_memory.specs.BlockWords.{byte_at, with_byte_at, with_word_at, word_at}
use Rattle.secure_memory.specs.MemorySights.{Sight}
use Rattle.secure_memory.specs.MemoryAccesses.{FetchesWord, Loads, LoadsBlock, LoadsOpen, Stores, StoresBlock, StoresOpen, Unless, is_block_move, pinning}
use Rattle.memory_trace.specs.CleanEpochs.{AccessesEndNoEpoch, EndedAreFaithful, PassesNoCheck}
use Rattle.memory_trace.proofs.SoundAccesses.{by-refusal, either}

pub ended-law : (L : Type 0) → EndedAreFaithful L
ended-law L layout tree lines log stamps trace stands clean image = elim stands.log_stands.trace.ended [
  | inl well ↦ well.faithful image
  | inr collision ↦ absurd (clean.none collision.number
      (subst (λ (t : List Event). LogCollision (value_under log.key) t collision.number) (in_order-history trace) collision.collides))
]

-- ---- events none of which is a passed check

until-one : (event : Event) (older : History) → is_passed event ≡ false → until is_passed (event ◂ older) ≡ until is_passed older
until-one event older not = ap (λ (b : Bool). cond b older (until is_passed older)) not

until-through : (older : History) (rest : List Event) → list_any is_passed rest ≡ false → until is_passed (followed older rest) ≡ until is_passed older
until-through older [] none = refl
until-through older (event ∷ rest) none =
    let parts : (is_passed event ≡ false) × (list_any is_passed rest ≡ false) = or_parts (is_passed event) (list_any is_passed rest) none in
    until-through (event ◂ older) rest parts.1 ∙ until-one event older parts.0

ended-stays : (image : Place → Option (List ℕ)) (old new : List Event) → PassesNoCheck old new → EndedFaithful image (history old) → EndedFaithful image (history new)
ended-stays image old new passes ended = record {
  ended = subst (λ (h : History). LogFaithful image h)
      (sym (ap (λ (h : History). until is_passed h) (history-append new old passes.events passes.appended) ∙ until-through (history old) passes.events passes.none)) ended.ended;
}

-- an event that moves a block is none
move-not_passed : (event : Event) → is_block_move event ≡ true → is_passed event ≡ false
move-not_passed (Note CheckPassed) move = cc
move-not_passed event move = refl

moves-none : (events : List Event) → All (λ event. IsTrue (is_block_move event)) events → list_any is_passed events ≡ false
moves-none [] moves = refl
moves-none (event ∷ events) moves =
    or_from (is_passed event) (list_any is_passed events) (move-not_passed event (All-head (λ event. IsTrue (is_block_move event)) event events moves))
    (moves-none events (All-tail (λ event. IsTrue (is_block_move event)) event events moves))

-- ---- accesses

loads-pass_none : {L : Type 0} (value : List ℕ → ℕ) (in_word : ℕ → ℕ) (at : ℕ) (answer : Result ℕ Stop) (old new : Sight L) → Loads value in_word at answer old new
    → PassesNoCheck old.trace new.trace
loads-pass_none value in_word at (Err reason) old new stopped = record { events = stopped.events; appended = stopped.appended; none = moves-none stopped.events stopped.moves }
loads-pass_none value in_word at (Ok word) old new loads =
    either (LoadsOpen in_word at word old new) (LoadsBlock value at word old new) (PassesNoCheck old.trace new.trace) (nat_lt at OPEN_END)
    (λ _ (opened : LoadsOpen in_word at word old new). record { events = WordRead Secure (word_start at) opened.read ∷ []; appended = opened.acts.appended; none = refl })
    (λ _ (block : LoadsBlock value at word old new).
    record { events = block.reaches.events; appended = block.reaches.acts.appended; none = moves-none block.reaches.events block.reaches.moves }) loads

stores-pass_none : {L : Type 0} (value : ℕ → ℕ) (left : List ℕ → List ℕ) (events : ℕ → List Event) (at : ℕ) (answer : Result (Unit {0}) Stop) (old new : Sight L)
    → ((read : ℕ) → list_any is_passed (events read) ≡ false) → Stores value left events at answer old new → PassesNoCheck old.trace new.trace
stores-pass_none value left events at (Err reason) old new none stopped = record { events = stopped.events; appended = stopped.appended; none = moves-none stopped.events stopped.moves }
stores-pass_none value left events at (Ok done) old new none stores =
    either (StoresOpen events old new) (StoresBlock value left at old new) (PassesNoCheck old.trace new.trace) (nat_lt at OPEN_END)
    (λ _ (opened : StoresOpen events old new). record { events = events opened.read; appended = opened.acts.appended; none = none opened.read })
    (λ _ (block : StoresBlock value left at old new).
    record { events = block.reaches.events; appended = block.acts.appended; none = moves-none block.reaches.events block.reaches.moves }) stores

passes-still : {L : Type 0} (old new : Sight L) → new ≡ old → PassesNoCheck old.trace new.trace
passes-still old new same =
    subst (λ (s : Sight _). PassesNoCheck old.trace s.trace) (sym same) (record { events = []; appended = sym (append-nil old.trace); none = refl })

unless-passes : {L T : Type 0} (refusal : Option Why) (answer : Result T Stop) (old new : Sight L) (P : Type 0) → (P → PassesNoCheck old.trace new.trace) → Unless refusal answer old new P
    → PassesNoCheck old.trace new.trace
unless-passes refusal answer old new P passes does =
    by-refusal refusal answer old new P (PassesNoCheck old.trace new.trace) (λ _ p. passes p) (λ why is same. passes-still old new same) does

pub no_epoch-law : (L : Type 0) → AccessesEndNoEpoch L
no_epoch-law L = record {
  ended = ended-stays;
  fetch = λ at answer old new does. unless-passes (word_refusal old.layout old.mode Fetch at) answer old new (FetchesWord at answer old new)
      (λ (fetches : FetchesWord at answer old new). loads-pass_none (λ payload. word_at payload at) (λ word. word) at answer (pinning [] old) (pinning [] new) fetches.loads) does;
  load_word = λ at answer old new does. unless-passes (word_refusal old.layout old.mode Read at) answer old new
      (Loads (λ payload. word_at payload at) (λ word. word) at answer old new)
      (loads-pass_none (λ payload. word_at payload at) (λ word. word) at answer old new) does;
  load_byte = λ at answer old new does. unless-passes (byte_refusal old.layout old.mode Read at) answer old new
      (Loads (λ payload. byte_at payload at) (λ word. byte_in word at) at answer old new)
      (loads-pass_none (λ payload. byte_at payload at) (λ word. byte_in word at) at answer old new) does;
  store_word = λ at word answer old new does. unless-passes (word_refusal old.layout old.mode Write at) answer old new
      (Stores (λ before. word) (λ payload. with_word_at payload at word) (λ read. WordWrite Secure at word ∷ []) at answer old new)
      (stores-pass_none (λ before. word) (λ payload. with_word_at payload at word) (λ read. WordWrite Secure at word ∷ []) at answer old new (λ read. refl)) does;
  store_byte = λ at byte answer old new does. unless-passes (byte_refusal old.layout old.mode Write at) answer old new
      (Stores (λ before. with_byte before at byte) (λ payload. with_byte_at payload at byte)
      (λ read. WordRead Secure (word_start at) read ∷ WordWrite Secure (word_start at) (with_byte read at byte) ∷ []) at answer old new)
      (stores-pass_none (λ before. with_byte before at byte) (λ payload. with_byte_at payload at byte)
      (λ read. WordRead Secure (word_start at) read ∷ WordWrite Secure (word_start at) (with_byte read at byte) ∷ []) at answer old new (λ read. refl)) does;
}
