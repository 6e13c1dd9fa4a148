-- Worked images that are sound, and that are not.
use Rattle.std.proofs.Common.{◌≡◌, ℕ, ◌-◌, zero, suc, true, false, List, [], ◌∷◌, ◌++◌, length, replicate, Option, Some, None, refl, ap, subst, arith}
use Rattle.execution.specs.Run.{Next, Goes, Stops, state_of}
use Rattle.execution.specs.Traffic.{Entry}
use Rattle.orbis_word.specs.Reading.{instruction_in, signed}
use Rattle.regions.specs.Addresses.{class_at}
use Rattle.regions.specs.LooseClasses.{shared_and_logged_loose}
use Rattle.orbis_core.specs.declared.memory.Why.{Why}
use Rattle.orbis_core.specs.declared.memory.Why.TheVariants as why
use Rattle.orbis_core.specs.ByteOrder.{bytes_of}
use Rattle.orbis_core.specs.Ideal.{Ideal, IdealEnd, Ended, Refused, effect_at, ideal_run}
use Rattle.orbis_core.specs.Soundness.{IsSoundCode, LoggedAddressIsUnsound, OpenLoadIsUnsound, OpenStoreIsUnsound, ReleaseIsSound, is_open_byte, small_layout}

-- how a run ended, if it did
abbrev end_of : Next Ideal IdealEnd → Option IdealEnd
end_of (Goes state) = None
end_of (Stops end state) = Some end

goes-no-stop : (state at : Ideal) (end : IdealEnd) → Goes state ≡ Stops end at → ⊥
goes-no-stop state at end same = let e : None ≡ Some end = ap end_of same in grind (arith, e)

stop-no-goes : (state at : Ideal) (end : IdealEnd) → Stops end state ≡ Goes at → ⊥
stop-no-goes state at end same = let e : Some end ≡ None = ap end_of same in grind (arith, e)

ended-no-refusal : (state at : Ideal) (reason : Why) → Stops Ended state ≡ Stops (Refused reason) at → ⊥
ended-no-refusal state at reason same = let e : Some Ended ≡ Some (Refused reason) = ap end_of same in grind (arith, e)

-- the worked code, with the instructions that do nothing after it
abbrev code : List ℕ → List ℕ
code words = bytes_of (words ++ replicate (16 - length words) 0x15000000)

-- where a run with these loose words comes to
abbrev run_of : List ℕ → List ℕ → List (Entry ℕ) → ℕ → Next Ideal IdealEnd
run_of words input loose steps = ideal_run small_layout shared_and_logged_loose (code words) 0 input loose steps

abbrev release : List ℕ
release = 0x70000006 ∷ 0x70000001 ∷ []

not-refused : (input : List ℕ) (loose : List (Entry ℕ)) (steps : ℕ) (reason : Why) (at : Ideal) → run_of release input loose steps ≡ Stops (Refused reason) at → ⊥
unfolding instruction_in signed class_at
not-refused input loose zero reason at same = goes-no-stop _ at (Refused reason) same
not-refused input loose (suc zero) reason at same = goes-no-stop _ at (Refused reason) same
not-refused input loose (suc (suc steps)) reason at same = ended-no-refusal _ at reason same

no-byte : (input : List ℕ) (loose : List (Entry ℕ)) (steps : ℕ) (at : Ideal) → run_of release input loose steps ≡ Goes at → is_open_byte small_layout (effect_at at) ≡ false
unfolding instruction_in signed class_at
no-byte input loose zero at same = subst (λ (s : Ideal). is_open_byte small_layout (effect_at s) ≡ false) (ap state_of same) refl
no-byte input loose (suc zero) at same = subst (λ (s : Ideal). is_open_byte small_layout (effect_at s) ≡ false) (ap state_of same) refl
no-byte input loose (suc (suc steps)) at same = absurd (stop-no-goes _ at Ended same)

pub release-sound : ReleaseIsSound
release-sound = record { never_refused = not-refused; no_open_byte = no-byte }

pub logged-unsound : LoggedAddressIsUnsound
unfolding instruction_in signed class_at
logged-unsound sound =
    let loose : List (Entry ℕ) = record { place = 0x20000000; word = 1 } ∷ [] in
    sound.never_refused [] loose 3 why.Misaligned (state_of (run_of (0x18802000 ∷ 0x84a40000 ∷ 0x84650000 ∷ 0x70000001 ∷ []) [] loose 3)) refl

pub load-unsound : OpenLoadIsUnsound
unfolding instruction_in signed class_at
load-unsound sound =
    let e : true ≡ false = sound.no_open_byte [] [] 1 (state_of (run_of (0xa8808000 ∷ 0x8c640000 ∷ 0x70000001 ∷ []) [] [] 1)) refl in
    grind (arith, e)

pub store-unsound : OpenStoreIsUnsound
unfolding instruction_in signed class_at
store-unsound sound =
    let e : true ≡ false = sound.no_open_byte [] [] 1 (state_of (run_of (0xa8808000 ∷ 0xd8042800 ∷ 0x70000001 ∷ []) [] [] 1)) refl in
    grind (arith, e)
