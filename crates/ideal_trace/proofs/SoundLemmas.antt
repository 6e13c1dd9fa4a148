-- What soundness gives for runs on which shared words alone are loose.
use Rattle.std.proofs.Common.{◌≡◌, ℕ, false, List, Option, None, option_map, unwrap_or, refl, ap, ◌∙◌, subst}
use Rattle.std.specs.Prelude.{IsTrue}
use Rattle.execution.specs.Run.{Next, Goes, Stops, state_of}
use Rattle.execution.specs.Traffic.{Entry}
use Rattle.execution.proofs.RunLemmas.{run-keeps}
use Rattle.orbis_word.specs.Reading.{instruction_in}
use Rattle.regions.specs.declared.Class.{Class}
use Rattle.regions.specs.declared.Class.TheVariants.{Open, Verified, Private, Constant, Code, Logged}
use Rattle.regions.specs.declared.Access.TheVariants.{Fetch}
use Rattle.regions.specs.LooseClasses.{AreAmong, shared_loose, shared_and_logged_loose}
use Rattle.regions.specs.Modes.{is_secure}
use Rattle.orbis_core.specs.declared.Why.{Why}
use Rattle.orbis_core.specs.Effects.{effect_of}
use Rattle.orbis_core.specs.Ideal.{Ideal, IdealEnd, Refused, effect_at, from_entries, ideal_start, ideal_step, is_among}
use Rattle.orbis_core.specs.IdealLaws.{IsWholeState}
use Rattle.orbis_core.specs.Loosening.{ComesLoosened}
use Rattle.orbis_core.specs.Refusals.{word_refusal}
use Rattle.orbis_core.specs.Soundness.{is_open_byte}
use Rattle.orbis_core.proofs.IdealLemmas.{code-fetched, mode-secure}
use Rattle.orbis_core.proofs.LooseningLemmas.{runs-loosen}
use Rattle.orbis_core.proofs.WholeLemmas.{states-whole}
use Rattle.bus_machine.specs.BusMachine.{LoadedProgram}
use Rattle.ideal_trace.specs.FaithfulRuns.{IsSoundProgram}
use Rattle.ideal_trace.specs.IdealRuns.{ideal_steps}

pub shared-among : AreAmong shared_loose shared_and_logged_loose
shared-among Open loose = refl
shared-among Verified loose = absurd (cc)
shared-among Private loose = absurd (cc)
shared-among Constant loose = absurd (cc)
shared-among Code loose = absurd (cc)
shared-among Logged loose = refl

module _ (program : LoadedProgram) (sound : IsSoundProgram program) where
  abbrev pub start : List (Entry ℕ) → Ideal
  start words = ideal_start program.layout program.statics program.entry program.input words

  pub start-whole : (words : List (Entry ℕ)) → IsWholeState (start words)
  start-whole words = states-whole program.layout shared_loose program.statics program.entry program.input words 0 sound.statics sound.entry

  pub run-secure : (words : List (Entry ℕ)) (steps : ℕ) → IsTrue (is_secure (state_of (ideal_steps program shared_loose words steps)).mode)
  run-secure words steps =
      run-keeps (ideal_step program.layout shared_loose) (λ (s : Ideal). IsTrue (is_secure s.mode)) (λ s secure. mode-secure program.layout (from_entries shared_loose) s secure) steps (start words) refl

  -- the run with logged words loose too
  looser-run : (words : List (Entry ℕ)) (steps : ℕ)
      → (others : List (Entry ℕ)) × ComesLoosened program.layout shared_and_logged_loose (ideal_steps program shared_loose words steps) (ideal_steps program shared_and_logged_loose others steps)
  looser-run words steps =
      runs-loosen program.layout shared_loose shared_and_logged_loose shared-among refl steps (start words) (start words).memory 0 (start-whole words) refl (λ at free. refl)

  pub run-unrefused : (words : List (Entry ℕ)) (steps : ℕ) (reason : Why) (at : Ideal) → ideal_steps program shared_loose words steps ≡ Stops (Refused reason) at → ⊥
  run-unrefused words steps reason at same = go (looser-run words steps)
    where
      by : (others : List (Entry ℕ)) (next : Next Ideal IdealEnd) → ideal_steps program shared_and_logged_loose others steps ≡ next
          → ComesLoosened program.layout shared_and_logged_loose (Stops (Refused reason) at) next → ⊥
      by others (Goes other) is comes = comes
      by others (Stops final other) is comes = sound.sound.never_refused program.input others steps reason other (is ∙ ap (λ (e : IdealEnd). Stops e other) comes.0)

      go : (others : List (Entry ℕ)) × ComesLoosened program.layout shared_and_logged_loose (ideal_steps program shared_loose words steps) (ideal_steps program shared_and_logged_loose others steps) → ⊥
      go found =
          by found.0 (ideal_steps program shared_and_logged_loose found.0 steps) refl
          (subst (λ (n : Next Ideal IdealEnd). ComesLoosened program.layout shared_and_logged_loose n (ideal_steps program shared_and_logged_loose found.0 steps)) same found.1)

  pub no-open-byte : (words : List (Entry ℕ)) (steps : ℕ) (state : Ideal) → ideal_steps program shared_loose words steps ≡ Goes state
      → word_refusal program.layout state.mode Fetch state.core.pc ≡ None → is_open_byte program.layout (effect_at state) ≡ false
  no-open-byte words steps state same none = go (looser-run words steps)
    where
      secure : IsTrue (is_secure state.mode)
      secure = subst (λ (n : Next Ideal IdealEnd). IsTrue (is_secure (state_of n).mode)) same (run-secure words steps)

      free : is_among shared_and_logged_loose program.layout state.core.pc ≡ false
      free = ap (λ (found : Option Class). unwrap_or (option_map shared_and_logged_loose found) false) (code-fetched program.layout state secure none)

      by : (others : List (Entry ℕ)) (next : Next Ideal IdealEnd) → ideal_steps program shared_and_logged_loose others steps ≡ next
          → ComesLoosened program.layout shared_and_logged_loose (Goes state) next → is_open_byte program.layout (effect_at state) ≡ false
      by others (Goes other) is comes =
          let closed : is_open_byte program.layout (effect_at other) ≡ false = sound.sound.no_open_byte program.input others steps other is in
          subst (λ (word : ℕ). is_open_byte program.layout (option_map (λ instruction. effect_of instruction state.core) (instruction_in word)) ≡ false) (comes.agrees state.core.pc free)
          (subst (λ (o : Ideal). is_open_byte program.layout (effect_at o) ≡ false) comes.is closed)
      by others (Stops final other) is comes = absurd comes

      go : (others : List (Entry ℕ)) × ComesLoosened program.layout shared_and_logged_loose (ideal_steps program shared_loose words steps) (ideal_steps program shared_and_logged_loose others steps)
          → is_open_byte program.layout (effect_at state) ≡ false
      go found =
          by found.0 (ideal_steps program shared_and_logged_loose found.0 steps) refl
          (subst (λ (n : Next Ideal IdealEnd). ComesLoosened program.layout shared_and_logged_loose n (ideal_steps program shared_and_logged_loose found.0 steps)) same found.1)
