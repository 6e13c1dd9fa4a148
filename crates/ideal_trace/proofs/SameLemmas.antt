-- A step of a machine rests on the words at addresses that are divisible by four, and on no other part of its memory.
use Rattle.std.proofs.Common.{◌∙◌, ◌≡◌, ℕ, ◌%◌, Bool, true, false, ◌==◌, if◌then◌else◌, ◌&&◌, is_none, length, Option, Some, None, option_and_then, option_map, refl, sym, ap, subst, arith}
use Rattle.execution.specs.Run.{Next, Goes, Stops}
use Rattle.orbis_word.specs.declared.Instr.{Instr}
use Rattle.orbis_word.specs.Reading.{instruction_in}
use Rattle.regions.specs.declared.Layout.{Layout}
use Rattle.regions.specs.declared.Mode.{Mode}
use Rattle.regions.specs.declared.Access.{Access}
use Rattle.regions.specs.declared.Access.TheVariants.{Read, Write, Fetch}
use Rattle.regions.specs.Modes.{SecureInstruction, Enter, Exit, IndexTrap, DivideTrap, Suspend, Resume, PrivateOn, PrivateOff, Release, Input, Check, allowed_in}
use Rattle.std.proofs.lemmas.Bool.{eqb-true}
use Rattle.orbis_core.specs.declared.Effect.{Effect}
use Rattle.orbis_core.specs.declared.Effect.TheVariants as effect
use Rattle.orbis_core.specs.declared.Why.{Why}
use Rattle.orbis_core.specs.declared.Why.TheVariants as why
use Rattle.orbis_core.specs.ByteOrder.{byte_in, updated, with_byte, word_start}
use Rattle.orbis_core.specs.Effects.{effect_of}
use Rattle.orbis_core.specs.Ideal.{effect_at, secure_by, Ideal, IdealEnd, Outside, Refused, carried, executed, instruction_at, is_among, loaded, machine_step, secured, stores, taken, unless}
use Rattle.orbis_core.specs.Refusals.{word_refusal, byte_refusal, is_allowed}
use Rattle.orbis_core.specs.Secure.{secure_of}
use Rattle.ideal_trace.specs.FaithfulRuns.{HasSameWords}
use Rattle.ideal_trace.specs.IdealRuns.{IsSameMachine}
use Rattle.ideal_trace.specs.SameSteps.{ComesSame, SameMachinesStepAlike}
use Rattle.bus_machine.specs.BusData.{asks_check, needs_check}

pub goes-same : (state : Ideal) (next its : Next Ideal IdealEnd) → next ≡ Goes state → ComesSame next its → (other : Ideal) × (its ≡ Goes other) × IsSameMachine state other
goes-same state next its is comes = go its (subst (λ (n : Next Ideal IdealEnd). ComesSame n its) is comes)
  where
    go : (its : Next Ideal IdealEnd) → ComesSame (Goes state) its → (other : Ideal) × (its ≡ Goes other) × IsSameMachine state other
    go (Goes other) same = (other, refl, same)
    go (Stops end other) same = absurd same

pub stops-same : (end : IdealEnd) (state : Ideal) (next its : Next Ideal IdealEnd) → next ≡ Stops end state → ComesSame next its
    → (other : Ideal) × (its ≡ Stops end other) × IsSameMachine state other
stops-same end state next its is comes = go its (subst (λ (n : Next Ideal IdealEnd). ComesSame n its) is comes)
  where
    go : (its : Next Ideal IdealEnd) → ComesSame (Stops end state) its → (other : Ideal) × (its ≡ Stops end other) × IsSameMachine state other
    go (Goes other) same = absurd same
    go (Stops final other) same = (other, ap (λ (e : IdealEnd). Stops e other) same.0, same.1)

-- an access to a word that is not refused is aligned
pub word-aligned : (layout : Layout) (mode : Mode) (access : Access) (at : ℕ) → word_refusal layout mode access at ≡ None → at % 4 ≡ 0
word-aligned layout mode access at none = go (is_allowed layout mode access at) (at % 4 == 0) refl none
  where
    go : (allowed aligned : Bool) → (at % 4 == 0) ≡ aligned → (if allowed then (if aligned then None else Some why.Misaligned) else Some why.Rights) ≡ None → at % 4 ≡ 0
    go true true is none = eqb-true (at % 4) 0 is
    go true false is none = absurd (cc)
    go false aligned is none = absurd (cc)

pub start-aligned : (at : ℕ) → word_start at % 4 ≡ 0
start-aligned at = omega arith

-- a word is stored in both
pub updated-same : (one other : ℕ → ℕ) (at word stored : ℕ) → HasSameWords one other → stored ≡ word → HasSameWords (updated one at word) (updated other at stored)
updated-same one other at word stored same equal = record { word = λ a aligned. go (a == at) a aligned }
  where
    go : (b : Bool) (a : ℕ) → a % 4 ≡ 0 → (if b then stored else other a) ≡ (if b then word else one a)
    go true a aligned = equal
    go false a aligned = same.word a aligned

module _ (layout : Layout) (outside : Outside) (state : Ideal) (memory : ℕ → ℕ) (same : HasSameWords state.memory memory) where
  abbrev twin : Ideal
  twin = record state { memory = memory }

  is-twin : IsSameMachine state twin
  is-twin = record { words = same; is = refl }

  unless-same : (r : Option Why) (next its : Next Ideal IdealEnd) → (r ≡ None → ComesSame next its) → ComesSame (unless r state next) (unless r twin its)
  unless-same None next its later = later refl
  unless-same (Some reason) next its later = (refl, is-twin)

  load-same : (b : Bool) (d word its : ℕ) (came : Option ℕ) → (b ≡ false → its ≡ word)
      → ComesSame (if b then taken d came state else loaded d word state) (if b then taken d came twin else loaded d its twin)
  load-same true d word its None equal = (refl, is-twin)
  load-same true d word its (Some came) equal = record { words = same; is = refl }
  load-same false d word its came equal = subst (λ (w : ℕ). ComesSame (loaded d word state) (loaded d w twin)) (sym (equal refl)) (record { words = same; is = refl })

  store-same : (at value word its : ℕ) → its ≡ word → ComesSame (stores layout outside.is_loose at value word state) (stores layout outside.is_loose at value its twin)
  store-same at value word its equal = record { words = go (is_among outside.is_loose layout at); is = refl }
    where
      go : (free : Bool) → HasSameWords (if free then state.memory else updated state.memory (word_start at) word) (if free then memory else updated memory (word_start at) its)
      go true = same
      go false = updated-same state.memory memory (word_start at) word its same equal

  secured-same : (asked : SecureInstruction) → ComesSame (secured asked state) (secured asked twin)
  secured-same Enter = record { words = same; is = refl }
  secured-same Exit = (refl, record { words = same; is = refl })
  secured-same IndexTrap = (refl, record { words = same; is = refl })
  secured-same DivideTrap = (refl, record { words = same; is = refl })
  secured-same Suspend = record { words = same; is = refl }
  secured-same Resume = record { words = same; is = refl }
  secured-same PrivateOn = record { words = same; is = refl }
  secured-same PrivateOff = record { words = same; is = refl }
  secured-same Release = record { words = same; is = refl }
  secured-same Input = record { words = same; is = refl }
  secured-same Check = record { words = same; is = refl }

  tested-same : (allowed : Bool) (asked : SecureInstruction)
      → ComesSame (if allowed then secured asked state else Stops (Refused why.Mode) state) (if allowed then secured asked twin else Stops (Refused why.Mode) twin)
  tested-same true asked = secured-same asked
  tested-same false asked = (refl, is-twin)

  carried-same : (asked : Effect) → ComesSame (carried layout outside asked state) (carried layout outside asked twin)
  carried-same (effect.LoadWord d at) =
      unless-same (word_refusal layout state.mode Read at) _ _
      (λ none. load-same (is_among outside.is_loose layout at) d (state.memory at) (memory at) (outside.word at state.traffic) (λ closed. same.word at (word-aligned layout state.mode Read at none)))
  carried-same (effect.LoadByte d at) =
      unless-same (byte_refusal layout state.mode Read at) _ _
      (λ none. load-same (is_among outside.is_loose layout at) d (byte_in (state.memory (word_start at)) at) (byte_in (memory (word_start at)) at) (outside.byte at state.traffic)
      (λ closed. ap (λ (w : ℕ). byte_in w at) (same.word (word_start at) (start-aligned at))))
  carried-same (effect.StoreWord at word) = unless-same (word_refusal layout state.mode Write at) _ _ (λ none. store-same at word word word refl)
  carried-same (effect.StoreByte at byte) =
      unless-same (byte_refusal layout state.mode Write at) _ _
      (λ none. store-same at byte (with_byte (state.memory (word_start at)) at byte) (with_byte (memory (word_start at)) at byte)
      (ap (λ (w : ℕ). with_byte w at byte) (same.word (word_start at) (start-aligned at))))
  carried-same (effect.Secure f) = tested-same (allowed_in (secure_of f) state.mode) (secure_of f)
  carried-same effect.DivideByZero = (refl, is-twin)
  carried-same effect.Proceed = record { words = same; is = refl }
  carried-same (effect.Write d value) = record { words = same; is = refl }
  carried-same (effect.Compare flag) = record { words = same; is = refl }
  carried-same (effect.Jump target) = record { words = same; is = refl }
  carried-same (effect.Link target) = record { words = same; is = refl }

  executed-same : (found : Option Instr) → ComesSame (executed layout outside found state) (executed layout outside found twin)
  executed-same None = (refl, is-twin)
  executed-same (Some instruction) = carried-same (effect_of instruction state.core)

  -- the word at the program counter, where it may be fetched
  pub fetch-same : word_refusal layout state.mode Fetch state.core.pc ≡ None → memory state.core.pc ≡ state.memory state.core.pc
  fetch-same none = same.word state.core.pc (word-aligned layout state.mode Fetch state.core.pc none)

  pub step-same : ComesSame (machine_step layout outside state) (machine_step layout outside twin)
  step-same =
      unless-same (word_refusal layout state.mode Fetch state.core.pc) _ _
      (λ none. subst (λ (w : ℕ). ComesSame (executed layout outside (instruction_at state) state) (executed layout outside (instruction_in w) twin)) (sym (fetch-same none))
      (executed-same (instruction_at state)))

-- ---- the law

abbrev asked_for : Ideal → ℕ → Option Effect
asked_for state word = option_map (λ instruction. effect_of instruction state.core) (instruction_in word)

asks-same : (layout : Layout) (state other : Ideal) → IsSameMachine state other → word_refusal layout state.mode Fetch state.core.pc ≡ None → effect_at other ≡ effect_at state
asks-same layout state other same none =
    ap (λ (o : Ideal). effect_at o) same.is ∙ ap (asked_for state) (same.words.word state.core.pc (word-aligned layout state.mode Fetch state.core.pc none))

checks-same : (layout : Layout) (state other : Ideal) (sent : ℕ) → IsSameMachine state other → needs_check layout (Goes other) sent ≡ needs_check layout (Goes state) sent
checks-same layout state other sent same = ap (λ (o : Ideal). needs_check layout (Goes o) sent) same.is ∙ go (word_refusal layout state.mode Fetch state.core.pc) refl
  where
    go : (r : Option Why) → word_refusal layout state.mode Fetch state.core.pc ≡ r
        → (is_none r && asks_check (option_and_then secure_by (asked_for state (other.memory state.core.pc))) (length state.traffic.bytes) sent)
        ≡ (is_none r && asks_check (option_and_then secure_by (asked_for state (state.memory state.core.pc))) (length state.traffic.bytes) sent)
    go None none =
        ap (λ (word : ℕ). asks_check (option_and_then secure_by (asked_for state word)) (length state.traffic.bytes) sent) (same.words.word state.core.pc (word-aligned layout state.mode Fetch state.core.pc none))
    go (Some reason) some = refl

steps-same : (layout : Layout) (outside : Outside) (state other : Ideal) → IsSameMachine state other → ComesSame (machine_step layout outside state) (machine_step layout outside other)
steps-same layout outside state other same =
    subst (λ (o : Ideal). ComesSame (machine_step layout outside state) (machine_step layout outside o)) (sym same.is) (step-same layout outside state other.memory same.words)

pub same-steps : SameMachinesStepAlike
same-steps = record { asks = asks-same; checks = checks-same; steps = steps-same }
