-- Whether a step is refused rests on the processor, the mode and the word that is fetched alone; and what a step writes.
use Rattle.std.proofs.Common.{◌≡◌, ℕ, Bool, true, false, if◌then◌else◌, List, [], ◌++◌, Option, Some, None, option_map, refl, sym, ap, ◌∙◌}
use Rattle.std.proofs.lemmas.List.{append-nil}
use Rattle.execution.specs.Run.{Next, Goes, Stops, state_of}
use Rattle.execution.specs.Traffic.{Entry, Traffic, after_write}
use Rattle.orbis_word.specs.declared.Instr.{Instr}
use Rattle.orbis_word.specs.Reading.{instruction_in}
use Rattle.regions.specs.declared.Layout.{Layout}
use Rattle.regions.specs.declared.Access.TheVariants.{Read, Write, Fetch}
use Rattle.regions.specs.LooseClasses.{shared_loose}
use Rattle.regions.specs.Modes.{SecureInstruction, Enter, Exit, IndexTrap, DivideTrap, Suspend, Resume, PrivateOn, PrivateOff, Release, Input, Check, allowed_in}
use Rattle.orbis_core.specs.declared.Effect.{Effect}
use Rattle.orbis_core.specs.declared.Effect.TheVariants as effect
use Rattle.orbis_core.specs.declared.Why.{Why}
use Rattle.orbis_core.specs.declared.Why.TheVariants as why
use Rattle.orbis_core.specs.ByteOrder.{byte_in, word_start}
use Rattle.orbis_core.specs.Effects.{effect_of}
use Rattle.orbis_core.specs.Ideal.{Ideal, IdealEnd, Outside, Refused, Ended, Index, Divide, Starved, carried, effect_at, executed, instruction_at, is_among, loaded, machine_step, secured, taken, unless}
use Rattle.orbis_core.specs.Refusals.{word_refusal, byte_refusal}
use Rattle.orbis_core.specs.Secure.{secure_of}
use Rattle.orbis_core.specs.Soundness.{is_open_byte}
use Rattle.bus_machine.specs.BusAccesses.{ByClass}
use Rattle.ideal_trace.specs.FaithfulRuns.{ExchangesFor, NoWords, OneChanged, OneRead, OneWritten}
use Rattle.ideal_trace.proofs.StepLemmas.{IsUnrefused}

-- the reason for which a machine was refused, if it was
abbrev pub refusal_of : Next Ideal IdealEnd → Option Why
refusal_of (Goes state) = None
refusal_of (Stops Ended state) = None
refusal_of (Stops (Index place) state) = None
refusal_of (Stops (Divide place) state) = None
refusal_of (Stops Starved state) = None
refusal_of (Stops (Refused reason) state) = Some reason

pub none-unrefused : (next : Next Ideal IdealEnd) → refusal_of next ≡ None → IsUnrefused next
none-unrefused (Goes state) none = tt
none-unrefused (Stops Ended state) none = tt
none-unrefused (Stops (Index place) state) none = tt
none-unrefused (Stops (Divide place) state) none = tt
none-unrefused (Stops Starved state) none = tt
none-unrefused (Stops (Refused reason) state) none = absurd (cc)

pub unrefused-none : (next : Next Ideal IdealEnd) → IsUnrefused next → refusal_of next ≡ None
unrefused-none (Goes state) un = refl
unrefused-none (Stops Ended state) un = refl
unrefused-none (Stops (Index place) state) un = refl
unrefused-none (Stops (Divide place) state) un = refl
unrefused-none (Stops Starved state) un = refl
unrefused-none (Stops (Refused reason) state) un = absurd un

pub refusal-stops : (next : Next Ideal IdealEnd) (reason : Why) → refusal_of next ≡ Some reason → (at : Ideal) × (next ≡ Stops (Refused reason) at)
refusal-stops (Goes state) reason some = absurd (cc)
refusal-stops (Stops Ended state) reason some = absurd (cc)
refusal-stops (Stops (Index place) state) reason some = absurd (cc)
refusal-stops (Stops (Divide place) state) reason some = absurd (cc)
refusal-stops (Stops Starved state) reason some = absurd (cc)
refusal-stops (Stops (Refused other) state) reason some =
    let same : other ≡ reason = cc in
    (state, ap (λ (r : Why). Stops (Refused r) state) same)

-- a machine, and one with another memory and other words to come
module _ (layout : Layout) (outside other : Outside) (state : Ideal) (memory : ℕ → ℕ) (traffic : Traffic ℕ) where
  abbrev twin : Ideal
  twin = record state { memory = memory; traffic = traffic }

  unless-refusal : (r : Option Why) (next its : Next Ideal IdealEnd) → refusal_of next ≡ refusal_of its → refusal_of (unless r state next) ≡ refusal_of (unless r twin its)
  unless-refusal None next its same = same
  unless-refusal (Some reason) next its same = refl

  load-refusal : (b : Bool) (d word : ℕ) (came : Option ℕ) (at : Ideal) → refusal_of (if b then taken d came at else loaded d word at) ≡ None
  load-refusal true d word None at = refl
  load-refusal true d word (Some came) at = refl
  load-refusal false d word came at = refl

  secured-refusal : (asked : SecureInstruction) → refusal_of (secured asked state) ≡ refusal_of (secured asked twin)
  secured-refusal Enter = refl
  secured-refusal Exit = refl
  secured-refusal IndexTrap = refl
  secured-refusal DivideTrap = refl
  secured-refusal Suspend = refl
  secured-refusal Resume = refl
  secured-refusal PrivateOn = refl
  secured-refusal PrivateOff = refl
  secured-refusal Release = refl
  secured-refusal Input = refl
  secured-refusal Check = refl

  tested-refusal : (allowed : Bool) (asked : SecureInstruction)
      → refusal_of (if allowed then secured asked state else Stops (Refused why.Mode) state) ≡ refusal_of (if allowed then secured asked twin else Stops (Refused why.Mode) twin)
  tested-refusal true asked = secured-refusal asked
  tested-refusal false asked = refl

  carried-refusal : (asked : Effect) → refusal_of (carried layout outside asked state) ≡ refusal_of (carried layout other asked twin)
  carried-refusal (effect.LoadWord d at) =
      unless-refusal (word_refusal layout state.mode Read at) _ _
      (load-refusal (is_among outside.is_loose layout at) d (state.memory at) (outside.word at state.traffic) state
      ∙ sym (load-refusal (is_among other.is_loose layout at) d (memory at) (other.word at traffic) twin))
  carried-refusal (effect.LoadByte d at) =
      unless-refusal (byte_refusal layout state.mode Read at) _ _
      (load-refusal (is_among outside.is_loose layout at) d (byte_in (state.memory (word_start at)) at) (outside.byte at state.traffic) state
      ∙ sym (load-refusal (is_among other.is_loose layout at) d (byte_in (memory (word_start at)) at) (other.byte at traffic) twin))
  carried-refusal (effect.StoreWord at word) = unless-refusal (word_refusal layout state.mode Write at) _ _ refl
  carried-refusal (effect.StoreByte at byte) = unless-refusal (byte_refusal layout state.mode Write at) _ _ refl
  carried-refusal (effect.Secure f) = tested-refusal (allowed_in (secure_of f) state.mode) (secure_of f)
  carried-refusal effect.DivideByZero = refl
  carried-refusal effect.Proceed = refl
  carried-refusal (effect.Write d value) = refl
  carried-refusal (effect.Compare flag) = refl
  carried-refusal (effect.Jump target) = refl
  carried-refusal (effect.Link target) = refl

  executed-refusal : (found : Option Instr) → refusal_of (executed layout outside found state) ≡ refusal_of (executed layout other found twin)
  executed-refusal None = refl
  executed-refusal (Some instruction) = carried-refusal (effect_of instruction state.core)

  -- where the same word is fetched, both are refused or none is
  pub step-refusal : (word_refusal layout state.mode Fetch state.core.pc ≡ None → memory state.core.pc ≡ state.memory state.core.pc)
      → refusal_of (machine_step layout outside state) ≡ refusal_of (machine_step layout other twin)
  step-refusal agrees = go (word_refusal layout state.mode Fetch state.core.pc) refl
    where
      go : (r : Option Why) → word_refusal layout state.mode Fetch state.core.pc ≡ r
          → refusal_of (unless r state (executed layout outside (instruction_at state) state)) ≡ refusal_of (unless r twin (executed layout other (instruction_at twin) twin))
      go None is = executed-refusal (instruction_at state) ∙ ap (λ (word : ℕ). refusal_of (executed layout other (instruction_in word) twin)) (sym (agrees is))
      go (Some reason) is = refl

-- a step that is not refused was not refused its fetch
pub fetch-unrefused : (layout : Layout) (outside : Outside) (state : Ideal) → IsUnrefused (machine_step layout outside state) → word_refusal layout state.mode Fetch state.core.pc ≡ None
fetch-unrefused layout outside state un = go (word_refusal layout state.mode Fetch state.core.pc) un
  where
    go : (r : Option Why) → IsUnrefused (unless r state (executed layout outside (instruction_at state) state)) → r ≡ None
    go None un = refl
    go (Some reason) un = absurd un

-- ---- what a step writes

module _ (layout : Layout) (outside : Outside) (state : Ideal) (read wrote : List (Entry ℕ)) where
  abbrev Writes : Next Ideal IdealEnd → Type 0
  Writes next = (state_of next).traffic.writes ≡ state.traffic.writes ++ wrote

  nothing-written : (writes : List (Entry ℕ)) → wrote ≡ [] → writes ≡ state.traffic.writes → writes ≡ state.traffic.writes ++ wrote
  nothing-written writes none same = same ∙ sym (append-nil state.traffic.writes) ∙ ap (λ (ws : List (Entry ℕ)). state.traffic.writes ++ ws) (sym none)

  unless-writes : (r : Option Why) (next : Next Ideal IdealEnd) → IsUnrefused (unless r state next) → (IsUnrefused next → Writes next) → Writes (unless r state next)
  unless-writes None next un later = later un
  unless-writes (Some reason) next un later = absurd un

  read-only : (b : Bool) (at : ℕ) → ByClass b (OneRead at read wrote) (NoWords read wrote) → wrote ≡ []
  read-only true at row = row.2
  read-only false at row = row.1

  load-writes : (b : Bool) (d word : ℕ) (came : Option ℕ) → (state_of (if b then taken d came state else loaded d word state)).traffic.writes ≡ state.traffic.writes
  load-writes true d word None = refl
  load-writes true d word (Some came) = refl
  load-writes false d word came = refl

  word-writes : (b : Bool) (at word : ℕ) → ByClass b (OneWritten at word read wrote) (NoWords read wrote)
      → (if b then after_write at word state.traffic else state.traffic).writes ≡ state.traffic.writes ++ wrote
  word-writes true at word row = ap (λ (ws : List (Entry ℕ)). state.traffic.writes ++ ws) (sym row.1)
  word-writes false at word row = nothing-written state.traffic.writes row.1 refl

  byte-writes : (b : Bool) (at byte : ℕ) → b ≡ false → ByClass b (OneChanged at byte read wrote) (NoWords read wrote)
      → (if b then after_write at byte state.traffic else state.traffic).writes ≡ state.traffic.writes ++ wrote
  byte-writes true at byte closed row = absurd (cc)
  byte-writes false at byte closed row = nothing-written state.traffic.writes row.1 refl

  secured-writes : (asked : SecureInstruction) → (state_of (secured asked state)).traffic.writes ≡ state.traffic.writes
  secured-writes Enter = refl
  secured-writes Exit = refl
  secured-writes IndexTrap = refl
  secured-writes DivideTrap = refl
  secured-writes Suspend = refl
  secured-writes Resume = refl
  secured-writes PrivateOn = refl
  secured-writes PrivateOff = refl
  secured-writes Release = refl
  secured-writes Input = refl
  secured-writes Check = refl

  tested-writes : (allowed : Bool) (asked : SecureInstruction) → (state_of (if allowed then secured asked state else Stops (Refused why.Mode) state)).traffic.writes ≡ state.traffic.writes
  tested-writes true asked = secured-writes asked
  tested-writes false asked = refl

  carried-writes : (asked : Effect) → ExchangesFor layout (Some asked) read wrote → is_open_byte layout (Some asked) ≡ false → IsUnrefused (carried layout outside asked state) → Writes (carried layout outside asked state)
  carried-writes (effect.LoadWord d at) row closed un =
      unless-writes (word_refusal layout state.mode Read at) _ un
      (λ _. nothing-written _ (read-only (is_among shared_loose layout at) at row) (load-writes (is_among outside.is_loose layout at) d (state.memory at) (outside.word at state.traffic)))
  carried-writes (effect.LoadByte d at) row closed un =
      unless-writes (byte_refusal layout state.mode Read at) _ un
      (λ _. nothing-written _ (read-only (is_among shared_loose layout at) (word_start at) row)
      (load-writes (is_among outside.is_loose layout at) d (byte_in (state.memory (word_start at)) at) (outside.byte at state.traffic)))
  carried-writes (effect.StoreWord at word) row closed un =
      unless-writes (word_refusal layout state.mode Write at) _ un (λ _. word-writes (is_among shared_loose layout at) at word row)
  carried-writes (effect.StoreByte at byte) row closed un =
      unless-writes (byte_refusal layout state.mode Write at) _ un (λ _. byte-writes (is_among shared_loose layout at) at byte closed row)
  carried-writes (effect.Secure f) row closed un = nothing-written _ row.1 (tested-writes (allowed_in (secure_of f) state.mode) (secure_of f))
  carried-writes effect.DivideByZero row closed un = nothing-written _ row.1 refl
  carried-writes effect.Proceed row closed un = nothing-written _ row.1 refl
  carried-writes (effect.Write d value) row closed un = nothing-written _ row.1 refl
  carried-writes (effect.Compare flag) row closed un = nothing-written _ row.1 refl
  carried-writes (effect.Jump target) row closed un = nothing-written _ row.1 refl
  carried-writes (effect.Link target) row closed un = nothing-written _ row.1 refl

  executed-writes : (found : Option Instr) → ExchangesFor layout (option_map (λ instruction. effect_of instruction state.core) found) read wrote
      → is_open_byte layout (option_map (λ instruction. effect_of instruction state.core) found) ≡ false
      → IsUnrefused (executed layout outside found state) → Writes (executed layout outside found state)
  executed-writes None row closed un = absurd un
  executed-writes (Some instruction) row closed un = carried-writes (effect_of instruction state.core) row closed un

  -- a step that is not refused writes what it exchanged, where it makes no byte access to an open address
  pub step-writes : ExchangesFor layout (effect_at state) read wrote → is_open_byte layout (effect_at state) ≡ false → IsUnrefused (machine_step layout outside state)
      → (state_of (machine_step layout outside state)).traffic.writes ≡ state.traffic.writes ++ wrote
  step-writes row closed un = unless-writes (word_refusal layout state.mode Fetch state.core.pc) _ un (λ later. executed-writes (instruction_at state) row closed later)
