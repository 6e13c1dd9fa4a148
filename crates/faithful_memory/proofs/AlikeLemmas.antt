-- A step of the ideal machine on two memories that have the same words.
use Rattle.std.proofs.Common.{◌≡◌, ℕ, Bool, true, false, Option, Some, None, refl, sym, ap, ◌∙◌, subst, arith, inl, inr}
use Rattle.std.specs.Prelude.{◌==◌, if◌then◌else◌}
use Rattle.std.proofs.lemmas.Bool.{cases_Bool}
use Rattle.execution.specs.Run.{Next, Goes, Stops}
use Rattle.execution.specs.Traffic.{Traffic}
use Rattle.orbis_word.specs.declared.Instr.{Instr}
use Rattle.orbis_word.specs.Reading.{instruction_in}
use Rattle.regions.specs.declared.Class.{Class}
use Rattle.regions.specs.declared.Layout.{Layout}
use Rattle.regions.specs.declared.Mode.{Mode}
use Rattle.regions.specs.declared.Access.TheVariants.{Read, Write, Fetch}
use Rattle.regions.specs.Modes.{SecureInstruction, Enter, Exit, IndexTrap, DivideTrap, Suspend, Resume, PrivateOn, PrivateOff, Release, Input, Check, allowed_in}
use Rattle.orbis_core.specs.declared.effect.Effect.{Effect}
use Rattle.orbis_core.specs.declared.effect.Effect.TheVariants as effect
use Rattle.orbis_core.specs.declared.memory.Why.{Why}
use Rattle.orbis_core.specs.declared.memory.Why.TheVariants as why
use Rattle.orbis_core.specs.ByteOrder.{byte_in, updated, with_byte, word_start}
use Rattle.orbis_core.specs.Effects.{effect_of}
use Rattle.orbis_core.specs.Ideal.{Ideal, IdealEnd, Outside, carried, executed, is_among, loads, machine_step, memory_stored, Refused, permitted, secured, stores, taken, traffic_stored, unless}
use Rattle.orbis_core.specs.Processor.{Processor, written}
use Rattle.orbis_core.specs.Refusals.{byte_refusal, word_refusal}
use Rattle.orbis_core.specs.Secure.{secure_of}
use Rattle.secure_memory.proofs.IdealLemmas.{word-parts}
use Rattle.faithful_memory.specs.KnownWords.{HasSameWords}
use Rattle.faithful_memory.specs.StatesAlike.{GoAlike, IsAlike, StepsGoAlike}

-- a state with another memory
abbrev with_memory : Ideal → (ℕ → ℕ) → Ideal
with_memory state memory = record state { memory = memory }

alike-memory : (state : Ideal) (one other : ℕ → ℕ) → HasSameWords one other → IsAlike (with_memory state one) (with_memory state other)
alike-memory state one other same = record { core = refl; mode = refl; words = same; traffic = refl }

-- refused alike, or else as this says
unless-alike : (refusal : Option Why) (one other : Ideal) (next next_other : Next Ideal IdealEnd) → IsAlike one other → (refusal ≡ None → GoAlike next next_other)
    → GoAlike (unless refusal one next) (unless refusal other next_other)
unless-alike None one other next next_other alike goes = goes refl
unless-alike (Some why) one other next next_other alike goes = (refl, alike)

-- ---- loads and stores

taken-alike : (d : ℕ) (came : Option ℕ) (state : Ideal) (one other : ℕ → ℕ) → HasSameWords one other → GoAlike (taken d came (with_memory state one)) (taken d came (with_memory state other))
taken-alike d None state one other same = (refl, alike-memory state one other same)
taken-alike d (Some word) state one other same = record { core = refl; mode = refl; words = same; traffic = refl }

loads-alike : (layout : Layout) (outside : Outside) (d at : ℕ) (came : Option ℕ) (word word_other : ℕ) (state : Ideal) (one other : ℕ → ℕ) → HasSameWords one other → word_other ≡ word
    → GoAlike (loads layout outside d at came word (with_memory state one)) (loads layout outside d at came word_other (with_memory state other))
loads-alike layout outside d at came word word_other state one other same equal = by (is_among outside.is_loose layout at)
  where
    by : (b : Bool) → GoAlike (if b then taken d came (with_memory state one) else Goes (record (with_memory state one) { core = written state.core d word }))
        (if b then taken d came (with_memory state other) else Goes (record (with_memory state other) { core = written state.core d word_other }))
    by true = taken-alike d came state one other same
    by false = record { core = ap (λ (w : ℕ). written state.core d w) equal; mode = refl; words = same; traffic = refl }

updated-same : (at word word_other : ℕ) (one other : ℕ → ℕ) → HasSameWords one other → word_other ≡ word → HasSameWords (updated one at word) (updated other at word_other)
updated-same at word word_other one other same equal = record {
  word = λ place is. elim (cases_Bool (place == at)) [
    | inl here ↦ ap (λ (b : Bool). if b then word_other else other place) here ∙ equal ∙ sym (ap (λ (b : Bool). if b then word else one place) here)
    | inr there ↦ ap (λ (b : Bool). if b then word_other else other place) there ∙ same.word place is ∙ sym (ap (λ (b : Bool). if b then word else one place) there)
  ];
}

stored-same : (layout : Layout) (loose : Class → Bool) (at word word_other : ℕ) (one other : ℕ → ℕ) → HasSameWords one other → word_other ≡ word
    → HasSameWords (memory_stored layout loose at word one) (memory_stored layout loose at word_other other)
stored-same layout loose at word word_other one other same equal = by (is_among loose layout at)
  where
    by : (b : Bool) → HasSameWords (if b then one else updated one (word_start at) word) (if b then other else updated other (word_start at) word_other)
    by true = same
    by false = updated-same (word_start at) word word_other one other same equal

stores-alike : (layout : Layout) (loose : Class → Bool) (at value value_other word word_other : ℕ) (state : Ideal) (one other : ℕ → ℕ) → HasSameWords one other → value_other ≡ value → word_other ≡ word
    → GoAlike (stores layout loose at value word (with_memory state one)) (stores layout loose at value_other word_other (with_memory state other))
stores-alike layout loose at value value_other word word_other state one other same values equal = record {
  core = refl;
  mode = refl;
  words = stored-same layout loose at word word_other one other same equal;
  traffic = ap (λ (v : ℕ). traffic_stored layout at v state.traffic) values;
}

-- ---- secure instructions

secured-alike : (instruction : SecureInstruction) (state : Ideal) (one other : ℕ → ℕ) → HasSameWords one other
    → GoAlike (secured instruction (with_memory state one)) (secured instruction (with_memory state other))
secured-alike Exit state one other same = (refl, record { core = refl; mode = refl; words = same; traffic = refl })
secured-alike IndexTrap state one other same = (refl, record { core = refl; mode = refl; words = same; traffic = refl })
secured-alike DivideTrap state one other same = (refl, record { core = refl; mode = refl; words = same; traffic = refl })
secured-alike Suspend state one other same = record { core = refl; mode = refl; words = same; traffic = refl }
secured-alike Check state one other same = record { core = refl; mode = refl; words = same; traffic = refl }
secured-alike Release state one other same = record { core = refl; mode = refl; words = same; traffic = refl }
secured-alike Input state one other same = record { core = refl; mode = refl; words = same; traffic = refl }
secured-alike Enter state one other same = record { core = refl; mode = refl; words = same; traffic = refl }
secured-alike Resume state one other same = record { core = refl; mode = refl; words = same; traffic = refl }
secured-alike PrivateOn state one other same = record { core = refl; mode = refl; words = same; traffic = refl }
secured-alike PrivateOff state one other same = record { core = refl; mode = refl; words = same; traffic = refl }

permitted-alike : (instruction : SecureInstruction) (state : Ideal) (one other : ℕ → ℕ) → HasSameWords one other
    → GoAlike (permitted instruction (with_memory state one)) (permitted instruction (with_memory state other))
permitted-alike instruction state one other same = by (allowed_in instruction state.mode)
  where
    by : (b : Bool) → GoAlike (if b then secured instruction (with_memory state one) else Stops (Refused why.Mode) (with_memory state one))
        (if b then secured instruction (with_memory state other) else Stops (Refused why.Mode) (with_memory state other))
    by true = secured-alike instruction state one other same
    by false = (refl, alike-memory state one other same)

-- ---- an instruction

carried-alike : (layout : Layout) (outside : Outside) (asked : Effect) (state : Ideal) (one other : ℕ → ℕ) → HasSameWords one other
    → GoAlike (carried layout outside asked (with_memory state one)) (carried layout outside asked (with_memory state other))
carried-alike layout outside (effect.LoadWord d at) state one other same =
    unless-alike (word_refusal layout state.mode Read at) (with_memory state one) (with_memory state other) _ _ (alike-memory state one other same)
    (λ none. loads-alike layout outside d at (outside.word at state.traffic) (one at) (other at) state one other same (same.word at (word-parts layout state.mode Read at none).1))
carried-alike layout outside (effect.LoadByte d at) state one other same =
    unless-alike (byte_refusal layout state.mode Read at) (with_memory state one) (with_memory state other) _ _ (alike-memory state one other same)
    (λ none. loads-alike layout outside d at (outside.byte at state.traffic) (byte_in (one (word_start at)) at) (byte_in (other (word_start at)) at) state one other same
    (ap (λ (w : ℕ). byte_in w at) (same.word (word_start at) (omega arith))))
carried-alike layout outside (effect.StoreWord at word) state one other same =
    unless-alike (word_refusal layout state.mode Write at) (with_memory state one) (with_memory state other) _ _ (alike-memory state one other same)
    (λ none. stores-alike layout outside.is_loose at word word word word state one other same refl refl)
carried-alike layout outside (effect.StoreByte at byte) state one other same =
    unless-alike (byte_refusal layout state.mode Write at) (with_memory state one) (with_memory state other) _ _ (alike-memory state one other same)
    (λ none. stores-alike layout outside.is_loose at byte byte (with_byte (one (word_start at)) at byte) (with_byte (other (word_start at)) at byte) state one other same refl
    (ap (λ (w : ℕ). with_byte w at byte) (same.word (word_start at) (omega arith))))
carried-alike layout outside (effect.Secure f) state one other same = permitted-alike (secure_of f) state one other same
carried-alike layout outside effect.DivideByZero state one other same = (refl, alike-memory state one other same)
carried-alike layout outside effect.Proceed state one other same = record { core = refl; mode = refl; words = same; traffic = refl }
carried-alike layout outside (effect.Write d value) state one other same = record { core = refl; mode = refl; words = same; traffic = refl }
carried-alike layout outside (effect.Compare flag) state one other same = record { core = refl; mode = refl; words = same; traffic = refl }
carried-alike layout outside (effect.Jump to) state one other same = record { core = refl; mode = refl; words = same; traffic = refl }
carried-alike layout outside (effect.Link to) state one other same = record { core = refl; mode = refl; words = same; traffic = refl }

executed-alike : (layout : Layout) (outside : Outside) (found : Option Instr) (state : Ideal) (one other : ℕ → ℕ) → HasSameWords one other
    → GoAlike (executed layout outside found (with_memory state one)) (executed layout outside found (with_memory state other))
executed-alike layout outside None state one other same = (refl, alike-memory state one other same)
executed-alike layout outside (Some instruction) state one other same = carried-alike layout outside (effect_of instruction state.core) state one other same

step-alike : (layout : Layout) (outside : Outside) (state : Ideal) (one other : ℕ → ℕ) → HasSameWords one other
    → GoAlike (machine_step layout outside (with_memory state one)) (machine_step layout outside (with_memory state other))
step-alike layout outside state one other same =
    unless-alike (word_refusal layout state.mode Fetch state.core.pc) (with_memory state one) (with_memory state other) _ _ (alike-memory state one other same)
    (λ none.
    let word : other state.core.pc ≡ one state.core.pc = same.word state.core.pc (word-parts layout state.mode Fetch state.core.pc none).1 in
    let P : ℕ → Type 0 = λ w. GoAlike (executed layout outside (instruction_in (one state.core.pc)) (with_memory state one)) (executed layout outside (instruction_in w) (with_memory state other)) in
    subst P (sym word) (executed-alike layout outside (instruction_in (one state.core.pc)) state one other same))

pub alike-law : StepsGoAlike
alike-law layout outside one other alike =
    let P : Ideal → Type 0 = λ s. GoAlike (machine_step layout outside one) (machine_step layout outside s) in
    let same : with_memory one other.memory ≡ other =
    ap (λ (c : Processor). record { core = c; mode = one.mode; memory = other.memory; traffic = one.traffic }) (sym alike.core)
    ∙ ap (λ (m : Mode). record { core = other.core; mode = m; memory = other.memory; traffic = one.traffic }) (sym alike.mode)
    ∙ ap (λ (t : Traffic ℕ). record { core = other.core; mode = other.mode; memory = other.memory; traffic = t }) (sym alike.traffic) in
    subst P same (step-alike layout outside one one.memory other.memory alike.words)
