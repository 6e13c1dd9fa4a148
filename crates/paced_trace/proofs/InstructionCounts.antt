-- What is counted of the steps of the ideal machine is what its traffic notes.
use Rattle.std.proofs.Common.{◌≡◌, ℕ, zero, suc, ◌+◌, ◌≤◌, Bool, true, false, cond, List, Option, Some, None, refl, sym, ap, ◌∙◌, subst, arith}
use Rattle.std.specs.Prelude.{option_and_then, option_map}
use Rattle.execution.specs.Run.{EndsIn, Goes, Next, Stops, and_then, run, state_of}
use Rattle.execution.specs.Traffic.{Entry, Traffic, after_write}
use Rattle.execution.proofs.RunLemmas.{run-+}
use Rattle.orbis_word.specs.declared.Instr.{Instr}
use Rattle.regions.specs.declared.Class.{Class}
use Rattle.regions.specs.declared.Layout.{Layout}
use Rattle.regions.specs.declared.Access.TheVariants.{Fetch, Write}
use Rattle.regions.specs.LooseClasses.{shared_loose}
use Rattle.regions.specs.Modes.{SecureInstruction, Exit, IndexTrap, DivideTrap, Suspend, Release, Input, Check, allowed_in}
use Rattle.orbis_core.specs.declared.effect.Effect.{Effect}
use Rattle.orbis_core.specs.declared.effect.Effect.TheVariants as effect
use Rattle.orbis_core.specs.declared.Why.{Why}
use Rattle.orbis_core.specs.declared.Why.TheVariants as why
use Rattle.orbis_core.specs.ByteOrder.{with_byte, word_start}
use Rattle.orbis_core.specs.Effects.{effect_of}
use Rattle.orbis_core.specs.Ideal.{Ideal, IdealEnd, Refused, Outside, carried, executed, from_entries, ideal_start, ideal_step, instruction_at, is_among, loaded, machine_step, secure_at, secure_by, secured, stores, taken, unless}
use Rattle.orbis_core.specs.Refusals.{byte_refusal, word_refusal}
use Rattle.orbis_core.specs.Secure.{secure_of}
use Rattle.paced_trace.specs.PacedSteps.{asked_among, may_check, suspends}
use Rattle.paced_trace.specs.SufficientFuel.{CountsAreNoted, IsRefusal, asked_from, asked_next}

-- ---- one step

-- what the traffic notes of instructions that may have a check, and of suspensions
abbrev checks_noted : Ideal → ℕ
checks_noted state = state.traffic.releases + state.traffic.checks

abbrev noted : Bool → ℕ
noted asked = cond asked 1 0

-- what a step notes, where this is its secure instruction
record Notes (asked : Option SecureInstruction) (old new : Ideal) : Type 0 where
  pub checks : checks_noted new ≡ checks_noted old + noted (may_check asked)
  pub suspensions : new.traffic.suspensions ≡ old.traffic.suspensions + noted (suspends asked)

-- what a step notes that ends the run and is not refused
record NotesAtEnd (asked : Option SecureInstruction) (old new : Ideal) : Type 0 where
  pub checks : checks_noted new ≡ checks_noted old
  pub suspensions : new.traffic.suspensions ≡ old.traffic.suspensions
  pub goes : suspends asked ≡ false

-- by how it ends
abbrev NotesBy : Option SecureInstruction → Ideal → Next Ideal IdealEnd → Type 0
NotesBy asked old (Goes new) = Notes asked old new
NotesBy asked old (Stops (Refused why) new) = Unit {0}
NotesBy asked old (Stops end new) = NotesAtEnd asked old new

notes-nothing : (old new : Ideal) → new.traffic ≡ old.traffic → Notes None old new
notes-nothing old new same = record {
  checks = omega (arith, ap (λ t. t.releases + t.checks) same);
  suspensions = omega (arith, ap (λ t. t.suspensions) same);
}

notes-unless : (asked : Option SecureInstruction) (why : Option Why) (old : Ideal) (next : Next Ideal IdealEnd) → NotesBy asked old next → NotesBy asked old (unless why old next)
notes-unless asked None old next notes = notes
notes-unless asked (Some why) old next notes = tt

notes-taken : (d : ℕ) (came : Option ℕ) (old : Ideal) → NotesBy None old (taken d came old)
notes-taken d None old = record { checks = refl; suspensions = refl; goes = refl }
notes-taken d (Some word) old = record { checks = omega arith; suspensions = omega arith }

notes-loads : (d : ℕ) (came : Option ℕ) (word : ℕ) (old : Ideal) (loose : Bool) → NotesBy None old (cond loose (taken d came old) (loaded d word old))
notes-loads d came word old true = notes-taken d came old
notes-loads d came word old false = record { checks = omega arith; suspensions = omega arith }

-- a store notes a write at most
noted-stored : (shared : Bool) (at value : ℕ) (t : Traffic ℕ)
    → ((cond shared (after_write at value t) t).releases ≡ t.releases) × ((cond shared (after_write at value t) t).checks ≡ t.checks)
    × ((cond shared (after_write at value t) t).suspensions ≡ t.suspensions)
noted-stored true at value t = (refl, refl, refl)
noted-stored false at value t = (refl, refl, refl)

notes-stores : (layout : Layout) (loose : Class → Bool) (at value word : ℕ) (old : Ideal) → NotesBy None old (stores layout loose at value word old)
notes-stores layout loose at value word old =
    let same = noted-stored (is_among shared_loose layout at) at value old.traffic in
    record { checks = omega (arith, same.0, same.1); suspensions = omega (arith, same.2) }

notes-secured : (instruction : SecureInstruction) (old : Ideal) → NotesBy (Some instruction) old (secured instruction old)
notes-secured Exit old = record { checks = refl; suspensions = refl; goes = refl }
notes-secured IndexTrap old = record { checks = refl; suspensions = refl; goes = refl }
notes-secured DivideTrap old = record { checks = refl; suspensions = refl; goes = refl }
notes-secured Suspend old = record { checks = omega arith; suspensions = omega arith }
notes-secured Check old = record { checks = omega arith; suspensions = omega arith }
notes-secured Release old = record { checks = omega arith; suspensions = omega arith }
notes-secured Input old = record { checks = omega arith; suspensions = omega arith }
notes-secured instruction old = record { checks = omega arith; suspensions = omega arith }

notes-permitted : (instruction : SecureInstruction) (old : Ideal) (allowed : Bool) → NotesBy (Some instruction) old (cond allowed (secured instruction old) (Stops (Refused why.Mode) old))
notes-permitted instruction old true = notes-secured instruction old
notes-permitted instruction old false = tt

notes-carried : (layout : Layout) (outside : Outside) (asked : Effect) (old : Ideal) → NotesBy (secure_by asked) old (carried layout outside asked old)
notes-carried layout outside (effect.LoadWord d at) old = notes-unless None _ old _ (notes-loads d _ _ old (is_among outside.is_loose layout at))
notes-carried layout outside (effect.LoadByte d at) old = notes-unless None _ old _ (notes-loads d _ _ old (is_among outside.is_loose layout at))
notes-carried layout outside (effect.StoreWord at word) old =
    notes-unless None (word_refusal layout old.mode Write at) old (stores layout outside.is_loose at word word old) (notes-stores layout outside.is_loose at word word old)
notes-carried layout outside (effect.StoreByte at byte) old =
    notes-unless None (byte_refusal layout old.mode Write at) old (stores layout outside.is_loose at byte (with_byte (old.memory (word_start at)) at byte) old)
    (notes-stores layout outside.is_loose at byte (with_byte (old.memory (word_start at)) at byte) old)
notes-carried layout outside (effect.Secure f) old = notes-permitted (secure_of f) old (allowed_in (secure_of f) old.mode)
notes-carried layout outside effect.DivideByZero old = tt
notes-carried layout outside asked old = record { checks = omega arith; suspensions = omega arith }

notes-executed : (layout : Layout) (outside : Outside) (found : Option Instr) (old : Ideal)
    → NotesBy (option_and_then secure_by (option_map (λ instruction. effect_of instruction old.core) found)) old (executed layout outside found old)
notes-executed layout outside None old = tt
notes-executed layout outside (Some instruction) old = notes-carried layout outside (effect_of instruction old.core) old

notes-step : (layout : Layout) (outside : Outside) (old : Ideal) → NotesBy (secure_at old) old (machine_step layout outside old)
notes-step layout outside old = notes-unless (secure_at old) (word_refusal layout old.mode Fetch old.core.pc) old _ (notes-executed layout outside (instruction_at old) old)

-- ---- a run

module _ (layout : Layout) (loose : Class → Bool) (start : Ideal) where
  -- where it has come to after one step more
  one-more : (k : ℕ) → run (ideal_step layout loose) (suc k) start ≡ and_then (run (ideal_step layout loose) k start) (ideal_step layout loose)
  one-more k =
      let e : suc k ≡ k + 1 = omega arith in
      ap (λ (n : ℕ). run (ideal_step layout loose) n start) e ∙ run-+ (ideal_step layout loose) k 1 start
      ∙ by (run (ideal_step layout loose) k start)
    where
      last : (next : Next Ideal IdealEnd) → and_then next (run (ideal_step layout loose) 0) ≡ next
      last (Goes state) = refl
      last (Stops end state) = refl

      by : (next : Next Ideal IdealEnd) → and_then next (run (ideal_step layout loose) 1) ≡ and_then next (ideal_step layout loose)
      by (Goes state) = last (ideal_step layout loose state)
      by (Stops end state) = refl

  -- what the steps so far note
  record RunNotes (k : ℕ) (state : Ideal) : Type 0 where
    pub checks : checks_noted state ≡ checks_noted start + asked_among may_check (asked_from layout loose start) k
    pub suspensions : state.traffic.suspensions ≡ start.traffic.suspensions + asked_among suspends (asked_from layout loose start) k

  record RunNotesAtEnd (k : ℕ) (state : Ideal) : Type 0 where
    pub checks : checks_noted start + asked_among may_check (asked_from layout loose start) k ≤ checks_noted state + 1
    pub suspensions : state.traffic.suspensions ≡ start.traffic.suspensions + asked_among suspends (asked_from layout loose start) k

  -- from a state that the run has come to
  asked-here : (k : ℕ) (state : Ideal) → run (ideal_step layout loose) k start ≡ Goes state → asked_from layout loose start k ≡ secure_at state
  asked-here k state is = ap asked_next is

  goes-on : (k : ℕ) (state now : Ideal) → RunNotes k state → asked_from layout loose start k ≡ secure_at state → Notes (secure_at state) state now → RunNotes (suc k) now
  goes-on k state now before asked notes = record {
    checks = omega (arith, before.checks, notes.checks, ap {B = ℕ} (λ a. noted (may_check a)) asked);
    suspensions = omega (arith, before.suspensions, notes.suspensions, ap {B = ℕ} (λ a. noted (suspends a)) asked);
  }

  at-most-one : (asked : Bool) → noted asked ≤ 1
  at-most-one true = omega arith
  at-most-one false = omega arith

  comes-to-end : (k : ℕ) (state now : Ideal) → RunNotes k state → asked_from layout loose start k ≡ secure_at state → NotesAtEnd (secure_at state) state now → RunNotesAtEnd (suc k) now
  comes-to-end k state now before asked notes = record {
    checks = omega (arith, before.checks, notes.checks, at-most-one (may_check (asked_from layout loose start k)));
    suspensions = omega (arith, before.suspensions, notes.suspensions, ap {B = ℕ} (λ a. noted (suspends a)) asked, ap {B = ℕ} noted notes.goes);
  }

  run-notes : (k : ℕ) (state : Ideal) → run (ideal_step layout loose) k start ≡ Goes state → RunNotes k state
  run-notes zero state is =
      let same : start ≡ state = ap state_of is in
      record { checks = omega (arith, ap checks_noted same); suspensions = omega (arith, ap (λ (s : Ideal). s.traffic.suspensions) same) }
  run-notes (suc k) state is = by (run-notes k) (run (ideal_step layout loose) k start) refl
    where
      step-by : (before now : Ideal) (next : Next Ideal IdealEnd) → NotesBy (secure_at before) before next → next ≡ Goes now → Notes (secure_at before) before now
      step-by before now (Goes new) notes same = let e : new ≡ now = cc in subst (λ (s : Ideal). Notes (secure_at before) before s) e notes
      step-by before now (Stops end new) notes same = cc

      by : ((s : Ideal) → run (ideal_step layout loose) k start ≡ Goes s → RunNotes k s) → (next : Next Ideal IdealEnd)
          → run (ideal_step layout loose) k start ≡ next → RunNotes (suc k) state
      by earlier (Goes before) at =
          let step : ideal_step layout loose before ≡ Goes state = sym (one-more k ∙ ap (λ n. and_then n (ideal_step layout loose)) at) ∙ is in
          goes-on k before state (earlier before at) (asked-here k before at) (step-by before state (ideal_step layout loose before) (notes-step layout (from_entries loose) before) step)
      by earlier (Stops end before) at =
          let no : Stops end before ≡ Goes state = sym (one-more k ∙ ap (λ n. and_then n (ideal_step layout loose)) at) ∙ is in cc

  run-notes-end : (k : ℕ) (end : IdealEnd) (at : Ideal) → EndsIn (ideal_step layout loose) k start end at → (IsRefusal end → ⊥) → RunNotesAtEnd k at
  run-notes-end zero end at ends fine = let no : Goes start ≡ Stops end at = ends.ended in cc
  run-notes-end (suc k) end at ends fine =
      let on = ends.not_before k (omega arith) in
      let step : ideal_step layout loose on.0 ≡ Stops end at = sym (one-more k ∙ ap (λ n. and_then n (ideal_step layout loose)) on.1) ∙ ends.ended in
      comes-to-end k on.0 at (run-notes k on.0 on.1) (asked-here k on.0 on.1)
      (step-by on.0 (ideal_step layout loose on.0) (notes-step layout (from_entries loose) on.0) step)
    where
      at-end : (before new : Ideal) (final : IdealEnd) → (IsRefusal final → ⊥) → NotesBy (secure_at before) before (Stops final new) → NotesAtEnd (secure_at before) before new
      at-end before new (Refused why) fine notes = absurd (fine (why, refl))
      at-end before new final fine notes = notes

      step-by : (before : Ideal) (next : Next Ideal IdealEnd) → NotesBy (secure_at before) before next → next ≡ Stops end at → NotesAtEnd (secure_at before) before at
      step-by before (Goes new) notes same = cc
      step-by before (Stops final new) notes same =
          let e : final ≡ end = cc in
          let f : new ≡ at = cc in
          subst (λ (s : Ideal). NotesAtEnd (secure_at before) before s) f (at-end before new final (λ refused. fine (refused.0, sym e ∙ refused.1)) notes)

pub counts-noted : (layout : Layout) (loose : Class → Bool) (statics : List ℕ) (entry : ℕ) (input : List ℕ) (words : List (Entry ℕ)) (k : ℕ)
    → CountsAreNoted layout loose statics entry input words k
counts-noted layout loose statics entry input words k =
    let start : Ideal = ideal_start layout statics entry input words in
    record {
      checks = λ state is. omega (arith, (run-notes layout loose start k state is).checks);
      suspensions = λ state is. omega (arith, (run-notes layout loose start k state is).suspensions);
      checks_ended = λ end at ends fine. omega (arith, (run-notes-end layout loose start k end at ends fine).checks);
      suspensions_ended = λ end at ends fine. omega (arith, (run-notes-end layout loose start k end at ends fine).suspensions);
    }
