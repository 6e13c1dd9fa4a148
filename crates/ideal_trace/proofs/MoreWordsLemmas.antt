-- Words that come after those that a step takes change nothing of it; and a step of the bus machine that goes on takes some words.
use Rattle.std.proofs.Common.{◌≡◌, ℕ, zero, suc, ◌%◌, ◌^◌, ◌<◌, Bool, true, false, cond, if◌then◌else◌, nat_eq, get_or, List, [], ◌∷◌, ◌++◌, Option, Some, None, IfSome, option_map, refl, sym, ap, subst, arith}
use Rattle.std.specs.Int.{w32, to_be_bytes}
use Rattle.execution.specs.Run.{Next, Goes, Stops}
use Rattle.execution.specs.Traffic.{Entry, Traffic, after_write, word_at}
use Rattle.orbis_word.specs.declared.Instr.{Instr}
use Rattle.regions.specs.declared.Layout.{Layout}
use Rattle.regions.specs.declared.Class.{Class}
use Rattle.regions.specs.declared.Access.TheVariants.{Read, Write, Fetch}
use Rattle.regions.specs.LooseClasses.{shared_loose}
use Rattle.regions.specs.Modes.{SecureInstruction, Enter, Exit, IndexTrap, DivideTrap, Suspend, Resume, PrivateOn, PrivateOff, Release, Input, Check, allowed_in}
use Rattle.off_chip.specs.declared.Event.{Event}
use Rattle.orbis_core.specs.declared.Effect.{Effect}
use Rattle.orbis_core.specs.declared.Effect.TheVariants as effect
use Rattle.orbis_core.specs.declared.Why.{Why}
use Rattle.orbis_core.specs.declared.Why.TheVariants as why
use Rattle.orbis_core.specs.ByteOrder.{byte_in, with_byte, word_start}
use Rattle.orbis_core.specs.Effects.{effect_of}
use Rattle.orbis_core.specs.Ideal.{Ideal, IdealEnd, Refused, carried, effect_at, executed, from_entries, from_reads, ideal_step, instruction_at, is_among, loaded, memory_stored, secured, stores, taken, unless}
use Rattle.orbis_core.specs.Processor.{advanced}
use Rattle.orbis_core.specs.Refusals.{word_refusal, byte_refusal}
use Rattle.orbis_core.specs.Secure.{secure_of}
use Rattle.bus_machine.specs.BusAccesses.{ByClass}
use Rattle.bus_machine.specs.BusMachine.{bus_step, word_among}
use Rattle.ideal_trace.specs.IdealRuns.{with_words}
use Rattle.ideal_trace.proofs.StepLemmas.{IsFed, TakesFor, TakesOne}

module _ (rest : List (Entry ℕ)) where
  -- a machine with these words after its own
  abbrev pub adding : Ideal → Ideal
  adding state = with_words (state.traffic.loose ++ rest) state

  abbrev pub next_adding : Next Ideal IdealEnd → Next Ideal IdealEnd
  next_adding (Goes state) = Goes (adding state)
  next_adding (Stops end state) = Stops end (adding state)

module _ (layout : Layout) (classes : Class → Bool) (rest : List (Entry ℕ)) (state : Ideal) where
  abbrev more : Ideal
  more = adding rest state

  unless-adds : (r : Option Why) (next its : Next Ideal IdealEnd) → IsFed (unless r state next) → (IsFed next → its ≡ next_adding rest next) → unless r more its ≡ next_adding rest (unless r state next)
  unless-adds None next its fed later = later fed
  unless-adds (Some reason) next its fed later = refl

  word-adds : (d at : ℕ) (loose : List (Entry ℕ)) → IsFed (taken d (word_at nat_eq at loose) (with_words loose state))
      → taken d (word_at nat_eq at (loose ++ rest)) (with_words (loose ++ rest) state) ≡ next_adding rest (taken d (word_at nat_eq at loose) (with_words loose state))
  word-adds d at [] fed = absurd fed
  word-adds d at (entry ∷ loose) fed = by (nat_eq at entry.place) fed
    where
      by : (b : Bool) → IsFed (taken d (cond b (Some (entry.word % 2 ^ 32)) None) (with_words (entry ∷ loose) state))
          → taken d (cond b (Some (entry.word % 2 ^ 32)) None) (with_words (entry ∷ (loose ++ rest)) state)
          ≡ next_adding rest (taken d (cond b (Some (entry.word % 2 ^ 32)) None) (with_words (entry ∷ loose) state))
      by true fed = refl
      by false fed = absurd fed

  byte-adds : (d at : ℕ) (loose : List (Entry ℕ)) → IsFed (taken d (option_map (λ word. word % 2 ^ 8) (word_at nat_eq at loose)) (with_words loose state))
      → taken d (option_map (λ word. word % 2 ^ 8) (word_at nat_eq at (loose ++ rest))) (with_words (loose ++ rest) state)
      ≡ next_adding rest (taken d (option_map (λ word. word % 2 ^ 8) (word_at nat_eq at loose)) (with_words loose state))
  byte-adds d at [] fed = absurd fed
  byte-adds d at (entry ∷ loose) fed = by (nat_eq at entry.place) fed
    where
      by : (b : Bool) → IsFed (taken d (option_map (λ word. word % 2 ^ 8) (cond b (Some (entry.word % 2 ^ 32)) None)) (with_words (entry ∷ loose) state))
          → taken d (option_map (λ word. word % 2 ^ 8) (cond b (Some (entry.word % 2 ^ 32)) None)) (with_words (entry ∷ (loose ++ rest)) state)
          ≡ next_adding rest (taken d (option_map (λ word. word % 2 ^ 8) (cond b (Some (entry.word % 2 ^ 32)) None)) (with_words (entry ∷ loose) state))
      by true fed = refl
      by false fed = absurd fed

  load-adds : (b : Bool) (d value : ℕ) (found its : Option ℕ) → IsFed (if b then taken d found state else loaded d value state) → (IsFed (taken d found state) → taken d its more ≡ next_adding rest (taken d found state))
      → (if b then taken d its more else loaded d value more) ≡ next_adding rest (if b then taken d found state else loaded d value state)
  load-adds true d value found its fed later = later fed
  load-adds false d value found its fed later = refl

  stored-traffic : (shared : Bool) (at value : ℕ)
      → (if shared then after_write at value more.traffic else more.traffic)
      ≡ record (if shared then after_write at value state.traffic else state.traffic) { loose = (if shared then after_write at value state.traffic else state.traffic).loose ++ rest }
  stored-traffic true at value = refl
  stored-traffic false at value = refl

  store-adds : (at value word : ℕ) → stores layout classes at value word more ≡ next_adding rest (stores layout classes at value word state)
  store-adds at value word =
      ap (λ (t : Traffic ℕ). Goes (record state { core = advanced state.core; memory = memory_stored layout classes at word state.memory; traffic = t }))
      (stored-traffic (is_among shared_loose layout at) at value)

  secured-adds : (asked : SecureInstruction) → secured asked more ≡ next_adding rest (secured asked state)
  secured-adds Enter = refl
  secured-adds Exit = refl
  secured-adds IndexTrap = refl
  secured-adds DivideTrap = refl
  secured-adds Suspend = refl
  secured-adds Resume = refl
  secured-adds PrivateOn = refl
  secured-adds PrivateOff = refl
  secured-adds Release = refl
  secured-adds Input = refl
  secured-adds Check = refl

  tested-adds : (allowed : Bool) (asked : SecureInstruction)
      → (if allowed then secured asked more else Stops (Refused why.Mode) more) ≡ next_adding rest (if allowed then secured asked state else Stops (Refused why.Mode) state)
  tested-adds true asked = secured-adds asked
  tested-adds false asked = refl

  carried-adds : (asked : Effect) → IsFed (carried layout (from_entries classes) asked state)
      → carried layout (from_entries classes) asked more ≡ next_adding rest (carried layout (from_entries classes) asked state)
  carried-adds (effect.LoadWord d at) fed =
      unless-adds (word_refusal layout state.mode Read at) _ _ fed
      (λ later. load-adds (is_among classes layout at) d (state.memory at) (word_at nat_eq at state.traffic.loose) (word_at nat_eq at (state.traffic.loose ++ rest)) later (word-adds d at state.traffic.loose))
  carried-adds (effect.LoadByte d at) fed =
      unless-adds (byte_refusal layout state.mode Read at) _ _ fed
      (λ later. load-adds (is_among classes layout at) d (byte_in (state.memory (word_start at)) at) (option_map (λ word. word % 2 ^ 8) (word_at nat_eq at state.traffic.loose))
      (option_map (λ word. word % 2 ^ 8) (word_at nat_eq at (state.traffic.loose ++ rest))) later (byte-adds d at state.traffic.loose))
  carried-adds (effect.StoreWord at word) fed = unless-adds (word_refusal layout state.mode Write at) _ _ fed (λ later. store-adds at word word)
  carried-adds (effect.StoreByte at byte) fed =
      unless-adds (byte_refusal layout state.mode Write at) _ _ fed (λ later. store-adds at byte (with_byte (state.memory (word_start at)) at byte))
  carried-adds (effect.Secure f) fed = tested-adds (allowed_in (secure_of f) state.mode) (secure_of f)
  carried-adds effect.DivideByZero fed = refl
  carried-adds effect.Proceed fed = refl
  carried-adds (effect.Write d value) fed = refl
  carried-adds (effect.Compare flag) fed = refl
  carried-adds (effect.Jump target) fed = refl
  carried-adds (effect.Link target) fed = refl

  executed-adds : (found : Option Instr) → IsFed (executed layout (from_entries classes) found state)
      → executed layout (from_entries classes) found more ≡ next_adding rest (executed layout (from_entries classes) found state)
  executed-adds None fed = refl
  executed-adds (Some instruction) fed = carried-adds (effect_of instruction state.core) fed

  -- a step that is not starved, with further words after its own
  pub step-adds : IsFed (ideal_step layout classes state) → ideal_step layout classes more ≡ next_adding rest (ideal_step layout classes state)
  step-adds fed = unless-adds (word_refusal layout state.mode Fetch state.core.pc) _ _ fed (λ later. executed-adds (instruction_at state) later)

-- ---- the words that a step of the bus machine takes which goes on

-- it goes on
abbrev IsGoing : Next Ideal IdealEnd → Type 0
IsGoing (Goes state) = Unit {0}
IsGoing (Stops end state) = ⊥

pub small-byte : (word k : ℕ) → get_or (to_be_bytes w32 word) k 0 < 2 ^ 8
small-byte word zero = omega arith
small-byte word (suc zero) = omega arith
small-byte word (suc (suc zero)) = omega arith
small-byte word (suc (suc (suc zero))) = omega arith
small-byte word (suc (suc (suc (suc k)))) = omega arith

module _ (layout : Layout) (events : List Event) (state : Ideal) (fits : (at : ℕ) → IfSome (word_among events at) (λ w. w < 2 ^ 32)) where
  unless-going : (r : Option Why) (next : Next Ideal IdealEnd) → IsGoing (unless r state next) → IsGoing next
  unless-going None next going = going
  unless-going (Some reason) next going = absurd going

  load-takes : (b : Bool) (d at bound value : ℕ) (came : Option ℕ) → IfSome came (λ w. w < bound) → IsGoing (if b then taken d came state else loaded d value state)
      → (used : List (Entry ℕ)) × ByClass b (TakesOne at bound came used) (used ≡ [])
  load-takes true d at bound value None small going = absurd going
  load-takes true d at bound value (Some word) small going = (record { place = at; word = word } ∷ [], (word, refl, small, refl))
  load-takes false d at bound value came small going = ([], refl)

  byte-fits : (at : ℕ) (found : Option ℕ) → IfSome (option_map (λ word. byte_in word at) found) (λ w. w < 2 ^ 8)
  byte-fits at None = tt
  byte-fits at (Some word) = small-byte word (at % 4)

  carried-takes : (asked : Effect) → IsGoing (carried layout (from_reads (word_among events)) asked state) → (used : List (Entry ℕ)) × TakesFor layout events (Some asked) used
  carried-takes (effect.LoadWord d at) going =
      load-takes (is_among shared_loose layout at) d at (2 ^ 32) (state.memory at) (word_among events at) (fits at) (unless-going (word_refusal layout state.mode Read at) _ going)
  carried-takes (effect.LoadByte d at) going =
      load-takes (is_among shared_loose layout at) d at (2 ^ 8) (byte_in (state.memory (word_start at)) at) (option_map (λ word. byte_in word at) (word_among events (word_start at)))
      (byte-fits at (word_among events (word_start at))) (unless-going (byte_refusal layout state.mode Read at) _ going)
  carried-takes (effect.StoreWord at word) going = ([], refl)
  carried-takes (effect.StoreByte at byte) going = ([], refl)
  carried-takes (effect.Secure f) going = ([], refl)
  carried-takes effect.DivideByZero going = ([], refl)
  carried-takes effect.Proceed going = ([], refl)
  carried-takes (effect.Write d value) going = ([], refl)
  carried-takes (effect.Compare flag) going = ([], refl)
  carried-takes (effect.Jump target) going = ([], refl)
  carried-takes (effect.Link target) going = ([], refl)

  executed-takes : (found : Option Instr) → IsGoing (executed layout (from_reads (word_among events)) found state)
      → (used : List (Entry ℕ)) × TakesFor layout events (option_map (λ instruction. effect_of instruction state.core) found) used
  executed-takes None going = ([], refl)
  executed-takes (Some instruction) going = carried-takes (effect_of instruction state.core) going

  pub step-takes : (after : Ideal) → bus_step layout events state ≡ Goes after → (used : List (Entry ℕ)) × TakesFor layout events (effect_at state) used
  step-takes after goes =
      executed-takes (instruction_at state) (unless-going (word_refusal layout state.mode Fetch state.core.pc) _ (subst IsGoing (sym goes) tt))
