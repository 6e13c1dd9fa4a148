-- A run with fewer loose classes is a run with more.
use Rattle.std.proofs.Common.{◌≡◌, ℕ, zero, suc, ◌+◌, ◌-◌, ◌%◌, ◌^◌, ◌<◌, Bool, true, false, ◌==◌, cond, if◌then◌else◌, nat_eq, get_or, List, [], ◌∷◌, Option, Some, None, option_map, unwrap_or, refl, sym, ◌∙◌, ap, subst, arith}
use Rattle.std.proofs.lemmas.Bool.Decides.{nat_tests}
use Rattle.std.specs.Int.{w32, to_be_bytes}
use Rattle.std.specs.Prelude.{IfSome, IsTrue}
use Rattle.execution.specs.Run.{Next, Goes, Stops, and_then, run, state_of}
use Rattle.execution.specs.Traffic.{Entry, Traffic, after_loose, after_write, loose_word}
use Rattle.orbis_word.specs.declared.Instr.{Instr}
use Rattle.orbis_word.specs.Reading.{instruction_in}
use Rattle.regions.specs.declared.Layout.{Layout}
use Rattle.regions.specs.declared.Class.{Class}
use Rattle.regions.specs.declared.Class.TheVariants.{Code}
use Rattle.regions.specs.declared.Access.TheVariants.{Read, Write, Fetch}
use Rattle.regions.specs.Addresses.{class_at}
use Rattle.regions.specs.LooseClasses.{AreAmong, shared_loose}
use Rattle.regions.specs.Modes.{SecureInstruction, Enter, Exit, IndexTrap, DivideTrap, Suspend, Resume, PrivateOn, PrivateOff, Release, Input, Check, allowed_in, is_secure}
use Rattle.orbis_core.specs.declared.effect.Effect.{Effect}
use Rattle.orbis_core.specs.declared.effect.Effect.TheVariants as effect
use Rattle.orbis_core.specs.declared.memory.Why.{Why}
use Rattle.orbis_core.specs.declared.memory.Why.TheVariants as why
use Rattle.orbis_core.specs.ByteOrder.{byte_in, updated, with_byte, word_start}
use Rattle.orbis_core.specs.Effects.{effect_of}
use Rattle.orbis_core.specs.Ideal.{Ideal, IdealEnd, Refused, Starved, carried, executed, from_entries, ideal_step, instruction_at, is_among, loaded, memory_stored, secured, stores, taken, traffic_stored, unless}
use Rattle.orbis_core.specs.IdealLaws.{IsWholeState}
use Rattle.orbis_core.specs.Loosening.{AgreesOutside, ComesLoosened, IsLoosened, RunsLoosen, loosened}
use Rattle.orbis_core.specs.Processor.{Processor, advanced, written}
use Rattle.orbis_core.specs.Refusals.{word_refusal, byte_refusal}
use Rattle.orbis_core.specs.Secure.{secure_of}
use Rattle.orbis_core.proofs.IdealLemmas.{class-of-word, code-fetched, mode-secure}
use Rattle.orbis_core.proofs.WholeLemmas.{entries-give, steps-whole}

-- the words to come for which a machine goes on with the rest of them
record GoesWith (step : Ideal → Next Ideal IdealEnd) (memory : ℕ → ℕ) (count : ℕ) (state : Ideal) (memory_after : ℕ → ℕ) (count_after : ℕ) (after : Ideal) (rest : List (Entry ℕ)) : Type 0 where
  words : List (Entry ℕ)
  goes : step (loosened memory words count state) ≡ Goes (loosened memory_after rest count_after after)

record Going (layout : Layout) (classes : Class → Bool) (step : Ideal → Next Ideal IdealEnd) (memory : ℕ → ℕ) (count : ℕ) (state after : Ideal) : Type 0 where
  memory_after : ℕ → ℕ
  count_after : ℕ
  agrees : AgreesOutside layout classes after.memory memory_after
  with : (rest : List (Entry ℕ)) → GoesWith step memory count state memory_after count_after after rest

record Stopping (layout : Layout) (classes : Class → Bool) (step : Ideal → Next Ideal IdealEnd) (memory : ℕ → ℕ) (count : ℕ) (state : Ideal) (end : IdealEnd) (after : Ideal) : Type 0 where
  words : List (Entry ℕ)
  agrees : AgreesOutside layout classes after.memory memory
  stops : step (loosened memory words count state) ≡ Stops end (loosened memory after.traffic.loose count after)

-- what a step of the machine with fewer loose classes comes to, the one with more comes to for some words
abbrev Loosens : Layout → (Class → Bool) → (Ideal → Next Ideal IdealEnd) → (ℕ → ℕ) → ℕ → Ideal → Next Ideal IdealEnd → Type 0
Loosens layout classes step memory count state (Goes after) = Going layout classes step memory count state after
Loosens layout classes step memory count state (Stops end after) = Stopping layout classes step memory count state end after

module _ (layout : Layout) (fewer more : Class → Bool) (among : AreAmong fewer more) where
  -- what is loose in the one is so in the other
  more-loose : (at : ℕ) → is_among fewer layout at ≡ true → is_among more layout at ≡ true
  more-loose at loose = go (class_at layout at) loose
    where
      go : (found : Option Class) → unwrap_or (option_map fewer found) false ≡ true → unwrap_or (option_map more found) false ≡ true
      go None h = h
      go (Some class) h = among class h

  -- an address and its word are loose alike
  word-loose : (at : ℕ) → is_among more layout (word_start at) ≡ is_among more layout at
  word-loose at = ap (λ found. unwrap_or (option_map more found) false) (class-of-word layout at)

  module _ (state : Ideal) (memory : ℕ → ℕ) (count : ℕ) (agrees : AgreesOutside layout more state.memory memory) where
    -- nothing but registers, mode and what goes out changes
    goes-so : (step : Ideal → Next Ideal IdealEnd) (after : Ideal) → after.memory ≡ state.memory
        → ((rest : List (Entry ℕ)) → step (loosened memory rest count state) ≡ Goes (loosened memory rest count after)) → Going layout more step memory count state after
    goes-so step after same each = record {
      memory_after = memory;
      count_after = count;
      agrees = λ at free. agrees at free ∙ ap (λ (m : ℕ → ℕ). m at) (sym same);
      with = λ rest. record { words = rest; goes = each rest };
    }

    stops-so : (step : Ideal → Next Ideal IdealEnd) (end : IdealEnd) (after : Ideal) → after.memory ≡ state.memory
        → step (loosened memory state.traffic.loose count state) ≡ Stops end (loosened memory after.traffic.loose count after) → Stopping layout more step memory count state end after
    stops-so step end after same is = record {
      words = state.traffic.loose;
      agrees = λ at free. agrees at free ∙ ap (λ (m : ℕ → ℕ). m at) (sym same);
      stops = is;
    }

    -- only what a step does at these states matters
    on-states : (step other : Ideal → Next Ideal IdealEnd) (next : Next Ideal IdealEnd) → ((words : List (Entry ℕ)) → other (loosened memory words count state) ≡ step (loosened memory words count state))
        → Loosens layout more step memory count state next → Loosens layout more other memory count state next
    on-states step other (Goes after) same l = record {
      memory_after = l.memory_after;
      count_after = l.count_after;
      agrees = l.agrees;
      with = λ rest. record { words = (l.with rest).words; goes = same (l.with rest).words ∙ (l.with rest).goes };
    }
    on-states step other (Stops end after) same l = record { words = l.words; agrees = l.agrees; stops = same l.words ∙ l.stops }

    -- a refusal
    unless-loosens : (r : Option Why) (step : Ideal → Next Ideal IdealEnd) (next : Next Ideal IdealEnd) → (r ≡ None → Loosens layout more step memory count state next)
        → Loosens layout more (λ s. unless r s (step s)) memory count state (unless r state next)
    unless-loosens None step (Goes after) later =
        let l = later refl in record { memory_after = l.memory_after; count_after = l.count_after; agrees = l.agrees; with = λ rest. record { words = (l.with rest).words; goes = (l.with rest).goes } }
    unless-loosens None step (Stops end after) later = let l = later refl in record { words = l.words; agrees = l.agrees; stops = l.stops }
    unless-loosens (Some reason) step next later = stops-so (λ s. unless (Some reason) s (step s)) (Refused reason) state refl refl

    -- a load at an address, of a value that the other memory has too where it is not loose, and that an entry of the list can give
    module _ (cut : ℕ → ℕ) (give : Option ℕ → Option ℕ) (gives_none : give None ≡ None) (gives : (word : ℕ) → give (Some word) ≡ Some (cut word)) (value : (ℕ → ℕ) → ℕ) (d at : ℕ) where
      first-entry : (word : ℕ) (rest : List (Entry ℕ)) → word < 2 ^ 32
          → loose_word nat_eq at (record state.traffic { loose = record { place = at; word = word } ∷ rest; taken = count }) ≡ Some word
      first-entry word rest fits =
          let same : nat_eq at at ≡ true = grind (arith, nat_tests) in
          let whole : word % 2 ^ 32 ≡ word = omega arith in
          ap (λ b. cond b (Some (word % 2 ^ 32)) None) same ∙ ap (λ (w : ℕ). Some w) whole

      -- the other machine takes an entry
      takes : (after : Ideal) (word : ℕ) → word < 2 ^ 32 → after.memory ≡ state.memory
          → ((rest : List (Entry ℕ)) → loosened memory rest (count + 1) after
          ≡ record state { core = written state.core d (cut word); memory = memory; traffic = record state.traffic { loose = rest; taken = count + 1 } })
          → Going layout more (λ s. if true then taken d (give (loose_word nat_eq at s.traffic)) s else loaded d (value s.memory) s) memory count state after
      takes after word fits same is = record {
        memory_after = memory;
        count_after = count + 1;
        agrees = λ a free. agrees a free ∙ ap (λ (m : ℕ → ℕ). m a) (sym same);
        with = λ rest. record {
          words = record { place = at; word = word } ∷ rest;
          goes =
              let s : Ideal = loosened memory (record { place = at; word = word } ∷ rest) count state in
              ap (λ found. taken d (give found) s) (first-entry word rest fits) ∙ ap (λ found. taken d found s) (gives word) ∙ ap (λ (x : Ideal). Goes x) (sym (is rest));
        };
      }

      load-loosens : (loose other_loose : Bool) → (loose ≡ true → other_loose ≡ true) → (other_loose ≡ false → value memory ≡ value state.memory) → value state.memory < 2 ^ 32
          → cut (value state.memory) ≡ value state.memory
          → Loosens layout more (λ s. if other_loose then taken d (give (loose_word nat_eq at s.traffic)) s else loaded d (value s.memory) s) memory count state
          (if loose then taken d (give (loose_word nat_eq at state.traffic)) state else loaded d (value state.memory) state)
      load-loosens true false up same fits whole = let e : false ≡ true = up refl in absurd (grind (arith, e))
      load-loosens false false up same fits whole = goes-so _ (record state { core = written state.core d (value state.memory) }) refl
          (λ rest. ap (λ (v : ℕ). Goes (loosened memory rest count (record state { core = written state.core d v }))) (same refl))
      load-loosens false true up same fits whole = takes (record state { core = written state.core d (value state.memory) }) (value state.memory) fits refl
          (λ rest. ap (λ (v : ℕ). record state { core = written state.core d v; memory = memory; traffic = record state.traffic { loose = rest; taken = count + 1 } }) (sym whole))
      load-loosens true true up same fits whole = go (loose_word nat_eq at state.traffic) refl ((entries-give fewer).word at state.traffic)
        where
          go : (found : Option ℕ) → loose_word nat_eq at state.traffic ≡ found → IfSome (loose_word nat_eq at state.traffic) (λ w. w < 2 ^ 32)
              → Loosens layout more (λ s. if true then taken d (give (loose_word nat_eq at s.traffic)) s else loaded d (value s.memory) s) memory count state (taken d (give (loose_word nat_eq at state.traffic)) state)
          go None is small =
              let P : Option ℕ → Type 0 = λ found. Loosens layout more (λ s. if true then taken d (give (loose_word nat_eq at s.traffic)) s else loaded d (value s.memory) s) memory count state (taken d found state) in
              subst P (sym (ap give is ∙ gives_none)) (stops-so _ Starved state refl
              (ap (λ found. taken d (give found) (loosened memory state.traffic.loose count state)) is ∙ ap (λ found. taken d found (loosened memory state.traffic.loose count state)) gives_none))
          go (Some word) is small =
              let P : Option ℕ → Type 0 = λ found. Loosens layout more (λ s. if true then taken d (give (loose_word nat_eq at s.traffic)) s else loaded d (value s.memory) s) memory count state (taken d found state) in
              subst P (sym (ap give is ∙ gives word)) (takes (record state { core = written state.core d (cut word); traffic = after_loose state.traffic }) word
              (subst (λ found. IfSome found (λ w. w < 2 ^ 32)) is small) refl (λ rest. refl))

    -- a store
    traffic-loosens : (shared : Bool) (at value : ℕ) (rest : List (Entry ℕ))
        → (if shared then after_write at value (record state.traffic { loose = rest; taken = count }) else record state.traffic { loose = rest; taken = count })
        ≡ record (if shared then after_write at value state.traffic else state.traffic) { loose = rest; taken = count }
    traffic-loosens true at value rest = refl
    traffic-loosens false at value rest = refl

    store-agrees : (at word other_word : ℕ) → (is_among more layout at ≡ false → other_word ≡ word)
        → AgreesOutside layout more (memory_stored layout fewer at word state.memory) (memory_stored layout more at other_word memory)
    store-agrees at word other_word same a free = go (is_among fewer layout at) (is_among more layout at) refl refl
      where
        elsewhere : (v : ℕ) → is_among more layout at ≡ true → updated state.memory (word_start at) v a ≡ state.memory a
        elsewhere v loose =
            let apart : a ≡ word_start at → ⊥ = λ e. (
            let t : true ≡ false = sym loose ∙ sym (word-loose at) ∙ ap (λ x. is_among more layout x) (sym e) ∙ free in
            grind (arith, t)) in
            grind (arith, nat_tests, apart)

        both : (is : Bool) → other_word ≡ word → (if is then other_word else memory a) ≡ (if is then word else state.memory a)
        both true e = e
        both false e = agrees a free

        go : (b1 b2 : Bool) → b1 ≡ is_among fewer layout at → b2 ≡ is_among more layout at
            → (if b2 then memory else updated memory (word_start at) other_word) a ≡ (if b1 then state.memory else updated state.memory (word_start at) word) a
        go true true p q = agrees a free
        go true false p q = let t : true ≡ false = sym (more-loose at (sym p)) ∙ sym q in absurd (grind (arith, t))
        go false true p q = agrees a free ∙ sym (elsewhere word (sym q))
        go false false p q = both (a == word_start at) (same (sym q))

    store-loosens : (at value word : ℕ) (other_word : (ℕ → ℕ) → ℕ) → (is_among more layout at ≡ false → other_word memory ≡ word)
        → Loosens layout more (λ s. stores layout more at value (other_word s.memory) s) memory count state (stores layout fewer at value word state)
    store-loosens at value word other_word same = record {
      memory_after = memory_stored layout more at (other_word memory) memory;
      count_after = count;
      agrees = store-agrees at word (other_word memory) same;
      with = λ rest. record {
        words = rest;
        goes = ap (λ (t : Traffic ℕ). Goes (record state { core = advanced state.core; memory = memory_stored layout more at (other_word memory) memory; traffic = t }))
            (traffic-loosens (is_among shared_loose layout at) at value rest);
      };
    }

    -- a secure instruction
    secured-loosens : (asked : SecureInstruction) → Loosens layout more (secured asked) memory count state (secured asked state)
    secured-loosens Enter = goes-so (secured Enter) _ refl (λ rest. refl)
    secured-loosens Resume = goes-so (secured Resume) _ refl (λ rest. refl)
    secured-loosens PrivateOn = goes-so (secured PrivateOn) _ refl (λ rest. refl)
    secured-loosens PrivateOff = goes-so (secured PrivateOff) _ refl (λ rest. refl)
    secured-loosens Suspend = goes-so (secured Suspend) _ refl (λ rest. refl)
    secured-loosens Check = goes-so (secured Check) _ refl (λ rest. refl)
    secured-loosens Release = goes-so (secured Release) _ refl (λ rest. refl)
    secured-loosens Input = goes-so (secured Input) _ refl (λ rest. refl)
    secured-loosens Exit = stops-so (secured Exit) _ _ refl refl
    secured-loosens IndexTrap = stops-so (secured IndexTrap) _ _ refl refl
    secured-loosens DivideTrap = stops-so (secured DivideTrap) _ _ refl refl

    tested-loosens : (allowed : Bool) (asked : SecureInstruction)
        → Loosens layout more (λ s. if allowed then secured asked s else Stops (Refused why.Mode) s) memory count state (if allowed then secured asked state else Stops (Refused why.Mode) state)
    tested-loosens true Enter = secured-loosens Enter
    tested-loosens true Resume = secured-loosens Resume
    tested-loosens true PrivateOn = secured-loosens PrivateOn
    tested-loosens true PrivateOff = secured-loosens PrivateOff
    tested-loosens true Suspend = secured-loosens Suspend
    tested-loosens true Check = secured-loosens Check
    tested-loosens true Release = secured-loosens Release
    tested-loosens true Input = secured-loosens Input
    tested-loosens true Exit = secured-loosens Exit
    tested-loosens true IndexTrap = secured-loosens IndexTrap
    tested-loosens true DivideTrap = secured-loosens DivideTrap
    tested-loosens false asked = stops-so (λ s. Stops (Refused why.Mode) s) _ state refl refl

    -- what an instruction asks for
    small-byte : (word k : ℕ) → get_or (to_be_bytes w32 word) k 0 < 2 ^ 8
    small-byte word zero = omega arith
    small-byte word (suc zero) = omega arith
    small-byte word (suc (suc zero)) = omega arith
    small-byte word (suc (suc (suc zero))) = omega arith
    small-byte word (suc (suc (suc (suc k)))) = omega arith

    wide : (n : ℕ) → n < 2 ^ 8 → n < 2 ^ 32
    wide n below = omega arith

    low : (n : ℕ) → n < 2 ^ 8 → n % 2 ^ 8 ≡ n
    low n below = omega arith

    word-agrees : (at : ℕ) → is_among more layout at ≡ false → memory (word_start at) ≡ state.memory (word_start at)
    word-agrees at free = agrees (word_start at) (word-loose at ∙ free)

    carried-loosens : ((at : ℕ) → state.memory at < 2 ^ 32) → (asked : Effect)
        → Loosens layout more (carried layout (from_entries more) asked) memory count state (carried layout (from_entries fewer) asked state)
    carried-loosens small (effect.LoadWord d at) =
        let step : Ideal → Next Ideal IdealEnd = λ s. if is_among more layout at then taken d (loose_word nat_eq at s.traffic) s else loaded d (s.memory at) s in
        on-states (λ s. unless (word_refusal layout state.mode Read at) s (step s)) (carried layout (from_entries more) (effect.LoadWord d at)) (carried layout (from_entries fewer) (effect.LoadWord d at) state)
        (λ words. refl) (unless-loosens (word_refusal layout state.mode Read at) step
        (if is_among fewer layout at then taken d (loose_word nat_eq at state.traffic) state else loaded d (state.memory at) state)
        (λ none. load-loosens (λ w. w) (λ found. found) refl (λ w. refl) (λ m. m at) d at (is_among fewer layout at) (is_among more layout at) (more-loose at) (agrees at) (small at) refl))
    carried-loosens small (effect.LoadByte d at) =
        let byte : ℕ = byte_in (state.memory (word_start at)) at in
        let step : Ideal → Next Ideal IdealEnd = λ s. if is_among more layout at then taken d (option_map (λ w. w % 2 ^ 8) (loose_word nat_eq at s.traffic)) s else loaded d (byte_in (s.memory (word_start at)) at) s in
        on-states (λ s. unless (byte_refusal layout state.mode Read at) s (step s)) (carried layout (from_entries more) (effect.LoadByte d at)) (carried layout (from_entries fewer) (effect.LoadByte d at) state)
        (λ words. refl) (unless-loosens (byte_refusal layout state.mode Read at) step
        (if is_among fewer layout at then taken d (option_map (λ w. w % 2 ^ 8) (loose_word nat_eq at state.traffic)) state else loaded d byte state)
        (λ none. load-loosens (λ w. w % 2 ^ 8) (λ found. option_map (λ w. w % 2 ^ 8) found) refl (λ w. refl) (λ m. byte_in (m (word_start at)) at) d at (is_among fewer layout at) (is_among more layout at)
        (more-loose at) (λ free. ap (λ w. byte_in w at) (word-agrees at free)) (wide byte (small-byte (state.memory (word_start at)) (at % 4))) (low byte (small-byte (state.memory (word_start at)) (at % 4)))))
    carried-loosens small (effect.StoreWord at word) =
        on-states (λ s. unless (word_refusal layout state.mode Write at) s (stores layout more at word word s)) (carried layout (from_entries more) (effect.StoreWord at word))
        (carried layout (from_entries fewer) (effect.StoreWord at word) state) (λ words. refl)
        (unless-loosens (word_refusal layout state.mode Write at) (λ s. stores layout more at word word s) (stores layout fewer at word word state)
        (λ none. store-loosens at word word (λ m. word) (λ free. refl)))
    carried-loosens small (effect.StoreByte at byte) =
        on-states (λ s. unless (byte_refusal layout state.mode Write at) s (stores layout more at byte (with_byte (s.memory (word_start at)) at byte) s)) (carried layout (from_entries more) (effect.StoreByte at byte))
        (carried layout (from_entries fewer) (effect.StoreByte at byte) state) (λ words. refl)
        (unless-loosens (byte_refusal layout state.mode Write at) (λ s. stores layout more at byte (with_byte (s.memory (word_start at)) at byte) s)
        (stores layout fewer at byte (with_byte (state.memory (word_start at)) at byte) state)
        (λ none. store-loosens at byte (with_byte (state.memory (word_start at)) at byte) (λ m. with_byte (m (word_start at)) at byte) (λ free. ap (λ w. with_byte w at byte) (word-agrees at free))))
    carried-loosens small (effect.Secure f) =
        on-states (λ s. if allowed_in (secure_of f) state.mode then secured (secure_of f) s else Stops (Refused why.Mode) s) (carried layout (from_entries more) (effect.Secure f))
        (carried layout (from_entries fewer) (effect.Secure f) state) (λ words. refl) (tested-loosens (allowed_in (secure_of f) state.mode) (secure_of f))
    carried-loosens small effect.DivideByZero = stops-so (carried layout (from_entries more) effect.DivideByZero) (Refused why.Divide) state refl refl
    carried-loosens small effect.Proceed = goes-so (carried layout (from_entries more) effect.Proceed) _ refl (λ rest. refl)
    carried-loosens small (effect.Write d value) = goes-so (carried layout (from_entries more) (effect.Write d value)) _ refl (λ rest. refl)
    carried-loosens small (effect.Compare flag) = goes-so (carried layout (from_entries more) (effect.Compare flag)) _ refl (λ rest. refl)
    carried-loosens small (effect.Jump target) = goes-so (carried layout (from_entries more) (effect.Jump target)) _ refl (λ rest. refl)
    carried-loosens small (effect.Link target) = goes-so (carried layout (from_entries more) (effect.Link target)) _ refl (λ rest. refl)

    executed-loosens : ((at : ℕ) → state.memory at < 2 ^ 32) → (found : Option Instr)
        → Loosens layout more (executed layout (from_entries more) found) memory count state (executed layout (from_entries fewer) found state)
    executed-loosens small None = stops-so (executed layout (from_entries more) None) (Refused why.Illegal) state refl refl
    executed-loosens small (Some instruction) =
        on-states (carried layout (from_entries more) (effect_of instruction state.core)) (executed layout (from_entries more) (Some instruction))
        (carried layout (from_entries fewer) (effect_of instruction state.core) state) (λ words. refl) (carried-loosens small (effect_of instruction state.core))

    step-loosens : more Code ≡ false → ((at : ℕ) → state.memory at < 2 ^ 32) → IsTrue (is_secure state.mode) → Loosens layout more (ideal_step layout more) memory count state (ideal_step layout fewer state)
    step-loosens code small secure =
        let pc : ℕ = state.core.pc in
        on-states (λ s. unless (word_refusal layout state.mode Fetch pc) s (executed layout (from_entries more) (instruction_at s) s)) (ideal_step layout more) (ideal_step layout fewer state) (λ words. refl)
        (unless-loosens (word_refusal layout state.mode Fetch pc) (λ s. executed layout (from_entries more) (instruction_at s) s) (executed layout (from_entries fewer) (instruction_at state) state)
        (λ none.
        let free : is_among more layout pc ≡ false = ap (λ found. unwrap_or (option_map more found) false) (code-fetched layout state secure none) ∙ code in
        on-states (executed layout (from_entries more) (instruction_at state)) (λ s. executed layout (from_entries more) (instruction_at s) s) (executed layout (from_entries fewer) (instruction_at state) state)
        (λ words. ap (λ w. executed layout (from_entries more) (instruction_in w) (loosened memory words count state)) (agrees pc free)) (executed-loosens small (instruction_at state))))

-- ---- runs

module _ (layout : Layout) (fewer more : Class → Bool) (among : AreAmong fewer more) (code : more Code ≡ false) where
  -- a run from a state that the one with more loose classes stands at too
  abbrev RunLoosens : ℕ → Ideal → (ℕ → ℕ) → ℕ → Type 0
  RunLoosens steps state memory count =
      (words : List (Entry ℕ)) × ComesLoosened layout more (run (ideal_step layout fewer) steps state) (run (ideal_step layout more) steps (loosened memory words count state))

  goes-on : (steps : ℕ) (state : Ideal) (memory : ℕ → ℕ) (count : ℕ) (next : Next Ideal IdealEnd) → ideal_step layout fewer state ≡ next → Loosens layout more (ideal_step layout more) memory count state next
      → ((after : Ideal) → next ≡ Goes after → (memory_after : ℕ → ℕ) (count_after : ℕ) → AgreesOutside layout more after.memory memory_after → RunLoosens steps after memory_after count_after)
      → RunLoosens (suc steps) state memory count
  goes-on steps state memory count (Goes after) is l later =
      let rest = later after refl l.memory_after l.count_after l.agrees in
      let found = l.with rest.0 in (
        found.words,
        subst (λ (n : Next Ideal IdealEnd). ComesLoosened layout more (and_then n (run (ideal_step layout fewer) steps)) (and_then (ideal_step layout more (loosened memory found.words count state)) (run (ideal_step layout more) steps)))
            (sym is) (subst (λ (n : Next Ideal IdealEnd). ComesLoosened layout more (run (ideal_step layout fewer) steps after) (and_then n (run (ideal_step layout more) steps))) (sym found.goes) rest.1),
      )
  goes-on steps state memory count (Stops end after) is l later = (
    l.words,
    subst (λ (n : Next Ideal IdealEnd). ComesLoosened layout more (and_then n (run (ideal_step layout fewer) steps)) (and_then (ideal_step layout more (loosened memory l.words count state)) (run (ideal_step layout more) steps)))
        (sym is) (subst (λ (n : Next Ideal IdealEnd). ComesLoosened layout more (Stops end after) (and_then n (run (ideal_step layout more) steps))) (sym l.stops)
        (refl, record { memory = memory; taken = count; agrees = l.agrees; is = refl })),
  )

  run-loosens : (steps : ℕ) (state : Ideal) (memory : ℕ → ℕ) (count : ℕ) → IsWholeState state → IsTrue (is_secure state.mode) → AgreesOutside layout more state.memory memory → RunLoosens steps state memory count
  run-loosens zero state memory count whole secure agrees = (state.traffic.loose, record { memory = memory; taken = count; agrees = agrees; is = refl })
  run-loosens (suc steps) state memory count whole secure agrees =
      goes-on steps state memory count (ideal_step layout fewer state) refl (step-loosens layout fewer more among state memory count agrees code whole.words secure)
      (λ after is memory_after count_after agrees_after.
      run-loosens steps after memory_after count_after
      (subst (λ (n : Next Ideal IdealEnd). IsWholeState (state_of n)) is (steps-whole layout (from_entries fewer) state (entries-give fewer) whole))
      (subst (λ (n : Next Ideal IdealEnd). IsTrue (is_secure (state_of n).mode)) is (mode-secure layout (from_entries fewer) state secure)) agrees_after)

pub runs-loosen : RunsLoosen
runs-loosen layout fewer more among code steps state memory taken whole secure agrees = run-loosens layout fewer more among code steps state memory taken whole secure agrees
