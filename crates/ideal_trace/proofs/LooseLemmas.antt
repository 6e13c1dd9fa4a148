-- The bus machine on a faithful tree is the ideal machine on which logged words are loose too.
use Rattle.std.proofs.Common.{◌≡◌, ℕ, zero, suc, ◌+◌, ◌-◌, ◌/◌, ◌%◌, ◌^◌, ◌<◌, ◌≤◌, Bool, true, false, cond, ◌&&◌, if◌then◌else◌, nat_le, nat_lt, get_or, List, [], ◌∷◌, ◌++◌, length, Option, Some, None, IfSome, option_map, unwrap_or, refl, sym, ap, ◌∙◌, subst, inl, inr, ◌⊎◌, arith}
use Rattle.std.specs.Prelude.{IsTrue}
use Rattle.std.specs.List.{AllByRecursion}
use Rattle.std.proofs.lemmas.Bool.{and_parts, cases_lt, leb-true, ltb-true}
use Rattle.std.proofs.lemmas.List.{append_assoc}
use Rattle.execution.specs.Run.{Next, Goes, Stops, and_then, run, state_of}
use Rattle.execution.specs.Traffic.{Entry}
use Rattle.execution.proofs.RunLemmas.{run-+}
use Rattle.aegis_num.specs.declared.Block.{Block}
use Rattle.aegis_num.specs.declared.Place.{Place}
use Rattle.aegis_num.specs.declared.Place.TheVariants.{Tree, Log}
use Rattle.regions.specs.declared.Layout.{Layout}
use Rattle.regions.specs.declared.Class.{Class}
use Rattle.regions.specs.declared.Class.TheVariants.{Logged}
use Rattle.regions.specs.declared.Access.TheVariants.{Fetch}
use Rattle.regions.specs.declared.addresses.TheConstants.{BLOCK_BYTES}
use Rattle.regions.specs.LooseClasses.{shared_loose, shared_and_logged_loose}
use Rattle.regions.specs.Modes.{is_secure}
use Rattle.regions.proofs.AddressLaws.{class_at-LiesIn}
use Rattle.off_chip.specs.declared.Event.{Event}
use Rattle.off_chip.specs.declared.Event.TheVariants.{BlockRead, BlockWrite, WordRead, WordWrite, Note}
use Rattle.off_chip.specs.Histories.{History, no_event, ◌◂◌, in_order}
use Rattle.off_chip.specs.Boundaries.{enter_events, is_retire, retired, since_step}
use Rattle.orbis_core.specs.declared.Why.{Why}
use Rattle.orbis_core.specs.ByteOrder.{byte_in, log_block_start, with_block, word_start, words_in}
use Rattle.orbis_core.specs.Ideal.{Ideal, IdealEnd, Outside, Refused, from_entries, from_reads, ideal_step, is_among}
use Rattle.orbis_core.specs.IdealLaws.{GivesWords, IsWholeState}
use Rattle.orbis_core.specs.Loosening.{AgreesOutside, ComesLoosened, loosened}
use Rattle.orbis_core.specs.Refusals.{word_refusal}
use Rattle.orbis_core.proofs.IdealLemmas.{code-fetched, mode-secure}
use Rattle.orbis_core.proofs.LooseningLemmas.{runs-loosen}
use Rattle.orbis_core.proofs.WholeLemmas.{steps-whole}
use Rattle.bus_machine.specs.BusData.{EndsSo, GoesOn}
use Rattle.bus_machine.specs.BusMachine.{LoadedProgram, Veil, block_taken, bus_machine, bus_step, memory_after, with_reads, word_among}
use Rattle.bus_machine.proofs.SegmentLemmas.{bus-goes-on, bus-start}
use Rattle.ideal_trace.specs.FaithfulRuns.{HasSameWords, IsSoundProgram}
use Rattle.ideal_trace.specs.IdealRuns.{ideal_steps, with_words}
use Rattle.ideal_trace.specs.LooseRuns.{IsLooselyIdeal, RunsOnTree, RunsOnTreeAreLooselyIdeal}
use Rattle.ideal_trace.proofs.EventLemmas.{longer, retired-done, retired-other, silent, words-fit}
use Rattle.ideal_trace.proofs.GoingLemmas.{goes-between}
use Rattle.ideal_trace.proofs.MoreWordsLemmas.{next_adding, small-byte, step-adds, step-takes}
use Rattle.ideal_trace.proofs.RefusalLemmas.{refusal-stops, refusal_of, step-refusal}
use Rattle.ideal_trace.proofs.SameLemmas.{fetch-same, goes-same, step-same}
use Rattle.ideal_trace.proofs.SoundLemmas.{shared-among, start, start-whole}
use Rattle.ideal_trace.proofs.StandsLemmas.{goes-state, no-goes, one-step}
use Rattle.ideal_trace.proofs.StepLemmas.{IsFed, IsUnrefused, next_with, step-follows}

-- ---- one step

abbrev both : Class → Bool
both = shared_and_logged_loose

gives-words : (events : List Event) → ((at : ℕ) → IfSome (word_among events at) (λ w. w < 2 ^ 32)) → GivesWords (from_reads (word_among events))
gives-words events fits = record {
  word = λ at traffic. fits at;
  byte = λ at traffic. byte at (word_among events (word_start at));
}
  where
    wide : (n : ℕ) → n < 2 ^ 8 → n < 2 ^ 32
    wide n below = omega arith

    byte : (at : ℕ) (found : Option ℕ) → IfSome (option_map (λ word. byte_in word at) found) (λ b. b < 2 ^ 32)
    byte at None = tt
    byte at (Some word) = wide (byte_in word at) (small-byte word (at % 4))

-- a step with logged words loose, on some words, whatever words come after them
record Loosens (layout : Layout) (memory : ℕ → ℕ) (taken : ℕ) (state after : Ideal) : Type 0 where
  words : List (Entry ℕ)
  memory_after : ℕ → ℕ
  taken_after : ℕ
  agrees : AgreesOutside layout both after.memory memory_after
  goes : (rest : List (Entry ℕ)) → ideal_step layout both (loosened memory (words ++ rest) taken state) ≡ Goes (loosened memory_after rest taken_after after)

step-loosens : (layout : Layout) (events : List Event) (state : Ideal) (memory : ℕ → ℕ) (taken : ℕ) (after : Ideal) → ((at : ℕ) → IfSome (word_among events at) (λ w. w < 2 ^ 32))
    → IsWholeState state → IsTrue (is_secure state.mode) → AgreesOutside layout both state.memory memory → bus_step layout events state ≡ Goes after → Loosens layout memory taken state after
step-loosens layout events state memory taken after fits whole secure agrees goes =
    let used = step-takes layout events state fits after goes in
    let from : Ideal = with_words (used.0 ++ []) state in
    let step : ideal_step layout shared_loose from ≡ Goes (with_words [] after) =
    step-follows layout events [] state used.0 used.1 (subst IsUnrefused (sym goes) tt) ∙ ap (λ (n : Next Ideal IdealEnd). next_with [] n) goes in
    let whole_from : IsWholeState from = record { registers = whole.registers; zero = whole.zero; small = whole.small; pc = whole.pc; words = whole.words } in
    let found = runs-loosen layout shared_loose both shared-among refl 1 from memory taken whole_from secure agrees in
    by found.0 (ideal_step layout both (loosened memory found.0 taken state)) refl
    (subst (λ (n : Next Ideal IdealEnd). ComesLoosened layout both n (ideal_step layout both (loosened memory found.0 taken state))) (one-step (ideal_step layout shared_loose) from ∙ step)
    (subst (λ (n : Next Ideal IdealEnd). ComesLoosened layout both (run (ideal_step layout shared_loose) 1 from) n) (one-step (ideal_step layout both) (loosened memory found.0 taken from)) found.1))
  where
    by : (words : List (Entry ℕ)) (next : Next Ideal IdealEnd) → ideal_step layout both (loosened memory words taken state) ≡ next
        → ComesLoosened layout both (Goes (with_words [] after)) next → Loosens layout memory taken state after
    by words (Goes other) is comes = record {
      words = words;
      memory_after = comes.memory;
      taken_after = comes.taken;
      agrees = comes.agrees;
      goes = λ rest. step-adds layout both rest (loosened memory words taken state) (subst IsFed (sym is) tt)
          ∙ ap (λ (n : Next Ideal IdealEnd). next_adding rest n) (is ∙ ap (λ (o : Ideal). Goes o) comes.is);
    }
    by words (Stops end other) is comes = absurd comes

-- ---- a read of a log block

words_in-small : (bytes : List ℕ) (k : ℕ) → AllByRecursion (λ byte. byte < 2 ^ 8) bytes → get_or (words_in bytes) k 0 < 2 ^ 32
words_in-small [] k small = omega arith
words_in-small (a ∷ []) k small = omega arith
words_in-small (a ∷ b ∷ []) k small = omega arith
words_in-small (a ∷ b ∷ c ∷ []) k small = omega arith
words_in-small (a ∷ b ∷ c ∷ d ∷ bytes) zero small = omega (arith, small.0, small.1.0, small.1.1.0, small.1.1.1.0)
words_in-small (a ∷ b ∷ c ∷ d ∷ bytes) (suc k) small = words_in-small bytes k small.1.1.1.1

logged-loose : (layout : Layout) (n at : ℕ) → n < layout.log → log_block_start n ≤ at → at < log_block_start n + BLOCK_BYTES → is_among both layout at ≡ true
logged-loose layout n at below from until =
    ap (λ (found : Option Class). unwrap_or (option_map both found) false) (class_at-LiesIn layout at Logged (omega (arith, from), omega (arith, below, until)))

module _ (layout : Layout) (veil : Veil) (n : ℕ) (block : Block) where
  abbrev in_block : ℕ → Bool
  in_block at = nat_le (log_block_start n) at && nat_lt at (log_block_start n + BLOCK_BYTES)

  log-same : (one other : ℕ → ℕ) → HasSameWords one other → HasSameWords (block_taken layout veil (Log n) block one) (block_taken layout veil (Log n) block other)
  log-same one other same = record { word = λ at aligned. by (nat_lt n layout.log) at aligned }
    where
      inside : (c : Bool) (word at : ℕ) → at % 4 ≡ 0 → (if c then word else other at) ≡ (if c then word else one at)
      inside true word at aligned = refl
      inside false word at aligned = same.word at aligned

      by : (b : Bool) (at : ℕ) → at % 4 ≡ 0
          → (if b then with_block other (log_block_start n) block.payload else other) at ≡ (if b then with_block one (log_block_start n) block.payload else one) at
      by true at aligned = inside (in_block at) (get_or (words_in block.payload) ((at - log_block_start n) / 4) 0) at aligned
      by false at aligned = same.word at aligned

  log-small : (memory : ℕ → ℕ) → AllByRecursion (λ byte. byte < 2 ^ 8) block.payload → ((at : ℕ) → memory at < 2 ^ 32) → (at : ℕ) → block_taken layout veil (Log n) block memory at < 2 ^ 32
  log-small memory bytes small at = by (nat_lt n layout.log)
    where
      inside : (c : Bool) → (if c then get_or (words_in block.payload) ((at - log_block_start n) / 4) 0 else memory at) < 2 ^ 32
      inside true = words_in-small block.payload ((at - log_block_start n) / 4) bytes
      inside false = small at

      by : (b : Bool) → (if b then with_block memory (log_block_start n) block.payload else memory) at < 2 ^ 32
      by true = inside (in_block at)
      by false = small at

  pub log-agrees : (memory looser : ℕ → ℕ) → AgreesOutside layout both memory looser → AgreesOutside layout both (block_taken layout veil (Log n) block memory) looser
  log-agrees memory looser agrees at free = by (nat_lt n layout.log) refl
    where
      inside : n < layout.log → (c : Bool) → in_block at ≡ c → looser at ≡ (if c then get_or (words_in block.payload) ((at - log_block_start n) / 4) 0 else memory at)
      inside below true is =
          let parts = and_parts (nat_le (log_block_start n) at) (nat_lt at (log_block_start n + BLOCK_BYTES)) is in
          let loose : true ≡ false =
          sym (logged-loose layout n at below (leb-true (log_block_start n) at parts.0) (ltb-true at (log_block_start n + BLOCK_BYTES) parts.1)) ∙ free in
          absurd (cc)
      inside below false is = agrees at free

      by : (b : Bool) → nat_lt n layout.log ≡ b → looser at ≡ (if b then with_block memory (log_block_start n) block.payload else memory) at
      by true is = inside (ltb-true n layout.log is) (in_block at) refl
      by false is = agrees at free

-- ---- runs

module _ (image : Place → Option (List ℕ)) (veil : Veil) (program : LoadedProgram) (sound : IsSoundProgram program) where
  abbrev entry : ℕ
  entry = enter_events program.layout

  abbrev Runs : History → Type 0
  Runs older = RunsOnTree image veil program older

  runs-older : (event : Event) (older : History) → Runs (event ◂ older) → Runs older
  runs-older event older runs = record { entering = runs.entering.0; bytes = runs.bytes.0; memory = runs.memory.0; faithful = record { each = runs.faithful.each.0 } }

  -- another memory with the same words, and a third that agrees with it where no word is loose
  record Beside (state : Ideal) (looser : ℕ → ℕ) : Type 0 where
    memory : ℕ → ℕ
    same : HasSameWords state.memory memory
    whole : IsWholeState (record state { memory = memory })
    agrees : AgreesOutside program.layout both memory looser

  record Loosely (older : History) (state : Ideal) : Type 0 where
    looser : ℕ → ℕ
    beside : Beside state looser
    secure : IsTrue (is_secure state.mode)
    taken : ℕ
    words : List (Entry ℕ)
    stands : (rest : List (Entry ℕ)) → ideal_steps program both (words ++ rest) (retired (in_order older)) ≡ Goes (loosened looser rest taken state)

  at-start : (older : History) → Runs older → length (in_order older) ≡ entry → (state : Ideal) → bus_machine veil program older ≡ Goes state → Loosely older state
  at-start older runs long state goes =
      let none = silent program older runs.entering (omega (arith, long)) in
      let same : start program sound [] ≡ state = goes-state _ _ (sym (bus-start entry veil program older (omega (arith, long))) ∙ goes) in
      subst (λ (s : Ideal). Loosely older s) same (record {
        looser = (start program sound []).memory;
        beside = record {
          memory = (start program sound []).memory;
          same = record { word = λ at aligned. refl };
          whole = start-whole program sound [];
          agrees = λ at free. refl;
        };
        secure = refl;
        taken = 0;
        words = [];
        stands = λ rest. ap (λ (n : ℕ). ideal_steps program both rest n) none.0;
      })

  -- an event that ends no instruction
  beside-more : (event : Event) (older : History) (state : Ideal) (looser : ℕ → ℕ) → Runs (event ◂ older) → entry ≤ length (in_order older) → bus_machine veil program older ≡ Goes state
      → Beside state looser → Beside (record state { memory = memory_after program.layout veil event state.memory }) looser
  beside-more (BlockRead (Tree n) block) older state looser runs entered goes at =
      let kept = runs.memory.1 state entered goes runs.faithful in
      record { memory = at.memory; same = record { word = λ place aligned. at.same.word place aligned ∙ sym (kept.word place aligned) }; whole = at.whole; agrees = at.agrees }
  beside-more (BlockRead (Log n) block) older state looser runs entered goes at = record {
    memory = block_taken program.layout veil (Log n) block at.memory;
    same = log-same program.layout veil n block state.memory at.memory at.same;
    whole = record {
      registers = at.whole.registers;
      zero = at.whole.zero;
      small = at.whole.small;
      pc = at.whole.pc;
      words = log-small program.layout veil n block at.memory runs.bytes.1 at.whole.words;
    };
    agrees = log-agrees program.layout veil n block at.memory looser at.agrees;
  }
  beside-more (BlockWrite place block) older state looser runs entered goes at = at
  beside-more (WordRead by place word) older state looser runs entered goes at = at
  beside-more (WordWrite by place word) older state looser runs entered goes at = at
  beside-more (Note mark) older state looser runs entered goes at = at

  stepped : (event : Event) (older : History) (from state : Ideal) → Runs (event ◂ older) → is_retire event ≡ true → bus_step program.layout (since_step entry older) from ≡ Goes state
      → Loosely older from → Loosely (event ◂ older) state
  stepped event older from state runs done same at =
      let events : List Event = since_step entry older in
      let outside : Outside = from_reads (word_among events) in
      let twin : Ideal = record from { memory = at.beside.memory } in
      let fits : (place : ℕ) → IfSome (word_among events place) (λ w. w < 2 ^ 32) = λ place. words-fit entry older place runs.bytes.0 in
      let to = goes-same state (bus_step program.layout events from) (bus_step program.layout events twin) same (step-same program.layout outside from at.beside.memory at.beside.same) in
      let step = step-loosens program.layout events twin at.looser at.taken to.0 fits at.beside.whole at.secure at.beside.agrees to.1 in
      record {
        looser = step.memory_after;
        beside = record {
          memory = to.0.memory;
          same = to.2.words;
          whole = subst IsWholeState to.2.is (subst (λ (n : Next Ideal IdealEnd). IsWholeState (state_of n)) to.1 (steps-whole program.layout outside twin (gives-words events fits) at.beside.whole));
          agrees = step.agrees;
        };
        secure = subst (λ (n : Next Ideal IdealEnd). IsTrue (is_secure (state_of n).mode)) same (mode-secure program.layout outside from at.secure);
        taken = step.taken_after;
        words = at.words ++ step.words;
        stands = λ rest.
            ap (λ (n : ℕ). ideal_steps program both ((at.words ++ step.words) ++ rest) n) (retired-done event older done)
            ∙ ap (λ (ws : List (Entry ℕ)). ideal_steps program both ws (retired (in_order older) + 1)) (append_assoc at.words step.words rest)
            ∙ run-+ (ideal_step program.layout both) (retired (in_order older)) 1 (start program sound (at.words ++ (step.words ++ rest)))
            ∙ ap (λ (n : Next Ideal IdealEnd). and_then n (run (ideal_step program.layout both) 1)) (at.stands (step.words ++ rest))
            ∙ one-step (ideal_step program.layout both) (loosened at.looser (step.words ++ rest) at.taken from)
            ∙ step.goes rest ∙ ap (λ (o : Ideal). Goes (loosened step.memory_after rest step.taken_after o)) to.2.is;
      }

  loosely : (older : History) → Runs older → entry ≤ length (in_order older) → (state : Ideal) → bus_machine veil program older ≡ Goes state → Loosely older state
  loosely no_event runs entered state goes = at-start no_event runs (let none : entry ≤ 0 = entered in omega (arith, none)) state goes
  loosely (event ◂ older) runs entered state goes = by (cases_lt (length (in_order older)) entry) (loosely older (runs-older event older runs))
    where
      after : (b : Bool) (now : Next Ideal IdealEnd) → entry ≤ length (in_order older) → is_retire event ≡ b → bus_machine veil program older ≡ now
          → ((s : Ideal) → bus_machine veil program older ≡ Goes s → Loosely older s)
          → cond b (and_then now (bus_step program.layout (since_step entry older))) (with_reads program.layout veil (event ∷ []) now) ≡ Goes state → Loosely (event ◂ older) state
      after true (Goes s) before done is ih same = stepped event older s state runs done same (ih s is)
      after false (Goes s) before other is ih same =
          let at = ih s is in
          subst (λ (x : Ideal). Loosely (event ◂ older) x) (goes-state _ _ same) (record {
            looser = at.looser;
            beside = beside-more event older s at.looser runs before is at.beside;
            secure = at.secure;
            taken = at.taken;
            words = at.words;
            stands = λ rest. ap (λ (n : ℕ). ideal_steps program both (at.words ++ rest) n) (retired-other event older other) ∙ at.stands rest;
          })
      after true (Stops end at) before done is ih same = absurd (no-goes state at end same)
      after false (Stops end at) before other is ih same = absurd (no-goes state at end same)

      by : (length (in_order older) < entry) ⊎ (entry ≤ length (in_order older))
          → (entry ≤ length (in_order older) → (s : Ideal) → bus_machine veil program older ≡ Goes s → Loosely older s) → Loosely (event ◂ older) state
      by (inl below) ih =
          let more : length (in_order (event ◂ older)) ≡ length (in_order older) + 1 = longer event older in
          at-start (event ◂ older) runs (omega (arith, more, below, entered)) state goes
      by (inr before) ih =
          after (is_retire event) (bus_machine veil program older) before refl refl (ih before) (sym (bus-goes-on entry veil program event older before) ∙ goes)

  loosely-ideal : (older : History) (state : Ideal) → Runs older → entry ≤ length (in_order older) → bus_machine veil program older ≡ Goes state → IsLooselyIdeal program older state
  loosely-ideal older state runs entered goes =
      let at = loosely older runs entered state goes in
      record {
        words = at.words ++ state.traffic.loose;
        twin = record state { memory = at.beside.memory };
        ideal = loosened at.looser state.traffic.loose at.taken state;
        same = record { words = at.beside.same; is = refl };
        loosened = record { memory = at.looser; taken = at.taken; agrees = at.beside.agrees; is = refl };
        stands = at.stands state.traffic.loose;
      }

  unrefused : (older : History) (reason : Why) → Runs older → entry ≤ length (in_order older) → EndsSo veil program (Some (Refused reason)) older → ⊥
  unrefused older reason runs entered ends =
      let goes : GoesOn veil program older = goes-between veil program older ends.0.each in
      let state : Ideal = goes.state in
      let events : List Event = since_step entry older in
      let outside : Outside = from_reads (word_among events) in
      let at = loosely older runs entered state goes.goes in
      let refused : bus_step program.layout events state ≡ Stops (Refused reason) ends.1.0 = sym (ap (λ (n : Next Ideal IdealEnd). and_then n (bus_step program.layout events)) goes.goes) ∙ ends.1.1 in
      let pc : ℕ = state.core.pc in
      let agrees : word_refusal program.layout state.mode Fetch pc ≡ None → at.looser pc ≡ state.memory pc =
      λ none. at.beside.agrees pc (ap (λ (found : Option Class). unwrap_or (option_map both found) false) (code-fetched program.layout state at.secure none))
      ∙ fetch-same program.layout outside state at.beside.memory at.beside.same none in
      let twin : Ideal = loosened at.looser [] at.taken state in
      let ideal = refusal-stops (ideal_step program.layout both twin) reason
      (sym (step-refusal program.layout outside (from_entries both) state at.looser twin.traffic agrees) ∙ ap refusal_of refused) in
      sound.sound.never_refused program.input (at.words ++ []) (retired (in_order older) + 1) reason ideal.0
      (run-+ (ideal_step program.layout both) (retired (in_order older)) 1 (start program sound (at.words ++ []))
      ∙ ap (λ (n : Next Ideal IdealEnd). and_then n (run (ideal_step program.layout both) 1)) (at.stands [])
      ∙ one-step (ideal_step program.layout both) twin ∙ ideal.1)

pub loosely-ideal-runs : RunsOnTreeAreLooselyIdeal
loosely-ideal-runs = record {
  goes = λ image veil program older state sound runs entered goes. loosely-ideal image veil program sound older state runs entered goes;
  unrefused = λ image veil program older reason sound runs entered ends. unrefused image veil program sound older reason runs entered ends;
}
