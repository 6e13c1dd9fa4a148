-- The bus machine of a faithful trace is the ideal machine.
use Rattle.std.proofs.Common.{◌≡◌, ℕ, ◌+◌, ◌-◌, ◌^◌, ◌<◌, ◌≤◌, Bool, true, false, cond, List, [], ◌∷◌, ◌++◌, length, Option, Some, None, IfSome, option_map, refl, sym, ap, ◌∙◌, subst, inl, inr, ◌⊎◌, arith}
use Rattle.std.specs.Prelude.{option_to_list}
use Rattle.std.proofs.lemmas.Bool.{cases_lt}
use Rattle.std.proofs.lemmas.List.{append-nil, append_assoc}
use Rattle.execution.specs.Run.{Next, Goes, Stops, and_then, run, state_of}
use Rattle.execution.specs.Traffic.{Entry}
use Rattle.execution.proofs.RunLemmas.{run-+, run-ended}
use Rattle.aegis_num.specs.declared.Place.{Place}
use Rattle.regions.specs.declared.Layout.{Layout}
use Rattle.regions.specs.declared.Access.TheVariants.{Fetch}
use Rattle.regions.specs.LooseClasses.{shared_loose}
use Rattle.off_chip.specs.declared.Event.{Event}
use Rattle.off_chip.specs.declared.Event.TheVariants.{BlockRead, BlockWrite, WordRead, WordWrite, Note}
use Rattle.off_chip.specs.Histories.{History, no_event, ◌◂◌, in_order}
use Rattle.off_chip.specs.Boundaries.{enter_events, is_retire, retired, since_step}
use Rattle.off_chip.specs.ExchangedWords.{secure_read, secure_write, words_read, words_written}
use Rattle.off_chip.specs.FaithfulReads.{AllFaithful}
use Rattle.off_chip.proofs.HistoryLemmas.{filter_map-push}
use Rattle.orbis_core.specs.declared.Effect.{Effect}
use Rattle.orbis_core.specs.declared.Effect.TheVariants as effect
use Rattle.orbis_core.specs.declared.Why.{Why}
use Rattle.orbis_word.specs.Reading.{instruction_in}
use Rattle.orbis_core.specs.Effects.{effect_of}
use Rattle.orbis_core.specs.Ideal.{Outside, Ideal, IdealEnd, Ended, Index, Divide, Refused, Starved, effect_at, from_entries, from_reads, ideal_step, is_among}
use Rattle.orbis_core.specs.Refusals.{word_refusal}
use Rattle.orbis_core.specs.Soundness.{is_open_byte}
use Rattle.orbis_core.specs.ByteOrder.{word_start}
use Rattle.bus_machine.specs.BusAccesses.{ByClass}
use Rattle.bus_machine.specs.BusMachine.{LoadedProgram, Veil, bus_machine, bus_step, bus_step_after, memory_after, with_reads, word_among}
use Rattle.bus_machine.proofs.SegmentLemmas.{bus-goes-on, bus-start, enters}
use Rattle.ideal_trace.specs.FaithfulRuns.{ExchangesFor, IsSoundProgram, HasSameWords, KeepsMemory, NoWords, OneChanged, OneRead, OneWritten, RunsFaithfully}
use Rattle.ideal_trace.specs.IdealRuns.{EndsIdeally, FaithfulRunsAreIdeal, IsIdealAt, IsIdealSoFar, ideal_steps, with_words}
use Rattle.ideal_trace.proofs.EventLemmas.{boundary-entered, boundary-since, done-reads, done-writes, longer, push-none, retired-done, retired-other, silent, since-done, since-more, word-found, words-fit}
use Rattle.ideal_trace.proofs.RefusalLemmas.{fetch-unrefused, none-unrefused, refusal-stops, refusal_of, step-refusal, step-writes, unrefused-none}
use Rattle.ideal_trace.specs.SameSteps.{ComesSame}
use Rattle.ideal_trace.proofs.SameLemmas.{fetch-same, goes-same, step-same, stops-same}
use Rattle.ideal_trace.proofs.SoundLemmas.{no-open-byte, run-unrefused, start}
use Rattle.ideal_trace.proofs.StepLemmas.{IsFed, IsUnrefused, TakesFor, TakesOne, next_with, step-fed, step-follows}

-- ---- the words that a step takes are those that it exchanged

module _ (layout : Layout) (events : List Event) (wrote : List (Entry ℕ)) where
  word-takes : (b : Bool) (at : ℕ) → ((at : ℕ) → IfSome (word_among events at) (λ w. w < 2 ^ 32)) → ByClass b (OneRead at (words_read events) wrote) (NoWords (words_read events) wrote)
      → ByClass b (TakesOne at (2 ^ 32) (word_among events at) (words_read events)) (words_read events ≡ [])
  word-takes true at fits row =
      let found = word-found events at row.0 row.1 in
      (row.0, found, subst (λ (o : Option ℕ). IfSome o (λ w. w < 2 ^ 32)) found (fits at), row.1)
  word-takes false at fits row = row.0

  byte-takes : (b : Bool) (at : ℕ) (came : Option ℕ) → b ≡ false → ByClass b (OneRead (word_start at) (words_read events) wrote) (NoWords (words_read events) wrote)
      → ByClass b (TakesOne at (2 ^ 8) came (words_read events)) (words_read events ≡ [])
  byte-takes true at came closed row = absurd (cc)
  byte-takes false at came closed row = row.0

  word-stores : (b : Bool) (at word : ℕ) → ByClass b (OneWritten at word (words_read events) wrote) (NoWords (words_read events) wrote) → words_read events ≡ []
  word-stores true at word row = row.0
  word-stores false at word row = row.0

  byte-stores : (b : Bool) (at byte : ℕ) → b ≡ false → ByClass b (OneChanged at byte (words_read events) wrote) (NoWords (words_read events) wrote) → words_read events ≡ []
  byte-stores true at byte closed row = absurd (cc)
  byte-stores false at byte closed row = row.0

  takes : ((at : ℕ) → IfSome (word_among events at) (λ w. w < 2 ^ 32)) → (asked : Option Effect) → is_open_byte layout asked ≡ false
      → ExchangesFor layout asked (words_read events) wrote → TakesFor layout events asked (words_read events)
  takes fits None closed row = row.0
  takes fits (Some (effect.LoadWord d at)) closed row = word-takes (is_among shared_loose layout at) at fits row
  takes fits (Some (effect.LoadByte d at)) closed row = byte-takes (is_among shared_loose layout at) at _ closed row
  takes fits (Some (effect.StoreWord at word)) closed row = word-stores (is_among shared_loose layout at) at word row
  takes fits (Some (effect.StoreByte at byte)) closed row = byte-stores (is_among shared_loose layout at) at byte closed row
  takes fits (Some (effect.Secure f)) closed row = row.0
  takes fits (Some effect.DivideByZero) closed row = row.0
  takes fits (Some effect.Proceed) closed row = row.0
  takes fits (Some (effect.Write d value)) closed row = row.0
  takes fits (Some (effect.Compare flag)) closed row = row.0
  takes fits (Some (effect.Jump target)) closed row = row.0
  takes fits (Some (effect.Link target)) closed row = row.0

-- ---- steps

pub one-step : (step : Ideal → Next Ideal IdealEnd) (state : Ideal) → run step 1 state ≡ step state
one-step step state = by (step state)
  where
    by : (next : Next Ideal IdealEnd) → and_then next (run step 0) ≡ next
    by (Goes s) = refl
    by (Stops end s) = refl

pub goes-state : (state other : Ideal) → (let one : Next Ideal IdealEnd = Goes state in one ≡ Goes other) → state ≡ other
goes-state state other same = ap state_of same

no-stop : (state at : Ideal) (end : IdealEnd) → Goes state ≡ Stops end at → ⊥
no-stop state at end same = cc

pub no-goes : (state at : Ideal) (end : IdealEnd) → Stops end at ≡ Goes state → ⊥
no-goes state at end same = cc

module _ (image : Place → Option (List ℕ)) (veil : Veil) (program : LoadedProgram) (sound : IsSoundProgram program) where
  abbrev entry : ℕ
  entry = enter_events program.layout

  abbrev Runs : History → Type 0
  Runs older = RunsFaithfully image veil program older

  runs-older : (event : Event) (older : History) → Runs (event ◂ older) → Runs older
  runs-older event older runs = record {
    entering = runs.entering.0;
    bytes = runs.bytes.0;
    memory = runs.memory.0;
    words = runs.words.0;
    faithful = record { each = runs.faithful.each.0 };
  }

  -- with the words that were read before the step under way, and whatever words come after them, the ideal machine stands where the bus machine does
  pub record Stands (older : History) (state : Ideal) : Type 0 where
    pub memory : ℕ → ℕ
    pub same : HasSameWords state.memory memory
    pub used : List (Entry ℕ)
    pub words : words_read (in_order older) ≡ used ++ words_read (since_step entry older)
    pub written : words_written (in_order older) ≡ state.traffic.writes ++ words_written (since_step entry older)
    pub stands : (more : List (Entry ℕ)) → ideal_steps program shared_loose (used ++ more) (retired (in_order older)) ≡ Goes (with_words more (record state { memory = memory }))

  -- no step from there is refused, whatever the events
  twin-unrefused : (older : History) (state : Ideal) (events : List Event) (at : Stands older state) → IsUnrefused (bus_step program.layout events (record state { memory = at.memory }))
  twin-unrefused older state events at = by (refusal_of (bus_step program.layout events (record state { memory = at.memory }))) refl
    where
      by : (o : Option Why) → refusal_of (bus_step program.layout events (record state { memory = at.memory })) ≡ o → IsUnrefused (bus_step program.layout events (record state { memory = at.memory }))
      by None none = none-unrefused (bus_step program.layout events (record state { memory = at.memory })) none
      by (Some reason) some =
          let t : Ideal = record state { memory = at.memory } in
          let ideal = refusal-stops (ideal_step program.layout shared_loose (with_words [] t)) reason
          (sym (step-refusal program.layout (from_reads (word_among events)) (from_entries shared_loose) t t.memory (with_words [] t).traffic (λ none. refl)) ∙ some) in
          absurd (run-unrefused program sound (at.used ++ []) (retired (in_order older) + 1) reason ideal.0
          (run-+ (ideal_step program.layout shared_loose) (retired (in_order older)) 1 (start program sound (at.used ++ []))
          ∙ ap (λ (n : Next Ideal IdealEnd). and_then n (run (ideal_step program.layout shared_loose) 1)) (at.stands [])
          ∙ one-step (ideal_step program.layout shared_loose) (with_words [] t) ∙ ideal.1))

  step-unrefused : (older : History) (state : Ideal) (events : List Event) → Stands older state → IsUnrefused (bus_step program.layout events state)
  step-unrefused older state events at =
      let outside : Outside = from_reads (word_among events) in
      none-unrefused (bus_step program.layout events state)
      (step-refusal program.layout outside outside state at.memory state.traffic (fetch-same program.layout outside state at.memory at.same)
      ∙ unrefused-none (bus_step program.layout events (record state { memory = at.memory })) (twin-unrefused older state events at))

  -- where an instruction is done the ideal machine makes the step of the bus machine
  record Stepped (event : Event) (older : History) (next : Next Ideal IdealEnd) : Type 0 where
    ideal : Next Ideal IdealEnd
    comes : ComesSame next ideal
    words : List (Entry ℕ)
    read : words_read (in_order (event ◂ older)) ≡ words
    steps : (more : List (Entry ℕ)) → ideal_steps program shared_loose (words ++ more) (retired (in_order (event ◂ older))) ≡ next_with more ideal
    written : words_written (in_order (event ◂ older)) ≡ (state_of ideal).traffic.writes
    fed : IsFed ideal
    un : IsUnrefused ideal

  stepped : (event : Event) (older : History) (state : Ideal) → Runs (event ◂ older) → entry ≤ length (in_order older) → is_retire event ≡ true → bus_machine veil program older ≡ Goes state
      → Stands older state → Stepped event older (bus_step program.layout (since_step entry older) state)
  stepped event older state runs entered done goes at =
      let events : List Event = since_step entry older in
      let outside : Outside = from_reads (word_among events) in
      let twin : Ideal = record state { memory = at.memory } in
      let un : IsUnrefused (bus_step program.layout events twin) = twin-unrefused older state events at in
      let fetched : word_refusal program.layout state.mode Fetch state.core.pc ≡ None = fetch-unrefused program.layout outside twin un in
      let closed : is_open_byte program.layout (effect_at twin) ≡ false = no-open-byte program sound (at.used ++ []) (retired (in_order older)) (with_words [] twin) (at.stands []) fetched in
      let row : ExchangesFor program.layout (effect_at twin) (words_read events) (words_written events) =
      subst (λ (word : ℕ). ExchangesFor program.layout (option_map (λ instruction. effect_of instruction state.core) (instruction_in word)) (words_read events) (words_written events))
      (sym (fetch-same program.layout outside state at.memory at.same fetched)) (runs.words.1 state done entered goes) in
      let takes_row : TakesFor program.layout events (effect_at twin) (words_read events) =
      takes program.layout events (words_written events) (λ place. words-fit entry older place runs.bytes.0) (effect_at twin) closed row in
      let step : Ideal → Next Ideal IdealEnd = ideal_step program.layout shared_loose in
      record {
        ideal = bus_step program.layout events twin;
        comes = step-same program.layout outside state at.memory at.same;
        words = at.used ++ words_read events;
        read = push-none secure_read (in_order older) event (done-reads event done) ∙ at.words;
        steps = λ more.
            ap (λ (n : ℕ). ideal_steps program shared_loose ((at.used ++ words_read events) ++ more) n) (retired-done event older done)
            ∙ ap (λ (ws : List (Entry ℕ)). ideal_steps program shared_loose ws (retired (in_order older) + 1)) (append_assoc at.used (words_read events) more)
            ∙ run-+ step (retired (in_order older)) 1 (start program sound (at.used ++ (words_read events ++ more)))
            ∙ ap (λ (n : Next Ideal IdealEnd). and_then n (run step 1)) (at.stands (words_read events ++ more))
            ∙ one-step step (with_words (words_read events ++ more) twin)
            ∙ step-follows program.layout events more twin (words_read events) takes_row un;
        written = push-none secure_write (in_order older) event (done-writes event done) ∙ at.written
            ∙ sym (step-writes program.layout outside twin (words_read events) (words_written events) row closed un);
        fed = step-fed program.layout events (words_read events) twin takes_row;
        un = un;
      }

  -- where entering is over
  at-start : (older : History) → Runs older → length (in_order older) ≡ entry → (state : Ideal) → bus_machine veil program older ≡ Goes state → Stands older state
  at-start older runs long state goes =
      let none = silent program older runs.entering (omega (arith, long)) in
      let empty : since_step entry older ≡ [] = (enters entry veil program older long).since in
      let same : start program sound [] ≡ state = goes-state _ _ (sym (bus-start entry veil program older (omega (arith, long))) ∙ goes) in
      subst (λ (s : Ideal). Stands older s) same (record {
        memory = (start program sound []).memory;
        same = record { word = λ at aligned. refl };
        used = [];
        words = none.1 ∙ sym (ap words_read empty);
        written = none.2 ∙ sym (ap words_written empty);
        stands = λ more. ap (λ (n : ℕ). ideal_steps program shared_loose more n) none.0;
      })

  keeps : (event : Event) (older : History) (state : Ideal) → KeepsMemory image veil program event older → entry ≤ length (in_order older) → bus_machine veil program older ≡ Goes state
      → AllFaithful image (event ◂ older) → HasSameWords state.memory (memory_after program.layout veil event state.memory)
  keeps (BlockRead place block) older state kept entered goes faithful = kept state entered goes faithful
  keeps (BlockWrite place block) older state kept entered goes faithful = record { word = λ at aligned. refl }
  keeps (WordRead by at word) older state kept entered goes faithful = record { word = λ at aligned. refl }
  keeps (WordWrite by at word) older state kept entered goes faithful = record { word = λ at aligned. refl }
  keeps (Note mark) older state kept entered goes faithful = record { word = λ at aligned. refl }

  -- an event that ends no instruction
  stands-on : (event : Event) (older : History) (state : Ideal) (memory : ℕ → ℕ) → HasSameWords state.memory memory → entry ≤ length (in_order older) → is_retire event ≡ false → Stands older state
      → Stands (event ◂ older) (record state { memory = memory })
  stands-on event older state memory kept entered other at =
      let more : since_step entry (event ◂ older) ≡ since_step entry older ++ event ∷ [] = since-more entry event older entered other in
      record {
        memory = at.memory;
        same = record { word = λ place aligned. at.same.word place aligned ∙ sym (kept.word place aligned) };
        used = at.used;
        words = filter_map-push secure_read (in_order older) event
            ∙ ap (λ (ws : List (Entry ℕ)). ws ++ option_to_list (secure_read event)) at.words
            ∙ append_assoc at.used (words_read (since_step entry older)) (option_to_list (secure_read event))
            ∙ ap (λ (ws : List (Entry ℕ)). at.used ++ ws) (sym (ap words_read more ∙ filter_map-push secure_read (since_step entry older) event));
        written = filter_map-push secure_write (in_order older) event
            ∙ ap (λ (ws : List (Entry ℕ)). ws ++ option_to_list (secure_write event)) at.written
            ∙ append_assoc state.traffic.writes (words_written (since_step entry older)) (option_to_list (secure_write event))
            ∙ ap (λ (ws : List (Entry ℕ)). state.traffic.writes ++ ws) (sym (ap words_written more ∙ filter_map-push secure_write (since_step entry older) event));
        stands = λ rest. ap (λ (n : ℕ). ideal_steps program shared_loose (at.used ++ rest) n) (retired-other event older other) ∙ at.stands rest;
      }

  pub stands : (older : History) → Runs older → entry ≤ length (in_order older) → (state : Ideal) → bus_machine veil program older ≡ Goes state → Stands older state
  stands no_event runs entered state goes = at-start no_event runs (let none : entry ≤ 0 = entered in omega (arith, none)) state goes
  stands (event ◂ older) runs entered state goes = by (cases_lt (length (in_order older)) entry) (stands older (runs-older event older runs))
    where
      after : (b : Bool) (now : Next Ideal IdealEnd) → entry ≤ length (in_order older) → is_retire event ≡ b → bus_machine veil program older ≡ now
          → ((s : Ideal) → bus_machine veil program older ≡ Goes s → Stands older s)
          → cond b (and_then now (bus_step program.layout (since_step entry older))) (with_reads program.layout veil (event ∷ []) now) ≡ Goes state → Stands (event ◂ older) state
      after true (Goes s) before done is ih same =
          let did = stepped event older s runs before done is (ih s is) in
          let to = goes-same state (bus_step program.layout (since_step entry older) s) did.ideal same did.comes in
          let empty : since_step entry (event ◂ older) ≡ [] = since-done entry event older before done in
          record {
            memory = to.0.memory;
            same = to.2.words;
            used = did.words;
            words = did.read ∙ sym (append-nil did.words) ∙ ap (λ (ws : List (Entry ℕ)). did.words ++ ws) (sym (ap words_read empty));
            written = did.written ∙ ap (λ (n : Next Ideal IdealEnd). (state_of n).traffic.writes) to.1 ∙ ap (λ (o : Ideal). o.traffic.writes) to.2.is
                ∙ sym (append-nil state.traffic.writes) ∙ ap (λ (ws : List (Entry ℕ)). state.traffic.writes ++ ws) (sym (ap words_written empty));
            stands = λ more. did.steps more ∙ ap (λ (n : Next Ideal IdealEnd). next_with more n) to.1 ∙ ap (λ (o : Ideal). Goes (with_words more o)) to.2.is;
          }
      after false (Goes s) before other is ih same =
          subst (λ (x : Ideal). Stands (event ◂ older) x) (goes-state _ _ same)
          (stands-on event older s (memory_after program.layout veil event s.memory) (keeps event older s runs.memory.1 before is runs.faithful) before other (ih s is))
      after true (Stops end at) before done is ih same = absurd (no-goes state at end same)
      after false (Stops end at) before other is ih same = absurd (no-goes state at end same)

      by : (length (in_order older) < entry) ⊎ (entry ≤ length (in_order older))
          → (entry ≤ length (in_order older) → (s : Ideal) → bus_machine veil program older ≡ Goes s → Stands older s) → Stands (event ◂ older) state
      by (inl below) ih =
          let more : length (in_order (event ◂ older)) ≡ length (in_order older) + 1 = longer event older in
          at-start (event ◂ older) runs (omega (arith, more, below, entered)) state goes
      by (inr before) ih =
          after (is_retire event) (bus_machine veil program older) before refl refl (ih before) (sym (bus-goes-on entry veil program event older before) ∙ goes)

  -- ---- ends

  -- a run of the secure program ends so
  abbrev IsProgramEnd : IdealEnd → Type 0
  IsProgramEnd Ended = Unit {0}
  IsProgramEnd (Index place) = Unit {0}
  IsProgramEnd (Divide place) = Unit {0}
  IsProgramEnd Starved = ⊥
  IsProgramEnd (Refused reason) = ⊥

  program-end : (end : IdealEnd) (at : Ideal) → IsFed (Stops end at) → IsUnrefused (Stops end at) → IsProgramEnd end
  program-end Ended at fed un = tt
  program-end (Index place) at fed un = tt
  program-end (Divide place) at fed un = tt
  program-end Starved at fed un = absurd fed
  program-end (Refused reason) at fed un = absurd un

  stop-end : (end other : IdealEnd) (at state : Ideal) → Stops other state ≡ Stops end at → other ≡ end
  stop-end end other at state same = cc

  -- the step with which the bus machine ends
  ends-step : (event : Event) (older : History) (state : Ideal) → Runs (event ◂ older) → bus_machine veil program older ≡ Goes state → (end : IdealEnd) (at : Ideal)
      → bus_machine veil program (event ◂ older) ≡ Stops end at
      → (entry ≤ length (in_order older)) × (is_retire event ≡ true) × (bus_step program.layout (since_step entry older) state ≡ Stops end at)
  ends-step event older state runs goes end at ends = by (cases_lt (length (in_order older)) entry)
    where
      done : (b : Bool) → is_retire event ≡ b
          → cond b (and_then (Goes state) (bus_step program.layout (since_step entry older))) (with_reads program.layout veil (event ∷ []) (Goes state)) ≡ Stops end at
          → (is_retire event ≡ true) × (bus_step program.layout (since_step entry older) state ≡ Stops end at)
      done true is same = (is, same)
      done false is same = absurd (no-stop _ at end same)

      by : (length (in_order older) < entry) ⊎ (entry ≤ length (in_order older))
          → (entry ≤ length (in_order older)) × (is_retire event ≡ true) × (bus_step program.layout (since_step entry older) state ≡ Stops end at)
      by (inl below) =
          let more : length (in_order (event ◂ older)) ≡ length (in_order older) + 1 = longer event older in
          absurd (no-stop _ at end (sym (bus-start entry veil program (event ◂ older) (omega (arith, more, below))) ∙ ends))
      by (inr before) =
          let both = done (is_retire event) refl
          (ap (λ (n : Next Ideal IdealEnd). cond (is_retire event) (and_then n (bus_step program.layout (since_step entry older))) (with_reads program.layout veil (event ∷ []) n)) (sym goes)
          ∙ sym (bus-goes-on entry veil program event older before) ∙ ends) in
          (before, both.0, both.1)

  pub ended-well : (older : History) → Runs older → (end : IdealEnd) (at : Ideal) → bus_machine veil program older ≡ Stops end at → IsProgramEnd end
  ended-well no_event runs end at ends = absurd (no-stop _ at end ends)
  ended-well (event ◂ older) runs end at ends = by (bus_machine veil program older) refl (ended-well older (runs-older event older runs))
    where
      by : (now : Next Ideal IdealEnd) → bus_machine veil program older ≡ now
          → ((end : IdealEnd) (at : Ideal) → bus_machine veil program older ≡ Stops end at → IsProgramEnd end) → IsProgramEnd end
      by (Goes state) goes ih =
          let parts = ends-step event older state runs goes end at ends in
          let standing = stands older (runs-older event older runs) parts.0 state goes in
          let did = stepped event older state runs parts.0 parts.1 goes standing in
          let to = stops-same end at (bus_step program.layout (since_step entry older) state) did.ideal parts.2 did.comes in
          program-end end to.0 (subst IsFed to.1 did.fed) (subst IsUnrefused to.1 did.un)
      by (Stops other state) stops ih =
          let stays : bus_machine veil program (event ◂ older) ≡ Stops other state = stays-ended (cases_lt (length (in_order older)) entry) in
          subst IsProgramEnd (stop-end end other at state (sym stays ∙ ends)) (ih other state stops)
        where
          kept : (b : Bool) → cond b (and_then (Stops other state) (bus_step program.layout (since_step entry older))) (with_reads program.layout veil (event ∷ []) (Stops other state)) ≡ Stops other state
          kept true = refl
          kept false = refl

          stays-ended : (length (in_order older) < entry) ⊎ (entry ≤ length (in_order older)) → bus_machine veil program (event ◂ older) ≡ Stops other state
          stays-ended (inl below) = absurd (no-stop _ state other (sym (bus-start entry veil program older (omega (arith, below))) ∙ stops))
          stays-ended (inr before) =
              bus-goes-on entry veil program event older before
              ∙ ap (λ (n : Next Ideal IdealEnd). cond (is_retire event) (and_then n (bus_step program.layout (since_step entry older))) (with_reads program.layout veil (event ∷ []) n)) stops
              ∙ kept (is_retire event)

  pub next-unrefused : (older : History) → Runs older → entry ≤ length (in_order older) → (reason : Why) (at : Ideal)
      → bus_step_after entry veil program older ≡ Stops (Refused reason) at → ⊥
  next-unrefused older runs entered reason at refused = by (bus_machine veil program older) refl refused
    where
      by : (now : Next Ideal IdealEnd) → bus_machine veil program older ≡ now → and_then now (bus_step program.layout (since_step entry older)) ≡ Stops (Refused reason) at → ⊥
      by (Goes state) goes same = subst IsUnrefused same (step-unrefused older state (since_step entry older) (stands older runs entered state goes))
      by (Stops end state) stops same = subst IsProgramEnd (stop-end (Refused reason) end at state same) (ended-well older runs end state stops)

  -- ---- the law

  pub ideal-at : (older : History) (state : Ideal) → Runs older → entry ≤ length (in_order older) → since_step entry older ≡ [] → bus_machine veil program older ≡ Goes state
      → IsIdealAt program older state
  ideal-at older state runs entered boundary goes =
      let at = stands older runs entered state goes in
      let all : words_read (in_order older) ≡ at.used =
      at.words ∙ ap (λ (events : List Event). at.used ++ words_read events) boundary ∙ append-nil at.used in
      record {
        ideal = record state { memory = at.memory };
        same = record { words = at.same; is = refl };
        stands = λ more. ap (λ (ws : List (Entry ℕ)). ideal_steps program shared_loose (ws ++ more) (retired (in_order older))) all ∙ at.stands more;
        written = sym (at.written ∙ ap (λ (events : List Event). state.traffic.writes ++ words_written events) boundary ∙ append-nil state.traffic.writes);
      }

  pub ideal-so-far : (older : History) (state : Ideal) → Runs older → entry ≤ length (in_order older) → bus_machine veil program older ≡ Goes state → IsIdealSoFar program older state
  ideal-so-far older state runs entered goes =
      let at = stands older runs entered state goes in
      record {
        ideal = record state { memory = at.memory };
        same = record { words = at.same; is = refl };
        stands = λ more. ap (λ (ws : List (Entry ℕ)). ideal_steps program shared_loose (ws ++ more) (retired (in_order older))) at.words
            ∙ ap (λ (ws : List (Entry ℕ)). ideal_steps program shared_loose ws (retired (in_order older))) (append_assoc at.used (words_read (since_step entry older)) more)
            ∙ at.stands (words_read (since_step entry older) ++ more);
        written = at.written;
      }

  went-on : (step : Ideal → Next Ideal IdealEnd) (fewer steps : ℕ) (from state : Ideal) → fewer ≤ steps → run step steps from ≡ Goes state → (s : Ideal) × (run step fewer from ≡ Goes s)
  went-on step fewer steps from state below goes = by (run step fewer from) refl
    where
      by : (next : Next Ideal IdealEnd) → run step fewer from ≡ next → (s : Ideal) × (run step fewer from ≡ Goes s)
      by (Goes s) is = (s, is)
      by (Stops end at) is =
          let q : fewer + (steps - fewer) ≡ steps = omega (arith, below) in
          absurd (no-stop state at end (sym goes ∙ subst (λ k. run step k from ≡ Stops end at) q (run-ended step fewer (steps - fewer) from at end is)))

  pub ends-at : (event : Event) (older : History) (state at : Ideal) (end : IdealEnd) → Runs (event ◂ older) → bus_machine veil program older ≡ Goes state
      → bus_machine veil program (event ◂ older) ≡ Stops end at → EndsIdeally program (event ◂ older) end at
  ends-at event older state at end runs goes ends =
      let parts = ends-step event older state runs goes end at ends in
      let standing = stands older (runs-older event older runs) parts.0 state goes in
      let did = stepped event older state runs parts.0 parts.1 goes standing in
      let to = stops-same end at (bus_step program.layout (since_step entry older) state) did.ideal parts.2 did.comes in
      let more_done : retired (in_order (event ◂ older)) ≡ retired (in_order older) + 1 = retired-done event older parts.1 in
      let all : did.words ≡ standing.used ++ words_read (since_step entry older) = sym did.read ∙ push-none secure_read (in_order older) event (done-reads event parts.1) ∙ standing.words in
      record {
        ideal = to.0;
        same = to.2;
        ends = λ more.
            let same : words_read (in_order (event ◂ older)) ++ more ≡ did.words ++ more = ap (λ (ws : List (Entry ℕ)). ws ++ more) did.read in
            let before : words_read (in_order (event ◂ older)) ++ more ≡ standing.used ++ (words_read (since_step entry older) ++ more) =
            same ∙ ap (λ (ws : List (Entry ℕ)). ws ++ more) all ∙ append_assoc standing.used (words_read (since_step entry older)) more in
            record {
              ended = ap (λ (ws : List (Entry ℕ)). ideal_steps program shared_loose ws (retired (in_order (event ◂ older)))) same ∙ did.steps more
                  ∙ ap (λ (n : Next Ideal IdealEnd). next_with more n) to.1;
              not_before = λ fewer below.
                  went-on (ideal_step program.layout shared_loose) fewer (retired (in_order older)) (start program sound (words_read (in_order (event ◂ older)) ++ more))
                  (with_words (words_read (since_step entry older) ++ more) (record state { memory = standing.memory })) (omega (arith, below, more_done))
                  (ap (λ (ws : List (Entry ℕ)). ideal_steps program shared_loose ws (retired (in_order older))) before ∙ standing.stands (words_read (since_step entry older) ++ more));
            };
        written = sym (did.written ∙ ap (λ (n : Next Ideal IdealEnd). (state_of n).traffic.writes) to.1);
      }

pub faithful-ideal : FaithfulRunsAreIdeal
faithful-ideal = record {
  goes = λ image veil program older state sound runs boundary goes.
      ideal-at image veil program sound older state runs (boundary-entered (enter_events program.layout) older boundary) (boundary-since (enter_events program.layout) older boundary) goes;
  under_way = λ image veil program older state sound runs entered goes. ideal-so-far image veil program sound older state runs entered goes;
  ends = λ image veil program event older state at end sound runs goes ends. ends-at image veil program sound event older state at end runs goes ends;
  unstarved = λ image veil program older at sound runs starved. ended-well image veil program sound older runs Starved at starved;
  unrefused = λ image veil program older reason at sound runs refused. ended-well image veil program sound older runs (Refused reason) at refused;
  next_unrefused = λ image veil program older reason at sound runs entered refused. next-unrefused image veil program sound older runs entered reason at refused;
}
