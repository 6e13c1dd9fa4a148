-- A step over a memory whose calls are told in the form of a bus is a step of the bus machine over the events that it appended.
use Rattle.std.proofs.Common.{◌≡◌, ℕ, Bool, true, false, cond, List, [], ◌∷◌, ◌++◌, Option, Some, None, is_some, option_map, Result, Ok, Err, refl, sym, ap, ◌∙◌, subst}
use Rattle.std.specs.Prelude.{IsTrue, if◌then◌else◌}
use Rattle.std.specs.List.{list_all}
use Rattle.std.proofs.lemmas.Bool.{and_parts, and_from, eq-eqb}
use Rattle.std.proofs.lemmas.List.{append-nil, append_assoc}
use Rattle.execution.specs.Traffic.{Traffic, after_loose, after_write}
use Rattle.orbis_word.specs.declared.Instr.{Instr}
use Rattle.orbis_word.specs.Reading.{instruction_in}
use Rattle.regions.specs.declared.Layout.{Layout}
use Rattle.regions.specs.declared.Mode.{Mode}
use Rattle.regions.specs.declared.Access.TheVariants.{Read, Write, Fetch}
use Rattle.regions.specs.LooseClasses.{shared_loose}
use Rattle.regions.specs.Modes.{is_secure}
use Rattle.off_chip.specs.declared.event.Event.{Event}
use Rattle.off_chip.specs.declared.event.Event.TheVariants.{BlockRead, BlockWrite, WordRead, WordWrite, Note}
use Rattle.off_chip.specs.declared.event.Mark.TheVariants as marks
use Rattle.off_chip.specs.declared.event.Who.TheVariants.{Secure}
use Rattle.off_chip.specs.Histories.{first_told}
use Rattle.orbis_core.specs.declared.Effect.{Effect}
use Rattle.orbis_core.specs.declared.Effect.TheVariants as effect
use Rattle.orbis_core.specs.declared.Stop.{Stop}
use Rattle.orbis_core.specs.declared.Stop.TheVariants as stop
use Rattle.orbis_core.specs.declared.Why.{Why}
use Rattle.orbis_core.specs.declared.Port.{Port}
use Rattle.orbis_core.specs.declared.StepEnd.{StepEnd}
use Rattle.orbis_core.specs.declared.StepEnd.TheVariants as end
use Rattle.orbis_core.specs.declared.Why.TheVariants as why
use Rattle.orbis_core.specs.Accesses.{Accesses}
use Rattle.orbis_core.specs.ByteOrder.{byte_in, updated, with_byte, word_start}
use Rattle.orbis_core.specs.Effects.{effect_of}
use Rattle.orbis_core.specs.Ideal.{from_reads, is_among, memory_stored, traffic_stored}
use Rattle.orbis_core.specs.OwnMemory.{Own, OwnLoad, OwnStore, ideal_of, own_accesses, secure_of_end}
use Rattle.orbis_core.specs.Processor.{Processor}
use Rattle.orbis_core.specs.Refusals.{answered, word_refusal, byte_refusal}
use Rattle.orbis_core.specs.Rows.{Machine, Carries, Executes, GoesOnAfter, IsSettledEnd, IsStopped, Leaves, Steps, end_after, over}
use Rattle.orbis_core.proofs.OwnLemmas.{step-facts}
use Rattle.bus_machine.specs.BusAccesses.{ByClass, Exchanges, Fails, Makes, MeetsBus, PutsInBlock, ReadsBlock, ReadsOpen, Sight, UnlessRefused, is_access_event, is_block_event}
use Rattle.bus_machine.specs.BusMachine.{Veil, blocks_taken, word_among, word_given}
use Rattle.bus_machine.specs.BusSteps.{SameButWords, StepIsOnBus, StepsOnBus}
use Rattle.bus_machine.proofs.SegmentLemmas.{taken-append}

-- ---- events

block-access : (event : Event) → is_block_event event ≡ true → is_access_event event ≡ true
block-access (BlockRead at block) is = refl
block-access (BlockWrite at block) is = refl
block-access (WordRead by at word) is = cc
block-access (WordWrite by at word) is = cc
block-access (Note (marks.Drop at)) is = refl
block-access (Note mark) is = is

blocks-access : (events : List Event) → list_all is_block_event events ≡ true → list_all is_access_event events ≡ true
blocks-access [] all = refl
blocks-access (event ∷ events) all =
    let parts = and_parts (is_block_event event) (list_all is_block_event events) all in
    and_from (is_access_event event) (list_all is_access_event events) (block-access event parts.0) (blocks-access events parts.1)

access-append : (first more : List Event) → list_all is_access_event first ≡ true → list_all is_access_event more ≡ true → list_all is_access_event (first ++ more) ≡ true
access-append [] more all rest = rest
access-append (event ∷ first) more all rest =
    let parts = and_parts (is_access_event event) (list_all is_access_event first) all in
    and_from (is_access_event event) (list_all is_access_event (first ++ more)) parts.0 (access-append first more parts.1 rest)

block-gives : (at : ℕ) (event : Event) → is_block_event event ≡ true → word_given at event ≡ None
block-gives at (BlockRead place block) is = refl
block-gives at (BlockWrite place block) is = refl
block-gives at (WordRead by from word) is = cc
block-gives at (WordWrite by from word) is = cc
block-gives at (Note mark) is = refl

-- events of blocks give no open word
word-after : (at : ℕ) (first more : List Event) → list_all is_block_event first ≡ true → word_among (first ++ more) at ≡ word_among more at
word-after at [] more all = refl
word-after at (event ∷ first) more all =
    let parts = and_parts (is_block_event event) (list_all is_block_event first) all in
    ap (λ (o : Option ℕ). first_told o (word_among (first ++ more) at)) (block-gives at event parts.0) ∙ word-after at first more parts.1

word-read : (at word : ℕ) (more : List Event) → word_among (WordRead Secure at word ∷ more) at ≡ Some word
word-read at word more = ap (λ (b : Bool). first_told (cond b (Some word) None) (word_among more at)) (eq-eqb at at refl)

makes-both : {M : Type 0} (sight : Sight M) (first more : List Event) (old middle new : M) → Makes sight first old middle → Makes sight more middle new → Makes sight (first ++ more) old new
makes-both sight first more old middle new one two = record {
  trace = two.trace ∙ ap (λ (t : List Event). t ++ more) one.trace ∙ append_assoc (sight.trace old) first more;
  layout = two.layout ∙ one.layout;
  veil = two.veil ∙ one.veil;
  mode = two.mode ∙ one.mode;
}

-- ---- the memory of the bus machine

abbrev own_at : Layout → Mode → List Event → (ℕ → ℕ) → Traffic ℕ → Own
own_at layout mode events memory traffic = record { layout = layout; outside = from_reads (word_among events); mode = mode; memory = memory; traffic = traffic }

same_traffic : (t : Traffic ℕ) → SameButWords t t
same_traffic t = record { input = refl; bytes = refl; releases = refl; checks = refl; suspensions = refl }

loose_traffic : (t : Traffic ℕ) → SameButWords t (after_loose t)
loose_traffic t = record { input = refl; bytes = refl; releases = refl; checks = refl; suspensions = refl }

stored_traffic : (shared : Bool) (at value : ℕ) (t : Traffic ℕ) → SameButWords t (if shared then after_write at value t else t)
stored_traffic true at value t = record { input = refl; bytes = refl; releases = refl; checks = refl; suspensions = refl }
stored_traffic false at value t = record { input = refl; bytes = refl; releases = refl; checks = refl; suspensions = refl }

-- what the part of a step after the fetch does to the memory of the bus machine, from one that the lines agree with before that part
record Done {M : Type 0} (sight : Sight M) (middle new : M) (events : List Event) (memory : ℕ → ℕ) (traffic : Traffic ℕ) (goal : Own → Type 0) : Type 0 where
  after : Own
  unheld : sight.Agrees middle (blocks_taken (sight.layout middle) (sight.veil middle) events memory)
  agrees : sight.Agrees new after.memory
  mode : after.mode ≡ sight.mode middle
  exchanged : SameButWords traffic after.traffic
  reached : goal after

-- that part, after these events of the fetch
record Second {M : Type 0} (sight : Sight M) (first : List Event) (middle new : M) (ended : StepEnd) (goal : Own → Own → Type 0) : Type 0 where
  events : List Event
  makes : Makes sight events middle new
  accesses : list_all is_access_event events ≡ true
  does : IsSettledEnd ended → (memory : ℕ → ℕ) (traffic : Traffic ℕ) → sight.Agrees middle memory
      → Done sight middle new events memory traffic
      (goal (own_at (sight.layout middle) (sight.mode middle) (first ++ events) (blocks_taken (sight.layout middle) (sight.veil middle) events memory) traffic))

module _ {M : Type 0} (sight : Sight M) (first : List Event) (first_blocks : list_all is_block_event first ≡ true) (middle new : M) where
  abbrev layout : Layout
  layout = sight.layout middle

  -- an access that failed
  failed : {T : Type 0} (answer : Result T Stop) (ended : StepEnd) (goal : Own → Own → Type 0) → ended ≡ end_after answer → Fails sight answer middle new
      → Second sight first middle new ended goal
  failed (Ok value) ended goal is fails = absurd fails
  failed (Err (stop.Refused reason)) ended goal is fails = absurd fails
  failed (Err (stop.Tree event)) ended goal is fails = record {
    events = fails.0;
    makes = fails.1;
    accesses = blocks-access fails.0 fails.2;
    does = λ settled memory traffic agrees. absurd (subst IsSettledEnd is settled);
  }
  failed (Err (stop.Log event)) ended goal is fails = record {
    events = fails.0;
    makes = fails.1;
    accesses = blocks-access fails.0 fails.2;
    does = λ settled memory traffic agrees. absurd (subst IsSettledEnd is settled);
  }

  -- no access, or one that is refused
  nothing : (ended : StepEnd) (goal : Own → Own → Type 0) → Exchanges sight [] middle new → ((own : Own) → goal own own) → Second sight first middle new ended goal
  nothing ended goal made holds = record {
    events = [];
    makes = made.makes;
    accesses = refl;
    does = λ settled memory traffic agrees. record {
      after = own_at layout (sight.mode middle) (first ++ []) memory traffic;
      unheld = agrees;
      agrees = made.agrees memory agrees;
      mode = refl;
      exchanged = same_traffic traffic;
      reached = holds _;
    };
  }

  -- a load
  module _ (ended : StepEnd) (start : ℕ) (of_word : ℕ → ℕ) (value : (ℕ → ℕ) → ℕ) (came : Own → Option ℕ)
      (comes : (own : Layout) (mode : Mode) (events : List Event) (memory : ℕ → ℕ) (traffic : Traffic ℕ) (word : ℕ) → word_among events start ≡ Some word
      → came (own_at own mode events memory traffic) ≡ Some (of_word word)) where
    abbrev LoadGoal : Option Why → Bool → Result ℕ Stop → Own → Own → Type 0
    LoadGoal r b answer own after = OwnLoad r b (came own) (value own.memory) own answer after

    load-case : (r : Option Why) (b : Bool) (answer : Result ℕ Stop) → ended ≡ end_after answer
        → UnlessRefused sight r answer middle new (ByClass b (ReadsOpen sight start of_word answer middle new) (ReadsBlock sight value answer middle new))
        → Second sight first middle new ended (LoadGoal r b answer)
    load-case (Some reason) b answer is row = nothing ended (LoadGoal (Some reason) b answer) row.1 (λ own. (row.0, refl))
    load-case None true answer is row = record {
      events = WordRead Secure start row.0 ∷ [];
      makes = row.2.makes;
      accesses = refl;
      does = λ settled memory traffic agrees.
          let events : List Event = first ++ WordRead Secure start row.0 ∷ [] in
          let own : Own = own_at layout (sight.mode middle) events memory traffic in
          let read : word_among events start ≡ Some row.0 = word-after start first (WordRead Secure start row.0 ∷ []) first_blocks ∙ word-read start row.0 [] in
          let P : Option ℕ → Type 0 = λ o. OwnLoad None true o (value memory) own answer (record own { traffic = after_loose traffic }) in
          record {
            after = record own { traffic = after_loose traffic };
            unheld = agrees;
            agrees = row.2.agrees memory agrees;
            mode = refl;
            exchanged = loose_traffic traffic;
            reached = subst P (sym (comes layout (sight.mode middle) events memory traffic row.0 read)) (row.1, refl);
          };
    }
    load-case None false (Ok word) is row = record {
      events = row.0;
      makes = row.1.makes;
      accesses = blocks-access row.0 row.1.blocks;
      does = λ settled memory traffic agrees.
          let taken : ℕ → ℕ = blocks_taken layout (sight.veil middle) row.0 memory in
          let own : Own = own_at layout (sight.mode middle) (first ++ row.0) taken traffic in
          record {
            after = own;
            unheld = row.1.unheld memory agrees;
            agrees = row.1.agrees memory agrees;
            mode = refl;
            exchanged = same_traffic traffic;
            reached = (ap (λ (w : ℕ). Ok w) (sym (row.2 taken (row.1.agrees memory agrees))), refl);
          };
    }
    load-case None false (Err reason) is row = failed {T = ℕ} (Err reason) ended (LoadGoal None false (Err reason)) is row

  -- an open word is stored by these events, which read no block
  record StoresOpen (answer : Result (Unit {0}) Stop) : Type 0 where
    events : List Event
    accesses : list_all is_access_event events ≡ true
    no_block : (memory : ℕ → ℕ) → blocks_taken layout (sight.veil middle) events memory ≡ memory
    answered : answer ≡ Ok tt
    made : Exchanges sight events middle new

  store-opens : (X Y C : Type 0) (r : Option Why) (b : Bool) (answer : Result (Unit {0}) Stop) → (X → Y)
      → UnlessRefused sight r answer middle new (ByClass b X C) → UnlessRefused sight r answer middle new (ByClass b Y C)
  store-opens X Y C (Some reason) b answer f row = row
  store-opens X Y C None true answer f row = f row
  store-opens X Y C None false answer f row = row

  -- a store
  module _ (ended : StepEnd) (at value : ℕ) (word : (ℕ → ℕ) → ℕ) where
    abbrev StoreGoal : Option Why → Result (Unit {0}) Stop → Own → Own → Type 0
    StoreGoal r answer own after = OwnStore r at value (word own.memory) own answer after

    store-case : (r : Option Why) (b : Bool) (answer : Result (Unit {0}) Stop) → is_among shared_loose layout at ≡ b → ended ≡ end_after answer
        → UnlessRefused sight r answer middle new
        (ByClass b (StoresOpen answer) (PutsInBlock sight (λ memory. updated memory (word_start at) (word memory)) answer middle new))
        → Second sight first middle new ended (StoreGoal r answer)
    store-case (Some reason) b answer class is row = nothing ended (StoreGoal (Some reason) answer) row.1 (λ own. (row.0, refl))
    store-case None true answer class is row = record {
      events = row.events;
      makes = row.made.makes;
      accesses = row.accesses;
      does = λ settled memory traffic agrees.
          let taken : ℕ → ℕ = blocks_taken layout (sight.veil middle) row.events memory in
          let own : Own = own_at layout (sight.mode middle) (first ++ row.events) taken traffic in
          let Q : (ℕ → ℕ) → Type 0 = λ m. sight.Agrees middle m in
          let R : (ℕ → ℕ) → Type 0 = λ m. sight.Agrees new m in
          let S : Bool → Type 0 = λ b. sight.Agrees new (if b then taken else updated taken (word_start at) (word taken)) in
          record {
            after = record own { memory = memory_stored layout shared_loose at (word taken) taken; traffic = traffic_stored layout at value traffic };
            unheld = subst Q (sym (row.no_block memory)) agrees;
            agrees = subst S (sym class) (subst R (sym (row.no_block memory)) (row.made.agrees memory agrees));
            mode = refl;
            exchanged = stored_traffic (is_among shared_loose layout at) at value traffic;
            reached = (row.answered, refl);
          };
    }
    store-case None false (Ok done) class is row = record {
      events = row.0;
      makes = row.1.makes;
      accesses = blocks-access row.0 row.1.blocks;
      does = λ settled memory traffic agrees.
          let taken : ℕ → ℕ = blocks_taken layout (sight.veil middle) row.0 memory in
          let own : Own = own_at layout (sight.mode middle) (first ++ row.0) taken traffic in
          let S : Bool → Type 0 = λ b. sight.Agrees new (if b then taken else updated taken (word_start at) (word taken)) in
          record {
            after = record own { memory = memory_stored layout shared_loose at (word taken) taken; traffic = traffic_stored layout at value traffic };
            unheld = row.1.unheld memory agrees;
            agrees = subst S (sym class) (row.1.agrees memory agrees);
            mode = refl;
            exchanged = stored_traffic (is_among shared_loose layout at) at value traffic;
            reached = (refl, refl);
          };
    }
    store-case None false (Err reason) class is row = failed {T = Unit {0}} (Err reason) ended (StoreGoal None (Err reason)) is row

-- ---- the row of an instruction

none-made : {M : Type 0} (sight : Sight M) (middle new : M) → new ≡ middle → Exchanges sight [] middle new
none-made {M} sight middle new same = record {
  makes = record {
    trace = ap (λ (m : M). sight.trace m) same ∙ sym (append-nil (sight.trace middle));
    layout = ap (λ (m : M). sight.layout m) same;
    veil = ap (λ (m : M). sight.veil m) same;
    mode = ap (λ (m : M). sight.mode m) same;
  };
  agrees = λ memory agrees. let P : M → Type 0 = λ m. sight.Agrees m memory in subst P (sym same) agrees;
}

map-goal : {M : Type 0} (sight : Sight M) (first : List Event) (middle new : M) (ended : StepEnd) (goal other : Own → Own → Type 0)
    → ((events : List Event) (memory : ℕ → ℕ) (traffic : Traffic ℕ) (after : Own) → let own : Own = own_at (sight.layout middle) (sight.mode middle) events memory traffic in
    goal own after → other own after)
    → Second sight first middle new ended goal → Second sight first middle new ended other
map-goal sight first middle new ended goal other f second = record {
  events = second.events;
  makes = second.makes;
  accesses = second.accesses;
  does = λ settled memory traffic agrees.
      let done = second.does settled memory traffic agrees in
      record {
        after = done.after;
        unheld = done.unheld;
        agrees = done.agrees;
        mode = done.mode;
        exchanged = done.exchanged;
        reached = f (first ++ second.events) (blocks_taken (sight.layout middle) (sight.veil middle) second.events memory) traffic done.after done.reached;
      };
}

byte-comes : (at : ℕ) (own : Layout) (mode : Mode) (events : List Event) (memory : ℕ → ℕ) (traffic : Traffic ℕ) (word : ℕ) → word_among events (word_start at) ≡ Some word
    → (own_at own mode events memory traffic).outside.byte at traffic ≡ Some (byte_in word at)
byte-comes at own mode events memory traffic word is = ap (λ (o : Option ℕ). option_map (λ w. byte_in w at) o) is

module _ {M : Type 0} (sight : Sight M) (accesses : Accesses M) (meets : MeetsBus sight accesses)
    (first : List Event) (first_blocks : list_all is_block_event first ≡ true) (old new : Machine M) (ended : StepEnd) (secure : IsTrue (is_secure (sight.mode old.memory))) where
  -- the memory after the fetch, and what the machine's own memory does from it
  abbrev middle : M
  middle = old.memory

  abbrev Half : (Own → Own → Type 0) → Type 0
  Half goal = Second sight first middle new.memory ended goal

  leaves : (end : StepEnd) (core : Processor) (port : Port) → Leaves end core port old ended new → Half (λ own after. Leaves end core port (over own old) ended (over after new))
  leaves end core port left =
      nothing sight first first_blocks middle new.memory ended (λ own after. Leaves end core port (over own old) ended (over after new)) (none-made sight middle new.memory left.memory)
      (λ own. record { ends = left.ends; core = left.core; memory = refl; port = left.port })

  effects : (asked : Effect) → Carries accesses asked old ended new → Half (λ own after. Carries own_accesses asked (over own old) ended (over after new))
  effects effect.Proceed row = leaves _ _ _ row
  effects (effect.Write d value) row = leaves _ _ _ row
  effects (effect.Compare flag) row = leaves _ _ _ row
  effects (effect.Jump target) row = leaves _ _ _ row
  effects (effect.Link target) row = leaves _ _ _ row
  effects effect.DivideByZero row = leaves _ _ _ row
  effects (effect.Secure f) row = leaves _ _ _ row
  effects (effect.LoadWord d at) row =
      let r : Option Why = word_refusal (sight.layout middle) (sight.mode middle) Read at in
      let b : Bool = is_among shared_loose (sight.layout middle) at in
      map-goal sight first middle new.memory ended
      (λ own after. OwnLoad r b (own.outside.word at own.traffic) (own.memory at) own row.answer after)
      (λ own after. Carries own_accesses (effect.LoadWord d at) (over own old) ended (over after new))
      (λ events memory traffic after done. record { answer = row.answer; loaded = done; ends = row.ends; core = row.core; port = row.port })
      (load-case sight first first_blocks middle new.memory ended at (λ word. word) (λ memory. memory at) (λ own. own.outside.word at own.traffic)
      (λ own mode events memory traffic word is. is) r b row.answer row.ends (meets.load_word middle new.memory at row.answer secure row.loaded))
  effects (effect.LoadByte d at) row =
      let r : Option Why = byte_refusal (sight.layout middle) (sight.mode middle) Read at in
      let b : Bool = is_among shared_loose (sight.layout middle) at in
      map-goal sight first middle new.memory ended
      (λ own after. OwnLoad r b (own.outside.byte at own.traffic) (byte_in (own.memory (word_start at)) at) own row.answer after)
      (λ own after. Carries own_accesses (effect.LoadByte d at) (over own old) ended (over after new))
      (λ events memory traffic after done. record { answer = row.answer; loaded = done; ends = row.ends; core = row.core; port = row.port })
      (load-case sight first first_blocks middle new.memory ended (word_start at) (λ word. byte_in word at) (λ memory. byte_in (memory (word_start at)) at) (λ own. own.outside.byte at own.traffic)
      (byte-comes at) r b row.answer row.ends (meets.load_byte middle new.memory at row.answer secure row.loaded))
  effects (effect.StoreWord at word) row =
      let r : Option Why = word_refusal (sight.layout middle) (sight.mode middle) Write at in
      let b : Bool = is_among shared_loose (sight.layout middle) at in
      map-goal sight first middle new.memory ended
      (λ own after. OwnStore r at word word own row.answer after)
      (λ own after. Carries own_accesses (effect.StoreWord at word) (over own old) ended (over after new))
      (λ events memory traffic after done. record { answer = row.answer; stored = done; ends = row.ends; core = row.core; port = row.port })
      (store-case sight first first_blocks middle new.memory ended at word (λ memory. word) r b row.answer refl row.ends
      (store-opens sight first first_blocks middle new.memory _ _ _ r b row.answer
      (λ made. record { events = WordWrite Secure at word ∷ []; accesses = refl; no_block = λ memory. refl; answered = made.0; made = made.1 })
      (meets.store_word middle new.memory at word row.answer secure row.stored)))
  effects (effect.StoreByte at byte) row =
      let r : Option Why = byte_refusal (sight.layout middle) (sight.mode middle) Write at in
      let b : Bool = is_among shared_loose (sight.layout middle) at in
      map-goal sight first middle new.memory ended
      (λ own after. OwnStore r at byte (with_byte (own.memory (word_start at)) at byte) own row.answer after)
      (λ own after. Carries own_accesses (effect.StoreByte at byte) (over own old) ended (over after new))
      (λ events memory traffic after done. record { answer = row.answer; stored = done; ends = row.ends; core = row.core; port = row.port })
      (store-case sight first first_blocks middle new.memory ended at byte (λ memory. with_byte (memory (word_start at)) at byte) r b row.answer refl row.ends
      (store-opens sight first first_blocks middle new.memory _ _ _ r b row.answer
      (λ made. record {
        events = WordRead Secure (word_start at) made.0 ∷ WordWrite Secure (word_start at) (with_byte made.0 at byte) ∷ [];
        accesses = refl;
        no_block = λ memory. refl;
        answered = made.1;
        made = made.2;
      })
      (meets.store_byte middle new.memory at byte row.answer secure row.stored)))

  executes : (found : Option Instr) → Executes accesses found old ended new → Half (λ own after. Executes own_accesses found (over own old) ended (over after new))
  executes None row = leaves _ _ _ row
  executes (Some instruction) row = effects (effect_of instruction old.core) row

-- ---- secure instructions

-- a step of one accesses no memory but for the fetch, so it is one over another memory with the word that was fetched
module _ {M : Type 0} (old new : Machine M) (ended : StepEnd) (secure : is_some (secure_of_end ended) ≡ true) (own after other : Own)
    (layout : other.layout ≡ own.layout) (mode : other.mode ≡ own.mode) (word : other.memory old.core.pc ≡ own.memory old.core.pc) where
  record Elsewhere : Type 0 where
    stays : after ≡ own
    steps : Steps own_accesses (over other old) ended (over other new)

  not-next : ended ≡ end.Next → ⊥
  not-next is = let e : false ≡ true = ap (λ (x : StepEnd). is_some (secure_of_end x)) (sym is) ∙ secure in cc

  not-stopped : (reason : Stop) → ended ≡ end.Stopped reason → ⊥
  not-stopped reason is = let e : false ≡ true = ap (λ (x : StepEnd). is_some (secure_of_end x)) (sym is) ∙ secure in cc

  not-after : {T : Type 0} (answer : Result T Stop) → ended ≡ end_after answer → ⊥
  not-after (Ok value) is = not-next is
  not-after (Err reason) is = not-stopped reason is

  secure-row : (asked : Effect) → Carries own_accesses asked (over own old) ended (over after new)
      → (after ≡ own) × Carries own_accesses asked (over other old) ended (over other new)
  secure-row effect.Proceed row = absurd (not-next row.ends)
  secure-row (effect.Write d value) row = absurd (not-next row.ends)
  secure-row (effect.Compare flag) row = absurd (not-next row.ends)
  secure-row (effect.Jump target) row = absurd (not-next row.ends)
  secure-row (effect.Link target) row = absurd (not-next row.ends)
  secure-row effect.DivideByZero row = absurd (not-stopped (stop.Refused why.Divide) row.ends)
  secure-row (effect.LoadWord d at) row = absurd (not-after row.answer row.ends)
  secure-row (effect.LoadByte d at) row = absurd (not-after row.answer row.ends)
  secure-row (effect.StoreWord at value) row = absurd (not-after row.answer row.ends)
  secure-row (effect.StoreByte at byte) row = absurd (not-after row.answer row.ends)
  secure-row (effect.Secure f) row = (row.memory, record { ends = row.ends; core = row.core; memory = refl; port = row.port })

  secure-word : (found : Option Instr) → Executes own_accesses found (over own old) ended (over after new)
      → (after ≡ own) × Executes own_accesses found (over other old) ended (over other new)
  secure-word None row = absurd (not-stopped (stop.Refused why.Illegal) row.ends)
  secure-word (Some instruction) row = secure-row (effect_of instruction old.core) row

  secure-answer : (r : Option Why) → word_refusal own.layout own.mode Fetch old.core.pc ≡ r → (answer : Result ℕ Stop) → answer ≡ answered r (own.memory old.core.pc)
      → GoesOnAfter own_accesses answer (over own old) ended (over after new) → Elsewhere
  secure-answer (Some reason) none answer is row =
      let P : Result ℕ Stop → Type 0 = λ a. GoesOnAfter own_accesses a (over own old) ended (over after new) in
      let stopped : IsStopped (stop.Refused reason) (over own old) ended (over after new) = subst P is row in
      absurd (not-stopped (stop.Refused reason) stopped.ends)
  secure-answer None none answer is row =
      let P : Result ℕ Stop → Type 0 = λ a. GoesOnAfter own_accesses a (over own old) ended (over after new) in
      let both = secure-word (instruction_in (own.memory old.core.pc)) (subst P is row) in
      let same : word_refusal other.layout other.mode Fetch old.core.pc ≡ None =
      ap (λ (l : Layout). word_refusal l other.mode Fetch old.core.pc) layout ∙ ap (λ (m : Mode). word_refusal own.layout m Fetch old.core.pc) mode ∙ none in
      let Q : ℕ → Type 0 = λ w. Executes own_accesses (instruction_in w) (over other old) ended (over other new) in
      record {
        stays = both.0;
        steps = record {
          answer = Ok (other.memory old.core.pc);
          middle = other;
          fetched = (ap (λ r. answered r (other.memory old.core.pc)) (sym same), refl);
          goes_on = subst Q (sym word) both.1;
        };
      }

  elsewhere : Steps own_accesses (over own old) ended (over after new) → Elsewhere
  elsewhere step =
      let P : Own → Type 0 = λ m. GoesOnAfter own_accesses step.answer (over m old) ended (over after new) in
      secure-answer (word_refusal own.layout own.mode Fetch old.core.pc) refl step.answer step.fetched.0 (subst P step.fetched.1 step.goes_on)

-- ---- the step

settled-secure : (ended : StepEnd) → is_some (secure_of_end ended) ≡ true → IsSettledEnd ended
settled-secure (end.Stopped reason) secured = let e : false ≡ true = secured in cc
settled-secure ended secured = tt

module _ {M : Type 0} (sight : Sight M) (accesses : Accesses M) (meets : MeetsBus sight accesses)
    (old new : Machine M) (ended : StepEnd) (secure : IsTrue (is_secure (sight.mode old.memory))) where
  abbrev old_layout : Layout
  old_layout = sight.layout old.memory

  abbrev old_veil : Veil
  old_veil = sight.veil old.memory

  abbrev old_mode : Mode
  old_mode = sight.mode old.memory

  -- what the machine's own memory does, with the blocks of these events
  record OwnStepped (events : List Event) (memory : ℕ → ℕ) (traffic : Traffic ℕ) : Type 0 where
    after : Own
    agrees : sight.Agrees new.memory after.memory
    mode_stays : after.mode ≡ old_mode
    exchanged : SameButWords traffic after.traffic
    steps : Steps own_accesses (over (own_at old_layout old_mode events (blocks_taken old_layout old_veil events memory) traffic) old) ended (over after new)

  record OwnSteps : Type 0 where
    events : List Event
    makes : Makes sight events old.memory new.memory
    each : list_all is_access_event events ≡ true
    does : IsSettledEnd ended → (memory : ℕ → ℕ) (traffic : Traffic ℕ) → sight.Agrees old.memory memory → OwnStepped events memory traffic

  -- the fetch was stopped
  stopped : (reason : Stop) (middle : M) (events : List Event) → Makes sight events old.memory middle → list_all is_block_event events ≡ true → IsStopped reason (record old { memory = middle }) ended new
      → ((memory : ℕ → ℕ) (traffic : Traffic ℕ) → IsSettledEnd ended → sight.Agrees old.memory memory → (sight.Agrees middle (blocks_taken old_layout old_veil events memory))
      × Steps own_accesses (over (own_at old_layout old_mode events (blocks_taken old_layout old_veil events memory) traffic) old) ended (over (own_at old_layout old_mode events (blocks_taken old_layout old_veil events memory) traffic) new))
      → OwnSteps
  stopped reason middle events made blocks row holds = record {
    events = events;
    makes = let P : M → Type 0 = λ m. Makes sight events old.memory m in subst P (sym row.memory) made;
    each = blocks-access events blocks;
    does = λ settled memory traffic agrees.
        let both = holds memory traffic settled agrees in
        let P : M → Type 0 = λ m. sight.Agrees m (blocks_taken old_layout old_veil events memory) in
        record { after = own_at old_layout old_mode events (blocks_taken old_layout old_veil events memory) traffic; agrees = subst P (sym row.memory) both.0; mode_stays = refl; exchanged = same_traffic traffic; steps = both.1 };
  }

  by-answer : (r : Option Why) → r ≡ word_refusal old_layout old_mode Fetch old.core.pc → (answer : Result ℕ Stop) (middle : M)
      → UnlessRefused sight r answer old.memory middle (ReadsBlock sight (λ memory. memory old.core.pc) answer old.memory middle)
      → GoesOnAfter accesses answer (record old { memory = middle }) ended new → OwnSteps
  by-answer (Some reason) is answer middle row goes_on =
      let P : Result ℕ Stop → Type 0 = λ a. GoesOnAfter accesses a (record old { memory = middle }) ended new in
      let left : IsStopped (stop.Refused reason) (record old { memory = middle }) ended new = subst P row.0 goes_on in
      stopped (stop.Refused reason) middle [] row.1.makes refl left (λ memory traffic settled agrees. (
        row.1.agrees memory agrees,
        record {
          answer = Err (stop.Refused reason);
          middle = own_at old_layout old_mode [] memory traffic;
          fetched = (ap (λ r. answered r (memory old.core.pc)) is, refl);
          goes_on = record { ends = left.ends; core = left.core; memory = refl; port = left.port };
        },
      ))
  by-answer None is (Ok word) middle row goes_on =
      let moves = row.1 in
      let S : Mode → Type 0 = λ m. IsTrue (is_secure m) in
      let second = executes sight accesses meets row.0 moves.blocks (record old { memory = middle }) new ended (subst S (sym moves.makes.mode) secure) (instruction_in word) goes_on in
      let events : List Event = row.0 ++ second.events in
      record {
        events = events;
        makes = makes-both sight row.0 second.events old.memory middle new.memory moves.makes second.makes;
        each = access-append row.0 second.events (blocks-access row.0 moves.blocks) second.accesses;
        does = λ settled memory traffic agrees.
            let first : ℕ → ℕ = blocks_taken old_layout old_veil row.0 memory in
            let done = second.does settled first traffic (moves.agrees memory agrees) in
            let all : ℕ → ℕ = blocks_taken old_layout old_veil events memory in
            let taken : blocks_taken (sight.layout middle) (sight.veil middle) second.events first ≡ all =
            ap (λ (l : Layout). blocks_taken l (sight.veil middle) second.events first) moves.makes.layout
            ∙ ap (λ (v : Veil). blocks_taken old_layout v second.events first) moves.makes.veil
            ∙ sym (taken-append old_layout old_veil row.0 second.events memory) in
            let own : own_at (sight.layout middle) (sight.mode middle) events (blocks_taken (sight.layout middle) (sight.veil middle) second.events first) traffic ≡ own_at old_layout old_mode events all traffic =
            ap (λ (l : Layout). own_at l (sight.mode middle) events (blocks_taken (sight.layout middle) (sight.veil middle) second.events first) traffic) moves.makes.layout
            ∙ ap (λ (m : Mode). own_at old_layout m events (blocks_taken (sight.layout middle) (sight.veil middle) second.events first) traffic) moves.makes.mode
            ∙ ap (λ (m : ℕ → ℕ). own_at old_layout old_mode events m traffic) taken in
            let value : all old.core.pc ≡ word = ap (λ (m : ℕ → ℕ). m old.core.pc) (sym taken) ∙ row.2 (blocks_taken (sight.layout middle) (sight.veil middle) second.events first) done.unheld in
            let Q : Own → Type 0 = λ o. Executes own_accesses (instruction_in word) (over o old) ended (over done.after new) in
            record {
              after = done.after;
              agrees = done.agrees;
              mode_stays = done.mode ∙ moves.makes.mode;
              exchanged = done.exchanged;
              steps = record {
                answer = Ok word;
                middle = own_at old_layout old_mode events all traffic;
                fetched = (ap (λ (w : ℕ). Ok w) (sym value) ∙ ap (λ r. answered r (all old.core.pc)) is, refl);
                goes_on = subst Q own done.reached;
              };
            };
      }
  by-answer None is (Err (stop.Refused reason)) middle row goes_on = absurd row
  by-answer None is (Err (stop.Tree event)) middle row goes_on =
      stopped (stop.Tree event) middle row.0 row.1 row.2 goes_on (λ memory traffic settled agrees. absurd (subst IsSettledEnd goes_on.ends settled))
  by-answer None is (Err (stop.Log event)) middle row goes_on =
      stopped (stop.Log event) middle row.0 row.1 row.2 goes_on (λ memory traffic settled agrees. absurd (subst IsSettledEnd goes_on.ends settled))

  own-steps : Steps accesses old ended new → OwnSteps
  own-steps step = by-answer (word_refusal old_layout old_mode Fetch old.core.pc) refl step.answer step.middle (meets.fetch old.memory step.middle old.core.pc step.answer secure step.fetched) step.goes_on

  pub on-bus : Steps accesses old ended new → StepsOnBus sight old new ended
  on-bus step =
      let own = own-steps step in
      record {
        events = own.events;
        makes = own.makes;
        accesses = own.each;
        goes_along = λ settled memory traffic agrees input.
            let done = own.does settled memory traffic agrees in
            let start : Machine Own = over (own_at old_layout old_mode own.events (blocks_taken old_layout old_veil own.events memory) traffic) old in
            let facts = step-facts start (over done.after new) ended input done.steps in
            record {
              after = ideal_of (over done.after new);
              core = refl;
              mode = done.mode_stays;
              agrees = done.agrees;
              exchanged = done.exchanged;
              port = facts.port;
              answers = facts.answers;
            };
        goes_later = λ secured memory traffic agrees input more word.
            let done = own.does (settled-secure ended secured) memory traffic agrees in
            let with_these : Own = own_at old_layout old_mode own.events (blocks_taken old_layout old_veil own.events memory) traffic in
            let with_more : Own = own_at old_layout old_mode (own.events ++ more) (blocks_taken old_layout old_veil (own.events ++ more) memory) traffic in
            let other = elsewhere old new ended secured with_these done.after with_more refl refl word done.steps in
            let facts = step-facts (over with_more old) (over with_more new) ended input other.steps in
            let P : Own → Type 0 = λ m. sight.Agrees new.memory m.memory in
            record { port = facts.port; agrees = subst P other.stays done.agrees; answers = facts.answers };
      }

pub step-on-bus : {M : Type 0} (sight : Sight M) (accesses : Accesses M) → MeetsBus sight accesses → StepIsOnBus sight accesses
step-on-bus sight accesses meets old new ended secure step = on-bus sight accesses meets old new ended secure step
