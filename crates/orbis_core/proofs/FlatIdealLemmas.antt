-- Flat memory is the ideal memory.
use Rattle.std.proofs.Common.{◌≡◌, ℕ, suc, ◌*◌, ◌/◌, ◌++◌, ◌+◌, ◌-◌, ◌%◌, ◌^◌, ◌<◌, ◌≤◌, ◌⊎◌, inl, inr, Bool, true, false, ◌==◌, if◌then◌else◌, List, length, get_or, set, drop, nat_eq, nat_lt, Option, Some, None, IsSome, option_and_then, option_map, unwrap_or, Result, Ok, Err, refl, sym, ◌∙◌, ap, subst, arith, zero, replicate, nat_le, length-append, append_assoc}
use Rattle.std.proofs.lemmas.Bool.Decides.{nat_tests}
use Rattle.std.proofs.lemmas.Bool.{cases_lt, cases_eq}
use Rattle.std.proofs.lemmas.Grind.{common_steps}
use Rattle.std.proofs.lemmas.List.{length-replicate, get_or_append_left, get_or-append_right}
use Rattle.std.proofs.Math.ListN.{length-set}
use Rattle.std.specs.Prelude.{IsTrue}
use Rattle.execution.specs.Run.{Stops}
use Rattle.execution.specs.Traffic.{Traffic, loose_word}
use Rattle.orbis_word.specs.declared.Instr.{Instr}
use Rattle.orbis_word.specs.Reading.{instruction_in}
use Rattle.regions.specs.declared.addresses.TheConstants.{OPEN_END}
use Rattle.regions.specs.declared.Layout.{Layout}
use Rattle.regions.specs.declared.Mode.{Mode}
use Rattle.regions.specs.declared.Mode.TheVariants.{Std, Te, Ptr, Ssp}
use Rattle.regions.specs.declared.Class.{Class}
use Rattle.regions.specs.declared.Class.TheVariants.{Open, Verified, Private, Constant, Code, Logged}
use Rattle.regions.specs.declared.Access.{Access}
use Rattle.regions.specs.declared.Access.TheVariants.{Read, Write, Fetch}
use Rattle.regions.specs.Addresses.{class_at, LiesIn, HasBlock, IsInData, IsInLog, start_of, end_of}
use Rattle.regions.specs.Blocks.{data_blocks}
use Rattle.regions.specs.LooseClasses.{nothing_loose}
use Rattle.regions.specs.Modes.{is_secure}
use Rattle.regions.specs.Rights.{rights}
use Rattle.regions.proofs.AddressLaws.{class_at-LiesIn, LiesIn-class_at, HasBlock-LiesIn}
use Rattle.orbis_core.specs.declared.effect.Effect.{Effect}
use Rattle.orbis_core.specs.declared.effect.Effect.TheVariants as effect
use Rattle.orbis_core.specs.declared.memory.Stop.{Stop}
use Rattle.orbis_core.specs.declared.memory.Stop.TheVariants as stop
use Rattle.orbis_core.specs.declared.memory.Why.{Why}
use Rattle.orbis_core.specs.declared.memory.Why.TheVariants as why
use Rattle.orbis_core.specs.declared.stepping.StepEnd.{StepEnd}
use Rattle.orbis_core.specs.ByteOrder.{byte_in, with_byte, words_in, updated, word_start}
use Rattle.orbis_core.specs.Carrying.{CarriedTo, CarriesOver}
use Rattle.orbis_core.specs.Effects.{effect_of}
use Rattle.orbis_core.specs.FlatIsIdeal.{HasWords, IsTied, Follows, IsKeptOut, FlatStepIsIdeal, FlatStartIsIdeal}
use Rattle.orbis_core.specs.FlatMemory.{Flat, flat_accesses, flat_accesses_in, index_of, put, flat_word, word_count, flat_of, open_words, block_words}
use Rattle.orbis_core.specs.Ideal.{Ideal, Refused, accessed_by, carried, effect_at, from_nowhere, ideal_step, is_among, loads, memory_stored, static_memory, stores, traffic_stored, unless}
use Rattle.orbis_core.specs.OwnMemory.{Own, OwnLoad, OwnStore, own_accesses}
use Rattle.orbis_core.specs.Processor.{Processor}
use Rattle.orbis_core.specs.Refusals.{answered, is_allowed, word_refusal, byte_refusal, unless_refused}
use Rattle.orbis_core.specs.Rows.{Machine, Carries, Executes, GoesOnAfter, Steps, over}
use Rattle.orbis_core.proofs.CarryingLemmas.{steps-carry}
use Rattle.orbis_core.proofs.FlatLaws.{length-words_in, between}
use Rattle.orbis_core.proofs.OwnLemmas.{step-facts}
use Rattle.orbis_core.proofs.StepLaws.{step-effect}

-- ---- addresses

-- where an address of some class lies
abbrev IsInside : Layout → ℕ → Type 0
IsInside layout at = (at < OPEN_END) ⊎ IsInData layout at ⊎ IsInLog layout at

inside-class : (layout : Layout) (at : ℕ) (class : Class) → HasBlock layout class at → IsInside layout at
inside-class layout at Open has = inl has
inside-class layout at Verified has = inr (inl has)
inside-class layout at Private has = inr (inl has)
inside-class layout at Constant has = inr (inl has)
inside-class layout at Code has = inr (inl has)
inside-class layout at Logged has = inr (inr has)

inside : (layout : Layout) (at : ℕ) → IsSome (class_at layout at) → IsInside layout at
inside layout at some = go (class_at layout at) refl some
  where
    go : (found : Option Class) → found ≡ class_at layout at → IsSome found → IsInside layout at
    go (Some class) is some = inside-class layout at class (HasBlock-LiesIn layout at class (LiesIn-class_at layout at class (sym is)))
    go None is some = absurd (grind arith)

-- two words with one number have one address
one_address : (layout : Layout) (at other : ℕ) → IsInside layout at → IsInside layout other → at % 4 ≡ 0 → other % 4 ≡ 0 → index_of layout at ≡ index_of layout other → at ≡ other
one_address layout at other (inl a) (inl b) p q e = grind (arith, nat_tests)
one_address layout at other (inl a) (inr (inl b)) p q e = let fits = layout.data_fits in absurd (grind (arith, nat_tests, b.from, b.block))
one_address layout at other (inl a) (inr (inr b)) p q e = let fits = layout.data_fits in absurd (grind (arith, nat_tests, b.from, b.block))
one_address layout at other (inr (inl a)) (inl b) p q e = let fits = layout.data_fits in absurd (grind (arith, nat_tests, a.from, a.block))
one_address layout at other (inr (inl a)) (inr (inl b)) p q e = let fits = layout.data_fits in grind (arith, nat_tests, a.from, a.block, b.from, b.block)
one_address layout at other (inr (inl a)) (inr (inr b)) p q e = let fits = layout.data_fits in absurd (grind (arith, nat_tests, a.from, a.block, b.from, b.block))
one_address layout at other (inr (inr a)) (inl b) p q e = let fits = layout.data_fits in absurd (grind (arith, nat_tests, a.from, a.block))
one_address layout at other (inr (inr a)) (inr (inl b)) p q e = let fits = layout.data_fits in absurd (grind (arith, nat_tests, a.from, a.block, b.from, b.block))
one_address layout at other (inr (inr a)) (inr (inr b)) p q e = grind (arith, nat_tests, a.from, a.block, b.from, b.block)

-- each has a number that there is
has_index : (layout : Layout) (at : ℕ) → IsInside layout at → index_of layout at < word_count layout
has_index layout at (inl a) = grind (arith, nat_tests)
has_index layout at (inr (inl a)) = let fits = layout.data_fits in grind (arith, nat_tests, a.from, a.block)
has_index layout at (inr (inr a)) = grind (arith, nat_tests, a.from, a.block)

-- the word that an address lies in has its number and its class
same_index : (layout : Layout) (at : ℕ) → IsInside layout at → index_of layout (word_start at) ≡ index_of layout at
same_index layout at (inl a) = grind (arith, nat_tests)
same_index layout at (inr (inl a)) = let fits = layout.data_fits in grind (arith, nat_tests, a.from, a.block)
same_index layout at (inr (inr a)) = grind (arith, nat_tests, a.from, a.block)

start-LiesIn : (layout : Layout) (at : ℕ) (class : Class) → LiesIn layout class at → LiesIn layout class (word_start at)
start-LiesIn layout at Open lies = (omega arith, omega arith)
start-LiesIn layout at Verified lies = (omega arith, omega arith)
start-LiesIn layout at Private lies = (omega arith, omega arith)
start-LiesIn layout at Constant lies = (omega arith, omega arith)
start-LiesIn layout at Code lies = (omega arith, omega arith)
start-LiesIn layout at Logged lies = (omega arith, omega arith)

some_start : (layout : Layout) (at : ℕ) → IsSome (class_at layout at) → IsSome (class_at layout (word_start at))
some_start layout at some = go (class_at layout at) refl some
  where
    go : (found : Option Class) → found ≡ class_at layout at → IsSome found → IsSome (class_at layout (word_start at))
    go (Some class) is some = let has : class_at layout (word_start at) ≡ Some class = class_at-LiesIn layout (word_start at) class (start-LiesIn layout at class (LiesIn-class_at layout at class (sym is))) in
        rw has refl
    go None is some = absurd (grind arith)

-- ---- before the first access

-- a list of zeros has zeros
zeros-get_or : (count i : ℕ) → (let zeros : List ℕ = replicate count 0 in get_or zeros i 0 ≡ 0)
zeros-get_or zero i = refl
zeros-get_or (suc count) zero = refl
zeros-get_or (suc count) (suc i) = zeros-get_or count i

-- zeros stand before and after the words in the middle
zero-front : (count rest i : ℕ) (words : List ℕ) → i < count → (let all : List ℕ = replicate count 0 ++ words ++ replicate rest 0 in get_or all i 0 ≡ 0)
zero-front count rest i words below =
    let front : List ℕ = replicate count 0 in
    let back : List ℕ = replicate rest 0 in
    let long : length front ≡ count = length-replicate count 0 in
    let within : i < length front = omega arith in
    ap (λ xs. get_or xs i 0) (append_assoc front words back) ∙ get_or_append_left front (words ++ back) 0 i within ∙ zeros-get_or count i

zero-back : (count rest i : ℕ) (words : List ℕ) → count + length words ≤ i → (let all : List ℕ = replicate count 0 ++ words ++ replicate rest 0 in get_or all i 0 ≡ 0)
zero-back count rest i words above =
    let front : List ℕ = replicate count 0 in
    let back : List ℕ = replicate rest 0 in
    let long : length front ≡ count = length-replicate count 0 in
    let whole : length (front ++ words) ≡ count + length words = length-append front words ∙ ap (λ n. n + length words) long in
    get_or-append_right (front ++ words) back (count + length words) i 0 whole above ∙ zeros-get_or rest (i - (count + length words))

-- a static address has the number of its static word, and the others have numbers before or after them
static_index : (layout : Layout) (at : ℕ) → start_of layout Constant ≤ at → at < end_of layout Code
    → index_of layout at ≡ open_words + block_words * (layout.verified + layout.private) + (at - start_of layout Constant) / 4
static_index layout at from below = let fits = layout.data_fits in grind (arith, nat_tests)

front_index : (layout : Layout) (at : ℕ) → IsInside layout at → at < start_of layout Constant → index_of layout at < open_words + block_words * (layout.verified + layout.private)
front_index layout at (inl a) below = grind (arith, nat_tests)
front_index layout at (inr (inl a)) below = let fits = layout.data_fits in grind (arith, nat_tests, a.from, a.block)
front_index layout at (inr (inr a)) below = let fits = layout.data_fits in absurd (omega (arith, a.from, a.block))

back_index : (layout : Layout) (at : ℕ) → IsInside layout at → end_of layout Code ≤ at → open_words + block_words * data_blocks layout ≤ index_of layout at
back_index layout at (inl a) above = absurd (omega arith)
back_index layout at (inr (inl a)) above = absurd (omega (arith, a.from, a.block))
back_index layout at (inr (inr a)) above = grind (arith, nat_tests, a.from, a.block)

flat-words : (layout : Layout) (statics : List ℕ) → length statics ≡ 64 * (layout.constants + layout.code) → HasWords (flat_of layout statics) (static_memory layout statics)
flat-words layout statics long =
    let count : ℕ = open_words + block_words * (layout.verified + layout.private) in
    let rest : ℕ = block_words * layout.log in
    let words : List ℕ = words_in statics in
    let many : length words ≡ 16 * (layout.constants + layout.code) = length-words_in statics ∙ omega arith in
    let front_long : length (replicate {A = ℕ} count 0) ≡ count = length-replicate count 0 in
    let back_long : length (replicate {A = ℕ} rest 0) ≡ rest = length-replicate rest 0 in
    record {
      whole = length-append (replicate count 0 ++ words) (replicate rest 0) ∙ ap (λ n. n + length (replicate {A = ℕ} rest 0)) (length-append (replicate count 0) words) ∙ omega arith;
      each = λ at aligned some.
          elim (cases_lt at (start_of layout Constant)) [
            | inl below ↦
                let test : nat_le (start_of layout Constant) at ≡ false = grind (arith, nat_tests) in
                rw test (sym (zero-front count rest (index_of layout at) words (front_index layout at (inside layout at some) below)))
            | inr from ↦
                elim (cases_lt at (end_of layout Code)) [
                  | inl below ↦
                      let first : nat_le (start_of layout Constant) at ≡ true = grind (arith, nat_tests) in
                      let second : nat_lt at (end_of layout Code) ≡ true = grind (arith, nat_tests) in
                      let k : ℕ = (at - start_of layout Constant) / 4 in
                      let within : k < length words = omega arith in
                      rw (first, second) (sym (ap (λ i. get_or (flat_of layout statics).words i 0) (static_index layout at from below) ∙ between (replicate count 0) words (replicate rest 0) count k front_long within))
                  | inr above ↦
                      let first : nat_le (start_of layout Constant) at ≡ true = grind (arith, nat_tests) in
                      let second : nat_lt at (end_of layout Code) ≡ false = grind (arith, nat_tests) in
                      let above_all : count + length words ≤ index_of layout at = (let far : open_words + block_words * data_blocks layout ≤ index_of layout at = back_index layout at (inside layout at some) above in omega arith) in
                      rw (first, second) (sym (zero-back count rest (index_of layout at) words above_all))
                ]
          ];
    }

-- ---- refusals

-- nothing is loose
none_loose : (layout : Layout) (at : ℕ) → is_among nothing_loose layout at ≡ false
none_loose layout at = go (class_at layout at)
  where
    go : (found : Option Class) → unwrap_or (option_map nothing_loose found) false ≡ false
    go None = refl
    go (Some class) = refl

-- an access that is not refused is at an address of some class
allowed_some : (layout : Layout) (mode : Mode) (access : Access) (at : ℕ) → is_allowed layout mode access at ≡ true → IsSome (class_at layout at)
allowed_some layout mode access at allowed = go (class_at layout at) refl
  where
    go : (found : Option Class) → found ≡ class_at layout at → IsSome (class_at layout at)
    go (Some class) is = rw (← is) refl
    go None is = absurd (grind arith)

byte_some : (layout : Layout) (mode : Mode) (access : Access) (at : ℕ) → byte_refusal layout mode access at ≡ None → IsSome (class_at layout at)
byte_some layout mode access at none = allowed_some layout mode access at (go (is_allowed layout mode access at) none)
  where
    go : (allowed : Bool) → (if allowed then None else Some why.Rights) ≡ None → allowed ≡ true
    go true none = refl
    go false none = absurd (grind arith)

record IsAligned (layout : Layout) (at : ℕ) : Type 0 where
  aligned : at % 4 ≡ 0
  some : IsSome (class_at layout at)

word_some : (layout : Layout) (mode : Mode) (access : Access) (at : ℕ) → word_refusal layout mode access at ≡ None → IsAligned layout at
word_some layout mode access at none = go (is_allowed layout mode access at) refl none
  where
    go : (allowed : Bool) → allowed ≡ is_allowed layout mode access at → (if allowed then (if at % 4 == 0 then None else Some why.Misaligned) else Some why.Rights) ≡ None → IsAligned layout at
    go true is none = record { aligned = grind (arith, nat_tests); some = allowed_some layout mode access at (sym is) }
    go false is none = absurd (grind arith)

-- ---- words

set_hit : (xs : List ℕ) (i j v : ℕ) → i < length xs → i ≡ j → get_or (set xs i v) j 0 ≡ v
set_hit xs i j v below same = grind (arith, common_steps)

set_miss : (xs : List ℕ) (i j v : ℕ) → (i ≡ j → ⊥) → get_or (set xs i v) j 0 ≡ get_or xs j 0
set_miss xs i j v apart = grind (arith, common_steps)

hit : (memory : ℕ → ℕ) (at word : ℕ) → updated memory at word at ≡ word
hit memory at word = grind (arith, nat_tests)

miss : (memory : ℕ → ℕ) (at word other : ℕ) → (other ≡ at → ⊥) → updated memory at word other ≡ memory other
miss memory at word other apart = grind (arith, nat_tests)

start_aligned : (at : ℕ) → word_start at % 4 ≡ 0
start_aligned at = omega arith

-- after a store both memories have the new word
words_put : (flat : Flat) (memory : ℕ → ℕ) (at word : ℕ) → HasWords flat memory → IsSome (class_at flat.layout at) → HasWords (put flat at word) (updated memory (word_start at) word)
words_put flat memory at word has some =
    let start : ℕ = word_start at in
    let inside_start : IsInside flat.layout start = inside flat.layout start (some_start flat.layout at some) in
    let same : index_of flat.layout start ≡ index_of flat.layout at = same_index flat.layout at (inside flat.layout at some) in
    let below : index_of flat.layout at < length flat.words = rw has.whole (has_index flat.layout at (inside flat.layout at some)) in
    record {
      whole = length-set-whole flat (index_of flat.layout at) word has.whole;
      each = λ other other_aligned other_some.
          elim (cases_eq other start) [
            | inl is ↦
                let P : ℕ → Type 0 = λ o. updated memory start word o ≡ flat_word (put flat at word) o in
                subst P (sym is) (hit memory start word ∙ sym (set_hit flat.words (index_of flat.layout at) (index_of flat.layout start) word below (sym same)))
            | inr apart ↦
                miss memory start word other apart ∙ has.each other other_aligned other_some
                ∙ sym (set_miss flat.words (index_of flat.layout at) (index_of flat.layout other) word
                (λ e. apart (one_address flat.layout other start (inside flat.layout other other_some) inside_start other_aligned (start_aligned at) (sym e ∙ sym same))))
          ];
    }
  where
    length-set-whole : (flat : Flat) (i word : ℕ) → length flat.words ≡ word_count flat.layout → length (set flat.words i word) ≡ word_count flat.layout
    length-set-whole flat i word whole = length-set flat.words i word ∙ whole

-- ---- flat memory in the rights of a mode as the machine's own

abbrev own_with : Layout → Mode → (ℕ → ℕ) → Traffic ℕ → Own
own_with layout mode memory traffic = record { layout = layout; outside = from_nowhere; mode = mode; memory = memory; traffic = traffic }

-- the machine's own memory has these words
pub record IsOwnOf (mode : Mode) (flat : Flat) (own : Own) : Type 0 where
  pub memory : ℕ → ℕ
  pub traffic : Traffic ℕ
  pub words : HasWords flat memory
  pub is : own ≡ own_with flat.layout mode memory traffic

-- an answer that is not refused has this value
alike : {T : Type 0} (r : Option Why) (x y : T) → (r ≡ None → x ≡ y) → answered r x ≡ answered r y
alike None x y same = ap (λ v. answered None v) (same refl)
alike (Some reason) x y same = refl

own-load : (r : Option Why) (loose : Bool) (came : Option ℕ) (value flat_value : ℕ) (own : Own) (answer : Result ℕ Stop) → loose ≡ false → (r ≡ None → value ≡ flat_value)
    → answer ≡ answered r flat_value → OwnLoad r loose came value own answer own
own-load (Some reason) loose came value flat_value own answer none same is = (is, refl)
own-load None false came value flat_value own answer none same is = (is ∙ ap (λ (v : ℕ). answered None v) (sym (same refl)), refl)
own-load None true came value flat_value own answer none same is = absurd (grind (arith, none))

module _ (mode : Mode) where
  -- it has them still
  stays : (old new : Flat) (memory : ℕ → ℕ) (traffic : Traffic ℕ) → HasWords old memory → new ≡ old → IsOwnOf mode new (own_with old.layout mode memory traffic)
  stays old new memory traffic words same = record {
    memory = memory;
    traffic = traffic;
    words = subst (λ (flat : Flat). HasWords flat memory) (sym same) words;
    is = ap (λ (flat : Flat). own_with flat.layout mode memory traffic) (sym same);
  }

  -- the word that an address lies in, where it has a class
  word-alike : (flat : Flat) (memory : ℕ → ℕ) (at : ℕ) → HasWords flat memory → IsSome (class_at flat.layout at) → memory (word_start at) ≡ flat_word flat at
  word-alike flat memory at words some =
      words.each (word_start at) (start_aligned at) (some_start flat.layout at some)
      ∙ ap (λ i. get_or flat.words i 0) (same_index flat.layout at (inside flat.layout at some))

  own-store : (old new : Flat) (memory : ℕ → ℕ) (traffic : Traffic ℕ) (r : Option Why) (at value word flat_word : ℕ) (answer : Result (Unit {0}) Stop) → HasWords old memory
      → (r ≡ None → HasWords (put old at flat_word) (updated memory (word_start at) word)) → answer ≡ answered r tt → new ≡ unless_refused r old (put old at flat_word)
      → CarriedTo (IsOwnOf mode) new (λ (after : Own). OwnStore r at value word (own_with old.layout mode memory traffic) answer after)
  own-store old new memory traffic (Some reason) at value word flat_word answer words same is new_is = record {
    after = own_with old.layout mode memory traffic;
    done = (is, refl);
    related = stays old new memory traffic words new_is;
  }
  own-store old new memory traffic None at value word flat_word answer words same is new_is =
      let P : Bool → Type 0 = λ b. HasWords (put old at flat_word) (if b then memory else updated memory (word_start at) word) in
      record {
        after = own_with old.layout mode (memory_stored old.layout nothing_loose at word memory) (traffic_stored old.layout at value traffic);
        done = (is, refl);
        related = stays (put old at flat_word) new (memory_stored old.layout nothing_loose at word memory) (traffic_stored old.layout at value traffic) (subst P (sym (none_loose old.layout at)) (same refl)) new_is;
      }

  pub flat-carries : CarriesOver (flat_accesses_in mode) own_accesses (IsOwnOf mode)
  flat-carries = record {
    fetch = λ old new at answer other r done. subst (λ (o : Own). CarriedTo (IsOwnOf mode) new (own_accesses.fetch o at answer)) (sym r.is) (record {
      after = own_with old.layout mode r.memory r.traffic;
      done = (
        done.0 ∙ alike (word_refusal old.layout mode Fetch at) (flat_word old at) (r.memory at)
            (λ none. let place : IsAligned old.layout at = word_some old.layout mode Fetch at none in sym (r.words.each at place.aligned place.some)),
        refl,
      );
      related = stays old new r.memory r.traffic r.words done.1;
    });
    load_word = λ old new at answer other r done. subst (λ (o : Own). CarriedTo (IsOwnOf mode) new (own_accesses.load_word o at answer)) (sym r.is) (record {
      after = own_with old.layout mode r.memory r.traffic;
      done = own-load (word_refusal old.layout mode Read at) (is_among nothing_loose old.layout at) (loose_word nat_eq at r.traffic) (r.memory at) (flat_word old at)
          (own_with old.layout mode r.memory r.traffic) answer (none_loose old.layout at)
          (λ none. let place : IsAligned old.layout at = word_some old.layout mode Read at none in r.words.each at place.aligned place.some) done.0;
      related = stays old new r.memory r.traffic r.words done.1;
    });
    load_byte = λ old new at answer other r done. subst (λ (o : Own). CarriedTo (IsOwnOf mode) new (own_accesses.load_byte o at answer)) (sym r.is) (record {
      after = own_with old.layout mode r.memory r.traffic;
      done = own-load (byte_refusal old.layout mode Read at) (is_among nothing_loose old.layout at) (option_map (λ word. word % 2 ^ 8) (loose_word nat_eq at r.traffic))
          (byte_in (r.memory (word_start at)) at) (byte_in (flat_word old at) at) (own_with old.layout mode r.memory r.traffic) answer (none_loose old.layout at)
          (λ none. ap (λ word. byte_in word at) (word-alike old r.memory at r.words (byte_some old.layout mode Read at none))) done.0;
      related = stays old new r.memory r.traffic r.words done.1;
    });
    store_word = λ old new at word answer other r done. subst (λ (o : Own). CarriedTo (IsOwnOf mode) new (own_accesses.store_word o at word answer)) (sym r.is)
        (own-store old new r.memory r.traffic (word_refusal old.layout mode Write at) at word word word answer r.words
        (λ none. words_put old r.memory at word r.words (word_some old.layout mode Write at none).some) done.0 done.1);
    store_byte = λ old new at byte answer other r done. subst (λ (o : Own). CarriedTo (IsOwnOf mode) new (own_accesses.store_byte o at byte answer)) (sym r.is)
        (own-store old new r.memory r.traffic (byte_refusal old.layout mode Write at) at byte (with_byte (r.memory (word_start at)) at byte) (with_byte (flat_word old at) at byte) answer r.words
        (λ none.
        let some : IsSome (class_at old.layout at) = byte_some old.layout mode Write at none in
        let P : ℕ → Type 0 = λ word. HasWords (put old at (with_byte (flat_word old at) at byte)) (updated r.memory (word_start at) (with_byte word at byte)) in
        subst P (sym (word-alike old r.memory at r.words some)) (words_put old r.memory at (with_byte (flat_word old at) at byte) r.words some))
        done.0 done.1);
  }

-- a step over flat memory in the rights of the machine's mode is the machine's step
flat-follows : (old new : Machine Flat) (ended : StepEnd) (state : Ideal) → IsTied old state → Steps (flat_accesses_in state.mode) old ended new
    → Follows old new ended state (ideal_step old.memory.layout nothing_loose state)
flat-follows old new ended state tied step =
    let layout : Layout = old.memory.layout in
    let own : Own = own_with layout state.mode state.memory state.traffic in
    let start : IsOwnOf state.mode old.memory own = record { memory = state.memory; traffic = state.traffic; words = tied.words; is = refl } in
    let moved = steps-carry (flat_accesses_in state.mode) own_accesses (IsOwnOf state.mode) (flat-carries state.mode) old new ended own start step in
    let facts = step-facts (over own old) (over moved.after new) ended tied.input moved.done in
    let same : record { core = old.core; mode = state.mode; memory = state.memory; traffic = state.traffic } ≡ state =
    ap (λ (core : Processor). record state { core = core }) (sym tied.core) in
    let mine : moved.after ≡ own_with new.memory.layout state.mode moved.related.memory moved.related.traffic = moved.related.is in
    let at_end : Follows old new ended (record state { core = old.core }) (ideal_step layout nothing_loose (record state { core = old.core })) = record {
      after = record { core = new.core; mode = moved.after.mode; memory = moved.after.memory; traffic = moved.after.traffic };
      core = refl;
      mode = ap (λ (o : Own). o.mode) mine;
      words = subst (λ (m : ℕ → ℕ). HasWords new.memory m) (ap (λ (o : Own). o.memory) (sym mine)) moved.related.words;
      traffic = λ no_stop. facts.out no_stop (none_loose layout);
      input = facts.port;
      answers = facts.answers;
    } in
    subst (λ (s : Ideal). Follows old new ended s (ideal_step layout nothing_loose s)) same at_end

-- ---- TE

-- in TE and PTR the rights are the same but for private words, which the machine in TE may not use
te-rights : (class : Class) (access : Access) → (class ≡ Private → ⊥) → rights Te class access ≡ rights Ptr class access
te-rights Open access other = refl
te-rights Verified access other = refl
te-rights Private access other = absurd (other refl)
te-rights Constant access other = refl
te-rights Code access other = refl
te-rights Logged access other = refl

fetch-rights : (class : Class) → rights Te class Fetch ≡ rights Ptr class Fetch
fetch-rights Private = refl
fetch-rights Open = refl
fetch-rights Verified = refl
fetch-rights Constant = refl
fetch-rights Code = refl
fetch-rights Logged = refl

-- whether an address is private
is-private : (found : Option Class) → (found ≡ Some Private) ⊎ (found ≡ Some Private → ⊥)
is-private None = inr (λ is. absurd (grind (arith, is)))
is-private (Some Private) = inl refl
is-private (Some Open) = inr (λ is. absurd (grind (arith, is)))
is-private (Some Verified) = inr (λ is. absurd (grind (arith, is)))
is-private (Some Constant) = inr (λ is. absurd (grind (arith, is)))
is-private (Some Code) = inr (λ is. absurd (grind (arith, is)))
is-private (Some Logged) = inr (λ is. absurd (grind (arith, is)))

module _ (layout : Layout) (access : Access) (at : ℕ) where
  same-allowed : (class_at layout at ≡ Some Private → ⊥) → is_allowed layout Ptr access at ≡ is_allowed layout Te access at
  same-allowed other = go (class_at layout at) other
    where
      go : (found : Option Class) → (found ≡ Some Private → ⊥) → unwrap_or (option_map (λ class. rights Ptr class access) found) false ≡ unwrap_or (option_map (λ class. rights Te class access) found) false
      go None apart = refl
      go (Some class) apart = sym (te-rights class access (λ is. apart (ap (λ (c : Class). Some c) is)))

  same-word : (class_at layout at ≡ Some Private → ⊥) → word_refusal layout Ptr access at ≡ word_refusal layout Te access at
  same-word other = ap (λ allowed. if allowed then (if at % 4 == 0 then None else Some why.Misaligned) else Some why.Rights) (same-allowed other)

  same-byte : (class_at layout at ≡ Some Private → ⊥) → byte_refusal layout Ptr access at ≡ byte_refusal layout Te access at
  same-byte other = ap (λ allowed. if allowed then None else Some why.Rights) (same-allowed other)

  private-allowed : class_at layout at ≡ Some Private → is_allowed layout Te access at ≡ false
  private-allowed is = ap (λ found. unwrap_or (option_map (λ class. rights Te class access) found) false) is

  private-word : class_at layout at ≡ Some Private → word_refusal layout Te access at ≡ Some why.Rights
  private-word is = ap (λ allowed. if allowed then (if at % 4 == 0 then None else Some why.Misaligned) else Some why.Rights) (private-allowed is)

  private-byte : class_at layout at ≡ Some Private → byte_refusal layout Te access at ≡ Some why.Rights
  private-byte is = ap (λ allowed. if allowed then None else Some why.Rights) (private-allowed is)

same-fetch : (layout : Layout) (at : ℕ) → word_refusal layout Ptr Fetch at ≡ word_refusal layout Te Fetch at
same-fetch layout at = ap (λ allowed. if allowed then (if at % 4 == 0 then None else Some why.Misaligned) else Some why.Rights) (go (class_at layout at))
  where
    go : (found : Option Class) → unwrap_or (option_map (λ class. rights Ptr class Fetch) found) false ≡ unwrap_or (option_map (λ class. rights Te class Fetch) found) false
    go None = refl
    go (Some class) = sym (fetch-rights class)

module _ (old new : Machine Flat) (ended : StepEnd) (memory : ℕ → ℕ) (traffic : Traffic ℕ) (has : HasWords old.memory memory) where
  abbrev te_layout : Layout
  te_layout = old.memory.layout

  abbrev in_te : Ideal
  in_te = record { core = old.core; mode = Te; memory = memory; traffic = traffic }

  abbrev IsOut : Type 0
  IsOut = IsKeptOut te_layout in_te (ideal_step te_layout nothing_loose in_te)

  kept-out : (asked : Effect) (at : ℕ) → effect_at in_te ≡ Some asked → word_refusal te_layout Te Fetch old.core.pc ≡ None → accessed_by asked ≡ Some at → class_at te_layout at ≡ Some Private
      → carried te_layout from_nowhere asked in_te ≡ Stops (Refused why.Rights) in_te → IsOut
  kept-out asked at is none accessed hidden out = record {
    mode = refl;
    at = at;
    accessed = ap (λ found. option_and_then accessed_by found) is ∙ accessed;
    hidden = hidden;
    refused = step-effect te_layout from_nowhere in_te asked none is ∙ out;
  }

  te-effects : (asked : Effect) → effect_at in_te ≡ Some asked → word_refusal te_layout Te Fetch old.core.pc ≡ None → Carries flat_accesses asked old ended new
      → Carries (flat_accesses_in Te) asked old ended new ⊎ IsOut
  te-effects (effect.LoadWord d at) is none row =
      elim (is-private (class_at te_layout at)) [
        | inl hidden ↦ inr (kept-out (effect.LoadWord d at) at is none refl hidden (ap (λ r. unless r in_te (loads te_layout from_nowhere d at (loose_word nat_eq at traffic) (memory at) in_te)) (private-word te_layout Read at hidden)))
        | inr other ↦ inl (record {
          answer = row.answer;
          loaded = (row.loaded.0 ∙ ap (λ r. answered r (flat_word old.memory at)) (same-word te_layout Read at other), row.loaded.1);
          ends = row.ends;
          core = row.core;
          port = row.port;
        })
      ]
  te-effects (effect.LoadByte d at) is none row =
      elim (is-private (class_at te_layout at)) [
        | inl hidden ↦ inr (kept-out (effect.LoadByte d at) at is none refl hidden
            (ap (λ r. unless r in_te (loads te_layout from_nowhere d at (option_map (λ word. word % 2 ^ 8) (loose_word nat_eq at traffic)) (byte_in (memory (word_start at)) at) in_te)) (private-byte te_layout Read at hidden)))
        | inr other ↦ inl (record {
          answer = row.answer;
          loaded = (row.loaded.0 ∙ ap (λ r. answered r (byte_in (flat_word old.memory at) at)) (same-byte te_layout Read at other), row.loaded.1);
          ends = row.ends;
          core = row.core;
          port = row.port;
        })
      ]
  te-effects (effect.StoreWord at word) is none row =
      elim (is-private (class_at te_layout at)) [
        | inl hidden ↦ inr (kept-out (effect.StoreWord at word) at is none refl hidden (ap (λ r. unless r in_te (stores te_layout nothing_loose at word word in_te)) (private-word te_layout Write at hidden)))
        | inr other ↦ inl (record {
          answer = row.answer;
          stored = (
            row.stored.0 ∙ ap (λ r. answered r tt) (same-word te_layout Write at other),
            row.stored.1 ∙ ap (λ r. unless_refused r old.memory (put old.memory at word)) (same-word te_layout Write at other),
          );
          ends = row.ends;
          core = row.core;
          port = row.port;
        })
      ]
  te-effects (effect.StoreByte at byte) is none row =
      elim (is-private (class_at te_layout at)) [
        | inl hidden ↦ inr (kept-out (effect.StoreByte at byte) at is none refl hidden
            (ap (λ r. unless r in_te (stores te_layout nothing_loose at byte (with_byte (memory (word_start at)) at byte) in_te)) (private-byte te_layout Write at hidden)))
        | inr other ↦ inl (record {
          answer = row.answer;
          stored = (
            row.stored.0 ∙ ap (λ r. answered r tt) (same-byte te_layout Write at other),
            row.stored.1 ∙ ap (λ r. unless_refused r old.memory (put old.memory at (with_byte (flat_word old.memory at) at byte))) (same-byte te_layout Write at other),
          );
          ends = row.ends;
          core = row.core;
          port = row.port;
        })
      ]
  te-effects effect.Proceed is none row = inl row
  te-effects (effect.Write d value) is none row = inl row
  te-effects (effect.Compare flag) is none row = inl row
  te-effects (effect.Jump target) is none row = inl row
  te-effects (effect.Link target) is none row = inl row
  te-effects effect.DivideByZero is none row = inl row
  te-effects (effect.Secure f) is none row = inl row

  te-executes : (found : Option Instr) → option_map (λ instruction. effect_of instruction old.core) found ≡ effect_at in_te → word_refusal te_layout Te Fetch old.core.pc ≡ None
      → Executes flat_accesses found old ended new → Executes (flat_accesses_in Te) found old ended new ⊎ IsOut
  te-executes None is none row = inl row
  te-executes (Some instruction) is none row = te-effects (effect_of instruction old.core) (sym is) none row

  -- a step over flat memory is one in the rights of TE, or the machine is kept out
  te-step : Steps flat_accesses old ended new → Steps (flat_accesses_in Te) old ended new ⊎ IsOut
  te-step step = go (word_refusal te_layout Te Fetch old.core.pc) refl
    where
      from_old : GoesOnAfter flat_accesses step.answer old ended new
      from_old = subst (λ (m : Flat). GoesOnAfter flat_accesses step.answer (record old { memory = m }) ended new) step.fetched.1 step.goes_on

      answer-te : step.answer ≡ answered (word_refusal te_layout Te Fetch old.core.pc) (flat_word old.memory old.core.pc)
      answer-te = step.fetched.0 ∙ ap (λ r. answered r (flat_word old.memory old.core.pc)) (same-fetch te_layout old.core.pc)

      rebuilt : GoesOnAfter (flat_accesses_in Te) step.answer old ended new → Steps (flat_accesses_in Te) old ended new
      rebuilt row = record { answer = step.answer; middle = old.memory; fetched = (answer-te, refl); goes_on = row }

      go : (r : Option Why) → r ≡ word_refusal te_layout Te Fetch old.core.pc → Steps (flat_accesses_in Te) old ended new ⊎ IsOut
      go (Some reason) is =
          let answer : step.answer ≡ Err (stop.Refused reason) = answer-te ∙ ap (λ r. answered r (flat_word old.memory old.core.pc)) (sym is) in
          inl (rebuilt (subst (λ (a : Result ℕ Stop). GoesOnAfter (flat_accesses_in Te) a old ended new) (sym answer) (subst (λ (a : Result ℕ Stop). GoesOnAfter flat_accesses a old ended new) answer from_old)))
      go None is =
          let answer : step.answer ≡ Ok (flat_word old.memory old.core.pc) = answer-te ∙ ap (λ r. answered r (flat_word old.memory old.core.pc)) (sym is) in
          let place : IsAligned te_layout old.core.pc = word_some te_layout Te Fetch old.core.pc (sym is) in
          let word : flat_word old.memory old.core.pc ≡ memory old.core.pc = sym (has.each old.core.pc place.aligned place.some) in
          let row : Executes flat_accesses (instruction_in (flat_word old.memory old.core.pc)) old ended new = subst (λ (a : Result ℕ Stop). GoesOnAfter flat_accesses a old ended new) answer from_old in
          elim (te-executes (instruction_in (flat_word old.memory old.core.pc)) (ap (λ w. option_map (λ instruction. effect_of instruction old.core) (instruction_in w)) word) (sym is) row) [
            | inl done ↦ inl (rebuilt (subst (λ (a : Result ℕ Stop). GoesOnAfter (flat_accesses_in Te) a old ended new) (sym answer) done))
            | inr out ↦ inr out
          ]

pub flat-ideal : FlatStepIsIdeal
flat-ideal old new ended state secure tied step = go state.mode refl secure
  where
    go : (mode : Mode) → mode ≡ state.mode → IsTrue (is_secure mode)
        → Follows old new ended state (ideal_step old.memory.layout nothing_loose state) ⊎ IsKeptOut old.memory.layout state (ideal_step old.memory.layout nothing_loose state)
    go Std is h = absurd (grind arith)
    go Ssp is h = absurd (grind arith)
    go Ptr is h = inl (flat-follows old new ended state tied (subst (λ (m : Mode). Steps (flat_accesses_in m) old ended new) is step))
    go Te is h =
        let same : record { core = old.core; mode = Te; memory = state.memory; traffic = state.traffic } ≡ state =
        ap (λ (core : Processor). record { core = core; mode = Te; memory = state.memory; traffic = state.traffic }) (sym tied.core)
        ∙ ap (λ (mode : Mode). record state { mode = mode }) is in
        elim (te-step old new ended state.memory state.traffic tied.words step) [
          | inl done ↦ inl (flat-follows old new ended state tied (subst (λ (m : Mode). Steps (flat_accesses_in m) old ended new) is done))
          | inr out ↦ inr (subst (λ (s : Ideal). IsKeptOut old.memory.layout s (ideal_step old.memory.layout nothing_loose s)) same out)
        ]

-- ---- the start

pub flat-start : FlatStartIsIdeal
flat-start layout statics entry port loose long first bytes = record {
  tied = record {
    core = refl;
    words = flat-words layout statics long;
    input = record { within = omega (arith, first); bytes = bytes; rest = sym (ap (λ n. drop n port.input.now) first) };
  };
  mode = refl;
}
