-- A step of the bus machine is a step of the ideal machine on the words that it takes.
use Rattle.std.proofs.Common.{◌≡◌, ℕ, ◌+◌, ◌%◌, ◌^◌, ◌<◌, Bool, true, false, cond, if◌then◌else◌, nat_eq, List, [], ◌∷◌, ◌++◌, Option, Some, None, option_map, refl, sym, ap, ◌∙◌, subst, arith}
use Rattle.std.proofs.lemmas.Bool.Decides.{nat_tests}
use Rattle.execution.specs.Run.{Next, Goes, Stops}
use Rattle.execution.specs.Traffic.{Entry, Traffic, after_write, loose_word, without_first}
use Rattle.orbis_word.specs.declared.Instr.{Instr}
use Rattle.regions.specs.declared.Layout.{Layout}
use Rattle.regions.specs.declared.Access.TheVariants.{Read, Write, Fetch}
use Rattle.regions.specs.LooseClasses.{shared_loose}
use Rattle.regions.specs.Modes.{SecureInstruction, Enter, Exit, IndexTrap, DivideTrap, Suspend, Resume, PrivateOn, PrivateOff, Release, Input, Check, allowed_in}
use Rattle.off_chip.specs.declared.Event.{Event}
use Rattle.orbis_core.specs.declared.Effect.{Effect}
use Rattle.orbis_core.specs.declared.Effect.TheVariants as effect
use Rattle.orbis_core.specs.declared.Why.{Why}
use Rattle.orbis_core.specs.declared.Why.TheVariants as why
use Rattle.orbis_core.specs.ByteOrder.{byte_in, with_byte, word_start}
use Rattle.orbis_core.specs.Effects.{effect_of}
use Rattle.orbis_core.specs.Ideal.{Ideal, IdealEnd, Refused, Ended, Index, Divide, Starved, carried, effect_at, executed, from_entries, from_reads, ideal_step, instruction_at, is_among, loaded, memory_stored, secured, stores, taken, unless}
use Rattle.orbis_core.specs.Processor.{advanced}
use Rattle.orbis_core.specs.Refusals.{word_refusal, byte_refusal}
use Rattle.orbis_core.specs.Secure.{secure_of}
use Rattle.bus_machine.specs.BusAccesses.{ByClass}
use Rattle.bus_machine.specs.BusMachine.{bus_step, word_among}
use Rattle.ideal_trace.specs.IdealRuns.{with_words}

-- what was come to, with these words still to come
abbrev pub next_with : List (Entry ℕ) → Next Ideal IdealEnd → Next Ideal IdealEnd
next_with more (Goes state) = Goes (with_words more state)
next_with more (Stops end state) = Stops end (with_words more state)

-- it was not refused
abbrev pub IsUnrefused : Next Ideal IdealEnd → Type 0
IsUnrefused (Goes state) = Unit {0}
IsUnrefused (Stops Ended state) = Unit {0}
IsUnrefused (Stops (Index place) state) = Unit {0}
IsUnrefused (Stops (Divide place) state) = Unit {0}
IsUnrefused (Stops Starved state) = Unit {0}
IsUnrefused (Stops (Refused reason) state) = ⊥

-- a load takes this word, from what came to it
abbrev pub TakesOne : ℕ → ℕ → Option ℕ → List (Entry ℕ) → Type 0
TakesOne at bound came used = (word : ℕ) × (came ≡ Some word) × (word < bound) × (used ≡ record { place = at; word = word } ∷ [])

-- the words that a step takes which asks for this
abbrev pub TakesFor : Layout → List Event → Option Effect → List (Entry ℕ) → Type 0
TakesFor layout events (Some (effect.LoadWord d at)) used = ByClass (is_among shared_loose layout at) (TakesOne at (2 ^ 32) (word_among events at) used) (used ≡ [])
TakesFor layout events (Some (effect.LoadByte d at)) used =
    ByClass (is_among shared_loose layout at) (TakesOne at (2 ^ 8) (option_map (λ word. byte_in word at) (word_among events (word_start at))) used) (used ≡ [])
TakesFor layout events asked used = used ≡ []

-- an entry gives its word
found-first : (at word : ℕ) (rest : List (Entry ℕ)) (traffic : Traffic ℕ) → word < 2 ^ 32
    → loose_word nat_eq at (record traffic { loose = record { place = at; word = word } ∷ rest }) ≡ Some word
found-first at word rest traffic fits =
    let same : nat_eq at at ≡ true = grind (arith, nat_tests) in
    let whole : word % 2 ^ 32 ≡ word = omega arith in
    ap (λ b. cond b (Some (word % 2 ^ 32)) None) same ∙ ap (λ (w : ℕ). Some w) whole

module _ (layout : Layout) (events : List Event) (more : List (Entry ℕ)) (state : Ideal) where
  -- the ideal machine with these words to take first
  abbrev on : List (Entry ℕ) → Ideal
  on used = with_words (used ++ more) state

  unless-follows : (used : List (Entry ℕ)) (r : Option Why) (ideal bus : Next Ideal IdealEnd) → IsUnrefused (unless r state bus)
      → (IsUnrefused bus → ideal ≡ next_with more bus) → unless r (on used) ideal ≡ next_with more (unless r state bus)
  unless-follows used None ideal bus un later = later un
  unless-follows used (Some reason) ideal bus un later = absurd un

  load-open : (d at : ℕ) (used : List (Entry ℕ)) (found came : Option ℕ)
      → ((word : ℕ) × (came ≡ Some word) × (found ≡ Some word) × (without_first (used ++ more) ≡ more)) → taken d found (on used) ≡ next_with more (taken d came state)
  load-open d at used found came row =
      ap (λ (f : Option ℕ). taken d f (on used)) row.2
      ∙ ap (λ (rest : List (Entry ℕ)). loaded d row.0 (record state { traffic = record state.traffic { loose = rest; taken = state.traffic.taken + 1 } })) row.3
      ∙ sym (ap (λ (f : Option ℕ). next_with more (taken d f state)) row.1)

  load-closed : (d value : ℕ) (used : List (Entry ℕ)) → used ≡ [] → loaded d value (on used) ≡ next_with more (loaded d value state)
  load-closed d value used none = ap (λ (words : List (Entry ℕ)). loaded d value (with_words (words ++ more) state)) none

  word-follows : (b : Bool) (d at value : ℕ) (used : List (Entry ℕ)) (came : Option ℕ) → ByClass b (TakesOne at (2 ^ 32) came used) (used ≡ [])
      → (if b then taken d (loose_word nat_eq at (on used).traffic) (on used) else loaded d value (on used)) ≡ next_with more (if b then taken d came state else loaded d value state)
  word-follows true d at value used came row =
      load-open d at used (loose_word nat_eq at (on used).traffic) came (
        row.0,
        row.1,
        ap (λ (words : List (Entry ℕ)). loose_word nat_eq at (with_words (words ++ more) state).traffic) row.3 ∙ found-first at row.0 more state.traffic row.2,
        ap (λ (words : List (Entry ℕ)). without_first (words ++ more)) row.3,
      )
  word-follows false d at value used came none = load-closed d value used none

  byte-follows : (b : Bool) (d at value : ℕ) (used : List (Entry ℕ)) (came : Option ℕ) → ByClass b (TakesOne at (2 ^ 8) came used) (used ≡ [])
      → (if b then taken d (option_map (λ word. word % 2 ^ 8) (loose_word nat_eq at (on used).traffic)) (on used) else loaded d value (on used))
      ≡ next_with more (if b then taken d came state else loaded d value state)
  byte-follows true d at value used came row =
      let fits : row.0 < 2 ^ 8 = row.2 in
      let wide : row.0 < 2 ^ 32 = omega (arith, fits) in
      let low : row.0 % 2 ^ 8 ≡ row.0 = omega (arith, fits) in
      load-open d at used (option_map (λ word. word % 2 ^ 8) (loose_word nat_eq at (on used).traffic)) came (
        row.0,
        row.1,
        ap (λ (words : List (Entry ℕ)). option_map (λ word. word % 2 ^ 8) (loose_word nat_eq at (with_words (words ++ more) state).traffic)) row.3
            ∙ ap (λ (f : Option ℕ). option_map (λ word. word % 2 ^ 8) f) (found-first at row.0 more state.traffic wide) ∙ ap (λ (w : ℕ). Some w) low,
        ap (λ (words : List (Entry ℕ)). without_first (words ++ more)) row.3,
      )
  byte-follows false d at value used came none = load-closed d value used none

  stored-traffic : (shared : Bool) (at value : ℕ)
      → (if shared then after_write at value (record state.traffic { loose = more }) else record state.traffic { loose = more })
      ≡ record (if shared then after_write at value state.traffic else state.traffic) { loose = more }
  stored-traffic true at value = refl
  stored-traffic false at value = refl

  store-follows : (used : List (Entry ℕ)) (at value word : ℕ) → used ≡ [] → stores layout shared_loose at value word (on used) ≡ next_with more (stores layout shared_loose at value word state)
  store-follows used at value word none =
      ap (λ (words : List (Entry ℕ)). stores layout shared_loose at value word (with_words (words ++ more) state)) none
      ∙ ap (λ (t : Traffic ℕ). Goes (record state { core = advanced state.core; memory = memory_stored layout shared_loose at word state.memory; traffic = t }))
      (stored-traffic (is_among shared_loose layout at) at value)

  secured-follows : (asked : SecureInstruction) → secured asked (with_words more state) ≡ next_with more (secured asked state)
  secured-follows Enter = refl
  secured-follows Exit = refl
  secured-follows IndexTrap = refl
  secured-follows DivideTrap = refl
  secured-follows Suspend = refl
  secured-follows Resume = refl
  secured-follows PrivateOn = refl
  secured-follows PrivateOff = refl
  secured-follows Release = refl
  secured-follows Input = refl
  secured-follows Check = refl

  tested-follows : (allowed : Bool) (asked : SecureInstruction) (used : List (Entry ℕ)) → used ≡ [] → IsUnrefused (if allowed then secured asked state else Stops (Refused why.Mode) state)
      → (if allowed then secured asked (on used) else Stops (Refused why.Mode) (on used)) ≡ next_with more (if allowed then secured asked state else Stops (Refused why.Mode) state)
  tested-follows true asked used none un = ap (λ (words : List (Entry ℕ)). secured asked (with_words (words ++ more) state)) none ∙ secured-follows asked
  tested-follows false asked used none un = absurd un

  -- what an instruction asks for that takes no word
  nothing-taken : (used : List (Entry ℕ)) (asked : Effect) → used ≡ [] → carried layout (from_entries shared_loose) asked (with_words more state) ≡ next_with more (carried layout (from_reads (word_among events)) asked state)
      → carried layout (from_entries shared_loose) asked (on used) ≡ next_with more (carried layout (from_reads (word_among events)) asked state)
  nothing-taken used asked none same = ap (λ (words : List (Entry ℕ)). carried layout (from_entries shared_loose) asked (with_words (words ++ more) state)) none ∙ same

  carried-follows : (used : List (Entry ℕ)) (asked : Effect) → TakesFor layout events (Some asked) used → IsUnrefused (carried layout (from_reads (word_among events)) asked state)
      → carried layout (from_entries shared_loose) asked (on used) ≡ next_with more (carried layout (from_reads (word_among events)) asked state)
  carried-follows used (effect.LoadWord d at) row un =
      unless-follows used (word_refusal layout state.mode Read at) _ _ un (λ _. word-follows (is_among shared_loose layout at) d at (state.memory at) used (word_among events at) row)
  carried-follows used (effect.LoadByte d at) row un =
      unless-follows used (byte_refusal layout state.mode Read at) _ _ un
      (λ _. byte-follows (is_among shared_loose layout at) d at (byte_in (state.memory (word_start at)) at) used (option_map (λ word. byte_in word at) (word_among events (word_start at))) row)
  carried-follows used (effect.StoreWord at word) none un = unless-follows used (word_refusal layout state.mode Write at) _ _ un (λ _. store-follows used at word word none)
  carried-follows used (effect.StoreByte at byte) none un =
      unless-follows used (byte_refusal layout state.mode Write at) _ _ un (λ _. store-follows used at byte (with_byte (state.memory (word_start at)) at byte) none)
  carried-follows used (effect.Secure f) none un = tested-follows (allowed_in (secure_of f) state.mode) (secure_of f) used none un
  carried-follows used effect.DivideByZero none un = absurd un
  carried-follows used effect.Proceed none un = nothing-taken used effect.Proceed none refl
  carried-follows used (effect.Write d value) none un = nothing-taken used (effect.Write d value) none refl
  carried-follows used (effect.Compare flag) none un = nothing-taken used (effect.Compare flag) none refl
  carried-follows used (effect.Jump target) none un = nothing-taken used (effect.Jump target) none refl
  carried-follows used (effect.Link target) none un = nothing-taken used (effect.Link target) none refl

  executed-follows : (used : List (Entry ℕ)) (found : Option Instr) → TakesFor layout events (option_map (λ instruction. effect_of instruction state.core) found) used
      → IsUnrefused (executed layout (from_reads (word_among events)) found state)
      → executed layout (from_entries shared_loose) found (on used) ≡ next_with more (executed layout (from_reads (word_among events)) found state)
  executed-follows used None row un = absurd un
  executed-follows used (Some instruction) row un = carried-follows used (effect_of instruction state.core) row un

  -- a step of the bus machine that is not refused is one of the ideal machine on the words that it takes, whatever words come after them
  pub step-follows : (used : List (Entry ℕ)) → TakesFor layout events (effect_at state) used → IsUnrefused (bus_step layout events state)
      → ideal_step layout shared_loose (on used) ≡ next_with more (bus_step layout events state)
  step-follows used row un = unless-follows used (word_refusal layout state.mode Fetch state.core.pc) _ _ un (λ later. executed-follows used (instruction_at state) row later)

-- ---- a step that takes its words is not starved

-- it does not want for a word
abbrev pub IsFed : Next Ideal IdealEnd → Type 0
IsFed (Goes state) = Unit {0}
IsFed (Stops Ended state) = Unit {0}
IsFed (Stops (Index place) state) = Unit {0}
IsFed (Stops (Divide place) state) = Unit {0}
IsFed (Stops Starved state) = ⊥
IsFed (Stops (Refused reason) state) = Unit {0}

module _ (layout : Layout) (events : List Event) (used : List (Entry ℕ)) (state : Ideal) where
  unless-fed : (r : Option Why) (next : Next Ideal IdealEnd) → IsFed next → IsFed (unless r state next)
  unless-fed None next fed = fed
  unless-fed (Some reason) next fed = tt

  load-fed : (b : Bool) (d at bound value : ℕ) (came : Option ℕ) → ByClass b (TakesOne at bound came used) (used ≡ [])
      → IsFed (if b then taken d came state else loaded d value state)
  load-fed true d at bound value came row = subst (λ (o : Option ℕ). IsFed (taken d o state)) (sym row.1) tt
  load-fed false d at bound value came none = tt

  secured-fed : (asked : SecureInstruction) → IsFed (secured asked state)
  secured-fed Enter = tt
  secured-fed Exit = tt
  secured-fed IndexTrap = tt
  secured-fed DivideTrap = tt
  secured-fed Suspend = tt
  secured-fed Resume = tt
  secured-fed PrivateOn = tt
  secured-fed PrivateOff = tt
  secured-fed Release = tt
  secured-fed Input = tt
  secured-fed Check = tt

  tested-fed : (allowed : Bool) (asked : SecureInstruction) → IsFed (if allowed then secured asked state else Stops (Refused why.Mode) state)
  tested-fed true asked = secured-fed asked
  tested-fed false asked = tt

  carried-fed : (asked : Effect) → TakesFor layout events (Some asked) used → IsFed (carried layout (from_reads (word_among events)) asked state)
  carried-fed (effect.LoadWord d at) row =
      unless-fed (word_refusal layout state.mode Read at) _ (load-fed (is_among shared_loose layout at) d at (2 ^ 32) (state.memory at) (word_among events at) row)
  carried-fed (effect.LoadByte d at) row =
      unless-fed (byte_refusal layout state.mode Read at) _
      (load-fed (is_among shared_loose layout at) d at (2 ^ 8) (byte_in (state.memory (word_start at)) at) (option_map (λ word. byte_in word at) (word_among events (word_start at))) row)
  carried-fed (effect.StoreWord at word) row = unless-fed (word_refusal layout state.mode Write at) _ tt
  carried-fed (effect.StoreByte at byte) row = unless-fed (byte_refusal layout state.mode Write at) _ tt
  carried-fed (effect.Secure f) row = tested-fed (allowed_in (secure_of f) state.mode) (secure_of f)
  carried-fed effect.DivideByZero row = tt
  carried-fed effect.Proceed row = tt
  carried-fed (effect.Write d value) row = tt
  carried-fed (effect.Compare flag) row = tt
  carried-fed (effect.Jump target) row = tt
  carried-fed (effect.Link target) row = tt

  executed-fed : (found : Option Instr) → TakesFor layout events (option_map (λ instruction. effect_of instruction state.core) found) used
      → IsFed (executed layout (from_reads (word_among events)) found state)
  executed-fed None row = tt
  executed-fed (Some instruction) row = carried-fed (effect_of instruction state.core) row

  pub step-fed : TakesFor layout events (effect_at state) used → IsFed (bus_step layout events state)
  step-fed row = unless-fed (word_refusal layout state.mode Fetch state.core.pc) _ (executed-fed (instruction_at state) row)
