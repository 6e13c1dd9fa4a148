-- An access to a secure memory is one to the memory of the ideal machine.
use Rattle.std.proofs.Common.{◌≡◌, ℕ, ◌%◌, ◌<◌, ◌≤◌, Bool, true, false, Option, Some, None, Result, Ok, Err, List, [], refl, sym, ap, ◌∙◌, subst, arith, inl, inr}
use Rattle.std.specs.Prelude.{IsTrue, IsSome, ◌==◌, if◌then◌else◌, nat_lt, option_map, unwrap_or}
use Rattle.std.specs.FinMap.{get}
use Rattle.std.proofs.lemmas.Bool.{cases_Bool}
use Rattle.std.proofs.lemmas.Bool.Decides.{nat_tests}
use Rattle.aegis_num.specs.declared.storage.Place.{Place}
use Rattle.aegis_num.specs.declared.storage.Place.TheVariants.{Log, Tree}
use Rattle.execution.specs.Traffic.{Traffic, after_loose}
use Rattle.regions.specs.declared.addresses.TheConstants.{OPEN_END}
use Rattle.regions.specs.declared.layout.Layout.{Layout}
use Rattle.regions.specs.declared.rights.Mode.{Mode}
use Rattle.regions.specs.declared.rights.Access.{Access}
use Rattle.regions.specs.declared.rights.Class.{Class}
use Rattle.regions.specs.declared.rights.Class.TheVariants.{Open, Verified, Private, Constant, Code, Logged}
use Rattle.off_chip.specs.declared.event.Event.{Event}
use Rattle.regions.specs.declared.rights.Access.TheVariants.{Fetch, Read, Write}
use Rattle.regions.specs.declared.rights.Mode.TheVariants.{Std, Te, Ptr, Ssp}
use Rattle.regions.specs.Addresses.{class_at}
use Rattle.regions.specs.Modes.{is_secure}
use Rattle.regions.specs.Rights.{rights}
use Rattle.orbis_core.specs.declared.memory.Stop.{Stop}
use Rattle.orbis_core.specs.declared.memory.Stop.TheVariants as stop
use Rattle.orbis_core.specs.declared.memory.Why.{Why}
use Rattle.orbis_core.specs.declared.memory.Why.TheVariants.{Misaligned, Rights}
use Rattle.orbis_core.specs.Accesses.{IsSettled}
use Rattle.orbis_core.specs.Carrying.{CarriedTo}
use Rattle.orbis_core.specs.OwnMemory.{Own, OwnFetches, OwnLoad, OwnLoadsByte, OwnLoadsWord, OwnStore, OwnStoresByte, OwnStoresWord}
use Rattle.secure_memory.specs.IdealAccesses.{AccessesAreIdeal, HasIdeal, IsFaithful, own_of}
use Rattle.secure_memory.specs.MemoryAccesses.{FetchesWord, IsStopped, IsStoppedBy, Loads, LoadsBlock, LoadsOpen, OpenOrBlock, Stores, StoresBlock, StoresOpen, Unless, pinning}
use Rattle.regions.specs.LooseClasses.{shared_loose}
use Rattle.regions.proofs.AddressLaws.{LiesIn-class_at, class_at-LiesIn}
use Rattle.orbis_core.specs.ByteOrder.{byte_in, updated, with_byte, word_start}
use Rattle.orbis_core.specs.Ideal.{from_reads, is_among, memory_stored, traffic_stored}
use Rattle.orbis_core.specs.Refusals.{answered, byte_refusal, is_allowed, word_refusal}
use Rattle.secure_memory.specs.BlockWords.{IsPlaced, place_at, word_at}
use Rattle.secure_memory.specs.MemorySights.{HasContents, Sight, contents_of_place, line_in}
use Rattle.secure_memory.proofs.AccessLemmas.{LiesAt, lies-at}
use Rattle.secure_memory.proofs.TreeActs.{payload-line}

-- ---- classes

pub among-open : (layout : Layout) (at : ℕ) → at < OPEN_END → is_among shared_loose layout at ≡ true
among-open layout at below =
    let class : class_at layout at ≡ Some Open = class_at-LiesIn layout at Open (omega arith, below) in
    ap (λ (o : Option Class). unwrap_or (option_map shared_loose o) false) class

class-closed : (layout : Layout) (at : ℕ) (o : Option Class) → class_at layout at ≡ o → OPEN_END ≤ at → unwrap_or (option_map shared_loose o) false ≡ false
class-closed layout at None is above = refl
class-closed layout at (Some Open) is above = let lies = LiesIn-class_at layout at Open is in absurd (omega (arith, lies.1, above))
class-closed layout at (Some Verified) is above = refl
class-closed layout at (Some Private) is above = refl
class-closed layout at (Some Constant) is above = refl
class-closed layout at (Some Code) is above = refl
class-closed layout at (Some Logged) is above = refl

pub among-closed : (layout : Layout) (at : ℕ) → OPEN_END ≤ at → is_among shared_loose layout at ≡ false
among-closed layout at above = class-closed layout at (class_at layout at) refl above

-- ---- what is not refused

test-placed : {X : Type 0} (test : X → Bool) (o : Option X) → unwrap_or (option_map test o) false ≡ true → IsSome o
test-placed test (Some class) is = refl
test-placed test None is = cc

pub byte-placed : (layout : Layout) (mode : Mode) (access : Access) (at : ℕ) → byte_refusal layout mode access at ≡ None → IsPlaced layout at
byte-placed layout mode access at none = by (is_allowed layout mode access at) refl none
  where
    by : (b : Bool) → is_allowed layout mode access at ≡ b → byte_refusal layout mode access at ≡ None → IsPlaced layout at
    by true is none = test-placed _ (class_at layout at) is
    by false is none = let e : Some _ ≡ None = rw is at none in cc

-- ---- what a line has is the contents of its block

line-contents : {L : Type 0} (sight : Sight L) (place : Place) (payload : List ℕ) → line_in sight place ≡ Some payload → contents_of_place sight place ≡ Some payload
line-contents sight (Tree n) payload line =
    let found = payload-line (get sight.lines n) payload line in rw found.1 (ap (λ (p : List ℕ). Some p) found.2)
line-contents sight (Log n) payload line = rw line refl

pub block-word : {L : Type 0} (sight : Sight L) (memory : ℕ → ℕ) (at : ℕ) (payload : List ℕ) → IsPlaced sight.layout at → OPEN_END ≤ at → HasContents sight memory
    → line_in sight (place_at sight.layout at) ≡ Some payload → memory (word_start at) ≡ word_at payload at
block-word sight memory at payload placed above has line =
    let lies : LiesAt sight.layout at = lies-at sight.layout at placed above in
    let block = has.block (place_at sight.layout at) lies.is in
    let e : Some block.payload ≡ Some payload = sym block.is ∙ line-contents sight (place_at sight.layout at) payload line in
    let same : block.payload ≡ payload = cc in
    ap (λ n. memory n) lies.word ∙ block.words _ lies.less ∙ ap (λ (p : List ℕ). word_at p at) same

-- ---- the memory of the ideal machine

has-ideal : {L : Type 0} (read : ℕ → Option ℕ) (old new : Sight L) (memory : ℕ → ℕ) (traffic : Traffic ℕ) → new.layout ≡ old.layout → new.mode ≡ old.mode → IsTrue (is_secure old.mode)
    → HasContents new memory → HasIdeal read new (own_of read old memory traffic)
has-ideal read old new memory traffic layout mode secure has = record {
  memory = memory;
  traffic = traffic;
  is = ap (λ (l : Layout). record { layout = l; outside = from_reads read; mode = old.mode; memory = memory; traffic = traffic }) (sym layout)
      ∙ ap (λ (m : Mode). record { layout = new.layout; outside = from_reads read; mode = m; memory = memory; traffic = traffic }) (sym mode);
  secure = subst (λ (m : Mode). IsTrue (is_secure m)) (sym mode) secure;
  contents = has;
}

own-taken : (loose : Bool) (came : Option ℕ) (word value : ℕ) (own : Own) → loose ≡ true → came ≡ Some value
    → OwnLoad None loose came word own (Ok value) (record own { traffic = after_loose own.traffic })
own-taken loose came word value own is some =
    subst (λ (b : Bool). OwnLoad None b came word own (Ok value) (record own { traffic = after_loose own.traffic })) (sym is)
    (subst (λ (o : Option ℕ). OwnLoad None true o word own (Ok value) (record own { traffic = after_loose own.traffic })) (sym some) (refl, refl))

own-kept : (loose : Bool) (came : Option ℕ) (word value : ℕ) (own : Own) → loose ≡ false → value ≡ word → OwnLoad None loose came word own (Ok value) own
own-kept loose came word value own is same =
    subst (λ (b : Bool). OwnLoad None b came word own (Ok value) own) (sym is) (ap (λ (n : ℕ). Ok n) same, refl)

-- what may come of an access that was refused
refused-ideal : {L : Type 0} (read : ℕ → Option ℕ) (old new : Sight L) (memory : ℕ → ℕ) (traffic : Traffic ℕ) → IsTrue (is_secure old.mode) → HasContents old memory → new ≡ old
    → HasIdeal read new (own_of read old memory traffic)
refused-ideal read old new memory traffic secure has same =
    subst (λ (s : Sight _). HasIdeal read s (own_of read old memory traffic)) (sym same) (record { memory = memory; traffic = traffic; is = refl; secure = secure; contents = has })

not-stopped : {L : Type 0} (at : ℕ) (reason : Stop) (old new : Sight L) → IsStopped at reason old new → IsSettled {T = ℕ} (Err reason) → ⊥
not-stopped at (stop.Refused why) old new stopped settled = by stopped.by
  where
    by : IsStoppedBy at old new (stop.Refused why) → ⊥
    by stopped = elim stopped [ ]
not-stopped at (stop.Tree event) old new stopped settled = settled
not-stopped at (stop.Log event) old new stopped settled = settled

pub either : (P Q X : Type 0) (at : ℕ) → (at < OPEN_END → P → X) → (OPEN_END ≤ at → Q → X) → OpenOrBlock (nat_lt at OPEN_END) P Q → X
either P Q X at one other does =
    elim (cases_Bool (nat_lt at OPEN_END)) [
      | inl open' ↦ one (grind (arith, nat_tests, open')) (subst (λ (b : Bool). OpenOrBlock b P Q) open' does)
      | inr closed ↦ other (grind (arith, nat_tests, closed)) (subst (λ (b : Bool). OpenOrBlock b P Q) closed does)
    ]

-- ---- loads

loads-ideal : {L : Type 0} (read : ℕ → Option ℕ) (refusal : Option Why) (of : ℕ → ℕ) (came : Option ℕ) (at : ℕ) (answer : Result ℕ Stop) (old new : Sight L) (memory : ℕ → ℕ) (traffic : Traffic ℕ)
    → IsTrue (is_secure old.mode) → HasContents old memory → (refusal ≡ None → IsPlaced old.layout at) → ((word : ℕ) → read (word_start at) ≡ Some word → came ≡ Some (of word))
    → Unless refusal answer old new (Loads (λ payload. of (word_at payload at)) of at answer old new) → IsFaithful read answer old new
    → CarriedTo (HasIdeal read) new (λ (after : Own). OwnLoad refusal (is_among shared_loose old.layout at) came (of (memory (word_start at))) (own_of read old memory traffic) answer after)
loads-ideal read (Some why) of came at answer old new memory traffic secure has placed comes does faithful = record {
  after = own_of read old memory traffic;
  done = (does.0, refl);
  related = refused-ideal read old new memory traffic secure has does.1;
}
loads-ideal read None of came at (Err reason) old new memory traffic secure has placed comes does faithful = absurd (not-stopped at reason old new does faithful.settled)
loads-ideal {L} read None of came at (Ok word) old new memory traffic secure has placed comes does faithful =
    either (LoadsOpen of at word old new) (LoadsBlock (λ payload. of (word_at payload at)) at word old new)
    (CarriedTo (HasIdeal read) new (λ (after : Own). OwnLoad None (is_among shared_loose old.layout at) came (of (memory (word_start at))) (own_of read old memory traffic) (Ok word) after)) at
    (λ (below : at < OPEN_END) (loads : LoadsOpen of at word old new). record {
      after = own_of read old memory (after_loose traffic);
      done = own-taken (is_among shared_loose old.layout at) came (of (memory (word_start at))) word (own_of read old memory traffic) (among-open old.layout at below)
          (comes loads.read (faithful.words (word_start at) loads.read loads.acts.appended) ∙ ap (λ (n : ℕ). Some n) (sym loads.answer));
      related = has-ideal read old new memory (after_loose traffic) loads.acts.parts.layout loads.acts.parts.mode secure (loads.acts.contents faithful.as_written memory has);
    })
    (λ (above : OPEN_END ≤ at) (loads : LoadsBlock (λ payload. of (word_at payload at)) at word old new).
    let acts = loads.reaches.acts in
    let now : HasContents new memory = acts.contents faithful.as_written memory has in
    let here : line_in new (place_at new.layout at) ≡ Some loads.reaches.payload =
    subst (λ (l : Layout). line_in new (place_at l at) ≡ Some loads.reaches.payload) (sym acts.parts.layout) loads.reaches.line in
    let in_new : IsPlaced new.layout at = subst (λ (l : Layout). IsPlaced l at) (sym acts.parts.layout) (placed refl) in
    record {
      after = own_of read old memory traffic;
      done = own-kept (is_among shared_loose old.layout at) came (of (memory (word_start at))) word (own_of read old memory traffic) (among-closed old.layout at above)
          (loads.answer ∙ ap (λ n. of n) (sym (block-word new memory at loads.reaches.payload in_new above now here)));
      related = has-ideal read old new memory traffic acts.parts.layout acts.parts.mode secure now;
    }) does

words-ideal : {L : Type 0} (read : ℕ → Option ℕ) (refusal : Option Why) (at : ℕ) (answer : Result ℕ Stop) (old new : Sight L) (memory : ℕ → ℕ) (traffic : Traffic ℕ)
    → IsTrue (is_secure old.mode) → HasContents old memory → (refusal ≡ None → IsPlaced old.layout at × (at % 4 ≡ 0))
    → Unless refusal answer old new (Loads (λ payload. word_at payload at) (λ word. word) at answer old new) → IsFaithful read answer old new
    → CarriedTo (HasIdeal read) new (λ (after : Own). OwnLoad refusal (is_among shared_loose old.layout at) (read at) (memory at) (own_of read old memory traffic) answer after)
words-ideal read (Some why) at answer old new memory traffic secure has parts does faithful = record {
  after = own_of read old memory traffic;
  done = (does.0, refl);
  related = refused-ideal read old new memory traffic secure has does.1;
}
words-ideal read None at answer old new memory traffic secure has parts does faithful =
    let start : word_start at ≡ at = omega (arith, (parts refl).1) in
    subst (λ n. CarriedTo (HasIdeal read) new (λ (after : Own). OwnLoad None (is_among shared_loose old.layout at) (read n) (memory n) (own_of read old memory traffic) answer after)) start
    (loads-ideal read None (λ word. word) (read (word_start at)) at answer old new memory traffic secure has (λ none. (parts none).0) (λ word is. is) does faithful)

-- ---- stores

stores-ideal : {L : Type 0} (read : ℕ → Option ℕ) (refusal : Option Why) (value : ℕ → ℕ) (left : List ℕ → List ℕ) (events : ℕ → List Event) (at noted : ℕ) (answer : Result (Unit {0}) Stop)
    (old new : Sight L) (memory : ℕ → ℕ) (traffic : Traffic ℕ) → IsTrue (is_secure old.mode) → HasContents old memory
    → Unless refusal answer old new (Stores value left events at answer old new) → IsFaithful read answer old new
    → CarriedTo (HasIdeal read) new (λ (after : Own). OwnStore refusal at noted (value (memory (word_start at))) (own_of read old memory traffic) answer after)
stores-ideal read (Some why) value left events at noted answer old new memory traffic secure has does faithful = record {
  after = own_of read old memory traffic;
  done = (does.0, refl);
  related = refused-ideal read old new memory traffic secure has does.1;
}
stores-ideal read None value left events at noted (Err reason) old new memory traffic secure has does faithful = absurd (not-stopped at reason old new does (settled-as reason faithful.settled))
  where
    settled-as : (reason : Stop) → IsSettled {T = Unit {0}} (Err reason) → IsSettled {T = ℕ} (Err reason)
    settled-as (stop.Refused why) is = tt
    settled-as (stop.Tree event) is = is
    settled-as (stop.Log event) is = is
stores-ideal read None value left events at noted (Ok done) old new memory traffic secure has does faithful =
    let stored : ℕ → ℕ = memory_stored old.layout shared_loose at (value (memory (word_start at))) memory in
    either (StoresOpen events old new) (StoresBlock value left at old new)
    (CarriedTo (HasIdeal read) new (λ (after : Own). OwnStore None at noted (value (memory (word_start at))) (own_of read old memory traffic) (Ok done) after)) at
    (λ (below : at < OPEN_END) (stores : StoresOpen events old new). record {
      after = own_of read old stored (traffic_stored old.layout at noted traffic);
      done = (refl, refl);
      related = has-ideal read old new stored (traffic_stored old.layout at noted traffic) stores.acts.parts.layout stores.acts.parts.mode secure
          (subst (λ (b : Bool). HasContents new (if b then memory else updated memory (word_start at) (value (memory (word_start at))))) (sym (among-open old.layout at below))
          (stores.acts.contents faithful.as_written memory has));
    })
    (λ (above : OPEN_END ≤ at) (stores : StoresBlock value left at old new). record {
      after = own_of read old stored (traffic_stored old.layout at noted traffic);
      done = (refl, refl);
      related = has-ideal read old new stored (traffic_stored old.layout at noted traffic) stores.acts.parts.layout stores.acts.parts.mode secure
          (subst (λ (b : Bool). HasContents new (if b then memory else updated memory (word_start at) (value (memory (word_start at))))) (sym (among-closed old.layout at above))
          (stores.acts.contents faithful.as_written memory has));
    }) does

-- ---- fetches

allowed-open : (mode : Mode) → IsTrue (is_secure mode) → rights mode Open Fetch ≡ false
allowed-open Std secure = cc
allowed-open Te secure = refl
allowed-open Ptr secure = refl
allowed-open Ssp secure = cc

pub refused-open : (layout : Layout) (mode : Mode) (at : ℕ) → IsTrue (is_secure mode) → at < OPEN_END → word_refusal layout mode Fetch at ≡ Some Rights
refused-open layout mode at secure below =
    let class : class_at layout at ≡ Some Open = class_at-LiesIn layout at Open (omega arith, below) in
    let allowed : is_allowed layout mode Fetch at ≡ false =
    ap (λ (o : Option Class). unwrap_or (option_map (λ class. rights mode class Fetch) o) false) class ∙ allowed-open mode secure in
    ap (λ (b : Bool). if b then (if at % 4 == 0 then None else Some Misaligned) else Some Rights) allowed

-- what is not refused
pub word-parts : (layout : Layout) (mode : Mode) (access : Access) (at : ℕ) → word_refusal layout mode access at ≡ None → IsPlaced layout at × (at % 4 ≡ 0)
word-parts layout mode access at none = by (is_allowed layout mode access at) (at % 4 == 0) refl refl none
  where
    by : (allowed aligned : Bool) → is_allowed layout mode access at ≡ allowed → (at % 4 == 0) ≡ aligned
        → word_refusal layout mode access at ≡ None → IsPlaced layout at × (at % 4 ≡ 0)
    by true true is even none = (test-placed (λ class. rights mode class access) (class_at layout at) is, grind (arith, nat_tests, even))
    by true false is odd none = let e : Some Misaligned ≡ None = rw (is, odd) at none in cc
    by false aligned is even none = let e : Some Rights ≡ None = rw is at none in cc

fetches-ideal : {L : Type 0} (read : ℕ → Option ℕ) (refusal : Option Why) (at : ℕ) (answer : Result ℕ Stop) (old new : Sight L) (memory : ℕ → ℕ) (traffic : Traffic ℕ)
    → IsTrue (is_secure old.mode) → HasContents old memory → (refusal ≡ None → IsPlaced old.layout at × (at % 4 ≡ 0) × (OPEN_END ≤ at))
    → Unless refusal answer old new (FetchesWord at answer old new) → IsFaithful read answer old new
    → CarriedTo (HasIdeal read) new (λ (after : Own). (answer ≡ answered refusal (memory at)) × (after ≡ own_of read old memory traffic))
fetches-ideal read (Some why) at answer old new memory traffic secure has parts does faithful = record {
  after = own_of read old memory traffic;
  done = (does.0, refl);
  related = refused-ideal read old new memory traffic secure has does.1;
}
fetches-ideal read None at (Err reason) old new memory traffic secure has parts does faithful =
    absurd (not-stopped at reason (pinning [] old) (pinning [] new) does.loads faithful.settled)
fetches-ideal read None at (Ok word) old new memory traffic secure has parts does faithful =
    let known = parts refl in
    either (LoadsOpen (λ word. word) at word (pinning [] old) (pinning [] new)) (LoadsBlock (λ payload. word_at payload at) at word (pinning [] old) (pinning [] new))
    (CarriedTo (HasIdeal read) new (λ (after : Own). (Ok word ≡ Ok (memory at)) × (after ≡ own_of read old memory traffic))) at
    (λ (below : at < OPEN_END) (loads : LoadsOpen (λ word. word) at word (pinning [] old) (pinning [] new)). absurd (omega (arith, below, known.2)))
    (λ (above : OPEN_END ≤ at) (loads : LoadsBlock (λ payload. word_at payload at) at word (pinning [] old) (pinning [] new)).
    let acts = loads.reaches.acts in
    let there = acts.contents faithful.as_written memory (record { block = has.block }) in
    let here : line_in new (place_at new.layout at) ≡ Some loads.reaches.payload =
    subst (λ (l : Layout). line_in (pinning [] new) (place_at l at) ≡ Some loads.reaches.payload) (sym acts.parts.layout) loads.reaches.line in
    let now : HasContents new memory = record { block = there.block } in
    let in_new : IsPlaced new.layout at = subst (λ (l : Layout). IsPlaced l at) (sym acts.parts.layout) known.0 in
    let start : word_start at ≡ at = omega (arith, known.1) in
    record {
      after = own_of read old memory traffic;
      done = (ap (λ (n : ℕ). Ok n) (loads.answer ∙ sym (block-word new memory at loads.reaches.payload in_new above now here) ∙ ap (λ n. memory n) start), refl);
      related = has-ideal read old new memory traffic acts.parts.layout acts.parts.mode secure now;
    }) does.loads

-- ---- the law

pub ideal-law : (L : Type 0) → AccessesAreIdeal L
ideal-law L read = record {
  fetch = λ old new at answer other has does.
      subst (λ (o : Own). CarriedTo (HasIdeal read) new (λ (after : Own). OwnFetches o at answer after)) (sym has.is)
      (fetches-ideal read (word_refusal old.layout old.mode Fetch at) at answer old new has.memory has.traffic has.secure has.contents (fetch-parts old.layout old.mode at has.secure) does.0 does.1);
  load_word = λ old new at answer other has does.
      subst (λ (o : Own). CarriedTo (HasIdeal read) new (λ (after : Own). OwnLoadsWord o at answer after)) (sym has.is)
      (words-ideal read (word_refusal old.layout old.mode Read at) at answer old new has.memory has.traffic has.secure has.contents (word-parts old.layout old.mode Read at) does.0 does.1);
  load_byte = λ old new at answer other has does.
      subst (λ (o : Own). CarriedTo (HasIdeal read) new (λ (after : Own). OwnLoadsByte o at answer after)) (sym has.is)
      (loads-ideal read (byte_refusal old.layout old.mode Read at) (λ word. byte_in word at) (option_map (λ word. byte_in word at) (read (word_start at))) at answer old new has.memory has.traffic
      has.secure has.contents (byte-placed old.layout old.mode Read at) (λ word is. ap (λ (o : Option ℕ). option_map (λ word. byte_in word at) o) is) does.0 does.1);
  store_word = λ old new at word answer other has does.
      subst (λ (o : Own). CarriedTo (HasIdeal read) new (λ (after : Own). OwnStoresWord o at word answer after)) (sym has.is)
      (stores-ideal read (word_refusal old.layout old.mode Write at) (λ before. word) _ _ at word answer old new has.memory has.traffic has.secure has.contents does.0 does.1);
  store_byte = λ old new at byte answer other has does.
      subst (λ (o : Own). CarriedTo (HasIdeal read) new (λ (after : Own). OwnStoresByte o at byte answer after)) (sym has.is)
      (stores-ideal read (byte_refusal old.layout old.mode Write at) (λ before. with_byte before at byte) _ _ at byte answer old new has.memory has.traffic has.secure has.contents does.0 does.1);
}
  where
    fetch-parts : (layout : Layout) (mode : Mode) (at : ℕ) → IsTrue (is_secure mode) → word_refusal layout mode Fetch at ≡ None → IsPlaced layout at × (at % 4 ≡ 0) × (OPEN_END ≤ at)
    fetch-parts layout mode at secure none =
        let parts = word-parts layout mode Fetch at none in
        let above : OPEN_END ≤ at = elim (cases_Bool (nat_lt at OPEN_END)) [
          | inr closed ↦ grind (arith, nat_tests, closed)
          | inl open' ↦ let e : Some Rights ≡ None = sym (refused-open layout mode at secure (grind (arith, nat_tests, open'))) ∙ none in cc
        ] in (parts.0, parts.1, above)
