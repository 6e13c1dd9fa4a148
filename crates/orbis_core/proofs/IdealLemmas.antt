-- Steps and runs of the ideal machine.
use Rattle.std.proofs.Common.{◌≡◌, ℕ, ◌+◌, ◌^◌, ◌%◌, Bool, true, false, ◌==◌, if◌then◌else◌, nat_eq, Option, Some, None, option_map, unwrap_or, refl, sym, ◌∙◌, ap, subst, arith}
use Rattle.std.proofs.lemmas.Bool.Decides.{nat_tests}
use Rattle.std.specs.Prelude.{IsTrue}
use Rattle.execution.specs.Run.{Next, Goes, Stops, and_then, run, state_of}
use Rattle.execution.proofs.RunLemmas.{run-+, run-ended, run-keeps}
use Rattle.execution.specs.Traffic.{Traffic, Extends, after_write, loose_word}
use Rattle.execution.proofs.TrafficLemmas.{extends-refl, extends-trans, extends-input, extends-loose, extends-release, extends-write, extends-check, extends-suspension}
use Rattle.orbis_word.specs.declared.Instr.{Instr}
use Rattle.regions.specs.declared.Layout.{Layout}
use Rattle.regions.specs.declared.Class.{Class}
use Rattle.regions.specs.declared.Class.TheVariants.{Open, Verified, Private, Constant, Code, Logged}
use Rattle.regions.specs.declared.Mode.{Mode}
use Rattle.regions.specs.declared.Mode.TheVariants.{Std, Te, Ptr, Ssp}
use Rattle.regions.specs.declared.Access.{Access}
use Rattle.regions.specs.declared.Access.TheVariants.{Read, Write, Fetch}
use Rattle.regions.specs.Addresses.{class_at}
use Rattle.regions.specs.LooseClasses.{shared_loose}
use Rattle.regions.specs.Modes.{SecureInstruction, Enter, Exit, IndexTrap, DivideTrap, Suspend, Resume, PrivateOn, PrivateOff, Release, Input, Check, allowed_in, is_secure}
use Rattle.regions.specs.Rights.{rights}
use Rattle.orbis_core.specs.declared.effect.Effect.{Effect}
use Rattle.orbis_core.specs.declared.effect.Effect.TheVariants as effect
use Rattle.orbis_core.specs.declared.memory.Why.{Why}
use Rattle.orbis_core.specs.declared.memory.Why.TheVariants as why
use Rattle.orbis_core.specs.ByteOrder.{byte_in, with_byte, updated, word_start}
use Rattle.orbis_core.specs.Effects.{effect_of}
use Rattle.orbis_core.specs.Ideal.{Ideal, IdealEnd, Outside, Refused, carried, executed, from_entries, ideal_step, instruction_at, is_among, loaded, machine_step, memory_stored, secured, stores, taken, unless}
use Rattle.orbis_core.specs.IdealLaws.{ClassIsOfWord, CodeIsFetched, CodeStays, IdealEndsStay, IdealRunsExtend, IdealRunsJoin, ModeStaysSecure, StepIsCarried}
use Rattle.orbis_core.specs.Processor.{register}
use Rattle.orbis_core.specs.Refusals.{word_refusal, byte_refusal, is_allowed}
use Rattle.orbis_core.specs.Secure.{secure_of}
use Rattle.orbis_core.proofs.StepLaws.{step-effect}

-- ---- what comes and goes

-- what a machine comes to extends what there was
abbrev ExtendsOn : Ideal → Next Ideal IdealEnd → Type 0
ExtendsOn state next = Extends state.traffic (state_of next).traffic

unless-extends : (refusal : Option Why) (state : Ideal) (next : Next Ideal IdealEnd) → ExtendsOn state next → ExtendsOn state (unless refusal state next)
unless-extends None state next extends = extends
unless-extends (Some reason) state next extends = extends-refl state.traffic

word-extends : (d at : ℕ) (state : Ideal) (found : Option ℕ) → loose_word nat_eq at state.traffic ≡ found → ExtendsOn state (taken d found state)
word-extends d at state None is = extends-refl state.traffic
word-extends d at state (Some word) is = extends-loose nat_eq at state.traffic word is

byte-extends : (d at : ℕ) (state : Ideal) (found : Option ℕ) → loose_word nat_eq at state.traffic ≡ found → ExtendsOn state (taken d (option_map (λ word. word % 2 ^ 8) found) state)
byte-extends d at state None is = extends-refl state.traffic
byte-extends d at state (Some word) is = extends-loose nat_eq at state.traffic word is

loads-extends : (loose : Bool) (d word : ℕ) (came : Option ℕ) (state : Ideal) → ExtendsOn state (taken d came state) → ExtendsOn state (if loose then taken d came state else loaded d word state)
loads-extends true d word came state extends = extends
loads-extends false d word came state extends = extends-refl state.traffic

stored-extends : (shared : Bool) (at value : ℕ) (traffic : Traffic ℕ) → Extends traffic (if shared then after_write at value traffic else traffic)
stored-extends true at value traffic = extends-write at value traffic
stored-extends false at value traffic = extends-refl traffic

secured-extends : (asked : SecureInstruction) (state : Ideal) → ExtendsOn state (secured asked state)
secured-extends Enter state = extends-refl state.traffic
secured-extends Exit state = extends-refl state.traffic
secured-extends IndexTrap state = extends-refl state.traffic
secured-extends DivideTrap state = extends-refl state.traffic
secured-extends Suspend state = extends-suspension state.traffic
secured-extends Resume state = extends-refl state.traffic
secured-extends PrivateOn state = extends-refl state.traffic
secured-extends PrivateOff state = extends-refl state.traffic
secured-extends Release state = extends-release (register state.core 3) state.traffic
secured-extends Input state = extends-input state.traffic
secured-extends Check state = extends-check state.traffic

allowed-extends : (allowed : Bool) (asked : SecureInstruction) (state : Ideal) → ExtendsOn state (if allowed then secured asked state else Stops (Refused why.Mode) state)
allowed-extends true asked state = secured-extends asked state
allowed-extends false asked state = extends-refl state.traffic

module _ (layout : Layout) (loose : Class → Bool) where
  carried-extends : (asked : Effect) (state : Ideal) → ExtendsOn state (carried layout (from_entries loose) asked state)
  carried-extends (effect.LoadWord d at) state =
      unless-extends (word_refusal layout state.mode Read at) state _
      (loads-extends (is_among loose layout at) d (state.memory at) (loose_word nat_eq at state.traffic) state (word-extends d at state (loose_word nat_eq at state.traffic) refl))
  carried-extends (effect.LoadByte d at) state =
      unless-extends (byte_refusal layout state.mode Read at) state _
      (loads-extends (is_among loose layout at) d (byte_in (state.memory (word_start at)) at) (option_map (λ word. word % 2 ^ 8) (loose_word nat_eq at state.traffic)) state
      (byte-extends d at state (loose_word nat_eq at state.traffic) refl))
  carried-extends (effect.StoreWord at word) state =
      unless-extends (word_refusal layout state.mode Write at) state (stores layout loose at word word state) (stored-extends (is_among shared_loose layout at) at word state.traffic)
  carried-extends (effect.StoreByte at byte) state =
      unless-extends (byte_refusal layout state.mode Write at) state (stores layout loose at byte (with_byte (state.memory (word_start at)) at byte) state)
      (stored-extends (is_among shared_loose layout at) at byte state.traffic)
  carried-extends (effect.Secure f) state = allowed-extends (allowed_in (secure_of f) state.mode) (secure_of f) state
  carried-extends effect.DivideByZero state = extends-refl state.traffic
  carried-extends effect.Proceed state = extends-refl state.traffic
  carried-extends (effect.Write d value) state = extends-refl state.traffic
  carried-extends (effect.Compare flag) state = extends-refl state.traffic
  carried-extends (effect.Jump target) state = extends-refl state.traffic
  carried-extends (effect.Link target) state = extends-refl state.traffic

  executed-extends : (found : Option Instr) (state : Ideal) → ExtendsOn state (executed layout (from_entries loose) found state)
  executed-extends None state = extends-refl state.traffic
  executed-extends (Some instruction) state = carried-extends (effect_of instruction state.core) state

  -- each step extends what there was
  pub step-extends : (state : Ideal) → Extends state.traffic (state_of (ideal_step layout loose state)).traffic
  step-extends state = unless-extends (word_refusal layout state.mode Fetch state.core.pc) state _ (executed-extends (instruction_at state) state)

  extends-more : (steps more : ℕ) (state : Ideal)
      → Extends (state_of (run (ideal_step layout loose) steps state)).traffic (state_of (run (ideal_step layout loose) (steps + more) state)).traffic
  extends-more steps more state =
      let P : Next Ideal IdealEnd → Type 0 = λ next. Extends (state_of (run (ideal_step layout loose) steps state)).traffic (state_of next).traffic in
      subst P (sym (run-+ (ideal_step layout loose) steps more state)) (on (run (ideal_step layout loose) steps state))
    where
      on : (next : Next Ideal IdealEnd) → Extends (state_of next).traffic (state_of (and_then next (run (ideal_step layout loose) more))).traffic
      on (Goes from) =
          run-keeps (ideal_step layout loose) (λ to. Extends from.traffic to.traffic) (λ to extends. extends-trans from.traffic to.traffic _ extends (step-extends to)) more from (extends-refl from.traffic)
      on (Stops end from) = extends-refl from.traffic

pub run-extends : IdealRunsExtend
run-extends layout loose steps more state = extends-more layout loose steps more state

pub runs-join : IdealRunsJoin
runs-join layout outside m n state = run-+ (machine_step layout outside) m n state

pub ends-stay : IdealEndsStay
ends-stay layout outside steps more state at end = run-ended (machine_step layout outside) steps more state at end

-- ---- addresses and rights

pub class-of-word : ClassIsOfWord
unfolding class_at
class-of-word layout at = grind (arith, nat_tests)

-- an access that is not refused is at an address of a class that the mode has this right to
allowed-class : (layout : Layout) (mode : Mode) (access : Access) (at : ℕ) (class : Class) → class_at layout at ≡ Some class → is_allowed layout mode access at ≡ rights mode class access
allowed-class layout mode access at class is = ap (λ found. unwrap_or (option_map (λ c. rights mode c access) found) false) is

word-allowed : (layout : Layout) (mode : Mode) (access : Access) (at : ℕ) → word_refusal layout mode access at ≡ None → is_allowed layout mode access at ≡ true
word-allowed layout mode access at none = go (is_allowed layout mode access at) none
  where
    go : (allowed : Bool) → (if allowed then (if at % 4 == 0 then None else Some why.Misaligned) else Some why.Rights) ≡ None → allowed ≡ true
    go true none = refl
    go false none = absurd (grind arith)

byte-allowed : (layout : Layout) (mode : Mode) (access : Access) (at : ℕ) → byte_refusal layout mode access at ≡ None → is_allowed layout mode access at ≡ true
byte-allowed layout mode access at none = go (is_allowed layout mode access at) none
  where
    go : (allowed : Bool) → (if allowed then None else Some why.Rights) ≡ None → allowed ≡ true
    go true none = refl
    go false none = absurd (grind arith)

-- no mode writes code
no-code : (mode : Mode) → rights mode Code Write ≡ false
no-code Std = refl
no-code Te = refl
no-code Ptr = refl
no-code Ssp = refl

-- a secure mode fetches nothing else
code-alone : (mode : Mode) (class : Class) → IsTrue (is_secure mode) → rights mode class Fetch ≡ true → class ≡ Code
code-alone Te Code secure can = refl
code-alone Ptr Code secure can = refl
code-alone Te Open secure can = absurd (grind arith)
code-alone Te Verified secure can = absurd (grind arith)
code-alone Te Private secure can = absurd (grind arith)
code-alone Te Constant secure can = absurd (grind arith)
code-alone Te Logged secure can = absurd (grind arith)
code-alone Ptr Open secure can = absurd (grind arith)
code-alone Ptr Verified secure can = absurd (grind arith)
code-alone Ptr Private secure can = absurd (grind arith)
code-alone Ptr Constant secure can = absurd (grind arith)
code-alone Ptr Logged secure can = absurd (grind arith)
code-alone Std class secure can = absurd (grind arith)
code-alone Ssp class secure can = absurd (grind arith)

pub code-fetched : CodeIsFetched
code-fetched layout state secure none = go (class_at layout state.core.pc) refl
  where
    allowed : is_allowed layout state.mode Fetch state.core.pc ≡ true
    allowed = word-allowed layout state.mode Fetch state.core.pc none

    go : (found : Option Class) → class_at layout state.core.pc ≡ found → found ≡ Some Code
    go None is = let e : true ≡ false = sym allowed ∙ ap (λ found. unwrap_or (option_map (λ c. rights state.mode c Fetch) found) false) is in absurd (grind (arith, e))
    go (Some class) is = ap (λ (c : Class). Some c) (code-alone state.mode class secure (sym (allowed-class layout state.mode Fetch state.core.pc class is) ∙ allowed))

-- ---- code

module _ (layout : Layout) (state : Ideal) (at : ℕ) (code : class_at layout at ≡ Some Code) where
  -- a store elsewhere
  elsewhere : (loose : Class → Bool) (other word : ℕ) → is_allowed layout state.mode Write other ≡ true → memory_stored layout loose other word state.memory at ≡ state.memory at
  elsewhere loose other word allowed = go (is_among loose layout other)
    where
      apart : at ≡ word_start other → ⊥
      apart same =
          let class : class_at layout other ≡ Some Code = sym (class-of-word layout other) ∙ ap (λ a. class_at layout a) (sym same) ∙ code in
          let e : true ≡ false = sym allowed ∙ allowed-class layout state.mode Write other Code class ∙ no-code state.mode in
          grind (arith, e)

      go : (free : Bool) → (if free then state.memory else updated state.memory (word_start other) word) at ≡ state.memory at
      go true = refl
      go false = grind (arith, nat_tests, apart)

  unless-keeps : (r : Option Why) (next : Next Ideal IdealEnd) → (r ≡ None → (state_of next).memory at ≡ state.memory at) → (state_of (unless r state next)).memory at ≡ state.memory at
  unless-keeps None next same = same refl
  unless-keeps (Some reason) next same = refl

  taken-keeps : (d : ℕ) (came : Option ℕ) → (state_of (taken d came state)).memory at ≡ state.memory at
  taken-keeps d None = refl
  taken-keeps d (Some word) = refl

  loads-keeps : (loose : Bool) (d word : ℕ) (came : Option ℕ) → (state_of (if loose then taken d came state else loaded d word state)).memory at ≡ state.memory at
  loads-keeps true d word came = taken-keeps d came
  loads-keeps false d word came = refl

  secured-keeps : (asked : SecureInstruction) → (state_of (secured asked state)).memory at ≡ state.memory at
  secured-keeps Enter = refl
  secured-keeps Exit = refl
  secured-keeps IndexTrap = refl
  secured-keeps DivideTrap = refl
  secured-keeps Suspend = refl
  secured-keeps Resume = refl
  secured-keeps PrivateOn = refl
  secured-keeps PrivateOff = refl
  secured-keeps Release = refl
  secured-keeps Input = refl
  secured-keeps Check = refl

  tested-keeps : (allowed : Bool) (asked : SecureInstruction) → (state_of (if allowed then secured asked state else Stops (Refused why.Mode) state)).memory at ≡ state.memory at
  tested-keeps true asked = secured-keeps asked
  tested-keeps false asked = refl

  carried-keeps : (outside : Outside) (asked : Effect) → (state_of (carried layout outside asked state)).memory at ≡ state.memory at
  carried-keeps outside (effect.LoadWord d a) = unless-keeps (word_refusal layout state.mode Read a) _ (λ none. loads-keeps (is_among outside.is_loose layout a) d (state.memory a) (outside.word a state.traffic))
  carried-keeps outside (effect.LoadByte d a) =
      unless-keeps (byte_refusal layout state.mode Read a) _ (λ none. loads-keeps (is_among outside.is_loose layout a) d (byte_in (state.memory (word_start a)) a) (outside.byte a state.traffic))
  carried-keeps outside (effect.StoreWord a word) =
      unless-keeps (word_refusal layout state.mode Write a) (stores layout outside.is_loose a word word state) (λ none. elsewhere outside.is_loose a word (word-allowed layout state.mode Write a none))
  carried-keeps outside (effect.StoreByte a byte) =
      unless-keeps (byte_refusal layout state.mode Write a) (stores layout outside.is_loose a byte (with_byte (state.memory (word_start a)) a byte) state)
      (λ none. elsewhere outside.is_loose a (with_byte (state.memory (word_start a)) a byte) (byte-allowed layout state.mode Write a none))
  carried-keeps outside (effect.Secure f) = tested-keeps (allowed_in (secure_of f) state.mode) (secure_of f)
  carried-keeps outside effect.DivideByZero = refl
  carried-keeps outside effect.Proceed = refl
  carried-keeps outside (effect.Write d value) = refl
  carried-keeps outside (effect.Compare flag) = refl
  carried-keeps outside (effect.Jump target) = refl
  carried-keeps outside (effect.Link target) = refl

  executed-keeps : (outside : Outside) (found : Option Instr) → (state_of (executed layout outside found state)).memory at ≡ state.memory at
  executed-keeps outside None = refl
  executed-keeps outside (Some instruction) = carried-keeps outside (effect_of instruction state.core)

pub code-stays : CodeStays
code-stays layout outside state at code =
    unless-keeps layout state at code (word_refusal layout state.mode Fetch state.core.pc) _ (λ none. executed-keeps layout state at code outside (instruction_at state))

-- ---- the mode

abbrev IsSecureNext : Next Ideal IdealEnd → Type 0
IsSecureNext next = IsTrue (is_secure (state_of next).mode)

secured-mode : (asked : SecureInstruction) (state : Ideal) → IsTrue (is_secure state.mode) → allowed_in asked state.mode ≡ true → IsSecureNext (secured asked state)
secured-mode Enter state secure allowed = refl
secured-mode Exit state secure allowed = secure
secured-mode IndexTrap state secure allowed = secure
secured-mode DivideTrap state secure allowed = secure
secured-mode Suspend state secure allowed = secure
secured-mode Resume state secure allowed = secure
secured-mode PrivateOn state secure allowed = refl
secured-mode PrivateOff state secure allowed = refl
secured-mode Release state secure allowed = secure
secured-mode Input state secure allowed = secure
secured-mode Check state secure allowed = secure

unless-mode : (r : Option Why) (state : Ideal) (next : Next Ideal IdealEnd) → IsTrue (is_secure state.mode) → IsSecureNext next → IsSecureNext (unless r state next)
unless-mode None state next secure later = later
unless-mode (Some reason) state next secure later = secure

taken-mode : (loose : Bool) (d word : ℕ) (came : Option ℕ) (state : Ideal) → IsTrue (is_secure state.mode) → IsSecureNext (if loose then taken d came state else loaded d word state)
taken-mode true d word None state secure = secure
taken-mode true d word (Some came) state secure = secure
taken-mode false d word came state secure = secure

tested-mode : (allowed : Bool) (asked : SecureInstruction) (state : Ideal) → allowed ≡ allowed_in asked state.mode → IsTrue (is_secure state.mode)
    → IsSecureNext (if allowed then secured asked state else Stops (Refused why.Mode) state)
tested-mode true asked state is secure = secured-mode asked state secure (sym is)
tested-mode false asked state is secure = secure

carried-mode : (layout : Layout) (outside : Outside) (asked : Effect) (state : Ideal) → IsTrue (is_secure state.mode) → IsSecureNext (carried layout outside asked state)
carried-mode layout outside (effect.LoadWord d a) state secure =
    unless-mode (word_refusal layout state.mode Read a) state _ secure (taken-mode (is_among outside.is_loose layout a) d (state.memory a) (outside.word a state.traffic) state secure)
carried-mode layout outside (effect.LoadByte d a) state secure =
    unless-mode (byte_refusal layout state.mode Read a) state _ secure (taken-mode (is_among outside.is_loose layout a) d (byte_in (state.memory (word_start a)) a) (outside.byte a state.traffic) state secure)
carried-mode layout outside (effect.StoreWord a word) state secure = unless-mode (word_refusal layout state.mode Write a) state (stores layout outside.is_loose a word word state) secure secure
carried-mode layout outside (effect.StoreByte a byte) state secure =
    unless-mode (byte_refusal layout state.mode Write a) state (stores layout outside.is_loose a byte (with_byte (state.memory (word_start a)) a byte) state) secure secure
carried-mode layout outside (effect.Secure f) state secure = tested-mode (allowed_in (secure_of f) state.mode) (secure_of f) state refl secure
carried-mode layout outside effect.DivideByZero state secure = secure
carried-mode layout outside effect.Proceed state secure = secure
carried-mode layout outside (effect.Write d value) state secure = secure
carried-mode layout outside (effect.Compare flag) state secure = secure
carried-mode layout outside (effect.Jump target) state secure = secure
carried-mode layout outside (effect.Link target) state secure = secure

executed-mode : (layout : Layout) (outside : Outside) (found : Option Instr) (state : Ideal) → IsTrue (is_secure state.mode) → IsSecureNext (executed layout outside found state)
executed-mode layout outside None state secure = secure
executed-mode layout outside (Some instruction) state secure = carried-mode layout outside (effect_of instruction state.core) state secure

pub mode-secure : ModeStaysSecure
mode-secure layout outside state secure = unless-mode (word_refusal layout state.mode Fetch state.core.pc) state _ secure (executed-mode layout outside (instruction_at state) state secure)

pub step-carried : StepIsCarried
step-carried layout outside state instruction none is =
    step-effect layout outside state (effect_of instruction state.core) none (ap (λ found. option_map (λ i. effect_of i state.core) found) is)
