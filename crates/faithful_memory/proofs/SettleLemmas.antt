-- No step is stopped by the tree or by the log where each block that was read is as it was written.
use Rattle.std.proofs.Common.{◌≡◌, ℕ, Option, Some, None, Result, Ok, Err, List, [], ◌++◌, lit≤, refl, sym, subst, arith}
use Rattle.regions.specs.declared.rights.Access.TheVariants.{Fetch, Read, Write}
use Rattle.regions.specs.Modes.{SecureInstruction, Enter, Exit, IndexTrap, DivideTrap, Suspend, Resume, PrivateOn, PrivateOff, Release, Input, Check}
use Rattle.orbis_word.specs.declared.Instr.{Instr}
use Rattle.orbis_word.specs.Reading.{instruction_in}
use Rattle.off_chip.specs.declared.event.Event.{Event}
use Rattle.off_chip.specs.Histories.{History, Each, history, in_order}
use Rattle.off_chip.specs.WriteBacks.{StampFits, StampsFit, block_writes}
use Rattle.off_chip.proofs.HistoryLemmas.{Each-older, history-append}
use Rattle.hash_tree.specs.AsWritten.{AllAsWritten}
use Rattle.orbis_core.specs.declared.effect.Effect.{Effect}
use Rattle.orbis_core.specs.declared.effect.Effect.TheVariants as effect
use Rattle.orbis_core.specs.declared.memory.Stop.{Stop}
use Rattle.orbis_core.specs.declared.memory.Stop.TheVariants as stop
use Rattle.orbis_core.specs.declared.memory.Why.{Why}
use Rattle.orbis_core.specs.declared.port.Port.{Port}
use Rattle.orbis_core.specs.declared.stepping.StepEnd.{StepEnd}
use Rattle.orbis_core.specs.Accesses.{Accesses, IsSettled}
use Rattle.orbis_core.specs.Effects.{effect_of}
use Rattle.orbis_core.specs.Processor.{Processor}
use Rattle.orbis_core.specs.Refusals.{byte_refusal, word_refusal}
use Rattle.orbis_core.specs.Rows.{Machine, Carries, Executes, GoesOnAfter, IsSettledEnd, Leaves, Steps, end_after}
use Rattle.orbis_core.specs.Secure.{secure_end, secure_of}
use Rattle.secure_memory.specs.BlockWords.{IsPlaced}
use Rattle.secure_memory.specs.MemoryAccesses.{FetchesWord, IsStopped, Loads, Stores, Unless, pinning, secure_accesses}
use Rattle.secure_memory.specs.MemorySights.{IsReady, Sight}
use Rattle.secure_memory.proofs.IdealLemmas.{byte-placed, word-parts}
use Rattle.faithful_memory.specs.AskedOnBus.{HeldBefore}
use Rattle.faithful_memory.specs.StepsSettle.{IsWrittenAndStamped, StepsSettle}
use Rattle.faithful_memory.proofs.AskedLemmas.{held-before, written-older}
use Rattle.faithful_memory.proofs.DataReads.{tree-all}
use Rattle.faithful_memory.proofs.StopLemmas.{log-unwritten, tree-unwritten}

-- ---- an access

settled-of : {L : Type 0} (T : Type 0) (at : ℕ) (reason : Stop) (old new : Sight L) → IsReady old → IsPlaced old.layout at → IsWrittenAndStamped new → IsStopped at reason old new
    → IsSettled {T = T} (Err reason)
settled-of T at (stop.Refused why) old new ready placed all stopped = tt
settled-of T at (stop.Tree event) old new ready placed all stopped = tree-unwritten at event old new stopped (tree-all (history new.trace) all.written)
settled-of T at (stop.Log event) old new ready placed all stopped = log-unwritten at event old new ready placed stopped all

refused-settled : {T : Type 0} (answer : Result T Stop) (why : Why) → answer ≡ Err (stop.Refused why) → IsSettled answer
refused-settled answer why is = subst (λ (a : Result _ Stop). IsSettled a) (sym is) tt

loads-settle : {L : Type 0} (refusal : Option Why) (in_block : List ℕ → ℕ) (in_word : ℕ → ℕ) (at : ℕ) (answer : Result ℕ Stop) (old new : Sight L) → IsReady old
    → (refusal ≡ None → IsPlaced old.layout at) → IsWrittenAndStamped new → Unless refusal answer old new (Loads in_block in_word at answer old new) → IsSettled answer
loads-settle (Some why) in_block in_word at answer old new ready placed all does = refused-settled answer why does.0
loads-settle None in_block in_word at (Ok word) old new ready placed all does = tt
loads-settle None in_block in_word at (Err reason) old new ready placed all does = settled-of ℕ at reason old new ready (placed refl) all does

-- a fetch pins nothing while it loads
unpinned : {L : Type 0} (sight : Sight L) → IsReady sight → IsReady (pinning [] sight)
unpinned sight ready = record { stands = ready.stands; parents = λ block inside some. absurd (omega (arith, inside.1)); few = lit≤ tt; told = ready.told }

fetches-settle : {L : Type 0} (refusal : Option Why) (at : ℕ) (answer : Result ℕ Stop) (old new : Sight L) → IsReady old → (refusal ≡ None → IsPlaced old.layout at) → IsWrittenAndStamped new
    → Unless refusal answer old new (FetchesWord at answer old new) → IsSettled answer
fetches-settle (Some why) at answer old new ready placed all does = refused-settled answer why does.0
fetches-settle None at answer old new ready placed all does =
    loads-settle None _ _ at answer (pinning [] old) (pinning [] new) (unpinned old ready) placed (record { written = all.written; last = all.last; fit = all.fit }) does.loads

stores-settle : {L : Type 0} (refusal : Option Why) (value : ℕ → ℕ) (left : List ℕ → List ℕ) (events : ℕ → List Event) (at : ℕ) (answer : Result (Unit {0}) Stop) (old new : Sight L) → IsReady old
    → (refusal ≡ None → IsPlaced old.layout at) → IsWrittenAndStamped new → Unless refusal answer old new (Stores value left events at answer old new) → IsSettled answer
stores-settle (Some why) value left events at answer old new ready placed all does = refused-settled answer why does.0
stores-settle None value left events at (Ok done) old new ready placed all does = tt
stores-settle None value left events at (Err reason) old new ready placed all does = settled-of (Unit {0}) at reason old new ready (placed refl) all does

-- ---- each access of a memory

pub record EachSettles {M : Type 0} (accesses : Accesses M) (Ready Holds : M → Type 0) : Type 0 where
  pub fetch : (old new : M) (at : ℕ) (answer : Result ℕ Stop) → Ready old → accesses.fetch old at answer new → Holds new → IsSettled answer
  pub ready : (old new : M) (at word : ℕ) → Ready old → accesses.fetch old at (Ok word) new → Ready new
  pub load_word : (old new : M) (at : ℕ) (answer : Result ℕ Stop) → Ready old → accesses.load_word old at answer new → Holds new → IsSettled answer
  pub load_byte : (old new : M) (at : ℕ) (answer : Result ℕ Stop) → Ready old → accesses.load_byte old at answer new → Holds new → IsSettled answer
  pub store_word : (old new : M) (at word : ℕ) (answer : Result (Unit {0}) Stop) → Ready old → accesses.store_word old at word answer new → Holds new → IsSettled answer
  pub store_byte : (old new : M) (at byte : ℕ) (answer : Result (Unit {0}) Stop) → Ready old → accesses.store_byte old at byte answer new → Holds new → IsSettled answer

end-settled : {T : Type 0} (answer : Result T Stop) (ended : StepEnd) → ended ≡ end_after answer → IsSettled answer → IsSettledEnd ended
end-settled (Ok value) ended is settled = subst IsSettledEnd (sym is) tt
end-settled (Err (stop.Refused why)) ended is settled = subst IsSettledEnd (sym is) tt
end-settled (Err (stop.Tree event)) ended is settled = absurd settled
end-settled (Err (stop.Log event)) ended is settled = absurd settled

secure-settled : (instruction : SecureInstruction) (core : Processor) → IsSettledEnd (secure_end instruction core)
secure-settled Enter core = tt
secure-settled Exit core = tt
secure-settled IndexTrap core = tt
secure-settled DivideTrap core = tt
secure-settled Suspend core = tt
secure-settled Resume core = tt
secure-settled PrivateOn core = tt
secure-settled PrivateOff core = tt
secure-settled Release core = tt
secure-settled Input core = tt
secure-settled Check core = tt

module _ {M : Type 0} (accesses : Accesses M) (Ready Holds : M → Type 0) (settles : EachSettles accesses Ready Holds) (before : HeldBefore accesses Holds) (new : Machine M) (ended : StepEnd)
    (holds : Holds new.memory) where
  -- what was not held up, and that it held before
  abbrev Settled : M → Type 0
  Settled memory = IsSettledEnd ended × Holds memory

  leaves : (old : Machine M) (end : StepEnd) (core : Processor) (port : Port) → IsSettledEnd end → Leaves end core port old ended new → Settled old.memory
  leaves old end core port settled left = (subst IsSettledEnd (sym left.ends) settled, subst Holds left.memory holds)

  effects : (old : Machine M) (asked : Effect) → Ready old.memory → Carries accesses asked old ended new → Settled old.memory
  effects old (effect.LoadWord d at) ready row =
      (end-settled row.answer ended row.ends (settles.load_word old.memory new.memory at row.answer ready row.loaded holds), before.load_word old.memory new.memory at row.answer row.loaded holds)
  effects old (effect.LoadByte d at) ready row =
      (end-settled row.answer ended row.ends (settles.load_byte old.memory new.memory at row.answer ready row.loaded holds), before.load_byte old.memory new.memory at row.answer row.loaded holds)
  effects old (effect.StoreWord at word) ready row = (
    end-settled row.answer ended row.ends (settles.store_word old.memory new.memory at word row.answer ready row.stored holds),
    before.store_word old.memory new.memory at word row.answer row.stored holds,
  )
  effects old (effect.StoreByte at byte) ready row = (
    end-settled row.answer ended row.ends (settles.store_byte old.memory new.memory at byte row.answer ready row.stored holds),
    before.store_byte old.memory new.memory at byte row.answer row.stored holds,
  )
  effects old effect.Proceed ready row = leaves old _ _ _ tt row
  effects old (effect.Write d value) ready row = leaves old _ _ _ tt row
  effects old (effect.Compare flag) ready row = leaves old _ _ _ tt row
  effects old (effect.Jump target) ready row = leaves old _ _ _ tt row
  effects old (effect.Link target) ready row = leaves old _ _ _ tt row
  effects old effect.DivideByZero ready row = leaves old _ _ _ tt row
  effects old (effect.Secure f) ready row = leaves old _ _ _ (secure-settled (secure_of f) old.core) row

  executes : (old : Machine M) (found : Option Instr) → Ready old.memory → Executes accesses found old ended new → Settled old.memory
  executes old None ready row = leaves old _ _ _ tt row
  executes old (Some instruction) ready row = effects old (effect_of instruction old.core) ready row

-- what it held before the rest of a step, by the answer of the fetch
rest-held : {M : Type 0} (accesses : Accesses M) (Ready Holds : M → Type 0) → EachSettles accesses Ready Holds → HeldBefore accesses Holds → (old new : Machine M) (middle : M) (ended : StepEnd)
    → (answer : Result ℕ Stop) → Ready old.memory → Holds new.memory → accesses.fetch old.memory old.core.pc answer middle
    → GoesOnAfter accesses answer (record old { memory = middle }) ended new → IsSettledEnd ended
rest-held accesses Ready Holds settles before old new middle ended (Ok word) ready holds fetched row =
    (executes accesses Ready Holds settles before new ended holds (record old { memory = middle }) (instruction_in word) (settles.ready old.memory middle old.core.pc word ready fetched) row).0
rest-held accesses Ready Holds settles before old new middle ended (Err reason) ready holds fetched row =
    end-settled {T = ℕ} (Err reason) ended row.ends (settles.fetch old.memory middle old.core.pc (Err reason) ready fetched (subst Holds row.memory holds))

pub steps-settle : {M : Type 0} (accesses : Accesses M) (Ready Holds : M → Type 0) → EachSettles accesses Ready Holds → HeldBefore accesses Holds → (old new : Machine M) (ended : StepEnd)
    → Ready old.memory → Steps accesses old ended new → Holds new.memory → IsSettledEnd ended
steps-settle accesses Ready Holds settles before old new ended ready step holds =
    rest-held accesses Ready Holds settles before old new step.middle ended step.answer ready holds step.fetched step.goes_on

-- ---- those of a secure memory

module _ {L M : Type 0} (seen : M → Sight L) (Keeps : M → M → Type 0) where
  still-ready : (refusal : Option Why) (at word : ℕ) (old new : Sight L) → IsReady old → Unless refusal (Ok word) old new (FetchesWord at (Ok word) old new) → IsReady new
  still-ready (Some why) at word old new ready does = subst (λ (s : Sight L). IsReady s) (sym does.1) ready
  still-ready None at word old new ready does = does.ready word refl

  pub each-settles : EachSettles (secure_accesses seen Keeps) (λ memory. IsReady (seen memory)) (λ memory. IsWrittenAndStamped (seen memory))
  each-settles = record {
    fetch = λ old new at answer ready does all.
        fetches-settle (word_refusal (seen old).layout (seen old).mode Fetch at) at answer (seen old) (seen new) ready
        (λ none. (word-parts (seen old).layout (seen old).mode Fetch at none).0) all does.0;
    ready = λ old new at word ready does. still-ready (word_refusal (seen old).layout (seen old).mode Fetch at) at word (seen old) (seen new) ready does.0;
    load_word = λ old new at answer ready does all.
        loads-settle (word_refusal (seen old).layout (seen old).mode Read at) _ _ at answer (seen old) (seen new) ready
        (λ none. (word-parts (seen old).layout (seen old).mode Read at none).0) all does.0;
    load_byte = λ old new at answer ready does all.
        loads-settle (byte_refusal (seen old).layout (seen old).mode Read at) _ _ at answer (seen old) (seen new) ready (byte-placed (seen old).layout (seen old).mode Read at) all does.0;
    store_word = λ old new at word answer ready does all.
        stores-settle (word_refusal (seen old).layout (seen old).mode Write at) _ _ _ at answer (seen old) (seen new) ready
        (λ none. (word-parts (seen old).layout (seen old).mode Write at none).0) all does.0;
    store_byte = λ old new at byte answer ready does all.
        stores-settle (byte_refusal (seen old).layout (seen old).mode Write at) _ _ _ at answer (seen old) (seen new) ready (byte-placed (seen old).layout (seen old).mode Write at) all does.0;
  }

-- it was so before each access after which it is
abbrev AreStamped : List Event → Type 0
AreStamped trace = AllAsWritten (history trace) × ((last : ℕ) × StampsFit last (history trace))

stamped-older : (before after : List Event) → ((events : List Event) × (after ≡ before ++ events)) → AreStamped after → AreStamped before
stamped-older before after grows all = (
  written-older before after grows all.0,
  (
    block_writes (in_order (history before)),
    record {
      each = Each-older StampFits (history before) grows.0 (subst (λ (h : History). Each StampFits h) (history-append after before grows.0 grows.1) all.1.1.each);
      count = refl;
    },
  ),
)

stamped-before : {L M : Type 0} (seen : M → Sight L) (Keeps : M → M → Type 0) → HeldBefore (secure_accesses seen Keeps) (λ memory. IsWrittenAndStamped (seen memory))
stamped-before {L} seen Keeps =
    let one = held-before seen Keeps AreStamped stamped-older in
    record {
      fetch = λ old new at answer does all. back (seen old) (one.fetch old new at answer does (to (seen new) all));
      load_word = λ old new at answer does all. back (seen old) (one.load_word old new at answer does (to (seen new) all));
      load_byte = λ old new at answer does all. back (seen old) (one.load_byte old new at answer does (to (seen new) all));
      store_word = λ old new at word answer does all. back (seen old) (one.store_word old new at word answer does (to (seen new) all));
      store_byte = λ old new at byte answer does all. back (seen old) (one.store_byte old new at byte answer does (to (seen new) all));
    }
  where
    to : (sight : Sight L) → IsWrittenAndStamped sight → AreStamped sight.trace
    to sight all = (all.written, (all.last, all.fit))

    back : (sight : Sight L) → AreStamped sight.trace → IsWrittenAndStamped sight
    back sight all = record { written = all.0; last = all.1.0; fit = all.1.1 }

pub secure-steps_settle : {L M : Type 0} (seen : M → Sight L) (Keeps : M → M → Type 0) (old new : Machine M) (ended : StepEnd) → IsReady (seen old.memory)
    → Steps (secure_accesses seen Keeps) old ended new → IsWrittenAndStamped (seen new.memory) → IsSettledEnd ended
secure-steps_settle seen Keeps =
    steps-settle (secure_accesses seen Keeps) (λ memory. IsReady (seen memory)) (λ memory. IsWrittenAndStamped (seen memory)) (each-settles seen Keeps) (stamped-before seen Keeps)

pub settle-law : (L : Type 0) → StepsSettle L
settle-law L = secure-steps_settle (λ (sight : Sight L). sight) (λ old new. Unit {0})
