-- The contents of a secure memory are kept, and can be asked for, where reads are as they were written.
use Rattle.std.proofs.Common.{◌≡◌, ℕ, ◌<◌, ◌≤◌, Option, Some, None, Result, Ok, Err, List, [], ◌++◌, sym, ap, ◌∙◌, subst}
use Rattle.std.proofs.lemmas.List.{append-nil, append_cancel_left}
use Rattle.regions.specs.declared.addresses.TheConstants.{OPEN_END}
use Rattle.regions.specs.declared.rights.Mode.{Mode}
use Rattle.off_chip.specs.declared.event.Event.{Event}
use Rattle.off_chip.specs.Histories.{History, Each, history}
use Rattle.off_chip.proofs.HistoryLemmas.{Each-older, history-append}
use Rattle.hash_tree.specs.AsWritten.{AllAsWritten, is_as_written}
use Rattle.std.specs.Prelude.{IsTrue}
use Rattle.orbis_core.specs.declared.memory.Stop.{Stop}
use Rattle.orbis_core.specs.declared.memory.Why.{Why}
use Rattle.secure_memory.specs.MemoryAccesses.{FetchesWord, Loads, LoadsBlock, LoadsOpen, Stores, StoresBlock, StoresOpen, Unless, pinning, secure_accesses}
use Rattle.secure_memory.specs.MemorySights.{HasContents, Sight, veil_of}
use Rattle.secure_memory.proofs.IdealLemmas.{either}
use Rattle.bus_machine.specs.BusAccesses.{MeetsBus, Sight as BusSight}
use Rattle.bus_machine.specs.BusMachine.{blocks_taken}
use Rattle.faithful_memory.specs.AskedOnBus.{ContentsAreAsked, DataContentsAreAsked, EachKeepsAsked, HeldBefore, KeepsAsked, ReadsAreWritten, StepsHold, TreeReadsAreWritten, accesses_of, after_which, asking, leaving_tree}
use Rattle.faithful_memory.specs.KnownWords.{AllGiveDataWords, AllGiveWords, HasDataContents, TreeAsWritten}
use Rattle.faithful_memory.specs.ReadContents.{ReadsContents, ReadsDataContents}
use Rattle.faithful_memory.proofs.AccessReads.{access-law}
use Rattle.faithful_memory.proofs.DataAccesses.{data-law}
use Rattle.faithful_memory.proofs.DataReads.{tree-older}
use Rattle.faithful_memory.proofs.AskingLemmas.{after-meets, asking-meets, leaving-meets}
use Rattle.faithful_memory.proofs.HoldLemmas.{steps-hold}
use Rattle.faithful_memory.proofs.WordsKept.{all-stay, contents-data_words, contents-words, data-stay}

-- ---- each access adds to the trace

abbrev Grows : List Event → List Event → Type 0
Grows old new = (events : List Event) × (new ≡ old ++ events)

same-grows : {L : Type 0} (old new : Sight L) → new ≡ old → Grows old.trace new.trace
same-grows old new same = ([], ap (λ (s : Sight _). s.trace) same ∙ sym (append-nil old.trace))

loads-grow : {L : Type 0} (in_block : List ℕ → ℕ) (in_word : ℕ → ℕ) (at : ℕ) (answer : Result ℕ Stop) (old new : Sight L) → Loads in_block in_word at answer old new → Grows old.trace new.trace
loads-grow in_block in_word at (Err reason) old new does = (does.events, does.appended)
loads-grow in_block in_word at (Ok word) old new does =
    either (LoadsOpen in_word at word old new) (LoadsBlock in_block at word old new) (Grows old.trace new.trace) at
    (λ (below : at < OPEN_END) (loads : LoadsOpen in_word at word old new). (_, loads.acts.appended))
    (λ (above : OPEN_END ≤ at) (loads : LoadsBlock in_block at word old new). (loads.reaches.events, loads.reaches.acts.appended)) does

unless-loads : {L : Type 0} (refusal : Option Why) (in_block : List ℕ → ℕ) (in_word : ℕ → ℕ) (at : ℕ) (answer : Result ℕ Stop) (old new : Sight L)
    → Unless refusal answer old new (Loads in_block in_word at answer old new) → Grows old.trace new.trace
unless-loads (Some why) in_block in_word at answer old new does = same-grows old new does.1
unless-loads None in_block in_word at answer old new does = loads-grow in_block in_word at answer old new does

unless-fetches : {L : Type 0} (refusal : Option Why) (at : ℕ) (answer : Result ℕ Stop) (old new : Sight L) → Unless refusal answer old new (FetchesWord at answer old new)
    → Grows old.trace new.trace
unless-fetches (Some why) at answer old new does = same-grows old new does.1
unless-fetches None at answer old new does = loads-grow _ _ at answer (pinning [] old) (pinning [] new) does.loads

unless-stores : {L : Type 0} (refusal : Option Why) (value : ℕ → ℕ) (left : List ℕ → List ℕ) (events : ℕ → List Event) (at : ℕ) (answer : Result (Unit {0}) Stop) (old new : Sight L)
    → Unless refusal answer old new (Stores value left events at answer old new) → Grows old.trace new.trace
unless-stores (Some why) value left events at answer old new does = same-grows old new does.1
unless-stores None value left events at (Err reason) old new does = (does.events, does.appended)
unless-stores None value left events at (Ok done) old new does =
    either (StoresOpen events old new) (StoresBlock value left at old new) (Grows old.trace new.trace) at
    (λ (below : at < OPEN_END) (stores : StoresOpen events old new). (events stores.read, stores.acts.appended))
    (λ (above : OPEN_END ≤ at) (stores : StoresBlock value left at old new). (stores.reaches.events, stores.acts.appended)) does

-- what holds of a trace held of each earlier one
module _ {L M : Type 0} (seen : M → Sight L) (Keeps : M → M → Type 0) (Holds : List Event → Type 0) (older : (before after : List Event) → Grows before after → Holds after → Holds before) where
  pub held-before : HeldBefore (secure_accesses seen Keeps) (λ memory. Holds (seen memory).trace)
  held-before = record {
    fetch = λ old new at answer does. older (seen old).trace (seen new).trace (unless-fetches _ at answer (seen old) (seen new) does.0);
    load_word = λ old new at answer does. older (seen old).trace (seen new).trace (unless-loads _ _ _ at answer (seen old) (seen new) does.0);
    load_byte = λ old new at answer does. older (seen old).trace (seen new).trace (unless-loads _ _ _ at answer (seen old) (seen new) does.0);
    store_word = λ old new at word answer does. older (seen old).trace (seen new).trace (unless-stores _ _ _ _ at answer (seen old) (seen new) does.0);
    store_byte = λ old new at byte answer does. older (seen old).trace (seen new).trace (unless-stores _ _ _ _ at answer (seen old) (seen new) does.0);
  }

pub written-older : (before after : List Event) → Grows before after → AllAsWritten (history after) → AllAsWritten (history before)
written-older before after grows all = record {
  each = Each-older (λ event older. IsTrue (is_as_written event older)) (history before) grows.0
      (subst (λ (h : History). Each (λ event older. IsTrue (is_as_written event older)) h) (history-append after before grows.0 grows.1) all.each);
}

tree-written-older : (before after : List Event) → Grows before after → TreeAsWritten (history after) → TreeAsWritten (history before)
tree-written-older before after grows all = tree-older before after grows.0 grows.1 all

-- ---- all contents

module _ {L M : Type 0} (seen : M → Sight L) where
  kept-by : (change : (ℕ → ℕ) → ℕ → ℕ) (old new : M) → ((memory : ℕ → ℕ) → HasContents (seen old) memory → ReadsContents (seen old) (seen new) memory (change memory))
      → KeepsAsked (λ memory. (seen memory).layout) (λ memory. veil_of (seen memory)) (λ memory. (seen memory).trace) (λ memory words. HasContents (seen memory) words) change old new
  kept-by change old new reads = record {
    unheld = λ events memory appended has.
        let one = reads memory has in
        let same : one.events ≡ events = append_cancel_left (seen old).trace one.events events (sym one.appended ∙ appended) in
        let gives : AllGiveWords (seen old).layout (veil_of (seen old)) memory events =
        subst (λ (es : List Event). AllGiveWords (seen old).layout (veil_of (seen old)) memory es) same one.reads in
        contents-words (seen old) memory (blocks_taken (seen old).layout (veil_of (seen old)) events memory) (all-stay (seen old).layout (veil_of (seen old)) memory events gives) has;
    changed = λ memory has. (reads memory has).contents;
  }

  -- the accesses of a secure memory, after which each block that was read is as it was written
  pub contents-kept : (Keeps : M → M → Type 0)
      → EachKeepsAsked (λ memory. (seen memory).layout) (λ memory. veil_of (seen memory)) (λ memory. (seen memory).trace)
      (after_which (λ memory. ReadsAreWritten (seen memory)) (secure_accesses seen Keeps)) (λ memory words. HasContents (seen memory) words)
  contents-kept Keeps = record {
    fetch = λ old new at answer settled does.
        kept-by (λ memory. memory) old new (λ memory has. (access-law L).fetch at answer (seen old) (seen new) memory settled does.1 has does.0.0);
    load_word = λ old new at answer settled does.
        kept-by (λ memory. memory) old new (λ memory has. (access-law L).load_word at answer (seen old) (seen new) memory settled does.1 has does.0.0);
    load_byte = λ old new at answer settled does.
        kept-by (λ memory. memory) old new (λ memory has. (access-law L).load_byte at answer (seen old) (seen new) memory settled does.1 has does.0.0);
    store_word = λ old new at word answer settled does.
        kept-by _ old new (λ memory has. (access-law L).store_word at word answer (seen old) (seen new) memory settled does.1 has does.0.0);
    store_byte = λ old new at byte answer settled does.
        kept-by _ old new (λ memory has. (access-law L).store_byte at byte answer (seen old) (seen new) memory settled does.1 has does.0.0);
  }

  -- ---- those of the data blocks

  data-kept-by : (change : (ℕ → ℕ) → ℕ → ℕ) (old new : M) → ((memory : ℕ → ℕ) → HasDataContents (seen old) memory → ReadsDataContents (seen old) (seen new) memory (change memory))
      → KeepsAsked (λ memory. (seen memory).layout) (λ memory. veil_of (seen memory)) (λ memory. (seen memory).trace) (λ memory words. HasDataContents (seen memory) words) change old new
  data-kept-by change old new reads = record {
    unheld = λ events memory appended has.
        let one = reads memory has in
        let same : one.events ≡ events = append_cancel_left (seen old).trace one.events events (sym one.appended ∙ appended) in
        let gives : AllGiveDataWords (seen old).layout (veil_of (seen old)) memory events =
        subst (λ (es : List Event). AllGiveDataWords (seen old).layout (veil_of (seen old)) memory es) same one.reads in
        contents-data_words (seen old) memory (blocks_taken (seen old).layout (veil_of (seen old)) events memory)
        (data-stay (seen old).layout (veil_of (seen old)) memory events gives) has;
    changed = λ memory has. (reads memory has).contents;
  }

  pub data-contents_kept : (Keeps : M → M → Type 0)
      → EachKeepsAsked (λ memory. (seen memory).layout) (λ memory. veil_of (seen memory)) (λ memory. (seen memory).trace)
      (after_which (λ memory. TreeReadsAreWritten (seen memory)) (leaving_tree seen (secure_accesses seen Keeps))) (λ memory words. HasDataContents (seen memory) words)
  data-contents_kept Keeps = record {
    fetch = λ old new at answer settled does.
        data-kept-by (λ memory. memory) old new (λ memory has. (data-law L).fetch at answer (seen old) (seen new) memory settled does.0.1 does.1 has does.0.0.0);
    load_word = λ old new at answer settled does.
        data-kept-by (λ memory. memory) old new (λ memory has. (data-law L).load_word at answer (seen old) (seen new) memory settled does.0.1 does.1 has does.0.0.0);
    load_byte = λ old new at answer settled does.
        data-kept-by (λ memory. memory) old new (λ memory has. (data-law L).load_byte at answer (seen old) (seen new) memory settled does.0.1 does.1 has does.0.0.0);
    store_word = λ old new at word answer settled does.
        data-kept-by _ old new (λ memory has. (data-law L).store_word at word answer (seen old) (seen new) memory settled does.0.1 does.1 has does.0.0.0);
    store_byte = λ old new at byte answer settled does.
        data-kept-by _ old new (λ memory has. (data-law L).store_byte at byte answer (seen old) (seen new) memory settled does.0.1 does.1 has does.0.0.0);
  }

  -- where each access leaves the tree as it is at an open address, what held before an access holds before it still
  pub leaving-before : (Keeps : M → M → Type 0) (Holds : M → Type 0) → HeldBefore (secure_accesses seen Keeps) Holds → HeldBefore (leaving_tree seen (secure_accesses seen Keeps)) Holds
  leaving-before Keeps Holds before = record {
    fetch = λ old new at answer does. before.fetch old new at answer does.0;
    load_word = λ old new at answer does. before.load_word old new at answer does.0;
    load_byte = λ old new at answer does. before.load_byte old new at answer does.0;
    store_word = λ old new at word answer does. before.store_word old new at word answer does.0;
    store_byte = λ old new at byte answer does. before.store_byte old new at byte answer does.0;
  }

pub written-before : {L M : Type 0} (seen : M → Sight L) (Keeps : M → M → Type 0) → HeldBefore (secure_accesses seen Keeps) (λ memory. ReadsAreWritten (seen memory))
written-before seen Keeps = held-before seen Keeps (λ trace. AllAsWritten (history trace)) written-older

pub tree-written-before : {L M : Type 0} (seen : M → Sight L) (Keeps : M → M → Type 0)
    → HeldBefore (leaving_tree seen (secure_accesses seen Keeps)) (λ memory. TreeReadsAreWritten (seen memory))
tree-written-before seen Keeps =
    leaving-before seen Keeps (λ memory. TreeReadsAreWritten (seen memory)) (held-before seen Keeps (λ trace. TreeAsWritten (history trace)) tree-written-older)

-- ---- in the form of a bus

module _ {L M : Type 0} (seen : M → Sight L) (mode : M → Mode) (Agrees : M → (ℕ → ℕ) → Type 0) (Keeps : M → M → Type 0) where
  -- a secure memory as it is seen on a bus
  abbrev pub seen_on_bus : BusSight M
  seen_on_bus = record {
    layout = λ memory. (seen memory).layout;
    veil = λ memory. veil_of (seen memory);
    mode = mode;
    trace = λ memory. (seen memory).trace;
    Agrees = Agrees;
  }

  -- where its accesses keep to the form of a bus, they keep to it with the contents asked for
  pub contents-meet : MeetsBus seen_on_bus (secure_accesses seen Keeps)
      → MeetsBus (asking (λ memory words. HasContents (seen memory) words) seen_on_bus) (after_which (λ memory. ReadsAreWritten (seen memory)) (secure_accesses seen Keeps))
  contents-meet meets =
      asking-meets seen_on_bus (after_which (λ memory. ReadsAreWritten (seen memory)) (secure_accesses seen Keeps)) (λ memory words. HasContents (seen memory) words)
      (after-meets seen_on_bus (secure_accesses seen Keeps) (λ memory. ReadsAreWritten (seen memory)) meets) (contents-kept seen Keeps)

  pub data-contents_meet : MeetsBus seen_on_bus (secure_accesses seen Keeps)
      → MeetsBus (asking (λ memory words. HasDataContents (seen memory) words) seen_on_bus)
      (after_which (λ memory. TreeReadsAreWritten (seen memory)) (leaving_tree seen (secure_accesses seen Keeps)))
  data-contents_meet meets =
      asking-meets seen_on_bus (after_which (λ memory. TreeReadsAreWritten (seen memory)) (leaving_tree seen (secure_accesses seen Keeps))) (λ memory words. HasDataContents (seen memory) words)
      (after-meets seen_on_bus (leaving_tree seen (secure_accesses seen Keeps)) (λ memory. TreeReadsAreWritten (seen memory))
      (leaving-meets seen seen_on_bus (secure_accesses seen Keeps) meets)) (data-contents_kept seen Keeps)

-- and a step after which each block that was read is as it was written is made by accesses after which it is so
pub written-steps : {L M : Type 0} (seen : M → Sight L) (Keeps : M → M → Type 0) → StepsHold (secure_accesses seen Keeps) (λ memory. ReadsAreWritten (seen memory))
written-steps seen Keeps = steps-hold (secure_accesses seen Keeps) (λ memory. ReadsAreWritten (seen memory)) (written-before seen Keeps)

-- ---- the laws

pub contents-asked : (L : Type 0) → ContentsAreAsked L
contents-asked L = record {
  kept = contents-kept (λ (sight : Sight L). sight) (λ old new. Unit {0});
  steps = steps-hold (accesses_of L) ReadsAreWritten (written-before (λ (sight : Sight L). sight) (λ old new. Unit {0}));
}

pub data-asked : (L : Type 0) → DataContentsAreAsked L
data-asked L = record {
  kept = data-contents_kept (λ (sight : Sight L). sight) (λ old new. Unit {0});
  steps = steps-hold (leaving_tree (λ sight. sight) (accesses_of L)) TreeReadsAreWritten (tree-written-before (λ (sight : Sight L). sight) (λ old new. Unit {0}));
}
