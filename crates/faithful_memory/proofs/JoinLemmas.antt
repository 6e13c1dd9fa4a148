-- Reads that give contents, one after another, and what they leave of a memory.
use Rattle.std.proofs.Common.{◌≡◌, ℕ, List, ◌++◌, sym, ap, ◌∙◌, subst, append_assoc}
use Rattle.std.proofs.lemmas.List.{append_cancel_left}
use Rattle.regions.specs.declared.layout.Layout.{Layout}
use Rattle.off_chip.specs.declared.event.Event.{Event}
use Rattle.secure_memory.specs.MemorySights.{HasContents, Sight, veil_of}
use Rattle.secure_memory.specs.PrivatePads.{Padding, hidden_payload}
use Rattle.bus_machine.specs.BusMachine.{Veil, blocks_taken}
use Rattle.faithful_memory.specs.KnownWords.{AllGiveDataWords, AllGiveWords, HasDataContents}
use Rattle.faithful_memory.specs.ReadContents.{ReadsContents, ReadsDataContents, ReadsJoin}
use Rattle.faithful_memory.proofs.WordsKept.{all-stay, contents-data_words, contents-words, data-stay, each-given, each-given_data, given-append, given-each, given_data-append, given_data-each}

all-both : (layout : Layout) (veil : Veil) (memory : ℕ → ℕ) (events more : List Event) → AllGiveWords layout veil memory events → AllGiveWords layout veil memory more
    → AllGiveWords layout veil memory (events ++ more)
all-both layout veil memory events more one other =
    given-each layout veil memory (events ++ more) (given-append layout veil memory events more (each-given layout veil memory events one) (each-given layout veil memory more other))

data-both : (layout : Layout) (veil : Veil) (memory : ℕ → ℕ) (events more : List Event) → AllGiveDataWords layout veil memory events → AllGiveDataWords layout veil memory more
    → AllGiveDataWords layout veil memory (events ++ more)
data-both layout veil memory events more one other =
    given_data-each layout veil memory (events ++ more)
    (given_data-append layout veil memory events more (each-given_data layout veil memory events one) (each-given_data layout veil memory more other))

module _ {L : Type 0} (old middle new : Sight L) (memory after : ℕ → ℕ) (layout : middle.layout ≡ old.layout) (veil : middle.tree.veil ≡ old.tree.veil) where
  appended : (events more : List Event) → middle.trace ≡ old.trace ++ events → new.trace ≡ middle.trace ++ more → new.trace ≡ old.trace ++ (events ++ more)
  appended events more one other = other ∙ ap (λ (t : List Event). t ++ more) one ∙ append_assoc old.trace events more

  joined : ReadsContents old middle memory memory → ReadsContents middle new memory after → ReadsContents old new memory after
  joined one other =
      let there : AllGiveWords old.layout (veil_of old) memory other.events =
      subst (λ (l : Layout). AllGiveWords l (veil_of old) memory other.events) layout
      (subst (λ (v : Padding). AllGiveWords middle.layout (hidden_payload v) memory other.events) veil other.reads) in
      record {
        events = one.events ++ other.events;
        appended = appended one.events other.events one.appended other.appended;
        reads = all-both old.layout (veil_of old) memory one.events other.events one.reads there;
        contents = other.contents;
      }

  joined-data : ReadsDataContents old middle memory memory → ReadsDataContents middle new memory after → ReadsDataContents old new memory after
  joined-data one other =
      let there : AllGiveDataWords old.layout (veil_of old) memory other.events =
      subst (λ (l : Layout). AllGiveDataWords l (veil_of old) memory other.events) layout
      (subst (λ (v : Padding). AllGiveDataWords middle.layout (hidden_payload v) memory other.events) veil other.reads) in
      record {
        events = one.events ++ other.events;
        appended = appended one.events other.events one.appended other.appended;
        reads = data-both old.layout (veil_of old) memory one.events other.events one.reads there;
        contents = other.contents;
      }

taken : {L : Type 0} (old new : Sight L) (memory : ℕ → ℕ) (events : List Event) → new.trace ≡ old.trace ++ events → ReadsContents old new memory memory
    → HasContents new (blocks_taken old.layout (veil_of old) events memory)
taken old new memory events appended reads =
    let same : reads.events ≡ events = append_cancel_left old.trace reads.events events (sym reads.appended ∙ appended) in
    let gives : AllGiveWords old.layout (veil_of old) memory events = subst (λ (es : List Event). AllGiveWords old.layout (veil_of old) memory es) same reads.reads in
    contents-words new memory (blocks_taken old.layout (veil_of old) events memory) (all-stay old.layout (veil_of old) memory events gives) reads.contents

taken-data : {L : Type 0} (old new : Sight L) (memory : ℕ → ℕ) (events : List Event) → new.trace ≡ old.trace ++ events → ReadsDataContents old new memory memory
    → HasDataContents new (blocks_taken old.layout (veil_of old) events memory)
taken-data old new memory events appended reads =
    let same : reads.events ≡ events = append_cancel_left old.trace reads.events events (sym reads.appended ∙ appended) in
    let gives : AllGiveDataWords old.layout (veil_of old) memory events = subst (λ (es : List Event). AllGiveDataWords old.layout (veil_of old) memory es) same reads.reads in
    contents-data_words new memory (blocks_taken old.layout (veil_of old) events memory) (data-stay old.layout (veil_of old) memory events gives) reads.contents

pub join-law : (L : Type 0) → ReadsJoin L
join-law L = record { both = joined; taken = taken; both_data = joined-data; taken_data = taken-data }
