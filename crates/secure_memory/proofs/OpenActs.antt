-- What an access to an open word does to a secure memory.
use Rattle.std.proofs.Common.{◌≡◌, ℕ, ◌+◌, ◌*◌, ◌<◌, ◌≤◌, Bool, true, false, Option, Some, List, [], ◌∷◌, ◌++◌, refl, sym, ap, ◌∙◌, subst, append_assoc, arith}
use Rattle.std.specs.Prelude.{IsTrue, nat_lt}
use Rattle.std.proofs.lemmas.Bool.Decides.{nat_tests}
use Rattle.aegis_num.specs.declared.storage.Place.{Place}
use Rattle.aegis_num.specs.declared.storage.Place.TheVariants.{Log, Tree}
use Rattle.regions.specs.declared.addresses.TheConstants.{OPEN_END}
use Rattle.regions.specs.declared.layout.Layout.{Layout}
use Rattle.off_chip.specs.BusCalls.{TellsOnly}
use Rattle.off_chip.specs.declared.event.Event.{Event}
use Rattle.off_chip.specs.declared.event.Event.TheVariants.{WordRead, WordWrite}
use Rattle.off_chip.specs.declared.event.Who.TheVariants.{Secure}
use Rattle.off_chip.specs.Histories.{History, history}
use Rattle.off_chip.proofs.HistoryLemmas.{history-appended}
use Rattle.hash_tree.specs.HashTrees.{scheme_of, state_of}
use Rattle.hash_tree.specs.Standing.{Stands}
use Rattle.hash_tree.proofs.LawProofs.{elsewhere-law}
use Rattle.stamp_log.specs.StandsOn.{contents_in}
use Rattle.stamp_log.proofs.LawProofs.{foreign-law}
use Rattle.secure_memory.specs.BlockWords.{after_reads, is_memory_block, place_at, start_at}
use Rattle.secure_memory.specs.MemorySights.{Agrees, IsReady, Sight, contents_of_place, line_in, veil_of}
use Rattle.secure_memory.specs.MemoryAccesses.{Acts, LoadsOpen, OpenOrBlock, Reaches, StoresOpen}
use Rattle.orbis_core.specs.ByteOrder.{with_byte, word_start}
use Rattle.secure_memory.specs.OutsideEvents.{is_outside}
use Rattle.secure_memory.proofs.OutsideProofs.{outside-elsewhere, outside-foreign, outside-law}
use Rattle.secure_memory.proofs.TreeActs.{contents-same, same-leaf}

-- a memory with a longer trace
abbrev pub with_trace : {L : Type 0} → Sight L → List Event → ℕ → Option Layout → Sight L
with_trace old trace room told = record old { trace = trace; room = room; told = told }

-- it is ready, with the same contents
pub record Stays {L : Type 0} (old new : Sight L) : Type 0 where
  pub ready : IsReady new
  pub contents : (place : Place) → IsTrue (is_memory_block old.layout place) → contents_of_place new place ≡ contents_of_place old place

pub open-stays : {L : Type 0} (event : Event) (old : Sight L) (trace : List Event) (room : ℕ) (told : Option Layout) → is_outside event ≡ true → trace ≡ old.trace ++ event ∷ []
    → told ≡ old.told → IsReady old → Stays old (with_trace old trace room told)
open-stays {L} event old trace room told outside appended tells ready = record {
  ready = record {
    stands = outside-law L old.layout old.tree old.lines old.log old.stamps event old.trace trace outside appended ready.stands;
    parents = ready.parents;
    few = ready.few;
    told = subst (λ (t : Option Layout). TellsOnly old.layout t) (sym tells) ready.told;
  };
  contents = same;
}
  where
    same : (place : Place) → IsTrue (is_memory_block old.layout place) → contents_of_place (with_trace old trace room told) place ≡ contents_of_place old place
    same (Tree n) is =
        same-leaf old.layout (veil_of old) (state_of old.lines old.tree.root old.trace) (state_of old.lines old.tree.root trace) n is
        (elsewhere-law (scheme_of old.layout (veil_of old)) event old.lines old.tree.root old.trace trace
        (subst (λ (l : Layout). Stands (scheme_of l (veil_of old)) (state_of old.lines old.tree.root old.trace)) ready.stands.parts.of_tree ready.stands.tree_stands)
        (outside-elsewhere event outside) appended).1
    same (Log n) is =
        ap (λ (h : History). contents_in old.log.lines h n) (history-appended old.trace trace event appended)
        ∙ (foreign-law old.log event (history old.trace) (outside-foreign event outside) ready.stands.log_stands).1.each n

pub stays-acts : {L : Type 0} (events : List Event) (old : Sight L) (trace : List Event) (room : ℕ) (told : Option Layout) → trace ≡ old.trace ++ events
    → ((memory : ℕ → ℕ) → after_reads old.layout (veil_of old) events memory ≡ memory) → told ≡ old.told → old.room ≤ room + 160
    → Stays old (with_trace old trace room told) → Acts (λ memory. memory) events old (with_trace old trace room told)
stays-acts events old trace room told appended unread tells few stays = record {
  appended = appended;
  parts = record { layout = refl; mode = refl; veil = refl; pinned = refl; key = refl; told = tells };
  ready = stays.ready;
  room = few;
  agrees = λ memory agrees. subst (λ (m : ℕ → ℕ). Agrees (with_trace old trace room told) m) (sym (unread memory)) (record { line = agrees.line });
  unread = λ memory place k is held less. ap (λ (m : ℕ → ℕ). m (start_at old.layout place + 4 * k)) (unread memory);
  contents = λ all memory has. record { block = contents-same old (with_trace old trace room told) memory refl stays.contents has };
}

-- one event
pub open-acts : {L : Type 0} (event : Event) (old : Sight L) (trace : List Event) (room : ℕ) (told : Option Layout) → is_outside event ≡ true → trace ≡ old.trace ++ event ∷ []
    → ((memory : ℕ → ℕ) → after_reads old.layout (veil_of old) (event ∷ []) memory ≡ memory) → told ≡ old.told → room + 1 ≡ old.room → IsReady old
    → Acts (λ memory. memory) (event ∷ []) old (with_trace old trace room told)
open-acts event old trace room told outside appended unread tells less ready =
    stays-acts (event ∷ []) old trace room told appended unread tells (omega (arith, less)) (open-stays event old trace room told outside appended tells ready)

-- two events
pub open-both : {L : Type 0} (first second : Event) (old : Sight L) (between trace : List Event) (less room : ℕ) (told_between told : Option Layout)
    → is_outside first ≡ true → is_outside second ≡ true → between ≡ old.trace ++ first ∷ [] → trace ≡ between ++ second ∷ []
    → ((memory : ℕ → ℕ) → after_reads old.layout (veil_of old) (first ∷ second ∷ []) memory ≡ memory) → told_between ≡ old.told → told ≡ told_between
    → less + 1 ≡ old.room → room + 1 ≡ less → IsReady old → Acts (λ memory. memory) (first ∷ second ∷ []) old (with_trace old trace room told)
open-both first second old between trace less room told_between told outside_first outside_second one two unread tells_one tells_two less_one less_two ready =
    let a = open-stays first old between less told_between outside_first one tells_one ready in
    let b = open-stays second (with_trace old between less told_between) trace room told outside_second two tells_two a.ready in
    stays-acts (first ∷ second ∷ []) old trace room told
    (two ∙ ap (λ (t : List Event). t ++ second ∷ []) one ∙ append_assoc old.trace (first ∷ []) (second ∷ [])) unread (tells_two ∙ tells_one) (omega (arith, less_one, less_two))
    (record { ready = b.ready; contents = λ place is. b.contents place is ∙ a.contents place is })

-- ---- which of the two

pub of-open : (P Q : Type 0) (at : ℕ) → at < OPEN_END → P → OpenOrBlock (nat_lt at OPEN_END) P Q
of-open P Q at below p = let test : nat_lt at OPEN_END ≡ true = grind (arith, nat_tests, below) in subst (λ (b : Bool). OpenOrBlock b P Q) (sym test) p

pub of-block : (P Q : Type 0) (at : ℕ) → OPEN_END ≤ at → Q → OpenOrBlock (nat_lt at OPEN_END) P Q
of-block P Q at above q = let test : nat_lt at OPEN_END ≡ false = grind (arith, nat_tests, above) in subst (λ (b : Bool). OpenOrBlock b P Q) (sym test) q

-- the payload of a line is one
pub same-payload : {L : Type 0} (at : ℕ) (old new : Sight L) (payload : List ℕ) → (reaches : Reaches at old new) → line_in new (place_at new.layout at) ≡ Some payload → payload ≡ reaches.payload
same-payload at old new payload reaches line =
    let here : line_in new (place_at old.layout at) ≡ Some payload = subst (λ (l : Layout). line_in new (place_at l at) ≡ Some payload) reaches.acts.parts.layout line in
    let e : Some payload ≡ Some reaches.payload = sym here ∙ reaches.line in cc

-- a load from an open word
pub loads-open : {L : Type 0} (value : ℕ → ℕ) (at start read word : ℕ) (old : Sight L) (trace : List Event) (room : ℕ) (told : Option Layout) → word_start at ≡ start
    → trace ≡ old.trace ++ WordRead Secure start read ∷ [] → told ≡ old.told → room + 1 ≡ old.room → IsReady old → word ≡ value read
    → LoadsOpen value at word old (with_trace old trace room told)
loads-open value at start read word old trace room told same appended tells less ready answer = record {
  read = read;
  acts = subst (λ n. Acts (λ memory. memory) (WordRead Secure n read ∷ []) old (with_trace old trace room told)) (sym same)
      (open-acts (WordRead Secure start read) old trace room told refl appended (λ memory. refl) tells less ready);
  answer = answer;
}

-- a store of a byte to one
pub stores-open : {L : Type 0} (at read put byte : ℕ) (old : Sight L) (between trace : List Event) (less room : ℕ) (told_between told : Option Layout)
    → between ≡ old.trace ++ WordRead Secure (word_start at) read ∷ [] → trace ≡ between ++ WordWrite Secure (word_start at) put ∷ [] → put ≡ with_byte read at byte
    → told_between ≡ old.told → told ≡ told_between → less + 1 ≡ old.room → room + 1 ≡ less → IsReady old
    → StoresOpen (λ (word : ℕ). WordRead Secure (word_start at) word ∷ WordWrite Secure (word_start at) (with_byte word at byte) ∷ []) old (with_trace old trace room told)
stores-open at read put byte old between trace less room told_between told one two is tells_one tells_two less_one less_two ready = record {
  read = read;
  acts = subst (λ n. Acts (λ memory. memory) (WordRead Secure (word_start at) read ∷ WordWrite Secure (word_start at) n ∷ []) old (with_trace old trace room told)) is
      (open-both (WordRead Secure (word_start at) read) (WordWrite Secure (word_start at) put) old between trace less room told_between told refl refl one two (λ memory. refl) tells_one
      tells_two less_one less_two ready);
}
