-- Accesses that keep to the form of a bus keep to it in a sight that asks for more.
use Rattle.std.proofs.Common.{◌≡◌, ℕ, Bool, true, false, Option, Some, None, Result, Ok, Err, List, [], ◌∷◌, refl, sym, subst}
use Rattle.std.specs.Prelude.{if◌then◌else◌}
use Rattle.regions.specs.declared.Access.TheVariants.{Fetch, Read, Write}
use Rattle.regions.specs.LooseClasses.{shared_loose}
use Rattle.off_chip.specs.declared.event.Event.{Event}
use Rattle.off_chip.specs.declared.event.Event.TheVariants.{WordRead, WordWrite}
use Rattle.off_chip.specs.declared.event.Who.TheVariants.{Secure}
use Rattle.orbis_core.specs.declared.Stop.{Stop}
use Rattle.orbis_core.specs.declared.Stop.TheVariants as stop
use Rattle.orbis_core.specs.declared.Why.{Why}
use Rattle.orbis_core.specs.Accesses.{Accesses, IsSettled}
use Rattle.orbis_core.specs.ByteOrder.{byte_in, updated, with_byte, word_start}
use Rattle.orbis_core.specs.Ideal.{is_among}
use Rattle.orbis_core.specs.Refusals.{byte_refusal, word_refusal}
use Rattle.secure_memory.specs.MemorySights.{Sight as SecureSight}
use Rattle.bus_machine.specs.BusAccesses.{ByClass, Exchanges, Fails, Makes, MeetsBus, Moves, PutsInBlock, ReadsBlock, ReadsOpen, Sight, UnlessRefused}
use Rattle.bus_machine.specs.BusMachine.{blocks_taken}
use Rattle.faithful_memory.specs.AskedOnBus.{EachKeepsAsked, KeepsAsked, after_which, asking, leaving_tree}
use Rattle.faithful_memory.specs.ReadContents.{stored}

module _ {M : Type 0} (sight : Sight M) (Asked : M → (ℕ → ℕ) → Type 0) (old new : M) where
  -- what is kept where the access is done or refused
  abbrev Kept : ((ℕ → ℕ) → ℕ → ℕ) → Type 0
  Kept change = KeepsAsked sight.layout sight.veil sight.trace Asked change old new

  makes-asking : (events : List Event) → Makes sight events old new → Makes (asking Asked sight) events old new
  makes-asking events makes = record { trace = makes.trace; layout = makes.layout; veil = makes.veil; mode = makes.mode }

  exchanges-asking : (events : List Event) → Exchanges sight events old new → Kept (λ memory. memory) → Exchanges (asking Asked sight) events old new
  exchanges-asking events made kept = record {
    makes = makes-asking events made.makes;
    agrees = λ memory agrees. (made.agrees memory agrees.0, kept.changed memory agrees.1);
  }

  moves-asking : (put change : (ℕ → ℕ) → ℕ → ℕ) (events : List Event) → ((memory : ℕ → ℕ) → change memory ≡ put memory) → Moves sight put old new events → Kept change
      → Moves (asking Asked sight) put old new events
  moves-asking put change events same moves kept = record {
    makes = makes-asking events moves.makes;
    blocks = moves.blocks;
    unheld = λ memory agrees. (moves.unheld memory agrees.0, kept.unheld events memory moves.makes.trace agrees.1);
    agrees = λ memory agrees. (
      moves.agrees memory agrees.0,
      (let taken : ℕ → ℕ = blocks_taken (sight.layout old) (sight.veil old) events memory in
          subst (λ (m : ℕ → ℕ). Asked new m) (same taken) (kept.changed taken (kept.unheld events memory moves.makes.trace agrees.1))),
    );
  }

  fails-asking : {T : Type 0} (answer : Result T Stop) → Fails sight answer old new → Fails (asking Asked sight) answer old new
  fails-asking (Ok value) fails = absurd fails
  fails-asking (Err (stop.Refused reason)) fails = absurd fails
  fails-asking (Err (stop.Tree event)) fails = (fails.0, makes-asking fails.0 fails.1, fails.2)
  fails-asking (Err (stop.Log event)) fails = (fails.0, makes-asking fails.0 fails.1, fails.2)

  -- ---- reads

  block-asking : (value : (ℕ → ℕ) → ℕ) (answer : Result ℕ Stop) → (IsSettled answer → Kept (λ memory. memory)) → ReadsBlock sight value answer old new
      → ReadsBlock (asking Asked sight) value answer old new
  block-asking value (Ok word) kept reads =
      (reads.0, moves-asking (λ memory. memory) (λ memory. memory) reads.0 (λ memory. refl) reads.1 (kept tt), λ memory agrees. reads.2 memory agrees.0)
  block-asking value (Err reason) kept reads = fails-asking {T = ℕ} (Err reason) reads

  settled-ok : {T : Type 0} (answer : Result T Stop) (value : T) → answer ≡ Ok value → IsSettled answer
  settled-ok answer value is = subst (λ (a : Result _ Stop). IsSettled a) (sym is) tt

  settled-refused : {T : Type 0} (answer : Result T Stop) (reason : Why) → answer ≡ Err (stop.Refused reason) → IsSettled answer
  settled-refused answer reason is = subst (λ (a : Result _ Stop). IsSettled a) (sym is) tt

  fetch-asking : (refusal : Option Why) (value : (ℕ → ℕ) → ℕ) (answer : Result ℕ Stop) → (IsSettled answer → Kept (λ memory. memory))
      → UnlessRefused sight refusal answer old new (ReadsBlock sight value answer old new)
      → UnlessRefused (asking Asked sight) refusal answer old new (ReadsBlock (asking Asked sight) value answer old new)
  fetch-asking (Some reason) value answer kept row = (row.0, exchanges-asking [] row.1 (kept (settled-refused answer reason row.0)))
  fetch-asking None value answer kept row = block-asking value answer kept row

  load-asking : (refusal : Option Why) (opened : Bool) (start : ℕ) (of : ℕ → ℕ) (value : (ℕ → ℕ) → ℕ) (answer : Result ℕ Stop) → (IsSettled answer → Kept (λ memory. memory))
      → UnlessRefused sight refusal answer old new (ByClass opened (ReadsOpen sight start of answer old new) (ReadsBlock sight value answer old new))
      → UnlessRefused (asking Asked sight) refusal answer old new
      (ByClass opened (ReadsOpen (asking Asked sight) start of answer old new) (ReadsBlock (asking Asked sight) value answer old new))
  load-asking (Some reason) opened start of value answer kept row = (row.0, exchanges-asking [] row.1 (kept (settled-refused answer reason row.0)))
  load-asking None true start of value answer kept row =
      (row.0, row.1, exchanges-asking (WordRead Secure start row.0 ∷ []) row.2 (kept (settled-ok answer (of row.0) row.1)))
  load-asking None false start of value answer kept row = block-asking value answer kept row

  -- ---- stores

  -- a store that was refused, and one at an open address, changes nothing
  kept-refused : (at : ℕ) (word : (ℕ → ℕ) → ℕ) (answer : Result (Unit {0}) Stop) (reason : Why) → answer ≡ Err (stop.Refused reason)
      → (IsSettled answer → Kept (λ memory. stored (sight.layout old) answer at (word memory) memory)) → Kept (λ memory. memory)
  kept-refused at word answer reason is kept =
      subst (λ (a : Result (Unit {0}) Stop). Kept (λ memory. stored (sight.layout old) a at (word memory) memory)) is (kept (settled-refused answer reason is))

  kept-class : (at : ℕ) (word : (ℕ → ℕ) → ℕ) (answer : Result (Unit {0}) Stop) (opened : Bool) → is_among shared_loose (sight.layout old) at ≡ opened → answer ≡ Ok tt
      → (IsSettled answer → Kept (λ memory. stored (sight.layout old) answer at (word memory) memory))
      → Kept (λ memory. if opened then memory else updated memory (word_start at) (word memory))
  kept-class at word answer opened class is kept =
      subst (λ (b : Bool). Kept (λ memory. if b then memory else updated memory (word_start at) (word memory))) class
      (subst (λ (a : Result (Unit {0}) Stop). Kept (λ memory. stored (sight.layout old) a at (word memory) memory)) is (kept (settled-ok answer tt is)))

  puts-asking : (at : ℕ) (word : (ℕ → ℕ) → ℕ) (answer : Result (Unit {0}) Stop) → is_among shared_loose (sight.layout old) at ≡ false
      → (IsSettled answer → Kept (λ memory. stored (sight.layout old) answer at (word memory) memory))
      → PutsInBlock sight (λ memory. updated memory (word_start at) (word memory)) answer old new
      → PutsInBlock (asking Asked sight) (λ memory. updated memory (word_start at) (word memory)) answer old new
  puts-asking at word (Ok done) class kept puts = (
    puts.0,
    moves-asking (λ memory. updated memory (word_start at) (word memory)) (λ memory. updated memory (word_start at) (word memory)) puts.0 (λ memory. refl) puts.1
        (kept-class at word (Ok done) false class refl kept),
  )
  puts-asking at word (Err reason) class kept puts = fails-asking {T = Unit {0}} (Err reason) puts

  -- a word, and a byte
  word-asking : (refusal : Option Why) (opened : Bool) (at word : ℕ) (answer : Result (Unit {0}) Stop) → is_among shared_loose (sight.layout old) at ≡ opened
      → (IsSettled answer → Kept (λ memory. stored (sight.layout old) answer at word memory))
      → UnlessRefused sight refusal answer old new
      (ByClass opened ((answer ≡ Ok tt) × Exchanges sight (WordWrite Secure at word ∷ []) old new) (PutsInBlock sight (λ memory. updated memory (word_start at) word) answer old new))
      → UnlessRefused (asking Asked sight) refusal answer old new
      (ByClass opened ((answer ≡ Ok tt) × Exchanges (asking Asked sight) (WordWrite Secure at word ∷ []) old new)
      (PutsInBlock (asking Asked sight) (λ memory. updated memory (word_start at) word) answer old new))
  word-asking (Some reason) opened at word answer class kept row = (row.0, exchanges-asking [] row.1 (kept-refused at (λ memory. word) answer reason row.0 kept))
  word-asking None true at word answer class kept row =
      (row.0, exchanges-asking (WordWrite Secure at word ∷ []) row.1 (kept-class at (λ memory. word) answer true class row.0 kept))
  word-asking None false at word answer class kept row = puts-asking at (λ memory. word) answer class kept row

  byte-asking : (refusal : Option Why) (opened : Bool) (at byte : ℕ) (answer : Result (Unit {0}) Stop) → is_among shared_loose (sight.layout old) at ≡ opened
      → (IsSettled answer → Kept (λ memory. stored (sight.layout old) answer at (with_byte (memory (word_start at)) at byte) memory))
      → UnlessRefused sight refusal answer old new
      (ByClass opened ((word : ℕ) × (answer ≡ Ok tt)
      × Exchanges sight (WordRead Secure (word_start at) word ∷ WordWrite Secure (word_start at) (with_byte word at byte) ∷ []) old new)
      (PutsInBlock sight (λ memory. updated memory (word_start at) (with_byte (memory (word_start at)) at byte)) answer old new))
      → UnlessRefused (asking Asked sight) refusal answer old new
      (ByClass opened ((word : ℕ) × (answer ≡ Ok tt)
      × Exchanges (asking Asked sight) (WordRead Secure (word_start at) word ∷ WordWrite Secure (word_start at) (with_byte word at byte) ∷ []) old new)
      (PutsInBlock (asking Asked sight) (λ memory. updated memory (word_start at) (with_byte (memory (word_start at)) at byte)) answer old new))
  byte-asking (Some reason) opened at byte answer class kept row =
      (row.0, exchanges-asking [] row.1 (kept-refused at (λ memory. with_byte (memory (word_start at)) at byte) answer reason row.0 kept))
  byte-asking None true at byte answer class kept row = (
    row.0,
    row.1,
    exchanges-asking (WordRead Secure (word_start at) row.0 ∷ WordWrite Secure (word_start at) (with_byte row.0 at byte) ∷ []) row.2
        (kept-class at (λ memory. with_byte (memory (word_start at)) at byte) answer true class row.1 kept),
  )
  byte-asking None false at byte answer class kept row = puts-asking at (λ memory. with_byte (memory (word_start at)) at byte) answer class kept row

pub asking-meets : {M : Type 0} (sight : Sight M) (accesses : Accesses M) (Asked : M → (ℕ → ℕ) → Type 0) → MeetsBus sight accesses
    → EachKeepsAsked sight.layout sight.veil sight.trace accesses Asked → MeetsBus (asking Asked sight) accesses
asking-meets sight accesses Asked meets kept = record {
  fetch = λ old new at answer secure does.
      fetch-asking sight Asked old new (word_refusal (sight.layout old) (sight.mode old) Fetch at) (λ memory. memory at) answer (λ settled. kept.fetch old new at answer settled does)
      (meets.fetch old new at answer secure does);
  load_word = λ old new at answer secure does.
      load-asking sight Asked old new (word_refusal (sight.layout old) (sight.mode old) Read at) (is_among shared_loose (sight.layout old) at) at (λ word. word) (λ memory. memory at) answer
      (λ settled. kept.load_word old new at answer settled does) (meets.load_word old new at answer secure does);
  load_byte = λ old new at answer secure does.
      load-asking sight Asked old new (byte_refusal (sight.layout old) (sight.mode old) Read at) (is_among shared_loose (sight.layout old) at) (word_start at) (λ word. byte_in word at)
      (λ memory. byte_in (memory (word_start at)) at) answer (λ settled. kept.load_byte old new at answer settled does) (meets.load_byte old new at answer secure does);
  store_word = λ old new at word answer secure does.
      word-asking sight Asked old new (word_refusal (sight.layout old) (sight.mode old) Write at) (is_among shared_loose (sight.layout old) at) at word answer refl
      (λ settled. kept.store_word old new at word answer settled does) (meets.store_word old new at word answer secure does);
  store_byte = λ old new at byte answer secure does.
      byte-asking sight Asked old new (byte_refusal (sight.layout old) (sight.mode old) Write at) (is_among shared_loose (sight.layout old) at) at byte answer refl
      (λ settled. kept.store_byte old new at byte answer settled does) (meets.store_byte old new at byte answer secure does);
}

-- accesses after which something holds keep to it as well
pub after-meets : {M : Type 0} (sight : Sight M) (accesses : Accesses M) (Holds : M → Type 0) → MeetsBus sight accesses → MeetsBus sight (after_which Holds accesses)
after-meets sight accesses Holds meets = record {
  fetch = λ old new at answer secure does. meets.fetch old new at answer secure does.0;
  load_word = λ old new at answer secure does. meets.load_word old new at answer secure does.0;
  load_byte = λ old new at answer secure does. meets.load_byte old new at answer secure does.0;
  store_word = λ old new at word answer secure does. meets.store_word old new at word answer secure does.0;
  store_byte = λ old new at byte answer secure does. meets.store_byte old new at byte answer secure does.0;
}

-- and so do those that leave the tree as it is at an open address
pub leaving-meets : {L M : Type 0} (seen : M → SecureSight L) (sight : Sight M) (accesses : Accesses M) → MeetsBus sight accesses → MeetsBus sight (leaving_tree seen accesses)
leaving-meets seen sight accesses meets = record {
  fetch = λ old new at answer secure does. meets.fetch old new at answer secure does.0;
  load_word = λ old new at answer secure does. meets.load_word old new at answer secure does.0;
  load_byte = λ old new at answer secure does. meets.load_byte old new at answer secure does.0;
  store_word = λ old new at word answer secure does. meets.store_word old new at word answer secure does.0;
  store_byte = λ old new at byte answer secure does. meets.store_byte old new at byte answer secure does.0;
}
