-- What the events of a load of the log are to the words of memory, to the tree and to the contents.
use Rattle.std.proofs.Common.{◌≡◌, ◌≢◌, ℕ, Bool, true, false, Option, Some, None, List, [], ◌∷◌, ◌++◌, length, refl, sym, ap, ◌∙◌, subst, append_assoc, arith, inl, inr, rules}
use Rattle.std.specs.Prelude.{IsTrue, filter_map, if◌then◌else◌, ◌==◌, Ok}
use Rattle.std.specs.List.{All}
use Rattle.std.proofs.lemmas.Bool.{cases_eq}
use Rattle.std.proofs.lemmas.List.Elements.{All-nil, All-cons}
use Rattle.std.proofs.lemmas.Slice.Eq.{bytes_eq-Decides}
use Rattle.aegis_num.specs.declared.storage.Block.{Block}
use Rattle.aegis_num.specs.declared.storage.Place.{Place}
use Rattle.aegis_num.specs.declared.storage.Place.TheVariants.{Log, Tree}
use Rattle.off_chip.specs.declared.event.Event.{Event}
use Rattle.off_chip.specs.declared.event.Event.TheVariants.{BlockRead, BlockWrite}
use Rattle.off_chip.specs.FaithfulReads.{is_expected}
use Rattle.off_chip.specs.Histories.{history}
use Rattle.off_chip.specs.WriteBacks.{last_write, read_at}
use Rattle.off_chip.proofs.HistoryLemmas.{Each-cut}
use Rattle.hash_tree.specs.AsWritten.{AllAsWritten, is_as_written, is_written_block}
use Rattle.stamp_log.specs.LogCalls.{Fetches as LogFetches, MakesRoom}
use Rattle.stamp_log.specs.LogContents.{ReadKeepsContents}
use Rattle.stamp_log.specs.LogState.{LogLines, line_of, stamped}
use Rattle.stamp_log.specs.StandsOn.{contents_in}
use Rattle.stamp_log.proofs.LogLemmas.{removed-apart, removed-here}
use Rattle.secure_memory.specs.MemoryAccesses.{is_block_move}

-- a block of the log was read, after room was made for its line
pub record LogReached (block : ℕ) (before after : List Event) (old new : LogLines) : Type 0 where
  pub front : List Event
  pub read : Block
  pub appended : after ≡ before ++ (front ++ BlockRead (Log block) read ∷ [])
  pub moves : All (λ event. IsTrue (is_block_move event)) (front ++ BlockRead (Log block) read ∷ [])
  pub no_tree : (n : ℕ) → filter_map (read_at (Tree n)) (front ++ BlockRead (Log block) read ∷ []) ≡ []
  pub no_other : (n : ℕ) → n ≢ block → filter_map (read_at (Log n)) (front ++ BlockRead (Log block) read ∷ []) ≡ []
  pub here : line_of new block ≡ Some read.payload
  pub others : (n : ℕ) (payload : List ℕ) → n ≢ block → line_of new n ≡ Some payload → line_of old n ≡ Some payload

one-moves : (block : ℕ) (read : Block) → All (λ event. IsTrue (is_block_move event)) (BlockRead (Log block) read ∷ [])
one-moves block read = All-cons (λ event. IsTrue (is_block_move event)) (BlockRead (Log block) read) [] refl (All-nil (λ event. IsTrue (is_block_move event)))

other-read : (n block : ℕ) (read : Block) → n ≢ block → read_at (Log n) (BlockRead (Log block) read) ≡ None
other-read n block read differ = let e : (n == block) ≡ false = grind (arith, rules, differ) in ap (λ (b : Bool). if b then Some read else None) e

line-same : (old new : LogLines) (n : ℕ) → new.held ≡ old.held → new.payloads ≡ old.payloads → line_of new n ≡ line_of old n
line-same old new n held payloads = rw (held, payloads) refl

none-some : {X : Type 0} (x : X) (o : Option X) → o ≡ None → o ≡ Some x → ⊥
none-some x o none some = let e : None ≡ Some x = sym none ∙ some in cc

pub log-reached : (blocks block : ℕ) (before after : List Event) (old new : LogLines) → LogFetches blocks block (Ok tt) before after old new → length old.held ≡ blocks
    → LogReached block before after old new
log-reached blocks block before after old new fetches size = by fetches.makes refl
  where
    by : (makes : MakesRoom blocks before fetches.middle old fetches.between) → fetches.makes ≡ makes → LogReached block before after old new
    by (MakesRoom.nothing same held payloads) is = record {
      front = [];
      read = fetches.read;
      appended = fetches.event ∙ ap (λ (t : List Event). t ++ BlockRead (Log block) fetches.read ∷ []) same;
      moves = one-moves block fetches.read;
      no_tree = λ n. refl;
      no_other = λ n differ. rw (other-read n block fetches.read differ) refl;
      here = fetches.here;
      others = λ n payload differ line. sym (line-same old fetches.between n held payloads) ∙ sym (fetches.apart n differ) ∙ line;
    }
    by (MakesRoom.written m stamp payload less line same held payloads) is =
        let write : Event = BlockWrite (Log m) (stamped payload stamp) in
        record {
          front = write ∷ [];
          read = fetches.read;
          appended = fetches.event ∙ ap (λ (t : List Event). t ++ BlockRead (Log block) fetches.read ∷ []) same ∙ append_assoc before (write ∷ []) (BlockRead (Log block) fetches.read ∷ []);
          moves = All-cons (λ event. IsTrue (is_block_move event)) write (BlockRead (Log block) fetches.read ∷ []) refl (one-moves block fetches.read);
          no_tree = λ n. refl;
          no_other = λ n differ. rw (other-read n block fetches.read differ) refl;
          here = fetches.here;
          others = λ n found differ line_n.
              let between : line_of fetches.between n ≡ Some found = sym (fetches.apart n differ) ∙ line_n in
              elim (cases_eq n m) [
                | inr other ↦ sym (removed-apart old fetches.between m n other held payloads) ∙ between
                | inl equal ↦
                    let gone : line_of fetches.between n ≡ None =
                    subst (λ (k : ℕ). line_of fetches.between k ≡ None) (sym equal) (removed-here old fetches.between m (omega (arith, less, size)) held) in
                    absurd (none-some found (line_of fetches.between n) gone between)
              ];
        }

-- a block that was read as it was written is a faithful read, where the image has its payload
expected-from : (block : Block) (o : Option Block) → is_written_block block o ≡ true → is_expected (Some block.payload) block o ≡ true
expected-from block None as_written = (bytes_eq-Decides block.payload block.payload).1 refl
expected-from block (Some written) as_written = as_written

-- where each read gave the last write-back, the contents are kept
pub log-kept : (block : ℕ) (old new : LogLines) (before after : List Event) → ReadKeepsContents block old new before after → AllAsWritten (history after)
    → (n : ℕ) → contents_in new (history after) n ≡ contents_in old (history before) n
log-kept block old new before after keeps all n =
    elim (cases_eq n block) [
      | inr differ ↦ keeps.others n differ
      | inl equal ↦
          let image : Place → Option (List ℕ) = λ place. Some keeps.read.payload in
          let as_written : is_as_written (BlockRead (Log block) keeps.read) (history keeps.middle) ≡ true =
          Each-cut (λ event older. IsTrue (is_as_written event older)) after keeps.middle (BlockRead (Log block) keeps.read) [] keeps.last all.each in
          let here = keeps.here image (expected-from keeps.read (last_write (Log block) (history keeps.middle)) as_written) in
          subst (λ (k : ℕ). contents_in new (history after) k ≡ contents_in old (history before) k) (sym equal) here
    ]
