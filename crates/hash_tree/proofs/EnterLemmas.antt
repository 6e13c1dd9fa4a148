-- What follows where blocks are entered, one set after another.
use Rattle.std.proofs.Common.{◌≡◌, ℕ, suc, ◌+◌, ◌-◌, ◌<◌, ◌≤◌, true, false, List, [], ◌∷◌, ◌++◌, length, Some, refl, sym, ap, ◌∙◌, subst, inl, inr, ◌⊎◌, arith, length-append}
use Rattle.std.specs.Prelude.{◌≢◌, map, filter_map, replicate, slice_get}
use Rattle.std.proofs.lemmas.List.{append-nil, append_assoc, map-append}
use Rattle.std.proofs.lemmas.List.Elements.{All-append, All-nil, All-push, filter_map-append}
use Rattle.aegis_num.specs.declared.storage.Block.{Block}
use Rattle.aegis_num.specs.declared.storage.Place.TheVariants.{Tree}
use Rattle.regions.specs.declared.layout.Layout.{Layout}
use Rattle.off_chip.specs.declared.event.Event.{Event}
use Rattle.off_chip.specs.declared.event.Event.TheVariants.{BlockRead, BlockWrite}
use Rattle.off_chip.specs.BlockPlaces.{first_static}
use Rattle.off_chip.specs.Boundaries.{payload_read}
use Rattle.off_chip.specs.Histories.{history}
use Rattle.off_chip.specs.Residency.{is_resident}
use Rattle.off_chip.specs.WriteBacks.{last_write}
use Rattle.block_hash.specs.ProgramParts.{HasTaken, ProgramParts}
use Rattle.hash_tree.specs.Entering.{BlockMove, reads_block, writes_block, move_of, is_static, WritesPayload, StaticEntered, BlocksEntered, WritesZeros}
use Rattle.hash_tree.specs.Schemes.{Scheme, unveiled}
use Rattle.hash_tree.specs.Standing.{NodeLaidOut}
use Rattle.hash_tree.specs.TreeSteps.{Appends}
use Rattle.hash_tree.proofs.GrowthLemmas.{NodesLaidOut-more, read-writes, read-resident-other, slice_get-front, write-here, write-other, write-resident, write-resident-other}

-- ---- two sets

-- the digest of each block of one set stands in the payload of its parent, where that is one of the other
abbrev pub Across : Scheme → (ℕ → Type 0) → (ℕ → Type 0) → List Event → Type 0
Across scheme P Q new = (n : ℕ) (block parent : Block) → 0 < n → P n → Q (scheme.digests.parent n) → last_write (Tree n) (history new) ≡ Some block
    → last_write (Tree (scheme.digests.parent n)) (history new) ≡ Some parent → scheme.digests.slot n parent.payload ≡ scheme.digests.digest n block

slice_get-after : {X : Type 0} (xs ys : List X) (k : ℕ) → slice_get (xs ++ ys) (length xs + k) ≡ slice_get ys k
slice_get-after [] ys k = let e : 0 + k ≡ k = omega arith in ap (λ (i : ℕ). slice_get ys i) e
slice_get-after (x ∷ xs) ys k =
    let e : suc (length xs) + k ≡ suc (length xs + k) = omega arith in ap (λ (i : ℕ). slice_get (x ∷ (xs ++ ys)) i) e ∙ slice_get-after xs ys k

module _ (layout : Layout) (scheme : Scheme) (P Q : ℕ → Type 0) (old_program middle_program program : ProgramParts) (first second : List BlockMove) (old middle new : List Event)
    (one : BlocksEntered layout scheme P old_program middle_program first old middle) (two : BlocksEntered layout scheme Q middle_program program second middle new)
    (apart : (n : ℕ) → P n → Q n → ⊥) where
  both-reads : filter_map payload_read (one.events ++ two.events) ≡ filter_map payload_read one.events ++ filter_map payload_read two.events
  both-reads = filter_map-append payload_read one.events two.events

  kept-write : (n : ℕ) (block : Block) → P n → last_write (Tree n) (history new) ≡ Some block → last_write (Tree n) (history middle) ≡ Some block
  kept-write n block p found = sym (two.writes n (apart n p)) ∙ found

  static-first : (n : ℕ) (block : Block) → P n → is_static layout n ≡ true → last_write (Tree n) (history new) ≡ Some block
      → StaticEntered layout scheme old_program.added (one.events ++ two.events) n block
  static-first n block p is found =
      let here = one.statics n block p is (kept-write n block p found) in
      record {
        k = here.k;
        number = here.number;
        payload = here.payload;
        found = ap (λ (xs : List (List ℕ)). slice_get xs here.k) both-reads
            ∙ slice_get-front (filter_map payload_read one.events) (filter_map payload_read two.events) here.k here.payload here.found;
        holds = here.holds;
      }

  static-second : (n : ℕ) (block : Block) → Q n → is_static layout n ≡ true → last_write (Tree n) (history new) ≡ Some block
      → StaticEntered layout scheme old_program.added (one.events ++ two.events) n block
  static-second n block q is found =
      let reads = filter_map payload_read one.events in
      let here = two.statics n block q is found in
      record {
        k = length reads + here.k;
        number = omega (arith, here.number, one.added);
        payload = here.payload;
        found = ap (λ (xs : List (List ℕ)). slice_get xs (length reads + here.k)) both-reads
            ∙ slice_get-after reads (filter_map payload_read two.events) here.k ∙ here.found;
        holds = here.holds;
      }

  pub blocks-both : Across scheme P Q new → Across scheme Q P new
      → BlocksEntered layout scheme (λ n. P n ⊎ Q n) old_program program (first ++ second) old new
  blocks-both up down = record {
    events = one.events ++ two.events;
    appended = two.appended ∙ ap (λ (t : List Event). t ++ two.events) one.appended ∙ append_assoc old one.events two.events;
    order = map-append move_of one.events two.events ∙ ap (λ (ms : List BlockMove). ms ++ map move_of two.events) one.order ∙ ap (λ (ms : List BlockMove). first ++ ms) two.order;
    zeros_written = All-append (WritesZeros layout scheme) one.events two.events one.zeros_written two.zeros_written;
    added = omega (arith, two.added, one.added, ap (λ (xs : List (List ℕ)). length xs) both-reads, length-append (filter_map payload_read one.events) (filter_map payload_read two.events));
    taken = λ payloads has.
        subst (λ (xs : List (List ℕ)). HasTaken program xs)
        (append_assoc payloads (filter_map payload_read one.events) (filter_map payload_read two.events) ∙ ap (λ (xs : List (List ℕ)). payloads ++ xs) (sym both-reads))
        (two.taken (payloads ++ filter_map payload_read one.events) (one.taken payloads has));
    writes = λ n neither. two.writes n (λ q. neither (inr q)) ∙ one.writes n (λ p. neither (inl p));
    resident = λ n neither. two.resident n (λ q. neither (inr q)) ∙ one.resident n (λ p. neither (inl p));
    written = λ n these. elim these [
      | inl p ↦ let w = one.written n p in (w.0, two.writes n (apart n p) ∙ w.1, w.2)
      | inr q ↦ two.written n q
    ];
    gone = λ n these. elim these [ inl p ↦ two.resident n (apart n p) ∙ one.gone n p | inr q ↦ two.gone n q ];
    slots = λ n block parent positive these above found found_above. slot n block parent positive these above found found_above;
    laid_out = λ laid. two.laid_out (one.laid_out laid);
    statics = λ n block these is found. elim these [ inl p ↦ static-first n block p is found | inr q ↦ static-second n block q is found ];
    zeros = λ n block these leaf is found. elim these [ inl p ↦ one.zeros n block p leaf is (kept-write n block p found) | inr q ↦ two.zeros n block q leaf is found ];
  }
    where
      slot : (n : ℕ) (block parent : Block) → 0 < n → P n ⊎ Q n → P (scheme.digests.parent n) ⊎ Q (scheme.digests.parent n) → last_write (Tree n) (history new) ≡ Some block
          → last_write (Tree (scheme.digests.parent n)) (history new) ≡ Some parent → scheme.digests.slot n parent.payload ≡ scheme.digests.digest n block
      slot n block parent positive (inl p) (inl above) found found_above =
          one.slots n block parent positive p above (kept-write n block p found) (kept-write (scheme.digests.parent n) parent above found_above)
      slot n block parent positive (inr q) (inr above) found found_above = two.slots n block parent positive q above found found_above
      slot n block parent positive (inl p) (inr above) found found_above = up n block parent positive p above found found_above
      slot n block parent positive (inr q) (inl above) found found_above = down n block parent positive q above found found_above

-- the same blocks, said otherwise
pub blocks-as : (layout : Layout) (scheme : Scheme) (P Q : ℕ → Type 0) (old_program program : ProgramParts) (moves : List BlockMove) (old new : List Event)
    → BlocksEntered layout scheme P old_program program moves old new → ((n : ℕ) → P n → Q n) → ((n : ℕ) → Q n → P n)
    → BlocksEntered layout scheme Q old_program program moves old new
blocks-as layout scheme P Q old_program program moves old new entered to from = record {
  events = entered.events;
  appended = entered.appended;
  order = entered.order;
  zeros_written = entered.zeros_written;
  added = entered.added;
  taken = entered.taken;
  writes = λ n none. entered.writes n (λ p. none (to n p));
  resident = λ n none. entered.resident n (λ p. none (to n p));
  written = λ n q. entered.written n (from n q);
  gone = λ n q. entered.gone n (from n q);
  slots = λ n block parent positive q above found found_above. entered.slots n block parent positive (from n q) (from (scheme.digests.parent n) above) found found_above;
  laid_out = entered.laid_out;
  statics = λ n block q is found. entered.statics n block (from n q) is found;
  zeros = λ n block q leaf is found. entered.zeros n block (from n q) leaf is found;
}

-- ---- one block

written-same : (n m : ℕ) (block other : Block) → BlockWrite (Tree n) block ≡ BlockWrite (Tree m) other → (n ≡ m) × (block ≡ other)
written-same n m block other same = (cc, cc)

-- it is written
pub blocks-write : (layout : Layout) (scheme : Scheme) (program : ProgramParts) (n : ℕ) (payload digest : List ℕ) (old new : List Event)
    → (back : WritesPayload scheme n payload digest old new) → (0 < n → scheme.digests.parent n ≢ n) → NodeLaidOut scheme (BlockWrite (Tree n) back.block) (history old)
    → (scheme.nodes ≤ n → is_static layout n ≡ false → unveiled scheme n back.block ≡ replicate 64 0)
    → (scheme.nodes ≤ n → is_static layout n ≡ false → payload ≡ replicate 64 0) → (is_static layout n ≡ true → ⊥)
    → BlocksEntered layout scheme (λ m. m ≡ n) program program (writes_block n ∷ []) old new
blocks-write layout scheme program n payload digest old new back apart laid zeros none other =
    let block = back.block in
    let here = write-here n block old new back.event in record {
      events = BlockWrite (Tree n) block ∷ [];
      appended = back.event;
      order = refl;
      zeros_written = All-push (WritesZeros layout scheme) [] (BlockWrite (Tree n) block) (All-nil (WritesZeros layout scheme)) (record {
        zeros = λ m written same leaf no'.
            let both = written-same n m block written same in
            ap (λ (b : Block). b.payload) (sym both.1) ∙ back.payload_is
            ∙ ap (λ (xs : List ℕ). scheme.veiled n block.stamp xs)
            (none (subst (λ (k : ℕ). scheme.nodes ≤ k) (sym both.0) leaf) (ap (λ (k : ℕ). is_static layout k) both.0 ∙ no'))
            ∙ ap (λ (k : ℕ). scheme.veiled k block.stamp (replicate 64 0)) both.0 ∙ ap (λ (b : Block). scheme.veiled m b.stamp (replicate 64 0)) both.1;
      });
      added = omega arith;
      taken = λ payloads has. subst (λ (xs : List (List ℕ)). HasTaken program xs) (sym (append-nil payloads)) has;
      writes = λ m none. write-other n block old new back.event m none;
      resident = λ m none. write-resident-other n block old new back.event m none;
      written = λ m is. (block, ap (λ (k : ℕ). last_write (Tree k) (history new)) is ∙ here, back.whole);
      gone = λ m is. ap (λ (k : ℕ). is_resident (Tree k) (history new)) is ∙ write-resident n block old new back.event;
      slots = λ m written parent positive is above found found_above.
          absurd (apart (subst (λ (k : ℕ). 0 < k) is positive) (ap (λ (k : ℕ). scheme.digests.parent k) (sym is) ∙ above));
      laid_out = λ before. NodesLaidOut-more scheme (BlockWrite (Tree n) block) old new back.event before laid;
      statics = λ m written is yes' found. absurd (other (ap (λ (k : ℕ). is_static layout k) (sym is) ∙ yes'));
      zeros = λ m written is leaf no' found.
          let b : Some written ≡ Some block = sym found ∙ ap (λ (k : ℕ). last_write (Tree k) (history new)) is ∙ here in
          let e : written ≡ block = cc in
          ap (λ (b : Block). unveiled scheme m b) e ∙ ap (λ (k : ℕ). unveiled scheme k block) is
          ∙ zeros (subst (λ (k : ℕ). scheme.nodes ≤ k) is leaf) (ap (λ (k : ℕ). is_static layout k) (sym is) ∙ no');
    }

-- it is read, and then written
pub blocks-read : (layout : Layout) (scheme : Scheme) (old_program program : ProgramParts) (n : ℕ) (found_block : Block) (digest : List ℕ) (old middle new : List Event)
    → Appends (BlockRead (Tree n) found_block) old middle → (back : WritesPayload scheme n found_block.payload digest middle new)
    → (0 < n → scheme.digests.parent n ≢ n) → NodeLaidOut scheme (BlockWrite (Tree n) back.block) (history middle)
    → unveiled scheme n back.block ≡ found_block.payload → is_static layout n ≡ true → old_program.added ≡ n - first_static layout
    → program.added ≡ old_program.added + 1 → ((payloads : List (List ℕ)) → HasTaken old_program payloads → HasTaken program (payloads ++ found_block.payload ∷ []))
    → BlocksEntered layout scheme (λ m. m ≡ n) old_program program (reads_block n ∷ writes_block n ∷ []) old new
blocks-read layout scheme old_program program n found_block digest old middle new event back apart laid holds static before added taken =
    let block = back.block in
    let here = write-here n block middle new back.event in record {
      events = BlockRead (Tree n) found_block ∷ BlockWrite (Tree n) block ∷ [];
      appended = back.event ∙ ap (λ (t : List Event). t ++ BlockWrite (Tree n) block ∷ []) event ∙ append_assoc old (BlockRead (Tree n) found_block ∷ []) (BlockWrite (Tree n) block ∷ []);
      order = refl;
      zeros_written = All-push (WritesZeros layout scheme) (BlockRead (Tree n) found_block ∷ []) (BlockWrite (Tree n) block)
          (All-push (WritesZeros layout scheme) [] (BlockRead (Tree n) found_block) (All-nil (WritesZeros layout scheme)) (record { zeros = λ m written same. cc }))
          (record {
            zeros = λ m written same leaf no'.
                let both = written-same n m block written same in
                let e : true ≡ false = sym static ∙ ap (λ (k : ℕ). is_static layout k) both.0 ∙ no' in cc;
          });
      added = omega (arith, added);
      taken = taken;
      writes = λ m none. write-other n block middle new back.event m none ∙ read-writes n found_block old middle event m;
      resident = λ m none. write-resident-other n block middle new back.event m none ∙ read-resident-other n found_block old middle event m none;
      written = λ m is. (block, ap (λ (k : ℕ). last_write (Tree k) (history new)) is ∙ here, back.whole);
      gone = λ m is. ap (λ (k : ℕ). is_resident (Tree k) (history new)) is ∙ write-resident n block middle new back.event;
      slots = λ m written parent positive is above found found_above.
          absurd (apart (subst (λ (k : ℕ). 0 < k) is positive) (ap (λ (k : ℕ). scheme.digests.parent k) (sym is) ∙ above));
      laid_out = λ earlier.
          NodesLaidOut-more scheme (BlockWrite (Tree n) block) middle new back.event (NodesLaidOut-more scheme (BlockRead (Tree n) found_block) old middle event earlier tt) laid;
      statics = λ m written is yes' found.
          let b : Some written ≡ Some block = sym found ∙ ap (λ (k : ℕ). last_write (Tree k) (history new)) is ∙ here in
          let e : written ≡ block = cc in
          record {
            k = 0;
            number = omega (arith, before, is);
            payload = found_block.payload;
            found = refl;
            holds = ap (λ (b : Block). unveiled scheme m b) e ∙ ap (λ (k : ℕ). unveiled scheme k block) is ∙ holds;
          };
      zeros = λ m written is leaf no' found.
          let e : true ≡ false = sym static ∙ ap (λ (k : ℕ). is_static layout k) (sym is) ∙ no' in cc;
    }
