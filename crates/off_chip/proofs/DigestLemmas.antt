-- What follows of expected digests.
use Rattle.std.proofs.Common.{◌≡◌, ℕ, Bool, true, false, cond, not, ◌&&◌, eqb, List, [], ◌∷◌, ◌++◌, Option, Some, None, refl, sym, ap, ◌∙◌, subst, inl, inr}
use Rattle.std.specs.Prelude.{◌≢◌, ◌⊎◌, ◌↔◌, filter_map}
use Rattle.std.proofs.lemmas.Bool.{and_parts, eqb-false, eq-eqb, ne_eqb, not-true, cases_eq}
use Rattle.aegis_num.specs.declared.storage.Block.{Block}
use Rattle.aegis_num.specs.declared.storage.Place.{Place}
use Rattle.aegis_num.specs.declared.storage.Place.TheVariants.{Tree}
use Rattle.off_chip.specs.declared.event.Event.{Event}
use Rattle.off_chip.specs.declared.event.Event.TheVariants.{BlockRead, BlockWrite}
use Rattle.off_chip.specs.Histories.{History, no_event, ◌◂◌, first_told, history}
use Rattle.off_chip.specs.WriteBacks.{same_place, written_at, read_at}
use Rattle.off_chip.specs.ExpectedDigests.{Digests, digest_told, expected_digest, IsExpectedDigest, of_root, of_write, of_parent}
use Rattle.off_chip.proofs.HistoryLemmas.{filter_map-nil, nil-filter_map, ToldAt, newest-ToldAt, ToldAt-newest}
use Rattle.off_chip.proofs.WriteLemmas.{same_place-Decides, same_place-refl}

-- ---- what one event tells

cond-some : {X : Type 0} (b : Bool) (x y : X) → cond b (Some x) None ≡ Some y → (b ≡ true) × (x ≡ y)
cond-some true x y same = (refl, cc)
cond-some false x y same = cc

cond-none : {X : Type 0} (b : Bool) (x : X) → cond b (Some x) None ≡ None → b ≡ false
cond-none true x same = cc
cond-none false x same = refl

none-cond : {X : Type 0} (b : Bool) (x : X) → b ≡ false → cond b (Some x) None ≡ None
none-cond true x same = cc
none-cond false x same = refl

and-false : (a b : Bool) → (a && b) ≡ false → a ≡ true → b ≡ false
and-false true b same yes' = same
and-false false b same yes' = cc

false-and : (a b : Bool) → b ≡ false → (a && b) ≡ false
false-and true b same = same
false-and false b same = refl

untold-write : (tree : Digests) (n : ℕ) (event : Event) → digest_told tree n event ≡ None → written_at (Tree n) event ≡ None
untold-write tree n (BlockWrite at block) none = none-cond (same_place (Tree n) at) block (cond-none (same_place (Tree n) at) (tree.digest n block) none)
untold-write tree n event none = refl

untold-read : (tree : Digests) (n : ℕ) (event : Event) → n ≢ 0 → digest_told tree n event ≡ None → read_at (Tree (tree.parent n)) event ≡ None
untold-read tree n (BlockRead at block) other none =
    none-cond (same_place (Tree (tree.parent n)) at) block
    (and-false (not (eqb n 0)) (same_place (Tree (tree.parent n)) at)
    (cond-none (not (eqb n 0) && same_place (Tree (tree.parent n)) at) (tree.slot n block.payload) none)
    (ap (λ (b : Bool). not b) (ne_eqb n 0 other)))
untold-read tree n event other none = refl

untold : (tree : Digests) (n : ℕ) (event : Event) → written_at (Tree n) event ≡ None → (n ≡ 0) ⊎ (read_at (Tree (tree.parent n)) event ≡ None) → digest_told tree n event ≡ None
untold tree n (BlockWrite at block) unwritten unread = none-cond (same_place (Tree n) at) (tree.digest n block) (cond-none (same_place (Tree n) at) block unwritten)
untold tree n (BlockRead at block) unwritten (inl root) =
    ap (λ (b : Bool). cond (not b && same_place (Tree (tree.parent n)) at) (Some (tree.slot n block.payload)) None) (eq-eqb n 0 root)
untold tree n (BlockRead at block) unwritten (inr unread) =
    none-cond (not (eqb n 0) && same_place (Tree (tree.parent n)) at) (tree.slot n block.payload)
    (false-and (not (eqb n 0)) (same_place (Tree (tree.parent n)) at) (cond-none (same_place (Tree (tree.parent n)) at) block unread))
untold tree n event unwritten unread = refl

pub digest_told-write : (tree : Digests) (n : ℕ) (block : Block) → digest_told tree n (BlockWrite (Tree n) block) ≡ Some (tree.digest n block)
digest_told-write tree n block = ap (λ (b : Bool). cond b (Some (tree.digest n block)) None) (same_place-refl (Tree n))

pub digest_told-parent : (tree : Digests) (n : ℕ) (block : Block) → n ≢ 0 → digest_told tree n (BlockRead (Tree (tree.parent n)) block) ≡ Some (tree.slot n block.payload)
digest_told-parent tree n block other =
    ap (λ (b : Bool). cond (not b && same_place (Tree (tree.parent n)) (Tree (tree.parent n))) (Some (tree.slot n block.payload)) None) (ne_eqb n 0 other)
    ∙ ap (λ (b : Bool). cond b (Some (tree.slot n block.payload)) None) (same_place-refl (Tree (tree.parent n)))

-- ---- expected digests, in order

last-told : (tree : Digests) (n : ℕ) (trace : List Event) (expected : List ℕ) (before : List Event) (event : Event) (rest : List Event) → trace ≡ before ++ event ∷ rest
    → digest_told tree n event ≡ Some expected
    → ((between : List Event) (later : Event) (last : List Event) → rest ≡ between ++ later ∷ last → digest_told tree n later ≡ None)
    → IsExpectedDigest tree n trace expected
last-told tree n trace expected before (BlockWrite at block) rest parts answer nothing =
    let tests = cond-some (same_place (Tree n) at) (tree.digest n block) expected answer in
    let e : at ≡ Tree n = sym ((same_place-Decides (Tree n) at).0 tests.0) in
    let here : trace ≡ before ++ BlockWrite (Tree n) block ∷ rest = parts ∙ ap (λ (p : Place). before ++ BlockWrite p block ∷ rest) e in
    let unwritten : filter_map (written_at (Tree n)) rest ≡ [] =
    nil-filter_map (written_at (Tree n)) rest (λ between later last split. untold-write tree n later (nothing between later last split)) in
    elim (cases_eq n 0) [
      | inl root ↦ of_root block root
          (record {
            before = before;
            rest = rest;
            parts = here ∙ ap (λ (k : ℕ). before ++ BlockWrite (Tree k) block ∷ rest) root;
            none_after = ap (λ (k : ℕ). filter_map (written_at (Tree k)) rest) (sym root) ∙ unwritten;
          })
          (sym tests.1 ∙ ap (λ (k : ℕ). tree.digest k block) root)
      | inr other ↦ of_write before block rest other here unwritten
          (nil-filter_map (read_at (Tree (tree.parent n))) rest (λ between later last split. untold-read tree n later other (nothing between later last split)))
          (sym tests.1)
    ]
last-told tree n trace expected before (BlockRead at block) rest parts answer nothing =
    let tests = cond-some (not (eqb n 0) && same_place (Tree (tree.parent n)) at) (tree.slot n block.payload) expected answer in
    let both = and_parts (not (eqb n 0)) (same_place (Tree (tree.parent n)) at) tests.0 in
    let other : n ≢ 0 = eqb-false n 0 (not-true (eqb n 0) both.0) in
    let e : at ≡ Tree (tree.parent n) = sym ((same_place-Decides (Tree (tree.parent n)) at).0 both.1) in
    of_parent before block rest other (parts ∙ ap (λ (p : Place). before ++ BlockRead p block ∷ rest) e)
    (nil-filter_map (read_at (Tree (tree.parent n))) rest (λ between later last split. untold-read tree n later other (nothing between later last split)))
    (nil-filter_map (written_at (Tree n)) rest (λ between later last split. untold-write tree n later (nothing between later last split)))
    (sym tests.1)
last-told tree n trace expected before event rest parts answer nothing = cc

told-last : (tree : Digests) (n : ℕ) (trace : List Event) (expected : List ℕ) → IsExpectedDigest tree n trace expected → ToldAt (λ event _. digest_told tree n event) no_event trace expected
told-last tree n trace expected (of_root block root last same) = record {
  between = last.before;
  event = BlockWrite (Tree 0) block;
  last = last.rest;
  parts = last.parts;
  answer = ap (λ (k : ℕ). digest_told tree k (BlockWrite (Tree 0) block)) root ∙ ap (λ (xs : List ℕ). Some xs) (sym same);
  nothing_after = λ between later end split.
      untold tree n later
      (subst (λ (k : ℕ). written_at (Tree k) later ≡ None) (sym root) (filter_map-nil (written_at (Tree 0)) last.rest between later end split last.none_after)) (inl root);
}
told-last tree n trace expected (of_write earlier block after other parts unwritten unread same) = record {
  between = earlier;
  event = BlockWrite (Tree n) block;
  last = after;
  parts = parts;
  answer = digest_told-write tree n block ∙ ap (λ (xs : List ℕ). Some xs) (sym same);
  nothing_after = λ between later end split.
      untold tree n later (filter_map-nil (written_at (Tree n)) after between later end split unwritten)
      (inr (filter_map-nil (read_at (Tree (tree.parent n))) after between later end split unread));
}
told-last tree n trace expected (of_parent earlier block after other parts unread unwritten same) = record {
  between = earlier;
  event = BlockRead (Tree (tree.parent n)) block;
  last = after;
  parts = parts;
  answer = digest_told-parent tree n block other ∙ ap (λ (xs : List ℕ). Some xs) (sym same);
  nothing_after = λ between later end split.
      untold tree n later (filter_map-nil (written_at (Tree n)) after between later end split unwritten)
      (inr (filter_map-nil (read_at (Tree (tree.parent n))) after between later end split unread));
}

pub expected_digest-in_order : (tree : Digests) (n : ℕ) (trace : List Event) (expected : List ℕ)
    → (expected_digest tree n (history trace) ≡ Some expected) ↔ IsExpectedDigest tree n trace expected
expected_digest-in_order tree n trace expected = (
  λ same.
      let at : ToldAt (λ event _. digest_told tree n event) no_event trace expected = newest-ToldAt (λ event _. digest_told tree n event) trace expected same in
      last-told tree n trace expected at.between at.event at.last at.parts at.answer at.nothing_after,
  λ is. ToldAt-newest (λ event _. digest_told tree n event) trace expected (told-last tree n trace expected is),
)

-- ---- what one event does

pub expected_digest-write : (tree : Digests) (n : ℕ) (block : Block) (older : History) → expected_digest tree n (BlockWrite (Tree n) block ◂ older) ≡ Some (tree.digest n block)
expected_digest-write tree n block older = ap (λ (o : Option (List ℕ)). first_told o (expected_digest tree n older)) (digest_told-write tree n block)

pub expected_digest-parent : (tree : Digests) (n : ℕ) (block : Block) (older : History) → n ≢ 0
    → expected_digest tree n (BlockRead (Tree (tree.parent n)) block ◂ older) ≡ Some (tree.slot n block.payload)
expected_digest-parent tree n block older other = ap (λ (o : Option (List ℕ)). first_told o (expected_digest tree n older)) (digest_told-parent tree n block other)

-- an event that does not write the block, and does not read the parent of a block other than block 0, changes nothing
pub expected_digest-other : (tree : Digests) (n : ℕ) (event : Event) (older : History) → written_at (Tree n) event ≡ None
    → (n ≡ 0) ⊎ (read_at (Tree (tree.parent n)) event ≡ None) → expected_digest tree n (event ◂ older) ≡ expected_digest tree n older
expected_digest-other tree n event older unwritten unread =
    ap (λ (o : Option (List ℕ)). first_told o (expected_digest tree n older)) (untold tree n event unwritten unread)
