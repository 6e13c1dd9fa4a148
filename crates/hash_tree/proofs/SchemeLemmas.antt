-- The scheme of a layout keeps what each scheme keeps, and the calls on lines are the steps of a tree.
use Rattle.std.proofs.Common.{◌≡◌, ℕ, zero, suc, ◌+◌, ◌*◌, ◌<◌, ◌≤◌, true, false, List, length, Option, Some, None, refl, sym, ap, ◌∙◌, subst, inl, inr, arith}
use Rattle.std.specs.Prelude.{◌≢◌, option_map}
use Rattle.std.specs.FinMap.{get}
use Rattle.std.proofs.lemmas.Bool.{cases_eq, cases_lt}
use Rattle.aegis_num.specs.declared.storage.Block.{Block}
use Rattle.aegis_num.specs.declared.storage.Place.TheVariants.{Tree}
use Rattle.regions.specs.declared.layout.Layout.{Layout}
use Rattle.regions.specs.Tree.{parent_in, slot_in, tree_blocks, level_start, height_of, leaf_of, positions_of}
use Rattle.regions.proofs.TreeLaws.{IsHeight-height_of, positions-few, level_start-three, level_start-suc}
use Rattle.off_chip.specs.declared.event.Event.{Event}
use Rattle.off_chip.specs.declared.event.Event.TheVariants.{BlockWrite}
use Rattle.off_chip.specs.OffChipBytes.{bytes_at, bytes_put}
use Rattle.off_chip.proofs.ByteLemmas.{length-put}
use Rattle.block_hash.specs.BlockStrings.{block_string, block_digest}
use Rattle.block_hash.specs.declared.strings.TheConstants.{TREE_TAG}
use Rattle.block_hash.proofs.StringLemmas.{block_string-one, length-sha1}
use Rattle.line_cache.specs.declared.lines.Line.{Line}
use Rattle.line_cache.specs.LineMaps.{LineMap, payload_at, with_clean, clean_line}
use Rattle.line_cache.proofs.MapLemmas.{get-insert_same, get-insert_other}
use Rattle.hash_tree.specs.HashTrees.{scheme_of, state_of, nodes_of}
use Rattle.hash_tree.specs.Schemes.{IsLawful}
use Rattle.hash_tree.specs.TreeSteps.{Appends, SlotSet, KeepsDigest, WritesBack}
use Rattle.hash_tree.proofs.SlotLemmas.{drop-put, at-put, after-put, before-put}

-- ---- the numbers of blocks

pub blocks-three : (layout : Layout) → tree_blocks layout ≡ 3 * nodes_of layout + 1
blocks-three layout = omega (arith, level_start-suc 3 (height_of layout))

pub blocks-few : (layout : Layout) → tree_blocks layout ≤ 9841
blocks-few layout =
    let e : tree_blocks layout ≡ nodes_of layout + positions_of layout = omega arith in
    omega (arith, e, positions-few layout, level_start-three (height_of layout))

pub nodes-some : (layout : Layout) → 0 < nodes_of layout
nodes-some layout = by (height_of layout) refl
  where
    by : (h : ℕ) → height_of layout ≡ h → 0 < nodes_of layout
    by zero e = let no_such : ⊥ = omega (arith, e, (IsHeight-height_of layout).positive) in absurd no_such
    by (suc h) e = let same : level_start 3 (height_of layout) ≡ level_start 3 (suc h) = ap (λ (k : ℕ). level_start 3 k) e in omega (arith, same, level_start-suc 3 h)

-- a leaf is no node
pub leaf-no_node : (layout : Layout) (position : ℕ) → nodes_of layout ≤ leaf_of layout position
leaf-no_node layout position = omega arith

-- a leaf is a block of the tree
pub leaf-inside : (layout : Layout) (position : ℕ) → position < positions_of layout → leaf_of layout position < tree_blocks layout
leaf-inside layout position below = omega (arith, below)

-- ---- what the scheme keeps

-- what a veil keeps, where its nodes are those of the layout
pub record KeepsVeil (layout : Layout) (veiled : ℕ → ℕ → List ℕ → List ℕ) : Type 0 where
  pub inverse : (n stamp : ℕ) (payload : List ℕ) → length payload ≡ 64 → veiled n stamp (veiled n stamp payload) ≡ payload
  pub long : (n stamp : ℕ) (payload : List ℕ) → length payload ≡ 64 → length (veiled n stamp payload) ≡ 64
  pub bare : (n stamp : ℕ) (payload : List ℕ) → n < nodes_of layout → veiled n stamp payload ≡ payload

parent-less : (n : ℕ) → 0 < n → parent_in 3 n < n
parent-less n above = omega arith

parent-node : (n nodes : ℕ) → 0 < n → n < 3 * nodes + 1 → parent_in 3 n < nodes
parent-node n nodes above below = omega arith

pub lawful : (layout : Layout) (veiled : ℕ → ℕ → List ℕ → List ℕ) → KeepsVeil layout veiled → IsLawful (scheme_of layout veiled)
unfolding scheme_of
lawful layout veiled keeps = record {
  few = omega (arith, blocks-few layout);
  above = λ n above below. parent-less n above;
  node = λ n above below. parent-node n (nodes_of layout) above (omega (arith, below, blocks-three layout));
  root = nodes-some layout;
  inside = omega (arith, blocks-three layout);
  digest = λ n block. refl;
  apart = λ n block other below whole whole_other same.
      (block_string-one TREE_TAG TREE_TAG n n block other same (omega (arith, below, blocks-few layout)) (omega (arith, below, blocks-few layout)) whole.stamp whole_other.stamp).2;
  inverse = keeps.inverse;
  long = keeps.long;
  bare = keeps.bare;
}

-- ---- a digest in a slot

slot-less : (n : ℕ) → slot_in 3 n < 3
slot-less n = omega arith

slots-apart : (m n : ℕ) → 0 < m → 0 < n → parent_in 3 m ≡ parent_in 3 n → m ≢ n → slot_in 3 m ≢ slot_in 3 n
slots-apart m n above_m above_n same apart slots = apart (omega arith)

pub slot-set : (layout : Layout) (veiled : ℕ → ℕ → List ℕ → List ℕ) (n : ℕ) (digest payload : List ℕ) → 0 < n → length digest ≡ 20 → length payload ≡ 64
    → SlotSet (scheme_of layout veiled) n digest payload (bytes_put (20 * slot_in 3 n) digest payload)
unfolding scheme_of
slot-set layout veiled n digest payload above twenty long =
    let low : slot_in 3 n < 3 = slot-less n in
    let within : 20 * slot_in 3 n + length digest ≤ length payload = omega arith in
    record {
      here = ap (λ (k : ℕ). bytes_at (20 * slot_in 3 n) k (bytes_put (20 * slot_in 3 n) digest payload)) (sym twenty) ∙ at-put (20 * slot_in 3 n) digest payload within;
      other = λ m above_m below same apart.
          let differ : slot_in 3 m ≢ slot_in 3 n = slots-apart m n above_m above same apart in
          elim (cases_lt (slot_in 3 m) (slot_in 3 n)) [
            | inl before ↦ before-put (20 * slot_in 3 n) (20 * slot_in 3 m) 20 digest payload (omega arith) (omega arith)
            | inr from ↦ after-put (20 * slot_in 3 n) (20 * slot_in 3 m) 20 digest payload (omega (arith, differ, from, twenty)) within
          ];
      padding = λ padded. drop-put (20 * slot_in 3 n) 60 digest payload (omega arith) within ∙ padded;
      long = length-put (20 * slot_in 3 n) digest payload within;
    }

-- ---- a write-back by calls on lines

pub line-held : (lines : LineMap) (n : ℕ) (payload : List ℕ) → payload_at lines n ≡ Some payload → (line : Line) × (get lines n ≡ Some line) × (line.payload ≡ payload)
line-held lines n payload held = by (get lines n) refl held
  where
    by : (o : Option Line) → get lines n ≡ o → option_map (λ (line : Line). line.payload) o ≡ Some payload → (line : Line) × (get lines n ≡ Some line) × (line.payload ≡ payload)
    by None found same = cc
    by (Some line) found same = let e : line.payload ≡ payload = cc in (line, found, e)

pub get-clean : (lines : LineMap) (n : ℕ) (line : Line) → get lines n ≡ Some line → get (with_clean lines n) n ≡ Some (record { payload = line.payload; dirty = false })
get-clean lines n line found =
    ap (λ (o : Option Line). get (clean_line lines n o) n) found ∙ get-insert_same lines n (record { payload = line.payload; dirty = false })

pub get-clean_other : (lines : LineMap) (n m : ℕ) (line : Line) → get lines n ≡ Some line → m ≢ n → get (with_clean lines n) m ≡ get lines m
get-clean_other lines n m line found apart =
    ap (λ (o : Option Line). get (clean_line lines n o) m) found ∙ get-insert_other lines n m (record { payload = line.payload; dirty = false }) apart

pub writes-back : (layout : Layout) (veiled : ℕ → ℕ → List ℕ → List ℕ) (old middle new : LineMap) (old_root new_root : List ℕ) (old_trace new_trace : List Event)
    (n stamp last : ℕ) (payload left digest : List ℕ) → stamp ≡ last → digest ≡ block_digest n (record { payload = left; stamp = stamp }) → payload_at old n ≡ Some payload → left ≡ veiled n stamp payload → middle ≡ with_clean old n
    → ((m : ℕ) (line : Line) → get old m ≡ Some line → length line.payload ≡ 64)
    → Appends (BlockWrite (Tree n) (record { payload = left; stamp = stamp })) old_trace new_trace
    → KeepsDigest layout middle new old_root new_root digest n
    → WritesBack (scheme_of layout veiled) (state_of old old_root old_trace) (state_of new new_root new_trace) last n
unfolding scheme_of
writes-back layout veiled old middle new old_root new_root old_trace new_trace n stamp last payload left digest next is_digest held veil clean long event keeps =
    let at = line-held old n payload held in
    let block : Block = record { payload = left; stamp = stamp } in
    let parent_apart : 0 < n → parent_in 3 n ≢ n = (λ (above : 0 < n) (same : parent_in 3 n ≡ n). omega (arith, parent-less n above, same)) in
    let middle_here : get middle n ≡ Some (record { payload = at.0.payload; dirty = false }) = ap (λ (l : LineMap). get l n) clean ∙ get-clean old n at.0 at.1 in
    let middle_other : (m : ℕ) → m ≢ n → get middle m ≡ get old m = (λ (m : ℕ) (apart : m ≢ n). ap (λ (l : LineMap). get l m) clean ∙ get-clean_other old n m at.0 at.1 apart) in
    record {
      line = at.0;
      block = block;
      stamped = next;
      step = record {
        held = at.1;
        payload = veil ∙ ap (λ (xs : List ℕ). veiled n stamp xs) (sym at.2);
        event = event;
        here =
            elim (cases_eq n 0) [
              | inl root ↦ ap (λ (l : LineMap). get l n) (keeps.root root).1 ∙ middle_here
              | inr other ↦
                  let above : 0 < n = omega (arith, other) in
                  let set = keeps.slot above in
                  ap (λ (l : LineMap). get l n) set.1.2
                  ∙ get-insert_other middle (parent_in 3 n) n (record { payload = bytes_put (20 * slot_in 3 n) digest set.1.0; dirty = true })
                  (λ (same : n ≡ parent_in 3 n). parent_apart above (sym same))
                  ∙ middle_here
            ];
        other = λ m not_self not_parent.
            elim (cases_eq n 0) [
              | inl root ↦ ap (λ (l : LineMap). get l m) (keeps.root root).1 ∙ middle_other m not_self
              | inr other ↦
                  let above : 0 < n = omega (arith, other) in
                  let set = keeps.slot above in
                  ap (λ (l : LineMap). get l m) set.1.2
                  ∙ get-insert_other middle (parent_in 3 n) m (record { payload = bytes_put (20 * slot_in 3 n) digest set.1.0; dirty = true }) (not_parent above)
                  ∙ middle_other m not_self
            ];
        root = λ root. (keeps.root root).0 ∙ is_digest;
        same_root = λ above. (keeps.slot above).0;
        above = λ above.
            let set = keeps.slot above in
            let parent = line-held middle (parent_in 3 n) set.1.0 set.1.1 in
            let before : get old (parent_in 3 n) ≡ Some parent.0 = sym (middle_other (parent_in 3 n) (parent_apart above)) ∙ parent.1 in
            record {
              line = parent.0;
              held = before;
              payload = bytes_put (20 * slot_in 3 n) digest set.1.0;
              set = ap (λ (l : LineMap). get l (parent_in 3 n)) set.1.2
                  ∙ get-insert_same middle (parent_in 3 n) (record { payload = bytes_put (20 * slot_in 3 n) digest set.1.0; dirty = true });
              slot = subst (λ (xs : List ℕ). SlotSet (scheme_of layout veiled) n (block_digest n block) xs (bytes_put (20 * slot_in 3 n) digest set.1.0)) (sym parent.2)
                  (subst (λ (d : List ℕ). SlotSet (scheme_of layout veiled) n d set.1.0 (bytes_put (20 * slot_in 3 n) digest set.1.0)) is_digest
                  (slot-set layout veiled n digest set.1.0 above (ap (λ (d : List ℕ). length d) is_digest ∙ length-sha1 (block_string TREE_TAG n block))
                  (ap (λ (xs : List ℕ). length xs) (sym parent.2) ∙ long (parent_in 3 n) parent.0 before)));
            };
      };
    }

-- from the laws of a veil that has so many nodes
pub keeps-veil : (layout : Layout) (veiled : ℕ → ℕ → List ℕ → List ℕ) (nodes : ℕ) → nodes ≡ nodes_of layout
    → ((n stamp : ℕ) (payload : List ℕ) → length payload ≡ 64 → veiled n stamp (veiled n stamp payload) ≡ payload)
    → ((n stamp : ℕ) (payload : List ℕ) → length payload ≡ 64 → length (veiled n stamp payload) ≡ 64)
    → ((n stamp : ℕ) (payload : List ℕ) → n < nodes → veiled n stamp payload ≡ payload)
    → IsLawful (scheme_of layout veiled)
keeps-veil layout veiled nodes same inverse long bare =
    lawful layout veiled (record { inverse = inverse; long = long; bare = λ n stamp payload below. bare n stamp payload (subst (λ (k : ℕ). n < k) (sym same) below) })
