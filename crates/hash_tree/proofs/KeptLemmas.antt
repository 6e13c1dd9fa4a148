-- What a comparison with the digest that is kept of a block tells.
use Rattle.std.proofs.Common.{◌≡◌, ℕ, ◌+◌, ◌-◌, ◌*◌, ◌<◌, Bool, true, false, List, take, drop, Some, refl, sym, ap, ◌∙◌, arith, rules}
use Rattle.std.specs.Prelude.{◌≢◌}
use Rattle.std.specs.FinMap.{contains_key, get, insert, len, gets}
use Rattle.std.specs.Str.{bytes_eq}
use Rattle.std.proofs.lemmas.Slice.Eq.{bytes_eq-Decides}
use Rattle.regions.specs.declared.layout.Layout.{Layout}
use Rattle.regions.specs.Tree.{parent_in, slot_in}
use Rattle.off_chip.specs.OffChipBytes.{bytes_at}
use Rattle.aegis_num.specs.declared.storage.Block.{Block}
use Rattle.aegis_num.specs.declared.storage.Place.TheVariants.{Tree}
use Rattle.off_chip.specs.declared.event.Event.{Event}
use Rattle.off_chip.specs.declared.event.Event.TheVariants.{BlockRead}
use Rattle.off_chip.specs.HonestMemory.{IsWhole}
use Rattle.block_hash.specs.BlockStrings.{block_digest}
use Rattle.line_cache.specs.declared.lines.Line.{Line}
use Rattle.line_cache.proofs.MapLemmas.{get-insert_same, get-insert_other}
use Rattle.line_cache.specs.LineMaps.{LineMap, payload_at}
use Rattle.hash_tree.specs.HashTrees.{scheme_of, state_of}
use Rattle.hash_tree.specs.Standing.{on_chip, in_parent}
use Rattle.hash_tree.specs.TreeSteps.{Appends, Reads, TellsKept}
use Rattle.hash_tree.proofs.SchemeLemmas.{line-held}

tells-same : (kept digest : List ℕ) (answer : Bool) → answer ≡ bytes_eq kept digest → answer ≡ true → digest ≡ kept
tells-same kept digest answer is yes' = sym ((bytes_eq-Decides kept digest).0 (sym is ∙ yes'))

tells-differs : (kept digest : List ℕ) (answer : Bool) → answer ≡ bytes_eq kept digest → answer ≡ false → digest ≢ kept
tells-differs kept digest answer is no' same = let e : true ≡ false = sym ((bytes_eq-Decides kept digest).1 (sym same)) ∙ sym is ∙ no' in cc

pub tells-root : (layout : Layout) (veiled : ℕ → ℕ → List ℕ → List ℕ) (lines : LineMap) (root : List ℕ) (n : ℕ) (digest : List ℕ) (answer : Bool) → n ≡ 0
    → answer ≡ bytes_eq root digest → TellsKept (scheme_of layout veiled) lines root n digest answer
tells-root layout veiled lines root n digest answer zero' is = record {
  kept = root;
  is_kept = λ trace. on_chip zero' refl;
  same = tells-same root digest answer is;
  differs = tells-differs root digest answer is;
}

pub tells-child : (layout : Layout) (veiled : ℕ → ℕ → List ℕ → List ℕ) (lines : LineMap) (root : List ℕ) (n parent slot : ℕ) (payload digest : List ℕ) (answer : Bool) → (n ≡ 0 → ⊥)
    → parent ≡ parent_in 3 n → slot ≡ slot_in 3 n → payload_at lines parent ≡ Some payload
    → answer ≡ bytes_eq (take ((20 * slot + 20) - 20 * slot) (drop (20 * slot) payload)) digest → TellsKept (scheme_of layout veiled) lines root n digest answer
unfolding scheme_of
tells-child layout veiled lines root n parent slot payload digest answer other is_parent is_slot held is =
    let above : 0 < n = omega (arith, other) in
    let line = line-held lines parent payload held in
    let twenty : (20 * slot + 20) - 20 * slot ≡ 20 = omega arith in
    let same : take ((20 * slot + 20) - 20 * slot) (drop (20 * slot) payload) ≡ bytes_at (20 * slot_in 3 n) 20 payload =
    ap (λ (k : ℕ). take k (drop (20 * slot) payload)) twenty ∙ ap (λ (k : ℕ). bytes_at (20 * k) 20 payload) is_slot in
    let told : answer ≡ bytes_eq (bytes_at (20 * slot_in 3 n) 20 payload) digest = is ∙ ap (λ (xs : List ℕ). bytes_eq xs digest) same in
    record {
      kept = bytes_at (20 * slot_in 3 n) 20 payload;
      is_kept = λ trace. in_parent line.0 above (ap (λ (k : ℕ). get lines k) (sym is_parent) ∙ line.1)
          (ap (λ (xs : List ℕ). bytes_at (20 * slot_in 3 n) 20 xs) (sym line.2));
      same = tells-same (bytes_at (20 * slot_in 3 n) 20 payload) digest answer told;
      differs = tells-differs (bytes_at (20 * slot_in 3 n) 20 payload) digest answer told;
    }

-- ---- a read

pub reads-differs : (layout : Layout) (veiled : ℕ → ℕ → List ℕ → List ℕ) (lines : LineMap) (root : List ℕ) (old_trace new_trace : List Event) (n : ℕ) (block : Block) (digest : List ℕ)
    → IsWhole block → Appends (BlockRead (Tree n) block) old_trace new_trace → digest ≡ block_digest n block → TellsKept (scheme_of layout veiled) lines root n digest false
    → Reads (scheme_of layout veiled) (state_of lines root old_trace) (state_of lines root new_trace) n false
unfolding scheme_of
reads-differs layout veiled lines root old_trace new_trace n block digest whole event is told = record {
  block = block;
  whole = whole;
  event = event;
  kept = told.kept;
  is_kept = told.is_kept old_trace;
  same = λ no'. let e : false ≡ true = no' in cc;
  differs = λ no'. ((λ same. told.differs refl (is ∙ same)), refl, refl);
}

pub reads-same : (layout : Layout) (veiled : ℕ → ℕ → List ℕ → List ℕ) (lines new : LineMap) (root : List ℕ) (old_trace new_trace : List Event) (n : ℕ) (block : Block) (digest payload : List ℕ)
    → IsWhole block → Appends (BlockRead (Tree n) block) old_trace new_trace → digest ≡ block_digest n block → TellsKept (scheme_of layout veiled) lines root n digest true
    → payload ≡ veiled n block.stamp block.payload → new ≡ insert lines n (record { payload = payload; dirty = false })
    → Reads (scheme_of layout veiled) (state_of lines root old_trace) (state_of new root new_trace) n true
unfolding scheme_of
reads-same layout veiled lines new root old_trace new_trace n block digest payload whole event is told veil same = record {
  block = block;
  whole = whole;
  event = event;
  kept = told.kept;
  is_kept = told.is_kept old_trace;
  same = λ yes'. (
    sym is ∙ told.same refl,
    record {
      event = event;
      root = refl;
      lines = record {
        here = ap (λ (l : LineMap). get l n) same ∙ get-insert_same lines n (record { payload = payload; dirty = false })
            ∙ ap (λ (xs : List ℕ). Some (record { payload = xs; dirty = false })) veil;
        other = λ m apart. ap (λ (l : LineMap). get l m) same ∙ get-insert_other lines n m (record { payload = payload; dirty = false }) apart;
      };
    },
  );
  differs = λ no'. let e : true ≡ false = no' in cc;
}

pub len-inserted : (lines new : LineMap) (n : ℕ) (line : Line) → contains_key lines n ≡ false → new ≡ insert lines n line → len new ≡ len lines + 1
len-inserted lines new n line absent same = ap (λ (l : LineMap). len l) same ∙ len-absent lines n line absent
  where
    len-absent : (lines : LineMap) (n : ℕ) (line : Line) → contains_key lines n ≡ false → len (insert lines n line) ≡ len lines + 1
    len-absent lines n line absent = grind (gets, rules)
