-- The static blocks that are read where a program is entered: in order, and before they are written.
use Rattle.std.proofs.Common.{◌≡◌, ◌≢◌, ℕ, zero, suc, ◌+◌, ◌*◌, ◌<◌, ◌≤◌, ◌⊎◌, Bool, true, false, List, [], ◌∷◌, ◌++◌, Some, None, refl, sym, ap, ◌∙◌, subst, arith, inl, inr}
use Rattle.std.specs.Prelude.{filter_map, if◌then◌else◌, map, slice_get}
use Rattle.aegis_num.specs.declared.storage.Block.{Block}
use Rattle.aegis_num.specs.declared.storage.Place.TheVariants.{Log, Tree}
use Rattle.regions.specs.declared.layout.Layout.{Layout}
use Rattle.regions.specs.Tree.{height_of, tree_blocks}
use Rattle.off_chip.specs.declared.event.Event.{Event}
use Rattle.off_chip.specs.declared.event.Event.TheVariants.{BlockRead, BlockWrite, WordRead, WordWrite, Note}
use Rattle.off_chip.specs.BlockPlaces.{first_static}
use Rattle.off_chip.specs.Boundaries.{payload_read}
use Rattle.off_chip.specs.Histories.{History, ◌◂◌, followed}
use Rattle.off_chip.specs.WriteBacks.{last_write}
use Rattle.off_chip.proofs.WriteLemmas.{last_write-elsewhere}
use Rattle.hash_tree.specs.Entering.{BlockMove, entry_moves, first_leaf, is_static, move_of, moves_below, no_move, reads_block, statics_before, writes_block}
use Rattle.hash_tree.specs.HashTrees.{nodes_of}
use Rattle.hash_tree.proofs.EntryNumbers.{whole}
use Rattle.hash_tree.proofs.SchemeLemmas.{blocks-three}
use Rattle.hash_tree.proofs.UnderLemmas.{before-other, before-static, first_leaf-from, first_leaf-next, static-at}

-- ---- the moves of entering

-- The blocks that are read have these numbers, one after another; and each is read before it or a later block of the lowest level is written. The first
-- two numbers after that of the nodes bound the blocks of the lowest level, the last two those that are read.
abbrev pub Runs : ℕ → ℕ → ℕ → ℕ → ℕ → List BlockMove → Type 0
Runs nodes from to first last [] = (from ≡ to) × (first ≡ last)
Runs nodes from to first last (reads_block n ∷ moves) = (n ≡ first) × (from ≤ n) × (nodes ≤ n) × Runs nodes from to (first + 1) last moves
Runs nodes from to first last (writes_block n ∷ moves) = ((n < nodes) × Runs nodes from to first last moves) ⊎ ((from ≤ n) × Runs nodes (n + 1) to first last moves)
Runs nodes from to first last (no_move ∷ moves) = ⊥

runs-append : (nodes a b c f g h : ℕ) (moves more : List BlockMove) → Runs nodes a b f g moves → Runs nodes b c g h more → Runs nodes a c f h (moves ++ more)
runs-append nodes a b c f g h [] more one other =
    subst (λ (x : ℕ). Runs nodes x c f h more) (sym one.0) (subst (λ (x : ℕ). Runs nodes b c x h more) (sym one.1) other)
runs-append nodes a b c f g h (reads_block n ∷ moves) more one other = (one.0, one.1, one.2, runs-append nodes a b c (f + 1) g h moves more one.3 other)
runs-append nodes a b c f g h (writes_block n ∷ moves) more one other =
    elim one [
      | inl node ↦ inl (node.0, runs-append nodes a b c f g h moves more node.1 other)
      | inr leaf ↦ inr (leaf.0, runs-append nodes (n + 1) b c f g h moves more leaf.1 other)
    ]
runs-append nodes a b c f g h (no_move ∷ moves) more one other = absurd one

rising : (levels n m : ℕ) → n + 1 ≡ m → first_leaf levels n ≤ first_leaf levels m
rising levels n m next =
    let more = first_leaf-next levels n in
    let same = ap (λ (k : ℕ). first_leaf levels k) next in
    omega (arith, more, same)

-- those below a block, up to the next one
abbrev RunsBelow : Layout → ℕ → ℕ → ℕ → Type 0
RunsBelow layout levels n m =
    Runs (nodes_of layout) (first_leaf levels n) (first_leaf levels m) (first_static layout + statics_before layout (first_leaf levels n))
    (first_static layout + statics_before layout (first_leaf levels m)) (moves_below layout levels n)

leaf-runs : (layout : Layout) (n m : ℕ) → n + 1 ≡ m → nodes_of layout ≤ n → RunsBelow layout zero n m
leaf-runs layout n m next leaf = by (is_static layout n) refl
  where
    by : (b : Bool) → is_static layout n ≡ b
        → Runs (nodes_of layout) n m (first_static layout + statics_before layout n) (first_static layout + statics_before layout m)
        (if b then reads_block n ∷ writes_block n ∷ [] else writes_block n ∷ [])
    by true is =
        let at = static-at layout n is in
        let more = before-static layout n is in
        let here : n ≡ first_static layout + statics_before layout n = omega (arith, at.from, at.below) in
        let end : first_static layout + statics_before layout n + 1 ≡ first_static layout + statics_before layout m =
        omega (arith, more, ap (λ (k : ℕ). statics_before layout k) next) in
        (here, omega arith, leaf, inr (omega arith, (next, end)))
    by false is =
        let same = before-other layout n is in
        let end : first_static layout + statics_before layout n ≡ first_static layout + statics_before layout m =
        omega (arith, same, ap (λ (k : ℕ). statics_before layout k) next) in
        inr (omega arith, (next, end))

runs-below : (layout : Layout) (levels n m : ℕ) → n + 1 ≡ m → nodes_of layout ≤ first_leaf levels n → first_leaf levels m ≤ tree_blocks layout → RunsBelow layout levels n m
runs-below layout zero n m next leaf inside = leaf-runs layout n m next leaf
runs-below layout (suc levels) n m next leaf inside =
    let B : ℕ → ℕ = λ k. first_leaf levels k in
    let S : ℕ → ℕ = λ k. first_static layout + statics_before layout (first_leaf levels k) in
    let e : 3 * n + 3 + 1 ≡ 3 * m + 1 = omega (arith, next) in
    let r1 = rising levels (3 * n + 1) (3 * n + 2) (omega arith) in
    let r2 = rising levels (3 * n + 2) (3 * n + 3) (omega arith) in
    let r3 = rising levels (3 * n + 3) (3 * m + 1) e in
    let few = first_leaf-from levels (3 * m + 1) in
    let node : n < nodes_of layout = omega (arith, few, inside, next, blocks-three layout) in
    let first : RunsBelow layout levels (3 * n + 1) (3 * n + 2) = runs-below layout levels (3 * n + 1) (3 * n + 2) (omega arith) leaf (omega (arith, r2, r3, inside)) in
    let second : RunsBelow layout levels (3 * n + 2) (3 * n + 3) = runs-below layout levels (3 * n + 2) (3 * n + 3) (omega arith) (omega (arith, r1, leaf)) (omega (arith, r3, inside)) in
    let third : RunsBelow layout levels (3 * n + 3) (3 * m + 1) = runs-below layout levels (3 * n + 3) (3 * m + 1) e (omega (arith, r1, r2, leaf)) inside in
    runs-append (nodes_of layout) (B (3 * n + 1)) (B (3 * m + 1)) (B (3 * m + 1)) (S (3 * n + 1)) (S (3 * m + 1)) (S (3 * m + 1))
    ((moves_below layout levels (3 * n + 1) ++ moves_below layout levels (3 * n + 2)) ++ moves_below layout levels (3 * n + 3)) (writes_block n ∷ [])
    (runs-append (nodes_of layout) (B (3 * n + 1)) (B (3 * n + 3)) (B (3 * m + 1)) (S (3 * n + 1)) (S (3 * n + 3)) (S (3 * m + 1))
    (moves_below layout levels (3 * n + 1) ++ moves_below layout levels (3 * n + 2)) (moves_below layout levels (3 * n + 3))
    (runs-append (nodes_of layout) (B (3 * n + 1)) (B (3 * n + 2)) (B (3 * n + 3)) (S (3 * n + 1)) (S (3 * n + 2)) (S (3 * n + 3))
    (moves_below layout levels (3 * n + 1)) (moves_below layout levels (3 * n + 2)) first second) third)
    (inl (node, (refl, refl)))

-- those of the whole tree
pub record EntryRuns (layout : Layout) : Type 0 where
  pub from : ℕ
  pub to : ℕ
  pub last : ℕ
  pub runs : Runs (nodes_of layout) from to (first_static layout) last (entry_moves layout)

pub entry-runs : (layout : Layout) → EntryRuns layout
entry-runs layout =
    let all = whole layout (height_of layout) refl in
    let start : first_static layout + statics_before layout (first_leaf (height_of layout) 0) ≡ first_static layout = omega (arith, all.none_before) in
    let P : ℕ → Type 0 = λ x. Runs (nodes_of layout) (first_leaf (height_of layout) 0) (first_leaf (height_of layout) 1) x
    (first_static layout + statics_before layout (first_leaf (height_of layout) 1)) (entry_moves layout) in
    record {
      from = first_leaf (height_of layout) 0;
      to = first_leaf (height_of layout) 1;
      last = first_static layout + statics_before layout (first_leaf (height_of layout) 1);
      runs = subst P start (runs-below layout (height_of layout) 0 1 (omega arith) all.leaves all.inside);
    }

-- ---- the reads among the events

-- the read of a block with this payload, before which the block was not written
pub record FirstRead (older : History) (events : List Event) (n : ℕ) (payload : List ℕ) : Type 0 where
  pub before : List Event
  pub block : Block
  pub rest : List Event
  pub parts : events ≡ before ++ BlockRead (Tree n) block ∷ rest
  pub payload_is : block.payload ≡ payload
  pub unwritten : last_write (Tree n) (followed older before) ≡ None

later-read : (event : Event) (older : History) (events : List Event) (n : ℕ) (payload : List ℕ) → FirstRead (event ◂ older) events n payload → FirstRead older (event ∷ events) n payload
later-read event older events n payload read = record {
  before = event ∷ read.before;
  block = read.block;
  rest = read.rest;
  parts = ap (λ (es : List Event). event ∷ es) read.parts;
  payload_is = read.payload_is;
  unwritten = read.unwritten;
}

-- no block from this one on was written that is no node
abbrev Unwritten : ℕ → ℕ → History → Type 0
Unwritten nodes from older = (m : ℕ) → from ≤ m → nodes ≤ m → last_write (Tree m) older ≡ None

tree-apart : (m n : ℕ) → m ≢ n → Tree m ≢ Tree n
tree-apart m n differ same = let e : m ≡ n = cc in differ e

write-node : (nodes from n : ℕ) (block : Block) (older : History) → n < nodes → Unwritten nodes from older → Unwritten nodes from (BlockWrite (Tree n) block ◂ older)
write-node nodes from n block older node none m at leaf =
    last_write-elsewhere (Tree m) (Tree n) block older (tree-apart m n (λ (same : m ≡ n). let no : ⊥ = omega (arith, same, node, leaf) in no)) ∙ none m at leaf

write-leaf : (nodes from n : ℕ) (block : Block) (older : History) → from ≤ n → Unwritten nodes from older → Unwritten nodes (n + 1) (BlockWrite (Tree n) block ◂ older)
write-leaf nodes from n block older late none m at leaf =
    last_write-elsewhere (Tree m) (Tree n) block older (tree-apart m n (λ (same : m ≡ n). let no : ⊥ = omega (arith, same, at) in no)) ∙ none m (omega (arith, at, late)) leaf

pub first-read : (nodes from to first last : ℕ) (events : List Event) (older : History) (k n : ℕ) (payload : List ℕ) → n ≡ first + k → Runs nodes from to first last (map move_of events)
    → Unwritten nodes from older → slice_get (filter_map payload_read events) k ≡ Some payload → FirstRead older events n payload
first-read nodes from to first last [] older k n payload number runs none found = let e : None ≡ Some payload = found in cc
first-read nodes from to first last (BlockRead (Tree m) block ∷ events) older zero n payload number runs none found =
    let same : m ≡ n = omega (arith, number, runs.0) in
    record {
      before = [];
      block = block;
      rest = events;
      parts = ap (λ (x : ℕ). BlockRead (Tree x) block ∷ events) same;
      payload_is = (let e : Some block.payload ≡ Some payload = found in cc);
      unwritten = none n (omega (arith, same, runs.1)) (omega (arith, same, runs.2));
    }
first-read nodes from to first last (BlockRead (Tree m) block ∷ events) older (suc k) n payload number runs none found =
    later-read (BlockRead (Tree m) block) older events n payload
    (first-read nodes from to (first + 1) last events (BlockRead (Tree m) block ◂ older) k n payload (omega (arith, number)) runs.3 none found)
first-read nodes from to first last (BlockRead (Log m) block ∷ events) older k n payload number runs none found = absurd runs
first-read nodes from to first last (BlockWrite (Tree m) block ∷ events) older k n payload number runs none found =
    later-read (BlockWrite (Tree m) block) older events n payload
    (elim runs [
      | inl node ↦
          first-read nodes from to first last events (BlockWrite (Tree m) block ◂ older) k n payload number node.1 (write-node nodes from m block older node.0 none) found
      | inr leaf ↦
          first-read nodes (m + 1) to first last events (BlockWrite (Tree m) block ◂ older) k n payload number leaf.1 (write-leaf nodes from m block older leaf.0 none) found
    ])
first-read nodes from to first last (BlockWrite (Log m) block ∷ events) older k n payload number runs none found = absurd runs
first-read nodes from to first last (WordRead who at word ∷ events) older k n payload number runs none found = absurd runs
first-read nodes from to first last (WordWrite who at word ∷ events) older k n payload number runs none found = absurd runs
first-read nodes from to first last (Note mark ∷ events) older k n payload number runs none found = absurd runs
