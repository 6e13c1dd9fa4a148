-- Paths from the root down to a block, in a tree of which each node has three children.
use Rattle.std.proofs.Common.{◌≡◌, ℕ, zero, suc, ◌+◌, ◌-◌, ◌<◌, Bool, true, false, List, [], ◌∷◌, ◌++◌, length, eqb, ◌||◌, refl, sym, ap, ◌∙◌, subst, inl, inr, arith, length-append}
use Rattle.std.specs.Prelude.{is_some, Contains, slice_index_or, if◌then◌else◌}
use Rattle.std.specs.List.{list_any}
use Rattle.std.proofs.lemmas.List.Folds.{list_any-append}
use Rattle.std.proofs.lemmas.List.Elements.{Contains-append_cases, Contains-append_left, Contains-append_right}
use Rattle.std.proofs.lemmas.Bool.{ne_eqb}
use Rattle.regions.specs.declared.layout.Layout.{Layout}
use Rattle.regions.specs.Tree.{height_of, leaf_of, parent_in, positions_of}
use Rattle.regions.proofs.TreeLaws.{level_start-suc, levels-apart}
use Rattle.line_cache.specs.LineMaps.{HasParent, HoldParents, Holds, LineMap, parent_block}
use Rattle.hash_tree.specs.CachedLines.{Held, held_in}
use Rattle.hash_tree.specs.Paths.{IsAtDepth, path_in}
use Rattle.hash_tree.specs.TreeSteps.{uncached}

-- ---- depths

pub depth-zero : (depth block : ℕ) → depth ≡ 0 → IsAtDepth 3 depth block → block ≡ 0
depth-zero zero block same at = let below : block < 1 = at.below in omega (arith, below)
depth-zero (suc depth) block same at = absurd (omega (arith, same))

pub depth-positive : (depth block : ℕ) → 0 < depth → IsAtDepth 3 depth block → 0 < block
depth-positive zero block some at = absurd (omega (arith, some))
depth-positive (suc depth) block some at = omega (arith, level_start-suc 3 depth, at.from)

level-parent : (depth block : ℕ) → IsAtDepth 3 (suc depth) block → IsAtDepth 3 depth (parent_in 3 block)
level-parent depth block at =
    let first = level_start-suc 3 depth in
    let next = level_start-suc 3 (suc depth) in
    record { from = omega (arith, first, at.from); below = omega (arith, first, next, at.from, at.below) }

-- one less than the next number
less-one : (n : ℕ) → n ≡ suc n - 1
less-one n = omega arith

pub depth-parent : (depth block : ℕ) → 0 < depth → IsAtDepth 3 depth block → IsAtDepth 3 (depth - 1) (parent_in 3 block)
depth-parent zero block some at = absurd (omega (arith, some))
depth-parent (suc depth) block some at = subst (λ (d : ℕ). IsAtDepth 3 d (parent_in 3 block)) (less-one depth) (level-parent depth block at)

pub leaf-depth : (layout : Layout) (position : ℕ) → position < positions_of layout → IsAtDepth 3 (height_of layout) (leaf_of layout position)
leaf-depth layout position below = record { from = omega arith; below = levels-apart 3 (height_of layout) position below }

pub load-depth : (layout : Layout) (position depth block : ℕ) → depth ≡ height_of layout → block ≡ leaf_of layout position → position < positions_of layout → IsAtDepth 3 depth block
load-depth layout position depth block same_depth same_block below =
    subst (λ (d : ℕ). IsAtDepth 3 d block) (sym same_depth)
    (subst (λ (b : ℕ). IsAtDepth 3 (height_of layout) b) (sym same_block) (leaf-depth layout position below))

pub parent-depth : (depth block parent : ℕ) → 0 < depth → IsAtDepth 3 depth block → parent ≡ parent_in 3 block → IsAtDepth 3 (depth - 1) parent
parent-depth depth block parent some at is = subst (λ (k : ℕ). IsAtDepth 3 (depth - 1) k) (sym is) (depth-parent depth block some at)

pub parent-pinned : (pinned : List ℕ) (depth block parent : ℕ) → 0 < depth → IsAtDepth 3 depth block → parent ≡ parent_in 3 block → HoldParents pinned → Contains pinned block
    → Contains pinned parent
parent-pinned pinned depth block parent some at is parents pin =
    subst (λ (k : ℕ). Contains pinned k) (sym is) (parents block pin (depth-positive depth block some at))

pub parent-inside : (block parent blocks : ℕ) → parent ≡ parent_in 3 block → block < blocks → parent < blocks
parent-inside block parent blocks is below = omega (arith, is, below)

-- ---- paths

pub path-zero : (depth block : ℕ) → depth ≡ 0 → path_in 3 depth block ≡ block ∷ []
path-zero zero block same = refl
path-zero (suc depth) block same = absurd (omega (arith, same))

pub path-step : (depth block : ℕ) → 0 < depth → path_in 3 depth block ≡ path_in 3 (depth - 1) (parent_in 3 block) ++ block ∷ []
path-step zero block some = absurd (omega (arith, some))
path-step (suc depth) block some = ap (λ (d : ℕ). path_in 3 d (parent_in 3 block) ++ block ∷ []) (less-one depth)

pub path-length : (depth block : ℕ) → length (path_in 3 depth block) ≡ depth + 1
path-length zero block = refl
path-length (suc depth) block = omega (arith, length-append (path_in 3 depth (parent_in 3 block)) (block ∷ []), path-length depth (parent_in 3 block))

one-contained : (at block : ℕ) → Contains (at ∷ []) block → at ≡ block
one-contained at block inside = by inside.0 inside.1 inside.2
  where
    by : (k : ℕ) → k < 1 → slice_index_or (at ∷ []) k block ≡ block → at ≡ block
    by zero below same = same
    by (suc k) below same = absurd (omega (arith, below))

one-contains : (at : ℕ) → Contains (at ∷ []) at
one-contains at = (0, omega arith, refl)

pub path-last : (depth block : ℕ) → Contains (path_in 3 depth block) block
path-last zero block = one-contains block
path-last (suc depth) block = Contains-append_right (path_in 3 depth (parent_in 3 block)) (block ∷ []) block (one-contains block)

-- a path has the parent of each of its blocks but the root
pub path-parents : (depth block : ℕ) → IsAtDepth 3 depth block → HoldParents (path_in 3 depth block)
path-parents zero block at n inside above =
    let e : block ≡ n = one-contained block n inside in
    let z : block ≡ 0 = depth-zero 0 block refl at in
    absurd (omega (arith, e, z, above))
path-parents (suc depth) block at n inside above =
    let front = path_in 3 depth (parent_in 3 block) in
    elim (Contains-append_cases front (block ∷ []) n inside) [
      | inl higher ↦ Contains-append_left front (block ∷ []) (parent_block n) (path-parents depth (parent_in 3 block) (level-parent depth block at) n higher above)
      | inr last ↦
          let e : block ≡ n = one-contained block n last in
          Contains-append_left front (block ∷ []) (parent_block n) (subst (λ (k : ℕ). Contains front (parent_in 3 k)) e (path-last depth (parent_in 3 block)))
    ]

-- so have other blocks and a path, where the others have
pub pinned-parents : (pinned : List ℕ) (depth block : ℕ) → HoldParents pinned → IsAtDepth 3 depth block → HoldParents (pinned ++ path_in 3 depth block)
pinned-parents pinned depth block parents at n inside above =
    let path = path_in 3 depth block in
    elim (Contains-append_cases pinned path n inside) [
      | inl other ↦ Contains-append_left pinned path (parent_block n) (parents n other above)
      | inr mine ↦ Contains-append_right pinned path (parent_block n) (path-parents depth block at n mine above)
    ]

pub pinned-last : (pinned : List ℕ) (depth block : ℕ) → Contains (pinned ++ path_in 3 depth block) block
pinned-last pinned depth block = Contains-append_right pinned (path_in 3 depth block) block (path-last depth block)

-- ---- those that have no line

uncached-cons : (lines : Held) (b : Bool) (n : ℕ) (xs ys : List ℕ) → (if b then xs ++ ys else n ∷ (xs ++ ys)) ≡ (if b then xs else n ∷ xs) ++ ys
uncached-cons lines true n xs ys = refl
uncached-cons lines false n xs ys = refl

pub uncached-append : (lines : Held) (xs ys : List ℕ) → uncached lines (xs ++ ys) ≡ uncached lines xs ++ uncached lines ys
uncached-append lines [] ys = refl
uncached-append lines (n ∷ xs) ys =
    ap (λ (zs : List ℕ). if is_some (lines n) then zs else n ∷ zs) (uncached-append lines xs ys)
    ∙ uncached-cons lines (is_some (lines n)) n (uncached lines xs) (uncached lines ys)

or-neither : (a b : Bool) → a ≡ false → b ≡ false → (a || b) ≡ false
or-neither true b no_a no_b = cc
or-neither false b no_a no_b = no_b

eqb-apart : (m n : ℕ) → m < n → eqb m n ≡ false
eqb-apart m n below = ne_eqb m n (λ (same : m ≡ n). omega (arith, below, same))

last-absent : (held : Bool) (at block : ℕ) → at < block → list_any (λ (m : ℕ). eqb m block) (if held then [] else at ∷ []) ≡ false
last-absent true at block below = refl
last-absent false at block below = or-neither (eqb at block) false (eqb-apart at block below) refl

-- a block after the last one of a path is none of it
pub path-absent : (lines : Held) (depth at block : ℕ) → at < block → list_any (λ (m : ℕ). eqb m block) (uncached lines (path_in 3 depth at)) ≡ false
path-absent lines zero at block below = last-absent (is_some (lines at)) at block below
path-absent lines (suc depth) at block below =
    let front = path_in 3 depth (parent_in 3 at) in
    ap (λ (xs : List ℕ). list_any (λ (m : ℕ). eqb m block) xs) (uncached-append lines front (at ∷ []))
    ∙ list_any-append (λ (m : ℕ). eqb m block) (uncached lines front) (uncached lines (at ∷ []))
    ∙ or-neither (list_any (λ (m : ℕ). eqb m block) (uncached lines front)) (list_any (λ (m : ℕ). eqb m block) (uncached lines (at ∷ [])))
    (path-absent lines depth (parent_in 3 at) block (omega (arith, below))) (last-absent (is_some (lines at)) at block below)

-- the blocks of the path of a block that has a line have lines, where each line's parent has one
pub uncached-held : (lines : LineMap) (depth block : ℕ) → IsAtDepth 3 depth block → ((n : ℕ) → Holds lines n → HasParent lines n) → Holds lines block
    → [] ≡ uncached (held_in lines) (path_in 3 depth block)
uncached-held lines zero block at parents held = ap (λ (b : Bool). if b then [] else block ∷ []) (sym held)
uncached-held lines (suc depth) block at parents held =
    let above = depth-positive (suc depth) block (omega arith) at in
    let front = path_in 3 depth (parent_in 3 block) in
    let first : [] ≡ uncached (held_in lines) front = uncached-held lines depth (parent_in 3 block) (level-parent depth block at) parents (parents block held above) in
    let last : [] ≡ uncached (held_in lines) (block ∷ []) = ap (λ (b : Bool). if b then [] else block ∷ []) (sym held) in
    last ∙ ap (λ (xs : List ℕ). xs ++ uncached (held_in lines) (block ∷ [])) first ∙ sym (uncached-append (held_in lines) front (block ∷ []))
