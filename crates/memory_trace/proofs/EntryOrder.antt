-- In which order entering reads and writes: static blocks are read by their numbers, and each before it is written.
use Rattle.std.proofs.Common.{◌≡◌, ◌≢◌, ℕ, zero, suc, ◌+◌, ◌-◌, ◌*◌, ◌<◌, ◌≤◌, max, Bool, true, false, cond, List, [], ◌∷◌, ◌++◌, map, Option, Some, None, refl, sym, ap, ◌∙◌, subst, arith}
use Rattle.std.specs.Prelude.{filter_map}
use Rattle.std.specs.List.{All, cons_option}
use Rattle.std.proofs.lemmas.List.{append-nil}
use Rattle.std.proofs.lemmas.List.Elements.{All-append, All-cons, All-head, All-nil, All-push, All-tail, All-weaker, filter_map-append}
use Rattle.aegis_num.specs.declared.Block.{Block}
use Rattle.aegis_num.specs.declared.Place.TheVariants.{Tree, Log}
use Rattle.regions.specs.declared.Layout.{Layout}
use Rattle.regions.specs.Tree.{height_of}
use Rattle.off_chip.specs.declared.Event.{Event}
use Rattle.off_chip.specs.declared.Event.TheVariants.{BlockRead, BlockWrite, Note, WordRead, WordWrite}
use Rattle.off_chip.specs.BlockPlaces.{first_static}
use Rattle.off_chip.specs.OffChipBytes.{static_blocks}
use Rattle.off_chip.specs.WriteBacks.{written_at}
use Rattle.off_chip.proofs.WriteLemmas.{same_place-apart}
use Rattle.hash_tree.specs.Entering.{BlockMove, entry_moves, first_leaf, is_static, move_of, moves_below, no_move, reads_block, statics_before, writes_block}
use Rattle.hash_tree.proofs.EntryNumbers.{Parts, parts, whole}
use Rattle.hash_tree.proofs.UnderLemmas.{before-other, before-static, static-at}

-- ---- the numbers of what is read

abbrev pub read_number : BlockMove → Option ℕ
read_number (reads_block m) = Some m
read_number move = None

-- numbers from one on, so many of them
abbrev pub numbers : ℕ → ℕ → List ℕ
numbers from zero = []
numbers from (suc count) = from ∷ numbers (suc from) count

numbers-both : (from one other : ℕ) → numbers from one ++ numbers (from + one) other ≡ numbers from (one + other)
numbers-both from zero other =
    let a : from + 0 ≡ from = omega arith in
    let b : other ≡ 0 + other = omega arith in
    ap (λ (k : ℕ). numbers k other) a ∙ ap (λ (k : ℕ). numbers from k) b
numbers-both from (suc one) other =
    let a : from + suc one ≡ suc from + one = omega arith in
    let b : suc (one + other) ≡ suc one + other = omega arith in
    ap (λ (k : ℕ). from ∷ (numbers (suc from) one ++ numbers k other)) a ∙ ap (λ (ns : List ℕ). from ∷ ns) (numbers-both (suc from) one other)
    ∙ ap (λ (k : ℕ). numbers from k) b

-- what is read below a block: the static blocks among its leaves, by their numbers
record ReadsBelow (layout : Layout) (levels n : ℕ) : Type 0 where
  count : ℕ
  counted : statics_before layout (first_leaf levels (n + 1)) ≡ statics_before layout (first_leaf levels n) + count
  reads : filter_map read_number (moves_below layout levels n) ≡ numbers (first_static layout + statics_before layout (first_leaf levels n)) count

leaf-reads : (layout : Layout) (n : ℕ) (b : Bool) → is_static layout n ≡ b → ReadsBelow layout zero n
leaf-reads layout n true is =
    let at = static-at layout n is in
    let e : n ≡ first_static layout + statics_before layout n = omega (arith, at.from, at.below) in
    record {
      count = 1;
      counted = before-static layout n is;
      reads = ap (λ (b : Bool). filter_map read_number (cond b (reads_block n ∷ writes_block n ∷ []) (writes_block n ∷ []))) is
          ∙ ap (λ (k : ℕ). k ∷ []) e;
    }
leaf-reads layout n false is = record {
  count = 0;
  counted = before-other layout n is ∙ omega arith;
  reads = ap (λ (b : Bool). filter_map read_number (cond b (reads_block n ∷ writes_block n ∷ []) (writes_block n ∷ []))) is;
}

join-reads : (first a b one other : ℕ) (xs ys : List BlockMove) → b ≡ a + one → filter_map read_number xs ≡ numbers (first + a) one → filter_map read_number ys ≡ numbers (first + b) other
    → filter_map read_number (xs ++ ys) ≡ numbers (first + a) (one + other)
join-reads first a b one other xs ys next left right =
    let e : first + b ≡ first + a + one = omega (arith, next) in
    filter_map-append read_number xs ys ∙ ap (λ (ns : List ℕ). ns ++ filter_map read_number ys) left
    ∙ ap (λ (ns : List ℕ). numbers (first + a) one ++ ns) (right ∙ ap (λ (k : ℕ). numbers k other) e) ∙ numbers-both (first + a) one other

reads-below : (layout : Layout) (levels n : ℕ) → ReadsBelow layout levels n
reads-below layout zero n = leaf-reads layout n (is_static layout n) refl
reads-below layout (suc levels) n =
    by (parts layout (suc levels) n (λ same. omega (arith, same))) (reads-below layout levels (3 * n + 1)) (reads-below layout levels (3 * n + 2)) (reads-below layout levels (3 * n + 3))
  where
    by : Parts layout (suc levels) (suc levels - 1) n → ReadsBelow layout levels (3 * n + 1) → ReadsBelow layout levels (3 * n + 2) → ReadsBelow layout levels (3 * n + 3)
        → ReadsBelow layout (suc levels) n
    by p one two three =
        let lower : suc levels - 1 ≡ levels = omega arith in
        let q : Parts layout (suc levels) levels n = subst (λ (d : ℕ). Parts layout (suc levels) d n) lower p in
        let sb = λ (k : ℕ). statics_before layout k in
        let second : sb (first_leaf levels (3 * n + 2)) ≡ sb (first_leaf levels (3 * n + 1)) + one.count = sym (ap sb q.second) ∙ one.counted in
        let third : sb (first_leaf levels (3 * n + 3)) ≡ sb (first_leaf levels (3 * n + 2)) + two.count = sym (ap sb q.third) ∙ two.counted in
        let both = join-reads (first_static layout) (sb (first_leaf levels (3 * n + 1))) (sb (first_leaf levels (3 * n + 2))) one.count two.count
        (moves_below layout levels (3 * n + 1)) (moves_below layout levels (3 * n + 2)) second one.reads two.reads in
        let all = join-reads (first_static layout) (sb (first_leaf levels (3 * n + 1))) (sb (first_leaf levels (3 * n + 3))) (one.count + two.count) three.count
        (moves_below layout levels (3 * n + 1) ++ moves_below layout levels (3 * n + 2)) (moves_below layout levels (3 * n + 3)) (omega (arith, second, third)) both three.reads in
        record {
          count = one.count + two.count + three.count;
          counted = ap sb q.last ∙ omega (arith, three.counted, third, second);
          reads = filter_map-append read_number
              ((moves_below layout levels (3 * n + 1) ++ moves_below layout levels (3 * n + 2)) ++ moves_below layout levels (3 * n + 3)) (writes_block n ∷ [])
              ∙ append-nil (filter_map read_number ((moves_below layout levels (3 * n + 1) ++ moves_below layout levels (3 * n + 2)) ++ moves_below layout levels (3 * n + 3)))
              ∙ all;
        }

-- the whole tree
pub entry-reads : (layout : Layout) → filter_map read_number (entry_moves layout) ≡ numbers (first_static layout) (static_blocks layout)
entry-reads layout =
    let below = reads-below layout (height_of layout) 0 in
    let w = whole layout (height_of layout) refl in
    let count : below.count ≡ static_blocks layout = omega (arith, below.counted, w.none_before, w.all_before) in
    let from : first_static layout + statics_before layout (first_leaf (height_of layout) 0) ≡ first_static layout = omega (arith, w.none_before) in
    below.reads ∙ ap (λ (k : ℕ). numbers k below.count) from ∙ ap (λ (k : ℕ). numbers (first_static layout) k) count

-- ---- what was written before a read

-- where all blocks that were written so far are below a number, each block that is read is no smaller than all that were written before it
abbrev pub Ascends : ℕ → List BlockMove → Type 0
Ascends bound [] = Unit {0}
Ascends bound (reads_block m ∷ rest) = (bound ≤ m) × Ascends bound rest
Ascends bound (writes_block m ∷ rest) = Ascends (max bound (suc m)) rest
Ascends bound (no_move ∷ rest) = Ascends bound rest

-- a move that writes no block from a number on
abbrev WritesBelow : ℕ → BlockMove → Type 0
WritesBelow bound (writes_block m) = m < bound
WritesBelow bound move = Unit {0}

ascends-lower : (low high : ℕ) (moves : List BlockMove) → low ≤ high → Ascends high moves → Ascends low moves
ascends-lower low high [] less ascends = tt
ascends-lower low high (reads_block m ∷ rest) less ascends = (omega (arith, less, ascends.0), ascends-lower low high rest less ascends.1)
ascends-lower low high (writes_block m ∷ rest) less ascends = ascends-lower (max low (suc m)) (max high (suc m)) rest (omega (arith, less)) ascends
ascends-lower low high (no_move ∷ rest) less ascends = ascends-lower low high rest less ascends

ascends-both : (low high : ℕ) (xs ys : List BlockMove) → low ≤ high → Ascends low xs → All (WritesBelow high) xs → Ascends high ys → Ascends low (xs ++ ys)
ascends-both low high [] ys less one below other = ascends-lower low high ys less other
ascends-both low high (reads_block m ∷ xs) ys less one below other =
    (one.0, ascends-both low high xs ys less one.1 (All-tail (WritesBelow high) (reads_block m) xs below) other)
ascends-both low high (writes_block m ∷ xs) ys less one below other =
    let here : m < high = All-head (WritesBelow high) (writes_block m) xs below in
    ascends-both (max low (suc m)) high xs ys (omega (arith, less, here)) one (All-tail (WritesBelow high) (writes_block m) xs below) other
ascends-both low high (no_move ∷ xs) ys less one below other = ascends-both low high xs ys less one (All-tail (WritesBelow high) no_move xs below) other

below-higher : (low high : ℕ) (moves : List BlockMove) → low ≤ high → All (WritesBelow low) moves → All (WritesBelow high) moves
below-higher low high moves less below = All-weaker (WritesBelow low) (WritesBelow high) (λ (move : BlockMove) (is : WritesBelow low move). one move is) moves below
  where
    one : (move : BlockMove) → WritesBelow low move → WritesBelow high move
    one (writes_block m) is = omega (arith, is, less)
    one (reads_block m) is = tt
    one no_move is = tt

record AscendsBelow (layout : Layout) (levels n : ℕ) : Type 0 where
  ascends : Ascends (first_leaf levels n) (moves_below layout levels n)
  below : All (WritesBelow (first_leaf levels (n + 1))) (moves_below layout levels n)

leaf-ascends : (layout : Layout) (n : ℕ) (b : Bool) → Ascends n (cond b (reads_block n ∷ writes_block n ∷ []) (writes_block n ∷ []))
leaf-ascends layout n true = (omega arith, tt)
leaf-ascends layout n false = tt

leaf-below : (layout : Layout) (n : ℕ) (b : Bool) → All (WritesBelow (n + 1)) (cond b (reads_block n ∷ writes_block n ∷ []) (writes_block n ∷ []))
leaf-below layout n true =
    All-cons (WritesBelow (n + 1)) (reads_block n) (writes_block n ∷ []) tt (All-cons (WritesBelow (n + 1)) (writes_block n) [] (omega arith) (All-nil (WritesBelow (n + 1))))
leaf-below layout n false = All-cons (WritesBelow (n + 1)) (writes_block n) [] (omega arith) (All-nil (WritesBelow (n + 1)))

ascends-below : (layout : Layout) (levels n : ℕ) → AscendsBelow layout levels n
ascends-below layout zero n = record { ascends = leaf-ascends layout n (is_static layout n); below = leaf-below layout n (is_static layout n) }
ascends-below layout (suc levels) n =
    by (parts layout (suc levels) n (λ same. omega (arith, same))) (ascends-below layout levels (3 * n + 1)) (ascends-below layout levels (3 * n + 2)) (ascends-below layout levels (3 * n + 3))
  where
    by : Parts layout (suc levels) (suc levels - 1) n → AscendsBelow layout levels (3 * n + 1) → AscendsBelow layout levels (3 * n + 2) → AscendsBelow layout levels (3 * n + 3)
        → AscendsBelow layout (suc levels) n
    by p one two three =
        let lower : suc levels - 1 ≡ levels = omega arith in
        let q : Parts layout (suc levels) levels n = subst (λ (d : ℕ). Parts layout (suc levels) d n) lower p in
        let f1 : ℕ = first_leaf levels (3 * n + 1) in
        let f2 : ℕ = first_leaf levels (3 * n + 2) in
        let f3 : ℕ = first_leaf levels (3 * n + 3) in
        let f4 : ℕ = first_leaf levels (3 * n + 3 + 1) in
        let xs = moves_below layout levels (3 * n + 1) in
        let ys = moves_below layout levels (3 * n + 2) in
        let zs = moves_below layout levels (3 * n + 3) in
        let below_one : All (WritesBelow f2) xs = subst (λ (k : ℕ). All (WritesBelow k) xs) q.second one.below in
        let below_two : All (WritesBelow f3) ys = subst (λ (k : ℕ). All (WritesBelow k) ys) q.third two.below in
        let both : Ascends f1 (xs ++ ys) = ascends-both f1 f2 xs ys q.rises one.ascends below_one two.ascends in
        let below_both : All (WritesBelow f3) (xs ++ ys) = All-append (WritesBelow f3) xs ys (below-higher f2 f3 xs q.rises_more below_one) below_two in
        let all : Ascends f1 ((xs ++ ys) ++ zs) = ascends-both f1 f3 (xs ++ ys) zs (omega (arith, q.rises, q.rises_more)) both below_both three.ascends in
        let below_all : All (WritesBelow f4) ((xs ++ ys) ++ zs) = All-append (WritesBelow f4) (xs ++ ys) zs (below-higher f3 f4 (xs ++ ys) q.rises_last below_both) three.below in
        let node : n < f4 = omega (arith, q.few, q.last) in
        record {
          ascends = ascends-both f1 f4 ((xs ++ ys) ++ zs) (writes_block n ∷ []) (omega (arith, q.rises, q.rises_more, q.rises_last)) all below_all tt;
          below = subst (λ (k : ℕ). All (WritesBelow k) (((xs ++ ys) ++ zs) ++ writes_block n ∷ [])) (sym q.last)
              (All-push (WritesBelow f4) ((xs ++ ys) ++ zs) (writes_block n) below_all node);
        }

pub entry-ascends : (layout : Layout) → Ascends 0 (entry_moves layout)
entry-ascends layout = ascends-lower 0 (first_leaf (height_of layout) 0) (entry_moves layout) (omega arith) (ascends-below layout (height_of layout) 0).ascends

-- ---- of events

-- before a block is read it was not written
pub record FirstRead (bound m : ℕ) (between : List Event) : Type 0 where
  pub above : bound ≤ m
  pub unwritten : filter_map (written_at (Tree m)) between ≡ []

tree-apart : (m n : ℕ) → n < m → Tree m ≢ Tree n
tree-apart m n less same = let e : m ≡ n = cc in omega (arith, less, e)

pub first-read : (bound m : ℕ) (block : Block) (between last : List Event) → Ascends bound (map move_of (between ++ BlockRead (Tree m) block ∷ last)) → FirstRead bound m between
first-read bound m block [] last ascends = record { above = ascends.0; unwritten = refl }
first-read bound m block (BlockRead (Tree k) other ∷ between) last ascends =
    let rest = first-read bound m block between last ascends.1 in record { above = rest.above; unwritten = rest.unwritten }
first-read bound m block (BlockWrite (Tree k) other ∷ between) last ascends =
    let rest = first-read (max bound (suc k)) m block between last ascends in
    let less : k < m = omega (arith, rest.above) in
    record {
      above = omega (arith, rest.above);
      unwritten = ap (λ (b : Bool). cons_option (cond b (Some other) None) (filter_map (written_at (Tree m)) between)) (same_place-apart (Tree m) (Tree k) (tree-apart m k less)) ∙ rest.unwritten;
    }
first-read bound m block (BlockRead (Log k) other ∷ between) last ascends =
    let rest = first-read bound m block between last ascends in record { above = rest.above; unwritten = rest.unwritten }
first-read bound m block (BlockWrite (Log k) other ∷ between) last ascends =
    let rest = first-read bound m block between last ascends in record { above = rest.above; unwritten = rest.unwritten }
first-read bound m block (WordRead by at word ∷ between) last ascends =
    let rest = first-read bound m block between last ascends in record { above = rest.above; unwritten = rest.unwritten }
first-read bound m block (WordWrite by at word ∷ between) last ascends =
    let rest = first-read bound m block between last ascends in record { above = rest.above; unwritten = rest.unwritten }
first-read bound m block (Note mark ∷ between) last ascends =
    let rest = first-read bound m block between last ascends in record { above = rest.above; unwritten = rest.unwritten }
