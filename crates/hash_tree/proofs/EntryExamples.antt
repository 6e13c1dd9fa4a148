-- Two small layouts that are entered, and what each definition of entering says of it. The answers were worked out by hand from the rules.
use Rattle.std.proofs.Common.{◌≡◌, ℕ, zero, suc, ◌+◌, ◌<◌, ◌≤◌, true, false, List, [], ◌∷◌, ◌++◌, length, drop, replicate, Option, Some, None, refl, sym, ap, ◌∙◌, inl, inr, lit≤, lit<, arith, get_or}
use Rattle.std.specs.Prelude.{map, filter_map, slice_get}
use Rattle.std.specs.List.{All}
use Rattle.std.proofs.lemmas.List.Elements.{All-cons, All-nil}
use Rattle.aegis_num.specs.declared.storage.Block.{Block}
use Rattle.aegis_num.specs.declared.storage.Place.TheVariants.{Tree, Log}
use Rattle.regions.specs.declared.layout.Layout.{Layout}
use Rattle.regions.specs.Tree.{height_of}
use Rattle.off_chip.specs.declared.event.Event.{Event}
use Rattle.off_chip.specs.declared.event.Event.TheVariants.{BlockRead, BlockWrite, WordRead, Note}
use Rattle.off_chip.specs.declared.event.Mark.TheVariants.{Drop, Suspend}
use Rattle.off_chip.specs.declared.event.Who.TheVariants.{Secure}
use Rattle.off_chip.specs.Boundaries.{payload_read}
use Rattle.block_hash.specs.BlockStrings.{program_digest}
use Rattle.block_hash.proofs.StringLemmas.{length-sha1}
use Rattle.block_hash.specs.BlockStrings.{program_string}
use Rattle.hash_tree.specs.Entering.{BlockMove, reads_block, writes_block, no_move, move_of, is_static, leaf_moves, moves_below, entry_moves, Entered, IsUnder, statics_before, first_leaf, WritesPayload, WritesZeros}
use Rattle.hash_tree.specs.Standing.{State, contents}
use Rattle.hash_tree.proofs.Examples.{tree, leaf, node}

-- one verified and one code block: a node and three data blocks, of which block 2 is static
abbrev two_blocks : Layout
two_blocks = record { verified = 1; private = 0; constants = 0; code = 1; log = 0; shared = 0; data_fits = lit≤ tt; log_fits = lit≤ tt; shared_fits = lit≤ tt }

-- five data blocks of all classes: a tree of height 2, of whose blocks 4 to 12 blocks 7 and 8 are static
abbrev five_blocks : Layout
five_blocks = record { verified = 2; private = 1; constants = 1; code = 1; log = 3; shared = 4; data_fits = lit≤ tt; log_fits = lit≤ tt; shared_fits = lit≤ tt }

-- ---- which blocks are static

static-code : is_static two_blocks 2 ≡ true
unfolding height_of
static-code = refl

static-not_verified : is_static two_blocks 1 ≡ false
unfolding height_of
static-not_verified = refl

static-not_unused : is_static two_blocks 3 ≡ false
unfolding height_of
static-not_unused = refl

static-five : map (is_static five_blocks) (4 ∷ 5 ∷ 6 ∷ 7 ∷ 8 ∷ 9 ∷ 12 ∷ []) ≡ false ∷ false ∷ false ∷ true ∷ true ∷ false ∷ false ∷ []
unfolding height_of
static-five = refl

-- ---- in which order

moves-told : map move_of (BlockRead (Tree 3) (leaf 1 2) ∷ BlockWrite (Tree 4) (leaf 1 2) ∷ BlockRead (Log 3) (leaf 1 2) ∷ BlockWrite (Log 4) (leaf 1 2) ∷ Note (Drop (Tree 5)) ∷ Note Suspend ∷ WordRead Secure 0 1 ∷ [])
    ≡ reads_block 3 ∷ writes_block 4 ∷ no_move ∷ no_move ∷ no_move ∷ no_move ∷ no_move ∷ []
moves-told = refl

leaf-static : leaf_moves five_blocks 8 ≡ reads_block 8 ∷ writes_block 8 ∷ []
unfolding height_of
leaf-static = refl

leaf-other : leaf_moves five_blocks 9 ≡ writes_block 9 ∷ []
unfolding height_of
leaf-other = refl

order-two : entry_moves two_blocks ≡ writes_block 1 ∷ reads_block 2 ∷ writes_block 2 ∷ writes_block 3 ∷ writes_block 0 ∷ []
unfolding height_of
order-two = refl

order-below : moves_below five_blocks 1 2 ≡ reads_block 7 ∷ writes_block 7 ∷ reads_block 8 ∷ writes_block 8 ∷ writes_block 9 ∷ writes_block 2 ∷ []
unfolding height_of
order-below = refl

order-five : entry_moves five_blocks
    ≡ writes_block 4 ∷ writes_block 5 ∷ writes_block 6 ∷ writes_block 1 ∷ reads_block 7 ∷ writes_block 7 ∷ reads_block 8 ∷ writes_block 8 ∷ writes_block 9 ∷ writes_block 2
    ∷ writes_block 10 ∷ writes_block 11 ∷ writes_block 12 ∷ writes_block 3 ∷ writes_block 0 ∷ []
unfolding height_of
order-five = refl

-- ---- parts of a tree

under-root : IsUnder 2 0 9
under-root = inr (lit< tt, inr (lit< tt, refl))

under-node : IsUnder 1 2 9
under-node = inr (lit< tt, refl)

under-itself : IsUnder 1 2 2
under-itself = inl refl

-- too few levels, and another node
under-far : IsUnder 1 0 9 → ⊥
under-far (inl same) = omega (arith, same)
under-far (inr above) = let same : 2 ≡ 0 = above.1 in omega (arith, same)

under-other : IsUnder 1 1 9 → ⊥
under-other (inl same) = omega (arith, same)
under-other (inr above) = let same : 2 ≡ 1 = above.1 in omega (arith, same)

before-five : map (statics_before five_blocks) (4 ∷ 7 ∷ 8 ∷ 9 ∷ 12 ∷ []) ≡ 0 ∷ 0 ∷ 1 ∷ 2 ∷ 2 ∷ []
unfolding height_of
before-five = refl

first-root : first_leaf 2 0 ≡ 4
first-root = refl

first-node : first_leaf 1 2 ≡ 7
first-node = refl

first-itself : first_leaf 0 9 ≡ 9
first-itself = refl

-- ---- what is there then

abbrev head : Option (List ℕ) → ℕ
head (Some xs) = get_or xs 0 0
head None = 0

abbrev first : List BlockMove → ℕ
first (writes_block n ∷ moves) = n
first moves = 9

abbrev read : List ℕ
read = 12 ∷ replicate 63 0

-- what goes over the bus for the payload that was read, with this stamp
abbrev stored : ℕ → ℕ → Block
stored byte stamp = record { payload = replicate 63 0 ++ byte ∷ []; stamp = stamp }

abbrev root_block : Block
root_block = node (1 ∷ 1 ∷ 2 ∷ 2 ∷ 3 ∷ 3 ∷ []) 4

-- ---- where zeros are written

number-of : (n m : ℕ) (block other : Block) → BlockWrite (Tree n) block ≡ BlockWrite (Tree m) other → n ≡ m
number-of n m block other same = cc

block-of : (n m : ℕ) (block other : Block) → BlockWrite (Tree n) block ≡ BlockWrite (Tree m) other → block ≡ other
block-of n m block other same = cc

-- with the veil of the number and the stamp over them
zeros-at : (m : ℕ) (block : Block) → block.payload ≡ tree.veiled m block.stamp (replicate 64 0) → WritesZeros two_blocks tree (BlockWrite (Tree m) block)
zeros-at m block is = record {
  zeros = λ n other same leaf no'.
      let e : m ≡ n = number-of m n block other same in
      let f : block ≡ other = block-of m n block other same in
      ap (λ (b : Block). b.payload) (sym f) ∙ is ∙ ap (λ (k : ℕ). tree.veiled k block.stamp (replicate 64 0)) e ∙ ap (λ (b : Block). tree.veiled n b.stamp (replicate 64 0)) f;
}

-- in a node and in a static block whatever is
any-node : (block : Block) → WritesZeros two_blocks tree (BlockWrite (Tree 0) block)
any-node block = record { zeros = λ n other same leaf no'. let e : 0 ≡ n = number-of 0 n block other same in absurd (omega (arith, e, leaf)) }

any-static : (block : Block) → WritesZeros two_blocks tree (BlockWrite (Tree 2) block)
unfolding height_of
any-static block = record {
  zeros = λ n other same leaf no'.
      let e : 2 ≡ n = number-of 2 n block other same in
      let f : true ≡ false = ap (λ (k : ℕ). is_static two_blocks k) e ∙ no' in cc;
}

any-read : (block : Block) → WritesZeros two_blocks tree (BlockRead (Tree 2) block)
any-read block = record { zeros = λ n other same. let e : BlockRead (Tree 2) block ≡ BlockWrite (Tree n) other = same in cc }

-- another byte; and, where the veil is the stamp, zeros in clear
zeros-other : WritesZeros two_blocks tree (BlockWrite (Tree 3) (leaf 7 3)) → ⊥
unfolding height_of
zeros-other writes =
    let e : ◌≡◌ {A = ℕ} 7 0 = ap (λ (xs : List ℕ). get_or xs 0 0) (writes.zeros 3 (leaf 7 3) refl (lit≤ tt) refl) in
    omega (arith, e)

zeros-clear : WritesZeros two_blocks (record tree { veiled = λ n stamp payload. stamp ∷ payload }) (BlockWrite (Tree 3) (leaf 0 3)) → ⊥
unfolding height_of
zeros-clear writes =
    let e : ◌≡◌ {A = ℕ} 0 3 = ap (λ (xs : List ℕ). get_or xs 0 0) (writes.zeros 3 (leaf 0 3) refl (lit≤ tt) refl) in
    omega (arith, e)

-- the events, where the third data block gets this byte, and block 2 this one
abbrev events_of : ℕ → ℕ → List Event
events_of byte other =
    BlockWrite (Tree 1) (stored 0 1) ∷ BlockRead (Tree 2) (leaf 12 9) ∷ BlockWrite (Tree 2) (stored byte 2) ∷ BlockWrite (Tree 3) (stored other 3) ∷ BlockWrite (Tree 0) root_block ∷ []

abbrev new_tree : State
new_tree = record { lines = λ n. None; root = []; trace = [] }

abbrev tree_on : List Event → State
tree_on trace = record { lines = λ n. None; root = 0 ∷ 4 ∷ []; trace = trace }

entered-two : Entered two_blocks tree new_tree (tree_on (events_of 12 0)) (program_digest (read ∷ []))
unfolding height_of
entered-two = record {
  events = events_of 12 0;
  appended = refl;
  order = refl;
  zeros_written = All-cons (WritesZeros two_blocks tree) (BlockWrite (Tree 1) (stored 0 1)) (drop 1 (events_of 12 0)) (zeros-at 1 (stored 0 1) refl)
      (All-cons (WritesZeros two_blocks tree) (BlockRead (Tree 2) (leaf 12 9)) (drop 2 (events_of 12 0)) (any-read (leaf 12 9))
      (All-cons (WritesZeros two_blocks tree) (BlockWrite (Tree 2) (stored 12 2)) (drop 3 (events_of 12 0)) (any-static (stored 12 2))
      (All-cons (WritesZeros two_blocks tree) (BlockWrite (Tree 3) (stored 0 3)) (drop 4 (events_of 12 0)) (zeros-at 3 (stored 0 3) refl)
      (All-cons (WritesZeros two_blocks tree) (BlockWrite (Tree 0) root_block) [] (any-node root_block) (All-nil (WritesZeros two_blocks tree))))));
  reads = refl;
  answer_is = refl;
  statics = only;
  zeros = others;
}
  where
    only : (k : ℕ) → k < 1 → contents tree (tree_on (events_of 12 0)) (2 + k) ≡ slice_get (read ∷ []) k
    only zero below = refl
    only (suc k) below = absurd (omega (arith, below))

    others : (n : ℕ) → 1 ≤ n → n < 4 → is_static two_blocks n ≡ false → contents tree (tree_on (events_of 12 0)) n ≡ Some (replicate 64 0)
    others zero from below no' = absurd (omega (arith, from))
    others (suc zero) from below no' = refl
    others (suc (suc zero)) from below no' = let e : true ≡ false = no' in cc
    others (suc (suc (suc zero))) from below no' = refl
    others (suc (suc (suc (suc n)))) from below no' = absurd (omega (arith, below))

-- the block is built from another payload than the one that was read
entered-rebuilt : Entered two_blocks tree new_tree (tree_on (events_of 13 0)) (program_digest (read ∷ [])) → ⊥
unfolding height_of
entered-rebuilt entered =
    let reads : filter_map payload_read entered.events ≡ read ∷ [] = ap (λ (t : List Event). filter_map payload_read t) (sym entered.appended) in
    let same : ◌≡◌ {A = Option (List ℕ)} (Some (13 ∷ replicate 63 0)) (Some read) = entered.statics 0 (lit< tt) ∙ ap (λ (xs : List (List ℕ)). slice_get xs 0) reads in
    let e : ◌≡◌ {A = ℕ} 13 12 = ap (λ (o : Option (List ℕ)). head o) same in
    omega (arith, e)

-- a data block that is not static has a byte that is not zero
entered-not_zero : Entered two_blocks tree new_tree (tree_on (events_of 12 7)) (program_digest (read ∷ [])) → ⊥
unfolding height_of
entered-not_zero entered =
    let same : ◌≡◌ {A = Option (List ℕ)} (Some (7 ∷ replicate 63 0)) (Some (replicate 64 0)) = entered.zeros 3 (lit≤ tt) (lit< tt) refl in
    let e : ◌≡◌ {A = ℕ} 7 0 = ap (λ (o : Option (List ℕ)). head o) same in
    omega (arith, e)

-- the static block is read a second time
entered-twice : Entered two_blocks tree new_tree (tree_on (BlockRead (Tree 2) (leaf 12 9) ∷ events_of 12 0)) (program_digest (read ∷ [])) → ⊥
unfolding height_of
entered-twice entered =
    let e : ◌≡◌ {A = ℕ} 6 5 = ap (λ (t : List Event). length (map move_of t)) entered.appended ∙ ap (λ (ms : List BlockMove). length ms) entered.order in
    omega (arith, e)

-- the root is written before its children
abbrev early : List Event
early =
    BlockWrite (Tree 0) root_block ∷ BlockWrite (Tree 1) (stored 0 1) ∷ BlockRead (Tree 2) (leaf 12 9) ∷ BlockWrite (Tree 2) (stored 12 2) ∷ BlockWrite (Tree 3) (stored 0 3) ∷ []

entered-early : Entered two_blocks tree new_tree (tree_on early) (program_digest (read ∷ [])) → ⊥
unfolding height_of
entered-early entered =
    let e : ◌≡◌ {A = ℕ} 0 1 = ap (λ (t : List Event). first (map move_of t)) entered.appended ∙ ap (λ (ms : List BlockMove). first ms) entered.order in
    omega (arith, e)

-- another answer than a digest
entered-answer : Entered two_blocks tree new_tree (tree_on (events_of 12 0)) [] → ⊥
entered-answer entered =
    let e : 0 ≡ length (program_digest (filter_map payload_read entered.events)) = ap (λ (xs : List ℕ). length xs) entered.answer_is in
    omega (arith, e, length-sha1 (program_string (filter_map payload_read entered.events)))

-- ---- one write

written-leaf : WritesPayload tree 2 read (2 ∷ 2 ∷ []) [] (BlockWrite (Tree 2) (stored 12 2) ∷ [])
written-leaf = record {
  block = stored 12 2;
  event = refl;
  payload_is = refl;
  long = refl;
  whole = record { payload = refl; stamp = lit< tt };
  digest_is = refl;
}

-- it is written in clear
written-clear : WritesPayload tree 2 read (2 ∷ 2 ∷ []) [] (BlockWrite (Tree 2) (leaf 12 2) ∷ []) → ⊥
written-clear back =
    let same : leaf 12 2 ≡ back.block = cut back.event in
    let e : ◌≡◌ {A = ℕ} 12 0 = ap (λ (b : Block). get_or b.payload 0 0) same ∙ ap (λ (xs : List ℕ). get_or xs 0 0) back.payload_is in
    omega (arith, e)
  where
    cut : {block other : Block} → BlockWrite (Tree 2) block ∷ [] ≡ BlockWrite (Tree 2) other ∷ [] → block ≡ other
    cut same = cc

-- the digest has another number
written-number : WritesPayload tree 2 read (3 ∷ 2 ∷ []) [] (BlockWrite (Tree 2) (stored 12 2) ∷ []) → ⊥
written-number back =
    let e : ◌≡◌ {A = ℕ} 3 2 = ap (λ (xs : List ℕ). get_or xs 0 0) back.digest_is in
    omega (arith, e)
