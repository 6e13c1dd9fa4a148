-- One tree of a node and three data blocks, and what each definition says of it. The answers were worked out by hand from the rules.
-- In this tree a digest is the number of the block and its stamp, so that two payloads have one digest, and the veil turns a payload round.
use Rattle.std.proofs.Common.{◌≡◌, ℕ, zero, suc, ◌-◌, ◌*◌, ◌/◌, ◌<◌, ◌≤◌, true, false, List, [], ◌∷◌, ◌++◌, take, drop, replicate, reverse, get_or, Some, None, refl, ap, inl, inr, ◌⊎◌, lit≤, lit<, arith}
use Rattle.std.specs.Prelude.{if◌then◌else◌, nat_lt}
use Rattle.std.specs.FinMap.{empty}
use Rattle.aegis_num.specs.declared.storage.Block.{Block}
use Rattle.aegis_num.specs.declared.storage.Place.TheVariants.{Tree, Log}
use Rattle.off_chip.specs.declared.event.Event.{Event}
use Rattle.off_chip.specs.declared.event.Event.TheVariants.{BlockRead, BlockWrite, Note}
use Rattle.off_chip.specs.declared.event.Mark.TheVariants.{Drop, Suspend}
use Rattle.off_chip.specs.Histories.{history}
use Rattle.off_chip.specs.OffChipBytes.{bytes_at}
use Rattle.hash_tree.specs.CachedLines.{Held}
use Rattle.hash_tree.specs.Schemes.{Scheme}
use Rattle.hash_tree.specs.AsWritten.{is_as_written}
use Rattle.hash_tree.specs.Standing.{State, kept_payload, contents, IsHome, IsDeceived, is_written_last, IsPadded, NodeLaidOut, IsKeptDigest, on_chip, in_parent}
use Rattle.hash_tree.specs.TreeSteps.{IsRemoval, write, dropped, block_read, IsElsewhere, IsStill, uncached}
use Rattle.hash_tree.specs.Paths.{IsAtDepth, path_in}

abbrev pub tree : Scheme
tree = record {
  blocks = 4;
  nodes = 1;
  digests = record { digest = λ n block. n ∷ block.stamp ∷ []; parent = λ n. (n - 1) / 3; slot = λ n payload. bytes_at (2 * (n - 1)) 2 payload };
  strings = record { digest = take 2; block = λ n block. n ∷ block.stamp ∷ block.payload; program = λ payloads. [] };
  digest_bytes = 6;
  veiled = λ n stamp payload. if nat_lt n 1 then payload else reverse payload;
}

abbrev pub leaf : ℕ → ℕ → Block
leaf byte stamp = record { payload = byte ∷ replicate 63 0; stamp = stamp }

abbrev pub node : List ℕ → ℕ → Block
node digests stamp = record { payload = digests ++ replicate 58 0; stamp = stamp }

-- a tree is entered: block 2 is static, and was read with a stamp of the load
abbrev pub entering : List Event
entering =
    BlockWrite (Tree 1) (leaf 11 1)
    ∷ BlockRead (Tree 2) (leaf 12 9)
    ∷ BlockWrite (Tree 2) (leaf 12 2)
    ∷ BlockWrite (Tree 3) (leaf 13 3)
    ∷ BlockWrite (Tree 0) (node (1 ∷ 1 ∷ 2 ∷ 2 ∷ 3 ∷ 3 ∷ []) 4)
    ∷ []

abbrev pub entered : State
entered = record { lines = λ n. None; root = 0 ∷ 4 ∷ []; trace = entering }

-- then the node and block 1 are read, and block 1 is changed
abbrev pub loading : List Event
loading = entering ++ BlockRead (Tree 0) (node (1 ∷ 1 ∷ 2 ∷ 2 ∷ 3 ∷ 3 ∷ []) 4) ∷ BlockRead (Tree 1) (leaf 11 1) ∷ []

abbrev pub lines_loaded : Held
lines_loaded zero = Some (record { payload = (1 ∷ 1 ∷ 2 ∷ 2 ∷ 3 ∷ 3 ∷ []) ++ replicate 58 0; dirty = false })
lines_loaded (suc zero) = Some (record { payload = 21 ∷ replicate 63 0; dirty = true })
lines_loaded (suc (suc n)) = None

abbrev pub loaded : State
loaded = record { lines = lines_loaded; root = 0 ∷ 4 ∷ []; trace = loading }

at : (k : ℕ) (xs ys : List ℕ) → xs ≡ ys → get_or xs k 0 ≡ get_or ys k 0
at k xs ys same = ap (λ (zs : List ℕ). get_or zs k 0) same

-- ---- reads

-- a place that was not written yet counts as faithful
unwritten-faithful : is_as_written (BlockRead (Tree 2) (leaf 12 9)) (history (BlockWrite (Tree 1) (leaf 11 1) ∷ [])) ≡ true
unwritten-faithful = refl

same-faithful : is_as_written (BlockRead (Tree 1) (leaf 11 1)) (history entering) ≡ true
same-faithful = refl

-- another payload, another stamp, an older write
payload-unfaithful : is_as_written (BlockRead (Tree 1) (leaf 10 1)) (history entering) ≡ false
payload-unfaithful = refl

stamp-unfaithful : is_as_written (BlockRead (Tree 1) (leaf 11 2)) (history entering) ≡ false
stamp-unfaithful = refl

older-unfaithful : is_as_written (BlockRead (Tree 1) (leaf 11 1)) (history (entering ++ BlockWrite (Tree 1) (leaf 11 5) ∷ [])) ≡ false
older-unfaithful = refl

write-is_no_read : is_as_written (BlockWrite (Tree 1) (leaf 10 5)) (history entering) ≡ true
write-is_no_read = refl

-- ---- payloads and contents

node-in_write : kept_payload entered 0 ≡ Some ((1 ∷ 1 ∷ 2 ∷ 2 ∷ 3 ∷ 3 ∷ []) ++ replicate 58 0)
node-in_write = refl

block-in_line : kept_payload loaded 1 ≡ Some (21 ∷ replicate 63 0)
block-in_line = refl

nothing-written : kept_payload (record { lines = λ n. None; root = []; trace = [] }) 0 ≡ None
nothing-written = refl

-- the contents have no veil
contents-written : contents tree entered 1 ≡ Some (replicate 63 0 ++ 11 ∷ [])
contents-written = refl

contents-line : contents tree loaded 1 ≡ Some (21 ∷ replicate 63 0)
contents-line = refl

contents-other : contents tree loaded 3 ≡ Some (replicate 63 0 ++ 13 ∷ [])
contents-other = refl

contents-none : contents tree (record { lines = λ n. None; root = []; trace = [] }) 1 ≡ None
contents-none = refl

-- ---- the four facts

four : (n : ℕ) → n < 4 → (n ≡ 0) ⊎ ((n ≡ 1) ⊎ ((n ≡ 2) ⊎ (n ≡ 3)))
four zero below = inl refl
four (suc zero) below = inr (inl refl)
four (suc (suc zero)) below = inr (inr (inl refl))
four (suc (suc (suc zero))) below = inr (inr (inr refl))
four (suc (suc (suc (suc n)))) below = let no_such : ⊥ = omega (arith, below) in absurd no_such

-- a slot that is not the digest of its block is against them
slot-wrong : IsHome tree (record { lines = λ n. None; root = 0 ∷ 4 ∷ []; trace = entering ++ BlockWrite (Tree 1) (leaf 11 5) ∷ [] }) → ⊥
slot-wrong home =
    let same = home.slots 1 (leaf 11 5) ((1 ∷ 1 ∷ 2 ∷ 2 ∷ 3 ∷ 3 ∷ []) ++ replicate 58 0) (lit< tt) (lit< tt) refl refl in
    let e : ◌≡◌ {A = ℕ} 1 5 = at 1 _ _ same in
    let no_such : ⊥ = omega (arith, e) in no_such

-- so is another digest on the chip
root-wrong : IsHome tree (record { lines = λ n. None; root = 0 ∷ 3 ∷ []; trace = entering }) → ⊥
root-wrong home =
    let same = home.root (node (1 ∷ 1 ∷ 2 ∷ 2 ∷ 3 ∷ 3 ∷ []) 4) refl in
    let e : ◌≡◌ {A = ℕ} 3 4 = at 1 _ _ same in
    let no_such : ⊥ = omega (arith, e) in no_such

-- a block that was never written
unwritten-wrong : IsHome tree (record { lines = λ n. None; root = []; trace = BlockWrite (Tree 1) (leaf 11 1) ∷ [] }) → ⊥
unwritten-wrong home = let last = home.written 3 (lit< tt) in let e : None ≡ Some last.0 = last.1 in cc

-- and a clean line that is not the last write-back
clean-wrong : IsHome tree (record { lines = λ n. Some (record { payload = 21 ∷ replicate 63 0; dirty = false }); root = 0 ∷ 4 ∷ []; trace = entering }) → ⊥
clean-wrong home =
    let same = home.clean 1 (record { payload = 21 ∷ replicate 63 0; dirty = false }) (leaf 11 1) refl refl refl in
    let e : ◌≡◌ {A = ℕ} 21 0 = at 0 _ _ same in
    let no_such : ⊥ = omega (arith, e) in no_such

-- ---- the last event at a place

written-last : is_written_last (Tree 2) (history entering) ≡ true
written-last = refl

read-last : is_written_last (Tree 1) (history loading) ≡ false
read-last = refl

dropped-last : is_written_last (Tree 1) (history (entering ++ Note (Drop (Tree 1)) ∷ [])) ≡ false
dropped-last = refl

other-last : is_written_last (Tree 2) (history (entering ++ Note (Drop (Tree 1)) ∷ Note Suspend ∷ [])) ≡ true
other-last = refl

never-last : is_written_last (Tree 2) (history []) ≡ false
never-last = refl

-- ---- nodes

padded : IsPadded tree ((1 ∷ 1 ∷ 2 ∷ 2 ∷ 3 ∷ 3 ∷ []) ++ replicate 58 0)
padded = refl

-- a byte after the digests
not-padded : IsPadded tree ((1 ∷ 1 ∷ 2 ∷ 2 ∷ 3 ∷ 3 ∷ 1 ∷ []) ++ replicate 57 0) → ⊥
not-padded same = let e : ◌≡◌ {A = ℕ} 1 0 = at 0 _ _ same in let no_such : ⊥ = omega (arith, e) in no_such

-- two slots exchanged
exchanged : NodeLaidOut tree (BlockWrite (Tree 0) (node (2 ∷ 2 ∷ 1 ∷ 1 ∷ 3 ∷ 3 ∷ []) 5)) (history (take 4 entering)) → ⊥
exchanged laid =
    let node_laid = laid (lit< tt) (record { each = (((((tt, refl), refl), refl), refl)) }) in
    let same = node_laid.slots 1 (leaf 11 1) (lit< tt) (lit< tt) refl refl in
    let e : ◌≡◌ {A = ℕ} 2 1 = at 0 _ _ same in
    let no_such : ⊥ = omega (arith, e) in no_such

-- ---- the digests that are kept

kept-on_chip : IsKeptDigest tree loaded 0 (0 ∷ 4 ∷ [])
kept-on_chip = on_chip refl refl

kept-in_parent : IsKeptDigest tree loaded 2 (2 ∷ 2 ∷ [])
kept-in_parent = in_parent (record { payload = (1 ∷ 1 ∷ 2 ∷ 2 ∷ 3 ∷ 3 ∷ []) ++ replicate 58 0; dirty = false }) (lit< tt) refl refl

-- none is kept where the parent has no line
kept-nowhere : IsKeptDigest tree entered 2 (2 ∷ 2 ∷ []) → ⊥
kept-nowhere (on_chip zero' same) = let no_such : ⊥ = omega (arith, zero') in no_such
kept-nowhere (in_parent line above held same) = let e : None ≡ Some line = held in cc

-- ---- a deception: block 1 was written with 11, and is read with 10 and its stamp, so with its digest

deceived : IsDeceived tree (entering ++ BlockRead (Tree 1) (leaf 10 1) ∷ [])
deceived = record {
  first = 0;
  second = 5;
  collision = record {
    first_event = BlockWrite (Tree 1) (leaf 11 1);
    second_event = BlockRead (Tree 1) (leaf 10 1);
    at_first = refl;
    at_second = refl;
    string = 1 ∷ 1 ∷ 11 ∷ replicate 63 0;
    other = 1 ∷ 1 ∷ 10 ∷ replicate 63 0;
    of_first = refl;
    of_second = refl;
    differ = λ same. let e : ◌≡◌ {A = ℕ} 11 10 = at 2 _ _ same in let no_such : ⊥ = omega (arith, e) in no_such;
    same = refl;
  };
  unfaithful = record {
    before = entering;
    n = 1;
    block = leaf 10 1;
    rest = [];
    written = leaf 11 1;
    parts = refl;
    last = record { before = []; rest = drop 1 entering; parts = refl; none_after = refl };
    differ = λ same. let e : ◌≡◌ {A = ℕ} 10 11 = at 0 _ _ (ap (λ (b : Block). b.payload) same) in let no_such : ⊥ = omega (arith, e) in no_such;
  };
}

-- ---- events

read-told : block_read (BlockRead (Tree 3) (leaf 13 3)) ≡ Some 3
read-told = refl

log-not_told : block_read (BlockRead (Log 3) (leaf 13 3)) ≡ None
log-not_told = refl

write-not_told : block_read (BlockWrite (Tree 3) (leaf 13 3)) ≡ None
write-not_told = refl

write-removes : IsRemoval 1 (BlockWrite (Tree 1) (leaf 21 5))
write-removes = write (leaf 21 5) refl

mark-removes : IsRemoval 1 (Note (Drop (Tree 1)))
mark-removes = dropped refl

log-elsewhere : IsElsewhere (BlockWrite (Log 1) (leaf 0 5))
log-elsewhere n same = cc

tree-not_elsewhere : IsElsewhere (Note (Drop (Tree 1))) → ⊥
tree-not_elsewhere elsewhere = elsewhere 1 refl

-- ---- paths: in the tree of height 2, block 9 is child 2 of block 2

path-root : path_in 3 0 0 ≡ 0 ∷ []
path-root = refl

path-two : path_in 3 2 9 ≡ 0 ∷ 2 ∷ 9 ∷ []
path-two = refl

path-last : path_in 3 2 12 ≡ 0 ∷ 3 ∷ 12 ∷ []
path-last = refl

depth-two : IsAtDepth 3 2 4
depth-two = record { from = lit≤ tt; below = lit< tt }

depth-above : IsAtDepth 3 2 3 → ⊥
depth-above at = let from : 4 ≤ 3 = at.from in let no_such : ⊥ = omega (arith, from) in no_such

depth-under : IsAtDepth 3 1 4 → ⊥
depth-under at = let below : 4 < 4 = at.below in let no_such : ⊥ = omega (arith, below) in no_such

-- only blocks without a line are read, in order
uncached-three : uncached lines_loaded (0 ∷ 2 ∷ 1 ∷ 3 ∷ []) ≡ 2 ∷ 3 ∷ []
uncached-three = refl

uncached-none : uncached lines_loaded (0 ∷ 1 ∷ []) ≡ []
uncached-none = refl

-- ---- nothing done

still-nothing : IsStill empty empty loading loading
still-nothing = record { lines = refl; trace = refl }
