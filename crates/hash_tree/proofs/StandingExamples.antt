-- The tree of one node and three data blocks again: where it stands, which fact each state breaks that is wrong, and which blocks are read.
use Rattle.std.proofs.Common.{◌≡◌, ℕ, zero, suc, ◌^◌, ◌<◌, true, false, List, [], ◌∷◌, ◌++◌, take, drop, replicate, get_or, Option, Some, None, refl, sym, ap, ◌∙◌, inl, inr, lit≤, lit<, arith}
use Rattle.std.specs.Prelude.{filter_map}
use Rattle.aegis_num.specs.declared.storage.Block.{Block}
use Rattle.aegis_num.specs.declared.storage.Place.TheVariants.{Tree}
use Rattle.off_chip.specs.declared.event.Event.{Event}
use Rattle.off_chip.specs.declared.event.Event.TheVariants.{BlockRead, BlockWrite, Note}
use Rattle.off_chip.specs.declared.event.Mark.TheVariants.{Drop}
use Rattle.off_chip.specs.Histories.{history}
use Rattle.off_chip.specs.WriteBacks.{last_write}
use Rattle.hash_tree.specs.AsWritten.{AllAsWritten}
use Rattle.hash_tree.specs.CachedLines.{Held}
use Rattle.hash_tree.specs.Standing.{IsHome, IsLaidOut, Stands, SameContents, kept_payload}
use Rattle.hash_tree.specs.TreeSteps.{ReadsFirst, block_read}
use Rattle.hash_tree.proofs.Examples.{tree, leaf, node, entering, entered, loading, loaded}

abbrev root_payload : List ℕ
root_payload = (1 ∷ 1 ∷ 2 ∷ 2 ∷ 3 ∷ 3 ∷ []) ++ replicate 58 0

abbrev head : Option (List ℕ) → ℕ
head (Some xs) = get_or xs 0 0
head None = 0

slot-is : (n : ℕ) (block other : Block) (payload left : List ℕ) → tree.digests.slot n payload ≡ tree.digests.digest n block → Some block ≡ Some other → Some payload ≡ Some left
    → tree.digests.slot n left ≡ tree.digests.digest n other
slot-is n block other payload left same blocks payloads =
    let e : block ≡ other = cc in
    let f : payload ≡ left = cc in
    ap (λ (xs : List ℕ). tree.digests.slot n xs) (sym f) ∙ same ∙ ap (λ (b : Block). tree.digests.digest n b) e

root-is : (block other : Block) → Some block ≡ Some other → tree.digests.digest 0 block ≡ tree.digests.digest 0 other
root-is block other same = let e : block ≡ other = cc in ap (λ (b : Block). tree.digests.digest 0 b) e

-- ---- the four facts

home-entered : IsHome tree entered
home-entered = record {
  written = written;
  slots = slots;
  root = λ block found. root-is (node (1 ∷ 1 ∷ 2 ∷ 2 ∷ 3 ∷ 3 ∷ []) 4) block found;
  clean = λ n line block held. let e : None ≡ Some line = held in cc;
}
  where
    written : (n : ℕ) → n < 4 → (block : Block) × (last_write (Tree n) (history entering) ≡ Some block)
    written zero below = (node (1 ∷ 1 ∷ 2 ∷ 2 ∷ 3 ∷ 3 ∷ []) 4, refl)
    written (suc zero) below = (leaf 11 1, refl)
    written (suc (suc zero)) below = (leaf 12 2, refl)
    written (suc (suc (suc zero))) below = (leaf 13 3, refl)
    written (suc (suc (suc (suc n)))) below = absurd (omega (arith, below))

    slots : (n : ℕ) (block : Block) (payload : List ℕ) → 0 < n → n < 4 → last_write (Tree n) (history entering) ≡ Some block
        → kept_payload entered (tree.digests.parent n) ≡ Some payload → tree.digests.slot n payload ≡ tree.digests.digest n block
    slots zero block payload above below found kept = absurd (omega (arith, above))
    slots (suc zero) block payload above below found kept = slot-is 1 (leaf 11 1) block root_payload payload refl found kept
    slots (suc (suc zero)) block payload above below found kept = slot-is 2 (leaf 12 2) block root_payload payload refl found kept
    slots (suc (suc (suc zero))) block payload above below found kept = slot-is 3 (leaf 13 3) block root_payload payload refl found kept
    slots (suc (suc (suc (suc n)))) block payload above below found kept = absurd (omega (arith, below))

-- the write of the node lays the digests of its children out
laid_out-root : IsLaidOut tree 0 root_payload (history (take 4 entering))
laid_out-root = record { long = refl; written = written; slots = slots; padding = refl }
  where
    written : (child : ℕ) → 0 < child → child < 4 → tree.digests.parent child ≡ 0 → (block : Block) × (last_write (Tree child) (history (take 4 entering)) ≡ Some block)
    written zero above below is = absurd (omega (arith, above))
    written (suc zero) above below is = (leaf 11 1, refl)
    written (suc (suc zero)) above below is = (leaf 12 2, refl)
    written (suc (suc (suc zero))) above below is = (leaf 13 3, refl)
    written (suc (suc (suc (suc n)))) above below is = absurd (omega (arith, below))

    slots : (child : ℕ) (block : Block) → 0 < child → child < 4 → tree.digests.parent child ≡ 0 → last_write (Tree child) (history (take 4 entering)) ≡ Some block
        → tree.digests.slot child root_payload ≡ tree.digests.digest child block
    slots zero block above below is found = absurd (omega (arith, above))
    slots (suc zero) block above below is found = slot-is 1 (leaf 11 1) block root_payload root_payload refl found refl
    slots (suc (suc zero)) block above below is found = slot-is 2 (leaf 12 2) block root_payload root_payload refl found refl
    slots (suc (suc (suc zero))) block above below is found = slot-is 3 (leaf 13 3) block root_payload root_payload refl found refl
    slots (suc (suc (suc (suc n)))) block above below is found = absurd (omega (arith, below))

-- one child is not written yet
laid_out-early : IsLaidOut tree 0 root_payload (history (take 3 entering)) → ⊥
laid_out-early laid = let third = laid.written 3 (lit< tt) (lit< tt) refl in let e : None ≡ Some third.0 = third.1 in cc

-- ---- what else is a part of standing

-- a block is resident and has no line
held-wrong : Stands tree (record { lines = λ n. None; root = 0 ∷ 4 ∷ []; trace = loading }) → ⊥
held-wrong stands = let line = stands.held 1 refl in let e : None ≡ Some line.0 = line.1 in cc

-- a block has a line, and was dropped
abbrev node_line : Held
node_line zero = Some (record { payload = root_payload; dirty = false })
node_line (suc n) = None

resident-wrong : Stands tree (record { lines = node_line; root = 0 ∷ 4 ∷ []; trace = entering ++ Note (Drop (Tree 0)) ∷ [] }) → ⊥
resident-wrong stands =
    elim (stands.resident 0 (record { payload = root_payload; dirty = false }) refl) [
      | inl is ↦ let e : false ≡ true = is in cc
      | inr is ↦ let e : false ≡ true = is in cc
    ]

-- another digest is kept of the root
root-wrong : Stands tree (record { lines = λ n. None; root = 5 ∷ 4 ∷ []; trace = entering }) → ⊥
root-wrong stands = let e : ◌≡◌ {A = ℕ} 0 5 = ap (λ (o : Option (List ℕ)). head o) stands.root in omega (arith, e)

-- a slot of a line is not the digest that the last read of the node gave
abbrev changed_line : Held
changed_line zero = Some (record { payload = (1 ∷ 1 ∷ 9 ∷ 2 ∷ 3 ∷ 3 ∷ []) ++ replicate 58 0; dirty = true })
changed_line (suc n) = None

expected-wrong : Stands tree (record { lines = changed_line; root = 0 ∷ 4 ∷ []; trace = loading }) → ⊥
expected-wrong stands =
    let same = stands.expected 2 (record { payload = (1 ∷ 1 ∷ 9 ∷ 2 ∷ 3 ∷ 3 ∷ []) ++ replicate 58 0; dirty = true }) (lit< tt) (lit< tt) refl in
    let e : ◌≡◌ {A = ℕ} 2 9 = ap (λ (o : Option (List ℕ)). head o) same in
    omega (arith, e)

-- a byte stands after the digests of a node
abbrev long_line : Held
long_line zero = Some (record { payload = (1 ∷ 1 ∷ 2 ∷ 2 ∷ 3 ∷ 3 ∷ 7 ∷ []) ++ replicate 57 0; dirty = true })
long_line (suc n) = None

padding-wrong : Stands tree (record { lines = long_line; root = 0 ∷ 4 ∷ []; trace = loading }) → ⊥
padding-wrong stands =
    let all : AllAsWritten (history loading) = record { each = (((((((tt, refl), refl), refl), refl), refl), refl), refl) } in
    let same = stands.padding all 0 (record { payload = (1 ∷ 1 ∷ 2 ∷ 2 ∷ 3 ∷ 3 ∷ 7 ∷ []) ++ replicate 57 0; dirty = true }) (lit< tt) refl in
    let e : ◌≡◌ {A = ℕ} 7 0 = ap (λ (xs : List ℕ). get_or xs 0 0) same in
    omega (arith, e)

-- a line of a block that is none of the tree
abbrev far_line : Held
far_line n = Some (record { payload = root_payload; dirty = true })

inside-wrong : Stands tree (record { lines = far_line; root = 0 ∷ 4 ∷ []; trace = loading }) → ⊥
inside-wrong stands = let below : 4 < 4 = stands.inside 4 (record { payload = root_payload; dirty = true }) refl in omega (arith, below)

-- a line that is too short
abbrev short_line : Held
short_line zero = Some (record { payload = 1 ∷ 1 ∷ 2 ∷ 2 ∷ 3 ∷ 3 ∷ []; dirty = true })
short_line (suc n) = None

long-wrong : Stands tree (record { lines = short_line; root = 0 ∷ 4 ∷ []; trace = loading }) → ⊥
long-wrong stands =
    let e : ◌≡◌ {A = ℕ} 6 64 = stands.long 0 (record { payload = 1 ∷ 1 ∷ 2 ∷ 2 ∷ 3 ∷ 3 ∷ []; dirty = true }) refl in
    omega (arith, e)

-- a stamp of more than 64 bits
whole-wrong : Stands tree (record { lines = λ n. None; root = 0 ∷ 4 ∷ []; trace = entering ++ BlockWrite (Tree 1) (leaf 11 18446744073709551616) ∷ [] }) → ⊥
whole-wrong stands =
    let below : 18446744073709551616 < 2 ^ 64 = (stands.whole 1 (leaf 11 18446744073709551616) refl).stamp in
    omega (arith, below)

-- ---- contents

-- a line has another payload than the last write-back
contents-differ : SameContents tree entered loaded → ⊥
contents-differ same =
    let e : ◌≡◌ {A = ℕ} 21 0 = ap (λ (o : Option (List ℕ)). head o) (same.leaf 1 (lit≤ tt) (lit< tt)) in
    omega (arith, e)

-- ---- which blocks are read

reads-both : ReadsFirst (0 ∷ 1 ∷ []) entering loading
reads-both = record { events = drop 5 loading; appended = refl; unread = []; reads = refl }

-- it stops before the last block
reads-part : ReadsFirst (0 ∷ 1 ∷ 5 ∷ []) entering loading
reads-part = record { events = drop 5 loading; appended = refl; unread = 5 ∷ []; reads = refl }

reads-of : (blocks : List ℕ) (new : List Event) → ReadsFirst blocks entering new → (left : List ℕ) × (filter_map block_read (drop 5 new) ++ left ≡ blocks)
reads-of blocks new first = (first.unread, ap (λ (t : List Event). filter_map block_read (drop 5 t) ++ first.unread) first.appended ∙ first.reads)

-- another order, another block, a block twice
reads-order : ReadsFirst (1 ∷ 0 ∷ []) entering loading → ⊥
reads-order first =
    let reads = reads-of (1 ∷ 0 ∷ []) loading first in
    let e : ◌≡◌ {A = ℕ} 0 1 = ap (λ (xs : List ℕ). get_or xs 0 0) reads.1 in
    omega (arith, e)

reads-other : ReadsFirst (0 ∷ 2 ∷ []) entering loading → ⊥
reads-other first =
    let reads = reads-of (0 ∷ 2 ∷ []) loading first in
    let e : ◌≡◌ {A = ℕ} 1 2 = ap (λ (xs : List ℕ). get_or xs 1 0) reads.1 in
    omega (arith, e)

reads-twice : ReadsFirst (0 ∷ 1 ∷ []) entering (loading ++ BlockRead (Tree 1) (leaf 11 1) ∷ []) → ⊥
reads-twice first =
    let reads = reads-of (0 ∷ 1 ∷ []) (loading ++ BlockRead (Tree 1) (leaf 11 1) ∷ []) first in
    let e : ◌≡◌ {A = ℕ} 1 0 = ap (λ (xs : List ℕ). get_or xs 2 0) reads.1 in
    omega (arith, e)
