-- A tree of a clean node and a dirty data block is flushed, and what each definition of a flush says of it.
use Rattle.std.proofs.Common.{◌≡◌, ℕ, zero, suc, ◌<◌, true, false, List, [], ◌∷◌, ◌++◌, drop, replicate, get_or, Option, Some, None, refl, sym, ap, lit≤, lit<, arith, subst}
use Rattle.std.specs.Prelude.{Contains}
use Rattle.aegis_num.specs.declared.storage.Block.{Block}
use Rattle.aegis_num.specs.declared.storage.Place.TheVariants.{Tree}
use Rattle.off_chip.specs.declared.event.Event.{Event}
use Rattle.off_chip.specs.declared.event.Event.TheVariants.{BlockRead, BlockWrite}
use Rattle.line_cache.specs.declared.lines.Line.{Line}
use Rattle.hash_tree.specs.CachedLines.{Held}
use Rattle.hash_tree.specs.Standing.{State}
use Rattle.hash_tree.specs.DueLines.{IsDue, dirty, above}
use Rattle.hash_tree.specs.Flushes.{WritesDue, Flushed}
use Rattle.hash_tree.proofs.Examples.{tree, leaf, node, loading, lines_loaded, loaded}

abbrev dirty_line : Line
dirty_line = record { payload = 21 ∷ replicate 63 0; dirty = true }

-- ---- which lines have to be written

due-dirty : IsDue tree lines_loaded 1
due-dirty = dirty 1 dirty_line refl refl

-- the node above it, whose line is clean still
due-above : IsDue tree lines_loaded 0
due-above = above 1 (lit< tt) due-dirty

line-below : (n : ℕ) (line : Line) → lines_loaded n ≡ Some line → n < 2
line-below zero line held = lit< tt
line-below (suc zero) line held = lit< tt
line-below (suc (suc n)) line held = let e : None ≡ Some line = held in cc

due-below : (n : ℕ) → IsDue tree lines_loaded n → n < 2
due-below n (dirty m line held is) = line-below m line held
due-below n (above child some due) = let below = due-below child due in omega (arith, below)

-- no other block
due-other : IsDue tree lines_loaded 2 → ⊥
due-other due = let below = due-below 2 due in omega (arith, below)

writes-due : WritesDue tree lines_loaded (BlockWrite (Tree 0) (node [] 5))
writes-due = record { n = 0; block = node [] 5; write = refl; due = due-above }

number-written : (n m : ℕ) (block other : Block) → BlockWrite (Tree n) block ≡ BlockWrite (Tree m) other → n ≡ m
number-written n m block other same = cc

writes-not_due : WritesDue tree lines_loaded (BlockWrite (Tree 2) (leaf 12 5)) → ⊥
writes-not_due writes =
    let e : 2 ≡ writes.n = number-written 2 writes.n (leaf 12 5) writes.block writes.write in
    let below = due-below writes.n writes.due in
    omega (arith, e, below)

read-not_write : WritesDue tree lines_loaded (BlockRead (Tree 1) (leaf 12 5)) → ⊥
read-not_write writes = let e : BlockRead (Tree 1) (leaf 12 5) ≡ BlockWrite (Tree writes.n) writes.block = writes.write in cc

-- ---- what is there then

abbrev root_line : List ℕ → Line
root_line digests = record { payload = digests ++ replicate 58 0; dirty = false }

abbrev lines_of : Line → Option Line → Held
lines_of root line zero = Some root
lines_of root line (suc zero) = line
lines_of root line (suc (suc n)) = None

abbrev clean_line : ℕ → Line
clean_line byte = record { payload = byte ∷ replicate 63 0; dirty = false }

abbrev written : List Event
written = loading ++ BlockWrite (Tree 1) (record { payload = replicate 63 0 ++ 21 ∷ []; stamp = 5 }) ∷ BlockWrite (Tree 0) (node (1 ∷ 5 ∷ 2 ∷ 2 ∷ 3 ∷ 3 ∷ []) 6) ∷ []

abbrev flushed_to : Line → Option Line → List Event → State
flushed_to root line trace = record { lines = lines_of root line; root = 0 ∷ 6 ∷ []; trace = trace }

-- the node is left dirty
flush-root : Flushed tree 0 loaded (flushed_to (record { payload = (1 ∷ 5 ∷ 2 ∷ 2 ∷ 3 ∷ 3 ∷ []) ++ replicate 58 0; dirty = true }) (Some (clean_line 21)) written) → ⊥
flush-root flushed =
    let e : true ≡ false = flushed.clean 0 (record { payload = (1 ∷ 5 ∷ 2 ∷ 2 ∷ 3 ∷ 3 ∷ []) ++ replicate 58 0; dirty = true }) (lit≤ tt) refl in cc

-- the line is marked as clean, and nothing was written
flush-nothing : Flushed tree 0 loaded (flushed_to (root_line (1 ∷ 1 ∷ 2 ∷ 2 ∷ 3 ∷ 3 ∷ [])) (Some (clean_line 21)) loading) → ⊥
flush-nothing flushed =
    let back = flushed.written 1 dirty_line (lit≤ tt) refl refl in
    let none : [] ≡ flushed.events = ap (λ (t : List Event). drop 7 t) flushed.appended in
    let inside : Contains [] (BlockWrite (Tree 1) back.0) = subst (λ (es : List Event). Contains es (BlockWrite (Tree 1) back.0)) (sym none) back.1 in
    let below : inside.0 < 0 = inside.1 in
    omega (arith, below)

-- another payload is in the line
abbrev head : Option (List ℕ) → ℕ
head (Some xs) = get_or xs 0 0
head None = 0

flush-payload : Flushed tree 0 loaded (flushed_to (root_line (1 ∷ 5 ∷ 2 ∷ 2 ∷ 3 ∷ 3 ∷ [])) (Some (clean_line 22)) written) → ⊥
flush-payload flushed =
    let e : ◌≡◌ {A = ℕ} 22 21 = ap (λ (o : Option (List ℕ)). head o) (flushed.payloads 1 (lit≤ tt)) in
    omega (arith, e)

-- the line is gone
flush-gone : Flushed tree 0 loaded (flushed_to (root_line (1 ∷ 5 ∷ 2 ∷ 2 ∷ 3 ∷ 3 ∷ [])) None written) → ⊥
flush-gone flushed = let e : false ≡ true = flushed.held 1 in cc

-- a block is written that need not be
abbrev written_other : List Event
written_other = written ++ BlockWrite (Tree 2) (leaf 12 7) ∷ []

flush-line_waiting : Flushed tree 2 loaded loaded → (now : Line) × (loaded.lines 1 ≡ Some now) × (now.dirty ≡ true)
flush-line_waiting flushed = flushed.waiting 1 dirty_line (lit< tt) refl refl
