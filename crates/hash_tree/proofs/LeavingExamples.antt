-- A dirty and a clean line leave, and what the definition says of each event.
use Rattle.std.proofs.Common.{◌≡◌, ℕ, true, false, [], ◌∷◌, replicate, Some, refl, arith, rules}
use Rattle.std.specs.FinMap.{empty, gets, insert}
use Rattle.aegis_num.specs.declared.storage.Block.{Block}
use Rattle.aegis_num.specs.declared.storage.Place.TheVariants.{Tree}
use Rattle.off_chip.specs.declared.event.Event.TheVariants.{BlockWrite, Note}
use Rattle.off_chip.specs.declared.event.Mark.TheVariants.{Drop}
use Rattle.line_cache.specs.LineMaps.{LineMap, dirty_at}
use Rattle.hash_tree.specs.Leaving.{LeavesBy}
use Rattle.hash_tree.proofs.LeavingLemmas.{leaves-written, leaves-dropped}

-- the root is clean, and block 1 is dirty
abbrev two : LineMap
two = insert (insert empty 0 (record { payload = replicate 64 0; dirty = false })) 1 (record { payload = replicate 64 7; dirty = true })

abbrev block : Block
block = record { payload = replicate 64 7; stamp = 5 }

clean-zero : dirty_at two 0 ≡ Some false
clean-zero = grind (gets, rules)

dirty-one : dirty_at two 1 ≡ Some true
dirty-one = grind (gets, rules)

leaves-write : LeavesBy two 1 [] (BlockWrite (Tree 1) block ∷ [])
leaves-write = leaves-written two block 1 [] (BlockWrite (Tree 1) block ∷ []) dirty-one refl

leaves-drop : LeavesBy two 0 [] (Note (Drop (Tree 0)) ∷ [])
leaves-drop = leaves-dropped two 0 [] (Note (Drop (Tree 0)) ∷ []) clean-zero refl

-- a dirty line does not leave by a mark, nor by the write of another block
leaves-dirty_drop : LeavesBy two 1 [] (Note (Drop (Tree 1)) ∷ []) → ⊥
leaves-dirty_drop leaves = let e = (leaves.written dirty-one).1 in cc

number-written : (n m : ℕ) (one other : Block) → BlockWrite (Tree n) one ∷ [] ≡ BlockWrite (Tree m) other ∷ [] → n ≡ m
number-written n m one other same = cc

leaves-other : LeavesBy two 1 [] (BlockWrite (Tree 2) block ∷ []) → ⊥
leaves-other leaves =
    let back = leaves.written dirty-one in
    let e : 2 ≡ 1 = number-written 2 1 block back.0 back.1 in omega (arith, e)

-- a clean line does not leave by a write, nor without an event
leaves-clean_write : LeavesBy two 0 [] (BlockWrite (Tree 0) block ∷ []) → ⊥
leaves-clean_write leaves = let e = leaves.dropped clean-zero in cc

leaves-nothing : LeavesBy two 0 [] [] → ⊥
leaves-nothing leaves = let e = leaves.dropped clean-zero in cc
