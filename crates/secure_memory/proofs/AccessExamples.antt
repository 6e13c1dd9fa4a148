-- Examples of the words of blocks, of what reads bring onto the chip, and of what moves blocks.
use Rattle.std.proofs.Common.{◌≡◌, ℕ, ◌+◌, true, false, List, [], ◌∷◌, Some, lit≤, refl, arith}
use Rattle.std.specs.Prelude.{Result, Err, replicate}
use Rattle.aegis_num.specs.declared.storage.Block.{Block}
use Rattle.aegis_num.specs.declared.storage.Place.TheVariants.{Log, Tree}
use Rattle.regions.specs.declared.layout.Layout.{Layout}
use Rattle.regions.specs.Tree.{height_of}
use Rattle.off_chip.specs.declared.event.Event.TheVariants.{BlockRead, BlockWrite, WordRead, WordWrite, Note}
use Rattle.off_chip.specs.declared.event.Mark.TheVariants.{CheckPassed, Drop, Retire}
use Rattle.off_chip.specs.declared.event.Who.TheVariants.{Secure, Untrusted}
use Rattle.secure_memory.specs.BlockWords.{after_reads, byte_at, on_chip, place_at, with_byte_at, with_word_at, word_at}
use Rattle.orbis_core.specs.declared.memory.Stop.{Stop}
use Rattle.orbis_core.specs.declared.memory.Stop.TheVariants.{Refused}
use Rattle.orbis_core.specs.declared.memory.Why.TheVariants.{Misaligned}
use Rattle.secure_memory.specs.MemorySights.{Sight}
use Rattle.secure_memory.specs.MemoryAccesses.{IsStopped, SameParts, Unless, changed, is_block_move, pins_after}

-- 64 bytes: 0, 1, 2, 3, then 4, 5, 6, 7, and zeros
payload : List ℕ
payload = 0 ∷ 1 ∷ 2 ∷ 3 ∷ 4 ∷ 5 ∷ 6 ∷ 7 ∷ replicate 56 0

-- the second word of a block, by its address in the tree, and its bytes: the greatest comes first
second-word : word_at payload 0x10000044 ≡ 0x04050607
unfolding payload
second-word = refl

first-byte : byte_at payload 0x10000044 ≡ 4
unfolding payload
first-byte = refl

last-byte : byte_at payload 0x20000007 ≡ 7
unfolding payload
last-byte = refl

-- another word there leaves the first one
put-word : with_word_at payload 0x10000004 0x0a0b0c0d ≡ 0 ∷ 1 ∷ 2 ∷ 3 ∷ 10 ∷ 11 ∷ 12 ∷ 13 ∷ replicate 56 0
unfolding payload
put-word = refl

-- another byte changes that byte alone
put-byte : with_byte_at payload 0x10000005 9 ≡ 0 ∷ 1 ∷ 2 ∷ 3 ∷ 4 ∷ 9 ∷ 6 ∷ 7 ∷ replicate 56 0
unfolding payload
put-byte = refl

-- a store changes the word that its address lies in, by the word there, and no other word
changed-here : changed (λ before. before + 1) 0x10000005 (λ at. at) 0x10000004 ≡ 0x10000005
changed-here = refl

changed-elsewhere : changed (λ before. before + 1) 0x10000005 (λ at. at) 0x10000008 ≡ 0x10000008
changed-elsewhere = refl

-- the veil is taken off blocks of the tree by their number and stamp, and not off blocks of the log
veiled : on_chip (λ n stamp bytes. n ∷ stamp ∷ bytes) (Tree 14) (record { payload = 5 ∷ []; stamp = 3 }) ≡ 14 ∷ 3 ∷ 5 ∷ []
veiled = refl

logged-bare : on_chip (λ n stamp bytes. n ∷ stamp ∷ bytes) (Log 14) (record { payload = 5 ∷ []; stamp = 3 }) ≡ 5 ∷ []
logged-bare = refl

-- reads, writes and dropped lines of blocks move blocks; words and other marks do not
read-moves : (block : Block) → is_block_move (BlockRead (Log 1) block) ≡ true
read-moves block = refl

write-moves : (block : Block) → is_block_move (BlockWrite (Tree 1) block) ≡ true
write-moves block = refl

drop-moves : is_block_move (Note (Drop (Tree 2))) ≡ true
drop-moves = refl

word-moves-none : is_block_move (WordRead Secure 4 7) ≡ false
word-moves-none = refl

written-word-moves-none : is_block_move (WordWrite Untrusted 4 7) ≡ false
written-word-moves-none = refl

retire-moves-none : is_block_move (Note (Retire Secure)) ≡ false
retire-moves-none = refl

passed-moves-none : is_block_move (Note CheckPassed) ≡ false
passed-moves-none = refl

-- ten data blocks in a tree whose nodes are the blocks 0 to 12
abbrev layout : Layout
layout = record { verified = 1; private = 2; constants = 3; code = 4; log = 5; shared = 12; data_fits = lit≤ tt; log_fits = lit≤ tt; shared_fits = lit≤ tt }

-- the first data block is read, and its word is the memory's; the next block keeps its words
taken : after_reads layout (λ n stamp bytes. bytes) (BlockRead (Tree 13) (record { payload = payload; stamp = 1 }) ∷ []) (λ at. 9) 0x10000004 ≡ 0x04050607
unfolding height_of payload
taken = refl

next-kept : after_reads layout (λ n stamp bytes. bytes) (BlockRead (Tree 13) (record { payload = payload; stamp = 1 }) ∷ []) (λ at. 9) 0x10000044 ≡ 9
unfolding height_of payload
next-kept = refl

-- a node is no block of memory, nor is a position after the last data block
node-kept : after_reads layout (λ n stamp bytes. bytes) (BlockRead (Tree 12) (record { payload = payload; stamp = 1 }) ∷ []) (λ at. 9) 0x10000004 ≡ 9
unfolding height_of payload
node-kept = refl

beyond-kept : after_reads layout (λ n stamp bytes. bytes) (BlockRead (Tree 23) (record { payload = payload; stamp = 1 }) ∷ []) (λ at. 9) 0x10000284 ≡ 9
unfolding height_of payload
beyond-kept = refl

-- a log block
log-taken : after_reads layout (λ n stamp bytes. bytes) (BlockRead (Log 4) (record { payload = payload; stamp = 1 }) ∷ []) (λ at. 9) 0x20000104 ≡ 0x04050607
unfolding height_of payload
log-taken = refl

-- but none after the last one
log_beyond-kept : after_reads layout (λ n stamp bytes. bytes) (BlockRead (Log 5) (record { payload = payload; stamp = 1 }) ∷ []) (λ at. 9) 0x20000144 ≡ 9
unfolding height_of payload
log_beyond-kept = refl

-- of two reads the later one counts, and a write brings nothing onto the chip
later-taken : after_reads layout (λ n stamp bytes. bytes)
    (BlockRead (Log 4) (record { payload = replicate 64 1; stamp = 1 }) ∷ BlockRead (Log 4) (record { payload = payload; stamp = 1 }) ∷ []) (λ at. 9) 0x20000104 ≡ 0x04050607
unfolding height_of payload
later-taken = refl

written-kept : after_reads layout (λ n stamp bytes. bytes) (BlockWrite (Log 4) (record { payload = payload; stamp = 1 }) ∷ []) (λ at. 9) 0x20000104 ≡ 9
written-kept = refl

-- places of addresses
data-place : place_at layout 0x10000044 ≡ Tree 14
unfolding height_of
data-place = refl

log-place : place_at layout 0x20000104 ≡ Log 4
log-place = refl

-- what a fetch pins: the path from the root to the block of the code, and nothing for an open address
code-pinned : pins_after layout 0x10000180 ≡ 0 ∷ 1 ∷ 6 ∷ 19 ∷ []
unfolding height_of
code-pinned = refl

open-unpinned : pins_after layout 0x2000 ≡ []
open-unpinned = refl

log-unpinned : pins_after layout 0x20000104 ≡ []
log-unpinned = refl

-- no access to an open word is stopped
open-goes_on : {L : Type 0} (reason : Stop) (old new : Sight L) → IsStopped 0xfffc reason old new → ⊥
open-goes_on reason old new stopped = omega (arith, stopped.closed)

-- an access that is refused leaves the memory as it was, and one that is not refused gives no such answer
refused-still : {L T : Type 0} (answer : Result T Stop) (old new : Sight L) (P : Type 0) → Unless (Some Misaligned) answer old new P → new ≡ old
refused-still answer old new P does = does.1

refused-why : {L T : Type 0} (answer : Result T Stop) (old new : Sight L) (P : Type 0) → Unless (Some Misaligned) answer old new P → answer ≡ Err (Refused Misaligned)
refused-why answer old new P does = does.0

-- what an access keeps
keys-kept : {L : Type 0} (old new : Sight L) → SameParts old new → (new.log.key ≡ old.log.key) × (new.pinned ≡ old.pinned) × (new.told ≡ old.told) × (new.mode ≡ old.mode)
keys-kept old new same = (same.key, same.pinned, same.told, same.mode)
