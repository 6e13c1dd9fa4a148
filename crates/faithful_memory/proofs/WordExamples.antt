-- Examples of the words that memories have in common, of reads that give them, and of memories that a secure memory contains.
use Rattle.std.proofs.Common.{◌≡◌, ℕ, ◌%◌, ◌<◌, true, false, List, [], ◌∷◌, ◌++◌, Option, Some, None, Ok, Err, lit≤, refl, sym, ap, ◌∙◌, subst, arith, rules}
use Rattle.std.specs.Prelude.{IsTrue, ◌==◌, if◌then◌else◌, option_map, replicate, slice_index}
use Rattle.std.specs.List.{list_all}
use Rattle.std.specs.FinMap.{empty, get, gets}
use Rattle.std.proofs.lemmas.Bool.Decides.{nat_tests}
use Rattle.std.proofs.lemmas.List.{get_or-replicate}
use Rattle.aegis_num.specs.declared.storage.Block.{Block}
use Rattle.aegis_num.specs.declared.storage.Key.{Key}
use Rattle.aegis_num.specs.declared.storage.Place.TheVariants.{Log, Tree}
use Rattle.regions.specs.declared.layout.Layout.{Layout}
use Rattle.regions.specs.declared.rights.Mode.TheVariants.{Te}
use Rattle.regions.specs.Addresses.{class_at}
use Rattle.regions.specs.Tree.{height_of}
use Rattle.off_chip.specs.declared.event.Event.{Event}
use Rattle.off_chip.specs.declared.event.Event.TheVariants.{BlockRead, BlockWrite, WordWrite, Note}
use Rattle.off_chip.specs.declared.event.Mark.TheVariants.{CheckStart, Drop, Suspend}
use Rattle.off_chip.specs.declared.event.Who.TheVariants.{Untrusted}
use Rattle.off_chip.specs.Histories.{history}
use Rattle.line_cache.specs.declared.lines.Line.{Line}
use Rattle.line_cache.specs.LineMaps.{LineMap}
use Rattle.off_chip.specs.WriteBacks.{last_write}
use Rattle.hash_tree.specs.HashTrees.{scheme_of}
use Rattle.hash_tree.specs.Standing.{contents_in}
use Rattle.hash_tree.specs.AsWritten.{AllAsWritten}
use Rattle.stamp_log.specs.LogState.{LogState}
use Rattle.orbis_core.specs.declared.memory.Stop.TheVariants.{Refused}
use Rattle.orbis_core.specs.declared.memory.Why.TheVariants.{Rights}
use Rattle.orbis_core.specs.ByteOrder.{updated, words_in}
use Rattle.secure_memory.specs.BlockWords.{is_memory_block, start_at}
use Rattle.secure_memory.specs.MemorySights.{HasWordsAt, Sight, contents_of_place, tree_scheme}
use Rattle.secure_memory.specs.OutsideEvents.{is_outside}
use Rattle.bus_machine.specs.BusMachine.{Veil}
use Rattle.faithful_memory.specs.KnownWords.{AllGiveDataWords, AllGiveWords, GivesDataWords, GivesWords, HasDataContents, HasSameDataWords, HasSameWords, TreeAsWritten}
use Rattle.faithful_memory.specs.ReadContents.{stored}
use Rattle.faithful_memory.specs.BetweenAccesses.{GrowsOutside, KeepsTree}
use Rattle.faithful_memory.specs.DataContents.{LeavesTree}

-- ---- the same words

-- what stands at the second byte of a word is no word
odd-same : HasSameWords (λ at. 0) (λ at. if at % 4 == 1 then 7 else 0)
odd-same = record { word = λ at is. let test : (at % 4 == 1) ≡ false = grind (arith, nat_tests, is) in ap (λ b. if b then 7 else 0) test }

word-other : HasSameWords (λ at. 0) (updated (λ at. 0) 8 1) → ⊥
word-other same = let e : 1 ≡ 0 = same.word 8 refl in omega (arith, e)

-- a word of the log is no word of data
log-same : HasSameDataWords (λ at. 0) (updated (λ at. 0) 0x20000000 1)
log-same = record { word = λ at is below. let test : (at == 0x20000000) ≡ false = grind (arith, nat_tests, below) in ap (λ b. if b then 1 else 0) test }

data-other : HasSameDataWords (λ at. 0) (updated (λ at. 0) 0x10000000 1) → ⊥
data-other same = let e : 1 ≡ 0 = same.word 0x10000000 refl (lit≤ tt) in omega (arith, e)

-- ---- reads that give words

-- ten data blocks in a tree whose nodes are the blocks 0 to 12
abbrev layout : Layout
layout = record { verified = 1; private = 2; constants = 3; code = 4; log = 5; shared = 12; data_fits = lit≤ tt; log_fits = lit≤ tt; shared_fits = lit≤ tt }

abbrev bare : Veil
bare = λ n stamp bytes. bytes

-- a veil that makes zeros of what was read
abbrev blank : Veil
blank = λ n stamp bytes. replicate 64 0

abbrev zeros : Block
zeros = record { payload = replicate 64 0; stamp = 1 }

-- the second word is 0x04050607
abbrev other : Block
other = record { payload = 0 ∷ 0 ∷ 0 ∷ 0 ∷ 4 ∷ 5 ∷ 6 ∷ 7 ∷ replicate 56 0; stamp = 1 }

zero-words : (k : ℕ) → k < 16 → 0 ≡ slice_index (words_in (replicate 64 0)) k
zero-words k less = let words : words_in (replicate 64 0) ≡ replicate 16 0 = refl in sym (ap (λ (ws : List ℕ). slice_index ws k) words ∙ get_or-replicate 16 k 0 0 less)

data-given : GivesWords layout bare (λ at. 0) (BlockRead (Tree 13) zeros)
unfolding height_of
data-given is k less = zero-words k less

data-not_given : GivesWords layout bare (λ at. 0) (BlockRead (Tree 13) other) → ⊥
unfolding height_of
data-not_given gives = let e : 0 ≡ 0x04050607 = gives refl 1 (lit≤ tt) in omega (arith, e)

-- the veil is removed
veil-given : GivesWords layout blank (λ at. 0) (BlockRead (Tree 13) other)
unfolding height_of
veil-given is k less = zero-words k less

-- but not from blocks of the log
log-not_given : GivesWords layout blank (λ at. 0) (BlockRead (Log 4) other) → ⊥
log-not_given gives = let e : 0 ≡ 0x04050607 = gives refl 1 (lit≤ tt) in omega (arith, e)

-- a node, the position after the last data block and the block after the last of the log are no blocks of memory
node-given : GivesWords layout bare (λ at. 0) (BlockRead (Tree 12) other)
unfolding height_of
node-given is = let e : false ≡ true = is in cc

beyond-given : GivesWords layout bare (λ at. 0) (BlockRead (Tree 23) other)
unfolding height_of
beyond-given is = let e : false ≡ true = is in cc

log_beyond-given : GivesWords layout bare (λ at. 0) (BlockRead (Log 5) other)
log_beyond-given is = let e : false ≡ true = is in cc

-- what is written is not read
written-given : GivesWords layout bare (λ at. 0) (BlockWrite (Tree 13) other)
written-given = tt

-- of data blocks alone
log-data_given : GivesDataWords layout bare (λ at. 0) (BlockRead (Log 4) other)
log-data_given = tt

data-data_not_given : GivesDataWords layout bare (λ at. 0) (BlockRead (Tree 13) other) → ⊥
unfolding height_of
data-data_not_given gives = let e : 0 ≡ 0x04050607 = gives refl 1 (lit≤ tt) in omega (arith, e)

-- each event counts
second-not_given : AllGiveWords layout bare (λ at. 0) (BlockRead (Log 4) zeros ∷ BlockRead (Log 4) other ∷ []) → ⊥
second-not_given all = log-not_given' (all.each (BlockRead (Log 4) zeros ∷ []) (BlockRead (Log 4) other) [] refl)
  where
    log-not_given' : GivesWords layout bare (λ at. 0) (BlockRead (Log 4) other) → ⊥
    log-not_given' gives = let e : 0 ≡ 0x04050607 = gives refl 1 (lit≤ tt) in omega (arith, e)

second-data_given : AllGiveDataWords layout bare (λ at. 0) (BlockRead (Log 4) zeros ∷ BlockRead (Log 4) other ∷ [])
second-data_given = record { each = by }
  where
    by : (before : List Event) (event : Event) (rest : List Event) → BlockRead (Log 4) zeros ∷ BlockRead (Log 4) other ∷ [] ≡ before ++ event ∷ rest → GivesDataWords layout bare (λ at. 0) event
    by [] event rest parts = let e : BlockRead (Log 4) zeros ≡ event = cc in subst (λ (x : Event). GivesDataWords layout bare (λ at. 0) x) e tt
    by (first ∷ []) event rest parts = let e : BlockRead (Log 4) other ≡ event = cc in subst (λ (x : Event). GivesDataWords layout bare (λ at. 0) x) e tt
    by (first ∷ second ∷ before) event rest parts = nothing before event rest (let e : [] ≡ before ++ event ∷ rest = cc in e)
      where
        nothing : {X : Type 0} (before : List Event) (event : Event) (rest : List Event) → [] ≡ before ++ event ∷ rest → X
        nothing [] event rest none = absurd (cc)
        nothing (first ∷ before) event rest none = absurd (cc)

-- ---- reads that are as they were written

log-read_changed : TreeAsWritten (history (BlockWrite (Log 0) zeros ∷ BlockRead (Log 0) other ∷ []))
log-read_changed = record { each = ((tt, tt), tt) }

log-read_not_written : AllAsWritten (history (BlockWrite (Log 0) zeros ∷ BlockRead (Log 0) other ∷ [])) → ⊥
log-read_not_written all = let e : false ≡ true = all.each.1 in cc

tree-read_changed : TreeAsWritten (history (BlockWrite (Tree 0) zeros ∷ BlockRead (Tree 0) other ∷ [])) → ⊥
tree-read_changed all = let e : false ≡ true = all.each.1 in cc

tree-read_same : TreeAsWritten (history (BlockWrite (Tree 0) zeros ∷ BlockRead (Tree 0) zeros ∷ []))
tree-read_same = record { each = ((tt, tt), refl) }

-- ---- what stores leave

stored-here : stored layout (Ok tt) 0x10000004 9 (λ at. 0) 0x10000004 ≡ 9
unfolding height_of class_at
stored-here = refl

stored-there : stored layout (Ok tt) 0x10000004 9 (λ at. 0) 0x10000008 ≡ 0
unfolding height_of class_at
stored-there = refl

open-stays : stored layout (Ok tt) 0x2000 9 (λ at. 0) 0x2000 ≡ 0
unfolding class_at
open-stays = refl

refused-stays : stored layout (Err (Refused Rights)) 0x10000004 9 (λ at. 0) 0x10000004 ≡ 0
refused-stays = refl

-- ---- between accesses

untrusted-outside : list_all is_outside (Note Suspend ∷ WordWrite Untrusted 4 7 ∷ []) ≡ true
untrusted-outside = refl

start-inside : list_all is_outside (Note CheckStart ∷ []) ≡ false
start-inside = refl

dropped-grows_not : {L : Type 0} (old new : Sight L) → GrowsOutside (Note (Drop (Tree 3)) ∷ []) old new → ⊥
dropped-grows_not old new grows = let e : false ≡ true = grows.outside in cc

-- an access at a closed address may change the lines; one at an open address may not
closed-leaves : {L : Type 0} (old new : Sight L) → LeavesTree 0x10000 old new
closed-leaves old new below = absurd (omega (arith, below))

open-leaves : {L : Type 0} (old new : Sight L) → LeavesTree 0xfffc old new → KeepsTree old new
open-leaves old new leaves = leaves (lit≤ tt)

-- ---- contents of data blocks

-- one data block, which is block 1 of its tree
abbrev pub one_block : Layout
one_block = record { verified = 1; private = 0; constants = 0; code = 0; log = 1; shared = 12; data_fits = lit≤ tt; log_fits = lit≤ tt; shared_fits = lit≤ tt }

abbrev pub no_lines : LineMap
no_lines = empty

abbrev pub sight_with : {L : Type 0} → L → Key → LogState → List Event → Sight L
sight_with cache key log trace = record {
  layout = one_block;
  mode = Te;
  tree = record { lines = cache; veil = record { key = key; layout = one_block }; layout = one_block; root = [] };
  lines = no_lines;
  pinned = [];
  log = log;
  stamps = 1;
  trace = trace;
  room = 0;
  told = None;
}

block-one : (n : ℕ) → IsTrue (is_memory_block one_block (Tree n)) → n ≡ 1
unfolding height_of
block-one n is = grind (arith, nat_tests)

pub no-line : (n : ℕ) → get no_lines n ≡ None
no-line n = grind (gets, rules)

-- what it contains, by its last write-back
last-contents : {L : Type 0} (cache : L) (key : Key) (log : LogState) (trace : List Event) (written : Option Block) → last_write (Tree 1) (history trace) ≡ written
    → contents_of_place (sight_with cache key log trace) (Tree 1) ≡ option_map (λ (block : Block). block.payload) written
unfolding height_of scheme_of
last-contents cache key log trace written is =
    ap (λ (o : Option Line). contents_in (tree_scheme (sight_with cache key log trace)) 1 o (last_write (Tree 1) (history trace))) (no-line 1)
    ∙ ap (λ (o : Option Block). contents_in (tree_scheme (sight_with cache key log trace)) 1 None o) is ∙ by written
  where
    by : (o : Option Block) → contents_in (tree_scheme (sight_with cache key log trace)) 1 None o ≡ option_map (λ (block : Block). block.payload) o
    by None = refl
    by (Some block) = refl

-- it contains what was written last, whatever the log contains
data-contents : {L : Type 0} (cache : L) (key : Key) (log : LogState) → HasDataContents (sight_with cache key log (BlockWrite (Tree 1) zeros ∷ [])) (λ at. 0)
unfolding height_of
data-contents cache key log = record {
  block = λ n is.
      let P : ℕ → Type 0 = λ m. HasWordsAt (λ at. 0) (start_at one_block (Tree m)) (contents_of_place (sight_with cache key log (BlockWrite (Tree 1) zeros ∷ [])) (Tree m)) in
      subst P (sym (block-one n is))
      (record { payload = replicate 64 0; is = last-contents cache key log (BlockWrite (Tree 1) zeros ∷ []) (Some zeros) refl; words = λ k less. zero-words k less });
}

data-contents_not : {L : Type 0} (cache : L) (key : Key) (log : LogState) → HasDataContents (sight_with cache key log (BlockWrite (Tree 1) other ∷ [])) (λ at. 0) → ⊥
unfolding height_of
data-contents_not cache key log has =
    let block = has.block 1 refl in
    let e : Some block.payload ≡ Some other.payload = sym block.is ∙ last-contents cache key log (BlockWrite (Tree 1) other ∷ []) (Some other) refl in
    let same : block.payload ≡ other.payload = cc in
    let word : 0 ≡ 0x04050607 = block.words 1 (lit≤ tt) ∙ ap (λ (p : List ℕ). slice_index (words_in p) 1) same in omega (arith, word)

-- a block that was never written has no contents
data-contents_none : {L : Type 0} (cache : L) (key : Key) (log : LogState) → HasDataContents (sight_with cache key log []) (λ at. 0) → ⊥
unfolding height_of
data-contents_none cache key log has =
    let block = has.block 1 refl in let e : None ≡ Some block.payload = sym (last-contents cache key log [] None refl) ∙ block.is in cc
