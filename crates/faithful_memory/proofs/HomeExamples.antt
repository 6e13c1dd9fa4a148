-- Examples of blocks at home, of states that are alike, and of what is asked.
use Rattle.std.proofs.Common.{◌≡◌, ℕ, ◌<◌, List, [], ◌∷◌, ◌++◌, Some, None, Result, lit≤, refl, sym, ap, ◌∙◌, arith}
use Rattle.std.specs.Prelude.{⊤, replicate, slice_index}
use Rattle.std.proofs.lemmas.List.{get_or-replicate}
use Rattle.aegis_num.specs.declared.storage.Block.{Block}
use Rattle.aegis_num.specs.declared.storage.Key.{Key}
use Rattle.aegis_num.specs.declared.storage.Place.TheVariants.{Log, Tree}
use Rattle.execution.specs.Run.{Goes, Stops}
use Rattle.regions.specs.Tree.{height_of}
use Rattle.off_chip.specs.declared.event.Event.{Event}
use Rattle.off_chip.specs.declared.event.Event.TheVariants.{BlockRead, BlockWrite, Note}
use Rattle.off_chip.specs.declared.event.Mark.TheVariants.{Enter}
use Rattle.off_chip.specs.Histories.{history}
use Rattle.hash_tree.specs.TreeParts.{TreeParts}
use Rattle.stamp_log.specs.LogEvents.{zero_payload, zeros_written}
use Rattle.stamp_log.specs.StandsOn.{contents_of}
use Rattle.secure_memory.specs.PrivatePads.{Padding}
use Rattle.bus_machine.specs.BusMachine.{Veil}
use Rattle.stamp_log.specs.LogState.{LogState, line_of}
use Rattle.orbis_core.specs.declared.Stop.{Stop}
use Rattle.orbis_core.specs.Accesses.{Accesses}
use Rattle.orbis_core.specs.ByteOrder.{updated, words_in}
use Rattle.orbis_core.specs.Ideal.{Ideal, Divide, Ended, Index}
use Rattle.bus_machine.specs.BusAccesses.{Sight as BusSight}
use Rattle.faithful_memory.specs.AskedOnBus.{KeepsAsked, after_which, asking}
use Rattle.faithful_memory.specs.EnteredContents.{IsEntered}
use Rattle.faithful_memory.specs.ContentsAtHome.{HasSlots, IsAtHome, LinesAreResident}
use Rattle.faithful_memory.specs.StatesAlike.{GoAlike}
use Rattle.faithful_memory.proofs.WordExamples.{no-line, one_block, sight_with}

abbrev zeros : Block
zeros = record { payload = replicate 64 0; stamp = 1 }

abbrev other : Block
other = record { payload = 0 ∷ 0 ∷ 0 ∷ 0 ∷ 4 ∷ 5 ∷ 6 ∷ 7 ∷ replicate 56 0; stamp = 2 }

zero-words : (k : ℕ) → k < 16 → 0 ≡ slice_index (words_in (replicate 64 0)) k
zero-words k less = let words : words_in (replicate 64 0) ≡ replicate 16 0 = refl in sym (ap (λ (ws : List ℕ). slice_index ws k) words ∙ get_or-replicate 16 k 0 0 less)

-- ---- at home

-- a log block is where its last write-back has the words of the memory
log-home : {L : Type 0} (cache : L) (key : Key) (log : LogState) → IsAtHome (sight_with cache key log (BlockWrite (Log 0) other ∷ BlockWrite (Log 0) zeros ∷ [])) (λ at. 0) (Log 0)
log-home cache key log = record { block = zeros; last = refl; words = λ k less. zero-words k less }

log-not_home : {L : Type 0} (cache : L) (key : Key) (log : LogState) → IsAtHome (sight_with cache key log (BlockWrite (Log 0) zeros ∷ BlockWrite (Log 0) other ∷ [])) (λ at. 0) (Log 0) → ⊥
log-not_home cache key log home =
    let e : Some home.block ≡ Some other = sym home.last in
    let same : home.block ≡ other = cc in
    let word : 0 ≡ 0x04050607 = home.words 1 (lit≤ tt) ∙ ap (λ (b : Block). slice_index (words_in b.payload) 1) same in omega (arith, word)

never-home : {L : Type 0} (cache : L) (key : Key) (log : LogState) → IsAtHome (sight_with cache key log []) (λ at. 0) (Log 0) → ⊥
never-home cache key log home = let e : None ≡ Some home.block = home.last in cc

-- a node has no slots where a child was never written
child-missing : {L : Type 0} (cache : L) (key : Key) (log : LogState) → HasSlots (sight_with cache key log (BlockWrite (Tree 0) zeros ∷ [])) 0 → ⊥
unfolding height_of
child-missing cache key log has = let slot = has.slots 1 (lit≤ tt) (lit≤ tt) refl in let e : None ≡ Some slot.block = slot.last in cc

-- a tree block that has no line need not be resident; one that has a line has to be
none-resident : {L : Type 0} (cache : L) (key : Key) (log : LogState) → LinesAreResident (sight_with cache key log [])
none-resident cache key log = record { resident = λ n line held. let e : None ≡ Some line = sym (no-line n) ∙ held in cc }

-- ---- states alike

-- what a memory has at an address of no word makes no difference; the words and the ends do
odd-alike : (state : Ideal) → GoAlike (Goes state) (Goes state)
odd-alike state = record { core = refl; mode = refl; words = record { word = λ at is. refl }; traffic = refl }

word-apart : (state : Ideal) → GoAlike (Goes (record state { memory = λ at. 0 })) (Goes (record state { memory = updated (λ at. 0) 8 1 })) → ⊥
word-apart state alike = let e : 1 ≡ 0 = alike.words.word 8 refl in omega (arith, e)

end-apart : (state : Ideal) → GoAlike (Stops Ended state) (Stops (Index 3) state) → ⊥
end-apart state alike = let e : Index 3 ≡ Ended = alike.0 in cc

place-apart : (state : Ideal) → GoAlike (Stops (Divide 4) state) (Stops (Divide 3) state) → ⊥
place-apart state alike = let e : Divide 3 ≡ Divide 4 = alike.0 in cc

goes-apart : (state : Ideal) → GoAlike (Goes state) (Stops Ended state) → ⊥
goes-apart state alike = alike

-- ---- what is asked

-- more memories are asked for less: those that the lines agree with, and of which this is asked
asked-too : {M : Type 0} (sight : BusSight M) (memory : M) (words : ℕ → ℕ) → (asking (λ m w. w 0 ≡ 7) sight).Agrees memory words → words 0 ≡ 7
asked-too sight memory words agrees = agrees.1

agrees-still : {M : Type 0} (sight : BusSight M) (memory : M) (words : ℕ → ℕ) → (asking (λ m w. w 0 ≡ 7) sight).Agrees memory words → sight.Agrees memory words
agrees-still sight memory words agrees = agrees.0

-- an access after which this does not hold is none of these
none-after : {M : Type 0} (accesses : Accesses M) (old new : M) (at : ℕ) (answer : Result ℕ Stop) → (after_which (λ m. ⊥) accesses).fetch old at answer new → ⊥
none-after accesses old new at answer does = does.1

stored-after : {M : Type 0} (accesses : Accesses M) (old new : M) (at word : ℕ) (answer : Result (Unit {0}) Stop) → (after_which (λ m. ⊥) accesses).store_word old at word answer new → ⊥
stored-after accesses old new at word answer does = does.1

-- ---- what is kept of it

abbrev bare : Veil
bare = λ n stamp bytes. bytes

-- a word of a block that was read with another one is not kept
read-not_kept : KeepsAsked (λ (trace : List Event). one_block) (λ trace. bare) (λ trace. trace) (λ trace words. words 0x20000004 ≡ 0) (λ memory. memory) [] (BlockRead (Log 0) other ∷ []) → ⊥
read-not_kept kept = let e : 0x04050607 ≡ 0 = kept.unheld (BlockRead (Log 0) other ∷ []) (λ at. 0) refl refl in omega (arith, e)

-- nor is a word that is changed
change-not_kept : KeepsAsked (λ (trace : List Event). one_block) (λ trace. bare) (λ trace. trace) (λ trace words. words 8 ≡ 0) (λ memory. updated memory 8 1) [] [] → ⊥
change-not_kept kept = let e : 1 ≡ 0 = kept.changed (λ at. 0) refl in omega (arith, e)

-- and what is asked of any memory is kept
all-kept : KeepsAsked (λ (trace : List Event). one_block) (λ trace. bare) (λ trace. trace) (λ trace words. ⊤) (λ memory. updated memory 8 1) [] (BlockRead (Log 0) other ∷ [])
all-kept = record { unheld = λ events memory same asked. tt; changed = λ memory asked. tt }

-- ---- entering

-- a memory whose log has a block that contains nothing was not entered
nothing-entered : {L : Type 0} (cache : L) (key : Key) (log : LogState) (old : TreeParts L Padding) (digest : List ℕ) → line_of log.lines 0 ≡ None
    → IsEntered old (sight_with cache key log (Note Enter ∷ [])) digest → ⊥
nothing-entered cache key log old digest none entered =
    let here : contents_of log (history (Note Enter ∷ [])) 0 ≡ Some zero_payload = entered.log 0 (lit≤ tt) in
    let e : None ≡ Some zero_payload = rw none at here in cc

-- nor was one whose trace begins with another event than the mark of entering
other-entered : {L : Type 0} (cache : L) (key : Key) (log : LogState) (old : TreeParts L Padding) (digest : List ℕ)
    → IsEntered old (sight_with cache key log (BlockWrite (Tree 0) zeros ∷ [])) digest → ⊥
other-entered cache key log old digest entered =
    let begun : BlockWrite (Tree 0) zeros ∷ [] ≡ (Note Enter ∷ entered.does.entered.events) ++ zeros_written entered.does.last old.layout.log =
    entered.does.started ∙ ap (λ (t : List Event). t ++ zeros_written entered.does.last old.layout.log) entered.does.entered.appended in
    let e : BlockWrite (Tree 0) zeros ≡ Note Enter = cc in cc
