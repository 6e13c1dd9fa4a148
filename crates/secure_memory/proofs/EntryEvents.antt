-- The events of entering: those of the tree leave the log unused, and those of the log keep the tree standing.
use Rattle.std.proofs.Common.{◌≡◌, ℕ, zero, suc, ◌+◌, ◌*◌, Bool, true, false, cond, List, [], ◌∷◌, ◌++◌, length, length-append, refl, sym, subst, append_assoc, arith}
use Rattle.std.specs.Prelude.{map, IsTrue}
use Rattle.std.proofs.lemmas.List.{append-nil}
use Rattle.aegis_num.specs.declared.storage.Place.TheVariants.{Log, Tree}
use Rattle.regions.specs.declared.layout.Layout.{Layout}
use Rattle.off_chip.specs.declared.event.Event.{Event}
use Rattle.off_chip.specs.declared.event.Event.TheVariants.{BlockRead, BlockWrite, Note}
use Rattle.off_chip.specs.declared.event.Mark.TheVariants.{Enter}
use Rattle.off_chip.specs.Histories.{History, history}
use Rattle.off_chip.proofs.HistoryLemmas.{history-appended}
use Rattle.hash_tree.specs.Entering.{BlockMove, reads_block, writes_block, no_move, move_of, is_static, moves_below}
use Rattle.hash_tree.specs.TreeSteps.{IsElsewhere}
use Rattle.stamp_log.specs.LogEvents.{zero_payload, zeros_written}
use Rattle.stamp_log.specs.LogState.{stamped}
use Rattle.stamp_log.specs.Starting.{HasNoLog, is_foreign}
use Rattle.secure_memory.proofs.EventLists.{GrowsElsewhere, log_write-elsewhere}

-- each of these moves a block
abbrev pub MovesBlock : BlockMove → Type 0
MovesBlock (reads_block n) = Unit {0}
MovesBlock (writes_block n) = Unit {0}
MovesBlock no_move = ⊥

abbrev pub AllMoveBlocks : List BlockMove → Type 0
AllMoveBlocks [] = Unit {0}
AllMoveBlocks (move ∷ moves) = MovesBlock move × AllMoveBlocks moves

moves-joined : (moves more : List BlockMove) → AllMoveBlocks moves → AllMoveBlocks more → AllMoveBlocks (moves ++ more)
moves-joined [] more all rest = rest
moves-joined (move ∷ moves) more all rest = (all.0, moves-joined moves more all.1 rest)

leaf-moves-blocks : (static : Bool) (n : ℕ) → AllMoveBlocks (cond static (reads_block n ∷ writes_block n ∷ []) (writes_block n ∷ []))
leaf-moves-blocks true n = (tt, (tt, tt))
leaf-moves-blocks false n = (tt, tt)

pub below-moves-blocks : (layout : Layout) (levels n : ℕ) → AllMoveBlocks (moves_below layout levels n)
below-moves-blocks layout zero n = leaf-moves-blocks (is_static layout n) n
below-moves-blocks layout (suc levels) n =
    let first : List BlockMove = moves_below layout levels (3 * n + 1) in
    let second : List BlockMove = moves_below layout levels (3 * n + 2) in
    let third : List BlockMove = moves_below layout levels (3 * n + 3) in
    moves-joined ((first ++ second) ++ third) (writes_block n ∷ [])
    (moves-joined (first ++ second) third
    (moves-joined first second (below-moves-blocks layout levels (3 * n + 1)) (below-moves-blocks layout levels (3 * n + 2)))
    (below-moves-blocks layout levels (3 * n + 3)))
    (tt, tt)

move-foreign : (event : Event) → MovesBlock (move_of event) → is_foreign event ≡ true
move-foreign (BlockRead (Tree n) block) moves = refl
move-foreign (BlockWrite (Tree n) block) moves = refl
move-foreign event moves = absurd moves

-- events that move blocks of the tree leave the log unused
pub log-unused : (events trace : List Event) → AllMoveBlocks (map move_of events) → HasNoLog (history trace) → HasNoLog (history (trace ++ events))
log-unused [] trace all none = subst (λ (t : List Event). HasNoLog (history t)) (sym (append-nil trace)) none
log-unused (event ∷ events) trace all none =
    let here : IsTrue (is_foreign event) = move-foreign event all.0 in
    let more : HasNoLog (history (trace ++ event ∷ [])) =
    subst (λ (h : History). HasNoLog h) (sym (history-appended trace (trace ++ event ∷ []) event refl)) (record { each = (none.each, here) }) in
    subst (λ (t : List Event). HasNoLog (history t)) (append_assoc trace (event ∷ []) events) (log-unused events (trace ++ event ∷ []) all.1 more)

-- the writes of zeros are no events of the tree
pub zeros-elsewhere : (last count : ℕ) (first before : List Event) → GrowsElsewhere first before → GrowsElsewhere first (before ++ zeros_written last count)
zeros-elsewhere last zero first before grows = subst (λ (t : List Event). GrowsElsewhere first t) (sym (append-nil before)) grows
zeros-elsewhere last (suc n) first before grows =
    GrowsElsewhere.one_more first (before ++ zeros_written last n) (before ++ zeros_written last (suc n)) (BlockWrite (Log n) (stamped zero_payload (last + suc n)))
    (zeros-elsewhere last n first before grows) (log_write-elsewhere n (stamped zero_payload (last + suc n)))
    (sym (append_assoc before (zeros_written last n) (BlockWrite (Log n) (stamped zero_payload (last + suc n)) ∷ [])))

pub enter-elsewhere : IsElsewhere (Note Enter)
enter-elsewhere = λ m same. cc

pub zeros-long : (last count : ℕ) → length (zeros_written last count) ≡ count
zeros-long last zero = refl
zeros-long last (suc n) =
    omega (arith, length-append (zeros_written last n) (BlockWrite (Log n) (stamped zero_payload (last + suc n)) ∷ []), zeros-long last n)
