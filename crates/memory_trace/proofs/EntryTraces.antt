-- What is done where a program is entered, event by event.
use Rattle.std.proofs.Common.{◌≡◌, ◌≢◌, ℕ, zero, suc, ◌+◌, ◌*◌, ◌<◌, ◌≤◌, Bool, true, false, cond, List, [], ◌∷◌, ◌++◌, length, map, Option, Some, None, refl, sym, ap, ◌∙◌, subst, inl, inr, arith, rules, length-append}
use Rattle.std.specs.Prelude.{IfSome, IsTrue, is_some}
use Rattle.std.specs.Bool.{OnTrue}
use Rattle.std.specs.FinMap.{empty, get, gets}
use Rattle.std.specs.List.{All}
use Rattle.std.proofs.lemmas.Bool.{cases_eq, false_from_ne_true}
use Rattle.std.proofs.lemmas.List.Elements.{All-append, All-cons, All-head, All-nil, All-push, All-tail, All-weaker}
use Rattle.aegis_num.specs.declared.Block.{Block}
use Rattle.aegis_num.specs.declared.Place.{Place}
use Rattle.aegis_num.specs.declared.Place.TheVariants.{Tree, Log}
use Rattle.regions.specs.declared.Layout.{Layout}
use Rattle.regions.specs.Tree.{height_of, parent_in, tree_blocks}
use Rattle.off_chip.specs.declared.Event.{Event}
use Rattle.off_chip.specs.declared.Event.TheVariants.{BlockRead, BlockWrite, Note}
use Rattle.off_chip.specs.declared.Mark.TheVariants.{Enter}
use Rattle.off_chip.specs.BlockPlaces.{first_static, named_place}
use Rattle.off_chip.specs.Boundaries.{enter_events}
use Rattle.off_chip.specs.ExpectedDigests.{Digests}
use Rattle.off_chip.specs.FaithfulReads.{is_faithful, is_tree_read}
use Rattle.off_chip.specs.Histories.{History, no_event, ◌◂◌, history, Each}
use Rattle.off_chip.specs.OffChipBytes.{HasPlace}
use Rattle.off_chip.specs.Residency.{is_resident}
use Rattle.off_chip.proofs.HistoryLemmas.{Each-weaker, cut-Each}
use Rattle.line_cache.specs.declared.Line.{Line}
use Rattle.line_cache.specs.LineMaps.{LineMap}
use Rattle.hash_tree.specs.Entering.{BlockMove, IsUnder, entry_moves, is_static, move_of, moves_below, no_move, reads_block, writes_block}
use Rattle.hash_tree.specs.HashTrees.{digests_of, nodes_of}
use Rattle.hash_tree.specs.TreeParts.{TreeParts}
use Rattle.hash_tree.proofs.EntryNumbers.{statics-inside}
use Rattle.hash_tree.proofs.SchemeLemmas.{blocks-three, leaf-no_node}
use Rattle.hash_tree.proofs.UnderLemmas.{static-at, under-inside, under-lift, under-self}
use Rattle.stamp_log.specs.LogEvents.{zero_payload, zeros_written}
use Rattle.stamp_log.specs.LogState.{LogState, stamped}
use Rattle.secure_memory.specs.MemoryEntry.{EntersMemory}
use Rattle.secure_memory.specs.MemoryStands.{MemoryStands}
use Rattle.secure_memory.specs.PrivatePads.{Padding}
use Rattle.memory_trace.specs.EnteredTraces.{EnteringIsSound}
use Rattle.memory_trace.specs.ResidentLines.{LinesResident, has_line}
use Rattle.memory_trace.specs.SoundTraces.{IsSound}
use Rattle.memory_trace.specs.TracedEvents.{From, HasExpectedDigest}
use Rattle.memory_trace.proofs.CleanLemmas.{IsOfWritten, TellsWrite, of_written-more, tells-write}
use Rattle.memory_trace.proofs.Growing.{counted-back}
use Rattle.memory_trace.proofs.HonestMoves.{all-at}
use Rattle.memory_trace.proofs.LineAccesses.{held-line_of}

-- ---- the moves

-- a move of one of some blocks: what is read is static
abbrev pub MovesOne : Layout → (ℕ → Type 0) → BlockMove → Type 0
MovesOne layout These (reads_block m) = These m × (is_static layout m ≡ true)
MovesOne layout These (writes_block m) = These m
MovesOne layout These no_move = ⊥

moves-weaker : (layout : Layout) (These Those : ℕ → Type 0) → ((m : ℕ) → These m → Those m) → (move : BlockMove) → MovesOne layout These move → MovesOne layout Those move
moves-weaker layout These Those weaker (reads_block m) is = (weaker m is.0, is.1)
moves-weaker layout These Those weaker (writes_block m) is = weaker m is
moves-weaker layout These Those weaker no_move is = is

leaf-under : (layout : Layout) (n : ℕ) (b : Bool) → is_static layout n ≡ b → All (MovesOne layout (IsUnder zero n)) (cond b (reads_block n ∷ writes_block n ∷ []) (writes_block n ∷ []))
leaf-under layout n true is =
    All-cons (MovesOne layout (IsUnder zero n)) (reads_block n) (writes_block n ∷ []) (refl, is)
    (All-cons (MovesOne layout (IsUnder zero n)) (writes_block n) [] refl (All-nil (MovesOne layout (IsUnder zero n))))
leaf-under layout n false is = All-cons (MovesOne layout (IsUnder zero n)) (writes_block n) [] refl (All-nil (MovesOne layout (IsUnder zero n)))

child-of : (n i : ℕ) → 0 < i → i ≤ 3 → parent_in 3 (3 * n + i) ≡ n
child-of n i some few = omega (arith, some, few)

pub moves-under : (layout : Layout) (levels n : ℕ) → All (MovesOne layout (IsUnder levels n)) (moves_below layout levels n)
moves-under layout zero n = leaf-under layout n (is_static layout n) refl
moves-under layout (suc levels) n =
    All-push (MovesOne layout (IsUnder (suc levels) n))
    ((moves_below layout levels (3 * n + 1) ++ moves_below layout levels (3 * n + 2)) ++ moves_below layout levels (3 * n + 3)) (writes_block n)
    (All-append (MovesOne layout (IsUnder (suc levels) n)) (moves_below layout levels (3 * n + 1) ++ moves_below layout levels (3 * n + 2)) (moves_below layout levels (3 * n + 3))
    (All-append (MovesOne layout (IsUnder (suc levels) n)) (moves_below layout levels (3 * n + 1)) (moves_below layout levels (3 * n + 2))
    (child 1 (omega arith) (omega arith) (moves-under layout levels (3 * n + 1))) (child 2 (omega arith) (omega arith) (moves-under layout levels (3 * n + 2))))
    (child 3 (omega arith) (omega arith) (moves-under layout levels (3 * n + 3))))
    (under-self (suc levels) n n refl)
  where
    child : (i : ℕ) → 0 < i → i ≤ 3 → All (MovesOne layout (IsUnder levels (3 * n + i))) (moves_below layout levels (3 * n + i))
        → All (MovesOne layout (IsUnder (suc levels) n)) (moves_below layout levels (3 * n + i))
    child i some few all =
        All-weaker (MovesOne layout (IsUnder levels (3 * n + i))) (MovesOne layout (IsUnder (suc levels) n))
        (λ (move : BlockMove) (is : MovesOne layout (IsUnder levels (3 * n + i)) move).
        moves-weaker layout (IsUnder levels (3 * n + i)) (IsUnder (suc levels) n) (λ m under. under-lift levels n (3 * n + i) m (omega (arith, some)) (child-of n i some few) under) move is)
        (moves_below layout levels (3 * n + i)) all

-- ---- the events

-- each event of an entering is its mark, a read of a static block, or a write of a block
pub data EntersBy (layout : Layout) (event : Event) : Type 0 where
  by_mark : event ≡ Note Enter → EntersBy layout event
  by_read : (m : ℕ) (block : Block) → event ≡ BlockRead (Tree m) block → is_static layout m ≡ true → EntersBy layout event
  by_write : (m : ℕ) (block : Block) → event ≡ BlockWrite (Tree m) block → m < tree_blocks layout → EntersBy layout event
  by_zeros : (m : ℕ) (block : Block) → event ≡ BlockWrite (Log m) block → m < layout.log → EntersBy layout event

moved-by : (layout : Layout) (event : Event) → MovesOne layout (λ m. m < tree_blocks layout) (move_of event) → EntersBy layout event
moved-by layout (BlockRead (Tree m) block) is = by_read m block refl is.1
moved-by layout (BlockWrite (Tree m) block) is = by_write m block refl is
moved-by layout event is = absurd is

pub all-mapped : (P : BlockMove → Type 0) (events : List Event) (moves : List BlockMove) → map move_of events ≡ moves → All P moves → All (λ event. P (move_of event)) events
all-mapped P [] moves same all = All-nil (λ event. P (move_of event))
all-mapped P (event ∷ events) moves same all =
    let here : All P (move_of event ∷ map move_of events) = subst (λ (ms : List BlockMove). All P ms) (sym same) all in
    All-cons (λ event. P (move_of event)) event events (All-head P (move_of event) (map move_of events) here)
    (all-mapped P events (map move_of events) refl (All-tail P (move_of event) (map move_of events) here))

pub entry-inside : (layout : Layout) → All (MovesOne layout (λ m. m < tree_blocks layout)) (entry_moves layout)
entry-inside layout =
    All-weaker (MovesOne layout (IsUnder (height_of layout) 0)) (MovesOne layout (λ m. m < tree_blocks layout))
    (λ (move : BlockMove) (is : MovesOne layout (IsUnder (height_of layout) 0) move).
    moves-weaker layout (IsUnder (height_of layout) 0) (λ m. m < tree_blocks layout) (λ m under. under-inside (height_of layout) m under) move is)
    (entry_moves layout) (moves-under layout (height_of layout) 0)

zeros-by : (layout : Layout) (last n : ℕ) → n ≤ layout.log → All (EntersBy layout) (zeros_written last n)
zeros-by layout last zero few = All-nil (EntersBy layout)
zeros-by layout last (suc n) few =
    All-push (EntersBy layout) (zeros_written last n) (BlockWrite (Log n) (stamped zero_payload (last + suc n))) (zeros-by layout last n (omega (arith, few)))
    (by_zeros n (stamped zero_payload (last + suc n)) refl few)

pub entering-by : {L : Type 0} (layout : Layout) (old new : TreeParts L Padding) (lines : LineMap) (trace : List Event) (digest : List ℕ) → old.layout ≡ layout
    → EntersMemory old new lines trace digest → All (EntersBy layout) trace
entering-by layout old new lines trace digest of enters =
    subst (λ (l : Layout). All (EntersBy l) trace) of
    (subst (λ (t : List Event). All (EntersBy old.layout) t) (sym enters.started)
    (All-append (EntersBy old.layout) enters.middle (zeros_written enters.last old.layout.log)
    (subst (λ (t : List Event). All (EntersBy old.layout) t) (sym enters.entered.appended)
    (All-append (EntersBy old.layout) (Note Enter ∷ []) enters.entered.events
    (All-cons (EntersBy old.layout) (Note Enter) [] (by_mark refl) (All-nil (EntersBy old.layout)))
    (All-weaker (λ event. MovesOne old.layout (λ m. m < tree_blocks old.layout) (move_of event)) (EntersBy old.layout)
    (λ (event : Event) (is : MovesOne old.layout (λ m. m < tree_blocks old.layout) (move_of event)). moved-by old.layout event is) enters.entered.events
    (all-mapped (MovesOne old.layout (λ m. m < tree_blocks old.layout)) enters.entered.events (entry_moves old.layout) enters.entered.order (entry-inside old.layout)))))
    (zeros-by old.layout enters.last old.layout.log (omega arith))))

-- ---- what follows of it

by-inside : (layout : Layout) (event : Event) → EntersBy layout event → IfSome (named_place event) (HasPlace layout)
by-inside layout event (by_mark same) = subst (λ (e : Event). IfSome (named_place e) (HasPlace layout)) (sym same) tt
by-inside layout event (by_read m block same static) =
    let at = static-at layout m static in
    let below : m < tree_blocks layout = omega (arith, at.below, statics-inside layout) in
    subst (λ (e : Event). IfSome (named_place e) (HasPlace layout)) (sym same) below
by-inside layout event (by_write m block same below) = subst (λ (e : Event). IfSome (named_place e) (HasPlace layout)) (sym same) below
by-inside layout event (by_zeros m block same below) = subst (λ (e : Event). IfSome (named_place e) (HasPlace layout)) (sym same) below

-- no node is read
by-unread : (layout : Layout) (event : Event) (p : ℕ) (block : Block) → p < nodes_of layout → EntersBy layout event → event ≢ BlockRead (Tree p) block
by-unread layout event p block node (by_mark same) is = mark-no_read (sym same ∙ is)
  where
    mark-no_read : Note Enter ≡ BlockRead (Tree p) block → ⊥
    mark-no_read is = cc
by-unread layout event p block node (by_read m other same static) is =
    let e : m ≡ p = read-number (sym same ∙ is) in
    let at = static-at layout m static in
    let leaf : nodes_of layout ≤ first_static layout = leaf-no_node layout (layout.verified + layout.private) in
    omega (arith, e, at.from, leaf, node)
  where
    read-number : BlockRead (Tree m) other ≡ BlockRead (Tree p) block → m ≡ p
    read-number is = cc
by-unread layout event p block node (by_write m other same below) is = write-no_read (sym same ∙ is)
  where
    write-no_read : BlockWrite (Tree m) other ≡ BlockRead (Tree p) block → ⊥
    write-no_read is = cc
by-unread layout event p block node (by_zeros m other same below) is = write-no_read (sym same ∙ is)
  where
    write-no_read : BlockWrite (Log m) other ≡ BlockRead (Tree p) block → ⊥
    write-no_read is = cc

parent-node : (layout : Layout) (n : ℕ) → n ≢ 0 → n < tree_blocks layout → (digests_of layout).parent n < nodes_of layout
parent-node layout n other below = omega (arith, other, below, blocks-three layout)

by-tells : (layout : Layout) (n : ℕ) (event : Event) → n < tree_blocks layout → EntersBy layout event → TellsWrite (digests_of layout) n event
by-tells layout n event below by = elim (cases_eq n 0) [
  | inl root ↦ tells-write (digests_of layout) n event (inl root)
  | inr other ↦ tells-write (digests_of layout) n event (inr (λ block. by-unread layout event ((digests_of layout).parent n) block (parent-node layout n other below) by))
]

each-of_written : (tree : Digests) (n : ℕ) (older : History) → Each (λ event older. TellsWrite tree n event) older → IsOfWritten tree n older
each-of_written tree n no_event each = refl
each-of_written tree n (event ◂ older) each = of_written-more tree n event older each.1 (each-of_written tree n older each.0)

all-each : (P : Event → Type 0) (trace : List Event) → All P trace → Each (λ event older. P event) (history trace)
all-each P trace all = cut-Each (λ event older. P event) trace (λ before event rest same. all-at P trace before event rest same all)

short : (entry : ℕ) (trace before : List Event) (event : Event) (rest : List Event) → length trace ≡ entry → trace ≡ before ++ event ∷ rest → entry ≤ length before → ⊥
short entry trace before event rest size same from =
    omega (arith, size, from, ap (λ (t : List Event). length t) same, length-append before (event ∷ rest))

none-from : (P : Event → History → Type 0) (entry : ℕ) (trace : List Event) → length trace ≡ entry → Each (From entry P) (history trace)
none-from P entry trace size = cut-Each (From entry P) trace (λ before event rest same from. absurd (short entry trace before event rest size same (counted-back entry before from)))

pub entering-sound : {L : Type 0} (layout : Layout) (old new : TreeParts L Padding) (lines : LineMap) (trace : List Event) (digest : List ℕ) → old.layout ≡ layout
    → EntersMemory old new lines trace digest → length trace ≡ enter_events layout → IsSound layout trace
entering-sound layout old new lines trace digest of enters size =
    let all : All (EntersBy layout) trace = entering-by layout old new lines trace digest of enters in
    let each : Each (λ event older. EntersBy layout event) (history trace) = all-each (EntersBy layout) trace all in
    record {
      expected = record { each = none-from (HasExpectedDigest (digests_of layout)) (enter_events layout) trace size };
      honest = λ clean. record {
        faithful = λ image. record { each = none-from (λ event older. OnTrue (is_tree_read event) (IsTrue (is_faithful image event older))) (enter_events layout) trace size };
        written = λ n below. each-of_written (digests_of layout) n (history trace)
            (Each-weaker (λ event older. EntersBy layout event) (λ event older. TellsWrite (digests_of layout) n event)
            (λ (event : Event) (older : History) (by : EntersBy layout event). by-tells layout n event below by) (history trace) each);
      };
      inside = record {
        each = Each-weaker (λ event older. EntersBy layout event) (λ event older. IfSome (named_place event) (HasPlace layout))
            (λ (event : Event) (older : History) (by : EntersBy layout event). by-inside layout event by) (history trace) each;
      };
    }

get-empty : (n : ℕ) (lines : LineMap) → lines ≡ empty → get lines n ≡ None
get-empty n lines none = rw none (grind (gets, rules))

pub entering-resident : {L : Type 0} (layout : Layout) (tree : TreeParts L Padding) (lines : LineMap) (log : LogState) (stamps : ℕ) (trace : List Event)
    → MemoryStands layout tree lines log stamps trace → lines ≡ empty → LinesResident layout lines log.lines trace
entering-resident layout tree lines log stamps trace stands none = record { each = by }
  where
    by : (place : Place) → HasPlace layout place → has_line lines log.lines place ≡ is_resident place (history trace)
    by (Tree n) inside =
        ap (λ (o : Option Line). is_some o) (get-empty n lines none)
        ∙ sym (false_from_ne_true (is_resident (Tree n) (history trace)) (λ is.
        let line = stands.tree_stands.held n is in
        let e : None ≡ Some line.0 = sym (get-empty n lines none) ∙ line.1 in cc))
    by (Log n) inside = held-line_of log.lines n ∙ stands.log_stands.lines.resident n (subst (λ (k : ℕ). n < k) (sym stands.parts.of_log) inside)

pub entering-law : (L : Type 0) → EnteringIsSound L
entering-law L layout old new lines log stamps trace digest of enters stands none size = record {
  sound = entering-sound layout old new lines trace digest of enters size;
  resident = entering-resident layout new lines log stamps trace stands none;
}
