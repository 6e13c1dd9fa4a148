-- What the events of a load of the tree are to the words of memory, to the log and to the contents.
use Rattle.std.proofs.Common.{◌≡◌, ◌≢◌, ℕ, ◌≤◌, Bool, true, false, Option, Some, None, List, [], ◌∷◌, ◌++◌, refl, sym, ap, ◌∙◌, subst, append_assoc, arith, inl, inr, rules}
use Rattle.std.specs.Prelude.{IsTrue, is_some, filter_map, if◌then◌else◌, ◌==◌, ◌||◌}
use Rattle.std.specs.List.{All, list_any}
use Rattle.std.proofs.lemmas.List.{append-nil}
use Rattle.std.proofs.lemmas.List.Elements.{All-head, All-tail, All-nil, All-cons}
use Rattle.aegis_num.specs.declared.storage.Block.{Block}
use Rattle.aegis_num.specs.declared.storage.Place.TheVariants.{Log, Tree}
use Rattle.off_chip.specs.declared.event.Event.{Event}
use Rattle.off_chip.specs.declared.event.Event.TheVariants.{BlockRead, BlockWrite, Note, WordRead, WordWrite}
use Rattle.off_chip.specs.Histories.{History, history}
use Rattle.off_chip.specs.WriteBacks.{read_at}
use Rattle.off_chip.proofs.HistoryLemmas.{history-appended}
use Rattle.line_cache.specs.declared.lines.Line.{Line}
use Rattle.hash_tree.specs.AsWritten.{AllAsWritten}
use Rattle.hash_tree.specs.CachedLines.{Held}
use Rattle.hash_tree.specs.Schemes.{Scheme, unveiled}
use Rattle.hash_tree.specs.Standing.{State, KeepsContents, SameContents}
use Rattle.hash_tree.specs.TreeSteps.{IsMove, IsRemoval, Moves, block_read, uncached}
use Rattle.hash_tree.proofs.AsWrittenLemmas.{unfaithful-as_written}
use Rattle.stamp_log.specs.LogState.{LogState}
use Rattle.stamp_log.specs.StandsOn.{StandsOn, contents_in}
use Rattle.stamp_log.specs.Starting.{is_foreign}
use Rattle.stamp_log.proofs.LawProofs.{foreign-law}
use Rattle.secure_memory.specs.MemoryAccesses.{is_block_move}
use Rattle.secure_memory.proofs.PlaceLemmas.{LastRead, last_read}

-- ---- the log

removal-foreign : (n : ℕ) (event : Event) → IsRemoval n event → is_foreign event ≡ true
removal-foreign n event (IsRemoval.write block same) = subst (λ (e : Event). is_foreign e ≡ true) (sym same) refl
removal-foreign n event (IsRemoval.dropped same) = subst (λ (e : Event). is_foreign e ≡ true) (sym same) refl

event-foreign : (pinned : List ℕ) (old new : State) (event : Event) → IsMove pinned old new event → is_foreign event ≡ true
event-foreign pinned old new event (IsMove.read n block same inside) = subst (λ (e : Event). is_foreign e ≡ true) (sym same) refl
event-foreign pinned old new event (IsMove.removal n removal outside held gone) = removal-foreign n event removal

-- a log stands on after the events of a load of the tree, with its contents
pub record LogStays (log : LogState) (before after : List Event) : Type 0 where
  pub stands : StandsOn log (history after)
  pub contents : (n : ℕ) → contents_in log.lines (history after) n ≡ contents_in log.lines (history before) n

pub log-stays : (pinned : List ℕ) (old new : State) (log : LogState) (events trace : List Event) → All (IsMove pinned old new) events → StandsOn log (history trace)
    → LogStays log trace (trace ++ events)
log-stays pinned old new log [] trace all stands =
    subst (λ (t : List Event). LogStays log trace t) (sym (append-nil trace)) (record { stands = stands; contents = λ n. refl })
log-stays pinned old new log (event ∷ events) trace all stands =
    let foreign : is_foreign event ≡ true = event-foreign pinned old new event (All-head (IsMove pinned old new) event events all) in
    let one = foreign-law log event (history trace) foreign stands in
    let same = history-appended trace (trace ++ event ∷ []) event refl in
    let more : StandsOn log (history (trace ++ event ∷ [])) = subst (λ (h : History). StandsOn log h) (sym same) one.0 in
    let rest : LogStays log (trace ++ event ∷ []) ((trace ++ event ∷ []) ++ events) =
    log-stays pinned old new log events (trace ++ event ∷ []) (All-tail (IsMove pinned old new) event events all) more in
    subst (λ (t : List Event). LogStays log trace t) (append_assoc trace (event ∷ []) events)
    (record { stands = rest.stands; contents = λ n. rest.contents n ∙ ap (λ (h : History). contents_in log.lines h n) same ∙ one.1.each n })

-- ---- which events there are

removal-moves : (n : ℕ) (event : Event) → IsRemoval n event → IsTrue (is_block_move event)
removal-moves n event (IsRemoval.write block same) = subst (λ (e : Event). IsTrue (is_block_move e)) (sym same) refl
removal-moves n event (IsRemoval.dropped same) = subst (λ (e : Event). IsTrue (is_block_move e)) (sym same) refl

event-moves : (pinned : List ℕ) (old new : State) (event : Event) → IsMove pinned old new event → IsTrue (is_block_move event)
event-moves pinned old new event (IsMove.read n block same inside) = subst (λ (e : Event). IsTrue (is_block_move e)) (sym same) refl
event-moves pinned old new event (IsMove.removal n removal outside held gone) = removal-moves n event removal

pub all-move : (pinned : List ℕ) (old new : State) (events : List Event) → All (IsMove pinned old new) events → All (λ event. IsTrue (is_block_move event)) events
all-move pinned old new [] all = All-nil (λ event. IsTrue (is_block_move event))
all-move pinned old new (event ∷ events) all =
    All-cons (λ event. IsTrue (is_block_move event)) event events (event-moves pinned old new event (All-head (IsMove pinned old new) event events all))
    (all-move pinned old new events (All-tail (IsMove pinned old new) event events all))

pub All-append-one : (events : List Event) (event : Event) → All (λ event. IsTrue (is_block_move event)) events → IsTrue (is_block_move event)
    → All (λ event. IsTrue (is_block_move event)) (events ++ event ∷ [])
All-append-one [] event all moves = All-cons (λ event. IsTrue (is_block_move event)) event [] moves (All-nil (λ event. IsTrue (is_block_move event)))
All-append-one (first ∷ events) event all moves =
    All-cons (λ event. IsTrue (is_block_move event)) first (events ++ event ∷ []) (All-head (λ event. IsTrue (is_block_move event)) first events all)
    (All-append-one events event (All-tail (λ event. IsTrue (is_block_move event)) first events all) moves)

-- no block of the log is read
removal-no_log : (m n : ℕ) (event : Event) → IsRemoval n event → read_at (Log m) event ≡ None
removal-no_log m n event (IsRemoval.write block same) = ap (λ (e : Event). read_at (Log m) e) same
removal-no_log m n event (IsRemoval.dropped same) = ap (λ (e : Event). read_at (Log m) e) same

event-no_log : (m : ℕ) (pinned : List ℕ) (old new : State) (event : Event) → IsMove pinned old new event → read_at (Log m) event ≡ None
event-no_log m pinned old new event (IsMove.read n block same inside) = ap (λ (e : Event). read_at (Log m) e) same
event-no_log m pinned old new event (IsMove.removal n removal outside held gone) = removal-no_log m n event removal

pub no-log_read : (m : ℕ) (pinned : List ℕ) (old new : State) (events : List Event) → All (IsMove pinned old new) events → filter_map (read_at (Log m)) events ≡ []
no-log_read m pinned old new [] all = refl
no-log_read m pinned old new (event ∷ events) all =
    rw (event-no_log m pinned old new event (All-head (IsMove pinned old new) event events all))
    (no-log_read m pinned old new events (All-tail (IsMove pinned old new) event events all))

-- ---- reads of a tree block

-- a block is read exactly where it is among those that were read
unread-if : (n m : ℕ) (block : Block) → (m == n) ≡ false → read_at (Tree n) (BlockRead (Tree m) block) ≡ None
unread-if n m block differ =
    let e : (n == m) ≡ false = grind (arith, rules) in ap (λ (b : Bool). if b then Some block else None) e

or-false : (a b : Bool) → (a || b) ≡ false → (a ≡ false) × (b ≡ false)
or-false true b none = let e : true ≡ false = none in cc
or-false false b none = (refl, none)

pub not-among : (n : ℕ) (events : List Event) → list_any (λ m. m == n) (filter_map block_read events) ≡ false → filter_map (read_at (Tree n)) events ≡ []
not-among n [] none = refl
not-among n (BlockRead (Tree m) block ∷ events) none =
    let parts = or-false (m == n) (list_any (λ m. m == n) (filter_map block_read events)) none in rw (unread-if n m block parts.0) (not-among n events parts.1)
not-among n (BlockRead (Log m) block ∷ events) none = not-among n events none
not-among n (BlockWrite place block ∷ events) none = not-among n events none
not-among n (WordRead by at word ∷ events) none = not-among n events none
not-among n (WordWrite by at word ∷ events) none = not-among n events none
not-among n (Note mark ∷ events) none = not-among n events none

pub among-not : (n : ℕ) (events : List Event) → filter_map (read_at (Tree n)) events ≡ [] → list_any (λ m. m == n) (filter_map block_read events) ≡ false
among-not n [] none = refl
among-not n (BlockRead (Tree m) block ∷ events) none = by (among-not n events) (n == m) refl none
  where
    by : (filter_map (read_at (Tree n)) events ≡ [] → list_any (λ m. m == n) (filter_map block_read events) ≡ false) → (b : Bool) → (n == m) ≡ b
        → filter_map (read_at (Tree n)) (BlockRead (Tree m) block ∷ events) ≡ [] → list_any (λ m. m == n) (filter_map block_read (BlockRead (Tree m) block ∷ events)) ≡ false
    by rest false is none =
        let other : (m == n) ≡ false = grind (arith, rules) in
        let more : filter_map (read_at (Tree n)) events ≡ [] = rw is at none in rw other (rest more)
    by rest true is none = let e : block ∷ filter_map (read_at (Tree n)) events ≡ [] = rw is at none in cc
among-not n (BlockRead (Log m) block ∷ events) none = among-not n events none
among-not n (BlockWrite place block ∷ events) none = among-not n events none
among-not n (WordRead by at word ∷ events) none = among-not n events none
among-not n (WordWrite by at word ∷ events) none = among-not n events none
among-not n (Note mark ∷ events) none = among-not n events none

-- a block that has a line is not among those of a path that have none
uncached-not : (lines : Held) (n : ℕ) (path : List ℕ) → is_some (lines n) ≡ true → list_any (λ m. m == n) (uncached lines path) ≡ false
uncached-not lines n [] held = refl
uncached-not lines n (m ∷ path) held = by (uncached-not lines n path held) (is_some (lines m)) refl
  where
    by : list_any (λ m. m == n) (uncached lines path) ≡ false → (b : Bool) → is_some (lines m) ≡ b → list_any (λ m. m == n) (uncached lines (m ∷ path)) ≡ false
    by rest true is = rw is rest
    by rest false is =
        let apart : m ≢ n = λ same. let e : true ≡ false = sym held ∙ ap (λ (k : ℕ). is_some (lines k)) (sym same) ∙ is in cc in
        let other : (m == n) ≡ false = grind (arith, rules, apart) in
        rw (is, other) rest

pub held-unread : (scheme : Scheme) (pinned : List ℕ) (old new : State) (path : List ℕ) (n : ℕ) (moves : Moves scheme pinned old new (uncached old.lines path)) → is_some (old.lines n) ≡ true
    → filter_map (read_at (Tree n)) moves.events ≡ []
held-unread scheme pinned old new path n moves held =
    not-among n moves.events (ap (λ (ns : List ℕ). list_any (λ m. m == n) ns) moves.reads_are ∙ uncached-not old.lines n path held)

-- ---- where a line comes from

-- the line of a block is the old one, or has the payload of its last read
pub data LineFrom (scheme : Scheme) (events : List Event) (old : State) (n : ℕ) (line : Line) : Type 0 where
  kept : filter_map (read_at (Tree n)) events ≡ [] → old.lines n ≡ Some line → LineFrom scheme events old n line
  came : (before : List Event) (block : Block) (rest : List Event) → events ≡ before ++ BlockRead (Tree n) block ∷ rest → filter_map (read_at (Tree n)) rest ≡ []
      → line.payload ≡ unveiled scheme n block → LineFrom scheme events old n line

some-from : (line : Line) (o : Option Line) → o ≡ Some line → is_some o ≡ true
some-from line o is = ap (λ (o : Option Line). is_some o) is

pub line-from : (scheme : Scheme) (pinned : List ℕ) (old new : State) (reads : List ℕ) (n : ℕ) (line : Line) (moves : Moves scheme pinned old new reads) → scheme.nodes ≤ n
    → new.lines n ≡ Some line → LineFrom scheme moves.events old n line
line-from scheme pinned old new reads n line moves leaf here = by (last_read (Tree n) moves.events)
  where
    by : LastRead (Tree n) moves.events → LineFrom scheme moves.events old n line
    by (LastRead.one_read before block rest parts none) =
        let read : new.lines n ≡ Some (record { payload = unveiled scheme n block; dirty = false }) = moves.line_read before n block rest parts leaf in
        let same : Some line ≡ Some (record { payload = unveiled scheme n block; dirty = false }) = sym here ∙ read in
        let one : line ≡ record { payload = unveiled scheme n block; dirty = false } = cc in
        LineFrom.came before block rest parts none (ap (λ (l : Line). l.payload) one)
    by (LastRead.no_read none) =
        let now : is_some (new.lines n) ≡ true = some-from line (new.lines n) here in
        elim (moves.came n now) [
          | inl was ↦ LineFrom.kept none (sym (moves.stays n leaf was now) ∙ here)
          | inr among ↦
              let not : list_any (λ m. m == n) reads ≡ false = ap (λ (ns : List ℕ). list_any (λ m. m == n) ns) (sym moves.reads_are) ∙ among-not n moves.events none in
              let no : true ≡ false = sym among.1 ∙ not in absurd (cc)
        ]

-- where each read gave the last write-back, the contents are kept
pub contents-kept : (scheme : Scheme) (old new : State) → KeepsContents scheme old new → AllAsWritten (history new.trace) → SameContents scheme old new
contents-kept scheme old new keeps all = elim keeps.kept [ inl same ↦ same | inr deceived ↦ absurd (unfaithful-as_written new.trace deceived.unfaithful all) ]
