-- What follows where a whole path is loaded.
use Rattle.std.proofs.Common.{◌≡◌, ℕ, ◌-◌, ◌<◌, Bool, true, false, List, [], ◌∷◌, ◌++◌, eqb, refl, sym, ap, ◌∙◌, subst, inl, inr, arith}
use Rattle.std.specs.Prelude.{is_some, filter_map, Contains, Result, Ok, Err, IsOk, IfOk, IfErr, if◌then◌else◌}
use Rattle.std.specs.List.{list_any}
use Rattle.std.proofs.lemmas.Bool.{cases_Bool}
use Rattle.std.proofs.lemmas.List.{append_assoc}
use Rattle.std.proofs.lemmas.List.Elements.{filter_map-append}
use Rattle.regions.specs.Tree.{parent_in}
use Rattle.off_chip.specs.declared.event.Event.{Event}
use Rattle.off_chip.specs.Histories.{history}
use Rattle.line_cache.specs.LineMaps.{LineMap}
use Rattle.hash_tree.specs.AsWritten.{AllAsWritten}
use Rattle.hash_tree.specs.CachedLines.{held_in}
use Rattle.hash_tree.specs.HashTrees.{state_of}
use Rattle.hash_tree.specs.Paths.{path_in}
use Rattle.hash_tree.specs.Schemes.{Scheme}
use Rattle.hash_tree.specs.Standing.{State}
use Rattle.hash_tree.specs.TreeSteps.{Moved, ReadsFirst, Stops, block_read, uncached}
use Rattle.hash_tree.specs.declared.tree.Changed.{Changed}
use Rattle.hash_tree.proofs.MoveLemmas.{moved-both, stops-later, stops-unfaithful}
use Rattle.hash_tree.proofs.PathLemmas.{path-absent, path-step, uncached-append}

-- a pinned block that was not read has a line as before
as-before : (scheme : Scheme) (pinned : List ℕ) (old middle : State) (reads : List ℕ) (n : ℕ) → Moved scheme pinned old middle reads → Contains pinned n
    → list_any (λ (m : ℕ). eqb m n) reads ≡ false → is_some (middle.lines n) ≡ is_some (old.lines n)
as-before scheme pinned old middle reads n moved pin unread =
    elim (cases_Bool (is_some (middle.lines n))) [
      | inl held ↦
          elim (moved.moves.came n held) [
            | inl before ↦ held ∙ sym before
            | inr came ↦ let e : true ≡ false = sym came.1 ∙ unread in cc
          ]
      | inr none ↦
          elim (cases_Bool (is_some (old.lines n))) [
            | inl before ↦ let e : true ≡ false = sym (moved.moves.kept n pin before) ∙ none in cc
            | inr absent ↦ none ∙ sym absent
          ]
    ]

-- the blocks of a path that have no line: those above the last block, and that one
uncached-path : (lines : LineMap) (depth block parent : ℕ) → 0 < depth → parent ≡ parent_in 3 block
    → uncached (held_in lines) (path_in 3 (depth - 1) parent) ++ uncached (held_in lines) (block ∷ []) ≡ uncached (held_in lines) (path_in 3 depth block)
uncached-path lines depth block parent some is_parent =
    sym (uncached-append (held_in lines) (path_in 3 (depth - 1) parent) (block ∷ []))
    ∙ ap (λ (p : ℕ). uncached (held_in lines) (path_in 3 (depth - 1) p ++ block ∷ [])) is_parent
    ∙ ap (λ (xs : List ℕ). uncached (held_in lines) xs) (sym (path-step depth block some))

-- where the path above a block was loaded, the block has a line where it had one
uncached-after : (scheme : Scheme) (pinned : List ℕ) (old middle : LineMap) (old_root middle_root : List ℕ) (old_trace middle_trace : List Event) (depth block parent : ℕ)
    → 0 < depth → 0 < block → parent ≡ parent_in 3 block → Contains pinned block
    → Moved scheme pinned (state_of old old_root old_trace) (state_of middle middle_root middle_trace) (uncached (held_in old) (path_in 3 (depth - 1) parent))
    → uncached (held_in old) (path_in 3 (depth - 1) parent) ++ uncached (held_in middle) (block ∷ []) ≡ uncached (held_in old) (path_in 3 depth block)
uncached-after scheme pinned old middle old_root middle_root old_trace middle_trace depth block parent some above is_parent pin first =
    let before = state_of old old_root old_trace in
    let between = state_of middle middle_root middle_trace in
    let front = path_in 3 (depth - 1) parent in
    let same : is_some (between.lines block) ≡ is_some (before.lines block) =
    as-before scheme pinned before between (uncached (held_in old) front) block first pin (path-absent (held_in old) (depth - 1) parent block (omega (arith, above, is_parent))) in
    ap (λ (b : Bool). uncached (held_in old) front ++ (if b then [] else block ∷ [])) same ∙ uncached-path old depth block parent some is_parent

-- a block after its path
pub moved-path : (scheme : Scheme) (pinned : List ℕ) (old middle new : LineMap) (old_root middle_root new_root : List ℕ) (old_trace middle_trace new_trace : List Event)
    (depth block parent : ℕ) → 0 < depth → 0 < block → parent ≡ parent_in 3 block → Contains pinned block
    → Moved scheme pinned (state_of old old_root old_trace) (state_of middle middle_root middle_trace) (uncached (held_in old) (path_in 3 (depth - 1) parent))
    → Moved scheme pinned (state_of middle middle_root middle_trace) (state_of new new_root new_trace) (uncached (held_in middle) (block ∷ []))
    → Moved scheme pinned (state_of old old_root old_trace) (state_of new new_root new_trace) (uncached (held_in old) (path_in 3 depth block))
moved-path scheme pinned old middle new old_root middle_root new_root old_trace middle_trace new_trace depth block parent some above is_parent pin first second =
    let before = state_of old old_root old_trace in
    let between = state_of middle middle_root middle_trace in
    let after = state_of new new_root new_trace in
    subst (λ (xs : List ℕ). Moved scheme pinned before after xs)
    (uncached-after scheme pinned old middle old_root middle_root old_trace middle_trace depth block parent some above is_parent pin first)
    (moved-both scheme pinned before between after (uncached (held_in old) (path_in 3 (depth - 1) parent)) (uncached (held_in middle) (block ∷ [])) first second)

-- ---- which blocks are read

-- after a part of a load
reads-after : (scheme : Scheme) (pinned : List ℕ) (old middle : State) (new : List Event) (first second : List ℕ) → Moved scheme pinned old middle first
    → ReadsFirst second middle.trace new → ReadsFirst (first ++ second) old.trace new
reads-after scheme pinned old middle new first second moved two =
    let a = moved.moves in
    record {
      events = a.events ++ two.events;
      appended = two.appended ∙ ap (λ (t : List Event). t ++ two.events) a.appended ∙ append_assoc old.trace a.events two.events;
      unread = two.unread;
      reads = ap (λ (xs : List ℕ). xs ++ two.unread) (filter_map-append block_read a.events two.events)
          ∙ append_assoc (filter_map block_read a.events) (filter_map block_read two.events) two.unread
          ∙ ap (λ (xs : List ℕ). filter_map block_read a.events ++ xs) two.reads ∙ ap (λ (xs : List ℕ). xs ++ second) a.reads_are;
    }

-- of more blocks the first ones are the same
reads-more : (first second : List ℕ) (old new : List Event) → ReadsFirst first old new → ReadsFirst (first ++ second) old new
reads-more first second old new one = record {
  events = one.events;
  appended = one.appended;
  unread = one.unread ++ second;
  reads = sym (append_assoc (filter_map block_read one.events) one.unread second) ∙ ap (λ (xs : List ℕ). xs ++ second) one.reads;
}

pub path-reads : (scheme : Scheme) (pinned : List ℕ) (old middle : LineMap) (old_root middle_root : List ℕ) (old_trace middle_trace new_trace : List Event)
    (depth block parent : ℕ) → 0 < depth → 0 < block → parent ≡ parent_in 3 block → Contains pinned block
    → Moved scheme pinned (state_of old old_root old_trace) (state_of middle middle_root middle_trace) (uncached (held_in old) (path_in 3 (depth - 1) parent))
    → ReadsFirst (uncached (held_in middle) (block ∷ [])) middle_trace new_trace
    → ReadsFirst (uncached (held_in old) (path_in 3 depth block)) old_trace new_trace
path-reads scheme pinned old middle old_root middle_root old_trace middle_trace new_trace depth block parent some above is_parent pin first second =
    subst (λ (xs : List ℕ). ReadsFirst xs old_trace new_trace)
    (uncached-after scheme pinned old middle old_root middle_root old_trace middle_trace depth block parent some above is_parent pin first)
    (reads-after scheme pinned (state_of old old_root old_trace) (state_of middle middle_root middle_trace) new_trace (uncached (held_in old) (path_in 3 (depth - 1) parent))
    (uncached (held_in middle) (block ∷ [])) first second)

pub path-reads_above : (old : LineMap) (old_trace new_trace : List Event) (depth block parent : ℕ) → 0 < depth → parent ≡ parent_in 3 block
    → ReadsFirst (uncached (held_in old) (path_in 3 (depth - 1) parent)) old_trace new_trace → ReadsFirst (uncached (held_in old) (path_in 3 depth block)) old_trace new_trace
path-reads_above old old_trace new_trace depth block parent some is_parent first =
    subst (λ (xs : List ℕ). ReadsFirst xs old_trace new_trace) (uncached-path old depth block parent some is_parent)
    (reads-more (uncached (held_in old) (path_in 3 (depth - 1) parent)) (uncached (held_in old) (block ∷ [])) old_trace new_trace first)

pub path-moved : {T E : Type 0} (r : Result T E) (scheme : Scheme) (pinned : List ℕ) (old middle new : LineMap) (old_root middle_root new_root : List ℕ)
    (old_trace middle_trace new_trace : List Event) (depth block parent : ℕ) → 0 < depth → 0 < block → parent ≡ parent_in 3 block → Contains pinned block
    → Moved scheme pinned (state_of old old_root old_trace) (state_of middle middle_root middle_trace) (uncached (held_in old) (path_in 3 (depth - 1) parent))
    → IfOk r (λ _. Moved scheme pinned (state_of middle middle_root middle_trace) (state_of new new_root new_trace) (uncached (held_in middle) (block ∷ [])))
    → IfOk r (λ _. Moved scheme pinned (state_of old old_root old_trace) (state_of new new_root new_trace) (uncached (held_in old) (path_in 3 depth block)))
path-moved (Ok x) scheme pinned old middle new old_root middle_root new_root old_trace middle_trace new_trace depth block parent some above is pin first second =
    moved-path scheme pinned old middle new old_root middle_root new_root old_trace middle_trace new_trace depth block parent some above is pin first second
path-moved (Err e) scheme pinned old middle new old_root middle_root new_root old_trace middle_trace new_trace depth block parent some above is pin first second = second

pub path-stops : {T : Type 0} (r : Result T Changed) (scheme : Scheme) (pinned : List ℕ) (old middle new : State) (reads : List ℕ) → Moved scheme pinned old middle reads
    → IfErr r (λ changed. Stops scheme pinned middle new changed.event) → IfErr r (λ changed. Stops scheme pinned old new changed.event)
path-stops (Ok x) scheme pinned old middle new reads moved stops = stops
path-stops (Err changed) scheme pinned old middle new reads moved stops = stops-later scheme pinned old middle new reads changed.event moved stops

-- ---- the load of a position

-- where each read was faithful, it does not stop
pub loads-honest : {T : Type 0} (r : Result T Changed) (scheme : Scheme) (pinned : List ℕ) (old new : State) → IfErr r (λ changed. Stops scheme pinned old new changed.event)
    → AllAsWritten (history new.trace) → IsOk r
loads-honest (Ok x) scheme pinned old new stops all = refl
loads-honest (Err changed) scheme pinned old new stops all = absurd (stops-unfaithful scheme pinned old new changed.event stops all)
