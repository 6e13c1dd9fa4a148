-- Lines, resident places and paths on a small trace, epochs and programs, and what each definition says of them.
use Rattle.std.proofs.Common.{◌≡◌, ℕ, zero, suc, ◌+◌, ◌<◌, ◌≤◌, true, false, List, [], ◌∷◌, ◌++◌, replicate, Option, refl, sym, ap, ◌∙◌, lit≤, lit<, arith, rules}
use Rattle.std.specs.Prelude.{Contains, is_some, slice_index_or}
use Rattle.std.specs.FinMap.{contains_key, empty, gets, insert, len}
use Rattle.std.specs.List.{list_any}
use Rattle.aegis_num.specs.declared.Place.{Place}
use Rattle.aegis_num.specs.declared.Place.TheVariants.{Tree, Log}
use Rattle.aegis_num.specs.declared.limits.TheConstants.{LOG_LINES, TREE_LINES}
use Rattle.regions.specs.Tree.{height_of}
use Rattle.off_chip.specs.declared.Event.{Event}
use Rattle.off_chip.specs.declared.Event.TheVariants.{BlockRead, BlockWrite, Note}
use Rattle.off_chip.specs.declared.Mark.TheVariants.{CheckPassed, CheckStart}
use Rattle.off_chip.specs.Epochs.{LogEntry, is_passed, log_entry}
use Rattle.off_chip.specs.Histories.{history}
use Rattle.off_chip.specs.OffChipBytes.{HasPlace}
use Rattle.off_chip.specs.Residency.{is_resident}
use Rattle.line_cache.specs.declared.Line.{Line}
use Rattle.line_cache.specs.LineMaps.{LineMap}
use Rattle.line_cache.proofs.MapLemmas.{get-insert_other}
use Rattle.hash_tree.specs.Paths.{path_of}
use Rattle.stamp_log.specs.LogState.{LogLines}
use Rattle.memory_trace.specs.CleanEpochs.{LogIsClean, PassesNoCheck}
use Rattle.memory_trace.specs.CleanPrograms.{payloads_in, payloads_loaded}
use Rattle.memory_trace.specs.HeldPaths.{BlocksResident}
use Rattle.memory_trace.specs.ResidentLines.{HoldsFew, LinesResident, has_line}
use Rattle.memory_trace.proofs.WorkedTraces.{layout, leaf, leaving, loaded}

abbrev line : Line
line = record { payload = replicate 64 0; dirty = false }

-- the node and block 1 have lines, and log block 0
abbrev lines : LineMap
lines = insert (insert empty 0 line) 1 line

abbrev log : LogLines
log = record { order = 0 ∷ []; held = true ∷ []; payloads = replicate 64 0 ∷ [] }

line-0 : has_line lines log (Tree 0) ≡ true
line-0 = grind (gets, rules)

line-1 : has_line lines log (Tree 1) ≡ true
line-1 = grind (gets, rules)

line-2 : has_line lines log (Tree 2) ≡ false
line-2 = grind (gets, rules)

line-3 : has_line lines log (Tree 3) ≡ false
line-3 = grind (gets, rules)

log-lines : (has_line lines log (Log 0) ≡ true) × (has_line lines log (Log 1) ≡ false)
log-lines = (refl, refl)

resident : LinesResident layout lines log loaded
unfolding height_of
resident = record { each = by }
  where
    by : (place : Place) → HasPlace layout place → has_line lines log place ≡ is_resident place (history loaded)
    by (Tree zero) inside = line-0
    by (Tree (suc zero)) inside = line-1
    by (Tree (suc (suc zero))) inside = line-2
    by (Tree (suc (suc (suc zero)))) inside = line-3
    by (Tree (suc (suc (suc (suc n))))) inside = let less : suc (suc (suc (suc n))) < 4 = inside in absurd (omega (arith, less))
    by (Log zero) inside = refl
    by (Log (suc n)) inside = let less : suc n < 1 = inside in absurd (omega (arith, less))

-- a block that was written or dropped is not resident, though it has a line
resident-written : LinesResident layout lines log leaving → ⊥
unfolding height_of
resident-written is = let e : true ≡ false = sym line-1 ∙ is.each (Tree 1) (lit< tt) in cc

-- a block that is resident has to have one
resident-missing : LinesResident layout (insert empty 0 line) log loaded → ⊥
unfolding height_of
resident-missing is =
    let none : has_line (insert empty 0 line) log (Tree 1) ≡ false = grind (gets, rules) in
    let e : false ≡ true = sym none ∙ is.each (Tree 1) (lit< tt) in cc

resident-log : LinesResident layout lines (record { order = []; held = false ∷ []; payloads = [] }) loaded → ⊥
resident-log is = let e : false ≡ true = is.each (Log 0) (lit< tt) in cc

-- ---- few lines

few-lines : TREE_LINES + LOG_LINES ≡ 160
few-lines = refl

lines-two : len lines ≡ 2
lines-two = grind (gets, rules)

few : HoldsFew lines (record { order = []; held = replicate 32 true; payloads = [] })
few = record { in_tree = omega (arith, lines-two); in_log = lit≤ tt }

-- blocks without lines do not count
few-held : HoldsFew lines (record { order = []; held = replicate 1024 false; payloads = [] })
few-held = record { in_tree = omega (arith, lines-two); in_log = lit≤ tt }

many-log : HoldsFew lines (record { order = []; held = replicate 33 true; payloads = [] }) → ⊥
many-log is = let less : 33 ≤ 32 = is.in_log in omega (arith, less)

abbrev many : ℕ → LineMap
many zero = empty
many (suc n) = insert (many n) n line

none-many : (n k : ℕ) → n ≤ k → contains_key (many n) k ≡ false
none-many zero k less = grind (gets, rules)
none-many (suc n) k less = ap (λ (o : Option Line). is_some o) (get-insert_other (many n) n k line (λ same. omega (arith, same, less))) ∙ none-many n k (omega (arith, less))

len-many : (n : ℕ) → len (many n) ≡ n
len-many zero = grind (gets, rules)
len-many (suc n) = let none : contains_key (many n) n ≡ false = none-many n n (omega arith) in let rest : len (many n) ≡ n = len-many n in grind (gets, rules)

-- 129 lines of the tree
many-tree : HoldsFew (many 129) log → ⊥
many-tree is = omega (arith, is.in_tree, len-many 129)

-- ---- paths

-- the first data block has the path of the node and block 1
path : path_of layout 0 ≡ 0 ∷ 1 ∷ []
unfolding height_of
path = refl

two : (n : ℕ) → Contains (0 ∷ 1 ∷ []) n → is_resident (Tree n) (history loaded) ≡ true
two n inside = by inside.0 inside.1 inside.2
  where
    by : (k : ℕ) → k < 2 → slice_index_or (0 ∷ 1 ∷ []) k n ≡ n → is_resident (Tree n) (history loaded) ≡ true
    by zero below same = let e : 0 ≡ n = same in ap (λ (m : ℕ). is_resident (Tree m) (history loaded)) (sym e)
    by (suc zero) below same = let e : 1 ≡ n = same in ap (λ (m : ℕ). is_resident (Tree m) (history loaded)) (sym e)
    by (suc (suc k)) below same = let no_such : ⊥ = omega (arith, below) in absurd no_such

path-resident : BlocksResident layout 0x10000000 loaded
unfolding height_of
path-resident = record { path = λ closed below. two; in_log = λ from. absurd (omega (arith, from)) }

-- the node was dropped, or the block of the address was not read
path-dropped : BlocksResident layout 0x10000000 leaving → ⊥
unfolding height_of
path-dropped is = let e : false ≡ true = is.path (lit≤ tt) (lit< tt) 0 (0, lit< tt, refl) in cc

path-other : BlocksResident layout 0x10000040 loaded → ⊥
unfolding height_of
path-other is = let e : false ≡ true = is.path (lit≤ tt) (lit< tt) 2 (1, lit< tt, refl) in cc

-- an address of the log has its block alone, and an open one has none
log-resident : BlocksResident layout 0x20000000 loaded
log-resident = record { path = λ closed below. absurd (omega (arith, below)); in_log = λ from. refl }

log-other : BlocksResident layout 0x20000040 loaded → ⊥
log-other is = let e : false ≡ true = is.in_log (lit≤ tt) in cc

open-resident : BlocksResident layout 0x8000 []
open-resident = record { path = λ closed below. absurd (omega (arith, closed)); in_log = λ from. absurd (omega (arith, from)) }

-- ---- epochs

-- entries that all have one value
abbrev worthless : LogEntry → ℕ
worthless entry = 0

abbrev passed : List Event
passed = BlockWrite (Log 0) (leaf 1 1) ∷ BlockRead (Log 0) (leaf 2 1) ∷ Note CheckPassed ∷ []

unclean : LogIsClean worthless passed → ⊥
unclean clean = clean.none 2 (record {
  before = BlockWrite (Log 0) (leaf 1 1) ∷ BlockRead (Log 0) (leaf 2 1) ∷ [];
  rest = [];
  parts = refl;
  counted = refl;
  differ = λ same. let e : ◌≡◌ {A = ℕ} 1 0 = same.counts (log_entry 0 (leaf 1 1)) in omega (arith, e);
  same = refl;
})

-- no check passed
nothing-in_nil : (before : List Event) (event : Event) (rest : List Event) → [] ≡ before ++ event ∷ rest → ⊥
nothing-in_nil [] event rest same = cc
nothing-in_nil (x ∷ before) event rest same = cc

clean-none : (value : LogEntry → ℕ) → LogIsClean value []
clean-none value = record { none = λ number c. nothing-in_nil c.before (Note CheckPassed) c.rest c.parts }

-- a check that began passes none
passes-none : PassesNoCheck loaded (loaded ++ Note CheckStart ∷ BlockRead (Log 0) (leaf 0 5) ∷ [])
passes-none = record { events = Note CheckStart ∷ BlockRead (Log 0) (leaf 0 5) ∷ []; appended = refl; none = refl }

passes-one : PassesNoCheck [] (Note CheckPassed ∷ []) → ⊥
passes-one passes = by passes.events passes.appended passes.none
  where
    by : (events : List Event) → Note CheckPassed ∷ [] ≡ events → list_any is_passed events ≡ false → ⊥
    by events same none = let e : true ≡ false = ap (λ (es : List Event). list_any is_passed es) same ∙ none in cc

-- ---- programs

payloads : payloads_in 2 (replicate 64 1 ++ replicate 64 2) ≡ replicate 64 1 ∷ replicate 64 2 ∷ []
payloads = refl

-- the layout has one static block
loaded-one : payloads_loaded layout (replicate 64 1 ++ replicate 64 2) ≡ replicate 64 1 ∷ []
loaded-one = refl
