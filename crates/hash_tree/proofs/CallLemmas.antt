-- What the calls of a tree owe to the calls that they make.
use Rattle.std.proofs.Common.{◌≡◌, ℕ, suc, ◌+◌, ◌-◌, ◌<◌, ◌≤◌, true, List, [], ◌∷◌, ◌++◌, length, Option, Some, None, refl, ap, ◌∙◌, inl, inr, arith, length-append}
use Rattle.std.specs.Prelude.{◌^◌, is_some, filter_map}
use Rattle.std.specs.List.{cons_option}
use Rattle.std.specs.FinMap.{get, contains_key}
use Rattle.std.proofs.lemmas.Bool.{cases_eq}
use Rattle.aegis_num.specs.declared.storage.Place.TheVariants.{Tree}
use Rattle.regions.specs.declared.layout.Layout.{Layout}
use Rattle.regions.specs.Tree.{tree_blocks}
use Rattle.off_chip.specs.declared.event.Event.{Event}
use Rattle.off_chip.specs.BusCalls.{TellsOnly, IsInside}
use Rattle.off_chip.specs.Histories.{history}
use Rattle.off_chip.specs.WriteBacks.{StampsFit, block_writes, stamp_written}
use Rattle.off_chip.proofs.BusLemmas.{told-tree}
use Rattle.off_chip.proofs.HistoryLemmas.{in_order-history}
use Rattle.line_cache.specs.declared.lines.Line.{Line}
use Rattle.line_cache.specs.LineMaps.{LineMap, Holds, with_clean}
use Rattle.hash_tree.specs.HashTrees.{scheme_of, state_of}
use Rattle.hash_tree.specs.Standing.{Stands}
use Rattle.hash_tree.proofs.SchemeLemmas.{get-clean, get-clean_other}

-- ---- stamps

some-of : {X Y : Type 0} (f : X → Option Y) (xs : List X) → length (filter_map f xs) ≤ length xs
some-of f [] = omega arith
some-of f (x ∷ xs) = by (f x) (filter_map f xs) (some-of f xs)
  where
    by : {Y : Type 0} (o : Option Y) (ys : List Y) → length ys ≤ length xs → length (cons_option o ys) ≤ suc (length xs)
    by None ys most = omega (arith, most)
    by (Some y) ys most = omega (arith, most)

-- the last stamp is at most the number of events
pub stamps-at_most : (last : ℕ) (trace : List Event) → StampsFit last (history trace) → last ≤ length trace
stamps-at_most last trace fit =
    let e : last ≡ block_writes trace = fit.count ∙ ap (λ (t : List Event). block_writes t) (in_order-history trace) in
    omega (arith, e, some-of stamp_written trace)

pub stamps-below : (last room : ℕ) (trace : List Event) → StampsFit last (history trace) → length trace + room < 2 ^ 64 → 0 < room → last < 2 ^ 64 - 1
stamps-below last room trace fit limit some = omega (arith, stamps-at_most last trace fit, limit, some)

-- ---- lines that are held

pub some-line : (o : Option Line) → is_some o ≡ true → (line : Line) × (o ≡ Some line)
some-line (Some line) held = (line, refl)
some-line None held = cc

pub held-line : (lines : LineMap) (n : ℕ) → Holds lines n → (line : Line) × (get lines n ≡ Some line)
held-line lines n held = some-line (get lines n) held

pub line-holds : (lines : LineMap) (n : ℕ) (line : Line) → get lines n ≡ Some line → Holds lines n
line-holds lines n line found = ap (λ (o : Option Line). is_some o) found

pub holds-clean : (lines : LineMap) (n m : ℕ) → Holds lines n → Holds lines m → Holds (with_clean lines n) m
holds-clean lines n m held_n held_m =
    let line = held-line lines n held_n in
    elim (cases_eq m n) [
      | inl here ↦ ap (λ (k : ℕ). contains_key (with_clean lines n) k) here ∙ ap (λ (o : Option Line). is_some o) (get-clean lines n line.0 line.1)
      | inr apart ↦ ap (λ (o : Option Line). is_some o) (get-clean_other lines n m line.0 line.1 apart) ∙ held_m
    ]

-- ---- places

pub held-below : (layout : Layout) (veiled : ℕ → ℕ → List ℕ → List ℕ) (lines : LineMap) (root : List ℕ) (trace : List Event) (n : ℕ)
    → Stands (scheme_of layout veiled) (state_of lines root trace) → Holds lines n → n < tree_blocks layout
unfolding scheme_of
held-below layout veiled lines root trace n stands held = let line = held-line lines n held in stands.inside n line.0 line.1

pub held-inside : (layout : Layout) (veiled : ℕ → ℕ → List ℕ → List ℕ) (lines : LineMap) (root : List ℕ) (trace : List Event) (n : ℕ) (told : Option Layout)
    → TellsOnly layout told → Stands (scheme_of layout veiled) (state_of lines root trace) → Holds lines n → IsInside told (Tree n)
held-inside layout veiled lines root trace n told only stands held = told-tree layout told (Tree n) only (held-below layout veiled lines root trace n stands held)

-- events and room together stay
pub total-kept : (event : Event) (old new : List Event) (old_room new_room : ℕ) → new ≡ old ++ event ∷ [] → new_room + 1 ≡ old_room
    → length new + new_room ≡ length old + old_room
total-kept event old new old_room new_room same room =
    omega (arith, ap (λ (t : List Event). length t) same, length-append old (event ∷ []), room)

pub total-both : (event : Event) (old middle new : List Event) (old_room middle_room new_room : ℕ) → length middle + middle_room ≡ length old + old_room → new ≡ middle ++ event ∷ []
    → new_room + 1 ≡ middle_room → length new + new_room ≡ length old + old_room
total-both event old middle new old_room middle_room new_room first same room = total-kept event middle new middle_room new_room same room ∙ first
