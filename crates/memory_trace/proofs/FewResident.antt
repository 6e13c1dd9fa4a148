-- At most so many places are resident as there are lines.
use Rattle.std.proofs.Common.{◌≡◌, ℕ, ◌+◌, ◌<◌, ◌≤◌, Bool, true, false, cond, not, ◌&&◌, List, [], ◌∷◌, length, Option, refl, sym, ap, ◌∙◌, subst, inl, inr, arith}
use Rattle.std.specs.Prelude.{IfSome, is_some, slice_index_or, slice_set}
use Rattle.std.specs.FinMap.{contains_key, len, remove}
use Rattle.std.specs.List.{count_by, list_all, list_any}
use Rattle.std.proofs.lemmas.Bool.{and_parts, cases_Bool, not-true, or_parts}
use Rattle.std.proofs.lemmas.List.{get_or-set_other}
use Rattle.std.proofs.lemmas.List.Sums.{sum_by-set}
use Rattle.aegis_num.specs.declared.Place.{Place}
use Rattle.aegis_num.specs.declared.Place.TheVariants.{Tree, Log}
use Rattle.regions.specs.declared.Layout.{Layout}
use Rattle.off_chip.specs.declared.Event.{Event}
use Rattle.off_chip.specs.declared.Event.TheVariants.{BlockRead}
use Rattle.off_chip.specs.BlockPlaces.{named_place}
use Rattle.off_chip.specs.Histories.{history}
use Rattle.off_chip.specs.OffChipBytes.{HasPlace}
use Rattle.off_chip.specs.Residency.{IsResident, are_distinct, is_resident}
use Rattle.off_chip.specs.WriteBacks.{same_place}
use Rattle.off_chip.proofs.HistoryLemmas.{Each-cut}
use Rattle.off_chip.proofs.ResidencyLemmas.{is_resident-Decides}
use Rattle.off_chip.proofs.WriteLemmas.{same_place-Decides}
use Rattle.line_cache.specs.declared.Line.{Line}
use Rattle.line_cache.specs.LineMaps.{LineMap}
use Rattle.line_cache.proofs.MapLemmas.{get-remove_other, len-remove_held}
use Rattle.secure_memory.specs.MemorySights.{IsReady, Sight}
use Rattle.memory_trace.specs.ResidentLines.{FewAreResident}
use Rattle.memory_trace.specs.SoundTraces.{IsSound}
use Rattle.memory_trace.proofs.LineAccesses.{held-line_of}
use Rattle.memory_trace.proofs.LineLemmas.{held-below}
use Rattle.memory_trace.proofs.SoundAccesses.{tree-stands}

-- lines, with a list that tells which log blocks have one
abbrev in_lines : LineMap → List Bool → Place → Bool
in_lines lines held (Tree n) = contains_key lines n
in_lines lines held (Log n) = slice_index_or held n false

abbrev held_count : List Bool → ℕ
held_count held = count_by (λ (b : Bool). b) held

-- one line fewer
count-set : (held : List Bool) (n : ℕ) → slice_index_or held n false ≡ true → held_count (slice_set held n false) + 1 ≡ held_count held
count-set held n is =
    let e = sum_by-set (λ (b : Bool). cond b 1 0) held n false false (held-below held n is) in
    let f : ◌≡◌ {A = ℕ} (cond (slice_index_or held n false) 1 0) 1 = ap (λ (b : Bool). cond b 1 0) is in
    omega (arith, e, f)

tree-other : (lines : LineMap) (held : List Bool) (n : ℕ) (place : Place) → same_place place (Tree n) ≡ false → in_lines lines held place ≡ true → in_lines (remove lines n) held place ≡ true
tree-other lines held n (Log m) apart is = is
tree-other lines held n (Tree m) apart is =
    ap (λ (o : Option Line). is_some o) (get-remove_other lines n m (λ here. let e : true ≡ false = sym ((same_place-Decides (Tree m) (Tree n)).1 (ap (λ (k : ℕ). Tree k) here)) ∙ apart in cc)) ∙ is

log-other : (lines : LineMap) (held : List Bool) (n : ℕ) (place : Place) → same_place place (Log n) ≡ false → in_lines lines held place ≡ true → in_lines lines (slice_set held n false) place ≡ true
log-other lines held n (Tree m) apart is = is
log-other lines held n (Log m) apart is =
    get_or-set_other held n m false false (λ here. let e : true ≡ false = sym ((same_place-Decides (Log m) (Log n)).1 (ap (λ (k : ℕ). Log k) here)) ∙ apart in cc) ∙ is

-- each of some places is in what is left, where none of them is the one that left
all-other : (test other : Place → Bool) (one : Place) (places : List Place) → ((place : Place) → same_place place one ≡ false → test place ≡ true → other place ≡ true)
    → list_any (λ place. same_place one place) places ≡ false → list_all test places ≡ true → list_all other places ≡ true
all-other test other one [] keeps none all = refl
all-other test other one (place ∷ places) keeps none all =
    let apart : (same_place one place ≡ false) × (list_any (λ place. same_place one place) places ≡ false) = or_parts (same_place one place) (list_any (λ place. same_place one place) places) none in
    let both : (test place ≡ true) × (list_all test places ≡ true) = and_parts (test place) (list_all test places) all in
    and-from (other place) (list_all other places) (keeps place (turned place one apart.0) both.0) (all-other test other one places keeps apart.1 both.1)
  where
    and-from : (a b : Bool) → a ≡ true → b ≡ true → (a && b) ≡ true
    and-from true b x y = y
    and-from false b x y = cc

    turned : (place one : Place) → same_place one place ≡ false → same_place place one ≡ false
    turned place one apart = elim (cases_Bool (same_place place one)) [
      | inr no' ↦ no'
      | inl yes' ↦ let e : true ≡ false = sym ((same_place-Decides one place).1 (sym ((same_place-Decides place one).0 yes'))) ∙ apart in cc
    ]

few-places : (lines : LineMap) (held : List Bool) (places : List Place) → are_distinct places ≡ true → list_all (in_lines lines held) places ≡ true
    → length places ≤ len lines + held_count held
few-places lines held [] distinct all = omega arith
few-places lines held (Tree n ∷ places) distinct all =
    let parts : (not (list_any (same_place (Tree n)) places) ≡ true) × (are_distinct places ≡ true) = and_parts (not (list_any (same_place (Tree n)) places)) (are_distinct places) distinct in
    let both : (contains_key lines n ≡ true) × (list_all (in_lines lines held) places ≡ true) = and_parts (contains_key lines n) (list_all (in_lines lines held) places) all in
    let rest = few-places (remove lines n) held places parts.1
    (all-other (in_lines lines held) (in_lines (remove lines n) held) (Tree n) places (tree-other lines held n) (not-true (list_any (same_place (Tree n)) places) parts.0) both.1) in
    omega (arith, rest, len-remove_held lines n both.0)
few-places lines held (Log n ∷ places) distinct all =
    let parts : (not (list_any (same_place (Log n)) places) ≡ true) × (are_distinct places ≡ true) = and_parts (not (list_any (same_place (Log n)) places)) (are_distinct places) distinct in
    let both : (slice_index_or held n false ≡ true) × (list_all (in_lines lines held) places ≡ true) = and_parts (slice_index_or held n false) (list_all (in_lines lines held) places) all in
    let rest = few-places lines (slice_set held n false) places parts.1
    (all-other (in_lines lines held) (in_lines lines (slice_set held n false)) (Log n) places (log-other lines held n) (not-true (list_any (same_place (Log n)) places) parts.0) both.1) in
    omega (arith, rest, count-set held n both.0)

-- ---- resident places have lines

resident-inside : (layout : Layout) (trace : List Event) (place : Place) → IsSound layout trace → is_resident place (history trace) ≡ true → HasPlace layout place
resident-inside layout trace place sound is =
    let resident : IsResident place trace = (is_resident-Decides place trace).0 is in
    Each-cut (λ event older. IfSome (named_place event) (HasPlace layout)) trace resident.before (BlockRead place resident.block) resident.rest resident.parts sound.inside.each

resident-line : {L : Type 0} (sight : Sight L) → IsReady sight → IsSound sight.layout sight.trace → (place : Place) → is_resident place (history sight.trace) ≡ true
    → in_lines sight.lines sight.log.lines.held place ≡ true
resident-line sight ready sound (Tree n) is = let line = (tree-stands sight ready).held n is in ap (λ (o : Option Line). is_some o) line.1
resident-line sight ready sound (Log n) is =
    held-line_of sight.log.lines n
    ∙ ready.stands.log_stands.lines.resident n (subst (λ (k : ℕ). n < k) (sym ready.stands.parts.of_log) (resident-inside sight.layout sight.trace (Log n) sound is)) ∙ is

all-weaker : (test other : Place → Bool) (places : List Place) → ((place : Place) → test place ≡ true → other place ≡ true) → list_all test places ≡ true → list_all other places ≡ true
all-weaker test other [] weaker all = refl
all-weaker test other (place ∷ places) weaker all =
    let both : (test place ≡ true) × (list_all test places ≡ true) = and_parts (test place) (list_all test places) all in
    and-from (other place) (list_all other places) (weaker place both.0) (all-weaker test other places weaker both.1)
  where
    and-from : (a b : Bool) → a ≡ true → b ≡ true → (a && b) ≡ true
    and-from true b x y = y
    and-from false b x y = cc

pub few-law : (L : Type 0) → FewAreResident L
few-law L sight ready sound few = record {
  few = λ places distinct all.
      let most = few-places sight.lines sight.log.lines.held places distinct
      (all-weaker (λ place. is_resident place (history sight.trace)) (in_lines sight.lines sight.log.lines.held) places (resident-line sight ready sound) all) in
      omega (arith, most, few.in_tree, few.in_log);
}
