-- What follows of resident places.
use Rattle.std.proofs.Common.{◌≡◌, ℕ, Bool, true, false, cond, not, ◌&&◌, List, [], ◌∷◌, ◌++◌, Option, Some, None, refl, sym, ap, ◌∙◌, subst}
use Rattle.std.specs.Prelude.{◌≢◌, unwrap_or}
use Rattle.std.specs.Bool.{Decides}
use Rattle.std.specs.List.{list_any}
use Rattle.std.proofs.lemmas.Bool.{and_right, and_parts, both_ways, false_from_ne_true, not-true, or_parts, or_from}
use Rattle.aegis_num.specs.declared.storage.Block.{Block}
use Rattle.aegis_num.specs.declared.storage.Place.{Place}
use Rattle.aegis_num.specs.declared.storage.Place.TheVariants.{Tree, Log}
use Rattle.off_chip.specs.declared.event.Event.{Event}
use Rattle.off_chip.specs.declared.event.Event.TheVariants.{BlockRead, BlockWrite, Note}
use Rattle.off_chip.specs.declared.event.Mark.TheVariants.{Drop, CheckStart, CheckPassed}
use Rattle.off_chip.specs.Histories.{History, no_event, ◌◂◌, followed, first_told, history, newest}
use Rattle.off_chip.specs.BlockPlaces.{named_place}
use Rattle.off_chip.specs.Epochs.{is_passed}
use Rattle.off_chip.specs.WriteBacks.{same_place}
use Rattle.off_chip.specs.Residency.{check_told, in_check, is_log, concerning, is_resident, InCheck, Concerns, tree_read, log_read, write, dropped, IsResident}
use Rattle.off_chip.proofs.HistoryLemmas.{history-cut, ToldAt, newest-ToldAt, ToldAt-newest}
use Rattle.off_chip.proofs.WriteLemmas.{same_place-apart, same_place-Decides, same_place-refl}

unwrap-true : (o : Option Bool) → unwrap_or o false ≡ true → o ≡ Some true
unwrap-true None same = cc
unwrap-true (Some b) same = ap (λ (c : Bool). Some c) same

-- ---- inside a check

check_start-event : (event : Event) → check_told event ≡ Some true → event ≡ Note CheckStart
check_start-event (Note CheckStart) told = refl
check_start-event event told = cc

untold-passed : (event : Event) → check_told event ≡ None → is_passed event ≡ false
untold-passed (Note CheckPassed) none = cc
untold-passed event none = refl

none-passed : (rest : List Event) → ((between : List Event) (later : Event) (last : List Event) → rest ≡ between ++ later ∷ last → check_told later ≡ None) → list_any is_passed rest ≡ false
none-passed [] none = refl
none-passed (event ∷ rest) none =
    or_from (is_passed event) (list_any is_passed rest) (untold-passed event (none [] event rest refl))
    (none-passed rest (λ between later last same. none (event ∷ between) later last (ap (λ (xs : List Event). event ∷ xs) same)))

abbrev told_check : History → Option Bool
told_check older = newest (λ event _. check_told event) older

check-event : (event : Event) (older : History) → is_passed event ≡ false → told_check older ≡ Some true → told_check (event ◂ older) ≡ Some true
check-event (Note CheckPassed) older fails told = cc
check-event (Note CheckStart) older fails told = refl
check-event event older fails told = told

check-goes_on : (older : History) (rest : List Event) → list_any is_passed rest ≡ false → told_check older ≡ Some true → told_check (followed older rest) ≡ Some true
check-goes_on older [] none told = told
check-goes_on older (event ∷ rest) none told =
    let parts : (is_passed event ≡ false) × (list_any is_passed rest ≡ false) = or_parts (is_passed event) (list_any is_passed rest) none in
    check-goes_on (event ◂ older) rest parts.1 (check-event event older parts.0 told)

pub in_check-Decides : (trace : List Event) → Decides (in_check (history trace)) (InCheck trace)
in_check-Decides trace = (
  λ under_way.
      let at : ToldAt (λ event _. check_told event) no_event trace true = newest-ToldAt (λ event _. check_told event) trace true (unwrap-true (told_check (history trace)) under_way) in
      record {
        earlier = at.between;
        later = at.last;
        parts = at.parts ∙ ap (λ (e : Event). at.between ++ e ∷ at.last) (check_start-event at.event at.answer);
        not_passed = none-passed at.last at.nothing_after;
      },
  λ check. ap (λ (o : Option Bool). unwrap_or o false)
      (ap (λ (h : History). told_check h) (history-cut trace check.earlier (Note CheckStart) check.later check.parts)
      ∙ check-goes_on (Note CheckStart ◂ history check.earlier) check.later check.not_passed refl),
)

-- ---- what concerns a place

pub concerning-tree : (n : ℕ) (block : Block) (older : History) → concerning (Tree n) (BlockRead (Tree n) block) older ≡ Some true
concerning-tree n block older = ap (λ (b : Bool). cond (b && true) (Some true) None) (same_place-refl (Tree n))

pub concerning-log : (n : ℕ) (block : Block) (older : History) → in_check older ≡ false → concerning (Log n) (BlockRead (Log n) block) older ≡ Some true
concerning-log n block older outside =
    ap (λ (b : Bool). cond (b && not (in_check older)) (Some true) None) (same_place-refl (Log n))
    ∙ ap (λ (b : Bool). cond (not b) (Some true) None) outside

pub concerning-write : (place : Place) (block : Block) (older : History) → concerning place (BlockWrite place block) older ≡ Some false
concerning-write place block older = ap (λ (b : Bool). cond b (Some false) None) (same_place-refl place)

pub concerning-drop : (place : Place) (older : History) → concerning place (Note (Drop place)) older ≡ Some false
concerning-drop place older = ap (λ (b : Bool). cond b (Some false) None) (same_place-refl place)

outside-check : (before : List Event) → (InCheck before → ⊥) → in_check (history before) ≡ false
outside-check before outside = false_from_ne_true (in_check (history before)) (λ under_way. outside ((in_check-Decides before).0 under_way))

concerns-none : (place : Place) (before : List Event) (event : Event) → Concerns place before event → concerning place event (history before) ≡ None → ⊥
concerns-none place before event (tree_read n block is same) none =
    let e : concerning place event (history before) ≡ Some true =
    ap (λ (e : Event). concerning place e (history before)) same
    ∙ ap (λ (p : Place). concerning p (BlockRead p block) (history before)) is
    ∙ concerning-tree n block (history before) in cc
concerns-none place before event (log_read n block is same outside) none =
    let e : concerning place event (history before) ≡ Some true =
    ap (λ (e : Event). concerning place e (history before)) same
    ∙ ap (λ (p : Place). concerning p (BlockRead p block) (history before)) is
    ∙ concerning-log n block (history before) (outside-check before outside) in cc
concerns-none place before event (write block same) none =
    let e : concerning place event (history before) ≡ Some false =
    ap (λ (e : Event). concerning place e (history before)) same ∙ concerning-write place block (history before) in cc
concerns-none place before event (dropped same) none =
    let e : concerning place event (history before) ≡ Some false =
    ap (λ (e : Event). concerning place e (history before)) same ∙ concerning-drop place (history before) in cc

cond-some : (b : Bool) (x y : Bool) → cond b (Some x) None ≡ Some y → (b ≡ true) × (x ≡ y)
cond-some true x y same = (refl, cc)
cond-some false x y same = cc

read-concerns : (place : Place) (before : List Event) (block : Block) → not (is_log place && in_check (history before)) ≡ true → Concerns place before (BlockRead place block)
read-concerns (Tree n) before block outside = tree_read n block refl refl
read-concerns (Log n) before block outside =
    log_read n block refl refl (λ check. both_ways (in_check (history before)) (not-true (in_check (history before)) outside) ((in_check-Decides before).1 check))

some-concerns : (place : Place) (before : List Event) (event : Event) (tells : Bool) → concerning place event (history before) ≡ Some tells → Concerns place before event
some-concerns place before (BlockRead at block) tells same =
    let tests = (cond-some (same_place place at && not (is_log at && in_check (history before))) true tells same).0 in
    let parts = and_parts (same_place place at) (not (is_log at && in_check (history before))) tests in
    let e : place ≡ at = (same_place-Decides place at).0 parts.0 in
    subst (λ (p : Place). Concerns place before (BlockRead p block)) e
    (read-concerns place before block (ap (λ (p : Place). not (is_log p && in_check (history before))) e ∙ parts.1))
some-concerns place before (BlockWrite at block) tells same =
    let e : place ≡ at = (same_place-Decides place at).0 (cond-some (same_place place at) false tells same).0 in
    write block (ap (λ (p : Place). BlockWrite p block) (sym e))
some-concerns place before (Note (Drop at)) tells same =
    let e : place ≡ at = (same_place-Decides place at).0 (cond-some (same_place place at) false tells same).0 in
    dropped (ap (λ (p : Place). Note (Drop p)) (sym e))
some-concerns place before event tells same = cc

-- only a read makes a place resident
concerning-read : (place : Place) (event : Event) (older : History) → concerning place event older ≡ Some true → (block : Block) × (event ≡ BlockRead place block)
concerning-read place (BlockRead at block) older same =
    let tests = (cond-some (same_place place at && not (is_log at && in_check older)) true true same).0 in
    let e : place ≡ at = (same_place-Decides place at).0 (and_parts (same_place place at) (not (is_log at && in_check older)) tests).0 in
    (block, ap (λ (p : Place). BlockRead p block) (sym e))
concerning-read place (BlockWrite at block) older same = let e : false ≡ true = (cond-some (same_place place at) false true same).1 in cc
concerning-read place (Note (Drop at)) older same = let e : false ≡ true = (cond-some (same_place place at) false true same).1 in cc
concerning-read place event older same = cc

concerns-read : (place : Place) (before : List Event) (block : Block) → Concerns place before (BlockRead place block) → concerning place (BlockRead place block) (history before) ≡ Some true
concerns-read place before block concerns = by (concerning place (BlockRead place block) (history before)) refl
  where
    by : (o : Option Bool) → concerning place (BlockRead place block) (history before) ≡ o → concerning place (BlockRead place block) (history before) ≡ Some true
    by None none = absurd (concerns-none place before (BlockRead place block) concerns none)
    by (Some tells) some =
        some ∙ ap (λ (b : Bool). Some b) (sym (cond-some (same_place place place && not (is_log place && in_check (history before))) true tells some).1)

nothing-by : (place : Place) (before : List Event) (event : Event) → (Concerns place before event → ⊥) → (o : Option Bool)
    → concerning place event (history before) ≡ o → concerning place event (history before) ≡ None
nothing-by place before event apart None same = same
nothing-by place before event apart (Some tells) same = absurd (apart (some-concerns place before event tells same))

nothing-concerns : (place : Place) (before : List Event) (event : Event) → (Concerns place before event → ⊥) → concerning place event (history before) ≡ None
nothing-concerns place before event apart = nothing-by place before event apart (concerning place event (history before)) refl

-- ---- resident places, in order

pub is_resident-Decides : (place : Place) (trace : List Event) → Decides (is_resident place (history trace)) (IsResident place trace)
is_resident-Decides place trace = (
  λ resident.
      let at : ToldAt (concerning place) no_event trace true = newest-ToldAt (concerning place) trace true (unwrap-true (newest (concerning place) (history trace)) resident) in
      let read = concerning-read place at.event (history at.between) at.answer in
      record {
        before = at.between;
        block = read.0;
        rest = at.last;
        parts = at.parts ∙ ap (λ (e : Event). at.between ++ e ∷ at.last) read.1;
        concerns = some-concerns place at.between (BlockRead place read.0) true
            (sym (ap (λ (e : Event). concerning place e (history at.between)) read.1) ∙ at.answer);
        nothing_after = λ between later end split concerns. concerns-none place (at.between ++ at.event ∷ between) later
            (subst (λ (e : Event). Concerns place (at.between ++ e ∷ between) later) (sym read.1) concerns) (at.nothing_after between later end split);
      },
  λ resident.
      ap (λ (o : Option Bool). unwrap_or o false)
      (ToldAt-newest (concerning place) trace true (record {
        between = resident.before;
        event = BlockRead place resident.block;
        last = resident.rest;
        parts = resident.parts;
        answer = concerns-read place resident.before resident.block resident.concerns;
        nothing_after = λ between later end split.
            nothing-concerns place (resident.before ++ BlockRead place resident.block ∷ between) later (resident.nothing_after between later end split);
      })),
)

-- ---- what one event does

pub is_resident-tree_read : (n : ℕ) (block : Block) (older : History) → is_resident (Tree n) (BlockRead (Tree n) block ◂ older) ≡ true
is_resident-tree_read n block older = ap (λ (o : Option Bool). unwrap_or (first_told o (newest (concerning (Tree n)) older)) false) (concerning-tree n block older)

pub is_resident-log_read : (n : ℕ) (block : Block) (older : History) → in_check older ≡ false → is_resident (Log n) (BlockRead (Log n) block ◂ older) ≡ true
is_resident-log_read n block older outside =
    ap (λ (o : Option Bool). unwrap_or (first_told o (newest (concerning (Log n)) older)) false) (concerning-log n block older outside)

pub is_resident-check_read : (place : Place) (n : ℕ) (block : Block) (older : History) → in_check older ≡ true
    → is_resident place (BlockRead (Log n) block ◂ older) ≡ is_resident place older
is_resident-check_read place n block older inside =
    ap (λ (b : Bool). unwrap_or (first_told (cond (same_place place (Log n) && not b) (Some true) None) (newest (concerning place) older)) false) inside
    ∙ ap (λ (b : Bool). unwrap_or (first_told (cond b (Some true) None) (newest (concerning place) older)) false) (and_right (same_place place (Log n)) false refl)

pub is_resident-write : (place : Place) (block : Block) (older : History) → is_resident place (BlockWrite place block ◂ older) ≡ false
is_resident-write place block older = ap (λ (o : Option Bool). unwrap_or (first_told o (newest (concerning place) older)) false) (concerning-write place block older)

pub is_resident-drop : (place : Place) (older : History) → is_resident place (Note (Drop place) ◂ older) ≡ false
is_resident-drop place older = ap (λ (o : Option Bool). unwrap_or (first_told o (newest (concerning place) older)) false) (concerning-drop place older)

-- an event that names no place or another one changes nothing
concerning-elsewhere : (place : Place) (event : Event) (older : History) → named_place event ≢ Some place → concerning place event older ≡ None
concerning-elsewhere place (BlockRead at block) older other =
    ap (λ (b : Bool). cond (b && not (is_log at && in_check older)) (Some true) None) (same_place-apart place at (λ same. other (ap (λ (p : Place). Some p) (sym same))))
concerning-elsewhere place (BlockWrite at block) older other =
    ap (λ (b : Bool). cond b (Some false) None) (same_place-apart place at (λ same. other (ap (λ (p : Place). Some p) (sym same))))
concerning-elsewhere place (Note (Drop at)) older other =
    ap (λ (b : Bool). cond b (Some false) None) (same_place-apart place at (λ same. other (ap (λ (p : Place). Some p) (sym same))))
concerning-elsewhere place event older other = refl

pub is_resident-elsewhere : (place : Place) (event : Event) (older : History) → named_place event ≢ Some place → is_resident place (event ◂ older) ≡ is_resident place older
is_resident-elsewhere place event older other =
    ap (λ (o : Option Bool). unwrap_or (first_told o (newest (concerning place) older)) false) (concerning-elsewhere place event older other)
