-- What follows of block writes and their stamps.
use Rattle.std.proofs.Common.{◌≡◌, ℕ, zero, suc, ◌+◌, ◌≤◌, Bool, true, false, cond, List, [], ◌∷◌, ◌++◌, length, Option, Some, None, refl, sym, ap, ◌∙◌, inl, inr, ◌⊎◌, arith, length-append}
use Rattle.std.specs.Prelude.{◌≢◌, ◌↔◌, slice_get, filter_map, option_to_list}
use Rattle.std.specs.Bool.{Decides}
use Rattle.std.proofs.lemmas.Bool.{false_from_ne_true, eqb-true, eq-eqb}
use Rattle.std.proofs.lemmas.List.{append-nil}
use Rattle.aegis_num.specs.declared.storage.Block.{Block}
use Rattle.aegis_num.specs.declared.storage.Place.{Place}
use Rattle.aegis_num.specs.declared.storage.Place.TheVariants.{Tree, Log}
use Rattle.off_chip.specs.declared.event.Event.{Event}
use Rattle.off_chip.specs.declared.event.Event.TheVariants.{BlockRead, BlockWrite}
use Rattle.off_chip.specs.Histories.{History, no_event, ◌◂◌, history, in_order, Each, first_told}
use Rattle.off_chip.specs.WriteBacks.{Stamped, same_place, written_at, read_at, last_write, IsLastWrite, stamp_written, block_writes, StampFits, StampsFit}
use Rattle.off_chip.proofs.HistoryLemmas.{in_order-history, newest-none, none-newest, newest-ToldAt, ToldAt, ToldAt-newest, filter_map-nil, nil-filter_map, filter_map-push}

pub same_place-Decides : (place other : Place) → Decides (same_place place other) (place ≡ other)
same_place-Decides (Tree m) (Tree n) = (λ same. ap (λ (k : ℕ). Tree k) (eqb-true m n same), λ same. let e : m ≡ n = cc in eq-eqb m n e)
same_place-Decides (Log m) (Log n) = (λ same. ap (λ (k : ℕ). Log k) (eqb-true m n same), λ same. let e : m ≡ n = cc in eq-eqb m n e)
same_place-Decides (Tree m) (Log n) = (λ same. cc, λ same. cc)
same_place-Decides (Log m) (Tree n) = (λ same. cc, λ same. cc)

pub same_place-refl : (place : Place) → same_place place place ≡ true
same_place-refl place = (same_place-Decides place place).1 refl

-- ---- what is written at a place

pub written_at-here : (place : Place) (block : Block) → written_at place (BlockWrite place block) ≡ Some block
written_at-here place block = ap (λ (b : Bool). cond b (Some block) None) (same_place-refl place)

pub read_at-here : (place : Place) (block : Block) → read_at place (BlockRead place block) ≡ Some block
read_at-here place block = ap (λ (b : Bool). cond b (Some block) None) (same_place-refl place)

some-cond : {X : Type 0} (b : Bool) (x y : X) → cond b (Some x) None ≡ Some y → (b ≡ true) × (x ≡ y)
some-cond true x y same = (refl, cc)
some-cond false x y same = cc

pub written_at-event : (place : Place) (event : Event) (block : Block) → written_at place event ≡ Some block → event ≡ BlockWrite place block
written_at-event place (BlockWrite at written) block same =
    let parts : (same_place place at ≡ true) × (written ≡ block) = some-cond (same_place place at) written block same in
    let p : place ≡ at = (same_place-Decides place at).0 parts.0 in
    ap (λ (q : Place). BlockWrite q written) (sym p) ∙ ap (λ (b : Block). BlockWrite place b) parts.1
written_at-event place event block same = cc

pub read_at-event : (place : Place) (event : Event) (block : Block) → read_at place event ≡ Some block → event ≡ BlockRead place block
read_at-event place (BlockRead at read) block same =
    let parts : (same_place place at ≡ true) × (read ≡ block) = some-cond (same_place place at) read block same in
    let p : place ≡ at = (same_place-Decides place at).0 parts.0 in
    ap (λ (q : Place). BlockRead q read) (sym p) ∙ ap (λ (b : Block). BlockRead place b) parts.1
read_at-event place event block same = cc

pub same_place-apart : (place other : Place) → place ≢ other → same_place place other ≡ false
same_place-apart place other apart = false_from_ne_true (same_place place other) (λ same. apart ((same_place-Decides place other).0 same))

-- a write at the place is the last one, and a write elsewhere changes nothing
pub last_write-here : (place : Place) (block : Block) (older : History) → last_write place (BlockWrite place block ◂ older) ≡ Some block
last_write-here place block older = ap (λ (o : Option Block). first_told o (last_write place older)) (written_at-here place block)

pub last_write-elsewhere : (place at : Place) (block : Block) (older : History) → place ≢ at → last_write place (BlockWrite at block ◂ older) ≡ last_write place older
last_write-elsewhere place at block older apart =
    ap (λ (b : Bool). first_told (cond b (Some block) None) (last_write place older)) (same_place-apart place at apart)

-- ---- the last write-back, in order

pub last_write-in_order : (place : Place) (trace : List Event) (block : Block) → (last_write place (history trace) ≡ Some block) ↔ IsLastWrite place trace block
last_write-in_order place trace block = (
  λ found.
      let at : ToldAt (λ event _. written_at place event) no_event trace block = newest-ToldAt (λ event _. written_at place event) trace block found in
      record {
        before = at.between;
        rest = at.last;
        parts = at.parts ∙ ap (λ (e : Event). at.between ++ e ∷ at.last) (written_at-event place at.event block at.answer);
        none_after = nil-filter_map (written_at place) at.last at.nothing_after;
      },
  λ is. ToldAt-newest (λ event _. written_at place event) trace block (record {
    between = is.before;
    event = BlockWrite place block;
    last = is.rest;
    parts = is.parts;
    answer = written_at-here place block;
    nothing_after = λ middle later end same. filter_map-nil (written_at place) is.rest middle later end same is.none_after;
  }),
)

pub last_write-never : (place : Place) (trace : List Event) → (last_write place (history trace) ≡ None) ↔ (filter_map (written_at place) trace ≡ [])
last_write-never place trace = (newest-none (written_at place) trace, none-newest (written_at place) trace)

-- ---- stamps, one more event

pub block_writes-write : (trace : List Event) (place : Place) (block : Block) → block_writes (trace ++ BlockWrite place block ∷ []) ≡ block_writes trace + 1
block_writes-write trace place block =
    ap (λ (xs : List ℕ). length xs) (filter_map-push stamp_written trace (BlockWrite place block)) ∙ length-append (filter_map stamp_written trace) (block.stamp ∷ [])

pub block_writes-other : (trace : List Event) (event : Event) → stamp_written event ≡ None → block_writes (trace ++ event ∷ []) ≡ block_writes trace
block_writes-other trace event other =
    ap (λ (xs : List ℕ). length xs)
    (filter_map-push stamp_written trace event ∙ ap (λ (o : Option ℕ). filter_map stamp_written trace ++ option_to_list o) other ∙ append-nil (filter_map stamp_written trace))

pub StampsFit-write : (last : ℕ) (older : History) (place : Place) (block : Block) → StampsFit last older → block.stamp ≡ last + 1
    → StampsFit (last + 1) (BlockWrite place block ◂ older)
StampsFit-write last older place block fit next = record {
  each = (fit.each, omega (arith, next, fit.count));
  count = omega (arith, fit.count, block_writes-write (in_order older) place block);
}

other-fits : (event : Event) (older : History) → stamp_written event ≡ None → StampFits event older
other-fits (BlockWrite place block) older other = cc
other-fits event older other = tt

pub StampsFit-other : (last : ℕ) (older : History) (event : Event) → StampsFit last older → stamp_written event ≡ None → StampsFit last (event ◂ older)
StampsFit-other last older event fit other = record { each = (fit.each, other-fits event older other); count = fit.count ∙ sym (block_writes-other (in_order older) event other) }

-- ---- stamps, in order

get-push : {X : Type 0} (xs : List X) (x : X) (k : ℕ) (y : X) → slice_get (xs ++ x ∷ []) k ≡ Some y → (slice_get xs k ≡ Some y) ⊎ ((k ≡ length xs) × (x ≡ y))
get-push [] x zero y found = inr (refl, cc)
get-push [] x (suc k) y found = cc
get-push (z ∷ xs) x zero y found = inl found
get-push (z ∷ xs) x (suc k) y found = elim (get-push xs x k y found) [ inl before ↦ inl before | inr here ↦ inr (ap (λ (n : ℕ). suc n) here.0, here.1) ]

get-front : {X : Type 0} (xs ys : List X) (k : ℕ) (y : X) → slice_get xs k ≡ Some y → slice_get (xs ++ ys) k ≡ Some y
get-front [] ys k y found = cc
get-front (z ∷ xs) ys zero y found = found
get-front (z ∷ xs) ys (suc k) y found = get-front xs ys k y found

get-last : {X : Type 0} (xs : List X) (x : X) → slice_get (xs ++ x ∷ []) (length xs) ≡ Some x
get-last [] x = refl
get-last (z ∷ xs) x = get-last xs x

abbrev stamps_of : History → List ℕ
stamps_of older = filter_map stamp_written (in_order older)

numbered-of : (older : History) → Each StampFits older → (k stamp : ℕ) → slice_get (stamps_of older) k ≡ Some stamp → stamp ≡ k + 1
numbered-of no_event each k stamp found = cc
numbered-of (event ◂ older) each k stamp found =
    by event each.1 (ap (λ (xs : List ℕ). slice_get xs k) (sym (filter_map-push stamp_written (in_order older) event)) ∙ found) (numbered-of older each.0 k stamp)
  where
    by : (event : Event) → StampFits event older → slice_get (stamps_of older ++ option_to_list (stamp_written event)) k ≡ Some stamp
        → (slice_get (stamps_of older) k ≡ Some stamp → stamp ≡ k + 1) → stamp ≡ k + 1
    by (BlockWrite place block) fits found before =
        elim (get-push (stamps_of older) block.stamp k stamp found) [
          | inl earlier ↦ before earlier
          | inr here ↦ omega (arith, fits, here.0, here.1)
        ]
    by event fits found before = before (ap (λ (xs : List ℕ). slice_get xs k) (sym (append-nil (stamps_of older))) ∙ found)

of-numbered : (older : History) → ((k stamp : ℕ) → slice_get (stamps_of older) k ≡ Some stamp → stamp ≡ k + 1) → Each StampFits older
of-numbered no_event numbered = tt
of-numbered (event ◂ older) numbered =
    let told = filter_map-push stamp_written (in_order older) event in (
      of-numbered older (λ k stamp found. numbered k stamp (ap (λ (xs : List ℕ). slice_get xs k) told ∙ get-front (stamps_of older) (option_to_list (stamp_written event)) k stamp found)),
      by event (λ k stamp found. numbered k stamp (ap (λ (xs : List ℕ). slice_get xs k) told ∙ found)),
    )
  where
    by : (event : Event) → ((k stamp : ℕ) → slice_get (stamps_of older ++ option_to_list (stamp_written event)) k ≡ Some stamp → stamp ≡ k + 1) → StampFits event older
    by (BlockWrite place block) numbered = numbered (length (stamps_of older)) block.stamp (get-last (stamps_of older) block.stamp)
    by event numbered = tt

pub StampsFit-in_order : (last : ℕ) (trace : List Event) → StampsFit last (history trace) ↔ (Stamped trace × (last ≡ block_writes trace))
StampsFit-in_order last trace =
    let same : in_order (history trace) ≡ trace = in_order-history trace in (
      λ fit. (
        record { each = λ k stamp found. numbered-of (history trace) fit.each k stamp (ap (λ (t : List Event). slice_get (filter_map stamp_written t) k) same ∙ found) },
        fit.count ∙ ap (λ (t : List Event). block_writes t) same,
      ),
      λ both. record {
        each = of-numbered (history trace) (λ k stamp found. both.0.each k stamp (ap (λ (t : List Event). slice_get (filter_map stamp_written t) k) (sym same) ∙ found));
        count = both.1 ∙ ap (λ (t : List Event). block_writes t) (sym same);
      },
    )

-- ---- the stamps of earlier writes

written_or : (b : Bool) (written : Block) (o : Option Block) (block : Block) → first_told (cond b (Some written) None) o ≡ Some block → (written ≡ block) ⊎ (o ≡ Some block)
written_or true written o block found = inl cc
written_or false written o block found = inr found

stamp_bounds : (place : Place) (older : History) (block : Block) → Each StampFits older → last_write place older ≡ Some block
    → (1 ≤ block.stamp) × (block.stamp ≤ block_writes (in_order older))
stamp_bounds place no_event block each found = cc
stamp_bounds place (BlockWrite at written ◂ older) block each found =
    let more = block_writes-write (in_order older) at written in
    elim (written_or (same_place place at) written (last_write place older) block found) [
      | inl here ↦ let e : written.stamp ≡ block.stamp = ap (λ (b : Block). b.stamp) here in (omega (arith, each.1, e), omega (arith, each.1, e, more))
      | inr before ↦ let ih = stamp_bounds place older block each.0 before in (ih.0, omega (arith, ih.1, more))
    ]
stamp_bounds place (event ◂ older) block each found =
    let ih = stamp_bounds place older block each.0 found in (ih.0, omega (arith, ih.1, block_writes-other (in_order older) event refl))

-- a last write-back has the stamp of some block write: at least 1, and at most their number
pub last_write-stamp : (last : ℕ) (place : Place) (older : History) (block : Block) → StampsFit last older → last_write place older ≡ Some block
    → (1 ≤ block.stamp) × (block.stamp ≤ last)
last_write-stamp last place older block fit found =
    let bounds = stamp_bounds place older block fit.each found in (bounds.0, omega (arith, bounds.1, fit.count))
