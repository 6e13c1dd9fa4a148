-- What follows of collisions, and of lists that are the same multiset.
use Rattle.std.proofs.Common.{◌≡◌, ◌≢◌, ℕ, ◌+◌, ◌≤◌, ◌%◌, Bool, true, cond, eqb, ◌&&◌, List, [], ◌∷◌, ◌++◌, length, Some, refl, sym, ap, ◌∙◌, inl, inr, arith, length-append}
use Rattle.std.specs.Prelude.{◌^◌, sum_by, count_by, slice_get}
use Rattle.std.specs.Bool.{Decides}
use Rattle.std.specs.Str.{bytes_eq}
use Rattle.std.proofs.lemmas.Bool.{and_parts, and_from, eqb-true, eq-eqb, cases_Bool}
use Rattle.std.proofs.lemmas.List.Sums.{sum_by-cons, sum_by-append}
use Rattle.std.proofs.lemmas.Slice.Eq.{bytes_eq-Decides}
use Rattle.off_chip.specs.declared.event.Event.{Event}
use Rattle.off_chip.specs.Epochs.{LogEntry}
use Rattle.off_chip.specs.Collisions.{Strings, string_moved, BlockCollision, same_entry, SameEntries, sum_of}

pub collision-two : (strings : Strings) (trace : List Event) (first second : ℕ) → BlockCollision strings trace first second → first ≢ second
collision-two strings trace first second collision same =
    let events : Some collision.first_event ≡ Some collision.second_event = sym collision.at_first ∙ ap (λ (k : ℕ). slice_get trace k) same ∙ collision.at_second in
    let one : collision.first_event ≡ collision.second_event = cc in
    let texts : Some collision.string ≡ Some collision.other = sym collision.of_first ∙ ap (λ (e : Event). string_moved strings e) one ∙ collision.of_second in
    let e : collision.string ≡ collision.other = cc in
    collision.differ e

pub same_entry-Decides : (entry other : LogEntry) → Decides (same_entry entry other) (entry ≡ other)
same_entry-Decides entry other = (
  λ same.
      let parts = and_parts (eqb entry.number other.number) (bytes_eq entry.payload other.payload && eqb entry.stamp other.stamp) same in
      let more = and_parts (bytes_eq entry.payload other.payload) (eqb entry.stamp other.stamp) parts.1 in
      let n : entry.number ≡ other.number = eqb-true entry.number other.number parts.0 in
      let p : entry.payload ≡ other.payload = (bytes_eq-Decides entry.payload other.payload).0 more.0 in
      let s : entry.stamp ≡ other.stamp = eqb-true entry.stamp other.stamp more.1 in
      ap (λ (k : ℕ). record { number = k; payload = entry.payload; stamp = entry.stamp }) n
      ∙ ap (λ (xs : List ℕ). record { number = other.number; payload = xs; stamp = entry.stamp }) p
      ∙ ap (λ (k : ℕ). record { number = other.number; payload = other.payload; stamp = k }) s,
  λ same. and_from (eqb entry.number other.number) (bytes_eq entry.payload other.payload && eqb entry.stamp other.stamp)
      (eq-eqb entry.number other.number (ap (λ (e : LogEntry). e.number) same))
      (and_from (bytes_eq entry.payload other.payload) (eqb entry.stamp other.stamp)
      ((bytes_eq-Decides entry.payload other.payload).1 (ap (λ (e : LogEntry). e.payload) same))
      (eq-eqb entry.stamp other.stamp (ap (λ (e : LogEntry). e.stamp) same))),
)

count-cons : (entry first : LogEntry) (entries : List LogEntry) → count_by (same_entry entry) (first ∷ entries) ≡ cond (same_entry entry first) 1 0 + count_by (same_entry entry) entries
count-cons entry first entries = sum_by-cons (λ (e : LogEntry). cond (same_entry entry e) 1 0) first entries

count-append : (entry : LogEntry) (entries others : List LogEntry) → count_by (same_entry entry) (entries ++ others) ≡ count_by (same_entry entry) entries + count_by (same_entry entry) others
count-append entry entries others = sum_by-append (λ (e : LogEntry). cond (same_entry entry e) 1 0) entries others

-- an entry that is counted stands in the list
pub record StandsIn (entry : LogEntry) (entries : List LogEntry) : Type 0 where
  pub before : List LogEntry
  pub rest : List LogEntry
  pub parts : entries ≡ before ++ entry ∷ rest

stands : (entry : LogEntry) (entries : List LogEntry) → 1 ≤ count_by (same_entry entry) entries → StandsIn entry entries
stands entry [] some = let no_such : ⊥ = omega (arith, some) in absurd no_such
stands entry (first ∷ entries) some =
    elim (cases_Bool (same_entry entry first)) [
      | inl same ↦ record { before = []; rest = entries; parts = ap (λ (e : LogEntry). e ∷ entries) (sym ((same_entry-Decides entry first).0 same)) }
      | inr other ↦
          let e : count_by (same_entry entry) (first ∷ entries) ≡ count_by (same_entry entry) entries =
          count-cons entry first entries ∙ ap (λ (b : Bool). cond b 1 0 + count_by (same_entry entry) entries) other ∙ omega arith in
          let later : StandsIn entry entries = stands entry entries (omega (arith, some, e)) in
          record { before = first ∷ later.before; rest = later.rest; parts = ap (λ (xs : List LogEntry). first ∷ xs) later.parts }
    ]

-- lists that are one multiset have one length and one sum
same-sums : (value : LogEntry → ℕ) (entries others : List LogEntry) → SameEntries entries others → (length entries ≡ length others) × (sum_by value entries ≡ sum_by value others)
same-sums value [] [] same = (refl, refl)
same-sums value [] (first ∷ others) same =
    let e = same.counts first in
    let here : same_entry first first ≡ true = (same_entry-Decides first first).1 refl in
    let one : count_by (same_entry first) (first ∷ others) ≡ 1 + count_by (same_entry first) others =
    count-cons first first others ∙ ap (λ (b : Bool). cond b 1 0 + count_by (same_entry first) others) here in
    let no_such : ⊥ = omega (arith, e, one) in absurd no_such
same-sums value (first ∷ entries) others same =
    let here : same_entry first first ≡ true = (same_entry-Decides first first).1 refl in
    let one : count_by (same_entry first) (first ∷ entries) ≡ 1 + count_by (same_entry first) entries =
    count-cons first first entries ∙ ap (λ (b : Bool). cond b 1 0 + count_by (same_entry first) entries) here in
    let at : StandsIn first others = stands first others (omega (arith, one, same.counts first)) in
    let left : SameEntries entries (at.before ++ at.rest) = record {
      counts = λ entry.
          let a = count-cons entry first entries in
          let b = count-append entry at.before (first ∷ at.rest) in
          let c = count-cons entry first at.rest in
          let d = count-append entry at.before at.rest in
          let e : count_by (same_entry entry) others ≡ count_by (same_entry entry) (at.before ++ first ∷ at.rest) = ap (λ (xs : List LogEntry). count_by (same_entry entry) xs) at.parts in
          omega (arith, a, b, c, d, e, same.counts entry);
    } in
    let ih = same-sums value entries (at.before ++ at.rest) left in
    let long : length others ≡ length (at.before ++ first ∷ at.rest) = ap (λ (xs : List LogEntry). length xs) at.parts in
    let total : sum_by value others ≡ sum_by value (at.before ++ first ∷ at.rest) = ap (λ (xs : List LogEntry). sum_by value xs) at.parts in (
      omega (arith, ih.0, long, length-append at.before (first ∷ at.rest), length-append at.before at.rest),
      omega (arith, ih.1, total, sum_by-cons value first entries, sum_by-append value at.before (first ∷ at.rest), sum_by-cons value first at.rest, sum_by-append value at.before at.rest),
    )

pub same-sum_of : (value : LogEntry → ℕ) (entries others : List LogEntry) → SameEntries entries others → sum_of value entries ≡ sum_of value others
same-sum_of value entries others same =
    let both = same-sums value entries others same in
    ap (λ (n : ℕ). record { number = n; total = sum_by value entries % (2 ^ 128) }) both.0
    ∙ ap (λ (n : ℕ). record { number = length others; total = n % (2 ^ 128) }) both.1
