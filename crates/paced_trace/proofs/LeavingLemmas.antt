-- Where only resident blocks leave, at most as many leave as came: a list of the blocks that came and did not leave has each that is resident.
use Rattle.std.proofs.Common.{◌≡◌, ℕ, ◌+◌, ◌≤◌, Bool, true, false, cond, not, eqb, ◌&&◌, ◌||◌, List, [], ◌∷◌, length, Option, Some, None, refl, sym, ap, ◌∙◌, inl, inr, arith}
use Rattle.std.specs.Prelude.{unwrap_or}
use Rattle.std.specs.List.{list_any}
use Rattle.std.proofs.lemmas.Bool.{and_right, cases_lt, eq-eqb, or_cases, or_left, or_right}
use Rattle.aegis_num.specs.declared.Block.{Block}
use Rattle.aegis_num.specs.declared.Place.{Place}
use Rattle.off_chip.specs.declared.Event.{Event}
use Rattle.off_chip.specs.declared.Event.TheVariants.{BlockRead, BlockWrite, Note}
use Rattle.off_chip.specs.declared.Mark.TheVariants.{Drop}
use Rattle.off_chip.specs.Histories.{History, no_event, ◌◂◌, in_order, first_told, newest}
use Rattle.off_chip.specs.Residency.{concerning, in_check, is_log, is_resident}
use Rattle.off_chip.specs.WriteBacks.{same_place}
use Rattle.off_chip.proofs.HistoryLemmas.{AtEach-at}
use Rattle.off_chip.proofs.WriteLemmas.{same_place-Decides}
use Rattle.paced_trace.specs.EventKinds.{after_entering, load, removal}
use Rattle.paced_trace.specs.PacedSteps.{LeavesNoMore, LeavesResident, LeavingIsPaid, OnlyResidentLeave}
use Rattle.paced_trace.proofs.CountLemmas.{after-more, after-none, length-more}

-- a list has each place that is resident
abbrev HasResident : List Place → History → Type 0
HasResident held older = (place : Place) → is_resident place older ≡ true → list_any (same_place place) held ≡ true

-- such a list is at most as long as what came is more than what left
record IsPaid (entry : ℕ) (older : History) : Type 0 where
  pub held : List Place
  pub has : HasResident held older
  pub counts : after_entering removal entry older + length held ≤ after_entering load entry older

-- ---- a list without a place

abbrev without : Place → List Place → List Place
without at [] = []
without at (place ∷ places) = cond (same_place at place) places (place ∷ without at places)

without-length : (at : Place) (places : List Place) → list_any (same_place at) places ≡ true → length (without at places) + 1 ≡ length places
without-length at [] among = cc
without-length at (place ∷ places) among = by (without-length at places) (same_place at place) refl
  where
    by : (list_any (same_place at) places ≡ true → length (without at places) + 1 ≡ length places) → (b : Bool) → same_place at place ≡ b
        → length (without at (place ∷ places)) + 1 ≡ length (place ∷ places)
    by later true same = ap (λ (b : Bool). length (cond b places (place ∷ without at places)) + 1) same ∙ omega arith
    by later false differs =
        let rest : list_any (same_place at) places ≡ true = sym (ap (λ (b : Bool). b || list_any (same_place at) places) differs) ∙ among in
        let e : length (without at places) + 1 ≡ length places = later rest in
        ap (λ (b : Bool). length (cond b places (place ∷ without at places)) + 1) differs ∙ omega (arith, e)

-- it has each other place that the list had
without-other : (at other : Place) (places : List Place) → same_place other at ≡ false → list_any (same_place other) places ≡ true
    → list_any (same_place other) (without at places) ≡ true
without-other at other [] apart among = among
without-other at other (place ∷ places) apart among = by (without-other at other places apart) (same_place at place) refl
  where
    by : (list_any (same_place other) places ≡ true → list_any (same_place other) (without at places) ≡ true) → (b : Bool) → same_place at place ≡ b
        → list_any (same_place other) (without at (place ∷ places)) ≡ true
    by later true same =
        let e : at ≡ place = (same_place-Decides at place).0 same in
        let other_one : same_place other place ≡ false = ap (λ (p : Place). same_place other p) (sym e) ∙ apart in
        ap (λ (b : Bool). list_any (same_place other) (cond b places (place ∷ without at places))) same
        ∙ sym (ap (λ (b : Bool). b || list_any (same_place other) places) other_one) ∙ among
    by later false differs =
        ap (λ (b : Bool). list_any (same_place other) (cond b places (place ∷ without at places))) differs
        ∙ elim (or_cases (same_place other place) (list_any (same_place other) places) among) [
          | inl here ↦ or_left (same_place other place) (list_any (same_place other) (without at places)) here
          | inr rest ↦ or_right (same_place other place) (list_any (same_place other) (without at places)) (later rest)
        ]

-- ---- one event

-- what is resident after an event, by what the event tells of the place
resident-by : (place : Place) (event : Event) (older : History) (told : Option Bool) → concerning place event older ≡ told
    → is_resident place (event ◂ older) ≡ unwrap_or (first_told told (newest (concerning place) older)) false
resident-by place event older told is = ap (λ (o : Option Bool). unwrap_or (first_told o (newest (concerning place) older)) false) is

-- an event that concerns no place
untold : (event : Event) (older : History) (held : List Place) → ((place : Place) → concerning place event older ≡ None) → HasResident held older
    → HasResident held (event ◂ older)
untold event older held none has place resident = has place (sym (resident-by place event older None (none place)) ∙ resident)

-- a read by a check, and any read
read-inside : (at : Place) (block : Block) (older : History) (held : List Place) → (is_log at && in_check older) ≡ true → HasResident held older
    → HasResident held (BlockRead at block ◂ older)
read-inside at block older held is has =
    untold (BlockRead at block) older held
    (λ place. ap (λ (b : Bool). cond (same_place place at && not b) (Some true) None) is ∙ ap (λ (b : Bool). cond b (Some true) None) (and_right (same_place place at) false refl)) has

read-outside : (at : Place) (block : Block) (older : History) (held : List Place) → HasResident held older → HasResident (at ∷ held) (BlockRead at block ◂ older)
read-outside at block older held has place resident = by (same_place place at) refl
  where
    by : (b : Bool) → same_place place at ≡ b → list_any (same_place place) (at ∷ held) ≡ true
    by true same = or_left (same_place place at) (list_any (same_place place) held) same
    by false differs =
        let none : concerning place (BlockRead at block) older ≡ None = ap (λ (b : Bool). cond (b && not (is_log at && in_check older)) (Some true) None) differs in
        or_right (same_place place at) (list_any (same_place place) held) (has place (sym (resident-by place (BlockRead at block) older None none) ∙ resident))

-- an event by which a block leaves
left : (at : Place) (event : Event) (older : History) (held : List Place) → ((place : Place) → concerning place event older ≡ cond (same_place place at) (Some false) None)
    → HasResident held older → HasResident (without at held) (event ◂ older)
left at event older held tells has place resident = by (same_place place at) refl
  where
    by : (b : Bool) → same_place place at ≡ b → list_any (same_place place) (without at held) ≡ true
    by true same =
        let told : concerning place event older ≡ Some false = tells place ∙ ap (λ (b : Bool). cond b (Some false) None) same in
        let no : true ≡ false = sym resident ∙ resident-by place event older (Some false) told in cc
    by false differs =
        let told : concerning place event older ≡ None = tells place ∙ ap (λ (b : Bool). cond b (Some false) None) differs in
        without-other at place held differs (has place (sym (resident-by place event older None told) ∙ resident))

-- ---- all events

-- what an event changes of the list
record Goes (event : Event) (older : History) (held : List Place) : Type 0 where
  pub after : List Place
  pub has : HasResident after (event ◂ older)
  pub counts : removal event older + length after ≤ load event older + length held

goes : (entry : ℕ) (event : Event) (older : History) (held : List Place) → entry ≤ length (in_order older) → LeavesResident entry event older
    → HasResident held older → Goes event older held
goes entry (BlockRead at block) older held entered leaves has = by (is_log at && in_check older) refl
  where
    by : (b : Bool) → (is_log at && in_check older) ≡ b → Goes (BlockRead at block) older held
    by true inside =
        let none : load (BlockRead at block) older ≡ 0 = ap {B = ℕ} (λ (b : Bool). cond b 0 1) inside in
        record { after = held; has = read-inside at block older held inside has; counts = omega (arith, none) }
    by false outside =
        let one : load (BlockRead at block) older ≡ 1 = ap {B = ℕ} (λ (b : Bool). cond b 0 1) outside in
        record { after = at ∷ held; has = read-outside at block older held has; counts = omega (arith, one) }
goes entry (BlockWrite at block) older held entered leaves has = record {
  after = without at held;
  has = left at (BlockWrite at block) older held (λ place. refl) has;
  counts = omega (arith, without-length at held (has at (leaves entered)));
}
goes entry (Note (Drop at)) older held entered leaves has = record {
  after = without at held;
  has = left at (Note (Drop at)) older held (λ place. refl) has;
  counts = omega (arith, without-length at held (has at (leaves entered)));
}
goes entry event older held entered leaves has = record { after = held; has = untold event older held (λ place. refl) has; counts = omega arith }

-- where entering is over nothing is held
starts : (entry : ℕ) (older : History) → length (in_order older) ≡ entry → ((place : Place) → is_resident place older ≡ false) → IsPaid entry older
starts entry older over none = record {
  held = [];
  has = λ place resident. let no : true ≡ false = sym resident ∙ none place in cc;
  counts = omega (arith, after-none removal entry older (omega (arith, over)), after-none load entry older (omega (arith, over)));
}

paid : (entry : ℕ) (older : History) → OnlyResidentLeave entry older → entry ≤ length (in_order older) → IsPaid entry older
paid entry no_event only entered = starts entry no_event (omega (arith, entered)) (λ place. refl)
paid entry (event ◂ older) only entered =
    elim (cases_lt (length (in_order older)) entry) [
      | inl below ↦ let over : length (in_order (event ◂ older)) ≡ entry = omega (arith, length-more event older, below, entered) in
          starts entry (event ◂ older) over (AtEach-at (λ before. eqb (length (in_order before)) entry) (λ before. (place : Place) → is_resident place before ≡ false) (event ◂ older) only.none (eq-eqb (length (in_order (event ◂ older))) entry over))
      | inr above ↦ let before = paid entry older (record { each = only.each.0; none = only.none.0 }) above in
          let next = goes entry event older before.held above only.each.1 before.has in
          record {
            held = next.after;
            has = next.has;
            counts = omega (arith, before.counts, next.counts, after-more removal entry event older above, after-more load entry event older above);
          }
    ]

no-more : (entry : ℕ) (older : History) → OnlyResidentLeave entry older → LeavesNoMore entry older
no-more entry older only =
    elim (cases_lt (length (in_order older)) entry) [
      | inl below ↦ record { counts = omega (arith, below, after-none removal entry older (omega (arith, below))) }
      | inr above ↦ record { counts = omega (arith, (paid entry older only above).counts) }
    ]

pub leaving-paid : LeavingIsPaid
leaving-paid entry no_event only = no-more entry no_event only
leaving-paid entry (event ◂ older) only = (leaving-paid entry older (record { each = only.each.0; none = only.none.0 }), no-more entry (event ◂ older) only)
