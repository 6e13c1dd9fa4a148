-- What an event of a trace changes of the words, the instructions and the step under way.
use Rattle.std.proofs.Common.{◌≡◌, ℕ, ◌+◌, ◌^◌, ◌<◌, ◌≤◌, Bool, true, false, cond, ◌&&◌, ◌||◌, eqb, leb, get_or, List, [], ◌∷◌, ◌++◌, length, Option, Some, None, IfSome, refl, ap, ◌∙◌, arith, length-append}
use Rattle.std.specs.Prelude.{filter_map, option_to_list}
use Rattle.std.proofs.lemmas.Bool.{and_parts, leb-true, le-leb, ne_eqb}
use Rattle.std.proofs.lemmas.List.{append-nil}
use Rattle.std.proofs.lemmas.List.Sums.{sum_by_push}
use Rattle.execution.specs.Traffic.{Entry}
use Rattle.off_chip.specs.declared.Event.{Event}
use Rattle.off_chip.specs.declared.Event.TheVariants.{BlockRead, BlockWrite, WordRead, WordWrite, Note}
use Rattle.off_chip.specs.declared.Mark.TheVariants as marks
use Rattle.off_chip.specs.declared.Who.TheVariants.{Secure, Untrusted}
use Rattle.off_chip.specs.Histories.{History, no_event, ◌◂◌, in_order, Each, first_told}
use Rattle.off_chip.specs.Boundaries.{enter_events, is_retire, is_step, retired, since_step}
use Rattle.off_chip.specs.ExchangedWords.{secure_read, secure_write, words_read, words_written}
use Rattle.off_chip.proofs.BoundaryLemmas.{is_retire-event}
use Rattle.off_chip.proofs.HistoryLemmas.{filter_map-push}
use Rattle.bus_machine.specs.BusMachine.{LoadedProgram, word_among, word_given}
use Rattle.ideal_trace.specs.FaithfulRuns.{EntersSilently, GivesBytes, is_entering}

pub longer : (event : Event) (older : History) → length (in_order (event ◂ older)) ≡ length (in_order older) + 1
longer event older = length-append (in_order older) (event ∷ [])

-- ---- boundaries

and-true : (b : Bool) → (b && true) ≡ b
and-true true = refl
and-true false = refl

pub step-entered : (entry : ℕ) (event : Event) (older : History) → entry ≤ length (in_order older) → is_step entry (event ◂ older) ≡ is_retire event
step-entered entry event older entered =
    let more : length (in_order (event ◂ older)) ≡ length (in_order older) + 1 = longer event older in
    let e : eqb (length (in_order (event ◂ older))) entry ≡ false =
    ne_eqb (length (in_order (event ◂ older))) entry (λ same. let no_such : ⊥ = omega (arith, same, more, entered) in no_such) in
    let l : leb entry (length (in_order (event ◂ older))) ≡ true = le-leb entry (length (in_order (event ◂ older))) (omega (arith, more, entered)) in
    ap (λ (b : Bool). (b || is_retire event) && leb entry (length (in_order (event ◂ older)))) e ∙ ap (λ (b : Bool). is_retire event && b) l ∙ and-true (is_retire event)

-- after entering the step under way has each event up to its retirement
pub since-done : (entry : ℕ) (event : Event) (older : History) → entry ≤ length (in_order older) → is_retire event ≡ true → since_step entry (event ◂ older) ≡ []
since-done entry event older entered done = ap (λ (b : Bool). cond b [] (since_step entry older ++ event ∷ [])) (step-entered entry event older entered ∙ done)

pub since-more : (entry : ℕ) (event : Event) (older : History) → entry ≤ length (in_order older) → is_retire event ≡ false → since_step entry (event ◂ older) ≡ since_step entry older ++ event ∷ []
since-more entry event older entered other = ap (λ (b : Bool). cond b [] (since_step entry older ++ event ∷ [])) (step-entered entry event older entered ∙ other)

-- a boundary
pub boundary-entered : (entry : ℕ) (older : History) → is_step entry older ≡ true → entry ≤ length (in_order older)
boundary-entered entry no_event is = leb-true entry 0 is
boundary-entered entry (event ◂ older) is =
    leb-true entry (length (in_order (event ◂ older)))
    (and_parts ((eqb (length (in_order (event ◂ older))) entry) || is_retire event) (leb entry (length (in_order (event ◂ older)))) is).1

pub boundary-since : (entry : ℕ) (older : History) → is_step entry older ≡ true → since_step entry older ≡ []
boundary-since entry no_event is = refl
boundary-since entry (event ◂ older) is = ap (λ (b : Bool). cond b [] (since_step entry older ++ event ∷ [])) is

-- ---- instructions

pub retired-push : (event : Event) (older : History) → retired (in_order (event ◂ older)) ≡ retired (in_order older) + cond (is_retire event) 1 0
retired-push event older = sum_by_push (λ e. cond (is_retire e) 1 0) (in_order older) event

pub retired-done : (event : Event) (older : History) → is_retire event ≡ true → retired (in_order (event ◂ older)) ≡ retired (in_order older) + 1
retired-done event older done = retired-push event older ∙ ap (λ (b : Bool). retired (in_order older) + cond b 1 0) done

pub retired-other : (event : Event) (older : History) → is_retire event ≡ false → retired (in_order (event ◂ older)) ≡ retired (in_order older)
retired-other event older other = retired-push event older ∙ ap (λ (b : Bool). retired (in_order older) + cond b 1 0) other ∙ omega arith

-- ---- words

pub push-none : {Y : Type 0} (f : Event → Option Y) (trace : List Event) (event : Event) → f event ≡ None → filter_map f (trace ++ event ∷ []) ≡ filter_map f trace
push-none f trace event none =
    filter_map-push f trace event ∙ ap (λ (o : Option _). filter_map f trace ++ option_to_list o) none ∙ append-nil (filter_map f trace)

pub done-reads : (event : Event) → is_retire event ≡ true → secure_read event ≡ None
done-reads event done = ap secure_read (is_retire-event event done)

pub done-writes : (event : Event) → is_retire event ≡ true → secure_write event ≡ None
done-writes event done = ap secure_write (is_retire-event event done)

first-entry : (from at w word : ℕ) (rest : List (Entry ℕ)) → record { place = from; word = w } ∷ rest ≡ record { place = at; word = word } ∷ [] → (from ≡ at) × (w ≡ word)
first-entry from at w word rest same =
    let none : Entry ℕ = record { place = 0; word = 0 } in (
      ap (λ (xs : List (Entry ℕ)). (get_or xs 0 none).place) same,
      ap (λ (xs : List (Entry ℕ)). (get_or xs 0 none).word) same,
    )

same-eqb : (from at : ℕ) → from ≡ at → eqb from at ≡ true
same-eqb from at same = grind (arith, same)

-- where one word was read, this is what is found among the events
pub word-found : (events : List Event) (at word : ℕ) → words_read events ≡ record { place = at; word = word } ∷ [] → word_among events at ≡ Some word
word-found [] at word same = absurd (cc)
word-found (BlockRead place block ∷ events) at word same = word-found events at word same
word-found (BlockWrite place block ∷ events) at word same = word-found events at word same
word-found (WordRead Secure from w ∷ events) at word same =
    let parts = first-entry from at w word (words_read events) same in
    ap (λ (b : Bool). first_told (cond b (Some w) None) (word_among events at)) (same-eqb from at parts.0) ∙ ap (λ (x : ℕ). Some x) parts.1
word-found (WordRead Untrusted from w ∷ events) at word same = word-found events at word same
word-found (WordWrite by from w ∷ events) at word same = word-found events at word same
word-found (Note mark ∷ events) at word same = word-found events at word same

given-fits : (at : ℕ) (event : Event) → GivesBytes event → IfSome (word_given at event) (λ w. w < 2 ^ 32)
given-fits at (BlockRead place block) gives = tt
given-fits at (BlockWrite place block) gives = tt
given-fits at (WordRead Secure from w) gives = by (eqb from at)
  where
    by : (b : Bool) → IfSome (cond b (Some w) None) (λ w. w < 2 ^ 32)
    by true = gives
    by false = tt
given-fits at (WordRead Untrusted from w) gives = tt
given-fits at (WordWrite by from w) gives = tt
given-fits at (Note mark) gives = tt

among-push : (events : List Event) (event : Event) (at : ℕ) → IfSome (word_among events at) (λ w. w < 2 ^ 32) → IfSome (word_given at event) (λ w. w < 2 ^ 32)
    → IfSome (word_among (events ++ event ∷ []) at) (λ w. w < 2 ^ 32)
among-push [] event at fits last = one (word_given at event) last
  where
    one : (o : Option ℕ) → IfSome o (λ w. w < 2 ^ 32) → IfSome (first_told o None) (λ w. w < 2 ^ 32)
    one None fits = tt
    one (Some w) fits = fits
among-push (first ∷ events) event at fits last = by (word_given at first) fits (λ rest. among-push events event at rest last)
  where
    by : (o : Option ℕ) → IfSome (first_told o (word_among events at)) (λ w. w < 2 ^ 32)
        → (IfSome (word_among events at) (λ w. w < 2 ^ 32) → IfSome (word_among (events ++ event ∷ []) at) (λ w. w < 2 ^ 32))
        → IfSome (first_told o (word_among (events ++ event ∷ []) at)) (λ w. w < 2 ^ 32)
    by None fits later = later fits
    by (Some w) fits later = fits

-- a word that was read in the step under way is below 2 ^ 32
pub words-fit : (entry : ℕ) (older : History) (at : ℕ) → Each (λ event older. GivesBytes event) older → IfSome (word_among (since_step entry older) at) (λ w. w < 2 ^ 32)
words-fit entry no_event at each = tt
words-fit entry (event ◂ older) at each = by (is_step entry (event ◂ older)) (words-fit entry older at each.0)
  where
    by : (b : Bool) → IfSome (word_among (since_step entry older) at) (λ w. w < 2 ^ 32)
        → IfSome (word_among (cond b [] (since_step entry older ++ event ∷ [])) at) (λ w. w < 2 ^ 32)
    by true fits = tt
    by false fits = among-push (since_step entry older) event at fits (given-fits at event each.1)

-- ---- entering

entering-event : (event : Event) → is_entering event ≡ true → (is_retire event ≡ false) × (secure_read event ≡ None) × (secure_write event ≡ None)
entering-event (BlockRead place block) is = (refl, refl, refl)
entering-event (BlockWrite place block) is = (refl, refl, refl)
entering-event (WordRead by at word) is = absurd (cc)
entering-event (WordWrite by at word) is = absurd (cc)
entering-event (Note (marks.Retire who)) is = absurd (cc)
entering-event (Note mark) is = (refl, refl, refl)

-- until entering is over no instruction was done, and no open word was exchanged
pub silent : (program : LoadedProgram) (older : History) → Each (EntersSilently program) older → length (in_order older) ≤ enter_events program.layout
    → (retired (in_order older) ≡ 0) × (words_read (in_order older) ≡ []) × (words_written (in_order older) ≡ [])
silent program no_event each short = (refl, refl, refl)
silent program (event ◂ older) each short =
    let more : length (in_order (event ◂ older)) ≡ length (in_order older) + 1 = longer event older in
    let rest = silent program older each.0 (omega (arith, more, short)) in
    let parts = entering-event event (each.1 (omega (arith, more, short))) in (
      retired-other event older parts.0 ∙ rest.0,
      push-none secure_read (in_order older) event parts.1 ∙ rest.1,
      push-none secure_write (in_order older) event parts.2 ∙ rest.2,
    )
