-- A step that is told by its parts fits.
use Rattle.std.proofs.Common.{◌≡◌, ℕ, ◌+◌, ◌≤◌, Bool, true, false, cond, ◌&&◌, leb, List, [], ◌∷◌, ◌++◌, length, Option, refl, sym, ap, ◌∙◌, subst, arith}
use Rattle.std.specs.List.{count_by, list_all, list_any}
use Rattle.std.proofs.lemmas.Bool.{and_parts, and_right, leb-true, or_from, or_parts}
use Rattle.std.proofs.lemmas.List.Folds.{list_any-append}
use Rattle.std.proofs.lemmas.List.Sums.{sum_by-append}
use Rattle.aegis_num.specs.declared.Place.TheVariants.{Log}
use Rattle.regions.specs.declared.Layout.{Layout}
use Rattle.regions.specs.Modes.{SecureInstruction}
use Rattle.off_chip.specs.declared.Event.{Event}
use Rattle.off_chip.specs.declared.Event.TheVariants.{BlockRead, BlockWrite, WordRead, WordWrite, Note}
use Rattle.off_chip.specs.declared.Mark.TheVariants.{CheckPassed, CheckStart, Drop, Resume, Retire, Sent, Suspend}
use Rattle.off_chip.specs.declared.Who.TheVariants.{Secure, Untrusted}
use Rattle.off_chip.specs.Histories.{History, ◌◂◌, followed, in_order}
use Rattle.off_chip.specs.Boundaries.{enter_events, is_boundary, is_retire, is_step}
use Rattle.off_chip.specs.Residency.{in_check, is_log}
use Rattle.off_chip.proofs.HistoryLemmas.{followed-append}
use Rattle.bus_machine.specs.BusAccesses.{is_access_event}
use Rattle.paced_trace.specs.EventKinds.{Kind, after_entering, among, check_mark, check_read, entering, exchange, in_step, load, suspended}
use Rattle.paced_trace.specs.PacedSteps.{may_check, suspends}
use Rattle.paced_trace.specs.StepParts.{ComesAfter, PartsFit, checks, is_exchange, is_foreign, is_log_move, is_read, is_sent, nothing, sends, suspension}
use Rattle.paced_trace.proofs.CountLemmas.{after-more, length-more, step-more, step-none}

-- ---- events after a history

-- how many of them are of a kind
pub among-append : (kind : Kind) (older : History) (first more : List Event) → among kind older (first ++ more) ≡ among kind older first + among kind (followed older first) more
among-append kind older [] more = omega arith
among-append kind older (event ∷ first) more =
    let e : among kind (event ◂ older) (first ++ more) ≡ among kind (event ◂ older) first + among kind (followed (event ◂ older) first) more =
    among-append kind (event ◂ older) first more in
    omega (arith, e)

-- they are counted in the step under way
pub step-over : (kind : Kind) (entry : ℕ) (older : History) (events : List Event) → entry ≤ length (in_order older) → list_any is_retire events ≡ false
    → in_step kind entry (followed older events) ≡ in_step kind entry older + among kind older events
step-over kind entry older [] entered none = omega arith
step-over kind entry older (event ∷ rest) entered none =
    let parts = or_parts (is_retire event) (list_any is_retire rest) none in
    let e : in_step kind entry (followed (event ◂ older) rest) ≡ in_step kind entry (event ◂ older) + among kind (event ◂ older) rest =
    step-over kind entry (event ◂ older) rest (omega (arith, entered, length-more event older)) parts.1 in
    omega (arith, e, step-more kind entry event older entered parts.0)

-- and among all after entering
pub after-over : (kind : Kind) (entry : ℕ) (older : History) (events : List Event) → entry ≤ length (in_order older)
    → after_entering kind entry (followed older events) ≡ after_entering kind entry older + among kind older events
after-over kind entry older [] entered = omega arith
after-over kind entry older (event ∷ rest) entered =
    let e : after_entering kind entry (followed (event ◂ older) rest) ≡ after_entering kind entry (event ◂ older) + among kind (event ◂ older) rest =
    after-over kind entry (event ◂ older) rest (omega (arith, entered, length-more event older)) in
    omega (arith, e, after-more kind entry event older entered)

-- so many are of each kind; none ends a step; and a check is under way after them or not
pub record Has (older : History) (events : List Event) (inside : Bool) (l x m r f : ℕ) : Type 0 where
  pub loads : among load older events ≡ l
  pub exchanges : among exchange older events ≡ x
  pub marks : among check_mark older events ≡ m
  pub reads : among check_read older events ≡ r
  pub foreign : among suspended older events ≡ f
  pub entered : among entering older events ≡ 0
  pub goes : list_any is_retire events ≡ false
  pub check : in_check (followed older events) ≡ inside

has-none : (older : History) (inside : Bool) → in_check older ≡ inside → Has older [] inside 0 0 0 0 0
has-none older inside check = record { loads = refl; exchanges = refl; marks = refl; reads = refl; foreign = refl; entered = refl; goes = refl; check = check }

has-more : (older : History) (first more : List Event) (between after : Bool) (l x m r f l' x' m' r' f' : ℕ) → Has older first between l x m r f
    → Has (followed older first) more after l' x' m' r' f' → Has older (first ++ more) after (l + l') (x + x') (m + m') (r + r') (f + f')
has-more older first more between after l x m r f l' x' m' r' f' one two = record {
  loads = omega (arith, one.loads, two.loads, among-append load older first more);
  exchanges = omega (arith, one.exchanges, two.exchanges, among-append exchange older first more);
  marks = omega (arith, one.marks, two.marks, among-append check_mark older first more);
  reads = omega (arith, one.reads, two.reads, among-append check_read older first more);
  foreign = omega (arith, one.foreign, two.foreign, among-append suspended older first more);
  entered = omega (arith, one.entered, two.entered, among-append entering older first more);
  goes = any-append first more one.goes two.goes;
  check = ap (λ (h : History). in_check h) (followed-append older first more) ∙ two.check;
}
  where
    any-append : (xs ys : List Event) → list_any is_retire xs ≡ false → list_any is_retire ys ≡ false → list_any is_retire (xs ++ ys) ≡ false
    any-append xs ys left right = list_any-append is_retire xs ys ∙ or_from (list_any is_retire xs) (list_any is_retire ys) left right

-- the same with other numbers
has-as : (older : History) (events : List Event) (inside : Bool) (l x m r f l' x' m' r' f' : ℕ) → l ≡ l' → x ≡ x' → m ≡ m' → r ≡ r' → f ≡ f'
    → Has older events inside l x m r f → Has older events inside l' x' m' r' f'
has-as older events inside l x m r f l' x' m' r' f' a b c d e has = record {
  loads = has.loads ∙ a;
  exchanges = has.exchanges ∙ b;
  marks = has.marks ∙ c;
  reads = has.reads ∙ d;
  foreign = has.foreign ∙ e;
  entered = has.entered;
  goes = has.goes;
  check = has.check;
}

-- ---- one event

-- an event of an access, where no check is under way
one-access : (event : Event) (older : History) → is_access_event event ≡ true → in_check older ≡ false
    → Has older (event ∷ []) false (cond (is_read event) 1 0) (cond (is_exchange event) 1 0) 0 0 0
one-access (BlockRead at block) older is outside =
    let none : (is_log at && in_check older) ≡ false = and_right (is_log at) (in_check older) outside in
    let loads : load (BlockRead at block) older ≡ 1 = ap {B = ℕ} (λ (b : Bool). cond b 0 1) none in
    let reads : check_read (BlockRead at block) older ≡ 0 = ap {B = ℕ} (λ (b : Bool). cond b 1 0) none in
    record { loads = omega (arith, loads); exchanges = refl; marks = refl; reads = omega (arith, reads); foreign = refl; entered = refl; goes = refl; check = outside }
one-access (BlockWrite at block) older is outside = record { loads = refl; exchanges = refl; marks = refl; reads = refl; foreign = refl; entered = refl; goes = refl; check = outside }
one-access (Note (Drop at)) older is outside = record { loads = refl; exchanges = refl; marks = refl; reads = refl; foreign = refl; entered = refl; goes = refl; check = outside }
one-access (WordRead Secure at word) older is outside = record { loads = refl; exchanges = refl; marks = refl; reads = refl; foreign = refl; entered = refl; goes = refl; check = outside }
one-access (WordWrite Secure at word) older is outside = record { loads = refl; exchanges = refl; marks = refl; reads = refl; foreign = refl; entered = refl; goes = refl; check = outside }
one-access event older is outside = cc

-- an event at a block of the log, in a check
one-move : (event : Event) (older : History) → is_log_move event ≡ true → in_check older ≡ true → Has older (event ∷ []) true 0 0 0 (cond (is_read event) 1 0) 0
one-move (BlockRead (Log n) block) older is inside =
    let loads : load (BlockRead (Log n) block) older ≡ 0 = ap {B = ℕ} (λ (b : Bool). cond b 0 1) inside in
    let reads : check_read (BlockRead (Log n) block) older ≡ 1 = ap {B = ℕ} (λ (b : Bool). cond b 1 0) inside in
    record { loads = omega (arith, loads); exchanges = refl; marks = refl; reads = omega (arith, reads); foreign = refl; entered = refl; goes = refl; check = inside }
one-move (BlockWrite (Log n) block) older is inside = record { loads = refl; exchanges = refl; marks = refl; reads = refl; foreign = refl; entered = refl; goes = refl; check = inside }
one-move event older is inside = cc

-- an event of untrusted code
one-foreign : (event : Event) (older : History) → is_foreign event ≡ true → in_check older ≡ false → Has older (event ∷ []) false 0 0 0 0 1
one-foreign (WordRead Untrusted at word) older is outside = record { loads = refl; exchanges = refl; marks = refl; reads = refl; foreign = refl; entered = refl; goes = refl; check = outside }
one-foreign (WordWrite Untrusted at word) older is outside = record { loads = refl; exchanges = refl; marks = refl; reads = refl; foreign = refl; entered = refl; goes = refl; check = outside }
one-foreign (Note (Retire Untrusted)) older is outside = record { loads = refl; exchanges = refl; marks = refl; reads = refl; foreign = refl; entered = refl; goes = refl; check = outside }
one-foreign event older is outside = cc

-- bytes are sent
one-sent : (event : Event) (older : History) → is_sent event ≡ true → in_check older ≡ false → Has older (event ∷ []) false 0 0 1 0 0
one-sent (Note (Sent n)) older is outside = record { loads = refl; exchanges = refl; marks = refl; reads = refl; foreign = refl; entered = refl; goes = refl; check = outside }
one-sent event older is outside = cc

-- ---- many events

-- where each is of some sort, and adds so many
count-cons : (test : Event → Bool) (event : Event) (rest : List Event) → count_by test (event ∷ rest) ≡ cond (test event) 1 0 + count_by test rest
count-cons test event rest = omega (arith, sum_by-append (λ (e : Event). cond (test e) 1 0) (event ∷ []) rest)

pub has-accesses : (events : List Event) (older : History) → list_all is_access_event events ≡ true → in_check older ≡ false
    → Has older events false (count_by is_read events) (count_by is_exchange events) 0 0 0
has-accesses [] older all outside = has-none older false outside
has-accesses (event ∷ rest) older all outside =
    let parts = and_parts (is_access_event event) (list_all is_access_event rest) all in
    let one = one-access event older parts.0 outside in
    let l : ℕ = cond (is_read event) 1 0 in
    let x : ℕ = cond (is_exchange event) 1 0 in
    has-as older (event ∷ rest) false (l + count_by is_read rest) (x + count_by is_exchange rest) 0 0 0 (count_by is_read (event ∷ rest)) (count_by is_exchange (event ∷ rest)) 0 0 0
    (omega (arith, count-cons is_read event rest)) (omega (arith, count-cons is_exchange event rest)) refl refl refl
    (has-more older (event ∷ []) rest false false l x 0 0 0 (count_by is_read rest) (count_by is_exchange rest) 0 0 0 one (has-accesses rest (event ◂ older) parts.1 one.check))

pub has-moves : (events : List Event) (older : History) → list_all is_log_move events ≡ true → in_check older ≡ true → Has older events true 0 0 0 (count_by is_read events) 0
has-moves [] older all inside = has-none older true inside
has-moves (event ∷ rest) older all inside =
    let parts = and_parts (is_log_move event) (list_all is_log_move rest) all in
    let one = one-move event older parts.0 inside in
    let r : ℕ = cond (is_read event) 1 0 in
    has-as older (event ∷ rest) true 0 0 0 (r + count_by is_read rest) 0 0 0 0 (count_by is_read (event ∷ rest)) 0 refl refl refl (omega (arith, count-cons is_read event rest)) refl
    (has-more older (event ∷ []) rest true true 0 0 0 r 0 0 0 0 (count_by is_read rest) 0 one (has-moves rest (event ◂ older) parts.1 one.check))

pub has-foreign : (events : List Event) (older : History) → list_all is_foreign events ≡ true → in_check older ≡ false → Has older events false 0 0 0 0 (length events)
has-foreign [] older all outside = has-none older false outside
has-foreign (event ∷ rest) older all outside =
    let parts = and_parts (is_foreign event) (list_all is_foreign rest) all in
    let one = one-foreign event older parts.0 outside in
    has-as older (event ∷ rest) false 0 0 0 0 (1 + length rest) 0 0 0 0 (length (event ∷ rest)) refl refl refl refl (omega arith)
    (has-more older (event ∷ []) rest false false 0 0 0 0 1 0 0 0 0 (length rest) one (has-foreign rest (event ◂ older) parts.1 one.check))

pub has-sent : (events : List Event) (older : History) → list_all is_sent events ≡ true → in_check older ≡ false → Has older events false 0 0 (length events) 0 0
has-sent [] older all outside = has-none older false outside
has-sent (event ∷ rest) older all outside =
    let parts = and_parts (is_sent event) (list_all is_sent rest) all in
    let one = one-sent event older parts.0 outside in
    has-as older (event ∷ rest) false 0 0 (1 + length rest) 0 0 0 0 (length (event ∷ rest)) 0 0 refl refl (omega arith) refl refl
    (has-more older (event ∷ []) rest false false 0 0 1 0 0 0 0 (length rest) 0 0 one (has-sent rest (event ◂ older) parts.1 one.check))

mark-start : (older : History) → Has older (Note CheckStart ∷ []) true 0 0 1 0 0
mark-start older = record { loads = refl; exchanges = refl; marks = refl; reads = refl; foreign = refl; entered = refl; goes = refl; check = refl }

mark-passed : (older : History) → Has older (Note CheckPassed ∷ []) false 0 0 1 0 0
mark-passed older = record { loads = refl; exchanges = refl; marks = refl; reads = refl; foreign = refl; entered = refl; goes = refl; check = refl }

mark-suspend : (older : History) → in_check older ≡ false → Has older (Note Suspend ∷ []) false 0 0 0 0 1
mark-suspend older outside = record { loads = refl; exchanges = refl; marks = refl; reads = refl; foreign = refl; entered = refl; goes = refl; check = outside }

mark-resume : (older : History) → in_check older ≡ false → Has older (Note Resume ∷ []) false 0 0 0 0 1
mark-resume older outside = record { loads = refl; exchanges = refl; marks = refl; reads = refl; foreign = refl; entered = refl; goes = refl; check = outside }

-- ---- the whole

-- what comes after the accesses
record HasAfter (layout : Layout) (asked : Option SecureInstruction) (older : History) (events : List Event) : Type 0 where
  pub marks : ℕ
  pub reads : ℕ
  pub foreign : ℕ
  pub has : Has older events false 0 0 marks reads foreign
  pub few_marks : marks ≤ cond (may_check asked) 3 0
  pub few_reads : reads ≤ cond (may_check asked) layout.log 0
  pub few_foreign : foreign ≤ cond (suspends asked) 16386 0

when : (b : Bool) (n m : ℕ) → b ≡ true → n ≤ m → n ≤ cond b m 0
when b n m is below = subst (λ (c : Bool). n ≤ cond c m 0) (sym is) below

zero-below : (n : ℕ) → 0 ≤ n
zero-below n = omega arith

comes-after : (layout : Layout) (asked : Option SecureInstruction) (older : History) (events : List Event) → in_check older ≡ false → ComesAfter layout asked events
    → HasAfter layout asked older events
comes-after layout asked older events outside (nothing none) = subst (λ (e : List Event). HasAfter layout asked older e) (sym none) (record {
  marks = 0;
  reads = 0;
  foreign = 0;
  has = has-none older false outside;
  few_marks = zero-below (cond (may_check asked) 3 0);
  few_reads = zero-below (cond (may_check asked) layout.log 0);
  few_foreign = zero-below (cond (suspends asked) 16386 0);
})
comes-after layout asked older events outside (sends may sent) = record {
  marks = length events;
  reads = 0;
  foreign = 0;
  has = has-sent events older sent.each outside;
  few_marks = when (may_check asked) (length events) 3 may (let once = sent.once in omega (arith, once));
  few_reads = zero-below (cond (may_check asked) layout.log 0);
  few_foreign = zero-below (cond (suspends asked) 16386 0);
}
comes-after layout asked older events outside (checks moves sent may all few send events_are) =
    let begun = mark-start older in
    let moved = has-moves moves (Note CheckStart ◂ older) all begun.check in
    let at : History = followed (Note CheckStart ◂ older) moves in
    let passed = mark-passed at in
    let last = has-sent sent (Note CheckPassed ◂ at) send.each passed.check in
    let ending = has-more at (Note CheckPassed ∷ []) sent false false 0 0 1 0 0 0 0 (length sent) 0 0 passed last in
    let rest = has-more (Note CheckStart ◂ older) moves (Note CheckPassed ∷ sent) true false 0 0 0 (count_by is_read moves) 0 (0 + 0) (0 + 0) (1 + length sent) (0 + 0) (0 + 0) moved ending in
    let whole = has-more older (Note CheckStart ∷ []) (moves ++ Note CheckPassed ∷ sent) true false 0 0 1 0 0 (0 + (0 + 0)) (0 + (0 + 0)) (0 + (1 + length sent)) (count_by is_read moves + (0 + 0))
    (0 + (0 + 0)) begun rest in
    subst (λ (e : List Event). HasAfter layout asked older e) (sym events_are) (record {
      marks = 1 + (0 + (1 + length sent));
      reads = 0 + (count_by is_read moves + (0 + 0));
      foreign = 0;
      has = whole;
      few_marks = when (may_check asked) (1 + (0 + (1 + length sent))) 3 may (let once = send.once in omega (arith, once));
      few_reads = when (may_check asked) (0 + (count_by is_read moves + (0 + 0))) layout.log may (omega (arith, few));
      few_foreign = zero-below (cond (suspends asked) 16386 0);
    })
comes-after layout asked older events outside (suspension phase is all few events_are) =
    let begun = mark-suspend older outside in
    let runs = has-foreign phase (Note Suspend ◂ older) all begun.check in
    let at : History = followed (Note Suspend ◂ older) phase in
    let last = mark-resume at runs.check in
    let rest = has-more (Note Suspend ◂ older) phase (Note Resume ∷ []) false false 0 0 0 0 (length phase) 0 0 0 0 1 runs last in
    let whole = has-more older (Note Suspend ∷ []) (phase ++ Note Resume ∷ []) false false 0 0 0 0 1 (0 + 0) (0 + 0) (0 + 0) (0 + 0) (length phase + 1) begun rest in
    subst (λ (e : List Event). HasAfter layout asked older e) (sym events_are) (record {
      marks = 0;
      reads = 0;
      foreign = 1 + (length phase + 1);
      has = whole;
      few_marks = zero-below (cond (may_check asked) 3 0);
      few_reads = zero-below (cond (may_check asked) layout.log 0);
      few_foreign = when (suspends asked) (1 + (length phase + 1)) 16386 is (omega (arith, few));
    })

pub parts-fit : PartsFit
parts-fit layout asked older accesses more at outside are comes =
    let entry : ℕ = enter_events layout in
    let entered : entry ≤ length (in_order older) = step-entry entry older at in
    let first = has-accesses accesses older are.each outside in
    let after = comes-after layout asked (followed older accesses) more first.check comes in
    let whole = has-more older accesses more false false (count_by is_read accesses) (count_by is_exchange accesses) 0 0 0 0 0 after.marks after.reads after.foreign first after.has in
    let over : (kind : Kind) → in_step kind entry (followed older (accesses ++ more)) ≡ in_step kind entry older + among kind older (accesses ++ more) =
    λ kind. step-over kind entry older (accesses ++ more) entered whole.goes in
    let none : (kind : Kind) → in_step kind entry older ≡ 0 = λ kind. step-none kind entry older at in (
      record {
        accesses = omega (arith, over load, none load, whole.loads, over exchange, none exchange, whole.exchanges, are.few);
        marks = after-few (over check_mark) (none check_mark) whole.marks after.few_marks;
        reads = after-few (over check_read) (none check_read) whole.reads after.few_reads;
        suspension = after-few (over suspended) (none suspended) whole.foreign after.few_foreign;
        entered = omega (arith, over entering, none entering, whole.entered);
      },
      whole.check,
    )
  where
    step-entry : (entry : ℕ) (before : History) → is_step entry before ≡ true → entry ≤ length (in_order before)
    step-entry entry before passes = leb-true entry (length (in_order before)) (and_parts (is_boundary entry before) (leb entry (length (in_order before))) passes).1

    after-few : {n start added number most : ℕ} → n ≡ start + added → start ≡ 0 → added ≡ 0 + number → number ≤ most → n ≤ most
    after-few a b c d = omega (arith, a, b, c, d)
