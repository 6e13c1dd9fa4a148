-- Where no more blocks leave than came and each step fits, a history is as long as the pace of its steps at most.
use Rattle.std.proofs.Common.{◌≡◌, ℕ, ◌+◌, ◌*◌, ◌≤◌, Bool, true, false, cond, ◌&&◌, leb, length, Option, refl, ap, ◌∙◌, inl, inr, arith}
use Rattle.std.proofs.lemmas.Bool.{OnTrue_at, OnTrue_from, and_from, cases_lt, le-leb}
use Rattle.regions.specs.declared.Layout.{Layout}
use Rattle.regions.specs.Modes.{SecureInstruction}
use Rattle.regions.specs.Tree.{height_of}
use Rattle.off_chip.specs.declared.Event.{Event}
use Rattle.off_chip.specs.declared.Event.TheVariants.{BlockRead, BlockWrite, WordRead, WordWrite, Note}
use Rattle.off_chip.specs.declared.Mark.TheVariants.{CheckPassed, CheckStart, Drop, Enter, Resume, Retire, Sent, Suspend}
use Rattle.off_chip.specs.declared.Who.TheVariants.{Secure, Untrusted}
use Rattle.off_chip.specs.Histories.{History, no_event, ◌◂◌, in_order, AtEach, Each}
use Rattle.off_chip.specs.Boundaries.{enter_events, is_boundary, is_retire, is_step, retired}
use Rattle.off_chip.specs.Residency.{in_check, is_log}
use Rattle.off_chip.proofs.BoundaryLemmas.{is_retire-event}
use Rattle.off_chip.proofs.HistoryLemmas.{Each-weaker}
use Rattle.paced_trace.specs.EventKinds.{Kind, after_entering, check_mark, check_read, entering, exchange, in_step, load, removal, retirement, suspended}
use Rattle.paced_trace.specs.PacedSteps.{AllStepsFit, FitsStep, IsPaced, LeavesNoMore, ResidentStepsArePaced, StepFits, StepsArePaced, asked_among, may_check, suspends}
use Rattle.paced_trace.proofs.CountLemmas.{HasAtMost, after-more, after-none, at-most, length-more, retired-more, step-none, sum-asked, sum-same, sum_below}
use Rattle.paced_trace.proofs.LeavingLemmas.{leaving-paid}

-- ---- all events

-- how many events of any kind an event is
abbrev of_all : Kind
of_all event older =
    load event older + removal event older + exchange event older + check_read event older + check_mark event older + suspended event older
    + retirement event older + entering event older

either : (inside : Bool) → cond inside 0 1 + cond inside 1 0 ≡ 1
either true = omega arith
either false = omega arith

-- each event is of one kind
one-kind : (event : Event) (older : History) → of_all event older ≡ 1
one-kind (BlockRead at block) older = omega (arith, either (is_log at && in_check older))
one-kind (BlockWrite at block) older = omega arith
one-kind (WordRead Secure at word) older = omega arith
one-kind (WordRead Untrusted at word) older = omega arith
one-kind (WordWrite Secure at word) older = omega arith
one-kind (WordWrite Untrusted at word) older = omega arith
one-kind (Note Enter) older = omega arith
one-kind (Note (Retire Secure)) older = omega arith
one-kind (Note (Retire Untrusted)) older = omega arith
one-kind (Note (Drop at)) older = omega arith
one-kind (Note CheckStart) older = omega arith
one-kind (Note CheckPassed) older = omega arith
one-kind (Note (Sent n)) older = omega arith
one-kind (Note Suspend) older = omega arith
one-kind (Note Resume) older = omega arith

-- a block that came counts twice
abbrev access : Kind
access event older = 2 * load event older + exchange event older

-- so long is a history after entering, by what is counted
record IsCounted (entry : ℕ) (older : History) : Type 0 where
  pub all : length (in_order older) ≡ entry + after_entering load entry older + after_entering removal entry older + after_entering exchange entry older
      + after_entering check_read entry older + after_entering check_mark entry older + after_entering suspended entry older
      + after_entering retirement entry older + after_entering entering entry older
  pub access : after_entering access entry older ≡ 2 * after_entering load entry older + after_entering exchange entry older
  pub retired : after_entering retirement entry older ≤ retired (in_order older)

counted-none : (entry : ℕ) (older : History) → length (in_order older) ≡ entry → IsCounted entry older
counted-none entry older over =
    let none : (kind : Kind) → after_entering kind entry older ≡ 0 = λ kind. after-none kind entry older (omega (arith, over)) in
    record {
      all = omega (arith, over, none load, none removal, none exchange, none check_read, none check_mark, none suspended, none retirement, none entering);
      access = omega (arith, none access, none load, none exchange);
      retired = omega (arith, none retirement);
    }

retires-once : (event : Event) (older : History) → retirement event older ≤ cond (is_retire event) 1 0
retires-once (Note (Retire Secure)) older = omega arith
retires-once event older = omega arith

counted : (entry : ℕ) (older : History) → entry ≤ length (in_order older) → IsCounted entry older
counted entry no_event entered = counted-none entry no_event (omega (arith, entered))
counted entry (event ◂ older) entered =
    elim (cases_lt (length (in_order older)) entry) [
      | inl below ↦ counted-none entry (event ◂ older) (omega (arith, below, entered, length-more event older))
      | inr above ↦ let before = counted entry older above in
          let more : (kind : Kind) → after_entering kind entry (event ◂ older) ≡ after_entering kind entry older + kind event older =
          λ kind. after-more kind entry event older above in
          record {
            all = omega (
              arith,
              before.all,
              length-more event older,
              one-kind event older,
              more load,
              more removal,
              more exchange,
              more check_read,
              more check_mark,
              more suspended,
              more retirement,
              more entering,
            );
            access = omega (arith, before.access, more access, more load, more exchange);
            retired = omega (arith, before.retired, more retirement, retired-more event older, retires-once event older);
          }
    ]

-- ---- the steps

-- the same of the step under way
step-access : (entry : ℕ) (older : History) → in_step access entry older ≡ 2 * in_step load entry older + in_step exchange entry older
step-access entry no_event = omega arith
step-access entry (event ◂ older) = by (step-access entry older) (is_step entry (event ◂ older)) refl
  where
    by : in_step access entry older ≡ 2 * in_step load entry older + in_step exchange entry older → (b : Bool) → is_step entry (event ◂ older) ≡ b
        → in_step access entry (event ◂ older) ≡ 2 * in_step load entry (event ◂ older) + in_step exchange entry (event ◂ older)
    by before true at = omega (arith, step-none access entry (event ◂ older) at, step-none load entry (event ◂ older) at, step-none exchange entry (event ◂ older) at)
    by before false under_way =
        let more : (kind : Kind) → in_step kind entry (event ◂ older) ≡ in_step kind entry older + kind event older =
        λ kind. ap (λ (b : Bool). cond b 0 (in_step kind entry older + kind event older)) under_way in
        omega (arith, before, more access, more load, more exchange)

-- what one kind may have in each step that is done, where the mark that ends a step is not of this kind
fits : (kind : Kind) (layout : Layout) (asked : ℕ → Option SecureInstruction) (most : ℕ → ℕ) → ((older : History) → kind (Note (Retire Secure)) older ≡ 0)
    → ((k : ℕ) (older : History) → FitsStep layout (asked k) older → in_step kind (enter_events layout) older ≤ most k)
    → (older : History) → AllStepsFit layout asked older → Each (HasAtMost kind (enter_events layout) most) older
fits kind layout asked most no_mark has older all =
    Each-weaker (StepFits layout asked) (HasAtMost kind (enter_events layout) most) (λ event before step done entered.
    let none : kind event before ≡ 0 = ap (λ (e : Event). kind e before) (is_retire-event event done) ∙ no_mark before in
    omega (arith, none, has (retired (in_order before)) before (step done entered))) older all.each

-- so many events of one kind there are at a boundary
at-boundary : (kind : Kind) (layout : Layout) (asked : ℕ → Option SecureInstruction) (most : ℕ → ℕ) → ((older : History) → kind (Note (Retire Secure)) older ≡ 0)
    → ((k : ℕ) (older : History) → FitsStep layout (asked k) older → in_step kind (enter_events layout) older ≤ most k)
    → (older : History) → AllStepsFit layout asked older → is_step (enter_events layout) older ≡ true
    → after_entering kind (enter_events layout) older ≤ sum_below most (retired (in_order older))
at-boundary kind layout asked most no_mark has older all at =
    omega (arith, at-most kind (enter_events layout) most older (fits kind layout asked most no_mark has older all), step-none kind (enter_events layout) older at)

-- ---- the bound

-- by plain numbers
sums-up : (entry k h log c s long loads removals exchanges reads marks suspensions : ℕ) → long ≤ entry + loads + removals + exchanges + reads + marks + suspensions + k
    → removals ≤ loads → 2 * loads + exchanges ≤ k * (4 * (h + 1)) → marks ≤ 3 * c → reads ≤ log * c → suspensions ≤ 16386 * s
    → long ≤ entry + k * (1 + 4 * (h + 1)) + (log + 40) * c + 16386 * s
sums-up entry k h log c s long loads removals exchanges reads marks suspensions all leaves accesses few read suspended =
    let a : k * (1 + 4 * (h + 1)) ≡ k + k * (4 * (h + 1)) = omega arith in
    let b : (log + 40) * c ≡ log * c + 40 * c = omega arith in
    omega (arith, all, leaves, accesses, few, read, suspended, a, b)

step-of : (layout : Layout) (older : History) → is_boundary (enter_events layout) older ≡ true → enter_events layout ≤ length (in_order older)
    → is_step (enter_events layout) older ≡ true
step-of layout older at entered =
    and_from (is_boundary (enter_events layout) older) (leb (enter_events layout) (length (in_order older))) at (le-leb (enter_events layout) (length (in_order older)) entered)

-- where entering is not over
short : (layout : Layout) (k c s long : ℕ) → long ≤ enter_events layout
    → long ≤ enter_events layout + k * (1 + 4 * (height_of layout + 1)) + (layout.log + 40) * c + 16386 * s
short layout k c s long less = omega (arith, less)

module _ (layout : Layout) (asked : ℕ → Option SecureInstruction) where
  paced-after : (older : History) → AllStepsFit layout asked older → LeavesNoMore (enter_events layout) older → enter_events layout ≤ length (in_order older)
      → is_step (enter_events layout) older ≡ true → IsPaced layout asked older
  paced-after older all leaves entered at =
      let whole = counted (enter_events layout) older entered in
      let k : ℕ = retired (in_order older) in
      let accesses : after_entering access (enter_events layout) older ≤ sum_below (λ j. 4 * (height_of layout + 1)) k =
      at-boundary access layout asked (λ j. 4 * (height_of layout + 1)) (λ before. refl)
      (λ j before step. omega (arith, step.accesses, step-access (enter_events layout) before)) older all at in
      let marks : after_entering check_mark (enter_events layout) older ≤ sum_below (λ j. cond (may_check (asked j)) 3 0) k =
      at-boundary check_mark layout asked (λ j. cond (may_check (asked j)) 3 0) (λ before. refl) (λ j before step. step.marks) older all at in
      let reads : after_entering check_read (enter_events layout) older ≤ sum_below (λ j. cond (may_check (asked j)) layout.log 0) k =
      at-boundary check_read layout asked (λ j. cond (may_check (asked j)) layout.log 0) (λ before. refl) (λ j before step. step.reads) older all at in
      let suspensions : after_entering suspended (enter_events layout) older ≤ sum_below (λ j. cond (suspends (asked j)) 16386 0) k =
      at-boundary suspended layout asked (λ j. cond (suspends (asked j)) 16386 0) (λ before. refl) (λ j before step. step.suspension) older all at in
      let enters : after_entering entering (enter_events layout) older ≤ sum_below (λ j. 0) k =
      at-boundary entering layout asked (λ j. 0) (λ before. refl) (λ j before step. omega (arith, step.entered)) older all at in
      let none : sum_below (λ j. 0) k ≡ 0 = sum-same 0 k ∙ times-zero k in
      record {
        bound = sums-up (enter_events layout) k (height_of layout) layout.log (asked_among may_check asked k) (asked_among suspends asked k) (length (in_order older))
            (after_entering load (enter_events layout) older) (after_entering removal (enter_events layout) older) (after_entering exchange (enter_events layout) older)
            (after_entering check_read (enter_events layout) older) (after_entering check_mark (enter_events layout) older) (after_entering suspended (enter_events layout) older)
            (omega (arith, whole.all, whole.retired, enters, none)) leaves.counts (omega (arith, accesses, whole.access, sum-same (4 * (height_of layout + 1)) k))
            (omega (arith, marks, sum-asked may_check asked 3 k)) (omega (arith, reads, sum-asked may_check asked layout.log k))
            (omega (arith, suspensions, sum-asked suspends asked 16386 k));
      }
    where
      times-zero : (n : ℕ) → n * 0 ≡ 0
      times-zero n = omega arith

  paced-at : (older : History) → AllStepsFit layout asked older → is_boundary (enter_events layout) older ≡ true → LeavesNoMore (enter_events layout) older
      → IsPaced layout asked older
  paced-at older all at leaves =
      elim (cases_lt (length (in_order older)) (enter_events layout)) [
        | inl below ↦ record {
          bound = short layout (retired (in_order older)) (asked_among may_check asked (retired (in_order older))) (asked_among suspends asked (retired (in_order older)))
              (length (in_order older)) (omega (arith, below));
        }
        | inr entered ↦ paced-after older all leaves entered (step-of layout older at entered)
      ]

  pub paced-boundaries : (older : History) → AtEach (is_boundary (enter_events layout)) (LeavesNoMore (enter_events layout)) older → AllStepsFit layout asked older
      → AtEach (is_boundary (enter_events layout)) (IsPaced layout asked) older
  paced-boundaries no_event leaves all =
      OnTrue_from (is_boundary (enter_events layout) no_event) (IsPaced layout asked no_event) (λ at. paced-at no_event all at (OnTrue_at at leaves))
  paced-boundaries (event ◂ older) leaves all = (
    paced-boundaries older leaves.0 (record { each = all.each.0 }),
    OnTrue_from (is_boundary (enter_events layout) (event ◂ older)) (IsPaced layout asked (event ◂ older)) (λ at. paced-at (event ◂ older) all at (OnTrue_at at leaves.1)),
  )

at-some : (test : History → Bool) (P : History → Type 0) (older : History) → AtEach (λ before. true) P older → AtEach test P older
at-some test P no_event each = OnTrue_from (test no_event) (P no_event) (λ at. each)
at-some test P (event ◂ older) each = (at-some test P older each.0, OnTrue_from (test (event ◂ older)) (P (event ◂ older)) (λ at. each.1))

pub steps-paced : StepsArePaced
steps-paced layout asked older leaves all = paced-boundaries layout asked older leaves all

pub resident-paced : ResidentStepsArePaced
resident-paced layout asked older only all =
    paced-boundaries layout asked older
    (at-some (is_boundary (enter_events layout)) (LeavesNoMore (enter_events layout)) older (leaving-paid (enter_events layout) older only)) all
