-- What is said of a history, along further events.
use Rattle.std.proofs.Common.{◌≡◌, ℕ, zero, suc, ◌+◌, ◌<◌, ◌≤◌, ◌==◌, ◌&&◌, ◌||◌, arith, Bool, true, false, cond, leb, List, [], ◌∷◌, ◌++◌, length, length-append, Option, Some, None, refl, sym, ap, ◌∙◌, subst}
use Rattle.std.specs.Prelude.{IsTrue, count_by, filter_map, option_to_list, sum, unwrap_or}
use Rattle.std.specs.Bool.{OnTrue}
use Rattle.std.specs.List.{cons_option, list_all, list_any}
use Rattle.std.proofs.lemmas.Bool.{and_parts, ne_eqb, or_parts}
use Rattle.std.proofs.lemmas.List.{append-nil, append_assoc}
use Rattle.std.proofs.lemmas.List.Elements.{filter_map-append}
use Rattle.std.proofs.lemmas.List.Sums.{sum_by-append, sum_by-cons}
use Rattle.regions.specs.declared.Layout.{Layout}
use Rattle.off_chip.specs.declared.Event.{Event}
use Rattle.off_chip.specs.declared.Event.TheVariants.{BlockRead, BlockWrite, WordRead, WordWrite, Note}
use Rattle.off_chip.specs.declared.Mark.TheVariants as marks
use Rattle.off_chip.specs.declared.Who.TheVariants.{Secure, Untrusted}
use Rattle.off_chip.specs.Boundaries.{enter_events, is_boundary, is_retire, is_step, is_suspend}
use Rattle.off_chip.specs.Epochs.{IsQuiet, is_passed, log_read, open_reads}
use Rattle.off_chip.specs.ExchangedWords.{bytes_sent, sent}
use Rattle.off_chip.specs.Histories.{History, ◌◂◌, followed, in_order, first_told, newest, since, AtEach, Each}
use Rattle.off_chip.proofs.MoreLemmas.{open_reads-more}
use Rattle.untrusted_run.specs.PhaseLaws.{IsOpenEvent}
use Rattle.bus_machine.specs.BusAccesses.{is_access_event, is_block_event}
use Rattle.aegis_machine.specs.Boundaries.{GoesOnFuelled, is_suspended, is_untrusted, suspension_told}
use Rattle.aegis_machine.specs.FuelTests.{HasFuel}

-- ---- each event, and each boundary

pub each-along : (P : Event → History → Type 0) (test : Event → Bool) → ((event : Event) (older : History) → test event ≡ true → P event older)
    → (older : History) (events : List Event) → list_all test events ≡ true → Each P older → Each P (followed older events)
each-along P test holds older [] all each = each
each-along P test holds older (event ∷ events) all each =
    let parts = and_parts (test event) (list_all test events) all in each-along P test holds (event ◂ older) events parts.1 (each, holds event older parts.0)

pub on-true : (b : Bool) (P : Type 0) → P → OnTrue b P
on-true true P holds = holds
on-true false P holds = tt

pub off-false : (b : Bool) (P : Type 0) → b ≡ false → OnTrue b P
off-false true P is = cc
off-false false P is = tt

pub one-more : (event : Event) (older : History) → length (in_order (event ◂ older)) ≡ length (in_order older) + 1
one-more event older = length-append (in_order older) (event ∷ [])

pub not-same : (n m : ℕ) → (n ≡ m → ⊥) → (n == m) ≡ false
not-same n m other = ne_eqb n m other

-- after entering an event that ends no instruction leads to no boundary
pub no-boundary : (entry : ℕ) (event : Event) (older : History) → entry ≤ length (in_order older) → is_retire event ≡ false → is_boundary entry (event ◂ older) ≡ false
no-boundary entry event older entered goes =
    ap (λ (b : Bool). b || is_retire event) (not-same (length (in_order (event ◂ older))) entry (λ same. let none : ⊥ = omega (arith, same, one-more event older, entered) in none))
    ∙ goes

pub no-step : (entry : ℕ) (event : Event) (older : History) → entry ≤ length (in_order older) → is_retire event ≡ false → is_step entry (event ◂ older) ≡ false
no-step entry event older entered goes = ap (λ (b : Bool). b && leb entry (length (in_order (event ◂ older)))) (no-boundary entry event older entered goes)

pub longer : (entry : ℕ) (event : Event) (older : History) → entry ≤ length (in_order older) → entry ≤ length (in_order (event ◂ older))
longer entry event older entered = omega (arith, one-more event older, entered)

pub longer-along : (entry : ℕ) (older : History) (events : List Event) → entry ≤ length (in_order older) → entry ≤ length (in_order (followed older events))
longer-along entry older [] entered = entered
longer-along entry older (event ∷ events) entered = longer-along entry (event ◂ older) events (longer entry event older entered)

pub steps-along : (entry : ℕ) (P : History → Type 0) (older : History) (events : List Event) → entry ≤ length (in_order older) → list_any is_retire events ≡ false
    → AtEach (is_step entry) P older → AtEach (is_step entry) P (followed older events)
steps-along entry P older [] entered none at = at
steps-along entry P older (event ∷ events) entered none at =
    let parts = or_parts (is_retire event) (list_any is_retire events) none in
    steps-along entry P (event ◂ older) events (longer entry event older entered) parts.1
    (at, off-false (is_step entry (event ◂ older)) (P (event ◂ older)) (no-step entry event older entered parts.0))

-- the history at the latest boundary is where the events of the step began
pub boundary-along : (entry : ℕ) (older : History) (events : List Event) → entry ≤ length (in_order older) → list_any is_retire events ≡ false
    → is_boundary entry older ≡ false → is_boundary entry (followed older events) ≡ false
boundary-along entry older [] entered none not = not
boundary-along entry older (event ∷ events) entered none not =
    let parts = or_parts (is_retire event) (list_any is_retire events) none in
    boundary-along entry (event ◂ older) events (longer entry event older entered) parts.1 (no-boundary entry event older entered parts.0)

-- ---- fuel

module _ (layout : Layout) (fuel : ℕ) where
  abbrev Fuelled : Event → History → Type 0
  Fuelled event older = GoesOnFuelled layout fuel event older

  fuelled-later : (older : History) (events : List Event) → enter_events layout ≤ length (in_order older) → list_any is_retire events ≡ false
      → is_boundary (enter_events layout) older ≡ false → Each Fuelled older → Each Fuelled (followed older events)
  fuelled-later older [] entered none not each = each
  fuelled-later older (event ∷ events) entered none not each =
      let parts = or_parts (is_retire event) (list_any is_retire events) none in
      fuelled-later (event ◂ older) events (longer (enter_events layout) event older entered) parts.1 (no-boundary (enter_events layout) event older entered parts.0)
      (each, off-false (is_boundary (enter_events layout) older) (HasFuel layout fuel (length (in_order older))) not)

  pub fuelled-along : (older : History) (events : List Event) → enter_events layout ≤ length (in_order older) → list_any is_retire events ≡ false
      → HasFuel layout fuel (length (in_order older)) → Each Fuelled older → Each Fuelled (followed older events)
  fuelled-along older [] entered none has each = each
  fuelled-along older (event ∷ events) entered none has each =
      let parts = or_parts (is_retire event) (list_any is_retire events) none in
      fuelled-later (event ◂ older) events (longer (enter_events layout) event older entered) parts.1 (no-boundary (enter_events layout) event older entered parts.0)
      (each, on-true (is_boundary (enter_events layout) older) (HasFuel layout fuel (length (in_order older))) has)

  pub fuelled-at : (older : History) (events : List Event) (event : Event) → enter_events layout ≤ length (in_order older) → list_any is_retire events ≡ false
      → HasFuel layout fuel (length (in_order older)) → Fuelled event (followed older events)
  fuelled-at older [] event entered none has = on-true (is_boundary (enter_events layout) older) (HasFuel layout fuel (length (in_order older))) has
  fuelled-at older (first ∷ events) event entered none has =
      let parts = or_parts (is_retire first) (list_any is_retire events) none in
      off-false (is_boundary (enter_events layout) (followed (first ◂ older) events)) (HasFuel layout fuel (length (in_order (followed (first ◂ older) events))))
      (boundary-along (enter_events layout) (first ◂ older) events (longer (enter_events layout) first older entered) parts.1 (no-boundary (enter_events layout) first older entered parts.0))

-- ---- counts

pub count-append : (test : Event → Bool) (events more : List Event) → count_by test (events ++ more) ≡ count_by test events + count_by test more
count-append test events more = sum_by-append (λ (e : Event). cond (test e) 1 0) events more

pub count-cons : (test : Event → Bool) (event : Event) (events : List Event) → count_by test (event ∷ events) ≡ cond (test event) 1 0 + count_by test events
count-cons test event events = sum_by-cons (λ (e : Event). cond (test e) 1 0) event events

pub sent-append : (events more : List Event) → bytes_sent (events ++ more) ≡ bytes_sent events + bytes_sent more
sent-append events more = ap (λ (ns : List ℕ). sum ns) (filter_map-append sent events more) ∙ sum_by-append (λ (n : ℕ). n) (filter_map sent events) (filter_map sent more)

-- ---- events that count nothing: no bytes are sent, no check passes, and no suspension begins or ends

pub record IsCalm (event : Event) : Type 0 where
  pub sent : sent event ≡ None
  pub passed : is_passed event ≡ false
  pub suspend : is_suspend event ≡ false
  pub told : suspension_told event ≡ None
  pub goes : is_retire event ≡ false

abbrev pub AllCalm : List Event → Type 0
AllCalm [] = Unit {0}
AllCalm (event ∷ events) = IsCalm event × AllCalm events

pub calm-both : (events more : List Event) → AllCalm events → AllCalm more → AllCalm (events ++ more)
calm-both [] more all rest = rest
calm-both (event ∷ events) more all rest = (all.0, calm-both events more all.1 rest)

pub calm-access : (event : Event) → is_access_event event ≡ true → IsCalm event
calm-access (BlockRead at block) is = record { sent = refl; passed = refl; suspend = refl; told = refl; goes = refl }
calm-access (BlockWrite at block) is = record { sent = refl; passed = refl; suspend = refl; told = refl; goes = refl }
calm-access (WordRead by at word) is = record { sent = refl; passed = refl; suspend = refl; told = refl; goes = refl }
calm-access (WordWrite by at word) is = record { sent = refl; passed = refl; suspend = refl; told = refl; goes = refl }
calm-access (Note (marks.Drop at)) is = record { sent = refl; passed = refl; suspend = refl; told = refl; goes = refl }
calm-access (Note mark) is = let e : false ≡ true = is in cc

pub calm-accesses : (events : List Event) → list_all is_access_event events ≡ true → AllCalm events
calm-accesses [] all = tt
calm-accesses (event ∷ events) all =
    let parts = and_parts (is_access_event event) (list_all is_access_event events) all in (calm-access event parts.0, calm-accesses events parts.1)

pub block-access : (event : Event) → is_block_event event ≡ true → is_access_event event ≡ true
block-access (BlockRead at block) is = refl
block-access (BlockWrite at block) is = refl
block-access (WordRead by at word) is = let e : false ≡ true = is in cc
block-access (WordWrite by at word) is = let e : false ≡ true = is in cc
block-access (Note (marks.Drop at)) is = refl
block-access (Note mark) is = is

pub blocks-access : (events : List Event) → list_all is_block_event events ≡ true → list_all is_access_event events ≡ true
blocks-access [] all = refl
blocks-access (event ∷ events) all =
    let parts = and_parts (is_block_event event) (list_all is_block_event events) all in
    ap (λ (b : Bool). b && list_all is_access_event events) (block-access event parts.0) ∙ blocks-access events parts.1

pub calm-untrusted : (event : Event) → is_untrusted event ≡ true → IsCalm event
calm-untrusted (BlockRead at block) is = let e : false ≡ true = is in cc
calm-untrusted (BlockWrite at block) is = let e : false ≡ true = is in cc
calm-untrusted (WordRead by at word) is = record { sent = refl; passed = refl; suspend = refl; told = refl; goes = refl }
calm-untrusted (WordWrite by at word) is = record { sent = refl; passed = refl; suspend = refl; told = refl; goes = refl }
calm-untrusted (Note (marks.Retire Untrusted)) is = record { sent = refl; passed = refl; suspend = refl; told = refl; goes = refl }
calm-untrusted (Note mark) is = let e : false ≡ true = is in cc

pub calm-untrusted-all : (events : List Event) → list_all is_untrusted events ≡ true → AllCalm events
calm-untrusted-all [] all = tt
calm-untrusted-all (event ∷ events) all =
    let parts = and_parts (is_untrusted event) (list_all is_untrusted events) all in (calm-untrusted event parts.0, calm-untrusted-all events parts.1)

pub calm-goes : (events : List Event) → AllCalm events → list_any is_retire events ≡ false
calm-goes [] all = refl
calm-goes (event ∷ events) all = ap (λ (b : Bool). b || list_any is_retire events) all.0.goes ∙ calm-goes events all.1

pub calm-sent : (events : List Event) → AllCalm events → bytes_sent events ≡ 0
calm-sent [] all = refl
calm-sent (event ∷ events) all =
    let e : bytes_sent (event ∷ events) ≡ bytes_sent (event ∷ []) + bytes_sent events = sent-append (event ∷ []) events in
    let f : bytes_sent (event ∷ []) ≡ 0 = ap (λ (o : Option ℕ). sum (cons_option o [])) all.0.sent in
    let g : bytes_sent events ≡ 0 = calm-sent events all.1 in omega (arith, e, f, g)

pub calm-count : (test : Event → Bool) → ((event : Event) → IsCalm event → test event ≡ false) → (events : List Event) → AllCalm events → count_by test events ≡ 0
calm-count test none [] all = refl
calm-count test none (event ∷ events) all =
    let e : count_by test (event ∷ events) ≡ 0 + count_by test events = count-cons test event events ∙ ap (λ (b : Bool). cond b 1 0 + count_by test events) (none event all.0) in
    let f : count_by test events ≡ 0 = calm-count test none events all.1 in omega (arith, e, f)

pub calm-suspended : (older : History) (events : List Event) → AllCalm events → is_suspended (followed older events) ≡ is_suspended older
calm-suspended older [] all = refl
calm-suspended older (event ∷ events) all =
    calm-suspended (event ◂ older) events all.1
    ∙ ap (λ (o : Option Bool). unwrap_or (first_told o (newest (λ event _. suspension_told event) older)) false) all.0.told

pub calm-since : (older : History) (events : List Event) → AllCalm events → since is_suspend (followed older events) ≡ since is_suspend older ++ events
calm-since older [] all = sym (append-nil (since is_suspend older))
calm-since older (event ∷ events) all =
    calm-since (event ◂ older) events all.1
    ∙ ap (λ (b : Bool). cond b [] (since is_suspend older ++ event ∷ []) ++ events) all.0.suspend
    ∙ append_assoc (since is_suspend older) (event ∷ []) events

-- ---- quiet epochs

none-before : {T : Type 0} (first more : List T) → first ++ more ≡ [] → first ≡ []
none-before [] more is = refl
none-before (x ∷ first) more is = cc

pub quiet-before : (event : Event) (older : History) → is_passed event ≡ false → IsQuiet (event ◂ older) → IsQuiet older
quiet-before event older not quiet = record {
  nothing = none-before (open_reads older) (option_to_list (log_read event))
      (sym (open_reads-more event older ∙ ap (λ (b : Bool). cond b [] (open_reads older ++ option_to_list (log_read event))) not) ∙ quiet.nothing);
}

pub calm-quiet : (older : History) (events : List Event) → AllCalm events → IsQuiet (followed older events) → IsQuiet older
calm-quiet older [] all quiet = quiet
calm-quiet older (event ∷ events) all quiet = quiet-before event older all.0.passed (calm-quiet (event ◂ older) events all.1 quiet)
