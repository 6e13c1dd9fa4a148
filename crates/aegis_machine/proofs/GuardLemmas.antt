-- What follows a step of a machine.
use Rattle.std.proofs.Common.{◌≡◌, ℕ, ◌+◌, ◌*◌, ◌%◌, ◌^◌, ◌<◌, ◌≤◌, Bool, true, false, is_some, List, [], ◌∷◌, ◌++◌, length, length-append, Option, Some, None, Result, Ok, Err, refl, sym, ap, ◌∙◌, subst, arith, inl, inr}
use Rattle.std.specs.Prelude.{◌≢◌, ◌==◌, IfErr, IsTrue, OnOk}
use Rattle.std.specs.List.{All, list_all, list_any}
use Rattle.std.proofs.lemmas.Bool.{and_parts, or_from}
use Rattle.std.proofs.lemmas.Bool.Decides.{nat_tests}
use Rattle.std.proofs.lemmas.List.{append_assoc, append-nil}
use Rattle.std.proofs.lemmas.List.Elements.{All-head, All-tail}
use Rattle.std.proofs.lemmas.List.Folds.{list_any-append}
use Rattle.aegis_edge.specs.Sink.{Appends, IsWithin, limit_after}
use Rattle.regions.specs.declared.Layout.{Layout}
use Rattle.regions.specs.declared.Mode.{Mode}
use Rattle.regions.specs.declared.Mode.TheVariants.{Std, Te, Ptr, Ssp}
use Rattle.regions.specs.Modes.{is_secure}
use Rattle.off_chip.specs.declared.Event.{Event}
use Rattle.off_chip.specs.declared.Event.TheVariants.{BlockRead, BlockWrite, Note, WordRead, WordWrite}
use Rattle.off_chip.specs.declared.Mark.TheVariants as mark
use Rattle.off_chip.specs.declared.Mark.TheVariants.{Retire}
use Rattle.off_chip.specs.declared.Who.TheVariants.{Secure, Untrusted}
use Rattle.off_chip.specs.Boundaries.{is_retire}
use Rattle.off_chip.specs.Epochs.{IsQuiet}
use Rattle.off_chip.specs.Histories.{History, history}
use Rattle.orbis_word.specs.declared.Instr.{Instr}
use Rattle.orbis_word.specs.Reading.{instruction_in}
use Rattle.orbis_core.specs.declared.Effect.{Effect}
use Rattle.orbis_core.specs.declared.Effect.TheVariants as effect
use Rattle.orbis_core.specs.declared.StepEnd.{StepEnd}
use Rattle.orbis_core.specs.declared.StepEnd.TheVariants as end
use Rattle.orbis_core.specs.declared.Stop.{Stop}
use Rattle.orbis_core.specs.declared.Stop.TheVariants as stop
use Rattle.orbis_core.specs.declared.Why.TheVariants as why
use Rattle.orbis_core.specs.Accesses.{Accesses, LeaveOneFewer}
use Rattle.orbis_core.specs.Effects.{effect_of}
use Rattle.orbis_core.specs.OwnMemory.{is_permitted, secure_of_end}
use Rattle.orbis_core.specs.Rows.{Machine, Carries, Executes, GoesOnAfter, IsNoStop, IsSettledEnd, Steps, end_after}
use Rattle.orbis_core.proofs.LeftLemmas.{steps-leave-fewer}
use Rattle.stamp_log.specs.declared.LogCause.{LogCause}
use Rattle.untrusted_run.specs.PhaseLaws.{IsOpenEvent}
use Rattle.untrusted_run.proofs.LawLemmas.{phases-open}
use Rattle.bus_machine.specs.BusAccesses.{Makes, MeetsBus, Sight, is_block_event}
use Rattle.bus_machine.specs.BusData.{most_held}
use Rattle.bus_machine.specs.BusMachine.{LoadedProgram, Veil, blocks_taken}
use Rattle.bus_machine.proofs.BusStepLemmas.{step-on-bus}
use Rattle.bus_machine.proofs.SegmentLemmas.{taken-append}
use Rattle.aegis_machine.specs.declared.instructions.Done.{Done}
use Rattle.aegis_machine.specs.declared.instructions.Done.TheVariants as done
use Rattle.aegis_machine.specs.declared.instructions.Fault.{Fault}
use Rattle.aegis_machine.specs.declared.instructions.Fault.TheVariants as fault
use Rattle.aegis_machine.specs.Follows.{Comes, Finishes, Follows}
use Rattle.aegis_machine.specs.Guards.{Leads, LeadsOn, PassesCheck, SetsPrivate, Suspends, room_after, set_from}
use Rattle.aegis_machine.specs.InstructionsDone.{ComesAfter, DoesSo, HandsOut, IsCheck, IsDone, IsMade, IsStoppedSo, IsSuspension, Releases, Settles, makes_check}
use Rattle.aegis_machine.specs.Outcomes.{LeavesTied, TakesMore, done_of, done_stopped}
use Rattle.aegis_machine.specs.Releases.{mark_sent}
use Rattle.aegis_machine.specs.Ties.{IsTied, Retires, StandsAfter, end_of}
use Rattle.aegis_machine.proofs.LogEvents.{log-blocks}
use Rattle.aegis_machine.proofs.TieLemmas.{steps-tied}

-- ---- events that follow one another

module _ {M : Type 0} (sight : Sight M) where
  pub leads-both : (first more : List Event) (a b c : M) → Leads sight first a b → Leads sight more b c → Leads sight (first ++ more) a c
  leads-both first more a b c one two =
      let taken : (memory : ℕ → ℕ) → blocks_taken (sight.layout b) (sight.veil b) more (blocks_taken (sight.layout a) (sight.veil a) first memory)
      ≡ blocks_taken (sight.layout a) (sight.veil a) (first ++ more) memory =
      λ memory.
      ap (λ (l : Layout). blocks_taken l (sight.veil b) more (blocks_taken (sight.layout a) (sight.veil a) first memory)) one.layout
      ∙ ap (λ (v : Veil). blocks_taken (sight.layout a) v more (blocks_taken (sight.layout a) (sight.veil a) first memory)) one.veil
      ∙ sym (taken-append (sight.layout a) (sight.veil a) first more memory) in
      record {
        trace = two.trace ∙ ap (λ (t : List Event). t ++ more) one.trace ∙ append_assoc (sight.trace a) first more;
        layout = two.layout ∙ one.layout;
        veil = two.veil ∙ one.veil;
        data_stays = λ memory at below.
            ap (λ (m : ℕ → ℕ). m at) (sym (taken memory))
            ∙ two.data_stays (blocks_taken (sight.layout a) (sight.veil a) first memory) at below ∙ one.data_stays memory at below;
        agrees = λ memory agrees.
            let P : (ℕ → ℕ) → Type 0 = λ m. sight.Agrees c m in
            subst P (taken memory) (two.agrees (blocks_taken (sight.layout a) (sight.veil a) first memory) (one.agrees memory agrees));
      }

  leads-none : (a : M) → Leads sight [] a a
  leads-none a = record { trace = sym (append-nil (sight.trace a)); layout = refl; veil = refl; data_stays = λ memory at below. refl; agrees = λ memory agrees. agrees }

  leads-make : (events : List Event) (a b : M) → LeadsOn sight events a b → Makes sight events a b
  leads-make events a b leads = record { trace = leads.leads.trace; layout = leads.leads.layout; veil = leads.leads.veil; mode = leads.mode }

-- ---- what comes after a step ends no instruction

blocks-go-on : (events : List Event) → list_all is_block_event events ≡ true → list_any is_retire events ≡ false
blocks-go-on [] blocks = refl
blocks-go-on (event ∷ events) blocks =
    let parts = and_parts (is_block_event event) (list_all is_block_event events) blocks in
    or_from (is_retire event) (list_any is_retire events) (block-goes-on event parts.0) (blocks-go-on events parts.1)
  where
    block-goes-on : (event : Event) → is_block_event event ≡ true → is_retire event ≡ false
    block-goes-on (BlockRead at block) is = refl
    block-goes-on (BlockWrite at block) is = refl
    block-goes-on (WordRead by at word) is = refl
    block-goes-on (WordWrite by at word) is = refl
    block-goes-on (Note (mark.Retire by)) is = cc
    block-goes-on (Note (mark.Sent count)) is = refl
    block-goes-on (Note mark.Enter) is = refl
    block-goes-on (Note (mark.Drop at)) is = refl
    block-goes-on (Note mark.CheckStart) is = refl
    block-goes-on (Note mark.CheckPassed) is = refl
    block-goes-on (Note mark.Suspend) is = refl
    block-goes-on (Note mark.Resume) is = refl

opens-go-on : (events : List Event) → All IsOpenEvent events → list_any is_retire events ≡ false
opens-go-on [] opens = refl
opens-go-on (event ∷ events) opens =
    or_from (is_retire event) (list_any is_retire events) (open-goes-on event (All-head IsOpenEvent event events opens)) (opens-go-on events (All-tail IsOpenEvent event events opens))
  where
    open-goes-on : (event : Event) → IsOpenEvent event → is_retire event ≡ false
    open-goes-on (WordRead by at word) is = refl
    open-goes-on (WordWrite by at word) is = refl
    open-goes-on (Note (mark.Retire Untrusted)) is = refl
    open-goes-on (Note (mark.Retire Secure)) is = absurd is
    open-goes-on (BlockRead at block) is = refl
    open-goes-on (BlockWrite at block) is = refl
    open-goes-on (Note (mark.Sent count)) is = refl
    open-goes-on (Note mark.Enter) is = refl
    open-goes-on (Note (mark.Drop at)) is = refl
    open-goes-on (Note mark.CheckStart) is = refl
    open-goes-on (Note mark.CheckPassed) is = refl
    open-goes-on (Note mark.Suspend) is = refl
    open-goes-on (Note mark.Resume) is = refl

both-go-on : (first more : List Event) → list_any is_retire first ≡ false → list_any is_retire more ≡ false → list_any is_retire (first ++ more) ≡ false
both-go-on first more one two = list_any-append is_retire first more ∙ or_from (list_any is_retire first) (list_any is_retire more) one two

same-go-on : (events other : List Event) → events ≡ other → list_any is_retire other ≡ false → list_any is_retire events ≡ false
same-go-on events other same goes = ap (λ (l : List Event). list_any is_retire l) same ∙ goes

sent-goes-on : (held : List ℕ) → list_any is_retire (mark_sent held) ≡ false
sent-goes-on [] = refl
sent-goes-on (byte ∷ held) = refl

check-goes-on : (events : List Event) → IsCheck events → list_any is_retire events ≡ false
check-goes-on events check =
    same-go-on events (Note mark.CheckStart ∷ (check.middle ++ Note mark.CheckPassed ∷ [])) check.events_are
    (both-go-on check.middle (Note mark.CheckPassed ∷ []) (blocks-go-on check.middle (log-blocks check.middle check.blocks)) refl)

settles-go-on : (held : List ℕ) (events : List Event) (kept piece : List ℕ) → Settles held events kept piece → list_any is_retire events ≡ false
settles-go-on held events kept piece settles =
    same-go-on events (settles.checked ++ mark_sent held) settles.events_are
    (both-go-on settles.checked (mark_sent held) (check-goes-on settles.checked settles.check) (sent-goes-on held))

releases-go-on : (older : History) (byte : ℕ) (held : List ℕ) (events : List Event) (kept piece : List ℕ) → Releases older byte held events kept piece → list_any is_retire events ≡ false
releases-go-on older byte held events kept piece (Releases.at_once quiet none same left handed) = same-go-on events (mark_sent (byte ∷ [])) same refl
releases-go-on older byte held events kept piece (Releases.waits waits few same left handed) = same-go-on events [] same refl
releases-go-on older byte held events kept piece (Releases.fills waits full settles) = settles-go-on (held ++ byte ∷ []) events kept piece settles

suspension-goes-on : (events : List Event) → IsSuspension events → list_any is_retire events ≡ false
suspension-goes-on events is =
    same-go-on events (Note mark.Suspend ∷ (is.phase ++ Note mark.Resume ∷ [])) is.events_are
    (both-go-on is.phase (Note mark.Resume ∷ []) (opens-go-on is.phase (phases-open.events is.phase is.end is.untrusted)) refl)

comes-go-on : (ended : StepEnd) (older : History) (held : List ℕ) (events : List Event) (kept piece : List ℕ) → ComesAfter ended older held events kept piece → list_any is_retire events ≡ false
comes-go-on (end.Released byte) older held events kept piece comes = releases-go-on older (byte % 2 ^ 8) held events kept piece comes
comes-go-on end.Check older held events kept piece comes = settles-go-on held events kept piece comes
comes-go-on end.Exit older held events kept piece comes = settles-go-on held events kept piece comes
comes-go-on (end.Index place) older held events kept piece comes = settles-go-on held events kept piece comes
comes-go-on (end.Divide place) older held events kept piece comes = settles-go-on held events kept piece comes
comes-go-on end.Suspend older held events kept piece comes = suspension-goes-on events comes.0
comes-go-on ended older held events kept piece comes = same-go-on events [] comes.0 refl

-- where the step was that of no secure instruction, nothing comes
comes-none : (ended : StepEnd) (older : History) (held : List ℕ) (events : List Event) (kept piece : List ℕ) → is_some (secure_of_end ended) ≡ false
    → ComesAfter ended older held events kept piece → events ≡ []
comes-none (end.Released byte) older held events kept piece not comes = cc
comes-none end.Check older held events kept piece not comes = cc
comes-none end.Exit older held events kept piece not comes = cc
comes-none (end.Index place) older held events kept piece not comes = cc
comes-none (end.Divide place) older held events kept piece not comes = cc
comes-none end.Suspend older held events kept piece not comes = cc
comes-none ended older held events kept piece not comes = comes.0

-- ---- what comes, by the function that makes it come

low-byte : (byte : ℕ) → byte < 2 ^ 8 → byte % 2 ^ 8 ≡ byte
low-byte byte less = omega (arith, less)

module _ {M : Type 0} (sight : Sight M) (Caused : LogCause → M → Type 0) where
  -- what is told of the events may be told otherwise
  comes-as : (due other_due : Bool) (Tells Other : List Event → List ℕ → List ℕ → Type 0) (becomes : Mode → Mode) (result : Result (Unit {0}) Fault) (kept piece : List ℕ) (a b : M)
      → (due ≡ true → other_due ≡ true) → ((events : List Event) (left sent : List ℕ) → Tells events left sent → Other events left sent)
      → Comes sight Caused due Tells becomes result kept piece a b → Comes sight Caused other_due Other becomes result kept piece a b
  comes-as due other_due Tells Other becomes (Ok nothing) kept piece a b is_due as' comes = (comes.0, as' comes.0 kept piece comes.1, comes.2, comes.3)
  comes-as due other_due Tells Other becomes (Err (fault.Log cause)) kept piece a b is_due as' comes = (comes.0, comes.1, is_due comes.2)
  comes-as due other_due Tells Other becomes (Err fault.Sink) kept piece a b is_due as' comes = (comes.0, comes.1, as' comes.0 comes.1 piece comes.2, comes.3)

  -- a piece is sent, or the sink does not take it
  comes-sent : (due : Bool) (Tells : List Event → List ℕ → List ℕ → Type 0) (result : Result (Unit {0}) Fault) (events : List Event) (kept piece : List ℕ) (a b : M)
      → IfErr result (λ reason. reason ≡ fault.Sink) → Tells events kept piece → LeadsOn sight events a b → Comes sight Caused due Tells (λ mode. mode) result kept piece a b
  comes-sent due Tells (Ok nothing) events kept piece a b fault tells leads = (events, tells, leads.leads, leads.mode)
  comes-sent due Tells (Err (fault.Log cause)) events kept piece a b fault tells leads = cc
  comes-sent due Tells (Err fault.Sink) events kept piece a b fault tells leads = (events, kept, tells, leads-make sight events a b leads)

  -- a check passes, and then what is held is sent
  pub comes-settled : (result : Result (Unit {0}) Fault) (held kept : List ℕ) (a b c : M) → PassesCheck sight a b → LeadsOn sight (mark_sent held) b c
      → IfErr result (λ reason. reason ≡ fault.Sink) → kept ≡ [] → Comes sight Caused true (Settles held) (λ mode. mode) result kept held a c
  comes-settled result held kept a b c passes sent fault none =
      comes-sent true (Settles held) result (passes.events ++ mark_sent held) kept held a c fault
      (record { checked = passes.events; check = passes.check; events_are = refl; none = none; handed = refl })
      (record { leads = leads-both sight passes.events (mark_sent held) a b c passes.leads_on.leads sent.leads; mode = sent.mode ∙ passes.leads_on.mode })

  -- a byte is released
  module _ (byte : ℕ) (held now : List ℕ) (less : byte < 2 ^ 8) (is : now ≡ held ++ byte ∷ []) where
    abbrev Release : M → List Event → List ℕ → List ℕ → Type 0
    Release a = Releases (history (sight.trace a)) (byte % 2 ^ 8) held

    abbrev fills_up : Bool
    fills_up = length held + 1 == most_held

    with-low : now ≡ held ++ byte % 2 ^ 8 ∷ []
    with-low = is ∙ ap (λ (n : ℕ). held ++ n ∷ []) (sym (low-byte byte less))

    one-more : length now ≡ length held + 1
    one-more = ap (λ (l : List ℕ). length l) is ∙ length-append held (byte ∷ [])

    full-due : length now ≡ most_held → fills_up ≡ true
    full-due full = let e : length held + 1 ≡ most_held = sym one-more ∙ full in grind (arith, nat_tests, e)

    pub comes-at-once : (result : Result (Unit {0}) Fault) (kept : List ℕ) (a b : M) → IsQuiet (history (sight.trace a)) → held ≡ [] → LeadsOn sight (mark_sent now) a b
        → IfErr result (λ reason. reason ≡ fault.Sink) → kept ≡ [] → Comes sight Caused fills_up (Release a) (λ mode. mode) result kept now a b
    comes-at-once result kept a b quiet nothing sent fault none =
        let same : now ≡ byte % 2 ^ 8 ∷ [] = with-low ∙ ap (λ (l : List ℕ). l ++ byte % 2 ^ 8 ∷ []) nothing in
        comes-sent fills_up (Release a) result (mark_sent now) kept now a b fault
        (Releases.at_once quiet nothing (ap (λ (l : List ℕ). mark_sent l) same) none same) sent

    pub comes-held : (a : M) → (held ≡ [] → IsQuiet (history (sight.trace a)) → ⊥) → length held < most_held → length now ≢ most_held
        → Comes sight Caused fills_up (Release a) (λ mode. mode) (Ok tt) now [] a a
    comes-held a waits few not = ([], Releases.waits waits (omega (arith, one-more, few, not)) refl with-low refl, leads-none sight a, refl)

    pub comes-filled : (result : Result (Unit {0}) Fault) (kept piece : List ℕ) (a b : M) → (held ≡ [] → IsQuiet (history (sight.trace a)) → ⊥) → length now ≡ most_held
        → Comes sight Caused true (Settles now) (λ mode. mode) result kept piece a b → Comes sight Caused fills_up (Release a) (λ mode. mode) result kept piece a b
    comes-filled result kept piece a b waits full =
        comes-as true fills_up (Settles now) (Release a) (λ mode. mode) result kept piece a b (λ due. full-due full)
        (λ events left sent settles. Releases.fills waits (sym one-more ∙ full) (subst (λ (l : List ℕ). Settles l events left sent) with-low settles))

  pub follows-released : (byte : ℕ) (result : Result (Unit {0}) Fault) (held kept piece : List ℕ) (a b : M)
      → Comes sight Caused (length held + 1 == most_held) (Releases (history (sight.trace a)) (byte % 2 ^ 8) held) (λ mode. mode) result kept piece a b
      → Follows sight Caused (end.Released byte) result held kept piece a b
  follows-released byte result held kept piece a b comes =
      comes-as (length held + 1 == most_held) (makes_check (end.Released byte) (length held)) (Releases (history (sight.trace a)) (byte % 2 ^ 8) held)
      (ComesAfter (end.Released byte) (history (sight.trace a)) held) (λ mode. mode) result kept piece a b (λ due. due) (λ events left sent releases. releases) comes

  -- the program is suspended
  pub follows-suspended : (held : List ℕ) (a b : M) → Suspends sight a b → Follows sight Caused end.Suspend (Ok tt) held held [] a b
  follows-suspended held a b suspends = (suspends.events, (suspends.suspension, (refl, refl)), suspends.leads_on.leads, suspends.leads_on.mode)

  -- private data is opened or closed
  pub follows-private : (on : Bool) (held : List ℕ) (a b : M) → SetsPrivate sight on a b → Follows sight Caused (end.Private on) (Ok tt) held held [] a b
  follows-private true held a b sets = ([], (refl, (refl, refl)), sets.leads, sets.mode)
  follows-private false held a b sets = ([], (refl, (refl, refl)), sets.leads, sets.mode)

  -- and then the mark
  pub finishes : (ended : StepEnd) (held kept piece : List ℕ) (a b c : M) → Follows sight Caused ended (Ok tt) held kept piece a b → LeadsOn sight (Note (Retire Secure) ∷ []) b c
      → Finishes sight Caused ended (Ok tt) held kept piece a c
  finishes ended held kept piece a b c follows marked = (
    follows.0,
    follows.1,
    record {
      trace = marked.leads.trace ∙ ap (λ (t : List Event). t ++ Note (Retire Secure) ∷ []) follows.2.trace ∙ append_assoc (sight.trace a) follows.0 (Note (Retire Secure) ∷ []);
      layout = marked.leads.layout ∙ follows.2.layout;
      veil = marked.leads.veil ∙ follows.2.veil;
      mode = marked.mode ∙ follows.3;
      others = comes-go-on ended (history (sight.trace a)) held follows.0 kept piece follows.1;
      none = λ not. comes-none ended (history (sight.trace a)) held follows.0 kept piece not follows.1;
      data_stays = follows.2.data_stays;
      agrees = λ memory agrees. marked.leads.agrees _ (follows.2.agrees memory agrees);
    },
  )

-- ---- what the sink takes

-- nothing is sent
pub hands-none : (written : Option (List ℕ)) (faults : ℕ) (limit : Option ℕ) → HandsOut done.Goes written written faults faults limit limit []
hands-none written faults limit = (appends-none written, refl, limit-none limit)
  where
    appends-none : (written : Option (List ℕ)) → Appends written written []
    appends-none None = refl
    appends-none (Some bytes) = ap (λ (l : List ℕ). Some l) (sym (append-nil bytes))

    limit-none : (limit : Option ℕ) → limit ≡ limit_after limit 0
    limit-none None = refl
    limit-none (Some left) = ap (λ (n : ℕ). Some n) (omega arith)

-- ---- the sink takes what is held

pub within-of : (limit : Option ℕ) (count : ℕ) (piece : List ℕ) → TakesMore limit count → length piece ≤ count → IsWithin limit piece
within-of None count piece takes few = tt
within-of (Some left) count piece takes few = omega (arith, takes, few)

-- ---- the room after a step

module _ {M : Type 0} (accesses : Accesses M) (ready : M → Type 0) (room : M → ℕ)
    (spends : LeaveOneFewer accesses (λ (memory : M) (n : ℕ). ready memory × (160 * n ≤ room memory))) (old new : Machine M) where
  left-after : (ended : StepEnd) → IsSettledEnd ended → Steps accesses old ended new → ready old.memory → 16640 ≤ room old.memory → ready new.memory × (160 * 102 ≤ room new.memory)
  left-after ended settled step is much =
      steps-leave-fewer accesses (λ (memory : M) (n : ℕ). ready memory × (160 * n ≤ room memory)) (λ memory n more. (more.0, omega (arith, more.1))) spends old new ended step settled 102
      (is, omega (arith, much))

  suspend-next : end.Suspend ≡ end.Next → ⊥
  suspend-next is = let e : true ≡ false = ap (λ (x : StepEnd). is_some (secure_of_end x)) is in cc

  suspend-stopped : (reason : Stop) → end.Suspend ≡ end.Stopped reason → ⊥
  suspend-stopped reason is = let e : true ≡ false = ap (λ (x : StepEnd). is_some (secure_of_end x)) is in cc

  suspend-after : {T : Type 0} (answer : Result T Stop) → end.Suspend ≡ end_after answer → ⊥
  suspend-after (Ok value) is = suspend-next is
  suspend-after (Err reason) is = suspend-stopped reason is

  suspend-row : (middle : M) (asked : Effect) → Carries accesses asked (record old { memory = middle }) end.Suspend new → new.memory ≡ middle
  suspend-row middle effect.Proceed row = row.memory
  suspend-row middle (effect.Write d value) row = row.memory
  suspend-row middle (effect.Compare flag) row = row.memory
  suspend-row middle (effect.Jump target) row = row.memory
  suspend-row middle (effect.Link target) row = row.memory
  suspend-row middle effect.DivideByZero row = row.memory
  suspend-row middle (effect.LoadWord d at) row = absurd (suspend-after row.answer row.ends)
  suspend-row middle (effect.LoadByte d at) row = absurd (suspend-after row.answer row.ends)
  suspend-row middle (effect.StoreWord at value) row = absurd (suspend-after row.answer row.ends)
  suspend-row middle (effect.StoreByte at byte) row = absurd (suspend-after row.answer row.ends)
  suspend-row middle (effect.Secure f) row = row.memory

  suspend-word : (middle : M) (found : Option Instr) → Executes accesses found (record old { memory = middle }) end.Suspend new → new.memory ≡ middle
  suspend-word middle None row = row.memory
  suspend-word middle (Some instruction) row = suspend-row middle (effect_of instruction old.core) row

  -- the fetch alone used room
  suspend-room : (answer : Result ℕ Stop) (middle : M) → accesses.fetch old.memory old.core.pc answer middle
      → GoesOnAfter accesses answer (record old { memory = middle }) end.Suspend new → ready old.memory → 16640 ≤ room old.memory → 16387 ≤ room new.memory
  suspend-room (Ok word) middle fetched goes_on is much =
      let left : 160 * 103 ≤ room middle = (spends.fetch old.memory middle old.core.pc (Ok word) fetched tt 103 (is, omega (arith, much))).1 in
      let same : room new.memory ≡ room middle = ap (λ (m : M). room m) (suspend-word middle (instruction_in word) goes_on) in
      omega (arith, left, same)
  suspend-room (Err reason) middle fetched goes_on is much = absurd (suspend-stopped reason goes_on.ends)

  pub room-left : (ended : StepEnd) → IsNoStop ended → Steps accesses old ended new → ready old.memory → 16640 ≤ room old.memory → room_after ended ≤ room new.memory
  room-left end.Suspend none step is much = suspend-room step.answer step.middle step.fetched step.goes_on is much
  room-left (end.Stopped reason) none step is much = absurd (none reason refl)
  room-left ended none step is much = omega (arith, (left-after ended tt step is much).1)

  no-stop-settled : (ended : StepEnd) → IsNoStop ended → IsSettledEnd ended
  no-stop-settled (end.Stopped reason) none = absurd (none reason refl)
  no-stop-settled ended none = tt

  pub ready-left : (ended : StepEnd) → IsNoStop ended → Steps accesses old ended new → ready old.memory → 16640 ≤ room old.memory → ready new.memory
  ready-left ended none step is much = (left-after ended (no-stop-settled ended none) step is much).0

-- the mode from which an instruction that opens or closes private data is permitted
pub permitted-private : (on : Bool) (mode : Mode) → is_permitted (secure_of_end (end.Private on)) mode ≡ true → mode ≡ set_from on
permitted-private true Te is = refl
permitted-private true Std is = cc
permitted-private true Ptr is = cc
permitted-private true Ssp is = cc
permitted-private false Ptr is = refl
permitted-private false Std is = cc
permitted-private false Te is = cc
permitted-private false Ssp is = cc

-- ---- how an instruction leaves the machine

-- no access changes the mode
mode-stays : {M : Type 0} (sight : Sight M) (accesses : Accesses M) (meets : MeetsBus sight accesses) (old new : Machine M) (ended : StepEnd) → IsTrue (is_secure (sight.mode old.memory))
    → Steps accesses old ended new → sight.mode new.memory ≡ sight.mode old.memory
mode-stays sight accesses meets old new ended secure step = (step-on-bus sight accesses meets old new ended secure step).makes.mode

pub permitted-before : {M : Type 0} (sight : Sight M) (accesses : Accesses M) (meets : MeetsBus sight accesses) (old new : Machine M) (ended : StepEnd) (mode : Mode) (grants allows : Bool)
    → IsTrue (is_secure (sight.mode old.memory)) → Steps accesses old ended new → mode ≡ sight.mode new.memory → grants ≡ is_permitted (secure_of_end ended) mode → grants ≡ allows
    → is_permitted (secure_of_end ended) (sight.mode old.memory) ≡ allows
permitted-before sight accesses meets old new ended mode grants allows secure step is tells same =
    ap (λ (m : Mode). is_permitted (secure_of_end ended) m) (sym (is ∙ mode-stays sight accesses meets old new ended secure step)) ∙ sym tells ∙ same

module _ {M : Type 0} (sight : Sight M) (accesses : Accesses M) (meets : MeetsBus sight accesses) (program : LoadedProgram) (old new : Machine M) (tie : IsTied sight program old) where
  stop-leaves : (ended : StepEnd) (reason : Stop) → ended ≡ end.Stopped reason → Steps accesses old ended new → LeavesTied sight program (done_stopped reason) new
  stop-leaves ended (stop.Refused reason) is step =
      let P : StepEnd → Type 0 = λ e. Steps accesses old e new in (steps-tied sight accesses meets).refused program old new reason tie (subst P is step)
  stop-leaves ended (stop.Tree event) is step = tt
  stop-leaves ended (stop.Log event) is step = tt

  pub stopped-leaves : (answer : Done) (ended : StepEnd) (reason : Stop) → answer ≡ done_stopped reason → ended ≡ end.Stopped reason → Steps accesses old ended new
      → LeavesTied sight program answer new
  stopped-leaves answer ended reason same is step = let P : Done → Type 0 = λ d. LeavesTied sight program d new in subst P (sym same) (stop-leaves ended reason is step)

  pub forbidden-leaves : (ended : StepEnd) → is_permitted (secure_of_end ended) (sight.mode old.memory) ≡ false → Steps accesses old ended new
      → LeavesTied sight program (done.Refused why.Mode) new
  forbidden-leaves ended forbidden step = (steps-tied sight accesses meets).forbidden program old new ended tie step forbidden

  stands-leaves : (ended : StepEnd) (machine : Machine M) → IsNoStop ended → StandsAfter sight program (end_of ended) machine → LeavesTied sight program (done_of ended) machine
  stands-leaves end.Exit machine none stands = stands
  stands-leaves (end.Index place) machine none stands = stands
  stands-leaves (end.Divide place) machine none stands = stands
  stands-leaves (end.Stopped reason) machine none stands = absurd (none reason refl)
  stands-leaves ended machine none stands = stands

  pub done-leaves : (answer : Done) (ended : StepEnd) (more : List Event) (last : M) → answer ≡ done_of ended → IsMade sight accesses ended old new → Retires sight ended more new.memory last
      → LeavesTied sight program answer (record new { memory = last })
  done-leaves answer ended more last same made retires =
      let P : Done → Type 0 = λ d. LeavesTied sight program d (record new { memory = last }) in
      subst P (sym same)
      (stands-leaves ended (record new { memory = last }) made.not_stopped
      ((steps-tied sight accesses meets).retired program old new ended more last tie made.steps made.not_stopped made.permitted retires))

-- ---- what an instruction does

module _ {M : Type 0} (sight : Sight M) (accesses : Accesses M) (Caused : LogCause → M → Type 0) (old new : Machine M) (held : List ℕ) where
  stops-so : (ended : StepEnd) (reason : Stop) → ended ≡ end.Stopped reason → Steps accesses old ended new → IsStoppedSo accesses reason held held [] old new
  stops-so ended reason is step = record { steps = (let P : StepEnd → Type 0 = λ e. Steps accesses old e new in subst P is step); waits = (refl, refl) }

  stop-does : (ended : StepEnd) (reason : Stop) → ended ≡ end.Stopped reason → Steps accesses old ended new → DoesSo sight accesses Caused (done_stopped reason) held held [] old new
  stop-does ended (stop.Refused why) is step = inl (stops-so ended (stop.Refused why) is step)
  stop-does ended (stop.Tree event) is step = stops-so ended (stop.Tree event) is step
  stop-does ended (stop.Log event) is step = stops-so ended (stop.Log event) is step

  pub stopped-does : (answer : Done) (ended : StepEnd) (reason : Stop) → answer ≡ done_stopped reason → ended ≡ end.Stopped reason → Steps accesses old ended new
      → DoesSo sight accesses Caused answer held held [] old new
  stopped-does answer ended reason same is step = let P : Done → Type 0 = λ d. DoesSo sight accesses Caused d held held [] old new in subst P (sym same) (stop-does ended reason is step)

  pub forbidden-does : (ended : StepEnd) → is_permitted (secure_of_end ended) (sight.mode old.memory) ≡ false → Steps accesses old ended new
      → DoesSo sight accesses Caused (done.Refused why.Mode) held held [] old new
  forbidden-does ended forbidden step = inr (refl, record { ended = ended; steps = step; forbidden = forbidden; waits = (refl, refl) })

  done-so : (ended : StepEnd) (kept piece : List ℕ) (last : M) → IsMade sight accesses ended old new → Finishes sight Caused ended (Ok tt) held kept piece new.memory last
      → IsDone sight accesses ended held kept piece old (record new { memory = last })
  done-so ended kept piece last made does = record { middle = new; made = made; more = does.0; comes = does.1; retires = does.2; core = refl; port = refl }

  end-does : (ended : StepEnd) (kept piece : List ℕ) (last : M) → IsMade sight accesses ended old new → Finishes sight Caused ended (Ok tt) held kept piece new.memory last
      → DoesSo sight accesses Caused (done_of ended) held kept piece old (record new { memory = last })
  end-does end.Exit kept piece last made does = done-so end.Exit kept piece last made does
  end-does (end.Index place) kept piece last made does = done-so (end.Index place) kept piece last made does
  end-does (end.Divide place) kept piece last made does = done-so (end.Divide place) kept piece last made does
  end-does (end.Stopped reason) kept piece last made does = absurd (made.not_stopped reason refl)
  end-does ended kept piece last made does = (ended, refl, done-so ended kept piece last made does)

  pub done-does : (answer : Done) (ended : StepEnd) (kept piece : List ℕ) (last : M) → answer ≡ done_of ended → IsMade sight accesses ended old new
      → Finishes sight Caused ended (Ok tt) held kept piece new.memory last → DoesSo sight accesses Caused answer held kept piece old (record new { memory = last })
  done-does answer ended kept piece last same made does =
      let P : Done → Type 0 = λ d. DoesSo sight accesses Caused d held kept piece old (record new { memory = last }) in subst P (sym same) (end-does ended kept piece last made does)

  pub fault-does : (ended : StepEnd) (reason : Fault) (kept piece : List ℕ) (last : M) → IsMade sight accesses ended old new → Finishes sight Caused ended (Err reason) held kept piece new.memory last
      → DoesSo sight accesses Caused (done.Fault reason) held kept piece old (record new { memory = last })
  fault-does ended (fault.Log cause) kept piece last made does =
      (record { ended = ended; middle = new; made = made; events = does.0.events; check = does.0.check; makes = does.0.makes; caused = does.0.caused; none = does.1 }, does.2)
  fault-does ended fault.Sink kept piece last made does = record { ended = ended; middle = new; made = made; more = does.0; kept = does.1; comes = does.2; makes = does.3 }

-- the sink took a piece, or nothing, where the instruction was done or its step was stopped
module _ (written_old written_new : Option (List ℕ)) (faults_old faults_new : ℕ) (limit_old limit_new : Option ℕ) (piece : List ℕ) where
  abbrev Hands : Done → Type 0
  Hands answer = HandsOut answer written_old written_new faults_old faults_new limit_old limit_new piece

  stop-hands : (reason : Stop) → Hands done.Goes → Hands (done_stopped reason)
  stop-hands (stop.Refused why) hands = hands
  stop-hands (stop.Tree event) hands = hands
  stop-hands (stop.Log event) hands = hands

  end-hands : (ended : StepEnd) → Hands done.Goes → Hands (done_of ended)
  end-hands end.Exit hands = hands
  end-hands (end.Index place) hands = hands
  end-hands (end.Divide place) hands = hands
  end-hands (end.Stopped reason) hands = stop-hands reason hands
  end-hands ended hands = hands

  pub stopped-hands : (answer : Done) (reason : Stop) → answer ≡ done_stopped reason → Hands done.Goes → Hands answer
  stopped-hands answer reason same hands = let P : Done → Type 0 = Hands in subst P (sym same) (stop-hands reason hands)

  pub done-hands : (answer : Done) (ended : StepEnd) → answer ≡ done_of ended → Hands done.Goes → Hands answer
  done-hands answer ended same hands = let P : Done → Type 0 = Hands in subst P (sym same) (end-hands ended hands)

-- ---- answers

pub on-ok : {E : Type 0} (result : Result (Unit {0}) E) (P : Type 0) → P → OnOk result P
on-ok (Ok done) P holds = holds
on-ok (Err fault) P holds = tt

-- no stop goes on
pub stopped-not-goes : (reason : Stop) → done_stopped reason ≡ done.Goes → ⊥
stopped-not-goes (stop.Refused why) is = cc
stopped-not-goes (stop.Tree event) is = cc
stopped-not-goes (stop.Log event) is = cc
