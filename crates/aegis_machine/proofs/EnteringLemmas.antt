-- A machine stands at the boundary where its program was entered.
use Rattle.std.proofs.Common.{◌≡◌, ℕ, zero, suc, ◌+◌, ◌<◌, ◌≤◌, ◌&&◌, ◌||◌, arith, Bool, true, false, leb, List, [], ◌∷◌, ◌++◌, length, take, None, refl, sym, ap, ◌∙◌, subst}
use Rattle.std.specs.Prelude.{count_by, map}
use Rattle.std.specs.List.{list_all, list_any}
use Rattle.std.proofs.lemmas.Bool.{and_from, and_parts, leb-true, or_parts}
use Rattle.execution.specs.Run.{Next, state_of}
use Rattle.regions.specs.declared.Layout.{Layout}
use Rattle.aegis_num.specs.declared.Place.TheVariants.{Tree, Log}
use Rattle.off_chip.specs.declared.Event.{Event}
use Rattle.off_chip.specs.declared.Event.TheVariants.{BlockRead, BlockWrite, Note}
use Rattle.off_chip.specs.declared.Mark.TheVariants as marks
use Rattle.off_chip.specs.Boundaries.{enter_events, is_boundary, is_retire, is_step, is_suspend, retired, suspensions}
use Rattle.off_chip.specs.Epochs.{SentInQuiet}
use Rattle.off_chip.specs.ExchangedWords.{bytes_sent}
use Rattle.off_chip.specs.Histories.{history, History, no_event, ◌◂◌, followed, in_order, AtEach, Each}
use Rattle.off_chip.proofs.HistoryLemmas.{in_order-history}
use Rattle.hash_tree.specs.Entering.{move_of}
use Rattle.stamp_log.specs.LogEvents.{zero_payload, zeros_written}
use Rattle.stamp_log.specs.LogState.{stamped}
use Rattle.secure_memory.proofs.EntryEvents.{AllMoveBlocks, MovesBlock}
use Rattle.orbis_core.specs.Ideal.{Ideal, IdealEnd, ideal_start}
use Rattle.bus_machine.specs.BusAccesses.{is_access_event}
use Rattle.bus_machine.specs.BusData.{ChecksOnce, GoesOn, SendsSo, StartsDue, at_boundary}
use Rattle.bus_machine.specs.BusMachine.{LoadedProgram, Veil, bus_machine}
use Rattle.bus_machine.specs.BusTurns.{StandsAt}
use Rattle.bus_machine.proofs.TurnLemmas.{starts-at}
use Rattle.aegis_machine.specs.Boundaries.{FitsPhases, GoesOnFuelled, IsOtherProgram, SaidOfRun, is_suspended}
use Rattle.aegis_machine.specs.FuelTests.{HasFuel}
use Rattle.aegis_machine.specs.ProgramsRead.{SomeStaticUnfaithful}
use Rattle.aegis_machine.specs.MachineParts.{RunIsOver}
use Rattle.aegis_machine.specs.declared.ends.End.TheVariants as ends
use Rattle.aegis_machine.proofs.AlongLemmas.{AllCalm, calm-access, calm-accesses, calm-count, calm-goes, calm-sent, calm-suspended, count-cons, each-along, not-same, off-false, on-true, one-more, sent-append}
use Rattle.aegis_machine.proofs.BoundaryLemmas.{checks-other, fits-access, sent-access, starts-access}
use Rattle.aegis_machine.proofs.ReadLemmas.{entered-expected}

-- ---- the events of entering are accesses

move-access : (event : Event) → MovesBlock (move_of event) → is_access_event event ≡ true
move-access (BlockRead (Tree n) block) moves = refl
move-access (BlockWrite (Tree n) block) moves = refl
move-access event moves = absurd moves

pub moves-access : (events : List Event) → AllMoveBlocks (map move_of events) → list_all is_access_event events ≡ true
moves-access [] all = refl
moves-access (event ∷ events) all = and_from (is_access_event event) (list_all is_access_event events) (move-access event all.0) (moves-access events all.1)

access-both : (first more : List Event) → list_all is_access_event first ≡ true → list_all is_access_event more ≡ true → list_all is_access_event (first ++ more) ≡ true
access-both [] more all rest = rest
access-both (event ∷ first) more all rest =
    let parts = and_parts (is_access_event event) (list_all is_access_event first) all in
    and_from (is_access_event event) (list_all is_access_event (first ++ more)) parts.0 (access-both first more parts.1 rest)

zeros-access : (last count : ℕ) → list_all is_access_event (zeros_written last count) ≡ true
zeros-access last zero = refl
zeros-access last (suc n) = access-both (zeros_written last n) (BlockWrite (Log n) (stamped zero_payload (last + suc n)) ∷ []) (zeros-access last n) refl

pub entry-access : (events : List Event) (last count : ℕ) → AllMoveBlocks (map move_of events) → list_all is_access_event (events ++ zeros_written last count) ≡ true
entry-access events last count all = access-both events (zeros_written last count) (moves-access events all) (zeros-access last count)

-- ---- before entering is over there is no boundary but the start

leb-false : (n m : ℕ) → m < n → leb n m ≡ false
leb-false n m less = by (leb n m) refl
  where
    by : (b : Bool) → leb n m ≡ b → leb n m ≡ false
    by false is = is
    by true is = let e : n ≤ m = leb-true n m is in absurd (omega (arith, e, less))

and-false : (b : Bool) → (b && false) ≡ false
and-false true = refl
and-false false = refl

not-entered : (entry : ℕ) (older : History) → length (in_order older) < entry → is_step entry older ≡ false
not-entered entry older less =
    ap (λ (b : Bool). is_boundary entry older && b) (leb-false entry (length (in_order older)) less) ∙ and-false (is_boundary entry older)

at-entering : (entry : ℕ) (P : History → Type 0) (older : History) (events : List Event) → length (in_order older) + length events ≡ entry → AtEach (is_step entry) P older
    → P (followed older events) → AtEach (is_step entry) P (followed older events)
at-entering entry P older [] long at here = at
at-entering entry P older (event ∷ []) long at here = (at, on-true (is_step entry (event ◂ older)) (P (event ◂ older)) here)
at-entering entry P older (event ∷ next ∷ events) long at here =
    let one : length (in_order (event ◂ older)) ≡ length (in_order older) + 1 = one-more event older in
    at-entering entry P (event ◂ older) (next ∷ events) (omega (arith, long, one))
    (at, off-false (is_step entry (event ◂ older)) (P (event ◂ older)) (not-entered entry (event ◂ older) (omega (arith, long, one)))) here

module _ (layout : Layout) (fuel : ℕ) where
  abbrev Fuelled : Event → History → Type 0
  Fuelled event older = GoesOnFuelled layout fuel event older

  fuelled-entering : (older : History) (events : List Event) → length (in_order older) + length events ≤ enter_events layout → list_any is_retire events ≡ false
      → is_boundary (enter_events layout) older ≡ false → Each Fuelled older → Each Fuelled (followed older events)
  fuelled-entering older [] long none not each = each
  fuelled-entering older (event ∷ []) long none not each = (each, off-false (is_boundary (enter_events layout) older) (HasFuel layout fuel (length (in_order older))) not)
  fuelled-entering older (event ∷ next ∷ events) long none not each =
      let parts = or_parts (is_retire event) (list_any is_retire (next ∷ events)) none in
      let one : length (in_order (event ◂ older)) ≡ length (in_order older) + 1 = one-more event older in
      let other : is_boundary (enter_events layout) (event ◂ older) ≡ false =
      ap (λ (b : Bool). b || is_retire event) (not-same (length (in_order (event ◂ older))) (enter_events layout) (λ same. let no : ⊥ = omega (arith, same, one, long) in no)) ∙ parts.0 in
      fuelled-entering (event ◂ older) (next ∷ events) (omega (arith, long, one)) parts.1 other
      (each, off-false (is_boundary (enter_events layout) older) (HasFuel layout fuel (length (in_order older))) not)

-- ---- what is said of the trace of entering

module _ (veil : Veil) (program : LoadedProgram) (fuel : ℕ) (rest : List Event) (access : list_all is_access_event rest ≡ true)
    (long : length (Note marks.Enter ∷ rest) ≡ enter_events program.layout) (has : HasFuel program.layout fuel 0) where
  abbrev entry : ℕ
  entry = enter_events program.layout

  abbrev trace : List Event
  trace = Note marks.Enter ∷ rest

  abbrev first : History
  first = Note marks.Enter ◂ no_event

  abbrev whole : History
  whole = followed first rest

  calm-rest : AllCalm rest
  calm-rest = calm-accesses rest access

  in-order-whole : in_order whole ≡ trace
  in-order-whole = in_order-history trace

  pub stands-entered : StandsAt veil program whole (ideal_start program.layout program.statics program.entry program.input [])
  stands-entered = starts-at veil program whole (ap (λ (t : List Event). length t) in-order-whole ∙ long)

  pub sent-entered : bytes_sent trace ≡ 0
  sent-entered =
      let e : bytes_sent trace ≡ 0 + bytes_sent rest = sent-append (Note marks.Enter ∷ []) rest in
      let f : bytes_sent rest ≡ 0 = calm-sent rest calm-rest in omega (arith, e, f)

  pub retired-entered : retired trace ≡ 0
  retired-entered =
      let e : retired trace ≡ 0 + count_by is_retire rest = count-cons is_retire (Note marks.Enter) rest in
      let f : count_by is_retire rest ≡ 0 = calm-count is_retire (λ event calm. calm.goes) rest calm-rest in omega (arith, e, f)

  suspended-entered : suspensions trace ≡ 0
  suspended-entered =
      let e : suspensions trace ≡ 0 + count_by is_suspend rest = count-cons is_suspend (Note marks.Enter) rest in
      let f : count_by is_suspend rest ≡ 0 = calm-count is_suspend (λ event calm. calm.suspend) rest calm-rest in omega (arith, e, f)

  at-whole : (P : History → Type 0) → P whole → AtEach (at_boundary program) P whole
  at-whole P here =
      let positive : 0 < entry = omega arith in
      at-entering entry P no_event trace (omega (arith, long)) (off-false (is_step entry no_event) (P no_event) (not-entered entry no_event positive)) here

  none-retired : list_any is_retire rest ≡ false
  none-retired = calm-goes rest calm-rest

  fuelled-whole : Each (GoesOnFuelled program.layout fuel) whole
  fuelled-whole = by rest long none-retired
    where
      by : (events : List Event) → length (Note marks.Enter ∷ events) ≡ entry → list_any is_retire events ≡ false → Each (GoesOnFuelled program.layout fuel) (followed first events)
      by [] long none = (tt, on-true (is_boundary entry no_event) (HasFuel program.layout fuel 0) has)
      by (event ∷ events) long none =
          fuelled-entering program.layout fuel first (event ∷ events) (omega (arith, long)) none
          (ap (λ (b : Bool). b || false) (not-same (length (in_order first)) entry (λ same. let no : ⊥ = omega (arith, same, long) in no)))
          (tt, on-true (is_boundary entry no_event) (HasFuel program.layout fuel 0) has)

  pub said-entered : SaidOfRun veil program fuel [] None whole
  said-entered =
      let sent : bytes_sent (in_order whole) ≡ 0 = ap (λ (t : List Event). bytes_sent t) in-order-whole ∙ sent-entered in
      let start : Ideal = ideal_start program.layout program.statics program.entry program.input [] in
      record {
        bus_data = record {
          sends = at-whole (SendsSo veil program []) (record {
            held = [];
            counted = omega (arith, sent);
            released = ap (λ (n : Next Ideal IdealEnd). (state_of n).traffic.bytes) stands-entered.goes ∙ ap (λ (n : ℕ). take n [] ++ []) (sym sent);
            few = omega arith;
            quiet = λ quiet. refl;
          });
          ends = record { each = at-whole (GoesOn veil program) (record { state = start; goes = stands-entered.goes }) };
          checks = each-along (ChecksOnce veil program) is_access_event (λ event older is. checks-other veil program event older (calm-access event is).goes) first rest access
              (tt, checks-other veil program (Note marks.Enter) no_event refl);
          starts = each-along (StartsDue veil program) is_access_event (starts-access veil program) first rest access (tt, tt);
          suspends = at-whole (λ older. suspensions (in_order older) ≡ (state_of (bus_machine veil program older)).traffic.suspensions)
              (ap (λ (t : List Event). suspensions t) in-order-whole ∙ suspended-entered ∙ ap (λ (n : Next Ideal IdealEnd). (state_of n).traffic.suspensions) (sym stands-entered.goes));
        };
        waiting = record { each = each-along SentInQuiet is_access_event sent-access first rest access (tt, tt) };
        phases = record {
          each = each-along FitsPhases is_access_event fits-access first rest access (tt, λ by. let e : false ≡ true = by in cc);
          over = calm-suspended first rest calm-rest;
        };
        fuelled = record { each = fuelled-whole };
      }

-- ---- and of no event at all

pub said-nothing : (veil : Veil) (program : LoadedProgram) (fuel : ℕ) → SaidOfRun veil program fuel [] None no_event
said-nothing veil program fuel =
    let entry : ℕ = enter_events program.layout in
    let none : is_step entry no_event ≡ false = not-entered entry no_event (omega arith) in
    record {
      bus_data = record {
        sends = off-false (is_step entry no_event) (SendsSo veil program [] no_event) none;
        ends = record { each = off-false (is_step entry no_event) (GoesOn veil program no_event) none };
        checks = tt;
        starts = tt;
        suspends = off-false (is_step entry no_event) (suspensions (in_order no_event) ≡ (state_of (bus_machine veil program no_event)).traffic.suspensions) none;
      };
      waiting = record { each = tt };
      phases = record { each = tt; over = refl };
      fuelled = record { each = tt };
    }

-- ---- a run that is over with entering, or before it

pub over-without-fuel : (veil : Veil) (program : LoadedProgram) (fuel : ℕ) (trace : List Event) → trace ≡ [] → (HasFuel program.layout fuel 0 → ⊥)
    → RunIsOver veil program fuel [] (ends.FuelOut 0) trace
over-without-fuel veil program fuel trace none short =
    let P : List Event → Type 0 = λ t. RunIsOver veil program fuel [] (ends.FuelOut 0) t in
    subst P (sym none) (record {
      said = said-nothing veil program fuel;
      names = (refl, record { boundary = refl; short = short });
      reads = λ has. absurd (short has);
      cause = record { state = ideal_start program.layout program.statics program.entry program.input []; goes = refl };
      fuelled = tt;
      expected = record { each = tt };
    })

pub over-with-other : (veil : Veil) (program : LoadedProgram) (fuel : ℕ) (rest trace : List Event) (read expected : List ℕ) → trace ≡ Note marks.Enter ∷ rest → list_all is_access_event rest ≡ true
    → HasFuel program.layout fuel 0 → IsOtherProgram program read expected trace → SomeStaticUnfaithful program.layout program.statics trace
    → RunIsOver veil program fuel [] (ends.AbortProgram read expected) trace
over-with-other veil program fuel rest trace read expected is access has other unfaithful =
    let long : length (Note marks.Enter ∷ rest) ≡ enter_events program.layout = ap (λ (t : List Event). length t) (sym is) ∙ other.over in
    let N : List Event → Type 0 = λ t. SaidOfRun veil program fuel [] None (history t) in
    record {
      said = subst N (sym is) (said-entered veil program fuel rest access long has);
      names = other;
      reads = record {
        fuelled = has;
        nothing = refl;
        unsent = ap (λ (t : List Event). bytes_sent t) is ∙ sent-entered veil program fuel rest access long has;
        unfaithful = unfaithful;
      };
      cause = tt;
      fuelled = tt;
      expected = entered-expected program.layout trace (omega (arith, other.over));
    }
