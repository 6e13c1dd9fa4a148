-- Runs over a secure memory: what it keeps, and what its calls are told to do.
use Rattle.std.proofs.Common.{◌≡◌, ℕ, zero, suc, ◌+◌, ◌<◌, ◌≤◌, arith, Bool, true, false, List, [], ◌∷◌, ◌++◌, length, drop, replicate, nat_cmp, option_map, Option, Some, None, refl, sym, ap, ◌∙◌, subst}
use Rattle.std.specs.Prelude.{◌^◌, IfErr, IfOk, IsTrue, Result, Ok, Err, slice_index, slice_index_or, if◌then◌else◌}
use Rattle.std.specs.FinMap.{get-empty}
use Rattle.line_cache.specs.declared.lines.Line.{Line}
use Rattle.aegis_num.specs.declared.Place.{Place}
use Rattle.aegis_num.specs.declared.Place.TheVariants.{Tree, Log}
use Rattle.regions.specs.declared.Mode.{Mode}
use Rattle.regions.specs.Modes.{Modes, is_secure}
use Rattle.hash_tree.specs.TreeParts.{TreeParts}
use Rattle.stamp_log.specs.LogState.{LogLines, LogState, line_of}
use Rattle.stamp_log.specs.StandsOn.{IsNew}
use Rattle.secure_memory.specs.declared.Parts.{Parts}
use Rattle.secure_memory.specs.PrivatePads.{Padding, hidden_payload}
use Rattle.orbis_core.specs.declared.Port.{Port}
use Rattle.orbis_core.specs.Ideal.{ideal_start, static_memory}
use Rattle.orbis_core.specs.Processor.{Processor}
use Rattle.orbis_core.specs.Rows.{Machine}
use Rattle.image_file.specs.declared.Image.{Image}
use Rattle.image_file.specs.ImageTable.{static_bytes}
use Rattle.off_chip.specs.declared.Event.TheVariants.{Note}
use Rattle.off_chip.specs.declared.Mark.TheVariants.{Enter}
use Rattle.off_chip.specs.Boundaries.{enter_events, retired}
use Rattle.off_chip.specs.ExchangedWords.{bytes_sent}
use Rattle.off_chip.specs.Histories.{history}
use Rattle.bus_machine.specs.BusData.{most_held}
use Rattle.bus_machine.specs.BusMachine.{LoadedProgram, Veil}
use Rattle.bus_machine.specs.BusTurns.{StandsAt}
use Rattle.secure_memory.specs.BlockWords.{AreWordsAt, is_memory_block, start_at}
use Rattle.aegis_machine.specs.Causes.{EndsByCause, ReadsExpected}
use Rattle.aegis_machine.specs.FuelTests.{HasFuel}
use Rattle.aegis_machine.specs.declared.machine.Machine.{Machine as TurnMachine}
use Rattle.aegis_machine.specs.Boundaries.{SaidOfRun, StandsAtBoundary, blocks_in, entered_digest}
use Rattle.block_hash.specs.BlockStrings.{program_digest}
use Rattle.off_chip.specs.OffChipBytes.{static_blocks}
use Rattle.aegis_machine.specs.MachineParts.{AreBytes, CarriesSums, EndsTurn, EntersSo, FitsMachine, IsRunning, IsUnentered, LeadsTo, RunIsOver, StandsWith, TakesRest, end_by, parked, program_of, seen_with, unentered, veil_with}
use Rattle.aegis_machine.proofs.CauseLemmas.{EndsCheck, Tells}
use Rattle.aegis_machine.proofs.ReadLemmas.{entered-expected}
use Rattle.aegis_machine.proofs.StopLemmas.{log-abort, step-keeps, tree-abort}
use Rattle.aegis_machine.proofs.EnteringLemmas.{retired-entered, said-entered, sent-entered, stands-entered}
use Rattle.regions.specs.declared.Layout.{Layout}
use Rattle.off_chip.specs.declared.Event.{Event}
use Rattle.line_cache.specs.LineMaps.{LineMap, payload_at}
use Rattle.orbis_core.specs.Accesses.{Accesses}
use Rattle.stamp_log.specs.declared.LogCause.{LogCause}
use Rattle.stamp_log.specs.declared.LogCause.TheVariants.{Future, Sums}
use Rattle.stamp_log.specs.LogState.{value_under}
use Rattle.stamp_log.specs.OfflineCheck.{IsCause, SumsDiffer}
use Rattle.secure_memory.specs.declared.SecureMemory.{SecureMemory}
use Rattle.secure_memory.specs.MemoryAccesses.{secure_accesses}
use Rattle.secure_memory.specs.MemorySights.{Agrees, Sight as SecureSight, line_in, sight_of}
use Rattle.secure_memory.specs.MemoryStands.{MemoryStands}
use Rattle.memory_trace.specs.SoundTraces.{IsSound}
use Rattle.aegis_machine.specs.Watched.{IsWatched}
use Rattle.aegis_machine.specs.declared.ends.End.{End}
use Rattle.aegis_machine.specs.declared.ends.End.TheVariants.{FuelOut}
use Rattle.aegis_machine.specs.declared.ends.End.TheVariants as ends
use Rattle.aegis_machine.specs.declared.instructions.Done.{Done}
use Rattle.aegis_machine.specs.declared.instructions.Done.TheVariants as done
use Rattle.aegis_machine.specs.declared.instructions.Fault.TheVariants as fault
use Rattle.aegis_machine.specs.InstructionsDone.{DoesSo}
use Rattle.aegis_num.specs.declared.Key.{Key}
use Rattle.aegis_machine.specs.declared.turns.Turn.{Turn}
use Rattle.aegis_machine.specs.declared.turns.Turn.TheVariants.{Parked, Over}
use Rattle.bus_machine.specs.BusAccesses.{MeetsBus, Sight}
use Rattle.aegis_machine.specs.Keeping.{SameTotal}
use Rattle.aegis_machine.specs.SecureMeets.{secure_meets}
use Rattle.aegis_machine.specs.SecureSights.{bus_sight}

module _ {O L : Type 0} (lines : L → LineMap) (trace : O → List Event) (room : O → ℕ) (told : O → Option Layout) (same : O → O → Type 0) where
  abbrev pub Secure : Type 0
  Secure = SecureMemory O L

  abbrev pub seen : Secure → SecureSight L
  seen = sight_of lines trace room told

  abbrev pub sight_on : Sight Secure
  sight_on = bus_sight seen

  abbrev pub room_on : Secure → ℕ
  room_on memory = room memory.lent.now

  abbrev pub keeps_on : Secure → Secure → Type 0
  keeps_on old new = (new.lent.ghost_name ≡ old.lent.ghost_name) × same old.lent.now new.lent.now
      × SameTotal (trace old.lent.now) (room old.lent.now) (trace new.lent.now) (room new.lent.now)

  abbrev pub accesses_on : Accesses Secure
  accesses_on = secure_accesses seen keeps_on

  abbrev pub meets_on : MeetsBus sight_on accesses_on
  meets_on = secure_meets seen keeps_on

  abbrev pub caused_on : LogCause → Secure → Type 0
  caused_on cause memory = IsCause (value_under memory.log.key) (trace memory.lent.now) cause × EndsByCause memory.layout.log (trace memory.lent.now) cause

  ends_on : (cause : LogCause) (memory : Secure) → caused_on cause memory → EndsCheck memory.layout.log (trace memory.lent.now) cause
  ends_on (Future event) memory caused = caused.0
  ends_on (Sums read written) memory caused = caused.1

  pub tells_on : Tells sight_on accesses_on caused_on
  tells_on = record {
    ends = ends_on;
    keeps = λ layout old new ended is secure not step. step-keeps seen keeps_on layout old new ended is secure not step;
    tree = λ program old new event tie expected step. tree-abort seen keeps_on program old new tie expected event step;
    log = λ program old new event tie step. log-abort seen keeps_on program old new tie event step;
  }

  -- the sums that an instruction ended with
  pub carries-on : (key : Key) (answer : Done) (end : End) (count : ℕ) (held kept piece : List ℕ) (now new : Machine Secure) → new.memory.log.key ≡ key → end_by answer count ≡ Some end
      → DoesSo sight_on accesses_on caused_on answer held kept piece now new → CarriesSums key (Over end) (trace new.memory.lent.now)
  carries-on key answer end count held kept piece now new same = by answer
    where
      at : (other : End) → other ≡ end → CarriesSums key (Over other) (trace new.memory.lent.now) → CarriesSums key (Over end) (trace new.memory.lent.now)
      at other is carries = let P : End → Type 0 = λ e. CarriesSums key (Over e) (trace new.memory.lent.now) in subst P is carries

      by : (a : Done) → end_by a count ≡ Some end → DoesSo sight_on accesses_on caused_on a held kept piece now new → CarriesSums key (Over end) (trace new.memory.lent.now)
      by done.Goes is does = cc
      by done.Ended is does = at ends.Ended (let e : ends.Ended ≡ end = cc in e) tt
      by (done.Index place) is does = at (ends.Index place) (let e : ends.Index place ≡ end = cc in e) tt
      by (done.Divide place) is does = at (ends.Divide place) (let e : ends.Divide place ≡ end = cc in e) tt
      by (done.Refused reason) is does = at (ends.Refused reason count) (let e : ends.Refused reason count ≡ end = cc in e) tt
      by (done.Tree event) is does = at (ends.AbortTree event count) (let e : ends.AbortTree event count ≡ end = cc in e) tt
      by (done.Log event) is does = at (ends.AbortLog (Future event) count) (let e : ends.AbortLog (Future event) count ≡ end = cc in e) tt
      by (done.Fault (fault.Log (Future event))) is does = at (ends.AbortLog (Future event) count) (let e : ends.AbortLog (Future event) count ≡ end = cc in e) tt
      by (done.Fault (fault.Log (Sums read written))) is does =
          let P : Key → Type 0 = λ k. SumsDiffer (value_under k) (trace new.memory.lent.now) read written in
          at (ends.AbortLog (Sums read written) count) (let e : ends.AbortLog (Sums read written) count ≡ end = cc in e) (subst P same does.0.caused.0)
      by (done.Fault fault.Sink) is does = at ends.WriteFault (let e : ends.WriteFault ≡ end = cc in e) tt

-- ---- a machine on a bus, and with the parts of its memory between turns

module _ {O L : Type 0} (lines : L → LineMap) (trace : O → List Event) (room : O → ℕ) (told : O → Option Layout) (same : O → O → Type 0) (program : LoadedProgram) (fuel : ℕ) (handed_out held : List ℕ)
    (core : Processor) where
  abbrev S : Sight (SecureMemory O L)
  S = sight_on lines trace room told same

  abbrev T : Sight (SecureSight L)
  T = bus_sight (λ (sight : SecureSight L). sight)

  abbrev plain : SecureMemory O L → SecureSight L
  plain memory = record {
    layout = memory.layout;
    mode = memory.mode_unit.mode;
    tree = memory.tree;
    lines = lines memory.tree.lines;
    pinned = [];
    log = memory.log;
    stamps = memory.stamps;
    trace = trace memory.lent.now;
    room = 0;
    told = None;
  }

  from-plain : (memory : SecureMemory O L) (port : Port) → StandsAtBoundary T program fuel handed_out held (record { core = core; memory = plain memory; port = port })
      → StandsAtBoundary S program fuel handed_out held (record { core = core; memory = memory; port = port })
  from-plain memory port at =
      let tie = at.tied in
      record {
        tied = record {
          state = tie.state;
          stands = tie.stands;
          layout = tie.layout;
          core = tie.core;
          mode = tie.mode;
          secure = tie.secure;
          agrees = record { line = tie.agrees.line };
          input = tie.input;
        };
        said = at.said;
        counted = at.counted;
        released = at.released;
        few = at.few;
        slow = at.slow;
      }

  -- with a port that has the input that the other one has
  to-plain : (memory : SecureMemory O L) (port other : Port) → other.input.now ≡ port.input.now → other.next ≡ port.next
      → StandsAtBoundary S program fuel handed_out held (record { core = core; memory = memory; port = port })
      → StandsAtBoundary T program fuel handed_out held (record { core = core; memory = plain memory; port = other })
  to-plain memory port other input next at =
      let tie = at.tied in
      let has = tie.input in
      let P : ℕ → Type 0 = λ n. n ≤ length other.input.now in
      let within : port.next ≤ length other.input.now = subst (λ (xs : List ℕ). port.next ≤ length xs) (sym input) has.within in
      record {
        tied = record {
          state = tie.state;
          stands = tie.stands;
          layout = tie.layout;
          core = tie.core;
          mode = tie.mode;
          secure = tie.secure;
          agrees = record { line = tie.agrees.line };
          input = record {
            within = subst P (sym next) within;
            bytes = λ k. subst (λ (xs : List ℕ). slice_index xs k < 2 ^ 8) (sym input) (has.bytes k);
            rest = has.rest ∙ ap (λ (n : ℕ). drop n port.input.now) (sym next) ∙ ap (λ (xs : List ℕ). drop other.next xs) (sym input);
          };
        };
        said = at.said;
        counted = at.counted;
        released = at.released;
        few = at.few;
        slow = at.slow;
      }

  same-plain : (memory : SecureMemory O L) (parts : Parts L) (events : List Event) → memory.tree ≡ parts.tree → memory.log ≡ parts.log → memory.stamps ≡ parts.stamps
      → memory.mode_unit ≡ parts.modes → memory.layout ≡ parts.layout → trace memory.lent.now ≡ events → plain memory ≡ seen_with lines parts events
  same-plain memory parts events tree log stamps modes layout is =
      ap (λ (t : TreeParts L Padding). record (plain memory) { tree = t; lines = lines t.lines }) tree
      ∙ ap (λ (l : LogState). record (seen_with lines parts (trace memory.lent.now)) { layout = memory.layout; mode = memory.mode_unit.mode; log = l; stamps = memory.stamps }) log
      ∙ ap (λ (n : ℕ). record (seen_with lines parts (trace memory.lent.now)) { layout = memory.layout; mode = memory.mode_unit.mode; stamps = n }) stamps
      ∙ ap (λ (m : Modes). record (seen_with lines parts (trace memory.lent.now)) { layout = memory.layout; mode = m.mode }) modes
      ∙ ap (λ (l : Layout). record (seen_with lines parts (trace memory.lent.now)) { layout = l }) layout
      ∙ ap (λ (t : List Event). seen_with lines parts t) is

  pub on-bus-again : (memory : SecureMemory O L) (parts : Parts L) (events : List Event) (port : Port) → memory.tree ≡ parts.tree → memory.log ≡ parts.log → memory.stamps ≡ parts.stamps
      → memory.mode_unit ≡ parts.modes → memory.layout ≡ parts.layout → trace memory.lent.now ≡ events
      → StandsAtBoundary T program fuel handed_out held (record { core = core; memory = seen_with lines parts events; port = port })
      → StandsAtBoundary S program fuel handed_out held (record { core = core; memory = memory; port = port })
  on-bus-again memory parts events port tree log stamps modes layout is at =
      let P : SecureSight L → Type 0 = λ s. StandsAtBoundary T program fuel handed_out held (record { core = core; memory = s; port = port }) in
      from-plain memory port (subst P (sym (same-plain memory parts events tree log stamps modes layout is)) at)

  pub off-bus : (memory : SecureMemory O L) (parts : Parts L) (events : List Event) (port other : Port) → memory.tree ≡ parts.tree → memory.log ≡ parts.log → memory.stamps ≡ parts.stamps
      → memory.mode_unit ≡ parts.modes → memory.layout ≡ parts.layout → trace memory.lent.now ≡ events → other.input.now ≡ port.input.now → other.next ≡ port.next
      → StandsAtBoundary S program fuel handed_out held (record { core = core; memory = memory; port = port })
      → StandsAtBoundary T program fuel handed_out held (record { core = core; memory = seen_with lines parts events; port = other })
  off-bus memory parts events port other tree log stamps modes layout is input next at =
      let P : SecureSight L → Type 0 = λ s. StandsAtBoundary T program fuel handed_out held (record { core = core; memory = s; port = other }) in
      subst P (same-plain memory parts events tree log stamps modes layout is) (to-plain memory port other input next at)

-- parts are the same where each of them is
pub same-parts : {L : Type 0} (one other : Parts L) → other.tree ≡ one.tree → other.log ≡ one.log → other.stamps ≡ one.stamps → other.modes ≡ one.modes → other.layout ≡ one.layout
    → other ≡ one
same-parts {L} one other tree log stamps modes layout =
    let p1 : other ≡ record other { tree = one.tree } = ap (λ (t : TreeParts L Padding). record other { tree = t }) tree in
    let p2 : record other { tree = one.tree } ≡ record one { stamps = other.stamps; modes = other.modes; layout = other.layout } =
    ap (λ (l : LogState). record one { log = l; stamps = other.stamps; modes = other.modes; layout = other.layout }) log in
    let p3 : record one { stamps = other.stamps; modes = other.modes; layout = other.layout } ≡ record one { modes = other.modes; layout = other.layout } =
    ap (λ (n : ℕ). record one { stamps = n; modes = other.modes; layout = other.layout }) stamps in
    let p4 : record one { modes = other.modes; layout = other.layout } ≡ record one { layout = other.layout } = ap (λ (m : Modes). record one { modes = m; layout = other.layout }) modes in
    let p5 : record one { layout = other.layout } ≡ one = ap (λ (l : Layout). record one { layout = l }) layout in
    p1 ∙ p2 ∙ p3 ∙ p4 ∙ p5

-- ---- after entering

held-false : (n k : ℕ) → slice_index_or (replicate n false) k false ≡ false
held-false zero k = refl
held-false (suc n) zero = refl
held-false (suc n) (suc k) = held-false n k

no-log-line : (log : LogState) (lines : LogLines) (n : ℕ) → IsNew log → lines ≡ log.lines → line_of lines n ≡ None
no-log-line log lines n new same =
    let held : slice_index_or lines.held n false ≡ false =
    ap (λ (l : LogLines). slice_index_or l.held n false) same ∙ ap (λ (xs : List Bool). slice_index_or xs n false) new.held ∙ held-false log.blocks n in
    ap (λ (b : Bool). if b then Some (slice_index_or lines.payloads n []) else None) held

module _ {L : Type 0} (lines : L → LineMap) (image : Image) (input : List ℕ) (veil : Veil) (old_trace trace : List Event) (handed_out : List ℕ) (old new : Parts L) (machine : TurnMachine L)
    (bytes : AreBytes input) (unentered : IsUnentered lines image veil old_trace handed_out old machine) (enters : EntersSo lines old.layout (static_bytes image) machine.fuel old new trace) where
  abbrev loaded : LoadedProgram
  loaded = program_of image input

  layout-image : new.layout ≡ image.layout
  layout-image = enters.layout_is ∙ unentered.layout

  agrees-entered : (memory : ℕ → ℕ) → Agrees (seen_with lines new trace) memory
  agrees-entered memory = record { line = by }
    where
      by : (place : Place) (payload : List ℕ) → IsTrue (is_memory_block new.layout place) → line_in (seen_with lines new trace) place ≡ Some payload
          → AreWordsAt memory (start_at new.layout place) payload
      by (Tree n) payload inside is =
          let none : line_in (seen_with lines new trace) (Tree n) ≡ None =
          ap (λ (m : LineMap). payload_at m n) enters.no_lines ∙ ap (λ (found : Option Line). option_map (λ (line : Line). line.payload) found) (get-empty nat_cmp n) in
          let e : None ≡ Some payload = sym none ∙ is in cc
      by (Log n) payload inside is =
          let none : line_in (seen_with lines new trace) (Log n) ≡ None = no-log-line old.log new.log.lines n unentered.new_log enters.log_lines in
          let e : None ≡ Some payload = sym none ∙ is in cc

  pub stands-entering : StandsWith lines image input veil trace handed_out machine.core machine.next machine.held machine.fuel machine.retired new
  stands-entering =
      let long : length (Note Enter ∷ enters.rest) ≡ enter_events image.layout =
      ap (λ (t : List Event). length t) (sym enters.trace_is) ∙ enters.long ∙ ap (λ (l : Layout). enter_events l) unentered.layout in
      let has : HasFuel image.layout machine.fuel 0 = subst (λ (l : Layout). HasFuel l machine.fuel 0) unentered.layout enters.fuelled in
      let V : Veil = veil_with new in
      let at = stands-entered V loaded machine.fuel enters.rest enters.access long has in
      let said = said-entered V loaded machine.fuel enters.rest enters.access long has in
      let sent = sent-entered V loaded machine.fuel enters.rest enters.access long has in
      let none = retired-entered V loaded machine.fuel enters.rest enters.access long has in
      let H : List Event → Type 0 = λ t. StandsAt V loaded (history t) (ideal_start image.layout (static_bytes image) image.entry input []) in
      let N : List Event → Type 0 = λ t. SaidOfRun V loaded machine.fuel [] None (history t) in
      let G : List ℕ → Type 0 = λ bytes. SaidOfRun V loaded machine.fuel bytes None (history trace) in
      record {
        stands = enters.stands;
        sound = enters.sound;
        same_veil = ap (λ (p : Padding). hidden_payload p) enters.tree.veil ∙ unentered.same_veil;
        boundary = λ port input_is next_is. record {
          tied = record {
            state = ideal_start image.layout (static_bytes image) image.entry input [];
            stands = subst H (sym enters.trace_is) at;
            layout = layout-image;
            core = sym unentered.core;
            mode = sym enters.mode;
            secure = subst (λ (m : Mode). IsTrue (is_secure m)) (sym enters.mode) refl;
            agrees = agrees-entered (static_memory image.layout (static_bytes image));
            input = record {
              within = omega (arith, next_is, unentered.next);
              bytes = λ k. subst (λ (xs : List ℕ). slice_index xs k < 2 ^ 8) (sym input_is) (bytes k);
              rest = sym (ap (λ (n : ℕ). drop n port.input.now) (next_is ∙ unentered.next) ∙ input_is);
            };
          };
          said = subst G (sym unentered.nothing) (subst N (sym enters.trace_is) said);
          counted = ap (λ (t : List Event). bytes_sent t) enters.trace_is ∙ sent ∙ ap (λ (bytes : List ℕ). length bytes) (sym unentered.nothing);
          released = sym (ap (λ (bytes : List ℕ). bytes ++ machine.held) unentered.nothing ∙ unentered.held);
          few = subst (λ (bytes : List ℕ). length bytes < most_held) (sym unentered.held) (omega arith);
          slow = omega (arith, ap (λ (bytes : List ℕ). length bytes) unentered.nothing, ap (λ (bytes : List ℕ). length bytes) unentered.held);
        };
        layout = layout-image;
        within = omega (arith, unentered.next);
        counted = unentered.count ∙ sym (ap (λ (t : List Event). retired t) enters.trace_is ∙ none);
        reads = subst (λ (l : Layout). entered_digest l trace ≡ program_digest (blocks_in (static_blocks l) (static_bytes image))) unentered.layout enters.reads;
        expected = entered-expected image.layout trace (omega (arith, enters.long, ap (λ (l : Layout). enter_events l) unentered.layout));
      }

some-same : {T : Type 0} (x y : T) → Some x ≡ Some y → x ≡ y
some-same x y is = cc

-- a new machine that was entered
pub ready-entered : {L : Type 0} (lines : L → LineMap) (image : Image) (old_trace trace : List Event) (old new : Parts L) (machine : TurnMachine L) → machine.parts ≡ Some old → machine.entered ≡ false
    → EntersSo lines old.layout (static_bytes image) machine.fuel old new trace → (input : List ℕ) (veil : Veil) (handed_out : List ℕ) → AreBytes input → FitsMachine lines image input veil old_trace handed_out machine
    → StandsWith lines image input veil trace handed_out machine.core machine.next machine.held machine.fuel machine.retired new
ready-entered {L} lines image old_trace trace old new machine kept not enters input veil handed_out bytes (unentered parts fits) =
    let same : old ≡ parts = some-same old parts (sym kept ∙ fits.kept) in
    let P : Parts L → Type 0 = λ p. EntersSo lines p.layout (static_bytes image) machine.fuel p new trace in
    stands-entering lines image input veil old_trace trace handed_out parts new machine bytes fits (subst P same enters)
ready-entered lines image old_trace trace old new machine kept not enters input veil handed_out bytes (parked parts fits) =
    let e : true ≡ false = sym fits.entered ∙ not in cc

pub parked-layout : {L : Type 0} (lines : L → LineMap) (image : Image) (input : List ℕ) (veil : Veil) (events : List Event) (handed_out : List ℕ) (parts : Parts L) (machine : TurnMachine L)
    → machine.parts ≡ Some parts → machine.entered ≡ true → FitsMachine lines image input veil events handed_out machine → parts.layout ≡ image.layout
parked-layout lines image input veil events handed_out parts machine kept is (unentered other fits) = let e : false ≡ true = sym fits.entered ∙ is in cc
parked-layout {L} lines image input veil events handed_out parts machine kept is (parked other fits) =
    let same : parts ≡ other = some-same parts other (sym kept ∙ fits.kept) in ap (λ (p : Parts L). p.layout) same ∙ fits.stands.layout

-- entering a new machine ended the run
pub over-entering : {L : Type 0} (lines : L → LineMap) (image : Image) (old_trace trace : List Event) (end : End) (machine : TurnMachine L) → machine.entered ≡ false
    → ((veil : Veil) (input : List ℕ) → RunIsOver veil (program_of image input) machine.fuel [] end trace) → (input : List ℕ) (veil : Veil) (handed_out : List ℕ)
    → FitsMachine lines image input veil old_trace handed_out machine → RunIsOver veil (program_of image input) machine.fuel handed_out end trace
over-entering lines image old_trace trace end machine not over input veil handed_out (unentered parts fits) =
    subst (λ (bytes : List ℕ). RunIsOver veil (program_of image input) machine.fuel bytes end trace) (sym fits.nothing) (over veil input)
over-entering lines image old_trace trace end machine not over input veil handed_out (parked parts fits) = let e : true ≡ false = sym fits.entered ∙ not in cc

pub err-then : {T E : Type 0} (result : Result T E) (P Q : E → Type 0) → ((fault : E) → P fault → Q fault) → IfErr result P → IfErr result Q
err-then (Ok value) P Q f holds = tt
err-then (Err fault) P Q f holds = f fault holds

pub ok-then : {T E : Type 0} (result : Result T E) (P Q : T → Type 0) → ((value : T) → P value → Q value) → IfOk result P → IfOk result Q
ok-then (Ok value) P Q f holds = f value holds
ok-then (Err fault) P Q f holds = tt

-- ---- a turn

module _ {O L : Type 0} (lines : L → LineMap) (trace : O → List Event) (room : O → ℕ) (told : O → Option Layout) (same : O → O → Type 0) (image : Image) (input : List ℕ) (veil : Veil) (fuel : ℕ) where
  pub starts-running : (handed_out held : List ℕ) (core : Processor) (next count : ℕ) (limit : Option ℕ) (parts : Parts L) (memory : SecureMemory O L) (events : List Event) (port : Port)
      → memory.tree ≡ parts.tree → memory.log ≡ parts.log → memory.stamps ≡ parts.stamps → memory.mode_unit ≡ parts.modes → memory.layout ≡ parts.layout → trace memory.lent.now ≡ events
      → port.input.now ≡ input → port.next ≡ next → StandsWith lines image input veil events handed_out core next held fuel count parts → TakesRest limit fuel (length handed_out)
      → fuel ≤ length events + room memory.lent.now
      → IsRunning (sight_on lines trace room told same) (room_on lines trace room told same) (program_of image input) fuel limit handed_out held count (record { core = core; memory = memory; port = port })
  starts-running handed_out held core next count limit parts memory events port tree log stamps modes layout is input_is next_is stands takes enough = record {
    stands = on-bus-again lines trace room told same (program_of image input) fuel handed_out held core memory parts events port tree log stamps modes layout is (stands.boundary port input_is next_is);
    enough = omega (arith, enough, ap (λ (t : List Event). length t) is);
    takes = takes;
    counted = stands.counted ∙ ap (λ (t : List Event). retired t) (sym is);
    reads = ap (λ (t : List Event). entered_digest image.layout t) is ∙ stands.reads;
    expected = let P : List Event → Type 0 = λ t. ReadsExpected image.layout (history t) in subst P (sym is) stands.expected;
  }

  pub ends-turn : (turn : Turn) (limit : Option ℕ) (out held : List ℕ) (count : ℕ) (core : Processor) (memory : SecureMemory O L) (port : Port) (parts : Parts L) (last : List Event) (old_veil : Veil) (entered : Bool)
      → LeadsTo (sight_on lines trace room told same) (room_on lines trace room told same) (program_of image input) fuel turn limit out held count old_veil (record { core = core; memory = memory; port = port })
      → old_veil ≡ veil → (turn ≡ Parked → IsWatched (sight_of lines trace room told memory)) → parts.tree ≡ memory.tree → parts.log ≡ memory.log → parts.stamps ≡ memory.stamps
      → parts.modes ≡ memory.mode_unit → parts.layout ≡ memory.layout → last ≡ trace memory.lent.now → port.input.now ≡ input → port.next ≤ length port.input.now → entered ≡ true
      → EndsTurn lines image input veil fuel turn last limit out (record { parts = Some parts; core = core; next = port.next; held = held; fuel = fuel; retired = count; entered = entered })
  ends-turn (Over end) limit out held count core memory port parts last old_veil entered leads same_veil ready tree log stamps modes layout is input_is within is_entered =
      let P : Veil → Type 0 = λ v. RunIsOver v (program_of image input) fuel out end (trace memory.lent.now) in
      let Q : List Event → Type 0 = λ t. RunIsOver veil (program_of image input) fuel out end t in
      subst Q (sym is) (subst P same_veil leads)
  ends-turn Parked limit out held count core memory port parts last old_veil entered leads same_veil ready tree log stamps modes layout is input_is within is_entered =
      let running = leads.0 in
      let S : Parts L → Type 0 = λ p. MemoryStands p.layout p.tree (lines p.tree.lines) p.log p.stamps (trace memory.lent.now) in
      let plain_parts : Parts L = record { tree = memory.tree; log = memory.log; stamps = memory.stamps; modes = memory.mode_unit; layout = memory.layout } in
      let equal : parts ≡ plain_parts = same-parts plain_parts parts tree log stamps modes layout in
      let here : S plain_parts = (ready refl).ready.stands in
      let N : List Event → Type 0 = λ t. MemoryStands parts.layout parts.tree (lines parts.tree.lines) parts.log parts.stamps t in (
        parked parts (record {
          kept = refl;
          entered = is_entered;
          stands = record {
            stands = subst N (sym is) (subst S (sym equal) here);
            sound =
                let T : List Event → Type 0 = λ t. IsSound parts.layout t in
                let U : Layout → Type 0 = λ l. IsSound l (trace memory.lent.now) in
                subst T (sym is) (subst U (sym layout) (ready refl).sound);
            same_veil = ap (λ (t : TreeParts L Padding). hidden_payload t.veil) tree ∙ leads.1 ∙ same_veil;
            boundary = λ other other_is next_is.
                off-bus lines trace room told same (program_of image input) fuel out held core memory parts last port other (sym tree) (sym log) (sym stamps) (sym modes) (sym layout) (sym is)
                (other_is ∙ sym input_is) next_is running.stands;
            layout = layout ∙ running.stands.tied.layout;
            within = subst (λ (xs : List ℕ). port.next ≤ length xs) input_is within;
            counted = running.counted ∙ ap (λ (t : List Event). retired t) (sym is);
            reads = ap (λ (t : List Event). entered_digest image.layout t) is ∙ running.reads;
            expected = let R : List Event → Type 0 = λ t. ReadsExpected image.layout (history t) in subst R (sym is) running.expected;
          };
        }),
        running.takes,
        refl,
      )
