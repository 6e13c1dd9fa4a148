-- What the other calls of a secure memory do to it, as the machine sees it.
use Rattle.std.proofs.Common.{◌≡◌, ℕ, suc, ◌+◌, ◌-◌, ◌*◌, ◌<◌, ◌≤◌, length, Bool, true, false, Option, Some, None, Result, Ok, Err, List, [], ◌∷◌, ◌++◌, refl, sym, ap, ◌∙◌, subst, append-nil, append_assoc, arith}
use Rattle.std.specs.Prelude.{IfErr, IsTrue, OnOk, if◌then◌else◌, nat_le, nat_lt, slice_index, slice_index_or}
use Rattle.std.specs.List.{All, list_all}
use Rattle.std.proofs.lemmas.Bool.{and_from, and_parts}
use Rattle.std.proofs.lemmas.Bool.Decides.{nat_tests}
use Rattle.std.proofs.lemmas.List.Elements.{All-head, All-tail}
use Rattle.std.proofs.lemmas.List.Folds.{list_all-append}
use Rattle.aegis_num.specs.declared.storage.Block.{Block}
use Rattle.aegis_num.specs.declared.storage.Place.{Place}
use Rattle.aegis_num.specs.declared.storage.Place.TheVariants.{Log, Tree}
use Rattle.regions.specs.declared.addresses.TheConstants.{LOG_START}
use Rattle.regions.specs.declared.layout.Layout.{Layout}
use Rattle.regions.specs.declared.rights.Mode.{Mode}
use Rattle.regions.specs.declared.layout.TheConstants.{MAX_DATA_BLOCKS}
use Rattle.regions.specs.Addresses.{block_start}
use Rattle.regions.specs.Blocks.{data_blocks}
use Rattle.regions.specs.Modes.{Modes, Resume as ResumeInstruction, Suspend as SuspendInstruction, is_secure, modes_after}
use Rattle.off_chip.specs.BusCalls.{IsMarkInside, TellsOnly}
use Rattle.off_chip.specs.Epochs.{LogEntry}
use Rattle.off_chip.specs.declared.event.Event.{Event}
use Rattle.off_chip.specs.declared.event.Event.TheVariants.{BlockRead, BlockWrite, Note, WordRead, WordWrite}
use Rattle.off_chip.specs.declared.event.Mark.{Mark}
use Rattle.off_chip.specs.declared.event.Mark.TheVariants as mark
use Rattle.orbis_core.specs.ByteOrder.{words_in}
use Rattle.line_cache.specs.LineMaps.{HoldParents, LineMap, payload_at}
use Rattle.hash_tree.specs.HashTrees.{nodes_of}
use Rattle.hash_tree.specs.TreeParts.{TreeParts}
use Rattle.stamp_log.specs.declared.causes.LogCause.{LogCause}
use Rattle.stamp_log.specs.LogState.{LogLines, LogState, line_of, stamped}
use Rattle.stamp_log.specs.LogCalls.{HoldsNothing, MakesRoom, WritesBack}
use Rattle.stamp_log.specs.LogEvents.{EndsCheck, ReadsInOrder, RunsCheck, reads_from}
use Rattle.untrusted_run.specs.PhaseLaws.{IsOpenEvent}
use Rattle.untrusted_run.specs.Phases.{IsPhase}
use Rattle.untrusted_run.specs.declared.phase.UntrustedEnd.{UntrustedEnd}
use Rattle.untrusted_run.proofs.LawLemmas.{phases-open}
use Rattle.secure_memory.specs.BlockWords.{is_memory_block, start_at}
use Rattle.secure_memory.specs.MemorySights.{Agrees, IsReady, Sight as SecureSight, line_in, veil_of}
use Rattle.secure_memory.specs.MemoryStands.{MemoryStands}
use Rattle.secure_memory.specs.OutsideEvents.{is_outside}
use Rattle.secure_memory.specs.PrivatePads.{Padding, hidden_payload}
use Rattle.secure_memory.proofs.OpenActs.{with_trace}
use Rattle.secure_memory.proofs.OutsideProofs.{outside-law}
use Rattle.bus_machine.specs.BusMachine.{Veil, blocks_taken, memory_after}
use Rattle.bus_machine.proofs.SegmentLemmas.{taken-append}
use Rattle.aegis_machine.specs.Guards.{Leads, LeadsOn, MissesCheck, PassesCheck, Suspends, is_own_mark}
use Rattle.aegis_machine.specs.InstructionsDone.{is_log_event}
use Rattle.aegis_machine.specs.SecureSights.{bus_sight}
use Rattle.aegis_machine.proofs.LogEvents.{logs-stay}

-- ---- events at no place of a block

outside-after : (layout : Layout) (veil : Veil) (event : Event) (memory : ℕ → ℕ) → is_outside event ≡ true → memory_after layout veil event memory ≡ memory
outside-after layout veil (BlockRead at block) memory outside = cc
outside-after layout veil (BlockWrite at block) memory outside = refl
outside-after layout veil (WordRead by at word) memory outside = refl
outside-after layout veil (WordWrite by at word) memory outside = refl
outside-after layout veil (Note mark) memory outside = refl

outside-taken : (layout : Layout) (veil : Veil) (events : List Event) (memory : ℕ → ℕ) → list_all is_outside events ≡ true → blocks_taken layout veil events memory ≡ memory
outside-taken layout veil [] memory outside = refl
outside-taken layout veil (event ∷ events) memory outside =
    let parts = and_parts (is_outside event) (list_all is_outside events) outside in
    ap (λ (m : ℕ → ℕ). blocks_taken layout veil events m) (outside-after layout veil event memory parts.0) ∙ outside-taken layout veil events memory parts.1

outside-stands : {L : Type 0} (layout : Layout) (tree : TreeParts L Padding) (lines : LineMap) (log : LogState) (stamps : ℕ) (trace events : List Event) → list_all is_outside events ≡ true
    → MemoryStands layout tree lines log stamps trace → MemoryStands layout tree lines log stamps (trace ++ events)
outside-stands layout tree lines log stamps trace [] outside stands =
    subst (λ (t : List Event). MemoryStands layout tree lines log stamps t) (sym (append-nil trace)) stands
outside-stands {L} layout tree lines log stamps trace (event ∷ events) outside stands =
    let parts = and_parts (is_outside event) (list_all is_outside events) outside in
    subst (λ (t : List Event). MemoryStands layout tree lines log stamps t) (append_assoc trace (event ∷ []) events)
    (outside-stands layout tree lines log stamps (trace ++ event ∷ []) events parts.1
    (outside-law L layout tree lines log stamps event trace (trace ++ event ∷ []) parts.0 refl stands))

pub own-outside : (mark : Mark) → is_own_mark mark ≡ true → list_all is_outside (Note mark ∷ []) ≡ true
own-outside (mark.Retire by) own = refl
own-outside (mark.Sent count) own = refl
own-outside mark.Enter own = cc
own-outside (mark.Drop at) own = cc
own-outside mark.CheckStart own = cc
own-outside mark.CheckPassed own = cc
own-outside mark.Suspend own = cc
own-outside mark.Resume own = cc

pub own-inside : (told : Option Layout) (mark : Mark) → is_own_mark mark ≡ true → IsMarkInside told mark
own-inside told (mark.Retire by) own = tt
own-inside told (mark.Sent count) own = tt
own-inside told mark.Enter own = tt
own-inside told (mark.Drop at) own = let e : false ≡ true = own in cc
own-inside told mark.CheckStart own = tt
own-inside told mark.CheckPassed own = tt
own-inside told mark.Suspend own = tt
own-inside told mark.Resume own = tt

-- ---- the events of a phase of untrusted code

open-outside : (event : Event) → IsOpenEvent event → is_outside event ≡ true
open-outside (WordRead by at word) is = refl
open-outside (WordWrite by at word) is = refl
open-outside (Note (mark.Retire by)) is = refl
open-outside (BlockRead at block) is = absurd is
open-outside (BlockWrite at block) is = absurd is
open-outside (Note (mark.Sent count)) is = absurd is
open-outside (Note mark.Enter) is = absurd is
open-outside (Note (mark.Drop at)) is = absurd is
open-outside (Note mark.CheckStart) is = absurd is
open-outside (Note mark.CheckPassed) is = absurd is
open-outside (Note mark.Suspend) is = absurd is
open-outside (Note mark.Resume) is = absurd is

pub opens-outside : (events : List Event) → All IsOpenEvent events → list_all is_outside events ≡ true
opens-outside [] opens = refl
opens-outside (event ∷ events) opens =
    and_from (is_outside event) (list_all is_outside events) (open-outside event (All-head IsOpenEvent event events opens)) (opens-outside events (All-tail IsOpenEvent event events opens))

-- with a mark before and one after it
abbrev pub suspended : List Event → List Event
suspended phase = Note mark.Suspend ∷ (phase ++ Note mark.Resume ∷ [])

suspended-outside : (phase : List Event) (end : UntrustedEnd) → IsPhase phase end → list_all is_outside (suspended phase) ≡ true
suspended-outside phase end is =
    list_all-append is_outside phase (Note mark.Resume ∷ []) ∙ and_from (list_all is_outside phase) true (opens-outside phase (phases-open.events phase end is)) refl

-- ---- modes

mode-suspended : (modes : Modes) → IsTrue (is_secure modes.mode) → (modes_after ResumeInstruction (modes_after SuspendInstruction modes)).mode ≡ modes.mode
mode-suspended modes secure = rw secure refl

pub mode-resumed : (modes left back : Modes) → IsTrue (is_secure modes.mode) → left ≡ modes_after SuspendInstruction modes → back ≡ modes_after ResumeInstruction left → back.mode ≡ modes.mode
mode-resumed modes left back secure leaves comes =
    ap (λ (m : Modes). m.mode) comes ∙ ap (λ (m : Modes). (modes_after ResumeInstruction m).mode) leaves ∙ mode-suspended modes secure

-- ---- what is seen of the memory

module _ {L M : Type 0} (seen : M → SecureSight L) where
  pub outside-leads : (events trace : List Event) (room : ℕ) (told : Option Layout) (old new : M) → seen new ≡ with_trace (seen old) trace room told → trace ≡ (seen old).trace ++ events
      → list_all is_outside events ≡ true → LeadsOn (bus_sight seen) events old new
  outside-leads events trace room told old new same appended outside =
      let taken : (memory : ℕ → ℕ) → blocks_taken (seen old).layout (veil_of (seen old)) events memory ≡ memory =
      λ memory. outside-taken (seen old).layout (veil_of (seen old)) events memory outside in
      record {
        leads = record {
          trace = ap (λ (s : SecureSight L). s.trace) same ∙ appended;
          layout = ap (λ (s : SecureSight L). s.layout) same;
          veil = ap (λ (s : SecureSight L). veil_of s) same;
          data_stays = λ memory at below. ap (λ (m : ℕ → ℕ). m at) (taken memory);
          agrees = λ memory agrees.
              let there : Agrees (with_trace (seen old) trace room told) memory = record { line = agrees.line } in
              subst (λ (m : ℕ → ℕ). Agrees (seen new) m) (sym (taken memory)) (subst (λ (s : SecureSight L). Agrees s memory) (sym same) there);
        };
        mode = ap (λ (s : SecureSight L). s.mode) same;
      }

  pub outside-ready : (events trace : List Event) (room : ℕ) (told : Option Layout) (old new : M) → seen new ≡ with_trace (seen old) trace room told → trace ≡ (seen old).trace ++ events
      → told ≡ (seen old).told → list_all is_outside events ≡ true → IsReady (seen old) → IsReady (seen new)
  outside-ready events trace room told old new same appended tells outside ready =
      let there : IsReady (with_trace (seen old) trace room told) = record {
        stands = subst (λ (t : List Event). MemoryStands (seen old).layout (seen old).tree (seen old).lines (seen old).log (seen old).stamps t) (sym appended)
            (outside-stands (seen old).layout (seen old).tree (seen old).lines (seen old).log (seen old).stamps (seen old).trace events outside ready.stands);
        parents = ready.parents;
        few = ready.few;
        told = subst (λ (t : Option Layout). TellsOnly (seen old).layout t) (sym tells) ready.told;
      } in
      subst (λ (s : SecureSight L). IsReady s) (sym same) there

  phase-trace : (phase first second trace start : List Event) → first ≡ start ++ Note mark.Suspend ∷ [] → second ≡ first ++ phase → trace ≡ second ++ Note mark.Resume ∷ []
      → trace ≡ start ++ suspended phase
  phase-trace phase first second trace start one two three =
      three ∙ ap (λ (t : List Event). t ++ Note mark.Resume ∷ []) (two ∙ ap (λ (t : List Event). t ++ phase) one)
      ∙ append_assoc (start ++ Note mark.Suspend ∷ []) phase (Note mark.Resume ∷ [])
      ∙ append_assoc start (Note mark.Suspend ∷ []) (phase ++ Note mark.Resume ∷ [])

  -- untrusted code has run, after which the mode is as before
  same-mode : (mode : Mode) (trace : List Event) (room : ℕ) (told : Option Layout) (old new : M) → seen new ≡ record (with_trace (seen old) trace room told) { mode = mode }
      → mode ≡ (seen old).mode → seen new ≡ with_trace (seen old) trace room told
  same-mode mode trace room told old new same is = same ∙ ap (λ (m : Mode). record (with_trace (seen old) trace room told) { mode = m }) is

  pub phase-suspends : (phase first second trace : List Event) (end : UntrustedEnd) (mode : Mode) (room : ℕ) (told : Option Layout) (old new : M)
      → seen new ≡ record (with_trace (seen old) trace room told) { mode = mode } → mode ≡ (seen old).mode
      → first ≡ (seen old).trace ++ Note mark.Suspend ∷ [] → second ≡ first ++ phase → trace ≡ second ++ Note mark.Resume ∷ [] → IsPhase phase end → Suspends (bus_sight seen) old new
  phase-suspends phase first second trace end mode room told old new same mode_is one two three is =
      record {
        events = suspended phase;
        suspension = record { phase = phase; end = end; events_are = refl; untrusted = is };
        leads_on = outside-leads (suspended phase) trace room told old new (same-mode mode trace room told old new same mode_is)
            (phase-trace phase first second trace (seen old).trace one two three) (suspended-outside phase end is);
      }

  pub phase-ready : (phase first second trace : List Event) (end : UntrustedEnd) (mode : Mode) (room : ℕ) (told : Option Layout) (old new : M)
      → seen new ≡ record (with_trace (seen old) trace room told) { mode = mode } → mode ≡ (seen old).mode
      → first ≡ (seen old).trace ++ Note mark.Suspend ∷ [] → second ≡ first ++ phase → trace ≡ second ++ Note mark.Resume ∷ [] → IsPhase phase end → told ≡ (seen old).told
      → IsReady (seen old) → IsReady (seen new)
  phase-ready phase first second trace end mode room told old new same mode_is one two three is tells ready =
      outside-ready (suspended phase) trace room told old new (same-mode mode trace room told old new same mode_is)
      (phase-trace phase first second trace (seen old).trace one two three) tells (suspended-outside phase end is) ready

-- ---- the events of a check

record GrowsByLog (before after : List Event) : Type 0 where
  events : List Event
  appended : after ≡ before ++ events
  each : list_all is_log_event events ≡ true

grows-none : (before : List Event) → GrowsByLog before before
grows-none before = record { events = []; appended = sym (append-nil before); each = refl }

grows-one : (first before after : List Event) (event : Event) → GrowsByLog first before → is_log_event event ≡ true → after ≡ before ++ event ∷ [] → GrowsByLog first after
grows-one first before after event grows is appended = record {
  events = grows.events ++ event ∷ [];
  appended = appended ∙ ap (λ (t : List Event). t ++ event ∷ []) grows.appended ∙ append_assoc first grows.events (event ∷ []);
  each = list_all-append is_log_event grows.events (event ∷ [])
      ∙ and_from (list_all is_log_event grows.events) (list_all is_log_event (event ∷ [])) grows.each (and_from (is_log_event event) true is refl);
}

room-grows : (blocks : ℕ) (first before after : List Event) (old new : LogLines) → MakesRoom blocks before after old new → GrowsByLog first before → GrowsByLog first after
room-grows blocks first before after old new (MakesRoom.nothing same held payloads) grows = subst (λ (t : List Event). GrowsByLog first t) (sym same) grows
room-grows blocks first before after old new (MakesRoom.written n stamp payload less line same held payloads) grows =
    grows-one first before after (BlockWrite (Log n) (stamped payload stamp)) grows refl same

writes-grow : (blocks : ℕ) (first before after : List Event) (old new : LogLines) → WritesBack blocks before after old new → GrowsByLog first before → GrowsByLog first after
writes-grow blocks first before after old new (WritesBack.none trace lines) grows = grows
writes-grow blocks first before after old new (WritesBack.more start middle end older between newer writes room) grows =
    room-grows blocks first middle after between new room (writes-grow blocks first before middle old between writes grows)

reads-grow : (n : ℕ) (read : List Block) (first before : List Event) → GrowsByLog first before → GrowsByLog first (before ++ reads_from n read)
reads-grow n [] first before grows = subst (λ (t : List Event). GrowsByLog first t) (sym (append-nil before)) grows
reads-grow n (block ∷ read) first before grows =
    subst (λ (t : List Event). GrowsByLog first t) (append_assoc before (BlockRead (Log n) block ∷ []) (reads_from (suc n) read))
    (reads-grow (suc n) read first (before ++ BlockRead (Log n) block ∷ [])
    (grows-one first before (before ++ BlockRead (Log n) block ∷ []) (BlockRead (Log n) block) grows refl refl))

order-grows : (count : ℕ) (first before after : List Event) → ReadsInOrder count before after → GrowsByLog first before → GrowsByLog first after
order-grows count first before after reads grows =
    subst (λ (t : List Event). GrowsByLog first t) (sym reads.events) (reads-grow 0 reads.read first before grows)

-- after its first mark a check that passes makes such events and then its last mark, and one that does not makes such events alone
record PassesAfter (first after : List Event) : Type 0 where
  compared : List Event
  grows : GrowsByLog first compared
  last : after ≡ compared ++ Note mark.CheckPassed ∷ []

ends-pass : (value : LogEntry → ℕ) (blocks : ℕ) (first before after : List Event) → EndsCheck value blocks before after (Ok tt) → GrowsByLog first before → PassesAfter first after
ends-pass value blocks first before after (EndsCheck.passes compared reads agree same is) grows =
    record { compared = compared; grows = order-grows blocks first before compared reads grows; last = same }
ends-pass value blocks first before after (EndsCheck.differs read written reads differ is) grows = cc
ends-pass value blocks first before after (EndsCheck.stops event stopped is) grows = cc

ends-miss : (value : LogEntry → ℕ) (blocks : ℕ) (first before after : List Event) (cause : LogCause) → EndsCheck value blocks before after (Err cause) → GrowsByLog first before
    → GrowsByLog first after
ends-miss value blocks first before after cause (EndsCheck.passes compared reads agree same is) grows = cc
ends-miss value blocks first before after cause (EndsCheck.differs read written reads differ is) grows = order-grows blocks first before after reads grows
ends-miss value blocks first before after cause (EndsCheck.stops event stopped is) grows =
    grows-one first stopped.middle after (BlockRead (Log stopped.n) stopped.block) (order-grows stopped.n first before stopped.middle stopped.earlier grows) refl stopped.last

check-starts : (value : LogEntry → ℕ) (blocks : ℕ) (result : Result (Unit {0}) LogCause) (before after : List Event) (old new : LogLines)
    → (runs : RunsCheck value blocks result before after old new) → GrowsByLog (before ++ Note mark.CheckStart ∷ []) runs.middle
check-starts value blocks result before after old new runs =
    writes-grow blocks (before ++ Note mark.CheckStart ∷ []) (before ++ Note mark.CheckStart ∷ []) runs.middle old new runs.writes (grows-none (before ++ Note mark.CheckStart ∷ []))

no-line : (lines : LogLines) (n : ℕ) (payload : List ℕ) → HoldsNothing lines → line_of lines n ≡ Some payload → ⊥
no-line lines n payload nothing line =
    let none : line_of lines n ≡ None = ap (λ (b : Bool). if b then Some (slice_index_or lines.payloads n []) else None) (nothing.nothing n) in
    let e : None ≡ Some payload = sym none ∙ line in cc

tree-words : (layout : Layout) (n k : ℕ) → IsTrue (is_memory_block layout (Tree n)) → k < 16 → start_at layout (Tree n) + 4 * k < LOG_START
tree-words layout n k is less =
    let parts = and_parts (nat_le (nodes_of layout) n) (nat_lt n (nodes_of layout + data_blocks layout)) is in
    words-below (nodes_of layout) (data_blocks layout) n k (grind (arith, nat_tests, parts.0)) (grind (arith, nat_tests, parts.1)) layout.data_fits less
  where
    words-below : (nodes blocks n k : ℕ) → nodes ≤ n → n < nodes + blocks → blocks ≤ MAX_DATA_BLOCKS → k < 16 → block_start (n - nodes) + 4 * k < LOG_START
    words-below nodes blocks n k least below fits less = omega (arith, least, below, fits, less)

-- the events of a check that passes
abbrev checked : List Event → List Event
checked middle = Note mark.CheckStart ∷ (middle ++ Note mark.CheckPassed ∷ [])

checked-stay : (layout : Layout) (veil : Veil) (middle : List Event) (memory : ℕ → ℕ) (at : ℕ) → list_all is_log_event middle ≡ true → at < LOG_START
    → blocks_taken layout veil (checked middle) memory at ≡ memory at
checked-stay layout veil middle memory at each below =
    ap (λ (m : ℕ → ℕ). m at) (taken-append layout veil middle (Note mark.CheckPassed ∷ []) memory) ∙ logs-stay layout veil middle memory at each below

started : (middle before : List Event) → (before ++ Note mark.CheckStart ∷ []) ++ middle ≡ before ++ Note mark.CheckStart ∷ middle
started middle before = append_assoc before (Note mark.CheckStart ∷ []) middle

passed-trace : (middle before compared after : List Event) → compared ≡ (before ++ Note mark.CheckStart ∷ []) ++ middle → after ≡ compared ++ Note mark.CheckPassed ∷ [] → after ≡ before ++ checked middle
passed-trace middle before compared after one two =
    two ∙ ap (λ (t : List Event). t ++ Note mark.CheckPassed ∷ []) (one ∙ started middle before) ∙ append_assoc before (Note mark.CheckStart ∷ middle) (Note mark.CheckPassed ∷ [])

module _ {L M : Type 0} (seen : M → SecureSight L) where
  check-agrees : (events : List Event) (old new : M) → ((memory : ℕ → ℕ) (at : ℕ) → at < LOG_START → blocks_taken (seen old).layout (veil_of (seen old)) events memory at ≡ memory at)
      → (seen new).lines ≡ (seen old).lines → HoldsNothing (seen new).log.lines → (memory : ℕ → ℕ) → Agrees (seen old) memory → (place : Place) (payload : List ℕ)
      → IsTrue (is_memory_block (seen old).layout place) → line_in (seen new) place ≡ Some payload → (k : ℕ) → k < 16
      → blocks_taken (seen old).layout (veil_of (seen old)) events memory (start_at (seen old).layout place + 4 * k) ≡ slice_index (words_in payload) k
  check-agrees events old new stay lines nothing memory agrees (Tree n) payload is line k less =
      stay memory (start_at (seen old).layout (Tree n) + 4 * k) (tree-words (seen old).layout n k is less)
      ∙ agrees.line (Tree n) payload is (subst (λ (l : LineMap). payload_at l n ≡ Some payload) lines line) k less
  check-agrees events old new stay lines nothing memory agrees (Log n) payload is line k less = absurd (no-line (seen new).log.lines n payload nothing line)

  check-leads : (middle : List Event) (old new : M) → list_all is_log_event middle ≡ true → (seen new).trace ≡ (seen old).trace ++ checked middle → HoldsNothing (seen new).log.lines
      → (seen new).layout ≡ (seen old).layout → (seen new).tree ≡ (seen old).tree → (seen new).lines ≡ (seen old).lines → Leads (bus_sight seen) (checked middle) old new
  check-leads middle old new each appended nothing layout tree lines = record {
    trace = appended;
    layout = layout;
    veil = ap (λ (t : TreeParts L Padding). hidden_payload t.veil) tree;
    data_stays = λ memory at below. checked-stay (seen old).layout (veil_of (seen old)) middle memory at each below;
    agrees = λ memory agrees. record {
      line = λ place payload is line k less.
          ap (λ (l : Layout). blocks_taken (seen old).layout (veil_of (seen old)) (checked middle) memory (start_at l place + 4 * k)) layout
          ∙ check-agrees (checked middle) old new (λ other at below. checked-stay (seen old).layout (veil_of (seen old)) middle other at each below) lines nothing memory agrees place payload
          (subst (λ (l : Layout). IsTrue (is_memory_block l place)) layout is) line k less;
    };
  }

  pub check-passes : (value : LogEntry → ℕ) (blocks : ℕ) (result : Result (Unit {0}) LogCause) (old new : M)
      → RunsCheck value blocks result (seen old).trace (seen new).trace (seen old).log.lines (seen new).log.lines
      → (seen new).layout ≡ (seen old).layout → (seen new).tree ≡ (seen old).tree → (seen new).lines ≡ (seen old).lines → (seen new).mode ≡ (seen old).mode
      → OnOk result (PassesCheck (bus_sight seen) old new)
  check-passes value blocks (Err cause) old new runs layout tree lines mode = tt
  check-passes value blocks (Ok nothing) old new runs layout tree lines mode =
      let starts = check-starts value blocks (Ok nothing) (seen old).trace (seen new).trace (seen old).log.lines (seen new).log.lines runs in
      let passes = ends-pass value blocks ((seen old).trace ++ Note mark.CheckStart ∷ []) runs.middle (seen new).trace runs.ends starts in
      let appended : (seen new).trace ≡ (seen old).trace ++ checked passes.grows.events =
      passed-trace passes.grows.events (seen old).trace passes.compared (seen new).trace passes.grows.appended passes.last in
      record {
        events = checked passes.grows.events;
        check = record { middle = passes.grows.events; events_are = refl; blocks = passes.grows.each };
        leads_on = record { leads = check-leads passes.grows.events old new passes.grows.each appended runs.nothing layout tree lines; mode = mode };
      }

  pub check-misses : (Caused : LogCause → M → Type 0) (value : LogEntry → ℕ) (blocks : ℕ) (result : Result (Unit {0}) LogCause) (old new : M)
      → RunsCheck value blocks result (seen old).trace (seen new).trace (seen old).log.lines (seen new).log.lines
      → (seen new).layout ≡ (seen old).layout → (seen new).tree ≡ (seen old).tree → (seen new).mode ≡ (seen old).mode → IfErr result (λ cause. Caused cause new)
      → IfErr result (λ cause. MissesCheck (bus_sight seen) Caused cause old new)
  check-misses Caused value blocks (Ok nothing) old new runs layout tree mode caused = tt
  check-misses Caused value blocks (Err cause) old new runs layout tree mode caused =
      let starts = check-starts value blocks (Err cause) (seen old).trace (seen new).trace (seen old).log.lines (seen new).log.lines runs in
      let grows = ends-miss value blocks ((seen old).trace ++ Note mark.CheckStart ∷ []) runs.middle (seen new).trace cause runs.ends starts in
      record {
        events = Note mark.CheckStart ∷ grows.events;
        check = record { middle = grows.events; events_are = refl; blocks = grows.each };
        makes = record {
          trace = grows.appended ∙ started grows.events (seen old).trace;
          layout = layout;
          veil = ap (λ (t : TreeParts L Padding). hidden_payload t.veil) tree;
          mode = mode;
        };
        caused = caused;
      }

  pub check-ready : (old new : M) → MemoryStands (seen new).layout (seen new).tree (seen new).lines (seen new).log (seen new).stamps (seen new).trace
      → (seen new).layout ≡ (seen old).layout → (seen new).pinned ≡ (seen old).pinned → (seen new).told ≡ (seen old).told → IsReady (seen old) → IsReady (seen new)
  check-ready old new stands layout pinned told ready = record {
    stands = stands;
    parents = subst (λ (p : List ℕ). HoldParents p) (sym pinned) ready.parents;
    few = subst (λ (p : List ℕ). length p ≤ 9) (sym pinned) ready.few;
    told = subst (λ (t : Option Layout). TellsOnly (seen new).layout t) (sym told) (subst (λ (l : Layout). TellsOnly l (seen old).told) (sym layout) ready.told);
  }

-- what follows from what holds at Ok holds at Ok
pub on-ok-then : (result : Result (Unit {0}) LogCause) (P Q : Type 0) → (P → Q) → OnOk result P → OnOk result Q
on-ok-then (Ok nothing) P Q f holds = f holds
on-ok-then (Err cause) P Q f holds = tt
