-- Worked examples of what an instruction does: for each definition events of which it holds, and such of which it does not.
use Rattle.std.proofs.Common.{◌≡◌, ℕ, ◌<◌, Bool, true, false, List, [], ◌∷◌, ◌++◌, Option, Some, None, Result, Ok, lit≤, arith, refl, ap, subst, sym, ◌∙◌, inl, inr}
use Rattle.std.specs.Prelude.{◌&&◌, replicate}
use Rattle.std.specs.List.{All, list_all}
use Rattle.std.proofs.lemmas.List.Elements.{All-head}
use Rattle.aegis_num.specs.declared.Block.{Block}
use Rattle.aegis_num.specs.declared.Place.TheVariants.{Log, Tree}
use Rattle.off_chip.specs.declared.Event.{Event}
use Rattle.off_chip.specs.declared.Event.TheVariants.{BlockRead, BlockWrite, Note, WordRead, WordWrite}
use Rattle.off_chip.specs.declared.Mark.TheVariants.{CheckStart, CheckPassed, Drop, Enter, Resume, Retire, Sent, Suspend}
use Rattle.off_chip.specs.declared.Who.TheVariants.{Secure, Untrusted}
use Rattle.off_chip.specs.Histories.{History, history}
use Rattle.off_chip.specs.Epochs.{IsQuiet}
use Rattle.orbis_word.specs.Reading.{instruction_in, signed}
use Rattle.regions.specs.declared.Layout.{Layout}
use Rattle.regions.specs.declared.Mode.TheVariants.{Te}
use Rattle.orbis_core.specs.declared.Port.{Port}
use Rattle.orbis_core.specs.declared.StepEnd.{StepEnd}
use Rattle.orbis_core.specs.declared.StepEnd.TheVariants as end
use Rattle.orbis_core.specs.declared.Stop.{Stop}
use Rattle.orbis_core.specs.declared.Stop.TheVariants as stop
use Rattle.orbis_core.specs.declared.Why.TheVariants as why
use Rattle.orbis_core.specs.Accesses.{Accesses}
use Rattle.orbis_core.specs.Ideal.{Ended}
use Rattle.orbis_core.specs.OwnMemory.{is_permitted, secure_of_end}
use Rattle.orbis_core.specs.Processor.{Processor, reset_core}
use Rattle.orbis_core.specs.Rows.{GoesOnAfter, Machine, Steps}
use Rattle.stamp_log.specs.declared.LogCause.{LogCause}
use Rattle.stamp_log.specs.declared.LogCause.TheVariants.{Future}
use Rattle.execution.specs.Run.{run, state_of}
use Rattle.untrusted_run.specs.declared.UntrustedEnd.TheVariants as ends
use Rattle.untrusted_run.specs.PhaseLaws.{IsOpenEvent}
use Rattle.untrusted_run.proofs.LawLemmas.{phases-open}
use Rattle.untrusted_run.specs.Phases.{phase_start, phase_step}
use Rattle.bus_machine.specs.BusAccesses.{Sight, is_block_event}
use Rattle.aegis_machine.specs.declared.instructions.Done.{Done}
use Rattle.aegis_machine.specs.declared.instructions.Done.TheVariants as done
use Rattle.aegis_machine.specs.declared.instructions.Fault.TheVariants as fault
use Rattle.aegis_machine.specs.InstructionsDone.{ComesAfter, DoesSo, HandsOut, IsCheck, IsFailedCheck, IsSuspension, Releases, Settles, is_log_event, makes_check}
use Rattle.aegis_machine.specs.Ties.{end_of}
use Rattle.aegis_machine.proofs.LogEvents.{log-blocks}

-- a block of the log, and a read and a write of it
abbrev block : Block
block = record { payload = replicate 64 0; stamp = 3 }

abbrev read : Event
read = BlockRead (Log 0) block

abbrev write : Event
write = BlockWrite (Log 0) block

-- ---- checks

check : IsCheck (Note CheckStart ∷ write ∷ read ∷ Note CheckPassed ∷ [])
check = record { middle = write ∷ read ∷ []; events_are = refl; blocks = refl }

-- a check of a log with no block
empty-check : IsCheck (Note CheckStart ∷ Note CheckPassed ∷ [])
empty-check = record { middle = []; events_are = refl; blocks = refl }

failed-check : IsFailedCheck (Note CheckStart ∷ write ∷ read ∷ [])
failed-check = record { middle = write ∷ read ∷ []; events_are = refl; blocks = refl }

-- a test of the events after the first mark, which those of a check pass
abbrev ends_check : List Event → Bool
ends_check [] = false
ends_check (Note CheckPassed ∷ []) = true
ends_check (event ∷ events) = is_block_event event && ends_check events

ends-tested : (middle : List Event) → list_all is_block_event middle ≡ true → ends_check (middle ++ Note CheckPassed ∷ []) ≡ true
ends-tested [] blocks = refl
ends-tested (BlockRead at block ∷ middle) blocks = ends-tested middle blocks
ends-tested (BlockWrite at block ∷ middle) blocks = ends-tested middle blocks
ends-tested (WordRead by at word ∷ middle) blocks = cc
ends-tested (WordWrite by at word ∷ middle) blocks = cc
ends-tested (Note (Drop at) ∷ middle) blocks = ends-tested middle blocks
ends-tested (Note Enter ∷ middle) blocks = cc
ends-tested (Note (Retire by) ∷ middle) blocks = cc
ends-tested (Note CheckStart ∷ middle) blocks = cc
ends-tested (Note CheckPassed ∷ middle) blocks = cc
ends-tested (Note (Sent count) ∷ middle) blocks = cc
ends-tested (Note Suspend ∷ middle) blocks = cc
ends-tested (Note Resume ∷ middle) blocks = cc

abbrev rest_of : List Event → List Event
rest_of [] = []
rest_of (event ∷ events) = events

check-tested : (events : List Event) → IsCheck events → ends_check (rest_of events) ≡ true
check-tested events check = ap (λ (l : List Event). ends_check (rest_of l)) check.events_are ∙ ends-tested check.middle (log-blocks check.middle check.blocks)

-- it does not pass, a word is read in it, or a second mark of a check stands in it
not-passed : IsCheck (Note CheckStart ∷ write ∷ read ∷ []) → ⊥
not-passed check = let e : false ≡ true = check-tested _ check in cc

word-read : IsCheck (Note CheckStart ∷ WordRead Secure 0x8000 7 ∷ Note CheckPassed ∷ []) → ⊥
word-read check = let e : false ≡ true = check-tested _ check in cc

sent-inside : IsCheck (Note CheckStart ∷ Note (Sent 1) ∷ Note CheckPassed ∷ []) → ⊥
sent-inside check = let e : false ≡ true = check-tested _ check in cc

checked-twice : IsCheck (Note CheckStart ∷ read ∷ Note CheckPassed ∷ Note CheckPassed ∷ []) → ⊥
checked-twice check = let e : false ≡ true = check-tested _ check in cc

not-started : IsCheck (write ∷ read ∷ Note CheckPassed ∷ []) → ⊥
not-started check = let e = check.events_are in cc

nothing-checked : IsCheck [] → ⊥
nothing-checked check = let e = check.events_are in cc

passes-after-all : IsFailedCheck (Note CheckStart ∷ read ∷ Note CheckPassed ∷ []) → ⊥
passes-after-all check =
    let e : list_all is_log_event (read ∷ Note CheckPassed ∷ []) ≡ true =
    ap (λ (l : List Event). list_all is_log_event (rest_of l)) check.events_are ∙ check.blocks in cc

-- it reads no block of the tree
log_events : (is_log_event read ≡ true) × (is_log_event write ≡ true) × (is_log_event (BlockRead (Tree 0) block) ≡ false) × (is_log_event (BlockWrite (Tree 0) block) ≡ false)
    × (is_log_event (Note (Drop (Log 0))) ≡ false) × (is_log_event (WordRead Secure 0x8000 7) ≡ false) × (is_log_event (Note CheckPassed) ≡ false)
log_events = (refl, refl, refl, refl, refl, refl, refl)

fails-on-tree : IsFailedCheck (Note CheckStart ∷ BlockRead (Tree 0) block ∷ []) → ⊥
fails-on-tree check =
    let e : list_all is_log_event (BlockRead (Tree 0) block ∷ []) ≡ true =
    ap (λ (l : List Event). list_all is_log_event (rest_of l)) check.events_are ∙ check.blocks in cc

fails-unstarted : IsFailedCheck (read ∷ []) → ⊥
fails-unstarted check = let e = check.events_are in cc

-- ---- suspensions

-- a phase that resumes at once
suspension : IsSuspension (Note Suspend ∷ WordRead Untrusted 0x2000 0x70000003 ∷ Note (Retire Untrusted) ∷ Note Resume ∷ [])
unfolding instruction_in signed
suspension = record {
  phase = WordRead Untrusted 0x2000 0x70000003 ∷ Note (Retire Untrusted) ∷ [];
  end = ends.Resumed;
  events_are = refl;
  untrusted = record { at = state_of (run phase_step 4096 (phase_start (0x70000003 ∷ []))); ends = refl; events_are = refl; all_read = refl };
}

not-suspended : IsSuspension (WordRead Untrusted 0x2000 0x70000003 ∷ Note (Retire Untrusted) ∷ Note Resume ∷ []) → ⊥
not-suspended is = let e = is.events_are in cc

abbrev last_of : List Event → Option Event
last_of [] = None
last_of (event ∷ []) = Some event
last_of (event ∷ events) = last_of events

last-resumes : (phase : List Event) → last_of (phase ++ Note Resume ∷ []) ≡ Some (Note Resume)
last-resumes [] = refl
last-resumes (event ∷ []) = refl
last-resumes (event ∷ other ∷ events) = last-resumes (other ∷ events)

not-resumed : IsSuspension (Note Suspend ∷ WordRead Untrusted 0x2000 0x70000003 ∷ Note (Retire Untrusted) ∷ []) → ⊥
not-resumed is =
    let e : Some (Note (Retire Untrusted)) ≡ Some (Note Resume) = ap (λ (l : List Event). last_of (rest_of l)) is.events_are ∙ last-resumes is.phase in cc

-- the program itself reads a word in it
not-untrusted : IsSuspension (Note Suspend ∷ WordRead Secure 0x2000 0x70000003 ∷ Note Resume ∷ []) → ⊥
not-untrusted is =
    let opens = phases-open.events is.phase is.end is.untrusted in
    opens-tested is.phase opens is.events_are
  where
    opens-tested : (phase : List Event) → All IsOpenEvent phase → Note Suspend ∷ WordRead Secure 0x2000 0x70000003 ∷ Note Resume ∷ [] ≡ Note Suspend ∷ (phase ++ Note Resume ∷ []) → ⊥
    opens-tested [] opens same = cc
    opens-tested (WordRead Secure at word ∷ phase) opens same = All-head IsOpenEvent (WordRead Secure at word) phase opens
    opens-tested (WordRead Untrusted at word ∷ phase) opens same = cc
    opens-tested (WordWrite by at word ∷ phase) opens same = cc
    opens-tested (BlockRead at block ∷ phase) opens same = cc
    opens-tested (BlockWrite at block ∷ phase) opens same = cc
    opens-tested (Note mark ∷ phase) opens same = cc

-- ---- what is sent after a check

settles : Settles (1 ∷ 2 ∷ []) (Note CheckStart ∷ read ∷ Note CheckPassed ∷ Note (Sent 2) ∷ []) [] (1 ∷ 2 ∷ [])
settles = record { checked = Note CheckStart ∷ read ∷ Note CheckPassed ∷ []; check = record { middle = read ∷ []; events_are = refl; blocks = refl }; events_are = refl; none = refl; handed = refl }

-- nothing is held, so that no piece is sent
settles-none : Settles [] (Note CheckStart ∷ read ∷ Note CheckPassed ∷ []) [] []
settles-none = record { checked = Note CheckStart ∷ read ∷ Note CheckPassed ∷ []; check = record { middle = read ∷ []; events_are = refl; blocks = refl }; events_are = refl; none = refl; handed = refl }

-- no check is made, or it comes after the mark of the piece
unchecked : Settles (1 ∷ 2 ∷ []) (Note (Sent 2) ∷ []) [] (1 ∷ 2 ∷ []) → ⊥
unchecked settles = let first = settles.check.events_are in let e = settles.events_are in cc

sent-before : Settles (1 ∷ 2 ∷ []) (Note (Sent 2) ∷ Note CheckStart ∷ Note CheckPassed ∷ []) [] (1 ∷ 2 ∷ []) → ⊥
sent-before settles = let first = settles.check.events_are in let e = settles.events_are in cc

-- a byte stays held, another piece is handed out, or its mark is not made
still-held : Settles (1 ∷ 2 ∷ []) (Note CheckStart ∷ Note CheckPassed ∷ Note (Sent 2) ∷ []) (2 ∷ []) (1 ∷ 2 ∷ []) → ⊥
still-held settles = let e = settles.none in cc

other-piece : Settles (1 ∷ 2 ∷ []) (Note CheckStart ∷ Note CheckPassed ∷ Note (Sent 2) ∷ []) [] (1 ∷ []) → ⊥
other-piece settles = let e = settles.handed in cc

-- ---- releases

abbrev quiet : History
quiet = history []

abbrev waiting : History
waiting = history (read ∷ [])

is-quiet : IsQuiet quiet
is-quiet = record { nothing = refl }

is-waiting : IsQuiet waiting → ⊥
is-waiting quiet = let e = quiet.nothing in cc

released-at-once : Releases quiet 65 [] (Note (Sent 1) ∷ []) [] (65 ∷ [])
released-at-once = Releases.at_once is-quiet refl refl refl refl

released-later : Releases waiting 65 [] [] (65 ∷ []) []
released-later = Releases.waits (λ none quiet. is-waiting quiet) (omega arith) refl refl refl

-- other bytes are held before it, also where no read waits
released-after : Releases quiet 65 (1 ∷ []) [] (1 ∷ 65 ∷ []) []
released-after = Releases.waits (λ none quiet. cc) (omega arith) refl refl refl

released-full : Releases waiting 65 (replicate 255 1) (Note CheckStart ∷ read ∷ Note CheckPassed ∷ Note (Sent 256) ∷ []) [] (replicate 255 1 ++ 65 ∷ [])
released-full = Releases.fills (λ none quiet. is-waiting quiet) refl (record {
  checked = Note CheckStart ∷ read ∷ Note CheckPassed ∷ [];
  check = record { middle = read ∷ []; events_are = refl; blocks = refl };
  events_are = refl;
  none = refl;
  handed = refl;
})

-- it is not sent where a read waits, nor held where it could be sent, nor is the 256th byte held
abbrev Only : List ℕ → List Event → List ℕ → List ℕ → Type 0
Only held events kept piece = Releases waiting 65 held events kept piece

sent-unchecked : Only [] (Note (Sent 1) ∷ []) [] (65 ∷ []) → ⊥
sent-unchecked (Releases.at_once quiet none events kept piece) = is-waiting quiet
sent-unchecked (Releases.waits waits few events kept piece) = cc
sent-unchecked (Releases.fills waits full settles) = cc

sent-over-held : Releases quiet 65 (1 ∷ []) (Note (Sent 1) ∷ []) [] (65 ∷ []) → ⊥
sent-over-held (Releases.at_once quiet none events kept piece) = cc
sent-over-held (Releases.waits waits few events kept piece) = cc
sent-over-held (Releases.fills waits full settles) = cc

held-for-nothing : Releases quiet 65 [] [] (65 ∷ []) [] → ⊥
held-for-nothing (Releases.at_once quiet none events kept piece) = cc
held-for-nothing (Releases.waits waits few events kept piece) = waits refl is-quiet
held-for-nothing (Releases.fills waits full settles) = cc

held-too-many : Only (replicate 255 1) [] (replicate 255 1 ++ 65 ∷ []) [] → ⊥
held-too-many (Releases.at_once quiet none events kept piece) = cc
held-too-many (Releases.waits waits few events kept piece) = let e : 256 < 256 = few in absurd (omega (arith, e))
held-too-many (Releases.fills waits full settles) = let e = settles.handed in cc

-- nor is the byte left out, or put first
left-out : Only (1 ∷ []) [] (1 ∷ []) [] → ⊥
left-out (Releases.at_once quiet none events kept piece) = cc
left-out (Releases.waits waits few events kept piece) = cc
left-out (Releases.fills waits full settles) = cc

put-first : Only (1 ∷ []) [] (65 ∷ 1 ∷ []) [] → ⊥
put-first (Releases.at_once quiet none events kept piece) = cc
put-first (Releases.waits waits few events kept piece) = cc
put-first (Releases.fills waits full settles) = cc

-- ---- by the end of the step

-- a release is of the low byte
low-byte : ComesAfter (end.Released 321) quiet [] (Note (Sent 1) ∷ []) [] (65 ∷ [])
low-byte = Releases.at_once is-quiet refl refl refl refl

comes-check : ComesAfter end.Check quiet [] (Note CheckStart ∷ read ∷ Note CheckPassed ∷ []) [] []
comes-check = settles-none

comes-exit : ComesAfter end.Exit quiet [] (Note CheckStart ∷ read ∷ Note CheckPassed ∷ []) [] []
comes-exit = settles-none

comes-index : ComesAfter (end.Index 3) quiet [] (Note CheckStart ∷ read ∷ Note CheckPassed ∷ []) [] []
comes-index = settles-none

comes-divide : ComesAfter (end.Divide 3) quiet [] (Note CheckStart ∷ read ∷ Note CheckPassed ∷ []) [] []
comes-divide = settles-none

-- a trap without its check
exit-unchecked : ComesAfter end.Exit quiet [] [] [] [] → ⊥
exit-unchecked settles = let first = settles.check.events_are in let e = settles.events_are in cc

index-unchecked : ComesAfter (end.Index 3) quiet [] [] [] [] → ⊥
index-unchecked settles = let first = settles.check.events_are in let e = settles.events_are in cc

divide-unchecked : ComesAfter (end.Divide 3) quiet [] [] [] [] → ⊥
divide-unchecked settles = let first = settles.check.events_are in let e = settles.events_are in cc

check-unchecked : ComesAfter end.Check quiet [] [] [] [] → ⊥
check-unchecked settles = let first = settles.check.events_are in let e = settles.events_are in cc

-- what is held stays held over a suspension, and over another instruction, which makes no event
comes-suspended : ComesAfter end.Suspend waiting (1 ∷ []) (Note Suspend ∷ WordRead Untrusted 0x2000 0x70000003 ∷ Note (Retire Untrusted) ∷ Note Resume ∷ []) (1 ∷ []) []
comes-suspended = (suspension, (refl, refl))

suspended-unnoted : ComesAfter end.Suspend waiting (1 ∷ []) [] (1 ∷ []) [] → ⊥
suspended-unnoted comes = let e = comes.0.events_are in cc

suspended-sends : ComesAfter end.Suspend waiting (1 ∷ []) (Note Suspend ∷ WordRead Untrusted 0x2000 0x70000003 ∷ Note (Retire Untrusted) ∷ Note Resume ∷ []) [] (1 ∷ []) → ⊥
suspended-sends comes = let e = comes.1 in cc

comes-next : ComesAfter end.Next waiting (1 ∷ []) [] (1 ∷ []) []
comes-next = (refl, (refl, refl))

next-checks : ComesAfter end.Next waiting (1 ∷ []) (Note CheckStart ∷ Note CheckPassed ∷ []) (1 ∷ []) [] → ⊥
next-checks comes = let e = comes.0 in cc

next-sends : ComesAfter end.Next waiting (1 ∷ []) [] [] (1 ∷ []) → ⊥
next-sends comes = let e = comes.1 in cc

-- a check is made after four ends, and after a release that makes the held bytes 256
makes : (makes_check end.Check 0 ≡ true) × (makes_check end.Exit 0 ≡ true) × (makes_check (end.Index 3) 0 ≡ true) × (makes_check (end.Divide 3) 0 ≡ true)
    × (makes_check (end.Released 65) 255 ≡ true)
makes = (refl, refl, refl, refl, refl)

makes-none : (makes_check (end.Released 65) 254 ≡ false) × (makes_check (end.Released 65) 256 ≡ false) × (makes_check end.Suspend 255 ≡ false) × (makes_check end.Next 255 ≡ false)
    × (makes_check end.Input 255 ≡ false) × (makes_check (end.Private true) 255 ≡ false)
makes-none = (refl, refl, refl, refl, refl, refl)

-- ---- the sink

hands-piece : HandsOut done.Goes (Some (1 ∷ [])) (Some (1 ∷ 2 ∷ 3 ∷ [])) 4 4 (Some 10) (Some 8) (2 ∷ 3 ∷ [])
hands-piece = (refl, refl, refl)

hands-none : HandsOut (done.Fault (fault.Log (Future 7))) (Some (1 ∷ [])) (Some (1 ∷ [])) 4 4 None None []
hands-none = (refl, refl, refl)

hands-front : HandsOut (done.Fault fault.Sink) (Some (1 ∷ [])) (Some (1 ∷ 2 ∷ [])) 4 5 (Some 10) (Some 10) (2 ∷ 3 ∷ [])
hands-front = ((1, refl), omega arith, λ none. cc)

-- nothing is dropped, no fault is counted where the sink did not fail, and one is where it did
piece-dropped : HandsOut done.Goes (Some (1 ∷ [])) (Some (1 ∷ [])) 4 4 None None (2 ∷ []) → ⊥
piece-dropped hands = let e = hands.0 in cc

fault-counted : HandsOut done.Ended (Some []) (Some []) 4 5 None None [] → ⊥
fault-counted hands = let e : 5 ≡ 4 = hands.1 in absurd (omega (arith, e))

fault-uncounted : HandsOut (done.Fault fault.Sink) (Some []) (Some []) 4 4 None None (2 ∷ []) → ⊥
fault-uncounted hands = absurd (omega (arith, hands.1))

-- and it does not where there is no piece
fault-unsent : HandsOut (done.Fault fault.Sink) (Some []) (Some []) 4 5 None None [] → ⊥
fault-unsent hands = hands.2 refl

-- ---- a whole instruction, over a memory that is its trace and gives one word to each fetch

abbrev small : Layout
small = record { verified = 0; private = 0; constants = 0; code = 1; log = 1; shared = 0; data_fits = lit≤ tt; log_fits = lit≤ tt; shared_fits = lit≤ tt }

abbrev sight : Sight (List Event)
sight = record {
  layout = λ memory. small;
  veil = λ memory number stamp payload. payload;
  mode = λ memory. Te;
  trace = λ memory. memory;
  Agrees = λ memory words. Unit {0};
}

abbrev gives : ℕ → Accesses (List Event)
gives word = record {
  fetch = λ old at answer new. (answer ≡ Ok word) × (new ≡ old);
  load_word = λ old at answer new. ⊥;
  load_byte = λ old at answer new. ⊥;
  store_word = λ old at value answer new. ⊥;
  store_byte = λ old at value answer new. ⊥;
}

abbrev Caused : LogCause → List Event → Type 0
Caused cause memory = cause ≡ Future 7

module _ (port : Port) where
  abbrev at : ℕ → List Event → Machine (List Event)
  at pc trace = record { core = reset_core pc; memory = trace; port = port }

  -- how a step goes on after the word that it fetched
  goes-on : (word pc : ℕ) (old : List Event) (ended : StepEnd) (new : Machine (List Event)) → (steps : Steps (gives word) (at pc old) ended new)
      → GoesOnAfter (gives word) (Ok word) (record (at pc old) { memory = steps.middle }) ended new
  goes-on word pc old ended new steps =
      let P : Result ℕ Stop → Type 0 = λ a. GoesOnAfter (gives word) a (record (at pc old) { memory = steps.middle }) ended new in subst P steps.fetched.0 steps.goes_on

  -- the check instruction
  abbrev Checks : List ℕ → List ℕ → List ℕ → List Event → Type 0
  Checks held kept piece events = DoesSo sight (gives 0x70000008) Caused done.Goes held kept piece (at 0x10000000 (write ∷ [])) (at 0x10000004 (write ∷ events))

  does-check : Checks (1 ∷ 2 ∷ []) [] (1 ∷ 2 ∷ []) (Note CheckStart ∷ Note CheckPassed ∷ Note (Sent 2) ∷ Note (Retire Secure) ∷ [])
  unfolding instruction_in signed
  does-check = (
    end.Check,
    refl,
    record {
      middle = at 0x10000004 (write ∷ []);
      made = record {
        steps = record { answer = Ok 0x70000008; middle = write ∷ []; fetched = (refl, refl); goes_on = record { ends = refl; core = refl; memory = refl; port = refl } };
        not_stopped = λ reason is. cc;
        permitted = refl;
      };
      more = Note CheckStart ∷ Note CheckPassed ∷ Note (Sent 2) ∷ [];
      comes = record { checked = Note CheckStart ∷ Note CheckPassed ∷ []; check = record { middle = []; events_are = refl; blocks = refl }; events_are = refl; none = refl; handed = refl };
      retires = record {
        trace = refl;
        layout = refl;
        veil = refl;
        mode = refl;
        others = refl;
        none = λ not. cc;
        data_stays = λ memory at below. refl;
        agrees = λ memory agrees. tt;
      };
      core = refl;
      port = refl;
    },
  )

  last-retires : (first more : List Event) → last_of (first ++ (more ++ Note (Retire Secure) ∷ [])) ≡ Some (Note (Retire Secure))
  last-retires [] [] = refl
  last-retires [] (event ∷ []) = refl
  last-retires [] (event ∷ other ∷ events) = last-retires [] (other ∷ events)
  last-retires (event ∷ []) [] = refl
  last-retires (event ∷ []) (other ∷ more) = last-retires [] (other ∷ more)
  last-retires (event ∷ other ∷ first) more = last-retires (other ∷ first) more

  -- its mark stands before the piece is sent, or is not made
  retired-early : Checks (1 ∷ 2 ∷ []) [] (1 ∷ 2 ∷ []) (Note CheckStart ∷ Note CheckPassed ∷ Note (Retire Secure) ∷ Note (Sent 2) ∷ []) → ⊥
  retired-early does =
      let e : Some (Note (Sent 2)) ≡ Some (Note (Retire Secure)) = ap (λ (l : List Event). last_of l) does.2.retires.trace ∙ last-retires does.2.middle.memory does.2.more in cc

  not-retired : Checks (1 ∷ 2 ∷ []) [] (1 ∷ 2 ∷ []) (Note CheckStart ∷ Note CheckPassed ∷ Note (Sent 2) ∷ []) → ⊥
  not-retired does =
      let e : Some (Note (Sent 2)) ≡ Some (Note (Retire Secure)) = ap (λ (l : List Event). last_of l) does.2.retires.trace ∙ last-retires does.2.middle.memory does.2.more in cc

  -- the exit is no instruction after which the next one follows
  exit-goes : DoesSo sight (gives 0x70000001) Caused done.Goes [] [] [] (at 0x10000000 []) (at 0x10000004 (Note CheckStart ∷ Note CheckPassed ∷ Note (Retire Secure) ∷ [])) → ⊥
  unfolding instruction_in signed
  exit-goes does =
      let exits : does.0 ≡ end.Exit = (goes-on 0x70000001 0x10000000 [] does.0 does.2.middle does.2.made.steps).ends in
      let e : Some Ended ≡ None = ap (λ (x : StepEnd). end_of x) (sym exits) ∙ does.1 in cc

  -- nor does a check fail after an instruction after which none is made
  fails-undue : DoesSo sight (gives 0x15000000) Caused (done.Fault (fault.Log (Future 7))) [] [] [] (at 0x10000000 []) (at 0x10000004 (Note CheckStart ∷ read ∷ [])) → ⊥
  unfolding instruction_in signed
  fails-undue does =
      let next : does.0.ended ≡ end.Next = (goes-on 0x15000000 0x10000000 [] does.0.ended does.0.middle does.0.made.steps).ends in
      let e : false ≡ true = ap (λ (x : StepEnd). makes_check x 0) (sym next) ∙ does.1 in cc

  -- a word that is no instruction is refused, and what is held stays held
  illegal : DoesSo sight (gives 0xffffffff) Caused (done.Refused why.Illegal) (1 ∷ []) (1 ∷ []) [] (at 0x10000000 []) (at 0x10000000 [])
  unfolding instruction_in signed
  illegal = inl (record { steps = record { answer = Ok 0xffffffff; middle = []; fetched = (refl, refl); goes_on = record { ends = refl; core = refl; memory = refl; port = refl } }; waits = (refl, refl) })

  -- a second mark of entering is forbidden
  enters-again : DoesSo sight (gives 0x70000000) Caused (done.Refused why.Mode) (1 ∷ []) (1 ∷ []) [] (at 0x10000000 []) (at 0x10000004 [])
  unfolding instruction_in signed
  enters-again = inr (
    refl,
    record {
      ended = end.Enter;
      steps = record { answer = Ok 0x70000000; middle = []; fetched = (refl, refl); goes_on = record { ends = refl; core = refl; memory = refl; port = refl } };
      forbidden = refl;
      waits = (refl, refl);
    },
  )

  sent-at-refusal : DoesSo sight (gives 0x70000000) Caused (done.Refused why.Mode) (1 ∷ []) [] (1 ∷ []) (at 0x10000000 []) (at 0x10000004 []) → ⊥
  sent-at-refusal (inl does) = let e = does.waits.0 in cc
  sent-at-refusal (inr does) = let e = does.1.waits.0 in cc

  refused-permitted : DoesSo sight (gives 0x15000000) Caused (done.Refused why.Mode) [] [] [] (at 0x10000000 []) (at 0x10000004 []) → ⊥
  unfolding instruction_in signed
  refused-permitted (inl does) =
      let e : end.Stopped (stop.Refused why.Mode) ≡ end.Next = (goes-on 0x15000000 0x10000000 [] (end.Stopped (stop.Refused why.Mode)) (at 0x10000004 []) does.steps).ends in cc
  refused-permitted (inr does) =
      let next : does.1.ended ≡ end.Next = (goes-on 0x15000000 0x10000000 [] does.1.ended (at 0x10000004 []) does.1.steps).ends in
      let e : true ≡ false = ap (λ (x : StepEnd). is_permitted (secure_of_end x) Te) (sym next) ∙ does.1.forbidden in cc

  -- a check fails, and nothing is sent
  fails : DoesSo sight (gives 0x70000008) Caused (done.Fault (fault.Log (Future 7))) (1 ∷ []) (1 ∷ []) [] (at 0x10000000 []) (at 0x10000004 (Note CheckStart ∷ read ∷ []))
  unfolding instruction_in signed
  fails = (
    record {
      ended = end.Check;
      middle = at 0x10000004 [];
      made = record {
        steps = record { answer = Ok 0x70000008; middle = []; fetched = (refl, refl); goes_on = record { ends = refl; core = refl; memory = refl; port = refl } };
        not_stopped = λ reason is. cc;
        permitted = refl;
      };
      events = Note CheckStart ∷ read ∷ [];
      check = record { middle = read ∷ []; events_are = refl; blocks = refl };
      makes = record { trace = refl; layout = refl; veil = refl; mode = refl };
      caused = refl;
      none = refl;
    },
    refl,
  )

  sent-at-abort : DoesSo sight (gives 0x70000008) Caused (done.Fault (fault.Log (Future 7))) (1 ∷ []) [] (1 ∷ []) (at 0x10000000 []) (at 0x10000004 (Note CheckStart ∷ read ∷ [])) → ⊥
  sent-at-abort does = let e = does.0.none in cc

  other-cause : DoesSo sight (gives 0x70000008) Caused (done.Fault (fault.Log (Future 8))) (1 ∷ []) (1 ∷ []) [] (at 0x10000000 []) (at 0x10000004 (Note CheckStart ∷ read ∷ [])) → ⊥
  other-cause does = let e : 8 ≡ 7 = ap (λ (c : LogCause). number_of c) does.0.caused in absurd (omega (arith, e))
    where
      number_of : LogCause → ℕ
      number_of (Future event) = event
      number_of cause = 0

  fails-elsewhere : DoesSo sight (gives 0x70000008) Caused (done.Fault (fault.Log (Future 7))) (1 ∷ []) (1 ∷ []) [] (at 0x10000000 []) (at 0x10000004 []) → ⊥
  unfolding instruction_in signed
  fails-elsewhere does =
      let same = (goes-on 0x70000008 0x10000000 [] does.0.ended does.0.middle does.0.made.steps).memory ∙ does.0.made.steps.fetched.1 in
      let e : [] ≡ Note CheckStart ∷ does.0.check.middle = does.0.makes.trace ∙ ap (λ (l : List Event). l ++ does.0.events) same ∙ does.0.check.events_are in cc

  -- the sink fails after a check that passed, and after no instruction that hands out nothing
  sink-fails : DoesSo sight (gives 0x70000008) Caused (done.Fault fault.Sink) (1 ∷ []) [] (1 ∷ []) (at 0x10000000 []) (at 0x10000004 (Note CheckStart ∷ Note CheckPassed ∷ Note (Sent 1) ∷ []))
  unfolding instruction_in signed
  sink-fails = record {
    ended = end.Check;
    middle = at 0x10000004 [];
    made = record {
      steps = record { answer = Ok 0x70000008; middle = []; fetched = (refl, refl); goes_on = record { ends = refl; core = refl; memory = refl; port = refl } };
      not_stopped = λ reason is. cc;
      permitted = refl;
    };
    more = Note CheckStart ∷ Note CheckPassed ∷ Note (Sent 1) ∷ [];
    kept = [];
    comes = record { checked = Note CheckStart ∷ Note CheckPassed ∷ []; check = record { middle = []; events_are = refl; blocks = refl }; events_are = refl; none = refl; handed = refl };
    makes = record { trace = refl; layout = refl; veil = refl; mode = refl };
  }

  sink-undue : DoesSo sight (gives 0x15000000) Caused (done.Fault fault.Sink) (1 ∷ []) [] (1 ∷ []) (at 0x10000000 []) (at 0x10000004 []) → ⊥
  unfolding instruction_in signed
  sink-undue does =
      let next : does.ended ≡ end.Next = (goes-on 0x15000000 0x10000000 [] does.ended does.middle does.made.steps).ends in
      let P : StepEnd → Type 0 = λ x. ComesAfter x (history does.middle.memory) (1 ∷ []) does.more does.kept (1 ∷ []) in
      let comes = subst P next does.comes in
      let e : ◌≡◌ {A = List ℕ} (1 ∷ []) [] = comes.1.1 in cc

  sink-unsent : DoesSo sight (gives 0x70000008) Caused (done.Fault fault.Sink) (1 ∷ []) [] (1 ∷ []) (at 0x10000000 []) (at 0x10000004 []) → ⊥
  unfolding instruction_in signed
  sink-unsent does =
      let row = goes-on 0x70000008 0x10000000 [] does.ended does.middle does.made.steps in
      let P : StepEnd → Type 0 = λ x. ComesAfter x (history does.middle.memory) (1 ∷ []) does.more does.kept (1 ∷ []) in
      let settles = subst P row.ends does.comes in
      let same = row.memory ∙ does.made.steps.fetched.1 in
      let e : [] ≡ (Note CheckStart ∷ (settles.check.middle ++ Note CheckPassed ∷ [])) ++ Note (Sent 1) ∷ [] =
      does.makes.trace ∙ ap (λ (l : List Event). l ++ does.more) same ∙ settles.events_are ∙ ap (λ (l : List Event). l ++ Note (Sent 1) ∷ []) settles.check.events_are in cc

  -- the instruction after which the next one follows was not stopped, is permitted, leaves the core as its step did, and came with its check
  stopped-goes : DoesSo sight (gives 0xffffffff) Caused done.Goes [] [] [] (at 0x10000000 []) (at 0x10000000 (Note (Retire Secure) ∷ [])) → ⊥
  unfolding instruction_in signed
  stopped-goes does = does.2.made.not_stopped (stop.Refused why.Illegal) (goes-on 0xffffffff 0x10000000 [] does.0 does.2.middle does.2.made.steps).ends

  forbidden-goes : DoesSo sight (gives 0x70000000) Caused done.Goes [] [] [] (at 0x10000000 []) (at 0x10000004 (Note (Retire Secure) ∷ [])) → ⊥
  unfolding instruction_in signed
  forbidden-goes does =
      let enters : does.0 ≡ end.Enter = (goes-on 0x70000000 0x10000000 [] does.0 does.2.middle does.2.made.steps).ends in
      let e : false ≡ true = ap (λ (x : StepEnd). is_permitted (secure_of_end x) Te) (sym enters) ∙ does.2.made.permitted in cc

  core-changed : DoesSo sight (gives 0x15000000) Caused done.Goes [] [] [] (at 0x10000000 []) (at 0x10000008 (Note (Retire Secure) ∷ [])) → ⊥
  unfolding instruction_in signed
  core-changed does =
      let moves = (goes-on 0x15000000 0x10000000 [] does.0 does.2.middle does.2.made.steps).core in
      let e : 0x10000008 ≡ 0x10000004 = ap (λ (c : Processor). c.pc) (does.2.core ∙ moves) in absurd (omega (arith, e))

  check-skipped : Checks (1 ∷ []) [] (1 ∷ []) (Note (Retire Secure) ∷ []) → ⊥
  unfolding instruction_in signed
  check-skipped does =
      let row = goes-on 0x70000008 0x10000000 (write ∷ []) does.0 does.2.middle does.2.made.steps in
      let P : StepEnd → Type 0 = λ x. ComesAfter x (history does.2.middle.memory) (1 ∷ []) does.2.more [] (1 ∷ []) in
      let settles = subst P row.ends does.2.comes in
      let same = row.memory ∙ does.2.made.steps.fetched.1 in
      let e : write ∷ Note (Retire Secure) ∷ []
      ≡ write ∷ (((Note CheckStart ∷ (settles.check.middle ++ Note CheckPassed ∷ [])) ++ Note (Sent 1) ∷ []) ++ Note (Retire Secure) ∷ []) =
      does.2.retires.trace ∙ ap (λ (l : List Event). l ++ (does.2.more ++ Note (Retire Secure) ∷ [])) same
      ∙ ap (λ (l : List Event). write ∷ (l ++ Note (Retire Secure) ∷ [])) (settles.events_are ∙ ap (λ (l : List Event). l ++ Note (Sent 1) ∷ []) settles.check.events_are) in cc

  -- the exit ends the program, and the check instruction does not
  exits : DoesSo sight (gives 0x70000001) Caused done.Ended [] [] [] (at 0x10000000 []) (at 0x10000004 (Note CheckStart ∷ Note CheckPassed ∷ Note (Retire Secure) ∷ []))
  unfolding instruction_in signed
  exits = record {
    middle = at 0x10000004 [];
    made = record {
      steps = record { answer = Ok 0x70000001; middle = []; fetched = (refl, refl); goes_on = record { ends = refl; core = refl; memory = refl; port = refl } };
      not_stopped = λ reason is. cc;
      permitted = refl;
    };
    more = Note CheckStart ∷ Note CheckPassed ∷ [];
    comes = record { checked = Note CheckStart ∷ Note CheckPassed ∷ []; check = record { middle = []; events_are = refl; blocks = refl }; events_are = refl; none = refl; handed = refl };
    retires = record {
      trace = refl;
      layout = refl;
      veil = refl;
      mode = refl;
      others = refl;
      none = λ not. cc;
      data_stays = λ memory at below. refl;
      agrees = λ memory agrees. tt;
    };
    core = refl;
    port = refl;
  }

  -- by the end of the step the program ends otherwise
  abbrev AnswersBy : Done → StepEnd → Type 0
  AnswersBy answer ended = (word : ℕ) (old new : Machine (List Event)) (made : DoesSo sight (gives word) Caused answer [] [] [] old new) → (middle : Machine (List Event)) × Steps (gives word) old ended middle

  answers : AnswersBy done.Ended end.Exit × AnswersBy (done.Index 3) (end.Index 3) × AnswersBy (done.Divide 3) (end.Divide 3)
      × AnswersBy (done.Tree 5) (end.Stopped (stop.Tree 5)) × AnswersBy (done.Log 5) (end.Stopped (stop.Log 5))
  answers = (
    λ word old new does. (does.middle, does.made.steps),
    λ word old new does. (does.middle, does.made.steps),
    λ word old new does. (does.middle, does.made.steps),
    λ word old new does. (new, does.steps),
    λ word old new does. (new, does.steps),
  )
