-- Worked parts of a run in turns: of each definition cases where it holds, and cases of which one part is wrong. The numbers were worked out by hand.
use Rattle.std.proofs.Common.{◌≡◌, ℕ, ◌+◌, ◌<◌, ◌≤◌, arith, Bool, true, false, List, [], ◌∷◌, ◌++◌, drop, replicate, Option, Some, None, lit≤, refl, sym, ap, ◌∙◌, inl, inr}
use Rattle.std.specs.Prelude.{◌⊎◌}
use Rattle.std.specs.FinMap.{empty}
use Rattle.execution.specs.Run.{Next, state_of}
use Rattle.execution.specs.Traffic.{traffic_from}
use Rattle.aegis_num.specs.declared.Place.TheVariants.{Log}
use Rattle.image_file.specs.declared.Image.{Image}
use Rattle.line_cache.specs.LineMaps.{LineMap}
use Rattle.orbis_word.specs.Reading.{instruction_in, signed}
use Rattle.regions.specs.declared.Mode.TheVariants.{Std, Te}
use Rattle.regions.specs.Addresses.{class_at}
use Rattle.regions.specs.Tree.{height_of}
use Rattle.off_chip.specs.declared.Event.{Event}
use Rattle.off_chip.specs.declared.Event.TheVariants.{BlockRead, Note, WordRead, WordWrite}
use Rattle.off_chip.specs.declared.Mark.TheVariants as marks
use Rattle.off_chip.specs.declared.Who.TheVariants.{Secure, Untrusted}
use Rattle.off_chip.specs.Histories.{no_event, ◌◂◌}
use Rattle.stamp_log.specs.declared.LogCause.TheVariants.{Future}
use Rattle.stamp_log.specs.StandsOn.{IsNew}
use Rattle.secure_memory.specs.declared.Parts.{Parts}
use Rattle.secure_memory.specs.MemoryStands.{IsOfLayout}
use Rattle.orbis_core.specs.declared.Port.{Port}
use Rattle.orbis_core.specs.declared.Why.TheVariants as why
use Rattle.orbis_core.specs.Ideal.{Ideal, IdealEnd, accessed_at, entry_address, fetched_at, ideal_start}
use Rattle.orbis_core.specs.Ideal as ideal
use Rattle.orbis_core.specs.OwnMemory.{HasInput}
use Rattle.orbis_core.specs.Processor.{Processor, reset_core}
use Rattle.orbis_core.specs.Rows.{Machine}
use Rattle.bus_machine.specs.BusAccesses.{Sight}
use Rattle.bus_machine.specs.BusMachine.{Veil, bus_machine}
use Rattle.aegis_machine.specs.declared.ends.End.TheVariants as ends
use Rattle.aegis_machine.specs.declared.instructions.Done.TheVariants as did
use Rattle.aegis_machine.specs.declared.instructions.Fault.TheVariants as fault
use Rattle.aegis_machine.specs.declared.machine.Machine.{Machine as TurnMachine}
use Rattle.aegis_machine.specs.declared.turns.Turn.TheVariants.{Over, Parked}
use Rattle.aegis_machine.specs.Boundaries.{FitsPhases, GoesOnFuelled, IsReachedInStep, SaidOfRun, StandsAtBoundary, suspension_told}
use Rattle.aegis_machine.specs.MachineParts.{AreBytes, EndsTurn, FitsMachine, IsParked, IsRunning, IsUnentered, LeadsTo, NamesSo, RetiresInTurn, RunIsOver, StandsWith, TakesRest, end_by, parked, program_end, unentered, veil_with}
use Rattle.aegis_machine.proofs.EnteringLemmas.{over-without-fuel, said-entered, stands-entered}
use Rattle.aegis_machine.proofs.WorkedBoundaries.{after, block, done, entering, layout, program, veil}

-- ---- ends

ends_by : (end_by did.Goes 3 ≡ None) × (end_by did.Ended 3 ≡ Some ends.Ended) × (end_by (did.Index 7) 3 ≡ Some (ends.Index 7)) × (end_by (did.Divide 7) 3 ≡ Some (ends.Divide 7))
    × (end_by (did.Refused why.Mode) 3 ≡ Some (ends.Refused why.Mode 3)) × (end_by (did.Tree 8) 3 ≡ Some (ends.AbortTree 8 3)) × (end_by (did.Log 8) 3 ≡ Some (ends.AbortLog (Future 8) 3))
    × (end_by (did.Fault (fault.Log (Future 9))) 3 ≡ Some (ends.AbortLog (Future 9) 3)) × (end_by (did.Fault fault.Sink) 3 ≡ Some ends.WriteFault)
ends_by = (refl, refl, refl, refl, refl, refl, refl, refl, refl)

-- five ends are none of the program
program_ends : (program_end ends.Ended ≡ Some ideal.Ended) × (program_end (ends.Index 7) ≡ Some (ideal.Index 7)) × (program_end (ends.Divide 7) ≡ Some (ideal.Divide 7))
    × (program_end (ends.Refused why.Mode 3) ≡ Some (ideal.Refused why.Mode)) × (program_end (ends.AbortTree 8 3) ≡ None) × (program_end (ends.AbortLog (Future 8) 3) ≡ None)
    × (program_end (ends.AbortProgram [] []) ≡ None) × (program_end (ends.FuelOut 3) ≡ None) × (program_end ends.WriteFault ≡ None)
program_ends = (refl, refl, refl, refl, refl, refl, refl, refl, refl)

-- one instruction was done
names : NamesSo (program []) 0 (ends.AbortTree 8 1) (entering ++ done ∷ []) × NamesSo (program []) 0 (ends.AbortLog (Future 8) 1) (entering ++ done ∷ [])
    × NamesSo (program []) 0 (ends.Refused why.Mode 1) (entering ++ done ∷ []) × NamesSo (program []) 0 ends.Ended []
names = (refl, refl, refl, tt)

-- the number is one more or one less; what untrusted code did does not count; there was fuel; and the program that was read is not another one at no event
names_not : (NamesSo (program []) 0 (ends.AbortTree 8 2) (entering ++ done ∷ []) → ⊥) × (NamesSo (program []) 0 (ends.AbortLog (Future 8) 0) (entering ++ done ∷ []) → ⊥)
    × (NamesSo (program []) 0 (ends.Refused why.Mode 1) (entering ++ Note (marks.Retire Untrusted) ∷ []) → ⊥) × (NamesSo (program []) 0 (ends.FuelOut 1) [] → ⊥)
    × (NamesSo (program []) 16642 (ends.FuelOut 0) [] → ⊥) × (NamesSo (program []) 0 (ends.AbortProgram [] (1 ∷ [])) [] → ⊥)
unfolding height_of
names_not = (
  λ names. let e : 2 ≡ 1 = names in absurd (omega (arith, e)),
  λ names. let e : 0 ≡ 1 = names in absurd (omega (arith, e)),
  λ names. let e : 1 ≡ 0 = names in absurd (omega (arith, e)),
  λ names. let e : 1 ≡ 0 = names.0 in absurd (omega (arith, e)),
  λ names. names.1.short (record { enough = lit≤ tt }),
  λ names. let e : 0 ≡ 7 = names.over in absurd (omega (arith, e)),
)

-- ---- how many instructions a turn did

retires : RetiresInTurn Parked 3 5 8 × RetiresInTurn (Over ends.Ended) 3 5 6 × RetiresInTurn (Over ends.Ended) 3 5 8 × RetiresInTurn (Over (ends.Index 7)) 3 5 8
    × RetiresInTurn (Over (ends.Divide 7)) 3 5 6 × RetiresInTurn (Over (ends.FuelOut 7)) 3 5 7 × RetiresInTurn (Over ends.WriteFault) 3 5 5
retires = (refl, (lit≤ tt, lit≤ tt), (lit≤ tt, lit≤ tt), (lit≤ tt, lit≤ tt), (lit≤ tt, lit≤ tt), (lit≤ tt, lit≤ tt), (lit≤ tt, lit≤ tt))

-- parked too early or too late; ended with none, or after more; and over otherwise after as many as were asked for, or fewer than before
retires_not : (RetiresInTurn Parked 3 5 7 → ⊥) × (RetiresInTurn Parked 3 5 9 → ⊥) × (RetiresInTurn (Over ends.Ended) 3 5 5 → ⊥) × (RetiresInTurn (Over ends.Ended) 3 5 9 → ⊥)
    × (RetiresInTurn (Over (ends.Index 7)) 3 5 5 → ⊥) × (RetiresInTurn (Over (ends.Divide 7)) 3 5 9 → ⊥) × (RetiresInTurn (Over (ends.FuelOut 8)) 3 5 8 → ⊥)
    × (RetiresInTurn (Over ends.WriteFault) 3 5 8 → ⊥) × (RetiresInTurn (Over (ends.AbortTree 8 4)) 3 5 4 → ⊥)
retires_not = (
  λ r. let e : 7 ≡ 8 = r in absurd (omega (arith, e)),
  λ r. let e : 9 ≡ 8 = r in absurd (omega (arith, e)),
  λ r. absurd (omega (arith, r.0)),
  λ r. absurd (omega (arith, r.1)),
  λ r. absurd (omega (arith, r.0)),
  λ r. absurd (omega (arith, r.1)),
  λ r. absurd (omega (arith, r.1)),
  λ r. absurd (omega (arith, r.1)),
  λ r. absurd (omega (arith, r.0)),
)

-- ---- what a sink can take, and bytes

takes_rest : TakesRest None 9 0 × TakesRest (Some 6) 9 3 × (TakesRest (Some 5) 9 3 → ⊥)
takes_rest = (tt, lit≤ tt, λ takes. let e : 9 ≤ 8 = takes in absurd (omega (arith, e)))

bytes_not : AreBytes (256 ∷ []) → ⊥
bytes_not bytes = let e = bytes 0 in absurd (omega (arith, e))

-- ---- fuel, and suspensions, at one event

goes_on : GoesOnFuelled layout 16649 done (after []) × GoesOnFuelled layout 0 done (after (Note (marks.Sent 1) ∷ [])) × (GoesOnFuelled layout 16648 done (after []) → ⊥)
unfolding height_of
goes_on = (record { enough = lit≤ tt }, tt, λ has. let e : 16649 ≤ 16648 = has.enough in absurd (omega (arith, e)))

told : (suspension_told (Note marks.Suspend) ≡ Some true) × (suspension_told (Note marks.Resume) ≡ Some false) × (suspension_told done ≡ None)
told = (refl, refl, refl)

fits_phases : FitsPhases (Note marks.Suspend) (after []) × FitsPhases (WordRead Untrusted 0x2000 1) (after (Note marks.Suspend ∷ [])) × FitsPhases (WordRead Secure 0x2000 1) (after [])
    × (FitsPhases (Note marks.Suspend) (after (Note marks.Suspend ∷ [])) → ⊥) × (FitsPhases (Note marks.Resume) (after []) → ⊥) × (FitsPhases (WordWrite Untrusted 0x2000 1) (after []) → ⊥)
fits_phases = (
  refl,
  λ is. refl,
  λ is. let e : false ≡ true = is in cc,
  λ fits. let e : true ≡ false = fits in cc,
  λ fits. let e : false ≡ true = fits.0 in cc,
  λ fits. let e : false ≡ true = fits refl in cc,
)

-- ---- the step that is under way: the first instruction does nothing, so that it reaches what it is fetched from alone

abbrev start : Ideal
start = state_of (bus_machine veil (program []) (after []))

reached_not : IsReachedInStep veil (program []) 0x10000084 (after []) → ⊥
unfolding instruction_in signed class_at height_of
reached_not reach = by reach.state (ap (λ (x : Next Ideal IdealEnd). state_of x) reach.goes) reach.reaches
  where
    by : (state : Ideal) → start ≡ state → (0x10000084 ≡ fetched_at state) ⊎ (accessed_at state ≡ Some 0x10000084) → ⊥
    by state is (inl fetched) = let e : 0x10000084 ≡ 0x10000080 = fetched ∙ ap (λ (s : Ideal). fetched_at s) (sym is) in absurd (omega (arith, e))
    by state is (inr accesses) = let e : ◌≡◌ {A = Option ℕ} None (Some 0x10000084) = ap (λ (s : Ideal). accessed_at s) is ∙ accesses in cc

-- ---- a run: it was entered

abbrev rest : List Event
rest = drop 1 entering

said : SaidOfRun veil (program []) 16649 [] None (after [])
unfolding height_of
said = said-entered veil (program []) 16649 rest refl refl (record { enough = lit≤ tt })

-- a byte was sent that the bus machine did not release; bytes were sent while a read waits; untrusted code ran in no suspension; and there
-- was no fuel for an instruction
said_not : (SaidOfRun veil (program []) 16650 (1 ∷ []) None (after (Note (marks.Sent 1) ∷ done ∷ [])) → ⊥)
    × (SaidOfRun veil (program []) 16649 [] None (after (BlockRead (Log 0) (block 5 []) ∷ Note (marks.Sent 1) ∷ [])) → ⊥)
    × (SaidOfRun veil (program []) 16649 [] None (after (Note (marks.Retire Untrusted) ∷ [])) → ⊥)
    × (SaidOfRun veil (program []) 16648 [] None (after (done ∷ [])) → ⊥)
unfolding instruction_in signed class_at height_of
said_not = (
  λ said. let e : [] ≡ 1 ∷ said.bus_data.sends.1.held = said.bus_data.sends.1.released in cc,
  λ said. let e = said.waiting.each.1.nothing in cc,
  λ said. let e : false ≡ true = said.phases.each.1 refl in cc,
  λ said. let e : 16649 ≤ 16648 = said.fuelled.each.1.enough in absurd (omega (arith, e)),
)

-- ---- a machine at its first boundary, whose memory is its trace

abbrev sight : Sight (List Event)
sight = record {
  layout = λ memory. layout;
  veil = λ memory. veil;
  mode = λ memory. Te;
  trace = λ memory. memory;
  Agrees = λ memory words. Unit {0};
}

module _ (port : Port) where
  abbrev at : ℕ → Machine (List Event)
  at pc = record { core = reset_core pc; memory = entering; port = port }

  abbrev Stands : List ℕ → List ℕ → ℕ → Type 0
  Stands handed_out held pc = StandsAtBoundary sight (program []) 16649 handed_out held (at pc)

  stands : HasInput port (traffic_from [] []) → Stands [] [] 0x10000080
  unfolding height_of
  stands input = record {
    tied = record {
      state = ideal_start layout (program []).statics 0 [] [];
      stands = stands-entered veil (program []) 16649 rest refl refl (record { enough = lit≤ tt });
      layout = refl;
      core = refl;
      mode = refl;
      secure = refl;
      agrees = tt;
      input = input;
    };
    said = said;
    counted = refl;
    released = refl;
    few = lit≤ tt;
    slow = lit≤ tt;
  }

  -- a byte was handed out that no mark counts; one is held that was not released; as many are held as can be; one was released by no instruction; and the
  -- core is that of another instruction
  stands_not : (Stands (1 ∷ []) [] 0x10000080 → ⊥) × (Stands [] (1 ∷ []) 0x10000080 → ⊥) × (Stands [] (replicate 256 1) 0x10000080 → ⊥) × (Stands [] (1 ∷ []) 0x10000080 → ⊥)
      × (Stands [] [] 0x10000084 → ⊥)
  unfolding height_of
  stands_not = (
    λ stands. let e : 0 ≡ 1 = stands.counted in absurd (omega (arith, e)),
    λ stands. let e : [] ≡ 1 ∷ [] = ap (λ (x : Next Ideal IdealEnd). (state_of x).traffic.bytes) stands.tied.stands.goes ∙ stands.released in cc,
    λ stands. let e : 256 < 256 = stands.few in absurd (omega (arith, e)),
    λ stands. let e : 1 ≤ 0 = stands.slow in absurd (omega (arith, e)),
    λ stands.
        let e : 0x10000080 ≡ 0x10000084 = ap (λ (x : Next Ideal IdealEnd). (state_of x).core.pc) stands.tied.stands.goes ∙ ap (λ (c : Processor). c.pc) stands.tied.core in
        absurd (omega (arith, e)),
  )

  -- a machine that runs, and where a turn leads
  abbrev Runs : ℕ → Option ℕ → ℕ → Type 0
  Runs room limit count = IsRunning sight (λ memory. room) (program []) 16649 limit [] [] count (at 0x10000080)

  runs_not : (Runs 16641 None 0 → ⊥) × (Runs 16642 (Some 16648) 0 → ⊥) × (Runs 16642 None 1 → ⊥)
  runs_not = (
    λ runs. let e : 16649 ≤ 16648 = runs.enough in absurd (omega (arith, e)),
    λ runs. let e : 16649 ≤ 16648 = runs.takes in absurd (omega (arith, e)),
    λ runs. let e : 1 ≡ 0 = runs.counted in absurd (omega (arith, e)),
  )

  abbrev other_veil : Veil
  other_veil n stamp payload = n ∷ payload

  leads : Runs 16642 None 0 → LeadsTo sight (λ memory. 16642) (program []) 16649 Parked None [] [] 0 veil (at 0x10000080)
  leads runs = (runs, refl)

  -- another veil, another number, and an abort which names one
  leads_not : (LeadsTo sight (λ memory. 16642) (program []) 16649 Parked None [] [] 0 other_veil (at 0x10000080) → ⊥)
      × (LeadsTo sight (λ memory. 16642) (program []) 16649 Parked None [] [] 1 veil (at 0x10000080) → ⊥)
      × (LeadsTo sight (λ memory. 16642) (program []) 16649 (Over (ends.AbortTree 8 1)) None [] [] 0 veil (at 0x10000080) → ⊥)
  leads_not = (
    λ leads. let e : [] ≡ 1 ∷ [] = ap (λ (v : Veil). v 1 0 []) leads.1 in cc,
    λ leads. runs_not.2 leads.0,
    λ leads. let e : 1 ≡ 0 = leads.names in absurd (omega (arith, e)),
  )

-- ---- a run that is over before its start, for want of fuel

over : RunIsOver veil (program []) 16641 [] (ends.FuelOut 0) []
unfolding height_of
over = over-without-fuel veil (program []) 16641 [] refl (λ has. let e : 16642 ≤ 16641 = has.enough in absurd (omega (arith, e)))

-- the program did not end; there was fuel; and another number
over_not : (RunIsOver veil (program []) 16641 [] ends.Ended [] → ⊥) × (RunIsOver veil (program []) 16642 [] (ends.FuelOut 0) [] → ⊥) × (RunIsOver veil (program []) 16641 [] (ends.FuelOut 1) [] → ⊥)
unfolding height_of
over_not = (
  λ over. let e : no_event ≡ over.said.bus_data.ends.event ◂ over.said.bus_data.ends.before = over.said.bus_data.ends.last in cc,
  λ over. over.names.1.short (record { enough = lit≤ tt }),
  λ over. let e : 1 ≡ 0 = over.names.0 in absurd (omega (arith, e)),
)

-- ---- a machine between turns

module _ {L : Type 0} (lines : L → LineMap) (image : Image) (parts : Parts L) where
  abbrev made : Option (Parts L) → ℕ → ℕ → List ℕ → ℕ → Bool → TurnMachine L
  made kept pc next held count entered =
      record { parts = kept; core = reset_core (entry_address image.layout image.entry + pc); next = next; held = held; fuel = 5; retired = count; entered = entered }

  abbrev Unused : List Event → List ℕ → TurnMachine L → Type 0
  Unused trace handed_out machine = IsUnentered lines image (veil_with parts) trace handed_out parts machine

  unused : IsOfLayout image.layout parts.tree parts.log → parts.layout ≡ image.layout → lines parts.tree.lines ≡ empty → IsNew parts.log → parts.stamps ≡ 0
      → parts.modes ≡ record { mode = Std; kept = Te } → Unused [] [] (made (Some parts) 0 0 [] 0 false)
  unused of_layout same none new stamps modes = record {
    kept = refl;
    entered = refl;
    of_layout = of_layout;
    layout = same;
    same_veil = refl;
    no_lines = none;
    new_log = new;
    stamps = stamps;
    modes = modes;
    core = ap (λ (pc : ℕ). reset_core pc) (let e : entry_address image.layout image.entry + 0 ≡ entry_address image.layout image.entry = omega arith in e);
    next = refl;
    held = refl;
    count = refl;
    no_event = refl;
    nothing = refl;
  }

  -- it has no parts; it was entered; its core is at another instruction; it read a byte; it holds one; it did an instruction; there is an event; and a byte was
  -- handed out
  unused_not : (Unused [] [] (made None 0 0 [] 0 false) → ⊥) × (Unused [] [] (made (Some parts) 0 0 [] 0 true) → ⊥) × (Unused [] [] (made (Some parts) 4 0 [] 0 false) → ⊥)
      × (Unused [] [] (made (Some parts) 0 1 [] 0 false) → ⊥) × (Unused [] [] (made (Some parts) 0 0 (1 ∷ []) 0 false) → ⊥) × (Unused [] [] (made (Some parts) 0 0 [] 1 false) → ⊥)
      × (Unused (done ∷ []) [] (made (Some parts) 0 0 [] 0 false) → ⊥) × (Unused [] (1 ∷ []) (made (Some parts) 0 0 [] 0 false) → ⊥)
  unused_not = (
    λ unused. let e = unused.kept in cc,
    λ unused. let e = unused.entered in cc,
    λ unused. let e : entry_address image.layout image.entry + 4 ≡ entry_address image.layout image.entry = ap (λ (c : Processor). c.pc) unused.core in absurd (omega (arith, e)),
    λ unused. let e : 1 ≡ 0 = unused.next in absurd (omega (arith, e)),
    λ unused. let e : 1 ∷ [] ≡ [] = unused.held in cc,
    λ unused. let e : 1 ≡ 0 = unused.count in absurd (omega (arith, e)),
    λ unused. let e : done ∷ [] ≡ [] = unused.no_event in cc,
    λ unused. let e : 1 ∷ [] ≡ [] = unused.nothing in cc,
  )

  abbrev With : ℕ → ℕ → Type 0
  With next count = StandsWith lines image [] (veil_with parts) entering [] (reset_core 0) next [] 5 count parts

  -- it read more than the input has, and did an instruction that has no mark
  with_not : (With 1 0 → ⊥) × (With 0 1 → ⊥)
  with_not = (
    λ stands. let e : 1 ≤ 0 = stands.within in absurd (omega (arith, e)),
    λ stands. let e : 1 ≡ 0 = stands.counted in absurd (omega (arith, e)),
  )

  is_parked : (input : List ℕ) (trace : List Event) (handed_out : List ℕ) (machine : TurnMachine L) → machine.parts ≡ Some parts → machine.entered ≡ true
      → StandsWith lines image input (veil_with parts) trace handed_out machine.core machine.next machine.held machine.fuel machine.retired parts
      → FitsMachine lines image input (veil_with parts) trace handed_out machine
  is_parked input trace handed_out machine kept entered stands = parked parts (record { kept = kept; entered = entered; stands = stands })

  -- a machine without parts fits nothing, nor one that did more than its trace tells
  fits_not : (FitsMachine lines image [] (veil_with parts) [] [] (made None 0 0 [] 0 true) → ⊥) × (FitsMachine lines image [] (veil_with parts) [] [] (made (Some parts) 0 0 [] 1 false) → ⊥)
  fits_not = (without, more)
    where
      without : FitsMachine lines image [] (veil_with parts) [] [] (made None 0 0 [] 0 true) → ⊥
      without (unentered other fits) = let e = fits.kept in cc
      without (parked other fits) = let e = fits.kept in cc

      more : FitsMachine lines image [] (veil_with parts) [] [] (made (Some parts) 0 0 [] 1 false) → ⊥
      more (unentered other fits) = let e : 1 ≡ 0 = fits.count in absurd (omega (arith, e))
      more (parked other fits) = let e = fits.entered in cc

  -- a turn ends: the machine keeps its fuel, and the sink can take what comes; or the run is over
  ends_turn : FitsMachine lines image [] (veil_with parts) [] [] (made (Some parts) 0 0 [] 0 false) → EndsTurn lines image [] (veil_with parts) 5 Parked [] (Some 5) [] (made (Some parts) 0 0 [] 0 false)
  ends_turn fits = (fits, lit≤ tt, refl)

  ends_turn_not : (EndsTurn lines image [] (veil_with parts) 6 Parked [] None [] (made (Some parts) 0 0 [] 0 false) → ⊥)
      × (EndsTurn lines image [] (veil_with parts) 5 Parked [] (Some 4) [] (made (Some parts) 0 0 [] 0 false) → ⊥)
      × (EndsTurn lines image [] (veil_with parts) 5 Parked [] None [] (made None 0 0 [] 0 true) → ⊥)
      × (EndsTurn lines image [] (veil_with parts) 5 (Over (ends.AbortTree 8 1)) [] None [] (made (Some parts) 0 0 [] 0 false) → ⊥)
  ends_turn_not = (
    λ turn. let e : 5 ≡ 6 = turn.2 in absurd (omega (arith, e)),
    λ turn. let e : 5 ≤ 4 = turn.1 in absurd (omega (arith, e)),
    λ turn. fits_not.0 turn.0,
    λ turn. let e : 1 ≡ 0 = turn.names in absurd (omega (arith, e)),
  )
