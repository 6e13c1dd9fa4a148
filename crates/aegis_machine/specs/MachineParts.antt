-- Promise: what is said of a run in turns: of the machine where it is parked, and of the trace where the run is over.
use Rattle.std.specs.Prelude.{◌≡◌, ℕ, ◌+◌, ◌^◌, ◌<◌, ◌≤◌, true, false, slice_index, List, [], ◌∷◌, ◌++◌, length, option_map, Option, Some, None}
use Rattle.aegis_edge.specs.Faults.{Rose}
use Rattle.aegis_edge.specs.Sink.{Appends, AppendsFront}
use Rattle.image_file.specs.declared.Image.{Image}
use Rattle.image_file.specs.ImageTable.{static_bytes}
use Rattle.off_chip.specs.declared.Event.{Event}
use Rattle.off_chip.specs.Boundaries.{enter_events, retired}
use Rattle.off_chip.specs.Histories.{history}
use Rattle.orbis_core.specs.Ideal.{IdealEnd}
use Rattle.orbis_core.specs.Ideal as ideal
use Rattle.orbis_core.specs.Rows.{Machine}
use Rattle.bus_machine.specs.BusAccesses.{Sight}
use Rattle.bus_machine.specs.BusMachine.{LoadedProgram, Veil}
use Rattle.aegis_machine.specs.declared.ends.End.{End}
use Rattle.aegis_machine.specs.declared.ends.End.TheVariants.{Ended, Index, Divide, AbortTree, AbortLog, AbortProgram, FuelOut, Refused, WriteFault}
use Rattle.aegis_machine.specs.declared.instructions.Done.{Done}
use Rattle.aegis_machine.specs.declared.instructions.Done.TheVariants as done
use Rattle.aegis_machine.specs.declared.instructions.Fault.TheVariants as fault
use Rattle.stamp_log.specs.declared.LogCause.TheVariants.{Future, Sums}
use Rattle.stamp_log.specs.LogState.{value_under}
use Rattle.stamp_log.specs.OfflineCheck.{SumsDiffer}
use Rattle.aegis_num.specs.declared.Key.{Key}
use Rattle.aegis_machine.specs.declared.turns.Turn.{Turn}
use Rattle.aegis_machine.specs.declared.turns.Turn.TheVariants.{Parked, Over}
use Rattle.std.specs.FinMap.{empty}
use Rattle.std.specs.List.{list_all}
use Rattle.regions.specs.declared.Layout.{Layout}
use Rattle.off_chip.specs.declared.Event.TheVariants.{Note}
use Rattle.off_chip.specs.declared.Mark.TheVariants.{Enter, Sent}
use Rattle.hash_tree.specs.TreeParts.{SameTree}
use Rattle.bus_machine.specs.BusAccesses.{is_access_event}
use Rattle.aegis_machine.specs.FuelTests.{HasFuel}
use Rattle.regions.specs.declared.Mode.TheVariants.{Std, Te}
use Rattle.line_cache.specs.LineMaps.{LineMap}
use Rattle.orbis_core.specs.declared.Port.{Port}
use Rattle.orbis_core.specs.Ideal.{entry_address}
use Rattle.orbis_core.specs.Processor.{Processor, reset_core}
use Rattle.stamp_log.specs.StandsOn.{IsNew}
use Rattle.secure_memory.specs.declared.Parts.{Parts}
use Rattle.secure_memory.specs.MemorySights.{Sight as SecureSight}
use Rattle.secure_memory.specs.MemoryStands.{IsOfLayout, MemoryStands}
use Rattle.secure_memory.specs.PrivatePads.{hidden_payload}
use Rattle.memory_trace.specs.SoundTraces.{IsSound}
use Rattle.aegis_machine.specs.declared.machine.Machine.{Machine as TurnMachine}
use Rattle.aegis_machine.specs.SecureSights.{bus_sight}
use Rattle.aegis_machine.specs.Boundaries.{IsOtherProgram, IsOutOfFuel, SaidOfRun, StandsAtBoundary, blocks_in, entered_digest}
use Rattle.block_hash.specs.BlockStrings.{program_digest}
use Rattle.off_chip.specs.OffChipBytes.{static_blocks}
use Rattle.aegis_machine.specs.ProgramsRead.{ReadsLoaded, ReadsSo}
use Rattle.aegis_machine.specs.Causes.{EndsFuelled, ExpectsReads, ReadsExpected, ShowsCause}

-- the program of an image, with its input
abbrev pub program_of : Image → List ℕ → LoadedProgram
program_of image input = record { layout = image.layout; statics = static_bytes image; entry = image.entry; input = input }

-- ---- ends

-- how an instruction ends the run after so many instructions, if it does
abbrev pub end_by : Done → ℕ → Option End
end_by done.Goes count = None
end_by done.Ended count = Some Ended
end_by (done.Index at) count = Some (Index at)
end_by (done.Divide at) count = Some (Divide at)
end_by (done.Refused why) count = Some (Refused why count)
end_by (done.Tree event) count = Some (AbortTree event count)
end_by (done.Log event) count = Some (AbortLog (Future event) count)
end_by (done.Fault (fault.Log cause)) count = Some (AbortLog cause count)
end_by (done.Fault fault.Sink) count = Some WriteFault

-- how the program itself ended, or was refused, with an end of the run
abbrev pub program_end : End → Option IdealEnd
program_end Ended = Some ideal.Ended
program_end (Index at) = Some (ideal.Index at)
program_end (Divide at) = Some (ideal.Divide at)
program_end (Refused why count) = Some (ideal.Refused why)
program_end end = None

-- what an end names: how many instructions were done, that there is no fuel, or that another program was read
abbrev pub NamesSo : LoadedProgram → ℕ → End → List Event → Type 0
NamesSo program fuel (AbortTree event count) trace = count ≡ retired trace
NamesSo program fuel (AbortLog cause count) trace = count ≡ retired trace
NamesSo program fuel (AbortProgram read expected) trace = IsOtherProgram program read expected trace
NamesSo program fuel (FuelOut count) trace = (count ≡ retired trace) × IsOutOfFuel program.layout fuel (history trace)
NamesSo program fuel (Refused why count) trace = count ≡ retired trace
NamesSo program fuel end trace = Unit {0}

-- the run is over, and ended so
pub record RunIsOver (veil : Veil) (program : LoadedProgram) (fuel : ℕ) (handed_out : List ℕ) (end : End) (trace : List Event) : Type 0 where
  pub said : SaidOfRun veil program fuel handed_out (program_end end) (history trace)
  pub names : NamesSo program fuel end trace
  pub reads : ReadsSo program fuel handed_out end trace
  pub cause : ShowsCause veil program end trace
  pub fuelled : EndsFuelled veil program fuel end (history trace)
  pub expected : ExpectsReads program.layout end (history trace)

-- ---- within a turn

-- a sink takes so many further bytes, if it has a limit, that they and those that were handed out are as many as there is fuel
abbrev pub TakesRest : Option ℕ → ℕ → ℕ → Type 0
TakesRest None fuel handed_out = Unit {0}
TakesRest (Some left) fuel handed_out = fuel ≤ left + handed_out

-- a machine at a boundary, on a bus and with a sink that can take what comes with its fuel, after so many instructions
pub record IsRunning {M : Type 0} (sight : Sight M) (room : M → ℕ) (program : LoadedProgram) (fuel : ℕ) (limit : Option ℕ) (handed_out held : List ℕ) (count : ℕ) (machine : Machine M) : Type 0 where
  pub stands : StandsAtBoundary sight program fuel handed_out held machine
  pub enough : fuel ≤ length (sight.trace machine.memory) + room machine.memory
  pub takes : TakesRest limit fuel (length handed_out)
  pub counted : count ≡ retired (sight.trace machine.memory)
  pub reads : ReadsLoaded program (sight.trace machine.memory)
  pub expected : ReadsExpected program.layout (history (sight.trace machine.memory))

-- The last event is the mark of the last piece, which the sink did not take in full: of it it took a front, after all bytes before it.
pub record TakesButLast (trace : List Event) (old new : Option (List ℕ)) (piece : List ℕ) : Type 0 where
  pub before : List Event
  pub count : ℕ
  pub last : trace ≡ before ++ Note (Sent count) ∷ []
  pub first : List ℕ
  pub rest : List ℕ
  pub parts : piece ≡ first ++ rest
  pub long : length rest ≡ count
  pub middle : Option (List ℕ)
  pub taken : Appends old middle first
  pub front : AppendsFront middle new rest

-- what a sink took in a turn, which has this trace: all bytes that were handed out; where it failed, all but a part of the last piece, and its count of
-- faults rose
abbrev pub TakesIn : Turn → List Event → Option (List ℕ) → Option (List ℕ) → ℕ → ℕ → List ℕ → Type 0
TakesIn (Over WriteFault) trace old new faults_old faults_new piece = TakesButLast trace old new piece × Rose faults_old faults_new
TakesIn turn trace old new faults_old faults_new piece = Appends old new piece × (faults_new ≡ faults_old)

-- how many instructions were done before a turn of n and after it: n more where the machine is parked; where the program ended, one more at least and n at most;
-- where the run is over otherwise, fewer than n
abbrev pub RetiresInTurn : Turn → ℕ → ℕ → ℕ → Type 0
RetiresInTurn Parked n before after = after ≡ before + n
RetiresInTurn (Over Ended) n before after = (before < after) × (after ≤ before + n)
RetiresInTurn (Over (Index at)) n before after = (before < after) × (after ≤ before + n)
RetiresInTurn (Over (Divide at)) n before after = (before < after) × (after ≤ before + n)
RetiresInTurn (Over end) n before after = (before ≤ after) × (after < before + n)

-- where a turn leads: the machine runs on from where it is parked, or the run is over
abbrev pub LeadsTo : {M : Type 0} → Sight M → (M → ℕ) → LoadedProgram → ℕ → Turn → Option ℕ → List ℕ → List ℕ → ℕ → Veil → Machine M → Type 0
LeadsTo sight room program fuel Parked limit handed_out held count veil machine =
    IsRunning sight room program fuel limit handed_out held count machine × (sight.veil machine.memory ≡ veil)
LeadsTo sight room program fuel (Over end) limit handed_out held count veil machine = RunIsOver veil program fuel handed_out end (sight.trace machine.memory)

-- the sums that an abort carries are, under this key, those of what was read and written of the log since the latest check that passed, and they differ
abbrev pub CarriesSums : Key → Turn → List Event → Type 0
CarriesSums key (Over (AbortLog (Sums read written) count)) trace = SumsDiffer (value_under key) trace read written
CarriesSums key turn trace = Unit {0}

-- how a run can end before its first instruction
abbrev pub IsOfEntering : End → Type 0
IsOfEntering (FuelOut count) = Unit {0}
IsOfEntering (AbortProgram read expected) = Unit {0}
IsOfEntering end = ⊥

-- ---- between turns

-- the key of the log of a machine
abbrev pub log_key : {L : Type 0} → TurnMachine L → Option Key
log_key machine = option_map (λ parts. parts.log.key) machine.parts

-- a secure memory with these parts, as it is seen on a bus with these events
abbrev pub seen_with : {L : Type 0} → (L → LineMap) → Parts L → List Event → SecureSight L
seen_with lines parts trace = record {
  layout = parts.layout;
  mode = parts.modes.mode;
  tree = parts.tree;
  lines = lines parts.tree.lines;
  pinned = [];
  log = parts.log;
  stamps = parts.stamps;
  trace = trace;
  room = 0;
  told = None;
}

-- the veil of the tree of a memory with these parts
abbrev pub veil_with : {L : Type 0} → Parts L → Veil
veil_with parts = hidden_payload parts.tree.veil

-- a machine for this image and this fuel that was not run yet: no block is cached, nothing was read or is held, and there is no event
pub record IsUnentered {L : Type 0} (lines : L → LineMap) (image : Image) (veil : Veil) (trace : List Event) (handed_out : List ℕ) (parts : Parts L) (machine : TurnMachine L) : Type 0 where
  pub kept : machine.parts ≡ Some parts
  pub entered : machine.entered ≡ false
  pub of_layout : IsOfLayout image.layout parts.tree parts.log
  pub layout : parts.layout ≡ image.layout
  pub same_veil : veil_with parts ≡ veil
  pub no_lines : lines parts.tree.lines ≡ empty
  pub new_log : IsNew parts.log
  pub stamps : parts.stamps ≡ 0
  pub modes : parts.modes ≡ record { mode = Std; kept = Te }
  pub core : machine.core ≡ reset_core (entry_address image.layout image.entry)
  pub next : machine.next ≡ 0
  pub held : machine.held ≡ []
  pub count : machine.retired ≡ 0
  pub no_event : trace ≡ []
  pub nothing : handed_out ≡ []

-- parts of a memory, with a core, so much of the input that was read, held bytes and a number of instructions, stand at a boundary after entering on the
-- trace so far, which is sound
pub record StandsWith {L : Type 0} (lines : L → LineMap) (image : Image) (input : List ℕ) (veil : Veil) (trace : List Event) (handed_out : List ℕ) (core : Processor) (next : ℕ)
    (held : List ℕ) (fuel count : ℕ) (parts : Parts L) : Type 0 where
  pub stands : MemoryStands parts.layout parts.tree (lines parts.tree.lines) parts.log parts.stamps trace
  pub sound : IsSound parts.layout trace
  pub same_veil : veil_with parts ≡ veil
  pub boundary : (port : Port) → port.input.now ≡ input → port.next ≡ next
      → StandsAtBoundary (bus_sight (λ (sight : SecureSight L). sight)) (program_of image input) fuel handed_out held (record { core = core; memory = seen_with lines parts trace; port = port })
  pub layout : parts.layout ≡ image.layout
  pub within : next ≤ length input
  pub counted : count ≡ retired trace
  pub reads : ReadsLoaded (program_of image input) trace
  pub expected : ReadsExpected image.layout (history trace)

-- so a machine stands
pub record IsParked {L : Type 0} (lines : L → LineMap) (image : Image) (input : List ℕ) (veil : Veil) (trace : List Event) (handed_out : List ℕ) (parts : Parts L) (machine : TurnMachine L) : Type 0 where
  pub kept : machine.parts ≡ Some parts
  pub entered : machine.entered ≡ true
  pub stands : StandsWith lines image input veil trace handed_out machine.core machine.next machine.held machine.fuel machine.retired parts

-- the image, the input, the trace and the bytes that were handed out fit the machine: what each turn needs, and gives again where it is parked
pub data FitsMachine {L : Type 0} (lines : L → LineMap) (image : Image) (input : List ℕ) (veil : Veil) (trace : List Event) (handed_out : List ℕ) (machine : TurnMachine L) : Type 0 where
  unentered : (parts : Parts L) → IsUnentered lines image veil trace handed_out parts machine → FitsMachine lines image input veil trace handed_out machine
  parked : (parts : Parts L) → IsParked lines image input veil trace handed_out parts machine → FitsMachine lines image input veil trace handed_out machine

-- how a turn ends: the machine is parked, and it and the sink fit again, or the run is over
abbrev pub EndsTurn : {L : Type 0} → (L → LineMap) → Image → List ℕ → Veil → ℕ → Turn → List Event → Option ℕ → List ℕ → TurnMachine L → Type 0
EndsTurn {L} lines image input veil fuel Parked trace limit handed_out machine =
    FitsMachine lines image input veil trace handed_out machine × TakesRest limit fuel (length handed_out) × (machine.fuel ≡ fuel)
EndsTurn lines image input veil fuel (Over end) trace limit handed_out machine = RunIsOver veil (program_of image input) fuel handed_out end trace

-- ---- entering

-- a new memory was entered: it stands on its trace, which is sound, with no line of the tree and no other one of the log, in the mode of the program. After the mark
-- of entering each event is one of a block. The program that was read has the digest of the one with these static blocks
pub record EntersSo {L : Type 0} (lines : L → LineMap) (layout : Layout) (statics : List ℕ) (fuel : ℕ) (old new : Parts L) (trace : List Event) : Type 0 where
  pub stands : MemoryStands new.layout new.tree (lines new.tree.lines) new.log new.stamps trace
  pub sound : IsSound new.layout trace
  pub no_lines : lines new.tree.lines ≡ empty
  pub log_lines : new.log.lines ≡ old.log.lines
  pub tree : SameTree old.tree new.tree
  pub key : new.log.key ≡ old.log.key
  pub mode : new.modes.mode ≡ Te
  pub layout_is : new.layout ≡ layout
  pub rest : List Event
  pub trace_is : trace ≡ Note Enter ∷ rest
  pub access : list_all is_access_event rest ≡ true
  pub long : length trace ≡ enter_events layout
  pub fuelled : HasFuel layout fuel 0
  pub reads : entered_digest layout trace ≡ program_digest (blocks_in (static_blocks layout) statics)

-- bytes are bytes
abbrev pub AreBytes : List ℕ → Type 0
AreBytes input = (k : ℕ) → slice_index input k < 2 ^ 8
