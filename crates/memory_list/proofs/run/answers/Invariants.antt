use Rattle.secure_memory.specs.MemorySights.{IsReady, sight_of}
use Rattle.memory_list.proofs.run.answers.Given as goal

-- the memory is ready for an access
abbrev pub invariant-each : goal.invariant-each
invariant-each g l = record {
  ready : IsReady (sight_of g.L.Lines.lines g.O.OffChip.trace g.O.OffChip.room g.O.OffChip.layout l.memory);
}
