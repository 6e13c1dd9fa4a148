use Rattle.std.proofs.Common.{◌≡◌, ◌+◌, ◌≤◌, length}
use Rattle.secure_memory.specs.MemorySights.{sight_of}
use Rattle.aegis_machine.specs.SecureSights.{bus_sight}
use Rattle.aegis_machine.specs.Watched.{IsWatched}
use Rattle.aegis_machine.proofs.RunLemmas.{RunsSince}
use Rattle.aegis_machine.proofs.turns.run_on.Given as goal

abbrev pub invariant-instructions : goal.invariant-instructions
invariant-instructions g l = record {
  since : RunsSince (bus_sight (sight_of g.L.Lines.lines g.O.OffChip.trace g.O.OffChip.room g.O.OffChip.layout)) (λ memory. g.O.OffChip.room memory.lent.now) l.fuel
      (g.K.Sink.written l.fn.out) (g.K.Sink.written l.out) (g.K.Sink.limit l.fn.out) (g.K.Sink.limit l.out) l.fn.held l.held l.fn.count l.count
      (record { core = l.fn.core; memory = l.fn.mem; port = l.fn.port }) (record { core = l.core; memory = l.mem; port = l.port });
  steady : g.K.Sink.faults l.out ≡ g.K.Sink.faults l.fn.out;
  ready : IsWatched (sight_of g.L.Lines.lines g.O.OffChip.trace g.O.OffChip.room g.O.OffChip.layout l.mem);
  parked : l.count ≡ l.fn.count + l.counter;
  port : l.port.next ≤ length l.port.input.now;
  input : l.port.input ≡ l.fn.port.input;
  same : g.O.OffChip.same_memory l.fn.mem.lent.now l.mem.lent.now;
  total : length (g.O.OffChip.trace l.mem.lent.now) + g.O.OffChip.room l.mem.lent.now ≡ length (g.O.OffChip.trace l.fn.mem.lent.now) + g.O.OffChip.room l.fn.mem.lent.now;
  same_reference : l.mem.lent.ghost_name ≡ l.fn.mem.lent.ghost_name;
  key : l.mem.log.key ≡ l.fn.mem.log.key;
}
