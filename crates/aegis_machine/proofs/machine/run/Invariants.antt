use Rattle.std.proofs.Common.{Some, ◌≡◌, ◌+◌, ◌*◌, length}
use Rattle.off_chip.specs.BusCalls.{TellsOnly}
use Rattle.secure_memory.specs.PrivatePads.{hidden_payload}
use Rattle.aegis_machine.specs.MachineParts.{log_key}
use Rattle.aegis_machine.proofs.TurnLemmas.{RunSoFar}
use Rattle.aegis_machine.proofs.machine.run.Given as goal

abbrev pub invariant-turns : goal.invariant-turns
invariant-turns g l = record {
  far : RunSoFar g.L.Lines.lines l.image l.input (hidden_payload l.fn.store.tree.veil) l.fuel (g.O.OffChip.trace l.bus) (g.K.Sink.written l.fn.out) (g.K.Sink.written l.out) (g.K.Sink.limit l.out) l.machine;
  key : log_key l.machine ≡ Some l.fn.store.log.key;
  steady : g.K.Sink.faults l.out ≡ g.K.Sink.faults l.fn.out;
  count : l.machine.retired ≡ l.counter * 4294967295;
  total : length (g.O.OffChip.trace l.bus) + g.O.OffChip.room l.bus ≡ length (g.O.OffChip.trace l.fn.bus) + g.O.OffChip.room l.fn.bus;
  told : TellsOnly l.image.layout (g.O.OffChip.layout l.bus);
  same : g.O.OffChip.same_memory l.fn.bus l.bus;
}
