use Rattle.std.proofs.Common.{◌≡◌}
use Rattle.flat_machine.proofs.Sending.{IsRunning}
use Rattle.flat_machine.proofs.machine.run_image.Given as goal

abbrev pub invariant-loop-index : goal.invariant-loop-index
invariant-loop-index g l = record {
  running : IsRunning l.image l.input l.index (record { core = l.core; memory = l.memory; port = l.port }) (g.K.Sink.written l.fn.out) (g.K.Sink.written l.out) (g.K.Sink.limit l.fn.out) (g.K.Sink.limit l.out);
  steady : g.K.Sink.faults l.out ≡ g.K.Sink.faults l.fn.out;
}
