use Rattle.std.proofs.Common.{◌≡◌, ◌+◌, length, List, ℕ}
use Rattle.off_chip.specs.BusCalls.{TellsOnly}
use Rattle.secure_memory.specs.PrivatePads.{hidden_payload}
use Rattle.aegis_machine.specs.MachineParts.{FitsMachine, TakesRest}
use Rattle.machine_list.proofs.running.turn_on.Given as goal

-- the machine fits its image, and the bus has room for what its fuel allows
abbrev pub invariant-turns : goal.invariant-turns
invariant-turns g l = record {
  far : (handed_out : List ℕ) × FitsMachine g.L.Lines.lines l.image l.input (hidden_payload l.fn.store.tree.veil) (g.O.OffChip.trace l.bus) handed_out l.machine
      × TakesRest (g.K.Sink.limit l.out) l.machine.fuel (length handed_out);
  fuel_is : l.machine.fuel ≡ l.fuel;
  total : length (g.O.OffChip.trace l.bus) + g.O.OffChip.room l.bus ≡ length (g.O.OffChip.trace l.fn.bus) + g.O.OffChip.room l.fn.bus;
  told : TellsOnly l.image.layout (g.O.OffChip.layout l.bus);
}
