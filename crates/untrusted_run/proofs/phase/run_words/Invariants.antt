use Rattle.std.proofs.Common.{◌≡◌, ◌+◌, ◌*◌, ◌≤◌, ◌++◌, List, length}
use Rattle.off_chip.specs.declared.event.Event.{Event}
use Rattle.untrusted_run.specs.declared.phase.TheConstants.{MAX_INSTRUCTIONS}
use Rattle.untrusted_run.proofs.PhaseLemmas.{SoFar}
use Rattle.untrusted_run.proofs.phase.run_words.Given as goal

abbrev pub invariant-instructions : goal.invariant-instructions
invariant-instructions g l = record {
  room : 4 * MAX_INSTRUCTIONS ≤ g.O.OffChip.room l.words.bus.now + 4 * l.counter;
  used : g.O.OffChip.room l.fn.words.bus.now ≤ g.O.OffChip.room l.words.bus.now + 4 * l.counter;
  phase : (events : List Event) × (g.O.OffChip.trace l.words.bus.now ≡ g.O.OffChip.trace l.fn.words.bus.now ++ events) × SoFar events l.core l.counter;
  total : length (g.O.OffChip.trace l.words.bus.now) + g.O.OffChip.room l.words.bus.now ≡ length (g.O.OffChip.trace l.fn.words.bus.now) + g.O.OffChip.room l.fn.words.bus.now;
  same : g.O.OffChip.same_memory l.fn.words.bus.now l.words.bus.now;
  same_reference : l.words.bus.ghost_name ≡ l.fn.words.bus.ghost_name;
}
