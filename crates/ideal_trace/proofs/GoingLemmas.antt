-- Where the bus machine goes on at each boundary, it goes on between them.
use Rattle.std.proofs.Common.{◌≡◌, ◌+◌, ◌<◌, ◌≤◌, Bool, true, false, cond, [], ◌∷◌, length, refl, ap, ◌∙◌, inl, inr, ◌⊎◌, arith}
use Rattle.std.proofs.lemmas.Bool.{OnTrue_at, cases_lt}
use Rattle.execution.specs.Run.{Next, and_then}
use Rattle.off_chip.specs.Histories.{AtEach, History, no_event, ◌◂◌, in_order}
use Rattle.off_chip.specs.Boundaries.{enter_events, is_retire, since_step}
use Rattle.orbis_core.specs.Ideal.{Ideal, IdealEnd}
use Rattle.bus_machine.specs.BusData.{GoesOn, at_boundary}
use Rattle.bus_machine.specs.BusMachine.{LoadedProgram, Veil, bus_machine, bus_step, memory_after, with_reads}
use Rattle.bus_machine.proofs.SegmentLemmas.{bus-goes-on, bus-start}
use Rattle.ideal_trace.proofs.EventLemmas.{longer, step-entered}

module _ (veil : Veil) (program : LoadedProgram) where
  pub goes-between : (older : History) → AtEach (at_boundary program) (GoesOn veil program) older → GoesOn veil program older
  goes-between no_event each = record { state = _; goes = refl }
  goes-between (event ◂ older) each = by (cases_lt (length (in_order older)) (enter_events program.layout)) (goes-between older each.0)
    where
      after : (b : Bool) → enter_events program.layout ≤ length (in_order older) → is_retire event ≡ b → GoesOn veil program older → GoesOn veil program (event ◂ older)
      after true before is goes = OnTrue_at (step-entered (enter_events program.layout) event older before ∙ is) each.1
      after false before is goes = record {
        state = record goes.state { memory = memory_after program.layout veil event goes.state.memory };
        goes = bus-goes-on (enter_events program.layout) veil program event older before
            ∙ ap (λ (b : Bool). cond b (and_then (bus_machine veil program older) (bus_step program.layout (since_step (enter_events program.layout) older)))
            (with_reads program.layout veil (event ∷ []) (bus_machine veil program older))) is
            ∙ ap (λ (n : Next Ideal IdealEnd). with_reads program.layout veil (event ∷ []) n) goes.goes;
      }

      by : (length (in_order older) < enter_events program.layout) ⊎ (enter_events program.layout ≤ length (in_order older)) → GoesOn veil program older → GoesOn veil program (event ◂ older)
      by (inl below) goes =
          let more : length (in_order (event ◂ older)) ≡ length (in_order older) + 1 = longer event older in
          record { state = _; goes = bus-start (enter_events program.layout) veil program (event ◂ older) (omega (arith, more, below)) }
      by (inr before) goes = after (is_retire event) before refl goes
