-- The bus machine over the events of one step.
use Rattle.std.proofs.Common.{◌≡◌, ℕ, false, List, [], ◌∷◌, ◌++◌, refl, sym, ap, ◌∙◌}
use Rattle.std.specs.List.{list_any}
use Rattle.std.proofs.lemmas.Bool.{or_parts}
use Rattle.std.proofs.lemmas.List.{append-nil, append_assoc}
use Rattle.execution.specs.Run.{Next, Goes, and_then}
use Rattle.off_chip.specs.declared.Event.{Event}
use Rattle.off_chip.specs.declared.Event.TheVariants.{Note}
use Rattle.off_chip.specs.declared.Mark.TheVariants.{Retire}
use Rattle.off_chip.specs.declared.Who.TheVariants.{Secure}
use Rattle.off_chip.specs.Histories.{History, ◌◂◌, followed}
use Rattle.off_chip.specs.Boundaries.{enter_events, is_retire, since_step}
use Rattle.orbis_core.specs.Ideal.{Ideal, IdealEnd}
use Rattle.bus_machine.specs.BusMachine.{LoadedProgram, Veil, bus_step, with_reads}
use Rattle.bus_machine.specs.BusTurns.{BusGoesOver, BusStartsAt, reading}
use Rattle.bus_machine.proofs.SegmentLemmas.{StandsIn, enters, reads-none, retires, stays}

-- further events, none of which ends an instruction
over-events : (entry : ℕ) (veil : Veil) (program : LoadedProgram) (more : List Event) (older : History) (events : List Event) (before : Next Ideal IdealEnd)
    → StandsIn entry veil program older events before → list_any is_retire more ≡ false → StandsIn entry veil program (followed older more) (events ++ more) before
over-events entry veil program [] older events before at none = record { entered = at.entered; since = at.since ∙ append-none; now = at.now ∙ ap (λ (e : List Event). with_reads program.layout veil e before) append-none }
  where
    append-none : events ≡ events ++ []
    append-none = sym (append-nil events)
over-events entry veil program (event ∷ more) older events before at none =
    let parts = or_parts (is_retire event) (list_any is_retire more) none in
    let rest = over-events entry veil program more (event ◂ older) (events ++ event ∷ []) before (stays entry veil program event older events before parts.0 at) parts.1 in
    record {
      entered = rest.entered;
      since = rest.since ∙ append_assoc events (event ∷ []) more;
      now = rest.now ∙ ap (λ (e : List Event). with_reads program.layout veil e before) (append_assoc events (event ∷ []) more);
    }

pub goes-over : BusGoesOver
goes-over veil program older state events at none =
    let entry : ℕ = enter_events program.layout in
    let start : StandsIn entry veil program older [] (Goes state) = record { entered = at.entered; since = at.boundary; now = at.goes } in
    let over = over-events entry veil program events older [] (Goes state) start none in
    let done = retires entry veil program (Note (Retire Secure)) (followed older events) events (Goes state) refl over in
    record {
      under_way = over.since;
      taken = over.now;
      next = ap (λ (n : Next Ideal IdealEnd). and_then n (bus_step program.layout (since_step entry (followed older events)))) over.now
          ∙ ap (λ (e : List Event). bus_step program.layout e (reading veil program events state)) over.since;
      done = done.now ∙ reads-none program.layout veil (bus_step program.layout events (reading veil program events state));
      entered = done.entered;
      boundary = done.since;
    }

pub starts-at : BusStartsAt
starts-at veil program older long =
    let start = enters (enter_events program.layout) veil program older long in
    record { entered = start.entered; boundary = start.since; goes = start.now }
