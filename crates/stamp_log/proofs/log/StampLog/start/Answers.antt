use Rattle.std.proofs.Common.{◌≡◌, ◌≤◌, ◌<◌, ◌++◌, ℕ, Bool, false, List, ◌∙◌, ap, sym, subst, Some, replicate}
use Rattle.std.specs.Prelude.{slice_index_or}
use Rattle.off_chip.specs.declared.event.Event.{Event}
use Rattle.off_chip.specs.Histories.{history}
use Rattle.off_chip.specs.BusCalls.{TellsLog}
use Rattle.off_chip.specs.Epochs.{LogEntry, open_writes}
use Rattle.off_chip.specs.Collisions.{sum_of}
use Rattle.stamp_log.specs.LogState.{LogState, value_under}
use Rattle.stamp_log.specs.LogStands.{AreLastWrites}
use Rattle.stamp_log.specs.StandsOn.{IsNew}
use Rattle.stamp_log.specs.LogEvents.{zero_payload, zeros_written}
use Rattle.stamp_log.proofs.StartLemmas.{not-started, started-stands, none-held}
use Rattle.stamp_log.proofs.LogLemmas.{line-none}
use Rattle.stamp_log.proofs.EventLemmas.{zeros-contents, zeros-first}
use Rattle.stamp_log.proofs.log.StampLog.start.Goals as goal

pub write_zeros-requires : goal.write_zeros-requires
write_zeros-requires g c =
    let old : LogState = record { key = c.self.inside.key; blocks = c.self.inside.blocks; lines = c.self.inside.lines; read = c.self.inside.read; written = c.self.inside.written } in
    let unused : IsNew old = subst (λ (l : LogState). IsNew l) (sym c.self.view_is) c.requires.unused in
    let before = not-started c.self.inside.blocks (history (g.O.OffChip.trace c.args.bus.now)) c.requires.clean in
    record {
      has_room = subst (λ (l : LogState). l.blocks ≤ g.O.OffChip.room c.args.bus.now) (sym c.self.view_is) c.requires.has_room;
      told = subst (λ (l : LogState). TellsLog l.blocks (g.O.OffChip.layout c.args.bus.now)) (sym c.self.view_is) c.requires.told;
      fits = c.requires.fits;
      starting = before.0;
      sum = unused.written ∙ ap (λ (xs : List LogEntry). sum_of (value_under c.self.inside.key) xs) (sym before.1);
    }

pub returns-clause-stands : goal.returns-clause-stands
returns-clause-stands g c =
    let old : LogState = record { key = c.self.inside.key; blocks = c.self.inside.blocks; lines = c.self.inside.lines; read = c.self.inside.read; written = c.self.inside.written } in
    let new : LogState = record { key = c.self.inside.key; blocks = c.self.inside.blocks; lines = c.self.inside.lines; read = c.self.inside.read; written = c.write_zeros.new.written } in
    let unused : IsNew old = subst (λ (l : LogState). IsNew l) (sym c.self.view_is) c.requires.unused in
    started-stands new (history (g.O.OffChip.trace c.write_zeros.new.bus)) c.write_zeros.ensures.starting unused.held unused.read c.write_zeros.ensures.sum

pub returns-clause-events : goal.returns-clause-events
returns-clause-events g c =
    c.write_zeros.ensures.events ∙ ap (λ (l : LogState). g.O.OffChip.trace c.args.bus.now ++ zeros_written c.args.stamps.now l.blocks) c.self.view_is

pub returns-clause-contents : goal.returns-clause-contents
returns-clause-contents g c = λ n below.
    let old : LogState = record { key = c.self.inside.key; blocks = c.self.inside.blocks; lines = c.self.inside.lines; read = c.self.inside.read; written = c.self.inside.written } in
    let unused : IsNew old = subst (λ (l : LogState). IsNew l) (sym c.self.view_is) c.requires.unused in
    let less : n < c.self.inside.blocks = subst (λ (l : LogState). n < l.blocks) (sym c.self.view_is) below in
    zeros-contents c.args.stamps.now c.self.inside.blocks (g.O.OffChip.trace c.args.bus.now) (g.O.OffChip.trace c.write_zeros.new.bus) c.self.inside.lines n less
    c.write_zeros.ensures.events
    (line-none c.self.inside.lines n (ap (λ (xs : List Bool). slice_index_or xs n false) unused.held ∙ none-held c.self.inside.blocks n))

pub returns-clause-first : goal.returns-clause-first
returns-clause-first g c =
    subst (λ (l : LogState). AreLastWrites l.blocks (open_writes (history (g.O.OffChip.trace c.write_zeros.new.bus))) (history (g.O.OffChip.trace c.write_zeros.new.bus))) c.self.view_is
    (zeros-first c.args.stamps.now c.self.inside.blocks (g.O.OffChip.trace c.args.bus.now) (g.O.OffChip.trace c.write_zeros.new.bus)
    (not-started c.self.inside.blocks (history (g.O.OffChip.trace c.args.bus.now)) c.requires.clean).1 c.write_zeros.ensures.events)
