use Rattle.std.proofs.Common.{ℕ, ◌+◌, ◌%◌, ◌∙◌, ap, arith}
use Rattle.std.specs.Prelude.{◌^◌}
use Rattle.stamp_log.specs.LogState.{value_under, stamped}
use Rattle.stamp_log.proofs.SumLemmas.{stamp-bound, writes-room, fits-written, sum-written}
use Rattle.stamp_log.proofs.trace.write_back.Goals as goal

pub fresh-requires : goal.fresh-requires
fresh-requires g c = omega (arith, stamp-bound c.args.stamps.now (g.O.OffChip.trace c.args.bus.now) c.requires.fits, c.events.ensures.limit, c.requires.has_room)

pub add-requires : goal.add-requires
add-requires g c = writes-room (value_under c.args.key.now) c.args.written.now (g.O.OffChip.trace c.args.bus.now) (g.O.OffChip.room c.args.bus.now)
    c.requires.sum c.events.ensures.limit c.requires.has_room

pub returns-clause-fits : goal.returns-clause-fits
returns-clause-fits g c = fits-written c.args.stamps.now c.fresh.new.self c.args.number (stamped c.args.payload.now c.fresh.result)
    (g.O.OffChip.trace c.args.bus.now) (g.O.OffChip.trace c.write_block.new.self) c.write_block.ensures.event.trace c.requires.fits c.fresh.ensures.next c.fresh.ensures.kept

pub returns-clause-sum : goal.returns-clause-sum
returns-clause-sum g c = sum-written (value_under c.args.key.now) c.args.number (stamped c.args.payload.now c.fresh.result)
    (g.O.OffChip.trace c.args.bus.now) (g.O.OffChip.trace c.write_block.new.self) c.args.written.now c.add.new.self c.write_block.ensures.event.trace
    c.requires.sum c.add.ensures.count
    (c.add.ensures.sum ∙ ap (λ (n : ℕ). (c.args.written.now.sum + n) % (2 ^ 128)) c.entry_value.ensures.value)
