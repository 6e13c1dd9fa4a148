use Rattle.std.proofs.Common.{rules, ℕ, List, ◌+◌, ◌%◌, ◌≤◌, ◌∙◌, ap, arith, subst, refl, Option}
use Rattle.std.specs.Prelude.{◌^◌}
use Rattle.regions.specs.declared.layout.Layout.{Layout}
use Rattle.off_chip.specs.Histories.{history}
use Rattle.off_chip.specs.BusCalls.{TellsLog}
use Rattle.stamp_log.specs.LogState.{value_under}
use Rattle.stamp_log.proofs.SumLemmas.{reads-room, sum-read}
use Rattle.stamp_log.proofs.LoadLemmas.{read-fits, not-above, above-writes}
use Rattle.stamp_log.proofs.CheckLemmas.{reading-appended, sum-checked, checked-room}
use Rattle.off_chip.specs.declared.event.Event.{Event}
use Rattle.off_chip.specs.WriteBacks.{block_writes}
use Rattle.off_chip.proofs.HistoryLemmas.{in_order-history}
use Rattle.stamp_log.proofs.EventLemmas.{none-read, one-more-read}
use Rattle.stamp_log.proofs.RoomLemmas.{one-more-total}
use Rattle.aegis_num.specs.declared.storage.Place.TheVariants.{Log}
use Rattle.off_chip.specs.declared.event.Event.TheVariants.{BlockRead}
use Rattle.stamp_log.proofs.log.read_all.Goals as goal

pub add-requires : goal.add-requires
add-requires g c = reads-room (value_under c.args.key.now) c.numbers.read (g.O.OffChip.trace c.numbers.bus) (g.O.OffChip.room c.numbers.bus) c.numbers.invariant.read
    c.read_entry.ensures.limit (omega (arith, c.numbers.invariant.room, c.numbers-test.true))

pub add-requires-in-Ok : goal.add-requires-in-Ok
add-requires-in-Ok g c = checked-room (value_under c.args.key.now) c.numbers.number c.numbers.next (history (g.O.OffChip.trace c.numbers.bus))
    c.numbers.invariant.reading.checking c.numbers.invariant.next (omega (arith, c.numbers-test.true, c.ranges.blocks.fits))

pub returns-in-Err-clause-fits : goal.returns-in-Err-clause-fits
returns-in-Err-clause-fits g c = read-fits c.args.stamps.now c.numbers.number c.read_entry.new.into (g.O.OffChip.trace c.numbers.bus) (g.O.OffChip.trace c.read_entry.new.bus)
    c.read_entry.ensures.event.trace c.numbers.invariant.fits

pub numbers-init : goal.numbers-init
numbers-init g c = record {
  room = omega (arith, c.requires.has_room);
  used = omega arith;
  told = c.requires.told;
  fits = c.requires.fits;
  read = c.requires.read;
  next = c.requires.next;
  reading = c.requires.reading;
  order = none-read (g.O.OffChip.trace c.args.bus.now);
  same = search rules;
  total = refl;
}

pub numbers-preserved : goal.numbers-preserved
numbers-preserved g c =
    let stamp : c.read_entry.new.into.stamp ≤ c.args.stamps.now =
    not-above c.args.stamps.now c.read_entry.new.into.stamp (λ less. let bad = c.in-Ok.ensures.above.1 less in cc) in
    record {
      room = omega (arith, c.numbers.invariant.room, c.read_entry.ensures.event.room);
      used = omega (arith, c.numbers.invariant.used, c.read_entry.ensures.event.room);
      told = subst (λ (l : Option Layout). TellsLog c.args.blocks l) (g.met.O.OffChip.same_layout _ _ c.read_entry.ensures.same) c.numbers.invariant.told;
      fits = read-fits c.args.stamps.now c.numbers.number c.read_entry.new.into (g.O.OffChip.trace c.numbers.bus) (g.O.OffChip.trace c.read_entry.new.bus)
          c.read_entry.ensures.event.trace c.numbers.invariant.fits;
      read = sum-read (value_under c.args.key.now) c.numbers.number c.read_entry.new.into (g.O.OffChip.trace c.numbers.bus) (g.O.OffChip.trace c.read_entry.new.bus)
          c.numbers.read c.add.new.self c.read_entry.ensures.event.trace c.numbers.invariant.read c.add.ensures.count
          (c.add.ensures.sum ∙ ap (λ (n : ℕ). (c.numbers.read.sum + n) % (2 ^ 128)) c.in-Ok.ensures.value);
      next = sum-checked (value_under c.args.key.now) c.numbers.number c.read_entry.new.into (g.O.OffChip.trace c.numbers.bus) (g.O.OffChip.trace c.read_entry.new.bus)
          c.numbers.next c.add-in-Ok.new.self c.read_entry.ensures.event.trace c.numbers.invariant.reading.checking.started c.numbers.invariant.next
          c.add-in-Ok.ensures.count (c.add-in-Ok.ensures.sum ∙ ap (λ (n : ℕ). (c.numbers.next.sum + n) % (2 ^ 128)) c.in-Ok.ensures.value);
      reading = reading-appended (value_under c.args.key.now) c.args.blocks c.numbers.number c.args.stamps.now c.read_entry.new.into
          (history (g.O.OffChip.trace c.args.bus.now)) (g.O.OffChip.trace c.numbers.bus) (g.O.OffChip.trace c.read_entry.new.bus)
          c.read_entry.ensures.event.trace c.numbers.invariant.reading c.numbers-test.true c.numbers.invariant.fits stamp;
      order = one-more-read c.numbers.number c.read_entry.new.into (g.O.OffChip.trace c.args.bus.now) (g.O.OffChip.trace c.numbers.bus) (g.O.OffChip.trace c.read_entry.new.bus)
          c.numbers.invariant.order c.read_entry.ensures.event.trace
          (omega (arith, stamp, c.requires.fits.count, ap (λ (t : List Event). block_writes t) (in_order-history (g.O.OffChip.trace c.args.bus.now))));
      same = g.met.O.OffChip.transitive _ _ _ c.numbers.invariant.same c.read_entry.ensures.same;
      total = one-more-total (BlockRead (Log c.numbers.number) c.read_entry.new.into) _ _ _ _ _ c.read_entry.ensures.event c.numbers.invariant.total;
    }

pub returns-in-Err-clause-future : goal.returns-in-Err-clause-future
returns-in-Err-clause-future g c = record {
  before = g.O.OffChip.trace c.numbers.bus;
  n = c.numbers.number;
  block = c.read_entry.new.into;
  last = c.read_entry.ensures.event.trace;
  number = c.in-Err.ensures.number;
  above = (above-writes c.args.stamps.now c.read_entry.new.into.stamp (g.O.OffChip.trace c.numbers.bus) c.numbers.invariant.fits).0 (c.in-Err.ensures.above.0 refl);
}

pub returns-in-Err-clause-stops : goal.returns-in-Err-clause-stops
returns-in-Err-clause-stops g c = record {
  n = c.numbers.number;
  less = c.numbers-test.true;
  middle = g.O.OffChip.trace c.numbers.bus;
  earlier = c.numbers.invariant.order;
  block = c.read_entry.new.into;
  last = c.read_entry.ensures.event.trace;
  above = (above-writes c.args.stamps.now c.read_entry.new.into.stamp (g.O.OffChip.trace c.args.bus.now) c.requires.fits).0 (c.in-Err.ensures.above.0 refl);
}
