use Rattle.std.proofs.Common.{rules, ◌+◌, refl, sym, ◌∙◌, subst, arith, Option}
use Rattle.std.proofs.lemmas.List.{append-nil}
use Rattle.regions.specs.declared.layout.Layout.{Layout}
use Rattle.off_chip.specs.BusCalls.{TellsLog}
use Rattle.stamp_log.specs.LogState.{stamped}
use Rattle.stamp_log.specs.LogEvents.{zero_payload}
use Rattle.stamp_log.proofs.StartLemmas.{starting-appended}
use Rattle.stamp_log.proofs.EventLemmas.{zeros-more}
use Rattle.stamp_log.proofs.RoomLemmas.{one-more-total}
use Rattle.aegis_num.specs.declared.storage.Place.TheVariants.{Log}
use Rattle.off_chip.specs.declared.event.Event.TheVariants.{BlockWrite}
use Rattle.stamp_log.proofs.log.write_zeros.Goals as goal

pub numbers-init : goal.numbers-init
numbers-init g c = record {
  room = omega (arith, c.requires.has_room);
  used = omega arith;
  told = c.requires.told;
  fits = c.requires.fits;
  sum = c.requires.sum;
  starting = c.requires.starting;
  events = sym (append-nil (g.O.OffChip.trace c.args.bus.now));
  stamps = omega arith;
  same = search rules;
  total = refl;
}

pub numbers-preserved : goal.numbers-preserved
numbers-preserved g c = record {
  room = omega (arith, c.numbers.invariant.room, c.write_back.ensures.event.room);
  used = omega (arith, c.numbers.invariant.used, c.write_back.ensures.event.room);
  told = subst (λ (l : Option Layout). TellsLog c.args.blocks l) (g.met.O.OffChip.same_layout _ _ c.write_back.ensures.same) c.numbers.invariant.told;
  fits = c.write_back.ensures.fits;
  sum = c.write_back.ensures.sum;
  starting = starting-appended c.args.blocks c.numbers.number (stamped zero_payload (c.numbers.stamps + 1)) (g.O.OffChip.trace c.numbers.bus) (g.O.OffChip.trace c.write_back.new.bus)
      c.write_back.ensures.event.trace c.numbers.invariant.starting c.numbers-test.true;
  events = zeros-more c.args.stamps.now c.numbers.number c.numbers.stamps (g.O.OffChip.trace c.args.bus.now) (g.O.OffChip.trace c.numbers.bus) (g.O.OffChip.trace c.write_back.new.bus)
      c.numbers.invariant.stamps c.numbers.invariant.events c.write_back.ensures.event.trace;
  stamps = omega (arith, c.numbers.invariant.stamps, c.write_back.ensures.next);
  same = g.met.O.OffChip.transitive _ _ _ c.numbers.invariant.same c.write_back.ensures.same;
  total = one-more-total (BlockWrite (Log c.numbers.number) (stamped zero_payload (c.numbers.stamps + 1))) _ _ _ _ _ c.write_back.ensures.event c.numbers.invariant.total;
}
