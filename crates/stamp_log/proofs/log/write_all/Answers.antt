use Rattle.std.proofs.Common.{rules, refl, ℕ, ◌∙◌, arith, subst, length, Option}
use Rattle.regions.specs.declared.layout.Layout.{Layout}
use Rattle.off_chip.specs.BusCalls.{TellsLog}
use Rattle.stamp_log.specs.LogCalls.{WritesBack, MakesRoom}
use Rattle.stamp_log.proofs.EventLemmas.{room-length}
use Rattle.stamp_log.proofs.log.write_all.Goals as goal

pub lines-init : goal.lines-init
lines-init g c = record {
  held = search rules;
  payloads = search rules;
  count = search rules;
  few = omega (arith, c.len-end.ensures.value, c.len-end.ensures.limit);
  last = λ none. c.len-end.ensures.nothing (c.len-end.ensures.value ∙ none);
  room = omega (arith, c.requires.has_room);
  used = omega arith;
  grown = omega arith;
  writes = WritesBack.none (g.O.OffChip.trace c.args.bus.now) c.args.lines.now;
  told = c.requires.told;
  fits = c.requires.fits;
  sum = c.requires.sum;
  same = search rules;
  total = refl;
}

pub lines-preserved : goal.lines-preserved
lines-preserved g c = record {
  held = c.write_oldest.ensures.held ∙ c.lines.invariant.held;
  payloads = c.write_oldest.ensures.payloads ∙ c.lines.invariant.payloads;
  count = omega (arith, c.lines.invariant.count, c.write_oldest.ensures.order);
  few = c.lines.invariant.few;
  last = c.write_oldest.ensures.last;
  room = omega (arith, c.lines.invariant.room, c.write_oldest.ensures.room);
  used = omega (arith, c.lines.invariant.used, c.write_oldest.ensures.room);
  grown = omega (
    arith,
    c.lines.invariant.grown,
    room-length (length c.lines.lines.held) (g.O.OffChip.trace c.lines.bus) (g.O.OffChip.trace c.write_oldest.new.bus)
        c.lines.lines c.write_oldest.new.lines c.write_oldest.ensures.makes,
  );
  writes = WritesBack.more (g.O.OffChip.trace c.args.bus.now) (g.O.OffChip.trace c.lines.bus) (g.O.OffChip.trace c.write_oldest.new.bus)
      c.args.lines.now c.lines.lines c.write_oldest.new.lines c.lines.invariant.writes
      (subst (λ (n : ℕ). MakesRoom n (g.O.OffChip.trace c.lines.bus) (g.O.OffChip.trace c.write_oldest.new.bus) c.lines.lines c.write_oldest.new.lines)
      c.lines.invariant.held c.write_oldest.ensures.makes);
  told = subst (λ (l : Option Layout). TellsLog (length c.args.lines.now.held) l) (g.met.O.OffChip.same_layout _ _ c.write_oldest.ensures.same) c.lines.invariant.told;
  fits = c.write_oldest.ensures.fits;
  sum = c.write_oldest.ensures.sum;
  same = g.met.O.OffChip.transitive _ _ _ c.lines.invariant.same c.write_oldest.ensures.same;
  total = c.write_oldest.ensures.total ∙ c.lines.invariant.total;
}
