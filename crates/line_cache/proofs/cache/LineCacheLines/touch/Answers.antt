use Rattle.std.proofs.Common.{◌≡◌, refl}
use Rattle.line_cache.specs.LineOrder.{promoted}
use Rattle.line_cache.specs.SlotLists.{lines_at}
use Rattle.line_cache.specs.EntryLaws.{length-promoted}
use Rattle.line_cache.specs.OrderLaws.{is_cache-promoted, lines_of-promoted}
use Rattle.line_cache.proofs.SlotLemmas.{AreApart-promoted}
use Rattle.line_cache.proofs.CacheLemmas.{lines_at-promoted}
use Rattle.line_cache.proofs.cache.LineCacheLines.touch.Goals as goal

pub invariant_of-self : goal.invariant_of-self
invariant_of-self c =
    let held = c.self.inside.slots.held in
    let same : c.promote.new.self ≡ record { held = promoted c.args.block held; free = c.self.inside.slots.free } = λ i. record { held = c.promote.ensures.held i; free = c.promote.ensures.free i } in
    rw same (record {
      sound = rw (lines_at-promoted c.self.inside.payloads.items c.self.inside.marks.items c.args.block held) (is_cache-promoted c.args.block (lines_at c.self.inside.payloads.items c.self.inside.marks.items held) c.self.invariant.sound);
      apart = AreApart-promoted c.args.block held c.self.inside.slots.free c.self.invariant.apart;
      payload_count = c.self.invariant.payload_count;
      mark_count = c.self.invariant.mark_count;
    })

pub returns-clause-order : goal.returns-clause-order
returns-clause-order c = rw (← c.self.view_is, c.promote.ensures.held) (lines_at-promoted c.self.inside.payloads.items c.self.inside.marks.items c.args.block c.self.inside.slots.held)

pub returns-clause-lines : goal.returns-clause-lines
returns-clause-lines c =
    let lines = lines_at c.self.inside.payloads.items c.self.inside.marks.items c.self.inside.slots.held in
    rw (← c.self.view_is, c.promote.ensures.held, lines_at-promoted c.self.inside.payloads.items c.self.inside.marks.items c.args.block c.self.inside.slots.held) (lines_of-promoted c.args.block lines c.self.invariant.sound)

pub returns-clause-room : goal.returns-clause-room
returns-clause-room c other =
    let lines = lines_at c.self.inside.payloads.items c.self.inside.marks.items c.self.inside.slots.held in
    rw (← c.self.view_is, c.promote.ensures.held, lines_at-promoted c.self.inside.payloads.items c.self.inside.marks.items c.args.block c.self.inside.slots.held, length-promoted c.args.block lines) refl
