use Rattle.std.proofs.Common.{◌≡◌, ℕ, ◌<◌, false, IsTrue, List, [], ◌∷◌, ◌++◌, None, ap, subst, ◌∙◌, length-set, arith}
use Rattle.std.specs.FinMap.{contains_key, insert}
use Rattle.aegis_num.specs.declared.limits.TheConstants.{TREE_LINES}
use Rattle.line_cache.specs.declared.lines.Line.{Line}
use Rattle.line_cache.specs.LineMaps.{HasParent}
use Rattle.line_cache.specs.LineOrder.{OrderedLines, line_of, is_below_limit, lines_of}
use Rattle.line_cache.specs.SlotLists.{AreApart, lines_at}
use Rattle.line_cache.specs.OrderLaws.{lines_of-new}
use Rattle.line_cache.proofs.SlotLemmas.{AreApart-add, line_of-add}
use Rattle.line_cache.proofs.CacheLemmas.{slot_below, absent_slot, is_below_limit-lines_at, new_view, inserted_cache}
use Rattle.line_cache.proofs.cache.LineCacheLines.insert.Goals as goal
use Rattle.line_cache.specs.LineMaps.{HasParent}

pub add-slot-requires-clause-absent : goal.add-slot-requires-clause-absent
add-slot-requires-clause-absent c =
    let absent : contains_key (lines_of (lines_at c.self.inside.payloads.items c.self.inside.marks.items c.self.inside.slots.held)) c.args.block ≡ false = rw (← c.self.view_is) at c.requires.absent in
    absent_slot c.self.inside.payloads.items c.self.inside.marks.items c.self.inside.slots.held c.args.block c.self.invariant.sound absent

pub add-slot-requires-clause-room : goal.add-slot-requires-clause-room
add-slot-requires-clause-room c =
    let room : IsTrue (is_below_limit (lines_at c.self.inside.payloads.items c.self.inside.marks.items c.self.inside.slots.held)) = rw (← c.self.view_is) at c.requires.room in
    rw (is_below_limit-lines_at c.self.inside.payloads.items c.self.inside.marks.items c.self.inside.slots.held) at room

-- the slots after the block has one, and that this one is a slot
added : (block slot : ℕ) (held after : List (ℕ × ℕ)) (free left : List ℕ) → line_of block held ≡ None → AreApart (record { held = held; free = free }) → free ≡ left ++ slot ∷ [] → AreApart (record { held = (block, slot) ∷ held; free = left })
added block slot held after free left absent apart e = AreApart-add block slot held left absent (rw e at apart)

slot_fits : (block slot : ℕ) (held : List (ℕ × ℕ)) (left : List ℕ) → AreApart (record { held = (block, slot) ∷ held; free = left }) → slot < TREE_LINES
slot_fits block slot held left apart = slot_below (record { held = (block, slot) ∷ held; free = left }) apart block slot (line_of-add block slot held)

pub index_mut-requires : goal.index_mut-requires
index_mut-requires c =
    let held = c.self.inside.slots.held in
    let absent : contains_key (lines_of (lines_at c.self.inside.payloads.items c.self.inside.marks.items held)) c.args.block ≡ false = rw (← c.self.view_is) at c.requires.absent in
    let none = absent_slot c.self.inside.payloads.items c.self.inside.marks.items held c.args.block c.self.invariant.sound absent in
    let apart = added c.args.block c.add-slot.result held held c.self.inside.slots.free c.add-slot.new.self.free none c.self.invariant.apart c.add-slot.ensures.free in
    let below = slot_fits c.args.block c.add-slot.result held c.add-slot.new.self.free apart in
    let size = c.self.inside.payloads.ok.0 in
    let count = c.self.invariant.payload_count in
    let at = c.from.ensures in
    omega arith

pub index_mut-requires-2 : goal.index_mut-requires-2
index_mut-requires-2 c =
    let held = c.self.inside.slots.held in
    let absent : contains_key (lines_of (lines_at c.self.inside.payloads.items c.self.inside.marks.items held)) c.args.block ≡ false = rw (← c.self.view_is) at c.requires.absent in
    let none = absent_slot c.self.inside.payloads.items c.self.inside.marks.items held c.args.block c.self.invariant.sound absent in
    let apart = added c.args.block c.add-slot.result held held c.self.inside.slots.free c.add-slot.new.self.free none c.self.invariant.apart c.add-slot.ensures.free in
    let below = slot_fits c.args.block c.add-slot.result held c.add-slot.new.self.free apart in
    let size = c.self.inside.marks.ok.0 in
    let count = c.self.invariant.mark_count in
    let at = c.from-2.ensures in
    omega arith

pub invariant_of-self : goal.invariant_of-self
invariant_of-self c =
    let held = c.self.inside.slots.held in
    let payloads = c.self.inside.payloads.items in
    let marks = c.self.inside.marks.items in
    let lines = lines_at payloads marks held in
    let absent : contains_key (lines_of lines) c.args.block ≡ false = rw (← c.self.view_is) at c.requires.absent in
    let parent : HasParent (lines_of lines) c.args.block = rw (← c.self.view_is) at c.requires.parent in
    let room : IsTrue (is_below_limit lines) = rw (← c.self.view_is) at c.requires.room in
    let none = absent_slot payloads marks held c.args.block c.self.invariant.sound absent in
    let apart = added c.args.block c.add-slot.result held held c.self.inside.slots.free c.add-slot.new.self.free none c.self.invariant.apart c.add-slot.ensures.free in
    let below = slot_fits c.args.block c.add-slot.result held c.add-slot.new.self.free apart in
    let count = c.self.invariant.payload_count in
    let mark_count = c.self.invariant.mark_count in
    let same : c.add-slot.new.self ≡ record { held = (c.args.block, c.add-slot.result) ∷ held; free = c.add-slot.new.self.free } = λ i. record { held = c.add-slot.ensures.held i; free = c.add-slot.new.self.free } in
    record {
      sound = rw (new_view payloads marks c.args.block c.add-slot.result c.from.result c.from-2.result c.args.payload.now held c.add-slot.new.self.held c.add-slot.new.self.free apart c.add-slot.ensures.held c.from.ensures c.from-2.ensures (omega arith) (omega arith)) (inserted_cache payloads marks c.args.block (record { payload = c.args.payload.now; dirty = false }) held c.self.invariant.sound absent parent room);
      apart = rw same apart;
      payload_count = length-set payloads c.from.result c.args.payload.now ∙ count;
      mark_count = length-set marks c.from-2.result false ∙ mark_count;
    }

pub returns-clause-order : goal.returns-clause-order
returns-clause-order c =
    let held = c.self.inside.slots.held in
    let payloads = c.self.inside.payloads.items in
    let marks = c.self.inside.marks.items in
    let absent : contains_key (lines_of (lines_at payloads marks held)) c.args.block ≡ false = rw (← c.self.view_is) at c.requires.absent in
    let none = absent_slot payloads marks held c.args.block c.self.invariant.sound absent in
    let apart = added c.args.block c.add-slot.result held held c.self.inside.slots.free c.add-slot.new.self.free none c.self.invariant.apart c.add-slot.ensures.free in
    let below = slot_fits c.args.block c.add-slot.result held c.add-slot.new.self.free apart in
    let count = c.self.invariant.payload_count in
    let mark_count = c.self.invariant.mark_count in
    rw (← c.self.view_is) (new_view payloads marks c.args.block c.add-slot.result c.from.result c.from-2.result c.args.payload.now held c.add-slot.new.self.held c.add-slot.new.self.free apart c.add-slot.ensures.held c.from.ensures c.from-2.ensures (omega arith) (omega arith))

pub returns-clause-lines : goal.returns-clause-lines
returns-clause-lines c =
    let held = c.self.inside.slots.held in
    let lines = lines_at c.self.inside.payloads.items c.self.inside.marks.items held in
    let line : Line = record { payload = c.args.payload.now; dirty = false } in
    let absent : contains_key (lines_of lines) c.args.block ≡ false = rw (← c.self.view_is) at c.requires.absent in
    let parent : HasParent (lines_of lines) c.args.block = rw (← c.self.view_is) at c.requires.parent in
    let room : IsTrue (is_below_limit lines) = rw (← c.self.view_is) at c.requires.room in
    let more = inserted_cache c.self.inside.payloads.items c.self.inside.marks.items c.args.block line held c.self.invariant.sound absent parent room in
    let P : OrderedLines → Type 0 = λ now. lines_of ((c.args.block, line) ∷ now) ≡ insert (lines_of now) c.args.block line in
    ap lines_of (returns-clause-order c) ∙ subst P c.self.view_is (lines_of-new c.args.block line lines c.self.invariant.sound more)
