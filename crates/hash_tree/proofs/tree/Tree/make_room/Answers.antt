use Rattle.std.proofs.Common.{refl, ◌∙◌, arith}
use Rattle.line_cache.proofs.MapLemmas.{len-held}
use Rattle.hash_tree.proofs.MoveLemmas.{moved-none, moved-evicted}
use Rattle.hash_tree.proofs.tree.Tree.make_room.Goals as goal

pub loop-victim-init : goal.loop-victim-init
loop-victim-init g c = record {
  tree = record { veil = refl; layout = refl };
  does = moved-none _ _ _ c.requires.stands;
  fit = c.requires.fit;
  room = refl;
  total = refl;
  same = g.met.O.OffChip.reflexive _;
}

pub evict-requires-clause-has_room : goal.evict-requires-clause-has_room
evict-requires-clause-has_room g c =
    let some = len-held _ _ c.in-Some.ensures.some.held in
    let room = rw (← c.self.view_is) at c.loop-victim.invariant.room in
    omega (arith, some, room, c.requires.has_room)

pub evict-requires-clause-limit : goal.evict-requires-clause-limit
evict-requires-clause-limit g c = omega (arith, c.loop-victim.invariant.total, c.requires.limit)

pub loop-victim-preserved : goal.loop-victim-preserved
loop-victim-preserved g c =
    let inv = c.loop-victim.invariant in
    let evicted = rw (inv.tree.layout, inv.tree.veil) at c.evict.ensures.does in
    record {
      tree = record { veil = c.evict.ensures.tree.veil ∙ inv.tree.veil; layout = c.evict.ensures.tree.layout ∙ inv.tree.layout };
      does = moved-evicted _ _ _ _ _ _ c.in-Some.victim inv.does c.in-Some.ensures.some.unpinned evicted;
      fit = c.evict.ensures.fit;
      room = omega (arith, inv.room, c.evict.ensures.room, c.evict.ensures.count);
      total = c.evict.ensures.total ∙ inv.total;
      same = g.met.O.OffChip.transitive _ _ _ inv.same c.evict.ensures.same;
    }
