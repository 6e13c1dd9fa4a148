use Rattle.std.proofs.Common.{◌≡◌, ℕ, ◌+◌, ◌-◌, ◌*◌, ◌<◌, ◌≤◌, true, false, sym, subst, arith, rules}
use Rattle.std.specs.FinMap.{len}
use Rattle.line_cache.specs.LineMaps.{Holds}
use Rattle.hash_tree.proofs.PathLemmas.{depth-positive, parent-depth, parent-inside, parent-pinned}
use Rattle.hash_tree.proofs.PathLoads.{path-moved, path-reads, path-reads_above, path-stops}
use Rattle.hash_tree.proofs.tree.Tree.+load_path.Goals as goal

pub parent_of-requires : goal.parent_of-requires
parent_of-requires g t c = depth-positive c.args.depth c.args.block (omega (arith, c.if-depth-eq0.false)) c.requires.depth

pub load_path-requires : goal.load_path-requires
load_path-requires g t c κs within =
    let some : 0 < c.args.depth = omega (arith, c.if-depth-eq0.false) in
    let smaller : c.args.depth - 1 < t = omega (arith, c.decreases, some) in
    let depth = parent-depth c.args.depth c.args.block c.parent_of.result some c.requires.depth c.parent_of.ensures in
    let pinned = parent-pinned c.args.pins.now.blocks.items c.args.depth c.args.block c.parent_of.result some c.requires.depth c.parent_of.ensures c.requires.parents c.requires.pinned in
    let inside = parent-inside c.args.block c.parent_of.result _ c.parent_of.ensures c.requires.inside in
    let room : len (g.L.Lines.lines c.args.self.now.lines) + 2 * (c.args.depth - 1 + 1) ≤ g.O.OffChip.room c.args.bus.now = omega (arith, some, c.requires.has_room) in
    search (rules, smaller, depth, pinned, inside, room)

pub returns-in_err-load_path-clause-still : goal.returns-in_err-load_path-clause-still
returns-in_err-load_path-clause-still g t c = λ held.
    let above = depth-positive c.args.depth c.args.block (omega (arith, c.if-depth-eq0.false)) c.requires.depth in
    let parent = (g.met.L.Lines.sound c.args.self.now.lines).parents c.args.block held above in
    let here = subst (λ (k : ℕ). Holds (g.L.Lines.lines c.args.self.now.lines) k) (sym c.parent_of.ensures) parent in
    let e : false ≡ true = (c.in_err-load_path.ensures.still here).0 in cc

pub returns-clause-ok : goal.returns-clause-ok
returns-clause-ok g t c =
    let some : 0 < c.args.depth = omega (arith, c.if-depth-eq0.false) in
    let above = depth-positive c.args.depth c.args.block some c.requires.depth in
    let second = rw (c.in_ok-load_path.ensures.tree.layout, c.in_ok-load_path.ensures.tree.veil) at c.load_block-2.ensures.ok in
    path-moved c.load_block-2.result _ _ _ _ _ _ _ _ _ _ _ c.args.depth c.args.block c.parent_of.result some above c.parent_of.ensures c.requires.pinned c.in_ok-load_path.ensures.ok second

pub returns-clause-changed : goal.returns-clause-changed
returns-clause-changed g t c =
    let stops = rw (c.in_ok-load_path.ensures.tree.layout, c.in_ok-load_path.ensures.tree.veil) at c.load_block-2.ensures.changed in
    path-stops c.load_block-2.result _ _ _ _ _ _ c.in_ok-load_path.ensures.ok stops

pub returns-in_err-load_path-clause-reads : goal.returns-in_err-load_path-clause-reads
returns-in_err-load_path-clause-reads g t c =
    let some : 0 < c.args.depth = omega (arith, c.if-depth-eq0.false) in
    path-reads_above _ _ _ c.args.depth c.args.block c.parent_of.result some c.parent_of.ensures c.in_err-load_path.ensures.reads

pub returns-clause-reads : goal.returns-clause-reads
returns-clause-reads g t c =
    let some : 0 < c.args.depth = omega (arith, c.if-depth-eq0.false) in
    let above = depth-positive c.args.depth c.args.block some c.requires.depth in
    path-reads _ _ _ _ _ _ _ _ _ c.args.depth c.args.block c.parent_of.result some above c.parent_of.ensures c.requires.pinned c.in_ok-load_path.ensures.ok
    c.load_block-2.ensures.reads
