use Rattle.std.proofs.Common.{◌≡◌, ℕ, ◌+◌, ◌-◌, ◌*◌, ◌<◌, ◌≤◌, length, ap, ◌∙◌, sym, arith, rules}
use Rattle.regions.specs.Tree.{tree_blocks}
use Rattle.off_chip.specs.BusCalls.{TellsOnly}
use Rattle.hash_tree.specs.Entering.{first_leaf, moves_below, statics_before}
use Rattle.hash_tree.specs.HashTrees.{nodes_of}
use Rattle.hash_tree.proofs.EntryNumbers.{parts, part-node, part-small, told-kept}
use Rattle.hash_tree.proofs.NodeLemmas.{levels-as, subtree-node}
use Rattle.hash_tree.proofs.SchemeLemmas.{blocks-three, keeps-veil}
use Rattle.hash_tree.proofs.tree.Tree.+enter_below.Goals as goal

pub overflow_mul-block : goal.overflow_mul-block
overflow_mul-block g t c =
    let p = parts c.args.self.now.layout c.args.levels c.args.block c.if-levels-eq0.false in
    let small = part-small _ _ _ _ p c.requires.inside in
    omega (arith, small)

pub overflow_add-block : goal.overflow_add-block
overflow_add-block g t c =
    let p = parts c.args.self.now.layout c.args.levels c.args.block c.if-levels-eq0.false in
    let small = part-small _ _ _ _ p c.requires.inside in
    omega (arith, small)

pub overflow_mul-block-2 : goal.overflow_mul-block-2
overflow_mul-block-2 g t c =
    let p = parts c.args.self.now.layout c.args.levels c.args.block c.if-levels-eq0.false in
    let small = part-small _ _ _ _ p c.requires.inside in
    omega (arith, small)

pub overflow_add-block-2 : goal.overflow_add-block-2
overflow_add-block-2 g t c =
    let p = parts c.args.self.now.layout c.args.levels c.args.block c.if-levels-eq0.false in
    let small = part-small _ _ _ _ p c.requires.inside in
    omega (arith, small)

pub overflow_mul-block-3 : goal.overflow_mul-block-3
overflow_mul-block-3 g t c =
    let p = parts c.args.self.now.layout c.args.levels c.args.block c.if-levels-eq0.false in
    let small = part-small _ _ _ _ p c.requires.inside in
    omega (arith, small)

pub overflow_add-block-3 : goal.overflow_add-block-3
overflow_add-block-3 g t c =
    let p = parts c.args.self.now.layout c.args.levels c.args.block c.if-levels-eq0.false in
    let small = part-small _ _ _ _ p c.requires.inside in
    omega (arith, small)

pub enter_below-first-requires : goal.enter_below-first-requires
enter_below-first-requires g t c κs within =
    let p = parts c.args.self.now.layout c.args.levels c.args.block c.if-levels-eq0.false in
    let smaller : c.args.levels - 1 < t = omega (arith, c.decreases, p.levels_are) in
    let leaves : nodes_of c.args.self.now.layout ≤ first_leaf (c.args.levels - 1) (3 * c.args.block + 1) = omega (arith, p.first, p.rises, p.rises_more, c.requires.leaves) in
    let inside : first_leaf (c.args.levels - 1) (3 * c.args.block + 1 + 1) ≤ tree_blocks c.args.self.now.layout = omega (arith, p.second, p.rises_more, p.rises_last, p.last, c.requires.inside) in
    let added : c.args.program.now.added ≡ statics_before c.args.self.now.layout (first_leaf (c.args.levels - 1) (3 * c.args.block + 1)) = c.requires.added ∙ ap (λ (k : ℕ). statics_before c.args.self.now.layout k) p.first in
    let room : length (moves_below c.args.self.now.layout (c.args.levels - 1) (3 * c.args.block + 1)) ≤ g.O.OffChip.room c.args.bus.now = omega (arith, p.moves, c.requires.has_room) in
    let told : TellsOnly c.args.self.now.layout (g.O.OffChip.layout c.args.bus.now) = c.requires.told in
    search (rules, smaller, leaves, inside, added, room, told)

pub enter_below-second-requires : goal.enter_below-second-requires
enter_below-second-requires g t c κs within =
    let p = parts c.args.self.now.layout c.args.levels c.args.block c.if-levels-eq0.false in
    let smaller : c.args.levels - 1 < t = omega (arith, c.decreases, p.levels_are) in
    let leaves : nodes_of c.args.self.now.layout ≤ first_leaf (c.args.levels - 1) (3 * c.args.block + 2) = omega (arith, p.first, p.rises, p.rises_more, c.requires.leaves) in
    let inside : first_leaf (c.args.levels - 1) (3 * c.args.block + 2 + 1) ≤ tree_blocks c.args.self.now.layout = omega (arith, p.third, p.rises_last, p.last, c.requires.inside) in
    let added : c.enter_below-first.new.program.added ≡ statics_before c.args.self.now.layout (first_leaf (c.args.levels - 1) (3 * c.args.block + 2)) = c.enter_below-first.ensures.added ∙ ap (λ (k : ℕ). statics_before c.args.self.now.layout k) p.second in
    let room : length (moves_below c.args.self.now.layout (c.args.levels - 1) (3 * c.args.block + 2)) ≤ g.O.OffChip.room c.enter_below-first.new.bus = omega (arith, p.moves, c.requires.has_room, c.enter_below-first.ensures.room) in
    let told : TellsOnly c.args.self.now.layout (g.O.OffChip.layout c.enter_below-first.new.bus) = told-kept _ _ _ (g.met.O.OffChip.same_layout _ _ c.enter_below-first.ensures.same) c.requires.told in
    search (rules, smaller, leaves, inside, added, room, told)

pub enter_below-third-requires : goal.enter_below-third-requires
enter_below-third-requires g t c κs within =
    let p = parts c.args.self.now.layout c.args.levels c.args.block c.if-levels-eq0.false in
    let smaller : c.args.levels - 1 < t = omega (arith, c.decreases, p.levels_are) in
    let leaves : nodes_of c.args.self.now.layout ≤ first_leaf (c.args.levels - 1) (3 * c.args.block + 3) = omega (arith, p.first, p.rises, p.rises_more, c.requires.leaves) in
    let inside : first_leaf (c.args.levels - 1) (3 * c.args.block + 3 + 1) ≤ tree_blocks c.args.self.now.layout = omega (arith, p.last, c.requires.inside) in
    let added : c.enter_below-second.new.program.added ≡ statics_before c.args.self.now.layout (first_leaf (c.args.levels - 1) (3 * c.args.block + 3)) = c.enter_below-second.ensures.added ∙ ap (λ (k : ℕ). statics_before c.args.self.now.layout k) p.third in
    let room : length (moves_below c.args.self.now.layout (c.args.levels - 1) (3 * c.args.block + 3)) ≤ g.O.OffChip.room c.enter_below-second.new.bus = omega (arith, p.moves, c.requires.has_room, c.enter_below-first.ensures.room, c.enter_below-second.ensures.room) in
    let told : TellsOnly c.args.self.now.layout (g.O.OffChip.layout c.enter_below-second.new.bus) = told-kept _ _ _ (g.met.O.OffChip.same_layout _ _ (g.met.O.OffChip.transitive _ _ _ c.enter_below-first.ensures.same c.enter_below-second.ensures.same)) c.requires.told in
    search (rules, smaller, leaves, inside, added, room, told)

pub write-requires-clause-inside : goal.write-requires-clause-inside
write-requires-clause-inside g t c =
    let p = parts c.args.self.now.layout c.args.levels c.args.block c.if-levels-eq0.false in
    let node = part-node _ _ _ _ p c.requires.inside in
    let all = blocks-three c.args.self.now.layout in
    let inside : c.args.block < tree_blocks c.args.self.now.layout = omega (arith, node, all) in
    inside

pub write-requires-clause-has_room : goal.write-requires-clause-has_room
write-requires-clause-has_room g t c =
    let p = parts c.args.self.now.layout c.args.levels c.args.block c.if-levels-eq0.false in
    omega (arith, p.moves, c.requires.has_room, c.enter_below-first.ensures.room, c.enter_below-second.ensures.room, c.enter_below-third.ensures.room)

pub write-requires-clause-told : goal.write-requires-clause-told
write-requires-clause-told g t c = told-kept _ _ _ (g.met.O.OffChip.same_layout _ _ (g.met.O.OffChip.transitive _ _ _ (g.met.O.OffChip.transitive _ _ _ c.enter_below-first.ensures.same c.enter_below-second.ensures.same) c.enter_below-third.ensures.same)) c.requires.told

pub returns-clause-does : goal.returns-clause-does
returns-clause-does g t c =
    let p = parts c.args.self.now.layout c.args.levels c.args.block c.if-levels-eq0.false in
    let v = c.args.self.now.veil in
    let lawful = keeps-veil c.args.self.now.layout (g.V.Veil.veiled v) (g.V.Veil.nodes v) c.requires.nodes (g.met.V.Veil.own_inverse v) (g.met.V.Veil.keeps_length v) (g.met.V.Veil.leaves_nodes v) in
    let node = part-node _ _ _ _ p c.requires.inside in
    let back = rw c.node_payload-payload.ensures.value at c.write.ensures.does in
    levels-as _ _ _ _ _ _ _ _ _ _ p.levels_are
    (subtree-node _ _ lawful _ _ _ _ _ _ _ _ _ _ _ _ _ _ _ node c.enter_below-first.ensures.does c.enter_below-second.ensures.does c.enter_below-third.ensures.does back)

pub returns-clause-added : goal.returns-clause-added
returns-clause-added g t c =
    let p = parts c.args.self.now.layout c.args.levels c.args.block c.if-levels-eq0.false in
    c.enter_below-third.ensures.added ∙ ap (λ (k : ℕ). statics_before c.args.self.now.layout k) (sym p.last)

pub returns-clause-room : goal.returns-clause-room
returns-clause-room g t c =
    let p = parts c.args.self.now.layout c.args.levels c.args.block c.if-levels-eq0.false in
    omega (arith, p.moves, c.enter_below-first.ensures.room, c.enter_below-second.ensures.room, c.enter_below-third.ensures.room, c.write.ensures.room)

pub returns-clause-same : goal.returns-clause-same
returns-clause-same g t c = g.met.O.OffChip.transitive _ _ _ (g.met.O.OffChip.transitive _ _ _ (g.met.O.OffChip.transitive _ _ _ c.enter_below-first.ensures.same c.enter_below-second.ensures.same) c.enter_below-third.ensures.same) c.write.ensures.same
