use Rattle.std.proofs.Common.{ℕ, ◌++◌, List, sym, subst}
use Rattle.std.specs.Prelude.{Contains}
use Rattle.regions.specs.Tree.{height_of, leaf_of}
use Rattle.line_cache.specs.LineMaps.{HoldParents, Holds}
use Rattle.hash_tree.specs.Paths.{path_of}
use Rattle.hash_tree.proofs.LoadLemmas.{moved-still, reads-none}
use Rattle.hash_tree.proofs.PathLemmas.{leaf-depth, load-depth, pinned-last, pinned-parents, uncached-held}
use Rattle.hash_tree.proofs.PathLoads.{loads-honest}
use Rattle.hash_tree.proofs.tree.Tree.load.Goals as goal

pub load_path-requires-clause-pinned : goal.load_path-requires-clause-pinned
load_path-requires-clause-pinned g c =
    subst (λ (xs : List ℕ). Contains xs c.leaf_at-block.result) (sym c.with_path-pinned.ensures.blocks)
    (pinned-last c.args.pins.now.blocks.items c.height-depth.result c.leaf_at-block.result)

pub load_path-requires-clause-parents : goal.load_path-requires-clause-parents
load_path-requires-clause-parents g c =
    let position = rw (← c.self.view_is) at c.requires.position in
    let leaf = rw (← c.self.view_is) at c.leaf_at-block.ensures.value in
    let at = load-depth _ c.args.position c.height-depth.result c.leaf_at-block.result c.height-depth.ensures.value leaf position in
    subst (λ (xs : List ℕ). HoldParents xs) (sym c.with_path-pinned.ensures.blocks)
    (pinned-parents c.args.pins.now.blocks.items c.height-depth.result c.leaf_at-block.result c.requires.parents at)

pub returns-clause-honest : goal.returns-clause-honest
returns-clause-honest g c = loads-honest c.load_path.result _ _ _ _ c.load_path.ensures.changed

pub returns-then-holds-clause-ok : goal.returns-then-holds-clause-ok
returns-then-holds-clause-ok g c =
    let layout = c.self.inside.layout in
    let lines = g.L.Lines.lines c.self.inside.lines in
    let stands = rw (← c.self.view_is) at c.requires.stands in
    let position = rw (← c.self.view_is) at c.requires.position in
    let at = leaf-depth layout c.args.position position in
    let leaf = rw (← c.self.view_is) at c.leaf_at-block.ensures.value in
    let held : Holds lines (leaf_of layout c.args.position) =
    subst (λ (n : ℕ). Holds lines n) leaf (sym c.if-holds.ensures.value) in
    let none = uncached-held lines (height_of layout) (leaf_of layout c.args.position) at (g.met.L.Lines.sound c.self.inside.lines).parents held in
    rw (← c.self.view_is) (moved-still _ (c.args.pins.now.blocks.items ++ path_of layout c.args.position) (path_of layout c.args.position) _ _ _ _ stands c.touch.ensures.lines none)

pub returns-then-holds-clause-reads : goal.returns-then-holds-clause-reads
returns-then-holds-clause-reads g c = reads-none _ _
