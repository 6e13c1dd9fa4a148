use Rattle.std.proofs.Common.{◌∙◌, ◌++◌, ℕ, List, ap, subst, sym}
use Rattle.regions.specs.Addresses.{data_block_at}
use Rattle.regions.proofs.TreeLaws.{data_block_has_place}
use Rattle.line_cache.specs.LineMaps.{HoldParents}
use Rattle.hash_tree.specs.Paths.{path_in}
use Rattle.hash_tree.proofs.PathLemmas.{load-depth, path-parents}
use Rattle.secure_memory.proofs.AccessLemmas.{placed-data}
use Rattle.secure_memory.proofs.path.pins_of.Goals as goal

pub overflow_sub-position : goal.overflow_sub-position
overflow_sub-position c = (placed-data _ _ c.requires.placed c.if-at-ge-OPEN_END.true c.if-at-lt-LOG_START.true).from

pub leaf-requires : goal.leaf-requires
leaf-requires c =
    data_block_has_place c.args.layout.now (data_block_at c.args.at) (placed-data _ _ c.requires.placed c.if-at-ge-OPEN_END.true c.if-at-lt-LOG_START.true).block

pub returns-then-at-lt-LOG_START-clause-parents : goal.returns-then-at-lt-LOG_START-clause-parents
returns-then-at-lt-LOG_START-clause-parents c =
    let inside = placed-data c.args.layout.now c.args.at c.requires.placed c.if-at-ge-OPEN_END.true c.if-at-lt-LOG_START.true in
    let blocks = c.pin_path.ensures.blocks ∙ ap (λ (xs : List ℕ). xs ++ path_in 3 c.height.result c.leaf.result) c.no_pins-pins.ensures in
    subst (λ (xs : List ℕ). HoldParents xs) (sym blocks)
    (path-parents c.height.result c.leaf.result (load-depth c.args.layout.now (data_block_at c.args.at) c.height.result c.leaf.result c.height.ensures.value c.leaf.ensures.value
    (data_block_has_place c.args.layout.now (data_block_at c.args.at) inside.block)))
