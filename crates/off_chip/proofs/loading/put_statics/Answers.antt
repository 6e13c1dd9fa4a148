use Rattle.std.proofs.Common.{◌≡◌, ap, ◌∙◌, sym, refl}
use Rattle.off_chip.specs.OffChipBytes.{bytes_put, start_in, start_of_place, static_block, static_place, stored}
use Rattle.off_chip.proofs.ByteLemmas.{with_statics-zero, with_statics-more}
use Rattle.off_chip.proofs.loading.put_statics.Goals as goal

pub loop-n-init : goal.loop-n-init
loop-n-init c = record {
  in_tree = c.blocks_of_tree-tree_blocks.ensures.value;
  blocks = refl;
  memory = sym (with_statics-zero c.args.layout.now c.args.statics.now c.args.memory.now);
}

pub loop-n-preserved : goal.loop-n-preserved
loop-n-preserved c =
    let layout = c.args.layout.now in
    let statics = c.args.statics.now in
    let n = c.loop-n.n in
    let start : c.start_of-start.result ≡ start_of_place layout (static_place layout n) =
    c.start_of-start.ensures.value ∙ ap (λ k. start_in k c.static_place.result) c.loop-n.invariant.in_tree
    ∙ ap (start_of_place layout) c.static_place.ensures.value in
    record {
      in_tree = c.loop-n.invariant.in_tree;
      blocks = refl;
      memory = c.put_block.ensures.bytes
          ∙ ap (λ at. bytes_put at (stored c.static_block.result) c.loop-n.memory) start
          ∙ ap (λ block. bytes_put (start_of_place layout (static_place layout n)) (stored block) c.loop-n.memory) c.static_block.ensures.value
          ∙ ap (bytes_put (start_of_place layout (static_place layout n)) (stored (static_block statics n))) c.loop-n.invariant.memory
          ∙ sym (with_statics-more layout statics n c.args.memory.now);
    }
