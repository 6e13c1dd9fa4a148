use Rattle.std.proofs.Common.{sym, subst, ℕ, List}
use Rattle.off_chip.specs.declared.event.Event.{Event}
use Rattle.std.specs.Prelude.{IfSome}
use Rattle.off_chip.specs.BlockPlaces.{LiesInside}
use Rattle.off_chip.specs.HonestMemory.{moved_block, IsWhole}
use Rattle.off_chip.specs.PlainInvariant.{IsPlainMemory}
use Rattle.off_chip.proofs.PlainMemory.{nothing_in}
use Rattle.off_chip.proofs.plain.PlainDram.new.Goals as goal

pub invariant_of-result : goal.invariant_of-result
invariant_of-result c =
    let layout = c.args.layout.now in
    let memory = c.in_ok-memory.memory.items in
    let tree_blocks = c.blocks_of_tree.result in
    let P : List ℕ → Type 0 = λ statics. IsPlainMemory layout statics memory c.in_ok-recorder.recorder.trace tree_blocks in
    let Q : List Event → Type 0 = λ trace. IsPlainMemory layout c.args.statics.now memory trace tree_blocks in
    subst P (sym c.in_ok-from_slice.ensures.items) (subst Q (sym c.in_ok-recorder.ensures.empty) (record {
      counted = c.blocks_of_tree.ensures.value;
      size = c.in_ok-memory.ensures.size;
      bytes = c.in_ok-memory.ensures.bytes;
      plain = record {
        long = c.requires.statics;
        answered = tt;
        inside = record { each = nothing_in (LiesInside layout) };
        whole = record { each = nothing_in (λ event. IfSome (moved_block event) IsWhole) };
      };
    }))
