use Rattle.std.proofs.Common.{◌≡◌, ap, ◌∙◌, sym, arith, replicate, length}
use Rattle.off_chip.specs.OffChipBytes.{bytes_loaded_over, size_of}
use Rattle.off_chip.proofs.ByteLemmas.{loaded-zeros}
use Rattle.off_chip.proofs.PlainMemory.{written_back}
use Rattle.off_chip.proofs.loading.load.Goals as goal

pub returns : goal.returns
returns c =
    let layout = c.args.layout.now in
    let statics = c.args.statics.now in
    let before = c.in_ok-memory.memory.items in
    let made = c.in_ok-memory.ensures in
    let zeros : before ≡ replicate (size_of layout) 0 =
    made.items_if_clones_equal (λ y e. e) ∙ ap (λ n. replicate n 0) c.size_of.ensures.value in
    let same : length c.put_all.new.memory ≡ length before = omega (arith, c.put_all.auto.memory, ap length c.deref_mut.ensures.value) in
    let long : c.in_ok-memory.memory.len ≡ length before = omega (arith, c.deref_mut.ensures.len, ap length c.deref_mut.ensures.value) in
    let back = written_back c.put_all.new.memory before c.in_ok-memory.memory.len same long in
    record {
      bytes = back ∙ c.put_all.ensures ∙ ap (bytes_loaded_over layout statics) (c.deref_mut.ensures.value ∙ zeros) ∙ sym (loaded-zeros layout statics);
      size = omega (arith, ap length back, same, long, made.len, c.size_of.ensures.value);
    }
