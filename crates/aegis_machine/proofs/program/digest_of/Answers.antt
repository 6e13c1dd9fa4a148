use Rattle.std.proofs.Common.{◌≡◌, ◌+◌, ◌∙◌, ap, List, ℕ}
use Rattle.image_file.specs.ImageTable.{static_bytes}
use Rattle.aegis_machine.specs.Boundaries.{blocks_in}
use Rattle.aegis_machine.proofs.ProgramLemmas.{taken-so-far}
use Rattle.aegis_machine.proofs.program.digest_of.Goals as goal

pub loop-number-preserved : goal.loop-number-preserved
loop-number-preserved c =
    let statics : List ℕ = static_bytes c.args.image.now in
    let so_far = c.loop-number.invariant in
    record {
      whole = so_far.whole;
      blocks = c.add.ensures.blocks ∙ so_far.blocks;
      added = c.add.ensures.added ∙ ap (λ (n : ℕ). n + 1) so_far.added;
      taken = taken-so-far _ c.loop-number.number c.static_payload.result statics c.static_payload.ensures (c.add.ensures.taken (blocks_in c.loop-number.number statics) so_far.taken);
    }
