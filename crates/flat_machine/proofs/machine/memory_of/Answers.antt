use Rattle.std.proofs.Common.{ap, ◌∙◌, length}
use Rattle.image_file.specs.ImageTable.{static_bytes}
use Rattle.flat_machine.proofs.Bytes.{length-static_bytes}
use Rattle.flat_machine.proofs.machine.memory_of.Goals as goal

pub new-requires : goal.new-requires
new-requires c = ap length (c.as_slice.ensures.value ∙ c.requires) ∙ length-static_bytes c.args.image.now
