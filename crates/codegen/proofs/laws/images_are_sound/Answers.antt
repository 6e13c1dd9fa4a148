use Rattle.codegen.proofs.Plain.{images-are-sound}
use Rattle.codegen.proofs.laws.images_are_sound.Goals as goal

pub returns : goal.returns
returns c = record { sound = images-are-sound }
