use Rattle.codegen.proofs.Imaging.{images-mean-code}
use Rattle.codegen.proofs.laws.images_mean_code.Goals as goal

pub returns : goal.returns
returns c = record { meaning = images-mean-code }
