use Rattle.codegen.proofs.Sizes.{sizes-fit-weights, start-fits-weight}
use Rattle.codegen.proofs.laws.sizes_fit_weights.Goals as goal

pub returns : goal.returns
returns c = record { sizes = sizes-fit-weights; start = start-fits-weight }
