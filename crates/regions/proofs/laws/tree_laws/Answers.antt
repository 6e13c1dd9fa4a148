use Rattle.regions.proofs.TreeLaws.{height-least, heights-one, levels-apart, parents-above, root-above}
use Rattle.regions.proofs.laws.tree_laws.Goals as goal

pub returns : goal.returns
returns c = record { height = height-least; one_height = heights-one; parents = parents-above; root = root-above; levels = levels-apart }
