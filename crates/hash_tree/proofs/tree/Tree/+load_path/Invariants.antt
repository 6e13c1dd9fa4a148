use Rattle.hash_tree.proofs.tree.Tree.+load_path.Given as goal

abbrev pub decreases-load_path : goal.decreases-load_path
decreases-load_path g l = l.depth
