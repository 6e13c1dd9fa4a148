use Rattle.ideal_trace.proofs.LooseLemmas.{loosely-ideal-runs}
use Rattle.ideal_trace.proofs.laws.runs_on_tree_are_loosely_ideal.Goals as goal

pub returns : goal.returns
returns c = record { law = loosely-ideal-runs }
