use Rattle.off_chip.proofs.BoundaryLemmas.{is_boundary-Decides, is_step-Decides}
use Rattle.off_chip.proofs.StepLemmas.{steps-count, steps-cut, since_step-in_order}
use Rattle.off_chip.proofs.laws.boundaries_in_order.Goals as goal

pub returns : goal.returns
returns c = record {
  same = record {
    boundary = is_boundary-Decides;
    step = is_step-Decides;
    count = steps-count;
    cut = steps-cut;
    last = since_step-in_order;
  };
}
