use Rattle.off_chip.proofs.FaithfulLemmas.{is_faithful-Decides, AllFaithful-in_order, TreeFaithful-in_order, LogFaithful-in_order, faithful-both, faithful-cases, faithful_part-is, in_faithful_part}
use Rattle.off_chip.proofs.laws.faithful_in_order.Goals as goal

pub returns : goal.returns
returns c = record {
  same = record {
    read = is_faithful-Decides;
    all = AllFaithful-in_order;
    tree = TreeFaithful-in_order;
    log = LogFaithful-in_order;
    both = faithful-both;
    cases = faithful-cases;
    part = faithful_part-is;
    inside = in_faithful_part;
  };
}
