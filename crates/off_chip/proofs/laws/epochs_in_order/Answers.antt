use Rattle.off_chip.proofs.EpochLemmas.{epochs-cut, open_reads-in_order, open_writes-first, open_writes-later, IsQuiet-in_order, NoReadAbove-in_order, AllSentInQuiet-in_order, EpochFaithful-in_order, EndedFaithful-in_order, LogReadsFaithful-epochs}
use Rattle.off_chip.proofs.laws.epochs_in_order.Goals as goal

pub returns : goal.returns
returns c = record {
  same = record {
    cut = epochs-cut;
    reads = open_reads-in_order;
    first_writes = open_writes-first;
    later_writes = open_writes-later;
    quiet = IsQuiet-in_order;
    not_above = NoReadAbove-in_order;
    sent = AllSentInQuiet-in_order;
    open_faithful = EpochFaithful-in_order;
    ended_faithful = EndedFaithful-in_order;
    log = LogReadsFaithful-epochs;
  };
}
