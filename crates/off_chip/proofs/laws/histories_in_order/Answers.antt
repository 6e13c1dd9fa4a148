use Rattle.off_chip.proofs.HistoryLemmas.{in_order-history, history-in_order, history-push, each-tests, points-tests}
use Rattle.off_chip.proofs.SplitLemmas.{last-part}
use Rattle.off_chip.proofs.laws.histories_in_order.Goals as goal

pub returns : goal.returns
returns c = record {
  same = record {
    of_trace = in_order-history;
    of_history = history-in_order;
    one_more = history-push;
    each = each-tests;
    points = points-tests;
    part = last-part;
  };
}
