use Rattle.memory_trace.proofs.InOrder.{in-order}
use Rattle.memory_trace.proofs.laws.traced_in_order.Goals as goal

pub returns : goal.returns
returns c = record { same = in-order }
