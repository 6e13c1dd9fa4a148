-- Lines that are held.
use Rattle.std.proofs.Common.{arith}
use Rattle.paced_trace.specs.EventKinds.{load, removal}
use Rattle.paced_trace.specs.HeldLines.{LinesAreCounted}
use Rattle.paced_trace.proofs.CountLemmas.{after-none}
use Rattle.paced_trace.proofs.PartLemmas.{after-over}

pub lines-counted : LinesAreCounted
lines-counted = record {
  none = λ entry older over. record { counts = omega (arith, after-none removal entry older (omega (arith, over))) };
  more = λ entry lines now older events entered holds fewer.
      record { counts = omega (arith, holds.counts, fewer, after-over removal entry older events entered, after-over load entry older events entered) };
  paid = λ entry lines older holds. record { counts = omega (arith, holds.counts) };
}
