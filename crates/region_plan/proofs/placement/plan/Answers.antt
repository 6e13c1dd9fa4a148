use Rattle.std.proofs.Common.{List, subst}
use Rattle.ir_code.specs.declared.code.Cell.{Cell}
use Rattle.region_plan.specs.Counted.{CountsCells}
use Rattle.region_plan.specs.Homes.{HasSizes}
use Rattle.region_plan.proofs.Counting.{sizes-counted}
use Rattle.region_plan.proofs.HomeLaws.{words-are_apart, words-are_aligned, words-keep_classes}
use Rattle.region_plan.proofs.placement.plan.Goals as goal

sizes : (c : goal.In_ok-homes) → HasSizes c.in_ok-layout.layout c.args.ir.now c.args.code_blocks
sizes c =
    sizes-counted c.in_ok-layout.layout c.args.ir.now c.counts_of-counts.result c.args.code_blocks
    (subst (λ (cells : List Cell). CountsCells c.counts_of-counts.result cells) c.as_slice.ensures c.counts_of-counts.ensures.counts) c.in_ok-layout.ensures.sizes

pub returns-clause-apart : goal.returns-clause-apart
returns-clause-apart c = words-are_apart c.in_ok-layout.layout c.args.ir.now c.args.code_blocks (sizes c) c.requires.data

pub returns-clause-classes : goal.returns-clause-classes
returns-clause-classes c = words-keep_classes c.in_ok-layout.layout c.args.ir.now c.args.code_blocks (sizes c) c.requires.data

pub returns-clause-aligned : goal.returns-clause-aligned
returns-clause-aligned c = words-are_aligned c.in_ok-layout.layout c.args.ir.now c.args.code_blocks (sizes c) c.requires.data
