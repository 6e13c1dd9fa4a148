use Rattle.std.proofs.Common.{length, ltb, rules, tests}
use Rattle.std.proofs.lemmas.Iterator.Consumers.{YieldsList-at, YieldsList-from_filter, map_from_collect}
use Rattle.std.proofs.lemmas.Iterator.Splits.{YieldsList-from_slice_split}
use Rattle.adversary_script.specs.LineFields.{is_separator}
use Rattle.adversary_script.proofs.fields.fields_of.Goals as goal

pub returns : goal.returns
returns c =
    map_from_collect _ c.collect.ensures.ran
    (YieldsList-from_filter _ (λ field. ltb 0 (length field))
    (YieldsList-at c.filter.ensures.source
    (YieldsList-from_slice_split _ is_separator c.args.line.now c.split.ensures.rest c.split.ensures.done c.split.ensures.closure (λ x r q k. search (rules, tests))))
    c.filter.ensures.closure (λ x r q k. search (rules, tests)))
