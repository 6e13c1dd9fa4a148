use Rattle.std.proofs.Common.{◌+◌, [], List, ℕ, ◌∙◌, ap, sym, Some}
use Rattle.std.specs.Prelude.{slice_index_or}
use Rattle.stamp_log.specs.LogCalls.{MakesRoom}
use Rattle.stamp_log.specs.LineParts.{RemovesLine}
use Rattle.stamp_log.proofs.LogLemmas.{line-some}
use Rattle.stamp_log.proofs.log.write_oldest.Goals as goal

pub returns-in-Some-clause-makes : goal.returns-in-Some-clause-makes
returns-in-Some-clause-makes g c =
    let removes : RemovesLine c.in-Some.number c.args.lines.now c.take_oldest.new.self = c.in-Some.ensures.line in
    MakesRoom.written c.in-Some.number (c.args.stamps.now + 1) c.payload.result.now removes.below
    (line-some c.args.lines.now c.in-Some.number removes.line ∙ ap (λ (p : List ℕ). Some p) (sym (c.payload.ensures.value ∙ ap (λ (xs : List (List ℕ)). slice_index_or xs c.in-Some.number []) c.take_oldest.ensures.payloads))) c.write_back.ensures.event.trace removes.held c.take_oldest.ensures.payloads
