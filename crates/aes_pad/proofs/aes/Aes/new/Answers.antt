use Rattle.std.proofs.Common.{◌+◌, refl, ap, ◌∙◌, length-set, replicate, arith, List, ℕ}
use Rattle.aes_pad.proofs.RoundLemmas.{kept_at_first, kept_next, kept_first, kept_whole}
use Rattle.aes_pad.proofs.aes.Aes.new.Goals as goal

pub expansion-init : goal.expansion-init
expansion-init c = (refl, kept_at_first (replicate 11 c.words_of-keys.result) c.args.key.now.0 c.words_of-keys.ensures)

pub expansion-preserved : goal.expansion-preserved
expansion-preserved c = (
  length-set c.expansion.keys (c.expansion.round + 1) c.next_key.result ∙ c.expansion.invariant.0,
  kept_next c.expansion.keys c.args.key.now.0 c.next_key.result c.expansion.round c.expansion.invariant.0 c.expansion-test.true c.expansion.invariant.1 c.next_key.ensures,
)

pub invariant_of-result : goal.invariant_of-result
invariant_of-result c = kept_whole c.expansion.keys c.args.key.now.0 c.expansion.round (omega arith) c.expansion.invariant.1

pub returns : goal.returns
returns c =
    let first = ap (λ (bytes : List ℕ). record { 0 = bytes }) (kept_first c.expansion.keys c.args.key.now.0 c.expansion.round c.expansion.invariant.1) in
    record { key = first }
