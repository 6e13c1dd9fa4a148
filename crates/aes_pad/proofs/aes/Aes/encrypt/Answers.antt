use Rattle.std.proofs.Common.{ap, arith}
use Rattle.aegis_num.specs.declared.storage.Key.{Key}
use Rattle.aes_pad.specs.KeptKeys.{kept_key}
use Rattle.aes_pad.proofs.RoundLemmas.{state_first, state_next, cipher_from}
use Rattle.aes_pad.proofs.aes.Aes.encrypt.Goals as goal

pub rounds-init : goal.rounds-init
rounds-init c = state_first (kept_key c.self.inside.keys 0) c.args.block _ _ c.words_of.ensures c.sum_of-state.ensures

pub rounds-preserved : goal.rounds-preserved
rounds-preserved c = state_next c.self.inside.keys c.args.block c.rounds.state _ c.rounds.round c.self.invariant c.rounds-test.true c.rounds.invariant c.next_state-next.ensures

pub returns : goal.returns
returns c =
    let same = ap (λ (k : Key). k.0) c.self.view_is in
    record {
      value = cipher_from c.self.inside.keys _ c.args.block c.rounds.state _ _ c.rounds.round same c.self.invariant (omega arith) c.rounds.invariant c.last_state.ensures c.bytes_of.ensures;
    }
