use Rattle.std.proofs.Common.{◌≡◌, ◌∙◌, ℕ, ◌-◌, ◌/◌, ◌%◌, List, ap, arith}
use Rattle.std.specs.Prelude.{slice_index}
use Rattle.orbis_core.specs.ByteOrder.{byte_in, words_in}
use Rattle.secure_memory.proofs.accesses.byte_of.Goals as goal

pub returns : goal.returns
returns c =
    let same : (c.args.at - c.args.at % 4) % 64 / 4 ≡ c.args.at % 64 / 4 = omega arith in
    record {
      value = ap (λ (bytes : List ℕ). slice_index bytes (c.args.at % 4)) c.to_be_bytes-bytes.ensures
          ∙ ap (λ word. byte_in word c.args.at) (c.word_of.ensures.value ∙ ap (λ k. slice_index (words_in c.args.payload.now) k) same);
    }
