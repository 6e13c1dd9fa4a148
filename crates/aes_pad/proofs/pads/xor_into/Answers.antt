use Rattle.std.proofs.Common.{refl, ap, ◌∙◌, List, ℕ, arith}
use Rattle.aes_pad.specs.Cipher.{xor_bytes}
use Rattle.aes_pad.proofs.PadLemmas.{one_byte_more}
use Rattle.aes_pad.proofs.WordLemmas.{xor_bytes_from, xor_bytes_twice}
use Rattle.aes_pad.proofs.pads.xor_into.Goals as goal

pub bytes-init : goal.bytes-init
bytes-init c = (omega arith, λ k less. absurd (omega (arith, less)), λ k more. refl)

pub bytes-preserved : goal.bytes-preserved
bytes-preserved c =
    one_byte_more c.args.payload.now c.args.pad.now c.bytes.payload c.bytes.i _ c.bytes-test.true c.bytes.invariant refl

pub returns : goal.returns
returns c =
    let sum = xor_bytes_from c.args.payload.now c.args.pad.now c.bytes.payload 64 (omega arith) (omega arith) c.bytes.invariant.0
    (λ k below. c.bytes.invariant.1 k (omega (arith, below))) in
    record { sum = sum; back = ap (λ (xs : List ℕ). xor_bytes xs c.args.pad.now) sum ∙ xor_bytes_twice c.args.payload.now c.args.pad.now (omega arith) }
