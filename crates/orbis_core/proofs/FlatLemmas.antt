-- The words of bytes, and how a flat memory is filled.
use Rattle.std.proofs.Common.{◌≡◌, ℕ, ◌+◌, ◌-◌, ◌/◌, List, [], ◌++◌, length, take, replicate, refl, arith}
use Rattle.std.proofs.lemmas.Grind.{common_steps}
use Rattle.orbis_core.proofs.FlatLaws.{length-words_in}
use Rattle.orbis_core.specs.ByteOrder.{words_in}

-- zeros, then the words of some bytes, then zeros up to the end
pub filled : (count log all none_len second_len : ℕ) (statics none first second third : List ℕ) → all ≡ count + length statics / 4 + log → none ≡ [] → none_len ≡ 0
    → first ≡ take count none ++ replicate (count - none_len) 0 → second ≡ first ++ words_in statics → second_len ≡ length second
    → third ≡ take all second ++ replicate (all - second_len) 0 → third ≡ replicate count 0 ++ words_in statics ++ replicate log 0
filled count log all none_len second_len statics none first second third whole e empty one two len three =
    let first_is : first ≡ replicate count 0 = rw (one, e, empty) (grind (arith, common_steps)) in
    let words : length (words_in statics) ≡ length statics / 4 = length-words_in statics in
    let second_is : length second ≡ count + length statics / 4 = rw (two, first_is) (grind (arith, common_steps)) in
    let rest : all - second_len ≡ log = omega (arith, len, whole, second_is) in
    let cut : take all second ≡ second = grind (arith, common_steps) in
    rw (three, rest, cut, two, first_is) refl
