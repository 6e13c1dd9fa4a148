use Rattle.std.proofs.Common.{arith}
use Rattle.std.proofs.lemmas.Bool.Decides.{nat_tests}
use Rattle.aegis_words.proofs.digits.is_number.Goals as goal

pub returns-then-digits-le10 : goal.returns-then-digits-le10
returns-then-digits-le10 c = grind (arith, nat_tests)
