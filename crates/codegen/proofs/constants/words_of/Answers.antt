use Rattle.std.proofs.Common.{[], Bool, cond, ap, sym}
use Rattle.codegen.proofs.ConstantSizes.{not-constant}
use Rattle.codegen.proofs.constants.words_of.Goals as goal

pub returns-in_default : goal.returns-in_default
returns-in_default c = sym (ap (λ (b : Bool). cond b c.args.cell.now.first []) (not-constant c.args.cell.now.class c.in_default.not-Constant))
