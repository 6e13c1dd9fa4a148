-- How many instructions operations have.
use Rattle.std.proofs.Common.{true, false, lit≤, refl}
use Rattle.aegis_num.specs.declared.UnaryOp.TheVariants.{Neg, Inv, Not}
use Rattle.aegis_num.specs.declared.BinaryOp.TheVariants as on
use Rattle.ir_code.specs.declared.Op.TheVariants as op
use Rattle.codegen.specs.SoundImages.{SizesFitWeights, StartFitsWeight}

pub sizes-fit-weights : SizesFitWeights
sizes-fit-weights (op.Const to value) = lit≤ tt
sizes-fit-weights (op.Copy to from) = lit≤ tt
sizes-fit-weights (op.Unary Neg to a) = lit≤ tt
sizes-fit-weights (op.Unary Inv to a) = lit≤ tt
sizes-fit-weights (op.Unary Not to a) = lit≤ tt
sizes-fit-weights (op.Binary on.Add to a b) = lit≤ tt
sizes-fit-weights (op.Binary on.Sub to a b) = lit≤ tt
sizes-fit-weights (op.Binary on.Mul to a b) = lit≤ tt
sizes-fit-weights (op.Binary on.DivS to a b) = lit≤ tt
sizes-fit-weights (op.Binary on.DivU to a b) = lit≤ tt
sizes-fit-weights (op.Binary on.RemS to a b) = lit≤ tt
sizes-fit-weights (op.Binary on.RemU to a b) = lit≤ tt
sizes-fit-weights (op.Binary on.And to a b) = lit≤ tt
sizes-fit-weights (op.Binary on.Or to a b) = lit≤ tt
sizes-fit-weights (op.Binary on.Xor to a b) = lit≤ tt
sizes-fit-weights (op.Binary on.Shl to a b) = lit≤ tt
sizes-fit-weights (op.Binary on.ShrS to a b) = lit≤ tt
sizes-fit-weights (op.Binary on.ShrU to a b) = lit≤ tt
sizes-fit-weights (op.Binary on.Eq to a b) = lit≤ tt
sizes-fit-weights (op.Binary on.Ne to a b) = lit≤ tt
sizes-fit-weights (op.Binary on.LtS to a b) = lit≤ tt
sizes-fit-weights (op.Binary on.LtU to a b) = lit≤ tt
sizes-fit-weights (op.Binary on.LeS to a b) = lit≤ tt
sizes-fit-weights (op.Binary on.LeU to a b) = lit≤ tt
sizes-fit-weights (op.Binary on.GtS to a b) = lit≤ tt
sizes-fit-weights (op.Binary on.GtU to a b) = lit≤ tt
sizes-fit-weights (op.Binary on.GeS to a b) = lit≤ tt
sizes-fit-weights (op.Binary on.GeU to a b) = lit≤ tt
sizes-fit-weights (op.Test a length token) = lit≤ tt
sizes-fit-weights (op.NonZero a token) = lit≤ tt
sizes-fit-weights (op.Load to array index) = lit≤ tt
sizes-fit-weights (op.Store array index from) = lit≤ tt
sizes-fit-weights (op.Label l) = lit≤ tt
sizes-fit-weights (op.Jump l) = lit≤ tt
sizes-fit-weights (op.JumpZero a l) = lit≤ tt
sizes-fit-weights (op.Arg slot from) = lit≤ tt
sizes-fit-weights (op.Param to slot) = lit≤ tt
sizes-fit-weights (op.Call l) = lit≤ tt
sizes-fit-weights (op.SaveLink cell) = lit≤ tt
sizes-fit-weights (op.Return cell) = lit≤ tt
sizes-fit-weights (op.SetResult from) = lit≤ tt
sizes-fit-weights (op.Result to) = lit≤ tt
sizes-fit-weights (op.Input to) = lit≤ tt
sizes-fit-weights (op.Release a) = lit≤ tt
sizes-fit-weights op.Check = lit≤ tt
sizes-fit-weights op.Suspend = lit≤ tt
sizes-fit-weights (op.SetMode true) = lit≤ tt
sizes-fit-weights (op.SetMode false) = lit≤ tt
sizes-fit-weights op.Exit = lit≤ tt

pub start-fits-weight : StartFitsWeight
start-fits-weight = record { size = λ n entry. refl; weight = refl }
