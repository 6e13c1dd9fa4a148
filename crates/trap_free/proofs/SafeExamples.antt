-- Worked programs that are safe, and such that are not.
use Rattle.std.proofs.Common.{true, false, [], ◌∷◌, Some, None, refl, arith}
use Rattle.aegis_num.specs.declared.operators.UnaryOp.TheVariants.{Neg}
use Rattle.aegis_num.specs.declared.operators.BinaryOp.TheVariants.{Add, And, DivS, DivU, Or}
use Rattle.c_semantics.specs.declared.tree.Variable.{Variable}
use Rattle.c_semantics.specs.ResolvedTree.{Expr, Number, Scalar, Indexed, Called, Input, Unary, Binary, Both, Either, NoArguments, Argument, Nothing, Then, Empty, Block, Local, Assign, Store, Call, Suspend, Release, Check, Return, Break, Continue, If, While, For}
use Rattle.c_semantics.specs.States.{Ended, Index, Divide, Starved, Turns}
use Rattle.trap_free.specs.SafePrograms.{AreSafe, IsBelow, IsNoTrap, IsSafe, IsSafeExpr}

-- an array
abbrev array : Variable
array = record { token = 1; class = None }

-- a local
abbrev local : Variable
local = record { token = 9; class = None }

-- `a[input() & 255]` of an array of 256, and of one of 255
masked : IsSafeExpr (Indexed 2 array 256 (Binary 5 And Input (Number 255)))
masked = (omega arith, (refl, tt, tt))

too_wide : IsSafeExpr (Indexed 2 array 255 (Binary 5 And Input (Number 255))) → ⊥
too_wide safe = absurd (omega (arith, safe.0))

-- `a[255]`
constant : (IsBelow 256 (Number 255)) × (IsBelow 255 (Number 255) → ⊥)
constant = (omega arith, λ below. absurd (omega (arith, below)))

-- `a[input()]`, and an index by an operator that is no mask
open_index : IsSafeExpr (Indexed 2 array 256 Input) → ⊥
open_index safe = safe.0

no_mask : IsSafeExpr (Indexed 2 array 256 (Binary 5 Or Input (Number 255))) → ⊥
no_mask safe = safe.0

-- a quotient, however deep it stands
divides : IsSafe (Store 2 array 256 (Number 0) (Binary 9 Add Input (Binary 11 DivU (Number 1) (Number 2)))) → ⊥
divides safe = let no = safe.2.2.0 in cc

-- an index that is stored to
stored : IsSafe (Store 2 array 4 (Number 3) Input) × (IsSafe (Store 2 array 4 (Number 4) Input) → ⊥)
stored = ((omega arith, tt, tt), λ safe. absurd (omega (arith, safe.0)))

-- a number is no index by itself where it is too great, and a mask is the right operand alone
left_mask : IsBelow 256 (Binary 5 And (Number 255) Input) → ⊥
left_mask below = below

-- each form of statement and expression is safe where its parts are
forms : IsSafe (Then (Block (Local local (Some (Unary Neg Input)))) (Then (If (Both (Scalar local) (Number 1)) (Assign local (Either (Number 0) Input)) Nothing)
    (Then (While (Scalar local) (Then Break Continue)) (Then (For Empty (Some (Scalar local)) Suspend (Then Check (Release (Number 7))))
    (Then (Call 0 (Argument Input NoArguments)) (Then (Local local None) (Return (Some (Called 0 (Argument (Number 1) NoArguments))))))))))
forms = (tt, (((tt, tt), (tt, tt), tt), ((tt, (tt, tt)), ((tt, tt, tt, (tt, tt)), ((tt, tt), (tt, (tt, tt)))))))

-- and is not where a part is not, wherever it stands
abbrev divided : Expr
divided = Binary 3 DivS Input (Number 2)

in_statements : (IsSafe (Then Empty (Release divided)) → ⊥) × (IsSafe (Block (Return (Some divided))) → ⊥) × (IsSafe (If Input Empty (Assign local divided)) → ⊥) × (IsSafe (If divided Empty Empty) → ⊥)
    × (IsSafe (While Input (Local local (Some divided))) → ⊥) × (IsSafe (While divided Empty) → ⊥) × (IsSafe (For (Assign local divided) None Empty Empty) → ⊥) × (IsSafe (For Empty (Some divided) Empty Empty) → ⊥)
    × (IsSafe (For Empty None (Assign local divided) Empty) → ⊥) × (IsSafe (For Empty None Empty (Release divided)) → ⊥) × (IsSafe (Call 0 (Argument Input (Argument divided NoArguments))) → ⊥)
in_statements = (
  λ safe. let no = safe.1.0 in cc,
  λ safe. let no = safe.0 in cc,
  λ safe. let no = safe.2.0 in cc,
  λ safe. let no = safe.0.0 in cc,
  λ safe. let no = safe.1.0 in cc,
  λ safe. let no = safe.0.0 in cc,
  λ safe. let no = safe.0.0 in cc,
  λ safe. let no = safe.1.0 in cc,
  λ safe. let no = safe.2.0 in cc,
  λ safe. let no = safe.3.0 in cc,
  λ safe. let no = safe.1.0.0 in cc,
)

in_expressions : (IsSafeExpr (Unary Neg divided) → ⊥) × (IsSafeExpr (Both Input divided) → ⊥) × (IsSafeExpr (Either divided Input) → ⊥) × (IsSafeExpr (Called 0 (Argument divided NoArguments)) → ⊥)
    × (IsSafeExpr (Indexed 2 array 4 (Binary 5 And divided (Number 3))) → ⊥)
in_expressions = (λ safe. let no = safe.0 in cc, λ safe. let no = safe.1.0 in cc, λ safe. let no = safe.0.0 in cc, λ safe. let no = safe.0.0 in cc, λ safe. let no = safe.1.1.0 in cc)

-- each function has to be
of_functions : (AreSafe (record { private = false; parameters = []; body = Empty } ∷ record { private = false; parameters = []; body = Release divided } ∷ []) → ⊥)
    × AreSafe (record { private = true; parameters = []; body = Release Input } ∷ [])
of_functions = (λ safe. let no = safe.1.0.0 in cc, (tt, tt))

-- which ends are no trap
ends : IsNoTrap Ended × IsNoTrap Turns × IsNoTrap Starved × (IsNoTrap (Index 3) → ⊥) × (IsNoTrap (Divide 3) → ⊥)
ends = (tt, tt, tt, λ no. no, λ no. no)
