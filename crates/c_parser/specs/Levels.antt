-- Device: whether a level is left for what opens one.
use Rattle.std.specs.Prelude.{◌≡◌, ℕ, suc, Result, Ok, Err, Some, None}
use Rattle.c_parser.specs.declared.fault.Fault.{Fault}
use Rattle.c_parser.specs.declared.fault.Fault.TheVariants.{Deep}
use Rattle.c_descent.proofs.ExpressionParser.{levels_inside, unary_expression}

-- whether a level is left, and how many are then
abbrev pub OpensLevel : ℕ → Result ℕ Fault → Type 0
OpensLevel levels (Ok left) = levels ≡ suc left
OpensLevel levels (Err fault) = (levels ≡ 0) × (fault ≡ Deep)

-- whether a unary expression one level deeper can be read, and with how many levels left
abbrev pub OpensInside : ℕ → ℕ → Result ℕ Fault → Type 0
OpensInside limit levels (Ok left) = levels_inside limit levels ≡ Some (unary_expression limit left)
OpensInside limit levels (Err fault) = levels_inside limit levels ≡ None
