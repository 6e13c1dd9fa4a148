-- Device: what the code keeps while it lowers, as what the definitions speak of.
use Rattle.std.specs.Prelude.{ℕ, ◌+◌, Bool, false, List, [], ◌∷◌, ◌++◌, length, Option, Some, None, slice_index_or}
use Rattle.std.specs.HashMap.{get}
use Rattle.std.specs.Prelude.{nat_eq}
use Rattle.c_semantics.specs.ResolvedTree.{Function, Program}
use Rattle.ir_code.specs.declared.ops.Op.{Op}
use Rattle.ir_code.specs.declared.ops.Op.TheVariants as op
use Rattle.lowering.specs.Lowering as Lowering
use Rattle.secure_split.specs.declared.homes.Homes.{Homes}
use Rattle.secure_split.specs.declared.scope.Scope.{Scope}
use Rattle.secure_split.specs.declared.scope.Exits.{Exits}

-- a cell that was found, or one beyond all
abbrev pub or_beyond : ℕ → ℕ → Option ℕ → ℕ
or_beyond count token None = count + token
or_beyond count token (Some cell) = cell

-- the cell of a variable
abbrev pub home_by : Homes → ℕ → ℕ
home_by homes token = or_beyond homes.count token (get nat_eq homes.cells token)

-- whether a function is private; one that is not there is not
abbrev pub private_by : List Bool → ℕ → Bool
private_by privates function = slice_index_or privates function false

-- of each function, whether it is private
abbrev pub privates_in : List Function → List Bool
privates_in [] = []
privates_in (f ∷ fs) = f.private ∷ privates_in fs

-- what the code of a private function, or of another one, has around it
abbrev pub around : Scope → Bool → Lowering.Scope
around s private = record { home = home_by s.homes; is_private = private_by s.privates; private = private }

-- what the code of the function that is lowered has around it
abbrev pub scope_of : Scope → Lowering.Scope
scope_of s = around s s.private

-- the labels of the exits
abbrev pub exits_of : Exits → Lowering.Exits
exits_of e = record { broken = e.broken; continued = e.continued; returned = e.returned }

-- the code of the functions of a program, where variables have these cells and these functions are private
abbrev pub functions_within : (ℕ → ℕ) → (ℕ → Bool) → Program → List Op
functions_within home is_private p = Lowering.functions_code home is_private 0 (length p.objects) (length p.functions) p.functions

-- all its code, with the call of the function that a run starts with
abbrev pub ops_within : (ℕ → ℕ) → (ℕ → Bool) → Program → List Op
ops_within home is_private p =
    functions_within home is_private p
    ++ (Lowering.calling (record { home = home; is_private = is_private; private = false }) p.main ++ (op.Exit ∷ []))
