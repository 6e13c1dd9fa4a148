-- Promise: what follows of the meaning of flat code.
use Rattle.std.specs.Prelude.{◌≡◌, ℕ, ◌+◌, ◌≤◌, Some}
use Rattle.std.specs.List.{slice_get}
use Rattle.execution.specs.Run.{run, state_of}
use Rattle.execution.specs.Traffic.{Extends}
use Rattle.regions.specs.declared.rights.Class.{Class}
use Rattle.std.specs.Prelude.{Bool}
use Rattle.ir_code.specs.declared.code.Ir.{Ir}
use Rattle.ir_code.specs.declared.ops.Op.{Op}
use Rattle.ir_code.specs.OpTable.{weight_of}
use Rattle.ir_code.specs.FlatStates.{FlatState}
use Rattle.ir_code.specs.FlatMeaning.{flat_step}

-- from a state a run comes to such a later one
pub record IsLater (earlier later : FlatState) : Type 0 where
  pub traffic : Extends earlier.traffic later.traffic
  pub weight : earlier.weight ≤ later.weight
  pub jumps : earlier.jumps ≤ later.jumps

abbrev pub StepsOnlyAdd : Type 0
StepsOnlyAdd = (is_loose : Class → Bool) (ir : Ir) (steps : ℕ) (f : FlatState) → IsLater f (state_of (run (flat_step is_loose ir) steps f))

-- each operation that is run adds its weight, whether it ends the run or not
abbrev pub WeightsAreCounted : Type 0
WeightsAreCounted = (is_loose : Class → Bool) (ir : Ir) (o : Op) (f : FlatState) → slice_get ir.ops f.place ≡ Some o →
    (state_of (flat_step is_loose ir f)).weight ≡ f.weight + weight_of o
