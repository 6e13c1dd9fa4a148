-- Promise: how large flat code is that a program is lowered to.
use Rattle.std.specs.Prelude.{◌≡◌, ℕ, ◌+◌, ◌*◌, ◌≤◌, List, [], ◌∷◌, length}
use Rattle.c_semantics.specs.Nodes.{nodes}
use Rattle.c_semantics.specs.ProgramShape.{declared_tokens}
use Rattle.c_semantics.specs.ResolvedTree.{Function, Program}
use Rattle.ir_code.specs.declared.ops.Op.{Op}
use Rattle.ir_code.specs.OpTable.{weight_of, start_weight}
use Rattle.lowering.specs.Cells.{cells_of, room_in}
use Rattle.lowering.specs.Lowering.{lowered}

-- the weights of operations, all together
abbrev pub weight_of_all : List Op → ℕ
weight_of_all [] = 0
weight_of_all (o ∷ ops) = weight_of o + weight_of_all ops

-- how many cells of functions are for no variable: each function's link and its temporaries
abbrev pub temporary_cells : List Function → ℕ
temporary_cells [] = 0
temporary_cells (f ∷ fs) = (1 + room_in f.body) + temporary_cells fs

-- For each node of the program the code with the start has at most 64 units of weight, 64 operations and two cells for links and
-- temporaries. The other cells are for the declared variables.
pub record HasSize (p : Program) : Type 0 where
  pub weight : start_weight + weight_of_all (lowered p).ops ≤ 64 * nodes p + 64
  pub count : length (lowered p).ops ≤ 64 * nodes p + 64
  pub temporaries : temporary_cells p.functions ≤ 2 * nodes p
  pub cells : length (cells_of p) ≡ length (declared_tokens p) + temporary_cells p.functions

abbrev pub SizesFollow : Type 0
SizesFollow = (p : Program) → HasSize p
