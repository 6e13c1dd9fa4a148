-- Promise: which cells of lowered code are for what, and that private ones are touched in the private mode alone.
use Rattle.std.specs.Prelude.{◌≡◌, ℕ, suc, ◌+◌, ◌<◌, false, List, [], ◌∷◌, ◌++◌, length, Some}
use Rattle.std.specs.List.{slice_get}
use Rattle.execution.specs.Run.{Stops}
use Rattle.regions.specs.declared.rights.Access.{Access}
use Rattle.regions.specs.declared.rights.Class.TheVariants.{Private}
use Rattle.c_semantics.specs.ProgramShape.{own_tokens, IsShaped}
use Rattle.c_semantics.specs.ResolvedTree.{Function, Object, Program}
use Rattle.ir_code.specs.declared.code.Cell.{Cell}
use Rattle.ir_code.specs.declared.code.Ir.{Ir}
use Rattle.ir_code.specs.FlatStates.{FlatState, Later, Stuck, class_of}
use Rattle.ir_code.specs.FlatMeaning.{touching}
use Rattle.lowering.specs.Cells.{class_for, cell_count, object_cell, cells_of, home_of}

-- how many cells functions have in all
abbrev pub cells_before : List Function → ℕ
cells_before [] = 0
cells_before (f ∷ fs) = cell_count f + cells_before fs

-- The cells of one function, after those of the objects and of the functions before it: one word each, Private where the function is
-- private and Verified else. The first are its parameters and its locals, in order; its link and its temporaries come next.
pub record HasFunctionCells (p : Program) (before after : List Function) (f : Function) : Type 0 where
  pub kept : (i : ℕ) → i < cell_count f →
      slice_get (cells_of p) (length p.objects + cells_before before + i) ≡ Some (record { class = class_for f.private; words = 1; first = [] })
  pub own : (i token : ℕ) → slice_get (own_tokens f) i ≡ Some token → home_of p token ≡ length p.objects + cells_before before + i

-- The first cells are the objects, in order, with class, words and first words. The cells of the functions come next, in order.
pub record HasCells (p : Program) : Type 0 where
  pub objects : (i : ℕ) (o : Object) → slice_get p.objects i ≡ Some o → (slice_get (cells_of p) i ≡ Some (object_cell o)) × (home_of p o.variable.token ≡ i)
  pub functions : (before after : List Function) (f : Function) → p.functions ≡ before ++ f ∷ after → HasFunctionCells p before after f

abbrev pub CellsAreListed : Type 0
CellsAreListed = (p : Program) → IsShaped p → HasCells p

-- A run that touches a private cell outside the private mode is stuck there.
abbrev pub PrivateIsGuarded : Type 0
PrivateIsGuarded = (ir : Ir) (access : Access) (c i : ℕ) (next : Later) (f : FlatState) → class_of ir c ≡ Private → f.private ≡ false → touching ir access c i next f ≡ Stops Stuck f
