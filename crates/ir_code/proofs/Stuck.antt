-- Flat code that gets stuck, for each reason, next to flat code that differs in one thing and does not.
use Rattle.std.proofs.Common.{◌≡◌, true, false, List, [], ◌∷◌, Option, Some, None, refl}
use Rattle.execution.specs.Run.{Goes, Stops}
use Rattle.aegis_num.specs.declared.operators.BinaryOp.TheVariants.{Add, DivU}
use Rattle.regions.specs.LooseClasses.{nothing_loose, shared_loose, shared_and_logged_loose}
use Rattle.ir_code.specs.declared.ops.Op.{Op}
use Rattle.ir_code.specs.declared.ops.Op.TheVariants as op
use Rattle.ir_code.specs.FlatStates.{FlatEnd, Ended, Stuck, Step}
use Rattle.ir_code.specs.FlatMeaning.{flat_run}
use Rattle.ir_code.proofs.Worked.{having}

abbrev end : Step → Option FlatEnd
end (Goes f) = None
end (Stops e f) = Some e

-- the end of these operations, on the cells of the worked runs
abbrev ends : List Op → FlatEnd → Type 0
ends ops e = end (flat_run nothing_loose (having ops) [] [] 20) ≡ Some e

-- an index out of range, of an array, of a constant, and of a cell that is not there
load : ends (op.Const 0 1 ∷ op.Load 1 4 0 ∷ op.Exit ∷ []) Ended
load = refl

load-past : ends (op.Const 0 2 ∷ op.Load 1 4 0 ∷ op.Exit ∷ []) Stuck
load-past = refl

load-constant-past : ends (op.Const 0 3 ∷ op.Load 1 2 0 ∷ op.Exit ∷ []) Stuck
load-constant-past = refl

store-past : ends (op.Const 0 2 ∷ op.Store 4 0 1 ∷ op.Exit ∷ []) Stuck
store-past = refl

no-cell : ends (op.Const 6 0 ∷ op.Exit ∷ []) Stuck
no-cell = refl

no-cell-read : ends (op.Release 6 ∷ op.Exit ∷ []) Stuck
no-cell-read = refl

-- a loose array too
loose-past : end (flat_run shared_loose (having (op.Const 0 2 ∷ op.Load 1 3 0 ∷ op.Exit ∷ [])) [] [] 20) ≡ Some Stuck
loose-past = refl

-- a zero divisor
divided : ends (op.Const 0 8 ∷ op.Const 1 2 ∷ op.Binary DivU 0 0 1 ∷ op.Exit ∷ []) Ended
divided = refl

divided-by-zero : ends (op.Const 0 8 ∷ op.Binary DivU 0 0 1 ∷ op.Exit ∷ []) Stuck
divided-by-zero = refl

added-to-zero : ends (op.Const 0 8 ∷ op.Binary Add 0 0 1 ∷ op.Exit ∷ []) Ended
added-to-zero = refl

-- a private cell outside the private mode
private-in : ends (op.SetMode true ∷ op.Const 5 1 ∷ op.Release 5 ∷ op.Exit ∷ []) Ended
private-in = refl

private-write : ends (op.Const 5 1 ∷ op.Exit ∷ []) Stuck
private-write = refl

private-read : ends (op.SetMode true ∷ op.Const 5 1 ∷ op.SetMode false ∷ op.Release 5 ∷ op.Exit ∷ []) Stuck
private-read = refl

-- a constant that is written
constant-written : ends (op.Const 2 1 ∷ op.Exit ∷ []) Stuck
constant-written = refl

-- a change of mode that changes nothing
mode-off : ends (op.SetMode false ∷ op.Exit ∷ []) Stuck
mode-off = refl

mode-on : ends (op.SetMode true ∷ op.SetMode true ∷ op.Exit ∷ []) Stuck
mode-on = refl

-- a parameter with no argument in its slot, and one after another operation
param : ends (op.Arg 0 0 ∷ op.Param 1 0 ∷ op.Exit ∷ []) Ended
param = refl

param-unfilled : ends (op.Arg 0 0 ∷ op.Param 1 1 ∷ op.Exit ∷ []) Stuck
param-unfilled = refl

param-forgotten : ends (op.Arg 0 0 ∷ op.Const 0 1 ∷ op.Param 1 0 ∷ op.Exit ∷ []) Stuck
param-forgotten = refl

-- there are six slots
arg-five : ends (op.Arg 5 0 ∷ op.Exit ∷ []) Ended
arg-five = refl

arg-six : ends (op.Arg 6 0 ∷ op.Exit ∷ []) Stuck
arg-six = refl

-- a result that was not set, or is forgotten; a jump forgets it
result : ends (op.SetResult 0 ∷ op.Label 0 ∷ op.Result 1 ∷ op.Exit ∷ []) Ended
result = refl

result-unset : ends (op.Result 1 ∷ op.Exit ∷ []) Stuck
result-unset = refl

result-forgotten : ends (op.SetResult 0 ∷ op.Jump 0 ∷ op.Label 0 ∷ op.Result 1 ∷ op.Exit ∷ []) Stuck
result-forgotten = refl

result-taken : ends (op.SetResult 0 ∷ op.Result 1 ∷ op.Result 0 ∷ op.Exit ∷ []) Stuck
result-taken = refl

-- a link that no call left, that is forgotten, or was saved already; a label and a parameter may come between
link : ends (op.Arg 0 1 ∷ op.Call 0 ∷ op.Label 0 ∷ op.Param 1 0 ∷ op.SaveLink 0 ∷ op.Exit ∷ []) Ended
link = refl

link-none : ends (op.SaveLink 0 ∷ op.Exit ∷ []) Stuck
link-none = refl

link-forgotten : ends (op.Call 0 ∷ op.Label 0 ∷ op.Const 1 1 ∷ op.SaveLink 0 ∷ op.Exit ∷ []) Stuck
link-forgotten = refl

link-saved : ends (op.Call 0 ∷ op.Label 0 ∷ op.SaveLink 0 ∷ op.SaveLink 1 ∷ op.Exit ∷ []) Stuck
link-saved = refl

-- a return with no link in its cell, a link read as a word, and one kept in a private cell outside the private mode
return : ends (op.Jump 1 ∷ op.Label 0 ∷ op.SaveLink 0 ∷ op.Return 0 ∷ op.Label 1 ∷ op.Call 0 ∷ op.Exit ∷ []) Ended
return = refl

return-none : ends (op.Return 0 ∷ op.Exit ∷ []) Stuck
return-none = refl

return-overwritten : ends (op.Jump 1 ∷ op.Label 0 ∷ op.SaveLink 0 ∷ op.Const 0 6 ∷ op.Return 0 ∷ op.Label 1 ∷ op.Call 0 ∷ op.Exit ∷ []) Stuck
return-overwritten = refl

link-as-word : ends (op.Call 0 ∷ op.Label 0 ∷ op.SaveLink 0 ∷ op.Release 0 ∷ op.Exit ∷ []) Stuck
link-as-word = refl

link-private : ends (op.Call 0 ∷ op.Label 0 ∷ op.SaveLink 5 ∷ op.Exit ∷ []) Stuck
link-private = refl

-- a link is kept in no loose cell
link-logged : end (flat_run nothing_loose (having (op.Call 0 ∷ op.Label 0 ∷ op.SaveLink 4 ∷ op.Exit ∷ [])) [] [] 20) ≡ Some Ended
link-logged = refl

link-loose : end (flat_run shared_and_logged_loose (having (op.Call 0 ∷ op.Label 0 ∷ op.SaveLink 4 ∷ op.Exit ∷ [])) [] [] 20) ≡ Some Stuck
link-loose = refl

-- a label that is not there, and a place at which no operation stands
jump-nowhere : ends (op.Jump 1 ∷ op.Label 0 ∷ op.Exit ∷ []) Stuck
jump-nowhere = refl

call-nowhere : ends (op.Call 1 ∷ op.Label 0 ∷ op.Exit ∷ []) Stuck
call-nowhere = refl

past-the-end : ends (op.Const 0 1 ∷ []) Stuck
past-the-end = refl
