-- Which cells are for what.
use Rattle.std.proofs.Common.{◌≡◌, ℕ, zero, suc, ◌+◌, ◌<◌, Bool, true, false, ◌&&◌, nat_lt, List, [], ◌∷◌, ◌++◌, length, map, Option, Some, None, arith, refl, sym, ◌∙◌, ap}
use Rattle.std.proofs.lemmas.Option.{slice_get_within}
use Rattle.std.specs.List.{slice_get}
use Rattle.execution.specs.Run.{Stops}
use Rattle.regions.specs.declared.rights.Access.{Access}
use Rattle.regions.specs.declared.rights.Access.TheVariants.{Read, Write, Fetch}
use Rattle.regions.specs.declared.rights.Class.{Class}
use Rattle.regions.specs.declared.rights.Class.TheVariants.{Private}
use Rattle.regions.specs.Rights.{rights}
use Rattle.c_semantics.specs.ProgramShape.{own_tokens, declared_tokens, are_distinct, IsShaped}
use Rattle.c_semantics.specs.ResolvedTree.{Function, Object, Program}
use Rattle.ir_code.specs.declared.code.Ir.{Ir}
use Rattle.ir_code.specs.FlatStates.{FlatState, Later, Stuck, pick, stuck, class_of, words_of, mode_of}
use Rattle.ir_code.specs.FlatMeaning.{touching}
use Rattle.lowering.specs.Cells.{owners_in, owners_of, home_of, object_cell, object_cells, function_cells, cells_of}
use Rattle.lowering.specs.CellLaws.{cells_before, HasCells, CellsAreListed, PrivateIsGuarded}
use Rattle.lowering.proofs.CellsOfFunctions.{cell-at}
use Rattle.lowering.proofs.Variables.{Placed, own-home, home-is, program-once, front-get}

map-get : {A B : Type 0} → (g : A → B) (xs : List A) (i : ℕ) (x : A) → slice_get xs i ≡ Some x → slice_get (map g xs) i ≡ Some (g x)
map-get g [] i x e = absurd (grind (arith, e))
map-get g (y ∷ xs) zero x e = go e
  where
    go : Some y ≡ Some x → Some (g y) ≡ Some (g x)
    go h = let same : y ≡ x = cc in ap (λ z. Some (g z)) same
map-get g (y ∷ xs) (suc i) x e = map-get g xs i x e

object-get : (os : List Object) (i : ℕ) (o : Object) → slice_get os i ≡ Some o → slice_get (object_cells os) i ≡ Some (object_cell o)
object-get [] i o e = absurd (grind (arith, e))
object-get (x ∷ os) zero o e = let same : x ≡ o = cc in ap (λ (z : Object). Some (object_cell z)) same
object-get (x ∷ os) (suc i) o e = object-get os i o e

pub cells-are-listed : CellsAreListed
cells-are-listed p shaped = record {
  objects = λ i o e. (
    front-get (object_cells p.objects) (function_cells p.functions) i (object_cell o) (object-get p.objects i o e),
    home-is (owners_of p) i o.variable.token (program-once p shaped.tokens)
        (front-get (map (λ (x : Object). Some x.variable.token) p.objects) (owners_in p.functions) i (Some o.variable.token) (map-get (λ (x : Object). Some x.variable.token) p.objects i o e)),
  );
  functions = λ before after f e. record {
    kept = λ i low. cell-at p before after f i e low;
    own = λ i token h.
        own-home p before after f token shaped.tokens e
        (record { place = i; within = slice_get_within (own_tokens f) i token h; stands = map-get (λ (t : ℕ). Some t) (own_tokens f) i token h });
  };
}

none-right : (t : Bool) → (t && false) ≡ false
none-right true = refl
none-right false = refl

no-rights : (access : Access) → rights (mode_of false) Private access ≡ false
no-rights Read = refl
no-rights Write = refl
no-rights Fetch = refl

pub private-is-guarded : PrivateIsGuarded
private-is-guarded ir access c i next f e m =
    ap (λ (t : Bool). pick t next stuck f)
    (ap (λ (class : Class). nat_lt i (words_of ir c) && rights (mode_of f.private) class access) e
    ∙ ap (λ (t : Bool). nat_lt i (words_of ir c) && rights (mode_of t) Private access) m
    ∙ ap (λ (t : Bool). nat_lt i (words_of ir c) && t) (no-rights access)
    ∙ none-right (nat_lt i (words_of ir c)))
