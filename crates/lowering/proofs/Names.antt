-- Each name in the code of a function of a program agrees with its cell.
use Rattle.std.proofs.Common.{◌≡◌, ℕ, ◌+◌, Bool, true, false, cond, ◌==◌, List, [], ◌∷◌, ◌++◌, length, Option, Some, None, arith, refl, sym, ◌∙◌, ap, subst}
use Rattle.std.specs.List.{slice_get}
use Rattle.regions.specs.declared.rights.Access.TheVariants.{Read, Write}
use Rattle.regions.specs.declared.rights.Class.{Class}
use Rattle.regions.specs.declared.rights.Class.TheVariants.{Open, Verified, Private, Constant, Code, Logged}
use Rattle.regions.specs.Rights.{rights}
use Rattle.c_semantics.specs.ProgramShape.{own_tokens, declared_tokens, is_among, are_distinct, object_at, Around, around_of, IsAllowed, IsObject, Occurs, IsAssignable, IsKept, AreObjectsShaped, word_count}
use Rattle.c_semantics.specs.ResolvedTree.{Function, Object, Program}
use Rattle.c_semantics.specs.Meaning.{Calls}
use Rattle.c_semantics.specs.States.{is_open}
use Rattle.ir_code.specs.declared.code.Cell.{Cell}
use Rattle.ir_code.specs.FlatStates.{words_in, class_in, mode_of, is_shared}
use Rattle.lowering.specs.Cells.{class_for, owners_of, home_of, object_cell, cells_of}
use Rattle.lowering.proofs.Relation.{Frame, IsVar, IsWritable, FitsFrame}
use Rattle.lowering.proofs.Calling.{CallableFrom}
use Rattle.lowering.proofs.Statements.{IsTarget}
use Rattle.lowering.proofs.Programs.{frame_of, CanCallAll}
use Rattle.lowering.proofs.Homes.{known, declared-at}
use Rattle.lowering.specs.CellLaws.{cells_before}
use Rattle.lowering.proofs.CellsOfFunctions.{world, cell-at}
use Rattle.lowering.proofs.Variables.{Placed, placed, own-home, ObjectAt, object-place, object-home, object-cell-at, object-owner, program-once}
use Rattle.lowering.proofs.Fitting.{NamesFit}

-- ---- rights

own-reads : (t : Bool) → rights (mode_of t) (class_for t) Read ≡ true
own-reads true = refl
own-reads false = refl

own-writes : (t : Bool) → rights (mode_of t) (class_for t) Write ≡ true
own-writes true = refl
own-writes false = refl

own-hidden : (t : Bool) → is_shared (class_for t) ≡ false
own-hidden true = refl
own-hidden false = refl

shared-open : (class : Class) → is_shared class ≡ is_open class
shared-open Open = refl
shared-open Verified = refl
shared-open Private = refl
shared-open Constant = refl
shared-open Code = refl
shared-open Logged = refl

object-reads : (t : Bool) (class : Class) → IsAllowed t class → IsKept (Some class) → rights (mode_of t) class Read ≡ true
object-reads true Open h k = refl
object-reads true Verified h k = refl
object-reads true Private h k = refl
object-reads true Constant h k = refl
object-reads true Logged h k = refl
object-reads false Open h k = refl
object-reads false Verified h k = refl
object-reads false Private h k = absurd (grind (arith, h))
object-reads false Constant h k = refl
object-reads false Logged h k = refl
object-reads t Code h k = absurd k

object-writes : (t : Bool) (class : Class) → IsAllowed t class → IsKept (Some class) → IsAssignable (Some class) → rights (mode_of t) class Write ≡ true
object-writes true Open h k a = refl
object-writes true Verified h k a = refl
object-writes true Private h k a = refl
object-writes true Logged h k a = refl
object-writes false Open h k a = refl
object-writes false Verified h k a = refl
object-writes false Private h k a = absurd (grind (arith, h))
object-writes false Logged h k a = refl
object-writes t Constant h k a = absurd a
object-writes t Code h k a = absurd k

kept-at : (objects : List Object) (token : ℕ) (o : Object) → AreObjectsShaped objects → object_at objects token ≡ Some o → IsKept o.variable.class
kept-at [] token o h e = absurd (grind (arith, e))
kept-at (x ∷ objects) token o h e = go (x.variable.token == token) e (λ y. kept-at objects token o h.1 y)
  where
    go : (t : Bool) → cond t (Some x) (object_at objects token) ≡ Some o → (object_at objects token ≡ Some o → IsKept o.variable.class) → IsKept o.variable.class
    go true y later = let same : x ≡ o = cc in subst (λ (z : Object). IsKept z.variable.class) same h.0.class
    go false y later = later y

-- what stands of a program around one of its functions
pub record Stands (p : Program) (before after : List Function) (f : Function) (is_loose : Class → Bool) : Type 0 where
  pub functions : p.functions ≡ before ++ f ∷ after
  pub distinct : are_distinct (declared_tokens p) ≡ true
  pub objects : AreObjectsShaped p.objects
  pub verified : is_loose Verified ≡ false
  pub private : is_loose Private ≡ false

module _ (is_loose : Class → Bool) (p : Program) (before after : List Function) (f : Function) (s : Stands p before after f is_loose) where
  own-loose : (t : Bool) → is_loose (class_for t) ≡ false
  own-loose true = s.private
  own-loose false = s.verified

  own-cell : (token : ℕ) → (at : Placed (own_tokens f) token) → slice_get (cells_of p) (home_of p token) ≡ Some (record { class = class_for f.private; words = 1; first = [] })
  own-cell token at =
      ap (λ (c : ℕ). slice_get (cells_of p) c) (own-home p before after f token s.distinct s.functions at)
      ∙ cell-at p before after f at.place s.functions (omega (arith, at.within))

  pub own-var : (token : ℕ) → is_among (own_tokens f) token ≡ true → IsVar (world is_loose p) (frame_of (length p.objects + cells_before before) f) (record { token = token; class = None }) 1
  unfolding world
  own-var token h =
      let at : Placed (own_tokens f) token = placed (own_tokens f) token h in
      let cell : slice_get (cells_of p) (home_of p token) ≡ Some (record { class = class_for f.private; words = 1; first = [] }) = own-cell token at in
      record {
        words = ap words_in cell;
        loose = ap (λ (x : Option Cell). is_loose (class_in x)) cell ∙ own-loose f.private;
        shared = ap (λ (x : Option Cell). is_shared (class_in x)) cell ∙ own-hidden f.private;
        readable = ap (λ (x : Option Cell). rights (mode_of f.private) (class_in x) Read) cell ∙ own-reads f.private;
        below = (let e : home_of p token ≡ length p.objects + cells_before before + at.place = own-home p before after f token s.distinct s.functions at in omega (arith, e, at.within));
        known = λ q. absurd (grind (arith, q));
      }

  pub own-writable : (token : ℕ) → is_among (own_tokens f) token ≡ true → IsWritable (world is_loose p) (frame_of (length p.objects + cells_before before) f) (record { token = token; class = None })
  unfolding world
  own-writable token h = ap (λ (x : Option Cell). rights (mode_of f.private) (class_in x) Write) (own-cell token (placed (own_tokens f) token h)) ∙ own-writes f.private

  abbrev around : Around
  around = around_of p.objects before f

  abbrev object : ℕ → Class → Option ℕ → List ℕ → Object
  object token class n first = record { variable = record { token = token; class = Some class }; length = n; first = first }

  object-var : (token : ℕ) (class : Class) (n : Option ℕ) → IsObject around (record { token = token; class = Some class }) class n →
      IsVar (world is_loose p) (frame_of (length p.objects + cells_before before) f) (record { token = token; class = Some class }) (word_count n)
  unfolding world
  object-var token class n h =
      let o : Object = object token class n h.first in
      let at : ObjectAt p.objects token o = object-place p.objects token o h.declared in
      let home : home_of p token ≡ at.place = object-home p token o s.distinct at in
      let cell : slice_get (cells_of p) (home_of p token) ≡ Some (object_cell o) = ap (λ (c : ℕ). slice_get (cells_of p) c) home ∙ object-cell-at p token o at in
      record {
        words = ap words_in cell;
        loose = ap (λ (x : Option Cell). is_loose (class_in x)) cell;
        shared = ap (λ (x : Option Cell). is_shared (class_in x)) cell ∙ shared-open class;
        readable = ap (λ (x : Option Cell). rights (mode_of f.private) (class_in x) Read) cell ∙ object-reads f.private class h.allowed (kept-at p.objects token o s.objects h.declared);
        below = omega (arith, home, at.within);
        known = λ q. known (owners_of p) token (program-once p s.distinct) (declared-at (owners_of p) at.place token (object-owner p token o at));
      }

  object-writable : (token : ℕ) (class : Class) (n : Option ℕ) → IsObject around (record { token = token; class = Some class }) class n → IsAssignable (Some class) →
      IsWritable (world is_loose p) (frame_of (length p.objects + cells_before before) f) (record { token = token; class = Some class })
  unfolding world
  object-writable token class n h a =
      let o : Object = object token class n h.first in
      let at : ObjectAt p.objects token o = object-place p.objects token o h.declared in
      let cell : slice_get (cells_of p) (home_of p token) ≡ Some (object_cell o) = ap (λ (c : ℕ). slice_get (cells_of p) c) (object-home p token o s.distinct at) ∙ object-cell-at p token o at in
      ap (λ (x : Option Cell). rights (mode_of f.private) (class_in x) Write) cell ∙ object-writes f.private class h.allowed (kept-at p.objects token o s.objects h.declared) a

  abbrev frame : Frame
  frame = frame_of (length p.objects + cells_before before) f

  var-of : (token : ℕ) (class : Option Class) (n : Option ℕ) → Occurs around (record { token = token; class = class }) n → IsVar (world is_loose p) frame (record { token = token; class = class }) (word_count n)
  var-of token None None h = own-var token h
  var-of token None (Some n) h = absurd h
  var-of token (Some class) n h = object-var token class n h

  writable-of : (token : ℕ) (class : Option Class) (n : Option ℕ) → Occurs around (record { token = token; class = class }) n → IsAssignable class → IsWritable (world is_loose p) frame (record { token = token; class = class })
  writable-of token None None h a = own-writable token h
  writable-of token None (Some n) h a = absurd h
  writable-of token (Some class) n h a = object-writable token class n h a

-- what each name comes to, where the functions before can be called
pub names-fit : (is_loose : Class → Bool) (p : Program) (before after : List Function) (f : Function) (s : Stands p before after f is_loose) (meant : Calls)
    (fits : FitsFrame (world is_loose p) (frame_of (length p.objects + cells_before before) f)) → CanCallAll (world is_loose p) (frame_of (length p.objects + cells_before before) f) meant before →
    NamesFit (record { w = world is_loose p; frame = frame_of (length p.objects + cells_before before) f; calls = meant; fits = fits }) (around_of p.objects before f)
names-fit is_loose p before after f s meant fits can = record {
  var = λ x n h. var-of is_loose p before after f s x.token x.class n h;
  writable = λ x n h a. writable-of is_loose p before after f s x.token x.class n h a;
  own = λ x e h. subst (λ (c : Option Class). IsTarget (record { w = world is_loose p; frame = frame_of (length p.objects + cells_before before) f; calls = meant; fits = fits }) (record { token = x.token; class = c }) 1) (sym e)
      (record { var = own-var is_loose p before after f s x.token h; writable = own-writable is_loose p before after f s x.token h });
  callable = λ function count h.
      subst (λ (c : ℕ). CallableFrom (world is_loose p) (frame_of (length p.objects + cells_before before) f) meant function c) h.count (can function h.callee h.stands);
}
