-- A program of the right shape, lowered, does what it means.
use Rattle.std.proofs.Common.{◌≡◌, ℕ, zero, suc, ◌+◌, ◌≤◌, Bool, true, false, ◌==◌, ◌||◌, List, [], ◌∷◌, ◌++◌, length, map, Option, Some, arith, refl, sym, ◌∙◌, ap, subst, append_assoc}
use Rattle.std.proofs.lemmas.Bool.{eq-eqb}
use Rattle.std.specs.List.{slice_get}
use Rattle.regions.specs.declared.rights.Class.{Class}
use Rattle.regions.specs.declared.rights.Class.TheVariants.{Verified, Private}
use Rattle.c_semantics.specs.declared.tree.Variable.{Variable}
use Rattle.c_semantics.specs.Meaning.{Calls}
use Rattle.c_semantics.specs.ProgramShape.{own_tokens, is_among, locals_of, around_of, AreUnclassed, AreFunctionsShaped, IsFunctionShaped, IsShaped}
use Rattle.c_semantics.specs.ResolvedTree.{Function, Program}
use Rattle.lowering.specs.Cells.{cell_count, source_element, owners_of}
use Rattle.lowering.proofs.Homes.{back-home}
use Rattle.execution.specs.Traffic.{Element}
use Rattle.regions.specs.LooseClasses.{shared_loose, shared_and_logged_loose}
use Rattle.c_semantics.specs.States as source
use Rattle.ir_code.specs.FlatStates.{Stuck}
use Rattle.lowering.specs.Lowering.{is_private_in, lowered}
use Rattle.lowering.specs.LoweringLaws.{MeansAs, Starts, IsLowered, Lowers, NamesReach, flat_end}
use Rattle.lowering.proofs.Relation.{FitsFrame}
use Rattle.lowering.proofs.Expressions.{Env}
use Rattle.lowering.proofs.Statements.{IsTarget, loops_in}
use Rattle.lowering.proofs.Functions.{FunctionFits, ParametersFit}
use Rattle.lowering.proofs.Programs.{frame_of, CanCallAll, FitsNext, FunctionsFit, Laid, means-as}
use Rattle.lowering.specs.CellLaws.{cells_before}
use Rattle.lowering.proofs.CellsOfFunctions.{world, frame-fits, functions-stand, entry-stands}
use Rattle.lowering.proofs.Fitting.{stmt-fits, loops-nest, stmt-room, private-at}
use Rattle.lowering.proofs.Names.{Stands, names-fit, own-var, own-writable}
use Rattle.lowering.proofs.Starting.{starts-plainly}

pub among-front : (xs ys : List ℕ) (token : ℕ) → is_among xs token ≡ true → is_among (xs ++ ys) token ≡ true
among-front [] ys token e = absurd (grind (arith, e))
among-front (x ∷ xs) ys token e = go (x == token) e (λ h. among-front xs ys token h)
  where
    go : (t : Bool) → (t || is_among xs token) ≡ true → (is_among xs token ≡ true → is_among (xs ++ ys) token ≡ true) → (t || is_among (xs ++ ys) token) ≡ true
    go true h later = refl
    go false h later = later h

module _ (is_loose : Class → Bool) (p : Program) (before after : List Function) (f : Function) (s : Stands p before after f is_loose) (meant : Calls) (fits : FitsFrame (world is_loose p) (frame_of (length p.objects + cells_before before) f)) where
  abbrev env : Env
  env = record { w = world is_loose p; frame = frame_of (length p.objects + cells_before before) f; calls = meant; fits = fits }

  parameters-fit : (xs : List Variable) → AreUnclassed xs → ((token : ℕ) → is_among (map (λ (x : Variable). x.token) xs) token ≡ true → is_among (own_tokens f) token ≡ true) → ParametersFit env xs
  parameters-fit [] h among = tt
  parameters-fit (x ∷ xs) h among = (
    subst (λ (c : Option Class). IsTarget env (record { token = x.token; class = c }) 1) (sym h.0)
        (record { var = own-var is_loose p before after f s x.token here; writable = own-writable is_loose p before after f s x.token here }),
    parameters-fit xs h.1 (λ token e. among token (rest token e (x.token == token))),
  )
    where
      here : is_among (own_tokens f) x.token ≡ true
      here = among x.token (ap (λ (t : Bool). t || is_among (map (λ (y : Variable). y.token) xs) x.token) (eq-eqb x.token x.token refl))

      rest : (token : ℕ) → is_among (map (λ (y : Variable). y.token) xs) token ≡ true → (t : Bool) → (t || is_among (map (λ (y : Variable). y.token) xs) token) ≡ true
      rest token e true = refl
      rest token e false = e

  pub function-fits : IsFunctionShaped p.objects before f → CanCallAll (world is_loose p) (frame_of (length p.objects + cells_before before) f) meant before → FunctionFits env f
  function-fits h can = record {
    private = refl;
    few = h.parameters;
    parameters = parameters-fit f.parameters h.unclassed (λ token e. among-front (map (λ (x : Variable). x.token) f.parameters) (locals_of f.body) token e);
    body = stmt-fits env (around_of p.objects before f) (names-fit is_loose p before after f s meant fits can) f.body h.names;
    loops = (let k : 0 + loops_in f.body ≤ 64 = loops-nest f.body 0 (omega arith) h.nesting in omega (arith, k));
    top = refl;
    room = stmt-room f.body;
  }

cells-before-two : (before : List Function) (f : Function) → cells_before (before ++ f ∷ []) ≡ cells_before before + cell_count f
cells-before-two [] f = omega arith
cells-before-two (g ∷ before) f = let h : cells_before (before ++ f ∷ []) ≡ cells_before before + cell_count f = cells-before-two before f in omega (arith, h)

pub functions-fit : (is_loose : Class → Bool) (p : Program) (shaped : IsShaped p) → is_loose Verified ≡ false → is_loose Private ≡ false → (before fs : List Function) (cell : ℕ) → p.functions ≡ before ++ fs →
    cell ≡ length p.objects + cells_before before → AreFunctionsShaped p.objects before fs → FunctionsFit (world is_loose p) before cell fs
unfolding world
functions-fit is_loose p shaped verified private before [] cell e c h = tt
functions-fit is_loose p shaped verified private before (f ∷ fs) cell e c h = (
  subst (λ (x : ℕ). FitsNext (world is_loose p) before x f) (sym c) (record {
    fits = fits;
    private = ap (λ (x : List Function). is_private_in x (length before)) e ∙ private-at before fs f;
    function = λ meant can. function-fits is_loose p before fs f s meant fits h.0 can;
  }),
  functions-fit is_loose p shaped verified private (before ++ f ∷ []) fs (cell + cell_count f) (e ∙ sym (append_assoc before (f ∷ []) fs)) (omega (arith, c, cells-before-two before f)) h.1,
)
  where
    s : Stands p before fs f is_loose
    s = record { functions = e; distinct = shaped.tokens; objects = shaped.objects; verified = verified; private = private }

    fits : FitsFrame (world is_loose p) (frame_of (length p.objects + cells_before before) f)
    fits = frame-fits is_loose p before fs f verified private e

private-of : (fs : List Function) (number : ℕ) (f : Function) → slice_get fs number ≡ Some f → is_private_in fs number ≡ f.private
private-of [] number f e = absurd (grind (arith, e))
private-of (g ∷ fs) zero f e = let same : g ≡ f = cc in ap (λ (x : Function). x.private) same
private-of (g ∷ fs) (suc number) f e = private-of fs number f e

pub laid : (is_loose : Class → Bool) (p : Program) → IsShaped p → is_loose Verified ≡ false → is_loose Private ≡ false → Starts p → Laid (world is_loose p) p
unfolding world
laid is_loose p shaped verified private starts =
    let public : is_private_in p.functions p.main ≡ false = private-of p.functions p.main shaped.main.main shaped.main.stands ∙ shaped.main.public in
    record {
      label = length p.functions;
      cell = length p.objects;
      first = 0;
      functions = functions-fit is_loose p shaped verified private [] p.functions (length p.objects) refl (omega arith) shaped.functions;
      code = functions-stand is_loose p;
      main = shaped.main.main;
      stands = shaped.main.stands;
      bare = shaped.main.parameters;
      public = public;
      call = (entry-stands is_loose p public).0;
      exit = (entry-stands is_loose p public).1.0;
      memory = starts;
    }

-- A program of the right shape, whose cells start as its variables do, means as flat code what it means.
pub lowered-means : (is_loose : Class → Bool) (p : Program) → IsShaped p → is_loose Verified ≡ false → is_loose Private ≡ false → Starts p → MeansAs is_loose p (lowered p) (source_element p)
unfolding world
lowered-means is_loose p shaped verified private starts = means-as (world is_loose p) p (laid is_loose p shaped verified private starts)

no-end-is-stuck : (end : source.End) → flat_end end ≡ Some Stuck → ⊥
no-end-is-stuck source.Ended e = cc
no-end-is-stuck (source.Index at) e = cc
no-end-is-stuck (source.Divide at) e = cc
no-end-is-stuck source.Starved e = cc
no-end-is-stuck source.Turns e = cc

pub is-lowered : (is_loose : Class → Bool) (p : Program) → IsShaped p → is_loose Verified ≡ false → is_loose Private ≡ false → Starts p → IsLowered is_loose p
is-lowered is_loose p shaped verified private starts =
    let means : MeansAs is_loose p (lowered p) (source_element p) = lowered-means is_loose p shaped verified private starts in
    record { starts = starts; meaning = means; runs = λ input loose steps at e. no-end-is-stuck _ (means.ended input loose steps Stuck at e).ending }

pub lowers : Lowers
lowers p shaped plainly =
    let starts : Starts p = starts-plainly p shaped.objects plainly in
    (is-lowered shared_and_logged_loose p shaped refl refl starts, is-lowered shared_loose p shaped refl refl starts)

pub names-reach : NamesReach
names-reach p e = ap (λ (t : ℕ). let x : Element = record { variable = t; index = e.index } in x) (back-home (owners_of p) e.variable)
