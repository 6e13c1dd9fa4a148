-- A whole program as flat code, in both directions.
use Rattle.std.proofs.Common.{◌≡◌, ◌≢◌, ℕ, zero, suc, ◌+◌, ◌-◌, ◌*◌, ◌<◌, ◌≤◌, ◌⊎◌, inl, inr, false, List, [], ◌∷◌, ◌++◌, length, map, Some, arith, refl, sym, ◌∙◌, ap, subst, append_assoc, append-nil}
use Rattle.std.proofs.lemmas.Bool.{cases_lt}
use Rattle.std.proofs.lemmas.Option.{slice_get_within}
use Rattle.std.proofs.lemmas.List.{length-append}
use Rattle.std.specs.List.{slice_get}
use Rattle.execution.specs.Run.{Goes, Stops, and_then, state_of}
use Rattle.execution.specs.Traffic.{Element, Entry, Traffic, Extends}
use Rattle.execution.specs.Naming.{entry_named, traffic_named}
use Rattle.execution.proofs.NamingLemmas.{named-extends}
use Rattle.execution.proofs.RunLemmas.{run-+, run-ended, ends-one}
use Rattle.execution.proofs.TrafficLemmas.{extends-refl}
use Rattle.c_semantics.specs.ResolvedTree.{Function, Program}
use Rattle.c_semantics.specs.States as source
use Rattle.c_semantics.specs.States.{State, Outcome, GoesOn, EndsAs, tick}
use Rattle.c_semantics.specs.Meaning.{Calls, Meaning, with_function, calls_from, calls_of, no_calls, first_memory, first_state, outcome_of, meaning_of, mean}
use Rattle.c_semantics.specs.ProgramShape.{own_tokens}
use Rattle.ir_code.specs.declared.ops.Op.TheVariants as op
use Rattle.ir_code.specs.FlatStates as flat
use Rattle.ir_code.specs.FlatStates.{Held, Word, Link, FlatState, FlatEnd, Step, first_cells, first_flat, fetched}
use Rattle.ir_code.specs.FlatMeaning.{flat_step, flat_run}
use Rattle.ir_code.specs.FlatLaws.{IsLater}
use Rattle.ir_code.proofs.OnlyAdds.{steps-only-add}
use Rattle.lowering.specs.Cells.{room_in, cell_count}
use Rattle.lowering.specs.Lowering.{labels_of_function, function_code, functions_code}
use Rattle.lowering.specs.LoweringLaws.{EndsLike, IsFront, MeansAs}
use Rattle.lowering.proofs.Relation.{World, setting, element_back, steps_of, Frame, scope_of, FitsFrame, Bounds, At, StopsAs, Final, Sim, Spans, Parts, split, goes, follow, weaken}
use Rattle.lowering.proofs.Ops.{stops, calls}
use Rattle.lowering.proofs.Calling as call
use Rattle.lowering.proofs.Calling.{Callable, CallableFrom}
use Rattle.lowering.proofs.Expressions.{Env}
use Rattle.lowering.proofs.Functions.{FunctionFits, can-call, can-still}

-- ---- all functions

abbrev pub frame_of : ℕ → Function → Frame
frame_of cell f = record { private = f.private; link = cell + length (own_tokens f); top = cell + length (own_tokens f) + room_in f.body }

abbrev pub CanCallAll : World → Frame → Calls → List Function → Type 0
CanCallAll w a meant before = (g : ℕ) (f : Function) → slice_get before g ≡ Some f → CallableFrom w a meant g (length f.parameters)

-- what is wanted of a function after these, whose first cell is this one, once those before it can be called
pub record FitsNext (w : World) (before : List Function) (cell : ℕ) (f : Function) : Type 0 where
  pub fits : FitsFrame w (frame_of cell f)
  pub private : w.is_private (length before) ≡ f.private
  pub function : (meant : Calls) → CanCallAll w (frame_of cell f) meant before → FunctionFits (record { w = w; frame = frame_of cell f; calls = meant; fits = fits }) f

abbrev pub FunctionsFit : World → List Function → ℕ → List Function → Type 0
FunctionsFit w before cell [] = Unit {0}
FunctionsFit w before cell (f ∷ fs) = FitsNext w before cell f × FunctionsFit w (before ++ f ∷ []) (cell + cell_count f) fs

-- a function can be called from cells above this one
pub record Known (w : World) (meant : Calls) (cell g count : ℕ) : Type 0 where
  pub limit : ℕ
  pub below : limit < cell
  pub callable : Callable w meant g count limit

abbrev pub AllKnown : World → Calls → ℕ → List Function → Type 0
AllKnown w meant cell before = (g : ℕ) (f : Function) → slice_get before g ≡ Some f → Known w meant cell g (length f.parameters)

-- the last of a list, or one before it
last-or : (xs : List Function) (x : Function) (g : ℕ) (y : Function) → slice_get (xs ++ x ∷ []) g ≡ Some y → (slice_get xs g ≡ Some y) ⊎ ((g ≡ length xs) × (x ≡ y))
last-or [] x zero y e = inr (refl, grind (arith, e))
last-or [] x (suc g) y e = absurd (grind (arith, e))
last-or (z ∷ xs) x zero y e = inl e
last-or (z ∷ xs) x (suc g) y e = elim (last-or xs x g y e) [ inl h ↦ inl h | inr h ↦ inr (ap suc h.0, h.1) ]

pub all-known : (w : World) (fs before : List Function) (meant : Calls) (number cell label p q : ℕ) → number ≡ length before → FunctionsFit w before cell fs →
    Spans w p (functions_code w.home w.is_private number cell label fs) q → AllKnown w meant cell before →
    (end : ℕ) × AllKnown w (calls_from (setting w) meant number fs) end (before ++ fs)
all-known w [] before meant number cell label p q e fit code known = (cell, λ g f x. known g f (subst (λ (t : List Function). slice_get t g ≡ Some f) (append-nil before) x))
all-known w (f ∷ fs) before meant number cell label p q e fit code known =
    let rest : (end : ℕ) × AllKnown w (calls_from (setting w) (with_function (setting w) meant number f) (number + 1) fs) end ((before ++ f ∷ []) ++ fs) =
    all-known w fs (before ++ f ∷ []) (with_function (setting w) meant number f) (number + 1) (cell + cell_count f) (label + labels_of_function f) m.middle q (omega (arith, e, length-append before (f ∷ []))) fit.1 m.second next in
    (rest.0, subst (λ (t : List Function). AllKnown w (calls_from (setting w) (with_function (setting w) meant number f) (number + 1) fs) rest.0 t) (append_assoc before (f ∷ []) fs) rest.1)
  where
    m : Parts w p (function_code (scope_of w (frame_of cell f)) number (cell + length (own_tokens f)) label f) (functions_code w.home w.is_private (number + 1) (cell + cell_count f) (label + labels_of_function f) fs) q
    m = split w p (function_code (scope_of w (frame_of cell f)) number (cell + length (own_tokens f)) label f) (functions_code w.home w.is_private (number + 1) (cell + cell_count f) (label + labels_of_function f) fs) q code

    E : Env
    E = record { w = w; frame = frame_of cell f; calls = meant; fits = fit.0.fits }

    fits : FunctionFits E f
    fits = fit.0.function meant (λ g f' x. let k : Known w meant cell g (length f'.parameters) = known g f' x in record { limit = k.limit; below = omega (arith, k.below); callable = k.callable })

    this : Callable w (with_function (setting w) meant number f) number (length f.parameters) (cell + length (own_tokens f) + room_in f.body)
    this = can-call E f number label p m.middle fits (ap w.is_private e ∙ fit.0.private) m.first

    next : AllKnown w (with_function (setting w) meant number f) (cell + cell_count f) (before ++ f ∷ [])
    next g f' x = go (last-or before f g f' x)
      where
        go : (slice_get before g ≡ Some f') ⊎ ((g ≡ length before) × (f ≡ f')) → Known w (with_function (setting w) meant number f) (cell + cell_count f) g (length f'.parameters)
        go (inl y) =
            let k : Known w meant cell g (length f'.parameters) = known g f' y in
            record { limit = k.limit; below = omega (arith, k.below); callable = can-still w meant number f g (length f'.parameters) k.limit (let within : g < length before = slice_get_within before g f' y in omega (arith, e, within)) k.callable }
        go (inr y) =
            record {
              limit = cell + length (own_tokens f) + room_in f.body;
              below = omega arith;
              callable = subst (λ (t : ℕ). Callable w (with_function (setting w) meant number f) t (length f'.parameters) (cell + length (own_tokens f) + room_in f.body)) (e ∙ sym y.0)
                  (subst (λ (t : Function). Callable w (with_function (setting w) meant number f) number (length t.parameters) (cell + length (own_tokens f) + room_in f.body)) y.1 this);
            }

-- ---- the whole

-- a program with its flat code
pub record Laid (w : World) (p : Program) : Type 0 where
  pub label : ℕ
  pub cell : ℕ
  pub first : ℕ
  pub functions : FunctionsFit w [] cell p.functions
  pub code : Spans w first (functions_code w.home w.is_private 0 cell label p.functions) w.ir.entry
  -- the entry calls main, which takes nothing and is not private, and exits
  pub main : Function
  pub stands : slice_get p.functions p.main ≡ Some main
  pub bare : main.parameters ≡ []
  pub public : w.is_private p.main ≡ false
  pub call : slice_get w.ir.ops w.ir.entry ≡ Some (op.Call p.main)
  pub exit : slice_get w.ir.ops (w.ir.entry + 1) ≡ Some op.Exit
  pub memory : (t i : ℕ) → first_cells w.ir (w.home t) i ≡ Word (first_memory p.objects t i)

-- flat code has ended as the source has, or jumped so often that the source has no turn left
abbrev Finished : World → ℕ → Outcome ℕ → Step → Type 0
Finished w total (GoesOn value s) = StopsAs w flat.Ended s
Finished w total (EndsAs end s) = Final w total end s

record Finish (w : World) (total : ℕ) (o : Outcome ℕ) (f : FlatState) : Type 0 where
  steps : ℕ
  finished : Finished w total o (steps_of w steps f)

module _ (w : World) (p : Program) (laid : Laid w p) where
  name : Element → Element
  name = element_back w

  abbrev start : List ℕ → List (Entry Element) → FlatState
  start input loose = first_flat w.ir input loose

  abbrev source_start : List ℕ → List (Entry Element) → ℕ → State
  source_start input loose total = first_state p input (map (entry_named (element_back w)) loose) total

  finish : (input : List ℕ) (loose : List (Entry Element)) (total : ℕ) →
      Finish w total (outcome_of (setting w) p input (map (entry_named (element_back w)) loose) total) (start input loose)
  finish input loose total = go (outcome_of (setting w) p input (map (entry_named (element_back w)) loose) total) sim
    where
      s₀ : State
      s₀ = source_start input loose total

      f₀ : FlatState
      f₀ = start input loose

      known : (end : ℕ) × AllKnown w (calls_of (setting w) p.functions) end p.functions
      known = all-known w p.functions [] no_calls 0 laid.cell laid.label laid.first w.ir.entry refl laid.functions laid.code (λ g f x. absurd (grind (arith, x)))

      main : Known w (calls_of (setting w) p.functions) known.0 p.main (length laid.main.parameters)
      main = known.1 p.main laid.main laid.stands

      b : Bounds
      b = record { frame = record { private = false; link = known.0; top = known.0 }; total = total; above = known.0; contents = λ x. f₀.cells x 0 }

      begins : At w b 21 64 total w.ir.entry (tick (setting w) s₀) f₀
      begins = record {
        at_place = refl;
        traffic = refl;
        memory = laid.memory;
        kept = λ x y. refl;
        link_kept = refl;
        mode = refl;
        paid = omega arith;
        spared = omega arith;
        turns_left = omega arith;
      }

      P : ℕ → State → FlatState → Type 0
      P = call.Returned w b 8 64 total (w.ir.entry + 1)

      sim : Sim w total (outcome_of (setting w) p input (map (entry_named (element_back w)) loose) total) P f₀
      sim =
          calls w P (calls_of (setting w) p.functions p.main [] s₀) b p.main main.callable.entry 21 20 64 total w.ir.entry (tick (setting w) s₀) f₀ laid.call main.callable.stands (omega arith) begins
          (λ g hg cells slots link.
          follow w total (call.Returned w b 8 128 total (w.ir.entry + 1)) P (calls_of (setting w) p.functions p.main [] s₀) g
          (main.callable.runs b 8 128 total (w.ir.entry + 1) [] s₀ g (sym (ap length laid.bare)) (sym laid.public) (omega (arith, main.below)) main.below (omega arith)
          (weaken w b 20 (8 + 11 + 2 * length laid.main.parameters) 128 128 total total main.callable.entry (tick (setting w) s₀) g (let none : length laid.main.parameters ≡ 0 = ap length laid.bare in omega (arith, none)) (omega arith) (omega arith) hg) link tt)
          (λ v s g' r. goes w total P v s g' (record { at = weaken w b 8 8 128 64 total total (w.ir.entry + 1) s g' (omega arith) (omega arith) (omega arith) r.at; result = r.result })))

      go : (o : Outcome ℕ) → Sim w total o P f₀ → Finish w total o f₀
      go (EndsAs end s) x = record { steps = x.steps; finished = x.reaches }
      go (GoesOn v s) x = record { steps = x.steps + exits.steps; finished = subst (StopsAs w flat.Ended s) (sym joined) exits.reaches }
        where
          exits : Sim w total (EndsAs source.Ended s) P x.reaches.at
          exits = stops w P b source.Ended flat.Ended op.Exit 8 7 64 total (w.ir.entry + 1) s x.reaches.at refl laid.exit (omega arith) (x.reaches.holds).at refl

          joined : steps_of w (x.steps + exits.steps) f₀ ≡ steps_of w exits.steps x.reaches.at
          joined = run-+ (flat_step w.is_loose w.ir) x.steps exits.steps f₀ ∙ ap (λ (next : Step). and_then next (steps_of w exits.steps)) x.reaches.goes

-- where a run of so many steps has come to, next to the meaning: at its end, or where no turn is left
data Comes (w : World) (total : ℕ) (m : Meaning) (next : Step) : Type 0 where
  AtEnd : (end : FlatEnd) (at : FlatState) → next ≡ Stops end at → EndsLike (element_back w) m end at → Comes w total m next
  OutOfTurns : (at : FlatState) → next ≡ Goes at → m.end ≡ source.Turns → traffic_named (element_back w) at.traffic ≡ m.traffic → at.weight ≤ 32 * m.work → total < 64 * at.jumps + 64 → Comes w total m next

comes : (w : World) (total : ℕ) (o : Outcome ℕ) (next : Step) → Finished w total o next → Comes w total (meaning_of o) next
comes w total (GoesOn v s) next h = AtEnd flat.Ended h.at h.stops (record { ending = refl; traffic = h.traffic; weight = h.paid })
comes w total (EndsAs source.Ended s) next h = AtEnd flat.Ended h.at h.stops (record { ending = refl; traffic = h.traffic; weight = h.paid })
comes w total (EndsAs (source.Index at) s) next h = AtEnd (flat.Index at) h.at h.stops (record { ending = refl; traffic = h.traffic; weight = h.paid })
comes w total (EndsAs (source.Divide at) s) next h = AtEnd (flat.Divide at) h.at h.stops (record { ending = refl; traffic = h.traffic; weight = h.paid })
comes w total (EndsAs source.Starved s) next h = AtEnd flat.Starved h.at h.stops (record { ending = refl; traffic = h.traffic; weight = h.paid })
comes w total (EndsAs source.Turns s) next h = OutOfTurns h.at h.goes refl h.traffic h.paid h.spent

goes-not-stops : (next : Step) (f at : FlatState) (end : FlatEnd) → next ≡ Goes f → next ≡ Stops end at → ⊥
goes-not-stops next f at end x y = grind (arith, x, y)

module _ (w : World) where
  -- more steps come to a later state
  later : (few more : ℕ) (f : FlatState) → IsLater (state_of (steps_of w few f)) (state_of (steps_of w (few + more) f))
  later few more f = subst (λ (next : Step). IsLater (state_of (steps_of w few f)) (state_of next)) (sym (run-+ (flat_step w.is_loose w.ir) few more f)) (go (steps_of w few f))
    where
      go : (next : Step) → IsLater (state_of next) (state_of (and_then next (steps_of w more)))
      go (Goes g) = steps-only-add w.is_loose w.ir more g
      go (Stops end g) = record { traffic = extends-refl g.traffic; weight = omega arith; jumps = omega arith }

  later-by : (few steps : ℕ) (f : FlatState) → few ≤ steps → IsLater (state_of (steps_of w few f)) (state_of (steps_of w steps f))
  later-by few steps f below =
      let e : few + (steps - few) ≡ steps = omega (arith, below) in
      subst (λ (x : ℕ). IsLater (state_of (steps_of w few f)) (state_of (steps_of w x f))) e (later few (steps - few) f)

  -- after an end it stays there
  stays : (few steps : ℕ) (f at : FlatState) (end : FlatEnd) → few ≤ steps → steps_of w few f ≡ Stops end at → steps_of w steps f ≡ Stops end at
  stays few steps f at end below x =
      let e : few + (steps - few) ≡ steps = omega (arith, below) in
      subst (λ (y : ℕ). steps_of w y f ≡ Stops end at) e (run-ended (flat_step w.is_loose w.ir) few (steps - few) f at end x)

  front-at : (m : Meaning) (at f : FlatState) → traffic_named (element_back w) at.traffic ≡ m.traffic → at.weight ≤ 32 * m.work → IsLater f at → IsFront (element_back w) m f
  front-at m at f t x h = record {
    traffic = subst (λ (u : Traffic Element). Extends (traffic_named (element_back w) f.traffic) u) t (named-extends (element_back w) f.traffic at.traffic h.traffic);
    weight = omega (arith, x, h.weight);
  }

  -- a front of the meaning with 64 turns for each jump and 64 more
  front : (m : Meaning) (f₀ : FlatState) (steps most : ℕ) → Comes w (64 * ((state_of (steps_of w steps f₀)).jumps + 1)) m (steps_of w most f₀) → IsFront (element_back w) m (state_of (steps_of w steps f₀))
  front m f₀ steps most (AtEnd end at x h) = go (cases_lt most steps)
    where
      go : (most < steps) ⊎ (steps ≤ most) → IsFront (element_back w) m (state_of (steps_of w steps f₀))
      go (inl few) =
          subst (λ (next : Step). IsFront (element_back w) m (state_of next)) (sym (stays most steps f₀ at end (omega (arith, few)) x))
          (front-at m at at h.traffic h.weight (record { traffic = extends-refl at.traffic; weight = omega arith; jumps = omega arith }))
      go (inr few) =
          front-at m at (state_of (steps_of w steps f₀)) h.traffic h.weight
          (subst (λ (next : Step). IsLater (state_of (steps_of w steps f₀)) (state_of next)) x (later-by steps most f₀ few))
  front m f₀ steps most (OutOfTurns at x e t weight spent) = go (cases_lt most steps)
    where
      go : (most < steps) ⊎ (steps ≤ most) → IsFront (element_back w) m (state_of (steps_of w steps f₀))
      go (inl few) =
          let y : IsLater at (state_of (steps_of w steps f₀)) = subst (λ (next : Step). IsLater (state_of next) (state_of (steps_of w steps f₀))) x (later-by most steps f₀ (omega (arith, few))) in
          absurd (omega (arith, spent, y.jumps))
      go (inr few) =
          front-at m at (state_of (steps_of w steps f₀)) t weight (subst (λ (next : Step). IsLater (state_of (steps_of w steps f₀)) (state_of next)) x (later-by steps most f₀ few))

  -- where it has ended, so has the meaning
  same-end : (m : Meaning) (f₀ : FlatState) (steps most : ℕ) (end : FlatEnd) (at : FlatState) → steps_of w steps f₀ ≡ Stops end at → Comes w (64 * (at.jumps + 1)) m (steps_of w most f₀) → EndsLike (element_back w) m end at
  same-end m f₀ steps most end at x (AtEnd end' at' y h) =
      let same : (end' ≡ end) × (at' ≡ at) = ends-one (flat_step w.is_loose w.ir) most steps f₀ at' at end' end y x in
      subst (λ (z : FlatEnd). EndsLike (element_back w) m z at) same.0 (subst (λ (z : FlatState). EndsLike (element_back w) m end' z) same.1 h)
  same-end m f₀ steps most end at x (OutOfTurns at' y e t weight spent) = go (cases_lt most steps)
    where
      go : (most < steps) ⊎ (steps ≤ most) → EndsLike (element_back w) m end at
      go (inl few) =
          let z : IsLater at' at = subst (λ (next : Step). IsLater at' (state_of next)) x (subst (λ (next : Step). IsLater (state_of next) (state_of (steps_of w steps f₀))) y (later-by most steps f₀ (omega (arith, few)))) in
          absurd (omega (arith, spent, z.jumps))
      go (inr few) = absurd (goes-not-stops (steps_of w most f₀) at' at end y (stays steps most f₀ at end few x))

-- Flat code in which a program is laid does what the program means.
pub means-as : (w : World) (p : Program) → Laid w p → MeansAs w.is_loose p w.ir (element_back w)
means-as w p laid = record {
  forward = λ input loose turns more. ends-well input loose turns more (came input loose turns).0 (came input loose turns).1;
  backward = λ input loose steps.
      let c : (most : ℕ) × Comes w (64 * ((state_of (steps_of w steps (first_flat w.ir input loose))).jumps + 1)) (mean (setting w) p input (map (entry_named (element_back w)) loose) (64 * ((state_of (steps_of w steps (first_flat w.ir input loose))).jumps + 1))) (steps_of w most (first_flat w.ir input loose)) = came input loose (64 * ((state_of (steps_of w steps (first_flat w.ir input loose))).jumps + 1)) in
      front w (mean (setting w) p input (map (entry_named (element_back w)) loose) (64 * ((state_of (steps_of w steps (first_flat w.ir input loose))).jumps + 1))) (first_flat w.ir input loose) steps c.0 c.1;
  ended = λ input loose steps end at x.
      let c : (most : ℕ) × Comes w (64 * (at.jumps + 1)) (mean (setting w) p input (map (entry_named (element_back w)) loose) (64 * (at.jumps + 1))) (steps_of w most (first_flat w.ir input loose)) = came input loose (64 * (at.jumps + 1)) in
      same-end w (mean (setting w) p input (map (entry_named (element_back w)) loose) (64 * (at.jumps + 1))) (first_flat w.ir input loose) steps c.0 end at x c.1;
}
  where
    came : (input : List ℕ) (loose : List (Entry Element)) (total : ℕ) →
        (most : ℕ) × Comes w total (mean (setting w) p input (map (entry_named (element_back w)) loose) total) (steps_of w most (first_flat w.ir input loose))
    came input loose total =
        let h : Finish w total (outcome_of (setting w) p input (map (entry_named (element_back w)) loose) total) (first_flat w.ir input loose) = finish w p laid input loose total in
        (h.steps, comes w total (outcome_of (setting w) p input (map (entry_named (element_back w)) loose) total) (steps_of w h.steps (first_flat w.ir input loose)) h.finished)

    ends-well : (input : List ℕ) (loose : List (Entry Element)) (turns : ℕ) → (mean (setting w) p input (map (entry_named (element_back w)) loose) turns).end ≢ source.Turns → (most : ℕ) →
        Comes w turns (mean (setting w) p input (map (entry_named (element_back w)) loose) turns) (steps_of w most (first_flat w.ir input loose)) →
        (steps : ℕ) × (end : FlatEnd) × (at : FlatState) × (flat_run w.is_loose w.ir input loose steps ≡ Stops end at) × EndsLike (element_back w) (mean (setting w) p input (map (entry_named (element_back w)) loose) turns) end at
    ends-well input loose turns more most (AtEnd end at x h) = (most, end, at, x, h)
    ends-well input loose turns more most (OutOfTurns at x e t weight spent) = absurd (more e)
