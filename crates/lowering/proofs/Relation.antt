-- What ties a state of the source to a state of flat code, and how a stretch of flat code comes to what a stretch of the source does.
use Rattle.std.proofs.Common.{◌≡◌, ℕ, suc, ◌+◌, ◌*◌, ◌<◌, ◌≤◌, Bool, true, false, ◌==◌, List, [], ◌∷◌, ◌++◌, Some, arith, refl, sym, ◌∙◌, ap, subst}
use Rattle.std.specs.List.{slice_get}
use Rattle.execution.specs.Run.{Goes, Stops, and_then, run}
use Rattle.execution.specs.Traffic.{Element}
use Rattle.execution.specs.Naming.{traffic_named}
use Rattle.execution.proofs.RunLemmas.{run-+}
use Rattle.regions.specs.declared.rights.Access.TheVariants.{Read, Write}
use Rattle.regions.specs.declared.rights.Class.{Class}
use Rattle.regions.specs.Rights.{rights}
use Rattle.c_semantics.specs.declared.tree.Variable.{Variable}
use Rattle.c_semantics.specs.States as source
use Rattle.c_semantics.specs.States.{Setting, State, Outcome, GoesOn, EndsAs, then, choose, is_in, is_open}
use Rattle.c_semantics.specs.Meaning.{noting_all}
use Rattle.ir_code.specs.declared.code.Ir.{Ir}
use Rattle.ir_code.specs.declared.ops.Op.{Op}
use Rattle.ir_code.specs.declared.ops.Op.TheVariants as op
use Rattle.ir_code.specs.FlatStates as flat
use Rattle.ir_code.specs.FlatStates.{Held, Word, Link, FlatState, FlatEnd, Step, words_of, class_of, mode_of, is_shared, label_place}
use Rattle.ir_code.specs.FlatMeaning.{flat_step}
use Rattle.lowering.specs.Lowering.{Scope}

-- Flat code with the homes of variables in it. Each home leads back to its variable, and each label stands once.
pub record World : Type 0 where
  pub is_loose : Class → Bool
  pub ir : Ir
  pub home : ℕ → ℕ
  pub back : ℕ → ℕ
  pub is_private : ℕ → Bool
  pub back-home : (t : ℕ) → back (home t) ≡ t
  pub labels : (l p : ℕ) → slice_get ir.ops p ≡ Some (op.Label l) → label_place ir l ≡ Some p

abbrev pub setting : World → Setting
setting w = noting_all w.is_loose

abbrev pub element_back : World → Element → Element
element_back w e = record { variable = w.back e.variable; index = e.index }

abbrev pub steps_of : World → ℕ → FlatState → Step
steps_of w = run (flat_step w.is_loose w.ir)

-- the function whose code runs: whether it is private, the cell of its link, and its last temporary
pub record Frame : Type 0 where
  pub private : Bool
  pub link : ℕ
  pub top : ℕ

abbrev pub scope_of : World → Frame → Scope
scope_of w a = record { home = w.home; is_private = w.is_private; private = a.private }

-- a cell of one word for the use of a function, which no variable has
pub record IsTemp (w : World) (private : Bool) (c : ℕ) : Type 0 where
  pub one : words_of w.ir c ≡ 1
  pub held : w.is_loose (class_of w.ir c) ≡ false
  pub hidden : is_shared (class_of w.ir c) ≡ false
  pub readable : rights (mode_of private) (class_of w.ir c) Read ≡ true
  pub writable : rights (mode_of private) (class_of w.ir c) Write ≡ true
  pub apart : (t : ℕ) → w.home t ≡ c → ⊥

-- the temporaries of a function, and its link
pub record FitsFrame (w : World) (a : Frame) : Type 0 where
  pub temps : (c : ℕ) → a.link ≤ c → c ≤ a.top → IsTemp w a.private c

-- a variable with its cell, as the code of a function may read it
pub record IsVar (w : World) (a : Frame) (x : Variable) (n : ℕ) : Type 0 where
  pub words : words_of w.ir (w.home x.token) ≡ n
  pub loose : w.is_loose (class_of w.ir (w.home x.token)) ≡ is_in w.is_loose x.class
  pub shared : is_shared (class_of w.ir (w.home x.token)) ≡ is_in is_open x.class
  pub readable : rights (mode_of a.private) (class_of w.ir (w.home x.token)) Read ≡ true
  pub below : w.home x.token < a.link
  pub known : is_in w.is_loose x.class ≡ true → (c : ℕ) → (w.back (w.home x.token) == w.back c) ≡ (w.home x.token == c)

abbrev pub IsWritable : World → Frame → Variable → Type 0
IsWritable w a x = rights (mode_of a.private) (class_of w.ir (w.home x.token)) Write ≡ true

-- what is kept meanwhile: the cells above one, and the link
pub record Bounds : Type 0 where
  pub frame : Frame
  pub total : ℕ
  pub above : ℕ
  pub contents : ℕ → Held

-- A state of the source and one of flat code that stands at this place. So much weight may still be run for the work done, so
-- many turns may begin before the next jump, and so many are left at most.
pub record At (w : World) (b : Bounds) (credit slack turns place : ℕ) (s : State) (f : FlatState) : Type 0 where
  pub at_place : f.place ≡ place
  pub traffic : traffic_named (element_back w) f.traffic ≡ s.traffic
  pub memory : (t i : ℕ) → f.cells (w.home t) i ≡ Word (s.memory t i)
  pub kept : (c : ℕ) → b.above < c → f.cells c 0 ≡ b.contents c
  pub link_kept : f.cells b.frame.link 0 ≡ b.contents b.frame.link
  pub mode : f.private ≡ b.frame.private
  pub paid : f.weight + credit ≤ 32 * s.work
  pub spared : b.total + slack ≤ s.turns + 64 * f.jumps + 64
  pub turns_left : s.turns ≤ turns

-- ---- runs

-- flat code has ended so, at what the source has come to
pub record StopsAs (w : World) (end : FlatEnd) (s : State) (next : Step) : Type 0 where
  pub at : FlatState
  pub stops : next ≡ Stops end at
  pub traffic : traffic_named (element_back w) at.traffic ≡ s.traffic
  pub paid : at.weight ≤ 32 * s.work

-- the source has no turn left, and flat code has jumped so often
pub record RunsOut (w : World) (total : ℕ) (s : State) (next : Step) : Type 0 where
  pub at : FlatState
  pub goes : next ≡ Goes at
  pub traffic : traffic_named (element_back w) at.traffic ≡ s.traffic
  pub paid : at.weight ≤ 32 * s.work
  pub spent : total < 64 * at.jumps + 64

abbrev pub Final : World → ℕ → source.End → State → Step → Type 0
Final w total source.Ended = StopsAs w flat.Ended
Final w total (source.Index at) = StopsAs w (flat.Index at)
Final w total (source.Divide at) = StopsAs w (flat.Divide at)
Final w total source.Starved = StopsAs w flat.Starved
Final w total source.Turns = RunsOut w total

pub record GoesTo {A : Type 0} (P : A → State → FlatState → Type 0) (value : A) (s : State) (next : Step) : Type 0 where
  pub at : FlatState
  pub goes : next ≡ Goes at
  pub holds : P value s at

abbrev pub Reaches : {A : Type 0} → World → ℕ → (A → State → FlatState → Type 0) → Outcome A → Step → Type 0
Reaches w total P (GoesOn value s) = GoesTo P value s
Reaches w total P (EndsAs end s) = Final w total end s

-- In some number of steps flat code comes to what the source does, with a property where it goes on.
pub record Sim {A : Type 0} (w : World) (total : ℕ) (outcome : Outcome A) (P : A → State → FlatState → Type 0) (f : FlatState) : Type 0 where
  pub steps : ℕ
  pub reaches : Reaches w total P outcome (steps_of w steps f)

module _ (w : World) (total : ℕ) where
  pub goes : {A : Type 0} (P : A → State → FlatState → Type 0) (value : A) (s : State) (f : FlatState) → P value s f → Sim w total (GoesOn value s) P f
  goes P value s f h = record { steps = 0; reaches = record { at = f; goes = refl; holds = h } }

  -- one step, and what comes after it
  pub one-step : {A : Type 0} (P : A → State → FlatState → Type 0) (o : Outcome A) (f g : FlatState) → flat_step w.is_loose w.ir f ≡ Goes g → Sim w total o P g → Sim w total o P f
  one-step P o f g e h =
      record { steps = suc h.steps; reaches = subst (λ (next : Step). Reaches w total P o (and_then next (steps_of w h.steps))) (sym e) h.reaches }

  -- an end
  pub ends : {A : Type 0} (P : A → State → FlatState → Type 0) (end : source.End) (s : State) (f : FlatState) → Final w total end s (flat_step w.is_loose w.ir f) → Sim w total (EndsAs end s) P f
  ends P end s f h = record { steps = 1; reaches = subst (Final w total end s) (sym (once (flat_step w.is_loose w.ir f))) h }
    where
      once : (next : Step) → and_then next (steps_of w 0) ≡ next
      once (Goes g) = refl
      once (Stops e g) = refl

  pub runs-out : {A : Type 0} (P : A → State → FlatState → Type 0) (s : State) (f : FlatState) → RunsOut w total s (Goes f) → Sim w total (EndsAs source.Turns s) P f
  runs-out P s f h = record { steps = 0; reaches = h }

  -- first one stretch, then another
  pub bind : {A B : Type 0} (Q : A → State → FlatState → Type 0) (P : B → State → FlatState → Type 0) (o : Outcome A) (k : A → State → Outcome B) (f : FlatState) →
      Sim w total o Q f → ((value : A) (s : State) (g : FlatState) → Q value s g → Sim w total (k value s) P g) → Sim w total (then o k) P f
  bind Q P (GoesOn value s) k f h later =
      record { steps = h.steps + rest.steps; reaches = subst (Reaches w total P (k value s)) (sym joined) rest.reaches }
    where
      rest : Sim w total (k value s) P h.reaches.at
      rest = later value s h.reaches.at h.reaches.holds

      joined : steps_of w (h.steps + rest.steps) f ≡ steps_of w rest.steps h.reaches.at
      joined = run-+ (flat_step w.is_loose w.ir) h.steps rest.steps f ∙ ap (λ (next : Step). and_then next (steps_of w rest.steps)) h.reaches.goes
  bind Q P (EndsAs end s) k f h later = record { steps = h.steps; reaches = h.reaches }

  -- one outcome, to which flat code has to go on
  pub follow : {A : Type 0} (Q P : A → State → FlatState → Type 0) (o : Outcome A) (f : FlatState) →
      Sim w total o Q f → ((value : A) (s : State) (g : FlatState) → Q value s g → Sim w total (GoesOn value s) P g) → Sim w total o P f
  follow Q P (GoesOn value s) f h later = bind Q P (GoesOn value s) GoesOn f h later
  follow Q P (EndsAs end s) f h later = bind Q P (EndsAs end s) GoesOn f h later

  -- a choice that is made by a test
  pub by-choice : {A : Type 0} (P : A → State → FlatState → Type 0) (test : Bool) (one other : State → Outcome A) (s : State) (f : FlatState) →
      (test ≡ true → Sim w total (one s) P f) → (test ≡ false → Sim w total (other s) P f) → Sim w total (choose test one other s) P f
  by-choice P true one other s f h k = h refl
  by-choice P false one other s f h k = k refl

  -- what follows of what holds
  pub after : {A : Type 0} (Q P : A → State → FlatState → Type 0) (o : Outcome A) (f : FlatState) → Sim w total o Q f →
      ((value : A) (s : State) (g : FlatState) → Q value s g → P value s g) → Sim w total o P f
  after Q P (GoesOn value s) f h k = record { steps = h.steps; reaches = record { at = h.reaches.at; goes = h.reaches.goes; holds = k value s _ h.reaches.holds } }
  after Q P (EndsAs end s) f h k = record { steps = h.steps; reaches = h.reaches }

-- ---- code that stands

-- these operations stand from this place on, up to that one
abbrev pub Spans : World → ℕ → List Op → ℕ → Type 0
Spans w p [] q = p ≡ q
Spans w p (o ∷ ops) q = (slice_get w.ir.ops p ≡ Some o) × Spans w (p + 1) ops q

-- the place between two parts
pub record Parts (w : World) (p : ℕ) (one other : List Op) (q : ℕ) : Type 0 where
  pub middle : ℕ
  pub first : Spans w p one middle
  pub second : Spans w middle other q

pub split : (w : World) (p : ℕ) (one other : List Op) (q : ℕ) → Spans w p (one ++ other) q → Parts w p one other q
split w p [] other q h = record { middle = p; first = refl; second = h }
split w p (o ∷ one) other q h =
    let later : Parts w (p + 1) one other q = split w (p + 1) one other q h.1 in
    record { middle = later.middle; first = (h.0, later.first); second = later.second }

-- ---- less is enough

pub weaken : (w : World) (b : Bounds) (c c' k k' n n' p : ℕ) (s : State) (f : FlatState) → c' ≤ c → k' ≤ k → n ≤ n' → At w b c k n p s f → At w b c' k' n' p s f
weaken w b c c' k k' n n' p s f x y z h = record {
  at_place = h.at_place;
  traffic = h.traffic;
  memory = h.memory;
  kept = h.kept;
  link_kept = h.link_kept;
  mode = h.mode;
  paid = omega (arith, h.paid, x);
  spared = omega (arith, h.spared, y);
  turns_left = omega (arith, h.turns_left, z);
}

-- one unit of work
pub ticked : (w : World) (b : Bounds) (c k n p : ℕ) (s : State) (f : FlatState) → At w b c k n p s f → At w b (c + 32) k n p (source.tick (setting w) s) f
ticked w b c k n p s f h = record {
  at_place = h.at_place;
  traffic = h.traffic;
  memory = h.memory;
  kept = h.kept;
  link_kept = h.link_kept;
  mode = h.mode;
  paid = omega (arith, h.paid);
  spared = h.spared;
  turns_left = h.turns_left;
}

-- What the cells hold now, down to a lower bound, is kept; afterwards what was to be kept before has been kept.
abbrev pub now : Bounds → ℕ → FlatState → Bounds
now b above f = record b { above = above; contents = λ c. f.cells c 0 }

pub narrow : (w : World) (b : Bounds) (above c k n p : ℕ) (s : State) (f : FlatState) → At w b c k n p s f → At w (now b above f) c k n p s f
narrow w b above c k n p s f h = record {
  at_place = h.at_place;
  traffic = h.traffic;
  memory = h.memory;
  kept = λ c below. refl;
  link_kept = refl;
  mode = h.mode;
  paid = h.paid;
  spared = h.spared;
  turns_left = h.turns_left;
}

pub widen : (w : World) (b : Bounds) (above c k n p c' k' n' p' : ℕ) (s s' : State) (f g : FlatState) → above ≤ b.above →
    At w b c k n p s f → At w (now b above f) c' k' n' p' s' g → At w b c' k' n' p' s' g
widen w b above c k n p c' k' n' p' s s' f g below old h = record {
  at_place = h.at_place;
  traffic = h.traffic;
  memory = h.memory;
  kept = λ c x. h.kept c (omega (arith, x, below)) ∙ old.kept c x;
  link_kept = h.link_kept ∙ old.link_kept;
  mode = h.mode;
  paid = h.paid;
  spared = h.spared;
  turns_left = h.turns_left;
}
