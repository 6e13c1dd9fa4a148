-- Calls: what a function that can be called does, and how arguments come to it.
use Rattle.std.proofs.Common.{◌≡◌, ℕ, suc, ◌+◌, ◌-◌, ◌*◌, ◌<◌, ◌≤◌, Bool, true, false, cond, ◌==◌, List, [], ◌∷◌, length, Option, Some, arith, refl, sym, ◌∙◌, ap, subst}
use Rattle.std.proofs.lemmas.Bool.{eqb-true, eq-eqb}
use Rattle.std.specs.List.{slice_get}
use Rattle.aegis_num.specs.declared.limits.TheConstants.{MAX_PARAMETERS}
use Rattle.c_semantics.specs.ResolvedTree.{Arguments, NoArguments, Argument, Expr, Number, Scalar, Indexed, Called, Input, Unary, Binary, Both, Either}
use Rattle.c_semantics.specs.States.{State, Outcome, GoesOn, tick}
use Rattle.c_semantics.specs.Meaning.{Calls}
use Rattle.ir_code.specs.declared.ops.Op.TheVariants as op
use Rattle.ir_code.specs.FlatStates.{Held, Word, FlatState, filled}
use Rattle.lowering.specs.Cells.{room_of, room_of_all}
use Rattle.lowering.specs.Lowering.{passing, calling_by}
use Rattle.lowering.proofs.Relation.{World, setting, Frame, FitsFrame, Bounds, At, Sim, Spans, goes, follow, after, weaken, ticked, now, narrow, widen}
use Rattle.lowering.proofs.Ops.{passes, enters, leaves, calls, in_mode}

-- the words in the slots, from one on
abbrev pub SlotsHold : (ℕ → Option ℕ) → ℕ → List ℕ → Type 0
SlotsHold slots i [] = Unit {0}
SlotsHold slots i (v ∷ vs) = (slots i ≡ Some v) × SlotsHold slots (i + 1) vs

-- the words in temporaries, from one downward
abbrev pub HoldsDown : (ℕ → ℕ → Held) → ℕ → List ℕ → Type 0
HoldsDown cells r [] = Unit {0}
HoldsDown cells r (v ∷ vs) = (cells r 0 ≡ Word v) × HoldsDown cells (r - 1) vs

pub holds-same : (cells cells' : ℕ → ℕ → Held) (r : ℕ) (vs : List ℕ) → ((x : ℕ) → cells' x 0 ≡ cells x 0) → HoldsDown cells r vs → HoldsDown cells' r vs
holds-same cells cells' r [] e h = tt
holds-same cells cells' r (v ∷ vs) e h = (e r ∙ h.0, holds-same cells cells' (r - 1) vs e h.1)

-- a call has come back with a value
pub record Returned (w : World) (b : Bounds) (c k n ret v : ℕ) (s : State) (g : FlatState) : Type 0 where
  pub at : At w b c k n ret s g
  pub result : g.result ≡ Some v

-- A function that can be called: whatever is to be kept above its cells, it comes back with its value. The unit of work that its
-- call takes is done already.
pub record Callable (w : World) (calls : Calls) (number count limit : ℕ) : Type 0 where
  pub few : count ≤ MAX_PARAMETERS
  pub entry : ℕ
  pub stands : slice_get w.ir.ops entry ≡ Some (op.Label number)
  pub runs : (b : Bounds) (c k n ret : ℕ) (words : List ℕ) (s : State) (f : FlatState) → length words ≡ count → b.frame.private ≡ w.is_private number →
      limit ≤ b.above → limit < b.frame.link → 65 ≤ k → At w b (c + 11 + 2 * count) k n entry (tick (setting w) s) f → f.link ≡ Some ret → SlotsHold f.slots 0 words →
      Sim w b.total (calls number words s) (Returned w b c k n ret) f

-- one that stands before the function with this frame
pub record CallableFrom (w : World) (a : Frame) (calls : Calls) (number count : ℕ) : Type 0 where
  pub limit : ℕ
  pub below : limit < a.link
  pub callable : Callable w calls number count limit

abbrev pub count_of : Arguments → ℕ
count_of NoArguments = 0
count_of (Argument value later) = suc (count_of later)

-- ---- temporaries are enough

mutual
  pub room-positive : (e : Expr) → 1 ≤ room_of e
  room-positive (Number value) = omega arith
  room-positive (Scalar x) = omega arith
  room-positive (Indexed at array length index) = room-positive index
  room-positive (Called function arguments) = let h : count_of arguments + 1 ≤ room_of_all arguments = room-counts arguments in omega (arith, h)
  room-positive Input = omega arith
  room-positive (Unary op inner) = room-positive inner
  room-positive (Binary at op left right) = let h : 1 ≤ room_of left = room-positive left in omega (arith, h)
  room-positive (Both left right) = let h : 1 ≤ room_of left = room-positive left in omega (arith, h)
  room-positive (Either left right) = let h : 1 ≤ room_of left = room-positive left in omega (arith, h)

  pub room-counts : (arguments : Arguments) → count_of arguments + 1 ≤ room_of_all arguments
  room-counts NoArguments = omega arith
  room-counts (Argument value later) = let h : count_of later + 1 ≤ room_of_all later = room-counts later in omega (arith, h)

module _ (w : World) where
  -- ---- arguments go into slots

  pub passed : {A : Type 0} (P : A → State → FlatState → Type 0) (out : Outcome A) (b : Bounds) (arguments : Arguments) (vs : List ℕ) (i r c c' k n p q : ℕ) (s : State) (f : FlatState) →
      FitsFrame w b.frame → length vs ≡ count_of arguments → i + count_of arguments ≤ MAX_PARAMETERS → b.frame.link + room_of_all arguments ≤ r → r ≤ b.frame.top →
      c' + 2 * count_of arguments ≤ c → HoldsDown f.cells r vs → Spans w p (passing i r arguments) q → At w b c k n p s f →
      ((g : FlatState) → At w b c' k n q s g → ((x : ℕ) → g.cells x 0 ≡ f.cells x 0) → SlotsHold g.slots i vs → ((j : ℕ) → j < i → g.slots j ≡ f.slots j) → Sim w b.total out P g) →
      Sim w b.total out P f
  passed P out b NoArguments [] i r c c' k n p q s f fits count few low high more held code h later =
      later f (subst (λ (x : ℕ). At w b c' k n x s f) code (weaken w b c c' k k n n p s f (omega arith) (omega arith) (omega arith) h)) (λ x. refl) tt (λ j below. refl)
  passed P out b (Argument value rest) [] i r c c' k n p q s f fits count few low high more held code h later = absurd (omega (arith, count))
  passed P out b NoArguments (v ∷ vs) i r c c' k n p q s f fits count few low high more held code h later = absurd (omega (arith, count))
  passed {A} P out b (Argument value rest) (v ∷ vs) i r c c' k n p q s f fits count few low high more held code h later =
      passes w P out b i r v c (c' + 2 * count_of rest) k n p s f code.0 (omega (arith, more)) (omega (arith, few)) (fits.temps r (omega (arith, low, wide)) high) held.0 h
      (λ g hg same slots. passed P out b rest vs (i + 1) (r - 1) (c' + 2 * count_of rest) c' k n (p + 1) q s g fits (omega (arith, count)) (omega (arith, few)) (omega (arith, low, wide))
      (omega (arith, high)) (omega arith) (holds-same f.cells g.cells (r - 1) vs same held.1) code.1 hg
      (λ g' hg' same' slots' kept. later g' hg' (λ x. same' x ∙ same x)
      ((kept i (omega arith) ∙ ap (λ (t : ℕ → Option ℕ). t i) slots ∙ ap (λ (t : Bool). cond t (Some v) (f.slots i)) (eq-eqb i i refl)), slots')
      (λ j below. kept j (omega (arith, below)) ∙ ap (λ (t : ℕ → Option ℕ). t j) slots ∙ other f.slots i v j below)))
    where
      wide : 1 + room_of_all rest ≤ room_of_all (Argument value rest)
      wide = omega arith

      other : (slots : ℕ → Option ℕ) (i v j : ℕ) → j < i → filled slots i v j ≡ slots j
      other slots i v j below = go (i == j) refl
        where
          go : (t : Bool) → (i == j) ≡ t → cond t (Some v) (slots j) ≡ slots j
          go true e = absurd (omega (arith, below, eqb-true i j e))
          go false e = refl

  -- ---- the call itself

  pub called : (b : Bounds) (number count c c' k n p : ℕ) (words : List ℕ) (s : State) (f : FlatState) (meant : Calls) → CallableFrom w b.frame meant number count →
      length words ≡ count → b.frame.private ≡ w.is_private number → b.frame.link ≤ b.above → 1 ≤ k → c' + 1 ≤ c → slice_get w.ir.ops p ≡ Some (op.Call number) →
      SlotsHold f.slots 0 words → At w b c k n p s f → Sim w b.total (meant number words s) (Returned w b c' k n (p + 1)) f
  called b number count c c' k n p words s f meant can many same low room more st slots h =
      calls w (Returned w b c' k n (p + 1)) (meant number words s) b number can.callable.entry c c' k n p s f st can.callable.stands more h
      (λ g hg cells kept link.
      after w b.total (Returned w (now b can.limit g) c' (k + 64) n (p + 1)) (Returned w b c' k n (p + 1)) (meant number words s) g
      (can.callable.runs (now b can.limit g) c' (k + 64) n (p + 1) words s g many same (omega arith) can.below (omega (arith, room))
      (weaken w (now b can.limit g) (c' + 32) (c' + 11 + 2 * count) (k + 64) (k + 64) n n can.callable.entry (tick (setting w) s) g (omega (arith, can.callable.few)) (omega arith) (omega arith)
      (ticked w (now b can.limit g) c' (k + 64) n can.callable.entry s g (narrow w b can.limit c' (k + 64) n can.callable.entry s g hg))) link (subst (λ (t : ℕ → Option ℕ). SlotsHold t 0 words) (sym kept) slots))
      (λ v s' g' r. record {
        at = weaken w b c' c' (k + 64) k n n (p + 1) s' g' (omega arith) (omega arith) (omega arith)
            (widen w b can.limit c' (k + 64) n can.callable.entry c' (k + 64) n (p + 1) s s' g g' (let below : can.limit < b.frame.link = can.below in omega (arith, below, low)) hg r.at);
        result = r.result;
      }))

  -- back in the mode of the caller
  remode : (b : Bounds) (x y : Bool) (c k n p : ℕ) (s : State) (f : FlatState) → b.frame.private ≡ x → At w (in_mode w x (in_mode w y b)) c k n p s f → At w b c k n p s f
  remode b x y c k n p s f e h = record {
    at_place = h.at_place;
    traffic = h.traffic;
    memory = h.memory;
    kept = h.kept;
    link_kept = h.link_kept;
    mode = h.mode ∙ sym e;
    paid = h.paid;
    spared = h.spared;
    turns_left = h.turns_left;
  }

  -- a call with the changes of mode
  pub called-by : (b : Bounds) (number count c c' k n p q : ℕ) (words : List ℕ) (s : State) (f : FlatState) (meant : Calls) (caller callee : Bool) →
      ((x : Bool) → CallableFrom w (in_mode w x b).frame meant number count) → length words ≡ count → b.frame.private ≡ caller → w.is_private number ≡ callee →
      b.frame.link ≤ b.above → 1 ≤ k → c' + 3 ≤ c → Spans w p (calling_by caller callee number) q → SlotsHold f.slots 0 words → At w b c k n p s f →
      Sim w b.total (meant number words s) (Returned w b c' k n q) f
  called-by b number count c c' k n p q words s f meant true true can many one other low room more code slots h =
      subst (λ (x : ℕ). Sim w b.total (meant number words s) (Returned w b c' k n x) f) code.1
      (called b number count c c' k n p words s f meant (can b.frame.private) many (one ∙ sym other) low room (omega (arith, more)) code.0 slots h)
  called-by b number count c c' k n p q words s f meant false false can many one other low room more code slots h =
      subst (λ (x : ℕ). Sim w b.total (meant number words s) (Returned w b c' k n x) f) code.1
      (called b number count c c' k n p words s f meant (can b.frame.private) many (one ∙ sym other) low room (omega (arith, more)) code.0 slots h)
  called-by b number count c c' k n p q words s f meant false true can many one other low room more code slots h =
      enters w (Returned w b c' k n q) (meant number words s) b c (c' + 2) k n p s f code.0 (omega (arith, more)) one h
      (λ g hg same kept result.
      follow w b.total (Returned w (in_mode w true b) (c' + 1) k n (p + 1 + 1)) (Returned w b c' k n q) (meant number words s) g
      (called (in_mode w true b) number count (c' + 2) (c' + 1) k n (p + 1) words s g meant (can true) many (sym other) low room (omega arith) code.1.0
      (subst (λ (t : ℕ → Option ℕ). SlotsHold t 0 words) (sym kept) slots) hg)
      (λ v s' g' r. leaves w (Returned w b c' k n q) (GoesOn v s') (in_mode w true b) (c' + 1) c' k n (p + 1 + 1) s' g' code.1.1.0 (omega arith) refl r.at
      (λ g'' hg'' same'' kept'' result''. goes w b.total (Returned w b c' k n q) v s' g''
      (record { at = subst (λ (x : ℕ). At w b c' k n x s' g'') code.1.1.1 (remode b false true c' k n (p + 1 + 1 + 1) s' g'' one hg''); result = result'' ∙ r.result }))))
  called-by b number count c c' k n p q words s f meant true false can many one other low room more code slots h =
      leaves w (Returned w b c' k n q) (meant number words s) b c (c' + 2) k n p s f code.0 (omega (arith, more)) one h
      (λ g hg same kept result.
      follow w b.total (Returned w (in_mode w false b) (c' + 1) k n (p + 1 + 1)) (Returned w b c' k n q) (meant number words s) g
      (called (in_mode w false b) number count (c' + 2) (c' + 1) k n (p + 1) words s g meant (can false) many (sym other) low room (omega arith) code.1.0
      (subst (λ (t : ℕ → Option ℕ). SlotsHold t 0 words) (sym kept) slots) hg)
      (λ v s' g' r. enters w (Returned w b c' k n q) (GoesOn v s') (in_mode w false b) (c' + 1) c' k n (p + 1 + 1) s' g' code.1.1.0 (omega arith) refl r.at
      (λ g'' hg'' same'' kept'' result''. goes w b.total (Returned w b c' k n q) v s' g''
      (record { at = subst (λ (x : ℕ). At w b c' k n x s' g'') code.1.1.1 (remode b true false c' k n (p + 1 + 1 + 1) s' g'' one hg''); result = result'' ∙ r.result }))))
