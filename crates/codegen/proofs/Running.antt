-- Whole runs: the machine on the code of flat code, and flat code.
use Rattle.std.proofs.Common.{◌≡◌, ℕ, zero, suc, ◌+◌, ◌-◌, ◌^◌, ◌<◌, ◌≤◌, inl, inr, Bool, true, false, ◌&&◌, nat_lt, List, [], ◌∷◌, ◌++◌, length, Option, Some, None, arith, refl, sym, ◌∙◌, ap, subst}
use Rattle.std.proofs.lemmas.Bool.{true≢false, cases_lt}
use Rattle.std.specs.List.{slice_get}
use Rattle.execution.specs.Run.{Next, Goes, Stops, and_then, run, state_of}
use Rattle.execution.specs.Traffic.{Traffic, Extends}
use Rattle.execution.specs.Naming.{traffic_named}
use Rattle.execution.proofs.RunLemmas.{run-+, run-ended, ends-one, run-keeps}
use Rattle.execution.proofs.TrafficLemmas.{extends-refl}
use Rattle.ir_code.proofs.OnlyAdds.{weights-are-counted}
use Rattle.codegen.proofs.Jumping.{step-jumps}
use Rattle.aegis_num.specs.declared.limits.TheConstants.{MAX_PARAMETERS}
use Rattle.regions.specs.declared.Class.{Class}
use Rattle.regions.specs.declared.Class.TheVariants.{Open, Verified, Private, Constant, Code, Logged}
use Rattle.orbis_core.specs.Ideal as ideal
use Rattle.orbis_core.specs.Ideal.{Ideal, IdealEnd, ideal_step, from_entries}
use Rattle.orbis_core.specs.IdealLaws.{IsWholeState}
use Rattle.orbis_core.proofs.IdealLemmas.{run-extends}
use Rattle.orbis_core.proofs.WholeLemmas.{steps-whole, entries-give}
use Rattle.ir_code.specs.declared.Op.{Op}
use Rattle.ir_code.specs.declared.Op.TheVariants as op
use Rattle.ir_code.specs.OpTable.{weight_of, slots_of, link_cells}
use Rattle.ir_code.specs.FlatStates as flat
use Rattle.ir_code.specs.FlatStates.{FlatState, FlatEnd, Step, class_of, is_shared, fetched}
use Rattle.ir_code.specs.FlatMeaning.{at_op, flat_step}
use Rattle.ir_code.specs.Lawful.{HasForm, all_hold, named_by, keeps_links}
use Rattle.codegen.specs.OpInstructions.{instructions_of}
use Rattle.codegen.specs.ImageCode.{offset_of}
use Rattle.codegen.specs.EmittedImage.{machine_end}
use Rattle.codegen.proofs.Comes.{World, Fits, HasCode, sites, standing, Related, Comes, ComesTo, AtLeast, address_of, steps_of}
use Rattle.codegen.proofs.Ops.{Here, Does, takes_step, const, copy, unary-op, binary-op, test, non-zero, load, store, label, jump, jump-zero, arg, param, call, save-link, return, set-result, result, input, release, check, suspend, set-private, set-public, exit}

-- ---- what the form says of an operation

first-of : (s t : Bool) → (s && t) ≡ true → s ≡ true
first-of true t e = refl
first-of false t e = e

second-of : (s t : Bool) → (s && t) ≡ true → t ≡ true
second-of true t e = e
second-of false t e = absurd (grind (arith, e))

hold-front : (test : ℕ → Bool) (xs ys : List ℕ) → all_hold test (xs ++ ys) ≡ true → all_hold test xs ≡ true
hold-front test [] ys e = refl
hold-front test (x ∷ xs) ys e =
    let here : test x ≡ true = first-of (test x) (all_hold test (xs ++ ys)) e in
    ap (λ (b : Bool). b && all_hold test xs) here ∙ hold-front test xs ys (second-of (test x) (all_hold test (xs ++ ys)) e)

hold-back : (test : ℕ → Bool) (xs ys : List ℕ) → all_hold test (xs ++ ys) ≡ true → all_hold test ys ≡ true
hold-back test [] ys e = e
hold-back test (x ∷ xs) ys e = hold-back test xs ys (second-of (test x) (all_hold test (xs ++ ys)) e)

none-there : (o : Op) → None ≡ Some o → ⊥
none-there o e = absurd (grind (arith, e))

same-op : (one other : Op) → Some one ≡ Some other → one ≡ other
same-op one other e = cc

pub hold-named : (test : ℕ → Bool) (names : Op → List ℕ) (ops : List Op) (place : ℕ) (o : Op) → all_hold test (named_by names ops) ≡ true → slice_get ops place ≡ Some o → all_hold test (names o) ≡ true
hold-named test names [] place o e there = absurd (none-there o there)
hold-named test names (p ∷ ops) zero o e there = ap (λ (q : Op). all_hold test (names q)) (sym (same-op p o there)) ∙ hold-front test (names p) (named_by names ops) e
hold-named test names (p ∷ ops) (suc place) o e there = hold-named test names ops place o (hold-back test (names p) (named_by names ops) e) there

kept-hidden : (class : Class) → keeps_links class ≡ true → is_shared class ≡ false
kept-hidden Open e = absurd (true≢false (sym e))
kept-hidden Verified e = refl
kept-hidden Private e = refl
kept-hidden Constant e = refl
kept-hidden Code e = refl
kept-hidden Logged e = refl

-- ---- one step

-- flat code with its instructions in place
pub record Laid (w : World) : Type 0 where
  pub fits : Fits w
  pub form : HasForm w.ir
  pub stands : (place : ℕ) (o : Op) → slice_get w.ir.ops place ≡ Some o →
      HasCode w (address_of w place) (instructions_of (sites w) (offset_of w.ir.ops place) o) (address_of w (place + 1))

module _ (w : World) (l : Laid w) where
  does : (f : FlatState) (o : Op) → slice_get w.ir.ops f.place ≡ Some o → Does w f o
  does f (op.Const to value) there = const w l.fits f to value
  does f (op.Copy to from) there = copy w l.fits f to from
  does f (op.Unary o to a) there = unary-op w l.fits f o to a
  does f (op.Binary o to a b) there = binary-op w l.fits f o to a b
  does f (op.Test a length token) there = test w l.fits f a length token
  does f (op.NonZero a token) there = non-zero w l.fits f a token
  does f (op.Load to array index) there = load w l.fits f to array index
  does f (op.Store array index from) there = store w l.fits f array index from
  does f (op.Label n) there = label w l.fits f n
  does f (op.Jump n) there = jump w l.fits f n
  does f (op.JumpZero a n) there = jump-zero w l.fits f a n
  does f (op.Arg slot from) there =
      arg w l.fits f slot from (first-of (nat_lt slot MAX_PARAMETERS) true (hold-named (λ n. nat_lt n MAX_PARAMETERS) slots_of w.ir.ops f.place (op.Arg slot from) l.form.slots_there there))
  does f (op.Param to slot) there =
      param w l.fits f to slot (first-of (nat_lt slot MAX_PARAMETERS) true (hold-named (λ n. nat_lt n MAX_PARAMETERS) slots_of w.ir.ops f.place (op.Param to slot) l.form.slots_there there))
  does f (op.Call n) there = call w l.fits f n
  does f (op.SaveLink c) there =
      save-link w l.fits f c (kept-hidden (class_of w.ir c)
      (first-of (keeps_links (class_of w.ir c)) true (hold-named (λ n. keeps_links (class_of w.ir n)) link_cells w.ir.ops f.place (op.SaveLink c) l.form.links_kept there)))
  does f (op.Return c) there = return w l.fits f c
  does f (op.SetResult from) there = set-result w l.fits f from
  does f (op.Result to) there = result w l.fits f to
  does f (op.Input to) there = input w l.fits f to
  does f (op.Release a) there = release w l.fits f a
  does f op.Check there = check w l.fits f
  does f op.Suspend there = suspend w l.fits f
  does f (op.SetMode true) there = set-private w l.fits f
  does f (op.SetMode false) there = set-public w l.fits f
  does f op.Exit there = exit w l.fits f

  -- an operation that is run
  pub step-comes : (f : FlatState) (s : Ideal) (o : Op) → Related w f s → IsWholeState s → slice_get w.ir.ops f.place ≡ Some o → Comes w (takes_step o) (weight_of o) s (flat_step w.loose w.ir f)
  step-comes f s o x whole there =
      let memory : s.memory ≡ x.memory = ap (λ (t : Ideal). t.memory) x.is in
      let here : Here w f o x.registers x.memory = record {
        tied = x.tied;
        small = λ a. subst (λ (m : ℕ → ℕ). m a < 2 ^ 32) memory (whole.words a);
        handed = x.handed;
        code = l.stands f.place o there;
      } in
      subst (λ (t : Ideal). Comes w (takes_step o) (weight_of o) t (flat_step w.loose w.ir f)) (sym x.is)
      (subst (λ (n : Step). Comes w (takes_step o) (weight_of o) (standing w (address_of w f.place) x.flag x.registers f x.memory) n) (sym (ap (λ (found : Option Op). at_op w.loose w.ir found f) there))
      (does f o there x.flag x.registers x.memory here))

-- ---- the machine after a step of flat code

-- in so many steps, and at least one where one is asked for
pub record Stepped (w : World) (f : FlatState) (s : Ideal) (lo : Bool) (hi : ℕ) (g : FlatState) : Type 0 where
  pub n : ℕ
  pub few : n ≤ hi
  pub moved : AtLeast lo n
  pub to : Ideal
  pub ran : steps_of w n s ≡ Goes to
  pub related : Related w g to
  pub whole : IsWholeState to

pub record Finished (w : World) (s : Ideal) (lo : Bool) (hi : ℕ) (end : FlatEnd) (g : FlatState) : Type 0 where
  pub n : ℕ
  pub few : n ≤ hi
  pub moved : AtLeast lo n
  pub final : IdealEnd
  pub to : Ideal
  pub ran : steps_of w n s ≡ Stops final to
  pub ending : machine_end end ≡ Some final
  pub traffic : to.traffic ≡ traffic_named w.name g.traffic

abbrev pub Outcome : World → FlatState → Ideal → Bool → ℕ → Step → Type 0
Outcome w f s lo hi (Goes g) = Stepped w f s lo hi g
Outcome w f s lo hi (Stops flat.Stuck g) = Unit {0}
Outcome w f s lo hi (Stops flat.Ended g) = Finished w s lo hi flat.Ended g
Outcome w f s lo hi (Stops (flat.Index at) g) = Finished w s lo hi (flat.Index at) g
Outcome w f s lo hi (Stops (flat.Divide at) g) = Finished w s lo hi (flat.Divide at) g
Outcome w f s lo hi (Stops flat.Starved g) = Finished w s lo hi flat.Starved g

module _ (w : World) where
  stay-whole : (n : ℕ) (s : Ideal) → IsWholeState s → IsWholeState (state_of (steps_of w n s))
  stay-whole n s whole =
      run-keeps (ideal_step w.layout w.loose) IsWholeState (λ t h. steps-whole w.layout (from_entries w.loose) t (entries-give w.loose) h) n s whole

  pub outcome : (f : FlatState) (s : Ideal) (lo : Bool) (hi : ℕ) (next : Step) → IsWholeState s → ComesTo w lo hi s next → Outcome w f s lo hi next
  outcome f s lo hi (Goes g) whole x =
      record { n = x.n; few = x.few; moved = x.moved; to = x.to; ran = x.ran; related = x.related; whole = subst (λ (n : Next Ideal IdealEnd). IsWholeState (state_of n)) x.ran (stay-whole x.n s whole) }
  outcome f s lo hi (Stops flat.Stuck g) whole x = tt
  outcome f s lo hi (Stops flat.Ended g) whole x = record { n = x.n; few = x.few; moved = x.moved; final = ideal.Ended; to = x.to; ran = x.ran; ending = refl; traffic = x.traffic }
  outcome f s lo hi (Stops (flat.Index at) g) whole x = record { n = x.n; few = x.few; moved = x.moved; final = ideal.Index at; to = x.to; ran = x.ran; ending = refl; traffic = x.traffic }
  outcome f s lo hi (Stops (flat.Divide at) g) whole x = record { n = x.n; few = x.few; moved = x.moved; final = ideal.Divide at; to = x.to; ran = x.ran; ending = refl; traffic = x.traffic }
  outcome f s lo hi (Stops flat.Starved g) whole x = record { n = x.n; few = x.few; moved = x.moved; final = ideal.Starved; to = x.to; ran = x.ran; ending = refl; traffic = x.traffic }

  -- an end that is not stuck
  pub finished : (f : FlatState) (s : Ideal) (lo : Bool) (hi : ℕ) (end : FlatEnd) (g : FlatState) → (end ≡ flat.Stuck → ⊥) → Outcome w f s lo hi (Stops end g) → Finished w s lo hi end g
  finished f s lo hi flat.Stuck g never x = absurd (never refl)
  finished f s lo hi flat.Ended g never x = x
  finished f s lo hi (flat.Index at) g never x = x
  finished f s lo hi (flat.Divide at) g never x = x
  finished f s lo hi flat.Starved g never x = x

-- no run from a state is stuck
abbrev pub NeverStuck : World → FlatState → Type 0
NeverStuck w f = (n : ℕ) (at : FlatState) → run (flat_step w.loose w.ir) n f ≡ Stops flat.Stuck at → ⊥

module _ (w : World) (l : Laid w) where
  -- an operation stands where a run is not stuck
  pub op-there : (f : FlatState) → NeverStuck w f → (o : Op) × (slice_get w.ir.ops f.place ≡ Some o)
  op-there f never = go (slice_get w.ir.ops f.place) refl
    where
      go : (found : Option Op) → slice_get w.ir.ops f.place ≡ found → (o : Op) × (slice_get w.ir.ops f.place ≡ Some o)
      go None e = absurd (never 1 f (ap (λ (x : Option Op). and_then (at_op w.loose w.ir x f) (run (flat_step w.loose w.ir) 0)) e))
      go (Some o) e = (o, e)

  pub never-after : (f g : FlatState) → flat_step w.loose w.ir f ≡ Goes g → NeverStuck w f → NeverStuck w g
  never-after f g e never n at h = never (suc n) at (ap (λ (x : Step). and_then x (run (flat_step w.loose w.ir) n)) e ∙ h)

  stuck-not : (f g : FlatState) (end : FlatEnd) → flat_step w.loose w.ir f ≡ Stops end g → NeverStuck w f → end ≡ flat.Stuck → ⊥
  stuck-not f g end e never is =
      never 1 g (ap (λ (x : Step). and_then x (run (flat_step w.loose w.ir) 0)) e ∙ ap (λ (x : FlatEnd). Stops x g) is)

  counted : (f g : FlatState) (o : Op) (next : Step) → slice_get w.ir.ops f.place ≡ Some o → flat_step w.loose w.ir f ≡ next → (state_of next).weight ≡ f.weight + weight_of o
  counted f g o next there e = subst (λ (x : Step). (state_of x).weight ≡ f.weight + weight_of o) e (weights-are-counted w.loose w.ir o f there)

  joined : (m n : ℕ) (s t : Ideal) (next : Next Ideal IdealEnd) → steps_of w m s ≡ Goes t → steps_of w n t ≡ next → steps_of w (m + n) s ≡ next
  joined m n s t next e e' =
      run-+ (ideal_step w.layout w.loose) m n s ∙ ap (λ (x : Next Ideal IdealEnd). and_then x (steps_of w n)) e ∙ e'

  goes-on : (f at : FlatState) (end : FlatEnd) → Goes f ≡ Stops end at → ⊥
  goes-on f at end e = absurd (grind (arith, e))

  same-end : (one other : FlatEnd) (f g : FlatState) → Stops one f ≡ Stops other g → (one ≡ other) × (f ≡ g)
  same-end one other f g e = ((cc), (cc))

  -- where flat code ends the machine does, in as many steps as the weight says or fewer
  pub forwards : (n : ℕ) (f : FlatState) (s : Ideal) (end : FlatEnd) (at : FlatState) → Related w f s → IsWholeState s → NeverStuck w f → run (flat_step w.loose w.ir) n f ≡ Stops end at →
      (hi : ℕ) × Finished w s false hi end at × (hi + f.weight ≤ at.weight)
  forwards zero f s end at related whole never e = absurd (goes-on f at end e)
  forwards (suc n) f s end at related whole never e =
      let it = op-there f never in
      go it.0 it.1 (flat_step w.loose w.ir f) refl e (outcome w f s (takes_step it.0) (weight_of it.0) (flat_step w.loose w.ir f) whole (step-comes w l f s it.0 related whole it.1).comes)
      (λ g to. forwards n g to end at)
    where
      go : (o : Op) → slice_get w.ir.ops f.place ≡ Some o → (next : Step) → flat_step w.loose w.ir f ≡ next → and_then next (run (flat_step w.loose w.ir) n) ≡ Stops end at →
          Outcome w f s (takes_step o) (weight_of o) next →
          ((g : FlatState) (to : Ideal) → Related w g to → IsWholeState to → NeverStuck w g → run (flat_step w.loose w.ir) n g ≡ Stops end at → (hi : ℕ) × Finished w to false hi end at × (hi + g.weight ≤ at.weight)) →
          (hi : ℕ) × Finished w s false hi end at × (hi + f.weight ≤ at.weight)
      go o there (Goes g) e' ended x later =
          let r = later g x.to x.related x.whole (never-after f g e' never) ended in
          let weight : g.weight ≡ f.weight + weight_of o = counted f g o (Goes g) there e' in
          let few : x.n ≤ weight_of o = x.few in
          let few' : r.1.n ≤ r.0 = r.1.few in
          let bound : r.0 + g.weight ≤ at.weight = r.2 in (
            x.n + r.0,
            record { n = x.n + r.1.n; few = omega (arith, few, few'); moved = tt; final = r.1.final; to = r.1.to; ran = joined x.n r.1.n s x.to (Stops r.1.final r.1.to) x.ran r.1.ran; ending = r.1.ending; traffic = r.1.traffic },
            omega (arith, few, weight, bound),
          )
      go o there (Stops final g) e' ended x later =
          let same = same-end final end g at ended in
          let fin = finished w f s (takes_step o) (weight_of o) final g (stuck-not f g final e' never) x in
          let weight : g.weight ≡ f.weight + weight_of o = counted f g o (Stops final g) there e' in
          let weights : g.weight ≡ at.weight = ap (λ (y : FlatState). y.weight) same.1 in (
            weight_of o,
            record {
              n = fin.n;
              few = fin.few;
              moved = tt;
              final = fin.final;
              to = fin.to;
              ran = fin.ran;
              ending = ap machine_end (sym same.0) ∙ fin.ending;
              traffic = fin.traffic ∙ ap (λ (y : FlatState). traffic_named w.name y.traffic) same.1;
            },
            omega (arith, weight, weights),
          )

-- ---- and back

-- after so many steps of the machine flat code comes to where the machine is, or further, with at most one jump a step
pub record Back (w : World) (f : FlatState) (s : Ideal) (k : ℕ) : Type 0 where
  pub ops : ℕ
  pub jumped : (state_of (run (flat_step w.loose w.ir) ops f)).jumps ≤ f.jumps + k
  pub traffic : Extends (state_of (steps_of w k s)).traffic (traffic_named w.name (state_of (run (flat_step w.loose w.ir) ops f)).traffic)
  pub ended : (final : IdealEnd) (t : Ideal) → steps_of w k s ≡ Stops final t →
      (end : FlatEnd) × (at : FlatState) × (run (flat_step w.loose w.ir) ops f ≡ Stops end at) × (machine_end end ≡ Some final) × (t.traffic ≡ traffic_named w.name at.traffic)

module _ (w : World) (l : Laid w) where
  ideal-goes : (s t : Ideal) (final : IdealEnd) → Goes s ≡ Stops final t → ⊥
  ideal-goes s t final e = absurd (grind (arith, e))

  front-of : (k j : ℕ) (s : Ideal) → Extends (state_of (steps_of w k s)).traffic (state_of (steps_of w (k + j) s)).traffic
  front-of k j s = run-extends w.layout w.loose k j s

  -- where the operation ends the run
  back-stops : (f g : FlatState) (s : Ideal) (lo : Bool) (hi k : ℕ) (end : FlatEnd) → flat_step w.loose w.ir f ≡ Stops end g → Finished w s lo hi end g → Back w f s (suc k)
  back-stops f g s lo hi k end e fin =
      let once : (state_of (flat_step w.loose w.ir f)).jumps ≤ f.jumps + 1 = step-jumps w.loose w.ir f in
      let one : run (flat_step w.loose w.ir) 1 f ≡ Stops end g = ap (λ (x : Step). and_then x (run (flat_step w.loose w.ir) 0)) e in
      let jumps : g.jumps ≤ f.jumps + 1 = subst (λ (x : Step). (state_of x).jumps ≤ f.jumps + 1) e once in
      let long : steps_of w (suc k + fin.n) s ≡ Stops fin.final fin.to =
      subst (λ (n : ℕ). steps_of w n s ≡ Stops fin.final fin.to) (omega arith) (run-ended (ideal_step w.layout w.loose) fin.n (suc k) s fin.to fin.final fin.ran) in
      let front : Extends (state_of (steps_of w (suc k) s)).traffic fin.to.traffic =
      subst (λ (x : Next Ideal IdealEnd). Extends (state_of (steps_of w (suc k) s)).traffic (state_of x).traffic) long (front-of (suc k) fin.n s) in
      record {
        ops = 1;
        jumped = subst (λ (x : Step). (state_of x).jumps ≤ f.jumps + suc k) (sym one) (omega (arith, jumps));
        traffic = subst (λ (x : Step). Extends (state_of (steps_of w (suc k) s)).traffic (traffic_named w.name (state_of x).traffic)) (sym one)
            (subst (λ (t : Traffic ℕ). Extends (state_of (steps_of w (suc k) s)).traffic t) fin.traffic front);
        ended = λ final t ran. let both = ends-one (ideal_step w.layout w.loose) fin.n (suc k) s fin.to t fin.final final fin.ran ran in
            (end, g, one, fin.ending ∙ ap (λ (x : IdealEnd). Some x) both.0, ap (λ (x : Ideal). x.traffic) (sym both.1) ∙ fin.traffic);
      }

  traffic-of : (g : FlatState) (to : Ideal) → Related w g to → to.traffic ≡ traffic_named w.name g.traffic
  traffic-of g to x = ap (λ (t : Ideal). t.traffic) x.is

  -- where the machine has not come to the end of the operation
  back-within : (f g : FlatState) (s : Ideal) (lo : Bool) (hi k : ℕ) → flat_step w.loose w.ir f ≡ Goes g → (x : Stepped w f s lo hi g) → suc k ≤ x.n → Back w f s (suc k)
  back-within f g s lo hi k e x inside =
      let once : (state_of (flat_step w.loose w.ir f)).jumps ≤ f.jumps + 1 = step-jumps w.loose w.ir f in
      let one : run (flat_step w.loose w.ir) 1 f ≡ Goes g = ap (λ (y : Step). and_then y (run (flat_step w.loose w.ir) 0)) e in
      let jumps : g.jumps ≤ f.jumps + 1 = subst (λ (y : Step). (state_of y).jumps ≤ f.jumps + 1) e once in
      let whole : suc k + (x.n - suc k) ≡ x.n = omega (arith, inside) in
      let front : Extends (state_of (steps_of w (suc k) s)).traffic x.to.traffic =
      subst (λ (y : Next Ideal IdealEnd). Extends (state_of (steps_of w (suc k) s)).traffic (state_of y).traffic) (ap (λ (n : ℕ). steps_of w n s) whole ∙ x.ran) (front-of (suc k) (x.n - suc k) s) in
      record {
        ops = 1;
        jumped = subst (λ (y : Step). (state_of y).jumps ≤ f.jumps + suc k) (sym one) (omega (arith, jumps));
        traffic = subst (λ (y : Step). Extends (state_of (steps_of w (suc k) s)).traffic (traffic_named w.name (state_of y).traffic)) (sym one)
            (subst (λ (t : Traffic ℕ). Extends (state_of (steps_of w (suc k) s)).traffic t) (traffic-of g x.to x.related) front);
        ended = λ final t ran. absurd (ideal-goes x.to t final (sym x.ran ∙ ap (λ (n : ℕ). steps_of w n s) (sym whole) ∙ run-ended (ideal_step w.layout w.loose) (suc k) (x.n - suc k) s t final ran));
      }

  -- where it has
  back-beyond : (f g : FlatState) (s : Ideal) (lo : Bool) (hi k : ℕ) → flat_step w.loose w.ir f ≡ Goes g → (x : Stepped w f s lo hi g) → x.n ≤ k → g.jumps ≤ f.jumps + x.n → Back w g x.to (k - x.n) → Back w f s k
  back-beyond f g s lo hi k e x inside jumps r =
      let whole : x.n + (k - x.n) ≡ k = omega (arith, inside) in
      let more : run (flat_step w.loose w.ir) (suc r.ops) f ≡ run (flat_step w.loose w.ir) r.ops g = ap (λ (y : Step). and_then y (run (flat_step w.loose w.ir) r.ops)) e in
      let ran : steps_of w k s ≡ steps_of w (k - x.n) x.to = ap (λ (n : ℕ). steps_of w n s) (sym whole) ∙ joined w l x.n (k - x.n) s x.to (steps_of w (k - x.n) x.to) x.ran refl in
      let jumped : (state_of (run (flat_step w.loose w.ir) r.ops g)).jumps ≤ g.jumps + (k - x.n) = r.jumped in
      record {
        ops = suc r.ops;
        jumped = subst (λ (y : Step). (state_of y).jumps ≤ f.jumps + k) (sym more) (omega (arith, jumped, jumps, inside));
        traffic = subst (λ (y : Step). Extends (state_of (steps_of w k s)).traffic (traffic_named w.name (state_of y).traffic)) (sym more)
            (subst (λ (y : Next Ideal IdealEnd). Extends (state_of y).traffic (traffic_named w.name (state_of (run (flat_step w.loose w.ir) r.ops g)).traffic)) (sym ran) r.traffic);
        ended = λ final t h. let z = r.ended final t (sym ran ∙ h) in (z.0, z.1, more ∙ z.2, z.3, z.4);
      }

  back-none : (f : FlatState) (s : Ideal) → Related w f s → Back w f s 0
  back-none f s x = record {
    ops = 0;
    jumped = omega arith;
    traffic = subst (λ (t : Traffic ℕ). Extends s.traffic t) (traffic-of f s x) (extends-refl s.traffic);
    ended = λ final t h. absurd (ideal-goes s t final h);
  }

  abbrev Earlier : ℕ → Type 0
  Earlier most = (k : ℕ) → k < most → (f : FlatState) (s : Ideal) → Related w f s → IsWholeState s → NeverStuck w f → Back w f s k

  beyond-none : (ops : List Op) (place : ℕ) (o : Op) → length ops ≤ place → slice_get ops place ≡ Some o → ⊥
  beyond-none [] place o far e = none-there o e
  beyond-none (p ∷ ops) zero o far e = omega (arith, far)
  beyond-none (p ∷ ops) (suc place) o far e = beyond-none ops place o (omega (arith, far)) e

  is-moved : (lo : Bool) (n : ℕ) → lo ≡ true → AtLeast lo n → 1 ≤ n
  is-moved true n e h = h
  is-moved false n e h = absurd (true≢false (sym e))

  abbrev gone : FlatState → Step
  gone f = Goes f

  same-state : (f g : FlatState) → gone f ≡ gone g → f ≡ g
  same-state f g e = cc

  -- an operation without instructions is a label
  label-step : (f g : FlatState) (o : Op) → takes_step o ≡ false → slice_get w.ir.ops f.place ≡ Some o → flat_step w.loose w.ir f ≡ Goes g → (g.place ≡ f.place + 1) × (g.jumps ≡ f.jumps) × (weight_of o ≡ 0)
  label-step f g (op.Label n) m there e =
      let same : fetched (op.Label n) f ≡ g = same-state (fetched (op.Label n) f) g (sym (ap (λ (found : Option Op). at_op w.loose w.ir found f) there) ∙ e) in
      (sym (ap (λ (y : FlatState). y.place) same), sym (ap (λ (y : FlatState). y.jumps) same), refl)
  label-step f g o m there e = absurd (true≢false m)

  -- one operation, at which the machine has still to go so many steps, and what comes after it
  look-on : (k : ℕ) → Earlier (suc k) → (f : FlatState) (s : Ideal) → NeverStuck w f →
      ((g : FlatState) (to : Ideal) → g.place ≡ f.place + 1 → Related w g to → IsWholeState to → NeverStuck w g → Back w g to (suc k)) →
      (o : Op) → slice_get w.ir.ops f.place ≡ Some o → (moves : Bool) → takes_step o ≡ moves → (next : Step) → flat_step w.loose w.ir f ≡ next → Outcome w f s (takes_step o) (weight_of o) next → Back w f s (suc k)
  look-on k earlier f s never again o there moves m (Stops end g) e x =
      back-stops f g s (takes_step o) (weight_of o) k end e (finished w f s (takes_step o) (weight_of o) end g (stuck-not w l f g end e never) x)
  look-on k earlier f s never again o there true m (Goes g) e x =
      let some : 1 ≤ x.n = is-moved (takes_step o) x.n m x.moved in
      let jumps : g.jumps ≤ f.jumps + 1 = subst (λ (y : Step). (state_of y).jumps ≤ f.jumps + 1) e (step-jumps w.loose w.ir f) in
      elim (cases_lt x.n (suc k)) [
        | inl below ↦ back-beyond f g s (takes_step o) (weight_of o) (suc k) e x (omega (arith, below)) (omega (arith, jumps, some))
            (earlier (suc k - x.n) (omega (arith, some)) g x.to x.related x.whole (never-after w l f g e never))
        | inr above ↦ back-within f g s (takes_step o) (weight_of o) k e x above
      ]
  look-on k earlier f s never again o there false m (Goes g) e x =
      let facts = label-step f g o m there e in
      let few : x.n ≤ weight_of o = x.few in
      let none : x.n ≡ 0 = (let z : weight_of o ≡ 0 = facts.2 in omega (arith, few, z)) in
      let jumps : g.jumps ≡ f.jumps = facts.1 in
      let same : suc k ≡ suc k - x.n = omega (arith, none) in
      back-beyond f g s (takes_step o) (weight_of o) (suc k) e x (omega (arith, none)) (omega (arith, jumps))
      (subst (λ (n : ℕ). Back w g x.to n) same (again g x.to facts.0 x.related x.whole (never-after w l f g e never)))

  -- no more labels come than there are operations
  look : (k : ℕ) → Earlier (suc k) → (r : ℕ) (f : FlatState) (s : Ideal) → length w.ir.ops ≤ r + f.place → Related w f s → IsWholeState s → NeverStuck w f → Back w f s (suc k)
  look k earlier zero f s left related whole never = let it = op-there w l f never in absurd (beyond-none w.ir.ops f.place it.0 (omega (arith, left)) it.1)
  look k earlier (suc r) f s left related whole never =
      let it = op-there w l f never in
      look-on k earlier f s never (λ g to at. look k earlier r g to (omega (arith, left, at))) it.0 it.1 (takes_step it.0) refl (flat_step w.loose w.ir f) refl
      (outcome w f s (takes_step it.0) (weight_of it.0) (flat_step w.loose w.ir f) whole (step-comes w l f s it.0 related whole it.1).comes)

  up : (most : ℕ) → Earlier most
  up zero k below f s related whole never = absurd (omega (arith, below))
  up (suc most) zero below f s related whole never = back-none f s related
  up (suc most) (suc k) below f s related whole never =
      look k (λ n under. up most n (omega (arith, below, under))) (length w.ir.ops) f s (omega arith) related whole never

  pub backwards : (k : ℕ) (f : FlatState) (s : Ideal) → Related w f s → IsWholeState s → NeverStuck w f → Back w f s k
  backwards k f s = up (suc k) k (omega arith) f s
