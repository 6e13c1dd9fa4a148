-- Two runs of one program side by side. What each single thing that a run does keeps of two states, the whole run keeps.
use Rattle.std.proofs.Common.{◌≡◌, ◌≢◌, ℕ, zero, suc, ◌+◌, ◌<◌, ◌≤◌, ◌⊎◌, inl, inr, ◌==◌, Bool, true, false, List, [], ◌∷◌, Option, Some, None, arith, refl, sym, ap, subst, nat_lt}
use Rattle.execution.specs.Traffic.{is_same_element, input_word, after_input, loose_word, after_loose, after_check, after_suspension}
use Rattle.regions.specs.declared.rights.Class.{Class}
use Rattle.aegis_num.specs.declared.operators.BinaryOp.{BinaryOp}
use Rattle.aegis_num.specs.Operators.{truth, unary, binary, traps}
use Rattle.c_semantics.specs.declared.tree.Variable.{Variable}
use Rattle.c_semantics.specs.ResolvedTree.{Expr, Number, Scalar, Indexed, Called, Input, Unary, Binary, Both, Either, Arguments, NoArguments, Argument, Stmt, Nothing, Then, Empty, Block, Local, Assign, Store, Call, Suspend, Release, Check, Return, Break, Continue, If, While, For, Function}
use Rattle.c_semantics.specs.States.{Setting, State, End, Index, Divide, Starved, Turns, Outcome, GoesOn, EndsAs, then, choose, is_in, element_of, kept_word, loosely, tick, with_traffic, noting, reading, writing, within, applied, taking_input, releasing, turn_from, begin_turn}
use Rattle.c_semantics.specs.Meaning.{Flow, Completed, Broke, Continued, Returned, Turn, Again, Leaves, Calls, value, values, value_or_zero, condition, after_statement, after_body, turn, after_turn, iterate, loop, holds, completes, meaning, result_of, given, function_meaning, with_function, no_calls, calls_from, calls_of}

-- how two outcomes are alike: the same value or end and states in relation, or the first has used its turns and the second has gone on from there
abbrev pub Alike : {A : Type 0} → (State → State → Type 0) → (State → State → Type 0) → Outcome A → Outcome A → Type 0
Alike R C (GoesOn v s) (GoesOn v' s') = (v ≡ v') × R s s'
Alike R C (GoesOn v s) (EndsAs e' s') = ⊥
Alike R C (EndsAs e s) (GoesOn v' s') = (e ≡ Turns) × C s s'
Alike R C (EndsAs e s) (EndsAs e' s') = ((e ≡ e') × R s s') ⊎ ((e ≡ Turns) × C s s')

-- what holds of a run from a state to its outcome
abbrev pub Holds : {A : Type 0} → (A → State → State → Type 0) → (State → End → State → Type 0) → State → Outcome A → Type 0
Holds D F s (GoesOn v s') = D v s s'
Holds D F s (EndsAs e s') = F s e s'

-- What the single things keep. The first run is noted by one test and the second by another one, and the second has so many
-- turns more. `R` relates states of the two runs, `C` one where the first has no turn left to later ones of the second. `P` holds
-- from a state of the second run to each later one, and `F` to its end.
pub record Relates (is_loose : Class → Bool) (noted noted' : Bool) (more : ℕ) (R C P : State → State → Type 0) (F : State → End → State → Type 0) : Type 0 where
  pub turns : (s s' : State) → R s s' → s'.turns ≡ s.turns + more
  pub same_memory : (s s' : State) → R s s' → (x i : ℕ) → s.memory x i ≡ s'.memory x i
  pub same_input : (s s' : State) → R s s' → input_word s.traffic ≡ input_word s'.traffic
  pub same_loose : (s s' : State) → R s s' → (x : Variable) (i : ℕ) → is_in is_loose x.class ≡ true →
      loose_word is_same_element (element_of x i) s.traffic ≡ loose_word is_same_element (element_of x i) s'.traffic
  pub tick_too : (s s' : State) → R s s' → R (tick (record { is_loose = is_loose; is_noted = noted }) s) (tick (record { is_loose = is_loose; is_noted = noted' }) s')
  pub write_too : (s s' : State) → R s s' → (x : Variable) (i word : ℕ) →
      R (writing (record { is_loose = is_loose; is_noted = noted }) x i word s) (writing (record { is_loose = is_loose; is_noted = noted' }) x i word s')
  pub input_too : (s s' : State) → R s s' → R (with_traffic (after_input s.traffic) s) (with_traffic (after_input s'.traffic) s')
  pub loose_too : (s s' : State) → R s s' → (x : Variable) (i word : ℕ) → is_in is_loose x.class ≡ true → loose_word is_same_element (element_of x i) s'.traffic ≡ Some word →
      R (with_traffic (after_loose s.traffic) s) (with_traffic (after_loose s'.traffic) s')
  pub release_too : (s s' : State) → R s s' → (word : ℕ) → R (releasing word s) (releasing word s')
  pub check_too : (s s' : State) → R s s' →
      R (noting (record { is_loose = is_loose; is_noted = noted }) after_check s) (noting (record { is_loose = is_loose; is_noted = noted' }) after_check s')
  pub suspension_too : (s s' : State) → R s s' →
      R (noting (record { is_loose = is_loose; is_noted = noted }) after_suspension s) (noting (record { is_loose = is_loose; is_noted = noted' }) after_suspension s')
  pub begin_too : (s s' : State) → R s s' → (left left' : ℕ) → s.turns ≡ suc left → s'.turns ≡ suc left' →
      R (tick (record { is_loose = is_loose; is_noted = noted }) (record s { turns = left })) (tick (record { is_loose = is_loose; is_noted = noted' }) (record s' { turns = left' }))
  pub stopped : (s s' : State) → R s s' → s.turns ≡ 0 → (0 < more) → C s s'
  pub stays : (s : State) → P s s
  pub joins : (a b c : State) → P a b → P b c → P a c
  pub lowers : (s s' : State) → P s s' → s'.turns ≤ s.turns
  pub ticks : (s : State) → P s (tick (record { is_loose = is_loose; is_noted = noted' }) s)
  pub writes : (s : State) (x : Variable) (i word : ℕ) → P s (writing (record { is_loose = is_loose; is_noted = noted' }) x i word s)
  pub inputs : (s : State) → P s (with_traffic (after_input s.traffic) s)
  pub takes : (s : State) (x : Variable) (i word : ℕ) → is_in is_loose x.class ≡ true → loose_word is_same_element (element_of x i) s.traffic ≡ Some word →
      P s (with_traffic (after_loose s.traffic) s)
  pub releases : (s : State) (word : ℕ) → P s (releasing word s)
  pub checks : (s : State) → P s (noting (record { is_loose = is_loose; is_noted = noted' }) after_check s)
  pub suspends : (s : State) → P s (noting (record { is_loose = is_loose; is_noted = noted' }) after_suspension s)
  pub begins : (s : State) (left : ℕ) → s.turns ≡ suc left → P s (tick (record { is_loose = is_loose; is_noted = noted' }) (record s { turns = left }))
  pub ends : (a b c : State) (e : End) → P a b → F b e c → F a e c
  pub at_once : (s : State) (e : End) → e ≢ Turns → F s e s
  pub no_turns : (s : State) → s.turns ≡ 0 → F s Turns s
  pub longer : (s a b : State) → C s a → P a b → C s b
  pub longer_end : (s a b : State) (e : End) → C s a → F a e b → C s b

module _ (is_loose : Class → Bool) (noted noted' : Bool) (more : ℕ) (R C P : State → State → Type 0) (F : State → End → State → Type 0) (laws : Relates is_loose noted noted' more R C P F) where
  abbrev first : Setting
  first = record { is_loose = is_loose; is_noted = noted }

  abbrev second : Setting
  second = record { is_loose = is_loose; is_noted = noted' }

  -- two ways to go on from a state that are alike, the second of which keeps `P` and `F`
  record Pair (A : Type 0) (D : A → State → State → Type 0) (f f' : State → Outcome A) : Type 0 where
    alike : (s s' : State) → R s s' → Alike R C (f s) (f' s')
    keeps : (s' : State) → Holds D F s' (f' s')

  -- without more of the value
  abbrev Plain : {A : Type 0} → A → State → State → Type 0
  Plain v s s' = P s s'

  holds-from : {A : Type 0} (a b : State) (o : Outcome A) → P a b → Holds Plain F b o → Holds Plain F a o
  holds-from a b (GoesOn v c) p h = laws.joins a b c p h
  holds-from a b (EndsAs e c) p h = laws.ends a b c e p h

  holds-then : {A B : Type 0} (D : A → State → State → Type 0) (E : B → State → State → Type 0) (s : State) (o : Outcome A) (h : A → State → Outcome B) →
      Holds D F s o → ((v : A) (t : State) → D v s t → Holds E F s (h v t)) → Holds E F s (then o h)
  holds-then D E s (GoesOn v t) h p q = q v t p
  holds-then D E s (EndsAs e t) h p q = p

  -- where the first has no turn left, it stays where it is, whatever the second does
  passed-all : {A : Type 0} (s t : State) (o : Outcome A) → C s t → Holds {A = A} Plain F t o → Alike R C (EndsAs Turns s) o
  passed-all s t (GoesOn v u) c h = (refl, laws.longer s t u c h)
  passed-all s t (EndsAs e u) c h = inr (refl, laws.longer_end s t u e c h)

  pair-then : {A B : Type 0} (f f' : State → Outcome A) (h h' : A → State → Outcome B) →
      Pair A Plain f f' → ((v : A) → Pair B Plain (h v) (h' v)) → Pair B Plain (λ s. then (f s) h) (λ s. then (f' s) h')
  pair-then {A} {B} f f' h h' p q = record {
    alike = λ s s' r. go (f s) (f' s') (p.alike s s' r);
    keeps = λ s'. keep s' (f' s') (p.keeps s');
  }
    where
      keep : (s' : State) (o : Outcome A) → Holds Plain F s' o → Holds Plain F s' (then o h')
      keep s' (GoesOn v t) k = holds-from s' t (h' v t) k ((q v).keeps t)
      keep s' (EndsAs e t) k = k

      go : (o o' : Outcome A) → Alike R C o o' → Alike R C (then o h) (then o' h')
      go (GoesOn v t) (GoesOn v' t') a = subst (λ w. Alike R C (h v t) (h' w t')) a.0 ((q v).alike t t' a.1)
      go (GoesOn v t) (EndsAs e' t') a = absurd a
      go (EndsAs e t) (GoesOn v' t') a = subst (λ w. Alike R C (EndsAs w t) (h' v' t')) (sym a.0) (passed-all t t' (h' v' t') a.1 ((q v').keeps t'))
      go (EndsAs e t) (EndsAs e' t') a = a

  pair-tick : {A : Type 0} (f f' : State → Outcome A) → Pair A Plain f f' → Pair A Plain (λ s. f (tick first s)) (λ s. f' (tick second s))
  pair-tick f f' p = record {
    alike = λ s s' r. p.alike (tick first s) (tick second s') (laws.tick_too s s' r);
    keeps = λ s'. holds-from s' (tick second s') (f' (tick second s')) (laws.ticks s') (p.keeps (tick second s'));
  }

  pair-choose : {A : Type 0} (b : Bool) (f f' g g' : State → Outcome A) → Pair A Plain f f' → Pair A Plain g g' → Pair A Plain (choose b f g) (choose b f' g')
  pair-choose true f f' g g' p q = p
  pair-choose false f f' g g' p q = q

  pair-goes : {A : Type 0} (v : A) → Pair A Plain (GoesOn v) (GoesOn v)
  pair-goes v = record { alike = λ s s' r. (refl, r); keeps = λ s'. laws.stays s' }

  pair-ends : {A : Type 0} (e : End) → e ≢ Turns → Pair A Plain (EndsAs e) (EndsAs e)
  pair-ends e other = record { alike = λ s s' r. inl (refl, r); keeps = λ s'. laws.at_once s' e other }

  pair-within : (at length i : ℕ) → Pair ℕ Plain (within at length i) (within at length i)
  pair-within at length i = pair-choose (nat_lt i length) _ _ _ _ (pair-goes i) (pair-ends (Index at) (λ e. grind arith))

  pair-applied : (at : ℕ) (op : BinaryOp) (v w : ℕ) → Pair ℕ Plain (applied at op v w) (applied at op v w)
  pair-applied at op v w = pair-choose (traps op w) _ _ _ _ (pair-ends (Divide at) (λ e. grind arith)) (pair-goes (binary op v w))

  pair-kept : (x : Variable) (i : ℕ) → Pair ℕ Plain (kept_word x i) (kept_word x i)
  pair-kept x i = record { alike = λ s s' r. (laws.same_memory s s' r x.token i, r); keeps = λ s'. laws.stays s' }

  -- a loose element
  abbrev taken : Variable → ℕ → State → Outcome ℕ
  taken x i s = loosely (loose_word is_same_element (element_of x i) s.traffic) s

  pair-taken : (x : Variable) (i : ℕ) → is_in is_loose x.class ≡ true → Pair ℕ Plain (taken x i) (taken x i)
  pair-taken x i loose = record {
    alike = λ s s' r. subst (λ o. Alike R C (loosely o s) (taken x i s')) (sym (laws.same_loose s s' r x i loose)) (go s s' r (loose_word is_same_element (element_of x i) s'.traffic) refl);
    keeps = λ s'. keep s' (loose_word is_same_element (element_of x i) s'.traffic) refl;
  }
    where
      go : (s s' : State) → R s s' → (o : Option ℕ) → loose_word is_same_element (element_of x i) s'.traffic ≡ o → Alike R C (loosely o s) (loosely o s')
      go s s' r None e = inl (refl, r)
      go s s' r (Some w) e = (refl, laws.loose_too s s' r x i w loose e)

      keep : (s' : State) (o : Option ℕ) → loose_word is_same_element (element_of x i) s'.traffic ≡ o → Holds Plain F s' (loosely o s')
      keep s' None e = laws.at_once s' Starved (λ h. grind arith)
      keep s' (Some w) e = laws.takes s' x i w loose e

  pair-read : (x : Variable) (i : ℕ) → Pair ℕ Plain (reading first x i) (reading second x i)
  pair-read x i = go (is_in is_loose x.class) refl
    where
      go : (b : Bool) → is_in is_loose x.class ≡ b → Pair ℕ Plain (choose b (taken x i) (kept_word x i)) (choose b (taken x i) (kept_word x i))
      go true e = pair-taken x i e
      go false e = pair-kept x i

  pair-input : Pair ℕ Plain taking_input taking_input
  pair-input = record { alike = λ s s' r. (laws.same_input s s' r, laws.input_too s s' r); keeps = λ s'. laws.inputs s' }

  pair-write : (x : Variable) (i word : ℕ) → Pair Flow Plain (λ s. completes (writing first x i word s)) (λ s. completes (writing second x i word s))
  pair-write x i word = record {
    alike = λ s s' r. (refl, laws.write_too s s' r x i word);
    keeps = λ s'. laws.writes s' x i word;
  }

  pair-release : (word : ℕ) → Pair Flow Plain (λ s. completes (releasing word s)) (λ s. completes (releasing word s))
  pair-release word = record {
    alike = λ s s' r. (refl, laws.release_too s s' r word);
    keeps = λ s'. laws.releases s' word;
  }

  pair-check : Pair Flow Plain (λ s. completes (noting first after_check s)) (λ s. completes (noting second after_check s))
  pair-check = record {
    alike = λ s s' r. (refl, laws.check_too s s' r);
    keeps = λ s'. laws.checks s';
  }

  pair-suspension : Pair Flow Plain (λ s. completes (noting first after_suspension s)) (λ s. completes (noting second after_suspension s))
  pair-suspension = record {
    alike = λ s s' r. (refl, laws.suspension_too s s' r);
    keeps = λ s'. laws.suspends s';
  }

  pair-after_statement : (f f' : State → Outcome Flow) (flow : Flow) → Pair Flow Plain f f' → Pair Flow Plain (after_statement f flow) (after_statement f' flow)
  pair-after_statement f f' Completed p = p
  pair-after_statement f f' Broke p = pair-goes Broke
  pair-after_statement f f' Continued p = pair-goes Continued
  pair-after_statement f f' (Returned v) p = pair-goes (Returned v)

  -- A turn that goes on to another one has taken a turn.
  abbrev Lower : State → State → Type 0
  Lower s s' = P s s' × (s'.turns < s.turns)

  abbrev Passed : Turn → State → State → Type 0
  Passed Again s s' = Lower s s'
  Passed (Leaves flow) s s' = P s s'

  -- a turn that has begun
  abbrev Begun : {A : Type 0} → A → State → State → Type 0
  Begun v s s' = Lower s s'

  pair-after_body : (f f' : State → Outcome Flow) (flow : Flow) → Pair Flow Plain f f' → Pair Turn Plain (after_body f flow) (after_body f' flow)
  pair-after_body f f' Completed p = pair-then _ _ _ _ p (λ flow. pair-goes Again)
  pair-after_body f f' Continued p = pair-then _ _ _ _ p (λ flow. pair-goes Again)
  pair-after_body f f' Broke p = pair-goes (Leaves Completed)
  pair-after_body f f' (Returned v) p = pair-goes (Leaves (Returned v))

  -- a turn that begins, and what it goes on with
  abbrev begins_with : Setting → (State → Outcome Turn) → State → Outcome Turn
  begins_with setting rest s = then (begin_turn setting s) (λ left s'. rest s')

  pair-begins : (rest rest' : State → Outcome Turn) → Pair Turn Plain rest rest' → Pair Turn Begun (begins_with first rest) (begins_with second rest')
  pair-begins rest rest' p = record {
    alike = λ s s' r. go s s' r s.turns s'.turns refl refl;
    keeps = λ s'. keep s' s'.turns refl;
  }
    where
      lower : (s' t : State) (left : ℕ) (o : Outcome Turn) → s'.turns ≡ suc left → t.turns ≡ left → P s' t → Holds Plain F t o → Holds Begun F s' o
      lower s' t left (GoesOn v u) e f q h = (laws.joins s' t u q h, (let below : u.turns ≤ t.turns = laws.lowers t u h in omega (arith, below, e, f)))
      lower s' t left (EndsAs end u) e f q h = laws.ends s' t u end q h

      keep : (s' : State) (n : ℕ) → s'.turns ≡ n → Holds Begun F s' (then (turn_from second n s') (λ left t. rest' t))
      keep s' zero e = laws.no_turns s' e
      keep s' (suc left) e =
          let t : State = tick second (record s' { turns = left }) in
          lower s' t left (rest' t) e refl (laws.begins s' left e) (p.keeps t)

      go : (s s' : State) → R s s' → (n n' : ℕ) → s.turns ≡ n → s'.turns ≡ n' → Alike R C (then (turn_from first n s) (λ left t. rest t)) (then (turn_from second n' s') (λ left t. rest' t))
      go s s' r zero zero e e' = inl (refl, r)
      go s s' r zero (suc left') e e' =
          let more_turns : s'.turns ≡ s.turns + more = laws.turns s s' r in
          let t : State = tick second (record s' { turns = left' }) in
          passed-all s t (rest' t) (laws.longer s s' t (laws.stopped s s' r e (omega (arith, more_turns, e, e'))) (laws.begins s' left' e')) (p.keeps t)
      go s s' r (suc left) zero e e' = let more_turns : s'.turns ≡ s.turns + more = laws.turns s s' r in absurd (omega (arith, more_turns, e, e'))
      go s s' r (suc left) (suc left') e e' =
          p.alike (tick first (record s { turns = left })) (tick second (record s' { turns = left' })) (laws.begin_too s s' r left left' e e')

  weaken : {A : Type 0} (D E : A → State → State → Type 0) → ((v : A) (s s' : State) → D v s s' → E v s s') → (f f' : State → Outcome A) → Pair A D f f' → Pair A E f f'
  weaken {A} D E h f f' p = record { alike = p.alike; keeps = λ s'. go s' (f' s') (p.keeps s') }
    where
      go : (s' : State) (o : Outcome A) → Holds D F s' o → Holds E F s' o
      go s' (GoesOn v t) k = h v s' t k
      go s' (EndsAs e t) k = k

  plainly : (v : Turn) (s s' : State) → Passed v s s' → P s s'
  plainly Again s s' h = h.0
  plainly (Leaves flow) s s' h = h

  begun : (v : Turn) (s s' : State) → Lower s s' → Passed v s s'
  begun Again s s' h = h
  begun (Leaves flow) s s' h = h.0

  -- a whole turn, with a test and a body and a step
  pair-turn : (test test' : State → Outcome ℕ) (body body' step step' : State → Outcome Flow) →
      Pair ℕ Plain test test' → Pair Flow Plain body body' → Pair Flow Plain step step' → Pair Turn Passed (turn first test body step) (turn second test' body' step')
  pair-turn test test' body body' step step' p q r = record {
    alike = (pair-then test test' (decide first body step) (decide second body' step') p (λ v. weaken Passed Plain plainly _ _ (decides v))).alike;
    keeps = λ s'. holds-then Plain Passed s' (test' s') (decide second body' step') (p.keeps s') (λ v t h. from s' t (decide second body' step' v t) h ((decides v).keeps t));
  }
    where
      decide : Setting → (State → Outcome Flow) → (State → Outcome Flow) → ℕ → State → Outcome Turn
      decide setting b st v s = choose (holds v) (begins_with setting (λ s'. then (b s') (after_body st))) (GoesOn (Leaves Completed)) s

      from : (a b : State) (o : Outcome Turn) → P a b → Holds Passed F b o → Holds Passed F a o
      from a b (GoesOn Again c) h k = (laws.joins a b c h k.0, (let below : b.turns ≤ a.turns = laws.lowers a b h in omega (arith, below, k.1)))
      from a b (GoesOn (Leaves flow) c) h k = laws.joins a b c h k
      from a b (EndsAs e c) h k = laws.ends a b c e h k

      decides : (v : ℕ) → Pair Turn Passed (decide first body step v) (decide second body' step' v)
      decides v = go (holds v)
        where
          go : (b : Bool) → Pair Turn Passed (choose b (begins_with first (λ s. then (body s) (after_body step))) (GoesOn (Leaves Completed))) (choose b (begins_with second (λ s. then (body' s) (after_body step'))) (GoesOn (Leaves Completed)))
          go false = record { alike = λ s s' r. (refl, r); keeps = λ s'. laws.stays s' }
          go true = weaken Begun Passed begun _ _ (pair-begins _ _ (pair-then body body' _ _ q (λ flow. pair-after_body step step' flow r)))

  keep-iterate : (one' : State → Outcome Turn) → ((s' : State) → Holds Passed F s' (one' s')) → (rounds : ℕ) (s' : State) → s'.turns < rounds →
      Holds {A = Flow} Plain F s' (iterate rounds one' s')
  keep-iterate one' p zero s' below = absurd (omega arith)
  keep-iterate one' p (suc rounds) s' below = go (one' s') (p s') (keep-iterate one' p rounds)
    where
      go : (o' : Outcome Turn) → Holds Passed F s' o' → ((t : State) → t.turns < rounds → Holds {A = Flow} Plain F t (iterate rounds one' t)) →
          Holds Plain F s' (then o' (after_turn (iterate rounds one')))
      go (GoesOn Again t) k later = holds-from s' t (iterate rounds one' t) k.0 (later t (omega (arith, k.1)))
      go (GoesOn (Leaves flow) t) k later = k
      go (EndsAs e t) k later = k

  -- the flow that a turn leaves a loop with
  abbrev flow_of : Turn → Flow
  flow_of Again = Completed
  flow_of (Leaves flow) = flow

  pair-iterate : (one one' : State → Outcome Turn) → Pair Turn Passed one one' → (rounds : ℕ) (s s' : State) → R s s' → s.turns < rounds →
      Alike R C (iterate rounds one s) (iterate (rounds + more) one' s')
  pair-iterate one one' p zero s s' r below = absurd (omega arith)
  pair-iterate one one' p (suc rounds) s s' r below =
      let e : suc rounds + more ≡ suc (rounds + more) = omega arith in
      subst (λ n. Alike R C (iterate (suc rounds) one s) (iterate n one' s')) (sym e) (go (one s) (one' s') (p.alike s s' r) (p.keeps s') (pair-iterate one one' p rounds))
    where
      go : (o o' : Outcome Turn) → Alike R C o o' → Holds Passed F s' o' →
          ((t t' : State) → R t t' → t.turns < rounds → Alike R C (iterate rounds one t) (iterate (rounds + more) one' t')) →
          Alike R C (then o (after_turn (iterate rounds one))) (then o' (after_turn (iterate (rounds + more) one')))
      go (GoesOn Again t) (GoesOn Again t') a k later =
          let apart : s'.turns ≡ s.turns + more = laws.turns s s' r in
          let apart' : t'.turns ≡ t.turns + more = laws.turns t t' a.1 in
          later t t' a.1 (omega (arith, apart, apart', k.1, below))
      go (GoesOn Again t) (GoesOn (Leaves flow') t') a k later = absurd (grind (arith, a.0))
      go (GoesOn (Leaves flow) t) (GoesOn Again t') a k later = absurd (grind (arith, a.0))
      go (GoesOn (Leaves flow) t) (GoesOn (Leaves flow') t') a k later = (ap flow_of a.0, a.1)
      go (GoesOn v t) (EndsAs e' t') a k later = absurd a
      go (EndsAs e t) (GoesOn Again t') a k later =
          let apart : s'.turns ≡ s.turns + more = laws.turns s s' r in
          subst (λ w. Alike R C (EndsAs w t) (iterate (rounds + more) one' t')) (sym a.0)
          (passed-all t t' (iterate (rounds + more) one' t') a.1 (keep-iterate one' p.keeps (rounds + more) t' (omega (arith, apart, k.1, below))))
      go (EndsAs e t) (GoesOn (Leaves flow') t') a k later = a
      go (EndsAs e t) (EndsAs e' t') a k later = a

  -- a loop
  pair-loop : (one one' : State → Outcome Turn) → Pair Turn Passed one one' → Pair Flow Plain (loop one) (loop one')
  pair-loop one one' p = record {
    alike = λ s s' r.
        let apart : s'.turns ≡ s.turns + more = laws.turns s s' r in
        let e : suc s.turns + more ≡ suc s'.turns = omega (arith, apart) in
        subst (λ n. Alike R C (loop one s) (iterate n one' s')) e (pair-iterate one one' p (suc s.turns) s s' r (omega arith));
    keeps = λ s'. keep-iterate one' p.keeps (suc s'.turns) s' (omega arith);
  }

  -- the calls of the two runs
  record Same (calls calls' : Calls) : Type 0 where
    each : (function : ℕ) (words : List ℕ) → Pair ℕ Plain (calls function words) (calls' function words)

  module _ (calls calls' : Calls) (same : Same calls calls') where
    mutual
      pair-value : (e : Expr) → Pair ℕ Plain (value first calls e) (value second calls' e)
      pair-value (Number word) = pair-tick _ _ (pair-goes word)
      pair-value (Scalar x) = pair-tick _ _ (pair-read x 0)
      pair-value (Indexed at x length index) =
          pair-tick _ _ (pair-then _ _ _ _ (pair-value index) (λ i. pair-then _ _ _ _ (pair-within at length i) (λ i'. pair-read x i')))
      pair-value (Called function arguments) = pair-tick _ _ (pair-then _ _ _ _ (pair-values arguments) (λ words. same.each function words))
      pair-value Input = pair-tick _ _ pair-input
      pair-value (Unary op inner) = pair-tick _ _ (pair-then _ _ _ _ (pair-value inner) (λ v. pair-goes (unary op v)))
      pair-value (Binary at op left right) =
          pair-tick _ _ (pair-then _ _ _ _ (pair-value left) (λ v. pair-then _ _ _ _ (pair-value right) (λ w. pair-applied at op v w)))
      pair-value (Both left right) =
          pair-tick _ _ (pair-then _ _ _ _ (pair-value left) (λ v. pair-choose (holds v) _ _ _ _ (pair-then _ _ _ _ (pair-value right) (λ w. pair-goes (truth (holds w)))) (pair-goes 0)))
      pair-value (Either left right) =
          pair-tick _ _ (pair-then _ _ _ _ (pair-value left) (λ v. pair-choose (holds v) _ _ _ _ (pair-goes 1) (pair-then _ _ _ _ (pair-value right) (λ w. pair-goes (truth (holds w))))))

      pair-values : (es : Arguments) → Pair (List ℕ) Plain (values first calls es) (values second calls' es)
      pair-values NoArguments = pair-goes []
      pair-values (Argument e es) = pair-then _ _ _ _ (pair-value e) (λ v. pair-then _ _ _ _ (pair-values es) (λ vs. pair-goes (v ∷ vs)))

    pair-value_or_zero : (e : Option Expr) → Pair ℕ Plain (value_or_zero first calls e) (value_or_zero second calls' e)
    pair-value_or_zero None = pair-goes 0
    pair-value_or_zero (Some e) = pair-value e

    pair-condition : (e : Option Expr) → Pair ℕ Plain (condition first calls e) (condition second calls' e)
    pair-condition None = pair-goes 1
    pair-condition (Some e) = pair-value e

    pair-meaning : (st : Stmt) → Pair Flow Plain (meaning first calls st) (meaning second calls' st)
    pair-meaning Nothing = pair-goes Completed
    pair-meaning (Then one other) = pair-then _ _ _ _ (pair-meaning one) (λ flow. pair-after_statement _ _ flow (pair-meaning other))
    pair-meaning Empty = pair-tick _ _ (pair-goes Completed)
    pair-meaning (Block body) = pair-tick _ _ (pair-meaning body)
    pair-meaning (Local x e) = pair-tick _ _ (pair-then _ _ _ _ (pair-value_or_zero e) (λ v. pair-write x 0 v))
    pair-meaning (Assign x e) = pair-tick _ _ (pair-then _ _ _ _ (pair-value e) (λ v. pair-write x 0 v))
    pair-meaning (Store at x length index e) =
        pair-tick _ _ (pair-then _ _ _ _ (pair-value index) (λ i. pair-then _ _ _ _ (pair-within at length i) (λ i'. pair-then _ _ _ _ (pair-value e) (λ v. pair-write x i' v))))
    pair-meaning (Call function arguments) =
        pair-tick _ _ (pair-then _ _ _ _ (pair-values arguments) (λ vs. pair-then _ _ _ _ (same.each function vs) (λ v. pair-goes Completed)))
    pair-meaning Suspend = pair-tick _ _ pair-suspension
    pair-meaning (Release e) = pair-tick _ _ (pair-then _ _ _ _ (pair-value e) (λ v. pair-release v))
    pair-meaning Check = pair-tick _ _ pair-check
    pair-meaning (Return e) = pair-tick _ _ (pair-then _ _ _ _ (pair-value_or_zero e) (λ v. pair-goes (Returned v)))
    pair-meaning Break = pair-tick _ _ (pair-goes Broke)
    pair-meaning Continue = pair-tick _ _ (pair-goes Continued)
    pair-meaning (If test body other) =
        pair-tick _ _ (pair-then _ _ _ _ (pair-value test) (λ v. pair-choose (holds v) _ _ _ _ (pair-meaning body) (pair-meaning other)))
    pair-meaning (While test body) = pair-tick _ _ (pair-loop _ _ (pair-turn _ _ _ _ _ _ (pair-value test) (pair-meaning body) (pair-goes Completed)))
    pair-meaning (For start test step body) =
        pair-tick _ _ (pair-then _ _ _ _ (pair-meaning start) (λ flow. pair-loop _ _ (pair-turn _ _ _ _ _ _ (pair-condition test) (pair-meaning body) (pair-meaning step))))

    -- the parameters of a function, and then its body
    pair-given : (xs : List Variable) (words : List ℕ) (f f' : State → Outcome Flow) → Pair Flow Plain f f' → Pair Flow Plain (λ s. f (given first xs words s)) (λ s. f' (given second xs words s))
    pair-given [] words f f' p = p
    pair-given (x ∷ xs) [] f f' p = p
    pair-given (x ∷ xs) (word ∷ words) f f' p =
        let later : Pair Flow Plain (λ s. f (given first xs words s)) (λ s. f' (given second xs words s)) = pair-given xs words f f' p in
        record {
          alike = λ s s' r. later.alike (writing first x 0 word s) (writing second x 0 word s') (laws.write_too s s' r x 0 word);
          keeps = λ s'. holds-from s' (writing second x 0 word s') (f' (given second xs words (writing second x 0 word s'))) (laws.writes s' x 0 word) (later.keeps (writing second x 0 word s'));
        }

    pair-function_meaning : (f : Function) (words : List ℕ) → Pair ℕ Plain (function_meaning first calls f words) (function_meaning second calls' f words)
    pair-function_meaning f words =
        pair-tick _ _ (pair-then _ _ _ _ (pair-given f.parameters words _ _ (pair-meaning f.body)) (λ flow. pair-goes (result_of flow)))

    pair-with_function : (number : ℕ) (f : Function) → Same (with_function first calls number f) (with_function second calls' number f)
    pair-with_function number f = record {
      each = λ function words. pair-choose (number == function) _ _ _ _ (pair-function_meaning f words) (same.each function words);
    }

  -- the calls of the functions of a program
  pair-calls_from : (functions : List Function) (number : ℕ) (calls calls' : Calls) → Same calls calls' → Same (calls_from first calls number functions) (calls_from second calls' number functions)
  pair-calls_from [] number calls calls' same = same
  pair-calls_from (f ∷ functions) number calls calls' same = pair-calls_from functions (number + 1) _ _ (pair-with_function calls calls' same number f)

  pair-program : (functions : List Function) → Same (calls_of first functions) (calls_of second functions)
  pair-program functions = pair-calls_from functions 0 no_calls no_calls (record { each = λ function words. pair-goes 0 })

  -- what the law is used for: the outcomes of a program are alike, and the second run keeps what each thing keeps
  pub alike-program : (functions : List Function) (main : ℕ) (s s' : State) → R s s' →
      Alike R C (calls_of first functions main [] s) (calls_of second functions main [] s')
  alike-program functions main s s' r = ((pair-program functions).each main []).alike s s' r

  pub keeps-program : (functions : List Function) (main : ℕ) (s' : State) → Holds (λ v t u. P t u) F s' (calls_of second functions main [] s')
  keeps-program functions main s' = ((pair-program functions).each main []).keeps s'

  pub keeps-statement : (functions : List Function) (st : Stmt) (s' : State) → Holds (λ v t u. P t u) F s' (meaning second (calls_of second functions) st s')
  keeps-statement functions st s' = (pair-meaning _ _ (pair-program functions) st).keeps s'
