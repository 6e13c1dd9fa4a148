-- A run with nothing loose, and one of the same program where classes are loose that is fed with words. The first one notes what
-- it reads of these classes, and the second goes along as long as it is fed with just that.
use Rattle.std.proofs.Common.{◌≡◌, ℕ, zero, suc, ◌+◌, ◌⊎◌, inl, inr, ◌==◌, ◌&&◌, ◌%◌, ◌^◌, Bool, true, false, cond, List, [], ◌∷◌, ◌++◌, length, Option, Some, None, arith, refl, sym, ◌∙◌, ap, subst, nat_lt}
use Rattle.std.proofs.lemmas.List.{length-append}
use Rattle.execution.specs.Traffic.{Element, Entry, is_same_element, after_check, after_suspension, after_write}
use Rattle.regions.specs.declared.rights.Class.{Class}
use Rattle.regions.specs.LooseClasses.{nothing_loose}
use Rattle.aegis_num.specs.declared.operators.BinaryOp.{BinaryOp}
use Rattle.aegis_num.specs.Operators.{truth, unary, binary, traps}
use Rattle.c_semantics.specs.declared.tree.Variable.{Variable}
use Rattle.c_semantics.specs.ResolvedTree.{Expr, Number, Scalar, Indexed, Called, Input, Unary, Binary, Both, Either, Arguments, NoArguments, Argument, Stmt, Nothing, Then, Empty, Block, Local, Assign, Store, Call, Suspend, Release, Check, Return, Break, Continue, If, While, For, Function}
use Rattle.c_semantics.specs.States.{Setting, State, End, Index, Divide, Starved, Turns, Outcome, GoesOn, EndsAs, then, choose, is_in, is_open, element_of, kept_word, taken_word, loosely, changed, tick, with_traffic, noting, reading, writing, within, applied, taking_input, releasing, turn_from, begin_turn}
use Rattle.c_semantics.specs.Meaning.{Flow, Completed, Broke, Continued, Returned, Turn, Again, Leaves, Calls, value, values, value_or_zero, condition, after_statement, after_body, turn, after_turn, iterate, loop, holds, completes, meaning, result_of, given, function_meaning, with_function, no_calls, calls_from, calls_of}

abbrev pub Words : Type 0
Words = List (Entry Element)

-- a state with these loose words left, and so many taken
abbrev pub fed : Words → ℕ → State → State
fed loose taken s = record s { traffic = record s.traffic { loose = loose; taken = taken } }

abbrev pub fed_outcome : {A : Type 0} → Words → ℕ → Outcome A → Outcome A
fed_outcome loose taken (GoesOn v s) = GoesOn v (fed loose taken s)
fed_outcome loose taken (EndsAs e s) = EndsAs e (fed loose taken s)

-- a word that is fed is the one that was noted
pub record Agrees (noted given : Entry Element) : Type 0 where
  pub place : is_same_element noted.place given.place ≡ true
  pub word : given.word % 2 ^ 32 ≡ noted.word

-- the words begin with those that were noted, and these are left
abbrev pub Begins : Words → Words → Words → Type 0
Begins [] loose left = loose ≡ left
Begins (noted ∷ all) [] left = ⊥
Begins (noted ∷ all) (entry ∷ loose) left = Agrees noted entry × Begins all loose left

-- the words begin with some of those that were noted, and for the next one there is no word
abbrev pub Fails : Words → Words → Entry Element → Type 0
Fails [] loose next = ⊥
Fails (noted ∷ all) [] next = next ≡ noted
Fails (noted ∷ all) (entry ∷ loose) next = ((is_same_element noted.place entry.place ≡ false) × (next ≡ noted)) ⊎ (Agrees noted entry × Fails all loose next)

begins-split : (one other loose left : Words) → Begins (one ++ other) loose left → (middle : Words) × Begins one loose middle × Begins other middle left
begins-split [] other loose left h = (loose, refl, h)
begins-split (noted ∷ all) other [] left h = absurd h
begins-split (noted ∷ all) other (entry ∷ loose) left h =
    let rest : (middle : Words) × Begins all loose middle × Begins other middle left = begins-split all other loose left h.1 in
    (rest.0, (h.0, rest.1), rest.2)

fails-split : (one other loose : Words) (next : Entry Element) → Fails (one ++ other) loose next → Fails one loose next ⊎ ((middle : Words) × Begins one loose middle × Fails other middle next)
fails-split [] other loose next h = inr (loose, refl, h)
fails-split (noted ∷ all) other [] next h = inl h
fails-split (noted ∷ all) other (entry ∷ loose) next (inl h) = inl (inl h)
fails-split (noted ∷ all) other (entry ∷ loose) next (inr h) = go (fails-split all other loose next h.1)
  where
    go : Fails all loose next ⊎ ((middle : Words) × Begins all loose middle × Fails other middle next) →
        Fails (noted ∷ all) (entry ∷ loose) next ⊎ ((middle : Words) × Begins (noted ∷ all) (entry ∷ loose) middle × Fails other middle next)
    go (inl k) = inl (inr (h.0, k))
    go (inr k) = inr (k.0, (h.0, k.1), k.2)

-- starved for want of this entry, where memory has its word
abbrev pub Starves : {A : Type 0} → Outcome A → Entry Element → Type 0
Starves outcome next = (t : State) × (outcome ≡ EndsAs Starved t) × (t.memory next.place.variable next.place.index ≡ next.word)

-- what is noted after an outcome
abbrev after_outcome : {A : Type 0} → Outcome A → (A → State → Words) → Words
after_outcome (GoesOn v s) noted = noted v s
after_outcome (EndsAs e s) noted = []

-- the two runs from a state
pub record Pair (A : Type 0) (f f' : State → Outcome A) : Type 0 where
  pub noted : State → Words
  pub goes : (s : State) (loose left : Words) (taken : ℕ) → Begins (noted s) loose left → f' (fed loose taken s) ≡ fed_outcome left (taken + length (noted s)) (f s)
  pub stops : (s : State) (loose : Words) (taken : ℕ) (next : Entry Element) → Fails (noted s) loose next → Starves (f' (fed loose taken s)) next

pair-silent : {A : Type 0} (f f' : State → Outcome A) → ((s : State) (loose : Words) (taken : ℕ) → f' (fed loose taken s) ≡ fed_outcome loose taken (f s)) → Pair A f f'
pair-silent f f' h = record {
  noted = λ s. [];
  goes = λ s loose left taken e. h s loose taken ∙ ap (λ l. fed_outcome l taken (f s)) e ∙ ap (λ n. fed_outcome left n (f s)) (let q : taken ≡ taken + 0 = omega arith in q);
  stops = λ s loose taken next e. absurd e;
}

pair-then : {A B : Type 0} (f f' : State → Outcome A) (h h' : A → State → Outcome B) → Pair A f f' → ((v : A) → Pair B (h v) (h' v)) → Pair B (λ s. then (f s) h) (λ s. then (f' s) h')
pair-then {A} {B} f f' h h' p q = record {
  noted = λ s. p.noted s ++ later (f s);
  goes = λ s loose left taken b.
      let parts : (middle : Words) × Begins (p.noted s) loose middle × Begins (later (f s)) middle left = begins-split (p.noted s) (later (f s)) loose left b in
      let count : length (p.noted s ++ later (f s)) ≡ length (p.noted s) + length (later (f s)) = length-append (p.noted s) (later (f s)) in
      ap (λ o. then o h') (p.goes s loose parts.0 taken parts.1) ∙ go (f s) parts.0 left (taken + length (p.noted s)) parts.2
      ∙ ap (λ n. fed_outcome left n (then (f s) h)) (omega (arith, count));
  stops = λ s loose taken next b. halt s loose taken next (fails-split (p.noted s) (later (f s)) loose next b);
}
  where
    later : Outcome A → Words
    later o = after_outcome o (λ v t. (q v).noted t)

    go : (o : Outcome A) (middle left : Words) (taken : ℕ) → Begins (later o) middle left → then (fed_outcome middle taken o) h' ≡ fed_outcome left (taken + length (later o)) (then o h)
    go (GoesOn v t) middle left taken b = (q v).goes t middle left taken b
    go (EndsAs e t) middle left taken b = ap (λ l. EndsAs e (fed l taken t)) b ∙ ap (λ n. EndsAs e (fed left n t)) (let r : taken ≡ taken + 0 = omega arith in r)

    rest : (o : Outcome A) (middle : Words) (taken : ℕ) (next : Entry Element) → Fails (later o) middle next → Starves (then (fed_outcome middle taken o) h') next
    rest (GoesOn v t) middle taken next b = (q v).stops t middle taken next b
    rest (EndsAs e t) middle taken next b = absurd b

    halt : (s : State) (loose : Words) (taken : ℕ) (next : Entry Element) → Fails (p.noted s) loose next ⊎ ((middle : Words) × Begins (p.noted s) loose middle × Fails (later (f s)) middle next) →
        Starves (then (f' (fed loose taken s)) h') next
    halt s loose taken next (inl b) = let k : Starves (f' (fed loose taken s)) next = p.stops s loose taken next b in (k.0, ap (λ o. then o h') k.1, k.2)
    halt s loose taken next (inr b) =
        subst (λ o. Starves (then o h') next) (sym (p.goes s loose b.0 taken b.1)) (rest (f s) b.0 (taken + length (p.noted s)) next b.2)

pair-choose : {A : Type 0} (b : Bool) (f f' g g' : State → Outcome A) → Pair A f f' → Pair A g g' → Pair A (choose b f g) (choose b f' g')
pair-choose true f f' g g' p q = p
pair-choose false f f' g g' p q = q

pair-goes : {A : Type 0} (v : A) → Pair A (GoesOn v) (GoesOn v)
pair-goes v = pair-silent _ _ (λ s loose taken. refl)

pair-ends : {A : Type 0} (e : End) → Pair A (EndsAs e) (EndsAs e)
pair-ends e = pair-silent _ _ (λ s loose taken. refl)

pair-within : (at length i : ℕ) → Pair ℕ (within at length i) (within at length i)
pair-within at length i = pair-choose (nat_lt i length) _ _ _ _ (pair-goes i) (pair-ends (Index at))

pair-applied : (at : ℕ) (op : BinaryOp) (v w : ℕ) → Pair ℕ (applied at op v w) (applied at op v w)
pair-applied at op v w = pair-choose (traps op w) _ _ _ _ (pair-ends (Divide at)) (pair-goes (binary op v w))

pair-input : Pair ℕ taking_input taking_input
pair-input = pair-silent _ _ (λ s loose taken. refl)

pair-release : (word : ℕ) → Pair Flow (λ s. completes (releasing word s)) (λ s. completes (releasing word s))
pair-release word = pair-silent _ _ (λ s loose taken. refl)

pair-after_statement : (f f' : State → Outcome Flow) (flow : Flow) → Pair Flow f f' → Pair Flow (after_statement f flow) (after_statement f' flow)
pair-after_statement f f' Completed p = p
pair-after_statement f f' Broke p = pair-goes Broke
pair-after_statement f f' Continued p = pair-goes Continued
pair-after_statement f f' (Returned v) p = pair-goes (Returned v)

pair-after_body : (f f' : State → Outcome Flow) (flow : Flow) → Pair Flow f f' → Pair Turn (after_body f flow) (after_body f' flow)
pair-after_body f f' Completed p = pair-then _ _ _ _ p (λ flow. pair-goes Again)
pair-after_body f f' Continued p = pair-then _ _ _ _ p (λ flow. pair-goes Again)
pair-after_body f f' Broke p = pair-goes (Leaves Completed)
pair-after_body f f' (Returned v) p = pair-goes (Leaves (Returned v))

pair-after_turn : (f f' : State → Outcome Flow) (t : Turn) → Pair Flow f f' → Pair Flow (after_turn f t) (after_turn f' t)
pair-after_turn f f' Again p = p
pair-after_turn f f' (Leaves flow) p = pair-goes flow

pair-iterate : (one one' : State → Outcome Turn) → Pair Turn one one' → (rounds : ℕ) → Pair Flow (iterate rounds one) (iterate rounds one')
pair-iterate one one' p zero = pair-ends Turns
pair-iterate one one' p (suc rounds) = pair-then _ _ _ _ p (λ t. pair-after_turn _ _ t (pair-iterate one one' p rounds))

pair-loop : (one one' : State → Outcome Turn) → Pair Turn one one' → Pair Flow (loop one) (loop one')
pair-loop one one' p = record {
  noted = λ s. (pair-iterate one one' p (suc s.turns)).noted s;
  goes = λ s loose left taken b. (pair-iterate one one' p (suc s.turns)).goes s loose left taken b;
  stops = λ s loose taken next b. (pair-iterate one one' p (suc s.turns)).stops s loose taken next b;
}

module _ (is_loose : Class → Bool) (is_noted : Bool) where
  abbrev first : Setting
  first = record { is_loose = nothing_loose; is_noted = is_noted }

  abbrev second : Setting
  second = record { is_loose = is_loose; is_noted = is_noted }

  pair-tick : {A : Type 0} (f f' : State → Outcome A) → Pair A f f' → Pair A (λ s. f (tick first s)) (λ s. f' (tick second s))
  pair-tick f f' p = record {
    noted = λ s. p.noted (tick first s);
    goes = λ s loose left taken b. p.goes (tick first s) loose left taken b;
    stops = λ s loose taken next b. p.stops (tick first s) loose taken next b;
  }

  write-fed : (x : Variable) (i word : ℕ) (s : State) (loose : Words) (taken : ℕ) → writing second x i word (fed loose taken s) ≡ fed loose taken (writing first x i word s)
  write-fed x i word s loose taken = go (is_noted && is_in is_open x.class)
    where
      go : (b : Bool) → record (fed loose taken s) { memory = changed s.memory x.token i word; traffic = cond b (after_write (element_of x i) word (fed loose taken s).traffic) (fed loose taken s).traffic } ≡
          fed loose taken (record s { memory = changed s.memory x.token i word; traffic = cond b (after_write (element_of x i) word s.traffic) s.traffic })
      go true = refl
      go false = refl

  pair-write : (x : Variable) (i word : ℕ) → Pair Flow (λ s. completes (writing first x i word s)) (λ s. completes (writing second x i word s))
  pair-write x i word = pair-silent _ _ (λ s loose taken. ap completes (write-fed x i word s loose taken))

  pair-check : Pair Flow (λ s. completes (noting first after_check s)) (λ s. completes (noting second after_check s))
  pair-check = pair-silent _ _ (λ s loose taken. go is_noted s loose taken)
    where
      go : (b : Bool) (s : State) (loose : Words) (taken : ℕ) → completes (with_traffic (cond b (after_check (fed loose taken s).traffic) (fed loose taken s).traffic) (fed loose taken s)) ≡
          completes (fed loose taken (with_traffic (cond b (after_check s.traffic) s.traffic) s))
      go true s loose taken = refl
      go false s loose taken = refl

  pair-suspension : Pair Flow (λ s. completes (noting first after_suspension s)) (λ s. completes (noting second after_suspension s))
  pair-suspension = pair-silent _ _ (λ s loose taken. go is_noted s loose taken)
    where
      go : (b : Bool) (s : State) (loose : Words) (taken : ℕ) → completes (with_traffic (cond b (after_suspension (fed loose taken s).traffic) (fed loose taken s).traffic) (fed loose taken s)) ≡
          completes (fed loose taken (with_traffic (cond b (after_suspension s.traffic) s.traffic) s))
      go true s loose taken = refl
      go false s loose taken = refl

  -- an element of a loose class: what memory has is noted
  pair-taken : (x : Variable) (i : ℕ) → Pair ℕ (kept_word x i) (taken_word x i)
  pair-taken x i = record {
    noted = λ s. record { place = element_of x i; word = s.memory x.token i } ∷ [];
    goes = λ s loose left taken b. go s loose left taken b;
    stops = λ s loose taken next b. halt s loose taken next b;
  }
    where
      go : (s : State) (loose left : Words) (taken : ℕ) → Begins (record { place = element_of x i; word = s.memory x.token i } ∷ []) loose left →
          taken_word x i (fed loose taken s) ≡ GoesOn (s.memory x.token i) (fed left (taken + 1) s)
      go s [] left taken b = absurd b
      go s (entry ∷ loose) left taken b =
          ap (λ same. loosely (cond same (Some (entry.word % 2 ^ 32)) None) (fed (entry ∷ loose) taken s)) b.0.place
          ∙ ap (λ l. GoesOn (entry.word % 2 ^ 32) (fed l (taken + 1) s)) b.1
          ∙ ap (λ w. GoesOn w (fed left (taken + 1) s)) b.0.word

      halt : (s : State) (loose : Words) (taken : ℕ) (next : Entry Element) → Fails (record { place = element_of x i; word = s.memory x.token i } ∷ []) loose next →
          Starves (taken_word x i (fed loose taken s)) next
      halt s [] taken next b = (fed [] taken s, refl, ap (λ e. s.memory e.place.variable e.place.index) b ∙ sym (ap (λ e. e.word) b))
      halt s (entry ∷ loose) taken next (inl b) = (
        fed (entry ∷ loose) taken s,
        ap (λ same. loosely (cond same (Some (entry.word % 2 ^ 32)) None) (fed (entry ∷ loose) taken s)) b.0,
        ap (λ e. s.memory e.place.variable e.place.index) b.1 ∙ sym (ap (λ e. e.word) b.1),
      )
      halt s (entry ∷ loose) taken next (inr b) = absurd b.1

  pair-read : (x : Variable) (i : ℕ) → Pair ℕ (reading first x i) (reading second x i)
  pair-read x i = go x.class (is_in is_loose x.class)
    where
      go : (class : Option Class) (b : Bool) → Pair ℕ (choose (is_in nothing_loose class) (taken_word x i) (kept_word x i)) (choose b (taken_word x i) (kept_word x i))
      go None true = pair-taken x i
      go (Some class) true = pair-taken x i
      go None false = pair-silent _ _ (λ s loose taken. refl)
      go (Some class) false = pair-silent _ _ (λ s loose taken. refl)

  pair-begin : Pair ℕ (begin_turn first) (begin_turn second)
  pair-begin = pair-silent _ _ (λ s loose taken. go s loose taken s.turns)
    where
      go : (s : State) (loose : Words) (taken n : ℕ) → turn_from second n (fed loose taken s) ≡ fed_outcome loose taken (turn_from first n s)
      go s loose taken zero = refl
      go s loose taken (suc left) = refl

  pair-turn : (test test' : State → Outcome ℕ) (body body' step step' : State → Outcome Flow) →
      Pair ℕ test test' → Pair Flow body body' → Pair Flow step step' → Pair Turn (turn first test body step) (turn second test' body' step')
  pair-turn test test' body body' step step' p q r =
      pair-then _ _ _ _ p (λ v. pair-choose (holds v) _ _ _ _ (pair-then _ _ _ _ pair-begin (λ left. pair-then _ _ _ _ q (λ flow. pair-after_body _ _ flow r))) (pair-goes (Leaves Completed)))

  -- the calls of the two runs
  record Same (calls calls' : Calls) : Type 0 where
    each : (function : ℕ) (words : List ℕ) → Pair ℕ (calls function words) (calls' function words)

  module _ (calls calls' : Calls) (same : Same calls calls') where
    mutual
      pair-value : (e : Expr) → Pair ℕ (value first calls e) (value second calls' e)
      pair-value (Number word) = pair-tick _ _ (pair-goes word)
      pair-value (Scalar x) = pair-tick _ _ (pair-read x 0)
      pair-value (Indexed at x length index) =
          pair-tick _ _ (pair-then _ _ _ _ (pair-value index) (λ i. pair-then _ _ _ _ (pair-within at length i) (λ i'. pair-read x i')))
      pair-value (Called function arguments) = pair-tick _ _ (pair-then _ _ _ _ (pair-values arguments) (λ words. same.each function words))
      pair-value Input = pair-tick _ _ pair-input
      pair-value (Unary op inner) = pair-tick _ _ (pair-then _ _ _ _ (pair-value inner) (λ v. pair-goes (unary op v)))
      pair-value (Binary at op left right) =
          pair-tick _ _ (pair-then _ _ _ _ (pair-value left) (λ v. pair-then _ _ _ _ (pair-value right) (λ w. pair-applied at op v w)))
      pair-value (Both left right) =
          pair-tick _ _ (pair-then _ _ _ _ (pair-value left) (λ v. pair-choose (holds v) _ _ _ _ (pair-then _ _ _ _ (pair-value right) (λ w. pair-goes (truth (holds w)))) (pair-goes 0)))
      pair-value (Either left right) =
          pair-tick _ _ (pair-then _ _ _ _ (pair-value left) (λ v. pair-choose (holds v) _ _ _ _ (pair-goes 1) (pair-then _ _ _ _ (pair-value right) (λ w. pair-goes (truth (holds w))))))

      pair-values : (es : Arguments) → Pair (List ℕ) (values first calls es) (values second calls' es)
      pair-values NoArguments = pair-goes []
      pair-values (Argument e es) = pair-then _ _ _ _ (pair-value e) (λ v. pair-then _ _ _ _ (pair-values es) (λ vs. pair-goes (v ∷ vs)))

    pair-value_or_zero : (e : Option Expr) → Pair ℕ (value_or_zero first calls e) (value_or_zero second calls' e)
    pair-value_or_zero None = pair-goes 0
    pair-value_or_zero (Some e) = pair-value e

    pair-condition : (e : Option Expr) → Pair ℕ (condition first calls e) (condition second calls' e)
    pair-condition None = pair-goes 1
    pair-condition (Some e) = pair-value e

    pair-meaning : (st : Stmt) → Pair Flow (meaning first calls st) (meaning second calls' st)
    pair-meaning Nothing = pair-goes Completed
    pair-meaning (Then one other) = pair-then _ _ _ _ (pair-meaning one) (λ flow. pair-after_statement _ _ flow (pair-meaning other))
    pair-meaning Empty = pair-tick _ _ (pair-goes Completed)
    pair-meaning (Block body) = pair-tick _ _ (pair-meaning body)
    pair-meaning (Local x e) = pair-tick _ _ (pair-then _ _ _ _ (pair-value_or_zero e) (λ v. pair-write x 0 v))
    pair-meaning (Assign x e) = pair-tick _ _ (pair-then _ _ _ _ (pair-value e) (λ v. pair-write x 0 v))
    pair-meaning (Store at x length index e) =
        pair-tick _ _ (pair-then _ _ _ _ (pair-value index) (λ i. pair-then _ _ _ _ (pair-within at length i) (λ i'. pair-then _ _ _ _ (pair-value e) (λ v. pair-write x i' v))))
    pair-meaning (Call function arguments) =
        pair-tick _ _ (pair-then _ _ _ _ (pair-values arguments) (λ vs. pair-then _ _ _ _ (same.each function vs) (λ v. pair-goes Completed)))
    pair-meaning Suspend = pair-tick _ _ pair-suspension
    pair-meaning (Release e) = pair-tick _ _ (pair-then _ _ _ _ (pair-value e) (λ v. pair-release v))
    pair-meaning Check = pair-tick _ _ pair-check
    pair-meaning (Return e) = pair-tick _ _ (pair-then _ _ _ _ (pair-value_or_zero e) (λ v. pair-goes (Returned v)))
    pair-meaning Break = pair-tick _ _ (pair-goes Broke)
    pair-meaning Continue = pair-tick _ _ (pair-goes Continued)
    pair-meaning (If test body other) =
        pair-tick _ _ (pair-then _ _ _ _ (pair-value test) (λ v. pair-choose (holds v) _ _ _ _ (pair-meaning body) (pair-meaning other)))
    pair-meaning (While test body) = pair-tick _ _ (pair-loop _ _ (pair-turn _ _ _ _ _ _ (pair-value test) (pair-meaning body) (pair-goes Completed)))
    pair-meaning (For start test step body) =
        pair-tick _ _ (pair-then _ _ _ _ (pair-meaning start) (λ flow. pair-loop _ _ (pair-turn _ _ _ _ _ _ (pair-condition test) (pair-meaning body) (pair-meaning step))))

    -- the parameters of a function, and then its body
    pair-given : (xs : List Variable) (words : List ℕ) (f f' : State → Outcome Flow) → Pair Flow f f' → Pair Flow (λ s. f (given first xs words s)) (λ s. f' (given second xs words s))
    pair-given [] words f f' p = p
    pair-given (x ∷ xs) [] f f' p = p
    pair-given (x ∷ xs) (word ∷ words) f f' p =
        let later : Pair Flow (λ s. f (given first xs words s)) (λ s. f' (given second xs words s)) = pair-given xs words f f' p in
        record {
          noted = λ s. later.noted (writing first x 0 word s);
          goes = λ s loose left taken b. ap (λ t. f' (given second xs words t)) (write-fed x 0 word s loose taken) ∙ later.goes (writing first x 0 word s) loose left taken b;
          stops = λ s loose taken next b. subst (λ t. Starves (f' (given second xs words t)) next) (sym (write-fed x 0 word s loose taken)) (later.stops (writing first x 0 word s) loose taken next b);
        }

    pair-function_meaning : (f : Function) (words : List ℕ) → Pair ℕ (function_meaning first calls f words) (function_meaning second calls' f words)
    pair-function_meaning f words =
        pair-tick _ _ (pair-then _ _ _ _ (pair-given f.parameters words _ _ (pair-meaning f.body)) (λ flow. pair-goes (result_of flow)))

    pair-with_function : (number : ℕ) (f : Function) → Same (with_function first calls number f) (with_function second calls' number f)
    pair-with_function number f = record {
      each = λ function words. pair-choose (number == function) _ _ _ _ (pair-function_meaning f words) (same.each function words);
    }

  -- the calls of the functions of a program
  pair-calls_from : (functions : List Function) (number : ℕ) (calls calls' : Calls) → Same calls calls' → Same (calls_from first calls number functions) (calls_from second calls' number functions)
  pair-calls_from [] number calls calls' same = same
  pair-calls_from (f ∷ functions) number calls calls' same = pair-calls_from functions (number + 1) _ _ (pair-with_function calls calls' same number f)

  pub pair-program : (functions : List Function) (main : ℕ) → Pair ℕ (calls_of first functions main []) (calls_of second functions main [])
  pair-program functions main = (pair-calls_from functions 0 no_calls no_calls (record { each = λ function words. pair-goes 0 })).each main []
