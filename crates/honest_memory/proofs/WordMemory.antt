-- In a run of a program whose numbers are words, each value is a word, and so is what memory has.
use Rattle.std.proofs.Common.{◌≡◌, ℕ, zero, suc, ◌+◌, ◌/◌, ◌%◌, ◌^◌, ◌<◌, ◌≤◌, ◌==◌, ◌&&◌, Bool, true, false, cond, List, [], ◌∷◌, Option, Some, None, ℤ, pos, negsuc, arith, refl, subst, nat_lt}
use Rattle.std.proofs.Math.Nat.{div-le_self, mod-le}
use Rattle.std.proofs.Math.IntN.{neg_ℤ}
use Rattle.std.proofs.lemmas.Nat.{or_of_32, xor_of_32, and_le_l}
use Rattle.std.specs.Int.{int_shr}
use Rattle.std.specs.Int.RustNames.{int_div, int_rem}
use Rattle.std.specs.List.{AllByRecursion}
use Rattle.std.specs.Prelude.{slice_index}
use Rattle.execution.specs.Traffic.{Element, Entry, Traffic, next_of, is_same_element, word_at, after_check, after_suspension}
use Rattle.aegis_num.specs.declared.operators.UnaryOp.{UnaryOp}
use Rattle.aegis_num.specs.declared.operators.UnaryOp.TheVariants.{Neg, Inv, Not}
use Rattle.aegis_num.specs.declared.operators.BinaryOp.{BinaryOp}
use Rattle.aegis_num.specs.declared.operators.BinaryOp.TheVariants.{Add, Sub, Mul, DivS, DivU, RemS, RemU, And, Or, Xor, Shl, ShrS, ShrU, Eq, Ne, LtS, LtU, LeS, LeU, GtS, GtU, GeS, GeU}
use Rattle.aegis_num.specs.Operators.{truth, unary, binary, traps, int_of, word_of_int, shift_count}
use Rattle.c_semantics.specs.declared.tree.Variable.{Variable}
use Rattle.c_semantics.specs.ResolvedTree.{Expr, Number, Scalar, Indexed, Called, Input, Unary, Binary, Both, Either, Arguments, NoArguments, Argument, Stmt, Nothing, Then, Empty, Block, Local, Assign, Store, Call, Suspend, Release, Check, Return, Break, Continue, If, While, For, Function, Object, Program}
use Rattle.c_semantics.specs.States.{Setting, State, End, Index, Divide, Turns, Outcome, GoesOn, EndsAs, then, choose, is_in, element_of, taken_word, loosely, tick, noting, reading, writing, within, applied, taking_input, releasing, turn_from, begin_turn}
use Rattle.c_semantics.specs.Meaning.{Flow, Completed, Broke, Continued, Returned, Turn, Again, Leaves, Calls, value, values, value_or_zero, condition, after_statement, after_body, turn, after_turn, iterate, loop, holds, completes, meaning, result_of, given, function_meaning, with_function, no_calls, calls_from, calls_of, first_memory, first_state, outcome_of}
use Rattle.honest_memory.specs.WordPrograms.{IsWord, ExprHasWords, ArgumentsHaveWords, PartHasWords, StmtHasWords, ProgramHasWords}

-- ---- operators

truth-word : (b : Bool) → IsWord (truth b)
truth-word true = omega arith
truth-word false = omega arith

unary-word : (op : UnaryOp) (v : ℕ) → IsWord (unary op v)
unary-word Neg v = omega arith
unary-word Inv v = omega arith
unary-word Not v = truth-word (v == 0)

negated-word : (n : ℕ) → IsWord (word_of_int (neg_ℤ (pos n)))
negated-word zero = grind arith
negated-word (suc n) = grind arith

-- half of the words are read as numbers below 2 ^ 31, the others as negative ones
abbrev IsHalf : ℤ → Type 0
IsHalf (pos n) = n < 2 ^ 31
IsHalf (negsuc n) = n < 2 ^ 31

half-of : (number : ℤ) (word : ℕ) → number ≡ int_of word → IsWord word → IsHalf number
half-of (pos n) word is fits = grind (arith, is)
half-of (negsuc n) word is fits = grind (arith, is)

shifted-word : (number : ℤ) (by : ℕ) → IsHalf number → IsWord (word_of_int (int_shr number by))
shifted-word (pos n) by fits = grind (arith, fits, div-le_self n (2 ^ by))
shifted-word (negsuc n) by fits = grind arith

divided-word : (number by : ℤ) → IsHalf number → IsWord (word_of_int (int_div number by))
divided-word (pos n) (pos d) fits = grind (arith, fits, div-le_self n d)
divided-word (pos n) (negsuc d) fits = negated-word (n / suc d)
divided-word (negsuc n) (pos d) fits = negated-word (suc n / d)
divided-word (negsuc n) (negsuc d) fits = grind (arith, fits, div-le_self (suc n) (suc d))

rest-word : (number by : ℤ) → IsHalf number → IsWord (word_of_int (int_rem number by))
rest-word (pos n) (pos d) fits = grind (arith, fits, mod-le n d)
rest-word (pos n) (negsuc d) fits = grind (arith, fits, mod-le n (suc d))
rest-word (negsuc n) (pos d) fits = negated-word (suc n % d)
rest-word (negsuc n) (negsuc d) fits = negated-word (suc n % suc d)

lower-word : (low high : ℕ) → low ≤ high → IsWord high → IsWord low
lower-word low high e h = omega (arith, e, h)

binary-word : (op : BinaryOp) (v w : ℕ) → IsWord v → IsWord w → IsWord (binary op v w)
binary-word Add v w h k = omega arith
binary-word Sub v w h k = omega arith
binary-word Mul v w h k = omega arith
binary-word DivS v w h k = divided-word (int_of v) (int_of w) (half-of (int_of v) v refl h)
binary-word DivU v w h k = lower-word (v / w) v (div-le_self v w) h
binary-word RemS v w h k = rest-word (int_of v) (int_of w) (half-of (int_of v) v refl h)
binary-word RemU v w h k = lower-word (v % w) v (mod-le v w) h
binary-word And v w h k = lower-word _ v (and_le_l v w) h
binary-word Or v w h k = or_of_32 v w h k
binary-word Xor v w h k = xor_of_32 v w h k
binary-word Shl v w h k = omega arith
binary-word ShrS v w h k = shifted-word (int_of v) (shift_count w) (half-of (int_of v) v refl h)
binary-word ShrU v w h k = lower-word (v / 2 ^ shift_count w) v (div-le_self v (2 ^ shift_count w)) h
binary-word Eq v w h k = truth-word _
binary-word Ne v w h k = truth-word _
binary-word LtS v w h k = truth-word _
binary-word LtU v w h k = truth-word _
binary-word LeS v w h k = truth-word _
binary-word LeU v w h k = truth-word _
binary-word GtS v w h k = truth-word _
binary-word GtU v w h k = truth-word _
binary-word GeS v w h k = truth-word _
binary-word GeU v w h k = truth-word _

-- ---- runs

-- memory has words
abbrev pub HasWords : State → Type 0
HasWords s = (x i : ℕ) → IsWord (s.memory x i)

abbrev IsGood : {A : Type 0} → (A → Type 0) → Outcome A → Type 0
IsGood good (GoesOn v s) = good v × HasWords s
IsGood good (EndsAs e s) = HasWords s

record Keeps (A : Type 0) (good : A → Type 0) (f : State → Outcome A) : Type 0 where
  on : (s : State) → HasWords s → IsGood good (f s)

-- the value that is returned is a word
abbrev GoodFlow : Flow → Type 0
GoodFlow (Returned v) = IsWord v
GoodFlow flow = Unit {0}

abbrev GoodTurn : Turn → Type 0
GoodTurn Again = Unit {0}
GoodTurn (Leaves flow) = GoodFlow flow

keeps-then : {A B : Type 0} (good : A → Type 0) (good' : B → Type 0) (f : State → Outcome A) (h : A → State → Outcome B) → Keeps A good f → ((v : A) → good v → Keeps B good' (h v)) → Keeps B good' (λ s. then (f s) h)
keeps-then {A} {B} good good' f h p q = record { on = λ s words. go (f s) (p.on s words) }
  where
    go : (o : Outcome A) → IsGood good o → IsGood good' (then o h)
    go (GoesOn v t) k = (q v k.0).on t k.1
    go (EndsAs e t) k = k

keeps-goes : {A : Type 0} (good : A → Type 0) (v : A) → good v → Keeps A good (GoesOn v)
keeps-goes good v h = record { on = λ s words. (h, words) }

keeps-ends : {A : Type 0} (good : A → Type 0) (e : End) → Keeps A good (EndsAs e)
keeps-ends good e = record { on = λ s words. words }

keeps-choose : {A : Type 0} (good : A → Type 0) (b : Bool) (f g : State → Outcome A) → Keeps A good f → Keeps A good g → Keeps A good (choose b f g)
keeps-choose good true f g p q = p
keeps-choose good false f g p q = q

keeps-within : (at length i : ℕ) → IsWord i → Keeps ℕ IsWord (within at length i)
keeps-within at length i h = keeps-choose IsWord (nat_lt i length) _ _ (keeps-goes IsWord i h) (keeps-ends IsWord (Index at))

keeps-applied : (at : ℕ) (op : BinaryOp) (v w : ℕ) → IsWord v → IsWord w → Keeps ℕ IsWord (applied at op v w)
keeps-applied at op v w h k = keeps-choose IsWord (traps op w) _ _ (keeps-ends IsWord (Divide at)) (keeps-goes IsWord (binary op v w) (binary-word op v w h k))

keeps-input : Keeps ℕ IsWord taking_input
keeps-input = record { on = λ s words. (go s.traffic.input, words) }
  where
    go : (bytes : List ℕ) → IsWord (next_of bytes)
    go [] = omega arith
    go (byte ∷ bytes) = omega arith

keeps-after_statement : (f : State → Outcome Flow) (flow : Flow) → GoodFlow flow → Keeps Flow GoodFlow f → Keeps Flow GoodFlow (after_statement f flow)
keeps-after_statement f Completed h p = p
keeps-after_statement f Broke h p = keeps-goes GoodFlow Broke tt
keeps-after_statement f Continued h p = keeps-goes GoodFlow Continued tt
keeps-after_statement f (Returned v) h p = keeps-goes GoodFlow (Returned v) h

keeps-after_body : (f : State → Outcome Flow) (flow : Flow) → GoodFlow flow → Keeps Flow GoodFlow f → Keeps Turn GoodTurn (after_body f flow)
keeps-after_body f Completed h p = keeps-then GoodFlow GoodTurn f _ p (λ flow k. keeps-goes GoodTurn Again tt)
keeps-after_body f Continued h p = keeps-then GoodFlow GoodTurn f _ p (λ flow k. keeps-goes GoodTurn Again tt)
keeps-after_body f Broke h p = keeps-goes GoodTurn (Leaves Completed) tt
keeps-after_body f (Returned v) h p = keeps-goes GoodTurn (Leaves (Returned v)) h

keeps-after_turn : (f : State → Outcome Flow) (t : Turn) → GoodTurn t → Keeps Flow GoodFlow f → Keeps Flow GoodFlow (after_turn f t)
keeps-after_turn f Again h p = p
keeps-after_turn f (Leaves flow) h p = keeps-goes GoodFlow flow h

keeps-iterate : (one : State → Outcome Turn) → Keeps Turn GoodTurn one → (rounds : ℕ) → Keeps Flow GoodFlow (iterate rounds one)
keeps-iterate one p zero = keeps-ends GoodFlow Turns
keeps-iterate one p (suc rounds) = keeps-then GoodTurn GoodFlow one _ p (λ t h. keeps-after_turn _ t h (keeps-iterate one p rounds))

keeps-loop : (one : State → Outcome Turn) → Keeps Turn GoodTurn one → Keeps Flow GoodFlow (loop one)
keeps-loop one p = record { on = λ s words. (keeps-iterate one p (suc s.turns)).on s words }

module _ (setting : Setting) where
  keeps-tick : {A : Type 0} (good : A → Type 0) (f : State → Outcome A) → Keeps A good f → Keeps A good (λ s. f (tick setting s))
  keeps-tick good f p = record { on = λ s words. p.on (tick setting s) words }

  changed-words : (x : Variable) (i word : ℕ) (s : State) → IsWord word → HasWords s → HasWords (writing setting x i word s)
  changed-words x i word s h words y j = go (x.token == y && i == j)
    where
      go : (b : Bool) → IsWord (cond b word (s.memory y j))
      go true = h
      go false = words y j

  keeps-write : (x : Variable) (i word : ℕ) → IsWord word → Keeps Flow GoodFlow (λ s. completes (writing setting x i word s))
  keeps-write x i word h = record { on = λ s words. (tt, changed-words x i word s h words) }

  keeps-noting : (change : Traffic Element → Traffic Element) → Keeps Flow GoodFlow (λ s. completes (noting setting change s))
  keeps-noting change = record { on = λ s words. (tt, words) }

  keeps-release : (word : ℕ) → Keeps Flow GoodFlow (λ s. completes (releasing word s))
  keeps-release word = record { on = λ s words. (tt, words) }

  keeps-taken : (x : Variable) (i : ℕ) → Keeps ℕ IsWord (taken_word x i)
  keeps-taken x i = record { on = λ s words. go s words s.traffic.loose }
    where
      give : (s : State) → HasWords s → (b : Bool) (word : ℕ) → IsGood IsWord (loosely (cond b (Some (word % 2 ^ 32)) None) s)
      give s words true word = (omega arith, words)
      give s words false word = words

      go : (s : State) → HasWords s → (loose : List (Entry Element)) → IsGood IsWord (loosely (word_at is_same_element (element_of x i) loose) s)
      go s words [] = words
      go s words (entry ∷ loose) = give s words (is_same_element (element_of x i) entry.place) entry.word

  keeps-read : (x : Variable) (i : ℕ) → Keeps ℕ IsWord (reading setting x i)
  keeps-read x i = keeps-choose IsWord (is_in setting.is_loose x.class) _ _ (keeps-taken x i) (record { on = λ s words. (words x.token i, words) })

  keeps-begin : Keeps ℕ (λ left. Unit {0}) (begin_turn setting)
  keeps-begin = record { on = λ s words. go s words s.turns }
    where
      go : (s : State) → HasWords s → (n : ℕ) → IsGood {A = ℕ} (λ left. Unit {0}) (turn_from setting n s)
      go s words zero = words
      go s words (suc left) = (tt, words)

  keeps-turn : (test : State → Outcome ℕ) (body step : State → Outcome Flow) → Keeps ℕ IsWord test → Keeps Flow GoodFlow body → Keeps Flow GoodFlow step → Keeps Turn GoodTurn (turn setting test body step)
  keeps-turn test body step p q r =
      keeps-then IsWord GoodTurn test _ p (λ v h. keeps-choose GoodTurn (holds v) _ _
      (keeps-then (λ left. Unit {0}) GoodTurn (begin_turn setting) _ keeps-begin (λ left k. keeps-then GoodFlow GoodTurn body _ q (λ flow g. keeps-after_body step flow g r)))
      (keeps-goes GoodTurn (Leaves Completed) tt))

  record KeepCalls (calls : Calls) : Type 0 where
    each : (function : ℕ) (words : List ℕ) → AllByRecursion IsWord words → Keeps ℕ IsWord (calls function words)

  module _ (calls : Calls) (kept : KeepCalls calls) where
    mutual
      keeps-value : (e : Expr) → ExprHasWords e → Keeps ℕ IsWord (value setting calls e)
      keeps-value (Number word) h = keeps-tick IsWord _ (keeps-goes IsWord word h)
      keeps-value (Scalar x) h = keeps-tick IsWord _ (keeps-read x 0)
      keeps-value (Indexed at x length index) h =
          keeps-tick IsWord _ (keeps-then IsWord IsWord _ _ (keeps-value index h) (λ i k. keeps-then IsWord IsWord _ _ (keeps-within at length i k) (λ i' k'. keeps-read x i')))
      keeps-value (Called function arguments) h =
          keeps-tick IsWord _ (keeps-then (AllByRecursion IsWord) IsWord _ _ (keeps-values arguments h) (λ words k. kept.each function words k))
      keeps-value Input h = keeps-tick IsWord _ keeps-input
      keeps-value (Unary op inner) h = keeps-tick IsWord _ (keeps-then IsWord IsWord _ _ (keeps-value inner h) (λ v k. keeps-goes IsWord (unary op v) (unary-word op v)))
      keeps-value (Binary at op left right) h =
          keeps-tick IsWord _ (keeps-then IsWord IsWord _ _ (keeps-value left h.0) (λ v k. keeps-then IsWord IsWord _ _ (keeps-value right h.1) (λ w l. keeps-applied at op v w k l)))
      keeps-value (Both left right) h =
          keeps-tick IsWord _ (keeps-then IsWord IsWord _ _ (keeps-value left h.0) (λ v k. keeps-choose IsWord (holds v) _ _
          (keeps-then IsWord IsWord _ _ (keeps-value right h.1) (λ w l. keeps-goes IsWord (truth (holds w)) (truth-word (holds w)))) (keeps-goes IsWord 0 (truth-word false))))
      keeps-value (Either left right) h =
          keeps-tick IsWord _ (keeps-then IsWord IsWord _ _ (keeps-value left h.0) (λ v k. keeps-choose IsWord (holds v) _ _
          (keeps-goes IsWord 1 (truth-word true)) (keeps-then IsWord IsWord _ _ (keeps-value right h.1) (λ w l. keeps-goes IsWord (truth (holds w)) (truth-word (holds w))))))

      keeps-values : (es : Arguments) → ArgumentsHaveWords es → Keeps (List ℕ) (AllByRecursion IsWord) (values setting calls es)
      keeps-values NoArguments h = keeps-goes (AllByRecursion IsWord) [] tt
      keeps-values (Argument e es) h =
          keeps-then IsWord (AllByRecursion IsWord) _ _ (keeps-value e h.0) (λ v k. keeps-then (AllByRecursion IsWord) (AllByRecursion IsWord) _ _ (keeps-values es h.1) (λ vs l. keeps-goes (AllByRecursion IsWord) (v ∷ vs) (k, l)))

    keeps-value_or_zero : (e : Option Expr) → PartHasWords e → Keeps ℕ IsWord (value_or_zero setting calls e)
    keeps-value_or_zero None h = keeps-goes IsWord 0 (truth-word false)
    keeps-value_or_zero (Some e) h = keeps-value e h

    keeps-condition : (e : Option Expr) → PartHasWords e → Keeps ℕ IsWord (condition setting calls e)
    keeps-condition None h = keeps-goes IsWord 1 (truth-word true)
    keeps-condition (Some e) h = keeps-value e h

    keeps-completed : Keeps Flow GoodFlow completes
    keeps-completed = keeps-goes GoodFlow Completed tt

    keeps-meaning : (st : Stmt) → StmtHasWords st → Keeps Flow GoodFlow (meaning setting calls st)
    keeps-meaning Nothing h = keeps-completed
    keeps-meaning (Then one other) h = keeps-then GoodFlow GoodFlow _ _ (keeps-meaning one h.0) (λ flow k. keeps-after_statement _ flow k (keeps-meaning other h.1))
    keeps-meaning Empty h = keeps-tick GoodFlow _ keeps-completed
    keeps-meaning (Block body) h = keeps-tick GoodFlow _ (keeps-meaning body h)
    keeps-meaning (Local x e) h = keeps-tick GoodFlow _ (keeps-then IsWord GoodFlow _ _ (keeps-value_or_zero e h) (λ v k. keeps-write x 0 v k))
    keeps-meaning (Assign x e) h = keeps-tick GoodFlow _ (keeps-then IsWord GoodFlow _ _ (keeps-value e h) (λ v k. keeps-write x 0 v k))
    keeps-meaning (Store at x length index e) h =
        keeps-tick GoodFlow _ (keeps-then IsWord GoodFlow _ _ (keeps-value index h.0) (λ i k. keeps-then IsWord GoodFlow _ _ (keeps-within at length i k) (λ i' k'. keeps-then IsWord GoodFlow _ _ (keeps-value e h.1) (λ v l. keeps-write x i' v l))))
    keeps-meaning (Call function arguments) h =
        keeps-tick GoodFlow _ (keeps-then (AllByRecursion IsWord) GoodFlow _ _ (keeps-values arguments h) (λ vs k. keeps-then IsWord GoodFlow _ _ (kept.each function vs k) (λ v l. keeps-completed)))
    keeps-meaning Suspend h = keeps-tick GoodFlow _ (keeps-noting after_suspension)
    keeps-meaning (Release e) h = keeps-tick GoodFlow _ (keeps-then IsWord GoodFlow _ _ (keeps-value e h) (λ v k. keeps-release v))
    keeps-meaning Check h = keeps-tick GoodFlow _ (keeps-noting after_check)
    keeps-meaning (Return e) h = keeps-tick GoodFlow _ (keeps-then IsWord GoodFlow _ _ (keeps-value_or_zero e h) (λ v k. keeps-goes GoodFlow (Returned v) k))
    keeps-meaning Break h = keeps-tick GoodFlow _ (keeps-goes GoodFlow Broke tt)
    keeps-meaning Continue h = keeps-tick GoodFlow _ (keeps-goes GoodFlow Continued tt)
    keeps-meaning (If test body other) h =
        keeps-tick GoodFlow _ (keeps-then IsWord GoodFlow _ _ (keeps-value test h.0) (λ v k. keeps-choose GoodFlow (holds v) _ _ (keeps-meaning body h.1) (keeps-meaning other h.2)))
    keeps-meaning (While test body) h = keeps-tick GoodFlow _ (keeps-loop _ (keeps-turn _ _ _ (keeps-value test h.0) (keeps-meaning body h.1) keeps-completed))
    keeps-meaning (For start test step body) h =
        keeps-tick GoodFlow _ (keeps-then GoodFlow GoodFlow _ _ (keeps-meaning start h.0) (λ flow k. keeps-loop _ (keeps-turn _ _ _ (keeps-condition test h.1) (keeps-meaning body h.3) (keeps-meaning step h.2))))

    -- the parameters get words
    given-words : (xs : List Variable) (words : List ℕ) (s : State) → AllByRecursion IsWord words → HasWords s → HasWords (given setting xs words s)
    given-words [] words s h k = k
    given-words (x ∷ xs) [] s h k = k
    given-words (x ∷ xs) (word ∷ words) s h k = given-words xs words (writing setting x 0 word s) h.1 (changed-words x 0 word s h.0 k)

    result-word : (flow : Flow) → GoodFlow flow → IsWord (result_of flow)
    result-word (Returned v) h = h
    result-word Completed h = truth-word false
    result-word Broke h = truth-word false
    result-word Continued h = truth-word false

    keeps-function_meaning : (f : Function) → StmtHasWords f.body → (words : List ℕ) → AllByRecursion IsWord words → Keeps ℕ IsWord (function_meaning setting calls f words)
    keeps-function_meaning f h words k =
        let body : Keeps Flow GoodFlow (meaning setting calls f.body) = keeps-meaning f.body h in
        keeps-tick IsWord _ (keeps-then GoodFlow IsWord (λ s. meaning setting calls f.body (given setting f.parameters words s)) _
        (record { on = λ s small. body.on (given setting f.parameters words s) (given-words f.parameters words s k small) })
        (λ flow g. keeps-goes IsWord (result_of flow) (result-word flow g)))

    keeps-with_function : (number : ℕ) (f : Function) → StmtHasWords f.body → KeepCalls (with_function setting calls number f)
    keeps-with_function number f h = record {
      each = λ function words k. keeps-choose IsWord (number == function) _ _ (keeps-function_meaning f h words k) (kept.each function words k);
    }

  keeps-calls_from : (functions : List Function) → AllByRecursion (λ (f : Function). StmtHasWords f.body) functions → (number : ℕ) (calls : Calls) → KeepCalls calls → KeepCalls (calls_from setting calls number functions)
  keeps-calls_from [] h number calls kept = kept
  keeps-calls_from (f ∷ functions) h number calls kept = keeps-calls_from functions h.1 (number + 1) _ (keeps-with_function calls kept number f h.0)

  keeps-calls : (functions : List Function) → AllByRecursion (λ (f : Function). StmtHasWords f.body) functions → KeepCalls (calls_of setting functions)
  keeps-calls functions h = keeps-calls_from functions h 0 no_calls (record { each = λ function words k. keeps-goes IsWord 0 (truth-word false) })

indexed-word : (words : List ℕ) (i : ℕ) → AllByRecursion IsWord words → IsWord (slice_index words i)
indexed-word [] i h = truth-word false
indexed-word (word ∷ words) zero h = h.0
indexed-word (word ∷ words) (suc i) h = indexed-word words i h.1

first-words : (objects : List Object) → AllByRecursion (λ (object : Object). AllByRecursion IsWord object.first) objects → (x i : ℕ) → IsWord (first_memory objects x i)
first-words [] h x i = truth-word false
first-words (object ∷ objects) h x i = go (object.variable.token == x) (first-words objects h.1 x i)
  where
    go : (b : Bool) → IsWord (first_memory objects x i) → IsWord (cond b (slice_index object.first i) (first_memory objects x i))
    go true k = indexed-word object.first i h.0
    go false k = k

-- where a run ends, memory has words
pub end-has-words : (setting : Setting) (program : Program) (input : List ℕ) (loose : List (Entry Element)) (turns : ℕ) (e : End) (t : State) → ProgramHasWords program →
    outcome_of setting program input loose turns ≡ EndsAs e t → HasWords t
end-has-words setting program input loose turns e t words same =
    subst (IsGood IsWord) same (((keeps-calls setting program.functions words.functions).each program.main [] tt).on (first_state program input loose turns) (first-words program.objects words.objects))
