-- Lowered code has the form of lawful code.
use Rattle.std.proofs.Common.{◌≡◌, ℕ, zero, suc, ◌+◌, ◌-◌, ◌*◌, ◌<◌, ◌≤◌, Bool, true, false, cond, not, ◌==◌, ◌&&◌, ◌||◌, nat_lt, List, [], ◌∷◌, ◌++◌, length, map, Option, Some, None, arith, refl, sym, ◌∙◌, ap, subst, append_assoc}
use Rattle.std.proofs.lemmas.Bool.{eqb-true, eq-eqb}
use Rattle.std.proofs.lemmas.Bool.Decides.{nat_tests}
use Rattle.std.proofs.lemmas.List.{length-append}
use Rattle.std.proofs.lemmas.Option.{slice_get_within}
use Rattle.std.specs.List.{slice_get}
use Rattle.regions.specs.declared.rights.Class.{Class}
use Rattle.regions.specs.declared.rights.Class.TheVariants.{Open, Verified, Private, Constant, Code, Logged}
use Rattle.regions.specs.LooseClasses.{shared_loose, shared_and_logged_loose}
use Rattle.c_semantics.specs.declared.tree.Variable.{Variable}
use Rattle.c_semantics.specs.Nodes.{nodes}
use Rattle.c_semantics.specs.ProgramShape as shape
use Rattle.c_semantics.specs.ProgramShape.{own_tokens, declared_tokens, are_distinct, locals_of, Around, around_of, Occurs, IsAssignable, IsCallable, IsKept, IsObject, AreObjectsShaped, AreFunctionsShaped, IsShaped, word_count}
use Rattle.c_semantics.specs.ResolvedTree.{Function, Object, Program}
use Rattle.ir_code.specs.declared.code.Cell.{Cell}
use Rattle.ir_code.specs.declared.code.Ir.{Ir}
use Rattle.ir_code.specs.declared.ops.Op.{Op}
use Rattle.ir_code.specs.declared.ops.Op.TheVariants as op
use Rattle.ir_code.specs.OpTable as table
use Rattle.ir_code.specs.FlatStates.{words_in, class_in, words_of, class_of, is_label}
use Rattle.ir_code.specs.Lawful.{all_hold, is_among, is_once, named_by, is_constant, is_code, keeps_links, is_scalar, is_written, is_there, has_first, is_data, ends_well, keeps_apart, HasForm, IsLawful}
use Rattle.lowering.specs.Cells.{room_in, class_for, words, cell_count, function_cells, filled_up, first_for, class_or_verified, object_cell, object_cells, cells_of, home_of}
use Rattle.lowering.specs.Lowering.{Scope, labels_of_function, function_code, functions_code, calling_by, is_private_in, all_functions, entry_code, lowered}
use Rattle.lowering.specs.LoweringLaws.{IsSmall, IsLowered, LoweredIsLawful}
use Rattle.lowering.specs.CellLaws.{cells_before}
use Rattle.lowering.proofs.CellsOfFunctions.{cell-at}
use Rattle.lowering.proofs.Fitting.{stmt-room}
use Rattle.lowering.proofs.Forms.{Rules, Each, is_slot, below-holds, GoodOp, AllGood, good-append, good-calling, good-exit, NamesGood, Ground, function-good}
use Rattle.lowering.proofs.Labels.{number_of, many, many-append, below, labels_of_all, functions-labels, at-most-once, below-zero, below-same}
use Rattle.lowering.proofs.Sizing.{cells-few, sizes-follow}
use Rattle.lowering.proofs.Standing.{after-front, front-on}
use Rattle.lowering.proofs.Variables.{Placed, placed, own-home, ObjectAt, object-place, object-home, object-cell-at, front-get}
use Rattle.lowering.proofs.Whole.{among-front, lowers}

-- ---- tests of lists

both : {s t : Bool} → s ≡ true → t ≡ true → (s && t) ≡ true
both {s} {t} h k = ap (λ (x : Bool). x && t) h ∙ k

first-of : (s t : Bool) → (s && t) ≡ true → s ≡ true
first-of true t e = refl
first-of false t e = absurd (grind (arith, e))

second-of : (s t : Bool) → (s && t) ≡ true → t ≡ true
second-of true t e = e
second-of false t e = absurd (grind (arith, e))

hold-append : {A : Type 0} → (test : A → Bool) (one other : List A) → all_hold test one ≡ true → all_hold test other ≡ true → all_hold test (one ++ other) ≡ true
hold-append test [] other h k = k
hold-append test (x ∷ one) other h k = both (first-of (test x) (all_hold test one) h) (hold-append test one other (second-of (test x) (all_hold test one) h) k)

each-hold : (strong weak : ℕ → Bool) → ((x : ℕ) → strong x ≡ true → weak x ≡ true) → (xs : List ℕ) → Each strong xs → all_hold weak xs ≡ true
each-hold strong weak imply [] h = refl
each-hold strong weak imply (x ∷ xs) h = both (imply x h.0) (each-hold strong weak imply xs h.1)

-- what holds of all that each operation names holds of all that is named
named-hold : (R : Rules) (names : Op → List ℕ) (strong weak : ℕ → Bool) → ((o : Op) → GoodOp R o → Each strong (names o)) → ((x : ℕ) → strong x ≡ true → weak x ≡ true) → (ops : List Op) → AllGood R ops →
    all_hold weak (named_by names ops) ≡ true
named-hold R names strong weak of imply [] h = refl
named-hold R names strong weak of imply (o ∷ ops) h =
    hold-append weak (names o) (named_by names ops) (each-hold strong weak imply (names o) (of o h.0)) (named-hold R names strong weak of imply ops h.1)

among-test : (test : ℕ → Bool) (xs : List ℕ) (c : ℕ) → all_hold test xs ≡ true → is_among xs c ≡ true → test c ≡ true
among-test test [] c h e = absurd (grind (arith, e))
among-test test (x ∷ xs) c h e = go (x == c) refl e (λ y. among-test test xs c (second-of (test x) (all_hold test xs) h) y)
  where
    go : (t : Bool) → (x == c) ≡ t → (t || is_among xs c) ≡ true → (is_among xs c ≡ true → test c ≡ true) → test c ≡ true
    go true y z later = ap test (sym (eqb-true x c y)) ∙ first-of (test x) (all_hold test xs) h
    go false y z later = later z

-- what passes a test is apart from what fails it
apart : (test : ℕ → Bool) (links cells : List ℕ) → all_hold test links ≡ true → all_hold (λ c. not (test c)) cells ≡ true → keeps_apart links cells ≡ true
apart test links [] h k = refl
apart test links (c ∷ cells) h k =
    both (go (is_among links c) refl) (apart test links cells h (second-of (not (test c)) (all_hold (λ x. not (test x)) cells) k))
  where
    go : (t : Bool) → is_among links c ≡ t → not t ≡ true
    go false e = refl
    go true e = absurd (grind (arith, among-test test links c h e, first-of (not (test c)) (all_hold (λ x. not (test x)) cells) k))

-- ---- labels, counted in the list of their numbers

abbrev count : ℕ → List ℕ → ℕ
count l [] = 0
count l (x ∷ xs) = cond (l == x) 1 0 + count l xs

count-append : (l : ℕ) (one other : List ℕ) → count l (one ++ other) ≡ count l one + count l other
count-append l [] other = omega arith
count-append l (x ∷ one) other = let h : count l (one ++ other) ≡ count l one + count l other = count-append l one other in omega (arith, h)

label-count : (l : ℕ) (o : Op) → count l (table.labels_of o) ≡ cond (is_label l o) 1 0
label-count l (op.Label m) = omega arith
label-count l (op.Const to value) = refl
label-count l (op.Copy to from) = refl
label-count l (op.Unary operator to a) = refl
label-count l (op.Binary operator to a b) = refl
label-count l (op.Test a n token) = refl
label-count l (op.NonZero a token) = refl
label-count l (op.Load to array index) = refl
label-count l (op.Store array index from) = refl
label-count l (op.Jump m) = refl
label-count l (op.JumpZero a m) = refl
label-count l (op.Arg slot from) = refl
label-count l (op.Param to slot) = refl
label-count l (op.Call m) = refl
label-count l (op.SaveLink cell) = refl
label-count l (op.Return cell) = refl
label-count l (op.SetResult from) = refl
label-count l (op.Result to) = refl
label-count l (op.Input to) = refl
label-count l (op.Release a) = refl
label-count l op.Check = refl
label-count l op.Suspend = refl
label-count l (op.SetMode private) = refl
label-count l op.Exit = refl

labels-counted : (l : ℕ) (ops : List Op) → count l (named_by table.labels_of ops) ≡ many l ops
labels-counted l [] = refl
labels-counted l (o ∷ ops) = omega (arith, count-append l (table.labels_of o) (named_by table.labels_of ops), label-count l o, labels-counted l ops)

count-among : (l : ℕ) (xs : List ℕ) → 1 ≤ count l xs → is_among xs l ≡ true
count-among l [] some = absurd (omega (arith, some))
count-among l (x ∷ xs) some = go (l == x) refl (λ h. count-among l xs h)
  where
    go : (t : Bool) → (l == x) ≡ t → (1 ≤ count l xs → is_among xs l ≡ true) → (x == l || is_among xs l) ≡ true
    go true e later = ap (λ (t : Bool). t || is_among xs l) (eq-eqb x l (sym (eqb-true l x e)))
    go false e later = second (x == l) (later (let z : number_of (l == x) ≡ 0 = ap number_of e in omega (arith, some, z)))
      where
        second : (t : Bool) → is_among xs l ≡ true → (t || is_among xs l) ≡ true
        second true h = refl
        second false h = h

among-count : (l : ℕ) (xs : List ℕ) → is_among xs l ≡ true → 1 ≤ count l xs
among-count l [] e = absurd (grind (arith, e))
among-count l (x ∷ xs) e = go (x == l) refl e (λ h. among-count l xs h)
  where
    go : (t : Bool) → (x == l) ≡ t → (t || is_among xs l) ≡ true → (is_among xs l ≡ true → 1 ≤ count l xs) → 1 ≤ count l (x ∷ xs)
    go true y z later = let one : number_of (l == x) ≡ 1 = ap number_of (eq-eqb l x (sym (eqb-true x l y))) in omega (arith, one)
    go false y z later = let h : 1 ≤ count l xs = later z in omega (arith, h)

once : (xs : List ℕ) → ((l : ℕ) → count l xs ≤ 1) → is_once xs ≡ true
once [] few = refl
once (x ∷ xs) few = both (go (is_among xs x) refl) (once xs (λ l. let h : count l (x ∷ xs) ≤ 1 = few l in omega (arith, h)))
  where
    go : (t : Bool) → is_among xs x ≡ t → not t ≡ true
    go false e = refl
    go true e = absurd (let one : number_of (x == x) ≡ 1 = ap number_of (eq-eqb x x refl) in let h : count x (x ∷ xs) ≤ 1 = few x in omega (arith, h, one, among-count x xs e))

-- how many labels a program has
abbrev total_of : Program → ℕ
total_of p = length p.functions + labels_of_all p.functions

below-one : (l x : ℕ) → l < x → below l x ≡ 1
below-one l x h = ap (λ (t : Bool). cond t 1 0) (below-holds l x h)

many-one : (p : Program) (l : ℕ) → l < total_of p → 1 ≤ many l (lowered p).ops
many-one p l h =
    let e : many l (all_functions p) + below l (length p.functions) + below l 0 ≡ below l (length p.functions + labels_of_all p.functions) + below l (0 + length p.functions) =
    functions-labels p.functions (home_of p) (is_private_in p.functions) 0 (length p.objects) (length p.functions) l in
    let s : below l (0 + length p.functions) ≡ below l (length p.functions) = below-same l _ _ (omega arith) in
    let z : below l 0 ≡ 0 = below-zero l in
    let o : below l (length p.functions + labels_of_all p.functions) ≡ 1 = below-one l _ h in
    let a : many l (lowered p).ops ≡ many l (all_functions p) + many l (entry_code p) = many-append l (all_functions p) (entry_code p) in
    omega (arith, e, s, z, o, a)

holds-below : (a b : ℕ) → nat_lt a b ≡ true → a < b
holds-below a b h = grind (arith, nat_tests, h)

-- ---- which cells are for links

abbrev falses : ℕ → List Bool
falses zero = []
falses (suc n) = false ∷ falses n

falses-at : (n i : ℕ) (rest : List Bool) → i < n → slice_get (falses n ++ rest) i ≡ Some false
falses-at zero i rest low = absurd (omega (arith, low))
falses-at (suc n) zero rest low = refl
falses-at (suc n) (suc i) rest low = falses-at n i rest (omega (arith, low))

length-falses : (n : ℕ) → length (falses n) ≡ n
length-falses zero = refl
length-falses (suc n) = ap suc (length-falses n)

abbrev kinds_in : List Function → List Bool
kinds_in [] = []
kinds_in (f ∷ fs) = (falses (length (own_tokens f)) ++ (true ∷ falses (room_in f.body))) ++ kinds_in fs

abbrev kinds_of : Program → List Bool
kinds_of p = falses (length p.objects) ++ kinds_in p.functions

abbrev holds : Option Bool → Bool
holds None = false
holds (Some t) = t

abbrev is_link : Program → ℕ → Bool
is_link p c = holds (slice_get (kinds_of p) c)

kinds-two : (one other : List Function) → kinds_in (one ++ other) ≡ kinds_in one ++ kinds_in other
kinds-two [] other = refl
kinds-two (f ∷ one) other =
    ap (λ (xs : List Bool). (falses (length (own_tokens f)) ++ (true ∷ falses (room_in f.body))) ++ xs) (kinds-two one other)
    ∙ sym (append_assoc (falses (length (own_tokens f)) ++ (true ∷ falses (room_in f.body))) (kinds_in one) (kinds_in other))

length-kinds : (fs : List Function) → length (kinds_in fs) ≡ cells_before fs
length-kinds [] = refl
length-kinds (f ∷ fs) =
    let h : length (kinds_in fs) ≡ cells_before fs = length-kinds fs in
    let a : length (kinds_in (f ∷ fs)) ≡ length (falses (length (own_tokens f)) ++ (true ∷ falses (room_in f.body))) + length (kinds_in fs) = length-append (falses (length (own_tokens f)) ++ (true ∷ falses (room_in f.body))) (kinds_in fs) in
    let b : length (falses (length (own_tokens f)) ++ (true ∷ falses (room_in f.body))) ≡ length (falses (length (own_tokens f))) + length (true ∷ falses (room_in f.body)) = length-append (falses (length (own_tokens f))) (true ∷ falses (room_in f.body)) in
    omega (arith, h, a, b, length-falses (length (own_tokens f)), length-falses (room_in f.body))

module _ (p : Program) (before after : List Function) (f : Function) (e : p.functions ≡ before ++ f ∷ after) where
  abbrev own : ℕ
  own = length (own_tokens f)

  abbrev base : ℕ
  base = length p.objects + cells_before before

  abbrev front : List Bool
  front = falses (length p.objects) ++ kinds_in before

  all-kinds : kinds_of p ≡ front ++ (falses own ++ (true ∷ (falses (room_in f.body) ++ kinds_in after)))
  all-kinds =
      ap (λ (fs : List Function). falses (length p.objects) ++ kinds_in fs) e
      ∙ ap (λ (xs : List Bool). falses (length p.objects) ++ xs) (kinds-two before (f ∷ after))
      ∙ sym (append_assoc (falses (length p.objects)) (kinds_in before) (kinds_in (f ∷ after)))
      ∙ ap (λ (xs : List Bool). front ++ xs) (append_assoc (falses own) (true ∷ falses (room_in f.body)) (kinds_in after))

  kind-at : (i : ℕ) → slice_get (kinds_of p) (base + i) ≡ slice_get (falses own ++ (true ∷ (falses (room_in f.body) ++ kinds_in after))) i
  kind-at i =
      let place : base + i ≡ length front + i = omega (arith, length-append (falses (length p.objects)) (kinds_in before), length-falses (length p.objects), length-kinds before) in
      ap (λ (xs : List Bool). slice_get xs (base + i)) all-kinds
      ∙ ap (λ (j : ℕ). slice_get (front ++ (falses own ++ (true ∷ (falses (room_in f.body) ++ kinds_in after)))) j) place
      ∙ front-on front (falses own ++ (true ∷ (falses (room_in f.body) ++ kinds_in after))) i

  own-kind : (i : ℕ) → i < own → slice_get (kinds_of p) (base + i) ≡ Some false
  own-kind i low = kind-at i ∙ falses-at own i (true ∷ (falses (room_in f.body) ++ kinds_in after)) low

  link-kind : slice_get (kinds_of p) (base + own) ≡ Some true
  link-kind =
      kind-at own
      ∙ ap (λ (j : ℕ). slice_get (falses own ++ (true ∷ (falses (room_in f.body) ++ kinds_in after))) j) (sym (length-falses own))
      ∙ after-front (falses own) true (falses (room_in f.body) ++ kinds_in after)

  temp-kind : (j : ℕ) → j < room_in f.body → slice_get (kinds_of p) (base + (own + suc j)) ≡ Some false
  temp-kind j low =
      let place : own + suc j ≡ length (falses own) + suc j = omega (arith, length-falses own) in
      kind-at (own + suc j)
      ∙ ap (λ (i : ℕ). slice_get (falses own ++ (true ∷ (falses (room_in f.body) ++ kinds_in after))) i) place
      ∙ front-on (falses own) (true ∷ (falses (room_in f.body) ++ kinds_in after)) (suc j)
      ∙ falses-at (room_in f.body) j (kinds_in after) low

-- ---- what the operations of a program may name

abbrev rules : Program → Rules
rules p = record {
  written = λ c. is_scalar (lowered p) c && (is_written (lowered p) c && not (is_link p c));
  read = λ c. is_scalar (lowered p) c && not (is_link p c);
  loaded = λ c. is_there (cells_of p) c && not (is_link p c);
  stored = λ c. is_there (cells_of p) c && (is_written (lowered p) c && not (is_link p c));
  linked = λ c. is_scalar (lowered p) c && (keeps_links (class_of (lowered p) c) && is_link p c);
  reached = λ l. nat_lt l (total_of p);
}

-- a cell that is for no link
record Plain (p : Program) (c : ℕ) (n : ℕ) (assigned : Type 0) : Type 0 where
  cell : Cell
  stands : slice_get (cells_of p) c ≡ Some cell
  words : cell.words ≡ n
  kind : slice_get (kinds_of p) c ≡ Some false
  changes : assigned → is_constant cell.class ≡ false

module _ (p : Program) (c n : ℕ) (assigned : Type 0) (x : Plain p c n assigned) where
  apart-from-links : not (is_link p c) ≡ true
  apart-from-links = ap (λ (o : Option Bool). not (holds o)) x.kind

  written-cell : assigned → is_written (lowered p) c ≡ true
  written-cell a = ap (λ (o : Option Cell). not (is_constant (class_in o))) x.stands ∙ ap not (x.changes a)

  there-cell : is_there (cells_of p) c ≡ true
  there-cell = below-holds c (length (cells_of p)) (slice_get_within (cells_of p) c x.cell x.stands)

  scalar-cell : n ≡ 1 → is_scalar (lowered p) c ≡ true
  scalar-cell e = ap (λ (o : Option Cell). words_in o == 1) x.stands ∙ eq-eqb x.cell.words 1 (x.words ∙ e)

  plain-read : n ≡ 1 → (rules p).read c ≡ true
  plain-read e = both (scalar-cell e) apart-from-links

  plain-written : n ≡ 1 → assigned → (rules p).written c ≡ true
  plain-written e a = both (scalar-cell e) (both (written-cell a) apart-from-links)

  plain-loaded : (rules p).loaded c ≡ true
  plain-loaded = both there-cell apart-from-links

  plain-stored : assigned → (rules p).stored c ≡ true
  plain-stored a = both there-cell (both (written-cell a) apart-from-links)

own-changes : (t : Bool) → is_constant (class_for t) ≡ false
own-changes true = refl
own-changes false = refl

object-changes : (class : Class) → IsAssignable (Some class) → is_constant class ≡ false
object-changes Open a = refl
object-changes Verified a = refl
object-changes Private a = refl
object-changes Constant a = absurd a
object-changes Code a = refl
object-changes Logged a = refl

few-each : (objects : List Object) (before fs : List Function) → AreFunctionsShaped objects before fs → (number : ℕ) (f : Function) → slice_get fs number ≡ Some f → length f.parameters ≤ 6
few-each objects before [] h number f e = absurd (grind (arith, e))
few-each objects before (g ∷ fs) h zero f e = let same : g ≡ f = cc in subst (λ (x : Function). length x.parameters ≤ 6) same h.0.parameters
few-each objects before (g ∷ fs) h (suc number) f e = few-each objects (before ++ g ∷ []) fs h.1 number f e

module _ (p : Program) (shaped : IsShaped p) (before after : List Function) (f : Function) (e : p.functions ≡ before ++ f ∷ after) where
  abbrev around : Around
  around = around_of p.objects before f

  own-plain : (token : ℕ) → shape.is_among (own_tokens f) token ≡ true → Plain p (home_of p token) 1 (Unit {0})
  own-plain token h =
      let at : Placed (own_tokens f) token = placed (own_tokens f) token h in
      let home : home_of p token ≡ length p.objects + cells_before before + at.place = own-home p before after f token shaped.tokens e at in
      record {
        cell = record { class = class_for f.private; words = 1; first = [] };
        stands = ap (λ (c : ℕ). slice_get (cells_of p) c) home ∙ cell-at p before after f at.place e (omega (arith, at.within));
        words = refl;
        kind = ap (λ (c : ℕ). slice_get (kinds_of p) c) home ∙ own-kind p before after f e at.place at.within;
        changes = λ a. own-changes f.private;
      }

  object-plain : (token : ℕ) (class : Class) (n : Option ℕ) → IsObject around (record { token = token; class = Some class }) class n → Plain p (home_of p token) (word_count n) (IsAssignable (Some class))
  object-plain token class n h =
      let o : Object = record { variable = record { token = token; class = Some class }; length = n; first = h.first } in
      let at : ObjectAt p.objects token o = object-place p.objects token o h.declared in
      let home : home_of p token ≡ at.place = object-home p token o shaped.tokens at in
      record {
        cell = object_cell o;
        stands = ap (λ (c : ℕ). slice_get (cells_of p) c) home ∙ object-cell-at p token o at;
        words = refl;
        kind = ap (λ (c : ℕ). slice_get (kinds_of p) c) home ∙ falses-at (length p.objects) at.place (kinds_in p.functions) at.within;
        changes = λ a. object-changes class a;
      }

  plain : (token : ℕ) (class : Option Class) (n : Option ℕ) → Occurs around (record { token = token; class = class }) n → Plain p (home_of p token) (word_count n) (IsAssignable class)
  plain token None None h = own-plain token h
  plain token None (Some n) h = absurd h
  plain token (Some class) n h = object-plain token class n h

  names-good : NamesGood (rules p) (home_of p) around
  names-good = record {
    scalar = λ x h. plain-read p (home_of p x.token) 1 (IsAssignable x.class) (plain x.token x.class None h) refl;
    array = λ x n h. plain-loaded p (home_of p x.token) n (IsAssignable x.class) (plain x.token x.class (Some n) h);
    assigned = λ x h a. plain-written p (home_of p x.token) 1 (IsAssignable x.class) (plain x.token x.class None h) refl a;
    changed = λ x n h a. plain-stored p (home_of p x.token) n (IsAssignable x.class) (plain x.token x.class (Some n) h) a;
    own = λ x c h. plain-written p (home_of p x.token) 1 (Unit {0}) (own-plain x.token h) refl tt;
    callable = λ function count h.
        let stands : slice_get p.functions function ≡ Some h.callee = ap (λ (fs : List Function). slice_get fs function) e ∙ front-get before (f ∷ after) function h.callee h.stands in
        let low : function < length p.functions = slice_get_within p.functions function h.callee stands in
        let few : length h.callee.parameters ≤ 6 = few-each p.objects [] p.functions shaped.functions function h.callee stands in
        (below-holds function (total_of p) (omega (arith, low)), omega (arith, few, h.count));
  }

  frame-cell : (i : ℕ) → i < cell_count f → slice_get (cells_of p) (base p before after f e + i) ≡ Some (record { class = class_for f.private; words = 1; first = [] })
  frame-cell i low = cell-at p before after f i e low

  temp-plain : (c : ℕ) → length p.objects + cells_before before + length (own_tokens f) < c → c ≤ length p.objects + cells_before before + length (own_tokens f) + room_in f.body → Plain p c 1 (Unit {0})
  temp-plain c low high =
      let j : ℕ = c - (length p.objects + cells_before before + length (own_tokens f) + 1) in
      let place : c ≡ length p.objects + cells_before before + (length (own_tokens f) + suc j) = omega (arith, low) in
      record {
        cell = record { class = class_for f.private; words = 1; first = [] };
        stands = ap (λ (x : ℕ). slice_get (cells_of p) x) place ∙ cell-at p before after f (length (own_tokens f) + suc j) e (omega (arith, low, high));
        words = refl;
        kind = ap (λ (x : ℕ). slice_get (kinds_of p) x) place ∙ temp-kind p before after f e j (omega (arith, low, high));
        changes = λ a. own-changes f.private;
      }

  link-linked : (rules p).linked (length p.objects + cells_before before + length (own_tokens f)) ≡ true
  link-linked =
      let cell : slice_get (cells_of p) (length p.objects + cells_before before + length (own_tokens f)) ≡ Some (record { class = class_for f.private; words = 1; first = [] }) = cell-at p before after f (length (own_tokens f)) e (omega arith) in
      both (ap (λ (o : Option Cell). words_in o == 1) cell)
      (both (ap (λ (o : Option Cell). keeps_links (class_in o)) cell ∙ kept f.private) (ap holds (link-kind p before after f e)))
    where
      kept : (t : Bool) → keeps_links (class_for t) ≡ true
      kept true = refl
      kept false = refl

  ground : (scope : Scope) → scope.home ≡ home_of p → Ground (rules p) scope around (length p.objects + cells_before before + length (own_tokens f)) (length p.objects + cells_before before + length (own_tokens f) + room_in f.body) (total_of p)
  ground scope h = record {
    written = λ c low high. plain-written p c 1 (Unit {0}) (temp-plain c low high) refl tt;
    read = λ c low high. plain-read p c 1 (Unit {0}) (temp-plain c low high) refl;
    reached = λ l low. below-holds l (total_of p) low;
    linked = link-linked;
    names = subst (λ (home : ℕ → ℕ). NamesGood (rules p) home around) (sym h) names-good;
  }

-- ---- all functions

labels-two : (one other : List Function) → labels_of_all (one ++ other) ≡ labels_of_all one + labels_of_all other
labels-two [] other = omega arith
labels-two (f ∷ one) other = let h : labels_of_all (one ++ other) ≡ labels_of_all one + labels_of_all other = labels-two one other in omega (arith, h)

cells-two : (one : List Function) (f : Function) → cells_before (one ++ f ∷ []) ≡ cells_before one + cell_count f
cells-two [] f = omega arith
cells-two (g ∷ one) f = let h : cells_before (one ++ f ∷ []) ≡ cells_before one + cell_count f = cells-two one f in omega (arith, h)

functions-good : (p : Program) (shaped : IsShaped p) (before fs : List Function) (number cell label : ℕ) → p.functions ≡ before ++ fs → cell ≡ length p.objects + cells_before before → label ≡ length p.functions + labels_of_all before →
    AreFunctionsShaped p.objects before fs → AllGood (rules p) (functions_code (home_of p) (is_private_in p.functions) number cell label fs)
functions-good p shaped before [] number cell label e c l h = tt
functions-good p shaped before (f ∷ fs) number cell label e c l h =
    good-append (rules p) (function_code scope number (cell + length (own_tokens f)) label f) _
    (subst (λ (x : ℕ). AllGood (rules p) (function_code scope number (x + length (own_tokens f)) label f)) (sym c)
    (function-good (rules p) scope (around_of p.objects before f) (length p.objects + cells_before before + length (own_tokens f)) (length p.objects + cells_before before + length (own_tokens f) + room_in f.body) (total_of p)
    (ground p shaped before fs f e scope refl) f number label refl (stmt-room f.body) within h.0.parameters h.0.unclassed
    (λ token x. among-front (map (λ (y : Variable). y.token) f.parameters) (locals_of f.body) token x) h.0.names))
    (functions-good p shaped (before ++ f ∷ []) fs (number + 1) (cell + cell_count f) (label + labels_of_function f) (e ∙ sym (append_assoc before (f ∷ []) fs)) (omega (arith, c, cells-two before f))
    (omega (arith, l, labels-two before (f ∷ []))) h.1)
  where
    scope : Scope
    scope = record { home = home_of p; is_private = is_private_in p.functions; private = f.private }

    within : label + labels_of_function f ≤ total_of p
    within =
        let all : labels_of_all p.functions ≡ labels_of_all before + labels_of_all (f ∷ fs) = ap labels_of_all e ∙ labels-two before (f ∷ fs) in
        omega (arith, l, all)

program-good : (p : Program) → IsShaped p → AllGood (rules p) (lowered p).ops
program-good p shaped =
    let low : p.main < length p.functions = slice_get_within p.functions p.main shaped.main.main shaped.main.stands in
    good-append (rules p) (all_functions p) (entry_code p)
    (functions-good p shaped [] p.functions 0 (length p.objects) (length p.functions) refl (omega arith) (omega arith) shaped.functions)
    (good-append (rules p) (calling_by false (is_private_in p.functions p.main) p.main) (op.Exit ∷ [])
    (good-calling (rules p) false (is_private_in p.functions p.main) p.main (below-holds p.main (total_of p) (omega (arith, low)))) (good-exit, tt))

-- ---- cells

words-hold : (test : Cell → Bool) (class : Class) (n : ℕ) → test (record { class = class; words = 1; first = [] }) ≡ true → all_hold test (words class n) ≡ true
words-hold test class zero h = refl
words-hold test class (suc n) h = both h (words-hold test class n h)

functions-hold : (test : Cell → Bool) → ((t : Bool) → test (record { class = class_for t; words = 1; first = [] }) ≡ true) → (fs : List Function) → all_hold test (function_cells fs) ≡ true
functions-hold test h [] = refl
functions-hold test h (f ∷ fs) = hold-append test (words (class_for f.private) (cell_count f)) (function_cells fs) (words-hold test (class_for f.private) (cell_count f) (h f.private)) (functions-hold test h fs)

length-filled : (n : ℕ) (first : List ℕ) → length (filled_up n first) ≡ n
length-filled zero first = refl
length-filled (suc n) [] = ap suc (length-filled n [])
length-filled (suc n) (word ∷ first) = ap suc (length-filled n first)

object-data : (class : Option Class) (n : ℕ) (first : List ℕ) → IsKept class → is_data (record { class = class_or_verified class; words = n; first = first_for (class_or_verified class) n first }) ≡ true
object-data None n first h = absurd h
object-data (Some Open) n first h = refl
object-data (Some Verified) n first h = refl
object-data (Some Private) n first h = refl
object-data (Some Constant) n first h = refl
object-data (Some Code) n first h = absurd h
object-data (Some Logged) n first h = refl

object-first : (class : Option Class) (n : ℕ) (first : List ℕ) → has_first (record { class = class_or_verified class; words = n; first = first_for (class_or_verified class) n first }) ≡ true
object-first None n first = refl
object-first (Some Open) n first = refl
object-first (Some Verified) n first = refl
object-first (Some Private) n first = refl
object-first (Some Constant) n first = eq-eqb (length (filled_up n first)) n (length-filled n first)
object-first (Some Code) n first = refl
object-first (Some Logged) n first = refl

objects-data : (os : List Object) → AreObjectsShaped os → all_hold is_data (object_cells os) ≡ true
objects-data [] h = refl
objects-data (o ∷ os) h = both (object-data o.variable.class (word_count o.length) o.first h.0.class) (objects-data os h.1)

objects-first : (os : List Object) → all_hold has_first (object_cells os) ≡ true
objects-first [] = refl
objects-first (o ∷ os) = both (object-first o.variable.class (word_count o.length) o.first) (objects-first os)

own-data : (t : Bool) → is_data (record { class = class_for t; words = 1; first = [] }) ≡ true
own-data true = refl
own-data false = refl

own-first : (t : Bool) → has_first (record { class = class_for t; words = 1; first = [] }) ≡ true
own-first true = refl
own-first false = refl

-- ---- the form

exits-well : (ops : List Op) → ends_well (ops ++ (op.Exit ∷ [])) ≡ true
exits-well [] = refl
exits-well (o ∷ []) = refl
exits-well (o ∷ q ∷ ops) = exits-well (q ∷ ops)

pub form : (p : Program) → IsShaped p → IsSmall p → HasForm (lowered p)
form p shaped small = record {
  ops = omega (arith, (sizes-follow p).count, small.nodes);
  cells = omega (arith, cells-few p, small.nodes, small.objects);
  entry = omega (arith, length-append (all_functions p) (entry_code p), length-append (calling_by false (is_private_in p.functions p.main) p.main) (op.Exit ∷ []));
  written_fit = named-hold R table.targets R.written (is_scalar (lowered p)) (λ o g. g.targets) (λ c h. first-of _ _ h) (lowered p).ops good;
  read_fit = named-hold R table.sources R.read (is_scalar (lowered p)) (λ o g. g.sources) (λ c h. first-of _ _ h) (lowered p).ops good;
  loaded_there = named-hold R table.loaded R.loaded (is_there (cells_of p)) (λ o g. g.loaded) (λ c h. first-of _ _ h) (lowered p).ops good;
  stored_there = named-hold R table.stored R.stored (is_there (cells_of p)) (λ o g. g.stored) (λ c h. first-of _ _ h) (lowered p).ops good;
  labels_there = named-hold R table.goes_to R.reached (is_among labels) (λ o g. g.goes) (λ l h. there l (holds-below l (total_of p) h)) (lowered p).ops good;
  slots_there = named-hold R table.slots_of is_slot (λ slot. nat_lt slot 6) (λ o g. g.slots) (λ c h. h) (lowered p).ops good;
  labels_once = once labels (λ l. omega (arith, labels-counted l (lowered p).ops, at-most-once p l));
  last = ap ends_well (sym (append_assoc (all_functions p) (calling_by false (is_private_in p.functions p.main) p.main) (op.Exit ∷ []))) ∙ exits-well (all_functions p ++ calling_by false (is_private_in p.functions p.main) p.main);
  no_code = hold-append is_data (object_cells p.objects) (function_cells p.functions) (objects-data p.objects shaped.objects) (functions-hold is_data own-data p.functions);
  first = hold-append has_first (object_cells p.objects) (function_cells p.functions) (objects-first p.objects) (functions-hold has_first own-first p.functions);
  constants = hold-append (is_written (lowered p)) (named_by table.targets (lowered p).ops) (named_by table.stored (lowered p).ops)
      (named-hold R table.targets R.written (is_written (lowered p)) (λ o g. g.targets) (λ c h. first-of _ _ (second-of _ _ h)) (lowered p).ops good)
      (named-hold R table.stored R.stored (is_written (lowered p)) (λ o g. g.stored) (λ c h. first-of _ _ (second-of _ _ h)) (lowered p).ops good);
  links_fit = named-hold R table.link_cells R.linked (is_scalar (lowered p)) (λ o g. g.links) (λ c h. first-of _ _ h) (lowered p).ops good;
  links_kept = named-hold R table.link_cells R.linked (λ c. keeps_links (class_of (lowered p) c)) (λ o g. g.links) (λ c h. first-of _ _ (second-of _ _ h)) (lowered p).ops good;
  links_apart = apart (is_link p) (named_by table.link_cells (lowered p).ops) _
      (named-hold R table.link_cells R.linked (is_link p) (λ o g. g.links) (λ c h. second-of _ _ (second-of _ _ h)) (lowered p).ops good)
      (hold-append no_link _ (named_by table.stored (lowered p).ops)
      (hold-append no_link _ (named_by table.loaded (lowered p).ops)
      (hold-append no_link (named_by table.targets (lowered p).ops) (named_by table.sources (lowered p).ops)
      (named-hold R table.targets R.written no_link (λ o g. g.targets) (λ c h. second-of _ _ (second-of _ _ h)) (lowered p).ops good)
      (named-hold R table.sources R.read no_link (λ o g. g.sources) (λ c h. second-of _ _ h) (lowered p).ops good))
      (named-hold R table.loaded R.loaded no_link (λ o g. g.loaded) (λ c h. second-of _ _ h) (lowered p).ops good))
      (named-hold R table.stored R.stored no_link (λ o g. g.stored) (λ c h. second-of _ _ (second-of _ _ h)) (lowered p).ops good));
}
  where
    R : Rules
    R = rules p

    good : AllGood R (lowered p).ops
    good = program-good p shaped

    labels : List ℕ
    labels = named_by table.labels_of (lowered p).ops

    no_link : ℕ → Bool
    no_link c = not (is_link p c)

    there : (l : ℕ) → l < total_of p → is_among labels l ≡ true
    there l h = count-among l labels (omega (arith, labels-counted l (lowered p).ops, many-one p l h))

pub lowered-is-lawful : LoweredIsLawful
lowered-is-lawful p shaped plainly small =
    let f : HasForm (lowered p) = form p shaped small in
    let l : IsLowered shared_and_logged_loose p × IsLowered shared_loose p = lowers p shaped plainly in
    (record { form = f; runs = l.0.runs }, record { form = f; runs = l.1.runs })
