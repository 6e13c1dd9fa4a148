-- Each label stands once in the code of a program.
use Rattle.std.proofs.Common.{◌≡◌, ℕ, zero, suc, ◌+◌, ◌-◌, ◌≤◌, Bool, true, false, cond, ◌==◌, nat_lt, List, [], ◌∷◌, ◌++◌, length, Option, Some, None, arith, refl, sym, ◌∙◌, ap, subst}
use Rattle.std.proofs.lemmas.Bool.{eq-eqb}
use Rattle.std.proofs.lemmas.Bool.Decides.{nat_tests}
use Rattle.std.specs.List.{slice_get}
use Rattle.aegis_num.specs.declared.operators.BinaryOp.{BinaryOp}
use Rattle.aegis_num.specs.Operators.{is_division}
use Rattle.c_semantics.specs.declared.tree.Variable.{Variable}
use Rattle.c_semantics.specs.ResolvedTree.{Arguments, NoArguments, Argument, Expr, Number, Scalar, Indexed, Called, Input, Unary, Binary, Both, Either, Stmt, Nothing, Then, Empty, Block, Local, Assign, Store, Call, Suspend, Release, Check, Return, Break, Continue, If, While, For, Function, Program}
use Rattle.ir_code.specs.declared.ops.Op.{Op}
use Rattle.ir_code.specs.declared.ops.Op.TheVariants as op
use Rattle.ir_code.specs.FlatStates.{is_label, label_from, label_place}
use Rattle.c_semantics.specs.ProgramShape.{own_tokens}
use Rattle.lowering.specs.Cells.{room_in, cell_count, home_of}
use Rattle.lowering.specs.Lowering.{Scope, Exits, labels_in, labels_in_all, labels_in_part, labels_within, passing, calling_by, testing_divisor, value_code, values_code, value_or, statement_code, taking, function_code, functions_code, labels_of_function, is_private_in, all_functions, entry_code, lowered}

-- how often a label stands
abbrev pub many : ℕ → List Op → ℕ
many l [] = 0
many l (o ∷ ops) = cond (is_label l o) 1 0 + many l ops

pub many-append : (l : ℕ) (one other : List Op) → many l (one ++ other) ≡ many l one + many l other
many-append l [] other = omega arith
many-append l (o ∷ one) other = let h : many l (one ++ other) ≡ many l one + many l other = many-append l one other in omega (arith, h)

-- 1 where a test holds
abbrev pub number_of : Bool → ℕ
number_of t = cond t 1 0

-- 1 below a number, and 0 from it on
abbrev pub below : ℕ → ℕ → ℕ
below l x = cond (nat_lt l x) 1 0

-- 1 at a number
abbrev pub one_at : ℕ → ℕ → ℕ
one_at l x = cond (l == x) 1 0

pub below-next : (l x y : ℕ) → y ≡ x + 1 → below l y ≡ below l x + one_at l x
below-next l x y e = grind (arith, nat_tests)

pub below-same : (l x y : ℕ) → x ≡ y → below l x ≡ below l y
below-same l x y e = ap (λ (z : ℕ). below l z) e

none-passing : (l i r : ℕ) (arguments : Arguments) → many l (passing i r arguments) ≡ 0
none-passing l i r NoArguments = refl
none-passing l i r (Argument value later) = let h : many l (passing (i + 1) (r - 1) later) ≡ 0 = none-passing l (i + 1) (r - 1) later in omega (arith, h)

none-calling : (l : ℕ) (caller callee : Bool) (function : ℕ) → many l (calling_by caller callee function) ≡ 0
none-calling l true true function = refl
none-calling l false false function = refl
none-calling l true false function = refl
none-calling l false true function = refl

none-testing : (l : ℕ) (operator : BinaryOp) (r at : ℕ) → many l (testing_divisor operator r at) ≡ 0
none-testing l operator r at = go (is_division operator)
  where
    go : (t : Bool) → many l (cond t (op.NonZero r at ∷ []) []) ≡ 0
    go true = refl
    go false = refl

pub none-taking : (scope : Scope) (l i : ℕ) (xs : List Variable) → many l (taking scope i xs) ≡ 0
none-taking scope l i [] = refl
none-taking scope l i (x ∷ xs) = let h : many l (taking scope (i + 1) xs) ≡ 0 = none-taking scope l (i + 1) xs in omega (arith, h)

-- The labels of a stretch of code are those from one number up to another, each once.
mutual
  pub value-labels : (e : Expr) (scope : Scope) (r label l : ℕ) → many l (value_code scope r label e) + below l label ≡ below l (label + labels_in e)
  value-labels (Number word) scope r label l = let s : below l label ≡ below l (label + 0) = below-same l label (label + 0) (omega arith) in omega (arith, s)
  value-labels (Scalar x) scope r label l = let s : below l label ≡ below l (label + 0) = below-same l label (label + 0) (omega arith) in omega (arith, s)
  value-labels (Indexed at x length index) scope r label l =
      let h : many l (value_code scope r label index) + below l label ≡ below l (label + labels_in index) = value-labels index scope r label l in
      simp many-append (omega (arith, h))
  value-labels (Called function arguments) scope r label l =
      let h : many l (values_code scope r label arguments) + below l label ≡ below l (label + labels_in_all arguments) = values-labels arguments scope r label l in
      simp many-append (omega (arith, h, none-passing l 0 r arguments, none-calling l scope.private (scope.is_private function) function))
  value-labels Input scope r label l = let s : below l label ≡ below l (label + 0) = below-same l label (label + 0) (omega arith) in omega (arith, s)
  value-labels (Unary operator inner) scope r label l =
      let h : many l (value_code scope r label inner) + below l label ≡ below l (label + labels_in inner) = value-labels inner scope r label l in
      simp many-append (omega (arith, h))
  value-labels (Binary at operator left right) scope r label l =
      let h : many l (value_code scope r label left) + below l label ≡ below l (label + labels_in left) = value-labels left scope r label l in
      let k : many l (value_code scope (r - 1) (label + labels_in left) right) + below l (label + labels_in left) ≡ below l (label + labels_in left + labels_in right) = value-labels right scope (r - 1) (label + labels_in left) l in
      let s : below l (label + labels_in left + labels_in right) ≡ below l (label + (labels_in left + labels_in right)) = below-same l _ _ (omega arith) in
      simp many-append (omega (arith, h, k, s, none-testing l operator (r - 1) at))
  value-labels (Both left right) scope r label l =
      let n : below l (label + 1) ≡ below l label + one_at l label = below-next l label (label + 1) refl in
      let h : many l (value_code scope r (label + 1) left) + below l (label + 1) ≡ below l (label + 1 + labels_in left) = value-labels left scope r (label + 1) l in
      let k : many l (value_code scope r (label + 1 + labels_in left) right) + below l (label + 1 + labels_in left) ≡ below l (label + 1 + labels_in left + labels_in right) = value-labels right scope r (label + 1 + labels_in left) l in
      let s : below l (label + 1 + labels_in left + labels_in right) ≡ below l (label + (1 + (labels_in left + labels_in right))) = below-same l _ _ (omega arith) in
      simp many-append (omega (arith, n, h, k, s))
  value-labels (Either left right) scope r label l =
      let n : below l (label + 1) ≡ below l label + one_at l label = below-next l label (label + 1) refl in
      let h : many l (value_code scope r (label + 1) left) + below l (label + 1) ≡ below l (label + 1 + labels_in left) = value-labels left scope r (label + 1) l in
      let k : many l (value_code scope r (label + 1 + labels_in left) right) + below l (label + 1 + labels_in left) ≡ below l (label + 1 + labels_in left + labels_in right) = value-labels right scope r (label + 1 + labels_in left) l in
      let s : below l (label + 1 + labels_in left + labels_in right) ≡ below l (label + (1 + (labels_in left + labels_in right))) = below-same l _ _ (omega arith) in
      simp many-append (omega (arith, n, h, k, s))

  pub values-labels : (arguments : Arguments) (scope : Scope) (r label l : ℕ) → many l (values_code scope r label arguments) + below l label ≡ below l (label + labels_in_all arguments)
  values-labels NoArguments scope r label l = let s : below l label ≡ below l (label + 0) = below-same l label (label + 0) (omega arith) in omega (arith, s)
  values-labels (Argument first later) scope r label l =
      let h : many l (value_code scope r label first) + below l label ≡ below l (label + labels_in first) = value-labels first scope r label l in
      let k : many l (values_code scope (r - 1) (label + labels_in first) later) + below l (label + labels_in first) ≡ below l (label + labels_in first + labels_in_all later) = values-labels later scope (r - 1) (label + labels_in first) l in
      let s : below l (label + labels_in first + labels_in_all later) ≡ below l (label + (labels_in first + labels_in_all later)) = below-same l _ _ (omega arith) in
      simp many-append (omega (arith, h, k, s))

pub part-labels : (e : Option Expr) (scope : Scope) (missing r label l : ℕ) → many l (value_or missing scope r label e) + below l label ≡ below l (label + labels_in_part e)
part-labels None scope missing r label l = let s : below l label ≡ below l (label + 0) = below-same l label (label + 0) (omega arith) in omega (arith, s)
part-labels (Some e) scope missing r label l = value-labels e scope r label l

-- a label that stands once is found where it stands
pub once-found : (ops : List Op) (from l p : ℕ) → many l ops ≤ 1 → slice_get ops p ≡ Some (op.Label l) → label_from from ops l ≡ Some (from + p)
once-found [] from l p few st = absurd (grind (arith, st))
once-found (o ∷ ops) from l zero few st = ap (λ (t : Bool). cond t (Some from) (label_from (from + 1) ops l)) (here o st) ∙ ap (λ (x : ℕ). Some x) (omega arith)
  where
    here : (o' : Op) → Some o' ≡ Some (op.Label l) → is_label l o' ≡ true
    here o' e = subst (λ (x : Option Op). is_label_in x ≡ true) (sym e) (eq-eqb l l refl)
      where
        is_label_in : Option Op → Bool
        is_label_in None = false
        is_label_in (Some x) = is_label l x
once-found (o ∷ ops) from l (suc p) few st = go (is_label l o) refl (λ x. once-found ops (from + 1) l p x st) (stands ops p st)
  where
    go : (t : Bool) → is_label l o ≡ t → (many l ops ≤ 1 → label_from (from + 1) ops l ≡ Some (from + 1 + p)) → 1 ≤ many l ops → cond (is_label l o) (Some from) (label_from (from + 1) ops l) ≡ Some (from + suc p)
    go true e later some = absurd (let x : cond (is_label l o) 1 0 ≡ 1 = ap number_of e in omega (arith, few, x, some))
    go false e later some =
        ap (λ (t : Bool). cond t (Some from) (label_from (from + 1) ops l)) e ∙ later (omega (arith, few)) ∙ ap (λ (x : ℕ). Some x) (omega arith)

    stands : (ops' : List Op) (p' : ℕ) → slice_get ops' p' ≡ Some (op.Label l) → 1 ≤ many l ops'
    stands [] p' e = absurd (grind (arith, e))
    stands (o' ∷ ops') zero e = let x : cond (is_label l o') 1 0 ≡ 1 = subst (λ (y : Option Op). counted y ≡ 1) (sym e) (ap number_of (eq-eqb l l refl)) in omega (arith, x)
      where
        counted : Option Op → ℕ
        counted None = 0
        counted (Some x) = cond (is_label l x) 1 0
    stands (o' ∷ ops') (suc p') e = let x : 1 ≤ many l ops' = stands ops' p' e in omega (arith, x)

-- ---- statements

pub statement-labels : (st : Stmt) (scope : Scope) (exits : Exits) (r label l : ℕ) → many l (statement_code scope exits r label st) + below l label ≡ below l (label + labels_within st)
statement-labels Nothing scope exits r label l = let s : below l label ≡ below l (label + 0) = below-same l label (label + 0) (omega arith) in omega (arith, s)
statement-labels (Then first second) scope exits r label l =
    let h : many l (statement_code scope exits r label first) + below l label ≡ below l (label + labels_within first) = statement-labels first scope exits r label l in
    let k : many l (statement_code scope exits r (label + labels_within first) second) + below l (label + labels_within first) ≡ below l (label + labels_within first + labels_within second) = statement-labels second scope exits r (label + labels_within first) l in
    let s : below l (label + labels_within first + labels_within second) ≡ below l (label + (labels_within first + labels_within second)) = below-same l _ _ (omega arith) in
    simp many-append (omega (arith, h, k, s))
statement-labels Empty scope exits r label l = let s : below l label ≡ below l (label + 0) = below-same l label (label + 0) (omega arith) in omega (arith, s)
statement-labels (Block body) scope exits r label l = statement-labels body scope exits r label l
statement-labels (Local x value) scope exits r label l =
    let h : many l (value_or 0 scope r label value) + below l label ≡ below l (label + labels_in_part value) = part-labels value scope 0 r label l in
    simp many-append (omega (arith, h))
statement-labels (Assign x value) scope exits r label l =
    let h : many l (value_code scope r label value) + below l label ≡ below l (label + labels_in value) = value-labels value scope r label l in
    simp many-append (omega (arith, h))
statement-labels (Store at x length index value) scope exits r label l =
    let h : many l (value_code scope r label index) + below l label ≡ below l (label + labels_in index) = value-labels index scope r label l in
    let k : many l (value_code scope (r - 1) (label + labels_in index) value) + below l (label + labels_in index) ≡ below l (label + labels_in index + labels_in value) = value-labels value scope (r - 1) (label + labels_in index) l in
    let s : below l (label + labels_in index + labels_in value) ≡ below l (label + (labels_in index + labels_in value)) = below-same l _ _ (omega arith) in
    simp many-append (omega (arith, h, k, s))
statement-labels (Call function arguments) scope exits r label l =
    let h : many l (values_code scope r label arguments) + below l label ≡ below l (label + labels_in_all arguments) = values-labels arguments scope r label l in
    simp many-append (omega (arith, h, none-passing l 0 r arguments, none-calling l scope.private (scope.is_private function) function))
statement-labels Suspend scope exits r label l = let s : below l label ≡ below l (label + 0) = below-same l label (label + 0) (omega arith) in omega (arith, s)
statement-labels (Release value) scope exits r label l =
    let h : many l (value_code scope r label value) + below l label ≡ below l (label + labels_in value) = value-labels value scope r label l in
    simp many-append (omega (arith, h))
statement-labels Check scope exits r label l = let s : below l label ≡ below l (label + 0) = below-same l label (label + 0) (omega arith) in omega (arith, s)
statement-labels (Return value) scope exits r label l =
    let h : many l (value_or 0 scope r label value) + below l label ≡ below l (label + labels_in_part value) = part-labels value scope 0 r label l in
    simp many-append (omega (arith, h))
statement-labels Break scope exits r label l = let s : below l label ≡ below l (label + 0) = below-same l label (label + 0) (omega arith) in omega (arith, s)
statement-labels Continue scope exits r label l = let s : below l label ≡ below l (label + 0) = below-same l label (label + 0) (omega arith) in omega (arith, s)
statement-labels (If test body other) scope exits r label l =
    let one : below l (label + 1) ≡ below l label + one_at l label = below-next l label (label + 1) refl in
    let two : below l (label + 2) ≡ below l (label + 1) + one_at l (label + 1) = below-next l (label + 1) (label + 2) (omega arith) in
    let h : many l (value_code scope r (label + 2) test) + below l (label + 2) ≡ below l (label + 2 + labels_in test) = value-labels test scope r (label + 2) l in
    let k : many l (statement_code scope exits r (label + 2 + labels_in test) body) + below l (label + 2 + labels_in test) ≡ below l (label + 2 + labels_in test + labels_within body) = statement-labels body scope exits r (label + 2 + labels_in test) l in
    let m : many l (statement_code scope exits r (label + 2 + labels_in test + labels_within body) other) + below l (label + 2 + labels_in test + labels_within body) ≡ below l (label + 2 + labels_in test + labels_within body + labels_within other) = statement-labels other scope exits r (label + 2 + labels_in test + labels_within body) l in
    let s : below l (label + 2 + labels_in test + labels_within body + labels_within other) ≡ below l (label + (2 + (labels_in test + (labels_within body + labels_within other)))) = below-same l _ _ (omega arith) in
    simp many-append (omega (arith, one, two, h, k, m, s))
statement-labels (While test body) scope exits r label l =
    let one : below l (label + 1) ≡ below l label + one_at l label = below-next l label (label + 1) refl in
    let two : below l (label + 2) ≡ below l (label + 1) + one_at l (label + 1) = below-next l (label + 1) (label + 2) (omega arith) in
    let h : many l (value_code scope r (label + 2) test) + below l (label + 2) ≡ below l (label + 2 + labels_in test) = value-labels test scope r (label + 2) l in
    let k : many l (statement_code scope (record exits { broken = label + 1; continued = label }) r (label + 2 + labels_in test) body) + below l (label + 2 + labels_in test) ≡ below l (label + 2 + labels_in test + labels_within body) =
    statement-labels body scope (record exits { broken = label + 1; continued = label }) r (label + 2 + labels_in test) l in
    let s : below l (label + 2 + labels_in test + labels_within body) ≡ below l (label + (2 + (labels_in test + labels_within body))) = below-same l _ _ (omega arith) in
    simp many-append (omega (arith, one, two, h, k, s))
statement-labels (For first test step body) scope exits r label l =
    let one : below l (label + 1) ≡ below l label + one_at l label = below-next l label (label + 1) refl in
    let two : below l (label + 2) ≡ below l (label + 1) + one_at l (label + 1) = below-next l (label + 1) (label + 2) (omega arith) in
    let three : below l (label + 3) ≡ below l (label + 2) + one_at l (label + 2) = below-next l (label + 2) (label + 3) (omega arith) in
    let h : many l (statement_code scope heads r (label + 3) first) + below l (label + 3) ≡ below l (label + 3 + labels_within first) = statement-labels first scope heads r (label + 3) l in
    let k : many l (value_or 1 scope r (label + 3 + labels_within first) test) + below l (label + 3 + labels_within first) ≡ below l (label + 3 + labels_within first + labels_in_part test) = part-labels test scope 1 r (label + 3 + labels_within first) l in
    let m : many l (statement_code scope inner r (label + 3 + labels_within first + labels_in_part test) body) + below l (label + 3 + labels_within first + labels_in_part test)
    ≡ below l (label + 3 + labels_within first + labels_in_part test + labels_within body) = statement-labels body scope inner r (label + 3 + labels_within first + labels_in_part test) l in
    let n : many l (statement_code scope heads r (label + 3 + labels_within first + labels_in_part test + labels_within body) step) + below l (label + 3 + labels_within first + labels_in_part test + labels_within body)
    ≡ below l (label + 3 + labels_within first + labels_in_part test + labels_within body + labels_within step) = statement-labels step scope heads r (label + 3 + labels_within first + labels_in_part test + labels_within body) l in
    let s : below l (label + 3 + labels_within first + labels_in_part test + labels_within body + labels_within step) ≡ below l (label + (3 + (labels_within first + (labels_in_part test + (labels_within body + labels_within step))))) = below-same l _ _ (omega arith) in
    simp many-append (omega (arith, one, two, three, h, k, m, n, s))
  where
    heads : Exits
    heads = record { broken = label; continued = label; returned = label }

    inner : Exits
    inner = record exits { broken = label + 2; continued = label + 1 }

-- ---- functions and programs

pub function-labels : (f : Function) (scope : Scope) (number link label l : ℕ) → many l (function_code scope number link label f) + below l label ≡ below l (label + labels_of_function f) + one_at l number
function-labels f scope number link label l =
    let one : below l (label + 1) ≡ below l label + one_at l label = below-next l label (label + 1) refl in
    let two : below l (label + 2) ≡ below l (label + 1) + one_at l (label + 1) = below-next l (label + 1) (label + 2) (omega arith) in
    let h : many l (statement_code scope exits (link + room_in f.body) (label + 2) f.body) + below l (label + 2) ≡ below l (label + 2 + labels_within f.body) = statement-labels f.body scope exits (link + room_in f.body) (label + 2) l in
    let s : below l (label + 2 + labels_within f.body) ≡ below l (label + labels_of_function f) = below-same l _ _ (omega arith) in
    simp many-append (omega (arith, one, two, h, s, none-taking scope l 0 f.parameters))
  where
    exits : Exits
    exits = record { broken = label + 1; continued = label + 1; returned = label }

-- how many labels stand within functions
abbrev pub labels_of_all : List Function → ℕ
labels_of_all [] = 0
labels_of_all (f ∷ fs) = labels_of_function f + labels_of_all fs

pub functions-labels : (fs : List Function) (home : ℕ → ℕ) (is_private : ℕ → Bool) (number cell label l : ℕ) →
    many l (functions_code home is_private number cell label fs) + below l label + below l number ≡ below l (label + labels_of_all fs) + below l (number + length fs)
functions-labels [] home is_private number cell label l =
    let s : below l label ≡ below l (label + 0) = below-same l label (label + 0) (omega arith) in
    let t : below l number ≡ below l (number + 0) = below-same l number (number + 0) (omega arith) in
    omega (arith, s, t)
functions-labels (f ∷ fs) home is_private number cell label l =
    let next : below l (number + 1) ≡ below l number + one_at l number = below-next l number (number + 1) refl in
    let h : many l (function_code (record { home = home; is_private = is_private; private = f.private }) number (cell + length (own_tokens f)) label f) + below l label ≡ below l (label + labels_of_function f) + one_at l number =
    function-labels f (record { home = home; is_private = is_private; private = f.private }) number (cell + length (own_tokens f)) label l in
    let k : many l (functions_code home is_private (number + 1) (cell + cell_count f) (label + labels_of_function f) fs) + below l (label + labels_of_function f) + below l (number + 1)
    ≡ below l (label + labels_of_function f + labels_of_all fs) + below l (number + 1 + length fs) = functions-labels fs home is_private (number + 1) (cell + cell_count f) (label + labels_of_function f) l in
    let s : below l (label + labels_of_function f + labels_of_all fs) ≡ below l (label + (labels_of_function f + labels_of_all fs)) = below-same l _ _ (omega arith) in
    let t : below l (number + 1 + length fs) ≡ below l (number + length (f ∷ fs)) = below-same l _ _ (omega arith) in
    let e : many l (functions_code home is_private number cell label (f ∷ fs)) ≡ many l (function_code (record { home = home; is_private = is_private; private = f.private }) number (cell + length (own_tokens f)) label f)
    + many l (functions_code home is_private (number + 1) (cell + cell_count f) (label + labels_of_function f) fs) =
    many-append l (function_code (record { home = home; is_private = is_private; private = f.private }) number (cell + length (own_tokens f)) label f) (functions_code home is_private (number + 1) (cell + cell_count f) (label + labels_of_function f) fs) in
    omega (arith, e, next, h, k, s, t)

pub below-zero : (l : ℕ) → below l 0 ≡ 0
below-zero l = grind (arith, nat_tests)

below-least : (l x : ℕ) → below l x ≤ 1
below-least l x = grind (arith, nat_tests)

-- no label stands twice in the code of a program
pub at-most-once : (p : Program) (l : ℕ) → many l (lowered p).ops ≤ 1
at-most-once p l =
    let h : many l (all_functions p) + below l (length p.functions) + below l 0 ≡ below l (length p.functions + labels_of_all p.functions) + below l (0 + length p.functions) =
    functions-labels p.functions (home_of p) (is_private_in p.functions) 0 (length p.objects) (length p.functions) l in
    let s : below l (0 + length p.functions) ≡ below l (length p.functions) = below-same l _ _ (omega arith) in
    let z : below l 0 ≡ 0 = below-zero l in
    let least : below l (length p.functions + labels_of_all p.functions) ≤ 1 = below-least l _ in
    let e : many l (lowered p).ops ≡ many l (all_functions p) + many l (entry_code p) = many-append l (all_functions p) (entry_code p) in
    let k : many l (entry_code p) ≡ many l (calling_by false (is_private_in p.functions p.main) p.main) + many l (op.Exit ∷ []) = many-append l (calling_by false (is_private_in p.functions p.main) p.main) (op.Exit ∷ []) in
    (omega (arith, e, k, h, s, z, least, none-calling l false (is_private_in p.functions p.main) p.main))

-- so each is found where it stands
pub labels-found : (p : Program) (l place : ℕ) → slice_get (lowered p).ops place ≡ Some (op.Label l) → label_place (lowered p) l ≡ Some place
labels-found p l place st = once-found (lowered p).ops 0 l place (at-most-once p l) st ∙ ap (λ (x : ℕ). Some x) (omega arith)
