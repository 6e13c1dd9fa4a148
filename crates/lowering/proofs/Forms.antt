-- The operations of each part of a program name what they may name.
use Rattle.std.proofs.Common.{◌≡◌, ℕ, zero, suc, ◌+◌, ◌-◌, ◌<◌, ◌≤◌, Bool, true, false, cond, ◌==◌, ◌||◌, nat_lt, List, [], ◌∷◌, ◌++◌, length, map, Option, Some, None, arith, refl, sym, ◌∙◌, ap}
use Rattle.std.proofs.lemmas.Bool.{eq-eqb}
use Rattle.std.proofs.lemmas.Bool.Decides.{nat_tests}
use Rattle.aegis_num.specs.declared.operators.BinaryOp.{BinaryOp}
use Rattle.aegis_num.specs.declared.operators.UnaryOp.{UnaryOp}
use Rattle.aegis_num.specs.Operators.{is_division}
use Rattle.c_semantics.specs.declared.tree.Variable.{Variable}
use Rattle.c_semantics.specs.ProgramShape.{is_among, Around, Occurs, IsAssignable, IsCallable, argument_count, ExprAgrees, ArgumentsAgree, PartAgrees, Agrees, AreUnclassed}
use Rattle.c_semantics.specs.ResolvedTree.{Arguments, NoArguments, Argument, Expr, Number, Scalar, Indexed, Called, Input, Unary, Binary, Both, Either, Stmt, Nothing, Then, Empty, Block, Local, Assign, Store, Call, Suspend, Release, Check, Return, Break, Continue, If, While, For, Function}
use Rattle.ir_code.specs.declared.ops.Op.{Op}
use Rattle.ir_code.specs.declared.ops.Op.TheVariants as op
use Rattle.ir_code.specs.OpTable as table
use Rattle.lowering.specs.Cells.{room_of, room_of_all, room_of_part, room_in}
use Rattle.lowering.specs.Lowering.{Scope, Exits, labels_in, labels_in_all, labels_in_part, labels_within, labels_of_function, passing, calling_by, testing_divisor, value_code, values_code, value_or, statement_code, taking, function_code}
use Rattle.lowering.proofs.Calling.{room-positive}

-- which cells and labels operations may name, and as what
pub record Rules : Type 0 where
  pub written : ℕ → Bool
  pub read : ℕ → Bool
  pub loaded : ℕ → Bool
  pub stored : ℕ → Bool
  pub linked : ℕ → Bool
  pub reached : ℕ → Bool

abbrev pub Each : (ℕ → Bool) → List ℕ → Type 0
Each test [] = Unit {0}
Each test (x ∷ xs) = (test x ≡ true) × Each test xs

-- the number of a slot
abbrev pub is_slot : ℕ → Bool
is_slot slot = nat_lt slot 6

pub below-holds : (a b : ℕ) → a < b → nat_lt a b ≡ true
below-holds a b h = grind (arith, nat_tests, h)

-- what an operation names is as it may be
pub record GoodOp (R : Rules) (o : Op) : Type 0 where
  pub targets : Each R.written (table.targets o)
  pub sources : Each R.read (table.sources o)
  pub loaded : Each R.loaded (table.loaded o)
  pub stored : Each R.stored (table.stored o)
  pub links : Each R.linked (table.link_cells o)
  pub goes : Each R.reached (table.goes_to o)
  pub slots : Each is_slot (table.slots_of o)

abbrev pub AllGood : Rules → List Op → Type 0
AllGood R [] = Unit {0}
AllGood R (o ∷ ops) = GoodOp R o × AllGood R ops

pub good-append : (R : Rules) (one other : List Op) → AllGood R one → AllGood R other → AllGood R (one ++ other)
good-append R [] other h k = k
good-append R (o ∷ one) other h k = (h.0, good-append R one other h.1 k)

module _ {R : Rules} where
  good-const : {to value : ℕ} → R.written to ≡ true → GoodOp R (op.Const to value)
  good-const h = record { targets = (h, tt); sources = tt; loaded = tt; stored = tt; links = tt; goes = tt; slots = tt }

  good-copy : {to from : ℕ} → R.written to ≡ true → R.read from ≡ true → GoodOp R (op.Copy to from)
  good-copy h k = record { targets = (h, tt); sources = (k, tt); loaded = tt; stored = tt; links = tt; goes = tt; slots = tt }

  good-unary : {operator : UnaryOp} {to a : ℕ} → R.written to ≡ true → R.read a ≡ true → GoodOp R (op.Unary operator to a)
  good-unary h k = record { targets = (h, tt); sources = (k, tt); loaded = tt; stored = tt; links = tt; goes = tt; slots = tt }

  good-binary : {operator : BinaryOp} {to a b : ℕ} → R.written to ≡ true → R.read a ≡ true → R.read b ≡ true → GoodOp R (op.Binary operator to a b)
  good-binary h k l = record { targets = (h, tt); sources = (k, (l, tt)); loaded = tt; stored = tt; links = tt; goes = tt; slots = tt }

  good-test : {a length token : ℕ} → R.read a ≡ true → GoodOp R (op.Test a length token)
  good-test h = record { targets = tt; sources = (h, tt); loaded = tt; stored = tt; links = tt; goes = tt; slots = tt }

  good-non-zero : {a token : ℕ} → R.read a ≡ true → GoodOp R (op.NonZero a token)
  good-non-zero h = record { targets = tt; sources = (h, tt); loaded = tt; stored = tt; links = tt; goes = tt; slots = tt }

  good-load : {to array index : ℕ} → R.written to ≡ true → R.read index ≡ true → R.loaded array ≡ true → GoodOp R (op.Load to array index)
  good-load h k l = record { targets = (h, tt); sources = (k, tt); loaded = (l, tt); stored = tt; links = tt; goes = tt; slots = tt }

  good-store : {array index from : ℕ} → R.read index ≡ true → R.read from ≡ true → R.stored array ≡ true → GoodOp R (op.Store array index from)
  good-store h k l = record { targets = tt; sources = (h, (k, tt)); loaded = tt; stored = (l, tt); links = tt; goes = tt; slots = tt }

  good-label : {l : ℕ} → GoodOp R (op.Label l)
  good-label = record { targets = tt; sources = tt; loaded = tt; stored = tt; links = tt; goes = tt; slots = tt }

  good-jump : {l : ℕ} → R.reached l ≡ true → GoodOp R (op.Jump l)
  good-jump h = record { targets = tt; sources = tt; loaded = tt; stored = tt; links = tt; goes = (h, tt); slots = tt }

  good-jump-zero : {a l : ℕ} → R.read a ≡ true → R.reached l ≡ true → GoodOp R (op.JumpZero a l)
  good-jump-zero h k = record { targets = tt; sources = (h, tt); loaded = tt; stored = tt; links = tt; goes = (k, tt); slots = tt }

  good-arg : {slot from : ℕ} → R.read from ≡ true → is_slot slot ≡ true → GoodOp R (op.Arg slot from)
  good-arg h k = record { targets = tt; sources = (h, tt); loaded = tt; stored = tt; links = tt; goes = tt; slots = (k, tt) }

  good-param : {to slot : ℕ} → R.written to ≡ true → is_slot slot ≡ true → GoodOp R (op.Param to slot)
  good-param h k = record { targets = (h, tt); sources = tt; loaded = tt; stored = tt; links = tt; goes = tt; slots = (k, tt) }

  good-call : {l : ℕ} → R.reached l ≡ true → GoodOp R (op.Call l)
  good-call h = record { targets = tt; sources = tt; loaded = tt; stored = tt; links = tt; goes = (h, tt); slots = tt }

  good-save-link : {cell : ℕ} → R.linked cell ≡ true → GoodOp R (op.SaveLink cell)
  good-save-link h = record { targets = tt; sources = tt; loaded = tt; stored = tt; links = (h, tt); goes = tt; slots = tt }

  good-return : {cell : ℕ} → R.linked cell ≡ true → GoodOp R (op.Return cell)
  good-return h = record { targets = tt; sources = tt; loaded = tt; stored = tt; links = (h, tt); goes = tt; slots = tt }

  good-set-result : {from : ℕ} → R.read from ≡ true → GoodOp R (op.SetResult from)
  good-set-result h = record { targets = tt; sources = (h, tt); loaded = tt; stored = tt; links = tt; goes = tt; slots = tt }

  good-result : {to : ℕ} → R.written to ≡ true → GoodOp R (op.Result to)
  good-result h = record { targets = (h, tt); sources = tt; loaded = tt; stored = tt; links = tt; goes = tt; slots = tt }

  good-input : {to : ℕ} → R.written to ≡ true → GoodOp R (op.Input to)
  good-input h = record { targets = (h, tt); sources = tt; loaded = tt; stored = tt; links = tt; goes = tt; slots = tt }

  good-release : {a : ℕ} → R.read a ≡ true → GoodOp R (op.Release a)
  good-release h = record { targets = tt; sources = (h, tt); loaded = tt; stored = tt; links = tt; goes = tt; slots = tt }

  good-check : GoodOp R (op.Check)
  good-check = record { targets = tt; sources = tt; loaded = tt; stored = tt; links = tt; goes = tt; slots = tt }

  good-suspend : GoodOp R (op.Suspend)
  good-suspend = record { targets = tt; sources = tt; loaded = tt; stored = tt; links = tt; goes = tt; slots = tt }

  good-set-mode : {private : Bool} → GoodOp R (op.SetMode private)
  good-set-mode = record { targets = tt; sources = tt; loaded = tt; stored = tt; links = tt; goes = tt; slots = tt }

  pub good-exit : GoodOp R (op.Exit)
  good-exit = record { targets = tt; sources = tt; loaded = tt; stored = tt; links = tt; goes = tt; slots = tt }

-- what the names in the code of a function come to
pub record NamesGood (R : Rules) (home : ℕ → ℕ) (around : Around) : Type 0 where
  pub scalar : (x : Variable) → Occurs around x None → R.read (home x.token) ≡ true
  pub array : (x : Variable) (n : ℕ) → Occurs around x (Some n) → R.loaded (home x.token) ≡ true
  pub assigned : (x : Variable) → Occurs around x None → IsAssignable x.class → R.written (home x.token) ≡ true
  pub changed : (x : Variable) (n : ℕ) → Occurs around x (Some n) → IsAssignable x.class → R.stored (home x.token) ≡ true
  pub own : (x : Variable) → x.class ≡ None → is_among around.own x.token ≡ true → R.written (home x.token) ≡ true
  pub callable : (function count : ℕ) → IsCallable around function count → (R.reached function ≡ true) × (count ≤ 6)

-- where the code of a function stands: its cells, and the labels below a number
pub record Ground (R : Rules) (scope : Scope) (around : Around) (link top total : ℕ) : Type 0 where
  pub written : (c : ℕ) → link < c → c ≤ top → R.written c ≡ true
  pub read : (c : ℕ) → link < c → c ≤ top → R.read c ≡ true
  pub reached : (l : ℕ) → l < total → R.reached l ≡ true
  pub linked : R.linked link ≡ true
  pub names : NamesGood R scope.home around

pub record ExitsGood (R : Rules) (exits : Exits) : Type 0 where
  pub broken : R.reached exits.broken ≡ true
  pub continued : R.reached exits.continued ≡ true
  pub returned : R.reached exits.returned ≡ true

pub good-calling : (R : Rules) (caller callee : Bool) (function : ℕ) → R.reached function ≡ true → AllGood R (calling_by caller callee function)
good-calling R true true function h = (good-call h, tt)
good-calling R false false function h = (good-call h, tt)
good-calling R true false function h = (good-set-mode, (good-call h, (good-set-mode, tt)))
good-calling R false true function h = (good-set-mode, (good-call h, (good-set-mode, tt)))

good-testing : (R : Rules) (operator : BinaryOp) (r at : ℕ) → R.read r ≡ true → AllGood R (testing_divisor operator r at)
good-testing R operator r at h = go (is_division operator)
  where
    go : (t : Bool) → AllGood R (cond t (op.NonZero r at ∷ []) [])
    go true = (good-non-zero h, tt)
    go false = tt

first-among : (t : ℕ) (ts : List ℕ) → is_among (t ∷ ts) t ≡ true
first-among t ts = ap (λ (b : Bool). b || is_among ts t) (eq-eqb t t refl)

later-among : (t : ℕ) (ts : List ℕ) (token : ℕ) → is_among ts token ≡ true → is_among (t ∷ ts) token ≡ true
later-among t ts token e = go (t == token)
  where
    go : (b : Bool) → (b || is_among ts token) ≡ true
    go true = refl
    go false = e

module _ (R : Rules) (scope : Scope) (around : Around) (link top total : ℕ) (g : Ground R scope around link top total) where
  passing-good : (arguments : Arguments) (slot r : ℕ) → slot + argument_count arguments ≤ 6 → link + room_of_all arguments ≤ r → r ≤ top → AllGood R (passing slot r arguments)
  passing-good NoArguments slot r few room high = tt
  passing-good (Argument first later) slot r few room high = (
    good-arg (g.read r (omega (arith, room)) high) (below-holds slot 6 (omega (arith, few))),
    passing-good later (slot + 1) (r - 1) (omega (arith, few)) (omega (arith, room)) (omega (arith, high)),
  )

  mutual
    pub value-good : (e : Expr) (r label : ℕ) → link + room_of e ≤ r → r ≤ top → label + labels_in e ≤ total → ExprAgrees around e → AllGood R (value_code scope r label e)
    value-good (Number word) r label room high labels h = (good-const (g.written r (omega (arith, room)) high), tt)
    value-good (Scalar x) r label room high labels h = (good-copy (g.written r (omega (arith, room)) high) (g.names.scalar x h), tt)
    value-good (Indexed at x length index) r label room high labels h =
        let low : link < r = omega (arith, room, room-positive index) in
        good-append R (value_code scope r label index) _ (value-good index r label room high labels h.1)
        (good-test (g.read r low high), (good-load (g.written r low high) (g.read r low high) (g.names.array x length h.0), tt))
    value-good (Called function arguments) r label room high labels h =
        let low : link < r = omega (arith, room, room-of-all-positive arguments) in
        let can : (R.reached function ≡ true) × (argument_count arguments ≤ 6) = g.names.callable function (argument_count arguments) h.0 in
        good-append R (values_code scope r label arguments) _ (values-good arguments r label room high labels h.1)
        (good-append R (passing 0 r arguments) _ (passing-good arguments 0 r (omega (arith, can.1)) room high)
        (good-append R (calling_by scope.private (scope.is_private function) function) _ (good-calling R scope.private (scope.is_private function) function can.0)
        (good-result (g.written r low high), tt)))
    value-good Input r label room high labels h = (good-input (g.written r (omega (arith, room)) high), tt)
    value-good (Unary operator inner) r label room high labels h =
        let low : link < r = omega (arith, room, room-positive inner) in
        good-append R (value_code scope r label inner) _ (value-good inner r label room high labels h) (good-unary (g.written r low high) (g.read r low high), tt)
    value-good (Binary at operator left right) r label room high labels h =
        let low : link < r = omega (arith, room, room-positive left) in
        let lower : link < r - 1 = omega (arith, room, room-positive right) in
        let under : r - 1 ≤ top = omega (arith, high) in
        good-append R (value_code scope r label left) _ (value-good left r label (omega (arith, room)) high (omega (arith, labels)) h.0)
        (good-append R (value_code scope (r - 1) (label + labels_in left) right) _ (value-good right (r - 1) (label + labels_in left) (omega (arith, room)) under (omega (arith, labels)) h.1)
        (good-append R (testing_divisor operator (r - 1) at) _ (good-testing R operator (r - 1) at (g.read (r - 1) lower under))
        (good-binary (g.written r low high) (g.read r low high) (g.read (r - 1) lower under), tt)))
    value-good (Both left right) r label room high labels h =
        let low : link < r = omega (arith, room, room-positive left) in
        good-append R (value_code scope r (label + 1) left) _ (value-good left r (label + 1) (omega (arith, room)) high (omega (arith, labels)) h.0) (
          good-jump-zero (g.read r low high) (g.reached label (omega (arith, labels))),
          good-append R (value_code scope r (label + 1 + labels_in left) right) _ (value-good right r (label + 1 + labels_in left) (omega (arith, room)) high (omega (arith, labels)) h.1)
              (good-unary (g.written r low high) (g.read r low high), (good-unary (g.written r low high) (g.read r low high), (good-label, tt))),
        )
    value-good (Either left right) r label room high labels h =
        let low : link < r = omega (arith, room, room-positive left) in
        good-append R (value_code scope r (label + 1) left) _ (value-good left r (label + 1) (omega (arith, room)) high (omega (arith, labels)) h.0) (
          good-unary (g.written r low high) (g.read r low high),
          (
            good-jump-zero (g.read r low high) (g.reached label (omega (arith, labels))),
            good-append R (value_code scope r (label + 1 + labels_in left) right) _ (value-good right r (label + 1 + labels_in left) (omega (arith, room)) high (omega (arith, labels)) h.1)
                (good-unary (g.written r low high) (g.read r low high), (good-label, (good-unary (g.written r low high) (g.read r low high), tt))),
          ),
        )

    values-good : (arguments : Arguments) (r label : ℕ) → link + room_of_all arguments ≤ r → r ≤ top → label + labels_in_all arguments ≤ total → ArgumentsAgree around arguments → AllGood R (values_code scope r label arguments)
    values-good NoArguments r label room high labels h = tt
    values-good (Argument first later) r label room high labels h =
        good-append R (value_code scope r label first) _ (value-good first r label (omega (arith, room)) high (omega (arith, labels)) h.0)
        (values-good later (r - 1) (label + labels_in first) (omega (arith, room)) (omega (arith, high)) (omega (arith, labels)) h.1)

    room-of-all-positive : (arguments : Arguments) → 1 ≤ room_of_all arguments
    room-of-all-positive NoArguments = omega arith
    room-of-all-positive (Argument first later) = omega arith

  part-good : (missing : ℕ) (e : Option Expr) (r label : ℕ) → link + room_of_part e ≤ r → r ≤ top → label + labels_in_part e ≤ total → PartAgrees around e → AllGood R (value_or missing scope r label e)
  part-good missing None r label room high labels h = (good-const (g.written r (omega (arith, room)) high), tt)
  part-good missing (Some e) r label room high labels h = value-good e r label room high labels h

  pub statement-good : (st : Stmt) (exits : Exits) (r label : ℕ) → ExitsGood R exits → link + room_in st ≤ r → link < r → r ≤ top → label + labels_within st ≤ total → Agrees around st → AllGood R (statement_code scope exits r label st)
  statement-good Nothing exits r label x room low high labels h = tt
  statement-good (Then first second) exits r label x room low high labels h =
      good-append R (statement_code scope exits r label first) _ (statement-good first exits r label x (omega (arith, room)) low high (omega (arith, labels)) h.0)
      (statement-good second exits r (label + labels_within first) x (omega (arith, room)) low high (omega (arith, labels)) h.1)
  statement-good Empty exits r label x room low high labels h = tt
  statement-good (Block body) exits r label x room low high labels h = statement-good body exits r label x room low high labels h
  statement-good (Local y value) exits r label x room low high labels h =
      good-append R (value_or 0 scope r label value) _ (part-good 0 value r label room high labels h.2) (good-copy (g.names.own y h.0 h.1) (g.read r low high), tt)
  statement-good (Assign y value) exits r label x room low high labels h =
      good-append R (value_code scope r label value) _ (value-good value r label room high labels h.2) (good-copy (g.names.assigned y h.1 h.0) (g.read r low high), tt)
  statement-good (Store at y length index value) exits r label x room low high labels h =
      let lower : link < r - 1 = omega (arith, room, room-positive value) in
      let under : r - 1 ≤ top = omega (arith, high) in
      good-append R (value_code scope r label index) _ (value-good index r label (omega (arith, room)) high (omega (arith, labels)) h.2) (
        good-test (g.read r low high),
        good-append R (value_code scope (r - 1) (label + labels_in index) value) _ (value-good value (r - 1) (label + labels_in index) (omega (arith, room)) under (omega (arith, labels)) h.3)
            (good-store (g.read r low high) (g.read (r - 1) lower under) (g.names.changed y length h.1 h.0), tt),
      )
  statement-good (Call function arguments) exits r label x room low high labels h =
      let can : (R.reached function ≡ true) × (argument_count arguments ≤ 6) = g.names.callable function (argument_count arguments) h.0 in
      good-append R (values_code scope r label arguments) _ (values-good arguments r label room high labels h.1)
      (good-append R (passing 0 r arguments) _ (passing-good arguments 0 r (omega (arith, can.1)) room high)
      (good-calling R scope.private (scope.is_private function) function can.0))
  statement-good Suspend exits r label x room low high labels h = (good-suspend, tt)
  statement-good (Release value) exits r label x room low high labels h =
      good-append R (value_code scope r label value) _ (value-good value r label room high labels h) (good-release (g.read r low high), tt)
  statement-good Check exits r label x room low high labels h = (good-check, tt)
  statement-good (Return value) exits r label x room low high labels h =
      good-append R (value_or 0 scope r label value) _ (part-good 0 value r label room high labels h) (good-jump x.returned, tt)
  statement-good Break exits r label x room low high labels h = (good-jump x.broken, tt)
  statement-good Continue exits r label x room low high labels h = (good-jump x.continued, tt)
  statement-good (If test body other) exits r label x room low high labels h =
      good-append R (value_code scope r (label + 2) test) _ (value-good test r (label + 2) (omega (arith, room)) high (omega (arith, labels)) h.0) (
        good-jump-zero (g.read r low high) (g.reached label (omega (arith, labels))),
        good-append R (statement_code scope exits r (label + 2 + labels_in test) body) _ (statement-good body exits r (label + 2 + labels_in test) x (omega (arith, room)) low high (omega (arith, labels)) h.1) (
          good-jump (g.reached (label + 1) (omega (arith, labels))),
          (
            good-label,
            good-append R (statement_code scope exits r (label + 2 + labels_in test + labels_within body) other) _
                (statement-good other exits r (label + 2 + labels_in test + labels_within body) x (omega (arith, room)) low high (omega (arith, labels)) h.2)
                (good-label, tt),
          ),
        ),
      )
  statement-good (While test body) exits r label x room low high labels h =
      let start : R.reached label ≡ true = g.reached label (omega (arith, labels)) in
      let end : R.reached (label + 1) ≡ true = g.reached (label + 1) (omega (arith, labels)) in (
        good-label,
        good-append R (value_code scope r (label + 2) test) _ (value-good test r (label + 2) (omega (arith, room)) high (omega (arith, labels)) h.0) (
          good-jump-zero (g.read r low high) end,
          good-append R (statement_code scope (record exits { broken = label + 1; continued = label }) r (label + 2 + labels_in test) body) _
              (statement-good body (record exits { broken = label + 1; continued = label }) r (label + 2 + labels_in test) (record { broken = end; continued = start; returned = x.returned }) (omega (arith, room)) low high (omega (arith, labels)) h.1)
              (good-jump start, (good-label, tt)),
        ),
      )
  statement-good (For first test step body) exits r label x room low high labels h =
      let start : R.reached label ≡ true = g.reached label (omega (arith, labels)) in
      let next : R.reached (label + 1) ≡ true = g.reached (label + 1) (omega (arith, labels)) in
      let end : R.reached (label + 2) ≡ true = g.reached (label + 2) (omega (arith, labels)) in
      good-append R (statement_code scope heads r (label + 3) first) _
      (statement-good first heads r (label + 3) (record { broken = start; continued = start; returned = start }) (omega (arith, room)) low high (omega (arith, labels)) h.0) (
        good-label,
        good-append R (value_or 1 scope r (label + 3 + labels_within first) test) _ (part-good 1 test r (label + 3 + labels_within first) (omega (arith, room)) high (omega (arith, labels)) h.1) (
          good-jump-zero (g.read r low high) end,
          good-append R (statement_code scope inner r (label + 3 + labels_within first + labels_in_part test) body) _
              (statement-good body inner r (label + 3 + labels_within first + labels_in_part test) (record { broken = end; continued = next; returned = x.returned }) (omega (arith, room)) low high (omega (arith, labels)) h.3) (
                good-label,
                good-append R (statement_code scope heads r (label + 3 + labels_within first + labels_in_part test + labels_within body) step) _
                    (statement-good step heads r (label + 3 + labels_within first + labels_in_part test + labels_within body) (record { broken = start; continued = start; returned = start }) (omega (arith, room)) low high (omega (arith, labels)) h.2)
                    (good-jump start, (good-label, tt)),
              ),
        ),
      )
    where
      heads : Exits
      heads = record { broken = label; continued = label; returned = label }

      inner : Exits
      inner = record exits { broken = label + 2; continued = label + 1 }

  taking-good : (xs : List Variable) (slot : ℕ) → slot + length xs ≤ 6 → AreUnclassed xs → ((token : ℕ) → is_among (map (λ (x : Variable). x.token) xs) token ≡ true → is_among around.own token ≡ true) → AllGood R (taking scope slot xs)
  taking-good [] slot few h among = tt
  taking-good (x ∷ xs) slot few h among = (
    good-param (g.names.own x h.0 (among x.token (first-among x.token (map (λ (y : Variable). y.token) xs)))) (below-holds slot 6 (omega (arith, few))),
    taking-good xs (slot + 1) (omega (arith, few)) h.1 (λ token e. among token (later-among x.token (map (λ (y : Variable). y.token) xs) token e)),
  )

  -- the code of a function whose cells are these
  pub function-good : (f : Function) (number label : ℕ) → top ≡ link + room_in f.body → 1 ≤ room_in f.body → label + labels_of_function f ≤ total → length f.parameters ≤ 6 → AreUnclassed f.parameters →
      ((token : ℕ) → is_among (map (λ (x : Variable). x.token) f.parameters) token ≡ true → is_among around.own token ≡ true) → Agrees around f.body → AllGood R (function_code scope number link label f)
  function-good f number label e some labels few unclassed among h =
      let last : ℕ = link + room_in f.body in
      let low : link < last = omega (arith, some) in
      let high : last ≤ top = omega (arith, e) in
      let done : R.reached label ≡ true = g.reached label (omega (arith, labels)) in
      let over : R.reached (label + 1) ≡ true = g.reached (label + 1) (omega (arith, labels)) in (
        good-label,
        good-append R (taking scope 0 f.parameters) _ (taking-good f.parameters 0 (omega (arith, few)) unclassed among) (
          good-save-link g.linked,
          good-append R (statement_code scope (record { broken = label + 1; continued = label + 1; returned = label }) last (label + 2) f.body) _
              (statement-good f.body (record { broken = label + 1; continued = label + 1; returned = label }) last (label + 2) (record { broken = over; continued = over; returned = done }) (omega arith) low high (omega (arith, labels)) h)
              (good-label, (good-const (g.written last low high), (good-label, (good-set-result (g.read last low high), (good-return g.linked, tt))))),
        ),
      )
