-- How large the code of each part of a program is.
use Rattle.std.proofs.Common.{◌≡◌, ℕ, zero, suc, ◌+◌, ◌-◌, ◌*◌, ◌≤◌, Bool, true, false, cond, List, [], ◌∷◌, ◌++◌, length, map, Option, Some, None, arith, refl, sym, ◌∙◌, ap}
use Rattle.std.proofs.lemmas.List.{length-append}
use Rattle.aegis_num.specs.declared.operators.BinaryOp.{BinaryOp}
use Rattle.aegis_num.specs.Operators.{is_division}
use Rattle.c_semantics.specs.declared.tree.Variable.{Variable}
use Rattle.c_semantics.specs.Nodes.{expr_nodes, argument_nodes, part_nodes, stmt_nodes, function_nodes, functions_nodes, nodes}
use Rattle.c_semantics.specs.ProgramShape.{locals_of, own_tokens, own_tokens_of_all, declared_tokens}
use Rattle.c_semantics.specs.ResolvedTree.{Arguments, NoArguments, Argument, Expr, Number, Scalar, Indexed, Called, Input, Unary, Binary, Both, Either, Stmt, Nothing, Then, Empty, Block, Local, Assign, Store, Call, Suspend, Release, Check, Return, Break, Continue, If, While, For, Function, Object, Program}
use Rattle.ir_code.specs.declared.code.Cell.{Cell}
use Rattle.ir_code.specs.declared.ops.Op.{Op}
use Rattle.ir_code.specs.declared.ops.Op.TheVariants as op
use Rattle.ir_code.specs.OpTable.{weight_of, start_weight}
use Rattle.lowering.specs.Cells.{room_of, room_of_all, room_of_part, room_in, class_for, words, cell_count, function_cells, object_cells, cells_of, home_of}
use Rattle.lowering.specs.Lowering.{Scope, Exits, labels_in, labels_in_part, labels_within, labels_of_function, passing, calling_by, testing_divisor, value_code, values_code, value_or, statement_code, taking, function_code, functions_code, is_private_in, all_functions, entry_code, lowered}
use Rattle.lowering.specs.Sizes.{weight_of_all, temporary_cells, HasSize, SizesFollow}

-- the operations and their weights, counted together
abbrev pub total : List Op → ℕ
total [] = 0
total (o ∷ ops) = (1 + weight_of o) + total ops

total-append : (one other : List Op) → total (one ++ other) ≡ total one + total other
total-append [] other = omega arith
total-append (o ∷ one) other = let h : total (one ++ other) ≡ total one + total other = total-append one other in omega (arith, h)

both-in-total : (ops : List Op) → total ops ≡ length ops + weight_of_all ops
both-in-total [] = refl
both-in-total (o ∷ ops) = let h : total ops ≡ length ops + weight_of_all ops = both-in-total ops in omega (arith, h)

calling-size : (caller callee : Bool) (function : ℕ) → total (calling_by caller callee function) ≤ 6
calling-size true true function = omega arith
calling-size false false function = omega arith
calling-size true false function = omega arith
calling-size false true function = omega arith

testing-size : (operator : BinaryOp) (r at : ℕ) → total (testing_divisor operator r at) ≤ 9
testing-size operator r at = go (is_division operator)
  where
    go : (t : Bool) → total (cond t (op.NonZero r at ∷ []) []) ≤ 9
    go true = omega arith
    go false = omega arith

taking-size : (scope : Scope) (i : ℕ) (xs : List Variable) → total (taking scope i xs) ≡ 3 * length xs
taking-size scope i [] = refl
taking-size scope i (x ∷ xs) = let h : total (taking scope (i + 1) xs) ≡ 3 * length xs = taking-size scope (i + 1) xs in omega (arith, h)

-- An expression has three units to spare, which its passing as an argument takes.
mutual
  value-size : (e : Expr) (scope : Scope) (r label : ℕ) → total (value_code scope r label e) + 3 ≤ 64 * expr_nodes e
  value-size (Number word) scope r label = omega arith
  value-size (Scalar x) scope r label = omega arith
  value-size (Indexed at x length index) scope r label =
      let h : total (value_code scope r label index) + 3 ≤ 64 * expr_nodes index = value-size index scope r label in
      simp total-append (omega (arith, h))
  value-size (Called function arguments) scope r label =
      let h : total (values_code scope r label arguments) + total (passing 0 r arguments) ≤ 64 * argument_nodes arguments = values-size arguments scope r label 0 in
      simp total-append (omega (arith, h, calling-size scope.private (scope.is_private function) function))
  value-size Input scope r label = omega arith
  value-size (Unary operator inner) scope r label =
      let h : total (value_code scope r label inner) + 3 ≤ 64 * expr_nodes inner = value-size inner scope r label in
      simp total-append (omega (arith, h))
  value-size (Binary at operator left right) scope r label =
      let h : total (value_code scope r label left) + 3 ≤ 64 * expr_nodes left = value-size left scope r label in
      let k : total (value_code scope (r - 1) (label + labels_in left) right) + 3 ≤ 64 * expr_nodes right = value-size right scope (r - 1) (label + labels_in left) in
      simp total-append (omega (arith, h, k, testing-size operator (r - 1) at))
  value-size (Both left right) scope r label =
      let h : total (value_code scope r (label + 1) left) + 3 ≤ 64 * expr_nodes left = value-size left scope r (label + 1) in
      let k : total (value_code scope r (label + 1 + labels_in left) right) + 3 ≤ 64 * expr_nodes right = value-size right scope r (label + 1 + labels_in left) in
      simp total-append (omega (arith, h, k))
  value-size (Either left right) scope r label =
      let h : total (value_code scope r (label + 1) left) + 3 ≤ 64 * expr_nodes left = value-size left scope r (label + 1) in
      let k : total (value_code scope r (label + 1 + labels_in left) right) + 3 ≤ 64 * expr_nodes right = value-size right scope r (label + 1 + labels_in left) in
      simp total-append (omega (arith, h, k))

  values-size : (arguments : Arguments) (scope : Scope) (r label slot : ℕ) → total (values_code scope r label arguments) + total (passing slot r arguments) ≤ 64 * argument_nodes arguments
  values-size NoArguments scope r label slot = omega arith
  values-size (Argument first later) scope r label slot =
      let h : total (value_code scope r label first) + 3 ≤ 64 * expr_nodes first = value-size first scope r label in
      let k : total (values_code scope (r - 1) (label + labels_in first) later) + total (passing (slot + 1) (r - 1) later) ≤ 64 * argument_nodes later = values-size later scope (r - 1) (label + labels_in first) (slot + 1) in
      simp total-append (omega (arith, h, k))

-- a part that need not stand takes five units where it does not
part-size : (e : Option Expr) (scope : Scope) (missing r label : ℕ) → total (value_or missing scope r label e) ≤ 64 * part_nodes e + 5
part-size None scope missing r label = omega arith
part-size (Some e) scope missing r label = let h : total (value_code scope r label e) + 3 ≤ 64 * expr_nodes e = value-size e scope r label in omega (arith, h)

statement-size : (st : Stmt) (scope : Scope) (exits : Exits) (r label : ℕ) → total (statement_code scope exits r label st) ≤ 64 * stmt_nodes st
statement-size Nothing scope exits r label = omega arith
statement-size (Then first second) scope exits r label =
    let h : total (statement_code scope exits r label first) ≤ 64 * stmt_nodes first = statement-size first scope exits r label in
    let k : total (statement_code scope exits r (label + labels_within first) second) ≤ 64 * stmt_nodes second = statement-size second scope exits r (label + labels_within first) in
    simp total-append (omega (arith, h, k))
statement-size Empty scope exits r label = omega arith
statement-size (Block body) scope exits r label = let h : total (statement_code scope exits r label body) ≤ 64 * stmt_nodes body = statement-size body scope exits r label in omega (arith, h)
statement-size (Local x value) scope exits r label =
    let h : total (value_or 0 scope r label value) ≤ 64 * part_nodes value + 5 = part-size value scope 0 r label in
    simp total-append (omega (arith, h))
statement-size (Assign x value) scope exits r label =
    let h : total (value_code scope r label value) + 3 ≤ 64 * expr_nodes value = value-size value scope r label in
    simp total-append (omega (arith, h))
statement-size (Store at x length index value) scope exits r label =
    let h : total (value_code scope r label index) + 3 ≤ 64 * expr_nodes index = value-size index scope r label in
    let k : total (value_code scope (r - 1) (label + labels_in index) value) + 3 ≤ 64 * expr_nodes value = value-size value scope (r - 1) (label + labels_in index) in
    simp total-append (omega (arith, h, k))
statement-size (Call function arguments) scope exits r label =
    let h : total (values_code scope r label arguments) + total (passing 0 r arguments) ≤ 64 * argument_nodes arguments = values-size arguments scope r label 0 in
    simp total-append (omega (arith, h, calling-size scope.private (scope.is_private function) function))
statement-size Suspend scope exits r label = omega arith
statement-size (Release value) scope exits r label =
    let h : total (value_code scope r label value) + 3 ≤ 64 * expr_nodes value = value-size value scope r label in
    simp total-append (omega (arith, h))
statement-size Check scope exits r label = omega arith
statement-size (Return value) scope exits r label =
    let h : total (value_or 0 scope r label value) ≤ 64 * part_nodes value + 5 = part-size value scope 0 r label in
    simp total-append (omega (arith, h))
statement-size Break scope exits r label = omega arith
statement-size Continue scope exits r label = omega arith
statement-size (If test body other) scope exits r label =
    let h : total (value_code scope r (label + 2) test) + 3 ≤ 64 * expr_nodes test = value-size test scope r (label + 2) in
    let k : total (statement_code scope exits r (label + 2 + labels_in test) body) ≤ 64 * stmt_nodes body = statement-size body scope exits r (label + 2 + labels_in test) in
    let m : total (statement_code scope exits r (label + 2 + labels_in test + labels_within body) other) ≤ 64 * stmt_nodes other = statement-size other scope exits r (label + 2 + labels_in test + labels_within body) in
    simp total-append (omega (arith, h, k, m))
statement-size (While test body) scope exits r label =
    let h : total (value_code scope r (label + 2) test) + 3 ≤ 64 * expr_nodes test = value-size test scope r (label + 2) in
    let k : total (statement_code scope inner r (label + 2 + labels_in test) body) ≤ 64 * stmt_nodes body = statement-size body scope inner r (label + 2 + labels_in test) in
    simp total-append (omega (arith, h, k))
  where
    inner : Exits
    inner = record exits { broken = label + 1; continued = label }
statement-size (For first test step body) scope exits r label =
    let h : total (statement_code scope heads r (label + 3) first) ≤ 64 * stmt_nodes first = statement-size first scope heads r (label + 3) in
    let k : total (value_or 1 scope r (label + 3 + labels_within first) test) ≤ 64 * part_nodes test + 5 = part-size test scope 1 r (label + 3 + labels_within first) in
    let m : total (statement_code scope inner r (label + 3 + labels_within first + labels_in_part test) body) ≤ 64 * stmt_nodes body = statement-size body scope inner r (label + 3 + labels_within first + labels_in_part test) in
    let n : total (statement_code scope heads r (label + 3 + labels_within first + labels_in_part test + labels_within body) step) ≤ 64 * stmt_nodes step =
    statement-size step scope heads r (label + 3 + labels_within first + labels_in_part test + labels_within body) in
    simp total-append (omega (arith, h, k, m, n))
  where
    heads : Exits
    heads = record { broken = label; continued = label; returned = label }

    inner : Exits
    inner = record exits { broken = label + 2; continued = label + 1 }

function-size : (f : Function) (scope : Scope) (number link label : ℕ) → total (function_code scope number link label f) ≤ 64 * function_nodes f
function-size f scope number link label =
    let h : total (statement_code scope exits (link + room_in f.body) (label + 2) f.body) ≤ 64 * stmt_nodes f.body = statement-size f.body scope exits (link + room_in f.body) (label + 2) in
    simp total-append (omega (arith, h, taking-size scope 0 f.parameters))
  where
    exits : Exits
    exits = record { broken = label + 1; continued = label + 1; returned = label }

functions-size : (fs : List Function) (home : ℕ → ℕ) (is_private : ℕ → Bool) (number cell label : ℕ) → total (functions_code home is_private number cell label fs) ≤ 64 * functions_nodes fs
functions-size [] home is_private number cell label = omega arith
functions-size (f ∷ fs) home is_private number cell label =
    let one : List Op = function_code (record { home = home; is_private = is_private; private = f.private }) number (cell + length (own_tokens f)) label f in
    let rest : List Op = functions_code home is_private (number + 1) (cell + cell_count f) (label + labels_of_function f) fs in
    let e : total (one ++ rest) ≡ total one + total rest = total-append one rest in
    let h : total one ≤ 64 * function_nodes f = function-size f (record { home = home; is_private = is_private; private = f.private }) number (cell + length (own_tokens f)) label in
    let k : total rest ≤ 64 * functions_nodes fs = functions-size fs home is_private (number + 1) (cell + cell_count f) (label + labels_of_function f) in
    omega (arith, e, h, k)

program-size : (p : Program) → start_weight + total (lowered p).ops ≤ 64 * nodes p + 64
program-size p =
    let e : total (lowered p).ops ≡ total (all_functions p) + total (entry_code p) = total-append (all_functions p) (entry_code p) in
    let s : total (entry_code p) ≡ total (calling_by false (is_private_in p.functions p.main) p.main) + total (op.Exit ∷ []) = total-append (calling_by false (is_private_in p.functions p.main) p.main) (op.Exit ∷ []) in
    let h : total (all_functions p) ≤ 64 * nodes p = functions-size p.functions (home_of p) (is_private_in p.functions) 0 (length p.objects) (length p.functions) in
    omega (arith, e, s, h, calling-size false (is_private_in p.functions p.main) p.main)

-- ---- temporaries

mutual
  value-room : (e : Expr) → room_of e ≤ expr_nodes e
  value-room (Number word) = omega arith
  value-room (Scalar x) = omega arith
  value-room (Indexed at x length index) = omega (arith, value-room index)
  value-room (Called function arguments) = omega (arith, values-room arguments)
  value-room Input = omega arith
  value-room (Unary operator inner) = omega (arith, value-room inner)
  value-room (Binary at operator left right) = omega (arith, value-room left, value-room right)
  value-room (Both left right) = omega (arith, value-room left, value-room right)
  value-room (Either left right) = omega (arith, value-room left, value-room right)

  values-room : (arguments : Arguments) → room_of_all arguments ≤ 1 + argument_nodes arguments
  values-room NoArguments = omega arith
  values-room (Argument first later) = omega (arith, value-room first, some-node first, values-room later)

  some-node : (e : Expr) → 1 ≤ expr_nodes e
  some-node (Number word) = omega arith
  some-node (Scalar x) = omega arith
  some-node (Indexed at x length index) = omega arith
  some-node (Called function arguments) = omega arith
  some-node Input = omega arith
  some-node (Unary operator inner) = omega arith
  some-node (Binary at operator left right) = omega arith
  some-node (Both left right) = omega arith
  some-node (Either left right) = omega arith

part-room : (e : Option Expr) → room_of_part e ≤ 1 + part_nodes e
part-room None = omega arith
part-room (Some e) = omega (arith, value-room e)

statement-room : (st : Stmt) → room_in st ≤ 1 + stmt_nodes st
statement-room Nothing = omega arith
statement-room (Then first second) = omega (arith, statement-room first, statement-room second)
statement-room Empty = omega arith
statement-room (Block body) = omega (arith, statement-room body)
statement-room (Local x value) = omega (arith, part-room value)
statement-room (Assign x value) = omega (arith, value-room value)
statement-room (Store at x length index value) = omega (arith, value-room index, value-room value)
statement-room (Call function arguments) = omega (arith, values-room arguments)
statement-room Suspend = omega arith
statement-room (Release value) = omega (arith, value-room value)
statement-room Check = omega arith
statement-room (Return value) = omega (arith, part-room value)
statement-room Break = omega arith
statement-room Continue = omega arith
statement-room (If test body other) = omega (arith, value-room test, statement-room body, statement-room other)
statement-room (While test body) = omega (arith, value-room test, statement-room body)
statement-room (For first test step body) = omega (arith, statement-room first, part-room test, statement-room step, statement-room body)

functions-room : (fs : List Function) → temporary_cells fs ≤ 2 * functions_nodes fs
functions-room [] = omega arith
functions-room (f ∷ fs) = omega (arith, statement-room f.body, functions-room fs)

-- ---- cells

length-words : (class : _) (n : ℕ) → length (words class n) ≡ n
length-words class zero = refl
length-words class (suc n) = ap suc (length-words class n)

length-map : {A B : Type 0} → (g : A → B) (xs : List A) → length (map g xs) ≡ length xs
length-map g [] = refl
length-map g (x ∷ xs) = ap suc (length-map g xs)

length-objects : (os : List Object) → length (object_cells os) ≡ length os
length-objects [] = refl
length-objects (o ∷ os) = ap suc (length-objects os)

functions-cells : (fs : List Function) → length (function_cells fs) ≡ length (own_tokens_of_all fs) + temporary_cells fs
functions-cells [] = refl
functions-cells (f ∷ fs) =
    let h : length (function_cells fs) ≡ length (own_tokens_of_all fs) + temporary_cells fs = functions-cells fs in
    let a : length (words (class_for f.private) (cell_count f) ++ function_cells fs) ≡ length (words (class_for f.private) (cell_count f)) + length (function_cells fs) = length-append (words (class_for f.private) (cell_count f)) (function_cells fs) in
    let b : length (own_tokens f ++ own_tokens_of_all fs) ≡ length (own_tokens f) + length (own_tokens_of_all fs) = length-append (own_tokens f) (own_tokens_of_all fs) in
    omega (arith, h, a, b, length-words (class_for f.private) (cell_count f))

program-cells : (p : Program) → length (cells_of p) ≡ length (declared_tokens p) + temporary_cells p.functions
program-cells p =
    let h : length (function_cells p.functions) ≡ length (own_tokens_of_all p.functions) + temporary_cells p.functions = functions-cells p.functions in
    let a : length (cells_of p) ≡ length (object_cells p.objects) + length (function_cells p.functions) = length-append (object_cells p.objects) (function_cells p.functions) in
    let b : length (declared_tokens p) ≡ length (map (λ (o : Object). o.variable.token) p.objects) + length (own_tokens_of_all p.functions) = length-append (map (λ (o : Object). o.variable.token) p.objects) (own_tokens_of_all p.functions) in
    omega (arith, h, a, b, length-objects p.objects, length-map (λ (o : Object). o.variable.token) p.objects)

-- locals and parameters are nodes too
locals-few : (st : Stmt) → length (locals_of st) ≤ stmt_nodes st
locals-few Nothing = omega arith
locals-few (Then first second) = omega (arith, length-append (locals_of first) (locals_of second), locals-few first, locals-few second)
locals-few Empty = omega arith
locals-few (Block body) = omega (arith, locals-few body)
locals-few (Local x value) = omega arith
locals-few (Assign x value) = omega arith
locals-few (Store at x n index value) = omega arith
locals-few (Call function arguments) = omega arith
locals-few Suspend = omega arith
locals-few (Release value) = omega arith
locals-few Check = omega arith
locals-few (Return value) = omega arith
locals-few Break = omega arith
locals-few Continue = omega arith
locals-few (If test body other) = omega (arith, length-append (locals_of body) (locals_of other), locals-few body, locals-few other)
locals-few (While test body) = omega (arith, locals-few body)
locals-few (For first test step body) =
    omega (arith, length-append (locals_of first) (locals_of step ++ locals_of body), length-append (locals_of step) (locals_of body), locals-few first, locals-few step, locals-few body)

own-few : (fs : List Function) → length (own_tokens_of_all fs) ≤ functions_nodes fs
own-few [] = omega arith
own-few (f ∷ fs) =
    omega (arith, length-append (own_tokens f) (own_tokens_of_all fs), length-append (map (λ (x : Variable). x.token) f.parameters) (locals_of f.body), length-map (λ (x : Variable). x.token) f.parameters, locals-few f.body, own-few fs)

-- a program has at most three cells a node, and its objects
pub cells-few : (p : Program) → length (cells_of p) ≤ length p.objects + 3 * nodes p
cells-few p =
    let b : length (declared_tokens p) ≡ length (map (λ (o : Object). o.variable.token) p.objects) + length (own_tokens_of_all p.functions) = length-append (map (λ (o : Object). o.variable.token) p.objects) (own_tokens_of_all p.functions) in
    omega (arith, program-cells p, b, length-map (λ (o : Object). o.variable.token) p.objects, own-few p.functions, functions-room p.functions)

pub sizes-follow : SizesFollow
sizes-follow p =
    let h : start_weight + total (lowered p).ops ≤ 64 * nodes p + 64 = program-size p in
    let e : total (lowered p).ops ≡ length (lowered p).ops + weight_of_all (lowered p).ops = both-in-total (lowered p).ops in
    record { weight = omega (arith, h, e); count = omega (arith, h, e); temporaries = functions-room p.functions; cells = program-cells p }
