-- From the shape of a program to what the code of its functions wants.
use Rattle.std.proofs.Common.{◌≡◌, ℕ, suc, ◌+◌, ◌≤◌, true, List, [], ◌∷◌, ◌++◌, length, Option, Some, None, arith, refl}
use Rattle.c_semantics.specs.declared.tree.Variable.{Variable}
use Rattle.c_semantics.specs.ProgramShape.{is_among, Around, Occurs, IsAssignable, IsCallable, argument_count, ExprAgrees, ArgumentsAgree, PartAgrees, Agrees, Nests, word_count}
use Rattle.c_semantics.specs.ResolvedTree.{Arguments, NoArguments, Argument, Expr, Number, Scalar, Indexed, Called, Input, Unary, Binary, Both, Either, Stmt, Nothing, Then, Empty, Block, Local, Assign, Store, Call, Suspend, Release, Check, Return, Break, Continue, If, While, For, Function}
use Rattle.lowering.specs.Cells.{room_of_part, room_in}
use Rattle.lowering.specs.Lowering.{is_private_in}
use Rattle.lowering.proofs.Relation.{IsVar, IsWritable}
use Rattle.lowering.proofs.Calling.{CallableFrom, room-positive, room-counts}
use Rattle.lowering.proofs.Expressions.{Env, ExprFits, ArgumentsFit, PartFits}
use Rattle.lowering.proofs.Statements.{IsTarget, StmtFits, loops_in}

-- what each name in the code of a function comes to
pub record NamesFit (E : Env) (around : Around) : Type 0 where
  pub var : (x : Variable) (n : Option ℕ) → Occurs around x n → IsVar E.w E.frame x (word_count n)
  pub writable : (x : Variable) (n : Option ℕ) → Occurs around x n → IsAssignable x.class → IsWritable E.w E.frame x
  pub own : (x : Variable) → x.class ≡ None → is_among around.own x.token ≡ true → IsTarget E x 1
  pub callable : (function count : ℕ) → IsCallable around function count → CallableFrom E.w E.frame E.calls function count

module _ (E : Env) (around : Around) (names : NamesFit E around) where
  mutual
    pub expr-fits : (e : Expr) → ExprAgrees around e → ExprFits E e
    expr-fits (Number word) h = tt
    expr-fits (Scalar x) h = names.var x None h
    expr-fits (Indexed at x length index) h = (names.var x (Some length) h.0, expr-fits index h.1)
    expr-fits (Called function arguments) h = (names.callable function (argument_count arguments) h.0, arguments-fit arguments h.1)
    expr-fits Input h = tt
    expr-fits (Unary operator inner) h = expr-fits inner h
    expr-fits (Binary at operator left right) h = (expr-fits left h.0, expr-fits right h.1)
    expr-fits (Both left right) h = (expr-fits left h.0, expr-fits right h.1)
    expr-fits (Either left right) h = (expr-fits left h.0, expr-fits right h.1)

    pub arguments-fit : (arguments : Arguments) → ArgumentsAgree around arguments → ArgumentsFit E arguments
    arguments-fit NoArguments h = tt
    arguments-fit (Argument first later) h = (expr-fits first h.0, arguments-fit later h.1)

  part-fits : (e : Option Expr) → PartAgrees around e → PartFits E e
  part-fits None h = tt
  part-fits (Some e) h = expr-fits e h

  -- a variable that is assigned to
  target : (x : Variable) (n : Option ℕ) → Occurs around x n → IsAssignable x.class → IsTarget E x (word_count n)
  target x n h a = record { var = names.var x n h; writable = names.writable x n h a }

  pub stmt-fits : (st : Stmt) → Agrees around st → StmtFits E st
  stmt-fits Nothing h = tt
  stmt-fits (Then first second) h = (stmt-fits first h.0, stmt-fits second h.1)
  stmt-fits Empty h = tt
  stmt-fits (Block body) h = stmt-fits body h
  stmt-fits (Local x value) h = (names.own x h.0 h.1, part-fits value h.2)
  stmt-fits (Assign x value) h = (target x None h.1 h.0, expr-fits value h.2)
  stmt-fits (Store at x length index value) h = (target x (Some length) h.1 h.0, expr-fits index h.2, expr-fits value h.3)
  stmt-fits (Call function arguments) h = (names.callable function (argument_count arguments) h.0, arguments-fit arguments h.1)
  stmt-fits Suspend h = tt
  stmt-fits (Release value) h = expr-fits value h
  stmt-fits Check h = tt
  stmt-fits (Return value) h = part-fits value h
  stmt-fits Break h = tt
  stmt-fits Continue h = tt
  stmt-fits (If test body other) h = (expr-fits test h.0, stmt-fits body h.1, stmt-fits other h.2)
  stmt-fits (While test body) h = (expr-fits test h.0, stmt-fits body h.1)
  stmt-fits (For first test step body) h = (stmt-fits first h.0, part-fits test h.1, stmt-fits step h.2, stmt-fits body h.3)

-- ---- at most 64 loops stand inside one another

pub loops-nest : (st : Stmt) (l : ℕ) → l ≤ 64 → Nests l st → l + loops_in st ≤ 64
loops-nest Nothing l most h = omega (arith, most)
loops-nest (Then first second) l most h = omega (arith, loops-nest first l most h.0, loops-nest second l most h.1)
loops-nest Empty l most h = omega (arith, most)
loops-nest (Block body) l most h = let k : suc l + loops_in body ≤ 64 = loops-nest body (suc l) (omega (arith, h.0)) h.1 in omega (arith, k)
loops-nest (Local x value) l most h = omega (arith, most)
loops-nest (Assign x value) l most h = omega (arith, most)
loops-nest (Store at x length index value) l most h = omega (arith, most)
loops-nest (Call function arguments) l most h = omega (arith, most)
loops-nest Suspend l most h = omega (arith, most)
loops-nest (Release value) l most h = omega (arith, most)
loops-nest Check l most h = omega (arith, most)
loops-nest (Return value) l most h = omega (arith, most)
loops-nest Break l most h = omega (arith, most)
loops-nest Continue l most h = omega (arith, most)
loops-nest (If test body other) l most h =
    let k : suc l + loops_in body ≤ 64 = loops-nest body (suc l) (omega (arith, h.0)) h.2 in
    let m : suc l + loops_in other ≤ 64 = loops-nest other (suc l) (omega (arith, h.0)) h.3 in
    omega (arith, k, m)
loops-nest (While test body) l most h = let k : suc l + loops_in body ≤ 64 = loops-nest body (suc l) (omega (arith, h.0)) h.2 in omega (arith, k)
loops-nest (For first test step body) l most h =
    let k : suc l + loops_in first ≤ 64 = loops-nest first (suc l) (omega (arith, h.0)) h.1 in
    let m : suc l + loops_in step ≤ 64 = loops-nest step (suc l) (omega (arith, h.0)) h.3 in
    let n : suc l + loops_in body ≤ 64 = loops-nest body (suc l) (omega (arith, h.0)) h.4 in
    omega (arith, k, m, n)

-- ---- temporaries, and privacy

part-room : (e : Option Expr) → 1 ≤ room_of_part e
part-room None = omega arith
part-room (Some e) = room-positive e

pub stmt-room : (st : Stmt) → 1 ≤ room_in st
stmt-room Nothing = omega arith
stmt-room (Then first second) = omega (arith, stmt-room first)
stmt-room Empty = omega arith
stmt-room (Block body) = stmt-room body
stmt-room (Local x value) = part-room value
stmt-room (Assign x value) = room-positive value
stmt-room (Store at x length index value) = omega (arith, room-positive index)
stmt-room (Call function arguments) = omega (arith, room-counts arguments)
stmt-room Suspend = omega arith
stmt-room (Release value) = room-positive value
stmt-room Check = omega arith
stmt-room (Return value) = part-room value
stmt-room Break = omega arith
stmt-room Continue = omega arith
stmt-room (If test body other) = omega (arith, room-positive test)
stmt-room (While test body) = omega (arith, room-positive test)
stmt-room (For first test step body) = omega (arith, stmt-room first)

pub private-at : (before after : List Function) (f : Function) → is_private_in (before ++ f ∷ after) (length before) ≡ f.private
private-at [] after f = refl
private-at (g ∷ before) after f = private-at before after f
