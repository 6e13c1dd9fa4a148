-- A program of the grammar has no more nodes, and no more declarations, than it has tokens.
use Rattle.std.proofs.Common.{◌≡◌, ◌∙◌, ap, ℕ, suc, ◌+◌, ◌≤◌, Bool, List, [], ◌∷◌, ◌++◌, length, Option, Some, None, arith, refl, length-append}
use Rattle.c_token.specs.declared.kinds.Kind.{Kind}
use Rattle.c_grammar.specs.declared.expr.Expr.{Expr}
use Rattle.c_grammar.specs.declared.stmt.Stmt.{Stmt}
use Rattle.c_grammar.specs.declared.item.Parameter.{Parameter}
use Rattle.c_grammar.specs.declared.item.Item.{Item}
use Rattle.c_grammar.specs.BoundedTokens.{Bounded, Tok, numbered, bounded_all}
use Rattle.c_grammar.specs.ExpressionGrammar.{Expression, Binary, Unary, Primary, Arguments, Listed}
use Rattle.c_grammar.specs.StatementGrammar.{Local, Simple, First, Step, Maybe, Statement, Body}
use Rattle.c_grammar.specs.ProgramGrammar.{IsItem, AreItems, AreParameters, AreListed, IsParameter}
use Rattle.c_meaning.specs.SourceNodes.{expr_count, part_count, list_count, stmt_count, body_count, items_count}
use Rattle.c_meaning.proofs.Counts.{branch_count, count-Number, count-Name, count-Index, count-Call, count-Input, count-Paren, count-Unary, count-Binary, count-Empty, count-Local, count-Assign, count-call, count-Release, count-Check, count-Return, count-Break, count-Continue, count-Block, count-If, count-While, count-For}

-- the number of tokens of two rows
both-length : (ts us : List Bounded) → length (ts ++ us) ≡ length ts + length us
both-length ts us = length-append ts us

-- ---- expressions

mutual
  pub expression-counted : {l : ℕ} {ts : List Bounded} {x : Expr} → Expression l ts x → expr_count x ≤ length ts
  expression-counted (Expression.whole d) = binary-counted d

  binary-counted : {l level before used : ℕ} {ts : List Bounded} {x : Expr} → Binary l level before ts x used → expr_count x ≤ length ts
  binary-counted (Binary.alone d) = unary-counted d
  binary-counted (Binary.tighter d) = binary-counted d
  binary-counted (Binary.both {ts = ts} {us = us} {x = x} {y = y} op at d is room d2) =
      let first : expr_count x ≤ length ts = binary-counted d in
      let second : expr_count y ≤ length us = binary-counted d2 in
      rw (count-Binary op x y at.place) (rw both-length (omega arith))

  unary-counted : {l : ℕ} {ts : List Bounded} {x : Expr} → Unary l ts x → expr_count x ≤ length ts
  unary-counted (Unary.primary d) = primary-counted d
  unary-counted (Unary.operation {ts = ts} {x = x} op at is room d) =
      let inner : expr_count x ≤ length ts = unary-counted d in
      rw (count-Unary op x at.place) (omega arith)

  primary-counted : {l : ℕ} {ts : List Bounded} {x : Expr} → Primary l ts x → expr_count x ≤ length ts
  primary-counted (Primary.literal value unsigned at) = rw (count-Number value unsigned at.place) (omega arith)
  primary-counted (Primary.variable text at) = rw (count-Name text at.place) (omega arith)
  primary-counted (Primary.element {ts = ts} {x = x} text at left right room d) =
      let inner : expr_count x ≤ length ts = expression-counted d in
      rw (count-Index text x left.place) (rw both-length (omega arith))
  primary-counted (Primary.call {ts = ts} {xs = xs} text at d) =
      let inner : list_count xs ≤ length ts = arguments-counted d in
      rw (count-Call text xs at.place) (omega arith)
  primary-counted (Primary.input at left right) = rw (count-Input at.place) (omega arith)
  primary-counted (Primary.parenthesised {ts = ts} {x = x} left right room d) =
      let inner : expr_count x ≤ length ts = expression-counted d in
      rw (count-Paren x left.place) (rw both-length (omega arith))

  pub arguments-counted : {l : ℕ} {ts : List Bounded} {xs : List Expr} → Arguments l ts xs → list_count xs ≤ length ts
  arguments-counted (Arguments.nothing left right room) = omega arith
  arguments-counted (Arguments.some {ts = ts} {xs = xs} left right room d) =
      let inner : list_count xs ≤ length ts = listed-counted d in
      rw both-length (omega arith)

  listed-counted : {l : ℕ} {ts : List Bounded} {xs : List Expr} → Listed l ts xs → list_count xs ≤ length ts
  listed-counted (Listed.one {ts = ts} {x = x} d) =
      let inner : expr_count x ≤ length ts = expression-counted d in omega arith
  listed-counted (Listed.further {ts = ts} {us = us} {x = x} {xs = xs} comma d d2) =
      let first : expr_count x ≤ length ts = expression-counted d in
      let later : list_count xs ≤ length us = listed-counted d2 in
      rw both-length (omega arith)

-- ---- statements

local-counted : {l : ℕ} {ts : List Bounded} {x : Stmt} → Local l ts x → stmt_count x ≤ length ts
local-counted (Local.plain {ts = ts} {is_unsigned = unsigned} first at text room d) =
    rw (count-Local unsigned text None at.place) (rw both-length (omega arith))
local-counted (Local.valued {ts = ts} {us = us} {is_unsigned = unsigned} {x = x} first at equals text room d d2) =
    let value : expr_count x ≤ length us = expression-counted d2 in
    rw (count-Local unsigned text (Some x) at.place) (rw both-length (omega arith))

simple-counted : {l : ℕ} {ts : List Bounded} {x : Stmt} → Simple l ts x → stmt_count x ≤ length ts
simple-counted (Simple.assign {ts = ts} {x = x} text at equals room d) =
    let value : expr_count x ≤ length ts = expression-counted d in
    rw (count-Assign text None x at.place) (omega arith)
simple-counted (Simple.assign_at {ts = ts} {us = us} {x = x} {y = y} text at left right equals room room2 d d2) =
    let index : expr_count x ≤ length ts = expression-counted d in
    let value : expr_count y ≤ length us = expression-counted d2 in
    rw (count-Assign text (Some x) y at.place) (rw both-length (omega arith))
simple-counted (Simple.call {ts = ts} {xs = xs} text at room d) =
    let inner : list_count xs ≤ length ts = arguments-counted d in
    rw (count-call text xs at.place) (omega arith)
simple-counted (Simple.release {ts = ts} {x = x} at left right room d) =
    let value : expr_count x ≤ length ts = expression-counted d in
    rw (count-Release x at.place) (rw both-length (omega arith))
simple-counted (Simple.check at left right room) = rw (count-Check at.place) (omega arith)

first-counted : {l : ℕ} {ts : List Bounded} {x : Option Stmt} → First l ts x → branch_count x ≤ length ts
first-counted First.nothing = omega arith
first-counted (First.local d) = local-counted d
first-counted (First.simple d) = simple-counted d

step-counted : {l : ℕ} {ts : List Bounded} {x : Option Stmt} → Step l ts x → branch_count x ≤ length ts
step-counted Step.nothing = omega arith
step-counted (Step.simple d) = simple-counted d

maybe-counted : {l : ℕ} {ts : List Bounded} {x : Option Expr} → Maybe l ts x → part_count x ≤ length ts
maybe-counted Maybe.nothing = omega arith
maybe-counted (Maybe.given d) = expression-counted d

mutual
  statement-counted : {l : ℕ} {ts : List Bounded} {x : Stmt} {takes : Bool} → Statement l ts x takes → stmt_count x ≤ length ts
  statement-counted (Statement.block {ts = ts} {xs = xs} left right room d) =
      let inner : body_count xs ≤ length ts = body-counted d in
      rw (count-Block xs left.place) (rw both-length (omega arith))
  statement-counted (Statement.empty at room) = rw (count-Empty at.place) (omega arith)
  statement-counted (Statement.simple {ts = ts} {x = x} end d) =
      let inner : stmt_count x ≤ length ts = simple-counted d in
      rw both-length (omega arith)
  statement-counted (Statement.«return» {ts = ts} {value = value} at end room d) =
      let inner : part_count value ≤ length ts = maybe-counted d in
      rw (count-Return value at.place) (rw both-length (omega arith))
  statement-counted (Statement.break at end room) = rw (count-Break at.place) (omega arith)
  statement-counted (Statement.continue at end room) = rw (count-Continue at.place) (omega arith)
  statement-counted (Statement.if {ts = ts} {us = us} {test = test} {body = body} at left right room d d2) =
      let condition : expr_count test ≤ length ts = expression-counted d in
      let inner : stmt_count body ≤ length us = statement-counted d2 in
      rw (count-If test body None at.place) (rw both-length (omega arith))
  statement-counted (Statement.if_else {ts = ts} {us = us} {vs = vs} {test = test} {body = body} {other = other} at left right else room d d2 d3) =
      let condition : expr_count test ≤ length ts = expression-counted d in
      let inner : stmt_count body ≤ length us = statement-counted d2 in
      let last : stmt_count other ≤ length vs = statement-counted d3 in
      rw (count-If test body (Some other) at.place) (simp both-length (omega arith))
  statement-counted (Statement.while {ts = ts} {us = us} {test = test} {body = body} at left right room d d2) =
      let condition : expr_count test ≤ length ts = expression-counted d in
      let inner : stmt_count body ≤ length us = statement-counted d2 in
      rw (count-While test body at.place) (rw both-length (omega arith))
  statement-counted (Statement.for {ts = ts} {us = us} {vs = vs} {ws = ws} {first = first} {step = step} {test = test} {body = body} at left second third right room d d2 d3 d4) =
      let before : branch_count first ≤ length ts = first-counted d in
      let condition : part_count test ≤ length us = maybe-counted d2 in
      let after : branch_count step ≤ length vs = step-counted d3 in
      let inner : stmt_count body ≤ length ws = statement-counted d4 in
      rw (count-For first test step body at.place) (simp both-length (omega arith))

  body-counted : {l : ℕ} {ts : List Bounded} {xs : List Stmt} → Body l ts xs → body_count xs ≤ length ts
  body-counted Body.nothing = omega arith
  body-counted (Body.local {ts = ts} {us = us} {x = x} {xs = xs} end d d2) =
      let one : stmt_count x ≤ length ts = local-counted d in
      let later : body_count xs ≤ length us = body-counted d2 in
      rw both-length (omega arith)
  body-counted (Body.statement {ts = ts} {us = us} {x = x} {xs = xs} d d2) =
      let one : stmt_count x ≤ length ts = statement-counted d in
      let later : body_count xs ≤ length us = body-counted d2 in
      rw both-length (omega arith)

-- ---- items

parameter-counted : {ts : List Bounded} {x : Parameter} → IsParameter ts x → 1 ≤ length ts
parameter-counted (IsParameter.typed {ts = ts} first at text d) = rw both-length (omega arith)

listed-parameters : {ts : List Bounded} {xs : List Parameter} → AreListed ts xs → length xs ≤ length ts
listed-parameters (AreListed.one {ts = ts} d) = let one : 1 ≤ length ts = parameter-counted d in omega arith
listed-parameters (AreListed.further {ts = ts} {us = us} {xs = xs} comma d d2) =
    let one : 1 ≤ length ts = parameter-counted d in
    let later : length xs ≤ length us = listed-parameters d2 in
    rw both-length (omega arith)

parameters-counted : {ts : List Bounded} {xs : List Parameter} → AreParameters ts xs → length xs ≤ length ts
parameters-counted AreParameters.nothing = omega arith
parameters-counted (AreParameters.void at) = omega arith
parameters-counted (AreParameters.some d) = listed-parameters d

-- the nodes of items, and how many items there are
pub items-counted : {ts : List Bounded} {xs : List Item} → AreItems ts xs → items_count xs + length xs ≤ length ts
items-counted AreItems.nothing = omega arith
items-counted (AreItems.further {us = rest} {xs = xs} (IsItem.object {ts = ts} {us = us} {vs = vs} first at end text a b c) ds) =
    let later : items_count xs + length xs ≤ length rest = items-counted ds in
    simp both-length (omega arith)
items-counted (AreItems.further {us = rest} {xs = xs} (IsItem.constant {ts = ts} {us = us} {vs = vs} const first at equals end text a b c) ds) =
    let later : items_count xs + length xs ≤ length rest = items-counted ds in
    simp both-length (omega arith)
items-counted (AreItems.further {us = rest} {xs = xs} (IsItem.untrusted first void at left inner right end text) ds) =
    let later : items_count xs + length xs ≤ length rest = items-counted ds in
    omega arith
items-counted (AreItems.further {us = rest} {xs = xs} (IsItem.function {ts = ts} {us = us} {vs = vs} {ws = ws} {params = ps} {body = body} at left right start end text a b c d) ds) =
    let given : length ps ≤ length vs = parameters-counted c in
    let inner : body_count body ≤ length ws = body-counted d in
    let later : items_count xs + length xs ≤ length rest = items-counted ds in
    simp both-length (omega arith)

length-numbered : (n : ℕ) (kinds : List Kind) → length (numbered n kinds) ≡ length kinds
length-numbered n [] = refl
length-numbered n (kind ∷ kinds) = ap suc (length-numbered (suc n) kinds)

length-bounded : (n : ℕ) (toks : List Tok) → length (bounded_all n toks) ≡ length toks
length-bounded n [] = refl
length-bounded n (tok ∷ toks) = ap suc (length-bounded n toks)

pub tokens-length : (limit : ℕ) (kinds : List Kind) → length (bounded_all limit (numbered 0 kinds)) ≡ length kinds
tokens-length limit kinds = length-bounded limit (numbered 0 kinds) ∙ length-numbered 0 kinds
