-- A statement of the grammar has once it is resolved the releases and the checks that it has in the source.
use Rattle.std.proofs.Common.{◌≡◌, ◌∙◌, ap, sym, ℕ, Bool, List, [], ◌∷◌, ◌++◌, map, Option, Some, None, refl}
use Rattle.c_grammar.specs.declared.expr.Expr.{Expr}
use Rattle.c_grammar.specs.declared.stmt.Stmt.{Stmt}
use Rattle.c_grammar.specs.declared.stmt.Stmt.TheVariants as stmt
use Rattle.c_grammar.specs.declared.stmt.Stmt.TheOpen.{Stmt-F}
use Rattle.c_grammar.specs.declared.stmt.Stmt.TheFolds.{fold-roll-Stmt}
use Rattle.c_grammar.specs.declared.item.Item.{Item}
use Rattle.c_grammar.specs.declared.item.Item.TheVariants as item
use Rattle.c_grammar.specs.declared.item.Program.{Program}
use Rattle.c_grammar.specs.BoundedTokens.{Bounded}
use Rattle.c_grammar.specs.StatementGrammar.{Local, Simple, First, Step, Statement, Body}
use Rattle.c_grammar.specs.ProgramGrammar.{IsItem, AreItems}
use Rattle.c_scopes.specs.declared.declaration.Declaration.{Declaration}
use Rattle.c_scopes.specs.Declarations.{declaration_of, parameters_of}
use Rattle.c_scopes.specs.Scopes.{latest}
use Rattle.c_semantics.specs.ResolvedTree as Tree
use Rattle.c_types.specs.Checked.{IsReadProgram}
use Rattle.c_resolver.specs.Resolving.{ResolvedStmt, function_tokens, functions_in, resolved, typed_expr}
use Rattle.c_resolver.specs.ResolvingViews.{body_in, branch_declared, branch_in, list_in}
use Rattle.c_resolver.proofs.Rows.{resolved-Block, resolved-If, resolved-For}
use Rattle.c_meaning.specs.SourceActs.{Act, ReleaseAct, CheckAct, joined_acts, acts_step, stmt_acts, body_acts, items_acts, resolved_acts, functions_acts, ActsAgree}
use Rattle.c_meaning.proofs.Layers.{resolved-Empty, resolved-Local, resolved-Assign, resolved-Call, resolved-Release, resolved-Check, resolved-Return, resolved-Break, resolved-Continue, resolved-While, whole-form, element-form, call-form}

-- ---- the acts of each form of statement, one equation each

pub acts-Empty : (token : ℕ) → stmt_acts (stmt.Empty token) ≡ []
acts-Empty token = ap stmt_acts (sym (stmt.rolls-Empty token)) ∙ fold-roll-Stmt (List Act) acts_step (Stmt-F.Empty token)

pub acts-Local : (unsigned : Bool) (name : List ℕ) (value : Option Expr) (token : ℕ) → stmt_acts (stmt.Local unsigned name value token) ≡ []
acts-Local unsigned name value token = ap stmt_acts (sym (stmt.rolls-Local unsigned name value token)) ∙ fold-roll-Stmt (List Act) acts_step (Stmt-F.Local unsigned name value token)

pub acts-Assign : (name : List ℕ) (index : Option Expr) (value : Expr) (token : ℕ) → stmt_acts (stmt.Assign name index value token) ≡ []
acts-Assign name index value token = ap stmt_acts (sym (stmt.rolls-Assign name index value token)) ∙ fold-roll-Stmt (List Act) acts_step (Stmt-F.Assign name index value token)

pub acts-Call : (name : List ℕ) (es : List Expr) (token : ℕ) → stmt_acts (stmt.Call name es token) ≡ []
acts-Call name es token = ap stmt_acts (sym (stmt.rolls-Call name es token)) ∙ fold-roll-Stmt (List Act) acts_step (Stmt-F.Call name es token)

pub acts-Release : (value : Expr) (token : ℕ) → stmt_acts (stmt.Release value token) ≡ ReleaseAct ∷ []
acts-Release value token = ap stmt_acts (sym (stmt.rolls-Release value token)) ∙ fold-roll-Stmt (List Act) acts_step (Stmt-F.Release value token)

pub acts-Check : (token : ℕ) → stmt_acts (stmt.Check token) ≡ CheckAct ∷ []
acts-Check token = ap stmt_acts (sym (stmt.rolls-Check token)) ∙ fold-roll-Stmt (List Act) acts_step (Stmt-F.Check token)

pub acts-Return : (value : Option Expr) (token : ℕ) → stmt_acts (stmt.Return value token) ≡ []
acts-Return value token = ap stmt_acts (sym (stmt.rolls-Return value token)) ∙ fold-roll-Stmt (List Act) acts_step (Stmt-F.Return value token)

pub acts-Break : (token : ℕ) → stmt_acts (stmt.Break token) ≡ []
acts-Break token = ap stmt_acts (sym (stmt.rolls-Break token)) ∙ fold-roll-Stmt (List Act) acts_step (Stmt-F.Break token)

pub acts-Continue : (token : ℕ) → stmt_acts (stmt.Continue token) ≡ []
acts-Continue token = ap stmt_acts (sym (stmt.rolls-Continue token)) ∙ fold-roll-Stmt (List Act) acts_step (Stmt-F.Continue token)

joined : (ss : List Stmt) → joined_acts (map stmt_acts ss) ≡ body_acts ss
joined [] = refl
joined (s ∷ ss) = ap (λ acts. stmt_acts s ++ acts) (joined ss)

pub acts-Block : (body : List Stmt) (token : ℕ) → stmt_acts (stmt.Block body token) ≡ body_acts body
acts-Block body token = ap stmt_acts (sym (stmt.rolls-Block body token)) ∙ fold-roll-Stmt (List Act) acts_step (Stmt-F.Block body token) ∙ joined body

pub acts-While : (test : Expr) (body : Stmt) (token : ℕ) → stmt_acts (stmt.While test body token) ≡ stmt_acts body
acts-While test body token = ap stmt_acts (sym (stmt.rolls-While test body token)) ∙ fold-roll-Stmt (List Act) acts_step (Stmt-F.While test body token)

-- the acts of a part that need not be there
abbrev branch_acts : Option Stmt → List Act
branch_acts None = []
branch_acts (Some s) = stmt_acts s

pub acts-If : (test : Expr) (body : Stmt) (other : Option Stmt) (token : ℕ) → stmt_acts (stmt.If test body other token) ≡ stmt_acts body ++ branch_acts other
acts-If test body None token = ap stmt_acts (sym (stmt.rolls-If test body None token)) ∙ fold-roll-Stmt (List Act) acts_step (Stmt-F.If test body None token)
acts-If test body (Some other) token = ap stmt_acts (sym (stmt.rolls-If test body (Some other) token)) ∙ fold-roll-Stmt (List Act) acts_step (Stmt-F.If test body (Some other) token)

pub acts-For : (first : Option Stmt) (test : Option Expr) (step : Option Stmt) (body : Stmt) (token : ℕ) →
    stmt_acts (stmt.For first test step body token) ≡ branch_acts first ++ (branch_acts step ++ stmt_acts body)
acts-For None test None body token = ap stmt_acts (sym (stmt.rolls-For None test None body token)) ∙ fold-roll-Stmt (List Act) acts_step (Stmt-F.For None test None body token)
acts-For None test (Some step) body token = ap stmt_acts (sym (stmt.rolls-For None test (Some step) body token)) ∙ fold-roll-Stmt (List Act) acts_step (Stmt-F.For None test (Some step) body token)
acts-For (Some first) test None body token = ap stmt_acts (sym (stmt.rolls-For (Some first) test None body token)) ∙ fold-roll-Stmt (List Act) acts_step (Stmt-F.For (Some first) test None body token)
acts-For (Some first) test (Some step) body token =
    ap stmt_acts (sym (stmt.rolls-For (Some first) test (Some step) body token)) ∙ fold-roll-Stmt (List Act) acts_step (Stmt-F.For (Some first) test (Some step) body token)

pub ruleset acts = (acts-Empty, acts-Local, acts-Assign, acts-Call, acts-Release, acts-Check, acts-Return, acts-Break, acts-Continue, acts-Block, acts-If, acts-While, acts-For)

-- ---- each form of statement resolved

-- wherever it stands
abbrev HasActs : (List Declaration → Tree.Stmt) → List Act → Type 0
HasActs at acts = (known : List Declaration) → resolved_acts (at known) ≡ acts

-- by the layer of a statement
by_layer : {r s : ResolvedStmt} {a b : List Act} → r ≡ s → a ≡ b → HasActs s.at b → HasActs r.at a
by_layer same also has known = ap (λ r. resolved_acts (r.at known)) same ∙ has known ∙ sym also

abbrev KeepsActs : List ℕ → Stmt → Type 0
KeepsActs fs x = HasActs (resolved fs x).at (stmt_acts x)

local-acts : (fs : List ℕ) (unsigned : Bool) (name : List ℕ) (value : Option Expr) (token : ℕ) → KeepsActs fs (stmt.Local unsigned name value token)
local-acts fs unsigned name value token = by_layer (resolved-Local fs unsigned name value token) (acts-Local unsigned name value token) (λ known. refl)

locals_keep : (fs : List ℕ) {l : ℕ} {ts : List Bounded} {x : Stmt} → Local l ts x → KeepsActs fs x
locals_keep fs (Local.plain {is_unsigned = unsigned} first at text room d) = local-acts fs unsigned text None at.place
locals_keep fs (Local.valued {is_unsigned = unsigned} {x = x} first at equals text room d d2) = local-acts fs unsigned text (Some x) at.place

-- a statement without an act
abbrev IsIdle : Tree.Stmt → Type 0
IsIdle s = resolved_acts s ≡ []

simple_keep : (fs : List ℕ) {l : ℕ} {ts : List Bounded} {x : Stmt} → Simple l ts x → KeepsActs fs x
simple_keep fs (Simple.assign {x = x} text at equals room d) = by_layer (resolved-Assign fs text None x at.place) (acts-Assign text None x at.place)
    (λ known. whole-form IsIdle (latest known text) at.place (typed_expr fs x known).expr refl (λ v. refl))
simple_keep fs (Simple.assign_at {x = x} {y = y} text at left right equals room deeper d d2) = by_layer (resolved-Assign fs text (Some x) y at.place) (acts-Assign text (Some x) y at.place)
    (λ known. element-form IsIdle (latest known text) at.place (typed_expr fs x known).expr (typed_expr fs y known).expr refl (λ v length. refl))
simple_keep fs (Simple.call {xs = xs} text at room d) = by_layer (resolved-Call fs text xs at.place) (acts-Call text xs at.place)
    (λ known. call-form IsIdle fs (latest known text) (list_in fs xs known) refl refl (λ function. refl))
simple_keep fs (Simple.release {x = x} at left right room d) = by_layer (resolved-Release fs x at.place) (acts-Release x at.place) (λ known. refl)
simple_keep fs (Simple.check at left right room) = by_layer (resolved-Check fs at.place) (acts-Check at.place) (λ known. refl)

first_keep : (fs : List ℕ) {l : ℕ} {ts : List Bounded} {x : Option Stmt} → First l ts x → HasActs (branch_in fs x) (branch_acts x)
first_keep fs First.nothing known = refl
first_keep fs (First.local d) known = locals_keep fs d known
first_keep fs (First.simple d) known = simple_keep fs d known

step_keep : (fs : List ℕ) {l : ℕ} {ts : List Bounded} {x : Option Stmt} → Step l ts x → HasActs (branch_in fs x) (branch_acts x)
step_keep fs Step.nothing known = refl
step_keep fs (Step.simple d) known = simple_keep fs d known

-- two lists that are the same, one after the other
both : {a b c d : List Act} → a ≡ b → c ≡ d → a ++ c ≡ b ++ d
both {b = b} {c = c} first second = ap (λ acts. acts ++ c) first ∙ ap (λ acts. b ++ acts) second

block-acts : (fs : List ℕ) (body : List Stmt) (token : ℕ) → HasActs (body_in fs body) (body_acts body) → KeepsActs fs (stmt.Block body token)
block-acts fs body token inner known = ap resolved_acts (resolved-Block fs body token known) ∙ inner known ∙ sym (acts-Block body token)

if-acts : (fs : List ℕ) (test : Expr) (body : Stmt) (other : Option Stmt) (token : ℕ) → KeepsActs fs body → HasActs (branch_in fs other) (branch_acts other) → KeepsActs fs (stmt.If test body other token)
if-acts fs test body other token b c = by_layer (resolved-If fs test body other token) (acts-If test body other token) (λ known. both (b known) (c known))

while-acts : (fs : List ℕ) (test : Expr) (body : Stmt) (token : ℕ) → KeepsActs fs body → KeepsActs fs (stmt.While test body token)
while-acts fs test body token b = by_layer (resolved-While fs test body token) (acts-While test body token) b

for-acts : (fs : List ℕ) (first : Option Stmt) (test : Option Expr) (step : Option Stmt) (body : Stmt) (token : ℕ) → HasActs (branch_in fs first) (branch_acts first) →
    HasActs (branch_in fs step) (branch_acts step) → KeepsActs fs body → KeepsActs fs (stmt.For first test step body token)
for-acts fs first test step body token a b c = by_layer (resolved-For fs first test step body token) (acts-For first test step body token)
    (λ known. let around = known ++ branch_declared fs first in both (a known) (both (b around) (c around)))

-- ---- statements of the grammar

mutual
  statement_keeps : (fs : List ℕ) {l : ℕ} {ts : List Bounded} {x : Stmt} {takes : Bool} → Statement l ts x takes → KeepsActs fs x
  statement_keeps fs (Statement.block {xs = xs} left right room d) = block-acts fs xs left.place (λ known. body_keeps fs d known)
  statement_keeps fs (Statement.empty at room) = by_layer (resolved-Empty fs at.place) (acts-Empty at.place) (λ known. refl)
  statement_keeps fs (Statement.simple end d) = simple_keep fs d
  statement_keeps fs (Statement.«return» {value = value} at end room d) = by_layer (resolved-Return fs value at.place) (acts-Return value at.place) (λ known. refl)
  statement_keeps fs (Statement.break at end room) = by_layer (resolved-Break fs at.place) (acts-Break at.place) (λ known. refl)
  statement_keeps fs (Statement.continue at end room) = by_layer (resolved-Continue fs at.place) (acts-Continue at.place) (λ known. refl)
  statement_keeps fs (Statement.if {test = test} {body = body} at left right room d d2) =
      if-acts fs test body None at.place (λ known. statement_keeps fs d2 known) (λ known. refl)
  statement_keeps fs (Statement.if_else {test = test} {body = body} {other = other} at left right else room d d2 d3) =
      if-acts fs test body (Some other) at.place (λ known. statement_keeps fs d2 known) (λ known. statement_keeps fs d3 known)
  statement_keeps fs (Statement.while {test = test} {body = body} at left right room d d2) = while-acts fs test body at.place (λ known. statement_keeps fs d2 known)
  statement_keeps fs (Statement.for {first = first} {step = step} {test = test} {body = body} at left second third right room d d2 d3 d4) =
      for-acts fs first test step body at.place (first_keep fs d) (step_keep fs d3) (λ known. statement_keeps fs d4 known)

  body_keeps : (fs : List ℕ) {l : ℕ} {ts : List Bounded} {xs : List Stmt} → Body l ts xs → HasActs (body_in fs xs) (body_acts xs)
  body_keeps fs Body.nothing known = refl
  body_keeps fs (Body.local {x = x} {xs = xs} end d d2) known = both (locals_keep fs d known) (body_keeps fs d2 (known ++ (resolved fs x).declared))
  body_keeps fs (Body.statement {x = x} {xs = xs} d d2) known = both (statement_keeps fs d known) (body_keeps fs d2 (known ++ (resolved fs x).declared))

-- ---- programs

items_keep : (fs : List ℕ) {ts : List Bounded} {items : List Item} → AreItems ts items → (known : List Declaration) → functions_acts (functions_in fs items known) ≡ items_acts items
items_keep fs AreItems.nothing known = refl
items_keep fs (AreItems.further (IsItem.object {class = storage} {is_unsigned = unsigned} {length = length} first at end text a b c) d) known =
    items_keep fs d (known ++ declaration_of (item.Object storage unsigned text length at.place) ∷ [])
items_keep fs (AreItems.further (IsItem.constant {is_unsigned = unsigned} {braces = braces} {length = length} {values = values} const first at equals end text a b c) d) known =
    items_keep fs d (known ++ declaration_of (item.Constant unsigned text length values braces at.place) ∷ [])
items_keep fs (AreItems.further (IsItem.untrusted first void at left inner right end text) d) known = items_keep fs d (known ++ declaration_of (item.Untrusted text at.place) ∷ [])
items_keep fs (AreItems.further (IsItem.function {is_private = private} {result = result} {params = ps} {body = body} at left right start end text a b c inside) d) known =
    let after = known ++ declaration_of (item.Function private result text ps body at.place) ∷ [] in
    both (body_keeps fs inside (after ++ parameters_of ps)) (items_keep fs d after)

pub acts_agree : (p : Program) → IsReadProgram p → ActsAgree p
acts_agree p read = items_keep (function_tokens p.items) read.2 []
