-- Each word on what is listed, on acts, on depths, on the tokens of tests and on nodes, where it holds and where it does not.
use Rattle.std.proofs.Common.{◌≡◌, ℕ, true, false, List, [], ◌∷◌, map, codes, Some, None, refl}
use Rattle.aegis_num.specs.declared.operators.BinaryOp.TheVariants as op
use Rattle.aegis_num.specs.declared.operators.UnaryOp.TheVariants as unary
use Rattle.regions.specs.declared.rights.Class.TheVariants.{Private}
use Rattle.c_token.specs.declared.kinds.Kind.{Kind}
use Rattle.c_token.specs.declared.kinds.Kind.TheVariants as kind
use Rattle.c_token.specs.declared.signs.Sign.TheVariants as sign
use Rattle.c_grammar.specs.declared.item.Kind3.TheVariants.{Int, Void}
use Rattle.c_grammar.specs.declared.expr.Expr.{Expr}
use Rattle.c_grammar.specs.declared.expr.Expr.TheVariants as expr
use Rattle.c_grammar.specs.declared.stmt.Stmt.{Stmt}
use Rattle.c_grammar.specs.declared.stmt.Stmt.TheVariants as stmt
use Rattle.c_grammar.specs.declared.item.Item.TheVariants as item
use Rattle.c_grammar.specs.declared.item.Storage.TheVariants.{Shared}
use Rattle.c_types.specs.declared.checked.Function.{Function}
use Rattle.c_semantics.specs.declared.tree.Variable.{Variable}
use Rattle.c_semantics.specs.ResolvedTree as Tree
use Rattle.c_meaning.specs.FunctionNumbers.{listed_kept, listed_shape, resolved_kept, resolved_shape, trusted}
use Rattle.c_scopes.specs.declared.declaration.Entity.TheVariants as entity
use Rattle.c_meaning.specs.Mentions.{Suspended, bound_to, in_stmt}
use Rattle.c_meaning.specs.OperatorDepth.{functions_depth, operator_depth, statement_depth}
use Rattle.c_meaning.specs.SourceActs.{ReleaseAct, CheckAct, functions_acts, items_acts, resolved_acts, stmt_acts}
use Rattle.c_meaning.specs.SourceNodes.{expr_count, items_count, stmt_count}
use Rattle.c_meaning.proofs.ActsKept.{acts}
use Rattle.c_meaning.proofs.Counts.{counts}
use Rattle.c_meaning.specs.TestTokens.{ExprStands, FunctionsStand, StmtStands}

abbrev x : Variable
x = record { token = 5; class = None }

abbrev loop : Tree.Stmt
loop = Tree.While (Tree.Number 1) Tree.Empty

-- ---- what is listed

abbrev gap : Function
gap = record { name = codes "gap"; private = false; untrusted = true; result = Void; parameters = 0 }

abbrev f : Function
f = record { name = codes "f"; private = true; untrusted = false; result = Int; parameters = 2 }

without_gap : map listed_shape (trusted (gap ∷ f ∷ gap ∷ [])) ≡ record { private = true; parameters = 2 } ∷ []
without_gap = refl

shape_of_f : resolved_shape (record { private = true; parameters = x ∷ x ∷ []; body = loop }) ≡ listed_shape f
shape_of_f = refl

kept : resolved_kept (record { variable = record { token = 1; class = Some Private }; length = Some 3; first = [] })
    ≡ listed_kept (record { name = codes "a"; class = Private; unsigned = true; length = Some 3 })
kept = refl

-- ---- calls of untrusted code

suspensions : in_stmt (Tree.Then Tree.Suspend (Tree.Block Tree.Suspend)) ≡ Suspended ∷ Suspended ∷ []
suspensions = refl

bound_untrusted : bound_to (4 ∷ []) 9 (entity.Function Void true 0) ≡ Suspended ∷ []
bound_untrusted = refl

-- ---- releases and checks

abbrev give : Tree.Stmt
give = Tree.Release (Tree.Number 1)

resolved_in_order : resolved_acts (Tree.Then give (Tree.Then Tree.Check (Tree.Block give))) ≡ ReleaseAct ∷ CheckAct ∷ ReleaseAct ∷ []
resolved_in_order = refl

resolved_around : map resolved_acts (Tree.If (Tree.Number 1) give Tree.Check ∷ Tree.While (Tree.Number 1) Tree.Check ∷ Tree.For give None Tree.Check give ∷ [])
    ≡ (ReleaseAct ∷ CheckAct ∷ []) ∷ (CheckAct ∷ []) ∷ (ReleaseAct ∷ CheckAct ∷ ReleaseAct ∷ []) ∷ []
resolved_around = refl

resolved_without : map resolved_acts (Tree.Empty ∷ Tree.Suspend ∷ Tree.Break ∷ Tree.Assign x (Tree.Number 1) ∷ Tree.Return None ∷ Tree.Call 0 Tree.NoArguments ∷ []) ≡ [] ∷ [] ∷ [] ∷ [] ∷ [] ∷ [] ∷ []
resolved_without = refl

-- a check is no release, and their order counts
other_order : resolved_acts (Tree.Then give Tree.Check) ≡ CheckAct ∷ ReleaseAct ∷ [] → ⊥
other_order e = let same : ReleaseAct ∷ CheckAct ∷ [] ≡ CheckAct ∷ ReleaseAct ∷ [] = e in cc

second_body : functions_acts (record { private = false; parameters = []; body = give } ∷ record { private = false; parameters = []; body = Tree.Check } ∷ []) ≡ ReleaseAct ∷ CheckAct ∷ []
second_body = refl

abbrev gives : Stmt
gives = stmt.Release (expr.Number 1 false 2) 0

abbrev checks : Stmt
checks = stmt.Check 0

source_in_order : stmt_acts (stmt.Block (gives ∷ checks ∷ gives ∷ []) 0) ≡ ReleaseAct ∷ CheckAct ∷ ReleaseAct ∷ []
source_in_order = simp acts refl

source_around : map stmt_acts (stmt.If (expr.Input 0) gives (Some checks) 0 ∷ stmt.If (expr.Input 0) checks None 0 ∷ stmt.While (expr.Input 0) checks 0
    ∷ stmt.For (Some gives) None (Some checks) gives 0 ∷ stmt.For None None None checks 0 ∷ [])
    ≡ (ReleaseAct ∷ CheckAct ∷ []) ∷ (CheckAct ∷ []) ∷ (CheckAct ∷ []) ∷ (ReleaseAct ∷ CheckAct ∷ ReleaseAct ∷ []) ∷ (CheckAct ∷ []) ∷ []
source_around = simp acts refl

source_without : map stmt_acts (stmt.Empty 0 ∷ stmt.Local false (codes "i") None 0 ∷ stmt.Assign (codes "i") None (expr.Input 0) 0 ∷ stmt.Call (codes "f") [] 0 ∷ stmt.Return None 0
    ∷ stmt.Break 0 ∷ stmt.Continue 0 ∷ []) ≡ [] ∷ [] ∷ [] ∷ [] ∷ [] ∷ [] ∷ [] ∷ []
source_without = simp acts refl

item_acts : items_acts (item.Untrusted (codes "g") 5 ∷ item.Function false Int (codes "f") [] (gives ∷ []) 7 ∷ item.Object Shared false (codes "a") None 1
    ∷ item.Function true Void (codes "h") [] (checks ∷ []) 20 ∷ []) ≡ ReleaseAct ∷ CheckAct ∷ []
item_acts = simp acts refl

-- ---- operators inside one another

-- 1 + 1, and so many sums to the left of a further 1
abbrev plus : Tree.Expr → Tree.Expr
plus left = Tree.Binary 9 op.Add left (Tree.Number 1)

abbrev sum : Tree.Expr
sum = plus (Tree.Number 1)

-- on either side the deeper operand counts, and no operator is counted twice
depths : map operator_depth (Tree.Number 1 ∷ Tree.Input ∷ sum ∷ plus sum ∷ Tree.Binary 9 op.Add sum sum ∷ Tree.Binary 9 op.Add sum (plus sum) ∷ Tree.Binary 9 op.Add (plus sum) sum ∷ [])
    ≡ 0 ∷ 0 ∷ 1 ∷ 2 ∷ 2 ∷ 3 ∷ 3 ∷ []
depths = refl

depths_inside : map operator_depth (Tree.Both sum (Tree.Number 1) ∷ Tree.Either (Tree.Number 1) sum ∷ Tree.Indexed 9 x 3 sum ∷ Tree.Unary unary.Neg sum
    ∷ Tree.Called 0 (Tree.Argument sum (Tree.Argument (plus sum) Tree.NoArguments)) ∷ []) ≡ 2 ∷ 2 ∷ 1 ∷ 1 ∷ 2 ∷ []
depths_inside = refl

depths_of_statements : map statement_depth (Tree.Empty ∷ Tree.Local x (Some sum) ∷ Tree.Local x None ∷ Tree.Assign x sum ∷ Tree.Store 9 x 3 sum (plus sum) ∷ Tree.Store 9 x 3 (plus sum) sum
    ∷ Tree.Call 0 (Tree.Argument sum Tree.NoArguments) ∷ Tree.Release sum ∷ Tree.Return (Some sum) ∷ []) ≡ 0 ∷ 1 ∷ 0 ∷ 1 ∷ 2 ∷ 2 ∷ 1 ∷ 1 ∷ 1 ∷ []
depths_of_statements = refl

abbrev deep : Tree.Stmt
deep = Tree.Release (plus sum)

abbrev shallow : Tree.Stmt
shallow = Tree.Release sum

depths_of_others : map statement_depth (Tree.Then shallow deep ∷ Tree.Then deep shallow ∷ Tree.Block deep ∷ Tree.If (plus sum) shallow shallow ∷ Tree.If sum deep shallow ∷ Tree.If sum shallow deep
    ∷ Tree.While (plus sum) shallow ∷ Tree.While sum deep ∷ Tree.For deep None shallow shallow ∷ Tree.For shallow (Some (plus sum)) shallow shallow ∷ Tree.For shallow None deep shallow
    ∷ Tree.For shallow None shallow deep ∷ []) ≡ 2 ∷ 2 ∷ 2 ∷ 2 ∷ 2 ∷ 2 ∷ 2 ∷ 2 ∷ 2 ∷ 2 ∷ 2 ∷ 2 ∷ []
depths_of_others = refl

depth_of_second : functions_depth (record { private = false; parameters = []; body = shallow } ∷ record { private = false; parameters = []; body = deep } ∷ []) ≡ 2
depth_of_second = refl

-- ---- tokens of tests

-- the tokens of a [ 1 ] / 2
abbrev kinds : List Kind
kinds = kind.Name (codes "a") ∷ kind.Sign sign.LeftBracket ∷ kind.Number 1 false ∷ kind.Sign sign.RightBracket ∷ kind.Sign sign.Slash ∷ kind.Number 2 false ∷ []

abbrev one : Tree.Expr
one = Tree.Number 1

abbrev quotient : ℕ → ℕ → Tree.Expr
quotient bracket slash = Tree.Binary slash op.DivU (Tree.Indexed bracket x 3 one) (Tree.Number 2)

at_their_signs : ExprStands kinds (quotient 1 4)
at_their_signs = (refl, (refl, tt), tt)

-- a test at another token, at none, and at the sign of another operator
other_bracket : ExprStands kinds (quotient 0 4) → ⊥
other_bracket h = let e = h.1.0 in absurd (cc)

no_bracket : ExprStands kinds (quotient 6 4) → ⊥
no_bracket h = let e = h.1.0 in absurd (cc)

other_slash : ExprStands kinds (quotient 1 5) → ⊥
other_slash h = let e = h.0 in absurd (cc)

other_operator : ExprStands kinds (Tree.Binary 4 op.RemS one one) → ⊥
other_operator h = let e = h.0 in absurd (cc)

abbrev wrong : Tree.Expr
wrong = Tree.Indexed 0 x 3 one

wrong_refused : ExprStands kinds wrong → ⊥
wrong_refused h = let e = h.0 in absurd (cc)

inside_expressions : (ExprStands kinds (Tree.Indexed 1 x 3 wrong) → ⊥) × (ExprStands kinds (Tree.Called 0 (Tree.Argument one (Tree.Argument wrong Tree.NoArguments))) → ⊥)
    × (ExprStands kinds (Tree.Binary 4 op.DivS wrong one) → ⊥) × (ExprStands kinds (Tree.Binary 4 op.DivS one wrong) → ⊥)
    × (ExprStands kinds (Tree.Both wrong one) → ⊥) × (ExprStands kinds (Tree.Both one wrong) → ⊥) × (ExprStands kinds (Tree.Either wrong one) → ⊥) × (ExprStands kinds (Tree.Either one wrong) → ⊥)
inside_expressions = (λ h. wrong_refused h.1, λ h. wrong_refused h.1.0, λ h. wrong_refused h.1, λ h. wrong_refused h.2, λ h. wrong_refused h.0, λ h. wrong_refused h.1, λ h. wrong_refused h.0, λ h. wrong_refused h.1)

stores : StmtStands kinds (Tree.Store 1 x 3 one (quotient 1 4))
stores = (refl, tt, at_their_signs)

inside_statements : (StmtStands kinds (Tree.Store 0 x 3 one one) → ⊥) × (StmtStands kinds (Tree.Store 1 x 3 wrong one) → ⊥) × (StmtStands kinds (Tree.Store 1 x 3 one wrong) → ⊥)
    × (StmtStands kinds (Tree.Local x (Some wrong)) → ⊥) × (StmtStands kinds (Tree.Assign x wrong) → ⊥) × (StmtStands kinds (Tree.Call 0 (Tree.Argument wrong Tree.NoArguments)) → ⊥)
    × (StmtStands kinds (Tree.Release wrong) → ⊥) × (StmtStands kinds (Tree.Return (Some wrong)) → ⊥) × (StmtStands kinds (Tree.While wrong Tree.Empty) → ⊥)
inside_statements = (λ h. let e = h.0 in absurd (cc), λ h. wrong_refused h.1, λ h. wrong_refused h.2, wrong_refused, wrong_refused, λ h. wrong_refused h.0, wrong_refused, wrong_refused, λ h. wrong_refused h.0)

abbrev wrong_statement : Tree.Stmt
wrong_statement = Tree.Assign x wrong

inside_others : (StmtStands kinds (Tree.Then wrong_statement Tree.Empty) → ⊥) × (StmtStands kinds (Tree.Then Tree.Empty wrong_statement) → ⊥) × (StmtStands kinds (Tree.Block wrong_statement) → ⊥)
    × (StmtStands kinds (Tree.If wrong Tree.Empty Tree.Nothing) → ⊥) × (StmtStands kinds (Tree.If one wrong_statement Tree.Nothing) → ⊥) × (StmtStands kinds (Tree.If one Tree.Empty wrong_statement) → ⊥)
    × (StmtStands kinds (Tree.While one wrong_statement) → ⊥) × (StmtStands kinds (Tree.For wrong_statement None Tree.Nothing Tree.Empty) → ⊥) × (StmtStands kinds (Tree.For Tree.Nothing (Some wrong) Tree.Nothing Tree.Empty) → ⊥)
    × (StmtStands kinds (Tree.For Tree.Nothing None wrong_statement Tree.Empty) → ⊥) × (StmtStands kinds (Tree.For Tree.Nothing None Tree.Nothing wrong_statement) → ⊥)
inside_others = (
  λ h. wrong_refused h.0,
  λ h. wrong_refused h.1,
  wrong_refused,
  λ h. wrong_refused h.0,
  λ h. wrong_refused h.1,
  λ h. wrong_refused h.2,
  λ h. wrong_refused h.1,
  λ h. wrong_refused h.0,
  λ h. wrong_refused h.1,
  λ h. wrong_refused h.2,
  λ h. wrong_refused h.3,
)

second_function : FunctionsStand kinds (record { private = false; parameters = []; body = Tree.Empty } ∷ record { private = false; parameters = []; body = wrong_statement } ∷ []) → ⊥
second_function h = wrong_refused h.1.0

-- ---- nodes of a source

-- -(a[1] + f(2, 3)), in parentheses: the sign -, the sum, the element, its index, the call and its two arguments
abbrev seven : Expr
seven = expr.Unary sign.Minus (expr.Paren (expr.Binary sign.Plus (expr.Index (codes "a") (expr.Number 1 false 3) 2)
    (expr.Call (codes "f") (expr.Number 2 false 8 ∷ expr.Number 3 false 10 ∷ []) 6) 5) 1) 0

seven_nodes : expr_count seven ≡ 7
seven_nodes = simp counts refl

one_each : map expr_count (expr.Number 1 false 0 ∷ expr.Name (codes "a") 0 ∷ expr.Input 0 ∷ expr.Paren (expr.Input 1) 0 ∷ []) ≡ 1 ∷ 1 ∷ 1 ∷ 1 ∷ []
one_each = simp counts refl

abbrev simple : List Stmt
simple = stmt.Empty 0 ∷ stmt.Check 0 ∷ stmt.Break 0 ∷ stmt.Continue 0 ∷ stmt.Local false (codes "i") None 0 ∷ stmt.Local false (codes "i") (Some seven) 0
    ∷ stmt.Assign (codes "i") None seven 0 ∷ stmt.Assign (codes "a") (Some (expr.Input 0)) seven 0 ∷ stmt.Call (codes "f") (seven ∷ expr.Input 0 ∷ []) 0
    ∷ stmt.Release seven 0 ∷ stmt.Return None 0 ∷ stmt.Return (Some seven) 0 ∷ []

simple_nodes : map stmt_count simple ≡ 1 ∷ 1 ∷ 1 ∷ 1 ∷ 1 ∷ 8 ∷ 8 ∷ 9 ∷ 9 ∷ 8 ∷ 1 ∷ 8 ∷ []
simple_nodes = simp counts refl

abbrev two : Stmt
two = stmt.Release (expr.Input 0) 0

abbrev nested : List Stmt
nested = stmt.Block (two ∷ two ∷ []) 0 ∷ stmt.If seven two None 0 ∷ stmt.If seven two (Some two) 0 ∷ stmt.While seven two 0
    ∷ stmt.For None None None two 0 ∷ stmt.For (Some two) (Some seven) (Some two) two 0 ∷ []

nested_nodes : map stmt_count nested ≡ 5 ∷ 10 ∷ 12 ∷ 10 ∷ 3 ∷ 14 ∷ []
nested_nodes = simp counts refl

-- a function with its parameter; an object, a constant and untrusted code have none
item_nodes : items_count (item.Object Shared false (codes "a") (Some 2) 1 ∷ item.Constant false (codes "c") None [] false 3
    ∷ item.Untrusted (codes "g") 5 ∷ item.Function false Int (codes "f") (record { unsigned = false; name = codes "n"; token = 9 } ∷ []) (two ∷ []) 7
    ∷ item.Function true Void (codes "h") [] [] 20 ∷ []) ≡ 5
item_nodes = simp counts refl
