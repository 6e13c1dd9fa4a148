-- Device: what the code keeps, as what the definitions speak of.
use Rattle.std.specs.Prelude.{ℕ, List, [], ◌∷◌, ◌++◌, map, Option, Some, None}
use Rattle.c_grammar.specs.declared.expr.Expr.{Expr}
use Rattle.c_grammar.specs.declared.item.Parameter.{Parameter}
use Rattle.c_grammar.specs.declared.stmt.Stmt as source
use Rattle.c_scopes.specs.declared.declaration.Declaration.{Declaration}
use Rattle.c_semantics.specs.ResolvedViews.{expr_of, stmt_of}
use Rattle.c_semantics.specs.declared.tree.Stmt.{Stmt}
use Rattle.c_semantics.specs.declared.tree.Variable.{Variable}
use Rattle.c_semantics.specs.ResolvedTree as Tree
use Rattle.c_resolver.specs.declared.typed.Typed.{Typed}
use Rattle.c_resolver.specs.Resolving
use Rattle.c_resolver.specs.Resolving.{arguments_in, resolved, resolved_in_turn, typed_expr, variable_of}

-- an expression with its type
abbrev pub typed_of : Typed → Resolving.Typed
typed_of t = record { unsigned = t.unsigned; expr = expr_of t.expr }

-- arguments after others
abbrev pub arguments_then : Tree.Arguments → Tree.Arguments → Tree.Arguments
arguments_then Tree.NoArguments later = later
arguments_then (Tree.Argument e es) later = Tree.Argument e (arguments_then es later)

-- statements after others
abbrev pub stmts_then : List Stmt → Tree.Stmt → Tree.Stmt
stmts_then [] later = later
stmts_then (s ∷ ss) later = Tree.Then (stmt_of s) (stmts_then ss later)

-- the arguments of a call
abbrev pub list_in : List ℕ → List Expr → List Declaration → Tree.Arguments
list_in functions es = arguments_in (map (typed_expr functions) es)

-- statements one after the other, and what they declare
abbrev pub body_in : List ℕ → List source.Stmt → List Declaration → Tree.Stmt
body_in functions ss = resolved_in_turn (map (resolved functions) ss)

abbrev pub body_declared : List ℕ → List source.Stmt → List Declaration
body_declared functions [] = []
body_declared functions (s ∷ ss) = (resolved functions s).declared ++ body_declared functions ss

-- a statement that need not be there, and what it declares
abbrev pub branch_in : List ℕ → Option source.Stmt → List Declaration → Tree.Stmt
branch_in functions None known = Tree.Nothing
branch_in functions (Some s) known = (resolved functions s).at known

abbrev pub branch_declared : List ℕ → Option source.Stmt → List Declaration
branch_declared functions None = []
branch_declared functions (Some s) = (resolved functions s).declared

-- the variables of parameters
abbrev pub parameters_in : List Parameter → List Variable
parameters_in parameters = map (λ p. variable_of p.token None) parameters
