-- Promise: the tokens that a program is printed with, by structure on its tree. A word that may be left out is left out, and a
-- parameter list that is empty is `void`.
use Rattle.std.specs.Prelude.{ℕ, Bool, true, false, List, [], ◌∷◌, ◌++◌, map, Option, None, Some, nat_lt, if◌then◌else◌}
use Rattle.c_token.specs.declared.kinds.Kind.{Kind}
use Rattle.c_token.specs.declared.kinds.Kind.TheVariants as kinds
use Rattle.c_token.specs.declared.words.Word.TheVariants as words
use Rattle.c_token.specs.declared.signs.Sign.TheVariants as signs
use Rattle.c_grammar.specs.declared.expr.Expr.{Expr}
use Rattle.c_grammar.specs.declared.expr.Expr.TheOpen.{Expr-F}
use Rattle.c_grammar.specs.declared.expr.Expr.TheFolds.{fold-Expr}
use Rattle.c_grammar.specs.declared.stmt.Stmt.{Stmt}
use Rattle.c_grammar.specs.declared.stmt.Stmt.TheOpen.{Stmt-F}
use Rattle.c_grammar.specs.declared.stmt.Stmt.TheFolds.{fold-Stmt}
use Rattle.c_grammar.specs.declared.item.Program.{Program}
use Rattle.c_grammar.specs.declared.item.Item.{Item}
use Rattle.c_grammar.specs.declared.item.Item.TheVariants as items
use Rattle.c_grammar.specs.declared.item.Storage.{Storage}
use Rattle.c_grammar.specs.declared.item.Storage.TheVariants as storages
use Rattle.c_grammar.specs.declared.item.Kind3.{Kind3}
use Rattle.c_grammar.specs.declared.item.Kind3.TheVariants as results
use Rattle.c_grammar.specs.declared.item.Parameter.{Parameter}
use Rattle.c_grammar.specs.declared.item.Value.{Value}

-- parts, each after a sign `,`
abbrev pub after_commas : List (List Kind) → List Kind
after_commas [] = []
after_commas (part ∷ parts) = kinds.Sign signs.Comma ∷ (part ++ after_commas parts)

-- parts with a sign `,` between two
abbrev pub with_commas : List (List Kind) → List Kind
with_commas [] = []
with_commas (part ∷ parts) = part ++ after_commas parts

-- an expression, with the tokens of each expression inside it in its place
abbrev pub printed_expr_layer : Expr-F (List Kind) → List Kind
printed_expr_layer (Expr-F.Number value unsigned token) = kinds.Number value unsigned ∷ []
printed_expr_layer (Expr-F.Name name token) = kinds.Name name ∷ []
printed_expr_layer (Expr-F.Index name index token) = kinds.Name name ∷ kinds.Sign signs.LeftBracket ∷ (index ++ kinds.Sign signs.RightBracket ∷ [])
printed_expr_layer (Expr-F.Call name arguments token) = kinds.Name name ∷ kinds.Sign signs.LeftParenthesis ∷ (with_commas arguments ++ kinds.Sign signs.RightParenthesis ∷ [])
printed_expr_layer (Expr-F.Input token) = kinds.Word words.Input ∷ kinds.Sign signs.LeftParenthesis ∷ kinds.Sign signs.RightParenthesis ∷ []
printed_expr_layer (Expr-F.Paren inner token) = kinds.Sign signs.LeftParenthesis ∷ (inner ++ kinds.Sign signs.RightParenthesis ∷ [])
printed_expr_layer (Expr-F.Unary op inner token) = kinds.Sign op ∷ inner
printed_expr_layer (Expr-F.Binary op left right token) = left ++ kinds.Sign op ∷ right

-- the tokens of an expression
abbrev pub expr_kinds : Expr → List Kind
expr_kinds = fold-Expr (List Kind) printed_expr_layer

-- `int` or `unsigned`
abbrev pub type_kind : Bool → Kind
type_kind unsigned = kinds.Word (if unsigned then words.Unsigned else words.Int)

-- where a statement stands: in a block or after `if`, `else`, `while` or `for`, or in the head of a `for`, with no sign `;` of its own there
pub data Standing : Type 0 where
  in_code : Standing
  in_head : Standing

-- the sign `;` after a part that has none of its own in a head
abbrev pub ending : Standing → List Kind
ending in_code = kinds.Sign signs.Semicolon ∷ []
ending in_head = []

-- `[` and an index and `]`, where it stands
abbrev pub subscript_kinds : Option Expr → List Kind
subscript_kinds None = []
subscript_kinds (Some index) = kinds.Sign signs.LeftBracket ∷ (expr_kinds index ++ kinds.Sign signs.RightBracket ∷ [])

-- `=` and a value, where it stands
abbrev pub initial_kinds : Option Expr → List Kind
initial_kinds None = []
initial_kinds (Some value) = kinds.Sign signs.Assign ∷ expr_kinds value

-- an expression, where it stands
abbrev pub maybe_kinds : Option Expr → List Kind
maybe_kinds None = []
maybe_kinds (Some value) = expr_kinds value

-- a part of a head, where it stands
abbrev pub head_kinds : Option (Standing → List Kind) → List Kind
head_kinds None = []
head_kinds (Some part) = part in_head

-- `else` and a statement, where it stands
abbrev pub else_kinds : Option (Standing → List Kind) → List Kind
else_kinds None = []
else_kinds (Some other) = kinds.Word words.Else ∷ other in_code

-- the arguments of a call, between parentheses
abbrev pub arguments_kinds : List Expr → List Kind
arguments_kinds arguments = kinds.Sign signs.LeftParenthesis ∷ (with_commas (map expr_kinds arguments) ++ kinds.Sign signs.RightParenthesis ∷ [])

-- statements in a row
abbrev pub in_a_row : List (Standing → List Kind) → List Kind
in_a_row [] = []
in_a_row (part ∷ parts) = part in_code ++ in_a_row parts

-- a statement, with the tokens of each statement inside it in its place
abbrev pub printed_stmt_layer : Stmt-F (Standing → List Kind) → Standing → List Kind
printed_stmt_layer (Stmt-F.Block body token) standing = kinds.Sign signs.LeftBrace ∷ (in_a_row body ++ kinds.Sign signs.RightBrace ∷ [])
printed_stmt_layer (Stmt-F.Empty token) standing = kinds.Sign signs.Semicolon ∷ []
printed_stmt_layer (Stmt-F.Local unsigned name value token) standing = type_kind unsigned ∷ kinds.Name name ∷ (initial_kinds value ++ ending standing)
printed_stmt_layer (Stmt-F.Assign name index value token) standing = kinds.Name name ∷ (subscript_kinds index ++ kinds.Sign signs.Assign ∷ (expr_kinds value ++ ending standing))
printed_stmt_layer (Stmt-F.Call name arguments token) standing = kinds.Name name ∷ (arguments_kinds arguments ++ ending standing)
printed_stmt_layer (Stmt-F.Release value token) standing =
    kinds.Word words.Release ∷ kinds.Sign signs.LeftParenthesis ∷ (expr_kinds value ++ kinds.Sign signs.RightParenthesis ∷ ending standing)
printed_stmt_layer (Stmt-F.Check token) standing = kinds.Word words.Check ∷ kinds.Sign signs.LeftParenthesis ∷ kinds.Sign signs.RightParenthesis ∷ ending standing
printed_stmt_layer (Stmt-F.Return value token) standing = kinds.Word words.Return ∷ (maybe_kinds value ++ kinds.Sign signs.Semicolon ∷ [])
printed_stmt_layer (Stmt-F.Break token) standing = kinds.Word words.Break ∷ kinds.Sign signs.Semicolon ∷ []
printed_stmt_layer (Stmt-F.Continue token) standing = kinds.Word words.Continue ∷ kinds.Sign signs.Semicolon ∷ []
printed_stmt_layer (Stmt-F.If test body other token) standing =
    kinds.Word words.If ∷ kinds.Sign signs.LeftParenthesis ∷ (expr_kinds test ++ kinds.Sign signs.RightParenthesis ∷ (body in_code ++ else_kinds other))
printed_stmt_layer (Stmt-F.While test body token) standing =
    kinds.Word words.While ∷ kinds.Sign signs.LeftParenthesis ∷ (expr_kinds test ++ kinds.Sign signs.RightParenthesis ∷ body in_code)
printed_stmt_layer (Stmt-F.For first test step body token) standing =
    kinds.Word words.For ∷ kinds.Sign signs.LeftParenthesis ∷ (head_kinds first
    ++ kinds.Sign signs.Semicolon ∷ (maybe_kinds test
    ++ kinds.Sign signs.Semicolon ∷ (head_kinds step
    ++ kinds.Sign signs.RightParenthesis ∷ body in_code)))

-- the tokens of a statement
abbrev pub stmt_kinds : Stmt → Standing → List Kind
stmt_kinds = fold-Stmt (Standing → List Kind) printed_stmt_layer

-- locals and statements between braces
abbrev pub block_kinds : List Stmt → List Kind
block_kinds body = kinds.Sign signs.LeftBrace ∷ (in_a_row (map stmt_kinds body) ++ kinds.Sign signs.RightBrace ∷ [])

-- the word of a class, left out where it may be
abbrev pub storage_kinds : Storage → List Kind
storage_kinds storages.Verified = []
storage_kinds storages.Private = kinds.Word words.Private ∷ []
storage_kinds storages.Shared = kinds.Word words.Shared ∷ []
storage_kinds storages.Logged = kinds.Word words.Logged ∷ []

-- the length of an array between brackets, where it stands: unsigned only where it has to be
abbrev pub length_kinds : Option ℕ → List Kind
length_kinds None = []
length_kinds (Some length) = kinds.Sign signs.LeftBracket ∷ kinds.Number length (nat_lt 2147483647 length) ∷ kinds.Sign signs.RightBracket ∷ []

-- a value of a constant
abbrev pub value_kinds : Value → List Kind
value_kinds value = (if value.negative then kinds.Sign signs.Minus ∷ [] else []) ++ kinds.Number value.value value.unsigned ∷ []

-- the values of a constant, between braces or not
abbrev pub values_kinds : Bool → List Value → List Kind
values_kinds true values = kinds.Sign signs.LeftBrace ∷ (with_commas (map value_kinds values) ++ kinds.Sign signs.RightBrace ∷ [])
values_kinds false values = with_commas (map value_kinds values)

-- what a function answers
abbrev pub answer_kind : Kind3 → Kind
answer_kind results.Int = kinds.Word words.Int
answer_kind results.Unsigned = kinds.Word words.Unsigned
answer_kind results.Void = kinds.Word words.Void

-- a parameter
abbrev pub parameter_kinds : Parameter → List Kind
parameter_kinds parameter = type_kind parameter.unsigned ∷ kinds.Name parameter.name ∷ []

-- the parameters of a function between parentheses, `void` where it takes none
abbrev pub parameters_kinds : List Parameter → List Kind
parameters_kinds [] = kinds.Sign signs.LeftParenthesis ∷ kinds.Word words.Void ∷ kinds.Sign signs.RightParenthesis ∷ []
parameters_kinds (parameter ∷ parameters) =
    kinds.Sign signs.LeftParenthesis ∷ (with_commas (parameter_kinds parameter ∷ map parameter_kinds parameters) ++ kinds.Sign signs.RightParenthesis ∷ [])

-- a declaration
abbrev pub item_kinds : Item → List Kind
item_kinds (items.Object class unsigned name length token) = storage_kinds class ++ type_kind unsigned ∷ kinds.Name name ∷ (length_kinds length ++ kinds.Sign signs.Semicolon ∷ [])
item_kinds (items.Constant unsigned name length values braces token) =
    kinds.Word words.Const ∷ type_kind unsigned ∷ kinds.Name name ∷ (length_kinds length ++ kinds.Sign signs.Assign ∷ (values_kinds braces values ++ kinds.Sign signs.Semicolon ∷ []))
item_kinds (items.Untrusted name token) =
    kinds.Word words.Untrusted ∷ kinds.Word words.Void ∷ kinds.Name name ∷ kinds.Sign signs.LeftParenthesis ∷ kinds.Word words.Void ∷ kinds.Sign signs.RightParenthesis ∷ kinds.Sign signs.Semicolon ∷ []
item_kinds (items.Function private result name params body token) =
    (if private then kinds.Word words.Private ∷ [] else []) ++ answer_kind result ∷ kinds.Name name ∷ (parameters_kinds params ++ block_kinds body)

-- declarations in a row
abbrev pub items_kinds : List Item → List Kind
items_kinds [] = []
items_kinds (item ∷ items) = item_kinds item ++ items_kinds items

-- the tokens of a program
abbrev pub program_kinds : Program → List Kind
program_kinds program = items_kinds program.items
