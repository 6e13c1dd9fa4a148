-- Device: how locals and statements are read. `limit` is how many operators of two operands one expression may have,
-- and `levels` how many levels are left.
use Rattle.std.specs.Prelude.{ℕ, zero, suc, Bool, true, false, not, List, Option, Some, None, if◌then◌else◌}
use Rattle.c_token.specs.declared.words.Word.TheVariants as words
use Rattle.c_token.specs.declared.signs.Sign.TheVariants as signs
use Rattle.c_token.specs.declared.kinds.Kind.{Kind}
use Rattle.c_token.specs.declared.kinds.Kind.TheVariants as kinds
use Rattle.c_grammar.specs.declared.expr.Expr.{Expr}
use Rattle.c_grammar.specs.declared.stmt.Stmt.{Stmt}
use Rattle.c_grammar.specs.declared.stmt.Stmt.TheVariants as stmt
use Rattle.c_descent.specs.declared.parts.Named.{Named}
use Rattle.c_descent.specs.declared.parts.Start.{Start}
use Rattle.c_descent.specs.declared.parts.Start.TheVariants as start
use Rattle.c_descent.specs.declared.parts.Plain.{Plain}
use Rattle.c_descent.specs.declared.parts.Plain.TheVariants as plain
use Rattle.c_descent.specs.declared.parts.LoopHead.{LoopHead}
use Rattle.c_descent.specs.declared.parts.Braces.{Braces}
use Rattle.c_grammar.specs.BoundedTokens.{Tok}
use Rattle.c_descent.proofs.ListParser.{expected, deep, done, stop, Parser, follow, ◌>>=◌, gives, refuses, first_kind, is_at_sign, is_at_word, sign_token, word_token, name_token, all, level}
use Rattle.c_descent.proofs.ExpressionParser.{expression_at, subscript, arguments, levels_inside}

-- what a token begins in a block
abbrev pub statement_start : Option Kind → Start
statement_start (Some (kinds.Word words.Int)) = start.Local
statement_start (Some (kinds.Word words.Unsigned)) = start.Local
statement_start (Some (kinds.Sign signs.LeftBrace)) = start.Block
statement_start (Some (kinds.Sign signs.Semicolon)) = start.Empty
statement_start (Some (kinds.Name _)) = start.Plain
statement_start (Some (kinds.Word words.Release)) = start.Plain
statement_start (Some (kinds.Word words.Check)) = start.Plain
statement_start (Some (kinds.Word words.Return)) = start.Plain
statement_start (Some (kinds.Word words.Break)) = start.Plain
statement_start (Some (kinds.Word words.Continue)) = start.Plain
statement_start (Some (kinds.Word words.If)) = start.If
statement_start (Some (kinds.Word words.While)) = start.While
statement_start (Some (kinds.Word words.For)) = start.For
statement_start _ = start.Other

-- what the first token begins in a block
unfoldable pub start_at : List Tok → Start
start_at s = statement_start (first_kind s)

-- which statement of those that a `;` ends a token begins
abbrev pub plain_of : Option Kind → Plain
plain_of (Some (kinds.Name _)) = plain.Named
plain_of (Some (kinds.Word words.Release)) = plain.Release
plain_of (Some (kinds.Word words.Check)) = plain.Check
plain_of (Some (kinds.Word words.Return)) = plain.Return
plain_of (Some (kinds.Word words.Break)) = plain.Break
plain_of (Some (kinds.Word words.Continue)) = plain.Continue
plain_of _ = plain.Other

-- which statement of those the first token begins
unfoldable pub plain_at : List Tok → Plain
plain_at s = plain_of (first_kind s)

-- a statement begins so
abbrev pub begins_statement : Start → Bool
begins_statement start.Local = false
begins_statement start.Other = false
begins_statement _ = true

-- a simple statement begins so
abbrev pub begins_simple : Plain → Bool
begins_simple plain.Named = true
begins_simple plain.Release = true
begins_simple plain.Check = true
begins_simple _ = false

-- `int`, `unsigned` or `unsigned int`, and whether it is unsigned
unfoldable pub int_type : Parser Bool
int_type = do
  _ ← word_token words.Int
  gives false

-- the word `int`, if it stands there
unfoldable pub optional_int : Parser Bool
optional_int = λ s. if is_at_word words.Int s then follow (word_token words.Int s) (λ _. gives true) else done true s

unfoldable pub unsigned_type : Parser Bool
unsigned_type = do
  _ ← word_token words.Unsigned
  optional_int

unfoldable pub type_name : Parser Bool
type_name = λ s. if is_at_word words.Int s then int_type s else unsigned_type s

-- an expression, unless this sign comes first
unfoldable pub expression_unless : ℕ → ℕ → Bool → Parser (Option Expr)
expression_unless limit levels true = gives None
expression_unless limit levels false = do
  value ← expression_at limit levels
  gives (Some value)

-- `= value`, if it stands there
unfoldable pub optional_value : ℕ → ℕ → Parser (Option Expr)
optional_value limit levels = λ s. if is_at_sign signs.Assign s then (do
  _ ← sign_token signs.Assign
  value ← expression_at limit levels
  gives (Some value)) s
    else done None s

-- a local, whose level is open
unfoldable pub local_inside : ℕ → ℕ → Parser Stmt
local_inside limit levels = do
  unsigned ← type_name
  found ← name_token
  value ← optional_value limit levels
  gives (stmt.Local unsigned found.name value found.token)

-- a local, which is a statement of its own
unfoldable pub local_statement : ℕ → ℕ → Parser Stmt
local_statement limit levels = level levels (local_inside limit)

-- `= value` after what is assigned to
unfoldable pub assignment_rest : ℕ → ℕ → Named → Option Expr → Parser Stmt
assignment_rest limit levels found index = do
  _ ← sign_token signs.Assign
  value ← expression_at limit levels
  gives (stmt.Assign found.name index value found.token)

-- `[ index ] = value` after a name
unfoldable pub element_assigned : ℕ → ℕ → Named → Parser Stmt
element_assigned limit levels found = do
  at ← subscript limit (levels_inside limit levels)
  assignment_rest limit levels found (Some at.index)

-- `( arguments )` after a name
unfoldable pub call_statement : ℕ → ℕ → Named → Parser Stmt
call_statement limit levels found = do
  trees ← arguments limit (levels_inside limit levels)
  gives (stmt.Call found.name trees found.token)

-- what stands after the name that a statement begins with
unfoldable pub after_statement_name : ℕ → ℕ → Named → Parser Stmt
after_statement_name limit levels found = λ s.
    if is_at_sign signs.LeftBracket s then element_assigned limit levels found s
    else (if is_at_sign signs.LeftParenthesis s then call_statement limit levels found s
    else assignment_rest limit levels found None s)

-- an assignment or a call
unfoldable pub name_statement : ℕ → ℕ → Parser Stmt
name_statement limit levels = do
  found ← name_token
  after_statement_name limit levels found

-- `( value )`
unfoldable pub parenthesised_test : ℕ → ℕ → Parser Expr
parenthesised_test limit levels = do
  _ ← sign_token signs.LeftParenthesis
  value ← expression_at limit levels
  _ ← sign_token signs.RightParenthesis
  gives value

-- `release ( value )`
unfoldable pub release : ℕ → ℕ → Parser Stmt
release limit levels = do
  place ← word_token words.Release
  value ← parenthesised_test limit levels
  gives (stmt.Release value place)

-- `check ( )`
unfoldable pub check : Parser Stmt
check = do
  place ← word_token words.Check
  _ ← sign_token signs.LeftParenthesis
  _ ← sign_token signs.RightParenthesis
  gives (stmt.Check place)

-- a simple statement without its `;`, whose level is open
abbrev pub simple_by : ℕ → ℕ → Plain → Parser Stmt
simple_by limit levels plain.Named = name_statement limit levels
simple_by limit levels plain.Release = release limit levels
simple_by limit levels plain.Check = check
simple_by limit levels _ = refuses

unfoldable pub simple_inside : ℕ → ℕ → Parser Stmt
simple_inside limit levels s = simple_by limit levels (plain_at s) s

-- a simple part of the head of a `for`, which is a statement of its own
unfoldable pub simple : ℕ → ℕ → Parser Stmt
simple limit levels = λ s. if begins_simple (plain_at s) then level levels (simple_inside limit) s else stop expected s

-- a statement that a `;` ends
unfoldable pub ended : Parser Stmt → Parser Stmt
ended p = do
  tree ← p
  _ ← sign_token signs.Semicolon
  gives tree

-- `;`
unfoldable pub empty : Parser Stmt
empty = do
  place ← sign_token signs.Semicolon
  gives (stmt.Empty place)

-- `return` and a value, if one stands there
unfoldable pub returned : ℕ → ℕ → Parser Stmt
returned limit levels = do
  place ← word_token words.Return
  value ← λ s. expression_unless limit levels (is_at_sign signs.Semicolon s) s
  gives (stmt.Return value place)

-- `break`
unfoldable pub break_statement : Parser Stmt
break_statement = do
  place ← word_token words.Break
  gives (stmt.Break place)

-- `continue`
unfoldable pub continue_statement : Parser Stmt
continue_statement = do
  place ← word_token words.Continue
  gives (stmt.Continue place)

-- what a `;` ends, whose level is open
abbrev pub plain_by : ℕ → ℕ → Plain → Parser Stmt
plain_by limit levels plain.Named = name_statement limit levels
plain_by limit levels plain.Release = release limit levels
plain_by limit levels plain.Check = check
plain_by limit levels plain.Return = returned limit levels
plain_by limit levels plain.Break = break_statement
plain_by limit levels plain.Continue = continue_statement
plain_by limit levels plain.Other = refuses

unfoldable pub plain_inside : ℕ → ℕ → Parser Stmt
plain_inside limit levels s = plain_by limit levels (plain_at s) s

-- `while ( test ) body`
unfoldable pub while_loop : ℕ → ℕ → Parser Stmt → Parser Stmt
while_loop limit levels statement = do
  place ← word_token words.While
  test ← parenthesised_test limit levels
  body ← statement
  gives (stmt.While test body place)

-- `else other`, if it stands there
unfoldable pub optional_else : Parser Stmt → Parser (Option Stmt)
optional_else statement = λ s. if is_at_word words.Else s then (do
  _ ← word_token words.Else
  other ← statement
  gives (Some other)) s
    else done None s

-- `if ( test ) body`, with `else other` where an `else` follows
unfoldable pub conditional : ℕ → ℕ → Parser Stmt → Parser Stmt
conditional limit levels statement = do
  place ← word_token words.If
  test ← parenthesised_test limit levels
  body ← statement
  other ← optional_else statement
  gives (stmt.If test body other place)

-- the first part of the head of a `for`: a local, a simple part or nothing
abbrev pub first_by : ℕ → ℕ → Start → Parser (Option Stmt)
first_by limit levels start.Empty = gives None
first_by limit levels start.Local = do
  tree ← local_statement limit levels
  gives (Some tree)
first_by limit levels _ = do
  tree ← simple limit levels
  gives (Some tree)

unfoldable pub first_part : ℕ → ℕ → Parser (Option Stmt)
first_part limit levels s = first_by limit levels (start_at s) s

-- the last part of the head of a `for`: a simple part or nothing
unfoldable pub step_part : ℕ → ℕ → Parser (Option Stmt)
step_part limit levels = λ s. if is_at_sign signs.RightParenthesis s then done None s else (do
  tree ← simple limit levels
  gives (Some tree)) s

-- `( first ;`
unfoldable pub opening : ℕ → ℕ → Parser (Option Stmt)
opening limit levels = do
  _ ← sign_token signs.LeftParenthesis
  first ← first_part limit levels
  _ ← sign_token signs.Semicolon
  gives first

-- `test ;`
unfoldable pub test_part : ℕ → ℕ → Parser (Option Expr)
test_part limit levels = do
  test ← λ s. expression_unless limit levels (is_at_sign signs.Semicolon s) s
  _ ← sign_token signs.Semicolon
  gives test

-- `step )`
unfoldable pub closing : ℕ → ℕ → Parser (Option Stmt)
closing limit levels = do
  step ← step_part limit levels
  _ ← sign_token signs.RightParenthesis
  gives step

-- `( first ; test ; step )`
unfoldable pub head : ℕ → ℕ → Parser LoopHead
head limit levels = do
  first ← opening limit levels
  test ← test_part limit levels
  step ← closing limit levels
  gives (record { first = first; test = test; step = step })

-- `for ( first ; test ; step ) body`
unfoldable pub for_loop : ℕ → ℕ → Parser Stmt → Parser Stmt
for_loop limit levels statement = do
  place ← word_token words.For
  parts ← head limit levels
  body ← statement
  gives (stmt.For parts.first parts.test parts.step body place)

-- a local and its `;`, or a statement
abbrev pub entry_by : ℕ → ℕ → Parser Stmt → Start → Parser Stmt
entry_by limit levels statement start.Local = ended (local_statement limit levels)
entry_by limit levels statement _ = statement

unfoldable pub entry : ℕ → ℕ → Parser Stmt → Parser Stmt
entry limit levels statement s = entry_by limit levels statement (start_at s) s

-- whether a block goes on
unfoldable pub block_goes_on : List Tok → Bool
block_goes_on s = not (is_at_sign signs.RightBrace s)

-- locals and statements up to `}`, which is left
unfoldable pub entries : ℕ → ℕ → Parser Stmt → Parser (List Stmt)
entries limit levels statement = all block_goes_on (entry limit levels statement)

-- `{`, locals and statements, and `}`
unfoldable pub braced : ℕ → ℕ → Parser Stmt → Parser Braces
braced limit levels statement = do
  place ← sign_token signs.LeftBrace
  body ← entries limit levels statement
  _ ← sign_token signs.RightBrace
  gives (record { body = body; token = place })

-- a block as a statement
unfoldable pub block_statement : ℕ → ℕ → Parser Stmt → Parser Stmt
block_statement limit levels statement = do
  parts ← braced limit levels statement
  gives (stmt.Block parts.body parts.token)

-- a statement that begins so, whose level is open
abbrev pub statement_by : ℕ → ℕ → Parser Stmt → Start → Parser Stmt
statement_by limit levels statement start.Block = block_statement limit levels statement
statement_by limit levels statement start.Empty = empty
statement_by limit levels statement start.Plain = ended (plain_inside limit levels)
statement_by limit levels statement start.If = conditional limit levels statement
statement_by limit levels statement start.While = while_loop limit levels statement
statement_by limit levels statement start.For = for_loop limit levels statement
statement_by limit levels statement start.Local = refuses
statement_by limit levels statement start.Other = refuses

unfoldable pub statement_inside : ℕ → ℕ → Parser Stmt → Parser Stmt
statement_inside limit levels statement s = statement_by limit levels statement (start_at s) s

-- where no level is left: a statement would open one too many
unfoldable pub barred : Parser Stmt
barred s = if begins_statement (start_at s) then stop deep s else stop expected s

-- a statement
unfoldable pub statement : ℕ → ℕ → Parser Stmt
statement limit zero = barred
statement limit (suc levels) = statement_inside limit levels (statement limit levels)
