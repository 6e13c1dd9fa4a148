-- Device: how expressions are read. `limit` is how many operators of two operands one expression may have.
use Rattle.std.specs.Prelude.{ℕ, zero, suc, ◌+◌, ◌==◌, List, [], length, Option, Some, None, nat_lt, if◌then◌else◌}
use Rattle.c_token.specs.declared.words.Word.TheVariants as words
use Rattle.c_token.specs.declared.signs.Sign.{Sign}
use Rattle.c_token.specs.declared.signs.Sign.TheVariants as signs
use Rattle.c_token.specs.declared.kinds.Kind.{Kind}
use Rattle.c_token.specs.declared.kinds.Kind.TheVariants as kinds
use Rattle.c_grammar.specs.Precedence.{precedence, loosest, is_unary_operator}
use Rattle.c_grammar.specs.declared.expr.Expr.{Expr}
use Rattle.c_grammar.specs.declared.expr.Expr.TheVariants as expr
use Rattle.c_descent.specs.declared.parts.Named.{Named}
use Rattle.c_descent.specs.declared.parts.Grown.{Grown}
use Rattle.c_descent.specs.declared.parts.Bracketed.{Bracketed}
use Rattle.c_descent.specs.declared.parts.Operand.{Operand}
use Rattle.c_descent.specs.declared.parts.Operand.TheVariants as operand
use Rattle.c_grammar.specs.BoundedTokens.{Tok}
use Rattle.c_descent.proofs.ListParser.{deep, exhausted, ParseOutcome, done, stop, Parser, follow, ◌>>=◌, gives, refuses, first_kind, is_at_sign, sign_token, word_token, name_token, number_token, separated}

-- the sign, where it has this rank
abbrev pub operator_of : ℕ → Option Kind → Option Sign
operator_of rank (Some (kinds.Sign op)) = if precedence op == rank then Some op else None
operator_of rank _ = None

-- the first token, where it is an operator of this rank
unfoldable pub operator_at : ℕ → List Tok → Option Sign
operator_at rank tokens = operator_of rank (first_kind tokens)

-- the sign, where it is an operator of one operand
abbrev pub unary_sign : Option Kind → Option Sign
unary_sign (Some (kinds.Sign op)) = if is_unary_operator op then Some op else None
unary_sign _ = None

-- what a token begins that is no operator
abbrev pub operand_of : Option Kind → Operand
operand_of (Some (kinds.Number _ _)) = operand.Number
operand_of (Some (kinds.Name _)) = operand.Name
operand_of (Some (kinds.Word words.Input)) = operand.Input
operand_of (Some (kinds.Sign signs.LeftParenthesis)) = operand.Paren
operand_of _ = operand.Other

-- The reader of unary expressions one level deeper, where a level is left.
abbrev pub Inside : Type 0
Inside = Option (Parser Expr)

-- What is read one level deeper, where a level is left. The token that opens it is the next one.
abbrev pub opened : {A : Type 0} → Inside → (Parser Expr → Parser A) → Parser A
opened None p = λ s. stop deep s
opened (Some unary) p = p unary

-- an operator at the next token, and its right operand; the left operand is here already
unfoldable pub joined_operand : ℕ → (ℕ → Parser Grown) → Sign → Grown → Parser Grown
joined_operand limit operand op left = λ s.
    if nat_lt left.used limit then (do
      place ← sign_token op
      right ← operand (left.used + 1)
      gives (record { tree = expr.Binary op left.tree right.tree place; used = right.used })) s
    else stop deep s

-- what the operator gives, if one is there, and else the left operand alone
abbrev pub chain_with : (Sign → ParseOutcome Grown) → Grown → List Tok → Option Sign → ParseOutcome Grown
chain_with more left s None = done left s
chain_with more left s (Some op) = more op

-- the operators of one rank and their right operands, all grouping to the left; at most this many
unfoldable pub chain : ℕ → (ℕ → Parser Grown) → ℕ → ℕ → Grown → Parser Grown
chain limit operand rank zero left = λ s. stop exhausted s
chain limit operand rank (suc n) left = λ s.
    chain_with (λ op. follow (joined_operand limit operand op left s) (chain limit operand rank n)) left s (operator_at rank s)

-- the operators of one rank, however many: each takes a token
unfoldable pub chained : ℕ → (ℕ → Parser Grown) → ℕ → Grown → Parser Grown
chained limit operand rank left = λ s. chain limit operand rank (suc (length s)) left s

-- an expression whose operators have at most this rank, where so many operators stand before it in the whole one
unfoldable pub binary_expression : ℕ → Parser Expr → ℕ → ℕ → Parser Grown
binary_expression limit unary zero used = do
  tree ← unary
  gives (record { tree = tree; used = used })
binary_expression limit unary (suc rank) used = do
  left ← binary_expression limit unary rank used
  chained limit (binary_expression limit unary rank) (suc rank) left

-- an expression
unfoldable pub expression : ℕ → Parser Expr → Parser Expr
expression limit unary = do
  grown ← binary_expression limit unary loosest 0
  gives grown.tree

-- `(`, an expression and `)`
unfoldable pub paren : ℕ → Inside → Parser Expr
paren limit inside = opened inside (λ unary. do
  place ← sign_token signs.LeftParenthesis
  inner ← expression limit unary
  _ ← sign_token signs.RightParenthesis
  gives (expr.Paren inner place))

-- `[`, an expression and `]`
unfoldable pub subscript : ℕ → Inside → Parser Bracketed
subscript limit inside = opened inside (λ unary. do
  place ← sign_token signs.LeftBracket
  index ← expression limit unary
  _ ← sign_token signs.RightBracket
  gives (record { index = index; token = place }))

-- arguments up to `)`, which is left
unfoldable pub argument_list : ℕ → Parser Expr → Parser (List Expr)
argument_list limit unary = λ s. if is_at_sign signs.RightParenthesis s then done [] s else separated (expression limit unary) s

-- `(`, arguments and `)`
unfoldable pub arguments : ℕ → Inside → Parser (List Expr)
arguments limit inside = opened inside (λ unary. do
  _ ← sign_token signs.LeftParenthesis
  trees ← argument_list limit unary
  _ ← sign_token signs.RightParenthesis
  gives trees)

-- `[ index ]` after a name
unfoldable pub element_expression : ℕ → Inside → Named → Parser Expr
element_expression limit inside found = do
  at ← subscript limit inside
  gives (expr.Index found.name at.index at.token)

-- `( arguments )` after a name
unfoldable pub call_expression : ℕ → Inside → Named → Parser Expr
call_expression limit inside found = do
  trees ← arguments limit inside
  gives (expr.Call found.name trees found.token)

-- what may stand after a name: an index, arguments, or nothing
unfoldable pub after_name : ℕ → Inside → Named → Parser Expr
after_name limit inside found = λ s.
    if is_at_sign signs.LeftBracket s then element_expression limit inside found s
    else (if is_at_sign signs.LeftParenthesis s then call_expression limit inside found s
    else done (expr.Name found.name found.token) s)

-- a name, with an index or arguments
unfoldable pub name_expression : ℕ → Inside → Parser Expr
name_expression limit inside = do
  found ← name_token
  after_name limit inside found

-- a number
unfoldable pub literal : Parser Expr
literal = do
  found ← number_token
  gives (expr.Number found.value found.unsigned found.token)

-- `input ( )`
unfoldable pub input : Parser Expr
input = do
  place ← word_token words.Input
  _ ← sign_token signs.LeftParenthesis
  _ ← sign_token signs.RightParenthesis
  gives (expr.Input place)

-- the operand that begins so
abbrev pub primary_by : ℕ → Inside → Operand → Parser Expr
primary_by limit inside operand.Number = literal
primary_by limit inside operand.Name = name_expression limit inside
primary_by limit inside operand.Input = input
primary_by limit inside operand.Paren = paren limit inside
primary_by limit inside operand.Other = refuses

unfoldable pub primary : ℕ → Inside → Parser Expr
primary limit inside s = primary_by limit inside (operand_of (first_kind s)) s

-- an operator of one operand, and the operand
unfoldable pub signed_expression : Inside → Sign → Parser Expr
signed_expression inside op = opened inside (λ unary. do
  place ← sign_token op
  inner ← unary
  gives (expr.Unary op inner place))

abbrev pub unary_by : ℕ → Inside → Option Sign → Parser Expr
unary_by limit inside (Some op) = signed_expression inside op
unary_by limit inside None = primary limit inside

-- a unary expression, where this reads those one level deeper
unfoldable pub unary_in : ℕ → Inside → Parser Expr
unary_in limit inside s = unary_by limit inside (unary_sign (first_kind s)) s

-- the reader of unary expressions one level deeper, where so many levels are left
unfoldable pub levels_inside : ℕ → ℕ → Inside
levels_inside limit zero = None
levels_inside limit (suc n) = Some (unary_in limit (levels_inside limit n))

-- a unary expression, where so many levels are left
unfoldable pub unary_expression : ℕ → ℕ → Parser Expr
unary_expression limit levels = unary_in limit (levels_inside limit levels)

-- an expression, where so many levels are left
abbrev pub expression_at : ℕ → ℕ → Parser Expr
expression_at limit levels = expression limit (unary_expression limit levels)
