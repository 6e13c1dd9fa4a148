-- Device: how programs are read. `limit` is how many operators of two operands one expression may have,
-- and `levels` how many levels may be open.
use Rattle.std.specs.Prelude.{ℕ, Bool, true, false, List, [], ◌∷◌, Option, Some, None, if◌then◌else◌}
use Rattle.c_token.specs.declared.words.Word.{Word}
use Rattle.c_token.specs.declared.words.Word.TheVariants as words
use Rattle.c_token.specs.declared.signs.Sign.TheVariants as signs
use Rattle.c_token.specs.declared.kinds.Kind.{Kind}
use Rattle.c_token.specs.declared.kinds.Kind.TheVariants as kinds
use Rattle.c_grammar.specs.declared.item.Item.{Item}
use Rattle.c_grammar.specs.declared.item.Item.TheVariants as item
use Rattle.c_grammar.specs.declared.item.Storage.{Storage}
use Rattle.c_grammar.specs.declared.item.Storage.TheVariants as storage
use Rattle.c_grammar.specs.declared.item.Kind3.{Kind3}
use Rattle.c_grammar.specs.declared.item.Kind3.TheVariants as result
use Rattle.c_grammar.specs.declared.item.Parameter.{Parameter}
use Rattle.c_grammar.specs.declared.item.Value.{Value}
use Rattle.c_grammar.specs.declared.item.Program.{Program}
use Rattle.c_descent.specs.declared.parts.Named.{Named}
use Rattle.c_descent.specs.declared.parts.Heading.{Heading}
use Rattle.c_descent.specs.declared.parts.Heading.TheVariants as heading
use Rattle.c_descent.specs.declared.parts.Given.{Given}
use Rattle.c_grammar.specs.BoundedTokens.{Tok}
use Rattle.c_descent.proofs.ListParser.{done, Parser, ◌>>=◌, gives, refuses, first_kind, is_left, is_at_sign, is_at_word, sign_token, word_token, name_token, number_token, all, separated}
use Rattle.c_descent.proofs.StatementParser.{type_name, braced, statement}

-- what a token begins at the top of a program
abbrev pub heading_of : Option Kind → Heading
heading_of (Some (kinds.Word words.Verified)) = heading.Verified
heading_of (Some (kinds.Word words.Shared)) = heading.Shared
heading_of (Some (kinds.Word words.Logged)) = heading.Logged
heading_of (Some (kinds.Word words.Private)) = heading.Private
heading_of (Some (kinds.Word words.Const)) = heading.Constant
heading_of (Some (kinds.Word words.Untrusted)) = heading.Untrusted
heading_of (Some (kinds.Word words.Void)) = heading.Void
heading_of (Some (kinds.Word words.Int)) = heading.Type
heading_of (Some (kinds.Word words.Unsigned)) = heading.Type
heading_of _ = heading.Other

-- what the first token begins at the top of a program
unfoldable pub heading_at : List Tok → Heading
heading_at s = heading_of (first_kind s)

-- `[ length ]`, if it stands there
unfoldable pub optional_length : Parser (Option ℕ)
optional_length = λ s. if is_at_sign signs.LeftBracket s then (do
  _ ← sign_token signs.LeftBracket
  found ← number_token
  _ ← sign_token signs.RightBracket
  gives (Some found.value)) s
    else done None s

-- what stands after the name of an object
unfoldable pub object_rest : Storage → Bool → Named → Parser Item
object_rest class unsigned found = do
  length ← optional_length
  _ ← sign_token signs.Semicolon
  gives (item.Object class unsigned found.name length found.token)

-- a word of storage, and the object after it
unfoldable pub object : Word → Storage → Parser Item
object w class = do
  _ ← word_token w
  unsigned ← type_name
  found ← name_token
  object_rest class unsigned found

-- a number, and whether it is negative
unfoldable pub value_with : Bool → Parser Value
value_with negative = do
  found ← number_token
  gives (record { negative = negative; value = found.value; unsigned = found.unsigned })

-- `-` and a number
unfoldable pub negative_value : Parser Value
negative_value = do
  _ ← sign_token signs.Minus
  value_with true

-- a value of a constant
unfoldable pub value : Parser Value
value = λ s. if is_at_sign signs.Minus s then negative_value s else value_with false s

-- a value alone
unfoldable pub one_value : Parser Given
one_value = do
  only ← value
  gives (record { values = only ∷ []; braces = false })

-- values between braces
unfoldable pub braced_values : Parser Given
braced_values = do
  _ ← sign_token signs.LeftBrace
  values ← separated value
  _ ← sign_token signs.RightBrace
  gives (record { values = values; braces = true })

unfoldable pub values : Parser Given
values = λ s. if is_at_sign signs.LeftBrace s then braced_values s else one_value s

-- what stands after the name of a constant
unfoldable pub constant_rest : Bool → Named → Parser Item
constant_rest unsigned found = do
  length ← optional_length
  _ ← sign_token signs.Assign
  given ← values
  _ ← sign_token signs.Semicolon
  gives (item.Constant unsigned found.name length given.values given.braces found.token)

-- a constant
unfoldable pub constant : Parser Item
constant = do
  _ ← word_token words.Const
  unsigned ← type_name
  found ← name_token
  constant_rest unsigned found

-- `( void ) ;`
unfoldable pub no_parameters : Parser ℕ
no_parameters = do
  _ ← sign_token signs.LeftParenthesis
  _ ← word_token words.Void
  _ ← sign_token signs.RightParenthesis
  sign_token signs.Semicolon

-- a function of the untrusted code
unfoldable pub untrusted : Parser Item
untrusted = do
  _ ← word_token words.Untrusted
  _ ← word_token words.Void
  found ← name_token
  _ ← no_parameters
  gives (item.Untrusted found.name found.token)

-- a parameter
unfoldable pub one_parameter : Parser Parameter
one_parameter = do
  unsigned ← type_name
  found ← name_token
  gives (record { unsigned = unsigned; name = found.name; token = found.token })

-- the word `void` in the place of parameters
unfoldable pub void_list : Parser (List Parameter)
void_list = do
  _ ← word_token words.Void
  gives []

-- parameters, `void` or nothing, up to `)`, which is left
unfoldable pub parameter_list : Parser (List Parameter)
parameter_list = λ s.
    if is_at_sign signs.RightParenthesis s then done [] s
    else (if is_at_word words.Void s then void_list s else separated one_parameter s)

-- `(`, parameters and `)`
unfoldable pub parameters : Parser (List Parameter)
parameters = do
  _ ← sign_token signs.LeftParenthesis
  trees ← parameter_list
  _ ← sign_token signs.RightParenthesis
  gives trees

-- what stands after the name of a function
unfoldable pub function_rest : ℕ → ℕ → Bool → Kind3 → Named → Parser Item
function_rest limit levels private result found = do
  params ← parameters
  block ← braced limit levels (statement limit levels)
  gives (item.Function private result found.name params block.body found.token)

-- a function that answers nothing
unfoldable pub void_function : ℕ → ℕ → Bool → Parser Item
void_function limit levels private = do
  _ ← word_token words.Void
  found ← name_token
  function_rest limit levels private result.Void found

-- how an object is kept: the word `__private` stands before it, or none
abbrev pub storage_of : Bool → Storage
storage_of true = storage.Private
storage_of false = storage.Verified

-- what a function answers that is no `void`
abbrev pub result_kind : Bool → Kind3
result_kind true = result.Unsigned
result_kind false = result.Int

-- what stands after a type and a name: a function's parameters, or the rest of an object
unfoldable pub typed_rest : ℕ → ℕ → Bool → Bool → Named → Parser Item
typed_rest limit levels private unsigned found = λ s.
    if is_at_sign signs.LeftParenthesis s then function_rest limit levels private (result_kind unsigned) found s
    else object_rest (storage_of private) unsigned found s

-- a type, and the function or the object after it
unfoldable pub typed_item : ℕ → ℕ → Bool → Parser Item
typed_item limit levels private = do
  unsigned ← type_name
  found ← name_token
  typed_rest limit levels private unsigned found

-- a function, or an object after no word of storage or `__private`
unfoldable pub declared : ℕ → ℕ → Bool → Parser Item
declared limit levels private = λ s.
    if is_at_word words.Void s then void_function limit levels private s else typed_item limit levels private s

-- `__private`, and the function or the object after it
unfoldable pub private_item : ℕ → ℕ → Parser Item
private_item limit levels = do
  _ ← word_token words.Private
  declared limit levels true

-- the item that begins so
abbrev pub item_by : ℕ → ℕ → Heading → Parser Item
item_by limit levels heading.Verified = object words.Verified storage.Verified
item_by limit levels heading.Shared = object words.Shared storage.Shared
item_by limit levels heading.Logged = object words.Logged storage.Logged
item_by limit levels heading.Private = private_item limit levels
item_by limit levels heading.Constant = constant
item_by limit levels heading.Untrusted = untrusted
item_by limit levels heading.Void = void_function limit levels false
item_by limit levels heading.Type = typed_item limit levels false
item_by limit levels heading.Other = refuses

unfoldable pub item_inside : ℕ → ℕ → Parser Item
item_inside limit levels s = item_by limit levels (heading_at s) s

-- items up to the end
unfoldable pub items : ℕ → ℕ → Parser (List Item)
items limit levels = all is_left (item_inside limit levels)

-- a whole program
unfoldable pub program : ℕ → ℕ → Parser Program
program limit levels = do
  trees ← items limit levels
  gives (record { items = trees })
