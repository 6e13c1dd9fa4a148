-- Promise: what a program mentions, in the order of the source: once as its resolved tree has it, and once as the rules of scope
-- bind it (ISO/IEC 9899, section 6.2.1).
use Rattle.std.specs.Prelude.{◌≡◌, ℕ, true, false, List, [], ◌∷◌, ◌++◌, Option, Some, None}
use Rattle.c_grammar.specs.declared.item.Item.{Item}
use Rattle.c_grammar.specs.declared.item.Program.{Program}
use Rattle.c_scopes.specs.declared.declaration.Binding.{Binding}
use Rattle.c_scopes.specs.declared.declaration.Entity.{Entity}
use Rattle.c_scopes.specs.declared.declaration.Entity.TheVariants as entity
use Rattle.c_types.specs.declared.site.Site.{Site}
use Rattle.c_types.specs.declared.site.Site.TheVariants as site
use Rattle.c_types.specs.Sites.{item_sites}
use Rattle.c_semantics.specs.declared.tree.Variable.{Variable}
use Rattle.c_semantics.specs.ResolvedTree as Tree
use Rattle.c_resolver.specs.Resolving.{variable_of, function_number, function_tokens, plain_program}

pub data Mention : Type 0 where
  -- a local or a parameter is declared, by the token of its name
  Declared : (token : ℕ) → Mention
  -- a variable that is no array is read or assigned
  Scalar : (variable : Variable) → Mention
  -- an array of this length is indexed, to be read or assigned
  Array : (array : Variable) (length : ℕ) → Mention
  -- a function is called, by its number among the functions of the source, from 0
  Called : (function : ℕ) → Mention
  -- untrusted code is called
  Suspended : Mention

-- ---- in the resolved tree

abbrev mutual
  pub in_expr : Tree.Expr → List Mention
  in_expr (Tree.Number value) = []
  in_expr (Tree.Scalar variable) = Scalar variable ∷ []
  in_expr (Tree.Indexed at array length index) = Array array length ∷ in_expr index
  in_expr (Tree.Called function arguments) = Called function ∷ in_arguments arguments
  in_expr Tree.Input = []
  in_expr (Tree.Unary op inner) = in_expr inner
  in_expr (Tree.Binary at op left right) = in_expr left ++ in_expr right
  in_expr (Tree.Both left right) = in_expr left ++ in_expr right
  in_expr (Tree.Either left right) = in_expr left ++ in_expr right

  pub in_arguments : Tree.Arguments → List Mention
  in_arguments Tree.NoArguments = []
  in_arguments (Tree.Argument value later) = in_expr value ++ in_arguments later

abbrev pub in_part : Option Tree.Expr → List Mention
in_part None = []
in_part (Some e) = in_expr e

-- A name that is assigned to stands before its index and its value.
abbrev pub in_stmt : Tree.Stmt → List Mention
in_stmt Tree.Nothing = []
in_stmt (Tree.Then first second) = in_stmt first ++ in_stmt second
in_stmt Tree.Empty = []
in_stmt (Tree.Block body) = in_stmt body
in_stmt (Tree.Local variable value) = Declared variable.token ∷ in_part value
in_stmt (Tree.Assign variable value) = Scalar variable ∷ in_expr value
in_stmt (Tree.Store at array length index value) = Array array length ∷ (in_expr index ++ in_expr value)
in_stmt (Tree.Call function arguments) = Called function ∷ in_arguments arguments
in_stmt Tree.Suspend = Suspended ∷ []
in_stmt (Tree.Release value) = in_expr value
in_stmt Tree.Check = []
in_stmt (Tree.Return value) = in_part value
in_stmt Tree.Break = []
in_stmt Tree.Continue = []
in_stmt (Tree.If test body other) = in_expr test ++ in_stmt body ++ in_stmt other
in_stmt (Tree.While test body) = in_expr test ++ in_stmt body
in_stmt (Tree.For first test step body) = in_stmt first ++ (in_part test ++ in_stmt step ++ in_stmt body)

abbrev pub in_parameters : List Variable → List Mention
in_parameters [] = []
in_parameters (p ∷ ps) = Declared p.token ∷ in_parameters ps

abbrev pub in_functions : List Tree.Function → List Mention
in_functions [] = []
in_functions (f ∷ fs) = (in_parameters f.parameters ++ in_stmt f.body) ++ in_functions fs

-- what a resolved program mentions
abbrev pub mentions : Tree.Program → List Mention
mentions p = in_functions p.functions

-- ---- by the rules of scope

-- what the use of a name is bound to, where its declaration stands at this token; untrusted code has no number, and a call of it suspends
abbrev pub bound_to : List ℕ → ℕ → Entity → List Mention
bound_to functions token (entity.Local unsigned) = Scalar (variable_of token None) ∷ []
bound_to functions token (entity.Object class unsigned None) = Scalar (variable_of token (Some class)) ∷ []
bound_to functions token (entity.Object class unsigned (Some length)) = Array (variable_of token (Some class)) length ∷ []
bound_to functions token (entity.Function result true parameters) = Suspended ∷ []
bound_to functions token (entity.Function result false parameters) = Called (function_number functions token) ∷ []

abbrev pub bound : List ℕ → Option Binding → List Mention
bound functions None = []
bound functions (Some b) = bound_to functions b.token b.entity

-- what stands at a site
abbrev pub at_site : List ℕ → Site → List Mention
at_site functions (site.Use how means home at) = bound functions means
at_site functions (site.Local again at) = Declared at ∷ []
at_site functions (site.Parameter number again at) = Declared at ∷ []
at_site functions (site.Return result value at) = []
at_site functions (site.Jump in_loop at) = []
at_site functions (site.Global number again at) = []
at_site functions (site.Length length at) = []
at_site functions (site.Constant length values braces at) = []

abbrev pub at_sites : List ℕ → List Site → List Mention
at_sites functions [] = []
at_sites functions (s ∷ ss) = at_site functions s ++ at_sites functions ss

-- the sites of items after others
abbrev pub items_sites : List Item → List Item → List Site
items_sites before [] = []
items_sites before (item ∷ items) = item_sites before item ++ items_sites (before ++ item ∷ []) items

-- the sites of a program
abbrev pub program_sites : Program → List Site
program_sites p = items_sites [] p.items

-- ---- both are one

-- A program mentions, once its names are resolved, what the rules of scope bind its uses to: the same declarations,
-- variables with their classes, arrays with their lengths, calls, and suspensions.
abbrev pub NamesAgree : Program → Type 0
NamesAgree p = mentions (plain_program p) ≡ at_sites (function_tokens p.items) (program_sites p)
