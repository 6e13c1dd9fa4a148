-- Promise: the typing rules: which of them a program breaks, and at which token.
use Rattle.std.specs.Prelude.{◌≡◌, ◌⊎◌, ◌<◌, ◌≤◌, ◌==◌, ℕ, Bool, true, false, not, List, ◌∷◌, ◌++◌, count_by, Some, None}
use Rattle.regions.specs.declared.rights.Class.TheVariants.{Private, Constant}
use Rattle.c_grammar.specs.declared.item.Kind3.{Kind3}
use Rattle.c_grammar.specs.declared.item.Kind3.TheVariants.{Void}
use Rattle.c_grammar.specs.declared.item.Item.{Item}
use Rattle.c_grammar.specs.declared.item.Program.{Program}
use Rattle.aegis_num.specs.declared.limits.TheConstants.{MAX_GLOBALS, MAX_LOCALS, MAX_PARAMETERS, MAX_ARRAY_LENGTH}
use Rattle.c_scopes.specs.declared.declaration.Binding.{Binding}
use Rattle.c_scopes.specs.declared.declaration.Entity.{Entity}
use Rattle.c_scopes.specs.declared.declaration.Entity.TheVariants.{Local, Object, Function}
use Rattle.c_types.specs.declared.site.Home.{Home}
use Rattle.c_types.specs.declared.site.How.{How}
use Rattle.c_types.specs.declared.site.How.TheVariants.{Value, Element, Assign, AssignElement, Call, CallValue}
use Rattle.c_types.specs.declared.site.Rule.{Rule}
use Rattle.c_types.specs.declared.site.Rule.TheVariants.{Unknown, Twice, Recursive, Class as ByClass, Shape, Arity, TooLong, TooMany}
use Rattle.c_types.specs.declared.site.Site.{Site}
use Rattle.c_types.specs.declared.site.Site.TheVariants as site
use Rattle.c_types.specs.Sites.{ItemFollows, item_sites}

-- ---- uses of names

abbrev pub is_call : How → Bool
is_call (Call arguments) = true
is_call (CallValue arguments) = true
is_call other = false

abbrev pub is_assignment : How → Bool
is_assignment Assign = true
is_assignment AssignElement = true
is_assignment other = false

-- ---- what names stand for

abbrev pub is_function : Entity → Bool
is_function (Function result untrusted parameters) = true
is_function other = false

abbrev pub is_array : Entity → Bool
is_array (Object class unsigned (Some length)) = true
is_array other = false

abbrev pub is_scalar : Entity → Bool
is_scalar (Local unsigned) = true
is_scalar (Object class unsigned None) = true
is_scalar other = false

abbrev pub is_constant : Entity → Bool
is_constant (Object Constant unsigned length) = true
is_constant other = false

abbrev pub is_private_object : Entity → Bool
is_private_object (Object Private unsigned length) = true
is_private_object other = false

abbrev pub is_void : Kind3 → Bool
is_void Void = true
is_void other = false

-- a function whose call has a value
abbrev pub has_value : Entity → Bool
has_value (Function result false parameters) = not (is_void result)
has_value other = false

-- ---- what may be used how

-- a scalar is used as a whole, an array with an index, a function in a call
abbrev pub fits : How → Entity → Bool
fits Value entity = is_scalar entity
fits Element entity = is_array entity
fits Assign entity = is_scalar entity
fits AssignElement entity = is_array entity
fits (Call arguments) entity = is_function entity
fits (CallValue arguments) entity = has_value entity

-- a call gives as many arguments as the function has parameters
abbrev pub is_counted : How → Entity → Bool
is_counted (Call arguments) (Function result untrusted parameters) = arguments == parameters
is_counted (CallValue arguments) (Function result untrusted parameters) = arguments == parameters
is_counted other entity = true

-- ---- the rules

-- what stands at a site breaks a rule
pub data Breaks : Site → Rule → Type 0 where
  -- a name that is not known
  unknown : (how : How) (home : Home) (at : ℕ) → Breaks (site.Use how None home at) Unknown
  -- a name declared twice in one scope
  twice_local : (at : ℕ) → Breaks (site.Local true at) Twice
  twice_parameter : (number at : ℕ) → Breaks (site.Parameter number true at) Twice
  twice_global : (number at : ℕ) → Breaks (site.Global number true at) Twice
  -- a call of the function that it stands in
  self_call : (how : How) (d : Binding) (home : Home) (at : ℕ) →
      is_call how ≡ true → d.token ≡ home.token → Breaks (site.Use how (Some d) home at) Recursive
  -- an assignment to a constant
  constant_assigned : (how : How) (d : Binding) (home : Home) (at : ℕ) →
      is_assignment how ≡ true → is_constant d.entity ≡ true → Breaks (site.Use how (Some d) home at) ByClass
  -- a private object used outside a private function
  private_outside : (how : How) (d : Binding) (home : Home) (at : ℕ) →
      is_private_object d.entity ≡ true → home.private ≡ false → Breaks (site.Use how (Some d) home at) ByClass
  -- a name used as what it does not stand for
  misused : (how : How) (d : Binding) (home : Home) (at : ℕ) →
      fits how d.entity ≡ false → Breaks (site.Use how (Some d) home at) Shape
  -- a value list for a scalar
  list_for_scalar : (values at : ℕ) → Breaks (site.Constant None values true at) Shape
  -- a plain value for an array
  value_for_array : (length values at : ℕ) → Breaks (site.Constant (Some length) values false at) Shape
  -- more values than the length
  values_too_many : (length values at : ℕ) (braces : Bool) →
      length < values → Breaks (site.Constant (Some length) values braces at) Shape
  -- `return` with a value in a void function
  value_returned : (at : ℕ) → Breaks (site.Return Void true at) Shape
  -- `return` without a value in another function
  nothing_returned : (result : Kind3) (at : ℕ) → is_void result ≡ false → Breaks (site.Return result false at) Shape
  -- `break` or `continue` outside a loop
  outside_loop : (at : ℕ) → Breaks (site.Jump false at) Shape
  -- another number of arguments than parameters
  miscounted : (how : How) (d : Binding) (home : Home) (at : ℕ) →
      is_counted how d.entity ≡ false → Breaks (site.Use how (Some d) home at) Arity
  -- an array length of 0
  no_elements : (length at : ℕ) → length ≡ 0 → Breaks (site.Length length at) TooLong
  -- an array length above 65,536
  too_long : (length at : ℕ) → MAX_ARRAY_LENGTH < length → Breaks (site.Length length at) TooLong
  -- the 1,025th global name
  global_too_many : (number at : ℕ) (again : Bool) → number ≡ MAX_GLOBALS → Breaks (site.Global number again at) TooMany
  -- the 7th parameter
  parameter_too_many : (number at : ℕ) (again : Bool) →
      number ≡ MAX_PARAMETERS → Breaks (site.Parameter number again at) TooMany

-- the token of a site
abbrev pub at_token : Site → ℕ
at_token (site.Use how means home at) = at
at_token (site.Local again at) = at
at_token (site.Parameter number again at) = at
at_token (site.Return result value at) = at
at_token (site.Jump in_loop at) = at
at_token (site.Global number again at) = at
at_token (site.Length length at) = at
at_token (site.Constant length values braces at) = at

-- a local or a parameter is declared here
abbrev pub is_local : Site → Bool
is_local (site.Local again at) = true
is_local (site.Parameter number again at) = true
is_local other = false

-- a site of several in a row, and those before it
pub record Stands (sites front : List Site) (s : Site) : Type 0 where
  pub back : List Site
  pub all : sites ≡ front ++ s ∷ back

-- A program breaks a rule at a token: by what stands at a site of one of its items, or because 256 locals and
-- parameters of the item stand before the one that is declared there.
pub data Violates (p : Program) (at : ℕ) (rule : Rule) : Type 0 where
  by_site : (before : List Item) (item : Item) (front : List Site) (s : Site) → ItemFollows p before item →
      Stands (item_sites before item) front s → at_token s ≡ at → Breaks s rule → Violates p at rule
  local_too_many : (before : List Item) (item : Item) (front : List Site) (s : Site) → ItemFollows p before item →
      Stands (item_sites before item) front s → at_token s ≡ at →
      is_local s ≡ true → count_by is_local front ≡ MAX_LOCALS → rule ≡ TooMany → Violates p at rule

-- the place of a rule among those that may be broken at one token
abbrev pub rule_order : Rule → ℕ
rule_order Unknown = 0
rule_order Twice = 1
rule_order Recursive = 2
rule_order ByClass = 3
rule_order Shape = 4
rule_order Arity = 5
rule_order TooLong = 6
rule_order TooMany = 7

-- the first violation: none is at an earlier token, and none of an earlier rule at the same one
pub record IsFirst (p : Program) (at : ℕ) (rule : Rule) : Type 0 where
  pub violates : Violates p at rule
  pub least : (at' : ℕ) (rule' : Rule) → Violates p at' rule' → (at < at') ⊎ ((at ≡ at') × (rule_order rule ≤ rule_order rule'))
