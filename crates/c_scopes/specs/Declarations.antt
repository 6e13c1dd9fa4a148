-- Promise: what the items of a program, its parameters and its locals declare.
use Rattle.std.specs.Prelude.{ℕ, Bool, true, false, List, length, map}
use Rattle.regions.specs.declared.rights.Class.{Class}
use Rattle.regions.specs.declared.rights.Class.TheVariants as class
use Rattle.c_grammar.specs.declared.item.Kind3.TheVariants.{Void}
use Rattle.c_grammar.specs.declared.item.Storage.{Storage}
use Rattle.c_grammar.specs.declared.item.Storage.TheVariants.{Verified, Private, Shared, Logged}
use Rattle.c_grammar.specs.declared.item.Parameter.{Parameter}
use Rattle.c_grammar.specs.declared.item.Item.{Item}
use Rattle.c_grammar.specs.declared.item.Item.TheVariants as item
use Rattle.c_scopes.specs.declared.declaration.Declaration.{Declaration}
use Rattle.c_scopes.specs.declared.declaration.Entity.{Entity}
use Rattle.c_scopes.specs.declared.declaration.Entity.TheVariants.{Local, Object, Function}

-- the class of a kept object
abbrev pub class_of : Storage → Class
class_of Verified = class.Verified
class_of Private = class.Private
class_of Shared = class.Open
class_of Logged = class.Logged

-- what an item stands for
abbrev pub entity_of : Item → Entity
entity_of (item.Object storage unsigned name length token) = Object (class_of storage) unsigned length
entity_of (item.Constant unsigned name length values braces token) = Object class.Constant unsigned length
entity_of (item.Untrusted name token) = Function Void true 0
entity_of (item.Function private result name parameters body token) = Function result false (length parameters)

-- the name of an item
abbrev pub item_name : Item → List ℕ
item_name (item.Object storage unsigned name length token) = name
item_name (item.Constant unsigned name length values braces token) = name
item_name (item.Untrusted name token) = name
item_name (item.Function private result name parameters body token) = name

-- the token of the name of an item
abbrev pub token_of : Item → ℕ
token_of (item.Object storage unsigned name length token) = token
token_of (item.Constant unsigned name length values braces token) = token
token_of (item.Untrusted name token) = token
token_of (item.Function private result name parameters body token) = token

-- what an item declares
abbrev pub declaration_of : Item → Declaration
declaration_of item = record { name = item_name item; binding = record { token = token_of item; entity = entity_of item } }

-- what items declare
abbrev pub declarations_of : List Item → List Declaration
declarations_of items = map declaration_of items

-- a local, which is not known in its own value
abbrev pub local : Bool → List ℕ → ℕ → Declaration
local unsigned name token = record { name = name; binding = record { token = token; entity = Local unsigned } }

-- a parameter, which is declared as a local is
abbrev pub parameter : Parameter → Declaration
parameter p = local p.unsigned p.name p.token

-- what parameters declare
abbrev pub parameters_of : List Parameter → List Declaration
parameters_of ps = map parameter ps
