-- The definitions on small programs.
use Rattle.std.proofs.Common.{◌≡◌, ℕ, true, false, List, [], ◌∷◌, map, codes, Some, None, refl}
use Rattle.regions.specs.declared.rights.Class.TheVariants as class
use Rattle.c_grammar.specs.declared.expr.Expr.TheVariants as expr
use Rattle.c_grammar.specs.declared.stmt.Stmt.TheVariants as stmt
use Rattle.c_grammar.specs.declared.item.Kind3.TheVariants.{Int, Unsigned, Void}
use Rattle.c_grammar.specs.declared.item.Item.{Item}
use Rattle.c_grammar.specs.declared.item.Item.TheVariants as item
use Rattle.c_scopes.specs.declared.declaration.Binding.{Binding}
use Rattle.c_scopes.specs.declared.declaration.Entity.{Entity}
use Rattle.c_scopes.specs.declared.declaration.Entity.TheVariants.{Local, Object, Function}
use Rattle.c_types.specs.declared.site.How.{How}
use Rattle.c_types.specs.declared.site.How.TheVariants.{Value, Element, Assign, AssignElement, Call, CallValue}
use Rattle.c_types.specs.declared.site.Site.TheVariants as site
use Rattle.c_types.specs.declared.site.Rule.TheVariants.{Unknown, Twice, Recursive}
use Rattle.c_scopes.specs.Declarations.{declaration_of}
use Rattle.c_types.specs.Sites.{item_sites}
use Rattle.c_types.specs.TypingRules.{Violates, fits, is_call, is_assignment, is_constant, is_counted, is_local, is_private_object}
use Rattle.c_types.specs.TypingRules.Breaks.{unknown, twice_local, self_call as calls_itself}
use Rattle.c_types.specs.TypingRules.Violates.{by_site}
use Rattle.c_types.specs.Checked.{KeepsRules, has_main}
use Rattle.c_types.proofs.Equations.{expr_forms, stmt_forms}
use Rattle.c_types.proofs.Exact.{none_is}

-- what names stand for: a local, a scalar, an array, functions that answer int and unsigned, one that answers nothing, and
-- untrusted code
abbrev kinds : List Entity
kinds = Local false ∷ Object class.Private true None ∷ Object class.Constant false (Some 3) ∷ Function Int false 2 ∷ Function Unsigned false 2
    ∷ Function Void false 2 ∷ Function Void true 0 ∷ []

values_fit : map (fits Value) kinds ≡ true ∷ true ∷ false ∷ false ∷ false ∷ false ∷ false ∷ []
values_fit = refl

elements_fit : map (fits Element) kinds ≡ false ∷ false ∷ true ∷ false ∷ false ∷ false ∷ false ∷ []
elements_fit = refl

assigned_fit : map (fits Assign) kinds ≡ true ∷ true ∷ false ∷ false ∷ false ∷ false ∷ false ∷ []
assigned_fit = refl

assigned_elements_fit : map (fits AssignElement) kinds ≡ false ∷ false ∷ true ∷ false ∷ false ∷ false ∷ false ∷ []
assigned_elements_fit = refl

called_fit : map (fits (Call 1)) kinds ≡ false ∷ false ∷ false ∷ true ∷ true ∷ true ∷ true ∷ []
called_fit = refl

called_values_fit : map (fits (CallValue 1)) kinds ≡ false ∷ false ∷ false ∷ true ∷ true ∷ false ∷ false ∷ []
called_values_fit = refl

-- a call is counted against the parameters, and nothing else is
called_counted : map (is_counted (Call 2)) kinds ≡ true ∷ true ∷ true ∷ true ∷ true ∷ true ∷ false ∷ []
called_counted = refl

called_values_counted : map (is_counted (CallValue 0)) kinds ≡ true ∷ true ∷ true ∷ false ∷ false ∷ false ∷ true ∷ []
called_values_counted = refl

named_counted : map (is_counted Value) kinds ≡ true ∷ true ∷ true ∷ true ∷ true ∷ true ∷ true ∷ []
named_counted = refl

classes_apart : map is_constant kinds ≡ false ∷ false ∷ true ∷ false ∷ false ∷ false ∷ false ∷ []
classes_apart = refl

private_apart : map is_private_object kinds ≡ false ∷ true ∷ false ∷ false ∷ false ∷ false ∷ false ∷ []
private_apart = refl

abbrev uses : List How
uses = Value ∷ Element ∷ Assign ∷ AssignElement ∷ Call 0 ∷ CallValue 0 ∷ []

calls_apart : map is_call uses ≡ false ∷ false ∷ false ∷ false ∷ true ∷ true ∷ []
calls_apart = refl

assignments_apart : map is_assignment uses ≡ false ∷ false ∷ true ∷ true ∷ false ∷ false ∷ []
assignments_apart = refl

-- locals and parameters are counted, and no other site is
locals_apart : map is_local (site.Local true 1 ∷ site.Parameter 0 false 2 ∷ site.Global 0 false 3 ∷ site.Jump true 4 ∷ site.Length 1 5 ∷ [])
    ≡ true ∷ true ∷ false ∷ false ∷ false ∷ []
locals_apart = refl

-- `int f(void){return f();}`
abbrev self_call : Item
self_call = item.Function false Int (codes "f") [] (stmt.Return (Some (expr.Call (codes "f") [] 7)) 6 ∷ []) 1

self_call_sites : item_sites [] self_call ≡
    site.Global 0 false 1
    ∷ site.Return Int true 6
    ∷ site.Use (CallValue 0) (Some (declaration_of self_call).binding) (record { private = false; result = Int; token = 1 }) 7
    ∷ []
self_call_sites = simp (expr_forms, stmt_forms)

-- It breaks the rule against recursion at token 7.
self_call_violates : Violates (record { items = self_call ∷ [] }) 7 Recursive
self_call_violates =
    by_site [] self_call (site.Global 0 false 1 ∷ site.Return Int true 6 ∷ [])
    (site.Use (CallValue 0) (Some (declaration_of self_call).binding) (record { private = false; result = Int; token = 1 }) 7)
    (record { after = []; all = refl }) (record { back = []; all = self_call_sites }) refl
    (calls_itself (CallValue 0) (declaration_of self_call).binding (record { private = false; result = Int; token = 1 }) 7 refl refl)

-- An empty program breaks no rule, and has no `main`.
empty_keeps : KeepsRules (record { items = [] })
empty_keeps = none_is (record { items = [] }) refl

empty_has_no_main : has_main [] ≡ false
empty_has_no_main = refl

-- `int f(int a){int b=b;{int a;a=b;}for(int a=a;;)break;int a;}`, a local in its own value, a parameter hidden in a block and declared again
-- in the outermost one, and the end of scopes
abbrev scopes : Item
scopes = item.Function false Int (codes "f") (record { unsigned = false; name = codes "a"; token = 4 } ∷ [])
    (stmt.Local false (codes "b") (Some (expr.Name (codes "b") 10)) 8
    ∷ stmt.Block (stmt.Local false (codes "a") None 14 ∷ stmt.Assign (codes "a") None (expr.Name (codes "b") 18) 16 ∷ []) 12
    ∷ stmt.For (Some (stmt.Local false (codes "a") (Some (expr.Name (codes "a") 26)) 24)) None None (stmt.Break 30) 21
    ∷ stmt.Local false (codes "a") None 33
    ∷ []) 1

abbrev bound : ℕ → Binding
bound token = record { token = token; entity = Local false }

scopes_sites : item_sites [] scopes ≡
    site.Global 0 false 1
    ∷ site.Parameter 0 false 4
    ∷ site.Local false 8
    ∷ site.Use Value None (record { private = false; result = Int; token = 1 }) 10
    ∷ site.Local false 14
    ∷ site.Use Assign (Some (bound 14)) (record { private = false; result = Int; token = 1 }) 16
    ∷ site.Use Value (Some (bound 8)) (record { private = false; result = Int; token = 1 }) 18
    ∷ site.Local false 24
    ∷ site.Use Value (Some (bound 4)) (record { private = false; result = Int; token = 1 }) 26
    ∷ site.Jump true 30
    ∷ site.Local true 33
    ∷ []
scopes_sites = simp (expr_forms, stmt_forms)

-- The local is not known in its own value, and the parameter is declared again in the outermost block.
own_value_violates : Violates (record { items = scopes ∷ [] }) 10 Unknown
own_value_violates =
    by_site [] scopes (site.Global 0 false 1 ∷ site.Parameter 0 false 4 ∷ site.Local false 8 ∷ [])
    (site.Use Value None (record { private = false; result = Int; token = 1 }) 10)
    (record { after = []; all = refl })
    (record {
      back = site.Local false 14
          ∷ site.Use Assign (Some (bound 14)) (record { private = false; result = Int; token = 1 }) 16
          ∷ site.Use Value (Some (bound 8)) (record { private = false; result = Int; token = 1 }) 18
          ∷ site.Local false 24
          ∷ site.Use Value (Some (bound 4)) (record { private = false; result = Int; token = 1 }) 26
          ∷ site.Jump true 30
          ∷ site.Local true 33
          ∷ [];
      all = scopes_sites;
    })
    refl (unknown Value (record { private = false; result = Int; token = 1 }) 10)

again_violates : Violates (record { items = scopes ∷ [] }) 33 Twice
again_violates =
    by_site [] scopes
    (site.Global 0 false 1
    ∷ site.Parameter 0 false 4
    ∷ site.Local false 8
    ∷ site.Use Value None (record { private = false; result = Int; token = 1 }) 10
    ∷ site.Local false 14
    ∷ site.Use Assign (Some (bound 14)) (record { private = false; result = Int; token = 1 }) 16
    ∷ site.Use Value (Some (bound 8)) (record { private = false; result = Int; token = 1 }) 18
    ∷ site.Local false 24
    ∷ site.Use Value (Some (bound 4)) (record { private = false; result = Int; token = 1 }) 26
    ∷ site.Jump true 30
    ∷ [])
    (site.Local true 33) (record { after = []; all = refl }) (record { back = []; all = scopes_sites }) refl (twice_local 33)
