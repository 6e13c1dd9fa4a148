-- Programs that are equal without token numbers have equal parts: names, numbers, suffixes, operators, classes, and each list and each option.
use Rattle.std.proofs.Common.{◌≡◌, ◌≢◌, ◌∙◌, ap, sym, ℕ, suc, Bool, List, [], ◌∷◌, length, Option, None, Some, refl, arith}
use Rattle.std.specs.Prelude.{map, option_map}
use Rattle.std.proofs.lemmas.List.{length-map}
use Rattle.c_token.specs.declared.signs.Sign.{Sign}
use Rattle.c_grammar.specs.declared.expr.Expr.{Expr}
use Rattle.c_grammar.specs.declared.expr.Expr.TheVariants as e
use Rattle.c_grammar.specs.declared.expr.Expr.TheOpen.{Expr-F}
use Rattle.c_grammar.specs.declared.expr.Expr.TheViews.{out-Expr, out-roll-Expr}
use Rattle.c_grammar.specs.declared.stmt.Stmt.{Stmt}
use Rattle.c_grammar.specs.declared.stmt.Stmt.TheVariants as s
use Rattle.c_grammar.specs.declared.stmt.Stmt.TheOpen.{Stmt-F}
use Rattle.c_grammar.specs.declared.stmt.Stmt.TheViews.{out-Stmt, out-roll-Stmt}
use Rattle.c_grammar.specs.declared.item.Storage.{Storage}
use Rattle.c_grammar.specs.declared.item.Kind3.{Kind3}
use Rattle.c_grammar.specs.declared.item.Value.{Value}
use Rattle.c_grammar.specs.declared.item.Parameter.{Parameter}
use Rattle.c_grammar.specs.declared.item.Item.{Item}
use Rattle.c_grammar.specs.declared.item.Item.TheVariants as i
use Rattle.c_grammar.specs.declared.item.Program.{Program}
use Rattle.c_grammar.specs.Bare.{bare_expr, bare_stmt, bare_parameter, bare_item, bare}
use Rattle.c_grammar.proofs.BareForms as forms

-- a list and a shorter one, and a part that stands and one that does not
shorter : {A : Type 0} (f : A → A) (x : A) (xs : List A) → map f (x ∷ xs) ≢ map f xs
shorter f x xs same = let count : suc (length xs) ≡ length xs = sym (length-map (x ∷ xs) f) ∙ ap length same ∙ length-map xs f in absurd (omega (arith, count))

absent : {A : Type 0} (f : A → A) (x : A) → option_map f (Some x) ≢ option_map f None
absent f x same = cc

layer-expr_Number : (value : ℕ) (unsigned : Bool) (token : ℕ) → out-Expr (e.Number value unsigned token) ≡ Expr-F.Number value unsigned token
layer-expr_Number value unsigned token = ap out-Expr (sym (e.rolls-Number value unsigned token)) ∙ out-roll-Expr (Expr-F.Number value unsigned token)

expr_Number-parts : (value value2 : ℕ) (unsigned unsigned2 : Bool) (m n : ℕ) → bare_expr (e.Number value unsigned m) ≡ bare_expr (e.Number value2 unsigned2 n)
    → (value ≡ value2) × (unsigned ≡ unsigned2)
expr_Number-parts value value2 unsigned unsigned2 m n same =
    let layers : Expr-F.Number value unsigned 0 ≡ Expr-F.Number value2 unsigned2 0 =
    sym (layer-expr_Number value unsigned 0) ∙ ap out-Expr (sym (forms.bare_expr-Number value unsigned m) ∙ same ∙ forms.bare_expr-Number value2 unsigned2 n) ∙ layer-expr_Number value2 unsigned2 0 in
    (cc, cc)

layer-expr_Name : (name : List ℕ) (token : ℕ) → out-Expr (e.Name name token) ≡ Expr-F.Name name token
layer-expr_Name name token = ap out-Expr (sym (e.rolls-Name name token)) ∙ out-roll-Expr (Expr-F.Name name token)

expr_Name-parts : (name name2 : List ℕ) (m n : ℕ) → bare_expr (e.Name name m) ≡ bare_expr (e.Name name2 n)
    → name ≡ name2
expr_Name-parts name name2 m n same =
    let layers : Expr-F.Name name 0 ≡ Expr-F.Name name2 0 =
    sym (layer-expr_Name name 0) ∙ ap out-Expr (sym (forms.bare_expr-Name name m) ∙ same ∙ forms.bare_expr-Name name2 n) ∙ layer-expr_Name name2 0 in
    cc

layer-expr_Index : (name : List ℕ) (index : Expr) (token : ℕ) → out-Expr (e.Index name index token) ≡ Expr-F.Index name index token
layer-expr_Index name index token = ap out-Expr (sym (e.rolls-Index name index token)) ∙ out-roll-Expr (Expr-F.Index name index token)

expr_Index-parts : (name name2 : List ℕ) (index index2 : Expr) (m n : ℕ) → bare_expr (e.Index name index m) ≡ bare_expr (e.Index name2 index2 n)
    → (name ≡ name2) × (bare_expr index ≡ bare_expr index2)
expr_Index-parts name name2 index index2 m n same =
    let layers : Expr-F.Index name (bare_expr index) 0 ≡ Expr-F.Index name2 (bare_expr index2) 0 =
    sym (layer-expr_Index name (bare_expr index) 0) ∙ ap out-Expr (sym (forms.bare_expr-Index name index m) ∙ same ∙ forms.bare_expr-Index name2 index2 n) ∙ layer-expr_Index name2 (bare_expr index2) 0 in
    (cc, cc)

layer-expr_Call : (name : List ℕ) (arguments : List Expr) (token : ℕ) → out-Expr (e.Call name arguments token) ≡ Expr-F.Call name arguments token
layer-expr_Call name arguments token = ap out-Expr (sym (e.rolls-Call name arguments token)) ∙ out-roll-Expr (Expr-F.Call name arguments token)

expr_Call-parts : (name name2 : List ℕ) (arguments arguments2 : List Expr) (m n : ℕ) → bare_expr (e.Call name arguments m) ≡ bare_expr (e.Call name2 arguments2 n)
    → (name ≡ name2) × (map bare_expr arguments ≡ map bare_expr arguments2)
expr_Call-parts name name2 arguments arguments2 m n same =
    let layers : Expr-F.Call name (map bare_expr arguments) 0 ≡ Expr-F.Call name2 (map bare_expr arguments2) 0 =
    sym (layer-expr_Call name (map bare_expr arguments) 0) ∙ ap out-Expr (sym (forms.bare_expr-Call name arguments m) ∙ same ∙ forms.bare_expr-Call name2 arguments2 n) ∙ layer-expr_Call name2 (map bare_expr arguments2) 0 in
    (cc, cc)

layer-expr_Paren : (inner : Expr) (token : ℕ) → out-Expr (e.Paren inner token) ≡ Expr-F.Paren inner token
layer-expr_Paren inner token = ap out-Expr (sym (e.rolls-Paren inner token)) ∙ out-roll-Expr (Expr-F.Paren inner token)

expr_Paren-parts : (inner inner2 : Expr) (m n : ℕ) → bare_expr (e.Paren inner m) ≡ bare_expr (e.Paren inner2 n)
    → bare_expr inner ≡ bare_expr inner2
expr_Paren-parts inner inner2 m n same =
    let layers : Expr-F.Paren (bare_expr inner) 0 ≡ Expr-F.Paren (bare_expr inner2) 0 =
    sym (layer-expr_Paren (bare_expr inner) 0) ∙ ap out-Expr (sym (forms.bare_expr-Paren inner m) ∙ same ∙ forms.bare_expr-Paren inner2 n) ∙ layer-expr_Paren (bare_expr inner2) 0 in
    cc

layer-expr_Unary : (op : Sign) (inner : Expr) (token : ℕ) → out-Expr (e.Unary op inner token) ≡ Expr-F.Unary op inner token
layer-expr_Unary op inner token = ap out-Expr (sym (e.rolls-Unary op inner token)) ∙ out-roll-Expr (Expr-F.Unary op inner token)

expr_Unary-parts : (op op2 : Sign) (inner inner2 : Expr) (m n : ℕ) → bare_expr (e.Unary op inner m) ≡ bare_expr (e.Unary op2 inner2 n)
    → (op ≡ op2) × (bare_expr inner ≡ bare_expr inner2)
expr_Unary-parts op op2 inner inner2 m n same =
    let layers : Expr-F.Unary op (bare_expr inner) 0 ≡ Expr-F.Unary op2 (bare_expr inner2) 0 =
    sym (layer-expr_Unary op (bare_expr inner) 0) ∙ ap out-Expr (sym (forms.bare_expr-Unary op inner m) ∙ same ∙ forms.bare_expr-Unary op2 inner2 n) ∙ layer-expr_Unary op2 (bare_expr inner2) 0 in
    (cc, cc)

layer-expr_Binary : (op : Sign) (left : Expr) (right : Expr) (token : ℕ) → out-Expr (e.Binary op left right token) ≡ Expr-F.Binary op left right token
layer-expr_Binary op left right token = ap out-Expr (sym (e.rolls-Binary op left right token)) ∙ out-roll-Expr (Expr-F.Binary op left right token)

expr_Binary-parts : (op op2 : Sign) (left left2 : Expr) (right right2 : Expr) (m n : ℕ) → bare_expr (e.Binary op left right m) ≡ bare_expr (e.Binary op2 left2 right2 n)
    → (op ≡ op2) × (bare_expr left ≡ bare_expr left2) × (bare_expr right ≡ bare_expr right2)
expr_Binary-parts op op2 left left2 right right2 m n same =
    let layers : Expr-F.Binary op (bare_expr left) (bare_expr right) 0 ≡ Expr-F.Binary op2 (bare_expr left2) (bare_expr right2) 0 =
    sym (layer-expr_Binary op (bare_expr left) (bare_expr right) 0) ∙ ap out-Expr (sym (forms.bare_expr-Binary op left right m) ∙ same ∙ forms.bare_expr-Binary op2 left2 right2 n) ∙ layer-expr_Binary op2 (bare_expr left2) (bare_expr right2) 0 in
    (cc, cc, cc)

layer-stmt_Block : (body : List Stmt) (token : ℕ) → out-Stmt (s.Block body token) ≡ Stmt-F.Block body token
layer-stmt_Block body token = ap out-Stmt (sym (s.rolls-Block body token)) ∙ out-roll-Stmt (Stmt-F.Block body token)

stmt_Block-parts : (body body2 : List Stmt) (m n : ℕ) → bare_stmt (s.Block body m) ≡ bare_stmt (s.Block body2 n)
    → map bare_stmt body ≡ map bare_stmt body2
stmt_Block-parts body body2 m n same =
    let layers : Stmt-F.Block (map bare_stmt body) 0 ≡ Stmt-F.Block (map bare_stmt body2) 0 =
    sym (layer-stmt_Block (map bare_stmt body) 0) ∙ ap out-Stmt (sym (forms.bare_stmt-Block body m) ∙ same ∙ forms.bare_stmt-Block body2 n) ∙ layer-stmt_Block (map bare_stmt body2) 0 in
    cc

layer-stmt_Local : (unsigned : Bool) (name : List ℕ) (value : Option Expr) (token : ℕ) → out-Stmt (s.Local unsigned name value token) ≡ Stmt-F.Local unsigned name value token
layer-stmt_Local unsigned name value token = ap out-Stmt (sym (s.rolls-Local unsigned name value token)) ∙ out-roll-Stmt (Stmt-F.Local unsigned name value token)

stmt_Local-parts : (unsigned unsigned2 : Bool) (name name2 : List ℕ) (value value2 : Option Expr) (m n : ℕ) → bare_stmt (s.Local unsigned name value m) ≡ bare_stmt (s.Local unsigned2 name2 value2 n)
    → (unsigned ≡ unsigned2) × (name ≡ name2) × (option_map bare_expr value ≡ option_map bare_expr value2)
stmt_Local-parts unsigned unsigned2 name name2 value value2 m n same =
    let layers : Stmt-F.Local unsigned name (option_map bare_expr value) 0 ≡ Stmt-F.Local unsigned2 name2 (option_map bare_expr value2) 0 =
    sym (layer-stmt_Local unsigned name (option_map bare_expr value) 0) ∙ ap out-Stmt (sym (forms.bare_stmt-Local unsigned name value m) ∙ same ∙ forms.bare_stmt-Local unsigned2 name2 value2 n) ∙ layer-stmt_Local unsigned2 name2 (option_map bare_expr value2) 0 in
    (cc, cc, cc)

layer-stmt_Assign : (name : List ℕ) (index : Option Expr) (value : Expr) (token : ℕ) → out-Stmt (s.Assign name index value token) ≡ Stmt-F.Assign name index value token
layer-stmt_Assign name index value token = ap out-Stmt (sym (s.rolls-Assign name index value token)) ∙ out-roll-Stmt (Stmt-F.Assign name index value token)

stmt_Assign-parts : (name name2 : List ℕ) (index index2 : Option Expr) (value value2 : Expr) (m n : ℕ) → bare_stmt (s.Assign name index value m) ≡ bare_stmt (s.Assign name2 index2 value2 n)
    → (name ≡ name2) × (option_map bare_expr index ≡ option_map bare_expr index2) × (bare_expr value ≡ bare_expr value2)
stmt_Assign-parts name name2 index index2 value value2 m n same =
    let layers : Stmt-F.Assign name (option_map bare_expr index) (bare_expr value) 0 ≡ Stmt-F.Assign name2 (option_map bare_expr index2) (bare_expr value2) 0 =
    sym (layer-stmt_Assign name (option_map bare_expr index) (bare_expr value) 0) ∙ ap out-Stmt (sym (forms.bare_stmt-Assign name index value m) ∙ same ∙ forms.bare_stmt-Assign name2 index2 value2 n) ∙ layer-stmt_Assign name2 (option_map bare_expr index2) (bare_expr value2) 0 in
    (cc, cc, cc)

layer-stmt_Call : (name : List ℕ) (arguments : List Expr) (token : ℕ) → out-Stmt (s.Call name arguments token) ≡ Stmt-F.Call name arguments token
layer-stmt_Call name arguments token = ap out-Stmt (sym (s.rolls-Call name arguments token)) ∙ out-roll-Stmt (Stmt-F.Call name arguments token)

stmt_Call-parts : (name name2 : List ℕ) (arguments arguments2 : List Expr) (m n : ℕ) → bare_stmt (s.Call name arguments m) ≡ bare_stmt (s.Call name2 arguments2 n)
    → (name ≡ name2) × (map bare_expr arguments ≡ map bare_expr arguments2)
stmt_Call-parts name name2 arguments arguments2 m n same =
    let layers : Stmt-F.Call name (map bare_expr arguments) 0 ≡ Stmt-F.Call name2 (map bare_expr arguments2) 0 =
    sym (layer-stmt_Call name (map bare_expr arguments) 0) ∙ ap out-Stmt (sym (forms.bare_stmt-Call name arguments m) ∙ same ∙ forms.bare_stmt-Call name2 arguments2 n) ∙ layer-stmt_Call name2 (map bare_expr arguments2) 0 in
    (cc, cc)

layer-stmt_Release : (value : Expr) (token : ℕ) → out-Stmt (s.Release value token) ≡ Stmt-F.Release value token
layer-stmt_Release value token = ap out-Stmt (sym (s.rolls-Release value token)) ∙ out-roll-Stmt (Stmt-F.Release value token)

stmt_Release-parts : (value value2 : Expr) (m n : ℕ) → bare_stmt (s.Release value m) ≡ bare_stmt (s.Release value2 n)
    → bare_expr value ≡ bare_expr value2
stmt_Release-parts value value2 m n same =
    let layers : Stmt-F.Release (bare_expr value) 0 ≡ Stmt-F.Release (bare_expr value2) 0 =
    sym (layer-stmt_Release (bare_expr value) 0) ∙ ap out-Stmt (sym (forms.bare_stmt-Release value m) ∙ same ∙ forms.bare_stmt-Release value2 n) ∙ layer-stmt_Release (bare_expr value2) 0 in
    cc

layer-stmt_Return : (value : Option Expr) (token : ℕ) → out-Stmt (s.Return value token) ≡ Stmt-F.Return value token
layer-stmt_Return value token = ap out-Stmt (sym (s.rolls-Return value token)) ∙ out-roll-Stmt (Stmt-F.Return value token)

stmt_Return-parts : (value value2 : Option Expr) (m n : ℕ) → bare_stmt (s.Return value m) ≡ bare_stmt (s.Return value2 n)
    → option_map bare_expr value ≡ option_map bare_expr value2
stmt_Return-parts value value2 m n same =
    let layers : Stmt-F.Return (option_map bare_expr value) 0 ≡ Stmt-F.Return (option_map bare_expr value2) 0 =
    sym (layer-stmt_Return (option_map bare_expr value) 0) ∙ ap out-Stmt (sym (forms.bare_stmt-Return value m) ∙ same ∙ forms.bare_stmt-Return value2 n) ∙ layer-stmt_Return (option_map bare_expr value2) 0 in
    cc

layer-stmt_If : (test : Expr) (body : Stmt) (other : Option Stmt) (token : ℕ) → out-Stmt (s.If test body other token) ≡ Stmt-F.If test body other token
layer-stmt_If test body None token = ap out-Stmt (sym (s.rolls-If test body None token)) ∙ out-roll-Stmt (Stmt-F.If test body None token)
layer-stmt_If test body (Some x0) token = ap out-Stmt (sym (s.rolls-If test body (Some x0) token)) ∙ out-roll-Stmt (Stmt-F.If test body (Some x0) token)

stmt_If-parts : (test test2 : Expr) (body body2 : Stmt) (other other2 : Option Stmt) (m n : ℕ) → bare_stmt (s.If test body other m) ≡ bare_stmt (s.If test2 body2 other2 n)
    → (bare_expr test ≡ bare_expr test2) × (bare_stmt body ≡ bare_stmt body2) × (option_map bare_stmt other ≡ option_map bare_stmt other2)
stmt_If-parts test test2 body body2 other other2 m n same =
    let layers : Stmt-F.If (bare_expr test) (bare_stmt body) (option_map bare_stmt other) 0 ≡ Stmt-F.If (bare_expr test2) (bare_stmt body2) (option_map bare_stmt other2) 0 =
    sym (layer-stmt_If (bare_expr test) (bare_stmt body) (option_map bare_stmt other) 0) ∙ ap out-Stmt (sym (forms.bare_stmt-If test body other m) ∙ same ∙ forms.bare_stmt-If test2 body2 other2 n) ∙ layer-stmt_If (bare_expr test2) (bare_stmt body2) (option_map bare_stmt other2) 0 in
    (cc, cc, cc)

layer-stmt_While : (test : Expr) (body : Stmt) (token : ℕ) → out-Stmt (s.While test body token) ≡ Stmt-F.While test body token
layer-stmt_While test body token = ap out-Stmt (sym (s.rolls-While test body token)) ∙ out-roll-Stmt (Stmt-F.While test body token)

stmt_While-parts : (test test2 : Expr) (body body2 : Stmt) (m n : ℕ) → bare_stmt (s.While test body m) ≡ bare_stmt (s.While test2 body2 n)
    → (bare_expr test ≡ bare_expr test2) × (bare_stmt body ≡ bare_stmt body2)
stmt_While-parts test test2 body body2 m n same =
    let layers : Stmt-F.While (bare_expr test) (bare_stmt body) 0 ≡ Stmt-F.While (bare_expr test2) (bare_stmt body2) 0 =
    sym (layer-stmt_While (bare_expr test) (bare_stmt body) 0) ∙ ap out-Stmt (sym (forms.bare_stmt-While test body m) ∙ same ∙ forms.bare_stmt-While test2 body2 n) ∙ layer-stmt_While (bare_expr test2) (bare_stmt body2) 0 in
    (cc, cc)

layer-stmt_For : (first : Option Stmt) (test : Option Expr) (step : Option Stmt) (body : Stmt) (token : ℕ) → out-Stmt (s.For first test step body token) ≡ Stmt-F.For first test step body token
layer-stmt_For None test None body token = ap out-Stmt (sym (s.rolls-For None test None body token)) ∙ out-roll-Stmt (Stmt-F.For None test None body token)
layer-stmt_For None test (Some x1) body token = ap out-Stmt (sym (s.rolls-For None test (Some x1) body token)) ∙ out-roll-Stmt (Stmt-F.For None test (Some x1) body token)
layer-stmt_For (Some x0) test None body token = ap out-Stmt (sym (s.rolls-For (Some x0) test None body token)) ∙ out-roll-Stmt (Stmt-F.For (Some x0) test None body token)
layer-stmt_For (Some x0) test (Some x1) body token = ap out-Stmt (sym (s.rolls-For (Some x0) test (Some x1) body token)) ∙ out-roll-Stmt (Stmt-F.For (Some x0) test (Some x1) body token)

stmt_For-parts : (first first2 : Option Stmt) (test test2 : Option Expr) (step step2 : Option Stmt) (body body2 : Stmt) (m n : ℕ) → bare_stmt (s.For first test step body m) ≡ bare_stmt (s.For first2 test2 step2 body2 n)
    → (option_map bare_stmt first ≡ option_map bare_stmt first2) × (option_map bare_expr test ≡ option_map bare_expr test2) × (option_map bare_stmt step ≡ option_map bare_stmt step2) × (bare_stmt body ≡ bare_stmt body2)
stmt_For-parts first first2 test test2 step step2 body body2 m n same =
    let layers : Stmt-F.For (option_map bare_stmt first) (option_map bare_expr test) (option_map bare_stmt step) (bare_stmt body) 0 ≡ Stmt-F.For (option_map bare_stmt first2) (option_map bare_expr test2) (option_map bare_stmt step2) (bare_stmt body2) 0 =
    sym (layer-stmt_For (option_map bare_stmt first) (option_map bare_expr test) (option_map bare_stmt step) (bare_stmt body) 0) ∙ ap out-Stmt (sym (forms.bare_stmt-For first test step body m) ∙ same ∙ forms.bare_stmt-For first2 test2 step2 body2 n) ∙ layer-stmt_For (option_map bare_stmt first2) (option_map bare_expr test2) (option_map bare_stmt step2) (bare_stmt body2) 0 in
    (cc, cc, cc, cc)

item_Object-parts : (class class2 : Storage) (unsigned unsigned2 : Bool) (name name2 : List ℕ) (length length2 : Option ℕ) (m n : ℕ) → bare_item (i.Object class unsigned name length m) ≡ bare_item (i.Object class2 unsigned2 name2 length2 n)
    → (class ≡ class2) × (unsigned ≡ unsigned2) × (name ≡ name2) × (length ≡ length2)
item_Object-parts class class2 unsigned unsigned2 name name2 length length2 m n same = (cc, cc, cc, cc)

item_Constant-parts : (unsigned unsigned2 : Bool) (name name2 : List ℕ) (length length2 : Option ℕ) (values values2 : List Value) (braces braces2 : Bool) (m n : ℕ) → bare_item (i.Constant unsigned name length values braces m) ≡ bare_item (i.Constant unsigned2 name2 length2 values2 braces2 n)
    → (unsigned ≡ unsigned2) × (name ≡ name2) × (length ≡ length2) × (values ≡ values2) × (braces ≡ braces2)
item_Constant-parts unsigned unsigned2 name name2 length length2 values values2 braces braces2 m n same = (cc, cc, cc, cc, cc)

item_Untrusted-parts : (name name2 : List ℕ) (m n : ℕ) → bare_item (i.Untrusted name m) ≡ bare_item (i.Untrusted name2 n)
    → name ≡ name2
item_Untrusted-parts name name2 m n same = cc

item_Function-parts : (is_private is_private2 : Bool) (result result2 : Kind3) (name name2 : List ℕ) (params params2 : List Parameter) (body body2 : List Stmt) (m n : ℕ) → bare_item (i.Function is_private result name params body m) ≡ bare_item (i.Function is_private2 result2 name2 params2 body2 n)
    → (is_private ≡ is_private2) × (result ≡ result2) × (name ≡ name2) × (map bare_parameter params ≡ map bare_parameter params2) × (map bare_stmt body ≡ map bare_stmt body2)
item_Function-parts is_private is_private2 result result2 name name2 params params2 body body2 m n same = (cc, cc, cc, cc, cc)

parameter-parts : (p q : Parameter) → bare_parameter p ≡ bare_parameter q → (p.unsigned ≡ q.unsigned) × (p.name ≡ q.name)
parameter-parts p q same = (ap (λ p. p.unsigned) same, ap (λ p. p.name) same)

program-parts : (p q : Program) → bare p ≡ bare q → map bare_item p.items ≡ map bare_item q.items
program-parts p q same = ap (λ p. p.items) same

-- so no list may be shorter
call-shorter : (f : List ℕ) (x : Expr) (xs : List Expr) (m n : ℕ) → bare_expr (e.Call f (x ∷ xs) m) ≢ bare_expr (e.Call f xs n)
call-shorter f x xs m n same = shorter bare_expr x xs (expr_Call-parts f f (x ∷ xs) xs m n same).1

statement_call-shorter : (f : List ℕ) (x : Expr) (xs : List Expr) (m n : ℕ) → bare_stmt (s.Call f (x ∷ xs) m) ≢ bare_stmt (s.Call f xs n)
statement_call-shorter f x xs m n same = shorter bare_expr x xs (stmt_Call-parts f f (x ∷ xs) xs m n same).1

block-shorter : (x : Stmt) (xs : List Stmt) (m n : ℕ) → bare_stmt (s.Block (x ∷ xs) m) ≢ bare_stmt (s.Block xs n)
block-shorter x xs m n same = shorter bare_stmt x xs (stmt_Block-parts (x ∷ xs) xs m n same)

body-shorter : (b : Bool) (r : Kind3) (f : List ℕ) (ps : List Parameter) (x : Stmt) (xs : List Stmt) (m n : ℕ) → bare_item (i.Function b r f ps (x ∷ xs) m) ≢ bare_item (i.Function b r f ps xs n)
body-shorter b r f ps x xs m n same = shorter bare_stmt x xs (item_Function-parts b b r r f f ps ps (x ∷ xs) xs m n same).4

parameters-shorter : (b : Bool) (r : Kind3) (f : List ℕ) (p : Parameter) (ps : List Parameter) (xs : List Stmt) (m n : ℕ) → bare_item (i.Function b r f (p ∷ ps) xs m) ≢ bare_item (i.Function b r f ps xs n)
parameters-shorter b r f p ps xs m n same = shorter bare_parameter p ps (item_Function-parts b b r r f f (p ∷ ps) ps xs xs m n same).3

values-shorter : (u b : Bool) (k : List ℕ) (length : Option ℕ) (v : Value) (vs : List Value) (m n : ℕ) → bare_item (i.Constant u k length (v ∷ vs) b m) ≢ bare_item (i.Constant u k length vs b n)
values-shorter u b k length v vs m n same = shorter (λ v. v) v vs (ap (map (λ (v : Value). v)) (item_Constant-parts u u k k length length (v ∷ vs) vs b b m n same).3)

items-shorter : (x : Item) (xs : List Item) → bare (record { items = x ∷ xs }) ≢ bare (record { items = xs })
items-shorter x xs same = shorter bare_item x xs (program-parts (record { items = x ∷ xs }) (record { items = xs }) same)

-- and no part may be missing
value-missing : (u : Bool) (a : List ℕ) (x : Expr) (m n : ℕ) → bare_stmt (s.Local u a (Some x) m) ≢ bare_stmt (s.Local u a None n)
value-missing u a x m n same = absent bare_expr x (stmt_Local-parts u u a a (Some x) None m n same).2

index-missing : (a : List ℕ) (x y : Expr) (m n : ℕ) → bare_stmt (s.Assign a (Some x) y m) ≢ bare_stmt (s.Assign a None y n)
index-missing a x y m n same = absent bare_expr x (stmt_Assign-parts a a (Some x) None y y m n same).1

result-missing : (x : Expr) (m n : ℕ) → bare_stmt (s.Return (Some x) m) ≢ bare_stmt (s.Return None n)
result-missing x m n same = absent bare_expr x (stmt_Return-parts (Some x) None m n same)

else-missing : (t : Expr) (x y : Stmt) (m n : ℕ) → bare_stmt (s.If t x (Some y) m) ≢ bare_stmt (s.If t x None n)
else-missing t x y m n same = absent bare_stmt y (stmt_If-parts t t x x (Some y) None m n same).2

first-missing : (x y : Stmt) (t : Option Expr) (p : Option Stmt) (m n : ℕ) → bare_stmt (s.For (Some x) t p y m) ≢ bare_stmt (s.For None t p y n)
first-missing x y t p m n same = absent bare_stmt x (stmt_For-parts (Some x) None t t p p y y m n same).0

test-missing : (t : Expr) (y : Stmt) (f p : Option Stmt) (m n : ℕ) → bare_stmt (s.For f (Some t) p y m) ≢ bare_stmt (s.For f None p y n)
test-missing t y f p m n same = absent bare_expr t (stmt_For-parts f f (Some t) None p p y y m n same).1

step-missing : (x y : Stmt) (f : Option Stmt) (t : Option Expr) (m n : ℕ) → bare_stmt (s.For f t (Some x) y m) ≢ bare_stmt (s.For f t None y n)
step-missing x y f t m n same = absent bare_stmt x (stmt_For-parts f f t t (Some x) None y y m n same).2

object_length-missing : (c : Storage) (u : Bool) (a : List ℕ) (k m n : ℕ) → bare_item (i.Object c u a (Some k) m) ≢ bare_item (i.Object c u a None n)
object_length-missing c u a k m n same = cc

constant_length-missing : (u b : Bool) (a : List ℕ) (k : ℕ) (vs : List Value) (m n : ℕ) → bare_item (i.Constant u a (Some k) vs b m) ≢ bare_item (i.Constant u a None vs b n)
constant_length-missing u b a k vs m n same = cc

-- and token numbers alone make no difference
numbers_alone : (a b m n : ℕ) → bare (record { items = i.Untrusted (a ∷ b ∷ []) m ∷ [] }) ≡ bare (record { items = i.Untrusted (a ∷ b ∷ []) n ∷ [] })
numbers_alone a b m n = refl
