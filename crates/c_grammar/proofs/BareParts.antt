-- Where the parts are the same but for token numbers, so is what is made of them.
use Rattle.std.proofs.Common.{◌≡◌, ◌∙◌, ap, sym, refl, ℕ, Bool, List, [], ◌∷◌, Option, None, Some}
use Rattle.std.specs.Prelude.{map, option_map}
use Rattle.c_token.specs.declared.signs.Sign.{Sign}
use Rattle.c_grammar.specs.declared.expr.Expr.{Expr}
use Rattle.c_grammar.specs.declared.expr.Expr.TheVariants as e
use Rattle.c_grammar.specs.declared.stmt.Stmt.{Stmt}
use Rattle.c_grammar.specs.declared.stmt.Stmt.TheVariants as s
use Rattle.c_grammar.specs.declared.item.Kind3.{Kind3}
use Rattle.c_grammar.specs.declared.item.Parameter.{Parameter}
use Rattle.c_grammar.specs.declared.item.Item.{Item}
use Rattle.c_grammar.specs.declared.item.Item.TheVariants as i
use Rattle.c_grammar.specs.Bare.{bare_expr, bare_stmt, bare_parameter, bare_item}
use Rattle.c_grammar.proofs.BareForms as forms

-- they are equal without their token numbers
pub record Same {A : Type 0} (bare_of : A → A) (x y : A) : Type 0 where
  pub bare : bare_of x ≡ bare_of y

abbrev pub SameExpr : Expr → Expr → Type 0
SameExpr x y = Same bare_expr x y

abbrev pub SameStmt : Stmt → Stmt → Type 0
SameStmt x y = Same bare_stmt x y

abbrev pub SameItem : Item → Item → Type 0
SameItem x y = Same bare_item x y

abbrev pub SameList : {A : Type 0} → (A → A) → List A → List A → Type 0
SameList bare_of xs ys = Same (map bare_of) xs ys

abbrev pub SameOption : {A : Type 0} → (A → A) → Option A → Option A → Type 0
SameOption bare_of x y = Same (option_map bare_of) x y

-- lists and options
pub none_left : {A : Type 0} {bare_of : A → A} → SameList bare_of [] []
none_left = record { bare = refl }

pub one_more : {A : Type 0} {bare_of : A → A} {x y : A} {xs ys : List A} → Same bare_of x y → SameList bare_of xs ys → SameList bare_of (x ∷ xs) (y ∷ ys)
one_more {bare_of = bare_of} {y = y} {xs = xs} one more = record { bare = ap (λ x. x ∷ map bare_of xs) one.bare ∙ ap (λ xs. bare_of y ∷ xs) more.bare }

pub missing : {A : Type 0} {bare_of : A → A} → SameOption bare_of None None
missing = record { bare = refl }

pub given : {A : Type 0} {bare_of : A → A} {x y : A} → Same bare_of x y → SameOption bare_of (Some x) (Some y)
given {A = A} one = record { bare = ap (λ (x : A). Some x) one.bare }

pub number : (value : ℕ) (unsigned : Bool) (m n : ℕ) → SameExpr (e.Number value unsigned m) (e.Number value unsigned n)
number value unsigned m n =
    record {
      bare = forms.bare_expr-Number value unsigned m
          ∙ sym (forms.bare_expr-Number value unsigned n);
    }

pub name : (text : List ℕ) (m n : ℕ) → SameExpr (e.Name text m) (e.Name text n)
name text m n =
    record {
      bare = forms.bare_expr-Name text m
          ∙ sym (forms.bare_expr-Name text n);
    }

pub element : {index index2 : Expr} (text : List ℕ) (m n : ℕ) → SameExpr index index2 → SameExpr (e.Index text index m) (e.Index text index2 n)
element {index = index} {index2 = index2} text m n index-same =
    record {
      bare = forms.bare_expr-Index text index m
          ∙ ap (λ (x : Expr). e.Index text x 0) index-same.bare
          ∙ sym (forms.bare_expr-Index text index2 n);
    }

pub calling : {arguments arguments2 : List Expr} (text : List ℕ) (m n : ℕ) → SameList bare_expr arguments arguments2 → SameExpr (e.Call text arguments m) (e.Call text arguments2 n)
calling {arguments = arguments} {arguments2 = arguments2} text m n arguments-same =
    record {
      bare = forms.bare_expr-Call text arguments m
          ∙ ap (λ (x : List Expr). e.Call text x 0) arguments-same.bare
          ∙ sym (forms.bare_expr-Call text arguments2 n);
    }

pub input : (m n : ℕ) → SameExpr (e.Input m) (e.Input n)
input m n =
    record {
      bare = forms.bare_expr-Input m
          ∙ sym (forms.bare_expr-Input n);
    }

pub paren : {inner inner2 : Expr} (m n : ℕ) → SameExpr inner inner2 → SameExpr (e.Paren inner m) (e.Paren inner2 n)
paren {inner = inner} {inner2 = inner2} m n inner-same =
    record {
      bare = forms.bare_expr-Paren inner m
          ∙ ap (λ (x : Expr). e.Paren x 0) inner-same.bare
          ∙ sym (forms.bare_expr-Paren inner2 n);
    }

pub unary : {inner inner2 : Expr} (op : Sign) (m n : ℕ) → SameExpr inner inner2 → SameExpr (e.Unary op inner m) (e.Unary op inner2 n)
unary {inner = inner} {inner2 = inner2} op m n inner-same =
    record {
      bare = forms.bare_expr-Unary op inner m
          ∙ ap (λ (x : Expr). e.Unary op x 0) inner-same.bare
          ∙ sym (forms.bare_expr-Unary op inner2 n);
    }

pub binary : {left left2 : Expr} {right right2 : Expr} (op : Sign) (m n : ℕ) → SameExpr left left2 → SameExpr right right2 → SameExpr (e.Binary op left right m) (e.Binary op left2 right2 n)
binary {left = left} {left2 = left2} {right = right} {right2 = right2} op m n left-same right-same =
    record {
      bare = forms.bare_expr-Binary op left right m
          ∙ ap (λ (x : Expr). e.Binary op x (bare_expr right) 0) left-same.bare
          ∙ ap (λ (x : Expr). e.Binary op (bare_expr left2) x 0) right-same.bare
          ∙ sym (forms.bare_expr-Binary op left2 right2 n);
    }

pub block : {body body2 : List Stmt} (m n : ℕ) → SameList bare_stmt body body2 → SameStmt (s.Block body m) (s.Block body2 n)
block {body = body} {body2 = body2} m n body-same =
    record {
      bare = forms.bare_stmt-Block body m
          ∙ ap (λ (x : List Stmt). s.Block x 0) body-same.bare
          ∙ sym (forms.bare_stmt-Block body2 n);
    }

pub empty : (m n : ℕ) → SameStmt (s.Empty m) (s.Empty n)
empty m n =
    record {
      bare = forms.bare_stmt-Empty m
          ∙ sym (forms.bare_stmt-Empty n);
    }

pub local : {value value2 : Option Expr} (unsigned : Bool) (text : List ℕ) (m n : ℕ) → SameOption bare_expr value value2 → SameStmt (s.Local unsigned text value m) (s.Local unsigned text value2 n)
local {value = value} {value2 = value2} unsigned text m n value-same =
    record {
      bare = forms.bare_stmt-Local unsigned text value m
          ∙ ap (λ (x : Option Expr). s.Local unsigned text x 0) value-same.bare
          ∙ sym (forms.bare_stmt-Local unsigned text value2 n);
    }

pub assign : {index index2 : Option Expr} {value value2 : Expr} (text : List ℕ) (m n : ℕ) → SameOption bare_expr index index2 → SameExpr value value2 → SameStmt (s.Assign text index value m) (s.Assign text index2 value2 n)
assign {index = index} {index2 = index2} {value = value} {value2 = value2} text m n index-same value-same =
    record {
      bare = forms.bare_stmt-Assign text index value m
          ∙ ap (λ (x : Option Expr). s.Assign text x (bare_expr value) 0) index-same.bare
          ∙ ap (λ (x : Expr). s.Assign text (option_map bare_expr index2) x 0) value-same.bare
          ∙ sym (forms.bare_stmt-Assign text index2 value2 n);
    }

pub call : {arguments arguments2 : List Expr} (text : List ℕ) (m n : ℕ) → SameList bare_expr arguments arguments2 → SameStmt (s.Call text arguments m) (s.Call text arguments2 n)
call {arguments = arguments} {arguments2 = arguments2} text m n arguments-same =
    record {
      bare = forms.bare_stmt-Call text arguments m
          ∙ ap (λ (x : List Expr). s.Call text x 0) arguments-same.bare
          ∙ sym (forms.bare_stmt-Call text arguments2 n);
    }

pub release : {value value2 : Expr} (m n : ℕ) → SameExpr value value2 → SameStmt (s.Release value m) (s.Release value2 n)
release {value = value} {value2 = value2} m n value-same =
    record {
      bare = forms.bare_stmt-Release value m
          ∙ ap (λ (x : Expr). s.Release x 0) value-same.bare
          ∙ sym (forms.bare_stmt-Release value2 n);
    }

pub check : (m n : ℕ) → SameStmt (s.Check m) (s.Check n)
check m n =
    record {
      bare = forms.bare_stmt-Check m
          ∙ sym (forms.bare_stmt-Check n);
    }

pub returned : {value value2 : Option Expr} (m n : ℕ) → SameOption bare_expr value value2 → SameStmt (s.Return value m) (s.Return value2 n)
returned {value = value} {value2 = value2} m n value-same =
    record {
      bare = forms.bare_stmt-Return value m
          ∙ ap (λ (x : Option Expr). s.Return x 0) value-same.bare
          ∙ sym (forms.bare_stmt-Return value2 n);
    }

pub break : (m n : ℕ) → SameStmt (s.Break m) (s.Break n)
break m n =
    record {
      bare = forms.bare_stmt-Break m
          ∙ sym (forms.bare_stmt-Break n);
    }

pub continue : (m n : ℕ) → SameStmt (s.Continue m) (s.Continue n)
continue m n =
    record {
      bare = forms.bare_stmt-Continue m
          ∙ sym (forms.bare_stmt-Continue n);
    }

pub branch : {test test2 : Expr} {body body2 : Stmt} {other other2 : Option Stmt} (m n : ℕ) → SameExpr test test2 → SameStmt body body2 → SameOption bare_stmt other other2 → SameStmt (s.If test body other m) (s.If test2 body2 other2 n)
branch {test = test} {test2 = test2} {body = body} {body2 = body2} {other = other} {other2 = other2} m n test-same body-same other-same =
    record {
      bare = forms.bare_stmt-If test body other m
          ∙ ap (λ (x : Expr). s.If x (bare_stmt body) (option_map bare_stmt other) 0) test-same.bare
          ∙ ap (λ (x : Stmt). s.If (bare_expr test2) x (option_map bare_stmt other) 0) body-same.bare
          ∙ ap (λ (x : Option Stmt). s.If (bare_expr test2) (bare_stmt body2) x 0) other-same.bare
          ∙ sym (forms.bare_stmt-If test2 body2 other2 n);
    }

pub while : {test test2 : Expr} {body body2 : Stmt} (m n : ℕ) → SameExpr test test2 → SameStmt body body2 → SameStmt (s.While test body m) (s.While test2 body2 n)
while {test = test} {test2 = test2} {body = body} {body2 = body2} m n test-same body-same =
    record {
      bare = forms.bare_stmt-While test body m
          ∙ ap (λ (x : Expr). s.While x (bare_stmt body) 0) test-same.bare
          ∙ ap (λ (x : Stmt). s.While (bare_expr test2) x 0) body-same.bare
          ∙ sym (forms.bare_stmt-While test2 body2 n);
    }

pub for : {first first2 : Option Stmt} {test test2 : Option Expr} {step step2 : Option Stmt} {body body2 : Stmt} (m n : ℕ) → SameOption bare_stmt first first2 → SameOption bare_expr test test2 → SameOption bare_stmt step step2 → SameStmt body body2 → SameStmt (s.For first test step body m) (s.For first2 test2 step2 body2 n)
for {first = first} {first2 = first2} {test = test} {test2 = test2} {step = step} {step2 = step2} {body = body} {body2 = body2} m n first-same test-same step-same body-same =
    record {
      bare = forms.bare_stmt-For first test step body m
          ∙ ap (λ (x : Option Stmt). s.For x (option_map bare_expr test) (option_map bare_stmt step) (bare_stmt body) 0) first-same.bare
          ∙ ap (λ (x : Option Expr). s.For (option_map bare_stmt first2) x (option_map bare_stmt step) (bare_stmt body) 0) test-same.bare
          ∙ ap (λ (x : Option Stmt). s.For (option_map bare_stmt first2) (option_map bare_expr test2) x (bare_stmt body) 0) step-same.bare
          ∙ ap (λ (x : Stmt). s.For (option_map bare_stmt first2) (option_map bare_expr test2) (option_map bare_stmt step2) x 0) body-same.bare
          ∙ sym (forms.bare_stmt-For first2 test2 step2 body2 n);
    }

pub function : {params params2 : List Parameter} {body body2 : List Stmt} (is_private : Bool) (result : Kind3) (text : List ℕ) (m n : ℕ)
    → SameList bare_parameter params params2 → SameList bare_stmt body body2 → SameItem (i.Function is_private result text params body m) (i.Function is_private result text params2 body2 n)
function {params2 = params2} {body = body} is_private result text m n params-same body-same =
    record {
      bare = ap (λ (x : List Parameter). i.Function is_private result text x (map bare_stmt body) 0) params-same.bare
          ∙ ap (λ (x : List Stmt). i.Function is_private result text (map bare_parameter params2) x 0) body-same.bare;
    }
