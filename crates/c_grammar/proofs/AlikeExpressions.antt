-- Tokens alike to those of an expression are an expression that is the same without token numbers.
use Rattle.std.proofs.Common.{◌≡◌, ◌<◌, ℕ, suc, Bool, true, List, [], ◌∷◌, ◌++◌, arith}
use Rattle.c_token.specs.declared.signs.Sign.{Sign}
use Rattle.c_token.specs.declared.signs.Sign.TheVariants.{LeftParenthesis, RightParenthesis, LeftBracket, RightBracket, Comma}
use Rattle.c_token.specs.declared.words.Word.TheVariants.{Input}
use Rattle.c_grammar.specs.declared.expr.Expr.{Expr}
use Rattle.c_grammar.specs.declared.expr.Expr.TheVariants as e
use Rattle.c_grammar.specs.BoundedTokens.{Spot, Bounded, name, number, word, sign}
use Rattle.c_grammar.specs.Precedence.{precedence, is_unary_operator}
use Rattle.c_grammar.specs.ExpressionGrammar.{Expression, Binary, Unary, Primary, Arguments, Listed, whole, alone, tighter, both, primary, operation, literal, variable, element, call, input, parenthesised, nothing, some, one, further}
use Rattle.c_grammar.specs.Bare.{bare_expr}
use Rattle.c_grammar.proofs.BareParts as same
use Rattle.c_grammar.proofs.BareParts.{SameExpr, SameList}
use Rattle.c_grammar.proofs.Alike.{alike, AllAlike, none_left, one_more, Splits, parts, split}

-- an expression of these tokens that differs in token numbers alone
abbrev pub SameExpression : ℕ → Expr → List Bounded → Type 0
SameExpression l x us = (y : Expr) × (Expression l us y × SameExpr x y)

abbrev pub SameBinary : ℕ → ℕ → ℕ → Expr → ℕ → List Bounded → Type 0
SameBinary l level before x used us = (y : Expr) × (Binary l level before us y used × SameExpr x y)

abbrev pub SameUnary : ℕ → Expr → List Bounded → Type 0
SameUnary l x us = (y : Expr) × (Unary l us y × SameExpr x y)

abbrev pub SamePrimary : ℕ → Expr → List Bounded → Type 0
SamePrimary l x us = (y : Expr) × (Primary l us y × SameExpr x y)

abbrev pub SameArguments : ℕ → List Expr → List Bounded → Type 0
SameArguments l xs us = (ys : List Expr) × (Arguments l us ys × SameList bare_expr xs ys)

abbrev pub SameListed : ℕ → List Expr → List Bounded → Type 0
SameListed l xs us = (ys : List Expr) × (Listed l us ys × SameList bare_expr xs ys)

-- one step of each production
both_step : {l level before between used : ℕ} {ts us vs : List Bounded} {x y : Expr} (op : Sign) (at : Spot)
    → ((vs : List Bounded) → AllAlike ts vs → SameBinary l (suc level) before x between vs) → precedence op ≡ suc level → between < at.bound
    → ((vs : List Bounded) → AllAlike us vs → SameBinary l level (suc between) y used vs)
    → Splits ts (sign at op ∷ us) vs → SameBinary l (suc level) before (e.Binary op x y at.place) used vs
both_step op at left is bound right (parts p (one_more (alike s t _ le) q)) =
    let r = left _ p in
    let r2 = right _ q in
    (e.Binary op r.0 r2.0 t.place, (both op t r.1.0 is (omega arith) r2.1.0, same.binary op s.place t.place r.1.1 r2.1.1))

operation_step : {l : ℕ} {ts vs : List Bounded} {x : Expr} (op : Sign) (at : Spot) → is_unary_operator op ≡ true → l < at.bound
    → ((vs : List Bounded) → AllAlike ts vs → SameUnary (suc l) x vs) → AllAlike (sign at op ∷ ts) vs → SameUnary l (e.Unary op x at.place) vs
operation_step op at is bound inner (one_more (alike s t _ le) p) =
    let r = inner _ p in
    (e.Unary op r.0 t.place, (operation op t is (omega arith) r.1.0, same.unary op s.place t.place r.1.1))

literal_step : {l : ℕ} {vs : List Bounded} (value : ℕ) (unsigned : Bool) (at : Spot) → AllAlike (number at value unsigned ∷ []) vs
    → SamePrimary l (e.Number value unsigned at.place) vs
literal_step value unsigned at (one_more (alike s t _ le) none_left) =
    (e.Number value unsigned t.place, (literal value unsigned t, same.number value unsigned s.place t.place))

variable_step : {l : ℕ} {vs : List Bounded} (text : List ℕ) (at : Spot) → AllAlike (name at text ∷ []) vs → SamePrimary l (e.Name text at.place) vs
variable_step text at (one_more (alike s t _ le) none_left) = (e.Name text t.place, (variable text t, same.name text s.place t.place))

element_step : {l : ℕ} {ts vs : List Bounded} {x : Expr} (text : List ℕ) (at left right : Spot) → l < left.bound
    → ((vs : List Bounded) → AllAlike ts vs → SameExpression (suc l) x vs)
    → AllAlike (name at text ∷ sign left LeftBracket ∷ (ts ++ sign right RightBracket ∷ [])) vs → SamePrimary l (e.Index text x left.place) vs
element_step {l} {ts} {vs} {x} text at left right bound inner (one_more (alike s t _ le) (one_more (alike m n _ less) p)) =
    closed t m n (omega arith) (split ts (sign right RightBracket ∷ []) p)
  where
    closed : {ws : List Bounded} (t m n : Spot) → l < n.bound → Splits ts (sign right RightBracket ∷ []) ws
        → SamePrimary l (e.Index text x m.place) (name t text ∷ sign n LeftBracket ∷ ws)
    closed t m n bound (parts p (one_more (alike c d _ le) none_left)) =
        let r = inner _ p in
        (e.Index text r.0 n.place, (element text t n d bound r.1.0, same.element text m.place n.place r.1.1))

call_step : {l : ℕ} {ts vs : List Bounded} {xs : List Expr} (text : List ℕ) (at : Spot) → ((vs : List Bounded) → AllAlike ts vs → SameArguments l xs vs)
    → AllAlike (name at text ∷ ts) vs → SamePrimary l (e.Call text xs at.place) vs
call_step text at inner (one_more (alike s t _ le) p) =
    let r = inner _ p in
    (e.Call text r.0 t.place, (call text t r.1.0, same.calling text s.place t.place r.1.1))

input_step : {l : ℕ} {vs : List Bounded} (at left right : Spot) → AllAlike (word at Input ∷ sign left LeftParenthesis ∷ sign right RightParenthesis ∷ []) vs
    → SamePrimary l (e.Input at.place) vs
input_step at left right (one_more (alike s t _ le) (one_more (alike a b _ less) (one_more (alike c d _ lesser) none_left))) =
    (e.Input t.place, (input t b d, same.input s.place t.place))

parenthesised_step : {l : ℕ} {ts vs : List Bounded} {x : Expr} (left right : Spot) → l < left.bound → ((vs : List Bounded) → AllAlike ts vs → SameExpression (suc l) x vs)
    → AllAlike (sign left LeftParenthesis ∷ (ts ++ sign right RightParenthesis ∷ [])) vs → SamePrimary l (e.Paren x left.place) vs
parenthesised_step {l} {ts} {vs} {x} left right bound inner (one_more (alike m n _ less) p) =
    closed m n (omega arith) (split ts (sign right RightParenthesis ∷ []) p)
  where
    closed : {ws : List Bounded} (m n : Spot) → l < n.bound → Splits ts (sign right RightParenthesis ∷ []) ws → SamePrimary l (e.Paren x m.place) (sign n LeftParenthesis ∷ ws)
    closed m n bound (parts p (one_more (alike c d _ le) none_left)) =
        let r = inner _ p in
        (e.Paren r.0 n.place, (parenthesised n d bound r.1.0, same.paren m.place n.place r.1.1))

nothing_step : {l : ℕ} {vs : List Bounded} (left right : Spot) → l < left.bound → AllAlike (sign left LeftParenthesis ∷ sign right RightParenthesis ∷ []) vs
    → SameArguments l [] vs
nothing_step left right bound (one_more (alike m n _ less) (one_more (alike c d _ le) none_left)) = ([], (nothing n d (omega arith), same.none_left))

some_step : {l : ℕ} {ts vs : List Bounded} {xs : List Expr} (left right : Spot) → l < left.bound → ((vs : List Bounded) → AllAlike ts vs → SameListed (suc l) xs vs)
    → AllAlike (sign left LeftParenthesis ∷ (ts ++ sign right RightParenthesis ∷ [])) vs → SameArguments l xs vs
some_step {l} {ts} {vs} {xs} left right bound inner (one_more (alike m n _ less) p) = closed n (omega arith) (split ts (sign right RightParenthesis ∷ []) p)
  where
    closed : {ws : List Bounded} (n : Spot) → l < n.bound → Splits ts (sign right RightParenthesis ∷ []) ws → SameArguments l xs (sign n LeftParenthesis ∷ ws)
    closed n bound (parts p (one_more (alike c d _ le) none_left)) =
        let r = inner _ p in
        (r.0, (some n d bound r.1.0, r.1.1))

further_step : {l : ℕ} {ts us vs : List Bounded} {x : Expr} {xs : List Expr} (comma : Spot) → ((vs : List Bounded) → AllAlike ts vs → SameExpression l x vs)
    → ((vs : List Bounded) → AllAlike us vs → SameListed l xs vs) → Splits ts (sign comma Comma ∷ us) vs → SameListed l (x ∷ xs) vs
further_step comma first rest (parts p (one_more (alike c d _ le) q)) =
    let r = first _ p in
    let r2 = rest _ q in
    (r.0 ∷ r2.0, (further d r.1.0 r2.1.0, same.one_more r.1.1 r2.1.1))

mutual
  pub same_expression : {l : ℕ} {ts : List Bounded} {x : Expr} → Expression l ts x → (vs : List Bounded) → AllAlike ts vs → SameExpression l x vs
  same_expression (whole d) vs kin = let r = same_binary d vs kin in (r.0, (whole r.1.0, r.1.1))

  same_binary : {l level before used : ℕ} {ts : List Bounded} {x : Expr} → Binary l level before ts x used → (vs : List Bounded) → AllAlike ts vs
      → SameBinary l level before x used vs
  same_binary (alone d) vs kin = let r = same_unary d vs kin in (r.0, (alone r.1.0, r.1.1))
  same_binary (tighter d) vs kin = let r = same_binary d vs kin in (r.0, (tighter r.1.0, r.1.1))
  same_binary (both {ts = ts} {us = us} op at d is bound d2) vs kin =
      both_step op at (λ ws p. same_binary d ws p) is bound (λ ws p. same_binary d2 ws p) (split ts (sign at op ∷ us) kin)

  same_unary : {l : ℕ} {ts : List Bounded} {x : Expr} → Unary l ts x → (vs : List Bounded) → AllAlike ts vs → SameUnary l x vs
  same_unary (primary d) vs kin = let r = same_primary d vs kin in (r.0, (primary r.1.0, r.1.1))
  same_unary (operation op at is bound d) vs kin = operation_step op at is bound (λ ws p. same_unary d ws p) kin

  same_primary : {l : ℕ} {ts : List Bounded} {x : Expr} → Primary l ts x → (vs : List Bounded) → AllAlike ts vs → SamePrimary l x vs
  same_primary (literal value unsigned at) vs kin = literal_step value unsigned at kin
  same_primary (variable text at) vs kin = variable_step text at kin
  same_primary (element text at left right bound d) vs kin = element_step text at left right bound (λ ws p. same_expression d ws p) kin
  same_primary (call text at d) vs kin = call_step text at (λ ws p. same_arguments d ws p) kin
  same_primary (input at left right) vs kin = input_step at left right kin
  same_primary (parenthesised left right bound d) vs kin = parenthesised_step left right bound (λ ws p. same_expression d ws p) kin

  pub same_arguments : {l : ℕ} {ts : List Bounded} {xs : List Expr} → Arguments l ts xs → (vs : List Bounded) → AllAlike ts vs → SameArguments l xs vs
  same_arguments (nothing left right bound) vs kin = nothing_step left right bound kin
  same_arguments (some left right bound d) vs kin = some_step left right bound (λ ws p. same_listed d ws p) kin

  same_listed : {l : ℕ} {ts : List Bounded} {xs : List Expr} → Listed l ts xs → (vs : List Bounded) → AllAlike ts vs → SameListed l xs vs
  same_listed (one d) vs kin = let r = same_expression d vs kin in (r.0 ∷ [], (one r.1.0, same.one_more r.1.1 same.none_left))
  same_listed (further {ts = ts} {us = us} comma d d2) vs kin =
      further_step comma (λ ws p. same_expression d ws p) (λ ws p. same_listed d2 ws p) (split ts (sign comma Comma ∷ us) kin)
