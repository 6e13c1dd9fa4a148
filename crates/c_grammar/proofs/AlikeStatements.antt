-- Tokens alike to those of a statement are a statement that is the same without token numbers.
use Rattle.std.proofs.Common.{◌≤◌, ℕ, Bool, true, false, List, [], ◌∷◌, ◌++◌, Option, Some, None, arith}
use Rattle.c_token.specs.declared.signs.Sign.TheVariants.{LeftParenthesis, RightParenthesis, LeftBrace, RightBrace, LeftBracket, RightBracket, Semicolon, Assign}
use Rattle.c_token.specs.declared.words.Word.TheVariants as w
use Rattle.c_grammar.specs.declared.expr.Expr.{Expr}
use Rattle.c_grammar.specs.declared.stmt.Stmt.{Stmt}
use Rattle.c_grammar.specs.declared.stmt.Stmt.TheVariants as s
use Rattle.c_grammar.specs.BoundedTokens.{Spot, Bounded, name, word, sign}
use Rattle.c_grammar.specs.StatementGrammar.{IsType, Local, Simple, First, Step, Maybe, Statement, Body}
use Rattle.c_grammar.specs.Bare.{bare_expr, bare_stmt}
use Rattle.c_grammar.proofs.BareParts as same
use Rattle.c_grammar.proofs.BareParts.{SameList, SameOption, SameStmt}
use Rattle.c_grammar.proofs.Alike.{AllAlike, at_token, at_end, at_parts}
use Rattle.c_grammar.proofs.AlikeExpressions.{same_expression, same_arguments}

-- a part of these tokens that differs in token numbers alone
abbrev pub SameType : Spot → Bool → List Bounded → Type 0
SameType first is_unsigned us = (t : Spot) × (IsType t us is_unsigned × (first.bound ≤ t.bound))

abbrev pub SameLocal : ℕ → Stmt → List Bounded → Type 0
SameLocal l x us = (y : Stmt) × (Local l us y × SameStmt x y)

abbrev pub SameSimple : ℕ → Stmt → List Bounded → Type 0
SameSimple l x us = (y : Stmt) × (Simple l us y × SameStmt x y)

abbrev pub SameFirst : ℕ → Option Stmt → List Bounded → Type 0
SameFirst l x us = (y : Option Stmt) × (First l us y × SameOption bare_stmt x y)

abbrev pub SameStep : ℕ → Option Stmt → List Bounded → Type 0
SameStep l x us = (y : Option Stmt) × (Step l us y × SameOption bare_stmt x y)

abbrev pub SameMaybe : ℕ → Option Expr → List Bounded → Type 0
SameMaybe l x us = (y : Option Expr) × (Maybe l us y × SameOption bare_expr x y)

abbrev pub SameStatement : ℕ → Stmt → Bool → List Bounded → Type 0
SameStatement l x takes us = (y : Stmt) × (Statement l us y takes × SameStmt x y)

abbrev pub SameBody : ℕ → List Stmt → List Bounded → Type 0
SameBody l xs us = (ys : List Stmt) × (Body l us ys × SameList bare_stmt xs ys)

pub same_type : {first : Spot} {ts : List Bounded} {is_unsigned : Bool} → IsType first ts is_unsigned → (us : List Bounded) → AllAlike ts us → SameType first is_unsigned us
same_type (IsType.int at) us alike = at_token (SameType at false) alike (λ t le vs p. at_end (λ vs. SameType at false (word t w.Int ∷ vs)) p (t, (IsType.int t, le)))
same_type (IsType.unsigned at) us alike = at_token (SameType at true) alike (λ t le vs p. at_end (λ vs. SameType at true (word t w.Unsigned ∷ vs)) p (t, (IsType.unsigned t, le)))
same_type (IsType.unsigned_int at second) us alike =
    at_token (SameType at true) alike (λ t le vs p.
    at_token (λ vs. SameType at true (word t w.Unsigned ∷ vs)) p (λ u _ vs p.
    at_end (λ vs. SameType at true (word t w.Unsigned ∷ word u w.Int ∷ vs)) p (t, (IsType.unsigned_int t u, le))))

pub same_local : {l : ℕ} {ts : List Bounded} {x : Stmt} → Local l ts x → (us : List Bounded) → AllAlike ts us → SameLocal l x us
same_local (Local.plain {l = l} {ts = ts} {is_unsigned = is_unsigned} first at text bound d) us alike =
    let x = s.Local is_unsigned text None at.place in
    at_parts (SameLocal l x) ts (name at text ∷ []) alike (λ vs p ws q.
    let r = same_type d vs p in
    at_token (λ ws. SameLocal l x (vs ++ ws)) q (λ t _ ws q.
    at_end (λ ws. SameLocal l x (vs ++ name t text ∷ ws)) q
    (s.Local is_unsigned text None t.place, (Local.plain r.0 t text (omega (arith, r.1.1)) r.1.0, same.local is_unsigned text at.place t.place same.missing))))
same_local (Local.valued {l = l} {ts = ts} {us = us} {is_unsigned = is_unsigned} {x = x} first at equals text bound d d2) zs alike =
    let whole = s.Local is_unsigned text (Some x) at.place in
    at_parts (SameLocal l whole) ts (name at text ∷ sign equals Assign ∷ us) alike (λ vs p ws q.
    let r = same_type d vs p in
    at_token (λ ws. SameLocal l whole (vs ++ ws)) q (λ t _ ws q.
    at_token (λ ws. SameLocal l whole (vs ++ name t text ∷ ws)) q (λ u _ ws q.
    let r2 = same_expression d2 ws q in (
      s.Local is_unsigned text (Some r2.0) t.place,
      (Local.valued r.0 t u text (omega (arith, r.1.1)) r.1.0 r2.1.0, same.local is_unsigned text at.place t.place (same.given r2.1.1)),
    ))))

pub same_simple : {l : ℕ} {ts : List Bounded} {x : Stmt} → Simple l ts x → (us : List Bounded) → AllAlike ts us → SameSimple l x us
same_simple (Simple.assign {l = l} {x = x} text at equals bound d) us alike =
    let whole = s.Assign text None x at.place in
    at_token (SameSimple l whole) alike (λ t le vs p.
    at_token (λ vs. SameSimple l whole (name t text ∷ vs)) p (λ u _ vs p.
    let r = same_expression d vs p in
    (s.Assign text None r.0 t.place, (Simple.assign text t u (omega arith) r.1.0, same.assign text at.place t.place same.missing r.1.1))))
same_simple (Simple.assign_at {l = l} {ts = ts} {us = us} {x = x} {y = y} text at left right equals bound deeper d d2) zs alike =
    let whole = s.Assign text (Some x) y at.place in
    at_token (SameSimple l whole) alike (λ t le vs p.
    at_token (λ vs. SameSimple l whole (name t text ∷ vs)) p (λ u le2 vs p.
    at_parts (λ vs. SameSimple l whole (name t text ∷ sign u LeftBracket ∷ vs)) ts (sign right RightBracket ∷ sign equals Assign ∷ us) p (λ vs p ws q.
    let r = same_expression d vs p in
    at_token (λ ws. SameSimple l whole (name t text ∷ sign u LeftBracket ∷ (vs ++ ws))) q (λ c _ ws q.
    at_token (λ ws. SameSimple l whole (name t text ∷ sign u LeftBracket ∷ (vs ++ sign c RightBracket ∷ ws))) q (λ f _ ws q.
    let r2 = same_expression d2 ws q in (
      s.Assign text (Some r.0) r2.0 t.place,
      (Simple.assign_at text t u c f (omega arith) (omega arith) r.1.0 r2.1.0, same.assign text at.place t.place (same.given r.1.1) r2.1.1),
    ))))))
same_simple (Simple.call {l = l} {xs = xs} text at bound d) us alike =
    at_token (SameSimple l (s.Call text xs at.place)) alike (λ t le vs p.
    let r = same_arguments d vs p in
    (s.Call text r.0 t.place, (Simple.call text t (omega arith) r.1.0, same.call text at.place t.place r.1.1)))
same_simple (Simple.release {l = l} {ts = ts} {x = x} at left right bound d) us alike =
    let whole = s.Release x at.place in
    at_token (SameSimple l whole) alike (λ t le vs p.
    at_token (λ vs. SameSimple l whole (word t w.Release ∷ vs)) p (λ u _ vs p.
    at_parts (λ vs. SameSimple l whole (word t w.Release ∷ sign u LeftParenthesis ∷ vs)) ts (sign right RightParenthesis ∷ []) p (λ vs p ws q.
    let r = same_expression d vs p in
    at_token (λ ws. SameSimple l whole (word t w.Release ∷ sign u LeftParenthesis ∷ (vs ++ ws))) q (λ c _ ws q.
    at_end (λ ws. SameSimple l whole (word t w.Release ∷ sign u LeftParenthesis ∷ (vs ++ sign c RightParenthesis ∷ ws))) q
    (s.Release r.0 t.place, (Simple.release t u c (omega arith) r.1.0, same.release at.place t.place r.1.1))))))
same_simple (Simple.check {l = l} at left right bound) us alike =
    let whole = s.Check at.place in
    at_token (SameSimple l whole) alike (λ t le vs p.
    at_token (λ vs. SameSimple l whole (word t w.Check ∷ vs)) p (λ u _ vs p.
    at_token (λ vs. SameSimple l whole (word t w.Check ∷ sign u LeftParenthesis ∷ vs)) p (λ c _ vs p.
    at_end (λ vs. SameSimple l whole (word t w.Check ∷ sign u LeftParenthesis ∷ sign c RightParenthesis ∷ vs)) p
    (s.Check t.place, (Simple.check t u c (omega arith), same.check at.place t.place)))))

pub same_first : {l : ℕ} {ts : List Bounded} {x : Option Stmt} → First l ts x → (us : List Bounded) → AllAlike ts us → SameFirst l x us
same_first (First.nothing {l = l}) us alike = at_end (SameFirst l None) alike (None, (First.nothing, same.missing))
same_first (First.local d) us alike = let r = same_local d us alike in (Some r.0, (First.local r.1.0, same.given r.1.1))
same_first (First.simple d) us alike = let r = same_simple d us alike in (Some r.0, (First.simple r.1.0, same.given r.1.1))

pub same_step : {l : ℕ} {ts : List Bounded} {x : Option Stmt} → Step l ts x → (us : List Bounded) → AllAlike ts us → SameStep l x us
same_step (Step.nothing {l = l}) us alike = at_end (SameStep l None) alike (None, (Step.nothing, same.missing))
same_step (Step.simple d) us alike = let r = same_simple d us alike in (Some r.0, (Step.simple r.1.0, same.given r.1.1))

pub same_maybe : {l : ℕ} {ts : List Bounded} {x : Option Expr} → Maybe l ts x → (us : List Bounded) → AllAlike ts us → SameMaybe l x us
same_maybe (Maybe.nothing {l = l}) us alike = at_end (SameMaybe l None) alike (None, (Maybe.nothing, same.missing))
same_maybe (Maybe.given d) us alike = let r = same_expression d us alike in (Some r.0, (Maybe.given r.1.0, same.given r.1.1))

mutual
  pub same_statement : {l : ℕ} {ts : List Bounded} {x : Stmt} {takes : Bool} → Statement l ts x takes → (us : List Bounded) → AllAlike ts us → SameStatement l x takes us
  same_statement (Statement.block {l = l} {ts = ts} {xs = xs} left right bound d) us alike =
      let whole = s.Block xs left.place in
      at_token (SameStatement l whole false) alike (λ t le vs p.
      at_parts (λ vs. SameStatement l whole false (sign t LeftBrace ∷ vs)) ts (sign right RightBrace ∷ []) p (λ vs p ws q.
      let r = same_body d vs p in
      at_token (λ ws. SameStatement l whole false (sign t LeftBrace ∷ (vs ++ ws))) q (λ u _ ws q.
      at_end (λ ws. SameStatement l whole false (sign t LeftBrace ∷ (vs ++ sign u RightBrace ∷ ws))) q
      (s.Block r.0 t.place, (Statement.block t u (omega arith) r.1.0, same.block left.place t.place r.1.1)))))
  same_statement (Statement.empty {l = l} at bound) us alike =
      at_token (SameStatement l (s.Empty at.place) false) alike (λ t le vs p.
      at_end (λ vs. SameStatement l (s.Empty at.place) false (sign t Semicolon ∷ vs)) p
      (s.Empty t.place, (Statement.empty t (omega arith), same.empty at.place t.place)))
  same_statement (Statement.simple {l = l} {ts = ts} {x = x} end d) us alike =
      at_parts (SameStatement l x false) ts (sign end Semicolon ∷ []) alike (λ vs p ws q.
      let r = same_simple d vs p in
      at_token (λ ws. SameStatement l x false (vs ++ ws)) q (λ t _ ws q.
      at_end (λ ws. SameStatement l x false (vs ++ sign t Semicolon ∷ ws)) q
      (r.0, (Statement.simple t r.1.0, r.1.1))))
  same_statement (Statement.«return» {l = l} {ts = ts} {value = value} at end bound d) us alike =
      let whole = s.Return value at.place in
      at_token (SameStatement l whole false) alike (λ t le vs p.
      at_parts (λ vs. SameStatement l whole false (word t w.Return ∷ vs)) ts (sign end Semicolon ∷ []) p (λ vs p ws q.
      let r = same_maybe d vs p in
      at_token (λ ws. SameStatement l whole false (word t w.Return ∷ (vs ++ ws))) q (λ u _ ws q.
      at_end (λ ws. SameStatement l whole false (word t w.Return ∷ (vs ++ sign u Semicolon ∷ ws))) q
      (s.Return r.0 t.place, (Statement.«return» t u (omega arith) r.1.0, same.returned at.place t.place r.1.1)))))
  same_statement (Statement.break {l = l} at end bound) us alike =
      at_token (SameStatement l (s.Break at.place) false) alike (λ t le vs p.
      at_token (λ vs. SameStatement l (s.Break at.place) false (word t w.Break ∷ vs)) p (λ u _ vs p.
      at_end (λ vs. SameStatement l (s.Break at.place) false (word t w.Break ∷ sign u Semicolon ∷ vs)) p
      (s.Break t.place, (Statement.break t u (omega arith), same.break at.place t.place))))
  same_statement (Statement.continue {l = l} at end bound) us alike =
      at_token (SameStatement l (s.Continue at.place) false) alike (λ t le vs p.
      at_token (λ vs. SameStatement l (s.Continue at.place) false (word t w.Continue ∷ vs)) p (λ u _ vs p.
      at_end (λ vs. SameStatement l (s.Continue at.place) false (word t w.Continue ∷ sign u Semicolon ∷ vs)) p
      (s.Continue t.place, (Statement.continue t u (omega arith), same.continue at.place t.place))))
  same_statement (Statement.if {l = l} {ts = ts} {us = us} {test = test} {body = body} at left right bound d d2) zs alike =
      let whole = s.If test body None at.place in
      at_token (SameStatement l whole true) alike (λ t le vs p.
      at_token (λ vs. SameStatement l whole true (word t w.If ∷ vs)) p (λ u _ vs p.
      at_parts (λ vs. SameStatement l whole true (word t w.If ∷ sign u LeftParenthesis ∷ vs)) ts (sign right RightParenthesis ∷ us) p (λ vs p ws q.
      let r = same_expression d vs p in
      at_token (λ ws. SameStatement l whole true (word t w.If ∷ sign u LeftParenthesis ∷ (vs ++ ws))) q (λ c _ ws q.
      let r2 = same_statement d2 ws q in
      (s.If r.0 r2.0 None t.place, (Statement.if t u c (omega arith) r.1.0 r2.1.0, same.branch at.place t.place r.1.1 r2.1.1 same.missing))))))
  same_statement (Statement.if_else {l = l} {ts = ts} {us = us} {vs = ys} {test = test} {body = body} {other = other} {takes = takes} at left right else bound d d2 d3) zs alike =
      let whole = s.If test body (Some other) at.place in
      at_token (SameStatement l whole takes) alike (λ t le vs p.
      at_token (λ vs. SameStatement l whole takes (word t w.If ∷ vs)) p (λ u _ vs p.
      at_parts (λ vs. SameStatement l whole takes (word t w.If ∷ sign u LeftParenthesis ∷ vs)) ts (sign right RightParenthesis ∷ (us ++ word else w.Else ∷ ys)) p (λ vs p ws q.
      let r = same_expression d vs p in
      at_token (λ ws. SameStatement l whole takes (word t w.If ∷ sign u LeftParenthesis ∷ (vs ++ ws))) q (λ c _ ws q.
      at_parts (λ ws. SameStatement l whole takes (word t w.If ∷ sign u LeftParenthesis ∷ (vs ++ sign c RightParenthesis ∷ ws))) us (word else w.Else ∷ ys) q (λ ws q zs z.
      let r2 = same_statement d2 ws q in
      at_token (λ zs. SameStatement l whole takes (word t w.If ∷ sign u LeftParenthesis ∷ (vs ++ sign c RightParenthesis ∷ (ws ++ zs)))) z (λ f _ zs z.
      let r3 = same_statement d3 zs z in
      (s.If r.0 r2.0 (Some r3.0) t.place, (Statement.if_else t u c f (omega arith) r.1.0 r2.1.0 r3.1.0, same.branch at.place t.place r.1.1 r2.1.1 (same.given r3.1.1)))))))))
  same_statement (Statement.while {l = l} {ts = ts} {us = us} {test = test} {body = body} {takes = takes} at left right bound d d2) zs alike =
      let whole = s.While test body at.place in
      at_token (SameStatement l whole takes) alike (λ t le vs p.
      at_token (λ vs. SameStatement l whole takes (word t w.While ∷ vs)) p (λ u _ vs p.
      at_parts (λ vs. SameStatement l whole takes (word t w.While ∷ sign u LeftParenthesis ∷ vs)) ts (sign right RightParenthesis ∷ us) p (λ vs p ws q.
      let r = same_expression d vs p in
      at_token (λ ws. SameStatement l whole takes (word t w.While ∷ sign u LeftParenthesis ∷ (vs ++ ws))) q (λ c _ ws q.
      let r2 = same_statement d2 ws q in
      (s.While r.0 r2.0 t.place, (Statement.while t u c (omega arith) r.1.0 r2.1.0, same.while at.place t.place r.1.1 r2.1.1))))))
  same_statement (Statement.for {l = l} {ts = ts} {us = us} {vs = ys} {ws = bs} {first = first} {step = step} {test = test} {body = body} {takes = takes} at left second third right bound d d2 d3 d4) zs alike =
      let whole = s.For first test step body at.place in
      at_token (SameStatement l whole takes) alike (λ t le vs p.
      at_token (λ vs. SameStatement l whole takes (word t w.For ∷ vs)) p (λ u _ vs p.
      at_parts (λ vs. SameStatement l whole takes (word t w.For ∷ sign u LeftParenthesis ∷ vs)) ts (sign second Semicolon ∷ (us ++ (sign third Semicolon ∷ (ys ++ sign right RightParenthesis ∷ bs)))) p (λ vs p ws q.
      let r = same_first d vs p in
      at_token (λ ws. SameStatement l whole takes (word t w.For ∷ sign u LeftParenthesis ∷ (vs ++ ws))) q (λ c _ ws q.
      at_parts (λ ws. SameStatement l whole takes (word t w.For ∷ sign u LeftParenthesis ∷ (vs ++ sign c Semicolon ∷ ws))) us (sign third Semicolon ∷ (ys ++ sign right RightParenthesis ∷ bs)) q (λ ws q zs z.
      let r2 = same_maybe d2 ws q in
      at_token (λ zs. SameStatement l whole takes (word t w.For ∷ sign u LeftParenthesis ∷ (vs ++ sign c Semicolon ∷ (ws ++ zs)))) z (λ f _ zs z.
      at_parts (λ zs. SameStatement l whole takes (word t w.For ∷ sign u LeftParenthesis ∷ (vs ++ sign c Semicolon ∷ (ws ++ sign f Semicolon ∷ zs)))) ys (sign right RightParenthesis ∷ bs) z (λ xs x ms m.
      let r3 = same_step d3 xs x in
      at_token (λ ms. SameStatement l whole takes (word t w.For ∷ sign u LeftParenthesis ∷ (vs ++ sign c Semicolon ∷ (ws ++ sign f Semicolon ∷ (xs ++ ms))))) m (λ g _ ms m.
      let r4 = same_statement d4 ms m in (
        s.For r.0 r2.0 r3.0 r4.0 t.place,
        (Statement.for t u c f g (omega arith) r.1.0 r2.1.0 r3.1.0 r4.1.0, same.for at.place t.place r.1.1 r2.1.1 r3.1.1 r4.1.1),
      )))))))))

  pub same_body : {l : ℕ} {ts : List Bounded} {xs : List Stmt} → Body l ts xs → (us : List Bounded) → AllAlike ts us → SameBody l xs us
  same_body (Body.nothing {l = l}) us alike = at_end (SameBody l []) alike ([], (Body.nothing, same.none_left))
  same_body (Body.local {l = l} {ts = ts} {us = us} {x = x} {xs = xs} end d d2) zs alike =
      at_parts (SameBody l (x ∷ xs)) ts (sign end Semicolon ∷ us) alike (λ vs p ws q.
      let r = same_local d vs p in
      at_token (λ ws. SameBody l (x ∷ xs) (vs ++ ws)) q (λ t _ ws q.
      let r2 = same_body d2 ws q in
      (r.0 ∷ r2.0, (Body.local t r.1.0 r2.1.0, same.one_more r.1.1 r2.1.1))))
  same_body (Body.statement {l = l} {ts = ts} {us = us} {x = x} {xs = xs} d d2) zs alike =
      at_parts (SameBody l (x ∷ xs)) ts us alike (λ vs p ws q.
      let r = same_statement d vs p in
      let r2 = same_body d2 ws q in
      (r.0 ∷ r2.0, (Body.statement r.1.0 r2.1.0, same.one_more r.1.1 r2.1.1)))
