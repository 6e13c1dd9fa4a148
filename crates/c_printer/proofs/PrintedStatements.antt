-- A statement is read again from its printed tokens, which stand where it was read from.
use Rattle.std.proofs.Common.{◌≡◌, ℕ, Bool, List, [], ◌∷◌, ◌++◌, Option, Some, None, refl, sym, ap, ◌∙◌, append_assoc}
use Rattle.std.specs.Prelude.{map, option_map}
use Rattle.std.proofs.lemmas.List.{append-nil}
use Rattle.c_token.specs.declared.Kind.TheVariants as kinds
use Rattle.c_token.specs.declared.Word.TheVariants as words
use Rattle.c_token.specs.declared.Sign.TheVariants as signs
use Rattle.c_grammar.specs.declared.Expr.{Expr}
use Rattle.c_grammar.specs.declared.Stmt.{Stmt}
use Rattle.c_grammar.specs.BoundedTokens.{Spot, Bounded, bounded_kinds, name, sign, word}
use Rattle.c_grammar.specs.StatementGrammar.{IsType, Local, Simple, First, Step, Maybe, Statement, Body}
use Rattle.c_printer.specs.PrintedTokens.{in_code, in_head, type_kind, expr_kinds, maybe_kinds, head_kinds, initial_kinds, arguments_kinds, stmt_kinds, in_a_row}
use Rattle.c_printer.proofs.PrintedForms as laws
use Rattle.c_printer.proofs.FineTokens.{IsFine, AreFine, fine-append, fine-join, piece}
use Rattle.c_printer.proofs.PrintedExpressions.{printed_expression, printed_arguments}

-- a type in one word
abbrev pub type_token : Spot → Bool → Bounded
type_token spot unsigned = record { spot = spot; kind = type_kind unsigned }

pub printed_type : {first : Spot} {ts : List Bounded} {unsigned : Bool} → IsType first ts unsigned → AreFine ts
    → IsType first (type_token first unsigned ∷ []) unsigned × IsFine (type_token first unsigned)
printed_type (IsType.int at) fine = (IsType.int at, fine.0)
printed_type (IsType.unsigned at) fine = (IsType.unsigned at, fine.0)
printed_type (IsType.unsigned_int at second) fine = (IsType.unsigned at, fine.0)

-- what is read again, and what its tokens are
abbrev pub PrintedLocal : ℕ → Stmt → Type 0
PrintedLocal l x = (us : List Bounded) × (Local l us x × (bounded_kinds us ≡ stmt_kinds x in_head) × AreFine us)

abbrev pub PrintedFirst : ℕ → Option Stmt → Type 0
PrintedFirst l x = (us : List Bounded) × (First l us x × (bounded_kinds us ≡ head_kinds (option_map stmt_kinds x)) × AreFine us)

abbrev pub PrintedStatement : ℕ → Stmt → Bool → Type 0
PrintedStatement l x takes = (us : List Bounded) × (Statement l us x takes × (bounded_kinds us ≡ stmt_kinds x in_code) × AreFine us)

abbrev pub PrintedBody : ℕ → List Stmt → Type 0
PrintedBody l xs = (us : List Bounded) × (Body l us xs × (bounded_kinds us ≡ in_a_row (map stmt_kinds xs)) × AreFine us)

pub printed_local : {l : ℕ} {ts : List Bounded} {x : Stmt} → Local l ts x → AreFine ts → PrintedLocal l x
printed_local (Local.plain {ts = ts} {is_unsigned = is_unsigned} first at text bound d) fine =
    let parts = fine-append ts (name at text ∷ []) fine in
    let type = printed_type d parts.0 in (
      type_token first is_unsigned ∷ name at text ∷ [],
      (Local.plain first at text bound type.0, sym (ap (λ f. f in_head) (laws.stmt_kinds-Local is_unsigned text None at.place)), (type.1, parts.1)),
    )
printed_local (Local.valued {ts = ts} {us = us} {is_unsigned = is_unsigned} {x = x} first at equals text bound d d2) fine =
    let parts = fine-append ts (name at text ∷ sign equals signs.Assign ∷ us) fine in
    let type = printed_type d parts.0 in (
      type_token first is_unsigned ∷ name at text ∷ sign equals signs.Assign ∷ us,
      (
        Local.valued first at equals text bound type.0 d2,
        ap (λ ks. type_kind is_unsigned ∷ kinds.Name text ∷ kinds.Sign signs.Assign ∷ ks) (printed_expression d2 ∙ sym (append-nil (expr_kinds x)))
            ∙ sym (ap (λ f. f in_head) (laws.stmt_kinds-Local is_unsigned text (Some x) at.place)),
        (type.1, parts.1),
      ),
    )

-- after a local or a simple part the sign `;`
local_ends : {l : ℕ} {ts : List Bounded} {x : Stmt} → Local l ts x → stmt_kinds x in_code ≡ stmt_kinds x in_head ++ kinds.Sign signs.Semicolon ∷ []
local_ends (Local.plain {is_unsigned = is_unsigned} first at text bound d) =
    let e = laws.stmt_kinds-Local is_unsigned text None at.place in
    ap (λ f. f in_code) e ∙ sym (ap (λ f. f in_head ++ kinds.Sign signs.Semicolon ∷ []) e)
local_ends (Local.valued {is_unsigned = is_unsigned} {x = x} first at equals text bound d d2) =
    let e = laws.stmt_kinds-Local is_unsigned text (Some x) at.place in
    let ks = type_kind is_unsigned ∷ kinds.Name text ∷ initial_kinds (Some x) in
    ap (λ f. f in_code) e
    ∙ ap (λ ks. ks ++ kinds.Sign signs.Semicolon ∷ []) (sym (append-nil ks))
    ∙ sym (ap (λ f. f in_head ++ kinds.Sign signs.Semicolon ∷ []) e)

simple_ends : {l : ℕ} {ts : List Bounded} {x : Stmt} → Simple l ts x → stmt_kinds x in_code ≡ stmt_kinds x in_head ++ kinds.Sign signs.Semicolon ∷ []
simple_ends (Simple.assign {x = x} text at equals bound d) =
    let e = laws.stmt_kinds-Assign text None x at.place in
    ap (λ f. f in_code) e ∙ ap (λ ks. kinds.Name text ∷ kinds.Sign signs.Assign ∷ (ks ++ kinds.Sign signs.Semicolon ∷ [])) (sym (append-nil (expr_kinds x)))
    ∙ sym (ap (λ f. f in_head ++ kinds.Sign signs.Semicolon ∷ []) e)
simple_ends (Simple.assign_at {x = x} {y = y} text at left right equals bound deeper d d2) =
    let e = laws.stmt_kinds-Assign text (Some x) y at.place in
    let before = kinds.Name text ∷ kinds.Sign signs.LeftBracket ∷ (expr_kinds x ++ kinds.Sign signs.RightBracket ∷ []) in
    ap (λ f. f in_code) e
    ∙ ap (λ ks. before ++ kinds.Sign signs.Assign ∷ (ks ++ kinds.Sign signs.Semicolon ∷ [])) (sym (append-nil (expr_kinds y)))
    ∙ sym (append_assoc before (kinds.Sign signs.Assign ∷ (expr_kinds y ++ [])) (kinds.Sign signs.Semicolon ∷ []))
    ∙ sym (ap (λ f. f in_head ++ kinds.Sign signs.Semicolon ∷ []) e)
simple_ends (Simple.call {xs = xs} text at bound d) =
    let e = laws.stmt_kinds-Call text xs at.place in
    ap (λ f. f in_code) e ∙ ap (λ ks. kinds.Name text ∷ (ks ++ kinds.Sign signs.Semicolon ∷ [])) (sym (append-nil (arguments_kinds xs)))
    ∙ sym (ap (λ f. f in_head ++ kinds.Sign signs.Semicolon ∷ []) e)
simple_ends (Simple.release {x = x} at left right bound d) =
    let e = laws.stmt_kinds-Release x at.place in
    ap (λ f. f in_code) e
    ∙ ap (λ ks. kinds.Word words.Release ∷ kinds.Sign signs.LeftParenthesis ∷ ks) (sym (append_assoc (expr_kinds x) (kinds.Sign signs.RightParenthesis ∷ []) (kinds.Sign signs.Semicolon ∷ [])))
    ∙ sym (ap (λ f. f in_head ++ kinds.Sign signs.Semicolon ∷ []) e)
simple_ends (Simple.check at left right bound) =
    let e = laws.stmt_kinds-Check at.place in
    ap (λ f. f in_code) e ∙ sym (ap (λ f. f in_head ++ kinds.Sign signs.Semicolon ∷ []) e)

pub printed_simple : {l : ℕ} {ts : List Bounded} {x : Stmt} → Simple l ts x → bounded_kinds ts ≡ stmt_kinds x in_head
printed_simple (Simple.assign {x = x} text at equals bound d) =
    ap (λ ks. kinds.Name text ∷ kinds.Sign signs.Assign ∷ ks) (printed_expression d ∙ sym (append-nil (expr_kinds x)))
    ∙ sym (ap (λ f. f in_head) (laws.stmt_kinds-Assign text None x at.place))
printed_simple (Simple.assign_at {ts = ts} {us = us} {x = x} {y = y} text at left right equals bound deeper d d2) =
    ap (λ ks. kinds.Name text ∷ kinds.Sign signs.LeftBracket ∷ ks)
    (piece ts (sign right signs.RightBracket ∷ sign equals signs.Assign ∷ us) (printed_expression d)
    ∙ ap (λ ks. expr_kinds x ++ kinds.Sign signs.RightBracket ∷ kinds.Sign signs.Assign ∷ ks) (printed_expression d2 ∙ sym (append-nil (expr_kinds y)))
    ∙ sym (append_assoc (expr_kinds x) (kinds.Sign signs.RightBracket ∷ []) (kinds.Sign signs.Assign ∷ (expr_kinds y ++ []))))
    ∙ sym (ap (λ f. f in_head) (laws.stmt_kinds-Assign text (Some x) y at.place))
printed_simple (Simple.call {xs = xs} text at bound d) =
    ap (λ ks. kinds.Name text ∷ ks) (printed_arguments d ∙ sym (append-nil (arguments_kinds xs))) ∙ sym (ap (λ f. f in_head) (laws.stmt_kinds-Call text xs at.place))
printed_simple (Simple.release {ts = ts} {x = x} at left right bound d) =
    ap (λ ks. kinds.Word words.Release ∷ kinds.Sign signs.LeftParenthesis ∷ ks) (piece ts (sign right signs.RightParenthesis ∷ []) (printed_expression d))
    ∙ sym (ap (λ f. f in_head) (laws.stmt_kinds-Release x at.place))
printed_simple (Simple.check at left right bound) = sym (ap (λ f. f in_head) (laws.stmt_kinds-Check at.place))

pub printed_first : {l : ℕ} {ts : List Bounded} {x : Option Stmt} → First l ts x → AreFine ts → PrintedFirst l x
printed_first First.nothing fine = ([], (First.nothing, refl, tt))
printed_first (First.local d) fine = let r = printed_local d fine in (r.0, (First.local r.1.0, r.1.1, r.1.2))
printed_first (First.simple {ts = ts} d) fine = (ts, (First.simple d, printed_simple d, fine))

pub printed_step : {l : ℕ} {ts : List Bounded} {x : Option Stmt} → Step l ts x → bounded_kinds ts ≡ head_kinds (option_map stmt_kinds x)
printed_step Step.nothing = refl
printed_step (Step.simple d) = printed_simple d

pub printed_maybe : {l : ℕ} {ts : List Bounded} {x : Option Expr} → Maybe l ts x → bounded_kinds ts ≡ maybe_kinds x
printed_maybe Maybe.nothing = refl
printed_maybe (Maybe.given d) = printed_expression d

mutual
  pub printed_statement : {l : ℕ} {ts : List Bounded} {x : Stmt} {takes : Bool} → Statement l ts x takes → AreFine ts → PrintedStatement l x takes
  printed_statement (Statement.block {ts = ts} {xs = xs} left right bound d) fine =
      let parts = fine-append ts (sign right signs.RightBrace ∷ []) fine.1 in
      let r = printed_body d parts.0 in (
        sign left signs.LeftBrace ∷ (r.0 ++ sign right signs.RightBrace ∷ []),
        (
          Statement.block left right bound r.1.0,
          ap (λ ks. kinds.Sign signs.LeftBrace ∷ ks) (piece r.0 (sign right signs.RightBrace ∷ []) r.1.1) ∙ sym (ap (λ f. f in_code) (laws.stmt_kinds-Block xs left.place)),
          (fine.0, fine-join r.0 (sign right signs.RightBrace ∷ []) r.1.2 parts.1),
        ),
      )
  printed_statement (Statement.empty at bound) fine =
      (sign at signs.Semicolon ∷ [], (Statement.empty at bound, sym (ap (λ f. f in_code) (laws.stmt_kinds-Empty at.place)), fine))
  printed_statement (Statement.simple {ts = ts} {x = x} end d) fine =
      (ts ++ sign end signs.Semicolon ∷ [], (Statement.simple end d, piece ts (sign end signs.Semicolon ∷ []) (printed_simple d) ∙ sym (simple_ends d), fine))
  printed_statement (Statement.«return» {ts = ts} {value = value} at end bound d) fine = (
    word at words.Return ∷ (ts ++ sign end signs.Semicolon ∷ []),
    (
      Statement.«return» at end bound d,
      ap (λ ks. kinds.Word words.Return ∷ ks) (piece ts (sign end signs.Semicolon ∷ []) (printed_maybe d)) ∙ sym (ap (λ f. f in_code) (laws.stmt_kinds-Return value at.place)),
      fine,
    ),
  )
  printed_statement (Statement.break at end bound) fine =
      (word at words.Break ∷ sign end signs.Semicolon ∷ [], (Statement.break at end bound, sym (ap (λ f. f in_code) (laws.stmt_kinds-Break at.place)), fine))
  printed_statement (Statement.continue at end bound) fine =
      (word at words.Continue ∷ sign end signs.Semicolon ∷ [], (Statement.continue at end bound, sym (ap (λ f. f in_code) (laws.stmt_kinds-Continue at.place)), fine))
  printed_statement (Statement.if {ts = ts} {us = us} {test = test} {body = body} at left right bound d d2) fine =
      let parts = fine-append ts (sign right signs.RightParenthesis ∷ us) fine.1.1 in
      let r = printed_statement d2 parts.1.1 in (
        word at words.If ∷ sign left signs.LeftParenthesis ∷ (ts ++ sign right signs.RightParenthesis ∷ r.0),
        (
          Statement.if at left right bound d r.1.0,
          ap (λ ks. kinds.Word words.If ∷ kinds.Sign signs.LeftParenthesis ∷ ks)
              (piece ts (sign right signs.RightParenthesis ∷ r.0) (printed_expression d)
              ∙ ap (λ ks. expr_kinds test ++ kinds.Sign signs.RightParenthesis ∷ ks) (r.1.1 ∙ sym (append-nil (stmt_kinds body in_code))))
              ∙ sym (ap (λ f. f in_code) (laws.stmt_kinds-If test body None at.place)),
          (fine.0, (fine.1.0, fine-join ts (sign right signs.RightParenthesis ∷ r.0) parts.0 (parts.1.0, r.1.2))),
        ),
      )
  printed_statement (Statement.if_else {ts = ts} {us = us} {vs = vs} {test = test} {body = body} {other = other} at left right else bound d d2 d3) fine =
      let parts = fine-append ts (sign right signs.RightParenthesis ∷ (us ++ word else words.Else ∷ vs)) fine.1.1 in
      let more = fine-append us (word else words.Else ∷ vs) parts.1.1 in
      let r = printed_statement d2 more.0 in
      let r2 = printed_statement d3 more.1.1 in (
        word at words.If ∷ sign left signs.LeftParenthesis ∷ (ts ++ sign right signs.RightParenthesis ∷ (r.0 ++ word else words.Else ∷ r2.0)),
        (
          Statement.if_else at left right else bound d r.1.0 r2.1.0,
          ap (λ ks. kinds.Word words.If ∷ kinds.Sign signs.LeftParenthesis ∷ ks)
              (piece ts (sign right signs.RightParenthesis ∷ (r.0 ++ word else words.Else ∷ r2.0)) (printed_expression d)
              ∙ ap (λ ks. expr_kinds test ++ kinds.Sign signs.RightParenthesis ∷ ks)
              (piece r.0 (word else words.Else ∷ r2.0) r.1.1 ∙ ap (λ ks. stmt_kinds body in_code ++ kinds.Word words.Else ∷ ks) r2.1.1))
              ∙ sym (ap (λ f. f in_code) (laws.stmt_kinds-If test body (Some other) at.place)),
          (fine.0, (fine.1.0, fine-join ts _ parts.0 (parts.1.0, fine-join r.0 (word else words.Else ∷ r2.0) r.1.2 (more.1.0, r2.1.2)))),
        ),
      )
  printed_statement (Statement.while {ts = ts} {us = us} {test = test} {body = body} at left right bound d d2) fine =
      let parts = fine-append ts (sign right signs.RightParenthesis ∷ us) fine.1.1 in
      let r = printed_statement d2 parts.1.1 in (
        word at words.While ∷ sign left signs.LeftParenthesis ∷ (ts ++ sign right signs.RightParenthesis ∷ r.0),
        (
          Statement.while at left right bound d r.1.0,
          ap (λ ks. kinds.Word words.While ∷ kinds.Sign signs.LeftParenthesis ∷ ks)
              (piece ts (sign right signs.RightParenthesis ∷ r.0) (printed_expression d) ∙ ap (λ ks. expr_kinds test ++ kinds.Sign signs.RightParenthesis ∷ ks) r.1.1)
              ∙ sym (ap (λ f. f in_code) (laws.stmt_kinds-While test body at.place)),
          (fine.0, (fine.1.0, fine-join ts (sign right signs.RightParenthesis ∷ r.0) parts.0 (parts.1.0, r.1.2))),
        ),
      )
  printed_statement (Statement.for {ts = ts} {us = us} {vs = vs} {ws = ws} {first = first} {step = step} {test = test} {body = body} at left second third right bound d d2 d3 d4) fine =
      let p1 = fine-append ts (sign second signs.Semicolon ∷ (us ++ sign third signs.Semicolon ∷ (vs ++ sign right signs.RightParenthesis ∷ ws))) fine.1.1 in
      let p2 = fine-append us (sign third signs.Semicolon ∷ (vs ++ sign right signs.RightParenthesis ∷ ws)) p1.1.1 in
      let p3 = fine-append vs (sign right signs.RightParenthesis ∷ ws) p2.1.1 in
      let r = printed_first d p1.0 in
      let r4 = printed_statement d4 p3.1.1 in
      let tail3 = sign right signs.RightParenthesis ∷ r4.0 in
      let tail2 = sign third signs.Semicolon ∷ (vs ++ tail3) in
      let tail1 = sign second signs.Semicolon ∷ (us ++ tail2) in (
        word at words.For ∷ sign left signs.LeftParenthesis ∷ (r.0 ++ tail1),
        (
          Statement.for at left second third right bound r.1.0 d2 d3 r4.1.0,
          ap (λ ks. kinds.Word words.For ∷ kinds.Sign signs.LeftParenthesis ∷ ks)
              (piece r.0 tail1 r.1.1
              ∙ ap (λ ks. head_kinds (option_map stmt_kinds first) ++ kinds.Sign signs.Semicolon ∷ ks)
              (piece us tail2 (printed_maybe d2)
              ∙ ap (λ ks. maybe_kinds test ++ kinds.Sign signs.Semicolon ∷ ks)
              (piece vs tail3 (printed_step d3)
              ∙ ap (λ ks. head_kinds (option_map stmt_kinds step) ++ kinds.Sign signs.RightParenthesis ∷ ks) r4.1.1)))
              ∙ sym (ap (λ f. f in_code) (laws.stmt_kinds-For first test step body at.place)),
          (fine.0, (fine.1.0, fine-join r.0 tail1 r.1.2 (p1.1.0, fine-join us tail2 p2.0 (p2.1.0, fine-join vs tail3 p3.0 (p3.1.0, r4.1.2))))),
        ),
      )

  pub printed_body : {l : ℕ} {ts : List Bounded} {xs : List Stmt} → Body l ts xs → AreFine ts → PrintedBody l xs
  printed_body Body.nothing fine = ([], (Body.nothing, refl, tt))
  printed_body (Body.local {ts = ts} {us = us} {x = x} {xs = xs} end d d2) fine =
      let parts = fine-append ts (sign end signs.Semicolon ∷ us) fine in
      let r = printed_local d parts.0 in
      let r2 = printed_body d2 parts.1.1 in (
        r.0 ++ sign end signs.Semicolon ∷ r2.0,
        (
          Body.local end r.1.0 r2.1.0,
          piece r.0 (sign end signs.Semicolon ∷ r2.0) r.1.1 ∙ ap (λ ks. stmt_kinds x in_head ++ kinds.Sign signs.Semicolon ∷ ks) r2.1.1
              ∙ sym (append_assoc (stmt_kinds x in_head) (kinds.Sign signs.Semicolon ∷ []) (in_a_row (map stmt_kinds xs)))
              ∙ ap (λ ks. ks ++ in_a_row (map stmt_kinds xs)) (sym (local_ends d)),
          fine-join r.0 (sign end signs.Semicolon ∷ r2.0) r.1.2 (parts.1.0, r2.1.2),
        ),
      )
  printed_body (Body.statement {ts = ts} {us = us} {x = x} {xs = xs} d d2) fine =
      let parts = fine-append ts us fine in
      let r = printed_statement d parts.0 in
      let r2 = printed_body d2 parts.1 in
      (r.0 ++ r2.0, (Body.statement r.1.0 r2.1.0, piece r.0 r2.0 r.1.1 ∙ ap (λ ks. stmt_kinds x in_code ++ ks) r2.1.1, fine-join r.0 r2.0 r.1.2 r2.1.2))
