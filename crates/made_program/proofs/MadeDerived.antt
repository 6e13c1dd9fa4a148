-- The grammar gives the program of a made source to its tokens.
use Rattle.std.proofs.Common.{◌≡◌, ◌<◌, ℕ, zero, suc, ◌+◌, false, List, [], ◌∷◌, ◌++◌, refl, sym, ap, ◌∙◌, subst, append_assoc, arith}
use Rattle.std.specs.Prelude.{codes}
use Rattle.std.specs.List.{flat_map, range_with_len}
use Rattle.c_token.specs.declared.kinds.Kind.{Kind}
use Rattle.c_token.specs.declared.words.Word.TheVariants as words
use Rattle.c_token.specs.declared.signs.Sign.TheVariants as signs
use Rattle.c_grammar.specs.declared.expr.Expr.{Expr}
use Rattle.c_grammar.specs.declared.expr.Expr.TheVariants as expr
use Rattle.c_grammar.specs.declared.stmt.Stmt.{Stmt}
use Rattle.c_grammar.specs.declared.item.Item.{Item}
use Rattle.c_grammar.specs.BoundedTokens.{Spot, Bounded, name, number, word, sign, numbered, bounded_all}
use Rattle.c_grammar.specs.ExpressionGrammar as e
use Rattle.c_grammar.specs.ExpressionGrammar.{Expression, Binary, Unary}
use Rattle.c_grammar.specs.StatementGrammar as s
use Rattle.c_grammar.specs.StatementGrammar.{Statement, Body}
use Rattle.c_grammar.specs.ProgramGrammar as p
use Rattle.c_grammar.specs.ProgramGrammar.{IsItem, AreItems}
use Rattle.c_grammar.specs.TokenPrograms.{AreProgram}
use Rattle.made_program.proofs.MadeItems.{later, function_name, function_kinds, main_kinds, store_a_kinds, store_g_kinds, answer_kinds, call_kinds, last_kinds, made_kinds, masked, store_a, store_g, answer, function_item, functions_from, after_functions, call_of, calls_from, after_calls, turns_of, main_item, made_program}

-- the token with this number, within the limits
abbrev at : ℕ → Spot
at n = record { place = n; bound = 64 }

-- these tokens from this number on
abbrev all : ℕ → List Kind → List Bounded
all n kinds = bounded_all 64 (numbered n kinds)

-- ---- operators

module _ {l : ℕ} {ts : List Bounded} {x : Expr} (u : Unary l ts x) (used : ℕ) where
  on1 : Binary l 1 used ts x used
  on1 = e.tighter (e.alone u)

  on2 : Binary l 2 used ts x used
  on2 = e.tighter on1

  on3 : Binary l 3 used ts x used
  on3 = e.tighter on2

  on4 : Binary l 4 used ts x used
  on4 = e.tighter on3

  on5 : Binary l 5 used ts x used
  on5 = e.tighter on4

  on6 : Binary l 6 used ts x used
  on6 = e.tighter on5

  on7 : Binary l 7 used ts x used
  on7 = e.tighter on6

lone : {l : ℕ} {ts : List Bounded} {x : Expr} → Unary l ts x → Expression l ts x
lone u = e.whole (e.tighter (e.tighter (e.tighter (on7 u 0))))

module _ {l : ℕ} {ts us : List Bounded} {x y : Expr} (n : ℕ) (u : Unary l ts x) (v : Unary l us y) where
  plus : Expression l (ts ++ sign (at n) signs.Plus ∷ us) (expr.Binary signs.Plus x y n)
  plus = e.whole (e.tighter (e.tighter (e.tighter (e.tighter (e.tighter (e.tighter (e.tighter (e.tighter (e.both signs.Plus (at n) (on2 u 0) refl (omega arith) (on1 v 1))))))))))

  less : Expression l (ts ++ sign (at n) signs.LessThan ∷ us) (expr.Binary signs.LessThan x y n)
  less = e.whole (e.tighter (e.tighter (e.tighter (e.tighter (e.tighter (e.tighter (e.both signs.LessThan (at n) (on4 u 0) refl (omega arith) (on3 v 1))))))))

  ampersand : Expression l (ts ++ sign (at n) signs.Ampersand ∷ us) (expr.Binary signs.Ampersand x y n)
  ampersand = e.whole (e.tighter (e.tighter (e.tighter (e.tighter (e.both signs.Ampersand (at n) (on6 u 0) refl (omega arith) (on5 v 1))))))

  caret : Expression l (ts ++ sign (at n) signs.Caret ∷ us) (expr.Binary signs.Caret x y n)
  caret = e.whole (e.tighter (e.tighter (e.tighter (e.both signs.Caret (at n) (on7 u 0) refl (omega arith) (on6 v 1)))))

-- ---- operands

named : (l n : ℕ) (text : List ℕ) → Unary l (name (at n) text ∷ []) (expr.Name text n)
named l n text = e.primary (e.variable text (at n))

valued : (l n value : ℕ) → Unary l (number (at n) value false ∷ []) (expr.Number value false n)
valued l n value = e.primary (e.literal value false (at n))

-- `x & 255`
mask : (l n : ℕ) → Expression l (name (at n) (codes "x") ∷ sign (at (later 1 n)) signs.Ampersand ∷ number (at (later 2 n)) 255 false ∷ []) (masked n)
mask l n = ampersand (later 1 n) (named l n (codes "x")) (valued l (later 2 n) 255)

-- `a[x&255]`
element : (l n : ℕ) → l < 64 → Unary l (name (at n) (codes "a") ∷ sign (at (later 1 n)) signs.LeftBracket ∷ name (at (later 2 n)) (codes "x") ∷ sign (at (later 3 n)) signs.Ampersand
    ∷ number (at (later 4 n)) 255 false ∷ sign (at (later 5 n)) signs.RightBracket ∷ []) (expr.Index (codes "a") (masked (later 2 n)) (later 1 n))
element l n small = e.primary (e.element (codes "a") (at n) (at (later 1 n)) (at (later 5 n)) small (mask (suc l) (later 2 n)))

-- ---- the statements of a function

stores_a : (k n : ℕ) → Statement 0 (all n (store_a_kinds k)) (store_a k n) false
stores_a k n =
    s.simple (at (later 15 n)) (s.assign_at (codes "a") (at n) (at (later 1 n)) (at (later 5 n)) (at (later 6 n)) (omega arith) (omega arith) (mask 2 (later 2 n))
    (plus (later 13 n) (element 1 (later 7 n) (omega arith)) (valued 1 (later 14 n) (k + 1))))

stores_g : (k n : ℕ) → Statement 0 (all n (store_g_kinds k)) (store_g k n) false
stores_g k n =
    s.simple (at (later 11 n)) (s.assign_at (codes "g") (at n) (at (later 1 n)) (at (later 3 n)) (at (later 4 n)) (omega arith) (omega arith) (lone (valued 2 (later 2 n) k))
    (caret (later 9 n) (e.primary (e.element (codes "g") (at (later 5 n)) (at (later 6 n)) (at (later 8 n)) (omega arith) (lone (valued 2 (later 7 n) k)))) (named 1 (later 10 n) (codes "x"))))

answers : (k n : ℕ) → Statement 0 (all n (answer_kinds k)) (answer k n) false
answers k n =
    s.return (at n) (at (later 11 n)) (omega arith) (s.given (lone (e.primary (e.element (codes "a") (at (later 1 n)) (at (later 2 n)) (at (later 10 n)) (omega arith)
    (ampersand (later 8 n)
    (e.primary (e.parenthesised (at (later 3 n)) (at (later 7 n)) (omega arith) (plus (later 5 n) (named 3 (later 4 n) (codes "x")) (valued 3 (later 6 n) k))))
    (valued 2 (later 9 n) 255))))))

function_derived : (k n : ℕ) → IsItem (all n (function_kinds k)) (function_item k n)
function_derived k n =
    p.function (at (later 1 n)) (at (later 2 n)) (at (later 5 n)) (at (later 6 n)) (at (later 47 n)) (function_name k) p.IsPrivate.nothing (p.IsResult.int (at n) (s.int (at n)))
    (p.AreParameters.some (p.AreListed.one (p.IsParameter.typed (at (later 3 n)) (at (later 4 n)) (codes "x") (s.int (at (later 3 n))))))
    (Body.statement (stores_a k (later 7 n)) (Body.statement (stores_g k (later 23 n)) (Body.statement (answers k (later 35 n)) Body.nothing)))

-- ---- `main`

calls : (k n : ℕ) → Statement 2 (all n (call_kinds k)) (call_of k n) false
calls k n =
    s.simple (at (later 8 n)) (s.assign (codes "s") (at n) (at (later 1 n)) (omega arith)
    (lone (e.primary (e.call (function_name k) (at (later 2 n)) (e.some (at (later 3 n)) (at (later 7 n)) (omega arith)
    (e.one (plus (later 5 n) (named 4 (later 4 n) (codes "s")) (named 4 (later 6 n) (codes "i")))))))))

-- the tokens of so many calls
abbrev call_tokens : ℕ → ℕ → ℕ → List Bounded
call_tokens k n zero = []
call_tokens k n (suc m) = all n (call_kinds k) ++ call_tokens (k + 1) (later 9 n) m

calls_tokens : (k n m : ℕ) (rest : List Kind) → all n (flat_map call_kinds (range_with_len k m) ++ rest) ≡ call_tokens k n m ++ all (after_calls n m) rest
calls_tokens k n zero rest = refl
calls_tokens k n (suc m) rest = ap (λ ts. all n (call_kinds k) ++ ts) (calls_tokens (k + 1) (later 9 n) m rest)

calls_body : (k n m : ℕ) {us : List Bounded} {xs : List Stmt} → Body 2 us xs → Body 2 (call_tokens k n m ++ us) (calls_from k n m ++ xs)
calls_body k n zero rest = rest
calls_body k n (suc m) rest = Body.statement (calls k n) (calls_body (k + 1) (later 9 n) m rest)

-- the loop before these statements
abbrev turn_tokens : ℕ → ℕ → ℕ → List Bounded
turn_tokens n p r =
    word (at p) words.For ∷ sign (at (later 1 p)) signs.LeftParenthesis ∷ name (at (later 2 p)) (codes "i") ∷ sign (at (later 3 p)) signs.Assign ∷ number (at (later 4 p)) 0 false ∷ sign (at (later 5 p)) signs.Semicolon
    ∷ name (at (later 6 p)) (codes "i") ∷ sign (at (later 7 p)) signs.LessThan ∷ number (at (later 8 p)) 16 false ∷ sign (at (later 9 p)) signs.Semicolon
    ∷ name (at (later 10 p)) (codes "i") ∷ sign (at (later 11 p)) signs.Assign ∷ name (at (later 12 p)) (codes "i") ∷ sign (at (later 13 p)) signs.Plus ∷ number (at (later 14 p)) 1 false
    ∷ sign (at (later 15 p)) signs.RightParenthesis ∷ sign (at (later 16 p)) signs.LeftBrace
    ∷ ((call_tokens 0 (later 17 p) n ++ word (at r) words.Release ∷ sign (at (later 1 r)) signs.LeftParenthesis ∷ name (at (later 2 r)) (codes "s") ∷ sign (at (later 3 r)) signs.RightParenthesis ∷ sign (at (later 4 r)) signs.Semicolon ∷ [])
    ++ sign (at (later 5 r)) signs.RightBrace ∷ [])

turns : (n p r : ℕ) → Statement 0 (turn_tokens n p r) (turns_of n p r) false
turns n p r =
    s.for (at p) (at (later 1 p)) (at (later 5 p)) (at (later 9 p)) (at (later 15 p)) (omega arith)
    (s.First.simple (s.assign (codes "i") (at (later 2 p)) (at (later 3 p)) (omega arith) (lone (valued 2 (later 4 p) 0))))
    (s.given (less (later 7 p) (named 1 (later 6 p) (codes "i")) (valued 1 (later 8 p) 16)))
    (s.Step.simple (s.assign (codes "i") (at (later 10 p)) (at (later 11 p)) (omega arith) (plus (later 13 p) (named 2 (later 12 p) (codes "i")) (valued 2 (later 14 p) 1))))
    (s.block (at (later 16 p)) (at (later 5 r)) (omega arith)
    (calls_body 0 (later 17 p) n (Body.statement (s.simple (at (later 4 r)) (s.release (at r) (at (later 1 r)) (at (later 3 r)) (omega arith) (lone (named 3 (later 2 r) (codes "s"))))) Body.nothing)))

-- the tokens of `main`, where the last ones begin at `r`
abbrev whole_tokens : ℕ → ℕ → ℕ → List Bounded
whole_tokens n m r =
    word (at m) words.Int ∷ name (at (later 1 m)) (codes "main") ∷ sign (at (later 2 m)) signs.LeftParenthesis ∷ word (at (later 3 m)) words.Void ∷ sign (at (later 4 m)) signs.RightParenthesis
    ∷ sign (at (later 5 m)) signs.LeftBrace ∷ word (at (later 6 m)) words.Int ∷ name (at (later 7 m)) (codes "i") ∷ sign (at (later 8 m)) signs.Semicolon
    ∷ word (at (later 9 m)) words.Int ∷ name (at (later 10 m)) (codes "s") ∷ sign (at (later 11 m)) signs.Semicolon
    ∷ ((turn_tokens n (later 12 m) r ++ word (at (later 6 r)) words.Check ∷ sign (at (later 7 r)) signs.LeftParenthesis ∷ sign (at (later 8 r)) signs.RightParenthesis ∷ sign (at (later 9 r)) signs.Semicolon
    ∷ word (at (later 10 r)) words.Return ∷ number (at (later 11 r)) 0 false ∷ sign (at (later 12 r)) signs.Semicolon ∷ []) ++ sign (at (later 13 r)) signs.RightBrace ∷ [])

main_derived : (n m : ℕ) → IsItem (whole_tokens n m (after_calls (later 29 m) n)) (main_item n m)
main_derived n m =
    let r = after_calls (later 29 m) n in
    p.function (at (later 1 m)) (at (later 2 m)) (at (later 4 m)) (at (later 5 m)) (at (later 13 r)) (codes "main") p.IsPrivate.nothing (p.IsResult.int (at m) (s.int (at m))) (p.AreParameters.void (at (later 3 m)))
    (Body.local (at (later 8 m)) (s.Local.plain (at (later 6 m)) (at (later 7 m)) (codes "i") (omega arith) (s.int (at (later 6 m))))
    (Body.local (at (later 11 m)) (s.Local.plain (at (later 9 m)) (at (later 10 m)) (codes "s") (omega arith) (s.int (at (later 9 m))))
    (Body.statement (turns n (later 12 m) r)
    (Body.statement (s.simple (at (later 9 r)) (s.check (at (later 6 r)) (at (later 7 r)) (at (later 8 r)) (omega arith)))
    (Body.statement (s.return (at (later 10 r)) (at (later 12 r)) (omega arith) (s.given (lone (valued 1 (later 11 r) 0)))) Body.nothing)))))

-- they are the tokens from there on
main_tokens : (n m : ℕ) → all m (main_kinds ++ (flat_map call_kinds (range_with_len 0 n) ++ last_kinds)) ≡ whole_tokens n m (after_calls (later 29 m) n) ++ []
main_tokens n m =
    let r = after_calls (later 29 m) n in
    let front = all m main_kinds in
    ap (λ ts. all m main_kinds ++ ts) (calls_tokens 0 (later 29 m) n last_kinds) ∙ ap (λ ts. all m main_kinds ++ ts) (simp append_assoc)

-- ---- the program

functions_derived : (k n m : ℕ) (rest : List Kind) (items : List Item) → AreItems (all (after_functions n m) rest) items
    → AreItems (all n (flat_map function_kinds (range_with_len k m) ++ rest)) (functions_from k n m ++ items)
functions_derived k n zero rest items later_on = later_on
functions_derived k n (suc m) rest items later_on = AreItems.further (function_derived k n) (functions_derived (k + 1) (later 48 n) m rest items later_on)

pub made_derived : (n : ℕ) → AreProgram (made_kinds n) (made_program n)
made_derived n =
    let m = after_functions 13 n in
    AreItems.further (p.object (at 0) (at 1) (at 5) (codes "a") p.IsStorage.nothing (s.int (at 0)) (p.IsLength.given 256 false (at 2) (at 3) (at 4)))
    (AreItems.further (p.object (at 7) (at 8) (at 12) (codes "g") (p.IsStorage.logged (at 6)) (s.int (at 7)) (p.IsLength.given 64 false (at 9) (at 10) (at 11)))
    (functions_derived 0 13 n (main_kinds ++ (flat_map call_kinds (range_with_len 0 n) ++ last_kinds)) (main_item n m ∷ [])
    (subst (λ ts. AreItems ts (main_item n m ∷ [])) (sym (main_tokens n m)) (AreItems.further (main_derived n m) AreItems.nothing))))
