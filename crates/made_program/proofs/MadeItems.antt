-- The tokens of a made source, and its program, whose tokens are counted from 0.
use Rattle.std.proofs.Common.{ℕ, zero, suc, ◌+◌, false, List, [], ◌∷◌, ◌++◌, None, Some}
use Rattle.std.specs.Prelude.{codes}
use Rattle.std.specs.List.{flat_map, range_with_len}
use Rattle.std.specs.Fmt.{decimal}
use Rattle.c_token.specs.declared.kinds.Kind.{Kind}
use Rattle.c_token.specs.declared.kinds.Kind.TheVariants.{Name, Number, Word, Sign}
use Rattle.c_token.specs.declared.words.Word.TheVariants as words
use Rattle.c_token.specs.declared.signs.Sign.TheVariants as signs
use Rattle.c_grammar.specs.declared.expr.Expr.{Expr}
use Rattle.c_grammar.specs.declared.expr.Expr.TheVariants as expr
use Rattle.c_grammar.specs.declared.stmt.Stmt.{Stmt}
use Rattle.c_grammar.specs.declared.stmt.Stmt.TheVariants as stmt
use Rattle.c_grammar.specs.declared.item.Item.{Item}
use Rattle.c_grammar.specs.declared.item.Item.TheVariants as item
use Rattle.c_grammar.specs.declared.item.Kind3.TheVariants as kind3
use Rattle.c_grammar.specs.declared.item.Storage.TheVariants as storage
use Rattle.c_grammar.specs.declared.item.Program.{Program}

-- so many numbers later
abbrev pub later : ℕ → ℕ → ℕ
later zero place = place
later (suc n) place = suc (later n place)

abbrev pub function_name : ℕ → List ℕ
function_name k = 102 ∷ decimal k

-- ---- tokens

-- `int a[256];`
abbrev pub kinds_of_a : List Kind
kinds_of_a = Word words.Int ∷ Name (codes "a") ∷ Sign signs.LeftBracket ∷ Number 256 false ∷ Sign signs.RightBracket ∷ Sign signs.Semicolon ∷ []

-- `__logged int g[64];`
abbrev pub kinds_of_g : List Kind
kinds_of_g = Word words.Logged ∷ Word words.Int ∷ Name (codes "g") ∷ Sign signs.LeftBracket ∷ Number 64 false ∷ Sign signs.RightBracket ∷ Sign signs.Semicolon ∷ []

-- `a[x&255]=a[x&255]+J;`
abbrev pub store_a_kinds : ℕ → List Kind
store_a_kinds k =
    Name (codes "a") ∷ Sign signs.LeftBracket ∷ Name (codes "x") ∷ Sign signs.Ampersand ∷ Number 255 false ∷ Sign signs.RightBracket ∷ Sign signs.Assign
    ∷ Name (codes "a") ∷ Sign signs.LeftBracket ∷ Name (codes "x") ∷ Sign signs.Ampersand ∷ Number 255 false ∷ Sign signs.RightBracket ∷ Sign signs.Plus ∷ Number (k + 1) false ∷ Sign signs.Semicolon ∷ []

-- `g[K]=g[K]^x;`
abbrev pub store_g_kinds : ℕ → List Kind
store_g_kinds k =
    Name (codes "g") ∷ Sign signs.LeftBracket ∷ Number k false ∷ Sign signs.RightBracket ∷ Sign signs.Assign
    ∷ Name (codes "g") ∷ Sign signs.LeftBracket ∷ Number k false ∷ Sign signs.RightBracket ∷ Sign signs.Caret ∷ Name (codes "x") ∷ Sign signs.Semicolon ∷ []

-- `return a[(x+K)&255];`
abbrev pub answer_kinds : ℕ → List Kind
answer_kinds k =
    Word words.Return ∷ Name (codes "a") ∷ Sign signs.LeftBracket ∷ Sign signs.LeftParenthesis ∷ Name (codes "x") ∷ Sign signs.Plus ∷ Number k false ∷ Sign signs.RightParenthesis
    ∷ Sign signs.Ampersand ∷ Number 255 false ∷ Sign signs.RightBracket ∷ Sign signs.Semicolon ∷ []

abbrev pub function_kinds : ℕ → List Kind
function_kinds k =
    Word words.Int ∷ Name (function_name k) ∷ Sign signs.LeftParenthesis ∷ Word words.Int ∷ Name (codes "x") ∷ Sign signs.RightParenthesis ∷ Sign signs.LeftBrace
    ∷ (store_a_kinds k ++ (store_g_kinds k ++ (answer_kinds k ++ Sign signs.RightBrace ∷ [])))

abbrev pub main_kinds : List Kind
main_kinds =
    Word words.Int ∷ Name (codes "main") ∷ Sign signs.LeftParenthesis ∷ Word words.Void ∷ Sign signs.RightParenthesis ∷ Sign signs.LeftBrace
    ∷ Word words.Int ∷ Name (codes "i") ∷ Sign signs.Semicolon ∷ Word words.Int ∷ Name (codes "s") ∷ Sign signs.Semicolon
    ∷ Word words.For ∷ Sign signs.LeftParenthesis ∷ Name (codes "i") ∷ Sign signs.Assign ∷ Number 0 false ∷ Sign signs.Semicolon
    ∷ Name (codes "i") ∷ Sign signs.LessThan ∷ Number 16 false ∷ Sign signs.Semicolon
    ∷ Name (codes "i") ∷ Sign signs.Assign ∷ Name (codes "i") ∷ Sign signs.Plus ∷ Number 1 false ∷ Sign signs.RightParenthesis ∷ Sign signs.LeftBrace ∷ []

abbrev pub call_kinds : ℕ → List Kind
call_kinds k =
    Name (codes "s") ∷ Sign signs.Assign ∷ Name (function_name k) ∷ Sign signs.LeftParenthesis ∷ Name (codes "s") ∷ Sign signs.Plus ∷ Name (codes "i") ∷ Sign signs.RightParenthesis ∷ Sign signs.Semicolon ∷ []

abbrev pub last_kinds : List Kind
last_kinds =
    Word words.Release ∷ Sign signs.LeftParenthesis ∷ Name (codes "s") ∷ Sign signs.RightParenthesis ∷ Sign signs.Semicolon ∷ Sign signs.RightBrace
    ∷ Word words.Check ∷ Sign signs.LeftParenthesis ∷ Sign signs.RightParenthesis ∷ Sign signs.Semicolon ∷ Word words.Return ∷ Number 0 false ∷ Sign signs.Semicolon ∷ Sign signs.RightBrace ∷ []

abbrev pub made_kinds : ℕ → List Kind
made_kinds n = kinds_of_a ++ (kinds_of_g ++ (flat_map function_kinds (range_with_len 0 n) ++ (main_kinds ++ (flat_map call_kinds (range_with_len 0 n) ++ last_kinds))))

-- ---- the program

-- `x & 255`, from this token on
abbrev pub masked : ℕ → Expr
masked p = expr.Binary signs.Ampersand (expr.Name (codes "x") p) (expr.Number 255 false (later 2 p)) (later 1 p)

-- `a[x&255]=a[x&255]+J`
abbrev pub store_a : ℕ → ℕ → Stmt
store_a k p =
    stmt.Assign (codes "a") (Some (masked (later 2 p))) (expr.Binary signs.Plus (expr.Index (codes "a") (masked (later 9 p)) (later 8 p)) (expr.Number (k + 1) false (later 14 p)) (later 13 p)) p

-- `g[K]=g[K]^x`
abbrev pub store_g : ℕ → ℕ → Stmt
store_g k p =
    stmt.Assign (codes "g") (Some (expr.Number k false (later 2 p)))
    (expr.Binary signs.Caret (expr.Index (codes "g") (expr.Number k false (later 7 p)) (later 6 p)) (expr.Name (codes "x") (later 10 p)) (later 9 p)) p

-- `return a[(x+K)&255]`
abbrev pub answer : ℕ → ℕ → Stmt
answer k p =
    stmt.Return (Some (expr.Index (codes "a")
    (expr.Binary signs.Ampersand
    (expr.Paren (expr.Binary signs.Plus (expr.Name (codes "x") (later 4 p)) (expr.Number k false (later 6 p)) (later 5 p)) (later 3 p))
    (expr.Number 255 false (later 9 p)) (later 8 p)) (later 2 p))) p

abbrev pub function_item : ℕ → ℕ → Item
function_item k p =
    item.Function false kind3.Int (function_name k) (record { unsigned = false; name = codes "x"; token = later 4 p } ∷ [])
    (store_a k (later 7 p) ∷ store_g k (later 23 p) ∷ answer k (later 35 p) ∷ []) (later 1 p)

-- so many functions from this one on, and the token after them
abbrev pub functions_from : ℕ → ℕ → ℕ → List Item
functions_from k p zero = []
functions_from k p (suc n) = function_item k p ∷ functions_from (k + 1) (later 48 p) n

abbrev pub after_functions : ℕ → ℕ → ℕ
after_functions p zero = p
after_functions p (suc n) = after_functions (later 48 p) n

-- `s=fK(s+i)`
abbrev pub call_of : ℕ → ℕ → Stmt
call_of k p =
    stmt.Assign (codes "s") None
    (expr.Call (function_name k) (expr.Binary signs.Plus (expr.Name (codes "s") (later 4 p)) (expr.Name (codes "i") (later 6 p)) (later 5 p) ∷ []) (later 2 p)) p

abbrev pub calls_from : ℕ → ℕ → ℕ → List Stmt
calls_from k p zero = []
calls_from k p (suc n) = call_of k p ∷ calls_from (k + 1) (later 9 p) n

abbrev pub after_calls : ℕ → ℕ → ℕ
after_calls p zero = p
after_calls p (suc n) = after_calls (later 9 p) n

-- the loop, whose calls begin at its 17th token and end before the token `r`
abbrev pub turns_of : ℕ → ℕ → ℕ → Stmt
turns_of n p r =
    stmt.For (Some (stmt.Assign (codes "i") None (expr.Number 0 false (later 4 p)) (later 2 p)))
    (Some (expr.Binary signs.LessThan (expr.Name (codes "i") (later 6 p)) (expr.Number 16 false (later 8 p)) (later 7 p)))
    (Some (stmt.Assign (codes "i") None (expr.Binary signs.Plus (expr.Name (codes "i") (later 12 p)) (expr.Number 1 false (later 14 p)) (later 13 p)) (later 10 p)))
    (stmt.Block (calls_from 0 (later 17 p) n ++ stmt.Release (expr.Name (codes "s") (later 2 r)) r ∷ []) (later 16 p)) p

abbrev pub main_item : ℕ → ℕ → Item
main_item n m =
    let r = after_calls (later 29 m) n in
    item.Function false kind3.Int (codes "main") []
    (stmt.Local false (codes "i") None (later 7 m) ∷ stmt.Local false (codes "s") None (later 10 m) ∷ turns_of n (later 12 m) r
    ∷ stmt.Check (later 6 r) ∷ stmt.Return (Some (expr.Number 0 false (later 11 r))) (later 10 r) ∷ []) (later 1 m)

abbrev pub head_items : List Item
head_items = item.Object storage.Verified false (codes "a") (Some 256) 1 ∷ item.Object storage.Logged false (codes "g") (Some 64) 8 ∷ []

abbrev pub made_items : ℕ → List Item
made_items n = head_items ++ (functions_from 0 13 n ++ main_item n (after_functions 13 n) ∷ [])

abbrev pub made_program : ℕ → Program
made_program n = record { items = made_items n }
