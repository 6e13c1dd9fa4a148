-- The token numbers of a program that the grammar gives are those of its tokens.
use Rattle.std.proofs.Common.{ℕ, ◌+◌, ◌<◌, ◌≤◌, suc, List, [], ◌∷◌, ◌++◌, length, arith, All}
use Rattle.std.proofs.lemmas.List.Elements.{All-cons}
use Rattle.c_token.specs.declared.kinds.Kind.{Kind}
use Rattle.c_token.specs.declared.signs.Sign.TheVariants.{LeftParenthesis, RightParenthesis, LeftBrace, RightBrace, Semicolon, Assign}
use Rattle.c_grammar.specs.declared.item.Item.{Item}
use Rattle.c_grammar.specs.declared.item.Program.{Program}
use Rattle.c_grammar.specs.BoundedTokens.{numbered, Bounded, bounded_all, name, sign}
use Rattle.c_grammar.specs.ProgramGrammar.{IsItem, AreItems}
use Rattle.c_grammar.specs.ProgramGrammar.IsItem.{object, constant, untrusted, function}
use Rattle.c_grammar.specs.ProgramGrammar.AreItems.{nothing, further}
use Rattle.c_scopes.specs.Declarations.{token_of}
use Rattle.c_types.specs.Walks.{HasRoom}
use Rattle.c_types.specs.Checked.{IsReadProgram}

-- the numbers of the tokens are below this one
abbrev Below : ℕ → List Bounded → Type 0
Below n [] = Unit {0}
Below n (t ∷ ts) = (t.spot.place < n) × Below n ts

below_left : (n : ℕ) (xs ys : List Bounded) → Below n (xs ++ ys) → Below n xs
below_left n [] ys h = tt
below_left n (x ∷ xs) ys h = (h.0, below_left n xs ys h.1)

below_right : (n : ℕ) (xs ys : List Bounded) → Below n (xs ++ ys) → Below n ys
below_right n [] ys h = h
below_right n (x ∷ xs) ys h = below_right n xs ys h.1

numbered_below : (n limit place : ℕ) (kinds : List Kind) → place + length kinds ≤ n → Below n (bounded_all limit (numbered place kinds))
numbered_below n limit place [] h = tt
numbered_below n limit place (kind ∷ kinds) h = (omega arith, numbered_below n limit (suc place) kinds (omega arith))

item_below : (n : ℕ) (ts : List Bounded) (item : Item) → IsItem ts item → Below n ts → token_of item < n
item_below n _ _ (object {ts = ts} {us = us} {vs = vs} first at end text storage type long) h =
    (below_right n us (name at text ∷ vs ++ sign end Semicolon ∷ []) (below_right n ts (us ++ (name at text ∷ vs ++ sign end Semicolon ∷ [])) h)).0
item_below n _ _ (constant {ts = ts} {us = us} {vs = vs} const first at equals end text type long values) h =
    (below_right n ts (name at text ∷ us ++ (sign equals Assign ∷ vs ++ sign end Semicolon ∷ [])) h.1).0
item_below n _ _ (untrusted first void at left inner right end text) h = h.1.1.0
item_below n _ _ (function {ts = ts} {us = us} {vs = vs} {ws = ws} at left right start end text private result parameters body) h =
    let rest = name at text ∷ sign left LeftParenthesis ∷ vs ++ (sign right RightParenthesis ∷ sign start LeftBrace ∷ ws ++ sign end RightBrace ∷ []) in
    (below_right n us rest (below_right n ts (us ++ rest) h)).0

room : (item : Item) → token_of item < 262144 → HasRoom item
room item h = omega arith

items_room : (ts : List Bounded) (items : List Item) → AreItems ts items → Below 262144 ts → All HasRoom items
items_room _ _ nothing h = λ k d within. absurd (omega arith)
items_room _ _ (further {ts = ts} {us = us} {x = x} {xs = xs} one more) h =
    All-cons HasRoom x xs (room x (item_below 262144 ts x one (below_left 262144 ts us h))) (items_room us xs more (below_right 262144 ts us h))

pub read_rooms : (p : Program) → IsReadProgram p → All HasRoom p.items
read_rooms p read =
    items_room (bounded_all 64 (numbered 0 read.0)) p.items read.2 (numbered_below 262144 64 0 read.0 (omega (arith, read.1)))
