-- The number of a function leads to its body: tokens ascend, so no two functions have one token.
use Rattle.std.proofs.Common.{◌≡◌, ◌⊎◌, inl, inr, ◌∙◌, ap, sym, subst, ℕ, suc, ◌+◌, ◌<◌, ◌≤◌, ◌==◌, Bool, cond, List, [], ◌∷◌, ◌++◌, length, Some, arith, refl, append_assoc, append-nil}
use Rattle.std.specs.List.{slice_get}
use Rattle.std.proofs.lemmas.Bool.Decides.{nat_tests}
use Rattle.c_token.specs.declared.kinds.Kind.{Kind}
use Rattle.c_grammar.specs.declared.stmt.Stmt.{Stmt}
use Rattle.c_grammar.specs.declared.item.Kind3.{Kind3}
use Rattle.c_grammar.specs.declared.item.Parameter.{Parameter}
use Rattle.c_grammar.specs.declared.item.Item.{Item}
use Rattle.c_grammar.specs.declared.item.Item.TheVariants as item
use Rattle.c_grammar.specs.declared.item.Program.{Program}
use Rattle.c_grammar.specs.BoundedTokens.{Bounded, bounded_all, numbered}
use Rattle.c_grammar.specs.ProgramGrammar.{IsItem, AreItems}
use Rattle.c_grammar.specs.TokenPrograms.{limit}
use Rattle.c_scopes.specs.declared.declaration.Declaration.{Declaration}
use Rattle.c_scopes.specs.Declarations.{declaration_of, declarations_of, token_of}
use Rattle.c_resolver.specs.Resolving.{function_in, function_tokens, functions_in, function_number}
use Rattle.c_types.specs.Checked.{IsReadProgram}
use Rattle.c_meaning.specs.FunctionNumbers.{NumbersCount, NumbersLead}
use Rattle.c_meaning.proofs.Listed.{tokens-counted}

-- ---- places of tokens in a row

abbrev pub From : ℕ → List Bounded → Type 0
From n [] = Unit {0}
From n (t ∷ ts) = (t.spot.place ≡ n) × From (suc n) ts

from-front : (n : ℕ) (ts us : List Bounded) → From n (ts ++ us) → From n ts
from-front n [] us from = tt
from-front n (t ∷ ts) us from = (from.0, from-front (suc n) ts us from.1)

from-back : (n : ℕ) (ts us : List Bounded) → From n (ts ++ us) → From (n + length ts) us
from-back n [] us from = subst (λ m. From m us) (omega arith) from
from-back n (t ∷ ts) us from = subst (λ m. From m us) (omega arith) (from-back (suc n) ts us from.1)

pub from-numbered : (n : ℕ) (ks : List Kind) → From n (bounded_all limit (numbered n ks))
from-numbered n [] = tt
from-numbered n (k ∷ ks) = (refl, from-numbered (suc n) ks)

-- a place is that of one of these tokens
abbrev pub Has : ℕ → List Bounded → Type 0
Has place [] = ⊥
Has place (t ∷ ts) = (t.spot.place ≡ place) ⊎ Has place ts

has-back : (place : ℕ) (ts us : List Bounded) → Has place us → Has place (ts ++ us)
has-back place [] us has = has
has-back place (t ∷ ts) us has = inr (has-back place ts us has)

pub has-within : (n place : ℕ) (ts : List Bounded) → From n ts → Has place ts → (n ≤ place) × (place < n + length ts)
has-within n place [] from has = absurd has
has-within n place (t ∷ ts) from (inl here) = (omega (arith, here, from.0), omega (arith, here, from.0))
has-within n place (t ∷ ts) from (inr later) =
    let r = has-within (suc n) place ts from.1 later in
    (omega (arith, r.0), omega (arith, r.1))

pub item-has : {ts : List Bounded} {x : Item} → IsItem ts x → Has (token_of x) ts
item-has (IsItem.object {ts = ts} {us = us} first at end text a b c) = has-back at.place ts _ (has-back at.place us _ (inl refl))
item-has (IsItem.constant {ts = ts} const first at equals end text a b c) = inr (has-back at.place ts _ (inl refl))
item-has (IsItem.untrusted first void at left inner right end text) = inr (inr (inl refl))
item-has (IsItem.function {ts = ts} {us = us} at left right start end text a b c d) = has-back at.place ts _ (has-back at.place us _ (inl refl))

-- ---- tokens of names ascend

abbrev pub Ascends : ℕ → List Item → Type 0
Ascends n [] = Unit {0}
Ascends n (x ∷ xs) = (n ≤ token_of x) × Ascends (suc (token_of x)) xs

ascends-less : (m n : ℕ) (xs : List Item) → m ≤ n → Ascends n xs → Ascends m xs
ascends-less m n [] le ascends = tt
ascends-less m n (x ∷ xs) le ascends = (omega (arith, le, ascends.0), ascends.1)

pub items-ascend : {ts : List Bounded} {xs : List Item} → AreItems ts xs → (n : ℕ) → From n ts → Ascends n xs
items-ascend AreItems.nothing n from = tt
items-ascend (AreItems.further {ts = ts} {us = us} {x = x} {xs = xs} d ds) n from =
    let within = has-within n (token_of x) ts (from-front n ts us from) (item-has d) in
    (within.0, ascends-less (suc (token_of x)) (n + length ts) xs (omega (arith, within.1)) (items-ascend ds (n + length ts) (from-back n ts us from)))

pub ascends-above : (n : ℕ) (before after : List Item) (x : Item) → Ascends n (before ++ x ∷ after) → n ≤ token_of x
ascends-above n [] after x ascends = ascends.0
ascends-above n (y ∷ before) after x ascends = omega (arith, ascends.0, ascends-above (suc (token_of y)) before after x ascends.1)

-- ---- the number of a function, and what it leads to

number-here : (token rest : ℕ) → cond (token == token) 0 rest ≡ 0
number-here token rest = grind (arith, nat_tests)

number-later : (t token rest : ℕ) → t < token → cond (t == token) 0 rest ≡ rest
number-later t token rest less = grind (arith, nat_tests)

number-before : (n : ℕ) (before after : List Item) (private : Bool) (result : Kind3) (name : List ℕ) (parameters : List Parameter) (body : List Stmt) (token : ℕ) →
    Ascends n (before ++ item.Function private result name parameters body token ∷ after) →
    function_number (function_tokens (before ++ item.Function private result name parameters body token ∷ after)) token ≡ length (function_tokens before)
number-before n [] after private result name parameters body token ascends = number-here token (1 + function_number (function_tokens after) token)
number-before n (item.Object storage unsigned name' length' t ∷ before) after private result name parameters body token ascends =
    number-before (suc t) before after private result name parameters body token ascends.1
number-before n (item.Constant unsigned name' length' values braces t ∷ before) after private result name parameters body token ascends =
    number-before (suc t) before after private result name parameters body token ascends.1
number-before n (item.Untrusted name' t ∷ before) after private result name parameters body token ascends =
    number-before (suc t) before after private result name parameters body token ascends.1
number-before n (item.Function private' result' name' parameters' body' t ∷ before) after private result name parameters body token ascends =
    let above = ascends-above (suc t) before after (item.Function private result name parameters body token) ascends.1 in
    let later = number-before (suc t) before after private result name parameters body token ascends.1 in
    number-later t token (1 + function_number (function_tokens (before ++ item.Function private result name parameters body token ∷ after)) token) (omega (arith, above))
    ∙ omega (arith, later)

after-one : (known : List Declaration) (d e : Declaration) (ds : List Declaration) → ((known ++ d ∷ []) ++ ds) ++ e ∷ [] ≡ (known ++ (d ∷ ds)) ++ e ∷ []
after-one known d e ds = ap (λ l. l ++ e ∷ []) (append_assoc known (d ∷ []) ds)

pub body-led : (fs : List ℕ) (known : List Declaration) (before after : List Item) (private : Bool) (result : Kind3) (name : List ℕ) (parameters : List Parameter) (body : List Stmt) (token : ℕ) →
    slice_get (functions_in fs (before ++ item.Function private result name parameters body token ∷ after) known) (length (function_tokens before))
    ≡ Some (function_in fs private parameters body ((known ++ declarations_of before) ++ declaration_of (item.Function private result name parameters body token) ∷ []))
body-led fs known [] after private result name parameters body token =
    ap (λ l. Some (function_in fs private parameters body (l ++ declaration_of (item.Function private result name parameters body token) ∷ []))) (sym (append-nil known))
body-led fs known (item.Object storage unsigned name' length' t ∷ before) after private result name parameters body token =
    let d = declaration_of (item.Object storage unsigned name' length' t) in
    body-led fs (known ++ d ∷ []) before after private result name parameters body token
    ∙ ap (λ l. Some (function_in fs private parameters body l)) (after-one known d (declaration_of (item.Function private result name parameters body token)) (declarations_of before))
body-led fs known (item.Constant unsigned name' length' values braces t ∷ before) after private result name parameters body token =
    let d = declaration_of (item.Constant unsigned name' length' values braces t) in
    body-led fs (known ++ d ∷ []) before after private result name parameters body token
    ∙ ap (λ l. Some (function_in fs private parameters body l)) (after-one known d (declaration_of (item.Function private result name parameters body token)) (declarations_of before))
body-led fs known (item.Untrusted name' t ∷ before) after private result name parameters body token =
    let d = declaration_of (item.Untrusted name' t) in
    body-led fs (known ++ d ∷ []) before after private result name parameters body token
    ∙ ap (λ l. Some (function_in fs private parameters body l)) (after-one known d (declaration_of (item.Function private result name parameters body token)) (declarations_of before))
body-led fs known (item.Function private' result' name' parameters' body' t ∷ before) after private result name parameters body token =
    let d = declaration_of (item.Function private' result' name' parameters' body' t) in
    body-led fs (known ++ d ∷ []) before after private result name parameters body token
    ∙ ap (λ l. Some (function_in fs private parameters body l)) (after-one known d (declaration_of (item.Function private result name parameters body token)) (declarations_of before))

pub number-counted : (p : Program) → IsReadProgram p →
    (before after : List Item) (private : Bool) (result : Kind3) (name : List ℕ) (parameters : List Parameter) (body : List Stmt) (token : ℕ) →
    p.items ≡ before ++ item.Function private result name parameters body token ∷ after →
    function_number (function_tokens p.items) token ≡ length (function_tokens before)
number-counted p read before after private result name parameters body token all =
    let ascends : Ascends 0 (before ++ item.Function private result name parameters body token ∷ after) =
    subst (Ascends 0) all (items-ascend read.2 0 (from-numbered 0 read.0)) in
    ap (λ items. function_number (function_tokens items) token) all ∙ number-before 0 before after private result name parameters body token ascends

pub numbers_lead : (p : Program) → IsReadProgram p → NumbersLead p
numbers_lead p read before after private result name parameters body token all =
    ap (λ n. slice_get (functions_in (function_tokens p.items) p.items []) n) (number-counted p read before after private result name parameters body token all)
    ∙ ap (λ items. slice_get (functions_in (function_tokens p.items) items []) (length (function_tokens before))) all
    ∙ body-led (function_tokens p.items) [] before after private result name parameters body token

pub numbers_count : (p : Program) → IsReadProgram p → NumbersCount p
numbers_count p read before after private result name parameters body token all =
    number-counted p read before after private result name parameters body token all ∙ tokens-counted before
