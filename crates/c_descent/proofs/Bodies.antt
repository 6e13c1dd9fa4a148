-- Statements and blocks.
use Rattle.std.proofs.Common.{◌≡◌, ℕ, zero, suc, ◌+◌, ◌<◌, length, Bool, true, false, cond, not, List, [], ◌∷◌, ◌++◌, Option, Some, None, refl, sym, ap, ◌∙◌, subst, true≢false, arith, append_assoc, append-nil, length-append}
use Rattle.c_token.specs.declared.signs.Sign.TheVariants as signs
use Rattle.c_token.specs.declared.words.Word.TheVariants as words
use Rattle.c_token.specs.declared.kinds.Kind.{Kind}
use Rattle.c_token.specs.declared.kinds.Kind.TheVariants as kinds
use Rattle.c_grammar.specs.declared.expr.Expr.{Expr}
use Rattle.c_grammar.specs.declared.stmt.Stmt.{Stmt}
use Rattle.c_grammar.specs.declared.stmt.Stmt.TheVariants as stmt
use Rattle.c_grammar.specs.BoundedTokens as g
use Rattle.c_grammar.specs.BoundedTokens.{Tok, Spot, Bounded, tok_of, bounded, bounded_all}
use Rattle.c_grammar.specs.StatementGrammar as gr
use Rattle.c_grammar.specs.StatementGrammar.{IsType, Local, Simple, Maybe, First, Step, Statement, Body}
use Rattle.c_descent.specs.declared.parts.Start.{Start}
use Rattle.c_descent.specs.declared.parts.Start.TheVariants as start
use Rattle.c_descent.specs.declared.parts.LoopHead.{LoopHead}
use Rattle.c_descent.specs.declared.parts.Braces.{Braces}
use Rattle.c_descent.proofs.ListParser.{Reason, expected, deep, ParseOutcome, done, stop, Parser, follow, ◌>>=◌, gives, refuses, first_kind, is_at_word, sign_token, word_token, level}
use Rattle.c_descent.proofs.StatementParser as p
use Rattle.c_descent.proofs.StatementParser.{statement_start, start_at, plain_of, plain_at, begins_simple, begins_statement}
use Rattle.c_descent.proofs.Holds.{Seq, seq, Mapped, mapped, Alike, Holds, reaches, stops, Reaches, HoldsAt, Always, Full, mono, bind, then_reads, before, bind_at, mapping, mapped_at, by_first, dispatch, head_kind, Nothing, nothing, giving, free, no_text, full_seq, full_mapped, full_sign, Takes, Many, none_left, one_more, OpensSign, opens_sign, OpensWord, opens_word, above, above_at, above_ok, opening_sign, opening_word, deep_first, IsSign, is_sign, signing, IsWord, is_word, wording, refusing}
use Rattle.c_descent.proofs.Lists.{head_sign, head_word, listing}
use Rattle.c_descent.proofs.Chains.{zero_expression}
use Rattle.c_descent.proofs.Expressing.{if_sign}
use Rattle.c_descent.proofs.Stating.{if_word, maybe_at, Condition, condition, condition_at, full_condition, local_made, local_inside_at, simple_inside_at, plain_ended_at, empty_at}

pub deep_on : (limit : ℕ) {A : Type 0} {R : List Bounded → A → Type 0} (s : List Tok) (bound : ℕ) (ok : Option Kind → Bool) → ok None ≡ false → ok (first_kind s) ≡ true
    → ((k : Kind) → ok (Some k) ≡ true → (place : ℕ) → (more : List Bounded) × (x : A) × R (record { spot = record { place = place; bound = bound }; kind = k } ∷ more) x)
    → Holds limit (λ t. stop deep t) R s (stop deep s)
deep_on limit [] bound ok none e f = absurd (true≢false (sym e ∙ none))
deep_on limit (t ∷ ts) bound ok none e f = deep_first limit (t ∷ ts) t.kind refl bound (f t.kind e)

pub is_local : Start → Bool
is_local start.Local = true
is_local _ = false

pub head_start : (s t : List Tok) → Alike s t → start_at s ≡ start_at t
unfolding start_at
head_start s t a = ap statement_start (head_kind s t a)

pub head_plain : (s t : List Tok) → Alike s t → plain_at s ≡ plain_at t
unfolding plain_at
head_plain s t a = ap plain_of (head_kind s t a)

module _ (l : ℕ) where
  local_deep : (k : Kind) → is_local (statement_start (Some k)) ≡ true → (place : ℕ)
      → (more : List Bounded) × (x : Stmt) × Local l (record { spot = above_at l place; kind = k } ∷ more) x
  unfolding is_local
  local_deep (kinds.Word words.Int) e place = (_, _, gr.plain (above_at l place) free no_text (above_ok l place) (gr.int (above_at l place)))
  local_deep (kinds.Word words.Unsigned) e place = (_, _, gr.plain (above_at l place) free no_text (above_ok l place) (gr.unsigned (above_at l place)))
  local_deep (kinds.Word _) e place = absurd (true≢false (sym e))
  local_deep (kinds.Sign signs.LeftBrace) e place = absurd (true≢false (sym e))
  local_deep (kinds.Sign signs.Semicolon) e place = absurd (true≢false (sym e))
  local_deep (kinds.Sign _) e place = absurd (true≢false (sym e))
  local_deep (kinds.Name x) e place = absurd (true≢false (sym e))
  local_deep (kinds.Number x u) e place = absurd (true≢false (sym e))

  simple_deep : (k : Kind) → begins_simple (plain_of (Some k)) ≡ true → (place : ℕ)
      → (more : List Bounded) × (x : Stmt) × Simple l (record { spot = above_at l place; kind = k } ∷ more) x
  simple_deep (kinds.Name x) e place = (_, _, gr.assign x (above_at l place) free (above_ok l place) (zero_expression (suc l)))
  simple_deep (kinds.Word words.Release) e place = (_, _, gr.release (above_at l place) free free (above_ok l place) (zero_expression (suc l)))
  simple_deep (kinds.Word words.Check) e place = (_, _, gr.check (above_at l place) free free (above_ok l place))
  simple_deep (kinds.Word _) e place = absurd (true≢false (sym e))
  simple_deep (kinds.Sign _) e place = absurd (true≢false (sym e))
  simple_deep (kinds.Number x u) e place = absurd (true≢false (sym e))

  -- a statement, whichever
  pub St : List Bounded → Stmt → Type 0
  St ts x = (takes : Bool) × Statement l ts x takes

  pub st : (ts : List Bounded) (x : Stmt) → Statement l ts x false → St ts x
  unfolding St
  st ts x h = (false, h)

empty_above : (l : ℕ) → (ts : List Bounded) × (x : Stmt) × Statement l ts x false
empty_above l = (_, _, gr.empty (above l) (above_ok l 0))

statement_deep : (l : ℕ) (k : Kind) → begins_statement (statement_start (Some k)) ≡ true → (place : ℕ)
    → (more : List Bounded) × (x : Stmt) × St l (record { spot = above_at l place; kind = k } ∷ more) x
unfolding St
statement_deep l (kinds.Name x) e place = (_, _, (false, gr.simple free (gr.assign x (above_at l place) free (above_ok l place) (zero_expression (suc l)))))
statement_deep l (kinds.Word words.Release) e place = (_, _, (false, gr.simple free (gr.release (above_at l place) free free (above_ok l place) (zero_expression (suc l)))))
statement_deep l (kinds.Word words.Check) e place = (_, _, (false, gr.simple free (gr.check (above_at l place) free free (above_ok l place))))
statement_deep l (kinds.Word words.Return) e place = (_, _, (false, gr.return (above_at l place) free (above_ok l place) gr.nothing))
statement_deep l (kinds.Word words.Break) e place = (_, _, (false, gr.break (above_at l place) free (above_ok l place)))
statement_deep l (kinds.Word words.Continue) e place = (_, _, (false, gr.continue (above_at l place) free (above_ok l place)))
statement_deep l (kinds.Word words.If) e place = (_, _, (true, gr.if (above_at l place) free free (above_ok l place) (zero_expression (suc l)) (empty_above (suc l)).2))
statement_deep l (kinds.Word words.While) e place = (_, _, (false, gr.while (above_at l place) free free (above_ok l place) (zero_expression (suc l)) (empty_above (suc l)).2))
statement_deep l (kinds.Word words.For) e place = (_, _, (false, gr.for (above_at l place) free free free free (above_ok l place) gr.nothing gr.nothing gr.nothing (empty_above (suc l)).2))
statement_deep l (kinds.Word _) e place = absurd (true≢false (sym e))
statement_deep l (kinds.Sign signs.LeftBrace) e place = (_, _, (false, gr.block (above_at l place) free (above_ok l place) gr.nothing))
statement_deep l (kinds.Sign signs.Semicolon) e place = (_, _, (false, gr.empty (above_at l place) (above_ok l place)))
statement_deep l (kinds.Sign _) e place = absurd (true≢false (sym e))
statement_deep l (kinds.Number x u) e place = absurd (true≢false (sym e))

-- where so many levels are open, and so many are left
module _ (limit : ℕ) where
  pub local_at : (n l : ℕ) → l + n ≡ limit → (s : List Tok) → is_local (start_at s) ≡ true → Holds limit (p.local_statement limit n) (Local l) s (p.local_statement limit n s)
  unfolding p.local_statement is_local start_at
  local_at zero l e s q = deep_on limit s (suc l) (λ o. is_local (statement_start o)) refl q (local_deep l)
  local_at (suc n) l e s q = mono limit (local_made limit n l (omega (arith, e))) (local_inside_at limit n l (omega (arith, e)) s)

  full_simple : (l : ℕ) → Full (Simple l)
  full_simple l = (_, _, gr.check (above l) free free (above_ok l 0))

  opened_simple : (n l : ℕ) → l + n ≡ limit → (s : List Tok) → begins_simple (plain_at s) ≡ true → Holds limit (level n (p.simple_inside limit)) (Simple l) s (level n (p.simple_inside limit) s)
  unfolding plain_at
  opened_simple zero l e s q = deep_on limit s (suc l) (λ o. begins_simple (plain_of o)) refl q (simple_deep l)
  opened_simple (suc n) l e s q = simple_inside_at limit n l (omega (arith, e)) s

  simple_if : ℕ → Bool → Parser Stmt
  simple_if n b s = cond b (level n (p.simple_inside limit) s) (stop expected s)

  pub simple_at : (n l : ℕ) → l + n ≡ limit → Always limit (p.simple limit n) (Simple l)
  unfolding p.simple simple_if
  simple_at n l e s = dispatch limit (λ s. begins_simple (plain_at s)) (simple_if n) (λ s t a. ap begins_simple (head_plain s t a)) s each
    where
      each : (b : Bool) → begins_simple (plain_at s) ≡ b → Holds limit (simple_if n b) (Simple l) s (simple_if n b s)
      each true q = opened_simple n l e s q
      each false q = refusing limit (full_simple l) s

  -- the head of a `for`
  module _ (n l : ℕ) (e : l + n ≡ limit) where
    first_none : (ts : List Bounded) (x : Option Stmt) → Nothing None ts x → First l ts x
    first_none _ _ nothing = gr.nothing

    first_local : (ts : List Bounded) (x : Option Stmt) → Mapped (Local l) Some ts x → First l ts x
    first_local ts x (mapped y h q) = subst (λ x. First l ts x) (sym q) (gr.local h)

    first_simple : (ts : List Bounded) (x : Option Stmt) → Mapped (Simple l) Some ts x → First l ts x
    first_simple ts x (mapped y h q) = subst (λ x. First l ts x) (sym q) (gr.simple h)

    first_at : Always limit (p.first_part limit n) (First l)
    unfolding p.first_part is_local
    first_at s = dispatch limit start_at (p.first_by limit n) head_start s each
      where
        each : (k : Start) → start_at s ≡ k → Holds limit (p.first_by limit n k) (First l) s (p.first_by limit n k s)
        each start.Empty q = mono limit first_none (giving limit None s)
        each start.Local q = mono limit first_local (mapped_at limit Some (local_at n l e s (ap is_local q)))
        each start.Block q = mono limit first_simple (mapping limit Some (simple_at n l e) s)
        each start.Plain q = mono limit first_simple (mapping limit Some (simple_at n l e) s)
        each start.If q = mono limit first_simple (mapping limit Some (simple_at n l e) s)
        each start.While q = mono limit first_simple (mapping limit Some (simple_at n l e) s)
        each start.For q = mono limit first_simple (mapping limit Some (simple_at n l e) s)
        each start.Other q = mono limit first_simple (mapping limit Some (simple_at n l e) s)

    step_none : (ts : List Bounded) (x : Option Stmt) → Nothing None ts x → Step l ts x
    step_none _ _ nothing = gr.nothing

    step_simple : (ts : List Bounded) (x : Option Stmt) → Mapped (Simple l) Some ts x → Step l ts x
    step_simple ts x (mapped y h q) = subst (λ x. Step l ts x) (sym q) (gr.simple h)

    step_at : Always limit (p.step_part limit n) (Step l)
    unfolding p.step_part
    step_at s = if_sign limit signs.RightParenthesis _ _ s
        (λ q. mono limit step_none (giving limit None s))
        (λ q. mono limit step_simple (mapping limit Some (simple_at n l e) s))

    Opening : List Bounded → Option Stmt → Type 0
    Opening = Seq (IsSign signs.LeftParenthesis) (λ _. Seq (First l) (λ first. Mapped (IsSign signs.Semicolon) (λ _. first)))

    Testing : List Bounded → Option Expr → Type 0
    Testing = Seq (Maybe l) (λ test. Mapped (IsSign signs.Semicolon) (λ _. test))

    Closing : List Bounded → Option Stmt → Type 0
    Closing = Seq (Step l) (λ step. Mapped (IsSign signs.RightParenthesis) (λ _. step))

    -- the head, as its parts in a row
    pub data Heading : List Bounded → LoopHead → Type 0 where
      heading : {ts us vs : List Bounded} {first step : Option Stmt} {test : Option Expr} (left second third right : Spot)
          → First l ts first → Maybe l us test → Step l vs step
          → Heading (g.sign left signs.LeftParenthesis ∷ ts ++ (g.sign second signs.Semicolon ∷ us ++ (g.sign third signs.Semicolon ∷ vs ++ g.sign right signs.RightParenthesis ∷ [])))
          (record { first = first; test = test; step = step })

    heading_made : (ts : List Bounded) (x : LoopHead)
        → Seq Opening (λ first. Seq Testing (λ test. Mapped Closing (λ step. record { first = first; test = test; step = step }))) ts x → Heading ts x
    unfolding Opening Testing Closing
    heading_made _ x (seq {y = f} _ _ (seq _ _ (is_sign left) (seq {y = first} ts _ h (mapped _ (is_sign second) q)))
        (seq {y = t} _ _ (seq {y = test} us _ i (mapped _ (is_sign third) r)) (mapped s (seq {y = step} vs _ j (mapped _ (is_sign right) u)) w))) =
        subst (λ ts. Heading (g.sign left signs.LeftParenthesis ∷ ts) x)
        (sym (append_assoc ts (g.sign second signs.Semicolon ∷ []) ((us ++ g.sign third signs.Semicolon ∷ []) ++ (vs ++ g.sign right signs.RightParenthesis ∷ []))
        ∙ ap (λ us. ts ++ (g.sign second signs.Semicolon ∷ us)) (append_assoc us (g.sign third signs.Semicolon ∷ []) (vs ++ g.sign right signs.RightParenthesis ∷ []))))
        (subst (λ x. Heading (g.sign left signs.LeftParenthesis ∷ ts ++ (g.sign second signs.Semicolon ∷ us ++ (g.sign third signs.Semicolon ∷ vs ++ g.sign right signs.RightParenthesis ∷ []))) x)
        (sym (w ∙ ap (λ first. record { first = first; test = t; step = s }) q ∙ ap (λ test. record { first = first; test = test; step = s }) r ∙ ap (λ step. record { first = first; test = test; step = step }) u))
        (heading left second third right h i j))

    head_at : Always limit (p.head limit n) Heading
    unfolding p.head p.opening p.test_part p.closing Opening Testing Closing
    head_at s = mono limit heading_made (bind limit _ (λ first. full_seq (full_seq ([], None, gr.nothing) (λ _. full_mapped _ (full_sign signs.Semicolon))) (λ test. full_mapped _ full_closing))
        (bind limit _ (λ _. full_seq ([], None, gr.nothing) (λ _. full_mapped _ (full_sign signs.Semicolon))) (signing limit signs.LeftParenthesis)
        (λ _. bind limit _ (λ _. full_mapped _ (full_sign signs.Semicolon)) first_at (λ _. mapping limit _ (signing limit signs.Semicolon))))
        (λ first. bind limit _ (λ test. full_mapped _ full_closing)
        (bind limit _ (λ _. full_mapped _ (full_sign signs.Semicolon)) (maybe_at limit n l e) (λ _. mapping limit _ (signing limit signs.Semicolon)))
        (λ test. mapping limit _ (bind limit _ (λ _. full_mapped _ (full_sign signs.RightParenthesis)) step_at (λ _. mapping limit _ (signing limit signs.RightParenthesis))))) s)
      where
        full_closing : Full (Seq (Step l) (λ step. Mapped (IsSign signs.RightParenthesis) (λ _. step)))
        full_closing = full_seq ([], None, gr.nothing) (λ _. full_mapped _ (full_sign signs.RightParenthesis))

    full_heading : Full Heading
    full_heading = (_, _, heading free free free free gr.nothing gr.nothing gr.nothing)

-- where a parser is done
module _ {A : Type 0} where
  rest_of : List Tok → ParseOutcome A → List Tok
  rest_of d (done x rest) = rest
  rest_of d (stop reason rest) = d

  same_rest : (x y : A) (r s : List Tok) → done x r ≡ done y s → r ≡ s
  unfolding rest_of
  same_rest x y r s e = ap (rest_of r) e

  ended_done : ParseOutcome A → Bool
  ended_done (done x rest) = true
  ended_done (stop reason rest) = false

  not_done : {reason : Reason} {r s : List Tok} {x : A} → stop reason r ≡ done x s → ⊥
  unfolding ended_done
  not_done e = true≢false (sym (ap ended_done e))

done_follow : {A B : Type 0} (o : ParseOutcome A) (f : A → Parser B) (x : B) (rest : List Tok) → follow o f ≡ done x rest
    → (y : A) × (left : List Tok) × (o ≡ done y left) × (f y left ≡ done x rest)
done_follow (done y left) f x rest e = (y, left, refl, e)
done_follow (stop reason left) f x rest e = absurd (not_done e)

module _ (limit : ℕ) where
  reached : {A : Type 0} {p : Parser A} {R : List Bounded → A → Type 0} {s rest : List Tok} {x : A} → Holds limit p R s (done x rest) → Reaches limit p R s x rest
  reached (reaches h) = h

  pub bind_end : {A B : Type 0} (p : Parser A) (f : A → Parser B) {R : List Bounded → A → Type 0} {S : A → List Bounded → B → Type 0} (s : List Tok) (x : B) (rest : List Tok)
      → follow (p s) f ≡ done x rest → HoldsAt limit p R s
      → ((y : A) (left : List Tok) → p s ≡ done y left → f y left ≡ done x rest → Holds limit (f y) (S y) left (done x rest))
      → Holds limit (p >>= f) (Seq R S) s (done x rest)
  bind_end p f {R} {S} s x rest e h k = go (done_follow (p s) f x rest e)
    where
      go : (y : _) × (left : List Tok) × (p s ≡ done y left) × (f y left ≡ done x rest) → Holds limit (p >>= f) (Seq R S) s (done x rest)
      go (y, left, a, b) = then_reads limit f (reached (subst (λ o. Holds limit p R s o) a h)) (k y left a b)

  pub mapped_end : {A B : Type 0} (p : Parser A) (f : A → B) {R : List Bounded → A → Type 0} (s : List Tok) (x : B) (rest : List Tok)
      → follow (p s) (λ y. gives (f y)) ≡ done x rest → ((y : A) → p s ≡ done y rest → Holds limit p R s (done y rest))
      → Holds limit (p >>= (λ y. gives (f y))) (Mapped R f) s (done x rest)
  mapped_end {A} p f {R} s x rest e k = go (done_follow (p s) (λ y. gives (f y)) x rest e)
    where
      go : (y : A) × (left : List Tok) × (p s ≡ done y left) × (done (f y) left ≡ done x rest) → Holds limit (p >>= (λ y. gives (f y))) (Mapped R f) s (done x rest)
      go (y, left, a, b) = subst (λ o. Holds limit (p >>= (λ y. gives (f y))) (Mapped R f) s o) (ap (done (f y)) (sym (same_rest (f y) x left rest b)) ∙ b)
          (mapped_at limit f (k y (a ∙ ap (done y) (same_rest (f y) x left rest b))))

  abbrev pub AtElse : List Tok → Type 0
  AtElse rest = is_at_word words.Else rest ≡ true

  -- Before an `else` a statement ends that could not take it.
  abbrev pub Shut : ℕ → Parser Stmt → Type 0
  Shut l p = (s : List Tok) (x : Stmt) (rest : List Tok) → p s ≡ done x rest → AtElse rest → Holds limit p (λ ts x. Statement l ts x false) s (done x rest)

  -- a loop and a condition over statements one level deeper
  module _ (n l : ℕ) (e : suc l + n ≡ limit) {S : Parser Stmt} (always : Always limit S (St (suc l))) (shut : Shut (suc l) S) where
    under : l < limit
    under = omega (arith, e)

    full_st : (k : ℕ) → Full (St k)
    unfolding St
    full_st k = ((empty_above k).0, (empty_above k).1, (false, (empty_above k).2))

    While : (List Bounded → Stmt → Type 0) → List Bounded → Stmt → Type 0
    While Q = Seq (OpensWord l words.While) (λ place. Seq (Condition (suc l)) (λ test. Mapped Q (λ body. stmt.While test body place)))

    while_one : (takes : Bool) (at : Spot) → l < at.bound → (ts : List Bounded) (test : Expr) → Condition (suc l) ts test → (us : List Bounded) (body : Stmt)
        → Statement (suc l) us body takes → Statement l (g.word at words.While ∷ ts ++ us) (stmt.While test body at.place) takes
    while_one takes at h _ test (condition {ts} left right c) us body b =
        subst (λ ts. Statement l (g.word at words.While ∷ g.sign left signs.LeftParenthesis ∷ ts) (stmt.While test body at.place) takes)
        (sym (append_assoc ts (g.sign right signs.RightParenthesis ∷ []) us)) (gr.while at left right h c b)

    while_made : (takes : Bool) (ts : List Bounded) (x : Stmt) → While (λ ts x. Statement (suc l) ts x takes) ts x → Statement l ts x takes
    unfolding While
    while_made takes _ x (seq _ _ (opens_word at h) (seq {y = test} ts us c (mapped body b q))) =
        subst (λ x. Statement l (g.word at words.While ∷ ts ++ us) x takes) (sym q) (while_one takes at h ts test c us body b)

    while_st : (ts : List Bounded) (x : Stmt) → While (St (suc l)) ts x → St l ts x
    unfolding While St
    while_st _ x (seq _ _ (opens_word at h) (seq {y = test} ts us c (mapped body b q))) =
        (b.0, subst (λ x. Statement l (g.word at words.While ∷ ts ++ us) x b.0) (sym q) (while_one b.0 at h ts test c us body b.1))

    while_at : Always limit (p.while_loop limit n S) (St l)
    unfolding p.while_loop While
    while_at s = mono limit while_st (bind limit _ (λ place. full_seq (full_condition limit n (suc l) e) (λ test. full_mapped _ (full_st (suc l)))) (opening_word limit l words.While under)
        (λ place. bind limit _ (λ test. full_mapped _ (full_st (suc l))) (condition_at limit n (suc l) e) (λ test. mapping limit _ always)) s)

    while_shut : Shut l (p.while_loop limit n S)
    unfolding p.while_loop While
    while_shut s x rest q a = mono limit (while_made false) (bind_end _ _ s x rest q (opening_word limit l words.While under s)
        (λ place s1 _ q1. bind_end _ _ s1 x rest q1 (condition_at limit n (suc l) e s1)
        (λ test s2 _ q2. mapped_end S _ s2 x rest q2 (λ y r. shut s2 y rest r a))))

    For : (List Bounded → Stmt → Type 0) → List Bounded → Stmt → Type 0
    For Q = Seq (OpensWord l words.For) (λ place. Seq (Heading limit n (suc l) e) (λ parts. Mapped Q (λ body. stmt.For parts.first parts.test parts.step body place)))

    for_one : (takes : Bool) (at : Spot) → l < at.bound → (ts : List Bounded) (parts : LoopHead) → Heading limit n (suc l) e ts parts → (ws : List Bounded) (body : Stmt)
        → Statement (suc l) ws body takes → Statement l (g.word at words.For ∷ ts ++ ws) (stmt.For parts.first parts.test parts.step body at.place) takes
    for_one takes at h _ _ (heading {ts} {us} {vs} {first} {step} {test} left second third right f t p) ws body b =
        subst (λ ts. Statement l (g.word at words.For ∷ g.sign left signs.LeftParenthesis ∷ ts) (stmt.For first test step body at.place) takes)
        (sym (append_assoc ts (g.sign second signs.Semicolon ∷ us ++ (g.sign third signs.Semicolon ∷ vs ++ g.sign right signs.RightParenthesis ∷ [])) ws
        ∙ ap (λ us. ts ++ (g.sign second signs.Semicolon ∷ us)) (append_assoc us (g.sign third signs.Semicolon ∷ vs ++ g.sign right signs.RightParenthesis ∷ []) ws)
        ∙ ap (λ vs. ts ++ (g.sign second signs.Semicolon ∷ us ++ (g.sign third signs.Semicolon ∷ vs))) (append_assoc vs (g.sign right signs.RightParenthesis ∷ []) ws)))
        (gr.for at left second third right h f t p b)

    for_made : (takes : Bool) (ts : List Bounded) (x : Stmt) → For (λ ts x. Statement (suc l) ts x takes) ts x → Statement l ts x takes
    unfolding For
    for_made takes _ x (seq _ _ (opens_word at h) (seq {y = parts} ts us c (mapped body b q))) =
        subst (λ x. Statement l (g.word at words.For ∷ ts ++ us) x takes) (sym q) (for_one takes at h ts parts c us body b)

    for_st : (ts : List Bounded) (x : Stmt) → For (St (suc l)) ts x → St l ts x
    unfolding For St
    for_st _ x (seq _ _ (opens_word at h) (seq {y = parts} ts us c (mapped body b q))) =
        (b.0, subst (λ x. Statement l (g.word at words.For ∷ ts ++ us) x b.0) (sym q) (for_one b.0 at h ts parts c us body b.1))

    for_at : Always limit (p.for_loop limit n S) (St l)
    unfolding p.for_loop For
    for_at s = mono limit for_st (bind limit _ (λ place. full_seq (full_heading limit n (suc l) e) (λ parts. full_mapped _ (full_st (suc l)))) (opening_word limit l words.For under)
        (λ place. bind limit _ (λ parts. full_mapped _ (full_st (suc l))) (head_at limit n (suc l) e) (λ parts. mapping limit _ always)) s)

    for_shut : Shut l (p.for_loop limit n S)
    unfolding p.for_loop For
    for_shut s x rest q a = mono limit (for_made false) (bind_end _ _ s x rest q (opening_word limit l words.For under s)
        (λ place s1 _ q1. bind_end _ _ s1 x rest q1 (head_at limit n (suc l) e s1)
        (λ parts s2 _ q2. mapped_end S _ s2 x rest q2 (λ y r. shut s2 y rest r a))))

    -- what stands after a condition: a statement, and maybe another after `else`
    data Tail (place : ℕ) (test : Expr) : List Bounded → Stmt → Bool → Type 0 where
      no_else : {ts : List Bounded} {body : Stmt} {takes : Bool} → Statement (suc l) ts body takes → Tail place test ts (stmt.If test body None place) true
      with_else : {ts us : List Bounded} {body other : Stmt} {takes : Bool} (at : Spot) → Statement (suc l) ts body false → Statement (suc l) us other takes
          → Tail place test (ts ++ g.word at words.Else ∷ us) (stmt.If test body (Some other) place) takes

    AnyTail : ℕ → Expr → List Bounded → Stmt → Type 0
    AnyTail place test ts x = (takes : Bool) × Tail place test ts x takes

    other_of : ℕ → Expr → Stmt → Option Stmt → Stmt
    other_of place test body other = stmt.If test body other place

    after_body : ℕ → Expr → Stmt → Parser Stmt
    after_body place test body = p.optional_else S >>= (λ other. gives (other_of place test body other))

    -- no `else` follows
    lone_made : (place : ℕ) (test : Expr) (ts : List Bounded) (x : Stmt)
        → Seq (St (suc l)) (λ body. Mapped (Nothing None) (λ other. other_of place test body other)) ts x → AnyTail place test ts x
    unfolding AnyTail St other_of
    lone_made place test _ x (seq {y = body} ts _ b (mapped _ nothing q)) =
        (true, subst (λ us. Tail place test us x true) (sym (append-nil ts)) (subst (λ x. Tail place test ts x true) (sym q) (no_else b.1)))

    ElseR : (List Bounded → Stmt → Type 0) → List Bounded → Option Stmt → Type 0
    ElseR Q = Seq (IsWord words.Else) (λ _. Mapped Q Some)

    else_one : (takes : Bool) (place : ℕ) (test : Expr) (ts : List Bounded) (body : Stmt) → Statement (suc l) ts body false → (us : List Bounded) (other : Option Stmt)
        → ElseR (λ ts x. Statement (suc l) ts x takes) us other → Tail place test (ts ++ us) (other_of place test body other) takes
    unfolding ElseR other_of
    else_one takes place test ts body b _ other (seq _ us (is_word at) (mapped y h q)) =
        subst (λ other. Tail place test (ts ++ g.word at words.Else ∷ us) (stmt.If test body other place) takes) (sym q) (with_else at b h)

    else_made : (takes : Bool) (place : ℕ) (test : Expr) (ts : List Bounded) (x : Stmt)
        → Seq (λ ts x. Statement (suc l) ts x false) (λ body. Mapped (ElseR (λ ts x. Statement (suc l) ts x takes)) (λ other. other_of place test body other)) ts x → Tail place test ts x takes
    else_made takes place test _ x (seq {y = body} ts us b (mapped other h q)) = subst (λ x. Tail place test (ts ++ us) x takes) (sym q) (else_one takes place test ts body b us other h)

    -- whatever follows the other statement
    pick : (place : ℕ) (test : Expr) (ts : List Bounded) (body : Stmt) → Statement (suc l) ts body false → (us : List Bounded) (other : Option Stmt)
        → ElseR (St (suc l)) us other → AnyTail place test (ts ++ us) (other_of place test body other)
    unfolding ElseR AnyTail St other_of
    pick place test ts body b _ other (seq _ us (is_word at) (mapped y h q)) =
        (h.0, subst (λ other. Tail place test (ts ++ g.word at words.Else ∷ us) (stmt.If test body other place) h.0) (sym q) (with_else at b h.1))

    pick_made : (place : ℕ) (test : Expr) (ts : List Bounded) (x : Stmt)
        → Seq (λ ts x. Statement (suc l) ts x false) (λ body. Mapped (ElseR (St (suc l))) (λ other. other_of place test body other)) ts x → AnyTail place test ts x
    pick_made place test _ x (seq {y = body} ts us b (mapped other h q)) = subst (λ x. AnyTail place test (ts ++ us) x) (sym q) (pick place test ts body b us other h)

    else_at : (s : List Tok) → AtElse s → Holds limit (p.optional_else S) (ElseR (St (suc l))) s (p.optional_else S s)
    unfolding p.optional_else ElseR
    else_at s a = if_word limit words.Else _ _ s
        (λ q. bind limit _ (λ _. full_mapped Some (full_st (suc l))) (wording limit words.Else) (λ _. mapping limit Some always) s)
        (λ q. absurd (true≢false (sym a ∙ q)))

    lone_at : (s : List Tok) → is_at_word words.Else s ≡ false → Holds limit (p.optional_else S) (Nothing None) s (p.optional_else S s)
    unfolding p.optional_else
    lone_at s a = if_word limit words.Else _ _ s (λ q. absurd (true≢false (sym q ∙ a))) (λ q. giving limit None s)

    tail_with : (place : ℕ) (test : Expr) (s rest : List Tok) (body : Stmt) → S s ≡ done body rest → Holds limit S (St (suc l)) s (done body rest) → (b : Bool) → is_at_word words.Else rest ≡ b
        → Holds limit (S >>= after_body place test) (AnyTail place test) s (after_body place test body rest)
    unfolding after_body
    tail_with place test s rest body q h true a = mono limit (pick_made place test)
        (then_reads limit _ (reached (shut s body rest q a)) (mapped_at limit (other_of place test body) (else_at rest a)))
    tail_with place test s rest body q h false a = mono limit (lone_made place test)
        (then_reads limit _ (reached h) (mapped_at limit (other_of place test body) (lone_at rest a)))

    tail_go : (place : ℕ) (test : Expr) (s : List Tok) (o : ParseOutcome Stmt) → S s ≡ o → Holds limit S (St (suc l)) s o
        → Holds limit (S >>= after_body place test) (AnyTail place test) s (follow o (after_body place test))
    tail_go place test s (done body rest) q h = tail_with place test s rest body q h (is_at_word words.Else rest) refl
    tail_go place test s (stop reason rest) q (stops h) = mono limit (lone_made place test)
        (before limit (after_body place test) (λ body. ([], _, mapped None nothing refl)) h)

    tail_at : (place : ℕ) (test : Expr) → Always limit (S >>= after_body place test) (AnyTail place test)
    tail_at place test s = tail_go place test s (S s) refl (always s)

    full_tail : (place : ℕ) (test : Expr) → Full (AnyTail place test)
    unfolding AnyTail St
    full_tail place test = (_, _, (true, no_else (full_st (suc l)).2.1))

    -- the other statement ends before an `else`
    else_read : Parser (Option Stmt)
    else_read s = follow (word_token words.Else s) (λ _ t. follow (S t) (λ other. gives (Some other)))

    else_if : Bool → Parser (Option Stmt)
    else_if b s = cond b (else_read s) (done None s)

    other_end : (s : List Tok) (x : Option Stmt) (rest : List Tok) → p.optional_else S s ≡ done x rest → AtElse s → AtElse rest
        → Holds limit (p.optional_else S) (ElseR (λ ts x. Statement (suc l) ts x false)) s (done x rest)
    unfolding p.optional_else ElseR else_read else_if
    other_end s x rest q a b = by_first limit (is_at_word words.Else) else_if (head_word words.Else)
        (subst (λ t. Holds limit (else_if t) (ElseR (λ ts x. Statement (suc l) ts x false)) s (done x rest)) (sym a)
        (bind_end (word_token words.Else) _ s x rest (ap (λ t. cond t (else_read s) (done None s)) (sym a) ∙ q) (wording limit words.Else s)
        (λ _ s1 _ q1. mapped_end S Some s1 x rest q1 (λ y r. shut s1 y rest r b))))

    lone_end : (place : ℕ) (test : Expr) (body x : Stmt) (s rest : List Tok) → is_at_word words.Else s ≡ false → after_body place test body s ≡ done x rest → s ≡ rest
    unfolding after_body p.optional_else else_read
    lone_end place test body x s rest a q = same_rest (other_of place test body None) x s rest
        (ap (λ t. follow (cond t (else_read s) (done None s)) (λ other. gives (other_of place test body other))) (sym a) ∙ q)

    tail_end : (place : ℕ) (test : Expr) (s : List Tok) (x : Stmt) (rest : List Tok) → AtElse rest → (body : Stmt) (left : List Tok) → S s ≡ done body left
        → after_body place test body left ≡ done x rest → (b : Bool) → is_at_word words.Else left ≡ b
        → Holds limit (S >>= after_body place test) (λ ts x. Tail place test ts x false) s (done x rest)
    unfolding after_body
    tail_end place test s x rest a body left q r true t = mono limit (else_made false place test)
        (then_reads limit _ (reached (shut s body left q t)) (mapped_end (p.optional_else S) (other_of place test body) left x rest r (λ other u. other_end left other rest u t a)))
    tail_end place test s x rest a body left q r false t = absurd (true≢false (sym a ∙ ap (is_at_word words.Else) (sym (lone_end place test body x left rest t r)) ∙ t))

    tail_shut : (place : ℕ) (test : Expr) (s : List Tok) (x : Stmt) (rest : List Tok) → follow (S s) (after_body place test) ≡ done x rest → AtElse rest
        → Holds limit (S >>= after_body place test) (λ ts x. Tail place test ts x false) s (done x rest)
    tail_shut place test s x rest q a = go (done_follow (S s) (after_body place test) x rest q)
      where
        go : (y : Stmt) × (left : List Tok) × (S s ≡ done y left) × (after_body place test y left ≡ done x rest)
            → Holds limit (S >>= after_body place test) (λ ts x. Tail place test ts x false) s (done x rest)
        go (body, left, u, v) = tail_end place test s x rest a body left u v (is_at_word words.Else left) refl

    If : (ℕ → Expr → List Bounded → Stmt → Type 0) → List Bounded → Stmt → Type 0
    If T = Seq (OpensWord l words.If) (λ place. Seq (Condition (suc l)) (λ test. T place test))

    if_one : (takes : Bool) (at : Spot) → l < at.bound → (ts : List Bounded) (test : Expr) → Condition (suc l) ts test → (us : List Bounded) (x : Stmt)
        → Tail at.place test us x takes → Statement l (g.word at words.If ∷ ts ++ us) x takes
    if_one _ at h _ test (condition {ts} left right c) us _ (no_else {body} b) =
        subst (λ ts. Statement l (g.word at words.If ∷ g.sign left signs.LeftParenthesis ∷ ts) (stmt.If test body None at.place) true)
        (sym (append_assoc ts (g.sign right signs.RightParenthesis ∷ []) us)) (gr.if at left right h c b)
    if_one takes at h _ test (condition {ts} left right c) _ _ (with_else {ts = us} {us = vs} {body} {other} else b d) =
        subst (λ ts. Statement l (g.word at words.If ∷ g.sign left signs.LeftParenthesis ∷ ts) (stmt.If test body (Some other) at.place) takes)
        (sym (append_assoc ts (g.sign right signs.RightParenthesis ∷ []) (us ++ g.word else words.Else ∷ vs))) (gr.if_else at left right else h c b d)

    if_made : (takes : Bool) (ts : List Bounded) (x : Stmt) → If (λ place test ts x. Tail place test ts x takes) ts x → Statement l ts x takes
    unfolding If
    if_made takes _ x (seq _ _ (opens_word at h) (seq {y = test} ts us c t)) = if_one takes at h ts test c us x t

    if_st : (ts : List Bounded) (x : Stmt) → If AnyTail ts x → St l ts x
    unfolding If St AnyTail
    if_st _ x (seq _ _ (opens_word at h) (seq {y = test} ts us c t)) = (t.0, if_one t.0 at h ts test c us x t.1)

    if_at : Always limit (p.conditional limit n S) (St l)
    unfolding p.conditional If after_body other_of
    if_at s = mono limit if_st (bind limit _ (λ place. full_seq (full_condition limit n (suc l) e) (λ test. full_tail place test)) (opening_word limit l words.If under)
        (λ place. bind limit _ (λ test. full_tail place test) (condition_at limit n (suc l) e) (λ test. tail_at place test)) s)

    if_shut : Shut l (p.conditional limit n S)
    unfolding p.conditional If after_body other_of
    if_shut s x rest q a = mono limit (if_made false) (bind_end _ _ s x rest q (opening_word limit l words.If under s)
        (λ place s1 _ q1. bind_end _ _ s1 x rest q1 (condition_at limit n (suc l) e s1) (λ test s2 _ q2. tail_shut place test s2 x rest q2 a)))

-- the locals and statements of a block, where so many levels are open around them and so many are left
pub data Entry (l : ℕ) : List Bounded → Stmt → Type 0 where
  local_entry : {ts : List Bounded} {x : Stmt} (end : Spot) → Local l ts x → Entry l (ts ++ g.sign end signs.Semicolon ∷ []) x
  statement_entry : {ts : List Bounded} {x : Stmt} {takes : Bool} → Statement l ts x takes → Entry l ts x

simple_takes : (l : ℕ) (ts : List Bounded) (x : Stmt) → Simple l ts x → 0 < length ts
simple_takes l _ _ (gr.assign text at equals h v) = omega arith
simple_takes l _ _ (gr.assign_at text at left right equals h i v w) = omega arith
simple_takes l _ _ (gr.call text at h k) = omega arith
simple_takes l _ _ (gr.release at left right h v) = omega arith
simple_takes l _ _ (gr.check at left right h) = omega arith

longer : (ts us : List Bounded) → 0 < length us → 0 < length (ts ++ us)
longer ts us h = rw (length-append ts us) (omega (arith, h))

statement_takes : (l : ℕ) (ts : List Bounded) (x : Stmt) (takes : Bool) → Statement l ts x takes → 0 < length ts
statement_takes l _ _ _ (gr.block left right h b) = omega arith
statement_takes l _ _ _ (gr.empty at h) = omega arith
statement_takes l _ _ _ (gr.simple {ts} end k) = longer ts (g.sign end signs.Semicolon ∷ []) (omega arith)
statement_takes l _ _ _ (gr.return at end h m) = omega arith
statement_takes l _ _ _ (gr.break at end h) = omega arith
statement_takes l _ _ _ (gr.continue at end h) = omega arith
statement_takes l _ _ _ (gr.if at left right h t b) = omega arith
statement_takes l _ _ _ (gr.if_else at left right else h t b o) = omega arith
statement_takes l _ _ _ (gr.while at left right h t b) = omega arith
statement_takes l _ _ _ (gr.for at left second third right h f t p b) = omega arith

pub entry_takes : (l : ℕ) → Takes (Entry l)
entry_takes l _ _ (local_entry {ts} end h) = longer ts (g.sign end signs.Semicolon ∷ []) (omega arith)
entry_takes l ts x (statement_entry {takes} h) = statement_takes l ts x takes h

body_put : (l : ℕ) (ts us : List Bounded) (x : Stmt) (xs : List Stmt) → Entry l ts x → Body l us xs → Body l (ts ++ us) (x ∷ xs)
body_put l _ us x xs (local_entry {ts} end h) b = subst (λ ts. Body l ts (x ∷ xs)) (sym (append_assoc ts (g.sign end signs.Semicolon ∷ []) us)) (gr.local end h b)
body_put l ts us x xs (statement_entry h) b = gr.statement h b

body_made : (l : ℕ) (ts : List Bounded) (xs : List Stmt) → Many (Entry l) ts xs → Body l ts xs
body_made l _ _ none_left = gr.nothing
body_made l _ _ (one_more {x} {xs} ts us h m) = body_put l ts us x xs h (body_made l us xs m)

module _ (limit n l : ℕ) (e : l + n ≡ limit) {S : Parser Stmt} (always : Always limit S (St l)) where
  local_ended : (ts : List Bounded) (x : Stmt) → Seq (Local l) (λ tree. Mapped (IsSign signs.Semicolon) (λ _. tree)) ts x → Entry l ts x
  local_ended _ x (seq ts _ h (mapped _ (is_sign end) q)) = subst (λ x. Entry l (ts ++ g.sign end signs.Semicolon ∷ []) x) (sym q) (local_entry end h)

  st_entry : (ts : List Bounded) (x : Stmt) → St l ts x → Entry l ts x
  unfolding St
  st_entry ts x h = statement_entry h.1

  pub entry_at : Always limit (p.entry limit n S) (Entry l)
  unfolding p.entry p.ended is_local
  entry_at s = dispatch limit start_at (p.entry_by limit n S) head_start s each
    where
      each : (k : Start) → start_at s ≡ k → Holds limit (p.entry_by limit n S k) (Entry l) s (p.entry_by limit n S k s)
      each start.Local q = mono limit local_ended (bind_at limit _ (λ tree. full_mapped _ (full_sign signs.Semicolon)) (λ tree. mapping limit _ (signing limit signs.Semicolon)) (local_at limit n l e s (ap is_local q)))
      each start.Block q = mono limit st_entry (always s)
      each start.Empty q = mono limit st_entry (always s)
      each start.Plain q = mono limit st_entry (always s)
      each start.If q = mono limit st_entry (always s)
      each start.While q = mono limit st_entry (always s)
      each start.For q = mono limit st_entry (always s)
      each start.Other q = mono limit st_entry (always s)

  pub head_goes : (s t : List Tok) → Alike s t → p.block_goes_on s ≡ p.block_goes_on t
  unfolding p.block_goes_on
  head_goes s t a = ap not (head_sign signs.RightBrace s t a)

  pub entries_at : Always limit (p.entries limit n S) (Body l)
  unfolding p.entries
  entries_at s = mono limit (body_made l) (listing limit p.block_goes_on head_goes entry_at (entry_takes l) s)

  -- `{`, locals and statements, and `}`
  unfoldable pub Braced : (List Bounded → ℕ → Type 0) → List Bounded → Braces → Type 0
  Braced Q = Seq Q (λ place. Seq (Body l) (λ body. Mapped (IsSign signs.RightBrace) (λ _. record { body = body; token = place })))

  pub full_body : Full (Body l)
  full_body = ([], [], gr.nothing)

  pub braced_at : {Q : List Bounded → ℕ → Type 0} → Always limit (sign_token signs.LeftBrace) Q → Always limit (p.braced limit n S) (Braced Q)
  unfolding p.braced Braced
  braced_at q = bind limit _ (λ place. full_seq full_body (λ body. full_mapped _ (full_sign signs.RightBrace))) q
      (λ place. bind limit _ (λ body. full_mapped _ (full_sign signs.RightBrace)) entries_at (λ body. mapping limit _ (signing limit signs.RightBrace)))

-- every statement
module _ (limit n l : ℕ) (e : suc l + n ≡ limit) {S : Parser Stmt} (always : Always limit S (St (suc l))) (shut : Shut limit (suc l) S) where
  block_made : (ts : List Bounded) (x : Stmt)
      → Mapped (Braced limit n (suc l) e always (OpensSign l signs.LeftBrace)) (λ parts. stmt.Block parts.body parts.token) ts x → Statement l ts x false
  unfolding Braced
  block_made _ x (mapped parts (seq _ _ (opens_sign left h) (seq {y = body} ts _ b (mapped _ (is_sign right) q))) r) =
      subst (λ x. Statement l (g.sign left signs.LeftBrace ∷ ts ++ g.sign right signs.RightBrace ∷ []) x false)
      (sym (r ∙ ap (λ parts. stmt.Block parts.body parts.token) q)) (gr.block left right h b)

  block_at : Always limit (p.block_statement limit n S) (λ ts x. Statement l ts x false)
  unfolding p.block_statement
  block_at s = mono limit block_made (mapping limit _ (braced_at limit n (suc l) e always (opening_sign limit l signs.LeftBrace (omega (arith, e)))) s)

  refused : Always limit refuses (St l)
  refused = refusing limit (_, _, st l _ _ (empty_above l).2)

  pub inside_always : Always limit (p.statement_inside limit n S) (St l)
  unfolding p.statement_inside
  inside_always s = dispatch limit start_at (p.statement_by limit n S) head_start s (λ k q. each k)
    where
      each : (k : Start) → Holds limit (p.statement_by limit n S k) (St l) s (p.statement_by limit n S k s)
      each start.Block = mono limit (st l) (block_at s)
      each start.Empty = mono limit (st l) (empty_at limit n l e s)
      each start.Plain = mono limit (st l) (plain_ended_at limit n l e s)
      each start.If = if_at limit n l e always shut s
      each start.While = while_at limit n l e always shut s
      each start.For = for_at limit n l e always shut s
      each start.Local = refused s
      each start.Other = refused s

  pub inside_shut : Shut limit l (p.statement_inside limit n S)
  unfolding p.statement_inside
  inside_shut s x rest q a = by_first limit start_at (p.statement_by limit n S) head_start (each (start_at s) q)
    where
      each : (k : Start) → p.statement_by limit n S k s ≡ done x rest → Holds limit (p.statement_by limit n S k) (λ ts x. Statement l ts x false) s (done x rest)
      each start.Block q = subst (λ o. Holds limit (p.block_statement limit n S) (λ ts x. Statement l ts x false) s o) q (block_at s)
      each start.Empty q = subst (λ o. Holds limit p.empty (λ ts x. Statement l ts x false) s o) q (empty_at limit n l e s)
      each start.Plain q = subst (λ o. Holds limit (p.ended (p.plain_inside limit n)) (λ ts x. Statement l ts x false) s o) q (plain_ended_at limit n l e s)
      each start.If q = if_shut limit n l e always shut s x rest q a
      each start.While q = while_shut limit n l e always shut s x rest q a
      each start.For q = for_shut limit n l e always shut s x rest q a
      each start.Local q = absurd (not_done q)
      each start.Other q = absurd (not_done q)

barred_at : (limit l : ℕ) → Always limit p.barred (St l)
unfolding p.barred start_at
barred_at limit l s = dispatch limit (λ s. begins_statement (start_at s)) barred_if (λ s t a. ap begins_statement (head_start s t a)) s each
  where
    barred_if : Bool → Parser Stmt
    barred_if b s = cond b (stop deep s) (stop expected s)

    each : (b : Bool) → begins_statement (start_at s) ≡ b → Holds limit (barred_if b) (St l) s (barred_if b s)
    each true q = deep_on limit s (suc l) (λ o. begins_statement (statement_start o)) refl q (statement_deep l)
    each false q = refusing limit (_, _, st l _ _ (empty_above l).2) s

barred_never : (s : List Tok) (x : Stmt) (rest : List Tok) → p.barred s ≡ done x rest → ⊥
unfolding p.barred
barred_never s x rest q = go (begins_statement (start_at s)) q
  where
    go : (b : Bool) → cond b (stop deep s) (stop expected s) ≡ done x rest → ⊥
    go true q = not_done q
    go false q = not_done q

pub statement_shut : (limit n l : ℕ) → l + n ≡ limit → (Always limit (p.statement limit n) (St l)) × (Shut limit l (p.statement limit n))
unfolding p.statement
statement_shut limit zero l e = (barred_at limit l, λ s x rest q a. absurd (barred_never s x rest q))
statement_shut limit (suc n) l e =
    let h = statement_shut limit n (suc l) (omega (arith, e)) in
    (inside_always limit n l (omega (arith, e)) h.0 h.1, inside_shut limit n l (omega (arith, e)) h.0 h.1)

pub statement_at : (limit n l : ℕ) → l + n ≡ limit → Always limit (p.statement limit n) (St l)
statement_at limit n l e = (statement_shut limit n l e).0
