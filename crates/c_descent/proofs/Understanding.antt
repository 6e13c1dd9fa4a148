-- Every statement of the grammar is read, or nests too deep.
use Rattle.std.proofs.Common.{◌≡◌, ℕ, zero, suc, ◌+◌, ◌<◌, ◌≤◌, Bool, true, false, cond, not, List, [], ◌∷◌, ◌++◌, Option, Some, None, refl, sym, ap, ◌∙◌, subst, true≢false, arith, append_assoc, append-nil}
use Rattle.c_token.specs.declared.signs.Sign.{Sign}
use Rattle.c_token.specs.declared.signs.Sign.TheVariants as signs
use Rattle.c_token.specs.declared.words.Word.TheVariants as words
use Rattle.c_token.specs.declared.kinds.Kind.{Kind}
use Rattle.c_token.specs.declared.kinds.Kind.TheVariants as kinds
use Rattle.c_grammar.specs.declared.expr.Expr.{Expr}
use Rattle.c_grammar.specs.declared.stmt.Stmt.{Stmt}
use Rattle.c_grammar.specs.declared.stmt.Stmt.TheVariants as stmt
use Rattle.c_grammar.specs.BoundedTokens as g
use Rattle.c_grammar.specs.BoundedTokens.{Tok, Spot, Bounded, tok_of, toks_of}
use Rattle.c_grammar.specs.ExpressionGrammar.{Expression, Arguments}
use Rattle.c_grammar.specs.ExpressionGrammar as ag
use Rattle.c_grammar.specs.StatementGrammar as gr
use Rattle.c_grammar.specs.StatementGrammar.{IsType, Local, Simple, Maybe, First, Step, Statement, Body}
use Rattle.c_descent.specs.declared.parts.Start.{Start}
use Rattle.c_descent.specs.declared.parts.Start.TheVariants as start
use Rattle.c_descent.specs.declared.parts.Plain.{Plain}
use Rattle.c_descent.specs.declared.parts.Plain.TheVariants as plain
use Rattle.c_descent.proofs.ListParser.{expected, deep, ParseOutcome, done, stop, Parser, follow, ◌>>=◌, gives, first_kind, is_some_sign, is_some_word, is_at_sign, is_at_word, sign_token, word_token, name_token, level}
use Rattle.c_descent.proofs.ExpressionParser.{levels_inside, subscript, arguments}
use Rattle.c_descent.proofs.ExpressionParser as ex
use Rattle.c_descent.proofs.StatementParser as p
use Rattle.c_descent.proofs.StatementParser.{statement_start, start_at, plain_of, plain_at, begins_simple, begins_statement}
use Rattle.c_descent.proofs.Holds.{Always, Many, none_left, one_more}
use Rattle.c_descent.proofs.ComesLists.{all_reads}
use Rattle.c_descent.proofs.Bodies.{St, Entry, local_entry, statement_entry, entry_takes, entry_at, statement_at}
use Rattle.c_descent.proofs.Bodies as go
use Rattle.c_descent.proofs.Comes.{To, arrives, late, Goes, put-append, step, map_to, sign_goes, name_goes, word_goes}
use Rattle.c_descent.proofs.Expressing.{inside_at}
use Rattle.c_descent.proofs.Comprehending.{Ends, ends_right, ends_semicolon, whole_reads, subscript_reads, arguments_reads, inside_reads, expression_no_semicolon}

is_named : Plain → Bool
is_named plain.Named = true
is_named _ = false

-- a semicolon or a parenthesis after it
pub data Closing : Sign → Type 0 where
  semicolon : Closing signs.Semicolon
  parenthesis : Closing signs.RightParenthesis

ends_closing : (x : Sign) → Closing x → (at : Spot) (s : List Tok) → Ends 10 (tok_of (g.sign at x) ∷ s)
ends_closing _ semicolon at s = ends_semicolon at s
ends_closing _ parenthesis at s = ends_right at s

argument_bracket : (l : ℕ) (ts : List Bounded) (xs : List Expr) (s : List Tok) → Arguments l ts xs → is_at_sign signs.LeftBracket (toks_of ts ++ s) ≡ false
unfolding is_at_sign
argument_bracket l _ _ s (ag.nothing left right h) = refl
argument_bracket l _ _ s (ag.some left right h k) = refl

argument_parenthesis : (l : ℕ) (ts : List Bounded) (xs : List Expr) (s : List Tok) → Arguments l ts xs → is_at_sign signs.LeftParenthesis (toks_of ts ++ s) ≡ true
unfolding is_at_sign
argument_parenthesis l _ _ s (ag.nothing left right h) = refl
argument_parenthesis l _ _ s (ag.some left right h k) = refl

module _ (limit : ℕ) where
  -- a type before a name
  pub type_reads : (first at : Spot) (text : List ℕ) (ts : List Bounded) (u : Bool) (s : List Tok) → IsType first ts u → Goes limit p.type_name ts (tok_of (g.name at text) ∷ s) u
  unfolding p.type_name p.int_type p.unsigned_type p.optional_int is_at_word
  type_reads _ at text _ _ s (gr.int first) = map_to limit (λ _. false) (word_goes limit words.Int first _)
  type_reads _ at text _ _ s (gr.unsigned first) = step limit (word_token words.Unsigned) (λ _. p.optional_int) (g.word first words.Unsigned ∷ []) [] (word_goes limit words.Unsigned first _) arrives
  type_reads _ at text _ _ s (gr.unsigned_int first then) = step limit (word_token words.Unsigned) (λ _. p.optional_int) (g.word first words.Unsigned ∷ []) (g.word then words.Int ∷ []) (word_goes limit words.Unsigned first _)
      (map_to limit (λ _. true) (word_goes limit words.Int then _))

  type_deep : {A : Type 0} (l : ℕ) (first : Spot) (ts us : List Bounded) (u : Bool) (rest : List Tok) (end : ParseOutcome A) → limit ≤ l → l < first.bound → IsType first ts u
      → To limit (ts ++ us) rest end (stop deep (toks_of (ts ++ us) ++ rest))
  type_deep l _ _ us _ rest end a b (gr.int first) = late [] (g.word first words.Int) us refl (omega (arith, a, b))
  type_deep l _ _ us _ rest end a b (gr.unsigned first) = late [] (g.word first words.Unsigned) us refl (omega (arith, a, b))
  type_deep l _ _ us _ rest end a b (gr.unsigned_int first then) = late [] (g.word first words.Unsigned) (g.word then words.Int ∷ us) refl (omega (arith, a, b))

  module _ (n l : ℕ) (e : l + n ≡ limit) where
    expression_goes : (ts : List Bounded) (x : Expr) (rest : List Tok) → Expression l ts x → Ends 10 rest → Goes limit (ex.expression_at limit n) ts rest x
    expression_goes = whole_reads limit n l e

    condition_goes : (ts us : List Bounded) (x : Expr) (left right : Spot) (rest : List Tok) → Expression l ts x
        → Goes limit (p.parenthesised_test limit n) (g.sign left signs.LeftParenthesis ∷ ts ++ g.sign right signs.RightParenthesis ∷ []) rest x
    unfolding p.parenthesised_test
    condition_goes ts us x left right rest h = step limit (sign_token signs.LeftParenthesis) _ (g.sign left signs.LeftParenthesis ∷ []) (ts ++ g.sign right signs.RightParenthesis ∷ []) (sign_goes limit signs.LeftParenthesis left _)
        (step limit (ex.expression_at limit n) _ ts (g.sign right signs.RightParenthesis ∷ []) (expression_goes ts x _ h (ends_right right rest))
        (map_to limit (λ _. x) (sign_goes limit signs.RightParenthesis right rest)))

    maybe_goes : (ts : List Bounded) (x : Option Expr) (end : Spot) (s : List Tok) → Maybe l ts x
        → Goes limit (λ s. p.expression_unless limit n (is_at_sign signs.Semicolon s) s) ts (tok_of (g.sign end signs.Semicolon) ∷ s) x
    unfolding p.expression_unless is_at_sign
    maybe_goes _ _ end s gr.Maybe.nothing = arrives
    maybe_goes ts _ end s (gr.given {x} h) = subst (λ b. To limit ts (tok_of (g.sign end signs.Semicolon) ∷ s) (done (Some x) (tok_of (g.sign end signs.Semicolon) ∷ s))
        (p.expression_unless limit n b (toks_of ts ++ (tok_of (g.sign end signs.Semicolon) ∷ s)))) (sym (expression_no_semicolon l ts x _ h))
        (map_to limit Some (expression_goes ts x _ h (ends_semicolon end s)))

  -- where the level of the statement is open
  module _ (n l : ℕ) (e : suc l + n ≡ limit) where
    local_inside_goes : (ts : List Bounded) (x : Stmt) (end : Spot) (s : List Tok) → Local l ts x → Goes limit (p.local_inside limit n) ts (tok_of (g.sign end signs.Semicolon) ∷ s) x
    unfolding p.local_inside p.optional_value is_at_sign
    local_inside_goes _ _ end s (gr.plain {ts} {is_unsigned} first at text h t) = step limit p.type_name _ ts (g.name at text ∷ []) (type_reads first at text ts is_unsigned _ t)
        (step limit name_token _ (g.name at text ∷ []) [] (name_goes limit text at _) (map_to limit (λ value. stmt.Local is_unsigned text value at.place) arrives))
    local_inside_goes _ _ end s (gr.valued {ts} {us} {is_unsigned} {x} first at equals text h t v) = step limit p.type_name _ ts (g.name at text ∷ g.sign equals signs.Assign ∷ us) (type_reads first at text ts is_unsigned _ t)
        (step limit name_token _ (g.name at text ∷ []) (g.sign equals signs.Assign ∷ us) (name_goes limit text at _)
        (map_to limit (λ value. stmt.Local is_unsigned text value at.place)
        (step limit (sign_token signs.Assign) _ (g.sign equals signs.Assign ∷ []) us (sign_goes limit signs.Assign equals _)
        (map_to limit Some (expression_goes n (suc l) e us x _ v (ends_semicolon end s))))))

    assigned_goes : (text : List ℕ) (at equals : Spot) (index : Option Expr) (ts : List Bounded) (x : Expr) (rest : List Tok) → Expression (suc l) ts x → Ends 10 rest
        → Goes limit (p.assignment_rest limit n (record { name = text; token = at.place }) index) (g.sign equals signs.Assign ∷ ts) rest (stmt.Assign text index x at.place)
    unfolding p.assignment_rest
    assigned_goes text at equals index ts x rest h k = step limit (sign_token signs.Assign) _ (g.sign equals signs.Assign ∷ []) ts (sign_goes limit signs.Assign equals _)
        (map_to limit (λ value. stmt.Assign text index value at.place) (expression_goes n (suc l) e ts x rest h k))

    element_goes : (text : List ℕ) (at left right equals : Spot) (ts us : List Bounded) (x y : Expr) (rest : List Tok) → suc l < left.bound → Expression (suc (suc l)) ts x → Expression (suc l) us y → Ends 10 rest
        → Goes limit (p.element_assigned limit n (record { name = text; token = at.place })) (g.sign left signs.LeftBracket ∷ ts ++ g.sign right signs.RightBracket ∷ g.sign equals signs.Assign ∷ us) rest (stmt.Assign text (Some x) y at.place)
    unfolding p.element_assigned
    element_goes text at left right equals ts us x y rest h v w k =
        subst (λ ts. Goes limit (p.element_assigned limit n (record { name = text; token = at.place })) (g.sign left signs.LeftBracket ∷ ts) rest (stmt.Assign text (Some x) y at.place))
        (append_assoc ts (g.sign right signs.RightBracket ∷ []) (g.sign equals signs.Assign ∷ us))
        (step limit (subscript limit (levels_inside limit n)) (λ found. p.assignment_rest limit n (record { name = text; token = at.place }) (Some found.index))
        (g.sign left signs.LeftBracket ∷ ts ++ g.sign right signs.RightBracket ∷ []) (g.sign equals signs.Assign ∷ us)
        (subscript_reads limit (suc l) (levels_inside limit n) (inside_at limit n (suc l) e) (inside_reads limit n (suc l) e) ts [] x left right _ h v)
        (assigned_goes text at equals (Some x) us y rest w k))

    named_goes : (ts : List Bounded) (x : Stmt) (rest : List Tok) → Simple l ts x → (is_name : plain_of (first_kind (toks_of ts ++ rest)) ≡ plain.Named) → Ends 10 rest → Goes limit (p.name_statement limit n) ts rest x
    unfolding p.name_statement p.after_statement_name p.call_statement is_at_sign is_named
    named_goes _ _ rest (gr.assign {ts} {x} text at equals h v) q k = step limit name_token _ (g.name at text ∷ []) (g.sign equals signs.Assign ∷ ts) (name_goes limit text at _)
        (assigned_goes text at equals None ts x rest v k)
    named_goes _ _ rest (gr.assign_at {ts} {us} {x} {y} text at left right equals h i v w) q k =
        step limit name_token _ (g.name at text ∷ []) (g.sign left signs.LeftBracket ∷ ts ++ g.sign right signs.RightBracket ∷ g.sign equals signs.Assign ∷ us) (name_goes limit text at _)
        (element_goes text at left right equals ts us x y rest i v w k)
    named_goes _ _ rest (gr.call {ts} {xs} text at h a) q k = step limit name_token _ (g.name at text ∷ []) ts (name_goes limit text at _)
        (subst (λ b. To limit ts rest (done (stmt.Call text xs at.place) rest) (cond b (p.element_assigned limit n (record { name = text; token = at.place }) (toks_of ts ++ rest))
        (cond (is_at_sign signs.LeftParenthesis (toks_of ts ++ rest)) (p.call_statement limit n (record { name = text; token = at.place }) (toks_of ts ++ rest)) (p.assignment_rest limit n (record { name = text; token = at.place }) None (toks_of ts ++ rest)))))
        (sym (argument_bracket (suc l) ts xs rest a))
        (subst (λ b. To limit ts rest (done (stmt.Call text xs at.place) rest) (cond b (p.call_statement limit n (record { name = text; token = at.place }) (toks_of ts ++ rest)) (p.assignment_rest limit n (record { name = text; token = at.place }) None (toks_of ts ++ rest))))
        (sym (argument_parenthesis (suc l) ts xs rest a))
        (map_to limit (λ trees. stmt.Call text trees at.place)
        (arguments_reads limit (suc l) (levels_inside limit n) (inside_at limit n (suc l) e) (inside_reads limit n (suc l) e) ts xs rest a))))
    named_goes _ _ rest (gr.release at left right h v) q k = absurd (true≢false (sym (ap is_named q)))
    named_goes _ _ rest (gr.check at left right h) q k = absurd (true≢false (sym (ap is_named q)))

    release_goes : (ts : List Bounded) (x : Expr) (at left right : Spot) (rest : List Tok) → Expression (suc l) ts x
        → Goes limit (p.release limit n) (g.word at words.Release ∷ g.sign left signs.LeftParenthesis ∷ ts ++ g.sign right signs.RightParenthesis ∷ []) rest (stmt.Release x at.place)
    unfolding p.release
    release_goes ts x at left right rest v = step limit (word_token words.Release) _ (g.word at words.Release ∷ []) (g.sign left signs.LeftParenthesis ∷ ts ++ g.sign right signs.RightParenthesis ∷ []) (word_goes limit words.Release at _)
        (map_to limit (λ value. stmt.Release value at.place) (condition_goes n (suc l) e ts [] x left right rest v))

    check_goes : (at left right : Spot) (rest : List Tok)
        → Goes limit p.check (g.word at words.Check ∷ g.sign left signs.LeftParenthesis ∷ g.sign right signs.RightParenthesis ∷ []) rest (stmt.Check at.place)
    unfolding p.check
    check_goes at left right rest = step limit (word_token words.Check) _ (g.word at words.Check ∷ []) (g.sign left signs.LeftParenthesis ∷ g.sign right signs.RightParenthesis ∷ []) (word_goes limit words.Check at _)
        (step limit (sign_token signs.LeftParenthesis) _ (g.sign left signs.LeftParenthesis ∷ []) (g.sign right signs.RightParenthesis ∷ []) (sign_goes limit signs.LeftParenthesis left _)
        (map_to limit (λ _. stmt.Check at.place) (sign_goes limit signs.RightParenthesis right rest)))

    simple_inside_goes : (ts : List Bounded) (x : Stmt) (rest : List Tok) → Simple l ts x → Ends 10 rest → Goes limit (p.simple_inside limit n) ts rest x
    unfolding p.simple_inside plain_at
    simple_inside_goes _ _ rest (gr.assign {ts} {x} text at equals h v) k = named_goes _ _ rest (gr.assign text at equals h v) refl k
    simple_inside_goes _ _ rest (gr.assign_at text at left right equals h i v w) k = named_goes _ _ rest (gr.assign_at text at left right equals h i v w) refl k
    simple_inside_goes _ _ rest (gr.call text at h a) k = named_goes _ _ rest (gr.call text at h a) refl k
    simple_inside_goes _ _ rest (gr.release {ts} {x} at left right h v) k = release_goes ts x at left right rest v
    simple_inside_goes _ _ rest (gr.check at left right h) k = check_goes at left right rest

    plain_simple_goes : (ts : List Bounded) (x : Stmt) (rest : List Tok) → Simple l ts x → Ends 10 rest → Goes limit (p.plain_inside limit n) ts rest x
    unfolding p.plain_inside plain_at
    plain_simple_goes _ _ rest (gr.assign {ts} {x} text at equals h v) k = named_goes _ _ rest (gr.assign text at equals h v) refl k
    plain_simple_goes _ _ rest (gr.assign_at text at left right equals h i v w) k = named_goes _ _ rest (gr.assign_at text at left right equals h i v w) refl k
    plain_simple_goes _ _ rest (gr.call text at h a) k = named_goes _ _ rest (gr.call text at h a) refl k
    plain_simple_goes _ _ rest (gr.release {ts} {x} at left right h v) k = release_goes ts x at left right rest v
    plain_simple_goes _ _ rest (gr.check at left right h) k = check_goes at left right rest

    -- with the sign after it
    ended_goes : (q : Parser Stmt) (ts : List Bounded) (x : Stmt) (end : Spot) (rest : List Tok) → Goes limit q ts (tok_of (g.sign end signs.Semicolon) ∷ rest) x
        → Goes limit (p.ended q) (ts ++ g.sign end signs.Semicolon ∷ []) rest x
    unfolding p.ended
    ended_goes q ts x end rest h = step limit q (λ tree. sign_token signs.Semicolon >>= (λ _. gives tree)) ts (g.sign end signs.Semicolon ∷ []) h (map_to limit (λ _. x) (sign_goes limit signs.Semicolon end rest))

    return_goes : (ts : List Bounded) (x : Option Expr) (at end : Spot) (rest : List Tok) → Maybe (suc l) ts x
        → Goes limit (p.ended (p.plain_inside limit n)) (g.word at words.Return ∷ ts ++ g.sign end signs.Semicolon ∷ []) rest (stmt.Return x at.place)
    unfolding p.plain_inside plain_at p.returned
    return_goes ts x at end rest m = ended_goes (p.plain_inside limit n) (g.word at words.Return ∷ ts) (stmt.Return x at.place) end rest
        (step limit (word_token words.Return) _ (g.word at words.Return ∷ []) ts (word_goes limit words.Return at _)
        (map_to limit (λ value. stmt.Return value at.place) (maybe_goes n (suc l) e ts x end rest m)))

    break_goes : (at end : Spot) (rest : List Tok)
        → Goes limit (p.ended (p.plain_inside limit n)) (g.word at words.Break ∷ g.sign end signs.Semicolon ∷ []) rest (stmt.Break at.place)
    unfolding p.plain_inside plain_at p.break_statement
    break_goes at end rest = ended_goes (p.plain_inside limit n) (g.word at words.Break ∷ []) (stmt.Break at.place) end rest (map_to limit (λ place. stmt.Break place) (word_goes limit words.Break at _))

    continue_goes : (at end : Spot) (rest : List Tok)
        → Goes limit (p.ended (p.plain_inside limit n)) (g.word at words.Continue ∷ g.sign end signs.Semicolon ∷ []) rest (stmt.Continue at.place)
    unfolding p.plain_inside plain_at p.continue_statement
    continue_goes at end rest = ended_goes (p.plain_inside limit n) (g.word at words.Continue ∷ []) (stmt.Continue at.place) end rest (map_to limit (λ place. stmt.Continue place) (word_goes limit words.Continue at _))

-- what simple statements begin with
simple_start : (l : ℕ) (ts : List Bounded) (x : Stmt) (s : List Tok) → Simple l ts x → statement_start (first_kind (toks_of ts ++ s)) ≡ start.Plain
simple_start l _ _ s (gr.assign text at equals h v) = refl
simple_start l _ _ s (gr.assign_at text at left right equals h i v w) = refl
simple_start l _ _ s (gr.call text at h a) = refl
simple_start l _ _ s (gr.release at left right h v) = refl
simple_start l _ _ s (gr.check at left right h) = refl

simple_begins : (l : ℕ) (ts : List Bounded) (x : Stmt) (s : List Tok) → Simple l ts x → begins_simple (plain_at (toks_of ts ++ s)) ≡ true
unfolding plain_at
simple_begins l _ _ s (gr.assign text at equals h v) = refl
simple_begins l _ _ s (gr.assign_at text at left right equals h i v w) = refl
simple_begins l _ _ s (gr.call text at h a) = refl
simple_begins l _ _ s (gr.release at left right h v) = refl
simple_begins l _ _ s (gr.check at left right h) = refl

simple_no_right : (l : ℕ) (ts : List Bounded) (x : Stmt) (s : List Tok) → Simple l ts x → is_at_sign signs.RightParenthesis (toks_of ts ++ s) ≡ false
unfolding is_at_sign
simple_no_right l _ _ s (gr.assign text at equals h v) = refl
simple_no_right l _ _ s (gr.assign_at text at left right equals h i v w) = refl
simple_no_right l _ _ s (gr.call text at h a) = refl
simple_no_right l _ _ s (gr.release at left right h v) = refl
simple_no_right l _ _ s (gr.check at left right h) = refl

-- the first token of a statement, which opens its level
abbrev pub Opening : ℕ → List Bounded → Type 0
Opening l ts = (t : Bounded) × (after : List Bounded) × (ts ≡ t ∷ after) × (l < t.spot.bound) × (begins_statement (statement_start (Some t.kind)) ≡ true)

simple_opening : (l : ℕ) (ts : List Bounded) (x : Stmt) → Simple l ts x → Opening l ts
simple_opening l _ _ (gr.assign text at equals h v) = (_, _, refl, h, refl)
simple_opening l _ _ (gr.assign_at text at left right equals h i v w) = (_, _, refl, h, refl)
simple_opening l _ _ (gr.call text at h a) = (_, _, refl, h, refl)
simple_opening l _ _ (gr.release at left right h v) = (_, _, refl, h, refl)
simple_opening l _ _ (gr.check at left right h) = (_, _, refl, h, refl)

pub statement_opening : (l : ℕ) (ts : List Bounded) (x : Stmt) (takes : Bool) → Statement l ts x takes → Opening l ts
statement_opening l _ _ _ (gr.block left right h b) = (_, _, refl, h, refl)
statement_opening l _ _ _ (gr.empty at h) = (_, _, refl, h, refl)
statement_opening l _ _ _ (gr.simple {ts} {x} end k) = let o = simple_opening l ts x k in
    (o.0, o.1 ++ g.sign end signs.Semicolon ∷ [], ap (λ ts. ts ++ g.sign end signs.Semicolon ∷ []) o.2, o.3, o.4)
statement_opening l _ _ _ (gr.return at end h m) = (_, _, refl, h, refl)
statement_opening l _ _ _ (gr.break at end h) = (_, _, refl, h, refl)
statement_opening l _ _ _ (gr.continue at end h) = (_, _, refl, h, refl)
statement_opening l _ _ _ (gr.if at left right h t b) = (_, _, refl, h, refl)
statement_opening l _ _ _ (gr.if_else at left right else h t b o) = (_, _, refl, h, refl)
statement_opening l _ _ _ (gr.while at left right h t b) = (_, _, refl, h, refl)
statement_opening l _ _ _ (gr.for at left second third right h f t p b) = (_, _, refl, h, refl)

pub opening_late : (limit l : ℕ) {A : Type 0} (ts : List Bounded) (rest : List Tok) (end : ParseOutcome A) → limit ≤ l → Opening l ts → To limit ts rest end (stop deep (toks_of ts ++ rest))
opening_late limit l ts rest end a o = subst (λ ts. To limit ts rest end (stop deep (toks_of ts ++ rest))) (sym o.2) (late [] o.0 o.1 refl (omega (arith, a, o.3)))

module _ (limit : ℕ) where
  simple_level : (n l : ℕ) → l + n ≡ limit → (ts : List Bounded) (x : Stmt) (rest : List Tok) → Simple l ts x → Ends 10 rest
      → To limit ts rest (done x rest) (level n (p.simple_inside limit) (toks_of ts ++ rest))
  simple_level zero l e ts x rest h k = opening_late limit l ts rest (done x rest) (omega (arith, e)) (simple_opening l ts x h)
  simple_level (suc n) l e ts x rest h k = simple_inside_goes limit n l (omega (arith, e)) ts x rest h k

  simple_goes : (n l : ℕ) → l + n ≡ limit → (ts : List Bounded) (x : Stmt) (rest : List Tok) → Simple l ts x → Ends 10 rest → Goes limit (p.simple limit n) ts rest x
  unfolding p.simple
  simple_goes n l e ts x rest h k = subst (λ b. To limit ts rest (done x rest) (cond b (level n (p.simple_inside limit) (toks_of ts ++ rest)) (stop expected (toks_of ts ++ rest))))
      (sym (simple_begins l ts x rest h)) (simple_level n l e ts x rest h k)

  pub local_goes : (n l : ℕ) → l + n ≡ limit → (ts : List Bounded) (x : Stmt) (end : Spot) (s : List Tok) → Local l ts x
      → Goes limit (p.local_statement limit n) ts (tok_of (g.sign end signs.Semicolon) ∷ s) x
  unfolding p.local_statement
  local_goes zero l e _ _ end s (gr.plain {ts} {is_unsigned} first at text h t) = type_deep limit l first ts _ is_unsigned _ _ (omega (arith, e)) h t
  local_goes zero l e _ _ end s (gr.valued {ts} {is_unsigned} first at equals text h t v) = type_deep limit l first ts _ is_unsigned _ _ (omega (arith, e)) h t
  local_goes (suc n) l e ts x end s h = local_inside_goes limit n l (omega (arith, e)) ts x end s h

-- a local begins with its type
type_start : (first : Spot) (ts us : List Bounded) (u : Bool) (s : List Tok) → IsType first ts u → statement_start (first_kind (toks_of (ts ++ us) ++ s)) ≡ start.Local
type_start _ _ us u s (gr.int first) = refl
type_start _ _ us u s (gr.unsigned first) = refl
type_start _ _ us u s (gr.unsigned_int first then) = refl

pub local_start : (l : ℕ) (ts : List Bounded) (x : Stmt) (s : List Tok) → Local l ts x → statement_start (first_kind (toks_of ts ++ s)) ≡ start.Local
local_start l _ _ s (gr.plain {ts} {is_unsigned} first at text h t) = type_start first ts _ is_unsigned s t
local_start l _ _ s (gr.valued {ts} {is_unsigned} first at equals text h t v) = type_start first ts _ is_unsigned s t

module _ (limit n l : ℕ) (e : l + n ≡ limit) where
  first_goes : (ts : List Bounded) (x : Option Stmt) (end : Spot) (s : List Tok) → First l ts x → Goes limit (p.first_part limit n) ts (tok_of (g.sign end signs.Semicolon) ∷ s) x
  unfolding p.first_part start_at
  first_goes _ _ end s gr.First.nothing = arrives
  first_goes ts _ end s (gr.First.local {x} h) = subst (λ k. To limit ts (tok_of (g.sign end signs.Semicolon) ∷ s) (done (Some x) (tok_of (g.sign end signs.Semicolon) ∷ s))
      (p.first_by limit n k (toks_of ts ++ (tok_of (g.sign end signs.Semicolon) ∷ s)))) (sym (local_start l ts x _ h))
      (map_to limit Some (local_goes limit n l e ts x end s h))
  first_goes ts _ end s (gr.First.simple {x} h) = subst (λ k. To limit ts (tok_of (g.sign end signs.Semicolon) ∷ s) (done (Some x) (tok_of (g.sign end signs.Semicolon) ∷ s))
      (p.first_by limit n k (toks_of ts ++ (tok_of (g.sign end signs.Semicolon) ∷ s)))) (sym (simple_start l ts x _ h))
      (map_to limit Some (simple_goes limit n l e ts x _ h (ends_semicolon end s)))

  step_goes : (ts : List Bounded) (x : Option Stmt) (right : Spot) (s : List Tok) → Step l ts x → Goes limit (p.step_part limit n) ts (tok_of (g.sign right signs.RightParenthesis) ∷ s) x
  unfolding p.step_part is_at_sign
  step_goes _ _ right s gr.Step.nothing = arrives
  step_goes ts _ right s (gr.Step.simple {x} h) = subst (λ b. To limit ts (tok_of (g.sign right signs.RightParenthesis) ∷ s) (done (Some x) (tok_of (g.sign right signs.RightParenthesis) ∷ s))
      (cond b (done None (toks_of ts ++ (tok_of (g.sign right signs.RightParenthesis) ∷ s))) (follow (p.simple limit n (toks_of ts ++ (tok_of (g.sign right signs.RightParenthesis) ∷ s))) (λ tree. gives (Some tree)))))
      (sym (simple_no_right l ts x _ h)) (map_to limit Some (simple_goes limit n l e ts x _ h (ends_right right s)))

  head_goes : (ts us vs : List Bounded) (first step_of : Option Stmt) (test : Option Expr) (left second third right : Spot) (rest : List Tok) → First l ts first → Maybe l us test → Step l vs step_of
      → Goes limit (p.head limit n) (g.sign left signs.LeftParenthesis ∷ ts ++ (g.sign second signs.Semicolon ∷ us ++ (g.sign third signs.Semicolon ∷ vs ++ g.sign right signs.RightParenthesis ∷ [])))
      rest (record { first = first; test = test; step = step_of })
  unfolding p.head p.opening p.test_part p.closing
  head_goes ts us vs first step_of test left second third right rest f m q =
      subst (λ ts. Goes limit (p.head limit n) (g.sign left signs.LeftParenthesis ∷ ts) rest (record { first = first; test = test; step = step_of }))
      (append_assoc ts (g.sign second signs.Semicolon ∷ []) ((us ++ g.sign third signs.Semicolon ∷ []) ++ (vs ++ g.sign right signs.RightParenthesis ∷ []))
      ∙ ap (λ us. ts ++ (g.sign second signs.Semicolon ∷ us)) (append_assoc us (g.sign third signs.Semicolon ∷ []) (vs ++ g.sign right signs.RightParenthesis ∷ [])))
      (step limit (p.opening limit n) _ (g.sign left signs.LeftParenthesis ∷ ts ++ g.sign second signs.Semicolon ∷ []) ((us ++ g.sign third signs.Semicolon ∷ []) ++ (vs ++ g.sign right signs.RightParenthesis ∷ []))
      (step limit (sign_token signs.LeftParenthesis) _ (g.sign left signs.LeftParenthesis ∷ []) (ts ++ g.sign second signs.Semicolon ∷ []) (sign_goes limit signs.LeftParenthesis left _)
      (step limit (p.first_part limit n) _ ts (g.sign second signs.Semicolon ∷ []) (first_goes ts first second _ f) (map_to limit (λ _. first) (sign_goes limit signs.Semicolon second _))))
      (step limit (p.test_part limit n) _ (us ++ g.sign third signs.Semicolon ∷ []) (vs ++ g.sign right signs.RightParenthesis ∷ [])
      (step limit (λ s. p.expression_unless limit n (is_at_sign signs.Semicolon s) s) _ us (g.sign third signs.Semicolon ∷ []) (maybe_goes limit n l e us test third _ m)
      (map_to limit (λ _. test) (sign_goes limit signs.Semicolon third _)))
      (map_to limit (λ step. record { first = first; test = test; step = step })
      (step limit (p.step_part limit n) _ vs (g.sign right signs.RightParenthesis ∷ []) (step_goes vs step_of right rest q) (map_to limit (λ _. step_of) (sign_goes limit signs.RightParenthesis right rest))))))

-- what a statement begins with
begins_else : (k : Kind) → begins_statement (statement_start (Some k)) ≡ true → is_some_word words.Else (Some k) ≡ false
begins_else (kinds.Word words.Else) e = absurd (true≢false (sym e))
begins_else (kinds.Word x) e = grind arith
begins_else (kinds.Sign x) e = refl
begins_else (kinds.Name x) e = refl
begins_else (kinds.Number x u) e = refl

begins_brace : (k : Kind) → begins_statement (statement_start (Some k)) ≡ true → is_some_sign signs.RightBrace (Some k) ≡ false
begins_brace (kinds.Sign signs.RightBrace) e = absurd (true≢false (sym e))
begins_brace (kinds.Sign x) e = grind arith
begins_brace (kinds.Word x) e = refl
begins_brace (kinds.Name x) e = refl
begins_brace (kinds.Number x u) e = refl

abbrev pub NoElse : List Tok → Type 0
NoElse s = is_at_word words.Else s ≡ false

opening_no_else : (l : ℕ) (ts : List Bounded) (s : List Tok) → Opening l ts → NoElse (toks_of ts ++ s)
unfolding is_at_word
opening_no_else l ts s o = subst (λ ts. is_some_word words.Else (first_kind (toks_of ts ++ s)) ≡ false) (sym o.2) (begins_else o.0.kind o.4)

opening_goes_on : (l : ℕ) (ts : List Bounded) (s : List Tok) → Opening l ts → p.block_goes_on (toks_of ts ++ s) ≡ true
unfolding p.block_goes_on is_at_sign
opening_goes_on l ts s o = subst (λ ts. not (is_some_sign signs.RightBrace (first_kind (toks_of ts ++ s))) ≡ true) (sym o.2) (ap not (begins_brace o.0.kind o.4))

opening_begins : (l : ℕ) (ts : List Bounded) (s : List Tok) → Opening l ts → begins_statement (start_at (toks_of ts ++ s)) ≡ true
unfolding start_at
opening_begins l ts s o = subst (λ ts. begins_statement (statement_start (first_kind (toks_of ts ++ s))) ≡ true) (sym o.2) o.4

type_no_else : (first : Spot) (ts us : List Bounded) (u : Bool) (s : List Tok) → IsType first ts u → NoElse (toks_of (ts ++ us) ++ s)
unfolding is_at_word
type_no_else _ _ us u s (gr.int first) = refl
type_no_else _ _ us u s (gr.unsigned first) = refl
type_no_else _ _ us u s (gr.unsigned_int first then) = refl

type_goes_on : (first : Spot) (ts us : List Bounded) (u : Bool) (s : List Tok) → IsType first ts u → p.block_goes_on (toks_of (ts ++ us) ++ s) ≡ true
unfolding p.block_goes_on is_at_sign
type_goes_on _ _ us u s (gr.int first) = refl
type_goes_on _ _ us u s (gr.unsigned first) = refl
type_goes_on _ _ us u s (gr.unsigned_int first then) = refl

local_no_else : (l : ℕ) (ts : List Bounded) (x : Stmt) (s : List Tok) → Local l ts x → NoElse (toks_of ts ++ s)
local_no_else l _ _ s (gr.plain {ts} {is_unsigned} first at text h t) = type_no_else first ts _ is_unsigned s t
local_no_else l _ _ s (gr.valued {ts} {is_unsigned} first at equals text h t v) = type_no_else first ts _ is_unsigned s t

local_goes_on : (l : ℕ) (ts : List Bounded) (x : Stmt) (s : List Tok) → Local l ts x → p.block_goes_on (toks_of ts ++ s) ≡ true
local_goes_on l _ _ s (gr.plain {ts} {is_unsigned} first at text h t) = type_goes_on first ts _ is_unsigned s t
local_goes_on l _ _ s (gr.valued {ts} {is_unsigned} first at equals text h t v) = type_goes_on first ts _ is_unsigned s t

entry_no_else : (l : ℕ) (ts : List Bounded) (x : Stmt) (s : List Tok) → Entry l ts x → NoElse (toks_of ts ++ s)
entry_no_else l _ x s (local_entry {ts} end h) = subst (λ s. NoElse s) (sym (put-append ts (g.sign end signs.Semicolon ∷ []) s)) (local_no_else l ts x _ h)
entry_no_else l ts x s (statement_entry {takes} h) = opening_no_else l ts s (statement_opening l ts x takes h)

entry_goes_on : (l : ℕ) (ts : List Bounded) (x : Stmt) (s : List Tok) → Entry l ts x → p.block_goes_on (toks_of ts ++ s) ≡ true
entry_goes_on l _ x s (local_entry {ts} end h) = ap p.block_goes_on (put-append ts (g.sign end signs.Semicolon ∷ []) s) ∙ local_goes_on l ts x _ h
entry_goes_on l ts x s (statement_entry {takes} h) = opening_goes_on l ts s (statement_opening l ts x takes h)

body_many : (l : ℕ) (ts : List Bounded) (xs : List Stmt) → Body l ts xs → Many (Entry l) ts xs
body_many l _ _ gr.Body.nothing = none_left
body_many l _ _ (gr.Body.local {ts} {us} {x} {xs} end h b) = subst (λ ts. Many (Entry l) ts (x ∷ xs)) (append_assoc ts (g.sign end signs.Semicolon ∷ []) us)
    (one_more (ts ++ g.sign end signs.Semicolon ∷ []) us (local_entry end h) (body_many l us xs b))
body_many l _ _ (gr.Body.statement {ts} {us} {x} {xs} h b) = one_more ts us (statement_entry h) (body_many l us xs b)

-- a statement is read that takes no `else` that follows
abbrev pub Understands : ℕ → ℕ → Parser Stmt → Type 0
Understands limit l q = (ts : List Bounded) (x : Stmt) (takes : Bool) (rest : List Tok) → Statement l ts x takes → (takes ≡ true → NoElse rest) → Goes limit q ts rest x

module _ (limit n l : ℕ) (e : l + n ≡ limit) {S : Parser Stmt} (always : Always limit S (St l)) (reads : Understands limit l S) where
  entry_other : (k : Start) → begins_statement k ≡ true → S ≡ p.entry_by limit n S k
  entry_other start.Local q = absurd (true≢false (sym q))
  entry_other start.Block q = refl
  entry_other start.Empty q = refl
  entry_other start.Plain q = refl
  entry_other start.If q = refl
  entry_other start.While q = refl
  entry_other start.For q = refl
  entry_other start.Other q = refl

  local_entry_goes : (ts : List Bounded) (x : Stmt) (end : Spot) (s : List Tok) → Local l ts x
      → To limit (ts ++ g.sign end signs.Semicolon ∷ []) s (done x s) (p.ended (p.local_statement limit n) (toks_of (ts ++ g.sign end signs.Semicolon ∷ []) ++ s))
  unfolding p.ended
  local_entry_goes ts x end s h = step limit (p.local_statement limit n) _ ts (g.sign end signs.Semicolon ∷ []) (local_goes limit n l e ts x end s h) (map_to limit (λ _. x) (sign_goes limit signs.Semicolon end s))

  entry_goes : (ts : List Bounded) (x : Stmt) (s : List Tok) → Entry l ts x → NoElse s → Goes limit (p.entry limit n S) ts s x
  unfolding p.entry start_at
  entry_goes _ x s (local_entry {ts} end h) k = subst (λ t. To limit (ts ++ g.sign end signs.Semicolon ∷ []) s (done x s) (p.entry_by limit n S t (toks_of (ts ++ g.sign end signs.Semicolon ∷ []) ++ s)))
      (sym (ap (λ s. statement_start (first_kind s)) (put-append ts (g.sign end signs.Semicolon ∷ []) s) ∙ local_start l ts x _ h)) (local_entry_goes ts x end s h)
  entry_goes ts x s (statement_entry {takes} h) k = subst (λ q. To limit ts s (done x s) (q (toks_of ts ++ s)))
      (entry_other (statement_start (first_kind (toks_of ts ++ s))) (opening_begins l ts s (statement_opening l ts x takes h))) (reads ts x takes s h (λ _. k))

  pub entries_goes : (ts : List Bounded) (xs : List Stmt) (right : Spot) (s : List Tok) → Body l ts xs → Goes limit (p.entries limit n S) ts (tok_of (g.sign right signs.RightBrace) ∷ s) xs
  unfolding p.entries p.block_goes_on is_at_sign is_at_word
  entries_goes ts xs right s b = all_reads limit p.block_goes_on (go.head_goes limit n l e always) (entry_at limit n l e always) (entry_takes l) NoElse
      (entry_goes_on l) (entry_no_else l) entry_goes ts xs (tok_of (g.sign right signs.RightBrace) ∷ s) (body_many l ts xs b) refl refl

  pub braced_goes : (ts : List Bounded) (xs : List Stmt) (left right : Spot) (s : List Tok) → Body l ts xs
      → Goes limit (p.braced limit n S) (g.sign left signs.LeftBrace ∷ ts ++ g.sign right signs.RightBrace ∷ []) s (record { body = xs; token = left.place })
  unfolding p.braced
  braced_goes ts xs left right s b = step limit (sign_token signs.LeftBrace) _ (g.sign left signs.LeftBrace ∷ []) (ts ++ g.sign right signs.RightBrace ∷ []) (sign_goes limit signs.LeftBrace left _)
      (step limit (p.entries limit n S) _ ts (g.sign right signs.RightBrace ∷ []) (entries_goes ts xs right s b)
      (map_to limit (λ _. record { body = xs; token = left.place }) (sign_goes limit signs.RightBrace right s)))

module _ (limit n l : ℕ) (e : suc l + n ≡ limit) {S : Parser Stmt} (always : Always limit S (St (suc l))) (reads : Understands limit (suc l) S) where
  while_goes : (ts us : List Bounded) (test : Expr) (body : Stmt) (takes : Bool) (at left right : Spot) (rest : List Tok) → Expression (suc l) ts test → Statement (suc l) us body takes → (takes ≡ true → NoElse rest)
      → Goes limit (p.while_loop limit n S) (g.word at words.While ∷ g.sign left signs.LeftParenthesis ∷ ts ++ g.sign right signs.RightParenthesis ∷ us) rest (stmt.While test body at.place)
  unfolding p.while_loop
  while_goes ts us test body takes at left right rest v b k =
      subst (λ ts. Goes limit (p.while_loop limit n S) (g.word at words.While ∷ g.sign left signs.LeftParenthesis ∷ ts) rest (stmt.While test body at.place)) (append_assoc ts (g.sign right signs.RightParenthesis ∷ []) us)
      (step limit (word_token words.While) _ (g.word at words.While ∷ []) ((g.sign left signs.LeftParenthesis ∷ ts ++ g.sign right signs.RightParenthesis ∷ []) ++ us) (word_goes limit words.While at _)
      (step limit (p.parenthesised_test limit n) _ (g.sign left signs.LeftParenthesis ∷ ts ++ g.sign right signs.RightParenthesis ∷ []) us (condition_goes limit n (suc l) e ts [] test left right _ v)
      (map_to limit (λ body. stmt.While test body at.place) (reads us body takes rest b k))))

  for_goes : (ts us vs ws : List Bounded) (first step_of : Option Stmt) (test : Option Expr) (body : Stmt) (takes : Bool) (at left second third right : Spot) (rest : List Tok)
      → First (suc l) ts first → Maybe (suc l) us test → Step (suc l) vs step_of → Statement (suc l) ws body takes → (takes ≡ true → NoElse rest)
      → Goes limit (p.for_loop limit n S) (g.word at words.For ∷ g.sign left signs.LeftParenthesis ∷ ts ++ (g.sign second signs.Semicolon ∷ us ++ (g.sign third signs.Semicolon ∷ vs ++ g.sign right signs.RightParenthesis ∷ ws)))
      rest (stmt.For first test step_of body at.place)
  unfolding p.for_loop
  for_goes ts us vs ws first step_of test body takes at left second third right rest f m q b k =
      subst (λ ts. Goes limit (p.for_loop limit n S) (g.word at words.For ∷ g.sign left signs.LeftParenthesis ∷ ts) rest (stmt.For first test step_of body at.place))
      (append_assoc ts (g.sign second signs.Semicolon ∷ us ++ (g.sign third signs.Semicolon ∷ vs ++ g.sign right signs.RightParenthesis ∷ [])) ws
      ∙ ap (λ us. ts ++ (g.sign second signs.Semicolon ∷ us)) (append_assoc us (g.sign third signs.Semicolon ∷ vs ++ g.sign right signs.RightParenthesis ∷ []) ws)
      ∙ ap (λ vs. ts ++ (g.sign second signs.Semicolon ∷ us ++ (g.sign third signs.Semicolon ∷ vs))) (append_assoc vs (g.sign right signs.RightParenthesis ∷ []) ws))
      (step limit (word_token words.For) _ (g.word at words.For ∷ [])
      ((g.sign left signs.LeftParenthesis ∷ ts ++ (g.sign second signs.Semicolon ∷ us ++ (g.sign third signs.Semicolon ∷ vs ++ g.sign right signs.RightParenthesis ∷ []))) ++ ws) (word_goes limit words.For at _)
      (step limit (p.head limit n) _ (g.sign left signs.LeftParenthesis ∷ ts ++ (g.sign second signs.Semicolon ∷ us ++ (g.sign third signs.Semicolon ∷ vs ++ g.sign right signs.RightParenthesis ∷ []))) ws
      (head_goes limit n (suc l) e ts us vs first step_of test left second third right _ f m q)
      (map_to limit (λ body. stmt.For first test step_of body at.place) (reads ws body takes rest b k))))

  if_goes : (ts us : List Bounded) (test : Expr) (body : Stmt) (takes : Bool) (at left right : Spot) (rest : List Tok) → Expression (suc l) ts test → Statement (suc l) us body takes → NoElse rest
      → Goes limit (p.conditional limit n S) (g.word at words.If ∷ g.sign left signs.LeftParenthesis ∷ ts ++ g.sign right signs.RightParenthesis ∷ us) rest (stmt.If test body None at.place)
  unfolding p.conditional p.optional_else
  if_goes ts us test body takes at left right rest v b k =
      subst (λ ts. Goes limit (p.conditional limit n S) (g.word at words.If ∷ g.sign left signs.LeftParenthesis ∷ ts) rest (stmt.If test body None at.place)) (append_assoc ts (g.sign right signs.RightParenthesis ∷ []) us)
      (step limit (word_token words.If) _ (g.word at words.If ∷ []) ((g.sign left signs.LeftParenthesis ∷ ts ++ g.sign right signs.RightParenthesis ∷ []) ++ us) (word_goes limit words.If at _)
      (step limit (p.parenthesised_test limit n) _ (g.sign left signs.LeftParenthesis ∷ ts ++ g.sign right signs.RightParenthesis ∷ []) us (condition_goes limit n (suc l) e ts [] test left right _ v)
      (subst (λ us. To limit us rest (done (stmt.If test body None at.place) rest) (follow (S (toks_of us ++ rest)) (λ body s. follow (p.optional_else S s) (λ other. gives (stmt.If test body other at.place))))) (append-nil us)
      (step limit S (λ body s. follow (p.optional_else S s) (λ other. gives (stmt.If test body other at.place))) us [] (reads us body takes rest b (λ _. k))
      (map_to limit (λ other. stmt.If test body other at.place)
      (subst (λ b. To limit [] rest (done None rest) (cond b (follow (word_token words.Else rest) (λ _ t. follow (S t) (λ other. gives (Some other)))) (done None rest))) (sym k) arrives))))))

  else_goes : (ts us vs : List Bounded) (test : Expr) (body other : Stmt) (takes : Bool) (at left right else : Spot) (rest : List Tok) → Expression (suc l) ts test → Statement (suc l) us body false
      → Statement (suc l) vs other takes → (takes ≡ true → NoElse rest)
      → Goes limit (p.conditional limit n S) (g.word at words.If ∷ g.sign left signs.LeftParenthesis ∷ ts ++ (g.sign right signs.RightParenthesis ∷ us ++ g.word else words.Else ∷ vs)) rest (stmt.If test body (Some other) at.place)
  unfolding p.conditional p.optional_else is_at_word
  else_goes ts us vs test body other takes at left right else rest v b o k =
      subst (λ ts. Goes limit (p.conditional limit n S) (g.word at words.If ∷ g.sign left signs.LeftParenthesis ∷ ts) rest (stmt.If test body (Some other) at.place))
      (append_assoc ts (g.sign right signs.RightParenthesis ∷ []) (us ++ g.word else words.Else ∷ vs))
      (step limit (word_token words.If) _ (g.word at words.If ∷ []) ((g.sign left signs.LeftParenthesis ∷ ts ++ g.sign right signs.RightParenthesis ∷ []) ++ (us ++ g.word else words.Else ∷ vs)) (word_goes limit words.If at _)
      (step limit (p.parenthesised_test limit n) _ (g.sign left signs.LeftParenthesis ∷ ts ++ g.sign right signs.RightParenthesis ∷ []) (us ++ g.word else words.Else ∷ vs) (condition_goes limit n (suc l) e ts [] test left right _ v)
      (step limit S _ us (g.word else words.Else ∷ vs) (reads us body false _ b (λ q. absurd (true≢false (sym q))))
      (map_to limit (λ other. stmt.If test body other at.place)
      (step limit (word_token words.Else) _ (g.word else words.Else ∷ []) vs (word_goes limit words.Else else _)
      (map_to limit Some (reads vs other takes rest o k)))))))

  inside_goes : Understands limit l (p.statement_inside limit n S)
  unfolding p.statement_inside start_at p.block_statement p.empty
  inside_goes _ _ _ rest (gr.block {ts} {xs} left right h b) k = map_to limit (λ parts. stmt.Block parts.body parts.token) (braced_goes limit n (suc l) e always reads ts xs left right rest b)
  inside_goes _ _ _ rest (gr.empty at h) k = map_to limit (λ place. stmt.Empty place) (sign_goes limit signs.Semicolon at rest)
  inside_goes _ x _ rest (gr.simple {ts} end h) k = subst (λ t. To limit (ts ++ g.sign end signs.Semicolon ∷ []) rest (done x rest) (p.statement_by limit n S t (toks_of (ts ++ g.sign end signs.Semicolon ∷ []) ++ rest)))
      (sym (ap (λ s. statement_start (first_kind s)) (put-append ts (g.sign end signs.Semicolon ∷ []) rest) ∙ simple_start l ts x _ h))
      (ended_goes limit n l e (p.plain_inside limit n) ts x end rest (plain_simple_goes limit n l e ts x _ h (ends_semicolon end rest)))
  inside_goes _ _ _ rest (gr.return {ts} {value} at end h m) k = return_goes limit n l e ts value at end rest m
  inside_goes _ _ _ rest (gr.break at end h) k = break_goes limit n l e at end rest
  inside_goes _ _ _ rest (gr.continue at end h) k = continue_goes limit n l e at end rest
  inside_goes _ _ _ rest (gr.if {ts} {us} {test} {body} {takes} at left right h v b) k = if_goes ts us test body takes at left right rest v b (k refl)
  inside_goes _ _ takes rest (gr.if_else {ts} {us} {vs} {test} {body} {other} at left right else h v b o) k = else_goes ts us vs test body other takes at left right else rest v b o k
  inside_goes _ _ takes rest (gr.while {ts} {us} {test} {body} at left right h v b) k = while_goes ts us test body takes at left right rest v b k
  inside_goes _ _ takes rest (gr.for {ts} {us} {vs} {ws} {first} {step} {test} {body} at left second third right h f m q b) k =
      for_goes ts us vs ws first step test body takes at left second third right rest f m q b k

pub statement_goes : (limit n l : ℕ) → l + n ≡ limit → Understands limit l (p.statement limit n)
unfolding p.statement p.barred
statement_goes limit zero l e = λ ts x takes rest h k. subst (λ b. To limit ts rest (done x rest) (cond b (stop deep (toks_of ts ++ rest)) (stop expected (toks_of ts ++ rest))))
    (sym (opening_begins l ts rest (statement_opening l ts x takes h))) (opening_late limit l ts rest (done x rest) (omega (arith, e)) (statement_opening l ts x takes h))
statement_goes limit (suc n) l e = inside_goes limit n l (omega (arith, e)) (statement_at limit n (suc l) (omega (arith, e))) (statement_goes limit n (suc l) (omega (arith, e)))
