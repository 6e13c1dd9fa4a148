-- Locals and simple statements.
use Rattle.std.proofs.Common.{◌≡◌, ℕ, suc, ◌+◌, ◌<◌, Bool, true, false, cond, List, [], ◌∷◌, ◌++◌, Option, Some, None, sym, ap, ◌∙◌, subst, arith, append_assoc}
use Rattle.c_token.specs.declared.signs.Sign.TheVariants as signs
use Rattle.c_token.specs.declared.words.Word.{Word}
use Rattle.c_token.specs.declared.words.Word.TheVariants as words
use Rattle.c_grammar.specs.declared.expr.Expr.{Expr}
use Rattle.c_grammar.specs.declared.stmt.Stmt.{Stmt}
use Rattle.c_grammar.specs.declared.stmt.Stmt.TheVariants as stmt
use Rattle.c_grammar.specs.BoundedTokens as g
use Rattle.c_grammar.specs.BoundedTokens.{Tok, Spot, Bounded, tok_of, bounded, bounded_all}
use Rattle.c_grammar.specs.ExpressionGrammar.{Expression, Arguments}
use Rattle.c_grammar.specs.StatementGrammar as gr
use Rattle.c_grammar.specs.StatementGrammar.{IsType, Local, Simple, Maybe, Statement}
use Rattle.c_descent.specs.declared.parts.Named.{Named}
use Rattle.c_descent.specs.declared.parts.Plain.{Plain}
use Rattle.c_descent.specs.declared.parts.Plain.TheVariants as plain
use Rattle.c_descent.proofs.ListParser.{Parser, ◌>>=◌, gives, is_some_word, is_at_sign, is_at_word, word_token}
use Rattle.c_descent.proofs.ExpressionParser.{levels_inside}
use Rattle.c_descent.proofs.StatementParser as p
use Rattle.c_descent.proofs.StatementParser.{statement_start, start_at, plain_of, plain_at}
use Rattle.c_descent.proofs.Holds.{Seq, seq, Mapped, mapped, Alike, Holds, Always, Full, mono, bind, bind_at, mapping, mapped_at, dispatch, head_kind, Nothing, nothing, giving, free, full_seq, full_mapped, full_sign, full_name, OpensSign, opens_sign, OpensWord, opens_word, OpensName, opens_name, above, above_ok, opening_sign, opening_word, opening_name, IsSign, is_sign, signing, IsWord, is_word, wording, IsName, is_name, naming, some_word, passed_at, refusing}
use Rattle.c_descent.proofs.Lists.{head_sign, head_word}
use Rattle.c_descent.proofs.Chains.{zero_expression}
use Rattle.c_descent.proofs.Expressing.{Inner, inside_at, at_sign, if_sign, Subscripted, subscript_at, arguments_at, expression_at}

-- a test of the first token's word
module _ (limit : ℕ) {A : Type 0} (x : Word) (p q : Parser A) where
  chosen : Bool → Parser A
  chosen b t = cond b (p t) (q t)

  pub if_word : {R : List Bounded → A → Type 0} (s : List Tok) → (is_at_word x s ≡ true → Holds limit p R s (p s)) → (is_at_word x s ≡ false → Holds limit q R s (q s))
      → Holds limit (λ t. cond (is_at_word x t) (p t) (q t)) R s (cond (is_at_word x s) (p s) (q s))
  unfolding chosen
  if_word {R} s here away = dispatch limit (is_at_word x) chosen (head_word x) s each
    where
      each : (b : Bool) → is_at_word x s ≡ b → Holds limit (chosen b) R s (chosen b s)
      each true e = here e
      each false e = away e

-- a word at a spot of some sort
pub data OnWord (P : Spot → Type 0) (x : Word) : List Bounded → ℕ → Type 0 where
  on_word : (at : Spot) → P at → OnWord P x (g.word at x ∷ []) at.place

pub data Typed (P : Spot → Type 0) : List Bounded → Bool → Type 0 where
  typed : {ts : List Bounded} {u : Bool} (first : Spot) → P first → IsType first ts u → Typed P ts u

pub data OptInt : List Bounded → Bool → Type 0 where
  no_int : OptInt [] true
  with_int : (at : Spot) → OptInt (g.word at words.Int ∷ []) true

module _ (limit : ℕ) (P : Spot → Type 0) (holds : (place : ℕ) → P (record { place = place; bound = limit })) (spot : Spot) (some : P spot) where
  on_wording : (x : Word) → Always limit (word_token x) (OnWord P x)
  unfolding word_token is_at_word
  on_wording x = passed_at limit (is_some_word x)
      (λ t e. subst (λ k. OnWord P x (record { spot = record { place = t.place; bound = limit }; kind = k } ∷ []) t.place) (sym (some_word x t.kind e))
      (on_word (record { place = t.place; bound = limit }) (holds t.place)))
      (_, _, on_word spot some)

  int_made : (ts : List Bounded) (u : Bool) → Mapped (OnWord P words.Int) (λ _. false) ts u → Typed P ts u
  int_made _ u (mapped _ (on_word at h) e) = subst (λ u. Typed P (g.word at words.Int ∷ []) u) (sym e) (typed at h (gr.int at))

  after_unsigned : (at : Spot) → P at → (ts : List Bounded) (u : Bool) → OptInt ts u → Typed P (g.word at words.Unsigned ∷ ts) u
  after_unsigned at h _ _ no_int = typed at h (gr.unsigned at)
  after_unsigned at h _ _ (with_int then) = typed at h (gr.unsigned_int at then)

  unsigned_made : (ts : List Bounded) (u : Bool) → Seq (OnWord P words.Unsigned) (λ _. OptInt) ts u → Typed P ts u
  unsigned_made _ u (seq _ ts (on_word at h) o) = after_unsigned at h ts u o

  opt_made : (ts : List Bounded) (u : Bool) → Mapped (IsWord words.Int) (λ _. true) ts u → OptInt ts u
  opt_made _ u (mapped _ (is_word at) e) = subst (λ u. OptInt (g.word at words.Int ∷ []) u) (sym e) (with_int at)

  opt_none : (ts : List Bounded) (u : Bool) → Nothing true ts u → OptInt ts u
  opt_none _ _ nothing = no_int

  optional_int_at : Always limit p.optional_int OptInt
  unfolding p.optional_int
  optional_int_at s = if_word limit words.Int (word_token words.Int >>= (λ _. gives true)) (gives true) s
      (λ e. mono limit opt_made (mapping limit (λ _. true) (wording limit words.Int) s))
      (λ e. mono limit opt_none (giving limit true s))

  pub type_at : Always limit p.type_name (Typed P)
  unfolding p.type_name p.int_type p.unsigned_type
  type_at s = if_word limit words.Int _ _ s
      (λ e. mono limit int_made (mapping limit (λ _. false) (on_wording words.Int) s))
      (λ e. mono limit unsigned_made (bind limit _ (λ _. ([], true, no_int)) (on_wording words.Unsigned) (λ _. optional_int_at) s))

  pub full_type : Full (Typed P)
  full_type = (_, _, typed spot some (gr.int spot))

pub data OptValue : ℕ → List Bounded → Option Expr → Type 0 where
  no_value : {l : ℕ} → OptValue l [] None
  with_value : {l : ℕ} {ts : List Bounded} {x : Expr} (equals : Spot) → Expression l ts x → OptValue l (g.sign equals signs.Assign ∷ ts) (Some x)

-- `( expression )` of a statement
pub data Condition (l : ℕ) : List Bounded → Expr → Type 0 where
  condition : {ts : List Bounded} {x : Expr} (left right : Spot) → Expression l ts x
      → Condition l (g.sign left signs.LeftParenthesis ∷ ts ++ g.sign right signs.RightParenthesis ∷ []) x

-- what stands where this many levels are open and so many are left
module _ (limit n l : ℕ) (e : l + n ≡ limit) where
  some_made : (ts : List Bounded) (x : Option Expr) → Mapped (Expression l) Some ts x → Maybe l ts x
  some_made ts x (mapped y h q) = subst (λ x. Maybe l ts x) (sym q) (gr.given h)

  none_made : (ts : List Bounded) (x : Option Expr) → Nothing None ts x → Maybe l ts x
  none_made _ _ nothing = gr.nothing

  pub maybe_at : Always limit (λ s. p.expression_unless limit n (is_at_sign signs.Semicolon s) s) (Maybe l)
  unfolding p.expression_unless
  maybe_at s = dispatch limit (is_at_sign signs.Semicolon) (p.expression_unless limit n) (head_sign signs.Semicolon) s each
    where
      each : (b : Bool) → is_at_sign signs.Semicolon s ≡ b → Holds limit (p.expression_unless limit n b) (Maybe l) s (p.expression_unless limit n b s)
      each true q = mono limit none_made (giving limit None s)
      each false q = mono limit some_made (mapping limit Some (expression_at limit n l e) s)

  no_made : (ts : List Bounded) (x : Option Expr) → Nothing None ts x → OptValue l ts x
  no_made _ _ nothing = no_value

  value_made : (ts : List Bounded) (x : Option Expr) → Seq (IsSign signs.Assign) (λ _. Mapped (Expression l) Some) ts x → OptValue l ts x
  value_made _ x (seq _ ts (is_sign at) (mapped y h q)) = subst (λ x. OptValue l (g.sign at signs.Assign ∷ ts) x) (sym q) (with_value at h)

  full_expression : Full (Expression l)
  full_expression = (_, _, zero_expression l)

  optional_value_at : Always limit (p.optional_value limit n) (OptValue l)
  unfolding p.optional_value
  optional_value_at s = if_sign limit signs.Assign _ _ s
      (λ q. mono limit value_made (bind limit _ (λ _. full_mapped Some full_expression) (signing limit signs.Assign) (λ _. mapping limit Some (expression_at limit n l e)) s))
      (λ q. mono limit no_made (giving limit None s))

  condition_made : (ts : List Bounded) (x : Expr)
      → Seq (IsSign signs.LeftParenthesis) (λ _. Seq (Expression l) (λ value. Mapped (IsSign signs.RightParenthesis) (λ _. value))) ts x → Condition l ts x
  condition_made _ x (seq _ _ (is_sign left) (seq ts _ h (mapped _ (is_sign right) q))) =
      subst (λ x. Condition l (g.sign left signs.LeftParenthesis ∷ ts ++ g.sign right signs.RightParenthesis ∷ []) x) (sym q) (condition left right h)

  pub condition_at : Always limit (p.parenthesised_test limit n) (Condition l)
  unfolding p.parenthesised_test
  condition_at s = mono limit condition_made (bind limit _ (λ _. full_seq full_expression (λ _. full_mapped _ (full_sign signs.RightParenthesis)))
      (signing limit signs.LeftParenthesis)
      (λ _. bind limit _ (λ _. full_mapped _ (full_sign signs.RightParenthesis)) (expression_at limit n l e)
      (λ _. mapping limit _ (signing limit signs.RightParenthesis))) s)

  pub full_condition : Full (Condition l)
  full_condition = (_, _, condition free free (zero_expression l))

-- a statement whose level is open: so many levels are open around it, and so many are left inside
module _ (limit n l : ℕ) (e : suc l + n ≡ limit) where
  pub below : l < limit
  below = omega (arith, e)

  Above : Spot → Type 0
  Above at = l < at.bound

  above_full : Above (above l)
  unfolding Above
  above_full = above_ok l 0

  local_type : Always limit p.type_name (Typed Above)
  unfolding Above
  local_type = type_at limit Above (λ place. below) (above l) (above_ok l 0)

  pub LocalParts : List Bounded → Stmt → Type 0
  LocalParts = Seq (Typed Above) (λ u. Seq IsName (λ found. Mapped (OptValue (suc l)) (λ value. stmt.Local u found.name value found.token)))

  local_value : (u : Bool) (first at : Spot) (text : List ℕ) → Above first → (ts : List Bounded) → IsType first ts u → (us : List Bounded) (v : Option Expr)
      → OptValue (suc l) us v → Local l (ts ++ g.name at text ∷ us) (stmt.Local u text v at.place)
  unfolding Above
  local_value u first at text h ts t _ _ no_value = gr.plain first at text h t
  local_value u first at text h ts t _ _ (with_value equals x) = gr.valued first at equals text h t x

  pub local_made : (ts : List Bounded) (x : Stmt) → LocalParts ts x → Local l ts x
  unfolding LocalParts
  local_made _ x (seq {y = u} ts _ (typed first h t) (seq _ us (is_name at text) (mapped v o q))) =
      subst (λ x. Local l (ts ++ g.name at text ∷ us) x) (sym q) (local_value u first at text h ts t us v o)

  pub local_inside_at : Always limit (p.local_inside limit n) LocalParts
  unfolding p.local_inside LocalParts
  local_inside_at = bind limit _ (λ u. full_seq full_name (λ found. full_mapped _ ([], None, no_value))) local_type
      (λ u. bind limit _ (λ found. full_mapped _ ([], None, no_value)) (naming limit) (λ found. mapping limit _ (optional_value_at limit n (suc l) e)))

  -- what stands after a name makes a statement of it
  After : Named → List Bounded → Stmt → Type 0
  After found ts x = (bound : ℕ) → l < bound → Simple l (g.name (record { place = found.token; bound = bound }) found.name ∷ ts) x

  Assigned : Named → Option Expr → List Bounded → Stmt → Type 0
  Assigned found index = Seq (IsSign signs.Assign) (λ _. Mapped (Expression (suc l)) (λ value. stmt.Assign found.name index value found.token))

  assigned_at : (found : Named) (index : Option Expr) → Always limit (p.assignment_rest limit n found index) (Assigned found index)
  unfolding p.assignment_rest Assigned
  assigned_at found index = bind limit _ (λ _. full_mapped _ (full_expression limit n (suc l) e)) (signing limit signs.Assign)
      (λ _. mapping limit _ (expression_at limit n (suc l) e))

  assign_made : (found : Named) (ts : List Bounded) (x : Stmt) → Assigned found None ts x → After found ts x
  unfolding Assigned After
  assign_made found _ x (seq _ ts (is_sign equals) (mapped value h q)) bound a =
      subst (λ x. Simple l (g.name (record { place = found.token; bound = bound }) found.name ∷ g.sign equals signs.Assign ∷ ts) x) (sym q)
      (gr.assign found.name (record { place = found.token; bound = bound }) equals a h)

  full_assigned : (found : Named) (index : Option Expr) → Full (Assigned found index)
  unfolding Assigned
  full_assigned found index = full_seq (full_sign signs.Assign) (λ _. full_mapped _ (full_expression limit n (suc l) e))

  element_made : (found : Named) (ts : List Bounded) (x : Stmt) → Seq (Subscripted limit (suc l)) (λ at. Assigned found (Some at.index)) ts x → After found ts x
  unfolding Assigned After
  element_made found _ x (seq {y = at} _ _ (seq _ _ (opens_sign left h) (seq {y = index} ts _ i (mapped _ (is_sign right) q))) (seq _ us (is_sign equals) (mapped value v r))) bound a =
      subst (λ ts. Simple l (g.name (record { place = found.token; bound = bound }) found.name ∷ g.sign left signs.LeftBracket ∷ ts) x)
      (sym (append_assoc ts (g.sign right signs.RightBracket ∷ []) (g.sign equals signs.Assign ∷ us)))
      (subst (λ x. Simple l (g.name (record { place = found.token; bound = bound }) found.name ∷ g.sign left signs.LeftBracket ∷ ts ++ g.sign right signs.RightBracket ∷ g.sign equals signs.Assign ∷ us) x)
      (sym (r ∙ ap (λ at. stmt.Assign found.name (Some at.index) value found.token) q))
      (gr.assign_at found.name (record { place = found.token; bound = bound }) left right equals a h i v))

  call_made : (found : Named) (ts : List Bounded) (x : Stmt) → Mapped (Arguments (suc l)) (λ trees. stmt.Call found.name trees found.token) ts x → After found ts x
  unfolding After
  call_made found ts x (mapped trees h q) bound a =
      subst (λ x. Simple l (g.name (record { place = found.token; bound = bound }) found.name ∷ ts) x) (sym q) (gr.call found.name (record { place = found.token; bound = bound }) a h)

  inner : Inner limit (suc l) (levels_inside limit n)
  inner = inside_at limit n (suc l) e

  after_name_holds : (found : Named) → Always limit (p.after_statement_name limit n found) (After found)
  unfolding p.after_statement_name p.element_assigned p.call_statement
  after_name_holds found s = if_sign limit signs.LeftBracket _ _ s
      (λ q. mono limit (element_made found) (bind_at limit _ (λ at. full_assigned found (Some at.index)) (λ at. assigned_at found (Some at.index))
      (subscript_at limit (suc l) (levels_inside limit n) inner s (at_sign signs.LeftBracket s q))))
      (λ q. if_sign limit signs.LeftParenthesis _ _ s
      (λ q. mono limit (call_made found) (mapped_at limit _ (arguments_at limit (suc l) (levels_inside limit n) inner s (at_sign signs.LeftParenthesis s q))))
      (λ q. mono limit (assign_made found) (assigned_at found None s)))

  full_after : (found : Named) → Full (After found)
  unfolding Assigned
  full_after found = (_, _, assign_made found _ _ (full_assigned found None).2)

  named_made : (ts : List Bounded) (x : Stmt) → Seq (OpensName l) After ts x → Simple l ts x
  unfolding After
  named_made _ x (seq _ us (opens_name at text h) k) = k at.bound h

  named_at : Always limit (p.name_statement limit n) (Simple l)
  unfolding p.name_statement
  named_at s = mono limit named_made (bind limit _ full_after (opening_name limit l below) after_name_holds s)

  release_made : (ts : List Bounded) (x : Stmt) → Seq (OpensWord l words.Release) (λ place. Mapped (Condition (suc l)) (λ value. stmt.Release value place)) ts x → Simple l ts x
  release_made _ x (seq _ _ (opens_word at h) (mapped _ (condition {ts} left right v) q)) =
      subst (λ x. Simple l (g.word at words.Release ∷ g.sign left signs.LeftParenthesis ∷ ts ++ g.sign right signs.RightParenthesis ∷ []) x) (sym q) (gr.release at left right h v)

  release_at : Always limit (p.release limit n) (Simple l)
  unfolding p.release
  release_at s = mono limit release_made (bind limit _ (λ place. full_mapped _ (full_condition limit n (suc l) e)) (opening_word limit l words.Release below)
      (λ place. mapping limit _ (condition_at limit n (suc l) e)) s)

  check_made : (ts : List Bounded) (x : Stmt)
      → Seq (OpensWord l words.Check) (λ place. Seq (IsSign signs.LeftParenthesis) (λ _. Mapped (IsSign signs.RightParenthesis) (λ _. stmt.Check place))) ts x → Simple l ts x
  check_made _ x (seq _ _ (opens_word at h) (seq _ _ (is_sign left) (mapped _ (is_sign right) q))) =
      subst (λ x. Simple l (g.word at words.Check ∷ g.sign left signs.LeftParenthesis ∷ g.sign right signs.RightParenthesis ∷ []) x) (sym q) (gr.check at left right h)

  check_at : Always limit p.check (Simple l)
  unfolding p.check
  check_at s = mono limit check_made (bind limit _ (λ place. full_seq (full_sign signs.LeftParenthesis) (λ _. full_mapped _ (full_sign signs.RightParenthesis)))
      (opening_word limit l words.Check below)
      (λ place. bind limit _ (λ _. full_mapped _ (full_sign signs.RightParenthesis)) (signing limit signs.LeftParenthesis) (λ _. mapping limit _ (signing limit signs.RightParenthesis))) s)

  full_simple : Full (Simple l)
  full_simple = (_, _, gr.check (above l) free free (above_ok l 0))

  head_plain : (s t : List Tok) → Alike s t → plain_at s ≡ plain_at t
  unfolding plain_at
  head_plain s t a = ap plain_of (head_kind s t a)

  pub simple_inside_at : Always limit (p.simple_inside limit n) (Simple l)
  unfolding p.simple_inside
  simple_inside_at s = dispatch limit plain_at (p.simple_by limit n) head_plain s (λ k q. each k)
    where
      each : (k : Plain) → Holds limit (p.simple_by limit n k) (Simple l) s (p.simple_by limit n k s)
      each plain.Named = named_at s
      each plain.Release = release_at s
      each plain.Check = check_at s
      each plain.Return = refusing limit full_simple s
      each plain.Break = refusing limit full_simple s
      each plain.Continue = refusing limit full_simple s
      each plain.Other = refusing limit full_simple s

  -- a simple statement, or `return`, `break` or `continue`, makes a statement with the sign after it
  Ended : List Bounded → Stmt → Type 0
  Ended ts x = (end : Spot) → Statement l (ts ++ g.sign end signs.Semicolon ∷ []) x false

  ended_simple : (ts : List Bounded) (x : Stmt) → Simple l ts x → Ended ts x
  unfolding Ended
  ended_simple ts x h end = gr.simple end h

  return_made : (ts : List Bounded) (x : Stmt) → Seq (OpensWord l words.Return) (λ place. Mapped (Maybe (suc l)) (λ value. stmt.Return value place)) ts x → Ended ts x
  unfolding Ended
  return_made _ x (seq _ ts (opens_word at h) (mapped value m q)) end =
      subst (λ x. Statement l (g.word at words.Return ∷ ts ++ g.sign end signs.Semicolon ∷ []) x false) (sym q) (gr.return at end h m)

  returned_at : Always limit (p.returned limit n) Ended
  unfolding p.returned
  returned_at s = mono limit return_made (bind limit _ (λ place. full_mapped _ ([], None, gr.nothing)) (opening_word limit l words.Return below)
      (λ place. mapping limit _ (maybe_at limit n (suc l) e)) s)

  break_made : (ts : List Bounded) (x : Stmt) → Mapped (OpensWord l words.Break) (λ place. stmt.Break place) ts x → Ended ts x
  unfolding Ended
  break_made _ x (mapped _ (opens_word at h) q) end = subst (λ x. Statement l (g.word at words.Break ∷ g.sign end signs.Semicolon ∷ []) x false) (sym q) (gr.break at end h)

  continue_made : (ts : List Bounded) (x : Stmt) → Mapped (OpensWord l words.Continue) (λ place. stmt.Continue place) ts x → Ended ts x
  unfolding Ended
  continue_made _ x (mapped _ (opens_word at h) q) end = subst (λ x. Statement l (g.word at words.Continue ∷ g.sign end signs.Semicolon ∷ []) x false) (sym q) (gr.continue at end h)

  full_ended : Full Ended
  full_ended = (_, _, ended_simple _ _ full_simple.2)

  plain_inside_at : Always limit (p.plain_inside limit n) Ended
  unfolding p.plain_inside p.break_statement p.continue_statement
  plain_inside_at s = dispatch limit plain_at (p.plain_by limit n) head_plain s (λ k q. each k)
    where
      each : (k : Plain) → Holds limit (p.plain_by limit n k) Ended s (p.plain_by limit n k s)
      each plain.Named = mono limit ended_simple (named_at s)
      each plain.Release = mono limit ended_simple (release_at s)
      each plain.Check = mono limit ended_simple (check_at s)
      each plain.Return = returned_at s
      each plain.Break = mono limit break_made (mapping limit _ (opening_word limit l words.Break below) s)
      each plain.Continue = mono limit continue_made (mapping limit _ (opening_word limit l words.Continue below) s)
      each plain.Other = refusing limit full_ended s

  ended_made : (ts : List Bounded) (x : Stmt) → Seq Ended (λ tree. Mapped (IsSign signs.Semicolon) (λ _. tree)) ts x → Statement l ts x false
  unfolding Ended
  ended_made _ x (seq ts _ h (mapped _ (is_sign end) q)) = subst (λ x. Statement l (ts ++ g.sign end signs.Semicolon ∷ []) x false) (sym q) (h end)

  pub plain_ended_at : Always limit (p.ended (p.plain_inside limit n)) (λ ts x. Statement l ts x false)
  unfolding p.ended
  plain_ended_at s = mono limit ended_made (bind limit _ (λ tree. full_mapped _ (full_sign signs.Semicolon)) plain_inside_at (λ tree. mapping limit _ (signing limit signs.Semicolon)) s)

  empty_made : (ts : List Bounded) (x : Stmt) → Mapped (OpensSign l signs.Semicolon) (λ place. stmt.Empty place) ts x → Statement l ts x false
  empty_made _ x (mapped _ (opens_sign at h) q) = subst (λ x. Statement l (g.sign at signs.Semicolon ∷ []) x false) (sym q) (gr.empty at h)

  pub empty_at : Always limit p.empty (λ ts x. Statement l ts x false)
  unfolding p.empty
  empty_at s = mono limit empty_made (mapping limit _ (opening_sign limit l signs.Semicolon below) s)
