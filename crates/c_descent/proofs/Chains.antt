-- Operators of two operands.
use Rattle.std.proofs.Common.{◌≡◌, ℕ, zero, suc, ◌+◌, ◌<◌, length, Bool, true, false, cond, ltb, List, [], ◌∷◌, ◌++◌, Option, Some, None, refl, sym, ap, ◌∙◌, subst, arith, append_assoc, append-nil}
use Rattle.std.proofs.lemmas.Bool.{ltb-true}
use Rattle.std.proofs.lemmas.Grind.{common_steps}
use Rattle.c_token.specs.declared.signs.Sign.{Sign}
use Rattle.c_token.specs.declared.kinds.Kind.{Kind}
use Rattle.c_token.specs.declared.kinds.Kind.TheVariants as kinds
use Rattle.c_grammar.specs.declared.expr.Expr.{Expr}
use Rattle.c_grammar.specs.declared.expr.Expr.TheVariants as expr
use Rattle.c_grammar.specs.BoundedTokens as g
use Rattle.c_grammar.specs.BoundedTokens.{Tok, Spot, Bounded, tok_of, bounded, bounded_all}
use Rattle.c_grammar.specs.Precedence.{precedence}
use Rattle.c_grammar.specs.ExpressionGrammar.{Expression, whole, Binary, alone, tighter, both, Unary, primary, literal}
use Rattle.c_descent.specs.declared.parts.Grown.{Grown}
use Rattle.c_descent.proofs.ListParser.{deep, ParseOutcome, done, stop, Parser, follow, ◌>>=◌, gives, first_kind, sign_token}
use Rattle.c_descent.proofs.ExpressionParser.{operator_of, operator_at, joined_operand, chain_with, chain, chained, binary_expression}
use Rattle.c_descent.proofs.Holds.{Seq, seq, Mapped, mapped, Alike, Holds, Always, Full, mono, bind, bind_known, mapping, same_parser, dispatch, head_kind, Nothing, nothing, giving, free, full_mapped, Takes, strict_of, OpensSign, opens_sign, above_at, above_ok, opening_sign, deep_first}

-- an operator of this rank stands first
pub operator_known : (k : ℕ) (o : Option Kind) (op : Sign) → operator_of k o ≡ Some op → (o ≡ Some (kinds.Sign op)) × (precedence op ≡ k)
operator_known k (Some (kinds.Sign x)) op e = grind (arith, common_steps)
operator_known k (Some (kinds.Word x)) op e = grind arith
operator_known k (Some (kinds.Name x)) op e = grind arith
operator_known k (Some (kinds.Number x u)) op e = grind arith
operator_known k None op e = grind arith

pub head_operator : (k : ℕ) (s t : List Tok) → Alike s t → operator_at k s ≡ operator_at k t
unfolding operator_at
head_operator k s t a = ap (operator_of k) (head_kind s t a)

-- the simplest expression
abbrev pub zero_token : Bounded
zero_token = g.number free 0 false

abbrev pub zero_tree : Expr
zero_tree = expr.Number 0 false 0

pub zero_unary : (l : ℕ) → Unary l (zero_token ∷ []) zero_tree
zero_unary l = primary (literal 0 false free)

pub zero_binary : (l k used : ℕ) → Binary l k used (zero_token ∷ []) zero_tree used
zero_binary l zero used = alone (zero_unary l)
zero_binary l (suc k) used = tighter (zero_binary l k used)

pub zero_expression : (l : ℕ) → Expression l (zero_token ∷ []) zero_tree
zero_expression l = whole (zero_binary l 10 0)

-- an expression up to this rank, where so many operators stand before it
abbrev pub Operand : ℕ → ℕ → ℕ → List Bounded → Grown → Type 0
Operand l k used ts x = Binary l k used ts x.tree x.used

pub full_operand : (l k used : ℕ) → Full (Operand l k used)
full_operand l k used = (zero_token ∷ [], record { tree = zero_tree; used = used }, zero_binary l k used)

module _ (limit l k : ℕ) {operand : ℕ → Parser Grown} (always : (used : ℕ) → Always limit (operand used) (Operand l k used)) where
  -- what the tokens after a left operand make of it
  abbrev pub Joins : Grown → List Bounded → Grown → Type 0
  Joins left ts x = (before : ℕ) (us : List Bounded) → Binary l (suc k) before us left.tree left.used → Binary l (suc k) before (us ++ ts) x.tree x.used

  joins_nothing : (left : Grown) (ts : List Bounded) (x : Grown) → Nothing left ts x → Joins left ts x
  joins_nothing left _ _ nothing before us b = subst (λ ts. Binary l (suc k) before ts left.tree left.used) (sym (append-nil us)) b

  -- an operator and its right operand
  made : Sign → Grown → ℕ → Grown → Grown
  made op left place right = record { tree = expr.Binary op left.tree right.tree place; used = right.used }

  Join : Sign → Grown → List Bounded → Grown → Type 0
  Join op left = Seq (OpensSign left.used op) (λ place. Mapped (Operand l k (left.used + 1)) (made op left place))

  join_takes : (op : Sign) (left : Grown) → Takes (Join op left)
  unfolding Join
  join_takes op left _ _ (seq ts us (opens_sign at h) r) = omega arith

  right_joins : (op : Sign) (left : Grown) (at : Spot) → precedence op ≡ suc k → left.used < at.bound → (ts : List Bounded) (x : Grown)
      → Mapped (Operand l k (left.used + 1)) (made op left at.place) ts x → Joins left (g.sign at op ∷ ts) x
  unfolding made
  right_joins op left at e h ts x (mapped right r q) before us b =
      subst (λ x. Binary l (suc k) before (us ++ g.sign at op ∷ ts) x.tree x.used) (sym q)
      (both op at b e h (subst (λ n. Binary l k n ts right.tree right.used) (omega arith) r))

  join_joins : (op : Sign) (left : Grown) → precedence op ≡ suc k → (ts : List Bounded) (x : Grown) → Join op left ts x → Joins left ts x
  unfolding Join
  join_joins op left e _ x (seq ts us (opens_sign at h) r) = right_joins op left at e h us x r

  reading : Sign → Grown → Parser Grown
  reading op left = sign_token op >>= (λ place. operand (left.used + 1) >>= (λ right. gives (made op left place right)))

  tested : Sign → Grown → Bool → Parser Grown
  tested op left true = reading op left
  tested op left false = λ s. stop deep s

  joined_tested : (op : Sign) (left : Grown) (s : List Tok) → joined_operand limit operand op left s ≡ tested op left (ltb left.used limit) s
  unfolding joined_operand tested reading made
  joined_tested op left s = go (ltb left.used limit)
    where
      go : (b : Bool) → cond b (reading op left s) (stop deep s) ≡ tested op left b s
      go true = refl
      go false = refl

  one_deep : (op : Sign) (left : Grown) (place : ℕ) → (more : List Bounded) × (x : Grown) × Join op left (record { spot = above_at left.used place; kind = kinds.Sign op } ∷ more) x
  unfolding Join
  one_deep op left place = (
    zero_token ∷ [],
    _,
    seq _ (zero_token ∷ []) (opens_sign (above_at left.used place) (above_ok left.used place))
        (mapped (record { tree = zero_tree; used = left.used + 1 }) (zero_binary l k (left.used + 1)) refl),
  )

  join_at : (op : Sign) (left : Grown) (s : List Tok) → first_kind s ≡ Some (kinds.Sign op) → (b : Bool) → ltb left.used limit ≡ b
      → Holds limit (tested op left b) (Join op left) s (tested op left b s)
  unfolding tested reading Join
  join_at op left s e true h = bind limit _ (λ place. full_mapped (made op left place) (full_operand l k (left.used + 1)))
      (opening_sign limit left.used op (ltb-true left.used limit h))
      (λ place. mapping limit (made op left place) (always (left.used + 1))) s
  join_at op left s e false h = deep_first limit s (kinds.Sign op) e (suc left.used) (one_deep op left)

  joining : (op : Sign) (left : Grown) (s : List Tok) → first_kind s ≡ Some (kinds.Sign op)
      → Holds limit (joined_operand limit operand op left) (Join op left) s (joined_operand limit operand op left s)
  joining op left s e = subst (λ o. Holds limit (joined_operand limit operand op left) (Join op left) s o) (sym (joined_tested op left s))
      (same_parser limit {p = tested op left (ltb left.used limit)} (joined_tested op left) (join_at op left s e (ltb left.used limit) refl))

  -- one operator after another
  onward : ℕ → Option Sign → Grown → Parser Grown
  onward n None left = gives left
  onward n (Some op) left = joined_operand limit operand op left >>= chain limit operand (suc k) n

  chain_onward : (n : ℕ) (left : Grown) (s : List Tok) → chain limit operand (suc k) (suc n) left s ≡ onward n (operator_at (suc k) s) left s
  unfolding chain onward
  chain_onward n left s = go (operator_at (suc k) s)
    where
      go : (o : Option Sign) → chain_with (λ op. follow (joined_operand limit operand op left s) (chain limit operand (suc k) n)) left s o ≡ onward n o left s
      go None = refl
      go (Some op) = refl

  first_known : (s : List Tok) (op : Sign) → operator_at (suc k) s ≡ Some op → first_kind s ≡ Some (kinds.Sign op)
  unfolding operator_at
  first_known s op e = (operator_known (suc k) (first_kind s) op e).0

  rank_known : (s : List Tok) (op : Sign) → operator_at (suc k) s ≡ Some op → precedence op ≡ suc k
  unfolding operator_at
  rank_known s op e = (operator_known (suc k) (first_kind s) op e).1

  join_strict : (s : List Tok) (op : Sign) → operator_at (suc k) s ≡ Some op → (left x : Grown) (rest : List Tok)
      → joined_operand limit operand op left s ≡ done x rest → length rest < length s
  join_strict s op e left x rest = strict_of limit (join_takes op left) s (joined_operand limit operand op left s) (joining op left s (first_known s op e)) x rest

  Agree : ℕ → ℕ → Type 0
  Agree n m = (left : Grown) (s : List Tok) → length s < n → length s < m → chain limit operand (suc k) n left s ≡ chain limit operand (suc k) m left s

  rests : (n m : ℕ) (s : List Tok) → length s < suc n → length s < suc m → Agree n m → (o : ParseOutcome Grown)
      → ((x : Grown) (rest : List Tok) → o ≡ done x rest → length rest < length s)
      → follow o (chain limit operand (suc k) n) ≡ follow o (chain limit operand (suc k) m)
  unfolding Agree
  rests n m s a b h (done x left) short = h x left (omega (arith, short x left refl, a)) (omega (arith, short x left refl, b))
  rests n m s a b h (stop reason left) short = refl

  onwards : (n m : ℕ) (left : Grown) (s : List Tok) → length s < suc n → length s < suc m → Agree n m → (o : Option Sign)
      → operator_at (suc k) s ≡ o → onward n o left s ≡ onward m o left s
  unfolding onward
  onwards n m left s a b h None e = refl
  onwards n m left s a b h (Some op) e = rests n m s a b h (joined_operand limit operand op left s) (join_strict s op e left)

  enough : (n m : ℕ) → Agree n m
  unfolding Agree
  enough zero m left s a b = absurd (omega (arith, a))
  enough (suc n) zero left s a b = absurd (omega (arith, b))
  enough (suc n) (suc m) left s a b = chain_onward n left s ∙ onwards n m left s a b (enough n m) (operator_at (suc k) s) refl ∙ sym (chain_onward m left s)

  -- the whole chain, as its first operator and the rest
  unfoldable pub turn : Option Sign → Grown → Parser Grown
  turn None left = gives left
  turn (Some op) left = joined_operand limit operand op left >>= chained limit operand (suc k)

  all_rest : (s : List Tok) (o : ParseOutcome Grown) → ((x : Grown) (rest : List Tok) → o ≡ done x rest → length rest < length s)
      → follow o (chain limit operand (suc k) (length s)) ≡ follow o (chained limit operand (suc k))
  unfolding chained Agree
  all_rest s (done x left) short = enough (length s) (suc (length left)) x left (short x left refl) (omega arith)
  all_rest s (stop reason left) short = refl

  all_onward : (left : Grown) (s : List Tok) (o : Option Sign) → operator_at (suc k) s ≡ o → onward (length s) o left s ≡ turn o left s
  unfolding onward turn
  all_onward left s None e = refl
  all_onward left s (Some op) e = all_rest s (joined_operand limit operand op left s) (join_strict s op e left)

  pub chained_turn : (left : Grown) (s : List Tok) → chained limit operand (suc k) left s ≡ turn (operator_at (suc k) s) left s
  unfolding chained
  chained_turn left s = chain_onward (length s) left s ∙ all_onward left s (operator_at (suc k) s) refl

  joins_on : (left : Grown) (op : Sign) → precedence op ≡ suc k → (ts : List Bounded) (x : Grown) → Seq (Join op left) (λ y. Joins y) ts x → Joins left ts x
  joins_on left op e _ x (seq {y} ts us j h) before vs b =
      subst (λ ts. Binary l (suc k) before ts x.tree x.used) (append_assoc vs ts us) (h before (vs ++ ts) (join_joins op left e ts y j before vs b))

  Upto : ℕ → Type 0
  Upto n = (left : Grown) (s : List Tok) → length s < n → Holds limit (chained limit operand (suc k) left) (Joins left) s (chained limit operand (suc k) left s)

  each : (n : ℕ) → Upto n → (left : Grown) (s : List Tok) → length s < suc n → (o : Option Sign) → operator_at (suc k) s ≡ o
      → Holds limit (turn o left) (Joins left) s (turn o left s)
  unfolding turn Upto
  each n h left s a None e = mono limit (joins_nothing left) (giving limit left s)
  each n h left s a (Some op) e = mono limit (joins_on left op (rank_known s op e))
      (bind_known limit (chained limit operand (suc k)) s (joined_operand limit operand op left s) refl
      (λ y. ([], y, joins_nothing y [] y nothing)) (joining op left s (first_known s op e))
      (λ y rest j. h y rest (omega (arith, join_strict s op e left y rest j, a))))

  chaining_upto : (n : ℕ) → Upto n
  unfolding Upto
  chaining_upto zero left s a = absurd (omega (arith, a))
  chaining_upto (suc n) left s a = subst (λ o. Holds limit (chained limit operand (suc k) left) (Joins left) s o) (sym (chained_turn left s))
      (same_parser limit {p = λ t. turn (operator_at (suc k) t) left t} (chained_turn left)
      (dispatch limit (operator_at (suc k)) (λ o. turn o left) (head_operator (suc k)) s (λ o e. each n (chaining_upto n) left s a o e)))

  chaining : (left : Grown) → Always limit (chained limit operand (suc k) left) (Joins left)
  unfolding Upto
  chaining left s = chaining_upto (suc (length s)) left s (omega arith)

  all_joined : (used : ℕ) (ts : List Bounded) (x : Grown) → Seq (Operand l k used) (λ left. Joins left) ts x → Operand l (suc k) used ts x
  all_joined used _ x (seq ts us b h) = h used ts (tighter b)

  -- a whole expression up to the next rank
  pub ranking : (used : ℕ) → Always limit (λ s. follow (operand used s) (chained limit operand (suc k))) (Operand l (suc k) used)
  ranking used s = mono limit (all_joined used)
      (bind limit (chained limit operand (suc k)) (λ left. ([], left, joins_nothing left [] left nothing)) (always used) chaining s)

module _ (limit l : ℕ) {unary : Parser Expr} (always : Always limit unary (Unary l)) where
  alone_made : (used : ℕ) (ts : List Bounded) (x : Grown) → Mapped (Unary l) (λ tree. record { tree = tree; used = used }) ts x → Operand l zero used ts x
  alone_made used ts x (mapped tree u e) = subst (λ x. Operand l zero used ts x) (sym e) (alone u)

  pub binary_at : (k used : ℕ) → Always limit (binary_expression limit unary k used) (Operand l k used)
  unfolding binary_expression
  binary_at zero used s = mono limit (alone_made used) (mapping limit _ always s)
  binary_at (suc k) used s = ranking limit l k (binary_at k) used s
