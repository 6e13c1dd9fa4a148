-- The loops of the reader against the lists and chains of the parser.
use Rattle.std.proofs.Common.{◌≡◌, ℕ, zero, suc, ◌<◌, Bool, true, false, List, [], ◌∷◌, ◌++◌, length, Option, Some, None, Err, refl, sym, ap, ◌∙◌, arith, append_assoc, append-nil}
use Rattle.c_token.specs.declared.signs.Sign.{Sign}
use Rattle.c_token.specs.declared.signs.Sign.TheVariants.{Comma}
use Rattle.c_descent.specs.declared.parts.Grown.{Grown}
use Rattle.c_parser.specs.declared.fault.Fault.{Fault}
use Rattle.c_parser.specs.declared.fault.Fault.TheVariants.{Expected, Deep, OutOfMemory}
use Rattle.c_grammar.specs.BoundedTokens.{Tok}
use Rattle.c_parser.specs.CursorAnswers.{Matches}
use Rattle.c_descent.proofs.ListParser.{Reason, expected, deep, ParseOutcome, done, stop, Parser, follow, gives, prepend, many, all, is_left, is_at_sign, after_comma, separated}
use Rattle.c_descent.proofs.ExpressionParser.{operator_at, joined_operand, chain_with, chain, chained}

-- What a list's loop keeps: the outcome is what was read so far, and after it what the rest of the list gives.
pub record Grows {A : Type 0} (outcome : ParseOutcome (List A)) (follows : List Tok → Bool) (p : Parser A) (xs : List A) (s : List Tok) : Type 0 where
  pub turns : ℕ
  pub enough : length s < turns
  pub same : outcome ≡ prepend xs (many turns follows p s)

prepend-twice : {A : Type 0} (xs ys : List A) (o : ParseOutcome (List A)) → prepend xs (prepend ys o) ≡ prepend (xs ++ ys) o
prepend-twice xs ys (done zs s) = ap (λ all. done all s) (sym (append_assoc xs ys zs))
prepend-twice xs ys (stop reason s) = refl

many-more : {A : Type 0} (n : ℕ) (follows : List Tok → Bool) (p : Parser A) (s left : List Tok) (x : A)
    → follows s ≡ true → p s ≡ done x left → many (suc n) follows p s ≡ prepend (x ∷ []) (many n follows p left)
unfolding many
many-more n follows p s left x f e = rw (f, e) refl

many-end : {A : Type 0} (n : ℕ) (follows : List Tok → Bool) (p : Parser A) (s : List Tok)
    → follows s ≡ false → many (suc n) follows p s ≡ done [] s
unfolding many
many-end n follows p s f = rw f refl

many-stop : {A : Type 0} (n : ℕ) (follows : List Tok → Bool) (p : Parser A) (s left : List Tok) (reason : Reason)
    → follows s ≡ true → p s ≡ stop reason left → many (suc n) follows p s ≡ stop reason left
unfolding many
many-stop n follows p s left reason f e = rw (f, e) refl

prepend-nothing : {A : Type 0} (o : ParseOutcome (List A)) → prepend [] o ≡ o
prepend-nothing (done xs s) = refl
prepend-nothing (stop reason s) = refl

-- nothing is read yet
pub all-grows : {A : Type 0} (follows : List Tok → Bool) (p : Parser A) (s : List Tok) → Grows (all follows p s) follows p [] s
unfolding all
all-grows follows p s = record { turns = suc (length s); enough = omega arith; same = sym (prepend-nothing (many (suc (length s)) follows p s)) }

first-before : {A : Type 0} (x : A) (o : ParseOutcome (List A)) → follow o (λ others. gives (x ∷ others)) ≡ prepend (x ∷ []) o
first-before x (done xs s) = refl
first-before x (stop reason s) = refl

-- the first of a list with commas is read
pub separated-grows : {A : Type 0} (p : Parser A) (s left : List Tok) (x : A)
    → p s ≡ done x left → Grows (separated p s) (is_at_sign Comma) (after_comma p) ([] ++ x ∷ []) left
unfolding separated all
separated-grows p s left x e = record {
  turns = suc (length left);
  enough = omega arith;
  same = rw e (first-before x (many (suc (length left)) (is_at_sign Comma) (after_comma p) left));
}

step-from : {A : Type 0} (outcome : ParseOutcome (List A)) (follows : List Tok → Bool) (p : Parser A) (xs : List A) (s left : List Tok) (x : A) (n : ℕ)
    → length s < n → outcome ≡ prepend xs (many n follows p s)
    → follows s ≡ true → p s ≡ done x left → length left < length s → Grows outcome follows p (xs ++ x ∷ []) left
step-from outcome follows p xs s left x zero enough same f e less = absurd (omega arith)
step-from outcome follows p xs s left x (suc n) enough same f e less = record {
  turns = n;
  enough = omega arith;
  same = same ∙ ap (λ o. prepend xs o) (many-more n follows p s left x f e)
      ∙ prepend-twice xs (x ∷ []) (many n follows p left);
}

-- one more of a list is read
pub grows-step : {A : Type 0} (outcome : ParseOutcome (List A)) (follows : List Tok → Bool) (p : Parser A) (xs : List A) (s left : List Tok) (x : A)
    → Grows outcome follows p xs s
    → follows s ≡ true → p s ≡ done x left → length left < length s → Grows outcome follows p (xs ++ x ∷ []) left
grows-step outcome follows p xs s left x grows f e less = step-from outcome follows p xs s left x grows.turns grows.enough grows.same f e less

end-from : {A : Type 0} (outcome : ParseOutcome (List A)) (follows : List Tok → Bool) (p : Parser A) (xs : List A) (s : List Tok) (n : ℕ)
    → length s < n → outcome ≡ prepend xs (many n follows p s) → follows s ≡ false → outcome ≡ done xs s
end-from outcome follows p xs s zero enough same f = absurd (omega arith)
end-from outcome follows p xs s (suc n) enough same f =
    same ∙ ap (λ o. prepend xs o) (many-end n follows p s f) ∙ ap (λ all. done all s) (append-nil xs)

-- the list ends
pub grows-end : {A : Type 0} (outcome : ParseOutcome (List A)) (follows : List Tok → Bool) (p : Parser A) (xs : List A) (s : List Tok)
    → Grows outcome follows p xs s → follows s ≡ false → outcome ≡ done xs s
grows-end outcome follows p xs s grows f = end-from outcome follows p xs s grows.turns grows.enough grows.same f

stop-from : {A : Type 0} (outcome : ParseOutcome (List A)) (follows : List Tok → Bool) (p : Parser A) (xs : List A) (s left : List Tok) (reason : Reason) (n : ℕ)
    → length s < n → outcome ≡ prepend xs (many n follows p s) → follows s ≡ true → p s ≡ stop reason left → outcome ≡ stop reason left
stop-from outcome follows p xs s left reason zero enough same f e = absurd (omega arith)
stop-from outcome follows p xs s left reason (suc n) enough same f e =
    same ∙ ap (λ o. prepend xs o) (many-stop n follows p s left reason f e)

-- one of the list stops
pub grows-stop : {A : Type 0} (outcome : ParseOutcome (List A)) (follows : List Tok → Bool) (p : Parser A) (xs : List A) (s left : List Tok) (reason : Reason)
    → Grows outcome follows p xs s → follows s ≡ true → p s ≡ stop reason left → outcome ≡ stop reason left
grows-stop outcome follows p xs s left reason grows f e = stop-from outcome follows p xs s left reason grows.turns grows.enough grows.same f e

-- What the loop over the operators of one rank keeps.
pub record Chains (outcome : ParseOutcome Grown) (limit : ℕ) (operand : ℕ → Parser Grown) (rank : ℕ) (left : Grown) (s : List Tok) : Type 0 where
  pub turns : ℕ
  pub enough : length s < turns
  pub same : outcome ≡ chain limit operand rank turns left s

-- no operator is read yet
pub chained-chains : (limit : ℕ) (operand : ℕ → Parser Grown) (rank : ℕ) (left : Grown) (s : List Tok)
    → Chains (chained limit operand rank left s) limit operand rank left s
unfolding chained
chained-chains limit operand rank left s = record { turns = suc (length s); enough = omega arith; same = refl }

chain-next : (limit : ℕ) (operand : ℕ → Parser Grown) (rank n : ℕ) (left : Grown) (s : List Tok) (next : Option Sign)
    → operator_at rank s ≡ next
    → chain limit operand rank (suc n) left s
    ≡ chain_with (λ op. follow (joined_operand limit operand op left s) (chain limit operand rank n)) left s next
unfolding chain
chain-next limit operand rank n left s next f =
    ap (λ o. chain_with (λ op. follow (joined_operand limit operand op left s) (chain limit operand rank n)) left s o) f

chain-step-from : (outcome : ParseOutcome Grown) (limit : ℕ) (operand : ℕ → Parser Grown) (rank : ℕ) (left more : Grown) (s rest : List Tok) (op : Sign) (n : ℕ)
    → length s < n → outcome ≡ chain limit operand rank n left s
    → operator_at rank s ≡ Some op → joined_operand limit operand op left s ≡ done more rest → length rest < length s
    → Chains outcome limit operand rank more rest
chain-step-from outcome limit operand rank left more s rest op zero enough same f e less = absurd (omega arith)
chain-step-from outcome limit operand rank left more s rest op (suc n) enough same f e less =
    record {
      turns = n;
      enough = omega arith;
      same = same ∙ chain-next limit operand rank n left s (Some op) f ∙ ap (λ o. follow o (chain limit operand rank n)) e;
    }

-- one more operator is read
pub chains-step : (outcome : ParseOutcome Grown) (limit : ℕ) (operand : ℕ → Parser Grown) (rank : ℕ) (left more : Grown) (s rest : List Tok) (op : Sign)
    → Chains outcome limit operand rank left s
    → operator_at rank s ≡ Some op → joined_operand limit operand op left s ≡ done more rest → length rest < length s
    → Chains outcome limit operand rank more rest
chains-step outcome limit operand rank left more s rest op chains f e less =
    chain-step-from outcome limit operand rank left more s rest op chains.turns chains.enough chains.same f e less

chain-end-from : (outcome : ParseOutcome Grown) (limit : ℕ) (operand : ℕ → Parser Grown) (rank : ℕ) (left : Grown) (s : List Tok) (n : ℕ)
    → length s < n → outcome ≡ chain limit operand rank n left s → operator_at rank s ≡ None → outcome ≡ done left s
chain-end-from outcome limit operand rank left s zero enough same f = absurd (omega arith)
chain-end-from outcome limit operand rank left s (suc n) enough same f = same ∙ chain-next limit operand rank n left s None f

-- no operator follows
pub chains-end : (outcome : ParseOutcome Grown) (limit : ℕ) (operand : ℕ → Parser Grown) (rank : ℕ) (left : Grown) (s : List Tok)
    → Chains outcome limit operand rank left s → operator_at rank s ≡ None → outcome ≡ done left s
chains-end outcome limit operand rank left s chains f = chain-end-from outcome limit operand rank left s chains.turns chains.enough chains.same f

chain-stop-from : (outcome : ParseOutcome Grown) (limit : ℕ) (operand : ℕ → Parser Grown) (rank : ℕ) (left : Grown) (s rest : List Tok) (op : Sign) (reason : Reason) (n : ℕ)
    → length s < n → outcome ≡ chain limit operand rank n left s
    → operator_at rank s ≡ Some op → joined_operand limit operand op left s ≡ stop reason rest → outcome ≡ stop reason rest
chain-stop-from outcome limit operand rank left s rest op reason zero enough same f e = absurd (omega arith)
chain-stop-from outcome limit operand rank left s rest op reason (suc n) enough same f e =
    same ∙ chain-next limit operand rank n left s (Some op) f ∙ ap (λ o. follow o (chain limit operand rank n)) e

-- an operator or its operand stops
pub chains-stop : (outcome : ParseOutcome Grown) (limit : ℕ) (operand : ℕ → Parser Grown) (rank : ℕ) (left : Grown) (s rest : List Tok) (op : Sign) (reason : Reason)
    → Chains outcome limit operand rank left s
    → operator_at rank s ≡ Some op → joined_operand limit operand op left s ≡ stop reason rest → outcome ≡ stop reason rest
chains-stop outcome limit operand rank left s rest op reason chains f e =
    chain-stop-from outcome limit operand rank left s rest op reason chains.turns chains.enough chains.same f e

-- an operator or its operand ends in a fault
pub chains-fault : (outcome : ParseOutcome Grown) (limit : ℕ) (operand : ℕ → Parser Grown) (rank : ℕ) (left : Grown) (s rest : List Tok) (op : Sign) (fault : Fault)
    → Chains outcome limit operand rank left s
    → operator_at rank s ≡ Some op → Matches {A = Grown} (Err fault) rest (joined_operand limit operand op left s)
    → Matches {A = Grown} (Err fault) rest outcome
chains-fault outcome limit operand rank left s rest op Expected chains f e = chains-stop outcome limit operand rank left s rest op expected chains f e
chains-fault outcome limit operand rank left s rest op Deep chains f e = chains-stop outcome limit operand rank left s rest op deep chains f e
chains-fault outcome limit operand rank left s rest op OutOfMemory chains f e = tt

-- one of the list ends in a fault
pub grows-fault : {A : Type 0} (outcome : ParseOutcome (List A)) (follows : List Tok → Bool) (p : Parser A) (xs : List A) (s left : List Tok) (fault : Fault)
    → Grows outcome follows p xs s → follows s ≡ true → Matches {A = A} (Err fault) left (p s)
    → Matches {A = List A} (Err fault) left outcome
grows-fault outcome follows p xs s left Expected grows f e = grows-stop outcome follows p xs s left expected grows f e
grows-fault outcome follows p xs s left Deep grows f e = grows-stop outcome follows p xs s left deep grows f e
grows-fault outcome follows p xs s left OutOfMemory grows f e = tt

-- where no token is left, there is none
pub none_left : (s : List Tok) → is_left s ≡ false → s ≡ []
none_left [] e = refl
none_left (t ∷ ts) e = cc
