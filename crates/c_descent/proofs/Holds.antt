-- What a parser keeps: where it is done, what it took is what it is to read; where it stops, what it took can be completed.
-- Either way it looked at no more than the first token of what it left.
use Rattle.std.proofs.Common.{◌≡◌, ℕ, suc, ◌<◌, ◌⊎◌, inl, inr, length, length-append, Bool, true, false, List, [], ◌∷◌, ◌++◌, Option, Some, None, refl, sym, ap, ◌∙◌, subst, true≢false, arith, append_assoc}
use Rattle.std.proofs.lemmas.List.{map-append}
use Rattle.c_token.specs.declared.words.Word.{Word}
use Rattle.c_token.specs.declared.signs.Sign.{Sign}
use Rattle.c_token.specs.declared.kinds.Kind.{Kind}
use Rattle.c_token.specs.declared.kinds.Kind.TheVariants as kinds
use Rattle.c_token.specs.contracts.signs.SignPartialEq.TheImpl as sign_eq
use Rattle.c_token.specs.contracts.words.WordPartialEq.TheImpl as word_eq
use Rattle.c_grammar.specs.BoundedTokens as g
use Rattle.c_grammar.specs.BoundedTokens.{Tok, Spot, Bounded, tok_of, bounded, bounded_all}
use Rattle.c_descent.specs.declared.parts.Named.{Named}
use Rattle.c_descent.specs.declared.parts.Numeral.{Numeral}
use Rattle.c_descent.proofs.ListParser.{Reason, expected, deep, exhausted, ParseOutcome, done, stop, Parser, follow, ◌>>=◌, gives, refuses, first_kind, is_some_sign, is_some_word, is_at_sign, is_at_word, passed, sign_token, word_token, name_by, name_token, number_by, number_token}

-- what tokens may be read as
abbrev pub Rel : Type 0 → Type (0 + 1)
Rel A = List Bounded → A → Type 0

pub data Seq {A B : Type 0} (R : List Bounded → A → Type 0) (S : A → List Bounded → B → Type 0) : List Bounded → B → Type 0 where
  seq : {y : A} {x : B} (ts us : List Bounded) → R ts y → S y us x → Seq R S (ts ++ us) x

pub data Mapped {A B : Type 0} (R : List Bounded → A → Type 0) (f : A → B) : List Bounded → B → Type 0 where
  mapped : {ts : List Bounded} {x : B} (y : A) → R ts y → x ≡ f y → Mapped R f ts x

-- one next token in both, or none
abbrev pub Alike : List Tok → List Tok → Type 0
Alike [] [] = Unit {0}
Alike [] (u ∷ us) = ⊥
Alike (t ∷ ts) [] = ⊥
Alike (t ∷ ts) (u ∷ us) = t ≡ u

-- how a completion goes on: at a token that nests too deep with this token
abbrev pub Opens : Reason → List Bounded → List Tok → Type 0
Opens expected more rest = Unit {0}
Opens deep [] rest = ⊥
Opens deep (m ∷ more) [] = ⊥
Opens deep (m ∷ more) (t ∷ rest) = tok_of m ≡ t
Opens exhausted more rest = ⊥

module _ (limit : ℕ) where
  pub record Reaches {A : Type 0} (p : Parser A) (R : List Bounded → A → Type 0) (s : List Tok) (x : A) (rest : List Tok) : Type 0 where
    pub used : List Tok
    pub split : s ≡ used ++ rest
    pub means : R (bounded_all limit used) x
    pub again : (other : List Tok) → Alike rest other → p (used ++ other) ≡ done x other

  pub record Stops {A : Type 0} (p : Parser A) (R : List Bounded → A → Type 0) (s : List Tok) (reason : Reason) (rest : List Tok) : Type 0 where
    pub used : List Tok
    pub split : s ≡ used ++ rest
    pub more : List Bounded
    pub tree : A
    pub means : R (bounded_all limit used ++ more) tree
    pub opens : Opens reason more rest
    pub again : (other : List Tok) → Alike rest other → p (used ++ other) ≡ stop reason other

  pub data Holds {A : Type 0} (p : Parser A) (R : List Bounded → A → Type 0) (s : List Tok) : ParseOutcome A → Type 0 where
    reaches : {x : A} {rest : List Tok} → Reaches p R s x rest → Holds p R s (done x rest)
    stops : {reason : Reason} {rest : List Tok} → Stops p R s reason rest → Holds p R s (stop reason rest)

  -- at one list of tokens, and at all
  abbrev pub HoldsAt : {A : Type 0} → Parser A → (List Bounded → A → Type 0) → List Tok → Type 0
  HoldsAt p R s = Holds p R s (p s)

  abbrev pub Always : {A : Type 0} → Parser A → (List Bounded → A → Type 0) → Type 0
  Always p R = (s : List Tok) → HoldsAt p R s

-- something can be read so
abbrev pub Full : {A : Type 0} → (List Bounded → A → Type 0) → Type 0
Full {A} R = (ts : List Bounded) × (x : A) × R ts x

alike_refl : (s : List Tok) → Alike s s
alike_refl [] = tt
alike_refl (t ∷ s) = refl

alike_append : (u s t : List Tok) → Alike s t → Alike (u ++ s) (u ++ t)
alike_append [] s t a = a
alike_append (x ∷ u) s t a = refl

alike_split : (rest u s t : List Tok) → rest ≡ u ++ s → Alike s t → Alike rest (u ++ t)
alike_split rest u s t e a = subst (λ r. Alike r (u ++ t)) (sym e) (alike_append u s t a)

opens_more : (reason : Reason) (more tail : List Bounded) (rest : List Tok) → Opens reason more rest → Opens reason (more ++ tail) rest
opens_more expected more tail rest o = tt
opens_more deep (m ∷ more) tail (t ∷ rest) o = o
opens_more deep [] tail rest o = elim o [ ]
opens_more deep (m ∷ more) tail [] o = elim o [ ]
opens_more exhausted more tail rest o = elim o [ ]

bounded-append : (limit : ℕ) (a b : List Tok) → bounded_all limit (a ++ b) ≡ bounded_all limit a ++ bounded_all limit b
bounded-append limit a b = map-append (bounded limit) a b

module _ (limit : ℕ) {A : Type 0} where
  pub mono : {p : Parser A} {R S : List Bounded → A → Type 0} {s : List Tok} {o : ParseOutcome A}
      → ((ts : List Bounded) (x : A) → R ts x → S ts x) → Holds limit p R s o → Holds limit p S s o
  mono f (reaches h) = reaches record { used = h.used; split = h.split; means = f _ _ h.means; again = h.again }
  mono f (stops h) = stops record { used = h.used; split = h.split; more = h.more; tree = h.tree; means = f _ _ h.means; opens = h.opens; again = h.again }

  -- what is read after an answer
  module _ {B : Type 0} {p : Parser A} (f : A → Parser B) {R : List Bounded → A → Type 0} {S : A → List Bounded → B → Type 0} where
    pub then_reads : {s rest : List Tok} {y : A} {o : ParseOutcome B} → Reaches limit p R s y rest → Holds limit (f y) (S y) rest o
        → Holds limit (p >>= f) (Seq R S) s o
    then_reads {rest} h (reaches {x} {rest = left} k) = reaches record {
      used = h.used ++ k.used;
      split = h.split ∙ ap (λ r. h.used ++ r) k.split ∙ sym (append_assoc h.used k.used left);
      means = subst (λ ts. Seq R S ts x) (sym (bounded-append limit h.used k.used))
          (seq (bounded_all limit h.used) (bounded_all limit k.used) h.means k.means);
      again = λ other a. ap (λ r. follow (p r) f) (append_assoc h.used k.used other)
          ∙ ap (λ o. follow o f) (h.again (k.used ++ other) (alike_split rest k.used left other k.split a)) ∙ k.again other a;
    }
    then_reads {rest} h (stops {rest = left} k) = stops record {
      used = h.used ++ k.used;
      split = h.split ∙ ap (λ r. h.used ++ r) k.split ∙ sym (append_assoc h.used k.used left);
      more = k.more;
      tree = k.tree;
      means = subst (λ ts. Seq R S ts k.tree)
          (sym (ap (λ ts. ts ++ k.more) (bounded-append limit h.used k.used) ∙ append_assoc (bounded_all limit h.used) (bounded_all limit k.used) k.more))
          (seq (bounded_all limit h.used) (bounded_all limit k.used ++ k.more) h.means k.means);
      opens = k.opens;
      again = λ other a. ap (λ r. follow (p r) f) (append_assoc h.used k.used other)
          ∙ ap (λ o. follow o f) (h.again (k.used ++ other) (alike_split rest k.used left other k.split a)) ∙ k.again other a;
    }

    pub before : {s rest : List Tok} {reason : Reason} → ((y : A) → Full (S y)) → Stops limit p R s reason rest
        → Holds limit (p >>= f) (Seq R S) s (stop reason rest)
    before {rest} {reason} full h = stops record {
      used = h.used;
      split = h.split;
      more = h.more ++ (full h.tree).0;
      tree = (full h.tree).1;
      means = subst (λ ts. Seq R S ts (full h.tree).1) (append_assoc (bounded_all limit h.used) h.more (full h.tree).0)
          (seq (bounded_all limit h.used ++ h.more) (full h.tree).0 h.means (full h.tree).2);
      opens = opens_more reason h.more (full h.tree).0 rest h.opens;
      again = λ other a. ap (λ o. follow o f) (h.again other a);
    }

    pub bind_at : {s : List Tok} {o : ParseOutcome A} → ((y : A) → Full (S y)) → ((y : A) → Always limit (f y) (S y)) → Holds limit p R s o
        → Holds limit (p >>= f) (Seq R S) s (follow o f)
    bind_at full k (reaches {x = y} {rest} h) = then_reads h (k y rest)
    bind_at full k (stops h) = before full h

    pub bind : ((y : A) → Full (S y)) → Always limit p R → ((y : A) → Always limit (f y) (S y)) → Always limit (p >>= f) (Seq R S)
    bind full h k s = bind_at full k (h s)

    -- what is read after an answer, where what is left is known
    pub bind_known : (s : List Tok) (o : ParseOutcome A) → p s ≡ o → ((y : A) → Full (S y)) → Holds limit p R s o
        → ((y : A) (rest : List Tok) → p s ≡ done y rest → Holds limit (f y) (S y) rest (f y rest))
        → Holds limit (p >>= f) (Seq R S) s (follow o f)
    bind_known s (done y rest) e full (reaches h) k = then_reads h (k y rest e)
    bind_known s (stop reason rest) e full (stops h) k = before full h

  -- a function of the answer
  module _ {B : Type 0} {p : Parser A} {R : List Bounded → A → Type 0} (f : A → B) where
    pub mapped_at : {s : List Tok} {o : ParseOutcome A} → Holds limit p R s o
        → Holds limit (p >>= (λ y. gives (f y))) (Mapped R f) s (follow o (λ y. gives (f y)))
    mapped_at (reaches {x = y} h) = reaches record {
      used = h.used;
      split = h.split;
      means = mapped y h.means refl;
      again = λ other a. ap (λ o. follow o (λ y. gives (f y))) (h.again other a);
    }
    mapped_at (stops h) = stops record {
      used = h.used;
      split = h.split;
      more = h.more;
      tree = f h.tree;
      means = mapped h.tree h.means refl;
      opens = h.opens;
      again = λ other a. ap (λ o. follow o (λ y. gives (f y))) (h.again other a);
    }

    pub mapping : Always limit p R → Always limit (p >>= (λ y. gives (f y))) (Mapped R f)
    mapping h s = mapped_at (h s)

  -- another parser that gives the same everywhere
  pub same_parser : {p q : Parser A} {R : List Bounded → A → Type 0} {s : List Tok} {o : ParseOutcome A} → ((t : List Tok) → q t ≡ p t)
      → Holds limit p R s o → Holds limit q R s o
  same_parser e (reaches h) = reaches record {
    used = h.used;
    split = h.split;
    means = h.means;
    again = λ other a. e (h.used ++ other) ∙ h.again other a;
  }
  same_parser e (stops h) = stops record {
    used = h.used;
    split = h.split;
    more = h.more;
    tree = h.tree;
    means = h.means;
    opens = h.opens;
    again = λ other a. e (h.used ++ other) ∙ h.again other a;
  }

  -- what is read as the first token says
  module _ {K : Type 0} (key : List Tok → K) (f : K → Parser A) {R : List Bounded → A → Type 0}
      (head : (s t : List Tok) → Alike s t → key s ≡ key t) where
    pub by_first : {s : List Tok} {o : ParseOutcome A} → Holds limit (f (key s)) R s o → Holds limit (λ t. f (key t) t) R s o
    by_first {s} (reaches {rest} h) = reaches record {
      used = h.used;
      split = h.split;
      means = h.means;
      again = λ other a. ap (λ k. f k (h.used ++ other)) (sym (head s (h.used ++ other) (alike_split s h.used rest other h.split a)))
          ∙ h.again other a;
    }
    by_first {s} (stops {rest} h) = stops record {
      used = h.used;
      split = h.split;
      more = h.more;
      tree = h.tree;
      means = h.means;
      opens = h.opens;
      again = λ other a. ap (λ k. f k (h.used ++ other)) (sym (head s (h.used ++ other) (alike_split s h.used rest other h.split a)))
          ∙ h.again other a;
    }

    pub dispatch : (s : List Tok) → ((k : K) → key s ≡ k → Holds limit (f k) R s (f k s)) → Holds limit (λ t. f (key t) t) R s (f (key s) s)
    dispatch s h = by_first (h (key s) refl)

pub head_kind : (s t : List Tok) → Alike s t → first_kind s ≡ first_kind t
head_kind [] [] a = refl
head_kind (x ∷ s) (y ∷ t) a = ap (λ u. Some u.kind) a
head_kind [] (y ∷ t) a = elim a [ ]
head_kind (x ∷ s) [] a = elim a [ ]

pub data Nothing {A : Type 0} (x : A) : List Bounded → A → Type 0 where
  nothing : Nothing x [] x

pub giving : (limit : ℕ) {A : Type 0} (x : A) (s : List Tok) → Holds limit (gives x) (Nothing x) s (done x s)
giving limit x s = reaches record { used = []; split = refl; means = nothing; again = λ other a. refl }

-- a token that passes a test
module _ (limit : ℕ) (test : Option Kind → Bool) {R : List Bounded → ℕ → Type 0}
    (means : (t : Tok) → test (Some t.kind) ≡ true → R (bounded limit t ∷ []) t.place) (full : Full R) where
  abbrev tested : Parser ℕ
  tested s = passed (test (first_kind s)) s

  passed_nil : (b : Bool) → passed b [] ≡ stop expected []
  passed_nil true = refl
  passed_nil false = refl

  refused : (other : List Tok) → test (first_kind other) ≡ false → tested other ≡ stop expected other
  refused other e = ap (λ b. passed b other) e

  fails : (s : List Tok) → ((other : List Tok) → Alike s other → tested other ≡ stop expected other) → Holds limit tested R s (stop expected s)
  fails s e = stops record { used = []; split = refl; more = full.0; tree = full.1; means = full.2; opens = tt; again = e }

  nil_again : (other : List Tok) → Alike [] other → tested other ≡ stop expected other
  nil_again [] a = passed_nil (test None)
  nil_again (u ∷ us) a = elim a [ ]

  passed_case : (t : Tok) (ts : List Tok) (b : Bool) → test (Some t.kind) ≡ b → Holds limit tested R (t ∷ ts) (passed b (t ∷ ts))
  passed_case t ts true e = reaches record { used = t ∷ []; split = refl; means = means t e; again = λ other a. ap (λ b. passed b (t ∷ other)) e }
  passed_case t ts false e = fails (t ∷ ts) (λ other a. refused other (ap test (sym (head_kind (t ∷ ts) other a)) ∙ e))

  pub passed_at : Always limit tested R
  passed_at [] = subst (λ o. Holds limit tested R [] o) (sym (passed_nil (test None))) (fails [] nil_again)
  passed_at (t ∷ ts) = passed_case t ts (test (Some t.kind)) refl

pub data IsSign (x : Sign) : List Bounded → ℕ → Type 0 where
  is_sign : (at : Spot) → IsSign x (g.sign at x ∷ []) at.place

pub data IsWord (x : Word) : List Bounded → ℕ → Type 0 where
  is_word : (at : Spot) → IsWord x (g.word at x ∷ []) at.place

pub data IsName : List Bounded → Named → Type 0 where
  is_name : (at : Spot) (text : List ℕ) → IsName (g.name at text ∷ []) (record { name = text; token = at.place })

pub data IsNumber : List Bounded → Numeral → Type 0 where
  is_number : (at : Spot) (value : ℕ) (unsigned : Bool)
      → IsNumber (g.number at value unsigned ∷ []) (record { value = value; unsigned = unsigned; token = at.place })

pub sign_equal : (a b : Sign) → (sign_eq.ghosts).eq a b ≡ true → a ≡ b
sign_equal a b e = grind arith

pub word_equal : (a b : Word) → (word_eq.ghosts).eq a b ≡ true → a ≡ b
word_equal a b e = grind arith

pub some_sign : (x : Sign) (k : Kind) → is_some_sign x (Some k) ≡ true → k ≡ kinds.Sign x
some_sign x (kinds.Sign y) e = ap kinds.Sign (sign_equal y x e)
some_sign x (kinds.Word y) e = absurd (true≢false (sym e))
some_sign x (kinds.Name y) e = absurd (true≢false (sym e))
some_sign x (kinds.Number y u) e = absurd (true≢false (sym e))

pub some_word : (x : Word) (k : Kind) → is_some_word x (Some k) ≡ true → k ≡ kinds.Word x
some_word x (kinds.Word y) e = ap kinds.Word (word_equal y x e)
some_word x (kinds.Sign y) e = absurd (true≢false (sym e))
some_word x (kinds.Name y) e = absurd (true≢false (sym e))
some_word x (kinds.Number y u) e = absurd (true≢false (sym e))

abbrev spot : ℕ → Tok → Spot
spot limit t = record { place = t.place; bound = limit }

abbrev pub free : Spot
free = record { place = 0; bound = 0 }

pub signing : (limit : ℕ) (x : Sign) → Always limit (sign_token x) (IsSign x)
unfolding sign_token is_at_sign
signing limit x = passed_at limit (is_some_sign x)
    (λ t e. subst (λ k. IsSign x (record { spot = spot limit t; kind = k } ∷ []) t.place) (sym (some_sign x t.kind e)) (is_sign (spot limit t)))
    (_, _, is_sign free)

pub wording : (limit : ℕ) (x : Word) → Always limit (word_token x) (IsWord x)
unfolding word_token is_at_word
wording limit x = passed_at limit (is_some_word x)
    (λ t e. subst (λ k. IsWord x (record { spot = spot limit t; kind = k } ∷ []) t.place) (sym (some_word x t.kind e)) (is_word (spot limit t)))
    (_, _, is_word free)

-- a token that is of some kind
module _ (limit : ℕ) {A : Type 0} (from : Option Kind → Parser A) {R : List Bounded → A → Type 0}
    (nil : from None [] ≡ stop expected []) (full : Full R)
    (each : (t : Tok) → ((ts : List Tok) → from (Some t.kind) (t ∷ ts) ≡ stop expected (t ∷ ts))
    ⊎ ((x : A) × R (bounded limit t ∷ []) x × ((ts : List Tok) → from (Some t.kind) (t ∷ ts) ≡ done x ts))) where
  abbrev of_kind : Parser A
  of_kind s = from (first_kind s) s

  unkind : (s : List Tok) → ((other : List Tok) → Alike s other → of_kind other ≡ stop expected other) → Holds limit of_kind R s (stop expected s)
  unkind s e = stops record { used = []; split = refl; more = full.0; tree = full.1; means = full.2; opens = tt; again = e }

  unkind_nil : (other : List Tok) → Alike [] other → of_kind other ≡ stop expected other
  unkind_nil [] a = nil
  unkind_nil (u ∷ us) a = elim a [ ]

  unkind_more : (t : Tok) (ts : List Tok) → ((ts : List Tok) → from (Some t.kind) (t ∷ ts) ≡ stop expected (t ∷ ts))
      → (other : List Tok) → Alike (t ∷ ts) other → of_kind other ≡ stop expected other
  unkind_more t ts e [] a = elim a [ ]
  unkind_more t ts e (u ∷ us) a = subst (λ v. from (Some v.kind) (v ∷ us) ≡ stop expected (v ∷ us)) a (e us)

  kind_case : (t : Tok) (ts : List Tok) → ((ts : List Tok) → from (Some t.kind) (t ∷ ts) ≡ stop expected (t ∷ ts))
      ⊎ ((x : A) × R (bounded limit t ∷ []) x × ((ts : List Tok) → from (Some t.kind) (t ∷ ts) ≡ done x ts))
      → Holds limit of_kind R (t ∷ ts) (from (Some t.kind) (t ∷ ts))
  kind_case t ts (inl e) = subst (λ o. Holds limit of_kind R (t ∷ ts) o) (sym (e ts)) (unkind (t ∷ ts) (unkind_more t ts e))
  kind_case t ts (inr e) = subst (λ o. Holds limit of_kind R (t ∷ ts) o) (sym (e.2 ts))
      (reaches record { used = t ∷ []; split = refl; means = e.1; again = λ other a. e.2 other })

  pub kind_at : Always limit of_kind R
  kind_at [] = subst (λ o. Holds limit of_kind R [] o) (sym nil) (unkind [] unkind_nil)
  kind_at (t ∷ ts) = kind_case t ts (each t)

name_each : (limit : ℕ) (t : Tok) (k : Kind) → t.kind ≡ k → ((ts : List Tok) → name_by (Some k) (t ∷ ts) ≡ stop expected (t ∷ ts))
    ⊎ ((x : Named) × IsName (record { spot = spot limit t; kind = k } ∷ []) x × ((ts : List Tok) → name_by (Some k) (t ∷ ts) ≡ done x ts))
name_each limit t (kinds.Name x) e = inr (_, is_name (spot limit t) x, λ ts. refl)
name_each limit t (kinds.Number x u) e = inl (λ ts. refl)
name_each limit t (kinds.Word x) e = inl (λ ts. refl)
name_each limit t (kinds.Sign x) e = inl (λ ts. refl)

number_each : (limit : ℕ) (t : Tok) (k : Kind) → t.kind ≡ k → ((ts : List Tok) → number_by (Some k) (t ∷ ts) ≡ stop expected (t ∷ ts))
    ⊎ ((x : Numeral) × IsNumber (record { spot = spot limit t; kind = k } ∷ []) x × ((ts : List Tok) → number_by (Some k) (t ∷ ts) ≡ done x ts))
number_each limit t (kinds.Number x u) e = inr (_, is_number (spot limit t) x u, λ ts. refl)
number_each limit t (kinds.Name x) e = inl (λ ts. refl)
number_each limit t (kinds.Word x) e = inl (λ ts. refl)
number_each limit t (kinds.Sign x) e = inl (λ ts. refl)

abbrev pub no_text : List ℕ
no_text = []

pub naming : (limit : ℕ) → Always limit name_token IsName
unfolding name_token
naming limit = kind_at limit name_by refl (_, _, is_name free no_text) (λ t. name_each limit t t.kind refl)

pub numbering : (limit : ℕ) → Always limit number_token IsNumber
unfolding number_token
numbering limit = kind_at limit number_by refl (_, _, is_number free 0 false) (λ t. number_each limit t t.kind refl)

pub full_sign : (x : Sign) → Full (IsSign x)
full_sign x = (_, _, is_sign free)

pub full_word : (x : Word) → Full (IsWord x)
full_word x = (_, _, is_word free)

pub full_name : Full IsName
full_name = (_, _, is_name free no_text)

pub full_number : Full IsNumber
full_number = (_, _, is_number free 0 false)

pub full_seq : {A B : Type 0} {R : List Bounded → A → Type 0} {S : A → List Bounded → B → Type 0} → Full R → ((y : A) → Full (S y)) → Full (Seq R S)
full_seq r s = (r.0 ++ (s r.1).0, (s r.1).1, seq r.0 (s r.1).0 r.2 (s r.1).2)

pub full_mapped : {A B : Type 0} {R : List Bounded → A → Type 0} (f : A → B) → Full R → Full (Mapped R f)
full_mapped f r = (r.0, f r.1, mapped r.1 r.2 refl)

-- one after another
pub data Many {A : Type 0} (R : List Bounded → A → Type 0) : List Bounded → List A → Type 0 where
  none_left : Many R [] []
  one_more : {x : A} {xs : List A} (ts us : List Bounded) → R ts x → Many R us xs → Many R (ts ++ us) (x ∷ xs)

-- What is read so takes a token.
abbrev pub Takes : {A : Type 0} → (List Bounded → A → Type 0) → Type 0
Takes {A} R = (ts : List Bounded) (x : A) → R ts x → 0 < length ts

shorter : (limit : ℕ) (used rest s : List Tok) → s ≡ used ++ rest → 0 < length (bounded_all limit used) → length rest < length s
shorter limit [] rest s e h = absurd (omega (arith, h))
shorter limit (t ∷ used) rest s e h = rw e (rw (length-append used rest) (omega arith))

module _ (limit : ℕ) {A : Type 0} {p : Parser A} {R : List Bounded → A → Type 0} (takes : Takes R) where
  pub strict_of : (s : List Tok) (o : ParseOutcome A) → Holds limit p R s o → (x : A) (rest : List Tok) → o ≡ done x rest → length rest < length s
  strict_of s (done y left) (reaches h) x rest e =
      subst (λ r. length r < length s) (ap (rest_of left) e) (shorter limit h.used left s h.split (takes _ _ h.means))
    where
      rest_of : List Tok → ParseOutcome A → List Tok
      rest_of d (done z r) = r
      rest_of d (stop z r) = d
  strict_of s (stop reason left) (stops h) x rest e = absurd (not_done e)
    where
      is_done : ParseOutcome A → Bool
      is_done (done z r) = true
      is_done (stop z r) = false

      not_done : stop reason left ≡ done x rest → ⊥
      not_done e = true≢false (sym (ap is_done e))

  pub strict : Always limit p R → (s : List Tok) (x : A) (rest : List Tok) → p s ≡ done x rest → length rest < length s
  strict always s x rest e = strict_of s (p s) (always s) x rest e

-- A token that opens a level, where so many are open, or one operator more.
pub data OpensSign (l : ℕ) (x : Sign) : List Bounded → ℕ → Type 0 where
  opens_sign : (at : Spot) → l < at.bound → OpensSign l x (g.sign at x ∷ []) at.place

pub data OpensWord (l : ℕ) (x : Word) : List Bounded → ℕ → Type 0 where
  opens_word : (at : Spot) → l < at.bound → OpensWord l x (g.word at x ∷ []) at.place

pub data OpensName (l : ℕ) : List Bounded → Named → Type 0 where
  opens_name : (at : Spot) (text : List ℕ) → l < at.bound → OpensName l (g.name at text ∷ []) (record { name = text; token = at.place })

-- a spot that lets one level more than these open
abbrev pub above : ℕ → Spot
above l = record { place = 0; bound = suc l }

abbrev pub above_at : ℕ → ℕ → Spot
above_at l place = record { place = place; bound = suc l }

pub above_ok : (l place : ℕ) → l < (above_at l place).bound
above_ok l place = omega arith

pub opening_sign : (limit l : ℕ) (x : Sign) → l < limit → Always limit (sign_token x) (OpensSign l x)
unfolding sign_token is_at_sign
opening_sign limit l x h = passed_at limit (is_some_sign x)
    (λ t e. subst (λ k. OpensSign l x (record { spot = spot limit t; kind = k } ∷ []) t.place) (sym (some_sign x t.kind e)) (opens_sign (spot limit t) h))
    (_, _, opens_sign (above l) (above_ok l 0))

pub opening_word : (limit l : ℕ) (x : Word) → l < limit → Always limit (word_token x) (OpensWord l x)
unfolding word_token is_at_word
opening_word limit l x h = passed_at limit (is_some_word x)
    (λ t e. subst (λ k. OpensWord l x (record { spot = spot limit t; kind = k } ∷ []) t.place) (sym (some_word x t.kind e)) (opens_word (spot limit t) h))
    (_, _, opens_word (above l) (above_ok l 0))

opens_each : (limit l : ℕ) → l < limit → (t : Tok) (k : Kind) → t.kind ≡ k → ((ts : List Tok) → name_by (Some k) (t ∷ ts) ≡ stop expected (t ∷ ts))
    ⊎ ((x : Named) × OpensName l (record { spot = spot limit t; kind = k } ∷ []) x × ((ts : List Tok) → name_by (Some k) (t ∷ ts) ≡ done x ts))
opens_each limit l h t (kinds.Name x) e = inr (_, opens_name (spot limit t) x h, λ ts. refl)
opens_each limit l h t (kinds.Number x u) e = inl (λ ts. refl)
opens_each limit l h t (kinds.Word x) e = inl (λ ts. refl)
opens_each limit l h t (kinds.Sign x) e = inl (λ ts. refl)

pub opening_name : (limit l : ℕ) → l < limit → Always limit name_token (OpensName l)
unfolding name_token
opening_name limit l h = kind_at limit name_by refl (_, _, opens_name (above l) no_text (above_ok l 0)) (λ t. opens_each limit l h t t.kind refl)

-- where the next token would open one too many
module _ (limit : ℕ) {A : Type 0} {R : List Bounded → A → Type 0} where
  pub deep_first : (s : List Tok) (k : Kind) → first_kind s ≡ Some k → (bound : ℕ)
      → ((place : ℕ) → (more : List Bounded) × (x : A) × R (record { spot = record { place = place; bound = bound }; kind = k } ∷ more) x)
      → Holds limit (λ t. stop deep t) R s (stop deep s)
  deep_first [] k e bound f = absurd (none≢some e)
    where
      some : Option Kind → Bool
      some (Some x) = true
      some None = false

      none≢some : None ≡ Some k → ⊥
      none≢some e = true≢false (sym (ap some e))
  deep_first (t ∷ ts) k e bound f = stops record {
    used = [];
    split = refl;
    more = record { spot = record { place = t.place; bound = bound }; kind = k } ∷ (f t.place).0;
    tree = (f t.place).1;
    means = (f t.place).2;
    opens = ap (λ k. record { place = t.place; kind = k }) (sym (kind_of e));
    again = λ other a. refl;
  }
    where
      known : Option Kind → Kind
      known (Some x) = x
      known None = k

      kind_of : Some t.kind ≡ Some k → t.kind ≡ k
      kind_of e = ap known e

pub refusing : (limit : ℕ) {A : Type 0} {R : List Bounded → A → Type 0} → Full R → Always limit refuses R
refusing limit full s = stops record { used = []; split = refl; more = full.0; tree = full.1; means = full.2; opens = tt; again = λ other a. refl }
