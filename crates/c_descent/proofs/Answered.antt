-- What the outcome of a whole list of tokens says of them.
use Rattle.std.proofs.Common.{◌≡◌, ℕ, zero, suc, ◌+◌, ◌<◌, ◌≤◌, ◌⊎◌, inl, inr, length, take, drop, Bool, true, false, List, [], ◌∷◌, ◌++◌, refl, sym, ap, ◌∙◌, subst, true≢false, arith, append_assoc, append-nil, length-append, take-append-drop}
use Rattle.std.proofs.lemmas.List.{map-append}
use Rattle.c_token.specs.declared.kinds.Kind.{Kind}
use Rattle.c_grammar.specs.declared.item.Program.{Program}
use Rattle.c_grammar.specs.BoundedTokens.{Tok, Bounded, tok_of, toks_of, bounded_kinds, numbered, bounded_all}
use Rattle.c_grammar.specs.ProgramGrammar.{IsProgram}
use Rattle.c_grammar.specs.TokenPrograms.{limit, AreProgram, AreLimited, IsUnlimitedProgram, BeginsWithin, Begins, IsExpectedAt, IsDeepAt, IsShallowBefore}
use Rattle.c_grammar.proofs.Alike.{AllAlike, none_left, one_more}
use Rattle.c_grammar.proofs.AlikeKinds.{kind_alike, kinds-numbered}
use Rattle.c_grammar.proofs.AlikePrograms.{same_program}
use Rattle.c_descent.proofs.ListParser.{Reason, expected, deep, exhausted, ParseOutcome, done, stop, place_or}
use Rattle.c_descent.proofs.ProgramParser.{program}
use Rattle.c_descent.proofs.Holds.{Alike, Opens, Holds, reaches, stops, Stops}
use Rattle.c_descent.proofs.Comes.{To, arrives, late}
use Rattle.c_descent.proofs.Declaring.{program_at}
use Rattle.c_descent.proofs.Recognising.{program_goes}

abbrev read : List Tok → ParseOutcome Program
read s = program limit limit s

-- tokens numbered anew
replaced : ℕ → List Bounded → List Bounded
replaced n [] = []
replaced n (t ∷ ts) = record { spot = record { place = n; bound = t.spot.bound }; kind = t.kind } ∷ replaced (suc n) ts

alike_replaced : (n : ℕ) (ts : List Bounded) → AllAlike ts (replaced n ts)
unfolding replaced
alike_replaced n [] = none_left
alike_replaced n (t ∷ ts) = one_more (kind_alike t.spot (record { place = n; bound = t.spot.bound }) t.kind t.kind (omega arith) refl) (alike_replaced (suc n) ts)

toks_replaced : (n : ℕ) (ts : List Bounded) → toks_of (replaced n ts) ≡ numbered n (bounded_kinds ts)
unfolding replaced
toks_replaced n [] = refl
toks_replaced n (t ∷ ts) = ap (λ s. record { place = n; kind = t.kind } ∷ s) (toks_replaced (suc n) ts)

limited_replaced : (m n : ℕ) (ts : List Bounded) → AreLimited (take m ts) → AreLimited (take m (replaced n ts))
unfolding replaced
limited_replaced zero n ts h = tt
limited_replaced (suc m) n [] h = tt
limited_replaced (suc m) n (t ∷ ts) h = (h.0, limited_replaced m (suc n) ts h.1)

limited_at : (before : List Bounded) (t : Bounded) (after : List Bounded) → AreLimited (take (suc (length before)) (before ++ t ∷ after)) → t.spot.bound ≤ limit
limited_at [] t after h = h.0
limited_at (x ∷ before) t after h = limited_at before t after h.1

-- parts of equal lists
head_or : {A : Type 0} → A → List A → A
head_or d [] = d
head_or d (x ∷ xs) = x

tail_of : {A : Type 0} → List A → List A
tail_of [] = []
tail_of (x ∷ xs) = xs

heads : {A : Type 0} (x y : A) (xs ys : List A) → x ∷ xs ≡ y ∷ ys → x ≡ y
unfolding head_or
heads x y xs ys e = ap (head_or x) e

tails : {A : Type 0} (x y : A) (xs ys : List A) → x ∷ xs ≡ y ∷ ys → xs ≡ ys
unfolding tail_of
tails x y xs ys e = ap tail_of e

is_nil : {A : Type 0} → List A → Bool
is_nil [] = true
is_nil (x ∷ xs) = false

nil_cons : {A : Type 0} (x : A) (xs : List A) → [] ≡ x ∷ xs → ⊥
unfolding is_nil
nil_cons x xs e = true≢false (ap is_nil e)

place_replaced : (before : List Bounded) (t : Bounded) (after : List Bounded) (n : ℕ) (ts : List Bounded) → replaced n ts ≡ before ++ t ∷ after → t.spot.place ≡ n + length before
unfolding replaced
place_replaced [] t after n [] e = absurd (nil_cons t after e)
place_replaced [] t after n (u ∷ ts) e = ap (λ t. t.spot.place) (sym (heads _ t _ after e)) ∙ omega arith
place_replaced (x ∷ before) t after n [] e = absurd (nil_cons x (before ++ t ∷ after) e)
place_replaced (x ∷ before) t after n (u ∷ ts) e = place_replaced before t after (suc n) ts (tails _ x _ _ e) ∙ omega arith

-- numbered tokens in two parts
record Split (n : ℕ) (kinds : List Kind) (used rest : List Tok) : Type 0 where
  js : List Kind
  ks : List Kind
  whole : kinds ≡ js ++ ks
  front : used ≡ numbered n js
  back : rest ≡ numbered (n + length js) ks

split_more : (n : ℕ) (k : Kind) (kinds : List Kind) (u : Tok) (used rest : List Tok) → record { place = n; kind = k } ≡ u → Split (suc n) kinds used rest → Split n (k ∷ kinds) (u ∷ used) rest
split_more n k kinds u used rest e h = record {
  js = k ∷ h.js;
  ks = h.ks;
  whole = ap (λ ks. k ∷ ks) h.whole;
  front = subst (λ v. v ∷ used ≡ numbered n (k ∷ h.js)) e (ap (λ s. record { place = n; kind = k } ∷ s) h.front);
  back = h.back ∙ ap (λ m. numbered m h.ks) (omega arith);
}

split_numbered : (n : ℕ) (kinds : List Kind) (used rest : List Tok) → numbered n kinds ≡ used ++ rest → Split n kinds used rest
split_numbered n kinds [] rest e = record { js = []; ks = kinds; whole = refl; front = refl; back = sym e ∙ ap (λ m. numbered m kinds) (omega arith) }
split_numbered n [] (u ∷ used) rest e = absurd (nil_cons u (used ++ rest) e)
split_numbered n (k ∷ kinds) (u ∷ used) rest e = split_more n k kinds u used rest (heads _ u _ _ e) (split_numbered (suc n) kinds used rest (tails _ u _ _ e))

numbered-append : (n : ℕ) (js ks : List Kind) → numbered n (js ++ ks) ≡ numbered n js ++ numbered (n + length js) ks
numbered-append n [] ks = ap (λ m. numbered m ks) (omega arith)
numbered-append n (j ∷ js) ks = ap (λ s. record { place = n; kind = j } ∷ s) (numbered-append (suc n) js ks ∙ ap (λ m. numbered (suc n) js ++ numbered m ks) (omega arith))

-- different outcomes
reason_of : ParseOutcome Program → Reason
reason_of (done p s) = exhausted
reason_of (stop reason s) = reason

is_deep : Reason → Bool
is_deep deep = true
is_deep _ = false

is_expected : Reason → Bool
is_expected expected = true
is_expected _ = false

left_of : ParseOutcome Program → List Tok
left_of (done p s) = s
left_of (stop reason s) = s

program_of : Program → ParseOutcome Program → Program
program_of d (done p s) = p
program_of d (stop reason s) = d

done_deep : {p : Program} {r s : List Tok} → done p r ≡ stop deep s → ⊥
unfolding reason_of is_deep
done_deep e = true≢false (sym (ap (λ o. is_deep (reason_of o)) e))

done_expected : {p : Program} {r s : List Tok} → done p r ≡ stop expected s → ⊥
unfolding reason_of is_expected
done_expected e = true≢false (sym (ap (λ o. is_expected (reason_of o)) e))

deep_expected : (o : ParseOutcome Program) (r s : List Tok) → o ≡ stop deep r → o ≡ stop expected s → ⊥
unfolding reason_of is_expected
deep_expected o r s d e = true≢false (ap (λ o. is_expected (reason_of o)) (sym e) ∙ ap (λ o. is_expected (reason_of o)) d)

-- What is a program with whatever bounds is read, or stops deep at a token whose bound is above the limit.
record Late (tokens : List Bounded) : Type 0 where
  before : List Bounded
  t : Bounded
  after : List Bounded
  parts : replaced 0 tokens ≡ before ++ t ∷ after
  above : limit < t.spot.bound
  outcome : read (numbered 0 (bounded_kinds tokens)) ≡ stop deep (tok_of t ∷ toks_of after)

Understood : List Bounded → Type 0
Understood tokens = ((p : Program) × (read (numbered 0 (bounded_kinds tokens)) ≡ done p [])) ⊎ Late tokens

to_cases : (tokens : List Bounded) (p : Program) (o : ParseOutcome Program) → read (numbered 0 (bounded_kinds tokens)) ≡ o → To limit (replaced 0 tokens) [] (done p []) o → Understood tokens
unfolding Understood
to_cases tokens p o e arrives = inl (p, e)
to_cases tokens p o e (late before t after q h) = inr record { before = before; t = t; after = after; parts = q; above = h; outcome = e ∙ ap (λ s. stop deep (tok_of t ∷ s)) (append-nil (toks_of after)) }

understood : (tokens : List Bounded) (p : Program) → IsProgram tokens p → Understood tokens
understood tokens p h =
    let q = same_program h (replaced 0 tokens) (alike_replaced 0 tokens) in
    to_cases tokens q.0 (read (toks_of (replaced 0 tokens) ++ []))
    (ap read (sym (append-nil (toks_of (replaced 0 tokens)) ∙ toks_replaced 0 tokens)))
    (program_goes limit limit refl (replaced 0 tokens) q.0 q.1.0)

-- where reading stops
record Stopped (reason : Reason) (kinds : List Kind) (rest : List Tok) : Type 0 where
  js : List Kind
  ks : List Kind
  whole : kinds ≡ js ++ ks
  back : rest ≡ numbered (0 + length js) ks
  more : List Bounded
  tree : Program
  means : IsProgram (bounded_all limit (numbered 0 js) ++ more) tree
  opens : Opens reason more (numbered (0 + length js) ks)
  again : (other : List Tok) → Alike (numbered (0 + length js) ks) other → read (numbered 0 js ++ other) ≡ stop reason other

stopped_from : (reason : Reason) (kinds : List Kind) (rest : List Tok) → Stops limit (program limit limit) IsProgram (numbered 0 kinds) reason rest → Stopped reason kinds rest
stopped_from reason kinds rest h =
    let s = split_numbered 0 kinds h.used rest h.split in
    record {
      js = s.js;
      ks = s.ks;
      whole = s.whole;
      back = s.back;
      more = h.more;
      tree = h.tree;
      means = subst (λ used. IsProgram (bounded_all limit used ++ h.more) h.tree) s.front h.means;
      opens = subst (λ r. Opens reason h.more r) s.back h.opens;
      again = λ other a. ap (λ used. read (used ++ other)) (sym s.front) ∙ h.again other (subst (λ r. Alike r other) (sym s.back) a);
    }

stopped_go : (reason : Reason) (kinds : List Kind) (rest : List Tok) → Holds limit (program limit limit) IsProgram (numbered 0 kinds) (stop reason rest) → Stopped reason kinds rest
stopped_go reason kinds rest (stops h) = stopped_from reason kinds rest h

stopped : (reason : Reason) (kinds : List Kind) (rest : List Tok) → read (numbered 0 kinds) ≡ stop reason rest → Stopped reason kinds rest
stopped reason kinds rest e = stopped_go reason kinds rest (subst (λ o. Holds limit (program limit limit) IsProgram (numbered 0 kinds) o) e (program_at limit limit refl (numbered 0 kinds)))

reached_go : (kinds : List Kind) (p : Program) → Holds limit (program limit limit) IsProgram (numbered 0 kinds) (done p []) → AreProgram kinds p
reached_go kinds p (reaches h) = subst (λ used. IsProgram (bounded_all limit used) p) (sym (h.split ∙ append-nil h.used)) h.means

-- what is read is the program of the tokens
pub reads : (kinds : List Kind) (p : Program) → read (numbered 0 kinds) ≡ done p [] → AreProgram kinds p
reads kinds p e = reached_go kinds p (subst (λ o. Holds limit (program limit limit) IsProgram (numbered 0 kinds) o) e (program_at limit limit refl (numbered 0 kinds)))

-- no token nests too deep in what keeps the limits
no_late : (n : ℕ) (toks : List Tok) (before : List Bounded) (t : Bounded) (after : List Bounded) → bounded_all limit toks ≡ before ++ t ∷ after → t.spot.bound ≡ limit
no_late n [] [] t after e = absurd (nil_cons t after e)
no_late n [] (x ∷ before) t after e = absurd (nil_cons x (before ++ t ∷ after) e)
no_late n (u ∷ toks) [] t after e = ap (λ t. t.spot.bound) (sym (heads _ t _ after e))
no_late n (u ∷ toks) (x ∷ before) t after e = no_late n toks before t after (tails _ x _ _ e)

toks_bounded : (toks : List Tok) → toks_of (bounded_all limit toks) ≡ toks
toks_bounded [] = refl
toks_bounded (t ∷ toks) = ap (λ s. t ∷ s) (toks_bounded toks)

read_go : (kinds : List Kind) (p : Program) (o : ParseOutcome Program) → To limit (bounded_all limit (numbered 0 kinds)) [] (done p []) o → o ≡ done p []
read_go kinds p o arrives = refl
read_go kinds p o (late before t after e h) = absurd (omega (arith, h, no_late 0 (numbered 0 kinds) before t after e))

-- the program of the tokens is read
pub is_read : (kinds : List Kind) (p : Program) → AreProgram kinds p → read (numbered 0 kinds) ≡ done p []
is_read kinds p h = ap read (sym (append-nil (toks_of (bounded_all limit (numbered 0 kinds))) ∙ toks_bounded (numbered 0 kinds)))
    ∙ read_go kinds p (read (toks_of (bounded_all limit (numbered 0 kinds)) ++ [])) (program_goes limit limit refl (bounded_all limit (numbered 0 kinds)) p h)

same_program_of : (p q : Program) → done p [] ≡ done q [] → p ≡ q
unfolding program_of
same_program_of p q e = ap (program_of p) e

pub one_program : (kinds : List Kind) (p q : Program) → AreProgram kinds p → AreProgram kinds q → p ≡ q
one_program kinds p q a b = same_program_of p q (sym (is_read kinds p a) ∙ is_read kinds q b)

-- the beginning of what keeps the limits
limited_front : (place : ℕ) (js : List Kind) (more : List Bounded) (n : ℕ) → n ≤ length js → AreLimited (take n (bounded_all limit (numbered place js) ++ more))
limited_front place js more zero h = tt
limited_front place [] more (suc n) h = absurd (omega (arith, h))
limited_front place (j ∷ js) more (suc n) h = (omega arith, limited_front (suc place) js more n (omega (arith, h)))

kinds_front : (js : List Kind) (more : List Bounded) → bounded_kinds (bounded_all limit (numbered 0 js) ++ more) ≡ js ++ bounded_kinds more
kinds_front js more = map-append (λ t. t.kind) (bounded_all limit (numbered 0 js)) more ∙ ap (λ ks. ks ++ bounded_kinds more) (kinds-numbered 0 js)

begins_front : (js : List Kind) (more : List Bounded) (tree : Program) → IsProgram (bounded_all limit (numbered 0 js) ++ more) tree → (kept : ℕ) → kept ≤ length js → (n : ℕ) → BeginsWithin kept (take n js)
begins_front js more tree h kept l n = (
  bounded_all limit (numbered 0 js) ++ more,
  tree,
  drop n js ++ bounded_kinds more,
  kinds_front js more ∙ ap (λ ks. ks ++ bounded_kinds more) (sym (take-append-drop n js)) ∙ append_assoc (take n js) (drop n js) (bounded_kinds more),
  limited_front 0 js more kept l,
  h,
)

take_all : (js ks : List Kind) → take (length js) (js ++ ks) ≡ js
take_all [] ks = refl
take_all (j ∷ js) ks = ap (λ ks. j ∷ ks) (take_all js ks)

take_next : (js : List Kind) (x : Kind) (ks : List Kind) → take (suc (length js)) (js ++ x ∷ ks) ≡ js ++ x ∷ []
take_next [] x ks = refl
take_next (j ∷ js) x ks = ap (λ ks. j ∷ ks) (take_next js x ks)

take_within : (n : ℕ) (js ks : List Kind) → n ≤ length js → take n (js ++ ks) ≡ take n js
take_within zero js ks h = refl
take_within (suc n) [] ks h = absurd (omega (arith, h))
take_within (suc n) (j ∷ js) ks h = ap (λ ks. j ∷ ks) (take_within n js ks (omega (arith, h)))

longer : (js : List Kind) (x : Kind) (ks : List Kind) → length js < length (js ++ x ∷ ks)
longer js x ks = rw (length-append js (x ∷ ks)) (omega arith)

-- nothing before where reading stops nests too deep
shallow : (reason : Reason) (kinds : List Kind) (rest : List Tok) (s : Stopped reason kinds rest) → IsShallowBefore kinds (length s.js)
shallow reason kinds rest s j l d =
    d.2 (subst (λ ks. BeginsWithin (suc j) ks) (sym (ap (take (suc j)) s.whole ∙ take_within (suc j) s.js s.ks (omega (arith, l))))
    (begins_front s.js s.more s.tree s.means (suc j) (omega (arith, l)) (suc j)))

-- what begins with the same tokens stops there too
again_at : (reason : Reason) (kinds : List Kind) (rest : List Tok) (s : Stopped reason kinds rest) (x : Kind) (ks more : List Kind) → s.ks ≡ x ∷ ks
    → read (numbered 0 (s.js ++ x ∷ more)) ≡ stop reason (numbered (0 + length s.js) (x ∷ more))
again_at reason kinds rest s x ks more e = ap read (numbered-append 0 s.js (x ∷ more))
    ∙ s.again (numbered (0 + length s.js) (x ∷ more)) (subst (λ ks. Alike (numbered (0 + length s.js) ks) (numbered (0 + length s.js) (x ∷ more))) (sym e) refl)

not_expected : (tokens : List Bounded) (r : List Tok) → read (numbered 0 (bounded_kinds tokens)) ≡ stop expected r → Understood tokens → ⊥
unfolding Understood
not_expected tokens r e (inl d) = done_expected (sym d.1 ∙ e)
not_expected tokens r e (inr h) = deep_expected (read (numbered 0 (bounded_kinds tokens))) (tok_of h.t ∷ toks_of h.after) r h.outcome e

-- a token with which no program goes on
no_begin : (kinds : List Kind) (rest : List Tok) (s : Stopped expected kinds rest) (x : Kind) (ks : List Kind) → s.ks ≡ x ∷ ks → (kept : ℕ) → BeginsWithin kept (s.js ++ x ∷ []) → ⊥
no_begin kinds rest s x ks e kept b = not_expected b.0 (numbered (0 + length s.js) (x ∷ b.2))
    (ap (λ ks. read (numbered 0 ks)) (b.3 ∙ append_assoc s.js (x ∷ []) b.2) ∙ again_at expected kinds rest s x ks b.2 e) (understood b.0 b.1 b.5)

begins_all : (js : List Kind) (more : List Bounded) (tree : Program) → IsProgram (bounded_all limit (numbered 0 js) ++ more) tree → (kept : ℕ) → kept ≤ length js → BeginsWithin kept js
begins_all js more tree h kept l = (bounded_all limit (numbered 0 js) ++ more, tree, bounded_kinds more, kinds_front js more, limited_front 0 js more kept l, h)

expected_next : (kinds : List Kind) (rest : List Tok) (s : Stopped expected kinds rest) (x : Kind) (ks : List Kind) → s.ks ≡ x ∷ ks → IsExpectedAt kinds (length s.js)
expected_next kinds rest s x ks e =
    let whole : kinds ≡ s.js ++ x ∷ ks = s.whole ∙ ap (λ ks. s.js ++ ks) e in
    inl (
      subst (λ ks. length s.js < length ks) (sym whole) (longer s.js x ks),
      subst (λ ks. Begins ks) (sym (ap (take (length s.js)) whole ∙ take_all s.js (x ∷ ks))) (begins_all s.js s.more s.tree s.means 0 (omega arith)),
      λ b. no_begin kinds rest s x ks e 0 (subst (λ ks. Begins ks) (ap (take (suc (length s.js))) whole ∙ take_next s.js x ks) b),
    )

-- the text ends too soon
no_text : (kinds : List Kind) (rest : List Tok) (s : Stopped expected kinds rest) → s.ks ≡ [] → IsUnlimitedProgram kinds → ⊥
no_text kinds rest s e t = not_expected t.0 [] (ap (λ ks. read (numbered 0 ks)) (t.2 ∙ s.whole ∙ ap (λ ks. s.js ++ ks) e ∙ append-nil s.js)
    ∙ ap read (sym (append-nil (numbered 0 s.js))) ∙ s.again [] (subst (λ ks. Alike (numbered (0 + length s.js) ks) []) (sym e) tt)) (understood t.0 t.1 t.3)

expected_end : (kinds : List Kind) (rest : List Tok) (s : Stopped expected kinds rest) → s.ks ≡ [] → IsExpectedAt kinds (length s.js)
expected_end kinds rest s e =
    let whole : kinds ≡ s.js = s.whole ∙ ap (λ ks. s.js ++ ks) e ∙ append-nil s.js in
    inr (ap length (sym whole), subst (λ ks. Begins ks) (sym whole) (begins_all s.js s.more s.tree s.means 0 (omega arith)), no_text kinds rest s e)

expected_at : (kinds : List Kind) (rest : List Tok) (s : Stopped expected kinds rest) (ks : List Kind) → s.ks ≡ ks → IsExpectedAt kinds (length s.js)
expected_at kinds rest s [] e = expected_end kinds rest s e
expected_at kinds rest s (x ∷ ks) e = expected_next kinds rest s x ks e

-- the number of the token where reading stops
place_at : (js ks : List Kind) → place_or (length (js ++ ks)) (numbered (0 + length js) ks) ≡ length js
place_at js [] = ap length (append-nil js)
place_at js (x ∷ ks) = omega arith

place_stopped : (reason : Reason) (kinds : List Kind) (rest : List Tok) (s : Stopped reason kinds rest) → place_or (length kinds) rest ≡ length s.js
place_stopped reason kinds rest s = ap (λ ks. place_or (length ks) rest) s.whole ∙ ap (place_or (length (s.js ++ s.ks))) s.back ∙ place_at s.js s.ks

pub refused_expected : (kinds : List Kind) (rest : List Tok) → read (numbered 0 kinds) ≡ stop expected rest
    → IsExpectedAt kinds (place_or (length kinds) rest) × IsShallowBefore kinds (place_or (length kinds) rest)
refused_expected kinds rest e =
    let s = stopped expected kinds rest e in
    subst (λ k. IsExpectedAt kinds k × IsShallowBefore kinds k) (sym (place_stopped expected kinds rest s)) (expected_at kinds rest s s.ks refl, shallow expected kinds rest s)

-- a token that nests too deep
not_limited : (tokens : List Bounded) (j : ℕ) (r : List Tok) (place : ℕ) (x : Kind) → place ≡ j → AreLimited (take (suc j) tokens)
    → read (numbered 0 (bounded_kinds tokens)) ≡ stop deep (record { place = place; kind = x } ∷ r) → Understood tokens → ⊥
unfolding Understood left_of
not_limited tokens j r place x q a e (inl d) = done_deep (sym d.1 ∙ e)
not_limited tokens j r place x q a e (inr h) =
    let place_same : h.t.spot.place ≡ place = ap (λ t. t.place) (heads (tok_of h.t) (record { place = place; kind = x }) (toks_of h.after) r (ap left_of (sym h.outcome ∙ e))) in
    let at : j ≡ length h.before = omega (arith, sym q ∙ sym place_same ∙ place_replaced h.before h.t h.after 0 tokens h.parts) in
    absurd (omega (
      arith,
      h.above,
      limited_at h.before h.t h.after
          (subst (λ ts. AreLimited (take (suc (length h.before)) ts)) h.parts
          (limited_replaced (suc (length h.before)) 0 tokens (subst (λ n. AreLimited (take (suc n) tokens)) at a))),
    ))

no_within : (kinds : List Kind) (rest : List Tok) (s : Stopped deep kinds rest) (x : Kind) (ks : List Kind) → s.ks ≡ x ∷ ks → BeginsWithin (suc (length s.js)) (s.js ++ x ∷ []) → ⊥
no_within kinds rest s x ks e b = not_limited b.0 (length s.js) (numbered (suc (0 + length s.js)) b.2) (0 + length s.js) x (omega arith) b.4
    (ap (λ ks. read (numbered 0 ks)) (b.3 ∙ append_assoc s.js (x ∷ []) b.2) ∙ again_at deep kinds rest s x ks b.2 e) (understood b.0 b.1 b.5)

begins_deep : (js : List Kind) (x : Kind) (ks : List Kind) (more : List Bounded) (tree : Program) → IsProgram (bounded_all limit (numbered 0 js) ++ more) tree
    → Opens deep more (numbered (0 + length js) (x ∷ ks)) → BeginsWithin (length js) (js ++ x ∷ [])
begins_deep js x ks (m ∷ more) tree h o = (
  bounded_all limit (numbered 0 js) ++ m ∷ more,
  tree,
  bounded_kinds more,
  kinds_front js (m ∷ more) ∙ ap (λ k. js ++ k ∷ bounded_kinds more) (ap (λ t. t.kind) o) ∙ sym (append_assoc js (x ∷ []) (bounded_kinds more)),
  limited_front 0 js (m ∷ more) (length js) (omega arith),
  h,
)
begins_deep js x ks [] tree h o = elim o [ ]

deep_next : (kinds : List Kind) (rest : List Tok) (s : Stopped deep kinds rest) (x : Kind) (ks : List Kind) → s.ks ≡ x ∷ ks → IsDeepAt kinds (length s.js)
deep_next kinds rest s x ks e =
    let whole : kinds ≡ s.js ++ x ∷ ks = s.whole ∙ ap (λ ks. s.js ++ ks) e in
    let next : take (suc (length s.js)) kinds ≡ s.js ++ x ∷ [] = ap (take (suc (length s.js))) whole ∙ take_next s.js x ks in (
      subst (λ ks. length s.js < length ks) (sym whole) (longer s.js x ks),
      subst (λ ks. BeginsWithin (length s.js) ks) (sym next)
          (begins_deep s.js x ks s.more s.tree s.means (subst (λ ks. Opens deep s.more (numbered (0 + length s.js) ks)) e s.opens)),
      λ b. no_within kinds rest s x ks e (subst (λ ks. BeginsWithin (suc (length s.js)) ks) next b),
    )

no_deep_end : (more : List Bounded) → Opens deep more [] → ⊥
no_deep_end [] o = elim o [ ]
no_deep_end (m ∷ more) o = elim o [ ]

deep_at : (kinds : List Kind) (rest : List Tok) (s : Stopped deep kinds rest) (ks : List Kind) → s.ks ≡ ks → IsDeepAt kinds (length s.js)
deep_at kinds rest s [] e = absurd (no_deep_end s.more (subst (λ ks. Opens deep s.more (numbered (0 + length s.js) ks)) e s.opens))
deep_at kinds rest s (x ∷ ks) e = deep_next kinds rest s x ks e

pub refused_deep : (kinds : List Kind) (rest : List Tok) → read (numbered 0 kinds) ≡ stop deep rest → IsDeepAt kinds (place_or (length kinds) rest)
refused_deep kinds rest e =
    let s = stopped deep kinds rest e in
    subst (λ k. IsDeepAt kinds k) (sym (place_stopped deep kinds rest s)) (deep_at kinds rest s s.ks refl)
