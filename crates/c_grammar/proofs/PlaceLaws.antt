-- Tokens have one answer: they are a program, or stop being the beginning of one at one token, or nest too deep at one token.
use Rattle.std.proofs.Common.{◌≡◌, ◌≤◌, ◌<◌, inl, inr, ℕ, zero, suc, List, [], ◌∷◌, ◌++◌, length, take, drop, refl, sym, ap, subst, ◌∙◌, arith, append_assoc}
use Rattle.std.proofs.lemmas.Bool.{cases_lt}
use Rattle.std.proofs.lemmas.List.{take-append-drop}
use Rattle.std.proofs.Math.Seq.{take-length}
use Rattle.c_token.specs.declared.kinds.Kind.{Kind}
use Rattle.c_grammar.specs.declared.item.Program.{Program}
use Rattle.c_grammar.specs.BoundedTokens.{Bounded, bounded_kinds, numbered, bounded_all}
use Rattle.c_grammar.specs.TokenPrograms.{limit, AreProgram, AreLimited, IsUnlimitedProgram, Begins, BeginsWithin, IsExpectedAt, IsDeepAt, IsShallowBefore}
use Rattle.c_grammar.proofs.AlikeKinds.{numbered_limited, kinds-numbered}

-- of limited tokens the first ones are limited
limited-take : (n : ℕ) (ts : List Bounded) → AreLimited ts → AreLimited (take n ts)
limited-take zero ts limited = tt
limited-take (suc n) [] limited = tt
limited-take (suc n) (t ∷ ts) limited = (limited.0, limited-take n ts limited.1)

limited-fewer : (m n : ℕ) (ts : List Bounded) → m ≤ n → AreLimited (take n ts) → AreLimited (take m ts)
limited-fewer zero n ts le limited = tt
limited-fewer (suc m) zero ts le limited = absurd (omega (arith, le))
limited-fewer (suc m) (suc n) [] le limited = tt
limited-fewer (suc m) (suc n) (t ∷ ts) le limited = (limited.0, limited-fewer m n ts (omega (arith, le)) limited.1)

-- the first of the first ones
take-fewer : (m n : ℕ) (ks : List Kind) → m ≤ n → take m (take n ks) ≡ take m ks
take-fewer zero n ks le = refl
take-fewer (suc m) zero ks le = absurd (omega (arith, le))
take-fewer (suc m) (suc n) [] le = refl
take-fewer (suc m) (suc n) (k ∷ ks) le = ap (λ ks. k ∷ ks) (take-fewer m n ks (omega (arith, le)))

-- what begins a program begins it with fewer tokens, within the limits at fewer
begins-fewer : (kept fewer m n : ℕ) (ks : List Kind) → fewer ≤ kept → m ≤ n → BeginsWithin kept (take n ks) → BeginsWithin fewer (take m ks)
begins-fewer kept fewer m n ks less le begins =
    let tokens = begins.0 in
    let more = begins.2 in
    let front : take n ks ≡ take m ks ++ drop m (take n ks) = sym (take-append-drop m (take n ks)) ∙ ap (λ front. front ++ drop m (take n ks)) (take-fewer m n ks le) in
    let whole : bounded_kinds tokens ≡ take m ks ++ (drop m (take n ks) ++ more) =
    begins.3 ∙ ap (λ front. front ++ more) front ∙ append_assoc (take m ks) (drop m (take n ks)) more in
    (tokens, begins.1, drop m (take n ks) ++ more, whole, limited-fewer fewer kept tokens less begins.4, begins.5)

-- a program within the limits begins itself, with any number of its tokens
reads-begins : (kept n : ℕ) (ks : List Kind) (p : Program) → AreProgram ks p → BeginsWithin kept (take n ks)
reads-begins kept n ks p reads =
    let tokens = bounded_all limit (numbered 0 ks) in
    (tokens, p, drop n ks, kinds-numbered 0 ks ∙ sym (take-append-drop n ks), limited-take kept tokens (numbered_limited 0 ks), reads)

pub reads-text : (ks : List Kind) (p : Program) → AreProgram ks p → IsUnlimitedProgram ks
reads-text ks p reads = (bounded_all limit (numbered 0 ks), p, kinds-numbered 0 ks, reads)

-- a program stops nowhere being the beginning of one, and nests nowhere too deep
pub reads-expected : (ks : List Kind) (p : Program) (k : ℕ) → AreProgram ks p → IsExpectedAt ks k → ⊥
reads-expected ks p k reads expected = elim expected [
  | inl among ↦ among.2 (reads-begins 0 (suc k) ks p reads)
  | inr end ↦ end.2 (reads-text ks p reads)
]

pub reads-deep : (ks : List Kind) (p : Program) (k : ℕ) → AreProgram ks p → IsDeepAt ks k → ⊥
reads-deep ks p k reads deep = deep.2 (reads-begins (suc k) (suc k) ks p reads)

-- the tokens before an expected one begin a program
expected-before : (ks : List Kind) (j k : ℕ) → j < k → IsExpectedAt ks k → Begins (take (suc j) ks)
expected-before ks j k below expected = elim expected [
  | inl among ↦ begins-fewer 0 0 (suc j) k ks (omega arith) (omega (arith, below)) among.1
  | inr end ↦
      let whole : Begins (take k ks) = subst (λ xs. Begins xs) (sym (ap (λ n. take n ks) end.0 ∙ take-length ks)) end.1 in
      begins-fewer 0 0 (suc j) k ks (omega arith) (omega (arith, below)) whole
]

expected-within : (ks : List Kind) (k : ℕ) → IsExpectedAt ks k → k ≤ length ks
expected-within ks k expected = elim expected [ inl among ↦ let below : k < length ks = among.0 in omega arith | inr end ↦ let at : k ≡ length ks = end.0 in omega arith ]

expected-least : (ks : List Kind) (j k : ℕ) → j < k → IsExpectedAt ks j → IsExpectedAt ks k → ⊥
expected-least ks j k below one two = elim one [
  | inl among ↦ among.2 (expected-before ks j k below two)
  | inr end ↦ let at : j ≡ length ks = end.0 in let within : k ≤ length ks = expected-within ks k two in absurd (omega arith)
]

deep-least : (ks : List Kind) (j k : ℕ) → j < k → IsDeepAt ks j → IsDeepAt ks k → ⊥
deep-least ks j k below one two = one.2 (begins-fewer k (suc j) (suc j) (suc k) ks (omega (arith, below)) (omega (arith, below)) two.1)

apart : (P : ℕ → ℕ → Type 0) → ((j k : ℕ) → j < k → P j k → ⊥) → ((j k : ℕ) → P j k → P k j) → (j k : ℕ) → P j k → j ≡ k
apart P least swap j k both = elim (cases_lt j k) [
  | inl below ↦ absurd (least j k below both)
  | inr above ↦ elim (cases_lt k j) [ inl below ↦ absurd (least k j below (swap j k both)) | inr other ↦ omega (arith, above, other) ]
]

-- there is one expected token, and one that nests too deep
pub expected-one : (ks : List Kind) (j k : ℕ) → IsExpectedAt ks j → IsExpectedAt ks k → j ≡ k
expected-one ks j k one two =
    apart (λ j k. IsExpectedAt ks j × IsExpectedAt ks k) (λ j k below both. expected-least ks j k below both.0 both.1) (λ j k both. (both.1, both.0)) j k (one, two)

pub deep-one : (ks : List Kind) (j k : ℕ) → IsDeepAt ks j → IsDeepAt ks k → j ≡ k
deep-one ks j k one two =
    apart (λ j k. IsDeepAt ks j × IsDeepAt ks k) (λ j k below both. deep-least ks j k below both.0 both.1) (λ j k both. (both.1, both.0)) j k (one, two)

-- and not both, where no token before the expected one nests too deep
pub expected-deep : (ks : List Kind) (j k : ℕ) → IsExpectedAt ks j → IsShallowBefore ks j → IsDeepAt ks k → ⊥
expected-deep ks j k expected shallow deep = elim (cases_lt k j) [
  | inl below ↦ shallow k below deep
  | inr above ↦ elim expected [
    | inl among ↦ among.2 (begins-fewer k 0 (suc j) (suc k) ks (omega arith) (omega (arith, above)) deep.1)
    | inr end ↦ let at : j ≡ length ks = end.0 in let within : k < length ks = deep.0 in absurd (omega (arith, above))
  ]
]
