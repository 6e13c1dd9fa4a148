-- The elements of cells, by their addresses.
use Rattle.std.proofs.Common.{◌≡◌, ◌≢◌, ℕ, zero, suc, ◌+◌, ◌*◌, ◌<◌, ◌≤◌, ◌⊎◌, inl, inr, List, [], ◌∷◌, ◌++◌, arith, refl, sym, ◌∙◌, ap, subst}
use Rattle.std.specs.List.{slice_get}
use Rattle.execution.specs.Traffic.{Element}
use Rattle.execution.specs.Naming.{Addressed, IsOneOf, AreApart}
use Rattle.ir_code.specs.declared.Cell.{Cell}
use Rattle.ir_code.specs.declared.Ir.{Ir}
use Rattle.ir_code.specs.FlatStates.{words_of, words_in}
use Rattle.codegen.specs.EmittedImage.{elements_at, elements_from}

abbrev Distinct : List Addressed → Type 0
Distinct [] = Unit {0}
Distinct (a ∷ others) = ((b : Addressed) → IsOneOf b others → a.element ≢ b.element) × Distinct others

-- a word of a cell at its address
pub record IsGood (ir : Ir) (home : ℕ → ℕ) (a : Addressed) : Type 0 where
  pub inside : a.element.index < words_of ir a.element.variable
  pub address : a.address ≡ home a.element.variable + 4 * a.element.index

abbrev at-place : ℕ → ℕ → ℕ → Addressed
at-place c home i = record { element = record { variable = c; index = i }; address = home + 4 * i }

-- a member of a cell's elements, or of what comes after them
among-at : (c home i n : ℕ) (rest : List Addressed) (b : Addressed) → IsOneOf b (elements_at c home i n ++ rest) →
    ((b.element.variable ≡ c) × (i ≤ b.element.index) × (b.element.index < i + n) × (b.address ≡ home + 4 * b.element.index)) ⊎ IsOneOf b rest
among-at c home i zero rest b h = inr h
among-at c home i (suc n) rest b (inl e) =
    let index : b.element.index ≡ i = ap (λ (a : Addressed). a.element.index) e in
    let address : b.address ≡ home + 4 * i = ap (λ (a : Addressed). a.address) e in
    inl (ap (λ (a : Addressed). a.element.variable) e, omega (arith, index), omega (arith, index), omega (arith, index, address))
among-at c home i (suc n) rest b (inr h) = go (among-at c home (i + 1) n rest b h)
  where
    go : ((b.element.variable ≡ c) × (i + 1 ≤ b.element.index) × (b.element.index < i + 1 + n) × (b.address ≡ home + 4 * b.element.index)) ⊎ IsOneOf b rest →
        ((b.element.variable ≡ c) × (i ≤ b.element.index) × (b.element.index < i + suc n) × (b.address ≡ home + 4 * b.element.index)) ⊎ IsOneOf b rest
    go (inl x) = let low : i + 1 ≤ b.element.index = x.1 in let high : b.element.index < i + 1 + n = x.2 in inl (x.0, omega (arith, low), omega (arith, high), x.3)
    go (inr y) = inr y

above-from : (home : ℕ → ℕ) (c : ℕ) (cells : List Cell) (b : Addressed) → IsOneOf b (elements_from home c cells) → c ≤ b.element.variable
above-from home c [] b h = absurd h
above-from home c (cell ∷ cells) b h = go (above-from home (c + 1) cells b) (among-at c (home c) 0 cell.words (elements_from home (c + 1) cells) b h)
  where
    go : (IsOneOf b (elements_from home (c + 1) cells) → c + 1 ≤ b.element.variable) →
        ((b.element.variable ≡ c) × (0 ≤ b.element.index) × (b.element.index < 0 + cell.words) × (b.address ≡ home c + 4 * b.element.index)) ⊎ IsOneOf b (elements_from home (c + 1) cells) → c ≤ b.element.variable
    go later (inl x) = let e : b.element.variable ≡ c = x.0 in omega (arith, e)
    go later (inr y) = let e : c + 1 ≤ b.element.variable = later y in omega (arith, e)

distinct-at : (c home i n : ℕ) (rest : List Addressed) → ((b : Addressed) → IsOneOf b rest → c < b.element.variable) → Distinct rest → Distinct (elements_at c home i n ++ rest)
distinct-at c home i zero rest above h = h
distinct-at c home i (suc n) rest above h = (λ b member same. go b same (among-at c home (i + 1) n rest b member), distinct-at c home (i + 1) n rest above h)
  where
    go : (b : Addressed) → (at-place c home i).element ≡ b.element →
        ((b.element.variable ≡ c) × (i + 1 ≤ b.element.index) × (b.element.index < i + 1 + n) × (b.address ≡ home + 4 * b.element.index)) ⊎ IsOneOf b rest → ⊥
    go b same (inl x) = let index : i ≡ b.element.index = ap (λ (e : Element). e.index) same in let low : i + 1 ≤ b.element.index = x.1 in omega (arith, index, low)
    go b same (inr y) = let variable : c ≡ b.element.variable = ap (λ (e : Element). e.variable) same in let low : c < b.element.variable = above b y in omega (arith, variable, low)

distinct-from : (home : ℕ → ℕ) (c : ℕ) (cells : List Cell) → Distinct (elements_from home c cells)
distinct-from home c [] = tt
distinct-from home c (cell ∷ cells) =
    distinct-at c (home c) 0 cell.words (elements_from home (c + 1) cells)
    (λ b h. let e : c + 1 ≤ b.element.variable = above-from home (c + 1) cells b h in omega (arith, e)) (distinct-from home (c + 1) cells)

module _ (ir : Ir) (home : ℕ → ℕ) where
  good-from : (c : ℕ) (cells : List Cell) → ((k : ℕ) → slice_get cells k ≡ slice_get ir.cells (c + k)) → (b : Addressed) → IsOneOf b (elements_from home c cells) → IsGood ir home b
  good-from c [] same b h = absurd h
  good-from c (cell ∷ cells) same b h = go (good-from (c + 1) cells (λ k. same (suc k) ∙ ap (λ (n : ℕ). slice_get ir.cells n) (omega arith)) b) (among-at c (home c) 0 cell.words (elements_from home (c + 1) cells) b h)
    where
      words : words_of ir c ≡ cell.words
      words = ap words_in (ap (λ (k : ℕ). slice_get ir.cells k) (omega arith) ∙ sym (same 0))

      go : (IsOneOf b (elements_from home (c + 1) cells) → IsGood ir home b) →
          ((b.element.variable ≡ c) × (0 ≤ b.element.index) × (b.element.index < 0 + cell.words) × (b.address ≡ home c + 4 * b.element.index)) ⊎ IsOneOf b (elements_from home (c + 1) cells) → IsGood ir home b
      go later (inl x) =
          let high : b.element.index < 0 + cell.words = x.2 in
          let there : words_of ir b.element.variable ≡ words_of ir c = ap (words_of ir) x.0 in
          let homes : home b.element.variable ≡ home c = ap home x.0 in
          let address : b.address ≡ home c + 4 * b.element.index = x.3 in
          record { inside = omega (arith, high, there, words); address = omega (arith, homes, address) }
      go later (inr y) = later y

  apart-of : ((c i d j : ℕ) → i < words_of ir c → j < words_of ir d → home c + 4 * i ≡ home d + 4 * j → (c ≡ d) × (i ≡ j)) → (list : List Addressed) → ((b : Addressed) → IsOneOf b list → IsGood ir home b) →
      Distinct list → AreApart list
  apart-of apart [] good h = tt
  apart-of apart (a ∷ others) good h = (λ b member. (h.0 b member, λ same. h.0 b member (go b (good a (inl refl)) (good b (inr member)) same)), apart-of apart others (λ b member. good b (inr member)) h.1)
    where
      go : (b : Addressed) → IsGood ir home a → IsGood ir home b → a.address ≡ b.address → a.element ≡ b.element
      go b x y same =
          let one : a.address ≡ home a.element.variable + 4 * a.element.index = x.address in
          let other : b.address ≡ home b.element.variable + 4 * b.element.index = y.address in
          let both = apart a.element.variable a.element.index b.element.variable b.element.index x.inside y.inside (sym one ∙ same ∙ other) in
          ap (λ (n : ℕ). let e : Element = record { variable = n; index = a.element.index } in e) both.0 ∙ ap (λ (n : ℕ). let e : Element = record { variable = b.element.variable; index = n } in e) both.1

  -- no element has two addresses, and no address two elements
  pub elements-apart : ((c i d j : ℕ) → i < words_of ir c → j < words_of ir d → home c + 4 * i ≡ home d + 4 * j → (c ≡ d) × (i ≡ j)) → AreApart (elements_from home 0 ir.cells)
  elements-apart apart =
      apart-of apart (elements_from home 0 ir.cells) (good-from 0 ir.cells (λ k. ap (λ (n : ℕ). slice_get ir.cells n) (omega arith))) (distinct-from home 0 ir.cells)

  member-at : (c i n k : ℕ) (rest : List Addressed) → k < n → IsOneOf (at-place c (home c) (i + k)) (elements_at c (home c) i n ++ rest)
  member-at c i zero k rest below = absurd (omega (arith, below))
  member-at c i (suc n) zero rest below = inl (ap (λ (j : ℕ). at-place c (home c) j) (omega arith))
  member-at c i (suc n) (suc k) rest below =
      inr (subst (λ (j : ℕ). IsOneOf (at-place c (home c) j) (elements_at c (home c) (i + 1) n ++ rest)) (omega arith) (member-at c (i + 1) n k rest (omega (arith, below))))

  after-at : (c i n : ℕ) (rest : List Addressed) (b : Addressed) → IsOneOf b rest → IsOneOf b (elements_at c (home c) i n ++ rest)
  after-at c i zero rest b h = h
  after-at c i (suc n) rest b h = inr (after-at c (i + 1) n rest b h)

  member-from : (c : ℕ) (cells : List Cell) (k i : ℕ) → i < words_in (slice_get cells k) → IsOneOf (at-place (c + k) (home (c + k)) i) (elements_from home c cells)
  member-from c [] k i below = absurd (omega (arith, below))
  member-from c (cell ∷ cells) zero i below =
      subst (λ (d : ℕ). IsOneOf (at-place d (home d) i) (elements_from home c (cell ∷ cells))) (omega arith)
      (subst (λ (j : ℕ). IsOneOf (at-place c (home c) j) (elements_from home c (cell ∷ cells))) (omega arith) (member-at c 0 cell.words i (elements_from home (c + 1) cells) below))
  member-from c (cell ∷ cells) (suc k) i below =
      after-at c 0 cell.words (elements_from home (c + 1) cells) (at-place (c + suc k) (home (c + suc k)) i)
      (subst (λ (d : ℕ). IsOneOf (at-place d (home d) i) (elements_from home (c + 1) cells)) (omega arith) (member-from (c + 1) cells k i below))

  -- each word of a cell is there
  pub element-listed : (c i : ℕ) → i < words_of ir c → IsOneOf (at-place c (home c) i) (elements_from home 0 ir.cells)
  element-listed c i below =
      subst (λ (d : ℕ). IsOneOf (at-place d (home d) i) (elements_from home 0 ir.cells)) (omega arith) (member-from 0 ir.cells c i below)
