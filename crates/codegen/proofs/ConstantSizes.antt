-- The words of constants fit the blocks that the constants have.
use Rattle.std.proofs.Common.{◌≡◌, ℕ, ◌+◌, ◌*◌, ◌-◌, ◌≤◌, Bool, true, false, cond, ◌==◌, List, [], ◌∷◌, ◌++◌, length, replicate, refl, sym, ap, ◌∙◌, arith, length-append, append-nil, append_assoc, take, get_or, ◌<◌, suc}
use Rattle.std.proofs.lemmas.Bool.Decides.{nat_tests}
use Rattle.std.proofs.lemmas.List.Sums.{sum_by-cons}
use Rattle.std.proofs.lemmas.List.{take_more}
use Rattle.std.proofs.lemmas.List.{length-replicate}
use Rattle.std.specs.List.{AllByRecursion}
use Rattle.std.specs.Int.{w32, to_be_bytes}
use Rattle.orbis_core.specs.ByteOrder.{bytes_of}
use Rattle.regions.specs.declared.Class.{Class}
use Rattle.regions.specs.declared.Class.TheVariants.{Open, Verified, Private, Constant, Code, Logged}
use Rattle.ir_code.specs.declared.Cell.{Cell}
use Rattle.ir_code.specs.Lawful.{all_hold, has_first, is_constant}
use Rattle.region_plan.specs.Homes.{class_words, words_for, is_same_class, blocks_for}
use Rattle.codegen.specs.ImageCode.{constant_words}
use Rattle.codegen.proofs.Holding.{first-of, second-of}

same-constant : (class : Class) → is_same_class Constant class ≡ is_constant class
same-constant Open = refl
same-constant Verified = refl
same-constant Private = refl
same-constant Constant = refl
same-constant Code = refl
same-constant Logged = refl

length-cond : (b : Bool) (words : ℕ) (first : List ℕ) → cond b (length first == words) (length first == 0) ≡ true → length (cond b first []) ≡ cond b words 0
length-cond true words first e = grind (arith, nat_tests, e)
length-cond false words first e = refl

pub length-constant_words : (cells : List Cell) → all_hold has_first cells ≡ true → length (constant_words cells) ≡ class_words Constant cells
length-constant_words [] all = refl
length-constant_words (cell ∷ cells) all =
    let own : length (cond (is_constant cell.class) cell.first []) ≡ words_for Constant cell =
    length-cond (is_constant cell.class) cell.words cell.first (first-of (has_first cell) (all_hold has_first cells) all)
    ∙ ap (λ (b : Bool). cond b cell.words 0) (sym (same-constant cell.class)) in
    omega (
      arith,
      length-append (cond (is_constant cell.class) cell.first []) (constant_words cells),
      own,
      length-constant_words cells (second-of (has_first cell) (all_hold has_first cells) all),
      sum_by-cons (words_for Constant) cell cells,
    )

pub constants-fit : (cells : List Cell) (blocks : ℕ) → all_hold has_first cells ≡ true → blocks ≡ blocks_for (class_words Constant cells) → length (constant_words cells) ≤ 16 * blocks
constants-fit cells blocks all is = omega (arith, length-constant_words cells all, is)

-- ---- cell by cell

pub constant_words-push : (cells : List Cell) (cell : Cell) → constant_words (cells ++ cell ∷ []) ≡ constant_words cells ++ cond (is_constant cell.class) cell.first []
constant_words-push [] cell = append-nil (cond (is_constant cell.class) cell.first [])
constant_words-push (other ∷ cells) cell =
    ap (λ (words : List ℕ). cond (is_constant other.class) other.first [] ++ words) (constant_words-push cells cell)
    ∙ sym (append_assoc (cond (is_constant other.class) other.first []) (constant_words cells) (cond (is_constant cell.class) cell.first []))

pub constant_words-more : (cells : List Cell) (i : ℕ) (cell : Cell) → i < length cells → cell ≡ get_or cells i cell →
    constant_words (take (i + 1) cells) ≡ constant_words (take i cells) ++ cond (is_constant cell.class) cell.first []
constant_words-more cells i cell inside is =
    ap constant_words (take_more cells i cell inside)
    ∙ ap (λ (it : Cell). constant_words (take i cells ++ it ∷ [])) (sym is)
    ∙ constant_words-push (take i cells) cell

pub not-constant : (class : Class) → (class ≡ Constant → ⊥) → is_constant class ≡ false
not-constant Constant none = absurd (none refl)
not-constant other none = refl

-- what is read of each index holds of each element
pub each-below : (limit : ℕ) (xs : List ℕ) → ((i : ℕ) → i < length xs → get_or xs i 0 < limit) → AllByRecursion (λ x. x < limit) xs
each-below limit [] each = tt
each-below limit (x ∷ xs) each = (each 0 (omega arith), each-below limit xs (λ i inside. each (suc i) (omega (arith, inside))))

-- ---- lengths

length-bytes_of : (words : List ℕ) → length (bytes_of words) ≡ 4 * length words
length-bytes_of [] = refl
length-bytes_of (word ∷ words) = omega (arith, length-append (to_be_bytes w32 word) (bytes_of words), length-bytes_of words)

pub length-constant_bytes : (cells : List Cell) (blocks : ℕ) → all_hold has_first cells ≡ true → blocks ≡ blocks_for (class_words Constant cells) →
    length (bytes_of (constant_words cells ++ replicate (16 * blocks - length (constant_words cells)) 0)) ≡ 64 * blocks
length-constant_bytes cells blocks all is =
    omega (
      arith,
      length-bytes_of (constant_words cells ++ replicate (16 * blocks - length (constant_words cells)) 0),
      length-append (constant_words cells) (replicate (16 * blocks - length (constant_words cells)) 0),
      length-replicate {A = ℕ} (16 * blocks - length (constant_words cells)) 0,
      constants-fit cells blocks all is,
    )
