-- What follows for what goes in and comes out.
use Rattle.std.proofs.Common.{◌≡◌, ℕ, ◌+◌, ◌%◌, ◌^◌, Bool, List, [], ◌∷◌, ◌++◌, length, Some, arith, refl, sym, ◌∙◌, ap, append_assoc, append-nil}
use Rattle.std.proofs.lemmas.List.{length-append}
use Rattle.execution.specs.Traffic.{Entry, Traffic, Extends, after_input, after_loose, after_release, after_write, after_check, after_suspension, without_first, word_at}

-- first by one, then by the other
joined : {A : Type 0} → (one two three more other : List A) → two ≡ one ++ more → three ≡ two ++ other → three ≡ one ++ (more ++ other)
joined one two three more other e f = f ∙ ap (λ xs. xs ++ other) e ∙ append_assoc one more other

input-split : (xs : List ℕ) → (read : List ℕ) × (xs ≡ read ++ without_first xs)
input-split [] = ([], refl)
input-split (x ∷ xs) = (x ∷ [], refl)

module _ {Place : Type 0} where
  pub extends-refl : (t : Traffic Place) → Extends t t
  extends-refl t = record {
    input = ([], refl);
    loose = ([], refl, omega arith);
    bytes = ([], sym (append-nil t.bytes), omega arith);
    writes = ([], sym (append-nil t.writes));
    checks = omega arith;
    suspensions = omega arith;
  }

  pub extends-trans : (one two three : Traffic Place) → Extends one two → Extends two three → Extends one three
  extends-trans one two three a b = record {
    input = (a.input.0 ++ b.input.0, a.input.1 ∙ ap (λ xs. a.input.0 ++ xs) b.input.1 ∙ sym (append_assoc a.input.0 b.input.0 three.input));
    loose = (
      a.loose.0 ++ b.loose.0,
      a.loose.1 ∙ ap (λ xs. a.loose.0 ++ xs) b.loose.1 ∙ sym (append_assoc a.loose.0 b.loose.0 three.loose),
      (let e : length (a.loose.0 ++ b.loose.0) ≡ length a.loose.0 + length b.loose.0 = length-append a.loose.0 b.loose.0 in omega (arith, e, a.loose.2, b.loose.2)),
    );
    bytes = (
      a.bytes.0 ++ b.bytes.0,
      joined one.bytes two.bytes three.bytes a.bytes.0 b.bytes.0 a.bytes.1 b.bytes.1,
      (let e : length (a.bytes.0 ++ b.bytes.0) ≡ length a.bytes.0 + length b.bytes.0 = length-append a.bytes.0 b.bytes.0 in omega (arith, e, a.bytes.2, b.bytes.2)),
    );
    writes = (a.writes.0 ++ b.writes.0, joined one.writes two.writes three.writes a.writes.0 b.writes.0 a.writes.1 b.writes.1);
    checks = omega (arith, a.checks, b.checks);
    suspensions = omega (arith, a.suspensions, b.suspensions);
  }

  pub extends-input : (t : Traffic Place) → Extends t (after_input t)
  extends-input t = let same : Extends t t = extends-refl t in record {
    input = input-split t.input;
    loose = same.loose;
    bytes = same.bytes;
    writes = same.writes;
    checks = same.checks;
    suspensions = same.suspensions;
  }

  pub extends-loose : (same : Place → Place → Bool) (place : Place) (t : Traffic Place) (word : ℕ) → word_at same place t.loose ≡ Some word → Extends t (after_loose t)
  extends-loose same place t word e = let all : Extends t t = extends-refl t in record {
    input = all.input;
    loose = go t.loose e;
    bytes = all.bytes;
    writes = all.writes;
    checks = all.checks;
    suspensions = all.suspensions;
  }
    where
      go : (entries : List (Entry Place)) → word_at same place entries ≡ Some word → (took : List (Entry Place)) × (entries ≡ took ++ without_first entries) × (t.taken + 1 ≡ t.taken + length took)
      go [] h = absurd (grind arith)
      go (entry ∷ entries) h = (entry ∷ [], refl, refl)

  pub extends-release : (word : ℕ) (t : Traffic Place) → Extends t (after_release word t)
  extends-release word t = let same : Extends t t = extends-refl t in record {
    input = same.input;
    loose = same.loose;
    bytes = (word % 2 ^ 8 ∷ [], refl, refl);
    writes = same.writes;
    checks = same.checks;
    suspensions = same.suspensions;
  }

  pub extends-write : (place : Place) (word : ℕ) (t : Traffic Place) → Extends t (after_write place word t)
  extends-write place word t = let same : Extends t t = extends-refl t in record {
    input = same.input;
    loose = same.loose;
    bytes = same.bytes;
    writes = (record { place = place; word = word } ∷ [], refl);
    checks = same.checks;
    suspensions = same.suspensions;
  }

  pub extends-check : (t : Traffic Place) → Extends t (after_check t)
  extends-check t = let same : Extends t t = extends-refl t in record {
    input = same.input;
    loose = same.loose;
    bytes = same.bytes;
    writes = same.writes;
    checks = omega arith;
    suspensions = same.suspensions;
  }

  pub extends-suspension : (t : Traffic Place) → Extends t (after_suspension t)
  extends-suspension t = let same : Extends t t = extends-refl t in record {
    input = same.input;
    loose = same.loose;
    bytes = same.bytes;
    writes = same.writes;
    checks = same.checks;
    suspensions = omega arith;
  }
