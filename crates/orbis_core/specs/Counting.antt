-- Device: a memory that counts its accesses down, as the tests have one.
use Rattle.std.proofs.Common.{arith}
use Rattle.std.specs.Prelude.{◌≡◌, ◌≤◌, ℕ, ◌+◌}
use Rattle.orbis_core.specs.Accesses.{Accesses, LeaveOneFewer}

-- each call takes one of the accesses that are left
abbrev pub counting : {M : Type 0} → (M → ℕ) → Accesses M
counting {M} left = record {
  fetch = λ old at answer new. left old ≡ left new + 1;
  load_word = λ old at answer new. left old ≡ left new + 1;
  load_byte = λ old at answer new. left old ≡ left new + 1;
  store_word = λ old at word answer new. left old ≡ left new + 1;
  store_byte = λ old at byte answer new. left old ≡ left new + 1;
}

pub counting_leaves : {M : Type 0} (left : M → ℕ) → LeaveOneFewer (counting left) (λ (memory : M) n. n ≤ left memory)
counting_leaves left = record {
  fetch = λ old new at answer does settled n has. omega (arith, does, has);
  load_word = λ old new at answer does settled n has. omega (arith, does, has);
  load_byte = λ old new at answer does settled n has. omega (arith, does, has);
  store_word = λ old new at word answer does settled n has. omega (arith, does, has);
  store_byte = λ old new at byte answer does settled n has. omega (arith, does, has);
}
