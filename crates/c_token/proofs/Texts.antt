-- What `str::from_utf8` answers at bytes that are a text.
use Rattle.std.proofs.Common.{◌≡◌, ℕ, List, Result, Ok, Err, Bor, IsUtf8, MatchResult, subst, refl}
use Rattle.std.specs.Prelude.{IsOk}
use Rattle.std.specs.Str.{IsValidUpTo, valid_up_to}
use Rattle.std.specs.declared.str.Utf8Error.{Utf8Error}

pub text_is_ok : (r : Result (Bor (List ℕ)) Utf8Error) (bytes : List ℕ) → MatchResult r (λ s. (s.now ≡ bytes) × IsUtf8 bytes) (λ e. ¬ (IsUtf8 bytes) × IsValidUpTo bytes (valid_up_to e))
    → IsUtf8 bytes → IsOk r
text_is_ok (Ok s) bytes cases utf8 = refl
text_is_ok (Err e) bytes cases utf8 = absurd (cases.0 utf8)

pub text_is_same : (r : Result (Bor (List ℕ)) Utf8Error) (bytes : List ℕ) (s : Bor (List ℕ)) → MatchResult r (λ s. (s.now ≡ bytes) × IsUtf8 bytes) (λ e. ¬ (IsUtf8 bytes) × IsValidUpTo bytes (valid_up_to e))
    → r ≡ Ok s → s.now ≡ bytes
text_is_same (Ok t) bytes s cases e = let same : t ≡ s = cc in subst (λ (t : Bor (List ℕ)). t.now ≡ bytes) same cases.0
text_is_same (Err d) bytes s cases e = cc
