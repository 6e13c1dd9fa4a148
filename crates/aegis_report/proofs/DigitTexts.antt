-- The hexadecimal digits of bytes are a text.
use Rattle.std.proofs.Common.{◌≡◌, ℕ, true, ltb, ltb-true, List, [], ◌∷◌, Result, Ok, Err, Bor, MatchResult, refl}
use Rattle.std.specs.Prelude.{IsOk, OnOk, IsUtf8, IsAscii}
use Rattle.std.specs.List.{list_all}
use Rattle.std.specs.Str.{IsValidUpTo, valid_up_to}
use Rattle.std.specs.declared.str.Utf8Error.{Utf8Error}
use Rattle.std.proofs.lemmas.Bool.{and_parts}
use Rattle.std.proofs.lemmas.Str.{IsUtf8-from_ascii}
use Rattle.std.proofs.lemmas.Str.Ascii.{IsAscii-nil, IsAscii-cons}
use Rattle.hex.specs.Hex.{encode_lower, lower_digits}
use Rattle.hex.specs.declared.error.FromHexError.{FromHexError}
use Rattle.hex.proofs.HexLemmas.{IsAscii-encode_with}

-- the test of a list of bytes below 128
ascii-tested : (bytes : List ℕ) → list_all (λ byte. ltb byte 128) bytes ≡ true → IsAscii bytes
ascii-tested [] test = IsAscii-nil
ascii-tested (byte ∷ bytes) test =
    let parts = and_parts _ _ test in
    IsAscii-cons byte bytes (ltb-true byte 128 parts.0) (ascii-tested bytes parts.1)

pub digits-are_text : (bytes : List ℕ) → IsUtf8 (encode_lower bytes)
digits-are_text bytes = IsUtf8-from_ascii _ (IsAscii-encode_with lower_digits bytes (ascii-tested lower_digits refl))

-- what `encode_to_slice` wrote, where it did
pub written : (r : Result Unit FromHexError) (P : Type 0) → IsOk r → OnOk r P → P
written (Ok done) P ok holds = holds
written (Err error) P ok holds = cc

-- what `str::from_utf8` answers at a text
pub text_is_ok : (r : Result (Bor (List ℕ)) Utf8Error) (bytes : List ℕ)
    → MatchResult r (λ s. (s.now ≡ bytes) × IsUtf8 bytes) (λ e. ¬ (IsUtf8 bytes) × IsValidUpTo bytes (valid_up_to e))
    → IsUtf8 bytes → IsOk r
text_is_ok (Ok s) bytes cases utf8 = refl
text_is_ok (Err e) bytes cases utf8 = absurd (cases.0 utf8)
