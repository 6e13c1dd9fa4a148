-- The header of a file: what is read of it is what stands there, and what was written of it is read again.
use Rattle.std.proofs.Common.{◌≡◌, ℕ, ◌+◌, ◌*◌, ◌^◌, ◌<◌, ◌≤◌, Bool, true, false, List, [], ◌∷◌, ◌++◌, length, take, drop, map, Option, Some, None, refl, sym, ap, ◌∙◌, arith}
use Rattle.std.specs.Int.{w32, from_be_bytes, to_be_bytes}
use Rattle.std.specs.List.{flat_map, AllByRecursion}
use Rattle.std.proofs.lemmas.Bool.{le-ltb, ltb-false}
use Rattle.std.proofs.lemmas.List.{take-append-drop, length-take, length-drop, length-append, drop-drop}
use Rattle.std.proofs.lemmas.Nat.{be_bytes_4, from_be_bytes-to_be_bytes_4}
use Rattle.image_file.specs.declared.error.ImageError.{ImageError}
use Rattle.image_file.specs.ImageTable.{Header, Field, fields, header_bytes}
use Rattle.image_file.specs.ImageFaults.{number_at, header_in, field_fault, first_of}
use Rattle.image_file.specs.ReadParts.{fault_among}
use Rattle.image_file.proofs.Words.{AreBytes, AreBytes-take, AreBytes-drop}

-- the four bytes at a place are those of the number there
number-back : (bytes : List ℕ) (at : ℕ) → at + 4 ≤ length bytes → AreBytes bytes → drop at bytes ≡ to_be_bytes w32 (number_at bytes at) ++ drop (at + 4) bytes
number-back bytes at long fit =
    let rest = drop at bytes in
    let front : to_be_bytes w32 (number_at bytes at) ≡ take 4 rest = be_bytes_4 (take 4 rest) _ (omega (arith, length-take 4 rest, length-drop at bytes)) (AreBytes-take 4 rest (AreBytes-drop at bytes fit)) refl in
    sym (take-append-drop 4 rest) ∙ ap (λ (l : List ℕ). l ++ drop 4 rest) (sym front) ∙ ap (λ (l : List ℕ). to_be_bytes w32 (number_at bytes at) ++ l) (drop-drop 4 at bytes)

-- lists that each begin with a number of a header, in order
header-chain : (h : Header) (r0 r1 r2 r3 r4 r5 r6 r7 r8 r9 : List ℕ) → r0 ≡ to_be_bytes w32 h.magic ++ r1 → r1 ≡ to_be_bytes w32 h.version ++ r2 → r2 ≡ to_be_bytes w32 h.verified ++ r3
    → r3 ≡ to_be_bytes w32 h.private ++ r4 → r4 ≡ to_be_bytes w32 h.constants ++ r5 → r5 ≡ to_be_bytes w32 h.code ++ r6 → r6 ≡ to_be_bytes w32 h.log ++ r7
    → r7 ≡ to_be_bytes w32 h.shared ++ r8 → r8 ≡ to_be_bytes w32 h.entry ++ r9 → r0 ≡ header_bytes h ++ r9
header-chain h r0 r1 r2 r3 r4 r5 r6 r7 r8 r9 e0 e1 e2 e3 e4 e5 e6 e7 e8 =
    e0 ∙ ap (λ (l : List ℕ). to_be_bytes w32 h.magic ++ l) (e1 ∙ ap (λ (l : List ℕ). to_be_bytes w32 h.version ++ l) (e2 ∙ ap (λ (l : List ℕ). to_be_bytes w32 h.verified ++ l) (e3
    ∙ ap (λ (l : List ℕ). to_be_bytes w32 h.private ++ l) (e4 ∙ ap (λ (l : List ℕ). to_be_bytes w32 h.constants ++ l) (e5 ∙ ap (λ (l : List ℕ). to_be_bytes w32 h.code ++ l) (e6
    ∙ ap (λ (l : List ℕ). to_be_bytes w32 h.log ++ l) (e7 ∙ ap (λ (l : List ℕ). to_be_bytes w32 h.shared ++ l) e8)))))))

-- a file that is long enough begins with the bytes of the header in it
pub header-back : (bytes : List ℕ) → 36 ≤ length bytes → AreBytes bytes → bytes ≡ header_bytes (header_in bytes) ++ drop 36 bytes
header-back bytes long fit =
    header-chain (header_in bytes) bytes (drop 4 bytes) (drop 8 bytes) (drop 12 bytes) (drop 16 bytes) (drop 20 bytes) (drop 24 bytes) (drop 28 bytes) (drop 32 bytes) (drop 36 bytes)
    (number-back bytes 0 (omega arith) fit) (number-back bytes 4 (omega arith) fit) (number-back bytes 8 (omega arith) fit) (number-back bytes 12 (omega arith) fit)
    (number-back bytes 16 (omega arith) fit) (number-back bytes 20 (omega arith) fit) (number-back bytes 24 (omega arith) fit) (number-back bytes 28 (omega arith) fit) (number-back bytes 32 (omega arith) fit)

-- the nine numbers of a header
abbrev Nine : Type 0
Nine = ℕ × ℕ × ℕ × ℕ × ℕ × ℕ × ℕ × ℕ × ℕ

abbrev header_with : Nine → Header
header_with n = record { magic = n.0; version = n.1; verified = n.2; private = n.3; constants = n.4; code = n.5; log = n.6; shared = n.7; entry = n.8 }

same-nine : (a0 a1 a2 a3 a4 a5 a6 a7 a8 b0 b1 b2 b3 b4 b5 b6 b7 b8 : ℕ) → a0 ≡ b0 → a1 ≡ b1 → a2 ≡ b2 → a3 ≡ b3 → a4 ≡ b4 → a5 ≡ b5 → a6 ≡ b6 → a7 ≡ b7 → a8 ≡ b8
    → ◌≡◌ {A = Nine} (a0, a1, a2, a3, a4, a5, a6, a7, a8) (b0, b1, b2, b3, b4, b5, b6, b7, b8)
same-nine a0 a1 a2 a3 a4 a5 a6 a7 a8 b0 b1 b2 b3 b4 b5 b6 b7 b8 e0 e1 e2 e3 e4 e5 e6 e7 e8 = cc

-- two headers with the same numbers are one
pub same-header : (a b : Header) → a.magic ≡ b.magic → a.version ≡ b.version → a.verified ≡ b.verified → a.private ≡ b.private → a.constants ≡ b.constants
    → a.code ≡ b.code → a.log ≡ b.log → a.shared ≡ b.shared → a.entry ≡ b.entry → a ≡ b
same-header a b e0 e1 e2 e3 e4 e5 e6 e7 e8 =
    ap header_with (same-nine a.magic a.version a.verified a.private a.constants a.code a.log a.shared a.entry b.magic b.version b.verified b.private b.constants b.code b.log b.shared b.entry e0 e1 e2 e3 e4 e5 e6 e7 e8)

-- each number of a header is one of four bytes
pub record FitsFields (h : Header) : Type 0 where
  pub magic : h.magic < 2 ^ 32
  pub version : h.version < 2 ^ 32
  pub verified : h.verified < 2 ^ 32
  pub private : h.private < 2 ^ 32
  pub constants : h.constants < 2 ^ 32
  pub code : h.code < 2 ^ 32
  pub log : h.log < 2 ^ 32
  pub shared : h.shared < 2 ^ 32
  pub entry : h.entry < 2 ^ 32

-- the header that was written is read
pub header-again : (h : Header) (rest : List ℕ) → FitsFields h → header_in (header_bytes h ++ rest) ≡ h
header-again h rest fit =
    same-header (header_in (header_bytes h ++ rest)) h
    (from_be_bytes-to_be_bytes_4 h.magic fit.magic) (from_be_bytes-to_be_bytes_4 h.version fit.version) (from_be_bytes-to_be_bytes_4 h.verified fit.verified)
    (from_be_bytes-to_be_bytes_4 h.private fit.private) (from_be_bytes-to_be_bytes_4 h.constants fit.constants) (from_be_bytes-to_be_bytes_4 h.code fit.code)
    (from_be_bytes-to_be_bytes_4 h.log fit.log) (from_be_bytes-to_be_bytes_4 h.shared fit.shared) (from_be_bytes-to_be_bytes_4 h.entry fit.entry)

-- ---- faults

-- the first of two faults
abbrev pub or_else : Option ImageError → Option ImageError → Option ImageError
or_else None later = later
or_else (Some fault) later = Some fault

pub first_of-append : (faults later : List (Option ImageError)) → first_of (faults ++ later) ≡ or_else (first_of faults) (first_of later)
first_of-append [] later = refl
first_of-append (None ∷ faults) later = first_of-append faults later
first_of-append (Some fault ∷ faults) later = refl

-- fields that are whole and allowed
abbrev pub AreFine : List ℕ → List Field → Type 0
AreFine bytes fs = AllByRecursion (λ f. (f.at + 4 ≤ length bytes) × (f.allowed ≡ true)) fs

field_fault-fine : (bytes : List ℕ) (f : Field) → f.at + 4 ≤ length bytes → f.allowed ≡ true → field_fault bytes f ≡ None
field_fault-fine bytes f long allowed = rw (le-ltb (length bytes) (f.at + 4) long, allowed) refl

pub first_of-fine : (bytes : List ℕ) (fs : List Field) (last : Option ImageError) → AreFine bytes fs → last ≡ None → first_of (map (field_fault bytes) fs ++ last ∷ []) ≡ None
first_of-fine bytes [] last fine e = rw e refl
first_of-fine bytes (f ∷ fs) last fine e = rw (field_fault-fine bytes f fine.0.0 fine.0.1) (first_of-fine bytes fs last fine.1 e)
