-- Worked examples of the file of an image. The bytes are from the text of the format, by a script that knows nothing of these definitions.
use Rattle.std.proofs.Common.{◌≡◌, ℕ, ◌+◌, ◌^◌, List, [], ◌∷◌, ◌++◌, take, drop, None, Some, refl, lit≤, lit<, replicate, arith}
use Rattle.std.specs.Int.{w32, to_be_bytes}
use Rattle.image_file.specs.declared.error.ImageError.TheVariants as errors
use Rattle.image_file.specs.declared.image.Image.{Image}
use Rattle.image_file.specs.ImageTable.{bytes_of, static_bytes, HoldsWords}
use Rattle.image_file.specs.ImageFaults.{first_fault, number_at}

-- ---- two images and their files

-- a program that releases a byte and ends, in one block
abbrev small : Image
small = record {
  layout = record { verified = 1; private = 0; constants = 0; code = 1; log = 0; shared = 0; data_fits = lit≤ tt; log_fits = lit≤ tt; shared_fits = lit≤ tt };
  entry = 0;
  constants = [];
  code = 0x9c600048 ∷ 0x70000006 ∷ 0x70000001 ∷ replicate 13 0x15000000;
  shared_words = refl;
  entry_inside = lit< tt;
  constants_whole = refl;
  code_whole = refl;
}

abbrev small_file : List ℕ
small_file =
    65 ∷ 69 ∷ 71 ∷ 83 ∷ 0 ∷ 0 ∷ 0 ∷ 1 ∷ 0 ∷ 0 ∷ 0 ∷ 1 ∷ 0 ∷ 0 ∷ 0 ∷ 0 ∷
    0 ∷ 0 ∷ 0 ∷ 0 ∷ 0 ∷ 0 ∷ 0 ∷ 1 ∷ 0 ∷ 0 ∷ 0 ∷ 0 ∷ 0 ∷ 0 ∷ 0 ∷ 0 ∷
    0 ∷ 0 ∷ 0 ∷ 0 ∷ 156 ∷ 96 ∷ 0 ∷ 72 ∷ 112 ∷ 0 ∷ 0 ∷ 6 ∷ 112 ∷ 0 ∷ 0 ∷ 1 ∷
    21 ∷ 0 ∷ 0 ∷ 0 ∷ 21 ∷ 0 ∷ 0 ∷ 0 ∷ 21 ∷ 0 ∷ 0 ∷ 0 ∷ 21 ∷ 0 ∷ 0 ∷ 0 ∷
    21 ∷ 0 ∷ 0 ∷ 0 ∷ 21 ∷ 0 ∷ 0 ∷ 0 ∷ 21 ∷ 0 ∷ 0 ∷ 0 ∷ 21 ∷ 0 ∷ 0 ∷ 0 ∷
    21 ∷ 0 ∷ 0 ∷ 0 ∷ 21 ∷ 0 ∷ 0 ∷ 0 ∷ 21 ∷ 0 ∷ 0 ∷ 0 ∷ 21 ∷ 0 ∷ 0 ∷ 0 ∷
    21 ∷ 0 ∷ 0 ∷ 0 ∷ []

bytes_of-small : bytes_of small ≡ small_file
bytes_of-small = refl

-- an image with blocks of each class, whose entry is in the middle of its code
abbrev full : Image
full = record {
  layout = record { verified = 2; private = 3; constants = 1; code = 1; log = 4; shared = 8; data_fits = lit≤ tt; log_fits = lit≤ tt; shared_fits = lit≤ tt };
  entry = 5;
  constants =
      5 ∷ 8 ∷ 11 ∷ 14 ∷ 17 ∷ 20 ∷ 23 ∷ 26 ∷ 29 ∷ 32 ∷ 35 ∷ 38 ∷ 41 ∷ 44 ∷ 47 ∷ 50 ∷
      53 ∷ 56 ∷ 59 ∷ 62 ∷ 65 ∷ 68 ∷ 71 ∷ 74 ∷ 77 ∷ 80 ∷ 83 ∷ 86 ∷ 89 ∷ 92 ∷ 95 ∷ 98 ∷
      101 ∷ 104 ∷ 107 ∷ 110 ∷ 113 ∷ 116 ∷ 119 ∷ 122 ∷ 125 ∷ 128 ∷ 131 ∷ 134 ∷ 137 ∷ 140 ∷ 143 ∷ 146 ∷
      149 ∷ 152 ∷ 155 ∷ 158 ∷ 161 ∷ 164 ∷ 167 ∷ 170 ∷ 173 ∷ 176 ∷ 179 ∷ 182 ∷ 185 ∷ 188 ∷ 191 ∷ 194 ∷ [];
  code = 0x01020304 ∷ 0x02040608 ∷ 0x0306090c ∷ 0x04080c10 ∷ 0x050a0f14 ∷ 0x060c1218 ∷ 0x070e151c ∷ 0x08101820 ∷ 0x09121b24 ∷ 0x0a141e28 ∷ 0x0b16212c ∷ 0x0c182430 ∷ 0x0d1a2734 ∷ 0x0e1c2a38 ∷ 0x0f1e2d3c ∷ 0x10203040 ∷ [];
  shared_words = refl;
  entry_inside = lit< tt;
  constants_whole = refl;
  code_whole = refl;
}

abbrev full_file : List ℕ
full_file =
    65 ∷ 69 ∷ 71 ∷ 83 ∷ 0 ∷ 0 ∷ 0 ∷ 1 ∷ 0 ∷ 0 ∷ 0 ∷ 2 ∷ 0 ∷ 0 ∷ 0 ∷ 3 ∷
    0 ∷ 0 ∷ 0 ∷ 1 ∷ 0 ∷ 0 ∷ 0 ∷ 1 ∷ 0 ∷ 0 ∷ 0 ∷ 4 ∷ 0 ∷ 0 ∷ 0 ∷ 8 ∷
    0 ∷ 0 ∷ 0 ∷ 5 ∷ 5 ∷ 8 ∷ 11 ∷ 14 ∷ 17 ∷ 20 ∷ 23 ∷ 26 ∷ 29 ∷ 32 ∷ 35 ∷ 38 ∷
    41 ∷ 44 ∷ 47 ∷ 50 ∷ 53 ∷ 56 ∷ 59 ∷ 62 ∷ 65 ∷ 68 ∷ 71 ∷ 74 ∷ 77 ∷ 80 ∷ 83 ∷ 86 ∷
    89 ∷ 92 ∷ 95 ∷ 98 ∷ 101 ∷ 104 ∷ 107 ∷ 110 ∷ 113 ∷ 116 ∷ 119 ∷ 122 ∷ 125 ∷ 128 ∷ 131 ∷ 134 ∷
    137 ∷ 140 ∷ 143 ∷ 146 ∷ 149 ∷ 152 ∷ 155 ∷ 158 ∷ 161 ∷ 164 ∷ 167 ∷ 170 ∷ 173 ∷ 176 ∷ 179 ∷ 182 ∷
    185 ∷ 188 ∷ 191 ∷ 194 ∷ 1 ∷ 2 ∷ 3 ∷ 4 ∷ 2 ∷ 4 ∷ 6 ∷ 8 ∷ 3 ∷ 6 ∷ 9 ∷ 12 ∷
    4 ∷ 8 ∷ 12 ∷ 16 ∷ 5 ∷ 10 ∷ 15 ∷ 20 ∷ 6 ∷ 12 ∷ 18 ∷ 24 ∷ 7 ∷ 14 ∷ 21 ∷ 28 ∷
    8 ∷ 16 ∷ 24 ∷ 32 ∷ 9 ∷ 18 ∷ 27 ∷ 36 ∷ 10 ∷ 20 ∷ 30 ∷ 40 ∷ 11 ∷ 22 ∷ 33 ∷ 44 ∷
    12 ∷ 24 ∷ 36 ∷ 48 ∷ 13 ∷ 26 ∷ 39 ∷ 52 ∷ 14 ∷ 28 ∷ 42 ∷ 56 ∷ 15 ∷ 30 ∷ 45 ∷ 60 ∷
    16 ∷ 32 ∷ 48 ∷ 64 ∷ []

bytes_of-full : bytes_of full ≡ full_file
bytes_of-full = refl

static_bytes-full : static_bytes full ≡ drop 36 full_file
static_bytes-full = refl

number_at-place : number_at full_file 28 ≡ 8
number_at-place = refl

-- ---- faults

first_fault-small : first_fault small_file ≡ None
first_fault-small = refl

first_fault-full : first_fault full_file ≡ None
first_fault-full = refl

-- the file with another number at a place
abbrev with : List ℕ → ℕ → ℕ → List ℕ
with bytes at number = take at bytes ++ to_be_bytes w32 number ++ drop (at + 4) bytes

first_fault-trailing : first_fault (small_file ++ 0 ∷ []) ≡ Some (errors.Trailing 100)
first_fault-trailing = refl

first_fault-trailing_more : first_fault (full_file ++ 7 ∷ 8 ∷ []) ≡ Some (errors.Trailing 164)
first_fault-trailing_more = refl

first_fault-short_0 : first_fault (take 0 small_file) ≡ Some (errors.Short 0)
first_fault-short_0 = refl

first_fault-short_3 : first_fault (take 3 small_file) ≡ Some (errors.Short 3)
first_fault-short_3 = refl

first_fault-short_4 : first_fault (take 4 small_file) ≡ Some (errors.Short 4)
first_fault-short_4 = refl

first_fault-short_10 : first_fault (take 10 small_file) ≡ Some (errors.Short 10)
first_fault-short_10 = refl

first_fault-short_35 : first_fault (take 35 small_file) ≡ Some (errors.Short 35)
first_fault-short_35 = refl

first_fault-short_36 : first_fault (take 36 small_file) ≡ Some (errors.Short 36)
first_fault-short_36 = refl

first_fault-short_99 : first_fault (take 99 small_file) ≡ Some (errors.Short 99)
first_fault-short_99 = refl

first_fault-short_constants : first_fault (take 99 full_file) ≡ Some (errors.Short 99)
first_fault-short_constants = refl

first_fault-magic : first_fault (with small_file 0 0x41454754) ≡ Some errors.Magic
first_fault-magic = refl

first_fault-magic_turned : first_fault (with small_file 0 0x53474541) ≡ Some errors.Magic
first_fault-magic_turned = refl

first_fault-version : first_fault (with small_file 4 7) ≡ Some (errors.Version 7)
first_fault-version = refl

first_fault-version_zero : first_fault (with small_file 4 0) ≡ Some (errors.Version 0)
first_fault-version_zero = refl

first_fault-version_turned : first_fault (with small_file 4 0x01000000) ≡ Some (errors.Version 0x01000000)
first_fault-version_turned = refl

first_fault-verified_most : first_fault (with small_file 8 6560) ≡ None
first_fault-verified_most = refl

first_fault-verified_over : first_fault (with small_file 8 6562) ≡ Some (errors.Field 8)
first_fault-verified_over = refl

first_fault-verified_greatest : first_fault (with small_file 8 0xffffffff) ≡ Some (errors.Field 8)
first_fault-verified_greatest = refl

first_fault-private_most : first_fault (with small_file 12 6559) ≡ None
first_fault-private_most = refl

first_fault-private_over : first_fault (with small_file 12 6561) ≡ Some (errors.Field 12)
first_fault-private_over = refl

first_fault-private_greatest : first_fault (with small_file 12 0xffffffff) ≡ Some (errors.Field 12)
first_fault-private_greatest = refl

first_fault-constants_most : first_fault (with small_file 16 6559) ≡ Some (errors.Short 100)
first_fault-constants_most = refl

first_fault-constants_over : first_fault (with (with small_file 12 1) 16 6560) ≡ Some (errors.Field 16)
first_fault-constants_over = refl

first_fault-constants_greatest : first_fault (with small_file 16 0xffffffff) ≡ Some (errors.Field 16)
first_fault-constants_greatest = refl

first_fault-code_none : first_fault (with small_file 20 0) ≡ Some (errors.Field 20)
first_fault-code_none = refl

first_fault-code_most : first_fault (with small_file 20 6560) ≡ Some (errors.Short 100)
first_fault-code_most = refl

first_fault-code_over : first_fault (with small_file 20 6561) ≡ Some (errors.Field 20)
first_fault-code_over = refl

first_fault-code_after_all : first_fault (with (with (with (with small_file 8 2000) 12 2000) 16 2000) 20 562) ≡ Some (errors.Field 20)
first_fault-code_after_all = refl

first_fault-code_greatest : first_fault (with small_file 20 0xffffffff) ≡ Some (errors.Field 20)
first_fault-code_greatest = refl

first_fault-log_most : first_fault (with small_file 24 1024) ≡ None
first_fault-log_most = refl

first_fault-log_over : first_fault (with small_file 24 1025) ≡ Some (errors.Field 24)
first_fault-log_over = refl

first_fault-shared_most : first_fault (with small_file 28 32768) ≡ None
first_fault-shared_most = refl

first_fault-shared_over : first_fault (with small_file 28 32772) ≡ Some (errors.Field 28)
first_fault-shared_over = refl

first_fault-shared_no_word : first_fault (with small_file 28 2) ≡ Some (errors.Field 28)
first_fault-shared_no_word = refl

first_fault-entry_last : first_fault (with small_file 32 15) ≡ None
first_fault-entry_last = refl

first_fault-entry_over : first_fault (with small_file 32 16) ≡ Some (errors.Field 32)
first_fault-entry_over = refl

first_fault-order : first_fault (with (with small_file 24 1025) 32 16) ≡ Some (errors.Field 24)
first_fault-order = refl

first_fault-order_before_short : first_fault (take 12 (with small_file 8 6562)) ≡ Some (errors.Field 8)
first_fault-order_before_short = refl

first_fault-short_before_rest : first_fault (take 11 (with small_file 8 6562)) ≡ Some (errors.Short 11)
first_fault-short_before_rest = refl

first_fault-field_before_trailing : first_fault (with small_file 32 16 ++ 0 ∷ []) ≡ Some (errors.Field 32)
first_fault-field_before_trailing = refl

-- ---- words

HoldsWords-small : HoldsWords small
HoldsWords-small = record { constants = tt; code = (lit< tt, (lit< tt, (lit< tt, (lit< tt, (lit< tt, (lit< tt, (lit< tt, (lit< tt, (lit< tt, (lit< tt, (lit< tt, (lit< tt, (lit< tt, (lit< tt, (lit< tt, (lit< tt, tt)))))))))))))))) }

HoldsWords-not_above : HoldsWords (record small { code = 2 ^ 32 ∷ replicate 15 0 }) → ⊥
HoldsWords-not_above words = omega (arith, words.code.0)

HoldsWords-not_a_byte : HoldsWords (record full { constants = 2 ^ 8 ∷ replicate 63 0 }) → ⊥
HoldsWords-not_a_byte words = omega (arith, words.constants.0)
