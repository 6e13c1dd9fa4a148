-- Worked examples of strings and of what is made of their digests. The digests were computed by Python's hashlib.
use Rattle.std.proofs.Common.{◌≡◌, ℕ, List, [], ◌∷◌, refl, codes}
use Rattle.sha1.specs.Sha1.{sha1, first_words, schedule, rounds, compress, hash_after, digest_bytes}
use Rattle.aegis_num.specs.declared.storage.Block.{Block}
use Rattle.block_hash.specs.declared.strings.TheConstants.{TREE_TAG, LOG_TAG, PROGRAM_TAG, PAD_KEY_TAG, LOG_KEY_TAG}
use Rattle.block_hash.specs.BlockStrings.{block_string, block_digest, entry_value, program_string, program_digest, pad_key, log_key}

tags : (TREE_TAG ≡ 0x00) × (LOG_TAG ≡ 0x01) × (PROGRAM_TAG ≡ 0x02) × (PAD_KEY_TAG ≡ 0x50) × (LOG_KEY_TAG ≡ 0x4c)
tags = (refl, refl, refl, refl, refl)

abbrev block : Block
block = record { payload = 200 ∷ 201 ∷ 202 ∷ []; stamp = 0x05060708090a0b0c }

-- the tag, the number, the stamp and the payload, in this order
string : block_string 7 0x01020304 block ≡ 7 ∷ 1 ∷ 2 ∷ 3 ∷ 4 ∷ 5 ∷ 6 ∷ 7 ∷ 8 ∷ 9 ∷ 10 ∷ 11 ∷ 12 ∷ 200 ∷ 201 ∷ 202 ∷ []
unfolding block_string
string = refl

digest_of_abc : sha1 (codes "abc") ≡ 169 ∷ 153 ∷ 62 ∷ 54 ∷ 71 ∷ 6 ∷ 129 ∷ 106 ∷ 186 ∷ 62 ∷ 37 ∷ 113 ∷ 120 ∷ 80 ∷ 194 ∷ 108 ∷ 156 ∷ 208 ∷ 216 ∷ 157 ∷ []
unfolding first_words schedule rounds compress hash_after digest_bytes sha1
digest_of_abc = refl

digest : block_digest 0x01020304 block ≡ 101 ∷ 24 ∷ 44 ∷ 42 ∷ 29 ∷ 197 ∷ 97 ∷ 170 ∷ 82 ∷ 183 ∷ 125 ∷ 12 ∷ 113 ∷ 17 ∷ 175 ∷ 38 ∷ 220 ∷ 78 ∷ 227 ∷ 74 ∷ []
unfolding first_words schedule rounds compress hash_after digest_bytes sha1 block_string
digest = refl

abbrev sixteen : List ℕ
sixteen = 0 ∷ 1 ∷ 2 ∷ 3 ∷ 4 ∷ 5 ∷ 6 ∷ 7 ∷ 8 ∷ 9 ∷ 10 ∷ 11 ∷ 12 ∷ 13 ∷ 14 ∷ 15 ∷ []

value : entry_value (record { 0 = sixteen }) 0x01020304 block ≡ 0x736119103728fe62486dd7341bd8f46f
unfolding first_words schedule rounds compress hash_after digest_bytes sha1 block_string entry_value
value = refl

-- two payloads, the first one of two bytes: their number comes before them
program : program_string ((1 ∷ 2 ∷ []) ∷ (3 ∷ []) ∷ []) ≡ 2 ∷ 0 ∷ 0 ∷ 0 ∷ 2 ∷ 1 ∷ 2 ∷ 3 ∷ []
unfolding program_string
program = refl

whole_program : program_digest ((1 ∷ 2 ∷ []) ∷ (3 ∷ []) ∷ []) ≡ 221 ∷ 68 ∷ 192 ∷ 216 ∷ 200 ∷ 204 ∷ 185 ∷ 182 ∷ 141 ∷ 51 ∷ 182 ∷ 186 ∷ 199 ∷ 70 ∷ 253 ∷ 190 ∷ 145 ∷ 164 ∷ 164 ∷ 219 ∷ []
unfolding first_words schedule rounds compress hash_after digest_bytes sha1 program_string
whole_program = refl

pads : (pad_key sixteen (32 ∷ 33 ∷ 34 ∷ 35 ∷ 36 ∷ 37 ∷ 38 ∷ 39 ∷ [])).0 ≡ 123 ∷ 105 ∷ 143 ∷ 254 ∷ 8 ∷ 90 ∷ 67 ∷ 165 ∷ 135 ∷ 251 ∷ 34 ∷ 0 ∷ 33 ∷ 193 ∷ 92 ∷ 35 ∷ []
unfolding first_words schedule rounds compress hash_after digest_bytes sha1
pads = refl

entries : (log_key sixteen (32 ∷ 33 ∷ 34 ∷ 35 ∷ 36 ∷ 37 ∷ 38 ∷ 39 ∷ [])).0 ≡ 174 ∷ 118 ∷ 41 ∷ 163 ∷ 48 ∷ 86 ∷ 236 ∷ 247 ∷ 92 ∷ 44 ∷ 71 ∷ 75 ∷ 50 ∷ 104 ∷ 65 ∷ 91 ∷ []
unfolding first_words schedule rounds compress hash_after digest_bytes sha1
entries = refl
