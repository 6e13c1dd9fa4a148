-- What follows of strings and digests.
use Rattle.std.proofs.Common.{◌≡◌, ℕ, suc, ◌+◌, ◌<◌, ◌^◌, List, [], ◌∷◌, ◌++◌, length, take, refl, sym, ap, ◌∙◌, arith, length-append, append_assoc, append-nil, subst}
use Rattle.std.specs.Prelude.{◌≢◌}
use Rattle.std.specs.List.{All, concat}
use Rattle.std.specs.Int.{w32, w64, to_be_bytes, from_be_bytes}
use Rattle.std.proofs.lemmas.Nat.{from_be_bytes-to_be_bytes_4, from_be_bytes-to_be_bytes_8}
use Rattle.std.proofs.lemmas.List.{take_all}
use Rattle.std.proofs.lemmas.List.Folds.{concat-append}
use Rattle.sha1.specs.Sha1.{sha1, digest_bytes, Holds}
use Rattle.aegis_num.specs.declared.storage.Block.{Block}
use Rattle.block_hash.specs.declared.strings.TheConstants.{TREE_TAG, LOG_TAG, PROGRAM_TAG}
use Rattle.block_hash.specs.BlockStrings.{block_string, program_string, program_digest}
use Rattle.block_hash.specs.ProgramParts.{ProgramParts, HasTaken}

-- two lists in two parts of one length each
pub same_parts : (xs ys zs ws : List ℕ) → xs ++ ys ≡ zs ++ ws → length xs ≡ length zs → (xs ≡ zs) × (ys ≡ ws)
same_parts [] ys [] ws same long = (refl, same)
same_parts [] ys (z ∷ zs) ws same long = cc
same_parts (x ∷ xs) ys [] ws same long = cc
same_parts (x ∷ xs) ys (z ∷ zs) ws same long =
    let head : x ≡ z = cc in
    let tail : xs ++ ys ≡ zs ++ ws = cc in
    let lengths : length xs ≡ length zs = omega arith in
    let rest = same_parts xs ys zs ws tail lengths in
    (rw (head, rest.0) refl, rest.1)

same_number : (m n : ℕ) → m < 2 ^ 32 → n < 2 ^ 32 → to_be_bytes w32 m ≡ to_be_bytes w32 n → m ≡ n
same_number m n first second same =
    sym (from_be_bytes-to_be_bytes_4 m first) ∙ ap (λ (bytes : List ℕ). from_be_bytes w32 bytes) same ∙ from_be_bytes-to_be_bytes_4 n second

same_stamp : (m n : ℕ) → m < 2 ^ 64 → n < 2 ^ 64 → to_be_bytes w64 m ≡ to_be_bytes w64 n → m ≡ n
same_stamp m n first second same =
    sym (from_be_bytes-to_be_bytes_8 m first) ∙ ap (λ (bytes : List ℕ). from_be_bytes w64 bytes) same ∙ from_be_bytes-to_be_bytes_8 n second

-- the string of a block, with numbers in as many bytes as they have
abbrev pub string_of : ℕ → List ℕ → List ℕ → List ℕ → List ℕ
string_of tag number stamp payload = tag ∷ number ++ stamp ++ payload

pub block_string-is : (tag number : ℕ) (block : Block) → block_string tag number block ≡ string_of tag (to_be_bytes w32 number) (to_be_bytes w64 block.stamp) block.payload
unfolding block_string
block_string-is tag number block = refl

strings_apart : (tag other_tag : ℕ) (number stamp payload other_number other_stamp other_payload : List ℕ)
    → string_of tag number stamp payload ≡ string_of other_tag other_number other_stamp other_payload
    → length number ≡ length other_number → length stamp ≡ length other_stamp
    → (tag ≡ other_tag) × (number ≡ other_number) × (stamp ≡ other_stamp) × (payload ≡ other_payload)
strings_apart tag other_tag number stamp payload other_number other_stamp other_payload same numbers stamps =
    let front : (tag ∷ number ++ stamp ≡ other_tag ∷ other_number ++ other_stamp) × (payload ≡ other_payload) =
    same_parts (tag ∷ number ++ stamp) payload (other_tag ∷ other_number ++ other_stamp) other_payload same
    (omega (arith, length-append (tag ∷ number) stamp, length-append (other_tag ∷ other_number) other_stamp)) in
    let both : (tag ∷ number ≡ other_tag ∷ other_number) × (stamp ≡ other_stamp) = same_parts (tag ∷ number) stamp (other_tag ∷ other_number) other_stamp front.0 (omega arith) in
    let one : tag ∷ number ≡ other_tag ∷ other_number = both.0 in
    let tags : tag ≡ other_tag = cc in
    let others : number ≡ other_number = cc in
    (tags, others, both.1, front.1)

same_block : (block other : Block) → block.payload ≡ other.payload → block.stamp ≡ other.stamp → block ≡ other
same_block block other payloads stamps =
    ap (λ (p : List ℕ). record { payload = p; stamp = block.stamp }) payloads ∙ ap (λ (s : ℕ). record { payload = other.payload; stamp = s }) stamps

-- equal strings are of one block
pub block_string-one : (tag other_tag number other_number : ℕ) (block other : Block) → block_string tag number block ≡ block_string other_tag other_number other
    → number < 2 ^ 32 → other_number < 2 ^ 32 → block.stamp < 2 ^ 64 → other.stamp < 2 ^ 64
    → (tag ≡ other_tag) × (number ≡ other_number) × (block ≡ other)
block_string-one tag other_tag number other_number block other same n m s t =
    let parts = strings_apart tag other_tag (to_be_bytes w32 number) (to_be_bytes w64 block.stamp) block.payload (to_be_bytes w32 other_number) (to_be_bytes w64 other.stamp) other.payload
    (sym (block_string-is tag number block) ∙ same ∙ block_string-is other_tag other_number other) refl refl in
    (parts.0, same_number number other_number n m parts.1, same_block block other parts.3 (same_stamp block.stamp other.stamp s t parts.2))

-- ---- programs

-- payloads of one length that make one list are the same payloads
same_chunks : (payloads others : List (List ℕ)) → concat payloads ≡ concat others
    → All (λ payload. length payload ≡ 64) payloads → All (λ payload. length payload ≡ 64) others → payloads ≡ others
same_chunks [] [] same longs lengths = refl
same_chunks [] (q ∷ others) same longs lengths =
    let first : length q ≡ 64 = lengths 0 [] (omega arith) in
    absurd (omega (arith, ap (λ (xs : List ℕ). length xs) same, length-append q (concat others)))
same_chunks (p ∷ payloads) [] same longs lengths =
    let first : length p ≡ 64 = longs 0 [] (omega arith) in
    absurd (omega (arith, ap (λ (xs : List ℕ). length xs) same, length-append p (concat payloads)))
same_chunks (p ∷ payloads) (q ∷ others) same longs lengths =
    let first : length p ≡ 64 = longs 0 [] (omega arith) in
    let second : length q ≡ 64 = lengths 0 [] (omega arith) in
    let parts = same_parts p (concat payloads) q (concat others) same (first ∙ sym second) in
    let rest : payloads ≡ others = same_chunks payloads others parts.1 (λ k d less. longs (suc k) d (omega (arith, less))) (λ k d less. lengths (suc k) d (omega (arith, less))) in
    ap (λ (x : List ℕ). x ∷ payloads) parts.0 ∙ ap (λ (xs : List (List ℕ)). q ∷ xs) rest

pub program_string-is : (payloads : List (List ℕ)) → program_string payloads ≡ PROGRAM_TAG ∷ to_be_bytes w32 (length payloads) ++ concat payloads
unfolding program_string
program_string-is payloads = refl

pub program_string-one : (payloads others : List (List ℕ)) → program_string payloads ≡ program_string others
    → All (λ payload. length payload ≡ 64) payloads → All (λ payload. length payload ≡ 64) others → payloads ≡ others
program_string-one payloads others same longs lengths =
    same_chunks payloads others
    (same_parts (PROGRAM_TAG ∷ to_be_bytes w32 (length payloads)) (concat payloads) (PROGRAM_TAG ∷ to_be_bytes w32 (length others)) (concat others)
    (sym (program_string-is payloads) ∙ same ∙ program_string-is others) refl).1 longs lengths

-- ---- tags

pub tree-log : (number other_number : ℕ) (block other : Block) → block_string TREE_TAG number block ≢ block_string LOG_TAG other_number other
unfolding block_string
tree-log number other_number block other same = cc

pub tree-program : (number : ℕ) (block : Block) (payloads : List (List ℕ)) → block_string TREE_TAG number block ≢ program_string payloads
unfolding block_string program_string
tree-program number block payloads same = cc

pub log-program : (number : ℕ) (block : Block) (payloads : List (List ℕ)) → block_string LOG_TAG number block ≢ program_string payloads
unfolding block_string program_string
log-program number block payloads same = cc

-- ---- lengths

pub length-block_string : (tag number : ℕ) (block : Block) → length block.payload ≡ 64 → length (block_string tag number block) ≡ 77
unfolding block_string
length-block_string tag number block long = omega (arith, long)

pub length-sha1 : (string : List ℕ) → length (sha1 string) ≡ 20
unfolding sha1 digest_bytes
length-sha1 string = refl

-- ---- how strings are put together

-- three parts that are put one after another make the whole string
pub block_string-built : (tag number : ℕ) (block : Block) (number_bytes stamp_bytes front first second third : List ℕ)
    → number_bytes ≡ to_be_bytes w32 number → stamp_bytes ≡ to_be_bytes w64 block.stamp → length block.payload ≡ 64 → take 1 front ≡ tag ∷ []
    → take (1 + length number_bytes) first ≡ take 1 front ++ number_bytes → take (5 + length stamp_bytes) second ≡ take 5 first ++ stamp_bytes
    → take (13 + length block.payload) third ≡ take 13 second ++ block.payload → length third ≡ 77 → third ≡ block_string tag number block
block_string-built tag number block number_bytes stamp_bytes front first second third numbers stamps payloads begins one two three long =
    let four : length number_bytes ≡ 4 = ap (λ (xs : List ℕ). length xs) numbers in
    let eight : length stamp_bytes ≡ 8 = ap (λ (xs : List ℕ). length xs) stamps in
    let five : 5 ≡ 1 + length number_bytes = omega (arith, four) in
    let thirteen : 13 ≡ 5 + length stamp_bytes = omega (arith, eight) in
    let whole : 77 ≡ 13 + length block.payload = omega (arith, payloads) in
    let a : take 5 first ≡ tag ∷ to_be_bytes w32 number = ap (λ (n : ℕ). take n first) five ∙ one ∙ ap (λ (xs : List ℕ). xs ++ number_bytes) begins ∙ ap (λ (xs : List ℕ). tag ∷ xs) numbers in
    let b : take 13 second ≡ tag ∷ to_be_bytes w32 number ++ to_be_bytes w64 block.stamp =
    ap (λ (n : ℕ). take n second) thirteen ∙ two ∙ ap (λ (xs : List ℕ). xs ++ stamp_bytes) a ∙ ap (λ (xs : List ℕ). tag ∷ to_be_bytes w32 number ++ xs) stamps in
    let c : take 77 third ≡ string_of tag (to_be_bytes w32 number) (to_be_bytes w64 block.stamp) block.payload =
    ap (λ (n : ℕ). take n third) whole ∙ three ∙ ap (λ (xs : List ℕ). xs ++ block.payload) b in
    let all : take 77 third ≡ third = take_all 77 third (omega (arith, long)) in
    sym all ∙ c ∙ sym (block_string-is tag number block)

-- ---- programs in parts

-- one payload more is taken in
pub taken-more : (before after : ProgramParts) (payload : List ℕ) → after.blocks ≡ before.blocks → after.added ≡ before.added + 1
    → ((m : List ℕ) → Holds before.kept m → Holds after.kept (m ++ payload))
    → (payloads : List (List ℕ)) → HasTaken before payloads → HasTaken after (payloads ++ payload ∷ [])
taken-more before after payload blocks added holds payloads taken =
    let joined : concat (payloads ++ payload ∷ []) ≡ concat payloads ++ payload =
    concat-append payloads (payload ∷ []) ∙ ap (λ (xs : List ℕ). concat payloads ++ xs) (append-nil payload) in
    let front : List ℕ = PROGRAM_TAG ∷ to_be_bytes w32 before.blocks in
    let string : (front ++ concat payloads) ++ payload ≡ front ++ concat (payloads ++ payload ∷ []) =
    append_assoc front (concat payloads) payload ∙ ap (λ (xs : List ℕ). front ++ xs) (sym joined) in
    let same : front ++ concat (payloads ++ payload ∷ []) ≡ PROGRAM_TAG ∷ to_be_bytes w32 after.blocks ++ concat (payloads ++ payload ∷ []) =
    ap (λ (n : ℕ). PROGRAM_TAG ∷ to_be_bytes w32 n ++ concat (payloads ++ payload ∷ [])) (sym blocks) in
    record {
      count = omega (arith, length-append payloads (payload ∷ []), taken.count, added);
      holds = subst (λ (m : List ℕ). Holds after.kept m) (string ∙ same) (holds _ taken.holds);
    }

-- the digest of all that was taken in, once it is all that there is
pub digest-taken : (program : ProgramParts) (result : List ℕ) → ((m : List ℕ) → Holds program.kept m → result ≡ sha1 m) → program.added ≡ program.blocks
    → (payloads : List (List ℕ)) → HasTaken program payloads → result ≡ program_digest payloads
digest-taken program result digest all payloads taken =
    let count : program.blocks ≡ length payloads = omega (arith, taken.count, all) in
    digest _ taken.holds ∙ ap sha1 (ap (λ (n : ℕ). PROGRAM_TAG ∷ to_be_bytes w32 n ++ concat payloads) count ∙ sym (program_string-is payloads))
