-- What follows of bytes that are put into memory, for proofs here and in the crates above.
use Rattle.std.proofs.Common.{replicate, ◌≡◌, ℕ, ◌+◌, ◌≤◌, List, ◌++◌, length, take, drop, arith, sym, ◌∙◌, ap, append_assoc, add-one, refl, length-append, length-drop}
use Rattle.std.proofs.lemmas.List.{take_at, drop_at, drop-drop, length-take-le}
use Rattle.std.proofs.Math.Seq.{take-add}
use Rattle.aegis_num.specs.declared.storage.Place.{Place}
use Rattle.aegis_num.specs.declared.storage.Place.TheVariants.{Tree, Log}
use Rattle.regions.specs.declared.layout.Layout.{Layout}
use Rattle.regions.specs.declared.addresses.TheConstants.{OPEN_END}
use Rattle.off_chip.specs.OffChipBytes.{HasPlace, IsWordAddress, bytes_at, bytes_put, start_of_place, bytes_loaded, bytes_loaded_over, size_of, stored, static_block, static_place, with_statics}

-- as many bytes as before
pub length-put : (at : ℕ) (bytes memory : List ℕ) → at + length bytes ≤ length memory → length (bytes_put at bytes memory) ≡ length memory
length-put at bytes memory within =
    let front : length (take at memory) ≡ at = length-take-le at memory (omega arith) in
    omega (
      arith,
      length-append (take at memory) (bytes ++ drop (at + length bytes) memory),
      length-append bytes (drop (at + length bytes) memory),
      length-drop (at + length bytes) memory,
    )

-- bytes put right after bytes that were put
pub put-put : (at : ℕ) (xs ys memory : List ℕ) (next : ℕ) → next ≡ at + length xs → next ≤ length memory → bytes_put next ys (bytes_put at xs memory) ≡ bytes_put at (xs ++ ys) memory
put-put at xs ys memory next is within =
    let front : length (take at memory) ≡ at = length-take-le at memory (omega arith) in
    let long : length (take at memory ++ xs) ≡ next = omega (arith, length-append (take at memory) xs) in
    let rest : List ℕ = drop (at + length xs) memory in
    let regroup : bytes_put at xs memory ≡ (take at memory ++ xs) ++ rest = sym (append_assoc (take at memory) xs rest) in
    let taken : take next (bytes_put at xs memory) ≡ take at memory ++ xs =
    ap (take next) regroup ∙ take_at (take at memory ++ xs) rest next long in
    let dropped : drop next (bytes_put at xs memory) ≡ rest =
    ap (drop next) regroup ∙ drop_at (take at memory ++ xs) rest next long in
    let further : drop (next + length ys) (bytes_put at xs memory) ≡ drop (at + length (xs ++ ys)) memory =
    sym (drop-drop (length ys) next (bytes_put at xs memory)) ∙ ap (drop (length ys)) dropped ∙ drop-drop (length ys) (at + length xs) memory
    ∙ ap (λ n. drop n memory) (omega (arith, length-append xs ys)) in
    let all : bytes_put next ys (bytes_put at xs memory) ≡ (take at memory ++ xs) ++ (ys ++ drop (at + length (xs ++ ys)) memory) = cc in
    all ∙ append_assoc (take at memory) xs (ys ++ drop (at + length (xs ++ ys)) memory)
    ∙ ap (λ l. take at memory ++ l) (sym (append_assoc xs ys (drop (at + length (xs ++ ys)) memory)))

-- bytes in two parts
pub bytes_at-add : (at n m : ℕ) (memory : List ℕ) → bytes_at at (n + m) memory ≡ bytes_at at n memory ++ bytes_at (at + n) m memory
bytes_at-add at n m memory =
    take-add n m (drop at memory) ∙ ap (λ l. bytes_at at n memory ++ take m l) (drop-drop n at memory)

-- a place of the layout is within memory
pub HasPlace-within : (layout : Layout) (place : Place) → HasPlace layout place → start_of_place layout place + 72 ≤ size_of layout
HasPlace-within layout (Tree n) has = omega arith
HasPlace-within layout (Log n) has = omega arith

-- an open word is among the open bytes
pub IsWordAddress-within : (at : ℕ) → IsWordAddress at → at + 4 ≤ OPEN_END
IsWordAddress-within at is = let p = is.is_open in let q = is.aligned in omega arith

-- no static block yet
pub with_statics-zero : (layout : Layout) (statics memory : List ℕ) → with_statics layout statics 0 memory ≡ memory
unfolding with_statics
with_statics-zero layout statics memory = refl

-- one static block more
pub with_statics-more : (layout : Layout) (statics : List ℕ) (n : ℕ) (memory : List ℕ) → with_statics layout statics (n + 1) memory ≡ bytes_put (start_of_place layout (static_place layout n)) (stored (static_block statics n)) (with_statics layout statics n memory)
unfolding with_statics
with_statics-more layout statics n memory = ap (λ k. with_statics layout statics k memory) (add-one n)

-- memory begins with zeros and what is put over them
pub loaded-zeros : (layout : Layout) (statics : List ℕ) → bytes_loaded layout statics ≡ bytes_loaded_over layout statics (replicate (size_of layout) 0)
unfolding bytes_loaded
loaded-zeros layout statics = refl
