-- What follows of the slots of a node, and of keeping digests in them.
use Rattle.std.proofs.Common.{◌≡◌, ℕ, ◌+◌, ◌-◌, ◌*◌, ◌≤◌, List, ◌++◌, length, take, drop, Some, refl, sym, ap, ◌∙◌, arith}
use Rattle.std.proofs.Common.{length-append, append_assoc}
use Rattle.std.proofs.lemmas.List.{take_at, drop_at, drop-drop, length-take-le, take-append-le, drop-take, take-take}
use Rattle.regions.specs.declared.layout.Layout.{Layout}
use Rattle.regions.specs.Tree.{parent_in, slot_in}
use Rattle.off_chip.specs.OffChipBytes.{bytes_at, bytes_put}
use Rattle.line_cache.specs.LineMaps.{LineMap, payload_at, with_payload}
use Rattle.hash_tree.specs.TreeSteps.{KeepsDigest}

pub keeps-child : (layout : Layout) (lines after : LineMap) (old_root new_root digest payload left : List ℕ) (n parent slot : ℕ) → (n ≡ 0 → ⊥) → parent ≡ parent_in 3 n → slot ≡ slot_in 3 n
    → payload_at lines parent ≡ Some payload → left ≡ bytes_put (20 * slot) digest payload → after ≡ with_payload lines parent left → new_root ≡ old_root
    → KeepsDigest layout lines after old_root new_root digest n
keeps-child layout lines after old_root new_root digest payload left n parent slot apart is slot_is held put same root = record {
  root = λ zero'. absurd (apart zero');
  slot = λ above. (
    root,
    (
      payload,
      ap (λ (k : ℕ). payload_at lines k) (sym is) ∙ held,
      same ∙ ap (λ (k : ℕ). with_payload lines k left) is
          ∙ ap (λ (xs : List ℕ). with_payload lines (parent_in 3 n) xs) (put ∙ ap (λ (k : ℕ). bytes_put (20 * k) digest payload) slot_is),
    ),
  );
}

-- ---- bytes where others were put

pub drop-put : (at k : ℕ) (bytes memory : List ℕ) → at + length bytes ≤ k → at + length bytes ≤ length memory → drop k (bytes_put at bytes memory) ≡ drop k memory
drop-put at k bytes memory after within =
    let front : length (take at memory) ≡ at = length-take-le at memory (omega arith) in
    let rest : List ℕ = drop (at + length bytes) memory in
    let long : length (take at memory ++ bytes) ≡ at + length bytes = omega (arith, length-append (take at memory) bytes) in
    let regroup : bytes_put at bytes memory ≡ (take at memory ++ bytes) ++ rest = sym (append_assoc (take at memory) bytes rest) in
    let dropped : drop (at + length bytes) (bytes_put at bytes memory) ≡ rest = ap (drop (at + length bytes)) regroup ∙ drop_at (take at memory ++ bytes) rest (at + length bytes) long in
    let more : ℕ = k - (at + length bytes) in
    let e : k ≡ (at + length bytes) + more = omega arith in
    ap (λ (n : ℕ). drop n (bytes_put at bytes memory)) e
    ∙ sym (drop-drop more (at + length bytes) (bytes_put at bytes memory))
    ∙ ap (drop more) dropped ∙ drop-drop more (at + length bytes) memory ∙ ap (λ (n : ℕ). drop n memory) (sym e)

pub take-put : (at k : ℕ) (bytes memory : List ℕ) → k ≤ at → at ≤ length memory → take k (bytes_put at bytes memory) ≡ take k memory
take-put at k bytes memory before within =
    let front : length (take at memory) ≡ at = length-take-le at memory within in
    take-append-le k (take at memory) (bytes ++ drop (at + length bytes) memory) (omega arith) ∙ take-take k at memory before

-- the bytes themselves, those after them and those before them
pub at-put : (at : ℕ) (bytes memory : List ℕ) → at + length bytes ≤ length memory → bytes_at at (length bytes) (bytes_put at bytes memory) ≡ bytes
at-put at bytes memory within =
    let front : length (take at memory) ≡ at = length-take-le at memory (omega arith) in
    let rest : List ℕ = drop (at + length bytes) memory in
    ap (take (length bytes)) (drop_at (take at memory) (bytes ++ rest) at front) ∙ take_at bytes rest (length bytes) refl

pub after-put : (at start count : ℕ) (bytes memory : List ℕ) → at + length bytes ≤ start → at + length bytes ≤ length memory
    → bytes_at start count (bytes_put at bytes memory) ≡ bytes_at start count memory
after-put at start count bytes memory after within = ap (take count) (drop-put at start bytes memory after within)

pub before-put : (at start count : ℕ) (bytes memory : List ℕ) → start + count ≤ at → at ≤ length memory
    → bytes_at start count (bytes_put at bytes memory) ≡ bytes_at start count memory
before-put at start count bytes memory before within =
    sym (drop-take start count (bytes_put at bytes memory)) ∙ ap (drop start) (take-put at (start + count) bytes memory before within) ∙ drop-take start count memory
