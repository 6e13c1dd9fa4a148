-- What entering a node does, after the subtrees of its three children.
use Rattle.std.proofs.Common.{◌≡◌, ℕ, suc, ◌+◌, ◌*◌, ◌<◌, ◌≤◌, List, [], ◌∷◌, ◌++◌, length, Some, refl, sym, ap, ◌∙◌, subst, inl, inr, ◌⊎◌, arith}
use Rattle.std.specs.Prelude.{◌≢◌, replicate}
use Rattle.std.proofs.lemmas.Bool.{cases_eq}
use Rattle.aegis_num.specs.declared.storage.Block.{Block}
use Rattle.aegis_num.specs.declared.storage.Place.TheVariants.{Tree}
use Rattle.regions.specs.declared.layout.Layout.{Layout}
use Rattle.regions.specs.Tree.{parent_in, slot_in}
use Rattle.off_chip.specs.declared.event.Event.{Event}
use Rattle.off_chip.specs.declared.event.Event.TheVariants.{BlockWrite}
use Rattle.off_chip.specs.Histories.{history}
use Rattle.off_chip.specs.OffChipBytes.{bytes_put}
use Rattle.off_chip.specs.WriteBacks.{last_write}
use Rattle.block_hash.specs.BlockStrings.{block_digest, block_string}
use Rattle.block_hash.specs.declared.strings.TheConstants.{TREE_TAG}
use Rattle.block_hash.specs.ProgramParts.{ProgramParts}
use Rattle.block_hash.proofs.StringLemmas.{length-sha1}
use Rattle.hash_tree.specs.Entering.{writes_block, moves_below, IsUnder, WritesPayload, BlocksEntered, SubtreeEntered}
use Rattle.hash_tree.specs.HashTrees.{nodes_of, scheme_of, slot_in_payload}
use Rattle.hash_tree.specs.Schemes.{IsLawful}
use Rattle.hash_tree.specs.Standing.{IsPadded, NodeLaidOut}
use Rattle.hash_tree.specs.TreeSteps.{SlotSet}
use Rattle.hash_tree.proofs.EnterLemmas.{blocks-as, blocks-both, blocks-write}
use Rattle.hash_tree.proofs.EnterParts.{first-digest, parent-less}
use Rattle.hash_tree.proofs.GrowthLemmas.{write-expected, write-here}
use Rattle.hash_tree.proofs.SchemeLemmas.{blocks-three, slot-set}
use Rattle.hash_tree.proofs.UnderLemmas.{Below, top, first, second, third, static-at, under-across, under-apart, under-lift, under-self, under-split, under-top}

-- ---- the payload of a node

abbrev pub digests-put : List ℕ → List ℕ → List ℕ → List ℕ
digests-put d1 d2 d3 = bytes_put 40 d3 (bytes_put 20 d2 (bytes_put 0 d1 (replicate 64 0)))

record NodeSlots (layout : Layout) (veiled : ℕ → ℕ → List ℕ → List ℕ) (n : ℕ) (d1 d2 d3 payload : List ℕ) : Type 0 where
  one : slot_in_payload layout (3 * n + 1) payload ≡ d1
  two : slot_in_payload layout (3 * n + 2) payload ≡ d2
  three : slot_in_payload layout (3 * n + 3) payload ≡ d3
  padding : IsPadded (scheme_of layout veiled) payload

set-at : (layout : Layout) (veiled : ℕ → ℕ → List ℕ → List ℕ) (n at : ℕ) (digest payload : List ℕ) → 0 < n → 20 * slot_in 3 n ≡ at → length digest ≡ 20 → length payload ≡ 64
    → SlotSet (scheme_of layout veiled) n digest payload (bytes_put at digest payload)
set-at layout veiled n at digest payload above is twenty long =
    subst (λ (k : ℕ). SlotSet (scheme_of layout veiled) n digest payload (bytes_put k digest payload)) is (slot-set layout veiled n digest payload above twenty long)

node-slots : (layout : Layout) (veiled : ℕ → ℕ → List ℕ → List ℕ) (n : ℕ) (d1 d2 d3 : List ℕ) → n < nodes_of layout → IsLawful (scheme_of layout veiled)
    → length d1 ≡ 20 → length d2 ≡ 20 → length d3 ≡ 20 → NodeSlots layout veiled n d1 d2 d3 (digests-put d1 d2 d3)
unfolding scheme_of
node-slots layout veiled n d1 d2 d3 node lawful long1 long2 long3 =
    let empty : List ℕ = replicate 64 0 in
    let p1 : List ℕ = bytes_put 0 d1 empty in
    let p2 : List ℕ = bytes_put 20 d2 p1 in
    let s1 : SlotSet (scheme_of layout veiled) (3 * n + 1) d1 empty p1 = set-at layout veiled (3 * n + 1) 0 d1 empty (omega arith) (omega arith) long1 refl in
    let l1 : length p1 ≡ 64 = s1.long in
    let s2 : SlotSet (scheme_of layout veiled) (3 * n + 2) d2 p1 p2 = set-at layout veiled (3 * n + 2) 20 d2 p1 (omega arith) (omega arith) long2 l1 in
    let l2 : length p2 ≡ 64 = s2.long ∙ l1 in
    let s3 : SlotSet (scheme_of layout veiled) (3 * n + 3) d3 p2 (digests-put d1 d2 d3) = set-at layout veiled (3 * n + 3) 40 d3 p2 (omega arith) (omega arith) long3 l2 in
    let in1 : 3 * n + 1 < 3 * nodes_of layout + 1 = omega (arith, node) in
    let in2 : 3 * n + 2 < 3 * nodes_of layout + 1 = omega (arith, node) in
    let all = blocks-three layout in
    record {
      one = s3.other (3 * n + 1) (omega arith) (omega (arith, in1, all)) (omega arith) (λ same. omega (arith, same))
          ∙ s2.other (3 * n + 1) (omega arith) (omega (arith, in1, all)) (omega arith) (λ same. omega (arith, same)) ∙ s1.here;
      two = s3.other (3 * n + 2) (omega arith) (omega (arith, in2, all)) (omega arith) (λ same. omega (arith, same)) ∙ s2.here;
      three = s3.here;
      padding = s3.padding (s2.padding (s1.padding refl));
    }

-- ---- a node and its subtrees

module _ (layout : Layout) (veiled : ℕ → ℕ → List ℕ → List ℕ) (lawful : IsLawful (scheme_of layout veiled)) (levels n : ℕ) (p0 p1 p2 p3 : ProgramParts) (d1 d2 d3 digest : List ℕ)
    (t0 t1 t2 t3 t4 : List Event) (node : n < nodes_of layout)
    (one : SubtreeEntered layout (scheme_of layout veiled) levels (3 * n + 1) p0 p1 t0 t1 d1)
    (two : SubtreeEntered layout (scheme_of layout veiled) levels (3 * n + 2) p1 p2 t1 t2 d2)
    (three : SubtreeEntered layout (scheme_of layout veiled) levels (3 * n + 3) p2 p3 t2 t3 d3)
    (back : WritesPayload (scheme_of layout veiled) n (digests-put d1 d2 d3) digest t3 t4) where
  abbrev First : ℕ → Type 0
  First m = IsUnder levels (3 * n + 1) m

  abbrev Second : ℕ → Type 0
  Second m = IsUnder levels (3 * n + 2) m

  abbrev Third : ℕ → Type 0
  Third m = IsUnder levels (3 * n + 3) m

  abbrev Children : ℕ → Type 0
  Children m = (First m ⊎ Second m) ⊎ Third m

  first-second : (m : ℕ) → First m → Second m → ⊥
  first-second m a b = under-apart levels n 1 2 m (omega arith) (omega arith) (omega arith) (omega arith) (λ same. omega (arith, same)) a b

  first-third : (m : ℕ) → First m → Third m → ⊥
  first-third m a b = under-apart levels n 1 3 m (omega arith) (omega arith) (omega arith) (omega arith) (λ same. omega (arith, same)) a b

  second-third : (m : ℕ) → Second m → Third m → ⊥
  second-third m a b = under-apart levels n 2 3 m (omega arith) (omega arith) (omega arith) (omega arith) (λ same. omega (arith, same)) a b

  across : (i j m : ℕ) → 0 < i → i ≤ 3 → 0 < j → j ≤ 3 → i ≢ j → 0 < m → IsUnder levels (3 * n + i) m → IsUnder levels (3 * n + j) (parent_in 3 m) → ⊥
  across i j m = under-across levels n i j m

  two-children : BlocksEntered layout (scheme_of layout veiled) (λ m. First m ⊎ Second m) p0 p2 (moves_below layout levels (3 * n + 1) ++ moves_below layout levels (3 * n + 2)) t0 t2
  unfolding scheme_of
  two-children = blocks-both layout (scheme_of layout veiled) First Second p0 p1 p2 (moves_below layout levels (3 * n + 1)) (moves_below layout levels (3 * n + 2)) t0 t1 t2 one.blocks two.blocks
      first-second
      (λ m block parent positive a b found above. absurd (across 1 2 m (omega arith) (omega arith) (omega arith) (omega arith) (λ same. omega (arith, same)) positive a b))
      (λ m block parent positive a b found above. absurd (across 2 1 m (omega arith) (omega arith) (omega arith) (omega arith) (λ same. omega (arith, same)) positive a b))

  three-children : BlocksEntered layout (scheme_of layout veiled) Children p0 p3
      ((moves_below layout levels (3 * n + 1) ++ moves_below layout levels (3 * n + 2)) ++ moves_below layout levels (3 * n + 3)) t0 t3
  unfolding scheme_of
  three-children = blocks-both layout (scheme_of layout veiled) (λ m. First m ⊎ Second m) Third p0 p2 p3 (moves_below layout levels (3 * n + 1) ++ moves_below layout levels (3 * n + 2))
      (moves_below layout levels (3 * n + 3)) t0 t2 t3 two-children three.blocks
      (λ m these b. elim these [ inl a ↦ first-third m a b | inr a ↦ second-third m a b ])
      (λ m block parent positive these b found above. absurd (elim these [
        | inl a ↦ across 1 3 m (omega arith) (omega arith) (omega arith) (omega arith) (λ same. omega (arith, same)) positive a b
        | inr a ↦ across 2 3 m (omega arith) (omega arith) (omega arith) (omega arith) (λ same. omega (arith, same)) positive a b
      ]))
      (λ m block parent positive a these found above. absurd (elim these [
        | inl b ↦ across 3 1 m (omega arith) (omega arith) (omega arith) (omega arith) (λ same. omega (arith, same)) positive a b
        | inr b ↦ across 3 2 m (omega arith) (omega arith) (omega arith) (omega arith) (λ same. omega (arith, same)) positive a b
      ]))

  first-is : (block : Block) → last_write (Tree (3 * n + 1)) (history t3) ≡ Some block → d1 ≡ block_digest (3 * n + 1) block
  unfolding scheme_of
  first-is block found =
      let here : First (3 * n + 1) = under-self levels (3 * n + 1) (3 * n + 1) refl in
      one.digest_is block (sym (two.blocks.writes (3 * n + 1) (λ b. first-second (3 * n + 1) here b)) ∙ sym (three.blocks.writes (3 * n + 1) (λ b. first-third (3 * n + 1) here b)) ∙ found)

  second-is : (block : Block) → last_write (Tree (3 * n + 2)) (history t3) ≡ Some block → d2 ≡ block_digest (3 * n + 2) block
  unfolding scheme_of
  second-is block found =
      let here : Second (3 * n + 2) = under-self levels (3 * n + 2) (3 * n + 2) refl in
      two.digest_is block (sym (three.blocks.writes (3 * n + 2) (λ b. second-third (3 * n + 2) here b)) ∙ found)

  third-is : (block : Block) → last_write (Tree (3 * n + 3)) (history t3) ≡ Some block → d3 ≡ block_digest (3 * n + 3) block
  unfolding scheme_of
  third-is block found = three.digest_is block found

  twenty : (k : ℕ) (d : List ℕ) (block : Block) → d ≡ block_digest k block → length d ≡ 20
  twenty k d block same = ap (λ (xs : List ℕ). length xs) same ∙ length-sha1 (block_string TREE_TAG k block)

  slots-are : NodeSlots layout veiled n d1 d2 d3 (digests-put d1 d2 d3)
  slots-are =
      let a = three-children.written (3 * n + 1) (inl (inl (under-self levels (3 * n + 1) (3 * n + 1) refl))) in
      let b = three-children.written (3 * n + 2) (inl (inr (under-self levels (3 * n + 2) (3 * n + 2) refl))) in
      let c = three-children.written (3 * n + 3) (inr (under-self levels (3 * n + 3) (3 * n + 3) refl)) in
      node-slots layout veiled n d1 d2 d3 node lawful (twenty (3 * n + 1) d1 a.0 (first-is a.0 a.1)) (twenty (3 * n + 2) d2 b.0 (second-is b.0 b.1)) (twenty (3 * n + 3) d3 c.0 (third-is c.0 c.1))

  -- each child
  child-slot : (m : ℕ) (block : Block) → 0 < m → parent_in 3 m ≡ n → last_write (Tree m) (history t3) ≡ Some block → slot_in_payload layout m (digests-put d1 d2 d3) ≡ block_digest m block
  child-slot m block above is found =
      elim (cases_eq m (3 * n + 1)) [
        | inl at ↦ child-at (3 * n + 1) m block d1 at slots-are.one (λ found. first-is block found) found
        | inr not_one ↦
            elim (cases_eq m (3 * n + 2)) [
              | inl at ↦ child-at (3 * n + 2) m block d2 at slots-are.two (λ found. second-is block found) found
              | inr not_two ↦ child-at (3 * n + 3) m block d3 (omega (arith, above, is, not_one, not_two)) slots-are.three (λ found. third-is block found) found
            ]
      ]
    where
      child-at : (k m : ℕ) (block : Block) (d : List ℕ) → m ≡ k → slot_in_payload layout k (digests-put d1 d2 d3) ≡ d
          → (last_write (Tree k) (history t3) ≡ Some block → d ≡ block_digest k block) → last_write (Tree m) (history t3) ≡ Some block
          → slot_in_payload layout m (digests-put d1 d2 d3) ≡ block_digest m block
      child-at k m block d at slot digest_is found =
          ap (λ (i : ℕ). slot_in_payload layout i (digests-put d1 d2 d3)) at ∙ slot ∙ digest_is (ap (λ (i : ℕ). last_write (Tree i) (history t3)) (sym at) ∙ found)
          ∙ ap (λ (i : ℕ). block_digest i block) (sym at)

  child-in : (m : ℕ) → 0 < m → parent_in 3 m ≡ n → Children m
  child-in m above is =
      elim (cases_eq m (3 * n + 1)) [
        | inl at ↦ inl (inl (under-self levels (3 * n + 1) m at))
        | inr not_one ↦
            elim (cases_eq m (3 * n + 2)) [
              | inl at ↦ inl (inr (under-self levels (3 * n + 2) m at))
              | inr not_two ↦ inr (under-self levels (3 * n + 3) m (omega (arith, above, is, not_one, not_two)))
            ]
      ]

  -- what was written of the node
  written-payload : back.block.payload ≡ digests-put d1 d2 d3
  unfolding scheme_of
  written-payload = back.payload_is ∙ lawful.bare n back.block.stamp (digests-put d1 d2 d3) node

  laid : NodeLaidOut (scheme_of layout veiled) (BlockWrite (Tree n) back.block) (history t3)
  unfolding scheme_of
  laid = λ _ _. record {
    long = back.whole.payload;
    written = λ child above inside is. let w = three-children.written child (child-in child above is) in (w.0, w.1);
    slots = λ child block above inside is found. ap (λ (xs : List ℕ). slot_in_payload layout child xs) written-payload ∙ child-slot child block above is found;
    padding = subst (λ (xs : List ℕ). IsPadded (scheme_of layout veiled) xs) (sym written-payload) slots-are.padding;
  }

  after-top : (m : ℕ) → Children m → n < m
  after-top m (inl (inl u)) = under-top levels n 1 m (omega arith) u
  after-top m (inl (inr u)) = under-top levels n 2 m (omega arith) u
  after-top m (inr u) = under-top levels n 3 m (omega arith) u

  node-written : BlocksEntered layout (scheme_of layout veiled) (λ m. m ≡ n) p3 p3 (writes_block n ∷ []) t3 t4
  unfolding scheme_of
  node-written = blocks-write layout (scheme_of layout veiled) p3 n (digests-put d1 d2 d3) digest t3 t4 back (λ above. parent-less n above) laid
      (λ leaf _. absurd (omega (arith, leaf, node))) (λ leaf _. absurd (omega (arith, leaf, node))) (λ yes'. let at = static-at layout n yes' in absurd (omega (arith, at.from, node)))

  with-node : BlocksEntered layout (scheme_of layout veiled) (λ m. Children m ⊎ (m ≡ n)) p0 p3 (moves_below layout (suc levels) n) t0 t4
  unfolding scheme_of
  with-node = blocks-both layout (scheme_of layout veiled) Children (λ m. m ≡ n) p0 p3 p3
      ((moves_below layout levels (3 * n + 1) ++ moves_below layout levels (3 * n + 2)) ++ moves_below layout levels (3 * n + 3)) (writes_block n ∷ []) t0 t3 t4 three-children node-written
      (λ m these is. let less = after-top m these in omega (arith, less, is))
      (λ m block parent positive these is found above.
      let less = after-top m these in
      let b : Some parent ≡ Some back.block = sym above ∙ ap (λ (k : ℕ). last_write (Tree k) (history t4)) is ∙ write-here n back.block t3 t4 back.event in
      let e : parent ≡ back.block = cc in
      ap (λ (b : Block). slot_in_payload layout m b.payload) e ∙ ap (λ (xs : List ℕ). slot_in_payload layout m xs) written-payload
      ∙ child-slot m block positive is (sym (node-written.writes m (λ same. omega (arith, less, same))) ∙ found))
      (λ m block parent positive is these found above. absurd (let less = after-top (parent_in 3 m) these in omega (arith, less, is, positive)))

  pub subtree-node : SubtreeEntered layout (scheme_of layout veiled) (suc levels) n p0 p3 t0 t4 digest
  subtree-node = record {
    blocks = blocks-as layout (scheme_of layout veiled) (λ m. Children m ⊎ (m ≡ n)) (IsUnder (suc levels) n) p0 p3 (moves_below layout (suc levels) n) t0 t4 with-node to from;
    digest_is = first-digest (scheme_of layout veiled) n (digests-put d1 d2 d3) digest t3 t4 back;
    expected = write-expected (scheme_of layout veiled).digests n back.block t3 t4 back.event ∙ ap (λ (d : List ℕ). Some d) (sym back.digest_is);
  }
    where
      to : (m : ℕ) → Children m ⊎ (m ≡ n) → IsUnder (suc levels) n m
      to m (inl (inl (inl u))) = under-lift levels n (3 * n + 1) m (omega arith) (omega arith) u
      to m (inl (inl (inr u))) = under-lift levels n (3 * n + 2) m (omega arith) (omega arith) u
      to m (inl (inr u)) = under-lift levels n (3 * n + 3) m (omega arith) (omega arith) u
      to m (inr is) = inl is

      by : (m : ℕ) → Below levels n m → Children m ⊎ (m ≡ n)
      by m (top is) = inr is
      by m (first u) = inl (inl (inl u))
      by m (second u) = inl (inl (inr u))
      by m (third u) = inl (inr u)

      from : (m : ℕ) → IsUnder (suc levels) n m → Children m ⊎ (m ≡ n)
      from m u = by m (under-split levels n m u)

-- by the number of its levels
pub levels-as : (layout : Layout) (veiled : ℕ → ℕ → List ℕ → List ℕ) (levels lower n : ℕ) (p q : ProgramParts) (old new : List Event) (digest : List ℕ) → levels ≡ suc lower
    → SubtreeEntered layout (scheme_of layout veiled) (suc lower) n p q old new digest → SubtreeEntered layout (scheme_of layout veiled) levels n p q old new digest
levels-as layout veiled levels lower n p q old new digest same entered = subst (λ (k : ℕ). SubtreeEntered layout (scheme_of layout veiled) k n p q old new digest) (sym same) entered
