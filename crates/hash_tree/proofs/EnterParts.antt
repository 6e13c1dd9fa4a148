-- What entering one block of the tree of a layout does, and what all of it leads to.
use Rattle.std.proofs.Common.{◌≡◌, ℕ, ◌+◌, ◌^◌, ◌<◌, ◌≤◌, Bool, true, false, List, [], ◌∷◌, ◌++◌, length, Some, sym, ap, ◌∙◌, subst, arith, refl}
use Rattle.std.specs.Prelude.{◌≢◌, replicate, if◌then◌else◌}
use Rattle.aegis_num.specs.declared.storage.Block.{Block}
use Rattle.aegis_num.specs.declared.storage.Place.TheVariants.{Tree}
use Rattle.regions.specs.declared.layout.Layout.{Layout}
use Rattle.regions.specs.Tree.{height_of, parent_in, positions_of}
use Rattle.regions.proofs.TreeLaws.{level_start-three}
use Rattle.off_chip.specs.declared.event.Event.{Event}
use Rattle.off_chip.specs.declared.event.Event.TheVariants.{BlockRead, BlockWrite}
use Rattle.off_chip.specs.Histories.{history}
use Rattle.off_chip.specs.WriteBacks.{last_write}
use Rattle.block_hash.specs.BlockStrings.{block_digest}
use Rattle.block_hash.specs.ProgramParts.{HasTaken, ProgramParts}
use Rattle.hash_tree.specs.Entering.{BlockMove, reads_block, writes_block, is_static, leaf_moves, statics_before, WritesPayload, BlocksEntered, SubtreeEntered}
use Rattle.hash_tree.specs.HashTrees.{nodes_of, scheme_of}
use Rattle.hash_tree.specs.Schemes.{Scheme, IsLawful, unveiled}
use Rattle.hash_tree.specs.TreeSteps.{Appends}
use Rattle.hash_tree.proofs.EnterLemmas.{blocks-read, blocks-write}
use Rattle.hash_tree.proofs.GrowthLemmas.{write-expected, write-here}
use Rattle.hash_tree.proofs.UnderLemmas.{static-at}

pub positions-some : (layout : Layout) → 0 < positions_of layout
positions-some layout = omega (arith, level_start-three (height_of layout))

-- ---- a write

pub writes-first : (layout : Layout) (veiled : ℕ → ℕ → List ℕ → List ℕ) → IsLawful (scheme_of layout veiled) → (n stamp : ℕ) (payload left digest : List ℕ) (old new : List Event)
    → left ≡ veiled n stamp payload → length payload ≡ 64 → stamp < 2 ^ 64 → Appends (BlockWrite (Tree n) (record { payload = left; stamp = stamp })) old new
    → digest ≡ block_digest n (record { payload = left; stamp = stamp }) → WritesPayload (scheme_of layout veiled) n payload digest old new
unfolding scheme_of
writes-first layout veiled lawful n stamp payload left digest old new is long fits event digest_is = record {
  block = record { payload = left; stamp = stamp };
  event = event;
  payload_is = is;
  long = long;
  whole = record { payload = ap (λ (xs : List ℕ). length xs) is ∙ lawful.long n stamp payload long; stamp = fits };
  digest_is = digest_is;
}

-- the digest that is given is that of the last write-back
pub first-digest : (scheme : Scheme) (n : ℕ) (payload digest : List ℕ) (old new : List Event) → WritesPayload scheme n payload digest old new
    → (block : Block) → last_write (Tree n) (history new) ≡ Some block → digest ≡ scheme.digests.digest n block
first-digest scheme n payload digest old new back block found =
    let b : Some block ≡ Some back.block = sym found ∙ write-here n back.block old new back.event in
    let e : block ≡ back.block = cc in
    back.digest_is ∙ ap (λ (b : Block). scheme.digests.digest n b) (sym e)

pub parent-less : (n : ℕ) → 0 < n → parent_in 3 n ≢ n
parent-less n above same = omega (arith, above, same)

-- what is written of a payload holds it, the veil removed
holds-payload : (scheme : Scheme) → IsLawful scheme → (n : ℕ) (payload digest : List ℕ) (old new : List Event)
    → (back : WritesPayload scheme n payload digest old new) → unveiled scheme n back.block ≡ payload
holds-payload scheme lawful n payload digest old new back =
    ap (λ (xs : List ℕ). scheme.veiled n back.block.stamp xs) back.payload_is ∙ lawful.inverse n back.block.stamp payload back.long

-- ---- a block of the lowest level

pub leaf-other : (layout : Layout) (veiled : ℕ → ℕ → List ℕ → List ℕ) → IsLawful (scheme_of layout veiled) → (program : ProgramParts) (n : ℕ) (digest : List ℕ) (old new : List Event)
    → nodes_of layout ≤ n → false ≡ is_static layout n → WritesPayload (scheme_of layout veiled) n (replicate 64 0) digest old new
    → SubtreeEntered layout (scheme_of layout veiled) 0 n program program old new digest
unfolding scheme_of
leaf-other layout veiled lawful program n digest old new leaf no' back =
    let scheme = scheme_of layout veiled in
    let moves : leaf_moves layout n ≡ writes_block n ∷ [] = ap (λ (b : Bool). if b then reads_block n ∷ writes_block n ∷ [] else writes_block n ∷ []) (sym no') in
    record {
      blocks = subst (λ (ms : List BlockMove). BlocksEntered layout scheme (λ m. m ≡ n) program program ms old new) (sym moves)
          (blocks-write layout scheme program n (replicate 64 0) digest old new back (λ above. parent-less n above) (λ node. absurd (omega (arith, node, leaf)))
          (λ _ _. holds-payload scheme lawful n (replicate 64 0) digest old new back) (λ _ _. refl) (λ yes'. let e : true ≡ false = sym yes' ∙ sym no' in cc));
      digest_is = first-digest scheme n (replicate 64 0) digest old new back;
      expected = write-expected scheme.digests n back.block old new back.event ∙ ap (λ (d : List ℕ). Some d) (sym back.digest_is);
    }

pub leaf-static : (layout : Layout) (veiled : ℕ → ℕ → List ℕ → List ℕ) → IsLawful (scheme_of layout veiled) → (old_program program : ProgramParts) (n : ℕ) (found : Block) (digest : List ℕ)
    (old middle new : List Event) → nodes_of layout ≤ n → true ≡ is_static layout n → Appends (BlockRead (Tree n) found) old middle
    → WritesPayload (scheme_of layout veiled) n found.payload digest middle new → old_program.added ≡ statics_before layout n → program.added ≡ old_program.added + 1
    → ((payloads : List (List ℕ)) → HasTaken old_program payloads → HasTaken program (payloads ++ found.payload ∷ []))
    → SubtreeEntered layout (scheme_of layout veiled) 0 n old_program program old new digest
unfolding scheme_of
leaf-static layout veiled lawful old_program program n found digest old middle new leaf yes' event back before added taken =
    let scheme = scheme_of layout veiled in
    let at = static-at layout n (sym yes') in
    let moves : leaf_moves layout n ≡ reads_block n ∷ writes_block n ∷ [] = ap (λ (b : Bool). if b then reads_block n ∷ writes_block n ∷ [] else writes_block n ∷ []) (sym yes') in
    record {
      blocks = subst (λ (ms : List BlockMove). BlocksEntered layout scheme (λ m. m ≡ n) old_program program ms old new) (sym moves)
          (blocks-read layout scheme old_program program n found digest old middle new event back (λ above. parent-less n above) (λ node. absurd (omega (arith, node, leaf)))
          (holds-payload scheme lawful n found.payload digest middle new back) (sym yes') (omega (arith, before, at.from, at.below)) added taken);
      digest_is = first-digest scheme n found.payload digest middle new back;
      expected = write-expected scheme.digests n back.block middle new back.event ∙ ap (λ (d : List ℕ). Some d) (sym back.digest_is);
    }
