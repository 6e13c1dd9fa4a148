use Rattle.std.proofs.Common.{◌≡◌, ℕ, ◌+◌, ◌≤◌, ◌<◌, List, [], ◌∷◌, ◌++◌, length, take, drop, slice_set, slice_index, refl, ap, ◌∙◌, sym, arith, add-one}
use Rattle.std.proofs.lemmas.List.{set_split, take_more, length-take-le}
use Rattle.off_chip.specs.OffChipBytes.{bytes_put}
use Rattle.off_chip.proofs.ByteLemmas.{put-put, length-put}
use Rattle.scripted_dram.proofs.bytes.put_bytes.Goals as goal

-- a byte that is set is put
set-put : (i byte : ℕ) (memory : List ℕ) → i < length memory → slice_set memory i byte ≡ bytes_put i (byte ∷ []) memory
set-put i byte memory within =
    set_split memory i byte within ∙ ap (λ n. take i memory ++ byte ∷ drop n memory) (sym (add-one i))

-- one byte more
put-more : (at i : ℕ) (bytes memory : List ℕ) → i < length bytes → at + length bytes ≤ length memory → slice_set (bytes_put at (take i bytes) memory) (at + i) (slice_index bytes i) ≡ bytes_put at (take (i + 1) bytes) memory
put-more at i bytes memory below within =
    let front : length (take i bytes) ≡ i = length-take-le i bytes (omega arith) in
    let long = length-put at (take i bytes) memory (omega arith) in
    set-put (at + i) (slice_index bytes i) (bytes_put at (take i bytes) memory) (omega arith)
    ∙ put-put at (take i bytes) (slice_index bytes i ∷ []) memory (at + i) (omega arith) (omega arith)
    ∙ ap (λ l. bytes_put at l memory) (sym (take_more bytes i 0 below))

pub loop-i-preserved : goal.loop-i-preserved
loop-i-preserved c =
    let at = c.args.at in
    let bytes = c.args.bytes.now in
    record {
      all = refl;
      bytes = c.put.ensures.bytes ∙ ap (λ l. slice_set l (at + c.loop-i.i) (slice_index bytes c.loop-i.i)) c.loop-i.invariant.bytes
          ∙ put-more at c.loop-i.i bytes c.args.memory.now c.loop-i-test.true c.requires.within;
    }
