-- Pieces that a writer took in parts.
use Rattle.std.proofs.Common.{◌≡◌, ℕ, List, ◌++◌, length, take, drop, Option, sym, ap, ◌∙◌, subst, append_assoc, take-append-drop}
use lib.Seq.{take-append_seam}
use Rattle.std.specs.Io.KnownBytes.{Appends, Keeps}
use Rattle.std.proofs.KnownBytes.{Appends-trans, Appends-kept}
use Rattle.aegis_edge.specs.HostSink.{TakesFront}

-- n bytes of the rest come after those that are done
pub split_moves : (all done rest : List ℕ) (n : ℕ) → all ≡ done ++ rest → all ≡ (done ++ take n rest) ++ drop n rest
split_moves all done rest n split =
    split ∙ ap (λ l. done ++ l) (sym (take-append-drop n rest)) ∙ sym (append_assoc done (take n rest) (drop n rest))

-- what is done is a front of the piece
pub TakesFront-done : (old new : Option (List ℕ)) (all done rest : List ℕ) → all ≡ done ++ rest → Appends old new done → TakesFront old new all
TakesFront-done old new all done rest split appended =
    (length done, subst (Appends old new) (sym (ap (take (length done)) split ∙ take-append_seam done rest)) appended)

-- n bytes more were taken
pub TakesFront-more : (old mid new : Option (List ℕ)) (all done rest : List ℕ) (n : ℕ)
    → all ≡ done ++ rest → Appends old mid done → Appends mid new (take n rest) → TakesFront old new all
TakesFront-more old mid new all done rest n split appended more =
    TakesFront-done old new all _ _ (split_moves all done rest n split) (Appends-trans old mid new _ _ appended more)

-- nothing more was taken
pub TakesFront-kept : (old mid new : Option (List ℕ)) (all done rest : List ℕ)
    → all ≡ done ++ rest → Appends old mid done → Keeps mid new → TakesFront old new all
TakesFront-kept old mid new all done rest split appended kept =
    TakesFront-done old new all done rest split (Appends-kept old mid new done appended kept)
