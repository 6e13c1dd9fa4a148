-- Rooms of names that were just filled.
use Rattle.std.proofs.Common.{◌≡◌, ◌∙◌, ap, arith, ℕ, ◌+◌, ◌-◌, ◌≤◌, List, ◌++◌, length, drop, replicate}
use Rattle.std.proofs.lemmas.List.{length-append, length-drop}
use Rattle.std.proofs.Math.Seq.{drop-append_seam}
use Rattle.aegis_num.specs.NameRoom.{IsPadded, room_of}

pub filled : (text rest zeros : List ℕ) → length text ≤ 31 → length zeros ≡ 31 → rest ≡ drop (length text) zeros → drop (length text) zeros ≡ replicate (31 - length text) 0
    → IsPadded (room_of (text ++ rest) (length text))
filled text rest zeros fits e f g = record {
  size = length-append text rest ∙ ap (λ r. length text + length r) f ∙ ap (λ k. length text + k) (length-drop (length text) zeros) ∙ (omega (arith, fits, e));
  fits = fits;
  rest = drop-append_seam text rest ∙ f ∙ g;
}
