-- Fronts of a file.
use Rattle.std.proofs.Common.{◌≡◌, ℕ, List, [], refl}
use Rattle.aegis_edge.specs.Folder.{IsFrontOf}

-- nothing is the front of any file
pub nothing_is_front : (bytes whole : List ℕ) → bytes ≡ [] → IsFrontOf bytes whole
nothing_is_front bytes whole is_empty = (whole, rw is_empty refl)
