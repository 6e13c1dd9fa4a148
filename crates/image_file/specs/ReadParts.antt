-- Device: what the parts of a reader of images answer.
use Rattle.std.specs.Prelude.{◌≡◌, ℕ, ◌+◌, ◌*◌, List, [], ◌∷◌, map, take, drop, Option, None, Some, Result, Ok, Err}
use Rattle.std.specs.Int.{w32, from_be_bytes}
use Rattle.regions.specs.declared.layout.Layout.{Layout}
use Rattle.image_file.specs.declared.error.ImageError.{ImageError}
use Rattle.image_file.specs.ImageTable.{Header, fields}
use Rattle.image_file.specs.ImageFaults.{field_fault, first_of, header_in}

-- the fault that an answer tells
abbrev pub fault_told : {A : Type 0} → Result A ImageError → Option ImageError
fault_told (Ok found) = None
fault_told (Err fault) = Some fault

-- the first fault of some fields, from one on
abbrev pub fault_among : List ℕ → ℕ → ℕ → Option ImageError
fault_among bytes start count = first_of (map (field_fault bytes) (take count (drop start (fields (header_in bytes)))))

-- the layout has the numbers of the header
pub record HasNumbers (layout : Layout) (h : Header) : Type 0 where
  pub verified : layout.verified ≡ h.verified
  pub private : layout.private ≡ h.private
  pub constants : layout.constants ≡ h.constants
  pub code : layout.code ≡ h.code
  pub log : layout.log ≡ h.log
  pub shared : layout.shared ≡ h.shared

-- the words of some bytes, four for each
abbrev pub words_in : List ℕ → List ℕ
words_in (first ∷ second ∷ third ∷ fourth ∷ bytes) = from_be_bytes w32 (first ∷ second ∷ third ∷ fourth ∷ []) ∷ words_in bytes
words_in bytes = []
