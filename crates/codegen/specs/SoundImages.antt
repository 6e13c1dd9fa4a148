-- Promise: that images of flat code are sound, and how large they are.
use Rattle.std.specs.Prelude.{◌≡◌, ◌≤◌, ℕ, length}
use Rattle.regions.specs.LooseClasses.{shared_and_logged_loose}
use Rattle.orbis_core.specs.Soundness.{IsSound}
use Rattle.ir_code.specs.declared.Ir.{Ir}
use Rattle.ir_code.specs.declared.Op.{Op}
use Rattle.ir_code.specs.Lawful.{IsLawful}
use Rattle.ir_code.specs.OpTable.{weight_of, start_weight}
use Rattle.image_file.specs.declared.Image.{Image}
use Rattle.image_file.specs.ImageTable.{static_bytes, HoldsWords}
use Rattle.codegen.specs.ImageCode.{size_of, start_size}
use Rattle.codegen.specs.OpInstructions.{start_code}
use Rattle.codegen.specs.EmittedImage.{IsImageOf, HasFirstWords}

-- The image of flat code that is lawful with shared and logged words loose is never refused, and makes no byte access to an open
-- address, whatever the input and the loose words are.
abbrev pub ImagesAreSound : Type 0
ImagesAreSound = (ir : Ir) (image : Image) → IsLawful shared_and_logged_loose ir → HasFirstWords ir.cells → IsImageOf ir image → HoldsWords image → IsSound image.layout (static_bytes image) image.entry

-- An operation has at most as many instructions as its weight says.
abbrev pub SizesFitWeights : Type 0
SizesFitWeights = (o : Op) → size_of o ≤ weight_of o

-- The start has as many instructions as are counted for it, and as its weight says.
pub record StartFitsWeight : Type 0 where
  pub size : (n entry : ℕ) → length (start_code n entry) ≡ start_size
  pub weight : start_size ≡ start_weight
