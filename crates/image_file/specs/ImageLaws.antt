-- Promise: which files are those of images, and of which one.
use Rattle.std.specs.Prelude.{◌≡◌, ℕ, ◌^◌, ◌<◌, List, None}
use Rattle.std.specs.List.{AllByRecursion}
use Rattle.image_file.specs.declared.image.Image.{Image}
use Rattle.image_file.specs.ImageTable.{bytes_of, HoldsWords}
use Rattle.image_file.specs.ImageFaults.{first_fault}

-- two images with one file are one image
abbrev pub ImagesHaveOneFile : Type 0
ImagesHaveOneFile = (image other : Image) → HoldsWords image → HoldsWords other → bytes_of image ≡ bytes_of other → image ≡ other

-- the file of an image has no fault
abbrev pub FilesOfImagesAreFaultless : Type 0
FilesOfImagesAreFaultless = (image : Image) → HoldsWords image → first_fault (bytes_of image) ≡ None

-- this is the file of some image
pub record IsFileOfImage (bytes : List ℕ) : Type 0 where
  pub image : Image
  pub words : HoldsWords image
  pub file : bytes ≡ bytes_of image

-- each file without a fault is that of an image
abbrev pub FaultlessFilesAreOfImages : Type 0
FaultlessFilesAreOfImages = (bytes : List ℕ) → AllByRecursion (λ byte. byte < 2 ^ 8) bytes → first_fault bytes ≡ None → IsFileOfImage bytes
