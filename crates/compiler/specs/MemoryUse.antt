-- Promise: how much memory an image has for a source, and which sources have too much for one.
use Rattle.std.specs.Prelude.{◌≡◌, ℕ, ◌+◌, ◌*◌, ◌≤◌, Bool, true, false, cond, List, [], ◌∷◌, length, Option}
use Rattle.regions.specs.declared.Class.TheVariants.{Open, Verified, Private, Constant, Logged}
use Rattle.regions.specs.declared.Layout.{Layout}
use Rattle.c_grammar.specs.declared.item.Program.{Program}
use Rattle.c_meaning.specs.SourceNodes.{items_count}
use Rattle.c_resolver.specs.Resolving.{plain_program}
use Rattle.c_semantics.specs.ResolvedTree.{Function}
use Rattle.image_file.specs.declared.Image.{Image}
use Rattle.lowering.specs.Cells.{cell_count}
use Rattle.lowering.specs.Lowering.{lowered}
use Rattle.lowering.specs.Sizes.{temporary_cells}
use Rattle.region_plan.specs.declared.PlanError.{PlanError}
use Rattle.region_plan.specs.Homes.{blocks_for}
use Rattle.region_plan.specs.PlanFaults.{fault_of}
use Rattle.codegen.specs.ImageCode.{code_blocks}
use Rattle.compiler.specs.Places.{words_of_class}

-- they are both private, or both not
abbrev pub is_as_private : Bool → Bool → Bool
is_as_private true private = private
is_as_private false true = false
is_as_private false false = true

-- how many words the private functions take, or the other ones: one for each parameter, local, link and temporary
abbrev pub function_words : Bool → List Function → ℕ
function_words private [] = 0
function_words private (f ∷ fs) = cond (is_as_private private f.private) (cell_count f) 0 + function_words private fs

-- the blocks of verified words, of private ones and of constants, and those of the code
abbrev pub verified_blocks : Program → ℕ
verified_blocks p = blocks_for (words_of_class Verified (plain_program p).objects + function_words false (plain_program p).functions)

abbrev pub private_blocks : Program → ℕ
private_blocks p = blocks_for (words_of_class Private (plain_program p).objects + function_words true (plain_program p).functions)

abbrev pub constant_blocks : Program → ℕ
constant_blocks p = blocks_for (words_of_class Constant (plain_program p).objects)

abbrev pub blocks_of_code : Program → ℕ
blocks_of_code p = code_blocks (lowered (plain_program p))

-- those of logged words, and the bytes of shared ones
abbrev pub log_blocks : Program → ℕ
log_blocks p = blocks_for (words_of_class Logged (plain_program p).objects)

abbrev pub shared_bytes : Program → ℕ
shared_bytes p = 4 * words_of_class Open (plain_program p).objects

-- the memory of the image is what the source takes
pub record HasMemory (p : Program) (layout : Layout) : Type 0 where
  pub verified : layout.verified ≡ verified_blocks p
  pub private : layout.private ≡ private_blocks p
  pub constants : layout.constants ≡ constant_blocks p
  pub code : layout.code ≡ blocks_of_code p
  pub log : layout.log ≡ log_blocks p
  pub shared : layout.shared ≡ shared_bytes p

-- For each node of the source the image has at most 64 words of code, and 64 more; links and temporaries take at most two words for
-- each node.
pub record IsSmallImage (p : Program) (image : Image) : Type 0 where
  pub code : length image.code ≤ 64 * items_count p.items + 64
  pub temporaries : temporary_cells (plain_program p).functions ≤ 2 * items_count p.items

-- the first limit that a source passes, if it passes one
abbrev pub source_fault : Program → Option PlanError
source_fault p = fault_of (verified_blocks p + private_blocks p + constant_blocks p + blocks_of_code p) (log_blocks p) (shared_bytes p)
