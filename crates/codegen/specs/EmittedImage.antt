-- Promise: which image flat code has, and what it means that this image does what the code means.
use Rattle.std.specs.Prelude.{◌≡◌, ◌≢◌, ℕ, zero, suc, ◌+◌, ◌*◌, ◌^◌, ◌<◌, ◌≤◌, Bool, List, [], ◌∷◌, ◌++◌, map, Option, Some, None}
use Rattle.std.specs.List.{AllByRecursion}
use Rattle.execution.specs.Run.{Next, Stops, state_of}
use Rattle.execution.specs.Traffic.{Element, Entry, Extends}
use Rattle.execution.specs.Naming.{Addressed, name_by, entry_named, traffic_named}
use Rattle.regions.specs.declared.Class.{Class}
use Rattle.regions.specs.declared.Layout.{Layout}
use Rattle.orbis_word.specs.Reading.{instruction_in}
use Rattle.orbis_core.specs.Ideal as ideal
use Rattle.orbis_core.specs.Ideal.{Ideal, IdealEnd, ideal_run}
use Rattle.orbis_core.specs.declared.memory.Why.{Why}
use Rattle.ir_code.specs.declared.Cell.{Cell}
use Rattle.ir_code.specs.declared.Ir.{Ir}
use Rattle.ir_code.specs.FlatStates as flat
use Rattle.ir_code.specs.FlatStates.{FlatState, FlatEnd}
use Rattle.ir_code.specs.FlatMeaning.{flat_run}
use Rattle.ir_code.specs.Lawful.{IsLawful}
use Rattle.region_plan.specs.Homes.{HasSizes, home_address}
use Rattle.image_file.specs.declared.Image.{Image}
use Rattle.image_file.specs.ImageTable.{static_bytes, HoldsWords}
use Rattle.codegen.specs.ImageCode.{code_blocks, code_of, entry_of, constant_bytes}

-- The image of flat code: cells and code have the blocks that they need, the constants come first, and each word of the code is that
-- of its instruction.
pub record IsImageOf (ir : Ir) (image : Image) : Type 0 where
  pub sizes : HasSizes image.layout ir (code_blocks ir)
  pub entry : image.entry ≡ entry_of ir
  pub constants : image.constants ≡ constant_bytes image.layout.constants ir
  pub code : map instruction_in image.code ≡ map Some (code_of (home_address image.layout ir) ir)

-- ---- names: each element of a cell is named by its address

-- so many elements of a cell from one on, when the cell is at this address
abbrev pub elements_at : ℕ → ℕ → ℕ → ℕ → List Addressed
elements_at c home i zero = []
elements_at c home i (suc count) = record { element = record { variable = c; index = i }; address = home + 4 * i } ∷ elements_at c home (i + 1) count

-- those of cells, of which the first has this number
abbrev pub elements_from : (ℕ → ℕ) → ℕ → List Cell → List Addressed
elements_from home c [] = []
elements_from home c (cell ∷ cells) = elements_at c (home c) 0 cell.words ++ elements_from home (c + 1) cells

-- the address of an element, or a name that is no cell's address where there is no such element
abbrev pub address_name : Layout → Ir → Element → ℕ
address_name layout ir = name_by (elements_from (home_address layout ir) 0 ir.cells)

-- ---- meaning

-- where the ideal machine comes to on an image
abbrev pub image_run : (Class → Bool) → Image → List ℕ → List (Entry ℕ) → ℕ → Next Ideal IdealEnd
image_run loose image input words steps = ideal_run image.layout loose (static_bytes image) image.entry input words steps

-- the end of the machine that an end of flat code is; code that is lawful never gets stuck
abbrev pub machine_end : FlatEnd → Option IdealEnd
machine_end flat.Ended = Some ideal.Ended
machine_end (flat.Index at) = Some (ideal.Index at)
machine_end (flat.Divide at) = Some (ideal.Divide at)
machine_end flat.Starved = Some ideal.Starved
machine_end flat.Stuck = None

-- it has ended so, at what flat code has come to
pub record EndsLikeCode (name : Element → ℕ) (end : FlatEnd) (at : FlatState) (final : IdealEnd) (state : Ideal) : Type 0 where
  pub ending : machine_end end ≡ Some final
  pub traffic : state.traffic ≡ traffic_named name at.traffic

-- flat code comes in some steps, with at most so many jumps, to where the machine has come, or further
pub record IsAhead (name : Element → ℕ) (run : ℕ → Next FlatState FlatEnd) (jumps : ℕ) (state : Ideal) : Type 0 where
  pub ops : ℕ
  pub jumped : (state_of (run ops)).jumps ≤ jumps
  pub traffic : Extends state.traffic (traffic_named name (state_of (run ops)).traffic)

-- With these classes loose, the machine on an image does what flat code means, on each input and for each list of loose words, where
-- elements are named by addresses.
pub record MeansCode (loose : Class → Bool) (ir : Ir) (image : Image) : Type 0 where
  -- it comes to the end of flat code in as many steps as the weight says, or fewer
  pub forward : (input : List ℕ) (entries : List (Entry Element)) (ops : ℕ) (end : FlatEnd) (at : FlatState) → flat_run loose ir input entries ops ≡ Stops end at →
      (steps : ℕ) × (final : IdealEnd) × (state : Ideal) × (image_run loose image input (map (entry_named (address_name image.layout ir)) entries) steps ≡ Stops final state)
      × EndsLikeCode (address_name image.layout ir) end at final state × (steps ≤ at.weight)
  -- at each moment it has come to a front of what flat code does, with at most one jump a step
  pub backward : (input : List ℕ) (entries : List (Entry Element)) (steps : ℕ) →
      IsAhead (address_name image.layout ir) (flat_run loose ir input entries) steps
      (state_of (image_run loose image input (map (entry_named (address_name image.layout ir)) entries) steps))
  -- where it has ended, that is the end of flat code
  pub ended : (input : List ℕ) (entries : List (Entry Element)) (steps : ℕ) (final : IdealEnd) (state : Ideal) →
      image_run loose image input (map (entry_named (address_name image.layout ir)) entries) steps ≡ Stops final state →
      (ops : ℕ) × (end : FlatEnd) × (at : FlatState) × (flat_run loose ir input entries ops ≡ Stops end at)
      × EndsLikeCode (address_name image.layout ir) end at final state × (at.jumps ≤ steps)
  -- and no instruction is refused, whatever the loose words are
  pub never_refused : (input : List ℕ) (words : List (Entry ℕ)) (steps : ℕ) (why : Why) (state : Ideal) → image_run loose image input words steps ≢ Stops (ideal.Refused why) state

-- the first words of cells are words
abbrev pub HasFirstWords : List Cell → Type 0
HasFirstWords [] = Unit {0}
HasFirstWords (cell ∷ cells) = AllByRecursion (λ word. word < 2 ^ 32) cell.first × HasFirstWords cells

-- The image of flat code that is lawful with these classes loose does what the code means.
abbrev pub ImagesMeanCode : Type 0
ImagesMeanCode = (loose : Class → Bool) (ir : Ir) (image : Image) → IsLawful loose ir → HasFirstWords ir.cells → IsImageOf ir image → HoldsWords image → MeansCode loose ir image
