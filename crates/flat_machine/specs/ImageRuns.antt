-- Promise: what a run of an image comes to: what the ideal machine does on it, where nothing is loose.
use Rattle.std.specs.Prelude.{◌≡◌, ℕ, ◌+◌, ◌≤◌, List, [], ◌∷◌, ◌++◌, Option, Some, None}
use Rattle.execution.specs.Run.{Next, Goes, EndsIn, state_of}
use Rattle.aegis_edge.specs.Sink.{Appends, AppendsFront}
use Rattle.regions.specs.LooseClasses.{nothing_loose}
use Rattle.image_file.specs.declared.Image.{Image}
use Rattle.image_file.specs.ImageTable.{static_bytes}
use Rattle.orbis_core.specs.Ideal.{Ideal, IdealEnd, ideal_run, ideal_start, ideal_step}
use Rattle.orbis_core.specs.Ideal as machine
use Rattle.orbis_core.specs.Soundness.{IsSound}
use Rattle.flat_machine.specs.declared.ran.ImageEnd.{ImageEnd}
use Rattle.flat_machine.specs.declared.ran.ImageEnd.TheVariants.{Ended, Index, Divide, FuelOut, WriteFault}

-- the image is never refused, whatever comes in
abbrev pub IsSoundImage : Image → Type 0
IsSoundImage image = IsSound image.layout (static_bytes image) image.entry

-- where the machine comes to on an image and an input in so many steps
abbrev pub machine_run : Image → List ℕ → ℕ → Next Ideal IdealEnd
machine_run image input steps = ideal_run image.layout nothing_loose (static_bytes image) image.entry input [] steps

-- the bytes that it has released by then
abbrev pub released_in : Image → List ℕ → ℕ → List ℕ
released_in image input steps = (state_of (machine_run image input steps)).traffic.bytes

-- it has not ended by then
abbrev pub GoesOn : Image → List ℕ → ℕ → Type 0
GoesOn image input steps = (at : Ideal) × (machine_run image input steps ≡ Goes at)

-- it ends so in exactly so many steps
abbrev pub EndsAfter : Image → List ℕ → ℕ → IdealEnd → Type 0
EndsAfter image input steps end =
    (at : Ideal) × EndsIn (ideal_step image.layout nothing_loose) steps (ideal_start image.layout (static_bytes image) image.entry input []) end at

-- the end of the machine that an end of a run is: none where the fuel is used up or a byte was not taken
abbrev pub machine_end : ImageEnd → Option IdealEnd
machine_end Ended = Some machine.Ended
machine_end (Index at) = Some (machine.Index at)
machine_end (Divide at) = Some (machine.Divide at)
machine_end FuelOut = None
machine_end WriteFault = None

-- the run was cut short: its last instruction released a byte that the sink did not take, after it had taken all bytes before
pub record IsCutShort (image : Image) (input : List ℕ) (fuel retired : ℕ) (old new : Option (List ℕ)) : Type 0 where
  pub before : ℕ
  pub byte : ℕ
  pub middle : Option (List ℕ)
  pub last : retired ≡ before + 1
  pub within : retired ≤ fuel
  pub running : GoesOn image input retired
  pub released : released_in image input retired ≡ released_in image input before ++ byte ∷ []
  pub taken : Appends old middle (released_in image input before)
  pub front : AppendsFront middle new (byte ∷ [])
