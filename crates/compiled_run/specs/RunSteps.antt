-- Promise: what a run of an image over honest flat memory comes to, step by step of the ideal machine.
use Rattle.std.specs.Prelude.{◌≡◌, ℕ, ◌≤◌, List, Option}
use Rattle.aegis_edge.specs.Sink.{Appends}
use Rattle.image_file.specs.declared.Image.{Image}
use Rattle.orbis_core.specs.Ideal.{IdealEnd}
use Rattle.orbis_core.specs.Ideal as machine
use Rattle.flat_machine.specs.declared.ran.ImageEnd.{ImageEnd}
use Rattle.flat_machine.specs.declared.ran.ImageEnd.TheVariants.{Ended, Index, Divide, FuelOut, WriteFault}
use Rattle.flat_machine.specs.ImageRuns.{EndsAfter, GoesOn, IsCutShort, released_in}

-- the ideal machine ends so in exactly so many steps, within the fuel
abbrev pub EndsWithin : Image → List ℕ → ℕ → IdealEnd → ℕ → Type 0
EndsWithin image input fuel end retired = EndsAfter image input retired end × (retired ≤ fuel)

-- the fuel is used up: as many instructions as it were done, the ideal machine has not ended by then, and the bytes that it has released
-- by then were taken
pub record UsesAll (image : Image) (input : List ℕ) (fuel retired : ℕ) (old new : Option (List ℕ)) : Type 0 where
  pub all : retired ≡ fuel
  pub running : GoesOn image input fuel
  pub released : Appends old new (released_in image input fuel)

-- how many instructions a run did that ends so, and where the ideal machine stands then
abbrev pub RunsInSteps : Image → List ℕ → ℕ → ImageEnd → ℕ → Option (List ℕ) → Option (List ℕ) → Type 0
RunsInSteps image input fuel Ended retired old new = EndsWithin image input fuel machine.Ended retired
RunsInSteps image input fuel (Index at) retired old new = EndsWithin image input fuel (machine.Index at) retired
RunsInSteps image input fuel (Divide at) retired old new = EndsWithin image input fuel (machine.Divide at) retired
RunsInSteps image input fuel FuelOut retired old new = UsesAll image input fuel retired old new
RunsInSteps image input fuel WriteFault retired old new = IsCutShort image input fuel retired old new
