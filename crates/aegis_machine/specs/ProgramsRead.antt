-- Promise: which program was read at entering, and how a run ends where it is not the one of the image.
use Rattle.std.specs.Prelude.{◌≡◌, ℕ, List, [], Option, Some}
use Rattle.regions.specs.declared.Layout.{Layout}
use Rattle.off_chip.specs.declared.Event.{Event}
use Rattle.off_chip.specs.BlockPlaces.{static_at}
use Rattle.off_chip.specs.ExchangedWords.{bytes_sent}
use Rattle.off_chip.specs.FaithfulReads.{SomeReadUnfaithful}
use Rattle.bus_machine.specs.BusMachine.{LoadedProgram}
use Rattle.aegis_machine.specs.declared.ends.End.{End}
use Rattle.aegis_machine.specs.declared.ends.End.TheVariants.{AbortProgram}
use Rattle.aegis_machine.specs.Boundaries.{entered_digest, loaded_digest}
use Rattle.aegis_machine.specs.FuelTests.{HasFuel}

-- the program that was read at entering has the digest of the one that is loaded
abbrev pub ReadsLoaded : LoadedProgram → List Event → Type 0
ReadsLoaded program trace = entered_digest program.layout trace ≡ loaded_digest program

-- some read of a static block is unfaithful
pub record SomeStaticUnfaithful (layout : Layout) (statics : List ℕ) (trace : List Event) : Type 0 where
  pub read : SomeReadUnfaithful (static_at layout statics) trace
  pub payload : List ℕ
  pub static : static_at layout statics read.place ≡ Some payload

-- a run ended at entering: there was fuel for it, nothing was handed out or sent, and some read of a static block is unfaithful
pub record EndsAtEntering (program : LoadedProgram) (fuel : ℕ) (handed_out : List ℕ) (trace : List Event) : Type 0 where
  pub fuelled : HasFuel program.layout fuel 0
  pub nothing : handed_out ≡ []
  pub unsent : bytes_sent trace ≡ 0
  pub unfaithful : SomeStaticUnfaithful program.layout program.statics trace

-- by the end of a run: it ended at entering; with each other end the program that was read is the loaded one, if there was fuel for entering
abbrev pub ReadsSo : LoadedProgram → ℕ → List ℕ → End → List Event → Type 0
ReadsSo program fuel handed_out (AbortProgram read expected) trace = EndsAtEntering program fuel handed_out trace
ReadsSo program fuel handed_out end trace = HasFuel program.layout fuel 0 → ReadsLoaded program trace
