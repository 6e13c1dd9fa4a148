-- Promise: what follows of phases of untrusted code.
use Rattle.std.specs.Prelude.{◌≡◌, ℕ, ◌*◌, ◌≤◌, true, ◌↔◌, List, length, None}
use Rattle.std.specs.List.{All}
use Rattle.regions.specs.declared.layout.Layout.{Layout}
use Rattle.regions.specs.declared.rights.Access.{Access}
use Rattle.regions.specs.declared.rights.Mode.TheVariants.{Ssp}
use Rattle.off_chip.specs.declared.event.Event.{Event}
use Rattle.off_chip.specs.declared.event.Event.TheVariants.{WordRead, WordWrite, Note}
use Rattle.off_chip.specs.declared.event.Mark.TheVariants.{Retire}
use Rattle.off_chip.specs.declared.event.Who.TheVariants.{Untrusted}
use Rattle.off_chip.specs.OffChipBytes.{IsWordAddress}
use Rattle.orbis_core.specs.Refusals.{word_refusal, byte_refusal}
use Rattle.untrusted_run.specs.declared.phase.TheConstants.{MAX_INSTRUCTIONS}
use Rattle.untrusted_run.specs.declared.phase.UntrustedEnd.{UntrustedEnd}
use Rattle.untrusted_run.specs.Phases.{IsPhase, may_access_byte, may_access_word}

-- an event that untrusted code may make: an open word is read or written, or an instruction is done
abbrev pub IsOpenEvent : Event → Type 0
IsOpenEvent (WordRead Untrusted at word) = IsWordAddress at
IsOpenEvent (WordWrite Untrusted at word) = IsWordAddress at
IsOpenEvent (Note (Retire Untrusted)) = Unit {0}
IsOpenEvent event = ⊥

-- what holds of phases
pub record PhasesAreOpen : Type 0 where
  -- events are those of one end at most
  pub one : (events : List Event) (end other : UntrustedEnd) → IsPhase events end → IsPhase events other → end ≡ other
  -- its events are open ones, by untrusted code, at most four for each instruction
  pub events : (events : List Event) (end : UntrustedEnd) → IsPhase events end → All IsOpenEvent events
  pub few : (events : List Event) (end : UntrustedEnd) → IsPhase events end → length events ≤ 4 * MAX_INSTRUCTIONS
  -- what may be accessed is what the mode SSP grants, whatever the layout
  pub word : (layout : Layout) (access : Access) (at : ℕ) → (may_access_word at ≡ true) ↔ (word_refusal layout Ssp access at ≡ None)
  pub byte : (layout : Layout) (access : Access) (at : ℕ) → (may_access_byte at ≡ true) ↔ (byte_refusal layout Ssp access at ≡ None)
