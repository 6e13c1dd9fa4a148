-- What may be accessed and what is refused are two words for one test.
use Rattle.std.proofs.Common.{◌≡◌, ℕ, ◌%◌, ◌⊎◌, Bool, true, false, ◌&&◌, ◌==◌, nat_lt, if◌then◌else◌, Result, Ok, Err, refl, inl, inr}
use Rattle.regions.specs.declared.addresses.TheConstants.{OPEN_END}
use Rattle.orbis_core.specs.declared.memory.Stop.{Stop}
use Rattle.orbis_core.specs.declared.memory.Stop.TheVariants as stop
use Rattle.orbis_core.specs.declared.memory.Why.{Why}
use Rattle.orbis_core.specs.declared.memory.Why.TheVariants.{Rights, Misaligned}
use Rattle.untrusted_run.specs.OpenAccesses.{refusal_of_byte, refusal_of_word}
use Rattle.untrusted_run.specs.Phases.{may_access_byte, may_access_word}

-- it may be accessed, and is not refused; or not, and is refused
pub record Open (may : Bool) (refusal : Result (Unit {0}) Stop) : Type 0 where
  pub may_is : may ≡ true
  pub refusal_is : refusal ≡ Ok tt

pub record Shut (may : Bool) (refusal : Result (Unit {0}) Stop) : Type 0 where
  pub why : Why
  pub may_is : may ≡ false
  pub refusal_is : refusal ≡ Err (stop.Refused why)

by-bits : (inside aligned : Bool) → Open (inside && aligned) (if inside then (if aligned then Ok tt else Err (stop.Refused Misaligned)) else Err (stop.Refused Rights))
    ⊎ Shut (inside && aligned) (if inside then (if aligned then Ok tt else Err (stop.Refused Misaligned)) else Err (stop.Refused Rights))
by-bits true true = inl (record { may_is = refl; refusal_is = refl })
by-bits true false = inr (record { why = Misaligned; may_is = refl; refusal_is = refl })
by-bits false aligned = inr (record { why = Rights; may_is = refl; refusal_is = refl })

by-bit : (inside : Bool) → Open inside (if inside then Ok tt else Err (stop.Refused Rights)) ⊎ Shut inside (if inside then Ok tt else Err (stop.Refused Rights))
by-bit true = inl (record { may_is = refl; refusal_is = refl })
by-bit false = inr (record { why = Rights; may_is = refl; refusal_is = refl })

pub word-case : (at : ℕ) → Open (may_access_word at) (refusal_of_word at) ⊎ Shut (may_access_word at) (refusal_of_word at)
word-case at = by-bits (nat_lt at OPEN_END) (at % 4 == 0)

pub byte-case : (at : ℕ) → Open (may_access_byte at) (refusal_of_byte at) ⊎ Shut (may_access_byte at) (refusal_of_byte at)
byte-case at = by-bit (nat_lt at OPEN_END)
