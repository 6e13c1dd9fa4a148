-- Promise: what a run of a compiled source over honest flat memory comes to, by what the source means.
use Rattle.std.specs.Prelude.{◌≡◌, ◌≢◌, ℕ, ◌+◌, ◌*◌, ◌≤◌, List, Option}
use Rattle.aegis_num.specs.declared.limits.TheConstants.{MAX_NESTING}
use Rattle.aegis_edge.specs.Sink.{Appends, AppendsFront}
use Rattle.c_grammar.specs.declared.Program.{Program}
use Rattle.c_resolver.specs.Resolving.{plain_program}
use Rattle.c_semantics.specs.States as source
use Rattle.c_semantics.specs.Meaning.{Meaning, mean_alone}
use Rattle.flat_machine.specs.declared.ran.ImageEnd.{ImageEnd}
use Rattle.flat_machine.specs.declared.ran.ImageEnd.TheVariants.{Ended, Index, Divide, FuelOut, WriteFault}

-- how many loop turns a run with this fuel can come to: each level of nesting makes at most one before each instruction
abbrev pub turns_with : ℕ → ℕ
turns_with fuel = MAX_NESTING * (fuel + 1)

-- what a source means with as many loop turns as a run with this fuel can come to
abbrev pub meaning_with : Program → List ℕ → ℕ → Meaning
meaning_with program input fuel = mean_alone (plain_program program) input (turns_with fuel)

-- The fuel is enough: with as many loop turns the source comes to an end of its own, and 32 instructions for each unit of its work
-- are within the fuel.
pub record Suffices (program : Program) (input : List ℕ) (fuel : ℕ) : Type 0 where
  pub ends : (mean_alone (plain_program program) input fuel).end ≢ source.Turns
  pub work : 32 * (mean_alone (plain_program program) input fuel).work ≤ fuel

-- A run to an end of the program: the meaning ends so, and all bytes of it were taken. Where the fuel is enough the meaning ends so
-- with as many turns as the fuel.
pub record RunEnds (program : Program) (input : List ℕ) (fuel : ℕ) (ending : source.End) (old new : Option (List ℕ)) : Type 0 where
  pub ended : (meaning_with program input fuel).end ≡ ending
  pub bytes : Appends old new (meaning_with program input fuel).traffic.bytes
  pub whole : Suffices program input fuel → (mean_alone (plain_program program) input fuel).end ≡ ending

-- a run that used its fuel up: a front of the bytes of the meaning was taken, and the fuel is not enough
pub record RunUsesUp (program : Program) (input : List ℕ) (fuel : ℕ) (old new : Option (List ℕ)) : Type 0 where
  pub bytes : AppendsFront old new (meaning_with program input fuel).traffic.bytes
  pub lacking : Suffices program input fuel → ⊥

-- what a run that ends so has put into a sink; where a byte was not taken, a front of the bytes of the meaning was
abbrev pub RunsAsMeant : Program → List ℕ → ℕ → ImageEnd → Option (List ℕ) → Option (List ℕ) → Type 0
RunsAsMeant program input fuel Ended old new = RunEnds program input fuel source.Ended old new
RunsAsMeant program input fuel (Index at) old new = RunEnds program input fuel (source.Index at) old new
RunsAsMeant program input fuel (Divide at) old new = RunEnds program input fuel (source.Divide at) old new
RunsAsMeant program input fuel FuelOut old new = RunUsesUp program input fuel old new
RunsAsMeant program input fuel WriteFault old new = AppendsFront old new (meaning_with program input fuel).traffic.bytes
