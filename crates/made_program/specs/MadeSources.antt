-- Promise: the source of each number is a program without a fault, which never traps.
use Rattle.std.specs.Prelude.{◌≡◌, ◌≤◌, ℕ, List, None}
use Rattle.c_grammar.specs.declared.item.Program.{Program}
use Rattle.c_grammar.specs.TokenPrograms.{HasProgram}
use Rattle.c_types.specs.Checked.{IsTyped}
use Rattle.c_resolver.specs.Resolving.{plain_program}
use Rattle.c_semantics.specs.Meaning.{mean_alone}
use Rattle.compiler.specs.MemoryUse.{source_fault}
use Rattle.trap_free.specs.SafePrograms.{IsNoTrap}
use Rattle.work_maker.specs.declared.TheConstants.{MOST_FUNCTIONS}
use Rattle.work_maker.specs.MadeSource.{made_source}

-- The text is a program that keeps the typing rules, and an image of it passes no limit. On each input, and with any number of loop
-- turns, its meaning ends neither by an index nor by a divisor.
pub record IsSoundSource (text : List ℕ) : Type 0 where
  pub program : Program
  pub is_program : HasProgram text program
  pub typed : IsTyped program
  pub fits : source_fault program ≡ None
  pub ends : (input : List ℕ) (turns : ℕ) → IsNoTrap (mean_alone (plain_program program) input turns).end

-- So it is for each number of functions that a made source may have.
abbrev pub MadeSourcesAreSound : Type 0
MadeSourcesAreSound = (number : ℕ) → 1 ≤ number → number ≤ MOST_FUNCTIONS → IsSoundSource (made_source number)
