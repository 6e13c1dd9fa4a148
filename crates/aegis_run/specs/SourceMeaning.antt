-- Promise: what the source and the input that a command names mean.
use Rattle.std.specs.Prelude.{◌≡◌, ℕ, List, Option}
use Rattle.aegis_edge.specs.Folder.{Files, HoldsWhole}
use Rattle.c_grammar.specs.declared.item.Program.{Program}
use Rattle.c_grammar.specs.TokenPrograms.{HasProgram}
use Rattle.c_resolver.specs.Resolving.{plain_program}
use Rattle.c_semantics.specs.Meaning.{Meaning, mean_alone}

-- The files of these two names are a source and an input, and the program of the source means this on the input, with at most so
-- many loop turns, where no class is loose.
pub record SourceMeans (files : Option Files) (source_name input_name : List ℕ) (turns : ℕ) (meaning : Meaning) : Type 0 where
  pub source : List ℕ
  pub input : List ℕ
  pub has_source : HoldsWhole files source_name source
  pub has_input : HoldsWhole files input_name input
  pub program : Program
  pub is_program : HasProgram source program
  pub meaning_is : mean_alone (plain_program program) input turns ≡ meaning
