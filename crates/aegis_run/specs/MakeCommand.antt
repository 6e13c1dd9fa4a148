-- Promise: the command `make`: which answers are its own, and what goes out.
use Rattle.std.specs.Prelude.{◌≡◌, ℕ, List, [], ◌∷◌, ◌++◌, Option, Some, codes, decimal}
use Rattle.hex.specs.Hex.{encode_lower}
use Rattle.aegis_edge.specs.Sink.{Appends, AppendsFront}
use Rattle.c_grammar.specs.declared.Program.{Program}
use Rattle.c_grammar.specs.TokenPrograms.{HasProgram}
use Rattle.work_maker.specs.MadeSource.{made_source}
use Rattle.image_file.specs.declared.Image.{Image}
use Rattle.compiler.specs.CompilerTheorem.{IsCompiled}
use Rattle.aegis_words.specs.declared.file.File.{File}
use Rattle.aegis_words.specs.MakeWordRow.{MakeNames}
use Rattle.aegis_run.specs.declared.make.TheConstants.{MADE_FUEL}
use Rattle.aegis_run.specs.declared.ends.End.{End}
use Rattle.aegis_run.specs.declared.ends.End.TheVariants as run
use Rattle.aegis_run.specs.declared.ends.TopEnd.{TopEnd}
use Rattle.aegis_run.specs.declared.ends.TopEnd.TheVariants.{Run, WriteFault}
use Rattle.aegis_run.specs.RunCommand.{RunSends}
use Rattle.aegis_run.specs.RunImage.{RunTakes}

-- no text of a file lets a `make` go on or stops it, since it reads none
abbrev pub ServesMake : File → List ℕ → Type 0
ServesMake file text = ⊥

abbrev pub StopsMake : File → List ℕ → TopEnd → Type 0
StopsMake file text end = ⊥

-- the ends of a made run: the program ends, or the fuel is used up
abbrev pub IsMadeEnd : End → Type 0
IsMadeEnd run.Ended = Unit {0}
IsMadeEnd (run.FuelOut count) = Unit {0}
IsMadeEnd (run.Index at) = ⊥
IsMadeEnd (run.Divide at) = ⊥
IsMadeEnd run.WriteFault = ⊥

-- the last word of the line on a made run, by its end, which is one of these two
abbrev pub end_word : End → List ℕ
end_word run.Ended = codes "ended"
end_word other = codes "fuel"

-- bytes in lower-case hexadecimal digits, and a dash where there are none
abbrev pub hex_or_dash : List ℕ → List ℕ
hex_or_dash [] = codes "-"
hex_or_dash (byte ∷ bytes) = encode_lower (byte ∷ bytes)

-- the line on a made run: its number, the bytes that it released, and the word of its end
abbrev pub summary_line : ℕ → List ℕ → List ℕ → List ℕ
summary_line number bytes word =
    codes "make " ++ decimal number ++ codes " bytes " ++ hex_or_dash bytes ++ codes " end " ++ word ++ codes "\n"

-- A run of an image that is compiled from the source of this number, on an empty input: it ended so, and these are the bytes that it
-- released, as the source means and the ideal machine does.
pub record IsMadeRun (number : ℕ) (end : End) (bytes : List ℕ) : Type 0 where
  pub program : Program
  pub is_program : HasProgram (made_source number) program
  pub image : Image
  pub compiled : IsCompiled program image
  pub retired : ℕ
  pub sends : RunSends program [] MADE_FUEL end (Some []) (Some bytes)
  pub takes : RunTakes image [] MADE_FUEL end retired (Some []) (Some bytes)

-- a made run whose line went out
pub record Made (number : ℕ) (end : End) (old new : Option (List ℕ)) : Type 0 where
  pub bytes : List ℕ
  pub ran : IsMadeRun number end bytes
  pub sent : Appends old new (summary_line number bytes (end_word end))

-- a made run of whose line a byte was not taken: a front of it went out
pub record MakeCutShort (number : ℕ) (old new : Option (List ℕ)) : Type 0 where
  pub end : End
  pub ends : IsMadeEnd end
  pub bytes : List ℕ
  pub ran : IsMadeRun number end bytes
  pub sent : AppendsFront old new (summary_line number bytes (end_word end))

-- what goes out before an answer of a `make`
abbrev pub MakeCommand : MakeNames → TopEnd → Option (List ℕ) → Option (List ℕ) → Type 0
MakeCommand names (Run end) old new = Made names.number end old new
MakeCommand names WriteFault old new = MakeCutShort names.number old new
MakeCommand names end old new = new ≡ old

-- The answers of a `make`: its run ended so, or its line was not taken. Its source has no fault, and its run never traps.
abbrev pub IsOwnOfMake : TopEnd → Type 0
IsOwnOfMake (Run end) = IsMadeEnd end
IsOwnOfMake WriteFault = Unit {0}
IsOwnOfMake end = ⊥
