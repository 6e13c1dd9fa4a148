-- Promise: the words of a `run`, and the files that it reads.
use Rattle.std.specs.Prelude.{ℕ, if◌then◌else◌, List, [], ◌∷◌, codes, Option, None, Some}
use Rattle.std.specs.Str.{bytes_eq}
use Rattle.aegis_words.specs.declared.file.File.TheVariants.{Source, Script, Input}
use Rattle.aegis_words.specs.FileSteps.{FileStep}
use Rattle.aegis_words.specs.NumberWords.{bound_in, hex_bytes}

-- the names of the files that a run reads, its fuel, and the bytes of its key and its nonce
pub record RunNames : Type 0 where
  pub source : List ℕ
  pub script : List ℕ
  pub input : List ℕ
  pub fuel : ℕ
  pub key : List ℕ
  pub nonce : List ℕ

-- the names of a run, where its fuel, its key and its nonce are all there
abbrev pub run_names : List ℕ → List ℕ → List ℕ → Option ℕ → Option (List ℕ) → Option (List ℕ) → Option RunNames
run_names source script input (Some fuel) (Some key) (Some nonce) =
    Some (record { source = source; script = script; input = input; fuel = fuel; key = key; nonce = nonce })
run_names source script input first second third = None

-- `run SOURCE SCRIPT INPUT FUEL KEY NONCE`
abbrev pub run_row : List (List ℕ) → Option RunNames
run_row (command ∷ source ∷ script ∷ input ∷ fuel ∷ key ∷ nonce ∷ []) =
    if bytes_eq command (codes "run")
    then run_names source script input (bound_in fuel) (hex_bytes 16 key) (hex_bytes 8 nonce)
    else None
run_row words = None

-- the files that a run reads, in order
abbrev pub run_steps : RunNames → List FileStep
run_steps names =
    record { file = Source; name = names.source }
    ∷ record { file = Script; name = names.script }
    ∷ record { file = Input; name = names.input }
    ∷ []
