-- Promise: from words to instructions.
use Rattle.std.specs.Prelude.{◌≡◌, ◌≢◌, ℕ}
use Rattle.orbis_word.specs.declared.fields.Fields.{Fields}
use Rattle.orbis_word.specs.declared.instruction.Instr.{Instr}
use Rattle.orbis_word.specs.Table.{table_row, fixed_of, encoding, IsInRange}

-- the word is the one word of this instruction
pub record IsWordOf (word : ℕ) (instruction : Instr) : Type 0 where
  pub in_range : IsInRange instruction
  pub encoded : encoding instruction ≡ word

-- the word is the word of no instruction
abbrev pub IsNoWord : ℕ → Type 0
IsNoWord word = (instruction : Instr) → IsInRange instruction → word ≢ encoding instruction

-- the instruction has these fixed bits and these fields
pub record IsRowOf (fixed : ℕ) (fields : Fields) (instruction : Instr) : Type 0 where
  pub fixed_bits : fixed_of instruction ≡ fixed
  pub same_fields : (table_row instruction).fields ≡ fields

-- two instructions with one word are one
abbrev pub WordsAreApart : Type 0
WordsAreApart = (one other : Instr) → IsInRange one → IsInRange other → encoding one ≡ encoding other → one ≡ other
