-- Promise: the text of instructions, and the listing of code.
use Rattle.std.specs.Prelude.{◌≡◌, ◌⊎◌, ℕ, ◌+◌, ◌-◌, List, [], ◌∷◌, ◌++◌, length, replicate, codes, false}
use Rattle.std.specs.Fmt.{digits, decimal, signed_decimal}
use Rattle.orbis_word.specs.declared.fields.Fields.{Fields}
use Rattle.orbis_word.specs.declared.fields.Fields.TheVariants.{N, K, Dk, B, F, Dia, Dai, Dak, Dal, Iab, Dab, Ab}
use Rattle.orbis_word.specs.declared.instruction.Instr.{Instr}
use Rattle.orbis_word.specs.Table.{table_row}
use Rattle.orbis_word.specs.Decoding.{IsWordOf, IsNoWord}

-- a register: `r` and its number
abbrev pub register_text : ℕ → List ℕ
register_text number = codes "r" ++ decimal number

-- an offset and the register that it is added to: I(A)
abbrev pub address_text : List ℕ → ℕ → List ℕ
address_text offset a = offset ++ codes "(" ++ register_text a ++ codes ")"

-- the fields as they are spelled, with signs where they have one
abbrev pub fields_text : Fields → List ℕ
fields_text (N n) = signed_decimal n
fields_text (K k) = decimal k
fields_text (Dk d k) = register_text d ++ codes "," ++ decimal k
fields_text (B b) = register_text b
fields_text (F f) = decimal f
fields_text (Dia d i a) = register_text d ++ codes "," ++ address_text (signed_decimal i) a
fields_text (Dai d a i) = register_text d ++ codes "," ++ register_text a ++ codes "," ++ signed_decimal i
fields_text (Dak d a k) = register_text d ++ codes "," ++ register_text a ++ codes "," ++ decimal k
fields_text (Dal d a l) = register_text d ++ codes "," ++ register_text a ++ codes "," ++ decimal l
fields_text (Iab i a b) = address_text (signed_decimal i) a ++ codes "," ++ register_text b
fields_text (Dab d a b) = register_text d ++ codes "," ++ register_text a ++ codes "," ++ register_text b
fields_text (Ab a b) = register_text a ++ codes "," ++ register_text b

-- an instruction: the name of its row, a blank and its fields
abbrev pub instruction_text : Instr → List ℕ
instruction_text instruction = (table_row instruction).name ++ codes " " ++ fields_text (table_row instruction).fields

-- a number in eight hexadecimal digits
abbrev pub hex_8 : ℕ → List ℕ
hex_8 number = replicate (8 - length (digits 16 false number)) 48 ++ digits 16 false number

-- the text of a word: its instruction, or `.word`
abbrev pub IsTextOf : ℕ → List ℕ → Type 0
IsTextOf word text = ((instruction : Instr) × IsWordOf word instruction × (text ≡ instruction_text instruction)) ⊎ (IsNoWord word × (text ≡ codes ".word"))

-- a line: the index of the word, the word and its text
pub record IsLine (index word : ℕ) (bytes : List ℕ) : Type 0 where
  pub text : List ℕ
  pub of_word : IsTextOf word text
  pub whole : bytes ≡ hex_8 index ++ codes " " ++ hex_8 word ++ codes " " ++ text ++ codes "\n"

-- the lines of some words, from an index on
abbrev pub IsListing : ℕ → List ℕ → List ℕ → Type 0
IsListing index [] bytes = bytes ≡ []
IsListing index (word ∷ words) bytes = (line : List ℕ) × (rest : List ℕ) × IsLine index word line × IsListing (index + 1) words rest × (bytes ≡ line ++ rest)

-- the text has that of a word more
pub record AddsText (word : ℕ) (old new : List ℕ) : Type 0 where
  pub text : List ℕ
  pub of_word : IsTextOf word text
  pub appended : new ≡ old ++ text

-- the text has a line more
pub record AddsLine (index word : ℕ) (old new : List ℕ) : Type 0 where
  pub line : List ℕ
  pub is_line : IsLine index word line
  pub appended : new ≡ old ++ line
