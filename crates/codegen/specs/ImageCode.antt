-- Promise: the code and the constants of an image for flat code.
use Rattle.std.specs.Prelude.{ℕ, zero, suc, ◌+◌, ◌-◌, ◌*◌, ◌/◌, cond, List, [], ◌∷◌, ◌++◌, length, replicate, Option, Some, None}
use Rattle.orbis_word.specs.declared.Instr.{Instr}
use Rattle.orbis_word.specs.declared.Instr.TheVariants.{Nop}
use Rattle.orbis_core.specs.ByteOrder.{bytes_of}
use Rattle.ir_code.specs.declared.Cell.{Cell}
use Rattle.ir_code.specs.declared.Ir.{Ir}
use Rattle.ir_code.specs.declared.Op.{Op}
use Rattle.ir_code.specs.FlatStates.{label_place}
use Rattle.ir_code.specs.Lawful.{is_constant}
use Rattle.codegen.specs.OpInstructions.{Sites, instructions_of, start_code}

-- ---- numbers of instructions

-- how many instructions an operation has, wherever things are
abbrev pub size_of : Op → ℕ
size_of o = length (instructions_of (record { home = λ cell. 0; label = λ l. 0 }) 0 o)

-- how many instructions the operations before a place have
abbrev pub offset_of : List Op → ℕ → ℕ
offset_of [] place = 0
offset_of (o ∷ ops) zero = 0
offset_of (o ∷ ops) (suc place) = size_of o + offset_of ops place

-- how many instructions operations have
abbrev pub code_size : List Op → ℕ
code_size [] = 0
code_size (o ∷ ops) = size_of o + code_size ops

-- the number of the instruction at a place, if there is one
abbrev pub offset_found : List Op → Option ℕ → ℕ
offset_found ops None = 0
offset_found ops (Some place) = offset_of ops place

-- where things are, when cells are at home so
abbrev pub sites_of : (ℕ → ℕ) → Ir → Sites
sites_of home ir = record { home = home; label = λ l. offset_found ir.ops (label_place ir l) }

-- ---- the code

-- the instructions of operations, of which the first instruction has this number
abbrev pub code_from : Sites → ℕ → List Op → List Instr
code_from at n [] = []
code_from at n (o ∷ ops) = instructions_of at n o ++ code_from at (n + size_of o) ops

-- how many instructions the start has
abbrev pub start_size : ℕ
start_size = 11

-- how many blocks of 16 words the code fills
abbrev pub code_blocks : Ir → ℕ
code_blocks ir = (code_size ir.ops + start_size + 15) / 16

-- the code: that of the operations, the start, and instructions that do nothing, which fill the last block
abbrev pub code_of : (ℕ → ℕ) → Ir → List Instr
code_of home ir =
    code_from (sites_of home ir) 0 ir.ops
    ++ (start_code (code_size ir.ops) (offset_of ir.ops ir.entry) ++ replicate (16 * code_blocks ir - (code_size ir.ops + start_size)) (Nop 0))

-- the number of the instruction at which the run begins: that of the start, which comes after the code of the operations
abbrev pub entry_of : Ir → ℕ
entry_of ir = code_size ir.ops

-- ---- the constants

-- the words of the constants, in order
abbrev pub constant_words : List Cell → List ℕ
constant_words [] = []
constant_words (cell ∷ cells) = cond (is_constant cell.class) cell.first [] ++ constant_words cells

-- their bytes in so many blocks, of which the last is filled with zeros
abbrev pub constant_bytes : ℕ → Ir → List ℕ
constant_bytes blocks ir = bytes_of (constant_words ir.cells ++ replicate (16 * blocks - length (constant_words ir.cells)) 0)
