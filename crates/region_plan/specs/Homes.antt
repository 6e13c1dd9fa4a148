-- Promise: where the cells of flat code lie: each class from its first address on, in the order of its cells, word after word.
use Rattle.std.specs.Prelude.{◌≡◌, ℕ, ◌+◌, ◌*◌, ◌%◌, ◌^◌, ◌<◌, Bool, true, false, cond, List, length, take, Some}
use Rattle.std.specs.Int.{div_ceil}
use Rattle.std.specs.List.{slice_get, sum_by}
use Rattle.regions.specs.declared.addresses.TheConstants.{BLOCK_BYTES, SHARED_START}
use Rattle.regions.specs.declared.layout.Layout.{Layout}
use Rattle.regions.specs.declared.rights.Class.{Class}
use Rattle.regions.specs.declared.rights.Class.TheVariants.{Open, Verified, Private, Constant, Code, Logged}
use Rattle.regions.specs.Addresses.{start_of, class_at}
use Rattle.ir_code.specs.declared.code.Cell.{Cell}
use Rattle.ir_code.specs.declared.code.Ir.{Ir}
use Rattle.ir_code.specs.FlatStates.{words_of, class_of}

-- they are one class
abbrev pub is_same_class : Class → Class → Bool
is_same_class Open Open = true
is_same_class Verified Verified = true
is_same_class Private Private = true
is_same_class Constant Constant = true
is_same_class Code Code = true
is_same_class Logged Logged = true
is_same_class one other = false

-- the words of a cell, if it has the class
abbrev pub words_for : Class → Cell → ℕ
words_for class cell = cond (is_same_class class cell.class) cell.words 0

-- how many words the cells of a class have in all
abbrev pub class_words : Class → List Cell → ℕ
class_words class cells = sum_by (words_for class) cells

-- how many blocks so many words take
abbrev pub blocks_for : ℕ → ℕ
blocks_for words = div_ceil (4 * words) BLOCK_BYTES

-- how many blocks the cells of a class take
abbrev pub class_blocks : Class → List Cell → ℕ
class_blocks class cells = blocks_for (class_words class cells)

-- Each class has the blocks that its cells take, and the code as many as are asked for; shared cells take bytes.
pub record HasSizes (layout : Layout) (ir : Ir) (code_blocks : ℕ) : Type 0 where
  pub verified : layout.verified ≡ class_blocks Verified ir.cells
  pub private : layout.private ≡ class_blocks Private ir.cells
  pub constants : layout.constants ≡ class_blocks Constant ir.cells
  pub code : layout.code ≡ code_blocks
  pub log : layout.log ≡ class_blocks Logged ir.cells
  pub shared : layout.shared ≡ 4 * class_words Open ir.cells

-- the address at which the first cell of a class lies
abbrev pub first_address : Layout → Class → ℕ
first_address layout Open = SHARED_START
first_address layout class = start_of layout class

-- the home of a cell, that is its first address: after all words of its class that come before it
abbrev pub home_address : Layout → Ir → ℕ → ℕ
home_address layout ir c = first_address layout (class_of ir c) + 4 * class_words (class_of ir c) (take c ir.cells)

-- the address of a word of a cell
abbrev pub word_address : Layout → Ir → ℕ → ℕ → ℕ
word_address layout ir c i = home_address layout ir c + 4 * i

-- the list has the home of each cell
pub record HasHomes (layout : Layout) (ir : Ir) (homes : List ℕ) : Type 0 where
  pub all : length homes ≡ length ir.cells
  pub each : (c : ℕ) → c < length ir.cells → slice_get homes c ≡ Some (home_address layout ir c)

-- no two words have one address
abbrev pub WordsAreApart : Layout → Ir → Type 0
WordsAreApart layout ir = (c i d j : ℕ) → i < words_of ir c → j < words_of ir d →
    word_address layout ir c i ≡ word_address layout ir d j → (c ≡ d) × (i ≡ j)

-- each word lies at an address of the class of its cell
abbrev pub WordsKeepClasses : Layout → Ir → Type 0
WordsKeepClasses layout ir = (c i : ℕ) → i < words_of ir c → class_at layout (word_address layout ir c i) ≡ Some (class_of ir c)

-- and at one that words have
abbrev pub WordsAreAligned : Layout → Ir → Type 0
WordsAreAligned layout ir = (c i : ℕ) → i < words_of ir c → (word_address layout ir c i % 4 ≡ 0) × (word_address layout ir c i < 2 ^ 32)
