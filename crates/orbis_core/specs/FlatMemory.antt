-- Promise: a memory of plain words with the classes of a layout.
use Rattle.std.proofs.Common.{arith}
use Rattle.std.specs.Prelude.{◌≡◌, ◌≤◌, ℕ, ◌+◌, ◌-◌, ◌*◌, ◌/◌, nat_lt, if◌then◌else◌, List, ◌++◌, replicate, slice_index, slice_set, Result}
use Rattle.regions.specs.declared.Layout.{Layout}
use Rattle.regions.specs.declared.Mode.{Mode}
use Rattle.regions.specs.declared.Mode.TheVariants.{Ptr}
use Rattle.regions.specs.declared.Access.{Access}
use Rattle.regions.specs.declared.Access.TheVariants.{Read, Write, Fetch}
use Rattle.regions.specs.declared.addresses.TheConstants.{LOG_START, OPEN_END, TREE_START}
use Rattle.regions.specs.Blocks.{data_blocks}
use Rattle.orbis_core.specs.declared.memory.Stop.{Stop}
use Rattle.orbis_core.specs.Accesses.{Accesses, LeaveOneFewer}
use Rattle.orbis_core.specs.Refusals.{word_refusal, byte_refusal, answered, unless_refused}
use Rattle.orbis_core.specs.ByteOrder.{words_in, byte_in, with_byte}

-- the layout, and all words: the open ones, those of the data blocks and those of the log blocks, each in the order of the addresses
pub record Flat : Type 0 where
  pub layout : Layout
  pub words : List ℕ

-- how many open words there are
abbrev pub open_words : ℕ
open_words = 16384

-- how many words a block has
abbrev pub block_words : ℕ
block_words = 16

-- how many words there are
abbrev pub word_count : Layout → ℕ
word_count layout = open_words + block_words * data_blocks layout + block_words * layout.log

-- the number of the word that an address lies in
abbrev pub index_of : Layout → ℕ → ℕ
index_of layout at =
    if nat_lt at OPEN_END then at / 4
    else (if nat_lt at LOG_START then open_words + (at - TREE_START) / 4 else open_words + block_words * data_blocks layout + (at - LOG_START) / 4)

-- the word that an address lies in
abbrev pub flat_word : Flat → ℕ → ℕ
flat_word memory at = slice_index memory.words (index_of memory.layout at)

-- the memory with another word there
abbrev pub put : Flat → ℕ → ℕ → Flat
put memory at word = record memory { words = slice_set memory.words (index_of memory.layout at) word }

-- before the first access: the constant and code blocks hold these bytes, and all else is zero
abbrev pub flat_of : Layout → List ℕ → Flat
flat_of layout statics = record {
  layout = layout;
  words = replicate (open_words + block_words * (layout.verified + layout.private)) 0 ++ words_in statics ++ replicate (block_words * layout.log) 0;
}

-- In what follows the memory grants the rights of a mode.

-- a word is fetched or loaded, and nothing changes
abbrev pub ReadsWord : Mode → Access → Flat → ℕ → Result ℕ Stop → Flat → Type 0
ReadsWord mode access old at answer new = (answer ≡ answered (word_refusal old.layout mode access at) (flat_word old at)) × (new ≡ old)

-- a byte is loaded, and nothing changes
abbrev pub ReadsByte : Mode → Flat → ℕ → Result ℕ Stop → Flat → Type 0
ReadsByte mode old at answer new = (answer ≡ answered (byte_refusal old.layout mode Read at) (byte_in (flat_word old at) at)) × (new ≡ old)

-- a word is stored, and no other word changes; nothing does where it is refused
abbrev pub WritesWord : Mode → Flat → ℕ → ℕ → Result (Unit {0}) Stop → Flat → Type 0
WritesWord mode old at word answer new =
    (answer ≡ answered (word_refusal old.layout mode Write at) tt) × (new ≡ unless_refused (word_refusal old.layout mode Write at) old (put old at word))

-- a byte is stored, and no other byte changes; nothing does where it is refused
abbrev pub WritesByte : Mode → Flat → ℕ → ℕ → Result (Unit {0}) Stop → Flat → Type 0
WritesByte mode old at byte answer new =
    (answer ≡ answered (byte_refusal old.layout mode Write at) tt)
    × (new ≡ unless_refused (byte_refusal old.layout mode Write at) old (put old at (with_byte (flat_word old at) at byte)))

-- what the five calls do
abbrev pub flat_accesses_in : Mode → Accesses Flat
flat_accesses_in mode = record {
  fetch = ReadsWord mode Fetch;
  load_word = ReadsWord mode Read;
  load_byte = ReadsByte mode;
  store_word = WritesWord mode;
  store_byte = WritesByte mode;
}

-- and what they do in the rights of the private tamper-resistant mode
abbrev pub flat_accesses : Accesses Flat
flat_accesses = flat_accesses_in Ptr

-- two accesses are left after each call
pub flat_leaves : LeaveOneFewer flat_accesses (λ memory n. n ≤ 2)
flat_leaves = record {
  fetch = λ old new at answer does settled n left. omega (arith, left);
  load_word = λ old new at answer does settled n left. omega (arith, left);
  load_byte = λ old new at answer does settled n left. omega (arith, left);
  store_word = λ old new at word answer does settled n left. omega (arith, left);
  store_byte = λ old new at byte answer does settled n left. omega (arith, left);
}
