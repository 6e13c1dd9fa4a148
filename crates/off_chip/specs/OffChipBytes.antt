-- Promise: off-chip memory as bytes in a row: the open bytes, then each block of the tree, then each block of the log; and which reads they answer.
use Rattle.std.specs.Prelude.{ℕ, ◌+◌, ◌*◌, ◌<◌, ◌%◌, ◌≡◌, List, ◌++◌, take, drop, length, replicate, zero, suc, [], ◌∷◌}
use Rattle.std.specs.Int.{w32, w64, to_be_bytes}
use Rattle.aegis_num.specs.declared.storage.Place.{Place}
use Rattle.aegis_num.specs.declared.storage.Place.TheVariants.{Tree, Log}
use Rattle.aegis_num.specs.declared.storage.Block.{Block}
use Rattle.regions.specs.declared.layout.Layout.{Layout}
use Rattle.regions.specs.declared.addresses.TheConstants.{BLOCK_BYTES, OPEN_END, STORED_BLOCK_BYTES, UNTRUSTED_START}
use Rattle.regions.specs.Tree.{leaf_of, tree_blocks}
use Rattle.off_chip.specs.declared.event.Event.{Event}
use Rattle.off_chip.specs.declared.event.Event.TheVariants.{BlockRead, BlockWrite, WordRead, WordWrite, Note}

-- the bytes of a block off chip: its stamp stands after its payload, the greatest byte first
abbrev pub stored : Block → List ℕ
stored block = block.payload ++ to_be_bytes w64 block.stamp

-- the layout has the place
abbrev pub HasPlace : Layout → Place → Type 0
HasPlace layout (Tree n) = n < tree_blocks layout
HasPlace layout (Log n) = n < layout.log

-- where the bytes of a place begin, where the tree has so many blocks
abbrev pub start_in : ℕ → Place → ℕ
start_in in_tree (Tree n) = OPEN_END + STORED_BLOCK_BYTES * n
start_in in_tree (Log n) = OPEN_END + STORED_BLOCK_BYTES * (in_tree + n)

-- where the bytes of a place of a layout begin
abbrev pub start_of_place : Layout → Place → ℕ
start_of_place layout place = start_in (tree_blocks layout) place

-- how many bytes there are
abbrev pub size_of : Layout → ℕ
size_of layout = OPEN_END + STORED_BLOCK_BYTES * (tree_blocks layout + layout.log)

-- an address of an open word
pub record IsWordAddress (at : ℕ) : Type 0 where
  pub is_open : at < OPEN_END
  pub aligned : at % 4 ≡ 0

-- so many bytes from a place on
abbrev pub bytes_at : ℕ → ℕ → List ℕ → List ℕ
bytes_at at count memory = take count (drop at memory)

-- the memory with these bytes put from a place on
abbrev pub bytes_put : ℕ → List ℕ → List ℕ → List ℕ
bytes_put at bytes memory = take at memory ++ (bytes ++ drop (at + length bytes) memory)

-- how many static blocks a layout has: the constant blocks and then the code blocks
abbrev pub static_blocks : Layout → ℕ
static_blocks layout = layout.constants + layout.code

-- the place of a static block
abbrev pub static_place : Layout → ℕ → Place
static_place layout n = Tree (leaf_of layout (layout.verified + layout.private + n))

-- a static block, of those whose payloads stand one after another, with stamp 0
abbrev pub static_block : List ℕ → ℕ → Block
static_block statics n = record { payload = bytes_at (BLOCK_BYTES * n) BLOCK_BYTES statics; stamp = 0 }

-- the memory with the first n static blocks put at their places
unfoldable pub with_statics : Layout → List ℕ → ℕ → List ℕ → List ℕ
with_statics layout statics zero memory = memory
with_statics layout statics (suc n) memory =
    bytes_put (start_of_place layout (static_place layout n)) (stored (static_block statics n)) (with_statics layout statics n memory)

-- the word that stands where untrusted code starts: the instruction that resumes the program
abbrev pub resume_word : ℕ
resume_word = 0x70000003

-- the memory with the static blocks and the word that resumes put at their places
abbrev pub bytes_loaded_over : Layout → List ℕ → List ℕ → List ℕ
bytes_loaded_over layout statics memory =
    bytes_put UNTRUSTED_START (to_be_bytes w32 resume_word) (with_statics layout statics (static_blocks layout) memory)

-- what memory begins with: these over zeros
unfoldable pub bytes_loaded : Layout → List ℕ → List ℕ
bytes_loaded layout statics = bytes_loaded_over layout statics (replicate (size_of layout) 0)

-- a read holds the bytes that stand at its place
abbrev pub Holds : Layout → List ℕ → Event → Type 0
Holds layout memory (BlockRead at block) = stored block ≡ bytes_at (start_of_place layout at) STORED_BLOCK_BYTES memory
Holds layout memory (BlockWrite at block) = Unit {0}
Holds layout memory (WordRead by at word) = to_be_bytes w32 word ≡ bytes_at at 4 memory
Holds layout memory (WordWrite by at word) = Unit {0}
Holds layout memory (Note mark) = Unit {0}

-- a write puts its bytes, and nothing else changes memory
abbrev pub after_event : Layout → Event → List ℕ → List ℕ
after_event layout (BlockRead at block) memory = memory
after_event layout (BlockWrite at block) memory = bytes_put (start_of_place layout at) (stored block) memory
after_event layout (WordRead by at word) memory = memory
after_event layout (WordWrite by at word) memory = bytes_put at (to_be_bytes w32 word) memory
after_event layout (Note mark) memory = memory

-- the memory after events, from the memory before them
abbrev pub after_events : Layout → List Event → List ℕ → List ℕ
after_events layout [] memory = memory
after_events layout (event ∷ events) memory = after_events layout events (after_event layout event memory)

-- each read of the events holds the bytes that stand at its place just before it: those last written there, or those of the beginning
abbrev pub IsAnswered : Layout → List Event → List ℕ → Type 0
IsAnswered layout [] memory = Unit {0}
IsAnswered layout (event ∷ events) memory =
    Holds layout memory event × IsAnswered layout events (after_event layout event memory)
