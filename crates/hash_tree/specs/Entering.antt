-- Promise: what a tree does where its program is entered: which blocks it reads and writes, in which order, and what it holds then.
use Rattle.std.specs.Prelude.{◌≡◌, ℕ, zero, suc, ◌+◌, ◌-◌, ◌*◌, ◌<◌, ◌≤◌, Bool, true, false, ◌⊎◌, ◌&&◌, nat_le, nat_lt, List, [], ◌∷◌, ◌++◌, length, map, filter_map, replicate, slice_get, Some, if◌then◌else◌}
use Rattle.std.specs.List.{All}
use Rattle.aegis_num.specs.declared.storage.Block.{Block}
use Rattle.aegis_num.specs.declared.storage.Place.TheVariants.{Tree}
use Rattle.regions.specs.declared.addresses.TheConstants.{BLOCK_BYTES}
use Rattle.regions.specs.declared.layout.Layout.{Layout}
use Rattle.regions.specs.Tree.{height_of, parent_in}
use Rattle.off_chip.specs.declared.event.Event.{Event}
use Rattle.off_chip.specs.declared.event.Event.TheVariants.{BlockRead, BlockWrite}
use Rattle.off_chip.specs.BlockPlaces.{first_static}
use Rattle.off_chip.specs.Boundaries.{payload_read}
use Rattle.off_chip.specs.ExpectedDigests.{expected_digest}
use Rattle.off_chip.specs.Histories.{history}
use Rattle.off_chip.specs.HonestMemory.{IsWhole}
use Rattle.off_chip.specs.OffChipBytes.{static_blocks}
use Rattle.off_chip.specs.Residency.{is_resident}
use Rattle.off_chip.specs.WriteBacks.{last_write}
use Rattle.block_hash.specs.BlockStrings.{program_digest}
use Rattle.block_hash.specs.ProgramParts.{HasTaken, ProgramParts}
use Rattle.hash_tree.specs.Schemes.{Scheme, unveiled}
use Rattle.hash_tree.specs.Standing.{State, NodesLaidOut, contents}
use Rattle.hash_tree.specs.TreeSteps.{Appends}

-- ---- in which order

-- what an event does with a tree block
pub data BlockMove : Type 0 where
  reads_block : ℕ → BlockMove
  writes_block : ℕ → BlockMove
  no_move : BlockMove

abbrev pub move_of : Event → BlockMove
move_of (BlockRead (Tree n) block) = reads_block n
move_of (BlockWrite (Tree n) block) = writes_block n
move_of event = no_move

-- whether a tree block is a static block: one of the constant blocks and the code blocks
abbrev pub is_static : Layout → ℕ → Bool
is_static layout n = nat_le (first_static layout) n && nat_lt n (first_static layout + static_blocks layout)

-- a block of the lowest level is read where it is static, and written
abbrev pub leaf_moves : Layout → ℕ → List BlockMove
leaf_moves layout n = if is_static layout n then reads_block n ∷ writes_block n ∷ [] else writes_block n ∷ []

-- a node is written directly after its third child. The first number says how many levels are below the block
abbrev pub moves_below : Layout → ℕ → ℕ → List BlockMove
moves_below layout zero n = leaf_moves layout n
moves_below layout (suc levels) n =
    ((moves_below layout levels (3 * n + 1) ++ moves_below layout levels (3 * n + 2)) ++ moves_below layout levels (3 * n + 3)) ++ writes_block n ∷ []

-- what entering does: the whole tree, from the root, which is written last
abbrev pub entry_moves : Layout → List BlockMove
entry_moves layout = moves_below layout (height_of layout) 0

-- where a data block is written that is not static, zeros are written, with the veil of the stamp over them
pub record WritesZeros (layout : Layout) (scheme : Scheme) (event : Event) : Type 0 where
  pub zeros : (n : ℕ) (block : Block) → event ≡ BlockWrite (Tree n) block → scheme.nodes ≤ n → is_static layout n ≡ false
      → block.payload ≡ scheme.veiled n block.stamp (replicate BLOCK_BYTES 0)

-- ---- and what is there then

-- what was done where a program was entered, and what the tree holds then
pub record Entered (layout : Layout) (scheme : Scheme) (old new : State) (answer : List ℕ) : Type 0 where
  pub events : List Event
  pub appended : new.trace ≡ old.trace ++ events
  pub order : map move_of events ≡ entry_moves layout
  pub zeros_written : All (WritesZeros layout scheme) events
  -- the payloads that were read are those of the program whose digest is the answer
  pub reads : length (filter_map payload_read events) ≡ static_blocks layout
  pub answer_is : answer ≡ program_digest (filter_map payload_read events)
  -- each static block has the payload that was read of it, and each other data position has zeros
  pub statics : (k : ℕ) → k < static_blocks layout → contents scheme new (first_static layout + k) ≡ slice_get (filter_map payload_read events) k
  pub zeros : (n : ℕ) → scheme.nodes ≤ n → n < scheme.blocks → is_static layout n ≡ false → contents scheme new n ≡ Some (replicate BLOCK_BYTES 0)

-- ---- the parts of it

-- a block is another one, or stands at most so many levels below it
abbrev pub IsUnder : ℕ → ℕ → ℕ → Type 0
IsUnder zero top n = n ≡ top
IsUnder (suc levels) top n = (n ≡ top) ⊎ ((0 < n) × IsUnder levels top (parent_in 3 n))

-- how many static blocks have smaller numbers than a block
abbrev pub statics_before : Layout → ℕ → ℕ
statics_before layout n = (n - first_static layout) - (n - (first_static layout + static_blocks layout))

-- the first block of the lowest level that stands under a block, or after those under the blocks before it
abbrev pub first_leaf : ℕ → ℕ → ℕ
first_leaf zero n = n
first_leaf (suc levels) n = first_leaf levels (3 * n + 1)

-- a payload was written, with the veil of its block and its stamp, and this is the digest of what was written
pub record WritesPayload (scheme : Scheme) (n : ℕ) (payload digest : List ℕ) (old new : List Event) : Type 0 where
  pub block : Block
  pub event : Appends (BlockWrite (Tree n) block) old new
  pub payload_is : block.payload ≡ scheme.veiled n block.stamp payload
  pub long : length payload ≡ BLOCK_BYTES
  pub whole : IsWhole block
  pub digest_is : digest ≡ scheme.digests.digest n block

-- a static block was entered, after so many others: it holds what was read of it, and is read in the order of the numbers
pub record StaticEntered (layout : Layout) (scheme : Scheme) (before : ℕ) (events : List Event) (n : ℕ) (block : Block) : Type 0 where
  pub k : ℕ
  pub number : before + k ≡ n - first_static layout
  pub payload : List ℕ
  pub found : slice_get (filter_map payload_read events) k ≡ Some payload
  pub holds : unveiled scheme n block ≡ payload

-- some blocks were entered, and the payloads that were read were added to a program
pub record BlocksEntered (layout : Layout) (scheme : Scheme) (These : ℕ → Type 0) (old_program program : ProgramParts) (moves : List BlockMove) (old new : List Event) : Type 0 where
  pub events : List Event
  pub appended : new ≡ old ++ events
  pub order : map move_of events ≡ moves
  pub zeros_written : All (WritesZeros layout scheme) events
  pub added : program.added ≡ old_program.added + length (filter_map payload_read events)
  pub taken : (payloads : List (List ℕ)) → HasTaken old_program payloads → HasTaken program (payloads ++ filter_map payload_read events)
  -- of other blocks nothing changes
  pub writes : (n : ℕ) → (These n → ⊥) → last_write (Tree n) (history new) ≡ last_write (Tree n) (history old)
  pub resident : (n : ℕ) → (These n → ⊥) → is_resident (Tree n) (history new) ≡ is_resident (Tree n) (history old)
  -- these are written, and not resident
  pub written : (n : ℕ) → These n → (block : Block) × (last_write (Tree n) (history new) ≡ Some block) × IsWhole block
  pub gone : (n : ℕ) → These n → is_resident (Tree n) (history new) ≡ false
  -- where the parent of one of them is one of them, it has the digest
  pub slots : (n : ℕ) (block parent : Block) → 0 < n → These n → These (scheme.digests.parent n) → last_write (Tree n) (history new) ≡ Some block
      → last_write (Tree (scheme.digests.parent n)) (history new) ≡ Some parent → scheme.digests.slot n parent.payload ≡ scheme.digests.digest n block
  pub laid_out : NodesLaidOut scheme (history old) → NodesLaidOut scheme (history new)
  -- static blocks hold what was read of them, and other data blocks hold zeros
  pub statics : (n : ℕ) (block : Block) → These n → is_static layout n ≡ true → last_write (Tree n) (history new) ≡ Some block
      → StaticEntered layout scheme old_program.added events n block
  pub zeros : (n : ℕ) (block : Block) → These n → scheme.nodes ≤ n → is_static layout n ≡ false → last_write (Tree n) (history new) ≡ Some block
      → unveiled scheme n block ≡ replicate BLOCK_BYTES 0

-- a block was entered with all that stands below it, and this is its digest
pub record SubtreeEntered (layout : Layout) (scheme : Scheme) (levels n : ℕ) (old_program program : ProgramParts) (old new : List Event) (digest : List ℕ) : Type 0 where
  pub blocks : BlocksEntered layout scheme (IsUnder levels n) old_program program (moves_below layout levels n) old new
  pub digest_is : (block : Block) → last_write (Tree n) (history new) ≡ Some block → digest ≡ scheme.digests.digest n block
  pub expected : expected_digest scheme.digests n (history new) ≡ Some digest
