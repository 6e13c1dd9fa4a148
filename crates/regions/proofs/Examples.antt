-- Worked examples of the definitions, each of which computes.
use Rattle.std.proofs.Common.{◌≡◌, Bool, true, false, if◌then◌else◌, List, [], ◌∷◌, map, replicate, Option, None, Some, lit≤, refl}
use Rattle.regions.specs.declared.addresses.TheConstants.{BLOCK_BYTES, LOG_START, OPEN_END, SHARED_START, TREE_START, UNTRUSTED_START}
use Rattle.regions.specs.declared.layout.TheConstants.{MAX_DATA_BLOCKS, MAX_LOG_BLOCKS, MAX_SHARED_BYTES}
use Rattle.regions.specs.declared.layout.Layout.{Layout}
use Rattle.regions.specs.declared.rights.Access.TheVariants.{Read, Write, Fetch}
use Rattle.regions.specs.declared.rights.Class.{Class}
use Rattle.regions.specs.declared.rights.Class.TheVariants.{Open, Verified, Private, Constant, Code, Logged}
use Rattle.regions.specs.declared.rights.Mode.{Mode}
use Rattle.regions.specs.declared.rights.Mode.TheVariants.{Std, Te, Ptr, Ssp}
use Rattle.regions.specs.Addresses.{block_start, class_at, data_block_at, log_block_at, offset_at}
use Rattle.regions.specs.LooseClasses.{nothing_loose, shared_loose, shared_and_logged_loose}
use Rattle.regions.specs.Modes.{Modes, SecureInstruction, Enter, Exit, IndexTrap, DivideTrap, Suspend, Resume, PrivateOn, PrivateOff, Release, Input, Check, allowed_in, modes_after}
use Rattle.regions.specs.Rights.{rights}
use Rattle.regions.specs.Tree.{ancestor_of, height_of, leaf_of, least_height, level_start, parent_in, parent_of, positions_of, slot_in, slot_of, tree_blocks}

-- the numbers of the map, and the limits
numbers : (OPEN_END ≡ 0x10000) × (TREE_START ≡ 0x10000000) × (LOG_START ≡ 0x20000000) × (UNTRUSTED_START ≡ 0x2000) × (SHARED_START ≡ 0x8000) × (BLOCK_BYTES ≡ 64)
numbers = (refl, refl, refl, refl, refl, refl)

limits : (MAX_DATA_BLOCKS ≡ 6561) × (MAX_LOG_BLOCKS ≡ 1024) × (MAX_SHARED_BYTES ≡ 32768)
limits = (refl, refl, refl)

-- one verified block, two private ones, three of constants, four of code, and five of the log
abbrev layout : Layout
layout = record {
  verified = 1;
  private = 2;
  constants = 3;
  code = 4;
  log = 5;
  shared = 12;
  data_fits = lit≤ tt;
  log_fits = lit≤ tt;
  shared_fits = lit≤ tt;
}

class_at-open : (class_at layout 0xffff ≡ Some Open) × (class_at layout 0x10000 ≡ None)
unfolding class_at
class_at-open = (refl, refl)

class_at-verified : (class_at layout 0x0fffffff ≡ None) × (class_at layout 0x10000000 ≡ Some Verified) × (class_at layout 0x1000003f ≡ Some Verified)
unfolding class_at
class_at-verified = (refl, refl, refl)

class_at-data : (class_at layout 0x10000040 ≡ Some Private) × (class_at layout 0x100000c0 ≡ Some Constant) × (class_at layout 0x10000180 ≡ Some Code)
unfolding class_at
class_at-data = (refl, refl, refl)

class_at-data_end : (class_at layout 0x1000027f ≡ Some Code) × (class_at layout 0x10000280 ≡ None)
unfolding class_at
class_at-data_end = (refl, refl)

class_at-logged : (class_at layout 0x20000000 ≡ Some Logged) × (class_at layout 0x2000013f ≡ Some Logged) × (class_at layout 0x20000140 ≡ None)
unfolding class_at
class_at-logged = (refl, refl, refl)

-- data block 3 is the first one of constants
block-constant : (block_start 3 ≡ 0x100000c0) × (data_block_at 0x100000ff ≡ 3) × (offset_at 0x100000ff ≡ 63) × (log_block_at 0x20000040 ≡ 1)
block-constant = (refl, refl, refl, refl)

-- the least height with three to the power of it places, up to 8; and with two to the power of it, up to 13
heights-three : map (λ blocks. least_height 3 blocks 7 1) (0 ∷ 3 ∷ 4 ∷ 9 ∷ 10 ∷ 2187 ∷ 2188 ∷ 6561 ∷ []) ≡ 1 ∷ 1 ∷ 2 ∷ 2 ∷ 3 ∷ 7 ∷ 8 ∷ 8 ∷ []
heights-three = refl

heights-two : map (λ blocks. least_height 2 blocks 12 1) (2 ∷ 3 ∷ 4 ∷ 5 ∷ 4096 ∷ 4097 ∷ 6561 ∷ []) ≡ 1 ∷ 2 ∷ 2 ∷ 3 ∷ 12 ∷ 13 ∷ 13 ∷ []
heights-two = refl

-- the layout has ten data blocks: a tree of height 3, of 40 blocks, of which the lowest 27 have positions; block 22 is the last child of block 7
height-layout : (height_of layout ≡ 3) × (positions_of layout ≡ 27) × (tree_blocks layout ≡ 40) × (leaf_of layout 0 ≡ 13) × (leaf_of layout 9 ≡ 22)
unfolding height_of
height-layout = (refl, refl, refl, refl, refl)

parents-layout : (parent_of layout 22 ≡ 7) × (slot_of layout 22 ≡ 0) × (parent_of layout 24 ≡ 7) × (slot_of layout 24 ≡ 2) × (ancestor_of layout 2 24 ≡ 2) × (ancestor_of layout 3 24 ≡ 0)
parents-layout = (refl, refl, refl, refl, refl, refl)

-- the greatest tree has 9,841 blocks; with two children a node, the levels start at 0, 1, 3, 7, and block 12 is the second child of block 5
level_starts : (level_start 3 9 ≡ 9841) × (map (level_start 2) (0 ∷ 1 ∷ 2 ∷ 3 ∷ []) ≡ 0 ∷ 1 ∷ 3 ∷ 7 ∷ []) × (parent_in 2 12 ≡ 5) × (slot_in 2 12 ≡ 1)
level_starts = (refl, refl, refl, refl)

rights-te : (rights Te Private Read ≡ false) × (rights Te Constant Write ≡ false) × (rights Te Code Read ≡ false) × (rights Te Code Fetch ≡ true)
rights-te = (refl, refl, refl, refl)

rights-ssp : (rights Ssp Open Fetch ≡ true) × (rights Ssp Verified Read ≡ false)
rights-ssp = (refl, refl)

-- which classes are loose, in the order of the classes
abbrev loose_in : (Class → Bool) → List Bool
loose_in loose = map loose (Open ∷ Verified ∷ Private ∷ Constant ∷ Code ∷ Logged ∷ [])

loose-classes : (loose_in nothing_loose ≡ replicate 6 false) × (loose_in shared_loose ≡ true ∷ replicate 5 false)
    × (loose_in shared_and_logged_loose ≡ true ∷ false ∷ false ∷ false ∷ false ∷ true ∷ [])
loose-classes = (refl, refl, refl)

-- the modes after an instruction from a mode with another one kept, if it is allowed there
abbrev after : SecureInstruction → Mode → Mode → Option Modes
after instruction kept mode =
    if allowed_in instruction mode then Some (modes_after instruction (record { mode = mode; kept = kept })) else None

-- from STD, TE, PTR and SSP
abbrev row : SecureInstruction → Mode → List (Option Modes)
row instruction kept = map (after instruction kept) (Std ∷ Te ∷ Ptr ∷ Ssp ∷ [])

-- a mode, next to the kept one
abbrev to : Mode → Mode → Option Modes
to mode kept = Some (record { mode = mode; kept = kept })

-- the whole table, for each kept mode: an instruction that is not allowed has no place in its row
table : (kept : Mode) →
    (row Enter kept ≡ to Te kept ∷ None ∷ None ∷ None ∷ []) × (row Exit kept ≡ None ∷ to Std kept ∷ to Std kept ∷ None ∷ [])
    × (row IndexTrap kept ≡ None ∷ to Std kept ∷ to Std kept ∷ None ∷ []) × (row DivideTrap kept ≡ None ∷ to Std kept ∷ to Std kept ∷ None ∷ [])
    × (row Suspend kept ≡ None ∷ to Ssp Te ∷ to Ssp Ptr ∷ None ∷ []) × (row Resume kept ≡ None ∷ None ∷ None ∷ to kept kept ∷ [])
    × (row PrivateOn kept ≡ None ∷ to Ptr kept ∷ None ∷ None ∷ []) × (row PrivateOff kept ≡ None ∷ None ∷ to Te kept ∷ None ∷ [])
    × (row Release kept ≡ None ∷ to Te kept ∷ to Ptr kept ∷ None ∷ []) × (row Input kept ≡ None ∷ to Te kept ∷ to Ptr kept ∷ None ∷ [])
    × (row Check kept ≡ None ∷ to Te kept ∷ to Ptr kept ∷ None ∷ [])
table kept = (refl, refl, refl, refl, refl, refl, refl, refl, refl, refl, refl)

-- an instruction that is not allowed changes nothing
refused : (modes_after Enter (record { mode = Te; kept = Te }) ≡ record { mode = Te; kept = Te }) × (modes_after Exit (record { mode = Ssp; kept = Ptr }) ≡ record { mode = Ssp; kept = Ptr })
refused = (refl, refl)
