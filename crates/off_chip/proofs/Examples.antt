-- Worked examples of off-chip memory as bytes, each of which computes.
use Rattle.std.proofs.Common.{◌≡◌, ◌<◌, [], ◌∷◌, lit≤, lit<, refl, None, Some}
use Rattle.aegis_num.specs.declared.storage.Place.TheVariants.{Tree, Log}
use Rattle.regions.specs.declared.layout.Layout.{Layout}
use Rattle.regions.specs.Tree.{height_of, tree_blocks}
use Rattle.off_chip.specs.declared.stored.TheConstants.{WORD_BYTES}
use Rattle.off_chip.specs.declared.loading.TheConstants.{RESUME_WORD}
use Rattle.off_chip.specs.declared.event.Who.TheVariants.{Secure, Untrusted}
use Rattle.off_chip.specs.declared.event.Mark.TheVariants.{Suspend}
use Rattle.off_chip.specs.declared.event.Event.TheVariants.{WordRead, WordWrite, Note}
use Rattle.off_chip.specs.OffChipBytes.{IsWordAddress, bytes_at, bytes_put, size_of, start_of_place, static_block, static_place, stored, IsAnswered}
use Rattle.off_chip.specs.BusCalls.{AppendsOne, IsInside}

-- the program's constants are those of the definitions
constants : (RESUME_WORD ≡ 0x70000003) × (WORD_BYTES ≡ 4)
constants = (refl, refl)

-- one verified block, one of constants, one of code and two of the log: the tree is one level high
abbrev layout : Layout
layout = record {
  verified = 1;
  private = 0;
  constants = 1;
  code = 1;
  log = 2;
  shared = 0;
  data_fits = lit≤ tt;
  log_fits = lit≤ tt;
  shared_fits = lit≤ tt;
}

-- the open bytes come first, then four blocks of the tree, then two of the log
starts : (start_of_place layout (Tree 0) ≡ 65536) × (start_of_place layout (Tree 3) ≡ 65752) × (start_of_place layout (Log 0) ≡ 65824) × (start_of_place layout (Log 1) ≡ 65896) × (size_of layout ≡ 65968)
unfolding height_of
starts = (refl, refl, refl, refl, refl)

-- the block of constants stands after the verified one, and the block of code after it
statics : (static_place layout 0 ≡ Tree 2) × (static_place layout 1 ≡ Tree 3) × (tree_blocks layout ≡ 4)
unfolding height_of
statics = (refl, refl, refl)

static_stamp : (static_block (7 ∷ 8 ∷ []) 0).stamp ≡ 0
static_stamp = refl

-- the stamp stands after the payload, its greatest byte first
stored_block : stored (record { payload = 7 ∷ 8 ∷ []; stamp = 0x0102030405060708 }) ≡ 7 ∷ 8 ∷ 1 ∷ 2 ∷ 3 ∷ 4 ∷ 5 ∷ 6 ∷ 7 ∷ 8 ∷ []
stored_block = refl

-- bytes that are put, and bytes that are read
puts : (bytes_put 1 (7 ∷ 8 ∷ []) (0 ∷ 0 ∷ 0 ∷ 0 ∷ []) ≡ 0 ∷ 7 ∷ 8 ∷ 0 ∷ []) × (bytes_at 1 2 (1 ∷ 2 ∷ 3 ∷ 4 ∷ []) ≡ 2 ∷ 3 ∷ [])
puts = (refl, refl)

-- the last open word
last_word : IsWordAddress 0xfffc
last_word = record { is_open = lit< tt; aligned = refl }

-- a read holds the last write at its place, and what memory began with where there is none
answered : IsAnswered layout (WordRead Secure 0 0 ∷ WordWrite Untrusted 0 0x01020304 ∷ WordRead Secure 0 0x01020304 ∷ Note Suspend
    ∷ WordRead Untrusted 4 0x00000009 ∷ WordWrite Secure 0 5 ∷ WordRead Secure 0 5 ∷ []) (0 ∷ 0 ∷ 0 ∷ 0 ∷ 0 ∷ 0 ∷ 0 ∷ 9 ∷ [])
answered = (refl, (tt, (refl, (tt, (refl, (tt, (refl, tt)))))))

-- where no layout is told, each place will do
untold : (IsInside None (Tree 9) ≡ Unit {0}) × (IsInside (Some layout) (Log 1) ≡ 1 < 2)
untold = (refl, refl)

appended : AppendsOne (Note Suspend) [] 3 (Note Suspend ∷ []) 2
appended = record { trace = refl; room = refl }
