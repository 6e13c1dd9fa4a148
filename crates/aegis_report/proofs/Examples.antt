-- Worked lines of each end. The texts were written by hand from the format.
use Rattle.std.proofs.Common.{◌≡◌, List, [], ◌∷◌, replicate, Some, None, refl, lit≤, lit<}
use Rattle.std.specs.Prelude.{codes, map}
use Rattle.std.specs.Fmt.{digits}
use Rattle.hex.specs.Hex.{encode_with}
use Rattle.aegis_num.specs.declared.storage.Block.{Block}
use Rattle.aegis_num.specs.declared.storage.Place.TheVariants.{Tree, Log}
use Rattle.regions.specs.declared.layout.Layout.{Layout}
use Rattle.regions.specs.Tree.{height_of}
use Rattle.orbis_core.specs.declared.memory.Why.TheVariants as why
use Rattle.image_file.specs.declared.image.Image.{Image}
use Rattle.off_chip.specs.declared.event.Event.{Event}
use Rattle.off_chip.specs.declared.event.Event.TheVariants.{BlockRead, BlockWrite, Note}
use Rattle.off_chip.specs.declared.event.Mark.TheVariants.{Enter, Retire, Suspend}
use Rattle.off_chip.specs.declared.event.Who.TheVariants.{Secure, Untrusted}
use Rattle.stamp_log.specs.declared.causes.LogCause.TheVariants.{Future, Sums}
use Rattle.stamp_log.specs.declared.sums.MultisetSum.{MultisetSum}
use Rattle.aegis_machine.specs.declared.ends.End.TheVariants.{Ended, Index, Divide, AbortTree, AbortLog, AbortProgram, FuelOut, Refused, WriteFault}
use Rattle.aegis_report.specs.ReportLines.{IsRecordOf, block_words, report_of, sum_words}

-- ---- two images, and a trace with two instructions of the secure program among nine events

-- one verified and one code block: a node and three positions
abbrev low : Layout
low = record { verified = 1; private = 0; constants = 0; code = 1; log = 0; shared = 0; data_fits = lit≤ tt; log_fits = lit≤ tt; shared_fits = lit≤ tt }

-- five data blocks: four nodes and nine positions
abbrev high : Layout
high = record { verified = 2; private = 1; constants = 0; code = 2; log = 4; shared = 0; data_fits = lit≤ tt; log_fits = lit≤ tt; shared_fits = lit≤ tt }

abbrev low_image : Image
low_image = record {
  layout = low;
  entry = 0;
  constants = [];
  code = replicate 16 0x15000000;
  shared_words = refl;
  entry_inside = lit< tt;
  constants_whole = refl;
  code_whole = refl;
}

abbrev high_image : Image
high_image = record {
  layout = high;
  entry = 0;
  constants = [];
  code = replicate 32 0x15000000;
  shared_words = refl;
  entry_inside = lit< tt;
  constants_whole = refl;
  code_whole = refl;
}

abbrev blank : Block
blank = record { payload = replicate 64 0; stamp = 1 }

abbrev trace : List Event
trace =
    Note Enter ∷ BlockRead (Tree 1) blank ∷ Note (Retire Secure) ∷ BlockRead (Tree 3) blank ∷ Note (Retire Secure) ∷
    Note Suspend ∷ Note (Retire Untrusted) ∷ BlockRead (Log 3) blank ∷ BlockWrite (Tree 2) blank ∷ []

-- ---- an end of the program

ended : report_of Ended (Some low_image) trace ≡ Some (codes "ended retired 2 events 9\n")
unfolding digits
ended = refl

ended-without_events : report_of Ended None [] ≡ Some (codes "ended retired 0 events 0\n")
unfolding digits
ended-without_events = refl

index : report_of (Index 27) (Some low_image) trace ≡ Some (codes "index token 27 retired 2 events 9\n")
unfolding digits
index = refl

divide : report_of (Divide 9) (Some low_image) trace ≡ Some (codes "divide token 9 retired 2 events 9\n")
unfolding digits
divide = refl

-- ---- a changed block of the tree

tree-data : report_of (AbortTree 1 5) (Some low_image) trace ≡ Some (codes "abort tree data 0 event 1 retired 5\n")
unfolding digits height_of
tree-data = refl

-- a position that no data block has is one too
tree-unused : report_of (AbortTree 3 5) (Some low_image) trace ≡ Some (codes "abort tree data 2 event 3 retired 5\n")
unfolding digits height_of
tree-unused = refl

-- the same block is a node where the tree is higher
tree-node : report_of (AbortTree 3 5) (Some high_image) trace ≡ Some (codes "abort tree node 3 event 3 retired 5\n")
unfolding digits height_of
tree-node = refl

blocks-named : map (block_words high) (0 ∷ 3 ∷ 4 ∷ 8 ∷ 12 ∷ 13 ∷ [])
    ≡ codes "node 0" ∷ codes "node 3" ∷ codes "data 0" ∷ codes "data 4" ∷ codes "data 8" ∷ codes "node 13" ∷ []
unfolding digits height_of
blocks-named = refl

-- there is no line without an image, of the read of a log block, of a write, of a mark, and of an event that is not there
tree-no_image : report_of (AbortTree 1 5) None trace ≡ None
tree-no_image = refl

tree-not_log : report_of (AbortTree 7 5) (Some high_image) trace ≡ None
tree-not_log = refl

tree-not_write : report_of (AbortTree 8 5) (Some high_image) trace ≡ None
tree-not_write = refl

tree-not_mark : report_of (AbortTree 2 5) (Some high_image) trace ≡ None
tree-not_mark = refl

tree-not_there : report_of (AbortTree 9 5) (Some high_image) trace ≡ None
tree-not_there = refl

-- ---- a changed log

future : report_of (AbortLog (Future 7) 5) None trace ≡ Some (codes "abort log future log 3 event 7 retired 5\n")
unfolding digits
future = refl

future-not_tree : report_of (AbortLog (Future 1) 5) (Some low_image) trace ≡ None
future-not_tree = refl

abbrev three : MultisetSum
three = record { count = 3; sum = 0x0123456789abcdef00112233fedcba98 }

abbrev two : MultisetSum
two = record { count = 2; sum = 255 }

sums : report_of (AbortLog (Sums three two) 5) None trace
    ≡ Some (codes "abort log sums read 3 0123456789abcdef00112233fedcba98 written 2 000000000000000000000000000000ff retired 5\n")
unfolding digits encode_with
sums = refl

-- the longest line
abbrev most : MultisetSum
most = record { count = 18446744073709551615; sum = 0xffffffffffffffffffffffffffffffff }

sums-most : sum_words most ≡ codes "18446744073709551615 ffffffffffffffffffffffffffffffff"
unfolding digits encode_with
sums-most = refl

-- ---- a changed program, and the other ends

program : report_of (AbortProgram (0 ∷ 1 ∷ 16 ∷ 171 ∷ 255 ∷ replicate 15 9) (254 ∷ 220 ∷ replicate 18 0)) None []
    ≡ Some (codes "abort program read 000110abff090909090909090909090909090909 expected fedc000000000000000000000000000000000000\n")
unfolding encode_with
program = refl

fuel : report_of (FuelOut 7) (Some low_image) trace ≡ Some (codes "fuel retired 7 events 9\n")
unfolding digits
fuel = refl

fuel-at_once : report_of (FuelOut 0) (Some low_image) [] ≡ Some (codes "fuel retired 0 events 0\n")
unfolding digits
fuel-at_once = refl

refused : map (λ reason. report_of (Refused reason 31) None trace) (why.Rights ∷ why.Misaligned ∷ why.Illegal ∷ why.Divide ∷ why.Mode ∷ [])
    ≡ Some (codes "refused rights retired 31\n") ∷ Some (codes "refused misaligned retired 31\n") ∷ Some (codes "refused illegal retired 31\n")
    ∷ Some (codes "refused divide retired 31\n") ∷ Some (codes "refused mode retired 31\n") ∷ []
unfolding digits
refused = refl

write-fault : report_of WriteFault (Some low_image) trace ≡ Some (codes "write fault\n")
write-fault = refl

-- ---- which records tell of an end

record-tree : IsRecordOf (AbortTree 1 5) (Some low_image) trace
record-tree = (1, refl)

record-no_image : IsRecordOf (AbortTree 1 5) None trace → ⊥
record-no_image told = told

record-not_log : IsRecordOf (AbortTree 7 5) (Some low_image) trace → ⊥
record-not_log told = let e = told.1 in cc

record-not_there : IsRecordOf (AbortTree 9 5) (Some low_image) trace → ⊥
record-not_there told = let e = told.1 in cc

record-future : IsRecordOf (AbortLog (Future 7) 5) None trace
record-future = (3, refl)

record-not_tree : IsRecordOf (AbortLog (Future 1) 5) (Some low_image) trace → ⊥
record-not_tree told = let e = told.1 in cc

record-sums : IsRecordOf (AbortLog (Sums three two) 5) None []
record-sums = tt

record-ended : IsRecordOf Ended None []
record-ended = tt
