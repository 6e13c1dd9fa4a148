-- Promise: the line that tells how a run ended, and what its record holds so that there is one.
use Rattle.std.specs.Prelude.{◌≡◌, ℕ, ◌-◌, nat_le, nat_lt, ◌&&◌, if◌then◌else◌, List, ◌++◌, length, Option, None, Some, codes, decimal, slice_get}
use Rattle.std.specs.Int.{w128, to_be_bytes}
use Rattle.hex.specs.Hex.{encode_lower}
use Rattle.aegis_num.specs.declared.storage.Place.{Place}
use Rattle.aegis_num.specs.declared.storage.Place.TheVariants.{Tree, Log}
use Rattle.regions.specs.declared.layout.Layout.{Layout}
use Rattle.regions.specs.Tree.{leaf_of, tree_blocks}
use Rattle.orbis_core.specs.declared.memory.Why.{Why}
use Rattle.orbis_core.specs.declared.memory.Why.TheVariants as why
use Rattle.image_file.specs.declared.image.Image.{Image}
use Rattle.off_chip.specs.declared.event.Event.{Event}
use Rattle.off_chip.specs.declared.event.Event.TheVariants.{BlockRead}
use Rattle.off_chip.specs.Boundaries.{retired}
use Rattle.stamp_log.specs.declared.causes.LogCause.{LogCause}
use Rattle.stamp_log.specs.declared.causes.LogCause.TheVariants.{Future, Sums}
use Rattle.stamp_log.specs.declared.sums.MultisetSum.{MultisetSum}
use Rattle.aegis_machine.specs.declared.ends.End.{End}
use Rattle.aegis_machine.specs.declared.ends.End.TheVariants.{Ended, Index, Divide, AbortTree, AbortLog, AbortProgram, FuelOut, Refused, WriteFault}

-- the place that an event read, if it is the read of a block
abbrev pub place_read : Option Event → Option Place
place_read (Some (BlockRead at block)) = Some at
place_read event = None

-- the place that the event of this number read, counted from 0
abbrev pub place_at : List Event → ℕ → Option Place
place_at trace event = place_read (slice_get trace event)

-- the end of a line: how many instructions were done
abbrev pub retired_words : ℕ → List ℕ
retired_words count = codes " retired " ++ decimal count ++ codes "\n"

-- the number of a read before it
abbrev pub read_words : ℕ → ℕ → List ℕ
read_words event count = codes " event " ++ decimal event ++ codes " retired " ++ decimal count ++ codes "\n"

-- the number of events after it
abbrev pub count_words : ℕ → List Event → List ℕ
count_words count trace = codes " retired " ++ decimal count ++ codes " events " ++ decimal (length trace) ++ codes "\n"

-- a block of the tree: a data block is called by its position in the lowest level, and each other one, a node, by its number
abbrev pub block_words : Layout → ℕ → List ℕ
block_words layout block =
    if nat_le (leaf_of layout 0) block && nat_lt block (tree_blocks layout)
    then codes "data " ++ decimal (block - leaf_of layout 0)
    else codes "node " ++ decimal block

-- a sum of entries: how many there are, and the 32 digits of the sum of their values
abbrev pub sum_words : MultisetSum → List ℕ
sum_words sum = decimal sum.count ++ codes " " ++ encode_lower (to_be_bytes w128 sum.sum)

-- why an instruction was refused
abbrev pub why_word : Why → List ℕ
why_word why.Rights = codes "rights"
why_word why.Misaligned = codes "misaligned"
why_word why.Illegal = codes "illegal"
why_word why.Divide = codes "divide"
why_word why.Mode = codes "mode"

-- the line of a changed block of the tree, where there is an image and the event read such a block
abbrev pub tree_line : Option Image → Option Place → ℕ → ℕ → Option (List ℕ)
tree_line (Some image) (Some (Tree block)) event count =
    Some (codes "abort tree " ++ block_words image.layout block ++ read_words event count)
tree_line image place event count = None

-- the line of a block of the log that bears a stamp of a later write, where the event read such a block
abbrev pub future_line : Option Place → ℕ → ℕ → Option (List ℕ)
future_line (Some (Log block)) event count =
    Some (codes "abort log future log " ++ decimal block ++ read_words event count)
future_line place event count = None

-- the line of a check of the log that did not pass
abbrev pub sums_line : MultisetSum → MultisetSum → ℕ → List ℕ
sums_line read written count =
    codes "abort log sums read " ++ sum_words read ++ codes " written " ++ sum_words written ++ retired_words count

-- the line of a changed log
abbrev pub log_line : LogCause → List Event → ℕ → Option (List ℕ)
log_line (Future event) trace count = future_line (place_at trace event) event count
log_line (Sums read written) trace count = Some (sums_line read written count)

-- the line of a changed program
abbrev pub program_line : List ℕ → List ℕ → List ℕ
program_line read expected =
    codes "abort program read " ++ encode_lower read ++ codes " expected " ++ encode_lower expected ++ codes "\n"

-- the line of a run, from its end, its image and its trace
abbrev pub report_of : End → Option Image → List Event → Option (List ℕ)
report_of Ended image trace = Some (codes "ended" ++ count_words (retired trace) trace)
report_of (Index token) image trace = Some (codes "index token " ++ decimal token ++ count_words (retired trace) trace)
report_of (Divide token) image trace = Some (codes "divide token " ++ decimal token ++ count_words (retired trace) trace)
report_of (AbortTree event count) image trace = tree_line image (place_at trace event) event count
report_of (AbortLog cause count) image trace = log_line cause trace count
report_of (AbortProgram read expected) image trace = Some (program_line read expected)
report_of (FuelOut count) image trace = Some (codes "fuel" ++ count_words count trace)
report_of (Refused reason count) image trace = Some (codes "refused " ++ why_word reason ++ retired_words count)
report_of WriteFault image trace = Some (codes "write fault\n")

-- the event of this number reads a block of the tree, or one of the log
abbrev pub ReadsTree : List Event → ℕ → Type 0
ReadsTree trace event = (block : ℕ) × (place_at trace event ≡ Some (Tree block))

abbrev pub ReadsLog : List Event → ℕ → Type 0
ReadsLog trace event = (block : ℕ) × (place_at trace event ≡ Some (Log block))

-- the read that a changed log names, where it names one, is an event of the trace
abbrev pub NamesRead : LogCause → List Event → Type 0
NamesRead (Future event) trace = ReadsLog trace event
NamesRead (Sums read written) trace = Unit {0}

-- An image and a trace tell of a run that ended so: the read that the end names is an event of the trace. A block of the tree is
-- called by the image's layout. Each other end tells all else by itself.
abbrev pub IsRecordOf : End → Option Image → List Event → Type 0
IsRecordOf (AbortTree event count) (Some image) trace = ReadsTree trace event
IsRecordOf (AbortTree event count) None trace = ⊥
IsRecordOf (AbortLog cause count) image trace = NamesRead cause trace
IsRecordOf end image trace = Unit {0}
