-- Worked examples: a log of one block that is started, read and checked, and what the definitions say at each point.
use Rattle.std.proofs.Common.{◌≡◌, ℕ, zero, suc, ◌≤◌, Bool, true, false, List, [], ◌∷◌, ◌++◌, length, Some, None, refl, arith}
use Rattle.std.specs.Prelude.{Ok, slice_index_or}
use Rattle.aegis_num.specs.declared.storage.Block.{Block}
use Rattle.aegis_num.specs.declared.storage.Place.TheVariants.{Log, Tree}
use Rattle.off_chip.specs.declared.event.Event.{Event}
use Rattle.off_chip.specs.declared.event.Event.TheVariants.{BlockRead, BlockWrite, Note}
use Rattle.off_chip.specs.declared.event.Mark.TheVariants.{CheckPassed, CheckStart, Drop, Suspend}
use Rattle.off_chip.specs.Histories.{history}
use Rattle.off_chip.specs.Epochs.{LogEntry, log_entry, open_reads, open_writes}
use Rattle.stamp_log.specs.LogTurns.{is_out}
use Rattle.stamp_log.specs.LogStands.{some_passed, carried_over}
use Rattle.stamp_log.specs.Checking.{check_reads}
use Rattle.stamp_log.specs.LogState.{LogLines, line_of, stamped, with_payload}
use Rattle.stamp_log.specs.StandsOn.{contents_in}
use Rattle.stamp_log.specs.Starting.{is_foreign}
use Rattle.stamp_log.specs.LogCalls.{MakesRoom, WritesBack}
use Rattle.stamp_log.specs.LogEvents.{zero_payload, zeros_written, reads_from, some_above, EndsCheck, RunsCheck}

abbrev old : Block
old = stamped (5 ∷ []) 1

abbrev changed : Block
changed = stamped (6 ∷ []) 2

-- the trace after the start, after a load, after the write-back of a check, after its read, and after it passed
abbrev started : List Event
started = BlockWrite (Log 0) old ∷ []

abbrev loaded : List Event
loaded = started ++ BlockRead (Log 0) old ∷ []

abbrev written : List Event
written = loaded ++ Note CheckStart ∷ BlockWrite (Log 0) changed ∷ []

abbrev compared : List Event
compared = written ++ BlockRead (Log 0) changed ∷ []

abbrev passed : List Event
passed = compared ++ Note CheckPassed ∷ []

-- a block is out before its first write and after a read, and not after a write or a passed check; a read of another block changes nothing
out-new : is_out 0 (history []) ≡ true
out-new = refl

out-started : is_out 0 (history started) ≡ false
out-started = refl

out-loaded : is_out 0 (history loaded) ≡ true
out-loaded = refl

out-other : is_out 0 (history (started ++ BlockRead (Log 1) old ∷ [])) ≡ false
out-other = refl

out-tree : is_out 0 (history (started ++ BlockRead (Tree 0) old ∷ [])) ≡ false
out-tree = refl

out-written : is_out 0 (history written) ≡ false
out-written = refl

out-passed : is_out 0 (history passed) ≡ false
out-passed = refl

-- what was read and written of the open epoch, by its check, and by the one before
reads-compared : open_reads (history compared) ≡ log_entry 0 old ∷ log_entry 0 changed ∷ []
reads-compared = refl

writes-compared : open_writes (history compared) ≡ log_entry 0 old ∷ log_entry 0 changed ∷ []
writes-compared = refl

check-compared : check_reads (history compared) ≡ log_entry 0 changed ∷ []
check-compared = refl

carried-passed : carried_over (history passed) ≡ log_entry 0 changed ∷ []
carried-passed = refl

not-passed : some_passed (history compared) ≡ false
not-passed = refl

some-passed : some_passed (history passed) ≡ true
some-passed = refl

-- lines, and contents: a line comes before the last write-back
abbrev one_line : LogLines
one_line = record { order = 0 ∷ []; held = true ∷ []; payloads = (6 ∷ []) ∷ [] }

abbrev no_line : LogLines
no_line = record { order = []; held = false ∷ []; payloads = (6 ∷ []) ∷ [] }

line-held : line_of one_line 0 ≡ Some (6 ∷ [])
line-held = refl

line-none : line_of no_line 0 ≡ None
line-none = refl

line-beyond : line_of one_line 1 ≡ None
line-beyond = refl

line-changed : line_of (with_payload one_line 0 (7 ∷ [])) 0 ≡ Some (7 ∷ [])
line-changed = refl

contents-line : contents_in one_line (history loaded) 0 ≡ Some (6 ∷ [])
contents-line = refl

contents-written : contents_in no_line (history loaded) 0 ≡ Some (5 ∷ [])
contents-written = refl

contents-later : contents_in no_line (history passed) 0 ≡ Some (6 ∷ [])
contents-later = refl

contents-none : contents_in no_line (history loaded) 1 ≡ None
contents-none = refl

-- events that are foreign to the log, and events that are not
foreign-tree : is_foreign (BlockWrite (Tree 0) old) ≡ true
foreign-tree = refl

foreign-mark : is_foreign (Note Suspend) ≡ true
foreign-mark = refl

foreign-drop : is_foreign (Note (Drop (Tree 3))) ≡ true
foreign-drop = refl

own-read : is_foreign (BlockRead (Log 0) old) ≡ false
own-read = refl

own-write : is_foreign (BlockWrite (Log 9) old) ≡ false
own-write = refl

own-drop : is_foreign (Note (Drop (Log 3))) ≡ false
own-drop = refl

own-start : is_foreign (Note CheckStart) ≡ false
own-start = refl

own-passed : is_foreign (Note CheckPassed) ≡ false
own-passed = refl

-- the events of a start and of a check
two-zeros : zeros_written 4 2 ≡ BlockWrite (Log 0) (stamped zero_payload 5) ∷ BlockWrite (Log 1) (stamped zero_payload 6) ∷ []
two-zeros = refl

long-zeros : length zero_payload ≡ 64
long-zeros = refl

two-reads : reads_from 3 (old ∷ changed ∷ []) ≡ BlockRead (Log 3) old ∷ BlockRead (Log 4) changed ∷ []
two-reads = refl

none-above : some_above 2 (old ∷ changed ∷ []) ≡ false
none-above = refl

one-above : some_above 1 (old ∷ changed ∷ []) ≡ true
one-above = refl

nothing-held : (n : ℕ) → slice_index_or (false ∷ []) n false ≡ false
nothing-held zero = refl
nothing-held (suc n) = refl

-- a check of the block that was loaded and changed passes, whatever the values of entries are
check-passes : (value : LogEntry → ℕ) → RunsCheck value 1 (Ok tt) loaded passed one_line no_line
check-passes value = record {
  middle = written;
  writes = WritesBack.more (loaded ++ Note CheckStart ∷ []) (loaded ++ Note CheckStart ∷ []) written one_line one_line no_line
      (WritesBack.none (loaded ++ Note CheckStart ∷ []) one_line)
      (MakesRoom.written 0 2 (6 ∷ []) (omega arith) refl refl refl refl);
  nothing = record { nothing = nothing-held };
  few = omega arith;
  ends = EndsCheck.passes compared (record { read = changed ∷ []; events = refl; counted = refl; fit = refl }) refl refl refl;
}
