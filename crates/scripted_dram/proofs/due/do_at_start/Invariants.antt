use Rattle.std.proofs.Common.{◌≡◌, length, take}
use Rattle.scripted_dram.specs.ScriptMemory.{changes_at, is_at_start}
use Rattle.scripted_dram.specs.StoredStates.{all_stored}
use Rattle.scripted_dram.proofs.due.do_at_start.Given as goal

-- the `start` changes so far are done
abbrev pub invariant-loop-i : goal.invariant-loop-i
invariant-loop-i l = record {
  all : l.i-end ≡ length l.changes;
  done : l.storage ≡ all_stored (changes_at is_at_start (take l.i l.changes)) l.fn.storage;
}
