use Rattle.std.proofs.Common.{◌≡◌, ◌+◌, ◌-◌, length, take}
use Rattle.scripted_dram.specs.ScriptMemory.{changes_at}
use Rattle.scripted_dram.specs.DueChanges.{IsPassed, is_due}
use Rattle.scripted_dram.specs.StoredStates.{all_stored}
use Rattle.scripted_dram.proofs.due.do_due.Given as goal

-- what is due among the changes before the cursor is done
abbrev pub invariant-due : goal.invariant-due
invariant-due l = record {
  done : l.storage ≡ all_stored (changes_at (is_due l.count l.k) (take l.next l.changes)) l.fn.storage;
  passed : IsPassed l.count (l.k + 1) l.changes l.next;
}

abbrev pub decreases-due : goal.decreases-due
decreases-due l = length l.changes - l.next
