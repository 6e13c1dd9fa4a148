use Rattle.c_semantics.proofs.LawProofs.{reads_no_entry}
use Rattle.c_semantics.proofs.laws.no_loose_class_reads_no_entry.Goals as goal

pub returns : goal.returns
returns c = record { unread = reads_no_entry }
