-- Worked examples of the definitions, each of which computes.
use Rattle.std.proofs.Common.{◌≡◌, ◌-◌, ◌^◌, true, false, [], ◌∷◌, None, Some, refl}
use Rattle.std.specs.Prelude.{codes}
use Rattle.aegis_edge.specs.Faults.{one_fault_more}
use Rattle.aegis_edge.specs.MemFolder.{FolderInMemory, file_of, fails_next, after_read, new_folder, with_file}
use Rattle.aegis_edge.specs.MemSink.{SinkInMemory, sink_after_write, fails_on, new_sink}

-- a count stands still at its end
one_fault_more-end : one_fault_more (2 ^ 64 - 1) ≡ 2 ^ 64 - 1
one_fault_more-end = refl

-- a folder with one file, whose second call fails
abbrev folder : FolderInMemory
folder = with_file (new_folder (1 ∷ [])) (codes "word") (codes "abc")

file_of-found : file_of folder (codes "word") ≡ Some (codes "abc")
file_of-found = refl

file_of-missing : file_of folder (codes "wor") ≡ None
file_of-missing = refl

fails_next-first : fails_next folder ≡ false
fails_next-first = refl

fails_next-second : fails_next (after_read folder (codes "word")) ≡ true
fails_next-second = refl

after_read-twice : after_read (after_read folder (codes "word")) (codes "wor") ≡ record folder {
  asked = Some (record { name = codes "word"; faults = 0 } ∷ record { name = codes "wor"; faults = 0 } ∷ []);
  calls = 2;
  faults = 1;
}
after_read-twice = refl

-- a sink of four bytes, whose first call fails at once and whose second fails after two bytes
abbrev sink : SinkInMemory
sink = new_sink 4 ((0, 0) ∷ (1, 2) ∷ (1, 0) ∷ [])

sink_after_write-first : sink_after_write sink (codes "abc") ≡ record sink { calls = 1; faults = 1 }
sink_after_write-first = refl

sink_after_write-second : sink_after_write (sink_after_write sink (codes "abc")) (codes "abc") ≡ record sink { bytes = codes "ab"; calls = 2; faults = 2 }
sink_after_write-second = refl

-- the third call is not listed, and its piece fits or passes the room
abbrev third : SinkInMemory
third = record sink { bytes = codes "ab"; calls = 2; faults = 2 }

sink_after_write-fits : sink_after_write third (codes "cd") ≡ record third { bytes = codes "abcd"; calls = 3 }
sink_after_write-fits = refl

sink_after_write-passes : sink_after_write third (codes "cde") ≡ record third { bytes = codes "abcd"; calls = 3; faults = 3 }
sink_after_write-passes = refl

fails_on-fits : fails_on third (codes "cd") ≡ false
fails_on-fits = refl

fails_on-passes : fails_on third (codes "cde") ≡ true
fails_on-passes = refl
