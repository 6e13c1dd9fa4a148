-- Device: a file in memory as a pair, and what the folder keeps of a name that it was asked for.
use Rattle.std.specs.Prelude.{ℕ, Bool, List, map, Option, None, Some, string_bytes, if◌then◌else◌}
use Rattle.aegis_edge.specs.Folder.{Asking}
use Rattle.aegis_edge.specs.declared.mem_folder.MemFile.{MemFile}
use Rattle.aegis_edge.specs.declared.mem_folder.Asked.{Asked}

-- a file's name and bytes
abbrev pub file_entry : MemFile → List ℕ × List ℕ
file_entry file = (string_bytes file.name, file.bytes.items)

-- a name that was asked for, as a folder tells it
abbrev pub asking_of : Asked → Asking
asking_of asked = record { name = asked.name.bytes; faults = asked.faults }

-- the names asked for, where they are told
abbrev pub askings_of : Bool → List Asked → Option (List Asking)
askings_of is_told asked = if is_told then Some (map asking_of asked) else None
