use Rattle.std.proofs.Common.{◌≡◌, map, drop}
use Rattle.std.specs.Map.{lookup}
use Rattle.std.specs.Str.{bytes_eq}
use Rattle.aegis_edge.specs.MemFile.{file_entry}
use Rattle.aegis_edge.proofs.mem_folder.find.Given as goal

-- what the files that are left hold under the name is what all files hold
abbrev pub invariant-loop-file : goal.invariant-loop-file
invariant-loop-file l =
    lookup (bytes_eq l.name) (map file_entry l.files) ≡ lookup (bytes_eq l.name) (map file_entry (drop l.file-index l.files))
