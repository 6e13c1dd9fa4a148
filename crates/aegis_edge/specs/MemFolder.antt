-- Promise: a folder in memory: its files, the names that it was asked for, and the calls of `read` that fail.
use Rattle.std.specs.Prelude.{ℕ, Bool, ◌==◌, ◌&&◌, nat_le, nat_lt, List, [], ◌∷◌, ◌++◌, length, Option, None, Some, if◌then◌else◌}
use Rattle.std.specs.List.{list_any}
use Rattle.std.specs.Map.{lookup}
use Rattle.std.specs.Str.{bytes_eq}
use Rattle.aegis_edge.specs.Faults.{one_fault_more}
use Rattle.aegis_edge.specs.Folder.{Asking}
use Rattle.aegis_edge.specs.declared.mem_folder.TheConstants.{NAME_BYTES, NAMES_KEPT}

-- each file's name and bytes, the names asked for, the numbers of the calls that fail, and how many calls and faults there were
pub record FolderInMemory : Type 0 where
  pub entries : List (List ℕ × List ℕ)
  pub asked : Option (List Asking)
  pub failing : List ℕ
  pub calls : ℕ
  pub faults : ℕ

-- a new folder, which has no file and was asked for none
abbrev pub new_folder : List ℕ → FolderInMemory
new_folder failing = record { entries = []; asked = Some []; failing = failing; calls = 0; faults = 0 }

-- the bytes of the file of a name, where there is one
abbrev pub file_of : FolderInMemory → List ℕ → Option (List ℕ)
file_of folder name = lookup (bytes_eq name) folder.entries

-- the folder with one file more
abbrev pub with_file : FolderInMemory → List ℕ → List ℕ → FolderInMemory
with_file folder name bytes = record folder { entries = folder.entries ++ (name, bytes) ∷ [] }

-- the coming call of `read` is one that fails
abbrev pub fails_next : FolderInMemory → Bool
fails_next folder = list_any (λ number. number == folder.calls) folder.failing

-- the names asked for, with one more; a name that is too long, or one too many, is not told, and none is from then on
abbrev pub with_asking : Option (List Asking) → List ℕ → ℕ → Option (List Asking)
with_asking None name faults = None
with_asking (Some asked) name faults =
    if nat_le (length name) NAME_BYTES && nat_lt (length asked) NAMES_KEPT
    then Some (asked ++ record { name = name; faults = faults } ∷ [])
    else None

-- the folder after a call of `read` for a name: one call more, and one fault more where the call is one that fails
abbrev pub after_read : FolderInMemory → List ℕ → FolderInMemory
after_read folder name = record folder {
  asked = with_asking folder.asked name folder.faults;
  calls = one_fault_more folder.calls;
  faults = (if fails_next folder then one_fault_more folder.faults else folder.faults);
}
