-- Promise: a folder of the host.
use Rattle.std.specs.Prelude.{◌≡◌, ℕ, ◌<◌, List, length, Option, Result, Ok, Err, IfSome}
use Rattle.aegis_edge.specs.Faults.{one_fault_more}
use Rattle.aegis_edge.specs.declared.folder.FolderError.{FolderError}
use Rattle.aegis_edge.specs.declared.folder.FolderError.TheVariants.{Missing, Failed, TooLong, OutOfMemory}

-- how many faults there were
pub record FolderOfHost : Type 0 where
  pub faults : ℕ

-- the count of faults after an answer: one more after each refusal but want of memory
abbrev pub faults_after : {T : Type 0} → ℕ → Result T FolderError → ℕ
faults_after before (Ok _) = before
faults_after before (Err OutOfMemory) = before
faults_after before (Err Missing) = one_fault_more before
faults_after before (Err Failed) = one_fault_more before
faults_after before (Err TooLong) = one_fault_more before

-- these are all the bytes of some reader, where it tells them
abbrev pub IsWholeOfOne : {F : Type 0} → (F → Option (List ℕ)) → List ℕ → Type 0
IsWholeOfOne {F} remaining bytes = (file : F) × IfSome (remaining file) (λ whole. bytes ≡ whole)

-- some reader has more bytes than the limit, where it tells them
abbrev pub IsPassedByOne : {F : Type 0} → (F → Option (List ℕ)) → ℕ → Type 0
IsPassedByOne {F} remaining limit = (file : F) × IfSome (remaining file) (λ whole. limit < length whole)
