-- Promise: a program whose payloads are taken in one after another.
use Rattle.std.specs.Prelude.{◌≡◌, ℕ, List, ◌∷◌, ◌++◌, length}
use Rattle.std.specs.List.{concat}
use Rattle.std.specs.Int.{w32, to_be_bytes}
use Rattle.sha1.specs.declared.Sha1.{Sha1}
use Rattle.sha1.specs.Sha1.{Holds}
use Rattle.block_hash.specs.declared.strings.TheConstants.{PROGRAM_TAG}

-- how many payloads the program has, how many were taken in, and the digest of what was taken in so far
pub record ProgramParts : Type 0 where
  pub blocks : ℕ
  pub added : ℕ
  pub kept : Sha1

-- these payloads were taken in so far, in this order
pub record HasTaken (program : ProgramParts) (payloads : List (List ℕ)) : Type 0 where
  pub count : length payloads ≡ program.added
  pub holds : Holds program.kept (PROGRAM_TAG ∷ to_be_bytes w32 program.blocks ++ concat payloads)
