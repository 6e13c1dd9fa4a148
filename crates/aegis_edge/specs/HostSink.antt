-- Promise: a sink over a writer of the host.
use Rattle.std.specs.Prelude.{ℕ, List, take, Option}
use Rattle.std.specs.Io.KnownBytes.{Appends}

-- the bytes that the writer holds, where it tells them, and how many faults there were
pub record SinkOfHost : Type 0 where
  pub contents : Option (List ℕ)
  pub faults : ℕ

-- a writer that tells its bytes took a front of these
abbrev pub TakesFront : Option (List ℕ) → Option (List ℕ) → List ℕ → Type 0
TakesFront old new piece = (count : ℕ) × Appends old new (take count piece)
