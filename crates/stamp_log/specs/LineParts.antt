-- Device: what a log's lines keep, and what its calls on them do.
use Rattle.std.specs.Prelude.{◌≡◌, ℕ, ◌<◌, ◌≤◌, Bool, true, false, ◌==◌, nat_lt, List, length, slice_index_or, slice_set}
use Rattle.std.specs.List.{list_any, list_all}
use Rattle.stamp_log.specs.LogState.{LogLines}

-- the order has room, and names each block that has a line, and no other block than those of the log
pub record LinesFit (capacity count : ℕ) (order : List ℕ) (held : List Bool) (blocks : ℕ) : Type 0 where
  pub room : 32 ≤ capacity
  pub few : count ≤ 32
  pub size : length held ≡ blocks
  pub listed : (n : ℕ) → slice_index_or held n false ≡ true → list_any (λ m. m == n) order ≡ true
  pub below : list_all (λ m. nat_lt m blocks) order ≡ true

-- a line was removed
pub record RemovesLine (number : ℕ) (before after : LogLines) : Type 0 where
  pub below : number < length before.held
  pub line : slice_index_or before.held number false ≡ true
  pub held : after.held ≡ slice_set before.held number false
