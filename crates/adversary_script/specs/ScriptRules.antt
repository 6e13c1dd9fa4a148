-- Promise: the rules that a script keeps: the changes are in range, in order, and not too many.
use Rattle.std.specs.Prelude.{◌≡◌, ℕ, ◌+◌, ◌≤◌, nat_le, nat_lt, Bool, true, false, ◌&&◌, List, [], ◌∷◌, length, sum_by}
use Rattle.std.specs.List.{list_all}
use Rattle.aegis_num.specs.declared.limits.TheConstants.{MAX_CHANGES, MAX_CHANGE_BYTES, SAVE_SLOTS}
use Rattle.regions.specs.declared.addresses.TheConstants.{OPEN_END, STORED_BLOCK_BYTES}
use Rattle.adversary_script.specs.declared.change.When.{When}
use Rattle.adversary_script.specs.declared.change.When.TheVariants.{Start, At, Suspend}
use Rattle.adversary_script.specs.declared.change.What.{What}
use Rattle.adversary_script.specs.declared.change.What.TheVariants.{Open, Bytes, Save, Back, Copy}
use Rattle.adversary_script.specs.declared.change.Change.{Change}

-- bytes stay among the open ones, or within their block, and a slot is one of those that there are
abbrev pub is_in_range : What → Bool
is_in_range (Open at bytes) = nat_le (at + length bytes) OPEN_END
is_in_range (Bytes target at bytes) = nat_le (at + length bytes) STORED_BLOCK_BYTES
is_in_range (Save slot target) = nat_lt slot SAVE_SLOTS
is_in_range (Back slot target) = nat_lt slot SAVE_SLOTS
is_in_range (Copy from to) = true

-- `start` stands after neither `at` nor `suspend`, and neither stands after a greater number of its kind
abbrev pub may_precede : When → When → Bool
may_precede Start later = true
may_precede (At m) Start = false
may_precede (At m) (At n) = nat_le m n
may_precede (At m) (Suspend k) = true
may_precede (Suspend j) Start = false
may_precede (Suspend j) (At n) = true
may_precede (Suspend j) (Suspend k) = nat_le j k

-- how many bytes a change writes
abbrev pub bytes_written : What → ℕ
bytes_written (Open at bytes) = length bytes
bytes_written (Bytes target at bytes) = length bytes
bytes_written (Save slot target) = 0
bytes_written (Back slot target) = 0
bytes_written (Copy from to) = 0

-- how many bytes all of them write
abbrev pub all_bytes_written : List Change → ℕ
all_bytes_written changes = sum_by (λ change. bytes_written change.what) changes

-- each change may stand after each earlier one
abbrev pub are_in_order : List Change → Bool
are_in_order [] = true
are_in_order (change ∷ changes) = list_all (λ later. may_precede change.when later.when) changes && are_in_order changes

-- the changes of a script
pub record KeepsScriptRules (changes : List Change) : Type 0 where
  pub range : list_all (λ change. is_in_range change.what) changes ≡ true
  pub order : are_in_order changes ≡ true
  pub count : length changes ≤ MAX_CHANGES
  pub bytes : all_bytes_written changes ≤ MAX_CHANGE_BYTES
