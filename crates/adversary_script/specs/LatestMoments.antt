-- Device: what is remembered of earlier changes, so that the next one can be tested at once.
use Rattle.std.specs.Prelude.{◌≡◌, ℕ, nat_le, Bool, true, ◌&&◌, List, Option, None, Some, is_none}
use Rattle.std.specs.List.{list_all}
use Rattle.adversary_script.specs.declared.change.When.{When}
use Rattle.adversary_script.specs.declared.change.When.TheVariants.{Start, At, Suspend}
use Rattle.adversary_script.specs.declared.change.Change.{Change}
use Rattle.adversary_script.specs.declared.latest.Latest.{Latest}
use Rattle.adversary_script.specs.ScriptRules.{may_precede, all_bytes_written, KeepsScriptRules}

-- the last number, if there is one, is not above this one
abbrev pub reaches : Option ℕ → ℕ → Bool
reaches None n = true
reaches (Some m) n = nat_le m n

-- whether a change at this moment is in order after the latest ones
abbrev pub allows : Latest → When → Bool
allows latest Start = is_none latest.at && is_none latest.suspend
allows latest (At n) = reaches latest.at n
allows latest (Suspend k) = reaches latest.suspend k

-- the latest moments once this one is among them
abbrev pub latest_with : Latest → When → Latest
latest_with latest Start = latest
latest_with latest (At n) = record latest { at = Some n }
latest_with latest (Suspend k) = record latest { suspend = Some k }

-- the changes keep the rules, and these are their latest moments and the number of their bytes
pub record IsDraft (changes : List Change) (latest : Latest) (bytes : ℕ) : Type 0 where
  pub rules : KeepsScriptRules changes
  pub order : (when : When) → list_all (λ earlier. may_precede earlier.when when) changes ≡ allows latest when
  pub count : all_bytes_written changes ≡ bytes
