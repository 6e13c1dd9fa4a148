-- Device: what a count of words by their classes tells.
use Rattle.std.specs.Prelude.{◌≡◌, ℕ, ◌≤◌, ◌*◌, ◌^◌, false, List, Option, Some, None, Result, Ok, Err}
use Rattle.regions.specs.declared.layout.Layout.{Layout}
use Rattle.regions.specs.declared.rights.Class.{Class}
use Rattle.regions.specs.declared.rights.Class.TheVariants.{Open, Verified, Private, Constant, Code, Logged}
use Rattle.ir_code.specs.declared.code.Cell.{Cell}
use Rattle.ir_code.specs.Lawful.{is_code}
use Rattle.region_plan.specs.declared.counts.WordCounts.{WordCounts}
use Rattle.region_plan.specs.declared.error.PlanError.{PlanError}
use Rattle.region_plan.specs.Homes.{class_words, blocks_for}

-- how many words of a class were counted
abbrev pub word_count : WordCounts → Class → ℕ
word_count counts Open = counts.open
word_count counts Verified = counts.verified
word_count counts Private = counts.private
word_count counts Constant = counts.constants
word_count counts Logged = counts.logged
word_count counts Code = 0

-- the words of these cells were counted
abbrev pub CountsCells : WordCounts → List Cell → Type 0
CountsCells counts cells = (class : Class) → is_code class ≡ false → word_count counts class ≡ class_words class cells

-- and none has more words than a number can tell
abbrev pub IsWithin : WordCounts → ℕ → Type 0
IsWithin counts cells = (class : Class) → word_count counts class ≤ cells * 2 ^ 32

-- the layout has the blocks and the bytes that so many words take
pub record HasCounts (layout : Layout) (counts : WordCounts) (code_blocks : ℕ) : Type 0 where
  pub verified : layout.verified ≡ blocks_for counts.verified
  pub private : layout.private ≡ blocks_for counts.private
  pub constants : layout.constants ≡ blocks_for counts.constants
  pub code : layout.code ≡ code_blocks
  pub log : layout.log ≡ blocks_for counts.logged
  pub shared : layout.shared ≡ 4 * counts.open

-- the fault that an answer tells
abbrev pub told_fault : {A : Type 0} → Result A PlanError → Option PlanError
told_fault (Ok found) = None
told_fault (Err fault) = Some fault
