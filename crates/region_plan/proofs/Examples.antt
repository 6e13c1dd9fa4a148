-- Cells laid out by hand, each of which computes.
use Rattle.std.proofs.Common.{◌≡◌, ℕ, true, false, List, [], ◌∷◌, map, Some, None, lit≤, refl}
use Rattle.regions.specs.declared.layout.Layout.{Layout}
use Rattle.regions.specs.declared.rights.Class.{Class}
use Rattle.regions.specs.declared.rights.Class.TheVariants.{Open, Verified, Private, Constant, Code, Logged}
use Rattle.ir_code.specs.declared.code.Cell.{Cell}
use Rattle.ir_code.specs.declared.code.Ir.{Ir}
use Rattle.region_plan.specs.declared.error.PlanError.TheVariants.{TreeFull, LogFull, OpenFull}
use Rattle.region_plan.specs.Homes.{is_same_class, class_words, class_blocks, blocks_for, first_address, home_address, word_address}
use Rattle.region_plan.specs.PlanFaults.{data_blocks_for, plan_fault}

abbrev cell : Class → ℕ → Cell
cell class words = record { class = class; words = words; first = [] }

-- ---- homes: two cells of each class, one among those of the others

abbrev mixed : Ir
mixed = record {
  cells = cell Verified 3 ∷ cell Open 2 ∷ cell Logged 16 ∷ cell Private 1 ∷ cell Constant 17 ∷ cell Verified 1 ∷ cell Open 1 ∷ cell Logged 1 ∷ cell Private 4
      ∷ cell Constant 2 ∷ [];
  ops = [];
  entry = 0;
}

-- the layout that it needs, with two blocks of code
abbrev mixed_layout : Layout
mixed_layout = record {
  verified = 1;
  private = 1;
  constants = 2;
  code = 2;
  log = 2;
  shared = 12;
  data_fits = lit≤ tt;
  log_fits = lit≤ tt;
  shared_fits = lit≤ tt;
}

words-in_mixed : map (λ class. class_words class mixed.cells) (Open ∷ Verified ∷ Private ∷ Constant ∷ Code ∷ Logged ∷ []) ≡ 3 ∷ 4 ∷ 5 ∷ 19 ∷ 0 ∷ 17 ∷ []
words-in_mixed = refl

blocks-in_mixed : map (λ class. class_blocks class mixed.cells) (Verified ∷ Private ∷ Constant ∷ Logged ∷ []) ≡ 1 ∷ 1 ∷ 2 ∷ 2 ∷ []
blocks-in_mixed = refl

homes-in_mixed : map (home_address mixed_layout mixed) (0 ∷ 1 ∷ 2 ∷ 3 ∷ 4 ∷ 5 ∷ 6 ∷ 7 ∷ 8 ∷ 9 ∷ [])
    ≡ 0x10000000 ∷ 0x8000 ∷ 0x20000000 ∷ 0x10000040 ∷ 0x10000080 ∷ 0x1000000c ∷ 0x8008 ∷ 0x20000040 ∷ 0x10000044 ∷ 0x100000c4 ∷ []
homes-in_mixed = refl

-- the last word of the first cell comes right before the next cell of its class, and the word after it is no other
last-of_first : word_address mixed_layout mixed 0 2 ≡ 0x10000008
last-of_first = refl

first-addresses : map (first_address mixed_layout) (Open ∷ Verified ∷ Private ∷ Constant ∷ Code ∷ Logged ∷ [])
    ≡ 0x8000 ∷ 0x10000000 ∷ 0x10000040 ∷ 0x10000080 ∷ 0x10000100 ∷ 0x20000000 ∷ []
first-addresses = refl

blocks-rounded : map blocks_for (0 ∷ 1 ∷ 15 ∷ 16 ∷ 17 ∷ 32 ∷ 33 ∷ []) ≡ 0 ∷ 1 ∷ 1 ∷ 1 ∷ 2 ∷ 2 ∷ 3 ∷ []
blocks-rounded = refl

-- ---- each class is itself alone

abbrev classes : List Class
classes = Open ∷ Verified ∷ Private ∷ Constant ∷ Code ∷ Logged ∷ []

classes-apart : map (λ one. map (is_same_class one) classes) classes
    ≡ (true ∷ false ∷ false ∷ false ∷ false ∷ false ∷ [])
    ∷ (false ∷ true ∷ false ∷ false ∷ false ∷ false ∷ [])
    ∷ (false ∷ false ∷ true ∷ false ∷ false ∷ false ∷ [])
    ∷ (false ∷ false ∷ false ∷ true ∷ false ∷ false ∷ [])
    ∷ (false ∷ false ∷ false ∷ false ∷ true ∷ false ∷ [])
    ∷ (false ∷ false ∷ false ∷ false ∷ false ∷ true ∷ [])
    ∷ []
classes-apart = refl

-- ---- limits

-- 104,960 words are 6,560 blocks: with one block of code they fit, and with two they do not
tree-fits : plan_fault (cell Verified 104960 ∷ []) 1 ≡ None
tree-fits = refl

tree-full : plan_fault (cell Verified 104960 ∷ []) 2 ≡ Some (TreeFull 6562)
tree-full = refl

-- each class under the tree begins a block of its own
each-begins : data_blocks_for (cell Verified 1 ∷ cell Private 1 ∷ cell Constant 1 ∷ cell Logged 99 ∷ cell Open 99 ∷ []) 5 ≡ 8
each-begins = refl

log-fits : plan_fault (cell Logged 16384 ∷ []) 1 ≡ None
log-fits = refl

log-full : plan_fault (cell Logged 16384 ∷ cell Logged 1 ∷ []) 1 ≡ Some (LogFull 1025)
log-full = refl

open-fits : plan_fault (cell Open 8192 ∷ []) 1 ≡ None
open-fits = refl

open-full : plan_fault (cell Open 8192 ∷ cell Open 1 ∷ []) 1 ≡ Some (OpenFull 32772)
open-full = refl

-- of several limits the first one is told
tree-first : plan_fault (cell Open 8193 ∷ cell Logged 16385 ∷ cell Constant 104976 ∷ []) 1 ≡ Some (TreeFull 6562)
tree-first = refl

log-next : plan_fault (cell Open 8193 ∷ cell Logged 16385 ∷ cell Constant 104960 ∷ []) 1 ≡ Some (LogFull 1025)
log-next = refl
