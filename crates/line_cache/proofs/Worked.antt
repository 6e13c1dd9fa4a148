-- A table of 24 calls, with the order after each worked out by hand. A line is written as its one byte and whether it is dirty.
use Rattle.std.proofs.Common.{◌≡◌, ℕ, true, false, [], ◌∷◌, Some, None, refl}
use Rattle.line_cache.specs.LineOrder.{OrderedLines, blocks_of, line_of, promoted, written, cleaned, without, last_removable, next_victim, is_cache, is_child_of}

-- a new line with this byte
new : ℕ → ℕ → OrderedLines → OrderedLines
new block byte lines = (block, record { payload = byte ∷ []; dirty = false }) ∷ lines

four : OrderedLines
four = new 3 13 (new 2 12 (new 1 11 (new 0 10 [])))

seven : OrderedLines
seven = new 5 15 (new 4 14 (promoted 0 four))

ten : OrderedLines
ten = cleaned 2 (promoted 1 (written seven 2 (22 ∷ [])))

fourteen : OrderedLines
fourteen = promoted 3 (written (new 7 17 (without 5 ten)) 4 (24 ∷ []))

nineteen : OrderedLines
nineteen = cleaned 0 (written (promoted 6 (new 6 16 (without 4 fourteen))) 0 (20 ∷ []))

all : OrderedLines
all = promoted 3 (new 2 32 (promoted 1 (without 2 (without 7 nineteen))))

module _ where
  after_insertions : blocks_of four ≡ 3 ∷ 2 ∷ 1 ∷ 0 ∷ []
  unfolding new four
  after_insertions = refl

  after_touch : blocks_of (promoted 0 four) ≡ 0 ∷ 3 ∷ 2 ∷ 1 ∷ []
  unfolding new four
  after_touch = refl

  after_seven : blocks_of seven ≡ 5 ∷ 4 ∷ 0 ∷ 3 ∷ 2 ∷ 1 ∷ []
  unfolding new four seven
  after_seven = refl

  after_loan : blocks_of (written seven 2 (22 ∷ [])) ≡ 2 ∷ 5 ∷ 4 ∷ 0 ∷ 3 ∷ 1 ∷ []
  unfolding new four seven
  after_loan = refl

  loan_is_dirty : line_of 2 (written seven 2 (22 ∷ [])) ≡ Some (record { payload = 22 ∷ []; dirty = true })
  unfolding new four seven
  loan_is_dirty = refl

  after_ten : blocks_of ten ≡ 1 ∷ 2 ∷ 5 ∷ 4 ∷ 0 ∷ 3 ∷ []
  unfolding new four seven ten
  after_ten = refl

  clean_keeps_payload : line_of 2 ten ≡ Some (record { payload = 22 ∷ []; dirty = false })
  unfolding new four seven ten
  clean_keeps_payload = refl

  after_removal : blocks_of (without 5 ten) ≡ 1 ∷ 2 ∷ 4 ∷ 0 ∷ 3 ∷ []
  unfolding new four seven ten
  after_removal = refl

  after_fourteen : blocks_of fourteen ≡ 3 ∷ 4 ∷ 7 ∷ 1 ∷ 2 ∷ 0 ∷ []
  unfolding new four seven ten fourteen
  after_fourteen = refl

  after_nineteen : nineteen ≡ (0, record { payload = 20 ∷ []; dirty = false }) ∷ (6, record { payload = 16 ∷ []; dirty = false }) ∷ (3, record { payload = 13 ∷ []; dirty = false })
      ∷ (7, record { payload = 17 ∷ []; dirty = false }) ∷ (1, record { payload = 11 ∷ []; dirty = false }) ∷ (2, record { payload = 22 ∷ []; dirty = false }) ∷ []
  unfolding new four seven ten fourteen nineteen
  after_nineteen = refl

  after_all : blocks_of all ≡ 3 ∷ 2 ∷ 1 ∷ 0 ∷ 6 ∷ []
  unfolding new four seven ten fourteen nineteen all
  after_all = refl

  -- block 1 has the child 6, and block 0 has three
  last_of_all : last_removable [] all ≡ Some 6
  unfolding new four seven ten fourteen nineteen all
  last_of_all = refl

  last_with_pins : last_removable (0 ∷ 1 ∷ 6 ∷ []) all ≡ Some 2
  unfolding new four seven ten fourteen nineteen all
  last_with_pins = refl

  none_left : last_removable (0 ∷ 1 ∷ 6 ∷ 2 ∷ 3 ∷ []) all ≡ None
  unfolding new four seven ten fourteen nineteen all
  none_left = refl

  room_is_left : next_victim [] all ≡ None
  unfolding new four seven ten fourteen nineteen all
  room_is_left = refl

  a_cache : is_cache all ≡ true
  unfolding new four seven ten fourteen nineteen all
  a_cache = refl

  -- no list of a cache: a block without its parent, and a block that stands twice
  without_parent : is_cache (without 1 all) ≡ false
  unfolding new four seven ten fourteen nineteen all
  without_parent = refl

  twice : is_cache (new 3 0 all) ≡ false
  unfolding new four seven ten fourteen nineteen all
  twice = refl

  -- what is not held stays away
  touch_of_none : promoted 9 all ≡ all
  unfolding new four seven ten fourteen nineteen all
  touch_of_none = refl

-- the children of block 1 are 4, 5 and 6, and block 0 is no child of itself
children : (is_child_of 1 4 ≡ true) × (is_child_of 1 6 ≡ true) × (is_child_of 1 7 ≡ false) × (is_child_of 1 3 ≡ false) × (is_child_of 0 0 ≡ false) × (is_child_of 0 1 ≡ true)
children = (refl, refl, refl, refl, refl, refl)
