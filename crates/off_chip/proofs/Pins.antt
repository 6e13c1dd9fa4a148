-- Worked examples of what a bus tells, of collisions, multisets, resident places and stretches, for where they hold and where not.
use Rattle.std.proofs.Common.{◌≡◌, ◌<◌, ◌≤◌, ℕ, true, false, List, [], ◌∷◌, ◌++◌, length, take, drop, replicate, get_or, Some, None, refl, sym, ap, ◌∙◌, arith, lit≤, lit<}
use Rattle.std.specs.Prelude.{◌^◌}
use Rattle.std.specs.List.{list_all}
use Rattle.std.proofs.lemmas.List.{drop_at, length-replicate}
use Rattle.aegis_num.specs.declared.storage.Block.{Block}
use Rattle.aegis_num.specs.declared.storage.Place.{Place}
use Rattle.aegis_num.specs.declared.storage.Place.TheVariants.{Tree, Log}
use Rattle.regions.specs.declared.layout.Layout.{Layout}
use Rattle.regions.specs.Tree.{height_of}
use Rattle.off_chip.specs.declared.event.Event.{Event}
use Rattle.off_chip.specs.declared.event.Event.TheVariants.{BlockRead, BlockWrite, WordRead, WordWrite, Note}
use Rattle.off_chip.specs.declared.event.Mark.TheVariants.{Enter, Drop, CheckPassed, Suspend, Resume}
use Rattle.off_chip.specs.declared.event.Who.TheVariants.{Secure, Untrusted}
use Rattle.off_chip.specs.Histories.{History, no_event, ◌◂◌}
use Rattle.off_chip.specs.OffChipBytes.{Holds, stored, bytes_at}
use Rattle.off_chip.specs.BusCalls.{HoldsTold, IsMarkInside, TellsOnly, TellsLog}
use Rattle.off_chip.specs.BlockPlaces.{LiesInside}
use Rattle.off_chip.specs.Collisions.{Strings, string_moved, BlockCollision, ProgramCollision, same_entry, SameEntries, sum_of, LogCollision}
use Rattle.off_chip.specs.Boundaries.{enter_events, payloads_entered, IsStretch}
use Rattle.off_chip.specs.Epochs.{LogEntry}
use Rattle.off_chip.specs.Residency.{are_distinct, is_resident, ResidentAtMost}
use Rattle.off_chip.specs.WriteBacks.{Stamped}

-- one verified block, one of constants, one of code and two of the log: the tree is one level high
abbrev layout : Layout
layout = record { verified = 1; private = 0; constants = 1; code = 1; log = 2; shared = 0; data_fits = lit≤ tt; log_fits = lit≤ tt; shared_fits = lit≤ tt }

abbrev larger : Layout
larger = record { verified = 2; private = 0; constants = 1; code = 1; log = 3; shared = 0; data_fits = lit≤ tt; log_fits = lit≤ tt; shared_fits = lit≤ tt }

-- ---- reads of memory

abbrev held : Block
held = record { payload = replicate 64 7; stamp = 0x0102030405060708 }

-- held stands at the first place after the open bytes
abbrev memory : List ℕ
memory = replicate 65536 0 ++ stored held

there : bytes_at 65536 72 memory ≡ stored held
there = ap (λ (xs : List ℕ). take 72 xs) (drop_at (replicate 65536 0) (stored held) 65536 (length-replicate {A = ℕ} 65536 0))

right_read : Holds layout memory (BlockRead (Tree 0) held)
right_read = sym there

-- a wrong last byte of the payload, a wrong stamp, and a block of which the first bytes alone are right
wrong_payload : Holds layout memory (BlockRead (Tree 0) (record { payload = replicate 63 7 ++ 8 ∷ []; stamp = 0x0102030405060708 })) → ⊥
wrong_payload holds = let e : 8 ≡ 7 = ap (λ (xs : List ℕ). get_or xs 63 0) (holds ∙ there) in omega (arith, e)

wrong_stamp : Holds layout memory (BlockRead (Tree 0) (record { payload = replicate 64 7; stamp = 0x0102030405060709 })) → ⊥
wrong_stamp holds = let e : 9 ≡ 8 = ap (λ (xs : List ℕ). get_or xs 71 0) (holds ∙ there) in omega (arith, e)

first_bytes : Holds layout memory (BlockRead (Tree 0) (record { payload = replicate 8 7 ++ replicate 56 0; stamp = 0 })) → ⊥
first_bytes holds = let e : 0 ≡ 7 = ap (λ (xs : List ℕ). get_or xs 8 0) (holds ∙ there) in omega (arith, e)

-- a told memory answers so and not otherwise, and an untold one may answer anything
told_read : HoldsTold (Some layout) (Some (1 ∷ 2 ∷ 3 ∷ 4 ∷ [])) (WordRead Secure 0 0x01020304)
told_read = refl

told_otherwise : HoldsTold (Some layout) (Some (1 ∷ 2 ∷ 3 ∷ 4 ∷ [])) (WordRead Untrusted 0 0x01020305) → ⊥
told_otherwise holds = let e : 5 ≡ 4 = ap (λ (xs : List ℕ). get_or xs 3 0) holds in omega (arith, e)

untold_read : (HoldsTold None (Some (1 ∷ [])) (WordRead Secure 0 9) ≡ Unit {0}) × (HoldsTold (Some layout) None (WordRead Secure 0 9) ≡ Unit {0})
untold_read = (refl, refl)

-- ---- told layouts and places

tells_mine : TellsOnly layout None × TellsOnly layout (Some layout) × TellsLog 2 None × TellsLog 2 (Some layout)
tells_mine = (record { mine = tt }, record { mine = refl }, record { mine = tt }, record { mine = refl })

tells_other : (TellsOnly layout (Some larger) → ⊥) × (TellsLog 2 (Some larger) → ⊥)
tells_other =
    (λ tells. let e : 3 ≡ 2 = ap (λ (l : Layout). l.log) tells.mine in omega (arith, e), λ tells. let e : 3 ≡ 2 = tells.mine in omega (arith, e))

marks : (IsMarkInside (Some layout) (Drop (Log 1)) ≡ 1 < 2) × (IsMarkInside None (Drop (Log 9)) ≡ Unit {0}) × (IsMarkInside (Some layout) Suspend ≡ Unit {0})
marks = (refl, refl, refl)

inside : LiesInside layout (BlockRead (Tree 3) held) × LiesInside layout (Note (Drop (Log 1))) × LiesInside layout (WordWrite Untrusted 0xfffc 9)
unfolding height_of
inside = (
  record { place = lit< tt; address = tt },
  record { place = lit< tt; address = tt },
  record { place = tt; address = record { is_open = lit< tt; aligned = refl } },
)

outside : (LiesInside layout (BlockWrite (Tree 4) held) → ⊥) × (LiesInside layout (Note (Drop (Log 2))) → ⊥) × (LiesInside layout (WordRead Secure 0x10000 9) → ⊥) × (LiesInside layout (WordRead Secure 6 9) → ⊥)
unfolding height_of
outside = (
  λ lies. let lt : 4 < 4 = lies.place in omega (arith, lt),
  λ lies. let lt : 2 < 2 = lies.place in omega (arith, lt),
  λ lies. let lt : 65536 < 65536 = lies.address.is_open in omega (arith, lt),
  λ lies. let e : 2 ≡ 0 = lies.address.aligned in omega (arith, e),
)

-- ---- entering

abbrev byte : ℕ → Block
byte b = record { payload = b ∷ []; stamp = 0 }

-- nine events: the mark, two reads, four writes of the tree and two of the log. A later read is none of entering
entered : (enter_events layout ≡ 9)
    × (payloads_entered layout (Note Enter ∷ BlockRead (Tree 2) (byte 5) ∷ BlockRead (Tree 3) (byte 6) ∷ (replicate 6 (BlockWrite (Tree 0) (byte 7)) ++ BlockRead (Tree 0) (byte 8) ∷ []))
    ≡ (5 ∷ []) ∷ (6 ∷ []) ∷ [])
unfolding height_of
entered = (refl, refl)

-- ---- resident places

abbrev two_resident : History
two_resident = BlockRead (Log 0) (byte 1) ◂ BlockRead (Tree 0) (byte 1) ◂ no_event

not_at_most_one : ResidentAtMost 1 two_resident → ⊥
not_at_most_one most = let le : 2 ≤ 1 = most.few (Tree 0 ∷ Log 0 ∷ []) refl refl in omega (arith, le)

-- one place twice is no list of distinct places
distinct : (are_distinct (Tree 0 ∷ Log 0 ∷ Tree 1 ∷ []) ≡ true) × (are_distinct (Tree 0 ∷ Log 0 ∷ Tree 0 ∷ []) ≡ false) × (are_distinct (Log 4 ∷ Log 4 ∷ []) ≡ false)
distinct = (refl, refl, refl)

none_resident : ResidentAtMost 0 no_event
none_resident = record { few = few }
  where
    few : (places : List Place) → are_distinct places ≡ true → list_all (λ place. is_resident place no_event) places ≡ true → length places ≤ 0
    few [] apart all = omega arith
    few (place ∷ places) apart all = cc

-- ---- collisions

abbrev strings : Strings
strings = record { digest = λ text. length text ∷ []; block = λ n block. n ∷ block.payload; program = λ payloads. length payloads ∷ [] }

moved : (string_moved strings (BlockRead (Tree 1) (byte 5)) ≡ Some (1 ∷ 5 ∷ [])) × (string_moved strings (BlockWrite (Log 1) (byte 5)) ≡ None) × (string_moved strings (Note Enter) ≡ None)
moved = (refl, refl, refl)

abbrev moves : List Event
moves = BlockRead (Tree 1) (byte 5) ∷ BlockRead (Log 1) (byte 5) ∷ BlockWrite (Tree 2) (byte 5) ∷ BlockRead (Tree 1) (byte 5) ∷ []

blocks_collide : BlockCollision strings moves 0 2
blocks_collide = record {
  first_event = BlockRead (Tree 1) (byte 5);
  second_event = BlockWrite (Tree 2) (byte 5);
  at_first = refl;
  at_second = refl;
  string = 1 ∷ 5 ∷ [];
  other = 2 ∷ 5 ∷ [];
  of_first = refl;
  of_second = refl;
  differ = λ same. let e : 1 ≡ 2 = ap (λ (xs : List ℕ). get_or xs 0 0) same in omega (arith, e);
  same = refl;
}

-- one block twice is no collision, and a block of the log is in none
no_collision : (BlockCollision strings moves 0 3 → ⊥) × (BlockCollision strings moves 0 1 → ⊥)
no_collision = (
  λ c.
      let first : BlockRead (Tree 1) (byte 5) ≡ c.first_event = some_same c.at_first in
      let second : BlockRead (Tree 1) (byte 5) ≡ c.second_event = some_same c.at_second in
      let e : c.string ≡ c.other =
      some_same (sym c.of_first ∙ ap (λ (x : Event). string_moved strings x) (sym first ∙ second) ∙ c.of_second) in
      c.differ e,
  λ c.
      let second : BlockRead (Log 1) (byte 5) ≡ c.second_event = some_same c.at_second in
      let e : None ≡ Some c.other = ap (λ (x : Event). string_moved strings x) second ∙ c.of_second in
      cc,
)
  where
    some_same : {X : Type 0} {x y : X} → Some x ≡ Some y → x ≡ y
    some_same same = cc

abbrev entry : ℕ → ℕ → ℕ → LogEntry
entry n payload stamp = record { number = n; payload = payload ∷ []; stamp = stamp }

same_entries : (same_entry (entry 1 2 3) (entry 1 2 3) ≡ true) × (same_entry (entry 1 2 3) (entry 0 2 3) ≡ false) × (same_entry (entry 1 2 3) (entry 1 0 3) ≡ false) × (same_entry (entry 1 2 3) (entry 1 2 0) ≡ false)
same_entries = (refl, refl, refl, refl)

-- as often, and not only as many or with one sum
other_entries : (SameEntries (entry 1 2 3 ∷ entry 1 2 3 ∷ entry 0 0 0 ∷ []) (entry 1 2 3 ∷ entry 0 0 0 ∷ entry 0 0 0 ∷ []) → ⊥)
    × (SameEntries (entry 1 2 3 ∷ []) (entry 1 2 4 ∷ []) → ⊥) × (SameEntries [] (entry 1 2 4 ∷ []) → ⊥)
other_entries = (
  λ same. let e : 2 ≡ 1 = same.counts (entry 1 2 3) in omega (arith, e),
  λ same. let e : 1 ≡ 0 = same.counts (entry 1 2 3) in omega (arith, e),
  λ same. let e : 0 ≡ 1 = same.counts (entry 1 2 4) in omega (arith, e),
)

sums : (sum_of (λ e. e.stamp) (entry 1 2 3 ∷ entry 1 2 4 ∷ []) ≡ record { number = 2; total = 7 })
    × (sum_of (λ e. 2 ^ 127) (entry 1 2 3 ∷ entry 1 2 4 ∷ []) ≡ record { number = 2; total = 0 })
sums = (refl, refl)

-- the block that was read is another one than the block that was written, and all entries have the value 5
abbrev checked : List Event
checked = BlockWrite (Log 1) (byte 5) ∷ BlockRead (Log 1) (byte 6) ∷ Note CheckPassed ∷ []

sums_collide : LogCollision (λ e. 5) checked 2
sums_collide = record {
  before = take 2 checked;
  rest = [];
  parts = refl;
  counted = refl;
  differ = λ same. let e : 1 ≡ 0 = same.counts (entry 1 5 0) in omega (arith, e);
  same = refl;
}

-- the program that was read at entering has other payloads, and a digest of one byte is the same for both
programs_collide : ProgramCollision strings layout ((5 ∷ []) ∷ []) (Note Enter ∷ BlockRead (Tree 2) (byte 5) ∷ BlockRead (Tree 3) (byte 6) ∷ [])
unfolding height_of
programs_collide = record { differ = λ same. let e : 1 ≡ 2 = ap (λ (xs : List ℕ). get_or xs 0 0) same in omega (arith, e); same = refl }

-- ---- stretches and stamps

abbrev suspended : List Event
suspended = Note Suspend ∷ Note Resume ∷ Note Enter ∷ Note Suspend ∷ WordWrite Untrusted 8 1 ∷ Note Resume ∷ Note Resume ∷ []

stretches : IsStretch suspended 0 [] × IsStretch suspended 1 (WordWrite Untrusted 8 1 ∷ [])
stretches = (
  record { before = []; rest = drop 2 suspended; parts = refl; counted = refl; not_over = refl },
  record { before = take 3 suspended; rest = Note Resume ∷ []; parts = refl; counted = refl; not_over = refl },
)

stamped : (Stamped (BlockWrite (Log 1) (record { payload = []; stamp = 2 }) ∷ []) → ⊥) × (Stamped (BlockWrite (Log 1) (record { payload = []; stamp = 0 }) ∷ []) → ⊥)
stamped = (λ all. let e : 2 ≡ 1 = all.each 0 2 refl in omega (arith, e), λ all. let e : 0 ≡ 1 = all.each 0 0 refl in omega (arith, e))
