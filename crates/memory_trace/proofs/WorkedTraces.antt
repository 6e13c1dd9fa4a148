-- A trace of a tree of a node and three data blocks, and of a log of one block, and what each definition says of it. The answers were worked
-- out by hand. In this tree a digest is the number of the block and its stamp, so that two payloads have one digest.
use Rattle.std.proofs.Common.{◌≡◌, ◌≢◌, ℕ, zero, suc, ◌-◌, ◌*◌, ◌/◌, ◌<◌, true, false, List, [], ◌∷◌, ◌++◌, length, take, replicate, Option, Some, None, refl, sym, ap, ◌∙◌, subst, inr, lit≤, lit<, arith, rules, get_or, length-append}
use Rattle.std.specs.Prelude.{IfSome, slice_get}
use Rattle.aegis_num.specs.declared.Block.{Block}
use Rattle.aegis_num.specs.declared.Place.{Place}
use Rattle.aegis_num.specs.declared.Place.TheVariants.{Tree, Log}
use Rattle.regions.specs.declared.Layout.{Layout}
use Rattle.regions.specs.Tree.{height_of, tree_blocks}
use Rattle.off_chip.specs.declared.Event.{Event}
use Rattle.off_chip.specs.declared.Event.TheVariants.{BlockRead, BlockWrite, WordRead, WordWrite, Note}
use Rattle.off_chip.specs.declared.Mark.TheVariants.{Drop, Enter, CheckStart}
use Rattle.off_chip.specs.declared.Who.TheVariants.{Secure, Untrusted}
use Rattle.off_chip.specs.Boundaries.{enter_events}
use Rattle.off_chip.specs.Collisions.{BlockCollision, Strings, string_moved}
use Rattle.off_chip.specs.ExpectedDigests.{Digests, expected_digest}
use Rattle.off_chip.specs.Histories.{no_event, ◌◂◌, history}
use Rattle.off_chip.specs.HonestMemory.{IsWhole, moved_block}
use Rattle.off_chip.specs.OffChipBytes.{bytes_at}
use Rattle.hash_tree.specs.HashTrees.{digests_of}
use Rattle.memory_trace.specs.KeptTraces.{StopsAtLog, StopsAtTree}
use Rattle.memory_trace.specs.SoundTraces.{Honest, IsClean, IsSound}
use Rattle.memory_trace.proofs.CleanLemmas.{IsOfWritten, of_written-more, tells-write}
use Rattle.memory_trace.specs.TracedEvents.{PlacesInside, ReadsExpected, TreeFaithfulFrom}

abbrev pub layout : Layout
layout = record { verified = 1; private = 0; constants = 0; code = 1; log = 1; shared = 0; data_fits = lit≤ tt; log_fits = lit≤ tt; shared_fits = lit≤ tt }

-- four blocks of the tree, and seven events of entering
sizes : (tree_blocks layout ≡ 4) × (enter_events layout ≡ 7)
unfolding height_of
sizes = (refl, refl)

abbrev tree : Digests
tree = record { digest = λ n block. n ∷ block.stamp ∷ []; parent = λ n. (n - 1) / 3; slot = λ n payload. bytes_at (2 * (n - 1)) 2 payload }

abbrev strings : Strings
strings = record { digest = take 2; block = λ n block. n ∷ block.stamp ∷ block.payload; program = λ payloads. [] }

abbrev pub leaf : ℕ → ℕ → Block
leaf byte stamp = record { payload = byte ∷ replicate 63 0; stamp = stamp }

abbrev pub node : List ℕ → ℕ → Block
node digests stamp = record { payload = digests ++ replicate 58 0; stamp = stamp }

-- the program is entered, whose one static block is read from the load, with whatever stamp; then the node and block 1 are read, and log block 0
abbrev pub entering : List Event
entering =
    Note Enter
    ∷ BlockWrite (Tree 1) (leaf 11 1)
    ∷ BlockRead (Tree 2) (leaf 12 9)
    ∷ BlockWrite (Tree 2) (leaf 12 2)
    ∷ BlockWrite (Tree 3) (leaf 13 3)
    ∷ BlockWrite (Tree 0) (node (1 ∷ 1 ∷ 2 ∷ 2 ∷ 3 ∷ 3 ∷ []) 4)
    ∷ BlockWrite (Log 0) (leaf 0 5)
    ∷ []

abbrev pub loading : List Event
loading =
    BlockRead (Tree 0) (node (1 ∷ 1 ∷ 2 ∷ 2 ∷ 3 ∷ 3 ∷ []) 4)
    ∷ BlockRead (Tree 1) (leaf 11 1)
    ∷ BlockRead (Log 0) (leaf 0 5)
    ∷ []

abbrev pub loaded : List Event
loaded = entering ++ loading

-- then block 1 is written back, and the node is dropped
abbrev pub leaving : List Event
leaving = loaded ++ BlockWrite (Tree 1) (leaf 14 6) ∷ Note (Drop (Tree 0)) ∷ []

no-list : (xs : List ℕ) → None ≡ Some xs → ⊥
no-list xs same = cc

second : (xs ys : List ℕ) → Some xs ≡ Some ys → get_or xs 1 0 ≡ get_or ys 1 0
second xs ys same = let e : xs ≡ ys = cc in ap (λ (zs : List ℕ). get_or zs 1 0) e

-- ---- expected digests

expected : ReadsExpected tree 7 (history loaded)
expected = record { each = search (rules, arith) }

-- what is read while the program is entered has no expected digest
expected-entering : ReadsExpected tree 2 (history loaded) → ⊥
expected-entering reads = no-list (2 ∷ 9 ∷ []) (reads.each.0.0.0.0.0.0.0.1 (lit≤ tt))

-- a block with another stamp, and one with another payload, which has the same digest here
expected-stamp : ReadsExpected tree 7 (BlockRead (Tree 1) (leaf 11 2) ◂ history loaded) → ⊥
expected-stamp reads = let e : ◌≡◌ {A = ℕ} 1 2 = second (1 ∷ 1 ∷ []) (1 ∷ 2 ∷ []) (reads.each.1 (lit≤ tt)) in omega (arith, e)

expected-payload : ReadsExpected tree 7 (BlockRead (Tree 1) (leaf 12 1) ◂ history loaded)
expected-payload = record { each = (expected.each, λ from. refl) }

-- after another node was read its slots are expected
expected-slot : ReadsExpected tree 7 (BlockRead (Tree 1) (leaf 11 5) ◂ BlockRead (Tree 0) (node (1 ∷ 5 ∷ 2 ∷ 2 ∷ 3 ∷ 3 ∷ []) 4) ◂ history loaded)
expected-slot = record { each = ((expected.each, λ from. refl), λ from. refl) }

-- reads of the log do not count
expected-log : ReadsExpected tree 7 (BlockRead (Log 0) (leaf 9 9) ◂ history loaded)
expected-log = record { each = (expected.each, λ from. tt) }

-- ---- faithful reads

abbrev no_image : Place → Option (List ℕ)
no_image place = None

faithful : TreeFaithfulFrom no_image 7 (history loaded)
faithful = record { each = search (rules, arith) }

faithful-entering : TreeFaithfulFrom no_image 2 (history loaded) → ⊥
faithful-entering reads = let e : false ≡ true = reads.each.0.0.0.0.0.0.0.1 (lit≤ tt) in cc

-- the same digest is not enough
faithful-payload : TreeFaithfulFrom no_image 7 (BlockRead (Tree 1) (leaf 12 1) ◂ history loaded) → ⊥
faithful-payload reads = let e : false ≡ true = reads.each.1 (lit≤ tt) in cc

-- the last write counts
faithful-older : TreeFaithfulFrom no_image 7 (BlockRead (Tree 1) (leaf 11 1) ◂ history leaving) → ⊥
faithful-older reads = let e : false ≡ true = reads.each.1 (lit≤ tt) in cc

faithful-log : TreeFaithfulFrom no_image 7 (BlockRead (Log 0) (leaf 9 9) ◂ history loaded)
faithful-log = record { each = (faithful.each, λ from. tt) }

-- ---- places

inside : PlacesInside layout (history leaving)
unfolding height_of
inside = record { each = search (rules, arith) }

-- words name no place
inside-word : PlacesInside layout (WordWrite Untrusted 4 7 ◂ WordRead Secure 0 1 ◂ Note CheckStart ◂ history leaving)
inside-word = record { each = (((inside.each, tt), tt), tt) }

-- block 4 of the tree, and block 1 of the log, are none
outside-read : PlacesInside layout (BlockRead (Tree 4) (leaf 1 1) ◂ history leaving) → ⊥
unfolding height_of
outside-read names = let less : 4 < 4 = names.each.1 in omega (arith, less)

outside-write : PlacesInside layout (BlockWrite (Log 1) (leaf 1 1) ◂ history leaving) → ⊥
outside-write names = let less : 1 < 1 = names.each.1 in omega (arith, less)

outside-drop : PlacesInside layout (Note (Drop (Tree 4)) ◂ history leaving) → ⊥
unfolding height_of
outside-drop names = let less : 4 < 4 = names.each.1 in omega (arith, less)

-- ---- collisions

-- one block, written once
clean-one : IsClean strings (BlockWrite (Tree 1) (leaf 11 1) ∷ [])
clean-one = record { none = λ first second c. by first second c c.at_first c.at_second; whole = record { each = λ before event rest same. one before event rest same } }
  where
    by : (first second : ℕ) → (c : BlockCollision strings (BlockWrite (Tree 1) (leaf 11 1) ∷ []) first second)
        → slice_get (BlockWrite (Tree 1) (leaf 11 1) ∷ []) first ≡ Some c.first_event → slice_get (BlockWrite (Tree 1) (leaf 11 1) ∷ []) second ≡ Some c.second_event → ⊥
    by zero zero c at_first at_second =
        let a : BlockWrite (Tree 1) (leaf 11 1) ≡ c.first_event = cc in
        let b : BlockWrite (Tree 1) (leaf 11 1) ≡ c.second_event = cc in
        let e : Some c.string ≡ Some c.other = sym c.of_first ∙ ap (λ (e : Event). string_moved strings e) (sym a ∙ b) ∙ c.of_second in
        let f : c.string ≡ c.other = cc in c.differ f
    by zero (suc second) c at_first at_second = cc
    by (suc first) second c at_first at_second = cc

    one : (before : List Event) (event : Event) (rest : List Event) → BlockWrite (Tree 1) (leaf 11 1) ∷ [] ≡ before ++ event ∷ rest → IfSome (moved_block event) IsWhole
    one [] event rest same =
        let e : BlockWrite (Tree 1) (leaf 11 1) ≡ event = cc in
        subst (λ (v : Event). IfSome (moved_block v) IsWhole) e (record { payload = refl; stamp = lit< tt })
    one (x ∷ []) event rest same = let e : [] ≡ event ∷ rest = cc in cc
    one (x ∷ y ∷ before) event rest same = let e : [] ≡ y ∷ (before ++ event ∷ rest) = cc in cc

-- two payloads with one digest
collides : IsClean strings (BlockWrite (Tree 1) (leaf 11 1) ∷ BlockRead (Tree 1) (leaf 12 1) ∷ []) → ⊥
collides clean = clean.none 0 1 (record {
  first_event = BlockWrite (Tree 1) (leaf 11 1);
  second_event = BlockRead (Tree 1) (leaf 12 1);
  at_first = refl;
  at_second = refl;
  string = 1 ∷ 1 ∷ (leaf 11 1).payload;
  other = 1 ∷ 1 ∷ (leaf 12 1).payload;
  of_first = refl;
  of_second = refl;
  differ = λ same. let e : ◌≡◌ {A = ℕ} 11 12 = cc in omega (arith, e);
  same = refl;
})

-- a block that lacks bytes, which no bus gives
broken : IsClean strings (BlockRead (Log 0) (record { payload = []; stamp = 1 }) ∷ []) → ⊥
broken clean = let e : ◌≡◌ {A = ℕ} 0 64 = (clean.whole.each [] (BlockRead (Log 0) (record { payload = []; stamp = 1 })) [] refl).payload in omega (arith, e)

-- ---- honest traces

honest : Honest tree 4 7 loaded
honest = record { faithful = λ image. record { each = search (rules, arith) }; written = by }
  where
    by : (n : ℕ) → n < 4 → IsOfWritten tree n (history loaded)
    by zero below = refl
    by (suc zero) below = refl
    by (suc (suc zero)) below = refl
    by (suc (suc (suc zero))) below = refl
    by (suc (suc (suc (suc n)))) below = let no_such : ⊥ = omega (arith, below) in absurd no_such

-- a node was read that has another slot for block 3
honest-slot : Honest tree 4 7 (loaded ++ BlockRead (Tree 0) (node (1 ∷ 1 ∷ 2 ∷ 2 ∷ 3 ∷ 7 ∷ []) 4) ∷ []) → ⊥
honest-slot is = let e : ◌≡◌ {A = ℕ} 7 3 = second (3 ∷ 7 ∷ []) (3 ∷ 3 ∷ []) (is.written 3 (lit< tt)) in omega (arith, e)

honest-read : Honest tree 4 7 (loaded ++ BlockRead (Tree 2) (leaf 13 2) ∷ []) → ⊥
honest-read is = let e : false ≡ true = (is.faithful no_image).each.1 (lit≤ tt) in cc

-- ---- sound traces, and how they end

-- a trace at no place of the tree
abbrev logged : List Event
logged = BlockWrite (Log 0) (leaf 0 1) ∷ BlockRead (Log 0) (leaf 0 9) ∷ []

logged-sound : IsSound layout logged
unfolding height_of
logged-sound = record {
  expected = record { each = search (rules, arith) };
  honest = λ clean. record { faithful = λ image. record { each = search (rules, arith) }; written = by };
  inside = record { each = search (rules, arith) };
}
  where
    no_read : (p : ℕ) (block : Block) → BlockRead (Log 0) (leaf 0 9) ≢ BlockRead (Tree p) block
    no_read p block same = cc

    no_write : (p : ℕ) (block : Block) → BlockWrite (Log 0) (leaf 0 1) ≢ BlockRead (Tree p) block
    no_write p block same = cc

    by : (n : ℕ) → n < 4 → IsOfWritten (digests_of layout) n (history logged)
    by n below =
        of_written-more (digests_of layout) n (BlockRead (Log 0) (leaf 0 9)) (history (BlockWrite (Log 0) (leaf 0 1) ∷ []))
        (tells-write (digests_of layout) n (BlockRead (Log 0) (leaf 0 9)) (inr (no_read ((digests_of layout).parent n))))
        (of_written-more (digests_of layout) n (BlockWrite (Log 0) (leaf 0 1)) no_event
        (tells-write (digests_of layout) n (BlockWrite (Log 0) (leaf 0 1)) (inr (no_write ((digests_of layout).parent n)))) refl)

-- the read has stamp 9 after one block write
logged-stops : StopsAtLog layout logged 1
logged-stops = record {
  sound = logged-sound;
  future = record { before = BlockWrite (Log 0) (leaf 0 1) ∷ []; n = 0; block = leaf 0 9; last = refl; number = refl; above = lit< tt };
}

-- another event number, and a trace that ends otherwise
logged-number : StopsAtLog layout logged 2 → ⊥
logged-number stops =
    let size = ap (λ (t : List Event). length t) stops.future.last in
    omega (arith, stops.future.number, size, length-append stops.future.before (BlockRead (Log stops.future.n) stops.future.block ∷ []))

written-last : StopsAtLog layout (BlockWrite (Log 0) (leaf 0 1) ∷ []) 0 → ⊥
written-last stops = by stops.future.before stops.future.n stops.future.block stops.future.last
  where
    by : (before : List Event) (n : ℕ) (block : Block) → BlockWrite (Log 0) (leaf 0 1) ∷ [] ≡ before ++ BlockRead (Log n) block ∷ [] → ⊥
    by [] n block same = cc
    by (x ∷ []) n block same = let e : [] ≡ BlockRead (Log n) block ∷ [] = cc in cc
    by (x ∷ y ∷ before) n block same = let e : [] ≡ y ∷ (before ++ BlockRead (Log n) block ∷ []) = cc in cc

-- no trace stops at the tree that does not end with a read of it
log-no_stop : StopsAtTree layout (BlockRead (Log 0) (leaf 0 9) ∷ []) 0 → ⊥
log-no_stop stops = by stops.before stops.n stops.block stops.last
  where
    by : (before : List Event) (n : ℕ) (block : Block) → BlockRead (Log 0) (leaf 0 9) ∷ [] ≡ before ++ BlockRead (Tree n) block ∷ [] → ⊥
    by [] n block same = cc
    by (x ∷ []) n block same = let e : [] ≡ BlockRead (Tree n) block ∷ [] = cc in cc
    by (x ∷ y ∷ before) n block same = let e : [] ≡ y ∷ (before ++ BlockRead (Tree n) block ∷ []) = cc in cc

-- one event of the tree ends no trace there: nothing was expected before it
first-no_stop : (n : ℕ) (block : Block) → StopsAtTree layout (BlockRead (Tree n) block ∷ []) 0 → ⊥
first-no_stop n block stops = by stops.before stops.last stops.is_expected
  where
    by : (before : List Event) → BlockRead (Tree n) block ∷ [] ≡ before ++ BlockRead (Tree stops.n) stops.block ∷ [] → expected_digest (digests_of layout) stops.n (history before) ≡ Some stops.expected → ⊥
    by [] same is = no-list stops.expected is
    by (x ∷ []) same is = let e : [] ≡ BlockRead (Tree stops.n) stops.block ∷ [] = cc in cc
    by (x ∷ y ∷ before) same is = let e : [] ≡ y ∷ (before ++ BlockRead (Tree stops.n) stops.block ∷ []) = cc in cc

-- a trace that names a block outside is not sound
outside-sound : IsSound layout (BlockWrite (Log 1) (leaf 1 1) ∷ []) → ⊥
outside-sound sound = let less : 1 < 1 = sound.inside.each.1 in omega (arith, less)
