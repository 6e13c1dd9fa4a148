-- Worked traces: what an end shows by its trace, and traces that do not show it. The numbers were worked out by hand.
use Rattle.std.proofs.Common.{◌≡◌, ℕ, zero, suc, ◌+◌, ◌<◌, ◌≤◌, arith, Bool, true, false, List, [], ◌∷◌, ◌++◌, length, length-append, take, option_map, Option, Some, None, lit≤, refl, sym, ap, ◌∙◌, subst, inl, inr}
use Rattle.std.specs.Prelude.{◌⊎◌, Contains}
use Rattle.execution.specs.Run.{Next, Goes, Stops, state_of}
use Rattle.aegis_num.specs.declared.Block.{Block}
use Rattle.aegis_num.specs.declared.Place.TheVariants.{Tree, Log}
use Rattle.aegis_edge.specs.Sink.{AppendsFront}
use Rattle.orbis_word.specs.Reading.{instruction_in, signed}
use Rattle.regions.specs.declared.addresses.TheConstants.{LOG_START}
use Rattle.regions.specs.Addresses.{class_at, data_block_at}
use Rattle.regions.specs.Tree.{height_of}
use Rattle.off_chip.specs.declared.Event.{Event}
use Rattle.off_chip.specs.declared.Event.TheVariants.{BlockRead, BlockWrite, Note}
use Rattle.off_chip.specs.declared.Mark.TheVariants as marks
use Rattle.off_chip.specs.ExpectedDigests.{expected_digest}
use Rattle.off_chip.specs.Histories.{history}
use Rattle.off_chip.specs.Residency.{in_check}
use Rattle.off_chip.specs.WriteBacks.{block_writes}
use Rattle.off_chip.proofs.SplitLemmas.{push-same}
use Rattle.block_hash.specs.BlockStrings.{block_digest}
use Rattle.block_hash.proofs.StringLemmas.{length-sha1}
use Rattle.hash_tree.specs.Paths.{path_of}
use Rattle.hash_tree.specs.HashTrees.{digests_of}
use Rattle.orbis_core.specs.declared.Why.TheVariants.{Mode}
use Rattle.orbis_core.specs.Ideal.{Ideal, IdealEnd, accessed_at, fetched_at}
use Rattle.bus_machine.specs.BusData.{check_due}
use Rattle.bus_machine.specs.BusMachine.{bus_machine}
use Rattle.stamp_log.specs.declared.LogCause.TheVariants.{Future, Sums}
use Rattle.stamp_log.specs.declared.MultisetSum.{MultisetSum}
use Rattle.aegis_machine.specs.declared.ends.End.TheVariants.{AbortLog, AbortProgram, AbortTree, Ended, FuelOut, Refused, WriteFault}
use Rattle.aegis_machine.specs.declared.turns.Turn.TheVariants.{Over, Parked}
use Rattle.aegis_machine.specs.Boundaries.{IsOnPathInStep, IsReadInStep, accessed, checked}
use Rattle.aegis_machine.specs.Causes.{EndsByCause, EndsCheckDue, EndsFuelled, ExpectsReads, HasFuelToGoOn, IsFutureAbort, IsLastRead, IsTreeAbort, ReadsExpected, ShowsCause}
use Rattle.aegis_machine.specs.MachineParts.{CarriesSums, IsOfEntering, TakesButLast, TakesIn, log_key}
use Rattle.aegis_machine.specs.declared.machine.Machine.{Machine as TurnMachine}
use Rattle.aegis_num.specs.declared.Key.{Key}
use Rattle.off_chip.specs.Collisions.{EntrySum, sum_of}
use Rattle.off_chip.specs.Epochs.{open_writes}
use Rattle.secure_memory.specs.declared.Parts.{Parts}
use Rattle.stamp_log.specs.LogState.{value_under}
use Rattle.aegis_machine.proofs.WorkedBoundaries.{after, block, done, entering, layout, logged_load, program, veil}

-- a read of the block of the log
abbrev read : Event
read = BlockRead (Log 0) (block 5 [])

-- a trace which ends with an event, after entering and these events
abbrev ends_with : List Event → Event → List Event
ends_with events event = (entering ++ events) ++ event ∷ []

-- ---- the last read of a check

abbrev last_read : IsLastRead 1 (ends_with (Note marks.CheckStart ∷ []) read)
last_read = record { before = entering ++ Note marks.CheckStart ∷ []; n = 0; block = block 5 []; last = refl; all = refl }

-- of another size the log has further blocks, or none; a write and a mark are no reads, and a read of the tree is none of the log
last_read_not : (IsLastRead 2 (ends_with (Note marks.CheckStart ∷ []) read) → ⊥)
    × (IsLastRead 0 (ends_with (Note marks.CheckStart ∷ []) read) → ⊥)
    × (IsLastRead 1 (ends_with (read ∷ []) (Note marks.CheckPassed)) → ⊥)
    × (IsLastRead 1 (ends_with (read ∷ []) (BlockWrite (Log 0) (block 6 []))) → ⊥)
    × (IsLastRead 1 (ends_with (read ∷ []) (BlockRead (Tree 0) (block 4 []))) → ⊥)
last_read_not = (
  λ last. let n = log-number last.n 0 last.block (block 5 []) (event-is 2 (Note marks.CheckStart ∷ []) read last) in omega (arith, last.all, n),
  λ last. omega (arith, last.all),
  λ last. let e : BlockRead (Log last.n) last.block ≡ Note marks.CheckPassed = event-is 1 (read ∷ []) (Note marks.CheckPassed) last in cc,
  λ last. let e : BlockRead (Log last.n) last.block ≡ BlockWrite (Log 0) (block 6 []) = event-is 1 (read ∷ []) (BlockWrite (Log 0) (block 6 [])) last in cc,
  λ last. let e : BlockRead (Log last.n) last.block ≡ BlockRead (Tree 0) (block 4 []) = event-is 1 (read ∷ []) (BlockRead (Tree 0) (block 4 [])) last in cc,
)
  where
    event-is : (blocks : ℕ) (events : List Event) (event : Event) → (last : IsLastRead blocks (ends_with events event)) → BlockRead (Log last.n) last.block ≡ event
    event-is blocks events event last = sym (push-same (entering ++ events) last.before event (BlockRead (Log last.n) last.block) last.last).1

    log-number : (n m : ℕ) (one other : Block) → BlockRead (Log n) one ≡ BlockRead (Log m) other → n ≡ m
    log-number n m one other same = cc

abbrev sums : MultisetSum
sums = record { count = 1; sum = 2 }

by_cause : EndsByCause 1 (ends_with (Note marks.CheckStart ∷ []) read) (Sums sums sums) × EndsByCause 1 [] (Future 3)
by_cause = (last_read, tt)

-- ---- it stands in a check that is due: the first instruction asks for a check

due : EndsCheckDue veil (program (0x70000008 ∷ [])) (ends_with (Note marks.CheckStart ∷ []) read)
unfolding instruction_in signed class_at height_of
due = record { read = last_read; under_way = refl; due = refl }

-- no check was started, or the last one has passed; and the instruction asks for none
due_not : (EndsCheckDue veil (program (0x70000008 ∷ [])) (ends_with [] read) → ⊥)
    × (EndsCheckDue veil (program (0x70000008 ∷ [])) (ends_with (Note marks.CheckStart ∷ Note marks.CheckPassed ∷ []) read) → ⊥)
    × (EndsCheckDue veil (program []) (ends_with (Note marks.CheckStart ∷ []) read) → ⊥)
unfolding instruction_in signed class_at height_of
due_not = (
  λ ends. let e : false ≡ true = ap (λ (t : List Event). in_check (history t)) (before-is (0x70000008 ∷ []) [] ends) ∙ ends.under_way in cc,
  λ ends. let e : false ≡ true = ap (λ (t : List Event). in_check (history t)) (before-is (0x70000008 ∷ []) (Note marks.CheckStart ∷ Note marks.CheckPassed ∷ []) ends) ∙ ends.under_way in cc,
  λ ends. let e : false ≡ true = ap (λ (t : List Event). check_due veil (program []) (history t)) (before-is [] (Note marks.CheckStart ∷ []) ends) ∙ ends.due in cc,
)
  where
    before-is : (words : List ℕ) (events : List Event) → (ends : EndsCheckDue veil (program words) (ends_with events read)) → entering ++ events ≡ ends.read.before
    before-is words events ends = (push-same (entering ++ events) ends.read.before read (BlockRead (Log ends.read.n) ends.read.block) ends.read.last).0

-- ---- by the end

shows : ShowsCause veil (program (0x70000008 ∷ [])) (AbortLog (Sums sums sums) 0) (ends_with (Note marks.CheckStart ∷ []) read) × ShowsCause veil (program []) Ended []
shows = (due, tt)

-- ---- fuel: entering makes seven events, and an instruction needs 16,642 more

has_fuel : HasFuelToGoOn veil (program []) 16650 (after (done ∷ [])) × HasFuelToGoOn veil (program []) 0 (after (done ∷ Note (marks.Sent 1) ∷ []))
unfolding height_of
has_fuel = (λ boundary goes. record { enough = lit≤ tt }, λ boundary goes. let e : false ≡ true = boundary in cc)

-- where the program has ended it does not go on: its instruction was the exit
over : HasFuelToGoOn veil (program (0x70000001 ∷ [])) 0 (after (done ∷ []))
unfolding instruction_in signed class_at height_of
over boundary goes = let e : stops_of (bus_machine veil (program (0x70000001 ∷ [])) (after (done ∷ []))) ≡ false = ap (λ (n : Next Ideal IdealEnd). stops_of n) goes.goes in
    let f : true ≡ false = e in cc
  where
    stops_of : Next Ideal IdealEnd → Bool
    stops_of (Goes state) = false
    stops_of (Stops end state) = true

-- one event too little, where entering is over and after an instruction
has_fuel_not : (HasFuelToGoOn veil (program []) 16648 (after []) → ⊥) × (HasFuelToGoOn veil (program []) 16649 (after (done ∷ [])) → ⊥)
unfolding instruction_in signed class_at height_of
has_fuel_not = (
  λ has. let e : 16649 ≤ 16648 = (has refl (record { state = _; goes = refl })).enough in omega (arith, e),
  λ has. let e : 16650 ≤ 16649 = (has refl (record { state = _; goes = refl })).enough in omega (arith, e),
)

ends_fuelled : EndsFuelled veil (program []) 0 (FuelOut 0) (after []) × EndsFuelled veil (program []) 0 (AbortProgram [] []) (after []) × EndsFuelled veil (program []) 16650 Ended (after (done ∷ []))
ends_fuelled = (tt, tt, has_fuel.0)

ends_fuelled_not : (EndsFuelled veil (program []) 16648 WriteFault (after []) → ⊥) × (EndsFuelled veil (program []) 16648 (Refused Mode 0) (after []) → ⊥)
ends_fuelled_not = (λ has. has_fuel_not.0 has, λ has. has_fuel_not.0 has)

out_of_fuel : ShowsCause veil (program []) (FuelOut 1) (entering ++ done ∷ [])
unfolding instruction_in signed class_at height_of
out_of_fuel = record { state = _; goes = refl }

-- ---- reads of the tree: at entering block 0 was written, and a tree of this layout has no block 5

abbrev root : Event
root = BlockRead (Tree 0) (block 4 [])

abbrev stray : Event
stray = BlockRead (Tree 5) (block 1 [])

expected : ReadsExpected layout (after (root ∷ done ∷ [])) × ReadsExpected layout (history (stray ∷ []))
unfolding height_of
expected = (
  record { each = (((((((((tt, tt), tt), tt), λ entered. absurd (early 3 (lit≤ tt) entered)), tt), tt), tt), λ entered. refl), tt) },
  record { each = (tt, λ entered. absurd (early 0 (lit≤ tt) entered)) },
)
  where
    early : (n : ℕ) → n + 1 ≤ 7 → 7 ≤ n → ⊥
    early n less more = omega (arith, less, more)

expected_not : (ReadsExpected layout (after (stray ∷ [])) → ⊥) × (ReadsExpected layout (after (stray ∷ done ∷ [])) → ⊥)
unfolding height_of
expected_not = (
  λ reads. untold (reads.each.1 (lit≤ tt)),
  λ reads. untold (reads.each.0.1 (lit≤ tt)),
)
  where
    untold : {X : Type 0} {x : X} → None ≡ Some x → ⊥
    untold is = cc

-- the first instruction is fetched from block 3, and the root that was read has no digest of it
abbrev code_read : Event
code_read = BlockRead (Tree 3) (block 3 [])

tree_abort : IsTreeAbort veil (program []) 8 (ends_with (root ∷ []) code_read)
unfolding instruction_in signed class_at height_of
tree_abort = record {
  n = 3;
  read = record {
    before = entering ++ root ∷ [];
    block = block 3 [];
    last = refl;
    number = refl;
    entered = lit≤ tt;
    unexpected = λ same. no-digest (block_digest 3 (block 3 [])) (length-sha1 _) same;
  };
  on_path = record { at = 0x10000080; reached = record { state = _; goes = refl; reaches = inl refl }; below = lit≤ tt; on_path = (1, lit≤ tt, refl) };
  expected = record { each = ((((((((tt, tt), tt), tt), λ entered. absurd (early 3 (lit≤ tt) entered)), tt), tt), tt), λ entered. refl) };
}
  where
    early : (n : ℕ) → n + 1 ≤ 7 → 7 ≤ n → ⊥
    early n less more = omega (arith, less, more)

    no-digest : (digest : List ℕ) → length digest ≡ 20 → Some [] ≡ Some digest → ⊥
    no-digest digest long same =
        let e : [] ≡ digest = cc in
        let f : 0 ≡ length digest = ap (λ (bytes : List ℕ). length bytes) e in
        omega (arith, f, long)

-- the number is that of another event; the digest is the expected one; an earlier read was unexpected too
tree_abort_not : (IsTreeAbort veil (program []) 7 (ends_with (root ∷ []) code_read) → ⊥)
    × (IsTreeAbort veil (program []) 7 (ends_with [] root) → ⊥)
    × (IsTreeAbort veil (program []) 8 (ends_with (stray ∷ []) stray) → ⊥)
unfolding height_of
tree_abort_not = (
  λ aborts. let e : 7 ≡ 8 = aborts.read.number ∙ ap (λ (t : List Event). length t) (sym (before-is (root ∷ []) code_read 7 aborts)) in omega (arith, e),
  λ aborts. same-read aborts.n aborts.read.block aborts.read.before (before-is [] root 7 aborts) (event-is [] root 7 aborts) aborts.read.unexpected,
  λ aborts. let P : List Event → Type 0 = λ t. ReadsExpected layout (history t) in expected_not.0 (subst P (sym (before-is (stray ∷ []) stray 8 aborts)) aborts.expected),
)
  where
    before-is : (events : List Event) (event : Event) (number : ℕ) → (aborts : IsTreeAbort veil (program []) number (ends_with events event)) → entering ++ events ≡ aborts.read.before
    before-is events event number aborts = (push-same (entering ++ events) aborts.read.before event (BlockRead (Tree aborts.n) aborts.read.block) aborts.read.last).0

    event-is : (events : List Event) (event : Event) (number : ℕ) → (aborts : IsTreeAbort veil (program []) number (ends_with events event)) → event ≡ BlockRead (Tree aborts.n) aborts.read.block
    event-is events event number aborts = (push-same (entering ++ events) aborts.read.before event (BlockRead (Tree aborts.n) aborts.read.block) aborts.read.last).1

    same-read : (n : ℕ) (other : Block) (before : List Event) → entering ++ [] ≡ before → root ≡ BlockRead (Tree n) other
        → (expected_digest (digests_of layout) n (history before) ≡ Some ((digests_of layout).digest n other) → ⊥) → ⊥
    same-read n other before start is not =
        let number : 0 ≡ n = (let e : root ≡ BlockRead (Tree n) other = is in cc) in
        let here : block 4 [] ≡ other = (let e : root ≡ BlockRead (Tree n) other = is in cc) in
        let P : ℕ → Type 0 = λ m. expected_digest (digests_of layout) m (history before) ≡ Some ((digests_of layout).digest m other) → ⊥ in
        let Q : Block → Type 0 = λ b. expected_digest (digests_of layout) 0 (history before) ≡ Some ((digests_of layout).digest 0 b) → ⊥ in
        let R : List Event → Type 0 = λ t. expected_digest (digests_of layout) 0 (history t) ≡ Some ((digests_of layout).digest 0 (block 4 [])) → ⊥ in
        subst R (sym start) (subst Q (sym here) (subst P (sym number) not)) refl

abbrev fetching : Ideal
fetching = state_of (bus_machine veil (program []) (after (root ∷ [])))

-- the block is on no path of the step, which fetches from the third data block and accesses nothing
tree_elsewhere : IsTreeAbort veil (program []) 8 (ends_with (root ∷ []) stray) → ⊥
unfolding instruction_in signed class_at height_of
tree_elsewhere aborts =
    let last = push-same (entering ++ root ∷ []) aborts.read.before stray (BlockRead (Tree aborts.n) aborts.read.block) aborts.read.last in
    by aborts.read.before aborts.n last.0 (number-of 5 aborts.n (block 1 []) aborts.read.block last.1) aborts.on_path
  where
    number-of : (n m : ℕ) (one other : Block) → BlockRead (Tree n) one ≡ BlockRead (Tree m) other → n ≡ m
    number-of n m one other same = cc

    fetched-only : (at : ℕ) (state : Ideal) → fetching ≡ state → (at ≡ fetched_at state) ⊎ (accessed_at state ≡ Some at) → 0x10000080 ≡ at
    fetched-only at state is (inl fetched) = ap (λ (s : Ideal). fetched_at s) is ∙ sym fetched
    fetched-only at state is (inr accesses) = let e : None ≡ Some at = ap (λ (s : Ideal). accessed_at s) is ∙ accesses in cc

    not-five : (n : ℕ) → 5 ≡ n → Contains (0 ∷ 3 ∷ []) n → ⊥
    not-five n is (zero, less, same) = let e : 0 ≡ n = same in omega (arith, is, e)
    not-five n is (suc zero, less, same) = let e : 3 ≡ n = same in omega (arith, is, e)
    not-five n is (suc (suc k), less, same) = let l : suc (suc k) < 2 = less in omega (arith, l)

    by : (before : List Event) (n : ℕ) → entering ++ root ∷ [] ≡ before → 5 ≡ n → IsOnPathInStep veil (program []) n (history before) → ⊥
    by before n is number on =
        let here : 0x10000080 ≡ on.at =
        fetched-only on.at on.reached.state
        (ap (λ (t : List Event). state_of (bus_machine veil (program []) (history t))) is ∙ ap (λ (x : Next Ideal IdealEnd). state_of x) on.reached.goes) on.reached.reaches in
        not-five n number (subst (λ (a : ℕ). Contains (path_of layout (data_block_at a)) n) (sym here) on.on_path)

expects : ExpectsReads layout (AbortTree 8 0) (after (stray ∷ [])) × ExpectsReads layout Ended (history (stray ∷ []))
expects = (tt, expected.1)

expects_not : ExpectsReads layout Ended (after (stray ∷ [])) → ⊥
expects_not = expected_not.0

-- ---- reads of the log: five blocks were written, and the second instruction accesses the log block

abbrev early_stamp : Event
early_stamp = BlockRead (Log 0) (block 6 [])

future : IsFutureAbort veil (program logged_load) 8 (ends_with (done ∷ []) early_stamp)
unfolding instruction_in signed class_at height_of
future = record {
  future = record { before = entering ++ done ∷ []; n = 0; block = block 6 []; last = refl; number = refl; above = lit≤ tt };
  in_step = accessed 0x20000000 (record { state = _; goes = refl; reaches = inr refl }) (lit≤ tt) refl;
}

in_check_future : IsFutureAbort veil (program (0x70000008 ∷ [])) 8 (ends_with (Note marks.CheckStart ∷ []) early_stamp)
unfolding instruction_in signed class_at height_of
in_check_future = record {
  future = record { before = entering ++ Note marks.CheckStart ∷ []; n = 0; block = block 6 []; last = refl; number = refl; above = lit≤ tt };
  in_step = checked refl refl;
}

-- the number is that of another event; the stamp is the number of writes; and the last event is none
future_not : (IsFutureAbort veil (program logged_load) 7 (ends_with (done ∷ []) early_stamp) → ⊥)
    × (IsFutureAbort veil (program logged_load) 8 (ends_with (done ∷ []) read) → ⊥)
    × (IsFutureAbort veil (program logged_load) 8 (ends_with (early_stamp ∷ []) done) → ⊥)
future_not = (
  λ aborts. let e : 7 ≡ 8 = aborts.future.number ∙ ap (λ (t : List Event). length t) (sym (parts (done ∷ []) early_stamp 7 aborts).0) in omega (arith, e),
  λ aborts.
      let last = parts (done ∷ []) read 8 aborts in
      let stamps : 5 ≡ aborts.future.block.stamp = stamp-of _ (block 5 []) aborts.future.n aborts.future.block last.1 in
      let writes : 5 ≡ block_writes aborts.future.before = ap (λ (t : List Event). block_writes t) last.0 in
      omega (arith, aborts.future.above, stamps, writes),
  λ aborts. let e : done ≡ BlockRead (Log aborts.future.n) aborts.future.block = (parts (early_stamp ∷ []) done 8 aborts).1 in cc,
)
  where
    parts : (events : List Event) (event : Event) (number : ℕ) → (aborts : IsFutureAbort veil (program logged_load) number (ends_with events event))
        → (entering ++ events ≡ aborts.future.before) × (event ≡ BlockRead (Log aborts.future.n) aborts.future.block)
    parts events event number aborts = push-same (entering ++ events) aborts.future.before event (BlockRead (Log aborts.future.n) aborts.future.block) aborts.future.last

    stamp-of : (n : ℕ) (one : Block) (m : ℕ) (other : Block) → BlockRead (Log n) one ≡ BlockRead (Log m) other → one.stamp ≡ other.stamp
    stamp-of n one m other same = cc

abbrev here : Ideal
here = state_of (bus_machine veil (program []) (after (done ∷ [])))

-- and the step accesses no log block
future_elsewhere : IsFutureAbort veil (program []) 8 (ends_with (done ∷ []) early_stamp) → ⊥
unfolding instruction_in signed class_at height_of
future_elsewhere aborts = by aborts.future.before aborts.future.n (push-same (entering ++ done ∷ []) aborts.future.before early_stamp (BlockRead (Log aborts.future.n) aborts.future.block) aborts.future.last).0 aborts.in_step
  where
    reached-not : (at : ℕ) (state : Ideal) → here ≡ state → LOG_START ≤ at → (at ≡ fetched_at state) ⊎ (accessed_at state ≡ Some at) → ⊥
    reached-not at state is above (inl fetched) =
        let e : at ≡ 0x10000084 = fetched ∙ ap (λ (s : Ideal). fetched_at s) (sym is) in omega (arith, above, e)
    reached-not at state is above (inr accesses) = let e : None ≡ Some at = ap (λ (s : Ideal). accessed_at s) is ∙ accesses in cc

    by : (before : List Event) (n : ℕ) → entering ++ done ∷ [] ≡ before → IsReadInStep veil (program []) n (history before) → ⊥
    by before n is (accessed at reach above same) =
        reached-not at reach.state (ap (λ (t : List Event). state_of (bus_machine veil (program []) (history t))) is ∙ ap (λ (x : Next Ideal IdealEnd). state_of x) reach.goes) above reach.reaches
    by before n is (checked under_way due) = let e : false ≡ true = ap (λ (t : List Event). in_check (history t)) is ∙ under_way in cc

-- ---- what the sink took

-- of the last three bytes it took one, after the first byte
takes : TakesButLast (Note (marks.Sent 1) ∷ Note (marks.Sent 3) ∷ []) (Some (9 ∷ [])) (Some (9 ∷ 1 ∷ 2 ∷ [])) (1 ∷ 2 ∷ 3 ∷ 4 ∷ [])
takes = record {
  before = Note (marks.Sent 1) ∷ [];
  count = 3;
  last = refl;
  first = 1 ∷ [];
  rest = 2 ∷ 3 ∷ 4 ∷ [];
  parts = refl;
  long = refl;
  middle = Some (9 ∷ 1 ∷ []);
  taken = refl;
  front = (1, refl);
}

takes_untold : TakesButLast (Note (marks.Sent 1) ∷ []) None None (1 ∷ [])
takes_untold = record { before = []; count = 1; last = refl; first = []; rest = 1 ∷ []; parts = refl; long = refl; middle = None; taken = refl; front = refl }

-- the last event is another one; there are fewer bytes than its mark tells; and a byte before the last piece was not taken
takes_not : (TakesButLast (Note (marks.Sent 1) ∷ done ∷ []) None None (1 ∷ []) → ⊥)
    × (TakesButLast (Note (marks.Sent 2) ∷ []) None None (1 ∷ []) → ⊥)
    × (TakesButLast (Note (marks.Sent 1) ∷ []) (Some []) (Some []) (1 ∷ 2 ∷ []) → ⊥)
takes_not = (
  λ takes. let e : done ≡ Note (marks.Sent takes.count) = (push-same (Note (marks.Sent 1) ∷ []) takes.before done (Note (marks.Sent takes.count)) takes.last).1 in cc,
  λ takes.
      let count = sent-number 2 takes.count (push-same [] takes.before (Note (marks.Sent 2)) (Note (marks.Sent takes.count)) takes.last).1 in
      let long : 1 ≡ length takes.first + length takes.rest = ap (λ (bytes : List ℕ). length bytes) takes.parts ∙ length-append takes.first takes.rest in
      omega (arith, count, long, takes.long),
  λ takes.
      let count = sent-number 1 takes.count (push-same [] takes.before (Note (marks.Sent 1)) (Note (marks.Sent takes.count)) takes.last).1 in
      let long : 2 ≡ length takes.first + length takes.rest = ap (λ (bytes : List ℕ). length bytes) takes.parts ∙ length-append takes.first takes.rest in
      let P : Option (List ℕ) → Type 0 = λ m. AppendsFront m (Some []) takes.rest in
      let front : (k : ℕ) × (Some [] ≡ Some (takes.first ++ take k takes.rest)) = subst P takes.taken takes.front in
      let none : 0 ≡ length takes.first + length (take front.0 takes.rest) =
      ap (λ (bytes : List ℕ). length bytes) (some-same [] (takes.first ++ take front.0 takes.rest) front.1) ∙ length-append takes.first (take front.0 takes.rest) in
      omega (arith, count, long, takes.long, none),
)
  where
    sent-number : (n m : ℕ) → Note (marks.Sent n) ≡ Note (marks.Sent m) → n ≡ m
    sent-number n m same = cc

    some-same : (one other : List ℕ) → Some one ≡ Some other → one ≡ other
    some-same one other same = cc

takes_in : TakesIn (Over WriteFault) (Note (marks.Sent 1) ∷ []) None None 4 5 (1 ∷ []) × TakesIn (Over Ended) [] (Some (1 ∷ [])) (Some (1 ∷ 2 ∷ [])) 4 4 (2 ∷ [])
    × TakesIn Parked [] None None 4 4 []
takes_in = ((takes_untold, omega arith), (refl, refl), (refl, refl))

-- no fault was counted; one was, though the sink took all; and a byte was dropped
takes_in_not : (TakesIn (Over WriteFault) (Note (marks.Sent 1) ∷ []) None None 4 4 (1 ∷ []) → ⊥) × (TakesIn Parked [] None None 4 5 [] → ⊥)
    × (TakesIn (Over Ended) [] (Some []) (Some []) 4 4 (1 ∷ []) → ⊥)
takes_in_not = (
  λ takes. let e : 5 ≤ 4 = takes.1 in omega (arith, e),
  λ takes. let e : 5 ≡ 4 = takes.1 in omega (arith, e),
  λ takes. let e : Some [] ≡ Some (1 ∷ []) = takes.0 in cc,
)

-- ---- the sums of an abort, and the key of a log: here one block was written, and none was read

abbrev one_written : List Event
one_written = BlockWrite (Log 0) (block 5 []) ∷ []

abbrev none_read : MultisetSum
none_read = record { count = 0; sum = 0 }

abbrev sum_written : Key → MultisetSum
sum_written key = record { count = 1; sum = (sum_of (value_under key) (open_writes (history one_written))).total }

carries : (key : Key) → CarriesSums key (Over (AbortLog (Sums none_read (sum_written key)) 0)) one_written × CarriesSums key (Over Ended) [] × CarriesSums key Parked []
carries key = (
  record { reads = refl; writes = refl; differ = λ same. let e : 0 ≡ 1 = ap (λ (sum : EntrySum). sum.number) same in absurd (omega (arith, e)) },
  tt,
  tt,
)

-- the sums agree; and what was written is not what was read
carries_not : (key : Key) → (CarriesSums key (Over (AbortLog (Sums none_read none_read) 0)) [] → ⊥)
    × (CarriesSums key (Over (AbortLog (Sums (sum_written key) none_read) 0)) one_written → ⊥)
carries_not key = (
  λ carries. carries.differ refl,
  λ carries. let e : 1 ≡ 0 = ap (λ (sum : EntrySum). sum.number) carries.reads in absurd (omega (arith, e)),
)

keys : {L : Type 0} (machine : TurnMachine L) (parts : Parts L) → (machine.parts ≡ Some parts → log_key machine ≡ Some parts.log.key) × (machine.parts ≡ None → log_key machine ≡ None)
keys {L} machine parts = (
  λ is. ap (λ (found : Option (Parts L)). option_map (λ (p : Parts L). p.log.key) found) is,
  λ is. ap (λ (found : Option (Parts L)). option_map (λ (p : Parts L). p.log.key) found) is,
)

of_entering : IsOfEntering (FuelOut 0) × IsOfEntering (AbortProgram [] []) × (IsOfEntering Ended → ⊥) × (IsOfEntering WriteFault → ⊥) × (IsOfEntering (AbortTree 8 0) → ⊥)
of_entering = (tt, tt, λ of. of, λ of. of, λ of. of)
