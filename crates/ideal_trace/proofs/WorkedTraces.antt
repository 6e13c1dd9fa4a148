-- Worked traces: which parts of a checked trace are faithful, what a faithful run sends, runs whose log reads are not, and counts.
use Rattle.std.proofs.Common.{◌≡◌, ℕ, zero, suc, ◌-◌, ◌/◌, ◌<◌, true, false, ◌&&◌, nat_le, nat_lt, get_or, List, [], ◌∷◌, replicate, Option, Some, None, refl, ap, ◌∙◌, subst, lit≤, arith}
use Rattle.execution.specs.Run.{Next, Goes, Stops, state_of}
use Rattle.execution.specs.Traffic.{Entry}
use Rattle.aegis_num.specs.declared.Place.{Place}
use Rattle.aegis_num.specs.declared.Place.TheVariants.{Tree, Log}
use Rattle.orbis_word.specs.Reading.{instruction_in, signed}
use Rattle.regions.specs.Addresses.{class_at}
use Rattle.regions.specs.LooseClasses.{shared_loose, shared_and_logged_loose}
use Rattle.regions.specs.Modes.{Check, DivideTrap, Enter, Exit, IndexTrap, Input, PrivateOff, PrivateOn, Release, Resume, Suspend}
use Rattle.regions.specs.Tree.{height_of}
use Rattle.off_chip.specs.declared.Event.{Event}
use Rattle.off_chip.specs.declared.Event.TheVariants.{BlockRead, BlockWrite, WordRead, WordWrite, Note}
use Rattle.off_chip.specs.declared.Mark.TheVariants as marks
use Rattle.off_chip.specs.declared.Who.TheVariants.{Secure}
use Rattle.off_chip.specs.Histories.{history}
use Rattle.orbis_core.specs.ByteOrder.{words_in}
use Rattle.orbis_core.specs.Ideal.{Ideal, IdealEnd, Ended}
use Rattle.bus_machine.specs.BusMachine.{bus_machine, memory_after}
use Rattle.ideal_trace.specs.Counts.{checks_in, checks_of, is_checked, is_suspension, suspensions_in}
use Rattle.ideal_trace.specs.CutBack.{IsChecked}
use Rattle.ideal_trace.specs.FaithfulRuns.{HasSameWords}
use Rattle.ideal_trace.specs.IdealRuns.{ideal_steps, with_words}
use Rattle.ideal_trace.specs.LooseRuns.{IsLooselyIdeal, KeepsTreeMemory}
use Rattle.ideal_trace.specs.Prefixes.{EndsWhole, IsFrontOf}
use Rattle.ideal_trace.proofs.LooseLemmas.{log-agrees}
use Rattle.ideal_trace.proofs.Worked.{after, block, code_of, code_read, done, entry, first_word, hello, image, layout, other, program, shared, twice, veil}

-- ---- checked traces

-- the log has a block of ones
abbrev ones : Place → Option (List ℕ)
ones (Tree n) = None
ones (Log n) = Some (1 ∷ [])

abbrev log_read : ℕ → Event
log_read byte = BlockRead (Log 0) (block 1 (byte ∷ []))

abbrev tree_read : Event
tree_read = BlockRead (Tree 0) (block 1 (1 ∷ []))

abbrev Checked : List Event → Type 0
Checked events = IsChecked ones (history events)

-- a byte is sent after the check of a faithful read; and a later read may be unfaithful while no check has covered it
checked : Checked (log_read 1 ∷ Note marks.CheckPassed ∷ Note (marks.Sent 1) ∷ []) × Checked (log_read 1 ∷ Note marks.CheckPassed ∷ log_read 2 ∷ [])
checked = (
  record { tree = record { each = (((tt, tt), tt), tt) }; ended = record { ended = record { each = (tt, refl) } }; waiting = record { each = (((tt, tt), tt), record { nothing = refl }) } },
  record { tree = record { each = (((tt, tt), tt), tt) }; ended = record { ended = record { each = (tt, refl) } }; waiting = record { each = (((tt, tt), tt), tt) } },
)

-- a check covered an unfaithful read, a byte is sent while a read is not covered, and a tree block is read that was not there
checked_not : (Checked (log_read 2 ∷ Note marks.CheckPassed ∷ []) → ⊥) × (Checked (log_read 1 ∷ Note (marks.Sent 1) ∷ []) → ⊥) × (Checked (tree_read ∷ []) → ⊥)
checked_not = (
  λ so. let e : false ≡ true = so.ended.ended.each.1 in cc,
  λ so. let e : _ = so.waiting.each.1.nothing in cc,
  λ so. let e : false ≡ true = so.tree.each.1 in cc,
)

-- ---- what was sent and written

abbrev sending : List Event
sending = done ∷ Note (marks.Sent 1) ∷ done ∷ []

abbrev Front : List ℕ → List Event → List (Entry ℕ) → ℕ → Type 0
Front handed_out events words steps = IsFrontOf (program hello) handed_out (after hello events) words steps

abbrev Wrote : List Event → ℕ → Type 0
Wrote events steps = IsFrontOf (program shared) [] (after shared events) (entry 0x8000 65 ∷ []) steps

-- the byte is the first that the machine releases, also after more steps, and nothing is a front too; a word is the first that it writes
front : Front (72 ∷ []) sending [] 2 × Front (72 ∷ []) sending [] 9 × Front (72 ∷ []) (done ∷ []) [] 9 × Wrote (done ∷ WordRead Secure 0x8000 65 ∷ done ∷ WordWrite Secure 0x8004 65 ∷ done ∷ []) 3
unfolding instruction_in signed class_at height_of
front = (
  record { bytes = ([], refl); writes = ([], refl) },
  record { bytes = ([], refl); writes = ([], refl) },
  record { bytes = (72 ∷ [], refl); writes = ([], refl) },
  record { bytes = ([], refl); writes = ([], refl) },
)

-- another byte was sent; it is not yet released; another word was written, and one that the machine does not write
front_not : (Front (73 ∷ []) sending [] 9 → ⊥) × (Front (72 ∷ []) sending [] 1 → ⊥) × (Wrote (done ∷ WordWrite Secure 0x8004 66 ∷ []) 3 → ⊥) × (Wrote (done ∷ WordWrite Secure 0x8004 65 ∷ []) 2 → ⊥)
unfolding instruction_in signed class_at height_of
front_not = (
  λ so. let e : 72 ≡ 73 = ap (λ (bs : List ℕ). get_or bs 0 0) so.bytes.1 in omega (arith, e),
  λ so. let e : [] ≡ 72 ∷ so.bytes.0 = so.bytes.1 in cc,
  λ so. let e : 65 ≡ 66 = ap first_word so.writes.1 in omega (arith, e),
  λ so. let e : [] ≡ entry 0x8004 65 ∷ so.writes.0 = so.writes.1 in cc,
)

abbrev greeting : List Event
greeting = done ∷ Note (marks.Sent 1) ∷ done ∷ Note marks.CheckStart ∷ Note marks.CheckPassed ∷ done ∷ []

-- it went on before
before : (more : List (Entry ℕ)) (fewer : ℕ) → fewer < 3 → (state : Ideal) × (ideal_steps (program hello) shared_loose more fewer ≡ Goes state)
unfolding instruction_in signed class_at height_of
before more zero below = (_, refl)
before more (suc zero) below = (_, refl)
before more (suc (suc zero)) below = (_, refl)
before more (suc (suc (suc fewer))) below = absurd (omega (arith, below))

whole : EndsWhole (program hello) (72 ∷ []) Ended (after hello greeting)
unfolding instruction_in signed class_at height_of
whole = record {
  at = state_of (bus_machine veil (program hello) (after hello greeting));
  ends = λ more. record { ended = refl; not_before = λ fewer below. before more fewer below };
  bytes = refl;
  writes = refl;
}

-- another byte was sent, or none; and it has not ended
whole_not : (EndsWhole (program hello) (73 ∷ []) Ended (after hello greeting) → ⊥) × (EndsWhole (program hello) [] Ended (after hello (done ∷ done ∷ done ∷ [])) → ⊥)
    × (EndsWhole (program hello) (72 ∷ []) Ended (after hello sending) → ⊥)
unfolding instruction_in signed class_at height_of
whole_not = (
  λ so. let e : 72 ∷ [] ≡ 73 ∷ [] = ap (λ (n : Next Ideal IdealEnd). (state_of n).traffic.bytes) (so.ends []).ended ∙ so.bytes in let f : 72 ≡ 73 = ap (λ (bs : List ℕ). get_or bs 0 0) e in omega (arith, f),
  λ so. let e : 72 ∷ [] ≡ [] = ap (λ (n : Next Ideal IdealEnd). (state_of n).traffic.bytes) (so.ends []).ended ∙ so.bytes in cc,
  λ so. let e : Goes _ ≡ Stops Ended (with_words [] so.at) = (so.ends []).ended in cc,
)

-- ---- log reads that are not faithful

abbrev SameAfter : Event → Ideal → Type 0
SameAfter event state = HasSameWords state.memory (memory_after layout veil event state.memory)

-- the code is read as it was written last, and nothing is said of a log read, nor of a read that is not faithful
tree : KeepsTreeMemory (image hello) veil (program hello) (code_read hello) (after hello []) × KeepsTreeMemory (image hello) veil (program hello) (BlockRead (Log 0) (block 1 (7 ∷ []))) (after hello [])
    × KeepsTreeMemory (image hello) veil (program hello) (code_read other) (after hello [])
unfolding instruction_in signed class_at height_of
tree = (
  λ state entered goes faithful. subst (SameAfter (code_read hello)) (ap state_of goes)
      (record { word = λ at aligned. twice (nat_le 0x10000080 at && nat_lt at 0x100000c0) (get_or (words_in (code_of hello)) ((at - 0x10000080) / 4) 0) 0 }),
  tt,
  λ state entered goes faithful. absurd (let e : false ≡ true = faithful.each.1 in cc),
)

-- other code was written and read again, after a log read that was not faithful
tree_not : KeepsTreeMemory (image hello) veil (program hello) (code_read other) (after hello (BlockRead (Log 0) (block 1 (7 ∷ [])) ∷ BlockWrite (Tree 3) (block 3 (code_of other)) ∷ [])) → ⊥
unfolding instruction_in signed class_at height_of
tree_not so =
    let same = so _ (lit≤ tt) refl (record { each = (((((((((((tt, tt), tt), tt), refl), tt), tt), tt), tt), tt), refl)) }) in
    let e : 0x9c600049 ≡ 0x9c600048 = same.word 0x10000080 refl in
    omega (arith, e)

-- l.movhi r4,0x2000; l.lwz r3,0(r4); exit
abbrev logged : List ℕ
logged = 0x18802000 ∷ 0x84640000 ∷ 0x70000001 ∷ 0x15000000 ∷ []

abbrev loading : List Event
loading = done ∷ BlockRead (Log 0) (block 5 (replicate 64 2)) ∷ done ∷ []

abbrev bus_at : List ℕ → List Event → Ideal
bus_at words events = state_of (bus_machine veil (program words) (after words events))

-- the word of the log that was read stands in the list
loosely : IsLooselyIdeal (program logged) (after logged loading) (bus_at logged loading)
unfolding instruction_in signed class_at height_of
loosely = record {
  words = entry 0x20000000 0x02020202 ∷ [];
  twin = bus_at logged loading;
  ideal = state_of (ideal_steps (program logged) shared_and_logged_loose (entry 0x20000000 0x02020202 ∷ []) 2);
  same = record { words = record { word = λ at aligned. refl }; is = refl };
  loosened = record {
    memory = (state_of (ideal_steps (program logged) shared_and_logged_loose (entry 0x20000000 0x02020202 ∷ []) 2)).memory;
    taken = 1;
    agrees = log-agrees layout veil 0 (block 5 (replicate 64 2)) (bus_at logged []).memory (bus_at logged []).memory (λ at free. refl);
    is = refl;
  };
  stands = refl;
}

-- no list gives the state of an earlier step
loosely_not : IsLooselyIdeal (program logged) (after logged []) (bus_at logged (done ∷ [])) → ⊥
unfolding instruction_in signed class_at height_of
loosely_not so =
    let e : 0x10000080 ≡ 0x10000084 = ap (λ (n : Next Ideal IdealEnd). (state_of n).core.pc) so.stands ∙ ap (λ (s : Ideal). s.core.pc) so.loosened.is ∙ ap (λ (s : Ideal). s.core.pc) so.same.is in
    omega (arith, e)

-- ---- counts

kinds : (is_checked (Some Release) ≡ true) × (is_checked (Some Check) ≡ true) × (is_checked (Some Exit) ≡ true) × (is_checked (Some IndexTrap) ≡ true) × (is_checked (Some DivideTrap) ≡ true)
    × (is_checked (Some Suspend) ≡ false) × (is_checked (Some Input) ≡ false) × (is_checked (Some Enter) ≡ false) × (is_checked (Some Resume) ≡ false) × (is_checked (Some PrivateOn) ≡ false)
    × (is_checked (Some PrivateOff) ≡ false) × (is_checked None ≡ false) × (is_suspension (Some Suspend) ≡ true) × (is_suspension (Some Check) ≡ false) × (is_suspension (Some Resume) ≡ false) × (is_suspension None ≡ false)
kinds = (refl, refl, refl, refl, refl, refl, refl, refl, refl, refl, refl, refl, refl, refl, refl, refl)

-- suspend; check; suspend; an index trap
abbrev turns : List ℕ
turns = 0x70000002 ∷ 0x70000008 ∷ 0x70000002 ∷ 0x70000009 ∷ []

-- so many instructions were done or are under way: a release and the exit; after the end none is
counts : (checks_in (program hello) [] 1 ≡ 0) × (checks_in (program hello) [] 2 ≡ 1) × (checks_in (program hello) [] 3 ≡ 2) × (checks_in (program hello) [] 9 ≡ 2) × (suspensions_in (program hello) [] 9 ≡ 0)
    × (checks_in (program turns) [] 3 ≡ 1) × (checks_in (program turns) [] 4 ≡ 2) × (suspensions_in (program turns) [] 1 ≡ 1) × (suspensions_in (program turns) [] 4 ≡ 2)
unfolding instruction_in signed class_at
counts = (refl, refl, refl, refl, refl, refl, refl, refl, refl)

-- and the counts of the machine: the exit is one more
own : (checks_of (ideal_steps (program hello) shared_loose [] 2) ≡ 1) × (checks_of (ideal_steps (program hello) shared_loose [] 3) ≡ 2) × (checks_of (ideal_steps (program turns) shared_loose [] 3) ≡ 1)
    × (checks_of (ideal_steps (program turns) shared_loose [] 4) ≡ 2) × (checks_of (ideal_steps (program shared) shared_loose [] 4) ≡ 0)
unfolding instruction_in signed class_at
own = (refl, refl, refl, refl, refl)
