-- Worked events: what is told of each, where it holds and where it does not. The words are by an assembler, and the answers were worked out by hand.
use Rattle.std.proofs.Common.{◌≡◌, ℕ, ◌-◌, ◌/◌, ◌^◌, ◌<◌, Bool, true, false, cond, ◌&&◌, eqb, nat_le, nat_lt, if◌then◌else◌, get_or, length, List, [], ◌∷◌, ◌++◌, replicate, Option, Some, None, refl, ap, subst, lit≤, arith}
use Rattle.std.proofs.lemmas.Bool.Decides.{nat_tests}
use Rattle.execution.specs.Run.{state_of}
use Rattle.execution.specs.Traffic.{Entry}
use Rattle.aegis_num.specs.declared.Block.{Block}
use Rattle.aegis_num.specs.declared.Place.{Place}
use Rattle.aegis_num.specs.declared.Place.TheVariants.{Tree, Log}
use Rattle.orbis_word.specs.Reading.{instruction_in, signed}
use Rattle.regions.specs.declared.Layout.{Layout}
use Rattle.regions.specs.Addresses.{class_at}
use Rattle.regions.specs.Tree.{height_of}
use Rattle.off_chip.specs.declared.Event.{Event}
use Rattle.off_chip.specs.declared.Event.TheVariants.{BlockRead, BlockWrite, WordRead, WordWrite, Note}
use Rattle.off_chip.specs.declared.Mark.TheVariants as marks
use Rattle.off_chip.specs.declared.Who.TheVariants.{Secure, Untrusted}
use Rattle.off_chip.specs.Histories.{History, history}
use Rattle.off_chip.specs.WriteBacks.{same_place}
use Rattle.orbis_core.specs.declared.Effect.{Effect}
use Rattle.orbis_core.specs.declared.Effect.TheVariants as effect
use Rattle.orbis_core.specs.ByteOrder.{bytes_of, words_in}
use Rattle.orbis_core.specs.Ideal.{Ideal, effect_at}
use Rattle.bus_machine.specs.BusMachine.{LoadedProgram, Veil, memory_after}
use Rattle.ideal_trace.specs.FaithfulRuns.{EntersSilently, ExchangesFor, FitsWords, GivesBytes, HasSameWords, KeepsMemory, is_entering}

-- a verified block, a private one, a code block and a log block: the tree blocks 1, 2 and 3 under the root, and one of the log
abbrev pub layout : Layout
layout = record {
  verified = 1;
  private = 1;
  constants = 0;
  code = 1;
  log = 1;
  shared = 4;
  data_fits = lit≤ tt;
  log_fits = lit≤ tt;
  shared_fits = lit≤ tt;
}

-- four words of code, filled up with instructions that do nothing
abbrev pub code_of : List ℕ → List ℕ
code_of words = bytes_of (words ++ replicate 12 0x15000000)

abbrev pub program : List ℕ → LoadedProgram
program words = record { layout = layout; statics = code_of words; entry = 0; input = [] }

-- a veil that changes nothing
abbrev pub veil : Veil
veil n stamp payload = payload

abbrev pub block : ℕ → List ℕ → Block
block stamp payload = record { payload = payload; stamp = stamp }

-- the image has the code in the tree block 3
abbrev pub image : List ℕ → Place → Option (List ℕ)
image words place = if same_place place (Tree 3) then Some (code_of words) else None

-- entering takes seven events here
abbrev pub entering : List ℕ → List Event
entering words =
    Note marks.Enter
    ∷ BlockWrite (Tree 1) (block 1 (replicate 64 0))
    ∷ BlockWrite (Tree 2) (block 2 (replicate 64 0))
    ∷ BlockRead (Tree 3) (block 9 (code_of words))
    ∷ BlockWrite (Tree 3) (block 3 (code_of words))
    ∷ BlockWrite (Tree 0) (block 4 [])
    ∷ BlockWrite (Log 0) (block 5 (replicate 64 0))
    ∷ []

abbrev pub after : List ℕ → List Event → History
after words events = history (entering words ++ events)

abbrev pub done : Event
done = Note (marks.Retire Secure)

abbrev pub entry : ℕ → ℕ → Entry ℕ
entry at word = record { place = at; word = word }

abbrev pub first_place : List (Entry ℕ) → ℕ
first_place entries = (get_or entries 0 (entry 0 0)).place

abbrev pub first_word : List (Entry ℕ) → ℕ
first_word entries = (get_or entries 0 (entry 0 0)).word

-- l.addi r3,r0,72; release; exit
abbrev pub hello : List ℕ
hello = 0x9c600048 ∷ 0x70000006 ∷ 0x70000001 ∷ 0x15000000 ∷ []

-- the same with 73
abbrev pub other : List ℕ
other = 0x9c600049 ∷ 0x70000006 ∷ 0x70000001 ∷ 0x15000000 ∷ []

-- l.ori r4,r0,0x8000; l.lwz r3,0(r4); l.sw 4(r4),r3; exit
abbrev pub shared : List ℕ
shared = 0xa8808000 ∷ 0x84640000 ∷ 0xd4041804 ∷ 0x70000001 ∷ []

-- ---- entering

kinds : (is_entering (Note marks.Enter) ≡ true) × (is_entering (BlockRead (Tree 0) (block 0 [])) ≡ true) × (is_entering (BlockWrite (Log 0) (block 0 [])) ≡ true)
    × (is_entering (Note (marks.Drop (Tree 0))) ≡ true) × (is_entering (WordRead Secure 0 0) ≡ false) × (is_entering (WordWrite Secure 0 0) ≡ false) × (is_entering done ≡ false)
    × (is_entering (Note (marks.Sent 1)) ≡ false) × (is_entering (Note marks.Suspend) ≡ false) × (is_entering (Note marks.CheckStart) ≡ false)
kinds = (refl, refl, refl, refl, refl, refl, refl, refl, refl, refl)

-- a block is written while the program is entered; and each event is right after it
silent : EntersSilently (program hello) (BlockWrite (Tree 3) (block 3 [])) (history (Note marks.Enter ∷ [])) × EntersSilently (program hello) done (after hello [])
unfolding height_of
silent = (λ below. refl, λ below. absurd (omega (arith, below)))

-- an instruction is done before its end, or an open word is read there
silent_not : (EntersSilently (program hello) done (history (Note marks.Enter ∷ [])) → ⊥) × (EntersSilently (program hello) (WordRead Secure 0x8000 1) (history (Note marks.Enter ∷ [])) → ⊥)
unfolding height_of
silent_not = (
  λ so. let e : false ≡ true = so (lit≤ tt) in cc,
  λ so. let e : false ≡ true = so (lit≤ tt) in cc,
)

-- ---- what reads give

bytes : GivesBytes (WordRead Untrusted 0x8000 0xffffffff) × GivesBytes (BlockRead (Log 0) (block 1 (0 ∷ 255 ∷ []))) × GivesBytes (BlockWrite (Log 0) (block 1 (256 ∷ []))) × GivesBytes (WordWrite Secure 0x8000 0x100000000)
bytes = (lit≤ tt, (lit≤ tt, (lit≤ tt, tt)), tt, tt)

bytes_not : (GivesBytes (WordRead Secure 0x8000 0x100000000) → ⊥) × (GivesBytes (BlockRead (Tree 3) (block 1 (0 ∷ 256 ∷ []))) → ⊥)
bytes_not = (λ so. let e : 0x100000000 < 2 ^ 32 = so in omega (arith, e), λ so. let e : 256 < 2 ^ 8 = so.1.0 in omega (arith, e))

abbrev zeros_but : ℕ → ℕ → ℕ
zeros_but place at = cond (eqb at place) 7 0

abbrev zeros : ℕ → ℕ
zeros at = 0

-- no word starts at the address 5, and one does at 8
words : HasSameWords zeros (zeros_but 5) × (HasSameWords zeros (zeros_but 8) → ⊥)
words = (record { word = λ at aligned. grind (arith, nat_tests, aligned) }, λ same. let e : 7 ≡ 0 = same.word 8 refl in cc)

-- ---- blocks

abbrev pub code_read : List ℕ → Event
code_read words = BlockRead (Tree 3) (block 3 (code_of words))

abbrev SameAfter : Event → Ideal → Type 0
SameAfter event state = HasSameWords state.memory (memory_after layout veil event state.memory)

pub twice : (b : Bool) (x y : ℕ) → (if b then x else (if b then x else y)) ≡ (if b then x else y)
twice true x y = refl
twice false x y = refl

-- the code is read as it was written last, and nothing is said of a write or of a mark
again : KeepsMemory (image hello) veil (program hello) (code_read hello) (after hello []) × KeepsMemory (image hello) veil (program hello) (BlockWrite (Tree 3) (block 3 [])) (after hello [])
    × KeepsMemory (image hello) veil (program hello) done (after hello [])
unfolding instruction_in signed class_at height_of
again = (
  λ state entered goes faithful. subst (SameAfter (code_read hello)) (ap state_of goes)
      (record { word = λ at aligned. twice (nat_le 0x10000080 at && nat_lt at 0x100000c0) (get_or (words_in (code_of hello)) ((at - 0x10000080) / 4) 0) 0 }),
  tt,
  tt,
)

-- before the end of entering nothing is said, nor where the read is not faithful
unsaid : KeepsMemory (image hello) veil (program hello) (code_read other) (history (Note marks.Enter ∷ [])) × KeepsMemory (image hello) veil (program hello) (code_read other) (after hello [])
unfolding instruction_in signed class_at height_of
unsaid = (
  λ state entered goes faithful. absurd (omega (arith, entered)),
  λ state entered goes faithful. absurd (let e : false ≡ true = faithful.each.1 in cc),
)

-- other code was written and read again, which the memory of the machine has not
again_not : KeepsMemory (image hello) veil (program hello) (code_read other) (after hello (BlockWrite (Tree 3) (block 3 (code_of other)) ∷ [])) → ⊥
unfolding instruction_in signed class_at height_of
again_not so =
    let same = so _ (lit≤ tt) refl (record { each = ((((((((((tt, refl), refl), refl), refl), refl), refl), refl), refl), refl)) }) in
    let e : 0x9c600049 ≡ 0x9c600048 = same.word 0x10000080 refl in
    omega (arith, e)

-- ---- open words

abbrev For : Effect → List (Entry ℕ) → List (Entry ℕ) → Type 0
For asked read wrote = ExchangesFor layout (Some asked) read wrote

-- the word at an open address; a byte is one of its word
reads : For (effect.LoadWord 3 0x8000) (entry 0x8000 65 ∷ []) [] × For (effect.LoadByte 3 0x8002) (entry 0x8000 65 ∷ []) [] × For (effect.LoadWord 3 0x10000080) [] [] × For (effect.LoadByte 3 0x20000001) [] []
unfolding class_at
reads = ((65, refl, refl), (65, refl, refl), (refl, refl), (refl, refl))

reads_not : (For (effect.LoadWord 3 0x8000) [] [] → ⊥) × (For (effect.LoadWord 3 0x8000) (entry 0x8004 65 ∷ []) [] → ⊥) × (For (effect.LoadWord 3 0x8000) (entry 0x8000 65 ∷ entry 0x8000 65 ∷ []) [] → ⊥)
    × (For (effect.LoadWord 3 0x8000) (entry 0x8000 65 ∷ []) (entry 0x8000 65 ∷ []) → ⊥) × (For (effect.LoadByte 3 0x8002) (entry 0x8002 65 ∷ []) [] → ⊥)
    × (For (effect.LoadWord 3 0x10000080) (entry 0x10000080 65 ∷ []) [] → ⊥)
unfolding class_at
reads_not = (
  λ so. let e : [] ≡ entry 0x8000 so.0 ∷ [] = so.1 in cc,
  λ so. let e : 0x8004 ≡ 0x8000 = ap first_place so.1 in omega (arith, e),
  λ so. let e : 2 ≡ 1 = ap length so.1 in omega (arith, e),
  λ so. let e : 1 ≡ 0 = ap length so.2 in omega (arith, e),
  λ so. let e : 0x8002 ≡ 0x8000 = ap first_place so.1 in omega (arith, e),
  λ so. let e : 1 ≡ 0 = ap length so.0 in omega (arith, e),
)

-- a word is written as it is stored, and a byte in its word
writes : For (effect.StoreWord 0x8004 7) [] (entry 0x8004 7 ∷ []) × For (effect.StoreByte 0x8001 9) (entry 0x8000 0x01020304 ∷ []) (entry 0x8000 0x01090304 ∷ [])
    × For (effect.StoreWord 0x20000000 7) [] [] × For (effect.StoreByte 0x10000000 7) [] [] × For (effect.Write 3 7) [] [] × For (effect.Secure 6) [] [] × ExchangesFor layout None [] []
unfolding class_at
writes = ((refl, refl), (0x01020304, refl, refl), (refl, refl), (refl, refl), (refl, refl), (refl, refl), (refl, refl))

writes_not : (For (effect.StoreWord 0x8004 7) [] (entry 0x8004 8 ∷ []) → ⊥) × (For (effect.StoreWord 0x8004 7) (entry 0x8004 7 ∷ []) (entry 0x8004 7 ∷ []) → ⊥)
    × (For (effect.StoreByte 0x8001 9) (entry 0x8000 0x01020304 ∷ []) (entry 0x8001 9 ∷ []) → ⊥) × (For (effect.StoreByte 0x8001 9) [] (entry 0x8000 9 ∷ []) → ⊥)
    × (For (effect.StoreWord 0x20000000 7) [] (entry 0x20000000 7 ∷ []) → ⊥) × (For (effect.Write 3 7) (entry 0x8000 7 ∷ []) [] → ⊥) × (ExchangesFor layout None [] (entry 0x8000 7 ∷ []) → ⊥)
unfolding class_at
writes_not = (
  λ so. let e : 8 ≡ 7 = ap first_word so.1 in omega (arith, e),
  λ so. let e : 1 ≡ 0 = ap length so.0 in omega (arith, e),
  λ so. let e : 0x8001 ≡ 0x8000 = ap first_place so.2 in omega (arith, e),
  λ so. let e : [] ≡ entry 0x8000 so.0 ∷ [] = so.1 in cc,
  λ so. let e : 1 ≡ 0 = ap length so.1 in omega (arith, e),
  λ so. let e : 1 ≡ 0 = ap length so.0 in omega (arith, e),
  λ so. let e : 1 ≡ 0 = ap length so.1 in omega (arith, e),
)

abbrev Fits : Event → List Event → Type 0
Fits event events = FitsWords veil (program shared) event (after shared events)

abbrev Exchanged : List (Entry ℕ) → List (Entry ℕ) → Ideal → Type 0
Exchanged read wrote state = ExchangesFor layout (effect_at state) read wrote

-- the word of a load was read in its step, and that of a store written in its; only where the instruction is done it has to be there
fits : Fits done (done ∷ WordRead Secure 0x8000 65 ∷ []) × Fits done (done ∷ WordRead Secure 0x8000 65 ∷ done ∷ WordWrite Secure 0x8004 65 ∷ []) × Fits done [] × Fits (Note marks.CheckStart) (done ∷ [])
    × Fits done (done ∷ WordRead Untrusted 0x8004 1 ∷ WordRead Secure 0x8000 65 ∷ [])
unfolding instruction_in signed class_at height_of
fits = (
  λ state retires entered goes. subst (Exchanged (entry 0x8000 65 ∷ []) []) (ap state_of goes) (65, refl, refl),
  λ state retires entered goes. subst (Exchanged [] (entry 0x8004 65 ∷ [])) (ap state_of goes) (refl, refl),
  λ state retires entered goes. subst (Exchanged [] []) (ap state_of goes) (refl, refl),
  λ state retires entered goes. absurd (cc),
  λ state retires entered goes. subst (Exchanged (entry 0x8000 65 ∷ []) []) (ap state_of goes) (65, refl, refl),
)

-- it was not read, at another address, or twice; and another word was stored
fits_not : (Fits done (done ∷ []) → ⊥) × (Fits done (done ∷ WordRead Secure 0x8004 65 ∷ []) → ⊥) × (Fits done (done ∷ WordRead Secure 0x8000 65 ∷ WordRead Secure 0x8000 66 ∷ []) → ⊥)
    × (Fits done (done ∷ WordRead Secure 0x8000 65 ∷ done ∷ WordWrite Secure 0x8004 66 ∷ []) → ⊥)
unfolding instruction_in signed class_at height_of
fits_not = (
  λ so. let row = so _ refl (lit≤ tt) refl in let e : [] ≡ entry 0x8000 row.0 ∷ [] = row.1 in cc,
  λ so. let row = so _ refl (lit≤ tt) refl in let e : 0x8004 ≡ 0x8000 = ap first_place row.1 in omega (arith, e),
  λ so. let row = so _ refl (lit≤ tt) refl in let e : 2 ≡ 1 = ap length row.1 in omega (arith, e),
  λ so. let row = so _ refl (lit≤ tt) refl in let e : 66 ≡ 65 = ap first_word row.1 in omega (arith, e),
)
