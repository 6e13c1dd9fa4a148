-- Worked traces of the bus machine. The words are by an assembler, and the answers were worked out by hand.
use Rattle.std.proofs.Common.{◌≡◌, ℕ, true, false, eqb, cond, List, [], ◌∷◌, ◌++◌, replicate, Option, Some, None, refl, lit≤}
use Rattle.execution.specs.Run.{Next, Goes, Stops}
use Rattle.aegis_num.specs.declared.Block.{Block}
use Rattle.aegis_num.specs.declared.Place.TheVariants.{Tree, Log}
use Rattle.orbis_word.specs.Reading.{instruction_in, signed}
use Rattle.regions.specs.declared.Layout.{Layout}
use Rattle.regions.specs.Addresses.{class_at}
use Rattle.regions.specs.Tree.{height_of}
use Rattle.off_chip.specs.declared.Event.{Event}
use Rattle.off_chip.specs.declared.Event.TheVariants.{BlockRead, BlockWrite, WordRead, WordWrite, Note}
use Rattle.off_chip.specs.declared.Mark.TheVariants as marks
use Rattle.off_chip.specs.declared.Who.TheVariants.{Secure, Untrusted}
use Rattle.off_chip.specs.Histories.{history}
use Rattle.orbis_core.specs.declared.Why.TheVariants as why
use Rattle.orbis_core.specs.ByteOrder.{bytes_of}
use Rattle.orbis_core.specs.Ideal.{Ideal, IdealEnd, Ended, Index, Refused, Starved}
use Rattle.orbis_core.specs.Processor.{register}
use Rattle.bus_machine.specs.BusMachine.{LoadedProgram, Veil, block_taken, bus_machine, bus_step_after, is_data}

-- a verified block, a private one, a code block and a log block: the tree blocks 1, 2 and 3 under the root, and one of the log
abbrev pub layout : Layout
layout = record {
  verified = 1;
  private = 1;
  constants = 0;
  code = 1;
  log = 1;
  shared = 4;
  data_fits = lit≤ tt;
  log_fits = lit≤ tt;
  shared_fits = lit≤ tt;
}

-- two data blocks, so that a third position is filled up with zeros
abbrev two_blocks : Layout
two_blocks = record {
  verified = 1;
  private = 0;
  constants = 0;
  code = 1;
  log = 0;
  shared = 4;
  data_fits = lit≤ tt;
  log_fits = lit≤ tt;
  shared_fits = lit≤ tt;
}

data_blocks : (is_data layout 0 ≡ false) × (is_data layout 1 ≡ true) × (is_data layout 3 ≡ true) × (is_data layout 4 ≡ false) × (is_data two_blocks 2 ≡ true) × (is_data two_blocks 3 ≡ false)
unfolding height_of
data_blocks = (refl, refl, refl, refl, refl, refl)

-- four words of code, filled up with instructions that do nothing
abbrev pub code_of : List ℕ → List ℕ
code_of words = bytes_of (words ++ replicate 12 0x15000000)

abbrev pub program : List ℕ → List ℕ → LoadedProgram
program words input = record { layout = layout; statics = code_of words; entry = 0; input = input }

-- a veil that gives private blocks their stamp as each byte
abbrev pub veil : Veil
veil n stamp payload = cond (eqb n 2) (replicate 64 stamp) payload

abbrev pub block : ℕ → List ℕ → Block
block stamp payload = record { payload = payload; stamp = stamp }

-- entering takes seven events here; what it reads is no part of the machine
abbrev pub entering : List Event
entering =
    Note marks.Enter
    ∷ BlockWrite (Tree 1) (block 1 [])
    ∷ BlockWrite (Tree 2) (block 2 [])
    ∷ BlockRead (Tree 3) (block 9 (replicate 64 0))
    ∷ BlockWrite (Tree 3) (block 3 [])
    ∷ BlockWrite (Tree 0) (block 4 [])
    ∷ BlockWrite (Log 0) (block 5 [])
    ∷ []

abbrev pub done : Event
done = Note (marks.Retire Secure)

-- what is shown of a machine: its end, if it has ended, its program counter, registers 3 and 11, the bytes that it released, the input left, and how many
-- loose words it took
data Shown : Type 0 where
  At : Option IdealEnd → ℕ → ℕ → ℕ → List ℕ → List ℕ → ℕ → Shown

abbrev shown_at : Option IdealEnd → Ideal → Shown
shown_at end state = At end state.core.pc (register state.core 3) (register state.core 11) state.traffic.bytes state.traffic.input state.traffic.taken

abbrev shown : Next Ideal IdealEnd → Shown
shown (Goes state) = shown_at None state
shown (Stops end state) = shown_at (Some end) state

-- after these events
abbrev after : List ℕ → List ℕ → List Event → Shown
after words input events = shown (bus_machine veil (program words input) (history (entering ++ events)))

-- and by the step under way
abbrev next_after : List ℕ → List ℕ → List Event → Shown
next_after words input events = shown (bus_step_after 7 veil (program words input) (history (entering ++ events)))

-- l.addi r3,r0,72; release; exit
abbrev pub hello : List ℕ
hello = 0x9c600048 ∷ 0x70000006 ∷ 0x70000001 ∷ 0x15000000 ∷ []

-- the same with 73
abbrev other : List ℕ
other = 0x9c600049 ∷ 0x70000006 ∷ 0x70000001 ∷ 0x15000000 ∷ []

-- it starts with the image, steps where an instruction of the secure program is done, and stays where it has ended
runs : (after hello (7 ∷ []) [] ≡ At None 0x10000080 0 0 [] (7 ∷ []) 0)
    × (after hello [] (done ∷ []) ≡ At None 0x10000084 72 0 [] [] 0)
    × (after hello [] (done ∷ Note (marks.Retire Untrusted) ∷ Note marks.CheckStart ∷ []) ≡ At None 0x10000084 72 0 [] [] 0)
    × (after hello [] (done ∷ done ∷ []) ≡ At None 0x10000088 72 0 (72 ∷ []) [] 0)
    × (after hello [] (done ∷ done ∷ done ∷ []) ≡ At (Some Ended) 0x1000008c 72 0 (72 ∷ []) [] 0)
    × (after hello [] (done ∷ done ∷ done ∷ BlockRead (Tree 3) (block 3 (code_of other)) ∷ done ∷ []) ≡ At (Some Ended) 0x1000008c 72 0 (72 ∷ []) [] 0)
unfolding instruction_in signed class_at height_of
runs = (refl, refl, refl, refl, refl, refl)

-- a read of a block that is changed changes the program from this step on, also the one that is under way; a node, a write and a mark change nothing
reads : (after hello [] (BlockRead (Tree 0) (block 4 (code_of other)) ∷ BlockRead (Tree 3) (block 3 (code_of other)) ∷ done ∷ []) ≡ At None 0x10000084 73 0 [] [] 0)
    × (after hello [] (done ∷ BlockRead (Tree 3) (block 3 (code_of other)) ∷ done ∷ []) ≡ At None 0x10000088 72 0 (72 ∷ []) [] 0)
    × (after hello [] (BlockRead (Tree 0) (block 4 (code_of other)) ∷ BlockWrite (Tree 3) (block 3 (code_of other)) ∷ Note (marks.Drop (Tree 3)) ∷ done ∷ []) ≡ At None 0x10000084 72 0 [] [] 0)
    × (next_after hello [] (BlockRead (Tree 3) (block 3 (code_of other)) ∷ []) ≡ At None 0x10000084 73 0 [] [] 0)
    × (after hello [] (BlockRead (Tree 3) (block 3 (code_of other)) ∷ []) ≡ At None 0x10000080 0 0 [] [] 0)
    × (next_after hello [] [] ≡ At None 0x10000084 72 0 [] [] 0)
unfolding instruction_in signed class_at height_of
reads = (refl, refl, refl, refl, refl, refl)

-- of two reads of one block in a step the later one counts
later_read : after hello [] (BlockRead (Tree 3) (block 3 (replicate 64 0)) ∷ BlockRead (Tree 3) (block 3 (code_of other)) ∷ done ∷ []) ≡ At None 0x10000084 73 0 [] [] 0
unfolding instruction_in signed class_at height_of
later_read = refl

-- private on; l.movhi r4,0x1000; l.lwz r3,64(r4): a private block stands without its pad
abbrev pub private_load : List ℕ
private_load = 0x70000004 ∷ 0x18801000 ∷ 0x84640040 ∷ 0x15000000 ∷ []

-- l.movhi r4,0x1000; l.lwz r3,0(r4): a verified one as it is
abbrev verified_load : List ℕ
verified_load = 0x18801000 ∷ 0x84640000 ∷ 0x15000000 ∷ 0x15000000 ∷ []

-- l.movhi r4,0x2000; l.lwz r3,0(r4): a logged word, also as a check read it
abbrev logged_load : List ℕ
logged_load = 0x18802000 ∷ 0x84640000 ∷ 0x15000000 ∷ 0x15000000 ∷ []

blocks : (after private_load [] (done ∷ done ∷ BlockRead (Tree 2) (block 5 (replicate 64 1)) ∷ done ∷ []) ≡ At None 0x1000008c 0x05050505 0 [] [] 0)
    × (after verified_load [] (done ∷ BlockRead (Tree 1) (block 5 (replicate 64 1)) ∷ done ∷ []) ≡ At None 0x10000088 0x01010101 0 [] [] 0)
    × (after verified_load [] (done ∷ BlockRead (Log 0) (block 5 (replicate 64 1)) ∷ done ∷ []) ≡ At None 0x10000088 0 0 [] [] 0)
    × (after logged_load [] (Note marks.CheckStart ∷ BlockRead (Log 0) (block 5 (replicate 64 2)) ∷ Note marks.CheckPassed ∷ done ∷ done ∷ []) ≡ At None 0x10000088 0x02020202 0 [] [] 0)
    × (after logged_load [] (done ∷ BlockRead (Log 1) (block 5 (replicate 64 2)) ∷ BlockRead (Tree 4) (block 5 (replicate 64 2)) ∷ done ∷ []) ≡ At None 0x10000088 0 0 [] [] 0)
unfolding instruction_in signed class_at height_of
blocks = (refl, refl, refl, refl, refl)

-- l.ori r4,r0,0x8000; l.lwz r3,0(r4); release; exit
abbrev shared : List ℕ
shared = 0xa8808000 ∷ 0x84640000 ∷ 0x70000006 ∷ 0x70000001 ∷ []

-- an open load takes the word that the secure program read in this step at this address, and else the machine is starved
opens : (after shared [] (done ∷ WordRead Secure 0x8000 65 ∷ done ∷ []) ≡ At None 0x10000088 65 0 [] [] 1)
    × (after shared [] (done ∷ WordRead Untrusted 0x8000 66 ∷ WordRead Secure 0x8004 67 ∷ WordRead Secure 0x8000 65 ∷ done ∷ []) ≡ At None 0x10000088 65 0 [] [] 1)
    × (after shared [] (done ∷ done ∷ []) ≡ At (Some Starved) 0x10000084 0 0 [] [] 0)
    × (after shared [] (done ∷ WordRead Secure 0x8004 65 ∷ done ∷ []) ≡ At (Some Starved) 0x10000084 0 0 [] [] 0)
    × (after shared [] (done ∷ WordRead Untrusted 0x8000 65 ∷ done ∷ []) ≡ At (Some Starved) 0x10000084 0 0 [] [] 0)
    × (after shared [] (done ∷ WordWrite Secure 0x8000 65 ∷ done ∷ []) ≡ At (Some Starved) 0x10000084 0 0 [] [] 0)
    × (after shared [] (WordRead Secure 0x8000 65 ∷ done ∷ done ∷ []) ≡ At (Some Starved) 0x10000084 0 0 [] [] 0)
    × (next_after shared [] (done ∷ WordRead Secure 0x8000 65 ∷ []) ≡ At None 0x10000088 65 0 [] [] 1)
unfolding instruction_in signed class_at height_of
opens = (refl, refl, refl, refl, refl, refl, refl, refl)

-- l.ori r4,r0,0x8000; l.lbz r3,2(r4): the byte there of the word that it lies in
abbrev shared_byte : List ℕ
shared_byte = 0xa8808000 ∷ 0x8c640002 ∷ 0x15000000 ∷ 0x15000000 ∷ []

bytes : (after shared_byte [] (done ∷ WordRead Secure 0x8000 0x01020304 ∷ done ∷ []) ≡ At None 0x10000088 3 0 [] [] 1)
    × (after shared_byte [] (done ∷ WordRead Secure 0x8002 0x01020304 ∷ done ∷ []) ≡ At (Some Starved) 0x10000084 0 0 [] [] 0)
unfolding instruction_in signed class_at height_of
bytes = (refl, refl)

-- input; an index trap with r3; and a private word in TE, which is refused in the step under way
others : (after (0x70000007 ∷ 0x70000009 ∷ 0x15000000 ∷ 0x15000000 ∷ []) (9 ∷ 8 ∷ []) (done ∷ done ∷ []) ≡ At (Some (Index 0)) 0x10000088 0 9 [] (8 ∷ []) 0)
    × (next_after (0x18801000 ∷ 0x84640040 ∷ 0x15000000 ∷ 0x15000000 ∷ []) [] (done ∷ []) ≡ At (Some (Refused why.Rights)) 0x10000084 0 0 [] [] 0)
unfolding instruction_in signed class_at height_of
others = (refl, refl)

abbrev zeros : ℕ → ℕ
zeros at = 0

-- a block that the layout lacks is not taken
inside : (block_taken layout veil (Log 0) (block 5 (replicate 64 2)) zeros 0x20000004 ≡ 0x02020202) × (block_taken layout veil (Log 1) (block 5 (replicate 64 2)) zeros 0x20000044 ≡ 0)
    × (block_taken layout veil (Tree 3) (block 5 (replicate 64 2)) zeros 0x10000084 ≡ 0x02020202) × (block_taken layout veil (Tree 4) (block 5 (replicate 64 2)) zeros 0x100000c4 ≡ 0)
    × (block_taken layout veil (Tree 3) (block 5 (replicate 64 2)) zeros 0x100000c0 ≡ 0) × (block_taken layout veil (Tree 3) (block 5 (replicate 64 2)) zeros 0x1000007c ≡ 0)
unfolding height_of
inside = (refl, refl, refl, refl, refl, refl)
