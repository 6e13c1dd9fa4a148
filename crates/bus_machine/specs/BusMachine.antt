-- Promise: the bus machine of a trace: the ideal machine, on the blocks that the processor read and on the open words that the secure program
-- read. It has no digest, slot, sum or cache: it computes on whatever came over the bus.
use Rattle.std.specs.Prelude.{ℕ, Bool, ◌-◌, ◌==◌, ◌&&◌, nat_le, nat_lt, if◌then◌else◌, List, [], ◌∷◌, Option, Some, None, length}
use Rattle.execution.specs.Run.{Next, Goes, Stops, and_then}
use Rattle.aegis_num.specs.declared.storage.Block.{Block}
use Rattle.aegis_num.specs.declared.storage.Place.{Place}
use Rattle.aegis_num.specs.declared.storage.Place.TheVariants.{Tree, Log}
use Rattle.regions.specs.declared.Layout.{Layout}
use Rattle.regions.specs.Addresses.{block_start}
use Rattle.regions.specs.Blocks.{data_blocks}
use Rattle.regions.specs.Tree.{leaf_of}
use Rattle.off_chip.specs.declared.event.Event.{Event}
use Rattle.off_chip.specs.declared.event.Event.TheVariants.{BlockRead, WordRead}
use Rattle.off_chip.specs.declared.event.Who.TheVariants.{Secure}
use Rattle.off_chip.specs.Histories.{History, no_event, ◌◂◌, in_order, first_told}
use Rattle.off_chip.specs.Boundaries.{enter_events, is_retire, since_step}
use Rattle.orbis_core.specs.ByteOrder.{log_block_start, with_block}
use Rattle.orbis_core.specs.Ideal.{Ideal, IdealEnd, from_reads, ideal_start, machine_step}

-- A payload on the chip for one off the chip, by the number of the tree block and its stamp: the pad is removed where the block is private.
abbrev pub Veil : Type 0
Veil = ℕ → ℕ → List ℕ → List ℕ

-- what a program begins with: its layout, its constant and code blocks, the number of its first word of code, and its input
pub record LoadedProgram : Type 0 where
  pub layout : Layout
  pub statics : List ℕ
  pub entry : ℕ
  pub input : List ℕ

-- ---- blocks that were read

-- whether a tree block is a data block of the layout: it is no node, and no position that is filled up with zeros
abbrev pub is_data : Layout → ℕ → Bool
is_data layout n = nat_le (leaf_of layout 0) n && nat_lt (n - leaf_of layout 0) (data_blocks layout)

-- a memory after a read of a block: a data block and a log block that the layout has take the payload, and nodes are no part of it
abbrev pub block_taken : Layout → Veil → Place → Block → (ℕ → ℕ) → ℕ → ℕ
block_taken layout veil (Tree n) block memory =
    if is_data layout n then with_block memory (block_start (n - leaf_of layout 0)) (veil n block.stamp block.payload) else memory
block_taken layout veil (Log n) block memory = if nat_lt n layout.log then with_block memory (log_block_start n) block.payload else memory

-- a memory after an event: no other event changes it
abbrev pub memory_after : Layout → Veil → Event → (ℕ → ℕ) → ℕ → ℕ
memory_after layout veil (BlockRead at block) memory = block_taken layout veil at block memory
memory_after layout veil event memory = memory

-- and after events, in order
abbrev pub blocks_taken : Layout → Veil → List Event → (ℕ → ℕ) → ℕ → ℕ
blocks_taken layout veil [] memory = memory
blocks_taken layout veil (event ∷ events) memory = blocks_taken layout veil events (memory_after layout veil event memory)

-- ---- open words that were read

-- the word that an event gives the secure program at an address, if it does
abbrev pub word_given : ℕ → Event → Option ℕ
word_given at (WordRead Secure from word) = if from == at then Some word else None
word_given at event = None

-- the word that these events give it at an address: that of the first one that does
abbrev pub word_among : List Event → ℕ → Option ℕ
word_among [] at = None
word_among (event ∷ events) at = first_told (word_given at event) (word_among events at)

-- ---- the machine

-- the machine, unless it has ended, with the memory after events
abbrev pub with_reads : Layout → Veil → List Event → Next Ideal IdealEnd → Next Ideal IdealEnd
with_reads layout veil events (Goes state) = Goes (record state { memory = blocks_taken layout veil events state.memory })
with_reads layout veil events (Stops end state) = Stops end state

-- what it has come to before the first step: it stands where the ideal machine starts
abbrev pub bus_start : LoadedProgram → Next Ideal IdealEnd
bus_start program = Goes (ideal_start program.layout program.statics program.entry program.input [])

-- one step of it, where these are the events of the step: an open load is answered by the word that they give at the address of its word
abbrev pub bus_step : Layout → List Event → Ideal → Next Ideal IdealEnd
bus_step layout events state = machine_step layout (from_reads (word_among events)) state

-- it steps where an instruction of the secure program is done, and at each other event it takes what a block read gives
abbrev pub bus_goes_on : ℕ → Layout → Veil → Event → History → Next Ideal IdealEnd → Next Ideal IdealEnd
bus_goes_on entry layout veil event older now =
    if is_retire event then and_then now (bus_step layout (since_step entry older)) else with_reads layout veil (event ∷ []) now

-- what it has come to after a history, where entering takes so many events: the blocks that were read since the latest boundary have been taken
abbrev pub bus_after : ℕ → Veil → LoadedProgram → History → Next Ideal IdealEnd
bus_after entry veil program no_event = bus_start program
bus_after entry veil program (event ◂ older) =
    if nat_lt (length (in_order older)) entry then bus_start program
    else bus_goes_on entry program.layout veil event older (bus_after entry veil program older)

-- the bus machine of a history: entering takes as many events as the layout says
abbrev pub bus_machine : Veil → LoadedProgram → History → Next Ideal IdealEnd
bus_machine veil program older = bus_after (enter_events program.layout) veil program older

-- where it comes to by the step that is under way, over the events of that step so far
abbrev pub bus_step_after : ℕ → Veil → LoadedProgram → History → Next Ideal IdealEnd
bus_step_after entry veil program older = and_then (bus_after entry veil program older) (bus_step program.layout (since_step entry older))
