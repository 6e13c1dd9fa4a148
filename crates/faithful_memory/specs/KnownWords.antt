-- Promise: reads of blocks that give the words which a memory has, and memories that have the same words.
use Rattle.std.specs.Prelude.{◌≡◌, ℕ, ◌%◌, ◌<◌, ⊤, IsTrue, List, ◌∷◌, ◌++◌}
use Rattle.std.specs.Bool.{OnTrue}
use Rattle.aegis_num.specs.declared.storage.Place.TheVariants.{Tree}
use Rattle.regions.specs.declared.addresses.TheConstants.{LOG_START}
use Rattle.regions.specs.declared.layout.Layout.{Layout}
use Rattle.off_chip.specs.declared.event.Event.{Event}
use Rattle.off_chip.specs.declared.event.Event.TheVariants.{BlockRead}
use Rattle.off_chip.specs.FaithfulReads.{is_tree_read}
use Rattle.off_chip.specs.Histories.{History, Each}
use Rattle.hash_tree.specs.AsWritten.{is_as_written}
use Rattle.secure_memory.specs.BlockWords.{AreWordsAt, is_memory_block, on_chip, start_at}
use Rattle.secure_memory.specs.MemorySights.{HasWordsAt, Sight, contents_of_place}
use Rattle.bus_machine.specs.BusMachine.{Veil}

-- ---- words

-- two memories have the same word at each address of a word. What they have at other addresses is never read
pub record HasSameWords (one other : ℕ → ℕ) : Type 0 where
  pub word : (at : ℕ) → at % 4 ≡ 0 → other at ≡ one at

-- and at each such address before the log
pub record HasSameDataWords (one other : ℕ → ℕ) : Type 0 where
  pub word : (at : ℕ) → at % 4 ≡ 0 → at < LOG_START → other at ≡ one at

-- ---- reads

-- where an event reads a block of memory, the payload on the chip is the words that a memory has there
abbrev pub GivesWords : Layout → Veil → (ℕ → ℕ) → Event → Type 0
GivesWords layout veil memory (BlockRead place block) = IsTrue (is_memory_block layout place) → AreWordsAt memory (start_at layout place) (on_chip veil place block)
GivesWords layout veil memory event = ⊤

-- where it reads a data block
abbrev pub GivesDataWords : Layout → Veil → (ℕ → ℕ) → Event → Type 0
GivesDataWords layout veil memory event = OnTrue (is_tree_read event) (GivesWords layout veil memory event)

-- each of these events does
pub record AllGiveWords (layout : Layout) (veil : Veil) (memory : ℕ → ℕ) (events : List Event) : Type 0 where
  pub each : (before : List Event) (event : Event) (rest : List Event) → events ≡ before ++ event ∷ rest → GivesWords layout veil memory event

pub record AllGiveDataWords (layout : Layout) (veil : Veil) (memory : ℕ → ℕ) (events : List Event) : Type 0 where
  pub each : (before : List Event) (event : Event) (rest : List Event) → events ≡ before ++ event ∷ rest → GivesDataWords layout veil memory event

-- each read of a tree block gave the last write-back, where there was one; reads of the log gave whatever they gave
pub record TreeAsWritten (older : History) : Type 0 where
  pub each : Each (λ event older. OnTrue (is_tree_read event) (IsTrue (is_as_written event older))) older

-- ---- contents

-- each data block has contents, which are the words of a memory of plain words; the blocks of the log have whatever they have
pub record HasDataContents {L : Type 0} (sight : Sight L) (memory : ℕ → ℕ) : Type 0 where
  pub block : (n : ℕ) → IsTrue (is_memory_block sight.layout (Tree n)) → HasWordsAt memory (start_at sight.layout (Tree n)) (contents_of_place sight (Tree n))
