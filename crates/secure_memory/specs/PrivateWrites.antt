-- Promise: what a secure memory writes of its private blocks: the payload on the chip, with the pad of the block's number and of the write's
-- stamp added.
use Rattle.std.specs.Prelude.{◌≡◌, ℕ, true, List, ◌++◌, Option, Some, Result}
use Rattle.std.specs.List.{All}
use Rattle.aegis_num.specs.declared.storage.Block.{Block}
use Rattle.aegis_num.specs.declared.storage.Place.TheVariants.{Tree}
use Rattle.off_chip.specs.declared.event.Event.{Event}
use Rattle.off_chip.specs.declared.event.Event.TheVariants.{BlockWrite}
use Rattle.line_cache.specs.LineMaps.{payload_at}
use Rattle.aes_pad.specs.Cipher.{xor_bytes}
use Rattle.aes_pad.specs.Pads.{pad}
use Rattle.orbis_core.specs.declared.memory.Stop.{Stop}
use Rattle.secure_memory.specs.MemorySights.{IsReady, Sight}
use Rattle.secure_memory.specs.MemoryAccesses.{Fetches, LoadsByte, LoadsWord, StoresByte, StoresWord}
use Rattle.secure_memory.specs.PrivatePads.{Padding, is_private_block}

-- where an event writes a private block, it writes the payload that the block has, with the pad of its number and of the write's stamp added
pub record PadsWrite (padding : Padding) (payload_of : ℕ → Option (List ℕ)) (event : Event) : Type 0 where
  pub padded : (n : ℕ) (block : Block) → event ≡ BlockWrite (Tree n) block → is_private_block padding.layout n ≡ true
      → (payload : List ℕ) × (payload_of n ≡ Some payload) × (block.payload ≡ xor_bytes payload (pad padding.key n block.stamp))

-- the events that were appended do
pub record PadsWrites (padding : Padding) (payload_of : ℕ → Option (List ℕ)) (old new : List Event) : Type 0 where
  pub events : List Event
  pub appended : new ≡ old ++ events
  pub each : All (PadsWrite padding payload_of) events

-- those of an access do, where a block has the payload of its line before that access
abbrev pub PadsPrivate : {L : Type 0} → Sight L → Sight L → Type 0
PadsPrivate old new = PadsWrites old.tree.veil (payload_at old.lines) old.trace new.trace

-- each of the five accesses does, whether it is done, refused or stopped
pub record PrivateWritesArePadded (L : Type 0) : Type 0 where
  pub fetch : (at : ℕ) (answer : Result ℕ Stop) (old new : Sight L) → IsReady old → Fetches at answer old new → PadsPrivate old new
  pub load_word : (at : ℕ) (answer : Result ℕ Stop) (old new : Sight L) → IsReady old → LoadsWord at answer old new → PadsPrivate old new
  pub load_byte : (at : ℕ) (answer : Result ℕ Stop) (old new : Sight L) → IsReady old → LoadsByte at answer old new → PadsPrivate old new
  pub store_word : (at word : ℕ) (answer : Result (Unit {0}) Stop) (old new : Sight L) → IsReady old → StoresWord at word answer old new → PadsPrivate old new
  pub store_byte : (at byte : ℕ) (answer : Result (Unit {0}) Stop) (old new : Sight L) → IsReady old → StoresByte at byte answer old new → PadsPrivate old new
