-- Promise: what it means that an image is sound: on the ideal machine it is never refused, and makes no byte access to an open address.
use Rattle.std.proofs.Common.{lit≤}
use Rattle.std.specs.Prelude.{◌≡◌, ◌≢◌, ℕ, ◌-◌, List, ◌++◌, [], ◌∷◌, length, replicate, Bool, false, Option, Some}
use Rattle.execution.specs.Run.{Goes, Stops}
use Rattle.execution.specs.Traffic.{Entry}
use Rattle.regions.specs.declared.Layout.{Layout}
use Rattle.regions.specs.LooseClasses.{shared_loose, shared_and_logged_loose}
use Rattle.orbis_core.specs.declared.effect.Effect.{Effect}
use Rattle.orbis_core.specs.declared.effect.Effect.TheVariants.{LoadByte, StoreByte}
use Rattle.orbis_core.specs.declared.memory.Why.{Why}
use Rattle.orbis_core.specs.ByteOrder.{bytes_of}
use Rattle.orbis_core.specs.Ideal.{Ideal, Refused, effect_at, ideal_run, is_among}

-- this is an access to a byte at an open address
abbrev pub is_open_byte : Layout → Option Effect → Bool
is_open_byte layout (Some (LoadByte d at)) = is_among shared_loose layout at
is_open_byte layout (Some (StoreByte at byte)) = is_among shared_loose layout at
is_open_byte layout asked = false

-- for every input and every list of loose words, with shared and logged words loose
pub record IsSound (layout : Layout) (statics : List ℕ) (entry : ℕ) : Type 0 where
  pub never_refused : (input : List ℕ) (loose : List (Entry ℕ)) (steps : ℕ) (why : Why) (at : Ideal) →
      ideal_run layout shared_and_logged_loose statics entry input loose steps ≢ Stops (Refused why) at
  pub no_open_byte : (input : List ℕ) (loose : List (Entry ℕ)) (steps : ℕ) (at : Ideal) →
      ideal_run layout shared_and_logged_loose statics entry input loose steps ≡ Goes at → is_open_byte layout (effect_at at) ≡ false

-- a layout of one code block and one log block
abbrev pub small_layout : Layout
small_layout = record {
  verified = 0;
  private = 0;
  constants = 0;
  code = 1;
  log = 1;
  shared = 4;
  data_fits = lit≤ tt;
  log_fits = lit≤ tt;
  shared_fits = lit≤ tt;
}

-- an image of these words of code, filled up with instructions that do nothing
abbrev pub IsSoundCode : List ℕ → Type 0
IsSoundCode words = IsSound small_layout (bytes_of (words ++ replicate (16 - length words) 0x15000000)) 0

-- worked images: to release and to exit is sound
abbrev pub ReleaseIsSound : Type 0
ReleaseIsSound = IsSoundCode (0x70000006 ∷ 0x70000001 ∷ [])

-- not so to use a logged word as the address of a word
abbrev pub LoggedAddressIsUnsound : Type 0
LoggedAddressIsUnsound = IsSoundCode (0x18802000 ∷ 0x84a40000 ∷ 0x84650000 ∷ 0x70000001 ∷ []) → ⊥

-- nor to load a byte from a shared address, or to store one there
abbrev pub OpenLoadIsUnsound : Type 0
OpenLoadIsUnsound = IsSoundCode (0xa8808000 ∷ 0x8c640000 ∷ 0x70000001 ∷ []) → ⊥

abbrev pub OpenStoreIsUnsound : Type 0
OpenStoreIsUnsound = IsSoundCode (0xa8808000 ∷ 0xd8042800 ∷ 0x70000001 ∷ []) → ⊥
