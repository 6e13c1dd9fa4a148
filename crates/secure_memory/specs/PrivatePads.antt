-- Promise: the veil over private blocks: off chip their payloads stand with the pad of the block's number and stamp added.
use Rattle.std.specs.Prelude.{ℕ, ◌+◌, Bool, ◌&&◌, nat_le, nat_lt, if◌then◌else◌, List}
use Rattle.aegis_num.specs.declared.storage.Key.{Key}
use Rattle.regions.specs.declared.layout.Layout.{Layout}
use Rattle.hash_tree.specs.HashTrees.{nodes_of}
use Rattle.aes_pad.specs.Cipher.{xor_bytes}
use Rattle.aes_pad.specs.Pads.{pad}

-- the key of the pads, and the layout of the memory that they guard
pub record Padding : Type 0 where
  pub key : Key
  pub layout : Layout

-- the first tree block of private data: it comes after the nodes and the verified blocks
abbrev pub first_private : Layout → ℕ
first_private layout = nodes_of layout + layout.verified

-- whether a tree block is one of private data
abbrev pub is_private_block : Layout → ℕ → Bool
is_private_block layout n = nat_le (first_private layout) n && nat_lt n (first_private layout + layout.private)

-- the payload that stands off chip for a payload on the chip, by the number of the tree block and its stamp, and back
abbrev pub hidden_payload : Padding → ℕ → ℕ → List ℕ → List ℕ
hidden_payload padding n stamp payload = if is_private_block padding.layout n then xor_bytes payload (pad padding.key n stamp) else payload
