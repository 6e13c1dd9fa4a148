-- Device: the laws that the veil of private blocks keeps.
use Rattle.std.proofs.Common.{◌≡◌, ℕ, ◌<◌, Bool, true, false, cond, List, length, refl, sym, ◌∙◌, arith}
use Rattle.regions.specs.declared.layout.Layout.{Layout}
use Rattle.hash_tree.specs.HashTrees.{nodes_of}
use Rattle.aes_pad.specs.Cipher.{xor_bytes}
use Rattle.aes_pad.specs.Pads.{pad}
use Rattle.aes_pad.proofs.WordLemmas.{xor_bytes_twice}
use Rattle.aes_pad.proofs.LengthLemmas.{sum-long, pad-long}
use Rattle.secure_memory.specs.PrivatePads.{Padding, is_private_block, hidden_payload}

under : (b : Bool) (sum pads payload : List ℕ) → length payload ≡ 64 → length pads ≡ 64
    → cond b (xor_bytes (cond b (xor_bytes payload pads) payload) pads) (cond b (xor_bytes payload pads) payload) ≡ payload
under true sum pads payload long same = xor_bytes_twice payload pads (long ∙ sym same)
under false sum pads payload long same = refl

-- a pad that is added twice is gone
pub hidden-twice : (padding : Padding) (n stamp : ℕ) (payload : List ℕ) → length payload ≡ 64 → hidden_payload padding n stamp (hidden_payload padding n stamp payload) ≡ payload
hidden-twice padding n stamp payload long = under (is_private_block padding.layout n) payload (pad padding.key n stamp) payload long (pad-long padding.key n stamp)

one_of : (b : Bool) (pads payload : List ℕ) → length payload ≡ 64 → length pads ≡ 64 → length (cond b (xor_bytes payload pads) payload) ≡ 64
one_of true pads payload long same = sum-long payload pads (long ∙ sym same) ∙ long
one_of false pads payload long same = long

-- the length stays
pub hidden-long : (padding : Padding) (n stamp : ℕ) (payload : List ℕ) → length payload ≡ 64 → length (hidden_payload padding n stamp payload) ≡ 64
hidden-long padding n stamp payload long = one_of (is_private_block padding.layout n) (pad padding.key n stamp) payload long (pad-long padding.key n stamp)

-- a node is no block of private data
node-bare : (layout : Layout) (n : ℕ) → n < nodes_of layout → is_private_block layout n ≡ false
node-bare layout n node = grind (arith, node)

-- nodes stay as they are
pub hidden-node : (padding : Padding) (n stamp : ℕ) (payload : List ℕ) → n < nodes_of padding.layout → hidden_payload padding n stamp payload ≡ payload
hidden-node padding n stamp payload node = rw (node-bare padding.layout n node) refl
