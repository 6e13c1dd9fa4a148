-- Worked examples: which tree blocks of a memory hold private data, and what stands off chip for a payload. Ten data blocks have a tree
-- three levels high, whose nodes are the blocks 0 to 12: block 13 is verified, 14 and 15 are private, and 16 to 18 are constant.
use Rattle.std.proofs.Common.{◌≡◌, ℕ, true, false, List, refl, lit≤}
use Rattle.aegis_num.specs.declared.storage.Key.{Key}
use Rattle.regions.specs.declared.layout.Layout.{Layout}
use Rattle.regions.specs.Tree.{height_of}
use Rattle.aes_pad.specs.Cipher.{xor_bytes}
use Rattle.aes_pad.specs.Pads.{pad}
use Rattle.secure_memory.specs.PrivatePads.{first_private, is_private_block, hidden_payload}

abbrev layout : Layout
layout = record { verified = 1; private = 2; constants = 3; code = 4; log = 5; shared = 12; data_fits = lit≤ tt; log_fits = lit≤ tt; shared_fits = lit≤ tt }

first : first_private layout ≡ 14
unfolding height_of
first = refl

root-bare : is_private_block layout 0 ≡ false
unfolding height_of
root-bare = refl

last_node-bare : is_private_block layout 12 ≡ false
unfolding height_of
last_node-bare = refl

verified-bare : is_private_block layout 13 ≡ false
unfolding height_of
verified-bare = refl

private-hidden : is_private_block layout 14 ≡ true
unfolding height_of
private-hidden = refl

last_private-hidden : is_private_block layout 15 ≡ true
unfolding height_of
last_private-hidden = refl

constant-bare : is_private_block layout 16 ≡ false
unfolding height_of
constant-bare = refl

-- what stands off chip for a private payload is its sum with the pad of its number and stamp, and for each other one the payload
off_chip-private : (key : Key) (payload : List ℕ) → hidden_payload (record { key = key; layout = layout }) 15 7 payload ≡ xor_bytes payload (pad key 15 7)
unfolding height_of
off_chip-private key payload = refl

off_chip-verified : (key : Key) (payload : List ℕ) → hidden_payload (record { key = key; layout = layout }) 13 7 payload ≡ payload
unfolding height_of
off_chip-verified key payload = refl
