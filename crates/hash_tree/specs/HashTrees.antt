-- Promise: the hash tree of a layout: SHA-1 digests of 20 bytes (FIPS 180-4), three to a node, and four zero bytes after them.
use Rattle.std.specs.Prelude.{ℕ, ◌*◌, List}
use Rattle.sha1.specs.Sha1.{sha1}
use Rattle.regions.specs.declared.layout.Layout.{Layout}
use Rattle.regions.specs.Tree.{fan_of, leaf_of, parent_of, slot_of, tree_blocks}
use Rattle.off_chip.specs.declared.event.Event.{Event}
use Rattle.off_chip.specs.OffChipBytes.{bytes_at}
use Rattle.off_chip.specs.ExpectedDigests.{Digests}
use Rattle.off_chip.specs.Collisions.{Strings}
use Rattle.block_hash.specs.BlockStrings.{block_string, block_digest, program_string}
use Rattle.block_hash.specs.declared.strings.TheConstants.{TREE_TAG}
use Rattle.line_cache.specs.LineMaps.{LineMap}
use Rattle.hash_tree.specs.CachedLines.{held_in}
use Rattle.hash_tree.specs.Schemes.{Scheme}
use Rattle.hash_tree.specs.Standing.{State}

-- how many bytes a digest has
abbrev pub digest_bytes : ℕ
digest_bytes = 20

-- the digest in the slot of a block, in the payload of its parent
abbrev pub slot_in_payload : Layout → ℕ → List ℕ → List ℕ
slot_in_payload layout n payload = bytes_at (digest_bytes * slot_of layout n) digest_bytes payload

-- digests, parents and slots
abbrev pub digests_of : Layout → Digests
digests_of layout = record { digest = block_digest; parent = parent_of layout; slot = slot_in_payload layout }

-- the strings whose digests are compared
abbrev pub strings_hashed : Strings
strings_hashed = record { digest = sha1; block = block_string TREE_TAG; program = program_string }

-- how many blocks of the tree are nodes
abbrev pub nodes_of : Layout → ℕ
nodes_of layout = leaf_of layout 0

-- the tree of a layout, with a veil
unfoldable pub scheme_of : Layout → (ℕ → ℕ → List ℕ → List ℕ) → Scheme
scheme_of layout veiled = record {
  blocks = tree_blocks layout;
  nodes = nodes_of layout;
  digests = digests_of layout;
  strings = strings_hashed;
  digest_bytes = fan_of layout * digest_bytes;
  veiled = veiled;
}

-- a tree with these lines and this digest of the root, on a trace
abbrev pub state_of : LineMap → List ℕ → List Event → State
state_of lines root trace = record { lines = held_in lines; root = root; trace = trace }
