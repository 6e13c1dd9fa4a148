-- Promise: what a cached tree keeps on the trace of its bus.
use Rattle.std.specs.Prelude.{◌≡◌, ℕ, ◌-◌, ◌<◌, ◌≤◌, Bool, true, false, ⊤, List, length, drop, replicate, Option, Some, None, unwrap_or, ◌⊎◌, if◌then◌else◌}
use Rattle.aegis_num.specs.declared.storage.Block.{Block}
use Rattle.aegis_num.specs.declared.storage.Place.{Place}
use Rattle.aegis_num.specs.declared.storage.Place.TheVariants.{Tree}
use Rattle.regions.specs.declared.addresses.TheConstants.{BLOCK_BYTES}
use Rattle.off_chip.specs.declared.event.Event.{Event}
use Rattle.off_chip.specs.declared.event.Event.TheVariants.{BlockRead, BlockWrite, Note}
use Rattle.off_chip.specs.declared.event.Mark.TheVariants.{Drop}
use Rattle.off_chip.specs.Histories.{History, history, Each, newest}
use Rattle.off_chip.specs.WriteBacks.{same_place, last_write}
use Rattle.off_chip.specs.Residency.{is_resident}
use Rattle.off_chip.specs.ExpectedDigests.{expected_digest}
use Rattle.off_chip.specs.Collisions.{BlockCollision}
use Rattle.off_chip.specs.HonestMemory.{IsWhole}
use Rattle.hash_tree.specs.AsWritten.{AllAsWritten, UnfaithfulTreeRead}
use Rattle.line_cache.specs.declared.lines.Line.{Line}
use Rattle.hash_tree.specs.CachedLines.{Held}
use Rattle.hash_tree.specs.Schemes.{Scheme, unveiled}

-- a tree and its bus: the lines of the cache, the digest of the root, which is kept on the chip, and the events so far
pub record State : Type 0 where
  pub lines : Held
  pub root : List ℕ
  pub trace : List Event

-- the payload in a line, or else that of the last write-back
abbrev pub payload_in : Option Line → Option Block → Option (List ℕ)
payload_in (Some line) written = Some line.payload
payload_in None (Some block) = Some block.payload
payload_in None None = None

-- the payload that a parent's slots are taken from: that of its line, or, where it has none, that of its last write-back
abbrev pub kept_payload : State → ℕ → Option (List ℕ)
kept_payload state n = payload_in (state.lines n) (last_write (Tree n) (history state.trace))

-- the contents of a block: the payload of its line, or, where it has none, that of its last write-back with the veil removed
abbrev pub contents_in : Scheme → ℕ → Option Line → Option Block → Option (List ℕ)
contents_in scheme n (Some line) written = Some line.payload
contents_in scheme n None (Some block) = Some (unveiled scheme n block)
contents_in scheme n None None = None

abbrev pub contents : Scheme → State → ℕ → Option (List ℕ)
contents scheme state n = contents_in scheme n (state.lines n) (last_write (Tree n) (history state.trace))

-- the four facts
pub record IsHome (scheme : Scheme) (state : State) : Type 0 where
  -- each block has a last write-back
  pub written : (n : ℕ) → n < scheme.blocks → (block : Block) × (last_write (Tree n) (history state.trace) ≡ Some block)
  -- the slot of each block but the root is the digest of its last write-back
  pub slots : (n : ℕ) (block : Block) (payload : List ℕ) → 0 < n → n < scheme.blocks → last_write (Tree n) (history state.trace) ≡ Some block
      → kept_payload state (scheme.digests.parent n) ≡ Some payload → scheme.digests.slot n payload ≡ scheme.digests.digest n block
  -- the digest on the chip is that of the last write-back of the root
  pub root : (block : Block) → last_write (Tree 0) (history state.trace) ≡ Some block → state.root ≡ scheme.digests.digest 0 block
  -- each clean line is the payload of the last write-back with the veil removed
  pub clean : (n : ℕ) (line : Line) (block : Block) → state.lines n ≡ Some line → line.dirty ≡ false
      → last_write (Tree n) (history state.trace) ≡ Some block → line.payload ≡ unveiled scheme n block

-- two events of the trace move tree blocks with two strings and one digest, and a read of a tree block was unfaithful
pub record IsDeceived (scheme : Scheme) (trace : List Event) : Type 0 where
  pub first : ℕ
  pub second : ℕ
  pub collision : BlockCollision scheme.strings trace first second
  pub unfaithful : UnfaithfulTreeRead trace

-- what the last event at a place was, where it was one of reading, writing and dropping it
abbrev pub write_told : Place → Event → Option Bool
write_told place (BlockRead at block) = if same_place place at then Some false else None
write_told place (BlockWrite at block) = if same_place place at then Some true else None
write_told place (Note (Drop at)) = if same_place place at then Some false else None
write_told place event = None

-- the last event at a place was a write of it
abbrev pub is_written_last : Place → History → Bool
is_written_last place older = unwrap_or (newest (λ event _. write_told place event) older) false

-- zeros stand after the digests of a node
abbrev pub IsPadded : Scheme → List ℕ → Type 0
IsPadded scheme payload = drop scheme.digest_bytes payload ≡ replicate (BLOCK_BYTES - scheme.digest_bytes) 0

-- a payload is the digests of the last write-backs of the children of a node, each in its slot, and then zeros
pub record IsLaidOut (scheme : Scheme) (n : ℕ) (payload : List ℕ) (older : History) : Type 0 where
  pub long : length payload ≡ BLOCK_BYTES
  pub written : (child : ℕ) → 0 < child → child < scheme.blocks → scheme.digests.parent child ≡ n → (block : Block) × (last_write (Tree child) older ≡ Some block)
  pub slots : (child : ℕ) (block : Block) → 0 < child → child < scheme.blocks → scheme.digests.parent child ≡ n → last_write (Tree child) older ≡ Some block
      → scheme.digests.slot child payload ≡ scheme.digests.digest child block
  pub padding : IsPadded scheme payload

-- a write of a node before which each read was faithful is laid out so
abbrev pub NodeLaidOut : Scheme → Event → History → Type 0
NodeLaidOut scheme (BlockWrite (Tree n) block) older = n < scheme.nodes → AllAsWritten older → IsLaidOut scheme n block.payload older
NodeLaidOut scheme event older = ⊤

pub record NodesLaidOut (scheme : Scheme) (older : History) : Type 0 where
  pub each : Each (NodeLaidOut scheme) older

-- a tree stands on the trace of its bus
pub record Stands (scheme : Scheme) (state : State) : Type 0 where
  pub home : IsHome scheme state ⊎ IsDeceived scheme state.trace
  -- In either case:
  -- a tree block that is resident has a line, and the block of a line is resident, or was written last
  pub held : (n : ℕ) → is_resident (Tree n) (history state.trace) ≡ true → (line : Line) × (state.lines n ≡ Some line)
  pub resident : (n : ℕ) (line : Line) → state.lines n ≡ Some line
      → (is_resident (Tree n) (history state.trace) ≡ true) ⊎ (is_written_last (Tree n) (history state.trace) ≡ true)
  -- the digest on the chip, and the slot of a block in its parent's line, is the expected digest
  pub root : expected_digest scheme.digests 0 (history state.trace) ≡ Some state.root
  pub expected : (n : ℕ) (line : Line) → 0 < n → n < scheme.blocks → state.lines (scheme.digests.parent n) ≡ Some line
      → expected_digest scheme.digests n (history state.trace) ≡ Some (scheme.digests.slot n line.payload)
  -- where each read so far was faithful, the line of a node has zeros after its digests
  pub padding : AllAsWritten (history state.trace) → (n : ℕ) (line : Line) → n < scheme.nodes → state.lines n ≡ Some line → IsPadded scheme line.payload
  pub writes : NodesLaidOut scheme (history state.trace)
  -- lines are of blocks of the tree, and they and what was written have 64 bytes
  pub inside : (n : ℕ) (line : Line) → state.lines n ≡ Some line → n < scheme.blocks
  pub long : (n : ℕ) (line : Line) → state.lines n ≡ Some line → length line.payload ≡ BLOCK_BYTES
  pub whole : (n : ℕ) (block : Block) → last_write (Tree n) (history state.trace) ≡ Some block → IsWhole block

-- the digest that the chip keeps of a block: for the root that on the chip, and for each other block its slot in the line of its parent
pub data IsKeptDigest (scheme : Scheme) (state : State) (n : ℕ) (digest : List ℕ) : Type 0 where
  on_chip : n ≡ 0 → digest ≡ state.root → IsKeptDigest scheme state n digest
  in_parent : (line : Line) → 0 < n → state.lines (scheme.digests.parent n) ≡ Some line → digest ≡ scheme.digests.slot n line.payload → IsKeptDigest scheme state n digest

-- the contents of each block that is no node are as before
pub record SameContents (scheme : Scheme) (old new : State) : Type 0 where
  pub leaf : (n : ℕ) → scheme.nodes ≤ n → n < scheme.blocks → contents scheme new n ≡ contents scheme old n

-- or the trace holds a collision
pub record KeepsContents (scheme : Scheme) (old new : State) : Type 0 where
  pub kept : SameContents scheme old new ⊎ IsDeceived scheme new.trace
