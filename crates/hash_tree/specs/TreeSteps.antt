-- Promise: the steps that a tree makes on its bus, one event at a time.
use Rattle.std.specs.Prelude.{◌≡◌, ◌≢◌, ℕ, ◌*◌, ◌<◌, ◌≤◌, ◌⊎◌, Bool, true, false, List, [], ◌∷◌, ◌++◌, length, filter_map, Contains, ◌==◌, Option, Some, None, is_some, if◌then◌else◌}
use Rattle.std.specs.List.{All, list_any}
use Rattle.aegis_num.specs.declared.storage.Block.{Block}
use Rattle.aegis_num.specs.declared.storage.Place.TheVariants.{Tree}
use Rattle.regions.specs.declared.layout.Layout.{Layout}
use Rattle.regions.specs.Tree.{parent_of, slot_of}
use Rattle.off_chip.specs.declared.event.Event.{Event}
use Rattle.off_chip.specs.declared.event.Event.TheVariants.{BlockRead, BlockWrite, Note}
use Rattle.off_chip.specs.declared.event.Mark.TheVariants.{Drop}
use Rattle.off_chip.specs.BlockPlaces.{named_place}
use Rattle.off_chip.specs.OffChipBytes.{bytes_put}
use Rattle.off_chip.specs.Histories.{history}
use Rattle.off_chip.specs.ExpectedDigests.{expected_digest}
use Rattle.off_chip.specs.HonestMemory.{IsWhole}
use Rattle.line_cache.specs.declared.lines.Line.{Line}
use Rattle.line_cache.specs.LineMaps.{LineMap, payload_at, with_payload}
use Rattle.hash_tree.specs.CachedLines.{Held}
use Rattle.hash_tree.specs.DueLines.{IsDue}
use Rattle.hash_tree.specs.HashTrees.{digest_bytes, state_of}
use Rattle.hash_tree.specs.Schemes.{Scheme, unveiled}
use Rattle.hash_tree.specs.Standing.{State, IsPadded, IsDeceived, IsKeptDigest, Stands, KeepsContents}

-- one event was appended
abbrev pub Appends : Event → List Event → List Event → Type 0
Appends event old new = new ≡ old ++ event ∷ []

-- an event at no place of the tree
abbrev pub IsElsewhere : Event → Type 0
IsElsewhere event = (n : ℕ) → named_place event ≢ Some (Tree n)

-- the lines are changed at one block only
pub record Puts (old new : Held) (n : ℕ) (line : Option Line) : Type 0 where
  pub here : new n ≡ line
  pub other : (m : ℕ) → m ≢ n → new m ≡ old m

-- a read block has a line: the payload that was read with the veil removed
pub record Inserted (scheme : Scheme) (old new : State) (n : ℕ) (block : Block) : Type 0 where
  pub event : Appends (BlockRead (Tree n) block) old.trace new.trace
  pub root : new.root ≡ old.root
  pub lines : Puts old.lines new.lines n (Some (record { payload = unveiled scheme n block; dirty = false }))

-- a digest is put into the slot of a block in the payload of its parent
pub record SlotSet (scheme : Scheme) (n : ℕ) (digest old new : List ℕ) : Type 0 where
  pub here : scheme.digests.slot n new ≡ digest
  pub other : (m : ℕ) → 0 < m → m < scheme.blocks → scheme.digests.parent m ≡ scheme.digests.parent n → m ≢ n → scheme.digests.slot m new ≡ scheme.digests.slot m old
  pub padding : IsPadded scheme old → IsPadded scheme new
  pub long : length new ≡ length old

-- the line of the parent has it, and is dirty
pub record ParentSet (scheme : Scheme) (old new : State) (n : ℕ) (digest : List ℕ) : Type 0 where
  pub line : Line
  pub held : old.lines (scheme.digests.parent n) ≡ Some line
  pub payload : List ℕ
  pub set : new.lines (scheme.digests.parent n) ≡ Some (record { payload = payload; dirty = true })
  pub slot : SlotSet scheme n digest line.payload payload

-- a line was written back and is clean
pub record WrittenBack (scheme : Scheme) (old new : State) (n : ℕ) (line : Line) (block : Block) : Type 0 where
  pub held : old.lines n ≡ Some line
  pub payload : block.payload ≡ scheme.veiled n block.stamp line.payload
  pub event : Appends (BlockWrite (Tree n) block) old.trace new.trace
  pub here : new.lines n ≡ Some (record { payload = line.payload; dirty = false })
  pub other : (m : ℕ) → m ≢ n → (0 < n → m ≢ scheme.digests.parent n) → new.lines m ≡ old.lines m
  pub root : n ≡ 0 → new.root ≡ scheme.digests.digest n block
  pub same_root : 0 < n → new.root ≡ old.root
  pub above : 0 < n → ParentSet scheme old new n (scheme.digests.digest n block)

-- the digest of a block is kept: for the root on the chip, and else in its slot in the line of its parent
pub record KeepsDigest (layout : Layout) (old new : LineMap) (old_root new_root digest : List ℕ) (n : ℕ) : Type 0 where
  pub root : n ≡ 0 → (new_root ≡ digest) × (new ≡ old)
  pub slot : 0 < n → (new_root ≡ old_root)
      × ((payload : List ℕ) × (payload_at old (parent_of layout n) ≡ Some payload)
      × (new ≡ with_payload old (parent_of layout n) (bytes_put (digest_bytes * slot_of layout n) digest payload)))

-- the line of a block was written back, with this stamp
pub record WritesBack (scheme : Scheme) (old new : State) (stamp n : ℕ) : Type 0 where
  pub line : Line
  pub block : Block
  pub stamped : block.stamp ≡ stamp
  pub step : WrittenBack scheme old new n line block

-- a write of a block or the mark that it leaves
pub data IsRemoval (n : ℕ) (event : Event) : Type 0 where
  write : (block : Block) → event ≡ BlockWrite (Tree n) block → IsRemoval n event
  dropped : event ≡ Note (Drop (Tree n)) → IsRemoval n event

-- what an event of a load tells of the lines before it. Where a block is written, its line had to be; and where that block is no node, the
-- payload of its line was written, with the veil of the stamp over it. Where a line is dropped, it was clean
pub data TellsLine (scheme : Scheme) (lines : Held) (event : Event) : Type 0 where
  was_read : (n : ℕ) (block : Block) → event ≡ BlockRead (Tree n) block → TellsLine scheme lines event
  node_written : (n : ℕ) (block : Block) → event ≡ BlockWrite (Tree n) block → n < scheme.nodes → IsDue scheme lines n → TellsLine scheme lines event
  leaf_written : (n : ℕ) (block : Block) (line : Line) → event ≡ BlockWrite (Tree n) block → scheme.nodes ≤ n → lines n ≡ Some line → line.dirty ≡ true
      → block.payload ≡ scheme.veiled n block.stamp line.payload → TellsLine scheme lines event
  line_dropped : (n : ℕ) (line : Line) → event ≡ Note (Drop (Tree n)) → lines n ≡ Some line → line.dirty ≡ false → TellsLine scheme lines event

-- the line of a block left, by one event. No other line left or came, and those of no nodes stay
pub record Evicts (scheme : Scheme) (old new : State) (n : ℕ) : Type 0 where
  pub event : Event
  pub appended : Appends event old.trace new.trace
  pub removal : IsRemoval n event
  pub held : is_some (old.lines n) ≡ true
  pub gone : new.lines n ≡ None
  pub others : (m : ℕ) → m ≢ n → is_some (new.lines m) ≡ is_some (old.lines m)
  pub leaves : (m : ℕ) → scheme.nodes ≤ m → m ≢ n → new.lines m ≡ old.lines m
  pub told : TellsLine scheme old.lines event
  -- each line that stays is dirty where it was, and else only where it has to be written
  pub waiting : (m : ℕ) (line : Line) → m ≢ n → old.lines m ≡ Some line → line.dirty ≡ true → (now : Line) × (new.lines m ≡ Some now) × (now.dirty ≡ true)
  pub due : (m : ℕ) (line : Line) → new.lines m ≡ Some line → line.dirty ≡ true → IsDue scheme old.lines m

-- the tree stands on, and its contents are kept
pub record Evicted (scheme : Scheme) (old new : State) (n : ℕ) : Type 0 where
  pub stands : Stands scheme new
  pub contents : KeepsContents scheme old new
  pub step : Evicts scheme old new n

-- the tree block that an event reads
abbrev pub block_read : Event → Option ℕ
block_read (BlockRead (Tree n) block) = Some n
block_read event = None

-- an event of a load: a read of a pinned block, or the one by which the line of another block left
pub data IsMove (pinned : List ℕ) (old new : State) (event : Event) : Type 0 where
  read : (n : ℕ) (block : Block) → event ≡ BlockRead (Tree n) block → Contains pinned n → IsMove pinned old new event
  removal : (n : ℕ) → IsRemoval n event → ¬ (Contains pinned n) → is_some (old.lines n) ≡ true → new.lines n ≡ None → IsMove pinned old new event

-- what a load does where these blocks are pinned: it reads these, in order, each once, and its other events are those of lines that left
pub record Moves (scheme : Scheme) (pinned : List ℕ) (old new : State) (reads : List ℕ) : Type 0 where
  pub events : List Event
  pub appended : new.trace ≡ old.trace ++ events
  pub reads_are : filter_map block_read events ≡ reads
  pub each : All (IsMove pinned old new) events
  -- each read gives a block with the expected digest
  pub checked : (before : List Event) (n : ℕ) (block : Block) (rest : List Event) → events ≡ before ++ BlockRead (Tree n) block ∷ rest
      → expected_digest scheme.digests n (history (old.trace ++ before)) ≡ Some (scheme.digests.digest n block)
  -- where a block that was read is no node, its line has the payload of that read with the veil removed
  pub line_read : (before : List Event) (n : ℕ) (block : Block) (rest : List Event) → events ≡ before ++ BlockRead (Tree n) block ∷ rest → scheme.nodes ≤ n
      → new.lines n ≡ Some (record { payload = unveiled scheme n block; dirty = false })
  -- pinned blocks keep their lines, and none but those of the blocks that were read come
  pub kept : (n : ℕ) → Contains pinned n → is_some (old.lines n) ≡ true → is_some (new.lines n) ≡ true
  pub came : (n : ℕ) → is_some (new.lines n) ≡ true → (is_some (old.lines n) ≡ true) ⊎ (Contains pinned n × (list_any (λ m. m == n) reads ≡ true))
  -- each line that stays is as before, where its block is no node
  pub stays : (n : ℕ) → scheme.nodes ≤ n → is_some (old.lines n) ≡ true → is_some (new.lines n) ≡ true → new.lines n ≡ old.lines n
  -- which lines are written and which are dropped, and what is written
  pub told : All (TellsLine scheme old.lines) events
  -- each line that stays is dirty where it was, and else only where it had to be written
  pub waiting : (n : ℕ) (line : Line) → old.lines n ≡ Some line → line.dirty ≡ true → is_some (new.lines n) ≡ true → (now : Line) × (new.lines n ≡ Some now) × (now.dirty ≡ true)
  pub due : (n : ℕ) (line : Line) → new.lines n ≡ Some line → line.dirty ≡ true → IsDue scheme old.lines n

-- the tree stands on after a load or a part of it, with its contents
pub record Moved (scheme : Scheme) (pinned : List ℕ) (old new : State) (reads : List ℕ) : Type 0 where
  pub stands : Stands scheme new
  pub contents : KeepsContents scheme old new
  pub moves : Moves scheme pinned old new reads
  pub deceived : IsDeceived scheme old.trace → IsDeceived scheme new.trace

-- a block is read, and gets a line where its digest is the one that is kept of it. Else the lines stay
pub record Reads (scheme : Scheme) (old new : State) (n : ℕ) (answer : Bool) : Type 0 where
  pub block : Block
  pub whole : IsWhole block
  pub event : Appends (BlockRead (Tree n) block) old.trace new.trace
  pub kept : List ℕ
  pub is_kept : IsKeptDigest scheme old n kept
  pub same : answer ≡ true → (scheme.digests.digest n block ≡ kept) × Inserted scheme old new n block
  pub differs : answer ≡ false → (scheme.digests.digest n block ≢ kept) × (new.lines ≡ old.lines) × (new.root ≡ old.root)

-- whether a digest is the one that is kept of a block
pub record TellsKept (scheme : Scheme) (lines : LineMap) (root : List ℕ) (n : ℕ) (digest : List ℕ) (answer : Bool) : Type 0 where
  pub kept : List ℕ
  pub is_kept : (trace : List Event) → IsKeptDigest scheme (state_of lines root trace) n kept
  pub same : answer ≡ true → digest ≡ kept
  pub differs : answer ≡ false → digest ≢ kept

-- nothing was done on the bus, and the lines are as before
pub record IsStill (old new : LineMap) (old_trace new_trace : List Event) : Type 0 where
  pub lines : new ≡ old
  pub trace : new_trace ≡ old_trace

-- of these blocks those that have no line
abbrev pub uncached : Held → List ℕ → List ℕ
uncached lines [] = []
uncached lines (n ∷ blocks) = if is_some (lines n) then uncached lines blocks else n ∷ uncached lines blocks

-- of these blocks the first ones were read, in their order, each once, and no other block of the tree was
pub record ReadsFirst (blocks : List ℕ) (old new : List Event) : Type 0 where
  pub events : List Event
  pub appended : new ≡ old ++ events
  pub unread : List ℕ
  pub reads : filter_map block_read events ++ unread ≡ blocks

-- a load stopped at an event: after a part of it a block was read whose digest is not the one that is kept of it
pub record Stops (scheme : Scheme) (pinned : List ℕ) (old new : State) (event : ℕ) : Type 0 where
  pub middle : State
  pub reads : List ℕ
  pub moved : Moved scheme pinned old middle reads
  pub n : ℕ
  pub block : Block
  pub read : Appends (BlockRead (Tree n) block) middle.trace new.trace
  pub number : event ≡ length middle.trace
  pub kept : List ℕ
  pub is_kept : IsKeptDigest scheme middle n kept
  pub differs : scheme.digests.digest n block ≢ kept
  pub inside : n < scheme.blocks
