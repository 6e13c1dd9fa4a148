-- Several events at once: those of the log keep a tree standing, and those of the tree keep a log standing.
use Rattle.std.proofs.Common.{◌≡◌, ℕ, suc, List, [], ◌∷◌, ◌++◌, refl, sym, subst, append_assoc, ◌∙◌}
use Rattle.aegis_num.specs.declared.storage.Block.{Block}
use Rattle.aegis_num.specs.declared.storage.Place.TheVariants.{Log}
use Rattle.std.specs.Prelude.{Result}
use Rattle.std.proofs.lemmas.List.{append-nil}
use Rattle.off_chip.specs.declared.event.Event.{Event}
use Rattle.off_chip.specs.declared.event.Event.TheVariants.{BlockRead, BlockWrite, Note}
use Rattle.off_chip.specs.declared.event.Mark.TheVariants.{CheckPassed, CheckStart}
use Rattle.line_cache.specs.LineMaps.{LineMap}
use Rattle.hash_tree.specs.Schemes.{Scheme}
use Rattle.hash_tree.specs.Standing.{SameContents, Stands}
use Rattle.hash_tree.specs.HashTrees.{state_of}
use Rattle.hash_tree.specs.TreeSteps.{IsElsewhere}
use Rattle.hash_tree.proofs.LawProofs.{elsewhere-law}
use Rattle.stamp_log.specs.declared.causes.LogCause.{LogCause}
use Rattle.stamp_log.specs.LogState.{LogLines, stamped}
use Rattle.stamp_log.specs.LogCalls.{MakesRoom, WritesBack}
use Rattle.stamp_log.specs.LogEvents.{EndsCheck, ReadsInOrder, RunsCheck, reads_from}
use Rattle.off_chip.specs.Epochs.{LogEntry}

-- the trace grew by events at no place of the tree
pub data GrowsElsewhere : List Event → List Event → Type 0 where
  no_more : (trace : List Event) → GrowsElsewhere trace trace
  one_more : (before middle after : List Event) (event : Event) → GrowsElsewhere before middle → IsElsewhere event → after ≡ middle ++ event ∷ [] → GrowsElsewhere before after

-- a tree stands on then
pub tree-stays : (scheme : Scheme) (lines : LineMap) (root : List ℕ) (before after : List Event) → GrowsElsewhere before after → Stands scheme (state_of lines root before)
    → Stands scheme (state_of lines root after)
tree-stays scheme lines root before after (GrowsElsewhere.no_more trace) stands = stands
tree-stays scheme lines root before after (GrowsElsewhere.one_more first middle last event grows elsewhere appended) stands =
    (elsewhere-law scheme event lines root middle after (tree-stays scheme lines root before middle grows stands) elsewhere appended).0

-- and its contents are the same
pub tree-same : (scheme : Scheme) (lines : LineMap) (root : List ℕ) (before after : List Event) → GrowsElsewhere before after → Stands scheme (state_of lines root before)
    → SameContents scheme (state_of lines root before) (state_of lines root after)
tree-same scheme lines root before after (GrowsElsewhere.no_more trace) stands = record { leaf = λ n from inside. refl }
tree-same scheme lines root before after (GrowsElsewhere.one_more first middle last event grows elsewhere appended) stands =
    let earlier = tree-same scheme lines root before middle grows stands in
    let one = (elsewhere-law scheme event lines root middle after (tree-stays scheme lines root before middle grows stands) elsewhere appended).1 in
    record { leaf = λ n from inside. one.leaf n from inside ∙ earlier.leaf n from inside }

pub log_read-elsewhere : (n : ℕ) (block : Block) → IsElsewhere (BlockRead (Log n) block)
log_read-elsewhere n block = λ m same. cc

pub log_write-elsewhere : (n : ℕ) (block : Block) → IsElsewhere (BlockWrite (Log n) block)
log_write-elsewhere n block = λ m same. cc

start-elsewhere : IsElsewhere (Note CheckStart)
start-elsewhere = λ m same. cc

passed-elsewhere : IsElsewhere (Note CheckPassed)
passed-elsewhere = λ m same. cc

-- the events of the log's steps are no events of the tree

pub room-elsewhere : (blocks : ℕ) (first before after : List Event) (old new : LogLines) → MakesRoom blocks before after old new → GrowsElsewhere first before → GrowsElsewhere first after
room-elsewhere blocks first before after old new (MakesRoom.nothing same held payloads) grows = subst (λ (t : List Event). GrowsElsewhere first t) (sym same) grows
room-elsewhere blocks first before after old new (MakesRoom.written n stamp payload less line same held payloads) grows =
    GrowsElsewhere.one_more first before after (BlockWrite (Log n) (stamped payload stamp)) grows (log_write-elsewhere n (stamped payload stamp)) same

pub writes-elsewhere : (blocks : ℕ) (first before after : List Event) (old new : LogLines) → WritesBack blocks before after old new → GrowsElsewhere first before → GrowsElsewhere first after
writes-elsewhere blocks first before after old new (WritesBack.none trace lines) grows = grows
writes-elsewhere blocks first before after old new (WritesBack.more start middle end older between newer writes room) grows =
    room-elsewhere blocks first middle after between new room (writes-elsewhere blocks first before middle old between writes grows)

reads_from-elsewhere : (n : ℕ) (read : List Block) (first before : List Event) → GrowsElsewhere first before → GrowsElsewhere first (before ++ reads_from n read)
reads_from-elsewhere n [] first before grows = subst (λ (t : List Event). GrowsElsewhere first t) (sym (append-nil before)) grows
reads_from-elsewhere n (block ∷ read) first before grows =
    subst (λ (t : List Event). GrowsElsewhere first t) (append_assoc before (BlockRead (Log n) block ∷ []) (reads_from (suc n) read))
    (reads_from-elsewhere (suc n) read first (before ++ BlockRead (Log n) block ∷ [])
    (GrowsElsewhere.one_more first before (before ++ BlockRead (Log n) block ∷ []) (BlockRead (Log n) block) grows (log_read-elsewhere n block) refl))

order-elsewhere : (count : ℕ) (first before after : List Event) → ReadsInOrder count before after → GrowsElsewhere first before → GrowsElsewhere first after
order-elsewhere count first before after reads grows =
    subst (λ (t : List Event). GrowsElsewhere first t) (sym reads.events) (reads_from-elsewhere 0 reads.read first before grows)

ends-elsewhere : (value : LogEntry → ℕ) (blocks : ℕ) (first before after : List Event) (result : Result (Unit {0}) LogCause) → EndsCheck value blocks before after result
    → GrowsElsewhere first before → GrowsElsewhere first after
ends-elsewhere value blocks first before after result (EndsCheck.passes compared reads agree same is) grows =
    GrowsElsewhere.one_more first compared after (Note CheckPassed) (order-elsewhere blocks first before compared reads grows) passed-elsewhere same
ends-elsewhere value blocks first before after result (EndsCheck.differs read written reads differ is) grows = order-elsewhere blocks first before after reads grows
ends-elsewhere value blocks first before after result (EndsCheck.stops event stopped is) grows =
    GrowsElsewhere.one_more first stopped.middle after (BlockRead (Log stopped.n) stopped.block) (order-elsewhere stopped.n first before stopped.middle stopped.earlier grows)
    (log_read-elsewhere stopped.n stopped.block) stopped.last

-- a check makes no event of the tree
pub check-elsewhere : (value : LogEntry → ℕ) (blocks : ℕ) (result : Result (Unit {0}) LogCause) (before after : List Event) (old new : LogLines)
    → RunsCheck value blocks result before after old new → GrowsElsewhere before after
check-elsewhere value blocks result before after old new runs =
    let started : GrowsElsewhere before (before ++ Note CheckStart ∷ []) =
    GrowsElsewhere.one_more before before (before ++ Note CheckStart ∷ []) (Note CheckStart) (GrowsElsewhere.no_more before) start-elsewhere refl in
    ends-elsewhere value blocks before runs.middle after result runs.ends (writes-elsewhere blocks before (before ++ Note CheckStart ∷ []) runs.middle old new runs.writes started)
