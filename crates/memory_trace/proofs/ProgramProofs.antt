-- Where the program that was read has the digest of the image's and the two do not collide, each block that was read is the image's.
use Rattle.std.proofs.Common.{◌≡◌, ℕ, zero, suc, ◌+◌, ◌-◌, ◌*◌, ◌<◌, ◌≤◌, Bool, true, false, cond, List, [], ◌∷◌, ◌++◌, length, map, take, drop, Option, Some, None, refl, sym, ap, ◌∙◌, subst, inl, inr, arith, rules}
use Rattle.std.specs.Prelude.{IsTrue, filter_map, slice_get}
use Rattle.std.specs.FinMap.{empty, get, gets}
use Rattle.std.specs.List.{All, cons_option}
use Rattle.std.specs.Str.{bytes_eq}
use Rattle.std.proofs.Math.Seq.{take-length}
use Rattle.std.proofs.lemmas.Bool.{cases_Bool}
use Rattle.std.proofs.lemmas.List.{append-nil, length-drop, length-take}
use Rattle.std.proofs.lemmas.List.Elements.{All-cons, All-head, All-nil, All-push, All-tail, filter_map-append}
use Rattle.std.proofs.lemmas.Slice.Eq.{bytes_eq-Decides}
use Rattle.aegis_num.specs.declared.Block.{Block}
use Rattle.aegis_num.specs.declared.Place.{Place}
use Rattle.aegis_num.specs.declared.Place.TheVariants.{Tree, Log}
use Rattle.regions.specs.declared.addresses.TheConstants.{BLOCK_BYTES}
use Rattle.regions.specs.declared.Layout.{Layout}
use Rattle.regions.specs.Tree.{tree_blocks}
use Rattle.off_chip.specs.declared.Event.{Event}
use Rattle.off_chip.specs.declared.Event.TheVariants.{BlockRead, BlockWrite, Note}
use Rattle.off_chip.specs.declared.Mark.TheVariants.{Enter}
use Rattle.off_chip.specs.BlockPlaces.{first_static, static_at}
use Rattle.off_chip.specs.Boundaries.{enter_events, payload_read, payloads_entered}
use Rattle.off_chip.specs.Collisions.{ProgramCollision}
use Rattle.off_chip.specs.FaithfulReads.{AllFaithful, is_faithful, is_payload}
use Rattle.off_chip.specs.Histories.{History, ◌◂◌, followed, history}
use Rattle.off_chip.specs.OffChipBytes.{bytes_at, static_blocks}
use Rattle.off_chip.proofs.FaithfulLemmas.{is_faithful-unwritten}
use Rattle.off_chip.specs.WriteBacks.{last_write, written_at}
use Rattle.off_chip.proofs.HistoryLemmas.{history-append, newest-untold}
use Rattle.off_chip.proofs.WriteLemmas.{last_write-never}
use Rattle.block_hash.specs.BlockStrings.{program_digest, program_string}
use Rattle.block_hash.proofs.StringLemmas.{program_string-one}
use Rattle.line_cache.specs.declared.Line.{Line}
use Rattle.line_cache.specs.LineMaps.{LineMap}
use Rattle.hash_tree.specs.Entering.{BlockMove, entry_moves, is_static, move_of}
use Rattle.hash_tree.specs.HashTrees.{scheme_of, strings_hashed}
use Rattle.hash_tree.specs.Standing.{contents_in}
use Rattle.hash_tree.specs.TreeParts.{TreeParts}
use Rattle.hash_tree.specs.TreeSteps.{block_read}
use Rattle.hash_tree.proofs.UnderLemmas.{static-is}
use Rattle.stamp_log.specs.LogEvents.{zero_payload, zeros_written}
use Rattle.stamp_log.specs.LogState.{LogState, stamped}
use Rattle.secure_memory.specs.MemoryEntry.{EntersMemory}
use Rattle.secure_memory.specs.MemoryStands.{MemoryStands}
use Rattle.secure_memory.specs.PadLaws.{hidden-long}
use Rattle.secure_memory.specs.PrivatePads.{Padding, hidden_payload}
use Rattle.memory_trace.specs.CleanPrograms.{ProgramsAreFaithful, payloads_in, payloads_loaded}
use Rattle.memory_trace.proofs.EntryOrder.{Ascends, FirstRead, entry-ascends, entry-reads, first-read, numbers, read_number}
use Rattle.memory_trace.proofs.EntryTraces.{MovesOne, all-mapped, entry-inside}
use Rattle.memory_trace.proofs.Growing.{each-grown}
use Rattle.memory_trace.proofs.HonestMoves.{all-at, all-front}

-- ---- the payloads of an image

drop-both : (a b : ℕ) (xs : List ℕ) → drop b (drop a xs) ≡ drop (a + b) xs
drop-both zero b xs = ap (λ (k : ℕ). drop k xs) (same b)
  where
    same : (b : ℕ) → b ≡ 0 + b
    same b = omega arith
drop-both (suc a) b [] = nothing b ∙ sym (nothing (suc a + b))
  where
    nothing : (b : ℕ) → drop {A = ℕ} b [] ≡ []
    nothing zero = refl
    nothing (suc b) = refl
drop-both (suc a) b (x ∷ xs) = drop-both a b xs ∙ ap (λ (k : ℕ). drop k (x ∷ xs)) (more a b)
  where
    more : (a b : ℕ) → suc (a + b) ≡ suc a + b
    more a b = omega arith

payload-at : (n k : ℕ) (bytes : List ℕ) → k < n → slice_get (payloads_in n bytes) k ≡ Some (bytes_at (BLOCK_BYTES * k) BLOCK_BYTES bytes)
payload-at zero k bytes less = absurd (omega (arith, less))
payload-at (suc n) zero bytes less = refl
payload-at (suc n) (suc k) bytes less =
    let e : BLOCK_BYTES + BLOCK_BYTES * k ≡ BLOCK_BYTES * suc k = omega arith in
    payload-at n k (drop BLOCK_BYTES bytes) (omega (arith, less))
    ∙ ap (λ (xs : List ℕ). Some (take BLOCK_BYTES xs)) (drop-both BLOCK_BYTES (BLOCK_BYTES * k) bytes ∙ ap (λ (j : ℕ). drop j bytes) e)

abbrev AreLong : List (List ℕ) → Type 0
AreLong payloads = All (λ (payload : List ℕ). length payload ≡ 64) payloads

payloads-long : (n : ℕ) (bytes : List ℕ) → BLOCK_BYTES * n ≤ length bytes → AreLong (payloads_in n bytes)
payloads-long zero bytes enough = All-nil (λ (payload : List ℕ). length payload ≡ 64)
payloads-long (suc n) bytes enough =
    let first : length (take BLOCK_BYTES bytes) ≡ 64 = omega (arith, length-take BLOCK_BYTES bytes, enough) in
    All-cons (λ (payload : List ℕ). length payload ≡ 64) (take BLOCK_BYTES bytes) (payloads_in n (drop BLOCK_BYTES bytes)) first
    (payloads-long n (drop BLOCK_BYTES bytes) (omega (arith, length-drop BLOCK_BYTES bytes, enough)))

-- ---- the payloads of what was read

all-got : (P : List ℕ → Type 0) (xs : List (List ℕ)) → ((k : ℕ) (x : List ℕ) → slice_get xs k ≡ Some x → P x) → All P xs
all-got P [] got = All-nil P
all-got P (x ∷ xs) got = All-cons P x xs (got zero x refl) (all-got P xs (λ k y found. got (suc k) y found))

got-below : (xs : List (List ℕ)) (k : ℕ) (x : List ℕ) → slice_get xs k ≡ Some x → k < length xs
got-below [] k x found = cc
got-below (y ∷ xs) zero x found = omega arith
got-below (y ∷ xs) (suc k) x found = let less = got-below xs k x found in omega (arith, less)

unwritten-through : (n : ℕ) (older : History) (rest : List Event) → All (λ event. written_at (Tree n) event ≡ None) rest → last_write (Tree n) (followed older rest) ≡ last_write (Tree n) older
unwritten-through n older [] all = refl
unwritten-through n older (event ∷ rest) all =
    unwritten-through n (event ◂ older) rest (All-tail (λ event. written_at (Tree n) event ≡ None) event rest all)
    ∙ newest-untold (λ event _. written_at (Tree n) event) event older (All-head (λ event. written_at (Tree n) event ≡ None) event rest all)

zeros-unwritten : (n last count : ℕ) → All (λ event. written_at (Tree n) event ≡ None) (zeros_written last count)
zeros-unwritten n last zero = All-nil (λ event. written_at (Tree n) event ≡ None)
zeros-unwritten n last (suc count) =
    All-push (λ event. written_at (Tree n) event ≡ None) (zeros_written last count) (BlockWrite (Log count) (stamped zero_payload (last + suc count))) (zeros-unwritten n last count) refl

get-empty : (n : ℕ) (lines : LineMap) → lines ≡ empty → get lines n ≡ None
get-empty n lines none = rw none (grind (gets, rules))

-- what was read of the static blocks stands in them with their veil, and blocks that were written are whole
entered-long : {L : Type 0} (layout : Layout) (old new : TreeParts L Padding) (lines : LineMap) (log : LogState) (stamps : ℕ) (trace : List Event) (digest : List ℕ)
    → (enters : EntersMemory old new lines trace digest) → MemoryStands layout new lines log stamps trace → lines ≡ empty
    → AreLong (filter_map payload_read enters.entered.events)
unfolding scheme_of
entered-long layout old new lines log stamps trace digest enters stands none =
    all-got (λ (payload : List ℕ). length payload ≡ 64) (filter_map payload_read enters.entered.events)
    (λ k payload found. by k payload (last_write (Tree (first_static old.layout + k)) (history enters.middle)) refl
    (sym (ap (λ (o : Option Line). contents_in (scheme_of old.layout (hidden_payload old.veil)) (first_static old.layout + k) o (last_write (Tree (first_static old.layout + k)) (history enters.middle)))
    (get-empty (first_static old.layout + k) lines none))
    ∙ enters.entered.statics k (omega (arith, got-below (filter_map payload_read enters.entered.events) k payload found, enters.entered.reads)) ∙ found))
  where
    by : (k : ℕ) (payload : List ℕ) (o : Option Block) → last_write (Tree (first_static old.layout + k)) (history enters.middle) ≡ o
        → contents_in (scheme_of old.layout (hidden_payload old.veil)) (first_static old.layout + k) None o ≡ Some payload → length payload ≡ 64
    by k payload None is same = cc
    by k payload (Some block) is same =
        let n : ℕ = first_static old.layout + k in
        let e : hidden_payload old.veil n block.stamp block.payload ≡ payload = cc in
        let last : last_write (Tree n) (history trace) ≡ Some block =
        ap (λ (h : History). last_write (Tree n) h) (history-append trace enters.middle (zeros_written enters.last old.layout.log) enters.started)
        ∙ unwritten-through n (history enters.middle) (zeros_written enters.last old.layout.log) (zeros-unwritten n enters.last old.layout.log) ∙ is in
        ap (λ (xs : List ℕ). length xs) (sym e) ∙ hidden-long old.veil n block.stamp block.payload (stands.tree_stands.whole n block last).payload

-- each event of an entering is a move of the tree
abbrev IsMoveOf : Layout → Event → Type 0
IsMoveOf layout event = MovesOne layout (λ m. m < tree_blocks layout) (move_of event)

count-same : (layout : Layout) (events : List Event) → All (IsMoveOf layout) events → length (filter_map block_read events) ≡ length (filter_map payload_read events)
count-same layout [] all = refl
count-same layout (event ∷ events) all = by event (All-head (IsMoveOf layout) event events all) (count-same layout events (All-tail (IsMoveOf layout) event events all))
  where
    by : (event : Event) → IsMoveOf layout event → length (filter_map block_read events) ≡ length (filter_map payload_read events)
        → length (cons_option (block_read event) (filter_map block_read events)) ≡ length (cons_option (payload_read event) (filter_map payload_read events))
    by (BlockRead (Tree m) block) is same = ap (λ (k : ℕ). suc k) same
    by (BlockWrite (Tree m) block) is same = same
    by event is same = absurd is

number-same : (event : Event) → block_read event ≡ read_number (move_of event)
number-same (BlockRead (Tree m) block) = refl
number-same (BlockWrite (Tree m) block) = refl
number-same event = refl

numbers-same : (events : List Event) → filter_map block_read events ≡ filter_map read_number (map move_of events)
numbers-same [] = refl
numbers-same (event ∷ events) =
    ap (λ (o : Option ℕ). cons_option o (filter_map block_read events)) (number-same event)
    ∙ ap (λ (ns : List ℕ). cons_option (read_number (move_of event)) ns) (numbers-same events)

numbers-at : (from count m : ℕ) (xs ys : List ℕ) → numbers from count ≡ xs ++ m ∷ ys → (m ≡ from + length xs) × (length xs < count)
numbers-at from zero m [] ys same = cc
numbers-at from zero m (x ∷ xs) ys same = cc
numbers-at from (suc count) m [] ys same = let e : from ≡ m = cc in (omega (arith, e), omega arith)
numbers-at from (suc count) m (x ∷ xs) ys same =
    let tail : numbers (suc from) count ≡ xs ++ m ∷ ys = cc in
    let rest = numbers-at (suc from) count m xs ys tail in (omega (arith, rest.0), omega (arith, rest.1))

get-at : (xs : List (List ℕ)) (x : List ℕ) (ys : List (List ℕ)) → slice_get (xs ++ x ∷ ys) (length xs) ≡ Some x
get-at [] x ys = refl
get-at (y ∷ xs) x ys = get-at xs x ys

-- ---- one read

module _ (layout : Layout) (statics : List ℕ) (events : List Event) (moves : map move_of events ≡ entry_moves layout) (same : payloads_loaded layout statics ≡ filter_map payload_read events) where
  are-moves : All (IsMoveOf layout) events
  are-moves = all-mapped (MovesOne layout (λ m. m < tree_blocks layout)) events (entry_moves layout) moves (entry-inside layout)

  read-number : (between : List Event) (m : ℕ) (block : Block) (last : List Event) → events ≡ between ++ BlockRead (Tree m) block ∷ last
      → (m ≡ first_static layout + length (filter_map payload_read between)) × (length (filter_map payload_read between) < static_blocks layout)
  read-number between m block last parts =
      let count = count-same layout between (all-front (IsMoveOf layout) events between (BlockRead (Tree m) block ∷ last) parts are-moves) in
      let at = numbers-at (first_static layout) (static_blocks layout) m (filter_map block_read between) (filter_map block_read last)
      (sym (entry-reads layout) ∙ ap (λ (ms : List BlockMove). filter_map read_number ms) (sym moves) ∙ sym (numbers-same events)
      ∙ ap (λ (es : List Event). filter_map block_read es) parts ∙ filter_map-append block_read between (BlockRead (Tree m) block ∷ last)) in
      (omega (arith, at.0, count), omega (arith, at.1, count))

  read-payload : (between : List Event) (m : ℕ) (block : Block) (last : List Event) → events ≡ between ++ BlockRead (Tree m) block ∷ last → static_at layout statics (Tree m) ≡ Some block.payload
  read-payload between m block last parts =
      let k : ℕ = length (filter_map payload_read between) in
      let at = read-number between m block last parts in
      let got : slice_get (payloads_loaded layout statics) k ≡ Some block.payload =
      ap (λ (ps : List (List ℕ)). slice_get ps k)
      (same ∙ ap (λ (es : List Event). filter_map payload_read es) parts ∙ filter_map-append payload_read between (BlockRead (Tree m) block ∷ last))
      ∙ get-at (filter_map payload_read between) block.payload (filter_map payload_read last) in
      let static : is_static layout m ≡ true = static-is layout m (omega (arith, at.0)) (omega (arith, at.0, at.1)) in
      let number : m - first_static layout ≡ k = omega (arith, at.0) in
      ap (λ (b : Bool). cond b (Some (bytes_at (BLOCK_BYTES * (m - first_static layout)) BLOCK_BYTES statics)) None) static
      ∙ ap (λ (j : ℕ). Some (bytes_at (BLOCK_BYTES * j) BLOCK_BYTES statics)) number
      ∙ sym (payload-at (static_blocks layout) k statics at.1) ∙ got

  pub read-faithful : (between : List Event) (event : Event) (last : List Event) → events ≡ between ++ event ∷ last
      → is_faithful (static_at layout statics) event (history ((Note Enter ∷ []) ++ between)) ≡ true
  read-faithful between event last parts = by event parts (all-at (IsMoveOf layout) events between event last parts are-moves)
    where
      by : (event : Event) → events ≡ between ++ event ∷ last → IsMoveOf layout event → is_faithful (static_at layout statics) event (history ((Note Enter ∷ []) ++ between)) ≡ true
      by (BlockRead (Tree m) block) parts is =
          let first : FirstRead 0 m between = first-read 0 m block between last
          (subst (λ (es : List Event). Ascends 0 (map move_of es)) parts (subst (λ (ms : List BlockMove). Ascends 0 ms) (sym moves) (entry-ascends layout))) in
          is_faithful-unwritten (static_at layout statics) (Tree m) block (history ((Note Enter ∷ []) ++ between))
          ((last_write-never (Tree m) ((Note Enter ∷ []) ++ between)).1 first.unwritten)
          ∙ ap (λ (o : Option (List ℕ)). is_payload block.payload o) (read-payload between m block last parts) ∙ (bytes_eq-Decides block.payload block.payload).1 refl
      by (BlockRead (Log m) block) parts is = absurd is
      by event parts is = refl

-- ---- the program

zeros-unread : (last n : ℕ) → All (λ event. payload_read event ≡ None) (zeros_written last n)
zeros-unread last zero = All-nil (λ event. payload_read event ≡ None)
zeros-unread last (suc n) =
    All-push (λ event. payload_read event ≡ None) (zeros_written last n) (BlockWrite (Log n) (stamped zero_payload (last + suc n))) (zeros-unread last n) refl

unread-none : (events : List Event) → All (λ event. payload_read event ≡ None) events → filter_map payload_read events ≡ []
unread-none [] all = refl
unread-none (event ∷ events) all =
    ap (λ (o : Option (List ℕ)). cons_option o (filter_map payload_read events)) (All-head (λ event. payload_read event ≡ None) event events all)
    ∙ unread-none events (All-tail (λ event. payload_read event ≡ None) event events all)

unread-faithful : (image : Place → Option (List ℕ)) (event : Event) (older : History) → payload_read event ≡ None → is_faithful image event older ≡ true
unread-faithful image (BlockRead at block) older none = cc
unread-faithful image event older none = refl

-- no collision, and one digest: one program
one-program : (layout : Layout) (payloads : List (List ℕ)) (trace : List Event) → AreLong payloads → AreLong (payloads_entered layout trace)
    → program_digest (payloads_entered layout trace) ≡ program_digest payloads → (ProgramCollision strings_hashed layout payloads trace → ⊥) → payloads ≡ payloads_entered layout trace
one-program layout payloads trace long other_long same none =
    elim (cases_Bool (bytes_eq (program_string payloads) (program_string (payloads_entered layout trace)))) [
      | inl equal ↦ program_string-one payloads (payloads_entered layout trace) ((bytes_eq-Decides (program_string payloads) (program_string (payloads_entered layout trace))).0 equal) long other_long
      | inr differ ↦ absurd (none (record {
        differ = λ is.
            let e : true ≡ false = sym ((bytes_eq-Decides (program_string payloads) (program_string (payloads_entered layout trace))).1 is) ∙ differ in cc;
        same = sym same;
      }))
    ]

entered-payloads : (layout : Layout) (trace events zeros : List Event) → length trace ≡ enter_events layout → trace ≡ ((Note Enter ∷ []) ++ events) ++ zeros
    → All (λ event. payload_read event ≡ None) zeros → payloads_entered layout trace ≡ filter_map payload_read events
entered-payloads layout trace events zeros size parts unread =
    ap (λ (k : ℕ). filter_map payload_read (take k trace)) (sym size) ∙ ap (λ (es : List Event). filter_map payload_read es) (take-length trace ∙ parts)
    ∙ filter_map-append payload_read ((Note Enter ∷ []) ++ events) zeros ∙ ap (λ (ps : List (List ℕ)). filter_map payload_read events ++ ps) (unread-none zeros unread)
    ∙ append-nil (filter_map payload_read events)

program-at : {L : Type 0} (layout : Layout) (statics : List ℕ) (old new : TreeParts L Padding) (lines : LineMap) (trace : List Event) (digest : List ℕ) → old.layout ≡ layout
    → (enters : EntersMemory old new lines trace digest) → trace ≡ enters.middle ++ zeros_written enters.last layout.log → map move_of enters.entered.events ≡ entry_moves layout
    → length trace ≡ enter_events layout → AreLong (filter_map payload_read enters.entered.events) → length statics ≡ BLOCK_BYTES * static_blocks layout
    → digest ≡ program_digest (payloads_loaded layout statics) → (ProgramCollision strings_hashed layout (payloads_loaded layout statics) trace → ⊥)
    → AllFaithful (static_at layout statics) (history trace)
program-at layout statics old new lines trace digest of enters started moves size read_long long same none =
    let events : List Event = enters.entered.events in
    let zeros : List Event = zeros_written enters.last layout.log in
    let unread = zeros-unread enters.last layout.log in
    let parts : trace ≡ ((Note Enter ∷ []) ++ events) ++ zeros = started ∙ ap (λ (es : List Event). es ++ zeros) enters.entered.appended in
    let entered : payloads_entered layout trace ≡ filter_map payload_read events = entered-payloads layout trace events zeros size parts unread in
    let all_long : AreLong (payloads_entered layout trace) = subst (λ (ps : List (List ℕ)). AreLong ps) (sym entered) read_long in
    let digests : program_digest (payloads_entered layout trace) ≡ program_digest (payloads_loaded layout statics) =
    ap (λ (ps : List (List ℕ)). program_digest ps) entered ∙ sym enters.entered.answer_is ∙ same in
    let one : payloads_loaded layout statics ≡ filter_map payload_read events =
    one-program layout (payloads_loaded layout statics) trace (payloads-long (static_blocks layout) statics (omega (arith, long))) all_long digests none ∙ entered in
    record {
      each = each-grown (λ event older. IsTrue (is_faithful (static_at layout statics) event older)) enters.middle zeros trace started
          (each-grown (λ event older. IsTrue (is_faithful (static_at layout statics) event older)) (Note Enter ∷ []) events enters.middle enters.entered.appended (tt, refl)
          (λ between event last cut. read-faithful layout statics events moves one between event last cut))
          (λ between event last cut. unread-faithful (static_at layout statics) event (history (enters.middle ++ between))
          (all-at (λ event. payload_read event ≡ None) zeros between event last cut unread));
    }

pub program-law : (L : Type 0) → ProgramsAreFaithful L
program-law L layout statics old new lines log stamps trace digest of enters stands empty' size long same none =
    program-at layout statics old new lines trace digest of enters
    (enters.started ∙ ap (λ (l : Layout). enters.middle ++ zeros_written enters.last l.log) of) (enters.entered.order ∙ ap (λ (l : Layout). entry_moves l) of) size
    (entered-long layout old new lines log stamps trace digest enters stands empty') long same none
