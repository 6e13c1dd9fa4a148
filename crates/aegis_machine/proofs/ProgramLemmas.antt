-- The program that is read at entering: it stays where the trace grows, and where each read is faithful it is the one of the image.
use Rattle.std.proofs.Common.{◌≡◌, ℕ, zero, suc, ◌+◌, ◌-◌, ◌*◌, ◌<◌, ◌≤◌, arith, Bool, true, false, List, [], ◌∷◌, ◌++◌, length, get_or, take, drop, Option, Some, None, refl, sym, ap, ◌∙◌, subst, inl, inr}
use Rattle.std.specs.Prelude.{IsTrue, ◌≢◌, filter_map, map, if◌then◌else◌}
use Rattle.std.specs.Int.{w32, to_be_bytes}
use Rattle.std.specs.List.{AllByRecursion, flat_map}
use Rattle.std.proofs.lemmas.Bool.{cases_Bool}
use Rattle.std.proofs.lemmas.Grind.{flat_map-append}
use Rattle.std.proofs.lemmas.List.{append-nil, append_assoc, drop-append-le, get_or-drop, length-drop, take-append-le, take_all, take_more}
use Rattle.std.proofs.lemmas.List.Elements.{filter_map-append}
use Rattle.std.proofs.Math.Seq.{drop-append-add, drop-nil}
use Rattle.aegis_num.specs.declared.Block.{Block}
use Rattle.aegis_num.specs.declared.Place.{Place}
use Rattle.aegis_num.specs.declared.Place.TheVariants.{Tree, Log}
use Rattle.regions.specs.declared.Layout.{Layout}
use Rattle.regions.specs.Tree.{height_of}
use Rattle.off_chip.specs.declared.Event.{Event}
use Rattle.off_chip.specs.declared.Event.TheVariants.{BlockRead, BlockWrite, Note}
use Rattle.off_chip.specs.declared.Mark.TheVariants.{Enter}
use Rattle.off_chip.specs.BlockPlaces.{first_static, static_at}
use Rattle.off_chip.specs.Boundaries.{enter_events, payload_read}
use Rattle.off_chip.specs.FaithfulReads.{AllReadsFaithful, IsFaithfulRead, SomeReadUnfaithful, as_loaded, as_written}
use Rattle.off_chip.specs.Histories.{history}
use Rattle.off_chip.specs.OffChipBytes.{bytes_at, static_blocks}
use Rattle.off_chip.specs.WriteBacks.{IsLastWrite, last_write, written_at}
use Rattle.off_chip.proofs.FaithfulLemmas.{faithful-cases}
use Rattle.off_chip.proofs.WriteLemmas.{last_write-in_order, last_write-never, same_place-apart}
use Rattle.block_hash.specs.BlockStrings.{program_digest}
use Rattle.block_hash.specs.ProgramParts.{HasTaken, ProgramParts}
use Rattle.hash_tree.specs.Entering.{BlockMove, reads_block, writes_block, no_move, entry_moves, first_leaf, is_static, leaf_moves, move_of, moves_below, statics_before}
use Rattle.hash_tree.proofs.EntryNumbers.{whole}
use Rattle.hash_tree.proofs.UnderLemmas.{before-other, before-static, first_leaf-from, static-at}
use Rattle.stamp_log.specs.LogEvents.{zero_payload, zeros_written}
use Rattle.stamp_log.specs.LogState.{stamped}
use Rattle.off_chip.specs.declared.Mark.TheVariants.{Retire}
use Rattle.off_chip.specs.declared.Who.TheVariants.{Secure}
use Rattle.regions.specs.Modes.{is_secure}
use Rattle.orbis_core.specs.declared.StepEnd.{StepEnd}
use Rattle.orbis_core.specs.declared.StepEnd.TheVariants as end
use Rattle.orbis_core.specs.declared.Stop.TheVariants as stop
use Rattle.orbis_core.specs.Accesses.{Accesses}
use Rattle.orbis_core.specs.Rows.{Machine, Steps}
use Rattle.stamp_log.specs.declared.LogCause.{LogCause}
use Rattle.bus_machine.specs.BusAccesses.{MeetsBus, Sight}
use Rattle.bus_machine.proofs.BusStepLemmas.{step-on-bus}
use Rattle.aegis_machine.specs.declared.instructions.Done.{Done}
use Rattle.aegis_machine.specs.declared.instructions.Done.TheVariants as done
use Rattle.aegis_machine.specs.declared.instructions.Fault.TheVariants as fault
use Rattle.aegis_machine.specs.InstructionsDone.{DoesSo, IsDone}
use Rattle.aegis_machine.specs.Boundaries.{blocks_in, entered_digest}
use Rattle.aegis_machine.specs.ProgramsRead.{SomeStaticUnfaithful}

-- ---- a trace that grows

pub entered-kept : (layout : Layout) (old new more : List Event) → new ≡ old ++ more → enter_events layout ≤ length old → entered_digest layout new ≡ entered_digest layout old
entered-kept layout old new more is long =
    ap (λ (t : List Event). entered_digest layout t) is ∙ ap (λ (t : List Event). program_digest (filter_map payload_read t)) (take-append-le (enter_events layout) old more long)

-- a trace has further events
abbrev pub Grows : List Event → List Event → Type 0
Grows old new = (more : List Event) × (new ≡ old ++ more)

grows-both : (old middle new : List Event) → Grows old middle → Grows middle new → Grows old new
grows-both old middle new one two =
    (one.0 ++ two.0, two.1 ∙ ap (λ (t : List Event). t ++ two.0) one.1 ∙ append_assoc old one.0 two.0)

module _ {M : Type 0} (sight : Sight M) (accesses : Accesses M) (meets : MeetsBus sight accesses) (Caused : LogCause → M → Type 0) where
  steps-grow : (old new : Machine M) (ended : StepEnd) → IsTrue (is_secure (sight.mode old.memory)) → Steps accesses old ended new → Grows (sight.trace old.memory) (sight.trace new.memory)
  steps-grow old new ended secure step = let on = step-on-bus sight accesses meets old new ended secure step in (on.events, on.makes.trace)

  done-grows : (ended : StepEnd) (held kept piece : List ℕ) (old new : Machine M) → IsTrue (is_secure (sight.mode old.memory)) → IsDone sight accesses ended held kept piece old new
      → Grows (sight.trace old.memory) (sight.trace new.memory)
  done-grows ended held kept piece old new secure does =
      grows-both _ _ _ (steps-grow old does.middle ended secure does.made.steps) (does.more ++ Note (Retire Secure) ∷ [], does.retires.trace)

  -- an instruction only adds events
  pub does-grows : (answer : Done) (held kept piece : List ℕ) (old new : Machine M) → IsTrue (is_secure (sight.mode old.memory)) → DoesSo sight accesses Caused answer held kept piece old new
      → Grows (sight.trace old.memory) (sight.trace new.memory)
  does-grows done.Goes held kept piece old new secure does = done-grows does.0 held kept piece old new secure does.2
  does-grows done.Ended held kept piece old new secure does = done-grows end.Exit held kept piece old new secure does
  does-grows (done.Index place) held kept piece old new secure does = done-grows (end.Index place) held kept piece old new secure does
  does-grows (done.Divide place) held kept piece old new secure does = done-grows (end.Divide place) held kept piece old new secure does
  does-grows (done.Refused reason) held kept piece old new secure does =
      elim does [ inl stopped ↦ steps-grow old new (end.Stopped (stop.Refused reason)) secure stopped.steps | inr forbidden ↦ steps-grow old new forbidden.1.ended secure forbidden.1.steps ]
  does-grows (done.Tree event) held kept piece old new secure does = steps-grow old new (end.Stopped (stop.Tree event)) secure does.steps
  does-grows (done.Log event) held kept piece old new secure does = steps-grow old new (end.Stopped (stop.Log event)) secure does.steps
  does-grows (done.Fault (fault.Log cause)) held kept piece old new secure does =
      let fails = does.0 in grows-both _ _ _ (steps-grow old fails.middle fails.ended secure fails.made.steps) (fails.events, fails.makes.trace)
  does-grows (done.Fault fault.Sink) held kept piece old new secure does =
      grows-both _ _ _ (steps-grow old does.middle does.ended secure does.made.steps) (does.more, does.makes.trace)

-- ---- bytes in blocks

drop-both : {A : Type 0} (n m : ℕ) (xs : List A) → drop m (drop n xs) ≡ drop (n + m) xs
drop-both zero m xs = let e : m ≡ 0 + m = omega arith in ap (λ (k : ℕ). drop k xs) e
drop-both {A} (suc n) m [] = drop-nil {A = A} m ∙ sym (drop-nil {A = A} (suc n + m))
drop-both (suc n) m (x ∷ xs) = let e : suc (n + m) ≡ suc n + m = omega arith in drop-both n m xs ∙ ap (λ (k : ℕ). drop k (x ∷ xs)) e

pub blocks-more : (n : ℕ) (bytes : List ℕ) → blocks_in (suc n) bytes ≡ blocks_in n bytes ++ bytes_at (64 * n) 64 bytes ∷ []
blocks-more zero bytes = refl
blocks-more (suc n) bytes =
    let e : 64 + 64 * n ≡ 64 * suc n = omega arith in
    let at : drop (64 * n) (drop 64 bytes) ≡ drop (64 * suc n) bytes = drop-both 64 (64 * n) bytes ∙ ap (λ (k : ℕ). drop k bytes) e in
    ap (λ (blocks : List (List ℕ)). take 64 bytes ∷ blocks) (blocks-more n (drop 64 bytes))
    ∙ ap (λ (rest : List ℕ). take 64 bytes ∷ (blocks_in n (drop 64 bytes) ++ take 64 rest ∷ [])) at

-- four bytes a word
words-dropped : (n : ℕ) (words : List ℕ) → drop (4 * n) (flat_map (to_be_bytes w32) words) ≡ flat_map (to_be_bytes w32) (drop n words)
words-dropped zero words = refl
words-dropped (suc n) [] = let e : 4 * suc n ≡ suc (4 * n + 3) = omega arith in ap (λ (k : ℕ). drop k []) e
words-dropped (suc n) (word ∷ words) =
    let e : 4 * suc n ≡ suc (suc (suc (suc (4 * n)))) = omega arith in
    ap (λ (k : ℕ). drop k (to_be_bytes w32 word ++ flat_map (to_be_bytes w32) words)) e ∙ words-dropped n words

words-taken : (n : ℕ) (words : List ℕ) → take (4 * n) (flat_map (to_be_bytes w32) words) ≡ flat_map (to_be_bytes w32) (take n words)
words-taken zero words = refl
words-taken (suc n) [] = let e : 4 * suc n ≡ suc (4 * n + 3) = omega arith in ap (λ (k : ℕ). take k []) e
words-taken (suc n) (word ∷ words) =
    let e : 4 * suc n ≡ suc (suc (suc (suc (4 * n)))) = omega arith in
    ap (λ (k : ℕ). take k (to_be_bytes w32 word ++ flat_map (to_be_bytes w32) words)) e
    ∙ ap (λ (rest : List ℕ). to_be_bytes w32 word ++ rest) (words-taken n words)

-- one word more of a block of code
pub word-more : (code old new bytes : List ℕ) (first k : ℕ) → first + k < length code → take (4 * k) old ≡ flat_map (to_be_bytes w32) (take k (drop first code))
    → bytes ≡ to_be_bytes w32 (get_or code (first + k) 0) → take (4 * k + length bytes) new ≡ take (4 * k) old ++ bytes
    → take (4 * (k + 1)) new ≡ flat_map (to_be_bytes w32) (take (k + 1) (drop first code))
word-more code old new bytes first k below so_far is put =
    let word = get_or code (first + k) 0 in
    let long : 4 * (k + 1) ≡ 4 * k + length bytes = let four : length bytes ≡ 4 = ap (λ (l : List ℕ). length l) is in omega (arith, four) in
    let inside : k < length (drop first code) = let rest = length-drop first code in omega (arith, rest, below) in
    let at : get_or (drop first code) k 0 ≡ word = get_or-drop first code k 0 in
    let more : take (k + 1) (drop first code) ≡ take k (drop first code) ++ word ∷ [] =
    take_more (drop first code) k 0 inside ∙ ap (λ (w : ℕ). take k (drop first code) ++ w ∷ []) at in
    ap (λ (n : ℕ). take n new) long ∙ put ∙ ap (λ (l : List ℕ). l ++ bytes) so_far
    ∙ ap (λ (l : List ℕ). flat_map (to_be_bytes w32) (take k (drop first code)) ++ l) (is ∙ sym (append-nil (to_be_bytes w32 word)))
    ∙ sym (ap (λ (l : List ℕ). flat_map (to_be_bytes w32) l) more ∙ flat_map-append (to_be_bytes w32) (take k (drop first code)) (word ∷ []))

-- all words of one
pub words-whole : (code payload : List ℕ) (first k : ℕ) → length payload ≡ 64 → k ≡ 16 → take (4 * k) payload ≡ flat_map (to_be_bytes w32) (take k (drop first code))
    → payload ≡ flat_map (to_be_bytes w32) (take 16 (drop first code))
words-whole code payload first k long sixteen so_far =
    let e : 64 ≡ 4 * k = omega (arith, sixteen) in
    sym (take_all 64 payload (omega (arith, long))) ∙ ap (λ (n : ℕ). take n payload) e ∙ so_far ∙ ap (λ (n : ℕ). flat_map (to_be_bytes w32) (take n (drop first code))) sixteen

-- a constant block, before the code
pub constant-bytes : (constants code : List ℕ) (number : ℕ) → 64 * number + 64 ≤ length constants → bytes_at (64 * number) 64 constants ≡ bytes_at (64 * number) 64 (constants ++ code)
constant-bytes constants code number inside =
    let rest = length-drop (64 * number) constants in
    sym (ap (λ (bytes : List ℕ). take 64 bytes) (drop-append-le (64 * number) constants code (omega (arith, inside))) ∙ take-append-le 64 (drop (64 * number) constants) code (omega (arith, rest, inside)))

-- one block more is taken in
pub taken-so-far : (program : ProgramParts) (number : ℕ) (payload statics : List ℕ) → payload ≡ bytes_at (64 * number) 64 statics → HasTaken program (blocks_in number statics ++ payload ∷ [])
    → HasTaken program (blocks_in (number + 1) statics)
taken-so-far program number payload statics is taken =
    let e : suc number ≡ number + 1 = omega arith in
    let same : blocks_in number statics ++ payload ∷ [] ≡ blocks_in (number + 1) statics =
    ap (λ (p : List ℕ). blocks_in number statics ++ p ∷ []) is ∙ sym (blocks-more number statics) ∙ ap (λ (n : ℕ). blocks_in n statics) e in
    subst (λ (ps : List (List ℕ)). HasTaken program ps) same taken

-- a block of code, after the constants
pub code-bytes : (constants code : List ℕ) (before n number : ℕ) → length constants ≡ 64 * before → number ≡ before + n
    → flat_map (to_be_bytes w32) (take 16 (drop (16 * n) code)) ≡ bytes_at (64 * number) 64 (constants ++ flat_map (to_be_bytes w32) code)
code-bytes constants code before n number long is =
    let at : 64 * number ≡ length constants + 4 * (16 * n) = omega (arith, long, is) in
    let after : drop (64 * number) (constants ++ flat_map (to_be_bytes w32) code) ≡ flat_map (to_be_bytes w32) (drop (16 * n) code) =
    ap (λ (k : ℕ). drop k (constants ++ flat_map (to_be_bytes w32) code)) at ∙ drop-append-add constants (flat_map (to_be_bytes w32) code) (4 * (16 * n)) ∙ words-dropped (16 * n) code in
    sym (ap (λ (bytes : List ℕ). take 64 bytes) after ∙ words-taken 16 (drop (16 * n) code))

-- ---- what is read, in the order of the moves

record MapParts {A B : Type 0} (f : A → B) (xs : List A) (ys zs : List B) : Type 0 where
  front : List A
  back : List A
  parts : xs ≡ front ++ back
  first : map f front ≡ ys
  next : map f back ≡ zs

map-parts : {A B : Type 0} (f : A → B) (xs : List A) (ys zs : List B) → map f xs ≡ ys ++ zs → MapParts f xs ys zs
map-parts f xs [] zs is = record { front = []; back = xs; parts = refl; first = refl; next = is }
map-parts f [] (y ∷ ys) zs is = cc
map-parts {A} f (x ∷ xs) (y ∷ ys) zs is =
    let head : f x ≡ y = cc in
    let tail : map f xs ≡ ys ++ zs = cc in
    let rest = map-parts f xs ys zs tail in
    record {
      front = x ∷ rest.front;
      back = rest.back;
      parts = ap (λ (l : List A). x ∷ l) rest.parts;
      first = ap (λ b. b ∷ map f rest.front) head ∙ ap (λ l. y ∷ l) rest.first;
      next = rest.next;
    }

record IsReadOf (n : ℕ) (event : Event) : Type 0 where
  block : Block
  is : event ≡ BlockRead (Tree n) block

read-of : (n : ℕ) (event : Event) → move_of event ≡ reads_block n → IsReadOf n event
read-of n (BlockRead (Tree m) block) is = let same : m ≡ n = cc in record { block = block; is = ap (λ (k : ℕ). BlockRead (Tree k) block) same }
read-of n (BlockRead (Log m) block) is = cc
read-of n (BlockWrite (Tree m) block) is = cc
read-of n (BlockWrite (Log m) block) is = cc
read-of n event is = cc

record IsWriteOf (n : ℕ) (event : Event) : Type 0 where
  block : Block
  is : event ≡ BlockWrite (Tree n) block

write-of : (n : ℕ) (event : Event) → move_of event ≡ writes_block n → IsWriteOf n event
write-of n (BlockWrite (Tree m) block) is = let same : m ≡ n = cc in record { block = block; is = ap (λ (k : ℕ). BlockWrite (Tree k) block) same }
write-of n (BlockWrite (Log m) block) is = cc
write-of n (BlockRead (Tree m) block) is = cc
write-of n (BlockRead (Log m) block) is = cc
write-of n event is = cc

-- no block from this one on was written
abbrev Unwritten : ℕ → List Event → Type 0
Unwritten from trace = (m : ℕ) → from ≤ m → filter_map (written_at (Tree m)) trace ≡ []

other-unwritten : (n m : ℕ) (block : Block) → n < m → written_at (Tree m) (BlockWrite (Tree n) block) ≡ None
other-unwritten n m block less =
    ap (λ (b : Bool). if b then Some block else None) (same_place-apart (Tree m) (Tree n) (λ same. let e : m ≡ n = cc in omega (arith, e, less)))

nothing-more : (f : Event → Option Block) (trace : List Event) (event : Event) → filter_map f trace ≡ [] → f event ≡ None → filter_map f (trace ++ event ∷ []) ≡ []
nothing-more f trace event none not =
    filter_map-append f trace (event ∷ []) ∙ ap (λ (l : List Block). l ++ filter_map f (event ∷ [])) none ∙ by (f event) refl not
  where
    by : (o : Option Block) → f event ≡ o → f event ≡ None → filter_map f (event ∷ []) ≡ []
    by None is not = rw is refl
    by (Some block) is not = cc

-- these events read the static blocks of these numbers, and write no block from the next one on
record Reads (layout : Layout) (statics : List ℕ) (first next : ℕ) (before events : List Event) : Type 0 where
  payloads : blocks_in (statics_before layout next) statics ≡ blocks_in (statics_before layout first) statics ++ filter_map payload_read events
  unwritten : Unwritten next (before ++ events)

reads-both : (layout : Layout) (statics : List ℕ) (first middle next : ℕ) (before one two : List Event) → Reads layout statics first middle before one
    → Reads layout statics middle next (before ++ one) two → Reads layout statics first next before (one ++ two)
reads-both layout statics first middle next before one two a b = record {
  payloads =
      b.payloads ∙ ap (λ (l : List (List ℕ)). l ++ filter_map payload_read two) a.payloads
      ∙ append_assoc (blocks_in (statics_before layout first) statics) (filter_map payload_read one) (filter_map payload_read two)
      ∙ ap (λ (l : List (List ℕ)). blocks_in (statics_before layout first) statics ++ l) (sym (filter_map-append payload_read one two));
  unwritten = λ m from. ap (λ (t : List Event). filter_map (written_at (Tree m)) t) (sym (append_assoc before one two)) ∙ b.unwritten m from;
}

module _ (layout : Layout) (statics : List ℕ) (trace : List Event) (faithful : AllReadsFaithful (static_at layout statics) trace) where
  abbrev image : Place → Option (List ℕ)
  image place = static_at layout statics place

  -- a first read of a static block gives what the image has there
  first-read : (n : ℕ) (block : Block) (before rest : List Event) → trace ≡ before ++ BlockRead (Tree n) block ∷ rest → filter_map (written_at (Tree n)) before ≡ []
      → is_static layout n ≡ true → block.payload ≡ bytes_at (64 * statics_before layout n) 64 statics
  first-read n block before rest parts none yes' = by (faithful.each before (Tree n) block rest parts)
    where
      at : image (Tree n) ≡ Some (bytes_at (64 * (n - first_static layout)) 64 statics)
      at = ap (λ (b : Bool). if b then Some (bytes_at (64 * (n - first_static layout)) 64 statics) else None) yes'

      number : n - first_static layout ≡ statics_before layout n
      number = let inside = static-at layout n yes' in omega (arith, inside.from, inside.below)

      by : IsFaithfulRead image before (Tree n) block → block.payload ≡ bytes_at (64 * statics_before layout n) 64 statics
      by (as_written written last payload stamp) =
          let found : last_write (Tree n) (history before) ≡ Some written = (last_write-in_order (Tree n) before written).1 last in
          let not : last_write (Tree n) (history before) ≡ None = (last_write-never (Tree n) before).1 none in
          let e : None ≡ Some written = sym not ∙ found in cc
      by (as_loaded never is) =
          let e : Some block.payload ≡ Some (bytes_at (64 * (n - first_static layout)) 64 statics) = sym is ∙ at in
          let f : block.payload ≡ bytes_at (64 * (n - first_static layout)) 64 statics = cc in
          f ∙ ap (λ (k : ℕ). bytes_at (64 * k) 64 statics) number

  -- a node is written
  node-write : (n next : ℕ) (before events : List Event) → n < next → map move_of events ≡ writes_block n ∷ [] → Unwritten next before → Reads layout statics next next before events
  node-write n next before [] less moves unwritten = cc
  node-write n next before (event ∷ []) less moves unwritten =
      let head : move_of event ≡ writes_block n = cc in
      let write = write-of n event head in
      let P : Event → Type 0 = λ e. Reads layout statics next next before (e ∷ []) in
      subst P (sym write.is) (record {
        payloads = sym (append-nil (blocks_in (statics_before layout next) statics));
        unwritten = λ m from. nothing-more (written_at (Tree m)) before (BlockWrite (Tree n) write.block) (unwritten m from) (other-unwritten n m write.block (omega (arith, less, from)));
      })
  node-write n next before (event ∷ other ∷ events) less moves unwritten = cc

  leaf-read : (n : ℕ) (before events rest : List Event) → map move_of events ≡ leaf_moves layout n → trace ≡ before ++ (events ++ rest) → Unwritten n before
      → Reads layout statics n (n + 1) before events
  leaf-read n before events rest moves parts unwritten =
      elim (cases_Bool (is_static layout n)) [
        | inl yes' ↦ static-read events (moves ∙ ap (λ (b : Bool). if b then reads_block n ∷ writes_block n ∷ [] else writes_block n ∷ []) yes') parts yes'
        | inr no' ↦ other-write (moves ∙ ap (λ (b : Bool). if b then reads_block n ∷ writes_block n ∷ [] else writes_block n ∷ []) no') no'
      ]
    where
      later : Unwritten (n + 1) before
      later m from = unwritten m (omega (arith, from))

      other-write : map move_of events ≡ writes_block n ∷ [] → is_static layout n ≡ false → Reads layout statics n (n + 1) before events
      other-write only no' =
          let all = node-write n (n + 1) before events (omega arith) only later in
          record {
            payloads = all.payloads ∙ ap (λ (k : ℕ). blocks_in k statics ++ filter_map payload_read events) (before-other layout n no');
            unwritten = all.unwritten;
          }

      static-read : (events : List Event) → map move_of events ≡ reads_block n ∷ writes_block n ∷ [] → trace ≡ before ++ (events ++ rest) → is_static layout n ≡ true
          → Reads layout statics n (n + 1) before events
      static-read [] moves parts yes' = cc
      static-read (event ∷ events) moves parts yes' =
          let head : move_of event ≡ reads_block n = cc in
          let tail : map move_of events ≡ writes_block n ∷ [] = cc in
          let read = read-of n event head in
          let here : trace ≡ before ++ BlockRead (Tree n) read.block ∷ (events ++ rest) = parts ∙ ap (λ (e : Event). before ++ e ∷ (events ++ rest)) read.is in
          let payload = first-read n read.block before (events ++ rest) here (unwritten n (omega arith)) yes' in
          let same : statics_before layout (n + 1) ≡ suc (statics_before layout n) = let one = before-static layout n yes' in omega (arith, one) in
          let next = λ (m : ℕ) (from : n + 1 ≤ m). nothing-more (written_at (Tree m)) before (BlockRead (Tree n) read.block) (later m from) refl in
          let one : Reads layout statics n (n + 1) before (BlockRead (Tree n) read.block ∷ []) = record {
            payloads =
                ap (λ (k : ℕ). blocks_in k statics) same ∙ blocks-more (statics_before layout n) statics
                ∙ ap (λ (p : List ℕ). blocks_in (statics_before layout n) statics ++ p ∷ []) (sym payload);
            unwritten = next;
          } in
          let two = node-write n (n + 1) (before ++ BlockRead (Tree n) read.block ∷ []) events (omega arith) tail next in
          let both = reads-both layout statics n (n + 1) (n + 1) before (BlockRead (Tree n) read.block ∷ []) events one two in
          let P : Event → Type 0 = λ e. Reads layout statics n (n + 1) before (e ∷ events) in
          subst P (sym read.is) both

  moves-read : (levels n next : ℕ) (before events rest : List Event) → next ≡ n + 1 → map move_of events ≡ moves_below layout levels n → trace ≡ before ++ (events ++ rest)
      → Unwritten (first_leaf levels n) before → Reads layout statics (first_leaf levels n) (first_leaf levels next) before events
  moves-read zero n next before events rest after moves parts unwritten =
      subst (λ (k : ℕ). Reads layout statics n k before events) (sym after) (leaf-read n before events rest moves parts unwritten)
  moves-read (suc levels) n next before events rest after moves parts unwritten =
      let a = moves_below layout levels (3 * n + 1) in
      let b = moves_below layout levels (3 * n + 2) in
      let c = moves_below layout levels (3 * n + 3) in
      let whole' = map-parts move_of events ((a ++ b) ++ c) (writes_block n ∷ []) moves in
      let three = map-parts move_of whole'.front (a ++ b) c whole'.first in
      let two = map-parts move_of three.front a b three.first in
      let all : events ≡ ((two.front ++ two.back) ++ three.back) ++ whole'.back =
      whole'.parts ∙ ap (λ (l : List Event). l ++ whole'.back) (three.parts ∙ ap (λ (l : List Event). l ++ three.back) two.parts) in
      let at-three = append_assoc ((two.front ++ two.back) ++ three.back) whole'.back rest in
      let at-two = append_assoc (two.front ++ two.back) three.back (whole'.back ++ rest) in
      let at-one = append_assoc two.front two.back (three.back ++ (whole'.back ++ rest)) in
      let one-parts : trace ≡ before ++ (two.front ++ (two.back ++ (three.back ++ (whole'.back ++ rest)))) =
      parts ∙ ap (λ (l : List Event). before ++ (l ++ rest)) all ∙ ap (λ (l : List Event). before ++ l) (at-three ∙ at-two ∙ at-one) in
      let two-parts : trace ≡ (before ++ two.front) ++ (two.back ++ (three.back ++ (whole'.back ++ rest))) = one-parts ∙ sym (append_assoc before two.front (two.back ++ (three.back ++ (whole'.back ++ rest)))) in
      let three-parts : trace ≡ (before ++ (two.front ++ two.back)) ++ (three.back ++ (whole'.back ++ rest)) =
      two-parts ∙ sym (append_assoc (before ++ two.front) two.back (three.back ++ (whole'.back ++ rest))) ∙ ap (λ (l : List Event). l ++ (three.back ++ (whole'.back ++ rest))) (append_assoc before two.front two.back) in
      let first = moves-read levels (3 * n + 1) (3 * n + 2) before two.front (two.back ++ (three.back ++ (whole'.back ++ rest))) (omega arith) two.first one-parts unwritten in
      let second = moves-read levels (3 * n + 2) (3 * n + 3) (before ++ two.front) two.back (three.back ++ (whole'.back ++ rest)) (omega arith) two.next two-parts first.unwritten in
      let both = reads-both layout statics (first_leaf levels (3 * n + 1)) (first_leaf levels (3 * n + 2)) (first_leaf levels (3 * n + 3)) before two.front two.back first second in
      let third = moves-read levels (3 * n + 3) (3 * next + 1) (before ++ (two.front ++ two.back)) three.back (whole'.back ++ rest) (omega (arith, after)) three.next three-parts both.unwritten in
      let most = reads-both layout statics (first_leaf levels (3 * n + 1)) (first_leaf levels (3 * n + 3)) (first_leaf levels (3 * next + 1)) before (two.front ++ two.back) three.back both third in
      let high = first_leaf-from levels (3 * next + 1) in
      let last = node-write n (first_leaf levels (3 * next + 1)) (before ++ ((two.front ++ two.back) ++ three.back)) whole'.back (omega (arith, high, after)) whole'.next most.unwritten in
      let joined = reads-both layout statics (first_leaf levels (3 * n + 1)) (first_leaf levels (3 * next + 1)) (first_leaf levels (3 * next + 1)) before ((two.front ++ two.back) ++ three.back)
      whole'.back most last in
      let P : List Event → Type 0 = λ l. Reads layout statics (first_leaf levels (3 * n + 1)) (first_leaf levels (3 * next + 1)) before l in
      subst P (sym all) joined

  -- all that is read at entering
  pub faithful-loaded : (events rest : List Event) → map move_of events ≡ entry_moves layout → trace ≡ Note Enter ∷ (events ++ rest)
      → filter_map payload_read events ≡ blocks_in (static_blocks layout) statics
  faithful-loaded events rest order is =
      let tree = whole layout (height_of layout) refl in
      let reads = moves-read (height_of layout) 0 1 (Note Enter ∷ []) events rest refl order is (λ m from. refl) in
      let none : blocks_in (statics_before layout (first_leaf (height_of layout) 0)) statics ≡ [] = ap (λ (k : ℕ). blocks_in k statics) (sym tree.none_before) in
      sym (ap (λ (k : ℕ). blocks_in k statics) (sym tree.all_before) ∙ reads.payloads ∙ ap (λ (l : List (List ℕ)). l ++ filter_map payload_read events) none)

-- ---- each read at entering is one of a static block

module _ (layout : Layout) (statics : List ℕ) where
  abbrev MovesStatic : BlockMove → Type 0
  MovesStatic (reads_block n) = is_static layout n ≡ true
  MovesStatic (writes_block n) = Unit {0}
  MovesStatic no_move = ⊥

  abbrev ReadsStatic : Event → Type 0
  ReadsStatic (BlockRead place block) = (payload : List ℕ) × (static_at layout statics place ≡ Some payload)
  ReadsStatic event = Unit {0}

  all-joined : {X : Type 0} (P : X → Type 0) (xs ys : List X) → AllByRecursion P xs → AllByRecursion P ys → AllByRecursion P (xs ++ ys)
  all-joined P [] ys one two = two
  all-joined P (x ∷ xs) ys one two = (one.0, all-joined P xs ys one.1 two)

  all-at : {X : Type 0} (P : X → Type 0) (xs ys : List X) (x : X) → AllByRecursion P (xs ++ x ∷ ys) → P x
  all-at P [] ys x all = all.0
  all-at P (y ∷ xs) ys x all = all-at P xs ys x all.1

  leaf-static : (n : ℕ) (b : Bool) → is_static layout n ≡ b → AllByRecursion MovesStatic (if b then reads_block n ∷ writes_block n ∷ [] else writes_block n ∷ [])
  leaf-static n true is = (is, (tt, tt))
  leaf-static n false is = (tt, tt)

  moves-static : (levels n : ℕ) → AllByRecursion MovesStatic (moves_below layout levels n)
  moves-static zero n = leaf-static n (is_static layout n) refl
  moves-static (suc levels) n =
      all-joined MovesStatic ((moves_below layout levels (3 * n + 1) ++ moves_below layout levels (3 * n + 2)) ++ moves_below layout levels (3 * n + 3)) (writes_block n ∷ [])
      (all-joined MovesStatic (moves_below layout levels (3 * n + 1) ++ moves_below layout levels (3 * n + 2)) (moves_below layout levels (3 * n + 3))
      (all-joined MovesStatic (moves_below layout levels (3 * n + 1)) (moves_below layout levels (3 * n + 2)) (moves-static levels (3 * n + 1)) (moves-static levels (3 * n + 2)))
      (moves-static levels (3 * n + 3)))
      (tt, tt)

  event-static : (event : Event) → MovesStatic (move_of event) → ReadsStatic event
  event-static (BlockRead (Tree n) block) is =
      (bytes_at (64 * (n - first_static layout)) 64 statics, ap (λ (b : Bool). if b then Some (bytes_at (64 * (n - first_static layout)) 64 statics) else None) is)
  event-static (BlockRead (Log n) block) is = absurd is
  event-static event is = tt

  events-static : (events : List Event) → AllByRecursion MovesStatic (map move_of events) → AllByRecursion ReadsStatic events
  events-static [] all = tt
  events-static (event ∷ events) all = (event-static event all.0, events-static events all.1)

  zeros-static : (last count : ℕ) → AllByRecursion ReadsStatic (zeros_written last count)
  zeros-static last zero = tt
  zeros-static last (suc n) = all-joined ReadsStatic (zeros_written last n) (BlockWrite (Log n) (stamped zero_payload (last + suc n)) ∷ []) (zeros-static last n) (tt, tt)

  zeros-unread : (last count : ℕ) → filter_map payload_read (zeros_written last count) ≡ []
  zeros-unread last zero = refl
  zeros-unread last (suc n) =
      filter_map-append payload_read (zeros_written last n) (BlockWrite (Log n) (stamped zero_payload (last + suc n)) ∷ [])
      ∙ ap (λ (l : List (List ℕ)). l ++ []) (zeros-unread last n)

  module _ (events : List Event) (last : ℕ) (order : map move_of events ≡ entry_moves layout) (trace : List Event) (is : trace ≡ Note Enter ∷ (events ++ zeros_written last layout.log))
      (long : length trace ≡ enter_events layout) where
    -- the digest of what was read
    pub entered-is : entered_digest layout trace ≡ program_digest (filter_map payload_read events)
    entered-is =
        ap (λ (t : List Event). program_digest (filter_map payload_read t)) (take_all (enter_events layout) trace (omega (arith, long)))
        ∙ ap (λ (t : List Event). program_digest (filter_map payload_read t)) is
        ∙ ap (λ (l : List (List ℕ)). program_digest l)
        (filter_map-append payload_read events (zeros_written last layout.log) ∙ ap (λ (l : List (List ℕ)). filter_map payload_read events ++ l) (zeros-unread last layout.log)
        ∙ append-nil (filter_map payload_read events))

    -- where it is another one than the image's, some read is unfaithful
    pub other-unfaithful : entered_digest layout trace ≢ program_digest (blocks_in (static_blocks layout) statics) → SomeStaticUnfaithful layout statics trace
    other-unfaithful differ =
        elim (faithful-cases (λ place. static_at layout statics place) trace) [
          | inl all ↦
              absurd (differ (entered-is ∙ ap (λ (l : List (List ℕ)). program_digest l) (faithful-loaded layout statics trace all events (zeros_written last layout.log) order is)))
          | inr some ↦ found some
        ]
      where
        static-all : AllByRecursion ReadsStatic trace
        static-all =
            subst (λ (t : List Event). AllByRecursion ReadsStatic t) (sym is) (
              tt,
              all-joined ReadsStatic events (zeros_written last layout.log)
                  (events-static events (subst (λ (ms : List BlockMove). AllByRecursion MovesStatic ms) (sym order) (moves-static (height_of layout) 0)))
                  (zeros-static last layout.log),
            )

        found : SomeReadUnfaithful (λ place. static_at layout statics place) trace → SomeStaticUnfaithful layout statics trace
        found some =
            let at = all-at ReadsStatic some.before some.rest (BlockRead some.place some.block) (subst (λ (t : List Event). AllByRecursion ReadsStatic t) some.parts static-all) in
            record { read = some; payload = at.0; static = at.1 }
