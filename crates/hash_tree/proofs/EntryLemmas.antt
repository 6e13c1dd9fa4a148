-- What entering a whole tree leads to.
use Rattle.std.proofs.Common.{◌≡◌, ℕ, ◌+◌, ◌-◌, ◌<◌, ◌≤◌, ◌&&◌, Bool, true, false, cond, List, [], ◌∷◌, ◌++◌, length, Option, Some, None, refl, sym, ap, ◌∙◌, subst, inl, inr, arith, rules, length-append}
use Rattle.std.specs.Prelude.{Contains, filter_map, map, not, slice_get, unwrap_or}
use Rattle.std.specs.List.{All}
use Rattle.std.specs.FinMap.{empty, get, gets}
use Rattle.std.proofs.lemmas.Bool.{cases_lt}
use Rattle.std.proofs.lemmas.List.{length-map}
use Rattle.std.proofs.lemmas.List.Elements.{All-contains, Contains-append_right}
use Rattle.aegis_num.specs.declared.storage.Block.{Block}
use Rattle.aegis_num.specs.declared.storage.Place.{Place}
use Rattle.aegis_num.specs.declared.storage.Place.TheVariants.{Tree}
use Rattle.regions.specs.declared.layout.Layout.{Layout}
use Rattle.regions.specs.Tree.{height_of, tree_blocks}
use Rattle.off_chip.specs.declared.event.Event.{Event}
use Rattle.off_chip.specs.declared.event.Event.TheVariants.{BlockRead, BlockWrite, Note}
use Rattle.off_chip.specs.declared.event.Mark.TheVariants.{Drop}
use Rattle.off_chip.specs.BlockPlaces.{first_static}
use Rattle.off_chip.specs.Boundaries.{payload_read}
use Rattle.off_chip.specs.Histories.{History, history, no_event}
use Rattle.off_chip.specs.HonestMemory.{IsWhole}
use Rattle.off_chip.specs.OffChipBytes.{static_blocks}
use Rattle.off_chip.specs.Residency.{concerning, in_check, is_log, is_resident}
use Rattle.off_chip.specs.WriteBacks.{last_write, written_at}
use Rattle.off_chip.proofs.HistoryLemmas.{cut-Each, newest-nothing}
use Rattle.off_chip.proofs.WriteLemmas.{same_place-apart}
use Rattle.block_hash.specs.BlockStrings.{program_digest}
use Rattle.block_hash.specs.ProgramParts.{HasTaken, ProgramParts}
use Rattle.line_cache.specs.declared.lines.Line.{Line}
use Rattle.line_cache.specs.LineMaps.{LineMap}
use Rattle.hash_tree.specs.Entering.{BlockMove, move_of, entry_moves, Entered, IsUnder, SubtreeEntered}
use Rattle.hash_tree.specs.HashTrees.{scheme_of, state_of}
use Rattle.hash_tree.specs.Schemes.{Scheme, IsLawful, unveiled}
use Rattle.hash_tree.specs.Standing.{NodeLaidOut, NodesLaidOut, Stands, contents, contents_in, payload_in}
use Rattle.hash_tree.specs.TreeSteps.{IsElsewhere}
use Rattle.hash_tree.proofs.EntryNumbers.{statics-inside, whole}
use Rattle.hash_tree.proofs.GrowthLemmas.{elsewhere-laid_out, written-elsewhere}
use Rattle.hash_tree.proofs.UnderLemmas.{static-is, under-all, under-inside}

-- ---- a trace without an event of the tree

concerning-none : (event : Event) (older : History) → IsElsewhere event → (m : ℕ) → concerning (Tree m) event older ≡ None
concerning-none (BlockRead at block) older elsewhere m =
    ap (λ (b : Bool). cond (b && not (is_log at && in_check older)) (Some true) None) (same_place-apart (Tree m) at (λ (same : Tree m ≡ at). elsewhere m (ap (λ (p : Place). Some p) (sym same))))
concerning-none (BlockWrite at block) older elsewhere m =
    ap (λ (b : Bool). cond b (Some false) None) (same_place-apart (Tree m) at (λ (same : Tree m ≡ at). elsewhere m (ap (λ (p : Place). Some p) (sym same))))
concerning-none (Note (Drop at)) older elsewhere m =
    ap (λ (b : Bool). cond b (Some false) None) (same_place-apart (Tree m) at (λ (same : Tree m ≡ at). elsewhere m (ap (λ (p : Place). Some p) (sym same))))
concerning-none event older elsewhere m = refl

cut-elsewhere : (trace between : List Event) (later : Event) (last : List Event) → All IsElsewhere trace → trace ≡ between ++ later ∷ last → IsElsewhere later
cut-elsewhere trace between later last all parts =
    let here : Contains (later ∷ last) later = (0, omega arith, refl) in
    All-contains IsElsewhere trace later all (subst (λ (xs : List Event). Contains xs later) (sym parts) (Contains-append_right between (later ∷ last) later here))

none-written : (trace : List Event) → All IsElsewhere trace → (m : ℕ) → last_write (Tree m) (history trace) ≡ None
none-written trace all m =
    newest-nothing (λ event _. written_at (Tree m) event) no_event trace (λ between later last parts. written-elsewhere later (cut-elsewhere trace between later last all parts) m)

none-resident : (trace : List Event) → All IsElsewhere trace → (m : ℕ) → is_resident (Tree m) (history trace) ≡ false
none-resident trace all m =
    ap (λ (o : Option Bool). unwrap_or o false)
    (newest-nothing (concerning (Tree m)) no_event trace (λ between later last parts. concerning-none later _ (cut-elsewhere trace between later last all parts) m))

none-laid_out : (scheme : Scheme) (trace : List Event) → All IsElsewhere trace → NodesLaidOut scheme (history trace)
none-laid_out scheme trace all = record {
  each = cut-Each (NodeLaidOut scheme) trace (λ before event rest parts. elsewhere-laid_out scheme event (history before) (cut-elsewhere trace before event rest all parts));
}

-- ---- lines that hold nothing

get-empty : (lines : LineMap) (n : ℕ) → lines ≡ empty → get lines n ≡ None
get-empty lines n none = rw none (grind (gets, rules))

no_line : {P : Type 0} (lines : LineMap) (n : ℕ) (line : Line) → lines ≡ empty → get lines n ≡ Some line → P
no_line lines n line none held = let e : None ≡ Some line = sym (get-empty lines n none) ∙ held in cc

-- ---- the whole tree

module _ (layout : Layout) (veiled : ℕ → ℕ → List ℕ → List ℕ) (lawful : IsLawful (scheme_of layout veiled)) (lines : LineMap) (none : lines ≡ empty) (p q : ProgramParts)
    (old new : List Event) (untouched : All IsElsewhere old) (root : List ℕ)
    (entered : SubtreeEntered layout (scheme_of layout veiled) (height_of layout) 0 p q old new root) where
  under : (n : ℕ) → n < tree_blocks layout → IsUnder (height_of layout) 0 n
  under n below = under-all (height_of layout) n below

  outside : (n : ℕ) → tree_blocks layout ≤ n → IsUnder (height_of layout) 0 n → ⊥
  outside n from at = let below = under-inside (height_of layout) n at in omega (arith, below, from)

  contents-are : (n : ℕ) (block : Block) → last_write (Tree n) (history new) ≡ Some block
      → contents (scheme_of layout veiled) (state_of lines root new) n ≡ Some (unveiled (scheme_of layout veiled) n block)
  contents-are n block found =
      ap (λ (o : Option Line). contents_in (scheme_of layout veiled) n o (last_write (Tree n) (history new))) (get-empty lines n none)
      ∙ ap (λ (o : Option Block). contents_in (scheme_of layout veiled) n None o) found

  slot-of : (n : ℕ) (block : Block) (payload : List ℕ) (written : Option Block) → 0 < n → n < tree_blocks layout → last_write (Tree n) (history new) ≡ Some block
      → last_write (Tree ((scheme_of layout veiled).digests.parent n)) (history new) ≡ written → payload_in (get lines ((scheme_of layout veiled).digests.parent n)) written ≡ Some payload
      → (scheme_of layout veiled).digests.slot n payload ≡ (scheme_of layout veiled).digests.digest n block
  unfolding scheme_of
  slot-of n block payload None above below found last kept =
      let e : None ≡ Some payload = sym (ap (λ (o : Option Line). payload_in o None) (get-empty lines _ none)) ∙ kept in cc
  slot-of n block payload (Some parent) above below found last kept =
      let e : Some parent.payload ≡ Some payload = sym (ap (λ (o : Option Line). payload_in o (Some parent)) (get-empty lines _ none)) ∙ kept in
      let same : parent.payload ≡ payload = cc in
      let less = lawful.above n above below in
      ap (λ (xs : List ℕ). (scheme_of layout veiled).digests.slot n xs) (sym same)
      ∙ entered.blocks.slots n block parent above (under n below) (under _ (omega (arith, less, below))) found last

  pub stands-entered : Stands (scheme_of layout veiled) (state_of lines root new)
  unfolding scheme_of
  stands-entered = record {
    home = inl (record {
      written = λ n below. let w = entered.blocks.written n (under n below) in (w.0, w.1);
      slots = λ n block payload above below found kept. slot-of n block payload _ above below found refl kept;
      root = λ block found. entered.digest_is block found;
      clean = λ n line block held clean found. no_line lines n line none held;
    });
    held = λ n resident.
        elim (cases_lt n (tree_blocks layout)) [
          | inl below ↦ let e : true ≡ false = sym resident ∙ entered.blocks.gone n (under n below) in cc
          | inr from ↦ let e : true ≡ false = sym resident ∙ entered.blocks.resident n (outside n from) ∙ none-resident old untouched n in cc
        ];
    resident = λ n line held. no_line lines n line none held;
    root = entered.expected;
    expected = λ n line above below held. no_line lines _ line none held;
    padding = λ all n line node held. no_line lines n line none held;
    writes = entered.blocks.laid_out (none-laid_out (scheme_of layout veiled) old untouched);
    inside = λ n line held. no_line lines n line none held;
    long = λ n line held. no_line lines n line none held;
    whole = λ n block found.
        elim (cases_lt n (tree_blocks layout)) [
          | inl below ↦
              let w = entered.blocks.written n (under n below) in
              let b : Some w.0 ≡ Some block = sym w.1 ∙ found in
              let e : w.0 ≡ block = cc in
              subst (λ (b : Block). IsWhole b) e w.2
          | inr from ↦ let e : None ≡ Some block = sym (none-written old untouched n) ∙ sym (entered.blocks.writes n (outside n from)) ∙ found in cc
        ];
  }

  pub entered-does : (old_lines : LineMap) (old_root answer : List ℕ) → p.added ≡ 0 → q.added ≡ static_blocks layout → HasTaken p []
      → ((payloads : List (List ℕ)) → HasTaken q payloads → answer ≡ program_digest payloads)
      → Entered layout (scheme_of layout veiled) (state_of old_lines old_root old) (state_of lines root new) answer
  unfolding scheme_of
  entered-does old_lines old_root answer start ends taken finishes = record {
    events = entered.blocks.events;
    appended = entered.blocks.appended;
    order = entered.blocks.order;
    zeros_written = entered.blocks.zeros_written;
    reads = omega (arith, start, ends, entered.blocks.added);
    answer_is = finishes (filter_map payload_read entered.blocks.events) (entered.blocks.taken [] taken);
    statics = λ k below.
        let n : ℕ = first_static layout + k in
        let inside : n < tree_blocks layout = omega (arith, below, statics-inside layout) in
        let w = entered.blocks.written n (under n inside) in
        let s = entered.blocks.statics n w.0 (under n inside) (static-is layout n (omega arith) (omega (arith, below))) w.1 in
        let same : s.k ≡ k = number-of p.added s.k (first_static layout) k start s.number in
        contents-are n w.0 w.1 ∙ ap (λ (xs : List ℕ). Some xs) s.holds ∙ sym s.found ∙ ap (λ (i : ℕ). slice_get (filter_map payload_read entered.blocks.events) i) same;
    zeros = λ n leaf inside other.
        let w = entered.blocks.written n (under n inside) in
        contents-are n w.0 w.1 ∙ ap (λ (xs : List ℕ). Some xs) (entered.blocks.zeros n w.0 (under n inside) leaf other w.1);
  }
    where
      number-of : (added k first number : ℕ) → added ≡ 0 → added + k ≡ first + number - first → k ≡ number
      number-of added k first number start is = omega (arith, start, is)

  -- how many events there are
  pub entered-count : length new ≡ length old + (static_blocks layout + tree_blocks layout)
  entered-count =
      let all = whole layout (height_of layout) refl in
      let moves : length (map move_of entered.blocks.events) ≡ length (entry_moves layout) = ap (λ (ms : List BlockMove). length ms) entered.blocks.order in
      omega (arith, ap (λ (t : List Event). length t) entered.blocks.appended, length-append old entered.blocks.events, length-map entered.blocks.events move_of, moves, all.moves)

-- by a height that is computed
pub at-height : (layout : Layout) (veiled : ℕ → ℕ → List ℕ → List ℕ) (levels : ℕ) (p q : ProgramParts) (old new : List Event) (root : List ℕ) → levels ≡ height_of layout
    → SubtreeEntered layout (scheme_of layout veiled) levels 0 p q old new root → SubtreeEntered layout (scheme_of layout veiled) (height_of layout) 0 p q old new root
at-height layout veiled levels p q old new root same entered = subst (λ (k : ℕ). SubtreeEntered layout (scheme_of layout veiled) k 0 p q old new root) same entered
