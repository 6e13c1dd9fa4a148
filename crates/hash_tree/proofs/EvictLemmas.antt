-- What follows where a line is taken out, after it was written back or with a mark.
use Rattle.std.proofs.Common.{◌≡◌, ℕ, ◌+◌, ◌<◌, true, false, List, length, Option, Some, None, refl, sym, ap, ◌∙◌, subst, inl, inr, arith, rules}
use Rattle.std.specs.Prelude.{◌≢◌, ◌^◌, is_some, option_map}
use Rattle.std.specs.FinMap.{get, contains_key, remove, insert, len, gets}
use Rattle.std.proofs.lemmas.Bool.{cases_eq, cases_lt}
use Rattle.aegis_num.specs.declared.storage.Block.{Block}
use Rattle.aegis_num.specs.declared.storage.Place.TheVariants.{Tree}
use Rattle.regions.specs.declared.layout.Layout.{Layout}
use Rattle.regions.specs.Tree.{parent_in}
use Rattle.off_chip.specs.declared.event.Event.{Event}
use Rattle.off_chip.specs.declared.event.Event.TheVariants.{BlockWrite, Note}
use Rattle.off_chip.specs.declared.event.Mark.TheVariants.{Drop}
use Rattle.off_chip.specs.Histories.{History, history, in_order, ◌◂◌}
use Rattle.line_cache.specs.declared.lines.Line.{Line}
use Rattle.line_cache.specs.LineMaps.{LineMap, Holds, dirty_at, payload_at, with_clean, clean_line, with_payload}
use Rattle.line_cache.proofs.MapLemmas.{get-remove_other, len-held}
use Rattle.hash_tree.specs.DueLines.{IsDue, dirty, above}
use Rattle.hash_tree.specs.HashTrees.{scheme_of, state_of}
use Rattle.hash_tree.specs.Schemes.{Scheme, IsLawful}
use Rattle.hash_tree.specs.Standing.{State, Stands}
use Rattle.hash_tree.specs.TreeSteps.{Appends, Puts, WrittenBack, WritesBack, write, dropped, TellsLine, node_written, leaf_written, line_dropped, Evicted, KeepsDigest}
use Rattle.hash_tree.proofs.GrowthLemmas.{write-resident}
use Rattle.hash_tree.proofs.RemoveLemmas.{Removed, leaves-dropped, leaves-written, stands-removed}
use Rattle.off_chip.specs.WriteBacks.{StampsFit, block_writes}
use Rattle.off_chip.proofs.HistoryLemmas.{history-appended}
use Rattle.off_chip.proofs.WriteLemmas.{block_writes-write}
use Rattle.hash_tree.specs.Entering.{WritesPayload}
use Rattle.hash_tree.proofs.SchemeLemmas.{line-held, writes-back}
use Rattle.hash_tree.proofs.WriteBackLemmas.{fits-written, stands-written, written-holds, written-leaves, keeps-both}
use Rattle.hash_tree.proofs.CallLemmas.{held-line, line-holds}

get-removed : (lines : LineMap) (n : ℕ) → get (remove lines n) n ≡ None
get-removed lines n = grind (gets, rules)

pub len-removed : (lines : LineMap) (n : ℕ) → Holds lines n → len (remove lines n) + 1 ≡ len lines
len-removed lines n held = let some : 0 < len lines = len-held lines n held in grind (gets, rules)

pub len-payload : (lines : LineMap) (n : ℕ) (payload : List ℕ) → Holds lines n → len (with_payload lines n payload) ≡ len lines
len-payload lines n payload held = grind (gets, rules)

len-insert_held : (lines : LineMap) (n : ℕ) (line : Line) → Holds lines n → len (insert lines n line) ≡ len lines
len-insert_held lines n line held = grind (gets, rules)

pub len-clean : (lines : LineMap) (n : ℕ) → Holds lines n → len (with_clean lines n) ≡ len lines
len-clean lines n held =
    let line = held-line lines n held in
    ap (λ (o : Option Line). len (clean_line lines n o)) line.1 ∙ len-insert_held lines n (record { payload = line.0.payload; dirty = false }) held

-- what a line that was taken out leaves
puts-removed : (old new : LineMap) (n : ℕ) → new ≡ remove old n → Puts (λ m. get old m) (λ m. get new m) n None
puts-removed old new n same = record {
  here = ap (λ (l : LineMap). get l n) same ∙ get-removed old n;
  other = λ m apart. ap (λ (l : LineMap). get l m) same ∙ get-remove_other old n m apart;
}

-- ---- a line that was written back, and then taken out

-- what its write tells
told-written : (scheme : Scheme) (old new : State) (n : ℕ) (line : Line) (block : Block) → line.dirty ≡ true → WrittenBack scheme old new n line block
    → TellsLine scheme old.lines (BlockWrite (Tree n) block)
told-written scheme old new n line block is step =
    elim (cases_lt n scheme.nodes) [
      | inl node ↦ node_written n block refl node (dirty n line step.held is)
      | inr leaf ↦ leaf_written n block line refl leaf step.held is step.payload
    ]

-- which other lines are dirty
waiting-written : (scheme : Scheme) (old new : State) (n : ℕ) (line : Line) (block : Block) → WrittenBack scheme old new n line block → (m : ℕ) (other : Line) → m ≢ n
    → old.lines m ≡ Some other → other.dirty ≡ true → (now : Line) × (new.lines m ≡ Some now) × (now.dirty ≡ true)
waiting-written scheme old new n line block step m other apart held is =
    elim (cases_eq n 0) [
      | inl root ↦ (other, step.other m apart (λ positive. absurd (omega (arith, positive, root))) ∙ held, is)
      | inr some ↦
          elim (cases_eq m (scheme.digests.parent n)) [
            | inl here ↦
                let parent = step.above (omega (arith, some)) in
                (record { payload = parent.payload; dirty = true }, ap (λ (k : ℕ). new.lines k) here ∙ parent.set, refl)
            | inr away ↦ (other, step.other m apart (λ _. away) ∙ held, is)
          ]
    ]

due-written : (scheme : Scheme) (old new : State) (n : ℕ) (line : Line) (block : Block) → line.dirty ≡ true → WrittenBack scheme old new n line block → (m : ℕ) (now : Line) → m ≢ n
    → new.lines m ≡ Some now → now.dirty ≡ true → IsDue scheme old.lines m
due-written scheme old new n line block was step m now apart held is =
    elim (cases_eq n 0) [
      | inl root ↦ dirty m now (sym (step.other m apart (λ positive. absurd (omega (arith, positive, root)))) ∙ held) is
      | inr some ↦
          elim (cases_eq m (scheme.digests.parent n)) [
            | inl here ↦ subst (λ (k : ℕ). IsDue scheme old.lines k) (sym here) (above n (omega (arith, some)) (dirty n line step.held was))
            | inr away ↦ dirty m now (sym (step.other m apart (λ _. away)) ∙ held) is
          ]
    ]

dirty-line : (line : Line) (o : Option Line) → o ≡ Some line → option_map (λ (l : Line). l.dirty) o ≡ Some true → line.dirty ≡ true
dirty-line line o held is =
    let e : Some line.dirty ≡ Some true = sym (ap (λ (o : Option Line). option_map (λ (l : Line). l.dirty) o) held) ∙ is in cc

none-some : {P : Type 0} (o : Option Line) (line : Line) → o ≡ None → o ≡ Some line → P
none-some o line none held = let e : None ≡ Some line = sym none ∙ held in cc

-- after a write-back
pub evicted-written : (scheme : Scheme) → IsLawful scheme → (old middle new : LineMap) (old_root middle_root new_root : List ℕ) (old_trace new_trace : List Event) (last n : ℕ)
    → last < 2 ^ 64 → dirty_at old n ≡ Some true → Stands scheme (state_of old old_root old_trace)
    → WritesBack scheme (state_of old old_root old_trace) (state_of middle middle_root new_trace) last n → new ≡ remove middle n → new_root ≡ middle_root
    → Evicted scheme (state_of old old_root old_trace) (state_of new new_root new_trace) n
evicted-written scheme lawful old middle new old_root middle_root new_root old_trace new_trace last n fits was stands back same root =
    let before = state_of old old_root old_trace in
    let between = state_of middle middle_root new_trace in
    let after = state_of new new_root new_trace in
    let step = back.step in
    let is : back.line.dirty ≡ true = dirty-line back.line (before.lines n) step.held was in
    let below = stands.inside n back.line step.held in
    let first = stands-written scheme lawful before between n back.line back.block stands (subst (λ (k : ℕ). k < 2 ^ 64) (sym back.stamped) fits) step in
    let out : Removed scheme between after n (record { payload = back.line.payload; dirty = false }) = record {
      leaves = leaves-written scheme new_trace n (write-resident n back.block old_trace new_trace step.event);
      root = root;
      held = step.here;
      clean = refl;
      lines = puts-removed middle new n same;
    } in
    let second = stands-removed scheme lawful between after n (record { payload = back.line.payload; dirty = false }) first.0 out in
    record {
      stands = second.0;
      contents = keeps-both scheme before between after first.1 second.1 (λ deceived. deceived);
      step = record {
        event = BlockWrite (Tree n) back.block;
        appended = step.event;
        removal = write back.block refl;
        held = ap (λ (o : Option Line). is_some o) step.held;
        gone = out.lines.here;
        others = λ m apart. ap (λ (o : Option Line). is_some o) (out.lines.other m apart) ∙ written-holds scheme before between n back.line back.block step m;
        leaves = λ m leaf apart. out.lines.other m apart ∙ written-leaves scheme lawful before between n back.line back.block below step m leaf apart;
        told = told-written scheme before between n back.line back.block is step;
        waiting = λ m line apart held due.
            let now = waiting-written scheme before between n back.line back.block step m line apart held due in
            (now.0, out.lines.other m apart ∙ now.1, now.2);
        due = λ m line held due.
            elim (cases_eq m n) [
              | inl here ↦ none-some (after.lines m) line (ap (λ (k : ℕ). after.lines k) here ∙ out.lines.here) held
              | inr apart ↦ due-written scheme before between n back.line back.block is step m line apart (sym (out.lines.other m apart) ∙ held) due
            ];
      };
    }

clean-line : (lines : LineMap) (n : ℕ) → dirty_at lines n ≡ Some false → (line : Line) × (get lines n ≡ Some line) × (line.dirty ≡ false)
clean-line lines n clean = by (get lines n) refl clean
  where
    by : (o : Option Line) → get lines n ≡ o → option_map (λ (line : Line). line.dirty) o ≡ Some false → (line : Line) × (get lines n ≡ Some line) × (line.dirty ≡ false)
    by None found same = cc
    by (Some line) found same = let e : line.dirty ≡ false = cc in (line, found, e)

-- with a mark
pub evicted-dropped : (scheme : Scheme) → IsLawful scheme → (old new : LineMap) (old_root new_root : List ℕ) (old_trace new_trace : List Event) (n : ℕ)
    → Stands scheme (state_of old old_root old_trace) → dirty_at old n ≡ Some false → Appends (Note (Drop (Tree n))) old_trace new_trace → new ≡ remove old n → new_root ≡ old_root
    → Evicted scheme (state_of old old_root old_trace) (state_of new new_root new_trace) n
evicted-dropped scheme lawful old new old_root new_root old_trace new_trace n stands clean event same root =
    let before = state_of old old_root old_trace in
    let after = state_of new new_root new_trace in
    let line = clean-line old n clean in
    let out : Removed scheme before after n line.0 = record {
      leaves = leaves-dropped scheme old_trace new_trace n event;
      root = root;
      held = line.1;
      clean = line.2;
      lines = puts-removed old new n same;
    } in
    let both = stands-removed scheme lawful before after n line.0 stands out in
    record {
      stands = both.0;
      contents = both.1;
      step = record {
        event = Note (Drop (Tree n));
        appended = event;
        removal = dropped refl;
        held = ap (λ (o : Option Line). is_some o) line.1;
        gone = out.lines.here;
        others = λ m apart. ap (λ (o : Option Line). is_some o) (out.lines.other m apart);
        leaves = λ m leaf apart. out.lines.other m apart;
        told = line_dropped n line.0 refl line.1 line.2;
        waiting = λ m other apart held is. (other, out.lines.other m apart ∙ held, is);
        due = λ m other held is.
            elim (cases_eq m n) [
              | inl here ↦ none-some (after.lines m) other (ap (λ (k : ℕ). after.lines k) here ∙ out.lines.here) held
              | inr apart ↦ dirty m other (sym (out.lines.other m apart) ∙ held) is
            ];
      };
    }

-- ---- how many lines there are, and which

pub keeps-len : (layout : Layout) (old new : LineMap) (old_root new_root digest : List ℕ) (n : ℕ) → KeepsDigest layout old new old_root new_root digest n → len new ≡ len old
keeps-len layout old new old_root new_root digest n keeps =
    elim (cases_eq n 0) [
      | inl root ↦ ap (λ (l : LineMap). len l) (keeps.root root).1
      | inr other ↦
          let above : 0 < n = omega (arith, other) in
          let set = keeps.slot above in
          let line = line-held old (parent_in 3 n) set.1.0 set.1.1 in
          ap (λ (l : LineMap). len l) set.1.2 ∙ len-payload old (parent_in 3 n) _ (line-holds old (parent_in 3 n) line.0 line.1)
    ]

pub back-holds : (scheme : Scheme) (old new : LineMap) (old_root new_root : List ℕ) (old_trace new_trace : List Event) (last n : ℕ)
    → WritesBack scheme (state_of old old_root old_trace) (state_of new new_root new_trace) last n → (m : ℕ) → contains_key new m ≡ contains_key old m
back-holds scheme old new old_root new_root old_trace new_trace last n back =
    written-holds scheme (state_of old old_root old_trace) (state_of new new_root new_trace) n back.line back.block back.step

pub back-fits : (scheme : Scheme) (old new : State) (old_last last n : ℕ) → WritesBack scheme old new last n → StampsFit old_last (history old.trace) → last ≡ old_last + 1
    → StampsFit last (history new.trace)
back-fits scheme old new old_last last n back fit next =
    subst (λ (k : ℕ). StampsFit k (history new.trace)) (sym next) (fits-written old_last n back.block old.trace new.trace fit (back.stamped ∙ next) back.step.event)

pub count-removed : (middle new old : LineMap) (n : ℕ) → new ≡ remove middle n → Holds middle n → len middle ≡ len old → len new + 1 ≡ len old
count-removed middle new old n same held count = omega (arith, ap (λ (l : LineMap). len l) same, len-removed middle n held, count)

-- ---- a write of the payload of a line

-- the last write has the last stamp
fits-last : (last n : ℕ) (block : Block) (old new : List Event) → StampsFit last (history new) → Appends (BlockWrite (Tree n) block) old new → block.stamp ≡ last
fits-last last n block old new fit same =
    let grown : StampsFit last (BlockWrite (Tree n) block ◂ history old) =
    subst (λ (h : History). StampsFit last h) (history-appended old new (BlockWrite (Tree n) block) same) fit in
    let here : block.stamp ≡ block_writes (in_order (history old)) + 1 = grown.each.1 in
    omega (arith, here, grown.count, block_writes-write (in_order (history old)) (Tree n) block)

pub writes-back_payload : (layout : Layout) (veiled : ℕ → ℕ → List ℕ → List ℕ) (old middle new : LineMap) (old_root new_root : List ℕ) (old_trace new_trace : List Event)
    (last n : ℕ) (payload digest : List ℕ) → payload_at old n ≡ Some payload → middle ≡ with_clean old n
    → ((m : ℕ) (line : Line) → get old m ≡ Some line → length line.payload ≡ 64)
    → WritesPayload (scheme_of layout veiled) n payload digest old_trace new_trace → StampsFit last (history new_trace)
    → KeepsDigest layout middle new old_root new_root digest n
    → WritesBack (scheme_of layout veiled) (state_of old old_root old_trace) (state_of new new_root new_trace) last n
unfolding scheme_of
writes-back_payload layout veiled old middle new old_root new_root old_trace new_trace last n payload digest held clean long back fit keeps =
    writes-back layout veiled old middle new old_root new_root old_trace new_trace n back.block.stamp last payload back.block.payload digest
    (fits-last last n back.block old_trace new_trace fit back.event) back.digest_is held back.payload_is clean long back.event keeps
