-- What follows where dirty lines are written back one after another, from the greatest block number down.
use Rattle.std.proofs.Common.{◌≡◌, ℕ, suc, ◌+◌, ◌<◌, ◌≤◌, true, false, List, [], ◌∷◌, ◌++◌, Option, Some, refl, sym, ap, ◌∙◌, subst, inl, inr, arith}
use Rattle.std.specs.Prelude.{◌^◌, is_some, option_map, Contains}
use Rattle.std.specs.FinMap.{contains_key, remove, len}
use Rattle.std.proofs.lemmas.Bool.{cases_eq, cases_Bool}
use Rattle.std.proofs.lemmas.List.{append-nil}
use Rattle.std.proofs.lemmas.List.Elements.{All-nil, All-push, Contains-append_left, Contains-append_right}
use Rattle.aegis_num.specs.declared.storage.Block.{Block}
use Rattle.aegis_num.specs.declared.storage.Place.TheVariants.{Tree}
use Rattle.regions.specs.declared.layout.Layout.{Layout}
use Rattle.regions.specs.Tree.{tree_blocks}
use Rattle.off_chip.specs.declared.event.Event.{Event}
use Rattle.off_chip.specs.declared.event.Event.TheVariants.{BlockWrite}
use Rattle.line_cache.specs.declared.lines.Line.{Line}
use Rattle.line_cache.specs.LineMaps.{LineMap, Holds, dirty_at}
use Rattle.line_cache.proofs.MapLemmas.{get-remove_other, len-held}
use Rattle.hash_tree.specs.DueLines.{IsDue, dirty, above}
use Rattle.hash_tree.specs.Flushes.{WritesDue, Flushed, LineFlushed, wrote, was_clean}
use Rattle.hash_tree.specs.Schemes.{Scheme, IsLawful}
use Rattle.hash_tree.specs.Standing.{State, Stands}
use Rattle.hash_tree.specs.HashTrees.{scheme_of, state_of}
use Rattle.hash_tree.specs.TreeSteps.{WrittenBack, WritesBack}
use Rattle.hash_tree.proofs.EvictLemmas.{len-removed}
use Rattle.hash_tree.proofs.MoveLemmas.{appended-more}
use Rattle.hash_tree.proofs.WriteBackLemmas.{contents-written, stands-written, written-holds, written-leaves}

-- before all
pub flushed-none : (scheme : Scheme) (state : State) → Stands scheme state → Flushed scheme scheme.blocks state state
flushed-none scheme state stands = record {
  stands = stands;
  contents = record { leaf = λ n from inside. refl };
  events = [];
  appended = sym (append-nil state.trace);
  each = All-nil (WritesDue scheme state.lines);
  written = λ n line from held is. let below = stands.inside n line held in absurd (omega (arith, below, from));
  waiting = λ n line below held is. (line, held, is);
  held = λ n. refl;
  payloads = λ n leaf. refl;
  clean = λ n line from held. let below = stands.inside n line held in absurd (omega (arith, below, from));
  due = λ n line held is. dirty n line held is;
}

pub flushed-begin : (layout : Layout) (veiled : ℕ → ℕ → List ℕ → List ℕ) (state : State) (below : ℕ) → below ≡ tree_blocks layout → Stands (scheme_of layout veiled) state
    → Flushed (scheme_of layout veiled) below state state
unfolding scheme_of
flushed-begin layout veiled state below all stands = subst (λ (k : ℕ). Flushed (scheme_of layout veiled) k state state) (sym all) (flushed-none (scheme_of layout veiled) state stands)

abbrev payload-of : Option Line → Option (List ℕ)
payload-of o = option_map (λ (line : Line). line.payload) o

flushed-written : (scheme : Scheme) → IsLawful scheme → (n : ℕ) (old middle new : State) (line : Line) (block : Block) → Flushed scheme (suc n) old middle → line.dirty ≡ true
    → block.stamp < 2 ^ 64 → WrittenBack scheme middle new n line block → Flushed scheme n old new
flushed-written scheme lawful n old middle new line block first is fits step =
    let below = first.stands.inside n line step.held in
    let same = contents-written scheme lawful middle new n line block below step in
    let here_due : IsDue scheme old.lines n = first.due n line step.held is in
    let event : Event = BlockWrite (Tree n) block in
    record {
      stands = (stands-written scheme lawful middle new n line block first.stands fits step).0;
      contents = record { leaf = λ m leaf inside. same.leaf m leaf inside ∙ first.contents.leaf m leaf inside };
      events = first.events ++ BlockWrite (Tree n) block ∷ [];
      appended = appended-more old.trace middle.trace new.trace first.events (BlockWrite (Tree n) block) first.appended step.event;
      each = All-push (WritesDue scheme old.lines) first.events (BlockWrite (Tree n) block) first.each (record { n = n; block = block; write = refl; due = here_due });
      written = λ m other from held due.
          elim (cases_eq m n) [
            | inl here ↦
                let last : Contains (first.events ++ event ∷ []) event = Contains-append_right first.events (event ∷ []) event (0, omega arith, refl) in
                (block, subst (λ (k : ℕ). Contains (first.events ++ event ∷ []) (BlockWrite (Tree k) block)) (sym here) last)
            | inr apart ↦
                let back = first.written m other (omega (arith, from, apart)) held due in
                (back.0, Contains-append_left first.events (event ∷ []) (BlockWrite (Tree m) back.0) back.1)
          ];
      waiting = λ m other under held due.
          let now = first.waiting m other (omega (arith, under)) held due in
          let positive : 0 < n = omega (arith, under) in
          elim (cases_eq m (scheme.digests.parent n)) [
            | inl here ↦
                let parent = step.above positive in
                (record { payload = parent.payload; dirty = true }, ap (λ (k : ℕ). new.lines k) here ∙ parent.set, refl)
            | inr away ↦ (now.0, step.other m (λ (same : m ≡ n). omega (arith, same, under)) (λ _. away) ∙ now.1, now.2)
          ];
      held = λ m. written-holds scheme middle new n line block step m ∙ first.held m;
      payloads = λ m leaf.
          elim (cases_eq m n) [
            | inl here ↦
                ap (λ (k : ℕ). payload-of (new.lines k)) here ∙ ap (λ (o : Option Line). payload-of o) step.here
                ∙ sym (ap (λ (o : Option Line). payload-of o) step.held) ∙ sym (ap (λ (k : ℕ). payload-of (middle.lines k)) here) ∙ first.payloads m leaf
            | inr apart ↦ ap (λ (o : Option Line). payload-of o) (written-leaves scheme lawful middle new n line block below step m leaf apart) ∙ first.payloads m leaf
          ];
      clean = λ m other from held.
          elim (cases_eq m n) [
            | inl here ↦
                let l : Some other ≡ Some (record { payload = line.payload; dirty = false }) = sym held ∙ ap (λ (k : ℕ). new.lines k) here ∙ step.here in
                let o : other ≡ record { payload = line.payload; dirty = false } = cc in
                ap (λ (l : Line). l.dirty) o
            | inr apart ↦
                let later : suc n ≤ m = omega (arith, from, apart) in
                first.clean m other later (sym (step.other m apart (λ positive parent. let less = lawful.above n positive below in omega (arith, less, parent, from))) ∙ held)
          ];
      due = λ m other held yes'.
          elim (cases_eq m n) [
            | inl here ↦ subst (λ (k : ℕ). IsDue scheme old.lines k) (sym here) here_due
            | inr apart ↦
                elim (cases_eq m (scheme.digests.parent n)) [
                  | inr away ↦ first.due m other (sym (step.other m apart (λ positive. away)) ∙ held) yes'
                  | inl parent ↦
                      elim (cases_eq n 0) [
                        | inr other_than ↦ subst (λ (k : ℕ). IsDue scheme old.lines k) (sym parent) (above n (omega (arith, other_than)) here_due)
                        | inl root ↦ first.due m other (sym (step.other m apart (λ positive. absurd (omega (arith, positive, root)))) ∙ held) yes'
                      ]
                ]
          ];
    }

flushed-clean : (scheme : Scheme) (n : ℕ) (old middle : State) → Flushed scheme (suc n) old middle → ((line : Line) → middle.lines n ≡ Some line → line.dirty ≡ false)
    → Flushed scheme n old middle
flushed-clean scheme n old middle first clean = record {
  stands = first.stands;
  contents = first.contents;
  events = first.events;
  appended = first.appended;
  each = first.each;
  written = λ m other from held is.
      elim (cases_eq m n) [
        | inl here ↦
            let now = first.waiting m other (omega (arith, here)) held is in
            let e : true ≡ false = sym now.2 ∙ clean now.0 (ap (λ (k : ℕ). middle.lines k) (sym here) ∙ now.1) in cc
        | inr apart ↦ first.written m other (omega (arith, from, apart)) held is
      ];
  waiting = λ m other below held is. first.waiting m other (omega (arith, below)) held is;
  held = first.held;
  payloads = first.payloads;
  clean = λ m line from held.
      elim (cases_eq m n) [
        | inl here ↦ clean line (ap (λ (k : ℕ). middle.lines k) (sym here) ∙ held)
        | inr apart ↦ first.clean m line (omega (arith, from, apart)) held
      ];
  due = first.due;
}

-- one block more
pub flushed-more : (scheme : Scheme) → IsLawful scheme → (n : ℕ) (old middle new : State) → Flushed scheme (suc n) old middle → LineFlushed scheme middle new n → Flushed scheme n old new
flushed-more scheme lawful n old middle new first (wrote line block is fits step) = flushed-written scheme lawful n old middle new line block first is fits step
flushed-more scheme lawful n old middle new first (was_clean same clean) =
    subst (λ (s : State). Flushed scheme n old s) (sym same) (flushed-clean scheme n old middle first clean)

-- the block before a number
pub flushed-next : (scheme : Scheme) → IsLawful scheme → (below n : ℕ) (old middle new : State) → below ≡ suc n → Flushed scheme below old middle → LineFlushed scheme middle new n
    → Flushed scheme n old new
flushed-next scheme lawful below n old middle new is first step = flushed-more scheme lawful n old middle new (subst (λ (k : ℕ). Flushed scheme k old middle) is first) step

-- ---- room for each line that may still be written

-- the held blocks below a number, as many as there is room for besides what the lines take
pub record Pending (lines : LineMap) (below old_room new_room : ℕ) : Type 0 where
  pub rest : LineMap
  pub same : (n : ℕ) → n < below → contains_key rest n ≡ contains_key lines n
  pub room : old_room + len rest ≤ new_room + len lines

pub pending-all : (lines : LineMap) (below room : ℕ) → Pending lines below room room
pending-all lines below room = record { rest = lines; same = λ n inside. refl; room = omega arith }

pub pending-some : (lines now : LineMap) (below old_room new_room n : ℕ) → Pending lines below old_room new_room → len lines ≤ old_room → below ≡ suc n
    → contains_key now n ≡ contains_key lines n → Holds now n → 0 < new_room
pending-some lines now below old_room new_room n pending enough is same held =
    let here : Holds pending.rest n = pending.same n (omega (arith, is)) ∙ sym same ∙ held in
    let some = len-held pending.rest n here in
    omega (arith, some, pending.room, enough)

pub pending-less : (lines now : LineMap) (below old_room middle_room new_room n : ℕ) → Pending lines below old_room middle_room → below ≡ suc n
    → contains_key now n ≡ contains_key lines n → middle_room ≤ new_room + 1 → (contains_key now n ≡ false → new_room ≡ middle_room) → Pending lines n old_room new_room
pending-less lines now below old_room middle_room new_room n pending is same one none =
    elim (cases_Bool (contains_key now n)) [
      | inl held ↦
          let here : Holds pending.rest n = pending.same n (omega (arith, is)) ∙ sym same ∙ held in
          let less = len-removed pending.rest n here in
          record {
            rest = remove pending.rest n;
            same = λ m inside.
                ap (λ (o : Option Line). is_some o) (get-remove_other pending.rest n m (λ (here : m ≡ n). omega (arith, inside, here))) ∙ pending.same m (omega (arith, inside, is));
            room = omega (arith, less, pending.room, one);
          }
      | inr absent ↦
          record { rest = pending.rest; same = λ m inside. pending.same m (omega (arith, inside, is)); room = omega (arith, none absent, pending.room) }
    ]

-- ---- the line of one block

pub flushed-back : (scheme : Scheme) (old new : LineMap) (old_root new_root : List ℕ) (old_trace new_trace : List Event) (last n : ℕ)
    → WritesBack scheme (state_of old old_root old_trace) (state_of new new_root new_trace) last n → dirty_at old n ≡ Some true → last < 2 ^ 64
    → LineFlushed scheme (state_of old old_root old_trace) (state_of new new_root new_trace) n
flushed-back scheme old new old_root new_root old_trace new_trace last n back is fits =
    let at : Some back.line.dirty ≡ Some true = sym (ap (λ (o : Option Line). option_map (λ (line : Line). line.dirty) o) back.step.held) ∙ is in
    let e : back.line.dirty ≡ true = cc in
    wrote back.line back.block e (subst (λ (k : ℕ). k < 2 ^ 64) (sym back.stamped) fits) back.step
