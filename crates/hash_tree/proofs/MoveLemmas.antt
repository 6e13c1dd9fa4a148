-- What follows where lines leave and come one after another.
use Rattle.std.proofs.Common.{◌≡◌, ℕ, ◌<◌, Bool, true, false, List, [], ◌∷◌, ◌++◌, eqb, ◌||◌, Option, Some, None, refl, sym, ap, ◌∙◌, subst, inl, inr, ◌⊎◌, arith}
use Rattle.std.specs.Prelude.{is_some, filter_map, Contains, option_to_list}
use Rattle.std.specs.List.{All, list_any}
use Rattle.std.proofs.lemmas.List.Folds.{list_any-append}
use Rattle.std.proofs.lemmas.Bool.{cases_eq, cases_Bool, eq-eqb}
use Rattle.std.proofs.lemmas.List.{append-nil, append_assoc}
use Rattle.std.proofs.lemmas.List.Elements.{All-append, All-contains, All-contains_itself, All-nil, All-push, All-weaker, Contains-append_right, filter_map-append}
use Rattle.aegis_num.specs.declared.storage.Block.{Block}
use Rattle.aegis_num.specs.declared.storage.Place.TheVariants.{Tree}
use Rattle.off_chip.specs.declared.event.Event.{Event}
use Rattle.off_chip.specs.declared.event.Event.TheVariants.{BlockRead, BlockWrite, Note}
use Rattle.off_chip.specs.declared.event.Mark.TheVariants.{Drop}
use Rattle.off_chip.specs.HonestMemory.{IsWhole}
use Rattle.off_chip.specs.Histories.{history}
use Rattle.off_chip.specs.ExpectedDigests.{expected_digest}
use Rattle.off_chip.proofs.HistoryLemmas.{filter_map-push}
use Rattle.line_cache.specs.declared.lines.Line.{Line}
use Rattle.hash_tree.specs.CachedLines.{Held}
use Rattle.hash_tree.specs.DueLines.{IsDue, dirty, above}
use Rattle.hash_tree.specs.Schemes.{Scheme, IsLawful, unveiled}
use Rattle.hash_tree.specs.Standing.{State, IsDeceived, Stands, IsKeptDigest}
use Rattle.hash_tree.specs.AsWritten.{AllAsWritten}
use Rattle.hash_tree.specs.TreeSteps.{Appends, Inserted, IsRemoval, write, dropped, TellsLine, was_read, node_written, leaf_written, line_dropped, Evicted, block_read, IsMove, read, removal, Moves, Moved, Stops}
use Rattle.hash_tree.proofs.GrowthLemmas.{IsDeceived-more}
use Rattle.hash_tree.proofs.InsertLemmas.{honest-digest, kept-expected, stands-inserted}
use Rattle.hash_tree.proofs.WriteBackLemmas.{keeps-both}

none-held : (o : Option Line) → o ≡ None → is_some o ≡ true → ⊥
none-held o none held = let e : true ≡ false = sym held ∙ ap (λ (o : Option Line). is_some o) none in cc

held-none : (o : Option Line) → (is_some o ≡ true → ⊥) → o ≡ None
held-none None no_line = refl
held-none (Some line) no_line = absurd (no_line refl)

or-left : (a b : Bool) → a ≡ true → (a || b) ≡ true
or-left true b same = refl
or-left false b same = cc

or-right : (a b : Bool) → b ≡ true → (a || b) ≡ true
or-right true b same = refl
or-right false b same = same

nothing_in_nil : (P : Type 0) (between : List Event) (later : Event) (last : List Event) → [] ≡ between ++ later ∷ last → P
nothing_in_nil P [] later last same = cc
nothing_in_nil P (x ∷ between) later last same = cc

-- a list and one element more, cut at an element
pub record InFront (xs before : List Event) (y : Event) : Type 0 where
  pub rest : List Event
  pub parts : xs ≡ before ++ y ∷ rest

pub snoc-cut : (xs : List Event) (x : Event) (before : List Event) (y : Event) (rest : List Event) → xs ++ x ∷ [] ≡ before ++ y ∷ rest
    → InFront xs before y ⊎ ((x ≡ y) × (before ≡ xs))
snoc-cut [] x [] y rest same = let e : x ≡ y = cc in inr (e, refl)
snoc-cut [] x (z ∷ before) y rest same = let e : [] ≡ before ++ y ∷ rest = cc in nothing_in_nil _ before y rest e
snoc-cut (w ∷ xs) x [] y rest same =
    let e : w ≡ y = cc in
    let f : xs ++ x ∷ [] ≡ rest = cc in inl (record { rest = xs; parts = ap (λ (v : Event). v ∷ xs) e })
snoc-cut (w ∷ xs) x (z ∷ before) y rest same =
    let e : w ≡ z = cc in
    let f : xs ++ x ∷ [] ≡ before ++ y ∷ rest = cc in
    elim (snoc-cut xs x before y rest f) [
      | inl front ↦ inl (record { rest = front.rest; parts = ap (λ (v : Event). v ∷ xs) e ∙ ap (λ (vs : List Event). z ∷ vs) front.parts })
      | inr last ↦ inr (last.0, ap (λ (v : Event). v ∷ before) (sym e) ∙ ap (λ (vs : List Event). w ∷ vs) last.1)
    ]

-- nothing was done yet
pub moved-none : (scheme : Scheme) (pinned : List ℕ) (state : State) → Stands scheme state → Moved scheme pinned state state []
moved-none scheme pinned state stands = record {
  stands = stands;
  contents = record { kept = inl (record { leaf = λ n from inside. refl }) };
  moves = record {
    events = [];
    appended = sym (append-nil state.trace);
    reads_are = refl;
    each = All-nil (IsMove pinned state state);
    checked = λ before n block rest same. nothing_in_nil _ before (BlockRead (Tree n) block) rest same;
    line_read = λ before n block rest same leaf. nothing_in_nil _ before (BlockRead (Tree n) block) rest same;
    kept = λ n pin held. held;
    came = λ n held. inl held;
    stays = λ n leaf held still. refl;
    told = All-nil (TellsLine scheme state.lines);
    waiting = λ n line held is now. (line, held, is);
    due = λ n line held is. dirty n line held is;
  };
  deceived = λ deceived. deceived;
}

no-read : (n : ℕ) (event : Event) → IsRemoval n event → block_read event ≡ None
no-read n event (write block same) = ap (λ (e : Event). block_read e) same
no-read n event (dropped same) = ap (λ (e : Event). block_read e) same

pub appended-more : (old middle new events : List Event) (event : Event) → middle ≡ old ++ events → Appends event middle new → new ≡ old ++ (events ++ event ∷ [])
appended-more old middle new events event first last = last ∙ ap (λ (t : List Event). t ++ event ∷ []) first ∙ append_assoc old events (event ∷ [])

-- an event takes one block out
written-number : (n m : ℕ) (one other : Block) → BlockWrite (Tree n) one ≡ BlockWrite (Tree m) other → n ≡ m
written-number n m one other same = cc

dropped-number : (n m : ℕ) → Note (Drop (Tree n)) ≡ Note (Drop (Tree m)) → n ≡ m
dropped-number n m same = cc

write-no_drop : (n m : ℕ) (block : Block) → BlockWrite (Tree n) block ≡ Note (Drop (Tree m)) → ⊥
write-no_drop n m block same = cc

same-number : (n m : ℕ) (event : Event) → IsRemoval n event → IsRemoval m event → n ≡ m
same-number n m event (write one same) (write other also) = written-number n m one other (sym same ∙ also)
same-number n m event (write one same) (dropped also) = absurd (write-no_drop n m one (sym same ∙ also))
same-number n m event (dropped same) (write other also) = absurd (write-no_drop m n other (sym also ∙ same))
same-number n m event (dropped same) (dropped also) = dropped-number n m (sym same ∙ also)

-- what is read is pinned
pinned-at : (pinned : List ℕ) (old new : State) (event : Event) → IsMove pinned old new event → (n : ℕ) (block : Block) → event ≡ BlockRead (Tree n) block → Contains pinned n
pinned-at pinned old new event (read m other is pin) n block same =
    let number : Some m ≡ Some n = ap (λ (v : Event). block_read v) (sym is ∙ same) in
    let e : m ≡ n = cc in subst (λ (k : ℕ). Contains pinned k) e pin
pinned-at pinned old new event (removal m is free held gone) n block same =
    let e : None ≡ Some n = sym (no-read m event is) ∙ ap (λ (v : Event). block_read v) same in cc

read-pinned : (pinned : List ℕ) (old new : State) (events before : List Event) (n : ℕ) (block : Block) (rest : List Event) → events ≡ before ++ BlockRead (Tree n) block ∷ rest
    → All (IsMove pinned old new) events → Contains pinned n
read-pinned pinned old new events before n block rest parts each =
    let event : Event = BlockRead (Tree n) block in
    let first : Contains (event ∷ rest) event = (0, omega arith, refl) in
    let inside : Contains events event = subst (λ (xs : List Event). Contains xs event) (sym parts) (Contains-append_right before (event ∷ rest) event first) in
    pinned-at pinned old new event (All-contains (IsMove pinned old new) events event each inside) n block refl

-- ---- what an event tells of lines that were there before

-- what has to be written after a part of a load had to be before it
due-before : (scheme : Scheme) (old middle : Held) → ((n : ℕ) (line : Line) → middle n ≡ Some line → line.dirty ≡ true → IsDue scheme old n)
    → (n : ℕ) → IsDue scheme middle n → IsDue scheme old n
due-before scheme old middle back n (dirty m line held is) = back m line held is
due-before scheme old middle back n (above child some due) = above child some (due-before scheme old middle back child due)

removed-number : (pinned : List ℕ) (old new : State) (event : Event) (n : ℕ) → IsMove pinned old new event → IsRemoval n event → Contains pinned n → ⊥
removed-number pinned old new event n (read m block same pin) is inside = let e : None ≡ Some m = sym (no-read n event is) ∙ ap (λ (v : Event). block_read v) same in cc
removed-number pinned old new event n (removal m other free held gone) is inside = free (subst (λ (k : ℕ). Contains pinned k) (same-number n m event is other) inside)

-- the line of a block that is not pinned was there
line-before : (scheme : Scheme) (pinned : List ℕ) (old middle : State) (reads : List ℕ) (n : ℕ) (line : Line) → Moves scheme pinned old middle reads → (Contains pinned n → ⊥)
    → middle.lines n ≡ Some line → is_some (old.lines n) ≡ true
line-before scheme pinned old middle reads n line moves free held =
    elim (moves.came n (ap (λ (o : Option Line). is_some o) held)) [ inl before ↦ before | inr came ↦ absurd (free came.0) ]

clean-before : (scheme : Scheme) (pinned : List ℕ) (old middle : State) (reads : List ℕ) (n : ℕ) (line : Line) (o : Option Line) → Moves scheme pinned old middle reads
    → old.lines n ≡ o → is_some o ≡ true → middle.lines n ≡ Some line → line.dirty ≡ false → (before : Line) × (old.lines n ≡ Some before) × (before.dirty ≡ false)
clean-before scheme pinned old middle reads n line None moves is some held clean = cc
clean-before scheme pinned old middle reads n line (Some before) moves is some held clean =
    elim (cases_Bool before.dirty) [
      | inr no' ↦ (before, is, no')
      | inl yes' ↦
          let now = moves.waiting n before is yes' (ap (λ (o : Option Line). is_some o) held) in
          let e : Some now.0 ≡ Some line = sym now.1 ∙ held in
          let f : now.0 ≡ line = cc in
          let g : true ≡ false = sym now.2 ∙ ap (λ (l : Line). l.dirty) f ∙ clean in cc
    ]

-- what an event after a part of a load tells, it tells of the lines before that part
told-before : (scheme : Scheme) (pinned : List ℕ) (old middle new : State) (reads : List ℕ) (event : Event) → Moves scheme pinned old middle reads → IsMove pinned middle new event
    → TellsLine scheme middle.lines event → TellsLine scheme old.lines event
told-before scheme pinned old middle new reads event moves move (was_read n block same) = was_read n block same
told-before scheme pinned old middle new reads event moves move (node_written n block same node due) =
    node_written n block same node (due-before scheme old.lines middle.lines moves.due n due)
told-before scheme pinned old middle new reads event moves move (leaf_written n block line same leaf held is payload) =
    let before = line-before scheme pinned old middle reads n line moves (removed-number pinned middle new event n move (write block same)) held in
    leaf_written n block line same leaf (sym (moves.stays n leaf before (ap (λ (o : Option Line). is_some o) held)) ∙ held) is payload
told-before scheme pinned old middle new reads event moves move (line_dropped n line same held is) =
    let before = line-before scheme pinned old middle reads n line moves (removed-number pinned middle new event n move (dropped same)) held in
    let was = clean-before scheme pinned old middle reads n line (old.lines n) moves refl before held is in
    line_dropped n was.0 same was.1 was.2

-- one more line left
pub moved-evicted : (scheme : Scheme) (pinned : List ℕ) (old middle new : State) (reads : List ℕ) (n : ℕ) → Moved scheme pinned old middle reads → (Contains pinned n → ⊥)
    → Evicted scheme middle new n → Moved scheme pinned old new reads
moved-evicted scheme pinned old middle new reads n moved unpinned evicted =
    let moves = moved.moves in
    let step = evicted.step in
    let more : IsDeceived scheme middle.trace → IsDeceived scheme new.trace = IsDeceived-more scheme step.event middle.trace new.trace step.appended in
    let still : (m : ℕ) → middle.lines m ≡ None → new.lines m ≡ None =
    (λ (m : ℕ) (none : middle.lines m ≡ None). held-none (new.lines m) (λ (held : is_some (new.lines m) ≡ true).
    elim (cases_eq m n) [
      | inl here ↦ none-held (new.lines m) (ap (λ (k : ℕ). new.lines k) here ∙ step.gone) held
      | inr apart ↦ none-held (middle.lines m) none (sym (step.others m apart) ∙ held)
    ])) in
    let before : is_some (old.lines n) ≡ true = elim (moves.came n step.held) [ inl held ↦ held | inr pin ↦ absurd (unpinned pin.0) ] in
    record {
      stands = evicted.stands;
      contents = keeps-both scheme old middle new moved.contents evicted.contents more;
      moves = record {
        events = moves.events ++ step.event ∷ [];
        appended = appended-more old.trace middle.trace new.trace moves.events step.event moves.appended step.appended;
        reads_are = filter_map-push block_read moves.events step.event
            ∙ ap (λ (o : Option ℕ). filter_map block_read moves.events ++ option_to_list o) (no-read n step.event step.removal)
            ∙ append-nil (filter_map block_read moves.events) ∙ moves.reads_are;
        each = All-push (IsMove pinned old new) moves.events step.event
            (All-weaker (IsMove pinned old middle) (IsMove pinned old new) (λ (event : Event) (move : IsMove pinned old middle event). later event move still) moves.events moves.each)
            (removal n step.removal unpinned before step.gone);
        checked = λ front m block rest same.
            elim (snoc-cut moves.events step.event front (BlockRead (Tree m) block) rest same) [
              | inl earlier ↦ moves.checked front m block earlier.rest earlier.parts
              | inr last ↦ let e : None ≡ Some m = sym (no-read n step.event step.removal) ∙ ap (λ (v : Event). block_read v) last.0 in cc
            ];
        line_read = λ front m block rest same leaf.
            elim (snoc-cut moves.events step.event front (BlockRead (Tree m) block) rest same) [
              | inl earlier ↦
                  let pin : Contains pinned m = read-pinned pinned old middle moves.events front m block earlier.rest earlier.parts moves.each in
                  step.leaves m leaf (λ (here : m ≡ n). unpinned (subst (λ (k : ℕ). Contains pinned k) here pin)) ∙ moves.line_read front m block earlier.rest earlier.parts leaf
              | inr last ↦ let e : None ≡ Some m = sym (no-read n step.event step.removal) ∙ ap (λ (v : Event). block_read v) last.0 in cc
            ];
        kept = λ m pin held.
            elim (cases_eq m n) [
              | inl here ↦ absurd (unpinned (subst (λ (k : ℕ). Contains pinned k) here pin))
              | inr apart ↦ step.others m apart ∙ moves.kept m pin held
            ];
        came = λ m held.
            elim (cases_eq m n) [
              | inl here ↦ absurd (none-held (new.lines m) (ap (λ (k : ℕ). new.lines k) here ∙ step.gone) held)
              | inr apart ↦ moves.came m (sym (step.others m apart) ∙ held)
            ];
        stays = λ m leaf held now.
            elim (cases_eq m n) [
              | inl here ↦ absurd (none-held (new.lines m) (ap (λ (k : ℕ). new.lines k) here ∙ step.gone) now)
              | inr apart ↦ step.leaves m leaf apart ∙ moves.stays m leaf held (sym (step.others m apart) ∙ now)
            ];
        told = All-push (TellsLine scheme old.lines) moves.events step.event moves.told
            (told-before scheme pinned old middle new reads step.event moves (removal n step.removal unpinned step.held step.gone) step.told);
        waiting = λ m line held is now.
            elim (cases_eq m n) [
              | inl here ↦ absurd (none-held (new.lines m) (ap (λ (k : ℕ). new.lines k) here ∙ step.gone) now)
              | inr apart ↦
                  let mid = moves.waiting m line held is (sym (step.others m apart) ∙ now) in
                  step.waiting m mid.0 apart mid.1 mid.2
            ];
        due = λ m line held is. due-before scheme old.lines middle.lines moves.due m (step.due m line held is);
      };
      deceived = λ deceived. more (moved.deceived deceived);
    }
  where
    later : (event : Event) → IsMove pinned old middle event → ((m : ℕ) → middle.lines m ≡ None → new.lines m ≡ None) → IsMove pinned old new event
    later event (read m block same pin) still = read m block same pin
    later event (removal m is free held gone) still = removal m is free held (still m gone)

read-block : (n m : ℕ) (block other : Block) → BlockRead (Tree n) block ≡ BlockRead (Tree m) other → block ≡ other
read-block n m block other same = cc

-- one more line came
pub moved-inserted : (scheme : Scheme) → IsLawful scheme → (pinned : List ℕ) (old middle new : State) (reads : List ℕ) (n : ℕ) (block : Block) → Moved scheme pinned old middle reads
    → Contains pinned n → n < scheme.blocks → IsWhole block → Inserted scheme middle new n block → middle.lines n ≡ None
    → IsKeptDigest scheme middle n (scheme.digests.digest n block) → Moved scheme pinned old new (reads ++ n ∷ [])
moved-inserted scheme lawful pinned old middle new reads n block moved pin below whole step none kept =
    let moves = moved.moves in
    let both = stands-inserted scheme lawful middle new n block moved.stands below whole step none kept in
    let event : Event = BlockRead (Tree n) block in
    let more : IsDeceived scheme middle.trace → IsDeceived scheme new.trace = IsDeceived-more scheme event middle.trace new.trace step.event in
    record {
      stands = both.0;
      contents = keeps-both scheme old middle new moved.contents both.1 more;
      moves = record {
        events = moves.events ++ event ∷ [];
        appended = appended-more old.trace middle.trace new.trace moves.events event moves.appended step.event;
        reads_are = filter_map-push block_read moves.events event ∙ ap (λ (xs : List ℕ). xs ++ n ∷ []) moves.reads_are;
        each = All-push (IsMove pinned old new) moves.events event
            (All-weaker (IsMove pinned old middle) (IsMove pinned old new) (λ (event : Event) (move : IsMove pinned old middle event). later event move) moves.events moves.each)
            (read n block refl pin);
        checked = λ front m other rest same.
            elim (snoc-cut moves.events event front (BlockRead (Tree m) other) rest same) [
              | inl earlier ↦ moves.checked front m other earlier.rest earlier.parts
              | inr last ↦
                  let number : Some n ≡ Some m = ap (λ (v : Event). block_read v) last.0 in
                  let e : n ≡ m = cc in
                  let f : block ≡ other = read-block n m block other last.0 in
                  ap (λ (t : List Event). expected_digest scheme.digests m (history t)) (ap (λ (vs : List Event). old.trace ++ vs) last.1 ∙ sym moves.appended)
                  ∙ ap (λ (k : ℕ). expected_digest scheme.digests k (history middle.trace)) (sym e)
                  ∙ kept-expected scheme middle n (scheme.digests.digest n block) moved.stands below kept
                  ∙ ap (λ (k : ℕ). Some (scheme.digests.digest k block)) e ∙ ap (λ (b : Block). Some (scheme.digests.digest m b)) f
            ];
        line_read = λ front m other rest same leaf.
            elim (snoc-cut moves.events event front (BlockRead (Tree m) other) rest same) [
              | inl earlier ↦
                  let at : middle.lines m ≡ Some (record { payload = unveiled scheme m other; dirty = false }) = moves.line_read front m other earlier.rest earlier.parts leaf in
                  step.lines.other m (λ (here : m ≡ n). none-held (middle.lines m) (ap (λ (k : ℕ). middle.lines k) here ∙ none) (ap (λ (o : Option Line). is_some o) at)) ∙ at
              | inr last ↦
                  let number : Some n ≡ Some m = ap (λ (v : Event). block_read v) last.0 in
                  let e : n ≡ m = cc in
                  let f : block ≡ other = read-block n m block other last.0 in
                  ap (λ (k : ℕ). new.lines k) (sym e) ∙ step.lines.here
                  ∙ ap (λ (k : ℕ). Some (record { payload = unveiled scheme k block; dirty = false })) e
                  ∙ ap (λ (b : Block). Some (record { payload = unveiled scheme m b; dirty = false })) f
            ];
        kept = λ m pin held.
            elim (cases_eq m n) [
              | inl here ↦ ap (λ (o : Option Line). is_some o) (ap (λ (k : ℕ). new.lines k) here ∙ step.lines.here)
              | inr apart ↦ ap (λ (o : Option Line). is_some o) (step.lines.other m apart) ∙ moves.kept m pin held
            ];
        came = λ m held.
            elim (cases_eq m n) [
              | inl here ↦ inr (
                subst (λ (k : ℕ). Contains pinned k) (sym here) pin,
                list_any-append (λ (k : ℕ). eqb k m) reads (n ∷ []) ∙ or-right (list_any (λ (k : ℕ). eqb k m) reads) (eqb n m || false) (or-left (eqb n m) false (eq-eqb n m (sym here))),
              )
              | inr apart ↦
                  elim (moves.came m (sym (ap (λ (o : Option Line). is_some o) (step.lines.other m apart)) ∙ held)) [
                    | inl before ↦ inl before
                    | inr came ↦ inr (came.0, list_any-append (λ (k : ℕ). eqb k m) reads (n ∷ []) ∙ or-left (list_any (λ (k : ℕ). eqb k m) reads) (eqb n m || false) came.1)
                  ]
            ];
        stays = λ m leaf held now.
            elim (cases_eq m n) [
              | inl here ↦
                  let mid : is_some (middle.lines m) ≡ true = moves.kept m (subst (λ (k : ℕ). Contains pinned k) (sym here) pin) held in
                  absurd (none-held (middle.lines m) (ap (λ (k : ℕ). middle.lines k) here ∙ none) mid)
              | inr apart ↦ step.lines.other m apart ∙ moves.stays m leaf held (sym (ap (λ (o : Option Line). is_some o) (step.lines.other m apart)) ∙ now)
            ];
        told = All-push (TellsLine scheme old.lines) moves.events event moves.told (was_read n block refl);
        waiting = λ m line held is now.
            elim (cases_eq m n) [
              | inl here ↦
                  let mid : is_some (middle.lines m) ≡ true = moves.kept m (subst (λ (k : ℕ). Contains pinned k) (sym here) pin) (ap (λ (o : Option Line). is_some o) held) in
                  absurd (none-held (middle.lines m) (ap (λ (k : ℕ). middle.lines k) here ∙ none) mid)
              | inr apart ↦
                  let mid = moves.waiting m line held is (sym (ap (λ (o : Option Line). is_some o) (step.lines.other m apart)) ∙ now) in
                  (mid.0, step.lines.other m apart ∙ mid.1, mid.2)
            ];
        due = λ m line held is.
            elim (cases_eq m n) [
              | inl here ↦
                  let l : Some line ≡ Some (record { payload = unveiled scheme n block; dirty = false }) = sym held ∙ ap (λ (k : ℕ). new.lines k) here ∙ step.lines.here in
                  let o : line ≡ record { payload = unveiled scheme n block; dirty = false } = cc in
                  let e : true ≡ false = sym is ∙ ap (λ (l : Line). l.dirty) o in cc
              | inr apart ↦ moves.due m line (sym (step.lines.other m apart) ∙ held) is
            ];
      };
      deceived = λ deceived. more (moved.deceived deceived);
    }
  where
    later : (event : Event) → IsMove pinned old middle event → IsMove pinned old new event
    later event (read m read_block same pinned_m) = read m read_block same pinned_m
    later event (removal m is free held gone) =
        removal m is free held (step.lines.other m (λ (here : m ≡ n). free (subst (λ (k : ℕ). Contains pinned k) (sym here) pin)) ∙ gone)

-- two lists, cut at an element of the second
record InBack (xs ys before : List Event) (y : Event) (rest : List Event) : Type 0 where
  middle : List Event
  parts : ys ≡ middle ++ y ∷ rest
  front : before ≡ xs ++ middle

append-cut : (xs ys before : List Event) (y : Event) (rest : List Event) → xs ++ ys ≡ before ++ y ∷ rest → InFront xs before y ⊎ InBack xs ys before y rest
append-cut [] ys before y rest same = inr (record { middle = before; parts = same; front = refl })
append-cut (w ∷ xs) ys [] y rest same = let e : w ≡ y = cc in inl (record { rest = xs; parts = ap (λ (v : Event). v ∷ xs) e })
append-cut (w ∷ xs) ys (z ∷ before) y rest same =
    let e : w ≡ z = cc in
    let f : xs ++ ys ≡ before ++ y ∷ rest = cc in
    elim (append-cut xs ys before y rest f) [
      | inl cut ↦ inl (record { rest = cut.rest; parts = ap (λ (v : Event). v ∷ xs) e ∙ ap (λ (vs : List Event). z ∷ vs) cut.parts })
      | inr cut ↦ inr (record { middle = cut.middle; parts = cut.parts; front = ap (λ (v : Event). v ∷ before) (sym e) ∙ ap (λ (vs : List Event). w ∷ vs) cut.front })
    ]

-- one part of a load after another
pub moved-both : (scheme : Scheme) (pinned : List ℕ) (old middle new : State) (first second : List ℕ) → Moved scheme pinned old middle first → Moved scheme pinned middle new second
    → Moved scheme pinned old new (first ++ second)
moved-both scheme pinned old middle new first second one two =
    let a = one.moves in
    let b = two.moves in
    let gone : (m : ℕ) → (Contains pinned m → ⊥) → middle.lines m ≡ None → new.lines m ≡ None =
    (λ (m : ℕ) (free : Contains pinned m → ⊥) (none : middle.lines m ≡ None). held-none (new.lines m) (λ (held : is_some (new.lines m) ≡ true).
    elim (b.came m held) [ inl before ↦ none-held (middle.lines m) none before | inr came ↦ free came.0 ])) in
    let before : (m : ℕ) → (Contains pinned m → ⊥) → is_some (middle.lines m) ≡ true → is_some (old.lines m) ≡ true =
    (λ (m : ℕ) (free : Contains pinned m → ⊥) (held : is_some (middle.lines m) ≡ true). elim (a.came m held) [ inl before ↦ before | inr came ↦ absurd (free came.0) ]) in
    record {
      stands = two.stands;
      contents = keeps-both scheme old middle new one.contents two.contents two.deceived;
      moves = record {
        events = a.events ++ b.events;
        appended = b.appended ∙ ap (λ (t : List Event). t ++ b.events) a.appended ∙ append_assoc old.trace a.events b.events;
        reads_are = filter_map-append block_read a.events b.events ∙ ap (λ (xs : List ℕ). xs ++ filter_map block_read b.events) a.reads_are
            ∙ ap (λ (xs : List ℕ). first ++ xs) b.reads_are;
        each = All-append (IsMove pinned old new) a.events b.events
            (All-weaker (IsMove pinned old middle) (IsMove pinned old new) (λ (event : Event) (move : IsMove pinned old middle event). earlier event move gone) a.events a.each)
            (All-weaker (IsMove pinned middle new) (IsMove pinned old new) (λ (event : Event) (move : IsMove pinned middle new event). later event move before) b.events b.each);
        checked = λ front n block rest same.
            elim (append-cut a.events b.events front (BlockRead (Tree n) block) rest same) [
              | inl cut ↦ a.checked front n block cut.rest cut.parts
              | inr cut ↦
                  ap (λ (t : List Event). expected_digest scheme.digests n (history t)) (ap (λ (vs : List Event). old.trace ++ vs) cut.front
                  ∙ sym (append_assoc old.trace a.events cut.middle) ∙ ap (λ (t : List Event). t ++ cut.middle) (sym a.appended))
                  ∙ b.checked cut.middle n block rest cut.parts
            ];
        line_read = λ front n block rest same leaf.
            elim (append-cut a.events b.events front (BlockRead (Tree n) block) rest same) [
              | inl cut ↦
                  let at : middle.lines n ≡ Some (record { payload = unveiled scheme n block; dirty = false }) = a.line_read front n block cut.rest cut.parts leaf in
                  let held : is_some (middle.lines n) ≡ true = ap (λ (o : Option Line). is_some o) at in
                  let pin : Contains pinned n = read-pinned pinned old middle a.events front n block cut.rest cut.parts a.each in
                  b.stays n leaf held (b.kept n pin held) ∙ at
              | inr cut ↦ b.line_read cut.middle n block rest cut.parts leaf
            ];
        kept = λ n pin held. b.kept n pin (a.kept n pin held);
        came = λ n held.
            elim (b.came n held) [
              | inl mid ↦
                  elim (a.came n mid) [
                    | inl held_before ↦ inl held_before
                    | inr came ↦ inr (came.0, list_any-append (λ (k : ℕ). eqb k n) first second ∙ or-left (list_any (λ (k : ℕ). eqb k n) first) (list_any (λ (k : ℕ). eqb k n) second) came.1)
                  ]
              | inr came ↦ inr (came.0, list_any-append (λ (k : ℕ). eqb k n) first second ∙ or-right (list_any (λ (k : ℕ). eqb k n) first) (list_any (λ (k : ℕ). eqb k n) second) came.1)
            ];
        stays = λ n leaf held now.
            let mid : is_some (middle.lines n) ≡ true = elim (b.came n now) [ inl mid ↦ mid | inr came ↦ a.kept n came.0 held ] in
            b.stays n leaf mid now ∙ a.stays n leaf held mid;
        told = All-append (TellsLine scheme old.lines) a.events b.events a.told
            (All-weaker (Contains b.events) (TellsLine scheme old.lines)
            (λ (event : Event) (inside : Contains b.events event). told-before scheme pinned old middle new first event a
            (All-contains (IsMove pinned middle new) b.events event b.each inside) (All-contains (TellsLine scheme middle.lines) b.events event b.told inside))
            b.events (All-contains_itself b.events));
        waiting = λ n line held is now.
            let mid : is_some (middle.lines n) ≡ true =
            elim (b.came n now) [ inl mid ↦ mid | inr came ↦ a.kept n came.0 (ap (λ (o : Option Line). is_some o) held) ] in
            let between = a.waiting n line held is mid in
            b.waiting n between.0 between.1 between.2 now;
        due = λ n line held is. due-before scheme old.lines middle.lines a.due n (b.due n line held is);
      };
      deceived = λ deceived. two.deceived (one.deceived deceived);
    }
  where
    earlier : (event : Event) → IsMove pinned old middle event → ((m : ℕ) → (Contains pinned m → ⊥) → middle.lines m ≡ None → new.lines m ≡ None) → IsMove pinned old new event
    earlier event (read m block same pin) gone = read m block same pin
    earlier event (removal m is free held none) gone = removal m is free held (gone m free none)

    later : (event : Event) → IsMove pinned middle new event → ((m : ℕ) → (Contains pinned m → ⊥) → is_some (middle.lines m) ≡ true → is_some (old.lines m) ≡ true)
        → IsMove pinned old new event
    later event (read m block same pin) before = read m block same pin
    later event (removal m is free held none) before = removal m is free (before m free held) none

-- a load that stops after a part of it
pub stops-later : (scheme : Scheme) (pinned : List ℕ) (old middle new : State) (first : List ℕ) (event : ℕ) → Moved scheme pinned old middle first → Stops scheme pinned middle new event
    → Stops scheme pinned old new event
stops-later scheme pinned old middle new first event moved stops = record {
  middle = stops.middle;
  reads = first ++ stops.reads;
  moved = moved-both scheme pinned old middle stops.middle first stops.reads moved stops.moved;
  n = stops.n;
  block = stops.block;
  read = stops.read;
  number = stops.number;
  kept = stops.kept;
  is_kept = stops.is_kept;
  differs = stops.differs;
  inside = stops.inside;
}

-- where nothing was read, no line came
pub still-absent : (scheme : Scheme) (pinned : List ℕ) (old new : State) (n : ℕ) → Moved scheme pinned old new [] → is_some (old.lines n) ≡ false → is_some (new.lines n) ≡ false
still-absent scheme pinned old new n moved absent =
    elim (cases_Bool (is_some (new.lines n))) [
      | inr none ↦ none
      | inl held ↦
          elim (moved.moves.came n held) [
            | inl before ↦ let e : true ≡ false = sym before ∙ absent in cc
            | inr came ↦ let e : false ≡ true = came.1 in cc
          ]
    ]

-- a load that stopped was given an unfaithful block
pub stops-unfaithful : (scheme : Scheme) (pinned : List ℕ) (old new : State) (event : ℕ) → Stops scheme pinned old new event → AllAsWritten (history new.trace) → ⊥
stops-unfaithful scheme pinned old new event stops all =
    stops.differs (honest-digest scheme stops.middle new.trace stops.n stops.block stops.kept stops.moved.stands stops.inside stops.read stops.is_kept all)
