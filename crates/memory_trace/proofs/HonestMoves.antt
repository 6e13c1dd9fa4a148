-- Where a trace is clean, each read of a load is faithful.
use Rattle.std.proofs.Common.{◌≡◌, ◌≢◌, ℕ, zero, suc, ◌<◌, Bool, true, false, eqb, ◌||◌, List, [], ◌∷◌, ◌++◌, Option, Some, None, refl, sym, ap, ◌∙◌, subst, inl, inr, ◌⊎◌, arith, append_assoc}
use Rattle.std.specs.Prelude.{option_map, filter_map, Contains}
use Rattle.std.specs.List.{All, cons_option}
use Rattle.std.proofs.lemmas.Bool.{cases_eq, cases_Bool, eq-eqb, or_parts}
use Rattle.std.proofs.lemmas.List.Elements.{All-cons, All-head, All-nil, All-same, All-tail, All-weaker}
use Rattle.aegis_num.specs.declared.Block.{Block}
use Rattle.aegis_num.specs.declared.Place.{Place}
use Rattle.aegis_num.specs.declared.Place.TheVariants.{Tree}
use Rattle.off_chip.specs.declared.Event.{Event}
use Rattle.off_chip.specs.declared.Event.TheVariants.{BlockRead, BlockWrite, Note}
use Rattle.off_chip.specs.declared.Mark.TheVariants.{Drop}
use Rattle.off_chip.specs.Collisions.{BlockCollision}
use Rattle.off_chip.specs.FaithfulReads.{is_faithful}
use Rattle.off_chip.specs.ExpectedDigests.{Digests, digest_told, expected_digest}
use Rattle.off_chip.specs.Histories.{History, ◌◂◌, followed, history}
use Rattle.off_chip.specs.HonestMemory.{IsWhole}
use Rattle.off_chip.specs.Residency.{is_resident}
use Rattle.off_chip.specs.WriteBacks.{last_write}
use Rattle.off_chip.proofs.DigestLemmas.{digest_told-parent, expected_digest-parent}
use Rattle.off_chip.proofs.FaithfulLemmas.{is_faithful-written}
use Rattle.off_chip.proofs.HistoryLemmas.{followed-append, history-append}
use Rattle.line_cache.specs.declared.Line.{Line}
use Rattle.hash_tree.specs.Schemes.{Scheme, IsLawful}
use Rattle.hash_tree.specs.Standing.{State, IsHome, Stands, payload_in}
use Rattle.hash_tree.specs.TreeSteps.{IsMove, Moved, IsRemoval, write, dropped, block_read}
use Rattle.hash_tree.proofs.InsertLemmas.{same-or-deceived}
use Rattle.memory_trace.specs.SoundTraces.{IsClean}
use Rattle.memory_trace.proofs.CleanLemmas.{IsOfWritten, TellsOnly, collision-more, expected-stays, of_written-more, tells-write}
use Rattle.memory_trace.proofs.MoveFor.{MoveFor, reads_one, leaves_other, among-pinned, is_among, last_write-through, move-pinned, resident-read, unwritten}

-- ---- at home

pub at-home : (scheme : Scheme) (state : State) → Stands scheme state → IsClean scheme.strings state.trace → IsHome scheme state
at-home scheme state stands clean = elim stands.home [ inl home ↦ home | inr deceived ↦ absurd (clean.none deceived.first deceived.second deceived.collision) ]

-- with a line of its parent
of_written-held : (scheme : Scheme) (state : State) (n : ℕ) (line : Line) → Stands scheme state → IsHome scheme state → 0 < n → n < scheme.blocks
    → state.lines (scheme.digests.parent n) ≡ Some line → IsOfWritten scheme.digests n (history state.trace)
of_written-held scheme state n line stands home above below held =
    let w = home.written n below in
    stands.expected n line above below held
    ∙ ap (λ (d : List ℕ). Some d) (home.slots n w.0 line.payload above below w.1
    (ap (λ (o : Option Line). payload_in o (last_write (Tree (scheme.digests.parent n)) (history state.trace))) held))
    ∙ sym (ap (λ (o : Option Block). option_map (λ (block : Block). scheme.digests.digest n block) o) w.1)

-- ---- events none of which reads the parent

not_among-parts : (p : ℕ) (event : Event) (ns : List ℕ) (o : Option ℕ) → block_read event ≡ o → is_among p (cons_option o ns) ≡ false
    → ((block : Block) → event ≢ BlockRead (Tree p) block) × (is_among p ns ≡ false)
not_among-parts p event ns None is none = (λ block same. let e : None ≡ Some p = sym is ∙ ap (λ (e : Event). block_read e) same in cc, none)
not_among-parts p event ns (Some m) is none =
    let parts : (eqb m p ≡ false) × (is_among p ns ≡ false) = or_parts (eqb m p) (is_among p ns) none in (
      λ block same.
          let e : Some m ≡ Some p = sym is ∙ ap (λ (e : Event). block_read e) same in
          let f : m ≡ p = cc in
          let g : true ≡ false = sym (eq-eqb m p f) ∙ parts.0 in cc,
      parts.1,
    )

of_written-through : (tree : Digests) (n : ℕ) (older : History) (rest : List Event) → (n ≡ 0) ⊎ (is_among (tree.parent n) (filter_map block_read rest) ≡ false)
    → IsOfWritten tree n older → IsOfWritten tree n (followed older rest)
of_written-through tree n older [] other is = is
of_written-through tree n older (event ∷ rest) (inl root) is =
    of_written-through tree n (event ◂ older) rest (inl root) (of_written-more tree n event older (tells-write tree n event (inl root)) is)
of_written-through tree n older (event ∷ rest) (inr none) is =
    let parts = not_among-parts (tree.parent n) event (filter_map block_read rest) (block_read event) refl none in
    of_written-through tree n (event ◂ older) rest (inr parts.1) (of_written-more tree n event older (tells-write tree n event (inr parts.0)) is)

-- ---- what an event tells of a block that stays

record ReadsParent (tree : Digests) (n : ℕ) (event : Event) : Type 0 where
  block : Block
  is : event ≡ BlockRead (Tree (tree.parent n)) block

silent : (tree : Digests) (n : ℕ) (event : Event) → MoveFor n event → (n ≡ 0) ⊎ ((block : Block) → event ≢ BlockRead (Tree (tree.parent n)) block) → digest_told tree n event ≡ None
silent tree n event move other =
    tells-write tree n event other ∙ ap (λ (o : Option Block). option_map (λ (block : Block). tree.digest n block) o) (unwritten n event move)

tells-for : (tree : Digests) (n : ℕ) (event : Event) → MoveFor n event → (digest_told tree n event ≡ None) ⊎ ReadsParent tree n event
tells-for tree n event (reads_one m block same) =
    elim (cases_eq m (tree.parent n)) [
      | inl here ↦ inr (record { block = block; is = same ∙ ap (λ (k : ℕ). BlockRead (Tree k) block) here })
      | inr apart ↦ inl (silent tree n event (reads_one m block same) (inr (λ other is. apart (read-number m (tree.parent n) block other (sym same ∙ is)))))
    ]
  where
    read-number : (m p : ℕ) (block other : Block) → BlockRead (Tree m) block ≡ BlockRead (Tree p) other → m ≡ p
    read-number m p block other same = cc
tells-for tree n event (leaves_other m is apart) =
    inl (silent tree n event (leaves_other m is apart) (inr (λ block same. no_read m (tree.parent n) event block is same)))
  where
    write-no_read : (m p : ℕ) (block other : Block) → BlockWrite (Tree m) block ≡ BlockRead (Tree p) other → ⊥
    write-no_read m p block other same = cc

    drop-no_read : (m p : ℕ) (other : Block) → Note (Drop (Tree m)) ≡ BlockRead (Tree p) other → ⊥
    drop-no_read m p other same = cc

    no_read : (m p : ℕ) (event : Event) (other : Block) → IsRemoval m event → event ≡ BlockRead (Tree p) other → ⊥
    no_read m p event other (write block same) is = write-no_read m p block other (sym same ∙ is)
    no_read m p event other (dropped same) is = drop-no_read m p other (sym same ∙ is)

-- ---- parts of lists

pub all-front : (P : Event → Type 0) (xs ys zs : List Event) → xs ≡ ys ++ zs → All P xs → All P ys
all-front P xs ys zs same all = by ys (All-same P (ys ++ zs) xs (sym same) all)
  where
    by : (ys : List Event) → All P (ys ++ zs) → All P ys
    by [] all = All-nil P
    by (y ∷ ys) all = All-cons P y ys (All-head P y (ys ++ zs) all) (by ys (All-tail P y (ys ++ zs) all))

pub all-at : (P : Event → Type 0) (xs ys : List Event) (x : Event) (zs : List Event) → xs ≡ ys ++ x ∷ zs → All P xs → P x
all-at P xs ys x zs same all = by ys (All-same P (ys ++ x ∷ zs) xs (sym same) all)
  where
    by : (ys : List Event) → All P (ys ++ x ∷ zs) → P x
    by [] all = All-head P x zs all
    by (y ∷ ys) all = by ys (All-tail P y (ys ++ x ∷ zs) all)

pub among-at : (n : ℕ) (xs ys : List Event) (block : Block) (zs : List Event) → xs ≡ ys ++ BlockRead (Tree n) block ∷ zs → is_among n (filter_map block_read xs) ≡ true
among-at n xs ys block zs same = ap (λ (es : List Event). is_among n (filter_map block_read es)) same ∙ by ys
  where
    here : (m : ℕ) (ns : List ℕ) → m ≡ n → is_among n (m ∷ ns) ≡ true
    here m ns is = ap (λ (b : Bool). b || is_among n ns) (eq-eqb m n is)

    more : (o : Option ℕ) (ns : List ℕ) → is_among n ns ≡ true → is_among n (cons_option o ns) ≡ true
    more None ns is = is
    more (Some m) ns is = or-right (eqb m n) (is_among n ns) is
      where
        or-right : (a b : Bool) → b ≡ true → (a || b) ≡ true
        or-right true b same = refl
        or-right false b same = same

    by : (ys : List Event) → is_among n (filter_map block_read (ys ++ BlockRead (Tree n) block ∷ zs)) ≡ true
    by [] = here n (filter_map block_read zs) refl
    by (y ∷ ys) = more (block_read y) (filter_map block_read (ys ++ BlockRead (Tree n) block ∷ zs)) (by ys)

-- ---- what a load reads

module _ (scheme : Scheme) (pinned reads : List ℕ) (old new : State) (moved : Moved scheme pinned old new reads) where
  pub history-moved : history new.trace ≡ followed (history old.trace) moved.moves.events
  history-moved = history-append new.trace old.trace moved.moves.events moved.moves.appended

  pub moves-pinned : (n : ℕ) → Contains pinned n → All (MoveFor n) moved.moves.events
  moves-pinned n pin =
      All-weaker (IsMove pinned old new) (MoveFor n) (λ (event : Event) (move : IsMove pinned old new event). move-pinned pinned old new n event pin move) moved.moves.events moved.moves.each

  pub pinned-read : (n : ℕ) → is_among n (filter_map block_read moved.moves.events) ≡ true → Contains pinned n
  pinned-read n is = among-pinned pinned old new n moved.moves.events moved.moves.each is

  pub held-read : (n : ℕ) → is_among n (filter_map block_read moved.moves.events) ≡ true → (line : Line) × (new.lines n ≡ Some line)
  held-read n is =
      moved.stands.held n (ap (λ (h : History). is_resident (Tree n) h) history-moved
      ∙ resident-read n (history old.trace) moved.moves.events (moves-pinned n (pinned-read n is)) is)

  pub inside-read : (n : ℕ) → is_among n (filter_map block_read moved.moves.events) ≡ true → n < scheme.blocks
  inside-read n is = let line = held-read n is in moved.stands.inside n line.0 line.1

-- ---- a load on a clean trace

module _ (scheme : Scheme) (lawful : IsLawful scheme) (pinned reads : List ℕ) (old new : State) (moved : Moved scheme pinned old new reads) (clean : IsClean scheme.strings new.trace)
    (before : (n : ℕ) → n < scheme.blocks → IsOfWritten scheme.digests n (history old.trace)) where
  abbrev events : List Event
  events = moved.moves.events

  abbrev start : History
  start = history old.trace

  home : IsHome scheme new
  home = at-home scheme new moved.stands clean

  grown : history new.trace ≡ followed start events
  grown = history-moved scheme pinned reads old new moved

  staying : (n : ℕ) → Contains pinned n → All (MoveFor n) events
  staying = moves-pinned scheme pinned reads old new moved

  pin-read : (n : ℕ) → is_among n (filter_map block_read events) ≡ true → Contains pinned n
  pin-read = pinned-read scheme pinned reads old new moved

  inside : (n : ℕ) → is_among n (filter_map block_read events) ≡ true → n < scheme.blocks
  inside = inside-read scheme pinned reads old new moved

  -- the expected digests are those of the last write-backs
  pub of_written-moved : (n : ℕ) → n < scheme.blocks → IsOfWritten scheme.digests n (history new.trace)
  of_written-moved n below = elim (cases_eq n 0) [
    | inl root ↦ through (inl root)
    | inr other ↦ elim (cases_Bool (is_among (scheme.digests.parent n) (filter_map block_read events))) [
      | inl is ↦ let line = held-read scheme pinned reads old new moved (scheme.digests.parent n) is in of_written-held scheme new n line.0 moved.stands home (omega (arith, other)) below line.1
      | inr none ↦ through (inr none)
    ]
  ]
    where
      through : (n ≡ 0) ⊎ (is_among (scheme.digests.parent n) (filter_map block_read events) ≡ false) → IsOfWritten scheme.digests n (history new.trace)
      through other = subst (λ (h : History). IsOfWritten scheme.digests n h) (sym grown) (of_written-through scheme.digests n start events other (before n below))

  abbrev last : (n : ℕ) → n < scheme.blocks → Block
  last n below = (home.written n below).0

  last-at : (n : ℕ) (below : n < scheme.blocks) (between more : List Event) → Contains pinned n → events ≡ between ++ more → last_write (Tree n) (followed start between) ≡ Some (last n below)
  last-at n below between more pin parts =
      last_write-through n start between (all-front (MoveFor n) events between more parts (staying n pin))
      ∙ sym (last_write-through n start events (staying n pin)) ∙ ap (λ (h : History). last_write (Tree n) h) (sym grown) ∙ (home.written n below).1

  last-digest : (n : ℕ) (below : n < scheme.blocks) → expected_digest scheme.digests n (history new.trace) ≡ Some (scheme.digests.digest n (last n below))
  last-digest n below =
      of_written-moved n below ∙ ap (λ (o : Option Block). option_map (λ (block : Block). scheme.digests.digest n block) o) (home.written n below).1

  -- throughout the load
  abbrev Claim : ℕ → Type 0
  Claim n = Contains pinned n → (below : n < scheme.blocks) → (between more : List Event) → events ≡ between ++ more
      → expected_digest scheme.digests n (followed start between) ≡ Some (scheme.digests.digest n (last n below))

  read-is : (n : ℕ) → Claim n → (below : n < scheme.blocks) (between : List Event) (block : Block) (more : List Event) → events ≡ between ++ BlockRead (Tree n) block ∷ more → block ≡ last n below
  read-is n claim below between block more parts =
      let event : Event = BlockRead (Tree n) block in
      let pin : Contains pinned n = pin-read n (among-at n events between block more parts) in
      let at : history (old.trace ++ between) ≡ followed start between = history-append (old.trace ++ between) old.trace between refl in
      let e : Some (scheme.digests.digest n block) ≡ Some (scheme.digests.digest n (last n below)) =
      sym (moved.moves.checked between n block more parts) ∙ ap (λ (h : History). expected_digest scheme.digests n h) at ∙ claim pin below between (event ∷ more) parts in
      let digests : scheme.digests.digest n block ≡ scheme.digests.digest n (last n below) = cc in
      let cut : new.trace ≡ (old.trace ++ between) ++ event ∷ more =
      moved.moves.appended ∙ ap (λ (es : List Event). old.trace ++ es) parts ∙ sym (append_assoc old.trace between (event ∷ more)) in
      let whole : IsWhole block = clean.whole.each (old.trace ++ between) event more cut in
      let found : last_write (Tree n) (history (old.trace ++ between)) ≡ Some (last n below) =
      ap (λ (h : History). last_write (Tree n) h) at ∙ last-at n below between (event ∷ more) pin parts in
      elim (same-or-deceived scheme lawful (old.trace ++ between) ((old.trace ++ between) ++ event ∷ []) n block (last n below) below whole
      (moved.stands.whole n (last n below) (home.written n below).1) refl found digests) [
        | inl equal ↦ equal
        | inr deceived ↦ absurd (clean.none deceived.first deceived.second
            (subst (λ (t : List Event). BlockCollision scheme.strings t deceived.first deceived.second) (sym (cut ∙ sym (append_assoc (old.trace ++ between) (event ∷ []) more)))
            (collision-more scheme.strings ((old.trace ++ between) ++ event ∷ []) more deceived.first deceived.second deceived.collision)))
      ]

  -- the slot in what was read of the parent
  slot-is : (n : ℕ) → n ≢ 0 → Contains pinned n → (below : n < scheme.blocks) → Claim (scheme.digests.parent n) → (between : List Event) (block : Block) (more : List Event)
      → events ≡ between ++ BlockRead (Tree (scheme.digests.parent n)) block ∷ more → scheme.digests.slot n block.payload ≡ scheme.digests.digest n (last n below)
  slot-is n other pin below claim between block more parts =
      let p : ℕ = scheme.digests.parent n in
      let low : p < scheme.blocks = inside p (among-at p events between block more parts) in
      let is : block ≡ last p low = read-is p claim low between block more parts in
      let first : expected_digest scheme.digests n (BlockRead (Tree p) block ◂ followed start between) ≡ Some (scheme.digests.slot n block.payload) =
      expected_digest-parent scheme.digests n block (followed start between) other in
      let end : followed start events ≡ followed (BlockRead (Tree p) block ◂ followed start between) more =
      ap (λ (es : List Event). followed start es) parts ∙ followed-append start between (BlockRead (Tree p) block ∷ more) in
      let e : Some (scheme.digests.slot n block.payload) ≡ Some (scheme.digests.digest n (last n below)) =
      sym (expected-stays scheme.digests n (scheme.digests.slot n block.payload) (BlockRead (Tree p) block ◂ followed start between) more first
      (λ middle event rest same. later low is middle event rest same))
      ∙ ap (λ (h : History). expected_digest scheme.digests n h) (sym (grown ∙ end)) ∙ last-digest n below in
      cc
    where
      cut-later : (middle : List Event) (event : Event) (rest : List Event) → more ≡ middle ++ event ∷ rest
          → events ≡ (between ++ BlockRead (Tree (scheme.digests.parent n)) block ∷ middle) ++ event ∷ rest
      cut-later middle event rest same =
          parts ∙ ap (λ (es : List Event). between ++ BlockRead (Tree (scheme.digests.parent n)) block ∷ es) same
          ∙ sym (append_assoc between (BlockRead (Tree (scheme.digests.parent n)) block ∷ middle) (event ∷ rest))

      later : (low : scheme.digests.parent n < scheme.blocks) → block ≡ last (scheme.digests.parent n) low → (middle : List Event) (event : Event) (rest : List Event) → more ≡ middle ++ event ∷ rest
          → TellsOnly scheme.digests n (scheme.digests.slot n block.payload) event
      later low is middle event rest same =
          let cut = cut-later middle event rest same in
          elim (tells-for scheme.digests n event (all-at (MoveFor n) events (between ++ BlockRead (Tree (scheme.digests.parent n)) block ∷ middle) event rest cut (staying n pin))) [
            | inl none ↦ inl none
            | inr reads ↦
                let again : events ≡ (between ++ BlockRead (Tree (scheme.digests.parent n)) block ∷ middle) ++ BlockRead (Tree (scheme.digests.parent n)) reads.block ∷ rest =
                cut ∙ ap (λ (e : Event). (between ++ BlockRead (Tree (scheme.digests.parent n)) block ∷ middle) ++ e ∷ rest) reads.is in
                let too : reads.block ≡ last (scheme.digests.parent n) low =
                read-is (scheme.digests.parent n) claim low (between ++ BlockRead (Tree (scheme.digests.parent n)) block ∷ middle) reads.block rest again in
                inr (ap (λ (e : Event). digest_told scheme.digests n e) reads.is ∙ digest_told-parent scheme.digests n reads.block other
                ∙ ap (λ (b : Block). Some (scheme.digests.slot n b.payload)) (too ∙ sym is))
          ]

  claim-below : (fuel n : ℕ) → n < fuel → Claim n
  claim-below zero n less = absurd (omega (arith, less))
  claim-below (suc fuel) n less = λ pin below between more parts.
      expected-stays scheme.digests n (scheme.digests.digest n (last n below)) start between
      (before n below ∙ ap (λ (o : Option Block). option_map (λ (block : Block). scheme.digests.digest n block) o) (last-at n below [] events pin refl))
      (λ middle event rest same. by (claim-below fuel) pin below middle event (rest ++ more)
      (parts ∙ ap (λ (es : List Event). es ++ more) same ∙ append_assoc middle (event ∷ rest) more))
    where
      by : ((m : ℕ) → m < fuel → Claim m) → (pin : Contains pinned n) (below : n < scheme.blocks) (middle : List Event) (event : Event) (rest : List Event) → events ≡ middle ++ event ∷ rest
          → TellsOnly scheme.digests n (scheme.digests.digest n (last n below)) event
      by claims pin below middle event rest cut =
          let move : MoveFor n event = all-at (MoveFor n) events middle event rest cut (staying n pin) in
          elim (cases_eq n 0) [
            | inl root ↦ inl (silent scheme.digests n event move (inl root))
            | inr other ↦ elim (tells-for scheme.digests n event move) [
              | inl none ↦ inl none
              | inr reads ↦
                  let above : scheme.digests.parent n < n = lawful.above n (omega (arith, other)) below in
                  let claim : Claim (scheme.digests.parent n) = claims (scheme.digests.parent n) (omega (arith, above, less)) in
                  inr (ap (λ (e : Event). digest_told scheme.digests n e) reads.is ∙ digest_told-parent scheme.digests n reads.block other
                  ∙ ap (λ (d : List ℕ). Some d)
                  (slot-is n other pin below claim middle reads.block rest (cut ∙ ap (λ (e : Event). middle ++ e ∷ rest) reads.is)))
            ]
          ]

  -- so each read is faithful
  pub read-faithful : (between : List Event) (n : ℕ) (block : Block) (more : List Event) → events ≡ between ++ BlockRead (Tree n) block ∷ more → (image : Place → Option (List ℕ))
      → is_faithful image (BlockRead (Tree n) block) (history (old.trace ++ between)) ≡ true
  read-faithful between n block more parts image =
      let is = among-at n events between block more parts in
      let pin : Contains pinned n = pin-read n is in
      let below : n < scheme.blocks = inside n is in
      let at : history (old.trace ++ between) ≡ followed start between = history-append (old.trace ++ between) old.trace between refl in
      (is_faithful-written image (Tree n) block (last n below) (history (old.trace ++ between))
      (ap (λ (h : History). last_write (Tree n) h) at ∙ last-at n below between (BlockRead (Tree n) block ∷ more) pin parts)).1
      (read-is n (claim-below (suc n) n (omega arith)) below between block more parts)
