-- What follows where the payload of a line is written back, and its digest goes into the line of its parent.
use Rattle.std.proofs.Common.{◌≡◌, ℕ, ◌+◌, ◌<◌, ◌≤◌, true, false, List, length, Option, Some, None, refl, sym, ap, ◌∙◌, subst, inl, inr, ◌⊎◌, arith}
use Rattle.std.specs.Prelude.{◌≢◌, ◌^◌, is_some}
use Rattle.std.proofs.lemmas.Bool.{cases_eq, cases_lt}
use Rattle.aegis_num.specs.declared.storage.Block.{Block}
use Rattle.aegis_num.specs.declared.storage.Place.TheVariants.{Tree}
use Rattle.off_chip.specs.declared.event.Event.{Event}
use Rattle.off_chip.specs.declared.event.Event.TheVariants.{BlockWrite}
use Rattle.off_chip.specs.Histories.{History, history}
use Rattle.off_chip.specs.WriteBacks.{last_write, StampsFit, stamp_written}
use Rattle.off_chip.proofs.WriteLemmas.{StampsFit-write, StampsFit-other}
use Rattle.off_chip.proofs.HistoryLemmas.{history-appended}
use Rattle.off_chip.specs.ExpectedDigests.{expected_digest}
use Rattle.off_chip.specs.HonestMemory.{IsWhole}
use Rattle.line_cache.specs.declared.lines.Line.{Line}
use Rattle.hash_tree.specs.Schemes.{Scheme, IsLawful, unveiled}
use Rattle.hash_tree.specs.Standing.{State, payload_in, kept_payload, contents_in, contents, IsHome, IsDeceived, is_written_last, IsPadded, NodeLaidOut, Stands, SameContents, KeepsContents}
use Rattle.hash_tree.specs.TreeSteps.{Appends, WrittenBack}
use Rattle.hash_tree.proofs.AsWrittenLemmas.{unfaithful-as_written}
use Rattle.hash_tree.proofs.GrowthLemmas.{AllAsWritten-older, NodesLaidOut-more, IsDeceived-more, write-here, write-other, write-resident-other, write-last, write-last-other, write-expected, write-expected-other}

data Where (scheme : Scheme) (n m : ℕ) : Type 0 where
  at_self : m ≡ n → Where scheme n m
  at_parent : 0 < n → m ≢ n → m ≡ scheme.digests.parent n → Where scheme n m
  at_other : m ≢ n → (0 < n → m ≢ scheme.digests.parent n) → Where scheme n m

where_is : (scheme : Scheme) (n m : ℕ) → Where scheme n m
where_is scheme n m =
    elim (cases_eq m n) [
      | inl here ↦ at_self here
      | inr other ↦
          elim (cases_lt 0 n) [
            | inl above ↦ elim (cases_eq m (scheme.digests.parent n)) [ inl is ↦ at_parent above other is | inr away ↦ at_other other (λ _. away) ]
            | inr root ↦ at_other other (λ above _. omega (arith, root, above))
          ]
    ]

-- what is said of a line after the write-back, by where it is
pub record LineBefore (scheme : Scheme) (old : State) (n m : ℕ) (line : Line) : Type 0 where
  pub before : Line
  pub held : old.lines m ≡ Some before
  pub long : length line.payload ≡ length before.payload
  pub padding : IsPadded scheme before.payload → IsPadded scheme line.payload

line-before : (scheme : Scheme) (old new : State) (n : ℕ) (line : Line) (block : Block) → WrittenBack scheme old new n line block
    → (m : ℕ) (other : Line) → new.lines m ≡ Some other → LineBefore scheme old n m other
line-before scheme old new n line block step m other held = by (where_is scheme n m)
  where
    by : Where scheme n m → LineBefore scheme old n m other
    by (at_self here) =
        let l : Some other ≡ Some (record { payload = line.payload; dirty = false }) = sym held ∙ ap (λ (k : ℕ). new.lines k) here ∙ step.here in
        let o : other ≡ record { payload = line.payload; dirty = false } = cc in
        record {
          before = line;
          held = ap (λ (k : ℕ). old.lines k) here ∙ step.held;
          long = ap (λ (l : Line). length l.payload) o;
          padding = λ padded. subst (λ (l : Line). IsPadded scheme l.payload) (sym o) padded;
        }
    by (at_parent above away is) =
        let set = step.above above in
        let l : Some other ≡ Some (record { payload = set.payload; dirty = true }) = sym held ∙ ap (λ (k : ℕ). new.lines k) is ∙ set.set in
        let o : other ≡ record { payload = set.payload; dirty = true } = cc in
        record {
          before = set.line;
          held = ap (λ (k : ℕ). old.lines k) is ∙ set.held;
          long = ap (λ (l : Line). length l.payload) o ∙ set.slot.long;
          padding = λ padded. subst (λ (l : Line). IsPadded scheme l.payload) (sym o) (set.slot.padding padded);
        }
    by (at_other not_self not_parent) = record {
      before = other;
      held = sym (step.other m not_self not_parent) ∙ held;
      long = refl;
      padding = λ padded. padded;
    }

-- a line before is one after
line-after : (scheme : Scheme) (old new : State) (n : ℕ) (line : Line) (block : Block) → WrittenBack scheme old new n line block
    → (m : ℕ) (other : Line) → old.lines m ≡ Some other → (after : Line) × (new.lines m ≡ Some after)
line-after scheme old new n line block step m other held = by (where_is scheme n m)
  where
    by : Where scheme n m → (after : Line) × (new.lines m ≡ Some after)
    by (at_self here) = (record { payload = line.payload; dirty = false }, ap (λ (k : ℕ). new.lines k) here ∙ step.here)
    by (at_parent above away is) = let set = step.above above in (record { payload = set.payload; dirty = true }, ap (λ (k : ℕ). new.lines k) is ∙ set.set)
    by (at_other not_self not_parent) = (other, step.other m not_self not_parent ∙ held)

-- the slot of each other child in its parent's line is as before
slot-before : (scheme : Scheme) → IsLawful scheme → (old new : State) (n : ℕ) (line : Line) (block : Block) → WrittenBack scheme old new n line block
    → (m : ℕ) (other : Line) → 0 < m → m < scheme.blocks → m ≢ n → new.lines (scheme.digests.parent m) ≡ Some other
    → (before : Line) × (old.lines (scheme.digests.parent m) ≡ Some before) × (scheme.digests.slot m other.payload ≡ scheme.digests.slot m before.payload)
slot-before scheme lawful old new n line block step m other above inside apart_n held = by (where_is scheme n (scheme.digests.parent m))
  where
    by : Where scheme n (scheme.digests.parent m)
        → (before : Line) × (old.lines (scheme.digests.parent m) ≡ Some before) × (scheme.digests.slot m other.payload ≡ scheme.digests.slot m before.payload)
    by (at_self here) =
        let l : Some other ≡ Some (record { payload = line.payload; dirty = false }) = sym held ∙ ap (λ (k : ℕ). new.lines k) here ∙ step.here in
        let o : other ≡ record { payload = line.payload; dirty = false } = cc in
        (line, ap (λ (k : ℕ). old.lines k) here ∙ step.held, ap (λ (l : Line). scheme.digests.slot m l.payload) o)
    by (at_parent positive not_self is) =
        let set = step.above positive in
        let l : Some other ≡ Some (record { payload = set.payload; dirty = true }) = sym held ∙ ap (λ (k : ℕ). new.lines k) is ∙ set.set in
        let o : other ≡ record { payload = set.payload; dirty = true } = cc in
        (set.line, ap (λ (k : ℕ). old.lines k) is ∙ set.held, ap (λ (l : Line). scheme.digests.slot m l.payload) o ∙ set.slot.other m above inside is apart_n)
    by (at_other not_self not_parent) = (other, sym (step.other (scheme.digests.parent m) not_self not_parent) ∙ held, refl)

-- the slot of the block that was written is its digest
slot-here : (scheme : Scheme) → IsLawful scheme → (old new : State) (n : ℕ) (line : Line) (block : Block) → WrittenBack scheme old new n line block
    → (other : Line) → 0 < n → new.lines (scheme.digests.parent n) ≡ Some other → scheme.digests.slot n other.payload ≡ scheme.digests.digest n block
slot-here scheme lawful old new n line block step other above held =
    let set = step.above above in
    let l : Some other ≡ Some (record { payload = set.payload; dirty = true }) = sym held ∙ set.set in
    let o : other ≡ record { payload = set.payload; dirty = true } = cc in
    ap (λ (l : Line). scheme.digests.slot n l.payload) o ∙ set.slot.here

-- a payload that is kept is that of a line or of a write-back
payload-cases : (line : Option Line) (written : Option Block) (payload : List ℕ) → payload_in line written ≡ Some payload
    → ((held : Line) × (line ≡ Some held) × (payload ≡ held.payload)) ⊎ ((block : Block) × (line ≡ None) × (written ≡ Some block) × (payload ≡ block.payload))
payload-cases (Some line) written payload same = let e : payload ≡ line.payload = cc in inl (line, refl, e)
payload-cases None (Some block) payload same = let e : payload ≡ block.payload = cc in inr (block, refl, refl, e)
payload-cases None None payload same = cc

home-written : (scheme : Scheme) → IsLawful scheme → (old new : State) (n : ℕ) (line : Line) (block : Block) → n < scheme.blocks → length line.payload ≡ 64
    → WrittenBack scheme old new n line block → IsHome scheme old → IsHome scheme new
home-written scheme lawful old new n line block below long step home =
    let other_writes = write-other n block old.trace new.trace step.event in
    let here_write = write-here n block old.trace new.trace step.event in
    record {
      written = λ m inside.
          elim (cases_eq m n) [
            | inl here ↦ (block, ap (λ (k : ℕ). last_write (Tree k) (history new.trace)) here ∙ here_write)
            | inr apart ↦ let before = home.written m inside in (before.0, other_writes m apart ∙ before.1)
          ];
      slots = λ m written payload above inside last kept. slot m written payload above inside last kept;
      root = λ written last.
          elim (cases_eq 0 n) [
            | inl here ↦
                let b : Some written ≡ Some block = sym last ∙ ap (λ (k : ℕ). last_write (Tree k) (history new.trace)) here ∙ here_write in
                let e : written ≡ block = cc in
                step.root (sym here) ∙ ap (λ (k : ℕ). scheme.digests.digest k block) (sym here) ∙ ap (λ (b : Block). scheme.digests.digest 0 b) (sym e)
            | inr apart ↦
                let positive : 0 < n = omega (arith, apart) in
                step.same_root positive ∙ home.root written (sym (other_writes 0 apart) ∙ last)
          ];
      clean = λ m other written held clean last. line_clean m other written held clean last (where_is scheme n m);
    }
  where
    child-of : (m : ℕ) (written : Block) (payload : List ℕ) → 0 < m → m < scheme.blocks → m ≢ n → last_write (Tree m) (history new.trace) ≡ Some written
        → kept_payload new (scheme.digests.parent m) ≡ Some payload → scheme.digests.slot m payload ≡ scheme.digests.digest m written
    child-of m written payload above inside apart last kept =
        let before : last_write (Tree m) (history old.trace) ≡ Some written = sym (write-other n block old.trace new.trace step.event m apart) ∙ last in
        elim (payload-cases (new.lines (scheme.digests.parent m)) (last_write (Tree (scheme.digests.parent m)) (history new.trace)) payload kept) [
          | inl in_line ↦
              let at = slot-before scheme lawful old new n line block step m in_line.0 above inside apart in_line.1 in
              ap (λ (xs : List ℕ). scheme.digests.slot m xs) in_line.2 ∙ at.2
              ∙ home.slots m written at.0.payload above inside before
              (ap (λ (o : Option Line). payload_in o (last_write (Tree (scheme.digests.parent m)) (history old.trace))) at.1)
          | inr in_write ↦
              let p = scheme.digests.parent m in
              let not_self : p ≢ n = (λ (here : p ≡ n).
              let e : None ≡ Some (record { payload = line.payload; dirty = false }) = sym in_write.1 ∙ ap (λ (k : ℕ). new.lines k) here ∙ step.here in cc) in
              let not_parent : 0 < n → p ≢ scheme.digests.parent n = (λ (positive : 0 < n) (is : p ≡ scheme.digests.parent n).
              let set = step.above positive in
              let e : None ≡ Some (record { payload = set.payload; dirty = true }) = sym in_write.1 ∙ ap (λ (k : ℕ). new.lines k) is ∙ set.set in cc) in
              home.slots m written payload above inside before
              (sym (ap (λ (o : Option Line). payload_in o (last_write (Tree p) (history new.trace))) (step.other p not_self not_parent)
              ∙ ap (λ (o : Option Block). payload_in (old.lines p) o) (write-other n block old.trace new.trace step.event p not_self)) ∙ kept)
        ]

    slot : (m : ℕ) (written : Block) (payload : List ℕ) → 0 < m → m < scheme.blocks → last_write (Tree m) (history new.trace) ≡ Some written
        → kept_payload new (scheme.digests.parent m) ≡ Some payload → scheme.digests.slot m payload ≡ scheme.digests.digest m written
    slot m written payload above inside last kept =
        elim (cases_eq m n) [
          | inr apart ↦ child-of m written payload above inside apart last kept
          | inl here ↦
              let positive : 0 < n = subst (λ (k : ℕ). 0 < k) here above in
              let set = step.above positive in
              let b : Some written ≡ Some block = sym last ∙ ap (λ (k : ℕ). last_write (Tree k) (history new.trace)) here ∙ write-here n block old.trace new.trace step.event in
              let e : written ≡ block = cc in
              let q : Some payload ≡ Some set.payload =
              sym kept ∙ ap (λ (k : ℕ). kept_payload new (scheme.digests.parent k)) here
              ∙ ap (λ (o : Option Line). payload_in o (last_write (Tree (scheme.digests.parent n)) (history new.trace))) set.set in
              let p : payload ≡ set.payload = cc in
              ap (λ (k : ℕ). scheme.digests.slot k payload) here ∙ ap (λ (xs : List ℕ). scheme.digests.slot n xs) p ∙ set.slot.here
              ∙ ap (λ (k : ℕ). scheme.digests.digest k block) (sym here) ∙ ap (λ (b : Block). scheme.digests.digest m b) (sym e)
        ]

    line_clean : (m : ℕ) (other : Line) (written : Block) → new.lines m ≡ Some other → other.dirty ≡ false → last_write (Tree m) (history new.trace) ≡ Some written
        → Where scheme n m → other.payload ≡ unveiled scheme m written
    line_clean m other written held clean last (at_self here) =
        let l : Some other ≡ Some (record { payload = line.payload; dirty = false }) = sym held ∙ ap (λ (k : ℕ). new.lines k) here ∙ step.here in
        let o : other ≡ record { payload = line.payload; dirty = false } = cc in
        let b : Some written ≡ Some block = sym last ∙ ap (λ (k : ℕ). last_write (Tree k) (history new.trace)) here ∙ write-here n block old.trace new.trace step.event in
        let e : written ≡ block = cc in
        ap (λ (l : Line). l.payload) o ∙ sym (lawful.inverse n block.stamp line.payload long)
        ∙ ap (λ (xs : List ℕ). scheme.veiled n block.stamp xs) (sym step.payload)
        ∙ ap (λ (k : ℕ). unveiled scheme k block) (sym here) ∙ ap (λ (b : Block). unveiled scheme m b) (sym e)
    line_clean m other written held clean last (at_parent positive not_self is) =
        let set = step.above positive in
        let l : Some other ≡ Some (record { payload = set.payload; dirty = true }) = sym held ∙ ap (λ (k : ℕ). new.lines k) is ∙ set.set in
        let o : other ≡ record { payload = set.payload; dirty = true } = cc in
        let no_such : true ≡ false = sym (ap (λ (l : Line). l.dirty) o) ∙ clean in cc
    line_clean m other written held clean last (at_other not_self not_parent) =
        home.clean m other written (sym (step.other m not_self not_parent) ∙ held) clean (sym (write-other n block old.trace new.trace step.event m not_self) ∙ last)

pub contents-written : (scheme : Scheme) → IsLawful scheme → (old new : State) (n : ℕ) (line : Line) (block : Block) → n < scheme.blocks
    → WrittenBack scheme old new n line block → SameContents scheme old new
contents-written scheme lawful old new n line block below step = record { leaf = λ m from inside. by m from inside (where_is scheme n m) }
  where
    by : (m : ℕ) → scheme.nodes ≤ m → m < scheme.blocks → Where scheme n m → contents scheme new m ≡ contents scheme old m
    by m from inside (at_self here) =
        ap (λ (k : ℕ). contents scheme new k) here
        ∙ ap (λ (o : Option Line). contents_in scheme n o (last_write (Tree n) (history new.trace))) step.here
        ∙ sym (ap (λ (k : ℕ). contents scheme old k) here ∙ ap (λ (o : Option Line). contents_in scheme n o (last_write (Tree n) (history old.trace))) step.held)
    by m from inside (at_parent positive not_self is) =
        let node : m < scheme.nodes = subst (λ (k : ℕ). k < scheme.nodes) (sym is) (lawful.node n positive below) in absurd (omega (arith, node, from))
    by m from inside (at_other not_self not_parent) =
        ap (λ (o : Option Line). contents_in scheme m o (last_write (Tree m) (history new.trace))) (step.other m not_self not_parent)
        ∙ ap (λ (o : Option Block). contents_in scheme m (old.lines m) o) (write-other n block old.trace new.trace step.event m not_self)

-- a node that is written, where all reads were faithful, is the digests of its children
laid_out-written : (scheme : Scheme) → IsLawful scheme → (old new : State) (n : ℕ) (line : Line) (block : Block) → Stands scheme old → n < scheme.blocks
    → WrittenBack scheme old new n line block → NodeLaidOut scheme (BlockWrite (Tree n) block) (history old.trace)
laid_out-written scheme lawful old new n line block stands below step node all =
    let p : block.payload ≡ line.payload = step.payload ∙ lawful.bare n block.stamp line.payload node in
    elim stands.home [
      | inr deceived ↦ absurd (unfaithful-as_written old.trace deceived.unfaithful all)
      | inl home ↦ record {
        long = ap (λ (xs : List ℕ). length xs) p ∙ stands.long n line step.held;
        written = λ child positive inside is. home.written child inside;
        slots = λ child written positive inside is last.
            ap (λ (xs : List ℕ). scheme.digests.slot child xs) p
            ∙ home.slots child written line.payload positive inside last
            (ap (λ (k : ℕ). kept_payload old k) is ∙ ap (λ (o : Option Line). payload_in o (last_write (Tree n) (history old.trace))) step.held);
        padding = subst (λ (xs : List ℕ). IsPadded scheme xs) (sym p) (stands.padding all n line node step.held);
      }
    ]

pub stands-written : (scheme : Scheme) → IsLawful scheme → (old new : State) (n : ℕ) (line : Line) (block : Block) → Stands scheme old → block.stamp < 2 ^ 64
    → WrittenBack scheme old new n line block → Stands scheme new × KeepsContents scheme old new
stands-written scheme lawful old new n line block stands fits step =
    let below = stands.inside n line step.held in
    let long = stands.long n line step.held in
    let other_writes = write-other n block old.trace new.trace step.event in
    let here_write = write-here n block old.trace new.trace step.event in (
      record {
        home =
            elim stands.home [
              | inl home ↦ inl (home-written scheme lawful old new n line block below long step home)
              | inr deceived ↦ inr (IsDeceived-more scheme (BlockWrite (Tree n) block) old.trace new.trace step.event deceived)
            ];
        held = λ m resident.
            elim (cases_eq m n) [
              | inl here ↦ (record { payload = line.payload; dirty = false }, ap (λ (k : ℕ). new.lines k) here ∙ step.here)
              | inr apart ↦
                  let at = stands.held m (sym (write-resident-other n block old.trace new.trace step.event m apart) ∙ resident) in
                  line-after scheme old new n line block step m at.0 at.1
            ];
        resident = λ m other held.
            elim (cases_eq m n) [
              | inl here ↦ inr (ap (λ (k : ℕ). is_written_last (Tree k) (history new.trace)) here ∙ write-last n block old.trace new.trace step.event)
              | inr apart ↦
                  let before = line-before scheme old new n line block step m other held in
                  elim (stands.resident m before.before before.held) [
                    | inl at ↦ inl (write-resident-other n block old.trace new.trace step.event m apart ∙ at)
                    | inr at ↦ inr (write-last-other n block old.trace new.trace step.event m apart ∙ at)
                  ]
            ];
        root =
            elim (cases_eq 0 n) [
              | inl here ↦
                  ap (λ (k : ℕ). expected_digest scheme.digests k (history new.trace)) here
                  ∙ write-expected scheme.digests n block old.trace new.trace step.event ∙ ap (λ (d : List ℕ). Some d) (sym (step.root (sym here)))
              | inr apart ↦
                  let positive : 0 < n = omega (arith, apart) in
                  write-expected-other scheme.digests n block old.trace new.trace step.event 0 apart ∙ stands.root ∙ ap (λ (d : List ℕ). Some d) (sym (step.same_root positive))
            ];
        expected = λ m other above inside held.
            elim (cases_eq m n) [
              | inl here ↦
                  let positive : 0 < n = subst (λ (k : ℕ). 0 < k) here above in
                  ap (λ (k : ℕ). expected_digest scheme.digests k (history new.trace)) here
                  ∙ write-expected scheme.digests n block old.trace new.trace step.event
                  ∙ ap (λ (d : List ℕ). Some d) (sym (slot-here scheme lawful old new n line block step other positive (ap (λ (k : ℕ). new.lines (scheme.digests.parent k)) (sym here) ∙ held)))
                  ∙ ap (λ (k : ℕ). Some (scheme.digests.slot k other.payload)) (sym here)
              | inr apart ↦
                  let at = slot-before scheme lawful old new n line block step m other above inside apart held in
                  write-expected-other scheme.digests n block old.trace new.trace step.event m apart
                  ∙ stands.expected m at.0 above inside at.1 ∙ ap (λ (d : List ℕ). Some d) (sym at.2)
            ];
        padding = λ all m other node held.
            let before = line-before scheme old new n line block step m other held in
            before.padding (stands.padding (AllAsWritten-older (BlockWrite (Tree n) block) old.trace new.trace step.event all) m before.before node before.held);
        writes = NodesLaidOut-more scheme (BlockWrite (Tree n) block) old.trace new.trace step.event stands.writes (laid_out-written scheme lawful old new n line block stands below step);
        inside = λ m other held. let before = line-before scheme old new n line block step m other held in stands.inside m before.before before.held;
        long = λ m other held.
            let before = line-before scheme old new n line block step m other held in before.long ∙ stands.long m before.before before.held;
        whole = λ m written last.
            elim (cases_eq m n) [
              | inl here ↦
                  let b : Some written ≡ Some block = sym last ∙ ap (λ (k : ℕ). last_write (Tree k) (history new.trace)) here ∙ here_write in
                  let e : written ≡ block = cc in
                  subst (λ (b : Block). IsWhole b) (sym e)
                  (record { payload = ap (λ (xs : List ℕ). length xs) step.payload ∙ lawful.long n block.stamp line.payload long; stamp = fits })
              | inr apart ↦ stands.whole m written (sym (other_writes m apart) ∙ last)
            ];
      },
      record { kept = inl (contents-written scheme lawful old new n line block below step) },
    )

-- no line comes or leaves by a write-back, and those of other blocks that are no nodes stay
pub written-holds : (scheme : Scheme) (old new : State) (n : ℕ) (line : Line) (block : Block) → WrittenBack scheme old new n line block
    → (m : ℕ) → is_some (new.lines m) ≡ is_some (old.lines m)
written-holds scheme old new n line block step m = by (where_is scheme n m)
  where
    by : Where scheme n m → is_some (new.lines m) ≡ is_some (old.lines m)
    by (at_self here) =
        ap (λ (o : Option Line). is_some o) (ap (λ (k : ℕ). new.lines k) here ∙ step.here)
        ∙ sym (ap (λ (o : Option Line). is_some o) (ap (λ (k : ℕ). old.lines k) here ∙ step.held))
    by (at_parent above away is) =
        let set = step.above above in
        ap (λ (o : Option Line). is_some o) (ap (λ (k : ℕ). new.lines k) is ∙ set.set)
        ∙ sym (ap (λ (o : Option Line). is_some o) (ap (λ (k : ℕ). old.lines k) is ∙ set.held))
    by (at_other not_self not_parent) = ap (λ (o : Option Line). is_some o) (step.other m not_self not_parent)

pub written-leaves : (scheme : Scheme) → IsLawful scheme → (old new : State) (n : ℕ) (line : Line) (block : Block) → n < scheme.blocks → WrittenBack scheme old new n line block
    → (m : ℕ) → scheme.nodes ≤ m → m ≢ n → new.lines m ≡ old.lines m
written-leaves scheme lawful old new n line block below step m leaf apart =
    step.other m apart (λ above is. let node : m < scheme.nodes = subst (λ (k : ℕ). k < scheme.nodes) (sym is) (lawful.node n above below) in omega (arith, node, leaf))

-- stamps go on fitting
pub fits-written : (last : ℕ) (n : ℕ) (block : Block) (old new : List Event) → StampsFit last (history old) → block.stamp ≡ last + 1 → Appends (BlockWrite (Tree n) block) old new
    → StampsFit (last + 1) (history new)
fits-written last n block old new fit next same =
    subst (λ (h : History). StampsFit (last + 1) h) (sym (history-appended old new (BlockWrite (Tree n) block) same)) (StampsFit-write last (history old) (Tree n) block fit next)

pub fits-other : (last : ℕ) (event : Event) (old new : List Event) → StampsFit last (history old) → stamp_written event ≡ None → Appends event old new → StampsFit last (history new)
fits-other last event old new fit other same =
    subst (λ (h : History). StampsFit last h) (sym (history-appended old new event same)) (StampsFit-other last (history old) event fit other)

-- ---- two steps

pub keeps-both : (scheme : Scheme) (old middle new : State) → KeepsContents scheme old middle → KeepsContents scheme middle new
    → (IsDeceived scheme middle.trace → IsDeceived scheme new.trace) → KeepsContents scheme old new
keeps-both scheme old middle new first second more = record {
  kept =
      elim first.kept [
        | inr deceived ↦ inr (more deceived)
        | inl same ↦
            elim second.kept [
              | inr deceived ↦ inr deceived
              | inl later ↦ inl (record { leaf = λ n from inside. later.leaf n from inside ∙ same.leaf n from inside })
            ]
      ];
}
