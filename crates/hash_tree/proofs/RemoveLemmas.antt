-- What follows where a line leaves, is lent or is left alone.
use Rattle.std.proofs.Common.{◌≡◌, ℕ, ◌<◌, ◌≤◌, true, false, List, length, Option, Some, None, refl, sym, ap, ◌∙◌, subst, inl, inr, ◌⊎◌, arith}
use Rattle.std.specs.Prelude.{◌≢◌}
use Rattle.std.proofs.lemmas.Bool.{cases_eq}
use Rattle.aegis_num.specs.declared.storage.Block.{Block}
use Rattle.aegis_num.specs.declared.storage.Place.TheVariants.{Tree}
use Rattle.off_chip.specs.declared.event.Event.{Event}
use Rattle.off_chip.specs.declared.event.Event.TheVariants.{Note}
use Rattle.off_chip.specs.declared.event.Mark.TheVariants.{Drop}
use Rattle.off_chip.specs.Histories.{History, history}
use Rattle.off_chip.specs.WriteBacks.{last_write}
use Rattle.off_chip.specs.Residency.{is_resident}
use Rattle.off_chip.specs.ExpectedDigests.{expected_digest}
use Rattle.line_cache.specs.declared.lines.Line.{Line}
use Rattle.hash_tree.specs.CachedLines.{Held}
use Rattle.hash_tree.specs.Schemes.{Scheme, IsLawful}
use Rattle.hash_tree.specs.AsWritten.{AllAsWritten}
use Rattle.hash_tree.specs.Standing.{State, payload_in, kept_payload, contents_in, contents, IsHome, IsDeceived, is_written_last, NodesLaidOut, Stands, SameContents, KeepsContents}
use Rattle.hash_tree.specs.TreeSteps.{Appends, Puts, IsElsewhere}
use Rattle.hash_tree.proofs.GrowthLemmas.{AllAsWritten-older, NodesLaidOut-more, IsDeceived-more, drop-resident, drop-resident-other, drop-last-other, drop-writes, drop-expected, elsewhere-writes, elsewhere-resident, elsewhere-last, elsewhere-expected, elsewhere-laid_out}

-- nothing is said of what was written and read but that a block is no more resident
pub record Leaves (scheme : Scheme) (old new : List Event) (n : ℕ) : Type 0 where
  pub gone : is_resident (Tree n) (history new) ≡ false
  pub writes : (m : ℕ) → last_write (Tree m) (history new) ≡ last_write (Tree m) (history old)
  pub resident : (m : ℕ) → m ≢ n → is_resident (Tree m) (history new) ≡ is_resident (Tree m) (history old)
  pub last : (m : ℕ) → m ≢ n → is_written_last (Tree m) (history new) ≡ is_written_last (Tree m) (history old)
  pub expected : (m : ℕ) → expected_digest scheme.digests m (history new) ≡ expected_digest scheme.digests m (history old)
  pub as_written : AllAsWritten (history new) → AllAsWritten (history old)
  pub deceived : IsDeceived scheme old → IsDeceived scheme new
  pub laid_out : NodesLaidOut scheme (history old) → NodesLaidOut scheme (history new)

-- by a mark
pub leaves-dropped : (scheme : Scheme) (old new : List Event) (n : ℕ) → Appends (Note (Drop (Tree n))) old new → Leaves scheme old new n
leaves-dropped scheme old new n same = record {
  gone = drop-resident n old new same;
  writes = drop-writes n old new same;
  resident = drop-resident-other n old new same;
  last = drop-last-other n old new same;
  expected = drop-expected scheme.digests n old new same;
  as_written = AllAsWritten-older (Note (Drop (Tree n))) old new same;
  deceived = IsDeceived-more scheme (Note (Drop (Tree n))) old new same;
  laid_out = λ laid. NodesLaidOut-more scheme (Note (Drop (Tree n))) old new same laid tt;
}

-- after it was written
pub leaves-written : (scheme : Scheme) (trace : List Event) (n : ℕ) → is_resident (Tree n) (history trace) ≡ false → Leaves scheme trace trace n
leaves-written scheme trace n gone = record {
  gone = gone;
  writes = λ m. refl;
  resident = λ m apart. refl;
  last = λ m apart. refl;
  expected = λ m. refl;
  as_written = λ all. all;
  deceived = λ deceived. deceived;
  laid_out = λ laid. laid;
}

-- a clean line leaves
pub record Removed (scheme : Scheme) (old new : State) (n : ℕ) (line : Line) : Type 0 where
  pub leaves : Leaves scheme old.trace new.trace n
  pub root : new.root ≡ old.root
  pub held : old.lines n ≡ Some line
  pub clean : line.dirty ≡ false
  pub lines : Puts old.lines new.lines n None

home-removed : (scheme : Scheme) → IsLawful scheme → (old new : State) (n : ℕ) (line : Line) → n < scheme.blocks → Removed scheme old new n line
    → IsHome scheme old → IsHome scheme new
home-removed scheme lawful old new n line below step home =
    let written = home.written n below in
    record {
      written = λ m inside. let before = home.written m inside in (before.0, step.leaves.writes m ∙ before.1);
      slots = λ m block payload above inside last kept.
          elim (cases_eq (scheme.digests.parent m) n) [
            | inl here ↦
                let node : n < scheme.nodes = subst (λ (k : ℕ). k < scheme.nodes) here (lawful.node m above inside) in
                let p : Some payload ≡ Some written.0.payload =
                sym kept
                ∙ ap (λ (k : ℕ). kept_payload new k) here
                ∙ ap (λ (o : Option Line). payload_in o (last_write (Tree n) (history new.trace))) step.lines.here
                ∙ ap (λ (o : Option Block). payload_in None o) (step.leaves.writes n ∙ written.1) in
                let q : payload ≡ written.0.payload = cc in
                let l : line.payload ≡ written.0.payload =
                home.clean n line written.0 step.held step.clean written.1 ∙ lawful.bare n written.0.stamp written.0.payload node in
                let old_kept : kept_payload old (scheme.digests.parent m) ≡ Some line.payload =
                ap (λ (k : ℕ). kept_payload old k) here
                ∙ ap (λ (o : Option Line). payload_in o (last_write (Tree n) (history old.trace))) step.held in
                ap (λ (xs : List ℕ). scheme.digests.slot m xs) (q ∙ sym l) ∙ home.slots m block line.payload above inside (sym (step.leaves.writes m) ∙ last) old_kept
            | inr apart ↦
                home.slots m block payload above inside (sym (step.leaves.writes m) ∙ last)
                (sym (ap (λ (o : Option Line). payload_in o (last_write (Tree (scheme.digests.parent m)) (history new.trace))) (step.lines.other (scheme.digests.parent m) apart)
                ∙ ap (λ (o : Option Block). payload_in (old.lines (scheme.digests.parent m)) o) (step.leaves.writes (scheme.digests.parent m))) ∙ kept)
          ];
      root = λ block last. step.root ∙ home.root block (sym (step.leaves.writes 0) ∙ last);
      clean = λ m other block held clean last.
          elim (cases_eq m n) [
            | inl here ↦ let e : Some other ≡ None = sym held ∙ ap (λ (k : ℕ). new.lines k) here ∙ step.lines.here in cc
            | inr apart ↦ home.clean m other block (sym (step.lines.other m apart) ∙ held) clean (sym (step.leaves.writes m) ∙ last)
          ];
    }

contents-removed : (scheme : Scheme) → (old new : State) (n : ℕ) (line : Line) → n < scheme.blocks → Removed scheme old new n line
    → IsHome scheme old → SameContents scheme old new
contents-removed scheme old new n line below step home =
    let written = home.written n below in
    record {
      leaf = λ m from inside.
          elim (cases_eq m n) [
            | inl here ↦
                ap (λ (k : ℕ). contents scheme new k) here
                ∙ ap (λ (o : Option Line). contents_in scheme n o (last_write (Tree n) (history new.trace))) step.lines.here
                ∙ ap (λ (o : Option Block). contents_in scheme n None o) (step.leaves.writes n ∙ written.1)
                ∙ sym (ap (λ (k : ℕ). contents scheme old k) here
                ∙ ap (λ (o : Option Line). contents_in scheme n o (last_write (Tree n) (history old.trace))) step.held
                ∙ ap (λ (xs : List ℕ). Some xs) (home.clean n line written.0 step.held step.clean written.1))
            | inr apart ↦
                ap (λ (o : Option Line). contents_in scheme m o (last_write (Tree m) (history new.trace))) (step.lines.other m apart)
                ∙ ap (λ (o : Option Block). contents_in scheme m (old.lines m) o) (step.leaves.writes m)
          ];
    }

pub stands-removed : (scheme : Scheme) → IsLawful scheme → (old new : State) (n : ℕ) (line : Line) → Stands scheme old → Removed scheme old new n line
    → Stands scheme new × KeepsContents scheme old new
stands-removed scheme lawful old new n line stands step =
    let below = stands.inside n line step.held in
    let still : (m : ℕ) (other : Line) → new.lines m ≡ Some other → m ≢ n =
    (λ (m : ℕ) (other : Line) (held : new.lines m ≡ Some other) (here : m ≡ n).
    let e : Some other ≡ None = sym held ∙ ap (λ (k : ℕ). new.lines k) here ∙ step.lines.here in cc) in
    let before : (m : ℕ) (other : Line) → new.lines m ≡ Some other → old.lines m ≡ Some other =
    (λ (m : ℕ) (other : Line) (held : new.lines m ≡ Some other). sym (step.lines.other m (still m other held)) ∙ held) in (
      record {
        home = elim stands.home [ inl home ↦ inl (home-removed scheme lawful old new n line below step home) | inr deceived ↦ inr (step.leaves.deceived deceived) ];
        held = λ m resident.
            elim (cases_eq m n) [
              | inl here ↦ let no_such : true ≡ false = sym resident ∙ ap (λ (k : ℕ). is_resident (Tree k) (history new.trace)) here ∙ step.leaves.gone in cc
              | inr apart ↦
                  let at = stands.held m (sym (step.leaves.resident m apart) ∙ resident) in (at.0, step.lines.other m apart ∙ at.1)
            ];
        resident = λ m other held.
            let apart = still m other held in
            elim (stands.resident m other (before m other held)) [
              | inl at ↦ inl (step.leaves.resident m apart ∙ at)
              | inr at ↦ inr (step.leaves.last m apart ∙ at)
            ];
        root = step.leaves.expected 0 ∙ stands.root ∙ ap (λ (d : List ℕ). Some d) (sym step.root);
        expected = λ m other above inside held. step.leaves.expected m ∙ stands.expected m other above inside (before (scheme.digests.parent m) other held);
        padding = λ all m other node held. stands.padding (step.leaves.as_written all) m other node (before m other held);
        writes = step.leaves.laid_out stands.writes;
        inside = λ m other held. stands.inside m other (before m other held);
        long = λ m other held. stands.long m other (before m other held);
        whole = λ m block last. stands.whole m block (sym (step.leaves.writes m) ∙ last);
      },
      record { kept = elim stands.home [ inl home ↦ inl (contents-removed scheme old new n line below step home) | inr deceived ↦ inr (step.leaves.deceived deceived) ] },
    )

-- ---- an event at no tree place

pub stands-elsewhere : (scheme : Scheme) (event : Event) (old new : State) → Stands scheme old → IsElsewhere event → Appends event old.trace new.trace → new.root ≡ old.root
    → new.lines ≡ old.lines → Stands scheme new × SameContents scheme old new
stands-elsewhere scheme event old new stands elsewhere same root lines =
    let writes = elsewhere-writes event old.trace new.trace elsewhere same in
    let line : (m : ℕ) → new.lines m ≡ old.lines m = (λ (m : ℕ). ap (λ (l : Held). l m) lines) in
    let kept : (m : ℕ) → kept_payload new m ≡ kept_payload old m =
    (λ (m : ℕ). ap (λ (o : Option Line). payload_in o (last_write (Tree m) (history new.trace))) (line m) ∙ ap (λ (o : Option Block). payload_in (old.lines m) o) (writes m)) in (
      record {
        home =
            elim stands.home [
              | inr deceived ↦ inr (IsDeceived-more scheme event old.trace new.trace same deceived)
              | inl home ↦ inl (record {
                written = λ m inside. let before = home.written m inside in (before.0, writes m ∙ before.1);
                slots = λ m block payload above inside last held.
                    home.slots m block payload above inside (sym (writes m) ∙ last) (sym (kept (scheme.digests.parent m)) ∙ held);
                root = λ block last. root ∙ home.root block (sym (writes 0) ∙ last);
                clean = λ m other block held clean last. home.clean m other block (sym (line m) ∙ held) clean (sym (writes m) ∙ last);
              })
            ];
        held = λ m resident.
            let at = stands.held m (sym (elsewhere-resident event old.trace new.trace elsewhere same m) ∙ resident) in (at.0, line m ∙ at.1);
        resident = λ m other held.
            elim (stands.resident m other (sym (line m) ∙ held)) [
              | inl at ↦ inl (elsewhere-resident event old.trace new.trace elsewhere same m ∙ at)
              | inr at ↦ inr (elsewhere-last event old.trace new.trace elsewhere same m ∙ at)
            ];
        root = elsewhere-expected scheme.digests event old.trace new.trace elsewhere same 0 ∙ stands.root ∙ ap (λ (d : List ℕ). Some d) (sym root);
        expected = λ m other above inside held.
            elsewhere-expected scheme.digests event old.trace new.trace elsewhere same m ∙ stands.expected m other above inside (sym (line (scheme.digests.parent m)) ∙ held);
        padding = λ all m other node held. stands.padding (AllAsWritten-older event old.trace new.trace same all) m other node (sym (line m) ∙ held);
        writes = NodesLaidOut-more scheme event old.trace new.trace same stands.writes (elsewhere-laid_out scheme event (history old.trace) elsewhere);
        inside = λ m other held. stands.inside m other (sym (line m) ∙ held);
        long = λ m other held. stands.long m other (sym (line m) ∙ held);
        whole = λ m block last. stands.whole m block (sym (writes m) ∙ last);
      },
      record {
        leaf = λ m from inside.
            ap (λ (o : Option Line). contents_in scheme m o (last_write (Tree m) (history new.trace))) (line m)
            ∙ ap (λ (o : Option Block). contents_in scheme m (old.lines m) o) (writes m);
      },
    )

-- ---- a line of a block that is no node is lent

pub record Lent (old new : State) (n : ℕ) (payload : List ℕ) : Type 0 where
  pub trace : new.trace ≡ old.trace
  pub root : new.root ≡ old.root
  pub lines : Puts old.lines new.lines n (Some (record { payload = payload; dirty = true }))

pub stands-lent : (scheme : Scheme) → IsLawful scheme → (old new : State) (n : ℕ) (line : Line) (payload : List ℕ) → Stands scheme old → scheme.nodes ≤ n
    → old.lines n ≡ Some line → length payload ≡ 64 → Lent old new n payload → Stands scheme new
stands-lent scheme lawful old new n line payload stands leaf held_old long step =
    let e : history new.trace ≡ history old.trace = ap (λ (t : List Event). history t) step.trace in
    let node_apart : (m : ℕ) → 0 < m → m < scheme.blocks → scheme.digests.parent m ≢ n =
    (λ (m : ℕ) (above : 0 < m) (inside : m < scheme.blocks) (here : scheme.digests.parent m ≡ n). omega (arith, lawful.node m above inside, leaf, here)) in
    let writes : (m : ℕ) → last_write (Tree m) (history new.trace) ≡ last_write (Tree m) (history old.trace) = (λ (m : ℕ). ap (λ (h : History). last_write (Tree m) h) e) in
    record {
      home =
          elim stands.home [
            | inr deceived ↦ inr (subst (λ (t : List Event). IsDeceived scheme t) (sym step.trace) deceived)
            | inl home ↦ inl (record {
              written = λ m inside. let before = home.written m inside in (before.0, writes m ∙ before.1);
              slots = λ m block bytes above inside last kept.
                  home.slots m block bytes above inside (sym (writes m) ∙ last)
                  (sym (ap (λ (o : Option Line). payload_in o (last_write (Tree (scheme.digests.parent m)) (history new.trace))) (step.lines.other (scheme.digests.parent m) (node_apart m above inside))
                  ∙ ap (λ (o : Option Block). payload_in (old.lines (scheme.digests.parent m)) o) (writes (scheme.digests.parent m))) ∙ kept);
              root = λ block last. step.root ∙ home.root block (sym (writes 0) ∙ last);
              clean = λ m other block held clean last.
                  elim (cases_eq m n) [
                    | inl here ↦
                        let l : Some other ≡ Some (record { payload = payload; dirty = true }) = sym held ∙ ap (λ (k : ℕ). new.lines k) here ∙ step.lines.here in
                        let o : other ≡ record { payload = payload; dirty = true } = cc in
                        let no_such : true ≡ false = sym (ap (λ (l : Line). l.dirty) o) ∙ clean in cc
                    | inr apart ↦ home.clean m other block (sym (step.lines.other m apart) ∙ held) clean (sym (writes m) ∙ last)
                  ];
            })
          ];
      held = λ m resident.
          elim (cases_eq m n) [
            | inl here ↦ (record { payload = payload; dirty = true }, ap (λ (k : ℕ). new.lines k) here ∙ step.lines.here)
            | inr apart ↦ let at = stands.held m (ap (λ (h : History). is_resident (Tree m) h) (sym e) ∙ resident) in (at.0, step.lines.other m apart ∙ at.1)
          ];
      resident = λ m other held.
          let both : (line : Line) → old.lines m ≡ Some line → (is_resident (Tree m) (history new.trace) ≡ true) ⊎ (is_written_last (Tree m) (history new.trace) ≡ true) =
          (λ (line : Line) (at : old.lines m ≡ Some line).
          elim (stands.resident m line at) [
            | inl at ↦ inl (ap (λ (h : History). is_resident (Tree m) h) e ∙ at)
            | inr at ↦ inr (ap (λ (h : History). is_written_last (Tree m) h) e ∙ at)
          ]) in
          elim (cases_eq m n) [
            | inl here ↦ both line (ap (λ (k : ℕ). old.lines k) here ∙ held_old)
            | inr apart ↦ both other (sym (step.lines.other m apart) ∙ held)
          ];
      root = ap (λ (h : History). expected_digest scheme.digests 0 h) e ∙ stands.root ∙ ap (λ (d : List ℕ). Some d) (sym step.root);
      expected = λ m other above inside held.
          ap (λ (h : History). expected_digest scheme.digests m h) e
          ∙ stands.expected m other above inside (sym (step.lines.other (scheme.digests.parent m) (node_apart m above inside)) ∙ held);
      padding = λ all m other node held.
          let apart : m ≢ n = (λ (here : m ≡ n). omega (arith, node, leaf, here)) in
          stands.padding (subst (λ (h : History). AllAsWritten h) e all) m other node (sym (step.lines.other m apart) ∙ held);
      writes = subst (λ (h : History). NodesLaidOut scheme h) (sym e) stands.writes;
      inside = λ m other held.
          elim (cases_eq m n) [
            | inl here ↦ stands.inside m line (ap (λ (k : ℕ). old.lines k) here ∙ held_old)
            | inr apart ↦ stands.inside m other (sym (step.lines.other m apart) ∙ held)
          ];
      long = λ m other held.
          elim (cases_eq m n) [
            | inl here ↦
                let l : Some other ≡ Some (record { payload = payload; dirty = true }) = sym held ∙ ap (λ (k : ℕ). new.lines k) here ∙ step.lines.here in
                let o : other ≡ record { payload = payload; dirty = true } = cc in
                ap (λ (l : Line). length l.payload) o ∙ long
            | inr apart ↦ stands.long m other (sym (step.lines.other m apart) ∙ held)
          ];
      whole = λ m block last. stands.whole m block (sym (writes m) ∙ last);
    }
