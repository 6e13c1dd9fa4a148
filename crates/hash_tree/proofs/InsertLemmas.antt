-- What follows where a block is read, has the digest that the chip keeps of it, and gets a line.
use Rattle.std.proofs.Common.{◌≡◌, ℕ, zero, suc, ◌<◌, true, false, List, [], ◌∷◌, ◌++◌, length, Option, Some, None, refl, sym, ap, ◌∙◌, subst, inl, inr, ◌⊎◌, arith}
use Rattle.std.specs.Prelude.{◌≢◌, slice_get}
use Rattle.std.specs.Str.{bytes_eq}
use Rattle.std.proofs.lemmas.Bool.{cases_eq, cases_Bool}
use Rattle.std.proofs.lemmas.Slice.Eq.{bytes_eq-Decides}
use Rattle.aegis_num.specs.declared.storage.Block.{Block}
use Rattle.aegis_num.specs.declared.storage.Place.TheVariants.{Tree}
use Rattle.off_chip.specs.declared.event.Event.{Event}
use Rattle.off_chip.specs.declared.event.Event.TheVariants.{BlockRead, BlockWrite}
use Rattle.off_chip.specs.Histories.{history}
use Rattle.off_chip.specs.WriteBacks.{last_write, IsLastWrite}
use Rattle.off_chip.specs.Residency.{is_resident}
use Rattle.off_chip.specs.ExpectedDigests.{expected_digest}
use Rattle.off_chip.specs.HonestMemory.{IsWhole}
use Rattle.off_chip.proofs.WriteLemmas.{last_write-in_order}
use Rattle.line_cache.specs.declared.lines.Line.{Line}
use Rattle.hash_tree.specs.Schemes.{Scheme, IsLawful, unveiled}
use Rattle.hash_tree.specs.AsWritten.{AllAsWritten}
use Rattle.hash_tree.specs.Standing.{State, payload_in, kept_payload, contents_in, contents, IsHome, IsDeceived, IsPadded, Stands, IsKeptDigest, on_chip, in_parent, SameContents, KeepsContents}
use Rattle.hash_tree.specs.TreeSteps.{Appends, Inserted}
use Rattle.hash_tree.proofs.AsWrittenLemmas.{unfaithful-as_written, as_written-block}
use Rattle.hash_tree.proofs.GrowthLemmas.{AllAsWritten-older, AllAsWritten-last, NodesLaidOut-more, IsDeceived-more, written-laid_out, read-writes, read-resident, read-resident-other, read-last-other, read-expected-child, read-expected-other}

-- the digest that the chip keeps is the expected one
pub kept-expected : (scheme : Scheme) (state : State) (n : ℕ) (digest : List ℕ) → Stands scheme state → n < scheme.blocks → IsKeptDigest scheme state n digest
    → expected_digest scheme.digests n (history state.trace) ≡ Some digest
kept-expected scheme state n digest stands below (on_chip zero' same) =
    ap (λ (k : ℕ). expected_digest scheme.digests k (history state.trace)) zero' ∙ stands.root ∙ ap (λ (d : List ℕ). Some d) (sym same)
kept-expected scheme state n digest stands below (in_parent line above held same) = stands.expected n line above below held ∙ ap (λ (d : List ℕ). Some d) (sym same)

-- and, at home, that of the last write-back
pub kept-written : (scheme : Scheme) (state : State) (n : ℕ) (digest : List ℕ) (written : Block) → IsHome scheme state → n < scheme.blocks → IsKeptDigest scheme state n digest
    → last_write (Tree n) (history state.trace) ≡ Some written → digest ≡ scheme.digests.digest n written
kept-written scheme state n digest written home below (on_chip zero' same) found =
    same ∙ home.root written (ap (λ (k : ℕ). last_write (Tree k) (history state.trace)) (sym zero') ∙ found) ∙ ap (λ (k : ℕ). scheme.digests.digest k written) (sym zero')
kept-written scheme state n digest written home below (in_parent line above held same) found =
    same ∙ home.slots n written line.payload above below found
    (ap (λ (o : Option Line). payload_in o (last_write (Tree (scheme.digests.parent n)) (history state.trace))) held)

slice_get-at : (before : List Event) (event : Event) (rest : List Event) → slice_get (before ++ event ∷ rest) (length before) ≡ Some event
slice_get-at [] event rest = refl
slice_get-at (first ∷ before) event rest = slice_get-at before event rest

slice_get-front : (xs ys : List Event) (k : ℕ) (y : Event) → slice_get xs k ≡ Some y → slice_get (xs ++ ys) k ≡ Some y
slice_get-front [] ys k y found = cc
slice_get-front (z ∷ xs) ys zero y found = found
slice_get-front (z ∷ xs) ys (suc k) y found = slice_get-front xs ys k y found

-- a block that is read with the digest of the last write-back is that block, or the trace deceives
pub same-or-deceived : (scheme : Scheme) → IsLawful scheme → (old new : List Event) (n : ℕ) (block written : Block) → n < scheme.blocks → IsWhole block → IsWhole written
    → Appends (BlockRead (Tree n) block) old new → last_write (Tree n) (history old) ≡ Some written → scheme.digests.digest n block ≡ scheme.digests.digest n written
    → (block ≡ written) ⊎ IsDeceived scheme new
same-or-deceived scheme lawful old new n block written below whole whole_written same found digests =
    let text = scheme.strings.block n block in
    let other = scheme.strings.block n written in
    elim (cases_Bool (bytes_eq text other)) [
      | inl equal ↦ inl (lawful.apart n block written below whole whole_written ((bytes_eq-Decides text other).0 equal))
      | inr differ ↦
          let apart : other ≢ text = λ e. let no_such : true ≡ false = sym ((bytes_eq-Decides text other).1 (sym e)) ∙ differ in cc in
          let last : IsLastWrite (Tree n) old written = (last_write-in_order (Tree n) old written).0 found in
          inr (record {
            first = length last.before;
            second = length old;
            collision = record {
              first_event = BlockWrite (Tree n) written;
              second_event = BlockRead (Tree n) block;
              at_first = ap (λ (t : List Event). slice_get t (length last.before)) same
                  ∙ slice_get-front old (BlockRead (Tree n) block ∷ []) (length last.before) (BlockWrite (Tree n) written)
                  (ap (λ (t : List Event). slice_get t (length last.before)) last.parts ∙ slice_get-at last.before (BlockWrite (Tree n) written) last.rest);
              at_second = ap (λ (t : List Event). slice_get t (length old)) same ∙ slice_get-at old (BlockRead (Tree n) block) [];
              string = other;
              other = text;
              of_first = refl;
              of_second = refl;
              differ = apart;
              same = sym (lawful.digest n written) ∙ sym digests ∙ lawful.digest n block;
            };
            unfaithful = record {
              before = old;
              n = n;
              block = block;
              rest = [];
              written = written;
              parts = same;
              last = last;
              differ = λ e. apart (ap (λ (b : Block). scheme.strings.block n b) (sym e));
            };
          })
    ]

parent-line : (scheme : Scheme) (old new : State) (n m : ℕ) (block : Block) → Inserted scheme old new n block → scheme.digests.parent m ≢ n
    → kept_payload new (scheme.digests.parent m) ≡ kept_payload old (scheme.digests.parent m)
parent-line scheme old new n m block step apart =
    ap (λ (o : Option Line). payload_in o (last_write (Tree (scheme.digests.parent m)) (history new.trace))) (step.lines.other (scheme.digests.parent m) apart)
    ∙ ap (λ (o : Option Block). payload_in (old.lines (scheme.digests.parent m)) o) (read-writes n block old.trace new.trace step.event (scheme.digests.parent m))

home-inserted : (scheme : Scheme) → IsLawful scheme → (old new : State) (n : ℕ) (block : Block) → n < scheme.blocks → Inserted scheme old new n block → old.lines n ≡ None
    → IsHome scheme old → last_write (Tree n) (history old.trace) ≡ Some block → IsHome scheme new
home-inserted scheme lawful old new n block below step none home found =
    let writes = read-writes n block old.trace new.trace step.event in
    record {
      written = λ m inside. let before = home.written m inside in (before.0, writes m ∙ before.1);
      slots = λ m written payload above inside last kept.
          elim (cases_eq (scheme.digests.parent m) n) [
            | inl here ↦
                let node : n < scheme.nodes = subst (λ (k : ℕ). k < scheme.nodes) here (lawful.node m above inside) in
                let line : kept_payload new (scheme.digests.parent m) ≡ Some (unveiled scheme n block) =
                ap (λ (k : ℕ). kept_payload new k) here
                ∙ ap (λ (o : Option Line). payload_in o (last_write (Tree n) (history new.trace))) step.lines.here in
                let p : payload ≡ block.payload =
                (let e : Some payload ≡ Some (unveiled scheme n block) = sym kept ∙ line in
                let f : payload ≡ unveiled scheme n block = cc in f ∙ lawful.bare n block.stamp block.payload node) in
                let old_kept : kept_payload old (scheme.digests.parent m) ≡ Some block.payload =
                ap (λ (k : ℕ). kept_payload old k) here
                ∙ ap (λ (o : Option Line). payload_in o (last_write (Tree n) (history old.trace))) none
                ∙ ap (λ (o : Option Block). payload_in None o) found in
                ap (λ (xs : List ℕ). scheme.digests.slot m xs) p ∙ home.slots m written block.payload above inside (sym (writes m) ∙ last) old_kept
            | inr apart ↦ home.slots m written payload above inside (sym (writes m) ∙ last) (sym (parent-line scheme old new n m block step apart) ∙ kept)
          ];
      root = λ written last. step.root ∙ home.root written (sym (writes 0) ∙ last);
      clean = λ m line written held clean last.
          elim (cases_eq m n) [
            | inl here ↦
                let l : Some line ≡ Some (record { payload = unveiled scheme n block; dirty = false }) = sym held ∙ ap (λ (k : ℕ). new.lines k) here ∙ step.lines.here in
                let e : line ≡ record { payload = unveiled scheme n block; dirty = false } = cc in
                let b : Some written ≡ Some block = sym last ∙ ap (λ (k : ℕ). last_write (Tree k) (history new.trace)) here ∙ writes n ∙ found in
                let f : written ≡ block = cc in
                ap (λ (l : Line). l.payload) e ∙ ap (λ (b : Block). unveiled scheme n b) (sym f) ∙ ap (λ (k : ℕ). unveiled scheme k written) (sym here)
            | inr apart ↦ home.clean m line written (sym (step.lines.other m apart) ∙ held) clean (sym (writes m) ∙ last)
          ];
    }

contents-inserted : (scheme : Scheme) → (old new : State) (n : ℕ) (block : Block) → Inserted scheme old new n block → old.lines n ≡ None
    → last_write (Tree n) (history old.trace) ≡ Some block → SameContents scheme old new
contents-inserted scheme old new n block step none found =
    let writes = read-writes n block old.trace new.trace step.event in
    record {
      leaf = λ m from inside.
          elim (cases_eq m n) [
            | inl here ↦
                ap (λ (k : ℕ). contents scheme new k) here
                ∙ ap (λ (o : Option Line). contents_in scheme n o (last_write (Tree n) (history new.trace))) step.lines.here
                ∙ sym (ap (λ (k : ℕ). contents scheme old k) here
                ∙ ap (λ (o : Option Line). contents_in scheme n o (last_write (Tree n) (history old.trace))) none
                ∙ ap (λ (o : Option Block). contents_in scheme n None o) found)
            | inr apart ↦
                ap (λ (o : Option Line). contents_in scheme m o (last_write (Tree m) (history new.trace))) (step.lines.other m apart)
                ∙ ap (λ (o : Option Block). contents_in scheme m (old.lines m) o) (writes m)
          ];
    }

-- the alternative carries over
home-or-deceived : (scheme : Scheme) → IsLawful scheme → (old new : State) (n : ℕ) (block : Block) → Stands scheme old → n < scheme.blocks → IsWhole block
    → Inserted scheme old new n block → old.lines n ≡ None → IsKeptDigest scheme old n (scheme.digests.digest n block)
    → (IsHome scheme new × SameContents scheme old new) ⊎ IsDeceived scheme new.trace
home-or-deceived scheme lawful old new n block stands below whole step none kept =
    elim stands.home [
      | inr deceived ↦ inr (IsDeceived-more scheme (BlockRead (Tree n) block) old.trace new.trace step.event deceived)
      | inl home ↦
          let written = home.written n below in
          let same = kept-written scheme old n (scheme.digests.digest n block) written.0 home below kept written.1 in
          elim (same-or-deceived scheme lawful old.trace new.trace n block written.0 below whole (stands.whole n written.0 written.1) step.event written.1 same) [
            | inl equal ↦
                let found : last_write (Tree n) (history old.trace) ≡ Some block = written.1 ∙ ap (λ (b : Block). Some b) (sym equal) in
                inl (home-inserted scheme lawful old new n block below step none home found, contents-inserted scheme old new n block step none found)
            | inr deceived ↦ inr deceived
          ]
    ]

-- where all reads are faithful, a node that was read has zeros after its digests
read-padded : (scheme : Scheme) (old new : State) (n : ℕ) (block : Block) → Stands scheme old → n < scheme.blocks → n < scheme.nodes
    → Inserted scheme old new n block → AllAsWritten (history new.trace) → IsPadded scheme block.payload
read-padded scheme old new n block stands below node step all =
    let before = AllAsWritten-older (BlockRead (Tree n) block) old.trace new.trace step.event all in
    elim stands.home [
      | inr deceived ↦ absurd (unfaithful-as_written old.trace deceived.unfaithful before)
      | inl home ↦
          let written = home.written n below in
          let same : block ≡ written.0 = as_written-block (Tree n) block written.0 (history old.trace) written.1
          (AllAsWritten-last (BlockRead (Tree n) block) old.trace new.trace step.event all) in
          subst (λ (b : Block). IsPadded scheme b.payload) (sym same) (written-laid_out scheme old.trace n written.0 node before stands.writes written.1)
    ]

pub stands-inserted : (scheme : Scheme) → IsLawful scheme → (old new : State) (n : ℕ) (block : Block) → Stands scheme old → n < scheme.blocks → IsWhole block
    → Inserted scheme old new n block → old.lines n ≡ None → IsKeptDigest scheme old n (scheme.digests.digest n block)
    → Stands scheme new × KeepsContents scheme old new
stands-inserted scheme lawful old new n block stands below whole step none kept =
    let writes = read-writes n block old.trace new.trace step.event in
    let either = home-or-deceived scheme lawful old new n block stands below whole step none kept in
    let line_here : (m : ℕ) (line : Line) → m ≡ n → new.lines m ≡ Some line → line ≡ record { payload = unveiled scheme n block; dirty = false } =
    (λ (m : ℕ) (line : Line) (here : m ≡ n) (held : new.lines m ≡ Some line).
    let l : Some line ≡ Some (record { payload = unveiled scheme n block; dirty = false }) = sym held ∙ ap (λ (k : ℕ). new.lines k) here ∙ step.lines.here in cc) in (
      record {
        home = elim either [ inl both ↦ inl both.0 | inr deceived ↦ inr deceived ];
        held = λ m resident.
            elim (cases_eq m n) [
              | inl here ↦ (record { payload = unveiled scheme n block; dirty = false }, ap (λ (k : ℕ). new.lines k) here ∙ step.lines.here)
              | inr apart ↦
                  let before = stands.held m (sym (read-resident-other n block old.trace new.trace step.event m apart) ∙ resident) in
                  (before.0, step.lines.other m apart ∙ before.1)
            ];
        resident = λ m line held.
            elim (cases_eq m n) [
              | inl here ↦ inl (ap (λ (k : ℕ). is_resident (Tree k) (history new.trace)) here ∙ read-resident n block old.trace new.trace step.event)
              | inr apart ↦
                  elim (stands.resident m line (sym (step.lines.other m apart) ∙ held)) [
                    | inl before ↦ inl (read-resident-other n block old.trace new.trace step.event m apart ∙ before)
                    | inr before ↦ inr (read-last-other n block old.trace new.trace step.event m apart ∙ before)
                  ]
            ];
        root = read-expected-other scheme.digests n block old.trace new.trace step.event 0 (inl refl) ∙ stands.root ∙ ap (λ (d : List ℕ). Some d) (sym step.root);
        expected = λ m line above inside held.
            elim (cases_eq (scheme.digests.parent m) n) [
              | inl here ↦
                  let node : n < scheme.nodes = subst (λ (k : ℕ). k < scheme.nodes) here (lawful.node m above inside) in
                  let e = line_here (scheme.digests.parent m) line here held in
                  let p : line.payload ≡ block.payload = ap (λ (l : Line). l.payload) e ∙ lawful.bare n block.stamp block.payload node in
                  let other : m ≢ 0 = omega (arith, above) in
                  read-expected-child scheme.digests n block old.trace new.trace step.event m other here
                  ∙ ap (λ (xs : List ℕ). Some (scheme.digests.slot m xs)) (sym p)
              | inr apart ↦
                  read-expected-other scheme.digests n block old.trace new.trace step.event m (inr apart)
                  ∙ stands.expected m line above inside (sym (step.lines.other (scheme.digests.parent m) apart) ∙ held)
            ];
        padding = λ all m line node held.
            let before = AllAsWritten-older (BlockRead (Tree n) block) old.trace new.trace step.event all in
            elim (cases_eq m n) [
              | inl here ↦
                  let inner : n < scheme.nodes = subst (λ (k : ℕ). k < scheme.nodes) here node in
                  let p : line.payload ≡ block.payload = ap (λ (l : Line). l.payload) (line_here m line here held) ∙ lawful.bare n block.stamp block.payload inner in
                  subst (λ (xs : List ℕ). IsPadded scheme xs) (sym p) (read-padded scheme old new n block stands below inner step all)
              | inr apart ↦ stands.padding before m line node (sym (step.lines.other m apart) ∙ held)
            ];
        writes = NodesLaidOut-more scheme (BlockRead (Tree n) block) old.trace new.trace step.event stands.writes tt;
        inside = λ m line held.
            elim (cases_eq m n) [
              | inl here ↦ subst (λ (k : ℕ). k < scheme.blocks) (sym here) below
              | inr apart ↦ stands.inside m line (sym (step.lines.other m apart) ∙ held)
            ];
        long = λ m line held.
            elim (cases_eq m n) [
              | inl here ↦ ap (λ (l : Line). length l.payload) (line_here m line here held) ∙ lawful.long n block.stamp block.payload whole.payload
              | inr apart ↦ stands.long m line (sym (step.lines.other m apart) ∙ held)
            ];
        whole = λ m written last. stands.whole m written (sym (writes m) ∙ last);
      },
      record { kept = elim either [ inl both ↦ inl both.1 | inr deceived ↦ inr deceived ] },
    )

-- where all reads are faithful, this one too, a block has the digest that the chip keeps of it
pub honest-digest : (scheme : Scheme) (old : State) (new : List Event) (n : ℕ) (block : Block) (digest : List ℕ) → Stands scheme old → n < scheme.blocks
    → Appends (BlockRead (Tree n) block) old.trace new → IsKeptDigest scheme old n digest → AllAsWritten (history new) → scheme.digests.digest n block ≡ digest
honest-digest scheme old new n block digest stands below same kept all =
    let before = AllAsWritten-older (BlockRead (Tree n) block) old.trace new same all in
    elim stands.home [
      | inr deceived ↦ absurd (unfaithful-as_written old.trace deceived.unfaithful before)
      | inl home ↦
          let written = home.written n below in
          let e : block ≡ written.0 = as_written-block (Tree n) block written.0 (history old.trace) written.1
          (AllAsWritten-last (BlockRead (Tree n) block) old.trace new same all) in
          ap (λ (b : Block). scheme.digests.digest n b) e ∙ sym (kept-written scheme old n digest written.0 home below kept written.1)
    ]
