-- What one event more changes of what a tree keeps on its trace.
use Rattle.std.proofs.Common.{◌≡◌, ℕ, zero, suc, ◌<◌, Bool, true, false, cond, List, [], ◌∷◌, ◌++◌, Option, Some, None, refl, sym, ap, ◌∙◌, subst, inl, inr, ◌⊎◌}
use Rattle.std.specs.Prelude.{◌≢◌, IsTrue, slice_get, unwrap_or}
use Rattle.std.proofs.lemmas.List.{append_assoc}
use Rattle.aegis_num.specs.declared.storage.Block.{Block}
use Rattle.aegis_num.specs.declared.storage.Place.{Place}
use Rattle.aegis_num.specs.declared.storage.Place.TheVariants.{Tree}
use Rattle.off_chip.specs.declared.event.Event.{Event}
use Rattle.off_chip.specs.declared.event.Event.TheVariants.{BlockRead, BlockWrite, Note}
use Rattle.off_chip.specs.declared.event.Mark.TheVariants.{Drop}
use Rattle.off_chip.specs.Histories.{History, ◌◂◌, history, Each, newest, first_told}
use Rattle.off_chip.specs.WriteBacks.{same_place, last_write, written_at, read_at, IsLastWrite}
use Rattle.off_chip.specs.Residency.{is_resident}
use Rattle.off_chip.specs.ExpectedDigests.{Digests, expected_digest}
use Rattle.off_chip.proofs.HistoryLemmas.{history-appended, history-append, Each-older, Each-cut}
use Rattle.off_chip.proofs.WriteLemmas.{last_write-here, last_write-elsewhere, last_write-in_order, same_place-apart, same_place-refl}
use Rattle.off_chip.proofs.DigestLemmas.{expected_digest-write, expected_digest-parent, expected_digest-other}
use Rattle.off_chip.proofs.ResidencyLemmas.{is_resident-tree_read, is_resident-write, is_resident-drop, is_resident-elsewhere}
use Rattle.hash_tree.specs.Schemes.{Scheme}
use Rattle.hash_tree.specs.TreeSteps.{Appends, IsElsewhere}
use Rattle.hash_tree.specs.AsWritten.{is_as_written, AllAsWritten}
use Rattle.hash_tree.specs.Standing.{IsDeceived, write_told, is_written_last, NodeLaidOut, NodesLaidOut, IsPadded}

grown : (event : Event) (old new : List Event) → Appends event old new → history new ≡ event ◂ history old
grown event old new same = history-appended old new event same

-- ---- what goes on holding

pub AllAsWritten-older : (event : Event) (old new : List Event) → Appends event old new → AllAsWritten (history new) → AllAsWritten (history old)
AllAsWritten-older event old new same all =
    let each : Each (λ event older. IsTrue (is_as_written event older)) (event ◂ history old) = subst (λ (h : History). Each (λ event older. IsTrue (is_as_written event older)) h) (grown event old new same) all.each in
    record { each = each.0 }

pub AllAsWritten-last : (event : Event) (old new : List Event) → Appends event old new → AllAsWritten (history new) → is_as_written event (history old) ≡ true
AllAsWritten-last event old new same all =
    let each : Each (λ event older. IsTrue (is_as_written event older)) (event ◂ history old) = subst (λ (h : History). Each (λ event older. IsTrue (is_as_written event older)) h) (grown event old new same) all.each in
    each.1

pub AllAsWritten-more : (event : Event) (old new : List Event) → Appends event old new → AllAsWritten (history old) → is_as_written event (history old) ≡ true
    → AllAsWritten (history new)
AllAsWritten-more event old new same all last =
    record { each = subst (λ (h : History). Each (λ event older. IsTrue (is_as_written event older)) h) (sym (grown event old new same)) (all.each, last) }

pub NodesLaidOut-more : (scheme : Scheme) (event : Event) (old new : List Event) → Appends event old new → NodesLaidOut scheme (history old) → NodeLaidOut scheme event (history old)
    → NodesLaidOut scheme (history new)
NodesLaidOut-more scheme event old new same all last =
    record { each = subst (λ (h : History). Each (NodeLaidOut scheme) h) (sym (grown event old new same)) (all.each, last) }

pub slice_get-front : {X : Type 0} (xs ys : List X) (k : ℕ) (y : X) → slice_get xs k ≡ Some y → slice_get (xs ++ ys) k ≡ Some y
slice_get-front [] ys k y found = cc
slice_get-front (z ∷ xs) ys zero y found = found
slice_get-front (z ∷ xs) ys (suc k) y found = slice_get-front xs ys k y found

pub IsDeceived-more : (scheme : Scheme) (event : Event) (old new : List Event) → Appends event old new → IsDeceived scheme old → IsDeceived scheme new
IsDeceived-more scheme event old new same deceived =
    let c = deceived.collision in
    let u = deceived.unfaithful in
    record {
      first = deceived.first;
      second = deceived.second;
      collision = record {
        first_event = c.first_event;
        second_event = c.second_event;
        at_first = ap (λ (t : List Event). slice_get t deceived.first) same ∙ slice_get-front old (event ∷ []) deceived.first c.first_event c.at_first;
        at_second = ap (λ (t : List Event). slice_get t deceived.second) same ∙ slice_get-front old (event ∷ []) deceived.second c.second_event c.at_second;
        string = c.string;
        other = c.other;
        of_first = c.of_first;
        of_second = c.of_second;
        differ = c.differ;
        same = c.same;
      };
      unfaithful = record {
        before = u.before;
        n = u.n;
        block = u.block;
        rest = u.rest ++ event ∷ [];
        written = u.written;
        parts = same ∙ ap (λ (t : List Event). t ++ event ∷ []) u.parts ∙ append_assoc u.before (BlockRead (Tree u.n) u.block ∷ u.rest) (event ∷ []);
        last = u.last;
        differ = u.differ;
      };
    }

tree-apart : (m n : ℕ) → m ≢ n → Tree m ≢ Tree n
tree-apart m n apart same = apart cc

-- ---- a read of a tree block

pub read-writes : (n : ℕ) (block : Block) (old new : List Event) → Appends (BlockRead (Tree n) block) old new → (m : ℕ)
    → last_write (Tree m) (history new) ≡ last_write (Tree m) (history old)
read-writes n block old new same m = ap (λ (h : History). last_write (Tree m) h) (grown (BlockRead (Tree n) block) old new same)

pub read-resident : (n : ℕ) (block : Block) (old new : List Event) → Appends (BlockRead (Tree n) block) old new → is_resident (Tree n) (history new) ≡ true
read-resident n block old new same =
    ap (λ (h : History). is_resident (Tree n) h) (grown (BlockRead (Tree n) block) old new same) ∙ is_resident-tree_read n block (history old)

named-apart : (m n : ℕ) → m ≢ n → Some (Tree n) ≢ Some (Tree m)
named-apart m n apart same = apart cc

pub read-resident-other : (n : ℕ) (block : Block) (old new : List Event) → Appends (BlockRead (Tree n) block) old new → (m : ℕ) → m ≢ n
    → is_resident (Tree m) (history new) ≡ is_resident (Tree m) (history old)
read-resident-other n block old new same m apart =
    ap (λ (h : History). is_resident (Tree m) h) (grown (BlockRead (Tree n) block) old new same)
    ∙ is_resident-elsewhere (Tree m) (BlockRead (Tree n) block) (history old) (named-apart m n apart)

last-apart : (m n : ℕ) (b : Bool) (older : History) → m ≢ n
    → unwrap_or (first_told (cond (same_place (Tree m) (Tree n)) (Some b) None) (newest (λ event _. write_told (Tree m) event) older)) false ≡ is_written_last (Tree m) older
last-apart m n b older apart =
    ap (λ (t : Bool). unwrap_or (first_told (cond t (Some b) None) (newest (λ event _. write_told (Tree m) event) older)) false) (same_place-apart (Tree m) (Tree n) (tree-apart m n apart))

pub read-last-other : (n : ℕ) (block : Block) (old new : List Event) → Appends (BlockRead (Tree n) block) old new → (m : ℕ) → m ≢ n
    → is_written_last (Tree m) (history new) ≡ is_written_last (Tree m) (history old)
read-last-other n block old new same m apart =
    ap (λ (h : History). is_written_last (Tree m) h) (grown (BlockRead (Tree n) block) old new same) ∙ last-apart m n false (history old) apart

pub read-expected-child : (digests : Digests) (n : ℕ) (block : Block) (old new : List Event) → Appends (BlockRead (Tree n) block) old new → (m : ℕ) → m ≢ 0
    → digests.parent m ≡ n → expected_digest digests m (history new) ≡ Some (digests.slot m block.payload)
read-expected-child digests n block old new same m other above =
    ap (λ (h : History). expected_digest digests m h) (grown (BlockRead (Tree n) block) old new same)
    ∙ ap (λ (k : ℕ). expected_digest digests m (BlockRead (Tree k) block ◂ history old)) (sym above)
    ∙ expected_digest-parent digests m block (history old) other

unread-apart : (m n : ℕ) (block : Block) → m ≢ n → read_at (Tree m) (BlockRead (Tree n) block) ≡ None
unread-apart m n block apart = ap (λ (b : Bool). cond b (Some block) None) (same_place-apart (Tree m) (Tree n) (tree-apart m n apart))

pub read-expected-other : (digests : Digests) (n : ℕ) (block : Block) (old new : List Event) → Appends (BlockRead (Tree n) block) old new → (m : ℕ)
    → (m ≡ 0) ⊎ (digests.parent m ≢ n) → expected_digest digests m (history new) ≡ expected_digest digests m (history old)
read-expected-other digests n block old new same m (inl root) =
    ap (λ (h : History). expected_digest digests m h) (grown (BlockRead (Tree n) block) old new same)
    ∙ expected_digest-other digests m (BlockRead (Tree n) block) (history old) refl (inl root)
read-expected-other digests n block old new same m (inr apart) =
    ap (λ (h : History). expected_digest digests m h) (grown (BlockRead (Tree n) block) old new same)
    ∙ expected_digest-other digests m (BlockRead (Tree n) block) (history old) refl (inr (unread-apart (digests.parent m) n block apart))

-- ---- a write of a tree block

pub write-here : (n : ℕ) (block : Block) (old new : List Event) → Appends (BlockWrite (Tree n) block) old new → last_write (Tree n) (history new) ≡ Some block
write-here n block old new same =
    ap (λ (h : History). last_write (Tree n) h) (grown (BlockWrite (Tree n) block) old new same) ∙ last_write-here (Tree n) block (history old)

pub write-other : (n : ℕ) (block : Block) (old new : List Event) → Appends (BlockWrite (Tree n) block) old new → (m : ℕ) → m ≢ n
    → last_write (Tree m) (history new) ≡ last_write (Tree m) (history old)
write-other n block old new same m apart =
    ap (λ (h : History). last_write (Tree m) h) (grown (BlockWrite (Tree n) block) old new same)
    ∙ last_write-elsewhere (Tree m) (Tree n) block (history old) (tree-apart m n apart)

pub write-resident : (n : ℕ) (block : Block) (old new : List Event) → Appends (BlockWrite (Tree n) block) old new → is_resident (Tree n) (history new) ≡ false
write-resident n block old new same =
    ap (λ (h : History). is_resident (Tree n) h) (grown (BlockWrite (Tree n) block) old new same) ∙ is_resident-write (Tree n) block (history old)

pub write-resident-other : (n : ℕ) (block : Block) (old new : List Event) → Appends (BlockWrite (Tree n) block) old new → (m : ℕ) → m ≢ n
    → is_resident (Tree m) (history new) ≡ is_resident (Tree m) (history old)
write-resident-other n block old new same m apart =
    ap (λ (h : History). is_resident (Tree m) h) (grown (BlockWrite (Tree n) block) old new same)
    ∙ is_resident-elsewhere (Tree m) (BlockWrite (Tree n) block) (history old) (named-apart m n apart)

pub write-last : (n : ℕ) (block : Block) (old new : List Event) → Appends (BlockWrite (Tree n) block) old new → is_written_last (Tree n) (history new) ≡ true
write-last n block old new same =
    ap (λ (h : History). is_written_last (Tree n) h) (grown (BlockWrite (Tree n) block) old new same)
    ∙ ap (λ (t : Bool). unwrap_or (first_told (cond t (Some true) None) (newest (λ event _. write_told (Tree n) event) (history old))) false) (same_place-refl (Tree n))

pub write-last-other : (n : ℕ) (block : Block) (old new : List Event) → Appends (BlockWrite (Tree n) block) old new → (m : ℕ) → m ≢ n
    → is_written_last (Tree m) (history new) ≡ is_written_last (Tree m) (history old)
write-last-other n block old new same m apart =
    ap (λ (h : History). is_written_last (Tree m) h) (grown (BlockWrite (Tree n) block) old new same) ∙ last-apart m n true (history old) apart

pub write-expected : (digests : Digests) (n : ℕ) (block : Block) (old new : List Event) → Appends (BlockWrite (Tree n) block) old new
    → expected_digest digests n (history new) ≡ Some (digests.digest n block)
write-expected digests n block old new same =
    ap (λ (h : History). expected_digest digests n h) (grown (BlockWrite (Tree n) block) old new same) ∙ expected_digest-write digests n block (history old)

pub write-expected-other : (digests : Digests) (n : ℕ) (block : Block) (old new : List Event) → Appends (BlockWrite (Tree n) block) old new → (m : ℕ) → m ≢ n
    → expected_digest digests m (history new) ≡ expected_digest digests m (history old)
write-expected-other digests n block old new same m apart =
    ap (λ (h : History). expected_digest digests m h) (grown (BlockWrite (Tree n) block) old new same)
    ∙ expected_digest-other digests m (BlockWrite (Tree n) block) (history old)
    (ap (λ (b : Bool). cond b (Some block) None) (same_place-apart (Tree m) (Tree n) (tree-apart m n apart))) (inr refl)

-- ---- a block leaves without a write

pub drop-resident : (n : ℕ) (old new : List Event) → Appends (Note (Drop (Tree n))) old new → is_resident (Tree n) (history new) ≡ false
drop-resident n old new same =
    ap (λ (h : History). is_resident (Tree n) h) (grown (Note (Drop (Tree n))) old new same) ∙ is_resident-drop (Tree n) (history old)

pub drop-resident-other : (n : ℕ) (old new : List Event) → Appends (Note (Drop (Tree n))) old new → (m : ℕ) → m ≢ n
    → is_resident (Tree m) (history new) ≡ is_resident (Tree m) (history old)
drop-resident-other n old new same m apart =
    ap (λ (h : History). is_resident (Tree m) h) (grown (Note (Drop (Tree n))) old new same)
    ∙ is_resident-elsewhere (Tree m) (Note (Drop (Tree n))) (history old) (named-apart m n apart)

pub drop-last-other : (n : ℕ) (old new : List Event) → Appends (Note (Drop (Tree n))) old new → (m : ℕ) → m ≢ n
    → is_written_last (Tree m) (history new) ≡ is_written_last (Tree m) (history old)
drop-last-other n old new same m apart =
    ap (λ (h : History). is_written_last (Tree m) h) (grown (Note (Drop (Tree n))) old new same) ∙ last-apart m n false (history old) apart

pub drop-writes : (n : ℕ) (old new : List Event) → Appends (Note (Drop (Tree n))) old new → (m : ℕ) → last_write (Tree m) (history new) ≡ last_write (Tree m) (history old)
drop-writes n old new same m = ap (λ (h : History). last_write (Tree m) h) (grown (Note (Drop (Tree n))) old new same)

pub drop-expected : (digests : Digests) (n : ℕ) (old new : List Event) → Appends (Note (Drop (Tree n))) old new → (m : ℕ)
    → expected_digest digests m (history new) ≡ expected_digest digests m (history old)
drop-expected digests n old new same m = ap (λ (h : History). expected_digest digests m h) (grown (Note (Drop (Tree n))) old new same)

-- ---- an event at no tree place

pub written-elsewhere : (event : Event) → IsElsewhere event → (m : ℕ) → written_at (Tree m) event ≡ None
written-elsewhere (BlockWrite at block) elsewhere m =
    ap (λ (b : Bool). cond b (Some block) None) (same_place-apart (Tree m) at (λ (same : Tree m ≡ at). elsewhere m (ap (λ (p : Place). Some p) (sym same))))
written-elsewhere event elsewhere m = refl

read-elsewhere : (event : Event) → IsElsewhere event → (m : ℕ) → read_at (Tree m) event ≡ None
read-elsewhere (BlockRead at block) elsewhere m =
    ap (λ (b : Bool). cond b (Some block) None) (same_place-apart (Tree m) at (λ (same : Tree m ≡ at). elsewhere m (ap (λ (p : Place). Some p) (sym same))))
read-elsewhere event elsewhere m = refl

told-elsewhere : (event : Event) → IsElsewhere event → (m : ℕ) → write_told (Tree m) event ≡ None
told-elsewhere (BlockRead at block) elsewhere m =
    ap (λ (b : Bool). cond b (Some false) None) (same_place-apart (Tree m) at (λ (same : Tree m ≡ at). elsewhere m (ap (λ (p : Place). Some p) (sym same))))
told-elsewhere (BlockWrite at block) elsewhere m =
    ap (λ (b : Bool). cond b (Some true) None) (same_place-apart (Tree m) at (λ (same : Tree m ≡ at). elsewhere m (ap (λ (p : Place). Some p) (sym same))))
told-elsewhere (Note (Drop at)) elsewhere m =
    ap (λ (b : Bool). cond b (Some false) None) (same_place-apart (Tree m) at (λ (same : Tree m ≡ at). elsewhere m (ap (λ (p : Place). Some p) (sym same))))
told-elsewhere event elsewhere m = refl

pub elsewhere-writes : (event : Event) (old new : List Event) → IsElsewhere event → Appends event old new → (m : ℕ)
    → last_write (Tree m) (history new) ≡ last_write (Tree m) (history old)
elsewhere-writes event old new elsewhere same m =
    ap (λ (h : History). last_write (Tree m) h) (grown event old new same)
    ∙ ap (λ (o : Option Block). first_told o (last_write (Tree m) (history old))) (written-elsewhere event elsewhere m)

pub elsewhere-resident : (event : Event) (old new : List Event) → IsElsewhere event → Appends event old new → (m : ℕ)
    → is_resident (Tree m) (history new) ≡ is_resident (Tree m) (history old)
elsewhere-resident event old new elsewhere same m =
    ap (λ (h : History). is_resident (Tree m) h) (grown event old new same) ∙ is_resident-elsewhere (Tree m) event (history old) (elsewhere m)

pub elsewhere-last : (event : Event) (old new : List Event) → IsElsewhere event → Appends event old new → (m : ℕ)
    → is_written_last (Tree m) (history new) ≡ is_written_last (Tree m) (history old)
elsewhere-last event old new elsewhere same m =
    ap (λ (h : History). is_written_last (Tree m) h) (grown event old new same)
    ∙ ap (λ (o : Option Bool). unwrap_or (first_told o (newest (λ event _. write_told (Tree m) event) (history old))) false) (told-elsewhere event elsewhere m)

pub elsewhere-expected : (digests : Digests) (event : Event) (old new : List Event) → IsElsewhere event → Appends event old new → (m : ℕ)
    → expected_digest digests m (history new) ≡ expected_digest digests m (history old)
elsewhere-expected digests event old new elsewhere same m =
    ap (λ (h : History). expected_digest digests m h) (grown event old new same)
    ∙ expected_digest-other digests m event (history old) (written-elsewhere event elsewhere m) (inr (read-elsewhere event elsewhere (digests.parent m)))

pub elsewhere-laid_out : (scheme : Scheme) (event : Event) (older : History) → IsElsewhere event → NodeLaidOut scheme event older
elsewhere-laid_out scheme (BlockWrite (Tree n) block) older elsewhere = absurd (elsewhere n refl)
elsewhere-laid_out scheme event older elsewhere = tt

-- ---- what was written of a node, where all reads were faithful

pub AllAsWritten-front : (trace before rest : List Event) → trace ≡ before ++ rest → AllAsWritten (history trace) → AllAsWritten (history before)
AllAsWritten-front trace before rest same all = record {
  each = Each-older (λ event older. IsTrue (is_as_written event older)) (history before) rest
      (subst (λ (h : History). Each (λ event older. IsTrue (is_as_written event older)) h) (history-append trace before rest same) all.each);
}

pub written-laid_out : (scheme : Scheme) (trace : List Event) (n : ℕ) (block : Block) → n < scheme.nodes → AllAsWritten (history trace) → NodesLaidOut scheme (history trace)
    → last_write (Tree n) (history trace) ≡ Some block → IsPadded scheme block.payload
written-laid_out scheme trace n block node all laid found =
    let last : IsLastWrite (Tree n) trace block = (last_write-in_order (Tree n) trace block).0 found in
    (Each-cut (NodeLaidOut scheme) trace last.before (BlockWrite (Tree n) block) last.rest last.parts laid.each node
    (AllAsWritten-front trace last.before (BlockWrite (Tree n) block ∷ last.rest) last.parts all)).padding
