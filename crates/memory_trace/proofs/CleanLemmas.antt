-- What follows where a trace is clean, and of expected digests and last write-backs.
use Rattle.std.proofs.Common.{◌≡◌, ◌≢◌, ℕ, Bool, true, false, cond, not, ◌&&◌, eqb, List, [], ◌∷◌, ◌++◌, Option, Some, None, refl, sym, ap, ◌∙◌, subst, inl, inr, ◌⊎◌, append_assoc}
use Rattle.std.specs.Prelude.{option_map}
use Rattle.std.proofs.lemmas.Bool.{eq-eqb}
use Rattle.aegis_num.specs.declared.Block.{Block}
use Rattle.aegis_num.specs.declared.Place.TheVariants.{Tree, Log}
use Rattle.off_chip.specs.declared.Event.{Event}
use Rattle.off_chip.specs.declared.Event.TheVariants.{BlockRead, BlockWrite}
use Rattle.off_chip.specs.Collisions.{BlockCollision, Strings}
use Rattle.off_chip.specs.ExpectedDigests.{Digests, digest_told, expected_digest}
use Rattle.off_chip.specs.Histories.{History, ◌◂◌, first_told, followed}
use Rattle.off_chip.specs.WriteBacks.{last_write, same_place, written_at}
use Rattle.off_chip.proofs.WriteLemmas.{same_place-apart}
use Rattle.hash_tree.proofs.GrowthLemmas.{slice_get-front}
use Rattle.memory_trace.specs.SoundTraces.{IsClean}

-- ---- a part of a clean trace

pub collision-more : (strings : Strings) (trace more : List Event) (first second : ℕ) → BlockCollision strings trace first second → BlockCollision strings (trace ++ more) first second
collision-more strings trace more first second c = record {
  first_event = c.first_event;
  second_event = c.second_event;
  at_first = slice_get-front trace more first c.first_event c.at_first;
  at_second = slice_get-front trace more second c.second_event c.at_second;
  string = c.string;
  other = c.other;
  of_first = c.of_first;
  of_second = c.of_second;
  differ = c.differ;
  same = c.same;
}

pub clean-front : (strings : Strings) (trace front more : List Event) → trace ≡ front ++ more → IsClean strings trace → IsClean strings front
clean-front strings trace front more parts clean = record {
  none = λ first second c. clean.none first second (subst (λ (t : List Event). BlockCollision strings t first second) (sym parts) (collision-more strings front more first second c));
  whole = record {
    each = λ before event rest same. clean.whole.each before event (rest ++ more)
        (parts ∙ ap (λ (t : List Event). t ++ more) same ∙ append_assoc before (event ∷ rest) more);
  };
}

-- ---- the expected digest is that of the last write-back

abbrev pub IsOfWritten : Digests → ℕ → History → Type 0
IsOfWritten tree n older = expected_digest tree n older ≡ option_map (λ (block : Block). tree.digest n block) (last_write (Tree n) older)

map-told : {X Y : Type 0} (f : X → Y) (first second : Option X) → first_told (option_map f first) (option_map f second) ≡ option_map f (first_told first second)
map-told f None second = refl
map-told f (Some x) second = refl

-- an event that tells as much of the digest as it tells of writes
abbrev pub TellsWrite : Digests → ℕ → Event → Type 0
TellsWrite tree n event = digest_told tree n event ≡ option_map (λ (block : Block). tree.digest n block) (written_at (Tree n) event)

pub of_written-more : (tree : Digests) (n : ℕ) (event : Event) (older : History) → TellsWrite tree n event → IsOfWritten tree n older → IsOfWritten tree n (event ◂ older)
of_written-more tree n event older tells is =
    ap (λ (o : Option (List ℕ)). first_told o (expected_digest tree n older)) tells
    ∙ ap (λ (o : Option (List ℕ)). first_told (option_map (λ (block : Block). tree.digest n block) (written_at (Tree n) event)) o) is
    ∙ map-told (λ (block : Block). tree.digest n block) (written_at (Tree n) event) (last_write (Tree n) older)

map-cond : (tree : Digests) (n : ℕ) (b : Bool) (block : Block) → cond b (Some (tree.digest n block)) None ≡ option_map (λ (block : Block). tree.digest n block) (cond b (Some block) None)
map-cond tree n true block = refl
map-cond tree n false block = refl

none-cond : {X : Type 0} (b : Bool) (x : X) → b ≡ false → cond b (Some x) None ≡ None
none-cond true x same = cc
none-cond false x same = refl

and-right : (a b : Bool) → b ≡ false → (a && b) ≡ false
and-right true b same = same
and-right false b same = refl

parent-apart : (p m : ℕ) → p ≢ m → Tree p ≢ Tree m
parent-apart p m apart same = apart cc

-- each event does that is no read of the parent
pub tells-write : (tree : Digests) (n : ℕ) (event : Event) → (n ≡ 0) ⊎ ((block : Block) → event ≢ BlockRead (Tree (tree.parent n)) block) → TellsWrite tree n event
tells-write tree n (BlockWrite at block) other = map-cond tree n (same_place (Tree n) at) block
tells-write tree n (BlockRead (Tree m) block) (inl root) =
    none-cond (not (eqb n 0) && same_place (Tree (tree.parent n)) (Tree m)) (tree.slot n block.payload) (ap (λ (b : Bool). not b && same_place (Tree (tree.parent n)) (Tree m)) (eq-eqb n 0 root))
tells-write tree n (BlockRead (Tree m) block) (inr other) =
    none-cond (not (eqb n 0) && same_place (Tree (tree.parent n)) (Tree m)) (tree.slot n block.payload)
    (and-right (not (eqb n 0)) (same_place (Tree (tree.parent n)) (Tree m))
    (same_place-apart (Tree (tree.parent n)) (Tree m) (parent-apart (tree.parent n) m (λ here. other block (ap (λ (k : ℕ). BlockRead (Tree k) block) (sym here))))))
tells-write tree n (BlockRead (Log m) block) other =
    none-cond (not (eqb n 0) && false) (tree.slot n block.payload) (and-right (not (eqb n 0)) false refl)
tells-write tree n event other = refl

-- ---- an expected digest stays

abbrev pub TellsOnly : Digests → ℕ → List ℕ → Event → Type 0
TellsOnly tree n x event = (digest_told tree n event ≡ None) ⊎ (digest_told tree n event ≡ Some x)

stays-one : (tree : Digests) (n : ℕ) (x : List ℕ) (event : Event) (older : History) → expected_digest tree n older ≡ Some x → TellsOnly tree n x event → expected_digest tree n (event ◂ older) ≡ Some x
stays-one tree n x event older same (inl none) = ap (λ (o : Option (List ℕ)). first_told o (expected_digest tree n older)) none ∙ same
stays-one tree n x event older same (inr some) = ap (λ (o : Option (List ℕ)). first_told o (expected_digest tree n older)) some

pub expected-stays : (tree : Digests) (n : ℕ) (x : List ℕ) (older : History) (rest : List Event) → expected_digest tree n older ≡ Some x
    → ((middle : List Event) (event : Event) (last : List Event) → rest ≡ middle ++ event ∷ last → TellsOnly tree n x event) → expected_digest tree n (followed older rest) ≡ Some x
expected-stays tree n x older [] same tells = same
expected-stays tree n x older (event ∷ rest) same tells =
    expected-stays tree n x (event ◂ older) rest (stays-one tree n x event older same (tells [] event rest refl))
    (λ middle later last parts. tells (event ∷ middle) later last (ap (λ (xs : List Event). event ∷ xs) parts))
