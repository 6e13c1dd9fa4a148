-- The events of a load, for a block whose line does not leave.
use Rattle.std.proofs.Common.{◌≡◌, ◌≢◌, ℕ, Bool, true, false, cond, eqb, ◌||◌, List, [], ◌∷◌, Option, Some, None, refl, sym, ap, ◌∙◌, subst, inl, inr}
use Rattle.std.specs.Prelude.{is_some, filter_map, Contains}
use Rattle.std.specs.List.{All, list_any, cons_option}
use Rattle.std.proofs.lemmas.Bool.{cases_eq, ne_eqb}
use Rattle.std.proofs.lemmas.List.Elements.{All-head, All-tail}
use Rattle.aegis_num.specs.declared.Block.{Block}
use Rattle.aegis_num.specs.declared.Place.TheVariants.{Tree}
use Rattle.off_chip.specs.declared.Event.{Event}
use Rattle.off_chip.specs.declared.Event.TheVariants.{BlockRead}
use Rattle.off_chip.specs.BlockPlaces.{named_place}
use Rattle.off_chip.specs.Histories.{History, ◌◂◌, followed}
use Rattle.off_chip.specs.Residency.{is_resident}
use Rattle.off_chip.specs.WriteBacks.{last_write, written_at}
use Rattle.off_chip.proofs.HistoryLemmas.{newest-untold}
use Rattle.off_chip.proofs.ResidencyLemmas.{is_resident-elsewhere, is_resident-tree_read}
use Rattle.off_chip.proofs.WriteLemmas.{same_place-apart}
use Rattle.hash_tree.specs.Standing.{State}
use Rattle.hash_tree.specs.TreeSteps.{IsMove, read, removal, IsRemoval, write, dropped, block_read}

-- an event that reads some block, or by which the line of another block left
pub data MoveFor (n : ℕ) (event : Event) : Type 0 where
  reads_one : (m : ℕ) (block : Block) → event ≡ BlockRead (Tree m) block → MoveFor n event
  leaves_other : (m : ℕ) → IsRemoval m event → m ≢ n → MoveFor n event

none-some : {X : Type 0} (o : Option X) → o ≡ None → is_some o ≡ true → ⊥
none-some o none held = let e : true ≡ false = sym held ∙ ap (λ (o : Option _). is_some o) none in cc

-- of a pinned block, and of one that has a line afterwards
pub move-pinned : (pinned : List ℕ) (old new : State) (n : ℕ) (event : Event) → Contains pinned n → IsMove pinned old new event → MoveFor n event
move-pinned pinned old new n event pin (read m block same inside) = reads_one m block same
move-pinned pinned old new n event pin (removal m is free held gone) = leaves_other m is (λ here. free (subst (λ (k : ℕ). Contains pinned k) (sym here) pin))

pub move-held : (pinned : List ℕ) (old new : State) (n : ℕ) (event : Event) → is_some (new.lines n) ≡ true → IsMove pinned old new event → MoveFor n event
move-held pinned old new n event stays (read m block same inside) = reads_one m block same
move-held pinned old new n event stays (removal m is free held gone) =
    leaves_other m is (λ here. none-some (new.lines n) (ap (λ (k : ℕ). new.lines k) (sym here) ∙ gone) stays)

tree-apart : (n m : ℕ) → m ≢ n → Tree n ≢ Tree m
tree-apart n m apart same = apart cc

named-apart : (n m : ℕ) → m ≢ n → Some (Tree m) ≢ Some (Tree n)
named-apart n m apart same = apart cc

pub removal-named : (m : ℕ) (event : Event) → IsRemoval m event → named_place event ≡ Some (Tree m)
removal-named m event (write block same) = ap (λ (e : Event). named_place e) same
removal-named m event (dropped same) = ap (λ (e : Event). named_place e) same

-- it does not write the block
pub unwritten : (n : ℕ) (event : Event) → MoveFor n event → written_at (Tree n) event ≡ None
unwritten n event (reads_one m block same) = ap (λ (e : Event). written_at (Tree n) e) same
unwritten n event (leaves_other m (write block same) apart) =
    ap (λ (e : Event). written_at (Tree n) e) same ∙ ap (λ (b : Bool). cond b (Some block) None) (same_place-apart (Tree n) (Tree m) (tree-apart n m apart))
unwritten n event (leaves_other m (dropped same) apart) = ap (λ (e : Event). written_at (Tree n) e) same

pub last_write-through : (n : ℕ) (older : History) (rest : List Event) → All (MoveFor n) rest → last_write (Tree n) (followed older rest) ≡ last_write (Tree n) older
last_write-through n older [] all = refl
last_write-through n older (event ∷ rest) all =
    last_write-through n (event ◂ older) rest (All-tail (MoveFor n) event rest all)
    ∙ newest-untold (λ event _. written_at (Tree n) event) event older (unwritten n event (All-head (MoveFor n) event rest all))

-- a block that is resident stays so
still-resident : (n : ℕ) (event : Event) (older : History) → MoveFor n event → is_resident (Tree n) older ≡ true → is_resident (Tree n) (event ◂ older) ≡ true
still-resident n event older (reads_one m block same) resident =
    elim (cases_eq m n) [
      | inl here ↦
          ap (λ (e : Event). is_resident (Tree n) (e ◂ older)) (same ∙ ap (λ (k : ℕ). BlockRead (Tree k) block) here) ∙ is_resident-tree_read n block older
      | inr apart ↦
          ap (λ (e : Event). is_resident (Tree n) (e ◂ older)) same
          ∙ is_resident-elsewhere (Tree n) (BlockRead (Tree m) block) older (named-apart n m apart) ∙ resident
    ]
still-resident n event older (leaves_other m is apart) resident =
    is_resident-elsewhere (Tree n) event older (λ same. named-apart n m apart (sym (removal-named m event is) ∙ same)) ∙ resident

pub resident-through : (n : ℕ) (older : History) (rest : List Event) → All (MoveFor n) rest → is_resident (Tree n) older ≡ true → is_resident (Tree n) (followed older rest) ≡ true
resident-through n older [] all resident = resident
resident-through n older (event ∷ rest) all resident =
    resident-through n (event ◂ older) rest (All-tail (MoveFor n) event rest all) (still-resident n event older (All-head (MoveFor n) event rest all) resident)

-- and one that is read is resident then
removal-reads_none : (m : ℕ) (event : Event) → IsRemoval m event → block_read event ≡ None
removal-reads_none m event (write block same) = ap (λ (e : Event). block_read e) same
removal-reads_none m event (dropped same) = ap (λ (e : Event). block_read e) same

abbrev pub is_among : ℕ → List ℕ → Bool
is_among n ns = list_any (λ m. eqb m n) ns

among-rest : (n m : ℕ) (ns : List ℕ) → m ≢ n → is_among n (m ∷ ns) ≡ true → is_among n ns ≡ true
among-rest n m ns apart is = ap (λ (b : Bool). b || is_among n ns) (sym (ne_eqb m n apart)) ∙ is

pub resident-read : (n : ℕ) (older : History) (rest : List Event) → All (MoveFor n) rest → is_among n (filter_map block_read rest) ≡ true → is_resident (Tree n) (followed older rest) ≡ true
resident-read n older [] all is = cc
resident-read n older (event ∷ rest) all is = by (All-head (MoveFor n) event rest all) (λ (later : is_among n (filter_map block_read rest) ≡ true).
    resident-read n (event ◂ older) rest (All-tail (MoveFor n) event rest all) later)
  where
    by : MoveFor n event → (is_among n (filter_map block_read rest) ≡ true → is_resident (Tree n) (followed (event ◂ older) rest) ≡ true) → is_resident (Tree n) (followed (event ◂ older) rest) ≡ true
    by (reads_one m block same) later =
        elim (cases_eq m n) [
          | inl here ↦ resident-through n (event ◂ older) rest (All-tail (MoveFor n) event rest all)
              (ap (λ (e : Event). is_resident (Tree n) (e ◂ older)) (same ∙ ap (λ (k : ℕ). BlockRead (Tree k) block) here) ∙ is_resident-tree_read n block older)
          | inr apart ↦ later (among-rest n m (filter_map block_read rest) apart
              (ap (λ (o : Option ℕ). is_among n (cons_option o (filter_map block_read rest))) (sym (ap (λ (e : Event). block_read e) same)) ∙ is))
        ]
    by (leaves_other m other apart) later =
        later (ap (λ (o : Option ℕ). is_among n (cons_option o (filter_map block_read rest))) (sym (removal-reads_none m event other)) ∙ is)

-- what a load reads is pinned
pub among-pinned : (pinned : List ℕ) (old new : State) (n : ℕ) (rest : List Event) → All (IsMove pinned old new) rest → is_among n (filter_map block_read rest) ≡ true → Contains pinned n
among-pinned pinned old new n [] all is = cc
among-pinned pinned old new n (event ∷ rest) all is = by (All-head (IsMove pinned old new) event rest all)
    (λ (later : is_among n (filter_map block_read rest) ≡ true). among-pinned pinned old new n rest (All-tail (IsMove pinned old new) event rest all) later)
  where
    by : IsMove pinned old new event → (is_among n (filter_map block_read rest) ≡ true → Contains pinned n) → Contains pinned n
    by (read m block same inside) later =
        elim (cases_eq m n) [
          | inl here ↦ subst (λ (k : ℕ). Contains pinned k) here inside
          | inr apart ↦ later (among-rest n m (filter_map block_read rest) apart
              (ap (λ (o : Option ℕ). is_among n (cons_option o (filter_map block_read rest))) (sym (ap (λ (e : Event). block_read e) same)) ∙ is))
        ]
    by (removal m other free held gone) later =
        later (ap (λ (o : Option ℕ). is_among n (cons_option o (filter_map block_read rest))) (sym (removal-reads_none m event other)) ∙ is)
