-- What follows of faithful reads and of the faithful part.
use Rattle.std.proofs.Common.{◌≡◌, ℕ, suc, ◌≤◌, Bool, true, false, cond, eqb, List, [], ◌∷◌, ◌++◌, length, Option, Some, None, refl, sym, ap, ◌∙◌, subst, inl, inr, ◌⊎◌, arith}
use Rattle.std.specs.Prelude.{IsTrue, ◌↔◌}
use Rattle.std.specs.Bool.{Decides, OnTrue}
use Rattle.std.specs.Str.{bytes_eq}
use Rattle.std.proofs.lemmas.Bool.{eqb-true, eq-eqb, cases_Bool, and_parts, and_from, both_ways}
use Rattle.std.proofs.lemmas.List.{append_assoc}
use Rattle.std.proofs.lemmas.Slice.Eq.{bytes_eq-Decides}
use Rattle.aegis_num.specs.declared.storage.Block.{Block}
use Rattle.aegis_num.specs.declared.storage.Place.{Place}
use Rattle.aegis_num.specs.declared.storage.Place.TheVariants.{Tree, Log}
use Rattle.off_chip.specs.declared.event.Event.{Event}
use Rattle.off_chip.specs.declared.event.Event.TheVariants.{BlockRead}
use Rattle.off_chip.specs.Histories.{History, no_event, ◌◂◌, followed, history, Each}
use Rattle.off_chip.specs.WriteBacks.{last_write}
use Rattle.off_chip.specs.FaithfulReads.{is_payload, same_block, is_expected, is_faithful, AllFaithful, is_tree_read, TreeFaithful, is_log_read, LogFaithful, IsFaithfulRead, as_written, as_loaded, AllReadsFaithful, TreeReadsFaithful, LogReadsFaithful, SomeReadUnfaithful, faithful_from, faithful_part, IsFaithfulPart}
use Rattle.off_chip.proofs.HistoryLemmas.{followed-append, Each-older, Each-cut, cut-Each}
use Rattle.off_chip.proofs.WriteLemmas.{last_write-in_order, last_write-never}

abbrev Image : Type 0
Image = Place → Option (List ℕ)

pub same_block-Decides : (block other : Block) → Decides (same_block block other) (block ≡ other)
same_block-Decides block other = (
  λ same.
      let parts = and_parts (bytes_eq block.payload other.payload) (eqb block.stamp other.stamp) same in
      let p : block.payload ≡ other.payload = (bytes_eq-Decides block.payload other.payload).0 parts.0 in
      let s : block.stamp ≡ other.stamp = eqb-true block.stamp other.stamp parts.1 in
      ap (λ (xs : List ℕ). record { payload = xs; stamp = block.stamp }) p ∙ ap (λ (n : ℕ). record { payload = other.payload; stamp = n }) s,
  λ same. and_from (bytes_eq block.payload other.payload) (eqb block.stamp other.stamp)
      ((bytes_eq-Decides block.payload other.payload).1 (ap (λ (b : Block). b.payload) same))
      (eq-eqb block.stamp other.stamp (ap (λ (b : Block). b.stamp) same)),
)

payload-is : (payload : List ℕ) (found : Option (List ℕ)) → is_payload payload found ≡ true → found ≡ Some payload
payload-is payload None same = cc
payload-is payload (Some bytes) same = ap (λ (xs : List ℕ). Some xs) (sym ((bytes_eq-Decides payload bytes).0 same))

-- ---- one read, in order

faithful-by : (image : Image) (before : List Event) (place : Place) (block : Block) (o : Option Block) → last_write place (history before) ≡ o
    → is_expected (image place) block o ≡ true → IsFaithfulRead image before place block
faithful-by image before place block None found same = as_loaded ((last_write-never place before).0 found) (payload-is block.payload (image place) same)
faithful-by image before place block (Some written) found same =
    let e : block ≡ written = (same_block-Decides block written).0 same in
    as_written written ((last_write-in_order place before written).0 found) (ap (λ (b : Block). b.payload) e) (ap (λ (b : Block). b.stamp) e)

by-faithful : (image : Image) (before : List Event) (place : Place) (block : Block) → IsFaithfulRead image before place block
    → is_expected (image place) block (last_write place (history before)) ≡ true
by-faithful image before place block (as_written written last payload stamp) =
    ap (λ (o : Option Block). is_expected (image place) block o) ((last_write-in_order place before written).1 last)
    ∙ and_from (bytes_eq block.payload written.payload) (eqb block.stamp written.stamp)
    ((bytes_eq-Decides block.payload written.payload).1 payload) (eq-eqb block.stamp written.stamp stamp)
by-faithful image before place block (as_loaded never static) =
    ap (λ (o : Option Block). is_expected (image place) block o) ((last_write-never place before).1 never)
    ∙ ap (λ (o : Option (List ℕ)). is_payload block.payload o) static
    ∙ (bytes_eq-Decides block.payload block.payload).1 refl

pub is_faithful-Decides : (image : Image) (before : List Event) (place : Place) (block : Block)
    → Decides (is_faithful image (BlockRead place block) (history before)) (IsFaithfulRead image before place block)
is_faithful-Decides image before place block =
    (λ same. faithful-by image before place block (last_write place (history before)) refl same, by-faithful image before place block)

-- one read, where the last write-back is known
pub is_faithful-written : (image : Image) (place : Place) (block written : Block) (older : History) → last_write place older ≡ Some written
    → Decides (is_faithful image (BlockRead place block) older) (block ≡ written)
is_faithful-written image place block written older found =
    let e : is_faithful image (BlockRead place block) older ≡ same_block block written = ap (λ (o : Option Block). is_expected (image place) block o) found in
    (λ faithful. (same_block-Decides block written).0 (sym e ∙ faithful), λ same. e ∙ (same_block-Decides block written).1 same)

pub is_faithful-unwritten : (image : Image) (place : Place) (block : Block) (older : History) → last_write place older ≡ None
    → is_faithful image (BlockRead place block) older ≡ is_payload block.payload (image place)
is_faithful-unwritten image place block older found = ap (λ (o : Option Block). is_expected (image place) block o) found

-- ---- all reads, in order

pub AllFaithful-in_order : (image : Image) (trace : List Event) → AllFaithful image (history trace) ↔ AllReadsFaithful image trace
AllFaithful-in_order image trace = (
  λ all. record {
    each = λ before place block rest same. (is_faithful-Decides image before place block).0
        (Each-cut (λ event older. IsTrue (is_faithful image event older)) trace before (BlockRead place block) rest same all.each);
  },
  λ all. record { each = cut-Each (λ event older. IsTrue (is_faithful image event older)) trace (by all) },
)
  where
    by : AllReadsFaithful image trace → (before : List Event) (event : Event) (rest : List Event) → trace ≡ before ++ event ∷ rest → IsTrue (is_faithful image event (history before))
    by all before (BlockRead place block) rest same = (is_faithful-Decides image before place block).1 (all.each before place block rest same)
    by all before event rest same = refl

pub TreeFaithful-in_order : (image : Image) (trace : List Event) → TreeFaithful image (history trace) ↔ TreeReadsFaithful image trace
TreeFaithful-in_order image trace = (
  λ all. record {
    each = λ before n block rest same. (is_faithful-Decides image before (Tree n) block).0
        (Each-cut (λ event older. OnTrue (is_tree_read event) (IsTrue (is_faithful image event older))) trace before (BlockRead (Tree n) block) rest same all.each);
  },
  λ all. record { each = cut-Each (λ event older. OnTrue (is_tree_read event) (IsTrue (is_faithful image event older))) trace (by all) },
)
  where
    by : TreeReadsFaithful image trace → (before : List Event) (event : Event) (rest : List Event) → trace ≡ before ++ event ∷ rest
        → OnTrue (is_tree_read event) (IsTrue (is_faithful image event (history before)))
    by all before (BlockRead (Tree n) block) rest same = (is_faithful-Decides image before (Tree n) block).1 (all.each before n block rest same)
    by all before event rest same = tt

pub LogFaithful-in_order : (image : Image) (trace : List Event) → LogFaithful image (history trace) ↔ LogReadsFaithful image trace
LogFaithful-in_order image trace = (
  λ all. record {
    each = λ before n block rest same. (is_faithful-Decides image before (Log n) block).0
        (Each-cut (λ event older. OnTrue (is_log_read event) (IsTrue (is_faithful image event older))) trace before (BlockRead (Log n) block) rest same all.each);
  },
  λ all. record { each = cut-Each (λ event older. OnTrue (is_log_read event) (IsTrue (is_faithful image event older))) trace (by all) },
)
  where
    by : LogReadsFaithful image trace → (before : List Event) (event : Event) (rest : List Event) → trace ≡ before ++ event ∷ rest
        → OnTrue (is_log_read event) (IsTrue (is_faithful image event (history before)))
    by all before (BlockRead (Log n) block) rest same = (is_faithful-Decides image before (Log n) block).1 (all.each before n block rest same)
    by all before event rest same = tt

-- all reads are faithful where those of the tree and those of the log are
pub faithful-both : (image : Image) (trace : List Event) → AllReadsFaithful image trace ↔ (TreeReadsFaithful image trace × LogReadsFaithful image trace)
faithful-both image trace = (
  λ all. (record { each = λ before n block rest same. all.each before (Tree n) block rest same }, record { each = λ before n block rest same. all.each before (Log n) block rest same }),
  λ both. record { each = λ before place block rest same. by both.0 both.1 before place block rest same },
)
  where
    by : TreeReadsFaithful image trace → LogReadsFaithful image trace → (before : List Event) (place : Place) (block : Block) (rest : List Event)
        → trace ≡ before ++ BlockRead place block ∷ rest → IsFaithfulRead image before place block
    by tree log before (Tree n) block rest same = tree.each before n block rest same
    by tree log before (Log n) block rest same = log.each before n block rest same

-- ---- the faithful part

from-true : (image : Image) (older : History) (event : Event) (rest : List Event) → is_faithful image event older ≡ true
    → faithful_from image older (event ∷ rest) ≡ event ∷ faithful_from image (event ◂ older) rest
from-true image older event rest same = ap (λ (b : Bool). cond b (event ∷ faithful_from image (event ◂ older) rest) []) same

from-false : (image : Image) (older : History) (event : Event) (rest : List Event) → is_faithful image event older ≡ false → faithful_from image older (event ∷ rest) ≡ []
from-false image older event rest same = ap (λ (b : Bool). cond b (event ∷ faithful_from image (event ◂ older) rest) []) same

from-front : (image : Image) (rest : List Event) (older : History) → (more : List Event) × (rest ≡ faithful_from image older rest ++ more)
from-front image [] older = ([], refl)
from-front image (event ∷ rest) older =
    let ih = from-front image rest (event ◂ older) in
    elim (cases_Bool (is_faithful image event older)) [
      | inl holds ↦ (ih.0, ap (λ (xs : List Event). event ∷ xs) ih.1 ∙ ap (λ (xs : List Event). xs ++ ih.0) (sym (from-true image older event rest holds)))
      | inr fails ↦ (event ∷ rest, ap (λ (xs : List Event). xs ++ event ∷ rest) (sym (from-false image older event rest fails)))
    ]

abbrev Faithful : Image → History → Type 0
Faithful image older = Each (λ event older. IsTrue (is_faithful image event older)) older

from-faithful : (image : Image) (rest : List Event) (older : History) → Faithful image older → Faithful image (followed older (faithful_from image older rest))
from-faithful image [] older all = all
from-faithful image (event ∷ rest) older all =
    elim (cases_Bool (is_faithful image event older)) [
      | inl holds ↦ subst (λ (xs : List Event). Faithful image (followed older xs)) (sym (from-true image older event rest holds))
          (from-faithful image rest (event ◂ older) (all, holds))
      | inr fails ↦ subst (λ (xs : List Event). Faithful image (followed older xs)) (sym (from-false image older event rest fails)) all
    ]

from-longest : (image : Image) (other more : List Event) (older : History) → Faithful image (followed older other) → length other ≤ length (faithful_from image older (other ++ more))
from-longest image [] more older all = omega arith
from-longest image (event ∷ other) more older all =
    let here : Faithful image (event ◂ older) = Each-older (λ event older. IsTrue (is_faithful image event older)) (event ◂ older) other all in
    let e : length (faithful_from image older (event ∷ other ++ more)) ≡ suc (length (faithful_from image (event ◂ older) (other ++ more))) =
    ap (λ (xs : List Event). length xs) (from-true image older event (other ++ more) here.1) in
    omega (arith, e, from-longest image other more (event ◂ older) all)

pub faithful_part-is : (image : Image) (trace : List Event) → IsFaithfulPart image trace (faithful_part image trace)
faithful_part-is image trace =
    let front = from-front image trace no_event in
    record {
      rest = front.0;
      parts = front.1;
      faithful = (AllFaithful-in_order image (faithful_part image trace)).0 (record { each = from-faithful image trace no_event tt });
      longest = λ other more same all. subst (λ (t : List Event). length other ≤ length (faithful_from image no_event t)) (sym same)
          (from-longest image other more no_event ((AllFaithful-in_order image other).1 all).each);
    }

-- a first part of a trace lies in its faithful part exactly where all in it is faithful
shorter-front : (a b c d : List Event) → a ++ b ≡ c ++ d → length a ≤ length c → (more : List Event) × (c ≡ a ++ more)
shorter-front [] b c d same short = (c, refl)
shorter-front (x ∷ a) b [] d same short = let h : suc (length a) ≤ 0 = short in let no_such : ⊥ = omega (arith, h) in absurd no_such
shorter-front (x ∷ a) b (y ∷ c) d same short =
    let head : x ≡ y = cc in
    let tail : a ++ b ≡ c ++ d = cc in let less : length a ≤ length c = omega (arith, short) in
    let rest = shorter-front a b c d tail less in
    (rest.0, ap (λ (xs : List Event). y ∷ xs) rest.1 ∙ ap (λ (e : Event). e ∷ (a ++ rest.0)) (sym head))

-- all in a first part is faithful where all is
pub faithful-front : (image : Image) (trace front more : List Event) → trace ≡ front ++ more → AllReadsFaithful image trace → AllReadsFaithful image front
faithful-front image trace front more parts all = record {
  each = λ before place block rest same. all.each before place block (rest ++ more)
      (parts ∙ ap (λ (xs : List Event). xs ++ more) same ∙ append_assoc before (BlockRead place block ∷ rest) more);
}

pub in_faithful_part : (image : Image) (before rest : List Event)
    → AllReadsFaithful image before ↔ (length before ≤ length (faithful_part image (before ++ rest)))
in_faithful_part image before rest =
    let part = faithful_part-is image (before ++ rest) in (
      λ all. part.longest before rest refl all,
      λ short.
          let more = shorter-front before rest (faithful_part image (before ++ rest)) part.rest part.parts short in
          faithful-front image (faithful_part image (before ++ rest)) before more.0 more.1 part.faithful,
    )

-- ---- all reads are faithful, or one is not

cases-from : (image : Image) (before rest : List Event) → Faithful image (history before) → Faithful image (followed (history before) rest)
    ⊎ SomeReadUnfaithful image (before ++ rest)
cases-from image before [] all = inl all
cases-from image before (event ∷ rest) all =
    elim (cases_Bool (is_faithful image event (history before))) [
      | inl holds ↦
          let pushed : history (before ++ event ∷ []) ≡ event ◂ history before = followed-append no_event before (event ∷ []) in
          let regroup : (before ++ event ∷ []) ++ rest ≡ before ++ event ∷ rest = append_assoc before (event ∷ []) rest in
          elim (cases-from image (before ++ event ∷ []) rest (subst (λ (h : History). Faithful image h) (sym pushed) (all, holds))) [
            | inl faithful ↦ inl (subst (λ (h : History). Faithful image (followed h rest)) pushed faithful)
            | inr some ↦ inr (subst (λ (t : List Event). SomeReadUnfaithful image t) regroup some)
          ]
      | inr fails ↦ inr (by event fails)
    ]
  where
    by : (event : Event) → is_faithful image event (history before) ≡ false → SomeReadUnfaithful image (before ++ event ∷ rest)
    by (BlockRead place block) fails = record {
      before = before;
      place = place;
      block = block;
      rest = rest;
      parts = refl;
      unfaithful = λ faithful. both_ways (is_faithful image (BlockRead place block) (history before)) fails ((is_faithful-Decides image before place block).1 faithful);
    }
    by event fails = cc

pub faithful-cases : (image : Image) (trace : List Event) → AllReadsFaithful image trace ⊎ SomeReadUnfaithful image trace
faithful-cases image trace =
    elim (cases-from image [] trace tt) [ inl all ↦ inl ((AllFaithful-in_order image trace).0 (record { each = all })) | inr some ↦ inr some ]
