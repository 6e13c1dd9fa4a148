-- Where all reads of a first part of a trace are faithful.
use Rattle.std.proofs.Common.{◌≡◌, ℕ, Bool, true, false, cond, ◌||◌, List, [], ◌∷◌, ◌++◌, Option, refl, sym, ◌∙◌}
use Rattle.std.specs.Prelude.{IsTrue, option_to_list}
use Rattle.std.specs.Bool.{OnTrue}
use Rattle.std.specs.List.{list_any}
use Rattle.aegis_num.specs.declared.Place.{Place}
use Rattle.aegis_num.specs.declared.Place.TheVariants.{Tree, Log}
use Rattle.off_chip.specs.declared.Event.{Event}
use Rattle.off_chip.specs.declared.Event.TheVariants.{BlockRead, BlockWrite, WordRead, WordWrite, Note}
use Rattle.off_chip.specs.declared.Mark.TheVariants.{Sent}
use Rattle.off_chip.specs.Histories.{History, no_event, ◌◂◌, Each, followed, until}
use Rattle.off_chip.specs.FaithfulReads.{AllFaithful, is_faithful, is_log_read, is_tree_read}
use Rattle.off_chip.specs.Epochs.{IsQuiet, SentInQuiet, is_passed, log_read, open_reads}
use Rattle.off_chip.proofs.HistoryLemmas.{Each-both, Each-older, Each-weaker}
use Rattle.off_chip.proofs.MoreLemmas.{open_reads-more}
use Rattle.ideal_trace.specs.CutBack.{CutsBack, IsChecked}

module _ (image : Place → Option (List ℕ)) where
  abbrev TreeRead : Event → History → Type 0
  TreeRead event older = OnTrue (is_tree_read event) (IsTrue (is_faithful image event older))

  abbrev LogRead : Event → History → Type 0
  LogRead event older = OnTrue (is_log_read event) (IsTrue (is_faithful image event older))

  each-faithful : (event : Event) (older : History) → TreeRead event older × LogRead event older → IsTrue (is_faithful image event older)
  each-faithful (BlockRead (Tree n) block) older both = both.0
  each-faithful (BlockRead (Log n) block) older both = both.1
  each-faithful (BlockWrite place block) older both = refl
  each-faithful (WordRead by at word) older both = refl
  each-faithful (WordWrite by at word) older both = refl
  each-faithful (Note mark) older both = refl

  all-faithful : (older : History) → Each TreeRead older → Each LogRead older → AllFaithful image older
  all-faithful older tree log = record {
    each = Each-weaker (λ event older. TreeRead event older × LogRead event older) (λ event older. IsTrue (is_faithful image event older)) each-faithful older (Each-both TreeRead LogRead older tree log);
  }

  -- what was before the latest passed check
  until-faithful : (older : History) → Each LogRead older → Each LogRead (until is_passed older)
  until-faithful no_event each = tt
  until-faithful (event ◂ older) each = by (is_passed event) (until-faithful older each.0)
    where
      by : (b : Bool) → Each LogRead (until is_passed older) → Each LogRead (cond b older (until is_passed older))
      by true rest = each.0
      by false rest = rest

  until-older : (older : History) (rest : List Event) → Each LogRead (until is_passed (followed older rest)) → Each LogRead (until is_passed older)
  until-older older [] each = each
  until-older older (event ∷ rest) each = by (is_passed event) (until-older (event ◂ older) rest each)
    where
      by : (b : Bool) → Each LogRead (cond b older (until is_passed older)) → Each LogRead (until is_passed older)
      by true all = until-faithful older all
      by false all = all

  passed-older : (older : History) (rest : List Event) → list_any is_passed rest ≡ true → Each LogRead (until is_passed (followed older rest)) → Each LogRead older
  passed-older older [] some each = absurd (cc)
  passed-older older (event ∷ rest) some each = by (is_passed event) refl some (until-older (event ◂ older) rest each) (λ later. passed-older (event ◂ older) rest later each)
    where
      by : (b : Bool) → is_passed event ≡ b → (b || list_any is_passed rest) ≡ true → Each LogRead (cond b older (until is_passed older))
          → (list_any is_passed rest ≡ true → Each LogRead (event ◂ older)) → Each LogRead older
      by true is any all later = all
      by false is any all later = (later any).0

  no-append : {X : Type 0} (xs ys : List X) → xs ++ ys ≡ [] → (xs ≡ []) × (ys ≡ [])
  no-append [] ys same = (refl, same)
  no-append (x ∷ xs) ys same = absurd (cc)

  unread : (event : Event) (older : History) → option_to_list (log_read event) ≡ [] → LogRead event older
  unread (BlockRead (Tree n) block) older none = tt
  unread (BlockRead (Log n) block) older none = absurd (cc)
  unread (BlockWrite place block) older none = tt
  unread (WordRead by at word) older none = tt
  unread (WordWrite by at word) older none = tt
  unread (Note mark) older none = tt

  passed-unread : (event : Event) (older : History) → is_passed event ≡ true → LogRead event older
  passed-unread (BlockRead place block) older passed = absurd (cc)
  passed-unread (BlockWrite place block) older passed = tt
  passed-unread (WordRead by at word) older passed = tt
  passed-unread (WordWrite by at word) older passed = tt
  passed-unread (Note mark) older passed = tt

  -- where the open epoch holds no log read
  quiet-faithful : (older : History) → open_reads older ≡ [] → Each LogRead (until is_passed older) → Each LogRead older
  quiet-faithful no_event quiet each = tt
  quiet-faithful (event ◂ older) quiet each = by (is_passed event) refl (sym (open_reads-more event older) ∙ quiet) each (quiet-faithful older)
    where
      by : (b : Bool) → is_passed event ≡ b → cond b [] (open_reads older ++ option_to_list (log_read event)) ≡ [] → Each LogRead (cond b older (until is_passed older))
          → (open_reads older ≡ [] → Each LogRead (until is_passed older) → Each LogRead older) → Each LogRead older × LogRead event older
      by true passed none all ih = (all, passed-unread event older passed)
      by false other none all ih =
          let parts = no-append (open_reads older) (option_to_list (log_read event)) none in
          (ih parts.0 all, unread event older parts.1)

  quiet-cut : (older : History) (rest : List Event) → IsChecked image (followed older rest) → IsQuiet older → AllFaithful image older
  quiet-cut older rest checked quiet =
      all-faithful older (Each-older TreeRead older rest checked.tree.each) (quiet-faithful older quiet.nothing (until-older older rest checked.ended.ended.each))

  passed-cut : (older : History) (rest : List Event) → IsChecked image (followed older rest) → list_any is_passed rest ≡ true → AllFaithful image older
  passed-cut older rest checked some = all-faithful older (Each-older TreeRead older rest checked.tree.each) (passed-older older rest some checked.ended.ended.each)

pub cuts-back : CutsBack
cuts-back = record {
  quiet = quiet-cut;
  passed = passed-cut;
  sent = λ image older n rest checked. quiet-cut image older (Note (Sent n) ∷ rest) checked (Each-older SentInQuiet (Note (Sent n) ◂ older) rest checked.waiting.each).1;
}
