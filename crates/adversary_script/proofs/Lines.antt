-- The lines of a text, one by one, as the loop reads them.
use Rattle.std.proofs.Common.{◌≡◌, ◌≢◌, ℕ, ◌+◌, ◌<◌, Bool, false, List, [], ◌∷◌, length, take, drop, eqb, Result, Ok, Err, refl, sym, ap, ◌∙◌, arith}
use Rattle.std.specs.List.{slice_split, position_or_len}
use Rattle.std.specs.Str.Lines.{lines, lines_of_parts, strip_carriage_return}
use Rattle.std.proofs.lemmas.Bool.{cond-false}
use Rattle.std.proofs.lemmas.Bool.Decides.{nat_tests}
use Rattle.std.proofs.lemmas.List.Splits.{slice_split_none, slice_split_first, length-slice_split}
use Rattle.std.proofs.lemmas.List.Sums.{fails_before_first}
use Rattle.adversary_script.specs.declared.change.Change.{Change}
use Rattle.adversary_script.specs.declared.error.ScriptError.{ScriptError}
use Rattle.adversary_script.specs.declared.error.ScriptError.TheVariants as error
use Rattle.adversary_script.specs.declared.fault.Fault.{Fault}
use Rattle.adversary_script.specs.declared.fault.Fault.TheVariants.{Line, Number, Hex, Range, Order, TooMany, OutOfMemory}
use Rattle.adversary_script.specs.ScriptGrammar.{fault_at, read_line, after_line, changes_from}
use Rattle.adversary_script.specs.FormMeanings.{IsScriptFault}

-- a line feed
abbrev is_feed : ℕ → Bool
is_feed b = eqb b 10

-- a part before another ends at a line feed
pub lines_of_parts-more : (line : List ℕ) (parts : List (List ℕ)) → 0 < length parts → lines_of_parts (line ∷ parts) ≡ strip_carriage_return line ∷ lines_of_parts parts
lines_of_parts-more line [] some = absurd (omega arith)
lines_of_parts-more line (part ∷ parts) some = refl

-- a line with a line feed
pub lines_first : (text : List ℕ) → position_or_len is_feed text < length text
    → lines text ≡ strip_carriage_return (take (position_or_len is_feed text) text) ∷ lines (drop (position_or_len is_feed text + 1) text)
lines_first text found =
    let further = drop (position_or_len is_feed text + 1) text in
    ap lines_of_parts (slice_split_first is_feed text 0 found)
    ∙ lines_of_parts-more (take (position_or_len is_feed text) text) (slice_split is_feed further) (omega (arith, length-slice_split is_feed further))

-- the last line
pub lines_last : (text : List ℕ) → 0 < length text → position_or_len is_feed text ≡ length text → lines text ≡ text ∷ []
lines_last text some none =
    let no_feed = λ (k d : ℕ) (high : k < length text). fails_before_first is_feed text k d (omega (arith, none, high)) in
    let full : eqb (length text) 0 ≡ false = grind (arith, nat_tests) in
    ap lines_of_parts (slice_split_none is_feed text no_feed) ∙ cond-false (eqb (length text) 0) _ _ full

-- a fault that is told
fault_told : {X : Type 0} (fault : Fault) (n : ℕ) (outcome : Result X Fault) → IsScriptFault fault outcome → fault_at n fault ≢ error.OutOfMemory → outcome ≡ Err fault
fault_told Line n outcome is told = is
fault_told Number n outcome is told = is
fault_told Hex n outcome is told = is
fault_told Range n outcome is told = is
fault_told Order n outcome is told = is
fault_told TooMany n outcome is told = is
fault_told OutOfMemory n outcome is told = absurd (told refl)

module _ (n : ℕ) (before : List Change) (rest line further : List ℕ) (total : Result (List Change) ScriptError)
    (so_far : changes_from n before (lines rest) ≡ total) (first : lines rest ≡ line ∷ lines further) where
  -- the first line and those after it
  by_line : after_line n (λ changes. changes_from (n + 1) changes (lines further)) (read_line before line) ≡ total
  unfolding changes_from
  by_line = sym (ap (changes_from n before) first) ∙ so_far

  -- after a line that is read
  pub told_further : (changes : List Change) → read_line before line ≡ Ok changes → changes_from (n + 1) changes (lines further) ≡ total
  unfolding after_line
  told_further changes read = sym (ap (after_line n (λ changes. changes_from (n + 1) changes (lines further))) read) ∙ by_line

  -- at a line that is faulty
  pub told_fault : (fault : Fault) → IsScriptFault fault (read_line before line) → fault_at n fault ≢ error.OutOfMemory → total ≡ Err (fault_at n fault)
  unfolding after_line
  told_fault fault is told = sym by_line ∙ ap (after_line n (λ changes. changes_from (n + 1) changes (lines further))) (fault_told fault n (read_line before line) is told)

-- after the last line
pub told_end : (n : ℕ) (before : List Change) (rest : List ℕ) (total : Result (List Change) ScriptError) → changes_from n before (lines rest) ≡ total → length rest ≡ 0 → total ≡ Ok before
unfolding changes_from
told_end n before [] total so_far none = sym so_far
told_end n before (b ∷ rest) total so_far none = absurd (omega arith)
