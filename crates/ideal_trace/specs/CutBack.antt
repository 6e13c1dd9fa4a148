-- Promise: how far a trace is faithful of which the tree's reads are, and each log read that a passed check has covered.
use Rattle.std.specs.Prelude.{◌≡◌, ℕ, true, List, ◌∷◌, Option}
use Rattle.std.specs.List.{list_any}
use Rattle.aegis_num.specs.declared.Place.{Place}
use Rattle.off_chip.specs.declared.Event.{Event}
use Rattle.off_chip.specs.declared.Event.TheVariants.{Note}
use Rattle.off_chip.specs.declared.Mark.TheVariants.{Sent}
use Rattle.off_chip.specs.Histories.{History, followed}
use Rattle.off_chip.specs.FaithfulReads.{AllFaithful, TreeFaithful}
use Rattle.off_chip.specs.Epochs.{AllSentInQuiet, EndedFaithful, IsQuiet, is_passed}

-- each read of a tree block is faithful, and each log read before the latest passed check; and bytes are sent in quiet epochs only
pub record IsChecked (image : Place → Option (List ℕ)) (older : History) : Type 0 where
  pub tree : TreeFaithful image older
  pub ended : EndedFaithful image older
  pub waiting : AllSentInQuiet older

-- For each way to cut such a trace in two, all reads of the first part are faithful
pub record CutsBack : Type 0 where
  -- where its open epoch holds no log read,
  pub quiet : (image : Place → Option (List ℕ)) (older : History) (rest : List Event) → IsChecked image (followed older rest) → IsQuiet older → AllFaithful image older
  -- where a check passed after it,
  pub passed : (image : Place → Option (List ℕ)) (older : History) (rest : List Event) → IsChecked image (followed older rest) → list_any is_passed rest ≡ true → AllFaithful image older
  -- and where bytes are sent next
  pub sent : (image : Place → Option (List ℕ)) (older : History) (n : ℕ) (rest : List Event) → IsChecked image (followed older (Note (Sent n) ∷ rest)) → AllFaithful image older
