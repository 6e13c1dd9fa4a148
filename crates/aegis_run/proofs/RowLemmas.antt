-- What is known of the command that words are, by the row of the table that they are of.
use Rattle.std.proofs.Common.{◌≡◌, true, false, ℕ, List, [], ◌∷◌, Option, None, Some, sym, subst, ⊎_elim}
use Rattle.std.specs.Prelude.{codes, IfSome}
use Rattle.std.specs.Option.{option_map}
use Rattle.std.specs.Str.{bytes_eq}
use Rattle.std.proofs.lemmas.Bool.{cases_Bool, cond-false}
use Rattle.std.proofs.lemmas.Slice.Eq.{bytes_eq-Decides}
use Rattle.aegis_words.specs.BuildWordRow.{BuildNames, build_row}
use Rattle.aegis_words.specs.CommandTable.{Command, command_or, first_fitting, rows}
use Rattle.aegis_words.specs.CommandTable as asks
use Rattle.aegis_words.specs.ListWordRow.{ListNames, list_row}
use Rattle.aegis_words.specs.MakeWordRow.{MakeNames, make_names, make_row}
use Rattle.aegis_words.specs.MeanWordRow.{MeanNames, mean_row}
use Rattle.aegis_words.specs.NumberWords.{count_in}
use Rattle.aegis_words.specs.RunWordRow.{RunNames, run_row}
use Rattle.aegis_run.specs.FilesRead.{IfBuild, IfList, IfMake, IfMean, IfRun}

pub of_run_row : (words : List (List ℕ)) (P : RunNames → Type 0) → IfRun (first_fitting rows words) P → IfSome (run_row words) P
of_run_row words P told = go (run_row words) _ told
  where
    go : (o : Option RunNames) (other : Option Command) → IfRun (command_or (option_map asks.Run o) other) P → IfSome o P
    go None other told = tt
    go (Some names) other told = told

pub of_mean_row : (words : List (List ℕ)) (P : MeanNames → Type 0) → IfMean (first_fitting rows words) P → IfSome (mean_row words) P
of_mean_row (command ∷ source ∷ input ∷ turns ∷ []) P told = go (mean_row (command ∷ source ∷ input ∷ turns ∷ [])) _ told
  where
    go : (o : Option MeanNames) (other : Option Command) → IfMean (command_or (option_map asks.Mean o) other) P → IfSome o P
    go None other told = tt
    go (Some names) other told = told
of_mean_row words P told = tt

pub of_build_row : (words : List (List ℕ)) (P : BuildNames → Type 0) → IfBuild (first_fitting rows words) P → IfSome (build_row words) P
of_build_row (command ∷ source ∷ []) P told = go (build_row (command ∷ source ∷ [])) _ told
  where
    go : (o : Option BuildNames) (other : Option Command) → IfBuild (command_or (option_map asks.Build o) other) P → IfSome o P
    go None other told = tt
    go (Some names) other told = told
of_build_row words P told = tt

pub of_list_row : (words : List (List ℕ)) (P : ListNames → Type 0) → IfList (first_fitting rows words) P → IfSome (list_row words) P
of_list_row (command ∷ image ∷ []) P told =
    ⊎_elim
    (λ (same : bytes_eq command (codes "list") ≡ true).
    let word : command ≡ codes "list" = (bytes_eq-Decides command (codes "list")).0 same in
    let Q : List ℕ → Type 0 = λ command. IfList (first_fitting rows (command ∷ image ∷ [])) P → IfSome (list_row (command ∷ image ∷ [])) P in
    subst Q (sym word) (λ told. told) told)
    (λ (other : bytes_eq command (codes "list") ≡ false).
    let Q : Option ListNames → Type 0 = λ row. IfSome row P in
    subst Q (sym (cond-false (bytes_eq command (codes "list")) (Some (record { image = image })) None other)) tt)
    (cases_Bool (bytes_eq command (codes "list")))
of_list_row words P told = tt

pub of_make_row : (words : List (List ℕ)) (P : MakeNames → Type 0) → IfMake (first_fitting rows words) P → IfSome (make_row words) P
of_make_row (command ∷ number ∷ []) P told =
    ⊎_elim
    (λ (same : bytes_eq command (codes "make") ≡ true).
    let word : command ≡ codes "make" = (bytes_eq-Decides command (codes "make")).0 same in
    let Q : List ℕ → Type 0 = λ command. IfMake (first_fitting rows (command ∷ number ∷ [])) P → IfSome (make_row (command ∷ number ∷ [])) P in
    subst Q (sym word) (go (make_names (count_in number))) told)
    (λ (other : bytes_eq command (codes "make") ≡ false).
    let Q : Option MakeNames → Type 0 = λ row. IfSome row P in
    subst Q (sym (cond-false (bytes_eq command (codes "make")) (make_names (count_in number)) None other)) tt)
    (cases_Bool (bytes_eq command (codes "make")))
  where
    go : (o : Option MakeNames) → IfMake (command_or (option_map asks.Make o) None) P → IfSome o P
    go None told = tt
    go (Some names) told = told
of_make_row words P told = tt
