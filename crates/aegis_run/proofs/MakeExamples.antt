-- Worked examples of `make`: its line, which answers are its own, what goes out, and where it is told.
use Rattle.std.proofs.Common.{◌≡◌, ◌⊎◌, inl, inr, true, false, [], ◌∷◌, None, Some, refl}
use Rattle.std.specs.Prelude.{codes}
use Rattle.std.specs.Fmt.{digits}
use Rattle.hex.specs.Hex.{encode_lower}
use Rattle.aegis_words.specs.declared.file.File.TheVariants.{Source}
use Rattle.aegis_words.specs.CommandTable as asks
use Rattle.aegis_words.specs.MakeWordRow.{MakeNames}
use Rattle.aegis_words.specs.MeanWordRow.{MeanNames}
use Rattle.c_evaluator.specs.declared.mean_end.MeanEnd.TheVariants as mean
use Rattle.region_plan.specs.declared.error.PlanError.TheVariants as plan
use Rattle.aegis_run.specs.declared.ends.End.TheVariants as run
use Rattle.aegis_run.specs.declared.ends.TopEnd.TheVariants.{Done, Run, Mean, Usage, Plan, NoFile, WriteFault, OutOfMemory}
use Rattle.aegis_run.specs.Causes.{CauseAt, IsOwn, Serves, Stops}
use Rattle.aegis_run.specs.FilesRead.{IfMake}
use Rattle.aegis_run.specs.MakeCommand.{IsMadeEnd, MakeCommand, end_word, hex_or_dash, summary_line}
use Rattle.aegis_run.specs.Report.{Notes, is_reported, line_where}

abbrev eight : MakeNames
eight = record { number = 8 }

abbrev mean_names : MeanNames
mean_names = record { source = 1 ∷ []; input = 3 ∷ []; turns = 0 }

-- ---- the line

no_bytes : hex_or_dash [] ≡ codes "-"
no_bytes = refl

some_bytes : hex_or_dash (0 ∷ 171 ∷ []) ≡ encode_lower (0 ∷ 171 ∷ [])
some_bytes = refl

line_of_none : summary_line 1 [] (end_word run.Ended) ≡ codes "make 1 bytes - end ended\n"
unfolding digits
line_of_none = refl

line_of_more : summary_line 48 [] (end_word (run.FuelOut 4194304)) ≡ codes "make 48 bytes - end fuel\n"
unfolding digits
line_of_more = refl

-- ---- its answers

own : IsOwn (asks.Make eight) (Run run.Ended) × IsOwn (asks.Make eight) (Run (run.FuelOut 4194304)) × IsOwn (asks.Make eight) WriteFault
own = (tt, tt, tt)

not_own : IsOwn (asks.Make eight) (Run (run.Index 3)) ⊎ IsOwn (asks.Make eight) (Run (run.Divide 3)) ⊎ IsOwn (asks.Make eight) (Run run.WriteFault) ⊎ IsOwn (asks.Make eight) Done
    ⊎ IsOwn (asks.Make eight) (Plan (plan.TreeFull 6562)) ⊎ IsOwn (asks.Make eight) (Mean mean.Ended) → ⊥
not_own (inl own) = own
not_own (inr (inl own)) = own
not_own (inr (inr (inl own))) = own
not_own (inr (inr (inr (inl own)))) = own
not_own (inr (inr (inr (inr (inl own))))) = own
not_own (inr (inr (inr (inr (inr own))))) = own

-- it reads no file, and answers at once
no_file : (Serves (asks.Make eight) Source [] → ⊥) × (Stops (asks.Make eight) Source [] Usage → ⊥) × CauseAt None (asks.Make eight) None 3 3 OutOfMemory × (CauseAt None (asks.Make eight) None 3 3 (NoFile Source) → ⊥)
no_file = (λ serves. serves, λ stops. stops, inr refl, no)
  where
    no : CauseAt None (asks.Make eight) None 3 3 (NoFile Source) → ⊥
    no (inl own) = own
    no (inr same) = cc

-- ---- what goes out

silent : MakeCommand eight OutOfMemory (Some (1 ∷ [])) (Some (1 ∷ []))
silent = refl

not_silent : MakeCommand eight OutOfMemory (Some []) (Some (1 ∷ [])) → ⊥
not_silent sends = let same : Some (1 ∷ []) ≡ Some [] = sends in cc

-- a front of a line ends as the run does: no trap is cut short
no_trap : IsMadeEnd (run.Index 3) ⊎ IsMadeEnd (run.Divide 3) ⊎ IsMadeEnd run.WriteFault → ⊥
no_trap (inl ends) = ends
no_trap (inr (inl ends)) = ends
no_trap (inr (inr ends)) = ends

of_make : IfMake (Some (asks.Make eight)) (λ names. names.number ≡ 8) × IfMake (Some (asks.Mean mean_names)) (λ names. ⊥) × IfMake None (λ names. ⊥)
of_make = (refl, tt, tt)

-- ---- what is told on the notes

told : (is_reported (Some (asks.Make eight)) (Run run.Ended) ≡ false) × (is_reported (Some (asks.Make eight)) (Run (run.FuelOut 5)) ≡ false) × (is_reported (Some (asks.Make eight)) WriteFault ≡ true)
    × (is_reported (Some (asks.Make eight)) OutOfMemory ≡ true) × (is_reported (Some (asks.Mean mean_names)) (Run run.Ended) ≡ true) × (is_reported None Usage ≡ true)
told = (refl, refl, refl, refl, refl, refl)

lines : (line_where false (Run run.Ended) 5 ≡ None) × (line_where true WriteFault 0 ≡ Some (codes "write fault\n")) × (line_where true Done 0 ≡ None)
lines = (refl, refl, refl)

no_line : Notes (line_where false (Run (run.FuelOut 5)) 5) true (Some (4 ∷ [])) (Some (4 ∷ []))
no_line = (refl, refl)

not_lost : Notes (line_where false (Run run.Ended) 5) false (Some []) (Some []) → ⊥
not_lost notes = let same : false ≡ true = notes.0 in cc
