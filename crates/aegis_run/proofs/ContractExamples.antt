-- Worked examples of causes, of what each command sends and of what notes take.
use Rattle.std.proofs.Common.{◌≡◌, ◌⊎◌, inl, inr, ℕ, true, false, List, [], ◌∷◌, Option, None, Some, refl, arith}
use Rattle.aegis_edge.specs.Folder.{Files, Asking, Asks}
use Rattle.aegis_words.specs.declared.file.File.TheVariants.{Source, Script, Input}
use Rattle.aegis_words.specs.declared.file.File.TheVariants as kinds
use Rattle.aegis_words.specs.CommandTable.{Command, step_after}
use Rattle.aegis_words.specs.CommandTable as asks
use Rattle.aegis_words.specs.FileReading.{ArePassed, Passes, steps_asked}
use Rattle.aegis_words.specs.FileSteps.{FileStep, askings_for}
use Rattle.aegis_words.specs.ListWordRow.{ListNames}
use Rattle.aegis_words.specs.MeanWordRow.{MeanNames}
use Rattle.aegis_words.specs.RunWordRow.{RunNames}
use Rattle.c_evaluator.specs.declared.mean_end.MeanEnd.TheVariants as mean
use Rattle.aegis_run.specs.declared.ends.End.TheVariants.{Ended, WriteFault as ByteLost}
use Rattle.aegis_run.specs.declared.ends.TopEnd.TheVariants.{Done, Run, Mean, Usage, Image, TooLong, NotYet, NoFile, ReadFault, WriteFault, OutOfMemory}
use Rattle.aegis_run.specs.Answers.{IsFailure, IsFileFault, IsRefusal, IsWriteFault, RisesWhere}
use Rattle.aegis_run.specs.Causes.{AreTold, Cause, CauseAt, CauseAtFile, IsAnswered, IsOwn, Serves}
use Rattle.aegis_run.specs.FilesRead.{IfList, IfMean, IfRun}
use Rattle.image_file.specs.declared.error.ImageError.TheVariants as errors
use Rattle.aegis_run.specs.ListCommand.{ListCommand, ServesList, StopsList}
use Rattle.aegis_run.specs.MeanCommand.{MeanCommand, ServesMean, StopsMean}
use Rattle.aegis_run.specs.Report.{Notes}
use Rattle.aegis_run.specs.RunCommand.{RunCommand, ServesRun, StopsRun}

abbrev run_names : RunNames
run_names = record { source = 1 ∷ []; script = 2 ∷ []; input = 3 ∷ []; fuel = 0; key = []; nonce = [] }

abbrev mean_names : MeanNames
mean_names = record { source = 1 ∷ []; input = 3 ∷ []; turns = 0 }

abbrev list_names : ListNames
list_names = record { image = 4 ∷ [] }

abbrev source : FileStep
source = record { file = Source; name = 1 ∷ [] }

abbrev script : FileStep
script = record { file = Script; name = 2 ∷ [] }

-- a folder without files, and one whose files each hold one byte
abbrev nothing : Files
nothing name = None

abbrev one_byte : Files
one_byte name = Some (7 ∷ [])

-- ---- what lets a command go on, and what stops it

empty_script : ServesRun Script []
empty_script = refl

held_script : ServesRun Script (7 ∷ []) → ⊥
held_script serves = cc

any_input : ServesRun Input (7 ∷ []) × ServesMean Input []
any_input = (tt, tt)

no_script : ServesMean Script [] → ⊥
no_script serves = serves

script_stops : StopsRun Script (7 ∷ []) (NotYet Script)
script_stops = λ same. cc

empty_stops : StopsRun Script [] (NotYet Script) → ⊥
empty_stops stops = stops refl

other_stop : StopsRun Script (7 ∷ []) (NotYet Source) → ⊥
other_stop stops = stops

mean_not_yet : StopsMean Source (7 ∷ []) (NotYet Source) → ⊥
mean_not_yet stops = stops

-- an empty file is short, a file of four other bytes has another magic number, and neither is an image
no_image : (ServesList kinds.Image [] → ⊥) × (ServesList kinds.Image (7 ∷ 7 ∷ 7 ∷ 7 ∷ []) → ⊥) × (ServesList Source [] → ⊥)
no_image = (λ serves. cc, λ serves. cc, λ serves. serves)

image_stops : StopsList kinds.Image [] (Image (errors.Short 0)) × StopsList kinds.Image (7 ∷ 7 ∷ 7 ∷ 7 ∷ []) (Image errors.Magic)
image_stops = (refl, refl)

other_fault : (StopsList kinds.Image (7 ∷ 7 ∷ 7 ∷ 7 ∷ []) (Image (errors.Short 4)) → ⊥) × (StopsList kinds.Image [] (Image errors.OutOfMemory) → ⊥)
    × (StopsList Source [] (Image (errors.Short 0)) → ⊥)
other_fault = (λ stops. cc, λ stops. stops, λ stops. stops)

list_own : IsOwn (asks.Listing list_names) Done × IsOwn (asks.Listing list_names) WriteFault × (IsOwn (asks.Listing list_names) (Mean mean.Ended) → ⊥) × (IsOwn (asks.Mean mean_names) Done → ⊥)
list_own = (tt, tt, λ own. own, λ own. own)

-- a folder without files has no listing; before a refusal nothing goes out
no_listing : ListCommand (Some nothing) list_names Done (Some []) (Some []) → ⊥
no_listing listed = let same : None ≡ Some listed.listing.text = listed.listing.has_text in cc

list_is_silent : ListCommand None list_names (Image errors.Magic) (Some (1 ∷ [])) (Some (1 ∷ [])) × IfList (Some (asks.Listing list_names)) (λ names. names.image ≡ 4 ∷ [])
list_is_silent = (refl, refl)

own : IsOwn (asks.Run run_names) (Run Ended) × IsOwn (asks.Run run_names) (Run ByteLost) × IsOwn (asks.Mean mean_names) (Mean mean.Turns) × IsOwn (asks.Mean mean_names) WriteFault
own = (tt, tt, tt, tt)

run_not_own : IsOwn (asks.Run run_names) WriteFault ⊎ IsOwn (asks.Run run_names) (Mean mean.Ended) ⊎ IsOwn (asks.Run run_names) Usage → ⊥
run_not_own (inl own) = own
run_not_own (inr (inl own)) = own
run_not_own (inr (inr own)) = own

mean_not_own : IsOwn (asks.Mean mean_names) (Run Ended) → ⊥
mean_not_own own = own

-- ---- causes at a file

missing : CauseAtFile (Some nothing) (asks.Run run_names) source 3 3 (NoFile Source)
missing = (refl, (refl, refl))

other_file : CauseAtFile (Some nothing) (asks.Run run_names) source 3 3 (NoFile Input) → ⊥
other_file cause = let same : Input ≡ Source = cause.0 in cc

counted : CauseAtFile (Some nothing) (asks.Run run_names) source 3 4 (NoFile Source) → ⊥
counted cause = absurd (omega (arith, cause.1.1))

present : CauseAtFile (Some one_byte) (asks.Run run_names) source 3 3 (NoFile Source) → ⊥
present cause = let same : one_byte (1 ∷ []) ≡ None = cause.1.0 in cc

not_too_long : CauseAtFile (Some one_byte) (asks.Run run_names) source 3 3 (TooLong Source) → ⊥
not_too_long cause = absurd (omega (arith, cause.1.0))

rose : CauseAtFile (Some nothing) (asks.Run run_names) source 3 4 ReadFault
rose = omega arith

stood_still : CauseAtFile (Some nothing) (asks.Run run_names) source 3 3 ReadFault → ⊥
stood_still cause = absurd (omega (arith, cause))

held : CauseAtFile (Some one_byte) (asks.Run run_names) script 3 3 (NotYet Script)
held = record { text = 7 ∷ []; read = record { whole = refl; within = omega arith }; fault = λ same. cc }

no_own_at_file : CauseAtFile (Some nothing) (asks.Run run_names) source 3 3 (Run Ended) → ⊥
no_own_at_file cause = cause

-- once all were read
after_all : CauseAt (Some nothing) (asks.Run run_names) None 3 3 (Run Ended) × CauseAt (Some nothing) (asks.Run run_names) None 3 3 OutOfMemory
after_all = (inl tt, inr refl)

-- ---- what was asked for

-- no text is passed in a folder without files
none_passed : (step : Option FileStep) (text : List ℕ) → Passes (Serves (asks.Run run_names)) (Some nothing) step text → ⊥
none_passed None text passes = passes
none_passed (Some step) text passes = let same : None ≡ Some text = passes.0.whole in cc

abbrev asking : Asking
asking = record { name = 1 ∷ []; faults = 0 }

asked_once : IsAnswered (Some nothing) (asks.Run run_names) 0 0 (Some []) (Some (asking ∷ [])) (NoFile Source)
asked_once = record { why = record { texts = []; passed = tt; cause = (refl, (refl, refl)) }; asked = refl }

asked_twice : IsAnswered (Some nothing) (asks.Run run_names) 0 0 (Some []) (Some (asking ∷ asking ∷ [])) (NoFile Source) → ⊥
asked_twice answered = go answered.why.texts answered.why.passed answered.asked
  where
    go : (texts : List (List ℕ)) → ArePassed (step_after (asks.Run run_names)) (Serves (asks.Run run_names)) (Some nothing) texts
        → Asks (Some []) (Some (asking ∷ asking ∷ [])) (askings_for 0 (steps_asked (step_after (asks.Run run_names)) texts)) → ⊥
    go [] passed asked = let same : asking ∷ asking ∷ [] ≡ asking ∷ [] = asked in cc
    go (text ∷ earlier) passed asked = none_passed (step_after (asks.Run run_names) earlier) text passed.1

-- words that are no command ask for nothing
no_command : Cause (Some nothing) None 0 0 (Some []) (Some []) Usage
no_command = (refl, refl)

no_command_asks : Cause (Some nothing) None 0 0 (Some []) (Some (asking ∷ [])) Usage → ⊥
no_command_asks cause = let same : Some (asking ∷ []) ≡ Some [] = cause.1 in cc

no_command_out : Cause (Some nothing) None 0 0 (Some []) (Some []) OutOfMemory → ⊥
no_command_out cause = let same : OutOfMemory ≡ Usage = cause.0 in cc

told : AreTold (Some nothing)
told = tt

untold : AreTold None → ⊥
untold told = told

-- ---- kinds of answers

refusals : IsRefusal (NoFile Source) × IsRefusal (TooLong Input) × IsRefusal (NotYet Script) × IsRefusal (Image errors.Magic) × (IsRefusal Done → ⊥)
refusals = (tt, tt, tt, tt, λ is. is)

no_refusals : IsRefusal Usage ⊎ IsRefusal ReadFault ⊎ IsRefusal OutOfMemory ⊎ IsRefusal (Run Ended) ⊎ IsRefusal WriteFault → ⊥
no_refusals (inl is) = is
no_refusals (inr (inl is)) = is
no_refusals (inr (inr (inl is))) = is
no_refusals (inr (inr (inr (inl is)))) = is
no_refusals (inr (inr (inr (inr is)))) = is

failures : IsFailure ReadFault × IsFailure OutOfMemory × (IsFailure WriteFault → ⊥) × (IsFailure (NoFile Source) → ⊥) × (IsFailure Usage → ⊥)
failures = (tt, tt, λ is. is, λ is. is, λ is. is)

file_faults : IsFileFault ReadFault × IsFileFault (NoFile Source) × IsFileFault (TooLong Source) × (IsFileFault OutOfMemory → ⊥) × (IsFileFault (NotYet Source) → ⊥)
file_faults = (tt, tt, tt, λ is. is, λ is. is)

write_faults : IsWriteFault (Run ByteLost) × IsWriteFault WriteFault × (IsWriteFault (Run Ended) → ⊥) × (IsWriteFault ReadFault → ⊥)
write_faults = (tt, tt, λ is. is, λ is. is)

rises : RisesWhere (IsWriteFault WriteFault) 3 4
rises = record { rose = λ fault. omega arith; steady = λ none. absurd (none tt) }

rises_without : RisesWhere (IsWriteFault Usage) 3 4 → ⊥
rises_without rises = let still : 4 ≡ 3 = rises.steady (λ fault. fault) in absurd (omega (arith, still))

stays_with : RisesWhere (IsWriteFault WriteFault) 3 3 → ⊥
stays_with rises = absurd (omega (arith, rises.rose tt))

-- ---- what goes out

run_is_silent : RunCommand None run_names (NotYet Script) (Some (1 ∷ [])) (Some (1 ∷ [])) × MeanCommand None mean_names (Run Ended) (Some []) (Some [])
run_is_silent = (refl, refl)

run_sends : RunCommand None run_names OutOfMemory (Some []) (Some (1 ∷ [])) → ⊥
run_sends sends = let same : Some (1 ∷ []) ≡ Some [] = sends in cc

no_run : IfRun (Some (asks.Mean mean_names)) (λ names. ⊥) × IfMean (Some (asks.Run run_names)) (λ names. ⊥) × IfRun None (λ names. ⊥) × IfMean None (λ names. ⊥)
no_run = (tt, tt, tt, tt)

a_run : IfRun (Some (asks.Run run_names)) (λ names. names.fuel ≡ 0) × IfMean (Some (asks.Mean mean_names)) (λ names. names.turns ≡ 0)
a_run = (refl, refl)

-- ---- what notes take

whole_line : Notes (Some (5 ∷ 6 ∷ [])) true (Some (4 ∷ [])) (Some (4 ∷ 5 ∷ 6 ∷ []))
whole_line = refl

front_of_line : Notes (Some (5 ∷ 6 ∷ [])) false (Some (4 ∷ [])) (Some (4 ∷ 5 ∷ []))
front_of_line = (1, refl)

no_line : Notes None true (Some (4 ∷ [])) (Some (4 ∷ []))
no_line = (refl, refl)

no_line_lost : Notes None false (Some (4 ∷ [])) (Some (4 ∷ [])) → ⊥
no_line_lost notes = let same : false ≡ true = notes.0 in cc

no_line_written : Notes None true (Some []) (Some (4 ∷ [])) → ⊥
no_line_written notes = let same : Some (4 ∷ []) ≡ Some [] = notes.1 in cc
