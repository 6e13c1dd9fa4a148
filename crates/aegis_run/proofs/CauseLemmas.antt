-- A command halts in one place: where a folder tells its files, there is cause for one answer, failures aside.
use Rattle.std.specs.Prelude.{◌↔◌, IfSome}
use Rattle.std.proofs.Common.{◌≡◌, ◌⊎◌, Bool, inl, inr, ⊎_elim, ℕ, List, Option, None, Some, refl, sym, ◌∙◌, ap, subst}
use Rattle.aegis_edge.specs.Folder.{Files, Asking, IsMissing, IsTooLong}
use Rattle.c_grammar.specs.declared.item.Program.{Program}
use Rattle.aegis_words.specs.declared.file.File.{File}
use Rattle.aegis_words.specs.declared.file.File.TheVariants as kinds
use Rattle.aegis_words.specs.declared.file.File.TheVariants.{Source, Script, Input}
use Rattle.aegis_words.specs.CommandTable.{Command, step_after}
use Rattle.aegis_words.specs.CommandTable as asks
use Rattle.aegis_words.specs.FileReading.{HasText, Passes}
use Rattle.aegis_words.specs.FileSteps.{FileStep, limit_for}
use Rattle.aegis_words.proofs.FileReadingLemmas.{text_once, text_missing, text_too_long, missing_too_long, one_place}
use Rattle.aegis_run.specs.declared.ends.TopEnd.{TopEnd}
use Rattle.aegis_run.specs.declared.ends.TopEnd.TheVariants.{Run, Mean, Done, Usage, TooLong, Token, Syntax, Typing, Plan, Image, NotYet, NoFile, ReadFault, WriteFault, OutOfMemory}
use Rattle.aegis_run.specs.Answers.{IsRefusal, IsFailure}
use Rattle.aegis_run.specs.Causes.{AreTold, Cause, Serves, Stops, IsOwn, Completes, CauseAt, CauseAtFile, HasCause, IsStoppedByText, RefusesWhere}
use Rattle.aegis_run.specs.FilesRead.{IfRun}
use Rattle.image_file.specs.declared.error.ImageError.{ImageError}
use Rattle.image_file.specs.declared.error.ImageError.TheVariants as errors
use Rattle.image_file.specs.ImageFaults.{first_fault}
use Rattle.region_plan.specs.declared.PlanError.{PlanError}
use Rattle.compiler.specs.MemoryUse.{source_fault}
use Rattle.aegis_run.specs.BuildCommand.{IsOwnOfBuild, ServesBuild, StopsBuild}
use Rattle.aegis_run.specs.ListCommand.{IsOwnOfList, ServesList, StopsList}
use Rattle.aegis_run.specs.MakeCommand.{IsOwnOfMake}
use Rattle.aegis_run.specs.MeanCommand.{IsOwnOfMean, ServesMean, StopsMean}
use Rattle.aegis_run.specs.RunCommand.{RunCommand, IsOwnOfRun, ServesRun, StopsRun}
use Rattle.aegis_run.specs.RunImage.{RunsImage}
use Rattle.aegis_run.specs.Report.{Notes, is_reported, line_of, line_where}
use Rattle.aegis_run.specs.SourceTexts.{BuildFault, HasPlanFault, IsBuildable, IsSource, SourceFault}
use Rattle.aegis_run.proofs.SourceLemmas.{accepted_fault, one_fault, one_text}

-- ---- a text lets a command go on, or stops it in one way

-- a source that keeps the rules has no fault
serves_source : (text : List ℕ) (end : TopEnd) (program : Program) → IsSource text program → SourceFault text end → ⊥
serves_source text end program is fault = accepted_fault text program end is.is_text is.typed fault

-- why a text has no image: a limit that its program passes, or a fault of the text
build_fault : (text : List ℕ) (end : TopEnd) → BuildFault text end → ((error : PlanError) × (end ≡ Plan error) × HasPlanFault text error) ⊎ SourceFault text end
build_fault text Done fault = inr fault
build_fault text (Run how) fault = inr fault
build_fault text (Mean how) fault = inr fault
build_fault text Usage fault = inr fault
build_fault text (TooLong file) fault = inr fault
build_fault text (NoFile file) fault = inr fault
build_fault text (Token error) fault = inr fault
build_fault text (Syntax error) fault = inr fault
build_fault text (Typing error) fault = inr fault
build_fault text (Plan error) fault = inl (error, refl, fault)
build_fault text (Image error) fault = inr fault
build_fault text (NotYet file) fault = inr fault
build_fault text ReadFault fault = inr fault
build_fault text WriteFault fault = inr fault
build_fault text OutOfMemory fault = inr fault

one_plan : (a b : PlanError) → Some a ≡ Some b → a ≡ b
one_plan a b same = cc

-- a program passes a limit or does not
fits_or_not : (text : List ℕ) (program : Program) (error : PlanError) → IsSource text program → source_fault program ≡ None → HasPlanFault text error → ⊥
fits_or_not text program error is fits fault =
    let same : program ≡ fault.program = one_text text program fault.program is.is_text fault.is_source.is_text in
    let both : None ≡ Some error = sym fits ∙ ap source_fault same ∙ fault.passes in cc

-- a source that has an image has no such fault
pub buildable_faultless : (text : List ℕ) (end : TopEnd) → IsBuildable text → BuildFault text end → ⊥
buildable_faultless text end serves stops = elim (build_fault text end stops) [
  | inl full ↦ fits_or_not text serves.program full.0 serves.is_source serves.fits full.2
  | inr fault ↦ serves_source text end serves.program serves.is_source fault
]

-- and a text has one
one_build_fault : (text : List ℕ) (a b : TopEnd) → BuildFault text a → BuildFault text b → a ≡ b
one_build_fault text a b one two = go (build_fault text a one) (build_fault text b two)
  where
    go : ((error : PlanError) × (a ≡ Plan error) × HasPlanFault text error) ⊎ SourceFault text a
        → ((error : PlanError) × (b ≡ Plan error) × HasPlanFault text error) ⊎ SourceFault text b → a ≡ b
    go (inl one) (inl two) =
        let same : one.2.program ≡ two.2.program = one_text text one.2.program two.2.program one.2.is_source.is_text two.2.is_source.is_text in
        let both : Some one.0 ≡ Some two.0 = sym one.2.passes ∙ ap source_fault same ∙ two.2.passes in
        one.1 ∙ ap Plan (one_plan one.0 two.0 both) ∙ sym two.1
    go (inl one) (inr two) = absurd (serves_source text b one.2.program one.2.is_source two)
    go (inr one) (inl two) = absurd (serves_source text a two.2.program two.2.is_source one)
    go (inr one) (inr two) = one_fault text a b one two

-- what stops a run at its script
script_stop : (text : List ℕ) (end : TopEnd) → StopsRun Script text end → end ≡ NotYet Script
script_stop text (NotYet Script) stops = refl
script_stop text (NotYet Source) stops = absurd stops
script_stop text (NotYet Input) stops = absurd stops
script_stop text (NotYet kinds.Image) stops = absurd stops
script_stop text Done stops = absurd stops
script_stop text (Run how) stops = absurd stops
script_stop text (Mean how) stops = absurd stops
script_stop text Usage stops = absurd stops
script_stop text (TooLong file) stops = absurd stops
script_stop text (NoFile file) stops = absurd stops
script_stop text (Token error) stops = absurd stops
script_stop text (Syntax error) stops = absurd stops
script_stop text (Typing error) stops = absurd stops
script_stop text (Plan error) stops = absurd stops
script_stop text (Image error) stops = absurd stops
script_stop text ReadFault stops = absurd stops
script_stop text WriteFault stops = absurd stops
script_stop text OutOfMemory stops = absurd stops

run_goes_on : (file : File) (text : List ℕ) (end : TopEnd) → ServesRun file text → StopsRun file text end → ⊥
run_goes_on Source text end serves stops = buildable_faultless text end serves stops
run_goes_on Script text end serves stops = let P : TopEnd → Type 0 = λ end. StopsRun Script text end in let held = subst P (script_stop text end stops) stops in held serves
run_goes_on Input text end serves stops = stops
run_goes_on kinds.Image text end serves stops = stops

run_stops_once : (file : File) (text : List ℕ) (a b : TopEnd) → StopsRun file text a → StopsRun file text b → a ≡ b
run_stops_once Source text a b one two = one_build_fault text a b one two
run_stops_once Script text a b one two = script_stop text a one ∙ sym (script_stop text b two)
run_stops_once Input text a b one two = absurd one
run_stops_once kinds.Image text a b one two = absurd one

build_goes_on : (file : File) (text : List ℕ) (end : TopEnd) → ServesBuild file text → StopsBuild file text end → ⊥
build_goes_on Source text end serves stops = buildable_faultless text end serves stops
build_goes_on Script text end serves stops = stops
build_goes_on Input text end serves stops = stops
build_goes_on kinds.Image text end serves stops = stops

build_stops_once : (file : File) (text : List ℕ) (a b : TopEnd) → StopsBuild file text a → StopsBuild file text b → a ≡ b
build_stops_once Source text a b one two = one_build_fault text a b one two
build_stops_once Script text a b one two = absurd one
build_stops_once Input text a b one two = absurd one
build_stops_once kinds.Image text a b one two = absurd one

mean_goes_on : (file : File) (text : List ℕ) (end : TopEnd) → ServesMean file text → StopsMean file text end → ⊥
mean_goes_on Source text end serves stops = serves_source text end serves.0 serves.1 stops
mean_goes_on Script text end serves stops = stops
mean_goes_on Input text end serves stops = stops
mean_goes_on kinds.Image text end serves stops = stops

one_error : (a b : ImageError) → Some a ≡ Some b → a ≡ b
one_error a b same = cc

-- a `list` is stopped by the first fault of its file
image_fault : (text : List ℕ) (end : TopEnd) → StopsList kinds.Image text end → (error : ImageError) × (end ≡ Image error) × (first_fault text ≡ Some error)
image_fault text Done stops = absurd stops
image_fault text (Run how) stops = absurd stops
image_fault text (Mean how) stops = absurd stops
image_fault text Usage stops = absurd stops
image_fault text (TooLong file) stops = absurd stops
image_fault text (NoFile file) stops = absurd stops
image_fault text (Token error) stops = absurd stops
image_fault text (Syntax error) stops = absurd stops
image_fault text (Typing error) stops = absurd stops
image_fault text (Plan error) stops = absurd stops
image_fault text (NotYet file) stops = absurd stops
image_fault text ReadFault stops = absurd stops
image_fault text WriteFault stops = absurd stops
image_fault text OutOfMemory stops = absurd stops
image_fault text (Image (errors.Short at)) stops = ((errors.Short at), refl, stops)
image_fault text (Image errors.Magic) stops = (errors.Magic, refl, stops)
image_fault text (Image (errors.Version found)) stops = ((errors.Version found), refl, stops)
image_fault text (Image (errors.Field at)) stops = ((errors.Field at), refl, stops)
image_fault text (Image (errors.Trailing at)) stops = ((errors.Trailing at), refl, stops)
image_fault text (Image errors.OutOfMemory) stops = absurd stops

list_goes_on : (file : File) (text : List ℕ) (end : TopEnd) → ServesList file text → StopsList file text end → ⊥
list_goes_on kinds.Image text end serves stops =
    let fault = image_fault text end stops in
    let both : None ≡ Some fault.0 = sym serves ∙ fault.2 in cc
list_goes_on Source text end serves stops = stops
list_goes_on Script text end serves stops = stops
list_goes_on Input text end serves stops = stops

list_stops_once : (file : File) (text : List ℕ) (a b : TopEnd) → StopsList file text a → StopsList file text b → a ≡ b
list_stops_once kinds.Image text a b one two =
    let first = image_fault text a one in
    let second = image_fault text b two in
    let both : Some first.0 ≡ Some second.0 = sym first.2 ∙ second.2 in
    first.1 ∙ ap Image (one_error first.0 second.0 both) ∙ sym second.1
list_stops_once Source text a b one two = absurd one
list_stops_once Script text a b one two = absurd one
list_stops_once Input text a b one two = absurd one

goes_on : (command : Command) (file : File) (text : List ℕ) (end : TopEnd) → Serves command file text → Stops command file text end → ⊥
goes_on (asks.Run names) file text end serves stops = run_goes_on file text end serves stops
goes_on (asks.Mean names) file text end serves stops = mean_goes_on file text end serves stops
goes_on (asks.Build names) file text end serves stops = build_goes_on file text end serves stops
goes_on (asks.Listing names) file text end serves stops = list_goes_on file text end serves stops
goes_on (asks.Make names) file text end serves stops = stops

mean_stops_once : (file : File) (text : List ℕ) (a b : TopEnd) → StopsMean file text a → StopsMean file text b → a ≡ b
mean_stops_once Source text a b one two = one_fault text a b one two
mean_stops_once Script text a b one two = absurd one
mean_stops_once Input text a b one two = absurd one
mean_stops_once kinds.Image text a b one two = absurd one

stops_once : (command : Command) (file : File) (text : List ℕ) (a b : TopEnd) → Stops command file text a → Stops command file text b → a ≡ b
stops_once (asks.Run names) file text a b one two = run_stops_once file text a b one two
stops_once (asks.Mean names) file text a b one two = mean_stops_once file text a b one two
stops_once (asks.Build names) file text a b one two = build_stops_once file text a b one two
stops_once (asks.Listing names) file text a b one two = list_stops_once file text a b one two
stops_once (asks.Make names) file text a b one two = absurd one

-- ---- a file has one answer

-- the ways in which a command answers at a file
data AtFile (files : Files) (command : Command) (step : FileStep) (end : TopEnd) : Type 0 where
  missing : (before now : ℕ) → end ≡ NoFile step.file → IsMissing (Some files) step.name before now → AtFile files command step end
  too_long : (before now : ℕ) → end ≡ TooLong step.file → IsTooLong (Some files) step.name (limit_for step.file) before now → AtFile files command step end
  stopped : IsStoppedByText (Some files) command step end → AtFile files command step end
  failed : IsFailure end → AtFile files command step end

at_file : (files : Files) (command : Command) (step : FileStep) (before now : ℕ) (end : TopEnd) → CauseAtFile (Some files) command step before now end → AtFile files command step end
at_file files command step before now (NoFile file) cause = missing before now (ap NoFile cause.0) cause.1
at_file files command step before now (TooLong file) cause = too_long before now (ap TooLong cause.0) cause.1
at_file files command step before now (Token error) cause = stopped cause
at_file files command step before now (Syntax error) cause = stopped cause
at_file files command step before now (Typing error) cause = stopped cause
at_file files command step before now (NotYet file) cause = stopped cause
at_file files command step before now (Plan error) cause = stopped cause
at_file files command step before now (Image error) cause = stopped cause
at_file files command step before now ReadFault cause = failed tt
at_file files command step before now OutOfMemory cause = failed tt
at_file files command step before now Usage cause = absurd cause
at_file files command step before now Done cause = absurd cause
at_file files command step before now (Run end) cause = absurd cause
at_file files command step before now (Mean end) cause = absurd cause
at_file files command step before now WriteFault cause = absurd cause

-- two answers at one file are one, unless the first is a failure
one_at_file : (files : Files) (command : Command) (step : FileStep) (a b : TopEnd) → (IsFailure b → ⊥) → AtFile files command step a → AtFile files command step b → (a ≡ b) ⊎ IsFailure a
one_at_file files command step a b sound (failed how) two = inr how
one_at_file files command step a b sound (missing _ _ _ _) (failed how) = absurd (sound how)
one_at_file files command step a b sound (too_long _ _ _ _) (failed how) = absurd (sound how)
one_at_file files command step a b sound (stopped _) (failed how) = absurd (sound how)
one_at_file files command step a b sound (missing _ _ one _) (missing _ _ two _) = inl (one ∙ sym two)
one_at_file files command step a b sound (too_long _ _ one _) (too_long _ _ two _) = inl (one ∙ sym two)
one_at_file files command step a b sound (missing f g _ lacks) (too_long h i _ long) = absurd (missing_too_long files step.name (limit_for step.file) f g h i lacks long)
one_at_file files command step a b sound (too_long h i _ long) (missing f g _ lacks) = absurd (missing_too_long files step.name (limit_for step.file) f g h i lacks long)
one_at_file files command step a b sound (missing f g _ lacks) (stopped is) = absurd (text_missing files step is.text f g is.read lacks)
one_at_file files command step a b sound (stopped is) (missing f g _ lacks) = absurd (text_missing files step is.text f g is.read lacks)
one_at_file files command step a b sound (too_long h i _ long) (stopped is) = absurd (text_too_long files step is.text h i is.read long)
one_at_file files command step a b sound (stopped is) (too_long h i _ long) = absurd (text_too_long files step is.text h i is.read long)
one_at_file files command step a b sound (stopped one) (stopped two) =
    let same : one.text ≡ two.text = text_once files step one.text two.text one.read two.read in
    let P : List ℕ → Type 0 = λ text. Stops command step.file text a in
    inl (stops_once command step.file two.text a b (subst P same one.fault) two.fault)

-- at a file with an answer that is no failure no text is passed
not_passed : (files : Files) (command : Command) (step : FileStep) (end : TopEnd) (text : List ℕ) → (IsFailure end → ⊥) → AtFile files command step end
    → HasText (Some files) step text → Serves command step.file text → ⊥
not_passed files command step end text sound (failed how) has serves = sound how
not_passed files command step end text sound (missing f g _ lacks) has serves = text_missing files step text f g has lacks
not_passed files command step end text sound (too_long h i _ long) has serves = text_too_long files step text h i has long
not_passed files command step end text sound (stopped is) has serves =
    let P : List ℕ → Type 0 = λ text. Serves command step.file text in
    goes_on command step.file is.text end (subst P (text_once files step text is.text has is.read) serves) is.fault

blocked : (files : Files) (command : Command) (step : Option FileStep) (before now : ℕ) (end : TopEnd) → (IsFailure end → ⊥) → CauseAt (Some files) command step before now end
    → (text : List ℕ) → Passes (Serves command) (Some files) step text → ⊥
blocked files command None before now end sound cause text passes = passes
blocked files command (Some step) before now end sound cause text passes = not_passed files command step end text sound (at_file files command step before now end cause) passes.0 passes.1

-- ---- a command has one answer

-- a refusal is no failure, and no answer of a command's own
refusal_sound : (end : TopEnd) → IsRefusal end → IsFailure end → ⊥
refusal_sound (NoFile file) refusal failure = failure
refusal_sound (TooLong file) refusal failure = failure
refusal_sound (Token error) refusal failure = failure
refusal_sound (Syntax error) refusal failure = failure
refusal_sound (Typing error) refusal failure = failure
refusal_sound (NotYet file) refusal failure = failure
refusal_sound (Plan error) refusal failure = failure
refusal_sound (Image error) refusal failure = failure
refusal_sound Usage refusal failure = refusal
refusal_sound Done refusal failure = refusal
refusal_sound ReadFault refusal failure = refusal
refusal_sound OutOfMemory refusal failure = refusal
refusal_sound WriteFault refusal failure = refusal
refusal_sound (Run how) refusal failure = refusal
refusal_sound (Mean how) refusal failure = refusal

run_own : (end : TopEnd) → IsRefusal end → IsOwnOfRun end → ⊥
run_own (Run how) refusal own = refusal
run_own (NoFile file) refusal own = own
run_own (TooLong file) refusal own = own
run_own (Token error) refusal own = own
run_own (Syntax error) refusal own = own
run_own (Typing error) refusal own = own
run_own (NotYet file) refusal own = own
run_own (Plan error) refusal own = own
run_own (Image error) refusal own = own
run_own Usage refusal own = own
run_own Done refusal own = own
run_own ReadFault refusal own = own
run_own OutOfMemory refusal own = own
run_own WriteFault refusal own = own
run_own (Mean how) refusal own = own

mean_own : (end : TopEnd) → IsRefusal end → IsOwnOfMean end → ⊥
mean_own (Mean how) refusal own = refusal
mean_own WriteFault refusal own = refusal
mean_own (Run how) refusal own = own
mean_own (NoFile file) refusal own = own
mean_own (TooLong file) refusal own = own
mean_own (Token error) refusal own = own
mean_own (Syntax error) refusal own = own
mean_own (Typing error) refusal own = own
mean_own (NotYet file) refusal own = own
mean_own (Plan error) refusal own = own
mean_own (Image error) refusal own = own
mean_own Usage refusal own = own
mean_own Done refusal own = own
mean_own ReadFault refusal own = own
mean_own OutOfMemory refusal own = own

list_own : (end : TopEnd) → IsRefusal end → IsOwnOfList end → ⊥
list_own Done refusal own = refusal
list_own (Run how) refusal own = own
list_own (Mean how) refusal own = own
list_own Usage refusal own = own
list_own (TooLong file) refusal own = own
list_own (NoFile file) refusal own = own
list_own (Token error) refusal own = own
list_own (Syntax error) refusal own = own
list_own (Typing error) refusal own = own
list_own (Plan error) refusal own = own
list_own (NotYet file) refusal own = own
list_own ReadFault refusal own = own
list_own WriteFault refusal own = refusal
list_own OutOfMemory refusal own = own
list_own (Image error) refusal own = own

build_own : (end : TopEnd) → IsRefusal end → IsOwnOfBuild end → ⊥
build_own Done refusal own = refusal
build_own (Run how) refusal own = own
build_own (Mean how) refusal own = own
build_own Usage refusal own = own
build_own (TooLong file) refusal own = own
build_own (NoFile file) refusal own = own
build_own (Token error) refusal own = own
build_own (Syntax error) refusal own = own
build_own (Typing error) refusal own = own
build_own (Plan error) refusal own = own
build_own (Image error) refusal own = own
build_own (NotYet file) refusal own = own
build_own ReadFault refusal own = own
build_own WriteFault refusal own = refusal
build_own OutOfMemory refusal own = own

make_own : (end : TopEnd) → IsRefusal end → IsOwnOfMake end → ⊥
make_own Done refusal own = refusal
make_own (Run how) refusal own = refusal
make_own (Mean how) refusal own = own
make_own Usage refusal own = own
make_own (TooLong file) refusal own = own
make_own (NoFile file) refusal own = own
make_own (Token error) refusal own = own
make_own (Syntax error) refusal own = own
make_own (Typing error) refusal own = own
make_own (Plan error) refusal own = own
make_own (Image error) refusal own = own
make_own (NotYet file) refusal own = own
make_own ReadFault refusal own = own
make_own WriteFault refusal own = refusal
make_own OutOfMemory refusal own = own

own_refusal : (command : Command) (end : TopEnd) → IsRefusal end → IsOwn command end → ⊥
own_refusal (asks.Run names) end refusal own = run_own end refusal own
own_refusal (asks.Mean names) end refusal own = mean_own end refusal own
own_refusal (asks.Build names) end refusal own = build_own end refusal own
own_refusal (asks.Listing names) end refusal own = list_own end refusal own
own_refusal (asks.Make names) end refusal own = make_own end refusal own

-- an answer is a failure or is not
sound_or_not : (end : TopEnd) → IsFailure end ⊎ (IsFailure end → ⊥)
sound_or_not ReadFault = inl tt
sound_or_not OutOfMemory = inl tt
sound_or_not Usage = inr (λ failure. failure)
sound_or_not Done = inr (λ failure. failure)
sound_or_not (Run how) = inr (λ failure. failure)
sound_or_not (Mean how) = inr (λ failure. failure)
sound_or_not WriteFault = inr (λ failure. failure)
sound_or_not (NoFile file) = inr (λ failure. failure)
sound_or_not (TooLong file) = inr (λ failure. failure)
sound_or_not (Token error) = inr (λ failure. failure)
sound_or_not (Syntax error) = inr (λ failure. failure)
sound_or_not (Typing error) = inr (λ failure. failure)
sound_or_not (NotYet file) = inr (λ failure. failure)
sound_or_not (Plan error) = inr (λ failure. failure)
sound_or_not (Image error) = inr (λ failure. failure)

-- at one place a refusal is the answer
one_at : (files : Files) (command : Command) (step : Option FileStep) (f g h i : ℕ) (end refusal : TopEnd) → IsRefusal refusal
    → CauseAt (Some files) command step f g end → CauseAt (Some files) command step h i refusal → (end ≡ refusal) ⊎ IsFailure end
one_at files command (Some step) f g h i end refusal is one two =
    one_at_file files command step end refusal (refusal_sound refusal is) (at_file files command step f g end one) (at_file files command step h i refusal two)
one_at files command None f g h i end refusal is one two =
    ⊎_elim
    (λ (own : IsOwn command refusal). absurd (own_refusal command refusal is own))
    (λ (out : refusal ≡ OutOfMemory). absurd (let P : TopEnd → Type 0 = λ end. IsRefusal end in subst P out is))
    two

pub refuses : (files : Files) (command : Command) (before now : ℕ) (end : TopEnd) → HasCause (Some files) command before now end → RefusesWhere (Some files) command before end
refuses files command before now end why refusal is cause =
    ⊎_elim
    (λ (failure : IsFailure end). inr failure)
    (λ (sound : IsFailure end → ⊥).
    let same : why.texts ≡ cause.texts = one_place (step_after command) (Serves command) files why.texts cause.texts why.passed cause.passed
    (blocked files command (step_after command why.texts) before now end sound why.cause)
    (blocked files command (step_after command cause.texts) before before refusal (refusal_sound refusal is) cause.cause) in
    let P : List (List ℕ) → Type 0 = λ texts. CauseAt (Some files) command (step_after command texts) before now end in
    one_at files command (step_after command cause.texts) before now before before end refusal is (subst P same why.cause) cause.cause)
    (sound_or_not end)

-- where all files were passed, the answer is the command's own
completes : (files : Files) (command : Command) (before now : ℕ) (end : TopEnd) → HasCause (Some files) command before now end → Completes (Some files) command end
completes files command before now end why texts passed last =
    ⊎_elim
    (λ (failure : IsFailure end). inr failure)
    (λ (sound : IsFailure end → ⊥).
    let same : why.texts ≡ texts = one_place (step_after command) (Serves command) files why.texts texts why.passed passed
    (blocked files command (step_after command why.texts) before now end sound why.cause)
    (λ text passes. let P : Option FileStep → Type 0 = λ step. Passes (Serves command) (Some files) step text in subst P last passes) in
    let R : Option FileStep → Type 0 = λ step. CauseAt (Some files) command step before now end in
    let there : IsOwn command end ⊎ (end ≡ OutOfMemory) = subst R (ap (step_after command) same ∙ last) why.cause in
    ⊎_elim
    (λ (own : IsOwn command end). inl own)
    (λ (out : end ≡ OutOfMemory). let P : TopEnd → Type 0 = λ end. IsFailure end in inr (subst P (sym out) tt))
    there)
    (sound_or_not end)

-- ---- words

no_usage : (files : Option Files) (command : Command) (step : Option FileStep) (before now : ℕ) → CauseAt files command step before now Usage → ⊥
no_usage files command (Some step) before now cause = cause
no_usage files (asks.Run names) None before now (inl own) = own
no_usage files (asks.Mean names) None before now (inl own) = own
no_usage files (asks.Build names) None before now (inl own) = own
no_usage files (asks.Listing names) None before now (inl own) = own
no_usage files (asks.Make names) None before now (inl own) = own
no_usage files command None before now (inr same) = cc

pub usage_where : (files : Option Files) (row : Option Command) (before now : ℕ) (old new : Option (List Asking)) (end : TopEnd) → Cause files row before now old new end
    → (end ≡ Usage) ↔ (row ≡ None)
usage_where files None before now old new end cause = (λ same. refl, λ same. cause.0)
usage_where files (Some command) before now old new end cause =
    let P : TopEnd → Type 0 = λ end. CauseAt files command (step_after command cause.why.texts) before now end in
    (λ same. absurd (no_usage files command (step_after command cause.why.texts) before now (subst P same cause.why.cause)), λ same. absurd cc)

pub refused_where : (files : Option Files) (row : Option Command) (before now : ℕ) (old new : Option (List Asking)) (end : TopEnd) → Cause files row before now old new end
    → AreTold files → IfSome row (λ command. RefusesWhere files command before end)
refused_where None row before now old new end cause told = absurd told
refused_where (Some files) None before now old new end cause told = tt
refused_where (Some files) (Some command) before now old new end cause told = refuses files command before now end cause.why

pub complete_where : (files : Option Files) (row : Option Command) (before now : ℕ) (old new : Option (List Asking)) (end : TopEnd) → Cause files row before now old new end
    → AreTold files → IfSome row (λ command. Completes files command end)
complete_where None row before now old new end cause told = absurd told
complete_where (Some files) None before now old new end cause told = tt
complete_where (Some files) (Some command) before now old new end cause told = completes files command before now end cause.why

-- what a run has sent, by the answer that is told
pub run_told : (files : Option Files) (row : Option Command) (end answer : TopEnd) (old new : Option (List ℕ)) → answer ≡ end
    → IfRun row (λ names. RunCommand files names end old new) → IfRun row (λ names. RunCommand files names answer old new)
run_told files row end answer old new same run = let P : TopEnd → Type 0 = λ answer. IfRun row (λ names. RunCommand files names answer old new) in subst P (sym same) run

-- the run of an image and its line count alike
pub run_line : (files : Option Files) (row : Option Command) (end answer : TopEnd) (retired : ℕ) (reported noted : Bool) (old new before after : Option (List ℕ)) → answer ≡ end
    → IfRun row (λ names. RunsImage files names end retired old new) → reported ≡ is_reported row end → Notes (line_where reported end retired) noted before after
    → IfRun row (λ names. (retired : ℕ) × RunsImage files names answer retired old new × Notes (line_of answer retired) noted before after)
run_line files row end answer retired reported noted old new before after same run told notes =
    let P : TopEnd → Type 0 = λ answer. IfRun row (λ names. (retired : ℕ) × RunsImage files names answer retired old new × Notes (line_of answer retired) noted before after) in
    let Q : Bool → Type 0 = λ reported. Notes (line_where reported end retired) noted before after in
    subst P (sym same) (go row run (subst Q told notes))
  where
    go : (row : Option Command) → IfRun row (λ names. RunsImage files names end retired old new) → Notes (line_where (is_reported row end) end retired) noted before after
        → IfRun row (λ names. (retired : ℕ) × RunsImage files names end retired old new × Notes (line_of end retired) noted before after)
    go None run notes = tt
    go (Some (asks.Run names)) run notes = (retired, run, notes)
    go (Some (asks.Mean names)) run notes = tt
    go (Some (asks.Build names)) run notes = tt
    go (Some (asks.Listing names)) run notes = tt
    go (Some (asks.Make names)) run notes = tt

-- and notes take the line of the answer where it is told
pub told_line : (row : Option Command) (end answer : TopEnd) (retired : ℕ) (reported noted : Bool) (before after : Option (List ℕ)) → answer ≡ end
    → reported ≡ is_reported row end → Notes (line_where reported end retired) noted before after
    → (retired : ℕ) × Notes (line_where (is_reported row answer) answer retired) noted before after
told_line row end answer retired reported noted before after same told notes =
    let P : TopEnd → Type 0 = λ answer. (retired : ℕ) × Notes (line_where (is_reported row answer) answer retired) noted before after in
    let Q : Bool → Type 0 = λ reported. Notes (line_where reported end retired) noted before after in
    subst P (sym same) (retired, subst Q told notes)
