-- The way of a command through its files, a step at a time.
use Rattle.std.proofs.Common.{◌≡◌, ℕ, List, [], ◌∷◌, ◌++◌, Option, None, Some, Result, Ok, Err, refl, sym, ◌∙◌, ap, subst, append_assoc, append-nil}
use Rattle.std.specs.Prelude.{IfErr, IsErrAnd}
use Rattle.std.proofs.lemmas.List.{map-append}
use Rattle.aegis_edge.specs.Folder.{Files, Asking, Asks, AsksOne}
use Rattle.aegis_words.specs.CommandTable.{Command, step_after}
use Rattle.aegis_words.specs.FileReading.{HasText, Passes, listed, steps_read}
use Rattle.aegis_words.specs.FileSteps.{FileStep, askings_for}
use Rattle.aegis_run.specs.declared.ends.TopEnd.{TopEnd}
use Rattle.aegis_run.specs.declared.ends.TopEnd.TheVariants.{Run, Mean, Done, Usage, TooLong, Token, Syntax, Typing, Plan, Image, NotYet, NoFile, ReadFault, WriteFault, OutOfMemory}
use Rattle.aegis_run.specs.Answers.{IsFileFault}
use Rattle.aegis_run.specs.Causes.{Serves, CauseAt, CauseAtFile, IsAnswered}
use Rattle.aegis_run.specs.FilesRead.{HasRead, IsStopped, OpenCause, Writes}

-- what was asked for one after another was asked for in all
then_asked : (old middle new : Option (List Asking)) (first later : List Asking) → Asks old middle first → Asks middle new later → Asks old new (first ++ later)
then_asked old middle None first later one two = tt
then_asked old None (Some new) first later one two = absurd two
then_asked None (Some middle) (Some new) first later one two = absurd one
then_asked (Some old) (Some middle) (Some new) first later one two = two ∙ ap (λ asked. asked ++ later) one ∙ append_assoc old first later

-- nothing was asked for
none_asked : (asked : Option (List Asking)) → Asks asked asked []
none_asked None = tt
none_asked (Some asked) = sym (append-nil asked)

-- one step more was asked for, at a count that stands still
one_more_asked : (before middle : ℕ) (old mid new : Option (List Asking)) (steps : List FileStep) (step : FileStep) → middle ≡ before
    → Asks old mid (askings_for before steps) → AsksOne mid new step.name middle → Asks old new (askings_for before (steps ++ step ∷ []))
one_more_asked before middle old mid new steps step still first then =
    let P : ℕ → Type 0 = λ faults. AsksOne mid new step.name faults in
    let Q : List Asking → Type 0 = λ asked. Asks old new asked in
    let asking : FileStep → Asking = λ step. record { name = step.name; faults = before } in
    subst Q (sym (map-append asking steps (step ∷ []))) (then_asked old mid new (askings_for before steps) (asking step ∷ []) first (subst P still then))

-- a command that begins has read nothing
pub begun : (files : Option Files) (command : Command) (faults : ℕ) (asked : Option (List Asking)) → HasRead files command faults faults asked asked []
begun files command faults asked = record { passed = tt; asked = none_asked asked; steady = refl }

-- what a folder tells of its files holds after each call
pub still_read : (files later : Option Files) (step : FileStep) (text : List ℕ) → later ≡ files → HasText later step text → HasText files step text
still_read files later step text same read = let P : Option Files → Type 0 = λ files. HasText files step text in subst P same read

-- it has read one file more
pub read_on : (files : Option Files) (command : Command) (step : FileStep) (before middle now : ℕ) (old mid new : Option (List Asking)) (texts : List (List ℕ)) (text : List ℕ)
    → HasRead files command before middle old mid texts → step_after command texts ≡ Some step → now ≡ middle → AsksOne mid new step.name middle
    → HasText files step text → Serves command step.file text → HasRead files command before now old new (text ∷ texts)
read_on files command step before middle now old mid new texts text read next still asks has serves =
    let P : Option FileStep → Type 0 = λ step. Passes (Serves command) files step text in
    let Q : Option FileStep → Type 0 = λ step. Asks old new (askings_for before (steps_read (step_after command) texts ++ listed step)) in
    record {
      passed = (read.passed, subst P (sym next) (has, serves));
      asked = subst Q (sym next) (one_more_asked before middle old mid new (steps_read (step_after command) texts) step read.steady read.asked asks);
      steady = still ∙ read.steady;
    }

-- an answer at a file comes before any byte goes out
silent_at : (files : Option Files) (command : Command) (step : FileStep) (before now : ℕ) (end : TopEnd) → CauseAtFile files command step before now end → Writes end → ⊥
silent_at files command step before now (Run end) cause writes = cause
silent_at files command step before now (Mean end) cause writes = cause
silent_at files command step before now WriteFault cause writes = cause
silent_at files command step before now Usage cause writes = writes
silent_at files command step before now Done cause writes = cause
silent_at files command step before now (TooLong file) cause writes = writes
silent_at files command step before now (NoFile file) cause writes = writes
silent_at files command step before now (Token error) cause writes = writes
silent_at files command step before now (Syntax error) cause writes = writes
silent_at files command step before now (Typing error) cause writes = writes
silent_at files command step before now (NotYet file) cause writes = writes
silent_at files command step before now (Plan error) cause writes = writes
silent_at files command step before now (Image error) cause writes = writes
silent_at files command step before now ReadFault cause writes = writes
silent_at files command step before now OutOfMemory cause writes = writes

-- it is stopped at the next file
pub stopped : (files : Option Files) (command : Command) (step : FileStep) (before middle now : ℕ) (old mid new : Option (List Asking)) (texts : List (List ℕ)) (end : TopEnd)
    → HasRead files command before middle old mid texts → step_after command texts ≡ Some step → AsksOne mid new step.name middle
    → CauseAtFile files command step middle now end → ((IsFileFault end → ⊥) → now ≡ middle) → IsStopped files command before now old new end
stopped files command step before middle now old mid new texts end read next asks cause still =
    let P : Option FileStep → Type 0 = λ step. CauseAt files command step before now end in
    let Q : Option FileStep → Type 0 = λ step. Asks old new (askings_for before (steps_read (step_after command) texts ++ listed step)) in
    let R : ℕ → Type 0 = λ before. CauseAtFile files command step before now end in
    record {
      answered = record {
        why = record { texts = texts; passed = read.passed; cause = subst P (sym next) (subst R read.steady cause) };
        asked = subst Q (sym next) (one_more_asked before middle old mid new (steps_read (step_after command) texts) step read.steady read.asked asks);
      };
      steady = λ other. still other ∙ read.steady;
      silent = silent_at files command step middle now end cause;
    }

-- why a file is not read is why the command answers there
pub open_cause : (files later : Option Files) (command : Command) (step : FileStep) (before now : ℕ) (end : TopEnd) → later ≡ files → OpenCause later step before now end
    → CauseAtFile files command step before now end
open_cause files later command step before now end same cause =
    let P : Option Files → Type 0 = λ files. CauseAtFile files command step before now end in subst P same (go end cause)
  where
    go : (end : TopEnd) → OpenCause later step before now end → CauseAtFile later command step before now end
    go (NoFile named) cause = cause
    go (TooLong named) cause = cause
    go ReadFault cause = cause
    go OutOfMemory cause = cause
    go Usage cause = absurd cause
    go Done cause = absurd cause
    go (Token error) cause = absurd cause
    go (Syntax error) cause = absurd cause
    go (Typing error) cause = absurd cause
    go (NotYet named) cause = absurd cause
    go (Plan error) cause = absurd cause
    go (Image error) cause = absurd cause
    go WriteFault cause = absurd cause
    go (Run end) cause = absurd cause
    go (Mean end) cause = absurd cause

-- it has read all its files, and answers
pub answered : (files : Option Files) (command : Command) (before now : ℕ) (old new : Option (List Asking)) (texts : List (List ℕ)) (end : TopEnd)
    → HasRead files command before now old new texts → step_after command texts ≡ None → CauseAt files command None before now end
    → IsAnswered files command before now old new end
answered files command before now old new texts end read next cause =
    let P : Option FileStep → Type 0 = λ step. CauseAt files command step before now end in
    let Q : Option FileStep → Type 0 = λ step. Asks old new (askings_for before (steps_read (step_after command) texts ++ listed step)) in
    let R : List FileStep → Type 0 = λ steps. Asks old new (askings_for before steps) in
    record {
      why = record { texts = texts; passed = read.passed; cause = subst P (sym next) cause };
      asked = subst Q (sym next) (subst R (sym (append-nil (steps_read (step_after command) texts))) read.asked);
    }

-- what holds of an error that is handed on holds of the answer
pub handed_on : {T : Type 0} (r : Result T TopEnd) (end : TopEnd) (P : TopEnd → Type 0) → IsErrAnd r (λ answer. answer ≡ end) → P end → IfErr r P
handed_on (Ok value) end P handed holds = absurd handed
handed_on (Err answer) end P handed holds = subst P (sym handed) holds

-- a file that is not read stops it
pub open_stopped : {T : Type 0} (files later : Option Files) (command : Command) (step : FileStep) (before middle now : ℕ) (old mid new : Option (List Asking)) (texts : List (List ℕ))
    (r : Result T TopEnd) (end : TopEnd) → IsErrAnd r (λ answer. answer ≡ end) → HasRead files command before middle old mid texts → step_after command texts ≡ Some step
    → AsksOne mid new step.name middle → later ≡ files → OpenCause later step middle now end → ((IsFileFault end → ⊥) → now ≡ middle)
    → IfErr r (λ end. IsStopped files command before now old new end)
open_stopped files later command step before middle now old mid new texts r end handed read next asks same cause still =
    handed_on r end (λ end. IsStopped files command before now old new end) handed
    (stopped files command step before middle now old mid new texts end read next asks (open_cause files later command step middle now end same cause) still)

-- and so does its text
pub text_stopped : {T : Type 0} (files : Option Files) (command : Command) (step : FileStep) (before middle now : ℕ) (old mid new : Option (List Asking)) (texts : List (List ℕ))
    (r : Result T TopEnd) (end : TopEnd) → IsErrAnd r (λ answer. answer ≡ end) → HasRead files command before middle old mid texts → step_after command texts ≡ Some step
    → AsksOne mid new step.name middle → CauseAtFile files command step middle now end → now ≡ middle → IfErr r (λ end. IsStopped files command before now old new end)
text_stopped files command step before middle now old mid new texts r end handed read next asks cause still =
    handed_on r end (λ end. IsStopped files command before now old new end) handed
    (stopped files command step before middle now old mid new texts end read next asks cause (λ other. still))
