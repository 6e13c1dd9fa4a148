-- Promise: the exit status of an answer, and its line on the notes.
use Rattle.std.specs.Prelude.{◌≡◌, ℕ, Bool, true, false, List, ◌++◌, Option, None, Some, codes, decimal}
use Rattle.aegis_edge.specs.Sink.{Appends, AppendsFront}
use Rattle.aegis_words.specs.CommandTable.{Command}
use Rattle.aegis_words.specs.CommandTable as asks
use Rattle.aegis_words.specs.declared.file.File.{File}
use Rattle.aegis_words.specs.declared.file.File.TheVariants as file
use Rattle.aegis_run.specs.declared.ends.End.{End}
use Rattle.aegis_run.specs.declared.ends.End.TheVariants as run
use Rattle.aegis_run.specs.declared.ends.TopEnd.{TopEnd}
use Rattle.aegis_run.specs.declared.ends.TopEnd.TheVariants.{Done, Run, Mean, Usage, TooLong, Token, Syntax, Typing, Plan, Image, NotYet, NoFile, ReadFault, WriteFault, OutOfMemory}
use Rattle.c_evaluator.specs.declared.mean_end.MeanEnd.{MeanEnd}
use Rattle.c_evaluator.specs.declared.mean_end.MeanEnd.TheVariants as mean
use Rattle.image_file.specs.declared.error.ImageError.{ImageError}
use Rattle.image_file.specs.declared.error.ImageError.TheVariants as image
use Rattle.region_plan.specs.declared.error.PlanError.{PlanError}
use Rattle.region_plan.specs.declared.error.PlanError.TheVariants as plan
use Rattle.c_token.specs.declared.kinds.TokenError.{TokenError}
use Rattle.c_token.specs.declared.kinds.TokenError.TheVariants as token
use Rattle.c_reader.specs.declared.error.SyntaxError.{SyntaxError}
use Rattle.c_reader.specs.declared.error.SyntaxError.TheVariants as syntax
use Rattle.c_types.specs.declared.error.TypeError.{TypeError}
use Rattle.c_types.specs.declared.error.TypeError.TheVariants as type

-- the status of an answer whose line was written
abbrev pub status_when_noted : TopEnd → ℕ
status_when_noted Done = 0
status_when_noted (Run run.Ended) = 0
status_when_noted Usage = 1
status_when_noted (Token error) = 2
status_when_noted (Syntax error) = 2
status_when_noted (Typing error) = 2
status_when_noted (NoFile file) = 4
status_when_noted ReadFault = 4
status_when_noted (Run run.WriteFault) = 5
status_when_noted (Run (run.Index at)) = 10
status_when_noted (Run (run.Divide at)) = 11
status_when_noted (Run (run.FuelOut count)) = 30
status_when_noted OutOfMemory = 6
status_when_noted (TooLong file) = 7
status_when_noted (Plan error) = 7
status_when_noted (Image error) = 8
status_when_noted (NotYet file) = 9
status_when_noted WriteFault = 5
status_when_noted (Mean mean.Ended) = 0
status_when_noted (Mean (mean.Index at)) = 10
status_when_noted (Mean (mean.Divide at)) = 11
status_when_noted (Mean mean.Turns) = 30

-- the status of an answer
abbrev pub status_of : TopEnd → Bool → ℕ
status_of end true = status_when_noted end
status_of end false = 5

-- what a file is called
abbrev pub file_word : File → List ℕ
file_word file.Source = codes "source"
file_word file.Script = codes "script"
file_word file.Input = codes "input"
file_word file.Image = codes "image"

-- a line that tells a place, and what is wrong there
abbrev pub place_line : List ℕ → ℕ → List ℕ → List ℕ
place_line front place back = front ++ decimal place ++ back

-- the line of a text without tokens
abbrev pub token_line : TokenError → List ℕ
token_line (token.BadByte at) = place_line (codes "byte ") at (codes ": bad byte\n")
token_line (token.OpenComment at) = place_line (codes "byte ") at (codes ": open comment\n")
token_line (token.LongName at) = place_line (codes "byte ") at (codes ": long name\n")
token_line (token.BadNumber at) = place_line (codes "byte ") at (codes ": bad number\n")
token_line (token.BigNumber at) = place_line (codes "byte ") at (codes ": big number\n")
token_line token.OutOfMemory = codes "out of memory\n"

-- the line of tokens that are no program
abbrev pub syntax_line : SyntaxError → List ℕ
syntax_line (syntax.Expected place) = place_line (codes "token ") place (codes ": unexpected\n")
syntax_line (syntax.Deep place) = place_line (codes "token ") place (codes ": nested too deep\n")
syntax_line syntax.OutOfMemory = codes "out of memory\n"

-- the line of a program that breaks a typing rule, or has no `main`
abbrev pub type_line : TypeError → List ℕ
type_line (type.Unknown place) = place_line (codes "token ") place (codes ": unknown\n")
type_line (type.Twice place) = place_line (codes "token ") place (codes ": twice\n")
type_line (type.Recursive place) = place_line (codes "token ") place (codes ": recursive\n")
type_line (type.Class place) = place_line (codes "token ") place (codes ": class\n")
type_line (type.Shape place) = place_line (codes "token ") place (codes ": shape\n")
type_line (type.Arity place) = place_line (codes "token ") place (codes ": arity\n")
type_line (type.TooLong place) = place_line (codes "token ") place (codes ": too long\n")
type_line (type.TooMany place) = place_line (codes "token ") place (codes ": too many\n")
type_line type.NoMain = codes "no main\n"
type_line type.OutOfMemory = codes "out of memory\n"

-- the line of a program that does not fit
abbrev pub plan_line : PlanError → List ℕ
plan_line (plan.TreeFull blocks) = place_line (codes "tree full ") blocks (codes "\n")
plan_line (plan.LogFull blocks) = place_line (codes "log full ") blocks (codes "\n")
plan_line (plan.OpenFull bytes) = place_line (codes "open full ") bytes (codes "\n")
plan_line plan.OutOfMemory = codes "out of memory\n"

-- the line of a file that is no image
abbrev pub image_line : ImageError → List ℕ
image_line (image.Short length) = place_line (codes "image: short ") length (codes "\n")
image_line image.Magic = codes "image: magic\n"
image_line (image.Version found) = place_line (codes "image: version ") found (codes "\n")
image_line (image.Field at) = place_line (codes "image: field ") at (codes "\n")
image_line (image.Trailing at) = place_line (codes "image: trailing ") at (codes "\n")
image_line image.OutOfMemory = codes "out of memory\n"

-- the line of a meaning that ends so
abbrev pub meaning_line : MeanEnd → List ℕ
meaning_line mean.Ended = codes "ended\n"
meaning_line (mean.Index at) = place_line (codes "index token ") at (codes "\n")
meaning_line (mean.Divide at) = place_line (codes "divide token ") at (codes "\n")
meaning_line mean.Turns = codes "turns\n"

-- the line of a run that ends so after so many instructions
abbrev pub run_line : End → ℕ → List ℕ
run_line run.Ended retired = codes "ended retired " ++ decimal retired ++ codes " events 0\n"
run_line (run.Index at) retired = codes "index token " ++ decimal at ++ codes " retired " ++ decimal retired ++ codes " events 0\n"
run_line (run.Divide at) retired = codes "divide token " ++ decimal at ++ codes " retired " ++ decimal retired ++ codes " events 0\n"
run_line (run.FuelOut count) retired = codes "fuel retired " ++ decimal retired ++ codes " events 0\n"
run_line run.WriteFault retired = codes "write fault\n"

-- the line of an answer, and of a run after so many instructions, where the answer has one
abbrev pub line_of : TopEnd → ℕ → Option (List ℕ)
line_of Done retired = None
line_of (Run end) retired = Some (run_line end retired)
line_of (Mean end) retired = Some (meaning_line end)
line_of Usage retired = Some (codes "usage: run SOURCE SCRIPT INPUT FUEL KEY NONCE, mean SOURCE INPUT TURNS, build SOURCE, list IMAGE, make N\n")
line_of (TooLong file) retired = Some (codes "too long: " ++ file_word file ++ codes "\n")
line_of (Token error) retired = Some (token_line error)
line_of (Syntax error) retired = Some (syntax_line error)
line_of (Typing error) retired = Some (type_line error)
line_of (Plan error) retired = Some (plan_line error)
line_of (Image error) retired = Some (image_line error)
line_of (NotYet file) retired = Some (codes "not yet " ++ file_word file ++ codes "\n")
line_of (NoFile file) retired = Some (codes "no file: " ++ file_word file ++ codes "\n")
line_of ReadFault retired = Some (codes "read fault\n")
line_of WriteFault retired = Some (codes "write fault\n")
line_of OutOfMemory retired = Some (codes "out of memory\n")

-- a run is told on the notes, but for that of a `make`
abbrev pub is_reported : Option Command → TopEnd → Bool
is_reported (Some (asks.Make names)) (Run end) = false
is_reported row end = true

-- the line of an answer where it is told
abbrev pub line_where : Bool → TopEnd → ℕ → Option (List ℕ)
line_where true end retired = line_of end retired
line_where false end retired = None

-- what notes took of a line: all of it where it was noted, else a front; where there is no line, nothing, and all is noted
abbrev pub Notes : Option (List ℕ) → Bool → Option (List ℕ) → Option (List ℕ) → Type 0
Notes None noted old new = (noted ≡ true) × (new ≡ old)
Notes (Some line) true old new = Appends old new line
Notes (Some line) false old new = AppendsFront old new line
