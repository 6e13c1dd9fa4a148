-- The definitions on worked examples.
use Rattle.std.proofs.Common.{◌≡◌, true, false, None, Some, ◌++◌, refl, ◌∙◌, ap, arith}
use Rattle.std.specs.Prelude.{codes, decimal}
use Rattle.std.proofs.lemmas.Fmt.{decimal_digit}
use Rattle.aegis_words.specs.declared.file.File.TheVariants.{Source, Script}
use Rattle.aegis_words.specs.declared.file.File.TheVariants as kinds
use Rattle.aegis_run.specs.declared.ends.End.TheVariants.{Ended}
use Rattle.aegis_run.specs.declared.ends.End.TheVariants as run
use Rattle.c_evaluator.specs.declared.mean_end.MeanEnd.TheVariants as mean
use Rattle.aegis_run.specs.declared.ends.TopEnd.TheVariants.{Done, Run, Mean, Usage, TooLong, Token, Syntax, Plan, Image, NotYet, NoFile}
use Rattle.image_file.specs.declared.error.ImageError.TheVariants as image
use Rattle.region_plan.specs.declared.error.PlanError.TheVariants as plan
use Rattle.c_token.specs.declared.kinds.TokenError.TheVariants as token
use Rattle.c_reader.specs.declared.error.SyntaxError.TheVariants as syntax
use Rattle.aegis_run.specs.Report.{line_of, status_of}
use Rattle.compiled_run.specs.RunMeaning.{turns_with}

-- a run with no fuel can begin 64 turns before its first instruction
turns_of_a_run : (turns_with 0 ≡ 64) × (turns_with 2 ≡ 192)
turns_of_a_run = (refl, refl)

line_of_run : line_of (Run Ended) 5 ≡ Some (codes "ended retired 5 events 0\n")
line_of_run = ap (λ digits. Some (codes "ended retired " ++ digits ++ codes " events 0\n")) (decimal_digit 5 (omega arith))

line_of_fuel : line_of (Run (run.FuelOut 5)) 5 ≡ Some (codes "fuel retired 5 events 0\n")
line_of_fuel = ap (λ digits. Some (codes "fuel retired " ++ digits ++ codes " events 0\n")) (decimal_digit 5 (omega arith))

line_of_trap : (line_of (Run (run.Index 7)) 5 ≡ Some (codes "index token 7 retired 5 events 0\n")) × (line_of (Run (run.Divide 7)) 5 ≡ Some (codes "divide token 7 retired 5 events 0\n"))
line_of_trap = (
  ap (λ place. Some (codes "index token " ++ place ++ codes " retired " ++ decimal 5 ++ codes " events 0\n")) (decimal_digit 7 (omega arith))
      ∙ ap (λ digits. Some (codes "index token 7 retired " ++ digits ++ codes " events 0\n")) (decimal_digit 5 (omega arith)),
  ap (λ place. Some (codes "divide token " ++ place ++ codes " retired " ++ decimal 5 ++ codes " events 0\n")) (decimal_digit 7 (omega arith))
      ∙ ap (λ digits. Some (codes "divide token 7 retired " ++ digits ++ codes " events 0\n")) (decimal_digit 5 (omega arith)),
)

statuses_of_runs : (status_of (Run Ended) true ≡ 0) × (status_of (Run (run.Index 1)) true ≡ 10) × (status_of (Run (run.Divide 1)) true ≡ 11) × (status_of (Run (run.FuelOut 1)) true ≡ 30)
    × (status_of (Run run.WriteFault) true ≡ 5)
statuses_of_runs = (refl, refl, refl, refl, refl)

line_of_index : line_of (Mean (mean.Index 7)) 0 ≡ Some (codes "index token 7\n")
line_of_index = ap (λ digits. Some (codes "index token " ++ digits ++ codes "\n")) (decimal_digit 7 (omega arith))

line_of_divide : line_of (Mean (mean.Divide 9)) 0 ≡ Some (codes "divide token 9\n")
line_of_divide = ap (λ digits. Some (codes "divide token " ++ digits ++ codes "\n")) (decimal_digit 9 (omega arith))

line_of_turns : (line_of (Mean mean.Turns) 0 ≡ Some (codes "turns\n")) × (line_of (Mean mean.Ended) 0 ≡ Some (codes "ended\n"))
line_of_turns = (refl, refl)

statuses : (status_of (Mean mean.Ended) true ≡ 0) × (status_of (Mean (mean.Index 1)) true ≡ 10) × (status_of (Mean (mean.Divide 1)) true ≡ 11) × (status_of (Mean mean.Turns) true ≡ 30)
statuses = (refl, refl, refl, refl)

statuses_of_files : (status_of Done true ≡ 0) × (status_of (TooLong kinds.Image) true ≡ 7) × (status_of (Plan (plan.TreeFull 6562)) true ≡ 7) × (status_of (Image image.Magic) true ≡ 8)
statuses_of_files = (refl, refl, refl, refl)

line_of_plan : (line_of (Plan (plan.TreeFull 7)) 0 ≡ Some (codes "tree full 7\n")) × (line_of (Plan (plan.LogFull 7)) 0 ≡ Some (codes "log full 7\n"))
    × (line_of (Plan (plan.OpenFull 7)) 0 ≡ Some (codes "open full 7\n"))
line_of_plan = (
  ap (λ digits. Some (codes "tree full " ++ digits ++ codes "\n")) (decimal_digit 7 (omega arith)),
  ap (λ digits. Some (codes "log full " ++ digits ++ codes "\n")) (decimal_digit 7 (omega arith)),
  ap (λ digits. Some (codes "open full " ++ digits ++ codes "\n")) (decimal_digit 7 (omega arith)),
)

line_of_image : (line_of (Image (image.Short 7)) 0 ≡ Some (codes "image: short 7\n")) × (line_of (Image (image.Version 2)) 0 ≡ Some (codes "image: version 2\n"))
    × (line_of (Image (image.Field 8)) 0 ≡ Some (codes "image: field 8\n")) × (line_of (Image (image.Trailing 9)) 0 ≡ Some (codes "image: trailing 9\n"))
line_of_image = (
  ap (λ digits. Some (codes "image: short " ++ digits ++ codes "\n")) (decimal_digit 7 (omega arith)),
  ap (λ digits. Some (codes "image: version " ++ digits ++ codes "\n")) (decimal_digit 2 (omega arith)),
  ap (λ digits. Some (codes "image: field " ++ digits ++ codes "\n")) (decimal_digit 8 (omega arith)),
  ap (λ digits. Some (codes "image: trailing " ++ digits ++ codes "\n")) (decimal_digit 9 (omega arith)),
)

lines_of_lists : (line_of (Image image.Magic) 0 ≡ Some (codes "image: magic\n")) × (line_of Done 0 ≡ None)
    × (line_of (NoFile kinds.Image) 0 ≡ Some (codes "no file: image\n")) × (line_of (TooLong kinds.Image) 0 ≡ Some (codes "too long: image\n"))
lines_of_lists = (refl, refl, refl, refl)

line_of_byte : line_of (Token (token.BadByte 5)) 0 ≡ Some (codes "byte 5: bad byte\n")
line_of_byte = ap (λ digits. Some (codes "byte " ++ digits ++ codes ": bad byte\n")) (decimal_digit 5 (omega arith))

line_of_token : line_of (Syntax (syntax.Expected 7)) 0 ≡ Some (codes "token 7: unexpected\n")
line_of_token = ap (λ digits. Some (codes "token " ++ digits ++ codes ": unexpected\n")) (decimal_digit 7 (omega arith))

line_of_nesting : line_of (Syntax (syntax.Deep 9)) 0 ≡ Some (codes "token 9: nested too deep\n")
line_of_nesting = ap (λ digits. Some (codes "token " ++ digits ++ codes ": nested too deep\n")) (decimal_digit 9 (omega arith))

line_of_source : line_of (NotYet Source) 0 ≡ Some (codes "not yet source\n")
line_of_source = refl

line_of_script : line_of (NotYet Script) 0 ≡ Some (codes "not yet script\n")
line_of_script = refl

unwritten : status_of Usage false ≡ 5
unwritten = refl
