-- Promise: the text that a program is printed as, which programs have one, and what is read back of it.
use Rattle.std.specs.Prelude.{◌≡◌, ℕ, List, true}
use Rattle.std.specs.List.{list_all}
use Rattle.c_token.specs.declared.kinds.Kind.{Kind}
use Rattle.c_token.specs.PlainText.{plain_text, is_in_form}
use Rattle.c_grammar.specs.declared.Program.{Program}
use Rattle.c_grammar.specs.TokenPrograms.{AreProgram, HasProgram}
use Rattle.c_grammar.specs.Bare.{bare}
use Rattle.c_printer.specs.PrintedTokens.{program_kinds}

-- The text of a program: its tokens in their plain spelling, with one space between two.
abbrev pub program_text : Program → List ℕ
program_text program = plain_text (program_kinds program)

-- A program that can be printed: the grammar gives it to some tokens in form, within the limits.
pub record IsPrintable (program : Program) : Type 0 where
  pub tokens : List Kind
  pub in_form : list_all is_in_form tokens ≡ true
  pub reads : AreProgram tokens program

-- The program of the text is one that differs from this one in token numbers alone.
pub record ReadsBack (program : Program) (text : List ℕ) : Type 0 where
  pub again : Program
  pub read : HasProgram text again
  pub same : bare again ≡ bare program

-- The program of a text can be printed.
abbrev pub ReadIsPrintable : Type 0
ReadIsPrintable = (text : List ℕ) (program : Program) → HasProgram text program → IsPrintable program
