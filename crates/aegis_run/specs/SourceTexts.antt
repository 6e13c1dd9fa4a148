-- Promise: which source text keeps all rules, and why one is refused.
use Rattle.std.specs.Prelude.{◌≡◌, ℕ, List, None, Some}
use Rattle.c_grammar.specs.declared.item.Program.{Program}
use Rattle.c_grammar.specs.TokenPrograms.{HasProgram}
use Rattle.c_reader.specs.declared.error.SyntaxError.TheVariants as syntax
use Rattle.c_reader.specs.SourceText.{HasTokenFault, HasSyntaxFault}
use Rattle.c_token.specs.declared.kinds.TokenError.TheVariants as token
use Rattle.c_types.specs.Checked.{IsTyped, IsRefusedByTypes}
use Rattle.c_types.specs.declared.error.TypeError.{TypeError}
use Rattle.c_types.specs.declared.error.TypeError.TheVariants as type
use Rattle.region_plan.specs.declared.PlanError.{PlanError}
use Rattle.compiler.specs.MemoryUse.{source_fault}
use Rattle.aegis_run.specs.declared.ends.TopEnd.{TopEnd}
use Rattle.aegis_run.specs.declared.ends.TopEnd.TheVariants.{Token, Syntax, Typing, Plan}

-- the text is this program, which keeps the typing rules
pub record IsSource (text : List ℕ) (program : Program) : Type 0 where
  pub is_text : HasProgram text program
  pub typed : IsTyped program

-- the program of the text breaks a typing rule, or has no `main`
pub record HasTypeFault (text : List ℕ) (error : TypeError) : Type 0 where
  pub program : Program
  pub is_text : HasProgram text program
  pub refused : IsRefusedByTypes program error

-- Why a text is no program that keeps the typing rules, and which answer says so. Want of memory is no such reason.
abbrev pub SourceFault : List ℕ → TopEnd → Type 0
SourceFault text (Token token.OutOfMemory) = ⊥
SourceFault text (Token error) = HasTokenFault text error
SourceFault text (Syntax syntax.OutOfMemory) = ⊥
SourceFault text (Syntax error) = HasSyntaxFault text error
SourceFault text (Typing type.OutOfMemory) = ⊥
SourceFault text (Typing error) = HasTypeFault text error
SourceFault text end = ⊥

-- the text is a program that keeps the typing rules, and an image of it passes no limit
pub record IsBuildable (text : List ℕ) : Type 0 where
  pub program : Program
  pub is_source : IsSource text program
  pub fits : source_fault program ≡ None

-- the text is a program that keeps the typing rules, and this is the first limit that an image of it passes
pub record HasPlanFault (text : List ℕ) (error : PlanError) : Type 0 where
  pub program : Program
  pub is_source : IsSource text program
  pub passes : source_fault program ≡ Some error

-- why a text has no image, and which answer says so
abbrev pub BuildFault : List ℕ → TopEnd → Type 0
BuildFault text (Plan error) = HasPlanFault text error
BuildFault text end = SourceFault text end
