use Rattle.aegis_run.specs.FilesRead.{AcceptCause, end_of_syntax}
use Rattle.aegis_run.proofs.ReadingLemmas.{handed_on}
use Rattle.aegis_run.proofs.SyntaxLemmas.{syntax_refused}
use Rattle.aegis_run.proofs.files.accept.Goals as goal

pub returns-in_err-program-clause-refused : goal.returns-in_err-program-clause-refused
returns-in_err-program-clause-refused c =
    handed_on c.from_residual-in_err-program.result (end_of_syntax c.in_err-program.field-0.0) (λ end. AcceptCause c.args.text.now end)
    c.from_residual-in_err-program.ensures.1
    (syntax_refused c.args.text.now c.as_slice.result.now c.in_ok-tokens.tokens.items c.in_err-program.field-0.0
    c.in_ok-tokens.ensures.tokens c.as_slice.ensures.value c.in_err-program.ensures.refused)
