use Rattle.std.proofs.Common.{◌≡◌, ◌⊎◌, Some, sym, subst}
use Rattle.aegis_words.specs.CommandTable.{command_in}
use Rattle.aegis_words.specs.CommandTable as asks
use Rattle.aegis_words.specs.KeptWords.{make_names_of}
use Rattle.aegis_run.specs.declared.ends.TopEnd.TheVariants.{OutOfMemory}
use Rattle.aegis_run.specs.Causes.{Cause}
use Rattle.aegis_run.specs.MakeCommand.{IsOwnOfMake}
use Rattle.aegis_run.proofs.MakeLemmas.{make_answered}
use Rattle.aegis_run.proofs.answer.answer_words.Goals as goal

pub returns-in-Some-Make-clause-cause : goal.returns-in-Some-Make-clause-cause
returns-in-Some-Make-clause-cause g c =
    let told : Some (asks.Make (make_names_of c.in-Some-Make.names)) ≡ command_in c.args.words.now = rw c.in-Some-Make.field-0-is at c.in-Some-Make.ensures.command in
    subst (λ row. Cause (g.F.Folder.files c.args.folder.now) row (g.F.Folder.faults c.args.folder.now) (g.F.Folder.faults c.args.folder.now)
    (g.F.Folder.asked c.args.folder.now) (g.F.Folder.asked c.args.folder.now) c.outcome_of_make.result.end) told
    (make_answered (g.F.Folder.files c.args.folder.now) (make_names_of c.in-Some-Make.names) (g.F.Folder.faults c.args.folder.now) (g.F.Folder.asked c.args.folder.now) c.outcome_of_make.result.end
    (subst (λ end. IsOwnOfMake end ⊎ (end ≡ OutOfMemory)) (sym c.outcome_of_make.ensures.end) c.answer_make.ensures.cause))
