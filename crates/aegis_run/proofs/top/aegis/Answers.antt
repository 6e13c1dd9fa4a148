use Rattle.std.proofs.Common.{sym, subst}
use Rattle.std.specs.Prelude.{map, string_bytes}
use Rattle.aegis_words.specs.CommandTable.{command_in}
use Rattle.aegis_run.specs.BuildCommand.{BuildCommand}
use Rattle.aegis_run.specs.Causes.{Cause}
use Rattle.aegis_run.specs.FilesRead.{IfBuild, IfList, IfMake, IfMean}
use Rattle.aegis_run.specs.ListCommand.{ListCommand}
use Rattle.aegis_run.specs.MakeCommand.{MakeCommand}
use Rattle.aegis_run.specs.MeanCommand.{MeanCommand}
use Rattle.aegis_run.proofs.CauseLemmas.{usage_where, refused_where, complete_where, run_line, run_told, told_line}
use Rattle.aegis_run.proofs.RowLemmas.{of_build_row, of_list_row, of_make_row, of_mean_row, of_run_row}
use Rattle.aegis_run.proofs.top.aegis.Goals as goal

pub returns-clause-usage : goal.returns-clause-usage
returns-clause-usage g c =
    usage_where (g.F.Folder.files c.args.folder.now) (command_in c.args.words.now) _ _ _ _ c.noted.result.end
    (subst (Cause _ _ _ _ _ _) (sym c.noted.ensures.end) c.answer_words-outcome.ensures.cause)

pub returns-clause-refused : goal.returns-clause-refused
returns-clause-refused g c =
    refused_where (g.F.Folder.files c.args.folder.now) (command_in c.args.words.now) _ _ _ _ c.noted.result.end
    (subst (Cause _ _ _ _ _ _) (sym c.noted.ensures.end) c.answer_words-outcome.ensures.cause)

pub returns-clause-complete : goal.returns-clause-complete
returns-clause-complete g c =
    complete_where (g.F.Folder.files c.args.folder.now) (command_in c.args.words.now) _ _ _ _ c.noted.result.end
    (subst (Cause _ _ _ _ _ _) (sym c.noted.ensures.end) c.answer_words-outcome.ensures.cause)

pub returns-clause-run : goal.returns-clause-run
returns-clause-run g c =
    of_run_row (map string_bytes c.args.words.now) _
    (run_told (g.F.Folder.files c.args.folder.now) (command_in c.args.words.now) c.answer_words-outcome.result.end c.noted.result.end
    (g.K.Sink.written c.args.out.now) (g.K.Sink.written c.answer_words-outcome.new.out) c.noted.ensures.end c.answer_words-outcome.ensures.run)

pub returns-clause-image : goal.returns-clause-image
returns-clause-image g c =
    of_run_row (map string_bytes c.args.words.now) _
    (run_line (g.F.Folder.files c.args.folder.now) (command_in c.args.words.now) c.answer_words-outcome.result.end c.noted.result.end c.answer_words-outcome.result.retired c.answer_words-outcome.result.reported c.noted.result.noted
    (g.K.Sink.written c.args.out.now) (g.K.Sink.written c.answer_words-outcome.new.out) (g.N.Sink.written c.args.notes.now) (g.N.Sink.written c.noted.new.notes)
    c.noted.ensures.end c.answer_words-outcome.ensures.image c.answer_words-outcome.ensures.reported c.noted.ensures.line)

pub returns-clause-mean : goal.returns-clause-mean
returns-clause-mean g c =
    of_mean_row (map string_bytes c.args.words.now) _
    (subst (λ end. IfMean (command_in c.args.words.now) (λ names. MeanCommand (g.F.Folder.files c.args.folder.now) names end (g.K.Sink.written c.args.out.now) (g.K.Sink.written c.answer_words-outcome.new.out)))
    (sym c.noted.ensures.end) c.answer_words-outcome.ensures.mean)

pub returns-clause-build : goal.returns-clause-build
returns-clause-build g c =
    of_build_row (map string_bytes c.args.words.now) _
    (subst (λ end. IfBuild (command_in c.args.words.now) (λ names. BuildCommand (g.F.Folder.files c.args.folder.now) names end (g.K.Sink.written c.args.out.now) (g.K.Sink.written c.answer_words-outcome.new.out)))
    (sym c.noted.ensures.end) c.answer_words-outcome.ensures.build)

pub returns-clause-list : goal.returns-clause-list
returns-clause-list g c =
    of_list_row (map string_bytes c.args.words.now) _
    (subst (λ end. IfList (command_in c.args.words.now) (λ names. ListCommand (g.F.Folder.files c.args.folder.now) names end (g.K.Sink.written c.args.out.now) (g.K.Sink.written c.answer_words-outcome.new.out)))
    (sym c.noted.ensures.end) c.answer_words-outcome.ensures.list)

pub returns-clause-make : goal.returns-clause-make
returns-clause-make g c =
    of_make_row (map string_bytes c.args.words.now) _
    (subst (λ end. IfMake (command_in c.args.words.now) (λ names. MakeCommand names end (g.K.Sink.written c.args.out.now) (g.K.Sink.written c.answer_words-outcome.new.out)))
    (sym c.noted.ensures.end) c.answer_words-outcome.ensures.make)

pub returns-clause-line : goal.returns-clause-line
returns-clause-line g c =
    told_line (command_in c.args.words.now) c.answer_words-outcome.result.end c.noted.result.end c.answer_words-outcome.result.retired c.answer_words-outcome.result.reported c.noted.result.noted
    (g.N.Sink.written c.args.notes.now) (g.N.Sink.written c.noted.new.notes) c.noted.ensures.end c.answer_words-outcome.ensures.reported c.noted.ensures.line
