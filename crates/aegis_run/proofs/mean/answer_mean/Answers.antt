use Rattle.c_resolver.specs.Resolving.{plain_program}
use Rattle.c_semantics.specs.Meaning.{mean_alone}
use Rattle.aegis_words.specs.KeptWords.{mean_names_of}
use Rattle.aegis_run.proofs.CommandLemmas.{mean_answered, mean_sent, mean_silent, unwritten}
use Rattle.aegis_run.proofs.mean.answer_mean.Goals as goal

pub returns-in-Ok-clause-cause : goal.returns-in-Ok-clause-cause
returns-in-Ok-clause-cause g c =
    mean_answered _ (mean_names_of c.args.names.now) _ _ _ _ c.in-Ok.accepted.program c.in-Ok.accepted.input.items
    (mean_alone (plain_program c.in-Ok.accepted.program) c.in-Ok.accepted.input.items c.args.names.now.turns)
    (g.K.Sink.written c.args.out.now) (g.K.Sink.written c.write_meaning.new.out) c.write_meaning.result c.in-Ok.ensures.ready c.write_meaning.ensures.sends

pub returns-in-Ok-clause-folder_count : goal.returns-in-Ok-clause-folder_count
returns-in-Ok-clause-folder_count g c = λ other. c.in-Ok.ensures.ready.read.steady

pub returns-in-Ok-clause-mean : goal.returns-in-Ok-clause-mean
returns-in-Ok-clause-mean g c =
    mean_sent _ (mean_names_of c.args.names.now) _ _ _ _ c.in-Ok.accepted.program c.in-Ok.accepted.input.items
    (g.K.Sink.written c.args.out.now) (g.K.Sink.written c.write_meaning.new.out) c.write_meaning.result c.in-Ok.ensures.ready c.write_meaning.ensures.sends

pub returns-in-Err-clause-cause : goal.returns-in-Err-clause-cause
returns-in-Err-clause-cause g c = c.in-Err.ensures.refused.answered

pub returns-in-Err-clause-folder_count : goal.returns-in-Err-clause-folder_count
returns-in-Err-clause-folder_count g c = c.in-Err.ensures.refused.steady

pub returns-in-Err-clause-mean : goal.returns-in-Err-clause-mean
returns-in-Err-clause-mean g c = mean_silent _ (mean_names_of c.args.names.now) c.in-Err.end _ c.in-Err.ensures.refused.silent

pub returns-in-Err-clause-out_count : goal.returns-in-Err-clause-out_count
returns-in-Err-clause-out_count g c = unwritten c.in-Err.end _ c.in-Err.ensures.refused.silent
