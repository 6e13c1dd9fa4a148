use Rattle.aegis_words.specs.KeptWords.{list_names_of}
use Rattle.aegis_run.proofs.CommandLemmas.{unwritten}
use Rattle.aegis_run.proofs.ListLemmas.{list_answered, list_sent, list_silent}
use Rattle.aegis_run.proofs.list.answer_list.Goals as goal

pub returns-in-Ok-clause-cause : goal.returns-in-Ok-clause-cause
returns-in-Ok-clause-cause g c =
    list_answered _ (list_names_of c.args.names.now) _ _ _ _ c.in-Ok.image c.in-Ok.image.code
    (g.K.Sink.written c.args.out.now) (g.K.Sink.written c.write_listing.new.out) c.write_listing.result c.in-Ok.ensures.ready c.write_listing.ensures.sends

pub returns-in-Ok-clause-folder_count : goal.returns-in-Ok-clause-folder_count
returns-in-Ok-clause-folder_count g c = λ other. c.in-Ok.ensures.ready.read.steady

pub returns-in-Ok-clause-list : goal.returns-in-Ok-clause-list
returns-in-Ok-clause-list g c =
    list_sent _ (list_names_of c.args.names.now) _ _ _ _ c.in-Ok.image
    (g.K.Sink.written c.args.out.now) (g.K.Sink.written c.write_listing.new.out) c.write_listing.result c.in-Ok.ensures.ready c.write_listing.ensures.sends

pub returns-in-Err-clause-cause : goal.returns-in-Err-clause-cause
returns-in-Err-clause-cause g c = c.in-Err.ensures.refused.answered

pub returns-in-Err-clause-folder_count : goal.returns-in-Err-clause-folder_count
returns-in-Err-clause-folder_count g c = c.in-Err.ensures.refused.steady

pub returns-in-Err-clause-list : goal.returns-in-Err-clause-list
returns-in-Err-clause-list g c = list_silent _ (list_names_of c.args.names.now) c.in-Err.end _ c.in-Err.ensures.refused.silent

pub returns-in-Err-clause-out_count : goal.returns-in-Err-clause-out_count
returns-in-Err-clause-out_count g c = unwritten c.in-Err.end _ c.in-Err.ensures.refused.silent
