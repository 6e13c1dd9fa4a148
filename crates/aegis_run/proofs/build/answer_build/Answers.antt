use Rattle.image_file.specs.ImageTable.{bytes_of}
use Rattle.aegis_words.specs.KeptWords.{build_names_of}
use Rattle.aegis_run.proofs.BuildLemmas.{build_answered, build_sent, build_silent}
use Rattle.aegis_run.proofs.CommandLemmas.{unwritten}
use Rattle.aegis_run.proofs.build.answer_build.Goals as goal

pub returns-in-Ok-clause-cause : goal.returns-in-Ok-clause-cause
returns-in-Ok-clause-cause g c =
    build_answered _ (build_names_of c.args.names.now) _ _ _ _ c.in-Ok.image (bytes_of c.in-Ok.image)
    (g.K.Sink.written c.args.out.now) (g.K.Sink.written c.write_image.new.out) c.write_image.result c.in-Ok.ensures.ready c.write_image.ensures.sends

pub returns-in-Ok-clause-folder_count : goal.returns-in-Ok-clause-folder_count
returns-in-Ok-clause-folder_count g c = λ other. c.in-Ok.ensures.ready.read.steady

pub returns-in-Ok-clause-build : goal.returns-in-Ok-clause-build
returns-in-Ok-clause-build g c =
    build_sent _ (build_names_of c.args.names.now) _ _ _ _ c.in-Ok.image
    (g.K.Sink.written c.args.out.now) (g.K.Sink.written c.write_image.new.out) c.write_image.result c.in-Ok.ensures.ready c.write_image.ensures.sends

pub returns-in-Err-clause-cause : goal.returns-in-Err-clause-cause
returns-in-Err-clause-cause g c = c.in-Err.ensures.refused.answered

pub returns-in-Err-clause-folder_count : goal.returns-in-Err-clause-folder_count
returns-in-Err-clause-folder_count g c = c.in-Err.ensures.refused.steady

pub returns-in-Err-clause-build : goal.returns-in-Err-clause-build
returns-in-Err-clause-build g c = build_silent _ (build_names_of c.args.names.now) c.in-Err.end _ c.in-Err.ensures.refused.silent

pub returns-in-Err-clause-out_count : goal.returns-in-Err-clause-out_count
returns-in-Err-clause-out_count g c = unwritten c.in-Err.end _ c.in-Err.ensures.refused.silent
