use Rattle.aegis_words.specs.KeptWords.{names_of}
use Rattle.aegis_run.proofs.CommandLemmas.{unwritten}
use Rattle.aegis_run.proofs.RunLemmas.{run_answered, run_not_started, run_sent, run_silent}
use Rattle.aegis_run.proofs.run.answer_run.Goals as goal

pub run_prepared-requires-clause-compiled : goal.run_prepared-requires-clause-compiled
run_prepared-requires-clause-compiled g c = (c.in-Ok.ensures.ready.built.program, c.in-Ok.ensures.ready.built.compiled)

pub returns-in-Ok-clause-cause : goal.returns-in-Ok-clause-cause
returns-in-Ok-clause-cause g c =
    run_answered _ (names_of c.args.names.now) _ _ _ _ c.in-Ok.prepared.image c.in-Ok.prepared.input.items c.in-Ok.ensures.ready.built.program c.run_prepared.result.retired
    (g.K.Sink.written c.args.out.now) (g.K.Sink.written c.run_prepared.new.out) c.run_prepared.result.end c.in-Ok.ensures.ready
    (c.run_prepared.ensures.sends c.in-Ok.ensures.ready.built.program c.in-Ok.ensures.ready.built.compiled)

pub returns-in-Ok-clause-folder_count : goal.returns-in-Ok-clause-folder_count
returns-in-Ok-clause-folder_count g c = λ other. c.in-Ok.ensures.ready.read.steady

pub returns-in-Ok-clause-run : goal.returns-in-Ok-clause-run
returns-in-Ok-clause-run g c =
    (run_sent _ (names_of c.args.names.now) _ _ _ _ c.in-Ok.prepared.image c.in-Ok.prepared.input.items c.run_prepared.result.retired
    (g.K.Sink.written c.args.out.now) (g.K.Sink.written c.run_prepared.new.out) c.run_prepared.result.end c.in-Ok.ensures.ready
    (c.run_prepared.ensures.sends c.in-Ok.ensures.ready.built.program c.in-Ok.ensures.ready.built.compiled)).0

pub returns-in-Ok-clause-image : goal.returns-in-Ok-clause-image
returns-in-Ok-clause-image g c =
    (run_sent _ (names_of c.args.names.now) _ _ _ _ c.in-Ok.prepared.image c.in-Ok.prepared.input.items c.run_prepared.result.retired
    (g.K.Sink.written c.args.out.now) (g.K.Sink.written c.run_prepared.new.out) c.run_prepared.result.end c.in-Ok.ensures.ready
    (c.run_prepared.ensures.sends c.in-Ok.ensures.ready.built.program c.in-Ok.ensures.ready.built.compiled)).1

pub returns-in-Err-clause-cause : goal.returns-in-Err-clause-cause
returns-in-Err-clause-cause g c = c.in-Err.ensures.refused.answered

pub returns-in-Err-clause-folder_count : goal.returns-in-Err-clause-folder_count
returns-in-Err-clause-folder_count g c = c.in-Err.ensures.refused.steady

pub returns-in-Err-clause-run : goal.returns-in-Err-clause-run
returns-in-Err-clause-run g c = run_silent _ (names_of c.args.names.now) c.in-Err.end _ c.in-Err.ensures.refused.silent

pub returns-in-Err-clause-image : goal.returns-in-Err-clause-image
returns-in-Err-clause-image g c = run_not_started _ (names_of c.args.names.now) c.in-Err.end 0 _ _ c.in-Err.ensures.refused.silent

pub returns-in-Err-clause-out_count : goal.returns-in-Err-clause-out_count
returns-in-Err-clause-out_count g c = unwritten c.in-Err.end _ c.in-Err.ensures.refused.silent
