use Rattle.aegis_run.proofs.RunLemmas.{ran_sends, ran_rises, unlimited_within}
use Rattle.aegis_run.proofs.run.run_prepared.Goals as goal

pub run_compiled-requires-clause-room : goal.run_compiled-requires-clause-room
run_compiled-requires-clause-room g c = unlimited_within _ _ c.requires.unlimited

pub returns-in-Ok-clause-sends : goal.returns-in-Ok-clause-sends
returns-in-Ok-clause-sends g c = λ program compiled.
    ran_sends program c.args.prepared.now.image c.args.prepared.now.input.items c.as_slice.result.now c.args.fuel c.in-Ok.ran.end c.end_of.result c.in-Ok.ran.retired
    (g.K.Sink.written c.args.out.now) (g.K.Sink.written c.run_compiled.new.out) c.as_slice.ensures.value c.end_of.ensures (c.in-Ok.ensures.meant program compiled) c.in-Ok.ensures.steps

pub returns-in-Ok-clause-out_count : goal.returns-in-Ok-clause-out_count
returns-in-Ok-clause-out_count g c = ran_rises c.in-Ok.ran.end c.end_of.result c.in-Ok.ran.retired _ _ c.end_of.ensures c.in-Ok.ensures.fault c.in-Ok.ensures.steady
