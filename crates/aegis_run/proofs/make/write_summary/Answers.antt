use Rattle.aegis_run.proofs.MakeLemmas.{run_steady}
use Rattle.aegis_run.proofs.make.write_summary.Goals as goal

pub returns-in-Ok-write-clause-out_count : goal.returns-in-Ok-write-clause-out_count
returns-in-Ok-write-clause-out_count g c = run_steady c.args.made.now.end (g.K.Sink.faults c.args.out.now) (g.K.Sink.faults c.write.new.self) c.requires.ends c.in-Ok-write.ensures.steady
