use Rattle.compiled_run.proofs.Runs.{ran_as_meant, ran_in_steps}
use Rattle.compiled_run.proofs.running.run_compiled.Goals as goal

pub returns-clause-meant : goal.returns-clause-meant
returns-clause-meant g c =
    ran_as_meant c.args.image.now c.args.input.now c.args.fuel c.run_image.result (g.K.Sink.written c.args.out.now) (g.K.Sink.written c.run_image.new.out)
    c.run_image.ensures.ended c.run_image.ensures.fuel_out c.run_image.ensures.delivered c.run_image.ensures.cut_short

pub returns-clause-steps : goal.returns-clause-steps
returns-clause-steps g c =
    ran_in_steps c.args.image.now c.args.input.now c.args.fuel c.run_image.result (g.K.Sink.written c.args.out.now) (g.K.Sink.written c.run_image.new.out)
    c.run_image.ensures.ended c.run_image.ensures.fuel_out c.run_image.ensures.delivered c.run_image.ensures.cut_short
