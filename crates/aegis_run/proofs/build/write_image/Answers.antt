use Rattle.std.proofs.Common.{◌∙◌}
use Rattle.image_file.specs.ImageTable.{bytes_of}
use Rattle.aegis_run.proofs.BuildLemmas.{front_same}
use Rattle.aegis_run.proofs.build.write_image.Goals as goal

pub returns-in-Ok-clause-sends : goal.returns-in-Ok-clause-sends
returns-in-Ok-clause-sends g c =
    front_same (g.K.Sink.written c.args.out.now) (g.K.Sink.written c.write.new.self) c.as_slice.result.now (bytes_of c.args.image.now)
    (c.as_slice.ensures.value ∙ c.in-Ok.ensures) c.in-Err-write.ensures.front
