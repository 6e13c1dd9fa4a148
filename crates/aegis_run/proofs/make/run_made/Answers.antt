use Rattle.std.proofs.Common.{◌≡◌, [], refl}
use Rattle.aegis_run.specs.declared.ends.TopEnd.TheVariants.{OutOfMemory}
use Rattle.aegis_run.proofs.MakeLemmas.{made_from, made_room, made_unbuilt, short_enough}
use Rattle.aegis_run.proofs.ReadingLemmas.{handed_on}
use Rattle.aegis_run.proofs.make.run_made.Goals as goal

pub build-requires : goal.build-requires
build-requires c = short_enough c.args.number c.in-Ok.source.items c.as_slice.result.now c.requires.most c.as_slice.ensures.value c.in-Ok.ensures

pub returns-in_err-image-clause-wanting : goal.returns-in_err-image-clause-wanting
returns-in_err-image-clause-wanting c =
    handed_on c.from_residual.result c.in_err-image.field-0.0 (λ end. end ≡ OutOfMemory) c.from_residual.ensures.1
    (made_unbuilt c.args.number c.in-Ok.source.items c.as_slice.result.now c.in_err-image.field-0.0 c.requires.some c.requires.most c.as_slice.ensures.value c.in-Ok.ensures c.in_err-image.ensures.refused)

pub run_compiled-requires-clause-room : goal.run_compiled-requires-clause-room
run_compiled-requires-clause-room c = made_room c.in_ok-image.image [] c.in-Ok-with_room.taken c.in-Ok-with_room.ensures.new

pub returns-in-Ok-run_compiled-clause-made : goal.returns-in-Ok-run_compiled-clause-made
returns-in-Ok-run_compiled-clause-made c =
    made_from c.args.number c.in-Ok.source.items c.as_slice.result.now [] c.in_ok-image.image c.in-Ok-run_compiled.ran.end c.end_of.result c.in-Ok-run_compiled.ran.retired
    c.in-Ok-with_room.taken c.run_compiled.new.out c.requires.some c.requires.most c.as_slice.ensures.value c.in-Ok.ensures c.in_ok-image.ensures.built refl
    c.in-Ok-with_room.ensures.new c.end_of.ensures c.in-Ok-run_compiled.ensures.meant c.in-Ok-run_compiled.ensures.steps c.in-Ok-run_compiled.ensures.fault
