use Rattle.std.proofs.Common.{subst, sym}
use Rattle.aegis_run.specs.declared.ends.TopEnd.{TopEnd}
use Rattle.aegis_run.specs.FilesRead.{CompileCause}
use Rattle.aegis_run.proofs.CommandLemmas.{compile_fits, compile_refused}
use Rattle.aegis_run.proofs.files.image_of.Goals as goal

pub returns-in-Ok-clause-fits : goal.returns-in-Ok-clause-fits
returns-in-Ok-clause-fits c = compile_fits c.args.program.now c.compile.result c.in-Ok.image c.in-Ok.is c.compile.ensures.full

pub returns-in-Err-clause-refused : goal.returns-in-Err-clause-refused
returns-in-Err-clause-refused c =
    let P : TopEnd → Type 0 = λ end. CompileCause c.args.program.now end in
    subst P (sym c.from.ensures) (compile_refused c.args.program.now c.compile.result c.in-Err.error c.in-Err.is c.compile.ensures.full c.compile.ensures.fits)
