use Rattle.std.proofs.Common.{[], refl}
use Rattle.aegis_words.specs.declared.file.File.TheVariants.{Source}
use Rattle.aegis_words.specs.CommandTable as asks
use Rattle.aegis_words.specs.KeptWords.{build_names_of}
use Rattle.aegis_run.proofs.BuildLemmas.{build_ready, build_stopped}
use Rattle.aegis_run.proofs.ReadingLemmas.{begun, open_stopped}
use Rattle.aegis_run.proofs.build.prepare.Goals as goal

pub returns-in_err-source-clause-refused : goal.returns-in_err-source-clause-refused
returns-in_err-source-clause-refused g c =
    open_stopped (g.F.Folder.files c.args.folder.now) _ (asks.Build (build_names_of c.args.names.now)) (record { file = Source; name = c.args.names.now.source.now }) _ _ _ _ _ _ []
    c.from_residual.result c.in_err-source.field-0.0 c.from_residual.ensures.1 (begun _ _ _ (g.F.Folder.asked c.args.folder.now)) refl c.in_err-source.ensures.asked
    refl c.in_err-source.ensures.refused c.in_err-source.ensures.count

pub returns-clause-ready : goal.returns-clause-ready
returns-clause-ready g c =
    build_ready (g.F.Folder.files c.args.folder.now) (build_names_of c.args.names.now) _ _ _ _ c.in_ok-source.source.items c.as_slice.result.now c.build.result
    c.in_ok-source.ensures.steady c.in_ok-source.ensures.asked c.in_ok-source.ensures.read c.as_slice.ensures.value c.build.ensures.built

pub returns-clause-refused : goal.returns-clause-refused
returns-clause-refused g c =
    build_stopped (g.F.Folder.files c.args.folder.now) (build_names_of c.args.names.now) _ _ _ _ c.in_ok-source.source.items c.as_slice.result.now c.build.result
    c.in_ok-source.ensures.steady c.in_ok-source.ensures.asked c.in_ok-source.ensures.read c.as_slice.ensures.value c.build.ensures.refused
