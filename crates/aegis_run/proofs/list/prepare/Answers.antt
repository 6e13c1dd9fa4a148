use Rattle.std.proofs.Common.{[], refl}
use Rattle.aegis_words.specs.declared.file.File.TheVariants.{Image}
use Rattle.aegis_words.specs.CommandTable as asks
use Rattle.aegis_words.specs.KeptWords.{list_names_of}
use Rattle.aegis_run.proofs.ListLemmas.{list_ready, list_stopped}
use Rattle.aegis_run.proofs.ReadingLemmas.{begun, open_stopped}
use Rattle.aegis_run.proofs.list.prepare.Goals as goal

pub returns-in_err-text-clause-refused : goal.returns-in_err-text-clause-refused
returns-in_err-text-clause-refused g c =
    open_stopped (g.F.Folder.files c.args.folder.now) _ (asks.Listing (list_names_of c.args.names.now)) (record { file = Image; name = c.args.names.now.image.now }) _ _ _ _ _ _ []
    c.from_residual.result c.in_err-text.field-0.0 c.from_residual.ensures.1 (begun _ _ _ (g.F.Folder.asked c.args.folder.now)) refl c.in_err-text.ensures.asked
    refl c.in_err-text.ensures.refused c.in_err-text.ensures.count

pub returns-clause-ready : goal.returns-clause-ready
returns-clause-ready g c =
    list_ready (g.F.Folder.files c.args.folder.now) (list_names_of c.args.names.now) _ _ _ _ c.in_ok-text.text.items c.as_slice.result.now c.image_in.result
    c.in_ok-text.ensures.steady c.in_ok-text.ensures.asked c.in_ok-text.ensures.read c.as_slice.ensures.value c.image_in.ensures.read

pub returns-clause-refused : goal.returns-clause-refused
returns-clause-refused g c =
    list_stopped (g.F.Folder.files c.args.folder.now) (list_names_of c.args.names.now) _ _ _ _ c.in_ok-text.text.items c.as_slice.result.now c.image_in.result
    c.in_ok-text.ensures.steady c.in_ok-text.ensures.asked c.in_ok-text.ensures.read c.as_slice.ensures.value c.image_in.ensures.refused
