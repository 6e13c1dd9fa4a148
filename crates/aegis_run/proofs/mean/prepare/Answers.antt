use Rattle.std.proofs.Common.{[], ◌∷◌, refl}
use Rattle.aegis_words.specs.declared.file.File.TheVariants.{Source, Input}
use Rattle.aegis_words.specs.CommandTable as asks
use Rattle.aegis_words.specs.KeptWords.{mean_names_of}
use Rattle.aegis_run.proofs.CommandLemmas.{carried, carried_source, mean_refused, mean_source_read, mean_input_read}
use Rattle.aegis_run.proofs.ReadingLemmas.{begun, open_stopped, text_stopped}
use Rattle.aegis_run.proofs.mean.prepare.Goals as goal

pub returns-in_err-source-clause-refused : goal.returns-in_err-source-clause-refused
returns-in_err-source-clause-refused g c =
    open_stopped (g.F.Folder.files c.args.folder.now) _ (asks.Mean (mean_names_of c.args.names.now)) (record { file = Source; name = c.args.names.now.source.now }) _ _ _ _ _ _ []
    c.from_residual.result c.in_err-source.field-0.0 c.from_residual.ensures.1 (begun _ _ _ (g.F.Folder.asked c.args.folder.now)) refl c.in_err-source.ensures.asked
    refl c.in_err-source.ensures.refused c.in_err-source.ensures.count

pub returns-in_err-program-clause-refused : goal.returns-in_err-program-clause-refused
returns-in_err-program-clause-refused g c =
    text_stopped (g.F.Folder.files c.args.folder.now) (asks.Mean (mean_names_of c.args.names.now)) (record { file = Source; name = c.args.names.now.source.now }) _ _ _ _ _ _ []
    c.from_residual-in_err-program.result c.in_err-program.field-0.0 c.from_residual-in_err-program.ensures.1 (begun _ _ _ (g.F.Folder.asked c.args.folder.now)) refl c.in_ok-source.ensures.asked
    (mean_refused _ _ _ c.in_ok-source.source.items _ _ c.in_err-program.field-0.0 c.in_ok-source.ensures.read
    (carried c.in_ok-source.source.items c.as_slice.result.now c.in_err-program.field-0.0 c.as_slice.ensures.value c.in_err-program.ensures.refused))
    c.in_ok-source.ensures.steady

pub returns-in_err-input-clause-refused : goal.returns-in_err-input-clause-refused
returns-in_err-input-clause-refused g c =
    open_stopped (g.F.Folder.files c.args.folder.now) _ (asks.Mean (mean_names_of c.args.names.now)) (record { file = Input; name = c.args.names.now.input.now }) _ _ _ _ _ _
    (c.in_ok-source.source.items ∷ []) c.from_residual-in_err-input.result c.in_err-input.field-0.0 c.from_residual-in_err-input.ensures.1
    (mean_source_read _ (mean_names_of c.args.names.now) _ _ _ _ c.in_ok-source.source.items c.as_slice.result.now c.in_ok-program.program
    c.in_ok-source.ensures.steady c.in_ok-source.ensures.asked c.in_ok-source.ensures.read c.as_slice.ensures.value c.in_ok-program.ensures.source)
    refl c.in_err-input.ensures.asked c.in_ok-source.ensures.kept c.in_err-input.ensures.refused c.in_err-input.ensures.count

pub returns-clause-ready : goal.returns-clause-ready
returns-clause-ready g c = record {
  source = c.in_ok-source.source.items;
  read = mean_input_read (g.F.Folder.files c.args.folder.now) _ (mean_names_of c.args.names.now) _ _ _ _ _ _ c.in_ok-source.source.items c.in_ok-input.input.items
      (mean_source_read _ (mean_names_of c.args.names.now) _ _ _ _ c.in_ok-source.source.items c.as_slice.result.now c.in_ok-program.program
      c.in_ok-source.ensures.steady c.in_ok-source.ensures.asked c.in_ok-source.ensures.read c.as_slice.ensures.value c.in_ok-program.ensures.source)
      c.in_ok-input.ensures.steady c.in_ok-input.ensures.asked c.in_ok-source.ensures.kept c.in_ok-input.ensures.read;
  is_source = carried_source c.in_ok-source.source.items c.as_slice.result.now c.in_ok-program.program c.as_slice.ensures.value c.in_ok-program.ensures.source;
}
