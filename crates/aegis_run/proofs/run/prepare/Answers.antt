use Rattle.std.proofs.Common.{◌≡◌, [], ◌∷◌, refl, ◌∙◌, ap, length, arith}
use Rattle.std.proofs.lemmas.Bool.Decides.{nat_tests}
use Rattle.std.proofs.lemmas.List.{nil_from_length}
use Rattle.std.proofs.lemmas.Grind.{common_steps}
use Rattle.aegis_words.specs.declared.file.File.TheVariants.{Source, Script, Input}
use Rattle.aegis_words.specs.CommandTable as asks
use Rattle.aegis_words.specs.KeptWords.{names_of}
use Rattle.aegis_run.specs.declared.ends.TopEnd.TheVariants.{NotYet}
use Rattle.aegis_run.proofs.CommandLemmas.{built_here, refused_source}
use Rattle.aegis_run.proofs.RunLemmas.{run_source_read, run_script_read, run_input_read, script_stops}
use Rattle.aegis_run.proofs.ReadingLemmas.{begun, open_stopped, stopped, text_stopped}
use Rattle.aegis_run.proofs.run.prepare.Goals as goal

pub returns-in_err-source-clause-refused : goal.returns-in_err-source-clause-refused
returns-in_err-source-clause-refused g c =
    open_stopped (g.F.Folder.files c.args.folder.now) _ (asks.Run (names_of c.args.names.now)) (record { file = Source; name = c.args.names.now.source.now }) _ _ _ _ _ _ []
    c.from_residual.result c.in_err-source.field-0.0 c.from_residual.ensures.1 (begun _ _ _ (g.F.Folder.asked c.args.folder.now)) refl c.in_err-source.ensures.asked
    refl c.in_err-source.ensures.refused c.in_err-source.ensures.count

pub returns-in_err-image-clause-refused : goal.returns-in_err-image-clause-refused
returns-in_err-image-clause-refused g c =
    text_stopped (g.F.Folder.files c.args.folder.now) (asks.Run (names_of c.args.names.now)) (record { file = Source; name = c.args.names.now.source.now }) _ _ _ _ _ _ []
    c.from_residual-in_err-image.result c.in_err-image.field-0.0 c.from_residual-in_err-image.ensures.1 (begun _ _ _ (g.F.Folder.asked c.args.folder.now)) refl c.in_ok-source.ensures.asked
    (refused_source _ (asks.Run (names_of c.args.names.now)) _ c.in_ok-source.source.items c.as_slice.result.now _ _ c.in_err-image.field-0.0 (λ end fault. fault) c.in_ok-source.ensures.read
    c.as_slice.ensures.value c.in_err-image.ensures.refused)
    c.in_ok-source.ensures.steady

pub returns-in_err-script-clause-refused : goal.returns-in_err-script-clause-refused
returns-in_err-script-clause-refused g c =
    open_stopped (g.F.Folder.files c.args.folder.now) _ (asks.Run (names_of c.args.names.now)) (record { file = Script; name = c.args.names.now.script.now }) _ _ _ _ _ _
    (c.in_ok-source.source.items ∷ []) c.from_residual-in_err-script.result c.in_err-script.field-0.0 c.from_residual-in_err-script.ensures.1
    (run_source_read _ (names_of c.args.names.now) _ _ _ _ c.in_ok-source.source.items c.as_slice.result.now c.in_ok-image.image
    c.in_ok-source.ensures.steady c.in_ok-source.ensures.asked c.in_ok-source.ensures.read c.as_slice.ensures.value c.in_ok-image.ensures.built)
    refl c.in_err-script.ensures.asked c.in_ok-source.ensures.kept c.in_err-script.ensures.refused c.in_err-script.ensures.count

pub returns-then-not-is_empty-clause-refused : goal.returns-then-not-is_empty-clause-refused
returns-then-not-is_empty-clause-refused g c =
    stopped (g.F.Folder.files c.args.folder.now) (asks.Run (names_of c.args.names.now)) (record { file = Script; name = c.args.names.now.script.now }) _ _ _ _ _ _
    (c.in_ok-source.source.items ∷ []) (NotYet Script)
    (run_source_read _ (names_of c.args.names.now) _ _ _ _ c.in_ok-source.source.items c.as_slice.result.now c.in_ok-image.image
    c.in_ok-source.ensures.steady c.in_ok-source.ensures.asked c.in_ok-source.ensures.read c.as_slice.ensures.value c.in_ok-image.ensures.built)
    refl c.in_ok-script.ensures.asked
    (script_stops _ _ (names_of c.args.names.now) (g.F.Folder.faults c.open.new.folder) (g.F.Folder.faults c.open-2.new.folder) c.in_ok-script.script.items c.in_ok-source.ensures.kept c.in_ok-script.ensures.read
    (λ (none : c.in_ok-script.script.items ≡ []). let len : length c.in_ok-script.script.items ≡ 0 = ap length none in absurd (grind (arith, common_steps, nat_tests))))
    (λ other. c.in_ok-script.ensures.steady)

pub returns-in_err-input-clause-refused : goal.returns-in_err-input-clause-refused
returns-in_err-input-clause-refused g c =
    let len : length c.in_ok-script.script.items ≡ 0 = grind (arith, common_steps, nat_tests) in
    open_stopped (g.F.Folder.files c.args.folder.now) _ (asks.Run (names_of c.args.names.now)) (record { file = Input; name = c.args.names.now.input.now }) _ _ _ _ _ _
    ([] ∷ c.in_ok-source.source.items ∷ []) c.from_residual-in_err-input.result c.in_err-input.field-0.0 c.from_residual-in_err-input.ensures.1
    (run_script_read _ _ (names_of c.args.names.now) _ _ _ _ _ _ c.in_ok-source.source.items c.in_ok-script.script.items
    (run_source_read _ (names_of c.args.names.now) _ _ _ _ c.in_ok-source.source.items c.as_slice.result.now c.in_ok-image.image
    c.in_ok-source.ensures.steady c.in_ok-source.ensures.asked c.in_ok-source.ensures.read c.as_slice.ensures.value c.in_ok-image.ensures.built)
    c.in_ok-script.ensures.steady c.in_ok-script.ensures.asked c.in_ok-source.ensures.kept c.in_ok-script.ensures.read (nil_from_length c.in_ok-script.script.items len))
    refl c.in_err-input.ensures.asked (c.in_ok-script.ensures.kept ∙ c.in_ok-source.ensures.kept) c.in_err-input.ensures.refused c.in_err-input.ensures.count

pub returns-clause-ready : goal.returns-clause-ready
returns-clause-ready g c =
    let len : length c.in_ok-script.script.items ≡ 0 = grind (arith, common_steps, nat_tests) in
    record {
      source = c.in_ok-source.source.items;
      read = run_input_read (g.F.Folder.files c.args.folder.now) _ (names_of c.args.names.now) _ _ _ _ _ _ c.in_ok-source.source.items c.in_ok-input.input.items
          (run_script_read _ _ (names_of c.args.names.now) _ _ _ _ _ _ c.in_ok-source.source.items c.in_ok-script.script.items
          (run_source_read _ (names_of c.args.names.now) _ _ _ _ c.in_ok-source.source.items c.as_slice.result.now c.in_ok-image.image
          c.in_ok-source.ensures.steady c.in_ok-source.ensures.asked c.in_ok-source.ensures.read c.as_slice.ensures.value c.in_ok-image.ensures.built)
          c.in_ok-script.ensures.steady c.in_ok-script.ensures.asked c.in_ok-source.ensures.kept c.in_ok-script.ensures.read (nil_from_length c.in_ok-script.script.items len))
          c.in_ok-input.ensures.steady c.in_ok-input.ensures.asked (c.in_ok-script.ensures.kept ∙ c.in_ok-source.ensures.kept) c.in_ok-input.ensures.read;
      built = built_here c.in_ok-source.source.items c.as_slice.result.now c.in_ok-image.image c.as_slice.ensures.value c.in_ok-image.ensures.built;
    }
