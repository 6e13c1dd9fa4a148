use Rattle.std.proofs.Common.{◌≡◌, ◌∙◌, inl, Bool, ap, refl, subst}
use Rattle.regions.specs.declared.Class.{Class}
use Rattle.regions.specs.LooseClasses.{shared_and_logged_loose, shared_loose}
use Rattle.ir_code.specs.declared.Ir.{Ir}
use Rattle.ir_code.specs.Lawful.{IsLawful}
use Rattle.orbis_core.specs.Soundness.{IsSound}
use Rattle.region_plan.specs.PlanFaults.{plan_fault}
use Rattle.image_file.specs.declared.Image.{Image}
use Rattle.image_file.specs.ImageTable.{static_bytes}
use Rattle.codegen.specs.ImageCode.{code_blocks}
use Rattle.codegen.specs.EmittedImage.{IsImageOf, MeansCode}
use Rattle.compiler.specs.CompilerTheorem.{IsCompiled}
use Rattle.compiler.specs.MemoryUse.{source_fault}
use Rattle.compiler.proofs.Compiled.{IsEmitted, IsSplit, if-ok, is-compiled}
use Rattle.compiler.proofs.Measured.{same-fault}
use Rattle.compiler.proofs.compiling.compile.Goals as goal

pub emit-requires : goal.emit-requires
emit-requires c = (c.in_ok-ir.ensures.lawful shared_loose refl refl).form

pub returns-clause-compiled : goal.returns-clause-compiled
returns-clause-compiled c =
    let split : IsSplit c.args.p.now c.in_ok-ir.ir = record {
      forward = c.in_ok-ir.ensures.forward;
      backward = c.in_ok-ir.ensures.backward;
      weight = c.in_ok-ir.ensures.weight;
      size = c.in_ok-ir.ensures.size;
      lawful = c.in_ok-ir.ensures.lawful;
      cells = c.in_ok-ir.ensures.cells;
    } in
    if-ok (IsImageOf c.in_ok-ir.ir) (λ (image : Image). (loose : Class → Bool) → IsLawful loose c.in_ok-ir.ir → MeansCode loose c.in_ok-ir.ir image)
    (λ (image : Image). IsLawful shared_and_logged_loose c.in_ok-ir.ir → IsSound image.layout (static_bytes image) image.entry) (λ (image : Image). IsCompiled c.args.p.now image) c.emit.result
    (λ image is means sound. let emitted : IsEmitted c.in_ok-ir.ir image = record { image = is; meaning = means; sound = sound } in
    is-compiled c.args.p.now image (subst (λ (ir : Ir). IsSplit c.args.p.now ir) c.in_ok-ir.ensures.code split) (subst (λ (ir : Ir). IsEmitted ir image) c.in_ok-ir.ensures.code emitted))
    c.emit.ensures.image c.emit.ensures.meaning c.emit.ensures.sound

pub returns-clause-full : goal.returns-clause-full
returns-clause-full c = λ fault h.
    let same : plan_fault c.in_ok-ir.ir.cells (code_blocks c.in_ok-ir.ir) ≡ source_fault c.args.p.now =
    ap (λ (ir : Ir). plan_fault ir.cells (code_blocks ir)) c.in_ok-ir.ensures.code ∙ same-fault c.args.p.now in
    inl (c.emit.ensures.full fault (same ∙ h))

pub returns-clause-fits : goal.returns-clause-fits
returns-clause-fits c = λ h.
    let same : plan_fault c.in_ok-ir.ir.cells (code_blocks c.in_ok-ir.ir) ≡ source_fault c.args.p.now =
    ap (λ (ir : Ir). plan_fault ir.cells (code_blocks ir)) c.in_ok-ir.ensures.code ∙ same-fault c.args.p.now in
    c.emit.ensures.fits (same ∙ h)
