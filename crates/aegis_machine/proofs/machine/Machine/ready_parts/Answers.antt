use Rattle.std.proofs.Common.{Some, ap, option_map, ◌≡◌, ◌∙◌, sym}
use Rattle.aegis_num.specs.declared.Key.{Key}
use Rattle.secure_memory.specs.declared.Parts.{Parts}
use Rattle.aegis_machine.proofs.SecureRuns.{err-then, ok-then, over-entering, parked-layout, ready-entered}
use Rattle.aegis_machine.proofs.machine.Machine.ready_parts.Goals as goal

pub returns-then-self-clause-layout : goal.returns-then-self-clause-layout
returns-then-self-clause-layout g c =
    let fits = c.requires.fits in
    parked-layout g.L.Lines.lines c.args.image.now fits.0 fits.1 _ fits.2 c.in-Some.parts c.args.self.now (sym c.take.ensures.value ∙ c.in-Some.is) c.if-self.true fits.3

pub returns-clause-ready : goal.returns-clause-ready
returns-clause-ready g c =
    ok-then c.enter_program.result _ _
    (λ parts enters input veil handed_out bytes fits.
    ready-entered g.L.Lines.lines c.args.image.now _ _ c.in-Some.parts parts c.args.self.now (sym c.take.ensures.value ∙ c.in-Some.is) c.if-self.false enters input veil handed_out bytes fits)
    c.enter_program.ensures.enters

pub returns-clause-over : goal.returns-clause-over
returns-clause-over g c =
    err-then c.enter_program.result _ _
    (λ end over input veil handed_out fits. over-entering g.L.Lines.lines c.args.image.now _ _ end c.args.self.now c.if-self.false over input veil handed_out fits)
    c.enter_program.ensures.over

pub returns-then-self-clause-key : goal.returns-then-self-clause-key
returns-then-self-clause-key g c =
    let e : c.args.self.now.parts ≡ Some c.in-Some.parts = sym c.take.ensures.value ∙ c.in-Some.is in ap (λ parts. option_map (λ (p : Parts g.row.L.Denot). p.log.key) parts) e

pub returns-clause-key : goal.returns-clause-key
returns-clause-key g c =
    let e : c.args.self.now.parts ≡ Some c.in-Some.parts = sym c.take.ensures.value ∙ c.in-Some.is in
    ok-then c.enter_program.result _ _
    (λ parts enters. ap (λ parts. option_map (λ (p : Parts g.row.L.Denot). p.log.key) parts) e ∙ ap (λ (key : Key). Some key) (sym enters.key))
    c.enter_program.ensures.enters
