use Rattle.std.proofs.Common.{◌≡◌, ◌∙◌, ap, sym, subst}
use Rattle.c_resolver.specs.Resolving.{plain_program}
use Rattle.ir_code.specs.declared.code.Ir.{Ir}
use Rattle.ir_code.specs.Lawful.{IsLawful}
use Rattle.lowering.specs.Lowering.{lowered}
use Rattle.secure_split.specs.SplitLaws.{InEach, GoesForward, GoesBackward, IsWithinWork, IsSmallCode, GuardsPrivate, HasSourceCells}
use Rattle.secure_split.proofs.Promises.{goes-forward, goes-backward, within-work, small-code, is-lawful, guards-private, has-cells}
use Rattle.secure_split.proofs.program.split.Goals as goal

pub returns : goal.returns
returns c =
    let p = c.args.p.now in
    let read = c.program.ensures.read in
    let typed = c.program.ensures.typed in
    let same : c.in_ok-ir.ir ≡ lowered (plain_program p) = c.in_ok-ir.ensures ∙ ap lowered (c.in_ok-program.ensures ∙ ap plain_program c.program.ensures.program) in
    record {
      code = same;
      forward = subst (λ (ir : Ir). InEach (GoesForward p ir)) (sym same) (goes-forward p read typed);
      backward = subst (λ (ir : Ir). InEach (GoesBackward p ir)) (sym same) (goes-backward p read typed);
      weight = subst (λ (ir : Ir). InEach (IsWithinWork p ir)) (sym same) (within-work p read typed);
      size = subst (λ (ir : Ir). IsSmallCode p ir) (sym same) (small-code p read typed);
      lawful = subst (λ (ir : Ir). InEach (λ is_loose. IsLawful is_loose ir)) (sym same) (is-lawful p read typed);
      private = subst (λ (ir : Ir). GuardsPrivate ir) (sym same) (guards-private p read typed);
      cells = subst (λ (ir : Ir). HasSourceCells p ir) (sym same) (has-cells p read typed);
    }
