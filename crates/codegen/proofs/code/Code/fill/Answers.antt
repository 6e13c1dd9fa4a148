use Rattle.std.proofs.Common.{◌+◌, ◌++◌, ◌∷◌, ◌∙◌, [], List, Option, Some, ap, append_assoc, map, sym}
use Rattle.orbis_word.specs.declared.Instr.{Instr}
use Rattle.orbis_word.specs.declared.Instr.TheVariants.{Movhi}
use Rattle.codegen.specs.OpInstructions.{fill}
use Rattle.codegen.proofs.CodeSizes.{fill-more}
use Rattle.codegen.proofs.code.Code.fill.Goals as goal

pub loop-i-preserved : goal.loop-i-preserved
loop-i-preserved c =
    let last : List (Option Instr) = Some (Movhi (c.args.d + c.loop-i.i) (c.args.part + c.loop-i.i)) ∷ [] in
    c.in_ok-push.ensures
    ∙ ap (λ (front : List (Option Instr)). front ++ last) c.loop-i.invariant
    ∙ append_assoc c.args.self.now (map Some (fill c.args.d c.args.part c.loop-i.i [])) last
    ∙ ap (λ (back : List (Option Instr)). c.args.self.now ++ back) (sym (fill-more c.args.d c.args.part c.loop-i.i))
