use Rattle.std.proofs.Common.{◌≡◌, ◌+◌, ◌++◌, ◌∷◌, ◌∙◌, [], List, Option, Some, ap, append_assoc, map, subst}
use Rattle.std.specs.Prelude.{OnOk}
use Rattle.orbis_word.specs.declared.Instr.{Instr}
use Rattle.orbis_word.specs.declared.Instr.TheVariants.{J}
use Rattle.codegen.specs.OpInstructions.{distance, fill, start_code}
use Rattle.codegen.proofs.code.Code.start.Goals as goal

pub returns : goal.returns
returns c =
    let old : List (Option Instr) = c.args.self.now in
    let verified : List (Option Instr) = map Some (fill 16 0x1000 7 []) in
    let logged : List (Option Instr) = map Some (fill 23 0x2000 2 []) in
    let shared : List (Option Instr) = map Some (fill 25 1 1 []) in
    let jump : List (Option Instr) = Some (J (distance (c.args.number + 10) c.args.entry)) ∷ [] in
    let filled : c.fill-3.new.self ≡ ((old ++ verified) ++ logged) ++ shared =
    c.in_ok-fill-3.ensures
    ∙ ap (λ (front : List (Option Instr)). front ++ shared) (c.in_ok-fill-2.ensures ∙ ap (λ (front : List (Option Instr)). front ++ logged) c.in_ok-fill.ensures) in
    let whole : c.fill-3.new.self ++ jump ≡ old ++ map Some (start_code c.args.number c.args.entry) =
    ap (λ (front : List (Option Instr)). front ++ jump) filled
    ∙ append_assoc ((old ++ verified) ++ logged) shared jump
    ∙ append_assoc (old ++ verified) logged (shared ++ jump)
    ∙ append_assoc old verified (logged ++ (shared ++ jump)) in
    subst (λ (all : List (Option Instr)). OnOk c.jump.result (c.jump.new.self ≡ all)) whole c.jump.ensures
