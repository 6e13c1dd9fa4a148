use Rattle.std.proofs.Common.{◌≡◌, ◌-◌, ◌++◌, length, take, sym, ap, subst, ◌∙◌, arith}
use Rattle.std.specs.Vec.{vec_len}
use Rattle.c_printer.specs.PrintedTokens.{items_kinds, program_kinds}
use Rattle.c_printer.specs.PrintedParts.{spaced_tokens}
use Rattle.c_printer.specs.ProgramPrinting.{program_text, ReadsBack}
use Rattle.c_printer.proofs.PlainEnds.{without_last}
use Rattle.c_printer.proofs.ReadsBack.{reads_back}
use Rattle.c_printer.proofs.printing.print_program.Goals as goal

pub returns : goal.returns
returns c =
    let kinds = program_kinds c.args.p.now in
    let v = c.items.new.self.text in
    let text : v.items ≡ spaced_tokens kinds = c.in_ok-items.ensures ∙ ap (λ text. text ++ spaced_tokens (items_kinds c.as_slice.result.now)) c.new.ensures.items ∙ ap (λ items. spaced_tokens (items_kinds items)) c.as_slice.ensures in
    let len : vec_len v - 1 ≡ length (spaced_tokens kinds) - 1 = omega (arith, v.ok.0, ap length text) in
    let whole : c.pop.new.self.items ≡ program_text c.args.p.now = c.pop.ensures.rest ∙ ap (λ n. take n v.items) len ∙ ap (take (length (spaced_tokens kinds) - 1)) text ∙ without_last kinds in
    record { text = whole; reads_back = subst (ReadsBack c.args.p.now) (sym whole) (reads_back c.args.p.now c.requires) }
