use Rattle.std.proofs.Common.{subst, sym, ap, refl, ◌∙◌}
use Rattle.std.specs.Prelude.{codes}
use Rattle.c_grammar.proofs.Worked.{hi_kinds, hi_program, hi}
use Rattle.c_printer.specs.ProgramPrinting.{IsPrintable}
use Rattle.c_printer.proofs.tests.prints_a_program.Goals as goal

hi_is_printable : IsPrintable (hi_program (codes "main"))
hi_is_printable = record { tokens = hi_kinds (codes "main"); in_form = refl; reads = hi (codes "main") }

pub print_program-requires : goal.print_program-requires
print_program-requires g c = subst IsPrintable (sym (c.in_ok-program.ensures ∙ ap hi_program c.new.ensures)) hi_is_printable
