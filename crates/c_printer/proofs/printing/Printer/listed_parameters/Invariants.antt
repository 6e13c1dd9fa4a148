use Rattle.std.proofs.Common.{◌≡◌, ◌++◌, drop}
use Rattle.std.specs.Prelude.{map}
use Rattle.c_printer.specs.PrintedTokens.{parameter_kinds, with_commas}
use Rattle.c_printer.specs.PrintedParts.{spaced_tokens, parts_from}
use Rattle.c_printer.proofs.printing.Printer.listed_parameters.Given as goal

abbrev pub invariant-loop-i : goal.invariant-loop-i
invariant-loop-i l =
    l.self.text.items ++ spaced_tokens (parts_from l.i (map parameter_kinds (drop l.i l.parameters)))
    ≡ l.initial.self.text.items ++ spaced_tokens (with_commas (map parameter_kinds l.parameters))
