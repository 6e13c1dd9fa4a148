use Rattle.std.proofs.Common.{◌≡◌, ◌++◌, drop}
use Rattle.c_printer.specs.PrintedTokens.{items_kinds}
use Rattle.c_printer.specs.PrintedParts.{spaced_tokens}
use Rattle.c_printer.proofs.printing.Printer.items.Given as goal

abbrev pub invariant-loop-item : goal.invariant-loop-item
invariant-loop-item l =
    l.self.text.items ++ spaced_tokens (items_kinds (drop l.item-index l.items))
    ≡ l.initial.self.text.items ++ spaced_tokens (items_kinds l.items)
