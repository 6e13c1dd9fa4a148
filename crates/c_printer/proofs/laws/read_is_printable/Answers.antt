use Rattle.c_printer.proofs.Printable.{read_is_printable}
use Rattle.c_printer.proofs.laws.read_is_printable.Goals as goal

pub returns : goal.returns
returns c = record { printable = read_is_printable }
