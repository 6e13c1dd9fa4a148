-- What is read of a text can be printed.
use Rattle.c_token.specs.PlainText.{kinds_of}
use Rattle.c_token.proofs.TokenForms.{are_in_form}
use Rattle.c_printer.specs.ProgramPrinting.{ReadIsPrintable}

pub read_is_printable : ReadIsPrintable
read_is_printable text program has = record { tokens = kinds_of has.tokens; in_form = are_in_form text has.tokens has.lexed; reads = has.read }
