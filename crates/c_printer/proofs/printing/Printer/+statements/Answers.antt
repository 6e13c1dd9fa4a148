use Rattle.c_printer.proofs.ForTexts.{for_text}
use Rattle.std.proofs.lemmas.Result.{on_ok_weaker}
use Rattle.c_printer.proofs.printing.Printer.+statements.Goals as goal

pub statement-returns-in_ok-head_end-in-For : goal.statement-returns-in_ok-head_end-in-For
statement-returns-in_ok-head_end-in-For t c =
    on_ok_weaker c.statement-in-For.result
    (for_text c.args.self.now.text.items c.head_begin.new.self.text.items c.head_end.new.self.text.items c.statement-in-For.new.self.text.items c.args.stmt.now c.in-For.first c.in-For.test c.in-For.step c.in-For.body c.get-in-For.result.now c.in-For.token c.in-For.is
    c.in_ok-head_begin-in-For.ensures c.in_ok-head_end-in-For.ensures c.get-in-For.ensures) c.statement-in-For.ensures
